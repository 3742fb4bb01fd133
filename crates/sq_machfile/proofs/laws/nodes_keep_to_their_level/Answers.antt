use Rattle.sq_machfile.proofs.Hierarchies.{within}
use Rattle.sq_machfile.proofs.laws.nodes_keep_to_their_level.Goals as goal

pub returns : goal.returns
returns c = λ m i n w. within m w i n
