use Rattle.sq_machfile.proofs.Families.{next_above, together}
use Rattle.sq_machfile.proofs.Hierarchies.{roots, some}
use Rattle.sq_machfile.proofs.laws.levels_stand_one_behind_another.Goals as goal

pub returns : goal.returns
returns c = record {
  some = λ m k w. some m w k;
  root = roots;
  together = λ m i k n w. together m.nodes w.arranged i k n;
  next = λ m. next_above m.nodes;
}
