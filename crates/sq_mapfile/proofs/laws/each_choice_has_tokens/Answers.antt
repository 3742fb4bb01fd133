use Rattle.sq_mapfile.proofs.Written.{choice_has_tokens}
use Rattle.sq_mapfile.proofs.laws.each_choice_has_tokens.Goals as goal

pub returns : goal.returns
returns c = λ ts m is n text there. choice_has_tokens ts m is n text there
