-- Whether an action stands in a term: a term without one is written out to nothing, however often its loops go round.
use Rattle.std.specs.Prelude.{Bool, true, false, ◌||◌, List, [], ◌∷◌}
use Rattle.sq_ir.specs.declared.term.Term.{Term}
use Rattle.sq_ir.specs.declared.term.Term.TheOpen.{Term-F}
use Rattle.sq_ir.specs.declared.term.Term.TheFolds.{fold-Term}

abbrev pub any : List Bool → Bool
any [] = false
any (x ∷ xs) = x || any xs

abbrev pub acts_step : Term-F Bool → Bool
acts_step Term-F.Skip = false
acts_step (Term-F.Act a) = true
acts_step (Term-F.Seq xs) = any xs
acts_step (Term-F.Par xs) = any xs
acts_step (Term-F.Loop n x) = x
acts_step (Term-F.Spread n rule x) = x
acts_step (Term-F.Case pick xs) = any xs
acts_step (Term-F.Within child buffers x) = x

abbrev pub acts : Term → Bool
acts = fold-Term Bool acts_step
