-- The source with every constant known: a map is its count and the work of each iteration, a call has the work of its
-- callee.
use Rattle.std.specs.Prelude.{ℕ, Bool, List, Result}
use Rattle.sq_leaf.specs.Text.declared.place.Place.{Place}
use Rattle.sq_leaf.specs.declared.trap.Trap.{Trap}
use Rattle.sq_leaf.specs.Source.{Arrays}
use Rattle.sq_leaf.specs.Blocks.declared.argument.Argument.{Argument}
use Rattle.sq_work.specs.declared.reduction.Reduction.{Reduction}

pub data Work : Type 0 where
  Nothing : Work
  Then : Work → Work → Work
  -- a `mapseq`
  Each : (count : ℕ) → (ℕ → Work) → Work
  -- a `mappar`, with the place of its keyword
  AtOnce : Place → (count : ℕ) → (ℕ → Work) → Work
  -- a `mapreduce`
  Gathers : Reduction → Place → (count : ℕ) → (ℕ → Work) → Work
  -- a call: the number of the form that it reaches, whether that stands at the next level, the arguments, one for each
  -- parameter, and what the callee does
  Call : (form : ℕ) → (lower : Bool) → List Argument → Work → Work
  -- leaf code, which is all that its form does
  Leaf : (Arrays → Result Arrays Trap) → Work
