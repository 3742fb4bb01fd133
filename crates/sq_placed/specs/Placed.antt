-- The source with every constant known and with the place of each array: the work of forms whose arguments and locals
-- have their homes, and whose maps are spread, are held round and overlap as was chosen.
use Rattle.std.specs.Prelude.{ℕ, Bool, List, map, Option, Some, None}
use Rattle.sq_num.specs.declared.RedOp.{RedOp}
use Rattle.sq_text.specs.declared.place.Place.{Place}
use Rattle.sq_text.specs.declared.spread.SpreadRule.{SpreadRule}
use Rattle.sq_ir.specs.Leaf.declared.shape.Shape.{Shape}
use Rattle.sq_ir.specs.Leaf.Leaf.{Leaf as LeafSource, leaf_value}
use Rattle.sq_ir.specs.Blocks.declared.argument.Argument.{Argument}
use Rattle.sq_spec.specs.Work.declared.reduction.Reduction.{Reduction}
use Rattle.sq_spec.specs.Work.Work as work
use Rattle.sq_spec.specs.Work.Work.{Work}
use Rattle.sq_placed.specs.declared.home.Home.{Home}

-- A parameter at one call: the argument, by which operator its array is reduced into if it is, and the shape and the
-- home of the parameter.
pub record PlacedArg : Type 0 where
  pub argument : Argument
  pub gathers : Option RedOp
  pub shape : Shape
  pub home : Home

-- a local of a form
pub record PlacedLocal : Type 0 where
  pub shape : Shape
  pub buffer : ℕ

-- a call: the form that it reaches, whether that stands at the next level, and the form's arrays
pub record PlacedCall : Type 0 where
  pub form : ℕ
  pub lower : Bool
  pub args : List PlacedArg
  pub locals : List PlacedLocal

pub data Placed : Type 0 where
  Nothing : Placed
  Then : Placed → Placed → Placed
  -- a `mapseq`
  Each : (count : ℕ) → (ℕ → Placed) → Placed
  -- a `mappar` and a `mapreduce`, and the rule if it is spread
  AtOnce : Place → (spread : Option SpreadRule) → (count : ℕ) → (ℕ → Placed) → Placed
  Gathers : Reduction → Place → (spread : Option SpreadRule) → (count : ℕ) → (ℕ → Placed) → Placed
  Call : PlacedCall → Placed → Placed
  -- a loop that these arguments leave; each is the same in all iterations
  Hold : List PlacedArg → Placed → Placed
  -- a loop whose transfers overlap: a `mapseq`, or a spread `mappar` with its place and rule, whose body is one lower
  -- call
  Piped : (spread : Option (Place × SpreadRule)) → (count : ℕ) → (ℕ → PlacedCall) → (ℕ → Placed) → Placed
  -- the number of the code, the leaf, and the shapes of its arrays
  Leaf : (code : ℕ) → LeafSource → List Shape → Placed

-- ---- what it means: the work, without any choice

abbrev pub arguments : List PlacedArg → List Argument
arguments args = map (λ p. p.argument) args

abbrev pub plain_call : PlacedCall → Work → Work
plain_call c w = work.Call c.form c.lower (arguments c.args) w

abbrev pub plain_loop : Option (Place × SpreadRule) → ℕ → (ℕ → Work) → Work
plain_loop None count w = work.Each count w
plain_loop (Some p) count w = work.AtOnce p.0 count w

abbrev pub plain : Placed → Work
plain Nothing = work.Nothing
plain (Then a b) = work.Then (plain a) (plain b)
plain (Each count w) = work.Each count (λ t. plain (w t))
plain (AtOnce place spread count w) = work.AtOnce place count (λ t. plain (w t))
plain (Gathers r place spread count w) = work.Gathers r place count (λ t. plain (w t))
plain (Call c w) = plain_call c (plain w)
plain (Hold args w) = plain w
plain (Piped spread count calls w) =
    plain_loop spread count (λ t. work.Then (plain_call (calls t) (plain (w t))) work.Nothing)
plain (Leaf code leaf shapes) = work.Leaf (leaf_value leaf shapes)
