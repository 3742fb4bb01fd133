-- The placed source as a work on bytes.
use Rattle.std.specs.Prelude.{ℕ, zero, suc, Bool, true, false, List, [], ◌∷◌, length, get_or, slice_get, Option, Some}
use Rattle.std.specs.Prelude.{None, if◌then◌else◌}
use Rattle.sq_num.specs.declared.RedOp.{RedOp}
use Rattle.sq_text.specs.declared.place.Place as text
use Rattle.sq_text.specs.declared.spread.SpreadRule.{SpreadRule}
use Rattle.sq_leaf.specs.declared.shape.Shape.{Shape}
use Rattle.sq_leaf.specs.Leaf.{Leaf as LeafSource, written_of}
use Rattle.sq_work.specs.declared.reduction.Reduction.{Reduction}
use Rattle.sq_placed.specs.Placed as placed
use Rattle.sq_placed.specs.Placed.{Placed, PlacedArg, PlacedCall}
use Rattle.sq_cells.specs.Machine.{Op, Rule}
use Rattle.sq_cells.specs.Cells.{spot}
use Rattle.sq_cells.specs.Tree.{Code}
use Rattle.sq_cells.specs.Work.{Work, Nothing, Then, Each, AtOnce, Call, Hold, Reduce, Piped, Leaf}
use Rattle.sq_plan_laws.specs.Codes.{bytes_in}
use Rattle.sq_plan_laws.specs.Calling.{arrays_of, shapes_of, form_of, first_buffer, second_buffer}

-- ---- leaves

abbrev pub size_in : Option Shape → ℕ
size_in None = 0
size_in (Some sh) = bytes_in sh

-- the code of each number, on the bytes of arrays of these shapes
abbrev pub Codings : Type 0
Codings = (number : ℕ) → List Shape → Code

abbrev pub leaf_work : Codings → (number : ℕ) → LeafSource → List Shape → Work
leaf_work codes number leaf shapes
    = Leaf (codes number shapes) (length shapes) (λ i. size_in (slice_get shapes i))
    (λ i. get_or (written_of leaf.variant) i false)

-- ---- calls

-- the one call that the body of a `mapreduce` is, with its callee's work
pub record OneCall : Type 0 where
  pub called : PlacedCall
  pub body : Work

-- a part of a form: whether it is nothing, the call if it is one call, and its work
pub record Share : Type 0 where
  pub nothing : Bool
  pub call : Option OneCall
  pub work : Work

abbrev pub call_or_none : Option OneCall → OneCall
call_or_none None = record { called = record { form = 0; lower = false; args = []; locals = [] }; body = Nothing }
call_or_none (Some c) = c

abbrev pub arity_of : PlacedCall → ℕ
arity_of c = length (shapes_of c)

abbrev pub call_work : (offset : ℕ → ℕ) → (outer : List Shape) → PlacedCall → Work → Work
call_work offset outer c w = Call (form_of offset first_buffer c) c.lower (arity_of c) (arrays_of outer c) w

abbrev pub which_by : Option RedOp → ℕ → ℕ
which_by None k = suc k
which_by (Some op) k = 0

-- the position of the argument that is reduced into
abbrev pub which_of : List PlacedArg → ℕ
which_of [] = 0
which_of (p ∷ ps) = which_by p.gathers (which_of ps)

abbrev pub op_of : Reduction → Op
op_of r = record { red = r.op; elem = r.elem }

-- a `mapreduce` of no iteration is nothing
abbrev pub reduce_work : (offset : ℕ → ℕ) → (outer : List Shape) → Reduction → Option Rule → ℕ → (ℕ → OneCall) → Work
reduce_work offset outer r spread zero calls = Nothing
reduce_work offset outer r spread (suc n) calls =
    Reduce (op_of r) (size_in (slice_get outer r.array)) (spot r.array) (which_of (calls 0).called.args) spread (suc n)
    (λ t. form_of offset first_buffer (calls t).called) (calls 0).called.lower
    (λ t. arity_of (calls t).called) (λ t. arrays_of outer (calls t).called) (λ t. (calls t).body)

abbrev pub rule_of : Option (text.Place × SpreadRule) → Option Rule
rule_of None = None
rule_of (Some p) = Some p.1

abbrev pub held_call : List PlacedArg → PlacedCall
held_call args = record { form = 0; lower = true; args = args; locals = [] }

-- ---- the work

-- offset: of a buffer in its node; outer: the shapes of the form's arrays
abbrev pub share : (codes : Codings) (offset : ℕ → ℕ) → Placed → (outer : List Shape) → Share
share codes offset placed.Nothing outer = record { nothing = true; call = None; work = Nothing }
share codes offset (placed.Then a b) outer = record {
  nothing = false;
  call = if (share codes offset b outer).nothing then (share codes offset a outer).call else None;
  work = Then (share codes offset a outer).work (share codes offset b outer).work;
}
share codes offset (placed.Each n w) outer
    = record { nothing = false; call = None; work = Each n (λ t. (share codes offset (w t) outer).work) }
share codes offset (placed.AtOnce place spread n w) outer
    = record { nothing = false; call = None; work = AtOnce spread n (λ t. (share codes offset (w t) outer).work) }
share codes offset (placed.Gathers r place spread n w) outer
    = record {
      nothing = false;
      call = None;
      work
          = reduce_work offset outer r spread n (λ t. call_or_none (share codes offset (w t) outer).call);
    }
share codes offset (placed.Call c w) outer = record {
  nothing = false;
  call = Some (record { called = c; body = (share codes offset w (shapes_of c)).work });
  work = call_work offset outer c (share codes offset w (shapes_of c)).work;
}
share codes offset (placed.Hold args w) outer = record {
  nothing = false;
  call = None;
  work = Hold (form_of offset first_buffer (held_call args)) (length args) (arrays_of outer (held_call args))
      (share codes offset w outer).work;
}
share codes offset (placed.Piped spread n calls w) outer = record {
  nothing = false;
  call = None;
  work = Piped (rule_of spread) n (form_of offset first_buffer (calls 0)) (form_of offset second_buffer (calls 0))
      (arity_of (calls 0)) (λ t. arrays_of outer (calls t))
      (λ t. (share codes offset (w t) (shapes_of (calls t))).work);
}
share codes offset (placed.Leaf number leaf shapes) outer
    = record { nothing = false; call = None; work = leaf_work codes number leaf shapes }

abbrev pub work : (codes : Codings) (offset : ℕ → ℕ) → Placed → (outer : List Shape) → Work
work codes offset p outer = (share codes offset p outer).work
