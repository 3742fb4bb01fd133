-- An array of two `int`s, of which each is handed to a leaf at a child of its own: the plan meets all that is asked.
use Rattle.std.proofs.Common.{suc, [], ◌∷◌, map, refl, sym, subst}
use Rattle.std.specs.Prelude.{Some}
use Rattle.sq_text.specs.declared.place.Place.{Place}
use Rattle.sq_text.specs.declared.spread.SpreadRule.TheVariants.{Cyclic}
use Rattle.sq_leaf.specs.declared.shape.Shape.{Shape}
use Rattle.sq_ir.specs.Events.{Leaves, Finishes}
use Rattle.sq_ir.specs.Written.{Setting}
use Rattle.sq_cells.specs.Tree.{Cause}
use Rattle.sq_plan_laws.specs.LeafLaws.{event_shape}
use Rattle.sq_plan_laws.proofs.ExampleReady.{ints, only, idle, codes, root, zeros, all}
use Rattle.sq_plan_laws.proofs.ExampleReady.{example, ready}
use Rattle.sq_plan_laws.specs.Seated.{HasDims}
use Rattle.sq_plan_laws.specs.Entry.{IsPlan}
use Rattle.sq_plan_laws.proofs.ExampleSits.{sits}
use Rattle.sq_plan_laws.proofs.ExampleSits as by_rule

-- a root with two children, and each buffer at its first byte
setting : Setting
setting = record {
  children = λ n. 2;
  child = λ n c. suc c;
  capacity = λ n. 8;
  buffers = 2;
  level = λ b. b;
  size = λ b. 8;
  offset = zeros;
}

-- one leaf, which writes nothing
leaves : Leaves Cause
leaves = record {
  shapes = λ code. Some (map event_shape (ints 1 ∷ []));
  written = λ code. [];
  ends = λ code xs. Finishes [];
}

is_plan : (place : Place) → IsPlan setting leaves (ints 2 ∷ []) (0 ∷ []) all (example place idle)
unfolding setting leaves example by_rule.example codes root zeros idle ints
is_plan place = record {
  many = refl;
  dims = λ n sh e. subst (λ (x : Shape). HasDims x.extents) (sym (only (ints 2) n sh e).1) tt;
  sits = sits leaves idle refl refl place Cyclic;
  ready = ready place;
}
