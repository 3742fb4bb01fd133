-- An array of two `int`s, of which each is handed to a leaf at a child of its own, by either rule: it sits, its seats
-- are there, and so its tree is like that of its work.
use Rattle.std.proofs.Common.{◌≡◌, ℕ, zero, suc, ◌+◌, ◌-◌, ◌<◌, ◌≤◌, Bool, true, false, [], ◌∷◌, map}
use Rattle.std.proofs.Common.{refl, sym, ap, subst, arith}
use Rattle.std.specs.Prelude.{Some}
use Rattle.std.specs.List.{All}
use Rattle.sq_text.specs.declared.place.Place.{Place}
use Rattle.sq_text.specs.declared.spread.SpreadRule.{SpreadRule}
use Rattle.sq_leaf.specs.declared.shape.Shape.{Shape}
use Rattle.sq_leaf.specs.Leaf.{Leaf as LeafSource, written_of}
use Rattle.sq_ir.specs.Events.{Leaves}
use Rattle.sq_ir.specs.Written.{Setting}
use Rattle.sq_placed.specs.declared.home.Home.{Home}
use Rattle.sq_placed.specs.declared.home.Home.TheVariants.{InPlace, Own}
use Rattle.sq_placed.specs.Placed.{Placed, PlacedArg, Nothing, Then, AtOnce, Call, Leaf}
use Rattle.sq_placed.specs.Trees.{tree}
use Rattle.sq_cells.specs.Tree.{Cause}
use Rattle.sq_cells.specs.Lowered as lowered
use Rattle.sq_cells.specs.Lowered.{own}
use Rattle.sq_cells.specs.Alike.{IsLike}
use Rattle.sq_plan_laws.specs.Calling.{PassedFits}
use Rattle.sq_plan_laws.specs.OnBytes.{work}
use Rattle.sq_plan_laws.proofs.ExampleReady.{ints, part, whole_call, one_call, only}
use Rattle.sq_plan_laws.specs.Seated.{HasDims, CallSits, IsOwned, IsNear, Sits, at_node}
use Rattle.sq_plan_laws.specs.LeafLaws.{event_shape, codes_of}
use Rattle.sq_plan_laws.specs.Entry.{seats_at, form_at}
use Rattle.sq_plan_laws.proofs.Entry.{entry_seated, entry_here}
use Rattle.sq_plan_laws.proofs.Whole.{like}

unfoldable pub example : Place → SpreadRule → LeafSource → Placed
example place rule leaf = Call whole_call
    (AtOnce place (Some rule) 2 (λ t. Then (Call (one_call t) (Leaf 0 leaf (ints 1 ∷ []))) Nothing))

part_fits : (from to n : ℕ) (home : Home) → from < to → to ≤ 2 → to - from ≡ n
    → PassedFits (ints 2 ∷ []) (part from to n home)
unfolding part ints
part_fits from to n home lt le e
    = record { of = ints 2; there = refl; fits = (lt, le, tt); elem = refl; extents = ap (λ m. m ∷ []) (sym e) }

call_sits : (form from to n : ℕ) (lower : Bool) (home : Home) → from < to → to ≤ 2 → to - from ≡ n → IsNear lower home
    → CallSits (ints 2 ∷ []) (record { form = form; lower = lower; args = part from to n home ∷ []; locals = [] })
unfolding part
call_sits form from to n lower home lt le e near = record {
  args = record {
    each = λ k p f. subst (PassedFits (ints 2 ∷ [])) (sym (only (part from to n home) k p f).1)
        (part_fits from to n home lt le e);
  };
  owned = λ k p f. subst (λ (q : PlacedArg). IsOwned q.gathers q.home) (sym (only (part from to n home) k p f).1) tt;
  near = λ k p f. subst (λ (q : PlacedArg). IsNear lower q.home) (sym (only (part from to n home) k p f).1) near;
  locals = λ k l f. cc;
}

module _ (leaves : Leaves Cause) (leaf : LeafSource) (written : leaves.written 0 ≡ written_of leaf.variant)
    (there : leaves.shapes 0 ≡ Some (map event_shape (ints 1 ∷ []))) where
  pub sits : (place : Place) (rule : SpreadRule) → Sits leaves (example place rule leaf) (ints 2 ∷ [])
  unfolding example whole_call one_call part ints
  sits place rule = (
    call_sits 0 0 2 2 false InPlace (omega arith) (omega arith) refl refl,
    λ t lt. (
      (
        call_sits 1 t (t + 1) 1 true (Own 1) (omega arith) (omega (arith, lt)) (omega arith) tt,
        record {
          same = refl;
          written = written;
          there = there;
          some = λ n sh e. subst (λ (x : Shape). All (λ k. 0 < k) x.extents) (sym (only (ints 1) n sh e).1) one;
        },
      ),
      tt,
    ),
  )
    where
      one : All (λ k. 0 < k) (1 ∷ [])
      one zero d lt = omega arith
      one (suc k) d lt = absurd (omega arith)

  -- on any machine, with any offsets
  example_like : (s : Setting) (place : Place) (rule : SpreadRule)
      → IsLike leaves (tree s (example place rule leaf) 0 0 (seats_at s (ints 2 ∷ []) (0 ∷ [])) [])
      (lowered.tree (work (codes_of leaves) s.offset (example place rule leaf) (ints 2 ∷ [])) (at_node s 0) 0
      (own (at_node s 0) (form_at s (0 ∷ []))) [])
  unfolding ints
  example_like s place rule =
      like s leaves (example place rule leaf) 0 0 (ints 2 ∷ []) (seats_at s (ints 2 ∷ []) (0 ∷ []))
      (own (at_node s 0) (form_at s (0 ∷ []))) [] (sits place rule)
      (entry_seated s (ints 2 ∷ []) (0 ∷ []) refl
      (λ n sh e. subst (λ (x : Shape). HasDims x.extents) (sym (only (ints 2) n sh e).1) tt))
      (entry_here s (ints 2 ∷ []) (0 ∷ []))
