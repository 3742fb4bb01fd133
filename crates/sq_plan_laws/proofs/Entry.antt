-- The plan at the entry.
use Rattle.std.proofs.Common.{◌≡◌, ℕ, zero, suc, ◌<◌, Bool, List, [], ◌∷◌, map, length, get_or, slice_get, Some, refl}
use Rattle.std.proofs.Common.{sym, ap, ◌∙◌, subst, arith}
use Rattle.std.specs.Prelude.{Ok, Err, is_none}
use Rattle.sq_leaf.specs.declared.shape.Shape.{Shape}
use Rattle.sq_leaf.specs.Source.{Arrays}
use Rattle.sq_work.specs.Meaning as source
use Rattle.sq_ir.specs.Runs.{exec}
use Rattle.sq_ir.specs.Events as events
use Rattle.sq_ir.specs.Events.{Leaves, Bytes, AreIndependent}
use Rattle.sq_ir.specs.Written.{Setting}
use Rattle.sq_placed.specs.Placed.{Placed, plain}
use Rattle.sq_placed.specs.Seats.{Seat, buffer_seat}
use Rattle.sq_placed.specs.Trees.{tree}
use Rattle.sq_cells.specs.Machine.{offset_of}
use Rattle.sq_cells.specs.Tree as cells
use Rattle.sq_cells.specs.Tree.{Cause, After, run}
use Rattle.sq_cells.specs.Lowered as lowered
use Rattle.sq_cells.specs.Lowered.{own}
use Rattle.sq_cells.specs.Fits.{ActsFit}
use Rattle.sq_cells.proofs.Fitting.{lowered_fit}
use Rattle.sq_cells.proofs.Paths.{leaf_paths_apart}
use Rattle.sq_cells.specs.Alike.{state_of, end_of, IsLike}
use Rattle.sq_cells.proofs.Combine.{like_scoped}
use Rattle.sq_cells.proofs.Numbered.{alike_safe}
use Rattle.sq_plan_laws.specs.Codes.{Codes, bytes_in}
use Rattle.sq_plan_laws.specs.OnBytes.{work}
use Rattle.sq_plan_laws.specs.PlacedEntry.{EndsAs, entry_arrays}
use Rattle.sq_plan_laws.proofs.PlacedEntry.{is_entry, placed_follows, placed_is_independent}
use Rattle.sq_plan_laws.specs.Seated.{HasDims, IsLined, shape_of, seat_cell, IsSeated, AreAt, at_node}
use Rattle.sq_plan_laws.specs.LeafLaws.{codes_of}
use Rattle.sq_plan_laws.specs.Entry.{seats_at, form_at, plan_tree, held_in, EndsSo, IsPlan, PlansFollow, PlansAreSafe}
use Rattle.sq_plan_laws.proofs.Geometry.{lined_buffer, buffer_cell}
use Rattle.sq_plan_laws.proofs.Whole.{like}

module _ (s : Setting) where
  entry_shapes : (outer : List Shape) (buffers : List ℕ) → length buffers ≡ length outer
      → map shape_of (seats_at s outer buffers) ≡ outer
  entry_shapes [] bs e = refl
  entry_shapes (x ∷ xs) [] e = absurd (omega (arith, e))
  entry_shapes (x ∷ xs) (b ∷ bs) e = ap (λ l. x ∷ l) (entry_shapes xs bs (omega (arith, e)))

  -- the seat of a number
  pub record SeatIs (outer : List Shape) (buffers : List ℕ) (n : ℕ) (q : Seat) : Type 0 where
    pub shape : Shape
    pub there : slice_get outer n ≡ Some shape
    pub is : q ≡ buffer_seat s 0 (get_or buffers n 0) shape

  seat_is : (outer : List Shape) (buffers : List ℕ) (n : ℕ) (q : Seat) → slice_get (seats_at s outer buffers) n ≡ Some q
      → SeatIs outer buffers n q
  seat_is [] bs n q e = cc
  seat_is (x ∷ xs) [] n q e = cc
  seat_is (x ∷ xs) (b ∷ bs) zero q e = let z : buffer_seat s 0 b x ≡ q
      = cc in record { shape = x; there = refl; is = sym z }
  seat_is (x ∷ xs) (b ∷ bs) (suc n) q e = let r
      = seat_is xs bs n q e in record { shape = r.shape; there = r.there; is = r.is }

  pub entry_seated : (outer : List Shape) (buffers : List ℕ) → length buffers ≡ length outer
      → ((n : ℕ) (sh : Shape) → slice_get outer n ≡ Some sh → HasDims sh.extents)
      → IsSeated outer (seats_at s outer buffers) (own (at_node s 0) (form_at s buffers))
  unfolding offset_of
  entry_seated outer buffers many dims = record {
    shapes = entry_shapes outer buffers many;
    lined = λ n q e. let i = seat_is outer buffers n q e in subst (λ (x : Seat). IsLined x.view.extents x.view.strides)
        (sym i.is) (lined_buffer i.shape.extents (dims n i.shape i.there));
    cells = λ n k q e lt.
        let i = seat_is outer buffers n q e in
        sym (buffer_cell s 0 (get_or buffers n 0) i.shape k (subst (λ x. k < bytes_in (shape_of x)) i.is lt))
        ∙ ap (λ x. seat_cell x k) (sym i.is);
  }

  pub entry_here : (outer : List Shape) (buffers : List ℕ) → AreAt 0 (seats_at s outer buffers)
  entry_here outer buffers n q e = let i = seat_is outer buffers n q e in ap (λ (x : Seat). x.node) i.is

module _ (s : Setting) (leaves : Leaves Cause) (outer : List Shape) (buffers : List ℕ) (may : ℕ → Bool) (p : Placed)
    (plan : IsPlan s leaves outer buffers may p) where
  abbrev pub low_tree : cells.Tree
  low_tree = lowered.tree (work (codes_of leaves) s.offset p outer) (at_node s 0) 0
      (own (at_node s 0) (form_at s buffers)) []

  pub plan_like : IsLike leaves (plan_tree s p outer buffers) low_tree
  plan_like = like_scoped leaves 0 buffers (tree s p 0 0 (seats_at s outer buffers) []) low_tree
      (like s leaves p 0 0 outer (seats_at s outer buffers) (own (at_node s 0) (form_at s buffers)) [] plan.sits
      (entry_seated s outer buffers plan.many plan.dims) (entry_here s outer buffers))

  plan_fits : ActsFit low_tree
  plan_fits = lowered_fit (at_node s 0) (form_at s buffers) (length outer) (entry_arrays outer)
      (work (codes_of leaves) s.offset p outer)
      (is_entry (codes_of leaves) s.offset (at_node s 0) (form_at s buffers) outer may p plan.ready)

  ends_so : (o : source.Outcome) (r : After) → EndsAs (at_node s 0) (form_at s buffers) outer o r
      → EndsSo s outer buffers o (end_of r)
  ends_so (Ok a) r h = (h.0, ap is_none h.0, h.1)
  ends_so (Err x) r h = h

  follows : (a : Arrays) (m : Bytes) → Codes outer a (held_in s buffers m)
      → EndsSo s outer buffers (source.meaning (plain p) a)
      (exec (events.meaning leaves) (plan_tree s p outer buffers) m)
  follows a m c =
      subst (EndsSo s outer buffers (source.meaning (plain p) a)) (sym (plan_like.does plan_fits m))
      (ends_so (source.meaning (plain p) a) (run low_tree (state_of m))
      (placed_follows (codes_of leaves) s.offset (at_node s 0) (form_at s buffers) outer may p plan.ready a (state_of m)
      c))

pub plans_follow : PlansFollow
plans_follow s leaves outer buffers may p plan a m c = follows s leaves outer buffers may p plan a m c

pub plans_are_safe : PlansAreSafe
plans_are_safe s leaves outer buffers may p plan =
    alike_safe leaves (plan_tree s p outer buffers) (low_tree s leaves outer buffers may p plan)
    (plan_like s leaves outer buffers may p plan) (plan_fits s leaves outer buffers may p plan)
    (placed_is_independent (codes_of leaves) s.offset (at_node s 0) (form_at s buffers) outer may p plan.ready)
    (leaf_paths_apart (work (codes_of leaves) s.offset p outer) (at_node s 0) 0 (own (at_node s 0) (form_at s buffers))
    [])
