-- The events of a plan lie inside their nodes.
use Rattle.std.proofs.Common.{◌≡◌, ℕ, zero, suc, ◌+◌, ◌-◌, ◌*◌, ◌<◌, Bool, true, false, ◌||◌, ◌&&◌, nat_eq, List, []}
use Rattle.std.proofs.Common.{◌∷◌, length, get_or, refl, ap, ◌∙◌, subst, arith, inr, ⊎_elim}
use Rattle.std.specs.List.{All}
use Rattle.std.proofs.lemmas.Bool.Decides.{nat_tests}
use Rattle.sq_num.specs.Elements.{width}
use Rattle.sq_rect.specs.declared.view.View.{View}
use Rattle.sq_leaf.specs.declared.shape.Shape.{Shape}
use Rattle.sq_ir.specs.Unordered.{AllEvents}
use Rattle.sq_ir.specs.Events as events
use Rattle.sq_ir.specs.Events.{Event, Copy, Fill, Accumulate, Leaf, Leaves, places, in_row, is_among, in_view, in_views}
use Rattle.sq_ir.specs.Written.{Setting}
use Rattle.sq_ir.proofs.Exec.{all-map}
use Rattle.sq_ir.proofs.Local.{numbers-in_row}
use Rattle.sq_placed.specs.Placed.{Placed}
use Rattle.sq_cells.specs.Machine.{Node}
use Rattle.sq_cells.specs.Work.{Work}
use Rattle.sq_cells.specs.Correct.{IsEntry}
use Rattle.sq_cells.specs.Cells.{Spot}
use Rattle.sq_cells.specs.Tree as cells
use Rattle.sq_cells.specs.Tree.{Cause, Target, Puts, Adds, Takes}
use Rattle.sq_cells.specs.Lowered as lowered
use Rattle.sq_cells.specs.Lowered.{own, IsIn, Scratch, Needs, Sets}
use Rattle.sq_cells.proofs.Parts.{tree_puts, tree_adds, tree_takes, gathers_at}
use Rattle.sq_cells.specs.Alike.{cell_of, IsOf}
use Rattle.sq_plan_laws.specs.OnBytes.{work}
use Rattle.sq_plan_laws.specs.PlacedEntry.{entry_arrays}
use Rattle.sq_plan_laws.proofs.PlacedEntry.{is_entry}
use Rattle.sq_plan_laws.specs.Seated.{at_node}
use Rattle.sq_plan_laws.specs.LeafLaws.{codes_of}
use Rattle.sq_plan_laws.specs.Entry.{form_at, plan_tree, IsPlan}
use Rattle.sq_plan_laws.specs.Room.{IsInside, IsRoomy, HasRoom, PlansInside}
use Rattle.sq_plan_laws.proofs.Entry.{low_tree, plan_like}

-- a row of which each byte lies below the capacity
row_inside : (capacity : ℕ → ℕ) (x : events.Spot) (bytes : ℕ) → 0 < bytes
    → ((a : events.Spot) → in_row x.node x.at bytes a ≡ true → a.at < capacity a.node) → IsInside capacity x bytes
row_inside capacity x bytes some h =
    let b : events.Spot = record { node = x.node; at = x.at + (bytes - 1) } in
    let lt : b.at < capacity x.node
    = h b (numbers-in_row x.node x.at bytes b refl (omega arith) (omega (arith, some))) in
    omega (arith, lt, some)

-- places of views
among_at : (ps : List ℕ) (k d : ℕ) → k < length ps → is_among ps (get_or ps k d) ≡ true
among_at [] k d lt = absurd (omega arith)
among_at (p ∷ ps) zero d lt = let f : nat_eq p p ≡ true = grind (arith, nat_tests) in ap (λ b. b || is_among ps p) f
among_at (p ∷ ps) (suc k) d lt = right (nat_eq (get_or ps k d) p) (is_among ps (get_or ps k d))
    (among_at ps k d (omega arith))
  where
    right : (a b : Bool) → b ≡ true → (a || b) ≡ true
    right true b h = refl
    right false b h = h

views_inside : (capacity : ℕ → ℕ) (node : ℕ) (vs : List View)
    → ((a : events.Spot) → in_views node vs a ≡ true → a.at < capacity a.node)
    → All (λ v. All (λ k. k < capacity node) (places v)) vs
views_inside capacity node [] h n d lt = absurd (omega arith)
views_inside capacity node (v ∷ vs) h zero d lt = λ k e l.
    let f : nat_eq node node ≡ true = grind (arith, nat_tests) in
    h (record { node = node; at = get_or (places v) k e })
    (ap (λ b. (b && is_among (places v) (get_or (places v) k e))
    || in_views node vs (record { node = node; at = get_or (places v) k e })) f
    ∙ ap (λ b. b || in_views node vs (record { node = node; at = get_or (places v) k e }))
    (among_at (places v) k e l))
views_inside capacity node (v ∷ vs) h (suc n) d lt
    = views_inside capacity node vs (λ a i. h a (right (in_view node v a) (in_views node vs a) i)) n d (omega arith)
  where
    right : (a b : Bool) → b ≡ true → (a || b) ≡ true
    right true b h = refl
    right false b h = h

module _ (s : Setting) (leaves : Leaves Cause) (outer : List Shape) (buffers : List ℕ) (may : ℕ → Bool) (p : Placed)
    (plan : IsPlan s leaves outer buffers may p) (capacity : ℕ → ℕ) (room : HasRoom s leaves outer buffers p capacity)
  where
    abbrev root : Node
    root = at_node s 0

    abbrev low : cells.Tree
    low = low_tree s leaves outer buffers may p plan

    abbrev w : Work
    w = work (codes_of leaves) s.offset p outer

    abbrev at : lowered.Layout
    at = own (at_node s 0) (form_at s buffers)

    entry : IsEntry (at_node s 0) (form_at s buffers) (length outer) (entry_arrays outer)
        (work (codes_of leaves) s.offset p outer)
    entry = is_entry (codes_of leaves) s.offset (at_node s 0) (form_at s buffers) outer may p plan.ready

    its_cell : (l x : Spot) → IsIn (length outer) (entry_arrays outer) l × (at l ≡ x) → x.index < capacity x.area
    its_cell l x h = subst (λ (y : Spot). y.index < capacity y.area) h.1 (room.entry l h.0)

    puts_below : (x : Spot) → Puts low x → x.index < capacity x.area
    puts_below x h = ⊎_elim (λ m. its_cell m.0 x (entry.inside at m.0 x (inr m.1))) (λ m. room.inner x m)
        (tree_puts w root 0 at [] x entry.sound h)

    takes_below : (x : Spot) → Takes low x → x.index < capacity x.area
    takes_below x h = ⊎_elim (λ m. its_cell m.0 x (entry.inside at m.0 x m.1)) (λ m. room.inner x m)
        (tree_takes w root 0 at [] x entry.sound h)

    adds_below : (o : Target) (x : Spot) → Adds low o x → x.index < capacity x.area
    adds_below o x h = ⊎_elim (λ g. let y = gathers_at w root 0 at o x g in absurd (entry.closed at y.0 x y.1))
        (λ m. ⊎_elim (λ n. its_cell n.0 x (entry.inside at n.0 x (inr n.1))) (λ n. room.inner x n) m)
        (tree_adds w root 0 at [] o x entry.sound h)

    roomy : (e : Event) → IsOf leaves low e → IsRoomy capacity e
    roomy (Copy from to bytes) h = λ some. (
      row_inside capacity from bytes some (λ a i. takes_below (cell_of a) (h.1 a i)),
      row_inside capacity to bytes some
          (λ a i. puts_below (cell_of a) (h.0 a i)),
    )
    roomy (Fill to elem count v) h = λ some. row_inside capacity to (count * width elem) some
        (λ a i. puts_below (cell_of a) (h a i))
    roomy (Accumulate op elem from to count) h
        = λ some. (
          row_inside capacity from (count * width elem) some (λ a i. takes_below (cell_of a) (h.1 a i)),
          row_inside capacity to (count * width elem) some (λ a i. adds_below _ (cell_of a) (h.0 a i)),
        )
    roomy (Leaf node code vs path) h = views_inside capacity node vs (λ a i. takes_below (cell_of a) (h.1 a i))

    inside : AllEvents (IsRoomy capacity) (plan_tree s p outer buffers)
    inside = all-map (IsOf leaves low) (IsRoomy capacity) (plan_tree s p outer buffers) roomy
        (plan_like s leaves outer buffers may p plan).events

pub plans_inside : PlansInside
plans_inside s leaves outer buffers may p plan capacity room = inside s leaves outer buffers may p plan capacity room
