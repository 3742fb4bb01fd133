-- Events of trees over cells that are apart are independent.
use Rattle.std.proofs.Common.{◌≡◌, ℕ, ◌+◌, ◌-◌, ◌*◌, ◌<◌, ◌≤◌, Bool, true, false, ◌||◌, List, refl, sym, ap, ◌∙◌, subst}
use Rattle.std.proofs.Common.{arith, ◌⊎◌, inl, inr, ⊎_elim, nat_eq, nat_lt}
use Rattle.std.proofs.lemmas.Bool.Decides.{nat_tests}
use Rattle.std.proofs.Math.Nat.{mod-le}
use Rattle.sq_num.specs.declared.Elem.{Elem}
use Rattle.sq_num.specs.declared.RedOp.{RedOp}
use Rattle.sq_num.specs.Elements.{width}
use Rattle.sq_ir.specs.Footprints.{Apart}
use Rattle.sq_ir.specs.Events as events
use Rattle.sq_ir.specs.Events.{Event, Copy, Fill, Accumulate, Leaf, Leaves, in_row, place_in, in_views, written_views}
use Rattle.sq_ir.specs.Events.{reads, writes, footprint, ShareElements, ShareNothing, AreTogether, PathsDiffer}
use Rattle.sq_ir.specs.Events.{AreIndependent}
use Rattle.sq_ir.proofs.Local.{in_row-numbers, numbers-in_row}
use Rattle.sq_ir.proofs.Together.{not_true}
use Rattle.sq_cells.specs.Tree as cells
use Rattle.sq_cells.specs.Tree.{Cause, Target, Puts, Adds, Takes, IsApart}
use Rattle.sq_cells.specs.Leaves.{HasLeaf}
use Rattle.sq_cells.specs.Alike.{cell_of, IsOf}

-- an event that accumulates nothing
abbrev IsPlain : Event → Type 0
IsPlain (Copy from to bytes) = Unit {0}
IsPlain (Fill to elem count v) = Unit {0}
IsPlain (Accumulate op elem from to count) = ⊥
IsPlain (Leaf node code vs path) = Unit {0}

or_cases : (a b : Bool) → (a || b) ≡ true → (a ≡ true) ⊎ (b ≡ true)
or_cases true b h = inl refl
or_cases false b h = inr h

module _ (leaves : Leaves Cause) where
  plain_puts : (n : cells.Tree) (e : Event) → IsPlain e → IsOf leaves n e → (a : events.Spot) → writes leaves e a ≡ true
      → Puts n (cell_of a)
  plain_puts n (Copy from to bytes) p h a w = h.0 a w
  plain_puts n (Fill to elem count v) p h a w = h a w
  plain_puts n (Accumulate op elem from to count) p h a w = absurd p
  plain_puts n (Leaf node code vs path) p h a w = h.0 a w

  plain_takes : (n : cells.Tree) (e : Event) → IsPlain e → IsOf leaves n e → (a : events.Spot) → reads e a ≡ true
      → Takes n (cell_of a)
  plain_takes n (Copy from to bytes) p h a w = h.1 a w
  plain_takes n (Fill to elem count v) p h a w = cc
  plain_takes n (Accumulate op elem from to count) p h a w = absurd p
  plain_takes n (Leaf node code vs path) p h a w = h.1 a w

  -- what an event writes is put or added to, and what it reads is taken or added to
  any_writes : (n : cells.Tree) (e : Event) → IsOf leaves n e → (a : events.Spot) → writes leaves e a ≡ true
      → Puts n (cell_of a) ⊎ ((o : Target) × Adds n o (cell_of a))
  any_writes n (Copy from to bytes) h a w = inl (h.0 a w)
  any_writes n (Fill to elem count v) h a w = inl (h a w)
  any_writes n (Accumulate op elem from to count) h a w = inr (_, h.0 a w)
  any_writes n (Leaf node code vs path) h a w = inl (h.0 a w)

  any_reads : (n : cells.Tree) (e : Event) → IsOf leaves n e → (a : events.Spot) → reads e a ≡ true
      → Takes n (cell_of a) ⊎ ((o : Target) × Adds n o (cell_of a))
  any_reads n (Copy from to bytes) h a w = inl (h.1 a w)
  any_reads n (Fill to elem count v) h a w = cc
  any_reads n (Accumulate op elem from to count) h a w =
      ⊎_elim (λ x. inl (h.1 a x)) (λ x. inr (_, h.0 a x))
      (or_cases (in_row from.node from.at (count * width elem) a) (in_row to.node to.at (count * width elem) a) w)
  any_reads n (Leaf node code vs path) h a w = inl (h.1 a w)

  -- the first accumulates nothing
  plain_apart : (c d : cells.Tree) (e g : Event) → IsApart c d → IsPlain e → IsOf leaves c e → IsOf leaves d g
      → Apart (footprint leaves) e g
  plain_apart c d e g x p h k = record {
    first_read = λ a w. not_true (reads g a)
        (λ r. ⊎_elim (λ y. x.puts_takes _ (plain_puts c e p h a w) y)
        (λ y. x.puts_adds y.0 _ (plain_puts c e p h a w) y.1) (any_reads d g k a r));
    second_read = λ a w. not_true (reads e a)
        (λ r. ⊎_elim (λ y. x.takes_puts _ (plain_takes c e p h a r) y)
        (λ y. x.takes_adds y.0 _ (plain_takes c e p h a r) y.1) (any_writes d g k a w));
    written = λ a w. not_true (writes leaves g a)
        (λ r. ⊎_elim (λ y. x.puts_puts _ (plain_puts c e p h a w) y)
        (λ y. x.puts_adds y.0 _ (plain_puts c e p h a w) y.1) (any_writes d g k a r));
  }

  -- the second one
  apart_plain : (c d : cells.Tree) (e g : Event) → IsApart c d → IsPlain g → IsOf leaves c e → IsOf leaves d g
      → Apart (footprint leaves) e g
  apart_plain c d e g x p h k = record {
    first_read = λ a w. not_true (reads g a)
        (λ r. ⊎_elim (λ y. x.puts_takes _ y (plain_takes d g p k a r))
        (λ y. x.adds_takes y.0 _ y.1 (plain_takes d g p k a r)) (any_writes c e h a w));
    second_read = λ a w. not_true (reads e a)
        (λ r. ⊎_elim (λ y. x.takes_puts _ y (plain_puts d g p k a w))
        (λ y. x.adds_puts y.0 _ y.1 (plain_puts d g p k a w)) (any_reads c e h a r));
    written = λ a w. not_true (writes leaves g a)
        (λ r. ⊎_elim (λ y. x.puts_puts _ y (plain_puts d g p k a r))
        (λ y. x.adds_puts y.0 _ y.1 (plain_puts d g p k a r)) (any_writes c e h a w));
  }

-- two rows share a byte, or none
rows_meet : (node at len node' at' len' : ℕ)
    → ((a : events.Spot) × (in_row node at len a ≡ true) × (in_row node' at' len' a ≡ true))
    ⊎ ShareNothing node at len node' at' len'
rows_meet node at len node' at' len'
    = by (nat_eq node node') (nat_lt at (at' + len')) (nat_lt at' (at + len)) (nat_lt 0 len) (nat_lt 0 len') refl refl
    refl refl refl
  where
    Two : Type 0
    Two = ((a : events.Spot) × (in_row node at len a ≡ true) × (in_row node' at' len' a ≡ true))
        ⊎ ShareNothing node at len node' at' len'

    none : ((a : events.Spot) → in_row node at len a ≡ true → in_row node' at' len' a ≡ true → ⊥) → Two
    none h = inr (λ a x. not_true (in_row node' at' len' a) (λ y. h a x y))

    by : (u v w x y : Bool) → nat_eq node node' ≡ u → nat_lt at (at' + len') ≡ v → nat_lt at' (at + len) ≡ w
        → nat_lt 0 len ≡ x → nat_lt 0 len' ≡ y → Two
    by false v w x y e f g h k = none
        (λ a i j. let p = in_row-numbers node at len a i in let q = in_row-numbers node' at' len' a j in let z : node
        ≡ node' = sym p.same ∙ q.same in grind (arith, nat_tests))
    by true false w x y e f g h k = none
        (λ a i j. let p = in_row-numbers node at len a i in let q = in_row-numbers node' at' len' a j in let lo
        = p.from in let hi = q.below in grind (arith, nat_tests))
    by true true false x y e f g h k
        = none (λ a i j. let p = in_row-numbers node at len a i in let q = in_row-numbers node' at' len' a j in let lo
        = q.from in let hi = p.below in grind (arith, nat_tests))
    by true true true false y e f g h k
        = none (λ a i j. let p = in_row-numbers node at len a i in let lo = p.from in let hi
        = p.below in grind (arith, nat_tests))
    by true true true true false e f g h k
        = none (λ a i j. let p = in_row-numbers node' at' len' a j in let lo = p.from in let hi
        = p.below in grind (arith, nat_tests))
    by true true true true true e f g h k = inl (first (nat_lt at at') refl)
      where
        same : node ≡ node'
        same = grind (arith, nat_tests)

        below : at < at' + len'
        below = grind (arith, nat_tests)

        below' : at' < at + len
        below' = grind (arith, nat_tests)

        some : 0 < len
        some = grind (arith, nat_tests)

        some' : 0 < len'
        some' = grind (arith, nat_tests)

        first : (b : Bool) → nat_lt at at' ≡ b → (a : events.Spot) × (in_row node at len a ≡ true)
            × (in_row node' at' len' a ≡ true)
        first true z =
            let lt : at < at' = grind (arith, nat_tests) in (
              record { node = node; at = at' },
              numbers-in_row node at len (record { node = node; at = at' }) refl
                  (omega (arith, lt)) below',
              numbers-in_row node' at' len' (record { node = node; at = at' }) same
                  (omega arith) (omega (arith, some')),
            )
        first false z =
            let le : at' ≤ at = grind (arith, nat_tests) in (
              record { node = node; at = at },
              numbers-in_row node at len (record { node = node; at = at }) refl
                  (omega arith) (omega (arith, some)),
              numbers-in_row node' at' len' (record { node = node; at = at }) same le
                  below,
            )

-- by one operator
module _ (leaves : Leaves Cause) (c d : cells.Tree) (x : IsApart c d) where
  whole : (op : RedOp) (elem : Elem) (from to from' to' : events.Spot) (count count' : ℕ)
      → IsOf leaves c (Accumulate op elem from to count) → IsOf leaves d (Accumulate op elem from' to' count')
      → ShareElements elem to count to' count'
  whole op elem from to from' to' count count' h k a i j =
      let p = in_row-numbers to.node to.at (count * width elem) a i in
      let q = in_row-numbers to'.node to'.at (count' * width elem) a j in
      let e = x.adds_adds _ _ (cell_of a) (h.0 a i) (k.0 a j) in
      let z : a.at - place_in elem to.at a ≡ a.at - place_in elem to'.at a = ap (λ (t : Target). t.head.index) e in
      let l = mod-le (a.at - to.at) (width elem) in
      let l' = mod-le (a.at - to'.at) (width elem) in
      omega (arith, z, l, l', p.from, q.from)

  sources : (op : RedOp) (elem : Elem) (from to from' to' : events.Spot) (count count' : ℕ)
      → IsOf leaves c (Accumulate op elem from to count) → IsOf leaves d (Accumulate op elem from' to' count')
      → AreTogether (Accumulate op elem from to count) (Accumulate op elem from' to' count')
  sources op elem from to from' to' count count' h k = (
    refl,
    refl,
    whole op elem from to from' to' count count' h k,
    λ a i. not_true _ (λ j. x.adds_takes _ (cell_of a) (h.0 a i) (k.1 a j)),
    λ a i. not_true _ (λ j. x.takes_adds _ (cell_of a) (h.1 a j) (k.0 a i)),
  )

  adds_apart : (op op' : RedOp) (elem elem' : Elem) (from to from' to' : events.Spot) (count count' : ℕ)
      → IsOf leaves c (Accumulate op elem from to count) → IsOf leaves d (Accumulate op' elem' from' to' count')
      → Apart (footprint leaves) (Accumulate op elem from to count) (Accumulate op' elem' from' to' count')
      ⊎ AreTogether (Accumulate op elem from to count) (Accumulate op' elem' from' to' count')
  adds_apart op op' elem elem' from to from' to' count count' h k
      = ⊎_elim shared nothing (rows_meet to.node to.at (count * width elem) to'.node to'.at (count' * width elem'))
    where
      shared : (a : events.Spot) × (in_row to.node to.at (count * width elem) a ≡ true)
          × (in_row to'.node to'.at (count' * width elem') a ≡ true)
          → Apart (footprint leaves) (Accumulate op elem from to count) (Accumulate op' elem' from' to' count')
          ⊎ AreTogether (Accumulate op elem from to count) (Accumulate op' elem' from' to' count')
      shared m =
          let e = x.adds_adds _ _ (cell_of m.0) (h.0 m.0 m.1) (k.0 m.0 m.2) in
          let f : op ≡ op' = ap (λ (t : Target). t.op.red) e in
          let g : elem ≡ elem' = ap (λ (t : Target). t.op.elem) e in
          let k1 = subst (λ z. IsOf leaves d (Accumulate z elem' from' to' count')) (sym f) k in
          let k2 = subst (λ z. IsOf leaves d (Accumulate op z from' to' count')) (sym g) k1 in
          let t = sources op elem from to from' to' count count' h k2 in
          inr (f, g, t.2, t.3, t.4)

      nothing : ShareNothing to.node to.at (count * width elem) to'.node to'.at (count' * width elem')
          → Apart (footprint leaves) (Accumulate op elem from to count) (Accumulate op' elem' from' to' count')
          ⊎ AreTogether (Accumulate op elem from to count) (Accumulate op' elem' from' to' count')
      nothing n = inl (record {
        first_read = λ a w. not_true _
            (λ r. ⊎_elim (λ y. x.adds_takes _ (cell_of a) (h.0 a w) (k.1 a y)) (λ y. clash (n a w) y)
            (or_cases (in_row from'.node from'.at (count' * width elem') a)
            (in_row to'.node to'.at (count' * width elem') a) r));
        second_read = λ a w. not_true _
            (λ r. ⊎_elim (λ y. x.takes_adds _ (cell_of a) (h.1 a y) (k.0 a w)) (λ y. clash (n a y) w)
            (or_cases (in_row from.node from.at (count * width elem) a) (in_row to.node to.at (count * width elem) a)
            r));
        written = λ a w. n a w;
      })
        where
          clash : {b : Bool} → b ≡ false → b ≡ true → ⊥
          clash e f = let z = sym e ∙ f in cc

paths_differ : (leaves : Leaves Cause) (c d : cells.Tree) → ((path : List ℕ) → HasLeaf c path → HasLeaf d path → ⊥)
    → (e g : Event) → IsOf leaves c e → IsOf leaves d g → PathsDiffer e g
paths_differ leaves c d p (Copy from to bytes) g h k = tt
paths_differ leaves c d p (Fill to elem count v) g h k = tt
paths_differ leaves c d p (Accumulate op elem from to count) g h k = tt
paths_differ leaves c d p (Leaf node code vs path) (Copy from to bytes) h k = tt
paths_differ leaves c d p (Leaf node code vs path) (Fill to elem count v) h k = tt
paths_differ leaves c d p (Leaf node code vs path) (Accumulate op elem from to count) h k = tt
paths_differ leaves c d p (Leaf node code vs path) (Leaf node' code' vs' path') h k
    = λ e. p path h.2 (subst (HasLeaf d) (sym e) k.2)

pub apart_events : (leaves : Leaves Cause) (c d : cells.Tree) → IsApart c d
    → ((path : List ℕ) → HasLeaf c path → HasLeaf d path → ⊥) → (e g : Event) → IsOf leaves c e → IsOf leaves d g
    → AreIndependent leaves e g
apart_events leaves c d x p e g h k = record { apart = by e g h k; paths = paths_differ leaves c d p e g h k }
  where
    by : (e g : Event) → IsOf leaves c e → IsOf leaves d g → Apart (footprint leaves) e g ⊎ AreTogether e g
    by (Copy from to bytes) g h k = inl (plain_apart leaves c d (Copy from to bytes) g x tt h k)
    by (Fill to elem count v) g h k = inl (plain_apart leaves c d (Fill to elem count v) g x tt h k)
    by (Leaf node code vs path) g h k = inl (plain_apart leaves c d (Leaf node code vs path) g x tt h k)
    by (Accumulate op elem from to count) (Copy from' to' bytes) h k
        = inl (apart_plain leaves c d (Accumulate op elem from to count) (Copy from' to' bytes) x tt h k)
    by (Accumulate op elem from to count) (Fill to' elem' count' v) h k
        = inl (apart_plain leaves c d (Accumulate op elem from to count) (Fill to' elem' count' v) x tt h k)
    by (Accumulate op elem from to count) (Leaf node code vs path) h k
        = inl (apart_plain leaves c d (Accumulate op elem from to count) (Leaf node code vs path) x tt h k)
    by (Accumulate op elem from to count) (Accumulate op' elem' from' to' count') h k
        = adds_apart leaves c d x op op' elem elem' from to from' to' count count' h k
