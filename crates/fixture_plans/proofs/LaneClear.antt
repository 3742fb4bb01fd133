-- Iterations at two children are independent.
use Rattle.std.proofs.Common.{◌≡◌, ◌≢◌, ℕ, ◌+◌, ◌*◌, ◌≤◌, ◌<◌, Bool, true, false, ◌||◌, List, [], ◌∷◌, refl, sym, ap}
use Rattle.std.proofs.Common.{◌∙◌, subst, ◌⊎◌, inl, inr, arith}
use Rattle.std.specs.Prelude.{nat_eq, pos, get_or}
use Rattle.std.proofs.lemmas.Bool.Decides.{nat_tests}
use Rattle.sq_num.specs.declared.Elem.TheVariants.{Int}
use Rattle.sq_num.specs.declared.RedOp.TheVariants as op
use Rattle.sq_rect.specs.declared.view.View.{View}
use Rattle.sq_ir.specs.Tree.{Tree}
use Rattle.sq_ir.specs.Unordered.{EachUnordered, AllEvents}
use Rattle.sq_ir.specs.Events.{Spot, Event, Copy, Fill, Accumulate, Leaves, in_row, in_views, chosen, reads, writes}
use Rattle.sq_ir.specs.Events.{footprint, is_among, places, AreTogether, PathsDiffer, AreIndependent}
use Rattle.sq_ir.specs.Events as events
use Rattle.sq_ir.proofs.Places.{unordered-each}
use Rattle.sq_ir.proofs.Reordering.{independent-sym}
use Rattle.sq_ir.proofs.ExampleTrees.{spot}
use Rattle.fixture_plans.proofs.LaneTrees.{placed, start_at, down-event, call-event, fill-event, add-event, collect-event}
use Rattle.fixture_plans.proofs.LaneTrees.{up-event, lane-tree, tree}

-- ---- what an iteration touches

-- its child, and its int at the root, which begins at k
abbrev is_own : (node k : ℕ) → Spot → Bool
is_own node k a = in_row node 0 8 a || in_row 0 k 4 a

abbrev HasPath : (t : ℕ) → Event → Type 0
HasPath t (events.Leaf node code views path) = path ≡ t ∷ []
HasPath t e = Unit {0}

record IsOwn {C : Type 0} (leaves : Leaves C) (node k t : ℕ) (e : Event) : Type 0 where
  read : (a : Spot) → reads e a ≡ true → is_own node k a ≡ true
  written : (a : Spot) → writes leaves e a ≡ true → is_own node k a ≡ true
  path : HasPath t e

abbrev IsInLane : {C : Type 0} → Leaves C → (node k t : ℕ) → Event → Type 0
IsInLane leaves node k t e = IsOwn leaves node k t e ⊎ (collect-event node ≡ e)

in_first : (n k at len : ℕ) (a : Spot) → at + len ≤ 8 → in_row n at len a ≡ true → is_own n k a ≡ true
in_first n k at len a h r = grind (arith, nat_tests)

in_second : (n k : ℕ) (a : Spot) → in_row 0 k 4 a ≡ true → is_own n k a ≡ true
in_second n k a r = grind (arith, nat_tests)

either_row : (n k : ℕ) (x y : Bool) (a : Spot) → (x ≡ true → is_own n k a ≡ true) → (y ≡ true → is_own n k a ≡ true)
    → (x || y) ≡ true → is_own n k a ≡ true
either_row n k true y a f g h = f refl
either_row n k false y a f g h = g h

-- the four bytes of the view
in_view_row : (n : ℕ) (a : Spot) → in_views n (placed ∷ []) a ≡ true → in_row n 0 4 a ≡ true
in_view_row n a h = grind (arith, nat_tests)

chosen_one : (ws : List Bool) (n : ℕ) (v : View) (a : Spot) → in_views n (chosen ws (v ∷ [])) a ≡ true
    → in_views n (v ∷ []) a ≡ true
chosen_one [] n v a h = cc
chosen_one (true ∷ []) n v a h = h
chosen_one (true ∷ (w ∷ ws)) n v a h = h
chosen_one (false ∷ []) n v a h = cc
chosen_one (false ∷ (w ∷ ws)) n v a h = cc

no_read : (x : Bool) (P : Type 0) → x ≡ false → x ≡ true → P
no_read true P h g = cc
no_read false P h g = cc

module _ {C : Type 0} (leaves : Leaves C) (n k t : ℕ) where
  down-in : IsInLane leaves n k t (down-event n k)
  down-in = inl (record {
    read = λ a h. in_second n k a h;
    written = λ a h. in_first n k 0 4 a (omega arith) h;
    path =
        tt;
  })

  call-in : IsInLane leaves n k t (call-event n t)
  call-in = inl (record {
    read = λ a h. in_first n k 0 4 a (omega arith) (in_view_row n a h);
    written = λ a h. in_first n k 0 4 a (omega arith) (in_view_row n a (chosen_one (leaves.written 0) n placed a h));
    path = refl;
  })

  fill-in : IsInLane leaves n k t (fill-event n)
  fill-in = inl (record { read = λ a h. cc; written = λ a h. in_first n k 4 4 a (omega arith) h; path = tt })

  add-in : IsInLane leaves n k t (add-event n)
  add-in = inl (record {
    read = λ a h. either_row n k (in_row n 0 4 a) (in_row n 4 4 a) a (λ r. in_first n k 0 4 a (omega arith) r)
        (λ r. in_first n k 4 4 a (omega arith) r) h;
    written = λ a h. in_first n k 4 4 a (omega arith) h;
    path = tt;
  })

  up-in : IsInLane leaves n k t (up-event n k)
  up-in = inl (record {
    read = λ a h. in_first n k 4 4 a (omega arith) h;
    written = λ a h. in_second n k a h;
    path
        = tt;
  })

  -- what holds of each event of the lane
  each : (P : Event → Type 0) → ((e : Event) → IsInLane leaves n k t e → P e) → AllEvents P (lane-tree n k t)
  each P f = (
    f (down-event n k) down-in,
    (
      f (call-event n t) call-in,
      (f (fill-event n) fill-in, (f (add-event n) add-in, (f (collect-event n) (inr refl), f (up-event n k) up-in))),
    ),
  )

-- ---- two iterations

own_apart : (n m k l : ℕ) (a : Spot) → nat_eq n m ≡ false → nat_eq n 0 ≡ false → nat_eq m 0 ≡ false → (k + 4 ≤ l)
    ⊎ (l + 4 ≤ k) → is_own n k a ≡ true → is_own m l a ≡ false
own_apart n m k l a d z y (inl h) r = grind (arith, nat_tests)
own_apart n m k l a d z y (inr h) r = grind (arith, nat_tests)

-- the last int of the root isn't an iteration's own
last_apart : (m l : ℕ) (a : Spot) → nat_eq m 0 ≡ false → l + 4 ≤ 12 → is_own m l a ≡ true → in_row 0 12 4 a ≡ false
last_apart m l a y h r = grind (arith, nat_tests)

source_apart : (n m l : ℕ) (a : Spot) → nat_eq n m ≡ false → nat_eq n 0 ≡ false → is_own m l a ≡ true → in_row n 4 4 a
    ≡ false
source_apart n m l a d z r = grind (arith, nat_tests)

rows_apart : (n m at to len size : ℕ) (a : Spot) → nat_eq n m ≡ false → in_row n at len a ≡ true → in_row m to size a
    ≡ false
rows_apart n m at to len size a d h = grind (arith, nat_tests)

-- what lies in the one is not in the other
not_in : (x y : Bool) → (x ≡ true → y ≡ true) → y ≡ false → x ≡ false
not_in true y f h = let e = f refl in cc
not_in false y f h = refl

neither : (u v : Bool) → u ≡ false → v ≡ false → (u || v) ≡ false
neither true v p q = cc
neither false v p q = q

paths_differ : (t u : ℕ) (e f : Event) → t ≢ u → HasPath t e → HasPath u f → PathsDiffer e f
paths_differ t u (Copy from to bytes) f d p q = tt
paths_differ t u (Fill to elem count value) f d p q = tt
paths_differ t u (Accumulate o elem from to count) f d p q = tt
paths_differ t u (events.Leaf node code vs path) (Copy from to bytes) d p q = tt
paths_differ t u (events.Leaf node code vs path) (Fill to elem count value) d p q = tt
paths_differ t u (events.Leaf node code vs path) (Accumulate o elem from to count) d p q = tt
paths_differ t u (events.Leaf node code vs path) (events.Leaf node' code' vs' path') d p q
    = λ same. d (ap (λ l. get_or l 0 0) (sym p ∙ same ∙ q))

no_path : (t : ℕ) (e : Event) (n : ℕ) → PathsDiffer (collect-event n) e
no_path t e n = tt

-- children n and m take the iterations t and u, whose ints begin at k and l
module _ {C : Type 0} (leaves : Leaves C) (n m k l t u : ℕ) (other : nat_eq n m ≡ false) (back : nat_eq m n ≡ false)
    (first : nat_eq n 0 ≡ false) (second : nat_eq m 0 ≡ false)
    (apart : (k + 4 ≤ l) ⊎ (l + 4 ≤ k)) (before : k + 4 ≤ 12) (behind : l + 4 ≤ 12) (differ : t ≢ u) where
  swapped : (l + 4 ≤ k) ⊎ (k + 4 ≤ l)
  swapped = by apart
    where
      by : (k + 4 ≤ l) ⊎ (l + 4 ≤ k) → (l + 4 ≤ k) ⊎ (k + 4 ≤ l)
      by (inl h) = inr h
      by (inr h) = inl h

  both-own : (e f : Event) → IsOwn leaves n k t e → IsOwn leaves m l u f → AreIndependent leaves e f
  both-own e f x y =
      record {
        apart = inl (record {
          first_read = λ a h. not_in (reads f a) (is_own m l a) (y.read a)
              (own_apart n m k l a other first second apart (x.written a h));
          second_read = λ a h. not_in (reads e a) (is_own n k a) (x.read a)
              (own_apart m n l k a back second first swapped (y.written a h));
          written = λ a h. not_in (writes leaves f a) (is_own m l a) (y.written a)
              (own_apart n m k l a other first second apart (x.written a h));
        });
        paths = paths_differ t u e f differ x.path y.path;
      }

  collects : AreIndependent leaves (collect-event n) (collect-event m)
  collects =
      record {
        apart = inr (
          refl,
          refl,
          (λ a h g. refl),
          (λ a h. rows_apart 0 m 12 4 4 4 a (zero-other m second) h),
          (λ a h. rows_apart 0 n 12 4 4 4 a (zero-other n first) h),
        );
        paths = tt;
      }
    where
      zero-other : (j : ℕ) → nat_eq j 0 ≡ false → nat_eq 0 j ≡ false
      zero-other j h = grind (arith, nat_tests)

-- an own event of one, and the sum of the other
module _ {C : Type 0} (leaves : Leaves C) (n m k t : ℕ) (other : nat_eq n m ≡ false) (back : nat_eq m n ≡ false)
    (first : nat_eq n 0 ≡ false) (before : k + 4 ≤ 12) where
  own-collect : (e : Event) → nat_eq m 0 ≡ false → IsOwn leaves n k t e → AreIndependent leaves e (collect-event m)
  own-collect e z x =
      record {
        apart = inl (record {
          first_read = λ a h. neither (in_row m 4 4 a) (in_row 0 12 4 a) (source_apart m n k a back z (x.written a h))
              (last_apart n k a first before (x.written a h));
          second_read = λ a h. not_in (reads e a) (is_own n k a) (x.read a) (collected a h);
          written = λ a h. last_apart n k a first before (x.written a h);
        });
        paths = no-paths e;
      }
    where
      collected : (a : Spot) → in_row 0 12 4 a ≡ true → is_own n k a ≡ false
      collected a h = grind (arith, nat_tests)

      no-paths : (e : Event) → PathsDiffer e (collect-event m)
      no-paths (Copy from to bytes) = tt
      no-paths (Fill to elem count value) = tt
      no-paths (Accumulate o elem from to count) = tt
      no-paths (events.Leaf node code vs path) = tt

module _ {C : Type 0} (leaves : Leaves C) (n m k l t u : ℕ) (other : nat_eq n m ≡ false) (back : nat_eq m n ≡ false)
    (first : nat_eq n 0 ≡ false) (second : nat_eq m 0 ≡ false)
    (apart : (k + 4 ≤ l) ⊎ (l + 4 ≤ k)) (before : k + 4 ≤ 12) (behind : l + 4 ≤ 12) (differ : t ≢ u) where
  two : (e f : Event) → IsInLane leaves n k t e → IsInLane leaves m l u f → AreIndependent leaves e f
  two e f (inl x) (inl y) = both-own leaves n m k l t u other back first second apart before behind differ e f x y
  two e f (inl x) (inr y) = subst (AreIndependent leaves e) y
      (own-collect leaves n m k t other back first before e second x)
  two e f (inr x) (inl y) = subst (λ z. AreIndependent leaves z f) x
      (independent-sym leaves f (collect-event n) (own-collect leaves m n l u back other second behind f first y))
  two e f (inr x) (inr y) =
      subst (λ z. AreIndependent leaves z f) x
      (subst (AreIndependent leaves (collect-event n)) y
      (collects leaves n m k l t u other back first second apart before behind differ))

  lanes-clear : AllEvents (λ e. AllEvents (AreIndependent leaves e) (lane-tree m l u)) (lane-tree n k t)
  lanes-clear = each leaves n k t _ (λ e x. each leaves m l u _ (λ f y. two e f x y))

-- the second child's iteration stands beside both of the first one's
pub clear : {C : Type 0} (leaves : Leaves C) (t u : ℕ) → t ≢ u → 0 ≢ u → start_at t + 4 ≤ 12 → start_at u + 4 ≤ 12
    → (start_at t + 4 ≤ start_at u) ⊎ (start_at u + 4 ≤ start_at t) → 0 + 4 ≤ start_at u
    → EachUnordered (AreIndependent leaves) (tree t u)
clear leaves t u d z low high apart behind =
    unordered-each (AreIndependent leaves) (tree t u) (independent-sym leaves) (
      (alone, alone),
      alone,
      (
        lanes-clear leaves 1 2 0 (start_at u) 0 u refl refl refl refl (inl behind) (omega arith) high z,
        lanes-clear leaves 1 2 (start_at t) (start_at u) t u refl refl refl refl apart low high d,
      ),
    )
  where
    alone : Unit {0} × (Unit {0} × (Unit {0} × (Unit {0} × (Unit {0} × Unit {0}))))
    alone = (tt, (tt, (tt, (tt, (tt, tt)))))
