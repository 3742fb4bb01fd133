-- The steps by which the first clash is found.
use Rattle.std.proofs.Common.{◌≡◌, ℕ, zero, suc, ◌+◌, ◌<◌, ◌≤◌, ◌⊎◌, inl, inr, Bool, false, List, [], ◌∷◌, length, slice_get, Some, None, sym, subst, arith}
use Rattle.sq_touches.specs.declared.act.Act.{Act}
use Rattle.sq_plan_check.specs.Sweep.{AreMarked}
use Rattle.sq_plan_check.specs.Pairs.{ClashAt, AreReached, IsFirstWith, IsFirstPair}
use Rattle.sq_plan_check.specs.declared.reach.Row.{Row}

-- none of the first so many events clashes with this one
pub record NoneWith (rows : List Row) (acts : List Act) (later count : ℕ) : Type 0 where
  pub none : (i : ℕ) → i < count → ClashAt rows acts i later → ⊥

-- none of the first so many events clashes with one before it
pub record NoneTo (rows : List Row) (acts : List Act) (count : ℕ) : Type 0 where
  pub none : (i j : ℕ) → j < count → ClashAt rows acts i j → ⊥

at_most_or : (a b : ℕ) → (a ≤ b) ⊎ (b < a)
at_most_or zero b = inl (omega arith)
at_most_or (suc a) zero = inr (omega arith)
at_most_or (suc a) (suc b) = by (at_most_or a b)
  where
    by : (a ≤ b) ⊎ (b < a) → (suc a ≤ suc b) ⊎ (suc b < suc a)
    by (inl l) = inl (omega (arith, l))
    by (inr l) = inr (omega (arith, l))

below_or : (i n : ℕ) → i < n + 1 → (i < n) ⊎ (i ≡ n)
below_or i n l = by (at_most_or n i)
  where
    by : (n ≤ i) ⊎ (i < n) → (i < n) ⊎ (i ≡ n)
    by (inl k) = inr (omega (arith, k, l))
    by (inr k) = inl k

module _ (rows : List Row) (acts : List Act) where
  pub first_is : (later n : ℕ) → NoneWith rows acts later n → ClashAt rows acts n later → IsFirstWith rows acts later (Some n)
  first_is later n none clash = (clash, λ h z. least h z (at_most_or n h))
    where
      least : (h : ℕ) → ClashAt rows acts h later → (n ≤ h) ⊎ (h < n) → n ≤ h
      least h z (inl l) = l
      least h z (inr l) = absurd (none.none h l z)

  pub none_is : (later n : ℕ) → NoneWith rows acts later n → later ≤ n → IsFirstWith rows acts later None
  none_is later n none l i z = let b = z.before in none.none i (omega (arith, b, l)) z

  pub pair_is : (earlier later : ℕ) → NoneTo rows acts later → IsFirstWith rows acts later (Some earlier)
      → IsFirstPair rows acts (Some (record { earlier = earlier; later = later }))
  pair_is earlier later none first = (first.0, λ i j z. before i j z (at_most_or later j))
    where
      before : (i j : ℕ) → ClashAt rows acts i j → (later ≤ j) ⊎ (j < later) → (later < j) ⊎ ((later ≡ j) × (earlier ≤ i))
      before i j z (inr l) = absurd (none.none i j l z)
      before i j z (inl l) = by (below_or later j (omega (arith, l)))
        where
          by : (later < j) ⊎ (later ≡ j) → (later < j) ⊎ ((later ≡ j) × (earlier ≤ i))
          by (inl k) = inl k
          by (inr e) = inr (e, first.1 i (subst (λ n. ClashAt rows acts i n) (sym e) z))

  pub none_more : (later : ℕ) → NoneTo rows acts later → IsFirstWith rows acts later None → NoneTo rows acts (later + 1)
  none_more later none no_first = record { none = λ i j l z. by i j z (below_or j later l) }
    where
      by : (i j : ℕ) → ClashAt rows acts i j → (j < later) ⊎ (j ≡ later) → ⊥
      by i j z (inl l) = none.none i j l z
      by i j z (inr e) = no_first i (subst (λ n. ClashAt rows acts i n) e z)

  get_inside : (xs : List Row) (i : ℕ) (x : Row) → slice_get xs i ≡ Some x → i < length xs
  get_inside [] i x h = cc
  get_inside (y ∷ xs) zero x h = omega arith
  get_inside (y ∷ xs) (suc i) x h = let l = get_inside xs i x h in omega (arith, l)

  pub none_at_all : (n : ℕ) → NoneTo rows acts n → length rows ≤ n → IsFirstPair rows acts None
  none_at_all n none l i j z = let k = get_inside rows j z.y z.y_is in none.none i j (omega (arith, k, l)) z

  pub unmarked_is : (marks : List Bool) (later : ℕ) → AreMarked rows marks → AreReached rows acts → slice_get marks later ≡ Some false → IsFirstWith rows acts later None
  unmarked_is marks later marked reached mark i z =
      reached.apart i later z.x z.y z.before z.x_is z.y_is (marked.clear i later z.x z.y z.before z.x_is z.y_is mark) z.inverted z.depend
