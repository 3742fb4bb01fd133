-- The steps of the sweep over what events reach.
use Rattle.std.proofs.Common.{◌≡◌, ℕ, zero, suc, ◌+◌, ◌<◌, ◌≤◌, ◌⊎◌, inl, inr, Bool, false, List, [], ◌∷◌, ◌++◌, length, slice_get, get_or, Some, refl, sym, ap, subst, ◌∙◌, arith}
use Rattle.sq_plan_check.specs.Tops.{Holds}
use Rattle.sq_plan_check.specs.Sweep.{AreClear, HasReached, MeetsNone, IsRaisedBy, AreMarked}
use Rattle.sq_plan_check.specs.declared.reach.Reach.{Reach}
use Rattle.sq_plan_check.specs.declared.reach.Row.{Row}
use Rattle.sq_plan_check.specs.declared.tops.Tops.{Tops}

-- of the first so many reaches of an event
pub record MeetsNoneTo (tops : Tops) (y : Row) (count : ℕ) : Type 0 where
  pub least : (b : ℕ) (s : Reach) (key n : ℕ) → b < count → slice_get y.reaches b ≡ Some s → s.lo ≤ key → key < s.hi → Holds tops key s.color n → n ≤ y.first

pub record IsRaisedTo (x : Row) (count : ℕ) (old new : Tops) : Type 0 where
  pub kept : (key other n : ℕ) → Holds old key other n → Holds new key other n
  pub reached : (a : ℕ) (r : Reach) (key other : ℕ) → a < count → slice_get x.reaches a ≡ Some r → r.lo ≤ key → key < r.hi → (other ≡ r.color → ⊥) → Holds new key other x.end

-- after so many events
pub record IsSweptTo (rows : List Row) (count : ℕ) (tops : Tops) (found : List Bool) : Type 0 where
  pub all : length found ≡ count
  pub reached : (i : ℕ) (x : Row) → i < count → slice_get rows i ≡ Some x → HasReached x tops
  pub clear : (i j : ℕ) (x y : Row) → i < j → j < count → slice_get rows i ≡ Some x → slice_get rows j ≡ Some y → slice_get found j ≡ Some false → AreClear x y

clear_of : (x y : Row) (tops : Tops) → HasReached x tops → MeetsNone tops y → AreClear x y
clear_of x y tops h m =
    record { ordered = λ a b r s key i j p q u v d. m.least b s key x.end j u v (h.holds a r key s.color i p q d) }

still_reached : (x y : Row) (old new : Tops) → HasReached x old → IsRaisedBy y old new → HasReached x new
still_reached x y old new h r = record { holds = λ a s key other i p q d. r.kept key other x.end (h.holds a s key other i p q d) }

-- the last of a list with one more
pub last_of : {X : Type 0} (xs : List X) (x y : X) (j : ℕ) → slice_get (xs ++ x ∷ []) j ≡ Some y → length xs ≤ j → x ≡ y
last_of [] x y zero h l = cc
last_of [] x y (suc j) h l = cc
last_of (z ∷ xs) x y zero h l = absurd (omega arith)
last_of (z ∷ xs) x y (suc j) h l = last_of xs x y j h (omega (arith, l))

pub front_of : {X : Type 0} (xs : List X) (x : X) (j : ℕ) → j < length xs → slice_get (xs ++ x ∷ []) j ≡ slice_get xs j
front_of [] x j l = absurd (omega arith)
front_of (z ∷ xs) x zero l = refl
front_of (z ∷ xs) x (suc j) l = front_of xs x j (omega (arith, l))

pub length_more : {X : Type 0} (xs : List X) (x : X) → length (xs ++ x ∷ []) ≡ suc (length xs)
length_more [] x = refl
length_more (z ∷ xs) x = ap suc (length_more xs x)

pub below_or : (i n : ℕ) → i < suc n → (i < n) ⊎ (i ≡ n)
below_or i zero l = inr (omega (arith, l))
below_or zero (suc n) l = inl (omega arith)
below_or (suc i) (suc n) l = by (below_or i n (omega (arith, l)))
  where
    by : (i < n) ⊎ (i ≡ n) → (suc i < suc n) ⊎ (suc i ≡ suc n)
    by (inl k) = inl (omega (arith, k))
    by (inr e) = inr (ap suc e)

same_row : (rows : List Row) (i : ℕ) (x y : Row) → slice_get rows i ≡ Some x → slice_get rows i ≡ Some y → x ≡ y
same_row rows i x y p q = let e : Some x ≡ Some y = sym p ∙ q in cc

-- one event more
pub swept_more : (rows : List Row) (n : ℕ) (old new : Tops) (found : List Bool) (row : Row) (mark : Bool)
    → IsSweptTo rows n old found → slice_get rows n ≡ Some row → (mark ≡ false → MeetsNone old row) → IsRaisedBy row old new
    → IsSweptTo rows (n + 1) new (found ++ mark ∷ [])
swept_more rows n old new found row mark h at m r =
    record {
      all = let m = length_more found mark in let k = h.all in omega (arith, m, k);
      reached = λ i x l is. reached i x is (below_or i n (omega (arith, l)));
      clear = λ i j x y l k is js f. cleared i j x y l is js f (below_or j n (omega (arith, k)));
    }
  where
    reached : (i : ℕ) (x : Row) → slice_get rows i ≡ Some x → (i < n) ⊎ (i ≡ n) → HasReached x new
    reached i x is (inl l) = still_reached x row old new (h.reached i x l is) r
    reached i x is (inr e) = subst (λ z. HasReached z new) (same_row rows n row x at (subst (λ z. slice_get rows z ≡ Some x) e is)) r.reached

    cleared : (i j : ℕ) (x y : Row) → i < j → slice_get rows i ≡ Some x → slice_get rows j ≡ Some y → slice_get (found ++ mark ∷ []) j ≡ Some false → (j < n) ⊎ (j ≡ n) → AreClear x y
    cleared i j x y l is js f (inl k) = h.clear i j x y l k is js (sym (front_of found mark j (omega (arith, k, h.all))) ∙ f)
    cleared i j x y l is js f (inr e) =
        let is_row = same_row rows n row y at (subst (λ z. slice_get rows z ≡ Some y) e js) in
        let unmarked : mark ≡ false = last_of found mark false j f (omega (arith, e, h.all)) in
        subst (AreClear x) is_row (clear_of x row old (h.reached i x (omega (arith, l, e)) is) (m unmarked))

pub swept_none : (rows : List Row) (tops : Tops) → IsSweptTo rows 0 tops []
swept_none rows tops = record { all = refl; reached = λ i x l is. absurd (omega (arith, l)); clear = λ i j x y l k is js f. absurd (omega (arith, k)) }

pub swept_all : (rows : List Row) (n : ℕ) (tops : Tops) (found : List Bool) → IsSweptTo rows n tops found → n ≡ length rows → AreMarked rows found
swept_all rows n tops found h e =
    record { all = h.all ∙ e; clear = λ i j x y l is js f. h.clear i j x y l (below j y js) is js f }
  where
    inside : (xs : List Row) (j : ℕ) (y : Row) → slice_get xs j ≡ Some y → j < length xs
    inside [] j y h = cc
    inside (x ∷ xs) zero y h = omega arith
    inside (x ∷ xs) (suc j) y h = let l = inside xs j y h in omega (arith, l)

    below : (j : ℕ) (y : Row) → slice_get rows j ≡ Some y → j < n
    below j y js = let l = inside rows j y js in omega (arith, l, e)

-- the item of a turn
pub item_at : {X : Type 0} (xs : List X) (i : ℕ) (x : X) → i < length xs → x ≡ get_or xs i x → slice_get xs i ≡ Some x
item_at [] i x l e = absurd (omega arith)
item_at (y ∷ xs) zero x l e = ap Some (sym e)
item_at (y ∷ xs) (suc i) x l e = item_at xs i x (omega (arith, l)) e
