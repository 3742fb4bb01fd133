-- Counts of the buffers in scope.
use Rattle.std.proofs.Common.{◌≡◌, ℕ, zero, suc, ◌+◌, ◌-◌, ◌<◌, ◌||◌, Bool, true, false, if◌then◌else◌, List, [], ◌∷◌, ◌++◌, length, get_or, slice_set, take, refl, sym, ap, subst, ◌∙◌, arith}
use Rattle.std.specs.Prelude.{nat_eq, nat_lt, not}
use Rattle.std.specs.Prelude.{◌==◌}
use Rattle.std.proofs.lemmas.Bool.Decides.{nat_tests}
use Rattle.sq_planevents.specs.Standing.{has, times, AreCounts, with_count}

-- a buffer is in scope where it is named once or more
some_times : (named : List ℕ) (b : ℕ) → has named b ≡ not (times named b == 0)
some_times [] b = refl
some_times (c ∷ named) b = by (nat_eq c b) (some_times named b)
  where
    by : (t : Bool) → has named b ≡ not (times named b == 0) → (t || has named b) ≡ not ((if t then 1 else 0) + times named b == 0)
    by true f = let e : (1 + times named b == 0) ≡ false = grind (arith, nat_tests) in sym (ap not e)
    by false f = f ∙ ap (λ n. not (n == 0)) (let z : times named b ≡ 0 + times named b = omega arith in z)

pub counted_has : (named counts : List ℕ) (b n : ℕ) (told : Bool) → AreCounts named counts → b < length counts → n ≡ get_or counts b 0 → told ≡ not (n == 0) → told ≡ has named b
counted_has named counts b n told a l e t = t ∙ (ap (λ m. not (m == 0)) (e ∙ a.each b l) ∙ sym (some_times named b))

times_append : (named : List ℕ) (c b : ℕ) → times (named ++ c ∷ []) b ≡ times named b + (if nat_eq c b then 1 else 0)
times_append [] c b = omega arith
times_append (d ∷ named) c b = let e = times_append named c b in omega (arith, e)

length_with : (counts : List ℕ) (b n : ℕ) → length (with_count counts b n) ≡ length counts
length_with counts b n = by (nat_lt b (length counts))
  where
    set_length : (xs : List ℕ) (i x : ℕ) → length (slice_set xs i x) ≡ length xs
    set_length [] i x = refl
    set_length (y ∷ xs) zero x = refl
    set_length (y ∷ xs) (suc i) x = ap suc (set_length xs i x)

    by : (t : Bool) → length (if t then slice_set counts b n else counts) ≡ length counts
    by true = set_length counts b n
    by false = refl

set_here : (xs : List ℕ) (i x : ℕ) → i < length xs → get_or (slice_set xs i x) i 0 ≡ x
set_here [] i x l = absurd (omega (arith, l))
set_here (y ∷ xs) zero x l = refl
set_here (y ∷ xs) (suc i) x l = set_here xs i x (omega (arith, l))

set_there : (xs : List ℕ) (i x k : ℕ) → (i ≡ k → ⊥) → get_or (slice_set xs i x) k 0 ≡ get_or xs k 0
set_there [] i x k n = refl
set_there (y ∷ xs) zero x zero n = absurd (n refl)
set_there (y ∷ xs) zero x (suc k) n = refl
set_there (y ∷ xs) (suc i) x zero n = refl
set_there (y ∷ xs) (suc i) x (suc k) n = set_there xs i x k (λ e. n (ap suc e))

get_set : (xs : List ℕ) (i x k : ℕ) → i < length xs → get_or (slice_set xs i x) k 0 ≡ (if nat_eq i k then x else get_or xs k 0)
get_set xs i x k l = by (nat_eq i k) refl
  where
    by : (t : Bool) → nat_eq i k ≡ t → get_or (slice_set xs i x) k 0 ≡ (if t then x else get_or xs k 0)
    by true e = let s : i ≡ k = grind (arith, nat_tests, e) in ap (λ m. get_or (slice_set xs i x) m 0) (sym s) ∙ set_here xs i x l
    by false e = set_there xs i x k (λ s. let t : nat_eq i k ≡ true = grind (arith, nat_tests, s) in let f : true ≡ false = sym t ∙ e in cc)

get_with : (counts : List ℕ) (c n b : ℕ) → b < length counts → get_or (with_count counts c n) b 0 ≡ (if nat_eq c b then n else get_or counts b 0)
get_with counts c n b l = by (nat_lt c (length counts)) refl
  where
    by : (t : Bool) → nat_lt c (length counts) ≡ t → get_or (if t then slice_set counts c n else counts) b 0 ≡ (if nat_eq c b then n else get_or counts b 0)
    by true e = get_set counts c n b (grind (arith, nat_tests, e))
    by false e = let d : nat_eq c b ≡ false = grind (arith, nat_tests, e, l) in sym (ap (λ (t : Bool). if t then n else get_or counts b 0) d)

pub none_counted : (counts : List ℕ) → ((b : ℕ) → get_or counts b 0 ≡ 0) → AreCounts [] counts
none_counted counts h = record { each = λ b l. h b }

pub one_counted : (named counts : List ℕ) (c n : ℕ) → AreCounts named counts → n ≡ get_or counts c 0 + 1 → AreCounts (named ++ c ∷ []) (with_count counts c n)
one_counted named counts c n a e = record { each = each }
  where
    each : (b : ℕ) → b < length (with_count counts c n) → get_or (with_count counts c n) b 0 ≡ times (named ++ c ∷ []) b
    each b l = let m : b < length counts = let z = length_with counts c n in omega (arith, z, l) in
        get_with counts c n b m ∙ (by (nat_eq c b) refl (a.each b m) ∙ sym (times_append named c b))
      where
        by : (t : Bool) → nat_eq c b ≡ t → get_or counts b 0 ≡ times named b → (if t then n else get_or counts b 0) ≡ times named b + (if t then 1 else 0)
        by true f g = let s : c ≡ b = grind (arith, nat_tests, f) in e ∙ ap (λ i. get_or counts i 0 + 1) s ∙ ap (λ i. i + 1) g
        by false f g = g ∙ omega arith

pub one_left : (named less counts : List ℕ) (c n m : ℕ) → named ≡ less ++ c ∷ [] → AreCounts named counts → n ≡ get_or counts c 0 → m ≡ n - 1 → AreCounts less (with_count counts c m)
one_left named less counts c n m is a e f = record { each = each }
  where
    each : (b : ℕ) → b < length (with_count counts c m) → get_or (with_count counts c m) b 0 ≡ times less b
    each b l = let k : b < length counts = let z = length_with counts c m in omega (arith, z, l) in
        get_with counts c m b k ∙ by (nat_eq c b) refl (a.each b k ∙ (ap (λ (l : List ℕ). times l b) is ∙ times_append less c b))
      where
        by : (t : Bool) → nat_eq c b ≡ t → get_or counts b 0 ≡ times less b + (if t then 1 else 0) → (if t then m else get_or counts b 0) ≡ times less b
        by true g h = let s : c ≡ b = grind (arith, nat_tests, g) in let w : n ≡ times less b + 1 = e ∙ ap (λ i. get_or counts i 0) s ∙ h in omega (arith, f, w)
        by false g h = h ∙ omega arith

take_front : (less : List ℕ) (c : ℕ) → take (length (less ++ c ∷ []) - 1) (less ++ c ∷ []) ≡ less
take_front less c = ap (λ n. take n (less ++ c ∷ [])) (long less) ∙ front less
  where
    long : (xs : List ℕ) → length (xs ++ c ∷ []) - 1 ≡ length xs
    long [] = refl
    long (x ∷ xs) = let e = more xs in omega (arith, e)
      where
        more : (xs : List ℕ) → length (xs ++ c ∷ []) ≡ length xs + 1
        more [] = omega arith
        more (x ∷ xs) = let e = more xs in omega (arith, e)

    front : (xs : List ℕ) → take (length xs) (xs ++ c ∷ []) ≡ xs
    front [] = refl
    front (x ∷ xs) = ap (λ l. x ∷ l) (front xs)

pub left_one : (named less : List ℕ) (c : ℕ) → named ≡ less ++ c ∷ [] → less ≡ take (length named - 1) named
left_one named less c e = sym (ap (λ (l : List ℕ). take (length l - 1) l) e ∙ take_front less c)

pub left_none : (named less : List ℕ) → named ≡ [] → less ≡ [] → less ≡ take (length named - 1) named
left_none named less e f = f ∙ sym (ap (λ (l : List ℕ). take (length l - 1) l) e)

pub entered : (named new counts less : List ℕ) (c n : ℕ) → AreCounts named counts → new ≡ named ++ c ∷ [] → less ≡ with_count counts c n → n ≡ get_or counts c 0 + 1 → AreCounts new less
entered named new counts less c n a e f g = subst (λ l. AreCounts l less) (sym e) (subst (AreCounts (named ++ c ∷ [])) (sym f) (one_counted named counts c n a g))

pub left : (named less counts new : List ℕ) (c n m : ℕ) → AreCounts named counts → named ≡ less ++ c ∷ [] → new ≡ with_count counts c m → n ≡ get_or counts c 0 → m ≡ n - 1 → AreCounts less new
left named less counts new c n m a e f g h = subst (AreCounts less) (sym f) (one_left named less counts c n m e a g h)
