-- Works that mean the same, and lists of what maps begin.
use Rattle.std.proofs.Common.{◌≡◌, ℕ, zero, suc, ◌+◌, ◌<◌, nat_eq, Bool, true, false, ◌||◌, List, [], ◌∷◌, ◌++◌, map, length, get_or, slice_get, Some, Ok, refl, sym, ap, ap₂, ◌∙◌, arith, append_assoc, flat_map}
use mathlib.Core.Path.{fun_ext}
use Rattle.sq_text.specs.declared.place.Place.{Place}
use Rattle.sq_work.specs.Leaf.Source.{Arrays}
use Rattle.sq_work.specs.declared.reduction.Reduction.{Reduction}
use Rattle.sq_spec.specs.Statements.{over, has_iterations, rows_if, count_rows}
use Rattle.sq_work.specs.Work.{Work, Then, Each, AtOnce, Gathers}
use Rattle.sq_work.specs.Meaning.{Outcome, and_then, with_turn, any_below, writes, touches, apart, with_writes, with_identity, with_reduced, meaning}
use Rattle.sq_work.specs.InTurn.{AreApart, none_aside, its_array, IsRaceFree, gathering, serial}
use Rattle.sq_work.proofs.Serial.{in_turn_same}

-- the iterations of a map in the k times before
abbrev pub begun_before : ℕ → List ℕ → ℕ
begun_before zero counts = 0
begun_before (suc k) [] = 0
begun_before (suc k) (n ∷ counts) = n + begun_before k counts

-- ---- works that mean the same

-- and do the same where all iterations follow one another; where the second has no race, the first has none
pub record Alike (w v : Work) : Type 0 where
  pub means : meaning w ≡ meaning v
  pub written : writes w ≡ writes v
  pub touched : touches w ≡ touches v
  pub runs : serial w ≡ serial v
  pub free : IsRaceFree v → IsRaceFree w

pub alike_itself : (w : Work) → Alike w w
alike_itself w = record { means = refl; written = refl; touched = refl; runs = refl; free = λ h. h }

pub alike_then : (a b c d : Work) → Alike a b → Alike c d → Alike (Then a c) (Then b d)
alike_then a b c d first second = record {
  means = fun_ext (λ s. ap (λ (o : Outcome). and_then o (meaning c)) (ap (λ (f : Arrays → Outcome). f s) first.means)
      ∙ ap (and_then (meaning b s)) second.means);
  written = fun_ext (λ n. fun_ext (λ cs. ap₂ (λ x y. x || y) (ap (λ (f : ℕ → List ℕ → Bool). f n cs) first.written)
      (ap (λ (f : ℕ → List ℕ → Bool). f n cs) second.written)));
  touched = fun_ext (λ n. fun_ext (λ cs. ap₂ (λ x y. x || y) (ap (λ (f : ℕ → List ℕ → Bool). f n cs) first.touched)
      (ap (λ (f : ℕ → List ℕ → Bool). f n cs) second.touched)));
  free = λ h. (first.free h.0, second.free h.1);
  runs = fun_ext (λ s. ap (λ (o : Outcome). and_then o (serial c)) (ap (λ (f : Arrays → Outcome). f s) first.runs) ∙ ap (and_then (serial b s)) second.runs);
}

pub below_same : (count : ℕ) (f g : ℕ → Bool) → ((t : ℕ) → t < count → f t ≡ g t) → any_below count f ≡ any_below count g
below_same zero f g h = refl
below_same (suc count) f g h = ap₂ (λ x y. x || y) (h count (omega arith)) (below_same count f g (λ t lt. h t (omega (arith, lt))))

apart_same : (count : ℕ) (join link : ℕ → Arrays → Arrays → Arrays) (f g : ℕ → Outcome) → ((t : ℕ) → t < count → join t ≡ link t)
    → ((t : ℕ) → t < count → f t ≡ g t) → (s : Arrays) → apart count join f s ≡ apart count link g s
apart_same zero join link f g j h s = refl
apart_same (suc count) join link f g j h s =
    ap (λ (o : Outcome). and_then o (λ below. and_then (with_turn count (f count)) (λ own. Ok (join count own below))))
    (apart_same count join link f g (λ t lt. j t (omega (arith, lt))) (λ t lt. h t (omega (arith, lt))) s)
    ∙ (ap (λ (o : Outcome). and_then (apart count link g s) (λ below. and_then (with_turn count o) (λ own. Ok (join count own below)))) (h count (omega arith))
    ∙ ap (λ (l : Arrays → Arrays → Arrays). and_then (apart count link g s) (λ below. and_then (with_turn count (g count)) (λ own. Ok (l own below))))
    (j count (omega arith)))

module _ (count : ℕ) (w v : ℕ → Work) (alike : (t : ℕ) → t < count → Alike (w t) (v t)) where
  some_written : (n : ℕ) (cs : List ℕ) → any_below count (λ t. writes (w t) n cs) ≡ any_below count (λ t. writes (v t) n cs)
  some_written n cs = below_same count (λ t. writes (w t) n cs) (λ t. writes (v t) n cs) (λ t lt. ap (λ (f : ℕ → List ℕ → Bool). f n cs) (alike t lt).written)

  some_touched : (n : ℕ) (cs : List ℕ) → any_below count (λ t. touches (w t) n cs) ≡ any_below count (λ t. touches (v t) n cs)
  some_touched n cs = below_same count (λ t. touches (w t) n cs) (λ t. touches (v t) n cs) (λ t lt. ap (λ (f : ℕ → List ℕ → Bool). f n cs) (alike t lt).touched)

  still_apart : (aside : ℕ → Bool) → AreApart count v aside → AreApart count w aside
  still_apart aside h = record {
    at = λ a b n cs la lb ne out wr to.
        h.at a b n cs la lb ne out (sym (ap (λ (f : ℕ → List ℕ → Bool). f n cs) (alike a la).written) ∙ wr) (sym (ap (λ (f : ℕ → List ℕ → Bool). f n cs) (alike b lb).touched) ∙ to);
  }

  pub alike_each : Alike (Each count w) (Each count v)
  alike_each = record {
    touched = fun_ext (λ n. fun_ext (λ cs. some_touched n cs));
    free = λ h t lt. (alike t lt).free (h t lt);
    means = fun_ext (in_turn_same count (λ t. meaning (w t)) (λ t. meaning (v t)) (λ t lt. (alike t lt).means));
    written = fun_ext (λ n. fun_ext (λ cs. some_written n cs));
    runs = fun_ext (in_turn_same count (λ t. serial (w t)) (λ t. serial (v t)) (λ t lt. (alike t lt).runs));
  }

  pub alike_at_once : (place : Place) → Alike (AtOnce place count w) (AtOnce place count v)
  alike_at_once place = record {
    touched = fun_ext (λ n. fun_ext (λ cs. some_touched n cs));
    free = λ h. (still_apart none_aside h.0, λ t lt. (alike t lt).free (h.1 t lt));
    means = fun_ext (λ s. apart_same count (λ t. with_writes (writes (w t))) (λ t. with_writes (writes (v t))) (λ t. meaning (w t) s) (λ t. meaning (v t) s)
        (λ t lt. ap with_writes (alike t lt).written) (λ t lt. ap (λ (f : Arrays → Outcome). f s) (alike t lt).means) s);
    written = fun_ext (λ n. fun_ext (λ cs. some_written n cs));
    runs = fun_ext (in_turn_same count (λ t. serial (w t)) (λ t. serial (v t)) (λ t lt. (alike t lt).runs));
  }

  pub alike_gathers : (r : Reduction) (place : Place) → Alike (Gathers r place count w) (Gathers r place count v)
  alike_gathers r place = record {
    touched = fun_ext (λ n. fun_ext (λ cs. below_same count (λ t. nat_eq n r.array || touches (w t) n cs) (λ t. nat_eq n r.array || touches (v t) n cs)
        (λ t lt. ap (λ (f : ℕ → List ℕ → Bool). nat_eq n r.array || f n cs) (alike t lt).touched)));
    free = λ h. (still_apart (its_array r) h.0, λ t lt. (alike t lt).free (h.1 t lt));
    means = fun_ext (λ s. apart_same count (λ t. with_reduced r (writes (w t))) (λ t. with_reduced r (writes (v t))) (λ t. meaning (w t) (with_identity r s))
        (λ t. meaning (v t) (with_identity r s)) (λ t lt. ap (with_reduced r) (alike t lt).written)
        (λ t lt. ap (λ (f : Arrays → Outcome). f (with_identity r s)) (alike t lt).means) s);
    written = fun_ext (λ n. fun_ext (λ cs. below_same count (λ t. nat_eq n r.array || writes (w t) n cs) (λ t. nat_eq n r.array || writes (v t) n cs)
        (λ t lt. ap (λ (f : ℕ → List ℕ → Bool). nat_eq n r.array || f n cs) (alike t lt).written)));
    runs = fun_ext (in_turn_same count (λ t. gathering r (serial (w t))) (λ t. gathering r (serial (v t))) (λ t lt. ap (gathering r) (alike t lt).runs));
  }

-- ---- lists

pub slice_get_map : {A B : Type 0} (f : A → B) (xs : List A) (k : ℕ) (x : A) → slice_get xs k ≡ Some x → slice_get (map f xs) k ≡ Some (f x)
slice_get_map f [] k x e = absurd (cc e)
slice_get_map f (y ∷ ys) zero x e = let p : y ≡ x = cc e in ap (λ z. Some (f z)) p
slice_get_map f (y ∷ ys) (suc k) x e = slice_get_map f ys k x e

pub get_or_map : {A B : Type 0} (f : A → B) (xs : List A) (k : ℕ) (x : A) (d : B) → slice_get xs k ≡ Some x → get_or (map f xs) k d ≡ f x
get_or_map f [] k x d e = absurd (cc e)
get_or_map f (y ∷ ys) zero x d e = let p : y ≡ x = cc e in ap f p
get_or_map f (y ∷ ys) (suc k) x d e = get_or_map f ys k x d e

pub get_front : {A : Type 0} (xs ys : List A) (t : ℕ) (x : A) → slice_get xs t ≡ Some x → slice_get (xs ++ ys) t ≡ Some x
get_front [] ys t x e = absurd (cc e)
get_front (z ∷ xs) ys zero x e = e
get_front (z ∷ xs) ys (suc t) x e = get_front xs ys t x e

pub get_back : {A : Type 0} (xs ys : List A) (t : ℕ) → slice_get (xs ++ ys) (length xs + t) ≡ slice_get ys t
get_back [] ys t = let e : 0 + t ≡ t = omega arith in ap (slice_get ys) e
get_back (x ∷ xs) ys t = let e : suc (length xs) + t ≡ suc (length xs + t) = omega arith in ap (slice_get (x ∷ (xs ++ ys))) e ∙ get_back xs ys t

-- ---- the times of a map's body

pub flat_over : {A B : Type 0} (g : A → List B) (t n : ℕ) (f : ℕ → List A) → flat_map g (over t n f) ≡ over t n (λ i. flat_map g (f i))
flat_over g t zero f = refl
flat_over g t (suc n) f = flat_both g (f t) (over (t + 1) n f) ∙ ap (λ xs. flat_map g (f t) ++ xs) (flat_over g (t + 1) n f)
  where
    flat_both : {A B : Type 0} (g : A → List B) (xs ys : List A) → flat_map g (xs ++ ys) ≡ flat_map g xs ++ flat_map g ys
    flat_both g [] ys = refl
    flat_both g (x ∷ xs) ys = ap (λ zs. g x ++ zs) (flat_both g xs ys) ∙ sym (append_assoc (g x) (flat_map g xs) (flat_map g ys))

pub over_same : {A : Type 0} (t n : ℕ) (f g : ℕ → List A) → ((i : ℕ) → f i ≡ g i) → over t n f ≡ over t n g
over_same t zero f g h = refl
over_same t (suc n) f g h = ap₂ (λ xs ys. xs ++ ys) (h t) (over_same (t + 1) n f g h)

-- one of each iteration
abbrev pub singles : {A : Type 0} → ℕ → (ℕ → A) → List A
singles n f = over 0 n (λ t. f t ∷ [])

single_length : {A : Type 0} (t n : ℕ) (f : ℕ → A) → length (over t n (λ i. f i ∷ [])) ≡ n
single_length t zero f = refl
single_length t (suc n) f = ap suc (single_length (t + 1) n f)

single_at : {A : Type 0} (from n t : ℕ) (f : ℕ → A) → t < n → slice_get (over from n (λ i. f i ∷ [])) t ≡ Some (f (from + t))
single_at from zero t f lt = absurd (omega (arith, lt))
single_at from (suc n) zero f lt = let e : from ≡ from + 0 = omega arith in ap (λ i. Some (f i)) e
single_at from (suc n) (suc t) f lt = single_at (from + 1) n t f (omega (arith, lt))
    ∙ (let e : from + 1 + t ≡ from + suc t = omega arith in ap (λ i. Some (f i)) e)

-- the t-th iteration of the k-th time
pub inner_at : {E : Type 0} (count : E → ℕ) (turn : E → ℕ → E) (times : List E) (k t : ℕ) (e : E) → slice_get times k ≡ Some e → t < count e
    → slice_get (flat_map (λ x. singles (count x) (turn x)) times) (begun_before k (map count times) + t) ≡ Some (turn e t)
inner_at count turn [] k t e at lt = absurd (cc at)
inner_at count turn (x ∷ times) zero t e at lt =
    let p : x ≡ e = cc at in
    let z : 0 + t ≡ t = omega arith in
    let first : Some (turn x (0 + t)) ≡ Some (turn x t) = ap (λ i. Some (turn x i)) z in
    ap (slice_get (singles (count x) (turn x) ++ flat_map (λ y. singles (count y) (turn y)) times)) z
    ∙ (get_front (singles (count x) (turn x)) (flat_map (λ y. singles (count y) (turn y)) times) t (turn x t)
    (single_at 0 (count x) t (turn x) (omega (arith, lt, ap count p)) ∙ first) ∙ ap (λ y. Some (turn y t)) p)
inner_at count turn (x ∷ times) (suc k) t e at lt =
    let ones = singles (count x) (turn x) in
    let rest = flat_map (λ y. singles (count y) (turn y)) times in
    let long : length ones ≡ count x = single_length 0 (count x) (turn x) in
    let same : count x + begun_before k (map count times) + t ≡ length ones + (begun_before k (map count times) + t) = omega (arith, long) in
    ap (slice_get (ones ++ rest)) same ∙ (get_back ones rest (begun_before k (map count times) + t) ∙ inner_at count turn times k t e at lt)

-- ---- the rows of a map's counts

-- a row of none counts as 0
pub none_counted : (counts : List ℕ) (k : ℕ) → has_iterations counts ≡ false → get_or counts k 0 ≡ 0
none_counted [] zero h = refl
none_counted [] (suc k) h = refl
none_counted (zero ∷ counts) zero h = refl
none_counted (zero ∷ counts) (suc k) h = none_counted counts k h
none_counted (suc n ∷ counts) k h = absurd (cc h)

abbrev no_rows : List ℕ
no_rows = []

past_none : (k : ℕ) → 0 ≡ get_or no_rows k 0
past_none zero = refl
past_none (suc k) = refl

pub row_kept : (counts : List ℕ) (k : ℕ) → get_or (count_rows counts) k 0 ≡ get_or counts k 0
row_kept counts k = by (has_iterations counts) refl
  where
    by : (b : Bool) → has_iterations counts ≡ b → get_or (rows_if b counts) k 0 ≡ get_or counts k 0
    by false h = sym (past_none k) ∙ sym (none_counted counts k h)
    by true h = refl

-- where there is an iteration all rows are there
pub rows_kept : (counts : List ℕ) (k t : ℕ) → t < get_or counts k 0 → count_rows counts ≡ counts
rows_kept counts k t lt = by (has_iterations counts) refl
  where
    by : (b : Bool) → has_iterations counts ≡ b → rows_if b counts ≡ counts
    by false h = absurd (let none = none_counted counts k h in omega (arith, lt, none))
    by true h = refl
