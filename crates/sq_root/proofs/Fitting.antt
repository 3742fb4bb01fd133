-- The test whether places fit, and what it is worth to a put.
use Rattle.std.proofs.Common.{◌≡◌, ◌⊎◌, ℕ, ◌+◌, ◌<◌, ◌≤◌, ◌^◌, nat_le, Bool, true, false, if◌then◌else◌}
use Rattle.std.proofs.Common.{List, [], ◌∷◌, length, map, All, refl, sym, ap, ◌∙◌, subst, arith}
use Rattle.std.specs.List.{list_all}
use mathlib.Core.Logic.{inl, inr}
use Rattle.std.proofs.lemmas.Bool.{and_parts, and_from, or_cases, or_left, or_right}
use Rattle.std.proofs.lemmas.Bool.Decides.{nat_tests}
use Rattle.std.proofs.lemmas.List.{length-map}
use Rattle.std.proofs.lemmas.List.Elements.{All-weaker}
use Rattle.std.proofs.lemmas.List.Sums.{AllPass-from_list_all, list_all-from_AllPass}
use Rattle.sq_arrays.specs.Targets.{HasRange, HasRoom, put_at, put_in, array_at}
use Rattle.sq_arrays.specs.Arrays.{Wanted, size_of}
use Rattle.sq_root.specs.declared.place.Place.{Place}
use Rattle.sq_root.specs.Places.{part, parts, IsWithin, IsClear, AreApart, Fits}
use Rattle.sq_root.specs.Roots.{is_within, is_clear, are_apart, fits_in, arrays_at}
use Rattle.sq_root.proofs.Parts.{place_at, part-length, now-length, parts-put, array-of-parts, sizes-of-parts}

-- ---- the test

le-of : (a b : ℕ) → nat_le a b ≡ true → a ≤ b
le-of a b is = grind (arith, nat_tests)

of-le : (a b : ℕ) → a ≤ b → nat_le a b ≡ true
of-le a b is = grind (arith, nat_tests)

module _ (p q : Place) where
  clear-of : is_clear p q ≡ true → IsClear p q
  clear-of is = by_side (or_cases (nat_le (p.at + p.size) q.at) (nat_le (q.at + q.size) p.at) is)
    where
      by_side : (nat_le (p.at + p.size) q.at ≡ true) ⊎ (nat_le (q.at + q.size) p.at ≡ true) → IsClear p q
      by_side (inl before) = inl (le-of (p.at + p.size) q.at before)
      by_side (inr behind) = inr (le-of (q.at + q.size) p.at behind)

  of-clear : IsClear p q → is_clear p q ≡ true
  of-clear (inl before) = or_left _ (nat_le (q.at + q.size) p.at) (of-le (p.at + p.size) q.at before)
  of-clear (inr behind) = or_right (nat_le (p.at + p.size) q.at) _ (of-le (q.at + q.size) p.at behind)

-- a test of each, and what it is worth
module _ (test : Place → Bool) (P : Place → Type 0) where
  all-of : ((p : Place) → test p ≡ true → P p) → (ps : List Place) → list_all test ps ≡ true → All P ps
  all-of gives ps is = All-weaker (λ p. test p ≡ true) P gives ps (AllPass-from_list_all test ps is)

  of-all : ((p : Place) → P p → test p ≡ true) → (ps : List Place) → All P ps → list_all test ps ≡ true
  of-all gives ps all = list_all-from_AllPass test ps (All-weaker P (λ p. test p ≡ true) gives ps all)

apart-of : (places : List Place) → are_apart places ≡ true → AreApart places
apart-of [] is = tt
apart-of (p ∷ ps) is =
    let both = and_parts (list_all (is_clear p) ps) (are_apart ps) is in
    (all-of (is_clear p) (IsClear p) (clear-of p) ps both.0, apart-of ps both.1)

of-apart : (places : List Place) → AreApart places → are_apart places ≡ true
of-apart [] apart = refl
of-apart (p ∷ ps) apart =
    and_from (list_all (is_clear p) ps) (are_apart ps)
    (of-all (is_clear p) (IsClear p) (of-clear p) ps apart.0) (of-apart ps apart.1)

fits-of : (places : List Place) (n : ℕ) → fits_in places n ≡ true → Fits places n
fits-of places n is =
    let both = and_parts (list_all (is_within n) places) (are_apart places) is in
    record {
      within = all-of (is_within n) (IsWithin n) (λ p. le-of (p.at + p.size) n) places both.0;
      apart = apart-of places both.1;
    }

of-fits : (places : List Place) (n : ℕ) → Fits places n → fits_in places n ≡ true
of-fits places n fits =
    and_from (list_all (is_within n) places) (are_apart places)
    (of-all (is_within n) (IsWithin n) (λ p. of-le (p.at + p.size) n) places fits.within) (of-apart places fits.apart)

pub arrays-are : (places : List Place) (root : List ℕ) → Fits places (length root)
    → arrays_at places root ≡ parts places root
arrays-are places root fits = ap (λ b. if b then parts places root else []) (of-fits places (length root) fits)

-- ---- a put

-- a put into one of these arrays is one into its place
pub record PutsPart (places : List Place) (array k : ℕ) (piece root : List ℕ) : Type 0 where
  pub there : array < length places
  pub within : IsWithin (length root) (place_at places array)
  pub below : k + length piece ≤ (place_at places array).size
  pub arrays : arrays_at places (put_at ((place_at places array).at + k) piece root)
      ≡ put_in array k piece (arrays_at places root)

module _ (places : List Place) (array k : ℕ) (piece root : List ℕ) where
  abbrev now : List ℕ
  now = put_at ((place_at places array).at + k) piece root

  puts-fitting : Fits places (length root) → HasRange (parts places root) array k (length piece)
      → PutsPart places array k piece root
  puts-fitting fits inside =
      let there : array < length places = omega (arith, inside.there, length-map places (λ p. part p root)) in
      let its : IsWithin (length root) (place_at places array) = fits.within array _ there in
      let size : length (array_at array (parts places root)) ≡ (place_at places array).size =
      ap length (array-of-parts places array root there) ∙ part-length (place_at places array) root its in
      let below : k + length piece ≤ (place_at places array).size = omega (arith, inside.range, size) in
      let long : length now ≡ length root = now-length (place_at places array) k piece root its below in
      record {
        there = there;
        within = its;
        below = below;
        arrays =
            arrays-are places now (subst (Fits places) (sym long) fits)
            ∙ parts-put places array k piece root fits.within fits.apart there below
            ∙ sym (ap (put_in array k piece) (arrays-are places root fits));
      }

  by-test : (v : Bool) → fits_in places (length root) ≡ v
      → HasRange (if v then parts places root else []) array k (length piece) → PutsPart places array k piece root
  by-test true is inside = puts-fitting (fits-of places (length root) is) inside
  by-test false is inside = absurd (omega (arith, inside.there))

  pub puts-part : HasRange (arrays_at places root) array k (length piece) → PutsPart places array k piece root
  puts-part inside = by-test (fits_in places (length root)) refl inside

-- ---- a whole reading

pub has-room : (ws : List Wanted) (places : List Place) (root : List ℕ) → Fits places (length root)
    → map (λ p. p.size) places ≡ map size_of ws → All (λ w. size_of w < 2 ^ 64) ws
    → HasRoom ws (arrays_at places root)
has-room ws places root fits sizes small = record {
  sizes = ap (map length) (arrays-are places root fits) ∙ sizes-of-parts places root fits.within ∙ sizes;
  small = small;
}
