-- Arrays of a root, byte by byte.
use Rattle.std.proofs.Common.{◌≡◌, ◌⊎◌, ℕ, zero, suc, ◌+◌, ◌-◌, ◌<◌, ◌≤◌, refl, sym, ap, ap₂, ◌∙◌, arith}
use Rattle.std.proofs.Common.{List, [], ◌∷◌, ◌++◌, length, map, take, drop, get_or, All}
use mathlib.Core.Logic.{inl, inr}
use Rattle.std.proofs.lemmas.Bool.{cases_lt}
use Rattle.std.proofs.lemmas.List.{length-drop, length-take-le, length-append, get_or-take, get_or-drop}
use Rattle.std.proofs.lemmas.List.{get_or_append_left, get_or-append_right, ext_get_or}
use Rattle.std.proofs.lemmas.List.Elements.{All-head, All-tail}
use Rattle.sq_arrays.specs.Targets.{put_at, put_in, array_at}
use Rattle.sq_root.specs.declared.place.Place.{Place}
use Rattle.sq_root.specs.Places.{part, parts, IsWithin, IsClear, IsOutside, AreApart}

-- ---- bytes put into a list

module _ (at : ℕ) (piece bytes : List ℕ) (fits : at + length piece ≤ length bytes) where
  abbrev behind : List ℕ
  behind = drop (at + length piece) bytes

  front-length : length (take at bytes) ≡ at
  front-length = length-take-le at bytes (omega (arith, fits))

  pub put-length : length (put_at at piece bytes) ≡ length bytes
  put-length = omega (
    arith,
    fits,
    front-length,
    length-append (take at bytes) (piece ++ behind),
    length-append piece behind,
    length-drop (at + length piece) bytes,
  )

  pub put-before : (i : ℕ) → i < at → get_or (put_at at piece bytes) i 0 ≡ get_or bytes i 0
  put-before i low =
      get_or_append_left (take at bytes) (piece ++ behind) 0 i (omega (arith, front-length, low))
      ∙ get_or-take at bytes i 0 low

  pub put-there : (i : ℕ) → at ≤ i → i < at + length piece
      → get_or (put_at at piece bytes) i 0 ≡ get_or piece (i - at) 0
  put-there i low high =
      get_or-append_right (take at bytes) (piece ++ behind) at i 0 front-length low
      ∙ get_or_append_left piece behind 0 (i - at) (omega (arith, low, high))

  pub put-behind : (i : ℕ) → at + length piece ≤ i → get_or (put_at at piece bytes) i 0 ≡ get_or bytes i 0
  put-behind i far =
      let back : (at + length piece) + ((i - at) - length piece) ≡ i = omega (arith, far) in
      get_or-append_right (take at bytes) (piece ++ behind) at i 0 front-length (omega (arith, far))
      ∙ get_or-append_right piece behind (length piece) (i - at) 0 refl (omega (arith, far))
      ∙ get_or-drop (at + length piece) bytes ((i - at) - length piece) 0
      ∙ ap (λ k. get_or bytes k 0) back

-- ---- one part

pub part-length : (p : Place) (root : List ℕ) → IsWithin (length root) p → length (part p root) ≡ p.size
part-length p root within =
    length-take-le p.size (drop p.at root) (omega (arith, within, length-drop p.at root))

part-at : (p : Place) (root : List ℕ) (i : ℕ) → i < p.size → get_or (part p root) i 0 ≡ get_or root (p.at + i) 0
part-at p root i below = get_or-take p.size (drop p.at root) i 0 below ∙ get_or-drop p.at root i 0

-- a part whose bytes are the same is the same
pub part-same : (p : Place) (now old : List ℕ) → IsWithin (length old) p → length now ≡ length old
    → ((i : ℕ) → p.at ≤ i → i < p.at + p.size → get_or now i 0 ≡ get_or old i 0) → part p now ≡ part p old
part-same p now old within long same =
    let now_size : length (part p now) ≡ p.size = part-length p now (omega (arith, within, long)) in
    let old_size : length (part p old) ≡ p.size = part-length p old within in
    ext_get_or 0 (part p now) (part p old) (now_size ∙ sym old_size) (λ i low.
    let below : i < p.size = omega (arith, low, now_size) in
    part-at p now i below ∙ same (p.at + i) (omega arith) (omega (arith, below)) ∙ sym (part-at p old i below))

-- ---- bytes put into one part

pub clear-turned : (p q : Place) → IsClear p q → IsClear q p
clear-turned p q (inl before) = inr before
clear-turned p q (inr behind) = inl behind

module _ (p : Place) (k : ℕ) (piece root : List ℕ) where
  abbrev now : List ℕ
  now = put_at (p.at + k) piece root

  abbrev new_part : List ℕ
  new_part = put_at k piece (part p root)

  module _ (within : IsWithin (length root) p) (below : k + length piece ≤ p.size) where
    fits : (p.at + k) + length piece ≤ length root
    fits = omega (arith, within, below)

    pub now-length : length now ≡ length root
    now-length = put-length (p.at + k) piece root fits

    old_size : length (part p root) ≡ p.size
    old_size = part-length p root within

    inside : k + length piece ≤ length (part p root)
    inside = omega (arith, below, old_size)

    -- that part has them
    pub part-put : part p now ≡ new_part
    part-put =
        let now_size : length (part p now) ≡ p.size = part-length p now (omega (arith, within, now-length)) in
        let new_size : length new_part ≡ length (part p root) = put-length k piece (part p root) inside in
        ext_get_or 0 (part p now) new_part (now_size ∙ sym old_size ∙ sym new_size) (λ i low.
        let small : i < p.size = omega (arith, low, now_size) in
        part-at p now i small ∙ at_byte i small (cases_lt i k) (cases_lt i (k + length piece)))
      where
        at_byte : (i : ℕ) → i < p.size → (i < k) ⊎ (k ≤ i) → (i < k + length piece) ⊎ (k + length piece ≤ i)
            → get_or now (p.at + i) 0 ≡ get_or new_part i 0
        at_byte i small (inl before) far =
            put-before (p.at + k) piece root fits (p.at + i) (omega (arith, before))
            ∙ sym (put-before k piece (part p root) inside i before ∙ part-at p root i small)
        at_byte i small (inr from) (inl high) =
            let same : (p.at + i) - (p.at + k) ≡ i - k = omega (arith, from) in
            put-there (p.at + k) piece root fits (p.at + i) (omega (arith, from)) (omega (arith, high))
            ∙ ap (λ j. get_or piece j 0) same
            ∙ sym (put-there k piece (part p root) inside i from high)
        at_byte i small (inr from) (inr far) =
            put-behind (p.at + k) piece root fits (p.at + i) (omega (arith, far))
            ∙ sym (put-behind k piece (part p root) inside i far ∙ part-at p root i small)

    -- a byte that isn't in it is as it was
    pub byte-stays : (i : ℕ) → IsOutside i p → get_or now i 0 ≡ get_or root i 0
    byte-stays i (inl before) = put-before (p.at + k) piece root fits i (omega (arith, before))
    byte-stays i (inr far) = put-behind (p.at + k) piece root fits i (omega (arith, far, below))

    -- a part that is clear of it is as it was
    part-stays : (q : Place) → IsWithin (length root) q → IsClear p q → part q now ≡ part q root
    part-stays q its (inl before) =
        part-same q now root its now-length (λ i low high. byte-stays i (inr (omega (arith, before, low))))
    part-stays q its (inr far) =
        part-same q now root its now-length (λ i low high. byte-stays i (inl (omega (arith, far, high))))

    parts-stay : (qs : List Place) → All (IsWithin (length root)) qs → All (IsClear p) qs
        → parts qs now ≡ parts qs root
    parts-stay [] its clear = refl
    parts-stay (q ∷ qs) its clear =
        ap₂ (λ x xs. x ∷ xs)
        (part-stays q (All-head (IsWithin (length root)) q qs its) (All-head (IsClear p) q qs clear))
        (parts-stay qs (All-tail (IsWithin (length root)) q qs its) (All-tail (IsClear p) q qs clear))

-- ---- bytes put into one of many parts

-- the place of that number
abbrev pub place_at : List Place → ℕ → Place
place_at places array = get_or places array (record { at = 0; size = 0 })

pub parts-put : (places : List Place) (array k : ℕ) (piece root : List ℕ) → All (IsWithin (length root)) places
    → AreApart places → array < length places → k + length piece ≤ (place_at places array).size
    → parts places (put_at ((place_at places array).at + k) piece root) ≡ put_in array k piece (parts places root)
parts-put [] array k piece root within apart there below = absurd (omega arith)
parts-put (p ∷ ps) zero k piece root within apart there below =
    let its = All-head (IsWithin (length root)) p ps within in
    ap₂ (λ x xs. x ∷ xs) (part-put p k piece root its below)
    (parts-stay p k piece root its below ps (All-tail (IsWithin (length root)) p ps within) apart.0)
parts-put (p ∷ ps) (suc i) k piece root within apart there below =
    let less : i < length ps = omega (arith, there) in
    let rest = All-tail (IsWithin (length root)) p ps within in
    let its : IsWithin (length root) (place_at ps i) = rest i _ less in
    ap₂ (λ x xs. x ∷ xs)
    (part-stays (place_at ps i) k piece root its below p (All-head (IsWithin (length root)) p ps within)
    (clear-turned p (place_at ps i) (apart.0 i _ less)))
    (parts-put ps i k piece root rest apart.1 less below)

pub array-of-parts : (places : List Place) (array : ℕ) (root : List ℕ) → array < length places
    → array_at array (parts places root) ≡ part (place_at places array) root
array-of-parts [] array root there = absurd (omega arith)
array-of-parts (p ∷ ps) zero root there = refl
array-of-parts (p ∷ ps) (suc i) root there = array-of-parts ps i root (omega (arith, there))

-- ---- sizes

pub sizes-of-parts : (places : List Place) (root : List ℕ) → All (IsWithin (length root)) places
    → map length (parts places root) ≡ map (λ p. p.size) places
sizes-of-parts [] root within = refl
sizes-of-parts (p ∷ ps) root within =
    ap₂ (λ n ns. n ∷ ns) (part-length p root (All-head (IsWithin (length root)) p ps within))
    (sizes-of-parts ps root (All-tail (IsWithin (length root)) p ps within))
