-- The buffers of a form as they stand, added up as its arrays stand.
use Rattle.std.proofs.Common.{◌≡◌, ℕ, zero, suc, ◌+◌, ◌≤◌, ◌==◌, ◌&&◌, ◌||◌, nat_lt, nat_le, Bool, true, false}
use Rattle.std.proofs.Common.{not, cond, List, [], ◌∷◌, ◌++◌, length, get_or, refl, sym, ◌∙◌, ap, arith, if◌then◌else◌}
use Rattle.std.proofs.lemmas.Bool.Decides.{nat_tests}
use Rattle.std.proofs.lemmas.List.{get_or_past}
use Rattle.std.specs.List.{filter, range_with_len}
use Rattle.sq_spec.specs.declared.body.FormBody.{FormBody}
use Rattle.sq_hoist.specs.Chosen.declared.choice.Choice.{Choice}
use Rattle.sq_hoist.specs.Chosen.Arrays.{deepest, left_by, is_moved, params_where, hoisted_from, hoisted, others, again}
use Rattle.sq_hoist.specs.Chosen.Arrays.{locals_count, standing, array_size}
use Rattle.sq_pipe.specs.Greedy.{sizes_of}
use Rattle.sq_pipe.specs.Sums.{has_buffer, single_bytes}

-- ---- tests

-- the third holds where exactly one of the others does, and never both
abbrev IsOne : (x y z : Bool) → Type 0
IsOne true true z = ⊥
IsOne true false z = z ≡ true
IsOne false y z = z ≡ y

-- leaves so many loops or fewer, and one at least
abbrev up_to : ℕ → ℕ → Bool
up_to d n = nat_lt 0 n && nat_le n d

one_by : (x y z w : Bool) → (x ≡ true → (y ≡ false) × ((z ≡ true) × (w ≡ true))) → (y ≡ true → z ≡ true)
    → (x ≡ false → z ≡ true → y ≡ true) → IsOne x (w && y) (w && z)
one_by true true z w h more less = let no : true ≡ false = (h refl).0 in cc
one_by true false false w h more less = let no : false ≡ true = (h refl).1.0 in cc
one_by true false true false h more less = let no : false ≡ true = (h refl).1.1 in cc
one_by true false true true h more less = refl
one_by false true false w h more less = let no : false ≡ true = more refl in cc
one_by false true true w h more less = refl
one_by false false true w h more less = let no : false ≡ true = less refl refl in cc
one_by false false false w h more less = refl

one_more : (d n : ℕ) → IsOne (n == suc d) (up_to d n) (up_to (suc d) n)
one_more d n = one_by (n == suc d) (nat_le n d) (nat_le n (suc d)) (nat_lt 0 n) at more less
  where
    at : (n == suc d) ≡ true → (nat_le n d ≡ false) × ((nat_le n (suc d) ≡ true) × (nat_lt 0 n ≡ true))
    at e =
        let a : nat_le n d ≡ false = grind (arith, nat_tests, e) in
        let b : nat_le n (suc d) ≡ true = grind (arith, nat_tests, e) in
        let c : nat_lt 0 n ≡ true = grind (arith, nat_tests, e) in
        (a, (b, c))

    more : nat_le n d ≡ true → nat_le n (suc d) ≡ true
    more e = grind (arith, nat_tests, e)

    less : (n == suc d) ≡ false → nat_le n (suc d) ≡ true → nat_le n d ≡ true
    less e f = grind (arith, nat_tests, e, f)

in_by : (t none some : Bool) → (none ≡ true → some ≡ false) → (none ≡ false → some ≡ true)
    → IsOne some (not t && none) (not t || some)
in_by t true true h g = let no : true ≡ false = h refl in cc
in_by t false false h g = let no : false ≡ true = g refl in cc
in_by false true false h g = refl
in_by true true false h g = refl
in_by false false true h g = refl
in_by true false true h g = refl

in_one : (t : Bool) (n : ℕ) → IsOne (nat_lt 0 n) (not t && n == 0) (not t || nat_lt 0 n)
in_one t n = in_by t (n == 0) (nat_lt 0 n) (λ e. grind (arith, nat_tests, e)) (λ e. grind (arith, nat_tests, e))

none_by : (some less : Bool) → (some ≡ true → less ≡ false) → (some && less) ≡ false
none_by false less h = refl
none_by true less h = h refl

none_up_to : (n : ℕ) → up_to 0 n ≡ false
none_up_to n = none_by (nat_lt 0 n) (nat_le n 0) (λ e. grind (arith, nat_tests, e))

le_deepest : (leaves : List ℕ) (i : ℕ) → get_or leaves i 0 ≤ deepest leaves
le_deepest [] i = omega arith
le_deepest (n ∷ ns) zero = omega arith
le_deepest (n ∷ ns) (suc i) = let h = le_deepest ns i in omega (arith, h)

and_true : (some less : Bool) → less ≡ true → (some && less) ≡ some
and_true false less h = refl
and_true true less h = h

all_up_to : (d n : ℕ) → n ≤ d → up_to d n ≡ nat_lt 0 n
all_up_to d n h =
    let e : nat_le n d ≡ true = grind (arith, nat_tests, h) in
    and_true (nat_lt 0 n) (nat_le n d) e

-- ---- lists

filter_same : (p q : ℕ → Bool) → ((i : ℕ) → p i ≡ q i) → (is : List ℕ) → filter p is ≡ filter q is
filter_same p q h [] = refl
filter_same p q h (i ∷ is) =
    ap (λ t. cond t (i ∷ filter p is) (filter p is)) (h i)
    ∙ ap (λ (js : List ℕ). cond (q i) (i ∷ js) js) (filter_same p q h is)

filter_none : (p : ℕ → Bool) → ((i : ℕ) → p i ≡ false) → (is : List ℕ) → filter p is ≡ []
filter_none p h [] = refl
filter_none p h (i ∷ is) = ap (λ t. cond t (i ∷ filter p is) (filter p is)) (h i) ∙ filter_none p h is

range_split : (a n m : ℕ) → range_with_len a (n + m) ≡ range_with_len a n ++ range_with_len (a + n) m
range_split a zero m =
    let y : 0 + m ≡ m = omega arith in
    let z : a ≡ a + 0 = omega arith in
    ap (λ n. range_with_len a n) y ∙ ap (λ k. range_with_len k m) z
range_split a (suc n) m =
    let y : suc n + m ≡ suc (n + m) = omega arith in
    let z : a + 1 + n ≡ a + suc n = omega arith in
    ap (λ k. range_with_len a k) y
    ∙ ap (λ (js : List ℕ). a ∷ js)
    (range_split (a + 1) n m ∙ ap (λ k. range_with_len (a + 1) n ++ range_with_len k m) z)

-- the locals are not in place
filter_past : (c : Choice) (a n : ℕ) → length c.in_place ≤ a
    → filter (has_buffer c) (range_with_len a n) ≡ range_with_len a n
filter_past c a zero h = refl
filter_past c a (suc n) h =
    ap (λ t. cond (not t || nat_lt 0 (left_by c a)) (a ∷ filter (has_buffer c) (range_with_len (a + 1) n))
    (filter (has_buffer c) (range_with_len (a + 1) n))) (get_or_past c.in_place a false h)
    ∙ ap (λ (js : List ℕ). a ∷ js) (filter_past c (a + 1) n (omega (arith, h)))

module _ (b : FormBody) where
  sizes_append : (is js : List ℕ) → sizes_of b (is ++ js) ≡ sizes_of b is + sizes_of b js
  sizes_append [] js = omega arith
  sizes_append (i ∷ is) js = let h = sizes_append is js in omega (arith, h)

  sums_append : (p : ℕ → Bool) (is js : List ℕ)
      → sizes_of b (filter p (is ++ js)) ≡ sizes_of b (filter p is) + sizes_of b (filter p js)
  sums_append p [] js = omega arith
  sums_append p (i ∷ is) js = by (p i) (sums_append p is js)
    where
      by : (t : Bool)
          → sizes_of b (filter p (is ++ js)) ≡ sizes_of b (filter p is) + sizes_of b (filter p js)
          → sizes_of b (cond t (i ∷ filter p (is ++ js)) (filter p (is ++ js)))
          ≡ sizes_of b (cond t (i ∷ filter p is) (filter p is)) + sizes_of b (filter p js)
      by false h = h
      by true h = omega (arith, h)

  sums_add : (p q r : ℕ → Bool) → ((i : ℕ) → IsOne (p i) (q i) (r i)) → (is : List ℕ)
      → sizes_of b (filter p is) + sizes_of b (filter q is) ≡ sizes_of b (filter r is)
  sums_add p q r h [] = refl
  sums_add p q r h (i ∷ is) = by (p i) (q i) (r i) (h i) (sums_add p q r h is)
    where
      same : (z t : Bool) → z ≡ t → sizes_of b (cond t (i ∷ filter r is) (filter r is))
          ≡ sizes_of b (cond z (i ∷ filter r is) (filter r is))
      same z t e = ap (λ u. sizes_of b (cond u (i ∷ filter r is) (filter r is))) (sym e)

      by : (x y z : Bool) → IsOne x y z
          → sizes_of b (filter p is) + sizes_of b (filter q is) ≡ sizes_of b (filter r is)
          → sizes_of b (cond x (i ∷ filter p is) (filter p is)) + sizes_of b (cond y (i ∷ filter q is) (filter q is))
          ≡ sizes_of b (cond z (i ∷ filter r is) (filter r is))
      by true true z e rest = absurd e
      by true false z e rest =
          let w : array_size b i + sizes_of b (filter p is) + sizes_of b (filter q is)
          ≡ array_size b i + sizes_of b (filter r is) = omega (arith, rest) in
          w ∙ same z true e
      by false true z e rest =
          let w : sizes_of b (filter p is) + (array_size b i + sizes_of b (filter q is))
          ≡ array_size b i + sizes_of b (filter r is) = omega (arith, rest) in
          w ∙ same z true e
      by false false z e rest = rest ∙ same z false e

  module _ (c : Choice) where
    hoisted_up_to : (d : ℕ)
        → sizes_of b (hoisted_from d c) ≡ sizes_of b (params_where (λ i. up_to d (left_by c i)) c)
    hoisted_up_to zero =
        sym (ap (sizes_of b) (filter_none (λ i. up_to 0 (left_by c i)) (λ i. none_up_to (left_by c i))
        (range_with_len 0 (length c.in_place))))
    hoisted_up_to (suc d) =
        sizes_append (params_where (λ i. left_by c i == suc d) c) (hoisted_from d c)
        ∙ ap (λ n. sizes_of b (params_where (λ i. left_by c i == suc d) c) + n) (hoisted_up_to d)
        ∙ sums_add (λ i. left_by c i == suc d) (λ i. up_to d (left_by c i)) (λ i. up_to (suc d) (left_by c i))
        (λ i. one_more d (left_by c i)) (range_with_len 0 (length c.in_place))

    hoisted_bytes : sizes_of b (hoisted c) ≡ sizes_of b (params_where (λ i. nat_lt 0 (left_by c i)) c)
    hoisted_bytes = hoisted_up_to (deepest c.leaves)
        ∙ ap (sizes_of b) (filter_same (λ i. up_to (deepest c.leaves) (left_by c i)) (λ i. nat_lt 0 (left_by c i))
        (λ i. all_up_to (deepest c.leaves) (left_by c i) (le_deepest c.leaves i))
        (range_with_len 0 (length c.in_place)))

    params_bytes : sizes_of b (hoisted c) + sizes_of b (others c) ≡ sizes_of b (params_where (has_buffer c) c)
    params_bytes =
        ap (λ n. n + sizes_of b (others c)) hoisted_bytes
        ∙ sums_add (λ i. nat_lt 0 (left_by c i)) (is_moved c) (has_buffer c)
        (λ i. in_one (get_or c.in_place i false) (left_by c i)) (range_with_len 0 (length c.in_place))

    abbrev locals : List ℕ
    locals = range_with_len (length c.in_place) (locals_count b.arrays c)

    single_is : length c.in_place ≤ length b.arrays
        → single_bytes b c ≡ sizes_of b (params_where (has_buffer c) c) + sizes_of b locals
    single_is h =
        let p : ℕ = length c.in_place in
        let all : length b.arrays ≡ p + locals_count b.arrays c = omega (arith, h) in
        let z : 0 + p ≡ p = omega arith in
        ap (λ n. sizes_of b (filter (has_buffer c) (range_with_len 0 n))) all
        ∙ ap (λ is. sizes_of b (filter (has_buffer c) is)) (range_split 0 p (locals_count b.arrays c)
        ∙ ap (λ k. range_with_len 0 p ++ range_with_len k (locals_count b.arrays c)) z)
        ∙ sums_append (has_buffer c) (range_with_len 0 p) locals
        ∙ ap (λ is. sizes_of b (params_where (has_buffer c) c) + sizes_of b is)
        (filter_past c p (locals_count b.arrays c) (omega arith))

again_bytes : (b : FormBody) (t : Bool) (is : List ℕ)
    → sizes_of b (if t then is else []) ≡ (if t then sizes_of b is else 0)
again_bytes b false is = refl
again_bytes b true is = refl

pub standing_bytes : (b : FormBody) (c : Choice) → length c.in_place ≤ length b.arrays
    → single_bytes b c + (if c.overlaps then sizes_of b (others c) else 0) ≡ sizes_of b (standing b c)
standing_bytes b c h =
    let once = single_is b c h in
    let params = params_bytes b c in
    let twice = again_bytes b c.overlaps (others c) in
    let first = sizes_append b (hoisted c) (others c ++ (again c ++ locals b c)) in
    let second = sizes_append b (others c) (again c ++ locals b c) in
    let third = sizes_append b (again c) (locals b c) in
    omega (arith, once, params, twice, first, second, third)
