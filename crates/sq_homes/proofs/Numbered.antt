-- The numbers of a form's buffers are its own.
use Rattle.std.proofs.Common.{◌≡◌, ℕ, zero, suc, ◌+◌, ◌==◌, ◌<◌, ◌≤◌, Bool, true, false, List, [], ◌∷◌, ◌++◌, length}
use Rattle.std.proofs.Common.{get_or, refl, ap, subst, arith, if◌then◌else◌}
use Rattle.std.proofs.lemmas.Bool.Decides.{nat_tests}
use Rattle.std.proofs.lemmas.List.FromFn.{length-range_with_len}
use Rattle.std.specs.List.{filter, range_with_len}
use Rattle.sq_chosen.specs.SpecLaws.Spec.declared.body.FormBody.{FormBody}
use Rattle.sq_draft.specs.Placed.declared.home.Home.TheVariants.{Own, Twin}
use Rattle.sq_chosen.specs.declared.choice.Choice.{Choice}
use Rattle.sq_homes.specs.Laws.{HomesAreOwn, LocalsAreOwn}
use Rattle.sq_chosen.specs.Arrays.{deepest, left_by, is_moved, params_where, hoisted_from, hoisted, others, again}
use Rattle.sq_chosen.specs.Arrays.{locals_count, standing}
use Rattle.sq_homes.specs.Numbering.{position, moved_home, home_of, local_base, IsNumberIn}
use Rattle.sq_homes.specs.Numbering.{IsHomeIn}

-- ---- lists

-- the number stands in the list
data Among (x : ℕ) : List ℕ → Type 0 where
  first : {xs : List ℕ} → Among x (x ∷ xs)
  later : {y : ℕ} {xs : List ℕ} → Among x xs → Among x (y ∷ xs)

joined_length : (xs ys : List ℕ) → length (xs ++ ys) ≡ length xs + length ys
joined_length [] ys = omega arith
joined_length (x ∷ xs) ys = let e = joined_length xs ys in omega (arith, e)

four_lengths : (xs ys zs ws : List ℕ) → length (xs ++ (ys ++ (zs ++ ws))) ≡ length xs + length ys + length zs
    + length ws
four_lengths xs ys zs ws =
    let a = joined_length xs (ys ++ (zs ++ ws)) in
    let b = joined_length ys (zs ++ ws) in
    let c = joined_length zs ws in
    omega (arith, a, b, c)

among_left : (xs ys : List ℕ) (x : ℕ) → Among x xs → Among x (xs ++ ys)
among_left [] ys x h = elim h [ ]
among_left (y ∷ xs) ys _ first = first
among_left (y ∷ xs) ys x (later h) = later (among_left xs ys x h)

among_right : (xs ys : List ℕ) (x : ℕ) → Among x ys → Among x (xs ++ ys)
among_right [] ys x h = h
among_right (y ∷ xs) ys x h = later (among_right xs ys x h)

among_range : (a n i : ℕ) → i < n → Among (a + i) (range_with_len a n)
among_range a zero i h = absurd (omega (arith, h))
among_range a (suc n) zero h = let z : a ≡ a + 0
    = omega arith in subst (λ x. Among x (range_with_len a (suc n))) z first
among_range a (suc n) (suc i) h =
    let z : a + 1 + i ≡ a + suc i = omega arith in
    later (subst (λ x. Among x (range_with_len (a + 1) n)) z (among_range (a + 1) n i (omega (arith, h))))

among_filter : (p : ℕ → Bool) (xs : List ℕ) (x : ℕ) → Among x xs → p x ≡ true → Among x (filter p xs)
among_filter p [] x h e = elim h [ ]
among_filter p (y ∷ xs) _ first e = rw (e) first
among_filter p (y ∷ xs) x (later h) e = by (p y) refl (among_filter p xs x h e)
  where
    by : (t : Bool) → p y ≡ t → Among x (filter p xs) → Among x (filter p (y ∷ xs))
    by true is rest = rw (is) (later rest)
    by false is rest = rw (is) rest

in_rest : (i j : ℕ) (js : List ℕ) → Among i (j ∷ js) → (i == j) ≡ false → Among i js
in_rest i _ js first e = let z : (i == i) ≡ true = grind (arith, nat_tests) in absurd (cc)
in_rest i j js (later h) e = h

found : (i : ℕ) (js : List ℕ) → Among i js → position i js < length js
found i [] h = elim h [ ]
found i (j ∷ js) h = by (i == j) refl (λ e. found i js (in_rest i j js h e))
  where
    by : (t : Bool) → (i == j) ≡ t → ((i == j) ≡ false → position i js < length js) → position i (j ∷ js)
        < length (j ∷ js)
    by true is rest = rw (is) (omega arith)
    by false is rest = let r = rest is in rw (is) (omega (arith, r))

-- ---- parameters

deep : (ls : List ℕ) (i : ℕ) → get_or ls i 0 ≤ deepest ls
deep [] i = omega arith
deep (l ∷ ls) zero = omega arith
deep (l ∷ ls) (suc i) = let h = deep ls i in omega (arith, h)

among_params : (p : ℕ → Bool) (c : Choice) (i : ℕ) → i < length c.in_place → p i ≡ true → Among i (params_where p c)
among_params p c i h e =
    let z : 0 + i ≡ i = omega arith in
    among_filter p (range_with_len 0 (length c.in_place)) i
    (subst (λ x. Among x (range_with_len 0 (length c.in_place))) z (among_range 0 (length c.in_place) i h)) e

among_hoisted : (d : ℕ) (c : Choice) (i : ℕ) → i < length c.in_place → 0 < left_by c i → left_by c i ≤ d
    → Among i (hoisted_from d c)
among_hoisted zero c i h some_ l = absurd (omega (arith, some_, l))
among_hoisted (suc d) c i h some_ l = by (left_by c i == suc d) refl (λ less. among_hoisted d c i h some_ less)
  where
    by : (t : Bool) → (left_by c i == suc d) ≡ t → (left_by c i ≤ d → Among i (hoisted_from d c))
        → Among i (hoisted_from (suc d) c)
    by true is rest = among_left (params_where (λ j. left_by c j == suc d) c) (hoisted_from d c) i
        (among_params (λ j. left_by c j == suc d) c i h is)
    by false is rest =
        let less : left_by c i ≤ d = grind (arith, nat_tests) in
        among_right (params_where (λ j. left_by c j == suc d) c) (hoisted_from d c) i (rest less)

-- ---- homes

module _ (b : FormBody) (c : Choice) where
  all_length : length (standing b c) ≡ length (hoisted c) + length (others c) + length (again c)
      + locals_count b.arrays c
  all_length =
      let a = four_lengths (hoisted c) (others c) (again c)
      (range_with_len (length c.in_place) (locals_count b.arrays c)) in
      let l = length-range_with_len (length c.in_place) (locals_count b.arrays c) in
      omega (arith, a, l)

one_or_two : (t : Bool) (base n at o : ℕ) → base ≤ at → at < base + n → (t ≡ true → at + o < base + n)
    → IsHomeIn base n (if t then Twin at (at + o) else Own at)
one_or_two true base n at o low high more = ((low, high), (omega (arith, low), more refl))
one_or_two false base n at o low high more = (low, high)

staying_is : (base : ℕ) (b : FormBody) (c : Choice) (i : ℕ) → position i (others c) < length (others c)
    → IsHomeIn base (length (standing b c)) (moved_home base c i)
staying_is base b c i h =
    let all = all_length b c in
    one_or_two c.overlaps base (length (standing b c)) (base + length (hoisted c) + position i (others c))
    (length (others c)) (omega arith) (omega (arith, h, all)) (λ e.
    let more : length (again c) ≡ length (others c) = ap (λ (t : Bool). length (if t then others c else [])) e in
    omega (arith, h, all, more))

moved_is : (base : ℕ) (b : FormBody) (c : Choice) (i : ℕ) → i < length c.in_place → (t : Bool) → (left_by c i == 0) ≡ t
    → get_or c.in_place i false ≡ false
    → IsHomeIn base (length (standing b c)) (home_of base c i)
moved_is base b c i h true e out =
    let moves : is_moved c i ≡ true = rw (out, e) refl in
    rw (out, e) (staying_is base b c i (found i (others c) (among_params (is_moved c) c i h moves)))
moved_is base b c i h false e out =
    let some_ : 0 < left_by c i = grind (arith, nat_tests) in
    let at = found i (hoisted c) (among_hoisted (deepest c.leaves) c i h some_ (deep c.leaves i)) in
    let all = all_length b c in
    rw (out, e) (omega arith, omega (arith, at, all))

home_is : (base : ℕ) (b : FormBody) (c : Choice) (i : ℕ) → i < length c.in_place → (t : Bool)
    → get_or c.in_place i false ≡ t
    → IsHomeIn base (length (standing b c)) (home_of base c i)
home_is base b c i h true e = rw (e) tt
home_is base b c i h false e = moved_is base b c i h (left_by c i == 0) refl e

pub homes_are_own : HomesAreOwn
homes_are_own base b c i h = home_is base b c i h (get_or c.in_place i false) refl

pub locals_are_own : LocalsAreOwn
locals_are_own base b c i h =
    let all = all_length b c in
    (omega arith, omega (arith, h, all))
