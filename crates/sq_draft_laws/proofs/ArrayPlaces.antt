-- Where the arrays of a form stand among its buffers: what leaves loops; the other arguments that aren't in place, and
-- once more where the loop of the call overlaps its transfers; the locals.
use Rattle.std.proofs.Common.{◌≡◌, ℕ, zero, suc, ◌+◌, ◌==◌, ◌<◌, ◌≤◌, Bool, true, false, not, ◌&&◌, cond, List, []}
use Rattle.std.proofs.Common.{◌∷◌, ◌++◌, length, map, get_or, slice_get, if◌then◌else◌, Some, refl, sym, ap, ap₂, ◌∙◌}
use Rattle.std.proofs.Common.{subst, arith}
use Rattle.std.proofs.lemmas.Bool.Decides.{nat_tests}
use Rattle.std.specs.List.{filter, range_with_len}
use Rattle.sq_spec.specs.declared.body.FormBody.{FormBody}
use Rattle.sq_placed.specs.declared.home.Home.{Home}
use Rattle.sq_placed.specs.declared.home.Home.TheVariants.{InPlace, Own, Held, Twin}
use Rattle.sq_placed.specs.Tables.{leaves_loop}
use Rattle.sq_placed.specs.Trees as trees
use Rattle.sq_placed.specs.Trees.{buffer_of, held_of, twin_of}
use Rattle.sq_program_laws.specs.TermLaws.Orders.{held_at, held_over}
use Rattle.sq_program_laws.specs.TermLaws.Callers.{home_buffers, home_set}
use Rattle.sq_program_laws.specs.PlanLaws.Buffers.{home_buffer}
use Rattle.sq_homes.specs.Chosen.declared.choice.Choice.{Choice}
use Rattle.sq_homes.specs.Chosen.Arrays.{deepest, left_by, is_moved, params_where, hoisted_from, hoisted, others, again}
use Rattle.sq_homes.specs.Chosen.Arrays.{locals_count, standing}
use Rattle.sq_homes.specs.Numbering.{position, home_of, local_base}
use Rattle.sq_draft_laws.proofs.Standing.{get_left, get_right}
use Rattle.sq_draft_laws.proofs.Numbered.{range_joined}
use Rattle.sq_draft_laws.proofs.Lists.{Split, front, behind, split}

-- ---- the place of a number in a list

pub same_number : (m n : ℕ) → (m == n) ≡ true → m ≡ n
same_number m n h = grind (arith, nat_tests)

other_number : (m n : ℕ) → (m == n) ≡ false → m ≡ n → ⊥
other_number m n h e = absurd (grind (arith, nat_tests, e))

number_itself : (n : ℕ) → (n == n) ≡ true
number_itself n = grind (arith, nat_tests)

not_same : (m n : ℕ) → (m ≡ n → ⊥) → (m == n) ≡ false
not_same m n h = by (m == n) refl
  where
    by : (t : Bool) → (m == n) ≡ t → t ≡ false
    by true e = absurd (h (same_number m n e))
    by false e = refl

at_position : (xs : List ℕ) (k i : ℕ) → slice_get xs k ≡ Some i → slice_get xs (position i xs) ≡ Some i
at_position [] k i h = absurd (cc h)
at_position (x ∷ xs) k i h = by (i == x) refl (λ j g. at_position xs j i g) k h
  where
    by : (t : Bool) → (i == x) ≡ t → ((j : ℕ) → slice_get xs j ≡ Some i → slice_get xs (position i xs) ≡ Some i)
        → (j : ℕ) → slice_get (x ∷ xs) j ≡ Some i
        → slice_get (x ∷ xs) (if t then 0 else suc (position i xs)) ≡ Some i
    by true e ih j g = ap Some (sym (same_number i x e))
    by false e ih zero g = let is : x ≡ i = cc g in absurd (other_number i x e (sym is))
    by false e ih (suc j) g = ih j g

within : (xs : List ℕ) (k i : ℕ) → slice_get xs k ≡ Some i → k < length xs
within [] k i e = absurd (cc e)
within (y ∷ xs) zero i e = omega arith
within (y ∷ xs) (suc k) i e = let l = within xs k i e in omega (arith, l)

-- each number stands at its position: no number stands twice
abbrev pub Places : List ℕ → Type 0
Places xs = (k i : ℕ) → slice_get xs k ≡ Some i → position i xs ≡ k

position_left : (i : ℕ) (xs ys : List ℕ) (k : ℕ) → slice_get xs k ≡ Some i → position i (xs ++ ys) ≡ position i xs
position_left i [] ys k h = absurd (cc h)
position_left i (x ∷ xs) ys k h = by (i == x) refl (λ j g. position_left i xs ys j g) k h
  where
    by : (t : Bool) → (i == x) ≡ t → ((j : ℕ) → slice_get xs j ≡ Some i → position i (xs ++ ys) ≡ position i xs)
        → (j : ℕ) → slice_get (x ∷ xs) j ≡ Some i
        → (if t then 0 else suc (position i (xs ++ ys))) ≡ (if t then 0 else suc (position i xs))
    by true e ih j g = refl
    by false e ih zero g = let is : x ≡ i = cc g in absurd (other_number i x e (sym is))
    by false e ih (suc j) g = ap suc (ih j g)

position_right : (i : ℕ) (xs ys : List ℕ) → ((k : ℕ) → slice_get xs k ≡ Some i → ⊥)
    → position i (xs ++ ys) ≡ length xs + position i ys
position_right i [] ys out = omega arith
position_right i (x ∷ xs) ys out =
    let no = not_same i x (λ e. out 0 (ap Some (sym e))) in
    let rest = position_right i xs ys (λ k e. out (suc k) e) in
    ap (λ t. if t then 0 else suc (position i (xs ++ ys))) no ∙ omega (arith, rest)

joined_places : (xs ys : List ℕ) → Places xs → Places ys
    → ((j k i : ℕ) → slice_get xs j ≡ Some i → slice_get ys k ≡ Some i → ⊥) → Places (xs ++ ys)
joined_places xs ys f g apart k i e = by (split xs ys k i e)
  where
    by : Split xs ys k i → position i (xs ++ ys) ≡ k
    by (front d) = position_left i xs ys k d ∙ f k i d
    by (behind j n d) =
        let right = position_right i xs ys (λ m h. apart m j i h d) in
        let own = g j i d in
        omega (arith, right, own, n)

-- a number of a range that passes
record IsKept (p : ℕ → Bool) (a n i : ℕ) : Type 0 where
  passes : p i ≡ true
  low : a ≤ i
  high : i < a + n

further : (p : ℕ → Bool) (a n i : ℕ) → IsKept p (a + 1) n i → IsKept p a (suc n) i
further p a n i h =
    let l = h.low in
    let m = h.high in
    record { passes = h.passes; low = omega (arith, l); high = omega (arith, m) }

filter_kept : (p : ℕ → Bool) (a n k i : ℕ) → slice_get (filter p (range_with_len a n)) k ≡ Some i → IsKept p a n i
filter_kept p a zero k i h = absurd (cc h)
filter_kept p a (suc n) k i h = by (p a) refl (λ j g. further p a n i (filter_kept p (a + 1) n j i g)) k h
  where
    rest : List ℕ
    rest = filter p (range_with_len (a + 1) n)

    by : (t : Bool) → p a ≡ t → ((j : ℕ) → slice_get rest j ≡ Some i → IsKept p a (suc n) i)
        → (j : ℕ) → slice_get (cond t (a ∷ rest) rest) j ≡ Some i → IsKept p a (suc n) i
    by true e ih zero g =
        let is : a ≡ i = cc g in
        record { passes = ap p (sym is) ∙ e; low = omega (arith, is); high = omega (arith, is) }
    by true e ih (suc j) g = ih j g
    by false e ih j g = ih j g

filter_places : (p : ℕ → Bool) (a n : ℕ) → Places (filter p (range_with_len a n))
filter_places p a zero k i h = absurd (cc h)
filter_places p a (suc n) k i h = by (p a) (λ j g. filter_places p (a + 1) n j i g) k h
  where
    rest : List ℕ
    rest = filter p (range_with_len (a + 1) n)

    by : (t : Bool) → ((j : ℕ) → slice_get rest j ≡ Some i → position i rest ≡ j)
        → (j : ℕ) → slice_get (cond t (a ∷ rest) rest) j ≡ Some i → position i (cond t (a ∷ rest) rest) ≡ j
    by true ih zero g =
        let is : a ≡ i = cc g in
        ap (λ t. if t then 0 else suc (position i rest)) (ap (λ m. i == m) is ∙ number_itself i)
    by true ih (suc j) g =
        let l = (filter_kept p (a + 1) n j i g).low in
        ap (λ t. if t then 0 else suc (position i rest)) (not_same i a (λ e. omega (arith, e, l))) ∙ ap suc (ih j g)
    by false ih j g = ih j g

filter_there : (p : ℕ → Bool) (a n i : ℕ) → a ≤ i → i < a + n → p i ≡ true
    → (k : ℕ) × (slice_get (filter p (range_with_len a n)) k ≡ Some i)
filter_there p a zero i low high h = absurd (omega (arith, low, high))
filter_there p a (suc n) i low high h =
    by (p a) refl (a == i) refl (λ above. filter_there p (a + 1) n i above (omega (arith, high)) h)
  where
    rest : List ℕ
    rest = filter p (range_with_len (a + 1) n)

    later : (t : Bool) → (k : ℕ) × (slice_get rest k ≡ Some i)
        → (k : ℕ) × (slice_get (cond t (a ∷ rest) rest) k ≡ Some i)
    later true x = (suc x.0, x.1)
    later false x = x

    above : (a == i) ≡ false → a + 1 ≤ i
    above e = grind (arith, nat_tests, e, low)

    by : (t : Bool) → p a ≡ t → (u : Bool) → (a == i) ≡ u
        → (a + 1 ≤ i → (k : ℕ) × (slice_get rest k ≡ Some i))
        → (k : ℕ) × (slice_get (cond t (a ∷ rest) rest) k ≡ Some i)
    by true e true g ih = (0, ap Some (same_number a i g))
    by false e true g ih = let no : true ≡ false = sym h ∙ (ap p (sym (same_number a i g)) ∙ e) in absurd (cc no)
    by true e false g ih = later true (ih (above g))
    by false e false g ih = later false (ih (above g))

-- ---- numbers in order

map_joined : {A B : Type 0} (f : A → B) (xs ys : List A) → map f (xs ++ ys) ≡ map f xs ++ map f ys
map_joined f [] ys = refl
map_joined f (x ∷ xs) ys = ap (λ l. f x ∷ l) (map_joined f xs ys)

in_order : (f : ℕ → ℕ) (base : ℕ) (xs : List ℕ) → ((k i : ℕ) → slice_get xs k ≡ Some i → f i ≡ base + k)
    → map f xs ≡ range_with_len base (length xs)
in_order f base [] h = refl
in_order f base (x ∷ xs) h =
    let z : base + 0 ≡ base = omega arith in
    ap₂ (λ (y : ℕ) (l : List ℕ). y ∷ l) (h 0 x refl ∙ z)
    (in_order f (base + 1) xs (λ k i e. let next : base + suc k ≡ base + 1 + k = omega arith in h (suc k) i e ∙ next))

numbered : (base : ℕ) (xs : List ℕ) → Places xs
    → map (λ i. base + position i xs) xs ≡ range_with_len base (length xs)
numbered base xs places = in_order (λ i. base + position i xs) base xs (λ k i e. ap (λ m. base + m) (places k i e))

-- ---- what leaves loops, by how many

append_none : (xs : List ℕ) → xs ++ [] ≡ xs
append_none [] = refl
append_none (x ∷ xs) = ap (λ l. x ∷ l) (append_none xs)

append_assoc : (xs ys zs : List ℕ) → (xs ++ ys) ++ zs ≡ xs ++ (ys ++ zs)
append_assoc [] ys zs = refl
append_assoc (x ∷ xs) ys zs = ap (λ l. x ∷ l) (append_assoc xs ys zs)

-- those that leave most of them first
pub held_first : (n base : ℕ) (hs : List Home) → held_over (suc n) base hs ≡ held_at (base + suc n) hs
    ++ held_over n base hs
held_first zero base hs =
    let one : suc base ≡ base + 1 = omega arith in
    ap (λ m. held_at m hs) one ∙ sym (append_none (held_at (base + 1) hs))
held_first (suc n) base hs =
    let next : suc base + suc n ≡ base + suc (suc n) = omega arith in
    ap (λ l. l ++ held_at (suc base) hs) (held_first n (suc base) hs)
    ∙ append_assoc (held_at (suc base + suc n) hs) (held_over n (suc base) hs) (held_at (suc base) hs)
    ∙ ap (λ m. held_at m hs ++ held_over (suc n) base hs) next

-- ---- of a form

module _ (c : Choice) (moved : (i : ℕ) → 0 < left_by c i → get_or c.in_place i false ≡ false) where
  abbrev many : ℕ
  many = length c.in_place

  abbrev pub held_number : (base i : ℕ) → ℕ
  held_number base i = base + position i (hoisted c)

  abbrev pub own_number : (base i : ℕ) → ℕ
  own_number base i = base + length (hoisted c) + position i (others c)

  -- the home of a parameter
  pub data HomeIs (base i : ℕ) : Home → Type 0 where
    stays : get_or c.in_place i false ≡ true → left_by c i ≡ 0 → HomeIs base i InPlace
    owns : get_or c.in_place i false ≡ false → left_by c i ≡ 0 → c.overlaps ≡ false
        → HomeIs base i (Own (own_number base i))
    owns_two : get_or c.in_place i false ≡ false → left_by c i ≡ 0 → c.overlaps ≡ true
        → HomeIs base i (Twin (own_number base i) (own_number base i + length (others c)))
    leaves : (n : ℕ) → get_or c.in_place i false ≡ false → left_by c i ≡ suc n
        → HomeIs base i (Held (held_number base i) (suc n))

  pub home_by : (base i : ℕ) → HomeIs base i (home_of base c i)
  home_by base i = by (get_or c.in_place i false) refl (left_by c i) refl c.overlaps refl
    where
      own : Bool → Home
      own twice = if twice then Twin (own_number base i) (own_number base i + length (others c))
          else Own (own_number base i)

      made : (in_place twice : Bool) → ℕ → Home
      made in_place twice n = if in_place then InPlace
          else (if n == 0 then own twice else Held (held_number base i) n)

      by : (t : Bool) → get_or c.in_place i false ≡ t → (n : ℕ) → left_by c i ≡ n → (u : Bool) → c.overlaps ≡ u
          → HomeIs base i (made (get_or c.in_place i false) c.overlaps (left_by c i))
      by true e zero g u o = subst (λ t. HomeIs base i (made t c.overlaps (left_by c i))) (sym e) (stays e g)
      by true e (suc n) g u o =
          let out = moved i (omega (arith, g)) in
          let no : true ≡ false = sym e ∙ out in
          absurd (cc no)
      by false e zero g false o =
          subst (λ t. HomeIs base i (made t c.overlaps (left_by c i))) (sym e)
          (subst (λ n. HomeIs base i (made false c.overlaps n)) (sym g)
          (subst (λ t. HomeIs base i (made false t 0)) (sym o) (owns e g o)))
      by false e zero g true o =
          subst (λ t. HomeIs base i (made t c.overlaps (left_by c i))) (sym e)
          (subst (λ n. HomeIs base i (made false c.overlaps n)) (sym g)
          (subst (λ t. HomeIs base i (made false t 0)) (sym o) (owns_two e g o)))
      by false e (suc n) g u o =
          subst (λ t. HomeIs base i (made t c.overlaps (left_by c i))) (sym e)
          (subst (λ m. HomeIs base i (made false c.overlaps m)) (sym g)
          (subst (λ t. HomeIs base i (if t then own c.overlaps else Held (held_number base i) (suc n)))
          (sym (not_same (suc n) 0 (λ z. omega (arith, z)))) (leaves n e g)))

  -- ---- what leaves loops

  abbrev at_depth : ℕ → ℕ → Bool
  at_depth d i = left_by c i == suc d

  hoisted_item : (d k i : ℕ) → slice_get (hoisted_from d c) k ≡ Some i → (0 < left_by c i) × (left_by c i ≤ d)
  hoisted_item zero k i h = absurd (cc h)
  hoisted_item (suc d) k i h =
      by (λ j e. hoisted_item d j i e) (split (params_where (at_depth d) c) (hoisted_from d c) k i h)
    where
      by : ((j : ℕ) → slice_get (hoisted_from d c) j ≡ Some i → (0 < left_by c i) × (left_by c i ≤ d))
          → Split (params_where (at_depth d) c) (hoisted_from d c) k i → (0 < left_by c i) × (left_by c i ≤ suc d)
      by ih (front e) =
          let is = same_number (left_by c i) (suc d) (filter_kept (at_depth d) 0 many k i e).passes in
          (omega (arith, is), omega (arith, is))
      by ih (behind j m e) = let r = ih j e in (r.0, let l = r.1 in omega (arith, l))

  hoisted_places : (d : ℕ) → Places (hoisted_from d c)
  hoisted_places zero = λ k i h. absurd (cc h)
  hoisted_places (suc d) =
      joined_places (params_where (at_depth d) c) (hoisted_from d c) (filter_places (at_depth d) 0 many)
      (hoisted_places d)
      (λ j k i e g.
      let is = same_number (left_by c i) (suc d) (filter_kept (at_depth d) 0 many j i e).passes in
      let l = (hoisted_item d k i g).1 in
      omega (arith, is, l))

  hoisted_there : (d i : ℕ) → i < many → 0 < left_by c i → left_by c i ≤ d
      → (k : ℕ) × (slice_get (hoisted_from d c) k ≡ Some i)
  hoisted_there zero i h some most = absurd (omega (arith, some, most))
  hoisted_there (suc d) i h some most =
      by (left_by c i == suc d) refl (λ less. hoisted_there d i h some less)
    where
      shallow : (left_by c i == suc d) ≡ false → left_by c i ≤ d
      shallow e = grind (arith, nat_tests, e, most)

      by : (t : Bool) → (left_by c i == suc d) ≡ t
          → (left_by c i ≤ d → (k : ℕ) × (slice_get (hoisted_from d c) k ≡ Some i))
          → (k : ℕ) × (slice_get (hoisted_from (suc d) c) k ≡ Some i)
      by true e ih =
          let xs = params_where (at_depth d) c in
          let x = filter_there (at_depth d) 0 many i (omega arith) (omega (arith, h)) e in
          (x.0, get_left xs (hoisted_from d c) x.0 (within xs x.0 i x.1) ∙ x.1)
      by false e ih =
          let x = ih (shallow e) in
          let xs = params_where (at_depth d) c in
          (length xs + x.0, get_right xs (hoisted_from d c) x.0 ∙ x.1)

  pub deep : (ls : List ℕ) (i : ℕ) → get_or ls i 0 ≤ deepest ls
  deep [] i = omega arith
  deep (l ∷ ls) zero = omega arith
  deep (l ∷ ls) (suc i) = let h = deep ls i in omega (arith, h)

  -- ---- the arrays in the order of their buffers

  module _ (b : FormBody) where
    abbrev locals : List ℕ
    locals = range_with_len many (locals_count b.arrays c)

    abbrev behind_those : List ℕ
    behind_those = again c ++ locals

    -- the array that has this buffer stands at this place
    pub record StandsAt (base i n : ℕ) : Type 0 where
      pub place : ℕ
      pub number : n ≡ base + place
      pub stands : slice_get (standing b c) place ≡ Some i

    in_front : (place i : ℕ) → slice_get (hoisted c) place ≡ Some i → slice_get (standing b c) place ≡ Some i
    in_front place i e =
        get_left (hoisted c) (others c ++ behind_those) place (within (hoisted c) place i e) ∙ e

    in_middle : (place i : ℕ) → slice_get (others c) place ≡ Some i
        → slice_get (standing b c) (length (hoisted c) + place) ≡ Some i
    in_middle place i e =
        get_right (hoisted c) (others c ++ behind_those) place
        ∙ (get_left (others c) behind_those place (within (others c) place i e) ∙ e)

    -- in the second set
    in_second : (place i : ℕ) → slice_get (again c) place ≡ Some i
        → slice_get (standing b c) (length (hoisted c) + (length (others c) + place)) ≡ Some i
    in_second place i e =
        get_right (hoisted c) (others c ++ behind_those) (length (others c) + place)
        ∙ (get_right (others c) behind_those place
        ∙ (get_left (again c) locals place (within (again c) place i e) ∙ e))

    -- the place of what is moved, among those of one set
    other_there : (i : ℕ) → i < many → get_or c.in_place i false ≡ false → left_by c i ≡ 0
        → slice_get (others c) (position i (others c)) ≡ Some i
    other_there i less f l =
        let moves : is_moved c i ≡ true = ap₂ (λ t m. not t && (m == 0)) f l in
        let x = filter_there (is_moved c) 0 many i (omega arith) (omega (arith, less)) moves in
        at_position (others c) x.0 i x.1

    pub others_some : (i : ℕ) → i < many → get_or c.in_place i false ≡ false → left_by c i ≡ 0 → 0 < length (others c)
    others_some i less f l =
        let w = within (others c) (position i (others c)) i (other_there i less f l) in omega (arith, w)

    own_stands : (base i : ℕ) → i < many → get_or c.in_place i false ≡ false → left_by c i ≡ 0
        → StandsAt base i (own_number base i)
    own_stands base i less f l = record {
      place = length (hoisted c) + position i (others c);
      number = omega arith;
      stands = in_middle (position i (others c)) i (other_there i less f l);
    }

    pub param_stands : (base i n : ℕ) → i < many → home_buffer (home_of base c i) ≡ Some n → StandsAt base i n
    param_stands base i n less h = by (home_by base i) h
      where
        by : {x : Home} → HomeIs base i x → home_buffer x ≡ Some n → StandsAt base i n
        by (stays f l) e = absurd (cc e)
        by (owns f l o) e = let is : own_number base i ≡ n = cc e in subst (StandsAt base i) is (own_stands base i less f l)
        by (owns_two f l o) e
            = let is : own_number base i ≡ n = cc e in subst (StandsAt base i) is (own_stands base i less f l)
        by (leaves m f l) e =
            let is : held_number base i ≡ n = cc e in
            let x = hoisted_there (deepest c.leaves) i less (omega (arith, l)) (deep c.leaves i) in
            record {
              place = position i (hoisted c);
              number = sym is;
              stands = in_front (position i (hoisted c)) i (at_position (hoisted c) x.0 i x.1);
            }

    -- the buffer of a parameter in the second set
    pub second_stands : (base i m n : ℕ) → i < many → home_of base c i ≡ Twin m n → StandsAt base i n
    second_stands base i m n less h = by (home_by base i) h
      where
        by : {x : Home} → HomeIs base i x → x ≡ Twin m n → StandsAt base i n
        by (stays f l) e = absurd (cc e)
        by (owns f l o) e = absurd (cc e)
        by (owns_two f l o) e =
            let is : own_number base i + length (others c) ≡ n = cc e in
            record {
              place = length (hoisted c) + (length (others c) + position i (others c));
              number = omega (arith, is);
              stands = in_second (position i (others c)) i
                  (ap (λ (t : Bool). slice_get (if t then others c else []) (position i (others c))) o
                  ∙ other_there i less f l);
            }
        by (leaves k f l) e = absurd (cc e)

    range_there : (a n i : ℕ) → i < n → slice_get (range_with_len a n) i ≡ Some (a + i)
    range_there a zero i h = absurd (omega (arith, h))
    range_there a (suc n) zero h = let e : a ≡ a + 0 = omega arith in ap Some e
    range_there a (suc n) (suc i) h =
        let e : a + 1 + i ≡ a + suc i = omega arith in range_there (a + 1) n i (omega (arith, h)) ∙ ap Some e

    -- a local's
    pub local_stands : (base j : ℕ) → j < locals_count b.arrays c → StandsAt base (many + j) (local_base base c + j)
    local_stands base j less = record {
      place = length (hoisted c) + (length (others c) + (length (again c) + j));
      number = omega arith;
      stands = get_right (hoisted c) (others c ++ behind_those) (length (others c) + (length (again c) + j))
          ∙ (get_right (others c) behind_those (length (again c) + j)
          ∙ (get_right (again c) locals j ∙ range_there many (locals_count b.arrays c) j less));
    }

  -- ---- their buffers are in order

  module _ (base : ℕ) where
    abbrev params : List Home
    params = map (home_of base c) (range_with_len 0 many)

    at_is : (d a n : ℕ) → held_at (suc d) (map (home_of base c) (range_with_len a n))
        ≡ map (held_number base) (filter (λ i. left_by c i == suc d) (range_with_len a n))
    at_is d a zero = refl
    at_is d a (suc n) = head (at_is d (a + 1) n) (home_by base a)
      where
        rest : List ℕ
        rest = held_at (suc d) (map (home_of base c) (range_with_len (a + 1) n))

        those : List ℕ
        those = filter (λ i. left_by c i == suc d) (range_with_len (a + 1) n)

        one : rest ≡ map (held_number base) those → (t : Bool) → (if t then held_number base a ∷ rest else rest)
            ≡ map (held_number base) (cond t (a ∷ those) those)
        one ih true = ap (λ l. held_number base a ∷ l) ih
        one ih false = ih

        out : left_by c a ≡ 0 → (left_by c a == suc d) ≡ false
        out l = not_same (left_by c a) (suc d) (λ e. omega (arith, e, l))

        head : rest ≡ map (held_number base) those → {h : Home} → HomeIs base a h
            → (if leaves_loop (suc d) h then held_of h rest else rest)
            ≡ map (held_number base) (cond (left_by c a == suc d) (a ∷ those) those)
        head ih (stays f l) = one ih false
            ∙ ap (λ (t : Bool). map (held_number base) (cond t (a ∷ those) those)) (sym (out l))
        head ih (owns f l o) = one ih false
            ∙ ap (λ (t : Bool). map (held_number base) (cond t (a ∷ those) those)) (sym (out l))
        head ih (owns_two f l o) = one ih false
            ∙ ap (λ (t : Bool). map (held_number base) (cond t (a ∷ those) those)) (sym (out l))
        head ih (leaves m f l) = one ih (suc m == suc d)
            ∙ ap (λ (k : ℕ). map (held_number base) (cond (k == suc d) (a ∷ those) those)) (sym l)

    all_at : (d : ℕ) → held_over d 0 params ≡ map (held_number base) (hoisted_from d c)
    all_at zero = refl
    all_at (suc d) =
        let z : 0 + suc d ≡ suc d = omega arith in
        held_first d 0 params
        ∙ ap₂ (λ (xs ys : List ℕ). xs ++ ys) (ap (λ m. held_at m params) z ∙ at_is d 0 many) (all_at d)
        ∙ sym (map_joined (held_number base) (params_where (λ i. left_by c i == suc d) c) (hoisted_from d c))

    -- of what leaves loops
    pub held_are : held_over (deepest c.leaves) 0 params ≡ range_with_len base (length (hoisted c))
    held_are = all_at (deepest c.leaves) ∙ numbered base (hoisted c) (hoisted_places (deepest c.leaves))

    -- ---- and of the others, one set or two

    moves : (i : ℕ) {h : Home} → HomeIs base i h → is_moved c i ≡ trees.is_moved h
    moves i (stays f l) = ap (λ (t : Bool). not t && (left_by c i == 0)) f
    moves i (owns f l o) = ap₂ (λ t m. not t && (m == 0)) f l
    moves i (owns_two f l o) = ap₂ (λ t m. not t && (m == 0)) f l
    moves i (leaves m f l) = ap₂ (λ t k. not t && (k == 0)) f l ∙ not_same (suc m) 0 (λ z. omega (arith, z))

    abbrev homes_from : (a n : ℕ) → List Home
    homes_from a n = map (home_of base c) (range_with_len a n)

    module _ (all : List Home → List ℕ) (made : Home → List ℕ → List ℕ) (none : all [] ≡ [])
        (more : (h : Home) (hs : List Home) → all (h ∷ hs) ≡ made h (all hs)) where
      -- where each of them has a number
      numbers_at : (number : ℕ → ℕ) → ((i : ℕ) (h : Home) → HomeIs base i h → (rest : List ℕ) → made h rest
          ≡ (if trees.is_moved h then number i ∷ rest else rest))
          → (a n : ℕ) → all (homes_from a n) ≡ map number (filter (is_moved c) (range_with_len a n))
      numbers_at number each a zero = none
      numbers_at number each a (suc n) =
          more (home_of base c a) (homes_from (a + 1) n)
          ∙ each a (home_of base c a) (home_by base a) (all (homes_from (a + 1) n))
          ∙ ap (λ (t : Bool). if t then number a ∷ all (homes_from (a + 1) n) else all (homes_from (a + 1) n))
          (sym (moves a (home_by base a)))
          ∙ by (is_moved c a) (numbers_at number each (a + 1) n)
        where
          those : List ℕ
          those = filter (is_moved c) (range_with_len (a + 1) n)

          by : (t : Bool) → all (homes_from (a + 1) n) ≡ map number those
              → (if t then number a ∷ all (homes_from (a + 1) n) else all (homes_from (a + 1) n))
              ≡ map number (cond t (a ∷ those) those)
          by true ih = ap (λ l. number a ∷ l) ih
          by false ih = ih

      -- and where none has
      nothing_at : ((i : ℕ) (h : Home) → HomeIs base i h → (rest : List ℕ) → made h rest ≡ rest) → (a n : ℕ)
          → all (homes_from a n) ≡ []
      nothing_at each a zero = none
      nothing_at each a (suc n) = more (home_of base c a) (homes_from (a + 1) n)
          ∙ each a (home_of base c a) (home_by base a) (all (homes_from (a + 1) n)) ∙ nothing_at each (a + 1) n

    other_way : {A : Type 0} → c.overlaps ≡ false → c.overlaps ≡ true → A
    other_way e o = let no : true ≡ false = sym o ∙ e in absurd (cc no)

    abbrev first_other : ℕ
    first_other = base + length (hoisted c)

    one_set : c.overlaps ≡ false → home_buffers params ≡ range_with_len first_other (length (others c))
    one_set e = numbers_at home_buffers buffer_of refl (λ h hs. refl) (own_number base) (λ i h x rest. each i x rest) 0 many
        ∙ numbered first_other (others c) (filter_places (is_moved c) 0 many)
      where
        each : (i : ℕ) {h : Home} → HomeIs base i h → (rest : List ℕ) → buffer_of h rest
            ≡ (if trees.is_moved h then own_number base i ∷ rest else rest)
        each i (stays f l) rest = refl
        each i (owns f l o) rest = refl
        each i (owns_two f l o) rest = other_way e o
        each i (leaves m f l) rest = refl

    no_sets : (k : ℕ) → c.overlaps ≡ false → home_set k params ≡ []
    no_sets k e = nothing_at (home_set k) (twin_of k) refl (λ h hs. refl) (λ i h x rest. each k i x rest) 0 many
      where
        each : (k i : ℕ) {h : Home} → HomeIs base i h → (rest : List ℕ) → twin_of k h rest ≡ rest
        each zero i (stays f l) rest = refl
        each zero i (owns f l o) rest = refl
        each zero i (owns_two f l o) rest = other_way e o
        each zero i (leaves m f l) rest = refl
        each (suc k) i (stays f l) rest = refl
        each (suc k) i (owns f l o) rest = refl
        each (suc k) i (owns_two f l o) rest = other_way e o
        each (suc k) i (leaves m f l) rest = refl

    no_own : c.overlaps ≡ true → home_buffers params ≡ []
    no_own e = nothing_at home_buffers buffer_of refl (λ h hs. refl) (λ i h x rest. each i x rest) 0 many
      where
        each : (i : ℕ) {h : Home} → HomeIs base i h → (rest : List ℕ) → buffer_of h rest ≡ rest
        each i (stays f l) rest = refl
        each i (owns f l o) rest = other_way o e
        each i (owns_two f l o) rest = refl
        each i (leaves m f l) rest = refl

    first_set : c.overlaps ≡ true → home_set 0 params ≡ range_with_len first_other (length (others c))
    first_set e = numbers_at (home_set 0) (twin_of 0) refl (λ h hs. refl) (own_number base) (λ i h x rest. each i x rest) 0 many
        ∙ numbered first_other (others c) (filter_places (is_moved c) 0 many)
      where
        each : (i : ℕ) {h : Home} → HomeIs base i h → (rest : List ℕ) → twin_of 0 h rest
            ≡ (if trees.is_moved h then own_number base i ∷ rest else rest)
        each i (stays f l) rest = refl
        each i (owns f l o) rest = other_way o e
        each i (owns_two f l o) rest = refl
        each i (leaves m f l) rest = refl

    abbrev second_number : ℕ → ℕ
    second_number i = own_number base i + length (others c)

    second_in_order : map second_number (others c) ≡ range_with_len (first_other + length (others c)) (length (others c))
    second_in_order = in_order second_number (first_other + length (others c)) (others c) (λ k i e.
        let z = filter_places (is_moved c) 0 many k i e in omega (arith, z))

    second_set : c.overlaps ≡ true
        → home_set 1 params ≡ range_with_len (first_other + length (others c)) (length (others c))
    second_set e = numbers_at (home_set 1) (twin_of 1) refl (λ h hs. refl) second_number (λ i h x rest. each i x rest) 0 many ∙ second_in_order
      where
        each : (i : ℕ) {h : Home} → HomeIs base i h → (rest : List ℕ) → twin_of 1 h rest
            ≡ (if trees.is_moved h then second_number i ∷ rest else rest)
        each i (stays f l) rest = refl
        each i (owns f l o) rest = other_way o e
        each i (owns_two f l o) rest = refl
        each i (leaves m f l) rest = refl

    -- with the locals behind them
    pub others_are : (ls : List ℕ) (k : ℕ) → ls ≡ range_with_len (local_base base c) k
        → home_buffers params ++ (home_set 0 params ++ (home_set 1 params ++ ls))
        ≡ range_with_len first_other (length (others c) + (length (again c) + k))
    others_are ls k is = by c.overlaps refl
      where
        o : ℕ
        o = length (others c)

        by : (t : Bool) → c.overlaps ≡ t → home_buffers params ++ (home_set 0 params ++ (home_set 1 params ++ ls))
            ≡ range_with_len first_other (o + (length (again c) + k))
        by false e =
            let none : length (again c) ≡ 0 = ap (λ (t : Bool). length (if t then others c else [])) e in
            let at : local_base base c ≡ first_other + o = omega (arith, none) in
            let all : o + k ≡ o + (length (again c) + k) = omega (arith, none) in
            ap₂ (λ (xs ys : List ℕ). xs ++ ys) (one_set e)
            (ap₂ (λ (xs ys : List ℕ). xs ++ (ys ++ ls)) (no_sets 0 e) (no_sets 1 e) ∙ is ∙ ap (λ m. range_with_len m k) at)
            ∙ range_joined first_other o k ∙ ap (range_with_len first_other) all
        by true e =
            let two : length (again c) ≡ o = ap (λ (t : Bool). length (if t then others c else [])) e in
            let at : local_base base c ≡ first_other + o + o = omega (arith, two) in
            let all : o + (o + k) ≡ o + (length (again c) + k) = omega (arith, two) in
            ap₂ (λ (xs ys : List ℕ). xs ++ ys) (no_own e)
            (ap₂ (λ (xs ys : List ℕ). xs ++ ys) (first_set e)
            (ap₂ (λ (xs ys : List ℕ). xs ++ ys) (second_set e) (is ∙ ap (λ m. range_with_len m k) at)
            ∙ range_joined (first_other + o) o k))
            ∙ range_joined first_other o (o + k) ∙ ap (range_with_len first_other) all
