-- Each buffer of a form stands where the form's tables bring its buffers.
use Rattle.std.proofs.Common.{◌≡◌, ℕ, zero, suc, ◌+◌, ◌-◌, ◌<◌, ◌≤◌, ◌==◌, nat_lt, Bool, true, false, List, [], ◌∷◌, ◌++◌, map, length, get_or, slice_get, Some, ◌⊎◌, inl, inr, if◌then◌else◌, refl, sym, ap, ap₂, ◌∙◌, subst, arith, length-append}
use Rattle.std.specs.List.{Contains, range_with_len}
use Rattle.std.proofs.lemmas.Bool.{eqb-true, eqb-false, ltb-true, ltb-false}
use Rattle.std.proofs.lemmas.List.FromFn.{length-range_with_len}
use Rattle.sq_ir.proofs.OpenScopes.{contains-first, contains-none}
use Rattle.sq_blocks.specs.declared.argument.Argument.{Argument}
use Rattle.sq_spec.specs.declared.body.FormBody.{FormBody}
use Rattle.sq_spec.specs.declared.resolved.Resolved.{Resolved}
use Rattle.sq_meant.specs.PlanGood.DraftLaws.Choosing.{Walked, MayBeChosen}
use Rattle.sq_meant.specs.PlanGood.DraftLaws.HomesFit.{HasOwn}
use Rattle.sq_meant.specs.PlanGood.DraftLaws.TermLaws.Callers.{home_buffers, home_set}
use Rattle.sq_meant.specs.PlanGood.DraftLaws.TermLaws.Orders.{EachOf, held_at, held_over}
use Rattle.sq_meant.specs.PlanGood.DraftLaws.TermLaws.Overlapping.{IsSuited}
use Rattle.sq_meant.specs.PlanGood.Homes.Chosen.declared.choice.Choice.{Choice}
use Rattle.sq_meant.specs.PlanGood.Homes.Chosen.Forms.{bodies_of, choice_in}
use Rattle.sq_meant.specs.PlanGood.Homes.Drafts.{homes_of, buffers_from, buffers_of, buffer_at}
use Rattle.sq_meant.specs.PlanGood.Homes.Chosen.Arrays.{deepest, hoisted, others, again, locals_count, standing}
use Rattle.sq_meant.specs.PlanGood.Loops.{standing_from, brought_by}
use Rattle.sq_meant.specs.PlanGood.Loops as loops
use Rattle.sq_meant.specs.PlanGood.Term.Placed.declared.home.Home.{Home}
use Rattle.sq_meant.specs.PlanGood.Term.Placed.declared.home.Home.TheVariants.{InPlace, Own, Held, Twin}
use Rattle.sq_meant.specs.PlanGood.Term.Placed.declared.home.Homes.{Homes}
use Rattle.sq_meant.specs.PlanGood.Term.Placed.Tables.{locals_of}
use Rattle.sq_meant.specs.PlanGood.Term.Placed.Trees.{local_buffers}
use Rattle.sq_meant.specs.PlanGood.Term.Terms.{body_in, homes_in, buffer_or}
use Rattle.sq_meant.proofs.PlanGood.DraftLaws.ArrayPlaces.{held_are, others_are}
use Rattle.sq_meant.proofs.PlanGood.DraftLaws.Hoisted.{IsForm, is_form}
use Rattle.sq_meant.proofs.PlanGood.DraftLaws.Hoisting.{chosen_stand}
use Rattle.sq_meant.proofs.PlanGood.DraftLaws.Numbered.{range_joined}
use Rattle.sq_meant.proofs.PlanGood.DraftLaws.Numbers.{before, first_of}
use Rattle.sq_meant.proofs.PlanGood.DraftLaws.Ordered.{locals_are}

-- ---- lists

in_left : (xs ys : List ℕ) (b : ℕ) → Contains xs b → Contains (xs ++ ys) b
in_left [] ys b c = absurd (contains-none b c)
in_left (x ∷ xs) ys b (zero, l, e) = (0, omega arith, e)
in_left (x ∷ xs) ys b (suc k, l, e) = let r = in_left xs ys b (k, omega (arith, l), e) in let m = r.1 in (suc r.0, omega (arith, m), r.2)

in_right : (xs ys : List ℕ) (b : ℕ) → Contains ys b → Contains (xs ++ ys) b
in_right [] ys b c = c
in_right (x ∷ xs) ys b c = let r = in_right xs ys b c in let m = r.1 in (suc r.0, omega (arith, m), r.2)

split : (xs ys : List ℕ) (b : ℕ) → Contains (xs ++ ys) b → Contains xs b ⊎ Contains ys b
split [] ys b c = inr c
split (x ∷ xs) ys b (zero, l, e) = inl (0, omega arith, e)
split (x ∷ xs) ys b (suc k, l, e) = later (split xs ys b (k, omega (arith, l), e))
  where
    later : Contains xs b ⊎ Contains ys b → Contains (x ∷ xs) b ⊎ Contains ys b
    later (inl r) = inl (suc r.0, (let m = r.1 in omega (arith, m)), r.2)
    later (inr r) = inr r

rest_there : (x : ℕ) (xs : List ℕ) (b : ℕ) → Contains xs b → Contains (x ∷ xs) b
rest_there x xs b r = (suc r.0, (let m = r.1 in omega (arith, m)), r.2)

ranged : (n m b : ℕ) → n ≤ b → b < n + m → Contains (range_with_len n m) b
ranged n zero b low high = absurd (omega (arith, low, high))
ranged n (suc m) b low high = by (n == b) refl (λ l. ranged (n + 1) m b l (omega (arith, high)))
  where
    by : (v : Bool) → (n == b) ≡ v → (n + 1 ≤ b → Contains (range_with_len (n + 1) m) b) → Contains (n ∷ range_with_len (n + 1) m) b
    by true e more = (0, omega arith, eqb-true n b e)
    by false e more = rest_there n (range_with_len (n + 1) m) b (more (let f = eqb-false n b e in omega (arith, low, f)))

-- ---- the home of a buffer

abbrev IsOf : ℕ → Home → Type 0
IsOf b InPlace = ⊥
IsOf b (Own x) = x ≡ b
IsOf b (Held x n) = x ≡ b
IsOf b (Twin x y) = (x ≡ b) ⊎ (y ≡ b)

record Has (hs : List Home) (b : ℕ) : Type 0 where
  index : ℕ
  home : Home
  there : slice_get hs index ≡ Some home
  is : IsOf b home

first_has : (h : Home) (hs : List Home) (b : ℕ) → IsOf b h → Has (h ∷ hs) b
first_has h hs b is = record { index = 0; home = h; there = refl; is = is }

later_has : (h : Home) (hs : List Home) (b : ℕ) → Has hs b → Has (h ∷ hs) b
later_has h hs b x = record { index = suc x.index; home = x.home; there = x.there; is = x.is }

-- it is the first, or one of the others
either : {A : Type 0} (x : ℕ) (xs : List ℕ) (b : ℕ) → Contains (x ∷ xs) b → (x ≡ b → A) → (Contains xs b → A) → A
either {A} x xs b c f g = by (contains-first x xs b c)
  where
    by : (x ≡ b) ⊎ Contains xs b → A
    by (inl e) = f e
    by (inr r) = g r

at_has : (n : ℕ) (hs : List Home) (b : ℕ) → Contains (held_at n hs) b → Has hs b
at_has n [] b c = absurd (contains-none b c)
at_has n (InPlace ∷ hs) b c = later_has InPlace hs b (at_has n hs b c)
at_has n (Own x ∷ hs) b c = later_has (Own x) hs b (at_has n hs b c)
at_has n (Held x m ∷ hs) b c = by (m == n) c (λ r. at_has n hs b r)
  where
    by : (v : Bool) → Contains (if v then x ∷ held_at n hs else held_at n hs) b → (Contains (held_at n hs) b → Has hs b) → Has (Held x m ∷ hs) b
    by true d more = either x (held_at n hs) b d (first_has (Held x m) hs b) (λ r. later_has (Held x m) hs b (more r))
    by false d more = later_has (Held x m) hs b (more d)
at_has n (Twin x y ∷ hs) b c = later_has (Twin x y) hs b (at_has n hs b c)

over_has : (n base : ℕ) (hs : List Home) (b : ℕ) → Contains (held_over n base hs) b → Has hs b
over_has zero base hs b c = absurd (contains-none b c)
over_has (suc n) base hs b c = by (split (held_over n (suc base) hs) (held_at (suc base) hs) b c) (λ r. over_has n (suc base) hs b r)
  where
    by : Contains (held_over n (suc base) hs) b ⊎ Contains (held_at (suc base) hs) b → (Contains (held_over n (suc base) hs) b → Has hs b) → Has hs b
    by (inl r) more = more r
    by (inr r) more = at_has (suc base) hs b r

own_has : (hs : List Home) (b : ℕ) → Contains (home_buffers hs) b → Has hs b
own_has [] b c = absurd (contains-none b c)
own_has (InPlace ∷ hs) b c = later_has InPlace hs b (own_has hs b c)
own_has (Own x ∷ hs) b c = either x (home_buffers hs) b c (first_has (Own x) hs b) (λ r. later_has (Own x) hs b (own_has hs b r))
own_has (Held x n ∷ hs) b c = later_has (Held x n) hs b (own_has hs b c)
own_has (Twin x y ∷ hs) b c = later_has (Twin x y) hs b (own_has hs b c)

set_has : (k : ℕ) (hs : List Home) (b : ℕ) → Contains (home_set k hs) b → Has hs b
set_has k [] b c = absurd (contains-none b c)
set_has k (InPlace ∷ hs) b c = later_has InPlace hs b (set_has k hs b c)
set_has k (Own x ∷ hs) b c = later_has (Own x) hs b (set_has k hs b c)
set_has k (Held x n ∷ hs) b c = later_has (Held x n) hs b (set_has k hs b c)
set_has zero (Twin x y ∷ hs) b c =
    either x (home_set 0 hs) b c (λ e. first_has (Twin x y) hs b (inl e)) (λ r. later_has (Twin x y) hs b (set_has 0 hs b r))
set_has (suc k) (Twin x y ∷ hs) b c =
    either y (home_set (suc k) hs) b c (λ e. first_has (Twin x y) hs b (inr e)) (λ r. later_has (Twin x y) hs b (set_has (suc k) hs b r))

-- ---- what is brought

stays_there : (o : Bool) (h : Home) (xs : List ℕ) (b : ℕ) → Contains xs b → Contains (loops.standing o h xs) b
stays_there o InPlace xs b c = c
stays_there true (Own x) xs b c = c
stays_there false (Own x) xs b c = rest_there x xs b c
stays_there o (Held x n) xs b c = rest_there x xs b c
stays_there true (Twin x y) xs b c = rest_there x (y ∷ xs) b (rest_there y xs b c)
stays_there false (Twin x y) xs b c = c

no : {A : Type 0} → true ≡ false → A
no e = absurd (cc e)

is_there : (o : Bool) (h : Home) (xs : List ℕ) (b : ℕ) → IsSuited o h → IsOf b h → Contains (loops.standing o h xs) b
is_there o InPlace xs b s is = absurd is
is_there true (Own x) xs b s is = no s
is_there false (Own x) xs b s is = (0, omega arith, is)
is_there o (Held x n) xs b s is = (0, omega arith, is)
is_there true (Twin x y) xs b s (inl is) = (0, omega arith, is)
is_there true (Twin x y) xs b s (inr is) = (1, omega arith, is)
is_there false (Twin x y) xs b s is = no (sym s)

from_there : (o : Bool) (hs : List Home) (j : ℕ) (b : ℕ) → IsSuited o (get_or hs j InPlace) → IsOf b (get_or hs j InPlace)
    → (i : ℕ) (args : List Argument) → i ≤ j → j < i + length args → Contains (standing_from o hs i args) b
from_there o hs j b s is i [] low high = absurd (omega (arith, low, high))
from_there o hs j b s is i (a ∷ args) low high = by (i == j) refl (λ l. from_there o hs j b s is (suc i) args l (omega (arith, high)))
  where
    by : (v : Bool) → (i == j) ≡ v → (suc i ≤ j → Contains (standing_from o hs (suc i) args) b)
        → Contains (loops.standing o (get_or hs i InPlace) (standing_from o hs (suc i) args)) b
    by true e more =
        subst (λ (m : ℕ). Contains (loops.standing o (get_or hs m InPlace) (standing_from o hs (suc i) args)) b) (sym (eqb-true i j e))
        (is_there o (get_or hs j InPlace) (standing_from o hs (suc i) args) b s is)
    by false e more =
        stays_there o (get_or hs i InPlace) (standing_from o hs (suc i) args) b (more (let f = eqb-false i j e in omega (arith, low, f)))

suited_at : (o : Bool) (hs : List Home) → EachOf (IsSuited o) hs → (i : ℕ) (h : Home) → slice_get hs i ≡ Some h → IsSuited o h
suited_at o [] s i h e = absurd (cc e)
suited_at o (x ∷ hs) s zero h e = let is : x ≡ h = cc e in subst (IsSuited o) is s.0
suited_at o (x ∷ hs) s (suc i) h e = suited_at o hs s.1 i h e

or_there : (hs : List Home) (i : ℕ) (h : Home) → slice_get hs i ≡ Some h → (get_or hs i InPlace ≡ h) × (i < length hs)
or_there [] i h e = absurd (cc e)
or_there (x ∷ hs) zero h e = (cc e, omega arith)
or_there (x ∷ hs) (suc i) h e = let t = or_there hs i h e in let l = t.1 in (t.0, omega (arith, l))

-- of the entry's parameters, whose homes are buffers
entry_has : (hs : List Home) → ((i : ℕ) (h : Home) → slice_get hs i ≡ Some h → HasOwn h) → (i b : ℕ) (h : Home) → slice_get hs i ≡ Some h → IsOf b h
    → Contains (map buffer_or hs) b
entry_has [] own i b h e is = absurd (cc e)
entry_has (x ∷ hs) own zero b h e is =
    let same : x ≡ h = cc e in
    let o = own 0 x refl in
    let owned : h ≡ Own o.buffer = sym same ∙ o.is in
    (0, omega arith, ap buffer_or o.is ∙ subst (IsOf b) owned is)
entry_has (x ∷ hs) own (suc i) b h e is = rest_there (buffer_or x) (map buffer_or hs) b (entry_has hs (λ j g d. own (suc j) g d) i b h e is)

-- ---- forms

-- where a buffer stands: the form, and how many of its buffers stand in front
record Located (r : Resolved) (choices : List Choice) (k : ℕ) (bs : List FormBody) (b : ℕ) : Type 0 where
  form : ℕ
  body : FormBody
  there : slice_get bs form ≡ Some body
  index : ℕ
  less : index < length (standing body (choice_in choices (k + form)))
  is : b ≡ before choices k bs form + index

many_same : {A B : Type 0} (f : A → B) (xs : List A) → length (map f xs) ≡ length xs
many_same f [] = refl
many_same f (x ∷ xs) = ap suc (many_same f xs)

locate : (r : Resolved) (choices : List Choice) (k : ℕ) (bs : List FormBody) (b : ℕ) → b < length (buffers_from r choices k bs) → Located r choices k bs b
locate r choices k [] b lt = absurd (omega (arith, lt))
locate r choices k (x ∷ bs) b lt =
    by (nat_lt b (length (standing x (choice_in choices k)))) refl (λ l. locate r choices (suc k) bs (b - length (standing x (choice_in choices k))) l)
  where
    mine : List ℕ
    mine = standing x (choice_in choices k)

    all : length (buffers_from r choices k (x ∷ bs)) ≡ length mine + length (buffers_from r choices (suc k) bs)
    all = length-append (map (buffer_at r k x) mine) (buffers_from r choices (suc k) bs) ∙ ap (λ n. n + length (buffers_from r choices (suc k) bs)) (many_same (buffer_at r k x) mine)

    by : (v : Bool) → nat_lt b (length mine) ≡ v
        → (b - length mine < length (buffers_from r choices (suc k) bs) → Located r choices (suc k) bs (b - length mine)) → Located r choices k (x ∷ bs) b
    by true e more =
        let zero_on : k ≡ k + 0 = omega arith in
        record {
          form = 0;
          body = x;
          there = refl;
          index = b;
          less = subst (λ (j : ℕ). b < length (standing x (choice_in choices j))) zero_on (ltb-true b (length mine) e);
          is = omega arith;
        }
    by false e more =
        let past = ltb-false b (length mine) e in
        let count = all in
        let t = more (omega (arith, lt, count, past)) in
        let is = t.is in
        let next : suc k + t.form ≡ k + suc t.form = omega arith in
        record {
          form = suc t.form;
          body = t.body;
          there = t.there;
          index = t.index;
          less = subst (λ (j : ℕ). t.index < length (standing t.body (choice_in choices j))) next t.less;
          is = omega (arith, is, past);
        }

module _ (r : Resolved) (w : Walked r) (choices : List Choice) (may : MayBeChosen r choices) where
  abbrev bodies : ℕ → FormBody
  bodies = body_in (bodies_of r)

  abbrev homes : ℕ → Homes
  homes = homes_in (homes_of r choices)

  module _ (k : ℕ) (x : FormBody) (there : slice_get (bodies_of r) k ≡ Some x) where
    abbrev its : IsForm r choices may k x
    its = is_form r choices may k x there

    abbrev c : Choice
    c = choice_in choices k

    abbrev first : ℕ
    first = first_of r choices k

    abbrev kept : ℕ
    kept = locals_count x.arrays c

    abbrev hs : List Home
    hs = (homes k).params

    abbrev locals : List ℕ
    locals = local_buffers (locals_of (bodies k) (homes k))

    many : length (standing x c) ≡ length (hoisted c) + (length (others c) + (length (again c) + kept))
    many =
        let ls = range_with_len (length c.in_place) kept in
        let a = length-append (hoisted c) (others c ++ (again c ++ ls)) in
        let d = length-append (others c) (again c ++ ls) in
        let e = length-append (again c) ls in
        let l = length-range_with_len (length c.in_place) kept in
        omega (arith, a, d, e, l)

    -- the form's buffers, by its homes
    own_are : held_over (deepest c.leaves) 0 hs ++ (home_buffers hs ++ (home_set 0 hs ++ (home_set 1 hs ++ locals)))
        ≡ range_with_len first (length (standing x c))
    own_are =
        let h = length (hoisted c) in
        let rest = length (others c) + (length (again c) + kept) in
        ap₂ (λ (ys zs : List ℕ). ys ++ zs) (ap (held_over (deepest c.leaves) 0) its.params ∙ held_are c its.chosen.moved first)
        (ap (λ (gs : List Home). home_buffers gs ++ (home_set 0 gs ++ (home_set 1 gs ++ locals))) its.params
        ∙ others_are c its.chosen.moved first locals kept (locals_are r w choices may k x its))
        ∙ range_joined first h rest ∙ ap (range_with_len first) (sym many)

    -- a home of the form has the buffer, or a local
    found : (b : ℕ) → first ≤ b → b < first + length (standing x c) → Has hs b ⊎ Contains locals b
    found b low high = one (split (held_over (deepest c.leaves) 0 hs) _ b (subst (λ (l : List ℕ). Contains l b) (sym own_are) (ranged first (length (standing x c)) b low high)))
      where
        four : Contains (home_set 1 hs) b ⊎ Contains locals b → Has hs b ⊎ Contains locals b
        four (inl d) = inl (set_has 1 hs b d)
        four (inr d) = inr d

        three : Contains (home_set 0 hs) b ⊎ Contains (home_set 1 hs ++ locals) b → Has hs b ⊎ Contains locals b
        three (inl d) = inl (set_has 0 hs b d)
        three (inr d) = four (split (home_set 1 hs) locals b d)

        two : Contains (home_buffers hs) b ⊎ Contains (home_set 0 hs ++ (home_set 1 hs ++ locals)) b → Has hs b ⊎ Contains locals b
        two (inl d) = inl (own_has hs b d)
        two (inr d) = three (split (home_set 0 hs) (home_set 1 hs ++ locals) b d)

        one : Contains (held_over (deepest c.leaves) 0 hs) b ⊎ Contains (home_buffers hs ++ (home_set 0 hs ++ (home_set 1 hs ++ locals))) b
            → Has hs b ⊎ Contains locals b
        one (inl d) = inl (over_has (deepest c.leaves) 0 hs b d)
        one (inr d) = two (split (home_buffers hs) (home_set 0 hs ++ (home_set 1 hs ++ locals)) b d)

    -- it is among those that a call with so many arguments brings
    pub is_brought : (b : ℕ) → first ≤ b → b < first + length (standing x c) → (args : List Argument) → length args ≡ length hs
        → Contains (brought_by bodies homes (homes k).overlaps k args) b
    is_brought b low high args long = by (found b low high)
      where
        o : Bool
        o = (homes k).overlaps

        by : Has hs b ⊎ Contains locals b → Contains (standing_from o hs 0 args ++ locals) b
        by (inl t) =
            let at = or_there hs t.index t.home t.there in
            let suits = suited_at o hs ((chosen_stand r choices may).params k) t.index t.home t.there in
            let less = at.1 in
            in_left (standing_from o hs 0 args) locals b
            (from_there o hs t.index b (subst (IsSuited o) (sym at.0) suits) (subst (IsOf b) (sym at.0) t.is) 0 args (omega arith) (omega (arith, less, long)))
        by (inr d) = in_right (standing_from o hs 0 args) locals b d

    -- or among the entry's
    pub is_entrys : ((i : ℕ) (h : Home) → slice_get hs i ≡ Some h → HasOwn h) → (b : ℕ) → first ≤ b → b < first + length (standing x c)
        → Contains (map buffer_or hs ++ locals) b
    is_entrys own b low high = by (found b low high)
      where
        by : Has hs b ⊎ Contains locals b → Contains (map buffer_or hs ++ locals) b
        by (inl t) = in_left (map buffer_or hs) locals b (entry_has hs own t.index b t.home t.there t.is)
        by (inr d) = in_right (map buffer_or hs) locals b d

  -- the form of a buffer
  pub record FormHas (b : ℕ) : Type 0 where
    pub form : ℕ
    pub body : FormBody
    pub there : slice_get (bodies_of r) form ≡ Some body
    pub low : first_of r choices form ≤ b
    pub high : b < first_of r choices form + length (standing body (choice_in choices form))

  pub form_of : (b : ℕ) → b < length (buffers_of r choices) → FormHas b
  form_of b lt =
      let t = locate r choices 0 (bodies_of r) b lt in
      let is = t.is in
      let at_zero : 0 + t.form ≡ t.form = omega arith in
      let less = subst (λ (j : ℕ). t.index < length (standing t.body (choice_in choices j))) at_zero t.less in
      record { form = t.form; body = t.body; there = t.there; low = omega (arith, is); high = omega (arith, is, less) }
