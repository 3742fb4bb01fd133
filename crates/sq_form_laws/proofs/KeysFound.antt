-- The numbers of forms: a form keeps the number by which it was entered.
use Rattle.std.proofs.Common.{◌≡◌, ℕ, zero, suc, ◌<◌, ◌≤◌, Bool, true, false, cond, List, [], ◌∷◌, ◌++◌, map, length, get_or, Option, Some, None, is_some, Ok, refl, sym, ◌∙◌, ap, arith, nat_eq, length-append, append_assoc}
use Rattle.std.specs.Prelude.{slice_get, nat_lt, position, if◌then◌else◌}
use Rattle.std.specs.List.{position_or_len}
use Rattle.std.specs.Cmp.Lexicographic.{pointwise}
use Rattle.std.proofs.lemmas.Bool.Decides.{nat_tests}
use Rattle.std.proofs.lemmas.List.{map-append, get_or_append_left, append-nil}
use Rattle.std.proofs.lemmas.List.Sums.{position_or_len_is, fails_before_first, passes_at_first}
use Rattle.std.proofs.Math.Seq.{get_or-append_seam}
use Rattle.sq_forms.proofs.Mappings.Same.{same, itself}
use Rattle.sq_text.specs.declared.place.Place.{Place}
use Rattle.sq_forms.specs.declared.form.Found.{Found}
use Rattle.sq_forms.specs.Faults.{and_then}
use Rattle.sq_forms.specs.Steps.{Step, State, Called, Forms, Key, Opens, Counts, Tests, Calls, run, after_count, after_entry, number_of, number_or_next, with_form, key_number, most_forms}
use Rattle.sq_form_laws.specs.Reached.{calls_in, form_number, or_zero, uses_of, UsesAreInOrder}
use Rattle.sq_form_laws.proofs.FormsHold.{Keeps, grows}
use Rattle.sq_form_laws.proofs.Passing.{Everywhere, past_test}

-- ---- the first that passes

module _ {A : Type 0} (p : A → Bool) where
  -- it stands at this index
  pub record FirstAt (xs : List A) (n : ℕ) : Type 0 where
    pub less : n < length xs
    pub is : position_or_len p xs ≡ n

  first_by : (b : Bool) (xs : List A) (m n : ℕ) → nat_lt m (length xs) ≡ b → position_or_len p xs ≡ m → cond b (Some m) None ≡ Some n → FirstAt xs n
  first_by true xs m n e is h = let same_place : m ≡ n = cc h in record { less = let l : m < length xs = grind (arith, nat_tests) in omega (arith, l, same_place); is = is ∙ same_place }
  first_by false xs m n e is h = absurd (cc h)

  pub first_at : (xs : List A) (n : ℕ) → position p xs ≡ Some n → FirstAt xs n
  first_at xs n h = first_by (nat_lt (position_or_len p xs) (length xs)) xs (position_or_len p xs) n refl refl h

  less_is : (m n : ℕ) → m < n → nat_lt m n ≡ true
  less_is m n h = grind (arith, nat_tests)

  pub at_first : (xs : List A) (n : ℕ) → FirstAt xs n → position p xs ≡ Some n
  at_first xs n f =
      ap (λ m. cond (nat_lt m (length xs)) (Some m) None) f.is ∙ ap (λ b. cond b (Some n) None) (less_is n (length xs) f.less)

  none_by : (b : Bool) (xs : List A) (m : ℕ) → nat_lt m (length xs) ≡ b → cond b (Some m) None ≡ None → length xs ≤ m
  none_by true xs m e h = absurd (cc h)
  none_by false xs m e h = grind (arith, nat_tests)

  pub first_kept : (xs ys : List A) (n : ℕ) (d : A) → FirstAt xs n → FirstAt (xs ++ ys) n
  first_kept xs ys n d f = record {
    less = omega (arith, f.less, length-append xs ys);
    is = position_or_len_is p (xs ++ ys) n d (omega (arith, f.less, length-append xs ys))
        (λ k less. let l : k < position_or_len p xs = omega (arith, less, f.is) in
        ap p (get_or_append_left xs ys d k (omega (arith, less, f.less))) ∙ fails_before_first p xs k d l)
        (λ _. ap p (get_or_append_left xs ys d n f.less)
        ∙ (ap (λ i. p (get_or xs i d)) (sym f.is) ∙ passes_at_first p xs d (omega (arith, f.less, f.is))));
  }

  pub first_new : (xs : List A) (y : A) → position p xs ≡ None → p y ≡ true → FirstAt (xs ++ y ∷ []) (length xs)
  first_new xs y none passes =
      let far = none_by (nat_lt (position_or_len p xs) (length xs)) xs (position_or_len p xs) refl none in record {
        less = omega (arith, length-append xs (y ∷ []));
        is = position_or_len_is p (xs ++ y ∷ []) (length xs) y (omega (arith, length-append xs (y ∷ [])))
            (λ k less. ap p (get_or_append_left xs (y ∷ []) y k less) ∙ fails_before_first p xs k y (omega (arith, less, far)))
            (λ _. ap p (get_or-append_seam xs y [] y) ∙ passes);
      }

  pub passes_there : (xs : List A) (n : ℕ) (d : A) → FirstAt xs n → p (get_or xs n d) ≡ true
  passes_there xs n d f = ap (λ i. p (get_or xs i d)) (sym f.is) ∙ passes_at_first p xs d (omega (arith, f.less, f.is))

-- ---- forms by their keys

abbrev keys_of : Forms → List Key
keys_of forms = map (λ e. e.0) forms

pub number_kept : (forms more : Forms) (key : Key) (n : ℕ) → key_number forms key ≡ Some n → key_number (forms ++ more) key ≡ Some n
number_kept forms more key n h =
    let test = pointwise nat_eq key in
    let f = first_kept test (keys_of forms) (keys_of more) n [] (first_at test (keys_of forms) n h) in
    ap (position test) (map-append (λ (e : Key × Found). e.0) forms more) ∙ at_first test (keys_of forms ++ keys_of more) n f

length_keys : (forms : Forms) → length (keys_of forms) ≡ length forms
length_keys [] = refl
length_keys (e ∷ forms) = ap suc (length_keys forms)

new_number : (forms : Forms) (key : Key) (form : Found) → key_number forms key ≡ None → key_number (forms ++ (key, form) ∷ []) key ≡ Some (length forms)
new_number forms key form h =
    let test = pointwise nat_eq key in
    let f = first_new test (keys_of forms) key h (itself key) in
    ap (position test) (map-append (λ (e : Key × Found). e.0) forms ((key, form) ∷ []))
    ∙ (at_first test (keys_of forms ++ key ∷ []) (length (keys_of forms)) f ∙ ap Some (length_keys forms))

-- what is entered has its number
pub record Entered (forms : Forms) (key : Key) (form : Found) (n : ℕ) : Type 0 where
  pub number : key_number (with_form forms key form) key ≡ Some n

next_by : (b : Bool) (m n : ℕ) → cond b (Some m) None ≡ Some n → (b ≡ true) × (m ≡ n)
next_by true m n h = (refl, cc h)
next_by false m n h = absurd (cc h)

entered_by : (forms : Forms) (key : Key) (form : Found) (n : ℕ) (o : Option ℕ) → key_number forms key ≡ o → number_or_next o (length forms) ≡ Some n
    → key_number (if is_some o then forms else forms ++ (key, form) ∷ []) key ≡ Some n
entered_by forms key form n (Some i) e h = e ∙ h
entered_by forms key form n None e h =
    let q = next_by (nat_lt (length forms) most_forms) (length forms) n h in
    new_number forms key form e ∙ ap Some q.1

pub entered_number : (forms : Forms) (key : Key) (form : Found) (n : ℕ) → number_of forms key ≡ Some n → key_number (with_form forms key form) key ≡ Some n
entered_number forms key form n h = entered_by forms key form n (key_number forms key) refl h

-- the form that has a key
pub form_there : (forms : Forms) (key : Key) (n : ℕ) → key_number forms key ≡ Some n → (e : Key × Found) × (slice_get forms n ≡ Some e) × (e.0 ≡ key)
form_there forms key n h = by forms n (passes_at forms n (first_at (pointwise nat_eq key) (keys_of forms) n h))
  where
    passes_at : (fs : Forms) (i : ℕ) → FirstAt (pointwise nat_eq key) (keys_of fs) i
        → (i < length fs) × (pointwise nat_eq key (get_or (keys_of fs) i []) ≡ true)
    passes_at fs i f = (omega (arith, f.less, length_keys fs), passes_there (pointwise nat_eq key) (keys_of fs) i [] f)

    by : (fs : Forms) (i : ℕ) → (i < length fs) × (pointwise nat_eq key (get_or (keys_of fs) i []) ≡ true)
        → (e : Key × Found) × (slice_get fs i ≡ Some e) × (e.0 ≡ key)
    by [] i p = absurd (omega (arith, p.0))
    by (e ∷ fs) zero p = (e, refl, sym (same key e.0 p.1))
    by (e ∷ fs) (suc i) p = by fs i (omega (arith, p.0), p.1)

-- ---- the accesses of steps

kept_number : (old new : Forms) (key : Key) (n : ℕ) → Keeps old new → key_number old key ≡ Some n → key_number new key ≡ Some n
kept_number old new key n k h = ap (λ fs. key_number fs key) k.same ∙ number_kept old k.rest key n h

-- each call has a number
abbrev pub Numbered : Forms → Called → Type 0
Numbered forms c = (n : ℕ) × (key_number forms c.key ≡ Some n)

-- what is left after steps: their accesses, and the numbers of their calls
pub record After (s t : State) (steps : List Step) (later : Forms) : Type 0 where
  pub uses : t.uses ≡ s.uses ++ uses_of later (calls_in steps)
  pub numbered : Everywhere (Numbered later) steps

abbrev Goes : List Step → Type 0
Goes steps = (s t : State) (later : Forms) → Keeps t.forms later → run s steps ≡ Ok t → After s t steps later

one_called : (s t : State) (c : Called) (rest : List Step) (later : Forms) → Keeps t.forms later → Goes rest → (o : Option ℕ) → number_of s.forms c.key ≡ o
    → and_then (after_entry s c o) (λ u. run u rest) ≡ Ok t → After s t (Calls c ∷ rest) later
one_called s t c rest later kept goes None e h = absurd (cc h)
one_called s t c rest later kept goes (Some n) e h =
    let u : State = record { left = s.left; forms = with_form s.forms c.key c.form; uses = s.uses ++ c.uses n } in
    let after = goes u t later kept h in
    let here = entered_number s.forms c.key c.form n e in
    let grown = grows rest u t h in
    let there : key_number later c.key ≡ Some n = kept_number t.forms later c.key n kept (kept_number u.forms t.forms c.key n grown here) in
    let same_number : form_number later c.key ≡ n = ap or_zero there in record {
      uses = after.uses ∙ (append_assoc s.uses (c.uses n) (uses_of later (calls_in rest)) ∙ ap (λ m. s.uses ++ (c.uses m ++ uses_of later (calls_in rest))) (sym same_number));
      numbered = ((n, there), after.numbered);
    }

pub goes : (steps : List Step) → Goes steps
goes [] s t later kept h =
    let e : s ≡ t = cc h in
    record { uses = sym (ap (λ (u : State). u.uses) e) ∙ sym (append-nil s.uses); numbered = tt }
goes (Opens ∷ rest) s t later kept h =
    let a = goes rest _ t later kept h in record { uses = a.uses; numbered = a.numbered }
goes (Counts place ∷ rest) s t later kept h = counted_goes s t place rest later kept (goes rest) s.left h
  where
    counted_goes : (s t : State) (place : Place) (rest : List Step) (later : Forms) → Keeps t.forms later → Goes rest → (n : ℕ)
        → and_then (after_count s place n) (λ u. run u rest) ≡ Ok t → After s t (Counts place ∷ rest) later
    counted_goes s t place rest later kept go zero h = absurd (cc h)
    counted_goes s t place rest later kept go (suc n) h =
        let a = go (record { left = n; forms = s.forms; uses = s.uses }) t later kept h in record { uses = a.uses; numbered = a.numbered }
goes (Tests o ∷ rest) s t later kept h =
    let a = goes rest s t later kept (past_test s t o rest h).1 in record { uses = a.uses; numbered = a.numbered }
goes (Calls c ∷ rest) s t later kept h = one_called s t c rest later kept (goes rest) (number_of s.forms c.key) refl h

pub uses_are_in_order : UsesAreInOrder
uses_are_in_order steps s t more h = (goes steps s t (t.forms ++ more) (record { rest = more; same = refl }) h).uses
