-- Each form of the result was walked.
use Rattle.std.proofs.Common.{◌≡◌, ℕ, zero, suc, ◌+◌, ◌<◌, ◌≤◌, ◌⊎◌, inl, inr, Bool, true, false, List, [], ◌∷◌, ◌++◌, length, Option, Some, None, is_some, Ok, Err, if◌then◌else◌, refl, sym, ◌∙◌, ap, subst, arith, length-append, append_assoc}
use Rattle.std.proofs.lemmas.List.{append-nil}
use Rattle.std.specs.Prelude.{slice_get}
use Rattle.sq_text.specs.declared.fault.Fault.{Fault}
use Rattle.sq_text.specs.declared.place.Place.{Place}
use Rattle.sq_ast.specs.declared.program.Body.{Body}
use Rattle.sq_ast.specs.declared.program.Variant.{Variant}
use Rattle.sq_forms.specs.Mappings.declared.mapping.Instance.{Instance}
use Rattle.sq_forms.specs.Mappings.declared.mapping.Mapping.{Mapping}
use Rattle.sq_forms.specs.declared.form.Found.{Found}
use Rattle.sq_forms.specs.Faults.{Value, and_then}
use Rattle.sq_forms.specs.Steps.{Step, State, Called, Forms, Key, Opens, Counts, Tests, Calls, run, after_count, after_test, after_entry, number_of, with_form, key_number, most_forms}
use Rattle.sq_forms.specs.Tables.{variant_of}
use Rattle.sq_forms.specs.Worlds.{Frame}
use Rattle.sq_forms.specs.Decls.{Scope, all_declared, params_from, empty_scope}
use Rattle.sq_forms.specs.Resolving.{Outcome, Resolving, with_locals, no_walk, frame_in, walked_with, walked_by, walked_in, walk_of, body_steps, outcome_of, more, next_walked, walk_from, with_entry, entry_extents, entry_params}
use Rattle.sq_form_laws.specs.Laws.{WasWalked, EachWalked}

-- the first has the items of the second, and more behind them
pub record Keeps {A : Type 0} (old new : List A) : Type 0 where
  pub rest : List A
  pub same : new ≡ old ++ rest

keeps_all : {A : Type 0} (xs : List A) → Keeps xs xs
keeps_all xs = record { rest = []; same = sym (append-nil xs) }

keeps_more : {A : Type 0} (xs ys zs : List A) → Keeps xs ys → Keeps ys zs → Keeps xs zs
keeps_more xs ys zs p q = record { rest = p.rest ++ q.rest; same = q.same ∙ (ap (λ l. l ++ q.rest) p.same ∙ append_assoc xs p.rest q.rest) }

get_kept : {A : Type 0} (xs rest : List A) (i : ℕ) (x : A) → slice_get xs i ≡ Some x → slice_get (xs ++ rest) i ≡ Some x
get_kept [] rest i x h = absurd (cc h)
get_kept (y ∷ xs) rest zero x h = h
get_kept (y ∷ xs) rest (suc i) x h = get_kept xs rest i x h

get_last : {A : Type 0} (xs : List A) (x : A) (k : ℕ) → length xs ≡ k → slice_get (xs ++ x ∷ []) k ≡ Some x
get_last [] x zero e = refl
get_last [] x (suc k) e = absurd (omega (arith, e))
get_last (y ∷ xs) x zero e = absurd (omega (arith, e))
get_last (y ∷ xs) x (suc k) e = get_last xs x k (omega (arith, e))

beyond : {A : Type 0} (xs : List A) (k : ℕ) → length xs ≤ k → slice_get xs k ≡ None
beyond [] k h = refl
beyond (x ∷ xs) zero h = absurd (omega (arith, h))
beyond (x ∷ xs) (suc k) h = beyond xs k (omega (arith, h))

beyond_by : {A : Type 0} (xs : List A) (k : ℕ) → slice_get xs k ≡ None → length xs ≤ k
beyond_by [] k h = omega arith
beyond_by (x ∷ xs) zero h = absurd (cc h)
beyond_by (x ∷ xs) (suc k) h = let e = beyond_by xs k h in omega (arith, e)

inside : {A : Type 0} (xs : List A) (k : ℕ) (x : A) → slice_get xs k ≡ Some x → k < length xs
inside [] k x h = absurd (cc h)
inside (y ∷ xs) zero x h = omega arith
inside (y ∷ xs) (suc k) x h = let e = inside xs k x h in omega (arith, e)

some_same : {A : Type 0} (x y : A) → Some x ≡ Some y → x ≡ y
some_same x y h = cc h

same_or_more : (k i : ℕ) → k ≤ i → (k ≡ i) ⊎ (k + 1 ≤ i)
same_or_more zero zero h = inl refl
same_or_more zero (suc i) h = inr (omega arith)
same_or_more (suc k) zero h = absurd (omega (arith, h))
same_or_more (suc k) (suc i) h = elim (same_or_more k i (omega (arith, h))) [ inl e ↦ inl (ap suc e) | inr m ↦ inr (omega (arith, m)) ]

-- ---- a walk of a form keeps the forms so far

Grows : List Step → Type 0
Grows steps = (s t : State) → run s steps ≡ Ok t → Keeps s.forms t.forms

form_kept : (b : Bool) (forms : Forms) (e : Key × Found) → Keeps forms (if b then forms else forms ++ e ∷ [])
form_kept true forms e = keeps_all forms
form_kept false forms e = record { rest = e ∷ []; same = refl }

counted_grows : (s t : State) (place : Place) (rest : List Step) → ((u v : State) → run u rest ≡ Ok v → Keeps u.forms v.forms) → (n : ℕ) → and_then (after_count s place n) (λ u. run u rest) ≡ Ok t → Keeps s.forms t.forms
counted_grows s t place rest more zero h = absurd (cc h)
counted_grows s t place rest more (suc n) h = more (record { left = n; forms = s.forms; uses = s.uses }) t h

tested_grows : (s t : State) (rest : List Step) → ((u v : State) → run u rest ≡ Ok v → Keeps u.forms v.forms) → (o : Option Fault) → and_then (after_test s o) (λ u. run u rest) ≡ Ok t → Keeps s.forms t.forms
tested_grows s t rest more None h = more s t h
tested_grows s t rest more (Some f) h = absurd (cc h)

entered_grows : (s t : State) (c : Called) (rest : List Step) → ((u v : State) → run u rest ≡ Ok v → Keeps u.forms v.forms) → (o : Option ℕ) → and_then (after_entry s c o) (λ u. run u rest) ≡ Ok t → Keeps s.forms t.forms
entered_grows s t c rest more None h = absurd (cc h)
entered_grows s t c rest more (Some n) h =
    keeps_more s.forms (with_form s.forms c.key c.form) t.forms (form_kept (is_some (key_number s.forms c.key)) s.forms (c.key, c.form))
    (more (record { left = s.left; forms = with_form s.forms c.key c.form; uses = s.uses ++ c.uses n }) t h)

pub grows : (steps : List Step) (s t : State) → run s steps ≡ Ok t → Keeps s.forms t.forms
grows [] s t h = let e : s ≡ t = cc h in subst (λ (u : State). Keeps s.forms u.forms) e (keeps_all s.forms)
grows (Opens ∷ rest) s t h = grows rest _ t h
grows (Counts place ∷ rest) s t h = counted_grows s t place rest (grows rest) s.left h
grows (Tests o ∷ rest) s t h = tested_grows s t rest (grows rest) o h
grows (Calls c ∷ rest) s t h = entered_grows s t c rest (grows rest) (number_of s.forms c.key) h

ran_keeps : (scope : Scope) (s : State) (steps : List Step) (f : Outcome) (v : Value State) → run s steps ≡ v → and_then v (λ t. Ok (outcome_of scope t)) ≡ Ok f → Keeps s.forms f.forms
ran_keeps scope s steps f (Ok t) e h = let is : outcome_of scope t ≡ f = cc h in subst (λ (g : Outcome). Keeps s.forms g.forms) is (grows steps s t e)
ran_keeps scope s steps f (Err x) e h = absurd (cc h)

declared_keeps : (frame : Frame) (body : Body) (forms : Forms) (f : Outcome) (d : Value Scope)
    → and_then d (λ s. and_then (run (record { left = 0; forms = forms; uses = [] }) (body_steps body frame s)) (λ t. Ok (outcome_of s t))) ≡ Ok f → Keeps forms f.forms
declared_keeps frame body forms f (Ok s) h = ran_keeps s (record { left = 0; forms = forms; uses = [] }) (body_steps body frame s) f (run (record { left = 0; forms = forms; uses = [] }) (body_steps body frame s)) refl h
declared_keeps frame body forms f (Err x) h = absurd (cc h)

abbrev okay : Outcome → Value Outcome
okay f = Ok f

unwalked_keeps : (forms : Forms) (f : Outcome) → okay (no_walk forms) ≡ Ok f → Keeps forms f.forms
unwalked_keeps forms f h = let is : forms ≡ f.forms = cc h in subst (λ g. Keeps forms g) is (keeps_all forms)

module _ (variants : List Variant) (instances : List Instance) where
  with_keeps : (x : Instance) (v : Variant) (k : ℕ) (form : Found) (forms : Forms) (f : Outcome) (o : Option Scope) → walked_with variants instances x v k form forms o ≡ Ok f → Keeps forms f.forms
  with_keeps x v k form forms f None h = unwalked_keeps forms f h
  with_keeps x v k form forms f (Some scope) h = declared_keeps (frame_in variants instances x k form) v.body forms f (all_declared x.tunings scope v.decls) h

  by_keeps : (x : Instance) (k : ℕ) (form : Found) (forms : Forms) (f : Outcome) (o : Option Variant) → walked_by variants instances x k form forms o ≡ Ok f → Keeps forms f.forms
  by_keeps x k form forms f None h = unwalked_keeps forms f h
  by_keeps x k form forms f (Some v) h = with_keeps x v k form forms f (params_from empty_scope v.params 0 form.extents) h

  in_keeps : (k : ℕ) (form : Found) (forms : Forms) (f : Outcome) (o : Option Instance) → walked_in variants instances k form forms o ≡ Ok f → Keeps forms f.forms
  in_keeps k form forms f None h = unwalked_keeps forms f h
  in_keeps k form forms f (Some x) h = by_keeps x k form forms f (variant_of variants x.task x.kind) h

  pub walked_keeps : (k : ℕ) (form : Found) (forms : Forms) (f : Outcome) → walk_of variants instances k form forms ≡ Ok f → Keeps forms f.forms
  walked_keeps k form forms f h = in_keeps k form forms f (slice_get instances form.instance) h

  -- ---- all forms

  pub record Went (n k : ℕ) (r s : Resolving) : Type 0 where
    pub found : Keeps r.found s.found
    pub uses : Keeps r.uses s.uses
    pub forms : Keeps r.forms s.forms
    pub each : (i : ℕ) (form : Key × Found) → k ≤ i → i < k + n → slice_get s.found i ≡ Some form → WasWalked variants instances s i form

  past : (n k : ℕ) (r s : Resolving) → length r.found ≤ k → walk_from variants instances n k r ≡ Ok s → r ≡ s
  past zero k r s h e = cc e
  past (suc n) k r s h e =
      let none : slice_get r.found k ≡ None = beyond r.found k h in
      past n (k + 1) r s (omega (arith, h)) (sym (ap (λ (o : Option (Key × Found)). and_then (next_walked variants instances k r o) (λ t. walk_from variants instances n (k + 1) t)) none) ∙ e)

  went_none : (n k : ℕ) (r s : Resolving) → length r.found ≤ k → walk_from variants instances n k r ≡ Ok s → Went n k r s
  went_none n k r s h e =
      let is = past n k r s h e in
      subst (Went n k r) is (record {
        found = keeps_all r.found;
        uses = keeps_all r.uses;
        forms = keeps_all r.forms;
        each = λ i form low high there. absurd (omega (arith, h, low, inside r.found i form there));
      })

  one_at : (n k : ℕ) (r s : Resolving) (form : Key × Found) (f : Outcome) → length r.uses ≡ k → length r.forms ≡ k → slice_get r.found k ≡ Some form → walk_of variants instances k form.1 r.found ≡ Ok f
      → Went n (k + 1) (more r form.1 f) s → (i : ℕ) (g : Key × Found) → i < k + suc n → slice_get s.found i ≡ Some g → (k ≡ i) ⊎ (k + 1 ≤ i) → WasWalked variants instances s i g
  one_at n k r s form f lu ll there e w i g high at (inr far) = w.each i g far (omega (arith, high)) at
  one_at n k r s form f lu ll there e w i g high at (inl is) =
      let kept = keeps_more r.found f.forms s.found (walked_keeps k form.1 r.found f e) w.found in
      let here : slice_get s.found k ≡ Some form = ap (λ l. slice_get l k) kept.same ∙ get_kept r.found kept.rest k form there in
      let same : form ≡ g = some_same form g (sym here ∙ (ap (slice_get s.found) is ∙ at)) in
      let of_uses : slice_get s.uses k ≡ Some f.uses = ap (λ l. slice_get l k) w.uses.same ∙ get_kept (r.uses ++ f.uses ∷ []) w.uses.rest k f.uses (get_last r.uses f.uses k lu) in
      let whole = with_locals form.1 f.locals in
      let of_forms : slice_get s.forms k ≡ Some whole = ap (λ l. slice_get l k) w.forms.same ∙ get_kept (r.forms ++ whole ∷ []) w.forms.rest k whole (get_last r.forms whole k ll) in
      let made : WasWalked variants instances s k form = record { before = r.found; done = f; walked = e; later = w.found.rest; behind = w.found.same; uses = of_uses; kept = of_forms } in
      subst (λ n. WasWalked variants instances s n g) is (subst (WasWalked variants instances s k) same made)

  went_one : (n k : ℕ) (r s : Resolving) (form : Key × Found) (f : Outcome) → length r.uses ≡ k → length r.forms ≡ k → slice_get r.found k ≡ Some form → walk_of variants instances k form.1 r.found ≡ Ok f
      → Went n (k + 1) (more r form.1 f) s → Went (suc n) k r s
  went_one n k r s form f lu ll there e w = record {
    found = keeps_more r.found f.forms s.found (walked_keeps k form.1 r.found f e) w.found;
    uses = keeps_more r.uses (r.uses ++ f.uses ∷ []) s.uses (record { rest = f.uses ∷ []; same = refl }) w.uses;
    forms = keeps_more r.forms (r.forms ++ with_locals form.1 f.locals ∷ []) s.forms (record { rest = with_locals form.1 f.locals ∷ []; same = refl }) w.forms;
    each = λ i g low high at. one_at n k r s form f lu ll there e w i g high at (same_or_more k i low);
  }

  step_went : (n k : ℕ) (r s : Resolving) → length r.uses ≡ k → length r.forms ≡ k
      → ((g : Found) (f : Outcome) → length (more r g f).uses ≡ k + 1 → length (more r g f).forms ≡ k + 1 → walk_from variants instances n (k + 1) (more r g f) ≡ Ok s → Went n (k + 1) (more r g f) s)
      → (form : Key × Found) → slice_get r.found k ≡ Some form → (v : Value Outcome) → walk_of variants instances k form.1 r.found ≡ v
      → and_then (and_then v (λ o. Ok (more r form.1 o))) (λ t. walk_from variants instances n (k + 1) t) ≡ Ok s → Went (suc n) k r s
  step_went n k r s lu ll rec form there (Err x) w h = absurd (cc h)
  step_went n k r s lu ll rec form there (Ok f) w h =
      went_one n k r s form f lu ll there w (rec form.1 f (omega (arith, lu, length-append r.uses (f.uses ∷ []))) (omega (arith, ll, length-append r.forms (with_locals form.1 f.locals ∷ []))) h)

  found_went : (n k : ℕ) (r s : Resolving) → length r.uses ≡ k → length r.forms ≡ k
      → ((g : Found) (f : Outcome) → length (more r g f).uses ≡ k + 1 → length (more r g f).forms ≡ k + 1 → walk_from variants instances n (k + 1) (more r g f) ≡ Ok s → Went n (k + 1) (more r g f) s)
      → walk_from variants instances (suc n) k r ≡ Ok s
      → (o : Option (Key × Found)) → slice_get r.found k ≡ o → and_then (next_walked variants instances k r o) (λ t. walk_from variants instances n (k + 1) t) ≡ Ok s → Went (suc n) k r s
  found_went n k r s lu ll rec e None there h = went_none (suc n) k r s (beyond_by r.found k there) e
  found_went n k r s lu ll rec e (Some form) there h = step_went n k r s lu ll rec form there (walk_of variants instances k form.1 r.found) refl h

  pub went : (n k : ℕ) (r s : Resolving) → length r.uses ≡ k → length r.forms ≡ k → walk_from variants instances n k r ≡ Ok s → Went n k r s
  went zero k r s lu ll e = let is : r ≡ s = cc e in subst (Went 0 k r) is (record {
    found = keeps_all r.found;
    uses = keeps_all r.uses;
    forms = keeps_all r.forms;
    each = λ i form low high there. absurd (omega (arith, low, high));
  })
  went (suc n) k r s lu ll e = found_went n k r s lu ll (λ g f a b h. went n (k + 1) (more r g f) s a b h) e (slice_get r.found k) refl e

begun_walked : (variants : List Variant) (mapping : Mapping) (r : Resolving) (k : ℕ) (form : Key × Found) → k < most_forms → slice_get r.found k ≡ Some form
    → (v : Value (List (List ℕ))) → and_then v (λ extents. walk_from variants mapping.instances most_forms 0 (with_entry mapping.entry extents)) ≡ Ok r → WasWalked variants mapping.instances r k form
begun_walked variants mapping r k form low there (Err x) h = absurd (cc h)
begun_walked variants mapping r k form low there (Ok extents) h = (went variants mapping.instances most_forms 0 (with_entry mapping.entry extents) r refl refl h).each k form (omega arith) (omega (arith, low)) there

pub each_walked : EachWalked
each_walked variants mapping r e k form low there =
    begun_walked variants mapping r k form low there (entry_extents mapping.sizes (entry_params variants (slice_get mapping.instances mapping.entry))) e
