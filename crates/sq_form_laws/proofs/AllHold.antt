-- What holds of the entry alone, and of more forms with each call that is reached, holds of all forms of the answer.
use Rattle.std.proofs.Common.{◌≡◌, ℕ, zero, suc, ◌+◌, ◌<◌, Bool, true, false, List, [], ◌∷◌, ◌++◌, length, Option, Some, None, is_some, Ok, Err, if◌then◌else◌, refl, subst, arith, length-append}
use Rattle.std.specs.Prelude.{slice_get, nat_lt}
use Rattle.std.proofs.lemmas.Bool.Decides.{nat_tests}
use Rattle.sq_text.specs.declared.place.Place.{Place}
use Rattle.sq_text.specs.declared.fault.Fault.{Fault}
use Rattle.sq_ast.specs.declared.program.Variant.{Variant}
use Rattle.sq_forms.specs.Mappings.declared.mapping.Instance.{Instance}
use Rattle.sq_forms.specs.Mappings.declared.mapping.Mapping.{Mapping}
use Rattle.sq_forms.specs.declared.form.Found.{Found}
use Rattle.sq_forms.specs.Faults.{Value, and_then}
use Rattle.sq_forms.specs.Steps.{Step, State, Called, Forms, Key, Opens, Counts, Tests, Calls, run, after_count, after_test, after_entry, number_of, number_or_next, with_form, key_number, most_forms}
use Rattle.sq_forms.specs.Tables.{variant_of}
use Rattle.sq_forms.specs.Decls.{Scope, all_declared, params_from, empty_scope}
use Rattle.sq_forms.specs.Resolving.{Outcome, Resolving, no_walk, frame_in, walked_with, walked_by, walked_in, walk_of, body_steps, outcome_of, more, next_walked, walk_from, resolution, with_entry, entry_extents, entry_params}
use Rattle.sq_form_laws.specs.Reached.{steps_of}
use Rattle.sq_form_laws.proofs.Passing.{Everywhere}

-- each call among the steps of a form that was walked
abbrev pub InEachForm : List Variant → List Instance → (ℕ → Called → Type 0) → Type 0
InEachForm variants instances P = (x : Instance) (v : Variant) (k : ℕ) (f : Found) (scope : Scope) (s t : State) → slice_get instances f.instance ≡ Some x
    → variant_of variants x.task x.kind ≡ Some v → run s (steps_of variants instances x v k f scope) ≡ Ok t
    → Everywhere (P k) (steps_of variants instances x v k f scope)

-- one more form
abbrev pub Adding : (Forms → Type 0) → (ℕ → Called → Type 0) → Type 0
Adding I P = (k : ℕ) (forms : Forms) (c : Called) → P k c → k < length forms → length forms < most_forms → I forms → I (forms ++ (c.key, c.form) ∷ [])

some_less : (b : Bool) (m n k : ℕ) → nat_lt m n ≡ b → (if b then Some m else None) ≡ Some k → m < n
some_less true m n k e h = grind (arith, nat_tests)
some_less false m n k e h = absurd (cc h)

pub within_list : {A : Type 0} (xs : List A) (k : ℕ) (x : A) → slice_get xs k ≡ Some x → k < length xs
within_list [] k x h = absurd (cc h)
within_list (y ∷ xs) zero x h = omega arith
within_list (y ∷ xs) (suc k) x h = let e = within_list xs k x h in omega (arith, e)

module _ (variants : List Variant) (instances : List Instance) (I : Forms → Type 0) (P : ℕ → Called → Type 0) (adds : Adding I P) (each : InEachForm variants instances P) where
  -- it holds, and the k-th form is among them
  record Stands (k : ℕ) (forms : Forms) : Type 0 where
    holds : I forms
    less : k < length forms

  with_one : (k : ℕ) (forms : Forms) (c : Called) (n : ℕ) (o : Option ℕ) → key_number forms c.key ≡ o → number_or_next o (length forms) ≡ Some n → P k c
      → Stands k forms
      → Stands k (if is_some o then forms else forms ++ (c.key, c.form) ∷ [])
  with_one k forms c n (Some i) e h p st = st
  with_one k forms c n None e h p st = record {
    holds = adds k forms c p st.less (some_less (nat_lt (length forms) most_forms) (length forms) most_forms n refl h) st.holds;
    less = omega (arith, st.less, length-append forms ((c.key, c.form) ∷ []));
  }

  abbrev Rest : ℕ → State → List Step → Type 0
  Rest k t rest = (u : State) → Stands k u.forms → run u rest ≡ Ok t → I t.forms

  counted_holds : (k : ℕ) (s t : State) (place : Place) (rest : List Step) → Rest k t rest → Stands k s.forms → (n : ℕ)
      → and_then (after_count s place n) (λ u. run u rest) ≡ Ok t → I t.forms
  counted_holds k s t place rest next p zero h = absurd (cc h)
  counted_holds k s t place rest next p (suc n) h = next (record { left = n; forms = s.forms; uses = s.uses }) p h

  tested_holds : (k : ℕ) (s t : State) (rest : List Step) → Rest k t rest → Stands k s.forms → (o : Option Fault)
      → and_then (after_test s o) (λ u. run u rest) ≡ Ok t → I t.forms
  tested_holds k s t rest next p None h = next s p h
  tested_holds k s t rest next p (Some f) h = absurd (cc h)

  entered_holds : (k : ℕ) (s t : State) (c : Called) (rest : List Step) → Rest k t rest → Stands k s.forms → P k c → (o : Option ℕ)
      → number_of s.forms c.key ≡ o
      → and_then (after_entry s c o) (λ u. run u rest) ≡ Ok t → I t.forms
  entered_holds k s t c rest next st p None e h = absurd (cc h)
  entered_holds k s t c rest next st p (Some n) e h =
      next (record { left = s.left; forms = with_form s.forms c.key c.form; uses = s.uses ++ c.uses n }) (with_one k s.forms c n (key_number s.forms c.key) refl e p st) h

  run_holds : (k : ℕ) (steps : List Step) (s t : State) → Everywhere (P k) steps → Stands k s.forms → run s steps ≡ Ok t → I t.forms
  run_holds k [] s t of p h = let e : s ≡ t = cc h in subst (λ (u : State). I u.forms) e p.holds
  run_holds k (Opens ∷ rest) s t of p h = run_holds k rest _ t of p h
  run_holds k (Counts place ∷ rest) s t of p h = counted_holds k s t place rest (λ u q g. run_holds k rest u t of q g) p s.left h
  run_holds k (Tests o ∷ rest) s t of p h = tested_holds k s t rest (λ u q g. run_holds k rest u t of q g) p o h
  run_holds k (Calls c ∷ rest) s t of p h = entered_holds k s t c rest (λ u q g. run_holds k rest u t of.1 q g) p of.0 (number_of s.forms c.key) refl h

  abbrev begun_state : Forms → State
  begun_state forms = record { left = 0; forms = forms; uses = [] }

  ran_holds : (x : Instance) (v : Variant) (k : ℕ) (form : Found) (forms : Forms) (scope : Scope) (f : Outcome)
      → slice_get instances form.instance ≡ Some x → variant_of variants x.task x.kind ≡ Some v
      → Stands k forms → (r : Value State) → run (begun_state forms) (steps_of variants instances x v k form scope) ≡ r
      → and_then r (λ t. Ok (outcome_of scope t)) ≡ Ok f → I f.forms
  ran_holds x v k form forms scope f there runs p (Ok t) e h =
      let is : outcome_of scope t ≡ f = cc h in
      subst (λ (g : Outcome). I g.forms) is
      (run_holds k (steps_of variants instances x v k form scope) (begun_state forms) t (each x v k form scope (begun_state forms) t there runs e) p e)
  ran_holds x v k form forms scope f there runs p (Err y) e h = absurd (cc h)

  declared_holds : (x : Instance) (v : Variant) (k : ℕ) (form : Found) (forms : Forms) (f : Outcome) → slice_get instances form.instance ≡ Some x
      → variant_of variants x.task x.kind ≡ Some v
      → Stands k forms → (d : Value Scope)
      → and_then d (λ s. and_then (run (begun_state forms) (body_steps v.body (frame_in variants instances x k form) s)) (λ t. Ok (outcome_of s t))) ≡ Ok f
      → I f.forms
  declared_holds x v k form forms f there runs p (Ok scope) h =
      ran_holds x v k form forms scope f there runs p (run (begun_state forms) (steps_of variants instances x v k form scope)) refl h
  declared_holds x v k form forms f there runs p (Err y) h = absurd (cc h)

  abbrev okay : Outcome → Value Outcome
  okay f = Ok f

  unwalked_holds : (forms : Forms) (f : Outcome) → I forms → okay (no_walk forms) ≡ Ok f → I f.forms
  unwalked_holds forms f p h = let is : forms ≡ f.forms = cc h in subst I is p

  with_holds : (x : Instance) (v : Variant) (k : ℕ) (form : Found) (forms : Forms) (f : Outcome) → slice_get instances form.instance ≡ Some x
      → variant_of variants x.task x.kind ≡ Some v
      → Stands k forms → (o : Option Scope) → walked_with variants instances x v k form forms o ≡ Ok f → I f.forms
  with_holds x v k form forms f there runs p None h = unwalked_holds forms f p.holds h
  with_holds x v k form forms f there runs p (Some scope) h = declared_holds x v k form forms f there runs p (all_declared x.tunings scope v.decls) h

  by_holds : (x : Instance) (k : ℕ) (form : Found) (forms : Forms) (f : Outcome) → slice_get instances form.instance ≡ Some x → Stands k forms
      → (o : Option Variant) → variant_of variants x.task x.kind ≡ o → walked_by variants instances x k form forms o ≡ Ok f → I f.forms
  by_holds x k form forms f there p None runs h = unwalked_holds forms f p.holds h
  by_holds x k form forms f there p (Some v) runs h = with_holds x v k form forms f there runs p (params_from empty_scope v.params 0 form.extents) h

  in_holds : (k : ℕ) (form : Found) (forms : Forms) (f : Outcome) → Stands k forms → (o : Option Instance) → slice_get instances form.instance ≡ o
      → walked_in variants instances k form forms o ≡ Ok f → I f.forms
  in_holds k form forms f p None there h = unwalked_holds forms f p.holds h
  in_holds k form forms f p (Some x) there h = by_holds x k form forms f there p (variant_of variants x.task x.kind) refl h

  next_holds : (n k : ℕ) (r s : Resolving) (form : Key × Found) → I r.found → slice_get r.found k ≡ Some form
      → ((t : Resolving) → I t.found → walk_from variants instances n (k + 1) t ≡ Ok s → I s.found) → (v : Value Outcome)
      → walk_of variants instances k form.1 r.found ≡ v
      → and_then (and_then v (λ o. Ok (more r form.1 o))) (λ t. walk_from variants instances n (k + 1) t) ≡ Ok s → I s.found
  next_holds n k r s form p there rest (Ok o) e h =
      rest (more r form.1 o) (in_holds k form.1 r.found o (record { holds = p; less = within_list r.found k form there }) (slice_get instances form.1.instance) refl e) h
  next_holds n k r s form p there rest (Err x) e h = absurd (cc h)

  found_holds : (n k : ℕ) (r s : Resolving) → I r.found → ((t : Resolving) → I t.found → walk_from variants instances n (k + 1) t ≡ Ok s → I s.found)
      → (o : Option (Key × Found)) → slice_get r.found k ≡ o
      → and_then (next_walked variants instances k r o) (λ t. walk_from variants instances n (k + 1) t) ≡ Ok s → I s.found
  found_holds n k r s p rest None there h = rest r p h
  found_holds n k r s p rest (Some form) there h = next_holds n k r s form p there rest (walk_of variants instances k form.1 r.found) refl h

  holds_from : (n k : ℕ) (r s : Resolving) → I r.found → walk_from variants instances n k r ≡ Ok s → I s.found
  holds_from zero k r s p h = let e : r ≡ s = cc h in subst (λ (t : Resolving). I t.found) e p
  holds_from (suc n) k r s p h = found_holds n k r s p (λ t q g. holds_from n (k + 1) t s q g) (slice_get r.found k) refl h

-- what holds of the entry alone, whose extents were found to be good, holds of all
begun_holds : (variants : List Variant) (mapping : Mapping) (I : Forms → Type 0) (P : ℕ → Called → Type 0) → Adding I P
    → InEachForm variants mapping.instances P → (r : Resolving)
    → (v : Value (List (List ℕ))) → ((extents : List (List ℕ)) → v ≡ Ok extents → I (with_entry mapping.entry extents).found)
    → and_then v (λ extents. walk_from variants mapping.instances most_forms 0 (with_entry mapping.entry extents)) ≡ Ok r → I r.found
begun_holds variants mapping I P adds each r (Err x) alone h = absurd (cc h)
begun_holds variants mapping I P adds each r (Ok extents) alone h =
    holds_from variants mapping.instances I P adds each most_forms 0 (with_entry mapping.entry extents) r (alone extents refl) h

pub all_hold : (variants : List Variant) (mapping : Mapping) (I : Forms → Type 0) (P : ℕ → Called → Type 0) → Adding I P
    → InEachForm variants mapping.instances P
    → ((extents : List (List ℕ)) → entry_extents mapping.sizes (entry_params variants (slice_get mapping.instances mapping.entry)) ≡ Ok extents
    → I (with_entry mapping.entry extents).found)
    → (r : Resolving) → resolution variants mapping ≡ Ok r → I r.found
all_hold variants mapping I P adds each alone r h =
    begun_holds variants mapping I P adds each r (entry_extents mapping.sizes (entry_params variants (slice_get mapping.instances mapping.entry))) alone h
