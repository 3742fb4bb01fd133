-- Each form that is found, but the entry, was reached by a call of the form that is its caller.
use Rattle.std.proofs.Common.{◌≡◌, ℕ, zero, suc, ◌+◌, ◌<◌, Bool, true, false, List, [], ◌∷◌, ◌++◌, length, Option, Some, None, is_some, Ok, Err, if◌then◌else◌, refl, sym, subst, ap, ap₂, ◌∙◌, ◌⊎◌, inl, inr, arith}
use Rattle.std.specs.Prelude.{slice_get, nat_lt}
use Rattle.std.proofs.lemmas.Bool.Decides.{nat_tests}
use Rattle.sq_text.specs.declared.place.Place.{Place}
use Rattle.sq_text.specs.declared.fault.Fault.{Fault}
use Rattle.sq_ast.specs.declared.program.Variant.{Variant}
use Rattle.sq_mapping.specs.declared.mapping.Instance.{Instance}
use Rattle.sq_mapping.specs.declared.mapping.Mapping.{Mapping}
use Rattle.sq_forms.specs.declared.form.Found.{Found}
use Rattle.sq_forms.specs.Faults.{Value, and_then}
use Rattle.sq_forms.specs.Steps.{Step, State, Called, Forms, Key, Opens, Counts, Tests, Calls, run, after_count, after_test, after_entry, number_of, number_or_next, with_form, key_number, most_forms}
use Rattle.sq_forms.specs.Tables.{variant_of}
use Rattle.sq_forms.specs.Decls.{Scope, all_declared, params_from, empty_scope}
use Rattle.sq_forms.specs.Resolving.{Outcome, Resolving, no_walk, frame_in, walked_with, walked_by, walked_in, walk_of, body_steps, outcome_of, more, next_walked, walk_from, resolution, with_entry, entry_extents, entry_params}
use Rattle.sq_form_laws.specs.Reached.{steps_of}
use Rattle.sq_form_laws.proofs.Passing.{Everywhere}
use Rattle.sq_ast.specs.declared.program.Body.{Body as Text}
use Rattle.sq_ast.specs.declared.program.Body.TheVariants as text
use Rattle.sq_forms.specs.declared.form.Caller.{Caller}
use Rattle.sq_forms.specs.Calls.{key_of}
use Rattle.sq_form_laws.specs.Reached.{calls_in, body_calls, form_number, or_zero}
use Rattle.sq_form_laws.proofs.KeysFound.{number_kept, entered_number}
use Rattle.sq_form_laws.proofs.Passing.{of_each}
use Rattle.sq_spec.specs.declared.resolved.Resolved.{Resolved}
use Rattle.sq_spec.specs.Statements.{elems_of}
use Rattle.sq_spec.proofs.Rows.{get_front}
use Rattle.sq_spec_laws.specs.Needs.{Reached, frame_at}
use Rattle.sq_draft_laws.specs.Choosing.{Walked}
use Rattle.sq_draft_laws.specs.Homes.Begun.{Begun}
use Rattle.sq_plan_good.proofs.Linked.{One, Ones, none as none_left, more as one_left, instance_in, list_linked}
use Rattle.sq_plan_good.proofs.Near.{walk, near_calls}

some_same : {A : Type 0} (x y : A) → Some x ≡ Some y → x ≡ y
some_same x y h = cc h

-- each call among the steps of a form that was walked
abbrev InEachForm : List Variant → List Instance → (ℕ → Found → Called → Type 0) → Type 0
InEachForm variants instances P = (x : Instance) (v : Variant) (k : ℕ) (f : Found) (scope : Scope) → slice_get instances f.instance ≡ Some x
    → variant_of variants x.task x.kind ≡ Some v → Everywhere (P k f) (steps_of variants instances x v k f scope)

-- one more form
abbrev Adding : (Forms → Type 0) → (ℕ → Found → Called → Type 0) → Type 0
Adding I P = (k : ℕ) (fm : Key × Found) (forms : Forms) (c : Called) → P k fm.1 c → slice_get forms k ≡ Some fm
    → length forms < most_forms → key_number forms c.key ≡ None → I forms → I (forms ++ (c.key, c.form) ∷ [])

some_less : (b : Bool) (m n k : ℕ) → nat_lt m n ≡ b → (if b then Some m else None) ≡ Some k → m < n
some_less true m n k e h = grind (arith, nat_tests)
some_less false m n k e h = absurd (cc h)

module _ (variants : List Variant) (instances : List Instance) (I : Forms → Type 0) (P : ℕ → Found → Called → Type 0) (adds : Adding I P) (each : InEachForm variants instances P) where
  -- it holds, and the k-th form is among them
  record Stands (k : ℕ) (fm : Key × Found) (forms : Forms) : Type 0 where
    holds : I forms
    at : slice_get forms k ≡ Some fm

  with_one : (k : ℕ) (fm : Key × Found) (forms : Forms) (c : Called) (n : ℕ) (o : Option ℕ) → key_number forms c.key ≡ o → number_or_next o (length forms) ≡ Some n → P k fm.1 c
      → Stands k fm forms
      → Stands k fm (if is_some o then forms else forms ++ (c.key, c.form) ∷ [])
  with_one k fm forms c n (Some i) e h p st = st
  with_one k fm forms c n None e h p st = record {
    holds = adds k fm forms c p st.at (some_less (nat_lt (length forms) most_forms) (length forms) most_forms n refl h) e st.holds;
    at = get_front forms ((c.key, c.form) ∷ []) k fm st.at;
  }

  abbrev Rest : ℕ → Key × Found → State → List Step → Type 0
  Rest k fm t rest = (u : State) → Stands k fm u.forms → run u rest ≡ Ok t → I t.forms

  counted_holds : (k : ℕ) (fm : Key × Found) (s t : State) (place : Place) (rest : List Step) → Rest k fm t rest → Stands k fm s.forms → (n : ℕ)
      → and_then (after_count s place n) (λ u. run u rest) ≡ Ok t → I t.forms
  counted_holds k fm s t place rest next p zero h = absurd (cc h)
  counted_holds k fm s t place rest next p (suc n) h = next (record { left = n; forms = s.forms; uses = s.uses }) p h

  tested_holds : (k : ℕ) (fm : Key × Found) (s t : State) (rest : List Step) → Rest k fm t rest → Stands k fm s.forms → (o : Option Fault)
      → and_then (after_test s o) (λ u. run u rest) ≡ Ok t → I t.forms
  tested_holds k fm s t rest next p None h = next s p h
  tested_holds k fm s t rest next p (Some f) h = absurd (cc h)

  entered_holds : (k : ℕ) (fm : Key × Found) (s t : State) (c : Called) (rest : List Step) → Rest k fm t rest → Stands k fm s.forms → P k fm.1 c → (o : Option ℕ)
      → number_of s.forms c.key ≡ o
      → and_then (after_entry s c o) (λ u. run u rest) ≡ Ok t → I t.forms
  entered_holds k fm s t c rest next st p None e h = absurd (cc h)
  entered_holds k fm s t c rest next st p (Some n) e h =
      next (record { left = s.left; forms = with_form s.forms c.key c.form; uses = s.uses ++ c.uses n }) (with_one k fm s.forms c n (key_number s.forms c.key) refl e p st) h

  run_holds : (k : ℕ) (fm : Key × Found) (steps : List Step) (s t : State) → Everywhere (P k fm.1) steps → Stands k fm s.forms → run s steps ≡ Ok t → I t.forms
  run_holds k fm [] s t of p h = let e : s ≡ t = cc h in subst (λ (u : State). I u.forms) e p.holds
  run_holds k fm (Opens ∷ rest) s t of p h = run_holds k fm rest _ t of p h
  run_holds k fm (Counts place ∷ rest) s t of p h = counted_holds k fm s t place rest (λ u q g. run_holds k fm rest u t of q g) p s.left h
  run_holds k fm (Tests o ∷ rest) s t of p h = tested_holds k fm s t rest (λ u q g. run_holds k fm rest u t of q g) p o h
  run_holds k fm (Calls c ∷ rest) s t of p h = entered_holds k fm s t c rest (λ u q g. run_holds k fm rest u t of.1 q g) p of.0 (number_of s.forms c.key) refl h

  abbrev begun_state : Forms → State
  begun_state forms = record { left = 0; forms = forms; uses = [] }

  ran_holds : (x : Instance) (v : Variant) (k : ℕ) (fm : Key × Found) (forms : Forms) (scope : Scope) (f : Outcome)
      → slice_get instances fm.1.instance ≡ Some x → variant_of variants x.task x.kind ≡ Some v
      → Stands k fm forms → (r : Value State) → run (begun_state forms) (steps_of variants instances x v k fm.1 scope) ≡ r
      → and_then r (λ t. Ok (outcome_of scope t)) ≡ Ok f → I f.forms
  ran_holds x v k fm forms scope f there runs p (Ok t) e h =
      let is : outcome_of scope t ≡ f = cc h in
      subst (λ (g : Outcome). I g.forms) is
      (run_holds k fm (steps_of variants instances x v k fm.1 scope) (begun_state forms) t (each x v k fm.1 scope there runs) p e)
  ran_holds x v k fm forms scope f there runs p (Err y) e h = absurd (cc h)

  declared_holds : (x : Instance) (v : Variant) (k : ℕ) (fm : Key × Found) (forms : Forms) (f : Outcome) → slice_get instances fm.1.instance ≡ Some x
      → variant_of variants x.task x.kind ≡ Some v
      → Stands k fm forms → (d : Value Scope)
      → and_then d (λ s. and_then (run (begun_state forms) (body_steps v.body (frame_in variants instances x k fm.1) s)) (λ t. Ok (outcome_of s t))) ≡ Ok f
      → I f.forms
  declared_holds x v k fm forms f there runs p (Ok scope) h =
      ran_holds x v k fm forms scope f there runs p (run (begun_state forms) (steps_of variants instances x v k fm.1 scope)) refl h
  declared_holds x v k fm forms f there runs p (Err y) h = absurd (cc h)

  abbrev okay : Outcome → Value Outcome
  okay f = Ok f

  unwalked_holds : (forms : Forms) (f : Outcome) → I forms → okay (no_walk forms) ≡ Ok f → I f.forms
  unwalked_holds forms f p h = let is : forms ≡ f.forms = cc h in subst I is p

  with_holds : (x : Instance) (v : Variant) (k : ℕ) (fm : Key × Found) (forms : Forms) (f : Outcome) → slice_get instances fm.1.instance ≡ Some x
      → variant_of variants x.task x.kind ≡ Some v
      → Stands k fm forms → (o : Option Scope) → walked_with variants instances x v k fm.1 forms o ≡ Ok f → I f.forms
  with_holds x v k fm forms f there runs p None h = unwalked_holds forms f p.holds h
  with_holds x v k fm forms f there runs p (Some scope) h = declared_holds x v k fm forms f there runs p (all_declared x.tunings scope v.decls) h

  by_holds : (x : Instance) (k : ℕ) (fm : Key × Found) (forms : Forms) (f : Outcome) → slice_get instances fm.1.instance ≡ Some x → Stands k fm forms
      → (o : Option Variant) → variant_of variants x.task x.kind ≡ o → walked_by variants instances x k fm.1 forms o ≡ Ok f → I f.forms
  by_holds x k fm forms f there p None runs h = unwalked_holds forms f p.holds h
  by_holds x k fm forms f there p (Some v) runs h = with_holds x v k fm forms f there runs p (params_from empty_scope v.params 0 fm.1.extents) h

  in_holds : (k : ℕ) (fm : Key × Found) (forms : Forms) (f : Outcome) → Stands k fm forms → (o : Option Instance) → slice_get instances fm.1.instance ≡ o
      → walked_in variants instances k fm.1 forms o ≡ Ok f → I f.forms
  in_holds k fm forms f p None there h = unwalked_holds forms f p.holds h
  in_holds k fm forms f p (Some x) there h = by_holds x k fm forms f there p (variant_of variants x.task x.kind) refl h

  next_holds : (n k : ℕ) (r s : Resolving) (form : Key × Found) → I r.found → slice_get r.found k ≡ Some form
      → ((t : Resolving) → I t.found → walk_from variants instances n (k + 1) t ≡ Ok s → I s.found) → (v : Value Outcome)
      → walk_of variants instances k form.1 r.found ≡ v
      → and_then (and_then v (λ o. Ok (more r form.1 o))) (λ t. walk_from variants instances n (k + 1) t) ≡ Ok s → I s.found
  next_holds n k r s form p there rest (Ok o) e h =
      rest (more r form.1 o) (in_holds k form r.found o (record { holds = p; at = there }) (slice_get instances form.1.instance) refl e) h
  next_holds n k r s form p there rest (Err x) e h = absurd (cc h)

  found_holds : (n k : ℕ) (r s : Resolving) → I r.found → ((t : Resolving) → I t.found → walk_from variants instances n (k + 1) t ≡ Ok s → I s.found)
      → (o : Option (Key × Found)) → slice_get r.found k ≡ o
      → and_then (next_walked variants instances k r o) (λ t. walk_from variants instances n (k + 1) t) ≡ Ok s → I s.found
  found_holds n k r s p rest None there h = rest r p h
  found_holds n k r s p rest (Some form) there h = next_holds n k r s form p there rest (walk_of variants instances k form.1 r.found) refl h

  holds_from : (n k : ℕ) (r s : Resolving) → I r.found → walk_from variants instances n k r ≡ Ok s → I s.found
  holds_from zero k r s p h = let e : r ≡ s = cc h in subst (λ (t : Resolving). I t.found) e p
  holds_from (suc n) k r s p h = found_holds n k r s p (λ t q g. holds_from n (k + 1) t s q g) (slice_get r.found k) refl h

-- what holds of the entry alone, whose extents were found to be good, holds of all
begun_holds : (variants : List Variant) (mapping : Mapping) (I : Forms → Type 0) (P : ℕ → Found → Called → Type 0) → Adding I P
    → InEachForm variants mapping.instances P → (r : Resolving)
    → (v : Value (List (List ℕ))) → ((extents : List (List ℕ)) → v ≡ Ok extents → I (with_entry mapping.entry extents).found)
    → and_then v (λ extents. walk_from variants mapping.instances most_forms 0 (with_entry mapping.entry extents)) ≡ Ok r → I r.found
begun_holds variants mapping I P adds each r (Err x) alone h = absurd (cc h)
begun_holds variants mapping I P adds each r (Ok extents) alone h =
    holds_from variants mapping.instances I P adds each most_forms 0 (with_entry mapping.entry extents) r (alone extents refl) h

all_hold : (variants : List Variant) (mapping : Mapping) (I : Forms → Type 0) (P : ℕ → Found → Called → Type 0) → Adding I P
    → InEachForm variants mapping.instances P
    → ((extents : List (List ℕ)) → entry_extents mapping.sizes (entry_params variants (slice_get mapping.instances mapping.entry)) ≡ Ok extents
    → I (with_entry mapping.entry extents).found)
    → (r : Resolving) → resolution variants mapping ≡ Ok r → I r.found
all_hold variants mapping I P adds each alone r h =
    begun_holds variants mapping I P adds each r (entry_extents mapping.sizes (entry_params variants (slice_get mapping.instances mapping.entry))) alone h

-- ---- the forms that are found are those that are called

-- the instance that serves the call with this number in the text of a form
abbrev pub by_variant : List Variant → List Instance → Instance → ℕ → Option Variant → ℕ
by_variant variants instances x call None = 0
by_variant variants instances x call (Some v) =
    instance_in (frame_at variants instances x 0) (slice_get (body_calls v.body) call)

abbrev pub by_instance : List Variant → List Instance → ℕ → Option Instance → ℕ
by_instance variants instances call None = 0
by_instance variants instances call (Some x) = by_variant variants instances x call (variant_of variants x.task x.kind)

abbrev pub serving : List Variant → List Instance → Found → ℕ → ℕ
serving variants instances f call = by_instance variants instances call (slice_get instances f.instance)

pub record WasCalled (variants : List Variant) (instances : List Instance) (forms : Forms) (e : Key × Found) :
    Type 0 where
  pub form : ℕ
  pub call : ℕ
  pub caller : e.1.caller ≡ Some (record { form = form; call = call })
  pub from : Key × Found
  pub there : slice_get forms form ≡ Some from
  pub instance : e.1.instance ≡ serving variants instances from.1 call
  pub key : e.0 ≡ key_of form call e.1.instance e.1.in_place e.1.extents

pub record AllCalled (variants : List Variant) (instances : List Instance) (forms : Forms) : Type 0 where
  pub each : (i : ℕ) (e : Key × Found) → slice_get forms i ≡ Some e
      → (e.1.caller ≡ None) ⊎ WasCalled variants instances forms e
  pub numbered : (i : ℕ) (e : Key × Found) → slice_get forms i ≡ Some e → key_number forms e.0 ≡ Some i

record IsCalling (variants : List Variant) (instances : List Instance) (k : ℕ) (f : Found) (c : Called) : Type 0 where
  call : ℕ
  caller : c.form.caller ≡ Some (record { form = k; call = call })
  instance : c.form.instance ≡ serving variants instances f call
  key : c.key ≡ key_of k call c.form.instance c.form.in_place c.form.extents

last_or : (forms : Forms) (e f : Key × Found) (i : ℕ) → slice_get (forms ++ e ∷ []) i ≡ Some f
    → (slice_get forms i ≡ Some f) ⊎ ((i ≡ length forms) × (e ≡ f))
last_or [] e f zero h = inr (refl, cc h)
last_or [] e f (suc i) h = absurd (cc h)
last_or (g ∷ forms) e f zero h = inl h
last_or (g ∷ forms) e f (suc i) h = elim (last_or forms e f i h) [ inl p ↦ inl p | inr p ↦ inr (ap suc p.0, p.1) ]

less_is : (m n : ℕ) → m < n → nat_lt m n ≡ true
less_is m n h = grind (arith, nat_tests, h)

new_number : (forms : Forms) (key : Key) (form : Found) → length forms < most_forms → key_number forms key ≡ None
    → key_number (forms ++ (key, form) ∷ []) key ≡ Some (length forms)
new_number forms key form few h =
    let number : number_of forms key ≡ Some (length forms) = ap (λ (o : Option ℕ). number_or_next o (length forms)) h
    ∙ ap (λ (v : Bool). if v then Some (length forms) else None) (less_is (length forms) most_forms few) in
    ap (λ (o : Option ℕ). key_number (if is_some o then forms else forms ++ (key, form) ∷ []) key) (sym h)
    ∙ entered_number forms key form (length forms) number

module _ (variants : List Variant) (instances : List Instance) where
  still : (forms more : Forms) (e : Key × Found) → WasCalled variants instances forms e
      → WasCalled variants instances (forms ++ more) e
  still forms more e h = record {
    form = h.form;
    call = h.call;
    caller = h.caller;
    from = h.from;
    there = get_front forms more h.form h.from h.there;
    instance = h.instance;
    key = h.key;
  }

  or_still : (forms more : Forms) (e : Key × Found) → (e.1.caller ≡ None) ⊎ WasCalled variants instances forms e
      → (e.1.caller ≡ None) ⊎ WasCalled variants instances (forms ++ more) e
  or_still forms more e (inl p) = inl p
  or_still forms more e (inr p) = inr (still forms more e p)

  called_added : Adding (AllCalled variants instances) (IsCalling variants instances)
  called_added k fm forms c p at few new holds = record {
    each = λ i e h. elim (last_or forms (c.key, c.form) e i h) [
      | inl old ↦ or_still forms ((c.key, c.form) ∷ []) e (holds.each i e old)
      | inr own ↦ inr (subst (WasCalled variants instances (forms ++ (c.key, c.form) ∷ [])) own.1 (record {
        form = k;
        call = p.call;
        caller = p.caller;
        from = fm;
        there = get_front forms ((c.key, c.form) ∷ []) k fm at;
        instance = p.instance;
        key = p.key;
      }))
    ];
    numbered = λ i e h. elim (last_or forms (c.key, c.form) e i h) [
      | inl old ↦ number_kept forms ((c.key, c.form) ∷ []) e.0 i (holds.numbered i e old)
      | inr own ↦ ap (λ (g : Key × Found). key_number (forms ++ (c.key, c.form) ∷ []) g.0) (sym own.1)
          ∙ new_number forms c.key c.form few new ∙ ap Some (sym own.0)
    ];
  }

module _ (r : Resolved) (w : Walked r) where
  abbrev tasks : List Variant
  tasks = r.typed.now.tasks

  abbrev places : List Instance
  places = r.mapping.now.instances

  one_calling : (x : Instance) (v : Variant) (k : ℕ) (f : Found) → slice_get places f.instance ≡ Some x
      → variant_of tasks x.task x.kind ≡ Some v → (t : Text) → v.body ≡ t → (c : Called) (q : Reached) (d : Begun)
      → One [] (frame_in tasks places x k f) (body_calls t) c q d → IsCalling tasks places k f c
  one_calling x v k f there runs t is c q d one = record {
    call = q.call;
    caller = one.caller;
    instance = one.instance
        ∙ sym (ap (by_instance tasks places q.call) there ∙ ap (by_variant tasks places x q.call) runs
        ∙ ap (λ (b : Text). instance_in (frame_at tasks places x 0) (slice_get (body_calls b) q.call)) is);
    key = one.key;
  }

  all_calling : (x : Instance) (v : Variant) (k : ℕ) (f : Found) → slice_get places f.instance ≡ Some x
      → variant_of tasks x.task x.kind ≡ Some v → (t : Text) → v.body ≡ t → {cs : List Called} {qs : List Reached} {ds : List Begun}
      → Ones [] (frame_in tasks places x k f) (body_calls t) cs qs ds → (i : ℕ) (c : Called) → slice_get cs i ≡ Some c
      → IsCalling tasks places k f c
  all_calling x v k f there runs t is none_left i c h = cc
  all_calling x v k f there runs t is (one_left {c = e} {r = q} {d = d} one rest) zero c h =
      let z : e ≡ c = cc h in subst (IsCalling tasks places k f) z (one_calling x v k f there runs t is e q d one)
  all_calling x v k f there runs t is (one_left {c = e} {r = q} {d = d} one rest) (suc i) c h =
      all_calling x v k f there runs t is rest i c h

  text_calling : (x : Instance) (v : Variant) (k : ℕ) (f : Found) (scope : Scope) → slice_get places f.instance ≡ Some x
      → variant_of tasks x.task x.kind ≡ Some v → (t : Text) → v.body ≡ t → (i : ℕ) (c : Called)
      → slice_get (calls_in (body_steps t (frame_in tasks places x k f) scope)) i ≡ Some c → IsCalling tasks places k f c
  text_calling x v k f scope there runs (text.Leaf list) is i c h = cc
  text_calling x v k f scope there runs (text.Inner list) is i c h =
      all_calling x v k f there runs (text.Inner list) is
      (list_linked tasks places x k f [] scope.names (elems_of v scope) scope.numbers (body_calls (text.Inner list)) list
      (near_calls r w f.instance x v k f there runs (body_calls (text.Inner list))
      (λ j d g. (j, ap (λ (b : Text). slice_get (body_calls b) j) is ∙ g))) (λ j d g. g)) i c h

  each_calling : InEachForm tasks places (IsCalling tasks places)
  each_calling x v k f scope there runs =
      of_each (IsCalling tasks places k f) (steps_of tasks places x v k f scope)
      (λ i c h. text_calling x v k f scope there runs v.body refl i c h)

  entry_called : (instance : ℕ) (extents : List (List ℕ)) → AllCalled tasks places (with_entry instance extents).found
  entry_called instance extents = record {
    each = λ i e h. first i e h;
    numbered = λ i e h. number i e h;
  }
    where
      first : (i : ℕ) (e : Key × Found) → slice_get (with_entry instance extents).found i ≡ Some e
          → (e.1.caller ≡ None) ⊎ WasCalled tasks places (with_entry instance extents).found e
      first zero e h = let z = some_same _ e h in inl (ap (λ (g : Key × Found). g.1.caller) (sym z))
      first (suc i) e h = absurd (cc h)

      number : (i : ℕ) (e : Key × Found) → slice_get (with_entry instance extents).found i ≡ Some e
          → key_number (with_entry instance extents).found e.0 ≡ Some i
      number zero e h = let z = some_same _ e h in
          ap (λ (g : Key × Found). key_number (with_entry instance extents).found g.0) (sym z)
      number (suc i) e h = absurd (cc h)

  pub all_called : AllCalled tasks places r.found.entries
  all_called =
      all_hold tasks r.mapping.now (AllCalled tasks places) (IsCalling tasks places) (called_added tasks places) each_calling
      (λ extents e. entry_called r.mapping.now.entry extents) (walk r w) w.through

  none_some : (c : Caller) (o : Option Caller) → o ≡ Some c → o ≡ None → ⊥
  none_some c o p q = absurd (cc (sym p ∙ q))

  same_caller : (a c : Caller) → Some a ≡ Some c → (a.form ≡ c.form) × (a.call ≡ c.call)
  same_caller a c h =
      let z = some_same a c h in
      (ap (λ (d : Caller). d.form) z, ap (λ (d : Caller). d.call) z)

  -- the form that this call of the k-th form reaches
  pub number_by_key : (k call : ℕ) (f : Key × Found) → slice_get r.found.entries k ≡ Some f → (j : ℕ) (e : Key × Found)
      → slice_get r.found.entries j ≡ Some e → e.1.caller ≡ Some (record { form = k; call = call })
      → j ≡ form_number r.found.entries (key_of k call (serving tasks places f.1 call) e.1.in_place e.1.extents)
  number_by_key k call f there j e at called = by (all_called.each j e at)
    where
      by : (e.1.caller ≡ None) ⊎ WasCalled tasks places r.found.entries e
          → j ≡ form_number r.found.entries (key_of k call (serving tasks places f.1 call) e.1.in_place e.1.extents)
      by (inl none) = absurd (none_some _ e.1.caller called none)
      by (inr h) =
          let own : Caller = record { form = h.form; call = h.call } in
          let this : Caller = record { form = k; call = call } in
          let callers : Some own ≡ Some this = sym h.caller ∙ called in
          let same = same_caller own this callers in
          let from : h.from ≡ f = some_same h.from f (sym h.there ∙ ap (slice_get r.found.entries) same.0 ∙ there) in
          let serves : e.1.instance ≡ serving tasks places f.1 call =
          h.instance ∙ ap₂ (λ (g : Key × Found) (n : ℕ). serving tasks places g.1 n) from same.1 in
          let key : e.0 ≡ key_of k call (serving tasks places f.1 call) e.1.in_place e.1.extents =
          h.key ∙ ap₂ (λ (n m : ℕ). key_of n m e.1.instance e.1.in_place e.1.extents) same.0 same.1
          ∙ ap (λ (n : ℕ). key_of k call n e.1.in_place e.1.extents) serves in
          sym (ap or_zero (all_called.numbered j e at)) ∙ ap (form_number r.found.entries) key
