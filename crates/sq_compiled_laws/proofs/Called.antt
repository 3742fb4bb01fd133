-- Each form of a program but the entry is called: a row that the form begins which is its caller names it.
use Rattle.std.proofs.Common.{◌≡◌, ℕ, zero, suc, ◌+◌, ◌<◌, Bool, true, false, List, [], ◌∷◌, ◌++◌, length, Option, Some, None, is_some, Ok, Err, if◌then◌else◌, refl, sym, subst, ap, ◌∙◌, ◌⊎◌, inl, inr, arith}
use Rattle.std.specs.Prelude.{slice_get, nat_lt}
use Rattle.std.proofs.lemmas.Bool.Decides.{nat_tests}
use Rattle.sq_text.specs.declared.place.Place.{Place}
use Rattle.sq_text.specs.declared.fault.Fault.{Fault}
use Rattle.sq_ast.specs.declared.program.Variant.{Variant}
use Rattle.sq_mapping.specs.declared.mapping.Instance.{Instance}
use Rattle.sq_mapping.specs.declared.mapping.Mapping.{Mapping}
use Rattle.sq_forms.specs.declared.form.Form.{Form}
use Rattle.sq_forms.specs.declared.form.Found.{Found}
use Rattle.sq_forms.specs.Faults.{Value, and_then}
use Rattle.sq_forms.specs.Steps.{Step, State, Called, Forms, Key, Opens, Counts, Tests, Calls, run, after_count, after_test, after_entry, number_of, number_or_next, with_form, key_number, most_forms}
use Rattle.sq_forms.specs.Tables.{variant_of}
use Rattle.sq_forms.specs.Decls.{Scope, all_declared, params_from, empty_scope}
use Rattle.sq_forms.specs.Resolving.{Outcome, Resolving, with_locals, no_walk, frame_in, walked_with, walked_by, walked_in, walk_of, body_steps, outcome_of, more, next_walked, walk_from, resolution, with_entry, entry_extents, entry_params}
use Rattle.sq_form_laws.specs.Reached.{steps_of, calls_in, form_number, or_zero}
use Rattle.sq_form_laws.specs.Served.{FormRuns}
use Rattle.sq_form_laws.proofs.Passing.{Everywhere, of_each}
use Rattle.sq_spec.specs.declared.body.FormBody.{FormBody}
use Rattle.sq_spec.specs.declared.resolved.Resolved.{Resolved}
use Rattle.sq_spec_laws.specs.Needs.{Reached}
use Rattle.sq_meant.specs.PlanGood.DraftLaws.Choosing.{Walked}
use Rattle.sq_meant.specs.PlanGood.Homes.Begun.{Begun, calls_of}
use Rattle.sq_meant.specs.PlanGood.Homes.Chosen.Forms.{bodies_of}
use Rattle.sq_meant.specs.PlanGood.Term.Terms.{body_in}
use Rattle.sq_meant.proofs.PlanGood.DraftLaws.Forms.{bodies_are, many_forms}
use Rattle.sq_meant.proofs.PlanGood.Linked.{Ones, none as none_left, more as one_left}
use Rattle.sq_meant.proofs.PlanGood.Listing.{body_is, ones}
use Rattle.sq_meant.proofs.PlanGood.Near.{walk, runs_at}
use Rattle.sq_meant.proofs.PlanGood.Unique.{all_called}

get_front : {A : Type 0} (xs ys : List A) (i : ℕ) (x : A) → slice_get xs i ≡ Some x → slice_get (xs ++ ys) i ≡ Some x
get_front [] ys i x h = absurd (cc h)
get_front (y ∷ xs) ys zero x h = h
get_front (y ∷ xs) ys (suc i) x h = get_front xs ys i x h

some_same : {A : Type 0} (x y : A) → Some x ≡ Some y → x ≡ y
some_same x y h = cc h

-- each call among the steps of a form that was walked
abbrev InEachForm : List Variant → List Instance → (ℕ → Found → Called → Type 0) → Type 0
InEachForm variants instances P = (x : Instance) (v : Variant) (k : ℕ) (f : Found) (begun scope : Scope) → slice_get instances f.instance ≡ Some x
    → variant_of variants x.task x.kind ≡ Some v → params_from empty_scope v.params 0 f.extents ≡ Some begun
    → all_declared x.tunings begun v.decls ≡ Ok scope → Everywhere (P k f) (steps_of variants instances x v k f scope)

-- one more form
abbrev Adding : (Forms → Type 0) → (ℕ → Found → Called → Type 0) → Type 0
Adding I P = (k : ℕ) (fm : Key × Found) (forms : Forms) (c : Called) → P k fm.1 c → slice_get forms k ≡ Some fm
    → length forms < most_forms → key_number forms c.key ≡ None → I forms → I (forms ++ (c.key, c.form) ∷ [])

some_less : (b : Bool) (m n k : ℕ) → nat_lt m n ≡ b → (if b then Some m else None) ≡ Some k → m < n
some_less true m n k e h = grind (arith, nat_tests)
some_less false m n k e h = absurd (cc h)

module _ (variants : List Variant) (instances : List Instance) (I : Forms → Type 0) (P : ℕ → Found → Called → Type 0) (adds : Adding I P) (each : InEachForm variants instances P) where
  -- it holds, and the k-th form is among them
  record Stands (k : ℕ) (fm : Key × Found) (forms : Forms) : Type 0 where
    holds : I forms
    at : slice_get forms k ≡ Some fm

  with_one : (k : ℕ) (fm : Key × Found) (forms : Forms) (c : Called) (n : ℕ) (o : Option ℕ) → key_number forms c.key ≡ o → number_or_next o (length forms) ≡ Some n → P k fm.1 c
      → Stands k fm forms
      → Stands k fm (if is_some o then forms else forms ++ (c.key, c.form) ∷ [])
  with_one k fm forms c n (Some i) e h p st = st
  with_one k fm forms c n None e h p st = record {
    holds = adds k fm forms c p st.at (some_less (nat_lt (length forms) most_forms) (length forms) most_forms n refl h) e st.holds;
    at = get_front forms ((c.key, c.form) ∷ []) k fm st.at;
  }

  abbrev Rest : ℕ → Key × Found → State → List Step → Type 0
  Rest k fm t rest = (u : State) → Stands k fm u.forms → run u rest ≡ Ok t → I t.forms

  counted_holds : (k : ℕ) (fm : Key × Found) (s t : State) (place : Place) (rest : List Step) → Rest k fm t rest → Stands k fm s.forms → (n : ℕ)
      → and_then (after_count s place n) (λ u. run u rest) ≡ Ok t → I t.forms
  counted_holds k fm s t place rest next p zero h = absurd (cc h)
  counted_holds k fm s t place rest next p (suc n) h = next (record { left = n; forms = s.forms; uses = s.uses }) p h

  tested_holds : (k : ℕ) (fm : Key × Found) (s t : State) (rest : List Step) → Rest k fm t rest → Stands k fm s.forms → (o : Option Fault)
      → and_then (after_test s o) (λ u. run u rest) ≡ Ok t → I t.forms
  tested_holds k fm s t rest next p None h = next s p h
  tested_holds k fm s t rest next p (Some f) h = absurd (cc h)

  entered_holds : (k : ℕ) (fm : Key × Found) (s t : State) (c : Called) (rest : List Step) → Rest k fm t rest → Stands k fm s.forms → P k fm.1 c → (o : Option ℕ)
      → number_of s.forms c.key ≡ o
      → and_then (after_entry s c o) (λ u. run u rest) ≡ Ok t → I t.forms
  entered_holds k fm s t c rest next st p None e h = absurd (cc h)
  entered_holds k fm s t c rest next st p (Some n) e h =
      next (record { left = s.left; forms = with_form s.forms c.key c.form; uses = s.uses ++ c.uses n }) (with_one k fm s.forms c n (key_number s.forms c.key) refl e p st) h

  run_holds : (k : ℕ) (fm : Key × Found) (steps : List Step) (s t : State) → Everywhere (P k fm.1) steps → Stands k fm s.forms → run s steps ≡ Ok t → I t.forms
  run_holds k fm [] s t of p h = let e : s ≡ t = cc h in subst (λ (u : State). I u.forms) e p.holds
  run_holds k fm (Opens ∷ rest) s t of p h = run_holds k fm rest _ t of p h
  run_holds k fm (Counts place ∷ rest) s t of p h = counted_holds k fm s t place rest (λ u q g. run_holds k fm rest u t of q g) p s.left h
  run_holds k fm (Tests o ∷ rest) s t of p h = tested_holds k fm s t rest (λ u q g. run_holds k fm rest u t of q g) p o h
  run_holds k fm (Calls c ∷ rest) s t of p h = entered_holds k fm s t c rest (λ u q g. run_holds k fm rest u t of.1 q g) p of.0 (number_of s.forms c.key) refl h

  abbrev begun_state : Forms → State
  begun_state forms = record { left = 0; forms = forms; uses = [] }

  ran_holds : (x : Instance) (v : Variant) (k : ℕ) (fm : Key × Found) (forms : Forms) (begun scope : Scope) (f : Outcome)
      → slice_get instances fm.1.instance ≡ Some x → variant_of variants x.task x.kind ≡ Some v
      → params_from empty_scope v.params 0 fm.1.extents ≡ Some begun → all_declared x.tunings begun v.decls ≡ Ok scope
      → Stands k fm forms → (r : Value State) → run (begun_state forms) (steps_of variants instances x v k fm.1 scope) ≡ r
      → and_then r (λ t. Ok (outcome_of scope t)) ≡ Ok f → I f.forms
  ran_holds x v k fm forms begun scope f there runs binds decls p (Ok t) e h =
      let is : outcome_of scope t ≡ f = cc h in
      subst (λ (g : Outcome). I g.forms) is
      (run_holds k fm (steps_of variants instances x v k fm.1 scope) (begun_state forms) t (each x v k fm.1 begun scope there runs binds decls) p e)
  ran_holds x v k fm forms begun scope f there runs binds decls p (Err y) e h = absurd (cc h)

  declared_holds : (x : Instance) (v : Variant) (k : ℕ) (fm : Key × Found) (forms : Forms) (begun : Scope) (f : Outcome) → slice_get instances fm.1.instance ≡ Some x
      → variant_of variants x.task x.kind ≡ Some v → params_from empty_scope v.params 0 fm.1.extents ≡ Some begun
      → Stands k fm forms → (d : Value Scope) → all_declared x.tunings begun v.decls ≡ d
      → and_then d (λ s. and_then (run (begun_state forms) (body_steps v.body (frame_in variants instances x k fm.1) s)) (λ t. Ok (outcome_of s t))) ≡ Ok f
      → I f.forms
  declared_holds x v k fm forms begun f there runs binds p (Ok scope) e h =
      ran_holds x v k fm forms begun scope f there runs binds e p (run (begun_state forms) (steps_of variants instances x v k fm.1 scope)) refl h
  declared_holds x v k fm forms begun f there runs binds p (Err y) e h = absurd (cc h)

  abbrev okay : Outcome → Value Outcome
  okay f = Ok f

  unwalked_holds : (forms : Forms) (f : Outcome) → I forms → okay (no_walk forms) ≡ Ok f → I f.forms
  unwalked_holds forms f p h = let is : forms ≡ f.forms = cc h in subst I is p

  with_holds : (x : Instance) (v : Variant) (k : ℕ) (fm : Key × Found) (forms : Forms) (f : Outcome) → slice_get instances fm.1.instance ≡ Some x
      → variant_of variants x.task x.kind ≡ Some v
      → Stands k fm forms → (o : Option Scope) → params_from empty_scope v.params 0 fm.1.extents ≡ o → walked_with variants instances x v k fm.1 forms o ≡ Ok f → I f.forms
  with_holds x v k fm forms f there runs p None e h = unwalked_holds forms f p.holds h
  with_holds x v k fm forms f there runs p (Some scope) e h = declared_holds x v k fm forms scope f there runs e p (all_declared x.tunings scope v.decls) refl h

  by_holds : (x : Instance) (k : ℕ) (fm : Key × Found) (forms : Forms) (f : Outcome) → slice_get instances fm.1.instance ≡ Some x → Stands k fm forms
      → (o : Option Variant) → variant_of variants x.task x.kind ≡ o → walked_by variants instances x k fm.1 forms o ≡ Ok f → I f.forms
  by_holds x k fm forms f there p None runs h = unwalked_holds forms f p.holds h
  by_holds x k fm forms f there p (Some v) runs h = with_holds x v k fm forms f there runs p (params_from empty_scope v.params 0 fm.1.extents) refl h

  in_holds : (k : ℕ) (fm : Key × Found) (forms : Forms) (f : Outcome) → Stands k fm forms → (o : Option Instance) → slice_get instances fm.1.instance ≡ o
      → walked_in variants instances k fm.1 forms o ≡ Ok f → I f.forms
  in_holds k fm forms f p None there h = unwalked_holds forms f p.holds h
  in_holds k fm forms f p (Some x) there h = by_holds x k fm forms f there p (variant_of variants x.task x.kind) refl h

  next_holds : (n k : ℕ) (r s : Resolving) (form : Key × Found) → I r.found → slice_get r.found k ≡ Some form
      → ((t : Resolving) → I t.found → walk_from variants instances n (k + 1) t ≡ Ok s → I s.found) → (v : Value Outcome)
      → walk_of variants instances k form.1 r.found ≡ v
      → and_then (and_then v (λ o. Ok (more r form.1 o))) (λ t. walk_from variants instances n (k + 1) t) ≡ Ok s → I s.found
  next_holds n k r s form p there rest (Ok o) e h =
      rest (more r form.1 o) (in_holds k form r.found o (record { holds = p; at = there }) (slice_get instances form.1.instance) refl e) h
  next_holds n k r s form p there rest (Err x) e h = absurd (cc h)

  found_holds : (n k : ℕ) (r s : Resolving) → I r.found → ((t : Resolving) → I t.found → walk_from variants instances n (k + 1) t ≡ Ok s → I s.found)
      → (o : Option (Key × Found)) → slice_get r.found k ≡ o
      → and_then (next_walked variants instances k r o) (λ t. walk_from variants instances n (k + 1) t) ≡ Ok s → I s.found
  found_holds n k r s p rest None there h = rest r p h
  found_holds n k r s p rest (Some form) there h = next_holds n k r s form p there rest (walk_of variants instances k form.1 r.found) refl h

  holds_from : (n k : ℕ) (r s : Resolving) → I r.found → walk_from variants instances n k r ≡ Ok s → I s.found
  holds_from zero k r s p h = let e : r ≡ s = cc h in subst (λ (t : Resolving). I t.found) e p
  holds_from (suc n) k r s p h = found_holds n k r s p (λ t q g. holds_from n (k + 1) t s q g) (slice_get r.found k) refl h

-- what holds of the entry alone, whose extents were found to be good, holds of all
begun_holds : (variants : List Variant) (mapping : Mapping) (I : Forms → Type 0) (P : ℕ → Found → Called → Type 0) → Adding I P
    → InEachForm variants mapping.instances P → (r : Resolving)
    → (v : Value (List (List ℕ))) → ((extents : List (List ℕ)) → v ≡ Ok extents → I (with_entry mapping.entry extents).found)
    → and_then v (λ extents. walk_from variants mapping.instances most_forms 0 (with_entry mapping.entry extents)) ≡ Ok r → I r.found
begun_holds variants mapping I P adds each r (Err x) alone h = absurd (cc h)
begun_holds variants mapping I P adds each r (Ok extents) alone h =
    holds_from variants mapping.instances I P adds each most_forms 0 (with_entry mapping.entry extents) r (alone extents refl) h

all_hold : (variants : List Variant) (mapping : Mapping) (I : Forms → Type 0) (P : ℕ → Found → Called → Type 0) → Adding I P
    → InEachForm variants mapping.instances P
    → ((extents : List (List ℕ)) → entry_extents mapping.sizes (entry_params variants (slice_get mapping.instances mapping.entry)) ≡ Ok extents
    → I (with_entry mapping.entry extents).found)
    → (r : Resolving) → resolution variants mapping ≡ Ok r → I r.found
all_hold variants mapping I P adds each alone r h =
    begun_holds variants mapping I P adds each r (entry_extents mapping.sizes (entry_params variants (slice_get mapping.instances mapping.entry))) alone h

-- ---- the forms that are called

ok_same : {A : Type 0} (x y : A) → ◌≡◌ {A = Value A} (Ok x) (Ok y) → x ≡ y
ok_same x y h = cc h

module _ (variants : List Variant) (instances : List Instance) where
  -- a call among the steps of this form
  record IsAmong (k : ℕ) (f : Found) (c : Called) : Type 0 where
    x : Instance
    v : Variant
    begun : Scope
    scope : Scope
    instance : slice_get instances f.instance ≡ Some x
    runs : variant_of variants x.task x.kind ≡ Some v
    binds : params_from empty_scope v.params 0 f.extents ≡ Some begun
    decls : all_declared x.tunings begun v.decls ≡ Ok scope
    index : ℕ
    there : slice_get (calls_in (steps_of variants instances x v k f scope)) index ≡ Some c

  record IsOfCall (forms : Forms) (e : Key × Found) : Type 0 where
    form : ℕ
    from : Key × Found
    at : slice_get forms form ≡ Some from
    call : Called
    among : IsAmong form from.1 call
    is : e ≡ (call.key, call.form)

  record AllOfCalls (forms : Forms) : Type 0 where
    each : (i : ℕ) (e : Key × Found) → slice_get forms i ≡ Some e → (i ≡ 0) ⊎ IsOfCall forms e

  last_or : (forms : Forms) (e f : Key × Found) (i : ℕ) → slice_get (forms ++ e ∷ []) i ≡ Some f → (slice_get forms i ≡ Some f) ⊎ (e ≡ f)
  last_or [] e f zero h = inr (cc h)
  last_or [] e f (suc i) h = absurd (cc h)
  last_or (g ∷ forms) e f zero h = inl h
  last_or (g ∷ forms) e f (suc i) h = last_or forms e f i h

  still : (forms more : Forms) (i : ℕ) (e : Key × Found) → (i ≡ 0) ⊎ IsOfCall forms e → (i ≡ 0) ⊎ IsOfCall (forms ++ more) e
  still forms more i e (inl p) = inl p
  still forms more i e (inr p) = inr (record {
    form = p.form;
    from = p.from;
    at = get_front forms more p.form p.from p.at;
    call = p.call;
    among = p.among;
    is = p.is;
  })

  added : Adding AllOfCalls IsAmong
  added k fm forms c p at few new holds = record {
    each = λ i e h. elim (last_or forms (c.key, c.form) e i h) [
      | inl old ↦ still forms ((c.key, c.form) ∷ []) i e (holds.each i e old)
      | inr own ↦ inr (record { form = k; from = fm; at = get_front forms ((c.key, c.form) ∷ []) k fm at; call = c; among = p; is = sym own })
    ];
  }

  each_among : InEachForm variants instances IsAmong
  each_among x v k f begun scope there runs binds decls =
      of_each (IsAmong k f) (steps_of variants instances x v k f scope) (λ i c h. record {
        x = x;
        v = v;
        begun = begun;
        scope = scope;
        instance = there;
        runs = runs;
        binds = binds;
        decls = decls;
        index = i;
        there = h;
      })

module _ (r : Resolved) (w : Walked r) where
  abbrev tasks : List Variant
  tasks = r.typed.now.tasks

  abbrev places : List Instance
  places = r.mapping.now.instances

  entry_alone : (instance : ℕ) (extents : List (List ℕ)) → AllOfCalls tasks places (with_entry instance extents).found
  entry_alone instance extents = record { each = λ i e h. first i e h }
    where
      first : (i : ℕ) (e : Key × Found) → slice_get (with_entry instance extents).found i ≡ Some e
          → (i ≡ 0) ⊎ IsOfCall tasks places (with_entry instance extents).found e
      first zero e h = inl refl
      first (suc i) e h = absurd (cc h)

  all_of_calls : AllOfCalls tasks places r.found.entries
  all_of_calls =
      all_hold tasks r.mapping.now (AllOfCalls tasks places) (IsAmong tasks places) (added tasks places) (each_among tasks places)
      (λ extents e. entry_alone r.mapping.now.entry extents) (walk r w) w.through

  -- the row at the call's place in the tables
  row_at : (forms : Forms) (k : ℕ) (form : Key × Found) (there : slice_get r.found.entries k ≡ Some form)
      (its : FormRuns r.typed.now r.mapping.now (walk r w) k form.1) {text : List _} {cs : List Called} {qs : List Reached} {ds : List Begun}
      → Ones forms (frame_in tasks places its.fits.instance k form.1) text cs qs ds → (i : ℕ) (c : Called) → slice_get cs i ≡ Some c
      → (d : Begun) × (slice_get ds i ≡ Some d) × (d.row.form ≡ form_number forms c.key)
  row_at forms k form there its none_left i c h = absurd (cc h)
  row_at forms k form there its (one_left {c = e} {d = d} one rest) zero c h =
      let is : e ≡ c = cc h in (d, refl, one.row ∙ ap (λ (q : Called). form_number forms q.key) is)
  row_at forms k form there its (one_left {c = e} {d = d} one rest) (suc i) c h = row_at forms k form there its rest i c h

  -- a row of one form that names another
  pub record IsCalled (j : ℕ) : Type 0 where
    pub caller : ℕ
    pub form : Form
    pub form_there : slice_get r.forms caller ≡ Some form
    pub index : ℕ
    pub begun : Begun
    pub there : slice_get (calls_of (body_in (bodies_of r) caller).body) index ≡ Some begun
    pub names : begun.row.form ≡ j

  of_call : (j : ℕ) (e : Key × Found) → slice_get r.found.entries j ≡ Some e → IsOfCall tasks places r.found.entries e → IsCalled j
  of_call j e at p =
      let k = p.form in
      let form = p.from in
      let its = runs_at r w k form p.at in
      let a = p.among in
      let x_is : a.x ≡ its.fits.instance = some_same a.x its.fits.instance (sym a.instance ∙ its.fits.there) in
      let v_is : a.v ≡ its.fits.variant = some_same a.v its.fits.variant (sym a.runs ∙ ap (λ (x : Instance). variant_of tasks x.task x.kind) x_is ∙ its.fits.runs) in
      let begun_is : a.begun ≡ its.fits.begun = some_same a.begun its.fits.begun (sym a.binds ∙ ap (λ (v : Variant). params_from empty_scope v.params 0 form.1.extents) v_is ∙ its.fits.binds) in
      let scope_is : a.scope ≡ its.ran.scope = ok_same a.scope its.ran.scope
      (sym a.decls ∙ ap (λ (x : Instance). all_declared x.tunings a.begun a.v.decls) x_is
      ∙ ap (λ (s : Scope). all_declared its.fits.instance.tunings s a.v.decls) begun_is
      ∙ ap (λ (v : Variant). all_declared its.fits.instance.tunings its.fits.begun v.decls) v_is ∙ its.ran.declared) in
      let steps_are : steps_of tasks places a.x a.v k form.1 a.scope ≡ steps_of tasks places its.fits.instance its.fits.variant k form.1 its.ran.scope =
      ap (λ (x : Instance). steps_of tasks places x a.v k form.1 a.scope) x_is
      ∙ ap (λ (v : Variant). steps_of tasks places its.fits.instance v k form.1 a.scope) v_is
      ∙ ap (λ (s : Scope). steps_of tasks places its.fits.instance its.fits.variant k form.1 s) scope_is in
      let there = ap (λ (l : List Step). slice_get (calls_in l) a.index) (sym steps_are) ∙ a.there in
      let t = row_at r.found.entries k form p.at its (ones r w k form p.at its its.fits.variant.body refl) a.index p.call there in
      let number : form_number r.found.entries p.call.key ≡ j =
      ap (λ (g : Key × Found). form_number r.found.entries g.0) (sym p.is) ∙ ap or_zero ((all_called r w).numbered j e at) in
      let body = bodies_are r w k ∙ body_is r w k form p.at its in
      record {
        caller = k;
        form = with_locals form.1 its.ran.scope.locals;
        form_there = its.ran.kept;
        index = a.index;
        begun = t.0;
        there = ap (λ (b : FormBody). slice_get (calls_of b.body) a.index) body ∙ t.1;
        names = t.2 ∙ number;
      }

  pub is_called : (j : ℕ) → 0 < j → j < length r.forms → IsCalled j
  is_called j some less = by (slice_get r.found.entries j) refl
    where
      past : (xs : Forms) (i : ℕ) → slice_get xs i ≡ None → i < length xs → ⊥
      past [] i e lt = absurd (omega (arith, lt))
      past (x ∷ xs) zero e lt = absurd (cc e)
      past (x ∷ xs) (suc i) e lt = past xs i e (omega (arith, lt))

      by : (o : Option (Key × Found)) → slice_get r.found.entries j ≡ o → IsCalled j
      by None e = absurd (past r.found.entries j e (let m = many_forms r w in omega (arith, m, less)))
      by (Some e) at = one_of (all_of_calls.each j e at)
        where
          one_of : (j ≡ 0) ⊎ IsOfCall tasks places r.found.entries e → IsCalled j
          one_of (inl z) = absurd (omega (arith, z, some))
          one_of (inr p) = of_call j e at p
