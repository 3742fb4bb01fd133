-- Each form but the entry is called, and so each runs somewhere.
use Rattle.std.proofs.Common.{◌≡◌, ◌⊎◌, inl, inr, ℕ, zero, suc, ◌+◌, ◌<◌, Bool, true, false, List, [], ◌∷◌, ◌++◌, length}
use Rattle.std.proofs.Common.{slice_get, Some, None, Ok, refl, sym, ap, subst, ◌∙◌, arith}
use Rattle.sq_ast.specs.declared.program.Variant.{Variant}
use Rattle.sq_machfile.specs.Machines.{WithinLimits}
use Rattle.sq_forms.specs.Mappings.declared.mapping.Instance.{Instance}
use Rattle.sq_forms.specs.Mappings.declared.mapping.Mapping.{Mapping}
use Rattle.sq_forms.specs.declared.form.Caller.{Caller}
use Rattle.sq_forms.specs.declared.form.Form.{Form}
use Rattle.sq_forms.specs.declared.form.Found.{Found}
use Rattle.sq_forms.specs.Resolving.{Resolving, resolution, with_locals}
use Rattle.sq_forms.specs.Steps.{Called, Forms, Key}
use Rattle.sq_spec.specs.FormLaws.Reached.{calls_in, steps_of}
use Rattle.sq_spec.specs.FormLaws.Served.{FormRuns}
use Rattle.sq_spec.proofs.FormLaws.AllHold.{Adding, all_hold}
use Rattle.sq_spec.proofs.FormLaws.AnswerHold.{forms_are_found, forms_callers_first}
use Rattle.sq_spec.proofs.FormLaws.RanHold.{Keyed, keys_reached}
use Rattle.sq_spec.specs.declared.resolved.Resolved.{Resolved}
use Rattle.sq_spec_laws.specs.Needs.{Reached, reached_from, child_for, StandsAt, entry, beside, below}
use Rattle.sq_spec_laws.specs.Needs.{AtLevel, IsSame, AreSame}
use Rattle.sq_spec_laws.proofs.LevelsHold.{forms_run_at_their_level}
use Rattle.sq_spec_laws.proofs.ReachedHold.{calls_are_those_reached}
use Rattle.sq_pass_laws.specs.Term.Stands.{Each, none, more}
use Rattle.sq_pass_laws.specs.Term.Stands as stands
use Rattle.sq_plan_good.specs.DraftLaws.Choosing.{Walked}
use Rattle.sq_plan_good.specs.Listed.{IsListed}
use Rattle.sq_plan_good.proofs.DraftLaws.Forms.{run_of, resolving}
use Rattle.sq_plan_good.proofs.ListedForms.{calls_are_listed}
use Rattle.sq_plan_good.proofs.ProgramLaws.EachForm.{each_good}
use Rattle.sq_overlap_laws.specs.Marks.{Runs, IsCalled, FormsAreCalled, FormsRunSomewhere}

some_same : {A : Type 0} (x y : A) → Some x ≡ Some y → x ≡ y
some_same x y h = cc h

-- ---- each form but the first has a caller

record HaveCallers (forms : Forms) : Type 0 where
  some : 0 < length forms
  each : (i : ℕ) (e : Key × Found) → slice_get forms (suc i) ≡ Some e → (c : Caller) × (e.1.caller ≡ Some c)

last_or : (forms : Forms) (e f : Key × Found) (i : ℕ) → slice_get (forms ++ e ∷ []) i ≡ Some f
    → (slice_get forms i ≡ Some f) ⊎ (e ≡ f)
last_or [] e f zero h = inr (cc h)
last_or [] e f (suc i) h = absurd (cc h)
last_or (g ∷ forms) e f zero h = inl h
last_or (g ∷ forms) e f (suc i) h = last_or forms e f i h

callers_added : (instances : List Instance) → Adding HaveCallers (Keyed instances)
callers_added instances k [] c p less few holds = absurd (let z = holds.some in omega (arith, z))
callers_added instances k (g ∷ forms) c p less few holds = record {
  some = omega arith;
  each = λ i e h. by i e (last_or forms (c.key, c.form) e i h);
}
  where
    by : (i : ℕ) (e : Key × Found) → (slice_get forms i ≡ Some e) ⊎ ((c.key, c.form) ≡ e)
        → (d : Caller) × (e.1.caller ≡ Some d)
    by i e (inl old) = holds.each i e old
    by i e (inr new) =
        (record { form = p.form; call = p.call }, ap (λ (f : Key × Found). f.1.caller) (sym new) ∙ p.caller)

have_callers : (variants : List Variant) (mapping : Mapping) (r : Resolving) → resolution variants mapping ≡ Ok r
    → HaveCallers r.found
have_callers variants mapping r h =
    all_hold variants mapping HaveCallers (Keyed mapping.instances) (callers_added mapping.instances)
    (keys_reached variants mapping.instances)
    (λ extents e. record { some = omega arith; each = λ i f g. absurd (cc g) }) r h

-- ---- the same calls beside one another

same_at : (k : ℕ) (cs : List Called) (rs : List Reached) → AreSame k cs rs → (i : ℕ) (c : Called)
    → slice_get cs i ≡ Some c → (q : Reached) × (slice_get rs i ≡ Some q) × IsSame k c q
same_at k [] rs same i c h = absurd (cc h)
same_at k (d ∷ cs) [] same i c h = absurd same
same_at k (d ∷ cs) (q ∷ rs) same zero c h =
    let is : d ≡ c = cc h in (q, refl, subst (λ (x : Called). IsSame k x q) is same.0)
same_at k (d ∷ cs) (q ∷ rs) same (suc i) c h = same_at k cs rs same.1 i c h

pub each_at : {A B : Type 0} (R : A → B → Type 0) {xs : List A} {ys : List B} → Each R xs ys → (i : ℕ) (x : A)
    → slice_get xs i ≡ Some x → (y : B) × (slice_get ys i ≡ Some y) × R x y
each_at R none i x e = absurd (cc e)
each_at R (more {x = z} {y = y} h rest) zero x e =
    let same : z ≡ x = cc e in (y, refl, subst (λ q. R q y) same h)
each_at R (more h rest) (suc i) x e = each_at R rest i x e

pub each_back : {A B : Type 0} (R : A → B → Type 0) {xs : List A} {ys : List B} → Each R xs ys → (i : ℕ) (y : B)
    → slice_get ys i ≡ Some y → (x : A) × (slice_get xs i ≡ Some x) × R x y
each_back R none i y e = absurd (cc e)
each_back R (more {x = x} {y = z} h rest) zero y e =
    let same : z ≡ y = cc e in (x, refl, subst (λ q. R x q) same h)
each_back R (more h rest) (suc i) y e = each_back R rest i y e

-- the level of a callee
near_level : (lower : Bool) (m n : ℕ) → m ≡ stands.below lower n → (m ≡ n) ⊎ (m ≡ suc n)
near_level true m n e = inr e
near_level false m n e = inl e

-- ---- forms are called

module _ (r : Resolved) (w : Walked r) where
  abbrev tasks : List Variant
  tasks = r.typed.now.tasks

  abbrev places : List Instance
  places = r.mapping.now.instances

  -- a call of a form before it reached it
  record WasReached (f : Found) : Type 0 where
    caller : ℕ
    form : Key × Found
    there : slice_get r.found.entries caller ≡ Some form
    its : FormRuns r.typed.now r.mapping.now (resolving r) caller form.1
    index : ℕ
    call : Called
    among : slice_get (calls_in (steps_of r.typed.now.tasks r.mapping.now.instances its.fits.instance its.fits.variant
        caller form.1 its.ran.scope)) index ≡ Some call
    is : call.form ≡ f

  abbrev IsReachedOrFirst : Found → Type 0
  IsReachedOrFirst f = (f.caller ≡ None) ⊎ WasReached f

  all_reached : (k : ℕ) (form : Key × Found) → slice_get r.found.entries k ≡ Some form → IsReachedOrFirst form.1
  all_reached =
      each_good r.typed.now r.machine.now.levels r.mapping.now w.faultless w.read (resolving r) w.through
      IsReachedOrFirst
      (λ k form there run good i c among. inr (record {
        caller = k;
        form = form;
        there = there;
        its = run;
        index = i;
        call = c;
        among = among;
        is = refl;
      }))
      (λ extents e. inl refl)

  called_by : (k : ℕ) (f : Form) → slice_get r.forms k ≡ Some f → (e : Found) → f.caller ≡ e.caller
      → f.extents ≡ e.extents → f.in_place ≡ e.in_place → WasReached e → IsCalled r k f
  called_by k f there e callers extents flags g =
      let run = g.its in
      let from = with_locals g.form.1 run.ran.scope.locals in
      let q = same_at g.caller
      (calls_in (steps_of tasks places run.fits.instance run.fits.variant g.caller g.form.1 run.ran.scope))
      (reached_from tasks places g.caller from)
      (calls_are_those_reached tasks r.mapping.now (resolving r) g.caller g.form.1 run.fits.instance run.fits.variant
      run.fits.begun run.fits.there run.fits.runs run.fits.binds run.ran) g.index g.call g.among in
      let is = q.2 in
      let caller : f.caller ≡ Some (record { form = g.caller; call = q.0.call }) =
      callers ∙ sym (ap (λ (x : Found). x.caller) g.is) ∙ is.caller in
      let extents_are : f.extents ≡ q.0.extents = extents ∙ sym (ap (λ (x : Found). x.extents) g.is) ∙ is.extents in
      let flags_are : f.in_place ≡ q.0.in_place = flags ∙ sym (ap (λ (x : Found). x.in_place) g.is) ∙ is.in_place in
      let d = each_at (IsListed r.forms g.caller from) (calls_are_listed r w g.caller from run.ran.kept) g.index q.0 q.1 in
      let li = d.2 in
      let number : k ≡ d.0.row.form = li.only k f there caller extents_are flags_are in
      let callee : f ≡ li.to = some_same f li.to (sym there ∙ (ap (slice_get r.forms) number ∙ li.there)) in
      record {
        caller = g.caller;
        earlier = forms_callers_first tasks r.mapping.now (resolving r) w.through k f _ there caller;
        from = from;
        reached = q.0;
        call = record {
          caller_there = run.ran.kept;
          callee_there = there;
          index = g.index;
          among = q.1;
          from_call = caller;
          extents = extents_are;
          in_place = flags_are;
        };
        near = near_level d.0.lower f.level from.level (ap (λ (x : Form). x.level) callee ∙ li.level);
      }

  is_called : (k : ℕ) (f : Form) → slice_get r.forms k ≡ Some f → 0 < k → IsCalled r k f
  is_called zero f there less = absurd (omega (arith, less))
  is_called (suc k) f there less =
      let e = forms_are_found tasks r.mapping.now (resolving r) w.through (suc k) f there in
      let has = (have_callers tasks r.mapping.now (resolving r) w.through).each k e.found e.there in
      by e.found.1 (ap (λ (x : Form). x.caller) e.is) (ap (λ (x : Form). x.extents) e.is)
      (ap (λ (x : Form). x.in_place) e.is) has.0 has.1 (all_reached (suc k) e.found e.there)
    where
      by : (e : Found) → f.caller ≡ e.caller → f.extents ≡ e.extents → f.in_place ≡ e.in_place → (c : Caller)
          → e.caller ≡ Some c → IsReachedOrFirst e → IsCalled r (suc k) f
      by e callers extents flags c some (inl first) = let z : Some c ≡ None = sym some ∙ first in absurd (cc z)
      by e callers extents flags c some (inr g) = called_by (suc k) f there e callers extents flags g

  -- ---- and run

  pub instance_there : (k : ℕ) (f : Form) → slice_get r.forms k ≡ Some f
      → (i : Instance) × (slice_get r.mapping.now.instances f.instance ≡ Some i)
  instance_there k f there =
      let e = forms_are_found tasks r.mapping.now (resolving r) w.through k f there in
      let run = run_of r w k e.found e.there in
      (run.fits.instance, ap (λ (g : Form). slice_get places g.instance) e.is ∙ run.fits.there)

  module _ (limits : WithinLimits r.machine.now) where
    pub at_level : (k node : ℕ) → Runs r k node → AtLevel r.machine.now.nodes r.forms k node
    at_level k node h =
        forms_run_at_their_level r.typed.now r.machine.now r.mapping.now (resolving r) limits w.read w.through k node h

    runs_once_called : (k : ℕ) (f : Form) (c : IsCalled r k f) (node : ℕ) → Runs r c.caller node
        → (f.level ≡ c.from.level) ⊎ (f.level ≡ suc c.from.level) → (y : ℕ) × Runs r k y
    runs_once_called k f c node runs (inl same) = (node, beside c.from f c.reached c.call same runs)
    runs_once_called k f c node runs (inr lower) =
        let at = at_level c.caller node runs in
        let i = instance_there c.caller c.from c.call.caller_there in
        let child = at.own.first_child + child_for i.0.spread at.own c.reached.turn in
        let goes : StandsAt places r.machine.now.nodes c.from c.reached node child = record {
          instance = i.0;
          runs = i.1;
          parent = at.own;
          there = at.own_there;
          is = refl;
        } in
        (child, below c.from f c.reached c.call lower runs goes)

    runs_below : (n k : ℕ) (f : Form) → k < n → slice_get r.forms k ≡ Some f → (y : ℕ) × Runs r k y
    runs_below zero k f less there = absurd (omega (arith, less))
    runs_below (suc n) zero f less there = (0, entry)
    runs_below (suc n) (suc k) f less there =
        let c = is_called (suc k) f there (omega arith) in
        let earlier = c.earlier in
        let up = runs_below n c.caller c.from (omega (arith, less, earlier)) c.call.caller_there in
        runs_once_called (suc k) f c up.0 up.1 c.near

pub forms_are_called : FormsAreCalled
forms_are_called r w k f there less = is_called r w k f there less

pub forms_run_somewhere : FormsRunSomewhere
forms_run_somewhere r w limits k f there = runs_below r w limits (suc k) k f (omega arith) there
