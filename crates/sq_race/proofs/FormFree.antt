-- Without a race among its accesses a program's work has none: form by form, by the calls that are left.
use Rattle.std.proofs.Common.{◌≡◌, ℕ, zero, suc, true, List, [], ◌∷◌, ◌++◌, length, Option, Some, None, Ok, Err, refl, sym, ◌∙◌, ap, subst, arith}
use Rattle.std.specs.Prelude.{slice_get}
use Rattle.sq_ast.specs.declared.stmt.Call.{Call}
use Rattle.sq_ast.specs.declared.program.Body.{Body}
use Rattle.sq_ast.specs.declared.program.Body.TheVariants as body
use Rattle.sq_ast.specs.declared.program.Param.{Param}
use Rattle.sq_ast.specs.declared.program.Program.{Program}
use Rattle.sq_ast.specs.declared.program.Variant.{Variant}
use Rattle.sq_ast.specs.Forms.{is_formed, is_formed_body}
use Rattle.sq_mapping.specs.Machfile.declared.level.Level.{Level}
use Rattle.sq_mapping.specs.declared.mapping.Instance.{Instance}
use Rattle.sq_mapping.specs.declared.mapping.Mapping.{Mapping}
use Rattle.sq_mapping.specs.Sound.{Sound}
use Rattle.sq_types.specs.Sites.{params_of, params_known, decls_known}
use Rattle.sq_types.specs.Sound.{is_sound, is_sound_body}
use Rattle.sq_types.specs.Table.{keeps_both}
use Rattle.sq_forms.specs.declared.form.Form.{Form}
use Rattle.sq_forms.specs.declared.form.Found.{Found}
use Rattle.sq_forms.specs.declared.form.Use.{Use}
use Rattle.sq_forms.specs.Faults.{Value, and_then}
use Rattle.sq_forms.specs.Steps.{Step, State, Opens, Counts, Tests, Calls, Called, Forms, Key, run}
use Rattle.sq_forms.specs.Args.{mode_of}
use Rattle.sq_ast.specs.Modes.{is_written}
use Rattle.sq_forms.specs.Tables.{variant_of}
use Rattle.sq_forms.specs.Worlds.{Frame, Callee, callee_of}
use Rattle.sq_forms.specs.Decls.{Scope, empty_scope, params_from, all_declared}
use Rattle.sq_forms.specs.Resolving.{Outcome, Resolving, resolution, frame_in, body_steps, walked_in, walked_by, walked_with, walked_at, outcome_of, with_locals}
use Rattle.sq_spec.specs.Statements.{elems_of}
use Rattle.sq_form_laws.specs.Reached.{Ran, calls_in, uses_of, form_number, steps_of, body_calls}
use Rattle.sq_form_laws.specs.Served.{FormRuns, FormFits, IsServed}
use Rattle.sq_form_laws.specs.Insides.{LiesIn, arrays_of}
use Rattle.sq_work.specs.Work.{Work}
use Rattle.sq_spec.specs.Works.{form_work, instance_work, variant_work, scope_work, declared_work, body_work, entry_work, work_of}
use Rattle.sq_work.specs.InTurn.{IsRaceFree}
use Rattle.sq_form_laws.proofs.AllHold.{within_list}
use Rattle.sq_form_laws.proofs.EachCall.{AllIn}
use Rattle.sq_form_laws.proofs.FitHold.{forms_run}
use Rattle.sq_form_laws.proofs.FormsHold.{each_walked}
use Rattle.sq_form_laws.proofs.InsideHold.{begun_good, all_good, accesses_lie_inside}
use Rattle.sq_form_laws.proofs.Passing.{past_count, past_test, past_call}
use Rattle.sq_form_laws.proofs.RanHold.{few_found}
use Rattle.sq_form_laws.proofs.ServedHold.{calls_are_served}
use Rattle.sq_race.specs.declared.map.Map.{Map}
use Rattle.sq_race.specs.declared.forms.Found.{Found as FoundRace}
use Rattle.sq_race.specs.Race.{HoldsIn, variant_by, maps_of_body, maps_by}
use Rattle.sq_race.specs.Table.{maps_in}
use Rattle.sq_race.proofs.Hits.{GoodCall, AllGood, Quiet, AllQuiet}
use Rattle.sq_race.proofs.EachWork.{Serves, AllFine, statements_free}
use Rattle.sq_race.proofs.Modes.{Among, among, sound_at, formed_at, formed_stmts, reduced_writes}

some_same : {A : Type 0} (x y : A) → Some x ≡ Some y → x ≡ y
some_same x y h = cc h

-- no two accesses race in a run of any of the maps
pub record NoRaces (maps : List Map) (uses : List Use) : Type 0 where
  pub none : (round : List ℕ) (x : FoundRace) → HoldsIn maps uses round x → ⊥

-- ---- accesses

at_front : {A : Type 0} (xs ys : List A) (i : ℕ) (x : A) → slice_get xs i ≡ Some x → slice_get (xs ++ ys) i ≡ Some x
at_front [] ys i x h = absurd (cc h)
at_front (y ∷ xs) ys zero x h = h
at_front (y ∷ xs) ys (suc i) x h = at_front xs ys i x h

at_back : {A : Type 0} (xs ys : List A) (i : ℕ) (x : A) → slice_get ys i ≡ Some x → (m : ℕ) × (slice_get (xs ++ ys) m ≡ Some x)
at_back [] ys i x h = (i, h)
at_back (y ∷ xs) ys i x h = let r = at_back xs ys i x h in (suc r.0, r.1)

-- each access of a call is one of the form
use_among : (forms : Forms) (calls : List Called) (i : ℕ) (c : Called) → slice_get calls i ≡ Some c → (j : ℕ) (u : Use)
    → slice_get (c.uses (form_number forms c.key)) j ≡ Some u → (m : ℕ) × (slice_get (uses_of forms calls) m ≡ Some u)
use_among forms [] i c h j u g = absurd (cc h)
use_among forms (d ∷ calls) zero c h j u g =
    let e : d ≡ c = cc h in
    let here : slice_get (d.uses (form_number forms d.key)) j ≡ Some u = ap (λ (b : Called). slice_get (b.uses (form_number forms b.key)) j) e ∙ g in
    (j, at_front (d.uses (form_number forms d.key)) (uses_of forms calls) j u here)
use_among forms (d ∷ calls) (suc i) c h j u g =
    let r = use_among forms calls i c h j u g in
    at_back (d.uses (form_number forms d.key)) (uses_of forms calls) r.0 u r.1

-- ---- steps that go through

module _ (forms : Forms) (callee : ℕ → Found → Work) (arrays : List (List ℕ)) (uses : List Use) where
  steps_good : (steps : List Step) (s t : State) → run s steps ≡ Ok t → ((i : ℕ) (c : Called) → slice_get (calls_in steps) i ≡ Some c
      → GoodCall forms callee arrays uses c) → AllGood forms callee arrays uses steps
  steps_good [] s t h f = tt
  steps_good (Opens ∷ l) s t h f = steps_good l _ t h f
  steps_good (Counts place ∷ l) s t h f = let p = past_count s t place l h in steps_good l p.0 t p.1 f
  steps_good (Tests o ∷ l) s t h f = let p = past_test s t o l h in (p.0, steps_good l s t p.1 f)
  steps_good (Calls c ∷ l) s t h f = let p = past_call s t c l h in (f 0 c refl, steps_good l p.0 t p.1 (λ i d g. f (suc i) d g))

  all_silent : (ms : List Map) → ((i : ℕ) (m : Map) → slice_get ms i ≡ Some m → Quiet forms callee arrays uses m) → AllQuiet forms callee arrays uses ms
  all_silent [] f = tt
  all_silent (m ∷ ms) f = (f 0 m refl, all_silent ms (λ i n g. f (suc i) n g))

  maps_silent : (ms : List Map) → NoRaces ms uses → AllQuiet forms callee arrays uses ms
  maps_silent ms none = all_silent ms (λ i m there. record {
    none = λ round j k u v first second before race. none.none round (record { map = i; later = k; earlier = j }) (record {
      map = m;
      a = u;
      b = v;
      map_is = there;
      earlier_is = first;
      later_is = second;
      before = before;
      race = race;
    });
  })

ran_through : {A B : Type 0} (v : Value A) (f : A → B) (b : B) → and_then v (λ a. Ok (f a)) ≡ Ok b → (a : A) × (v ≡ Ok a)
ran_through (Ok a) f b h = (a, refl)
ran_through (Err e) f b h = absurd (cc h)

all_from : (M : Call → Type 0) (cs : List Call) → ((i : ℕ) (c : Call) → slice_get cs i ≡ Some c → M c) → AllIn M cs
all_from M [] f = tt
all_from M (c ∷ cs) f = (f 0 c refl, all_from M cs (λ i d g. f (suc i) d g))

-- ---- forms

module _ (program : Program) (levels : List Level) (mapping : Mapping) (faultless : is_sound program ≡ true) (formed : is_formed program ≡ true)
    (read : Sound program levels mapping) (r : Resolving) (through : resolution program.tasks mapping ≡ Ok r)
    (quiet : (k : ℕ) (f : Form) (uses : List Use) → slice_get r.forms k ≡ Some f → slice_get r.uses k ≡ Some uses
    → NoRaces (maps_by (variant_by program.tasks (slice_get mapping.instances f.instance))) uses) where
  -- round a form of this number no more than n forms are called within one another, and what is known of it may differ
  -- in what its work doesn't depend on
  abbrev Free : ℕ → Type 0
  Free n = (k : ℕ) (form : Key × Found) → slice_get r.found k ≡ Some form → (f : Found) → f.instance ≡ form.1.instance → f.extents ≡ form.1.extents
      → IsRaceFree (form_work program.tasks mapping.instances r.found n k f)

  module _ (n : ℕ) (free : Free n) (k : ℕ) (form : Key × Found) (at : slice_get r.found k ≡ Some form) where
    abbrev tasks : List Variant
    tasks = program.tasks

    abbrev instances : List Instance
    instances = mapping.instances

    abbrev callee : ℕ → Found → Work
    callee = form_work tasks instances r.found n

    runs : FormRuns program mapping r k form.1
    runs = forms_run program levels mapping faultless read r through k form at

    module _ (fits : FormFits program mapping form.1) (ran : Ran program.tasks mapping.instances r k form.1 fits.instance fits.variant fits.begun) where
      abbrev x : Instance
      x = fits.instance

      abbrev v : Variant
      v = fits.variant

      abbrev frame : Frame
      frame = frame_in tasks instances x k form.1

      abbrev steps : List Step
      steps = steps_of tasks instances x v k form.1 ran.scope

      abbrev uses : List Use
      uses = uses_of r.found (calls_in steps)

      abbrev arrays : List (List ℕ)
      arrays = arrays_of form.1.extents ran.scope.locals

      -- the walk went through its statements
      went : (s : State) × (t : State) × (run s steps ≡ Ok t)
      went =
          let less = within_list r.found k form at in
          let few = few_found tasks mapping r through in
          let w = each_walked tasks mapping r through k form (omega (arith, less, few)) at in
          let a : walked_by tasks instances x k form.1 w.before (variant_of tasks x.task x.kind) ≡ Ok w.done =
          subst (λ (o : Option Instance). walked_in tasks instances k form.1 w.before o ≡ Ok w.done) fits.there w.walked in
          let b : walked_with tasks instances x v k form.1 w.before (params_from empty_scope v.params 0 form.1.extents) ≡ Ok w.done =
          subst (λ (o : Option Variant). walked_by tasks instances x k form.1 w.before o ≡ Ok w.done) fits.runs a in
          let c : walked_at frame x v w.before fits.begun ≡ Ok w.done =
          subst (λ (o : Option Scope). walked_with tasks instances x v k form.1 w.before o ≡ Ok w.done) fits.binds b in
          let s : State = record { left = 0; forms = w.before; uses = [] } in
          let next : Scope → Value Outcome = λ scope. and_then (run s (body_steps v.body frame scope)) (λ t. Ok (outcome_of scope t)) in
          let e : next ran.scope ≡ Ok w.done = sym (ap (λ o. and_then o next) ran.declared) ∙ c in
          let g = ran_through (run s (body_steps v.body frame ran.scope)) (outcome_of ran.scope) w.done e in
          (s, g.0, g.1)

      good_call : (i : ℕ) (c : Called) → slice_get (calls_in steps) i ≡ Some c → GoodCall r.found callee arrays uses c
      good_call i c there =
          let its = ran.callees i c there in record {
            among = use_among r.found (calls_in steps) i c there;
            free = λ f instance extents. free (form_number r.found c.key) its.form its.there f (instance ∙ sym its.is.instance) (extents ∙ sym its.is.extents);
          }

      all_steps : AllGood r.found callee arrays uses steps
      all_steps = let w = went in steps_good r.found callee arrays uses steps w.0 w.1 w.2 good_call

      call_served : (i : ℕ) (c : Call) → slice_get (body_calls v.body) i ≡ Some c → (callee_ : Callee) × (callee_of frame c.task ≡ Some callee_)
          × IsServed program mapping x c callee_
      call_served i c there = calls_are_served program levels mapping read form.1.instance x v fits.there fits.runs i c there k form.1

      writes_reduced : (c : Call) (its : Callee) → IsServed program mapping x c its → (ps : List Param) → params_of tasks c.task ≡ Some ps → (i : ℕ)
          → keeps_both (Some ps) i ≡ true → is_written (mode_of (slice_get its.params i)) ≡ true
      writes_reduced c its own ps has i keeps =
          let w = own.variant in
          let a = among tasks own.instance.task own.instance.kind w own.runs in
          let sound = sound_at tasks tasks [] faultless a.index w a.there in
          let task : w.task ≡ c.task = sym a.named ∙ own.task in
          let mine : params_of tasks w.task ≡ Some ps = ap (params_of tasks) task ∙ has in
          ap (λ (l : List Param). is_written (mode_of (slice_get l i))) own.params ∙ reduced_writes tasks w ps sound mine i keeps

      no_races : (b : Body) → v.body ≡ b → NoRaces (maps_of_body b) uses
      no_races b is =
          let none = quiet k (with_locals form.1 ran.scope.locals) uses ran.kept ran.uses in
          let variant : variant_by tasks (slice_get instances form.1.instance) ≡ Some v = ap (variant_by tasks) fits.there ∙ fits.runs in
          subst (λ b. NoRaces (maps_of_body b) uses) is (subst (λ o. NoRaces (maps_by o) uses) variant none)

      own_variant : Among tasks x.task v
      own_variant = among tasks x.task x.kind v fits.runs

      body_free : (f : Found) (b : Body) → v.body ≡ b → IsRaceFree (body_work r.found callee v b f (frame_in tasks instances x k f) ran.scope)
      body_free f (body.Leaf list) is = tt
      body_free f (body.Inner list) is =
          let names = ran.scope.names in
          let elems = elems_of v ran.scope in
          let begun = begun_good form.1.extents v.params fits.begun fits.binds fits.many in
          let good = all_good form.1.extents x.tunings v.decls fits.begun ran.scope begun ran.declared in
          let placed = good.array in
          let lies : (j : ℕ) (u : Use) → slice_get uses j ≡ Some u → LiesIn arrays u.array u.rect =
          accesses_lie_inside tasks mapping r k form.1 x v fits.begun fits.binds fits.many ran uses ran.uses in
          let among_ = own_variant in
          let sound = sound_at tasks tasks [] faultless among_.index v among_.there in
          let known = decls_known v.decls (params_known v.params []) in
          let serves = Serves r.found frame f.maps f.depth names tasks callee elems arrays uses placed lies in
          let fine : AllFine r.found frame f.maps f.depth names tasks callee elems arrays uses placed lies list = record {
            known = known;
            sound = sym (ap (λ b. is_sound_body tasks b known) is) ∙ sound.body_;
            formed = formed_stmts v.kind list (sym (ap (λ b. is_formed_body v.kind b) is) ∙ formed_at tasks formed among_.index v among_.there);
            calls = all_from serves (body_calls (body.Inner list)) (λ i c there.
                let s = call_served i c (ap (λ b. slice_get (body_calls b) i) is ∙ there) in
                record { its = s.0; serves = s.1; written = writes_reduced c s.0 s.2 });
          } in
          let steps_ : AllGood r.found callee arrays uses (body_steps (body.Inner list) frame ran.scope) =
          subst (λ b. AllGood r.found callee arrays uses (body_steps b frame ran.scope)) is all_steps in
          statements_free r.found frame f.maps f.depth names tasks callee elems arrays uses placed lies list fine ran.scope.numbers steps_
          (maps_silent r.found callee arrays uses (maps_in list) (no_races (body.Inner list) is))

      work_free : (f : Found) → f.instance ≡ form.1.instance → f.extents ≡ form.1.extents → IsRaceFree (form_work tasks instances r.found (suc n) k f)
      work_free f instance extents =
          let there : slice_get instances f.instance ≡ Some x = ap (slice_get instances) instance ∙ fits.there in
          let binds : params_from empty_scope v.params 0 f.extents ≡ Some fits.begun = ap (params_from empty_scope v.params 0) extents ∙ fits.binds in
          let own = frame_in tasks instances x k f in
          let a : IsRaceFree (declared_work r.found callee own v f (all_declared x.tunings fits.begun v.decls)) =
          subst (λ o. IsRaceFree (declared_work r.found callee own v f o)) (sym ran.declared) (body_free f v.body refl) in
          let b : IsRaceFree (scope_work r.found callee own x v f (params_from empty_scope v.params 0 f.extents)) =
          subst (λ o. IsRaceFree (scope_work r.found callee own x v f o)) (sym binds) a in
          let c : IsRaceFree (variant_work r.found callee tasks instances x k f (variant_of tasks x.task x.kind)) =
          subst (λ o. IsRaceFree (variant_work r.found callee tasks instances x k f o)) (sym fits.runs) b in
          subst (λ o. IsRaceFree (instance_work r.found callee tasks instances k f o)) (sym there) c

  all_free : (n : ℕ) → Free n
  all_free zero k form at f instance extents = tt
  all_free (suc n) k form at f instance extents =
      let own = runs n (all_free n) k form at in
      work_free n (all_free n) k form at own.fits own.ran f instance extents

  entry_free : (o : Option (Key × Found)) → slice_get r.found 0 ≡ o → IsRaceFree (entry_work program.tasks mapping r.found o)
  entry_free None at = tt
  entry_free (Some form) at = all_free (length r.found) 0 form at form.1 refl refl

  pub program_free : IsRaceFree (work_of program.tasks mapping r.found)
  program_free = entry_free (slice_get r.found 0) refl
