-- The tables of a program's forms are as a built term asks.
use Rattle.std.proofs.Common.{◌≡◌, ℕ, zero, suc, ◌<◌, ◌≤◌, ◌==◌, true, List, [], ◌∷◌, map, length, slice_get}
use Rattle.std.proofs.Common.{Option, Some, None}
use Rattle.std.proofs.Common.{Ok, Err, refl, sym, ap, ◌∙◌, subst, arith}
use Rattle.std.proofs.lemmas.Bool.Decides.{nat_tests}
use Rattle.sq_ast.specs.declared.program.Body.{Body as Text}
use Rattle.sq_ast.specs.declared.program.Body.TheVariants as text
use Rattle.sq_ast.specs.declared.program.Program.{Program}
use Rattle.sq_ast.specs.declared.program.Variant.{Variant}
use Rattle.sq_ast.specs.declared.stmt.Call.{Call}
use Rattle.sq_ast.specs.declared.stmt.Stmt.{Stmt}
use Rattle.sq_forms.specs.Machfile.declared.level.Level.{Level}
use Rattle.sq_forms.specs.Mappings.declared.mapping.Instance.{Instance}
use Rattle.sq_forms.specs.Mappings.declared.mapping.Mapping.{Mapping}
use Rattle.sq_forms.specs.Mappings.Sound.{Sound}
use Rattle.sq_forms.specs.Types.Sound.{is_sound}
use Rattle.sq_blocks.specs.Names.{Numbers}
use Rattle.sq_forms.specs.declared.form.Found.{Found}
use Rattle.sq_forms.specs.Args.{Names}
use Rattle.sq_forms.specs.Decls.{Scope}
use Rattle.sq_forms.specs.Faults.{Value, and_then}
use Rattle.sq_forms.specs.Resolving.{Resolving, resolution, frame_in, body_steps, Outcome, outcome_of}
use Rattle.sq_forms.specs.Resolving.{walked_in, walked_by, walked_with}
use Rattle.sq_forms.specs.Steps.{Key, State, Forms, run, most_uses, most_forms}
use Rattle.sq_forms.specs.Worlds.{Frame}
use Rattle.sq_spec.specs.FormLaws.Reached.{concat, text_calls, body_calls}
use Rattle.sq_spec.specs.FormLaws.Served.{FormRuns}
use Rattle.sq_spec.proofs.FormLaws.FitHold.{forms_run}
use Rattle.sq_spec.proofs.FormLaws.FormsHold.{each_walked}
use Rattle.sq_spec.proofs.FormLaws.RanHold.{few_found}
use Rattle.sq_spec.proofs.FormLaws.ServedHold.{calls_are_served}
use Rattle.sq_spec.specs.declared.body.FormBody.{FormBody}
use Rattle.sq_spec.specs.Bodies.{found_body, instance_body, variant_body, scope_body, declared_body, what_runs}
use Rattle.sq_spec.specs.Works.{shapes_of}
use Rattle.sq_spec.specs.Statements.{elems_of}
use Rattle.sq_term_laws.specs.Fits.{Bounds, TabledBody}
use Rattle.sq_term_laws.specs.Begun.{Nest, joined, nests_of, AreFew, IsServed}
use Rattle.sq_term_laws.specs.Programs.{HaveLevels, ProgramsAreTabled}
use Rattle.sq_term_laws.proofs.Begun.{tables_are_begun}
use Rattle.sq_term_laws.proofs.Few.{runs_are_few}

inside : {A : Type 0} (xs : List A) (k : ℕ) (x : A) → slice_get xs k ≡ Some x → k < length xs
inside [] k x h = absurd (cc h)
inside (y ∷ xs) zero x h = omega arith
inside (y ∷ xs) (suc k) x h = let l = inside xs k x h in omega (arith, l)

more_few : (m n : ℕ) → m ≤ n → (names : Names) (numbers : Numbers) (outer : Nest) (ns : List Nest)
    → AreFew m names numbers outer ns → AreFew n names numbers outer ns
more_few m n le names numbers outer [] h = tt
more_few m n le names numbers outer (x ∷ ns) h
    = (let l = h.0 in omega (arith, l, le), more_few m n le names numbers outer ns h.1)

one_use : 1 ≤ most_uses
unfolding most_uses
one_use = omega arith

same_number : (m n : ℕ) → (m == n) ≡ true → m ≡ n
same_number m n h = grind (arith, nat_tests)

-- what went through came to a state
ended : {A B : Type 0} (o : Value A) (f : A → Value B) (d : B) → and_then o f ≡ Ok d → (t : A) × (o ≡ Ok t)
ended (Ok t) f d h = (t, refl)
ended (Err e) f d h = absurd (cc h)

module _ (program : Program) (levels : List Level) (mapping : Mapping) (sound : is_sound program ≡ true)
    (read : Sound program levels mapping) (r : Resolving) (through : resolution program.tasks mapping ≡ Ok r)
    (most : Bounds) (big : most_uses ≤ most.uses) (last : ℕ) (long : length levels ≡ suc last) (level : ℕ → ℕ)
    (leveled : HaveLevels mapping r.found level) where
  abbrev tasks : List Variant
  tasks = program.tasks

  abbrev instances : List Instance
  instances = mapping.instances

  module _ (k : ℕ) (form : Key × Found) (there : slice_get r.found k ≡ Some form) where
    abbrev f : Found
    f = form.1

    abbrev runs : FormRuns program mapping r k form.1
    runs = forms_run program levels mapping sound read r through k form there

    abbrev x : Instance
    x = runs.fits.instance

    abbrev v : Variant
    v = runs.fits.variant

    abbrev frame : Frame
    frame = frame_in tasks instances x k f

    abbrev scope : Scope
    scope = runs.ran.scope

    body_is : found_body r.found tasks instances k (slice_get r.found k)
        ≡ record { arrays = shapes_of v f scope; body = what_runs r.found frame v v.body scope }
    body_is =
        ap (found_body r.found tasks instances k) there
        ∙ (ap (instance_body r.found tasks instances k f) runs.fits.there
        ∙ (ap (variant_body r.found tasks instances x k f) runs.fits.runs
        ∙ (ap (scope_body r.found frame x v f) runs.fits.binds
        ∙ ap (declared_body r.found frame v f) runs.ran.declared)))

    low : k < most_forms
    low = let l = inside r.found k form there in let m = few_found tasks mapping r through in omega (arith, l, m)

    -- its walk went through
    went : (before : Forms) (done : Outcome) → walked_in tasks instances k f before (slice_get instances f.instance)
        ≡ Ok done
        → (t : State) × (run (record { left = 0; forms = before; uses = [] }) (body_steps v.body frame scope) ≡ Ok t)
    went before done h =
        ended (run (record { left = 0; forms = before; uses = [] }) (body_steps v.body frame scope))
        (λ t. Ok (outcome_of scope t)) done
        (sym (ap (walked_in tasks instances k f before) runs.fits.there
        ∙ (ap (walked_by tasks instances x k f before) runs.fits.runs
        ∙ (ap (walked_with tasks instances x v k f before) runs.fits.binds
        ∙ ap (λ z. and_then z (λ s. and_then
        (run (record { left = 0; forms = before; uses = [] }) (body_steps v.body frame s)) (λ t. Ok (outcome_of s t))))
        runs.ran.declared)))
        ∙ h)

    served : (list : List Stmt) → v.body ≡ text.Inner list → (i : ℕ) (c : Call)
        → slice_get (concat (map text_calls list)) i ≡ Some c → IsServed frame last c
    served list is i c at =
        let z = calls_are_served program levels mapping read f.instance x v runs.fits.there runs.fits.runs i c
        (ap (λ (t : Text). slice_get (body_calls t) i) is ∙ at) k f in
        let s = z.2 in
        let high = (read.instances z.0.instance s.instance s.there).level in
        record {
          callee = z.0;
          is = z.1;
          deep = λ e. let a = same_number z.0.level (suc x.level) e in let b
              = s.level in omega (arith, a, b, high, long);
        }

    by_text : (b : Text) → v.body ≡ b → TabledBody most last x.level (what_runs r.found frame v b scope)
    by_text (text.Leaf list) e = tt
    by_text (text.Inner list) e =
        let w = each_walked tasks mapping r through k form low there in
        let t = went w.before w.done w.walked in
        let few = runs_are_few frame scope list (record { left = 0; forms = w.before; uses = [] }) t.0
        (subst (λ (b : Text). run (record { left = 0; forms = w.before; uses = [] }) (body_steps b frame scope)
        ≡ Ok t.0) e t.1) in
        let one = one_use in
        tables_are_begun most last r.found frame scope.names (elems_of v scope) scope.numbers list (served list e)
        (omega (arith, one, big))
        (more_few most_uses most.uses big scope.names scope.numbers [] (joined (map nests_of list)) few)

    form_tabled : TabledBody most last (level k) (found_body r.found tasks instances k (slice_get r.found k)).body
    form_tabled =
        subst (λ l. TabledBody most last l (found_body r.found tasks instances k (slice_get r.found k)).body)
        (sym (leveled k form x there runs.fits.there))
        (subst (λ (b : FormBody). TabledBody most last x.level b.body) (sym body_is) (by_text v.body refl))

  tabled : (k : ℕ) (o : Option (Key × Found)) → slice_get r.found k ≡ o
      → TabledBody most last (level k) (found_body r.found tasks instances k (slice_get r.found k)).body
  tabled k None e = subst (λ z. TabledBody most last (level k) (found_body r.found tasks instances k z).body) (sym e) tt
  tabled k (Some form) e = form_tabled k form e

pub programs_are_tabled : ProgramsAreTabled
programs_are_tabled program levels mapping sound read r through most big last long level leveled k =
    tabled program levels mapping sound read r through most big last long level leveled k (slice_get r.found k) refl
