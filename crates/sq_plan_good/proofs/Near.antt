-- The calls of a text are served nearby.
use Rattle.std.proofs.Common.{◌≡◌, ℕ, suc, ◌⊎◌, inl, inr, List, [], ◌∷◌}
use Rattle.std.proofs.Common.{slice_get, Some, refl, ap, ◌∙◌}
use Rattle.sq_ast.specs.declared.program.Variant.{Variant}
use Rattle.sq_ast.specs.declared.stmt.Call.{Call}
use Rattle.sq_mapping.specs.declared.mapping.Instance.{Instance}
use Rattle.sq_forms.specs.declared.form.Found.{Found}
use Rattle.sq_forms.specs.Steps.{Key}
use Rattle.sq_forms.specs.Tables.{variant_of}
use Rattle.sq_forms.specs.Worlds.{Callee}
use Rattle.sq_forms.specs.Resolving.{Resolving, frame_in}
use Rattle.sq_form_laws.specs.Reached.{body_calls}
use Rattle.sq_form_laws.specs.Served.{FormRuns, IsServed}
use Rattle.sq_form_laws.proofs.EachCall.{AllIn}
use Rattle.sq_form_laws.proofs.FitHold.{forms_run}
use Rattle.sq_form_laws.proofs.ServedHold.{calls_are_served}
use Rattle.sq_spec.specs.declared.resolved.Resolved.{Resolved}
use Rattle.sq_draft_laws.specs.Choosing.{Walked}
use Rattle.sq_plan_good.proofs.Linked.{IsNear}

some_same : {A : Type 0} (x y : A) → Some x ≡ Some y → x ≡ y
some_same x y h = cc h

module _ (r : Resolved) (w : Walked r) where
  abbrev pub walk : Resolving
  walk = record { found = r.found.entries; forms = r.forms; uses = r.uses }

  abbrev variants : List Variant
  variants = r.typed.now.tasks

  abbrev instances : List Instance
  instances = r.mapping.now.instances

  pub runs_at : (k : ℕ) (form : Key × Found) → slice_get r.found.entries k ≡ Some form
      → FormRuns r.typed.now r.mapping.now walk k form.1
  runs_at k form there =
      forms_run r.typed.now r.machine.now.levels r.mapping.now w.faultless w.read walk w.through k form there

  near_by : (level : ℕ) (c : Call) (x : Instance) (callee : Callee) → x.level ≡ level
      → IsServed r.typed.now r.mapping.now x c callee → (callee.level ≡ level) ⊎ (callee.level ≡ suc level)
  near_by level c x callee is served = by served.near
    where
      by : (served.instance.level ≡ x.level) ⊎ (served.instance.level ≡ suc x.level)
          → (callee.level ≡ level) ⊎ (callee.level ≡ suc level)
      by (inl e) = inl (served.level ∙ e ∙ is)
      by (inr e) = inr (served.level ∙ e ∙ ap suc is)

  -- each call of a text is served nearby
  pub near_calls : (number : ℕ) (x : Instance) (v : Variant) (k : ℕ) (f : Found) → slice_get instances number ≡ Some x
      → variant_of variants x.task x.kind ≡ Some v → (cs : List Call)
      → ((i : ℕ) (c : Call) → slice_get cs i ≡ Some c → (j : ℕ) × (slice_get (body_calls v.body) j ≡ Some c))
      → AllIn (IsNear (frame_in variants instances x k f)) cs
  near_calls number x v k f there runs [] h = tt
  near_calls number x v k f there runs (c ∷ cs) h =
      let j = h 0 c refl in
      let sv = calls_are_served r.typed.now r.machine.now.levels r.mapping.now w.read number x v there runs j.0 c j.1 k f in (
        record { callee = sv.0; serves = sv.1; near = near_by x.level c x sv.0 refl sv.2 },
        near_calls number x v k f there runs cs (λ i d e. h (suc i) d e),
      )
