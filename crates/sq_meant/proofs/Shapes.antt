-- The shapes of the entry's parameters.
use Rattle.std.proofs.Common.{◌≡◌, ℕ, suc, ◌+◌, List, [], ◌∷◌, ◌++◌, length, take, Option, refl, sym, ap, ◌∙◌}
use Rattle.std.proofs.lemmas.List.{take_at}
use Rattle.sq_ast.specs.declared.program.Param.{Param}
use Rattle.sq_spec.specs.Forms.declared.form.Found.{Found}
use Rattle.sq_spec.specs.Forms.Steps.{Key}
use Rattle.sq_spec.specs.FormLaws.Served.{FormRuns}
use Rattle.sq_spec.specs.declared.body.FormBody.{FormBody}
use Rattle.sq_spec.specs.declared.resolved.Resolved.{Resolved}
use Rattle.sq_spec.specs.Works.{param_shapes, local_shapes}
use Rattle.sq_flat.specs.Held.{extents_in}
use Rattle.sq_plan_good.specs.ProgramLaws.Homes.{params_at}
use Rattle.sq_plan_good.proofs.ProgramLaws.RowsHold.{arrays_are, params_are}
use Rattle.sq_plan_good.specs.Homes.Drafts.{args_of}
use Rattle.sq_plan_good.specs.DraftLaws.Choosing.{Walked}
use Rattle.sq_plan_good.proofs.DraftLaws.Entry.{entry, extents, form, params, args_many}
use Rattle.sq_plan_good.proofs.DraftLaws.Forms.{tasks, instances, resolving, run_of, bodies_are}
use Rattle.sq_plan_good.specs.Good.{shapes_in}
use Rattle.sq_meant.specs.Places.{shapes_of}

as_many_shapes : (ps : List Param) (i : ℕ) (es : List (List ℕ)) → length (param_shapes ps i es) ≡ length ps
as_many_shapes [] i es = refl
as_many_shapes (p ∷ ps) i es = ap suc (as_many_shapes ps (i + 1) es)

module _ (r : Resolved) (w : Walked r) where
  abbrev run : FormRuns r.typed.now r.mapping.now (resolving r) 0 (form r).1
  run = run_of r w 0 (form r) (entry r).found

  abbrev own : List Param
  own = run.fits.variant.params

  own_are : params r ≡ own
  own_are =
      sym (ap (params_at (tasks r) (instances r)) (entry r).found)
      ∙ params_are r.typed.now r.machine.now.levels r.mapping.now w.faultless w.read (resolving r) w.through 0 (form r)
      (entry r).found run

  -- the first of the entry's arrays are its parameters
  front : take (length (args_of r)) (param_shapes own 0 (extents r) ++ local_shapes run.ran.scope.locals)
      ≡ param_shapes own 0 (extents r)
  front = take_at (param_shapes own 0 (extents r)) (local_shapes run.ran.scope.locals) (length (args_of r))
      (as_many_shapes own 0 (extents r) ∙ (sym run.fits.many ∙ sym (args_many r w)))

  pub shapes_agree : shapes_in r ≡ shapes_of r
  shapes_agree =
      ap (λ (b : FormBody). take (length (args_of r)) b.arrays) (bodies_are r w 0)
      ∙ (ap (take (length (args_of r)))
      (arrays_are r.typed.now r.machine.now.levels r.mapping.now w.faultless w.read (resolving r) w.through 0 (form r)
      (entry r).found run)
      ∙ (front
      ∙ (ap (λ (ps : List Param). param_shapes ps 0 (extents r)) (sym own_are)
      ∙ ap (λ (o : Option (Key × Found)). param_shapes (params r) 0 (extents_in o)) (sym (entry r).found))))
