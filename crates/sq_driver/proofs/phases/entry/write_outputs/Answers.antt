use Rattle.std.proofs.Common.{◌∙◌, ℕ, List, length, sym, ap}
use Rattle.sq_ast.specs.declared.program.Param.{Param}
use Rattle.sq_spec.specs.Works.{param_shapes}
use Rattle.sq_driver.specs.Entry.{params_of}
use Rattle.sq_driver.proofs.Entries.{entry_long, texts_same, gains_as, prefix_as}
use Rattle.sq_driver.proofs.phases.entry.write_outputs.Goals as goal

pub put_outputs-requires-clause-extents : goal.put_outputs-requires-clause-extents
put_outputs-requires-clause-extents g c = entry_long c.args.resolved.now.mapping.now.sizes
    (params_of c.args.resolved.now.typed.now c.args.resolved.now.mapping.now) c.entry_dims.result.now
    c.entry_dims.ensures.fit ∙ ap (λ (l : List Param). length l) (sym c.entry_params.ensures)

pub put_outputs-requires-clause-shapes : goal.put_outputs-requires-clause-shapes
put_outputs-requires-clause-shapes g c =
    c.requires.shapes ∙ (ap
    (λ (x : List (List ℕ)). param_shapes (params_of c.args.resolved.now.typed.now c.args.resolved.now.mapping.now)
    0 x) c.entry_dims.ensures.found ∙ ap (λ (l : List Param). param_shapes l 0 c.entry_dims.result.now)
    (sym c.entry_params.ensures))

pub returns-in-Ok-clause-wrote : goal.returns-in-Ok-clause-wrote
returns-in-Ok-clause-wrote g c = λ extents fit. (
  gains_as _ _ _ _
      (texts_same c.args.resolved.now.mapping.now.sizes
      (params_of c.args.resolved.now.typed.now c.args.resolved.now.mapping.now) c.entry_params.result.now extents
      c.entry_dims.result.now c.args.arrays.now.bytes c.entry_params.ensures c.entry_dims.ensures.fit fit)
      c.in-Ok.ensures.wrote.ok.0,
  c.in-Ok.ensures.wrote.ok.1,
)

pub returns-in-Err-clause-wrote : goal.returns-in-Err-clause-wrote
returns-in-Err-clause-wrote g c = λ extents fit. (
  prefix_as _ _ _ _
      (texts_same c.args.resolved.now.mapping.now.sizes
      (params_of c.args.resolved.now.typed.now c.args.resolved.now.mapping.now) c.entry_params.result.now extents
      c.entry_dims.result.now c.args.arrays.now.bytes c.entry_params.ensures c.entry_dims.ensures.fit fit)
      c.in-Err.ensures.wrote.failed.0,
  c.in-Err.ensures.wrote.failed.1,
  c.in-Err.ensures.later,
)
