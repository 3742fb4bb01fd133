use Rattle.std.proofs.Common.{ℕ, List, length, ap, ◌∙◌}
use Rattle.sq_driver.proofs.FilePhase.{arrays_are}
use Rattle.sq_driver.proofs.EntryArrays.{many_extents, many_buffers}
use Rattle.sq_driver.proofs.phases.filed.arrays_of.Goals as goal

pub entry_arrays-requires-clause-extents : goal.entry_arrays-requires-clause-extents
entry_arrays-requires-clause-extents c =
    many_extents c.places_fit.ensures.plan c.args.resolved.now c.args.plan.now c.requires
    c.entry_params-params.result.now c.entry_dims-dims.result.now c.entry_params-params.ensures
    c.entry_dims-dims.ensures.fit c.entry_dims-dims.ensures.found

pub entry_arrays-requires-clause-buffers : goal.entry_arrays-requires-clause-buffers
entry_arrays-requires-clause-buffers c =
    ap (λ (bs : List ℕ). length bs) c.as_slice-buffers.ensures
    ∙ many_buffers c.places_fit.ensures.plan c.args.resolved.now c.args.plan.now c.requires
    c.entry_params-params.result.now c.entry_dims-dims.result.now c.entry_params-params.ensures
    c.entry_dims-dims.ensures.fit c.entry_dims-dims.ensures.found

pub returns : goal.returns
returns c = arrays_are c.args.resolved.now c.args.plan.now c.entry_params-params.result.now
    c.entry_dims-dims.result.now c.as_slice-buffers.result.now c.entry_arrays.result c.entry_params-params.ensures
    c.entry_dims-dims.ensures.fit c.as_slice-buffers.ensures c.entry_arrays.ensures
