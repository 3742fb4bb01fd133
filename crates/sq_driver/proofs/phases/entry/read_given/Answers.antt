use Rattle.std.proofs.Common.{◌∙◌, ℕ, List, length, map, sym, ap, subst}
use Rattle.sq_ast.specs.declared.program.Param.{Param}
use Rattle.sq_arrays.specs.Arrays.{wanted}
use Rattle.sq_arrays.specs.Targets.{HasRoom}
use Rattle.sq_ast.specs.Modes.{is_read}
use Rattle.sq_spec.specs.Works.{param_shapes}
use Rattle.sq_flat.specs.Held.{zero_bytes}
use Rattle.sq_driver.specs.Entry.{params_of, wants_of}
use Rattle.sq_driver.specs.Picking.{picked, ReadsData}
use Rattle.sq_driver.proofs.Entries.{entry_long}
use Rattle.sq_driver.proofs.Datas.{has_room, reads_given}
use Rattle.sq_driver.proofs.phases.entry.read_given.Goals as goal

pub wants_in-requires : goal.wants_in-requires
wants_in-requires g c = entry_long c.args.resolved.now.mapping.now.sizes
    (params_of c.args.resolved.now.typed.now c.args.resolved.now.mapping.now) c.entry_dims.result.now
    c.entry_dims.ensures.fit ∙ ap (λ (l : List Param). length l) (sym c.entry_params-params.ensures)

pub give_data-requires : goal.give_data-requires
give_data-requires g c =
    subst (λ (ps : List Param). HasRoom (map wanted c.as_slice.result.now) (picked ps c.in-Ok-new.arrays.bytes))
    (sym c.entry_params-params.ensures)
    (has_room c.args.resolved.now (record { extents = c.entry_dims.result.now; are = c.entry_dims.ensures.fit })
    (map wanted c.as_slice.result.now) c.in-Ok-new.arrays.bytes
    (ap (map wanted) c.as_slice.ensures.value
    ∙ (c.in-Ok.ensures ∙ ap (λ (l : List Param). wants_of is_read l 0 c.entry_dims.result.now)
    c.entry_params-params.ensures))
    (c.in-Ok-new.ensures.zeros
    ∙ ap zero_bytes (c.in-Ok-new.ensures.shapes
    ∙ ap (λ (x : List (List ℕ)). param_shapes
    (params_of c.args.resolved.now.typed.now c.args.resolved.now.mapping.now) 0 x) c.entry_dims.ensures.found)))

pub returns-clause-given : goal.returns-clause-given
returns-clause-given g c =
    reads_given c.args.resolved.now (record { extents = c.entry_dims.result.now; are = c.entry_dims.ensures.fit })
    (g.F.Files.content c.args.files.now) c.args.name.now (map wanted c.as_slice.result.now)
    (ap (map wanted) c.as_slice.ensures.value
    ∙ (c.in-Ok.ensures ∙ ap (λ (l : List Param). wants_of is_read l 0 c.entry_dims.result.now)
    c.entry_params-params.ensures))
    c.in-Ok-new.arrays (c.in-Ok-new.ensures.shapes
    ∙ ap (λ (x : List (List ℕ)). param_shapes
    (params_of c.args.resolved.now.typed.now c.args.resolved.now.mapping.now) 0 x) c.entry_dims.ensures.found)
    c.in-Ok-new.ensures.zeros c.values_are_those_of_their_array.ensures c.give_data.result
    (subst (λ (ps : List Param). ReadsData ps (map wanted c.as_slice.result.now) (g.F.Files.content c.args.files.now)
    c.args.name.now c.in-Ok-new.arrays c.give_data.result) c.entry_params-params.ensures c.give_data.ensures.read)
