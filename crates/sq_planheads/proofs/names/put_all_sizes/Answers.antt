use Rattle.std.proofs.Common.{ap, ◌∙◌, arith}
use Rattle.std.specs.List.{flat_map}
use Rattle.sq_planheads.specs.Leaves.{with_names}
use Rattle.sq_planfile.specs.Written.{sizes_in}
use Rattle.sq_planheads.proofs.NameTables.{names_next}
use Rattle.sq_planheads.proofs.names.put_all_sizes.Goals as goal

pub loop-param-preserved : goal.loop-param-preserved
loop-param-preserved c =
    names_next (λ p. flat_map sizes_in p.extents) c.args.table.now c.loop-param.table c.put_sizes.new.table c.args.params.now c.loop-param.param-index c.param-item.result (omega arith) c.param-item.is (c.in_ok-put_sizes.ensures ∙ ap (λ es. with_names c.loop-param.table (flat_map sizes_in es)) c.as_slice.ensures) c.loop-param.invariant
