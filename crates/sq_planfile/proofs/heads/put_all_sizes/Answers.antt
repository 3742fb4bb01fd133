use Rattle.std.proofs.Common.{ap, ◌∙◌, arith}
use Rattle.std.specs.List.{flat_map}
use Rattle.sq_planfile.specs.Written.{sizes_in, firsts}
use Rattle.sq_planfile.proofs.Firsts.{firsts_next}
use Rattle.sq_planfile.proofs.heads.put_all_sizes.Goals as goal

pub loop-param-preserved : goal.loop-param-preserved
loop-param-preserved c =
    firsts_next (λ p. flat_map sizes_in p.extents) c.args.names.now c.loop-param.names c.put_sizes.new.names c.args.params.now c.loop-param.param-index c.param-item.result (omega arith) c.param-item.is (c.in_ok-put_sizes.ensures ∙ ap (λ es. firsts c.loop-param.names (flat_map sizes_in es)) c.as_slice.ensures) c.loop-param.invariant
