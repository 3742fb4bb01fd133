use Rattle.sq_sums.specs.declared.toll.Kind.TheVariants.{Down, Up}
use Rattle.sq_sums.proofs.Carrying.{kind_sum}
use Rattle.sq_sums.proofs.edges.traffic.Goals as goal

pub returns : goal.returns
returns c = λ h.
    let d = kind_sum c.args.plan.now (Down c.args.edge) c.in_ok-down.down c.in_ok-down.ensures h in
    let u = kind_sum c.args.plan.now (Up c.args.edge) c.in_ok-up.up c.in_ok-up.ensures h in
    λ i. record { down = d i; up = u i }
