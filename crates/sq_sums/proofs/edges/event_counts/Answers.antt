use Rattle.sq_sums.specs.declared.toll.Kind.TheVariants.{Copies, Fills, Accumulations, Leaves}
use Rattle.sq_sums.proofs.Carrying.{kind_sum}
use Rattle.sq_sums.proofs.edges.event_counts.Goals as goal

pub returns : goal.returns
returns c = λ h.
    let p = c.args.plan.now in
    let a = kind_sum p Copies c.in_ok-copies.copies c.in_ok-copies.ensures h in
    let b = kind_sum p Fills c.in_ok-fills.fills c.in_ok-fills.ensures h in
    let d = kind_sum p Accumulations c.in_ok-accumulations.accumulations c.in_ok-accumulations.ensures h in
    let e = kind_sum p Leaves c.in_ok-leaves.leaves c.in_ok-leaves.ensures h in
    λ i. record { copies = a i; fills = b i; accumulations = d i; leaves = e i }
