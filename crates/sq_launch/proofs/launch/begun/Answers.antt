use Rattle.std.proofs.Common.{rules, ◌≡◌}
use Rattle.sq_launch.proofs.Placing.{control_of}
use Rattle.sq_launch.proofs.launch.begun.Goals as goal

pub returns-clause-control : goal.returns-clause-control
returns-clause-control c =
    let same : c.in_ok-clone.field-0.value ≡ c.args.plan.value = search rules in
    control_of c.in_ok-control.control c.in_ok-clone.field-0.value c.args.plan.value c.in_ok-control.ensures same
