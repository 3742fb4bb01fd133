use Rattle.std.proofs.Common.{sym}
use Rattle.sq_driver.proofs.Evaluations.{program_held}
use Rattle.sq_driver.proofs.Finals.{machine_held}
use Rattle.sq_driver.proofs.SourcePhases.{stops_at_program, stops_at_types, stops_at_machine, front_same}
use Rattle.sq_driver.proofs.phases.sources.read_front.Goals as goal

pub returns-in-Err-clause-stopped : goal.returns-in-Err-clause-stopped
returns-in-Err-clause-stopped g c =
    stops_at_program c.args.program.now c.args.machine.now _ c.in-Err.end c.in-Err.ensures.told

pub returns-in-Err-checked-clause-stopped : goal.returns-in-Err-checked-clause-stopped
returns-in-Err-checked-clause-stopped g c =
    stops_at_types c.args.program.now c.args.machine.now _ c.in-Ok.tree c.in-Ok.ensures.told
    c.in-Err-checked.end c.in-Err-checked.ensures.refused

pub returns-in-Err-read_hierarchy-clause-stopped : goal.returns-in-Err-read_hierarchy-clause-stopped
returns-in-Err-read_hierarchy-clause-stopped g c =
    let program = program_held c.args.program.now _ _ c.in-Ok.tree c.in-Ok-checked.typed c.in-Ok.ensures.content
    c.in-Ok-checked.ensures.same c.in-Ok.ensures.told c.in-Ok-checked.ensures.faultless in
    front_same c.args.program.now c.args.machine.now _ _ c.in-Err-read_hierarchy.end
    c.in-Ok.ensures.content
    (stops_at_machine c.args.program.now c.args.machine.now _ c.in-Ok-checked.typed program
    c.in-Err-read_hierarchy.end c.in-Err-read_hierarchy.ensures.told)

pub returns-clause-held : goal.returns-clause-held
returns-clause-held g c =
    let program = program_held c.args.program.now _ _ c.in-Ok.tree c.in-Ok-checked.typed c.in-Ok.ensures.content
    c.in-Ok-checked.ensures.same c.in-Ok.ensures.told c.in-Ok-checked.ensures.faultless in
    machine_held c.args.program.now c.args.machine.now _ _ c.in-Ok-checked.typed
    c.in-Ok-read_hierarchy.hierarchy
    (sym c.in-Ok.ensures.content) program c.in-Ok-read_hierarchy.ensures.told
