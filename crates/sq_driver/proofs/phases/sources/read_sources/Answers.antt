use Rattle.std.proofs.Common.{sym}
use Rattle.sq_driver.proofs.Finals.{front_held, mapping_held}
use Rattle.sq_driver.proofs.SourcePhases.{stops_before, stops_at_mapping, stops_same}
use Rattle.sq_driver.proofs.phases.sources.read_sources.Goals as goal

pub returns-in-Err-clause-stopped : goal.returns-in-Err-clause-stopped
returns-in-Err-clause-stopped g c =
    stops_before c.args.program.now c.args.mapping.now c.args.machine.now _ c.in-Err.end c.in-Err.ensures.stopped

pub returns-in-Err-read_mapped-clause-stopped : goal.returns-in-Err-read_mapped-clause-stopped
returns-in-Err-read_mapped-clause-stopped g c =
    stops_same c.args.program.now c.args.mapping.now c.args.machine.now _ _ c.in-Err-read_mapped.end
    c.in-Ok.ensures.content
    (stops_at_mapping c.args.program.now c.args.mapping.now c.args.machine.now _ c.in-Ok.front.typed
    c.in-Ok.front.machine
    (front_held c.args.program.now c.args.machine.now _ _ c.in-Ok.front.typed c.in-Ok.front.machine
    c.in-Ok.ensures.content c.in-Ok.ensures.held)
    c.in-Err-read_mapped.end c.in-Err-read_mapped.ensures.told)

pub returns-clause-held : goal.returns-clause-held
returns-clause-held g c =
    mapping_held c.args.program.now c.args.mapping.now c.args.machine.now _ _ c.in-Ok.front.typed
    c.in-Ok.front.machine c.in-Ok-read_mapped.mapped (sym c.in-Ok.ensures.content)
    (front_held c.args.program.now c.args.machine.now _ _ c.in-Ok.front.typed c.in-Ok.front.machine
    c.in-Ok.ensures.content c.in-Ok.ensures.held)
    c.in-Ok-read_mapped.ensures.told
