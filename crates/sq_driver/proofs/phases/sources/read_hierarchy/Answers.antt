use Rattle.sq_text.specs.declared.code.Phase.TheVariants.{Machine}
use Rattle.sq_driver.specs.Sources.{IsMachineText, IsFirstMachineFault}
use Rattle.sq_driver.proofs.WholeFiles.{first_of_long, fitting_stops, right_held}
use Rattle.sq_driver.proofs.phases.sources.read_hierarchy.Goals as goal

pub returns-in-Err-clause-told : goal.returns-in-Err-clause-told
returns-in-Err-clause-told g c = fitting_stops IsMachineText IsFirstMachineFault Machine _ c.args.name.now
    (λ text long. first_of_long Machine text _ long) c.in-Err.end c.in-Err.ensures.told

pub returns-in-Ok-read_machine-clause-told : goal.returns-in-Ok-read_machine-clause-told
returns-in-Ok-read_machine-clause-told g c =
    right_held IsMachineText IsFirstMachineFault Machine _ c.args.name.now c.in-Ok.text c.in-Ok.ensures.told
    _ c.as_slice.ensures c.in-Ok-read_machine.machine
    (record { stands = c.in-Ok-read_machine.ensures.found; within = c.within_limits.ensures })
    (λ that is. c.in-Ok-read_machine.ensures.only that is.stands is.within)
    (λ f first. c.in-Ok-read_machine.ensures.answers f first.0)
