use Rattle.sq_text.specs.declared.code.Phase.TheVariants.{Mapping}
use Rattle.sq_driver.specs.Sources.{IsMappingText, IsFirstMappingFault}
use Rattle.sq_driver.proofs.WholeFiles.{first_of_long, fitting_stops, right_held, right_refused}
use Rattle.sq_driver.proofs.phases.sources.read_mapped.Goals as goal

pub returns-in-Err-clause-told : goal.returns-in-Err-clause-told
returns-in-Err-clause-told g c =
    fitting_stops (IsMappingText c.args.typed.now c.args.machine.now.levels)
    (IsFirstMappingFault c.args.typed.now c.args.machine.now.levels) Mapping _ c.args.name.now
    (λ text long. first_of_long Mapping text _ long) c.in-Err.end c.in-Err.ensures.told

pub returns-in-Ok-read_mapping-clause-told : goal.returns-in-Ok-read_mapping-clause-told
returns-in-Ok-read_mapping-clause-told g c =
    right_held (IsMappingText c.args.typed.now c.args.machine.now.levels)
    (IsFirstMappingFault c.args.typed.now c.args.machine.now.levels) Mapping _ c.args.name.now c.in-Ok.text
    c.in-Ok.ensures.told _ c.as_slice.ensures c.in-Ok-read_mapping.mapping
    (record { stands = c.in-Ok-read_mapping.ensures.found; faultless = c.in-Ok-read_mapping.ensures.answers })
    (λ that is. c.in-Ok-read_mapping.ensures.only that is.stands is.faultless)
    (λ f first. c.in-Ok-read_mapping.ensures.answers f first.0)

pub returns-in-Err-Refused-clause-told : goal.returns-in-Err-Refused-clause-told
returns-in-Err-Refused-clause-told g c =
    let answers = rw c.in-Err-Refused.field-0-is at c.in-Err-Refused.ensures.answers in
    right_refused (IsMappingText c.args.typed.now c.args.machine.now.levels)
    (IsFirstMappingFault c.args.typed.now c.args.machine.now.levels) Mapping _ c.args.name.now c.in-Ok.text
    c.in-Ok.ensures.told _ c.as_slice.ensures c.in-Err-Refused.fault answers
