use Rattle.sq_text.specs.declared.code.Phase.TheVariants.{Mapping}
use Rattle.sq_driver.specs.Choosing.{AreChoicesText, IsFirstChoicesFault}
use Rattle.sq_driver.proofs.Tuning.{choices_held}
use Rattle.sq_driver.proofs.WholeFiles.{first_of_long, fitting_stops, right_refused}
use Rattle.sq_driver.proofs.phases.sources.read_alternatives.Goals as goal

pub returns-in-Err-clause-told : goal.returns-in-Err-clause-told
returns-in-Err-clause-told g c =
    fitting_stops (AreChoicesText c.args.typed.now c.args.machine.now.levels)
    (IsFirstChoicesFault c.args.typed.now c.args.machine.now.levels) Mapping _ c.args.name.now
    (λ text long. first_of_long Mapping text _ long) c.in-Err.end c.in-Err.ensures.told

pub returns-in-Ok-read_choices-clause-told : goal.returns-in-Ok-read_choices-clause-told
returns-in-Ok-read_choices-clause-told g c =
    choices_held c.args.typed.now c.args.machine.now _ c.args.name.now c.in-Ok.text c.in-Ok.ensures.told _
    c.as_slice.ensures c.in-Ok-read_choices.choices
    (record {
      stand = c.in-Ok-read_choices.ensures.found;
      alone = c.in-Ok-read_choices.ensures.alone;
      faultless = c.in-Ok-read_choices.ensures.answers;
    })
    (λ f first. c.in-Ok-read_choices.ensures.answers f first.0)

pub returns-in-Err-Refused-clause-told : goal.returns-in-Err-Refused-clause-told
returns-in-Err-Refused-clause-told g c =
    let answers = rw c.in-Err-Refused.field-0-is at c.in-Err-Refused.ensures.answers in
    right_refused (AreChoicesText c.args.typed.now c.args.machine.now.levels)
    (IsFirstChoicesFault c.args.typed.now c.args.machine.now.levels) Mapping _ c.args.name.now c.in-Ok.text
    c.in-Ok.ensures.told _ c.as_slice.ensures c.in-Err-Refused.fault answers
