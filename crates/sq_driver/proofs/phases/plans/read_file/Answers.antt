use Rattle.sq_text.specs.declared.code.Phase.TheVariants.{Plan}
use Rattle.sq_planfile.specs.Faults.{Means}
use Rattle.sq_driver.specs.Executing.{IsFirstFileFault}
use Rattle.sq_driver.proofs.ExecWork.{checked_may, long_file}
use Rattle.sq_driver.proofs.WholeFiles.{fitting_stops, right_held, right_refused}
use Rattle.sq_driver.proofs.phases.plans.read_file.Goals as goal

pub returns-in-Err-clause-told : goal.returns-in-Err-clause-told
returns-in-Err-clause-told g c = fitting_stops Means IsFirstFileFault Plan _ c.args.name.now long_file c.in-Err.end
    c.in-Err.ensures.told

pub returns-in-Ok-read_checked-clause-told : goal.returns-in-Ok-read_checked-clause-told
returns-in-Ok-read_checked-clause-told g c =
    right_held Means IsFirstFileFault Plan _ c.args.name.now c.in-Ok.text c.in-Ok.ensures.told _ c.as_slice.ensures
    c.in-Ok-read_checked.file c.in-Ok-read_checked.ensures.found.means
    (λ that is. c.in-Ok-read_checked.ensures.only that is)
    (λ f first. c.in-Ok-read_checked.ensures.answers f first.0)

pub returns-in-Ok-read_checked-clause-may : goal.returns-in-Ok-read_checked-clause-may
returns-in-Ok-read_checked-clause-may g c = checked_may c.sound_files_have_room.ensures _ c.in-Ok-read_checked.file
    c.in-Ok-read_checked.ensures.found

pub returns-in-Err-Refused-clause-told : goal.returns-in-Err-Refused-clause-told
returns-in-Err-Refused-clause-told g c =
    let answers = rw c.in-Err-Refused.field-0-is at c.in-Err-Refused.ensures.answers in
    right_refused Means IsFirstFileFault Plan _ c.args.name.now c.in-Ok.text c.in-Ok.ensures.told _ c.as_slice.ensures
    c.in-Err-Refused.fault answers
