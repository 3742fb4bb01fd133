use Rattle.std.proofs.Common.{Some, sym, subst}
use Rattle.sq_text.specs.Faults.{IsFirst}
use Rattle.sq_planfile.specs.Faults.{LineFault}
use Rattle.sq_planevents.specs.First.{IsFirstBad}
use Rattle.sq_planload.proofs.Lines.{first_bad}
use Rattle.sq_planload.proofs.file.file_by.Goals as goal

pub returns-in-Some : goal.returns-in-Some
returns-in-Some c =
    subst (λ f. IsFirst (LineFault c.args.text.now) (Some f)) (sym c.bad_event.ensures)
    (first_bad c.args.text.now c.in-Some.place c.requires.heads.0 (subst (IsFirstBad c.args.text.now) c.in-Some.is c.in_ok-place.ensures))
