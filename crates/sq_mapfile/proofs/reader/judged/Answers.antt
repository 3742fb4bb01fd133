use Rattle.std.proofs.Common.{subst}
use Rattle.sq_text.specs.Faults.{IsFirst}
use Rattle.sq_mapfile.specs.Mappings.{BreaksRule}
use Rattle.sq_mapfile.proofs.reader.judged.Goals as goal

pub returns-clause-answers : goal.returns-clause-answers
returns-clause-answers c =
    subst (IsFirst (BreaksRule c.args.program.now c.args.levels.now c.args.written.now)) c.in_default.is
    (subst (λ levels. IsFirst (BreaksRule c.args.program.now levels c.args.written.now) c.in_ok-fault.field-0) c.in_ok-table.ensures.levels c.in_ok-fault.ensures)
