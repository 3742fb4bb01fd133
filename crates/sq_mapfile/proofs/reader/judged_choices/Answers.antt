use Rattle.std.proofs.Common.{rules, ◌≡◌, ◌≤◌, None, sym, subst}
use Rattle.sq_text.specs.Faults.{IsFirst}
use Rattle.sq_mapfile.specs.Choices.{BreaksChoices, most_choices}
use Rattle.sq_mapfile.proofs.Counted.{few_choices, one_counted}
use Rattle.sq_mapfile.proofs.reader.judged_choices.Goals as goal

pub made-requires-clause-some : goal.made-requires-clause-some
made-requires-clause-some c =
    let program = c.args.program.now in
    let m = c.args.written.now in
    let gone : c.in_ok-fault.field-0.fault ≡ None = search rules in
    let first = subst (λ levels. IsFirst (BreaksChoices program levels m) c.in_ok-fault.field-0.fault) c.in_ok-table.ensures.levels c.in_ok-fault.ensures.fault in
    let none = subst (IsFirst (BreaksChoices program c.args.levels.now m)) gone first in
    subst (λ n. 1 ≤ n) (sym c.in_ok-fault.ensures.count) (one_counted program c.args.levels.now m none)

pub made-requires-clause-few : goal.made-requires-clause-few
made-requires-clause-few c =
    let program = c.args.program.now in
    let m = c.args.written.now in
    let gone : c.in_ok-fault.field-0.fault ≡ None = search rules in
    let first = subst (λ levels. IsFirst (BreaksChoices program levels m) c.in_ok-fault.field-0.fault) c.in_ok-table.ensures.levels c.in_ok-fault.ensures.fault in
    let none = subst (IsFirst (BreaksChoices program c.args.levels.now m)) gone first in
    subst (λ n. n ≤ most_choices) (sym c.in_ok-fault.ensures.count) (few_choices program c.args.levels.now m none)

pub returns-clause-answers : goal.returns-clause-answers
returns-clause-answers c =
    let program = c.args.program.now in
    let m = c.args.written.now in
    let gone : c.in_ok-fault.field-0.fault ≡ None = search rules in
    let first = subst (λ levels. IsFirst (BreaksChoices program levels m) c.in_ok-fault.field-0.fault) c.in_ok-table.ensures.levels c.in_ok-fault.ensures.fault in
    subst (IsFirst (BreaksChoices program c.args.levels.now m)) gone first
