use Rattle.std.proofs.Common.{arith, ◌∙◌}
use Rattle.std.specs.Option.{option_copied}
use Rattle.sq_forms.specs.Steps as steps
use Rattle.sq_forms.specs.Args as spec
use Rattle.sq_forms.proofs.Argued.{next_at, steps_more, list_more}
use Rattle.sq_forms.proofs.args.args.Goals as goal

pub loop-i-preserved : goal.loop-i-preserved
loop-i-preserved c =
    let names = spec.names_of c.args.known.now in
    let numbers = c.args.numbers.now in
    let reduced = option_copied c.args.reduced in
    let d = next_at c.loop-i.i c.args.list.now c.index-list-i.result c.loop-i-test.true c.index-list-i.is in
    record {
      steps = λ later. c.loop-i.invariant.steps later ∙ steps_more c.args.outer names numbers reduced c.args.params.now c.loop-i.i c.args.list.now c.index-list-i.result (option_copied c.at.result) c.in_ok-examine.field-0
          (steps.state_of c.loop-i.walk) (steps.state_of c.count_use.new.walk) later d c.at.ensures c.in_ok-examine.ensures c.in_ok-count_use.ensures.steps;
      list = list_more c.args.outer names numbers reduced c.args.params.now c.loop-i.i c.args.list.now c.index-list-i.result (option_copied c.at.result) c.in_ok-examine.field-0
          c.loop-i.out c.push.new.self _ d c.at.ensures c.in_ok-examine.ensures c.in_ok-push.ensures.ok c.loop-i.invariant.list;
      left = omega (arith, c.in_ok-count_use.ensures.left);
    }
