use Rattle.sq_turns.proofs.Paths.{start_is}
use Rattle.sq_turns.proofs.values.is_element.Goals as goal

pub returns-in-Some-clause-is : goal.returns-in-Some-clause-is
returns-in-Some-clause-is c = λ same.
    start_is c.args.setting.now _ c.element.new.columns c.args.hole c.in-Some.other c.element.new.links.items
    c.in-Some.ensures.gives c.in-Some.ensures.none (c.is_same.ensures.elem same) (c.is_same.ensures.at same) (c.is_same.ensures.step same)
