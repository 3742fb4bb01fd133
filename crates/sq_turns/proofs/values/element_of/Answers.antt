use Rattle.std.proofs.Common.{rules}
use Rattle.sq_turns.proofs.Paths.{element_path}
use Rattle.sq_turns.proofs.values.element_of.Goals as goal

pub returns-in-Some-clause-path : goal.returns-in-Some-clause-path
returns-in-Some-clause-path c =
    element_path c.args.setting.now c.args.next _ c.hole_of.result c.args.view.now.elem c.in-Some.spots c.spots.new.columns _ _ _
    c.hole_of.ensures.elem c.hole_of.ensures.read c.hole_of.ensures.free c.in-Some.ensures.lies c.requires.one.ends c.clear.ensures (search rules)
