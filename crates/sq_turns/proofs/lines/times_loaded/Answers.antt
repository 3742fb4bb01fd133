use Rattle.sq_turns.proofs.Loading.{loaded_gives, times_known, times_follow}
use Rattle.sq_turns.proofs.lines.times_loaded.Goals as goal

pub returns-in-Same : goal.returns-in-Same
returns-in-Same c = λ f places.
    times_known c.args.setting.now f c.args.x c.load_line-y.result c.binary_line.result c.args.front.now c.load_line-y.new.column c.binary_line.new.xs
    (loaded_gives c.args.setting.now f c.args.view.now.elem c.args.spots c.args.rest.now c.load_line-y.result c.load_line-y.new.column _ _ places (c.is_clear.ensures c.if-is_clear.true) c.requires.lies
    c.requires.one.ends c.load_line-y.ensures.each)
    c.binary_line.ensures.each

pub returns-in_default : goal.returns-in_default
returns-in_default c = λ f places.
    times_follow c.args.setting.now f c.args.view.now.elem c.args.spots c.args.rest.now c.args.x _ c.args.front.now c.times_elements.new.xs _ _ places (c.is_clear.ensures c.if-is_clear.true) c.requires.lies
    c.requires.one.ends c.times_elements.ensures.each
