use Rattle.sq_turns.proofs.Loading.{loaded_gives}
use Rattle.sq_turns.proofs.lines.loaded.Goals as goal

pub returns-then-is_clear : goal.returns-then-is_clear
returns-then-is_clear c = λ f places.
    loaded_gives c.args.setting.now f c.args.view.now.elem c.args.spots c.args.columns.now c.load_line.result c.load_line.new.column _ _ places (c.is_clear.ensures c.if-is_clear.true) c.requires.lies
    c.requires.one.ends c.load_line.ensures.each
