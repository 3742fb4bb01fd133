use Rattle.sq_planevents.proofs.Spans.{area_shown}
use Rattle.sq_planevents.proofs.lines.Lines.area.Goals as goal

pub returns : goal.returns
returns c =
    area_shown c.args.self.now.text.now c.args.view.now c.seen-view.result c.of_view.result c.requires.small c.requires.near c.seen-view.ensures c.of_view.ensures.same c.of_view.ensures.near
