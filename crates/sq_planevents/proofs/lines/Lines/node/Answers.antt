use Rattle.std.proofs.Common.{rules, ◌≡◌, slice_get, None}
use Rattle.sq_planevents.proofs.Standings.{no_node}
use Rattle.sq_planevents.proofs.lines.Lines.node.Goals as goal

pub returns-in-None : goal.returns-in-None
returns-in-None c =
    let none : slice_get c.args.self.now.text.now.nodes c.args.node ≡ None = search rules in
    no_node c.args.self.now.text.now.nodes c.args.node none
