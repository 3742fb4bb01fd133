use Rattle.std.proofs.Common.{◌≡◌, drop}
use Rattle.sq_planevents.specs.Views.{are_views}
use Rattle.sq_planevents.proofs.lines.Lines.are_views.Given as goal

abbrev pub invariant-loop-view : goal.invariant-loop-view
invariant-loop-view l = are_views l.self.text.now l.at.nodes l.at.scopes (drop l.view-index l.views) ≡ are_views l.self.text.now l.at.nodes l.at.scopes l.views
