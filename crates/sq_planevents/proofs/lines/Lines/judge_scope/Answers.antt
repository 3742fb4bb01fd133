use Rattle.std.proofs.Common.{rules, ◌≡◌, ◌∙◌, true, false, sym, arith}
use Rattle.std.proofs.lemmas.Grind.{common_steps}
use Rattle.sq_planevents.proofs.Judging.{found_good, found_bad}
use Rattle.sq_planevents.proofs.Standings.{scope_decides}
use Rattle.sq_planevents.proofs.lines.Lines.judge_scope.Goals as goal

pub returns-then-not-is_scope : goal.returns-then-not-is_scope
returns-then-not-is_scope c =
    let first : c.comes_first.result ≡ true = first_of (search rules, grind (arith, common_steps)) in
    let bad : c.is_scope.result ≡ false = first_of (search rules, grind (arith, common_steps)) in
    let d = scope_decides c.args.self.now.text.now c.args.at.now.nodes c.args.node c.args.buffers.now c.is_scope.result c.is_scope.ensures in
    found_bad _ c.args.place c.args.found.now (sym c.comes_first.ensures ∙ first) (d.none bad)

pub returns-else-not-is_scope : goal.returns-else-not-is_scope
returns-else-not-is_scope c =
    let good : c.is_scope.result ≡ true = first_of (search rules, grind (arith, common_steps)) in
    let d = scope_decides c.args.self.now.text.now c.args.at.now.nodes c.args.node c.args.buffers.now c.is_scope.result c.is_scope.ensures in
    found_good _ c.args.place c.args.found.now (d.yes good)
