use Rattle.std.proofs.Common.{rules, ◌≡◌, true, false, arith}
use Rattle.std.proofs.lemmas.Grind.{common_steps}
use Rattle.sq_planevents.proofs.Calls.{small_all, unfit_apart, fit_ends}
use Rattle.sq_planevents.proofs.lines.Lines.stand_apart.Goals as goal

pub are_fit-requires : goal.are_fit-requires
are_fit-requires c = small_all c.args.self.now.text.now c.args.views.now c.requires.close

pub returns-then-not-branch : goal.returns-then-not-branch
returns-then-not-branch c =
    let bad : c.in_ok-are_fit.field-0 ≡ false = first_of (search rules, grind (arith, common_steps)) in
    unfit_apart c.args.self.now.text.now c.args.flags.now c.args.views.now c.in_ok-are_fit.field-0 c.requires.close bad c.in_ok-are_fit.ensures

pub returns : goal.returns
returns c =
    let good : c.in_ok-are_fit.field-0 ≡ true = first_of (search rules, grind (arith, common_steps)) in
    fit_ends c.args.self.now.text.now c.args.flags.now c.args.views.now c.in_ok-are_fit.field-0 c.none_clash.result c.requires.close good c.in_ok-are_fit.ensures c.none_clash.ensures
