use Rattle.std.proofs.Common.{sym, ◌∙◌, subst, arith}
use Rattle.sq_ir.specs.Plans.{IsWellFormed}
use Rattle.fixture_plans.proofs.MixedTerms.{idle, mixed-formed}
use Rattle.fixture_plans.proofs.mixed.mixed.Goals as goal

pub new-requires : goal.new-requires
new-requires c =
    (idle _, subst (IsWellFormed (idle _)) (sym (c.in_ok-plan.ensures ∙ c.in_ok-made.ensures)) (mixed-formed _ c.args.rule c.args.pick c.args.count c.args.times c.args.first c.args.second (omega arith) c.requires.0 c.requires.1 (omega arith) (omega arith)))
