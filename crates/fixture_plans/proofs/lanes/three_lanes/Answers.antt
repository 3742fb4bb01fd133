use Rattle.std.proofs.Common.{Some, sym, ap, ◌∙◌, subst}
use Rattle.sq_ir.specs.DraftLeaves.{leaves_of}
use Rattle.sq_ir.specs.Plans.{IsGood}
use Rattle.fixture_plans.specs.Lanes.{lanes}
use Rattle.fixture_plans.proofs.LaneGoods.{lanes-good}
use Rattle.fixture_plans.proofs.lanes.three_lanes.Goals as goal

pub returns : goal.returns
returns c =
    subst (λ p. IsGood (leaves_of p.draft) p) (sym (c.in_ok-plan.ensures ∙ c.in_ok-lanes.ensures))
    (lanes-good (leaves_of (lanes c.args.rule c.args.leaf).draft) c.args.leaf (ap Some c.requires) c.args.rule)
