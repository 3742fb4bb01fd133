use Rattle.std.proofs.Common.{sym, subst}
use Rattle.sq_ir.specs.DraftLeaves.{leaves_of}
use Rattle.sq_plan_check.specs.Entered.{AreOfPlan}
use Rattle.sq_clashes.specs.EventFlaws.{IsFirstEventFlaw}
use Rattle.sq_clashes.proofs.Inside.{compared}
use Rattle.sq_clashes.proofs.Finding.{first_below, first_flaw}
use Rattle.sq_clashes.specs.Reached.{MayBeCompared, IsFirstOf}
use Rattle.sq_clashes.proofs.clashes.first_event_flaw.Goals as goal

pub first_pair-requires : goal.first_pair-requires
first_pair-requires c =
    let plan = c.args.plan.now in
    let of = subst (AreOfPlan plan) c.in-Some.is c.in_ok-entries.ensures in
    subst MayBeCompared (sym c.as_slice.ensures) (compared (leaves_of plan.draft) plan c.requires c.in-Some.entries of)

pub flaw_of-requires : goal.flaw_of-requires
flaw_of-requires c =
    let plan = c.args.plan.now in
    let of = subst (AreOfPlan plan) c.in-Some.is c.in_ok-entries.ensures in
    first_below plan c.in-Some.entries c.in_ok-pair.pair (compared (leaves_of plan.draft) plan c.requires c.in-Some.entries of) (subst (λ es. IsFirstOf plan es c.in_ok-pair.pair) c.as_slice.ensures c.in_ok-pair.ensures)

pub returns : goal.returns
returns c =
    let plan = c.args.plan.now in
    let of = subst (AreOfPlan plan) c.in-Some.is c.in_ok-entries.ensures in
    subst (IsFirstEventFlaw (leaves_of plan.draft) plan) (sym c.flaw_of.ensures) (first_flaw plan c.in-Some.entries c.in_ok-pair.pair of (subst (λ es. IsFirstOf plan es c.in_ok-pair.pair) c.as_slice.ensures c.in_ok-pair.ensures))
