use Rattle.std.proofs.Common.{[], sym, ap₂, ◌∙◌, subst, arith}
use Rattle.sq_ir.specs.DraftLeaves.{leaves_of}
use Rattle.sq_ir.specs.Plans.{IsGood}
use Rattle.fixture_plans.specs.Turns.{turns, copy}
use Rattle.fixture_plans.proofs.TurnActions.{copying-good}
use Rattle.fixture_plans.proofs.turns.copies.Goals as goal

pub returns : goal.returns
returns c =
    let few = c.requires.1 in
    let more = c.requires.2 in
    subst (λ p. IsGood (leaves_of p.draft) p)
    (sym (c.in_ok-plan.ensures ∙ c.in_ok-turns.ensures
    ∙ ap₂ (λ ls a. turns c.args.size ls c.args.outer c.args.inner a) c.no_leaves.ensures c.copy.ensures))
    (copying-good (leaves_of (turns c.args.size [] c.args.outer c.args.inner (copy c.args.bytes)).draft) c.args.size []
    c.args.outer c.args.inner (omega (arith, few)) (omega arith) (omega (arith, more)) c.args.bytes c.requires.0)
