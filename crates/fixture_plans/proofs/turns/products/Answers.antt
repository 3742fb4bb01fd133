use Rattle.std.proofs.Common.{[], ◌∷◌, Some, sym, ap, ap₂, ◌∙◌, subst, arith}
use Rattle.sq_ir.specs.DraftLeaves.{leaves_of}
use Rattle.sq_ir.specs.Plans.{IsGood}
use Rattle.fixture_plans.specs.Turns.{turns, product}
use Rattle.fixture_plans.proofs.TurnActions.{product-good}
use Rattle.fixture_plans.proofs.turns.products.Goals as goal

pub returns : goal.returns
returns c =
    let more = c.requires.1 in
    subst (λ p. IsGood (leaves_of p.draft) p)
    (sym (c.in_ok-plan.ensures ∙ c.in_ok-turns.ensures
    ∙ ap₂ (λ ls a. turns 192 ls c.args.outer c.args.inner a) c.in_ok-leaves.ensures c.in_ok-action.ensures))
    (product-good (leaves_of (turns 192 (c.args.leaf ∷ []) c.args.outer c.args.inner product).draft) (c.args.leaf ∷ [])
    c.args.outer c.args.inner (omega arith) (omega (arith, more)) (ap Some c.requires.0))
