use Rattle.std.proofs.Common.{[], ◌∷◌, sym, ap, ◌∙◌}
use Rattle.sq_ir.specs.Tree.{waiting}
use Rattle.sq_sched.specs.Shapes.{written}
use Rattle.sq_sched.specs.Words.{root}
use Rattle.sq_sched.specs.Forms.{made}
use Rattle.sq_walks.proofs.Trees.{scope-tree}
use Rattle.sq_plan_check.specs.Walked.{few}
use Rattle.sq_plan_check.proofs.Counting.{waiting-scope}
use Rattle.sq_plan_check.proofs.events.count_plan.Goals as goal

pub returns : goal.returns
returns c =
    let p = c.args.plan.now in
    let m = made p p.draft.term in
    c.count.ensures ∙ ap (λ fs. few (waiting (written (m.form (record { turns = []; nodes = 0 ∷ []; fans = fs }))))) c.requires
    ∙ sym (ap few (ap waiting (scope-tree 0 p.draft.entry (m.form (root p))) ∙ waiting-scope 0 p.draft.entry (written (m.form (root p)))))
