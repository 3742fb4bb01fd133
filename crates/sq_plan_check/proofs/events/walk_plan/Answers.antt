use Rattle.std.proofs.Common.{◌++◌, [], ◌∷◌, sym, ap, ◌∙◌}
use Rattle.sq_sched.specs.Shapes.{written}
use Rattle.sq_sched.specs.Words.{root}
use Rattle.sq_sched.specs.Forms.{made}
use Rattle.sq_walks.proofs.Trees.{scope-tree}
use Rattle.sq_plan_check.specs.Walked.{numbered, seen_entries}
use Rattle.sq_plan_check.proofs.Walking.{numbered-scope}
use Rattle.sq_plan_check.proofs.events.walk_plan.Goals as goal

pub returns : goal.returns
returns c =
    let p = c.args.plan.now in
    let m = made p p.draft.term in
    c.in_ok-walk.ensures
    ∙ ap (λ l. seen_entries l ++ numbered 0 (written (m.form (record { turns = []; nodes = 0 ∷ []; fans = c.args.fans.now })))) c.new-entries.ensures
    ∙ ap (λ fs. numbered 0 (written (m.form (record { turns = []; nodes = 0 ∷ []; fans = fs })))) c.requires
    ∙ sym (ap (numbered 0) (scope-tree 0 p.draft.entry (m.form (root p))) ∙ numbered-scope 0 0 p.draft.entry (written (m.form (root p))))
