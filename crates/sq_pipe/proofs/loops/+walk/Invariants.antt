use Rattle.std.proofs.Common.{◌≡◌, ◌+◌, ◌*◌, ◌++◌, drop, map}
use denote.Param.Weighed.{most}
use Rattle.sq_spec.proofs.statement.Statement.TheLaws.{the_size}
use Rattle.sq_hoist.specs.Chosen.Forms.{choice_in}
use Rattle.sq_pipe.specs.Candidates as spec
use Rattle.sq_pipe.proofs.loops.+walk.Given as goal

abbrev pub invariant-push_all-loop-x : goal.invariant-push_all-loop-x
invariant-push_all-loop-x l =
    l.out ++ spec.all_loops (map (spec.seen (λ f. (choice_in l.caller.choices.now f).leaves) l.caller.children
    l.caller.form) (drop l.x-index l.list)) l.inside
    ≡ l.fn.out ++ spec.all_loops (map (spec.seen (λ f. (choice_in l.caller.choices.now f).leaves) l.caller.children
    l.caller.form) l.list) l.inside

abbrev pub decreases-push_loops : goal.decreases-push_loops
decreases-push_loops l = 3 * the_size l.x.now

abbrev pub decreases-push_all : goal.decreases-push_all
decreases-push_all l = 3 * most the_size l.list.now + 1

abbrev pub decreases-push_map : goal.decreases-push_map
decreases-push_map l = 3 * most the_size l.body.now + 2
