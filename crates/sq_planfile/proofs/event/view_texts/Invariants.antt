use Rattle.std.proofs.Common.{◌≡◌, ◌++◌, map, drop}
use Rattle.sq_sched.specs.Words.{env_of, count}
use Rattle.sq_planfile.specs.Written as written
use Rattle.sq_planfile.proofs.event.view_texts.Given as goal

abbrev pub invariant-loop-view : goal.invariant-loop-view
invariant-loop-view l =
    l.texts ++ map (written.view_text (λ n. count l.env.plan.now n (env_of l.env))) (drop l.view-index l.views)
    ≡ map (written.view_text (λ n. count l.env.plan.now n (env_of l.env))) l.views
