use Rattle.std.proofs.Common.{◌≡◌, ◌++◌, map, drop}
use Rattle.sq_sched.specs.Words.{env_of, count}
use Rattle.sq_planfile.proofs.event.path_text.Given as goal

abbrev pub invariant-loop-number : goal.invariant-loop-number
invariant-loop-number l =
    l.numbers ++ map (λ n. count l.env.plan.now n (env_of l.env)) (drop l.number-index l.path) ≡ map (λ n. count l.env.plan.now n (env_of l.env)) l.path
