use Rattle.std.proofs.Common.{◌≡◌, ℕ, List, ◌++◌, drop}
use Rattle.sq_report.specs.Adding.{Adds}
use Rattle.sq_tune_text.specs.Walk.{walk_text}
use Rattle.sq_tune_text.proofs.settings.add_walk.Given as goal

abbrev pub invariant-loop-i : goal.invariant-loop-i
invariant-loop-i g l = (done : List ℕ)
    × Adds (g.S.Sink.written l.initial.sink) (g.S.Sink.written l.sink) (g.S.Sink.faults l.initial.sink) (g.S.Sink.faults l.sink) l.initial.line l.line done
    × (done ++ walk_text l.choices.tunables l.left l.i (drop l.i l.list) ≡ walk_text l.choices.tunables l.fn.digits 0 l.list)
