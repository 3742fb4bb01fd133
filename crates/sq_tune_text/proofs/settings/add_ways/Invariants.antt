use Rattle.std.proofs.Common.{◌≡◌, ℕ, List, ◌++◌, drop}
use Rattle.sq_report.specs.Adding.{Adds}
use Rattle.sq_tune_text.specs.Walk.{ways_text}
use Rattle.sq_tune_text.proofs.settings.add_ways.Given as goal

abbrev pub invariant-loop-ways : goal.invariant-loop-ways
invariant-loop-ways g l = (done : List ℕ)
    × Adds (g.S.Sink.written l.initial.sink) (g.S.Sink.written l.sink) (g.S.Sink.faults l.initial.sink) (g.S.Sink.faults l.sink) l.initial.line l.line done
    × (done ++ ways_text l.instance l.left (drop l.ways-index l.list) ≡ ways_text l.instance l.fn.digits l.list)
