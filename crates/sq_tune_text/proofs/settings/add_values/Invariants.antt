use Rattle.std.proofs.Common.{take}
use Rattle.std.specs.List.{flat_map}
use Rattle.sq_report.specs.Adding.{Adds}
use Rattle.sq_tune_text.specs.Text.{next_value}
use Rattle.sq_tune_text.proofs.settings.add_values.Given as goal

abbrev pub invariant-loop-value : goal.invariant-loop-value
invariant-loop-value g l = Adds (g.S.Sink.written l.initial.sink) (g.S.Sink.written l.sink)
    (g.S.Sink.faults l.initial.sink) (g.S.Sink.faults l.sink) l.initial.line l.line
    (flat_map next_value (take l.value-index l.values))
