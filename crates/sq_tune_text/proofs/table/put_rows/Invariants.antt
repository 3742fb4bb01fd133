use Rattle.std.proofs.Common.{◌≡◌, ◌++◌, ℕ, List, drop, Ok}
use Rattle.sq_port.specs.Ports.{Wrote}
use Rattle.sq_report.specs.Reports.{numbered}
use Rattle.sq_tune_text.specs.Text.{choice_line}
use Rattle.sq_tune_text.proofs.table.put_rows.Given as goal

abbrev pub invariant-loop-n : goal.invariant-loop-n
invariant-loop-n g l =
    (done : List ℕ) × (done ++ numbered (choice_line l.choices) l.n (drop l.n l.rows) ≡ numbered (choice_line l.choices) 0 l.rows)
    × Wrote (g.S.Sink.written l.initial.sink) (g.S.Sink.written l.sink) (g.S.Sink.faults l.initial.sink) (g.S.Sink.faults l.sink) done (Ok tt)
