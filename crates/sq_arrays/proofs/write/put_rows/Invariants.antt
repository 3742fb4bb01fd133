use Rattle.std.proofs.Common.{◌≡◌, ◌-◌, ◌*◌, ◌≤◌, ◌++◌, ℕ, List, Option, length}
use Rattle.sq_num.specs.Elements.{width, values_in}
use Rattle.sq_port.specs.Lines.{Gathers}
use Rattle.sq_arrays.specs.Written.{rows_text}
use Rattle.sq_arrays.proofs.write.put_rows.Given as goal

abbrev pub invariant-loop : goal.invariant-loop
invariant-loop g l = record {
  later : g.S.Sink.faults l.initial.sink ≤ g.S.Sink.faults l.sink;
  rest : length l.rest ≡ (l.rows - l.counter) * (l.last * width l.elem);
  gathers : (start : Option (List ℕ)) (faults : ℕ) (text : List ℕ) → Gathers start (g.S.Sink.written l.initial.sink) faults (g.S.Sink.faults l.initial.sink) text l.initial.line
      → (front : List ℕ) × (front ++ rows_text (l.rows - l.counter) l.last (values_in l.elem ((l.rows - l.counter) * l.last) l.rest) ≡ text ++ rows_text l.rows l.last (values_in l.elem (l.rows * l.last) l.bytes))
      × Gathers start (g.S.Sink.written l.sink) faults (g.S.Sink.faults l.sink) front l.line;
}
