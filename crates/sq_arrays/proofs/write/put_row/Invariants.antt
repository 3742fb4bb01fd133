use Rattle.std.proofs.Common.{◌≡◌, ◌-◌, ◌*◌, ◌≤◌, ◌++◌, eqb, ℕ, List, Option, drop}
use Rattle.sq_num.specs.Elements.{width, values_in}
use Rattle.sq_port.specs.Lines.{Gathers}
use Rattle.sq_arrays.specs.Written.{row_from, row_text}
use Rattle.sq_arrays.proofs.write.put_row.Given as goal

abbrev pub invariant-loop-i : goal.invariant-loop-i
invariant-loop-i g l = record {
  later : g.S.Sink.faults l.initial.sink ≤ g.S.Sink.faults l.sink;
  gathers : (start : Option (List ℕ)) (faults : ℕ) (text : List ℕ)
      → Gathers start (g.S.Sink.written l.initial.sink) faults (g.S.Sink.faults l.initial.sink) text l.initial.line
      → (front : List ℕ) × (front ++ row_from (eqb l.i 0) (values_in l.elem (l.last - l.i) (drop (l.i * width l.elem) l.row)) ≡ text ++ row_text (values_in l.elem l.last l.row))
      × Gathers start (g.S.Sink.written l.sink) faults (g.S.Sink.faults l.sink) front l.line;
}
