use Rattle.std.proofs.Common.{◌≡◌, ◌++◌, ◌≤◌, ℕ, List, drop}
use Rattle.sq_port.specs.Ports.{Wrote}
use Rattle.sq_tree.specs.Bank.{bytes_at}
use Rattle.sq_launch.specs.Arrays.{root_text}
use Rattle.sq_launch.proofs.texts.write_arrays.Given as goal

abbrev pub invariant-loop-array : goal.invariant-loop-array
invariant-loop-array g l = record {
  later : g.S.Sink.faults l.initial.out ≤ g.S.Sink.faults l.out;
  put : (text : List ℕ)
      × Wrote (g.S.Sink.written l.initial.out) (g.S.Sink.written l.out) (g.S.Sink.faults l.initial.out)
      (g.S.Sink.faults l.out) text l.so_far
      × (text ++ root_text l.plan (drop l.array-index l.arrays) (bytes_at (g.B.Bank.seen l.bank).nodes 0)
      ≡ root_text l.plan l.arrays (bytes_at (g.B.Bank.seen l.bank).nodes 0));
}
