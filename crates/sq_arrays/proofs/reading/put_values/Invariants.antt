use Rattle.std.proofs.Common.{◌≡◌, ◌+◌, ◌-◌, ℕ, List, length, None}
use Rattle.std.specs.Prelude.{map}
use Rattle.sq_num.specs.Elements.{width}
use Rattle.sq_arrays.specs.ArrayText.{next_values}
use Rattle.sq_arrays.specs.Reader.{left_of, elem_of, is_first, kept_of, rest_at, IsReady}
use Rattle.sq_arrays.specs.Window.{IsTold}
use Rattle.sq_arrays.proofs.Putting.{SoFar}
use Rattle.sq_arrays.proofs.reading.put_values.Given as goal

abbrev pub invariant-loop-done : goal.invariant-loop-done
invariant-loop-done g l = record {
  content : g.F.Files.content l.files ≡ g.F.Files.content l.initial.files;
  ready : IsReady (g.F.Files.content l.files) l.name l.reader;
  good : kept_of l.reader ≡ None;
  elem : elem_of l.reader ≡ elem_of l.initial.reader;
  first : is_first l.reader ≡ is_first l.initial.reader;
  left : left_of l.reader + l.done ≡ l.count;
  sizes : map length (g.T.ArrayTarget.arrays l.target) ≡ map length (g.T.ArrayTarget.arrays l.initial.target);
  keeps : g.T.ArrayTarget.keeps l.initial.target l.target;
  told : (bytes : List ℕ) → IsTold (g.F.Files.content l.initial.files) l.name bytes
      → SoFar (elem_of l.initial.reader) l.array l.done (width (elem_of l.initial.reader)) (l.count - l.done) (g.T.ArrayTarget.arrays l.initial.target) (g.T.ArrayTarget.arrays l.target)
      (rest_at l.reader bytes) (next_values l.count (elem_of l.initial.reader) (rest_at l.initial.reader bytes));
  faults : g.F.Files.faults l.files ≡ g.F.Files.faults l.initial.files;
  misses : g.F.Files.misses l.files ≡ g.F.Files.misses l.initial.files;
}

abbrev pub decreases-loop-done : goal.decreases-loop-done
decreases-loop-done g l = l.count - l.done
