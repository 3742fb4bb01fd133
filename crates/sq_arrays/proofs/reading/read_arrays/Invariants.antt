use Rattle.std.proofs.Common.{◌≡◌, ℕ, List, ℤ, None, drop, length}
use Rattle.std.specs.Prelude.{map}
use Rattle.sq_arrays.specs.Arrays.{wanted, arrays_of, arrays_from}
use Rattle.sq_arrays.specs.Reader.{left_of, is_first, kept_of, rest_at, IsReady}
use Rattle.sq_arrays.specs.Window.{IsTold}
use Rattle.sq_arrays.proofs.Arrays.{with_arrays, last_name, Stored}
use Rattle.sq_arrays.proofs.reading.read_arrays.Given as goal

abbrev pub invariant-loop-array : goal.invariant-loop-array
invariant-loop-array g l = record {
  content : g.F.Files.content l.files ≡ g.F.Files.content l.initial.files;
  ready : IsReady (g.F.Files.content l.files) l.name l.reader;
  good : kept_of l.reader ≡ None;
  none : left_of l.reader ≡ 0;
  sizes : map length (g.T.ArrayTarget.arrays l.target) ≡ map length (g.T.ArrayTarget.arrays l.initial.target);
  keeps : g.T.ArrayTarget.keeps l.initial.target l.target;
  told : (bytes : List ℕ) → IsTold (g.F.Files.content l.initial.files) l.name bytes → (vss : List (List ℤ))
      × Stored (map wanted l.wants) (drop l.array (map wanted l.wants)) vss (g.T.ArrayTarget.arrays l.target)
      × (with_arrays vss (arrays_from (is_first l.reader) (last_name (map wanted l.wants) l.array) (drop l.array (map wanted l.wants)) (rest_at l.reader bytes)) ≡ arrays_of (map wanted l.wants) bytes);
  faults : g.F.Files.faults l.files ≡ g.F.Files.faults l.initial.files;
  misses : g.F.Files.misses l.files ≡ g.F.Files.misses l.initial.files;
}
