use Rattle.std.proofs.Common.{◌≡◌, ◌-◌, ◌*◌, ℕ, List, ℤ, take}
use Rattle.std.specs.List.{flat_map}
use Rattle.sq_arrays.specs.Window.{IsTold, Stands}
use Rattle.sq_arrays.specs.Steps.{rest_of}
use Rattle.sq_arrays.specs.ArrayText.{next_values}
use Rattle.sq_num.specs.Elements.{cell}
use Rattle.sq_arrays.proofs.Fronts.{with_front}
use Rattle.sq_arrays.proofs.values.values.Given as goal

abbrev pub invariant-loop-i : goal.invariant-loop-i
invariant-loop-i g l = record {
  content : g.F.Files.content l.files ≡ g.F.Files.content l.initial.files;
  stands : Stands (g.F.Files.content l.files) l.name l.window;
  told : (bytes : List ℕ) → IsTold (g.F.Files.content l.initial.files) l.name bytes → (vs : List ℤ) × (take (l.i * l.size) l.into ≡ flat_map (cell l.elem) vs)
      × (with_front vs (next_values (l.count - l.i) l.elem (rest_of l.window bytes)) ≡ next_values l.count l.elem (rest_of l.initial.window bytes));
  faults : g.F.Files.faults l.files ≡ g.F.Files.faults l.initial.files;
  misses : g.F.Files.misses l.files ≡ g.F.Files.misses l.initial.files;
}
