use Rattle.std.proofs.Common.{◌≡◌, ℕ, List, ◌++◌, map, drop}
use Rattle.sq_ast.specs.Canonical.{all_of}
use Rattle.sq_plantext.specs.Layout.{spell_array}
use Rattle.sq_planfile.specs.Written.{array_of}
use Rattle.sq_planfile.proofs.lines.put_arrays.Given as goal

abbrev pub invariant-loop-array : goal.invariant-loop-array
invariant-loop-array l = (later : List ℕ) → l.out.items ++ all_of (map spell_array (map array_of (drop l.array-index l.arrays))) later
    ≡ l.fn.out.items ++ all_of (map spell_array (map array_of l.arrays)) later
