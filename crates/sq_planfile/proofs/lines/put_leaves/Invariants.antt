use Rattle.std.proofs.Common.{◌≡◌, ℕ, List, ◌++◌, map, drop}
use Rattle.sq_ast.specs.Canonical.{all_of}
use Rattle.sq_plantext.specs.Layout.{spell_leaf}
use Rattle.sq_planfile.specs.Written.{text_of}
use Rattle.sq_planfile.proofs.lines.put_leaves.Given as goal

abbrev pub invariant-loop-leaf : goal.invariant-loop-leaf
invariant-loop-leaf l = (later : List ℕ) → l.out.items ++ all_of (map spell_leaf (map text_of (drop l.leaf-index l.leaves))) later
    ≡ l.fn.out.items ++ all_of (map spell_leaf (map text_of l.leaves)) later
