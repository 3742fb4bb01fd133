use Rattle.std.proofs.Common.{◌≡◌, ◌++◌, map, drop}
use Rattle.sq_planevents.specs.Shapes.{table_of}
use Rattle.sq_planevents.proofs.shapes.all_shapes.Given as goal

abbrev pub invariant-loop-leaf : goal.invariant-loop-leaf
invariant-loop-leaf l = l.all ++ map table_of (drop l.leaf-index l.leaves) ≡ map table_of l.leaves
