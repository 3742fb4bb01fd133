use Rattle.std.proofs.Common.{◌≡◌, ◌++◌, drop}
use Rattle.sq_leaf.specs.Leaf.{local_flags}
use Rattle.sq_planevents.proofs.shapes.put_local_flags.Given as goal

abbrev pub invariant-loop-decl : goal.invariant-loop-decl
invariant-loop-decl l = l.flags ++ local_flags (drop l.decl-index l.decls) ≡ l.fn.flags ++ local_flags l.decls
