use Rattle.std.proofs.Common.{◌≡◌, ◌++◌, map, drop}
use Rattle.sq_ir.specs.DraftLeaves.{local_shapes}
use Rattle.sq_planevents.specs.Shapes.{kept}
use Rattle.sq_planevents.proofs.shapes.put_locals.Given as goal

abbrev pub invariant-loop-decl : goal.invariant-loop-decl
invariant-loop-decl l = l.shapes ++ map kept (local_shapes l.numbers (drop l.decl-index l.decls)) ≡ l.fn.shapes ++ map kept (local_shapes l.numbers l.decls)
