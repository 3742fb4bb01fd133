use Rattle.std.proofs.Common.{◌≡◌, ◌++◌, map, drop}
use Rattle.sq_ir.specs.DraftLeaves.{param_shape}
use Rattle.sq_planevents.specs.Shapes.{kept}
use Rattle.sq_planevents.proofs.shapes.put_params.Given as goal

abbrev pub invariant-loop-param : goal.invariant-loop-param
invariant-loop-param l = l.shapes ++ map kept (map (param_shape l.numbers) (drop l.param-index l.params)) ≡ l.fn.shapes ++ map kept (map (param_shape l.numbers) l.params)
