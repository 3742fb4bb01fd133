use Rattle.std.proofs.Common.{◌≡◌, ◌++◌, map, drop}
use Rattle.sq_ast.specs.Modes.{is_written}
use Rattle.sq_planevents.proofs.shapes.put_param_flags.Given as goal

abbrev pub invariant-loop-param : goal.invariant-loop-param
invariant-loop-param l = l.flags ++ map (λ p. is_written p.mode) (drop l.param-index l.params) ≡ l.fn.flags ++ map (λ p. is_written p.mode) l.params
