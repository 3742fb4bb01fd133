use Rattle.std.proofs.Common.{◌≡◌, ◌++◌, drop, map}
use Rattle.sq_text.specs.declared.fault.Arg.TheVariants.{Number}
use Rattle.sq_checker.proofs.fault.args_of.Given as goal

abbrev pub invariant-loop-number : goal.invariant-loop-number
invariant-loop-number l = l.args ++ map (λ n. Number n) (drop l.number-index l.numbers) ≡ map (λ n. Number n) l.numbers
