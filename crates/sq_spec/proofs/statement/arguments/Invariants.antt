use Rattle.std.proofs.Common.{◌≡◌, ◌++◌, drop}
use Rattle.std.specs.Option.{option_copied}
use Rattle.sq_form_laws.specs.Forms.Args.{names_of, arguments}
use Rattle.sq_spec.proofs.statement.arguments.Given as goal

abbrev pub invariant-loop-i : goal.invariant-loop-i
invariant-loop-i l = l.out ++ arguments (names_of l.known) l.numbers (option_copied l.reduced) l.params l.i (drop l.i l.list)
    ≡ arguments (names_of l.known) l.numbers (option_copied l.reduced) l.params 0 l.list
