use Rattle.std.proofs.Common.{◌≡◌, ◌≤◌, ◌++◌, List, drop}
use Rattle.std.specs.Option.{option_copied}
use Rattle.sq_forms.specs.Steps.{Step, run, state_of}
use Rattle.sq_forms.specs.Args as spec
use Rattle.sq_forms.proofs.args.args.Given as goal

abbrev pub invariant-loop-i : goal.invariant-loop-i
invariant-loop-i l = record {
  steps : (later : List Step) → run (state_of l.fn.walk) (spec.args_steps l.outer (spec.names_of l.known) l.numbers (option_copied l.reduced) l.params 0 l.list later)
      ≡ run (state_of l.walk) (spec.args_steps l.outer (spec.names_of l.known) l.numbers (option_copied l.reduced) l.params l.i (drop l.i l.list) later);
  list : l.out ++ spec.arguments (spec.names_of l.known) l.numbers (option_copied l.reduced) l.params l.i (drop l.i l.list)
      ≡ spec.arguments (spec.names_of l.known) l.numbers (option_copied l.reduced) l.params 0 l.list;
  left : l.walk.left ≤ l.fn.walk.left;
}
