use Rattle.std.proofs.Common.{◌≡◌, ℕ, List, ◌-◌, ◌++◌, map, length}
use Rattle.std.specs.Option.{option_copied}
use Rattle.sq_form_laws.specs.Blocks.Names.{Numbers}
use Rattle.sq_form_laws.specs.Forms.Args.{names_of}
use Rattle.sq_form_laws.specs.Forms.Worlds.{frame_of, callee_by}
use Rattle.sq_form_laws.specs.Forms.Stmts.{times, in_iteration}
use Rattle.sq_spec.specs.Statements.{over, iteration_points, call_instance}
use Rattle.sq_spec.proofs.statement.+push_instances.Given as goal

abbrev pub decreases-push_instances : goal.decreases-push_instances
decreases-push_instances l = length l.nest.now

abbrev pub invariant-loop-t : goal.invariant-loop-t
invariant-loop-t l =
    let names = names_of l.context.known.now in
    let row = call_instance l.context.forms.now.entries (frame_of l.context.frame.now) names l.text_call.number (option_copied l.text_call.reduced)
    (callee_by l.text_call.callee) l.text_call.args.now in
    let inner : ℕ → List Numbers = λ t. iteration_points l.inside names.lists (in_iteration l.outer-inside.ranges.now l.bounds-inside.items.items t l.fn.numbers) in
    record {
      instances : l.instances ++ map row (over l.t (times l.bounds-inside.items.items - l.t) inner) ≡ l.fn.instances ++ map row
          (over 0 (times l.bounds-inside.items.items) inner);
      numbers : l.numbers ≡ l.fn.numbers;
    }
