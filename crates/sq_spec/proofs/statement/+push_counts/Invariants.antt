use Rattle.std.proofs.Common.{◌≡◌, ℕ, List, ◌-◌, ◌++◌, map, length}
use Rattle.sq_form_laws.specs.Blocks.Names.{Numbers}
use Rattle.sq_form_laws.specs.Forms.Args.{names_of}
use Rattle.sq_form_laws.specs.Forms.Stmts.{times, in_iteration}
use Rattle.sq_spec.specs.Statements.{over, iteration_points, count_at}
use Rattle.sq_spec.proofs.statement.+push_counts.Given as goal

abbrev pub decreases-push_counts : goal.decreases-push_counts
decreases-push_counts l = length l.nest.now

abbrev pub invariant-loop-t : goal.invariant-loop-t
invariant-loop-t l =
    let lists = (names_of l.context.known.now).lists in
    let inner : ℕ → List Numbers = λ t. iteration_points l.inside lists (in_iteration l.outer-inside.ranges.now l.bounds-inside.items.items t l.fn.numbers) in
    record {
      counts : l.counts ++ map (count_at l.ranges lists) (over l.t (times l.bounds-inside.items.items - l.t) inner) ≡ l.fn.counts ++ map
          (count_at l.ranges lists) (over 0 (times l.bounds-inside.items.items) inner);
      numbers : l.numbers ≡ l.fn.numbers;
    }
