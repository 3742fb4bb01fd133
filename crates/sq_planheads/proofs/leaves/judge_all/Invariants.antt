use Rattle.std.proofs.Common.{◌≡◌, ◌+◌, ◌++◌, reverse, length}
use Rattle.sq_text.specs.Found.{firsts}
use Rattle.sq_planheads.specs.Leaves.{leaf_breach, leaves_by}
use Rattle.sq_planheads.specs.Heads.{AreGiven}
use Rattle.sq_planheads.proofs.leaves.judge_all.Given as goal

abbrev pub invariant-loop-left : goal.invariant-loop-left
invariant-loop-left l = record {
  first : firsts leaf_breach l.first (reverse l.leaves) ≡ firsts leaf_breach l.fn.first (reverse l.fn.leaves);
  made : l.made ++ leaves_by (reverse l.leaves) ≡ l.fn.made ++ leaves_by (reverse l.fn.leaves);
  given : AreGiven (reverse l.leaves);
  left : length l.leaves + l._left ≡ length l.fn.leaves;
}
