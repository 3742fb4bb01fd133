use Rattle.std.proofs.Common.{◌≡◌, ◌<◌, ◌≤◌, ℕ, pos, length, get_or, take, drop}
use Rattle.sq_num.specs.Elements.{width, value}
use Rattle.sq_ast.specs.declared.expr.BinOp.TheVariants.{Mul}
use Rattle.sq_leaf.specs.Numbers as spec
use Rattle.sq_columns.specs.Lines.{first_byte}
use Rattle.sq_columns.proofs.loads.times_each.Given as goal

abbrev pub invariant-loop-j : goal.invariant-loop-j
invariant-loop-j l = record {
  size : length l.xs ≡ length l.fn.xs;
  done : (k : ℕ) → k < l.j → get_or l.xs k (pos 0) ≡ spec.binary Mul (get_or l.fn.xs k (pos 0)) (value l.elem (take (width l.elem) (drop (first_byte l.spots l.column k) l.bytes)));
  left : (k : ℕ) → l.j ≤ k → get_or l.xs k (pos 0) ≡ get_or l.fn.xs k (pos 0);
}
