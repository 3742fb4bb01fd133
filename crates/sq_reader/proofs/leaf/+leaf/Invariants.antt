use Rattle.std.proofs.Common.{◌≡◌, ◌+◌, ◌-◌, ◌*◌, []}
use Rattle.sq_ast.specs.Symbols.{symbols}
use Rattle.sq_reader.specs.Reading.{many_after, many_from, begins_leaf_stmt, leaf_stmt}
use Rattle.sq_reader.proofs.leaf.+leaf.Given as goal

abbrev pub decreases-leaf_stmts : goal.decreases-leaf_stmts
decreases-leaf_stmts l = 16 * l.depth + 9

abbrev pub decreases-leaf_stmt : goal.decreases-leaf_stmt
decreases-leaf_stmt l = 16 * l.depth + 8

abbrev pub decreases-choice : goal.decreases-choice
decreases-choice l = 16 * l.depth + 7

abbrev pub decreases-counted : goal.decreases-counted
decreases-counted l = 16 * l.depth + 7

abbrev pub decreases-otherwise : goal.decreases-otherwise
decreases-otherwise l = 16 * l.depth + 6

abbrev pub decreases-body : goal.decreases-body
decreases-body l = 16 * l.depth + 5

abbrev pub decreases-braced : goal.decreases-braced
decreases-braced l = 16 * l.depth + 12

abbrev pub decreases-bare : goal.decreases-bare
decreases-bare l = 16 * l.depth + 12

abbrev pub invariant-leaf_stmts-loop-turn : goal.invariant-leaf_stmts-loop-turn
invariant-leaf_stmts-loop-turn l = many_after begins_leaf_stmt (leaf_stmt l.depth) [] (symbols l.fn.tokens) ≡ many_from begins_leaf_stmt (leaf_stmt l.depth) (l._turn-end - l._turn) l.found (symbols l.tokens)
