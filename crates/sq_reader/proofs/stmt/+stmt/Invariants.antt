use Rattle.std.proofs.Common.{◌≡◌, ◌+◌, ◌-◌, ◌*◌, []}
use Rattle.sq_ast.specs.Symbols.{symbols}
use Rattle.sq_reader.specs.Reading.{many_after, many_from, begins_stmt, stmt}
use Rattle.sq_reader.proofs.stmt.+stmt.Given as goal

abbrev pub decreases-stmts : goal.decreases-stmts
decreases-stmts l = 8 * l.depth + 4

abbrev pub decreases-stmt : goal.decreases-stmt
decreases-stmt l = 8 * l.depth + 3

abbrev pub decreases-map_over : goal.decreases-map_over
decreases-map_over l = 8 * l.depth + 2

abbrev pub decreases-block : goal.decreases-block
decreases-block l = 8 * l.depth + 1

abbrev pub invariant-stmts-loop-turn : goal.invariant-stmts-loop-turn
invariant-stmts-loop-turn l = many_after begins_stmt (stmt l.depth) [] (symbols l.fn.tokens) ≡ many_from begins_stmt (stmt l.depth) (l._turn-end - l._turn) l.found (symbols l.tokens)
