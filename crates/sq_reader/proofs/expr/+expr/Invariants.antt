use Rattle.std.proofs.Common.{◌≡◌, ◌+◌, ◌-◌, ◌*◌, []}
use Rattle.sq_ast.specs.Symbols.{symbols}
use Rattle.sq_reader.specs.Reading.{many_after, many_from, is_operator, is_bracket, link, level, operand, index, inner}
use Rattle.sq_reader.proofs.expr.+expr.Given as goal

abbrev pub decreases-expr : goal.decreases-expr
decreases-expr l = 64 * l.depth + 50

abbrev pub decreases-level : goal.decreases-level
decreases-level l = 64 * l.depth + (14 + 3 * l.level)

abbrev pub decreases-links : goal.decreases-links
decreases-links l = 64 * l.depth + (16 + 3 * l.level)

abbrev pub decreases-link : goal.decreases-link
decreases-link l = 64 * l.depth + (15 + 3 * l.level)

abbrev pub decreases-operand : goal.decreases-operand
decreases-operand l = 64 * l.depth + 13

abbrev pub decreases-unary : goal.decreases-unary
decreases-unary l = 64 * l.depth + 12

abbrev pub decreases-primary : goal.decreases-primary
decreases-primary l = 64 * l.depth + 11

abbrev pub decreases-indices : goal.decreases-indices
decreases-indices l = 64 * l.depth + 10

abbrev pub decreases-index : goal.decreases-index
decreases-index l = 64 * l.depth + 9

abbrev pub decreases-between : goal.decreases-between
decreases-between l = 64 * l.depth + 8

abbrev pub decreases-least : goal.decreases-least
decreases-least l = 64 * l.depth + 7

abbrev pub decreases-most : goal.decreases-most
decreases-most l = 64 * l.depth + 7

abbrev pub decreases-pair : goal.decreases-pair
decreases-pair l = 64 * l.depth + 6

abbrev pub decreases-negated : goal.decreases-negated
decreases-negated l = 64 * l.depth + 3

abbrev pub decreases-inner : goal.decreases-inner
decreases-inner l = 64 * l.depth + 2

abbrev pub decreases-inside : goal.decreases-inside
decreases-inside l = 64 * l.depth + 1

abbrev pub invariant-links-loop-turn : goal.invariant-links-loop-turn
invariant-links-loop-turn l = many_after (is_operator l.level) (link l.level (level (operand l.constant l.depth) l.level)) [] (symbols l.fn.tokens)
    ≡ many_from (is_operator l.level) (link l.level (level (operand l.constant l.depth) l.level)) (l._turn-end - l._turn) l.found (symbols l.tokens)

abbrev pub invariant-indices-loop-turn : goal.invariant-indices-loop-turn
invariant-indices-loop-turn l = many_after is_bracket (index (inner l.constant l.depth)) [] (symbols l.fn.tokens)
    ≡ many_from is_bracket (index (inner l.constant l.depth)) (l._turn-end - l._turn) l.found (symbols l.tokens)
