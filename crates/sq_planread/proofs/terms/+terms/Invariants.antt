use Rattle.std.proofs.Common.{◌≡◌, ◌+◌, ◌-◌, ◌*◌, []}
use Rattle.sq_planread.specs.Reading.{many_after, many_from, goes_on, inner}
use Rattle.sq_planread.proofs.terms.+terms.Given as goal

abbrev pub decreases-inner : goal.decreases-inner
decreases-inner l = 8 * l.depth + 2

abbrev pub decreases-terms : goal.decreases-terms
decreases-terms l = 8 * l.depth + 3

abbrev pub decreases-only : goal.decreases-only
decreases-only l = 8 * l.depth + 3

abbrev pub decreases-parts : goal.decreases-parts
decreases-parts l = 8 * l.depth + 4

abbrev pub decreases-scope : goal.decreases-scope
decreases-scope l = 8 * l.depth + 4

abbrev pub decreases-term : goal.decreases-term
decreases-term l = 8 * l.depth + 6

abbrev pub invariant-terms-loop-turn : goal.invariant-terms-loop-turn
invariant-terms-loop-turn l = many_after goes_on (inner l.depth) [] l.fn.tokens ≡ many_from goes_on (inner l.depth) (l._turn-end - l._turn) l.found l.tokens
