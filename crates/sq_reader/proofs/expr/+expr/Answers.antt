use Rattle.std.proofs.Common.{◌≡◌, ◌≢◌, Err, rules, arith}
use Rattle.sq_reader.specs.declared.error.ParseError.TheVariants.{OutOfMemory}
use Rattle.std.proofs.lemmas.Grind.{common_steps}
use Rattle.sq_ast.specs.Symbols.{symbols}
use Rattle.sq_reader.specs.Reading.{many_from, is_operator, is_bracket, link, level, operand, index, inner}
use Rattle.sq_reader.proofs.Turns.{one_more}
use Rattle.sq_reader.proofs.Levels.{level_fails}
use Rattle.sq_reader.proofs.expr.+expr.Goals as goal

pub links-returns-in_err-link : goal.links-returns-in_err-link
unfolding many_from
links-returns-in_err-link t c =
    let e = one_more (λ n. many_from (is_operator c.args.level) (link c.args.level (level (operand c.args.constant c.args.depth) c.args.level)) n c.loop-turn.found (symbols c.loop-turn.tokens)) _ c.loop-turn._turn c.loop-turn-test.true c.loop-turn.invariant in
    first_of (search rules, grind (arith, common_steps))

pub links-loop-turn-preserved : goal.links-loop-turn-preserved
unfolding many_from
links-loop-turn-preserved t c =
    let e = one_more (λ n. many_from (is_operator c.args.level) (link c.args.level (level (operand c.args.constant c.args.depth) c.args.level)) n c.loop-turn.found (symbols c.loop-turn.tokens)) _ c.loop-turn._turn c.loop-turn-test.true c.loop-turn.invariant in
    first_of (search rules, grind (arith, common_steps))

pub indices-returns-in_err-index : goal.indices-returns-in_err-index
unfolding many_from
indices-returns-in_err-index t c =
    let e = one_more (λ n. many_from is_bracket (index (inner c.args.constant c.args.depth)) n c.loop-turn.found (symbols c.loop-turn.tokens)) _ c.loop-turn._turn c.loop-turn-test.true c.loop-turn.invariant in
    first_of (search rules, grind (arith, common_steps))

pub indices-loop-turn-preserved : goal.indices-loop-turn-preserved
unfolding many_from
indices-loop-turn-preserved t c =
    let e = one_more (λ n. many_from is_bracket (index (inner c.args.constant c.args.depth)) n c.loop-turn.found (symbols c.loop-turn.tokens)) _ c.loop-turn._turn c.loop-turn-test.true c.loop-turn.invariant in
    first_of (search rules, grind (arith, common_steps))

pub level-returns-in_err-rest : goal.level-returns-in_err-rest
unfolding level
level-returns-in_err-rest t c =
    let fails : c.in_err-rest.field-0.0 ≢ OutOfMemory → level (operand c.args.constant c.args.depth) c.args.level (symbols c.args.tokens.now) ≡ Err c.in_err-rest.field-0.0 =
    λ q. level_fails (operand c.args.constant c.args.depth) c.args.level (symbols c.args.tokens.now) _ c.in_ok-first.first c.in_err-rest.field-0.0 (omega (arith, c.if-level-eq0.false))
    c.in_ok-first.ensures (c.in_err-rest.ensures q) in
    first_of (search rules, grind (arith, common_steps))
