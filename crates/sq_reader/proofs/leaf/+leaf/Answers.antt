use Rattle.std.proofs.Common.{rules, arith}
use Rattle.std.proofs.lemmas.Grind.{common_steps}
use Rattle.sq_ast.specs.Symbols.{symbols}
use Rattle.sq_reader.specs.Reading.{many_from, begins_leaf_stmt, leaf_stmt}
use Rattle.sq_reader.proofs.Turns.{one_more}
use Rattle.sq_reader.proofs.leaf.+leaf.Goals as goal

pub leaf_stmts-returns-in_err-first : goal.leaf_stmts-returns-in_err-first
unfolding many_from
leaf_stmts-returns-in_err-first t c =
    let e = one_more (λ n. many_from begins_leaf_stmt (leaf_stmt c.args.depth) n c.loop-turn.found (symbols c.loop-turn.tokens)) _ c.loop-turn._turn c.loop-turn-test.true c.loop-turn.invariant in
    first_of (search rules, grind (arith, common_steps))

pub leaf_stmts-loop-turn-preserved : goal.leaf_stmts-loop-turn-preserved
unfolding many_from
leaf_stmts-loop-turn-preserved t c =
    let e = one_more (λ n. many_from begins_leaf_stmt (leaf_stmt c.args.depth) n c.loop-turn.found (symbols c.loop-turn.tokens)) _ c.loop-turn._turn c.loop-turn-test.true c.loop-turn.invariant in
    first_of (search rules, grind (arith, common_steps))
