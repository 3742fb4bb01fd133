use Rattle.std.proofs.Common.{rules, arith}
use Rattle.std.proofs.lemmas.Grind.{common_steps}
use Rattle.sq_ast.specs.Symbols.{symbols}
use Rattle.sq_reader.specs.Reading.{joined_from, begins_decl, decl}
use Rattle.sq_reader.proofs.Turns.{one_more}
use Rattle.sq_reader.proofs.program.decls.Goals as goal

pub returns-in_err-next : goal.returns-in_err-next
unfolding joined_from
returns-in_err-next c =
    let e = one_more (λ n. joined_from (begins_decl c.args.is_inner) (decl c.args.is_inner c.args.depth) n c.loop-turn.found (symbols c.loop-turn.tokens)) _ c.loop-turn._turn c.loop-turn-test.true c.loop-turn.invariant in
    first_of (search rules, grind (arith, common_steps))

pub loop-turn-preserved : goal.loop-turn-preserved
unfolding joined_from
loop-turn-preserved c =
    let e = one_more (λ n. joined_from (begins_decl c.args.is_inner) (decl c.args.is_inner c.args.depth) n c.loop-turn.found (symbols c.loop-turn.tokens)) _ c.loop-turn._turn c.loop-turn-test.true c.loop-turn.invariant in
    first_of (search rules, grind (arith, common_steps))
