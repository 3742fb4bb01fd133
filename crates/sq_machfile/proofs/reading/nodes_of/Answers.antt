use Rattle.std.proofs.Common.{◌<◌, rules, arith, sym, ◌∙◌}
use Rattle.std.proofs.lemmas.Grind.{common_steps}
use Rattle.sq_machfile.proofs.Walks.{no_node_open, brace_turn, node_turn}
use Rattle.sq_machfile.proofs.reading.nodes_of.Goals as goal
use Rattle.sq_machfile.proofs.reading.nodes_of.Goals.{then-sees+in_ok-_brace, else-sees+in_ok-node+in_ok-push-2+in_ok-depth}

pub returns-then-depth-eq0 : goal.returns-then-depth-eq0
returns-then-depth-eq0 c = no_node_open _ c.loop-turn.depth c.loop-turn.found c.loop-turn.tokens c.if-depth-eq0.true c.loop-turn.invariant

pub returns-in_err-node : goal.returns-in_err-node
returns-in_err-node c =
    let some : 0 < c.loop-turn.depth = omega (arith, c.if-depth-eq0.false) in
    let e = node_turn _ c.loop-turn._turn c.loop-turn.depth c.loop-turn.found c.loop-turn.tokens c.loop-turn-test.true some c.loop-turn.invariant (sym c.sees.ensures ∙ c.if-sees.false) in
    first_of (search rules, grind (arith, common_steps))

pub loop-turn-preserved : goal.loop-turn-preserved
loop-turn-preserved c =
    let some : 0 < c.loop-turn.depth = omega (arith, c.if-depth-eq0.false) in
    elim c.if-sees.branch [
      | then-sees+in_ok-_brace w ↦
          (let e = brace_turn _ c.loop-turn._turn c.loop-turn.depth c.loop-turn.found c.loop-turn.tokens c.loop-turn-test.true some c.loop-turn.invariant (sym c.sees.ensures ∙ w.if-sees.true) in
          first_of (search rules, grind (arith, common_steps)))
      | else-sees+in_ok-node+in_ok-push-2+in_ok-depth w ↦
          (let e = node_turn _ c.loop-turn._turn c.loop-turn.depth c.loop-turn.found c.loop-turn.tokens c.loop-turn-test.true some c.loop-turn.invariant (sym c.sees.ensures ∙ w.if-sees.false) in
          first_of (search rules, grind (arith, common_steps)))
    ]
