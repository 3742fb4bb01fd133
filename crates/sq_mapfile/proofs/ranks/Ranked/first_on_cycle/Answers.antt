use Rattle.std.proofs.Common.{◌+◌, take, sym, subst, arith}
use Rattle.std.proofs.lemmas.List.{take_all}
use Rattle.std.specs.Option.{option_copied}
use Rattle.sq_mapfile.specs.Graph.{IsFirstOnCycle}
use Rattle.sq_mapfile.proofs.FirstOnCycle.{next_found, next_kept}
use Rattle.sq_mapfile.proofs.ranks.Ranked.first_on_cycle.Goals as goal
use Rattle.sq_mapfile.proofs.ranks.Ranked.first_on_cycle.Goals.{then-branch, else-branch}

pub loop-call-preserved : goal.loop-call-preserved
loop-call-preserved c =
    let calls = c.args.self.now.graph.calls.now in
    elim c.if-branch.branch [
      | then-branch w ↦ subst (λ o. IsFirstOnCycle calls (take (c.loop-call.call-index + 1) calls) (option_copied o)) (sym w.found-is)
          (next_found calls calls c.loop-call.call-index c.call-item.result (option_copied c.loop-call.found) c.in_ok-is_first.field-0 (omega arith) c.call-item.is c.loop-call.invariant c.in_ok-is_first.ensures w.if-branch.true)
      | else-branch w ↦ subst (λ o. IsFirstOnCycle calls (take (c.loop-call.call-index + 1) calls) (option_copied o)) (sym w.found-is)
          (next_kept calls calls c.loop-call.call-index c.call-item.result (option_copied c.loop-call.found) c.in_ok-is_first.field-0 (omega arith) c.call-item.is c.loop-call.invariant c.in_ok-is_first.ensures w.if-branch.false)
    ]

pub returns : goal.returns
returns c =
    subst (λ xs. IsFirstOnCycle c.args.self.now.graph.calls.now xs (option_copied c.loop-call.found)) (take_all c.loop-call.call-index c.args.self.now.graph.calls.now (omega arith)) c.loop-call.invariant
