use Rattle.std.proofs.Common.{◌≡◌, ◌<◌, ◌-◌, ◌∷◌, ◌++◌, [], Result, Ok, Err, Some, is_some, subst, arith, sym, ap, ◌∙◌}
use Rattle.std.proofs.lemmas.Result.{err_from_is_err_and}
use Rattle.sq_forms.specs.Steps as steps
use Rattle.sq_forms.specs.Args as argued
use Rattle.sq_forms.specs.Worlds as worlds
use Rattle.sq_forms.specs.Stmts as spec
use Rattle.std.specs.Option.{option_copied}
use Rattle.sq_text.specs.declared.fault.Stop.{Stop}
use Rattle.sq_forms.proofs.Joins.{walks_exit, same_stop}
use Rattle.sq_forms.proofs.Scopes.{left_behind}
use Rattle.sq_forms.proofs.Statements.{iteration_begun, iteration_more, each_first, map_made}
use Rattle.sq_forms.proofs.stmt.+stmt.Goals as goal

pub iterations-returns-in_err-begin-clause-steps : goal.iterations-returns-in_err-begin-clause-steps
iterations-returns-in_err-begin-clause-steps t c =
    let p = err_from_is_err_and c.from_residual.result c.from_residual.ensures.1 in
    let lt : c.loop-t.t < spec.times c.args.bounds.now = omega (arith, c.times.ensures, c.min-count.ensures) in
    walks_exit c.from_residual.result c.begin.result c.in_err-begin.field-0.0 (steps.state_of c.args.walk.now) (steps.state_of c.loop-t.walk) (steps.state_of c.begin.new.walk) (steps.state_of c.begin.new.walk)
    _ _ (p.1 ∙ ap Err p.2) c.in_err-begin.was c.begin.ensures.steps
    (λ later. each_first c.args.outer (λ t'. spec.site_at c.args.inside.now (c.args.path.now ++ t' ∷ [])) c.args.ranges.now (spec.stmts_steps c.args.body.now) c.args.bounds.now (worlds.frame_of c.args.frame.now) (argued.names_of c.args.known.now) c.args.numbers.now
    c.loop-t.t (spec.times c.args.bounds.now) (steps.state_of c.args.walk.now) (steps.state_of c.loop-t.walk) later lt (c.loop-t.invariant.steps later))

pub iterations-returns-in_err-stmts-clause-steps : goal.iterations-returns-in_err-stmts-clause-steps
iterations-returns-in_err-stmts-clause-steps t c =
    let p = err_from_is_err_and c.from_residual-in_err-stmts.result c.from_residual-in_err-stmts.ensures.1 in
    let lt : c.loop-t.t < spec.times c.args.bounds.now = omega (arith, c.times.ensures, c.min-count.ensures) in
    walks_exit c.from_residual-in_err-stmts.result c.stmts.result c.in_err-stmts.field-0.0 (steps.state_of c.args.walk.now) (steps.state_of c.begin.new.walk) (steps.state_of c.stmts.new.walk) (steps.state_of c.stmts.new.walk)
    _ _ (p.1 ∙ ap Err p.2) c.in_err-stmts.was c.stmts.ensures.steps
    (λ later. (
      _,
      c.loop-t.invariant.steps later ∙ iteration_begun c.args.outer (λ t'. spec.site_at c.args.inside.now (c.args.path.now ++ t' ∷ [])) c.args.ranges.now (spec.stmts_steps c.args.body.now) c.args.bounds.now (worlds.frame_of c.args.frame.now) (argued.names_of c.args.known.now) c.args.numbers.now
          c.loop-t.t (spec.times c.args.bounds.now) (steps.state_of c.loop-t.walk) (steps.state_of c.begin.new.walk) (spec.site_at c.args.inside.now c.begin.new.path) c.begin.new.numbers later lt
          (ap (spec.site_at c.args.inside.now) (c.in_ok-begin.ensures.path ∙ ap (λ q. q ++ c.loop-t.t ∷ []) c.loop-t.invariant.path))
          (c.in_ok-begin.ensures.numbers ∙ ap (spec.in_iteration c.args.ranges.now c.args.bounds.now c.loop-t.t) c.loop-t.invariant.numbers)
          c.in_ok-begin.ensures.steps,
    ))

pub iterations-loop-t-preserved : goal.iterations-loop-t-preserved
iterations-loop-t-preserved t c =
    let lt : c.loop-t.t < spec.times c.args.bounds.now = omega (arith, c.times.ensures, c.min-count.ensures) in
    let longer = c.in_ok-begin.ensures.path ∙ ap (λ q. q ++ c.loop-t.t ∷ []) c.loop-t.invariant.path in
    let more = c.in_ok-begin.ensures.numbers ∙ ap (spec.in_iteration c.args.ranges.now c.args.bounds.now c.loop-t.t) c.loop-t.invariant.numbers in
    record {
      steps = λ later. c.loop-t.invariant.steps later ∙ iteration_more c.args.outer (λ t'. spec.site_at c.args.inside.now (c.args.path.now ++ t' ∷ [])) c.args.ranges.now (spec.stmts_steps c.args.body.now) c.args.bounds.now (worlds.frame_of c.args.frame.now) (argued.names_of c.args.known.now) c.args.numbers.now
          c.loop-t.t (spec.times c.args.bounds.now) (steps.state_of c.loop-t.walk) (steps.state_of c.begin.new.walk) (steps.state_of c.stmts.new.walk) (spec.site_at c.args.inside.now c.begin.new.path) c.begin.new.numbers later lt
          (ap (spec.site_at c.args.inside.now) longer) more c.in_ok-begin.ensures.steps c.in_ok-stmts.ensures.steps;
      numbers = c.end.ensures.numbers ∙ left_behind c.args.ranges.now c.args.bounds.now c.loop-t.t c.len-outside.result c.args.numbers.now c.stmts.new.numbers c.len-outside.ensures (c.in_ok-stmts.ensures.numbers ∙ more);
      path = c.end.ensures.path c.args.path.now c.loop-t.t (c.in_ok-stmts.ensures.path ∙ longer);
      left = omega (arith, c.in_ok-begin.ensures.left, c.in_ok-stmts.ensures.left (ap is_some c.requires.outer));
    }

pub iterations-returns-clause-steps : goal.iterations-returns-clause-steps
iterations-returns-clause-steps t c = λ later.
    let none : spec.times c.args.bounds.now - c.loop-t.t ≡ 0 = omega (arith, c.times.ensures, c.min-count.ensures, c.from.ensures) in
    c.loop-t.invariant.steps later ∙ ap (λ k. steps.run (steps.state_of c.loop-t.walk) (spec.each c.loop-t.t k (spec.iteration_steps c.args.outer (λ t'. spec.site_at c.args.inside.now (c.args.path.now ++ t' ∷ [])) c.args.ranges.now (spec.stmts_steps c.args.body.now) c.args.bounds.now (worlds.frame_of c.args.frame.now) (argued.names_of c.args.known.now) c.args.numbers.now) later)) none

pub stmt-returns-in_err-iterations-in-Map-clause-steps : goal.stmt-returns-in_err-iterations-in-Map-clause-steps
stmt-returns-in_err-iterations-in-Map-clause-steps t c =
    let p = err_from_is_err_and c.from_residual-in_err-iterations-in-Map.result c.from_residual-in_err-iterations-in-Map.ensures.1 in
    same_stop c.from_residual-in_err-iterations-in-Map.result c.iterations.result c.in_err-iterations-in-Map.field-0.0 (steps.state_of c.args.walk.now) (steps.state_of c.iterations.new.walk) (steps.state_of c.iterations.new.walk) _
    (p.1 ∙ ap Err p.2) c.in_err-iterations-in-Map.was (
    map_made c.iterations.result c.args.s.now c.in-Map.place c.in-Map.kind c.in-Map.ranges c.in-Map.body c.as_slice-list.result.now c.as_slice-in-Map-2.result.now c.as_slice-in-Map.result.now c.outermost-outer.result
    (λ t'. record { call = c.args.at.now.call; outer = Some c.outermost-outer.result; reduced = option_copied c.reduced_by.result; iterations = c.args.path.now ++ t' ∷ [] })
    (worlds.frame_of c.args.frame.now) (argued.names_of c.args.known.now) (spec.site_at c.args.at.now c.args.path.now) c.args.numbers.now
    (steps.state_of c.args.walk.now) (steps.state_of c.head.new.walk) (steps.state_of c.iterations.new.walk)
    c.in-Map.is c.as_slice-list.ensures c.as_slice-in-Map-2.ensures c.outermost-outer.ensures
    (λ i t'. record { call = c.args.at.now.call; outer = Some (c.outermost-outer.ensures i); reduced = c.reduced_by.ensures i; iterations = c.args.path.now ++ t' ∷ [] })
    (c.in_ok-bounds-in-Map.ensures.bounds ∙ ap (λ ns. Ok ns) (sym c.as_slice-in-Map.ensures)) c.in_ok-bounds-in-Map.ensures.steps c.iterations.ensures.steps)

pub stmt-returns-in_ok-iterations-in-Map-clause-steps : goal.stmt-returns-in_ok-iterations-in-Map-clause-steps
stmt-returns-in_ok-iterations-in-Map-clause-steps t c =
    subst (λ (r : Result (Unit {0}) Stop). steps.Walks r (steps.state_of c.args.walk.now) (steps.state_of c.iterations.new.walk) (spec.stmt_steps c.args.s.now (worlds.frame_of c.args.frame.now) (argued.names_of c.args.known.now) (spec.site_at c.args.at.now c.args.path.now) c.args.numbers.now))
    c.in_ok-iterations-in-Map.was (
    map_made c.iterations.result c.args.s.now c.in-Map.place c.in-Map.kind c.in-Map.ranges c.in-Map.body c.as_slice-list.result.now c.as_slice-in-Map-2.result.now c.as_slice-in-Map.result.now c.outermost-outer.result
    (λ t'. record { call = c.args.at.now.call; outer = Some c.outermost-outer.result; reduced = option_copied c.reduced_by.result; iterations = c.args.path.now ++ t' ∷ [] })
    (worlds.frame_of c.args.frame.now) (argued.names_of c.args.known.now) (spec.site_at c.args.at.now c.args.path.now) c.args.numbers.now
    (steps.state_of c.args.walk.now) (steps.state_of c.head.new.walk) (steps.state_of c.iterations.new.walk)
    c.in-Map.is c.as_slice-list.ensures c.as_slice-in-Map-2.ensures c.outermost-outer.ensures
    (λ i t'. record { call = c.args.at.now.call; outer = Some (c.outermost-outer.ensures i); reduced = c.reduced_by.ensures i; iterations = c.args.path.now ++ t' ∷ [] })
    (c.in_ok-bounds-in-Map.ensures.bounds ∙ ap (λ ns. Ok ns) (sym c.as_slice-in-Map.ensures)) c.in_ok-bounds-in-Map.ensures.steps c.iterations.ensures.steps)
