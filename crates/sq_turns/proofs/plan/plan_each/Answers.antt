use Rattle.std.proofs.Common.{rules, ◌≡◌, ◌<◌, ◌≤◌, ◌+◌, ◌*◌, length, map, take, [], ◌∷◌, ◌++◌, ℕ, List, ap, sym, subst}
use Rattle.std.proofs.lemmas.List.{take_all}
use Rattle.sq_leaf.specs.Running as running
use Rattle.sq_deeds.specs.declared.deeds.Deed.{Deed}
use Rattle.sq_turns.specs.Plans.{AreDeeds, IsNext}
use Rattle.sq_turns.proofs.Planning.{one_action_more, deeds_are_loop}
use Rattle.sq_turns.proofs.plan.plan_each.Goals as goal

pub loop-action-preserved : goal.loop-action-preserved
loop-action-preserved c =
    let inside : c.loop-action.action-index < length c.args.body.now = search rules in
    let k_is : c.len-k.result ≡ length c.loop-action.deeds.items = c.len-k.ensures.value in
    let one : IsNext c.args.setting.now (2 * length c.loop-action.deeds.items) (running.run_action c.action-item.result) c.next_deed.new.columns c.loop-action.next c.in-Some.field-0.free c.in-Some.field-0.deed =
    subst (λ (m : ℕ). IsNext c.args.setting.now (2 * m) (running.run_action c.action-item.result) c.next_deed.new.columns c.loop-action.next c.in-Some.field-0.free c.in-Some.field-0.deed) k_is c.in-Some.ensures.is in
    let pushed : c.push.new.self.items ≡ c.loop-action.deeds.items ++ c.in-Some.field-0.deed ∷ [] = search rules in
    subst (λ (ds : List Deed). AreDeeds c.args.setting.now (2 * length ds) (map running.run_action (take (c.loop-action.action-index + 1) c.args.body.now)) c.next_deed.new.columns c.in-Some.field-0.free ds) (sym pushed)
    (one_action_more c.args.setting.now c.args.body.now c.loop-action.action-index c.action-item.result c.loop-action.columns c.next_deed.new.columns c.loop-action.next c.in-Some.field-0.free c.loop-action.deeds.items c.in-Some.field-0.deed
    inside c.action-item.is c.loop-action.invariant c.next_deed.ensures.kept one)

pub returns-clause-runs : goal.returns-clause-runs
returns-clause-runs c = λ known.
    let ended : length c.args.body.now ≤ c.loop-action.action-index = search rules in
    let all : map running.run_action (take c.loop-action.action-index c.args.body.now) ≡ map running.run_action c.args.body.now = ap (map running.run_action) (take_all c.loop-action.action-index c.args.body.now ended) in
    deeds_are_loop c.args.setting.now _ (map running.run_action c.args.body.now) c.loop-action.columns c.loop-action.next c.loop-action.deeds.items
    (subst (λ (fs : List running.ActionRun). AreDeeds c.args.setting.now (2 * length c.loop-action.deeds.items) fs c.loop-action.columns c.loop-action.next c.loop-action.deeds.items) all c.loop-action.invariant)
