use Rattle.std.proofs.Common.{refl, sym, ap, ◌∙◌}
use Rattle.sq_term_nums.specs.Words.{env_of, value}
use Rattle.sq_sums.specs.Parts.{through}
use Rattle.sq_sums.specs.Scales.{arm_index}
use Rattle.sq_sums.specs.Routes.{position_of, next_position, env_on_way, arrivals, mark}
use Rattle.sq_sums.proofs.RouteForms.{route_arm}
use Rattle.sq_sums.proofs.Turning.{next_turn, last_turn, this_arm, no_arm, case_is}
use Rattle.sq_sums.proofs.marks.+going.Goals as goal

pub go_each-loop-i-preserved : goal.go_each-loop-i-preserved
go_each-loop-i-preserved t c =
    next_turn mark (λ i. arrivals c.args.at.now.fan c.args.inside.now (next_position (position_of c.args.at.now) i))
    c.args.n c.loop-i.i _ c.loop-i.marks.items _ _ c.loop-i-test.true refl c.go.ensures c.loop-i.invariant

pub go_each-returns : goal.go_each-returns
go_each-returns t c =
    last_turn mark (λ i. arrivals c.args.at.now.fan c.args.inside.now (next_position (position_of c.args.at.now) i))
    c.args.n c.loop-i.i c.loop-i.marks.items _ c.loop-i-test.false c.loop-i.invariant

pub go-returns-in-Arm : goal.go-returns-in-Arm
go-returns-in-Arm t c =
    let at = position_of c.args.at.now in
    let fan = c.args.at.now.fan in
    case_is mark (arrivals fan) (value c.in-Arm.pick (env_on_way fan at)) (arrivals fan c.args.route.now at)
    c.in-Arm.arms c.as_slice-in-Arm.result.now c.arm_for-i.result c.len.result at _ _
    (ap (λ z. arrivals fan z at) c.in-Arm.is ∙ ap (λ f. f at) (route_arm fan c.in-Arm.pick c.in-Arm.arms))
    c.as_slice-in-Arm.ensures c.len.ensures
    (c.arm_for-i.ensures ∙ ap (λ k. arm_index (value k (env_of c.env-in-Arm.result)) c.len.result)
    c.number-in-Arm.ensures ∙ ap (λ e. arm_index (value c.in-Arm.pick e) c.len.result) c.env-in-Arm.ensures)
    c.go_arm.ensures

pub go_arm-returns-then-i-arms : goal.go_arm-returns-then-i-arms
go_arm-returns-then-i-arms t c =
    c.go.ensures ∙ ap (λ z. through mark z c.args.marks.now.items)
    (ap (λ z. arrivals c.args.at.now.fan z (position_of c.args.at.now)) c.index-arms-i.is
    ∙ this_arm (arrivals c.args.at.now.fan) c.args.arms.now c.args.i (position_of c.args.at.now) c.index-arms-i.result
    c.if-i-arms.true)

pub go_arm-returns-else-i-arms : goal.go_arm-returns-else-i-arms
go_arm-returns-else-i-arms t c =
    ap (λ z. through mark z c.args.marks.now.items)
    (sym (no_arm (arrivals c.args.at.now.fan) c.args.arms.now c.args.i (position_of c.args.at.now)
    c.if-i-arms.false))
