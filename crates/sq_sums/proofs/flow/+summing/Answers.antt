use Rattle.std.proofs.Common.{◌≡◌, ℕ, List, ◌∷◌, refl, sym, ap, ◌∙◌}
use Rattle.sq_term_nums.specs.Words.{turns_of, env_of, value}
use Rattle.sq_nests.specs.Stacks.{capped}
use Rattle.sq_sums.specs.declared.flow.Flow.{Flow}
use Rattle.sq_sums.specs.declared.flow.Flow.TheVariants as f
use Rattle.sq_sums.specs.Scales.{arm_index}
use Rattle.sq_sums.specs.Tolls.{each_sum}
use Rattle.sq_sums.specs.Flows.{env_turns, flow_sum}
use Rattle.sq_sums.proofs.FlowForms.{flow_bytes, flow_arm}
use Rattle.sq_sums.proofs.Running.{word_is, next_item, last_item, next_turn, last_turn, each_same_sum, this_arm}
use Rattle.sq_sums.proofs.Running.{no_arm, case_is}
use Rattle.sq_sums.proofs.flow.+summing.Goals as goal

pub sum_all-loop-part-preserved : goal.sum_all-loop-part-preserved
sum_all-loop-part-preserved t c =
    let x = c.sum.result in (
      c.capped_sum-total.type_inv,
      next_item flow_sum c.args.parts.now
          (turns_of c.args.at.now.turns.now) c.loop-part.part-index _ c.loop-part.total x c.capped_sum-total.result
          c.part-item.result _
          c.loop-part-test.true refl c.part-item.is (word_is x c.sum.type_inv
          ∙ ap capped c.sum.ensures) c.capped_sum-total.ensures c.loop-part.invariant.1,
    )

pub sum_all-returns : goal.sum_all-returns
sum_all-returns t c =
    last_item flow_sum c.args.parts.now (turns_of c.args.at.now.turns.now) c.loop-part.part-index c.loop-part.total
    c.loop-part-test.false c.loop-part.invariant.0 c.loop-part.invariant.1

pub sum_each-loop-i-preserved : goal.sum_each-loop-i-preserved
sum_each-loop-i-preserved t c =
    let x = c.sum.result in (
      c.capped_sum-total.type_inv,
      next_turn (λ j. flow_sum c.args.inside.now (j ∷ turns_of c.args.at.now.turns.now))
          c.args.n c.loop-i.i _ c.loop-i.total x c.capped_sum-total.result
          c.loop-i-test.true refl (word_is x c.sum.type_inv
          ∙ ap capped c.sum.ensures) c.capped_sum-total.ensures c.loop-i.invariant.1,
    )

pub sum_each-returns : goal.sum_each-returns
sum_each-returns t c =
    last_turn (λ j. flow_sum c.args.inside.now (j ∷ turns_of c.args.at.now.turns.now)) c.args.n c.loop-i.i
    c.loop-i.total c.loop-i-test.false c.loop-i.invariant.0 c.loop-i.invariant.1

pub sum_turns-returns-in-Bytes : goal.sum_turns-returns-in-Bytes
sum_turns-returns-in-Bytes t c =
    let ts = turns_of c.args.at.now.turns.now in
    c.product.ensures ∙ ap capped (each_same_sum c.in-Bytes.bytes c.args.n 0
    ∙ λ i. each_sum c.args.n (λ j. same c.in-Bytes.bytes c.args.inside.now (j ∷ ts) c.in-Bytes.is i) 0)
  where
    same : (b : ℕ) (g : Flow) (us : List ℕ) → g ≡ f.Bytes b → b ≡ flow_sum g us
    same b g us e = sym (ap (λ (z : Flow). flow_sum z us) e ∙ ap (λ (z : List ℕ → ℕ). z us) (flow_bytes b))

pub sum-returns-in-Arm : goal.sum-returns-in-Arm
sum-returns-in-Arm t c =
    let ts = turns_of c.args.at.now.turns.now in
    case_is flow_sum (λ n. n) (value c.in-Arm.pick (env_turns c.in-Arm.children ts))
    (flow_sum c.args.flow.now ts) c.in-Arm.arms c.as_slice-in-Arm.result.now c.arm_for-i.result c.len.result ts
    c.sum_arm.result
    (ap (λ z. flow_sum z ts) c.in-Arm.is ∙ ap (λ (z : List ℕ → ℕ). z ts) (flow_arm c.in-Arm.pick c.in-Arm.children c.in-Arm.arms))
    c.as_slice-in-Arm.ensures c.len.ensures
    (c.arm_for-i.ensures ∙ ap (λ k. arm_index (value k (env_of c.env-in-Arm.result)) c.len.result)
    c.number-in-Arm.ensures ∙ ap (λ e. arm_index (value c.in-Arm.pick e) c.len.result) c.env-in-Arm.ensures)
    c.sum_arm.ensures

pub sum_arm-returns-then-i-arms : goal.sum_arm-returns-then-i-arms
sum_arm-returns-then-i-arms t c =
    c.sum.ensures ∙ ap (λ z. flow_sum z (turns_of c.args.at.now.turns.now)) c.index-arms-i.is
    ∙ this_arm flow_sum c.args.arms.now c.args.i
    (turns_of c.args.at.now.turns.now) c.index-arms-i.result c.if-i-arms.true

pub sum_arm-returns-else-i-arms : goal.sum_arm-returns-else-i-arms
sum_arm-returns-else-i-arms t c =
    sym (no_arm flow_sum c.args.arms.now c.args.i (turns_of c.args.at.now.turns.now) c.if-i-arms.false)
