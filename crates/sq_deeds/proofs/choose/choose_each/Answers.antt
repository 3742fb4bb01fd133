use Rattle.std.proofs.Common.{rules, ◌≡◌, ◌∙◌, ◌+◌, ◌<◌, ◌≤◌, length, ℤ, arith, w64, to_z, of_z, FitsSigned}
use Rattle.std.proofs.lemmas.List.{length-set}
use Rattle.std.proofs.lemmas.Int.{to_z-of_z}
use Rattle.sq_deeds.specs.Deeds.{number_at}
use Rattle.sq_deeds.specs.Loops.{chosen}
use Rattle.sq_deeds.proofs.Choosing.{own_first, next_stays, next_chosen, chosen_same}
use Rattle.sq_deeds.proofs.choose.choose_each.Goals as goal

pub loop-j-preserved : goal.loop-j-preserved
loop-j-preserved c =
    let below : c.loop-j.j < c.args.turns = search rules in
    let few : c.loop-j.j < 256 = omega (arith, below, c.requires.few) in
    let at : c.loop-j.j ≤ c.loop-j.j = omega arith in
    let fits : FitsSigned w64 c.chosen_at.result = search rules in
    let v : ℤ = to_z w64 (of_z w64 c.chosen_at.result) in
    let old = c.args.columns.now in
    let size : length c.loop-j.columns ≡ length old = c.loop-j.invariant.size in
    let inside : c.args.test.from + c.loop-j.j < length c.loop-j.columns = omega (arith, few, size, c.requires.may.test) in
    let number : v ≡ chosen (number_at old c.args.test c.loop-j.j) (number_at old c.args.x c.loop-j.j) (number_at old c.args.y c.loop-j.j) =
    to_z-of_z w64 c.chosen_at.result fits ∙ (c.chosen_at.ensures
    ∙ chosen_same _ _ _ _ _ _ (c.loop-j.invariant.test c.loop-j.j at few) (c.loop-j.invariant.left c.loop-j.j at few) (c.loop-j.invariant.right c.loop-j.j at few)) in
    record {
      size = length-set c.loop-j.columns (c.args.test.from + c.loop-j.j) v ∙ size;
      done = next_chosen c.args.test.from c.loop-j.j (λ i. chosen (number_at old c.args.test i) (number_at old c.args.x i) (number_at old c.args.y i)) c.loop-j.columns v inside number c.loop-j.invariant.done;
      test = next_stays c.args.test.from c.args.test old c.loop-j.columns v c.loop-j.j (own_first c.args.test) c.loop-j.invariant.test;
      left = next_stays c.args.test.from c.args.x old c.loop-j.columns v c.loop-j.j c.requires.may.left_first c.loop-j.invariant.left;
      right = next_stays c.args.test.from c.args.y old c.loop-j.columns v c.loop-j.j c.requires.may.right_first c.loop-j.invariant.right;
    }
