use Rattle.std.proofs.Common.{rules, ◌∙◌, ◌<◌, ◌+ℤ◌, ◌*ℤ◌, arith, length, pos, w64, FitsSigned, to_z, of_z, refl}
use Rattle.std.proofs.lemmas.List.{length-set}
use Rattle.std.proofs.lemmas.Int.{to_z-of_z}
use Rattle.sq_leaf.specs.Numbers.{wrapped}
use Rattle.sq_columns.proofs.Carried.{put_done}
use Rattle.sq_columns.proofs.Wrapping.{begun, climbed}
use Rattle.sq_columns.proofs.line.climb.Goals as goal

pub loop-j-init : goal.loop-j-init
loop-j-init c =
    let fits : FitsSigned w64 (to_z w64 (of_z w64 c.args.first)) = search rules in
    record {
      size = refl;
      next = begun (to_z w64 (of_z w64 c.args.first)) (to_z w64 (of_z w64 c.args.step)) fits;
      done = λ k below. absurd (omega arith);
    }

pub loop-j-preserved : goal.loop-j-preserved
loop-j-preserved c =
    let a = to_z w64 (of_z w64 c.args.first) in
    let d = to_z w64 (of_z w64 c.args.step) in
    let fits : FitsSigned w64 c.binary-x.result = search rules in
    let inside : c.loop-j.j < length c.loop-j.column = omega (arith, c.loop-j.invariant.size, c.requires, c.loop-j-test.true) in
    record {
      size = length-set c.loop-j.column c.loop-j.j _ ∙ c.loop-j.invariant.size;
      next = climbed a d c.loop-j.j _ _ c.loop-j.invariant.next (to_z-of_z w64 c.binary-x.result fits ∙ c.binary-x.ensures);
      done = put_done (λ k. wrapped (a +ℤ d *ℤ pos k)) c.loop-j.column c.loop-j.j _ inside c.loop-j.invariant.next c.loop-j.invariant.done;
    }
