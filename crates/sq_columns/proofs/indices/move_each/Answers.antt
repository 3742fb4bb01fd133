use Rattle.std.proofs.Common.{rules, ◌≡◌, ◌<◌, ◌≤◌, ◌∙◌, arith, length, w64, FitsSigned, to_z, of_z}
use Rattle.std.proofs.lemmas.List.{length-set}
use Rattle.std.proofs.lemmas.Int.{to_z-of_z}
use Rattle.sq_columns.specs.Lines.{line_at, moved}
use Rattle.sq_columns.proofs.Carried.{same_turn, put_done, put_left}
use Rattle.sq_columns.proofs.indices.move_each.Goals as goal

pub loop-j-preserved : goal.loop-j-preserved
loop-j-preserved c =
    let by = to_z w64 (of_z w64 c.args.by) in
    let fits : FitsSigned w64 c.further.result = search rules in
    let fx : FitsSigned w64 c.at.result = search rules in
    let fi : FitsSigned w64 c.at-in-loop-j.result = search rules in
    let here : c.loop-j.j ≤ c.loop-j.j = omega arith in
    let inside : c.loop-j.j < length c.loop-j.column = omega (arith, c.loop-j.invariant.size, c.requires.left, c.loop-j-test.true) in
    let x = to_z-of_z w64 c.at.result fx ∙ c.at.ensures ∙ same_turn c.args.spots c.loop-j.column c.args.column.now c.loop-j.j (c.loop-j.invariant.left c.loop-j.j here) in
    let i = to_z-of_z w64 c.at-in-loop-j.result fi ∙ c.at-in-loop-j.ensures in
    let is : to_z w64 (of_z w64 c.further.result) ≡ moved by (line_at c.args.spots c.args.column.now c.loop-j.j) (line_at c.args.index c.args.indices.now c.loop-j.j) =
    to_z-of_z w64 c.further.result fits ∙ c.further.ensures ∙ (λ t. moved by (x t) (i t)) in
    record {
      size = length-set c.loop-j.column c.loop-j.j _ ∙ c.loop-j.invariant.size;
      done = put_done (λ k. moved by (line_at c.args.spots c.args.column.now k) (line_at c.args.index c.args.indices.now k)) c.loop-j.column c.loop-j.j _ inside is c.loop-j.invariant.done;
      left = put_left c.loop-j.column c.args.column.now c.loop-j.j _ c.loop-j.invariant.left;
    }
