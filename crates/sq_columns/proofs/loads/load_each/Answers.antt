use Rattle.std.proofs.Common.{rules, ◌∙◌, ◌≤◌, sym, subst, length, ℤ, w64, FitsSigned, arith}
use Rattle.std.proofs.lemmas.Int.{to_z-of_z}
use Rattle.sq_num.specs.Elements.{width}
use Rattle.sq_columns.specs.Lines.{IsFirst}
use Rattle.sq_columns.proofs.Carried.{same_turn}
use Rattle.sq_columns.proofs.loads.load_each.Goals as goal

pub load_at-requires : goal.load_at-requires
load_at-requires c =
    let fits : FitsSigned w64 c.at.result = search rules in
    let here : c.loop-j.j ≤ c.loop-j.j = omega arith in
    let read = to_z-of_z w64 c.at.result fits ∙ c.at.ensures ∙ same_turn c.args.spots c.loop-j.column c.args.column.now c.loop-j.j (c.loop-j.invariant.left c.loop-j.j here) in
    subst (λ (x : ℤ). IsFirst (width c.args.elem) (length c.args.bytes.now) x) (sym read) (c.requires.inside c.loop-j.j c.loop-j-test.true)
