use Rattle.std.proofs.Common.{◌≡◌, ◌<◌, ◌∙◌, ℕ, drop, get_or, pos, refl, ap, arith}
use Rattle.std.proofs.lemmas.List.{get_or-drop}
use Rattle.sq_leaf.specs.Source.{assigned}
use Rattle.sq_deeds.specs.declared.deeds.Numbers.{Numbers}
use Rattle.sq_deeds.specs.Puts.{puts}
use Rattle.sq_deeds.specs.Deeds.{number_at, byte_at}
use Rattle.sq_deeds.specs.Loops.{chosen}
use Rattle.sq_deeds.proofs.Performing.{chosen_turns}
use Rattle.sq_deeds.proofs.perform.either.Goals as goal

pub returns-then-may_choose : goal.returns-then-may_choose
returns-then-may_choose c =
    let old = c.args.columns.now in
    let new = c.choose.new.columns in
    let same = c.if-may_choose.ensures in
    let each : (j : ℕ) → j < c.args.turns → get_or (drop c.args.test.from new) j (pos 0) ≡ chosen (number_at old c.args.test j) (number_at old c.in-Known.x j) (number_at old c.in-Known-value.y j) =
    λ j below. get_or-drop c.args.test.from new j (pos 0) ∙ c.choose.ensures.each j below in
    c.put_known.ensures
    ∙ (ap (λ (y : Numbers). puts c.args.first.now.elem (assigned c.args.first.now.op) (byte_at c.args.first.now.to) (number_at new y) c.args.turns 0 c.args.bytes.now) c.column.ensures
    ∙ chosen_turns old c.args.test c.args.first.now c.args.second.now c.in-Known.x c.in-Known-value.y c.in-Known.is c.in-Known-value.is (same.elem refl) (same.op refl) (same.at refl) (same.step refl)
    (λ j. get_or (drop c.args.test.from new) j (pos 0)) c.args.turns each c.args.turns 0 c.args.bytes.now (omega arith))
