use Rattle.std.proofs.Common.{◌≡◌, ◌∙◌, ◌<◌, ℕ, length, pos, refl, subst, ap}
use Rattle.std.proofs.lemmas.List.{get_or-drop}
use Rattle.sq_num.specs.Elements.{cut}
use Rattle.sq_columns.specs.declared.line.Line.TheVariants.{Column}
use Rattle.sq_leaf.specs.Source.{assigned}
use Rattle.sq_deeds.specs.declared.deeds.Numbers.{Numbers}
use Rattle.sq_deeds.specs.declared.deeds.Value.{Value}
use Rattle.sq_deeds.specs.Puts.{puts}
use Rattle.sq_deeds.specs.Deeds.{HasColumn, ValueFits, number_at, byte_at, along_links}
use Rattle.sq_deeds.specs.Reaches.{AreTargetsApart}
use Rattle.sq_deeds.proofs.Performing.{known_turns}
use Rattle.sq_deeds.proofs.Forwarding.{forward_turns}
use Rattle.sq_deeds.proofs.perform.two.Goals as goal

pub returns-then-are_targets_apart : goal.returns-then-are_targets_apart
returns-then-are_targets_apart c =
    let old = c.args.columns.now in
    let new = c.forward.new.columns in
    let x = c.in-Known.x in
    let r = c.in-Carried-value.carried in
    let same = c.if-is_forward.ensures in
    let apart : AreTargetsApart c.args.turns c.args.first.now c.args.second.now = c.if-are_targets_apart.ensures refl in
    let column : HasColumn (length old) x = subst (λ (v : Value). ValueFits c.args.turns (length old) (length c.args.bytes.now) v) c.in-Known.is c.requires.first.value in
    let number : (j : ℕ) → j < c.args.turns → number_at new (record { line = Column; from = x.from }) j ≡ along_links old r.links.items j (cut c.args.first.now.elem (number_at old x j)) =
    λ j below. get_or-drop x.from new j (pos 0) ∙ c.forward.ensures.each j below in
    c.put_known-then-are_targets_apart.ensures
    ∙ (ap (λ (y : Numbers). puts c.args.second.now.elem (assigned c.args.second.now.op) (byte_at c.args.second.now.to) (number_at new y) c.args.turns 0 c.put_known.new.bytes) c.column.ensures
    ∙ forward_turns old new c.args.first.now c.args.second.now x r c.in-Known.is c.in-Carried-value.is (same.op refl) (same.elem refl) (same.at refl) (same.step refl) c.args.turns c.args.bytes.now c.put_known.new.bytes
    apart.low apart.high apart.from apart.to column c.requires.first c.requires.second apart.first apart.second apart.apart number
    (c.put_known.ensures ∙ known_turns old c.args.first.now x c.in-Known.is c.args.turns 0 c.args.bytes.now))
