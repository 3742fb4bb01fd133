use Rattle.std.proofs.Common.{rules, ◌≡◌, ◌∙◌, None, [], ◌∷◌, sym}
use Rattle.sq_deeds.specs.declared.deeds.Deed.TheVariants.{Choice}
use Rattle.sq_deeds.specs.Deeds.{turns_done}
use Rattle.sq_deeds.proofs.Performing.{nothing_turns}
use Rattle.sq_deeds.proofs.perform.choice_before.Goals as goal

pub returns-in-None-other-2 : goal.returns-in-None-other-2
returns-in-None-other-2 c =
    let taken : c.args.taken.now ≡ None = search rules in
    let other : c.args.other.now ≡ None = search rules in
    nothing_turns c.args.columns.now c.args.test c.args.turns 0 c.args.bytes.now
    ∙ (λ i. turns_done c.args.columns.now (Choice c.args.test (sym taken i) (sym other i) ∷ []) c.args.turns 0 c.args.bytes.now)
