use Rattle.std.proofs.Common.{rules, ◌≡◌, ◌∙◌, ◌-◌, ◌∷◌, length, take, drop, refl}
use Rattle.sq_deeds.proofs.Reaching.{alone_first, front_rest}
use Rattle.sq_deeds.proofs.perform.+perform.Goals as goal

pub returns-then-is_alone : goal.returns-then-is_alone
returns-then-is_alone t c =
    let whole : c.first-item.result ∷ take (length c.args.deeds.now - 1) (drop 1 c.args.deeds.now) ≡ c.args.deeds.now =
    front_rest c.first-item.result c.args.deeds.now (search rules) c.first-item.is in
    c.perform.ensures
    ∙ alone_first c.args.columns.now c.first-item.result _ c.args.deeds.now c.args.turns (length c.args.columns.now) c.args.bytes.now c.perform_before.new.bytes whole c.requires.fits (c.if-is_alone.ensures refl)
    c.perform_before.ensures
