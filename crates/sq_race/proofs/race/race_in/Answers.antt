use Rattle.std.proofs.Common.{rules, ◌≡◌, Option, subst}
use Rattle.std.specs.Option.{option_copied}
use Rattle.sq_forms.specs.Tables.{at_index}
use Rattle.sq_race.specs.Race.{IsFirstOf}
use Rattle.sq_race.specs.declared.forms.Found.{Found}
use Rattle.sq_race.proofs.Told.{none_here, first_here, its_maps, its_variant, within}
use Rattle.sq_race.proofs.race.race_in.Goals as goal

pub returns-in-None : goal.returns-in-None
returns-in-None c =
    none_here c.args.r.now c.args.number c.form_at-form.result.now c.uses-uses.result.now c.maps_at-maps.result.now c.form_at-form.ensures c.uses-uses.ensures (its_maps c.args.r.now c.form_at-form.result.now c.number_in-chosen.result c.args.all.now c.maps_at-maps.result.now c.requires.maps c.number_in-chosen.ensures c.maps_at-maps.ensures) (subst (λ (o : Option Found). IsFirstOf c.maps_at-maps.result.now c.uses-uses.result.now o) c.in-None.is c.in_ok-first_of.ensures)

pub told_of-requires-clause-map : goal.told_of-requires-clause-map
told_of-requires-clause-map c =
    (within c.maps_at-maps.result.now c.uses-uses.result.now c.in-Some.found (subst (λ (o : Option Found). IsFirstOf c.maps_at-maps.result.now c.uses-uses.result.now o) c.in-Some.is c.in_ok-first_of.ensures)).0

pub told_of-requires-clause-earlier : goal.told_of-requires-clause-earlier
told_of-requires-clause-earlier c =
    (within c.maps_at-maps.result.now c.uses-uses.result.now c.in-Some.found (subst (λ (o : Option Found). IsFirstOf c.maps_at-maps.result.now c.uses-uses.result.now o) c.in-Some.is c.in_ok-first_of.ensures)).1

pub told_of-requires-clause-later : goal.told_of-requires-clause-later
told_of-requires-clause-later c =
    (within c.maps_at-maps.result.now c.uses-uses.result.now c.in-Some.found (subst (λ (o : Option Found). IsFirstOf c.maps_at-maps.result.now c.uses-uses.result.now o) c.in-Some.is c.in_ok-first_of.ensures)).2

pub returns-in_ok-race-in-Some : goal.returns-in_ok-race-in-Some
returns-in_ok-race-in-Some c =
    let there : option_copied c.variant_at-variant.result ≡ at_index c.args.r.now.typed.now.tasks c.number_in-chosen.result = search rules in
    first_here c.args.r.now c.args.number c.form_at-form.result.now c.uses-uses.result.now c.maps_at-maps.result.now (option_copied c.variant_at-variant.result) c.in-Some.found c.in_ok-race-in-Some.race c.form_at-form.ensures c.uses-uses.ensures (its_maps c.args.r.now c.form_at-form.result.now c.number_in-chosen.result c.args.all.now c.maps_at-maps.result.now c.requires.maps c.number_in-chosen.ensures c.maps_at-maps.ensures) (its_variant c.args.r.now c.form_at-form.result.now c.number_in-chosen.result (option_copied c.variant_at-variant.result) c.number_in-chosen.ensures there) (subst (λ (o : Option Found). IsFirstOf c.maps_at-maps.result.now c.uses-uses.result.now o) c.in-Some.is c.in_ok-first_of.ensures) c.in_ok-race-in-Some.ensures
