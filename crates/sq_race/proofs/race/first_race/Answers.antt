use Rattle.std.proofs.Common.{Option, subst, arith, ap, length}
use Rattle.sq_race.specs.Race.{IsFirstOfForm}
use Rattle.sq_race.specs.declared.race.Race.{Race}
use Rattle.sq_race.proofs.Told.{none_of_forms, none_at_all, first_of_all}
use Rattle.sq_race.proofs.race.first_race.Goals as goal

pub returns-in-Some : goal.returns-in-Some
returns-in-Some c = first_of_all c.args.r.now c.loop-number.number c.in-Some.race c.loop-number.invariant (subst (λ (o : Option Race). IsFirstOfForm c.args.r.now c.loop-number.number o) c.in-Some.is c.in_ok-race.ensures)

pub loop-number-preserved : goal.loop-number-preserved
loop-number-preserved c = none_of_forms c.args.r.now c.loop-number.number c.loop-number.invariant (subst (λ (o : Option Race). IsFirstOfForm c.args.r.now c.loop-number.number o) c.in-None.is c.in_ok-race.ensures)

pub returns : goal.returns
returns c = none_at_all c.args.r.now c.loop-number.number c.loop-number.invariant (omega (arith, c.in_ok-count.ensures, ap length c.forms.ensures))
