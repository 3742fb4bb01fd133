use Rattle.std.proofs.Common.{◌+◌, ◌-◌, ◌/◌, ◌∙◌, arith, subst, Option}
use Rattle.sq_race.specs.Race as spec
use Rattle.sq_race.specs.declared.forms.Found.{Found}
use Rattle.sq_race.proofs.Firsts.{joined_none, joined_some, among_same}
use Rattle.sq_race.proofs.Selected.{all_of_half}
use Rattle.sq_race.proofs.forms.+first_among.Goals as goal

pub returns-then-to-from-eq1 : goal.returns-then-to-from-eq1
returns-then-to-from-eq1 t c = among_same c.args.maps.now c.args.uses.now c.args.from (c.args.from + 1) c.args.to c.first_of_one.result (omega arith) c.first_of_one.ensures

pub first_among-requires : goal.first_among-requires
first_among-requires t c = (
  omega arith,
  (omega arith, (omega (arith, c.requires.within), all_of_half c.args.maps.now c.args.uses.now c.args.from c.args.to c.args.from (c.args.from + (c.args.to - c.args.from) / 2) c.args.numbers.now c.deref.result.now c.calls_of.result c.requires.all (omega arith) (omega arith) c.calls_of.ensures (c.deref.ensures.value ∙ c.in_ok-low.ensures))),
)

pub returns-in-Some : goal.returns-in-Some
returns-in-Some t c =
    joined_some c.args.maps.now c.args.uses.now c.args.from (c.args.from + (c.args.to - c.args.from) / 2) c.args.to c.in-Some.found (omega arith)
    (subst (λ (o : Option Found). spec.IsFirstAmong c.args.maps.now c.args.uses.now c.args.from (c.args.from + (c.args.to - c.args.from) / 2) o) c.in-Some.is c.in_ok-found.ensures)

pub first_among-requires-in-None : goal.first_among-requires-in-None
first_among-requires-in-None t c = (
  omega arith,
  (omega arith, (c.requires.within, all_of_half c.args.maps.now c.args.uses.now c.args.from c.args.to (c.args.from + (c.args.to - c.args.from) / 2) c.args.to c.args.numbers.now c.deref-in-None.result.now c.calls_of-in-None.result c.requires.all (omega arith) (omega arith) c.calls_of-in-None.ensures (c.deref-in-None.ensures.value ∙ c.in_ok-high-in-None.ensures))),
)

pub returns : goal.returns
returns t c =
    joined_none c.args.maps.now c.args.uses.now c.args.from (c.args.from + (c.args.to - c.args.from) / 2) c.args.to c.in_ok-found-in-None.found (omega arith)
    (subst (λ (o : Option Found). spec.IsFirstAmong c.args.maps.now c.args.uses.now c.args.from (c.args.from + (c.args.to - c.args.from) / 2) o) c.in-None.is c.in_ok-found.ensures) c.in_ok-found-in-None.ensures
