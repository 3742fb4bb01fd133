use Rattle.std.proofs.Common.{Option, subst}
use Rattle.sq_race.specs.Least as spec
use Rattle.sq_race.specs.declared.pairs.Pair.{Pair}
use Rattle.sq_race.proofs.Leasts.{least_skip, least_new, least_more}
use Rattle.sq_race.proofs.plain.least_with.Goals as goal

pub returns-in-None : goal.returns-in-None
returns-in-None c = least_skip c.args.map.now c.args.uses.now c.args.known c.args.later c.nth-this.result.now c.nth-this.ensures c.requires.known c.in-None.ensures

pub returns-in-None-known : goal.returns-in-None-known
returns-in-None-known c =
    least_new c.args.map.now c.args.uses.now c.in-Some.earlier c.args.later c.nth-this.result.now c.nth-this.ensures (subst (λ (o : Option Pair). spec.IsLeastTo c.args.map.now c.args.uses.now c.args.later o) c.in-None-known.is c.requires.known) c.in-Some.ensures

pub returns-in-Some-known : goal.returns-in-Some-known
returns-in-Some-known c =
    least_more c.args.map.now c.args.uses.now c.in-Some-known.known c.lesser.result c.in-Some.earlier c.args.later c.nth-this.result.now c.nth-this.ensures (subst (λ (o : Option Pair). spec.IsLeastTo c.args.map.now c.args.uses.now c.args.later o) c.in-Some-known.is c.requires.known) c.in-Some.ensures c.lesser.ensures
