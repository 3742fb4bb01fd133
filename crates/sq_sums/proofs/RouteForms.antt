-- The equations of where ways lead, one for each kind of way.
use Rattle.std.proofs.Common.{◌≡◌, ℕ, List, map, Option, ap, sym, ◌∙◌}
use Rattle.sq_ir.specs.declared.num.Num.{Num}
use Rattle.sq_sums.specs.declared.route.Route.{Route}
use Rattle.sq_sums.specs.declared.route.Route.TheVariants as r
use Rattle.sq_sums.specs.declared.route.Route.TheOpen.{Route-F}
use Rattle.sq_sums.specs.declared.route.Route.TheFolds.{fold-roll-Route}
use Rattle.sq_sums.specs.Routes.{ArrivalsAt, arrivals_step, arrivals}

pub route_nothing : (f : ℕ) → arrivals f r.Nothing ≡ arrivals_step f Route-F.Nothing
route_nothing f = ap (arrivals f) (sym r.rolls-Nothing) ∙ fold-roll-Route ArrivalsAt (arrivals_step f) Route-F.Nothing

pub route_parts : (f : ℕ) (xs : List Route) → arrivals f (r.Parts xs)
    ≡ arrivals_step f (Route-F.Parts (map (arrivals f) xs))
route_parts f xs = ap (arrivals f) (sym (r.rolls-Parts xs))
    ∙ fold-roll-Route ArrivalsAt (arrivals_step f) (Route-F.Parts xs)

pub route_each : (f : ℕ) (c : Num) (x : Route) → arrivals f (r.Each c x)
    ≡ arrivals_step f (Route-F.Each c (arrivals f x))
route_each f c x = ap (arrivals f) (sym (r.rolls-Each c x))
    ∙ fold-roll-Route ArrivalsAt (arrivals_step f) (Route-F.Each c x)

pub route_arm : (f : ℕ) (k : Num) (xs : List Route) → arrivals f (r.Arm k xs)
    ≡ arrivals_step f (Route-F.Arm k (map (arrivals f) xs))
route_arm f k xs = ap (arrivals f) (sym (r.rolls-Arm k xs))
    ∙ fold-roll-Route ArrivalsAt (arrivals_step f) (Route-F.Arm k xs)

pub route_scope : (f : ℕ) (c : Option Num) (j : ℕ) → arrivals f (r.Scope c j) ≡ arrivals_step f (Route-F.Scope c j)
route_scope f c j = ap (arrivals f) (sym (r.rolls-Scope c j))
    ∙ fold-roll-Route ArrivalsAt (arrivals_step f) (Route-F.Scope c j)

pub route_inside : (f : ℕ) (c : Num) (x : Route) → arrivals f (r.Inside c x)
    ≡ arrivals_step f (Route-F.Inside c (arrivals f x))
route_inside f c x = ap (arrivals f) (sym (r.rolls-Inside c x))
    ∙ fold-roll-Route ArrivalsAt (arrivals_step f) (Route-F.Inside c x)

pub ruleset route_forms = (route_nothing, route_parts, route_each, route_arm, route_scope, route_inside)
