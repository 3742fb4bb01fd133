use Rattle.std.proofs.Common.{◌≡◌, ◌+◌, ◌*◌, ◌++◌, drop, length, map}
use denote.Param.Weighed.{most}
use Rattle.sq_ir.proofs.term.Term.TheLaws.{the_size}
use Rattle.sq_sums.specs.Grounds.{weight_by}
use Rattle.sq_sums.specs.Routes.{layout, all_routes, all_sites}
use Rattle.sq_sums.proofs.route.+building.Given as goal

abbrev pub invariant-routes_of-loop-t : goal.invariant-routes_of-loop-t
invariant-routes_of-loop-t l = record {
  routes : l.routes ++ all_routes (map (layout (weight_by l.scale)) (drop l.t-index l.ts)) l.held (length l.sites)
      ≡ all_routes (map (layout (weight_by l.scale)) l.ts) l.held (length l.fn.sites);
  sites : l.sites ++ all_sites (map (layout (weight_by l.scale)) (drop l.t-index l.ts)) l.held ≡ l.fn.sites
      ++ all_sites (map (layout (weight_by l.scale)) l.ts) l.held;
}

abbrev pub decreases-route_of : goal.decreases-route_of
decreases-route_of l = 3 * the_size l.t.now

abbrev pub decreases-routes_of : goal.decreases-routes_of
decreases-routes_of l = 3 * most the_size l.ts.now + 1

abbrev pub decreases-turns_of : goal.decreases-turns_of
decreases-turns_of l = 3 * the_size l.body.now + 1

abbrev pub decreases-scope_of : goal.decreases-scope_of
decreases-scope_of l = 3 * the_size l.body.now + 1
