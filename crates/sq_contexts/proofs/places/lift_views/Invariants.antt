use Rattle.std.proofs.Common.{◌≡◌, ◌++◌, map, drop}
use Rattle.sq_term.specs.Terms.{lift_view}
use Rattle.sq_contexts.proofs.places.lift_views.Given as goal

abbrev pub invariant-loop-view : goal.invariant-loop-view
invariant-loop-view l = l.out.items ++ map lift_view (drop l.view-index l.views) ≡ map lift_view l.views
