use Rattle.sq_sums.specs.Grounds.{weight_by}
use Rattle.sq_sums.proofs.Layouts.{case_adds, within_adds}
use Rattle.sq_sums.proofs.route.+building.Goals as goal

pub route_of-returns-in_ok-arms-in-Case : goal.route_of-returns-in_ok-arms-in-Case
route_of-returns-in_ok-arms-in-Case t c =
    case_adds (weight_by c.args.scale.now) c.args.t.now c.in-Case.pick c.in-Case.arms c.as_slice-in-Case.result.now
    c.args.held c.args.sites.now c.routes_of-in-Case.new.sites c.in_ok-arms-in-Case.arms c.in-Case.is
    c.as_slice-in-Case.ensures c.in_ok-arms-in-Case.ensures

pub route_of-returns-in-Within : goal.route_of-returns-in-Within
route_of-returns-in-Within t c =
    within_adds (weight_by c.args.scale.now) c.args.t.now c.in-Within.body c.get-in-Within.result.now c.in-Within.child
    c.in-Within.buffers c.as_slice-in-Within.result.now c.args.held c.top_of-top.result c.weight_of.result
    c.args.sites.now c.scope_of.new.sites c.scope_of.result
    c.in-Within.is c.get-in-Within.ensures c.as_slice-in-Within.ensures c.weight_of.ensures c.top_of-top.ensures
    c.scope_of.ensures
