use Rattle.std.proofs.Common.{rules, refl, sym, subst, ◌∙◌, arith}
use Rattle.sq_sums.specs.Sums.{worth_all, body_worth, Raises}
use Rattle.sq_sums.specs.Grounds.{weight_on}
use Rattle.sq_sums.proofs.Raising.{walked_raise, own_site, marked_site}
use Rattle.sq_sums.proofs.Gathering.{routed_falls, routed_raises, sites_next, sites_all, site_falls}
use Rattle.sq_sums.proofs.sums.+raising.Goals as goal

pub raise_body-returns-else-region_of : goal.raise_body-returns-else-region_of
raise_body-returns-else-region_of t c =
    subst (Raises (λ m. worth_all (body_worth c.args.on.now m c.args.body.now c.args.top) c.args.at.now)
    c.args.sums.now) (sym c.walk_at.ensures)
    (walked_raise c.args.on.now c.args.body.now c.args.top c.args.at.now c.args.sums.now)

pub raise_routed-raise_sites-requires : goal.raise_routed-raise_sites-requires
raise_routed-raise_sites-requires t c =
    let d = c.decreases in
    let f = routed_falls (weight_on c.args.on.now) c.args.body.now c.args.top _ _ _ _ c.in_ok-route.ensures
    (search rules) c.as_slice.ensures in
    (omega (arith, d, f), tt)

pub raise_routed-returns : goal.raise_routed-returns
raise_routed-returns t c =
    routed_raises c.args.on.now c.args.body.now c.args.top c.args.at.now c.args.sums.now c.raise_sites.new.sums _ _ _ _
    c.raise_sites.result c.in_ok-route.ensures (search rules) c.as_slice.ensures c.requires c.raise_sites.ensures

pub raise_site-returns-in_ok-raise_body : goal.raise_site-returns-in_ok-raise_body
raise_site-returns-in_ok-raise_body t c =
    own_site c.args.on.now c.args.site.now c.args.at.now c.args.sums.now c.raise_all.new.sums c.raise_body.new.sums
    (search rules) (search rules) (search rules)

pub raise_site-returns-else-is_own : goal.raise_site-returns-else-is_own
raise_site-returns-else-is_own t c =
    marked_site c.args.on.now c.args.site.now c.args.at.now c.args.sums.now c.raise_all.new.sums (search rules)
    (search rules)

pub raise_sites-raise_site-requires : goal.raise_sites-raise_site-requires
raise_sites-raise_site-requires t c =
    let d = c.decreases in
    let f = site_falls c.args.sites.now c.loop-j.j c.index-sites-j.result _ c.loop-j-test.true c.index-sites-j.is in
    (omega (arith, d, f), tt)

pub raise_sites-loop-j-preserved : goal.raise_sites-loop-j-preserved
raise_sites-loop-j-preserved t c =
    record {
      tables = c.in_ok-nodes.ensures.tables;
      sums = sites_next c.args.on.now c.args.route.now c.args.sites.now c.args.at.now c.as_slice.result.now c.loop-j.j _
          c.index-sites-j.result _ c.args.sums.now c.loop-j.sums _ c.loop-j-test.true refl c.index-sites-j.is
          (c.as_slice.ensures ∙ c.in_ok-nodes.ensures.nodes) c.loop-j.invariant.sums (search rules);
    }

pub raise_sites-returns : goal.raise_sites-returns
raise_sites-returns t c =
    sites_all c.args.on.now c.args.route.now c.args.sites.now c.args.at.now c.loop-j.j c.args.sums.now c.loop-j.sums
    c.loop-j-test.false c.loop-j.invariant.sums
