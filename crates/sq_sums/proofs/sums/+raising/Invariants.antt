use Rattle.std.proofs.Common.{◌+◌, ◌*◌, length}
use Rattle.sq_sums.specs.Sums.{AreTables, Raises, sites_worth_upto, depth, sites_depth}
use Rattle.sq_sums.proofs.sums.+raising.Given as goal

abbrev pub invariant-raise_sites-loop-j : goal.invariant-raise_sites-loop-j
invariant-raise_sites-loop-j l = record {
  tables : AreTables l.route (length l.sites) l.tables.items;
  sums : Raises (λ m. sites_worth_upto l.on m l.route l.sites l.at l.j) l.fn.sums l.sums;
}

abbrev pub decreases-raise_site : goal.decreases-raise_site
decreases-raise_site l = 4 * depth l.site.now.body + 3

abbrev pub decreases-raise_body : goal.decreases-raise_body
decreases-raise_body l = 4 * depth l.body.now + 2

abbrev pub decreases-raise_routed : goal.decreases-raise_routed
decreases-raise_routed l = 4 * depth l.body.now + 1

abbrev pub decreases-raise_sites : goal.decreases-raise_sites
decreases-raise_sites l = 4 * sites_depth l.sites.now
