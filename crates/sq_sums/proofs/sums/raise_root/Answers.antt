use Rattle.sq_sums.specs.Sums.{site_worth}
use Rattle.sq_sums.proofs.Raising.{root_raises}
use Rattle.sq_sums.proofs.sums.raise_root.Goals as goal

pub returns : goal.returns
returns c = root_raises (λ m. site_worth c.args.on.now m c.args.site.now) c.args.sums.now c.raise_site.new.sums
    c.raise_site.result c.raise_site.ensures
