use Rattle.std.proofs.Common.{drop, nat_eq}
use Rattle.indexmap.specs.IndexMap.{get}
use Rattle.sq_hoist.specs.Choices.{AreLeaves}
use Rattle.sq_hoist.proofs.choices.by_form.Given as goal

abbrev pub invariant-loop-site : goal.invariant-loop-site
invariant-loop-site l = AreLeaves (drop l.site-index l.sites) l.sites (get nat_eq l.leaves.table)
