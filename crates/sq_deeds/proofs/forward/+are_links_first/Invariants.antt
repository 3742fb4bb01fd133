use Rattle.std.proofs.Common.{length}
use Rattle.sq_deeds.proofs.forward.+are_links_first.Given as goal

abbrev pub decreases-are_links_first : goal.decreases-are_links_first
decreases-are_links_first l = length l.links.now
