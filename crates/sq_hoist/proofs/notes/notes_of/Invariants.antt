use Rattle.std.proofs.Common.{◌≡◌, ◌++◌, drop}
use Rattle.sq_hoist.specs.Notes.{all_notes}
use Rattle.sq_hoist.proofs.notes.notes_of.Given as goal

abbrev pub invariant-loop-site : goal.invariant-loop-site
invariant-loop-site l = l.out ++ all_notes l.r (drop l.site-index l.sites) ≡ all_notes l.r l.sites
