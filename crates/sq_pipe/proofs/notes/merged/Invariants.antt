use Rattle.std.proofs.Common.{◌≡◌, ◌++◌, drop}
use Rattle.sq_pipe.specs.Notes as spec
use Rattle.sq_pipe.proofs.notes.merged.Given as goal

abbrev pub invariant-loop-site : goal.invariant-loop-site
invariant-loop-site l = record {
  same : l.out ++ spec.merged l.r l.taken (drop l.site-index l.sites) l.rest
      ≡ spec.merged l.fn.r l.fn.taken l.fn.sites l.fn.candidates;
}
