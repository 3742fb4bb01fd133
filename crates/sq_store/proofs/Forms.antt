-- The equations of scopes as one ruleset.
use Rattle.std.proofs.Common.{◌≡◌, None}
use Rattle.sq_ir.specs.declared.plan.Draft.{Draft}
use Rattle.sq_nests.specs.Nests.{Open, named_in}
use Rattle.sq_nests.specs.Drafts.{whole}
use Rattle.sq_nests.proofs.Equations.{named_skip, named_act, named_seq, named_par, named_loop, named_spread, named_case}
use Rattle.sq_nests.proofs.Equations.{named_within}

pub ruleset named_forms = (
  named_skip,
  named_act,
  named_seq,
  named_par,
  named_loop,
  named_spread,
  named_case,
  named_within,
)

pub named_whole : (d : Draft) → named_in (whole d) ≡ Open d.entry (named_in d.term)
named_whole d = named_within None d.entry d.term
