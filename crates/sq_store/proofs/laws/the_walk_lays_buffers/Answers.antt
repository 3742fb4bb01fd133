use Rattle.std.proofs.Common.{length, replicate, ◌∙◌}
use Rattle.std.proofs.lemmas.List.{length-replicate}
use Rattle.sq_nests.specs.Nests.{named_in}
use Rattle.sq_nests.specs.Drafts.{whole}
use Rattle.sq_store.proofs.Walks.{all_laid, offsets_are, from_long}
use Rattle.sq_store.proofs.laws.the_walk_lays_buffers.Goals as goal

pub returns-clause-lays : goal.returns-clause-lays
returns-clause-lays c = all_laid

pub returns-clause-offsets : goal.returns-clause-offsets
returns-clause-offsets c = offsets_are

pub returns-clause-many : goal.returns-clause-many
returns-clause-many c = λ d. from_long d.buffers (named_in (whole d)) 8 0 (replicate (length d.buffers) 0)
    ∙ length-replicate (length d.buffers) 0
