use Rattle.sq_spec.proofs.EntryHolds.{entry_is_first}
use Rattle.sq_spec.proofs.laws.entry_is_first.Goals as goal

pub returns : goal.returns
returns c = entry_is_first
