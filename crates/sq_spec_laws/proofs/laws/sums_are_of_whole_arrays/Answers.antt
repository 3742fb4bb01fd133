use Rattle.sq_spec_laws.proofs.SumsHold.{sums_are_whole, sums_are_alone}
use Rattle.sq_spec_laws.proofs.laws.sums_are_of_whole_arrays.Goals as goal

pub returns : goal.returns
returns c = record { whole = sums_are_whole; alone = sums_are_alone }
