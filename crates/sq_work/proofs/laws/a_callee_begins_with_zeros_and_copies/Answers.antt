use Rattle.sq_work.proofs.Computed.{out_begins_with_zeros, locals_begin_with_zeros, arguments_are_values}
use Rattle.sq_work.proofs.laws.a_callee_begins_with_zeros_and_copies.Goals as goal

pub returns : goal.returns
returns c = record { out = out_begins_with_zeros; locals = locals_begin_with_zeros; copies = arguments_are_values }
