use Rattle.sq_spec_laws.proofs.TypedHold.{arguments_have_types, writes_are_permitted}
use Rattle.sq_spec_laws.proofs.laws.arguments_are_typed.Goals as goal

pub returns : goal.returns
returns c = record { types = arguments_have_types; writes = writes_are_permitted }
