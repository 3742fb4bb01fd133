use Rattle.sq_spec_laws.proofs.FuelHold.{forms_behind_are_enough}
use Rattle.sq_spec_laws.proofs.laws.forms_behind_are_enough.Goals as goal

pub returns : goal.returns
returns c = forms_behind_are_enough
