use Rattle.sq_spec_laws.proofs.NamedHold.{declared_names_stand, variables_stand, standing_names_serve}
use Rattle.sq_spec_laws.proofs.laws.known_names_stand.Goals as goal

pub returns : goal.returns
returns c = record { declared = declared_names_stand; variables = variables_stand; serve = standing_names_serve }
