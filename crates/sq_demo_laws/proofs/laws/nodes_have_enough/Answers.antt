use Rattle.sq_demo_laws.proofs.Enough.{nodes_have_enough}
use Rattle.sq_demo_laws.proofs.MappingRead.{is_sound_mapping}
use Rattle.sq_demo_laws.proofs.laws.nodes_have_enough.Goals as goal

pub returns : goal.returns
returns c = λ within. nodes_have_enough c.needs_are_sound.ensures.levels within is_sound_mapping
