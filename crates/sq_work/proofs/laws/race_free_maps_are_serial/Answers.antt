use Rattle.sq_work.proofs.Serial.{race_free_is_serial}
use Rattle.sq_work.proofs.laws.race_free_maps_are_serial.Goals as goal

pub returns : goal.returns
returns c = race_free_is_serial
