use Rattle.sq_rise_laws.proofs.Rising.{maps_rise}
use Rattle.sq_rise_laws.proofs.laws.maps_of_texts_rise.Goals as goal

pub returns : goal.returns
returns c = maps_rise
