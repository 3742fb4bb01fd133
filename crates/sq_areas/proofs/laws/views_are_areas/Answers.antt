use Rattle.sq_areas.proofs.Coordinates.{views_are_areas}
use Rattle.sq_areas.proofs.laws.views_are_areas.Goals as goal

pub returns : goal.returns
returns c = views_are_areas
