use Rattle.sq_demo_laws.proofs.FreeOfRaces.{forms_are_free}
use Rattle.sq_demo_laws.proofs.laws.the_forms_are_free_of_races.Goals as goal

pub returns : goal.returns
returns c = forms_are_free
