use Rattle.sq_form_laws.proofs.Shapes.{shape_is_exact}
use Rattle.sq_form_laws.proofs.laws.shape_is_exact.Goals as goal

pub returns : goal.returns
returns c = shape_is_exact
