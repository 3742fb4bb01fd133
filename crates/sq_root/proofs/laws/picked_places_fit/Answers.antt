use Rattle.sq_root.proofs.Picking.{flagged-parts, flagged-fit, others-are-clear}
use Rattle.sq_root.proofs.laws.picked_places_fit.Goals as goal

pub returns-clause-parts : goal.returns-clause-parts
returns-clause-parts c = flagged-parts

pub returns-clause-fit : goal.returns-clause-fit
returns-clause-fit c = flagged-fit

pub returns-clause-others : goal.returns-clause-others
returns-clause-others c = others-are-clear
