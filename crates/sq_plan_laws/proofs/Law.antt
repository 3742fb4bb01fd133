-- The laws of leaves and tables.
use Rattle.sq_plan_laws.specs.Law.{LeavesStayInside, LeavesAreCoded}
use Rattle.sq_plan_laws.proofs.Inside.{is_inside}
use Rattle.sq_plan_laws.proofs.Leaves.{leaf_coded}

pub leaves_stay_inside : LeavesStayInside
leaves_stay_inside leaf compiled lines shapes small = is_inside leaf compiled lines shapes small

pub leaves_are_coded : LeavesAreCoded
leaves_are_coded leaves number leaf shapes is law = leaf_coded leaves number leaf shapes is law
