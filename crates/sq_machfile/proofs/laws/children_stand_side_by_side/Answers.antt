use Rattle.sq_machfile.proofs.Families.{child, behind, in_order}
use Rattle.sq_machfile.proofs.laws.children_stand_side_by_side.Goals as goal

pub returns : goal.returns
returns c = record {
  child = λ m p k n w. child m.nodes w.arranged p k n;
  behind = λ m p q w. behind m.nodes w.arranged p q;
  in_order = λ m p q c d w. in_order m.nodes w.arranged p q c d;
}
