use Rattle.sq_machfile.proofs.Families.{count, has_parent, no_parent, one_parent}
use Rattle.sq_machfile.proofs.Hierarchies.{root}
use Rattle.sq_machfile.proofs.laws.each_node_has_one_parent.Goals as goal

pub returns : goal.returns
returns c = record {
  root = root;
  free = λ m p w. no_parent m.nodes w.arranged p;
  parent = λ m c w. has_parent m.nodes w.arranged c;
  only = λ m p q c w. one_parent m.nodes w.arranged p q c;
  count = λ m w. count m.nodes w.arranged;
}
