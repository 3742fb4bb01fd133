use Rattle.std.proofs.Common.{◌≡◌, nat_eq, drop}
use Rattle.indexmap.specs.IndexMap.{get}
use Rattle.sq_term.specs.Terms as terms
use Rattle.sq_tables.specs.Cases.{AreFirsts}
use Rattle.sq_tables.proofs.cases.arms_of.Given as goal

abbrev pub invariant-loop-row : goal.invariant-loop-row
invariant-loop-row l = record {
  is : terms.arms_from l.arms.list (drop l.row-index l.instances) ≡ terms.arms_of l.instances;
  firsts : AreFirsts l.arms.list (get nat_eq l.arms.firsts);
}
