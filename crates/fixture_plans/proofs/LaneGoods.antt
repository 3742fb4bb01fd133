-- The plan of lanes is good.
use Rattle.std.proofs.Common.{◌≡◌, ◌∷◌, [], Some, sym, subst, inl, inr, arith}
use Rattle.sq_num.specs.declared.Elem.TheVariants.{Int}
use Rattle.sq_text.specs.declared.spread.SpreadRule.{SpreadRule}
use Rattle.sq_text.specs.declared.spread.SpreadRule.TheVariants.{Cyclic, Blocked}
use Rattle.sq_ir.specs.declared.plan.Leaf.{Leaf}
use Rattle.sq_ir.specs.Unordered.{EachUnordered}
use Rattle.sq_ir.specs.Events.{Leaves, AreIndependent}
use Rattle.sq_ir.specs.Plans.{tree_of, IsGood}
use Rattle.fixture_plans.specs.Lanes.{lanes}
use Rattle.fixture_plans.proofs.LaneTrees.{tree, second_of, third_of, tree_is}
use Rattle.fixture_plans.proofs.LaneClear.{clear}
use Rattle.fixture_plans.proofs.LaneRoom.{has-room, entry-room}
use Rattle.fixture_plans.proofs.LaneTerms.{well-formed}

module _ {C : Type 0} (leaves : Leaves C) (leaf : Leaf)
    (takes : leaves.shapes 0 ≡ Some (record { elem = Int; extents = 1 ∷ [] } ∷ [])) where
  are-clear : (rule : SpreadRule) → EachUnordered (AreIndependent leaves) (tree (second_of rule) (third_of rule))
  are-clear Cyclic = clear leaves 2 1 (λ e. cc) (λ e. cc) (omega arith) (omega arith) (inr (omega arith)) (omega arith)
  are-clear Blocked = clear leaves 1 2 (λ e. cc) (λ e. cc) (omega arith) (omega arith) (inl (omega arith)) (omega arith)

  pub lanes-good : (rule : SpreadRule) → IsGood leaves (lanes rule leaf)
  lanes-good rule =
      record {
        well_formed = well-formed leaves leaf takes rule;
        independent = subst (EachUnordered (AreIndependent leaves)) (sym (tree_is rule leaf)) (are-clear rule);
        room = has-room rule leaf (second_of rule) (third_of rule) (tree_is rule leaf);
        entry = entry-room rule leaf;
      }
