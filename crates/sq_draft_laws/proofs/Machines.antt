-- The nodes of a machine are as a built term asks.
use Rattle.std.proofs.Common.{◌≡◌, ℕ, suc, List, length, ap, ◌∙◌, arith}
use Rattle.std.proofs.lemmas.Option.{slice_get-get_or}
use Rattle.sq_machfile.specs.declared.level.Level.{Level}
use Rattle.sq_forms.specs.Steps.{most_uses}
use Rattle.sq_ir.specs.Plans.{node_at, placed}
use Rattle.sq_ir.specs.declared.plan.Buffer.{Buffer}
use Rattle.sq_ir.specs.declared.plan.PlanNode.{PlanNode}
use Rattle.sq_nests.proofs.Machines.{child-there, root-there, layered}
use Rattle.sq_program_laws.specs.TermLaws.Fits.{AreBounds, IsMachine, NodeAt}
use Rattle.sq_program_laws.proofs.TermLaws.Meeting.{within_limits}
use Rattle.sq_draft_laws.specs.Choosing.{AreMemories}
use Rattle.sq_draft_laws.specs.Drafts.{limits}
use Rattle.sq_draft_laws.specs.Lanes.{MachinesAreMachines}

are_bounds : AreBounds limits
unfolding most_uses
are_bounds = within_limits

module _ (levels : List Level) (nodes : List PlanNode) (are : AreMemories levels nodes) (last : ℕ)
    (long : length levels ≡ suc last) (buffers : List Buffer) (offset : ℕ → ℕ) where
  abbrev level_of : ℕ → ℕ
  level_of n = (node_at nodes n).level

  abbrev IsAt : ℕ → ℕ → Type 0
  IsAt l n = NodeAt (length nodes) level_of l n

  machine : IsMachine (placed buffers nodes offset) limits last IsAt
  machine = record {
    below = λ l n c h less.
        (child-there nodes n c are.are less, (layered buffers nodes offset are.are).below n c less ∙ ap suc h.1);
    some = λ l n h low.
        let here = slice_get-get_or nodes n (record { level = 0; capacity = 0; first_child = 0; children = 0 }) h.0 in
        let at = h.1 in
        let many = are.many in
        (are.are.each n (node_at nodes n) here).some (omega (arith, at, many, low, long));
    few = λ l n h.
        let here = slice_get-get_or nodes n (record { level = 0; capacity = 0; first_child = 0; children = 0 }) h.0 in
        (are.are.each n (node_at nodes n) here).few;
  }

pub machines_are_machines : MachinesAreMachines
machines_are_machines levels nodes are last long buffers offset = record {
  bounds = are_bounds;
  machine = machine levels nodes are last long buffers offset;
  root = (root-there nodes are.are, (layered buffers nodes offset are.are).root);
}
