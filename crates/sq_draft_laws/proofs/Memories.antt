-- The nodes of a machine are the memories of a plan.
use Rattle.std.proofs.Common.{◌≡◌, ℕ, zero, suc, ◌+◌, ◌≤◌, List, [], ◌∷◌, ◌++◌, length, map, take, Some, refl, sym, ap}
use Rattle.std.proofs.Common.{◌∙◌, subst}
use Rattle.std.specs.Prelude.{slice_get, replicate, ◌==◌, ◌^◌, if◌then◌else◌}
use Rattle.std.specs.List.{flat_map}
use Rattle.sq_machfile.specs.declared.node.Node.{Node}
use Rattle.sq_machfile.specs.Machines.{Hierarchy, WithinLimits}
use Rattle.sq_machfile.specs.Nodes as machine
use Rattle.sq_ir.specs.declared.plan.PlanNode.{PlanNode}
use Rattle.sq_ir.specs.Machines.{AreNodes, IsNode, below, total, children_in}
use Rattle.sq_program_laws.proofs.Shapes.{mapped_at}
use Rattle.sq_draft_laws.specs.Memories.{plan_node, NodesAreMemories}

same_levels : (nodes : List Node) → map (λ (n : PlanNode). n.level) (map plan_node nodes)
    ≡ map (λ (n : Node). n.level) nodes
same_levels [] = refl
same_levels (n ∷ nodes) = ap (λ l. n.level ∷ l) (same_levels nodes)

same_below : (nodes : List Node) → flat_map below (map plan_node nodes) ≡ flat_map machine.below nodes
same_below [] = refl
same_below (n ∷ nodes) = ap (λ l. replicate n.children (suc n.level) ++ l) (same_below nodes)

same_total : (f : PlanNode → ℕ) (nodes : List Node) → total f (map plan_node nodes)
    ≡ machine.total (λ n. f (plan_node n)) nodes
same_total f [] = refl
same_total f (n ∷ nodes) = ap (λ k. f (plan_node n) + k) (same_total f nodes)

same_taken : {A B : Type 0} (f : A → B) (i : ℕ) (xs : List A) → take i (map f xs) ≡ map f (take i xs)
same_taken f zero xs = refl
same_taken f (suc i) [] = refl
same_taken f (suc i) (x ∷ xs) = ap (λ l. f x ∷ l) (same_taken f i xs)

same_long : {A B : Type 0} (f : A → B) (xs : List A) → length (map f xs) ≡ length xs
same_long f [] = refl
same_long f (x ∷ xs) = ap suc (same_long f xs)

module _ (m : Hierarchy) (within : WithinLimits m) where
  first_is : (i : ℕ) (n : PlanNode) → slice_get (map plan_node m.nodes) i ≡ Some n
      → n.first_child ≡ (if n.children == 0 then 0 else 1 + children_in (take i (map plan_node m.nodes)))
  first_is i n e =
      let at = mapped_at plan_node m.nodes i n e in
      let before : children_in (take i (map plan_node m.nodes)) ≡ machine.total machine.children_of (take i m.nodes) =
      ap children_in (same_taken plan_node i m.nodes) ∙ same_total (λ (x : PlanNode). x.children) (take i m.nodes) in
      subst (λ (x : PlanNode). x.first_child
      ≡ (if x.children == 0 then 0 else 1 + children_in (take i (map plan_node m.nodes)))) at.is
      (within.arranged.first i at.of at.there
      ∙ ap (λ k. machine.first_child at.of.children (1 + k)) (sym before))

  fits : (i : ℕ) (n : PlanNode) → slice_get (map plan_node m.nodes) i ≡ Some n → IsNode (length m.levels) n
  fits i n e =
      let at = mapped_at plan_node m.nodes i n e in
      let f = within.fits i at.of at.there in
      subst (IsNode (length m.levels)) at.is
      (record { level = f.level; capacity = f.capacity; some = f.some; few = f.few; last = f.leaf })

  pub are_nodes : AreNodes (map plan_node m.nodes)
  are_nodes = record {
    levels = length m.levels;
    few_levels = within.few;
    few = subst (λ k. k ≤ 4096) (sym (same_long plan_node m.nodes)) within.nodes;
    arranged = record {
      levels = same_levels m.nodes ∙ (within.arranged.children ∙ ap (λ l. 0 ∷ l) (sym (same_below m.nodes)));
      first = first_is;
    };
    each = fits;
    capacity = subst (λ k. k ≤ 2 ^ 31) (sym (same_total (λ (x : PlanNode). x.capacity) m.nodes)) within.bytes;
  }

pub nodes_are_memories : NodesAreMemories
unfolding are_nodes
nodes_are_memories m within = record { are = are_nodes m within; many = refl }
