-- Which nodes lack by the forms that run at them, and which are short by the scopes of a draft of the program.
use Rattle.std.proofs.Common.{◌≡◌, ℕ, zero, suc, ◌-◌, ◌<◌, ◌≤◌, List, [], ◌∷◌, map, length, Some, refl, sym, ap, subst}
use Rattle.std.proofs.Common.{◌∙◌, arith}
use Rattle.std.specs.Prelude.{slice_get, ◌^◌}
use Rattle.sq_machfile.specs.declared.node.Node.{Node}
use Rattle.sq_machfile.specs.Machines.{WithinLimits}
use Rattle.sq_ir.specs.Plans.{node_at}
use Rattle.sq_ir.specs.declared.plan.Draft.{Draft}
use Rattle.sq_ir.specs.declared.plan.PlanNode.{PlanNode}
use Rattle.sq_nests.specs.Drafts.{nested_sum, HasSpace}
use Rattle.sq_nests.specs.Stacks.{capped}
use Rattle.sq_store.specs.Place.{need_at, capacity_at, level_at, excess_at, IsShort, IsOver}
use Rattle.sq_spec.specs.declared.resolved.Resolved.{Resolved}
use Rattle.sq_spec.proofs.Rows.{get_or_map}
use Rattle.sq_plan_good.specs.Homes.Chosen.declared.choice.Choice.{Choice}
use Rattle.sq_plan_good.specs.Homes.Drafts.{IsDraftOf}
use Rattle.sq_plan_good.specs.DraftLaws.Choosing.{Walked}
use Rattle.sq_plan_good.specs.DraftLaws.Memories.{plan_node}
use Rattle.sq_plan_good.specs.Planned.{memories_of}
use Rattle.sq_plan_good.specs.Needed.{KeepInPlace, NeedsAreSums, SumsAreNeeds, NeedsAreSmall}
use Rattle.sq_compile.specs.Capacity.{NodeNeeds, Lacks, NoneLacks, IsFirstLack}

-- ---- lists

within : (xs : List Node) (i : ℕ) (x : Node) → slice_get xs i ≡ Some x → i < length (map plan_node xs)
within [] i x e = cc
within (y ∷ xs) zero x e = omega arith
within (y ∷ xs) (suc i) x e = let z = within xs i x e in omega (arith, z)

there_at : (xs : List Node) (i : ℕ) → i < length (map plan_node xs) → (x : Node) × (slice_get xs i ≡ Some x)
there_at [] i h = absurd (omega (arith, h))
there_at (x ∷ xs) zero h = (x, refl)
there_at (x ∷ xs) (suc i) h = there_at xs i (omega (arith, h))

not_capped : (n : ℕ) → n ≤ 2 ^ 48 → capped n ≡ n
unfolding capped
not_capped n h = omega (arith, h)

module _ (agree : NeedsAreSums) (are : SumsAreNeeds) (small : NeedsAreSmall) (r : Resolved) (w : Walked r)
    (limits : WithinLimits r.machine.now) (choices : List Choice) (keep : KeepInPlace r choices) (d : Draft)
    (its : IsDraftOf r choices d)
  where
    abbrev nodes : List PlanNode
    nodes = memories_of r

    needs : (node : ℕ) → NodeNeeds r node (nested_sum d nodes node)
    needs node = are r w limits choices keep d its node

    need_is : (node : ℕ) → need_at d nodes node ≡ nested_sum d nodes node
    need_is node = not_capped (nested_sum d nodes node) (small r w node (nested_sum d nodes node) (needs node))

    node_is : (node : ℕ) (n : Node) → slice_get r.machine.now.nodes node ≡ Some n → node_at nodes node ≡ plan_node n
    node_is node n there = get_or_map plan_node r.machine.now.nodes node n _ there

    record Short (node need capacity level : ℕ) : Type 0 where
      is : IsShort d nodes node
      need_is_ : need_at d nodes node ≡ need
      capacity_is_ : capacity_at nodes node ≡ capacity
      level_is_ : level_at nodes node ≡ level

    short_is : (node need capacity level : ℕ) → Lacks r node need capacity level → Short node need capacity level
    short_is node need capacity level h =
        let n : need_at d nodes node ≡ need =
        need_is node ∙ sym (agree r w limits choices keep d its node need h.needs) in
        let c : capacity_at nodes node ≡ capacity =
        ap (λ (x : PlanNode). x.capacity) (node_is node h.its h.there) ∙ sym h.capacity_is in
        let l : level_at nodes node ≡ level =
        ap (λ (x : PlanNode). x.level) (node_is node h.its h.there) ∙ sym h.level_is in
        let s = h.short in
        record {
          is = record { there = within r.machine.now.nodes node h.its h.there; short = omega (arith, n, c, s) };
          need_is_ = n;
          capacity_is_ = c;
          level_is_ = l;
        }

    -- where each node's sum is within its capacity
    pub none_lacks : HasSpace d nodes → NoneLacks r
    none_lacks space node need capacity level h =
        let s = short_is node need capacity level h in
        let a = space node s.is.there in
        let b = s.is.short in
        let n = need_is node in
        omega (arith, a, b, n)

    -- the node that is told
    module _ (node need capacity : ℕ) (over : IsOver d nodes node need capacity) where
      abbrev level : ℕ
      level = level_at nodes node

      lacks : Lacks r node need capacity level
      lacks =
          let n = there_at r.machine.now.nodes node over.over.there in
          let is = node_is node n.0 n.1 in
          let a = over.over.short in
          let b = over.need_is in
          let c = over.capacity_is in
          record {
            its = n.0;
            there = n.1;
            needs = subst (NodeNeeds r node) (sym (over.need_is ∙ need_is node)) (needs node);
            capacity_is = over.capacity_is ∙ ap (λ (x : PlanNode). x.capacity) is;
            level_is = ap (λ (x : PlanNode). x.level) is;
            short = omega (arith, a, b, c);
          }

      excess_of : (m n c l : ℕ) → Short m n c l → excess_at d nodes m ≡ n - c
      excess_of m n c l s = let a = s.need_is_ in let b = s.capacity_is_ in omega (arith, a, b)

      own_excess : excess_at d nodes node ≡ need - capacity
      own_excess = let a = over.need_is in let b = over.capacity_is in omega (arith, a, b)

      pub first_lack : IsFirstLack r node need capacity
      first_lack = record {
        level = level;
        lacks = lacks;
        upmost = λ m n c l h.
            let s = short_is m n c l h in
            let a = over.level m s.is in
            let b = s.level_is_ in
            omega (arith, a, b);
        greatest = λ m n c h.
            let s = short_is m n c level h in
            let a = over.greatest m s.is s.level_is_ in
            let b = excess_of m n c level s in
            let e = own_excess in
            omega (arith, a, b, e);
        first = λ m n c h less.
            let s = short_is m n c level h in
            let a = over.first m s.is s.level_is_ less in
            let b = excess_of m n c level s in
            let e = own_excess in
            omega (arith, a, b, e);
      }

-- ---- where each draft has space

capped_below : (n : ℕ) → capped n ≤ n
unfolding capped
capped_below n = omega arith

pub none_short : (d : Draft) (nodes : List PlanNode) → HasSpace d nodes → (node : ℕ) → IsShort d nodes node → ⊥
none_short d nodes space node h =
    let a = space node h.there in
    let b = h.short in
    let c = capped_below (nested_sum d nodes node) in
    omega (arith, a, b, c)
