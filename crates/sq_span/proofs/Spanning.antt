-- What the words of a whole plan say of it.
use Rattle.std.proofs.Common.{◌≡◌, ℕ, zero, suc, ◌+◌, ◌*◌, ◌<◌, ◌≤◌, Bool, true, false, inr, Some, None, List, [], ◌∷◌, length, map, refl, sym, ap, ◌∙◌, subst, arith}
use Rattle.std.specs.Prelude.{nat_lt}
use Rattle.std.specs.List.{All}
use Rattle.std.proofs.lemmas.Bool.{ltb-true, ltb-false}
use Rattle.std.proofs.lemmas.List.{get_or_past}
use Rattle.std.proofs.lemmas.List.Elements.{All-head, All-tail}
use Rattle.std.proofs.Math.Nat.{mul-le-mul}
use Rattle.sq_text.specs.declared.fault.Fault.{Fault}
use Rattle.sq_text.specs.First.{AtOrBefore}
use Rattle.sq_text.specs.Faults.{fault_place, fault_number, IsFirst}
use Rattle.sq_num.specs.Elements.{width}
use Rattle.sq_ir.specs.Tree.{Tree, Skip, Act, Stuck, Seq, Par, Within, IsNormal}
use Rattle.sq_ir.specs.Runs.{start}
use Rattle.sq_ir.specs.Unordered.{AllEvents}
use Rattle.sq_ir.specs.Scopes.{Scope}
use Rattle.sq_ir.specs.Machines.{AreNodes}
use Rattle.sq_ir.specs.Events.{Event, Leaves, Copy, Fill, Accumulate, Leaf}
use Rattle.sq_ir.specs.Traffic.{level_in}
use Rattle.sq_ir.specs.Plans.{node_at, setting_of, tree_of, MayBePerformed, IsWellFormed}
use Rattle.sq_ir.specs.declared.plan.PlanNode.{PlanNode}
use Rattle.sq_ir.specs.declared.plan.Plan.{Plan}
use Rattle.sq_ir.proofs.GoodPlans.{plans_stay_inside}
use Rattle.sq_sched.specs.Seen.{seen}
use Rattle.sq_sched.specs.Shapes.{written}
use Rattle.sq_sched.specs.Forms.{plan_form}
use Rattle.sq_sched.proofs.Agreeing.{capacity-small}
use Rattle.sq_sched.proofs.Sames.{written-normal}
use Rattle.sq_sched.proofs.Wholes.{plan-is}
use Rattle.sq_costs.specs.declared.cost.Cost.{Cost}
use Rattle.sq_costs.specs.Costs.{most_cost, IsCost, cost_at, row_weight}
use Rattle.sq_span.specs.declared.heft.Heft.{Heft}
use Rattle.sq_span.specs.declared.spans.Link.{Link}
use Rattle.sq_span.specs.Chains.{chain, size, most_events, IsHeaviest}
use Rattle.sq_span.specs.Hefts.{heft, picked}
use Rattle.sq_span.specs.Weights.{lower_level, event_weight}
use Rattle.sq_span.specs.Spans.{Weighed, seen_link, links_of, events_of, IsSpan, events_fault, EventsFault}
use Rattle.sq_span.specs.Chosen.{chosen}
use Rattle.sq_span.proofs.Heaviest.{heaviest}
use Rattle.sq_span.proofs.Bridging.{Says, too-many, says}

-- ---- what an event weighs at most

abbrev most_row : ℕ
most_row = 1073741824

abbrev most : ℕ
most = 1000000 + 1073741824 * 1000000

cost-small : (costs : List Cost) → All IsCost costs → (l : ℕ) → IsCost (cost_at costs l)
cost-small [] h l = record { row = omega arith; byte = omega arith; leaf = omega arith }
cost-small (c ∷ cs) h zero = All-head IsCost c cs h
cost-small (c ∷ cs) h (suc l) = cost-small cs (All-tail IsCost c cs h) l

row-small : (c : Cost) (bytes : ℕ) → IsCost c → bytes ≤ most_row → row_weight c bytes ≤ most
row-small c bytes h le =
    let p : bytes * c.byte ≤ most_row * most_cost = mul-le-mul le h.byte in
    let r = h.row in
    omega (arith, p, r)

leaf-small : (c : Cost) → IsCost c → c.leaf ≤ most
leaf-small c h = let l = h.leaf in omega (arith, l)

-- no node has more bytes
node-small : (nodes : List PlanNode) (n : ℕ) → AreNodes nodes → (node_at nodes n).capacity ≤ most_row
node-small nodes n are = by (nat_lt n (length nodes)) refl
  where
    none : PlanNode
    none = record { level = 0; capacity = 0; first_child = 0; children = 0 }

    by : (v : Bool) → nat_lt n (length nodes) ≡ v → (node_at nodes n).capacity ≤ most_row
    by true e = capacity-small nodes n are (ltb-true n (length nodes) e)
    by false e =
        let z : (node_at nodes n).capacity ≡ 0 = ap (λ (m : PlanNode). m.capacity) (get_or_past nodes n (record { level = 0; capacity = 0; first_child = 0; children = 0 }) (ltb-false n (length nodes) e)) in
        omega (arith, z)

module _ {C : Type 0} (leaves : Leaves C) (plan : Plan) (costs : List Cost) (are : AreNodes plan.nodes) (small : All IsCost costs) where
  abbrev weight : Event → ℕ
  weight = event_weight plan.nodes costs

  event-small : (e : Event) → MayBePerformed leaves (setting_of plan).capacity e → weight e ≤ most
  event-small (Copy from to bytes) h =
      let a = h.0 in
      let n = node-small plan.nodes from.node are in
      row-small (cost_at costs (lower_level plan.nodes from.node to.node)) bytes (cost-small costs small (lower_level plan.nodes from.node to.node)) (omega (arith, a, n))
  event-small (Fill to elem count v) h =
      let n = node-small plan.nodes to.node are in
      row-small (cost_at costs (level_in plan.nodes to.node)) (count * width elem) (cost-small costs small (level_in plan.nodes to.node)) (omega (arith, h, n))
  event-small (Accumulate op elem from to count) h =
      let a = h.0 in
      let n = node-small plan.nodes from.node are in
      row-small (cost_at costs (lower_level plan.nodes from.node to.node)) (count * width elem) (cost-small costs small (lower_level plan.nodes from.node to.node)) (omega (arith, a, n))
  event-small (Leaf node code views path) h = leaf-small (cost_at costs (level_in plan.nodes node)) (cost-small costs small (level_in plan.nodes node))

  all-small : (t : Tree Event Scope) → AllEvents (MayBePerformed leaves (setting_of plan).capacity) t → AllEvents (λ e. weight e ≤ most) t
  all-small Skip h = tt
  all-small (Act e) h = event-small e h
  all-small (Stuck e) h = event-small e h
  all-small (Seq a b) h = (all-small a h.0, all-small b h.1)
  all-small (Par a b) h = (all-small a h.0, all-small b h.1)
  all-small (Within s a) h = all-small a h

-- ---- the one fault

-- a fault is at or before itself
at-itself : (f g : Fault) → g ≡ f → AtOrBefore fault_place fault_number f g
at-itself f g e = inr (ap fault_place (sym e), let n : fault_number f ≡ fault_number g = ap fault_number (sym e) in omega arith)

-- ---- a list of links

events-seen : (links : List Link) → map (λ (x : Weighed). x.event) (map seen_link links) ≡ events_of links
events-seen [] = refl
events-seen (l ∷ ls) = ap (λ es. seen l.event ∷ es) (events-seen ls)

events-linked : (w : Event → ℕ) (es : List Event) → map (λ (x : Weighed). x.event) (links_of w es) ≡ es
events-linked w [] = refl
events-linked w (e ∷ es) = ap (λ l. e ∷ l) (events-linked w es)

-- ---- the whole plan

module _ {C : Type 0} (plan : Plan) (costs : List Cost) (need : (leaves : Leaves C) × IsWellFormed leaves plan) (small : All IsCost costs) where
  abbrev w : Event → ℕ
  w = event_weight plan.nodes costs

  is : written (plan_form plan) ≡ tree_of plan
  is = plan-is need.0 plan need.1

  -- a plan without words is refused
  pub refused : (f : Fault) → f ≡ events_fault → None ≡ heft w (written (plan_form plan)) → IsFirst (EventsFault plan) (Some f)
  refused f e none = (record { many = too-many w (tree_of plan) (none ∙ ap (heft w) is); is = e }, λ g h. at-itself f g (h.is ∙ sym e))

  known-words : (x : Heft) → Some x ≡ heft w (written (plan_form plan)) → Says w (tree_of plan) x
  known-words x e =
      let inside = (plans_stay_inside C need.0 plan (λ a. 0) need.1 [] [] (start (tree_of plan) (λ a. 0)) refl).1 in
      says w most (omega arith) (tree_of plan) (subst IsNormal is (written-normal (plan_form plan))) (all-small need.0 plan costs need.1.nodes small (tree_of plan) inside) x (e ∙ ap (heft w) is)

  -- and one with words is not
  pub taken : (x : Heft) → Some x ≡ heft w (written (plan_form plan)) → IsFirst (EventsFault plan) None
  taken x e f h =
      let few = (known-words x e).few in
      let many = h.many in
      absurd (omega (arith, few, many))

  linked : (x : Heft) (links : List Link) → Some x ≡ heft w (written (plan_form plan)) → map seen_link links ≡ chosen w (written (plan_form plan))
      → map seen_link links ≡ links_of w (chain w (tree_of plan))
  linked x links e l = l ∙ ap (λ t. links_of w (picked w t)) is ∙ ap (links_of w) (known-words x e).picked

  pub spanned : (x : Heft) (links : List Link) (n : ℕ) → Some x ≡ heft w (written (plan_form plan)) → map seen_link links ≡ chosen w (written (plan_form plan)) → n ≡ x.events
      → IsSpan plan costs (record { total = x.weight; events = n; chain = links })
  spanned x links n e l en =
      let k = known-words x e in
      record { events = en ∙ k.events; chain = linked x links e l; total = k.weight }

  pub heaviest-span : (x : Heft) (links : List Link) → Some x ≡ heft w (written (plan_form plan)) → map seen_link links ≡ chosen w (written (plan_form plan))
      → IsHeaviest w (tree_of plan) (events_of links) x.weight
  heaviest-span x links e l =
      let k = known-words x e in
      let es : events_of links ≡ chain w (tree_of plan) = sym (events-seen links) ∙ ap (map (λ (x : Weighed). x.event)) (linked x links e l) ∙ events-linked w (chain w (tree_of plan)) in
      subst (λ l. IsHeaviest w (tree_of plan) l x.weight) (sym es) (subst (IsHeaviest w (tree_of plan) (chain w (tree_of plan))) (sym k.weight) (heaviest w (tree_of plan)))
