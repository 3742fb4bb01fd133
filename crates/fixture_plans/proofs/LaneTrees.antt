-- The tree of the plan of lanes.
use Rattle.std.proofs.Common.{◌≡◌, ℕ, suc, ◌+◌, ◌*◌, pos, ℤ, List, [], ◌∷◌, Some, get_or, refl, sym, ap, ap₂, ◌∙◌}
use Rattle.std.proofs.Common.{arith}
use Rattle.std.specs.Prelude.{nat_abs, ◌==◌, if◌then◌else◌}
use mathlib.Core.Path.{fun_ext}
use Rattle.sq_num.specs.declared.Elem.TheVariants.{Int}
use Rattle.sq_num.specs.declared.RedOp.TheVariants as op
use Rattle.sq_text.specs.declared.spread.SpreadRule.{SpreadRule}
use Rattle.sq_text.specs.declared.spread.SpreadRule.TheVariants.{Cyclic, Blocked}
use Rattle.sq_text.specs.Spreading.{child_of}
use Rattle.sq_rect.specs.declared.view.View.{View}
use Rattle.sq_ir.specs.declared.num.Num.TheVariants as n
use Rattle.sq_ir.specs.declared.term.Term.TheVariants as t
use Rattle.sq_ir.specs.declared.plan.Leaf.{Leaf}
use Rattle.sq_ir.specs.declared.plan.Plan.{Plan}
use Rattle.sq_ir.specs.Tree.{Skip, Act, Seq, Par, Within, seq}
use Rattle.sq_ir.specs.Events.{Event, Copy, Fill, Accumulate}
use Rattle.sq_ir.specs.Events as events
use Rattle.sq_ir.specs.Written.{Setting, Env, PlanTree, at_root, at_turn, at_child, value_of, count_of, event_of}
use Rattle.sq_ir.specs.Written.{seq_of, par_of, scoped, turn_at, written}
use Rattle.sq_ir.specs.Plans.{setting_of, tree_of}
use Rattle.sq_ir.proofs.Equations.{value_pick, value_index, written_act, written_seq, written_spread, written_within}
use Rattle.sq_ir.proofs.ExampleTrees.{spot, const_is, index_is}
use Rattle.fixture_plans.specs.Lanes.{first, second, last, starts, own, children_of, down, view, call, fill, add, collect}
use Rattle.fixture_plans.specs.Lanes.{up, steps, lane, lanes}

-- ---- events

-- where the int of the t-th iteration begins, and its child
abbrev pub start_at : ℕ → ℕ
start_at t = nat_abs (get_or starts t (pos 0))

abbrev pub child_at : SpreadRule → ℕ → ℕ
child_at rule t = nat_abs (get_or (children_of rule) t (pos 0))

-- the view of a leaf call
abbrev pub placed : View
placed = record { at = 0; elem = Int; extents = 1 ∷ []; strides = 1 ∷ [] }

-- what the t-th iteration does at a node, its int beginning at k
abbrev pub down-event : (node k : ℕ) → Event
down-event node k = Copy (spot 0 k) (spot node 0) 4

abbrev pub call-event : (node t : ℕ) → Event
call-event node t = events.Leaf node 0 (placed ∷ []) (t ∷ [])

abbrev pub fill-event : (node : ℕ) → Event
fill-event node = Fill (spot node 4) Int 1 (pos 5)

abbrev pub add-event : (node : ℕ) → Event
add-event node = Accumulate op.Add Int (spot node 0) (spot node 4) 1

abbrev pub collect-event : (node : ℕ) → Event
collect-event node = Accumulate op.Add Int (spot node 4) (spot 0 12) 1

abbrev pub up-event : (node k : ℕ) → Event
up-event node k = Copy (spot node 4) (spot 0 k) 4

abbrev pub steps-tree : (node k t : ℕ) → PlanTree
steps-tree node k t =
    Seq (Act (down-event node k)) (Seq (Act (call-event node t))
    (Seq (Act (fill-event node)) (Seq (Act (add-event node))
    (Seq (Act (collect-event node)) (Act (up-event node k))))))

abbrev pub lane-tree : (node k t : ℕ) → PlanTree
lane-tree node k t = Within (record { node = node; buffers = 1 ∷ [] }) (steps-tree node k t)

-- the first child takes the iterations 0 and t, and the second one u
abbrev pub tree : (t u : ℕ) → PlanTree
tree t u = Within (record { node = 0; buffers = 0 ∷ [] })
    (Par (Seq (lane-tree 1 0 0) (lane-tree 1 (start_at t) t)) (lane-tree 2 (start_at u) u))

-- ---- what the terms stand for

from_zero : (k : ℕ) → 0 + k ≡ k
from_zero k = omega arith

pub pick_is : (s : Setting) (ks : List ℤ) (env : Env) → value_of s (n.Pick ks (n.Index 0)) env
    ≡ get_or ks (get_or env.turns 0 0) (pos 0)
pick_is s ks env = ap (λ f. f env) (value_pick s ks (n.Index 0))
    ∙ ap (λ z. get_or ks (nat_abs z) (pos 0)) (index_is s env)

module _ (rule : SpreadRule) (leaf : Leaf) where
  abbrev p : Plan
  p = lanes rule leaf

  abbrev s : Setting
  s = setting_of p

  -- where the t-th iteration runs, at the child c
  abbrev pub there : (t c : ℕ) → Env
  there t c = at_child s (at_turn at_root t) c

  pub down-is : (t c : ℕ) → event_of s (there t c) down ≡ down-event (1 + c) (start_at t)
  down-is t c =
      ap₂ (λ x y. Copy (spot 0 (0 + nat_abs x)) (spot (1 + c) (0 + nat_abs y)) 4) (pick_is s starts (there t c))
      (const_is s (pos 0) (there t c))
      ∙ ap (λ k. Copy (spot 0 k) (spot (1 + c) 0) 4) (from_zero (start_at t))

  pub view-is : (t c : ℕ) → record
      { at = 0 + count_of s first (there t c); elem = Int; extents = 1 ∷ []; strides = 1 ∷ [] } ≡ placed
  view-is t c = ap (λ z. record { at = 0 + nat_abs z; elem = Int; extents = 1 ∷ []; strides = 1 ∷ [] })
      (const_is s (pos 0) (there t c))

  pub call-is : (t c : ℕ) → event_of s (there t c) call ≡ call-event (1 + c) t
  call-is t c = ap₂ (λ v z. events.Leaf (1 + c) 0 (v ∷ []) (nat_abs z ∷ [])) (view-is t c) (index_is s (there t c))

  pub fill-is : (t c : ℕ) → event_of s (there t c) fill ≡ fill-event (1 + c)
  fill-is t c = ap (λ z. Fill (spot (1 + c) (0 + nat_abs z)) Int 1 (pos 5)) (const_is s (pos 4) (there t c))

  pub add-is : (t c : ℕ) → event_of s (there t c) add ≡ add-event (1 + c)
  add-is t c = ap₂ (λ x y. Accumulate op.Add Int (spot (1 + c) (0 + nat_abs x)) (spot (1 + c) (0 + nat_abs y)) 1)
      (const_is s (pos 0) (there t c)) (const_is s (pos 4) (there t c))

  pub collect-is : (t c : ℕ) → event_of s (there t c) collect ≡ collect-event (1 + c)
  collect-is t c = ap₂ (λ x y. Accumulate op.Add Int (spot (1 + c) (0 + nat_abs x)) (spot 0 (0 + nat_abs y)) 1)
      (const_is s (pos 4) (there t c)) (const_is s (pos 12) (there t c))

  pub up-is : (t c : ℕ) → event_of s (there t c) up ≡ up-event (1 + c) (start_at t)
  up-is t c =
      ap₂ (λ x y. Copy (spot (1 + c) (0 + nat_abs x)) (spot 0 (0 + nat_abs y)) 4) (const_is s (pos 4) (there t c))
      (pick_is s starts (there t c))
      ∙ ap (λ k. Copy (spot (1 + c) 4) (spot 0 k) 4) (from_zero (start_at t))

  act_is : (a : _) (env : Env) (e : Event) → event_of s env a ≡ e → written s (t.Act a) env ≡ Act e
  act_is a env e h = ap (λ f. f env) (written_act s a) ∙ ap Act h

  steps_are : (i c : ℕ) → written s (t.Seq steps) (there i c) ≡ steps-tree (1 + c) (start_at i) i
  steps_are i c =
      let env = there i c in
      ap (λ f. f env) (written_seq s steps)
      ∙ ap (λ x. seq x (seq (written s (t.Act call) env)
      (seq (written s (t.Act fill) env)
      (seq (written s (t.Act add) env) (seq (written s (t.Act collect) env) (seq (written s (t.Act up) env) Skip))))))
      (act_is down env _ (down-is i c))
      ∙ ap (λ x. seq (Act (down-event (1 + c) (start_at i)))
      (seq x (seq (written s (t.Act fill) env)
      (seq (written s (t.Act add) env) (seq (written s (t.Act collect) env) (seq (written s (t.Act up) env) Skip))))))
      (act_is call env _ (call-is i c))
      ∙ ap (λ x. seq (Act (down-event (1 + c) (start_at i)))
      (seq (Act (call-event (1 + c) i))
      (seq x (seq (written s (t.Act add) env)
      (seq (written s (t.Act collect) env) (seq (written s (t.Act up) env) Skip)))))) (act_is fill env _ (fill-is i c))
      ∙ ap (λ x. seq (Act (down-event (1 + c) (start_at i)))
      (seq (Act (call-event (1 + c) i))
      (seq (Act (fill-event (1 + c)))
      (seq x (seq (written s (t.Act collect) env) (seq (written s (t.Act up) env) Skip))))))
      (act_is add env _ (add-is i c))
      ∙ ap₂ (λ x y. seq (Act (down-event (1 + c) (start_at i)))
      (seq (Act (call-event (1 + c) i))
      (seq (Act (fill-event (1 + c))) (seq (Act (add-event (1 + c))) (seq x (seq y Skip))))))
      (act_is collect env _ (collect-is i c)) (act_is up env _ (up-is i c))

  abbrev worked : ℕ → PlanTree
  worked t = lane-tree (1 + child_at rule t) (start_at t) t

  lane_is : (i : ℕ) → written s (lane rule) (at_turn at_root i) ≡ worked i
  lane_is i =
      let env = at_turn at_root i in
      let pick = n.Pick (children_of rule) (n.Index 0) in
      ap (λ f. f env) (written_within s (Some pick) (1 ∷ []) (t.Seq steps))
      ∙ ap (λ z. scoped (1 + nat_abs z) (1 ∷ []) (written s (t.Seq steps) (there i (nat_abs z))))
      (pick_is s (children_of rule) env)
      ∙ ap (λ x. scoped (1 + child_at rule i) (1 ∷ []) x) (steps_are i (child_at rule i))

-- the trees of the spread by either rule
cyclic_is : par_of 2 (λ c. seq_of 3
    (λ t. if child_of Cyclic 3 2 t == c then lane-tree (1 + child_at Cyclic t) (start_at t) t else Skip) 0) 0
    ≡ Par (Seq (lane-tree 1 0 0) (lane-tree 1 8 2)) (lane-tree 2 4 1)
unfolding seq_of par_of
cyclic_is = refl

blocked_is : par_of 2 (λ c. seq_of 3
    (λ t. if child_of Blocked 3 2 t == c then lane-tree (1 + child_at Blocked t) (start_at t) t else Skip) 0) 0
    ≡ Par (Seq (lane-tree 1 0 0) (lane-tree 1 4 1)) (lane-tree 2 8 2)
unfolding seq_of par_of
blocked_is = refl

-- which iterations they are
abbrev pub second_of : SpreadRule → ℕ
second_of Cyclic = 2
second_of Blocked = 1

abbrev pub third_of : SpreadRule → ℕ
third_of Cyclic = 1
third_of Blocked = 2

spread_of : (rule : SpreadRule)
    → par_of 2 (λ c. seq_of 3 (λ t. if child_of rule 3 2 t == c then lane-tree (1 + child_at rule t) (start_at t) t else
    Skip) 0) 0
    ≡ Par (Seq (lane-tree 1 0 0) (lane-tree 1 (start_at (second_of rule)) (second_of rule)))
    (lane-tree 2 (start_at (third_of rule)) (third_of rule))
spread_of Cyclic = cyclic_is
spread_of Blocked = blocked_is

pub tree_is : (rule : SpreadRule) (leaf : Leaf) → tree_of (lanes rule leaf) ≡ tree (second_of rule) (third_of rule)
tree_is rule leaf =
    let s = setting_of (lanes rule leaf) in
    let body = written s (lane rule) in
    ap (λ x. scoped 0 (0 ∷ []) x) (
    ap (λ f. f at_root) (written_spread s (n.Const (pos 3)) rule (lane rule))
    ∙ ap (λ z. par_of 2 (λ c. seq_of (nat_abs z) (turn_at s rule (nat_abs z) body at_root c) 0) 0)
    (const_is s (pos 3) at_root)
    ∙ ap (λ (g : ℕ → PlanTree). par_of 2 (λ c. seq_of 3 (λ t. if child_of rule 3 2 t == c then g t else Skip) 0) 0)
    (fun_ext (lane_is rule leaf))
    ∙ spread_of rule
    )
