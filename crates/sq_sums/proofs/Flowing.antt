-- The sum of a flow is that of its term.
use Rattle.std.proofs.Common.{◌≡◌, ℕ, zero, suc, ◌+◌, ◌-◌, ◌<◌, ◌≤◌, max, Bool, true, false, List, [], ◌∷◌, ◌++◌, map}
use Rattle.std.proofs.Common.{length, get_or, drop, Option, Some, None, ℤ, pos, negsuc, refl, sym, ap, ap₂, ◌∙◌}
use Rattle.std.proofs.Common.{subst, arith}
use Rattle.std.specs.Prelude.{◌==◌, ◌||◌, if◌then◌else◌}
use Rattle.std.proofs.lemmas.Bool.{eq-eqb, eqb-true}
use Rattle.sq_ir.specs.Machines.{AreNodes}
use Rattle.sq_ir.specs.Traffic.{level_in}
use Rattle.sq_ir.specs.Written as whole
use Rattle.sq_ir.specs.Written.{Setting, at_root, node_of, count_of, value_of, inside_of}
use Rattle.sq_ir.specs.Plans.{node_at, placed, setting_of, HasValue, IsCount, IsChild, AskedOfTerms, each_part, this_arm}
use Rattle.sq_ir.specs.Plans.{Meets}
use Rattle.sq_ir.specs.declared.num.Num.{Num}
use Rattle.sq_ir.specs.declared.term.Action.{Action}
use Rattle.sq_ir.specs.declared.term.Term.{Term, roll-Term}
use Rattle.sq_ir.specs.declared.term.Term.TheVariants as t
use Rattle.sq_ir.specs.declared.term.Term.TheOpen.{Term-F}
use Rattle.sq_ir.specs.declared.term.Term.TheFolds.{ind-Term, map-Term}
use Rattle.sq_ir.specs.declared.plan.Buffer.{Buffer}
use Rattle.sq_ir.specs.declared.plan.PlanNode.{PlanNode}
use Rattle.sq_ir.specs.declared.plan.Plan.{Plan}
use Rattle.sq_ir.proofs.Meeting.{meets_skip, meets_act, meets_seq, meets_par, meets_loop, meets_spread, meets_case}
use Rattle.sq_ir.proofs.Meeting.{meets_within}
use Rattle.sq_term_nums.specs.Laws as nums
use Rattle.sq_term_nums.specs.Words.{nat_part, value, count}
use Rattle.sq_term_nums.proofs.Values.{value-is, count-is}
use Rattle.sq_nests.specs.Stacks.{capped}
use Rattle.sq_nests.proofs.Machines.{layered, child-there, root-there}
use Rattle.sq_sums.specs.declared.flow.Flow.{Flow, roll-Flow}
use Rattle.sq_sums.specs.declared.flow.Flow.TheVariants as f
use Rattle.sq_sums.specs.declared.flow.Flow.TheOpen.{Flow-F}
use Rattle.sq_sums.specs.declared.flow.Flow.TheFolds.{ind-Flow, map-Flow}
use Rattle.sq_sums.specs.Tops.{Stand, at_turn, env_at, child_at}
use Rattle.sq_sums.specs.Regions.{loops_in, names_children}
use Rattle.sq_sums.specs.Sums.{fan_at}
use Rattle.sq_sums.specs.Tolls.{InScope, SumAt, all_sum, each_sum, arm_sum_of, arm_sum, at_child_word, scope_sum, sum_of}
use Rattle.sq_sums.specs.Tolls.{IsTolled}
use Rattle.sq_sums.specs.Fans.{are_even, fans_inside}
use Rattle.sq_sums.specs.Flows.{env_turns, flow_sum, most_loops, flow_loops, settle, FlowAt, flows_at, flow_of, any_asks}
use Rattle.sq_sums.specs.Flows.{asks}
use Rattle.sq_sums.proofs.SumForms.{sum_skip, sum_act, sum_seq, sum_par, sum_loop, sum_spread, sum_case, sum_within}
use Rattle.sq_sums.proofs.FlowOfForms.{flow_of_skip, flow_of_act, flow_of_seq, flow_of_par, flow_of_loop}
use Rattle.sq_sums.proofs.FlowOfForms.{flow_of_spread, flow_of_case, flow_of_within, asks_skip, asks_act, asks_seq}
use Rattle.sq_sums.proofs.FlowOfForms.{asks_par, asks_loop, asks_spread, asks_case, asks_within}
use Rattle.sq_sums.proofs.FlowForms.{flow_bytes, flow_parts, flow_each, flow_arm, loops_parts, loops_each, loops_arm}
use Rattle.sq_sums.proofs.Closed.{SameTurns, value_fixed, value_apart}
use Rattle.sq_sums.proofs.Evening.{AreTold, told_all, told_below}
use Rattle.sq_sums.proofs.Events.{if-true, capped_in}

-- ---- sums that stop

add_of : (x b y c : ℕ) → x ≡ capped b → capped y ≡ capped c → capped (x + y) ≡ capped (b + c)
unfolding capped
add_of x b y c e g = omega (arith, e, g)

none_of : 0 ≡ capped 0
unfolding capped
none_of = refl

twice_of : (b : ℕ) → capped b ≡ capped (capped b)
unfolding capped
twice_of b = omega arith

in_left : (u v : Bool) → u ≡ true → (u || v) ≡ true
in_left true v h = refl
in_left false v h = absurd (let z = h in cc)

in_right : (u v : Bool) → v ≡ true → (u || v) ≡ true
in_right true v h = refl
in_right false v h = h

-- ---- iterations

fewer : (k l : ℕ) (ts us : List ℕ) → k ≤ l → SameTurns l ts us → SameTurns k ts us
fewer k l ts us h s d lt = s d (omega (arith, lt, h))

one_more : (k i : ℕ) (ts us : List ℕ) → SameTurns (k - 1) ts us → SameTurns k (i ∷ ts) (i ∷ us)
one_more k i ts us s zero lt = refl
one_more k i ts us s (suc d) lt = s d (omega (arith, lt))

left_most : (a b : ℕ) → a ≤ max a b
left_most a b = omega arith

right_most : (a b : ℕ) → b ≤ max a b
right_most a b = omega arith

-- a flow is the same where the iterations that it may name are
abbrev pub IsFixed : Flow → Type 0
IsFixed g = (ts us : List ℕ) → SameTurns (flow_loops g) ts us → flow_sum g ts ≡ flow_sum g us

abbrev FixedFlow : Type 0
FixedFlow = (g : Flow) × IsFixed g

abbrev flows_of : List FixedFlow → List Flow
flows_of xs = map (λ x. x.0) xs

at_flow : (g : Flow) (h : List ℕ → ℕ) (ts : List ℕ) → flow_sum g ≡ h → flow_sum g ts ≡ h ts
at_flow g h ts e = ap (λ (z : List ℕ → ℕ). z ts) e

all_fixed : (xs : List FixedFlow) (ts us : List ℕ) → SameTurns (most_loops (map flow_loops (flows_of xs))) ts us
    → all_sum (map flow_sum (flows_of xs)) ts ≡ all_sum (map flow_sum (flows_of xs)) us
all_fixed [] ts us s = refl
all_fixed (x ∷ xs) ts us s =
    let l = flow_loops x.0 in
    let m = most_loops (map flow_loops (flows_of xs)) in
    ap₂ (λ a b. a + b) (x.1 ts us (fewer l (max l m) ts us (left_most l m) s))
    (all_fixed xs ts us (fewer m (max l m) ts us (right_most l m) s))

arm_of_fixed : (xs : List FixedFlow) (k : ℕ) (ts us : List ℕ)
    → SameTurns (most_loops (map flow_loops (flows_of xs))) ts us
    → arm_sum_of (map flow_sum (flows_of xs)) k ts ≡ arm_sum_of (map flow_sum (flows_of xs)) k us
arm_of_fixed [] k ts us s = refl
arm_of_fixed (x ∷ xs) zero ts us s = let l = flow_loops x.0 in let m =
    most_loops (map flow_loops (flows_of xs)) in x.1 ts us (fewer l (max l m) ts us (left_most l m) s)
arm_of_fixed (x ∷ xs) (suc k) ts us s = let l = flow_loops x.0 in let m =
    most_loops (map flow_loops (flows_of xs)) in arm_of_fixed xs k ts us (fewer m (max l m) ts us (right_most l m) s)

arm_at_fixed : (xs : List FixedFlow) (z : ℤ) (ts us : List ℕ)
    → SameTurns (most_loops (map flow_loops (flows_of xs))) ts us
    → arm_sum (map flow_sum (flows_of xs)) z ts ≡ arm_sum (map flow_sum (flows_of xs)) z us
arm_at_fixed xs (pos k) ts us s = arm_of_fixed xs k ts us s
arm_at_fixed xs (negsuc k) ts us s = refl

number_fixed : (c : Num) (n l : ℕ) (ts us : List ℕ) → SameTurns l ts us → loops_in c ≤ l
    → value c (env_turns n ts) ≡ value c (env_turns n us)
number_fixed c n l ts us s h = value_fixed l ts us s n c h

each_fixed : (x : FixedFlow) (n i : ℕ) (ts us : List ℕ) → SameTurns (flow_loops x.0 - 1) ts us
    → each_sum n (λ j. flow_sum x.0 (j ∷ ts)) i ≡ each_sum n (λ j. flow_sum x.0 (j ∷ us)) i
unfolding each_sum
each_fixed x zero i ts us s = refl
each_fixed x (suc n) i ts us s =
    ap₂ (λ a b. a + b) (x.1 (i ∷ ts) (i ∷ us) (one_more (flow_loops x.0) i ts us s)) (each_fixed x n (i + 1) ts us s)

fixed_step : (y : Flow-F FixedFlow) → IsFixed (roll-Flow (map-Flow FixedFlow Flow (λ x. x.0) y))
fixed_step (Flow-F.Bytes b) =
    subst IsFixed (sym (f.rolls-Bytes b)) (λ ts us s. at_flow (f.Bytes b) _ ts (flow_bytes b)
    ∙ sym (at_flow (f.Bytes b) _ us (flow_bytes b)))
fixed_step (Flow-F.Parts xs) = subst IsFixed (sym (f.rolls-Parts (flows_of xs))) (λ ts us s.
    at_flow (f.Parts (flows_of xs)) _ ts (flow_parts (flows_of xs))
    ∙ ap capped (all_fixed xs ts us (subst (λ l. SameTurns l ts us) (loops_parts (flows_of xs)) s))
    ∙ sym (at_flow (f.Parts (flows_of xs)) _ us (flow_parts (flows_of xs))))
fixed_step (Flow-F.Each c n x) = subst IsFixed (sym (f.rolls-Each c n x.0)) (λ ts us s.
    let k = flow_loops x.0 - 1 in
    let l = max (loops_in c) k in
    let z : SameTurns l ts us = subst (λ l. SameTurns l ts us) (loops_each c n x.0) s in
    at_flow (f.Each c n x.0) _ ts (flow_each c n x.0)
    ∙ ap (λ z. capped (each_sum (nat_part z) (λ j. flow_sum x.0 (j ∷ ts)) 0))
    (number_fixed c n l ts us z (left_most (loops_in c) k))
    ∙ ap capped (each_fixed x (count c (env_turns n us)) 0 ts us (fewer k l ts us (right_most (loops_in c) k) z))
    ∙ sym (at_flow (f.Each c n x.0) _ us (flow_each c n x.0)))
fixed_step (Flow-F.Arm k n xs) = subst IsFixed (sym (f.rolls-Arm k n (flows_of xs))) (λ ts us s.
    let m = most_loops (map flow_loops (flows_of xs)) in
    let l = max (loops_in k) m in
    let z : SameTurns l ts us = subst (λ l. SameTurns l ts us) (loops_arm k n (flows_of xs)) s in
    at_flow (f.Arm k n (flows_of xs)) _ ts (flow_arm k n (flows_of xs))
    ∙ ap (λ z. arm_sum (map flow_sum (flows_of xs)) z ts) (number_fixed k n l ts us z (left_most (loops_in k) m))
    ∙ arm_at_fixed xs (value k (env_turns n us)) ts us (fewer m l ts us (right_most (loops_in k) m) z)
    ∙ sym (at_flow (f.Arm k n (flows_of xs)) _ us (flow_arm k n (flows_of xs))))

pub are_fixed : (g : Flow) → IsFixed g
are_fixed = ind-Flow IsFixed (λ x y is. subst (λ z. IsFixed (roll-Flow z)) is (fixed_step y))

-- a flow that is summed has the sum that it had
pub settle_sum : (g : Flow) (ts : List ℕ) → flow_sum (settle g) ts ≡ flow_sum g ts
settle_sum g ts = by (flow_loops g == 0) refl
  where
    by : (v : Bool) → (flow_loops g == 0) ≡ v → flow_sum (if v then f.Bytes (flow_sum g []) else g) ts ≡ flow_sum g ts
    by true e = let z =
        eqb-true (flow_loops g) 0 e in at_flow (f.Bytes (flow_sum g [])) _ ts (flow_bytes (flow_sum g []))
        ∙ are_fixed g [] ts (λ d lt. absurd (omega (arith, lt, z)))
    by false e = refl

-- ---- sums

each_capped : (n : ℕ) (g h : ℕ → ℕ) (i : ℕ) → ((j : ℕ) → j < i + n → g j ≡ capped (h j))
    → capped (each_sum n g i) ≡ capped (each_sum n h i)
unfolding each_sum
each_capped zero g h i e = refl
each_capped (suc n) g h i e =
    add_of (g i) (h i) (each_sum n g (i + 1)) (each_sum n h (i + 1)) (e i (omega arith))
    (each_capped n g h (i + 1) (λ j l. e j (omega (arith, l))))

module _ (buffers : List Buffer) (nodes : List PlanNode) (offset : ℕ → ℕ) (are : AreNodes nodes) (w : Action → ℕ) where
  abbrev s : Setting
  s = placed buffers nodes offset

  -- where a part of a term stands, and the node in force there, which is one of its level
  pub record Stands (env : whole.Env) (at : Stand) : Type 0 where
    pub turns : at.turns ≡ env.turns
    pub here : at.node ≡ node_of env
    pub there : at.node < length nodes
    pub level : level_in nodes at.node ≡ env.level

  numbers : (env : whole.Env) (at : Stand) → Stands env at → nums.Agree s env (env_at nodes at)
  numbers env at st = record { turns = st.turns; children = ap (λ n. (node_at nodes n).children) st.here }

  stands_turn : (env : whole.Env) (at : Stand) (j : ℕ) → Stands env at → Stands (whole.at_turn env j) (at_turn at j)
  stands_turn env at j st = record {
    turns = ap (λ ts. j ∷ ts) st.turns;
    here = st.here;
    there = st.there;
    level = st.level;
  }

  stands_child : (env : whole.Env) (at : Stand) (c : Num) → IsChild s env (Some c) → Stands env at
      → Stands (inside_of s env (Some c)) (at_child_word nodes (count_of s c env) at)
  stands_child env at c h st = record {
    turns = st.turns;
    here = is ∙ sym (if-true (suc env.level == suc env.level) child (env.nodes (suc env.level))
        (eq-eqb (suc env.level) (suc env.level) refl));
    there = subst (λ n. n < length nodes) (sym is) there;
    level = ap (level_in nodes) is ∙ (layered buffers nodes offset are).below (node_of env) (count_of s c env) h.1
        ∙ ap suc (ap (level_in nodes) (sym st.here) ∙ st.level);
  }
    where
      child : ℕ
      child = s.child (node_of env) (count_of s c env)

      there : child < length nodes
      there = child-there nodes (node_of env) (count_of s c env) are h.1

      few : length nodes ≤ 4096
      few = are.few

      is : capped (child_at nodes at.node (count_of s c env)) ≡ child
      is = ap (λ n. capped (child_at nodes n (count_of s c env))) st.here
          ∙ capped_in child (omega (arith, few, there))

  -- A flow has the sum of a term where this stands, if the numbers of children are told that the term asks for.
  abbrev Has : AskedOfTerms → Bool → FlowAt → SumAt → Type 0
  Has m a g b = (env : whole.Env) (bs : List ℕ) (at : Stand) (fs : List ℕ) → m env bs → Stands env at
      → (a ≡ true → AreTold nodes fs env.level) → flow_sum (g fs) at.turns ≡ capped (b at)

  abbrev Good : Term → Type 0
  Good x = Has (Meets s InScope x) (asks x) (flow_of w x) (sum_of nodes w x)

  abbrev G : Type 0
  G = (x : Term) × Good x

  abbrev terms : List G → List Term
  terms xs = map (λ x. x.0) xs

  abbrev flows : List G → List ℕ → List Flow
  flows xs = flows_at (map (flow_of w) (terms xs))

  abbrev ask : List G → Bool
  ask xs = any_asks (map asks (terms xs))

  all_have : (xs : List G) (env : whole.Env) (bs : List ℕ) (at : Stand) (fs : List ℕ)
      → each_part (Meets s InScope) (terms xs) env bs → Stands env at
      → (ask xs ≡ true → AreTold nodes fs env.level)
      → capped (all_sum (map flow_sum (flows xs fs)) at.turns)
      ≡ capped (all_sum (map (sum_of nodes w) (terms xs)) at)
  all_have [] env bs at fs m st h = refl
  all_have (x ∷ xs) env bs at fs m st h =
      add_of (flow_sum (flow_of w x.0 fs) at.turns) (sum_of nodes w x.0 at)
      (all_sum (map flow_sum (flows xs fs)) at.turns) (all_sum (map (sum_of nodes w) (terms xs)) at)
      (x.1 env bs at fs m.0 st (λ a. h (in_left (asks x.0) (ask xs) a)))
      (all_have xs env bs at fs m.1 st (λ a. h (in_right (asks x.0) (ask xs) a)))

  parts_have : (xs : List G) → Has (each_part (Meets s InScope) (terms xs)) (ask xs)
      (λ fs. settle (f.Parts (flows xs fs))) (all_sum (map (sum_of nodes w) (terms xs)))
  parts_have xs env bs at fs m st h =
      settle_sum (f.Parts (flows xs fs)) at.turns
      ∙ at_flow (f.Parts (flows xs fs)) _ at.turns (flow_parts (flows xs fs)) ∙ all_have xs env bs at fs m st h

  arm_of_has : (xs : List G) (k : ℕ) (env : whole.Env) (bs : List ℕ) (at : Stand) (fs : List ℕ)
      → this_arm (Meets s InScope) (terms xs) (pos k) env bs → Stands env at
      → (ask xs ≡ true → AreTold nodes fs env.level)
      → arm_sum_of (map flow_sum (flows xs fs)) k at.turns
      ≡ capped (arm_sum_of (map (sum_of nodes w) (terms xs)) k at)
  arm_of_has [] k env bs at fs m st h = none_of
  arm_of_has (x ∷ xs) zero env bs at fs m st h =
      x.1 env bs at fs m st (λ a. h (in_left (asks x.0) (ask xs) a))
  arm_of_has (x ∷ xs) (suc k) env bs at fs m st h =
      arm_of_has xs k env bs at fs m st (λ a. h (in_right (asks x.0) (ask xs) a))

  arm_at_has : (xs : List G) (z : ℤ) (env : whole.Env) (bs : List ℕ) (at : Stand) (fs : List ℕ)
      → this_arm (Meets s InScope) (terms xs) z env bs → Stands env at
      → (ask xs ≡ true → AreTold nodes fs env.level)
      → arm_sum (map flow_sum (flows xs fs)) z at.turns
      ≡ capped (arm_sum (map (sum_of nodes w) (terms xs)) z at)
  arm_at_has xs (pos k) env bs at fs m st h = arm_of_has xs k env bs at fs m st h
  arm_at_has xs (negsuc k) env bs at fs m st h = none_of

  -- a number that names how many children there are is told
  number_is : (c : Num) (env : whole.Env) (at : Stand) (fs : List ℕ) → Stands env at
      → (names_children c ≡ true → AreTold nodes fs env.level)
      → value c (env_turns (get_or fs 0 0) at.turns) ≡ value c (env_at nodes at)
  number_is c env at fs st h = by (names_children c) refl
    where
      by : (v : Bool) → names_children c ≡ v
          → value c (env_turns (get_or fs 0 0) at.turns) ≡ value c (env_at nodes at)
      by true e =
          let l = st.level in
          ap (λ n. value c (env_turns n at.turns)) (sym (h e at.node 0 st.there (omega (arith, l))))
      by false e = value_apart at.turns (get_or fs 0 0) (fan_at nodes at.node) c e

  arm_has : (k : Num) (xs : List G)
      → Has (λ env bs. HasValue s k env × this_arm (Meets s InScope) (terms xs) (value_of s k env) env bs)
      (names_children k || ask xs) (λ fs. settle (f.Arm k (get_or fs 0 0) (flows xs fs)))
      (λ p. arm_sum (map (sum_of nodes w) (terms xs)) (value k (env_at nodes p)) p)
  arm_has k xs env bs at fs m st h =
      let is = value-is s env (env_at nodes at) (numbers env at st) k m.0 in
      settle_sum (f.Arm k (get_or fs 0 0) (flows xs fs)) at.turns
      ∙ at_flow (f.Arm k (get_or fs 0 0) (flows xs fs)) _ at.turns (flow_arm k (get_or fs 0 0) (flows xs fs))
      ∙ ap (λ z. arm_sum (map flow_sum (flows xs fs)) z at.turns)
      (number_is k env at fs st (λ a. h (in_left (names_children k) (ask xs) a)) ∙ is)
      ∙ arm_at_has xs (value_of s k env) env bs at fs m.1 st (λ a. h (in_right (names_children k) (ask xs) a))
      ∙ ap (λ z. capped (arm_sum (map (sum_of nodes w) (terms xs)) z at)) (sym is)

  -- the turns of a loop
  each_has : (c : Num) (x : G) (env : whole.Env) (bs : List ℕ) (at : Stand) (fs : List ℕ) → IsCount s env c
      → ((j : ℕ) → j < count_of s c env → Meets s InScope x.0 (whole.at_turn env j) bs) → Stands env at
      → ((names_children c || asks x.0) ≡ true → AreTold nodes fs env.level)
      → flow_sum (settle (f.Each c (get_or fs 0 0) (flow_of w x.0 fs))) at.turns
      ≡ capped (each_sum (count c (env_at nodes at)) (λ j. sum_of nodes w x.0 (at_turn at j)) 0)
  each_has c x env bs at fs i m st h =
      let is = count-is s env (env_at nodes at) (numbers env at st) c i in
      settle_sum (f.Each c (get_or fs 0 0) (flow_of w x.0 fs)) at.turns
      ∙ at_flow (f.Each c (get_or fs 0 0) (flow_of w x.0 fs)) _ at.turns
      (flow_each c (get_or fs 0 0) (flow_of w x.0 fs))
      ∙ ap (λ z. capped (each_sum (nat_part z) (λ j. flow_sum (flow_of w x.0 fs) (j ∷ at.turns)) 0))
      (number_is c env at fs st (λ a. h (in_left (names_children c) (asks x.0) a)))
      ∙ each_capped (count c (env_at nodes at)) (λ j. flow_sum (flow_of w x.0 fs) (j ∷ at.turns))
      (λ j. sum_of nodes w x.0 (at_turn at j)) 0 (λ j l.
      x.1 (whole.at_turn env j) bs (at_turn at j) fs (m j (omega (arith, l, is))) (stands_turn env at j st)
      (λ a. h (in_right (names_children c) (asks x.0) a)))

  scope_has : (c : Option Num) (new : List ℕ) (x : G) (env : whole.Env) (bs : List ℕ) (at : Stand) (fs : List ℕ)
      → IsChild s env c → Meets s InScope x.0 (inside_of s env c) (new ++ bs) → Stands env at
      → (asks x.0 ≡ true → AreTold nodes fs env.level)
      → flow_sum (flow_of w x.0 (fans_inside c fs)) at.turns ≡ capped (scope_sum nodes c (sum_of nodes w x.0) at)
  scope_has None new x env bs at fs i m st h = x.1 env (new ++ bs) at fs m st h
  scope_has (Some c) new x env bs at fs i m st h =
      x.1 (inside_of s env (Some c)) (new ++ bs) (at_child_word nodes (count_of s c env) at) (drop 1 fs) m
      (stands_child env at c i st) (λ a. told_below nodes fs env.level (h a))
      ∙ ap (λ k. capped (sum_of nodes w x.0 (at_child_word nodes k at)))
      (sym (count-is s env (env_at nodes at) (numbers env at st) c i.0))

  along : (x : Term) (m : AskedOfTerms) (a : Bool) (g : FlowAt) (b : SumAt) → Meets s InScope x ≡ m → asks x ≡ a
      → flow_of w x ≡ g → sum_of nodes w x ≡ b → Has m a g b → Good x
  along x m a g b p q e o k env bs at fs y st h =
      ap (λ (z : FlowAt). flow_sum (z fs) at.turns) e
      ∙ k env bs at fs (subst (λ (z : AskedOfTerms). z env bs) p y) st (λ u. h (q ∙ u))
      ∙ sym (ap (λ (z : SumAt). capped (z at)) o)

  good_step : (y : Term-F G) → Good (roll-Term (map-Term G Term (λ x. x.0) y))
  good_step Term-F.Skip =
      subst Good (sym t.rolls-Skip) (along _ _ _ _ _ (meets_skip s InScope) asks_skip (flow_of_skip w)
      (sum_skip nodes w) (λ env bs at fs m st h. at_flow (f.Bytes 0) _ at.turns (flow_bytes 0) ∙ none_of))
  good_step (Term-F.Act a) =
      subst Good (sym (t.rolls-Act a)) (along _ _ _ _ _ (meets_act s InScope a) (asks_act a) (flow_of_act w a)
      (sum_act nodes w a)
      (λ env bs at fs m st h. at_flow (f.Bytes (capped (w a))) _ at.turns (flow_bytes (capped (w a)))))
  good_step (Term-F.Seq xs) =
      subst Good (sym (t.rolls-Seq (terms xs))) (along _ _ _ _ _ (meets_seq s InScope (terms xs))
      (asks_seq (terms xs)) (flow_of_seq w (terms xs)) (sum_seq nodes w (terms xs)) (parts_have xs))
  good_step (Term-F.Par xs) =
      subst Good (sym (t.rolls-Par (terms xs))) (along _ _ _ _ _ (meets_par s InScope (terms xs))
      (asks_par (terms xs)) (flow_of_par w (terms xs)) (sum_par nodes w (terms xs)) (parts_have xs))
  good_step (Term-F.Loop c x) =
      subst Good (sym (t.rolls-Loop c x.0)) (along _ _ _ _ _ (meets_loop s InScope c x.0) (asks_loop c x.0)
      (flow_of_loop w c x.0) (sum_loop nodes w c x.0)
      (λ env bs at fs m st h. each_has c x env bs at fs m.0 m.1 st h))
  good_step (Term-F.Spread c u x) =
      subst Good (sym (t.rolls-Spread c u x.0)) (along _ _ _ _ _ (meets_spread s InScope c u x.0)
      (asks_spread c u x.0) (flow_of_spread w c u x.0) (sum_spread nodes w c u x.0)
      (λ env bs at fs m st h. each_has c x env bs at fs m.0 m.2 st h))
  good_step (Term-F.Case k xs) =
      subst Good (sym (t.rolls-Case k (terms xs)))
      (along _ _ _ _ _ (meets_case s InScope k (terms xs)) (asks_case k (terms xs)) (flow_of_case w k (terms xs))
      (sum_case nodes w k (terms xs)) (arm_has k xs))
  good_step (Term-F.Within c new x) =
      subst Good (sym (t.rolls-Within c new x.0)) (along _ _ _ _ _ (meets_within s InScope c new x.0)
      (asks_within c new x.0) (flow_of_within w c new x.0) (sum_within nodes w c new x.0)
      (λ env bs at fs m st h. scope_has c new x env bs at fs m.0 m.2 st h))

  pub flows_have : (x : Term) → Good x
  flows_have = ind-Term Good (λ x y is. subst (λ z. Good (roll-Term z)) is (good_step y))

  pub root_stands : Stands at_root (record { turns = []; node = 0; held = 0 })
  root_stands = record {
    turns = refl;
    here = refl;
    there = root-there nodes are;
    level = (layered buffers nodes offset are).root;
  }

-- of a plan
pub plan_flow : (p : Plan) (w : Action → ℕ) (fs : List ℕ) → IsTolled p
    → (asks p.draft.term ≡ true → are_even p.nodes fs ≡ true)
    → flow_sum (flow_of w p.draft.term fs) []
    ≡ capped (sum_of p.nodes w p.draft.term (record { turns = []; node = 0; held = 0 }))
plan_flow p w fs h e =
    let b = p.draft.buffers in
    let o = (setting_of p).offset in
    flows_have b p.nodes o h.machine w p.draft.term at_root p.draft.entry (record { turns = []; node = 0; held = 0 })
    fs h.term (root_stands b p.nodes o h.machine w) (λ a. told_all p.nodes fs (e a))
