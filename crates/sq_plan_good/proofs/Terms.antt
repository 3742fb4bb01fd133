-- The greatest sum of a form's term, written out, is that of what its tables begin.
use Rattle.std.proofs.Common.{◌≡◌, ℕ, zero, suc, ◌+◌, ◌*◌, ◌==◌, max, pos, Bool, true, false, List, []}
use Rattle.std.proofs.Common.{◌∷◌, ◌++◌, map, get_or, slice_get, Option, Some, None, refl, sym, ap, ap₂, subst, ◌∙◌, arith}
use Rattle.std.proofs.Common.{if◌then◌else◌, ◌<◌, ◌≤◌, ◌⊎◌, inl, inr, ℤ}
use Rattle.std.proofs.lemmas.Bool.Decides.{nat_tests}
use Rattle.std.specs.Prelude.{nat_abs}
use Rattle.std.specs.List.{flat_map, range_with_len}
use Rattle.sq_num.specs.declared.RedOp.{RedOp}
use Rattle.sq_text.specs.declared.place.Place.{Place}
use Rattle.sq_text.specs.declared.spread.SpreadRule.{SpreadRule}
use Rattle.sq_text.specs.declared.spread.SpreadRule.TheVariants.{Cyclic, Blocked}
use Rattle.sq_ast.specs.declared.program.Mode.{Mode}
use Rattle.sq_ast.specs.declared.program.Mode.TheVariants.{Input, Output, Both}
use Rattle.sq_ir.specs.Lifting.{lift}
use Rattle.sq_ir.specs.Written.{Setting, Env, value_of, count_of, at_turn, at_child, node_of, inside_of}
use Rattle.sq_ir.specs.declared.num.Num.{Num}
use Rattle.sq_ir.specs.declared.num.Num.TheVariants as n
use Rattle.sq_ir.specs.declared.term.Action.{Action}
use Rattle.sq_ir.specs.declared.term.Term.{Term}
use Rattle.sq_ir.specs.declared.term.Term.TheVariants as term
use Rattle.sq_ir.proofs.LiftOnce.{lift_one}
use Rattle.sq_leaf.specs.declared.shape.Shape.{Shape}
use Rattle.sq_blocks.specs.declared.argument.Argument.{Argument}
use Rattle.sq_spec.specs.declared.statement.LoopKind.{LoopKind}
use Rattle.sq_spec.specs.declared.statement.CallInstance.{CallInstance}
use Rattle.sq_spec.specs.declared.statement.Statement.{Statement}
use Rattle.sq_spec.specs.declared.statement.Statement.TheVariants as b
use Rattle.sq_spec.specs.declared.statement.Statement.TheOpen.{Statement-F}
use Rattle.sq_spec.specs.declared.statement.Statement.TheFolds.{fold-roll-Statement}
use Rattle.sq_spec.specs.declared.body.FormBody.{FormBody}
use Rattle.sq_spec_laws.specs.Needs.{Turn, turn_in}
use Rattle.sq_nests.specs.Nests.{Scopes, ScopesAt, all_at, each_of, arm_of, arm_at, scopes_of}
use Rattle.sq_nests.specs.Stacks.{total, at_node, sum_at}
use Rattle.sq_nests.proofs.Chains.{total_append}
use Rattle.sq_nests.proofs.Equations.{scopes_skip, scopes_act, scopes_seq, scopes_par, scopes_loop}
use Rattle.sq_nests.proofs.Equations.{scopes_case, scopes_within}
use Rattle.sq_placed.specs.declared.home.Home.{Home}
use Rattle.sq_placed.specs.declared.home.Home.TheVariants.{InPlace}
use Rattle.sq_placed.specs.declared.home.Homes.{Homes}
use Rattle.sq_placed.specs.Placed.{PlacedLocal}
use Rattle.sq_placed.specs.Trees.{is_moved, buffer_of, local_buffers, callee_node}
use Rattle.sq_placed.specs.Tables.{locals_of}
use Rattle.sq_term.specs.declared.context.Context.{Context}
use Rattle.sq_term.specs.declared.context.Move.{Move}
use Rattle.sq_term.specs.Terms.{numbers, lift_child, in_map, by_rows, copy_in_term, copy_out_term, clear_term}
use Rattle.sq_term.specs.Terms.{bring_term_by, bring_term, back_term_by, back_term, local_view, moves_from, buffers_from}
use Rattle.sq_term.specs.Terms.{in_callee, callee_term, call_parts, call_child, arms_of, arm_number, picks, hold_term}
use Rattle.sq_term.specs.Terms.{held_moves, leaving_buffers, hold_in_term_by, hold_in_term, hold_out_term_by}
use Rattle.sq_term.specs.Terms.{hold_out_term, at_child_already, arm_term, arm_of_form, rows_term}
use Rattle.sq_term.specs.Stands.{Each, none, more, IsNumber}
use Rattle.sq_term.proofs.Numbers.{const_is, index_is, mul_is, div_is, rem_is, children_is, table_is}
use Rattle.sq_term.proofs.Numbers.{lifted_is, constant, turn, sum, picked}
use Rattle.sq_term.proofs.Arms.{IsHead, arm_of_row, pick_of, picks_are}
use Rattle.sq_draft_laws.specs.Homes.Begun as begun
use Rattle.sq_draft_laws.specs.Homes.Begun.{BegunPart, begun_step, child_in}
use Rattle.sq_plan_good.specs.Sums.{greatest, here}
use Rattle.sq_plan_good.specs.Loops.{StartsPart, starts_step, starts_by}

-- ---- numbers

pub number_itself : (m : ℕ) → (m == m) ≡ true
number_itself m = grind (arith, nat_tests)

pub greatest_both : {A : Type 0} (f : A → ℕ) (xs ys : List A) → greatest f (xs ++ ys) ≡ max (greatest f xs) (greatest f ys)
greatest_both f [] ys = omega arith
greatest_both f (x ∷ xs) ys = let ih = greatest_both f xs ys in omega (arith, ih)

pub here_both : (node x a b : ℕ) → here node x (a + b) ≡ here node x a + here node x b
here_both node x a b = by (node == x)
  where
    by : (v : Bool) → (if v then a + b else 0) ≡ (if v then a else 0) + (if v then b else 0)
    by true = refl
    by false = refl

-- ---- the equations of the fold

pub begun_call : (lower : Bool) (instances : List CallInstance)
    → begun.begun (b.Call lower instances) ≡ begun_step (Statement-F.Call lower instances)
begun_call lower instances = ap begun.begun (sym (b.rolls-Call lower instances))
    ∙ fold-roll-Statement BegunPart begun_step (Statement-F.Call lower instances)

pub begun_map : (place : Place) (m : LoopKind) (counts starts : List ℕ) (list : List Statement)
    → begun.begun (b.Map place m counts starts list)
    ≡ begun_step (Statement-F.Map place m counts starts (map begun.begun list))
begun_map place m counts starts list = ap begun.begun (sym (b.rolls-Map place m counts starts list))
    ∙ fold-roll-Statement BegunPart begun_step (Statement-F.Map place m counts starts list)

pub starts_call : (homes : ℕ → Homes) (lower : Bool) (instances : List CallInstance)
    → starts_by homes (b.Call lower instances) ≡ starts_step homes (Statement-F.Call lower instances)
starts_call homes lower instances = ap (starts_by homes) (sym (b.rolls-Call lower instances))
    ∙ fold-roll-Statement StartsPart (starts_step homes) (Statement-F.Call lower instances)

pub starts_map : (homes : ℕ → Homes) (place : Place) (m : LoopKind) (counts starts : List ℕ) (list : List Statement)
    → starts_by homes (b.Map place m counts starts list)
    ≡ starts_step homes (Statement-F.Map place m counts starts (map (starts_by homes) list))
starts_map homes place m counts starts list = ap (starts_by homes) (sym (b.rolls-Map place m counts starts list))
    ∙ fold-roll-Statement StartsPart (starts_step homes) (Statement-F.Map place m counts starts list)

-- ---- where a statement is begun

-- for the k-th time, this iteration of a spread map being round it
pub record Begins (s : Setting) (env : Env) (rule : SpreadRule) (node : ℕ) (round : Option Turn) (k : ℕ)
    (c : Context) : Type 0 where
  pub ordinal : IsNumber s env.turns c.ordinal k
  pub child : Num
  pub child_is : c.child ≡ Some child
  pub value : value_of s child env ≡ pos (child_in rule (s.children node) round)
  pub node_is : node_of env ≡ node

pub turn_begins : (s : Setting) (env : Env) (rule : SpreadRule) (node : ℕ) (round : Option Turn) (k : ℕ) (c : Context)
    (count : Num) (m : ℕ) → value_of s count env ≡ pos m → (starts : List ℕ) (t : ℕ) (v : Bool)
    → Begins s env rule node round k c
    → Begins s (at_turn env t) rule node (turn_in v round m t) (get_or starts k 0 + t)
    (in_map (if v then Some rule else None) count starts c)
turn_begins s env rule node round k c count m counted starts t v h = by v rule refl
  where
    counts : IsNumber s (t ∷ env.turns) (n.Add (n.Pick (numbers starts) (lift 1 c.ordinal)) (n.Index 0))
        (get_or starts k 0 + t)
    counts = sum s (t ∷ env.turns) (n.Pick (numbers starts) (lift 1 c.ordinal)) (n.Index 0) (get_or starts k 0) t
        (picked s (t ∷ env.turns) starts (lift 1 c.ordinal) k (lifted_is s env.turns c.ordinal k t h.ordinal))
        (turn s env.turns t)

    children : value_of s n.Children (at_turn env t) ≡ pos (s.children node)
    children = children_is s (at_turn env t) ∙ ap (λ (y : ℕ). pos (s.children y)) h.node_is

    by : (w : Bool) (q : SpreadRule) → q ≡ rule → Begins s (at_turn env t) q node (turn_in w round m t) (get_or starts k 0 + t)
        (in_map (if w then Some q else None) count starts c)
    by false q e = record {
      ordinal = counts;
      child = lift 1 h.child;
      child_is = ap lift_child h.child_is;
      value = lift_one s t h.child env ∙ h.value
          ∙ ap (λ (y : SpreadRule). pos (child_in y (s.children node) round)) (sym e);
      node_is = h.node_is;
    }
    by true Cyclic e = record {
      ordinal = counts;
      child = n.Rem (n.Index 0) n.Children;
      child_is = refl;
      value = rem_is s (at_turn env t) (n.Index 0) n.Children t (s.children node) (index_is s (at_turn env t) 0)
          children;
      node_is = h.node_is;
    }
    by true Blocked e = record {
      ordinal = counts;
      child = n.Div (n.Mul (n.Index 0) n.Children) (lift 1 count);
      child_is = refl;
      value = div_is s (at_turn env t) (n.Mul (n.Index 0) n.Children) (lift 1 count) (t * s.children node) m
          (mul_is s (at_turn env t) (n.Index 0) n.Children t (s.children node) (index_is s (at_turn env t) 0) children)
          (lift_one s t count env ∙ counted);
      node_is = h.node_is;
    }

-- ---- where lower calls go

-- to this node, from where a statement is begun for the k-th time
pub record GoesTo (s : Setting) (env : Env) (to k : ℕ) (c : Context) : Type 0 where
  pub ordinal : IsNumber s env.turns c.ordinal k
  pub node_is : node_of (inside_of s env c.child) ≡ to

pub turns_stay : (s : Setting) (env : Env) (o : Option Num) → env.turns ≡ (inside_of s env o).turns
turns_stay s env None = refl
turns_stay s env (Some q) = refl

-- inside a loop that arguments leave
pub goes_entered : (s : Setting) (env : Env) (to k : ℕ) (c : Context) → GoesTo s env to k c
    → GoesTo s (inside_of s env c.child) to k (at_child_already c)
goes_entered s env to k c g = record {
  ordinal = subst (λ (ts : List ℕ). IsNumber s ts c.ordinal k) (turns_stay s env c.child) g.ordinal;
  node_is = g.node_is;
}

pub goes_in_turn : (s : Setting) (env : Env) (to k : ℕ) (c : Context) (count : Num) (starts : List ℕ) (t : ℕ)
    → GoesTo s env to k c → GoesTo s (at_turn env t) to (get_or starts k 0 + t) (in_map None count starts c)
goes_in_turn s env to k c count starts t g = record {
  ordinal = sum s (t ∷ env.turns) (n.Pick (numbers starts) (lift 1 c.ordinal)) (n.Index 0) (get_or starts k 0) t
      (picked s (t ∷ env.turns) starts (lift 1 c.ordinal) k (lifted_is s env.turns c.ordinal k t g.ordinal))
      (turn s env.turns t);
  node_is = by c.child g.node_is;
}
  where
    by : (o : Option Num) → node_of (inside_of s env o) ≡ to → node_of (inside_of s (at_turn env t) (lift_child o)) ≡ to
    by None h = h
    by (Some q) h = ap (λ (z : ℤ). node_of (at_child s env (nat_abs z))) (lift_one s t q env) ∙ h

-- ---- sums

module _ (s : Setting) (x : ℕ) where
  abbrev pub of_scopes : Scopes → ℕ
  of_scopes = sum_at (total s.size) x

  abbrev pub of_term : Term → Env → ℕ
  of_term y env = of_scopes (scopes_of s y env)

  pub weighs_here : (node : ℕ) (bs : List ℕ)
      → total s.size (at_node x (record { node = node; buffers = bs })) ≡ here node x (total s.size bs)
  weighs_here node bs = by (node == x)
    where
      by : (v : Bool) → total s.size (if v then bs else []) ≡ (if v then total s.size bs else 0)
      by true = refl
      by false = refl

  -- a: what stands round them besides
  pub each_more : {A : Type 0} (w : A → ℕ) (a m : ℕ) (f : ℕ → Scopes) (g : ℕ → List A) (t : ℕ) → (a ≡ 0) ⊎ (0 < m)
      → ((i : ℕ) → t ≤ i → i < t + m → a + of_scopes (f i) ≡ greatest w (g i))
      → a + of_scopes (each_of m f t) ≡ greatest w (flat_map g (range_with_len t m))
  unfolding each_of
  each_more w a zero f g t (inl z) h = let q : a + 0 ≡ 0 = omega (arith, z) in q
  each_more w a zero f g t (inr l) h = absurd (omega (arith, l))
  each_more w a (suc zero) f g t e h =
      let x = of_scopes (f t) in
      let p : a + max x 0 ≡ a + x = omega arith in
      let q : greatest w (g t) ≡ max (greatest w (g t)) 0 = omega arith in
      p ∙ h t (omega arith) (omega arith) ∙ q ∙ sym (greatest_both w (g t) [])
  each_more w a (suc (suc m)) f g t e h =
      let x = of_scopes (f t) in
      let y = of_scopes (each_of (suc m) f (t + 1)) in
      let p : a + max x y ≡ max (a + x) (a + y) = omega arith in
      p ∙ ap₂ max (h t (omega arith) (omega arith))
      (each_more w a (suc m) f g (t + 1) (inr (omega arith)) (λ i l u. h i (omega (arith, l)) (omega (arith, u))))
      ∙ sym (greatest_both w (g t) (flat_map g (range_with_len (t + 1) (suc m))))

  pub each_same : {A : Type 0} (w : A → ℕ) (m : ℕ) (f : ℕ → Scopes) (g : ℕ → List A) (t : ℕ)
      → ((i : ℕ) → t ≤ i → i < t + m → of_scopes (f i) ≡ greatest w (g i))
      → of_scopes (each_of m f t) ≡ greatest w (flat_map g (range_with_len t m))
  each_same w m f g t h =
      none (of_scopes (each_of m f t))
      ∙ each_more w 0 m f g t (inl refl) (λ i l u. sym (none (of_scopes (f i))) ∙ h i l u)
    where
      none : (k : ℕ) → k ≡ 0 + k
      none k = omega arith

  each_none : (m : ℕ) (f : ℕ → Scopes) (t : ℕ) → ((i : ℕ) → of_scopes (f i) ≡ 0) → of_scopes (each_of m f t) ≡ 0
  unfolding each_of
  each_none zero f t h = refl
  each_none (suc m) f t h = ap₂ max (h t) (each_none m f (t + 1) h)

  -- ---- what serves arguments has no scope

  abbrev pub Quiet : Term → Type 0
  Quiet y = (env : Env) → of_term y env ≡ 0

  pub skip_quiet : Quiet term.Skip
  skip_quiet env = ap (λ (f : ScopesAt). of_scopes (f env)) (scopes_skip s)

  act_quiet : (a : Action) → Quiet (term.Act a)
  act_quiet a env = ap (λ (f : ScopesAt). of_scopes (f env)) (scopes_act s a)

  rows_quiet : (extents : List ℕ) (a : Action) → Quiet (by_rows extents a)
  rows_quiet extents a env = ap (λ (f : ScopesAt). of_scopes (f env)) (scopes_loop s _ (term.Act a))
      ∙ each_none _ _ 0 (λ t. act_quiet a (at_turn env t))

  pub if_quiet : (v : Bool) (y : Term) → Quiet y → Quiet (if v then y else term.Skip)
  if_quiet true y h = h
  if_quiet false y h = skip_quiet

  pub bring_quiet : (m : Move) → Quiet (bring_term m)
  bring_quiet m = by m.gathers m.mode
    where
      by : (o : Option RedOp) (k : Mode) → Quiet (bring_term_by o k m)
      by (Some op) k = rows_quiet _ _
      by None Input = if_quiet (is_moved m.home) (copy_in_term m) (rows_quiet _ _)
      by None Output = rows_quiet _ _
      by None Both = if_quiet (is_moved m.home) (copy_in_term m) (rows_quiet _ _)

  pub back_quiet : (m : Move) → Quiet (back_term m)
  back_quiet m = by m.gathers m.mode
    where
      by : (o : Option RedOp) (k : Mode) → Quiet (back_term_by o k m)
      by (Some op) k = rows_quiet _ _
      by None Input = skip_quiet
      by None Output = if_quiet (is_moved m.home) (copy_out_term m) (rows_quiet _ _)
      by None Both = if_quiet (is_moved m.home) (copy_out_term m) (rows_quiet _ _)

  hold_in_quiet : (m : Move) → Quiet (hold_in_term m)
  hold_in_quiet m = by m.mode
    where
      by : (k : Mode) → Quiet (hold_in_term_by k m)
      by Input = rows_quiet _ _
      by Output = skip_quiet
      by Both = rows_quiet _ _

  hold_out_quiet : (m : Move) → Quiet (hold_out_term m)
  hold_out_quiet m = by m.mode
    where
      by : (k : Mode) → Quiet (hold_out_term_by k m)
      by Input = skip_quiet
      by Output = rows_quiet _ _
      by Both = rows_quiet _ _

  all_quiet : {A : Type 0} (f : A → Term) → ((y : A) → Quiet (f y)) → (ys : List A) (env : Env)
      → of_scopes (all_at (map (scopes_of s) (map f ys)) env) ≡ 0
  all_quiet f h [] env = refl
  all_quiet f h (y ∷ ys) env = ap₂ max (h y env) (all_quiet f h ys env)

  pub par_quiet : {A : Type 0} (f : A → Term) → ((y : A) → Quiet (f y)) → (ys : List A) → Quiet (term.Par (map f ys))
  par_quiet f h ys env = ap (λ (g : ScopesAt). of_scopes (g env)) (scopes_par s (map f ys)) ∙ all_quiet f h ys env

  -- ---- a scope round a part

  pub within_sum : (child : Option Num) (bs : List ℕ) (y : Term) (env : Env)
      → of_term (term.Within child bs y) env
      ≡ here (node_of (inside_of s env child)) x (total s.size bs) + of_term y (inside_of s env child)
  within_sum child bs y env = ap (λ (f : ScopesAt). of_scopes (f env)) (scopes_within s child bs y)
      ∙ ap (λ (k : ℕ). k + of_term y (inside_of s env child)) (weighs_here (node_of (inside_of s env child)) bs)

  pub callee_sum : (ks : List PlacedLocal) (y : Term) (env : Env)
      → of_term (callee_term ks y) env ≡ here (node_of env) x (total s.size (local_buffers ks)) + of_term y env
  callee_sum ks y env =
      within_sum None (local_buffers ks) _ env
      ∙ ap (λ (k : ℕ). here (node_of env) x (total s.size (local_buffers ks)) + k) inner
    where
      fills : of_term (term.Par (map (λ k. clear_term (local_view k)) ks)) env ≡ 0
      fills = par_quiet (λ k. clear_term (local_view k)) (λ k. rows_quiet _ _) ks env

      inner : of_term (term.Seq (term.Par (map (λ k. clear_term (local_view k)) ks) ∷ y ∷ [])) env ≡ of_term y env
      inner = ap (λ (f : ScopesAt). of_scopes (f env)) (scopes_seq s _)
          ∙ (let q = fills in omega (arith, q))

  parts_sum : (ms : List Move) (ks : List PlacedLocal) (y : Term) (env : Env)
      → of_term (term.Seq (call_parts ms ks y)) env
      ≡ here (node_of env) x (total s.size (local_buffers ks)) + of_term y env
  parts_sum ms ks y env =
      ap (λ (f : ScopesAt). of_scopes (f env)) (scopes_seq s _)
      ∙ (let p = par_quiet bring_term bring_quiet ms env in
      let q = par_quiet back_term back_quiet ms env in
      let r = callee_sum ks y env in omega (arith, p, q, r))

  -- ---- a loop that arguments leave

  pub nothing_here : (node : ℕ) → here node x 0 ≡ 0
  nothing_here node = by (node == x) 0 refl
    where
      by : (v : Bool) (k : ℕ) → k ≡ 0 → (if v then k else 0) ≡ 0
      by true k e = e
      by false k e = refl

  -- a: what stands round the loop besides; b: the same without these arguments
  pub hold_sum : (shapes : List Shape) (hs : List Home) (times : List CallInstance) (number : Num)
      (ps : List (ℕ × Argument)) (inside : Bool) (c : Context) (env : Env) (to k a b w : ℕ)
      (loop : Bool → Context → Term) → GoesTo s env to k c → b + here to x (total s.size (leaving_buffers hs ps)) ≡ a
      → ((v : Bool) (d : Context) (e : Env) → GoesTo s e to k d → a + of_term (loop v d) e ≡ w)
      → b + of_term (hold_term shapes hs times number ps inside c loop) env ≡ w
  hold_sum shapes hs times number [] inside c env to k a b w loop g e h =
      let z = nothing_here to in
      let is : b ≡ a = omega (arith, z, e) in
      ap (λ (m : ℕ). m + of_term (loop inside c) env) is ∙ h inside c env g
  hold_sum shapes hs times number (p ∷ ps) inside c env to k a b w loop g e h =
      let ms = held_moves shapes hs c.views times number (p ∷ ps) in
      let bs = leaving_buffers hs (p ∷ ps) in
      let deeper = inside_of s env c.child in
      let all = term.Par (map hold_in_term ms) ∷ loop true (at_child_already c) ∷ term.Par (map hold_out_term ms)
      ∷ [] in
      let round = within_sum c.child bs (term.Seq all) env in
      let at = ap (λ (m : ℕ). here m x (total s.size bs)) g.node_is in
      let parts = ap (λ (f : ScopesAt). of_scopes (f deeper)) (scopes_seq s all) in
      let ins = par_quiet hold_in_term hold_in_quiet ms deeper in
      let outs = par_quiet hold_out_term hold_out_quiet ms deeper in
      let inner = h true (at_child_already c) deeper (goes_entered s env to k c g) in
      omega (arith, round, at, parts, ins, outs, inner, e)

  -- ---- calls

  buffers_same : (hs : List Home) (i : ℕ) {xs ys : List Argument} → Each IsHead xs ys → buffers_from hs i ys
      ≡ buffers_from hs i xs
  buffers_same hs i none = refl
  buffers_same hs i (more head heads) = ap (buffer_of (get_or hs i InPlace)) (buffers_same hs (suc i) heads)

  pub entered : (env : Env) (rule : SpreadRule) (node : ℕ) (round : Option Turn) (k : ℕ) (c : Context) (lower : Bool)
      → Begins s env rule node round k c
      → node_of (inside_of s env (call_child lower c))
      ≡ callee_node s lower node (child_in rule (s.children node) round)
  entered env rule node round k c false h = h.node_is
  entered env rule node round k c true h =
      ap (λ (o : Option Num). node_of (inside_of s env o)) h.child_is
      ∙ ap (λ (v : Bool). if v then s.child (node_of env) (count_of s h.child env) else env.nodes (suc env.level))
      (number_itself (suc env.level))
      ∙ ap₂ s.child h.node_is (ap nat_abs h.value)

  arm_there : {A : Type 0} (f : A → Term) (qs : List A) (k : ℕ) (q : A) (env : Env) → slice_get qs k ≡ Some q
      → of_scopes (arm_of (map (scopes_of s) (map f qs)) k env) ≡ of_term (f q) env
  arm_there f [] k q env h = cc
  arm_there f (y ∷ qs) zero q env h = let e : y ≡ q = cc in ap (λ z. of_term (f z) env) e
  arm_there f (y ∷ qs) (suc k) q env h = arm_there f qs k q env h

  module _ (bodies : ℕ → FormBody) (homes : ℕ → Homes) where
    -- the callees' sums
    abbrev pub AreSums : (ℕ → Context → Term) → (ℕ → ℕ → ℕ) → Type 0
    AreSums made inside = (f : ℕ) (c : Context) (env : Env) (node : ℕ) → Begins s env (homes f).rule node None 0 c
        → of_term (made f c) env ≡ inside f node

    module _ (made : ℕ → Context → Term) (inside : ℕ → ℕ → ℕ) (callees : AreSums made inside) where
      pub arm_sum : (params : List Home) (op : Option RedOp) (lower : Bool) (instances : List CallInstance)
          (r arm : CallInstance) (c : Context) (env : Env) (to : ℕ) → r.form ≡ arm.form → Each IsHead r.args arm.args
          → node_of (inside_of s env (call_child lower c)) ≡ to
          → of_term (arm_term bodies homes made params op lower c instances arm) env
          ≡ here to x (total s.size
          (buffers_from params 0 r.args ++ local_buffers (locals_of (bodies r.form) (homes r.form))))
          + inside r.form to
      arm_sum params op lower instances r arm c env to form heads at_node =
          ap (λ (f : ℕ). of_term (arm_term bodies homes made params op lower c instances
          (record { form = f; args = arm.args })) env) (sym form)
          ∙ within_sum (call_child lower c) (buffers_from params 0 arm.args) _ env
          ∙ ap₂ (λ (i j : ℕ). i + j) (ap (λ (bs : List ℕ). here (node_of deeper) x (total s.size bs)) (buffers_same params 0 heads))
          (parts_sum ms ks y deeper)
          ∙ ap₂ (λ (i j : ℕ). here i x brings + (here i x ends + j)) at_node
          (callees r.form (in_callee c ms ks) deeper to begins)
          ∙ sums
        where
          deeper : Env
          deeper = inside_of s env (call_child lower c)

          ms : List Move
          ms = moves_from op (bodies r.form).arrays params c instances 0 arm.args

          ks : List PlacedLocal
          ks = locals_of (bodies r.form) (homes r.form)

          y : Term
          y = made r.form (in_callee c ms ks)

          brings : ℕ
          brings = total s.size (buffers_from params 0 r.args)

          ends : ℕ
          ends = total s.size (local_buffers ks)

          begins : Begins s deeper (homes r.form).rule to None 0 (in_callee c ms ks)
          begins = record {
            ordinal = constant s deeper.turns 0;
            child = n.Const (pos 0);
            child_is = refl;
            value = const_is s deeper (pos 0);
            node_is = at_node;
          }

          sums : here to x brings + (here to x ends + inside r.form to)
              ≡ here to x (total s.size (buffers_from params 0 r.args ++ local_buffers ks)) + inside r.form to
          sums =
              let p = here_both to x brings ends in
              let q = ap (here to x) (total_append s.size (buffers_from params 0 r.args) (local_buffers ks)) in
              omega (arith, p, q)

      -- what a row gives at the node to which its call goes: the buffers that stand just round it, and what it needs
      abbrev pub row_gives : (to : ℕ) → Option CallInstance → ℕ
      row_gives to None = 0
      row_gives to (Some r) =
          here to x (total s.size
          (buffers_from (homes r.form).params 0 r.args ++ local_buffers (locals_of (bodies r.form) (homes r.form))))
          + inside r.form to

      pub rows_sum : (op : Option RedOp) (lower : Bool) (instances : List CallInstance) (k : ℕ) (c : Context) (env : Env)
          (to : ℕ) → IsNumber s env.turns c.ordinal k → node_of (inside_of s env (call_child lower c)) ≡ to
          → of_term (rows_term bodies homes made op lower c instances) env ≡ row_gives to (slice_get instances k)
      rows_sum op lower instances k c env to ordinal at_node =
          ap (λ (f : ScopesAt). of_scopes (f env)) (scopes_case s _ (term.Skip ∷ map arm (arms_of instances)))
          ∙ ap (λ z. of_scopes (arm_at (map (scopes_of s) (term.Skip ∷ map arm (arms_of instances))) z env))
          (table_is s env (picks (arms_of instances) instances) c.ordinal k (ordinal.value env.level env.nodes)
          ∙ ap pos (picks_are (arms_of instances) instances k))
          ∙ by (slice_get instances k) refl
        where
          arm : CallInstance → Term
          arm = arm_of_form bodies homes made op lower c instances

          by : (o : Option CallInstance) → slice_get instances k ≡ o
              → of_scopes (arm_of (map (scopes_of s) (term.Skip ∷ map arm (arms_of instances)))
              (pick_of (arms_of instances) o) env)
              ≡ row_gives to o
          by None e = skip_quiet env
          by (Some r) e =
              let has = arm_of_row instances k r e in
              arm_there arm (arms_of instances) (arm_number (arms_of instances) r) has.arm env has.there
              ∙ ap (λ (f : ℕ). of_term (arm_term bodies homes made (homes f).params op lower c instances has.arm) env)
              (sym has.form)
              ∙ arm_sum (homes r.form).params op lower instances r has.arm c env to has.form has.heads at_node
