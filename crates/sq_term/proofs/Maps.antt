-- Maps written out, in sequence and spread by either rule.
use Rattle.std.proofs.Common.{◌≡◌, ℕ, ◌+◌, ◌*◌, ◌==◌, pos, Bool, true, false, not, ◌&&◌, ◌||◌, is_some, List, [], ◌∷◌}
use Rattle.std.proofs.Common.{◌++◌, get_or, Option, Some, None, refl, ap, ◌∙◌, arith, if◌then◌else◌}
use Rattle.std.proofs.lemmas.Bool.Decides.{nat_tests}
use Rattle.std.specs.Prelude.{nat_abs}
use Rattle.sq_text.specs.declared.place.Place.{Place}
use Rattle.sq_text.specs.declared.spread.SpreadRule.{SpreadRule}
use Rattle.sq_text.specs.declared.spread.SpreadRule.TheVariants.{Cyclic, Blocked}
use Rattle.sq_text.specs.Spreading.{child_of}
use Rattle.sq_ir.specs.Tree as tree
use Rattle.sq_ir.specs.Lifting.{lift}
use Rattle.sq_ir.specs.Written.{Setting, Env, PlanTree, value_of, at_turn, node_of, written, seq_of, par_of, turn_at}
use Rattle.sq_ir.specs.declared.num.Num.{Num}
use Rattle.sq_ir.specs.declared.num.Num.TheVariants as n
use Rattle.sq_ir.specs.declared.term.Term.{Term}
use Rattle.sq_ir.proofs.LiftOnce.{lift_one}
use Rattle.sq_ir.proofs.Equations.{written_loop, written_spread}
use Rattle.sq_placed.specs.Spec.declared.statement.LoopKind.{LoopKind}
use Rattle.sq_placed.specs.Spec.declared.statement.LoopKind.TheVariants as loop_kind
use Rattle.sq_placed.specs.Spec.Spreads.{is_beside}
use Rattle.sq_term.specs.declared.context.Context.{Context}
use Rattle.sq_placed.specs.Placed.{Placed}
use Rattle.sq_placed.specs.Seats.{Seat}
use Rattle.sq_placed.specs.Trees as trees
use Rattle.sq_placed.specs.Trees.{map_tree}
use Rattle.sq_placed.specs.Tables.{spread_of, map_placed}
use Rattle.sq_term.specs.Terms.{numbers, lift_view, child_in, in_map, map_term}
use Rattle.sq_term.specs.Stands.{none, more, IsNumber, IsSeat, Goes, to_child, entered, Stands}
use Rattle.sq_term.proofs.Numbers.{index_is, mul_is, div_is, rem_is, children_is, lifted_is, turn, sum, picked}
use Rattle.sq_term.proofs.Turns.{seq_same, par_same, each_left, each_append}
use Rattle.sq_term.proofs.Rows.{lift_seat}

-- where the lower calls of an iteration go
abbrev pub child_at : Option SpreadRule → (count children child t : ℕ) → ℕ
child_at None count children child t = child
child_at (Some rule) count children child t = child_of rule count children t

-- only where no spread map stands round it a map is spread
pub record MayBe (spread : Option SpreadRule) (inside : Bool) : Type 0 where
  pub free : (rule : SpreadRule) → spread ≡ Some rule → inside ≡ false

pub may_be : (rule : SpreadRule) (m : LoopKind) (inside lower same : Bool)
    → MayBe (spread_of rule m inside lower same) inside
may_be rule m inside lower same = record { free = λ r. go (is_beside m) inside (lower && not same) r }
  where
    go : (a b x : Bool) (r : SpreadRule) → (if a && (not b && x) then Some rule else None) ≡ Some r → b ≡ false
    go a false x r e = refl
    go true true x r e = cc
    go false true x r e = cc

or_right : (a b : Bool) → a ≡ true → (a || b) ≡ true
or_right true b h = refl
or_right false b h = cc

-- ---- one iteration

module _ (s : Setting) (env : Env) (level node child : ℕ) (inside same : Bool) (here : env.nodes level ≡ node)
    (count : Num) (m : ℕ) (counted : value_of s count env ≡ pos m) (t : ℕ) where
  goes_on : (spread : Option SpreadRule) → MayBe spread inside → {o : Option Num}
      → Goes s env level node child inside same o
      → Goes s (at_turn env t) level node (child_at spread m (s.children node) child t) (inside || is_some spread) same
      (child_in spread count o)
  goes_on None may (to_child k is v) = to_child (lift 1 k) is (lift_one s t k env ∙ v)
  goes_on None may (entered is at i alone) = entered is at (or_right inside false i) alone
  goes_on (Some rule) may (entered is at i alone) = let z = may.free rule refl in let f : ⊥ = cc in absurd f
  goes_on (Some Cyclic) may (to_child k is v) =
      to_child _ is (rem_is s (at_turn env t) (n.Index 0) n.Children t (s.children node) (index_is s (at_turn env t) 0)
      (children_is s (at_turn env t) ∙ ap (λ (x : ℕ). pos (s.children x)) (ap env.nodes is ∙ here)))
  goes_on (Some Blocked) may (to_child k is v) =
      to_child _ is (div_is s (at_turn env t) (n.Mul (n.Index 0) n.Children) (lift 1 count) (t * s.children node) m
      (mul_is s (at_turn env t) (n.Index 0) n.Children t (s.children node) (index_is s (at_turn env t) 0)
      (children_is s (at_turn env t) ∙ ap (λ (x : ℕ). pos (s.children x)) (ap env.nodes is ∙ here)))
      (lift_one s t count env ∙ counted))

pub in_turn : (s : Setting) (env : Env) (level : ℕ) (c : Context) (inside same : Bool) (k node child : ℕ)
    (seats : List Seat) (path : List ℕ)
    → (spread : Option SpreadRule) → MayBe spread inside → (count : Num) (m : ℕ) → value_of s count env ≡ pos m
    → (starts : List ℕ) (t : ℕ)
    → Stands s env level c inside same k node child seats path
    → Stands s (at_turn env t) level (in_map spread count starts c) (inside || is_some spread) same
    (get_or starts k 0 + t) node (child_at spread m (s.children node) child t) seats (path ++ t ∷ [])
in_turn s env level c inside same k node child seats path spread may count m counted starts t h = record {
  ordinal = sum s (t ∷ env.turns) (n.Pick (numbers starts) (lift 1 c.ordinal)) (n.Index 0) (get_or starts k 0) t
      (picked s (t ∷ env.turns) starts (lift 1 c.ordinal) k (lifted_is s env.turns c.ordinal k t h.ordinal))
      (turn s env.turns t);
  goes = goes_on s env level node child inside same h.node_is count m counted t spread may h.goes;
  node_is = h.node_is;
  views = each_left (IsSeat s env level) (IsSeat s (at_turn env t) level) lift_view (lift_seat s env level t) h.views;
  numbers = each_append (IsNumber s (t ∷ env.turns))
      (each_left (IsNumber s env.turns) (IsNumber s (t ∷ env.turns)) (lift 1) (λ x v g. lifted_is s env.turns x v t g)
      h.numbers)
      (more (turn s env.turns t) none);
}

-- fewer statements
pub narrow : (s : Setting) (env : Env) (level : ℕ) (c : Context) (inside same less : Bool) (k node child : ℕ)
    (seats : List Seat) (path : List ℕ)
    → (same ≡ false → less ≡ false) → Stands s env level c inside same k node child seats path
    → Stands s env level c inside less k node child seats path
narrow s env level c inside same less k node child seats path f h
    = record { ordinal = h.ordinal; goes = go h.goes; node_is = h.node_is; views = h.views; numbers = h.numbers }
  where
    go : {o : Option Num} → Goes s env level node child inside same o → Goes s env level node child inside less o
    go (to_child x is v) = to_child x is v
    go (entered is at i alone) = entered is at i (f alone)

-- ---- all iterations

pub tree_map : (s : Setting) (rule : SpreadRule) (m : LoopKind) (inside lower same : Bool) (place : Place) (count : ℕ)
    (w : ℕ → Placed) (node child : ℕ) (seats : List Seat) (path : List ℕ)
    → trees.tree s (map_placed m place (spread_of rule m inside lower same) count w) node child seats path
    ≡ map_tree s (spread_of rule m inside lower same) node child count
    (λ c t. trees.tree s (w t) node c seats (path ++ t ∷ []))
tree_map s rule loop_kind.Sequential inside lower same place count w node child seats path = refl
tree_map s rule loop_kind.Parallel inside lower same place count w node child seats path = refl
tree_map s rule (loop_kind.Reduction r) inside lower same place count w node child seats path = refl

-- the node in force is the form's where a map is spread
spread_node : (s : Setting) (env : Env) (level node child : ℕ) (inside same : Bool) (rule : SpreadRule)
    → MayBe (Some rule) inside → env.nodes level ≡ node
    → {o : Option Num} → Goes s env level node child inside same o → node_of env ≡ node
spread_node s env level node child inside same rule may here (to_child k is v) = ap env.nodes is ∙ here
spread_node s env level node child inside same rule may here (entered is at i alone) = let z
    = may.free rule refl in let f : ⊥ = cc in absurd f

module _ (s : Setting) (env : Env) (level node child : ℕ) (inside same : Bool) (here : env.nodes level ≡ node)
    (count : Num) (m : ℕ) (counted : value_of s count env ≡ pos m) where
  pub map_is : (spread : Option SpreadRule) → MayBe spread inside → {o : Option Num}
      → Goes s env level node child inside same o → (x : Term) (part : ℕ → ℕ → PlanTree)
      → ((t : ℕ) → written s x (at_turn env t) ≡ part (child_at spread m (s.children node) child t) t)
      → written s (map_term spread count x) env ≡ map_tree s spread node child m part
  map_is None may g x part h =
      ap (λ f. f env) (written_loop s count x)
      ∙ ap (λ z. seq_of (nat_abs z) (λ t. written s x (at_turn env t)) 0) counted
      ∙ seq_same m (λ t. written s x (at_turn env t)) (part child) 0 (λ t l. h t)
  map_is (Some rule) may g x part h =
      ap (λ f. f env) (written_spread s count rule x)
      ∙ ap (λ z. par_of (s.children (node_of env))
      (λ c. seq_of (nat_abs z) (turn_at s rule (nat_abs z) (written s x) env c) 0) 0) counted
      ∙ ap (λ (z : ℕ). par_of (s.children z)
      (λ c. seq_of m (λ t. if child_of rule m (s.children z) t == c then written s x (at_turn env t) else tree.Skip) 0)
      0)
      (spread_node s env level node child inside same rule may here g)
      ∙ par_same (s.children node) _ _ 0
      (λ c lc. seq_same m _ _ 0 (λ t l. lane c t (child_of rule m (s.children node) t == c) refl))
    where
      lane : (c t : ℕ) (b : Bool) → (child_of rule m (s.children node) t == c) ≡ b
          → (if b then written s x (at_turn env t) else tree.Skip) ≡ (if b then part c t else tree.Skip)
      lane c t false e = refl
      lane c t true e = let z : child_of rule m (s.children node) t ≡ c
          = is_it (child_of rule m (s.children node) t) c e in h t ∙ ap (λ (d : ℕ). part d t) z
        where
          is_it : (a d : ℕ) → (a == d) ≡ true → a ≡ d
          is_it a d g = grind (arith, nat_tests, g)
