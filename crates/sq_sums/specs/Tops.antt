-- The scopes of a term written out, each with its node and with what is open at this node in it; numbers are words.
use Rattle.std.specs.Prelude.{ℕ, ◌+◌, ◌==◌, Bool, true, false, ◌||◌, nat_lt, List, [], ◌∷◌, map, get_or, set, Option}
use Rattle.std.specs.Prelude.{Some, None, if◌then◌else◌}
use Rattle.sq_ir.specs.Plans.{node_at}
use Rattle.sq_ir.specs.declared.term.Term.{Term}
use Rattle.sq_ir.specs.declared.term.Term.TheOpen.{Term-F}
use Rattle.sq_ir.specs.declared.term.Term.TheFolds.{fold-Term}
use Rattle.sq_ir.specs.declared.num.Num.{Num}
use Rattle.sq_ir.specs.declared.plan.PlanNode.{PlanNode}
use Rattle.sq_term_nums.specs.Words.{Env, turns_of, value, count}
use Rattle.sq_nests.specs.Nests.{Nest, End, Open}
use Rattle.sq_nests.specs.Stacks.{capped}
use Rattle.sq_sums.specs.Parts.{all_parts, each_turn, arm_at, greatest, through}
use Rattle.sq_sums.specs.declared.stand.Stand as rust

-- where a part stands: the numbers of the iterations round it, innermost first, the node in force, and the bytes of the
-- buffers that are open at this node
pub record Stand : Type 0 where
  pub turns : List ℕ
  pub node : ℕ
  pub held : ℕ

abbrev pub stand_of : rust.Stand → Stand
stand_of p = record { turns = turns_of p.turns.now; node = p.node; held = p.held }

abbrev pub at_turn : Stand → ℕ → Stand
at_turn p t = record { turns = t ∷ p.turns; node = p.node; held = p.held }

-- with so many bytes more
abbrev pub with_more : (weight : ℕ) → Stand → Stand
with_more w p = record { turns = p.turns; node = p.node; held = capped (p.held + w) }

-- at another node, where so many bytes are open
abbrev pub at_other : (node weight : ℕ) → Stand → Stand
at_other n w p = record { turns = p.turns; node = n; held = w }

-- so many bytes are open at a node
pub record Top : Type 0 where
  pub node : ℕ
  pub held : ℕ

abbrev pub Tops : Type 0
Tops = Nest Top

abbrev pub TopsAt : Type 0
TopsAt = Stand → Tops

abbrev pub open_scope : TopsAt → TopsAt
open_scope f p = Open (record { node = p.node; held = p.held }) (f p)

module _ (nodes : List PlanNode) where
  abbrev pub env_at : Stand → Env
  env_at p = record { turns = p.turns; children = (node_at nodes p.node).children }

  abbrev pub child_at : (node c : ℕ) → ℕ
  child_at n c = (node_at nodes n).first_child + c

  -- at a child, if the node has so many
  abbrev pub at_child : (k weight : ℕ) → TopsAt → TopsAt
  at_child k w f p = if nat_lt k (node_at nodes p.node).children then open_scope f (at_other (child_at p.node k) w p)
      else End

module _ (nodes : List PlanNode) (weigh : List ℕ → ℕ) where
  abbrev pub scope_tops : Option Num → List ℕ → TopsAt → TopsAt
  scope_tops None bs f p = open_scope f (with_more (capped (weigh bs)) p)
  scope_tops (Some c) bs f p = at_child nodes (count c (env_at nodes p)) (capped (weigh bs)) f p

  abbrev pub tops_step : Term-F TopsAt → TopsAt
  tops_step Term-F.Skip p = End
  tops_step (Term-F.Act a) p = End
  tops_step (Term-F.Seq fs) p = all_parts fs p
  tops_step (Term-F.Par fs) p = all_parts fs p
  tops_step (Term-F.Loop c f) p = each_turn (count c (env_at nodes p)) (λ t. f (at_turn p t)) 0
  tops_step (Term-F.Spread c rule f) p = each_turn (count c (env_at nodes p)) (λ t. f (at_turn p t)) 0
  tops_step (Term-F.Case pick fs) p = arm_at fs (value pick (env_at nodes p)) p
  tops_step (Term-F.Within c bs f) p = scope_tops c bs f p

  abbrev pub tops : Term → TopsAt
  tops = fold-Term TopsAt tops_step

-- ---- what comes up at a node

abbrev pub held_at : ℕ → Top → ℕ
held_at m t = if t.node == m then t.held else 0

-- the most that is open at a node
abbrev pub highest : ℕ → Tops → ℕ
highest m x = greatest (held_at m) x

-- a number for each node, of which one is at least so much
abbrev pub raise_to : Top → List ℕ → List ℕ
raise_to t sums = if nat_lt (get_or sums t.node 0) t.held then set sums t.node t.held else sums

abbrev pub raise_by : Tops → List ℕ → List ℕ
raise_by x sums = through raise_to x sums

-- ---- parts without a scope

abbrev pub any_scope : List Bool → Bool
any_scope [] = false
any_scope (v ∷ vs) = v || any_scope vs

abbrev pub has_scope_step : Term-F Bool → Bool
has_scope_step Term-F.Skip = false
has_scope_step (Term-F.Act a) = false
has_scope_step (Term-F.Seq vs) = any_scope vs
has_scope_step (Term-F.Par vs) = any_scope vs
has_scope_step (Term-F.Loop c v) = v
has_scope_step (Term-F.Spread c rule v) = v
has_scope_step (Term-F.Case pick vs) = any_scope vs
has_scope_step (Term-F.Within c bs v) = true

abbrev pub has_scope : Term → Bool
has_scope = fold-Term Bool has_scope_step

abbrev pub have_scope : List Term → Bool
have_scope ts = any_scope (map has_scope ts)
