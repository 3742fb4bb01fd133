-- What an action adds to a sum, and the sum of a term's actions as often as they stand in it; numbers are words.
use Rattle.std.specs.Prelude.{ℕ, zero, suc, ◌+◌, ◌*◌, List, [], ◌∷◌, Option, Some, None, if◌then◌else◌, ℤ, pos, negsuc}
use Rattle.std.specs.List.{All, Contains}
use Rattle.sq_num.specs.Elements.{width}
use Rattle.sq_ir.specs.Written.{at_root}
use Rattle.sq_ir.specs.Events.{Event}
use Rattle.sq_ir.specs.Machines.{AreNodes}
use Rattle.sq_ir.specs.Plans.{AskedOfActions, IsBuffer, Meets, of_buffer, setting_of}
use Rattle.sq_ir.specs.Traffic as traffic
use Rattle.sq_ir.specs.Traffic.{is_edge}
use Rattle.sq_ir.specs.declared.num.Num.{Num}
use Rattle.sq_ir.specs.declared.term.Action.{Action}
use Rattle.sq_ir.specs.declared.term.Action.TheVariants as action
use Rattle.sq_ir.specs.declared.term.Term.{Term}
use Rattle.sq_ir.specs.declared.term.Term.TheOpen.{Term-F}
use Rattle.sq_ir.specs.declared.term.Term.TheFolds.{fold-Term}
use Rattle.sq_ir.specs.declared.plan.Buffer.{Buffer}
use Rattle.sq_ir.specs.declared.plan.PlanNode.{PlanNode}
use Rattle.sq_ir.specs.declared.plan.Plan.{Plan}
use Rattle.sq_nests.specs.Stacks.{capped}
use Rattle.sq_term_nums.specs.Words.{value, count}
use Rattle.sq_sums.specs.declared.toll.Kind.{Kind}
use Rattle.sq_sums.specs.declared.toll.Kind.TheVariants.{Down, Up, Copies, Fills, Accumulations, Leaves}
use Rattle.sq_sums.specs.Tops.{Stand, at_turn, at_other, child_at, env_at}

-- ---- actions

module _ (buffers : List Buffer) where
  -- the level of a buffer
  abbrev pub level_of : ℕ → ℕ
  level_of b = of_buffer buffers (λ b. b.level) b

  abbrev pub toll : Kind → Action → ℕ
  toll (Down edge) (action.CopyRow from to bytes) = if is_edge (level_of from.buffer) (level_of to.buffer) edge
      then bytes else 0
  toll (Down edge) (action.FillRow to elem count value) = 0
  toll (Down edge) (action.AccRow op elem from to count) = 0
  toll (Down edge) (action.Leaf code views path) = 0
  toll (Up edge) (action.CopyRow from to bytes) = if is_edge (level_of to.buffer) (level_of from.buffer) edge
      then bytes else 0
  toll (Up edge) (action.FillRow to elem count value) = 0
  toll (Up edge) (action.AccRow op elem from to count) = if is_edge (level_of to.buffer) (level_of from.buffer) edge
      then count * width elem else 0
  toll (Up edge) (action.Leaf code views path) = 0
  toll Copies (action.CopyRow from to bytes) = 1
  toll Copies (action.FillRow to elem count value) = 0
  toll Copies (action.AccRow op elem from to count) = 0
  toll Copies (action.Leaf code views path) = 0
  toll Fills (action.CopyRow from to bytes) = 0
  toll Fills (action.FillRow to elem count value) = 1
  toll Fills (action.AccRow op elem from to count) = 0
  toll Fills (action.Leaf code views path) = 0
  toll Accumulations (action.CopyRow from to bytes) = 0
  toll Accumulations (action.FillRow to elem count value) = 0
  toll Accumulations (action.AccRow op elem from to count) = 1
  toll Accumulations (action.Leaf code views path) = 0
  toll Leaves (action.CopyRow from to bytes) = 0
  toll Leaves (action.FillRow to elem count value) = 0
  toll Leaves (action.AccRow op elem from to count) = 0
  toll Leaves (action.Leaf code views path) = 1

-- what an event adds
abbrev pub event_toll : (level : ℕ → ℕ) → Kind → Event → ℕ
event_toll level (Down edge) = traffic.down_by level edge
event_toll level (Up edge) = traffic.up_by level edge
event_toll level Copies = traffic.copies_by
event_toll level Fills = traffic.fills_by
event_toll level Accumulations = traffic.accumulations_by
event_toll level Leaves = traffic.leaves_by

-- ---- terms

abbrev pub SumAt : Type 0
SumAt = Stand → ℕ

abbrev pub all_sum : {P : Type 0} → List (P → ℕ) → P → ℕ
all_sum [] p = 0
all_sum (f ∷ fs) p = f p + all_sum fs p

-- the sum of f of so many numbers from t on
unfoldable pub each_sum : (count : ℕ) → (ℕ → ℕ) → (t : ℕ) → ℕ
each_sum zero f t = 0
each_sum (suc n) f t = f t + each_sum n f (t + 1)

abbrev pub arm_sum_of : {P : Type 0} → List (P → ℕ) → ℕ → P → ℕ
arm_sum_of [] k p = 0
arm_sum_of (f ∷ fs) zero p = f p
arm_sum_of (f ∷ fs) (suc k) p = arm_sum_of fs k p

abbrev pub arm_sum : {P : Type 0} → List (P → ℕ) → ℤ → P → ℕ
arm_sum fs (pos k) p = arm_sum_of fs k p
arm_sum fs (negsuc k) p = 0

module _ (nodes : List PlanNode) where
  -- at a child; there is no node past 64 bits
  abbrev pub at_child_word : (k : ℕ) → Stand → Stand
  at_child_word k p = at_other (capped (child_at nodes p.node k)) 0 p

  abbrev pub scope_sum : Option Num → SumAt → SumAt
  scope_sum None f p = f p
  scope_sum (Some c) f p = f (at_child_word (count c (env_at nodes p)) p)

module _ (nodes : List PlanNode) (toll_of : Action → ℕ) where
  abbrev pub sum_step : Term-F SumAt → SumAt
  sum_step Term-F.Skip p = 0
  sum_step (Term-F.Act a) p = toll_of a
  sum_step (Term-F.Seq fs) p = all_sum fs p
  sum_step (Term-F.Par fs) p = all_sum fs p
  sum_step (Term-F.Loop c f) p = each_sum (count c (env_at nodes p)) (λ t. f (at_turn p t)) 0
  sum_step (Term-F.Spread c rule f) p = each_sum (count c (env_at nodes p)) (λ t. f (at_turn p t)) 0
  sum_step (Term-F.Case k fs) p = arm_sum fs (value k (env_at nodes p)) p
  sum_step (Term-F.Within c bs f) p = scope_sum nodes c f p

  abbrev pub sum_of : Term → SumAt
  sum_of = fold-Term SumAt sum_step

-- ---- what is asked of a plan

-- the buffers of an action's rows are in scope
abbrev pub InScope : AskedOfActions
InScope env bs (action.CopyRow from to bytes) = Contains bs from.buffer × Contains bs to.buffer
InScope env bs (action.FillRow to elem count value) = Contains bs to.buffer
InScope env bs (action.AccRow op elem from to count) = Contains bs from.buffer × Contains bs to.buffer
InScope env bs (action.Leaf code views path) = Unit {0}

-- The nodes are a machine's. Numbers have their values, counts aren't negative, children are there, each buffer that a
-- scope names is there with the level of the scope's node, and rows are of buffers in scope.
pub record IsTolled (p : Plan) : Type 0 where
  pub machine : AreNodes p.nodes
  pub entry : All (IsBuffer (setting_of p) 0) p.draft.entry
  pub term : Meets (setting_of p) InScope p.draft.term at_root p.draft.entry
