-- What is left of a part of a plan where it stands, its numbers being words.
use Rattle.std.specs.Prelude.{ℕ, ◌+◌, Option, if◌then◌else◌, min, List, map}
use Rattle.sq_text.specs.declared.spread.SpreadRule.{SpreadRule}
use Rattle.sq_text.specs.declared.spread.SpreadRule.TheVariants.{Cyclic}
use Rattle.sq_ir.specs.declared.num.Num.{Num}
use Rattle.sq_ir.specs.declared.term.Action.{Action}
use Rattle.sq_ir.specs.declared.term.Term.{Term}
use Rattle.sq_ir.specs.declared.plan.Plan.{Plan}
use Rattle.sq_sched.specs.declared.env.Env.{Env}
use Rattle.sq_sched.specs.declared.frames.Spread.{Spread}
use Rattle.sq_sched.specs.Acts.{acts}
use Rattle.sq_sched.specs.Children.{is_at}
use Rattle.sq_sched.specs.Words as words
use Rattle.sq_sched.specs.Words.{env_of, value, count, node_here, children_at, at_turn}
use Rattle.sq_sched.specs.Forms.{inside}
use Rattle.sq_ast.specs.Unplaced.{nowhere}
use Rattle.sq_plantext.specs.declared.text.TermText.TheVariants as text
use Rattle.sq_planfile.specs.declared.left.Left.{Left}
use Rattle.sq_planfile.specs.declared.left.Left.TheVariants.{Nothing, InTurn, Beside, Alone}
use Rattle.sq_planfile.specs.Left.{scope}
use Rattle.sq_planfile.specs.Written.{Reading, event_text, arm_of, seq_of, left_by}
use Rattle.sq_planfile.specs.Limits.{most_events, sum, size}

-- ---- what is left

abbrev pub reading : Plan → Reading words.Env
reading plan = record {
  value = value plan;
  count = count plan;
  node = node_here;
  children = children_at plan;
  turn = at_turn;
  inside = inside plan;
}

abbrev pub left_at : Env → Term → Left
left_at env t = left_by (reading env.plan.now) t (env_of env)

-- of the i-th of some parts
abbrev pub part_at : Env → List Term → ℕ → Left
part_at env ts i = arm_of (map (left_by (reading env.plan.now)) ts) i (env_of env)

-- of the body of a scope
abbrev pub left_in : Env → Option Num → Term → Left
left_in env c t = left_by (reading env.plan.now) t (inside env.plan.now c (env_of env))

-- of an event, of a scope of these buffers that comes to the node in force from another one, and of one at a child
abbrev pub event_at : Env → Action → Left
event_at env a = Alone (text.Act nowhere (event_text (λ n. count env.plan.now n (env_of env)) a))

abbrev pub scope_at : Env → (here : ℕ) → List ℕ → Term → Left
scope_at env here buffers t = scope here (node_here (env_of env)) buffers (left_at env t)

abbrev pub left_within : Env → Option Num → List ℕ → Term → Left
left_within env c buffers t = scope (node_here (env_of env)) (node_here (inside env.plan.now c (env_of env))) buffers (left_in env c t)

-- the iterations of a spread at one child, in turn: of those that stand at other children there is nothing
abbrev pub turn_at : Env → Spread → Term → (child turn : ℕ) → Left
turn_at env s body c t = if is_at s c t then left_by (reading env.plan.now) body (at_turn (env_of env) t) else Nothing

abbrev pub child_at : Env → Spread → Term → (child : ℕ) → Left
child_at env s body c = seq_of s.turns (turn_at env s body c) 0

-- as many iterations as there are; none of a body in which no action stands
abbrev pub turns_in : Env → Num → Term → ℕ
turns_in env n body = if acts body then count env.plan.now n (env_of env) else 0

-- a loop as a spread over one child
abbrev pub loop_of : Env → Num → Term → Spread
loop_of env n body = record { rule = Cyclic; turns = turns_in env n body; children = 1 }

abbrev pub spread_of : Env → Num → SpreadRule → Term → Spread
spread_of env n rule body = record { rule = rule; turns = turns_in env n body; children = children_at env.plan.now (env_of env) }

-- ---- how many events

abbrev pub number : Left → ℕ
number Nothing = 0
number (InTurn ts) = sum (map size ts)
number (Beside ts) = sum (map size ts)
number (Alone t) = size t

-- more than a plan may have are counted as one more
abbrev pub few : ℕ → ℕ
few n = min n (most_events + 1)
