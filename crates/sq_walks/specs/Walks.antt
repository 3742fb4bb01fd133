-- The tree of a part of a plan where it stands.
use Rattle.std.specs.Prelude.{ℕ, if◌then◌else◌, List}
use Rattle.sq_text.specs.declared.spread.SpreadRule.{SpreadRule}
use Rattle.sq_text.specs.declared.spread.SpreadRule.TheVariants.{Cyclic}
use Rattle.sq_ir.specs.Written.{PlanTree}
use Rattle.sq_ir.specs.declared.num.Num.{Num}
use Rattle.sq_ir.specs.declared.term.Term.{Term}
use Rattle.sq_sched.specs.declared.env.Env.{Env}
use Rattle.sq_sched.specs.declared.frames.Spread.{Spread}
use Rattle.sq_sched.specs.Shapes.{seq_of, written}
use Rattle.sq_sched.specs.Words.{env_of, count, children_at}
use Rattle.sq_sched.specs.Forms.{made, items_of}
use Rattle.sq_sched.specs.Children as children
use Rattle.sq_sched.specs.Acts.{acts}

abbrev pub tree_at : Env → Term → PlanTree
tree_at env t = written ((made env.plan.now t).form (env_of env))

-- the i-th of some parts
abbrev pub part_at : Env → List Term → ℕ → PlanTree
part_at env ts i = written (items_of env.plan.now ts (env_of env) i)

-- the iterations of a spread at one child, in turn: of those that stand at other children there is nothing
abbrev pub turn_at : Env → Spread → Term → (child turn : ℕ) → PlanTree
turn_at env s body c t = written (children.items s (made env.plan.now body).form (env_of env) c t)

abbrev pub child_at : Env → Spread → Term → (child : ℕ) → PlanTree
child_at env s body c = seq_of s.turns (turn_at env s body c) 0

-- as many iterations as there are; none of a body that can't have an event
abbrev pub turns_in : Env → Num → Term → ℕ
turns_in env n body = if acts body then count env.plan.now n (env_of env) else 0

-- a loop as a spread over one child
abbrev pub loop_of : Env → Num → Term → Spread
loop_of env n body = record { rule = Cyclic; turns = turns_in env n body; children = 1 }

abbrev pub spread_of : Env → Num → SpreadRule → Term → Spread
spread_of env n rule body = record { rule = rule; turns = turns_in env n body; children = children_at env.plan.now (env_of env) }
