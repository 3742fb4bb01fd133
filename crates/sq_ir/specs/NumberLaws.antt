-- What the value of a number depends on.
use Rattle.std.specs.Prelude.{◌≡◌, ℕ, Bool, true, false, ◌||◌, Option, List}
use Rattle.sq_ir.specs.Lifting.{lift}
use Rattle.sq_ir.specs.Written.{Setting, Env, node_of, at_turn, inside_of, value_of}
use Rattle.sq_ir.specs.Plans.{HasValue, IsCount, placed}
use Rattle.sq_ir.specs.declared.num.Num.{Num}
use Rattle.sq_ir.specs.declared.num.Num.TheOpen.{Num-F}
use Rattle.sq_ir.specs.declared.num.Num.TheFolds.{fold-Num}
use Rattle.sq_ir.specs.declared.plan.Buffer.{Buffer}
use Rattle.sq_ir.specs.declared.plan.PlanNode.{PlanNode}

-- A number y where it stands has the value that x has where that stands; it has one where x has one, and is a count
-- where x is one.
pub record HasItsValue (t : Setting) (inner : Env) (y : Num) (s : Setting) (env : Env) (x : Num) : Type 0 where
  pub value : value_of t y inner ≡ value_of s x env
  pub has : HasValue s x env → HasValue t y inner
  pub count : IsCount s env x → IsCount t inner y

-- whether the children of the node in force occur in a number
abbrev pub names_step : Num-F Bool → Bool
names_step (Num-F.Const k) = false
names_step (Num-F.Index d) = false
names_step (Num-F.Add a b) = a || b
names_step (Num-F.Sub a b) = a || b
names_step (Num-F.Mul a b) = a || b
names_step (Num-F.Div a b) = a || b
names_step (Num-F.Rem a b) = a || b
names_step (Num-F.Min a b) = a || b
names_step (Num-F.Pick ks a) = a
names_step Num-F.Children = true

abbrev pub names_children : Num → Bool
names_children = fold-Num Bool names_step

-- A number that is lifted by one loop has under that loop the value that it had outside.
abbrev pub LiftedHaveValues : Type 0
LiftedHaveValues = (s : Setting) (x : Num) (t : ℕ) (env : Env) → HasItsValue s (at_turn env t) (lift 1 x) s env x

-- A number has one value wherever the same loops stand round it, in any plan; where it names the children of the node in
-- force, that node has to have as many.
abbrev pub DependOnLoops : Type 0
DependOnLoops =
    (s t : Setting) (x : Num) (env inner : Env) → inner.turns ≡ env.turns
    → (names_children x ≡ true → t.children (node_of inner) ≡ s.children (node_of env)) → HasItsValue t inner x s env x

-- A number that doesn't name these children has in the body of a scope the value that it has outside.
abbrev pub KeepInScopes : Type 0
KeepInScopes =
    (s : Setting) (x : Num) (env : Env) (child : Option Num) → names_children x ≡ false
    → HasItsValue s (inside_of s env child) x s env x

-- A number has the same value whatever the offsets of the buffers.
abbrev pub IgnoreOffsets : Type 0
IgnoreOffsets =
    (buffers : List Buffer) (nodes : List PlanNode) (offset other : ℕ → ℕ) (x : Num) (env : Env)
    → HasItsValue (placed buffers nodes other) env x (placed buffers nodes offset) env x
