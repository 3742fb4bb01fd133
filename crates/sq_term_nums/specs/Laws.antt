-- Where a number has its value, the word that it is evaluated to is this value.
use Rattle.std.specs.Prelude.{◌≡◌}
use Rattle.sq_ir.specs.Written as whole
use Rattle.sq_ir.specs.Written.{Setting, node_of, value_of, count_of}
use Rattle.sq_ir.specs.Plans.{HasValue, IsCount}
use Rattle.sq_ir.specs.declared.num.Num.{Num}
use Rattle.sq_term_nums.specs.Words.{Env, value, count}

-- a part of a term written out, and what numbers there are evaluated with
pub record Agree (s : Setting) (env : whole.Env) (at : Env) : Type 0 where
  pub turns : at.turns ≡ env.turns
  pub children : at.children ≡ s.children (node_of env)

abbrev pub ValuesAreTheirs : Type 0
ValuesAreTheirs = (s : Setting) (env : whole.Env) (at : Env) → Agree s env at → (x : Num) → HasValue s x env → value x at ≡ value_of s x env

abbrev pub CountsAreTheirs : Type 0
CountsAreTheirs = (s : Setting) (env : whole.Env) (at : Env) → Agree s env at → (x : Num) → IsCount s env x → count x at ≡ count_of s x env
