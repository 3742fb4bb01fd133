-- The scopes of a term don't depend on the offsets of buffers.
use Rattle.std.proofs.Common.{◌≡◌, ℕ, List, Some, None, refl, ap}
use Rattle.std.specs.Prelude.{nat_abs}
use Rattle.sq_ir.specs.Written.{Setting, Env, Value, value_step, value_of, at_turn, at_child, node_of}
use Rattle.sq_ir.specs.Plans.{placed}
use Rattle.sq_ir.specs.declared.num.Num.{Num}
use Rattle.sq_ir.specs.declared.num.Num.TheOpen.{Num-F}
use Rattle.sq_ir.specs.declared.num.Num.TheFolds.{fold-Num}
use Rattle.sq_ir.specs.declared.term.Term.{Term}
use Rattle.sq_ir.specs.declared.term.Term.TheOpen.{Term-F}
use Rattle.sq_ir.specs.declared.term.Term.TheFolds.{fold-Term}
use Rattle.sq_ir.specs.declared.plan.Buffer.{Buffer}
use Rattle.sq_ir.specs.declared.plan.PlanNode.{PlanNode}
use Rattle.sq_nests.specs.Nests.{Open, ScopesAt, scopes_step, scopes_of, each_of, arm_at}
use mathlib.Core.Path.{fun_ext}

module _ (buffers : List Buffer) (nodes : List PlanNode) (o p : ℕ → ℕ) where
  abbrev s : Setting
  s = placed buffers nodes o

  abbrev u : Setting
  u = placed buffers nodes p

  same_value_step : value_step s ≡ value_step u
  same_value_step = fun_ext (λ d. by d)
    where
      by : (d : Num-F Value) → value_step s d ≡ value_step u d
      by (Num-F.Const k) = refl
      by (Num-F.Index k) = refl
      by (Num-F.Add a b) = refl
      by (Num-F.Sub a b) = refl
      by (Num-F.Mul a b) = refl
      by (Num-F.Div a b) = refl
      by (Num-F.Rem a b) = refl
      by (Num-F.Min a b) = refl
      by (Num-F.Pick ks a) = refl
      by Num-F.Children = refl

  same_value : (x : Num) (env : Env) → value_of s x env ≡ value_of u x env
  same_value x env = ap (λ (f : Num-F Value → Value). fold-Num Value f x env) same_value_step

  same_step : (d : Term-F ScopesAt) → scopes_step s d ≡ scopes_step u d
  same_step Term-F.Skip = refl
  same_step (Term-F.Act a) = refl
  same_step (Term-F.Seq ts) = refl
  same_step (Term-F.Par ts) = refl
  same_step (Term-F.Loop count body)
      = fun_ext (λ env. ap (λ k. each_of (nat_abs k) (λ t. body (at_turn env t)) 0) (same_value count env))
  same_step (Term-F.Spread count rule body)
      = fun_ext (λ env. ap (λ k. each_of (nat_abs k) (λ t. body (at_turn env t)) 0) (same_value count env))
  same_step (Term-F.Case pick arms) = fun_ext (λ env. ap (λ k. arm_at arms k env) (same_value pick env))
  same_step (Term-F.Within None buffers body) = refl
  same_step (Term-F.Within (Some c) buffers body) = fun_ext (λ env.
      ap (λ k. Open (record { node = node_of (at_child s env (nat_abs k)); buffers = buffers })
      (body (at_child s env (nat_abs k)))) (same_value c env))

  pub same_scopes : (x : Term) (env : Env) → scopes_of s x env ≡ scopes_of u x env
  same_scopes x env = ap (λ (f : Term-F ScopesAt → ScopesAt). fold-Term ScopesAt f x env) (fun_ext same_step)
