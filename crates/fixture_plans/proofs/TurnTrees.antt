-- What is done in turn alone has no unordered events and opens no scope.
use Rattle.std.proofs.Common.{◌≡◌, ℕ, zero, suc, ◌+◌, Bool, true, false, List, [], ◌∷◌, sym, ap, ◌∙◌, subst, ◌⊎◌, inl}
use Rattle.std.proofs.Common.{inr}
use Rattle.std.specs.Prelude.{if◌then◌else◌}
use Rattle.sq_ir.specs.declared.num.Num.{Num}
use Rattle.sq_ir.specs.declared.term.Action.{Action}
use Rattle.sq_ir.specs.declared.term.Term.{Term}
use Rattle.sq_ir.specs.declared.term.Term.TheVariants as t
use Rattle.sq_ir.specs.Tree.{Tree, Skip, Act, Seq, Within, is_done, seq, within}
use Rattle.sq_ir.specs.Unordered.{AllUnordered}
use Rattle.sq_ir.specs.Scopes.{Scope}
use Rattle.sq_ir.specs.Events.{Event}
use Rattle.sq_ir.specs.Written.{Setting, Env, PlanTree, at_turn, count_of, seq_of, written}
use Rattle.sq_ir.proofs.Equations.{written_act, written_loop}
use Rattle.sq_ir.proofs.OpenScopes.{HasScope}

pub record IsLine (R : Event → Event → Type 0) (tree : PlanTree) : Type 0 where
  pub ordered : AllUnordered R tree
  pub open_ : (x : Scope) → HasScope tree x → ⊥

either : {X : Type 0} (P : X → Type 0) (c : Bool) (x y : X) → P x → P y → P (if c then x else y)
either P true x y p q = p
either P false x y p q = q

module _ (R : Event → Event → Type 0) where
  nothing : IsLine R Skip
  nothing = record { ordered = tt; open_ = λ x h. h }

  follow : (a b : PlanTree) → IsLine R a → IsLine R b → IsLine R (seq a b)
  follow a b p q =
      either (IsLine R) (is_done a) b (if is_done b then a else Seq a b) q
      (either (IsLine R) (is_done b) a (Seq a b) p
      (record { ordered = (p.ordered, q.ordered); open_ = λ x h. both x h }))
    where
      both : (x : Scope) → HasScope (Seq a b) x → ⊥
      both x (inl h) = p.open_ x h
      both x (inr h) = q.open_ x h

  all : (count : ℕ) (f : ℕ → PlanTree) (i : ℕ) → ((i : ℕ) → IsLine R (f i)) → IsLine R (seq_of count f i)
  unfolding seq_of
  all zero f i h = nothing
  all (suc count) f i h = follow (f i) (seq_of count f (i + 1)) (h i) (all count f (i + 1) h)

  module _ (s : Setting) where
    pub act-line : (a : Action) (env : Env) → IsLine R (written s (t.Act a) env)
    act-line a env = subst (λ f. IsLine R (f env)) (sym (written_act s a)) (record { ordered = tt; open_ = λ x h. h })

    pub loop-line : (count : Num) (body : Term) → ((env : Env) → IsLine R (written s body env)) → (env : Env)
        → IsLine R (written s (t.Loop count body) env)
    loop-line count body h env =
        subst (λ f. IsLine R (f env)) (sym (written_loop s count body))
        (all (count_of s count env) (λ i. written s body (at_turn env i)) 0 (λ i. h (at_turn env i)))

-- in one scope
pub in-scope : (R : Event → Event → Type 0) (scope : Scope) (a : PlanTree) → IsLine R a
    → AllUnordered R (within scope a)
in-scope R scope a h = either (AllUnordered R) (is_done a) Skip (Within scope a) tt h.ordered

pub only-scope : (R : Event → Event → Type 0) (scope : Scope) (a : PlanTree) → IsLine R a → (x : Scope)
    → HasScope (within scope a) x → scope ≡ x
only-scope R scope a h x = either (λ tree. HasScope tree x → scope ≡ x) (is_done a) Skip (Within scope a)
    (λ k. absurd k) inside
  where
    inside : HasScope (Within scope a) x → scope ≡ x
    inside (inl e) = e
    inside (inr k) = absurd (h.open_ x k)
