-- A plan of turns is good where its action may be performed.
use Rattle.std.proofs.Common.{◌≡◌, ◌≢◌, ℕ, zero, suc, ◌+◌, ◌<◌, ◌≤◌, pos, List, [], ◌∷◌, take, Some, slice_get, refl}
use Rattle.std.proofs.Common.{sym, ap, ◌∙◌, subst, ◌⊎◌, inl, inr, arith}
use Rattle.std.specs.Prelude.{nat_abs, ◌==◌, if◌then◌else◌}
use Rattle.std.specs.List.{All, Contains}
use Rattle.std.proofs.lemmas.List.Elements.{All-nil, All-cons}
use Rattle.sq_ir.specs.declared.num.Num.TheVariants as n
use Rattle.sq_ir.specs.declared.term.Action.{Action}
use Rattle.sq_ir.specs.declared.term.Term.{Term}
use Rattle.sq_ir.specs.declared.term.Term.TheVariants as t
use Rattle.sq_ir.specs.declared.plan.PlanNode.{PlanNode}
use Rattle.sq_ir.specs.declared.plan.Leaf.{Leaf}
use Rattle.sq_ir.specs.declared.plan.Plan.{Plan}
use Rattle.sq_ir.specs.Scopes.{Scope, MayBeOpen}
use Rattle.sq_ir.specs.Events.{Leaves, AreIndependent}
use Rattle.sq_ir.specs.Machines.{children_in, IsNode, AreNodes}
use Rattle.sq_ir.specs.Written.{Setting, Env, PlanTree, at_root, at_turn, count_of, written}
use Rattle.sq_ir.specs.Plans.{IsBuffer, Meets, IsAllowed, IsLive, HaveRoom, setting_of, tree_of, IsWellFormed, IsGood}
use Rattle.sq_ir.proofs.Meeting.{meets_act, meets_loop}
use Rattle.sq_ir.proofs.Open.{each-state}
use Rattle.sq_ir.proofs.OpenScopes.{contains-first, contains-none, HasScope, open-scope}
use Rattle.sq_ir.proofs.Places.{unordered-each}
use Rattle.sq_ir.proofs.Reordering.{independent-sym}
use Rattle.sq_ir.proofs.ExampleTrees.{const_is}
use Rattle.fixture_plans.specs.Turns.{memory, turns}
use Rattle.fixture_plans.proofs.TurnTrees.{IsLine, act-line, loop-line, in-scope, only-scope}
use Rattle.fixture_plans.proofs.MixedTerms.{is-count}

-- ---- the memory

module _ (size : ℕ) (few : size ≤ 1073741824) where
  abbrev root : PlanNode
  root = record { level = 0; capacity = size; first_child = 0; children = 0 }

  first-child : (i : ℕ) (m : PlanNode) → slice_get (memory size) i ≡ Some m → m.first_child
      ≡ (if m.children == 0 then 0 else 1 + children_in (take i (memory size)))
  first-child zero m h = let e : root ≡ m
      = cc in subst (λ (x : PlanNode). x.first_child ≡ (if x.children == 0 then 0 else 1)) e refl
  first-child (suc i) m h = cc

  each-node : (i : ℕ) (m : PlanNode) → slice_get (memory size) i ≡ Some m → IsNode 1 m
  each-node zero m h =
      let e : root ≡ m = cc in
      subst (IsNode 1) e (record {
        level = omega arith;
        capacity = few;
        some = λ x. absurd (omega arith);
        few = omega
            arith;
        last = λ x. refl;
      })
  each-node (suc i) m h = cc

  pub one-memory : AreNodes (memory size)
  one-memory =
      record {
        levels = 1;
        few_levels = omega arith;
        few = omega arith;
        arranged
            = record { levels = refl; first = first-child };
        each = each-node;
        capacity = omega (arith, few);
      }

-- ---- plans

module _ {C : Type 0} (leaves : Leaves C) (size : ℕ) (codes : List Leaf) (outer inner : ℕ) (a : Action) where
  abbrev p : Plan
  p = turns size codes outer inner a

  abbrev s : Setting
  s = setting_of p

  abbrev asked : Env → List ℕ → Action → Type 0
  asked = IsAllowed leaves s

  loop-met : (k : ℕ) (body : Term) (env : Env) → k < 9223372036854775808
      → ((i : ℕ) → Meets s asked body (at_turn env i) (0 ∷ []))
      → Meets s asked (t.Loop (n.Const (pos k)) body) env (0 ∷ [])
  loop-met k body env h f = subst (λ (f : Env → List ℕ → Type 0). f env (0 ∷ []))
      (sym (meets_loop s asked (n.Const (pos k)) body)) (is-count s env k h, λ i less. f i)

  abbrev inside : PlanTree
  inside = written s p.draft.term at_root

  line : IsLine (AreIndependent leaves) inside
  line =
      loop-line (AreIndependent leaves) s (n.Const (pos outer)) (t.Loop (n.Const (pos inner)) (t.Act a))
      (λ env. loop-line (AreIndependent leaves) s (n.Const (pos inner)) (t.Act a)
      (λ env. act-line (AreIndependent leaves) s a env) env) at_root

  abbrev entry : Scope
  entry = record { node = 0; buffers = 0 ∷ [] }

  named : (b : ℕ) → Contains (0 ∷ []) b → 0 ≡ b
  named b h = by (contains-first 0 [] b h)
    where
      by : (0 ≡ b) ⊎ Contains [] b → 0 ≡ b
      by (inl e) = e
      by (inr c) = absurd (contains-none b c)

  -- where one scope is open at most, the buffer is live at the root alone
  room : (l : List Scope) → ((x : Scope) → Contains l x → entry ≡ x) → HaveRoom s l
  room l only =
      record {
        below = λ node b v. subst (λ m. s.offset b + s.size b ≤ s.capacity m) (at node b v)
            (subst (λ c. s.offset c + s.size c ≤ size) (name node b v) (omega arith));
        apart = λ node b c k v w ne x y. ne (sym (name node b v) ∙ name node c w);
      }
    where
      at : (node b : ℕ) → IsLive l node b → 0 ≡ node
      at node b v = ap (λ (x : Scope). x.node) (only v.scope v.open_) ∙ v.at

      name : (node b : ℕ) → IsLive l node b → 0 ≡ b
      name node b v = named b (subst (λ (x : Scope). Contains x.buffers b) (sym (only v.scope v.open_)) v.names)

  entry-only : (x : Scope) → Contains (entry ∷ []) x → entry ≡ x
  entry-only x h = by (contains-first entry [] x h)
    where
      by : (entry ≡ x) ⊎ Contains [] x → entry ≡ x
      by (inl e) = e
      by (inr c) = absurd (contains-none x c)

  pub turns-good : size ≤ 1073741824 → outer < 9223372036854775808 → inner < 9223372036854775808
      → ((i j : ℕ) → IsAllowed leaves s (at_turn (at_turn at_root i) j) (0 ∷ []) a) → IsGood leaves p
  turns-good few many more allowed =
      record {
        well_formed = record {
          nodes = one-memory size few;
          offsets = refl;
          entry = All-cons (IsBuffer s 0) 0 [] (record { there = omega arith; level = refl }) (All-nil (IsBuffer s 0));
          term = loop-met outer (t.Loop (n.Const (pos inner)) (t.Act a)) at_root many
              (λ i. loop-met inner (t.Act a) (at_turn at_root i) more
              (λ j. subst (λ (f : Env → List ℕ → Type 0). f (at_turn (at_turn at_root i) j) (0 ∷ []))
              (sym (meets_act s asked a)) (allowed i j)));
        };
        independent = unordered-each (AreIndependent leaves) (tree_of p) (independent-sym leaves)
            (in-scope (AreIndependent leaves) entry inside line);
        room = each-state (HaveRoom s) (tree_of p)
            (λ l h. room l (λ x c. only-scope (AreIndependent leaves) entry inside line x
            (open-scope (tree_of p) l x h c)));
        entry = room (entry ∷ []) entry-only;
      }
