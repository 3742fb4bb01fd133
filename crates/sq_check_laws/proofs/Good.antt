-- A well formed plan in which no events clash and all buffers have room is good.
use Rattle.std.proofs.Common.{◌≡◌, ℕ, ◌<◌, Bool, List, [], ◌∷◌, Some, refl, sym, subst, ◌⊎◌, inl, inr}
use Rattle.std.specs.List.{Contains}
use Rattle.sq_ir.specs.Unordered.{event_in, IsUnordered, EachUnordered, IsFresh}
use Rattle.sq_ir.specs.Scopes.{Scope}
use Rattle.sq_ir.specs.Events.{Event, Leaves, AreIndependent}
use Rattle.sq_ir.specs.Written.{Setting, PlanTree, at_root}
use Rattle.sq_ir.specs.Plans.{setting_of, tree_of, HaveRoom}
use Rattle.sq_ir.proofs.Fresh.{fresh-entry}
use Rattle.sq_ir.proofs.OpenScopes.{contains-first, contains-none}
use Rattle.sq_ir.proofs.Places.{each-unordered, unordered-each}
use Rattle.sq_ir.proofs.Reordering.{independent-sym}
use Rattle.sq_check_laws.specs.Whole.{whole, whole_of, enclosed}
use Rattle.sq_check_laws.specs.Flaws.{number_at, Clashes, LackRoom}
use Rattle.sq_check_laws.specs.PlanLaws.{TreesAreFresh, FlawlessAreGood}
use Rattle.sq_check_laws.proofs.Trimming.{trees_are_trimmed}
use Rattle.sq_check_laws.proofs.Rooms.{no_meeting, fits, states_have_room}
use Rattle.sq_check_laws.proofs.Numbering.{numbers_differ, fresh_whole, unordered_trimmed}
use Rattle.sq_check_laws.proofs.Independent.{independent_unless}

module _ {C : Type 0} (leaves : Leaves C) (t : PlanTree) (no : (i j : ℕ) → ¬ Clashes leaves t i j) where
  -- where the first event is the one with the lesser number
  independent_in_order : (p q : List Bool) (e f : Event) → event_in t p ≡ Some e → event_in t q ≡ Some f → IsUnordered t p q → number_at t p < number_at t q → AreIndependent leaves e f
  independent_in_order p q e f i j u l =
      independent_unless leaves e f (λ n. no (number_at t p) (number_at t q) (record {
        first = p;
        second = q;
        e = e;
        f = f;
        first_is = i;
        second_is = j;
        earlier_is = refl;
        later_is = refl;
        before = l;
        unordered = u;
        dependent = n;
      }))

  each_independent : IsFresh t → EachUnordered (AreIndependent leaves) t
  each_independent fresh p q e f i j u = by (numbers_differ t fresh p q e f i j u.differ)
    where
      by : (number_at t p < number_at t q) ⊎ (number_at t q < number_at t p) → AreIndependent leaves e f
      by (inl l) = independent_in_order p q e f i j u l
      by (inr l) =
          independent-sym leaves f e (independent_in_order q p f e j i (record { differ = λ z. u.differ (sym z); not_before = u.not_after; not_after = u.not_before }) l)

-- the entry's buffers, where no event stands
entry_has_room : (s : Setting) (entry : List ℕ) (body : PlanTree) → ((node b c : ℕ) → ¬ LackRoom s (enclosed 0 entry body) node b c) → HaveRoom s (record { node = 0; buffers = entry } ∷ [])
entry_has_room s [] body room =
    record {
      below = λ node b live. absurd (nobody b live.scope live.open_ live.names);
      apart = λ node b c k one other n p q. nobody b one.scope one.open_ one.names;
    }
  where
    nobody : (b : ℕ) (x : Scope) → Contains (record { node = 0; buffers = [] } ∷ []) x → Contains x.buffers b → ⊥
    nobody b x c i = by (contains-first (record { node = 0; buffers = [] }) [] x c)
      where
        by : (record { node = 0; buffers = [] } ≡ x) ⊎ Contains [] x → ⊥
        by (inl e) = contains-none b (subst (λ (z : Scope). Contains z.buffers b) (sym e) i)
        by (inr z) = contains-none x z
entry_has_room s (b0 ∷ bs) body room =
    record {
      below = λ node b live. let e = only live.scope live.open_ in fits s (enclosed 0 (b0 ∷ bs) body) room node b live.scope (inl e) live.at live.names;
      apart = λ node b c k one other n p q.
          no_meeting s (enclosed 0 (b0 ∷ bs) body) room node b c k one.scope other.scope n (inl (only one.scope one.open_, only other.scope other.open_)) one.at other.at one.names other.names p q;
    }
  where
    only : (x : Scope) → Contains (record { node = 0; buffers = b0 ∷ bs } ∷ []) x → record { node = 0; buffers = b0 ∷ bs } ≡ x
    only x c = by (contains-first (record { node = 0; buffers = b0 ∷ bs }) [] x c)
      where
        by : (record { node = 0; buffers = b0 ∷ bs } ≡ x) ⊎ Contains [] x → record { node = 0; buffers = b0 ∷ bs } ≡ x
        by (inl e) = e
        by (inr z) = absurd (contains-none x z)

pub trees_are_fresh : TreesAreFresh
trees_are_fresh p =
    let s = setting_of p in
    fresh_whole (λ e. ⊥) (whole_of p) (subst IsFresh (sym (trees_are_trimmed p)) (fresh-entry s p.draft.entry p.draft.term at_root))

pub flawless_are_good : (C : Type 0) → FlawlessAreGood C
flawless_are_good C leaves p well clear room =
    let s = setting_of p in
    let t = whole_of p in
    let same = trees_are_trimmed p in
    let each = unordered_trimmed (AreIndependent leaves) t (each-unordered (AreIndependent leaves) t (each_independent leaves t clear (trees_are_fresh p))) in
    record {
      well_formed = well;
      independent = subst (EachUnordered (AreIndependent leaves)) same (unordered-each (AreIndependent leaves) _ (independent-sym leaves) each);
      room = states_have_room s t room (tree_of p) same;
      entry = entry_has_room s p.draft.entry (whole s p.draft.term at_root) room;
    }
