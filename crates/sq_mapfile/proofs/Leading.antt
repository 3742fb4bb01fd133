-- The walk from an instance finds those to which calls lead, and no others.
use Rattle.std.proofs.Common.{◌≡◌, ℕ, zero, suc, ◌+◌, ◌<◌, ◌≤◌, inl, inr, ◌↔◌, IsTrue, true, false, true≢false, add-one, List, [], ◌∷◌, ◌++◌, length, take, nat_eq, nat_lt, Bool, None, Some, slice_get, All, sym, ◌∙◌, ap, subst, arith}
use borrow.Author.Tests.{ltb-true}
use Rattle.std.proofs.lemmas.List.{take_all, take-append-le}
use Rattle.std.proofs.lemmas.Map.Steps.{length-le_from_distinct_below}
use Rattle.std.proofs.lemmas.Option.{slice_get_within, get_or_from_slice_get}
use Rattle.std.proofs.Math.Seq.{take-suc}
use Rattle.std.specs.List.{IsDistinct}
use Rattle.sq_mapfile.specs.Cycles.{CallText, Calls, Leads, here, further}
use Rattle.sq_mapfile.specs.Graph.{IsWithin, NeverRises, callees_of, has, with_one, with_all, rank_of, falls}
use Rattle.sq_mapfile.proofs.Callees.{is_called, is_listed, is_callee_within}
use Rattle.sq_mapfile.proofs.Seen.{first_is, second_is, in_append, only, all_front, all_old, all_from, all_there, all_distinct, itself}

-- a set of instances as it grows: those to which calls lead, of which the first i were followed
pub record Explored (calls : List CallText) (count from : ℕ) (keys : List ℕ) (i : ℕ) : Type 0 where
  pub start : has keys from ≡ true
  pub reached : (x : ℕ) → has keys x ≡ true → Leads calls from x
  pub within : (x : ℕ) → has keys x ≡ true → x < count
  pub closed : (x b : ℕ) → has (take i keys) x ≡ true → Calls calls x b → has keys b ≡ true
  pub distinct : IsDistinct nat_eq keys

-- the first, alone
explored_none : (calls : List CallText) (count from : ℕ) → from < count → IsDistinct nat_eq (from ∷ []) → Explored calls count from (from ∷ []) 0
explored_none calls count from lt distinct = record {
  start = first_is (nat_eq from from) false (itself from);
  reached = λ x h. subst (Leads calls from) (sym (only x from h)) here;
  within = λ x h. subst (λ y. y < count) (sym (only x from h)) lt;
  closed = λ x b h c. absurd (true≢false (sym h));
  distinct = distinct;
}

pub explored_start : (calls : List CallText) (count from : ℕ) (old new : List ℕ) → from < count → old ≡ [] → new ≡ with_one old from → IsDistinct nat_eq new → Explored calls count from new 0
explored_start calls count from old new lt empty is distinct =
    let e : new ≡ from ∷ [] = is ∙ ap (λ ks. with_one ks from) empty in
    subst (λ ks. Explored calls count from ks 0) (sym e) (explored_none calls count from lt (subst (IsDistinct nat_eq) e distinct))

slice_in : (keys : List ℕ) (i at : ℕ) → slice_get keys i ≡ Some at → has keys at ≡ true
slice_in [] i at h = cc
slice_in (k ∷ keys) zero at h = let e : k ≡ at = cc in first_is (nat_eq at k) (has keys at) (subst (λ y. nat_eq at y ≡ true) (sym e) (itself at))
slice_in (k ∷ keys) (suc i) at h = second_is (nat_eq at k) (has keys at) (slice_in keys i at h)

-- the i-th, and what it calls
explored_more : (calls : List CallText) (count from : ℕ) (keys : List ℕ) (i at : ℕ) → All (IsWithin count) calls → Explored calls count from keys i → slice_get keys i ≡ Some at
    → Explored calls count from (with_all keys (callees_of calls at)) (i + 1)
explored_more calls count from keys i at inside h is =
    let callees = callees_of calls at in
    let lt : i < length keys = slice_get_within keys i at is in
    let front = all_front keys callees in
    let known : has keys at ≡ true = slice_in keys i at is in
    let taken : take (i + 1) (with_all keys callees) ≡ take i keys ++ at ∷ [] =
    ap (λ ks. take (i + 1) ks) front.1
    ∙ (take-append-le (i + 1) keys front.0 (omega arith)
    ∙ (ap (λ n. take n keys) (add-one i)
    ∙ (take-suc keys i at lt
    ∙ ap (λ y. take i keys ++ y ∷ []) (get_or_from_slice_get keys i at at is)))) in
    record {
      start = all_old keys callees from h.start;
      reached = λ x p. elim (all_from keys callees x p) [ inl q ↦ h.reached x q | inr q ↦ further (h.reached at known) (is_called calls at x q) ];
      within = λ x p. elim (all_from keys callees x p) [ inl q ↦ h.within x q | inr q ↦ is_callee_within calls count at x inside (is_called calls at x q) ];
      closed = λ x b p c. elim (in_append (take i keys) (at ∷ []) x (subst (λ ks. has ks x ≡ true) taken p)) [
        | inl q ↦ all_old keys callees b (h.closed x b q c)
        | inr q ↦ all_there keys callees b (subst (λ y. has (callees_of calls y) b ≡ true) (only x at q) (is_listed calls x b c))
      ];
      distinct = all_distinct keys callees h.distinct;
    }

pub explored_next : (calls : List CallText) (count from : ℕ) (keys new : List ℕ) (i at : ℕ) → All (IsWithin count) calls → Explored calls count from keys i → slice_get keys i ≡ Some at
    → new ≡ with_all keys (callees_of calls at) → Explored calls count from new (i + 1)
explored_next calls count from keys new i at inside h is made = subst (λ ks. Explored calls count from ks (i + 1)) (sym made) (explored_more calls count from keys i at inside h is)

pub next_within : (calls : List CallText) (count from : ℕ) (keys : List ℕ) (i at : ℕ) → Explored calls count from keys i → slice_get keys i ≡ Some at → at < count
next_within calls count from keys i at h is = h.within at (slice_in keys i at is)

-- nothing is left to follow
all_reached : (calls : List CallText) (count from : ℕ) (keys : List ℕ) (i : ℕ) → Explored calls count from keys i → length keys ≤ i → (x : ℕ) → Leads calls from x → has keys x ≡ true
all_reached calls count from keys i h done x here = h.start
all_reached calls count from keys i h done x (further {b} r c) = h.closed b x (subst (λ ks. has ks b ≡ true) (sym (take_all i keys done)) (all_reached calls count from keys i h done b r)) c

explored_all : (calls : List CallText) (count from : ℕ) (keys : List ℕ) (i : ℕ) → Explored calls count from keys i → length keys ≤ i → (x : ℕ) → IsTrue (has keys x) ↔ Leads calls from x
explored_all calls count from keys i h done x = (λ p. h.reached x p, λ r. all_reached calls count from keys i h done x r)

pub ended : (calls : List CallText) (count from to : ℕ) (keys : List ℕ) (i : ℕ) (b : Bool) → Explored calls count from keys i → length keys ≤ i → b ≡ has keys to → IsTrue b ↔ Leads calls from to
ended calls count from to keys i b h done is = subst (λ v. IsTrue v ↔ Leads calls from to) (sym is) (explored_all calls count from keys i h done to)

pub few : (calls : List CallText) (count from : ℕ) (keys : List ℕ) (i : ℕ) → Explored calls count from keys i → length keys ≤ count
few calls count from keys i h = length-le_from_distinct_below keys count h.distinct h.within

pub past : (keys : List ℕ) (i : ℕ) → slice_get keys i ≡ None → length keys ≤ i
past [] i h = omega arith
past (k ∷ keys) zero h = cc
past (k ∷ keys) (suc i) h = let p = past keys i h in omega (arith, p)

-- calls never lead to a higher rank
one_call : (calls : List CallText) (ranks : List ℕ) (a b : ℕ) → All (NeverRises ranks) calls → Calls calls a b → rank_of ranks b ≤ rank_of ranks a
one_call calls ranks a b h c =
    let lt : c.index < length calls = slice_get_within calls c.index c.call c.there in
    let low : NeverRises ranks c.call = subst (NeverRises ranks) (get_or_from_slice_get calls c.index c.call c.call c.there) (h c.index c.call lt) in
    let caller : c.call.caller ≡ a = c.caller in
    let callee : c.call.callee ≡ b = c.callee in
    subst (λ x. rank_of ranks b ≤ rank_of ranks x) caller (subst (λ x. rank_of ranks x ≤ rank_of ranks c.call.caller) callee low)

never_higher : (calls : List CallText) (ranks : List ℕ) (a x : ℕ) → All (NeverRises ranks) calls → Leads calls a x → rank_of ranks x ≤ rank_of ranks a
never_higher calls ranks a x h here = omega arith
never_higher calls ranks a x h (further {b} r c) = let p = never_higher calls ranks a b h r in let q = one_call calls ranks b x h c in omega (arith, p, q)

below : (m n : ℕ) → nat_lt m n ≡ true → m < n
below m n h = first_of (omega (arith, ltb-true), grind (arith, ltb-true))

-- a call to a lower rank lies on no cycle
pub no_way_back : (calls : List CallText) (ranks : List ℕ) (call : CallText) → All (NeverRises ranks) calls → falls ranks call ≡ true → Leads calls call.callee call.caller → ⊥
no_way_back calls ranks call h lt r =
    let p : rank_of ranks call.caller ≤ rank_of ranks call.callee = never_higher calls ranks call.callee call.caller h r in
    let q : rank_of ranks call.callee < rank_of ranks call.caller = below (rank_of ranks call.callee) (rank_of ranks call.caller) lt in
    omega (arith, p, q)
