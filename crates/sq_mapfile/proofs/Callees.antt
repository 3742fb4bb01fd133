-- What an instance calls, from the list of all calls.
use Rattle.std.proofs.Common.{◌≡◌, ℕ, zero, suc, ◌<◌, inl, inr, true, true≢false, List, [], ◌∷◌, length, nat_eq, Some, slice_get, All, refl, sym, ◌∙◌, ap, subst}
use Rattle.std.proofs.lemmas.Bool.Decides.{eqb_tells}
use Rattle.std.proofs.lemmas.Option.{slice_get_within, get_or_from_slice_get}
use Rattle.sq_mapfile.specs.Cycles.{CallText, Calls}
use Rattle.sq_mapfile.specs.Graph.{IsWithin, callees_of, has}
use Rattle.sq_mapfile.proofs.Seen.{either, first_is, second_is, same, itself}

later : (call : CallText) (rest : List CallText) (a b : ℕ) → Calls rest a b → Calls (call ∷ rest) a b
later call rest a b h = record { index = suc h.index; call = h.call; there = h.there; caller = h.caller; callee = h.callee }

pub is_called : (calls : List CallText) (a b : ℕ) → has (callees_of calls a) b ≡ true → Calls calls a b
is_called [] a b h = absurd (true≢false (sym h))
is_called (call ∷ rest) a b h = elim (eqb_tells call.caller a) [
  | inl p ↦
      let k : has (call.callee ∷ callees_of rest a) b ≡ true = rw p.0 at h in
      elim (either (nat_eq b call.callee) (has (callees_of rest a) b) k) [
        | inl q ↦ record { index = 0; call = call; there = refl; caller = p.1; callee = sym (same b call.callee q) }
        | inr q ↦ later call rest a b (is_called rest a b q)
      ]
  | inr p ↦
      let k : has (callees_of rest a) b ≡ true = rw p.0 at h in
      later call rest a b (is_called rest a b k)
]

front : (x : CallText) (rest : List CallText) (a b : ℕ) → x.caller ≡ a → x.callee ≡ b → has (callees_of (x ∷ rest) a) b ≡ true
front x rest a b caller callee = elim (eqb_tells x.caller a) [
  | inl p ↦ rw p.0 (first_is (nat_eq b x.callee) (has (callees_of rest a) b) (subst (λ y. nat_eq b y ≡ true) (sym callee) (itself b)))
  | inr p ↦ absurd (p.1 caller)
]

behind : (x : CallText) (rest : List CallText) (a b : ℕ) → has (callees_of rest a) b ≡ true → has (callees_of (x ∷ rest) a) b ≡ true
behind x rest a b h = elim (eqb_tells x.caller a) [
  | inl p ↦ rw p.0 (second_is (nat_eq b x.callee) (has (callees_of rest a) b) h)
  | inr p ↦ rw p.0 h
]

at_index : (calls : List CallText) (i a b : ℕ) (call : CallText) → slice_get calls i ≡ Some call → call.caller ≡ a → call.callee ≡ b → has (callees_of calls a) b ≡ true
at_index [] i a b call there caller callee = cc
at_index (x ∷ rest) zero a b call there caller callee =
    let e : x ≡ call = cc in
    front x rest a b (ap (λ (c : CallText). c.caller) e ∙ caller) (ap (λ (c : CallText). c.callee) e ∙ callee)
at_index (x ∷ rest) (suc i) a b call there caller callee = behind x rest a b (at_index rest i a b call there caller callee)

pub is_listed : (calls : List CallText) (a b : ℕ) → Calls calls a b → has (callees_of calls a) b ≡ true
is_listed calls a b h = at_index calls h.index a b h.call h.there h.caller h.callee

-- callees are among the instances
pub is_callee_within : (calls : List CallText) (n a b : ℕ) → All (IsWithin n) calls → Calls calls a b → b < n
is_callee_within calls n a b h c =
    let lt : c.index < length calls = slice_get_within calls c.index c.call c.there in
    let within : IsWithin n c.call = subst (IsWithin n) (get_or_from_slice_get calls c.index c.call c.call c.there) (h c.index c.call lt) in
    let callee : c.call.callee ≡ b = c.callee in
    subst (λ x. x < n) callee within.1
