-- The first call on a cycle, one call more at a time.
use Rattle.std.proofs.lemmas.Bool.Decides.{leb_tells}
use Rattle.std.proofs.Common.{nat_le, ◌≡◌, ℕ, ◌+◌, ◌<◌, ◌≤◌, ◌⊎◌, inl, inr, ◌↔◌, IsTrue, Bool, true, false, ◌&&◌, ◌||◌, true≢false, if◌then◌else◌, List, [], ◌∷◌, ◌++◌, length, take, get_or, Option, None, Some, refl, sym, ◌∙◌, ap, subst, arith, add-one}
use Rattle.std.proofs.Math.Seq.{take-suc}
use Rattle.std.specs.Option.{option_map}
use Rattle.sq_text.specs.declared.fault.Fault.{Fault}
use Rattle.sq_text.specs.Faults.{fault_place, fault_number}
use Rattle.sq_text.specs.First.{IsFirst, HoldsIn, AtOrBefore, least}
use Rattle.sq_text.specs.Places.{is_before, is_same}
use Rattle.sq_text.proofs.Firsts.{first_same, first_either}
use Rattle.sq_mapfile.specs.Cycles.{CallText, Leads, IsOnCycle, cycle_at}
use Rattle.sq_mapfile.specs.Graph.{IsFirstOnCycle, is_behind}

apart : (At : CallText → Fault → Type 0) (xs : List CallText) (x : CallText) (f : Fault) → HoldsIn At (xs ++ x ∷ []) f → HoldsIn At xs f ⊎ At x f
apart At [] x f (inl h) = inr h
apart At [] x f (inr h) = absurd h
apart At (y ∷ xs) x f (inl h) = inl (inl h)
apart At (y ∷ xs) x f (inr h) = elim (apart At xs x f h) [ inl p ↦ inl (inr p) | inr p ↦ inr p ]

joined : (At : CallText → Fault → Type 0) (xs : List CallText) (x : CallText) (f : Fault) → HoldsIn At xs f ⊎ At x f → HoldsIn At (xs ++ x ∷ []) f
joined At [] x f (inl h) = absurd h
joined At [] x f (inr h) = inl h
joined At (y ∷ xs) x f (inl (inl h)) = inl h
joined At (y ∷ xs) x f (inl (inr h)) = inr (joined At xs x f (inl h))
joined At (y ∷ xs) x f (inr h) = inr (joined At xs x f (inr h))

at_take : (At : CallText → Fault → Type 0) (xs : List CallText) (i : ℕ) (x : CallText) (o : Option Fault) → i < length xs → x ≡ get_or xs i x
    → IsFirst fault_place fault_number (λ f. HoldsIn At (take i xs) f ⊎ At x f) o → IsFirst fault_place fault_number (HoldsIn At (take (i + 1) xs)) o
at_take At xs i x o lt is h =
    let e : take (i + 1) xs ≡ take i xs ++ x ∷ [] = ap (λ n. take n xs) (add-one i) ∙ (take-suc xs i x lt ∙ ap (λ y. take i xs ++ y ∷ []) (sym is)) in
    subst (λ ys. IsFirst fault_place fault_number (HoldsIn At ys) o) (sym e)
    (first_same fault_place fault_number {P = λ f. HoldsIn At (take i xs) f ⊎ At x f} o (joined At (take i xs) x) (apart At (take i xs) x) h)

always : (a : Bool) → (a && true) ≡ a
always true = refl
always false = refl

le_itself : (n : ℕ) → nat_le n n ≡ true
le_itself n = elim (leb_tells n n) [ inl h ↦ h.0 | inr h ↦ absurd (omega (arith, h.1)) ]

-- of what is found and a call the first is told by the places
lesser : (found : Option CallText) (call : CallText) (b : Bool) → is_behind found call ≡ b
    → least fault_place fault_number (option_map cycle_at found) (Some (cycle_at call)) ≡ (if b then option_map cycle_at found else Some (cycle_at call))
lesser None call true h = absurd (true≢false (sym h))
lesser None call false h = refl
lesser (Some first) call b h =
    let e : (is_before first.name.place call.name.place || (is_same first.name.place call.name.place && true)) ≡ b =
    ap (λ c. is_before first.name.place call.name.place || c) (always (is_same first.name.place call.name.place)) ∙ h in
    ap (λ c. if (is_before first.name.place call.name.place || (is_same first.name.place call.name.place && c)) then Some (cycle_at first) else Some (cycle_at call))
    (le_itself (fault_number (cycle_at call)))
    ∙ ap (λ c. if c then Some (cycle_at first) else Some (cycle_at call)) e

only_this : (g : Fault) → IsFirst fault_place fault_number (λ h. h ≡ g) (Some g)
only_this g = (refl, λ h e. inr (ap fault_place (sym e), subst (λ k. fault_number g ≤ fault_number k) (sym e) (omega arith)))

-- one that is earlier and on a cycle
one_found : (calls : List CallText) (P : Fault → Type 0) (found : Option CallText) (call : CallText) → is_behind found call ≡ false → Leads calls call.callee call.caller
    → IsFirst fault_place fault_number P (option_map cycle_at found) → IsFirst fault_place fault_number (λ f. P f ⊎ IsOnCycle calls call f) (Some (cycle_at call))
one_found calls P found call earlier back h =
    subst (IsFirst fault_place fault_number (λ f. P f ⊎ IsOnCycle calls call f)) (lesser found call false earlier)
    (first_either fault_place fault_number P (IsOnCycle calls call) (option_map cycle_at found) (Some (cycle_at call)) h
    (first_same fault_place fault_number {P = λ f. f ≡ cycle_at call} (Some (cycle_at call)) (λ f e. record { back = back; is = e }) (λ f q. q.is) (only_this (cycle_at call))))

in_front : (P Q : Fault → Type 0) (f g : Fault) → ((h : Fault) → P h → AtOrBefore fault_place fault_number f h) → ((h : Fault) → Q h → h ≡ g) → AtOrBefore fault_place fault_number f g
    → (h : Fault) → P h ⊎ Q h → AtOrBefore fault_place fault_number f h
in_front P Q f g p q before h (inl x) = p h x
in_front P Q f g p q before h (inr x) = subst (AtOrBefore fault_place fault_number f) (sym (q h x)) before

-- one that is no earlier than what is found
one_behind : (calls : List CallText) (P : Fault → Type 0) (found : Option CallText) (call : CallText) → is_behind found call ≡ true
    → IsFirst fault_place fault_number P (option_map cycle_at found) → IsFirst fault_place fault_number (λ f. P f ⊎ IsOnCycle calls call f) (option_map cycle_at found)
one_behind calls P None call late h = absurd (true≢false (sym late))
one_behind calls P (Some first) call late h =
    let both : IsFirst fault_place fault_number (λ f. P f ⊎ (f ≡ cycle_at call)) (Some (cycle_at first)) =
    subst (IsFirst fault_place fault_number (λ f. P f ⊎ (f ≡ cycle_at call))) (lesser (Some first) call true late)
    (first_either fault_place fault_number P (λ f. f ≡ cycle_at call) (Some (cycle_at first)) (Some (cycle_at call)) h (only_this (cycle_at call))) in
    (inl h.0, in_front P (IsOnCycle calls call) (cycle_at first) (cycle_at call) h.1 (λ f q. q.is) (both.1 (cycle_at call) (inr refl)))

first_only : (P Q : Fault → Type 0) (f : Fault) → (Q f → ⊥) → P f ⊎ Q f → P f
first_only P Q f none (inl p) = p
first_only P Q f none (inr q) = absurd (none q)

-- one on no cycle
one_apart : (calls : List CallText) (P : Fault → Type 0) (o : Option Fault) (call : CallText) → (Leads calls call.callee call.caller → ⊥)
    → IsFirst fault_place fault_number P o → IsFirst fault_place fault_number (λ f. P f ⊎ IsOnCycle calls call f) o
one_apart calls P o call none h =
    first_same fault_place fault_number {P = P} o (λ f p. inl p) (λ f. first_only P (IsOnCycle calls call) f (λ q. none q.back)) h

-- what is asked of a call
abbrev Told : List CallText → Option CallText → CallText → Bool → Type 0
Told calls found x b = IsTrue b ↔ ((is_behind found x ≡ false) × Leads calls x.callee x.caller)

-- one call more
pub next_found : (calls xs : List CallText) (i : ℕ) (x : CallText) (found : Option CallText) (b : Bool) → i < length xs → x ≡ get_or xs i x → IsFirstOnCycle calls (take i xs) found
    → Told calls found x b → b ≡ true → IsFirstOnCycle calls (take (i + 1) xs) (Some x)
next_found calls xs i x found b lt there h told is =
    let both = told.0 is in
    at_take (IsOnCycle calls) xs i x (Some (cycle_at x)) lt there (one_found calls (HoldsIn (IsOnCycle calls) (take i xs)) found x both.0 both.1 h)

kept_by : (calls : List CallText) (P : Fault → Type 0) (x : CallText) (found : Option CallText) (late : Bool) → is_behind found x ≡ late
    → (((is_behind found x ≡ false) × Leads calls x.callee x.caller) → ⊥) → IsFirst fault_place fault_number P (option_map cycle_at found)
    → IsFirst fault_place fault_number (λ f. P f ⊎ IsOnCycle calls x f) (option_map cycle_at found)
kept_by calls P x found true late none h = one_behind calls P found x late h
kept_by calls P x found false late none h = one_apart calls P (option_map cycle_at found) x (λ r. none (late, r)) h

pub next_kept : (calls xs : List CallText) (i : ℕ) (x : CallText) (found : Option CallText) (b : Bool) → i < length xs → x ≡ get_or xs i x → IsFirstOnCycle calls (take i xs) found
    → Told calls found x b → b ≡ false → IsFirstOnCycle calls (take (i + 1) xs) found
next_kept calls xs i x found b lt there h told is =
    at_take (IsOnCycle calls) xs i x (option_map cycle_at found) lt there
    (kept_by calls (HoldsIn (IsOnCycle calls) (take i xs)) x found (is_behind found x) refl (λ both. true≢false (sym (told.1 both) ∙ is)) h)
