-- The calls that a loop begins each time are those that stay the same in it, by the numbers of its tables.
use Rattle.std.proofs.Common.{◌≡◌, inl, inr, ℕ, zero, suc, ◌+◌, ◌<◌, Bool, true, List}
use Rattle.std.proofs.Common.{[], ◌∷◌, ◌++◌, map, length, take, drop, get_or, slice_get, Some, refl, sym}
use Rattle.std.proofs.Common.{◌∙◌, ap, ap₂, subst, arith}
use Rattle.std.specs.List.{list_all}
use Rattle.sq_text.specs.declared.place.Place.{Place}
use Rattle.sq_spec.specs.declared.statement.LoopKind.{LoopKind}
use Rattle.sq_spec.specs.declared.statement.LoopKind.TheVariants as loop_kind
use Rattle.sq_spec.specs.declared.statement.CallInstance.{CallInstance}
use Rattle.sq_spec.specs.declared.statement.Statement.{Statement}
use Rattle.sq_spec.specs.declared.statement.Statement.TheVariants as b
use Rattle.sq_spec.specs.declared.statement.Statement.TheOpen.{Statement-F}
use Rattle.sq_spec.specs.declared.statement.Statement.TheFolds.{map-Statement, rec-roll-Statement}
use Rattle.sq_spec.specs.Statements.{over, starts_from}
use Rattle.sq_draft_laws.specs.TermLaws.Fits.{AskedOfStatement, all_parts}
use Rattle.sq_pipe.specs.Hoist.Counts.{total}
use Rattle.sq_pipe.specs.Hoist.Loops.{Nest, joined, in_times, looped}
use Rattle.sq_draft_laws.specs.ProgramLaws.Held.{Begun, row_list, begun}
use Rattle.sq_draft_laws.proofs.ProgramLaws.Loops.{nothing_more, begun_call, begun_map}
use Rattle.sq_pass_laws.specs.Times.{AreCounts, times_step, IsBegun}
use Rattle.sq_pass_laws.proofs.Nests.{nest_of, IsCall, Climbs, climb, both}

-- ---- equations

parts_same : {X : Type 0} (v : X → Statement) (k : Statement → AskedOfStatement) (xs : List X)
    → all_parts (λ p. k (v p)) xs ≡ all_parts k (map v xs)
parts_same v k [] = refl
parts_same v k (x ∷ xs) = ap (λ (f : AskedOfStatement). λ n. k (v x) n × f n) (parts_same v k xs)

natural : (X : Type 0) (v : X → Statement) (k : Statement → AskedOfStatement) (x : Statement-F X)
    → times_step X v (λ p. k (v p)) x ≡ times_step Statement (λ y. y) k (map-Statement X Statement v x)
natural X v k (Statement-F.Call lower times) = refl
natural X v k (Statement-F.Map place m counts starts parts) =
    ap (λ (f : AskedOfStatement). λ n. AreCounts counts n × (starts ≡ starts_from 0 counts) × f (total counts))
    (parts_same v k parts)

abbrev step : Statement-F Statement → AskedOfStatement
step = times_step Statement (λ y. y) IsBegun

pub times_call : (lower : Bool) (times : List CallInstance)
    → IsBegun (b.Call lower times) ≡ step (Statement-F.Call lower times)
times_call lower times = ap IsBegun (sym (b.rolls-Call lower times))
    ∙ rec-roll-Statement AskedOfStatement times_step natural (Statement-F.Call lower times)

pub times_map : (place : Place) (m : LoopKind) (counts starts : List ℕ) (parts : List Statement)
    → IsBegun (b.Map place m counts starts parts) ≡ step (Statement-F.Map place m counts starts parts)
times_map place m counts starts parts = ap IsBegun (sym (b.rolls-Map place m counts starts parts))
    ∙ rec-roll-Statement AskedOfStatement times_step natural (Statement-F.Map place m counts starts parts)

-- the calls that a statement begins at its k-th time
abbrev pub calls_at : Statement → ℕ → List CallInstance
calls_at x = (begun x).calls

-- ---- lists by number

-- f of so many numbers from a on
abbrev pub listed : {A : Type 0} → (ℕ → A) → (a n : ℕ) → List A
listed f a zero = []
listed f a (suc n) = f a ∷ listed f (suc a) n

listed_same : {A : Type 0} (f g : ℕ → A) (a n : ℕ) → ((t : ℕ) → f t ≡ g t) → listed f a n ≡ listed g a n
listed_same f g a zero same = refl
listed_same f g a (suc n) same = ap₂ (λ x xs. x ∷ xs) (same a) (listed_same f g (suc a) n same)

shifted : {A : Type 0} (f : ℕ → A) (a n : ℕ) → listed f (suc a) n ≡ listed (λ t. f (suc t)) a n
shifted f a zero = refl
shifted f a (suc n) = ap (λ xs. f (suc a) ∷ xs) (shifted f (suc a) n)

from_zero : {A : Type 0} (f : ℕ → A) (a n : ℕ) → listed f a n ≡ listed (λ t. f (a + t)) 0 n
from_zero f zero n = listed_same f (λ t. f (0 + t)) 0 n (λ t. let z : t ≡ 0 + t = omega arith in ap f z)
from_zero f (suc a) n =
    shifted f a n ∙ from_zero (λ t. f (suc t)) a n
    ∙ listed_same (λ t. f (suc (a + t))) (λ t. f (suc a + t)) 0 n
    (λ t. let z : suc (a + t) ≡ suc a + t = omega arith in ap f z)

take_listed : {A : Type 0} (f : ℕ → A) (a c m : ℕ) → take c (listed f a (c + m)) ≡ listed f a c
take_listed f a zero m = refl
take_listed f a (suc c) m =
    let z : suc c + m ≡ suc (c + m) = omega arith in
    ap (λ n. take (suc c) (listed f a n)) z ∙ ap (λ xs. f a ∷ xs) (take_listed f (suc a) c m)

drop_listed : {A : Type 0} (f : ℕ → A) (a c m : ℕ) → drop c (listed f a (c + m)) ≡ listed f (a + c) m
drop_listed f a zero m =
    let z : 0 + m ≡ m = omega arith in
    let w : a ≡ a + 0 = omega arith in
    ap (λ n. listed f a n) z ∙ ap (λ n. listed f n m) w
drop_listed f a (suc c) m =
    let z : suc c + m ≡ suc (c + m) = omega arith in
    let w : suc a + c ≡ a + suc c = omega arith in
    ap (λ n. drop (suc c) (listed f a n)) z ∙ drop_listed f (suc a) c m ∙ ap (λ n. listed f n m) w

-- what passes for each passes for the k-th
pub at_listed : {A : Type 0} (p : A → Bool) (f : ℕ → A) (a n k : ℕ) → list_all p (listed f a n) ≡ true → k < n
    → p (f (a + k)) ≡ true
at_listed p f a zero k h lt = absurd (omega (arith, lt))
at_listed p f a (suc n) zero h lt =
    let z : a ≡ a + 0 = omega arith in
    subst (λ m. p (f m) ≡ true) z (both (p (f a)) (list_all p (listed f (suc a) n)) h).0
at_listed p f a (suc n) (suc k) h lt =
    let z : suc a + k ≡ a + suc k = omega arith in
    subst (λ m. p (f m) ≡ true) z
    (at_listed p f (suc a) n k (both (p (f a)) (list_all p (listed f (suc a) n)) h).1 (omega (arith, lt)))

-- ---- a call

singles : (rows : List CallInstance)
    → map (λ q. q ∷ []) rows ≡ listed (λ k. row_list (slice_get rows k)) 0 (length rows)
singles [] = refl
singles (r ∷ rows) =
    ap (λ xs. (r ∷ []) ∷ xs) (singles rows
    ∙ sym (shifted (λ k. row_list (slice_get (r ∷ rows) k)) 0 (length rows)))

-- ---- a loop

joined_over : {A : Type 0} (f : ℕ → List A) (a c : ℕ) → joined (listed f a c) ≡ over a c (λ t. f t ++ [])
joined_over f a zero = refl
joined_over f a (suc c) =
    let z : suc a ≡ a + 1 = omega arith in
    ap₂ (λ xs ys. xs ++ ys) (sym (nothing_more (f a)))
    (joined_over f (suc a) c ∙ ap (λ n. over n c (λ t. f t ++ [])) z)

over_from : {A : Type 0} (f : ℕ → List A) (a c : ℕ) → joined (listed f a c) ≡ over 0 c (λ t. f (a + t) ++ [])
over_from f a c = ap joined (from_zero f a c) ∙ joined_over (λ t. f (a + t)) 0 c

-- the calls of a loop, out of those of what alone stands in it
abbrev turn : (ℕ → List CallInstance) → List ℕ → List ℕ → ℕ → List CallInstance
turn f counts starts k = over 0 (get_or counts k 0) (λ t. f (get_or starts k 0 + t) ++ [])

turns : (f : ℕ → List CallInstance) (counts : List ℕ) (a : ℕ)
    → in_times counts (listed f a (total counts)) ≡ listed (turn f counts (starts_from a counts)) 0 (length counts)
turns f [] a = refl
turns f (c ∷ cs) a =
    ap₂ (λ (x : List CallInstance) (xs : List (List CallInstance)). x ∷ xs)
    (ap joined (take_listed f a c (total cs)) ∙ over_from f a c)
    (ap (in_times cs) (drop_listed f a c (total cs)) ∙ turns f cs (a + c)
    ∙ sym (shifted (turn f (c ∷ cs) (starts_from a (c ∷ cs))) 0 (length cs)))

-- ---- each nest

-- begun so many times, at least once, it has the calls of each time
pub record IsListed (x : Statement) (m : Nest) (n : ℕ) : Type 0 where
  pub some : 0 < n
  pub times : m.times ≡ listed (calls_at x) 0 n

-- a loop in which something is begun has a count each time
pub counts_there : (counts : List ℕ) (n : ℕ) → AreCounts counts n → 0 < total counts
    → (length counts ≡ n) × (0 < n)
counts_there [] n h some = absurd (omega (arith, some))
counts_there (c ∷ cs) n (inl e) some = absurd (cc e)
counts_there (c ∷ cs) n (inr e) some = (e, omega (arith, e))

call_times : (lower : Bool) (rows : List CallInstance) (m : Nest) → IsCall lower rows m → (n : ℕ)
    → IsBegun (b.Call lower rows) n → IsListed (b.Call lower rows) m n
call_times lower rows m c n h =
    let many : length rows ≡ n = subst (λ (f : AskedOfStatement). f n) (times_call lower rows) h in
    let some = c.some in record {
      some = omega (arith, some, many);
      times = c.times ∙ singles rows
          ∙ ap₂ (λ (p : Begun) (k : ℕ). listed p.calls 0 k) (sym (begun_call lower rows)) many;
    }

loop_times : (place : Place) (counts starts : List ℕ) (x : Statement) (m : Nest)
    → ((n : ℕ) → IsBegun x n → IsListed x m n) → (n : ℕ)
    → IsBegun (b.Map place loop_kind.Sequential counts starts (x ∷ [])) n
    → IsListed (b.Map place loop_kind.Sequential counts starts (x ∷ [])) (looped place counts m) n
loop_times place counts starts x m known n h =
    let asked = subst (λ (f : AskedOfStatement). f n) (times_map place loop_kind.Sequential counts starts (x ∷ [])) h in
    let inner = known (total counts) asked.2.0 in
    let many = counts_there counts n asked.0 inner.some in record {
      some = many.1;
      times = ap (in_times counts) inner.times
          ∙ turns (calls_at x) counts 0
          ∙ ap (λ ss. listed (turn (calls_at x) counts ss) 0 (length counts)) (sym asked.1)
          ∙ ap₂ (λ (p : Begun) (k : ℕ). listed p.calls 0 k)
          (sym (begun_map place loop_kind.Sequential counts starts (x ∷ []))) many.0;
    }

pub times_climb : (caller : ℕ) → Climbs caller (λ x m. (n : ℕ) → IsBegun x n → IsListed x m n)
times_climb caller = record {
  call = call_times;
  loop = λ place counts starts x m is some known. loop_times place counts starts x m known;
}

-- so what passes for the calls of all times passes for those that it begins
pub each_time : (caller : ℕ) (x : Statement) (m : Nest) → nest_of caller x ≡ Some m → (n : ℕ) → IsBegun x n
    → (p : List CallInstance → Bool) → list_all p m.times ≡ true → (k : ℕ) → k < n → p (calls_at x k) ≡ true
each_time caller x m is n h p all k lt =
    let z : 0 + k ≡ k = omega arith in
    let its = climb caller (λ x m. (n : ℕ) → IsBegun x n → IsListed x m n) (times_climb caller) x m is n h in
    subst (λ j. p (calls_at x j) ≡ true) z
    (at_listed p (calls_at x) 0 n k (subst (λ ts. list_all p ts ≡ true) its.times all) lt)
