-- What runs carry, as sums.
use Rattle.std.proofs.Common.{◌≡◌, ℕ, zero, suc, ◌+◌, ◌-◌, ◌*◌, ◌<◌, ◌≤◌, ◌^◌, Bool, true, false, if◌then◌else◌, List, [], ◌∷◌, ◌++◌, length, get_or, replicate, append-nil, refl, sym, ap, ap₂, ◌∙◌, Option, Some, None, arith}
use Rattle.std.specs.Prelude.{is_none}
use Rattle.std.proofs.lemmas.Bool.Decides.{nat_tests}
use Rattle.std.specs.List.{swap, slice_set, slice_index_or}
use Rattle.std.specs.List.Sorted.{IsPermutation}
use Rattle.std.proofs.lemmas.List.Sorted.{IsPermutation-keeps}
use Rattle.sq_num.specs.Elements.{width}
use Rattle.sq_leaf.specs.declared.trap.Trap.{Trap}
use Rattle.sq_ir.specs.Tree.{Tree, Skip, Act, Stuck, Seq, Par, Within, is_done, waiting_events}
use Rattle.sq_rect.specs.Paths.{is_before}
use Rattle.sq_ir.specs.Runs as runs
use Rattle.sq_ir.specs.Runs.{Meaning, End, State, exec, in_turn, beside, least}
use Rattle.sq_ir.specs.Unordered.{IsFresh}
use Rattle.sq_ir.specs.Events.{Event, Copy, Fill, Accumulate, Leaf}
use Rattle.sq_ir.specs.Traffic.{more_by, is_edge, with_event, each_edge, carried, carried_all, nothing_carried, no_counts, counted, counted_all, down_by, up_by, copies_by, fills_by, accumulations_by, leaves_by}
use Rattle.sq_ir.specs.declared.traffic.Carried.{Carried}
use Rattle.sq_ir.specs.declared.traffic.EventCounts.{EventCounts}
use Rattle.sq_ir.specs.Events.{meaning}
use Rattle.sq_ir.specs.Written.{at_root}
use Rattle.sq_ir.specs.Plans.{setting_of, tree_of}
use Rattle.sq_ir.specs.PlanLaws.{EndByForm, PerformOnce}
use Rattle.sq_ir.proofs.Fresh.{fresh-entry}
use Rattle.sq_tree.specs.Bank.{leaves_in}
use Rattle.sq_tree.specs.Totals.{HaveThePlansSums, total, stopped, carried_by, counts_of}

-- ---- sums that stop

more : (n a b : ℕ) → more_by (stopped (n + a)) b ≡ stopped (n + a + b)
more n a b = omega arith

-- an edge after some bytes more in either direction
abbrev with_both : (down up : ℕ) → Carried → Carried
with_both down up c = record { down = stopped (c.down + down); up = stopped (c.up + up) }

-- what an edge carried stays within 64 bits
record IsWithin (c : Carried) : Type 0 where
  down : c.down ≤ 2 ^ 64 - 1
  up : c.up ≤ 2 ^ 64 - 1

stays : (n : ℕ) → n ≤ 2 ^ 64 - 1 → n ≡ stopped (n + 0)
stays n h = omega (arith, h)

nothing-more : (c : Carried) → IsWithin c → c ≡ with_both 0 0 c
nothing-more c h = ap₂ (λ d u. record { down = d; up = u }) (stays c.down h.down) (stays c.up h.up)

down-more : (n : ℕ) (c : Carried) → IsWithin c → record { down = more_by c.down n; up = c.up } ≡ with_both n 0 c
down-more n c h = ap (λ u. record { down = more_by c.down n; up = u }) (stays c.up h.up)

up-more : (n : ℕ) (c : Carried) → IsWithin c → record { down = c.down; up = more_by c.up n } ≡ with_both 0 n c
up-more n c h = ap (λ d. record { down = d; up = more_by c.up n }) (stays c.down h.down)

not-both : (a b edge : ℕ) → is_edge a b edge ≡ true → is_edge b a edge ≡ false
not-both a b edge h = grind (arith, nat_tests)

-- one event adds what it carries down and up
one-event : (level : ℕ → ℕ) (e : Event) (edge : ℕ) (c : Carried) → IsWithin c → with_event level e edge c ≡ with_both (down_by level edge e) (up_by level edge e) c
one-event level (Fill to elem count v) edge c h = nothing-more c h
one-event level (Leaf node code vs path) edge c h = nothing-more c h
one-event level (Accumulate op elem from to count) edge c h = by (is_edge (level to.node) (level from.node) edge)
  where
    by : (y : Bool) → (if y then record { down = c.down; up = more_by c.up (count * width elem) } else c) ≡ with_both 0 (if y then count * width elem else 0) c
    by true = up-more (count * width elem) c h
    by false = nothing-more c h
one-event level (Copy from to bytes) edge c h = by (is_edge (level from.node) (level to.node) edge) (is_edge (level to.node) (level from.node) edge) refl refl
  where
    by : (x y : Bool) → x ≡ is_edge (level from.node) (level to.node) edge → y ≡ is_edge (level to.node) (level from.node) edge
        → (if x then record { down = more_by c.down bytes; up = c.up } else (if y then record { down = c.down; up = more_by c.up bytes } else c))
        ≡ with_both (if x then bytes else 0) (if y then bytes else 0) c
    by true true p q = let no = not-both (level from.node) (level to.node) edge (sym p) in let wrong : true ≡ false = q ∙ no in cc
    by true false p q = down-more bytes c h
    by false true p q = up-more bytes c h
    by false false p q = nothing-more c h

within : (d u : ℕ) (c : Carried) → IsWithin (with_both d u c)
within d u c = record { down = omega arith; up = omega arith }

-- ---- all events, at one edge

abbrev at_edge : (level : ℕ → ℕ) → List Event → (edge : ℕ) → Carried → Carried
at_edge level [] edge c = c
at_edge level (e ∷ es) edge c = at_edge level es edge (with_event level e edge c)

two-more : (d u d' u' : ℕ) (c : Carried) → with_both d' u' (with_both d u c) ≡ with_both (d + d') (u + u') c
two-more d u d' u' c =
    let first : stopped (stopped (c.down + d) + d') ≡ stopped (c.down + (d + d')) = omega arith in
    let second : stopped (stopped (c.up + u) + u') ≡ stopped (c.up + (u + u')) = omega arith in
    ap₂ (λ x y. record { down = x; up = y }) first second

all-events : (level : ℕ → ℕ) (es : List Event) (edge : ℕ) (c : Carried) → IsWithin c → at_edge level es edge c ≡ with_both (total (down_by level edge) es) (total (up_by level edge) es) c
all-events level [] edge c h = nothing-more c h
all-events level (e ∷ es) edge c h =
    ap (λ x. at_edge level es edge x) (one-event level e edge c h)
    ∙ all-events level es edge (with_both (down_by level edge e) (up_by level edge e) c) (within (down_by level edge e) (up_by level edge e) c)
    ∙ two-more (down_by level edge e) (up_by level edge e) (total (down_by level edge) es) (total (up_by level edge) es) c

-- ---- all edges

get-each : (f : ℕ → Carried → Carried) (first k : ℕ) (cs : List Carried) → k < length cs → get_or (each_edge f first cs) k nothing_carried ≡ f (first + k) (get_or cs k nothing_carried)
get-each f first k [] h = absurd (omega (arith, h))
get-each f first zero (c ∷ cs) h = let e : first ≡ first + 0 = omega arith in ap (λ n. f n c) e
get-each f first (suc k) (c ∷ cs) h =
    let e : suc first + k ≡ first + suc k = omega arith in
    let l : k < length cs = omega (arith, h) in
    get-each f (suc first) k cs l ∙ ap (λ n. f n (get_or cs k nothing_carried)) e

same-length : (f : ℕ → Carried → Carried) (first : ℕ) (cs : List Carried) → length (each_edge f first cs) ≡ length cs
same-length f first [] = refl
same-length f first (c ∷ cs) = ap suc (same-length f (suc first) cs)

each-at : (level : ℕ → ℕ) (es : List Event) (cs : List Carried) (k : ℕ) → k < length cs → get_or (carried_all level es cs) k nothing_carried ≡ at_edge level es k (get_or cs k nothing_carried)
each-at level [] cs k h = refl
each-at level (e ∷ es) cs k h =
    let same = same-length (with_event level e) 0 cs in
    let l : k < length (carried level e cs) = omega (arith, h, same) in
    let from_zero : 0 + k ≡ k = omega arith in
    each-at level es (carried level e cs) k l
    ∙ ap (λ c. at_edge level es k c) (get-each (with_event level e) 0 k cs h ∙ ap (λ n. with_event level e n (get_or cs k nothing_carried)) from_zero)

from_nothing : (n : ℕ) → 0 + n ≡ n
from_nothing n = omega arith

fresh : (n k : ℕ) → get_or (replicate n nothing_carried) k nothing_carried ≡ nothing_carried
fresh zero k = refl
fresh (suc n) zero = refl
fresh (suc n) (suc k) = fresh n k

long : (n : ℕ) → length (replicate n nothing_carried) ≡ n
long zero = refl
long (suc n) = ap suc (long n)

pub edge-sums : (level : ℕ → ℕ) (es : List Event) (edges k : ℕ) → k < edges
    → get_or (carried_all level es (replicate edges nothing_carried)) k nothing_carried ≡ carried_by level k es
edge-sums level es edges k h =
    let n = long edges in
    let l : k < length (replicate edges nothing_carried) = omega (arith, h, n) in
    each-at level es (replicate edges nothing_carried) k l
    ∙ ap (λ c. at_edge level es k c) (fresh edges k)
    ∙ all-events level es k nothing_carried (record { down = omega arith; up = omega arith })
    ∙ ap₂ (λ d u. record { down = stopped d; up = stopped u }) (from_nothing (total (down_by level k) es)) (from_nothing (total (up_by level k) es))

-- ---- counts

abbrev plus : EventCounts → (copies fills accumulations leaves : ℕ) → EventCounts
plus c a b d e =
    record { copies = stopped (c.copies + a); fills = stopped (c.fills + b); accumulations = stopped (c.accumulations + d); leaves = stopped (c.leaves + e) }

record AreWithin (c : EventCounts) : Type 0 where
  copies : c.copies ≤ 2 ^ 64 - 1
  fills : c.fills ≤ 2 ^ 64 - 1
  accumulations : c.accumulations ≤ 2 ^ 64 - 1
  leaves : c.leaves ≤ 2 ^ 64 - 1

abbrev of : (copies fills accumulations leaves : ℕ) → EventCounts
of a b d e = record { copies = a; fills = b; accumulations = d; leaves = e }

counts : {a b d e a' b' d' e' : ℕ} → a ≡ a' → b ≡ b' → d ≡ d' → e ≡ e' → of a b d e ≡ of a' b' d' e'
counts {a} {b} {d} {e} {a'} {b'} {d'} {e'} p q r s = ap₂ (λ x y. of x y d e) p q ∙ ap₂ (λ x y. of a' b' x y) r s

one-count : (e : Event) (c : EventCounts) → AreWithin c → counted e c ≡ plus c (copies_by e) (fills_by e) (accumulations_by e) (leaves_by e)
one-count (Copy from to bytes) c h = counts refl (stays c.fills h.fills) (stays c.accumulations h.accumulations) (stays c.leaves h.leaves)
one-count (Fill to elem count v) c h = counts (stays c.copies h.copies) refl (stays c.accumulations h.accumulations) (stays c.leaves h.leaves)
one-count (Accumulate op elem from to count) c h = counts (stays c.copies h.copies) (stays c.fills h.fills) refl (stays c.leaves h.leaves)
one-count (Leaf node code vs path) c h = counts (stays c.copies h.copies) (stays c.fills h.fills) (stays c.accumulations h.accumulations) refl

are-within : (c : EventCounts) (a b d e : ℕ) → AreWithin (plus c a b d e)
are-within c a b d e = record { copies = omega arith; fills = omega arith; accumulations = omega arith; leaves = omega arith }

twice : (n a b : ℕ) → stopped (stopped (n + a) + b) ≡ stopped (n + (a + b))
twice n a b = omega arith

all-counts : (es : List Event) (c : EventCounts) → AreWithin c → counted_all es c ≡ plus c (total copies_by es) (total fills_by es) (total accumulations_by es) (total leaves_by es)
all-counts [] c h = counts (stays c.copies h.copies) (stays c.fills h.fills) (stays c.accumulations h.accumulations) (stays c.leaves h.leaves)
all-counts (e ∷ es) c h =
    ap (λ x. counted_all es x) (one-count e c h)
    ∙ all-counts es (plus c (copies_by e) (fills_by e) (accumulations_by e) (leaves_by e)) (are-within c (copies_by e) (fills_by e) (accumulations_by e) (leaves_by e))
    ∙ counts (twice c.copies (copies_by e) (total copies_by es)) (twice c.fills (fills_by e) (total fills_by es)) (twice c.accumulations (accumulations_by e) (total accumulations_by es)) (twice c.leaves (leaves_by e) (total leaves_by es))

pub count-sums : (es : List Event) → counted_all es no_counts ≡ counts_of es
count-sums es =
    all-counts es no_counts (record { copies = omega arith; fills = omega arith; accumulations = omega arith; leaves = omega arith })
    ∙ counts (ap stopped (from_nothing (total copies_by es))) (ap stopped (from_nothing (total fills_by es))) (ap stopped (from_nothing (total accumulations_by es))) (ap stopped (from_nothing (total leaves_by es)))

-- ---- another order

total-set : (f : Event → ℕ) (es : List Event) (i : ℕ) (e d : Event) → i < length es → total f (slice_set es i e) + f (slice_index_or es i d) ≡ total f es + f e
total-set f [] i e d h = absurd (omega (arith, h))
total-set f (x ∷ xs) zero e d h = omega arith
total-set f (x ∷ xs) (suc i) e d h =
    let l : i < length xs = omega (arith, h) in
    let r = total-set f xs i e d l in
    omega (arith, r)

-- where an element is put that another place holds too, that place holds it still
still : (es : List Event) (i j : ℕ) (e d : Event) → e ≡ slice_index_or es j d → i < length es → slice_index_or (slice_set es i e) j d ≡ e
still [] i j e d is h = absurd (omega (arith, h))
still (x ∷ xs) zero zero e d is h = refl
still (x ∷ xs) zero (suc j) e d is h = sym is
still (x ∷ xs) (suc i) zero e d is h = sym is
still (x ∷ xs) (suc i) (suc j) e d is h =
    let l : i < length xs = omega (arith, h) in
    still xs i j e d is l

set-length : (es : List Event) (i : ℕ) (e : Event) → length (slice_set es i e) ≡ length es
set-length [] i e = refl
set-length (x ∷ xs) zero e = refl
set-length (x ∷ xs) (suc i) e = ap suc (set-length xs i e)

total-swap : (f : Event → ℕ) (es : List Event) (i j : ℕ) → i < length es → j < length es → total f (swap es i j) ≡ total f es
total-swap f [] i j h k = refl
total-swap f (d ∷ es) i j h k =
    let a = slice_index_or (d ∷ es) i d in
    let b = slice_index_or (d ∷ es) j d in
    let first = total-set f (d ∷ es) i b d h in
    let n = set-length (d ∷ es) i b in
    let l : j < length (slice_set (d ∷ es) i b) = omega (arith, n, k) in
    let second = total-set f (slice_set (d ∷ es) i b) j a d l in
    let same = ap f (still (d ∷ es) i j b d refl h) in
    omega (arith, first, second, same)

pub permuted : (f : Event → ℕ) (xs ys : List Event) → IsPermutation xs ys → total f ys ≡ total f xs
permuted f xs ys h = IsPermutation-keeps xs (λ l. total f l ≡ total f xs) refl (λ l i j p q same. total-swap f l i j p q ∙ same) ys h

-- ---- runs in which nothing traps

no-trap-left : {C : Type 0} (x y : Option (runs.Trap C)) → least x y ≡ None → x ≡ None
no-trap-left None y h = refl
no-trap-left (Some x) None h = cc
no-trap-left (Some x) (Some y) h = by (is_before y.path x.path) h
  where
    by : (b : Bool) → (if b then Some y else Some x) ≡ None → Some x ≡ None
    by true e = cc
    by false e = e

no-trap-right : {C : Type 0} (x y : Option (runs.Trap C)) → least x y ≡ None → y ≡ None
no-trap-right None y h = h
no-trap-right (Some x) None h = refl
no-trap-right (Some x) (Some y) h = by (is_before y.path x.path) h
  where
    by : (b : Bool) → (if b then Some y else Some x) ≡ None → Some y ≡ None
    by true e = e
    by false e = cc

nothing-in-two : {E : Type 0} (x y : Bool) (xs ys : List E) → (x ≡ true → xs ≡ []) → (y ≡ true → ys ≡ []) → (if x then y else false) ≡ true → xs ++ ys ≡ []
nothing-in-two true y xs ys p q h = ap₂ (λ u v. u ++ v) (p refl) (q h)
nothing-in-two false y xs ys p q h = cc

nothing-waits : {E S : Type 0} (t : Tree E S) → is_done t ≡ true → waiting_events t ≡ []
nothing-waits Skip h = refl
nothing-waits (Act e) h = cc
nothing-waits (Stuck e) h = cc
nothing-waits (Seq a b) h =
    nothing-in-two (is_done a) (is_done b) (waiting_events a) (waiting_events b) (λ e. nothing-waits a e) (λ e. nothing-waits b e) h
nothing-waits (Par a b) h =
    nothing-in-two (is_done a) (is_done b) (waiting_events a) (waiting_events b) (λ e. nothing-waits a e) (λ e. nothing-waits b e) h
nothing-waits (Within s a) h = nothing-waits a h

-- of two ends in turn
module _ {M C : Type 0} where
  turned : (r : End M C) (go : M → End M C) → (r.trap ≡ None → r.finished ≡ true)
      → ((go r.bytes).trap ≡ None → (go r.bytes).finished ≡ true) → (in_turn r go).trap ≡ None → (in_turn r go).finished ≡ true
  turned r go first second h = by r.finished refl
    where
      by : (x : Bool) → x ≡ r.finished → (in_turn r go).finished ≡ true
      by true e =
          let whole : in_turn r go ≡ beside r go = ap (λ v. if v then beside r go else r) (sym e) in
          let none : (beside r go).trap ≡ None = sym (ap (λ (q : End M C). q.trap) whole) ∙ h in
          ap (λ (q : End M C). q.finished) whole
          ∙ ap (λ v. if v then (go r.bytes).finished else false) (sym e)
          ∙ second (no-trap-right r.trap (go r.bytes).trap none)
      by false e =
          let whole : in_turn r go ≡ r = ap (λ v. if v then beside r go else r) (sym e) in
          let none : r.trap ≡ None = sym (ap (λ (q : End M C). q.trap) whole) ∙ h in
          let wrong : false ≡ true = e ∙ first none in
          cc

  both : (r : End M C) (go : M → End M C) → (r.trap ≡ None → r.finished ≡ true)
      → ((go r.bytes).trap ≡ None → (go r.bytes).finished ≡ true) → (beside r go).trap ≡ None → (beside r go).finished ≡ true
  both r go first second h =
      ap (λ v. if v then (go r.bytes).finished else false) (first (no-trap-left r.trap (go r.bytes).trap h))
      ∙ second (no-trap-right r.trap (go r.bytes).trap h)

all-finished : {E S M C : Type 0} (w : Meaning E M C) (t : Tree E S) (m : M) → IsFresh t → (exec w t m).trap ≡ None → (exec w t m).finished ≡ true
all-finished w Skip m fresh h = refl
all-finished w (Act e) m fresh h = ap (λ x. is_none x) h
all-finished w (Stuck e) m fresh h = absurd fresh
all-finished w (Seq a b) m fresh h =
    turned (exec w a m) (λ x. exec w b x) (λ n. all-finished w a m fresh.0 n) (λ n. all-finished w b (exec w a m).bytes fresh.1 n) h
all-finished w (Par a b) m fresh h =
    both (exec w a m) (λ x. exec w b x) (λ n. all-finished w a m fresh.0 n) (λ n. all-finished w b (exec w a m).bytes fresh.1 n) h
all-finished w (Within s a) m fresh h = all-finished w a m fresh h

-- nothing waits where a whole run has ended without a trap
none-left : {E S M C : Type 0} (w : Meaning E M C) (t rest : Tree E S) (m : M) (trap : Option (runs.Trap C)) → IsFresh t
    → trap ≡ (exec w t m).trap → is_done rest ≡ (exec w t m).finished → trap ≡ None → waiting_events rest ≡ []
none-left w t rest m trap fresh same done none = nothing-waits rest (done ∙ all-finished w t m fresh (sym same ∙ none))

pub whole-sums : EndByForm Trap → PerformOnce Trap → HaveThePlansSums
whole-sums form once p m good picks events last ends none f =
    let end = form (leaves_in p) p m good picks events last ends in
    let nothing = none-left (meaning (leaves_in p)) (tree_of p) last.rest m last.ended (fresh-entry (setting_of p) p.draft.entry p.draft.term at_root) end.trap end.finished none in
    let all = once (leaves_in p) p m picks events last ends.run in
    let same = permuted f (events ++ waiting_events last.rest) (waiting_events (tree_of p)) all in
    let whole : events ++ waiting_events last.rest ≡ events = ap (λ l. events ++ l) nothing ∙ append-nil events in
    sym (same ∙ ap (λ l. total f l) whole)
