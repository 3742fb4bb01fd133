-- Calls in plain loops, by induction on the loops; and which arguments leave these.
use Rattle.std.proofs.Common.{◌≡◌, ℕ, zero, suc, ◌+◌, ◌==◌, ◌<◌, ◌≤◌, Bool, true, false, ◌&&◌, nat_le, List, [], ◌∷◌}
use Rattle.std.proofs.Common.{◌++◌, length, map, get_or, Option, Some, None, refl, sym, ◌∙◌, ap, subst, arith}
use Rattle.std.proofs.Common.{if◌then◌else◌}
use Rattle.std.proofs.lemmas.Bool.Decides.{nat_tests}
use Rattle.std.specs.List.{list_all}
use Rattle.sq_text.specs.declared.place.Place.{Place}
use Rattle.sq_blocks.specs.declared.argument.Argument.{Argument}
use Rattle.sq_spec.specs.declared.statement.LoopKind.{LoopKind}
use Rattle.sq_spec.specs.declared.statement.LoopKind.TheVariants as loop_kind
use Rattle.sq_spec.specs.declared.statement.CallInstance.{CallInstance}
use Rattle.sq_spec.specs.declared.statement.Statement.{Statement, roll-Statement}
use Rattle.sq_spec.specs.declared.statement.Statement.TheVariants as b
use Rattle.sq_spec.specs.declared.statement.Statement.TheOpen.{Statement-F}
use Rattle.sq_spec.specs.declared.statement.Statement.TheFolds.{ind-Statement, map-Statement}
use Rattle.sq_pipe.specs.Hoist.Loops.{Nest, seen, nests, stays, in_times, leaving, looped, looped_by, looped_alone}
use Rattle.sq_pipe.specs.Hoist.Loops.{call_nest, loop_nest}
use Rattle.sq_pipe.proofs.Hoist.Opened.{nest_call, nest_map}

pub both : (x y : Bool) → (x && y) ≡ true → (x ≡ true) × (y ≡ true)
both true y e = (refl, e)
both false y e = absurd (cc e)

pub same_number : (m n : ℕ) → (m == n) ≡ true → m ≡ n
same_number m n e = grind (arith, nat_tests)

pub some_is : {A : Type 0} (x y : A) → Some x ≡ Some y → x ≡ y
some_is x y e = cc e

-- ---- a call

-- a lower call that has one form: its rows are there, and no argument leaves a loop yet
pub record IsCall (lower : Bool) (rows : List CallInstance) (n : Nest) : Type 0 where
  pub is_lower : lower ≡ true
  pub some : 0 < length rows
  pub form : list_all (λ (q : CallInstance). q.form == n.form) rows ≡ true
  pub times : n.times ≡ map (λ (q : CallInstance). q ∷ []) rows
  pub loops : n.loops ≡ []
  pub leaves : (i : ℕ) → get_or n.leaves i 0 ≡ 0

zeros : (args : List Argument) (i : ℕ) → ◌≡◌ {A = ℕ} (get_or (map (λ (a : Argument). 0) args) i 0) 0
zeros [] zero = refl
zeros [] (suc i) = refl
zeros (a ∷ args) zero = refl
zeros (a ∷ args) (suc i) = zeros args i

abbrev one_of : CallInstance → List CallInstance → Nest
one_of r rows = record {
  form = r.form;
  times = map (λ q. q ∷ []) (r ∷ rows);
  loops = [];
  leaves = map (λ a. 0) r.args;
}

pub itself : (n : ℕ) → (n == n) ≡ true
itself n = grind (arith, nat_tests)

and_true : (x y : Bool) → x ≡ true → y ≡ true → (x && y) ≡ true
and_true x y p q = (λ i. p i && q i)

call_by : (r : CallInstance) (rows : List CallInstance) (n : Nest) (t : Bool)
    → list_all (λ (q : CallInstance). q.form == r.form) rows ≡ t
    → (if t then Some (one_of r rows) else None) ≡ Some n → IsCall true (r ∷ rows) n
call_by r rows n false same e = absurd (cc e)
call_by r rows n true same e =
    subst (IsCall true (r ∷ rows)) (some_is (one_of r rows) n e) (record {
      is_lower = refl;
      some = omega arith;
      form = and_true (r.form == r.form) _ (itself r.form) same;
      times = refl;
      loops = refl;
      leaves = zeros r.args;
    })

pub call_is : (lower : Bool) (rows : List CallInstance) (n : Nest) → call_nest lower rows ≡ Some n
    → IsCall lower rows n
call_is false rows n e = absurd (cc e)
call_is true [] n e = absurd (cc e)
call_is true (r ∷ rows) n e = call_by r rows n (list_all (λ q. q.form == r.form) rows) refl e

-- ---- a loop

-- a plain loop: what alone stands in it is one
pub record IsLoop (place : Place) (kind : LoopKind) (counts : List ℕ) (parts : List (Option Nest))
    (n : Nest) : Type 0 where
  pub inner : Nest
  pub in_turn : kind ≡ loop_kind.Sequential
  pub some : list_all (λ c. nat_le 1 c) counts ≡ true
  pub alone : parts ≡ Some inner ∷ []
  pub is : looped place counts inner ≡ n

alone_by : (place : Place) (counts : List ℕ) (parts : List (Option Nest)) (n : Nest)
    → list_all (λ c. nat_le 1 c) counts ≡ true → looped_alone place counts parts ≡ Some n
    → IsLoop place loop_kind.Sequential counts parts n
alone_by place counts [] n some_ e = absurd (cc e)
alone_by place counts (None ∷ []) n some_ e = absurd (cc e)
alone_by place counts (Some m ∷ []) n some_ e =
    record { inner = m; in_turn = refl; some = some_; alone = refl; is = some_is (looped place counts m) n e }
alone_by place counts (o ∷ p ∷ os) n some_ e = absurd (cc e)

loop_by : (place : Place) (counts : List ℕ) (parts : List (Option Nest)) (n : Nest) (t : Bool)
    → list_all (λ c. nat_le 1 c) counts ≡ t → (if t then looped_alone place counts parts else None) ≡ Some n
    → IsLoop place loop_kind.Sequential counts parts n
loop_by place counts parts n false same e = absurd (cc e)
loop_by place counts parts n true same e = alone_by place counts parts n same e

pub loop_is : (place : Place) (kind : LoopKind) (counts : List ℕ) (parts : List (Option Nest)) (n : Nest)
    → loop_nest place kind counts parts ≡ Some n → IsLoop place kind counts parts n
loop_is place loop_kind.Sequential counts parts n e =
    loop_by place counts parts n (list_all (λ c. nat_le 1 c) counts) refl e
loop_is place loop_kind.Parallel counts parts n e = absurd (cc e)
loop_is place (loop_kind.Reduction r) counts parts n e = absurd (cc e)

pub if_true : {A : Type 0} (t : Bool) (x y : A) → t ≡ true → (if t then x else y) ≡ x
if_true true x y e = refl
if_true false x y e = absurd (cc e)

-- ---- the induction

abbrev pub nest_of : (caller : ℕ) → Statement → Option Nest
nest_of caller x = (seen caller x).nest

-- a loop round a nest is one
pub loop_whole : (caller : ℕ) (place : Place) (counts starts : List ℕ) (x : Statement) (n : Nest)
    → nest_of caller x ≡ Some n → list_all (λ c. nat_le 1 c) counts ≡ true
    → nest_of caller (b.Map place loop_kind.Sequential counts starts (x ∷ [])) ≡ Some (looped place counts n)
loop_whole caller place counts starts x n is some_ =
    nest_map caller place loop_kind.Sequential counts starts (x ∷ [])
    ∙ if_true (list_all (λ c. nat_le 1 c) counts) (looped_by place counts (nest_of caller x)) None some_
    ∙ ap (looped_by place counts) is

-- What holds of calls, and of a loop where it holds of what alone stands in it.
pub record Climbs (caller : ℕ) (P : Statement → Nest → Type 0) : Type 0 where
  pub call : (lower : Bool) (rows : List CallInstance) (n : Nest) → IsCall lower rows n → P (b.Call lower rows) n
  pub loop : (place : Place) (counts starts : List ℕ) (x : Statement) (n : Nest) → nest_of caller x ≡ Some n
      → list_all (λ c. nat_le 1 c) counts ≡ true → P x n
      → P (b.Map place loop_kind.Sequential counts starts (x ∷ [])) (looped place counts n)

module _ (caller : ℕ) (P : Statement → Nest → Type 0) (climbs : Climbs caller P) where
  abbrev Held : Statement → Type 0
  Held x = (n : Nest) → nest_of caller x ≡ Some n → P x n

  abbrev Known : Type 0
  Known = (x : Statement) × Held x

  abbrev these : List Known → List Statement
  these = map (λ (q : Known). q.0)

  loop_held : (place : Place) (counts starts : List ℕ) (xs : List Known) (n m : Nest)
      → nests (map (seen caller) (these xs)) ≡ Some m ∷ [] → list_all (λ c. nat_le 1 c) counts ≡ true
      → looped place counts m ≡ n → P (b.Map place loop_kind.Sequential counts starts (these xs)) n
  loop_held place counts starts [] n m alone some_ is = absurd (cc alone)
  loop_held place counts starts (x ∷ []) n m alone some_ is =
      let its : nest_of caller x.0 ≡ Some m = cc alone in
      subst (P (b.Map place loop_kind.Sequential counts starts (x.0 ∷ []))) is
      (climbs.loop place counts starts x.0 m its some_ (x.1 m its))
  loop_held place counts starts (x ∷ y ∷ xs) n m alone some_ is = absurd (cc alone)

  map_held : (place : Place) (kind : LoopKind) (counts starts : List ℕ) (xs : List Known) (n : Nest)
      → IsLoop place kind counts (nests (map (seen caller) (these xs))) n
      → P (b.Map place kind counts starts (these xs)) n
  map_held place kind counts starts xs n l =
      subst (λ k. P (b.Map place k counts starts (these xs)) n) (sym l.in_turn)
      (loop_held place counts starts xs n l.inner l.alone l.some l.is)

  held_step : (y : Statement-F Known) → Held (roll-Statement (map-Statement Known Statement (λ p. p.0) y))
  held_step (Statement-F.Call lower rows) = subst Held (sym (b.rolls-Call lower rows)) (λ n e.
      climbs.call lower rows n (call_is lower rows n (sym (nest_call caller lower rows) ∙ e)))
  held_step (Statement-F.Map place kind counts starts xs) =
      subst Held (sym (b.rolls-Map place kind counts starts (these xs))) (λ n e.
      map_held place kind counts starts xs n (loop_is place kind counts (nests (map (seen caller) (these xs))) n
      (sym (nest_map caller place kind counts starts (these xs)) ∙ e)))

  pub climb : (x : Statement) → Held x
  climb = ind-Statement Held (λ x y is. subst (λ z. Held (roll-Statement z)) is (held_step y))

-- ---- how many loops an argument leaves

-- what becomes of a number of loops where there is one loop more, with so many inside it
pub data Left (inside l l' : ℕ) (all : Bool) : Type 0 where
  out : l ≡ inside → all ≡ true → l' ≡ suc inside → Left inside l l' all
  kept : l' ≡ l → Left inside l l' all

left_one : (inside l : ℕ) (all : Bool) → Left inside l (if l == inside && all then suc inside else l) all
left_one inside l all = by (l == inside) all refl refl
  where
    by : (a c : Bool) → (l == inside) ≡ a → all ≡ c → Left inside l (if l == inside && all then suc inside else l) all
    by true true p q = out (same_number l inside p) q (rw (p, q) refl)
    by true false p q = kept (rw (p, q) refl)
    by false c p q = kept (rw (p) refl)

left_from : (inside : ℕ) (times : List (List CallInstance)) (j i : ℕ) (ls : List ℕ)
    → Left inside (get_or ls i 0) (get_or (leaving inside times j ls) i 0) (list_all (stays (i + j)) times)
left_from inside times j i [] = kept refl
left_from inside times j zero (l ∷ ls) =
    let z : zero + j ≡ j = omega arith in
    subst (λ (k : ℕ). Left inside l (if l == inside && list_all (stays j) times then suc inside else l)
    (list_all (stays k) times)) (sym z) (left_one inside l (list_all (stays j) times))
left_from inside times j (suc i) (l ∷ ls) =
    let z : i + suc j ≡ suc i + j = omega arith in
    subst (λ (k : ℕ). Left inside (get_or ls i 0) (get_or (leaving inside times (suc j) ls) i 0)
    (list_all (stays k) times)) z (left_from inside times (suc j) i ls)

pub left_at : (place : Place) (counts : List ℕ) (n : Nest) (i : ℕ)
    → Left (length n.loops) (get_or n.leaves i 0) (get_or (looped place counts n).leaves i 0)
    (list_all (stays i) (looped place counts n).times)
left_at place counts n i =
    let times = in_times counts n.times in
    let z : i + 0 ≡ i = omega arith in
    subst (λ (k : ℕ). Left (length n.loops) (get_or n.leaves i 0)
    (get_or (leaving (length n.loops) times 0 n.leaves) i 0)
    (list_all (stays k) times)) z (left_from (length n.loops) times 0 i n.leaves)

pub longer : (xs : List Place) (p : Place) → length (xs ++ p ∷ []) ≡ suc (length xs)
longer [] p = refl
longer (x ∷ xs) p = ap suc (longer xs p)

-- no more than there are
pub record IsBound (n : Nest) : Type 0 where
  pub bound : (i : ℕ) → get_or n.leaves i 0 ≤ length n.loops

more_bound : (inside l l' : ℕ) (all : Bool) → Left inside l l' all → l ≤ inside → l' ≤ suc inside
more_bound inside l l' all (out p q r) h = omega (arith, r)
more_bound inside l l' all (kept r) h = omega (arith, r, h)

pub bounds_climb : (caller : ℕ) → Climbs caller (λ x n. IsBound n)
bounds_climb caller = record {
  call = λ lower rows n c. record { bound = λ i. let z = c.leaves i in omega (arith, z) };
  loop = λ place counts starts x n is some h. record {
    bound = λ i. subst (λ k. get_or (looped place counts n).leaves i 0 ≤ k) (sym (longer n.loops place))
        (more_bound (length n.loops) (get_or n.leaves i 0) (get_or (looped place counts n).leaves i 0)
        (list_all (stays i) (looped place counts n).times) (left_at place counts n i) (h.bound i));
  };
}

-- Of a call in some of the loops that stand round it, where arguments leave so many of all: those that leave no more
-- than these loops leave as many here, and those that leave more leave all of these.
pub record Follows (left : ℕ → ℕ) (n : Nest) : Type 0 where
  pub low : (i : ℕ) → left i ≤ length n.loops → get_or n.leaves i 0 ≡ left i
  pub high : (i : ℕ) → length n.loops ≤ left i → get_or n.leaves i 0 ≡ length n.loops

-- where there are no more
pub follows_all : (left : ℕ → ℕ) (n : Nest) → ((i : ℕ) → left i ≡ get_or n.leaves i 0) → IsBound n → Follows left n
follows_all left n is h = record {
  low = λ i l. sym (is i);
  high = λ i l. let e = is i in let m = h.bound i in omega (arith, l, e, m);
}

inner_low : (inside l l' left : ℕ) (all : Bool) → Left inside l l' all → (left ≤ suc inside → l' ≡ left)
    → left ≤ inside → l ≡ left
inner_low inside l l' left all (out p q r) h less = let e = h (omega (arith, less)) in omega (arith, p, r, e, less)
inner_low inside l l' left all (kept r) h less = let e = h (omega (arith, less)) in omega (arith, r, e)

inner_high : (inside l l' left : ℕ) (all : Bool) → Left inside l l' all → (suc inside ≤ left → l' ≡ suc inside)
    → l ≤ inside → suc inside ≤ left → l ≡ inside
inner_high inside l l' left all (out p q r) h most less = p
inner_high inside l l' left all (kept r) h most less = let e = h less in omega (arith, r, e, most)

all_stay : (inside l l' left : ℕ) (all : Bool) → Left inside l l' all → (suc inside ≤ left → l' ≡ suc inside)
    → l ≤ inside → left ≡ suc inside → all ≡ true
all_stay inside l l' left all (out p q r) h most is = q
all_stay inside l l' left all (kept r) h most is = let e = h (omega (arith, is)) in absurd (omega (arith, r, e, most))

module _ (left : ℕ → ℕ) (place : Place) (counts : List ℕ) (n : Nest) (bound : IsBound n)
    (h : Follows left (looped place counts n)) where
  now_low : (i : ℕ) → left i ≤ suc (length n.loops) → get_or (looped place counts n).leaves i 0 ≡ left i
  now_low i less = h.low i (subst (λ k. left i ≤ k) (sym (longer n.loops place)) less)

  now_high : (i : ℕ) → suc (length n.loops) ≤ left i
      → get_or (looped place counts n).leaves i 0 ≡ suc (length n.loops)
  now_high i less = h.high i (subst (λ k. k ≤ left i) (sym (longer n.loops place)) less) ∙ longer n.loops place

  low_inside : (i : ℕ) → left i ≤ length n.loops → get_or n.leaves i 0 ≡ left i
  low_inside i less =
      inner_low (length n.loops) (get_or n.leaves i 0) (get_or (looped place counts n).leaves i 0) (left i)
      (list_all (stays i) (looped place counts n).times) (left_at place counts n i) (now_low i) less

  -- so it is of what stands in the outermost of them
  pub follows_inside : Follows left n
  follows_inside = record {
    low = low_inside;
    high = λ i less. by i (nat_le (left i) (length n.loops)) refl less;
  }
    where
      by : (i : ℕ) (t : Bool) → nat_le (left i) (length n.loops) ≡ t → length n.loops ≤ left i
          → get_or n.leaves i 0 ≡ length n.loops
      by i true e less =
          let few : left i ≤ length n.loops = grind (arith, nat_tests) in
          let g = low_inside i few in omega (arith, g, few, less)
      by i false e less =
          let many : suc (length n.loops) ≤ left i = grind (arith, nat_tests) in
          inner_high (length n.loops) (get_or n.leaves i 0) (get_or (looped place counts n).leaves i 0) (left i)
          (list_all (stays i) (looped place counts n).times) (left_at place counts n i) (now_high i) (bound.bound i)
          many

  -- and an argument that leaves just these stays at each time
  pub stays_at : (i : ℕ) → left i ≡ suc (length n.loops) → list_all (stays i) (looped place counts n).times ≡ true
  stays_at i is =
      all_stay (length n.loops) (get_or n.leaves i 0) (get_or (looped place counts n).leaves i 0) (left i)
      (list_all (stays i) (looped place counts n).times) (left_at place counts n i) (now_high i) (bound.bound i) is
