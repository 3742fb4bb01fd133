-- The plain loops round a call, out of the tables of the form in which it stands, and which arguments leave them.
--
-- A plain loop is a `mapseq` of at least one iteration, each time that it is begun, whose body is one lower call that
-- has one form, or one plain loop. An argument of the call may leave such a loop where its block is the same in all
-- iterations, and for each other argument's block of any iteration the two share no element or neither is written, at
-- each time that the loop is begun. It leaves the outermost loop for which both hold.
--
-- `mapseq (int i = 0 to 2) { mapseq (int j = 0 to 3) { low(A[i], B[j], C); } }` begins its call six times:
-- - A's block is the same in all iterations of the inner loop, each time, and not in those of the outer one: it
--   leaves the inner loop alone, 1 loop.
-- - B's block differs in the inner loop already: it leaves none.
-- - C's block is the same in all six: it leaves both, 2 loops, where no other argument that shares an element with it
--   is in the call, or neither is written.
use Rattle.std.specs.Prelude.{ℕ, suc, ◌==◌, nat_le, Bool, true, false, ◌&&◌, List, [], ◌∷◌, ◌++◌, map, length}
use Rattle.std.specs.Prelude.{take, drop, slice_get, Option, Some, None, if◌then◌else◌}
use Rattle.std.specs.List.{list_all}
use Rattle.sq_text.specs.declared.place.Place.{Place}
use Rattle.sq_text.specs.declared.place.Span.{Span}
use Rattle.sq_blocks.specs.declared.argument.Argument.{Argument}
use Rattle.sq_spec.specs.Forms.Calls.{is_apart}
use Rattle.sq_spec.specs.declared.statement.LoopKind.{LoopKind}
use Rattle.sq_spec.specs.declared.statement.LoopKind.TheVariants as loop_kind
use Rattle.sq_spec.specs.declared.statement.CallInstance.{CallInstance}
use Rattle.sq_spec.specs.declared.statement.Statement.{Statement}
use Rattle.sq_spec.specs.declared.statement.Statement.TheOpen.{Statement-F}
use Rattle.sq_spec.specs.declared.statement.Statement.TheFolds.{fold-Statement}
use Rattle.sq_hoist.specs.declared.sites.Site.{Site}

-- ---- what is begun each time

-- a list in pieces, of so many each
abbrev pub cut : {A : Type 0} → List ℕ → List A → List (List A)
cut [] xs = []
cut (n ∷ ns) xs = take n xs ∷ cut ns (drop n xs)

abbrev pub joined : {A : Type 0} → List (List A) → List A
joined [] = []
joined (x ∷ xs) = x ++ joined xs

-- what is begun each time that a map of these counts is, out of what is begun in each iteration: of the counts 2 and
-- 1 and the iterations a, b and c it is a and b the first time, and c the second
abbrev pub in_times : {A : Type 0} → List ℕ → List (List A) → List (List A)
in_times counts each = map joined (cut counts each)

-- ---- an argument whose block is the same in all iterations

abbrev pub same_spans : List Span → List Span → Bool
same_spans [] [] = true
same_spans [] (t ∷ ts) = false
same_spans (s ∷ ss) [] = false
same_spans (s ∷ ss) (t ∷ ts) = s.lo == t.lo && (s.hi == t.hi && same_spans ss ts)

abbrev pub same_block : Argument → Argument → Bool
same_block x y = x.array == y.array && same_spans x.rect y.rect

abbrev pub is_block : Argument → Option Argument → Bool
is_block x None = false
is_block x (Some y) = same_block x y

-- the i-th argument has this block, and each other one shares no element with it or neither is written
abbrev pub stays_in : ℕ → Argument → CallInstance → Bool
stays_in i x r = is_block x (slice_get r.args i) && is_apart x i 0 r.args

abbrev pub stays_by : ℕ → Option Argument → List CallInstance → Bool
stays_by i None rows = false
stays_by i (Some x) rows = list_all (stays_in i x) rows

-- of all calls of one time: the block of the i-th argument is the same, and apart from the others of any of them
abbrev pub stays : ℕ → List CallInstance → Bool
stays i [] = true
stays i (r ∷ rows) = stays_by i (slice_get r.args i) (r ∷ rows)

-- ---- plain loops

-- One lower call that has one form, and the plain loops round it from the inside: the calls by the time that the
-- outermost loop is begun, each in a time of its own where there is none; and of each argument how many loops it
-- leaves, from the inside.
pub record Nest : Type 0 where
  pub form : ℕ
  pub times : List (List CallInstance)
  pub loops : List Place
  pub leaves : List ℕ

abbrev pub call_nest : (lower : Bool) → List CallInstance → Option Nest
call_nest false rows = None
call_nest true [] = None
call_nest true (r ∷ rows) =
    if list_all (λ q. q.form == r.form) rows
    then Some (record {
      form = r.form;
      times = map (λ q. q ∷ []) (r ∷ rows);
      loops = [];
      leaves = map (λ a. 0) r.args;
    })
    else None

-- The arguments from the i-th on: they leave this loop, with so many inside it, where they leave all of these and
-- stay at every time of it. Its calls are those of the loops inside it too, so what stays in it stays in them.
abbrev pub leaving : (inside : ℕ) → List (List CallInstance) → (i : ℕ) → List ℕ → List ℕ
leaving inside times i [] = []
leaving inside times i (l ∷ ls) =
    (if l == inside && list_all (stays i) times then suc inside else l) ∷ leaving inside times (suc i) ls

-- a plain loop more
abbrev pub looped : Place → List ℕ → Nest → Nest
looped place counts n =
    let times = in_times counts n.times in
    record {
      form = n.form;
      times = times;
      loops = n.loops ++ place ∷ [];
      leaves = leaving (length n.loops) times 0 n.leaves;
    }

abbrev pub looped_by : Place → List ℕ → Option Nest → Option Nest
looped_by place counts None = None
looped_by place counts (Some n) = Some (looped place counts n)

-- where one call or loop is the whole body
abbrev pub looped_alone : Place → List ℕ → List (Option Nest) → Option Nest
looped_alone place counts [] = None
looped_alone place counts (o ∷ []) = looped_by place counts o
looped_alone place counts (o ∷ p ∷ os) = None

abbrev pub is_sequential : LoopKind → Bool
is_sequential loop_kind.Sequential = true
is_sequential loop_kind.Parallel = false
is_sequential (loop_kind.Reduction r) = false

-- a `mapseq` that has at least one iteration each time
abbrev pub may_be_plain : LoopKind → List ℕ → Bool
may_be_plain kind counts = is_sequential kind && list_all (λ c. nat_le 1 c) counts

abbrev pub loop_nest : Place → LoopKind → List ℕ → List (Option Nest) → Option Nest
loop_nest place kind counts parts = if may_be_plain kind counts then looped_alone place counts parts else None

-- ---- the calls of a form that stand in plain loops

-- A statement: the call in plain loops that it is, if it is one, and else the calls in plain loops that stand in it.
pub record Seen : Type 0 where
  pub nest : Option Nest
  pub inner : List Site

abbrev pub nests : List Seen → List (Option Nest)
nests list = map (λ s. s.nest) list

-- caller: the number of the form
module _ (caller : ℕ) where
  abbrev pub site_of : Nest → Site
  site_of n = record { caller = caller; form = n.form; loops = n.loops; leaves = n.leaves }

  -- where a loop stands round the call
  abbrev pub sites_in : Nest → List Place → List Site
  sites_in n [] = []
  sites_in n (place ∷ outer) = site_of n ∷ []

  abbrev pub sites_by : Option Nest → List Site → List Site
  sites_by None inner = inner
  sites_by (Some n) inner = sites_in n n.loops

  -- of statements, in text order
  abbrev pub all_sites : List Seen → List Site
  all_sites [] = []
  all_sites (s ∷ list) = sites_by s.nest s.inner ++ all_sites list

  abbrev pub seen_step : Statement-F Seen → Seen
  seen_step (Statement-F.Call lower instances) = record { nest = call_nest lower instances; inner = [] }
  seen_step (Statement-F.Map place kind counts starts parts) =
      record { nest = loop_nest place kind counts (nests parts); inner = all_sites parts }

  abbrev pub seen : Statement → Seen
  seen = fold-Statement Seen seen_step

  -- the calls of these statements in plain loops, each with all that stand round it, in text order
  abbrev pub sites : List Statement → List Site
  sites list = all_sites (map seen list)
