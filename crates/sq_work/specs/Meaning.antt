-- What the source means on one flat memory: what becomes of the arrays, or the first trap. It knows no levels,
-- memories, copies or orders.
use Rattle.std.specs.Prelude.{ℕ, zero, suc, ◌+◌, ◌-◌, nat_eq, nat_lt, nat_le, ℤ, pos, Bool, true, false, ◌&&◌, ◌||◌, List, [], ◌∷◌, Option, Some, None, Result, Ok, Err, if◌then◌else◌, slice_get}
use Rattle.std.specs.List.{list_any}
use Rattle.sq_num.specs.Reductions.{red, identity}
use Rattle.sq_leaf.specs.Text.declared.place.Span.{Span}
use Rattle.sq_leaf.specs.declared.trap.Trap.{Trap}
use Rattle.sq_leaf.specs.Source.{Arrays}
use Rattle.sq_leaf.specs.Blocks.declared.argument.Argument.{Argument}
use Rattle.sq_leaf.specs.Ast.Modes.{is_read, is_written}
use Rattle.sq_leaf.specs.Blocks.Arguments.{lengths}
use Rattle.sq_work.specs.declared.reduction.Reduction.{Reduction}
use Rattle.sq_work.specs.Work.{Work, Nothing, Then, Each, AtOnce, Gathers, Call, Leaf}

-- a trap of leaf code, and the numbers of the iterations round it, from the entry down
pub record Trapped : Type 0 where
  pub path : List ℕ
  pub trap : Trap

abbrev pub Outcome : Type 0
Outcome = Result Arrays Trapped

abbrev pub and_then : Outcome → (Arrays → Outcome) → Outcome
and_then (Ok s) f = f s
and_then (Err x) f = Err x

-- a trap in iteration t: in iteration 2 the path 0, 1 becomes 2, 0, 1
abbrev pub with_turn : ℕ → Outcome → Outcome
with_turn t (Ok s) = Ok s
with_turn t (Err x) = Err (record { path = t ∷ x.path; trap = x.trap })

-- ---- blocks

-- a coordinate lies inside the extents: 1, 4 inside 2, 5
abbrev pub is_inside : List ℕ → List ℕ → Bool
is_inside [] [] = true
is_inside (n ∷ ns) (c ∷ cs) = nat_lt c n && is_inside ns cs
is_inside _ _ = false

-- a coordinate of the array lies in the block: 4 in 3..6
abbrev pub covers : List Span → List ℕ → Bool
covers [] [] = true
covers (s ∷ spans) (c ∷ cs) = nat_le s.lo c && (nat_lt c s.hi && covers spans cs)
covers _ _ = false

-- the block's coordinate 1 is the array's 4, of the block 3..6
abbrev pub in_array : List Span → List ℕ → List ℕ
in_array (s ∷ spans) (c ∷ cs) = (s.lo + c) ∷ in_array spans cs
in_array _ _ = []

-- and the array's 4 is the block's 1
abbrev pub in_block : List Span → List ℕ → List ℕ
in_block (s ∷ spans) (c ∷ cs) = (c - s.lo) ∷ in_block spans cs
in_block _ _ = []

-- the argument is a block with this element of this array
abbrev pub has : ℕ → List ℕ → Argument → Bool
has n cs a = nat_eq n a.array && covers a.rect cs

-- ---- calls

-- the values of an argument's block, by the coordinates of the parameter that it is
abbrev pub block_value : Argument → Arrays → List ℕ → ℤ
block_value a s cs = if is_inside (lengths a.rect) cs then s a.array (in_array a.rect cs) else pos 0

-- what a parameter is at the callee's start: the value of its argument, or zeros where that is not read
abbrev pub param_value : Option Argument → Arrays → List ℕ → ℤ
param_value None s cs = pos 0
param_value (Some a) s cs = if is_read a.mode then block_value a s cs else pos 0

-- the callee's arrays at its start: of f(A[2..4]) with `in` X, X[1] is A[3]; locals and `out` parameters are zeros
abbrev pub at_entry : List Argument → Arrays → Arrays
at_entry args s k = param_value (slice_get args k) s

-- an array with a block of it replaced
abbrev pub with_block : Argument → (List ℕ → ℤ) → Arrays → Arrays
with_block a value s n cs = if is_written a.mode && has n cs a then value (in_block a.rect cs) else s n cs

-- the caller's arrays at the callee's end: the values of its written parameters, from the k-th on, stand in their
-- blocks, and all else stays
abbrev pub at_return : ℕ → List Argument → Arrays → Arrays → Arrays
at_return k [] inner s = s
at_return k (a ∷ args) inner s = with_block a (inner k) (at_return (suc k) args inner s)

-- ---- which elements accesses are of

abbrev pub any_below : ℕ → (ℕ → Bool) → Bool
any_below zero f = false
any_below (suc n) f = f n || any_below n f

-- an argument for which `which` holds has the element; leaf code may be of all elements
abbrev pub accesses : (Argument → Bool) → Work → ℕ → List ℕ → Bool
accesses which Nothing n cs = false
accesses which (Then a b) n cs = accesses which a n cs || accesses which b n cs
accesses which (Each count w) n cs = any_below count (λ t. accesses which (w t) n cs)
accesses which (AtOnce place count w) n cs = any_below count (λ t. accesses which (w t) n cs)
accesses which (Gathers r place count w) n cs = any_below count (λ t. nat_eq n r.array || accesses which (w t) n cs)
accesses which (Call form lower args w) n cs = list_any (λ a. which a && has n cs a) args
accesses which (Leaf code) n cs = true

-- an access writes the element
abbrev pub writes : Work → ℕ → List ℕ → Bool
writes = accesses (λ a. is_written a.mode)

-- an access reads or writes it
abbrev pub touches : Work → ℕ → List ℕ → Bool
touches = accesses (λ a. true)

-- ---- maps

-- iterations one after another: A[i + 1] = A[i] for i = 0, 1 makes 7, 0, 0 into 7, 7, 7
abbrev pub in_turn : ℕ → (ℕ → Arrays → Outcome) → Arrays → Outcome
in_turn zero f s = Ok s
in_turn (suc n) f s = and_then (in_turn n f s) (λ before. with_turn n (f n before))

-- Iterations that know nothing of one another: the values of each are joined to those of the ones below it. The least
-- that traps is the map's trap.
abbrev pub apart : ℕ → (ℕ → Arrays → Arrays → Arrays) → (ℕ → Outcome) → Arrays → Outcome
apart zero join f s = Ok s
apart (suc n) join f s = and_then (apart n join f s)
    (λ below. and_then (with_turn n (f n)) (λ own. Ok (join n own below)))

-- an element takes its value from the iteration that writes it: A[i + 1] = A[i] for i = 0, 1, both from the start,
-- makes 7, 0, 0 into 7, 7, 0
abbrev pub with_writes : (ℕ → List ℕ → Bool) → Arrays → Arrays → Arrays
with_writes written own below n cs = if written n cs then own n cs else below n cs

-- the array that is reduced into holds the operator's identity
abbrev pub with_identity : Reduction → Arrays → Arrays
with_identity r s n cs = if nat_eq n r.array then identity r.op r.elem else s n cs

-- its values are combined: by + the old 10 with 1, 2 and 3 of three iterations becomes 16
abbrev pub with_reduced : Reduction → (ℕ → List ℕ → Bool) → Arrays → Arrays → Arrays
with_reduced r written own below n cs = if nat_eq n r.array then red r.op r.elem (below n cs) (own n cs) else
    with_writes written own below n cs

-- ---- the meaning

-- a leaf's trap has no iteration round it yet
abbrev pub leaf_outcome : Result Arrays Trap → Outcome
leaf_outcome (Ok s) = Ok s
leaf_outcome (Err trap) = Err (record { path = []; trap = trap })

abbrev pub meaning : Work → Arrays → Outcome
meaning Nothing s = Ok s
meaning (Then a b) s = and_then (meaning a s) (meaning b)
meaning (Each count w) s = in_turn count (λ t. meaning (w t)) s
meaning (AtOnce place count w) s = apart count (λ t. with_writes (writes (w t))) (λ t. meaning (w t) s) s
meaning (Gathers r place count w) s =
    apart count (λ t. with_reduced r (writes (w t))) (λ t. meaning (w t) (with_identity r s)) s
meaning (Call form lower args w) s = and_then (meaning w (at_entry args s)) (λ inner. Ok (at_return 0 args inner s))
meaning (Leaf code) s = leaf_outcome (code s)
