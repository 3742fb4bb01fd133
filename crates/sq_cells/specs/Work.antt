-- The source as one tree in which all constants are known, and its meaning on whole arrays.
use Rattle.std.specs.Prelude.{◌/◌, ◌%◌, List, ℕ, zero, suc, Bool, true, false, cond, ◌&&◌, ◌||◌, ltb, Option, Some}
use Rattle.std.specs.Prelude.{None, is_some, [], ◌∷◌}
use Rattle.sq_cells.specs.Tree.{Code, combined, element, byte_in, width_of, identity_of, Trap, LeafEnd, Gives, Fails}
use Rattle.sq_cells.specs.Tree.{leaf_of, values, value_in, store}
use Rattle.sq_cells.specs.Cells.{Spot, spot, State, find, put, put_if}
use Rattle.sq_cells.specs.Machine.{Op, Form, Rule}

pub data Mode : Type 0 where
  Input : Mode
  Output : Mode
  Both : Mode
  Local : Mode
  Reduced : Op → Mode

-- a buffer that the call copies into and out of; the caller's own cells; a buffer that a loop round the call copies
-- into and out of
pub data Place : Type 0 where
  Buffer : Place
  InPlace : Place
  Held : Place

-- one array of a form: a parameter, whose block is a list of the caller's cells, or a local array
pub record Array : Type 0 where
  pub mode : Mode
  pub place : Place
  pub size : ℕ
  pub block : ℕ → Spot

pub data Work : Type 0 where
  Nothing : Work
  Then : Work → Work → Work
  Each : (count : ℕ) → (ℕ → Work) → Work
  AtOnce : Option Rule → (count : ℕ) → (ℕ → Work) → Work
  Call : (form : Form) → (lower : Bool) → (count : ℕ) → (ℕ → Array) → Work → Work
  -- the held arrays of a lower call inside are copied in before the work and out after it
  Hold : (form : Form) (count : ℕ) → (ℕ → Array) → Work → Work
  -- a mapreduce of calls: array `which` of each is reduced into these cells
  Reduce : (op : Op) (size : ℕ) → (ℕ → Spot) → (which : ℕ) → (spread : Option Rule) → (count : ℕ) → (form : ℕ → Form)
      → (lower : Bool) → (arity : ℕ → ℕ) → (ℕ → ℕ → Array) → (ℕ → Work) → Work
  -- a taken loop, or a taken spread map, of lower calls: the transfers of an iteration stand beside the work of the one
  -- before and the one after, and two sets of buffers are used in turn; the second set's offsets are those of form
  -- `second`
  Piped : Option Rule → (count : ℕ) (form second : Form) → (arity : ℕ) → (ℕ → ℕ → Array) → (ℕ → Work) → Work
  Leaf : (code : Code) (count : ℕ) → (size : ℕ → ℕ) → (writes : ℕ → Bool) → Work

-- the body may write it
abbrev pub writable : Mode → Bool
writable Input = false
writable Output = true
writable Both = true
writable Local = true
writable (Reduced op) = true

-- its value comes back
abbrev pub returned : Mode → Bool
returned Input = false
returned Output = true
returned Both = true
returned Local = false
returned (Reduced op) = false

abbrev pub reads : Mode → Bool
reads Input = true
reads Output = false
reads Both = true
reads Local = false
reads (Reduced op) = false

-- it stands in a buffer of its own
abbrev pub is_private : Mode → Bool
is_private Input = false
is_private Output = false
is_private Both = false
is_private Local = true
is_private (Reduced op) = true

abbrev pub is_reduced : Mode → Bool
is_reduced Input = false
is_reduced Output = false
is_reduced Both = false
is_reduced Local = false
is_reduced (Reduced op) = true

-- the value that a cell of a parameter or local has at the start
abbrev pub start_of : Mode → (index value : ℕ) → ℕ
start_of Input k v = v
start_of Output k v = 0
start_of Both k v = v
start_of Local k v = 0
start_of (Reduced op) k v = identity_of op (k % width_of op)

pub data Outcome : Type 0 where
  Ends : State → Outcome
  Traps : Trap → Outcome

abbrev pub and_then : Outcome → (State → Outcome) → Outcome
and_then (Ends s) next = next s
and_then (Traps x) next = Traps x

-- the iteration's number in front of the path
abbrev pub front : ℕ → Trap → Trap
front t x = record { path = t ∷ x.path; cause = x.cause }

abbrev pub numbered : ℕ → Outcome → Outcome
numbered t (Ends s) = Ends s
numbered t (Traps x) = Traps (front t x)

abbrev pub trap_of : Outcome → Option Trap
trap_of (Ends s) = None
trap_of (Traps x) = Some x

abbrev pub state_or : State → Outcome → State
state_or s (Ends s') = s'
state_or s (Traps x) = s

-- iterations one after another
abbrev pub in_turn : ℕ → (ℕ → State → Outcome) → State → Outcome
in_turn zero f s = Ends s
in_turn (suc n) f s = and_then (in_turn n f s) (λ s'. numbered n (f n s'))

abbrev pub first_of : Option Trap → Option Trap → Option Trap
first_of None y = y
first_of (Some x) y = Some x

-- the trap of the least iteration that traps
abbrev pub first_trap : ℕ → (ℕ → Option Trap) → Option Trap
first_trap zero f = None
first_trap (suc n) f = first_of (first_trap n f) (f n)

-- an element takes the value of the iteration that writes it, and stays where there is none
abbrev pub merged : ℕ → (ℕ → Spot → Bool) → (ℕ → State) → State → State
merged zero writes f s l = s l
merged (suc n) writes f s l = cond (writes n l) (f n l) (merged n writes f s l)

abbrev pub ends_unless : Option Trap → State → Outcome
ends_unless None s = Ends s
ends_unless (Some x) s = Traps x

abbrev pub at_once : ℕ → (ℕ → Spot → Bool) → (ℕ → Outcome) → State → Outcome
at_once n writes f s = ends_unless (first_trap n (λ t. trap_of (numbered t (f t))))
    (merged n writes (λ t. state_or s (f t)) s)

-- the callee's arrays at the start
abbrev pub entry_of : (ℕ → Array) → State → State
entry_of arrays s l = start_of (arrays l.area).mode l.index (s ((arrays l.area).block l.index))

-- the values of the returned arrays are put into their blocks
abbrev pub come_back : ℕ → (ℕ → Array) → State → State → State
come_back zero arrays inner s = s
come_back (suc i) arrays inner s
    = put_if (returned (arrays i).mode) (arrays i).size (arrays i).block (λ k. inner (spot i k))
    (come_back i arrays inner s)

abbrev pub returns_to : Outcome → ℕ → (ℕ → Array) → State → Outcome
returns_to (Ends inner) n arrays s = Ends (come_back n arrays inner s)
returns_to (Traps x) n arrays s = Traps x

abbrev pub leaf_outcome : LeafEnd → (count : ℕ) (size : ℕ → ℕ) (writes : ℕ → Bool) → State → Outcome
leaf_outcome (Gives outs) count size writes s = Ends (store count size writes spot (value_in outs) s)
leaf_outcome (Fails kind) count size writes s = Traps (record { path = []; cause = kind })

abbrev pub any_block : ℕ → (ℕ → Array) → Spot → Bool
any_block zero arrays l = false
any_block (suc i) arrays l = (returned (arrays i).mode && is_some (find (arrays i).size (arrays i).block l))
    || any_block i arrays l

-- an element combined with those of n iterations, in rising order
abbrev pub folded : Op → (ℕ → Bool) → (ℕ → List ℕ) → ℕ → List ℕ → List ℕ
folded op q x zero v = v
folded op q x (suc n) v = cond (q n) (combined op (folded op q x n v) (x n)) (folded op q x n v)

abbrev pub always : ℕ → Bool
always t = true

-- the value of a callee's cell at its end
abbrev pub value_at : Outcome → Spot → ℕ
value_at (Ends s) q = s q
value_at (Traps x) q = 0

abbrev pub gathered : Outcome → (op : Op) (size : ℕ) → (ℕ → Spot) → (n : ℕ) → (ℕ → ℕ → ℕ) → State → Outcome
gathered (Ends s') op size block n x s
    = Ends (put size block (λ k. byte_in (width_of op)
    (folded op always (λ t. element (width_of op) (x t) (k / width_of op)) n
    (element (width_of op) (λ j. s (block j)) (k / width_of op))) (k % width_of op)) s')
gathered (Traps x') op size block n x s = Traps x'

abbrev pub any_below : ℕ → (ℕ → Bool) → Bool
any_below zero f = false
any_below (suc n) f = f n || any_below n f

-- an access of the work writes this element of its form
abbrev pub written : Work → Spot → Bool
written Nothing l = false
written (Then a b) l = written a l || written b l
written (Each n w) l = any_below n (λ t. written (w t) l)
written (AtOnce spread n w) l = any_below n (λ t. written (w t) l)
written (Call form lower n arrays w) l = any_block n arrays l
written (Hold form n arrays w) l = written w l
written (Reduce op size block which spread n form lower c arrays w) l = is_some (find size block l)
    || any_below n (λ t. any_block (c t) (arrays t) l)
written (Piped spread n form second c arrays w) l = any_below n (λ t. any_block c (arrays t) l)
written (Leaf code n size writes) l = ltb l.area n && (ltb l.index (size l.area) && writes l.area)

abbrev pub meaning : Work → State → Outcome
meaning Nothing s = Ends s
meaning (Then a b) s = and_then (meaning a s) (meaning b)
meaning (Each n w) s = in_turn n (λ t. meaning (w t)) s
meaning (AtOnce spread n w) s = at_once n (λ t. written (w t)) (λ t. meaning (w t) s) s
meaning (Call form lower n arrays w) s = returns_to (meaning w (entry_of arrays s)) n arrays s
meaning (Hold form n arrays w) s = meaning w s
meaning (Reduce op size block which spread n form lower c arrays w) s =
    gathered (at_once n (λ t l. any_block (c t) (arrays t) l)
    (λ t. returns_to (meaning (w t) (entry_of (arrays t) s)) (c t) (arrays t) s) s) op size block n
    (λ t k. value_at (meaning (w t) (entry_of (arrays t) s)) (spot which k)) s
meaning (Piped None n form second c arrays w) s
    = in_turn n (λ t s'. returns_to (meaning (w t) (entry_of (arrays t) s')) c (arrays t) s') s
meaning (Piped (Some rule) n form second c arrays w) s
    = at_once n (λ t l. any_block c (arrays t) l)
    (λ t. returns_to (meaning (w t) (entry_of (arrays t) s)) c (arrays t) s) s
meaning (Leaf code n size writes) s = leaf_outcome (leaf_of code (values n size spot s)) n size writes s
