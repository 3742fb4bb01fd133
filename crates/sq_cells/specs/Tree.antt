-- A plan written out: a tree of sequences and of parts beside one another, and its run, leftmost first.
use Rattle.std.specs.Prelude.{◌+◌, ◌-◌, ◌*◌, ◌/◌, ◌%◌, ◌≡◌, ℕ, zero, suc, ◌<◌, Bool, true, ◌⊎◌, Option, Some, None}
use Rattle.std.specs.Prelude.{List, [], get_or, reverse}
use Rattle.sq_num.specs.Elements.{width, cell}
use Rattle.sq_num.specs.Reductions.{identity}
use Rattle.sq_ir.specs.Leaf.declared.trap.Trap as leaf
use Rattle.sq_ir.specs.Runs as runs
use Rattle.sq_ir.specs.Events as events
use Rattle.sq_cells.specs.Machine.{Op}
use Rattle.sq_cells.specs.Cells.{Spot, State, put, put_if, table}

-- what a trapped leaf says
abbrev pub Cause : Type 0
Cause = leaf.Trap

abbrev pub Trap : Type 0
Trap = runs.Trap Cause

pub data LeafEnd : Type 0 where
  Gives : List (List ℕ) → LeafEnd
  Fails : Cause → LeafEnd

-- leaf code by its number, and what it does with the values of all of its arrays: nothing in the proofs looks into it
pub record Code : Type 0 where
  pub number : ℕ
  pub does : List (List ℕ) → LeafEnd

unfoldable pub leaf_of : Code → List (List ℕ) → LeafEnd
leaf_of code vals = code.does vals

-- byte b of two elements combined by a reduction operator, and of its identity; a list of an element's bytes has the
-- last one first
unfoldable pub red_of : Op → List ℕ → List ℕ → ℕ → ℕ
red_of op xs ys b = get_or (events.combined op.red op.elem (reverse xs) (reverse ys)) b 0

unfoldable pub identity_of : Op → ℕ → ℕ
identity_of op b = get_or (cell op.elem (identity op.red op.elem)) b 0

-- a cell is a byte; an element of an operator's type has this many
unfoldable pub width_of : Op → ℕ
width_of op = width op.elem

-- the bytes of element e of an array
abbrev pub element : (w : ℕ) → (ℕ → ℕ) → ℕ → List ℕ
element w x e = table w (λ b. x (e * w + b))

abbrev pub byte_in : ℕ → List ℕ → ℕ → ℕ
byte_in w l b = get_or l (w - suc b) 0

-- two elements combined
abbrev pub combined : Op → List ℕ → List ℕ → List ℕ
combined op xs ys = table (width_of op) (red_of op xs ys)

-- byte k of the array x after the array y was combined into it, element by element
abbrev pub summed : Op → (x y : ℕ → ℕ) → ℕ → ℕ
summed op x y k = red_of op (element (width_of op) x (k / width_of op)) (element (width_of op) y (k / width_of op))
    (k % width_of op)

-- one event; an array is a count of cells and a function
pub data Action : Type 0 where
  Copy : (n : ℕ) → (from to : ℕ → Spot) → Action
  Fill : (n : ℕ) → (value : ℕ → ℕ) → (to : ℕ → Spot) → Action
  Acc : (op : Op) (n : ℕ) → (from to : ℕ → Spot) → Action
  Run : (code : Code) (count : ℕ) → (size : ℕ → ℕ) → (writes : ℕ → Bool) → (cell : ℕ → ℕ → Spot) → (path : List ℕ)
      → Action

pub data Tree : Type 0 where
  Empty : Tree
  Act : Action → Tree
  Seq : Tree → Tree → Tree
  Par : Tree → Tree → Tree

pub record After : Type 0 where
  pub mem : State
  pub trap : Option Trap

abbrev pub values : (count : ℕ) (size : ℕ → ℕ) (cell : ℕ → ℕ → Spot) → State → List (List ℕ)
values count size cell m = table count (λ i. table (size i) (λ k. m (cell i k)))

abbrev pub value_in : List (List ℕ) → ℕ → ℕ → ℕ
value_in outs i k = get_or (get_or outs i []) k 0

-- the written arrays are set, each cell to its value
abbrev pub store : (count : ℕ) (size : ℕ → ℕ) (writes : ℕ → Bool) (cell : ℕ → ℕ → Spot) (val : ℕ → ℕ → ℕ) → State
    → State
store zero size writes cell val m = m
store (suc i) size writes cell val m = put_if (writes i) (size i) (cell i) (val i) (store i size writes cell val m)

abbrev pub leaf_after : LeafEnd → (count : ℕ) (size : ℕ → ℕ) (writes : ℕ → Bool) (cell : ℕ → ℕ → Spot) → List ℕ → State
    → After
leaf_after (Gives outs) count size writes cell path m
    = record { mem = store count size writes cell (value_in outs) m; trap = None }
leaf_after (Fails kind) count size writes cell path m
    = record { mem = m; trap = Some (record { path = path; cause = kind }) }

abbrev pub act : Action → State → After
act (Copy n from to) m = record { mem = put n to (λ k. m (from k)) m; trap = None }
act (Fill n v to) m = record { mem = put n to v m; trap = None }
act (Acc op n from to) m = record { mem = put n to (summed op (λ j. m (to j)) (λ j. m (from j))) m; trap = None }
act (Run code count size writes cell path) m
    = leaf_after (leaf_of code (values count size cell m)) count size writes cell path m

-- what follows in a sequence, unless there was a trap
abbrev pub go_on : Option Trap → State → (State → After) → After
go_on None m next = next m
go_on (Some x) m next = record { mem = m; trap = Some x }

-- leftmost first; a trap ends its own sequence, and the parts beside it go on
abbrev pub run : Tree → State → After
run Empty m = record { mem = m; trap = None }
run (Act a) m = act a m
run (Seq a b) m = let r = run a m in go_on r.trap r.mem (run b)
run (Par a b) m = let r = run a m in let s = run b r.mem in record { mem = s.mem; trap = runs.least r.trap s.trap }

-- the cells that an event writes, and that it reads
abbrev pub ActWrites : Action → Spot → Type 0
ActWrites (Copy n from to) p = (k : ℕ) × (k < n) × (to k ≡ p)
ActWrites (Fill n v to) p = (k : ℕ) × (k < n) × (to k ≡ p)
ActWrites (Acc op n from to) p = (k : ℕ) × (k < n) × (to k ≡ p)
ActWrites (Run code count size writes cell path) p = (i k : ℕ) × (i < count) × (k < size i) × (writes i ≡ true)
    × (cell i k ≡ p)

-- what an event puts, what it adds to by an operator, and what it takes
abbrev pub ActPuts : Action → Spot → Type 0
ActPuts (Copy n from to) p = (k : ℕ) × (k < n) × (to k ≡ p)
ActPuts (Fill n v to) p = (k : ℕ) × (k < n) × (to k ≡ p)
ActPuts (Acc op n from to) p = ⊥
ActPuts (Run code count size writes cell path) p = (i k : ℕ) × (i < count) × (k < size i) × (writes i ≡ true)
    × (cell i k ≡ p)

-- what an accumulation adds to: its operator, and the place of the first byte of the element
pub record Target : Type 0 where
  pub op : Op
  pub head : Spot

abbrev pub head_of : (op : Op) (k : ℕ) → ℕ
head_of op k = k / width_of op * width_of op

abbrev pub ActAdds : Action → Target → Spot → Type 0
ActAdds (Copy n from to) o p = ⊥
ActAdds (Fill n v to) o p = ⊥
ActAdds (Acc op n from to) o p = (op ≡ o.op) × ((k : ℕ) × (k < n) × (to k ≡ p) × (to (head_of op k) ≡ o.head))
ActAdds (Run code count size writes cell path) o p = ⊥

abbrev pub ActTakes : Action → Spot → Type 0
ActTakes (Copy n from to) p = (k : ℕ) × (k < n) × (from k ≡ p)
ActTakes (Fill n v to) p = ⊥
ActTakes (Acc op n from to) p = (k : ℕ) × (k < n) × (from k ≡ p)
ActTakes (Run code count size writes cell path) p = (i k : ℕ) × (i < count) × (k < size i) × (cell i k ≡ p)

abbrev pub Writes : Tree → Spot → Type 0
Writes Empty p = ⊥
Writes (Act a) p = ActWrites a p
Writes (Seq a b) p = Writes a p ⊎ Writes b p
Writes (Par a b) p = Writes a p ⊎ Writes b p

abbrev pub Puts : Tree → Spot → Type 0
Puts Empty p = ⊥
Puts (Act a) p = ActPuts a p
Puts (Seq a b) p = Puts a p ⊎ Puts b p
Puts (Par a b) p = Puts a p ⊎ Puts b p

abbrev pub Adds : Tree → Target → Spot → Type 0
Adds Empty o p = ⊥
Adds (Act a) o p = ActAdds a o p
Adds (Seq a b) o p = Adds a o p ⊎ Adds b o p
Adds (Par a b) o p = Adds a o p ⊎ Adds b o p

abbrev pub Takes : Tree → Spot → Type 0
Takes Empty p = ⊥
Takes (Act a) p = ActTakes a p
Takes (Seq a b) p = Takes a p ⊎ Takes b p
Takes (Par a b) p = Takes a p ⊎ Takes b p

-- what one of the two puts or adds to is nothing of the other, but for two that add to whole elements of both by one
-- operator
pub record IsApart (a b : Tree) : Type 0 where
  pub puts_puts : (p : Spot) → Puts a p → Puts b p → ⊥
  pub puts_takes : (p : Spot) → Puts a p → Takes b p → ⊥
  pub takes_puts : (p : Spot) → Takes a p → Puts b p → ⊥
  pub puts_adds : (o : Target) (p : Spot) → Puts a p → Adds b o p → ⊥
  pub adds_puts : (o : Target) (p : Spot) → Adds a o p → Puts b p → ⊥
  pub takes_adds : (o : Target) (p : Spot) → Takes a p → Adds b o p → ⊥
  pub adds_takes : (o : Target) (p : Spot) → Adds a o p → Takes b p → ⊥
  pub adds_adds : (o o' : Target) (p : Spot) → Adds a o p → Adds b o' p → o ≡ o'

-- any two events that are unordered are independent
abbrev pub Independent : Tree → Type 0
Independent Empty = Unit {0}
Independent (Act a) = Unit {0}
Independent (Seq a b) = Independent a × Independent b
Independent (Par a b) = Independent a × Independent b × IsApart a b
