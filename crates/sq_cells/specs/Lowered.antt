-- The lowered tree of a work, and what its placement has to meet.
use Rattle.std.specs.Prelude.{◌*◌, ◌/◌, ◌%◌, ◌≡◌, ◌≢◌, ℕ, zero, suc, ◌+◌, ◌<◌, Bool, true, false, cond, not, eqb, ◌⊎◌}
use Rattle.std.specs.Prelude.{Option, Some, None, List, [], ◌∷◌, ◌++◌}
use Rattle.sq_cells.specs.Tree.{width_of, Target, head_of, Tree, Empty, Act, Seq, Par, Copy, Fill, Acc, Run}
use Rattle.sq_cells.specs.Tree.{identity_of}
use Rattle.sq_cells.specs.Cells.{Spot, spot}
use Rattle.sq_cells.specs.Machine.{Op, Form, Node, child_of, fan_of, offset_of, Rule, lane_of}
use Rattle.sq_cells.specs.Work.{Mode, Input, Output, Both, Local, Reduced, Place, Buffer, InPlace, Held, Array, Work}
use Rattle.sq_cells.specs.Work.{Nothing, Then, Each, AtOnce, Call, Hold, Reduce, Piped, Leaf, writable, returned, reads}
use Rattle.sq_cells.specs.Work.{is_private, is_reduced}

abbrev pub Layout : Type 0
Layout = Spot → Spot

abbrev pub node_of : Bool → Node → ℕ → Node
node_of true node kid = child_of node kid
node_of false node kid = node

-- a cell of a buffer of a form
abbrev pub own : Node → Form → Spot → Spot
own node form l = spot node.number (offset_of form l.area + l.index)

abbrev pub pick {ℓ} : {A : Type ℓ} → Bool → A → A → A
pick true a b = a
pick false a b = b

-- the callee's cell is where the caller's element stands
abbrev pub stays : Place → Bool
stays Buffer = false
stays InPlace = true
stays Held = true

abbrev pub in_place : Place → Bool
in_place Buffer = false
in_place InPlace = true
in_place Held = false

abbrev pub held : Place → Bool
held Buffer = false
held InPlace = false
held Held = true

-- where the arrays of a callee stand
abbrev pub layout : Node → Form → (ℕ → Array) → Layout → Layout
layout node form arrays at l = pick (in_place (arrays l.area).place) (at ((arrays l.area).block l.index))
    (own node form l)

-- where a call finds and leaves the caller's element
abbrev pub source : Node → Form → (ℕ → Array) → Layout → Layout
source node form arrays at l = pick (held (arrays l.area).place) (own node form l) (at ((arrays l.area).block l.index))

-- what comes in, per array
abbrev pub bring : Mode → Bool → ℕ → (from to : ℕ → Spot) → Tree
bring Input true n from to = Empty
bring Input false n from to = Act (Copy n from to)
bring Output b n from to = Act (Fill n (λ k. 0) to)
bring Both true n from to = Empty
bring Both false n from to = Act (Copy n from to)
bring Local b n from to = Empty
bring (Reduced op) true n from to = Empty
bring (Reduced op) false n from to = Act (Fill n (λ k. identity_of op (k % width_of op)) to)

abbrev pub clear : Mode → ℕ → (to : ℕ → Spot) → Tree
clear Input n to = Empty
clear Output n to = Empty
clear Both n to = Empty
clear Local n to = Act (Fill n (λ k. 0) to)
clear (Reduced op) n to = Empty

abbrev pub give_back : Mode → Bool → ℕ → (from to : ℕ → Spot) → Tree
give_back Input b n from to = Empty
give_back Output true n from to = Empty
give_back Output false n from to = Act (Copy n from to)
give_back Both true n from to = Empty
give_back Both false n from to = Act (Copy n from to)
give_back Local b n from to = Empty
give_back (Reduced op) true n from to = Empty
give_back (Reduced op) false n from to = Act (Acc op n from to)

abbrev pub beside : ℕ → (ℕ → Tree) → Tree
beside zero f = Empty
beside (suc n) f = Par (beside n f) (f n)

-- the iterations that a lane has, in rising order
abbrev pub turns : (ℕ → Bool) → ℕ → (ℕ → Tree) → Tree
turns q zero f = Empty
turns q (suc n) f = Seq (turns q n f) (pick (q n) (f n) Empty)

-- the copies in and fills of a call's arguments, the callee, and what goes back
abbrev pub ins : ℕ → (ℕ → Array) → Layout → Layout → Tree
ins n arrays at at' = beside n
    (λ i. bring (arrays i).mode (stays (arrays i).place) (arrays i).size (λ k. at ((arrays i).block k))
    (λ k. at' (spot i k)))

abbrev pub callee : ℕ → (ℕ → Array) → Layout → Tree → Tree
callee n arrays at' body = Seq (beside n (λ i. clear (arrays i).mode (arrays i).size (λ k. at' (spot i k)))) body

abbrev pub outs : ℕ → (ℕ → Array) → Layout → Layout → Tree
outs n arrays at at' = beside n
    (λ i. give_back (arrays i).mode (stays (arrays i).place) (arrays i).size (λ k. at' (spot i k))
    (λ k. at ((arrays i).block k)))

abbrev pub call_tree : ℕ → (ℕ → Array) → Layout → Layout → Tree → Tree
call_tree n arrays at at' body = Seq (ins n arrays at at') (Seq (callee n arrays at' body) (outs n arrays at at'))

-- before and after a loop: the held arrays
abbrev pub take_one : Mode → Bool → ℕ → (from to : ℕ → Spot) → Tree
take_one m false n from to = Empty
take_one Input true n from to = Act (Copy n from to)
take_one Output true n from to = Empty
take_one Both true n from to = Act (Copy n from to)
take_one Local true n from to = Empty
take_one (Reduced op) true n from to = Empty

abbrev pub leave_one : Mode → Bool → ℕ → (from to : ℕ → Spot) → Tree
leave_one m false n from to = Empty
leave_one Input true n from to = Empty
leave_one Output true n from to = Act (Copy n from to)
leave_one Both true n from to = Act (Copy n from to)
leave_one Local true n from to = Empty
leave_one (Reduced op) true n from to = Empty

abbrev pub takes : Node → Form → ℕ → (ℕ → Array) → Layout → Tree
takes node form n arrays at = beside n
    (λ i. take_one (arrays i).mode (held (arrays i).place) (arrays i).size (λ k. at ((arrays i).block k))
    (λ k. own node form (spot i k)))

abbrev pub leaves : Node → Form → ℕ → (ℕ → Array) → Layout → Tree
leaves node form n arrays at = beside n
    (λ i. leave_one (arrays i).mode (held (arrays i).place) (arrays i).size (λ k. own node form (spot i k))
    (λ k. at ((arrays i).block k)))

abbrev pub every : ℕ → Bool
every t = true

-- a taken loop's parts of one iteration: the copies in and fills of the arguments that are not held; the fills of held
-- `out` arguments with the callee; what goes back is `outs`
abbrev pub comes : ℕ → (ℕ → Array) → Layout → Layout → Tree
comes n arrays at at' = beside n
    (λ i. pick (held (arrays i).place) Empty
    (bring (arrays i).mode (stays (arrays i).place) (arrays i).size (λ k. at ((arrays i).block k))
    (λ k. at' (spot i k))))

abbrev pub starts : ℕ → (ℕ → Array) → Layout → Layout → Tree
starts n arrays at at' = beside n
    (λ i. pick (held (arrays i).place)
    (bring (arrays i).mode (stays (arrays i).place) (arrays i).size (λ k. at ((arrays i).block k))
    (λ k. at' (spot i k))) Empty)

abbrev pub works : ℕ → (ℕ → Array) → Layout → Layout → Tree → Tree
works n arrays at at' body = Seq (starts n arrays at at') (callee n arrays at' body)

-- where a list of iterations stands: at its start; its first iteration is in; the last but one has worked, and the last
-- one is in
pub data Stand : Type 0 where
  NoneYet : Stand
  First : ℕ → Stand
  More : ℕ → ℕ → Stand

abbrev pub next_stand : Stand → ℕ → Stand
next_stand NoneYet u = First u
next_stand (First t) u = More t u
next_stand (More p t) u = More t u

abbrev pub stand : (ℕ → Bool) → ℕ → Stand
stand q zero = NoneYet
stand q (suc n) = cond (q n) (next_stand (stand q n) n) (stand q n)

-- the stage in which u comes in
abbrev pub stage_of : (come work back : ℕ → Tree) → Stand → ℕ → Tree
stage_of come work back NoneYet u = come u
stage_of come work back (First t) u = Par (work t) (Seq Empty (come u))
stage_of come work back (More p t) u = Par (work t) (Seq (back p) (come u))

abbrev pub staged : (come work back : ℕ → Tree) → (ℕ → Bool) → ℕ → Tree
staged come work back q zero = Empty
staged come work back q (suc n)
    = Seq (staged come work back q n) (pick (q n) (stage_of come work back (stand q n) n) Empty)

-- the last work, and what goes back at the end
abbrev pub last_of : (work back : ℕ → Tree) → Stand → Tree
last_of work back NoneYet = Empty
last_of work back (First t) = Seq (Par (work t) Empty) (back t)
last_of work back (More p t) = Seq (Par (work t) (back p)) (back t)

-- the iterations below n that q has, in rising order, with overlapped transfers
abbrev pub piped : (come work back : ℕ → Tree) → (ℕ → Bool) → ℕ → Tree
piped come work back q n = Seq (staged come work back q n) (last_of work back (stand q n))

-- the iterations below n that q has
abbrev pub how_many : (ℕ → Bool) → ℕ → ℕ
how_many q zero = zero
how_many q (suc n) = cond (q n) (suc (how_many q n)) (how_many q n)

abbrev pub even : ℕ → Bool
even zero = true
even (suc n) = not (even n)

-- the list of iteration t: its child's, or the whole loop
abbrev pub mates : Option Rule → (node : Node) (n t : ℕ) → ℕ → Bool
mates None node n t = every
mates (Some rule) node n t = λ u. eqb (lane_of rule node n u) (lane_of rule node n t)

-- the form under which the set of iteration t has its offsets: its list uses the two sets in turn
abbrev pub set_of : Option Rule → (node : Node) (n : ℕ) (form second : Form) (t : ℕ) → Form
set_of spread node n form second t = pick (even (how_many (mates spread node n t) t)) form second

abbrev pub piped_come : (spread : Option Rule) (node : Node) (kid n : ℕ) (form second : Form) (c : ℕ) → (ℕ → ℕ → Array)
    → Layout → ℕ → Tree
piped_come spread node kid n form second c arrays at t
    = comes c (arrays t) at (layout (child_of node kid) (set_of spread node n form second t) (arrays t) at)

abbrev pub piped_work : (spread : Option Rule) (node : Node) (kid n : ℕ) (form second : Form) (c : ℕ) → (ℕ → ℕ → Array)
    → Layout → (ℕ → Tree) → ℕ → Tree
piped_work spread node kid n form second c arrays at body t
    = works c (arrays t) at (layout (child_of node kid) (set_of spread node n form second t) (arrays t) at) (body t)

abbrev pub piped_back : (spread : Option Rule) (node : Node) (kid n : ℕ) (form second : Form) (c : ℕ) → (ℕ → ℕ → Array)
    → Layout → ℕ → Tree
piped_back spread node kid n form second c arrays at t
    = outs c (arrays t) at (layout (child_of node kid) (set_of spread node n form second t) (arrays t) at)

abbrev pub tree : Work → (node : Node) (kid : ℕ) → Layout → List ℕ → Tree
tree Nothing node kid at path = Empty
tree (Then a b) node kid at path = Seq (tree a node kid at path) (tree b node kid at path)
tree (Each n w) node kid at path = turns every n (λ t. tree (w t) node kid at (path ++ t ∷ []))
tree (AtOnce None n w) node kid at path = turns every n (λ t. tree (w t) node kid at (path ++ t ∷ []))
tree (AtOnce (Some rule) n w) node kid at path
    = beside (fan_of node) (λ c. turns (λ t. eqb (lane_of rule node n t) c) n
    (λ t. tree (w t) node c at (path ++ t ∷ [])))
tree (Call form lower n arrays w) node kid at path =
    call_tree n arrays at (layout (node_of lower node kid) form arrays at)
    (tree w (node_of lower node kid) 0 (layout (node_of lower node kid) form arrays at) path)
tree (Hold form n arrays w) node kid at path
    = Seq (takes (child_of node kid) form n arrays at)
    (Seq (tree w node kid at path) (leaves (child_of node kid) form n arrays at))
tree (Reduce op size block which None n form lower c arrays w) node kid at path =
    turns every n (λ t. call_tree (c t) (arrays t) at (layout (node_of lower node kid) (form t) (arrays t) at)
    (tree (w t) (node_of lower node kid) 0 (layout (node_of lower node kid) (form t) (arrays t) at)
    (path ++ t ∷ [])))
tree (Reduce op size block which (Some rule) n form lower c arrays w) node kid at path =
    beside (fan_of node) (λ d. turns (λ t. eqb (lane_of rule node n t) d) n
    (λ t. call_tree (c t) (arrays t) at (layout (node_of lower node d) (form t) (arrays t) at)
    (tree (w t) (node_of lower node d) 0 (layout (node_of lower node d) (form t) (arrays t) at) (path ++ t ∷ []))))
tree (Piped None n form second c arrays w) node kid at path =
    piped (piped_come None node kid n form second c arrays at)
    (piped_work None node kid n form second c arrays at
    (λ t. tree (w t) (child_of node kid) 0
    (layout (child_of node kid) (set_of None node n form second t) (arrays t) at) (path ++ t ∷ [])))
    (piped_back None node kid n form second c arrays at) every n
tree (Piped (Some rule) n form second c arrays w) node kid at path =
    beside (fan_of node) (λ d. piped (piped_come (Some rule) node d n form second c arrays at)
    (piped_work (Some rule) node d n form second c arrays at
    (λ t. tree (w t) (child_of node d) 0
    (layout (child_of node d) (set_of (Some rule) node n form second t) (arrays t) at) (path ++ t ∷ [])))
    (piped_back (Some rule) node d n form second c arrays at) (λ t. eqb (lane_of rule node n t) d) n)
tree (Leaf code n size writes) node kid at path = Act (Run code n size writes (λ i k. at (spot i k)) path)

abbrev pub lane_kid : Option Rule → Node → ℕ → ℕ → ℕ → ℕ
lane_kid (Some rule) node kid n t = lane_of rule node n t
lane_kid None node kid n t = kid

-- the cells of a form
abbrev pub IsIn : ℕ → (ℕ → Array) → Spot → Type 0
IsIn n arrays l = (l.area < n) × (l.index < (arrays l.area).size)

-- the cells of a call's own buffers, and of the buffers that a loop holds
abbrev pub BufferCell : Node → Form → ℕ → (ℕ → Array) → Spot → Type 0
BufferCell node form n arrays p = (l : Spot) × IsIn n arrays l × ((arrays l.area).place ≡ Buffer)
    × (own node form l ≡ p)

abbrev pub HeldCell : Node → Form → ℕ → (ℕ → Array) → Spot → Type 0
HeldCell node form n arrays p = (l : Spot) × IsIn n arrays l × ((arrays l.area).place ≡ Held) × (own node form l ≡ p)

abbrev pub Scratch : Work → (node : Node) (kid : ℕ) → Spot → Type 0
Scratch Nothing node kid p = ⊥
Scratch (Then a b) node kid p = Scratch a node kid p ⊎ Scratch b node kid p
Scratch (Each n w) node kid p = (t : ℕ) × (t < n) × Scratch (w t) node kid p
Scratch (AtOnce spread n w) node kid p = (t : ℕ) × (t < n) × Scratch (w t) node (lane_kid spread node kid n t) p
Scratch (Call form lower n arrays w) node kid p = BufferCell (node_of lower node kid) form n arrays p
    ⊎ Scratch w (node_of lower node kid) 0 p
Scratch (Hold form n arrays w) node kid p = HeldCell (child_of node kid) form n arrays p ⊎ Scratch w node kid p
Scratch (Reduce op size block which spread n form lower c arrays w) node kid p = (t : ℕ) × (t < n)
    × (BufferCell (node_of lower node (lane_kid spread node kid n t)) (form t) (c t) (arrays t) p
    ⊎ Scratch (w t) (node_of lower node (lane_kid spread node kid n t)) 0 p)
Scratch (Piped spread n form second c arrays w) node kid p = (t : ℕ) × (t < n)
    × (BufferCell (child_of node (lane_kid spread node kid n t)) (set_of spread node n form second t) c (arrays t) p
    ⊎ Scratch (w t) (child_of node (lane_kid spread node kid n t)) 0 p)
Scratch (Leaf code n size writes) node kid p = ⊥

-- element l is read at place p
abbrev pub CallNeeds : ℕ → (ℕ → Array) → Layout → Spot → Spot → Type 0
CallNeeds n arrays from l p = (q : Spot) × IsIn n arrays q × (reads (arrays q.area).mode ≡ true)
    × ((arrays q.area).block q.index ≡ l) × (from q ≡ p)

-- element l is set at place p
abbrev pub CallSets : ℕ → (ℕ → Array) → Layout → Spot → Spot → Type 0
CallSets n arrays from l p = (q : Spot) × IsIn n arrays q × (returned (arrays q.area).mode ≡ true)
    × ((arrays q.area).block q.index ≡ l) × (from q ≡ p)

-- the held arrays alone
abbrev pub HoldNeeds : ℕ → (ℕ → Array) → Layout → Spot → Spot → Type 0
HoldNeeds n arrays at l p = (q : Spot) × IsIn n arrays q × ((arrays q.area).place ≡ Held)
    × (reads (arrays q.area).mode ≡ true) × ((arrays q.area).block q.index ≡ l) × (at l ≡ p)

abbrev pub HoldSets : ℕ → (ℕ → Array) → Layout → Spot → Spot → Type 0
HoldSets n arrays at l p = (q : Spot) × IsIn n arrays q × ((arrays q.area).place ≡ Held)
    × (returned (arrays q.area).mode ≡ true) × ((arrays q.area).block q.index ≡ l) × (at l ≡ p)

-- an element that a reduction gathers
abbrev pub CallGathers : ℕ → (ℕ → Array) → Layout → Spot → Spot → Type 0
CallGathers n arrays at l p = (q : Spot) × IsIn n arrays q × (is_reduced (arrays q.area).mode ≡ true)
    × ((arrays q.area).block q.index ≡ l) × (at l ≡ p)

abbrev pub SumCell : ℕ → (ℕ → Spot) → Layout → Spot → Spot → Type 0
SumCell size block at l p = (k : ℕ) × (k < size) × (block k ≡ l) × (at l ≡ p)

abbrev pub Needs : Work → (node : Node) (kid : ℕ) → Layout → Spot → Spot → Type 0
Needs Nothing node kid at l p = ⊥
Needs (Then a b) node kid at l p = Needs a node kid at l p ⊎ Needs b node kid at l p
Needs (Each n w) node kid at l p = (t : ℕ) × (t < n) × Needs (w t) node kid at l p
Needs (AtOnce spread n w) node kid at l p = (t : ℕ) × (t < n) × Needs (w t) node (lane_kid spread node kid n t) at l p
Needs (Call form lower n arrays w) node kid at l p
    = CallNeeds n arrays (source (node_of lower node kid) form arrays at) l p
Needs (Hold form n arrays w) node kid at l p
    = (Needs w node kid at l p × ((HeldCell (child_of node kid) form n arrays p → ⊥) ⊎ (at l ≡ p)))
    ⊎ HoldNeeds n arrays at l p
Needs (Reduce op size block which spread n form lower c arrays w) node kid at l p
    = ((t : ℕ) × (t < n) × CallNeeds (c t) (arrays t)
    (source (node_of lower node (lane_kid spread node kid n t)) (form t) (arrays t) at) l p) ⊎ SumCell size block at l p
Needs (Piped spread n form second c arrays w) node kid at l p = (t : ℕ) × (t < n)
    × CallNeeds c (arrays t) (source (child_of node (lane_kid spread node kid n t)) (set_of spread node n form second t)
    (arrays t) at) l p
Needs (Leaf code n size writes) node kid at l p = (l.area < n) × (l.index < size l.area) × (at l ≡ p)

abbrev pub Sets : Work → (node : Node) (kid : ℕ) → Layout → Spot → Spot → Type 0
Sets Nothing node kid at l p = ⊥
Sets (Then a b) node kid at l p = Sets a node kid at l p ⊎ Sets b node kid at l p
Sets (Each n w) node kid at l p = (t : ℕ) × (t < n) × Sets (w t) node kid at l p
Sets (AtOnce spread n w) node kid at l p = (t : ℕ) × (t < n) × Sets (w t) node (lane_kid spread node kid n t) at l p
Sets (Call form lower n arrays w) node kid at l p
    = CallSets n arrays (source (node_of lower node kid) form arrays at) l p
Sets (Hold form n arrays w) node kid at l p
    = (Sets w node kid at l p × ((HeldCell (child_of node kid) form n arrays p → ⊥) ⊎ (at l ≡ p)))
    ⊎ HoldSets n arrays at l p
Sets (Reduce op size block which spread n form lower c arrays w) node kid at l p
    = ((t : ℕ) × (t < n) × CallSets (c t) (arrays t)
    (source (node_of lower node (lane_kid spread node kid n t)) (form t) (arrays t) at) l p) ⊎ SumCell size block at l p
Sets (Piped spread n form second c arrays w) node kid at l p = (t : ℕ) × (t < n)
    × CallSets c (arrays t) (source (child_of node (lane_kid spread node kid n t)) (set_of spread node n form second t)
    (arrays t) at) l p
Sets (Leaf code n size writes) node kid at l p = (l.area < n) × (l.index < size l.area) × (writes l.area ≡ true)
    × (at l ≡ p)

-- element l is gathered at place p by a reduction further out
abbrev pub Gathers : Work → (node : Node) (kid : ℕ) → Layout → Spot → Spot → Type 0
Gathers Nothing node kid at l p = ⊥
Gathers (Then a b) node kid at l p = Gathers a node kid at l p ⊎ Gathers b node kid at l p
Gathers (Each n w) node kid at l p = (t : ℕ) × (t < n) × Gathers (w t) node kid at l p
Gathers (AtOnce spread n w) node kid at l p = (t : ℕ) × (t < n)
    × Gathers (w t) node (lane_kid spread node kid n t) at l p
Gathers (Call form lower n arrays w) node kid at l p = CallGathers n arrays at l p
Gathers (Hold form n arrays w) node kid at l p = Gathers w node kid at l p
Gathers (Reduce op size block which spread n form lower c arrays w) node kid at l p = ⊥
Gathers (Piped spread n form second c arrays w) node kid at l p = (t : ℕ) × (t < n) × CallGathers c (arrays t) at l p
Gathers (Leaf code n size writes) node kid at l p = ⊥

-- the same, with the operator and the first byte of the element
abbrev pub GathersOf : Work → (op : Op) → (head element : Spot) → Type 0
GathersOf Nothing o h l = ⊥
GathersOf (Then a b) o h l = GathersOf a o h l ⊎ GathersOf b o h l
GathersOf (Each n w) o h l = (t : ℕ) × (t < n) × GathersOf (w t) o h l
GathersOf (AtOnce spread n w) o h l = (t : ℕ) × (t < n) × GathersOf (w t) o h l
GathersOf (Call form lower n arrays w) o h l = (q : Spot) × IsIn n arrays q × ((arrays q.area).mode ≡ Reduced o)
    × ((arrays q.area).block q.index ≡ l) × ((arrays q.area).block (head_of o q.index) ≡ h)
GathersOf (Hold form n arrays w) o h l = GathersOf w o h l
GathersOf (Reduce op size block which spread n form lower c arrays w) o h l = ⊥
GathersOf (Piped spread n form second c arrays w) o h l = (t : ℕ) × (t < n)
    × ((q : Spot) × IsIn c (arrays t) q × ((arrays t q.area).mode ≡ Reduced o) × ((arrays t q.area).block q.index ≡ l)
    × ((arrays t q.area).block (head_of o q.index) ≡ h))
GathersOf (Leaf code n size writes) o h l = ⊥

abbrev pub GathersAt : Work → Layout → Target → Spot → Type 0
GathersAt w at o p = (l h : Spot) × GathersOf w o.op h l × (at l ≡ p) × (at h ≡ o.head)

-- two iterations never share an element that one of them writes
pub record IsRaceFree (n : ℕ) (w : ℕ → Work) (node : Node) (kid : ℕ → ℕ) : Type 0 where
  pub apart : (a b : ℕ) → a < n → b < n → a ≢ b → (at : Layout) (l p p' : Spot) → Sets (w a) node (kid a) at l p
      → Needs (w b) node (kid b) at l p' ⊎ Sets (w b) node (kid b) at l p' → ⊥
  -- iterations in different lanes have their buffers apart, and all gather by one operator
  pub lanes : (a b : ℕ) → a < n → b < n → kid a ≢ kid b → (p : Spot) → Scratch (w a) node (kid a) p
      → Scratch (w b) node (kid b) p → ⊥
  pub one_op : (a b : ℕ) → a < n → b < n → (o o' : Op) (h h' l : Spot) → GathersOf (w a) o h l → GathersOf (w b) o' h' l
      → (o ≡ o') × (h ≡ h')

pub record CallFits (n : ℕ) (arrays : ℕ → Array) (w : Work) (node : Node) : Type 0 where
  pub inside : (at : Layout) (l p : Spot) → Needs w node 0 at l p ⊎ Sets w node 0 at l p → IsIn n arrays l × (at l ≡ p)
  pub permitted : (at : Layout) (l p : Spot) → Sets w node 0 at l p → writable (arrays l.area).mode ≡ true
  pub distinct : (i k k' : ℕ) → i < n → k < (arrays i).size → k' < (arrays i).size → (arrays i).block k
      ≡ (arrays i).block k' → k ≡ k'
  pub closed : (at : Layout) (l p : Spot) → Gathers w node 0 at l p → ⊥
  pub one_sum : (i j : ℕ) → i < n → j < n → is_reduced (arrays i).mode ≡ true → is_reduced (arrays j).mode ≡ true → i
      ≡ j
  pub private_own : (i : ℕ) → i < n → is_private (arrays i).mode ≡ true → (arrays i).place ≡ Buffer
  pub no_alias : (i j k k' : ℕ) → i < n → j < n → i ≢ j → k < (arrays i).size → k' < (arrays j).size
      → returned (arrays i).mode ≡ true → returned (arrays j).mode ≡ true → (arrays i).block k ≡ (arrays j).block k' → ⊥
  -- an argument in place or held shares no element with another, or neither is written
  pub apart : (i j k k' : ℕ) → i < n → j < n → i ≢ j → k < (arrays i).size → k' < (arrays j).size
      → stays (arrays i).place ≡ true → (arrays j).mode ≢ Local → (returned (arrays i).mode ≡ true)
      ⊎ (returned (arrays j).mode ≡ true) → (arrays i).block k ≡ (arrays j).block k' → ⊥

pub record CallPlaced (node : Node) (form : Form) (n : ℕ) (arrays : ℕ → Array) (w : Work) : Type 0 where
  pub separate : (l l' : Spot) → IsIn n arrays l → IsIn n arrays l' → in_place (arrays l.area).place ≡ false
      → in_place (arrays l'.area).place ≡ false → own node form l ≡ own node form l' → l ≡ l'
  pub below : (l : Spot) → IsIn n arrays l → in_place (arrays l.area).place ≡ false → Scratch w node 0 (own node form l)
      → ⊥

-- a loop that holds arrays: its one call has them, at the same blocks in all iterations
pub record HoldFits (form : Form) (n : ℕ) (arrays : ℕ → Array) (w : Work) (node : Node) (kid : ℕ) : Type 0 where
  pub distinct : (q q' : Spot) → IsIn n arrays q → IsIn n arrays q' → (arrays q.area).place ≡ Held
      → (arrays q'.area).place ≡ Held → returned (arrays q.area).mode ≡ true → (arrays q.area).block q.index
      ≡ (arrays q'.area).block q'.index → q ≡ q'
  pub not_local : (q : Spot) → IsIn n arrays q → (arrays q.area).place ≡ Held → (arrays q.area).mode ≢ Local
  -- what the work reads or sets at a held cell is the cell's element, unless the caller's element itself stands there
  -- (which no good placement lets happen)
  pub read_held : (at : Layout) (l : Spot) (q : Spot) → IsIn n arrays q → (arrays q.area).place ≡ Held
      → Needs w node kid at l (own (child_of node kid) form q)
      → (((arrays q.area).block q.index ≡ l) × (reads (arrays q.area).mode ≡ true))
      ⊎ (at l ≡ own (child_of node kid) form q)
  pub set_held : (at : Layout) (l : Spot) (q : Spot) → IsIn n arrays q → (arrays q.area).place ≡ Held
      → Sets w node kid at l (own (child_of node kid) form q)
      → (((arrays q.area).block q.index ≡ l) × (returned (arrays q.area).mode ≡ true))
      ⊎ (at l ≡ own (child_of node kid) form q)
  -- each returned array that is held is set, since there is an iteration
  pub all_set : (at : Layout) (q : Spot) → IsIn n arrays q → (arrays q.area).place ≡ Held
      → returned (arrays q.area).mode ≡ true
      → Sets w node kid at ((arrays q.area).block q.index) (own (child_of node kid) form q)
  -- the elements of a returned array that is held are read and set at its cells alone
  pub only_held : (at : Layout) (p : Spot) (q : Spot) → IsIn n arrays q → (arrays q.area).place ≡ Held
      → returned (arrays q.area).mode ≡ true → Needs w node kid at ((arrays q.area).block q.index) p
      ⊎ Sets w node kid at ((arrays q.area).block q.index) p → p ≡ own (child_of node kid) form q
  -- an element that is only read at a held cell is set nowhere
  pub read_only : (at : Layout) (p : Spot) (q : Spot) → IsIn n arrays q → (arrays q.area).place ≡ Held
      → returned (arrays q.area).mode ≡ false → Sets w node kid at ((arrays q.area).block q.index) p → ⊥
  pub separate : (q q' : Spot) → IsIn n arrays q → IsIn n arrays q' → (arrays q.area).place ≡ Held
      → (arrays q'.area).place ≡ Held → own (child_of node kid) form q ≡ own (child_of node kid) form q' → q ≡ q'
  pub below : (q : Spot) → IsIn n arrays q → (arrays q.area).place ≡ Held
      → Scratch w node kid (own (child_of node kid) form q) → ⊥

-- the cells of a reduction: one array of each call alone has them
pub record SumFits (op : Op) (size : ℕ) (block : ℕ → Spot) (which n : ℕ) (c : ℕ → ℕ) (arrays : ℕ → ℕ → Array) : Type 0
  where
    pub there : (t : ℕ) → t < n → which < c t
    pub mode : (t : ℕ) → t < n → (arrays t which).mode ≡ Reduced op
    pub size_is : (t : ℕ) → t < n → (arrays t which).size ≡ size
    pub block_is : (t k : ℕ) → t < n → k < size → (arrays t which).block k ≡ block k
    pub only : (t i : ℕ) → t < n → i < c t → is_reduced (arrays t i).mode ≡ true → i ≡ which
    pub distinct : (k k' : ℕ) → k < size → k' < size → block k ≡ block k' → k ≡ k'
    -- whole elements
    pub some : 0 < width_of op
    pub whole : (k b : ℕ) → k < size → b < width_of op → k / width_of op * width_of op + b < size
    pub aside : (t i k k' : ℕ) → t < n → i < c t → k < (arrays t i).size → k' < size → (reads (arrays t i).mode ≡ true)
        ⊎ (returned (arrays t i).mode ≡ true) → (arrays t i).block k ≡ block k' → ⊥

-- the calls of a taken loop: arguments of lower calls, none of them a reduction's
pub record PipeFits (n c : ℕ) (arrays : ℕ → ℕ → Array) : Type 0 where
  pub lower : (t i : ℕ) → t < n → i < c → in_place (arrays t i).place ≡ false
  pub plain : (t i : ℕ) → t < n → i < c → is_reduced (arrays t i).mode ≡ false

-- a taken loop. One form: a held argument is the same in all iterations
pub record LoopFits (n c : ℕ) (arrays : ℕ → ℕ → Array) : Type 0 where
  pub held_same : (t u i : ℕ) → t < n → u < n → i < c → (arrays t i).place ≡ Held → ((arrays u i).place ≡ Held)
      × ((arrays u i).mode ≡ (arrays t i).mode) × ((arrays u i).size ≡ (arrays t i).size)
  -- hoisting: a held block is the same in all iterations, and shares no element with another argument's of any
  -- iteration, or neither is written
  pub steady : (t u i k : ℕ) → t < n → u < n → i < c → k < (arrays t i).size → (arrays t i).place ≡ Held
      → (arrays u i).block k ≡ (arrays t i).block k
  pub held_apart : (t u i j k k' : ℕ) → t < n → u < n → i < c → j < c → i ≢ j → k < (arrays t i).size → k'
      < (arrays u j).size → (arrays t i).place ≡ Held → (arrays u j).mode ≢ Local → (returned (arrays t i).mode ≡ true)
      ⊎ (returned (arrays u j).mode ≡ true) → (arrays t i).block k ≡ (arrays u j).block k' → ⊥
  -- overlapping: no written block of an iteration shares an element with a block of the next one, or of the one after
  -- the next; held arguments aside
  pub ahead : (t i j k k' : ℕ) → suc t < n → i < c → j < c → k < (arrays t i).size → k' < (arrays (suc t) j).size
      → (arrays t i).place ≡ Buffer → (arrays (suc t) j).place ≡ Buffer → returned (arrays t i).mode ≡ true
      → (arrays (suc t) j).mode ≢ Local → (arrays t i).block k ≡ (arrays (suc t) j).block k' → ⊥
  pub ahead_two : (t i j k k' : ℕ) → suc (suc t) < n → i < c → j < c → k < (arrays t i).size → k'
      < (arrays (suc (suc t)) j).size → (arrays t i).place ≡ Buffer → (arrays (suc (suc t)) j).place ≡ Buffer
      → returned (arrays t i).mode ≡ true → (arrays (suc (suc t)) j).mode ≢ Local → (arrays t i).block k
      ≡ (arrays (suc (suc t)) j).block k' → ⊥

-- a taken spread map: nothing is held
pub record SpreadFits (n c : ℕ) (arrays : ℕ → ℕ → Array) : Type 0 where
  pub buffered : (t i : ℕ) → t < n → i < c → (arrays t i).place ≡ Buffer

-- iteration t of a list follows p
abbrev pub Comes : (ℕ → Bool) → ℕ → ℕ → Type 0
Comes q p t = (p < t) × (q p ≡ true) × (q t ≡ true) × ((u : ℕ) → p < u → u < t → q u ≡ true → ⊥)

-- a cell of an argument that has two buffers: neither held nor a local array
abbrev pub TwiceCell : Node → Form → ℕ → (ℕ → Array) → Spot → Type 0
TwiceCell node form n arrays p = (l : Spot) × IsIn n arrays l × ((arrays l.area).place ≡ Buffer)
    × ((arrays l.area).mode ≢ Local) × (own node form l ≡ p)

-- the two sets: what is transferred beside a callee is none of the callee's cells, where one iteration follows the
-- other in a list
pub record SetsPlaced (spread : Option Rule) (node : Node) (kid n : ℕ) (form second : Form) (c : ℕ)
    (arrays : ℕ → ℕ → Array) (w : ℕ → Work) : Type 0 where
  pub later : (p t : ℕ) → Comes (mates spread node n p) p t → t < n → (x : Spot)
      → TwiceCell (child_of node (lane_kid spread node kid n p)) (set_of spread node n form second p) c (arrays p) x
      → BufferCell (child_of node (lane_kid spread node kid n t)) (set_of spread node n form second t) c (arrays t) x
      ⊎ Scratch (w t) (child_of node (lane_kid spread node kid n t)) 0 x → ⊥
  pub sooner : (p t : ℕ) → Comes (mates spread node n p) p t → t < n → (x : Spot)
      → TwiceCell (child_of node (lane_kid spread node kid n t)) (set_of spread node n form second t) c (arrays t) x
      → BufferCell (child_of node (lane_kid spread node kid n p)) (set_of spread node n form second p) c (arrays p) x
      ⊎ Scratch (w p) (child_of node (lane_kid spread node kid n p)) 0 x → ⊥

abbrev pub HasLane : Option Rule → Node → ℕ → ℕ → Type 0
HasLane (Some rule) node n t = lane_of rule node n t < fan_of node
HasLane None node n t = Unit {0}

-- all that a work and its placement have to meet
abbrev pub Sound : Work → (node : Node) (kid : ℕ) → Type 0
Sound Nothing node kid = Unit {0}
Sound (Then a b) node kid = Sound a node kid × Sound b node kid
Sound (Each n w) node kid = (t : ℕ) → t < n → Sound (w t) node kid
Sound (AtOnce spread n w) node kid = IsRaceFree n w node (lane_kid spread node kid n)
    × ((t : ℕ) → t < n → HasLane spread node n t × Sound (w t) node (lane_kid spread node kid n t))
Sound (Call form lower n arrays w) node kid = CallFits n arrays w (node_of lower node kid)
    × CallPlaced (node_of lower node kid) form n arrays w × Sound w (node_of lower node kid) 0
Sound (Hold form n arrays w) node kid = HoldFits form n arrays w node kid × Sound w node kid
Sound (Reduce op size block which spread n form lower c arrays w) node kid =
    SumFits op size block which n c arrays
    × (IsRaceFree n (λ t. Call (form t) lower (c t) (arrays t) (w t)) node (lane_kid spread node kid n)
    × ((t : ℕ) → t < n → HasLane spread node n t
    × (CallFits (c t) (arrays t) (w t) (node_of lower node (lane_kid spread node kid n t))
    × CallPlaced (node_of lower node (lane_kid spread node kid n t)) (form t) (c t) (arrays t) (w t)
    × Sound (w t) (node_of lower node (lane_kid spread node kid n t)) 0)))
Sound (Piped None n form second c arrays w) node kid =
    PipeFits n c arrays × LoopFits n c arrays × SetsPlaced None node kid n form second c arrays w
    × ((t : ℕ) → t < n → (CallFits c (arrays t) (w t) (child_of node kid)
    × CallPlaced (child_of node kid) (set_of None node n form second t) c (arrays t) (w t)
    × Sound (w t) (child_of node kid) 0))
Sound (Piped (Some rule) n form second c arrays w) node kid =
    PipeFits n c arrays × SpreadFits n c arrays × SetsPlaced (Some rule) node kid n form second c arrays w
    × (IsRaceFree n (λ t. Call (set_of (Some rule) node n form second t) true c (arrays t) (w t)) node
    (lane_kid (Some rule) node kid n)
    × ((t : ℕ) → t < n → HasLane (Some rule) node n t
    × (CallFits c (arrays t) (w t) (child_of node (lane_of rule node n t))
    × CallPlaced (child_of node (lane_of rule node n t)) (set_of (Some rule) node n form second t) c (arrays t) (w t)
    × Sound (w t) (child_of node (lane_of rule node n t)) 0)))
Sound (Leaf code n size writes) node kid = Unit {0}
