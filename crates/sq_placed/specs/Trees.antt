-- The compiled form: the tree of events that a placed source stands for.
use Rattle.std.specs.Prelude.{ℕ, zero, suc, ◌%◌, ◌==◌, nat_lt, ℤ, pos, Bool, true, false, List, [], ◌∷◌, ◌++◌, map}
use Rattle.std.specs.Prelude.{length, get_or, Option, Some, None, if◌then◌else◌}
use Rattle.sq_num.specs.declared.RedOp.{RedOp}
use Rattle.sq_num.specs.Reductions.{identity}
use Rattle.sq_text.specs.declared.place.Place.{Place}
use Rattle.sq_text.specs.declared.spread.SpreadRule.{SpreadRule}
use Rattle.sq_text.specs.Spreading.{child_of, iterations_at}
use Rattle.sq_ir.specs.Rect.Extents.{last_of, rows_of}
use Rattle.sq_ir.specs.Ast.declared.program.Mode.{Mode}
use Rattle.sq_ir.specs.Ast.declared.program.Mode.TheVariants.{Input, Output, Both}
use Rattle.sq_ir.specs.Tree.{Skip, Act, seq, par}
use Rattle.sq_ir.specs.Events.{Copy, Fill, Accumulate, Leaf as LeafEvent}
use Rattle.sq_ir.specs.Written.{Setting, PlanTree, seq_of, par_of, scoped}
use Rattle.sq_placed.specs.declared.home.Home.{Home}
use Rattle.sq_placed.specs.declared.home.Home.TheVariants.{InPlace, Own, Held, Twin}
use Rattle.sq_placed.specs.Placed.{Placed, PlacedArg, PlacedLocal, PlacedCall, Nothing, Then, Each, AtOnce, Gathers}
use Rattle.sq_placed.specs.Placed.{Call, Hold, Piped, Leaf}
use Rattle.sq_placed.specs.Seats.{Seat, SeatedArg, seated_args, own_of, local_seat, row_spot, row_bytes}

abbrev pub seq_all : List PlanTree → PlanTree
seq_all [] = Skip
seq_all (a ∷ rest) = seq a (seq_all rest)

abbrev pub par_all : List PlanTree → PlanTree
par_all [] = Skip
par_all (a ∷ rest) = par a (par_all rest)

-- ---- copies, fills and accumulations: rows in sequence

abbrev pub copy_rows : (shape from to : Seat) → PlanTree
copy_rows q from to =
    seq_of (rows_of q.view.extents) (λ r. Act (Copy (row_spot from r) (row_spot to r) (row_bytes q.view))) 0

abbrev pub fill_rows : ℤ → Seat → PlanTree
fill_rows v to =
    seq_of (rows_of to.view.extents) (λ r. Act (Fill (row_spot to r) to.view.elem (last_of to.view.extents) v)) 0

abbrev pub add_rows : RedOp → (shape from to : Seat) → PlanTree
add_rows op q from to =
    seq_of (rows_of q.view.extents)
    (λ r. Act (Accumulate op q.view.elem (row_spot from r) (row_spot to r) (last_of q.view.extents))) 0

abbrev pub clear : Seat → PlanTree
clear q = fill_rows (pos 0) q

abbrev pub copy_in : SeatedArg → PlanTree
copy_in l = copy_rows l.own l.outside l.own

abbrev pub copy_out : SeatedArg → PlanTree
copy_out l = copy_rows l.own l.own l.outside

-- ---- what serves an argument

-- it stands in a buffer that is brought in and given back at each call
abbrev pub is_moved : Home → Bool
is_moved InPlace = false
is_moved (Own b) = true
is_moved (Held b loops) = false
is_moved (Twin b c) = true

abbrev pub is_held : Home → Bool
is_held InPlace = false
is_held (Own b) = false
is_held (Held b loops) = true
is_held (Twin b c) = false

-- before the callee: what isn't read is filled, wherever it stands
abbrev pub bring_by : Option RedOp → Mode → SeatedArg → PlanTree
bring_by (Some op) mode l = fill_rows (identity op l.own.view.elem) l.own
bring_by None Input l = if is_moved l.passed.home then copy_in l else Skip
bring_by None Output l = clear l.own
bring_by None Both l = if is_moved l.passed.home then copy_in l else Skip

abbrev pub bring : SeatedArg → PlanTree
bring l = bring_by l.passed.gathers l.passed.argument.mode l

-- after the callee
abbrev pub give_back_by : Option RedOp → Mode → SeatedArg → PlanTree
give_back_by (Some op) mode l = add_rows op l.own l.own l.outside
give_back_by None Input l = Skip
give_back_by None Output l = if is_moved l.passed.home then copy_out l else Skip
give_back_by None Both l = if is_moved l.passed.home then copy_out l else Skip

abbrev pub give_back : SeatedArg → PlanTree
give_back l = give_back_by l.passed.gathers l.passed.argument.mode l

-- round a loop that it leaves
abbrev pub hold_in_by : Mode → SeatedArg → PlanTree
hold_in_by Input l = copy_in l
hold_in_by Output l = Skip
hold_in_by Both l = copy_in l

abbrev pub hold_in : SeatedArg → PlanTree
hold_in l = hold_in_by l.passed.argument.mode l

abbrev pub hold_out_by : Mode → SeatedArg → PlanTree
hold_out_by Input l = Skip
hold_out_by Output l = copy_out l
hold_out_by Both l = copy_out l

abbrev pub hold_out : SeatedArg → PlanTree
hold_out l = hold_out_by l.passed.argument.mode l

-- in a loop whose transfers overlap what is held is filled with the callee, and not with what comes in
abbrev pub come_in : SeatedArg → PlanTree
come_in l = if is_held l.passed.home then Skip else bring l

abbrev pub fill_held : SeatedArg → PlanTree
fill_held l = if is_held l.passed.home then bring l else Skip

-- ---- calls

-- the node at which a callee runs, child being the one that lower calls go to
abbrev pub callee_node : Setting → (lower : Bool) → (node child : ℕ) → ℕ
callee_node s lower node child = if lower then s.child node child else node

abbrev pub buffer_of : Home → List ℕ → List ℕ
buffer_of InPlace more = more
buffer_of (Own b) more = b ∷ more
buffer_of (Held b loops) more = more
buffer_of (Twin b c) more = more

-- the buffers that a call brings into scope
abbrev pub call_buffers : List PlacedArg → List ℕ
call_buffers [] = []
call_buffers (p ∷ ps) = buffer_of p.home (call_buffers ps)

abbrev pub local_buffers : List PlacedLocal → List ℕ
local_buffers ks = map (λ k. k.buffer) ks

-- the callee's fills of its locals, and its body
abbrev pub callee_tree : (node : ℕ) → List PlacedLocal → List Seat → PlanTree → PlanTree
callee_tree node ks seats body = scoped node (local_buffers ks) (seq_all (par_all (map clear seats) ∷ body ∷ []))

abbrev pub call_tree : (node : ℕ) → PlacedCall → List SeatedArg → List Seat → PlanTree → PlanTree
call_tree node c ls seats body =
    scoped node (call_buffers c.args)
    (seq_all (par_all (map bring ls) ∷ callee_tree node c.locals seats body ∷ par_all (map give_back ls) ∷ []))

-- the seats of a callee's arrays
abbrev pub callee_seats : List SeatedArg → List Seat → List Seat
callee_seats ls seats = map own_of ls ++ seats

-- ---- held arguments

abbrev pub held_of : Home → List ℕ → List ℕ
held_of InPlace more = more
held_of (Own b) more = more
held_of (Held b loops) more = b ∷ more
held_of (Twin b c) more = more

abbrev pub held_buffers : List PlacedArg → List ℕ
held_buffers [] = []
held_buffers (p ∷ ps) = held_of p.home (held_buffers ps)

abbrev pub hold_tree : (node : ℕ) → List PlacedArg → List SeatedArg → PlanTree → PlanTree
hold_tree node ps ls loop =
    scoped node (held_buffers ps) (seq_all (par_all (map hold_in ls) ∷ loop ∷ par_all (map hold_out ls) ∷ []))

-- ---- loops whose transfers overlap

-- the two sets in turn
abbrev pub home_in_set : (set : ℕ) → Home → Home
home_in_set zero (Twin b c) = Own b
home_in_set (suc k) (Twin b c) = Own c
home_in_set k h = h

abbrev pub arg_in_set : (set : ℕ) → PlacedArg → PlacedArg
arg_in_set set p =
    record { argument = p.argument; gathers = p.gathers; shape = p.shape; home = home_in_set set p.home }

abbrev pub call_in_set : (set : ℕ) → PlacedCall → PlacedCall
call_in_set set c = record { form = c.form; lower = c.lower; args = map (arg_in_set set) c.args; locals = c.locals }

abbrev pub twin_of : (set : ℕ) → Home → List ℕ → List ℕ
twin_of k InPlace more = more
twin_of k (Own b) more = more
twin_of k (Held b loops) more = more
twin_of zero (Twin b c) more = b ∷ more
twin_of (suc k) (Twin b c) more = c ∷ more

abbrev pub set_buffers : (set : ℕ) → List PlacedArg → List ℕ
set_buffers k [] = []
set_buffers k (p ∷ ps) = twin_of k p.home (set_buffers k ps)

abbrev pub twin_buffers : List PlacedArg → List ℕ
twin_buffers ps = set_buffers 0 ps ++ set_buffers 1 ps

-- the transfers of the other set beside the j-th of m works: first those of the one before it out, then those of the
-- next in
abbrev pub turn_before : (back : ℕ → PlanTree) → ℕ → PlanTree
turn_before back zero = Skip
turn_before back (suc j) = back j

abbrev pub turn_after : (come : ℕ → PlanTree) → (m j : ℕ) → PlanTree
turn_after come m j = if nat_lt (suc j) m then come (suc j) else Skip

abbrev pub turn_of : (come work back : ℕ → PlanTree) → (m j : ℕ) → PlanTree
turn_of come work back m j = par (work j) (seq (turn_before back j) (turn_after come m j))

-- m works, with their transfers
abbrev pub pipeline : (come work back : ℕ → PlanTree) → (m : ℕ) → PlanTree
pipeline come work back zero = Skip
pipeline come work back (suc n) = seq_all (come 0 ∷ seq_of (suc n) (turn_of come work back (suc n)) 0 ∷ back n ∷ [])

abbrev pub come_tree : List SeatedArg → PlanTree
come_tree ls = par_all (map come_in ls)

abbrev pub work_tree : (node : ℕ) → PlacedCall → List SeatedArg → List Seat → PlanTree → PlanTree
work_tree node c ls seats body = seq_all (par_all (map fill_held ls) ∷ callee_tree node c.locals seats body ∷ [])

abbrev pub back_tree : List SeatedArg → PlanTree
back_tree ls = par_all (map give_back ls)

-- ---- the tree

-- the iterations of a map, one after another, or where it is spread at the children of the node; part: of an
-- iteration,
-- lower calls going to this child
abbrev pub map_tree : Setting → Option SpreadRule → (node child count : ℕ) → (ℕ → ℕ → PlanTree) → PlanTree
map_tree s None node child count part = seq_of count (part child) 0
map_tree s (Some rule) node child count part =
    par_of (s.children node)
    (λ c. seq_of count (λ t. if child_of rule count (s.children node) t == c then part c t else Skip) 0) 0

-- the works of a loop whose transfers overlap, and of a spread map those of each child; part: of the iterations in a
-- list, at this child
abbrev pub pipeline_tree : Setting → Option (Place × SpreadRule) → (node child count : ℕ)
    → (ℕ → (ℕ → ℕ) → ℕ → PlanTree) → PlanTree
pipeline_tree s None node child count part = part child (λ j. j) count
pipeline_tree s (Some p) node child count part =
    par_of (s.children node) (λ c. let its =
    iterations_at p.1 count (s.children node) c in part c (λ j. get_or its j 0) (length its)) 0

-- node: where the form runs; child: where its lower calls go; seats: of the form's arrays; path: the iterations round
-- it
abbrev pub tree : Setting → Placed → (node child : ℕ) → List Seat → (path : List ℕ) → PlanTree
tree s Nothing node child seats path = Skip
tree s (Then a b) node child seats path = seq (tree s a node child seats path) (tree s b node child seats path)
tree s (Each count w) node child seats path =
    map_tree s None node child count (λ c t. tree s (w t) node c seats (path ++ t ∷ []))
tree s (AtOnce place spread count w) node child seats path =
    map_tree s spread node child count (λ c t. tree s (w t) node c seats (path ++ t ∷ []))
tree s (Gathers r place spread count w) node child seats path =
    map_tree s spread node child count (λ c t. tree s (w t) node c seats (path ++ t ∷ []))
tree s (Call c w) node child seats path =
    let inside = callee_node s c.lower node child in
    let ls = seated_args s inside seats c.args in
    let locals = map (local_seat s inside) c.locals in
    call_tree inside c ls locals (tree s w inside 0 (callee_seats ls locals) path)
tree s (Hold args w) node child seats path =
    let inside = s.child node child in
    hold_tree inside args (seated_args s inside seats args) (tree s w node child seats path)
tree s (Piped spread count calls w) node child seats path =
    pipeline_tree s spread node child count (λ c at m.
    let inside = s.child node c in
    let call : ℕ → PlacedCall = λ j. call_in_set (j % 2) (calls (at j)) in
    let ls : ℕ → List SeatedArg = λ j. seated_args s inside seats (call j).args in
    let locals : ℕ → List Seat = λ j. map (local_seat s inside) (call j).locals in
    let work : ℕ → PlanTree =
    λ j. work_tree inside (call j) (ls j) (locals j)
    (tree s (w (at j)) inside 0 (callee_seats (ls j) (locals j)) (path ++ at j ∷ [])) in
    scoped inside (twin_buffers (calls (at 0)).args)
    (pipeline (λ j. come_tree (ls j)) work (λ j. back_tree (ls j)) m))
tree s (Leaf code leaf shapes) node child seats path = Act (LeafEvent node code (map (λ q. q.view) seats) path)
