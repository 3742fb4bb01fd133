-- The term of a form, with its loops kept, from the tables of forms and the homes of their arrays.
use Rattle.std.specs.Prelude.{ℕ, zero, suc, ◌*◌, ◌==◌, ℤ, pos, Bool, true, false, not, ◌&&◌, ◌||◌, List, []}
use Rattle.std.specs.Prelude.{◌∷◌, ◌++◌, length, map, get_or, slice_get, Option, Some, None, is_some, if◌then◌else◌}
use Rattle.std.specs.List.{list_any, list_all}
use Rattle.sq_num.specs.declared.RedOp.{RedOp}
use Rattle.sq_num.specs.Elements.{width}
use Rattle.sq_num.specs.Reductions.{identity}
use Rattle.sq_text.specs.declared.spread.SpreadRule.{SpreadRule}
use Rattle.sq_text.specs.declared.spread.SpreadRule.TheVariants.{Cyclic, Blocked}
use Rattle.sq_ir.specs.Rect.Extents.{last_of, rows_of, row_major}
use Rattle.sq_ir.specs.Rect.Placing.{offset}
use Rattle.sq_ast.specs.declared.program.Mode.{Mode}
use Rattle.sq_ast.specs.declared.program.Mode.TheVariants.{Input, Output, Both}
use Rattle.sq_ir.specs.Leaf.declared.shape.Shape.{Shape}
use Rattle.sq_ir.specs.Lifting.{lift}
use Rattle.sq_ir.specs.declared.num.Num.{Num}
use Rattle.sq_ir.specs.declared.num.Num.TheVariants as n
use Rattle.sq_ir.specs.declared.term.Slot.{Slot}
use Rattle.sq_ir.specs.declared.term.LeafView.{LeafView}
use Rattle.sq_ir.specs.declared.term.Action.{Action}
use Rattle.sq_ir.specs.declared.term.Action.TheVariants as action
use Rattle.sq_ir.specs.declared.term.Term.{Term}
use Rattle.sq_ir.specs.declared.term.Term.TheVariants as term
use Rattle.sq_ir.specs.Blocks.declared.argument.Argument.{Argument}
use Rattle.sq_placed.specs.Spec.declared.statement.LoopKind.{LoopKind}
use Rattle.sq_placed.specs.Spec.declared.statement.CallInstance.{CallInstance}
use Rattle.sq_placed.specs.Spec.declared.statement.Statement.{Statement}
use Rattle.sq_placed.specs.Spec.declared.statement.Statement.TheOpen.{Statement-F}
use Rattle.sq_placed.specs.Spec.declared.statement.Statement.TheFolds.{fold-Statement}
use Rattle.sq_placed.specs.Spec.declared.body.Body.{Body}
use Rattle.sq_placed.specs.Spec.declared.body.Body.TheVariants as body
use Rattle.sq_placed.specs.Spec.declared.body.FormBody.{FormBody}
use Rattle.sq_placed.specs.Spec.Bodies.{no_body}
use Rattle.sq_placed.specs.declared.home.Home.{Home}
use Rattle.sq_placed.specs.declared.home.Home.TheVariants.{InPlace, Own, Held, Twin}
use Rattle.sq_placed.specs.declared.home.Homes.{Homes}
use Rattle.sq_term.specs.declared.context.Context.{Context}
use Rattle.sq_term.specs.declared.context.Lane.{Lane}
use Rattle.sq_term.specs.declared.context.Move.{Move}
use Rattle.sq_placed.specs.Placed.{PlacedLocal}
use Rattle.sq_placed.specs.Seats.{firsts, cons_some}
use Rattle.sq_placed.specs.Trees.{is_moved, is_held, buffer_of, held_of, twin_of, home_in_set, local_buffers}
use Rattle.sq_placed.specs.Tables.{no_shape, locals_of, op_of, spread_of, Chain, call_chain, chain_of, chain_form}
use Rattle.sq_placed.specs.Tables.{leaving_chain, row_rect, row_form, Pipe, pipe_of}

-- ---- one loop further in

abbrev pub at_slot : LeafView → Num → LeafView
at_slot v at =
    record {
      slot = record { buffer = v.slot.buffer; at = at };
      elem = v.elem;
      extents = v.extents;
      strides =
          v.strides;
    }

abbrev pub lift_view : LeafView → LeafView
lift_view v = at_slot v (lift 1 v.slot.at)

abbrev pub lift_child : Option Num → Option Num
lift_child None = None
lift_child (Some k) = Some (lift 1 k)

-- a table of numbers
abbrev pub numbers : List ℕ → List ℤ
numbers ns = map (λ k. pos k) ns

-- the child that an iteration of a map gives to its lower calls
abbrev pub child_in : Option SpreadRule → (count : Num) → Option Num → Option Num
child_in None count child = lift_child child
child_in (Some Cyclic) count child = Some (n.Rem (n.Index 0) n.Children)
child_in (Some Blocked) count child = Some (n.Div (n.Mul (n.Index 0) n.Children) (lift 1 count))

-- in an iteration of a map; starts: how many began before, each time that it is begun
abbrev pub in_map : Option SpreadRule → (count : Num) → (starts : List ℕ) → Context → Context
in_map spread count starts c = record {
  ordinal = n.Add (n.Pick (numbers starts) (lift 1 c.ordinal)) (n.Index 0);
  child = child_in spread count c.child;
  path = map (lift 1) c.path ++ n.Index 0 ∷ [];
  views = map lift_view c.views;
}

-- ---- rows

-- how many elements a row of the innermost loop begins behind the first
abbrev pub row_num : (strides extents : List ℕ) → Num
row_num ss (a ∷ b ∷ []) = n.Mul (n.Index 0) (n.Const (pos (get_or ss 0 0)))
row_num ss (a ∷ b ∷ c ∷ []) =
    n.Add (n.Mul (n.Div (n.Index 0) (n.Const (pos b))) (n.Const (pos (get_or ss 0 0))))
    (n.Mul (n.Rem (n.Index 0) (n.Const (pos b))) (n.Const (pos (get_or ss 1 0))))
row_num ss ns = n.Const (pos 0)

abbrev pub row_slot : LeafView → Slot
row_slot v =
    record {
      buffer = v.slot.buffer;
      at =
          n.Add (lift 1 v.slot.at) (n.Mul (n.Const (pos (width v.elem))) (row_num v.strides v.extents));
    }

abbrev pub by_rows : List ℕ → Action → Term
by_rows extents x = term.Loop (n.Const (pos (rows_of extents))) (term.Act x)

abbrev pub copy_term : (shape from to : LeafView) → Term
copy_term v from to =
    by_rows v.extents (action.CopyRow (row_slot from) (row_slot to) (width v.elem * last_of v.extents))

abbrev pub fill_term : ℤ → LeafView → Term
fill_term k to = by_rows to.extents (action.FillRow (row_slot to) to.elem (last_of to.extents) k)

abbrev pub add_term : RedOp → (shape from to : LeafView) → Term
add_term op v from to = by_rows v.extents (action.AccRow op v.elem (row_slot from) (row_slot to) (last_of v.extents))

abbrev pub clear_term : LeafView → Term
clear_term v = fill_term (pos 0) v

abbrev pub copy_in_term : Move → Term
copy_in_term m = copy_term m.own m.outside m.own

abbrev pub copy_out_term : Move → Term
copy_out_term m = copy_term m.own m.own m.outside

abbrev pub bring_term_by : Option RedOp → Mode → Move → Term
bring_term_by (Some op) mode m = fill_term (identity op m.own.elem) m.own
bring_term_by None Input m = if is_moved m.home then copy_in_term m else term.Skip
bring_term_by None Output m = clear_term m.own
bring_term_by None Both m = if is_moved m.home then copy_in_term m else term.Skip

abbrev pub bring_term : Move → Term
bring_term m = bring_term_by m.gathers m.mode m

abbrev pub back_term_by : Option RedOp → Mode → Move → Term
back_term_by (Some op) mode m = add_term op m.own m.own m.outside
back_term_by None Input m = term.Skip
back_term_by None Output m = if is_moved m.home then copy_out_term m else term.Skip
back_term_by None Both m = if is_moved m.home then copy_out_term m else term.Skip

abbrev pub back_term : Move → Term
back_term m = back_term_by m.gathers m.mode m

-- ---- where arrays stand

abbrev pub buffer_view : (buffer : ℕ) → Shape → LeafView
buffer_view b shape =
    record {
      slot = record { buffer = b; at = n.Const (pos 0) };
      elem = shape.elem;
      extents = shape.extents;
      strides =
          row_major shape.extents;
    }

abbrev pub local_view : PlacedLocal → LeafView
local_view k = buffer_view k.buffer k.shape

-- how many bytes a block begins behind its array
abbrev pub bytes_in : Option LeafView → Argument → ℕ
bytes_in None a = 0
bytes_in (Some v) a = width v.elem * offset v.strides (firsts a.rect)

abbrev pub bytes_of : List LeafView → Option Argument → ℕ
bytes_of views None = 0
bytes_of views (Some a) = bytes_in (slice_get views a.array) a

-- the i-th argument, in a row of a call's table
abbrev pub bytes_at : List LeafView → ℕ → CallInstance → ℕ
bytes_at views i r = bytes_of views (slice_get r.args i)

-- those of all rows, unless all of them are 0
abbrev pub unless_zero : List ℕ → Option (List ℤ)
unless_zero ns = if list_all (λ k. k == 0) ns then None else Some (numbers ns)

abbrev pub offsets : List LeafView → List CallInstance → ℕ → Option (List ℤ)
offsets views instances i = unless_zero (map (bytes_at views i) instances)

abbrev pub with_table : Option (List ℤ) → (ordinal at : Num) → Num
with_table None ordinal at = at
with_table (Some ks) ordinal at = n.Add at (n.Pick ks ordinal)

abbrev pub block_view : Option (List ℤ) → (ordinal : Num) → List ℕ → LeafView → LeafView
block_view table ordinal extents v =
    record {
      slot = record { buffer = v.slot.buffer; at = with_table table ordinal v.slot.at };
      elem =
          v.elem;
      extents = extents;
      strides = v.strides;
    }

abbrev pub own_view : Shape → Home → (outside : LeafView) → LeafView
own_view shape InPlace outside = outside
own_view shape (Own b) outside = buffer_view b shape
own_view shape (Held b loops) outside = buffer_view b shape
own_view shape (Twin b c) outside = buffer_view b shape

abbrev pub reduces : Option RedOp → Argument → Option RedOp
reduces op a = if a.is_reduced then op else None

-- an argument that has this table, of an array that stands there
abbrev pub move_of : Option RedOp → Shape → Home → Argument → Option (List ℤ) → (ordinal : Num) → LeafView → Move
move_of op shape home a table ordinal v = record {
  mode = a.mode;
  gathers = reduces op a;
  home = home;
  outside = block_view table ordinal shape.extents v;
  own = own_view shape home (block_view table ordinal shape.extents v);
}

-- the arguments of a call from the i-th on, where its table has these rows
abbrev pub moves_from : Option RedOp → List Shape → List Home → Context → List CallInstance → (i : ℕ) → List Argument
    → List Move
moves_from op shapes homes c instances i [] = []
moves_from op shapes homes c instances i (a ∷ rest) =
    cons_some
    (move_of op (get_or shapes i no_shape) (get_or homes i InPlace) a (offsets c.views instances i) c.ordinal)
    (slice_get c.views a.array)
    (moves_from op shapes homes c instances (suc i) rest)

-- the buffers that a call with so many arguments brings into scope, from the i-th argument on
abbrev pub buffers_from : List Home → (i : ℕ) → List Argument → List ℕ
buffers_from homes i [] = []
buffers_from homes i (a ∷ rest) = buffer_of (get_or homes i InPlace) (buffers_from homes (suc i) rest)

-- ---- calls

abbrev pub in_callee : Context → List Move → List PlacedLocal → Context
in_callee c ms ks = record {
  ordinal = n.Const (pos 0);
  child = Some (n.Const (pos 0));
  path = c.path;
  views = map (λ m. m.own) ms ++ map local_view ks;
}

abbrev pub callee_term : List PlacedLocal → Term → Term
callee_term ks x =
    term.Within None (local_buffers ks) (term.Seq (term.Par (map (λ k. clear_term (local_view k)) ks) ∷ x ∷ []))

abbrev pub call_parts : List Move → List PlacedLocal → Term → List Term
call_parts ms ks x = term.Par (map bring_term ms) ∷ callee_term ks x ∷ term.Par (map back_term ms) ∷ []

abbrev pub call_child : (lower : Bool) → Context → Option Num
call_child lower c = if lower then c.child else None

abbrev pub call_term : (lower : Bool) → Context → (buffers : List ℕ) → List Move → List PlacedLocal → Term → Term
call_term lower c bs ms ks x = term.Within (call_child lower c) bs (term.Seq (call_parts ms ks x))

-- ---- the arms of a call: its rows differ in blocks alone, or by their form, or (never) in more

abbrev pub is_mode : Mode → Mode → Bool
is_mode Input Input = true
is_mode Output Output = true
is_mode Both Both = true
is_mode _ _ = false

abbrev pub is_bool : Bool → Bool → Bool
is_bool true b = b
is_bool false b = not b

abbrev pub same_head : Argument → Argument → Bool
same_head a b = is_mode a.mode b.mode && (is_bool a.is_reduced b.is_reduced && (a.array == b.array))

abbrev pub same_heads : List Argument → List Argument → Bool
same_heads [] [] = true
same_heads [] (b ∷ bs) = false
same_heads (a ∷ rest) [] = false
same_heads (a ∷ rest) (b ∷ bs) = same_head a b && same_heads rest bs

abbrev pub is_same_arm : CallInstance → CallInstance → Bool
is_same_arm r q = (r.form == q.form) && same_heads r.args q.args

-- the first that is alike
abbrev pub arm_number : List CallInstance → CallInstance → ℕ
arm_number [] r = 0
arm_number (q ∷ qs) r = if is_same_arm r q then 0 else suc (arm_number qs r)

abbrev pub with_arm : List CallInstance → CallInstance → List CallInstance
with_arm qs r = if list_any (is_same_arm r) qs then qs else qs ++ r ∷ []

abbrev pub arms_from : List CallInstance → List CallInstance → List CallInstance
arms_from qs [] = qs
arms_from qs (r ∷ rest) = arms_from (with_arm qs r) rest

abbrev pub arms_of : List CallInstance → List CallInstance
arms_of instances = arms_from [] instances

-- arm 0 is nothing: for a call that is not begun
abbrev pub picks : List CallInstance → List CallInstance → List ℕ
picks qs instances = map (λ r. suc (arm_number qs r)) instances

-- ---- loops that arguments leave

-- the number of the first iteration
abbrev pub first_num : List ℕ → Num → Num
first_num starts x = n.Pick (numbers starts) x

-- how many bytes the block of the argument in this position begins behind its array, in a row
abbrev pub held_bytes : LeafView → (i : ℕ) → CallInstance → ℕ
held_bytes v i r = width v.elem * offset v.strides (firsts (row_rect (Some r) i))

abbrev pub held_view : Shape → Home → List CallInstance → (number : Num) → (i : ℕ) → LeafView → LeafView
held_view shape home instances number i v =
    block_view (unless_zero (map (held_bytes v i) instances)) number shape.extents v

-- an argument that leaves a loop whose call has these rows; number: of the first iteration's row
abbrev pub held_move : Shape → Home → List CallInstance → (number : Num) → (i : ℕ) → Argument → LeafView → Move
held_move shape home instances number i a v = record {
  mode = a.mode;
  gathers = None;
  home = home;
  outside = held_view shape home instances number i v;
  own = own_view shape home (held_view shape home instances number i v);
}

abbrev pub held_moves : List Shape → List Home → List LeafView → List CallInstance → Num → List (ℕ × Argument)
    → List Move
held_moves shapes homes views instances number [] = []
held_moves shapes homes views instances number (p ∷ ps) =
    cons_some (held_move (get_or shapes p.0 no_shape) (get_or homes p.0 InPlace) instances number p.0 p.1)
    (slice_get views p.1.array)
    (held_moves shapes homes views instances number ps)

abbrev pub leaving_buffers : List Home → List (ℕ × Argument) → List ℕ
leaving_buffers homes [] = []
leaving_buffers homes (p ∷ ps) = held_of (get_or homes p.0 InPlace) (leaving_buffers homes ps)

abbrev pub hold_in_term_by : Mode → Move → Term
hold_in_term_by Input m = copy_in_term m
hold_in_term_by Output m = term.Skip
hold_in_term_by Both m = copy_in_term m

abbrev pub hold_in_term : Move → Term
hold_in_term m = hold_in_term_by m.mode m

abbrev pub hold_out_term_by : Mode → Move → Term
hold_out_term_by Input m = term.Skip
hold_out_term_by Output m = copy_out_term m
hold_out_term_by Both m = copy_out_term m

abbrev pub hold_out_term : Move → Term
hold_out_term m = hold_out_term_by m.mode m

-- at the child that lower calls go to
abbrev pub at_child_already : Context → Context
at_child_already c = record { ordinal = c.ordinal; child = None; path = c.path; views = c.views }

abbrev pub chain_times : {X : Type 0} → Option (Chain X) → List CallInstance
chain_times None = []
chain_times (Some h) = h.instances

abbrev pub chain_num : Option (Chain Num) → Num → Num
chain_num None x = x
chain_num (Some h) x = h.first x

-- a loop that these arguments leave; loop: what it is in the context in which it stands
abbrev pub hold_term : List Shape → List Home → List CallInstance → (number : Num) → List (ℕ × Argument)
    → (inside : Bool) → Context → (Bool → Context → Term) → Term
hold_term shapes homes instances number [] inside c loop = loop inside c
hold_term shapes homes instances number (p ∷ ps) inside c loop =
    let ms = held_moves shapes homes c.views instances number (p ∷ ps) in
    term.Within c.child (leaving_buffers homes (p ∷ ps))
    (term.Seq (term.Par (map hold_in_term ms) ∷ loop true (at_child_already c) ∷ term.Par (map hold_out_term ms)
    ∷ []))

-- ---- loops whose transfers overlap

abbrev pub lift_context : Context → Context
lift_context c = record {
  ordinal = lift 1 c.ordinal;
  child = lift_child c.child;
  path = map (lift 1) c.path;
  views = map lift_view c.views;
}

abbrev pub lift_lane : Lane → Lane
lift_lane l = record { first = lift 1 l.first; step = lift 1 l.step; many = lift 1 l.many }

-- all iterations
abbrev pub whole_lane : (count : Num) → Lane
whole_lane count = record { first = n.Const (pos 0); step = n.Const (pos 1); many = count }

-- of so many iterations, those at the children before the c-th of f: the rounded-up f-th part of c times as many
abbrev pub lane_start : (count f c : Num) → Num
lane_start count f c = n.Div (n.Add (n.Mul c count) (n.Sub f (n.Const (pos 1)))) f

-- those that the rule gives to the c-th of f children
abbrev pub lane_at : SpreadRule → (count f c : Num) → Lane
lane_at Cyclic count f c = record {
  first = c;
  step = f;
  many = n.Div (n.Sub (n.Add count (n.Sub f (n.Const (pos 1)))) c) f;
}
lane_at Blocked count f c = record {
  first = lane_start count f c;
  step = n.Const (pos 1);
  many = n.Sub (lane_start count f (n.Add c (n.Const (pos 1)))) (lane_start count f c);
}

-- the iteration at this position
abbrev pub iteration : Lane → (position : Num) → Num
iteration l p = n.Add l.first (n.Mul l.step p)

-- in this iteration of a loop, at the child that its call goes to; starts: how many began before, each time that the
-- loop is begun
abbrev pub at_iteration : (starts : List ℕ) → (number : Num) → Context → Context
at_iteration starts t c = record {
  ordinal = n.Add (n.Pick (numbers starts) c.ordinal) t;
  child = None;
  path = c.path ++ t ∷ [];
  views = c.views;
}

-- the two sets in turn
abbrev pub by_set : (position : Num) → (ℕ → Term) → Term
by_set p f = term.Case (n.Rem p (n.Const (pos 2))) (f 0 ∷ f 1 ∷ [])

-- nothing where the number is 0
abbrev pub where_some : Num → Term → Term
where_some k x = term.Case (n.Min k (n.Const (pos 1))) (term.Skip ∷ x ∷ [])

-- the buffers of a set, from the i-th argument on
abbrev pub set_buffers_from : (set : ℕ) → List Home → (i : ℕ) → List Argument → List ℕ
set_buffers_from set homes i [] = []
set_buffers_from set homes i (a ∷ rest) =
    twin_of set (get_or homes i InPlace) (set_buffers_from set homes (suc i) rest)

abbrev pub come_in_term : Move → Term
come_in_term m = if is_held m.home then term.Skip else bring_term m

abbrev pub fill_held_term : Move → Term
fill_held_term m = if is_held m.home then bring_term m else term.Skip

-- what comes in, and what goes out, for these arguments
abbrev pub come_term : List Move → Term
come_term ms = term.Par (map come_in_term ms)

abbrev pub leave_term : List Move → Term
leave_term ms = term.Par (map back_term ms)

abbrev pub row_args : Option CallInstance → List Argument
row_args None = []
row_args (Some r) = r.args

-- In a lane, what stands at a position: what is made of the set and of where the iteration stands.
abbrev pub at_position : (starts : List ℕ) → Lane → Context → (position : Num) → (ℕ → Context → Term) → Term
at_position starts l c p f = by_set p (λ set. f set (at_iteration starts (iteration l p) c))

-- the work at the position of the loop, beside the transfers of the other set
abbrev pub turn_term : (starts : List ℕ) → Lane → Context → (come work leave : ℕ → Context → Term) → Term
turn_term starts l c come work leave =
    term.Par
    (at_position starts l c (n.Index 0) work
    ∷ term.Seq
    (where_some (n.Index 0) (at_position starts l c (n.Sub (n.Index 0) (n.Const (pos 1))) leave)
    ∷ where_some (n.Sub (n.Sub l.many (n.Const (pos 1))) (n.Index 0))
    (at_position starts l c (n.Add (n.Index 0) (n.Const (pos 1))) come)
    ∷ [])
    ∷ [])

-- all positions of a lane, one after another
abbrev pub lane_term : (starts : List ℕ) → Lane → Context → (come work leave : ℕ → Context → Term) → Term
lane_term starts l c come work leave =
    where_some l.many
    (term.Seq
    (come 0 (at_iteration starts l.first c)
    ∷ term.Loop l.many (turn_term starts (lift_lane l) (lift_context c) come work leave)
    ∷ at_position starts l c (n.Sub l.many (n.Const (pos 1))) leave
    ∷ []))

-- For each child of the node in force, one part: in it `Index 0` is the child, and `Index 1` how many there are. Of the
-- iterations of the loop all but the last are nothing.
abbrev pub each_child : Term → Term
each_child x =
    term.Loop (n.Add n.Children (n.Const (pos 1)))
    (term.Case (n.Div (n.Index 0) n.Children) (term.Skip ∷ term.Spread (n.Index 0) Cyclic x ∷ []))

-- the loop at its child, or of a map that is spread at each, with the two sets round it
abbrev pub lanes_term : Option SpreadRule → (count : Num) → (starts buffers : List ℕ) → Context
    → (come work leave : ℕ → Context → Term) → Term
lanes_term None count starts bs c come work leave =
    term.Within c.child bs (lane_term starts (whole_lane count) c come work leave)
lanes_term (Some rule) count starts bs c come work leave =
    each_child
    (term.Within (Some (n.Index 0)) bs
    (lane_term starts (lane_at rule (lift 1 (lift 1 count)) (n.Index 1) (n.Index 0)) (lift_context (lift_context c))
    come work leave))

-- ---- statements

-- as in the placed source, with what each statement's term is
pub record TermPart : Type 0 where
  pub lower : Bool
  pub same : Bool
  pub chain : Option (Chain Num)
  pub build : (op : Option RedOp) → (inside : Bool) → Context → Term

abbrev pub any_lower : List TermPart → Bool
any_lower [] = false
any_lower (p ∷ ps) = p.lower || any_lower ps

abbrev pub any_same : List TermPart → Bool
any_same [] = false
any_same (p ∷ ps) = p.same || any_same ps

abbrev pub chains : List TermPart → List (Option (Chain Num))
chains ps = map (λ p. p.chain) ps

abbrev pub all_terms : List TermPart → Option RedOp → Bool → Context → List Term
all_terms [] op inside c = []
all_terms (p ∷ ps) op inside c = p.build op inside c ∷ all_terms ps op inside c

abbrev pub map_term : Option SpreadRule → Num → Term → Term
map_term None count x = term.Loop count x
map_term (Some rule) count x = term.Spread count rule x

-- how many iterations a map has; one that never has any has no counts
abbrev pub count_num : List ℕ → Context → Num
count_num counts c = if length counts == 0 then n.Const (pos 0) else n.Pick (numbers counts) c.ordinal

-- a map in the context in which it stands
abbrev pub loop_term : SpreadRule → LoopKind → (counts starts : List ℕ) → List TermPart → (inside : Bool) → Context
    → Term
loop_term rule m counts starts parts inside c =
    let spread = spread_of rule m inside (any_lower parts) (any_same parts) in
    map_term spread (count_num counts c)
    (term.Seq
    (all_terms parts (op_of m) (inside || is_some spread) (in_map spread (count_num counts c) starts c)))

module _ (bodies : ℕ → FormBody) (homes : ℕ → Homes) (callee : ℕ → Context → Term) where
  -- params: the homes of the callee's parameters
  abbrev pub arm_term : List Home → Option RedOp → (lower : Bool) → Context → List CallInstance → CallInstance → Term
  arm_term params op lower c instances r =
      let ms = moves_from op (bodies r.form).arrays params c instances 0 r.args in
      let ks = locals_of (bodies r.form) (homes r.form) in
      call_term lower c (buffers_from params 0 r.args) ms ks (callee r.form (in_callee c ms ks))

  abbrev pub arm_of_form : Option RedOp → (lower : Bool) → Context → List CallInstance → CallInstance → Term
  arm_of_form op lower c instances r = arm_term (homes r.form).params op lower c instances r

  abbrev pub rows_term : Option RedOp → (lower : Bool) → Context → List CallInstance → Term
  rows_term op lower c instances =
      term.Case (n.Pick (numbers (picks (arms_of instances) instances)) c.ordinal) (term.Skip
      ∷ map (arm_of_form op lower c instances) (arms_of instances))

  -- the arguments of a loop's call, which has these rows, in one of the two sets
  abbrev pub pipe_moves : List CallInstance → (set : ℕ) → Context → List Move
  pipe_moves rows set c =
      let form = row_form (slice_get rows 0) in
      moves_from None (bodies form).arrays (map (home_in_set set) (homes form).params) c rows 0
      (row_args (slice_get rows 0))

  -- the callee, with the fills of what is held
  abbrev pub pipe_work : List CallInstance → (set : ℕ) → Context → Term
  pipe_work rows set c =
      let form = row_form (slice_get rows 0) in
      let ms = pipe_moves rows set c in
      let ks = locals_of (bodies form) (homes form) in
      term.Seq (term.Par (map fill_held_term ms) ∷ callee_term ks (callee form (in_callee c ms ks)) ∷ [])

  abbrev pub twin_sets : List CallInstance → List ℕ
  twin_sets rows =
      let params = (homes (row_form (slice_get rows 0))).params in
      let args = row_args (slice_get rows 0) in
      set_buffers_from 0 params 0 args ++ set_buffers_from 1 params 0 args

  -- loop: what it is where its transfers don't overlap
  abbrev pub pipe_term : Option Pipe → (counts starts : List ℕ) → Context → (loop : Term) → Term
  pipe_term None counts starts c loop = loop
  pipe_term (Some p) counts starts c loop =
      lanes_term p.spread (count_num counts c) starts (twin_sets p.rows) c
      (λ set at. come_term (pipe_moves p.rows set at)) (pipe_work p.rows)
      (λ set at. leave_term (pipe_moves p.rows set at))

  -- a map whose transfers overlap or don't
  abbrev pub run_term : SpreadRule → LoopKind → (counts starts : List ℕ) → List TermPart → (inside : Bool) → Context
      → Term
  run_term rule m counts starts parts inside c =
      pipe_term (pipe_of homes m (spread_of rule m inside (any_lower parts) (any_same parts)) (chains parts)) counts
      starts c (loop_term rule m counts starts parts inside c)

  abbrev pub map_hold : Option (Chain Num) → (inside : Bool) → Context → (Bool → Context → Term) → Term
  map_hold h inside c loop =
      hold_term (bodies (chain_form h)).arrays (homes (chain_form h)).params (chain_times h) (chain_num h c.ordinal)
      (leaving_chain homes h) inside c loop

  abbrev pub term_step : SpreadRule → Statement-F TermPart → TermPart
  term_step rule (Statement-F.Call lower instances) = record {
    lower = lower;
    same = not lower;
    chain = call_chain lower instances;
    build = λ op inside c. rows_term op lower c instances;
  }
  term_step rule (Statement-F.Map place m counts starts parts) = record {
    lower = any_lower parts;
    same = any_same parts;
    chain = chain_of first_num m starts (chains parts);
    build = λ op inside c.
        map_hold (chain_of first_num m starts (chains parts)) inside c (run_term rule m counts starts parts);
  }

  abbrev pub statement_term : SpreadRule → Statement → TermPart
  statement_term rule = fold-Statement TermPart (term_step rule)

  abbrev pub body_term : Homes → Body → Context → Term
  body_term h (body.Leaf code) c = term.Act (action.Leaf h.code c.views c.path)
  body_term h (body.Inner list) c = term.Seq (all_terms (map (statement_term h.rule) list) None false c)

-- forms by their numbers; of one that isn't there
abbrev pub no_homes : Homes
no_homes = record { rule = Cyclic; code = 0; params = []; locals = []; overlaps = false }

abbrev pub body_in : List FormBody → ℕ → FormBody
body_in bodies k = get_or bodies k no_body

abbrev pub homes_in : List Homes → ℕ → Homes
homes_in homes k = get_or homes k no_homes

-- the form with this number, round which no more than so many forms are called within one another
abbrev pub term_of : (ℕ → FormBody) → (ℕ → Homes) → ℕ → ℕ → Context → Term
term_of bodies homes zero k c = term.Skip
term_of bodies homes (suc d) k c = body_term bodies homes (term_of bodies homes d) (homes k) (bodies k).body c

-- ---- the entry

abbrev pub buffer_or : Home → ℕ
buffer_or InPlace = 0
buffer_or (Own b) = b
buffer_or (Held b loops) = b
buffer_or (Twin b c) = b

-- the arrays that the entry is called with: its buffers
abbrev pub entry_views : List Shape → List Home → List LeafView
entry_views shapes [] = []
entry_views [] (h ∷ hs) = []
entry_views (x ∷ shapes) (h ∷ hs) = buffer_view (buffer_or h) x ∷ entry_views shapes hs

abbrev pub entry_context : FormBody → Homes → Context
entry_context b h =
    record {
      ordinal = n.Const (pos 0);
      child = Some (n.Const (pos 0));
      path = [];
      views =
          entry_views b.arrays h.params;
    }

abbrev pub entry_row : List Argument → CallInstance
entry_row args = record { form = 0; args = args }

abbrev pub entry_term : (ℕ → FormBody) → (ℕ → Homes) → ℕ → List Argument → Term
entry_term bodies homes d args =
    arm_term bodies homes (term_of bodies homes d) [] None false (entry_context (bodies 0) (homes 0)) (entry_row args
    ∷ []) (entry_row args)
