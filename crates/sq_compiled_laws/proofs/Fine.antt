-- The strides of leaf views, and what rows are filled with, in the tree of a placed source: by the shapes of its arrays.
use Rattle.std.proofs.Common.{◌≡◌, ℕ, zero, suc, ◌+◌, ◌<◌, ◌^◌, ◌%◌, ◌==◌, nat_lt, ◌||◌, ℤ, pos, Bool, true, false, is_some, List, [], ◌∷◌, ◌++◌, map, length, get_or, slice_get, drop, take, Option, Some, None, if◌then◌else◌, refl, sym, ap, ◌∙◌, subst, arith}
use Rattle.std.proofs.lemmas.Int.{ints}
use Rattle.sq_num.specs.declared.Elem.{Elem}
use Rattle.sq_num.specs.declared.Elem.TheVariants.{Byte, Int, Long}
use Rattle.sq_num.specs.declared.RedOp.{RedOp}
use Rattle.sq_num.specs.Elements.{least, greatest, IsValue}
use Rattle.sq_num.specs.Reductions.{identity}
use Rattle.sq_num.proofs.Reducing.{unit_fits}
use Rattle.sq_text.specs.declared.place.Place.{Place}
use Rattle.sq_text.specs.declared.spread.SpreadRule.{SpreadRule}
use Rattle.sq_text.specs.Spreading.{child_of, iterations_at}
use Rattle.sq_rect.specs.declared.view.View.{View}
use Rattle.sq_rect.specs.Extents.{row_major, rows_of}
use Rattle.sq_ast.specs.declared.program.Mode.{Mode}
use Rattle.sq_ast.specs.declared.program.Mode.TheVariants.{Input, Output, Both}
use Rattle.sq_leaf.specs.declared.shape.Shape.{Shape}
use Rattle.sq_blocks.specs.declared.argument.Argument.{Argument}
use Rattle.sq_ir.specs.Tree.{Skip, seq}
use Rattle.sq_ir.specs.Unordered.{AllEvents}
use Rattle.sq_ir.specs.Events.{Event, Copy, Fill, Accumulate, Leaf as LeafEvent}
use Rattle.sq_ir.specs.Written.{Setting, PlanTree, seq_of}
use Rattle.sq_spec.specs.declared.statement.LoopKind.{LoopKind}
use Rattle.sq_spec.specs.declared.statement.LoopKind.TheVariants as loop_kind
use Rattle.sq_spec.specs.declared.statement.CallInstance.{CallInstance}
use Rattle.sq_spec.specs.declared.statement.Statement.{Statement, roll-Statement}
use Rattle.sq_spec.specs.declared.statement.Statement.TheVariants as b
use Rattle.sq_spec.specs.declared.statement.Statement.TheOpen.{Statement-F}
use Rattle.sq_spec.specs.declared.statement.Statement.TheFolds.{ind-Statement, map-Statement, fold-roll-Statement}
use Rattle.sq_spec.specs.declared.body.Body.{Body}
use Rattle.sq_spec.specs.declared.body.Body.TheVariants as body
use Rattle.sq_spec.specs.declared.body.FormBody.{FormBody}
use Rattle.sq_meant.specs.PlanGood.Term.Placed.declared.home.Home.{Home}
use Rattle.sq_meant.specs.PlanGood.Term.Placed.declared.home.Home.TheVariants.{InPlace, Own, Held, Twin}
use Rattle.sq_meant.specs.PlanGood.Term.Placed.declared.home.Homes.{Homes}
use Rattle.sq_meant.specs.PlanGood.Term.Placed.Placed.{Placed, PlacedArg, PlacedLocal, PlacedCall, Nothing, Then, Each as EachTurn, AtOnce, Gathers, Call, Hold, Piped, Leaf}
use Rattle.sq_meant.specs.PlanGood.Term.Placed.Seats.{Seat, SeatedArg, seat_arg, seated_args, cons_some, own_of, own_seat, block_seat, local_seat}
use Rattle.sq_meant.specs.PlanGood.Term.Placed.Tables.{no_shape, placed_args, placed_locals, locals_of, placed_call, map_placed, spread_of, op_of, chain_of, first_of, held_arg, hold_placed, holds, leaving_chain, chain_form, chain_row, Pipe, pipe_of, pipe_placed, row_placed, row_call, row_body, PlacedPart, any_lower, any_same, chains, all_placed, placed_step, statement_placed, body_placed, placed_of, entry_placed}
use Rattle.sq_meant.specs.PlanGood.Term.Placed.Trees.{seq_all, par_all, copy_rows, fill_rows, add_rows, clear, copy_in, copy_out, is_moved, is_held, bring_by, bring, give_back_by, give_back, hold_in_by, hold_in, hold_out_by, hold_out, come_in, fill_held, callee_node, call_buffers, local_buffers, callee_tree, callee_seats, held_buffers, arg_in_set, call_in_set, twin_buffers, turn_before, turn_after, turn_of, pipeline, come_tree, work_tree, back_tree, map_tree, pipeline_tree, tree}
use Rattle.sq_meant.specs.PlanGood.DraftLaws.PlanLaws.Entry.{seats_at, plan_tree}
use Rattle.sq_compiled_laws.proofs.Each.{Each}
use Rattle.sq_compiled_laws.proofs.TreeEvents.{in_seq, in_par, in_scope, in_seq_of, in_par_of, in_either, in_other}

-- ---- what is asked of events

abbrev pub IsFew : ℕ → Type 0
IsFew n = n < 2 ^ 32

-- the strides of a leaf's views are of 32 bits, and a row is filled with a number of 64 bits
abbrev pub IsFine : Event → Type 0
IsFine (Copy from to bytes) = Unit {0}
IsFine (Fill to elem count v) = IsValue Long v
IsFine (Accumulate op elem from to count) = Unit {0}
IsFine (LeafEvent node code views path) = Each (λ (v : View). Each IsFew v.strides) views

abbrev Are : PlanTree → Type 0
Are t = AllEvents IsFine t

-- ---- values

long_value : (e : Elem) (v : ℤ) → IsValue e v → IsValue Long v
unfolding least greatest
long_value Byte v h = let a = h.low in let c = h.high in record { low = omega (arith, ints, a); high = omega (arith, ints, c) }
long_value Int v h = let a = h.low in let c = h.high in record { low = omega (arith, ints, a); high = omega (arith, ints, c) }
long_value Long v h = h

no_value : IsValue Long (pos 0)
unfolding least greatest
no_value = record { low = omega (arith, ints); high = omega (arith, ints) }

-- ---- rows

copies_are : (q from to : Seat) → Are (copy_rows q from to)
copies_are q from to = in_seq_of IsFine (rows_of q.view.extents) _ 0 (λ r. tt)

fills_are : (v : ℤ) (to : Seat) → IsValue Long v → Are (fill_rows v to)
fills_are v to h = in_seq_of IsFine (rows_of to.view.extents) _ 0 (λ r. h)

adds_are : (op : RedOp) (q from to : Seat) → Are (add_rows op q from to)
adds_are op q from to = in_seq_of IsFine (rows_of q.view.extents) _ 0 (λ r. tt)

unit_is : (op : RedOp) (e : Elem) → IsValue Long (identity op e)
unit_is op e = long_value e (identity op e) (unit_fits op e)

bring_is : (l : SeatedArg) → Are (bring l)
bring_is l = by l.passed.gathers l.passed.argument.mode
  where
    by : (o : Option RedOp) (m : Mode) → Are (bring_by o m l)
    by (Some op) m = fills_are (identity op l.own.view.elem) l.own (unit_is op l.own.view.elem)
    by None Input = in_either IsFine (is_moved l.passed.home) (copy_in l) (copies_are l.own l.outside l.own)
    by None Output = fills_are (pos 0) l.own no_value
    by None Both = in_either IsFine (is_moved l.passed.home) (copy_in l) (copies_are l.own l.outside l.own)

give_is : (l : SeatedArg) → Are (give_back l)
give_is l = by l.passed.gathers l.passed.argument.mode
  where
    by : (o : Option RedOp) (m : Mode) → Are (give_back_by o m l)
    by (Some op) m = adds_are op l.own l.own l.outside
    by None Input = tt
    by None Output = in_either IsFine (is_moved l.passed.home) (copy_out l) (copies_are l.own l.own l.outside)
    by None Both = in_either IsFine (is_moved l.passed.home) (copy_out l) (copies_are l.own l.own l.outside)

hold_in_is : (l : SeatedArg) → Are (hold_in l)
hold_in_is l = by l.passed.argument.mode
  where
    by : (m : Mode) → Are (hold_in_by m l)
    by Input = copies_are l.own l.outside l.own
    by Output = tt
    by Both = copies_are l.own l.outside l.own

hold_out_is : (l : SeatedArg) → Are (hold_out l)
hold_out_is l = by l.passed.argument.mode
  where
    by : (m : Mode) → Are (hold_out_by m l)
    by Input = tt
    by Output = copies_are l.own l.own l.outside
    by Both = copies_are l.own l.own l.outside

come_is : (l : SeatedArg) → Are (come_in l)
come_is l = in_other IsFine (is_held l.passed.home) (bring l) (bring_is l)

fill_is : (l : SeatedArg) → Are (fill_held l)
fill_is l = in_either IsFine (is_held l.passed.home) (bring l) (bring_is l)

clear_is : (q : Seat) → Are (clear q)
clear_is q = fills_are (pos 0) q no_value

all_par : {X : Type 0} (f : X → PlanTree) → ((x : X) → Are (f x)) → (xs : List X) → Are (par_all (map f xs))
all_par f h [] = tt
all_par f h (x ∷ xs) = in_par IsFine (f x) (par_all (map f xs)) (h x) (all_par f h xs)

three_seq : (a c d : PlanTree) → Are a → Are c → Are d → Are (seq_all (a ∷ c ∷ d ∷ []))
three_seq a c d h g k =
    in_seq IsFine a (seq_all (c ∷ d ∷ [])) h (in_seq IsFine c (seq_all (d ∷ [])) g (in_seq IsFine d Skip k tt))

two_seq : (a c : PlanTree) → Are a → Are c → Are (seq_all (a ∷ c ∷ []))
two_seq a c h g = in_seq IsFine a (seq_all (c ∷ [])) h (in_seq IsFine c Skip g tt)

-- ---- maps and loops that overlap their transfers

map_is : (s : Setting) (o : Option SpreadRule) (node child count : ℕ) (part : ℕ → ℕ → PlanTree) → ((c t : ℕ) → Are (part c t))
    → Are (map_tree s o node child count part)
map_is s None node child count part h = in_seq_of IsFine count (part child) 0 (h child)
map_is s (Some rule) node child count part h =
    in_par_of IsFine (s.children node)
    (λ c. seq_of count (λ t. if child_of rule count (s.children node) t == c then part c t else Skip) 0) 0
    (λ c. in_seq_of IsFine count (λ t. if child_of rule count (s.children node) t == c then part c t else Skip) 0
    (λ t. in_either IsFine (child_of rule count (s.children node) t == c) (part c t) (h c t)))

pipeline_is : (s : Setting) (o : Option (Place × SpreadRule)) (node child count : ℕ) (part : ℕ → (ℕ → ℕ) → ℕ → PlanTree)
    → ((c : ℕ) (at : ℕ → ℕ) (m : ℕ) → Are (part c at m)) → Are (pipeline_tree s o node child count part)
pipeline_is s None node child count part h = h child (λ j. j) count
pipeline_is s (Some p) node child count part h =
    in_par_of IsFine (s.children node)
    (λ c. part c (λ j. get_or (iterations_at p.1 count (s.children node) c) j 0) (length (iterations_at p.1 count (s.children node) c))) 0
    (λ c. h c (λ j. get_or (iterations_at p.1 count (s.children node) c) j 0) (length (iterations_at p.1 count (s.children node) c)))

works_are : (come work back : ℕ → PlanTree) → ((j : ℕ) → Are (come j)) → ((j : ℕ) → Are (work j)) → ((j : ℕ) → Are (back j))
    → (m : ℕ) → Are (pipeline come work back m)
works_are come work back h g k zero = tt
works_are come work back h g k (suc n) =
    three_seq (come 0) (seq_of (suc n) (turn_of come work back (suc n)) 0) (back n) (h 0)
    (in_seq_of IsFine (suc n) (turn_of come work back (suc n)) 0 turn) (k n)
  where
    before : (j : ℕ) → Are (turn_before back j)
    before zero = tt
    before (suc j) = k j

    turn : (j : ℕ) → Are (turn_of come work back (suc n) j)
    turn j =
        in_par IsFine (work j) (seq (turn_before back j) (turn_after come (suc n) j)) (g j)
        (in_seq IsFine (turn_before back j) (turn_after come (suc n) j) (before j)
        (in_either IsFine (nat_lt (suc j) (suc n)) (come (suc j)) (h (suc j))))

-- ---- seats

abbrev pub IsSmallShape : Shape → Type 0
IsSmallShape x = Each IsFew (row_major x.extents)

abbrev IsSmallSeat : Seat → Type 0
IsSmallSeat q = Each IsFew q.view.strides

abbrev AreSmallArgs : List PlacedArg → Type 0
AreSmallArgs ps = Each (λ (p : PlacedArg). IsSmallShape p.shape) ps

abbrev AreSmallLocals : List PlacedLocal → Type 0
AreSmallLocals ks = Each (λ (k : PlacedLocal). IsSmallShape k.shape) ks

own_small : (s : Setting) (node : ℕ) (x : Shape) (h : Home) (outside : Seat) → IsSmallShape x → IsSmallSeat outside
    → IsSmallSeat (own_seat s node x h outside)
own_small s node x InPlace outside h g = g
own_small s node x (Own b) outside h g = h
own_small s node x (Held b loops) outside h g = h
own_small s node x (Twin b c) outside h g = h

at_seat : (qs : List Seat) (i : ℕ) (q : Seat) → Each IsSmallSeat qs → slice_get qs i ≡ Some q → IsSmallSeat q
at_seat [] i q h e = absurd (cc e)
at_seat (x ∷ qs) zero q h e = let is : x ≡ q = cc e in subst IsSmallSeat is h.0
at_seat (x ∷ qs) (suc i) q h e = at_seat qs i q h.1 e

args_seated : (s : Setting) (node : ℕ) (seats : List Seat) (ps : List PlacedArg) → Each IsSmallSeat seats → AreSmallArgs ps
    → Each IsSmallSeat (map own_of (seated_args s node seats ps))
args_seated s node seats [] h g = tt
args_seated s node seats (p ∷ ps) h g = by (slice_get seats p.argument.array) refl _ (args_seated s node seats ps h g.1)
  where
    by : (o : Option Seat) → slice_get seats p.argument.array ≡ o → (ls : List SeatedArg) → Each IsSmallSeat (map own_of ls)
        → Each IsSmallSeat (map own_of (cons_some (seat_arg s node p) o ls))
    by None e ls k = k
    by (Some q) e ls k =
        (own_small s node p.shape p.home (block_seat p q) g.0 (at_seat seats p.argument.array q h e), k)

locals_seated : (s : Setting) (node : ℕ) (ks : List PlacedLocal) → AreSmallLocals ks → Each IsSmallSeat (map (local_seat s node) ks)
locals_seated s node [] h = tt
locals_seated s node (k ∷ ks) h = (h.0, locals_seated s node ks h.1)

callee_seated : (ls : List SeatedArg) (seats : List Seat) → Each IsSmallSeat (map own_of ls) → Each IsSmallSeat seats
    → Each IsSmallSeat (callee_seats ls seats)
callee_seated [] seats h g = g
callee_seated (l ∷ ls) seats h g = (h.0, callee_seated ls seats h.1 g)

seat_views : (qs : List Seat) → Each IsSmallSeat qs → Each (λ (v : View). Each IsFew v.strides) (map (λ (q : Seat). q.view) qs)
seat_views [] h = tt
seat_views (q ∷ qs) h = (h.0, seat_views qs h.1)

-- ---- the tree of a placed source whose shapes are small

pub record IsSmallCall (c : PlacedCall) : Type 0 where
  pub args : AreSmallArgs c.args
  pub locals : AreSmallLocals c.locals

abbrev pub IsSmall : Placed → Type 0
IsSmall Nothing = Unit {0}
IsSmall (Then a c) = IsSmall a × IsSmall c
IsSmall (EachTurn n w) = (t : ℕ) → IsSmall (w t)
IsSmall (AtOnce place spread n w) = (t : ℕ) → IsSmall (w t)
IsSmall (Gathers r place spread n w) = (t : ℕ) → IsSmall (w t)
IsSmall (Call c w) = IsSmallCall c × IsSmall w
IsSmall (Hold args w) = IsSmall w
IsSmall (Piped spread n calls w) = (t : ℕ) → IsSmallCall (calls t) × IsSmall (w t)
IsSmall (Leaf code leaf shapes) = Unit {0}

in_set : (set : ℕ) (ps : List PlacedArg) → AreSmallArgs ps → AreSmallArgs (map (arg_in_set set) ps)
in_set set [] h = tt
in_set set (p ∷ ps) h = (h.0, in_set set ps h.1)

module _ (s : Setting) where
  callee_is : (node : ℕ) (ks : List PlacedLocal) (seats : List Seat) (x : PlanTree) → Are x → Are (callee_tree node ks seats x)
  callee_is node ks seats x h =
      in_scope IsFine node (local_buffers ks) (seq_all (par_all (map clear seats) ∷ x ∷ []))
      (two_seq (par_all (map clear seats)) x (all_par clear clear_is seats) h)

  pub tree_is_fine : (p : Placed) → IsSmall p → (node child : ℕ) (seats : List Seat) (path : List ℕ) → Each IsSmallSeat seats
      → Are (tree s p node child seats path)
  tree_is_fine Nothing h node child seats path g = tt
  tree_is_fine (Then a c) h node child seats path g =
      in_seq IsFine (tree s a node child seats path) (tree s c node child seats path)
      (tree_is_fine a h.0 node child seats path g) (tree_is_fine c h.1 node child seats path g)
  tree_is_fine (EachTurn n w) h node child seats path g =
      map_is s None node child n (λ c t. tree s (w t) node c seats (path ++ t ∷ []))
      (λ c t. tree_is_fine (w t) (h t) node c seats (path ++ t ∷ []) g)
  tree_is_fine (AtOnce place spread n w) h node child seats path g =
      map_is s spread node child n (λ c t. tree s (w t) node c seats (path ++ t ∷ []))
      (λ c t. tree_is_fine (w t) (h t) node c seats (path ++ t ∷ []) g)
  tree_is_fine (Gathers r place spread n w) h node child seats path g =
      map_is s spread node child n (λ c t. tree s (w t) node c seats (path ++ t ∷ []))
      (λ c t. tree_is_fine (w t) (h t) node c seats (path ++ t ∷ []) g)
  tree_is_fine (Call c w) h node child seats path g =
      let inner = callee_node s c.lower node child in
      let ls = seated_args s inner seats c.args in
      let locals = map (local_seat s inner) c.locals in
      let x = tree s w inner 0 (callee_seats ls locals) path in
      let small = callee_seated ls locals (args_seated s inner seats c.args g h.0.args) (locals_seated s inner c.locals h.0.locals) in
      in_scope IsFine inner (call_buffers c.args)
      (seq_all (par_all (map bring ls) ∷ callee_tree inner c.locals locals x ∷ par_all (map give_back ls) ∷ []))
      (three_seq (par_all (map bring ls)) (callee_tree inner c.locals locals x) (par_all (map give_back ls))
      (all_par bring bring_is ls)
      (callee_is inner c.locals locals x (tree_is_fine w h.1 inner 0 (callee_seats ls locals) path small))
      (all_par give_back give_is ls))
  tree_is_fine (Hold args w) h node child seats path g =
      let inner = s.child node child in
      let ls = seated_args s inner seats args in
      let x = tree s w node child seats path in
      in_scope IsFine inner (held_buffers args) (seq_all (par_all (map hold_in ls) ∷ x ∷ par_all (map hold_out ls) ∷ []))
      (three_seq (par_all (map hold_in ls)) x (par_all (map hold_out ls)) (all_par hold_in hold_in_is ls)
      (tree_is_fine w h node child seats path g) (all_par hold_out hold_out_is ls))
  tree_is_fine (Piped spread n calls w) h node child seats path g =
      pipeline_is s spread node child n _ (λ c at m.
      let inner = s.child node c in
      let call : ℕ → PlacedCall = λ j. call_in_set (j % 2) (calls (at j)) in
      let ls : ℕ → List SeatedArg = λ j. seated_args s inner seats (call j).args in
      let locals : ℕ → List Seat = λ j. map (local_seat s inner) (call j).locals in
      let x : ℕ → PlanTree = λ j. tree s (w (at j)) inner 0 (callee_seats (ls j) (locals j)) (path ++ at j ∷ []) in
      let small : (j : ℕ) → Each IsSmallSeat (callee_seats (ls j) (locals j)) =
      λ j. callee_seated (ls j) (locals j)
      (args_seated s inner seats (call j).args g (in_set (j % 2) (calls (at j)).args (h (at j)).0.args))
      (locals_seated s inner (calls (at j)).locals (h (at j)).0.locals) in
      let work : ℕ → PlanTree = λ j. work_tree inner (call j) (ls j) (locals j) (x j) in
      in_scope IsFine inner (twin_buffers (calls (at 0)).args)
      (pipeline (λ j. come_tree (ls j)) work (λ j. back_tree (ls j)) m)
      (works_are (λ j. come_tree (ls j)) work (λ j. back_tree (ls j))
      (λ j. all_par come_in come_is (ls j))
      (λ j. two_seq (par_all (map fill_held (ls j))) (callee_tree inner (call j).locals (locals j) (x j))
      (all_par fill_held fill_is (ls j))
      (callee_is inner (call j).locals (locals j) (x j)
      (tree_is_fine (w (at j)) (h (at j)).1 inner 0 (callee_seats (ls j) (locals j)) (path ++ at j ∷ []) (small j))))
      (λ j. all_par give_back give_is (ls j)) m))
  tree_is_fine (Leaf code leaf shapes) h node child seats path g = seat_views seats g

  entry_seats : (shapes : List Shape) (bs : List ℕ) → Each IsSmallShape shapes → Each IsSmallSeat (seats_at s shapes bs)
  entry_seats [] bs h = tt
  entry_seats (x ∷ xs) [] h = tt
  entry_seats (x ∷ xs) (c ∷ bs) h = (h.0, entry_seats xs bs h.1)

  pub plan_is_fine : (p : Placed) (outer : List Shape) (buffers : List ℕ) → IsSmall p → Each IsSmallShape outer
      → Are (plan_tree s p outer buffers)
  plan_is_fine p outer buffers h g =
      in_scope IsFine 0 buffers (tree s p 0 0 (seats_at s outer buffers) [])
      (tree_is_fine p h 0 0 (seats_at s outer buffers) [] (entry_seats outer buffers g))

-- ---- what is placed of forms whose arrays are small

get_small : (shapes : List Shape) → Each IsSmallShape shapes → (i : ℕ) → IsSmallShape (get_or shapes i no_shape)
get_small [] h i = tt
get_small (x ∷ shapes) h zero = h.0
get_small (x ∷ shapes) h (suc i) = get_small shapes h.1 i

drop_small : (n : ℕ) (shapes : List Shape) → Each IsSmallShape shapes → Each IsSmallShape (drop n shapes)
drop_small zero shapes h = h
drop_small (suc n) [] h = tt
drop_small (suc n) (x ∷ shapes) h = drop_small n shapes h.1

pub take_small : (n : ℕ) (shapes : List Shape) → Each IsSmallShape shapes → Each IsSmallShape (take n shapes)
take_small zero shapes h = tt
take_small (suc n) [] h = tt
take_small (suc n) (x ∷ shapes) h = (h.0, take_small n shapes h.1)

args_small : (op : Option RedOp) (shapes : List Shape) (hs : List Home) → Each IsSmallShape shapes → (i : ℕ) (args : List Argument)
    → AreSmallArgs (placed_args op shapes hs i args)
args_small op shapes hs h i [] = tt
args_small op shapes hs h i (a ∷ args) = (get_small shapes h i, args_small op shapes hs h (suc i) args)

locals_small : (shapes : List Shape) (bs : List ℕ) → Each IsSmallShape shapes → AreSmallLocals (placed_locals shapes bs)
locals_small [] bs h = tt
locals_small (x ∷ shapes) [] h = tt
locals_small (x ∷ shapes) (c ∷ bs) h = (h.0, locals_small shapes bs h.1)

module _ (bodies : ℕ → FormBody) (homes : ℕ → Homes) (small : (f : ℕ) → Each IsSmallShape (bodies f).arrays) where
  locals_are : (f : ℕ) → AreSmallLocals (locals_of (bodies f) (homes f))
  locals_are f =
      let shapes = drop (length (homes f).params) (bodies f).arrays in
      locals_small shapes (homes f).locals (drop_small (length (homes f).params) (bodies f).arrays (small f))

  call_is : (op : Option RedOp) (lower : Bool) (r : CallInstance) → IsSmallCall (placed_call bodies homes op lower r)
  call_is op lower r = record {
    args = args_small op (bodies r.form).arrays (homes r.form).params (small r.form) 0 r.args;
    locals = locals_are r.form;
  }

  module _ (callee : ℕ → Placed) (callees : (f : ℕ) → IsSmall (callee f)) (rule : SpreadRule) where
    row_is : (op : Option RedOp) (lower : Bool) (o : Option CallInstance) → IsSmall (row_placed bodies homes callee op lower o)
    row_is op lower None = tt
    row_is op lower (Some r) = (call_is op lower r, callees r.form)

    row_call_is : (o : Option CallInstance) → IsSmallCall (row_call bodies homes callee o)
    row_call_is None = record { args = tt; locals = tt }
    row_call_is (Some r) = call_is None true r

    row_body_is : (o : Option CallInstance) → IsSmall (row_body bodies homes callee o)
    row_body_is None = tt
    row_body_is (Some r) = callees r.form

    pipe_is : (o : Option Pipe) (place : Place) (count start : ℕ) (loop : Placed) → IsSmall loop
        → IsSmall (pipe_placed bodies homes callee o place count start loop)
    pipe_is None place count start loop h = h
    pipe_is (Some p) place count start loop h =
        λ t. (row_call_is (slice_get p.rows (start + t)), row_body_is (slice_get p.rows (start + t)))

    hold_is : (ps : List (ℕ × Argument)) (f : (ℕ × Argument) → PlacedArg) (w : Placed) → IsSmall w → IsSmall (hold_placed ps f w)
    hold_is [] f w h = h
    hold_is (p ∷ ps) f w h = h

    turns_are : (m : LoopKind) (place : Place) (spread : Option SpreadRule) (count : ℕ) (w : ℕ → Placed) → ((t : ℕ) → IsSmall (w t))
        → IsSmall (map_placed m place spread count w)
    turns_are loop_kind.Sequential place spread count w h = h
    turns_are loop_kind.Parallel place spread count w h = h
    turns_are (loop_kind.Reduction r) place spread count w h = h

    abbrev part : Statement → PlacedPart
    part = statement_placed bodies homes callee rule

    abbrev AreIn : PlacedPart → Type 0
    AreIn p = (op : Option RedOp) (inside : Bool) (k : ℕ) → IsSmall (p.placed op inside k)

    abbrev IsIn : Statement → Type 0
    IsIn x = AreIn (part x)

    abbrev Known : Type 0
    Known = (x : Statement) × IsIn x

    abbrev these : List Known → List Statement
    these = map (λ (q : Known). q.0)

    known_all : (xs : List Known) (op : Option RedOp) (inside : Bool) (k : ℕ) → IsSmall (all_placed (map part (these xs)) op inside k)
    known_all [] op inside k = tt
    known_all (x ∷ xs) op inside k = (x.1 op inside k, known_all xs op inside k)

    map_in : (place : Place) (m : LoopKind) (counts starts : List ℕ) (xs : List Known)
        → AreIn (placed_step bodies homes callee rule (Statement-F.Map place m counts starts (map part (these xs))))
    map_in place m counts starts xs op inside k =
        let parts = map part (these xs) in
        let chain = chain_of first_of m starts (chains parts) in
        let within = inside || holds (leaving_chain homes chain) in
        let spread = spread_of rule m within (any_lower parts) (any_same parts) in
        let turns = λ (t : ℕ). all_placed parts (op_of m) (within || is_some spread) (get_or starts k 0 + t) in
        let loop = map_placed m place spread (get_or counts k 0) turns in
        hold_is (leaving_chain homes chain) (held_arg (bodies (chain_form chain)) (homes (chain_form chain)) (chain_row chain k))
        (pipe_placed bodies homes callee (pipe_of homes m spread (chains parts)) place (get_or counts k 0) (get_or starts k 0) loop)
        (pipe_is (pipe_of homes m spread (chains parts)) place (get_or counts k 0) (get_or starts k 0) loop
        (turns_are m place spread (get_or counts k 0) turns
        (λ t. known_all xs (op_of m) (within || is_some spread) (get_or starts k 0 + t))))

    part_call : (lower : Bool) (rows : List CallInstance) → part (b.Call lower rows)
        ≡ placed_step bodies homes callee rule (Statement-F.Call lower rows)
    part_call lower rows = ap part (sym (b.rolls-Call lower rows))
        ∙ fold-roll-Statement PlacedPart (placed_step bodies homes callee rule) (Statement-F.Call lower rows)

    part_map : (place : Place) (m : LoopKind) (counts starts : List ℕ) (list : List Statement) → part (b.Map place m counts starts list)
        ≡ placed_step bodies homes callee rule (Statement-F.Map place m counts starts (map part list))
    part_map place m counts starts list = ap part (sym (b.rolls-Map place m counts starts list))
        ∙ fold-roll-Statement PlacedPart (placed_step bodies homes callee rule) (Statement-F.Map place m counts starts list)

    in_step : (y : Statement-F Known) → IsIn (roll-Statement (map-Statement Known Statement (λ q. q.0) y))
    in_step (Statement-F.Call lower rows) = subst IsIn (sym (b.rolls-Call lower rows))
        (subst AreIn (sym (part_call lower rows)) (λ op inside k. row_is op lower (slice_get rows k)))
    in_step (Statement-F.Map place m counts starts xs) = subst IsIn (sym (b.rolls-Map place m counts starts (these xs)))
        (subst AreIn (sym (part_map place m counts starts (these xs))) (map_in place m counts starts xs))

    is_in : (x : Statement) → IsIn x
    is_in = ind-Statement IsIn (λ x y is. subst (λ z. IsIn (roll-Statement z)) is (in_step y))

    list_is : (list : List Statement) (op : Option RedOp) (inside : Bool) (k : ℕ) → IsSmall (all_placed (map part list) op inside k)
    list_is [] op inside k = tt
    list_is (x ∷ list) op inside k = (is_in x op inside k, list_is list op inside k)

  body_is : (callee : ℕ → Placed) → ((f : ℕ) → IsSmall (callee f)) → (h : Homes) (shapes : List Shape) (x : Body)
      → IsSmall (body_placed bodies homes callee h shapes x)
  body_is callee callees h shapes (body.Leaf code) = tt
  body_is callee callees h shapes (body.Inner list) = list_is callee callees h.rule list None false 0

  form_is : (n k : ℕ) → IsSmall (placed_of bodies homes n k)
  form_is zero k = tt
  form_is (suc n) k = body_is (placed_of bodies homes n) (form_is n) (homes k) (bodies k).arrays (bodies k).body

  pub entry_is_small : (n : ℕ) (args : List Argument) → IsSmall (entry_placed bodies homes n args)
  entry_is_small n args = (
    record { args = args_small None (bodies 0).arrays [] (small 0) 0 args; locals = locals_are 0 },
    form_is n 0,
  )
