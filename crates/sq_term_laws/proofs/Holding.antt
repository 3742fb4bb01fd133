-- What is moved round a loop that arguments leave is roomy: their blocks are those of the row of its first iteration.
use Rattle.std.proofs.Common.{◌≡◌, ℕ, zero, suc, ◌+◌, ◌*◌, ◌<◌, ◌≤◌, Bool, true, false, List, [], ◌∷◌, map, length}
use Rattle.std.proofs.Common.{get_or, slice_get, take, Option, Some, None, refl, sym, ap, subst, ◌∙◌, arith}
use Rattle.std.proofs.Common.{if◌then◌else◌}
use Rattle.std.proofs.lemmas.Bool.Decides.{nat_tests}
use Rattle.std.specs.List.{All}
use Rattle.sq_num.specs.Elements.{width}
use Rattle.sq_rect.specs.Placing.{offset}
use Rattle.sq_ir.specs.Leaf.declared.shape.Shape.{Shape}
use Rattle.sq_ir.specs.Written.{Setting}
use Rattle.sq_ir.specs.declared.num.Num.{Num}
use Rattle.sq_ir.specs.declared.term.LeafView.{LeafView}
use Rattle.sq_blocks.specs.declared.argument.Argument.{Argument}
use Rattle.sq_spec.specs.declared.statement.LoopKind.{LoopKind}
use Rattle.sq_spec.specs.declared.statement.LoopKind.TheVariants as loop_kind
use Rattle.sq_spec.specs.declared.statement.CallInstance.{CallInstance}
use Rattle.sq_spec.specs.declared.body.FormBody.{FormBody}
use Rattle.sq_placed.specs.declared.home.Home.{Home}
use Rattle.sq_placed.specs.declared.home.Home.TheVariants.{InPlace, Own, Held, Twin}
use Rattle.sq_placed.specs.declared.home.Homes.{Homes}
use Rattle.sq_placed.specs.Seats.{firsts, cons_some}
use Rattle.sq_placed.specs.Tables.{no_shape, Chain, chain_of, leaves_loop, leaving_args, arg_rect}
use Rattle.sq_term.specs.declared.context.Context.{Context}
use Rattle.sq_term.specs.declared.context.Move.{Move}
use Rattle.sq_term.specs.Terms.{first_num, held_bytes, held_view, held_move, held_moves}
use Rattle.sq_term.specs.Terms.{hold_in_term, hold_out_term}
use Rattle.sq_term.specs.Stands.{Each, IsNumber}
use Rattle.sq_term.proofs.Turns.{AtBoth, neither, two, at_both}
use Rattle.sq_term.proofs.Calls.{get_map}
use Rattle.sq_term_laws.specs.Fits.{Has, AskedOfStatement}
use Rattle.sq_term_laws.specs.Leaves.{loops_left, left_of, AskedInLoops, arrays_in, AreSame}
use Rattle.sq_term_laws.specs.Roomy.{RowsInside, IsRoomy, IsRoomyMove, IsBelow, ArgFits}
use Rattle.sq_term_laws.specs.Roomy.{RowsFit, AreRoomy}
use Rattle.sq_term_laws.proofs.Fitting.{all_none, all_more}
use Rattle.sq_term_laws.proofs.Fine.{fine_all}
use Rattle.sq_term_laws.proofs.Chains.{IsFirst, Led}
use Rattle.sq_term_laws.proofs.Blocks.{roomy_block, hold_in_good, hold_out_good}
use Rattle.sq_term_laws.proofs.Rooming.{eight_fits}
use Rattle.sq_term_laws.proofs.Seeing.{pred_same, got, own_fits, map_len, whole_at, taken, row_fits}
use Rattle.sq_term_laws.proofs.Meeting.{moved_by, Held as HeldBy}

-- ---- the arguments that leave a loop

-- an argument of a row that leaves the loop of so many round its call
record IsLeaving (hs : List Home) (loops : ℕ) (args : List Argument) (p : ℕ × Argument) : Type 0 where
  arg : slice_get args p.0 ≡ Some p.1
  left : loops_left (get_or hs p.0 InPlace) ≡ loops

left_is : (loops : ℕ) (h : Home) → leaves_loop loops h ≡ true → loops_left h ≡ loops
left_is loops InPlace e = absurd (cc e)
left_is loops (Own b) e = absurd (cc e)
left_is loops (Held b n) e = grind (arith, nat_tests, e)
left_is loops (Twin b c) e = absurd (cc e)

leaving_are : (hs : List Home) (loops : ℕ) (all : List Argument) (i : ℕ) (args : List Argument)
    → ((j : ℕ) (a : Argument) → slice_get args j ≡ Some a → slice_get all (i + j) ≡ Some a)
    → All (IsLeaving hs loops all) (leaving_args loops hs i args)
leaving_are hs loops all i [] at = all_none (IsLeaving hs loops all)
leaving_are hs loops all i (a ∷ rest) at = go (leaves_loop loops (get_or hs i InPlace)) refl
    (leaving_are hs loops all (suc i) rest
    (λ j x e. let m : suc i + j ≡ i + suc j = omega arith in ap (slice_get all) m ∙ at (suc j) x e))
  where
    here : slice_get all i ≡ Some a
    here = let m : i ≡ i + 0 = omega arith in ap (slice_get all) m ∙ at 0 a refl

    go : (t : Bool) → leaves_loop loops (get_or hs i InPlace) ≡ t
        → All (IsLeaving hs loops all) (leaving_args loops hs (suc i) rest)
        → All (IsLeaving hs loops all)
        (if t then (i, a) ∷ leaving_args loops hs (suc i) rest else leaving_args loops hs (suc i) rest)
    go true e more = all_more (IsLeaving hs loops all) (i, a) (leaving_args loops hs (suc i) rest)
        (record { arg = here; left = left_is loops (get_or hs i InPlace) e }) more
    go false e more = more

-- ---- the row of the first iteration

there_at : {A : Type 0} (xs : List A) (i : ℕ) → i < length xs → (x : A) × (slice_get xs i ≡ Some x)
there_at [] i h = absurd (omega (arith, h))
there_at (x ∷ xs) zero h = (x, refl)
there_at (x ∷ xs) (suc i) h = there_at xs i (omega (arith, h))

-- the argument in one position is of the same array
record InArray (args : List Argument) (i array : ℕ) : Type 0 where
  arg : Argument
  there : slice_get args i ≡ Some arg
  is : arg.array ≡ array

in_array : (xs ys : List Argument) (i : ℕ) (y : Argument) → map (λ a. a.array) xs ≡ map (λ a. a.array) ys
    → slice_get ys i ≡ Some y → InArray xs i y.array
in_array xs [] i y e h = absurd (cc h)
in_array [] (z ∷ ys) i y e h = absurd (cc e)
in_array (x ∷ xs) (z ∷ ys) zero y e h =
    let g : z ≡ y = cc h in
    let a : x.array ≡ z.array = cc e in
    record { arg = x; there = refl; is = a ∙ ap (λ (u : Argument). u.array) g }
in_array (x ∷ xs) (z ∷ ys) (suc i) y e h =
    let m : map (λ (a : Argument). a.array) xs ≡ map (λ a. a.array) ys = cc e in
    let r = in_array xs ys i y m h in
    record { arg = r.arg; there = r.there; is = r.is }

-- a loop that arguments leave is one round the call
pub some_loops : (m : LoopKind) (starts : List ℕ) (os : List (Option (Chain Num))) (h : Chain Num)
    → chain_of first_num m starts os ≡ Some h → 0 < h.loops
some_loops loop_kind.Sequential starts [] h e = absurd (cc e)
some_loops loop_kind.Sequential starts (None ∷ []) h e = absurd (cc e)
some_loops loop_kind.Sequential starts (Some u ∷ []) h e = loops_of e
  where
    number : Option (Chain Num) → ℕ
    number None = 0
    number (Some x) = x.loops

    loops_of : Some (record { loops = suc u.loops; instances = u.instances; first = λ x. u.first (first_num starts x) })
        ≡ Some h → 0 < h.loops
    loops_of e = let n : suc u.loops ≡ h.loops = ap number e in omega (arith, n)
some_loops loop_kind.Sequential starts (None ∷ o ∷ os) h e = absurd (cc e)
some_loops loop_kind.Sequential starts (Some u ∷ o ∷ os) h e = absurd (cc e)
some_loops loop_kind.Parallel starts os h e = absurd (cc e)
some_loops (loop_kind.Reduction r) starts os h e = absurd (cc e)

-- ---- what is moved

-- a parameter of some shape
record HasRoom (s : Setting) (turns : List ℕ) (m : Move) : Type 0 where
  shape : Shape
  is : IsRoomyMove s turns m shape

module _ (s : Setting) (bodies : ℕ → FormBody) (homes : ℕ → Homes) (roomy : AreRoomy s bodies homes)
    (outer : List Shape) (turns : List ℕ) (c : Context) (seen : Each (IsRoomy s turns) c.views outer) where
  module _ (h : Chain Num) (r : CallInstance) where
    abbrev arrays : List Shape
    arrays = (bodies r.form).arrays

    abbrev params : List Home
    params = (homes r.form).params

    -- the row of the loop's first iteration
    record HasRow : Type 0 where
      row : CallInstance
      first : IsFirst s turns h c.ordinal
      there : slice_get h.instances first.row ≡ Some row
      same : arrays_in row ≡ arrays_in r
      fits : Each (ArgFits outer) row.args (take (length params) arrays)

    abbrev moves : List (ℕ × Argument) → List Move
    moves = held_moves arrays params c.views h.instances (h.first c.ordinal)

    abbrev move : (ℕ × Argument) → LeafView → Move
    move p = held_move (get_or arrays p.0 no_shape) (get_or params p.0 InPlace) h.instances (h.first c.ordinal) p.0 p.1

    block_roomy : (w : HasRow) (i : ℕ) (a : Argument) (y : Shape) (v : LeafView) (g : ArgFits outer a y)
        → slice_get w.row.args i ≡ Some a → IsRoomy s turns v g.x
        → IsRoomy s turns (held_view y (get_or params i InPlace) h.instances (h.first c.ordinal) i v) y
    block_roomy w i a y v g arg view =
        let f = w.first in
        roomy_block s roomy.sizes turns (map (held_bytes v i) h.instances) (h.first c.ordinal) f.row f.number f.has
        (let e = map_len (held_bytes v i) h.instances in let l = f.below in omega (arith, e, l)) v g.x y view
        (firsts a.rect) g.lasts g.block g.elem
        (subst (IsBelow (firsts a.rect) g.lasts) (pred_same g.tops view.tops (sym g.whole ∙ view.shaped.last)) g.below)
        (get_map (held_bytes v i) h.instances f.row w.row 0 w.there
        ∙ ap (λ (o : Option Argument). width v.elem * offset v.strides (firsts (arg_rect o))) arg)

    moved_room : (w : HasRow) (p : ℕ × Argument) (a : Argument) → slice_get w.row.args p.0 ≡ Some a
        → a.array ≡ p.1.array → (ms : List Move) → All (HasRoom s turns) ms
        → All (HasRoom s turns) (cons_some (move p) (slice_get c.views p.1.array) ms)
    moved_room w p a arg array ms rest =
        go refl refl refl (at_both w.fits p.0) (at_both seen p.1.array)
      where
        moved : (x : Argument) (y : Shape) (v : LeafView) (u : Shape) → slice_get w.row.args p.0 ≡ Some x
            → slice_get (take (length params) arrays) p.0 ≡ Some y → slice_get outer p.1.array ≡ Some u
            → ArgFits outer x y → IsRoomy s turns v u → IsRoomyMove s turns (move p v) y
        moved x y v u e param of g view =
            let x_is : a ≡ x = let z : Some a ≡ Some x = sym arg ∙ e in cc z in
            let here = taken (length params) arrays p.0 y param in
            let its : slice_get outer p.1.array ≡ Some g.x
            = ap (slice_get outer) (sym array ∙ ap (λ (z : Argument). z.array) x_is) ∙ g.there in
            let of_it : u ≡ g.x = let z : Some u ≡ Some g.x = sym of ∙ its in cc z in
            let b = block_roomy w p.0 x y v g e (subst (IsRoomy s turns v) of_it view) in
            subst (λ (z : Shape). IsRoomyMove s turns
            (held_move z (get_or params p.0 InPlace) h.instances (h.first c.ordinal) p.0 p.1 v) y)
            (sym (got arrays p.0 y here))
            (record {
              outside = b;
              own = own_fits s roomy.sizes turns y (whole_at arrays (roomy.whole r.form) p.0 y here)
                  (get_or params p.0 InPlace) (roomy.params r.form p.0 y here) _ b;
            })

        go : {o : Option Argument} {y : Option Shape} {v : Option LeafView} {u : Option Shape}
            → slice_get w.row.args p.0 ≡ o → slice_get (take (length params) arrays) p.0 ≡ y
            → slice_get outer p.1.array ≡ u
            → AtBoth (ArgFits outer) o y → AtBoth (IsRoomy s turns) v u
            → All (HasRoom s turns) (cons_some (move p) v ms)
        go e param of b neither = rest
        go e param of neither (two v u view) = let z : Some a ≡ None = sym arg ∙ e in absurd (cc z)
        go e param of (two x y g) (two v u view) =
            all_more (HasRoom s turns) (move p v) ms (record { shape = y; is = moved x y v u e param of g view }) rest

    all_room : (ps : List (ℕ × Argument)) → All (IsLeaving params h.loops r.args) ps
        → ((p : ℕ × Argument) → IsLeaving params h.loops r.args p → HasRow) → All (HasRoom s turns) (moves ps)
    all_room [] l row = all_none (HasRoom s turns)
    all_room (p ∷ ps) l row =
        let its = l 0 p (omega arith) in
        let w = row p its in
        let a = in_array w.row.args r.args p.0 p.1 w.same its.arg in
        moved_room w p a.arg a.there a.is (moves ps)
        (all_room ps (λ k d e. l (suc k) d (omega (arith, e))) row)

  pub held_good : (o : Option (Chain Num)) → ((h : Chain Num) → o ≡ Some h → 0 < h.loops)
      → (reached : List CallInstance) (calls : List (List CallInstance)) (asked : AskedOfStatement)
      (leaves : AskedInLoops) → Led s (left_of homes) o reached calls asked leaves
      → (loops : List (List ℕ)) → leaves loops → RowsFit bodies homes outer reached → AreSame calls
      → (n k : ℕ) → asked n → k < n → IsNumber s turns c.ordinal k → Has s turns c.ordinal
      → HeldBy bodies homes s (RowsInside s) turns c o
  held_good None some reached calls asked leaves led loops l fit same n k a below number has = tt
  held_good (Some h) some reached calls asked leaves led loops l fit same n k a below number has = λ r e. record {
    ins = λ env bs t. fine_all s (RowsInside s) env bs (HasRoom s turns) hold_in_term
        (λ m i. hold_in_good s roomy.sizes eight_fits env bs i.shape m
        (subst (λ (ts : List ℕ). IsRoomyMove s ts m i.shape) (sym t) i.is)) (moved_by bodies homes c h r) (room r e);
    outs = λ env bs t. fine_all s (RowsInside s) env bs (HasRoom s turns) hold_out_term
        (λ m i. hold_out_good s roomy.sizes eight_fits env bs i.shape m
        (subst (λ (ts : List ℕ). IsRoomyMove s ts m i.shape) (sym t) i.is)) (moved_by bodies homes c h r) (room r e);
  }
    where
      row : (r : CallInstance) → slice_get h.instances 0 ≡ Some r → (p : ℕ × Argument)
          → IsLeaving (homes r.form).params h.loops r.args p → HasRow h r
      row r e p its =
          let many : h.loops ≤ left_of homes r.form p.0 = let z = its.left in omega (arith, z) in
          let first = led.first loops l r e p.0 many n k a below turns c.ordinal number has in
          let q = there_at h.instances first.row first.below in
          let one : q.0.form ≡ r.form = led.one loops l r e p.0
          (let z = some h refl in omega (arith, z, many)) first.row q.0 q.1 in
          record {
            row = q.0;
            first = first;
            there = q.1;
            same = (subst AreSame led.alone same).0.same first.row r q.0 e q.1;
            fits = subst (λ (f : ℕ). Each (ArgFits outer) q.0.args
                (take (length (homes f).params) (bodies f).arrays)) one
                (row_fits bodies homes outer h.instances first.row q.0
                (subst (RowsFit bodies homes outer) led.rows fit) q.1);
          }

      room : (r : CallInstance) → slice_get h.instances 0 ≡ Some r
          → All (HasRoom s turns) (moved_by bodies homes c h r)
      room r e = all_room h r (leaving_args h.loops (homes r.form).params 0 r.args)
          (leaving_are (homes r.form).params h.loops r.args 0 r.args
          (λ j x d. let m : 0 + j ≡ j = omega arith in ap (slice_get r.args) m ∙ d)) (row r e)
