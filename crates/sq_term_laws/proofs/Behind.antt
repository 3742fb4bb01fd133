-- In the term of a form each buffer stands behind the same others of its level, wherever a scope names it, where the
-- forms' buffers are in order.
use Rattle.std.proofs.Common.{◌≡◌, ℕ, zero, suc, ◌+◌, Bool, true, false, ◌||◌, is_some, List, [], ◌∷◌, ◌++◌, map}
use Rattle.std.proofs.Common.{length, slice_get, Option, Some, None, refl, sym, ap, subst, ◌∙◌, arith, if◌then◌else◌, pos, ap₂}
use Rattle.std.specs.Prelude.{◌==◌, ◌&&◌}
use Rattle.std.specs.List.{list_any}
use Rattle.std.proofs.lemmas.List.{append-nil}
use Rattle.sq_num.specs.declared.RedOp.{RedOp}
use Rattle.sq_text.specs.declared.place.Place.{Place}
use Rattle.sq_text.specs.declared.spread.SpreadRule.{SpreadRule}
use Rattle.sq_text.specs.declared.spread.SpreadRule.TheVariants.{Cyclic}
use Rattle.sq_ast.specs.declared.program.Mode.{Mode}
use Rattle.sq_ast.specs.declared.program.Mode.TheVariants.{Input, Output, Both}
use Rattle.sq_ir.specs.Lifting.{lift}
use Rattle.sq_ir.specs.declared.num.Num.{Num}
use Rattle.sq_ir.specs.declared.num.Num.TheVariants as n
use Rattle.sq_ir.specs.declared.term.Action.{Action}
use Rattle.sq_ir.specs.declared.term.Term.{Term}
use Rattle.sq_ir.specs.declared.term.Term.TheVariants as term
use Rattle.sq_ir.specs.Leaf.declared.shape.Shape.{Shape}
use Rattle.sq_blocks.specs.declared.argument.Argument.{Argument}
use Rattle.sq_spec.specs.declared.statement.LoopKind.{LoopKind}
use Rattle.sq_spec.specs.declared.statement.LoopKind.TheVariants as loop_kind
use Rattle.sq_spec.specs.declared.statement.CallInstance.{CallInstance}
use Rattle.sq_spec.specs.declared.statement.Statement.{Statement, roll-Statement}
use Rattle.sq_spec.specs.declared.statement.Statement.TheVariants as b
use Rattle.sq_spec.specs.declared.statement.Statement.TheOpen.{Statement-F}
use Rattle.sq_spec.specs.declared.statement.Statement.TheFolds.{fold-roll-Statement, ind-Statement, map-Statement}
use Rattle.sq_spec.specs.declared.body.Body.{Body}
use Rattle.sq_spec.specs.declared.body.Body.TheVariants as body
use Rattle.sq_spec.specs.declared.body.FormBody.{FormBody}
use Rattle.sq_placed.specs.declared.home.Home.{Home}
use Rattle.sq_placed.specs.declared.home.Homes.{Homes}
use Rattle.sq_term.specs.declared.context.Context.{Context}
use Rattle.sq_term.specs.declared.context.Lane.{Lane}
use Rattle.sq_term.specs.declared.context.Move.{Move}
use Rattle.sq_placed.specs.Placed.{PlacedLocal}
use Rattle.sq_placed.specs.Trees.{is_moved, is_held, local_buffers}
use Rattle.sq_placed.specs.Tables.{locals_of, op_of, spread_of, leaving_row, Chain, chain_of, one_more, row_form}
use Rattle.sq_placed.specs.Tables.{overlapped, lanes_of, Pipe, pipe_of}
use Rattle.sq_term.specs.Terms.{by_rows, clear_term, bring_term_by, bring_term, back_term_by, back_term, local_view}
use Rattle.sq_term.specs.Terms.{moves_from, buffers_from, in_callee, callee_term, call_parts, call_child, call_term}
use Rattle.sq_term.specs.Terms.{is_same_arm, with_arm, arms_from, arms_of, picks, numbers, first_num, held_moves}
use Rattle.sq_term.specs.Terms.{leaving_buffers, hold_in_term_by, hold_in_term, hold_out_term_by, hold_out_term}
use Rattle.sq_term.specs.Terms.{at_child_already, hold_term, map_hold, TermPart, chains, any_lower, any_same, all_terms}
use Rattle.sq_term.specs.Terms.{map_term, count_num, in_map, loop_term, arm_of_form, rows_term, term_step}
use Rattle.sq_term.specs.Terms.{statement_term, body_term, term_of, entry_context, entry_row, entry_term}
use Rattle.sq_term.specs.Terms.{lift_context, lift_lane, whole_lane, lane_at, iteration, at_iteration, by_set}
use Rattle.sq_term.specs.Terms.{where_some, come_in_term, fill_held_term, at_position, turn_term, lane_term, each_child}
use Rattle.sq_term.specs.Terms.{lanes_term, pipe_moves, pipe_work, twin_sets, pipe_term, run_term}
use Rattle.sq_term.proofs.Opened.{built_call, built_map}
use Rattle.sq_nests.specs.Nests.{End, Both, Open, Named, all_nests, named_in}
use Rattle.sq_nests.specs.Stacks.{those, OnStack, HaveBefore}
use Rattle.sq_nests.proofs.Equations.{named_skip, named_act, named_seq, named_par, named_loop, named_spread, named_case}
use Rattle.sq_nests.proofs.Equations.{named_within}
use Rattle.sq_term_laws.specs.Orders.{EachOf, Round, all_rounds, map_rounds, round_step, rounds_in, rounds_of, held_at}
use Rattle.sq_term_laws.specs.Orders.{held_over, params_of, own_locals, IsNext, IsBehind, AreInOrder, call_buffers}
use Rattle.sq_term_laws.specs.Overlapping.{IsSuited, AskedInMaps, each_in_maps, can_overlap, RowOverlaps, overlaps_step}
use Rattle.sq_term_laws.specs.Overlapping.{Overlaps, BodyOverlaps, OverlapsStand}
use Rattle.sq_term_laws.proofs.Piped.{no_pipe, pipe_is, pipe_none}
use Rattle.sq_term_laws.proofs.Overlaps.{plain_buffers, both_sets, overlaps_call, overlaps_map, spread_as}
use Rattle.sq_term_laws.proofs.Numbered.{append_assoc, right_of, those_append, row_held, front_held}

-- ---- parts without scopes

rows_flat : (extents : List ℕ) (x : Action) → named_in (by_rows extents x) ≡ End
rows_flat extents x = named_loop _ (term.Act x) ∙ named_act x

either_flat : (v : Bool) (x : Term) → named_in x ≡ End → named_in (if v then x else term.Skip) ≡ End
either_flat true x h = h
either_flat false x h = named_skip

bring_flat : (g : Option RedOp) (m : Mode) (l : Move) → named_in (bring_term_by g m l) ≡ End
bring_flat (Some op) m l = rows_flat _ _
bring_flat None Input l = either_flat (is_moved l.home) _ (rows_flat _ _)
bring_flat None Output l = rows_flat _ _
bring_flat None Both l = either_flat (is_moved l.home) _ (rows_flat _ _)

back_flat : (g : Option RedOp) (m : Mode) (l : Move) → named_in (back_term_by g m l) ≡ End
back_flat (Some op) m l = rows_flat _ _
back_flat None Input l = named_skip
back_flat None Output l = either_flat (is_moved l.home) _ (rows_flat _ _)
back_flat None Both l = either_flat (is_moved l.home) _ (rows_flat _ _)

-- ---- rows

each_left : {A : Type 0} (P : A → Type 0) (xs ys : List A) → EachOf P (xs ++ ys) → EachOf P xs
each_left P [] ys h = tt
each_left P (x ∷ xs) ys h = (h.0, each_left P xs ys h.1)

each_right : {A : Type 0} (P : A → Type 0) (xs ys : List A) → EachOf P (xs ++ ys) → EachOf P ys
each_right P [] ys h = h
each_right P (x ∷ xs) ys h = each_right P xs ys h.1

each_both : {A : Type 0} (P : A → Type 0) (xs ys : List A) → EachOf P xs → EachOf P ys → EachOf P (xs ++ ys)
each_both P [] ys h k = k
each_both P (x ∷ xs) ys h k = (h.0, each_both P xs ys h.1 k)

module _ (P : CallInstance → Type 0) where
  arms_are : (qs times : List CallInstance) → EachOf P qs → EachOf P times → EachOf P (arms_from qs times)
  arms_are qs [] h k = h
  arms_are qs (r ∷ rest) h k = arms_are (with_arm qs r) rest (by (list_any (is_same_arm r) qs)) k.1
    where
      by : (v : Bool) → EachOf P (if v then qs else qs ++ r ∷ [])
      by true = h
      by false = each_both P qs (r ∷ []) h (k.0, tt)

rounds_call : (lower : Bool) (times : List CallInstance) → rounds_in (b.Call lower times)
    ≡ round_step (Statement-F.Call lower times)
rounds_call lower times = ap rounds_in (sym (b.rolls-Call lower times))
    ∙ fold-roll-Statement (ℕ → List Round) round_step (Statement-F.Call lower times)

rounds_map : (place : Place) (m : LoopKind) (counts starts : List ℕ) (parts : List Statement)
    → rounds_in (b.Map place m counts starts parts)
    ≡ round_step (Statement-F.Map place m counts starts (map rounds_in parts))
rounds_map place m counts starts parts =
    ap rounds_in (sym (b.rolls-Map place m counts starts parts))
    ∙ fold-roll-Statement (ℕ → List Round) round_step (Statement-F.Map place m counts starts parts)

-- ---- arguments that leave a loop

hold_in_flat : (m : Mode) (l : Move) → named_in (hold_in_term_by m l) ≡ End
hold_in_flat Input l = rows_flat _ _
hold_in_flat Output l = named_skip
hold_in_flat Both l = rows_flat _ _

hold_out_flat : (m : Mode) (l : Move) → named_in (hold_out_term_by m l) ≡ End
hold_out_flat Input l = named_skip
hold_out_flat Output l = rows_flat _ _
hold_out_flat Both l = rows_flat _ _

-- ---- loops whose transfers overlap

-- it looks at how many stand in the loop
one_can : {X Y : Type 0} (m : LoopKind) (w : Bool) (x : X) (y : Y)
    → can_overlap m w (x ∷ []) ≡ can_overlap m w (y ∷ [])
one_can loop_kind.Sequential w x y = refl
one_can loop_kind.Parallel w x y = refl
one_can (loop_kind.Reduction r) w x y = refl

come_flat : (l : Move) → named_in (come_in_term l) ≡ End
come_flat l = by (is_held l.home)
  where
    by : (v : Bool) → named_in (if v then term.Skip else bring_term l) ≡ End
    by true = named_skip
    by false = bring_flat l.gathers l.mode l

fill_flat : (l : Move) → named_in (fill_held_term l) ≡ End
fill_flat l = either_flat (is_held l.home) (bring_term l) (bring_flat l.gathers l.mode l)

module _ (here : ℕ → Bool) (before : ℕ → List ℕ) (outer : ℕ → List ℕ) (bodies : ℕ → FormBody) (homes : ℕ → Homes)
    (overlaps : OverlapsStand bodies homes) where
  abbrev Behind : List ℕ → Named → Type 0
  Behind = HaveBefore here before

  abbrev Next : List ℕ → CallInstance → Type 0
  Next = IsNext here before outer bodies homes

  abbrev Order : ℕ → Round → Type 0
  Order = IsBehind here before outer bodies homes

  flat : {A : Type 0} (o : List ℕ) (f : A → Term) → ((x : A) → named_in (f x) ≡ End) → (xs : List A)
      → Behind o (named_in (term.Par (map f xs)))
  flat {A} o f h xs = subst (Behind o) (sym (named_par (map f xs))) (all xs)
    where
      all : (ys : List A) → Behind o (all_nests (map named_in (map f ys)))
      all [] = tt
      all (y ∷ ys) = (subst (Behind o) (sym (h y)) tt, all ys)

  seq_behind : (o : List ℕ) (xs : List Term) → Behind o (all_nests (map named_in xs))
      → Behind o (named_in (term.Seq xs))
  seq_behind o xs h = subst (Behind o) (sym (named_seq xs)) h

  par_behind : (o : List ℕ) (xs : List Term) → Behind o (all_nests (map named_in xs))
      → Behind o (named_in (term.Par xs))
  par_behind o xs h = subst (Behind o) (sym (named_par xs)) h

  skip_behind : (o : List ℕ) → Behind o (named_in term.Skip)
  skip_behind o = subst (Behind o) (sym named_skip) tt

  map_behind : (o : List ℕ) (spread : Option SpreadRule) (count : Num) (x : Term) → Behind o (named_in x)
      → Behind o (named_in (map_term spread count x))
  map_behind o None count x h = subst (Behind o) (sym (named_loop count x)) h
  map_behind o (Some rule) count x h = subst (Behind o) (sym (named_spread count rule x)) h

  callee_behind : (o : List ℕ) (ks : List PlacedLocal) (x : Term) → OnStack before o (those here (local_buffers ks))
      → Behind (o ++ those here (local_buffers ks)) (named_in x) → Behind o (named_in (callee_term ks x))
  callee_behind o ks x a h =
      let q = o ++ those here (local_buffers ks) in
      subst (Behind o) (sym (named_within None (local_buffers ks)
      (term.Seq (term.Par (map (λ k. clear_term (local_view k)) ks) ∷ x ∷ [])))) (
        a,
        seq_behind q (term.Par (map (λ k. clear_term (local_view k)) ks) ∷ x ∷ [])
            (flat q (λ k. clear_term (local_view k)) (λ k. rows_flat _ _) ks, (h, tt)),
      )

  call_behind : (o : List ℕ) (lower : Bool) (c : Context) (bs : List ℕ) (ms : List Move) (ks : List PlacedLocal)
      (x : Term)
      → OnStack before o (those here bs) → OnStack before (o ++ those here bs) (those here (local_buffers ks))
      → Behind (o ++ those here bs ++ those here (local_buffers ks)) (named_in x)
      → Behind o (named_in (call_term lower c bs ms ks x))
  call_behind o lower c bs ms ks x a l h =
      let p = o ++ those here bs in
      subst (Behind o) (sym (named_within (call_child lower c) bs (term.Seq (call_parts ms ks x)))) (
        a,
        seq_behind p (call_parts ms ks x) (
          flat p bring_term (λ m. bring_flat m.gathers m.mode m) ms,
          (callee_behind p ks x l h, (flat p back_term (λ m. back_flat m.gathers m.mode m) ms, tt)),
        ),
      )

  -- a loop, behind those that leave it
  hold_behind : (o : List ℕ) (shapes : List Shape) (hs : List Home) (times : List CallInstance) (number : Num)
      (ps : List (ℕ × Argument)) (bs : List ℕ) → leaving_buffers hs ps ≡ bs → OnStack before o (those here bs)
      → (inside : Bool) (c : Context) (loop : Bool → Context → Term)
      → ((i : Bool) (d : Context) → Behind (o ++ those here bs) (named_in (loop i d)))
      → Behind o (named_in (hold_term shapes hs times number ps inside c loop))
  hold_behind o shapes hs times number [] bs e a inside c loop h =
      subst (λ (z : List ℕ). Behind z (named_in (loop inside c)))
      (ap (λ (x : List ℕ). o ++ those here x) (sym e) ∙ append-nil o) (h inside c)
  hold_behind o shapes hs times number (p ∷ ps) bs e a inside c loop h =
      let ms = held_moves shapes hs c.views times number (p ∷ ps) in
      let mine = leaving_buffers hs (p ∷ ps) in
      let q = o ++ those here mine in
      let parts = term.Par (map hold_in_term ms) ∷ loop true (at_child_already c) ∷ term.Par (map hold_out_term ms)
      ∷ [] in
      subst (Behind o) (sym (named_within c.child mine (term.Seq parts))) (
        subst (λ (z : List ℕ). OnStack before o (those here z)) (sym e) a,
        seq_behind q parts (
          flat q hold_in_term (λ m. hold_in_flat m.mode m) ms,
          (
            subst (λ (z : List ℕ). Behind (o ++ those here z) (named_in (loop true (at_child_already c)))) (sym e)
                (h true (at_child_already c)),
            (flat q hold_out_term (λ m. hold_out_flat m.mode m) ms, tt),
          ),
        ),
      )

  -- ---- the parts of a loop whose transfers overlap

  set_behind : (o : List ℕ) (p : Num) (f : ℕ → Term) → ((set : ℕ) → Behind o (named_in (f set)))
      → Behind o (named_in (by_set p f))
  set_behind o p f h = subst (Behind o) (sym (named_case (n.Rem p (n.Const (pos 2))) (f 0 ∷ f 1 ∷ [])))
      (h 0, (h 1, tt))

  some_behind : (o : List ℕ) (k : Num) (x : Term) → Behind o (named_in x) → Behind o (named_in (where_some k x))
  some_behind o k x h = subst (Behind o) (sym (named_case (n.Min k (n.Const (pos 1))) (term.Skip ∷ x ∷ [])))
      (skip_behind o, (h, tt))

  child_behind : (o : List ℕ) (x : Term) → Behind o (named_in x) → Behind o (named_in (each_child x))
  child_behind o x h =
      let y = term.Spread (n.Index 0) Cyclic x in
      let z = term.Case (n.Div (n.Index 0) n.Children) (term.Skip ∷ y ∷ []) in
      subst (Behind o) (sym (named_loop (n.Add n.Children (n.Const (pos 1))) z))
      (subst (Behind o) (sym (named_case (n.Div (n.Index 0) n.Children) (term.Skip ∷ y ∷ [])))
      (skip_behind o, (subst (Behind o) (sym (named_spread (n.Index 0) Cyclic x)) h, tt)))

  abbrev Parts : List ℕ → (ℕ → Context → Term) → Type 0
  Parts o f = (set : ℕ) (d : Context) → Behind o (named_in (f set d))

  module _ (o : List ℕ) (starts : List ℕ) (come work leave : ℕ → Context → Term) (comes : Parts o come)
      (works : Parts o work) (leaves : Parts o leave) where
    at_behind : (l : Lane) (c : Context) (p : Num) (f : ℕ → Context → Term) → Parts o f
        → Behind o (named_in (at_position starts l c p f))
    at_behind l c p f h = set_behind o p (λ set. f set (at_iteration starts (iteration l p) c)) (λ set. h set _)

    turn_behind : (l : Lane) (c : Context) → Behind o (named_in (turn_term starts l c come work leave))
    turn_behind l c =
        let back = at_position starts l c (n.Sub (n.Index 0) (n.Const (pos 1))) leave in
        let next = at_position starts l c (n.Add (n.Index 0) (n.Const (pos 1))) come in
        let one = where_some (n.Index 0) back in
        let two = where_some (n.Sub (n.Sub l.many (n.Const (pos 1))) (n.Index 0)) next in
        let this = at_position starts l c (n.Index 0) work in
        par_behind o (this ∷ term.Seq (one ∷ two ∷ []) ∷ []) (
          at_behind l c (n.Index 0) work works,
          (
            seq_behind o (one ∷ two ∷ []) (
              some_behind o (n.Index 0) back (at_behind l c _ leave leaves),
              (some_behind o _ next (at_behind l c _ come comes), tt),
            ),
            tt,
          ),
        )

    lane_behind : (l : Lane) (c : Context) → Behind o (named_in (lane_term starts l c come work leave))
    lane_behind l c =
        let first = come 0 (at_iteration starts l.first c) in
        let turn = turn_term starts (lift_lane l) (lift_context c) come work leave in
        let last = at_position starts l c (n.Sub l.many (n.Const (pos 1))) leave in
        let list = first ∷ term.Loop l.many turn ∷ last ∷ [] in
        some_behind o l.many (term.Seq list) (seq_behind o list (
          comes 0 _,
          (
            subst (Behind o) (sym (named_loop l.many turn)) (turn_behind (lift_lane l) (lift_context c)),
            (at_behind l c _ leave leaves, tt),
          ),
        ))

  lanes_behind : (o bs : List ℕ) → OnStack before o (those here bs) → (spread : Option SpreadRule) (count : Num)
      (starts : List ℕ) (c : Context) (come work leave : ℕ → Context → Term) → Parts (o ++ those here bs) come
      → Parts (o ++ those here bs) work → Parts (o ++ those here bs) leave
      → Behind o (named_in (lanes_term spread count starts bs c come work leave))
  lanes_behind o bs a None count starts c come work leave cs ws ls =
      let x = lane_term starts (whole_lane count) c come work leave in
      subst (Behind o) (sym (named_within c.child bs x))
      (a, lane_behind (o ++ those here bs) starts come work leave cs ws ls (whole_lane count) c)
  lanes_behind o bs a (Some rule) count starts c come work leave cs ws ls =
      let l = lane_at rule (lift 1 (lift 1 count)) (n.Index 1) (n.Index 0) in
      let d = lift_context (lift_context c) in
      let x = lane_term starts l d come work leave in
      child_behind o (term.Within (Some (n.Index 0)) bs x) (subst (Behind o)
      (sym (named_within (Some (n.Index 0)) bs x))
      (a, lane_behind (o ++ those here bs) starts come work leave cs ws ls l d))

  module _ (callee : ℕ → Context → Term) (good : (f : ℕ) (c : Context) → Behind (outer f) (named_in (callee f c))) where
    -- a row that doesn't overlap its transfers
    record IsPlain (o : List ℕ) (r : CallInstance) : Type 0 where
      next : Next o r
      plain : (homes r.form).overlaps ≡ false

    arm_behind : (o : List ℕ) (op : Option RedOp) (lower : Bool) (c : Context) (times : List CallInstance)
        (r : CallInstance) → IsPlain o r → Behind o (named_in (arm_of_form bodies homes callee op lower c times r))
    arm_behind o op lower c times r g =
        let h = g.next in
        let bs = buffers_from (homes r.form).params 0 r.args in
        let same : call_buffers (homes r.form).params r.args ≡ bs = plain_buffers (homes r.form).params
        (subst (λ (v : Bool). EachOf (IsSuited v) (homes r.form).params) g.plain (overlaps.params r.form)) r.args in
        let ms = moves_from op (bodies r.form).arrays (homes r.form).params c times 0 r.args in
        let ks = locals_of (bodies r.form) (homes r.form) in
        let inner = in_callee c ms ks in
        call_behind o lower c bs ms ks (callee r.form inner)
        (subst (λ (z : List ℕ). OnStack before o (those here z)) same h.arguments)
        (subst (λ (z : List ℕ). OnStack before (o ++ those here z) (those here (local_buffers ks))) same h.locals)
        (subst (λ (z : List ℕ). Behind z (named_in (callee r.form inner)))
        (h.callee ∙ ap (λ (z : List ℕ). o ++ those here z ++ those here (local_buffers ks)) same) (good r.form inner))

    arms_behind : (o : List ℕ) (op : Option RedOp) (lower : Bool) (c : Context) (times qs : List CallInstance)
        → EachOf (IsPlain o) qs → Behind o
        (all_nests (map named_in (map (arm_of_form bodies homes callee op lower c times) qs)))
    arms_behind o op lower c times [] h = tt
    arms_behind o op lower c times (q ∷ qs) h
        = (arm_behind o op lower c times q h.0, arms_behind o op lower c times qs h.1)

    rows_behind : (o : List ℕ) (op : Option RedOp) (lower : Bool) (c : Context) (times : List CallInstance)
        → EachOf (IsPlain o) times → Behind o (named_in (rows_term bodies homes callee op lower c times))
    rows_behind o op lower c times h =
        subst (Behind o) (sym (named_case (n.Pick (numbers (picks (arms_of times) times)) c.ordinal)
        (term.Skip ∷ map (arm_of_form bodies homes callee op lower c times) (arms_of times)))) (
          subst (Behind o) (sym named_skip) tt,
          arms_behind o op lower c times (arms_of times)
              (arms_are (IsPlain o) [] times tt h),
        )

    -- a loop whose transfers overlap
    pipe_behind : (o : List ℕ) (spread : Option SpreadRule) (r : CallInstance) (rest : List CallInstance) → Next o r
        → (homes r.form).overlaps ≡ true → (counts starts : List ℕ) (c : Context) (loop : Term)
        → Behind o (named_in (pipe_term bodies homes callee (Some (record { spread = spread; rows = r ∷ rest })) counts
        starts c loop))
    pipe_behind o spread r rest h is counts starts c loop =
        lanes_behind o bs (subst (λ (z : List ℕ). OnStack before o (those here z)) same h.arguments) spread
        (count_num counts c) starts c _ _ _
        (λ set d. flat q come_in_term come_flat (pipe_moves bodies homes callee (r ∷ rest) set d)) works
        (λ set d. flat q back_term (λ m. back_flat m.gathers m.mode m)
        (pipe_moves bodies homes callee (r ∷ rest) set d))
      where
        bs : List ℕ
        bs = twin_sets bodies homes callee (r ∷ rest)

        q : List ℕ
        q = o ++ those here bs

        same : call_buffers (homes r.form).params r.args ≡ bs
        same = both_sets (homes r.form).params
            (subst (λ (v : Bool). EachOf (IsSuited v) (homes r.form).params) is (overlaps.params r.form)) r.args

        works : Parts q (pipe_work bodies homes callee (r ∷ rest))
        works set d =
            let ms = pipe_moves bodies homes callee (r ∷ rest) set d in
            let ks = locals_of (bodies r.form) (homes r.form) in
            let inner = callee r.form (in_callee d ms ks) in
            seq_behind q (term.Par (map fill_held_term ms) ∷ callee_term ks inner ∷ []) (
              flat q fill_held_term fill_flat ms,
              (
                callee_behind q ks inner
                    (subst (λ (z : List ℕ). OnStack before (o ++ those here z) (those here (local_buffers ks))) same
                    h.locals)
                    (subst (λ (z : List ℕ). Behind z (named_in inner))
                    (h.callee ∙ ap (λ (z : List ℕ). o ++ those here z ++ those here (local_buffers ks)) same)
                    (good r.form (in_callee d ms ks))),
                tt,
              ),
            )

    module _ (form : ℕ) where
      -- what is round a statement with so many loops round it
      abbrev round : Option (Chain Num) → ℕ → List ℕ
      round None k = outer form
      round (Some h) k = outer form ++ those here (held_over k h.loops (params_of homes (slice_get h.instances 0)))

      abbrev one : ℕ → List CallInstance → List Round
      one k times = record { loops = k; rows = times } ∷ []

      abbrev IsRound : Option (Chain Num) → ℕ → List Round → Type 0
      IsRound None k qs = Unit {0}
      IsRound (Some h) k qs = qs ≡ one (k + h.loops) h.instances

      record GoodAs (x : TermPart) (f : ℕ → List Round) (asked : AskedInMaps) : Type 0 where
        behind : (op : Option RedOp) (inside : Bool) (c : Context) (k : ℕ) → EachOf (Order form) (f k)
            → asked inside false → Behind (round x.chain k) (named_in (x.build op inside c))
        rounds : (k : ℕ) → IsRound x.chain k (f k)
        -- one that doesn't overlap may stand anywhere, and a call's maps may be spread or not
        free : (inside : Bool) → overlapped homes x.chain ≡ None → asked inside true → asked inside false
        any : (u : Chain Num) → x.chain ≡ Some u → (inside other alone : Bool) → asked inside alone
            → asked other alone

      round_zero : (h : Option (Chain Num)) → round h 0 ≡ outer form
      round_zero None = refl
      round_zero (Some h) = append-nil (outer form)

      module _ (rule : SpreadRule) where
        abbrev made : Statement → TermPart
        made = statement_term bodies homes callee rule

        abbrev Asked : Statement → AskedInMaps
        Asked = Overlaps homes

        abbrev Good : Statement → Type 0
        Good x = GoodAs (made x) (rounds_in x) (Asked x)

        abbrev G : Type 0
        G = (x : Statement) × Good x

        abbrev begun : List G → List Statement
        begun xs = map (λ p. p.0) xs

        -- the rows of a call that may not overlap
        plain_rows : (o : List ℕ) (lower : Bool) (times rows : List CallInstance)
            → EachOf (RowOverlaps homes lower false times) rows → EachOf (Next o) rows → EachOf (IsPlain o) rows
        plain_rows o lower times [] a h = tt
        plain_rows o lower times (r ∷ rest) a h = (
          record { next = h.0; plain = by (homes r.form).overlaps a.0.alone_is },
          plain_rows o lower times rest a.1 h.1,
        )
          where
            by : (v : Bool) → (v ≡ true → false ≡ true) → v ≡ false
            by true f = absurd (let z = f refl in cc)
            by false f = refl

        lower_free : (times rows : List CallInstance) → (homes (row_form (slice_get times 0))).overlaps ≡ false
            → EachOf (RowOverlaps homes true true times) rows → ((r : CallInstance) → slice_get rows 0 ≡ Some r
            → (q : CallInstance) × (slice_get times 0 ≡ Some q)) → EachOf (RowOverlaps homes true false times) rows
        lower_free times [] e a some = tt
        lower_free times (r ∷ rest) e a some = (
          record {
            lower_is = a.0.lower_is;
            alone_is = λ o. absurd (clash o);
            one = a.0.one;
          },
          lower_free times rest e a.1 (λ x y. some r refl),
        )
          where
            clash : (homes r.form).overlaps ≡ true → ⊥
            clash o =
                let q = some r refl in
                let same = a.0.one o 0 q.0 q.1 in
                let first : (homes q.0.form).overlaps ≡ false
                = subst (λ (x : Option CallInstance). (homes (row_form x)).overlaps ≡ false) q.1 e in
                let one : (homes q.0.form).overlaps ≡ true
                = subst (λ (f : ℕ). (homes f).overlaps ≡ true) (sym same) o in
                let z : false ≡ true = sym first ∙ one in
                cc

        same_free : (times rows : List CallInstance) → EachOf (RowOverlaps homes false true times) rows
            → EachOf (RowOverlaps homes false false times) rows
        same_free times [] a = tt
        same_free times (r ∷ rest) a = (
          record {
            lower_is = a.0.lower_is;
            alone_is = λ o. a.0.lower_is o;
            one = a.0.one;
          },
          same_free times rest a.1,
        )

        not_over : (times : List CallInstance)
            → overlapped homes (Some (record { loops = 0; instances = times; first = λ (x : Num). x })) ≡ None
            → (homes (row_form (slice_get times 0))).overlaps ≡ false
        not_over times e = by (homes (row_form (slice_get times 0))).overlaps e
          where
            by : (v : Bool) → (if (0 == 0) && v then Some times else None) ≡ None → v ≡ false
            by true f = absurd (let z = f in cc)
            by false f = refl

        abbrev asked_call : (lower : Bool) → List CallInstance → AskedInMaps
        asked_call lower times = overlaps_step homes Statement (λ y. y) Asked (Statement-F.Call lower times)

        call_good : (lower : Bool) (times : List CallInstance)
            → GoodAs (term_step bodies homes callee rule (Statement-F.Call lower times))
            (round_step (Statement-F.Call lower times)) (asked_call lower times)
        call_good true times = record {
          behind = λ op inside c k h a.
              let o = outer form ++ those here (held_over k 0 (params_of homes (slice_get times 0))) in
              rows_behind o op true c times (plain_rows o true times times a h.0.rows);
          rounds = λ k. let e : k ≡ k + 0 = omega arith in ap (λ (l : ℕ). one l times) e;
          free = λ inside e a. lower_free times times (not_over times e) a (λ r f. (r, f));
          any = λ u e inside other alone a. a;
        }
        call_good false times = record {
          behind = λ op inside c k h a. rows_behind (outer form) op false c times
              (plain_rows (outer form) false times times a
              (subst (λ (o : List ℕ). EachOf (Next o) times) (append-nil (outer form)) h.0.rows));
          rounds = λ k. tt;
          free = λ inside e a. same_free times times a;
          any = λ u e inside other alone a. a;
        }

        abbrev map_built : Option (Chain Num) → LoopKind → (counts starts : List ℕ) → List TermPart → TermPart
        map_built h m counts starts parts = record {
          lower = any_lower parts;
          same = any_same parts;
          chain = h;
          build = λ op inside c. map_hold bodies homes callee h inside c
              (run_term bodies homes callee rule m counts starts parts);
        }

        loop_behind : (o : List ℕ) (m : LoopKind) (counts starts : List ℕ) (parts : List TermPart) (inside : Bool)
            (c : Context)
            → ((op : Option RedOp) (d : Context)
            → Behind o (all_nests (map named_in (all_terms parts op
            (inside || is_some (spread_of rule m inside (any_lower parts) (any_same parts))) d))))
            → Behind o (named_in (loop_term rule m counts starts parts inside c))
        loop_behind o m counts starts parts inside c h =
            let spread = spread_of rule m inside (any_lower parts) (any_same parts) in
            let inner = in_map spread (count_num counts c) starts c in
            let list = all_terms parts (op_of m) (inside || is_some spread) inner in
            map_behind o spread (count_num counts c) (term.Seq list)
            (seq_behind o list (h (op_of m) inner))

        -- whether a map of these parts is spread
        abbrev spread_in : LoopKind → (inside : Bool) → List TermPart → Option SpreadRule
        spread_in m inside parts = spread_of rule m inside (any_lower parts) (any_same parts)

        abbrev Pipes : LoopKind → (inside : Bool) → List TermPart → Option Pipe
        Pipes m inside parts = pipe_of homes m (spread_in m inside parts) (chains parts)

        -- where its transfers don't overlap
        run_behind : (o : List ℕ) (m : LoopKind) (counts starts : List ℕ) (parts : List TermPart) (inside : Bool)
            (c : Context) → Pipes m inside parts ≡ None
            → ((op : Option RedOp) (d : Context)
            → Behind o (all_nests (map named_in (all_terms parts op (inside || is_some (spread_in m inside parts)) d))))
            → Behind o (named_in (run_term bodies homes callee rule m counts starts parts inside c))
        run_behind o m counts starts parts inside c e h =
            subst (λ (z : Option Pipe). Behind o (named_in (pipe_term bodies homes callee z counts starts c
            (loop_term rule m counts starts parts inside c)))) (sym e)
            (loop_behind o m counts starts parts inside c h)

        -- a loop of one statement
        one_behind : (m : LoopKind) (counts starts : List ℕ) (p : TermPart) (f : ℕ → List Round) (asked : AskedInMaps)
            → GoodAs p f asked → (k : ℕ) → EachOf (Order form) (f k) → (inside : Bool) (c : Context)
            → asked (inside || is_some (spread_in m inside (p ∷ [])))
            (can_overlap m (is_some (spread_in m inside (p ∷ []))) (p ∷ []))
            → Behind (round p.chain k) (named_in (run_term bodies homes callee rule m counts starts (p ∷ []) inside c))
        one_behind m counts starts p f asked g k q inside c a = by (Pipes m inside (p ∷ [])) refl
          where
            spread : Option SpreadRule
            spread = spread_in m inside (p ∷ [])

            settled : (v : Bool) → can_overlap m (is_some spread) (p ∷ []) ≡ v → Pipes m inside (p ∷ []) ≡ None
                → asked (inside || is_some spread) v → asked (inside || is_some spread) false
            settled false d e h = h
            settled true d e h = g.free (inside || is_some spread) (pipe_none homes p m spread p.chain e d) h

            first : (u : Chain Num) → p.chain ≡ Some u → u.loops ≡ 0 → EachOf (Order form) (one k u.instances)
            first u e z =
                let is : f k ≡ one (k + u.loops) u.instances
                = subst (λ (h : Option (Chain Num)). IsRound h k (f k)) e (g.rounds k) in
                let n : k + u.loops ≡ k = omega (arith, z) in
                subst (EachOf (Order form)) (is ∙ ap (λ (l : ℕ). one l u.instances) n) q

            piped : (pipe : Pipe) (u : Chain Num) (rows : List CallInstance) → u.loops ≡ 0 → u.instances ≡ rows
                → EachOf (Order form) (one k rows) → (homes (row_form (slice_get rows 0))).overlaps ≡ true
                → Behind (round (Some u) k)
                (named_in (pipe_term bodies homes callee (Some (record { spread = pipe.spread; rows = rows })) counts
                starts c (loop_term rule m counts starts (p ∷ []) inside c)))
            piped pipe u [] z i r e = absurd (let x = overlaps.entry in cc)
            piped pipe u (r ∷ rest) z i h e =
                let is : outer form ++ those here (held_over k 0 (homes r.form).params) ≡ round (Some u) k
                = ap₂ (λ (l : ℕ) (rows : List CallInstance). outer form
                ++ those here (held_over k l (params_of homes (slice_get rows 0)))) (sym z) (sym i) in
                subst (λ (o : List ℕ). Behind o (named_in (pipe_term bodies homes callee
                (Some (record { spread = pipe.spread; rows = r ∷ rest })) counts starts c
                (loop_term rule m counts starts (p ∷ []) inside c)))) is
                (pipe_behind (outer form ++ those here (held_over k 0 (homes r.form).params)) pipe.spread r rest
                h.0.rows.0 e counts starts c (loop_term rule m counts starts (p ∷ []) inside c))

            by : (o : Option Pipe) → Pipes m inside (p ∷ []) ≡ o → Behind (round p.chain k)
                (named_in (run_term bodies homes callee rule m counts starts (p ∷ []) inside c))
            by None e = run_behind (round p.chain k) m counts starts (p ∷ []) inside c e
                (λ op d. (g.behind op (inside || is_some spread) d k q (settled _ refl e a), tt))
            by (Some pipe) e =
                let w = pipe_is homes m spread p.chain pipe e in
                subst (λ (z : Option Pipe). Behind (round p.chain k) (named_in (pipe_term bodies homes callee z counts
                starts c (loop_term rule m counts starts (p ∷ []) inside c)))) (sym e)
                (subst (λ (h : Option (Chain Num)). Behind (round h k)
                (named_in (pipe_term bodies homes callee (Some pipe) counts starts c
                (loop_term rule m counts starts (p ∷ []) inside c)))) (sym w.is)
                (piped pipe w.chain pipe.rows w.none (sym w.rows)
                (subst (λ (rows : List CallInstance). EachOf (Order form) (one k rows)) (sym w.rows)
                (first w.chain w.is w.none))
                (subst (λ (rows : List CallInstance). (homes (row_form (slice_get rows 0))).overlaps ≡ true)
                (sym w.rows) w.overlaps)))

        all_good : (xs : List G) (op : Option RedOp) (inside : Bool) (c : Context)
            → EachOf (Order form) (all_rounds (map rounds_in (begun xs))) → each_in_maps Asked (begun xs) inside false
            → Behind (outer form) (all_nests (map named_in (all_terms (map made (begun xs)) op inside c)))
        all_good [] op inside c h a = tt
        all_good (x ∷ xs) op inside c h a = (
          subst (λ (o : List ℕ). Behind o (named_in ((made x.0).build op inside c))) (round_zero (made x.0).chain)
              (x.1.behind op inside c 0 (each_left (Order form) (rounds_in x.0 0)
              (all_rounds (map rounds_in (begun xs))) h) a.0),
          all_good xs op inside c (each_right (Order form) (rounds_in x.0 0) (all_rounds (map rounds_in (begun xs))) h)
              a.1,
        )

        abbrev asked_map : Place → LoopKind → (counts starts : List ℕ) → List Statement → AskedInMaps
        asked_map place m counts starts xs =
            overlaps_step homes Statement (λ y. y) Asked (Statement-F.Map place m counts starts xs)

        -- what is asked of the parts
        parts_asked : (place : Place) (m : LoopKind) (counts starts : List ℕ) (xs : List Statement) (inside v : Bool)
            → asked_map place m counts starts xs inside v
            → each_in_maps Asked xs (inside || is_some (spread_in m inside (map made xs)))
            (can_overlap m (is_some (spread_in m inside (map made xs))) xs)
        parts_asked place m counts starts xs inside v a = subst (λ (w : Bool). each_in_maps Asked xs (inside || w)
            (can_overlap m w xs)) (spread_as bodies homes callee rule m inside xs) a

        -- nothing leaves a map in which more stands than one call
        alone : (place : Place) (m : LoopKind) (counts starts : List ℕ) (xs : List G) (h : Option (Chain Num))
            → h ≡ None
            → (f : ℕ → List Round) → ((k : ℕ) → f k ≡ all_rounds (map rounds_in (begun xs)))
            → ((inside : Bool) → Pipes m inside (map made (begun xs)) ≡ None)
            → ((w : Bool) → can_overlap m w (begun xs) ≡ false)
            → GoodAs (map_built h m counts starts (map made (begun xs))) f (asked_map place m counts starts (begun xs))
        alone place m counts starts xs h e f same none never
            = subst (λ (z : Option (Chain Num)). GoodAs (map_built z m counts starts (map made (begun xs))) f
            (asked_map place m counts starts (begun xs))) (sym e)
            (record {
              behind = λ op inside c k g a.
                  let w = is_some (spread_in m inside (map made (begun xs))) in
                  let b = subst (λ (v : Bool). each_in_maps Asked (begun xs) (inside || w) v) (never w)
                  (parts_asked place m counts starts (begun xs) inside false a) in
                  run_behind (outer form) m counts starts (map made (begun xs)) inside c (none inside)
                  (λ o d. all_good xs o (inside || w) d (subst (EachOf (Order form)) (same k) g) b);
              rounds = λ k. tt;
              free = λ inside d a. a;
              any = λ u d inside other v a. absurd (let z = d in cc);
            })

        -- nor a map that isn't a plain loop
        beside : (place : Place) (m : LoopKind) (counts starts : List ℕ) (x : G)
            → GoodAs (map_built None m counts starts (made x.0 ∷ [])) (λ k. rounds_in x.0 0 ++ [])
            (asked_map place m counts starts (x.0 ∷ []))
        beside place m counts starts x = record {
          behind = λ op inside c k g a.
              let p = made x.0 in
              subst (λ (o : List ℕ). Behind o
              (named_in (run_term bodies homes callee rule m counts starts (p ∷ []) inside c))) (round_zero p.chain)
              (one_behind m counts starts p (rounds_in x.0) (Asked x.0) x.1 0
              (each_left (Order form) (rounds_in x.0 0) [] g) inside c
              (subst (λ (v : Bool). Asked x.0 (inside || is_some (spread_in m inside (p ∷ []))) v)
              (one_can m (is_some (spread_in m inside (p ∷ []))) x.0 p)
              (parts_asked place m counts starts (x.0 ∷ []) inside false a).0));
          rounds = λ k. tt;
          free = λ inside d a. a;
          any = λ u d inside other v a. absurd (let z = d in cc);
        }

        counted : (o : List ℕ) (times : List CallInstance) → EachOf (Next o) times → (r : CallInstance)
            → slice_get times 0 ≡ Some r → length r.args ≡ length (homes r.form).params
        counted o [] h r e = absurd (let z = e in cc)
        counted o (x ∷ times) h r e = let z : x ≡ r
            = cc in subst (λ (y : CallInstance). length y.args ≡ length (homes y.form).params) z h.0.count

        one_good : (counts starts : List ℕ) (p : TermPart) (f : ℕ → List Round) (asked : AskedInMaps)
            → GoodAs p f asked → (h : Option (Chain Num)) → p.chain ≡ h
            → (outside : AskedInMaps) → ((inside v : Bool) → outside inside v → asked (inside || false) true)
            → ((inside v : Bool) → asked (inside || false) true → outside inside v)
            → GoodAs (map_built (one_more first_num starts h) loop_kind.Sequential counts starts (p ∷ []))
            (λ k. f (suc k)) outside
        one_good counts starts p f asked g None e outside into back = record {
          behind = λ op inside c k q a.
              subst (λ (z : Option (Chain Num)). Behind (round z (suc k)) (named_in (run_term bodies homes callee rule
              loop_kind.Sequential counts starts (p ∷ []) inside c))) e
              (one_behind loop_kind.Sequential counts starts p f asked g (suc k) q inside c (into inside false a));
          rounds = λ k. tt;
          free = λ inside d a. back inside false (into inside true a);
          any = λ u d inside other v a. absurd (let z = d in cc);
        }
        one_good counts starts p f asked g (Some u) e outside into back = record {
          behind = λ op inside c k q a.
              let row = slice_get u.instances 0 in
              let hs = params_of homes row in
              let j = suc u.loops in
              let o = outer form ++ those here (held_over k j hs) in
              let is : f (suc k) ≡ one (suc k + u.loops) u.instances
              = subst (λ (z : Option (Chain Num)). IsRound z (suc k) (f (suc k))) e (g.rounds (suc k)) in
              let there = subst (EachOf (Order form)) is q in
              let split = those_append here (held_over k j hs) (held_at j hs) in
              let front = front_held here before (outer form) hs u.loops (suc k) 0 (suc k + u.loops) u.loops
              (omega arith) (omega arith) there.0.held in
              let mine = right_of before (outer form) (those here (held_over k j hs)) (those here (held_at j hs))
              (subst (OnStack before (outer form)) split front) in
              let joint : round (Some u) (suc k) ≡ o ++ those here (held_at j hs) =
              (ap (λ (z : List ℕ). outer form ++ z) split
              ∙ sym (append_assoc (outer form) (those here (held_over k j hs)) (those here (held_at j hs)))) in
              hold_behind o (bodies (row_form row)).arrays (homes (row_form row)).params u.instances
              (u.first (first_num starts c.ordinal)) (leaving_row homes j row) (held_at j hs)
              (row_held homes j row (counted _ u.instances there.0.rows)) mine inside c
              (run_term bodies homes callee rule loop_kind.Sequential counts starts (p ∷ []))
              (λ i d.
              let x = named_in (run_term bodies homes callee rule loop_kind.Sequential counts starts (p ∷ []) i d) in
              subst (λ (l : List ℕ). Behind l x) joint
              (subst (λ (w : Option (Chain Num)). Behind (round w (suc k)) x) e
              (one_behind loop_kind.Sequential counts starts p f asked g (suc k) q i d
              (g.any u e (inside || false) (i || false) true (into inside false a)))));
          rounds = λ k.
              let is : f (suc k) ≡ one (suc k + u.loops) u.instances
              = subst (λ (z : Option (Chain Num)). IsRound z (suc k) (f (suc k))) e (g.rounds (suc k)) in
              let s : suc k + u.loops ≡ k + suc u.loops = omega arith in
              is ∙ ap (λ (l : ℕ). one l u.instances) s;
          free = λ inside d a. back inside false (into inside true a);
          any = λ w d inside other v a. back other v (g.any u e (inside || false) (other || false) true
              (into inside v a));
        }

        map_good : (place : Place) (m : LoopKind) (counts starts : List ℕ) (xs : List G)
            → GoodAs (map_built (chain_of first_num m starts (chains (map made (begun xs)))) m counts starts
            (map made (begun xs))) (map_rounds m (map rounds_in (begun xs)))
            (asked_map place m counts starts (begun xs))
        map_good place loop_kind.Sequential counts starts []
            = alone place loop_kind.Sequential counts starts [] _ refl _ (λ k. refl) (λ i. refl) (λ w. refl)
        map_good place loop_kind.Sequential counts starts (x ∷ [])
            = one_good counts starts (made x.0) (rounds_in x.0) (Asked x.0) x.1 (made x.0).chain refl
            (asked_map place loop_kind.Sequential counts starts (x.0 ∷ [])) (λ inside v a. a.0)
            (λ inside v a. (a, tt))
        map_good place loop_kind.Sequential counts starts (x ∷ y ∷ xs)
            = alone place loop_kind.Sequential counts starts (x ∷ y ∷ xs) _ refl _ (λ k. refl) (λ i. refl) (λ w. refl)
        map_good place loop_kind.Parallel counts starts []
            = alone place loop_kind.Parallel counts starts [] _ refl _ (λ k. refl)
            (λ i. no_pipe (lanes_of loop_kind.Parallel (spread_in loop_kind.Parallel i []))) (λ w. refl)
        map_good place loop_kind.Parallel counts starts (x ∷ []) = beside place loop_kind.Parallel counts starts x
        map_good place loop_kind.Parallel counts starts (x ∷ y ∷ xs)
            = alone place loop_kind.Parallel counts starts (x ∷ y ∷ xs) _ refl _ (λ k. refl)
            (λ i. no_pipe (lanes_of loop_kind.Parallel
            (spread_in loop_kind.Parallel i (map made (begun (x ∷ y ∷ xs)))))) (λ w. refl)
        map_good place (loop_kind.Reduction r) counts starts xs
            = alone place (loop_kind.Reduction r) counts starts xs _ refl _ (λ k. refl) (λ i. refl) (λ w. refl)

        good_step : (y : Statement-F G) → Good (roll-Statement (map-Statement G Statement (λ p. p.0) y))
        good_step (Statement-F.Call lower times) =
            let x = b.Call lower times in
            let part = term_step bodies homes callee rule (Statement-F.Call lower times) in
            subst Good (sym (b.rolls-Call lower times))
            (subst (λ (p : TermPart). GoodAs p (rounds_in x) (Asked x))
            (sym (built_call bodies homes callee rule lower times))
            (subst (λ (f : ℕ → List Round). GoodAs part f (Asked x)) (sym (rounds_call lower times))
            (subst (GoodAs part (round_step (Statement-F.Call lower times))) (sym (overlaps_call homes lower times))
            (call_good lower times))))
        good_step (Statement-F.Map place m counts starts xs) =
            let x = b.Map place m counts starts (begun xs) in
            let part = term_step bodies homes callee rule
            (Statement-F.Map place m counts starts (map made (begun xs))) in
            subst Good (sym (b.rolls-Map place m counts starts (begun xs)))
            (subst (λ (p : TermPart). GoodAs p (rounds_in x) (Asked x))
            (sym (built_map bodies homes callee rule place m counts starts (begun xs)))
            (subst (λ (f : ℕ → List Round). GoodAs part f (Asked x))
            (sym (rounds_map place m counts starts (begun xs)))
            (subst (GoodAs part (map_rounds m (map rounds_in (begun xs))))
            (sym (overlaps_map homes place m counts starts (begun xs))) (map_good place m counts starts xs))))

        begun_good : (x : Statement) → Good x
        begun_good = ind-Statement Good (λ x y is. subst (λ z. Good (roll-Statement z)) is (good_step y))

        list_good : (list : List Statement) (op : Option RedOp) (inside : Bool) (c : Context)
            → EachOf (Order form) (all_rounds (map rounds_in list)) → each_in_maps Asked list inside false
            → Behind (outer form) (all_nests (map named_in (all_terms (map made list) op inside c)))
        list_good [] op inside c h a = tt
        list_good (x ∷ xs) op inside c h a = (
          subst (λ (o : List ℕ). Behind o (named_in ((made x).build op inside c))) (round_zero (made x).chain)
              ((begun_good x).behind op inside c 0
              (each_left (Order form) (rounds_in x 0) (all_rounds (map rounds_in xs)) h) a.0),
          list_good xs op inside c (each_right (Order form) (rounds_in x 0) (all_rounds (map rounds_in xs)) h) a.1,
        )

      body_behind : (h : Homes) (x : Body) (c : Context) → EachOf (Order form) (rounds_of x) → BodyOverlaps homes x
          → Behind (outer form) (named_in (body_term bodies homes callee h x c))
      body_behind h (body.Leaf code) c k a = subst (Behind (outer form)) (sym (named_act _)) tt
      body_behind h (body.Inner list) c k a =
          let parts = all_terms (map (statement_term bodies homes callee h.rule) list) None false c in
          seq_behind (outer form) parts (list_good h.rule list None false c k a)

  pub forms_behind : AreInOrder here before outer bodies homes → (d form : ℕ) (c : Context)
      → Behind (outer form) (named_in (term_of bodies homes d form c))
  forms_behind h zero form c = subst (Behind (outer form)) (sym named_skip) tt
  forms_behind h (suc d) form c = body_behind (term_of bodies homes d) (forms_behind h d) form (homes form)
      (bodies form).body c (h form) (overlaps.calls form)

  -- ---- the entry

  -- it has no buffers of arguments of its own
  no_buffers : (i : ℕ) (args : List Argument) → buffers_from [] i args ≡ []
  no_buffers i [] = refl
  no_buffers i (a ∷ rest) = no_buffers (suc i) rest

  pub entry_behind : AreInOrder here before outer bodies homes → (d : ℕ) (args : List Argument) (entry : List ℕ)
      → OnStack before [] (those here entry)
      → OnStack before (those here entry) (own_locals here before outer bodies homes (entry_row args)) → outer 0
      ≡ those here entry ++ own_locals here before outer bodies homes (entry_row args)
      → Behind [] (Open entry (named_in (entry_term bodies homes d args)))
  entry_behind h d args entry a l e =
      let c = entry_context (bodies 0) (homes 0) in
      let o = those here entry in
      let ms = moves_from None (bodies 0).arrays [] c (entry_row args ∷ []) 0 args in
      let ks = locals_of (bodies 0) (homes 0) in
      let bs = buffers_from [] 0 args in
      let same : o ≡ o ++ those here bs = sym (ap (λ z. o ++ those here z) (no_buffers 0 args) ∙ append-nil o) in
      let inner = in_callee c ms ks in (
        a,
        call_behind o false c bs ms ks (term_of bodies homes d 0 inner)
            (subst (λ z. OnStack before o (those here z)) (sym (no_buffers 0 args)) tt)
            (subst (λ z. OnStack before z (those here (local_buffers ks))) same l)
            (subst (λ z. Behind z (named_in (term_of bodies homes d 0 inner)))
            (e ∙ ap (λ z. z ++ those here (local_buffers ks)) same) (forms_behind h d 0 inner)),
      )
