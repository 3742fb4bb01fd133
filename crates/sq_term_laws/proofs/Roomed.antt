-- The induction over statements once more, with what is asked of actions: rows lie inside their buffers.
use Rattle.std.proofs.Common.{◌≡◌, ℕ, zero, suc, ◌+◌, ◌<◌, ◌≤◌, pos, Bool, true, false, not, ◌||◌, is_some, List, []}
use Rattle.std.proofs.Common.{◌∷◌, ◌++◌, map, length, get_or, slice_get, take, drop, Option, Some, None, refl, sym, ap}
use Rattle.std.proofs.Common.{subst, ◌∙◌, arith, if◌then◌else◌, inl, inr}
use Rattle.std.specs.List.{All}
use Rattle.sq_num.specs.declared.RedOp.{RedOp}
use Rattle.sq_num.specs.declared.Elem.TheVariants.{Long}
use Rattle.sq_num.specs.Elements.{IsValue}
use Rattle.sq_text.specs.declared.spread.SpreadRule.{SpreadRule}
use Rattle.sq_ir.specs.Leaf.declared.shape.Shape.{Shape}
use Rattle.sq_ir.specs.Written.{Setting, Env, value_of, at_turn, at_root, node_of, inside_of}
use Rattle.sq_ir.specs.Plans.{HasValue, IsBuffer, IsChild, each_part, this_arm, Meets}
use Rattle.sq_ir.specs.declared.num.Num.{Num}
use Rattle.sq_ir.specs.declared.num.Num.TheVariants as n
use Rattle.sq_ir.specs.declared.term.Action.TheVariants as action
use Rattle.sq_ir.specs.declared.term.Term.{Term}
use Rattle.sq_ir.specs.declared.term.Term.TheVariants as term
use Rattle.sq_blocks.specs.declared.argument.Argument.{Argument}
use Rattle.sq_spec.specs.declared.statement.LoopKind.{LoopKind}
use Rattle.sq_spec.specs.declared.statement.CallInstance.{CallInstance}
use Rattle.sq_spec.specs.declared.statement.Statement.{Statement, roll-Statement}
use Rattle.sq_spec.specs.declared.statement.Statement.TheVariants as b
use Rattle.sq_spec.specs.declared.statement.Statement.TheOpen.{Statement-F}
use Rattle.sq_spec.specs.declared.statement.Statement.TheFolds.{ind-Statement, map-Statement}
use Rattle.sq_spec.specs.declared.body.Body.{Body}
use Rattle.sq_spec.specs.declared.body.Body.TheVariants as body
use Rattle.sq_spec.specs.declared.body.FormBody.{FormBody}
use Rattle.sq_placed.specs.declared.home.Home.{Home}
use Rattle.sq_placed.specs.declared.home.Homes.{Homes}
use Rattle.sq_term.specs.declared.context.Context.{Context}
use Rattle.sq_term.specs.declared.context.Move.{Move}
use Rattle.sq_placed.specs.Trees.{home_in_set, local_buffers}
use Rattle.sq_placed.specs.Tables.{locals_of, op_of, spread_of, chain_of}
use Rattle.sq_placed.specs.Tables.{placed_locals, Chain, row_form, Pipe, pipe_of}
use Rattle.sq_placed.specs.Pipes.{all_loops, loop_round, call_loops, call_loops_of}
use Rattle.sq_placed.specs.Pipes.{IsPiped, LoopsStand, PipesStand}
use Rattle.sq_term.specs.Terms.{numbers, local_view, clear_term, moves_from, buffers_from, in_callee, call_child}
use Rattle.sq_term.specs.Terms.{arms_of, arm_number, picks, TermPart, any_lower, any_same, chains, all_terms, in_map}
use Rattle.sq_term.specs.Terms.{map_term, arm_term, arm_of_form, rows_term, count_num, loop_term, statement_term}
use Rattle.sq_term.specs.Terms.{at_child_already, first_num, body_term, term_of, entry_context}
use Rattle.sq_term.specs.Terms.{entry_row, entry_term, entry_views, buffer_or, pipe_term, run_term}
use Rattle.sq_term.specs.Terms.{callee_term, lift_context, at_iteration, come_in_term, fill_held_term, back_term}
use Rattle.sq_term.specs.Terms.{come_term, leave_term, row_args, pipe_moves, pipe_work}
use Rattle.sq_term.specs.Stands.{below, calls_in_rows, all_calls, calls_in, calls_in_all, calls_of, AreLevel}
use Rattle.sq_term.specs.Stands.{AreLeveled, Each, none, more}
use Rattle.sq_term_laws.specs.Fits.{Bounds, AreBounds, IsMachine, AskedOfStatement, HaveCounts, all_parts, Tabled}
use Rattle.sq_term_laws.specs.Fits.{TabledBody}
use Rattle.sq_term_laws.specs.Fits.{AreTabled, Way, to_child, entered, Fits, NodeAt}
use Rattle.sq_term.proofs.Numbers.{constant, table_is}
use Rattle.sq_term.proofs.Numbers as numbers_of
use Rattle.sq_term.proofs.Arms.{arm_of_row, pick_of, picks_are, IsHead, heads_each}
use Rattle.sq_term.proofs.Maps.{MayBe, may_be}
use Rattle.sq_term.proofs.Holds.{row_level}
use Rattle.sq_term.proofs.Same.{level_left, level_right, or_left, or_rest}
use Rattle.sq_term.proofs.Opened.{built_call, built_map, calls_call, calls_map}
use Rattle.sq_term_laws.proofs.Fine.{zero_fits, const_has, pick_has, counts_has, fine_skip, fine_act, fine_seq, fine_par}
use Rattle.sq_term_laws.proofs.Fine.{fine_loop}
use Rattle.sq_term_laws.proofs.Fine.{fine_spread, fine_case, fine_within, fine_arm}
use Rattle.sq_term_laws.proofs.Fitting.{call_there, kept_there, uses_fit, Inside, goes_in, begins, in_turn, narrow}
use Rattle.sq_placed.specs.declared.home.Home.TheVariants.{InPlace, Own, Held, Twin}
use Rattle.sq_term_laws.specs.Roomy.{IsCounted, RowsInside, IsRoomy, IsRoomyMove, AreWhole, FitsInto, HomeFits, ArgFits}
use Rattle.sq_term_laws.specs.Roomy.{Sees, joined_rows, reached_in, reached_of, RowFits, RowsFit, AreRoomy}
use Rattle.sq_term_laws.specs.Roomy.{EntryFits}
use Rattle.sq_term_laws.specs.Leaves.{left_of, AskedInLoops, each_in, loops_in, Leaves, BodyLeaves, joined_calls, by_call}
use Rattle.sq_term_laws.specs.Leaves.{AreSame, BodySame}
use Rattle.sq_term_laws.specs.Laws.{TermIsRoomy, EntryIsRoomy}
use Rattle.sq_term.proofs.Whole.{heads_refl}
use Rattle.sq_term_laws.proofs.Blocks.{roomy_buffer, fill_good, bring_good, back_good, come_good, begin_good}
use Rattle.sq_term_laws.proofs.Rooming.{eight_fits}
use Rattle.sq_term_laws.proofs.Seeing.{moves_roomy, callee_sees, sees_turn, leaf_good, locals_roomy, whole_at, taken}
use Rattle.sq_term_laws.proofs.Seeing.{row_fits, sees_lifted, sees_iteration}
use Rattle.sq_term_laws.proofs.Holding.{some_loops, held_good}
use Rattle.sq_term_laws.proofs.Chains.{tabled_call, tabled_map, leaves_map, reached_call, reached_map, by_call_map}
use Rattle.sq_term_laws.proofs.Chains.{map_alone, map_is_led}
use Rattle.sq_term_laws.proofs.Meeting.{hold_meets, arm_below, arms_len, picks_len, either, spread_lower, few_turns}
use Rattle.sq_term_laws.proofs.Meeting.{form_level, PartOf, lanes_meet}
use Rattle.sq_term_laws.proofs.LaneNumbers.{add_counted, pick_counted, lift_counted, count_counted}
use Rattle.sq_placed.proofs.Pipes.{loops_left, loops_right, map_loops}
use Rattle.sq_term_laws.proofs.CallLoops.{IsPipedCall, piped_call}

abbrev pub Good : Setting → Term → Env → List ℕ → Type 0
Good s x env bs = Meets s (RowsInside s) x env bs

whole_dropped : (k : ℕ) (xs : List Shape) → AreWhole xs → AreWhole (drop k xs)
whole_dropped zero xs h = h
whole_dropped (suc k) [] h = tt
whole_dropped (suc k) (x ∷ xs) h = whole_dropped k xs h.1

same_left : (xs ys : List (List CallInstance)) → AreSame (xs ++ ys) → AreSame xs
same_left [] ys h = tt
same_left (x ∷ xs) ys h = (h.0, same_left xs ys h.1)

same_right : (xs ys : List (List CallInstance)) → AreSame (xs ++ ys) → AreSame ys
same_right [] ys h = h
same_right (x ∷ xs) ys h = same_right xs ys h.1

-- ---- the rows of a loop whose transfers overlap

row_below : (rows : List CallInstance) (i : ℕ) (r : CallInstance) → slice_get rows i ≡ Some r → i < length rows
row_below [] i r e = cc
row_below (x ∷ rows) zero r e = omega arith
row_below (x ∷ rows) (suc i) r e = let g = row_below rows i r e in omega (arith, g)

first_row : (rows : List CallInstance) (i : ℕ) (r : CallInstance) → slice_get rows i ≡ Some r → (q : CallInstance)
    × (slice_get rows 0 ≡ Some q)
first_row [] i r e = cc
first_row (x ∷ rows) i r e = (x, refl)

-- each set holds the array
set_fits : (s : Setting) (set : ℕ) (h : Home) (x : Shape) → HomeFits s h x → HomeFits s (home_in_set set h) x
set_fits s zero InPlace x f = f
set_fits s zero (Own b) x f = f
set_fits s zero (Held b loops) x f = f
set_fits s zero (Twin b c) x f = f.0
set_fits s (suc k) InPlace x f = f
set_fits s (suc k) (Own b) x f = f
set_fits s (suc k) (Held b loops) x f = f
set_fits s (suc k) (Twin b c) x f = f.1

in_place : (set : ℕ) → home_in_set set InPlace ≡ InPlace
in_place zero = refl
in_place (suc k) = refl

set_at : (set : ℕ) (hs : List Home) (i : ℕ) → get_or (map (home_in_set set) hs) i InPlace
    ≡ home_in_set set (get_or hs i InPlace)
set_at set [] i = sym (in_place set)
set_at set (h ∷ hs) zero = refl
set_at set (h ∷ hs) (suc i) = set_at set hs i

module _ (s : Setting) (most : Bounds) (bounds : AreBounds most) (last : ℕ) (is_at : ℕ → ℕ → Type 0)
    (machine : IsMachine s most last is_at)
    (bodies : ℕ → FormBody) (homes : ℕ → Homes) (level : ℕ → ℕ) (leveled : AreLeveled s bodies homes level)
    (tabled : AreTabled s most last bodies homes level) (roomy : AreRoomy s bodies homes) where
  pub one_fits : IsValue Long (pos 1)
  one_fits = uses_fit s most bounds last is_at machine 1 bounds.once

  rows_left : (outer : List Shape) (xs ys : List CallInstance) → RowsFit bodies homes outer (xs ++ ys)
      → RowsFit bodies homes outer xs
  rows_left outer [] ys h = tt
  rows_left outer (x ∷ xs) ys h = (h.0, rows_left outer xs ys h.1)

  rows_right : (outer : List Shape) (xs ys : List CallInstance) → RowsFit bodies homes outer (xs ++ ys)
      → RowsFit bodies homes outer ys
  rows_right outer [] ys h = h
  rows_right outer (x ∷ xs) ys h = rows_right outer xs ys h.1

  -- the callees' terms are well formed
  abbrev pub AreGood : (ℕ → Context → Term) → Type 0
  AreGood made = (f : ℕ) (c : Context) (env : Env) (bs : List ℕ) → Fits s last is_at env (level f) c false true 0
      → Sees s env.turns (bodies f).arrays c → Good s (made f c) env bs

  moves_good : (env : Env) (bs : List ℕ) (f : Move → Term)
      → ((m : Move) (x : Shape) → IsRoomyMove s env.turns m x → Good s (f m) env bs)
      → {ms : List Move} {xs : List Shape} → Each (IsRoomyMove s env.turns) ms xs
      → each_part (Meets s (RowsInside s)) (map f ms) env bs
  moves_good env bs f h none = tt
  moves_good env bs f h (more r rest) = (h _ _ r, moves_good env bs f h rest)

  clears_good : (env : Env) (bs : List ℕ) (shapes : List Shape) (locals : List ℕ) → AreWhole shapes
      → Each (FitsInto s) locals shapes
      → each_part (Meets s (RowsInside s)) (map (λ k. clear_term (local_view k)) (placed_locals shapes locals)) env bs
  clears_good env bs [] locals w none = tt
  clears_good env bs (x ∷ shapes) [] w h = elim h [ ]
  clears_good env bs (x ∷ shapes) (l ∷ locals) w (more f rest) =
      go (clears_good env bs shapes locals w.1 rest)
      (locals_roomy s roomy.sizes env.turns (x ∷ shapes) (l ∷ locals) w (more f rest))
    where
      go : each_part (Meets s (RowsInside s)) (map (λ k. clear_term (local_view k)) (placed_locals shapes locals)) env
          bs → Each (IsRoomy s env.turns) (map local_view (placed_locals (x ∷ shapes) (l ∷ locals))) (x ∷ shapes)
          → each_part (Meets s (RowsInside s))
          (map (λ k. clear_term (local_view k)) (placed_locals (x ∷ shapes) (l ∷ locals))) env bs
      go others (more g later) = (fill_good s roomy.sizes eight_fits env bs x (pos 0) _ g, others)

  module _ (made : ℕ → Context → Term) (callees : AreGood made) where
    -- a callee, with the fills of its locals
    callee_good : (f : ℕ) (c : Context) (ms : List Move) (outer : List Shape) (env : Env) (bs : List ℕ)
        → Inside s most bounds last is_at machine env (level f) → Sees s env.turns outer c
        → Each (IsRoomyMove s env.turns) ms (take (length (homes f).params) (bodies f).arrays)
        → Good s (callee_term (locals_of (bodies f) (homes f))
        (made f (in_callee c ms (locals_of (bodies f) (homes f))))) env bs
    callee_good f c ms outer env bs here seen each =
        fine_within s (RowsInside s) env bs None (local_buffers (locals_of (bodies f) (homes f))) _ tt
        (subst (λ (l : ℕ). All (IsBuffer s l) (local_buffers (locals_of (bodies f) (homes f)))) (sym here.level_is)
        (kept_there s (level f) rest (homes f).locals (leveled.locals f) (tabled.locals f)))
        (fine_seq s (RowsInside s) env _ _ (
          fine_par s (RowsInside s) env _ _
              (clears_good env _ rest (homes f).locals whole (roomy.locals f)),
          (
            callees f (in_callee c ms (locals_of (bodies f) (homes f))) env _ (record {
              ordinal = constant s env.turns 0;
              has = record {
                has = λ l nodes. const_has s (record { turns = env.turns; level = l; nodes = nodes }) (pos 0) zero_fits;
              };
              way = begins s most bounds last is_at machine env (level f) here;
              here = here.here;
            })
                (callee_sees s roomy.sizes env.turns c outer seen (bodies f).arrays (length (homes f).params) ms
                (homes f).locals each whole (roomy.locals f)),
            tt,
          ),
        ))
      where
        rest : List Shape
        rest = drop (length (homes f).params) (bodies f).arrays

        whole : AreWhole rest
        whole = whole_dropped (length (homes f).params) (bodies f).arrays (roomy.whole f)

    pub arm_good : (params : List Home) (outer : List Shape) (op : Option RedOp) (lower : Bool)
        (times : List CallInstance) (k : ℕ) (r : CallInstance) (c : Context) (env : Env) (at : ℕ) (inside : Bool)
        (bs : List ℕ) (arm : CallInstance)
        → All (IsBuffer s (below lower at)) (buffers_from params 0 arm.args)
        → ((i : ℕ) (x : Shape) → slice_get (bodies arm.form).arrays i ≡ Some x → HomeFits s (get_or params i InPlace) x)
        → level arm.form ≡ below lower at → (lower ≡ true → at < last) → slice_get times k ≡ Some r → k < length times
        → r.form ≡ arm.form → Each IsHead r.args arm.args → RowFits bodies homes outer r
        → Fits s last is_at env at c inside (not lower) k → Sees s env.turns outer c
        → Good s (arm_term bodies homes made params op lower c times arm) env bs
    arm_good params outer op lower times k r c env at inside bs arm there own deep low at_time long form heads fits h
        seen =
        fine_within s (RowsInside s) env bs (call_child lower c) new _ goes.1
        (subst (λ (l : ℕ). All (IsBuffer s l) new) (sym goes.0.level_is) there)
        (fine_seq s (RowsInside s) in_env (new ++ bs) _ (
          fine_par s (RowsInside s) in_env (new ++ bs) _
              (moves_good in_env (new ++ bs) _ (λ m x i. bring_good s roomy.sizes eight_fits in_env (new ++ bs) x m i)
              each),
          (
            callee_good arm.form c ms outer in_env (new ++ bs)
                (record { level_is = goes.0.level_is ∙ sym deep; here = goes.0.here })
                (subst (λ (t : List ℕ). Sees s t outer c) (sym (turns lower c.child)) seen) each,
            (
              fine_par s (RowsInside s) in_env (new ++ bs) _
                  (moves_good in_env (new ++ bs) _
                  (λ m x i. back_good s roomy.sizes eight_fits in_env (new ++ bs) x m i) each),
              tt,
            ),
          ),
        ))
      where
        in_env : Env
        in_env = inside_of s env (call_child lower c)

        new : List ℕ
        new = buffers_from params 0 arm.args

        goes : Inside s most bounds last is_at machine in_env (below lower at) × IsChild s env (call_child lower c)
        goes = goes_in s most bounds last is_at machine env at lower inside h.here low h.way

        turns : (l : Bool) (p : Option Num) → (inside_of s env (if l then p else None)).turns ≡ env.turns
        turns false p = refl
        turns true None = refl
        turns true (Some x) = refl

        ms : List Move
        ms = moves_from op (bodies arm.form).arrays params c times 0 arm.args

        args : Each (ArgFits outer) r.args (take (length (homes arm.form).params) (bodies arm.form).arrays)
        args = subst (λ (f : ℕ). Each (ArgFits outer) r.args (take (length (homes f).params) (bodies f).arrays)) form
            fits

        each : Each (IsRoomyMove s in_env.turns) ms (take (length (homes arm.form).params) (bodies arm.form).arrays)
        each = subst (λ (t : List ℕ). Each (IsRoomyMove s t) ms
            (take (length (homes arm.form).params) (bodies arm.form).arrays)) (sym (turns lower c.child))
            (moves_roomy s roomy.sizes env.turns c outer seen.views times k r at_time long h.ordinal h.has op
            (bodies arm.form).arrays params
            (λ i x e. (whole_at (bodies arm.form).arrays (roomy.whole arm.form) i x e, own i x e)) 0 heads args
            (λ j y e. let m : 0 + j ≡ j = omega arith in ap (slice_get r.args) m ∙ e)
            (λ j y e. let m : 0 + j ≡ j = omega arith in ap (slice_get (bodies arm.form).arrays) m
            ∙ taken (length (homes arm.form).params) (bodies arm.form).arrays j y e))

    module _ (at : ℕ) (outer : List Shape) where
      rows_good : (op : Option RedOp) (lower : Bool) (times : List CallInstance) (m k : ℕ) (c : Context) (env : Env)
          (inside : Bool) (bs : List ℕ)
          → AreLevel level at (calls_in_rows lower times) → m ≤ length times → length times ≤ most.uses
          → (lower ≡ true → at < last) → k < m → RowsFit bodies homes outer times
          → Fits s last is_at env at c inside (not lower) k → Sees s env.turns outer c
          → Good s (rows_term bodies homes made op lower c times) env bs
      rows_good op lower times m k c env inside bs deep long short low below_m fitting h seen =
          fine_case s (RowsInside s) env bs (n.Pick (numbers (picks (arms_of times) times)) c.ordinal)
          (pick_of (arms_of times) (slice_get times k)) _
          (table_is s env (picks (arms_of times) times) c.ordinal k (h.ordinal.value env.level env.nodes)
          ∙ ap pos (picks_are (arms_of times) times k))
          (pick_has s env (picks (arms_of times) times) c.ordinal k (h.ordinal.value env.level env.nodes)
          (h.has.has env.level env.nodes)
          (let e = picks_len (arms_of times) times in omega (arith, e, below_m, long))
          (subst (λ (z : ℕ). IsValue Long (pos z)) (sym (picks_are (arms_of times) times k))
          (number (slice_get times k) refl)))
          (go (slice_get times k) refl)
        where
          number : (o : Option CallInstance) → slice_get times k ≡ o → IsValue Long (pos (pick_of (arms_of times) o))
          number None e = zero_fits
          number (Some r) e = let has = arm_of_row times k r e in let l
              = arm_below (arms_of times) r has.arm has.there in let g = arms_len [] times in
              uses_fit s most bounds last is_at machine (suc (arm_number (arms_of times) r))
              (omega (arith, l, g, short))

          go : (o : Option CallInstance) → slice_get times k ≡ o
              → this_arm (Meets s (RowsInside s))
              (term.Skip ∷ map (arm_of_form bodies homes made op lower c times) (arms_of times))
              (pos (pick_of (arms_of times) o)) env bs
          go None e = fine_skip s (RowsInside s) env bs
          go (Some r) e =
              let has = arm_of_row times k r e in
              let to = row_level level at lower times k r deep e in
              let form = has.form in
              let deep_arm : level has.arm.form ≡ below lower at = ap level (sym form) ∙ to in
              fine_arm s (RowsInside s) env bs (arm_of_form bodies homes made op lower c times) (arms_of times)
              (arm_number (arms_of times) r) has.arm has.there
              (arm_good (homes has.arm.form).params outer op lower times k r c env at inside bs has.arm
              (subst (λ (l : ℕ). All (IsBuffer s l) (buffers_from (homes has.arm.form).params 0 has.arm.args)) deep_arm
              (call_there s (level has.arm.form) (homes has.arm.form).params (leveled.params has.arm.form)
              (tabled.params has.arm.form) 0 has.arm.args))
              (roomy.params has.arm.form) deep_arm low e (omega (arith, below_m, long)) has.form has.heads
              (row_fits bodies homes outer times k r fitting e) h seen)

      module _ (rule : SpreadRule) where
        abbrev built : Statement → TermPart
        built = statement_term bodies homes made rule

        abbrev Asked : Statement → AskedOfStatement
        Asked = Tabled most last at

        record Agrees (x : Statement) : Type 0 where
          low : (m : ℕ) → Asked x m → (built x).lower ≡ true → at < last
          is : (op : Option RedOp) (m k : ℕ) (c : Context) (env : Env) (inside : Bool) (bs : List ℕ)
              → AreLevel level at (calls_in x) → LoopsStand homes (call_loops x).loops → Asked x m → k < m → m
              ≤ most.uses → RowsFit bodies homes outer (reached_in x) → AreSame (by_call x)
              → (loops : List (List ℕ)) → Leaves (left_of homes) x loops
              → Fits s last is_at env at c inside (built x).same k → Sees s env.turns outer c
              → Good s ((built x).build op inside c) env bs

        abbrev Known : Type 0
        Known = (x : Statement) × Agrees x

        abbrev begun : List Known → List Statement
        begun = map (λ q. q.0)

        abbrev all_built_of : List Known → List TermPart
        all_built_of xs = map built (begun xs)

        lows : (xs : List Known) (m : ℕ) → all_parts Asked (begun xs) m → any_lower (all_built_of xs) ≡ true → at < last
        lows [] m h e = cc
        lows (x ∷ xs) m h e = elim (either (built x.0).lower (any_lower (all_built_of xs)) e) [
          | inl g ↦ x.1.low m h.0 g
          | inr g ↦ lows xs m h.1 g
        ]

        all_good : (xs : List Known) (op : Option RedOp) (m k : ℕ) (c : Context) (env : Env) (inside : Bool)
            (bs : List ℕ)
            → AreLevel level at (all_calls (map calls_in (begun xs)))
            → LoopsStand homes (all_loops (map call_loops (begun xs))) → all_parts Asked (begun xs) m → k < m → m
            ≤ most.uses → RowsFit bodies homes outer (joined_rows (map reached_in (begun xs)))
            → AreSame (joined_calls (map by_call (begun xs)))
            → (loops : List (List ℕ)) → each_in (Leaves (left_of homes)) (begun xs) loops
            → Fits s last is_at env at c inside (any_same (all_built_of xs)) k → Sees s env.turns outer c
            → each_part (Meets s (RowsInside s)) (all_terms (all_built_of xs) op inside c) env bs
        all_good [] op m k c env inside bs deep stand asked l short fitting same loops leave h seen = tt
        all_good (x ∷ xs) op m k c env inside bs deep stand asked l short fitting same loops leave h seen =
            let more_same = any_same (all_built_of xs) in
            let others = all_loops (map call_loops (begun xs)) in (
              x.1.is op m k c env inside bs
                  (level_left level at (calls_in x.0) (all_calls (map calls_in (begun xs))) deep)
                  (loops_left homes (call_loops x.0).loops others stand) asked.0 l short
                  (rows_left outer (reached_in x.0) (joined_rows (map reached_in (begun xs))) fitting)
                  (same_left (by_call x.0) (joined_calls (map by_call (begun xs))) same) loops leave.0
                  (narrow s last is_at env at c inside _ (built x.0).same k (or_left (built x.0).same more_same) h)
                  seen,
              all_good xs op m k c env inside bs
                  (level_right level at (calls_in x.0) (all_calls (map calls_in (begun xs))) deep)
                  (loops_right homes (call_loops x.0).loops others stand) asked.1 l short
                  (rows_right outer (reached_in x.0) (joined_rows (map reached_in (begun xs))) fitting)
                  (same_right (by_call x.0) (joined_calls (map by_call (begun xs))) same) loops leave.1
                  (narrow s last is_at env at c inside _ more_same k (or_rest (built x.0).same more_same) h) seen,
            )

        -- a map in the context in which it stands
        map_good : (m : LoopKind) (counts starts : List ℕ) (xs : List Known) (n k : ℕ) (c : Context) (env : Env)
            (inside : Bool) (bs : List ℕ)
            → AreLevel level at (all_calls (map calls_in (begun xs)))
            → LoopsStand homes (all_loops (map call_loops (begun xs)))
            → HaveCounts counts n × ((k t : ℕ) → k < n → t < get_or counts k 0 → k < length starts) × (inner : ℕ)
            × (inner ≤ most.uses)
            × ((k t : ℕ) → k < n → t < get_or counts k 0 → get_or starts k 0 + t < inner)
            × all_parts Asked (begun xs) inner
            → k < n → RowsFit bodies homes outer (joined_rows (map reached_in (begun xs)))
            → AreSame (joined_calls (map by_call (begun xs)))
            → (loops : List (List ℕ)) → each_in (Leaves (left_of homes)) (begun xs) loops
            → Fits s last is_at env at c inside (any_same (all_built_of xs)) k → Sees s env.turns outer c
            → Good s (loop_term rule m counts starts (all_built_of xs) inside c) env bs
        map_good m counts starts xs n k c env inside bs deep stand asked l fitting alike loops leave h seen
            = go chosen refl
          where
            lower : Bool
            lower = any_lower (all_built_of xs)

            same : Bool
            same = any_same (all_built_of xs)

            chosen : Option SpreadRule
            chosen = spread_of rule m inside lower same

            count : Num
            count = count_num counts c

            times : ℕ
            times = get_or counts k 0

            counted : value_of s count env ≡ pos times
            counted = numbers_of.count_is s env counts c k (h.ordinal.value env.level env.nodes)

            few : times ≤ most.uses
            few = few_turns s most bounds last is_at machine bodies homes level leveled tabled counts starts n k asked.2
                asked.3 asked.4 l

            has : HasValue s count env
            has = counts_has s env counts c n k (h.ordinal.value env.level env.nodes) (h.has.has env.level env.nodes)
                asked.0 l
                (uses_fit s most bounds last is_at machine times few)

            body_good : (spread : Option SpreadRule) → MayBe spread inside → (t : ℕ) → t < times
                → Good s (term.Seq (all_terms (all_built_of xs) (op_of m) (inside || is_some spread)
                (in_map spread count starts c))) (at_turn env t) bs
            body_good spread may t turned =
                fine_seq s (RowsInside s) (at_turn env t) bs _
                (all_good xs (op_of m) asked.2 (get_or starts k 0 + t) (in_map spread count starts c) (at_turn env t)
                (inside || is_some spread) bs deep stand asked.5 (asked.4 k t l turned) asked.3 fitting alike loops leave
                (in_turn s most bounds last is_at machine env at c inside same k spread may count times counted few has
                starts asked.2 t turned asked.3 (asked.4 k t l turned) (asked.1 k t l turned) h)
                (sees_turn s env.turns outer c spread count starts t
                (uses_fit s most bounds last is_at machine t (let f = few in omega (arith, turned, f))) seen))

            node_some : (r : SpreadRule) → MayBe (Some r) inside → lower ≡ true → {o : Option Num}
                → Way s env last at inside same o → 1 ≤ s.children (node_of env)
            node_some r may e (to_child x is ok)
                = machine.some env.level (node_of env) h.here
                (let g = lows xs asked.2 asked.5 e in omega (arith, g, is))
            node_some r may e (entered is i alone) = let z = may.free r refl in let f : ⊥ = cc in absurd f

            go : (spread : Option SpreadRule) → chosen ≡ spread
                → Good s (map_term spread count
                (term.Seq (all_terms (all_built_of xs) (op_of m) (inside || is_some spread)
                (in_map spread count starts c)))) env bs
            go None e = fine_loop s (RowsInside s) env bs count times _ counted has
                (body_good None (subst (λ o. MayBe o inside) e (may_be rule m inside lower same)))
            go (Some r) e = let may = subst (λ o. MayBe o inside) e (may_be rule m inside lower same) in
                fine_spread s (RowsInside s) env bs count times r _ counted has
                (node_some r may (spread_lower rule r m inside lower same e) h.way) (body_good (Some r) may)

        -- what is seen in a loop whose transfers overlap, which is begun for the k-th time
        record IsSeen (k : ℕ) (turns : List ℕ) (d : Context) : Type 0 where
          seen : Sees s turns outer d
          ordinal : IsCounted s turns d.ordinal k

        seen_lifted : (k : ℕ) (turns : List ℕ) (t : ℕ) (d : Context) → IsSeen k turns d
            → IsSeen k (t ∷ turns) (lift_context d)
        seen_lifted k turns t d h = record {
          seen = sees_lifted s turns outer t d h.seen;
          ordinal = lift_counted s turns d.ordinal k t h.ordinal;
        }

        abbrev GoodPart : (rows : List CallInstance) → AreLevel level at (calls_in_rows true rows) → at < last
            → (counts starts : List ℕ) (k : ℕ) → get_or counts k 0 ≤ most.uses → (ℕ → Context → Term) → Type 0
        GoodPart rows row_deep low counts starts k few =
            PartOf s most bounds last is_at machine bodies homes level leveled tabled (RowsInside s) at made rows row_deep
            low counts starts k few (IsSeen k) (seen_lifted k)

        -- such a loop, in the context in which it stands
        pipe_good : (m : LoopKind) (spread : Option SpreadRule) (counts starts : List ℕ) (xs : List Known) (p : Pipe)
            → IsPipedCall level at bodies homes made rule m spread counts starts (begun xs) p → (times k : ℕ) (c : Context)
            (env : Env) (inside : Bool) (bs : List ℕ) → MayBe spread inside
            → AreLevel level at (all_calls (map calls_in (begun xs))) → LoopsStand homes
            (loop_round m counts starts (map call_loops (begun xs)))
            → HaveCounts counts times × ((k t : ℕ) → k < times → t < get_or counts k 0 → k < length starts) × (inner : ℕ)
            × (inner ≤ most.uses)
            × ((k t : ℕ) → k < times → t < get_or counts k 0 → get_or starts k 0 + t < inner)
            × all_parts Asked (begun xs) inner
            → k < times → RowsFit bodies homes outer (joined_rows (map reached_in (begun xs)))
            → Fits s last is_at env at c inside (any_same (all_built_of xs)) k → Sees s env.turns outer c → (loop : Term)
            → Good s (pipe_term bodies homes made (Some p) counts starts c loop) env bs
        pipe_good m spread counts starts xs p is times k c env inside bs may deep stand asked l fitting h seen loop =
            lanes_meet s most bounds last is_at machine bodies homes level leveled tabled (RowsInside s) at made p.rows
            row_deep low counts starts k few (IsSeen k) (seen_lifted k) _ _ _ comes works leaves p.spread c env inside bs
            (record { free = λ r z. may.free r (is.spread_is r z) }) fits (record { seen = seen; ordinal = ordinal })
            (count_counted s env.turns counts c times k ordinal asked.0 l
            (uses_fit s most bounds last is_at machine (get_or counts k 0) few))
          where
            ordinal : IsCounted s env.turns c.ordinal k
            ordinal = record { number = h.ordinal; has = h.has }

            piped : IsPiped (record { kind = m; rows = p.rows; counts = counts; starts = starts })
            piped = is.stands stand

            row_deep : AreLevel level at (calls_in_rows true p.rows)
            row_deep = is.deep deep

            low : at < last
            low = lows xs asked.2 asked.5 is.lower

            fits : Fits s last is_at env at c inside false k
            fits = subst (λ (v : Bool). Fits s last is_at env at c inside v k) is.same h

            few : get_or counts k 0 ≤ most.uses
            few = few_turns s most bounds last is_at machine bodies homes level leveled tabled counts starts times k asked.2
                asked.3 asked.4 l

            rows_fit : RowsFit bodies homes outer p.rows
            rows_fit = rows_left outer p.rows [] (subst (RowsFit bodies homes outer) is.reached fitting)

            form : ℕ
            form = row_form (slice_get p.rows 0)

            params : List Home
            params = (homes form).params

            arrays : List Shape
            arrays = (bodies form).arrays

            -- what is moved in an iteration
            moved : (set t : ℕ) → t < get_or counts k 0 → (turns : List ℕ) (d : Context) → IsSeen k turns d → (x : Num)
                → IsCounted s turns x t
                → Each (IsRoomyMove s turns) (pipe_moves bodies homes made p.rows set (at_iteration starts x d))
                (take (length params) arrays)
            moved set t lt turns d sees x number =
                moves_roomy s roomy.sizes turns (at_iteration starts x d) outer sees.seen.views p.rows i r row.1
                (row_below p.rows i r row.1) its.number its.has None arrays (map (home_in_set set) params)
                (λ j y e. (
                  whole_at arrays (roomy.whole form) j y e,
                  subst (λ (z : Home). HomeFits s z y) (sym (set_at set params j))
                      (set_fits s set (get_or params j InPlace) y (roomy.params form j y e)),
                )) 0 heads args
                (λ j y e. let z : 0 + j ≡ j = omega arith in ap (slice_get r.args) z ∙ e)
                (λ j y e. let z : 0 + j ≡ j = omega arith in ap (slice_get arrays) z
                ∙ taken (length params) arrays j y e)
              where
                i : ℕ
                i = get_or starts k 0 + t

                row : (q : CallInstance) × (slice_get p.rows i ≡ Some q)
                row = piped.there k t lt

                r : CallInstance
                r = row.0

                first : (q : CallInstance) × (slice_get p.rows 0 ≡ Some q)
                first = first_row p.rows i r row.1

                same : r.form ≡ form
                same = piped.form i 0 r first.0 row.1 first.1
                    ∙ ap (λ (o : Option CallInstance). row_form o) (sym first.1)

                heads : Each IsHead r.args (row_args (slice_get p.rows 0))
                heads = subst (λ (o : Option CallInstance). Each IsHead r.args (row_args o)) (sym first.1)
                    (heads_each (piped.heads i 0 r first.0 row.1 first.1))

                args : Each (ArgFits outer) r.args (take (length params) arrays)
                args = subst (λ (f : ℕ). Each (ArgFits outer) r.args
                    (take (length (homes f).params) (bodies f).arrays)) same
                    (row_fits bodies homes outer p.rows i r rows_fit row.1)

                small : i ≤ most.uses
                small = let g = asked.4 k t l lt in let f = asked.3 in omega (arith, g, f)

                its : IsCounted s turns (at_iteration starts x d).ordinal i
                its = add_counted s turns (n.Pick (numbers starts) d.ordinal) x (get_or starts k 0) t
                    (pick_counted s turns starts d.ordinal k sees.ordinal (asked.1 k t l lt)
                    (uses_fit s most bounds last is_at machine (get_or starts k 0) (let f = small in omega (arith, f))))
                    number (uses_fit s most bounds last is_at machine i small)

            comes : GoodPart p.rows row_deep low counts starts k few
                (λ set d. come_term (pipe_moves bodies homes made p.rows set d))
            comes set t lt e bs here d sees x number = fine_par s (RowsInside s) e bs _
                (moves_good e bs come_in_term (λ u y z. come_good s roomy.sizes eight_fits e bs y u z)
                (moved set t lt e.turns d sees x number))

            leaves : GoodPart p.rows row_deep low counts starts k few
                (λ set d. leave_term (pipe_moves bodies homes made p.rows set d))
            leaves set t lt e bs here d sees x number = fine_par s (RowsInside s) e bs _
                (moves_good e bs back_term (λ u y z. back_good s roomy.sizes eight_fits e bs y u z)
                (moved set t lt e.turns d sees x number))

            works : GoodPart p.rows row_deep low counts starts k few (pipe_work bodies homes made p.rows)
            works set t lt e bs here d sees x number =
                let row = piped.there k t lt in
                let to = form_level s most bounds last is_at machine bodies homes level leveled tabled at p.rows
                (get_or starts k 0 + t) row.0 row.1 row_deep in
                let each = moved set t lt e.turns d sees x number in
                fine_seq s (RowsInside s) e bs _ (
                  fine_par s (RowsInside s) e bs _
                      (moves_good e bs fill_held_term (λ u y z. begin_good s roomy.sizes eight_fits e bs y u z) each),
                  (
                    callee_good form (at_iteration starts x d)
                        (pipe_moves bodies homes made p.rows set (at_iteration starts x d)) outer e bs
                        (record { level_is = here.level_is ∙ sym to; here = here.here })
                        (sees_iteration s e.turns outer starts x t d number sees.seen) each,
                    tt,
                  ),
                )

        -- whether its transfers overlap or don't
        run_good : (m : LoopKind) (counts starts : List ℕ) (xs : List Known) (n k : ℕ) (c : Context) (env : Env)
            (inside : Bool) (bs : List ℕ)
            → AreLevel level at (all_calls (map calls_in (begun xs))) → LoopsStand homes
            (loop_round m counts starts (map call_loops (begun xs)))
            → LoopsStand homes (all_loops (map call_loops (begun xs)))
            → HaveCounts counts n × ((k t : ℕ) → k < n → t < get_or counts k 0 → k < length starts) × (inner : ℕ)
            × (inner ≤ most.uses)
            × ((k t : ℕ) → k < n → t < get_or counts k 0 → get_or starts k 0 + t < inner)
            × all_parts Asked (begun xs) inner
            → k < n → RowsFit bodies homes outer (joined_rows (map reached_in (begun xs)))
            → AreSame (joined_calls (map by_call (begun xs)))
            → (loops : List (List ℕ)) → each_in (Leaves (left_of homes)) (begun xs) loops
            → Fits s last is_at env at c inside (any_same (all_built_of xs)) k → Sees s env.turns outer c
            → Good s (run_term bodies homes made rule m counts starts (all_built_of xs) inside c) env bs
        run_good m counts starts xs n k c env inside bs deep stand others asked l fitting alike loops leave h seen
            = go (pipe_of homes m spread hs) refl
          where
            spread : Option SpreadRule
            spread = spread_of rule m inside (any_lower (all_built_of xs)) (any_same (all_built_of xs))

            hs : List (Option (Chain Num))
            hs = chains (all_built_of xs)

            loop : Term
            loop = loop_term rule m counts starts (all_built_of xs) inside c

            go : (o : Option Pipe) → pipe_of homes m spread hs ≡ o
                → Good s (pipe_term bodies homes made o counts starts c loop) env bs
            go None e = map_good m counts starts xs n k c env inside bs deep others asked l fitting alike loops leave h
                seen
            go (Some p) e = pipe_good m spread counts starts xs p
                (piped_call level at bodies homes made rule m spread counts starts (begun xs) p e) n k c env inside bs
                (may_be rule m inside (any_lower (all_built_of xs)) (any_same (all_built_of xs))) deep stand asked l
                fitting h seen loop

        agrees_step : (y : Statement-F Known) → Agrees (roll-Statement (map-Statement Known Statement (λ q. q.0) y))
        agrees_step (Statement-F.Call lower times) = subst Agrees (sym (b.rolls-Call lower times)) (record {
          low = λ m h e. (subst (λ (f : AskedOfStatement). f m) (tabled_call most last at lower times) h).2
              (sym (ap (λ (p : TermPart). p.lower) (built_call bodies homes made rule lower times)) ∙ e);
          is = λ op m k c env inside bs deep stand h l short fitting same loops leave g seen.
              let asked = subst (λ (f : AskedOfStatement). f m) (tabled_call most last at lower times) h in
              subst (λ (p : TermPart). Good s (p.build op inside c) env bs)
              (sym (built_call bodies homes made rule lower times))
              (rows_good op lower times m k c env inside bs (subst (AreLevel level at) (calls_call lower times) deep)
              asked.0 asked.1 asked.2 l (subst (RowsFit bodies homes outer) (reached_call lower times) fitting)
              (subst (λ (z : Bool). Fits s last is_at env at c inside z k)
              (ap (λ (p : TermPart). p.same) (built_call bodies homes made rule lower times)) g) seen);
        })
        agrees_step (Statement-F.Map place m counts starts xs)
            = subst Agrees (sym (b.rolls-Map place m counts starts (begun xs))) (record {
              low = λ n h e. let asked = subst (λ (f : AskedOfStatement). f n)
                  (tabled_map most last at place m counts starts (begun xs)) h in
                  lows xs asked.2 asked.5 (sym
                  (ap (λ (p : TermPart). p.lower) (built_map bodies homes made rule place m counts starts (begun xs)))
                  ∙ e);
              is = λ op n k c env inside bs deep stand h l short fitting same loops leave g seen.
                  let around = map_loops homes place m counts starts (begun xs) stand in
                  let x = b.Map place m counts starts (begun xs) in
                  let o = chain_of first_num m starts (chains (all_built_of xs)) in
                  let asked = subst (λ (f : AskedOfStatement). f n)
                  (tabled_map most last at place m counts starts (begun xs)) h in
                  let deeper = subst (AreLevel level at) (calls_map place m counts starts (begun xs)) deep in
                  let fits = subst (λ (z : Bool). Fits s last is_at env at c inside z k)
                  (ap (λ (p : TermPart). p.same) (built_map bodies homes made rule place m counts starts (begun xs))) g in
                  let reached = subst (RowsFit bodies homes outer) (reached_map place m counts starts (begun xs)) fitting in
                  let alike = subst AreSame (by_call_map place m counts starts (begun xs)) same in
                  let left = subst (λ (f : AskedInLoops). f loops)
                  (leaves_map (left_of homes) place m counts starts (begun xs)) leave in
                  subst (λ (p : TermPart). Good s (p.build op inside c) env bs)
                  (sym (built_map bodies homes made rule place m counts starts (begun xs)))
                  (hold_meets s most bounds last is_at machine bodies homes level leveled tabled (RowsInside s) at o
                  (any_lower (all_built_of xs)) (any_same (all_built_of xs)) (calls_in x)
                  (map_alone level at bodies homes made rule place m counts starts (begun xs)) deep
                  (lows xs asked.2 asked.5) k c env inside bs fits
                  (held_good s bodies homes roomy outer env.turns c seen.views o
                  (some_loops m starts (chains (all_built_of xs))) (reached_in x) (by_call x) (Asked x)
                  (Leaves (left_of homes) x)
                  (map_is_led s (left_of homes) most (uses_fit s most bounds last is_at machine) last at bodies homes made
                  rule place m counts starts (begun xs)) loops leave fitting same n k h l g.ordinal g.has)
                  (run_term bodies homes made rule m counts starts (all_built_of xs))
                  (run_good m counts starts xs n k c env inside bs deeper around.0 around.1 asked l reached alike
                  (loops_in m (begun xs) counts loops) left fits seen)
                  (λ in_env new t f. run_good m counts starts xs n k (at_child_already c) in_env true new deeper
                  around.0 around.1 asked l reached alike (loops_in m (begun xs) counts loops) left f
                  (subst (λ (ts : List ℕ). Sees s ts outer (at_child_already c)) (sym t)
                  (record { views = seen.views; numbers = seen.numbers; path = seen.path }))));
            })

        agrees : (x : Statement) → Agrees x
        agrees = ind-Statement Agrees (λ x y is. subst (λ z. Agrees (roll-Statement z)) is (agrees_step y))

        abbrev known : List Statement → List Known
        known [] = []
        known (x ∷ xs) = (x, agrees x) ∷ known xs

        known_are : (xs : List Statement) → begun (known xs) ≡ xs
        known_are [] = refl
        known_are (x ∷ xs) = ap (λ ys. x ∷ ys) (known_are xs)

        calls_joined : (xs : List Statement) → calls_in_all xs ≡ all_calls (map calls_in xs)
        calls_joined [] = refl
        calls_joined (x ∷ xs) = ap (λ l. calls_in x ++ l) (calls_joined xs)

        list_good : 1 ≤ most.uses → (list : List Statement) (c : Context) (env : Env) (bs : List ℕ)
            → AreLevel level at (calls_in_all list) → LoopsStand homes (all_loops (map call_loops list))
            → all_parts Asked list 1
            → RowsFit bodies homes outer (joined_rows (map reached_in list))
            → AreSame (joined_calls (map by_call list)) → each_in (Leaves (left_of homes)) list []
            → Fits s last is_at env at c false true 0 → Sees s env.turns outer c
            → Good s (term.Seq (all_terms (map built list) None false c)) env bs
        list_good used list c env bs deep stand asked fitting same leave h seen =
            fine_seq s (RowsInside s) env bs _
            (subst (λ (xs : List Statement). AreLevel level at (calls_in_all xs)
            → LoopsStand homes (all_loops (map call_loops xs)) → all_parts Asked xs 1
            → RowsFit bodies homes outer (joined_rows (map reached_in xs)) → AreSame (joined_calls (map by_call xs))
            → each_in (Leaves (left_of homes)) xs []
            → each_part (Meets s (RowsInside s)) (all_terms (map built xs) None false c) env bs) (known_are list)
            (λ d w a z y v. all_good (known list) None 1 0 c env false bs
            (subst (AreLevel level at) (calls_joined (begun (known list))) d) w a (omega arith) used z y [] v
            (narrow s last is_at env at c false true _ 0 (λ e. absurd (cc)) h) seen) deep stand asked fitting same leave)

    body_good : 1 ≤ most.uses → (at : ℕ) (outer : List Shape) (h : Homes) (x : Body) (c : Context) (env : Env)
        (bs : List ℕ) → AreLevel level at (calls_of x) → LoopsStand homes (call_loops_of x) → TabledBody most last at x
        → RowsFit bodies homes outer (reached_of x) → BodySame x → BodyLeaves (left_of homes) x
        → Fits s last is_at env at c false true 0 → Sees s env.turns outer c
        → Good s (body_term bodies homes made h x c) env bs
    body_good used at outer h (body.Inner list) c env bs deep stand asked fitting same leave g seen
        = list_good at outer h.rule used list c env bs deep stand asked fitting same leave g seen
    body_good used at outer h (body.Leaf code) c env bs deep stand asked fitting same leave g seen
        = fine_act s (RowsInside s) env bs (action.Leaf h.code c.views c.path) (leaf_good s env bs outer c h.code seen)

  pub forms_good : PipesStand bodies homes → (d : ℕ) → AreGood (term_of bodies homes d)
  forms_good pipes zero f c env bs h seen = fine_skip s (RowsInside s) env bs
  forms_good pipes (suc d) f c env bs h seen
      = body_good (term_of bodies homes d) (forms_good pipes d) bounds.once (level f) (bodies f).arrays (homes f)
      (bodies f).body c env bs (leveled.calls f) (pipes.each f) (tabled.body f) (roomy.rows f) (roomy.same f) (roomy.leaves f) h seen

  entry_roomy : (shapes : List Shape) (hs : List Home) → AreWhole shapes → EntryFits s hs (take (length hs) shapes)
      → Each (IsRoomy s []) (entry_views shapes hs) (take (length hs) shapes)
  entry_roomy shapes [] w f = none
  entry_roomy [] (h ∷ hs) w f = none
  entry_roomy (x ∷ shapes) (h ∷ hs) w f
      = more (roomy_buffer s roomy.sizes [] (buffer_or h) x w.0.tops w.0.shaped w.0.dims f.0 w.0.small)
      (entry_roomy shapes hs w.1 f.1)

  pub entry_good : PipesStand bodies homes → level 0 ≡ 0 → is_at 0 0
      → EntryFits s (homes 0).params (take (length (homes 0).params) (bodies 0).arrays) → (d : ℕ) (args : List Argument)
      → RowFits bodies homes (take (length (homes 0).params) (bodies 0).arrays) (entry_row args) → (bs : List ℕ)
      → Good s (entry_term bodies homes d args) at_root bs
  entry_good pipes first root fit d args fits bs =
      arm_good (term_of bodies homes d) (forms_good pipes d) [] (take (length (homes 0).params) (bodies 0).arrays) None false
      (entry_row args ∷ []) 0 (entry_row args) (entry_context (bodies 0) (homes 0)) at_root 0 false bs
      (entry_row args)
      (call_there s 0 [] tt tt 0 args) (λ i x e. tt) first (λ e. absurd (cc)) refl (omega arith) refl (heads_refl args)
      fits
      (record {
        ordinal = constant s [] 0;
        has = record {
          has = λ l nodes. const_has s (record { turns = []; level = l; nodes = nodes }) (pos 0) zero_fits;
        };
        way = way (begins s most bounds last is_at machine at_root 0 (record { level_is = refl; here = root }));
        here = root;
      })
      (record { views = entry_roomy (bodies 0).arrays (homes 0).params (roomy.whole 0) fit; numbers = []; path = none })
    where
      way : Way s at_root last 0 false true (Some (n.Const (pos 0)))
          → Way s at_root last 0 false true (Some (n.Const (pos 0)))
      way w = w

pub term_is_roomy : TermIsRoomy
term_is_roomy s most bounds last nodes level_of machine bodies homes level leveled tabled pipes roomy d k c env buffers
    h seen =
    forms_good s most bounds last (NodeAt nodes level_of) machine bodies homes level leveled tabled roomy pipes d k c
    env buffers h seen

pub entry_is_roomy : EntryIsRoomy
entry_is_roomy s most bounds last nodes level_of machine bodies homes level leveled tabled pipes roomy first root fit d
    args fits buffers =
    entry_good s most bounds last (NodeAt nodes level_of) machine bodies homes level leveled tabled roomy pipes first
    root fit d args fits buffers
