-- The greatest sum of a form's term, written out, is that of what its tables begin: its statements.
use Rattle.std.proofs.Common.{◌≡◌, ℕ, zero, suc, ◌+◌, ◌<◌, ◌≤◌, ◌⊎◌, inl, inr, max, pos, Bool, true, false}
use Rattle.std.proofs.Common.{◌==◌, ◌&&◌, ◌||◌, is_some, List, [], ◌∷◌, ◌++◌, map, get_or, slice_get, length}
use Rattle.std.proofs.Common.{Option, Some, None, refl, sym, ap, ap₂, subst, ◌∙◌, arith, if◌then◌else◌}
use Rattle.std.proofs.lemmas.Bool.{cases_lt}
use Rattle.std.proofs.lemmas.Bool.Decides.{nat_tests}
use Rattle.std.specs.Prelude.{nat_abs}
use Rattle.std.specs.List.{flat_map, range_with_len}
use Rattle.sq_num.specs.declared.RedOp.{RedOp}
use Rattle.sq_text.specs.declared.place.Place.{Place}
use Rattle.sq_text.specs.declared.spread.SpreadRule.{SpreadRule}
use Rattle.sq_text.specs.Spreading.{iterations_at}
use Rattle.sq_ir.specs.Written.{Setting, Env, value_of, at_turn, node_of}
use Rattle.sq_ir.specs.declared.num.Num.{Num}
use Rattle.sq_ir.specs.declared.num.Num.TheVariants as n
use Rattle.sq_ir.specs.declared.term.Term.{Term}
use Rattle.sq_ir.specs.declared.term.Term.TheVariants as term
use Rattle.sq_blocks.specs.declared.argument.Argument.{Argument}
use Rattle.sq_spec.specs.declared.statement.LoopKind.{LoopKind}
use Rattle.sq_spec.specs.declared.statement.LoopKind.TheVariants as loop_kind
use Rattle.sq_spec.specs.declared.statement.CallInstance.{CallInstance}
use Rattle.sq_spec.specs.declared.statement.Statement.{Statement, roll-Statement}
use Rattle.sq_spec.specs.declared.statement.Statement.TheVariants as b
use Rattle.sq_spec.specs.declared.statement.Statement.TheOpen.{Statement-F}
use Rattle.sq_spec.specs.declared.statement.Statement.TheFolds.{ind-Statement, map-Statement}
use Rattle.sq_spec.specs.declared.body.Body.{Body}
use Rattle.sq_spec.specs.declared.body.Body.TheVariants as body
use Rattle.sq_spec.specs.declared.body.FormBody.{FormBody}
use Rattle.sq_spec.specs.Spreads.{is_spread}
use Rattle.sq_spec_laws.specs.Needs.{Turn, turn_in}
use Rattle.sq_nests.specs.Nests.{ScopesAt, all_at, each_of, scopes_of}
use Rattle.sq_nests.specs.Stacks.{total}
use Rattle.sq_nests.proofs.Chains.{total_append}
use Rattle.sq_nests.proofs.Equations.{scopes_act, scopes_seq, scopes_loop, scopes_spread, scopes_skip}
use Rattle.sq_placed.specs.declared.home.Homes.{Homes}
use Rattle.sq_placed.specs.Tables.{Chain, op_of, spread_of, leaving_row, leaving_chain, chain_of, chain_form, row_form}
use Rattle.sq_placed.specs.Tables.{locals_of, one_more, call_chain, overlapped, overlapped_in, lanes_of, pipe_by}
use Rattle.sq_placed.proofs.Pipes.{one_call}
use Rattle.sq_placed.specs.Trees.{callee_node, local_buffers}
use Rattle.sq_term.specs.declared.context.Context.{Context}
use Rattle.sq_term.specs.Terms as terms
use Rattle.sq_term.specs.Terms.{in_map, hold_term, chain_times, chain_num, first_num, TermPart, all_terms, map_term}
use Rattle.sq_term.specs.Terms.{term_step, run_term, pipe_term, lanes_term, pipe_moves, pipe_work, twin_sets}
use Rattle.sq_term.specs.Terms.{come_term, leave_term, row_args, set_buffers_from, in_callee}
use Rattle.sq_term.specs.Terms.{count_num, loop_term, statement_term, body_term, term_of, buffers_from, leaving_buffers}
use Rattle.sq_term.proofs.Numbers.{count_is, counted, constant, const_is}
use Rattle.sq_term.proofs.Lanes.{lane_many, lane_length}
use Rattle.sq_term.proofs.Chained.{chains_built}
use Rattle.sq_term.proofs.Opened.{built_call, built_map}
use Rattle.sq_draft_laws.specs.TermLaws.Fits.{Bounds, AskedOfStatement, tabled_step, HaveCounts, all_parts, Tabled, TabledBody}
use Rattle.sq_draft_laws.specs.TermLaws.Leaves.{Left, left_of, HasTurns, RowLeaves, AskedInLoops, each_in, loops_in}
use Rattle.sq_draft_laws.specs.TermLaws.Leaves.{Leaves, BodyLeaves, joined_calls, by_call, TakeSame, AreSame, BodySame}
use Rattle.sq_draft_laws.proofs.TermLaws.Chains.{tabled_call, tabled_map, leaves_call, leaves_map, by_call_map}
use Rattle.sq_draft_laws.proofs.Standing.{map_length}
use Rattle.sq_draft_laws.proofs.Hoisting.{at_index}
use Rattle.sq_draft_laws.specs.Homes.Begun.{child_in}
use Rattle.sq_plan_good.specs.Sums.{greatest, here}
use Rattle.sq_plan_good.specs.Loops.{Starts, Once, StartsPart, any_lower, any_same, starts_in, once, in_lanes, map_starts}
use Rattle.sq_plan_good.specs.Loops.{doubled, doubled_in, starts_by, starts_of, standing_from, brought_by, both_sets}
use Rattle.sq_plan_good.specs.Loops.{lane_worth, starts_worth, stand_sum}
use Rattle.sq_plan_good.proofs.Terms.{greatest_both, here_both, starts_call, starts_map, Begins, turn_begins, GoesTo}
use Rattle.sq_plan_good.proofs.Terms.{goes_in_turn, of_scopes, of_term, each_more, each_same, nothing_here, hold_sum}
use Rattle.sq_plan_good.proofs.Terms.{entered, Quiet, callee_sum, AreSums, row_gives, rows_sum}
use Rattle.sq_plan_good.proofs.Held.{LeaveSome, over, some_over, over_next, over_none, over_sets, none_over}
use Rattle.sq_plan_good.proofs.Lanes.{none_or, come_quiet, leave_quiet, fill_quiet, lanes_sum, spread_sum}
use Rattle.sq_plan_good.proofs.Loops.{InLoops, call, loop, rows_by, IsLooped, chain_is, shape_of}

no_turns : (j : ℕ) → HasTurns (get_or [] j []) → ⊥
no_turns j h = let z = h.some in omega (arith, z)

none_first : (times : List CallInstance) (k : ℕ) (r : CallInstance) → slice_get times 0 ≡ None
    → slice_get times k ≡ Some r → ⊥
none_first [] k r e h = absurd (cc h)
none_first (q ∷ times) k r e h = absurd (cc e)

-- a loop that has a count each time has iterations
some_turns : (counts : List ℕ) (m k : ℕ) → HasTurns counts → HaveCounts counts m → k < m → 0 < get_or counts k 0
some_turns counts m k h (inl none) less =
    absurd (let z = h.some in let n = length counts in grind (arith, nat_tests, z, none))
some_turns counts m k h (inr many) less = let z = h.each k (omega (arith, less, many)) in omega (arith, z)

same_left : (xs ys : List (List CallInstance)) → AreSame (xs ++ ys) → AreSame xs
same_left [] ys h = tt
same_left (x ∷ xs) ys h = (h.0, same_left xs ys h.1)

same_right : (xs ys : List (List CallInstance)) → AreSame (xs ++ ys) → AreSame ys
same_right [] ys h = h
same_right (x ∷ xs) ys h = same_right xs ys h.1

none_more : (starts : List ℕ) (o : Option (Chain Num)) → one_more first_num starts o ≡ None → o ≡ None
none_more starts None h = refl
none_more starts (Some u) h = absurd (cc h)

none_some : {A : Type 0} (o : Option A) (a : A) → o ≡ None → o ≡ Some a → ⊥
none_some o a h e = absurd (cc (sym h ∙ e))

itself : (k : ℕ) → k ≡ max k 0
itself k = omega arith

-- an iteration of a spread map stands in one
turn_inside : (v : Bool) (rule : SpreadRule) (round : Option Turn) (m t : ℕ)
    → (is_some round || is_some (if v then Some rule else None)) ≡ is_some (turn_in v round m t)
turn_inside true rule None m t = refl
turn_inside true rule (Some u) m t = refl
turn_inside false rule None m t = refl
turn_inside false rule (Some u) m t = refl

module _ (s : Setting) (x : ℕ) (bodies : ℕ → FormBody) (homes : ℕ → Homes)
    (some : (f : ℕ) → LeaveSome (homes f).params)
    (made : ℕ → Context → Term) (inside : ℕ → ℕ → ℕ) (callees : AreSums s x bodies homes made inside)
    (rule : SpreadRule) (node : ℕ) (most : Bounds) (last level : ℕ) where
  abbrev left : Left
  left = left_of homes

  abbrev weigh : Starts → ℕ
  weigh = starts_worth s bodies homes x inside rule node

  abbrev stands : Statement → StartsPart
  stands = starts_by homes

  abbrev built : Statement → TermPart
  built = statement_term bodies homes made rule

  abbrev Asked : Statement → AskedOfStatement
  Asked = Tabled most last level

  abbrev gives : ℕ → Option CallInstance → ℕ
  gives = row_gives s x bodies homes made inside callees

  -- ---- a row, with its arguments that leave loops

  row_full : (r : CallInstance) (rest to : ℕ) → rest ≡ over s 0 (homes r.form).params 0 (length r.args)
      → here to x rest + gives to (Some r)
      ≡ here to x (total s.size (brought_by bodies homes false r.form r.args)) + inside r.form to
  row_full r rest to e =
      let ends = local_buffers (locals_of (bodies r.form) (homes r.form)) in
      let own = buffers_from (homes r.form).params 0 r.args in
      let p = total_append s.size own ends in
      let q = total_append s.size (standing_from false (homes r.form).params 0 r.args) ends in
      let z = over_none s (homes r.form).params (some r.form) 0 r.args in
      let w : rest + total s.size (own ++ ends) ≡ total s.size (brought_by bodies homes false r.form r.args)
      = omega (arith, p, q, z, e) in
      let u = ap (here to x) w in
      let v = here_both to x rest (total s.size (own ++ ends)) in
      omega (arith, u, v)

  -- ---- loops whose transfers overlap

  -- a statement's rows, if it is a lower call of a form that overlaps, by its term and by its table
  no_more : (m : LoopKind) (starts : List ℕ) (hs : List (Option (Chain Num)))
      → overlapped homes (chain_of first_num m starts hs) ≡ None
  no_more loop_kind.Sequential starts [] = refl
  no_more loop_kind.Sequential starts (None ∷ []) = refl
  no_more loop_kind.Sequential starts (Some h ∷ []) =
      let z : (suc h.loops == 0) ≡ false = grind (arith, nat_tests) in
      ap (λ (v : Bool). if v && (homes (row_form (slice_get h.instances 0))).overlaps then Some h.instances else None) z
  no_more loop_kind.Sequential starts (h ∷ g ∷ hs) = refl
  no_more loop_kind.Parallel starts hs = refl
  no_more (loop_kind.Reduction r) starts hs = refl

  abbrev Doubles : Statement → Type 0
  Doubles y = overlapped homes (built y).chain ≡ doubled homes (stands y).call

  doubles_step : (y : Statement-F ((z : Statement) × Doubles z))
      → Doubles (roll-Statement (map-Statement ((z : Statement) × Doubles z) Statement (λ p. p.0) y))
  doubles_step (Statement-F.Call lower times) = subst Doubles (sym (b.rolls-Call lower times))
      (ap (λ (p : TermPart). overlapped homes p.chain) (built_call bodies homes made rule lower times)
      ∙ by lower ∙ sym (ap (λ (p : StartsPart). doubled homes p.call) (starts_call homes lower times)))
    where
      by : (v : Bool) → overlapped {X = Num} homes (call_chain v times)
          ≡ doubled homes (if v then Some times else None)
      by true = refl
      by false = refl
  doubles_step (Statement-F.Map place m counts starts ys) =
      let list = map (λ (q : (z : Statement) × Doubles z). q.0) ys in
      subst Doubles (sym (b.rolls-Map place m counts starts list))
      (ap (λ (p : TermPart). overlapped homes p.chain) (built_map bodies homes made rule place m counts starts list)
      ∙ no_more m starts (terms.chains (map built list))
      ∙ sym (ap (λ (p : StartsPart). doubled homes p.call) (starts_map homes place m counts starts list)))

  doubles : (y : Statement) → Doubles y
  doubles = ind-Statement Doubles (λ y z is. subst (λ w. Doubles (roll-Statement w)) is (doubles_step z))

  all_doubles : (ys : List Statement)
      → overlapped_in homes (terms.chains (map built ys)) ≡ doubled_in homes (map stands ys)
  all_doubles [] = refl
  all_doubles (y ∷ []) = doubles y
  all_doubles (y ∷ z ∷ ys) = refl

  module _ (rows : List CallInstance) where
    abbrev come_by : (set : ℕ) → Context → Term
    come_by set c = come_term (pipe_moves bodies homes made rows set c)

    abbrev work_by : (set : ℕ) → Context → Term
    work_by = pipe_work bodies homes made rows

    abbrev leave_by : (set : ℕ) → Context → Term
    leave_by set c = leave_term (pipe_moves bodies homes made rows set c)

    come_by_quiet : (set : ℕ) (c : Context) → Quiet s x (come_by set c)
    come_by_quiet set c = come_quiet s x (pipe_moves bodies homes made rows set c)

    leave_by_quiet : (set : ℕ) (c : Context) → Quiet s x (leave_by set c)
    leave_by_quiet set c = leave_quiet s x (pipe_moves bodies homes made rows set c)

    abbrev form : ℕ
    form = row_form (slice_get rows 0)

    -- of an iteration, without what stands round the loop
    abbrev work_worth : ℕ → ℕ
    work_worth to = here to x (total s.size (local_buffers (locals_of (bodies form) (homes form)))) + inside form to

    work_sum : (set : ℕ) (c : Context) (env : Env) (to : ℕ) → node_of env ≡ to
        → of_term s x (work_by set c) env ≡ work_worth to
    work_sum set c env to at =
        let ms = pipe_moves bodies homes made rows set c in
        let ks = locals_of (bodies form) (homes form) in
        let y = made form (in_callee c ms ks) in
        let fills = fill_quiet s x ms env in
        let own = callee_sum s x ks y env
        ∙ ap₂ (λ (i j : ℕ). here i x (total s.size (local_buffers ks)) + j) at
        (callees form (in_callee c ms ks) env to (record {
          ordinal = constant s env.turns 0;
          child = n.Const (pos 0);
          child_is = refl;
          value = const_is s env (pos 0);
          node_is = at;
        })) in
        ap (λ (f : ScopesAt). of_scopes s x (f env)) (scopes_seq s _) ∙ omega (arith, fills, own)

    abbrev lanes_by : Option SpreadRule → Num → List ℕ → Context → Term
    lanes_by spread count starts c =
        lanes_term spread count starts (twin_sets bodies homes made rows) c come_by work_by leave_by

  -- ---- a lower call in loops

  -- where lower calls go, in this iteration of a spread map
  abbrev lower_node : Option Turn → ℕ
  lower_node round = callee_node s true node (child_in rule (s.children node) round)

  -- of a row, what leaves more than n loops
  abbrev rest : ℕ → Option CallInstance → ℕ
  rest n None = 0
  rest n (Some r) = over s n (homes r.form).params 0 (length r.args)

  -- with the two sets, all that a row brings round its loop
  sets_full : (o : Option CallInstance)
      → rest 0 o + total s.size (both_sets homes (row_form o) (row_args o))
      ≡ total s.size (standing_from true (homes (row_form o)).params 0 (row_args o))
  sets_full None = refl
  sets_full (Some r) =
      let hs = (homes r.form).params in
      let p = total_append s.size (set_buffers_from 0 hs 0 r.args) (set_buffers_from 1 hs 0 r.args) in
      let q = over_sets s hs (some r.form) 0 r.args in
      omega (arith, p, q)

  lane_full : (o : Option CallInstance) (to : ℕ)
      → here to x (rest 0 o)
      + (here to x (total s.size (both_sets homes (row_form o) (row_args o)))
      + (here to x (total s.size (local_buffers (locals_of (bodies (row_form o)) (homes (row_form o)))))
      + inside (row_form o) to))
      ≡ here to x (total s.size (brought_by bodies homes true (row_form o) (row_args o))) + inside (row_form o) to
  lane_full o to =
      let f = row_form o in
      let sets = total s.size (both_sets homes f (row_args o)) in
      let all = total s.size (standing_from true (homes f).params 0 (row_args o)) in
      let ends = local_buffers (locals_of (bodies f) (homes f)) in
      let p = here_both to x (rest 0 o) sets in
      let q = ap (here to x) (sets_full o) in
      let u = here_both to x all (total s.size ends) in
      let v = ap (here to x) (total_append s.size (standing_from true (homes f).params 0 (row_args o)) ends) in
      omega (arith, p, q, u, v)

  -- where the call's rows, in these loops, are so, and an iteration of a spread map is round it
  module _ (times : List CallInstance) (all : List (List ℕ))
      (rows : (k : ℕ) (r : CallInstance) → slice_get times k ≡ Some r → RowLeaves left all times r)
      (same : TakeSame times) (round : Option Turn) where
    abbrev to : ℕ
    to = lower_node round

    abbrev stays : ℕ → ℕ
    stays n = rest n (slice_get times 0)

    alike : (n k : ℕ) (r q : CallInstance) → slice_get times 0 ≡ Some r → slice_get times k ≡ Some q
        → q.form ≡ r.form → rest n (Some r) ≡ rest n (Some q)
    alike n k r q e h form =
        let long = ap length (same.same k r q e h) in
        let a = map_length (λ (y : Argument). y.array) r.args in
        let c = map_length (λ (y : Argument). y.array) q.args in
        let many : length r.args ≡ length q.args = sym a ∙ sym long ∙ c in
        ap₂ (λ (f m : ℕ). over s n (homes f).params 0 m) (sym form) many

    all_alike : (n k : ℕ) (r q : CallInstance) → slice_get times 0 ≡ Some r → slice_get times k ≡ Some q
        → rest n (Some r) ≡ rest n (Some q)
    all_alike n k r q e h =
        by (some_over s n (homes r.form).params 0 (length r.args))
        (some_over s n (homes q.form).params 0 (length q.args))
      where
        by : (rest n (Some r) ≡ 0) ⊎ ((j : ℕ) × (n < left r.form j))
            → (rest n (Some q) ≡ 0) ⊎ ((j : ℕ) × (n < left q.form j))
            → rest n (Some r) ≡ rest n (Some q)
        by (inr j) o = let l = j.1 in alike n k r q e h ((rows 0 r e).one j.0 (omega (arith, l)) k q h)
        by (inl z) (inr j) = let l = j.1 in alike n k r q e h (sym ((rows k q h).one j.0 (omega (arith, l)) 0 r e))
        by (inl z) (inl y) = z ∙ sym y

    first_alike : (n k : ℕ) (q : CallInstance) → slice_get times k ≡ Some q → stays n ≡ rest n (Some q)
    first_alike n k q h = by (slice_get times 0) refl
      where
        by : (o : Option CallInstance) → slice_get times 0 ≡ o → rest n o ≡ rest n (Some q)
        by None e = absurd (none_first times k q e h)
        by (Some r) e = all_alike n k r q e h

    -- of a row, what leaves just n loops
    abbrev leaving : ℕ → Option CallInstance → ℕ
    leaving n o = total s.size (leaving_buffers (homes (row_form o)).params (leaving_row homes n o))

    -- what leaves just one loop more stands round it
    next : (n : ℕ) → here to x (stays (suc n)) + here to x (leaving (suc n) (slice_get times 0)) ≡ here to x (stays n)
    next n = sym (here_both to x (stays (suc n)) (leaving (suc n) (slice_get times 0)))
        ∙ ap (here to x) (by (slice_get times 0))
      where
        by : (o : Option CallInstance) → rest (suc n) o + leaving (suc n) o ≡ rest n o
        by None = refl
        by (Some r) = over_next s n (homes r.form).params 0 r.args

    -- a loop that something leaves has iterations
    has_turns : (counts : List ℕ) (n m k : ℕ) → get_or all n [] ≡ counts → HaveCounts counts m → k < m
        → (here to x (stays n) ≡ 0) ⊎ (0 < get_or counts k 0)
    has_turns counts n m k at have less = by (slice_get times 0) refl
      where
        over_or : (r : CallInstance) → slice_get times 0 ≡ Some r
            → (rest n (Some r) ≡ 0) ⊎ ((j : ℕ) × (n < left r.form j))
            → (here to x (rest n (Some r)) ≡ 0) ⊎ (0 < get_or counts k 0)
        over_or r e (inl z) = inl (ap (here to x) z ∙ nothing_here s x to)
        over_or r e (inr j) = inr (some_turns counts m k (subst HasTurns at ((rows 0 r e).turns j.0 n j.1)) have less)

        by : (o : Option CallInstance) → slice_get times 0 ≡ o
            → (here to x (rest n o) ≡ 0) ⊎ (0 < get_or counts k 0)
        by None e = inl (nothing_here s x to)
        by (Some r) e = over_or r e (some_over s n (homes r.form).params 0 (length r.args))

    abbrev InLoopsSum : ℕ → Statement → Type 0
    InLoopsSum n y = (m : ℕ) → Asked y m → (op : Option RedOp) (v : Bool) (k : ℕ) (c : Context) (env : Env) → k < m
        → GoesTo s env to k c
        → here to x (stays n) + of_term s x ((built y).build op v c) env
        ≡ greatest weigh ((stands y).starts round k)

    call_sum : InLoopsSum 0 (b.Call true times)
    call_sum m asked op v k c env less g =
        let many = (subst (λ (f : AskedOfStatement). f m) (tabled_call most last level true times) asked).0 in
        let q = at_index times k (omega (arith, less, many)) in
        ap (λ (p : TermPart). here to x (stays 0) + of_term s x (p.build op v c) env)
        (built_call bodies homes made rule true times)
        ∙ ap (λ (z : ℕ). here to x (stays 0) + z)
        (rows_sum s x bodies homes made inside callees op true times k c env to g.ordinal g.node_is)
        ∙ ap (λ (o : Option CallInstance). here to x (stays 0) + gives to o) q.1
        ∙ row_full q.0 (stays 0) to (first_alike 0 k q.0 q.1)
        ∙ itself (weigh (Once (record { row = q.0; lower = true; turn = round })))
        ∙ sym (ap (λ (o : Option CallInstance). greatest weigh (once true round o)) q.1)
        ∙ sym (ap (λ (p : StartsPart). greatest weigh (p.starts round k)) (starts_call homes true times))

    -- what leaves just this loop
    gap : (place : Place) (counts starts : List ℕ) (n : ℕ) (y : Statement) → get_or all n [] ≡ counts
        → InLoops times all n y → (o : Option (Chain Num))
        → o ≡ (built (b.Map place loop_kind.Sequential counts starts (y ∷ []))).chain
        → here to x (stays (suc n))
        + here to x (total s.size (leaving_buffers (homes (chain_form o)).params (leaving_chain homes o)))
        ≡ here to x (stays n)
    gap place counts starts n y at is o e =
        let u = chain_is left bodies homes made rule (loop place counts starts at is) in
        ap (λ (h : Option (Chain Num)). here to x (stays (suc n))
        + here to x (total s.size (leaving_buffers (homes (chain_form h)).params (leaving_chain homes h)))) (e ∙ u.is)
        ∙ ap₂ (λ (l : ℕ) (qs : List CallInstance). here to x (stays (suc n))
        + here to x (leaving l (slice_get qs 0))) u.loops u.rows
        ∙ next n

    -- one loop more, with what leaves just this one standing round it
    module _ (place : Place) (counts starts : List ℕ) (n : ℕ) (y : Statement) (at : get_or all n [] ≡ counts)
        (is : InLoops times all n y) (ih : InLoopsSum n y) (free : doubled homes (stands y).call ≡ None) where
      abbrev it : Statement
      it = b.Map place loop_kind.Sequential counts starts (y ∷ [])

      turns_sum : (inner : ℕ) → Asked y inner → (m k : ℕ) → HaveCounts counts m → k < m
          → ((t : ℕ) → t < get_or counts k 0 → get_or starts k 0 + t < inner)
          → (v : Bool) (c : Context) (env : Env) → GoesTo s env to k c
          → here to x (stays n) + of_term s x (loop_term rule loop_kind.Sequential counts starts (built y ∷ []) v c) env
          ≡ greatest weigh (flat_map (λ t. starts_in (stands y ∷ []) round (get_or starts k 0 + t))
          (range_with_len 0 (get_or counts k 0)))
      turns_sum inner asked m k have less below v c env g =
          ap (λ (f : ScopesAt). here to x (stays n) + of_scopes s x (f env)) (scopes_loop s (count_num counts c) part)
          ∙ ap (λ z. here to x (stays n)
          + of_scopes s x (each_of (nat_abs z) (λ t. scopes_of s part (at_turn env t)) 0))
          (count_is s env counts c k (g.ordinal.value env.level env.nodes))
          ∙ each_more s x weigh (here to x (stays n)) (get_or counts k 0) (λ t. scopes_of s part (at_turn env t))
          (λ t. starts_in (stands y ∷ []) round (get_or starts k 0 + t)) 0 (has_turns counts n m k at have less)
          (λ t low high. one t (omega (arith, high)))
        where
          deeper : Context
          deeper = in_map None (count_num counts c) starts c

          part : Term
          part = term.Seq ((built y).build None (v || false) deeper ∷ [])

          one : (t : ℕ) → t < get_or counts k 0
              → here to x (stays n) + of_scopes s x (scopes_of s part (at_turn env t))
              ≡ greatest weigh (starts_in (stands y ∷ []) round (get_or starts k 0 + t))
          one t l =
              let calls = (stands y).starts round (get_or starts k 0 + t) in
              ap (λ (f : ScopesAt). here to x (stays n) + of_scopes s x (f (at_turn env t)))
              (scopes_seq s ((built y).build None (v || false) deeper ∷ []))
              ∙ ap (λ (z : ℕ). here to x (stays n) + z)
              (sym (itself (of_term s x ((built y).build None (v || false) deeper) (at_turn env t))))
              ∙ ih inner asked None (v || false) (get_or starts k 0 + t) deeper (at_turn env t) (below t l)
              (goes_in_turn s env to k c (count_num counts c) starts t g)
              ∙ itself (greatest weigh calls) ∙ sym (greatest_both weigh calls [])

      loop_more : InLoopsSum (suc n) it
      loop_more m asked op v k c env less g =
          let a = subst (λ (f : AskedOfStatement). f m)
          (tabled_map most last level place loop_kind.Sequential counts starts (y ∷ [])) asked in
          let o = chain_of first_num loop_kind.Sequential starts (terms.chains (built y ∷ [])) in
          ap (λ (p : TermPart). here to x (stays (suc n)) + of_term s x (p.build op v c) env)
          (built_map bodies homes made rule place loop_kind.Sequential counts starts (y ∷ []))
          ∙ hold_sum s x (bodies (chain_form o)).arrays (homes (chain_form o)).params (chain_times o)
          (chain_num o c.ordinal) (leaving_chain homes o) v c env to k (here to x (stays n))
          (here to x (stays (suc n))) _
          (run_term bodies homes made rule loop_kind.Sequential counts starts (built y ∷ [])) g
          (gap place counts starts n y at is o (sym (ap (λ (p : TermPart). p.chain)
          (built_map bodies homes made rule place loop_kind.Sequential counts starts (y ∷ [])))))
          (λ w d e h.
          ap (λ (u : Option (List CallInstance)). here to x (stays n)
          + of_term s x (pipe_term bodies homes made (pipe_by (Some None) u) counts starts d
          (loop_term rule loop_kind.Sequential counts starts (built y ∷ []) w d)) e) (doubles y ∙ free)
          ∙ turns_sum a.2 a.5.0 m k a.0 less (λ t l. a.4 k t less l) w d e h)
          ∙ sym (ap (λ (p : StartsPart). greatest weigh (p.starts round k))
          (starts_map homes place loop_kind.Sequential counts starts (y ∷ []))
          ∙ ap (λ (u : Option (List CallInstance)). greatest weigh (map_starts u false (get_or counts k 0)
          (get_or starts k 0) round (stands y ∷ []))) free)

    -- a loop that overlaps its transfers, of the call
    module _ (place : Place) (counts starts : List ℕ) (at : get_or all 0 [] ≡ counts)
        (overlaps : (homes (row_form (slice_get times 0))).overlaps ≡ true) where
      abbrev its : Statement
      its = b.Call true times

      abbrev round_it : Statement
      round_it = b.Map place loop_kind.Sequential counts starts (its ∷ [])

      twice : doubled homes (Some times) ≡ Some times
      twice = ap (λ (v : Bool). if v then Some times else None) overlaps

      pipe_is : doubled homes (stands its).call ≡ Some times
      pipe_is = ap (λ (p : StartsPart). doubled homes p.call) (starts_call homes true times) ∙ twice

      in_turn : (m k : ℕ) → HaveCounts counts m → k < m → (d : Context) (env : Env) → GoesTo s env to k d
          → here to x (stays 0) + of_term s x (lanes_by times None (count_num counts d) starts d) env
          ≡ lane_worth s bodies homes x inside (slice_get times 0) to (get_or counts k 0)
      in_turn m k have less d env g =
          ap (λ (z : ℕ). here to x (stays 0) + z)
          (lanes_sum s x (come_by times) (work_by times) (leave_by times) (come_by_quiet times) (leave_by_quiet times)
          (work_worth times) (work_sum times) starts (twin_sets bodies homes made times) (count_num counts d) d env to
          (get_or counts k 0) g.node_is (counted s env.turns counts d k g.ordinal))
          ∙ by (get_or counts k 0) (has_turns counts 0 m k at have less)
        where
          by : (many : ℕ) → (here to x (stays 0) ≡ 0) ⊎ (0 < many)
              → here to x (stays 0)
              + (here to x (total s.size (twin_sets bodies homes made times)) + none_or many (work_worth times to))
              ≡ lane_worth s bodies homes x inside (slice_get times 0) to many
          by zero (inl e) = omega (arith, e)
          by zero (inr l) = absurd (omega (arith, l))
          by (suc i) e = lane_full (slice_get times 0) to

      loop_taken : InLoopsSum 1 round_it
      loop_taken m asked op v k c env less g =
          let a = subst (λ (f : AskedOfStatement). f m)
          (tabled_map most last level place loop_kind.Sequential counts starts (its ∷ [])) asked in
          let o = chain_of first_num loop_kind.Sequential starts (terms.chains (built its ∷ [])) in
          let row = slice_get times 0 in
          ap (λ (p : TermPart). here to x (stays 1) + of_term s x (p.build op v c) env)
          (built_map bodies homes made rule place loop_kind.Sequential counts starts (its ∷ []))
          ∙ hold_sum s x (bodies (chain_form o)).arrays (homes (chain_form o)).params (chain_times o)
          (chain_num o c.ordinal) (leaving_chain homes o) v c env to k (here to x (stays 0))
          (here to x (stays 1)) _
          (run_term bodies homes made rule loop_kind.Sequential counts starts (built its ∷ [])) g
          (gap place counts starts 0 its at call o (sym (ap (λ (p : TermPart). p.chain)
          (built_map bodies homes made rule place loop_kind.Sequential counts starts (its ∷ [])))))
          (λ w d e h.
          ap (λ (u : Option (List CallInstance)). here to x (stays 0)
          + of_term s x (pipe_term bodies homes made (pipe_by (Some None) u) counts starts d
          (loop_term rule loop_kind.Sequential counts starts (built its ∷ []) w d)) e) (doubles its ∙ pipe_is)
          ∙ in_turn m k a.0 less d e h)
          ∙ itself (lane_worth s bodies homes x inside row to (get_or counts k 0))
          ∙ sym (ap (λ (p : StartsPart). greatest weigh (p.starts round k))
          (starts_map homes place loop_kind.Sequential counts starts (its ∷ []))
          ∙ ap (λ (u : Option (List CallInstance)). greatest weigh (map_starts u false (get_or counts k 0)
          (get_or starts k 0) round (stands its ∷ []))) pipe_is)

    in_loops : {n : ℕ} {y : Statement} → InLoops times all n y → InLoopsSum n y
    in_loops call = call_sum
    in_loops (loop place counts starts at call) = by (homes (row_form (slice_get times 0))).overlaps refl
      where
        by : (v : Bool) → (homes (row_form (slice_get times 0))).overlaps ≡ v
            → InLoopsSum 1 (b.Map place loop_kind.Sequential counts starts (b.Call true times ∷ []))
        by true e = loop_taken place counts starts at e
        by false e = loop_more place counts starts 0 (b.Call true times) at call call_sum
            (ap (λ (p : StartsPart). doubled homes p.call) (starts_call homes true times)
            ∙ ap (λ (v : Bool). if v then Some times else None) e)
    in_loops (loop place counts starts at (loop inner more begun {n = n} {y = y} within is)) =
        loop_more place counts starts (suc n) (b.Map inner loop_kind.Sequential more begun (y ∷ [])) at
        (loop inner more begun within is) (in_loops (loop inner more begun within is))
        (ap (λ (p : StartsPart). doubled homes p.call)
        (starts_map homes inner loop_kind.Sequential more begun (y ∷ [])))

  -- ---- statements

  -- what is asked of a statement that is begun so many times, round which stand plain loops with these counts
  pub record IsAsked (y : Statement) (outer : List (List ℕ)) (m : ℕ) : Type 0 where
    pub leaves : Leaves left y outer
    pub plain : ((built y).chain ≡ None) ⊎ (outer ≡ [])
    pub same : AreSame (by_call y)
    pub tabled : Asked y m

  abbrev IsSum : Statement → Type 0
  IsSum y = (outer : List (List ℕ)) (m : ℕ) → IsAsked y outer m → (op : Option RedOp) (round : Option Turn) (k : ℕ)
      (c : Context) (env : Env) → k < m → Begins s env rule node round k c
      → of_term s x ((built y).build op (is_some round) c) env ≡ greatest weigh ((stands y).starts round k)

  -- a lower call in the loops that are all that stands round it in its form
  looped_sum : (y : Statement) → ((outer : List (List ℕ)) → IsLooped left y outer) → IsSum y
  looped_sum y f outer m asked op round k c env less h =
      let u = f [] in
      let leaves : Leaves left y [] = by asked.plain in
      let rows = u.rows leaves in
      let same = (subst AreSame (rows_by u.is) asked.same).0 in
      let sum = in_loops u.times u.all rows same round u.is m asked.tabled op (is_some round) k c env less
      (record { ordinal = h.ordinal; node_is = entered s x env rule node round k c true h }) in
      let z = ap (here (lower_node round) x) (none u rows (slice_get u.times 0) refl) in
      let e = nothing_here s x (lower_node round) in
      omega (arith, sum, z, e)
    where
      by : ((built y).chain ≡ None) ⊎ (outer ≡ []) → Leaves left y []
      by (inl e) = absurd (none_some (built y).chain _ e (chain_is left bodies homes made rule (f []).is).is)
      by (inr e) = subst (Leaves left y) e asked.leaves

      most_left : (u : IsLooped left y []) → ((k : ℕ) (r : CallInstance) → slice_get u.times k ≡ Some r
          → RowLeaves left u.all u.times r) → (r : CallInstance) → slice_get u.times 0 ≡ Some r → (j : ℕ)
          → left r.form j ≤ u.loops
      most_left u rows r e j = or (cases_lt u.loops (left r.form j))
        where
          or : (u.loops < left r.form j) ⊎ (left r.form j ≤ u.loops) → left r.form j ≤ u.loops
          or (inl l) =
              let n = u.loops in
              let z : n ≡ n + 0 = omega arith in
              let past : get_or u.all n [] ≡ get_or [] 0 [] = ap (λ (i : ℕ). get_or u.all i []) z ∙ u.behind 0 in
              absurd (no_turns 0 (subst HasTurns past ((rows 0 r e).turns j n l)))
          or (inr l) = l

      none : (u : IsLooped left y []) → ((k : ℕ) (r : CallInstance) → slice_get u.times k ≡ Some r
          → RowLeaves left u.all u.times r) → (o : Option CallInstance) → slice_get u.times 0 ≡ o
          → rest u.loops o ≡ 0
      none u rows None e = refl
      none u rows (Some r) e = none_over s u.loops (homes r.form).params (most_left u rows r e) (length r.args)

  none_left : {times : List CallInstance} {r : CallInstance} → RowLeaves left [] times r → (j : ℕ) → left r.form j ≤ 0
  none_left {r = r} its j = or (cases_lt 0 (left r.form j))
    where
      or : (0 < left r.form j) ⊎ (left r.form j ≤ 0) → left r.form j ≤ 0
      or (inl l) = absurd (no_turns 0 (its.turns j 0 l))
      or (inr l) = l

  greatest_same : (f g : ℕ → ℕ) (m t : ℕ) → ((i : ℕ) → t ≤ i → i < t + m → f i ≡ g i)
      → greatest f (range_with_len t m) ≡ greatest g (range_with_len t m)
  greatest_same f g zero t h = refl
  greatest_same f g (suc m) t h = ap₂ max (h t (omega arith) (omega arith))
      (greatest_same f g m (t + 1) (λ i l u. h i (omega (arith, l)) (omega (arith, u))))

  -- a call at the same level, which nothing leaves
  same_sum : (times : List CallInstance) → IsSum (b.Call false times)
  same_sum times outer m asked op round k c env less h =
      let rows = subst (λ (f : AskedInLoops). f outer) (leaves_call left false times) asked.leaves in
      let many = (subst (λ (f : AskedOfStatement). f m) (tabled_call most last level false times) asked.tabled).0 in
      let q = at_index times k (omega (arith, less, many)) in
      let stays = none_over s 0 (homes q.0.form).params (λ j. none_left (rows k q.0 q.1) j) (length q.0.args) in
      let full = row_full q.0 0 node (sym stays) in
      let z = nothing_here s x node in
      ap (λ (p : TermPart). of_term s x (p.build op (is_some round) c) env)
      (built_call bodies homes made rule false times)
      ∙ rows_sum s x bodies homes made inside callees op false times k c env node h.ordinal h.node_is
      ∙ ap (gives node) q.1
      ∙ (let w : gives node (Some q.0) ≡ weigh (Once (record { row = q.0; lower = false; turn = round }))
      = omega (arith, full, z) in w)
      ∙ itself (weigh (Once (record { row = q.0; lower = false; turn = round })))
      ∙ sym (ap (λ (o : Option CallInstance). greatest weigh (once false round o)) q.1)
      ∙ sym (ap (λ (p : StartsPart). greatest weigh (p.starts round k)) (starts_call homes false times))

  record Agrees (y : Statement) : Type 0 where
    lower : (built y).lower ≡ (stands y).lower
    same : (built y).same ≡ (stands y).same
    sums : IsSum y

  abbrev Known : Type 0
  Known = (y : Statement) × Agrees y

  abbrev list_of : List Known → List Statement
  list_of = map (λ q. q.0)

  lowers : (ys : List Known) → terms.any_lower (map built (list_of ys)) ≡ any_lower (map stands (list_of ys))
  lowers [] = refl
  lowers (y ∷ ys) = ap₂ (λ u v. u || v) y.1.lower (lowers ys)

  sames : (ys : List Known) → terms.any_same (map built (list_of ys)) ≡ any_same (map stands (list_of ys))
  sames [] = refl
  sames (y ∷ ys) = ap₂ (λ u v. u || v) y.1.same (sames ys)

  abbrev AllPlain : List Statement → List (List ℕ) → Type 0
  AllPlain [] outer = Unit {0}
  AllPlain (y ∷ ys) outer = (((built y).chain ≡ None) ⊎ (outer ≡ [])) × AllPlain ys outer

  -- the same of statements beside one another
  pub record AreAsked (ys : List Statement) (outer : List (List ℕ)) (m : ℕ) : Type 0 where
    pub leaves : each_in (Leaves left) ys outer
    pub plain : AllPlain ys outer
    pub same : AreSame (joined_calls (map by_call ys))
    pub tabled : all_parts Asked ys m

  all_sums : (ys : List Known) (outer : List (List ℕ)) (m : ℕ) → AreAsked (list_of ys) outer m → (op : Option RedOp)
      (round : Option Turn) (k : ℕ) (c : Context) (env : Env) → k < m → Begins s env rule node round k c
      → of_scopes s x (all_at (map (scopes_of s) (all_terms (map built (list_of ys)) op (is_some round) c)) env)
      ≡ greatest weigh (starts_in (map stands (list_of ys)) round k)
  all_sums [] outer m asked op round k c env less h = refl
  all_sums (y ∷ ys) outer m asked op round k c env less h =
      let first : IsAsked y.0 outer m = record {
        leaves = asked.leaves.0;
        plain = asked.plain.0;
        same = same_left (by_call y.0) (joined_calls (map by_call (list_of ys))) asked.same;
        tabled = asked.tabled.0;
      } in
      let others : AreAsked (list_of ys) outer m = record {
        leaves = asked.leaves.1;
        plain = asked.plain.1;
        same = same_right (by_call y.0) (joined_calls (map by_call (list_of ys))) asked.same;
        tabled = asked.tabled.1;
      } in
      ap₂ max (y.1.sums outer m first op round k c env less h) (all_sums ys outer m others op round k c env less h)
      ∙ sym (greatest_both weigh ((stands y.0).starts round k)
      (starts_in (map stands (list_of ys)) round k))

  seq_sums : (ys : List Known) (outer : List (List ℕ)) (m : ℕ) → AreAsked (list_of ys) outer m → (op : Option RedOp)
      (round : Option Turn) (k : ℕ) (c : Context) (env : Env) → k < m → Begins s env rule node round k c
      → of_term s x (term.Seq (all_terms (map built (list_of ys)) op (is_some round) c)) env
      ≡ greatest weigh (starts_in (map stands (list_of ys)) round k)
  seq_sums ys outer m asked op round k c env less h =
      ap (λ (f : ScopesAt). of_scopes s x (f env)) (scopes_seq s _) ∙ all_sums ys outer m asked op round k c env less h

  -- a loop, spread or not
  map_sum : (v : Bool) (count : Num) (m : ℕ) (y : Term) (env : Env) (g : ℕ → List Starts)
      → value_of s count env ≡ pos m
      → ((t : ℕ) → t < m → of_term s x y (at_turn env t) ≡ greatest weigh (g t))
      → of_term s x (map_term (if v then Some rule else None) count y) env
      ≡ greatest weigh (flat_map g (range_with_len 0 m))
  map_sum false count m y env g counted h =
      ap (λ (f : ScopesAt). of_scopes s x (f env)) (scopes_loop s count y)
      ∙ ap (λ z. of_scopes s x (each_of (nat_abs z) (λ t. scopes_of s y (at_turn env t)) 0)) counted
      ∙ each_same s x weigh m (λ t. scopes_of s y (at_turn env t)) g 0 (λ t low high. h t (omega (arith, high)))
  map_sum true count m y env g counted h =
      ap (λ (f : ScopesAt). of_scopes s x (f env)) (scopes_spread s count rule y)
      ∙ ap (λ z. of_scopes s x (each_of (nat_abs z) (λ t. scopes_of s y (at_turn env t)) 0)) counted
      ∙ each_same s x weigh m (λ t. scopes_of s y (at_turn env t)) g 0 (λ t low high. h t (omega (arith, high)))

  loop_sum : (m : LoopKind) (counts starts : List ℕ) (ys : List Known) (outer : List (List ℕ)) (inner : ℕ)
      → AreAsked (list_of ys) outer inner → (round : Option Turn) (k : ℕ) (c : Context) (env : Env)
      → ((t : ℕ) → t < get_or counts k 0 → get_or starts k 0 + t < inner)
      → Begins s env rule node round k c → (lower same : Bool)
      → of_term s x (map_term (spread_of rule m (is_some round) lower same) (count_num counts c)
      (term.Seq (all_terms (map built (list_of ys)) (op_of m)
      (is_some round || is_some (spread_of rule m (is_some round) lower same))
      (in_map (spread_of rule m (is_some round) lower same) (count_num counts c) starts c)))) env
      ≡ greatest weigh (flat_map (λ t. starts_in (map stands (list_of ys))
      (turn_in (is_spread m (is_some round) lower same) round (get_or counts k 0) t) (get_or starts k 0 + t))
      (range_with_len 0 (get_or counts k 0)))
  loop_sum m counts starts ys outer inner asked round k c env below h lower same =
      map_sum v count many _ env _ counted (λ t l.
      ap (λ (w : Bool). of_term s x (term.Seq (all_terms (map built (list_of ys)) (op_of m) w
      (in_map (if v then Some rule else None) count starts c))) (at_turn env t)) (turn_inside v rule round many t)
      ∙ seq_sums ys outer inner asked (op_of m) (turn_in v round many t) (get_or starts k 0 + t)
      (in_map (if v then Some rule else None) count starts c) (at_turn env t) (below t l)
      (turn_begins s env rule node round k c count many counted starts t v h))
    where
      v : Bool
      v = is_spread m (is_some round) lower same

      many : ℕ
      many = get_or counts k 0

      count : Num
      count = count_num counts c

      counted : value_of s count env ≡ pos many
      counted = count_is s env counts c k (h.ordinal.value env.level env.nodes)

  no_loops_plain : (ys : List Statement) → AllPlain ys []
  no_loops_plain [] = tt
  no_loops_plain (y ∷ ys) = (inr refl, no_loops_plain ys)

  -- in a map that no argument leaves
  parts_plain : (m : LoopKind) (counts starts : List ℕ) (ys : List Statement) (outer : List (List ℕ))
      → chain_of first_num m starts (terms.chains (map built ys)) ≡ None → AllPlain ys (loops_in m ys counts outer)
  parts_plain loop_kind.Sequential counts starts [] outer e = tt
  parts_plain loop_kind.Sequential counts starts (y ∷ []) outer e = (inl (none_more starts (built y).chain e), tt)
  parts_plain loop_kind.Sequential counts starts (y ∷ z ∷ ys) outer e = no_loops_plain (y ∷ z ∷ ys)
  parts_plain loop_kind.Parallel counts starts ys outer e = no_loops_plain ys
  parts_plain (loop_kind.Reduction r) counts starts ys outer e = no_loops_plain ys

  -- a map that no argument leaves, by whether its transfers overlap
  plain_sum : (place : Place) (m : LoopKind) (counts starts : List ℕ) (ys : List Known)
      → (built (b.Map place m counts starts (list_of ys))).chain ≡ None
      → IsSum (b.Map place m counts starts (list_of ys))
  plain_sum place m counts starts ys e outer n asked op round k c env less h =
      ap (λ (p : TermPart). of_term s x (p.build op (is_some round) c) env) is
      ∙ ap (λ (u : Option (Chain Num)). of_term s x (hold_term (bodies (chain_form u)).arrays
      (homes (chain_form u)).params (chain_times u) (chain_num u c.ordinal) (leaving_chain homes u) (is_some round) c
      (run_term bodies homes made rule m counts starts parts)) env) none
      ∙ ap₂ (λ (u w : Bool). of_term s x (pipe_term bodies homes made
      (pipe_by (lanes_of m (spread_of rule m (is_some round) u w)) (overlapped_in homes (terms.chains parts))) counts
      starts c (map_term (spread_of rule m (is_some round) u w) (count_num counts c)
      (term.Seq (all_terms parts (op_of m) (is_some round || is_some (spread_of rule m (is_some round) u w))
      (in_map (spread_of rule m (is_some round) u w) (count_num counts c) starts c))))) env)
      (lowers ys) (sames ys)
      ∙ by m v (overlapped_in homes (terms.chains parts)) refl refl
      (loop_sum m counts starts ys (loops_in m (list_of ys) counts outer) a.2 inside_it round k c env
      (λ t l. a.4 k t less l) h (any_lower (map stands (list_of ys))) (any_same (map stands (list_of ys))))
      ∙ ap (λ (u : Option (List CallInstance)). greatest weigh (map_starts (in_lanes m v u) v many start round
      (map stands (list_of ys)))) (all_doubles (list_of ys))
      ∙ sym (ap (λ (p : StartsPart). greatest weigh (p.starts round k))
      (starts_map homes place m counts starts (list_of ys)))
    where
      parts : List TermPart
      parts = map built (list_of ys)

      many : ℕ
      many = get_or counts k 0

      start : ℕ
      start = get_or starts k 0

      v : Bool
      v = is_spread m (is_some round) (any_lower (map stands (list_of ys))) (any_same (map stands (list_of ys)))

      is : built (b.Map place m counts starts (list_of ys))
          ≡ term_step bodies homes made rule (Statement-F.Map place m counts starts parts)
      is = built_map bodies homes made rule place m counts starts (list_of ys)

      none : chain_of first_num m starts (terms.chains parts) ≡ None
      none = sym (ap (λ (p : TermPart). p.chain) is) ∙ e

      a : tabled_step most last level Statement (λ y. y) Asked (Statement-F.Map place m counts starts (list_of ys)) n
      a = subst (λ (f : AskedOfStatement). f n) (tabled_map most last level place m counts starts (list_of ys))
          asked.tabled

      leave : each_in (Leaves left) (list_of ys) (loops_in m (list_of ys) counts outer)
      leave = subst (λ (f : AskedInLoops). f outer) (leaves_map left place m counts starts (list_of ys)) asked.leaves

      inside_it : AreAsked (list_of ys) (loops_in m (list_of ys) counts outer) a.2
      inside_it = record {
        leaves = leave;
        plain = parts_plain m counts starts (list_of ys) outer none;
        same = subst AreSame (by_call_map place m counts starts (list_of ys)) asked.same;
        tabled = a.5;
      }

      loop_at : LoopKind → Bool → Term
      loop_at kind w = map_term (if w then Some rule else None) (count_num counts c)
          (term.Seq (all_terms parts (op_of kind) (is_some round || is_some (if w then Some rule else None))
          (in_map (if w then Some rule else None) (count_num counts c) starts c)))

      all_of : Bool → List Starts
      all_of w = flat_map (λ t. starts_in (map stands (list_of ys)) (turn_in w round many t) (start + t))
          (range_with_len 0 many)

      by : (kind : LoopKind) (w : Bool) (u : Option (List CallInstance)) → kind ≡ m
          → overlapped_in homes (terms.chains parts) ≡ u
          → of_term s x (loop_at kind w) env ≡ greatest weigh (all_of w)
          → of_term s x (pipe_term bodies homes made (pipe_by (lanes_of kind (if w then Some rule else None)) u) counts
          starts c (loop_at kind w)) env
          ≡ greatest weigh (map_starts (in_lanes kind w u) w many start round (map stands (list_of ys)))
      by loop_kind.Sequential w None q f g = g
      by loop_kind.Sequential w (Some rows) q f g = absurd (in_no_loop (one_call homes
          (chains_built bodies homes made rule (list_of ys)) rows f).one)
        where
          in_no_loop : list_of ys ≡ b.Call true rows ∷ [] → ⊥
          in_no_loop o =
              let z = ap (λ (xs : List Statement). chain_of first_num loop_kind.Sequential starts
              (terms.chains (map built xs))) o in
              let y = ap (λ (p : TermPart). one_more first_num starts p.chain)
              (built_call bodies homes made rule true rows) in
              let t = ap (λ (kd : LoopKind). chain_of first_num kd starts (terms.chains parts)) q in
              none_some _ _ none (sym t ∙ z ∙ y)
      by loop_kind.Parallel false u q f g = g
      by loop_kind.Parallel true None q f g = g
      by loop_kind.Parallel true (Some rows) q f g =
          spread_sum s x (come_by rows) (work_by rows) (leave_by rows) (come_by_quiet rows) (leave_by_quiet rows)
          (work_worth rows) (work_sum rows) starts (twin_sets bodies homes made rows) rule (count_num counts c) c env
          node many h.node_is (counted s env.turns counts c k h.ordinal)
          ∙ greatest_same _ _ (s.children node) 0 (λ d l u. at_child d (omega (arith, u)))
          ∙ itself _
        where
          alone : list_of ys ≡ b.Call true rows ∷ []
          alone = (one_call homes (chains_built bodies homes made rule (list_of ys)) rows f).one

          its_rows : (i : ℕ) (r : CallInstance) → slice_get rows i ≡ Some r → RowLeaves left [] rows r
          its_rows = subst (λ (g : AskedInLoops). g []) (leaves_call left true rows)
              (subst (λ (xs : List Statement). each_in (Leaves left) xs []) alone
              (subst (λ (kd : LoopKind). each_in (Leaves left) (list_of ys) (loops_in kd (list_of ys) counts outer))
              (sym q) leave)).0

          nothing : (o : Option CallInstance) → slice_get rows 0 ≡ o → rest 0 o ≡ 0
          nothing None z = refl
          nothing (Some r) z = none_over s 0 (homes r.form).params (λ j. none_left (its_rows 0 r z) j) (length r.args)

          at_child : (d : ℕ) → d < s.children node
              → here (s.child node d) x (total s.size (twin_sets bodies homes made rows))
              + none_or (lane_many rule many (s.children node) d) (work_worth rows (s.child node d))
              ≡ lane_worth s bodies homes x inside (slice_get rows 0) (s.child node d)
              (length (iterations_at rule many (s.children node) d))
          at_child d l =
              ap (λ (i : ℕ). here (s.child node d) x (total s.size (twin_sets bodies homes made rows))
              + none_or i (work_worth rows (s.child node d))) (sym (lane_length rule many (s.children node) d l))
              ∙ go (length (iterations_at rule many (s.children node) d))
            where
              go : (i : ℕ) → here (s.child node d) x (total s.size (twin_sets bodies homes made rows))
                  + none_or i (work_worth rows (s.child node d))
                  ≡ lane_worth s bodies homes x inside (slice_get rows 0) (s.child node d) i
              go zero = omega arith
              go (suc i) =
                  let z = ap (here (s.child node d) x) (nothing (slice_get rows 0) refl) in
                  let t = nothing_here s x (s.child node d) in
                  let all = lane_full (slice_get rows 0) (s.child node d) in
                  omega (arith, z, t, all)
      by (loop_kind.Reduction r) w u q f g = g

  call_sums : (lower : Bool) (times : List CallInstance) → IsSum (b.Call lower times)
  call_sums false times = same_sum times
  call_sums true times = looped_sum (b.Call true times) (λ outer. record {
    times = times;
    all = outer;
    loops = 0;
    is = call;
    behind = λ j. let z : 0 + j ≡ j = omega arith in ap (λ (i : ℕ). get_or outer i []) z;
    rows = λ l. subst (λ (f : AskedInLoops). f outer) (leaves_call left true times) l;
  })

  agrees_call : (lower : Bool) (times : List CallInstance) → Agrees (b.Call lower times)
  agrees_call lower times = record {
    lower = ap (λ (p : TermPart). p.lower) (built_call bodies homes made rule lower times)
        ∙ sym (ap (λ (p : StartsPart). p.lower) (starts_call homes lower times));
    same = ap (λ (p : TermPart). p.same) (built_call bodies homes made rule lower times)
        ∙ sym (ap (λ (p : StartsPart). p.same) (starts_call homes lower times));
    sums = call_sums lower times;
  }

  agrees_map : (place : Place) (m : LoopKind) (counts starts : List ℕ) (ys : List Known)
      → Agrees (b.Map place m counts starts (list_of ys))
  agrees_map place m counts starts ys = record {
    lower = ap (λ (p : TermPart). p.lower) (built_map bodies homes made rule place m counts starts (list_of ys))
        ∙ lowers ys ∙ sym (ap (λ (p : StartsPart). p.lower) (starts_map homes place m counts starts (list_of ys)));
    same = ap (λ (p : TermPart). p.same) (built_map bodies homes made rule place m counts starts (list_of ys))
        ∙ sames ys ∙ sym (ap (λ (p : StartsPart). p.same) (starts_map homes place m counts starts (list_of ys)));
    sums = by (shape_of left bodies homes made rule (b.Map place m counts starts (list_of ys)));
  }
    where
      by : ((built (b.Map place m counts starts (list_of ys))).chain ≡ None)
          ⊎ ((outer : List (List ℕ)) → IsLooped left (b.Map place m counts starts (list_of ys)) outer)
          → IsSum (b.Map place m counts starts (list_of ys))
      by (inl e) = plain_sum place m counts starts ys e
      by (inr f) = looped_sum (b.Map place m counts starts (list_of ys)) f

  agrees_step : (y : Statement-F Known) → Agrees (roll-Statement (map-Statement Known Statement (λ p. p.0) y))
  agrees_step (Statement-F.Call lower times)
      = subst Agrees (sym (b.rolls-Call lower times)) (agrees_call lower times)
  agrees_step (Statement-F.Map place m counts starts ys)
      = subst Agrees (sym (b.rolls-Map place m counts starts (list_of ys))) (agrees_map place m counts starts ys)

  agrees : (y : Statement) → Agrees y
  agrees = ind-Statement Agrees (λ y z is. subst (λ w. Agrees (roll-Statement w)) is (agrees_step z))

  abbrev known : List Statement → List Known
  known [] = []
  known (y ∷ ys) = (y, agrees y) ∷ known ys

  known_are : (ys : List Statement) → list_of (known ys) ≡ ys
  known_are [] = refl
  known_are (y ∷ ys) = ap (λ zs. y ∷ zs) (known_are ys)

  body_sum : (h : Homes) → h.rule ≡ rule → (d : Body) → BodyLeaves left d → BodySame d → TabledBody most last level d
      → (c : Context) (env : Env) → Begins s env rule node None 0 c
      → of_term s x (body_term bodies homes made h d c) env ≡ greatest weigh (starts_of homes d)
  body_sum h is (body.Leaf code) leaves same tabled c env g =
      ap (λ (f : ScopesAt). of_scopes s x (f env)) (scopes_act s _)
  body_sum h is (body.Inner list) leaves same tabled c env g =
      ap (λ (q : SpreadRule). of_term s x
      (term.Seq (all_terms (map (statement_term bodies homes made q) list) None false c)) env) is
      ∙ subst (λ (ys : List Statement). AreAsked ys [] 1
      → of_term s x (term.Seq (all_terms (map built ys) None false c)) env
      ≡ greatest weigh (starts_in (map stands ys) None 0)) (known_are list)
      (λ asked. seq_sums (known list) [] 1 asked None None 0 c env (omega arith) g)
      (record { leaves = leaves; plain = no_loops_plain list; same = same; tabled = tabled })

-- What is asked of the tables and homes of forms: what leaves a loop leaves plain loops that have iterations; the rows
-- of a call take the same arrays; and each statement has a row for each time that it is begun.
pub record AreLaid (bodies : ℕ → FormBody) (homes : ℕ → Homes) (most : Bounds) (last : ℕ) (level : ℕ → ℕ) : Type 0 where
  pub some : (k : ℕ) → LeaveSome (homes k).params
  pub leaves : (k : ℕ) → BodyLeaves (left_of homes) (bodies k).body
  pub same : (k : ℕ) → BodySame (bodies k).body
  pub tabled : (k : ℕ) → TabledBody most last (level k) (bodies k).body

pub forms_sum : (s : Setting) (x : ℕ) (bodies : ℕ → FormBody) (homes : ℕ → Homes) (most : Bounds) (last : ℕ)
    (level : ℕ → ℕ) → AreLaid bodies homes most last level → (d : ℕ)
    → AreSums s x bodies homes (term_of bodies homes d) (stand_sum s bodies homes x d)
forms_sum s x bodies homes most last level laid zero f c env node h =
    ap (λ (g : ScopesAt). of_scopes s x (g env)) (scopes_skip s)
forms_sum s x bodies homes most last level laid (suc d) f c env node h =
    body_sum s x bodies homes laid.some (term_of bodies homes d) (stand_sum s bodies homes x d)
    (forms_sum s x bodies homes most last level laid d) (homes f).rule node most last (level f) (homes f) refl
    (bodies f).body (laid.leaves f) (laid.same f) (laid.tabled f) c env h
