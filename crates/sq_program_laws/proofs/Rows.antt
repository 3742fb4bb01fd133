-- What is placed of tables fits, where the tables do.
use Rattle.std.proofs.Common.{◌≡◌, ℕ, zero, suc, ◌+◌, ◌<◌, ◌≤◌, Bool, true, false, ◌||◌, is_some, List, [], ◌∷◌}
use Rattle.std.proofs.Common.{◌++◌, map, get_or, refl, sym, ap, ◌∙◌, subst, arith}
use Rattle.std.specs.Prelude.{Option, Some, None, slice_get, if◌then◌else◌}
use Rattle.sq_text.specs.declared.place.Place.{Place}
use Rattle.sq_text.specs.declared.spread.SpreadRule.{SpreadRule}
use Rattle.sq_leaf.specs.declared.shape.Shape.{Shape}
use Rattle.sq_work.specs.declared.reduction.Reduction.{Reduction}
use Rattle.sq_spec.specs.declared.statement.LoopKind.{LoopKind}
use Rattle.sq_spec.specs.declared.statement.LoopKind.TheVariants as loop_kind
use Rattle.sq_spec.specs.declared.statement.CallInstance.{CallInstance}
use Rattle.sq_spec.specs.declared.statement.Statement.{Statement, roll-Statement}
use Rattle.sq_spec.specs.declared.statement.Statement.TheVariants as b
use Rattle.sq_spec.specs.declared.statement.Statement.TheOpen.{Statement-F}
use Rattle.sq_spec.specs.declared.statement.Statement.TheFolds.{ind-Statement, map-Statement, fold-roll-Statement}
use Rattle.sq_spec.specs.declared.body.Body.{Body}
use Rattle.sq_spec.specs.declared.body.Body.TheVariants as body
use Rattle.sq_spec.specs.declared.body.FormBody.{FormBody}
use Rattle.sq_placed.specs.declared.home.Home.{Home}
use Rattle.sq_placed.specs.declared.home.Home.TheVariants as home
use Rattle.sq_placed.specs.declared.home.Home.TheVariants.{InPlace}
use Rattle.sq_placed.specs.declared.home.Homes.{Homes}
use Rattle.sq_placed.specs.Placed.{Placed, PlacedArg, Nothing, Then}
use Rattle.sq_placed.specs.Placed.{Call}
use Rattle.sq_placed.specs.Tables.{placed_call, op_of, spread_of, map_placed, Chain, one_more, chain_of}
use Rattle.sq_placed.specs.Tables.{call_chain, first_of}
use Rattle.sq_placed.specs.Tables.{chains, map_held, PlacedPart}
use Rattle.sq_placed.specs.Tables.{any_lower, any_same, all_placed, row_placed, placed_step, statement_placed}
use Rattle.sq_placed.specs.Tables.{body_placed, placed_of}
use Rattle.sq_placed.specs.Tables.{pipe_of, pipe_placed}
use Rattle.sq_placed.specs.Tables.{Pipe, row_call, row_body, lanes_of, placed_rule, one_more}
use Rattle.sq_placed.specs.Pipes as pipes
use Rattle.sq_placed.specs.Pipes.{CallLoops, loop_round, call_loops_step, call_loops}
use Rattle.sq_plan_laws.specs.Keeping.{TakenKeeps}
use Rattle.sq_plan_laws.proofs.PlacedLists.{same_some}
use Rattle.sq_program_laws.specs.Piped.{MayOverlap, LoopOverlaps}
use Rattle.sq_program_laws.proofs.Overlapped.{as_call, free_pipe}
use Rattle.sq_placed.proofs.Pipes.{loops_call, loops_map, IsTaken, taken, chains_placed}
use Rattle.sq_placed.proofs.Opened.{part_call, part_map}
use Rattle.sq_cells.specs.Tree.{Cause}
use Rattle.sq_plan_laws.specs.OnBytes.{Codings, which_of}
use Rattle.sq_plan_laws.specs.Fitting.{IsOne, Fitting}
use Rattle.sq_plan_laws.specs.Keeping.{Keeping}
use Rattle.sq_plan_laws.specs.LeafLaws.{codes_of}
use Rattle.sq_ir.specs.Events.{Leaves}
use Rattle.sq_spec.specs.Statements.{over}
use Rattle.sq_spec_laws.specs.TableRows.{Table, red_of, all_tables, tables_step, tables_of, tables_in}
use Rattle.sq_spec_laws.specs.Ones.{Kind, all_ones, one_call, body_ones, kind_step, kind_of}
use Rattle.sq_spec_laws.specs.Filled.{all_below, all_filled, filled_step, filled}
use Rattle.sq_plan_laws.specs.Seated.{Sits}
use Rattle.sq_term_laws.specs.Orders.{EachOf, Round, all_rounds, map_rounds, round_step, rounds_in}
use Rattle.sq_term_laws.specs.Held.{IsHeldRow, AreHeldRows}
use Rattle.sq_program_laws.specs.Held as held
use Rattle.sq_program_laws.specs.Held.{Begun, begun_step, begun, LoopHolds}
use Rattle.sq_program_laws.specs.Rows.{operator_of, TableFits, ListFits, BodyFits, FormsFit}
use Rattle.sq_program_laws.specs.Rows.{IsFit, TablesFit}
use Rattle.sq_program_laws.proofs.Loops.{left_true, right_true, below_true, some_of, each_left, each_right}
use Rattle.sq_program_laws.proofs.Loops.{each_at, each_from, each_map, each_turn, begun_call, begun_map, Nest, a_call}
use Rattle.sq_program_laws.proofs.Loops.{a_loop, as_statement, nest_fold, nest_is, chain, chain_is, calls}
use Rattle.sq_program_laws.proofs.Loops.{nest_of, InRows, calls_there, nest_filled}
use Rattle.sq_program_laws.proofs.Loops.{LoopsHold, loops_hold}
use Rattle.sq_program_laws.proofs.Rounds.{tables_call, tables_map, rounds_call, rounds_map}
use Rattle.sq_program_laws.proofs.Facts.{first_true, reduced_flags, which_passed, flags_alike}
use Rattle.sq_program_laws.proofs.Carried.{Beyond, row_args, home_there}
use Rattle.sq_program_laws.proofs.Carried.{carries_none}
use Rattle.sq_program_laws.proofs.Taken.{is_pipe, chain_same}
use Rattle.sq_program_laws.proofs.Nested as nested
use Rattle.sq_program_laws.proofs.Nested.{lower_table}

-- ---- equations of folds

kind_call : (lower : Bool) (times : List CallInstance) → kind_of (b.Call lower times)
    ≡ kind_step (Statement-F.Call lower times)
kind_call lower times = ap kind_of (sym (b.rolls-Call lower times))
    ∙ fold-roll-Statement Kind kind_step (Statement-F.Call lower times)

kind_map : (p : Place) (m : LoopKind) (counts starts : List ℕ) (xs : List Statement)
    → kind_of (b.Map p m counts starts xs) ≡ kind_step (Statement-F.Map p m counts starts (map kind_of xs))
kind_map p m counts starts xs = ap kind_of (sym (b.rolls-Map p m counts starts xs))
    ∙ fold-roll-Statement Kind kind_step (Statement-F.Map p m counts starts xs)

full_call : (lower : Bool) (times : List CallInstance) → filled (b.Call lower times)
    ≡ filled_step (Statement-F.Call lower times)
full_call lower times = ap filled (sym (b.rolls-Call lower times))
    ∙ fold-roll-Statement (ℕ → Bool) filled_step (Statement-F.Call lower times)

full_map : (p : Place) (m : LoopKind) (counts starts : List ℕ) (xs : List Statement)
    → filled (b.Map p m counts starts xs) ≡ filled_step (Statement-F.Map p m counts starts (map filled xs))
full_map p m counts starts xs = ap filled (sym (b.rolls-Map p m counts starts xs))
    ∙ fold-roll-Statement (ℕ → Bool) filled_step (Statement-F.Map p m counts starts xs)

-- ---- tests over lists

or_false : (x : Bool) → (x || false) ≡ x
or_false true = refl
or_false false = refl

-- ---- a statement that is a call

abbrev CallShape : Statement → Type 0
CallShape x = (kind_of x).is_call ≡ true → (lower : Bool) × (times : List CallInstance) × (x ≡ b.Call lower times)

call_shape_step : (y : Statement-F ((x : Statement) × CallShape x))
    → CallShape (roll-Statement (map-Statement ((x : Statement) × CallShape x) Statement (λ p. p.0) y))
call_shape_step (Statement-F.Call lower times)
    = subst CallShape (sym (b.rolls-Call lower times)) (λ e. (lower, times, refl))
call_shape_step (Statement-F.Map place m counts starts xs)
    = subst CallShape (sym (b.rolls-Map place m counts starts (map (λ p. p.0) xs))) (λ e.
    let z : (kind_of (b.Map place m counts starts (map (λ p. p.0) xs))).is_call ≡ false
    = ap (λ (k : Kind). k.is_call) (kind_map place m counts starts (map (λ p. p.0) xs)) in
    let no : true ≡ false = sym e ∙ z in cc)

call_shape : (x : Statement) → CallShape x
call_shape = ind-Statement CallShape (λ x y is. subst (λ z. CallShape (roll-Statement z)) is (call_shape_step y))

module _ (leaves : Leaves Cause) (bodies : ℕ → FormBody) (homes : ℕ → Homes) (mays : ℕ → ℕ → Bool) where
  -- ---- statements

  module _ (callee : ℕ → Placed) (fit : (f : ℕ) → IsFit leaves bodies homes mays f (callee f)) (k : ℕ)
      (rule : SpreadRule) where
    abbrev ss : List Shape
    ss = (bodies k).arrays

    abbrev may : ℕ → Bool
    may = mays k

    abbrev part : Statement → PlacedPart
    part = statement_placed bodies homes callee rule

    abbrev codes : Codings
    codes = codes_of leaves

    -- outside of loops that arguments leave
    abbrev Good : Placed → Option Reduction → Type 0
    Good p red = nested.Good leaves bodies homes mays callee fit k rule p red false []

    -- what is asked of a statement that is begun for the j-th time in so many loops; of a call in them more is known
    record Asked (x : Statement) (red : Option Reduction) (n j : ℕ) : Type 0 where
      tables : EachOf (TableFits leaves bodies homes mays k) (tables_of x red)
      alone : is_some (begun x).chain ≡ true → n ≡ 0
      rounds : EachOf (AreHeldRows homes) (rounds_in x n)
      ones : (kind_of x).ones ≡ true
      full : filled x j ≡ true
      loops : EachOf (LoopHolds homes) ((begun x).loops j)
      pipes : EachOf (MayOverlap homes) (call_loops x).loops

    IsGood : Statement → Type 0
    IsGood x = (red : Option Reduction) (n j : ℕ) (inside : Bool) → Asked x red n j
        → Good ((part x).placed (operator_of red) inside j) red

    abbrev Known : Type 0
    Known = (x : Statement) × IsGood x

    abbrev begun_all : List Known → List Statement
    begun_all = map (λ q. q.0)

    -- ---- a call

    call_good : (lower : Bool) (times : List CallInstance) → IsGood (b.Call lower times)
    unfolding IsGood
    call_good lower times red n j inside h =
        let t : Table = record { red = red; lower = lower; times = times } in
        let table : TableFits leaves bodies homes mays k t
        = (subst (λ (g : Option Reduction → List Table). EachOf (TableFits leaves bodies homes mays k) (g red))
        (tables_call lower times) h.tables).0 in
        let held : EachOf (IsHeldRow homes (record { loops = if lower then n else 0; rows = times })) times
        = (subst (λ (g : ℕ → List Round). EachOf (AreHeldRows homes) (g n)) (rounds_call lower times) h.rounds).0 in
        let r = some_of (slice_get times j) (ap (λ (g : ℕ → Bool). g j) (sym (full_call lower times)) ∙ h.full) in
        let row = each_at (IsHeldRow homes (record { loops = if lower then n else 0; rows = times })) times j r.0 held
        r.1 in
        subst (λ (p : PlacedPart). Good (p.placed (operator_of red) inside j) red)
        (sym (part_call bodies homes callee rule lower times))
        (subst (λ o. Good (row_placed bodies homes callee (operator_of red) lower o) red) (sym r.1)
        (nested.free_good leaves bodies homes mays callee fit k rule t r.0 (table.rows j r.0 r.1)
        (λ i u m e. none lower (ap (λ (z : Begun). is_some z.chain) (begun_call lower times)) h.alone
        (row.some i u m e) (row.round i u m e))))
      where
        none : (low : Bool) → is_some (begun (b.Call lower times)).chain ≡ is_some (call_chain {X = ℕ} low times)
            → (is_some (begun (b.Call lower times)).chain ≡ true → n ≡ 0) → {m : ℕ} → 0 < m
            → m ≤ (if low then n else 0) → ⊥
        none true e alone some few = let zero_loops = alone e in omega (arith, some, few, zero_loops)
        none false e alone some few = omega (arith, some, few)

    -- ---- a call in loops

    nest_tables : (c : Nest) → nest_fold (Option Reduction → List Table) tables_step c None
        ≡ lower_table (chain c).instances ∷ []
    nest_tables (a_call rows) = refl
    nest_tables (a_loop place counts starts c) = ap (λ (l : List Table). l ++ []) (nest_tables c)

    nest_rounds : (c : Nest) (n : ℕ) → nest_fold (ℕ → List Round) round_step c n
        ≡ record { loops = n + (chain c).loops; rows = (chain c).instances } ∷ []
    nest_rounds (a_call rows) n = let z : n ≡ n + 0 = omega arith in
        ap (λ (m : ℕ). record { loops = m; rows = rows } ∷ []) z
    nest_rounds (a_loop place counts starts c) n =
        let z : suc n + (chain c).loops ≡ n + suc (chain c).loops = omega arith in
        nest_rounds c (suc n) ∙ ap (λ (m : ℕ). record { loops = m; rows = (chain c).instances } ∷ []) z

    nest_is_good : (c : Nest) → IsGood (as_statement c)
    unfolding IsGood
    nest_is_good (a_call rows) red n j inside h = call_good true rows red n j inside h
    nest_is_good (a_loop place counts starts c) red n j inside h =
        subst (λ (p : PlacedPart). Good (p.placed (operator_of red) inside j) red)
        (sym (nest_is PlacedPart (placed_step bodies homes callee rule) (a_loop place counts starts c)))
        (nested.loop_good leaves bodies homes mays callee fit k rule place counts starts c (chain whole).loops rows
        (nested.nest_good leaves bodies homes mays callee fit k rule c (chain whole).loops rows) inside j full hold
        pipes false [] refl (carries_none bodies homes (chain whole).loops (calls whole j) none) (operator_of red) red)
      where
        whole : Nest
        whole = a_loop place counts starts c

        outermost : n ≡ 0
        outermost = h.alone (ap (λ (z : Begun). is_some z.chain) (nest_is Begun begun_step (a_loop place counts starts c))
            ∙ ap is_some (chain_is (a_loop place counts starts c)))

        rows : nested.Rows leaves bodies homes mays callee fit k rule (suc (chain c).loops) (chain c).instances
        rows = record {
          table = (subst (EachOf (TableFits leaves bodies homes mays k))
              (ap (λ (g : Option Reduction → List Table). g red)
              (nest_is (Option Reduction → List Table) tables_step (a_loop place counts starts c))
              ∙ ap (λ (l : List Table). l ++ []) (nest_tables c)) h.tables).0;
          held = subst (λ (m : ℕ). EachOf (IsHeldRow homes (record { loops = m; rows = (chain c).instances }))
              (chain c).instances) (let z = outermost in omega (arith, z))
              (subst (EachOf (AreHeldRows homes))
              (ap (λ (g : ℕ → List Round). g n) (nest_is (ℕ → List Round) round_step (a_loop place counts starts c))
              ∙ nest_rounds (a_loop place counts starts c) n) h.rounds).0;
        }

        full : nest_filled (a_loop place counts starts c) j ≡ true
        full = ap (λ (g : ℕ → Bool). g j) (sym (nest_is (ℕ → Bool) filled_step (a_loop place counts starts c))) ∙ h.full

        pipes : nested.PipesOf leaves bodies homes mays callee fit k rule (a_loop place counts starts c)
        pipes = subst (λ (z : CallLoops). EachOf (MayOverlap homes) z.loops)
            (nest_is CallLoops call_loops_step (a_loop place counts starts c)) h.pipes

        hold : LoopsHold homes (a_loop place counts starts c) j
        hold = loops_hold homes (a_loop place counts starts c) j
            (subst (λ (z : Begun). EachOf (LoopHolds homes) (z.loops j))
            (nest_is Begun begun_step (a_loop place counts starts c)) h.loops)

        -- no argument leaves more loops than there are
        none : EachOf (λ r. (i : ℕ) (p : PlacedArg) → slice_get (row_args bodies homes r) i ≡ Some p
            → Beyond (suc (chain c).loops) p.home → ⊥) (calls (a_loop place counts starts c) j)
        none = each_map (InRows (chain c).instances) _ (calls (a_loop place counts starts c) j)
            (λ r at i p e x. by r at i p e p.home refl x) (calls_there (a_loop place counts starts c) j)
          where
            by : (r : CallInstance) → InRows (chain c).instances r → (i : ℕ) (p : PlacedArg)
                → slice_get (row_args bodies homes r) i ≡ Some p
                → (z : Home) → p.home ≡ z → Beyond (suc (chain c).loops) z → ⊥
            by r at i p e home.InPlace is x = x
            by r at i p e (home.Own u) is x = x
            by r at i p e (home.Held u m) is x =
                let row = each_at _ (chain c).instances at.0 r rows.held at.1 in
                let few = row.round i u m (home_there bodies homes r i p e ∙ is) in
                omega (arith, few, x)
            by r at i p e (home.Twin u v) is x = x

    -- ---- statements one after another

    abbrev AllAsked : List Statement → Option Reduction → (n j : ℕ) → Type 0
    AllAsked [] red n j = Unit {0}
    AllAsked (x ∷ xs) red n j = Asked x red n j × AllAsked xs red n j

    list_good : (xs : List Known) (red : Option Reduction) (inside : Bool) (n j : ℕ) → AllAsked (begun_all xs) red n j
        → Good (all_placed (map part (begun_all xs)) (operator_of red) inside j) red
    unfolding IsGood
    list_good [] red inside n j h = (tt, tt, tt, tt)
    list_good (x ∷ xs) red inside n j h =
        let first = x.1 red n j inside h.0 in
        let rest = list_good xs red inside n j h.1 in
        ((first.0, rest.0), (first.1, rest.1), (first.2, rest.2), (first.3, rest.3))

    -- with so many loops round each
    abbrev AllRounds : List Statement → ℕ → Type 0
    AllRounds [] n = Unit {0}
    AllRounds (x ∷ xs) n = (is_some (begun x).chain ≡ true → n ≡ 0) × EachOf (AreHeldRows homes) (rounds_in x n)
        × AllRounds xs n

    no_rounds : (xs : List Statement) → EachOf (AreHeldRows homes) (all_rounds (map rounds_in xs)) → AllRounds xs 0
    no_rounds [] h = tt
    no_rounds (x ∷ xs) h = (
      λ e. refl,
      each_left (AreHeldRows homes) (rounds_in x 0) (all_rounds (map rounds_in xs)) h,
      no_rounds xs (each_right (AreHeldRows homes) (rounds_in x 0) (all_rounds (map rounds_in xs)) h),
    )

    all_asked : (xs : List Statement) (red : Option Reduction) (n j : ℕ)
        → EachOf (TableFits leaves bodies homes mays k) (all_tables (map tables_of xs) red)
        → AllRounds xs n
        → all_ones (map kind_of xs) ≡ true → all_filled (map filled xs) j ≡ true
        → EachOf (LoopHolds homes) (held.all_loops (map begun xs) j)
        → EachOf (MayOverlap homes) (pipes.all_loops (map call_loops xs)) → AllAsked xs red n j
    all_asked [] red n j h r e f l ps = tt
    all_asked (x ∷ xs) red n j h r e f l ps = (
      record {
        tables = each_left _ (tables_of x red) (all_tables (map tables_of xs) red) h;
        alone = r.0;
        rounds = r.1;
        ones = left_true (kind_of x).ones (all_ones (map kind_of xs)) e;
        full = left_true (filled x j) (all_filled (map filled xs) j) f;
        loops = each_left _ ((begun x).loops j) (held.all_loops (map begun xs) j) l;
        pipes = each_left _ (call_loops x).loops (pipes.all_loops (map call_loops xs)) ps;
      },
      all_asked xs red n j (each_right _ (tables_of x red) (all_tables (map tables_of xs) red) h) r.2
          (right_true (kind_of x).ones (all_ones (map kind_of xs)) e)
          (right_true (filled x j) (all_filled (map filled xs) j) f)
          (each_right _ ((begun x).loops j) (held.all_loops (map begun xs) j) l)
          (each_right _ (call_loops x).loops (pipes.all_loops (map call_loops xs)) ps),
    )

    -- the one call of a `mapreduce`
    abbrev Sum : Reduction → List Statement → (inside : Bool) → (start : ℕ) → ℕ → Placed
    Sum r xs inside start t = all_placed (map part xs) (Some r.op) inside (start + t)

    one_good : (r : Reduction) (xs : List Statement) (inside : Bool) (start n : ℕ)
        → EachOf (TableFits leaves bodies homes mays k) (all_tables (map tables_of xs) (Some r))
        → one_call (map kind_of xs) ≡ true → AllRounds xs 0
        → ((t : ℕ) → t < n → all_filled (map filled xs) (start + t) ≡ true)
        → ((which : ℕ) × ((t : ℕ) → t < n → (one : IsOne (Sum r xs inside start t)) × (which_of one.called.args ≡ which)
        × Fitting codes (Sum r xs inside start t) (Some r) ss))
        × ((t : ℕ) → t < n → Keeping (Sum r xs inside start t) may)
        × ((lower : Bool) × ((t : ℕ) → t < n → (one : IsOne (Sum r xs inside start t)) × (one.called.lower ≡ lower)
        × Sits leaves (Sum r xs inside start t) ss))
    one_good r [] inside start n h e k f = cc
    one_good r (x ∷ y ∷ xs) inside start n h e k f = cc
    one_good r (x ∷ []) inside start n h e deep f =
        let c = call_shape x e in
        let tables : EachOf (TableFits leaves bodies homes mays k) (tables_of x (Some r))
        = each_left _ (tables_of x (Some r)) [] h in
        by c.0 c.1 c.2 (subst (λ (g : Option Reduction → List Table). EachOf (TableFits leaves bodies homes mays k)
        (g (Some r))) (ap tables_of c.2 ∙ tables_call c.0 c.1) tables).0
      where
        by : (lower : Bool) (times : List CallInstance) → x ≡ b.Call lower times
            → TableFits leaves bodies homes mays k (record { red = Some r; lower = lower; times = times })
            → ((which : ℕ) × ((t : ℕ) → t < n → (one : IsOne (Sum r (x ∷ []) inside start t))
            × (which_of one.called.args ≡ which) × Fitting codes (Sum r (x ∷ []) inside start t) (Some r) ss))
            × ((t : ℕ) → t < n → Keeping (Sum r (x ∷ []) inside start t) may)
            × ((lower : Bool) × ((t : ℕ) → t < n → (one : IsOne (Sum r (x ∷ []) inside start t))
            × (one.called.lower ≡ lower) × Sits leaves (Sum r (x ∷ []) inside start t) ss))
        by lower times is h = ((position (slice_get times (start + 0)), one), kept, (lower, sat))
          where
            position : Option CallInstance → ℕ
            position None = 0
            position (Some q) = first_true (reduced_flags q.args)

            rows_held : EachOf (IsHeldRow homes (record { loops = if lower then 0 else 0; rows = times })) times
            rows_held = (subst (λ (g : ℕ → List Round). EachOf (AreHeldRows homes) (g 0))
                (ap rounds_in is ∙ rounds_call lower times) deep.1).0

            few : (low : Bool) (m : ℕ) → 0 < m → m ≤ (if low then 0 else 0) → ⊥
            few true m a c = omega (arith, a, c)
            few false m a c = omega (arith, a, c)

            row : (t : ℕ) → t < n → (q : CallInstance) × (slice_get times (start + t) ≡ Some q)
            row t lt = some_of (slice_get times (start + t))
                (ap (λ (g : ℕ → Bool). g (start + t)) (sym (ap filled is ∙ full_call lower times))
                ∙ left_true (filled x (start + t)) true (f t lt))

            placed_is : (t : ℕ) (q : CallInstance) → slice_get times (start + t) ≡ Some q
                → Sum r (x ∷ []) inside start t
                ≡ Then (Call (placed_call bodies homes (Some r.op) lower q) (callee q.form)) Nothing
            placed_is t q e =
                ap (λ (p : PlacedPart). Then (p.placed (Some r.op) inside (start + t)) Nothing)
                (ap part is ∙ part_call bodies homes callee rule lower times)
                ∙ ap (λ o. Then (row_placed bodies homes callee (Some r.op) lower o) Nothing) e

            good : (t : ℕ) (q : CallInstance) → slice_get times (start + t) ≡ Some q
                → Good (Call (placed_call bodies homes (Some r.op) lower q) (callee q.form)) (Some r)
            good t q e =
                let row = each_at (IsHeldRow homes (record { loops = if lower then 0 else 0; rows = times })) times
                (start + t) q rows_held e in
                nested.free_good leaves bodies homes mays callee fit k rule
                (record { red = Some r; lower = lower; times = times }) q
                (h.rows (start + t) q e) (λ i u m g. few lower m (row.some i u m g) (row.round i u m g))

            which_is : (t : ℕ) (lt : t < n) (q : CallInstance) → slice_get times (start + t) ≡ Some q
                → which_of (placed_call bodies homes (Some r.op) lower q).args ≡ position (slice_get times (start + 0))
            which_is t lt q e =
                let z = row 0 (omega (arith, lt)) in
                which_passed r.op (bodies q.form).arrays (homes q.form).params 0 q.args
                ∙ (ap first_true (flags_alike q.args z.0.args (h.same (start + t) (start + 0) q z.0 e z.1))
                ∙ ap position (sym z.1))

            one : (t : ℕ) → t < n → (one : IsOne (Sum r (x ∷ []) inside start t))
                × (which_of one.called.args ≡ position (slice_get times (start + 0)))
                × Fitting codes (Sum r (x ∷ []) inside start t) (Some r) ss
            one t lt =
                let q = row t lt in (
                  record {
                    called = placed_call bodies homes (Some r.op) lower q.0;
                    body = callee q.0.form;
                    is
                        = placed_is t q.0 q.1;
                  },
                  which_is t lt q.0 q.1,
                  subst (λ p. Fitting codes p (Some r) ss) (sym (placed_is t q.0 q.1)) ((good t q.0 q.1).0, tt),
                )

            kept : (t : ℕ) → t < n → Keeping (Sum r (x ∷ []) inside start t) may
            kept t lt = let q = row t lt in subst (λ p. Keeping p may) (sym (placed_is t q.0 q.1))
                ((good t q.0 q.1).1, tt)

            sat : (t : ℕ) → t < n → (one : IsOne (Sum r (x ∷ []) inside start t)) × (one.called.lower ≡ lower)
                × Sits leaves (Sum r (x ∷ []) inside start t) ss
            sat t lt =
                let q = row t lt in (
                  record {
                    called = placed_call bodies homes (Some r.op) lower q.0;
                    body = callee q.0.form;
                    is
                        = placed_is t q.0 q.1;
                  },
                  refl,
                  subst (λ p. Sits leaves p ss) (sym (placed_is t q.0 q.1)) ((good t q.0 q.1).3, tt),
                )

    abbrev MapRounds : LoopKind → List Statement → (n : ℕ) → Type 0
    MapRounds loop_kind.Sequential xs n = AllRounds xs n
    MapRounds loop_kind.Parallel xs n = AllRounds xs n
    MapRounds (loop_kind.Reduction r) xs n = AllRounds xs 0

    -- a map that isn't a loop round a lower call alone
    map_good : (m : LoopKind) (place : Place) (spread : Option SpreadRule) (xs : List Known) (red : Option Reduction)
        (inside : Bool) (d start n : ℕ) → EachOf (TableFits leaves bodies homes mays k)
        (all_tables (map tables_of (begun_all xs)) (red_of m)) → body_ones m (map kind_of (begun_all xs)) ≡ true
        → MapRounds m (begun_all xs) d
        → ((t : ℕ) → t < n → all_filled (map filled (begun_all xs)) (start + t) ≡ true)
        → ((t : ℕ) → t < n → EachOf (LoopHolds homes) (held.all_loops (map begun (begun_all xs)) (start + t)))
        → EachOf (MayOverlap homes) (pipes.all_loops (map call_loops (begun_all xs)))
        → Good (map_placed m place spread n (λ t. all_placed (map part (begun_all xs)) (op_of m) inside (start + t))) red
    map_good loop_kind.Sequential place spread xs red inside d start n h e r f l ps = (
      λ t lt. (go t lt).0,
      λ t lt. (go t lt).1,
      λ t lt. (go t lt).2,
      λ t lt. (go t lt).3,
    )
      where
        go : (t : ℕ) → t < n → Good (all_placed (map part (begun_all xs)) None inside (start + t)) None
        go t lt = list_good xs None inside d (start + t)
            (all_asked (begun_all xs) None d (start + t) h r e (f t lt) (l t lt) ps)
    map_good loop_kind.Parallel place spread xs red inside d start n h e r f l ps = (
      λ t lt. let g = go t lt in (g.2, g.0),
      (tt, λ t lt. (go t lt).1),
      λ t lt. (go t lt).2,
      λ t lt. (go t lt).3,
    )
      where
        go : (t : ℕ) → t < n → Good (all_placed (map part (begun_all xs)) None inside (start + t)) None
        go t lt = list_good xs None inside d (start + t)
            (all_asked (begun_all xs) None d (start + t) h r e (f t lt) (l t lt) ps)
    map_good (loop_kind.Reduction q) place spread xs red inside d start n h e r f l ps =
        let g = one_good q (begun_all xs) inside start n h e r f in (g.0, (tt, g.1), tt, g.2)

    -- a map whose transfers overlap, which is no `mapseq`
    map_taken : (m : LoopKind) (place : Place) (spread : Option SpreadRule) (counts starts : List ℕ) (xs : List Known)
        (red : Option Reduction) (inside : Bool) (d j : ℕ) (p : Pipe)
        → pipe_of homes m spread (chains (map part (begun_all xs))) ≡ Some p
        → chain_of first_of m starts (chains (map part (begun_all xs))) ≡ None
        → EachOf (TableFits leaves bodies homes mays k) (all_tables (map tables_of (begun_all xs)) (red_of m))
        → body_ones m (map kind_of (begun_all xs)) ≡ true → MapRounds m (begun_all xs) d
        → ((t : ℕ) → t < get_or counts j 0 → all_filled (map filled (begun_all xs)) (get_or starts j 0 + t) ≡ true)
        → ((t : ℕ) → t < get_or counts j 0
        → EachOf (LoopHolds homes) (held.all_loops (map begun (begun_all xs)) (get_or starts j 0 + t)))
        → EachOf (MayOverlap homes) (pipes.all_loops (map call_loops (begun_all xs)))
        → EachOf (MayOverlap homes) (loop_round m counts starts (map call_loops (begun_all xs)))
        → (loop : Placed)
        → Good (pipe_placed bodies homes callee (Some p) place (get_or counts j 0) (get_or starts j 0) loop) red
    map_taken loop_kind.Sequential place spread counts starts xs red inside d j p is none h e r f l ps own loop =
        let t = is_pipe homes loop_kind.Sequential spread (chains (map part (begun_all xs))) p is in
        let all : one_more first_of starts (Some t.its.call) ≡ None
        = ap (one_more first_of starts) (sym t.its.there)
        ∙ (ap (chain_of first_of loop_kind.Sequential starts) (sym t.all) ∙ none) in absurd (cc all)
    map_taken (loop_kind.Reduction q) place spread counts starts xs red inside d j p is none h e r f l ps own loop =
        let t = is_pipe homes (loop_kind.Reduction q) spread (chains (map part (begun_all xs))) p is in
        absurd (let z = t.lanes in cc z)
    map_taken loop_kind.Parallel place spread counts starts xs red inside d j p is none h e r f l ps own loop =
        free_pipe leaves codes ss may bodies homes callee loop_kind.Parallel p.rows counts starts its j
        (placed_rule place p.spread) [] (keeps spread one.lanes) each red
      where
        one : IsTaken homes loop_kind.Parallel spread (begun_all xs) p
        one = taken homes loop_kind.Parallel spread (chains_placed bodies homes callee rule (begun_all xs)) p is

        its : LoopOverlaps homes (record { kind = loop_kind.Parallel; rows = p.rows; counts = counts; starts = starts })
        its = (subst (λ (z : CallLoops). EachOf (MayOverlap homes)
            (loop_round loop_kind.Parallel counts starts (z ∷ []))) (loops_call true p.rows)
            (subst (λ (ys : List Statement). EachOf (MayOverlap homes)
            (loop_round loop_kind.Parallel counts starts (map call_loops ys))) one.one own)).0 one.overlaps

        keeps : (z : Option SpreadRule) → lanes_of loop_kind.Parallel z ≡ Some p.spread
            → TakenKeeps (placed_rule place p.spread) (get_or counts j 0)
            (λ t. row_call bodies homes callee (slice_get p.rows (get_or starts j 0 + t)))
        keeps None z = cc
        keeps (Some u) z = subst (λ (v : Option SpreadRule). TakenKeeps (placed_rule place v) (get_or counts j 0)
            (λ t. row_call bodies homes callee (slice_get p.rows (get_or starts j 0 + t)))) (same_some z) tt

        placed_row : (t : ℕ) → t < get_or counts j 0
            → Good (row_placed bodies homes callee None true (slice_get p.rows (get_or starts j 0 + t))) None
        placed_row t lt =
            let g = subst (λ (ys : List Statement). Good
            (all_placed (map part ys) None inside (get_or starts j 0 + t)) None)
            one.one (list_good xs None inside d (get_or starts j 0 + t)
            (all_asked (begun_all xs) None d (get_or starts j 0 + t) h r e (f t lt) (l t lt) ps)) in
            subst (λ (z : PlacedPart). Good (z.placed None inside (get_or starts j 0 + t)) None)
            (part_call bodies homes callee rule true p.rows) (g.0.0, g.1.0, g.2.0, g.3.0)

        each : (t : ℕ) → t < get_or counts j 0
            → Good (Call (row_call bodies homes callee (slice_get p.rows (get_or starts j 0 + t)))
            (row_body bodies homes callee (slice_get p.rows (get_or starts j 0 + t)))) None
        each t lt =
            let q = its.stands.there j t lt in
            as_call leaves codes ss may bodies homes callee (slice_get p.rows (get_or starts j 0 + t)) q.0 q.1 false []
            (placed_row t lt)

    -- a loop that nothing leaves is the loop alone
    loop_is : (o : Option (Chain ℕ)) → o ≡ None → (j : ℕ) (inside : Bool) (loop : Bool → Placed)
        → map_held bodies homes callee o j inside loop ≡ loop inside
    loop_is o e j inside loop = ap (λ o. map_held bodies homes callee o j inside loop) e ∙ ap loop (or_false inside)

    -- ---- all statements

    part_rounds : (m : LoopKind) (starts : List ℕ) (xs : List Statement) (n : ℕ)
        → chain_of first_of m starts (held.chains (map begun xs)) ≡ None
        → EachOf (AreHeldRows homes) (map_rounds m (map rounds_in xs) n) → (d : ℕ) × MapRounds m xs d
    part_rounds loop_kind.Sequential starts [] n e h = (0, tt)
    part_rounds loop_kind.Sequential starts (x ∷ []) n e h = (suc n, (λ f. none (begun x).chain e f, h, tt))
      where
        none : (o : Option (Chain ℕ)) → one_more first_of starts o ≡ None → is_some o ≡ true → suc n ≡ 0
        none None g f = cc
        none (Some c) g f = cc
    part_rounds loop_kind.Sequential starts (x ∷ y ∷ xs) n e h = (0, no_rounds (x ∷ y ∷ xs) h)
    part_rounds loop_kind.Parallel starts xs n e h = (0, no_rounds xs h)
    part_rounds (loop_kind.Reduction r) starts xs n e h = (0, no_rounds xs h)

    by_pipe : (m : LoopKind) (place : Place) (hs : List (Option (Chain ℕ))) (spread : Option SpreadRule)
        (counts starts : List ℕ) (j : ℕ) (plain : Placed) (red : Option Reduction) → Good plain red
        → ((p : Pipe) → pipe_of homes m spread hs ≡ Some p
        → Good (pipe_placed bodies homes callee (Some p) place (get_or counts j 0) (get_or starts j 0) plain) red)
        → Good (pipe_placed bodies homes callee (pipe_of homes m spread hs) place (get_or counts j 0)
        (get_or starts j 0)
        plain) red
    by_pipe m place hs spread counts starts j plain red g taken = go (pipe_of homes m spread hs) refl
      where
        go : (o : Option Pipe) → pipe_of homes m spread hs ≡ o
            → Good (pipe_placed bodies homes callee o place (get_or counts j 0) (get_or starts j 0) plain) red
        go None e = g
        go (Some p) e = taken p e

    map_plain : (place : Place) (m : LoopKind) (counts starts : List ℕ) (xs : List Known)
        → (begun (b.Map place m counts starts (begun_all xs))).chain ≡ None
        → IsGood (b.Map place m counts starts (begun_all xs))
    unfolding IsGood
    map_plain place m counts starts xs none red n j inside h =
        let x = b.Map place m counts starts (begun_all xs) in
        let parts = map part (begun_all xs) in
        let spread = spread_of rule m inside (any_lower parts) (any_same parts) in
        let loop : Bool → Placed = λ within_it.
        let its = spread_of rule m within_it (any_lower parts) (any_same parts) in
        pipe_placed bodies homes callee (pipe_of homes m its (chains parts)) place (get_or counts j 0)
        (get_or starts j 0)
        (map_placed m place its (get_or counts j 0)
        (λ t. all_placed parts (op_of m) (within_it || is_some its) (get_or starts j 0 + t))) in
        let chain_none : chain_of first_of m starts (chains parts) ≡ None
        = sym (ap (λ (p : PlacedPart). p.chain) (part_map bodies homes callee rule place m counts starts (begun_all xs)))
        ∙ (chain_same bodies homes callee rule x ∙ none) in
        let own_none : chain_of first_of m starts (held.chains (map begun (begun_all xs))) ≡ None
        = sym (ap (λ (z : Begun). z.chain) (begun_map place m counts starts (begun_all xs))) ∙ none in
        let tables : EachOf (TableFits leaves bodies homes mays k) (all_tables (map tables_of (begun_all xs)) (red_of m))
        = subst (λ (g : Option Reduction → List Table). EachOf (TableFits leaves bodies homes mays k) (g red))
        (tables_map place m counts starts (begun_all xs)) h.tables in
        let deep = part_rounds m starts (begun_all xs) n own_none
        (subst (λ (g : ℕ → List Round). EachOf (AreHeldRows homes) (g n))
        (rounds_map place m counts starts (begun_all xs)) h.rounds) in
        let full : all_below (get_or counts j 0) (λ t. all_filled (map filled (begun_all xs)) (get_or starts j 0 + t))
        ≡ true = ap (λ (g : ℕ → Bool). g j) (sym (full_map place m counts starts (begun_all xs))) ∙ h.full in
        let begins = λ (t : ℕ). held.all_loops (map begun (begun_all xs)) (get_or starts j 0 + t) in
        let loops : EachOf (LoopHolds homes) (over 0 (get_or counts j 0) begins)
        = subst (λ o. EachOf (LoopHolds homes) (held.loop_list o (get_or counts j 0)
        (over 0 (get_or counts j 0) (λ t. held.all_calls (map begun (begun_all xs)) (get_or starts j 0 + t)))
        ++ over 0 (get_or counts j 0) begins)) own_none
        (subst (λ (z : Begun). EachOf (LoopHolds homes) (z.loops j)) (begun_map place m counts starts (begun_all xs))
        h.loops) in
        let overlap : EachOf (MayOverlap homes) (loop_round m counts starts (map call_loops (begun_all xs))
        ++ pipes.all_loops (map call_loops (begun_all xs)))
        = subst (λ (z : CallLoops). EachOf (MayOverlap homes) z.loops) (loops_map place m counts starts (begun_all xs))
        h.pipes in
        let own = each_left (MayOverlap homes) (loop_round m counts starts (map call_loops (begun_all xs)))
        (pipes.all_loops (map call_loops (begun_all xs))) overlap in
        let deeper = each_right (MayOverlap homes) (loop_round m counts starts (map call_loops (begun_all xs)))
        (pipes.all_loops (map call_loops (begun_all xs))) overlap in
        let ones = ap (λ (z : Kind). z.ones) (sym (kind_map place m counts starts (begun_all xs))) ∙ h.ones in
        let row_there : (t : ℕ) → t < get_or counts j 0
        → all_filled (map filled (begun_all xs)) (get_or starts j 0 + t) ≡ true
        = λ t lt. below_true (get_or counts j 0)
        (λ t. all_filled (map filled (begun_all xs)) (get_or starts j 0 + t)) t full lt in
        let held_there : (t : ℕ) → t < get_or counts j 0 → EachOf (LoopHolds homes) (begins t)
        = λ t lt. each_turn (LoopHolds homes) (get_or counts j 0) begins loops t lt in
        let iterations : ℕ → Placed
        = λ t. all_placed parts (op_of m) (inside || is_some spread) (get_or starts j 0 + t) in
        let plain = map_placed m place spread (get_or counts j 0) iterations in
        subst (λ (p : PlacedPart). Good (p.placed (operator_of red) inside j) red)
        (sym (part_map bodies homes callee rule place m counts starts (begun_all xs)))
        (subst (λ (p : Placed). Good p red)
        (sym (loop_is (chain_of first_of m starts (chains parts)) chain_none j inside loop))
        (by_pipe m place (chains parts) spread counts starts j plain red
        (map_good m place spread xs red (inside || is_some spread) deep.0 (get_or starts j 0) (get_or counts j 0) tables
        ones deep.1 row_there held_there deeper)
        (λ p e. map_taken m place spread counts starts xs red (inside || is_some spread) deep.0 j p e chain_none tables
        ones deep.1 row_there held_there deeper own plain)))

    -- a loop round a lower call alone, or another map
    any_map : (place : Place) (m : LoopKind) (counts starts : List ℕ) (xs : List Known) (o : Option (Chain ℕ))
        → (begun (b.Map place m counts starts (begun_all xs))).chain ≡ o
        → IsGood (b.Map place m counts starts (begun_all xs))
    any_map place m counts starts xs None e = map_plain place m counts starts xs e
    any_map place m counts starts xs (Some h) e =
        let c = nest_of (b.Map place m counts starts (begun_all xs)) h e in
        subst IsGood (sym c.1) (nest_is_good c.0)

    good_step : (y : Statement-F Known) → IsGood (roll-Statement (map-Statement Known Statement (λ p. p.0) y))
    good_step (Statement-F.Call lower times) = subst IsGood (sym (b.rolls-Call lower times)) (call_good lower times)
    good_step (Statement-F.Map place m counts starts xs) =
        subst IsGood (sym (b.rolls-Map place m counts starts (begun_all xs)))
        (any_map place m counts starts xs (begun (b.Map place m counts starts (begun_all xs))).chain refl)

    statement_good : (x : Statement) → IsGood x
    statement_good = ind-Statement IsGood (λ x y is. subst (λ z. IsGood (roll-Statement z)) is (good_step y))

    known : List Statement → List Known
    known [] = []
    known (x ∷ xs) = (x, statement_good x) ∷ known xs

    unknown : (list : List Statement) → begun_all (known list) ≡ list
    unfolding known
    unknown [] = refl
    unknown (x ∷ xs) = ap (λ (l : List Statement). x ∷ l) (unknown xs)

    statements_good : (list : List Statement) → ListFits leaves bodies homes mays k list
        → Good (all_placed (map part list) None false 0) None
    statements_good list h =
        subst (λ (l : List Statement). AllAsked l None 0 0 → Good (all_placed (map part l) None false 0) None)
        (unknown list) (λ a. list_good (known list) None false 0 0 a)
        (all_asked list None 0 0 (each_from _ (tables_in list None) h.tables) (no_rounds list h.rounds) h.ones h.full
        h.loops h.pipes)

  body_fit : (callee : ℕ → Placed) → ((f : ℕ) → IsFit leaves bodies homes mays f (callee f)) → (k : ℕ) (x : Body)
      → BodyFits leaves bodies homes mays k x
      → IsFit leaves bodies homes mays k (body_placed bodies homes callee (homes k) (bodies k).arrays x)
  body_fit callee fit k (body.Leaf leaf) f
      = record { fitting = (refl, f.coded); keeping = (tt, f.permitted); sits = f.sits }
  body_fit callee fit k (body.Inner list) f =
      let g = statements_good callee fit k (homes k).rule list f in record { fitting = g.0; keeping = g.1; sits = g.3 }

  placed_fit : FormsFit leaves bodies homes mays → (n k : ℕ)
      → IsFit leaves bodies homes mays k (placed_of bodies homes n k)
  placed_fit h zero k = record { fitting = tt; keeping = tt; sits = tt }
  placed_fit h (suc n) k = body_fit (placed_of bodies homes n) (λ f. placed_fit h n f) k (bodies k).body (h k)

pub tables_fit : TablesFit
tables_fit leaves bodies homes mays fit n k = placed_fit leaves bodies homes mays fit n k
