-- The arrays of each call of a form have buffers of their own, and so have the arguments that leave its loops; what is
-- opened in a form is of forms behind it.
use Rattle.std.proofs.Common.{◌≡◌, ◌⊎◌, inl, inr, ℕ, zero, suc, ◌+◌, ◌<◌, ◌≤◌, Bool, true, false, ◌||◌, is_some, List}
use Rattle.std.proofs.Common.{[], ◌∷◌, ◌++◌, map, slice_get, get_or, Option, Some, None, refl, sym, ap, subst, ◌∙◌}
use Rattle.std.proofs.Common.{arith}
use Rattle.std.specs.List.{Contains}
use Rattle.sq_num.specs.declared.RedOp.{RedOp}
use Rattle.sq_text.specs.declared.place.Place.{Place}
use Rattle.sq_text.specs.declared.spread.SpreadRule.{SpreadRule}
use Rattle.sq_leaf.specs.declared.shape.Shape.{Shape}
use Rattle.sq_blocks.specs.declared.argument.Argument.{Argument}
use Rattle.sq_ir.specs.Written.{Setting}
use Rattle.sq_ir.specs.declared.plan.PlanNode.{PlanNode}
use Rattle.sq_spec.specs.declared.statement.LoopKind.{LoopKind}
use Rattle.sq_spec.specs.declared.statement.LoopKind.TheVariants as loop_kind
use Rattle.sq_spec.specs.declared.statement.CallInstance.{CallInstance}
use Rattle.sq_spec.specs.declared.statement.Statement.{Statement, roll-Statement}
use Rattle.sq_spec.specs.declared.statement.Statement.TheVariants as b
use Rattle.sq_spec.specs.declared.statement.Statement.TheOpen.{Statement-F}
use Rattle.sq_spec.specs.declared.statement.Statement.TheFolds.{ind-Statement, map-Statement}
use Rattle.sq_spec.specs.declared.body.Body.{Body}
use Rattle.sq_spec.specs.declared.body.Body.TheVariants as body
use Rattle.sq_spec.specs.declared.body.FormBody.{FormBody}
use Rattle.sq_spec.specs.declared.resolved.Resolved.{Resolved}
use Rattle.sq_placed.specs.declared.home.Home.{Home}
use Rattle.sq_placed.specs.declared.home.Home.TheVariants.{InPlace, Own, Held, Twin}
use Rattle.sq_placed.specs.declared.home.Homes.{Homes}
use Rattle.sq_placed.specs.Placed.{Placed, PlacedArg, PlacedCall, Nothing, Then, Each, Piped}
use Rattle.sq_placed.specs.Trees.{held_of, held_buffers}
use Rattle.sq_placed.specs.Tables.{Chain, one_more, chain_of, call_chain, first_of, leaving_row, leaving_chain, holds}
use Rattle.sq_placed.specs.Tables.{held_arg, row_form, chain_form, chain_row, hold_placed, map_placed, op_of, spread_of}
use Rattle.sq_placed.specs.Tables.{PlacedPart, chains, any_lower, any_same, all_placed, row_placed, placed_call}
use Rattle.sq_placed.specs.Tables.{placed_step, no_call, row_call, row_body, pipe_placed, placed_rule, Pipe, pipe_of, overlapped}
use Rattle.sq_placed.specs.Tables.{statement_placed, body_placed, placed_of}
use Rattle.sq_placed.proofs.Opened.{part_call, part_map}
use Rattle.sq_placed.proofs.Pipes.{taken, chains_placed}
use Rattle.sq_program_laws.proofs.PlanLaws.PlacedLists.{same_some}
use Rattle.sq_cells.proofs.Access.{end_or_below}
use Rattle.sq_term.specs.Terms.{body_in, homes_in}
use Rattle.sq_program_laws.specs.TermLaws.Leaves.{loops_left}
use Rattle.sq_program_laws.specs.TermLaws.Orders.{EachOf, Round, all_rounds, map_rounds, round_step, rounds_in, rounds_of}
use Rattle.sq_program_laws.specs.TermLaws.Held.{IsHeldRow, AreHeldRows}
use Rattle.sq_program_laws.proofs.TermLaws.Piped.{pipe_is, pipe_spread}
use Rattle.sq_program_laws.specs.PlanLaws.Buffers.{HoldsBuffer, OpensInSet, Opens, HoldOwns, PipeOwns, held_round, OwnIn}
use Rattle.sq_program_laws.proofs.PlanLaws.Live.{opens_has}
use Rattle.sq_program_laws.proofs.PlanLaws.Openings.{contains_left, contains_right}
use Rattle.sq_program_laws.proofs.Shapes.{at_mapped}
use Rattle.sq_program_laws.proofs.Carried.{held_leaves, left_there}
use Rattle.sq_homes.specs.Chosen.declared.choice.Choice.{Choice}
use Rattle.sq_homes.specs.Chosen.Forms.{bodies_of, choice_in}
use Rattle.sq_homes.specs.Drafts.{homes_of}
use Rattle.sq_draft_laws.specs.Choosing.{Walked, MayBeChosen, setting_of}
use Rattle.sq_draft_laws.proofs.Hoisting.{at_index, overlaps_are, chosen_stand}
use Rattle.sq_draft_laws.proofs.HeldInside.{homes_are_held_inside}
use Rattle.sq_draft_laws.proofs.Callers.{RowIs, rows_are}
use Rattle.sq_draft_laws.proofs.Rounds.{each_of, one_of, each_left, each_right, rounds_so, rounds_call, rounds_map}
use Rattle.sq_draft_laws.proofs.Arrays.{held_less}
use Rattle.sq_draft_laws.proofs.PlainCalls.{IsOver, PlainIn, body_plain}
use Rattle.sq_draft_laws.proofs.Owned.{of_form, IsCalled, is_called, held_form, held_once, its_form, set_form, not_held, not_held_in}
use Rattle.sq_draft_laws.proofs.Owned.{opens_in, call_owns, pipe_owns}
use Rattle.sq_draft_laws.proofs.Owned.{leaving, brought, left_has, hold_owns}

-- ---- lists

first_there : {A : Type 0} (xs : List A) (j : ℕ) (x : A) → slice_get xs j ≡ Some x → (y : A) × (slice_get xs 0 ≡ Some y)
first_there [] j x e = absurd (cc e)
first_there (y ∷ xs) j x e = (y, refl)

held_there : (ps : List PlacedArg) (i : ℕ) (p : PlacedArg) (n l : ℕ) → slice_get ps i ≡ Some p → p.home ≡ Held n l
    → Contains (held_buffers ps) n
held_there [] i p n l e h = absurd (cc e)
held_there (q ∷ ps) zero p n l e h =
    subst (λ x. Contains (held_of x (held_buffers ps)) n) (sym (ap (λ (y : PlacedArg). y.home) (same_some e) ∙ h))
    (0, omega arith, refl)
held_there (q ∷ ps) (suc i) p n l e h = more q.home (held_there ps i p n l e h)
  where
    more : (x : Home) → Contains (held_buffers ps) n → Contains (held_of x (held_buffers ps)) n
    more InPlace r = r
    more (Own y) r = r
    more (Held y m) r = (suc r.0, let k = r.1 in omega (arith, k), r.2)
    more (Twin y z) r = r

-- ---- a loop that arguments leave

hold_opens : (ps : List (ℕ × Argument)) (f : (ℕ × Argument) → PlacedArg) (x : Placed) (n : ℕ)
    → Opens (hold_placed ps f x) n → ((i : ℕ) × HoldsBuffer (map f ps) i n) ⊎ Opens x n
hold_opens [] f x n o = inr o
hold_opens (p ∷ ps) f x n o = o

hold_own : (s : Setting) (held : List ℕ) (ps : List (ℕ × Argument)) (f : (ℕ × Argument) → PlacedArg) (x : Placed)
    → HoldOwns s (map f ps) x → OwnIn s (held_buffers (map f ps) ++ held) x → OwnIn s held (hold_placed ps f x)
hold_own s held [] f x h o = o
hold_own s held (p ∷ ps) f x h o = (h, o)

module _ (r : Resolved) (w : Walked r) (choices : List Choice) (are : MayBeChosen r choices) (nodes : List PlanNode)
    (offset : ℕ → ℕ) where
  abbrev fb : ℕ → FormBody
  fb = body_in (bodies_of r)

  abbrev fh : ℕ → Homes
  fh = homes_in (homes_of r choices)

  abbrev s : Setting
  s = setting_of r choices nodes offset

  abbrev form_at : ℕ → ℕ
  form_at = of_form r w choices are

  -- the i-th parameter of the form leaves so many loops, in this buffer
  abbrev LeavesAs : (form i n m : ℕ) → Type 0
  LeavesAs form i n m = get_or (fh form).params i InPlace ≡ Held n m

  -- the buffers that are opened in it are of forms behind this one
  abbrev pub Further : ℕ → Placed → Type 0
  Further k x = (n : ℕ) → Opens x n → k < form_at n

  -- what is known of a form's calls
  record RowKnown (k : ℕ) (q : Round) (x : CallInstance) : Type 0 where
    held : IsHeldRow fh q x
    row : RowIs r w k x

  abbrev AreKnown : ℕ → Round → Type 0
  AreKnown k q = EachOf (RowKnown k q) q.rows

  all_known : (k : ℕ) → EachOf (AreKnown k) (rounds_of (fb k).body)
  all_known k =
      let qs = rounds_of (fb k).body in
      let held = homes_are_held_inside r choices are k in
      let rows = rounds_so (RowIs r w k) (fb k).body (rows_are r w k) in
      each_of (AreKnown k) qs (λ i q e. each_of (RowKnown k q) q.rows (λ j x g. record {
        held = one_of (IsHeldRow fh q) q.rows (one_of (AreHeldRows fh) qs held i q e) j x g;
        row = one_of (RowIs r w k) q.rows (one_of (λ (y : Round). EachOf (RowIs r w k) y.rows) qs rows i q e) j x g;
      }))

  -- ---- the call round which a statement is a loop

  -- its rows, in n more loops
  abbrev round_of : ℕ → Chain ℕ → Round
  round_of n h = record { loops = n + h.loops; rows = h.instances }

  abbrev IsAlone : Option (Chain ℕ) → (ℕ → List Round) → Type 0
  IsAlone None qs = Unit {0}
  IsAlone (Some h) qs = (n : ℕ) → qs n ≡ round_of n h ∷ []

  -- of what is opened in it, what leaves loops of its call leaves no more than there are in it
  abbrev Shallow : Option (Chain ℕ) → Placed → Type 0
  Shallow None x = Unit {0}
  Shallow (Some h) x = (y : CallInstance) → slice_get h.instances 0 ≡ Some y → (n : ℕ) → Opens x n → (i m : ℕ)
      → LeavesAs y.form i n m → m ≤ h.loops

  -- what leaves more loops, of n round it, is held
  abbrev Covers : List ℕ → ℕ → Option (Chain ℕ) → Type 0
  Covers held n None = Unit {0}
  Covers held n (Some h) = (y : CallInstance) → slice_get h.instances 0 ≡ Some y → (i b m : ℕ) → LeavesAs y.form i b m
      → h.loops < m → m ≤ n + h.loops → Contains held b

  none_more : (held : List ℕ) (o : Option (Chain ℕ)) → Covers held 0 o
  none_more held None = tt
  none_more held (Some h) = λ y at i n m e less most. absurd (omega (arith, less, most))

  -- ---- of a form, whose callees are so

  module _ (k : ℕ) (callee : ℕ → Placed) (callee_further : (f : ℕ) → Further f (callee f))
      (callee_owns : (f : ℕ) → OwnIn s [] (callee f)) (rule : SpreadRule) where
    abbrev Making : Type 0
    Making = (op : Option RedOp) → (inside : Bool) → (t : ℕ) → Placed

    record IsGood (chain : Option (Chain ℕ)) (placed : Making) (qs : ℕ → List Round) : Type 0 where
      alone : IsAlone chain qs
      further : (n : ℕ) → EachOf (AreKnown k) (qs n) → (op : Option RedOp) (inside : Bool) (t : ℕ)
          → Further k (placed op inside t)
      shallow : (n : ℕ) → EachOf (AreKnown k) (qs n) → (op : Option RedOp) (inside : Bool) (t : ℕ)
          → Shallow chain (placed op inside t)
      owns : (n : ℕ) → EachOf (AreKnown k) (qs n) → (held : List ℕ) → Covers held n chain
          → (op : Option RedOp) (inside : Bool) (t : ℕ) → PlainIn fh (placed op inside t)
          → OwnIn s held (placed op inside t)

    abbrev Good : PlacedPart → (ℕ → List Round) → Type 0
    Good p qs = IsGood p.chain p.placed qs

    abbrev part : Statement → PlacedPart
    part = statement_placed fb fh callee rule

    -- ---- a call

    called : (q : Round) (x : CallInstance) → RowKnown k q x → IsCalled r w choices are k x
    called q x known = is_called r w choices are k x known.row

    -- its form overlaps as was chosen
    its_overlap : (q : Round) (x : CallInstance) (known : RowKnown k q x)
        → (fh x.form).overlaps ≡ (choice_in choices x.form).overlaps
    its_overlap q x known = let its = called q x known in overlaps_are r choices x.form its.body its.form.at_body

    row_further : (q : Round) (known : AreKnown k q) (op : Option RedOp) (lower : Bool) (t : ℕ)
        (o : Option CallInstance) → slice_get q.rows t ≡ o → Further k (row_placed fb fh callee op lower o)
    row_further q known op lower t None e n h = absurd h
    row_further q known op lower t (Some x) e n h =
        let its = called q x (one_of (RowKnown k q) q.rows known t x e) in
        let y = its.later in
        elim h [
          | inl a ↦ (let z = its_form r w choices are k x its op lower a.0 n
              (opens_has (placed_call fb fh op lower x) a.0 n a.1) in omega (arith, z, y))
          | inr c ↦ (let z = callee_further x.form n c in omega (arith, z, y))
        ]

    -- a row of the form of the first one, where something leaves a loop
    first_form : (q : Round) (known : AreKnown k q) (t : ℕ) (x y : CallInstance) → slice_get q.rows t ≡ Some x
        → slice_get q.rows 0 ≡ Some y → (i n m : ℕ) → LeavesAs y.form i n m → x.form ≡ y.form
    first_form q known t x y e at i n m h = (one_of (RowKnown k q) q.rows known 0 y at).held.one i n m h t x e

    row_shallow : (q : Round) (known : AreKnown k q) (op : Option RedOp) (lower : Bool) (t : ℕ)
        (o : Option CallInstance) → slice_get q.rows t ≡ o → (y : CallInstance) → slice_get q.rows 0 ≡ Some y → (n : ℕ)
        → Opens (row_placed fb fh callee op lower o) n → (i m : ℕ) → LeavesAs y.form i n m → ⊥
    row_shallow q known op lower t None e y at n h i m l = h
    row_shallow q known op lower t (Some x) e y at n h i m l =
        let its = called q x (one_of (RowKnown k q) q.rows known t x e) in
        let own : LeavesAs x.form i n m
        = subst (λ (f : ℕ). LeavesAs f i n m) (sym (first_form q known t x y e at i n m l)) l in
        elim h [
          | inl a ↦ not_held r w choices are k x its op lower i a.0 n m a.1 own
          | inr c ↦ (let z = callee_further x.form n c in
              let f = held_form r w choices are k x its i n m own in omega (arith, z, f))
        ]

    row_owns : (q : Round) (known : AreKnown k q) (op : Option RedOp) (lower : Bool) (t : ℕ) (held : List ℕ)
        → ((x : CallInstance) → slice_get q.rows t ≡ Some x → (i n m : ℕ) → LeavesAs x.form i n m
        → (lower ≡ true) × Contains held n)
        → (o : Option CallInstance) → slice_get q.rows t ≡ o → PlainIn fh (row_placed fb fh callee op lower o)
        → OwnIn s held (row_placed fb fh callee op lower o)
    row_owns q known op lower t held covered None e plain = tt
    row_owns q known op lower t held covered (Some x) e plain =
        let its = called q x (one_of (RowKnown k q) q.rows known t x e) in (
          call_owns r w choices are k x its op lower (sym (its_overlap q x (one_of (RowKnown k q) q.rows known t x e)) ∙ plain)
              held (covered x e) nodes offset (callee x.form)
              (callee_further x.form),
          callee_owns x.form,
        )

    call_good : (lower : Bool) (times : List CallInstance)
        → Good (placed_step fb fh callee rule (Statement-F.Call lower times)) (round_step (Statement-F.Call lower times))
    call_good true times = record {
      alone = λ n. let z : n ≡ n + 0 = omega arith in ap (λ (l : ℕ). record { loops = l; rows = times } ∷ []) z;
      further = λ n known op inside t.
          row_further (record { loops = n; rows = times }) known.0 op true t (slice_get times t) refl;
      shallow = λ n known op inside t y at b o i m l. absurd
          (row_shallow (record { loops = n; rows = times }) known.0 op true t (slice_get times t) refl y at b o i m l);
      owns = λ n known held covers op inside t plain.
          row_owns (record { loops = n; rows = times }) known.0 op true t held
          (λ x e i b m l. (refl, covered n known.0 held covers t x e i b m l)) (slice_get times t) refl plain;
    }
      where
        covered : (n : ℕ) → AreKnown k (record { loops = n; rows = times }) → (held : List ℕ)
            → Covers held n (call_chain true times)
            → (t : ℕ) (x : CallInstance) → slice_get times t ≡ Some x → (i b m : ℕ) → LeavesAs x.form i b m
            → Contains held b
        covered n known held covers t x e i b m l =
            let q : Round = record { loops = n; rows = times } in
            let its = (one_of (RowKnown k q) q.rows known t x e).held in
            let y = first_there times t x e in
            let some = its.some i b m l in
            let most = its.round i b m l in
            covers y.0 y.1 i b m
            (subst (λ (f : ℕ). LeavesAs f i b m) (sym (its.one i b m l 0 y.0 y.1)) l) some (omega (arith, most))
    call_good false times = record {
      alone = tt;
      further = λ n known op inside t.
          row_further (record { loops = 0; rows = times }) known.0 op false t (slice_get times t) refl;
      shallow = λ n known op inside t. tt;
      owns = λ n known held covers op inside t plain.
          row_owns (record { loops = 0; rows = times }) known.0 op false t held
          (λ x e i b m l.
          let its = (one_of (RowKnown k (record { loops = 0; rows = times })) times known.0 t x e).held in
          let some = its.some i b m l in
          let most = its.round i b m l in
          absurd (omega (arith, some, most))) (slice_get times t) refl plain;
    }

    -- ---- a loop that overlaps its transfers

    abbrev pipe : Round → Option (Place × SpreadRule) → (count start : ℕ) → Placed
    pipe q spread count start = Piped spread count (λ t. row_call fb fh callee (slice_get q.rows (start + t)))
        (λ t. row_body fb fh callee (slice_get q.rows (start + t)))

    pipe_further : (q : Round) → AreKnown k q → (spread : Option (Place × SpreadRule)) (count start : ℕ)
        → Further k (pipe q spread count start)
    pipe_further q known spread count start n o = by (slice_get q.rows (start + o.0)) refl o.2
      where
        by : (u : Option CallInstance) → slice_get q.rows (start + o.0) ≡ u
            → ((set i : ℕ) × OpensInSet (row_call fb fh callee u) set i n) ⊎ Opens (row_body fb fh callee u) n
            → k < form_at n
        by None e (inl a) = absurd (let z = a.2 in cc z)
        by None e (inr c) = absurd c
        by (Some x) e (inl a) =
            let its = called q x (one_of (RowKnown k q) q.rows known (start + o.0) x e) in
            let y = its.later in
            let z = set_form r w choices are k x its None true a.0 a.1 n
            (opens_in (placed_call fb fh None true x) a.0 a.1 n a.2) in
            omega (arith, z, y)
        by (Some x) e (inr c) =
            let its = called q x (one_of (RowKnown k q) q.rows known (start + o.0) x e) in
            let y = its.later in
            let z = callee_further x.form n c in
            omega (arith, z, y)

    pipe_shallow : (q : Round) → AreKnown k q → (spread : Option (Place × SpreadRule)) (count start : ℕ)
        → (y : CallInstance) → slice_get q.rows 0 ≡ Some y → (n : ℕ) → Opens (pipe q spread count start) n → (i m : ℕ)
        → LeavesAs y.form i n m → ⊥
    pipe_shallow q known spread count start y at n o i m l = by (slice_get q.rows (start + o.0)) refl o.2
      where
        by : (u : Option CallInstance) → slice_get q.rows (start + o.0) ≡ u
            → ((set j : ℕ) × OpensInSet (row_call fb fh callee u) set j n) ⊎ Opens (row_body fb fh callee u) n → ⊥
        by None e (inl a) = let z = a.2 in cc z
        by None e (inr c) = c
        by (Some x) e (inl a) =
            let its = called q x (one_of (RowKnown k q) q.rows known (start + o.0) x e) in
            not_held_in r w choices are k x its None true a.0 i a.1 n m a.2
            (subst (λ (f : ℕ). LeavesAs f i n m) (sym (first_form q known (start + o.0) x y e at i n m l)) l)
        by (Some x) e (inr c) =
            let its = called q x (one_of (RowKnown k q) q.rows known (start + o.0) x e) in
            let z = callee_further x.form n c in
            let f = held_form r w choices are k x its i n m
            (subst (λ (f : ℕ). LeavesAs f i n m) (sym (first_form q known (start + o.0) x y e at i n m l)) l) in
            omega (arith, z, f)

    none_owns : (held : List ℕ) → PipeOwns s held no_call Nothing
    none_owns held = record {
      homes = λ i p e. absurd (cc e);
      distinct = λ m l i j n g h. absurd (cc g);
      inner = λ m i n g h. h;
      sizes = λ m i n y g h. absurd (cc g);
      some = λ j l e. absurd (cc e);
    }

    pipe_own : (q : Round) → AreKnown k q → (spread : Option (Place × SpreadRule)) (count start : ℕ) (held : List ℕ)
        → ((j : ℕ) (x : CallInstance) → slice_get q.rows j ≡ Some x → (i n m : ℕ) → LeavesAs x.form i n m
        → Contains (held_round spread held) n)
        → PlainIn fh (pipe q spread count start) → OwnIn s held (pipe q spread count start)
    pipe_own q known spread count start held covered plain =
        λ t less. by t (slice_get q.rows (start + t)) refl (plain t)
      where
        by : (t : ℕ) (u : Option CallInstance) → slice_get q.rows (start + t) ≡ u → IsOver fh (row_call fb fh callee u)
            → PipeOwns s (held_round spread held) (row_call fb fh callee u) (row_body fb fh callee u)
            × OwnIn s [] (row_body fb fh callee u)
        by t None e o = (none_owns (held_round spread held), tt)
        by t (Some x) e o =
            let one = one_of (RowKnown k q) q.rows known (start + t) x e in
            let its = called q x one in (
              pipe_owns r w choices are k x its None true (sym (its_overlap q x one) ∙ over o) (held_round spread held)
                  (covered (start + t) x e) nodes offset (callee x.form) (callee_further x.form),
              callee_owns x.form,
            )
          where
            over : IsOver fh (placed_call fb fh None true x) → (fh x.form).overlaps ≡ true
            over (inl z) =
                let first : x.form ≡ 0 = ap (λ (c : PlacedCall). c.form) z in
                let y = (called q x (one_of (RowKnown k q) q.rows known (start + t) x e)).later in
                absurd (omega (arith, first, y))
            over (inr z) = z

    -- ---- statements in turn

    abbrev IsStatement : Statement → Type 0
    IsStatement x = Good (part x) (rounds_in x)

    all_further : (xs : List Statement) → EachOf IsStatement xs → EachOf (AreKnown k) (all_rounds (map rounds_in xs))
        → (op : Option RedOp) (inside : Bool) (t : ℕ) → Further k (all_placed (map part xs) op inside t)
    all_further [] good known op inside t n h = absurd h
    all_further (x ∷ xs) good known op inside t n h =
        let qs = rounds_in x 0 in
        let more = all_rounds (map rounds_in xs) in
        elim h [
          | inl a ↦ good.0.further 0 (each_left (AreKnown k) qs more known) op inside t n a
          | inr c ↦ all_further xs good.1 (each_right (AreKnown k) qs more known) op inside t n c
        ]

    all_own : (xs : List Statement) → EachOf IsStatement xs → EachOf (AreKnown k) (all_rounds (map rounds_in xs))
        → (held : List ℕ) (op : Option RedOp) (inside : Bool) (t : ℕ)
        → PlainIn fh (all_placed (map part xs) op inside t) → OwnIn s held (all_placed (map part xs) op inside t)
    all_own [] good known held op inside t plain = tt
    all_own (x ∷ xs) good known held op inside t plain =
        let qs = rounds_in x 0 in
        let more = all_rounds (map rounds_in xs) in (
          good.0.owns 0 (each_left (AreKnown k) qs more known) held (none_more held (part x).chain) op inside t plain.0,
          all_own xs good.1 (each_right (AreKnown k) qs more known) held op inside t plain.1,
        )

    -- ---- what is held round a loop

    -- one of those that leave so many loops of this call
    record IsHeldOf (v : Option CallInstance) (loops n : ℕ) : Type 0 where
      row : CallInstance
      is : v ≡ Some row
      at : ℕ
      held : LeavesAs row.form at n loops

    opens_held : (v : Option CallInstance) (loops : ℕ) (u : Option CallInstance) (x : Placed)
        → ((y : CallInstance) → v ≡ Some y → IsCalled r w choices are k y) → (n : ℕ)
        → Opens (hold_placed (leaving_row fh loops v) (held_arg (fb (row_form v)) (fh (row_form v)) u) x) n
        → IsHeldOf v loops n ⊎ Opens x n
    opens_held None loops u x calls n o = inr o
    opens_held (Some y) loops u x calls n o =
        let its = calls y refl in
        elim (hold_opens (leaving r w choices are k y its loops u) (brought r w choices are k y its loops u) x n o) [
          | inl a ↦ (let l = left_has r w choices are k y its loops u a.0 n a.1 in
              inl (record { row = y; is = refl; at = l.of.0; held = l.held }))
          | inr c ↦ inr c
        ]

    abbrev held_in : Option CallInstance → ℕ → Option CallInstance → List ℕ
    held_in v loops u =
        held_buffers (map (held_arg (fb (row_form v)) (fh (row_form v)) u) (leaving_row fh loops v))

    own_held : (v : Option CallInstance) (loops : ℕ) (u : Option CallInstance) (held : List ℕ) (x : Placed)
        → ((y : CallInstance) → v ≡ Some y → IsCalled r w choices are k y)
        → ((y : CallInstance) → v ≡ Some y → (n : ℕ) → Opens x n → (i m : ℕ) → LeavesAs y.form i n m → m < loops)
        → OwnIn s (held_in v loops u ++ held) x
        → OwnIn s held (hold_placed (leaving_row fh loops v) (held_arg (fb (row_form v)) (fh (row_form v)) u) x)
    own_held None loops u held x calls shallow o = o
    own_held (Some y) loops u held x calls shallow o =
        let its = calls y refl in
        hold_own s held (leaving r w choices are k y its loops u) (brought r w choices are k y its loops u) x
        (hold_owns r w choices are k y its loops u nodes offset x (shallow y refl)) o

    holds_it : (v : Option CallInstance) (loops : ℕ) (u : Option CallInstance) (y : CallInstance) → v ≡ Some y
        → IsCalled r w choices are k y → (i n : ℕ) → LeavesAs y.form i n loops → Contains (held_in v loops u) n
    holds_it None loops u y e its i n l = absurd (cc e)
    holds_it (Some x) loops u y e its i n l =
        subst (λ (q : CallInstance). Contains (held_in (Some q) loops u) n) (sym (same_some e)) here
      where
        here : Contains (held_in (Some y) loops u) n
        here =
            let less = held_less r w choices are y.form its.body its.form i n loops l in
            let many = its.args in
            let a = at_index y.args i (omega (arith, less, many)) in
            let z : 0 + i ≡ i = omega arith in
            let home : LeavesAs y.form (0 + i) n loops
            = ap (λ j. get_or (fh y.form).params j InPlace) z ∙ l in
            let t = left_there loops (fh y.form).params 0 y.args i a.0 a.1
            (held_leaves loops n (get_or (fh y.form).params (0 + i) InPlace) home) in
            let ps = leaving r w choices are k y its loops u in
            let f = brought r w choices are k y its loops u in
            held_there (map f ps) t.0 (f (0 + i, a.0)) n loops (at_mapped f ps t.0 (0 + i, a.0) t.1) home

    -- ---- a map

    loop_further : (m : LoopKind) (place : Place) (spread : Option SpreadRule) (count : ℕ) (x : ℕ → Placed)
        → ((t : ℕ) → Further k (x t)) → Further k (map_placed m place spread count x)
    loop_further loop_kind.Sequential place spread count x h n i = h i.0 n i.2
    loop_further loop_kind.Parallel place spread count x h n i = h i.0 n i.2
    loop_further (loop_kind.Reduction g) place spread count x h n i = h i.0 n i.2

    loop_owns : (m : LoopKind) (place : Place) (spread : Option SpreadRule) (count : ℕ) (x : ℕ → Placed)
        → ((held : List ℕ) (t : ℕ) → PlainIn fh (x t) → OwnIn s held (x t)) → (held : List ℕ)
        → PlainIn fh (map_placed m place spread count x) → OwnIn s held (map_placed m place spread count x)
    loop_owns loop_kind.Sequential place spread count x h held plain = λ t l. h held t (plain t)
    loop_owns loop_kind.Parallel place spread count x h held plain = λ t l. h [] t (plain t)
    loop_owns (loop_kind.Reduction g) place spread count x h held plain = λ t l. h [] t (plain t)

    held_plain : (ps : List (ℕ × Argument)) (f : (ℕ × Argument) → PlacedArg) (x : Placed)
        → PlainIn fh (hold_placed ps f x) → PlainIn fh x
    held_plain [] f x h = h
    held_plain (p ∷ ps) f x h = h

    module _ (place : Place) (counts starts : List ℕ) where
      abbrev holding : Option (Chain ℕ) → ℕ → Placed → Placed
      holding o t x = hold_placed (leaving_chain fh o)
          (held_arg (fb (chain_form o)) (fh (chain_form o)) (chain_row o t)) x

      abbrev step : LoopKind → List PlacedPart → PlacedPart
      step m ps = placed_step fb fh callee rule (Statement-F.Map place m counts starts ps)

      -- nothing leaves a map that isn't plain, or in which not one statement stands
      free : (m : LoopKind) (xs : List Statement) → EachOf IsStatement xs
          → chain_of first_of m starts (chains (map part xs)) ≡ None
          → ((n : ℕ) → map_rounds m (map rounds_in xs) n ≡ all_rounds (map rounds_in xs))
          → Good (step m (map part xs)) (map_rounds m (map rounds_in xs))
      free m xs good none same = record {
        alone = subst (λ o. IsAlone o (map_rounds m (map rounds_in xs))) (sym none) tt;
        further = λ n known op inside t. at (Further k) t inside
            (run_further (subst (EachOf (AreKnown k)) (same n) known) (inside || false) t);
        shallow = λ n known op inside t. subst (λ o. Shallow o ((step m (map part xs)).placed op inside t)) (sym none)
            tt;
        owns = λ n known held covers op inside t plain. at (OwnIn s held) t inside
            (run_owns (subst (EachOf (AreKnown k)) (same n) known) held (inside || false) t
            (subst (λ o. PlainIn fh (loop o inside t)) none plain));
      }
        where
          spread : Bool → Option SpreadRule
          spread i = spread_of rule m i (any_lower (map part xs)) (any_same (map part xs))

          works : Bool → ℕ → ℕ → Placed
          works i t u = all_placed (map part xs) (op_of m) (i || is_some (spread i)) (get_or starts t 0 + u)

          chain : Option (Chain ℕ)
          chain = chain_of first_of m starts (chains (map part xs))

          piped : Bool → Option Pipe
          piped i = pipe_of fh m (spread i) (chains (map part xs))

          run : Option Pipe → Bool → ℕ → Placed
          run p i t = pipe_placed fb fh callee p place (get_or counts t 0) (get_or starts t 0)
              (map_placed m place (spread i) (get_or counts t 0) (works i t))

          loop : Option (Chain ℕ) → Bool → ℕ → Placed
          loop o inside t = let i = inside || holds (leaving_chain fh o) in holding o t (run (piped i) i t)

          at : (P : Placed → Type 0) (t : ℕ) (inside : Bool) → P (run (piped (inside || false)) (inside || false) t)
              → P (loop chain inside t)
          at P t inside h = subst (λ o. P (loop o inside t)) (sym none) h

          -- one that overlaps its transfers has no loop of its own round it that something leaves
          pipe_rows : EachOf (AreKnown k) (all_rounds (map rounds_in xs)) → (i : Bool) (p : Pipe) → piped i ≡ Some p
              → AreKnown k (record { loops = 0; rows = p.rows })
          pipe_rows known i p e =
              let one = (taken fh m (spread i) (chains_placed fb fh callee rule xs) p e).one in
              let so = subst (λ (ys : List Statement). EachOf (AreKnown k) (all_rounds (map rounds_in ys))) one known in
              (subst (λ (f : ℕ → List Round). EachOf (AreKnown k) (f 0 ++ [])) (rounds_call true p.rows) so).0

          run_further : EachOf (AreKnown k) (all_rounds (map rounds_in xs)) → (i : Bool) (t : ℕ)
              → Further k (run (piped i) i t)
          run_further known i t = by (piped i) refl
            where
              by : (o : Option Pipe) → piped i ≡ o → Further k (run o i t)
              by None e = loop_further m place (spread i) (get_or counts t 0) (works i t)
                  (λ u. all_further xs good known (op_of m) (i || is_some (spread i)) (get_or starts t 0 + u))
              by (Some p) e = pipe_further (record { loops = 0; rows = p.rows }) (pipe_rows known i p e)
                  (placed_rule place p.spread) (get_or counts t 0) (get_or starts t 0)

          run_owns : EachOf (AreKnown k) (all_rounds (map rounds_in xs)) → (held : List ℕ) (i : Bool) (t : ℕ)
              → PlainIn fh (run (piped i) i t) → OwnIn s held (run (piped i) i t)
          run_owns known held i t = by (piped i) refl
            where
              by : (o : Option Pipe) → piped i ≡ o → PlainIn fh (run o i t) → OwnIn s held (run o i t)
              by None e plain = loop_owns m place (spread i) (get_or counts t 0) (works i t)
                  (λ more u. all_own xs good known more (op_of m) (i || is_some (spread i)) (get_or starts t 0 + u)) held
                  plain
              by (Some p) e plain =
                  let q : Round = record { loops = 0; rows = p.rows } in
                  let rows : AreKnown k q = pipe_rows known i p e in
                  pipe_own q rows (placed_rule place p.spread) (get_or counts t 0) (get_or starts t 0) held
                  (λ j x f a n l h.
                  let its = (one_of (RowKnown k q) q.rows rows j x f).held in
                  let some = its.some a n l h in
                  let most = its.round a n l h in
                  absurd (omega (arith, some, most))) plain

      -- ---- a loop more

      module _ (lower same : Bool) (placed : Making) (qs : ℕ → List Round) where
        abbrev inner : Option (Chain ℕ) → PlacedPart
        inner o = record { lower = lower; same = same; chain = o; placed = placed }

        abbrev plain_loop : Bool → ℕ → Placed
        plain_loop i t = Each (get_or counts t 0) (λ u. Then (placed None (i || false) (get_or starts t 0 + u)) Nothing)

        abbrev run : Option Pipe → Bool → ℕ → Placed
        run p i t = pipe_placed fb fh callee p place (get_or counts t 0) (get_or starts t 0) (plain_loop i t)

        abbrev piped : Option (Chain ℕ) → Option Pipe
        piped o = pipe_of fh loop_kind.Sequential None (o ∷ [])

        loop_opens : (i : Bool) (t n : ℕ) → Opens (plain_loop i t) n → (u : ℕ) × Opens (placed None (i || false) u) n
        loop_opens i t n o = elim o.2 [
          | inl a ↦ (get_or starts t 0 + o.0, a)
          | inr c ↦ absurd c
        ]

        -- the rows of the call of a loop that overlaps its transfers
        record IsPipeOf (h : Chain ℕ) (n : ℕ) (p : Pipe) : Type 0 where
          rows : p.rows ≡ h.instances
          none : h.loops ≡ 0
          spread : p.spread ≡ None
          known : AreKnown k (record { loops = suc n; rows = p.rows })

        pipe_of_chain : (h : Chain ℕ) → IsGood (Some h) placed qs → (n : ℕ) → EachOf (AreKnown k) (qs (suc n)) → (p : Pipe)
            → piped (Some h) ≡ Some p → IsPipeOf h n p
        pipe_of_chain h g n known p e =
            let u = pipe_is fh loop_kind.Sequential None (Some h) p e in
            let same : h ≡ u.chain = same_some u.is in
            let none : h.loops ≡ 0 = ap (λ (c : Chain ℕ). c.loops) same ∙ u.none in
            let rows : p.rows ≡ h.instances = u.rows ∙ sym (ap (λ (c : Chain ℕ). c.instances) same) in
            let loops : suc n + h.loops ≡ suc n = omega (arith, none) in
            record {
              rows = rows;
              none = none;
              spread = pipe_spread loop_kind.Sequential None (overlapped fh (Some h)) p e refl;
              known = subst (λ (ts : List CallInstance). AreKnown k (record { loops = suc n; rows = ts })) (sym rows)
                  (subst (λ (l : ℕ). AreKnown k (record { loops = l; rows = h.instances })) loops
                  (subst (EachOf (AreKnown k)) (g.alone (suc n)) known).0);
            }

        run_further : (h : Chain ℕ) → IsGood (Some h) placed qs → (n : ℕ) → EachOf (AreKnown k) (qs (suc n))
            → (i : Bool) (t : ℕ) → Further k (run (piped (Some h)) i t)
        run_further h g n known i t = by (piped (Some h)) refl
          where
            by : (o : Option Pipe) → piped (Some h) ≡ o → Further k (run o i t)
            by None e = λ m o. let d = loop_opens i t m o in g.further (suc n) known None (i || false) d.0 m d.1
            by (Some p) e = pipe_further (record { loops = suc n; rows = p.rows }) (pipe_of_chain h g n known p e).known
                (placed_rule place p.spread) (get_or counts t 0) (get_or starts t 0)

        run_shallow : (h : Chain ℕ) → IsGood (Some h) placed qs → (n : ℕ) → EachOf (AreKnown k) (qs (suc n))
            → (i : Bool) (t : ℕ) → Shallow (Some h) (run (piped (Some h)) i t)
        run_shallow h g n known i t = by (piped (Some h)) refl
          where
            by : (o : Option Pipe) → piped (Some h) ≡ o → Shallow (Some h) (run o i t)
            by None e = λ y at m o a l f.
                let d = loop_opens i t m o in g.shallow (suc n) known None (i || false) d.0 y at m d.1 a l f
            by (Some p) e = λ y at m o a l f.
                let u = pipe_of_chain h g n known p e in
                absurd (pipe_shallow (record { loops = suc n; rows = p.rows }) u.known (placed_rule place p.spread)
                (get_or counts t 0) (get_or starts t 0) y
                (ap (λ (ts : List CallInstance). slice_get ts 0) u.rows ∙ at) m o a l f)

        run_owns : (h : Chain ℕ) → IsGood (Some h) placed qs → (n : ℕ) → EachOf (AreKnown k) (qs (suc n))
            → (held : List ℕ) → Covers held (suc n) (Some h) → (i : Bool) (t : ℕ)
            → PlainIn fh (run (piped (Some h)) i t) → OwnIn s held (run (piped (Some h)) i t)
        run_owns h g n known held covers i t = by (piped (Some h)) refl
          where
            by : (o : Option Pipe) → piped (Some h) ≡ o → PlainIn fh (run o i t) → OwnIn s held (run o i t)
            by None e plain = λ u less. (
              g.owns (suc n) known held covers None (i || false) (get_or starts t 0 + u) (plain u).0,
              tt,
            )
            by (Some p) e plain =
                let u = pipe_of_chain h g n known p e in
                let q : Round = record { loops = suc n; rows = p.rows } in
                pipe_own q u.known (placed_rule place p.spread) (get_or counts t 0) (get_or starts t 0) held
                (λ j x f a b l leaves.
                let its = (one_of (RowKnown k q) q.rows u.known j x f).held in
                let y = first_there p.rows j x f in
                let some = its.some a b l leaves in
                let most = its.round a b l leaves in
                let none = u.none in
                subst (λ (v : Option SpreadRule). Contains (held_round (placed_rule place v) held) b) (sym u.spread)
                (covers y.0 (ap (λ (ts : List CallInstance). slice_get ts 0) (sym u.rows) ∙ y.1) a b l
                (subst (λ (f : ℕ). LeavesAs f a b l) (sym (its.one a b l leaves 0 y.0 y.1)) leaves)
                (omega (arith, some, none)) (omega (arith, most, none)))) plain

        single : (o : Option (Chain ℕ)) → IsGood o placed qs
            → Good (step loop_kind.Sequential (inner o ∷ [])) (λ n. qs (suc n))
        single None g = record {
          alone = tt;
          further = λ n known op inside t m o.
              let d = loop_opens (inside || false) t m o in
              g.further (suc n) known None ((inside || false) || false) d.0 m d.1;
          shallow = λ n known op inside t. tt;
          owns = λ n known held covers op inside t plain. λ u l. (
            g.owns (suc n) known held tt None ((inside || false) || false) (get_or starts t 0 + u) (plain u).0,
            tt,
          );
        }
        single (Some h) g = record {
          alone = λ n. let z : suc n + h.loops ≡ n + suc h.loops = omega arith in
              g.alone (suc n) ∙ ap (λ (l : ℕ). record { loops = l; rows = h.instances } ∷ []) z;
          further = λ n known op inside t m o.
              elim (opens_held first_row (suc h.loops) (row t) (run (piped (Some h)) (within inside) t) (calls n known) m
              o) [
                | inl a ↦ (let its = calls n known a.row a.is in
                    let f = held_form r w choices are k a.row its a.at m (suc h.loops) a.held in
                    let y = its.later in omega (arith, f, y))
                | inr c ↦ run_further h g n known (within inside) t m c
              ];
          shallow = λ n known op inside t y at m o i l e.
              elim (opens_held first_row (suc h.loops) (row t) (run (piped (Some h)) (within inside) t) (calls n known) m
              o) [
                | inl a ↦ (
                    let is : a.row ≡ y = same_some (sym a.is ∙ at) in
                    let own = subst (λ (q : CallInstance). LeavesAs q.form i m l) (sym is) e in
                    let place = held_once r w choices are k a.row (calls n known a.row a.is) a.at i m (suc h.loops) l
                    a.held own in
                    let z : suc h.loops ≡ l = ap loops_left (sym a.held
                    ∙ (ap (λ j. get_or (fh a.row.form).params j InPlace) place ∙ own)) in
                    omega (arith, z))
                | inr c ↦ (let z = run_shallow h g n known (within inside) t y at m c i l e in omega (arith, z))
              ];
          owns = λ n known held covers op inside t plain.
              own_held first_row (suc h.loops) (row t) held (run (piped (Some h)) (within inside) t) (calls n known)
              (λ y at m o i l e. let z = run_shallow h g n known (within inside) t y at m o i l e in omega (arith, z))
              (run_owns h g n known (held_in first_row (suc h.loops) (row t) ++ held) (covered n known held covers t)
              (within inside) t
              (held_plain (leaving_row fh (suc h.loops) first_row)
              (held_arg (fb (row_form first_row)) (fh (row_form first_row)) (row t)) (run (piped (Some h)) (within inside) t)
              plain));
        }
          where
            first_row : Option CallInstance
            first_row = slice_get h.instances 0

            row : ℕ → Option CallInstance
            row t = slice_get h.instances (h.first (first_of starts t))

            within : Bool → Bool
            within inside = inside || holds (leaving_row fh (suc h.loops) first_row)

            calls : (n : ℕ) → EachOf (AreKnown k) (qs (suc n)) → (y : CallInstance) → first_row ≡ Some y
                → IsCalled r w choices are k y
            calls n known y at =
                let q = round_of (suc n) h in
                called q y (one_of (RowKnown k q) q.rows (subst (EachOf (AreKnown k)) (g.alone (suc n)) known).0 0 y at)

            covered : (n : ℕ) → EachOf (AreKnown k) (qs (suc n)) → (held : List ℕ)
                → Covers held n (one_more first_of starts (Some h)) → (t : ℕ)
                → Covers (held_in first_row (suc h.loops) (row t) ++ held) (suc n) (Some h)
            covered n known held covers t y at i b m e less most =
                let own = held_in first_row (suc h.loops) (row t) in
                elim (end_or_below (suc h.loops) m (omega (arith, less))) [
                  | inl z ↦ contains_left own held b
                      (holds_it first_row (suc h.loops) (row t) y at (calls n known y at) i b
                      (subst (LeavesAs y.form i b) (sym z) e))
                  | inr z ↦ contains_right own held b (covers y at i b m e z (omega (arith, most)))
                ]

      -- ---- each statement

      abbrev G : Type 0
      G = (x : Statement) × IsStatement x

      abbrev begun : List G → List Statement
      begun xs = map (λ p. p.0) xs

      goods : (xs : List G) → EachOf IsStatement (begun xs)
      goods [] = tt
      goods (x ∷ xs) = (x.1, goods xs)

      map_good : (m : LoopKind) (xs : List G)
          → Good (step m (map part (begun xs))) (map_rounds m (map rounds_in (begun xs)))
      map_good loop_kind.Sequential [] = free loop_kind.Sequential [] tt refl (λ n. refl)
      map_good loop_kind.Sequential (x ∷ []) =
          let p = part x.0 in single p.lower p.same p.placed (rounds_in x.0) p.chain x.1
      map_good loop_kind.Sequential (x ∷ y ∷ xs)
          = free loop_kind.Sequential (begun (x ∷ y ∷ xs)) (goods (x ∷ y ∷ xs)) refl (λ n. refl)
      map_good loop_kind.Parallel xs = free loop_kind.Parallel (begun xs) (goods xs) refl (λ n. refl)
      map_good (loop_kind.Reduction g) xs = free (loop_kind.Reduction g) (begun xs) (goods xs) refl (λ n. refl)

    good_step : (y : Statement-F ((x : Statement) × IsStatement x))
        → IsStatement (roll-Statement (map-Statement ((x : Statement) × IsStatement x) Statement (λ p. p.0) y))
    good_step (Statement-F.Call lower times) =
        subst IsStatement (sym (b.rolls-Call lower times))
        (subst (λ (p : PlacedPart). Good p (rounds_in (b.Call lower times)))
        (sym (part_call fb fh callee rule lower times))
        (subst (Good (placed_step fb fh callee rule (Statement-F.Call lower times))) (sym (rounds_call lower times))
        (call_good lower times)))
    good_step (Statement-F.Map place m counts starts xs) =
        let list = map (λ (p : (x : Statement) × IsStatement x). p.0) xs in
        subst IsStatement (sym (b.rolls-Map place m counts starts list))
        (subst (λ (p : PlacedPart). Good p (rounds_in (b.Map place m counts starts list)))
        (sym (part_map fb fh callee rule place m counts starts list))
        (subst (Good (placed_step fb fh callee rule (Statement-F.Map place m counts starts (map part list))))
        (sym (rounds_map place m counts starts list)) (map_good place counts starts m xs)))

    good : (x : Statement) → IsStatement x
    good = ind-Statement IsStatement (λ x y is. subst (λ z. IsStatement (roll-Statement z)) is (good_step y))

    all_good : (xs : List Statement) → EachOf IsStatement xs
    all_good xs = each_of IsStatement xs (λ i x e. good x)

  -- ---- all that is placed of a form

  -- what it opens is of forms behind it, and each array has a buffer of its own
  pub record IsOwned (k : ℕ) (x : Placed) : Type 0 where
    pub further : Further k x
    pub owns : OwnIn s [] x

  body_owned : (k : ℕ) (callee : ℕ → Placed) → ((f : ℕ) → IsOwned f (callee f)) → (h : Homes) (shapes : List Shape)
      (x : Body) → EachOf (AreKnown k) (rounds_of x) → PlainIn fh (body_placed fb fh callee h shapes x)
      → IsOwned k (body_placed fb fh callee h shapes x)
  body_owned k callee its h shapes (body.Leaf code) known plain = record { further = λ n o. absurd o; owns = tt }
  body_owned k callee its h shapes (body.Inner list) known plain =
      let good = all_good k callee (λ f. (its f).further) (λ f. (its f).owns) h.rule list in
      record {
        further = all_further k callee (λ f. (its f).further) (λ f. (its f).owns) h.rule list good known None false 0;
        owns = all_own k callee (λ f. (its f).further) (λ f. (its f).owns) h.rule list good known [] None false 0 plain;
      }

  pub form_owned : (d k : ℕ) → IsOwned k (placed_of fb fh d k)
  form_owned zero k = record { further = λ n o. absurd o; owns = tt }
  form_owned (suc d) k =
      body_owned k (placed_of fb fh d) (form_owned d) (fh k) (fb k).arrays (fb k).body (all_known k)
      (body_plain fb fh (placed_of fb fh d) (fh k) (fb k).arrays (fb k).body ((chosen_stand r choices are).calls k))
