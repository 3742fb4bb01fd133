-- A call that is placed outside of the loops that overlap their transfers is of a form that doesn't, and one inside them
-- of a form that does.
use Rattle.std.proofs.Common.{◌≡◌, ◌⊎◌, inl, inr, arith, ℕ, suc, ◌+◌, ◌==◌, Bool, true, false, not, ◌&&◌, ◌||◌, is_some, List, []}
use Rattle.std.proofs.Common.{◌∷◌, map, get_or, slice_get, Option, Some, None, if◌then◌else◌, refl, sym, ap, ap₂, ◌∙◌, subst}
use Rattle.sq_num.specs.declared.RedOp.{RedOp}
use Rattle.sq_text.specs.declared.place.Place.{Place}
use Rattle.sq_text.specs.declared.spread.SpreadRule.{SpreadRule}
use Rattle.sq_leaf.specs.declared.shape.Shape.{Shape}
use Rattle.sq_blocks.specs.declared.argument.Argument.{Argument}
use Rattle.sq_spec.specs.declared.statement.LoopKind.{LoopKind}
use Rattle.sq_spec.specs.declared.statement.LoopKind.TheVariants as loop_kind
use Rattle.sq_spec.specs.declared.statement.CallInstance.{CallInstance}
use Rattle.sq_spec.specs.declared.statement.Statement.{Statement, roll-Statement}
use Rattle.sq_spec.specs.declared.statement.Statement.TheVariants as b
use Rattle.sq_spec.specs.declared.statement.Statement.TheOpen.{Statement-F}
use Rattle.sq_spec.specs.declared.statement.Statement.TheFolds.{ind-Statement, map-Statement}
use Rattle.sq_spec.specs.declared.body.Body.{Body}
use Rattle.sq_spec.specs.declared.body.Body.TheVariants as body
use Rattle.sq_spec.specs.declared.body.FormBody.{FormBody}
use Rattle.sq_spec.specs.Spreads.{is_spread, lower_in, same_in}
use Rattle.sq_placed.specs.declared.home.Homes.{Homes}
use Rattle.sq_placed.specs.Placed.{Placed, PlacedArg, PlacedCall, Nothing, Then, Each, AtOnce, Gathers, Call, Hold, Piped, Leaf}
use Rattle.sq_placed.specs.Tables.{op_of, spread_of, map_placed, Chain, call_chain, chain_of, first_of, leaving_chain}
use Rattle.sq_placed.specs.Tables.{hold_placed, holds, Pipe, overlapped, pipe_of}
use Rattle.sq_placed.specs.Tables.{pipe_placed, row_form, PlacedPart, chains, any_lower, any_same, all_placed, row_placed}
use Rattle.sq_placed.specs.Tables.{placed_step, statement_placed, body_placed, no_call, row_call, one_more, lanes_of}
use Rattle.sq_placed.proofs.Opened.{part_call, part_map}
use Rattle.sq_program_laws.specs.TermLaws.Orders.{EachOf}
use Rattle.sq_program_laws.specs.TermLaws.Overlapping.{AskedInMaps, each_in_maps, any_by, can_overlap, RowOverlaps, overlaps_step}
use Rattle.sq_program_laws.specs.TermLaws.Overlapping.{Overlaps, BodyOverlaps}
use Rattle.sq_program_laws.proofs.TermLaws.Overlaps.{overlaps_call, overlaps_map, any_map}
use Rattle.sq_spec.proofs.InStatements.{lower_call, lower_map, same_call, same_map}
use Rattle.sq_program_laws.proofs.TermLaws.Piped.{no_pipe, pipe_is, pipe_none}
use Rattle.sq_draft_laws.proofs.Rounds.{one_of}

-- nothing, or the call of a form that overlaps its transfers
abbrev pub IsOver : (ℕ → Homes) → PlacedCall → Type 0
IsOver homes c = (c ≡ no_call) ⊎ ((homes c.form).overlaps ≡ true)

-- each call in it, callees left aside, is of a form that doesn't overlap, but in loops that overlap their transfers
abbrev pub PlainIn : (ℕ → Homes) → Placed → Type 0
PlainIn homes Nothing = Unit {0}
PlainIn homes (Then x y) = PlainIn homes x × PlainIn homes y
PlainIn homes (Each n w) = (t : ℕ) → PlainIn homes (w t)
PlainIn homes (AtOnce place spread n w) = (t : ℕ) → PlainIn homes (w t)
PlainIn homes (Gathers r place spread n w) = (t : ℕ) → PlainIn homes (w t)
PlainIn homes (Call c w) = (homes c.form).overlaps ≡ false
PlainIn homes (Hold args w) = PlainIn homes w
PlainIn homes (Piped spread n calls w) = (t : ℕ) → IsOver homes (calls t)
PlainIn homes (Leaf code leaf shapes) = Unit {0}

module _ (bodies : ℕ → FormBody) (homes : ℕ → Homes) where
  abbrev Over : CallInstance → Bool
  Over r = (homes r.form).overlaps

  isnt : (v : Bool) → (v ≡ true → ⊥) → v ≡ false
  isnt true f = absurd (f refl)
  isnt false f = refl

  -- a row of a call that may not overlap doesn't
  row_plain : (lower : Bool) (times : List CallInstance) (r : CallInstance) → RowOverlaps homes lower false times r
      → Over r ≡ false
  row_plain lower times r h = isnt (Over r) (λ e. let z = h.alone_is e in cc z)

  -- ---- calls that may overlap and don't

  not_over : (times : List CallInstance) → overlapped homes (call_chain {X = ℕ} true times) ≡ None
      → (homes (row_form (slice_get times 0))).overlaps ≡ false
  not_over times e = by (homes (row_form (slice_get times 0))).overlaps e
    where
      by : (v : Bool) → (if (0 == 0) && v then Some times else None) ≡ None → v ≡ false
      by true f = absurd (let z = f in cc z)
      by false f = refl

  first_row : (times : List CallInstance) (j : ℕ) (r : CallInstance) → slice_get times j ≡ Some r
      → (q : CallInstance) × (slice_get times 0 ≡ Some q)
  first_row [] j r e = absurd (let z = e in cc z)
  first_row (q ∷ times) j r e = (q, refl)

  free_row : (times : List CallInstance) → (homes (row_form (slice_get times 0))).overlaps ≡ false → (j : ℕ)
      (r : CallInstance) → slice_get times j ≡ Some r → RowOverlaps homes true true times r
      → RowOverlaps homes true false times r
  free_row times none j r e h = record {
    lower_is = h.lower_is;
    alone_is = λ o.
        let q = first_row times j r e in
        let same : q.0.form ≡ r.form = h.one o 0 q.0 q.1 in
        let here : (homes q.0.form).overlaps ≡ false
        = ap (λ (x : Option CallInstance). (homes (row_form x)).overlaps) (sym q.1) ∙ none in
        let z : true ≡ false = sym o ∙ (ap (λ (f : ℕ). (homes f).overlaps) (sym same) ∙ here) in
        absurd (let y = z in cc y);
    one = h.one;
  }

  each_row : (P : CallInstance → Type 0) (all rows : List CallInstance) (n : ℕ)
      → ((j : ℕ) (r : CallInstance) → slice_get rows j ≡ Some r → P r) → EachOf P rows
  each_row P all [] n h = tt
  each_row P all (r ∷ rows) n h = (h 0 r refl, each_row P all rows n (λ j q e. h (suc j) q e))

  free_rows : (lower : Bool) (times : List CallInstance) → overlapped homes (call_chain {X = ℕ} lower times) ≡ None
      → EachOf (RowOverlaps homes lower true times) times → EachOf (RowOverlaps homes lower false times) times
  free_rows true times e h = each_row (RowOverlaps homes true false times) times times 0 (λ j r g.
      free_row times (not_over times e) j r g (one_of (RowOverlaps homes true true times) times h j r g))
  free_rows false times e h = each_row (RowOverlaps homes false false times) times times 0 (λ j r g.
      let own = one_of (RowOverlaps homes false true times) times h j r g in
      record { lower_is = own.lower_is; alone_is = λ o. let z = own.lower_is o in absurd (let y = z in cc y); one = own.one })

  -- ---- statements

  module _ (callee : ℕ → Placed) (rule : SpreadRule) where
    abbrev part : Statement → PlacedPart
    part = statement_placed bodies homes callee rule

    -- a spread map stands round it as was asked, but where loops stand that arguments may leave
    abbrev AsAsked : Option (Chain ℕ) → (asked inside : Bool) → Type 0
    AsAsked None asked inside = inside ≡ asked
    AsAsked (Some h) asked inside = Unit {0}

    record GoodAs (p : PlacedPart) (asks : AskedInMaps) (low alike : Bool) : Type 0 where
      lower : p.lower ≡ low
      same : p.same ≡ alike
      call : (u : Chain ℕ) → p.chain ≡ Some u → u.loops ≡ 0 → (asked alone : Bool) → asks asked alone
          → EachOf (RowOverlaps homes true alone u.instances) u.instances
      free : (asked : Bool) → asks asked true → overlapped homes p.chain ≡ None → asks asked false
      plain : (asked : Bool) → asks asked false → (op : Option RedOp) (inside : Bool) → AsAsked p.chain asked inside
          → (k : ℕ) → PlainIn homes (p.placed op inside k)

    abbrev Good : Statement → Type 0
    Good x = GoodAs (part x) (Overlaps homes x) (lower_in x) (same_in x)

    abbrev Known : Type 0
    Known = (x : Statement) × Good x

    abbrev these : List Known → List Statement
    these xs = map (λ (q : Known). q.0) xs

    lowers : (xs : List Known) → any_lower (map part (these xs)) ≡ any_by lower_in (these xs)
    lowers [] = refl
    lowers (x ∷ xs) = ap₂ (λ u v. u || v) x.1.lower (lowers xs)

    sames : (xs : List Known) → any_same (map part (these xs)) ≡ any_by same_in (these xs)
    sames [] = refl
    sames (x ∷ xs) = ap₂ (λ u v. u || v) x.1.same (sames xs)

    -- ---- a call

    row_is_plain : (op : Option RedOp) (lower : Bool) (times : List CallInstance)
        → EachOf (RowOverlaps homes lower false times) times → (k : ℕ) (o : Option CallInstance) → slice_get times k ≡ o
        → PlainIn homes (row_placed bodies homes callee op lower o)
    row_is_plain op lower times h k None e = tt
    row_is_plain op lower times h k (Some r) e =
        row_plain lower times r (one_of (RowOverlaps homes lower false times) times h k r e)

    call_good : (lower : Bool) (times : List CallInstance)
        → GoodAs (placed_step bodies homes callee rule (Statement-F.Call lower times))
        (λ inside alone. EachOf (RowOverlaps homes lower alone times) times) lower (not lower)
    call_good lower times = record {
      lower = refl;
      same = refl;
      call = λ u e none asked alone h. is_call alone lower h u e;
      free = λ asked h e. free_rows lower times e h;
      plain = λ asked h op inside asks k. row_is_plain op lower times h k (slice_get times k) refl;
    }
      where
        rows_or : Option (Chain ℕ) → List CallInstance
        rows_or None = []
        rows_or (Some u) = u.instances

        is_call : (alone low : Bool) → EachOf (RowOverlaps homes low alone times) times → (u : Chain ℕ)
            → call_chain low times ≡ Some u → EachOf (RowOverlaps homes true alone u.instances) u.instances
        is_call alone true h u e =
            subst (λ (rows : List CallInstance). EachOf (RowOverlaps homes true alone rows) rows)
            (ap rows_or e) h
        is_call alone false h u e = absurd (let z = e in cc z)

    -- ---- statements one after another

    all_plain : (xs : List Known) (asked : Bool) → each_in_maps (Overlaps homes) (these xs) asked false
        → (op : Option RedOp) (inside : Bool) → inside ≡ asked → (k : ℕ)
        → PlainIn homes (all_placed (map part (these xs)) op inside k)
    all_plain [] asked h op inside e k = tt
    all_plain (x ∷ xs) asked h op inside e k = (
      x.1.plain asked h.0 op inside (as_asked (part x.0).chain) k,
      all_plain xs asked h.1 op inside e k,
    )
      where
        as_asked : (o : Option (Chain ℕ)) → AsAsked o asked inside
        as_asked None = e
        as_asked (Some u) = tt

    -- ---- maps

    loop_plain : (m : LoopKind) (place : Place) (spread : Option SpreadRule) (count : ℕ) (w : ℕ → Placed)
        → ((t : ℕ) → PlainIn homes (w t)) → PlainIn homes (map_placed m place spread count w)
    loop_plain loop_kind.Sequential place spread count w h = h
    loop_plain loop_kind.Parallel place spread count w h = h
    loop_plain (loop_kind.Reduction r) place spread count w h = h

    hold_plain : (ps : List (ℕ × Argument)) (f : (ℕ × Argument) → PlacedArg) (w : Placed) → PlainIn homes w
        → PlainIn homes (hold_placed ps f w)
    hold_plain [] f w h = h
    hold_plain (p ∷ ps) f w h = h

    chosen : (v : Bool) → is_some (if v then Some rule else None) ≡ v
    chosen true = refl
    chosen false = refl

    -- nothing is held where no chain is
    module _ (place : Place) (m : LoopKind) (counts starts : List ℕ) (xs : List Known) where
      abbrev parts : List PlacedPart
      parts = map part (these xs)

      abbrev spread : Bool → Option SpreadRule
      spread i = spread_of rule m i (any_lower parts) (any_same parts)

      abbrev asked_spread : Bool → Bool
      asked_spread asked = is_spread m asked (any_by lower_in (these xs)) (any_by same_in (these xs))

      spread_as : (i : ℕ) (asked inside : Bool) → inside ≡ asked → is_some (spread inside) ≡ asked_spread asked
      spread_as i asked inside e =
          chosen (is_spread m inside (any_lower parts) (any_same parts))
          ∙ ap₂ (λ u v. is_spread m inside u v) (lowers xs) (sames xs)
          ∙ ap (λ z. is_spread m z (any_by lower_in (these xs)) (any_by same_in (these xs))) e

      abbrev run : (inside : Bool) (k : ℕ) → Placed
      run inside k = pipe_placed bodies homes callee (pipe_of homes m (spread inside) (chains parts)) place
          (get_or counts k 0) (get_or starts k 0)
          (map_placed m place (spread inside) (get_or counts k 0)
          (λ t. all_placed parts (op_of m) (inside || is_some (spread inside)) (get_or starts k 0 + t)))

      run_plain : (inside : Bool) (k : ℕ)
          → ((p : Pipe) → pipe_of homes m (spread inside) (chains parts) ≡ Some p → (t : ℕ)
          → IsOver homes (row_call bodies homes callee (slice_get p.rows t)))
          → (pipe_of homes m (spread inside) (chains parts) ≡ None
          → (t : ℕ) → PlainIn homes (all_placed parts (op_of m) (inside || is_some (spread inside)) (get_or starts k 0 + t)))
          → PlainIn homes (run inside k)
      run_plain inside k g h = by (pipe_of homes m (spread inside) (chains parts)) refl
        where
          by : (o : Option Pipe) → pipe_of homes m (spread inside) (chains parts) ≡ o
              → PlainIn homes (pipe_placed bodies homes callee o place (get_or counts k 0) (get_or starts k 0)
              (map_placed m place (spread inside) (get_or counts k 0)
              (λ t. all_placed parts (op_of m) (inside || is_some (spread inside)) (get_or starts k 0 + t))))
          by None e = loop_plain m place (spread inside) (get_or counts k 0)
              (λ t. all_placed parts (op_of m) (inside || is_some (spread inside)) (get_or starts k 0 + t)) (h e)
          by (Some p) e = λ t. g p e (get_or starts k 0 + t)

    -- the rows of a loop that overlaps its transfers
    row_over : (rows : List CallInstance) → (homes (row_form (slice_get rows 0))).overlaps ≡ true → (alone : Bool)
        → EachOf (RowOverlaps homes true alone rows) rows → (t : ℕ)
        → IsOver homes (row_call bodies homes callee (slice_get rows t))
    row_over rows e alone h t = by (slice_get rows t) refl
      where
        by : (o : Option CallInstance) → slice_get rows t ≡ o → IsOver homes (row_call bodies homes callee o)
        by None g = inl refl
        by (Some r) g =
            let q = first_row rows t r g in
            let first : (homes q.0.form).overlaps ≡ true
            = ap (λ (x : Option CallInstance). (homes (row_form x)).overlaps) (sym q.1) ∙ e in
            let same : r.form ≡ q.0.form
            = (one_of (RowOverlaps homes true alone rows) rows h 0 q.0 q.1).one first t r g in
            inr (ap (λ (f : ℕ). (homes f).overlaps) same ∙ first)

    -- a loop over one statement
    one_plain : (place : Place) (m : LoopKind) (counts starts : List ℕ) (x : Known) (asked inside : Bool)
        → is_some (spread place m counts starts (x ∷ []) inside) ≡ asked_spread place m counts starts (x ∷ []) asked
        → AsAsked (part x.0).chain (asked || asked_spread place m counts starts (x ∷ []) asked)
        (inside || is_some (spread place m counts starts (x ∷ []) inside))
        → each_in_maps (Overlaps homes) (x.0 ∷ []) (asked || asked_spread place m counts starts (x ∷ []) asked)
        (can_overlap m (asked_spread place m counts starts (x ∷ []) asked) (x.0 ∷ []))
        → (k : ℕ) → PlainIn homes (run place m counts starts (x ∷ []) inside k)
    one_plain place m counts starts x asked inside spreads asks h k =
        run_plain place m counts starts (x ∷ []) inside k
        (λ p e t.
        let w = pipe_is homes m (spread place m counts starts (x ∷ []) inside) (part x.0).chain p e in
        subst (λ (rows : List CallInstance). IsOver homes (row_call bodies homes callee (slice_get rows t))) (sym w.rows)
        (row_over w.chain.instances w.overlaps (can_overlap m v (x.0 ∷ []))
        (x.1.call w.chain w.is w.none (asked || v) (can_overlap m v (x.0 ∷ [])) h.0) t))
        (λ e t. (
          x.1.plain (asked || v) (settled (can_overlap m v (x.0 ∷ [])) refl e h.0) (op_of m)
              (inside || is_some (spread place m counts starts (x ∷ []) inside)) asks (get_or starts k 0 + t),
          tt,
        ))
      where
        v : Bool
        v = asked_spread place m counts starts (x ∷ []) asked

        settled : (u : Bool) → can_overlap m v (x.0 ∷ []) ≡ u
            → pipe_of homes m (spread place m counts starts (x ∷ []) inside) ((part x.0).chain ∷ []) ≡ None
            → Overlaps homes x.0 (asked || v) u → Overlaps homes x.0 (asked || v) false
        settled false d e g = g
        settled true d e g = x.1.free (asked || v) g
            (pipe_none homes x.0 m (spread place m counts starts (x ∷ []) inside) (part x.0).chain e
            (ap (λ z. can_overlap m z (x.0 ∷ [])) spreads ∙ d))

    or_nothing : (u : Bool) → (u || false) ≡ u
    or_nothing true = refl
    or_nothing false = refl

    as_same : (o : Option (Chain ℕ)) (u v : Bool) → v ≡ u → AsAsked o u v
    as_same None u v e = e
    as_same (Some c) u v e = tt

    -- one that isn't plain
    beside_plain : (place : Place) (m : LoopKind) (counts starts : List ℕ) (x : Known) (asked inside : Bool)
        → inside ≡ asked
        → each_in_maps (Overlaps homes) (x.0 ∷ []) (asked || asked_spread place m counts starts (x ∷ []) asked)
        (can_overlap m (asked_spread place m counts starts (x ∷ []) asked) (x.0 ∷ []))
        → (k : ℕ) → PlainIn homes (run place m counts starts (x ∷ []) inside k)
    beside_plain place m counts starts x asked inside i h k =
        let spreads = spread_as place m counts starts (x ∷ []) 0 asked inside i in
        one_plain place m counts starts x asked inside spreads
        (as_same (part x.0).chain _ _ (ap₂ (λ u v. u || v) i spreads)) h k

    -- and one over more or less than one statement
    more_plain : (place : Place) (m : LoopKind) (counts starts : List ℕ) (xs : List Known) (asked inside : Bool)
        → inside ≡ asked
        → pipe_of homes m (spread place m counts starts xs inside) (chains (parts place m counts starts xs)) ≡ None
        → each_in_maps (Overlaps homes) (these xs) (asked || asked_spread place m counts starts xs asked) false
        → (k : ℕ) → PlainIn homes (run place m counts starts xs inside k)
    more_plain place m counts starts xs asked inside i none h k =
        run_plain place m counts starts xs inside k
        (λ p e. let z : None ≡ Some p = sym none ∙ e in absurd (cc z)) (λ e t.
        all_plain xs (asked || asked_spread place m counts starts xs asked) h (op_of m)
        (inside || is_some (spread place m counts starts xs inside))
        (ap₂ (λ u v. u || v) i (spread_as place m counts starts xs 0 asked inside i)) (get_or starts k 0 + t))

    map_plain : (place : Place) (m : LoopKind) (counts starts : List ℕ) (xs : List Known) (asked : Bool)
        → each_in_maps (Overlaps homes) (these xs) (asked || asked_spread place m counts starts xs asked)
        (can_overlap m (asked_spread place m counts starts xs asked) (these xs))
        → (inside : Bool) → AsAsked (chain_of first_of m starts (chains (map part (these xs)))) asked inside → (k : ℕ)
        → PlainIn homes (run place m counts starts xs
        (inside || holds (leaving_chain homes (chain_of first_of m starts (chains (map part (these xs)))))) k)
    map_plain place loop_kind.Sequential counts starts [] asked h inside asks k =
        more_plain place loop_kind.Sequential counts starts [] asked (inside || false) (or_nothing inside ∙ asks) (no_pipe (Some None)) tt k
    map_plain place loop_kind.Parallel counts starts [] asked h inside asks k =
        more_plain place loop_kind.Parallel counts starts [] asked (inside || false) (or_nothing inside ∙ asks) (no_pipe (lanes_of loop_kind.Parallel _)) tt k
    map_plain place (loop_kind.Reduction r) counts starts [] asked h inside asks k =
        more_plain place (loop_kind.Reduction r) counts starts [] asked (inside || false) (or_nothing inside ∙ asks) (no_pipe None) tt k
    map_plain place loop_kind.Sequential counts starts (x ∷ []) asked h inside asks k =
        one_plain place loop_kind.Sequential counts starts x asked _ refl (by (part x.0).chain asks) h k
      where
        by : (o : Option (Chain ℕ)) → AsAsked (chain_of first_of loop_kind.Sequential starts (o ∷ [])) asked inside
            → AsAsked o (asked || false)
            ((inside || holds (leaving_chain homes (chain_of first_of loop_kind.Sequential starts (o ∷ [])))) || false)
        by None e = or_nothing (inside || false) ∙ or_nothing inside ∙ e ∙ sym (or_nothing asked)
        by (Some u) e = tt
    map_plain place loop_kind.Parallel counts starts (x ∷ []) asked h inside asks k =
        beside_plain place loop_kind.Parallel counts starts x asked (inside || false) (or_nothing inside ∙ asks) h k
    map_plain place (loop_kind.Reduction r) counts starts (x ∷ []) asked h inside asks k =
        beside_plain place (loop_kind.Reduction r) counts starts x asked (inside || false) (or_nothing inside ∙ asks) h k
    map_plain place loop_kind.Sequential counts starts (x ∷ y ∷ xs) asked h inside asks k =
        more_plain place loop_kind.Sequential counts starts (x ∷ y ∷ xs) asked (inside || false) (or_nothing inside ∙ asks) (no_pipe (Some None)) h
        k
    map_plain place loop_kind.Parallel counts starts (x ∷ y ∷ xs) asked h inside asks k =
        more_plain place loop_kind.Parallel counts starts (x ∷ y ∷ xs) asked (inside || false) (or_nothing inside ∙ asks) (no_pipe (lanes_of loop_kind.Parallel _)) h k
    map_plain place (loop_kind.Reduction r) counts starts (x ∷ y ∷ xs) asked h inside asks k =
        more_plain place (loop_kind.Reduction r) counts starts (x ∷ y ∷ xs) asked (inside || false)
        (or_nothing inside ∙ asks) (no_pipe None) h k

    -- the chain of a loop has a loop
    abbrev loops_or : Option (Chain ℕ) → ℕ
    loops_or None = 1
    loops_or (Some u) = u.loops

    one_more_loops : (starts : List ℕ) (o : Option (Chain ℕ)) (u : Chain ℕ) → one_more first_of starts o ≡ Some u
        → u.loops ≡ 0 → ⊥
    one_more_loops starts None u e z = let y = e in cc y
    one_more_loops starts (Some v) u e z =
        let y : suc v.loops ≡ u.loops = ap loops_or e in omega (arith, y, z)

    has_loops : (m : LoopKind) (starts : List ℕ) (hs : List (Option (Chain ℕ))) (u : Chain ℕ)
        → chain_of first_of m starts hs ≡ Some u → u.loops ≡ 0 → ⊥
    has_loops loop_kind.Sequential starts [] u e z = let y = e in cc y
    has_loops loop_kind.Sequential starts (o ∷ []) u e z = one_more_loops starts o u e z
    has_loops loop_kind.Sequential starts (o ∷ p ∷ os) u e z = let y = e in cc y
    has_loops loop_kind.Parallel starts hs u e z = let y = e in cc y
    has_loops (loop_kind.Reduction r) starts hs u e z = let y = e in cc y

    map_good : (place : Place) (m : LoopKind) (counts starts : List ℕ) (xs : List Known)
        → GoodAs (placed_step bodies homes callee rule (Statement-F.Map place m counts starts (map part (these xs))))
        (overlaps_step homes Statement (λ y. y) (Overlaps homes) (Statement-F.Map place m counts starts (these xs)))
        (any_by lower_in (these xs)) (any_by same_in (these xs))
    map_good place m counts starts xs = record {
      lower = lowers xs;
      same = sames xs;
      call = λ u e none. absurd (has_loops m starts (chains (map part (these xs))) u e none);
      free = λ asked h e. h;
      plain = λ asked h op inside asks k.
          hold_plain (leaving_chain homes (chain_of first_of m starts (chains (map part (these xs))))) _ _
          (map_plain place m counts starts xs asked h inside asks k);
    }

    good_step : (y : Statement-F Known) → Good (roll-Statement (map-Statement Known Statement (λ q. q.0) y))
    good_step (Statement-F.Call lower times) =
        subst Good (sym (b.rolls-Call lower times))
        (subst (λ (p : PlacedPart). GoodAs p (Overlaps homes (b.Call lower times)) (lower_in (b.Call lower times))
        (same_in (b.Call lower times))) (sym (part_call bodies homes callee rule lower times))
        (subst (λ (f : AskedInMaps). GoodAs (placed_step bodies homes callee rule (Statement-F.Call lower times)) f
        (lower_in (b.Call lower times)) (same_in (b.Call lower times))) (sym (overlaps_call homes lower times))
        (subst (λ (v : Bool). GoodAs (placed_step bodies homes callee rule (Statement-F.Call lower times))
        (λ inside alone. EachOf (RowOverlaps homes lower alone times) times) v (same_in (b.Call lower times)))
        (sym (lower_call lower times))
        (subst (GoodAs (placed_step bodies homes callee rule (Statement-F.Call lower times))
        (λ inside alone. EachOf (RowOverlaps homes lower alone times) times) lower) (sym (same_call lower times))
        (call_good lower times)))))
    good_step (Statement-F.Map place m counts starts xs) =
        let x = b.Map place m counts starts (these xs) in
        let p = placed_step bodies homes callee rule (Statement-F.Map place m counts starts (map part (these xs))) in
        let asks = overlaps_step homes Statement (λ y. y) (Overlaps homes) (Statement-F.Map place m counts starts (these xs))
        in
        subst Good (sym (b.rolls-Map place m counts starts (these xs)))
        (subst (λ (q : PlacedPart). GoodAs q (Overlaps homes x) (lower_in x) (same_in x))
        (sym (part_map bodies homes callee rule place m counts starts (these xs)))
        (subst (λ (f : AskedInMaps). GoodAs p f (lower_in x) (same_in x))
        (sym (overlaps_map homes place m counts starts (these xs)))
        (subst (λ (v : Bool). GoodAs p asks v (same_in x))
        (sym (lower_map place m counts starts (these xs) ∙ any_map lower_in (these xs)))
        (subst (GoodAs p asks (any_by lower_in (these xs)))
        (sym (same_map place m counts starts (these xs) ∙ any_map same_in (these xs))) (map_good place m counts starts xs)))))

    good : (x : Statement) → Good x
    good = ind-Statement Good (λ x y is. subst (λ z. Good (roll-Statement z)) is (good_step y))

    abbrev known : List Statement → List Known
    known [] = []
    known (x ∷ xs) = (x, good x) ∷ known xs

    known_are : (xs : List Statement) → these (known xs) ≡ xs
    known_are [] = refl
    known_are (x ∷ xs) = ap (λ ys. x ∷ ys) (known_are xs)

    pub list_plain : (list : List Statement) → each_in_maps (Overlaps homes) list false false
        → PlainIn homes (all_placed (map part list) None false 0)
    list_plain list =
        subst (λ (ys : List Statement). each_in_maps (Overlaps homes) ys false false
        → PlainIn homes (all_placed (map part ys) None false 0)) (known_are list)
        (λ h. all_plain (known list) false h None false refl 0)

  pub body_plain : (callee : ℕ → Placed) (h : Homes) (shapes : List Shape) (x : Body) → BodyOverlaps homes x
      → PlainIn homes (body_placed bodies homes callee h shapes x)
  body_plain callee h shapes (body.Leaf code) o = tt
  body_plain callee h shapes (body.Inner list) o = list_plain callee h.rule list o
