-- Each call that a form's tables begin is begun by itself, or in a loop that overlaps its transfers.
use Rattle.std.proofs.Common.{◌≡◌, ◌⊎◌, inl, inr, ℕ, zero, suc, ◌+◌, ◌<◌, Bool, true, false, ◌||◌, List, [], ◌∷◌, ◌++◌, map}
use Rattle.std.proofs.Common.{length, get_or, slice_get, Option, Some, None, refl, sym, ap, ap₂, subst, ◌∙◌, arith}
use Rattle.std.proofs.Common.{if◌then◌else◌}
use Rattle.std.specs.Prelude.{is_some}
use Rattle.std.specs.List.{flat_map, range_with_len}
use Rattle.sq_text.specs.declared.place.Place.{Place}
use Rattle.sq_ir.specs.Blocks.declared.argument.Argument.{Argument}
use Rattle.sq_spec.specs.declared.statement.LoopKind.{LoopKind}
use Rattle.sq_spec.specs.declared.statement.LoopKind.TheVariants as loop_kind
use Rattle.sq_spec.specs.declared.statement.CallInstance.{CallInstance}
use Rattle.sq_spec.specs.declared.statement.Statement.{Statement, roll-Statement}
use Rattle.sq_spec.specs.declared.statement.Statement.TheVariants as b
use Rattle.sq_spec.specs.declared.statement.Statement.TheOpen.{Statement-F}
use Rattle.sq_spec.specs.declared.statement.Statement.TheFolds.{ind-Statement, map-Statement}
use Rattle.sq_spec.specs.declared.body.Body.{Body}
use Rattle.sq_spec.specs.declared.body.Body.TheVariants as body
use Rattle.sq_spec.specs.Spreads.{is_spread, lower_in, same_in}
use Rattle.sq_spec_laws.specs.Needs.{Turn, turn_in}
use Rattle.sq_placed.specs.declared.home.Homes.{Homes}
use Rattle.sq_placed.specs.Tables.{row_form}
use Rattle.sq_placed.specs.Pipes.{CallLoop, AreHeads, no_heads, more_heads, IsPiped, LoopsStand, all_loops, call_loops}
use Rattle.sq_placed.specs.Pipes.{CallLoops, call_loops_of, loop_round}
use Rattle.sq_placed.proofs.Pipes.{map_loops, loops_left, loops_right, loops_call}
use Rattle.sq_pass_laws.specs.TermLaws.Orders.{EachOf}
use Rattle.sq_pass_laws.specs.TermLaws.Overlapping.{AskedInMaps, each_in_maps, any_by, can_overlap, RowOverlaps, Overlaps}
use Rattle.sq_pass_laws.specs.TermLaws.Overlapping.{BodyOverlaps}
use Rattle.sq_pass_laws.specs.Term.Terms.{row_args}
use Rattle.sq_plan_good.proofs.ProgramLaws.Loops.{each_at}
use Rattle.sq_spec.proofs.InStatements.{lower_call, lower_map, same_call, same_map}
use Rattle.sq_plan_good.proofs.ProgramLaws.TermLaws.Overlaps.{overlaps_call, overlaps_map, any_map}
use Rattle.sq_plan_good.specs.Homes.Begun as tables
use Rattle.sq_plan_good.specs.Homes.Begun.{Begun, BegunPart, calls_in, row_begun, calls_of}
use Rattle.sq_plan_good.specs.Loops.{BegunLoop, Starts, Once, Lanes, StartsPart, any_lower, any_same, starts_in, once}
use Rattle.sq_plan_good.specs.Loops.{in_lanes, map_starts, doubled, doubled_in, starts_by, starts_of}
use Rattle.sq_plan_good.proofs.Terms.{begun_call, begun_map, starts_call, starts_map}
use Rattle.sq_plan_good.proofs.Turning.{Among, among_left, among_right, IsTurn, only_rows}

-- the call is this one, or one of this loop's
pub data IsCovered (homes : ℕ → Homes) (d : Begun) : Starts → Type 0 where
  alone : (homes d.row.form).overlaps ≡ false → IsCovered homes d (Once d)
  lane : {l : BegunLoop} → (t : ℕ) → t < l.count → IsTurn l t d → (homes d.row.form).overlaps ≡ true
      → IsCovered homes d (Lanes l)

abbrev pub Covered : (ℕ → Homes) → Begun → List Starts → Type 0
Covered homes d zs = (z : Starts) × Among z zs × IsCovered homes d z

-- ---- items of lists

among_split : {A : Type 0} (x : A) (xs ys : List A) → Among x (xs ++ ys) → Among x xs ⊎ Among x ys
among_split {A = A} x xs ys h = go xs h.0 h.1
  where
    next : (zs : List A) (z : A) → Among x zs ⊎ Among x ys → Among x (z ∷ zs) ⊎ Among x ys
    next zs z (inl p) = inl (suc p.0, p.1)
    next zs z (inr p) = inr p

    go : (zs : List A) (i : ℕ) → slice_get (zs ++ ys) i ≡ Some x → Among x zs ⊎ Among x ys
    go [] i e = inr (i, e)
    go (z ∷ zs) zero e = inl (0, e)
    go (z ∷ zs) (suc i) e = next zs z (go zs i e)

among_none : {A B : Type 0} (x : A) → Among x [] → B
among_none x h = absurd (cc h.1)

among_flat : {A : Type 0} (x : A) (g : ℕ → List A) (a m : ℕ) → Among x (flat_map g (range_with_len a m))
    → (t : ℕ) × (t < m) × Among x (g (a + t))
among_flat x g a zero h = among_none x h
among_flat {A = A} x g a (suc m) h =
    by (among_split x (g a) (flat_map g (range_with_len (a + 1) m)) h) (λ p. among_flat x g (a + 1) m p)
  where
    by : Among x (g a) ⊎ Among x (flat_map g (range_with_len (a + 1) m))
        → (Among x (flat_map g (range_with_len (a + 1) m)) → (t : ℕ) × (t < m) × Among x (g (a + 1 + t)))
        → (t : ℕ) × (t < suc m) × Among x (g (a + t))
    by (inl p) later = let z : a ≡ a + 0 = omega arith in (0, omega arith, subst (λ (n : ℕ). Among x (g n)) z p)
    by (inr p) later =
        let r = later p in
        let less = r.1 in
        let z : a + 1 + r.0 ≡ a + suc r.0 = omega arith in
        (suc r.0, omega (arith, less), subst (λ (n : ℕ). Among x (g n)) z r.2)

as_long : {xs ys : List Argument} → AreHeads xs ys → length xs ≡ length ys
as_long no_heads = refl
as_long (more_heads h hs) = ap suc (as_long hs)

first_row : (rows : List CallInstance) (i : ℕ) (r : CallInstance) → slice_get rows i ≡ Some r
    → (q : CallInstance) × (slice_get rows 0 ≡ Some q)
first_row [] i r e = absurd (cc e)
first_row (q ∷ rows) i r e = (q, refl)

lanes_rows : (m : LoopKind) (v : Bool) (o : Option (List CallInstance)) (rows : List CallInstance)
    → in_lanes m v o ≡ Some rows → o ≡ Some rows
lanes_rows loop_kind.Sequential v o rows e = e
lanes_rows loop_kind.Parallel true o rows e = e
lanes_rows loop_kind.Parallel false o rows e = absurd (cc e)
lanes_rows (loop_kind.Reduction r) v o rows e = absurd (cc e)

module _ (homes : ℕ → Homes) where
  abbrev starting : Statement → StartsPart
  starting = starts_by homes

  left : (d : Begun) (xs ys : List Starts) → Covered homes d xs → Covered homes d (xs ++ ys)
  left d xs ys h = (h.0, among_left h.0 xs ys h.1, h.2)

  right : (d : Begun) (xs ys : List Starts) → Covered homes d ys → Covered homes d (xs ++ ys)
  right d xs ys h = (h.0, among_right h.0 xs ys h.1, h.2)

  flat : (d : Begun) (f : ℕ → List Starts) (a m t : ℕ) → t < m → Covered homes d (f (a + t))
      → Covered homes d (flat_map f (range_with_len a m))
  flat d f a zero t less h = absurd (omega (arith, less))
  flat d f a (suc m) zero less h =
      let z : a + 0 ≡ a = omega arith in
      left d (f a) (flat_map f (range_with_len (a + 1) m)) (subst (λ (n : ℕ). Covered homes d (f n)) z h)
  flat d f a (suc m) (suc t) less h =
      let z : a + suc t ≡ a + 1 + t = omega arith in
      right d (f a) (flat_map f (range_with_len (a + 1) m))
      (flat d f (a + 1) m t (omega (arith, less)) (subst (λ (n : ℕ). Covered homes d (f n)) z h))

  record Covers (y : Statement) : Type 0 where
    lower : (starting y).lower ≡ (tables.begun y).lower
    same : (starting y).same ≡ (tables.begun y).same
    low : (starting y).lower ≡ lower_in y
    like : (starting y).same ≡ same_in y
    each : LoopsStand homes (call_loops y).loops → (inside sole : Bool) → Overlaps homes y inside sole
        → (sole ≡ true → doubled homes (starting y).call ≡ None) → (turn : Option Turn) (k : ℕ)
        → is_some turn ≡ inside → (d : Begun) → Among d ((tables.begun y).calls turn k)
        → Covered homes d ((starting y).starts turn k)

  abbrev Known : Type 0
  Known = (y : Statement) × Covers y

  abbrev list_of : List Known → List Statement
  list_of = map (λ q. q.0)

  lowers : (ys : List Known) → any_lower (map starting (list_of ys)) ≡ tables.any_lower (map tables.begun (list_of ys))
  lowers [] = refl
  lowers (y ∷ ys) = ap₂ (λ u v. u || v) y.1.lower (lowers ys)

  sames : (ys : List Known) → any_same (map starting (list_of ys)) ≡ tables.any_same (map tables.begun (list_of ys))
  sames [] = refl
  sames (y ∷ ys) = ap₂ (λ u v. u || v) y.1.same (sames ys)

  lows : (ys : List Known) → any_lower (map starting (list_of ys)) ≡ any_by lower_in (list_of ys)
  lows [] = refl
  lows (y ∷ ys) = ap₂ (λ u v. u || v) y.1.low (lows ys)

  likes : (ys : List Known) → any_same (map starting (list_of ys)) ≡ any_by same_in (list_of ys)
  likes [] = refl
  likes (y ∷ ys) = ap₂ (λ u v. u || v) y.1.like (likes ys)

  -- none of these is a call whose loop overlaps
  abbrev Free : Bool → List Known → Type 0
  Free sole [] = Unit {0}
  Free sole (y ∷ ys) = (sole ≡ true → doubled homes (starting y.0).call ≡ None) × Free sole ys

  free_false : (ys : List Known) → Free false ys
  free_false [] = tt
  free_false (y ∷ ys) = (λ e. absurd (let z : ◌≡◌ {A = Bool} false true = e in cc z), free_false ys)

  all_cover : (ys : List Known) → LoopsStand homes (all_loops (map call_loops (list_of ys))) → (inside sole : Bool)
      → each_in_maps (Overlaps homes) (list_of ys) inside sole → Free sole ys → (turn : Option Turn) (k : ℕ)
      → is_some turn ≡ inside → (d : Begun) → Among d (calls_in (map tables.begun (list_of ys)) turn k)
      → Covered homes d (starts_in (map starting (list_of ys)) turn k)
  all_cover [] stands inside sole asked free turn k is d among = among_none d among
  all_cover (y ∷ ys) stands inside sole asked free turn k is d among =
      by (among_split d ((tables.begun y.0).calls turn k) (calls_in (map tables.begun (list_of ys)) turn k) among)
      (λ p. all_cover ys (loops_right homes (call_loops y.0).loops (all_loops (map call_loops (list_of ys))) stands)
      inside sole asked.1 free.1 turn k is d p)
    where
      by : Among d ((tables.begun y.0).calls turn k) ⊎ Among d (calls_in (map tables.begun (list_of ys)) turn k)
          → (Among d (calls_in (map tables.begun (list_of ys)) turn k)
          → Covered homes d (starts_in (map starting (list_of ys)) turn k))
          → Covered homes d ((starting y.0).starts turn k ++ starts_in (map starting (list_of ys)) turn k)
      by (inl p) later =
          left d ((starting y.0).starts turn k) (starts_in (map starting (list_of ys)) turn k)
          (y.1.each (loops_left homes (call_loops y.0).loops (all_loops (map call_loops (list_of ys))) stands)
          inside sole asked.0 free.0 turn k is d p)
      by (inr p) later =
          right d ((starting y.0).starts turn k) (starts_in (map starting (list_of ys)) turn k) (later p)

  -- ---- a call

  module _ (lower sole : Bool) (times : List CallInstance) (rows : EachOf (RowOverlaps homes lower sole times) times)
      (free : sole ≡ true → doubled homes (if lower then Some times else None) ≡ None) where
    none_doubled : (v : Bool) → v ≡ true → doubled homes (if v then Some times else None) ≡ None
        → (q : CallInstance) → slice_get times 0 ≡ Some q → (homes q.form).overlaps ≡ true → ⊥
    none_doubled false e h q first g = absurd (let z : ◌≡◌ {A = Bool} false true = e in cc z)
    none_doubled true e h q first g =
        let is : (homes (row_form (slice_get times 0))).overlaps ≡ true =
        ap (λ (o : Option CallInstance). (homes (row_form o)).overlaps) first ∙ g in
        let some : Some times ≡ None = sym (ap (λ (v : Bool). if v then Some times else None) is) ∙ h in
        absurd (cc some)

    row_alone : (k : ℕ) (q : CallInstance) → slice_get times k ≡ Some q → (homes q.form).overlaps ≡ false
    row_alone k q e = by (homes q.form).overlaps refl
      where
        by : (v : Bool) → (homes q.form).overlaps ≡ v → v ≡ false
        by false g = refl
        by true g =
            let row = each_at (RowOverlaps homes lower sole times) times k q rows e in
            let first = first_row times k q e in
            let same : (homes first.0.form).overlaps ≡ true =
            ap (λ (n : ℕ). (homes n).overlaps) (row.one g 0 first.0 first.1) ∙ g in
            absurd (none_doubled lower (row.lower_is g) (free (row.alone_is g)) first.0 first.1 same)

    row_covered : (turn : Option Turn) (k : ℕ) (d : Begun) (o : Option CallInstance) → slice_get times k ≡ o
        → Among d (row_begun lower turn o) → Covered homes d (once lower turn o)
    row_covered turn k d None e among = among_none d among
    row_covered turn k d (Some q) e among = by among.0 among.1
      where
        by : (i : ℕ) → slice_get (record { row = q; lower = lower; turn = turn } ∷ []) i ≡ Some d
            → Covered homes d (Once (record { row = q; lower = lower; turn = turn }) ∷ [])
        by zero h =
            let own : Begun = record { row = q; lower = lower; turn = turn } in
            let is : own ≡ d = cc h in
            subst (λ (x : Begun). Covered homes x (Once own ∷ [])) is (Once own, (0, refl), alone (row_alone k q e))
        by (suc i) h = absurd (cc h)

  call_covers : (lower : Bool) (times : List CallInstance) → Covers (b.Call lower times)
  call_covers lower times = record {
    lower = ap (λ (p : StartsPart). p.lower) (starts_call homes lower times)
        ∙ sym (ap (λ (p : BegunPart). p.lower) (begun_call lower times));
    same = ap (λ (p : StartsPart). p.same) (starts_call homes lower times)
        ∙ sym (ap (λ (p : BegunPart). p.same) (begun_call lower times));
    low = ap (λ (p : StartsPart). p.lower) (starts_call homes lower times) ∙ sym (lower_call lower times);
    like = ap (λ (p : StartsPart). p.same) (starts_call homes lower times) ∙ sym (same_call lower times);
    each = λ stands inside sole asked free turn k is d among.
        subst (λ (p : StartsPart). Covered homes d (p.starts turn k)) (sym (starts_call homes lower times))
        (row_covered lower sole times (subst (λ (f : AskedInMaps). f inside sole) (overlaps_call homes lower times) asked)
        (λ e. sym (ap (λ (p : StartsPart). doubled homes p.call) (starts_call homes lower times)) ∙ free e)
        turn k d (slice_get times k) refl
        (subst (λ (p : BegunPart). Among d (p.calls turn k)) (begun_call lower times) among));
  }

  -- ---- a loop that overlaps its transfers

  module _ (m : LoopKind) (counts starts : List ℕ) (rows : List CallInstance)
      (piped : IsPiped (record { kind = m; rows = rows; counts = counts; starts = starts }))
      (overlaps : (homes (row_form (slice_get rows 0))).overlaps ≡ true) (v : Bool) (turn : Option Turn) (k : ℕ) where
    abbrev count : ℕ
    count = get_or counts k 0

    abbrev loop : BegunLoop
    loop = record { row = slice_get rows 0; spread = v; count = get_or counts k 0; turn = turn }

    row_in : (t : ℕ) → t < count → (d : Begun) (o : Option CallInstance) → slice_get rows (get_or starts k 0 + t) ≡ o
        → Among d (row_begun true (turn_in v turn count t) o) → Covered homes d (Lanes loop ∷ [])
    row_in t less d None e among = among_none d among
    row_in t less d (Some q) e among = by among.0 among.1
      where
        by : (i : ℕ) → slice_get (record { row = q; lower = true; turn = turn_in v turn count t } ∷ []) i ≡ Some d
            → Covered homes d (Lanes loop ∷ [])
        by zero h =
            let own : Begun = record { row = q; lower = true; turn = turn_in v turn count t } in
            let is : own ≡ d = cc h in
            let first = first_row rows (get_or starts k 0 + t) q e in
            let form : q.form ≡ row_form (slice_get rows 0) =
            piped.form (get_or starts k 0 + t) 0 q first.0 e first.1
            ∙ sym (ap (λ (o : Option CallInstance). row_form o) first.1) in
            let many = as_long (piped.heads (get_or starts k 0 + t) 0 q first.0 e first.1)
            ∙ sym (ap (λ (o : Option CallInstance). length (row_args o)) first.1) in
            let its : IsTurn loop t own = record { lower = refl; turn = refl; form = form; many = many } in
            subst (λ (x : Begun). Covered homes x (Lanes loop ∷ [])) is
            (Lanes loop, (0, refl), lane t less its (ap (λ (n : ℕ). (homes n).overlaps) form ∙ overlaps))
        by (suc i) h = absurd (cc h)

    loop_covered : (d : Begun)
        → Among d (flat_map (λ t. calls_in (map tables.begun (b.Call true rows ∷ [])) (turn_in v turn count t)
        (get_or starts k 0 + t)) (range_with_len 0 count)) → Covered homes d (Lanes loop ∷ [])
    loop_covered d among =
        let f = among_flat d (λ t. calls_in (map tables.begun (b.Call true rows ∷ [])) (turn_in v turn count t)
        (get_or starts k 0 + t)) 0 count among in
        let z : 0 + f.0 ≡ f.0 = omega arith in
        by f.0 f.1 (among_split d ((tables.begun (b.Call true rows)).calls (turn_in v turn count f.0)
        (get_or starts k 0 + f.0)) []
        (subst (λ (n : ℕ). Among d (calls_in (map tables.begun (b.Call true rows ∷ [])) (turn_in v turn count n)
        (get_or starts k 0 + n))) z f.2))
      where
        by : (t : ℕ) → t < count
            → Among d ((tables.begun (b.Call true rows)).calls (turn_in v turn count t) (get_or starts k 0 + t))
            ⊎ Among d [] → Covered homes d (Lanes loop ∷ [])
        by t less (inl p) =
            row_in t less d (slice_get rows (get_or starts k 0 + t)) refl
            (subst (λ (q : BegunPart). Among d (q.calls (turn_in v turn count t) (get_or starts k 0 + t)))
            (begun_call true rows) p)
        by t less (inr p) = among_none d p

  -- ---- a map

  or_true : (x : Bool) → true ≡ (x || true)
  or_true true = refl
  or_true false = refl

  or_false : (x : Bool) → x ≡ (x || false)
  or_false true = refl
  or_false false = refl

  round_is : (v inside : Bool) (turn : Option Turn) (count t : ℕ) → is_some turn ≡ inside
      → is_some (turn_in v turn count t) ≡ (inside || v)
  round_is true inside turn m t e = or_true inside
  round_is false inside turn m t e = e ∙ or_false inside

  free_parts : (m : LoopKind) (v : Bool) (ys : List Known) → in_lanes m v (doubled_in homes (map starting (list_of ys))) ≡ None
      → Free (can_overlap m v (list_of ys)) ys
  free_parts m v [] h = tt
  free_parts loop_kind.Sequential v (y ∷ []) h = (λ e. h, tt)
  free_parts loop_kind.Parallel v (y ∷ []) h = (λ e. by v e h, tt)
    where
      by : (u : Bool) → u ≡ true → in_lanes loop_kind.Parallel u (doubled homes (starting y.0).call) ≡ None
          → doubled homes (starting y.0).call ≡ None
      by true e g = g
      by false e g = absurd (let z : ◌≡◌ {A = Bool} false true = e in cc z)
  free_parts (loop_kind.Reduction s) v (y ∷ []) h = free_false (y ∷ [])
  free_parts loop_kind.Sequential v (y ∷ z ∷ ys) h = free_false (y ∷ z ∷ ys)
  free_parts loop_kind.Parallel v (y ∷ z ∷ ys) h = free_false (y ∷ z ∷ ys)
  free_parts (loop_kind.Reduction s) v (y ∷ z ∷ ys) h = free_false (y ∷ z ∷ ys)

  map_covers : (place : Place) (m : LoopKind) (counts starts : List ℕ) (ys : List Known)
      → Covers (b.Map place m counts starts (list_of ys))
  map_covers place m counts starts ys = record {
    lower = ap (λ (p : StartsPart). p.lower) (starts_map homes place m counts starts (list_of ys)) ∙ lowers ys
        ∙ sym (ap (λ (p : BegunPart). p.lower) (begun_map place m counts starts (list_of ys)));
    same = ap (λ (p : StartsPart). p.same) (starts_map homes place m counts starts (list_of ys)) ∙ sames ys
        ∙ sym (ap (λ (p : BegunPart). p.same) (begun_map place m counts starts (list_of ys)));
    low = ap (λ (p : StartsPart). p.lower) (starts_map homes place m counts starts (list_of ys)) ∙ lows ys
        ∙ sym (lower_map place m counts starts (list_of ys) ∙ any_map lower_in (list_of ys));
    like = ap (λ (p : StartsPart). p.same) (starts_map homes place m counts starts (list_of ys)) ∙ likes ys
        ∙ sym (same_map place m counts starts (list_of ys) ∙ any_map same_in (list_of ys));
    each = λ stands inside sole asked free turn k is d among.
        subst (λ (p : StartsPart). Covered homes d (p.starts turn k))
        (sym (starts_map homes place m counts starts (list_of ys)))
        (subst (λ (v : Bool). Covered homes d (map_starts (in_lanes m v (doubled_in homes (map starting (list_of ys)))) v
        (get_or counts k 0) (get_or starts k 0) turn (map starting (list_of ys)))) (sym (spread_same turn))
        (by (its_spread turn) inside turn k is (sym (spread_same turn) ∙ asked_same inside turn is) d stands
        (subst (λ (f : AskedInMaps). f inside sole) (overlaps_map homes place m counts starts (list_of ys)) asked)
        (in_lanes m (its_spread turn) (doubled_in homes (map starting (list_of ys)))) refl
        (subst (λ (p : BegunPart). Among d (p.calls turn k)) (begun_map place m counts starts (list_of ys)) among)));
  }
    where
      own_spread : Option Turn → Bool
      own_spread turn = is_spread m (is_some turn) (any_lower (map starting (list_of ys))) (any_same (map starting (list_of ys)))

      its_spread : Option Turn → Bool
      its_spread turn = is_spread m (is_some turn) (tables.any_lower (map tables.begun (list_of ys)))
          (tables.any_same (map tables.begun (list_of ys)))

      spread_same : (turn : Option Turn) → own_spread turn ≡ its_spread turn
      spread_same turn = ap₂ (is_spread m (is_some turn)) (lowers ys) (sames ys)

      asked_same : (inside : Bool) (turn : Option Turn) → is_some turn ≡ inside
          → own_spread turn ≡ is_spread m inside (any_by lower_in (list_of ys)) (any_by same_in (list_of ys))
      asked_same inside turn is =
          ap₂ (is_spread m (is_some turn)) (lows ys) (likes ys)
          ∙ ap (λ (i : Bool). is_spread m i (any_by lower_in (list_of ys)) (any_by same_in (list_of ys))) is

      by : (v inside : Bool) (turn : Option Turn) (k : ℕ) → is_some turn ≡ inside
          → v ≡ is_spread m inside (any_by lower_in (list_of ys)) (any_by same_in (list_of ys)) → (d : Begun)
          → LoopsStand homes (call_loops (b.Map place m counts starts (list_of ys))).loops
          → each_in_maps (Overlaps homes) (list_of ys)
          (inside || is_spread m inside (any_by lower_in (list_of ys)) (any_by same_in (list_of ys)))
          (can_overlap m (is_spread m inside (any_by lower_in (list_of ys)) (any_by same_in (list_of ys))) (list_of ys))
          → (o : Option (List CallInstance)) → in_lanes m v (doubled_in homes (map starting (list_of ys))) ≡ o
          → Among d (flat_map (λ t. calls_in (map tables.begun (list_of ys)) (turn_in v turn (get_or counts k 0) t)
          (get_or starts k 0 + t)) (range_with_len 0 (get_or counts k 0)))
          → Covered homes d (map_starts o v (get_or counts k 0) (get_or starts k 0) turn (map starting (list_of ys)))
      by v inside turn k is spread d stands asked None e among =
          let f = among_flat d (λ t. calls_in (map tables.begun (list_of ys)) (turn_in v turn (get_or counts k 0) t)
          (get_or starts k 0 + t)) 0 (get_or counts k 0) among in
          let own = subst (λ (u : Bool). each_in_maps (Overlaps homes) (list_of ys) (inside || u)
          (can_overlap m u (list_of ys))) (sym spread) asked in
          flat d (λ t. starts_in (map starting (list_of ys)) (turn_in v turn (get_or counts k 0) t)
          (get_or starts k 0 + t)) 0 (get_or counts k 0) f.0 f.1
          (all_cover ys (map_loops homes place m counts starts (list_of ys) stands).1 (inside || v)
          (can_overlap m v (list_of ys)) own (free_parts m v ys e) (turn_in v turn (get_or counts k 0) (0 + f.0))
          (get_or starts k 0 + (0 + f.0)) (round_is v inside turn (get_or counts k 0) (0 + f.0) is) d f.2)
      by v inside turn k is spread d stands asked (Some rows) e among =
          let only = only_rows homes (list_of ys) rows (lanes_rows m v _ rows e) in
          let piped = loop_piped rows only.1 (subst (λ (xs : List Statement). LoopsStand homes
          (loop_round m counts starts (map call_loops xs))) only.0
          (map_loops homes place m counts starts (list_of ys) stands).0) in
          loop_covered m counts starts rows piped only.1 v turn k d
          (subst (λ (xs : List Statement). Among d (flat_map (λ t. calls_in (map tables.begun xs)
          (turn_in v turn (get_or counts k 0) t) (get_or starts k 0 + t)) (range_with_len 0 (get_or counts k 0))))
          only.0 among)
        where
          loop_piped : (rows : List CallInstance) → (homes (row_form (slice_get rows 0))).overlaps ≡ true
              → LoopsStand homes (loop_round m counts starts (map call_loops (b.Call true rows ∷ [])))
              → IsPiped (record { kind = m; rows = rows; counts = counts; starts = starts })
          loop_piped rows overlaps stands =
              (subst (λ (ls : List CallLoop). LoopsStand homes ls)
              (ap (λ (l : CallLoops). loop_round m counts starts (l ∷ [])) (loops_call true rows)) stands).0 overlaps

  cover_step : (y : Statement-F Known) → Covers (roll-Statement (map-Statement Known Statement (λ p. p.0) y))
  cover_step (Statement-F.Call lower times) = subst Covers (sym (b.rolls-Call lower times)) (call_covers lower times)
  cover_step (Statement-F.Map place m counts starts ys)
      = subst Covers (sym (b.rolls-Map place m counts starts (list_of ys))) (map_covers place m counts starts ys)

  covers : (y : Statement) → Covers y
  covers = ind-Statement Covers (λ y z is. subst (λ w. Covers (roll-Statement w)) is (cover_step z))

  abbrev known : List Statement → List Known
  known [] = []
  known (y ∷ ys) = (y, covers y) ∷ known ys

  known_are : (ys : List Statement) → list_of (known ys) ≡ ys
  known_are [] = refl
  known_are (y ∷ ys) = ap (λ zs. y ∷ zs) (known_are ys)

  pub body_covers : (x : Body) → LoopsStand homes (call_loops_of x) → BodyOverlaps homes x → (d : Begun)
      → Among d (calls_of x) → Covered homes d (starts_of homes x)
  body_covers (body.Leaf code) stands asked d among = among_none d among
  body_covers (body.Inner list) stands asked d among =
      subst (λ (ys : List Statement). LoopsStand homes (all_loops (map call_loops ys))
      → each_in_maps (Overlaps homes) ys false false → Among d (calls_in (map tables.begun ys) None 0)
      → Covered homes d (starts_in (map starting ys) None 0)) (known_are list)
      (λ s a p. all_cover (known list) s false false a (free_false (known list)) None 0 refl d p) stands asked among
