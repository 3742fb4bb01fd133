-- Each call that a form's tables begin is among what the form starts: on its own, or as an iteration of a loop that overlaps its transfers.
use Rattle.std.proofs.Common.{◌≡◌, ℕ, zero, suc, ◌+◌, ◌<◌, Bool, true, false, ◌||◌, List, [], ◌∷◌, ◌++◌, map, length, get_or, slice_get, Option, Some, None, is_some, refl, sym, ap, ap₂, subst, ◌∙◌, ◌⊎◌, inl, inr, arith, if◌then◌else◌}
use Rattle.std.specs.List.{flat_map, range_with_len}
use Rattle.sq_text.specs.declared.place.Place.{Place}
use Rattle.sq_blocks.specs.declared.argument.Argument.{Argument}
use Rattle.sq_spec.specs.declared.statement.LoopKind.{LoopKind}
use Rattle.sq_spec.specs.declared.statement.LoopKind.TheVariants as loop_kind
use Rattle.sq_spec.specs.declared.statement.CallInstance.{CallInstance}
use Rattle.sq_spec.specs.declared.statement.Statement.{Statement, roll-Statement}
use Rattle.sq_spec.specs.declared.statement.Statement.TheVariants as b
use Rattle.sq_spec.specs.declared.statement.Statement.TheOpen.{Statement-F}
use Rattle.sq_spec.specs.declared.statement.Statement.TheFolds.{ind-Statement, map-Statement, fold-roll-Statement}
use Rattle.sq_spec.specs.declared.body.Body.{Body}
use Rattle.sq_spec.specs.declared.body.Body.TheVariants as body
use Rattle.sq_spec.specs.Spreads.{any_of, is_spread, lower_in, same_in}
use Rattle.sq_spec_laws.specs.Needs.{Turn, turn_in}
use Rattle.sq_meant.specs.PlanGood.DraftLaws.TermLaws.Orders.{EachOf}
use Rattle.sq_meant.specs.PlanGood.DraftLaws.TermLaws.Overlapping.{AskedInMaps, each_in_maps, any_by, can_overlap, RowOverlaps, Overlaps, BodyOverlaps}
use Rattle.sq_meant.specs.PlanGood.Homes.Begun as tables
use Rattle.sq_meant.specs.PlanGood.Homes.Begun.{Begun, BegunPart, calls_in, row_begun, calls_of}
use Rattle.sq_meant.specs.PlanGood.Loops.{BegunLoop, Starts, Once, Lanes, StartsPart, any_lower, any_same, starts_in, once, in_lanes, map_starts, doubled, doubled_in, starts_by, starts_of}
use Rattle.sq_meant.specs.PlanGood.Term.Placed.declared.home.Homes.{Homes}
use Rattle.sq_meant.specs.PlanGood.Term.Placed.Pipes.{CallLoop, CallLoops, AreHeads, no_heads, more_heads, IsPiped, LoopsStand, all_loops, call_loops, call_loops_of, call_loops_step, loop_round}
use Rattle.sq_meant.specs.PlanGood.Term.Placed.Tables.{row_form}
use Rattle.sq_meant.specs.PlanGood.Term.Terms.{row_args}
use Rattle.sq_spec.proofs.InStatements.{lower_call, lower_map, same_call, same_map}
use Rattle.sq_meant.proofs.PlanGood.DraftLaws.TermLaws.Overlaps.{overlaps_call, overlaps_map}
use Rattle.sq_meant.proofs.PlanGood.Terms.{begun_call, begun_map, starts_call, starts_map}
use Rattle.sq_meant.proofs.PlanGood.Turning.{Among, among_left, among_right, EachIn, each_both, each_weaker, each_item, IsTurn, only_rows}

-- ---- loops of lower calls

loops_call : (lower : Bool) (instances : List CallInstance) → call_loops (b.Call lower instances) ≡ call_loops_step (Statement-F.Call lower instances)
loops_call lower instances = ap call_loops (sym (b.rolls-Call lower instances)) ∙ fold-roll-Statement CallLoops call_loops_step (Statement-F.Call lower instances)

loops_map : (place : Place) (m : LoopKind) (counts starts : List ℕ) (body : List Statement)
    → call_loops (b.Map place m counts starts body) ≡ call_loops_step (Statement-F.Map place m counts starts (map call_loops body))
loops_map place m counts starts body =
    ap call_loops (sym (b.rolls-Map place m counts starts body)) ∙ fold-roll-Statement CallLoops call_loops_step (Statement-F.Map place m counts starts body)

loops_left : (homes : ℕ → Homes) (xs ys : List CallLoop) → LoopsStand homes (xs ++ ys) → LoopsStand homes xs
loops_left homes [] ys h = tt
loops_left homes (x ∷ xs) ys h = (h.0, loops_left homes xs ys h.1)

loops_right : (homes : ℕ → Homes) (xs ys : List CallLoop) → LoopsStand homes (xs ++ ys) → LoopsStand homes ys
loops_right homes [] ys h = h
loops_right homes (x ∷ xs) ys h = loops_right homes xs ys h.1

map_loops : (homes : ℕ → Homes) (place : Place) (m : LoopKind) (counts starts : List ℕ) (xs : List Statement)
    → LoopsStand homes (call_loops (b.Map place m counts starts xs)).loops
    → LoopsStand homes (loop_round m counts starts (map call_loops xs)) × LoopsStand homes (all_loops (map call_loops xs))
map_loops homes place m counts starts xs h =
    let both = subst (λ (l : CallLoops). LoopsStand homes l.loops) (loops_map place m counts starts xs) h in (
      loops_left homes (loop_round m counts starts (map call_loops xs)) (all_loops (map call_loops xs)) both,
      loops_right homes (loop_round m counts starts (map call_loops xs)) (all_loops (map call_loops xs)) both,
    )

-- ---- lists

as_long : {xs ys : List Argument} → AreHeads xs ys → length xs ≡ length ys
as_long no_heads = refl
as_long (more_heads h hs) = ap suc (as_long hs)

first_row : (rows : List CallInstance) (i : ℕ) (r : CallInstance) → slice_get rows i ≡ Some r → (q : CallInstance) × (slice_get rows 0 ≡ Some q)
first_row [] i r e = absurd (cc e)
first_row (q ∷ rows) i r e = (q, refl)

each_of_at : {A : Type 0} (P : A → Type 0) (xs : List A) → EachOf P xs → (i : ℕ) (x : A) → slice_get xs i ≡ Some x → P x
each_of_at P [] h i x e = absurd (cc e)
each_of_at P (y ∷ xs) h zero x e = let is : y ≡ x = cc e in subst P is h.0
each_of_at P (y ∷ xs) h (suc i) x e = each_of_at P xs h.1 i x e

each_range : {A : Type 0} (P : A → Type 0) (g : ℕ → List A) (a m : ℕ) → ((t : ℕ) → t < a + m → EachIn P (g t)) → EachIn P (flat_map g (range_with_len a m))
each_range P g a zero h = tt
each_range P g a (suc m) h =
    each_both P (g a) (flat_map g (range_with_len (a + 1) m)) (h a (omega arith)) (each_range P g (a + 1) m (λ t l. h t (omega (arith, l))))

turned : (v : Bool) (turn : Option Turn) (count t : ℕ) → is_some turn || v ≡ is_some (turn_in v turn count t)
turned true None count t = refl
turned true (Some u) count t = refl
turned false None count t = refl
turned false (Some u) count t = refl

lanes_rows : (m : LoopKind) (v : Bool) (o : Option (List CallInstance)) (rows : List CallInstance) → in_lanes m v o ≡ Some rows → o ≡ Some rows
lanes_rows loop_kind.Sequential v o rows e = e
lanes_rows loop_kind.Parallel true o rows e = e
lanes_rows loop_kind.Parallel false o rows e = absurd (cc e)
lanes_rows (loop_kind.Reduction r) v o rows e = absurd (cc e)

not_alone : (m : LoopKind) (v : Bool) {X : Type 0} (x y : X) (xs : List X) → can_overlap m v (x ∷ y ∷ xs) ≡ false
not_alone loop_kind.Sequential v x y xs = refl
not_alone loop_kind.Parallel v x y xs = refl
not_alone (loop_kind.Reduction r) v x y xs = refl

module _ (homes : ℕ → Homes) where
  abbrev starting : Statement → StartsPart
  starting = starts_by homes

  -- the start is this call, or a loop that overlaps its transfers in which it stands
  abbrev pub StartsCall : Begun → Starts → Type 0
  StartsCall d (Once e) = (e ≡ d) × ((homes d.row.form).overlaps ≡ false)
  StartsCall d (Lanes l) = (t : ℕ) × (t < l.count) × IsTurn l t d × ((homes d.row.form).overlaps ≡ true)

  pub record Covered (zs : List Starts) (d : Begun) : Type 0 where
    pub start : Starts
    pub among : Among start zs
    pub is : StartsCall d start

  cover_left : (xs ys : List Starts) (d : Begun) → Covered xs d → Covered (xs ++ ys) d
  cover_left xs ys d h = record { start = h.start; among = among_left h.start xs ys h.among; is = h.is }

  cover_right : (xs ys : List Starts) (d : Begun) → Covered ys d → Covered (xs ++ ys) d
  cover_right xs ys d h = record { start = h.start; among = among_right h.start xs ys h.among; is = h.is }

  cover_both : (xs ys : List Starts) (ds es : List Begun) → EachIn (Covered xs) ds → EachIn (Covered ys) es → EachIn (Covered (xs ++ ys)) (ds ++ es)
  cover_both xs ys ds es f g =
      each_both (Covered (xs ++ ys)) ds es (each_weaker (Covered xs) (Covered (xs ++ ys)) (cover_left xs ys) ds f)
      (each_weaker (Covered ys) (Covered (xs ++ ys)) (cover_right xs ys) es g)

  cover_all : (f : ℕ → List Starts) (g : ℕ → List Begun) → ((t : ℕ) → EachIn (Covered (f t)) (g t)) → (a m : ℕ)
      → EachIn (Covered (flat_map f (range_with_len a m))) (flat_map g (range_with_len a m))
  cover_all f g h a zero = tt
  cover_all f g h a (suc m) =
      cover_both (f a) (flat_map f (range_with_len (a + 1) m)) (g a) (flat_map g (range_with_len (a + 1) m)) (h a) (cover_all f g h (a + 1) m)

  -- it isn't alone in a loop that can overlap, or isn't a call whose form overlaps
  abbrev Free : Bool → Statement → Type 0
  Free alone y = (alone ≡ false) ⊎ (doubled homes (starting y).call ≡ None)

  record Covers (y : Statement) : Type 0 where
    starts_lower : (starting y).lower ≡ (tables.begun y).lower
    starts_same : (starting y).same ≡ (tables.begun y).same
    low : lower_in y ≡ (tables.begun y).lower
    alike : same_in y ≡ (tables.begun y).same
    each : (alone : Bool) (turn : Option Turn) → Overlaps homes y (is_some turn) alone → LoopsStand homes (call_loops y).loops → Free alone y → (k : ℕ)
        → EachIn (Covered ((starting y).starts turn k)) ((tables.begun y).calls turn k)

  abbrev Known : Type 0
  Known = (y : Statement) × Covers y

  abbrev list_of : List Known → List Statement
  list_of = map (λ q. q.0)

  -- ---- a call

  module _ (lower : Bool) (times : List CallInstance) where
    row_free : (alone : Bool) → EachOf (RowOverlaps homes lower alone times) times → (alone ≡ false) ⊎ (doubled homes (if lower then Some times else None) ≡ None)
        → (k : ℕ) (r : CallInstance) → slice_get times k ≡ Some r → (homes r.form).overlaps ≡ false
    row_free alone asked free k r at = by (homes r.form).overlaps refl
      where
        its : RowOverlaps homes lower alone times r
        its = each_of_at (RowOverlaps homes lower alone times) times asked k r at

        clash : (homes r.form).overlaps ≡ true → (alone ≡ false) ⊎ (doubled homes (if lower then Some times else None) ≡ None) → ⊥
        clash o (inl e) = let a = its.alone_is o in absurd (cc (a, e))
        clash o (inr e) =
            let q = first_row times k r at in
            let same = its.one o 0 q.0 q.1 in
            let over : (homes (row_form (slice_get times 0))).overlaps ≡ true =
            ap (λ (x : Option CallInstance). (homes (row_form x)).overlaps) q.1 ∙ ap (λ (f : ℕ). (homes f).overlaps) same ∙ o in
            let some : doubled homes (if lower then Some times else None) ≡ Some times =
            ap (λ (v : Bool). doubled homes (if v then Some times else None)) (its.lower_is o)
            ∙ ap (λ (v : Bool). if v then Some times else None) over in
            absurd (let z : None ≡ Some times = sym e ∙ some in cc z)

        by : (v : Bool) → (homes r.form).overlaps ≡ v → v ≡ false
        by true e = absurd (clash e free)
        by false e = refl

    call_covers : Covers (b.Call lower times)
    call_covers = record {
      starts_lower = ap (λ (p : StartsPart). p.lower) (starts_call homes lower times) ∙ sym (ap (λ (p : BegunPart). p.lower) (begun_call lower times));
      starts_same = ap (λ (p : StartsPart). p.same) (starts_call homes lower times) ∙ sym (ap (λ (p : BegunPart). p.same) (begun_call lower times));
      low = lower_call lower times ∙ sym (ap (λ (p : BegunPart). p.lower) (begun_call lower times));
      alike = same_call lower times ∙ sym (ap (λ (p : BegunPart). p.same) (begun_call lower times));
      each = λ alone turn asked loops free k.
          subst (λ (p : StartsPart). EachIn (Covered (p.starts turn k)) ((tables.begun (b.Call lower times)).calls turn k)) (sym (starts_call homes lower times))
          (subst (λ (p : BegunPart). EachIn (Covered (once lower turn (slice_get times k))) (p.calls turn k)) (sym (begun_call lower times))
          (by turn (slice_get times k) (λ r e. row_free alone
          (subst (λ (f : AskedInMaps). f (is_some turn) alone) (overlaps_call homes lower times) asked)
          (subst (λ (p : StartsPart). (alone ≡ false) ⊎ (doubled homes p.call ≡ None)) (starts_call homes lower times) free) k r e)));
    }
      where
        by : (turn : Option Turn) (o : Option CallInstance) → ((r : CallInstance) → o ≡ Some r → (homes r.form).overlaps ≡ false)
            → EachIn (Covered (once lower turn o)) (row_begun lower turn o)
        by turn None h = tt
        by turn (Some r) h = (record { start = Once (record { row = r; lower = lower; turn = turn }); among = (0, refl); is = (refl, h r refl) }, tt)

  -- ---- a loop

  start_lowers : (ys : List Known) → any_lower (map starting (list_of ys)) ≡ tables.any_lower (map tables.begun (list_of ys))
  start_lowers [] = refl
  start_lowers (y ∷ ys) = ap₂ (λ u v. u || v) y.1.starts_lower (start_lowers ys)

  start_sames : (ys : List Known) → any_same (map starting (list_of ys)) ≡ tables.any_same (map tables.begun (list_of ys))
  start_sames [] = refl
  start_sames (y ∷ ys) = ap₂ (λ u v. u || v) y.1.starts_same (start_sames ys)

  lows : (ys : List Known) → any_of (map lower_in (list_of ys)) ≡ tables.any_lower (map tables.begun (list_of ys))
  lows [] = refl
  lows (y ∷ ys) = ap₂ (λ u v. u || v) y.1.low (lows ys)

  alikes : (ys : List Known) → any_of (map same_in (list_of ys)) ≡ tables.any_same (map tables.begun (list_of ys))
  alikes [] = refl
  alikes (y ∷ ys) = ap₂ (λ u v. u || v) y.1.alike (alikes ys)

  lows_by : (ys : List Known) → any_by (λ x. lower_in x) (list_of ys) ≡ tables.any_lower (map tables.begun (list_of ys))
  lows_by [] = refl
  lows_by (y ∷ ys) = ap₂ (λ u v. u || v) y.1.low (lows_by ys)

  alikes_by : (ys : List Known) → any_by (λ x. same_in x) (list_of ys) ≡ tables.any_same (map tables.begun (list_of ys))
  alikes_by [] = refl
  alikes_by (y ∷ ys) = ap₂ (λ u v. u || v) y.1.alike (alikes_by ys)

  all_cover : (ys : List Known) (alone : Bool) (turn : Option Turn) → each_in_maps (Overlaps homes) (list_of ys) (is_some turn) alone
      → LoopsStand homes (all_loops (map call_loops (list_of ys))) → EachIn (Free alone) (list_of ys) → (k : ℕ)
      → EachIn (Covered (starts_in (map starting (list_of ys)) turn k)) (calls_in (map tables.begun (list_of ys)) turn k)
  all_cover [] alone turn asked loops free k = tt
  all_cover (y ∷ ys) alone turn asked loops free k =
      cover_both ((starting y.0).starts turn k) (starts_in (map starting (list_of ys)) turn k) ((tables.begun y.0).calls turn k)
      (calls_in (map tables.begun (list_of ys)) turn k)
      (y.1.each alone turn asked.0 (loops_left homes (call_loops y.0).loops (all_loops (map call_loops (list_of ys))) loops) free.0 k)
      (all_cover ys alone turn asked.1 (loops_right homes (call_loops y.0).loops (all_loops (map call_loops (list_of ys))) loops) free.1 k)

  none_alone : (alone : Bool) → alone ≡ false → (xs : List Statement) → EachIn (Free alone) xs
  none_alone alone e [] = tt
  none_alone alone e (x ∷ xs) = (inl e, none_alone alone e xs)

  all_free : (m : LoopKind) (v : Bool) (xs : List Statement) → in_lanes m v (doubled_in homes (map starting xs)) ≡ None → EachIn (Free (can_overlap m v xs)) xs
  all_free m v [] e = tt
  all_free m v (x ∷ []) e = (one m v e, tt)
    where
      one : (m : LoopKind) (v : Bool) → in_lanes m v (doubled homes (starting x).call) ≡ None → Free (can_overlap m v (x ∷ [])) x
      one loop_kind.Sequential v e = inr e
      one loop_kind.Parallel true e = inr e
      one loop_kind.Parallel false e = inl refl
      one (loop_kind.Reduction r) v e = inl refl
  all_free m v (x ∷ y ∷ xs) e = none_alone (can_overlap m v (x ∷ y ∷ xs)) (not_alone m v x y xs) (x ∷ y ∷ xs)

  -- a loop of one call whose form overlaps
  module _ (m : LoopKind) (counts starts : List ℕ) (rows : List CallInstance) (overlaps : (homes (row_form (slice_get rows 0))).overlaps ≡ true)
      (piped : IsPiped (record { kind = m; rows = rows; counts = counts; starts = starts })) where
    loop_calls : (v : Bool) (turn : Option Turn) (k : ℕ)
        → EachIn (Covered (Lanes (record { row = slice_get rows 0; spread = v; count = get_or counts k 0; turn = turn }) ∷ []))
        (flat_map (λ t. calls_in (map tables.begun (b.Call true rows ∷ [])) (turn_in v turn (get_or counts k 0) t) (get_or starts k 0 + t)) (range_with_len 0 (get_or counts k 0)))
    loop_calls v turn k =
        each_range P (λ t. calls_in (map tables.begun (b.Call true rows ∷ [])) (turn_in v turn (get_or counts k 0) t) (get_or starts k 0 + t)) 0 (get_or counts k 0)
        (λ t less. each_both P ((tables.begun (b.Call true rows)).calls (turn_in v turn (get_or counts k 0) t) (get_or starts k 0 + t)) []
        (subst (λ (p : BegunPart). EachIn P (p.calls (turn_in v turn (get_or counts k 0) t) (get_or starts k 0 + t))) (sym (begun_call true rows))
        (one t (omega (arith, less)) (slice_get rows (get_or starts k 0 + t)) refl)) tt)
      where
        l : BegunLoop
        l = record { row = slice_get rows 0; spread = v; count = get_or counts k 0; turn = turn }

        P : Begun → Type 0
        P = Covered (Lanes (record { row = slice_get rows 0; spread = v; count = get_or counts k 0; turn = turn }) ∷ [])

        one : (t : ℕ) → t < get_or counts k 0 → (o : Option CallInstance) → slice_get rows (get_or starts k 0 + t) ≡ o
            → EachIn P (row_begun true (turn_in v turn (get_or counts k 0) t) o)
        one t less None at = tt
        one t less (Some r) at =
            let first = first_row rows (get_or starts k 0 + t) r at in
            let form : r.form ≡ row_form (slice_get rows 0) =
            piped.form (get_or starts k 0 + t) 0 r first.0 at first.1 ∙ sym (ap (λ (o : Option CallInstance). row_form o) first.1) in (
              record {
                start = Lanes l;
                among = (0, refl);
                is = (
                  t,
                  less,
                  record {
                    lower = refl;
                    turn = refl;
                    form = form;
                    many = as_long (piped.heads (get_or starts k 0 + t) 0 r first.0 at first.1) ∙ sym (ap (λ (o : Option CallInstance). length (row_args o)) first.1);
                  },
                  ap (λ (f : ℕ). (homes f).overlaps) form ∙ overlaps,
                );
              },
              tt,
            )

  map_covers : (place : Place) (m : LoopKind) (counts starts : List ℕ) (ys : List Known) → Covers (b.Map place m counts starts (list_of ys))
  map_covers place m counts starts ys = record {
    starts_lower = ap (λ (p : StartsPart). p.lower) (starts_map homes place m counts starts (list_of ys)) ∙ start_lowers ys
        ∙ sym (ap (λ (p : BegunPart). p.lower) (begun_map place m counts starts (list_of ys)));
    starts_same = ap (λ (p : StartsPart). p.same) (starts_map homes place m counts starts (list_of ys)) ∙ start_sames ys
        ∙ sym (ap (λ (p : BegunPart). p.same) (begun_map place m counts starts (list_of ys)));
    low = lower_map place m counts starts (list_of ys) ∙ lows ys ∙ sym (ap (λ (p : BegunPart). p.lower) (begun_map place m counts starts (list_of ys)));
    alike = same_map place m counts starts (list_of ys) ∙ alikes ys ∙ sym (ap (λ (p : BegunPart). p.same) (begun_map place m counts starts (list_of ys)));
    each = λ alone turn asked loops free k.
        subst (λ (p : StartsPart). EachIn (Covered (p.starts turn k)) ((tables.begun (b.Map place m counts starts (list_of ys))).calls turn k))
        (sym (starts_map homes place m counts starts (list_of ys)))
        (subst (λ (p : BegunPart). EachIn (Covered (starts_with (own_spread turn) turn k)) (p.calls turn k)) (sym (begun_map place m counts starts (list_of ys)))
        (subst (λ (v : Bool). EachIn (Covered (starts_with v turn k)) (calls_by (its_spread turn) turn k)) (sym (spread_same turn))
        (by (its_spread turn) turn k loops
        (subst (λ (v : Bool). each_in_maps (Overlaps homes) (list_of ys) (is_some turn || v) (can_overlap m v (list_of ys))) (over_same turn)
        (subst (λ (f : AskedInMaps). f (is_some turn) alone) (overlaps_map homes place m counts starts (list_of ys)) asked))
        (in_lanes m (its_spread turn) (doubled_in homes (map starting (list_of ys)))) refl)));
  }
    where
      own_spread : Option Turn → Bool
      own_spread turn = is_spread m (is_some turn) (any_lower (map starting (list_of ys))) (any_same (map starting (list_of ys)))

      its_spread : Option Turn → Bool
      its_spread turn = is_spread m (is_some turn) (tables.any_lower (map tables.begun (list_of ys))) (tables.any_same (map tables.begun (list_of ys)))

      spread_same : (turn : Option Turn) → own_spread turn ≡ its_spread turn
      spread_same turn = ap₂ (is_spread m (is_some turn)) (start_lowers ys) (start_sames ys)

      over_same : (turn : Option Turn) → is_spread m (is_some turn) (any_by (λ x. lower_in x) (list_of ys)) (any_by (λ x. same_in x) (list_of ys)) ≡ its_spread turn
      over_same turn = ap₂ (is_spread m (is_some turn)) (lows_by ys) (alikes_by ys)

      starts_with : Bool → Option Turn → ℕ → List Starts
      starts_with v turn k = map_starts (in_lanes m v (doubled_in homes (map starting (list_of ys)))) v (get_or counts k 0) (get_or starts k 0) turn (map starting (list_of ys))

      calls_by : Bool → Option Turn → ℕ → List Begun
      calls_by v turn k = flat_map (λ t. calls_in (map tables.begun (list_of ys)) (turn_in v turn (get_or counts k 0) t) (get_or starts k 0 + t))
          (range_with_len 0 (get_or counts k 0))

      by : (v : Bool) (turn : Option Turn) (k : ℕ) → LoopsStand homes (call_loops (b.Map place m counts starts (list_of ys))).loops
          → each_in_maps (Overlaps homes) (list_of ys) (is_some turn || v) (can_overlap m v (list_of ys))
          → (o : Option (List CallInstance)) → in_lanes m v (doubled_in homes (map starting (list_of ys))) ≡ o
          → EachIn (Covered (map_starts o v (get_or counts k 0) (get_or starts k 0) turn (map starting (list_of ys)))) (calls_by v turn k)
      by v turn k loops asked None e =
          cover_all _ _ (λ t. all_cover ys (can_overlap m v (list_of ys)) (turn_in v turn (get_or counts k 0) t)
          (subst (λ (i : Bool). each_in_maps (Overlaps homes) (list_of ys) i (can_overlap m v (list_of ys))) (turned v turn (get_or counts k 0) t) asked)
          (map_loops homes place m counts starts (list_of ys) loops).1 (all_free m v (list_of ys) e) (get_or starts k 0 + t)) 0 (get_or counts k 0)
      by v turn k loops asked (Some rows) e =
          let only = only_rows homes (list_of ys) rows (lanes_rows m v _ rows e) in
          let stands = subst (λ (xs : List Statement). LoopsStand homes (loop_round m counts starts (map call_loops xs))) only.0
          (map_loops homes place m counts starts (list_of ys) loops).0 in
          subst (λ (xs : List Statement). EachIn (Covered (Lanes (record { row = slice_get rows 0; spread = v; count = get_or counts k 0; turn = turn }) ∷ []))
          (flat_map (λ t. calls_in (map tables.begun xs) (turn_in v turn (get_or counts k 0) t) (get_or starts k 0 + t)) (range_with_len 0 (get_or counts k 0)))) (sym only.0)
          (loop_calls m counts starts rows only.1 (loop_piped rows only.1 stands) v turn k)
        where
          loop_piped : (rows : List CallInstance) → (homes (row_form (slice_get rows 0))).overlaps ≡ true
              → LoopsStand homes (loop_round m counts starts (map call_loops (b.Call true rows ∷ [])))
              → IsPiped (record { kind = m; rows = rows; counts = counts; starts = starts })
          loop_piped rows overlaps stands =
              (subst (λ (ls : List CallLoop). LoopsStand homes ls) (ap (λ (l : CallLoops). loop_round m counts starts (l ∷ [])) (loops_call true rows)) stands).0 overlaps

  cover_step : (y : Statement-F Known) → Covers (roll-Statement (map-Statement Known Statement (λ p. p.0) y))
  cover_step (Statement-F.Call lower times) = subst Covers (sym (b.rolls-Call lower times)) (call_covers lower times)
  cover_step (Statement-F.Map place m counts starts ys) = subst Covers (sym (b.rolls-Map place m counts starts (list_of ys))) (map_covers place m counts starts ys)

  cover : (y : Statement) → Covers y
  cover = ind-Statement Covers (λ y z is. subst (λ w. Covers (roll-Statement w)) is (cover_step z))

  abbrev known : List Statement → List Known
  known [] = []
  known (y ∷ ys) = (y, cover y) ∷ known ys

  known_are : (ys : List Statement) → list_of (known ys) ≡ ys
  known_are [] = refl
  known_are (y ∷ ys) = ap (λ zs. y ∷ zs) (known_are ys)

  body_covers : (d : Body) → BodyOverlaps homes d → LoopsStand homes (call_loops_of d) → EachIn (Covered (starts_of homes d)) (calls_of d)
  body_covers (body.Leaf code) a h = tt
  body_covers (body.Inner list) a h =
      subst (λ (ys : List Statement). each_in_maps (Overlaps homes) ys false false → LoopsStand homes (all_loops (map call_loops ys))
      → EachIn (Covered (starts_in (map starting ys) None 0)) (calls_in (map tables.begun ys) None 0))
      (known_are list) (λ asked g. all_cover (known list) false None asked g (none_alone false refl (list_of (known list))) 0) a h

  -- what a form begins is covered by what it starts
  pub calls_covered : (d : Body) → BodyOverlaps homes d → LoopsStand homes (call_loops_of d) → (x : Begun) → Among x (calls_of d) → Covered (starts_of homes d) x
  calls_covered d a h x among = each_item (Covered (starts_of homes d)) (calls_of d) x (body_covers d a h) among
