-- The calls of a loop that overlaps its transfers are among those that the form's tables begin.
use Rattle.std.proofs.Common.{◌≡◌, ℕ, zero, suc, ◌+◌, ◌<◌, Bool, true, false, ◌||◌, List, [], ◌∷◌, ◌++◌, map}
use Rattle.std.proofs.Common.{length, get_or, slice_get, Option, Some, None, refl, sym, ap, ap₂, subst, ◌∙◌, arith}
use Rattle.std.proofs.Common.{if◌then◌else◌}
use Rattle.std.specs.Prelude.{is_some}
use Rattle.std.specs.List.{flat_map, range_with_len}
use Rattle.sq_text.specs.declared.place.Place.{Place}
use Rattle.sq_blocks.specs.declared.argument.Argument.{Argument}
use Rattle.sq_spec.specs.declared.statement.LoopKind.{LoopKind}
use Rattle.sq_spec.specs.declared.statement.LoopKind.TheVariants as loop_kind
use Rattle.sq_spec.specs.declared.statement.CallInstance.{CallInstance}
use Rattle.sq_spec.specs.declared.statement.Statement.{Statement, roll-Statement}
use Rattle.sq_spec.specs.declared.statement.Statement.TheVariants as b
use Rattle.sq_spec.specs.declared.statement.Statement.TheOpen.{Statement-F}
use Rattle.sq_spec.specs.declared.statement.Statement.TheFolds.{ind-Statement, map-Statement}
use Rattle.sq_spec.specs.declared.body.Body.{Body}
use Rattle.sq_spec.specs.declared.body.Body.TheVariants as body
use Rattle.sq_spec.specs.Spreads.{is_spread}
use Rattle.sq_spec_laws.specs.Needs.{Turn, turn_in}
use Rattle.sq_placed.specs.declared.home.Homes.{Homes}
use Rattle.sq_placed.specs.Tables.{row_form}
use Rattle.sq_placed.specs.Pipes.{CallLoop, AreHeads, no_heads, more_heads, IsPiped, LoopsStand, all_loops, call_loops}
use Rattle.sq_placed.specs.Pipes.{CallLoops, call_loops_of, loop_round}
use Rattle.sq_placed.proofs.Pipes.{map_loops, loops_left, loops_right, loops_call}
use Rattle.sq_term.specs.Terms.{row_args}
use Rattle.sq_draft_laws.specs.Homes.Begun as tables
use Rattle.sq_draft_laws.specs.Homes.Begun.{Begun, BegunPart, calls_in, row_begun, calls_of}
use Rattle.sq_plan_good.specs.Loops.{BegunLoop, Starts, Once, Lanes, StartsPart, any_lower, any_same, starts_in, once}
use Rattle.sq_plan_good.specs.Loops.{in_lanes, map_starts, doubled, doubled_in, starts_by, starts_of}
use Rattle.sq_plan_good.proofs.Terms.{begun_call, begun_map, starts_call, starts_map}

-- ---- items of lists

abbrev pub Among : {A : Type 0} → A → List A → Type 0
Among x xs = (i : ℕ) × (slice_get xs i ≡ Some x)

pub among_left : {A : Type 0} (x : A) (xs ys : List A) → Among x xs → Among x (xs ++ ys)
among_left {A = A} x xs ys h = (h.0, go xs h.0 h.1)
  where
    go : (zs : List A) (i : ℕ) → slice_get zs i ≡ Some x → slice_get (zs ++ ys) i ≡ Some x
    go [] i e = cc
    go (z ∷ zs) zero e = e
    go (z ∷ zs) (suc i) e = go zs i e

pub among_right : {A : Type 0} (x : A) (xs ys : List A) → Among x ys → Among x (xs ++ ys)
among_right x [] ys h = h
among_right x (z ∷ xs) ys h = let r = among_right x xs ys h in (suc r.0, r.1)

-- each item of one list has this, of the other list
abbrev pub EachIn : {A : Type 0} → (A → Type 0) → List A → Type 0
EachIn P [] = Unit {0}
EachIn P (x ∷ xs) = P x × EachIn P xs

pub each_both : {A : Type 0} (P : A → Type 0) (xs ys : List A) → EachIn P xs → EachIn P ys → EachIn P (xs ++ ys)
each_both P [] ys f g = g
each_both P (x ∷ xs) ys f g = (f.0, each_both P xs ys f.1 g)

pub each_weaker : {A : Type 0} (P Q : A → Type 0) → ((x : A) → P x → Q x) → (xs : List A) → EachIn P xs → EachIn Q xs
each_weaker P Q h [] f = tt
each_weaker P Q h (x ∷ xs) f = (h x f.0, each_weaker P Q h xs f.1)

pub each_item : {A : Type 0} (P : A → Type 0) (xs : List A) (x : A) → EachIn P xs → Among x xs → P x
each_item {A = A} P xs x f h = go xs h.0 f h.1
  where
    go : (zs : List A) (i : ℕ) → EachIn P zs → slice_get zs i ≡ Some x → P x
    go [] i g e = absurd (cc e)
    go (z ∷ zs) zero g e = let is : z ≡ x = cc e in subst P is g.0
    go (z ∷ zs) (suc i) g e = go zs i g.1 e

-- ---- the calls of an iteration

-- the call of one iteration of a loop that overlaps its transfers
pub record IsTurn (l : BegunLoop) (t : ℕ) (d : Begun) : Type 0 where
  pub lower : d.lower ≡ true
  pub turn : d.turn ≡ turn_in l.spread l.turn l.count t
  pub form : d.row.form ≡ row_form l.row
  pub many : length d.row.args ≡ length (row_args l.row)

-- what is begun, among these calls
abbrev pub StandsIn : List Begun → Starts → Type 0
StandsIn ds (Once d) = Among d ds
StandsIn ds (Lanes l) = (t : ℕ) → t < l.count → (d : Begun) × Among d ds × IsTurn l t d

stands_left : (ds es : List Begun) (x : Starts) → StandsIn ds x → StandsIn (ds ++ es) x
stands_left ds es (Once d) h = among_left d ds es h
stands_left ds es (Lanes l) h = λ t less. let g = h t less in (g.0, among_left g.0 ds es g.1, g.2)

stands_right : (ds es : List Begun) (x : Starts) → StandsIn es x → StandsIn (ds ++ es) x
stands_right ds es (Once d) h = among_right d ds es h
stands_right ds es (Lanes l) h = λ t less. let g = h t less in (g.0, among_right g.0 ds es g.1, g.2)

each_of_both : (ds es : List Begun) (xs ys : List Starts) → EachIn (StandsIn ds) xs → EachIn (StandsIn es) ys
    → EachIn (StandsIn (ds ++ es)) (xs ++ ys)
each_of_both ds es xs ys f g =
    each_both (StandsIn (ds ++ es)) xs ys
    (each_weaker (StandsIn ds) (StandsIn (ds ++ es)) (stands_left ds es) xs f)
    (each_weaker (StandsIn es) (StandsIn (ds ++ es)) (stands_right ds es) ys g)

each_of_all : (f : ℕ → List Starts) (g : ℕ → List Begun) → ((t : ℕ) → EachIn (StandsIn (g t)) (f t)) → (a m : ℕ)
    → EachIn (StandsIn (flat_map g (range_with_len a m))) (flat_map f (range_with_len a m))
each_of_all f g h a zero = tt
each_of_all f g h a (suc m) =
    each_of_both (g a) (flat_map g (range_with_len (a + 1) m)) (f a) (flat_map f (range_with_len (a + 1) m)) (h a)
    (each_of_all f g h (a + 1) m)

among_all : (d : Begun) (g : ℕ → List Begun) (a m t : ℕ) → t < m → Among d (g (a + t))
    → Among d (flat_map g (range_with_len a m))
among_all d g a zero t less h = absurd (omega (arith, less))
among_all d g a (suc m) zero less h =
    let z : a + 0 ≡ a = omega arith in
    among_left d (g a) (flat_map g (range_with_len (a + 1) m)) (subst (λ (i : ℕ). Among d (g i)) z h)
among_all d g a (suc m) (suc t) less h =
    let z : a + suc t ≡ a + 1 + t = omega arith in
    among_right d (g a) (flat_map g (range_with_len (a + 1) m))
    (among_all d g (a + 1) m t (omega (arith, less)) (subst (λ (i : ℕ). Among d (g i)) z h))

as_long : {xs ys : List Argument} → AreHeads xs ys → length xs ≡ length ys
as_long no_heads = refl
as_long (more_heads h hs) = ap suc (as_long hs)

first_row : (rows : List CallInstance) (i : ℕ) (r : CallInstance) → slice_get rows i ≡ Some r
    → (q : CallInstance) × (slice_get rows 0 ≡ Some q)
first_row [] i r e = cc
first_row (q ∷ rows) i r e = (q, refl)

module _ (homes : ℕ → Homes) where
  abbrev pub starting : Statement → StartsPart
  starting = starts_by homes

  -- a statement whose rows are those of a lower call is that call
  abbrev Own : Statement → Type 0
  Own y = (rows : List CallInstance) → (starting y).call ≡ Some rows → y ≡ b.Call true rows

  own_call : (lower : Bool) (times : List CallInstance) → Own (b.Call lower times)
  own_call lower times rows e =
      by lower (sym (ap (λ (p : StartsPart). p.call) (starts_call homes lower times)) ∙ e)
    where
      by : (v : Bool) → (if v then Some times else None) ≡ Some rows → b.Call v times ≡ b.Call true rows
      by true g = let z : times ≡ rows = cc g in ap (b.Call true) z
      by false g = absurd (cc g)

  own_map : (place : Place) (m : LoopKind) (counts starts : List ℕ) (ys : List Statement)
      → Own (b.Map place m counts starts ys)
  own_map place m counts starts ys rows e =
      let z : None ≡ Some rows
      = sym (ap (λ (p : StartsPart). p.call) (starts_map homes place m counts starts ys)) ∙ e in
      absurd (cc z)

  record Stands (y : Statement) : Type 0 where
    own : Own y
    lower : (starting y).lower ≡ (tables.begun y).lower
    same : (starting y).same ≡ (tables.begun y).same
    each : LoopsStand homes (call_loops y).loops → (turn : Option Turn) (k : ℕ)
        → EachIn (StandsIn ((tables.begun y).calls turn k)) ((starting y).starts turn k)

  abbrev Known : Type 0
  Known = (y : Statement) × Stands y

  abbrev list_of : List Known → List Statement
  list_of = map (λ q. q.0)

  lowers : (ys : List Known) → any_lower (map starting (list_of ys)) ≡ tables.any_lower (map tables.begun (list_of ys))
  lowers [] = refl
  lowers (y ∷ ys) = ap₂ (λ u v. u || v) y.1.lower (lowers ys)

  sames : (ys : List Known) → any_same (map starting (list_of ys)) ≡ tables.any_same (map tables.begun (list_of ys))
  sames [] = refl
  sames (y ∷ ys) = ap₂ (λ u v. u || v) y.1.same (sames ys)

  all_stand : (ys : List Known) → LoopsStand homes (all_loops (map call_loops (list_of ys))) → (turn : Option Turn)
      (k : ℕ) → EachIn (StandsIn (calls_in (map tables.begun (list_of ys)) turn k))
      (starts_in (map starting (list_of ys)) turn k)
  all_stand [] h turn k = tt
  all_stand (y ∷ ys) h turn k =
      each_of_both ((tables.begun y.0).calls turn k) (calls_in (map tables.begun (list_of ys)) turn k)
      ((starting y.0).starts turn k) (starts_in (map starting (list_of ys)) turn k)
      (y.1.each (loops_left homes (call_loops y.0).loops (all_loops (map call_loops (list_of ys))) h) turn k)
      (all_stand ys (loops_right homes (call_loops y.0).loops (all_loops (map call_loops (list_of ys))) h) turn k)

  call_stands : (lower : Bool) (times : List CallInstance) → Stands (b.Call lower times)
  call_stands lower times = record {
    own = own_call lower times;
    lower = ap (λ (p : StartsPart). p.lower) (starts_call homes lower times)
        ∙ sym (ap (λ (p : BegunPart). p.lower) (begun_call lower times));
    same = ap (λ (p : StartsPart). p.same) (starts_call homes lower times)
        ∙ sym (ap (λ (p : BegunPart). p.same) (begun_call lower times));
    each = λ h turn k.
        subst (λ (p : StartsPart). EachIn (StandsIn ((tables.begun (b.Call lower times)).calls turn k))
        (p.starts turn k)) (sym (starts_call homes lower times))
        (subst (λ (p : BegunPart). EachIn (StandsIn (p.calls turn k)) (once lower turn (slice_get times k)))
        (sym (begun_call lower times)) (by turn (slice_get times k)));
  }
    where
      by : (turn : Option Turn) (o : Option CallInstance)
          → EachIn (StandsIn (row_begun lower turn o)) (once lower turn o)
      by turn None = tt
      by turn (Some r) = ((0, refl), tt)

  -- a loop of one call
  module _ (m : LoopKind) (counts starts : List ℕ) (rows : List CallInstance)
      (piped : IsPiped (record { kind = m; rows = rows; counts = counts; starts = starts })) where
    turn_calls : (spread : Bool) (turn : Option Turn) (k t : ℕ) → t < get_or counts k 0
        → (d : Begun)
        × Among d (flat_map (λ t. calls_in (tables.begun (b.Call true rows) ∷ [])
        (turn_in spread turn (get_or counts k 0) t) (get_or starts k 0 + t)) (range_with_len 0 (get_or counts k 0)))
        × IsTurn (record { row = slice_get rows 0; spread = spread; count = get_or counts k 0; turn = turn }) t d
    turn_calls spread turn k t less =
        let row = piped.there k t less in
        let place = get_or starts k 0 + t in
        let first = first_row rows place row.0 row.1 in
        let round = turn_in spread turn (get_or counts k 0) t in
        let d : Begun = record { row = row.0; lower = true; turn = round } in
        let there : Among d ((tables.begun (b.Call true rows)).calls round place) =
        subst (λ (p : BegunPart). Among d (p.calls round place)) (sym (begun_call true rows))
        (subst (λ (o : Option CallInstance). Among d (row_begun true round o)) (sym row.1) (0, refl)) in
        let z : 0 + t ≡ t = omega arith in (
          d,
          among_all d (λ t. calls_in (tables.begun (b.Call true rows) ∷ [])
              (turn_in spread turn (get_or counts k 0) t) (get_or starts k 0 + t)) 0 (get_or counts k 0) t less
              (subst (λ (i : ℕ). Among d (calls_in (tables.begun (b.Call true rows) ∷ [])
              (turn_in spread turn (get_or counts k 0) i) (get_or starts k 0 + i))) (sym z)
              (among_left d ((tables.begun (b.Call true rows)).calls round place) [] there)),
          record {
            lower = refl;
            turn = refl;
            form = piped.form place 0 row.0 first.0 row.1 first.1
                ∙ sym (ap (λ (o : Option CallInstance). row_form o) first.1);
            many = as_long (piped.heads place 0 row.0 first.0 row.1 first.1)
                ∙ sym (ap (λ (o : Option CallInstance). length (row_args o)) first.1);
          },
        )

  doubled_rows : (o : Option (List CallInstance)) (rows : List CallInstance) → doubled homes o ≡ Some rows
      → (o ≡ Some rows) × ((homes (row_form (slice_get rows 0))).overlaps ≡ true)
  doubled_rows None rows e = absurd (cc e)
  doubled_rows (Some times) rows e = by (homes (row_form (slice_get times 0))).overlaps refl e
    where
      by : (v : Bool) → (homes (row_form (slice_get times 0))).overlaps ≡ v
          → (if v then Some times else None) ≡ Some rows
          → (Some times ≡ Some rows) × ((homes (row_form (slice_get rows 0))).overlaps ≡ true)
      by true g f =
          let z : times ≡ rows = cc f in
          (f, subst (λ (ts : List CallInstance). (homes (row_form (slice_get ts 0))).overlaps ≡ true) z g)
      by false g f = absurd (cc f)

  lanes_rows : (m : LoopKind) (v : Bool) (o : Option (List CallInstance)) (rows : List CallInstance)
      → in_lanes m v o ≡ Some rows → o ≡ Some rows
  lanes_rows loop_kind.Sequential v o rows e = e
  lanes_rows loop_kind.Parallel true o rows e = e
  lanes_rows loop_kind.Parallel false o rows e = absurd (cc e)
  lanes_rows (loop_kind.Reduction r) v o rows e = absurd (cc e)

  only_call : (ys : List Known) (rows : List CallInstance) → doubled_in homes (map starting (list_of ys)) ≡ Some rows
      → (list_of ys ≡ b.Call true rows ∷ []) × ((homes (row_form (slice_get rows 0))).overlaps ≡ true)
  only_call [] rows e = absurd (cc e)
  only_call (y ∷ []) rows e =
      let d = doubled_rows (starting y.0).call rows e in
      (ap (λ (z : Statement). z ∷ []) (y.1.own rows d.0), d.1)
  only_call (y ∷ z ∷ ys) rows e = absurd (cc e)

  map_stand : (place : Place) (m : LoopKind) (counts starts : List ℕ) (ys : List Known)
      → Stands (b.Map place m counts starts (list_of ys))
  map_stand place m counts starts ys = record {
    own = own_map place m counts starts (list_of ys);
    lower = ap (λ (p : StartsPart). p.lower) (starts_map homes place m counts starts (list_of ys)) ∙ lowers ys
        ∙ sym (ap (λ (p : BegunPart). p.lower) (begun_map place m counts starts (list_of ys)));
    same = ap (λ (p : StartsPart). p.same) (starts_map homes place m counts starts (list_of ys)) ∙ sames ys
        ∙ sym (ap (λ (p : BegunPart). p.same) (begun_map place m counts starts (list_of ys)));
    each = λ h turn k.
        subst (λ (p : StartsPart). EachIn (StandsIn ((tables.begun (b.Map place m counts starts (list_of ys))).calls
        turn k)) (p.starts turn k)) (sym (starts_map homes place m counts starts (list_of ys)))
        (subst (λ (p : BegunPart). EachIn (StandsIn (p.calls turn k))
        (map_starts (in_lanes m (own_spread turn) (doubled_in homes (map starting (list_of ys)))) (own_spread turn)
        (get_or counts k 0) (get_or starts k 0) turn (map starting (list_of ys))))
        (sym (begun_map place m counts starts (list_of ys)))
        (subst (λ (v : Bool). EachIn (StandsIn (calls_by (its_spread turn) turn k))
        (map_starts (in_lanes m v (doubled_in homes (map starting (list_of ys)))) v
        (get_or counts k 0) (get_or starts k 0) turn (map starting (list_of ys)))) (sym (spread_same turn))
        (by (its_spread turn) turn k h (in_lanes m (its_spread turn) (doubled_in homes (map starting (list_of ys))))
        refl)));
  }
    where
      own_spread : Option Turn → Bool
      own_spread turn = is_spread m (is_some turn) (any_lower (map starting (list_of ys))) (any_same (map starting (list_of ys)))

      its_spread : Option Turn → Bool
      its_spread turn = is_spread m (is_some turn) (tables.any_lower (map tables.begun (list_of ys)))
          (tables.any_same (map tables.begun (list_of ys)))

      spread_same : (turn : Option Turn) → own_spread turn ≡ its_spread turn
      spread_same turn = ap₂ (is_spread m (is_some turn)) (lowers ys) (sames ys)

      calls_by : Bool → Option Turn → ℕ → List Begun
      calls_by v turn k = flat_map (λ t. calls_in (map tables.begun (list_of ys))
          (turn_in v turn (get_or counts k 0) t) (get_or starts k 0 + t)) (range_with_len 0 (get_or counts k 0))

      by : (v : Bool) (turn : Option Turn) (k : ℕ)
          → LoopsStand homes (call_loops (b.Map place m counts starts (list_of ys))).loops
          → (o : Option (List CallInstance)) → in_lanes m v (doubled_in homes (map starting (list_of ys))) ≡ o
          → EachIn (StandsIn (calls_by v turn k))
          (map_starts o v (get_or counts k 0) (get_or starts k 0) turn (map starting (list_of ys)))
      by v turn k h None e =
          each_of_all _ _ (λ t. all_stand ys (map_loops homes place m counts starts (list_of ys) h).1
          (turn_in v turn (get_or counts k 0) t) (get_or starts k 0 + t)) 0 (get_or counts k 0)
      by v turn k h (Some rows) e =
          let only = only_call ys rows (lanes_rows m v _ rows e) in
          let stands = subst (λ (xs : List Statement). LoopsStand homes
          (loop_round m counts starts (map call_loops xs))) only.0 (map_loops homes place m counts starts (list_of ys) h).0 in (
            subst (λ (xs : List Statement). StandsIn (flat_map (λ t. calls_in (map tables.begun xs)
                (turn_in v turn (get_or counts k 0) t) (get_or starts k 0 + t)) (range_with_len 0 (get_or counts k 0)))
                (Lanes (record { row = slice_get rows 0; spread = v; count = get_or counts k 0; turn = turn })))
                (sym only.0)
                (turn_calls m counts starts rows (loop_piped rows only.1 stands) v turn k),
            tt,
          )
        where
          loop_piped : (rows : List CallInstance) → (homes (row_form (slice_get rows 0))).overlaps ≡ true
              → LoopsStand homes (loop_round m counts starts (map call_loops (b.Call true rows ∷ [])))
              → IsPiped (record { kind = m; rows = rows; counts = counts; starts = starts })
          loop_piped rows overlaps stands =
              (subst (λ (ls : List CallLoop). LoopsStand homes ls)
              (ap (λ (l : CallLoops). loop_round m counts starts (l ∷ [])) (loops_call true rows)) stands).0 overlaps

  stand_step : (y : Statement-F Known) → Stands (roll-Statement (map-Statement Known Statement (λ p. p.0) y))
  stand_step (Statement-F.Call lower times) = subst Stands (sym (b.rolls-Call lower times)) (call_stands lower times)
  stand_step (Statement-F.Map place m counts starts ys)
      = subst Stands (sym (b.rolls-Map place m counts starts (list_of ys))) (map_stand place m counts starts ys)

  stand : (y : Statement) → Stands y
  stand = ind-Statement Stands (λ y z is. subst (λ w. Stands (roll-Statement w)) is (stand_step z))

  abbrev known : List Statement → List Known
  known [] = []
  known (y ∷ ys) = (y, stand y) ∷ known ys

  known_are : (ys : List Statement) → list_of (known ys) ≡ ys
  known_are [] = refl
  known_are (y ∷ ys) = ap (λ zs. y ∷ zs) (known_are ys)

  -- a loop of these statements is one of a lower call with these rows, whose form overlaps
  pub only_rows : (ys : List Statement) (rows : List CallInstance)
      → doubled_in homes (map (starts_by homes) ys) ≡ Some rows
      → (ys ≡ b.Call true rows ∷ []) × ((homes (row_form (slice_get rows 0))).overlaps ≡ true)
  only_rows ys rows e =
      subst (λ (zs : List Statement). doubled_in homes (map (starts_by homes) zs) ≡ Some rows
      → (zs ≡ b.Call true rows ∷ []) × ((homes (row_form (slice_get rows 0))).overlaps ≡ true)) (known_are ys)
      (only_call (known ys) rows) e

  body_stand : (d : Body) → LoopsStand homes (call_loops_of d) → EachIn (StandsIn (calls_of d)) (starts_of homes d)
  body_stand (body.Leaf code) h = tt
  body_stand (body.Inner list) h =
      subst (λ (ys : List Statement). LoopsStand homes (all_loops (map call_loops ys))
      → EachIn (StandsIn (calls_in (map tables.begun ys) None 0)) (starts_in (map starting ys) None 0))
      (known_are list) (λ g. all_stand (known list) g None 0) h

  -- what a form begins is among its calls
  pub starts_stand : (d : Body) → LoopsStand homes (call_loops_of d) → (x : Starts) → Among x (starts_of homes d)
      → StandsIn (calls_of d) x
  starts_stand d h x a = each_item (StandsIn (calls_of d)) (starts_of homes d) x (body_stand d h) a
