-- The loops that overlap their transfers are those of lower calls, with as many iterations as their tables say.
use Rattle.std.proofs.Common.{◌≡◌, ℕ, zero, suc, ◌+◌, ◌<◌, ◌≤◌, inl, inr, Bool, true, false, List, [], ◌∷◌}
use Rattle.std.proofs.Common.{◌++◌, map, length, get_or, slice_get, Option, Some, None, refl, sym, ap, subst, ◌∙◌}
use Rattle.std.proofs.Common.{arith}
use Rattle.std.proofs.lemmas.Bool.Decides.{nat_tests}
use Rattle.std.specs.Prelude.{is_some}
use Rattle.std.specs.List.{flat_map, range_with_len}
use Rattle.sq_text.specs.declared.place.Place.{Place}
use Rattle.sq_ir.specs.declared.plan.PlanNode.{PlanNode}
use Rattle.sq_spec.specs.declared.statement.LoopKind.{LoopKind}
use Rattle.sq_spec.specs.declared.statement.LoopKind.TheVariants as loop_kind
use Rattle.sq_spec.specs.declared.statement.CallInstance.{CallInstance}
use Rattle.sq_spec.specs.declared.statement.Statement.{Statement, roll-Statement}
use Rattle.sq_spec.specs.declared.statement.Statement.TheVariants as b
use Rattle.sq_spec.specs.declared.statement.Statement.TheOpen.{Statement-F}
use Rattle.sq_spec.specs.declared.statement.Statement.TheFolds.{ind-Statement, map-Statement}
use Rattle.sq_spec.specs.declared.body.Body.{Body}
use Rattle.sq_spec.specs.declared.body.Body.TheVariants as body
use Rattle.sq_spec.specs.declared.resolved.Resolved.{Resolved}
use Rattle.sq_spec.specs.Spreads.{is_spread}
use Rattle.sq_spec_laws.specs.Needs.{Turn, turn_in, RunsAt}
use Rattle.sq_placed.specs.declared.home.Homes.{Homes}
use Rattle.sq_placed.specs.Tables.{row_form}
use Rattle.sq_placed.specs.Pipes.{CallLoop, CallLoops, all_loops, loop_round, call_loops, call_loops_of}
use Rattle.sq_placed.proofs.Pipes.{loops_call, loops_map}
use Rattle.sq_term.specs.Terms.{body_in, homes_in}
use Rattle.sq_draft_laws.specs.TermLaws.Fits.{Bounds, AskedOfStatement, HaveCounts, all_parts, Tabled, TabledBody}
use Rattle.sq_draft_laws.proofs.TermLaws.Chains.{tabled_map}
use Rattle.sq_draft_laws.specs.Homes.Chosen.declared.choice.Choice.{Choice}
use Rattle.sq_draft_laws.specs.Homes.Chosen.Forms.{bodies_of}
use Rattle.sq_draft_laws.specs.Homes.Drafts.{homes_of}
use Rattle.sq_draft_laws.specs.Choosing.{Walked, MayBeChosen}
use Rattle.sq_draft_laws.specs.Given.{level_at}
use Rattle.sq_draft_laws.specs.Drafts.{limits}
use Rattle.sq_draft_laws.specs.Memories.{plan_node}
use Rattle.sq_plan_good.specs.Loops.{BegunLoop, Starts, Once, Lanes, StartsPart, any_lower, any_same, starts_in, once}
use Rattle.sq_plan_good.specs.Loops.{in_lanes, map_starts, doubled_in, starts_by, starts_of}
use Rattle.sq_plan_good.specs.Room.{machine_setting, IsLoop, IsEnough, HasEnough, LoopsHaveEnough, LoopsAreBusy}
use Rattle.sq_plan_good.proofs.Terms.{starts_call, starts_map}
use Rattle.sq_plan_good.proofs.Turning.{Among, among_left, among_right, EachIn, each_both, each_weaker, each_item}
use Rattle.sq_plan_good.proofs.Turning.{only_rows}
use Rattle.sq_plan_good.proofs.Drafts.{last, laid}

each_range : {A : Type 0} (P : A → Type 0) (f : ℕ → List A) (a m : ℕ)
    → ((t : ℕ) → a ≤ t → t < a + m → EachIn P (f t)) → EachIn P (flat_map f (range_with_len a m))
each_range P f a zero h = tt
each_range P f a (suc m) h = each_both P (f a) (flat_map f (range_with_len (a + 1) m)) (h a (omega arith) (omega arith))
    (each_range P f (a + 1) m (λ t l u. h t (omega (arith, l)) (omega (arith, u))))

module _ (homes : ℕ → Homes) (most : Bounds) (last_level level : ℕ) where
  abbrev starting : Statement → StartsPart
  starting = starts_by homes

  -- begun once
  pub record IsCounted (cl : CallLoop) (l : BegunLoop) : Type 0 where
    pub overlaps : (homes (row_form (slice_get cl.rows 0))).overlaps ≡ true
    pub times : ℕ
    pub have : HaveCounts cl.counts times
    pub index : ℕ
    pub less : index < times
    pub count : l.count ≡ get_or cl.counts index 0
    pub spread : l.spread ≡ true → cl.kind ≡ loop_kind.Parallel
    pub alone : l.spread ≡ false → cl.kind ≡ loop_kind.Sequential

  -- it is the loop of a call
  abbrev pub ComesOf : List CallLoop → Starts → Type 0
  ComesOf loops (Once d) = Unit {0}
  ComesOf loops (Lanes l) = (cl : CallLoop) × Among cl loops × IsCounted cl l

  comes_left : (xs ys : List CallLoop) (z : Starts) → ComesOf xs z → ComesOf (xs ++ ys) z
  comes_left xs ys (Once d) h = tt
  comes_left xs ys (Lanes l) h = (h.0, among_left h.0 xs ys h.1, h.2)

  comes_right : (xs ys : List CallLoop) (z : Starts) → ComesOf ys z → ComesOf (xs ++ ys) z
  comes_right xs ys (Once d) h = tt
  comes_right xs ys (Lanes l) h = (h.0, among_right h.0 xs ys h.1, h.2)

  abbrev AllCounted : Statement → Type 0
  AllCounted y = (m : ℕ) → Tabled most last_level level y m → (turn : Option Turn) (k : ℕ) → k < m
      → EachIn (ComesOf (call_loops y).loops) ((starts_by homes y).starts turn k)

  abbrev Known : Type 0
  Known = (y : Statement) × AllCounted y

  abbrev list_of : List Known → List Statement
  list_of = map (λ q. q.0)

  all_counted : (ys : List Known) (m : ℕ) → all_parts (Tabled most last_level level) (list_of ys) m
      → (turn : Option Turn) (k : ℕ) → k < m
      → EachIn (ComesOf (all_loops (map call_loops (list_of ys)))) (starts_in (map starting (list_of ys)) turn k)
  all_counted [] m h turn k less = tt
  all_counted (y ∷ ys) m h turn k less =
      let own = (call_loops y.0).loops in
      let others = all_loops (map call_loops (list_of ys)) in
      each_both (ComesOf (own ++ others)) ((starting y.0).starts turn k) (starts_in (map starting (list_of ys)) turn k)
      (each_weaker (ComesOf own) (ComesOf (own ++ others)) (comes_left own others) ((starting y.0).starts turn k)
      (y.1 m h.0 turn k less))
      (each_weaker (ComesOf others) (ComesOf (own ++ others)) (comes_right own others)
      (starts_in (map starting (list_of ys)) turn k) (all_counted ys m h.1 turn k less))

  call_counted : (lower : Bool) (times : List CallInstance) → AllCounted (b.Call lower times)
  call_counted lower times m h turn k less =
      subst (λ (p : StartsPart). EachIn (ComesOf (call_loops (b.Call lower times)).loops) (p.starts turn k))
      (sym (starts_call homes lower times)) (by (slice_get times k))
    where
      by : (o : Option CallInstance) → EachIn (ComesOf (call_loops (b.Call lower times)).loops) (once lower turn o)
      by None = tt
      by (Some r) = (tt, tt)

  -- the kind of a loop by whether it is spread
  spread_kind : (m : LoopKind) (v : Bool) (o : Option (List CallInstance)) (rows : List CallInstance)
      (turn : Option Turn) (low same : Bool) → in_lanes m v o ≡ Some rows → v ≡ is_spread m (is_some turn) low same → v ≡ true
      → m ≡ loop_kind.Parallel
  spread_kind loop_kind.Sequential v o rows turn low same e g t = absurd (let z : false ≡ true = sym g ∙ t in cc z)
  spread_kind loop_kind.Parallel v o rows turn low same e g t = refl
  spread_kind (loop_kind.Reduction r) v o rows turn low same e g t = absurd (cc e)

  alone_kind : (m : LoopKind) (v : Bool) (o : Option (List CallInstance)) (rows : List CallInstance)
      → in_lanes m v o ≡ Some rows → v ≡ false → m ≡ loop_kind.Sequential
  alone_kind loop_kind.Sequential v o rows e f = refl
  alone_kind loop_kind.Parallel true o rows e f = absurd (cc f)
  alone_kind loop_kind.Parallel false o rows e f = absurd (cc e)
  alone_kind (loop_kind.Reduction r) v o rows e f = absurd (cc e)

  lanes_rows : (m : LoopKind) (v : Bool) (o : Option (List CallInstance)) (rows : List CallInstance)
      → in_lanes m v o ≡ Some rows → o ≡ Some rows
  lanes_rows loop_kind.Sequential v o rows e = e
  lanes_rows loop_kind.Parallel true o rows e = e
  lanes_rows loop_kind.Parallel false o rows e = absurd (cc e)
  lanes_rows (loop_kind.Reduction r) v o rows e = absurd (cc e)

  map_counted : (place : Place) (m : LoopKind) (counts starts : List ℕ) (ys : List Known)
      → AllCounted (b.Map place m counts starts (list_of ys))
  map_counted place m counts starts ys n h turn k less =
      let a = subst (λ (f : AskedOfStatement). f n)
      (tabled_map most last_level level place m counts starts (list_of ys)) h in
      subst (λ (l : CallLoops). EachIn (ComesOf l.loops)
      ((starting (b.Map place m counts starts (list_of ys))).starts turn k))
      (sym (loops_map place m counts starts (list_of ys)))
      (subst (λ (p : StartsPart). EachIn (ComesOf its_loops) (p.starts turn k))
      (sym (starts_map homes place m counts starts (list_of ys)))
      (by a.0 a.2 (λ t l. a.4 k t less l) a.5 (in_lanes m v (doubled_in homes (map starting (list_of ys)))) refl))
    where
      v : Bool
      v = is_spread m (is_some turn) (any_lower (map starting (list_of ys))) (any_same (map starting (list_of ys)))

      its_loops : List CallLoop
      its_loops = loop_round m counts starts (map call_loops (list_of ys)) ++ all_loops (map call_loops (list_of ys))

      round : List CallLoop
      round = loop_round m counts starts (map call_loops (list_of ys))

      others : List CallLoop
      others = all_loops (map call_loops (list_of ys))

      by : HaveCounts counts n → (inner : ℕ) → ((t : ℕ) → t < get_or counts k 0 → get_or starts k 0 + t < inner)
          → all_parts (Tabled most last_level level) (list_of ys) inner
          → (o : Option (List CallInstance)) → in_lanes m v (doubled_in homes (map starting (list_of ys))) ≡ o
          → EachIn (ComesOf its_loops)
          (map_starts o v (get_or counts k 0) (get_or starts k 0) turn (map starting (list_of ys)))
      by have inner below parts None e =
          each_range (ComesOf its_loops)
          (λ t. starts_in (map starting (list_of ys)) (turn_in v turn (get_or counts k 0) t) (get_or starts k 0 + t)) 0
          (get_or counts k 0)
          (λ t l u. each_weaker (ComesOf others) (ComesOf its_loops) (comes_right round others)
          (starts_in (map starting (list_of ys)) (turn_in v turn (get_or counts k 0) t) (get_or starts k 0 + t))
          (all_counted ys inner parts (turn_in v turn (get_or counts k 0) t) (get_or starts k 0 + t)
          (below t (omega (arith, u)))))
      by have inner below parts (Some rows) e =
          let only = only_rows homes (list_of ys) rows (lanes_rows m v _ rows e) in
          let cl : CallLoop = record { kind = m; rows = rows; counts = counts; starts = starts } in
          let there : Among cl (loop_round m counts starts (map call_loops (list_of ys)))
          = subst (λ (xs : List Statement). Among cl (loop_round m counts starts (map call_loops xs))) (sym only.0)
          (subst (λ (l : CallLoops). Among cl (loop_round m counts starts (l ∷ []))) (sym (loops_call true rows))
          (0, refl)) in (
            (
              cl,
              among_left cl round others there,
              record {
                overlaps = only.1;
                times = n;
                have = have;
                index = k;
                less = less;
                count = refl;
                spread = λ t. spread_kind m v _ rows turn (any_lower (map starting (list_of ys)))
                    (any_same (map starting (list_of ys))) e refl t;
                alone = λ t. alone_kind m v _ rows e t;
              },
            ),
            tt,
          )

  counted_step : (y : Statement-F Known) → AllCounted (roll-Statement (map-Statement Known Statement (λ p. p.0) y))
  counted_step (Statement-F.Call lower times)
      = subst AllCounted (sym (b.rolls-Call lower times)) (call_counted lower times)
  counted_step (Statement-F.Map place m counts starts ys)
      = subst AllCounted (sym (b.rolls-Map place m counts starts (list_of ys))) (map_counted place m counts starts ys)

  counted : (y : Statement) → AllCounted y
  counted = ind-Statement AllCounted (λ y z is. subst (λ w. AllCounted (roll-Statement w)) is (counted_step z))

  abbrev known : List Statement → List Known
  known [] = []
  known (y ∷ ys) = (y, counted y) ∷ known ys

  known_are : (ys : List Statement) → list_of (known ys) ≡ ys
  known_are [] = refl
  known_are (y ∷ ys) = ap (λ zs. y ∷ zs) (known_are ys)

  pub body_counted : (d : Body) → TabledBody most last_level level d
      → EachIn (ComesOf (call_loops_of d)) (starts_of homes d)
  body_counted (body.Leaf code) h = tt
  body_counted (body.Inner list) h =
      subst (λ (ys : List Statement). all_parts (Tabled most last_level level) ys 1
      → EachIn (ComesOf (all_loops (map call_loops ys))) (starts_in (map starting ys) None 0)) (known_are list)
      (λ g. all_counted (known list) 1 g None 0 (omega arith)) h

module _ (r : Resolved) (w : Walked r) (choices : List Choice) (are : MayBeChosen r choices)
    (enough : LoopsHaveEnough r choices) (k node : ℕ) (l : BegunLoop)
    (runs : RunsAt r.typed.now.tasks r.mapping.now.instances r.machine.now.nodes r.forms k node)
    (is : IsLoop r choices k l) where
  abbrev homes_at : ℕ → Homes
  homes_at = homes_in (homes_of r choices)

  abbrev nodes : List PlanNode
  nodes = map plan_node r.machine.now.nodes

  comes : (cl : CallLoop) × Among cl (call_loops_of (body_in (bodies_of r) k).body)
      × IsCounted homes_at limits (last r w choices are nodes) (level_at r k) cl l
  comes = each_item (ComesOf homes_at limits (last r w choices are nodes) (level_at r k)
      (call_loops_of (body_in (bodies_of r) k).body)) (starts_of homes_at (body_in (bodies_of r) k).body) (Lanes l)
      (body_counted homes_at limits (last r w choices are nodes) (level_at r k) (body_in (bodies_of r) k).body
      ((laid r w choices are nodes).tabled k)) is

  has : HasEnough ((machine_setting r choices).children node) comes.0
  has = enough k node comes.1.0 comes.0 runs comes.1.1 comes.2.overlaps

  less : comes.2.index < length comes.0.counts
  less = by comes.2.have
    where
      by : HaveCounts comes.0.counts comes.2.times → comes.2.index < length comes.0.counts
      by (inl e) = let s = has.some in let n = length comes.0.counts in absurd (grind (arith, nat_tests, e, s))
      by (inr m) = let i = comes.2.less in omega (arith, i, m)

  of_kind : (kind : LoopKind) → comes.0.kind ≡ kind
      → IsEnough kind ((machine_setting r choices).children node) (get_or comes.0.counts comes.2.index 0)
  of_kind kind e = subst (λ (m : LoopKind). IsEnough m ((machine_setting r choices).children node)
      (get_or comes.0.counts comes.2.index 0)) e (has.each comes.2.index less)

  enough_spread : l.spread ≡ true → (machine_setting r choices).children node ≤ l.count
  enough_spread e =
      let g = of_kind loop_kind.Parallel (comes.2.spread e) in
      let c = comes.2.count in
      omega (arith, g, c)

  enough_alone : l.spread ≡ false → 0 < l.count
  enough_alone e =
      let g = of_kind loop_kind.Sequential (comes.2.alone e) in
      let c = comes.2.count in
      omega (arith, g, c)

pub loops_are_busy : LoopsAreBusy
loops_are_busy r w choices are enough = record {
  spread = λ k node l runs is e. enough_spread r w choices are enough k node l runs is e;
  alone = λ k node l runs is e. enough_alone r w choices are enough k node l runs is e;
}
