-- Where no loop overlaps its transfers, what tables begin are calls, and each brings all of its buffers.
use Rattle.std.proofs.Common.{◌≡◌, ℕ, zero, suc, ◌+◌, max, Bool, true, false, ◌||◌, List, [], ◌∷◌, ◌++◌, map}
use Rattle.std.proofs.Common.{get_or, slice_get, Option, Some, None, refl, sym, ap, ap₂, subst, ◌∙◌, if◌then◌else◌}
use Rattle.std.specs.Prelude.{is_some}
use Rattle.std.specs.List.{flat_map, range_with_len}
use Rattle.sq_text.specs.declared.place.Place.{Place}
use Rattle.sq_text.specs.declared.spread.SpreadRule.{SpreadRule}
use Rattle.sq_ir.specs.Written.{Setting}
use Rattle.sq_blocks.specs.declared.argument.Argument.{Argument}
use Rattle.sq_spec.specs.declared.statement.LoopKind.{LoopKind}
use Rattle.sq_spec.specs.declared.statement.LoopKind.TheVariants as loop_kind
use Rattle.sq_spec.specs.declared.statement.CallInstance.{CallInstance}
use Rattle.sq_spec.specs.declared.statement.Statement.{Statement, roll-Statement}
use Rattle.sq_spec.specs.declared.statement.Statement.TheVariants as b
use Rattle.sq_spec.specs.declared.statement.Statement.TheOpen.{Statement-F}
use Rattle.sq_spec.specs.declared.statement.Statement.TheFolds.{ind-Statement, map-Statement}
use Rattle.sq_spec.specs.declared.body.Body.{Body}
use Rattle.sq_spec.specs.declared.body.Body.TheVariants as body
use Rattle.sq_spec.specs.declared.body.FormBody.{FormBody}
use Rattle.sq_spec.specs.Spreads.{is_spread}
use Rattle.sq_spec_laws.specs.Needs.{Turn, turn_in}
use Rattle.sq_nests.specs.Stacks.{total}
use Rattle.sq_placed.specs.declared.home.Home.{Home}
use Rattle.sq_placed.specs.declared.home.Home.TheVariants.{InPlace, Own, Held, Twin}
use Rattle.sq_placed.specs.declared.home.Homes.{Homes}
use Rattle.sq_placed.specs.Pipes.{NonePiped}
use Rattle.sq_placed.specs.Tables.{row_form, locals_of}
use Rattle.sq_placed.specs.Trees.{local_buffers, callee_node}
use Rattle.sq_draft_laws.specs.TermLaws.Orders.{EachOf}
use Rattle.sq_draft_laws.specs.TermLaws.Overlapping.{IsSuited}
use Rattle.sq_draft_laws.specs.Homes.Begun as tables
use Rattle.sq_draft_laws.specs.Homes.Begun.{Begun, BegunPart, calls_in, row_begun, calls_of, child_in}
use Rattle.sq_plan_good.specs.Sums.{greatest, here, either_buffer, params_from, worth, sum_of, entry_sum}
use Rattle.sq_plan_good.specs.Loops.{Starts, Once, StartsPart, any_lower, any_same, starts_in, once, in_lanes, map_starts}
use Rattle.sq_plan_good.specs.Loops.{doubled, doubled_in, starts_by, starts_of, standing, standing_from, starts_worth}
use Rattle.sq_plan_good.specs.Loops.{stand_sum, entry_stand}
use Rattle.sq_plan_good.proofs.Terms.{begun_call, begun_map, starts_call, starts_map}

-- ---- the buffers of calls

suited_at : (o : Bool) (hs : List Home) → EachOf (IsSuited o) hs → (i : ℕ) → IsSuited o (get_or hs i InPlace)
suited_at o [] h i = tt
suited_at o (x ∷ hs) h zero = h.0
suited_at o (x ∷ hs) h (suc i) = suited_at o hs h.1 i

either_same : (h : Home) → IsSuited false h → (more : List ℕ) → standing false h more ≡ either_buffer h more
either_same InPlace o more = refl
either_same (Own b) o more = refl
either_same (Held b loops) o more = refl
either_same (Twin b c) o more = absurd (let z = o in cc)

params_same : (hs : List Home) → EachOf (IsSuited false) hs → (i : ℕ) (args : List Argument)
    → standing_from false hs i args ≡ params_from hs i args
params_same hs h i [] = refl
params_same hs h i (a ∷ rest) =
    either_same (get_or hs i InPlace) (suited_at false hs h i) (standing_from false hs (suc i) rest)
    ∙ ap (either_buffer (get_or hs i InPlace)) (params_same hs h (suc i) rest)

-- ---- what tables begin

map_append : (xs ys : List Begun) → map Once (xs ++ ys) ≡ map Once xs ++ map Once ys
map_append [] ys = refl
map_append (x ∷ xs) ys = ap (λ zs. Once x ∷ zs) (map_append xs ys)

each_once : (f : ℕ → List Starts) (g : ℕ → List Begun) → ((t : ℕ) → f t ≡ map Once (g t)) → (a m : ℕ)
    → flat_map f (range_with_len a m) ≡ map Once (flat_map g (range_with_len a m))
each_once f g h a zero = refl
each_once f g h a (suc m) = ap₂ (λ xs ys. xs ++ ys) (h a) (each_once f g h (a + 1) m)
    ∙ sym (map_append (g a) (flat_map g (range_with_len (a + 1) m)))

module _ (homes : ℕ → Homes) (free : NonePiped homes) where
  none_doubled : (o : Option (List CallInstance)) → doubled homes o ≡ None
  none_doubled None = refl
  none_doubled (Some rows) =
      ap (λ (v : Bool). if v then Some rows else None) (free (row_form (slice_get rows 0)))

  none_in : (ps : List StartsPart) → doubled_in homes ps ≡ None
  none_in [] = refl
  none_in (p ∷ []) = none_doubled p.call
  none_in (p ∷ q ∷ ps) = refl

  no_lanes : (m : LoopKind) (v : Bool) → in_lanes m v None ≡ None
  no_lanes loop_kind.Sequential v = refl
  no_lanes loop_kind.Parallel true = refl
  no_lanes loop_kind.Parallel false = refl
  no_lanes (loop_kind.Reduction r) v = refl

  abbrev starting : Statement → StartsPart
  starting = starts_by homes

  record AreCalls (y : Statement) : Type 0 where
    lower : (starting y).lower ≡ (tables.begun y).lower
    same : (starting y).same ≡ (tables.begun y).same
    calls : (turn : Option Turn) (k : ℕ) → (starting y).starts turn k ≡ map Once ((tables.begun y).calls turn k)

  abbrev Known : Type 0
  Known = (y : Statement) × AreCalls y

  abbrev list_of : List Known → List Statement
  list_of = map (λ q. q.0)

  lowers : (ys : List Known) → any_lower (map starting (list_of ys)) ≡ tables.any_lower (map tables.begun (list_of ys))
  lowers [] = refl
  lowers (y ∷ ys) = ap₂ (λ u v. u || v) y.1.lower (lowers ys)

  sames : (ys : List Known) → any_same (map starting (list_of ys)) ≡ tables.any_same (map tables.begun (list_of ys))
  sames [] = refl
  sames (y ∷ ys) = ap₂ (λ u v. u || v) y.1.same (sames ys)

  all_calls : (ys : List Known) (turn : Option Turn) (k : ℕ) → starts_in (map starting (list_of ys)) turn k
      ≡ map Once (calls_in (map tables.begun (list_of ys)) turn k)
  all_calls [] turn k = refl
  all_calls (y ∷ ys) turn k = ap₂ (λ us vs. us ++ vs) (y.1.calls turn k) (all_calls ys turn k)
      ∙ sym (map_append ((tables.begun y.0).calls turn k) (calls_in (map tables.begun (list_of ys)) turn k))

  call_calls : (lower : Bool) (times : List CallInstance) → AreCalls (b.Call lower times)
  call_calls lower times = record {
    lower = ap (λ (p : StartsPart). p.lower) (starts_call homes lower times)
        ∙ sym (ap (λ (p : BegunPart). p.lower) (begun_call lower times));
    same = ap (λ (p : StartsPart). p.same) (starts_call homes lower times)
        ∙ sym (ap (λ (p : BegunPart). p.same) (begun_call lower times));
    calls = λ turn k.
        ap (λ (p : StartsPart). p.starts turn k) (starts_call homes lower times)
        ∙ by turn (slice_get times k)
        ∙ sym (ap (λ (p : BegunPart). map Once (p.calls turn k)) (begun_call lower times));
  }
    where
      by : (turn : Option Turn) (o : Option CallInstance) → once lower turn o ≡ map Once (row_begun lower turn o)
      by turn None = refl
      by turn (Some r) = refl

  map_calls : (place : Place) (m : LoopKind) (counts starts : List ℕ) (ys : List Known)
      → AreCalls (b.Map place m counts starts (list_of ys))
  map_calls place m counts starts ys = record {
    lower = ap (λ (p : StartsPart). p.lower) (starts_map homes place m counts starts (list_of ys)) ∙ lowers ys
        ∙ sym (ap (λ (p : BegunPart). p.lower) (begun_map place m counts starts (list_of ys)));
    same = ap (λ (p : StartsPart). p.same) (starts_map homes place m counts starts (list_of ys)) ∙ sames ys
        ∙ sym (ap (λ (p : BegunPart). p.same) (begun_map place m counts starts (list_of ys)));
    calls = λ turn k.
        let parts = map starting (list_of ys) in
        let count = get_or counts k 0 in
        let start = get_or starts k 0 in
        ap (λ (p : StartsPart). p.starts turn k) (starts_map homes place m counts starts (list_of ys))
        ∙ ap₂ (λ (u v : Bool). map_starts (in_lanes m (is_spread m (is_some turn) u v) (doubled_in homes parts))
        (is_spread m (is_some turn) u v) count start turn parts) (lowers ys) (sames ys)
        ∙ plain m (is_spread m (is_some turn) (tables.any_lower (map tables.begun (list_of ys)))
        (tables.any_same (map tables.begun (list_of ys)))) count start turn
        ∙ sym (ap (λ (p : BegunPart). map Once (p.calls turn k)) (begun_map place m counts starts (list_of ys)));
  }
    where
      plain : (m : LoopKind) (v : Bool) (count start : ℕ) (turn : Option Turn)
          → map_starts (in_lanes m v (doubled_in homes (map starting (list_of ys)))) v count start turn
          (map starting (list_of ys))
          ≡ map Once (flat_map (λ t. calls_in (map tables.begun (list_of ys)) (turn_in v turn count t) (start + t))
          (range_with_len 0 count))
      plain m v count start turn =
          ap (λ (o : Option (List CallInstance)). map_starts o v count start turn (map starting (list_of ys)))
          (ap (in_lanes m v) (none_in (map starting (list_of ys))) ∙ no_lanes m v)
          ∙ each_once _ _ (λ t. all_calls ys (turn_in v turn count t) (start + t)) 0 count

  calls_step : (y : Statement-F Known) → AreCalls (roll-Statement (map-Statement Known Statement (λ p. p.0) y))
  calls_step (Statement-F.Call lower times)
      = subst AreCalls (sym (b.rolls-Call lower times)) (call_calls lower times)
  calls_step (Statement-F.Map place m counts starts ys)
      = subst AreCalls (sym (b.rolls-Map place m counts starts (list_of ys))) (map_calls place m counts starts ys)

  are_calls : (y : Statement) → AreCalls y
  are_calls = ind-Statement AreCalls (λ y z is. subst (λ w. AreCalls (roll-Statement w)) is (calls_step z))

  abbrev known : List Statement → List Known
  known [] = []
  known (y ∷ ys) = (y, are_calls y) ∷ known ys

  known_are : (ys : List Statement) → list_of (known ys) ≡ ys
  known_are [] = refl
  known_are (y ∷ ys) = ap (λ zs. y ∷ zs) (known_are ys)

  body_calls : (d : Body) → starts_of homes d ≡ map Once (calls_of d)
  body_calls (body.Leaf code) = refl
  body_calls (body.Inner list) =
      subst (λ (ys : List Statement). starts_in (map starting ys) None 0
      ≡ map Once (calls_in (map tables.begun ys) None 0)) (known_are list) (all_calls (known list) None 0)

-- ---- their sums

module _ (s : Setting) (x : ℕ) (bodies : ℕ → FormBody) (homes : ℕ → Homes) (free : NonePiped homes)
    (single : (f : ℕ) → EachOf (IsSuited false) (homes f).params) where
  worth_same : (one two : ℕ → ℕ → ℕ) → ((f node : ℕ) → one f node ≡ two f node) → (rule : SpreadRule) (node : ℕ)
      (c : Begun) → starts_worth s bodies homes x one rule node (Once c) ≡ worth s bodies homes x two rule node c
  worth_same one two h rule node c =
      ap₂ (λ (bs : List ℕ) (k : ℕ). here to x (total s.size (bs ++ ends)) + k)
      (params_same (homes c.row.form).params (single c.row.form) 0 c.row.args) (h c.row.form to)
    where
      to : ℕ
      to = callee_node s c.lower node (child_in rule (s.children node) c.turn)

      ends : List ℕ
      ends = local_buffers (locals_of (bodies c.row.form) (homes c.row.form))

  all_same : (one two : ℕ → ℕ → ℕ) → ((f node : ℕ) → one f node ≡ two f node) → (rule : SpreadRule) (node : ℕ)
      (cs : List Begun) → greatest (starts_worth s bodies homes x one rule node) (map Once cs)
      ≡ greatest (worth s bodies homes x two rule node) cs
  all_same one two h rule node [] = refl
  all_same one two h rule node (c ∷ cs) = ap₂ max (worth_same one two h rule node c) (all_same one two h rule node cs)

  sums_same : (n k node : ℕ) → stand_sum s bodies homes x n k node ≡ sum_of s bodies homes x n k node
  sums_same zero k node = refl
  sums_same (suc n) k node =
      ap (greatest (starts_worth s bodies homes x (stand_sum s bodies homes x n) (homes k).rule node))
      (body_calls homes free (bodies k).body)
      ∙ all_same (stand_sum s bodies homes x n) (sum_of s bodies homes x n) (sums_same n) (homes k).rule node
      (calls_of (bodies k).body)

  pub entries_same : (n : ℕ) (entry : List ℕ)
      → entry_stand s bodies homes x n entry ≡ entry_sum s bodies homes x n entry
  entries_same n entry =
      ap (λ (k : ℕ). here 0 x (total s.size (entry ++ local_buffers (locals_of (bodies 0) (homes 0)))) + k)
      (sums_same n 0 0)
