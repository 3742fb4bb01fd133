-- What a node needs for a form, by the tables, where loops may overlap their transfers: the greatest sum of the buffers
-- that calls within one another, and such loops round them, bring to it.
use Rattle.std.specs.Prelude.{◌≡◌, ℕ, zero, suc, ◌+◌, Bool, not, ◌||◌, false, true, List, [], ◌∷◌, ◌++◌, map}
use Rattle.std.specs.Prelude.{length, get_or, slice_get, Option, Some, None, if◌then◌else◌}
use Rattle.std.specs.Prelude.{is_some}
use Rattle.std.specs.List.{flat_map, range_with_len}
use Rattle.sq_text.specs.declared.spread.SpreadRule.{SpreadRule}
use Rattle.sq_text.specs.Spreading.{iterations_at}
use Rattle.sq_ir.specs.Written.{Setting}
use Rattle.sq_ir.specs.declared.plan.Draft.{Draft}
use Rattle.sq_ir.specs.declared.plan.PlanNode.{PlanNode}
use Rattle.sq_blocks.specs.declared.argument.Argument.{Argument}
use Rattle.sq_spec.specs.declared.statement.LoopKind.{LoopKind}
use Rattle.sq_spec.specs.declared.statement.LoopKind.TheVariants as loop_kind
use Rattle.sq_spec.specs.declared.statement.CallInstance.{CallInstance}
use Rattle.sq_spec.specs.declared.statement.Statement.{Statement}
use Rattle.sq_spec.specs.declared.statement.Statement.TheOpen.{Statement-F}
use Rattle.sq_spec.specs.declared.statement.Statement.TheFolds.{fold-Statement}
use Rattle.sq_spec.specs.declared.body.Body.{Body}
use Rattle.sq_spec.specs.declared.body.Body.TheVariants as body
use Rattle.sq_spec.specs.declared.body.FormBody.{FormBody}
use Rattle.sq_spec.specs.declared.resolved.Resolved.{Resolved}
use Rattle.sq_spec.specs.Spreads.{is_spread}
use Rattle.sq_spec_laws.specs.Needs.{Turn, turn_in}
use Rattle.sq_nests.specs.Stacks.{total}
use Rattle.sq_nests.specs.Drafts.{nested_sum}
use Rattle.sq_placed.specs.declared.home.Home.{Home}
use Rattle.sq_placed.specs.declared.home.Home.TheVariants.{InPlace, Own, Held, Twin}
use Rattle.sq_placed.specs.declared.home.Homes.{Homes}
use Rattle.sq_placed.specs.Tables.{locals_of, row_form}
use Rattle.sq_placed.specs.Trees.{local_buffers, callee_node}
use Rattle.sq_term.specs.Terms.{body_in, homes_in, set_buffers_from, row_args}
use Rattle.sq_draft_laws.specs.Homes.Chosen.declared.choice.Choice.{Choice}
use Rattle.sq_draft_laws.specs.Homes.Chosen.Forms.{bodies_of}
use Rattle.sq_draft_laws.specs.Homes.Drafts.{IsDraftOf, homes_of, entry_of}
use Rattle.sq_draft_laws.specs.Choosing.{Walked, MayBeChosen, setting_of}
use Rattle.sq_draft_laws.specs.Homes.Begun.{Begun, child_in}
use Rattle.sq_plan_good.specs.Sums.{greatest, here}

-- ---- what tables begin

-- A loop that overlaps its transfers: the first row of its call, whether it is spread, how many iterations it has, and
-- the iteration of the spread map round it.
pub record BegunLoop : Type 0 where
  pub row : Option CallInstance
  pub spread : Bool
  pub count : ℕ
  pub turn : Option Turn

-- a call, or all calls of such a loop
pub data Starts : Type 0 where
  Once : Begun → Starts
  Lanes : BegunLoop → Starts

-- A statement: whether a lower call and whether a same-level call stands in it, its rows if it is a lower call, and
-- what it begins, where such an iteration stands round it and it is begun for the k-th time.
pub record StartsPart : Type 0 where
  pub lower : Bool
  pub same : Bool
  pub call : Option (List CallInstance)
  pub starts : Option Turn → (k : ℕ) → List Starts

abbrev pub any_lower : List StartsPart → Bool
any_lower [] = false
any_lower (p ∷ ps) = p.lower || any_lower ps

abbrev pub any_same : List StartsPart → Bool
any_same [] = false
any_same (p ∷ ps) = p.same || any_same ps

abbrev pub starts_in : List StartsPart → Option Turn → ℕ → List Starts
starts_in [] turn k = []
starts_in (p ∷ ps) turn k = p.starts turn k ++ starts_in ps turn k

abbrev pub once : (lower : Bool) → Option Turn → Option CallInstance → List Starts
once lower turn None = []
once lower turn (Some r) = Once (record { row = r; lower = lower; turn = turn }) ∷ []

-- the rows of a loop's one call, if its form's transfers overlap: where the loop can overlap them
abbrev pub in_lanes : LoopKind → (spread : Bool) → Option (List CallInstance) → Option (List CallInstance)
in_lanes loop_kind.Sequential spread rows = rows
in_lanes loop_kind.Parallel spread rows = if spread then rows else None
in_lanes (loop_kind.Reduction r) spread rows = None

-- start: how many iterations began before
abbrev pub map_starts : Option (List CallInstance) → (spread : Bool) → (count start : ℕ) → Option Turn
    → List StartsPart → List Starts
map_starts None spread count start turn parts =
    flat_map (λ t. starts_in parts (turn_in spread turn count t) (start + t)) (range_with_len 0 count)
map_starts (Some rows) spread count start turn parts =
    Lanes (record { row = slice_get rows 0; spread = spread; count = count; turn = turn }) ∷ []

module _ (homes : ℕ → Homes) where
  -- the rows of a lower call whose form's transfers overlap
  abbrev pub doubled : Option (List CallInstance) → Option (List CallInstance)
  doubled None = None
  doubled (Some rows) = if (homes (row_form (slice_get rows 0))).overlaps then Some rows else None

  abbrev pub doubled_in : List StartsPart → Option (List CallInstance)
  doubled_in (p ∷ []) = doubled p.call
  doubled_in ps = None

  abbrev pub starts_step : Statement-F StartsPart → StartsPart
  starts_step (Statement-F.Call lower instances) = record {
    lower = lower;
    same = not lower;
    call = if lower then Some instances else None;
    starts = λ turn k. once lower turn (slice_get instances k);
  }
  starts_step (Statement-F.Map place m counts starts parts) = record {
    lower = any_lower parts;
    same = any_same parts;
    call = None;
    starts = λ turn k.
        let spread = is_spread m (is_some turn) (any_lower parts) (any_same parts) in
        map_starts (in_lanes m spread (doubled_in parts)) spread (get_or counts k 0) (get_or starts k 0) turn parts;
  }

  abbrev pub starts_by : Statement → StartsPart
  starts_by = fold-Statement StartsPart starts_step

  -- of a form
  abbrev pub starts_of : Body → List Starts
  starts_of (body.Leaf code) = []
  starts_of (body.Inner list) = starts_in (map starts_by list) None 0

-- ---- what they bring

-- The buffers of a parameter that isn't in place, at a call that stands in a loop that overlaps its transfers, or in
-- none: both of a twin stand round the loop, and none of them elsewhere.
abbrev pub standing : (overlaps : Bool) → Home → List ℕ → List ℕ
standing overlaps InPlace more = more
standing overlaps (Own b) more = if overlaps then more else b ∷ more
standing overlaps (Held b loops) more = b ∷ more
standing overlaps (Twin b c) more = if overlaps then b ∷ c ∷ more else more

abbrev pub standing_from : (overlaps : Bool) → List Home → (i : ℕ) → List Argument → List ℕ
standing_from overlaps homes i [] = []
standing_from overlaps homes i (a ∷ rest) =
    standing overlaps (get_or homes i InPlace) (standing_from overlaps homes (suc i) rest)

-- the buffers that a call of this form brings, those of what leaves loops round it too, and those of its locals
abbrev pub brought_by : (ℕ → FormBody) → (ℕ → Homes) → (overlaps : Bool) → (form : ℕ) → List Argument → List ℕ
brought_by bodies homes overlaps form args =
    standing_from overlaps (homes form).params 0 args ++ local_buffers (locals_of (bodies form) (homes form))

-- the two sets
abbrev pub both_sets : (ℕ → Homes) → (form : ℕ) → List Argument → List ℕ
both_sets homes form args =
    set_buffers_from 0 (homes form).params 0 args ++ set_buffers_from 1 (homes form).params 0 args

-- x: the node that is asked for
module _ (s : Setting) (bodies : ℕ → FormBody) (homes : ℕ → Homes) (x : ℕ) where
  -- For so many iterations of a loop that overlaps its transfers, at the node to which they go. Where none goes, the
  -- two sets stand.
  abbrev pub lane_worth : (inside : ℕ → ℕ → ℕ) → Option CallInstance → (to many : ℕ) → ℕ
  lane_worth inside row to zero = here to x (total s.size (both_sets homes (row_form row) (row_args row)))
  lane_worth inside row to (suc n) =
      here to x (total s.size (brought_by bodies homes true (row_form row) (row_args row))) + inside (row_form row) to

  -- at each child
  abbrev pub lanes_worth : (inside : ℕ → ℕ → ℕ) → SpreadRule → (node : ℕ) → BegunLoop → ℕ
  lanes_worth inside rule node l =
      if l.spread
      then greatest (λ d. lane_worth inside l.row (s.child node d)
      (length (iterations_at rule l.count (s.children node) d))) (range_with_len 0 (s.children node))
      else lane_worth inside l.row (callee_node s true node (child_in rule (s.children node) l.turn)) l.count

  abbrev pub starts_worth : (inside : ℕ → ℕ → ℕ) → SpreadRule → (node : ℕ) → Starts → ℕ
  starts_worth inside rule node (Once b) =
      here (callee_node s b.lower node (child_in rule (s.children node) b.turn)) x
      (total s.size (brought_by bodies homes false b.row.form b.row.args))
      + inside b.row.form (callee_node s b.lower node (child_in rule (s.children node) b.turn))
  starts_worth inside rule node (Lanes l) = lanes_worth inside rule node l

  -- for what the k-th form begins at this node, no more than n forms being called within one another
  abbrev pub stand_sum : (n k node : ℕ) → ℕ
  stand_sum zero k node = 0
  stand_sum (suc n) k node =
      greatest (starts_worth (stand_sum n) (homes k).rule node) (starts_of homes (bodies k).body)

  -- for the entry, whose arrays have these buffers
  abbrev pub entry_stand : (n : ℕ) → List ℕ → ℕ
  entry_stand n entry =
      here 0 x (total s.size (entry ++ local_buffers (locals_of (bodies 0) (homes 0)))) + stand_sum n 0 0

-- ---- the law

-- the nested sum of a draft, by its tables
abbrev pub draft_sum : Resolved → List Choice → List PlanNode → ℕ → ℕ
draft_sum r choices nodes node =
    entry_stand (setting_of r choices nodes (λ b. 0)) (body_in (bodies_of r)) (homes_in (homes_of r choices)) node
    (length (bodies_of r)) (entry_of r choices)

-- What stands within one another at a node of a draft are the buffers of calls within one another, of an argument that
-- leaves loops too, and both buffers of each twin round a loop that overlaps its transfers, also at a child to which no
-- iteration goes.
abbrev pub SumsAreOfLoops : Type 0
SumsAreOfLoops = (r : Resolved) → Walked r → (choices : List Choice) → MayBeChosen r choices
    → (d : Draft) → IsDraftOf r choices d
    → (nodes : List PlanNode) (node : ℕ) → nested_sum d nodes node ≡ draft_sum r choices nodes node
