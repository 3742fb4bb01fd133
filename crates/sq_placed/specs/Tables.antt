-- The placed source that the tables of forms and the homes of their arrays stand for.
use Rattle.std.specs.Prelude.{ℕ, zero, suc, ◌+◌, ◌==◌, Bool, true, false, not, ◌&&◌, ◌||◌, List, [], ◌∷◌, map, get_or}
use Rattle.std.specs.Prelude.{slice_get, drop, length, Option, Some, None, is_some, if◌then◌else◌}
use Rattle.sq_num.specs.declared.Elem.TheVariants.{Long}
use Rattle.sq_num.specs.declared.RedOp.{RedOp}
use Rattle.sq_text.specs.declared.place.Place.{Place}
use Rattle.sq_text.specs.declared.place.Span.{Span}
use Rattle.sq_text.specs.declared.spread.SpreadRule.{SpreadRule}
use Rattle.sq_ir.specs.Leaf.declared.shape.Shape.{Shape}
use Rattle.sq_ir.specs.Blocks.declared.argument.Argument.{Argument}
use Rattle.sq_spec.specs.declared.statement.LoopKind.{LoopKind}
use Rattle.sq_spec.specs.declared.statement.LoopKind.TheVariants as loop_kind
use Rattle.sq_spec.specs.declared.statement.CallInstance.{CallInstance}
use Rattle.sq_spec.specs.declared.statement.Statement.{Statement}
use Rattle.sq_spec.specs.declared.statement.Statement.TheOpen.{Statement-F}
use Rattle.sq_spec.specs.declared.statement.Statement.TheFolds.{fold-Statement}
use Rattle.sq_spec.specs.Spreads.{is_spread}
use Rattle.sq_spec.specs.declared.body.Body.{Body}
use Rattle.sq_spec.specs.declared.body.Body.TheVariants as body
use Rattle.sq_spec.specs.declared.body.FormBody.{FormBody}
use Rattle.sq_placed.specs.declared.home.Home.{Home}
use Rattle.sq_placed.specs.declared.home.Home.TheVariants.{InPlace, Own, Held, Twin}
use Rattle.sq_placed.specs.declared.home.Homes.{Homes}
use Rattle.sq_placed.specs.Placed.{Placed, PlacedArg, PlacedLocal, PlacedCall, Nothing, Then, Each, AtOnce, Gathers}
use Rattle.sq_placed.specs.Placed.{Call, Hold, Piped, Leaf}

-- ---- the arrays of a callee

-- of an array that isn't there
abbrev pub no_shape : Shape
no_shape = record { elem = Long; extents = [] }

-- the arguments from the i-th on; op: by which the map round the call reduces
abbrev pub placed_args : Option RedOp → List Shape → List Home → (i : ℕ) → List Argument → List PlacedArg
placed_args op shapes homes i [] = []
placed_args op shapes homes i (a ∷ rest) =
    record {
      argument = a;
      gathers = if a.is_reduced then op else None;
      shape = get_or shapes i no_shape;
      home = get_or homes i InPlace;
    }
    ∷ placed_args op shapes homes (suc i) rest

abbrev pub placed_locals : List Shape → List ℕ → List PlacedLocal
placed_locals [] bs = []
placed_locals (x ∷ shapes) [] = []
placed_locals (x ∷ shapes) (b ∷ bs) = record { shape = x; buffer = b } ∷ placed_locals shapes bs

-- a form's locals stand behind its parameters
abbrev pub locals_of : FormBody → Homes → List PlacedLocal
locals_of b h = placed_locals (drop (length h.params) b.arrays) h.locals

abbrev pub placed_call : (ℕ → FormBody) → (ℕ → Homes) → Option RedOp → (lower : Bool) → CallInstance → PlacedCall
placed_call bodies homes op lower r =
    record {
      form = r.form;
      lower = lower;
      args = placed_args op (bodies r.form).arrays (homes r.form).params 0 r.args;
      locals = locals_of (bodies r.form) (homes r.form);
    }

-- ---- maps

abbrev pub op_of : LoopKind → Option RedOp
op_of loop_kind.Sequential = None
op_of loop_kind.Parallel = None
op_of (loop_kind.Reduction r) = Some r.op

-- the rule of a map that is spread
abbrev pub spread_of : SpreadRule → LoopKind → (inside lower same : Bool) → Option SpreadRule
spread_of rule m inside lower same = if is_spread m inside lower same then Some rule else None

abbrev pub map_placed : LoopKind → Place → Option SpreadRule → ℕ → (ℕ → Placed) → Placed
map_placed loop_kind.Sequential place spread count w = Each count w
map_placed loop_kind.Parallel place spread count w = AtOnce place spread count w
map_placed (loop_kind.Reduction r) place spread count w = Gathers r place spread count w

-- ---- loops that arguments leave

-- A lower call that is all that stands in so many loops: its rows, and which of them is the first one, in numbers of
-- either kind.
pub record Chain (X : Type 0) : Type 0 where
  pub loops : ℕ
  pub instances : List CallInstance
  pub first : X → X

-- starts: how many iterations began before
abbrev pub one_more : {X : Type 0} → (List ℕ → X → X) → List ℕ → Option (Chain X) → Option (Chain X)
one_more pick starts None = None
one_more pick starts (Some h) =
    Some (record { loops = suc h.loops; instances = h.instances; first = λ x. h.first (pick starts x) })

abbrev pub chain_of : {X : Type 0} → (List ℕ → X → X) → LoopKind → List ℕ → List (Option (Chain X)) → Option (Chain X)
chain_of pick loop_kind.Sequential starts (h ∷ []) = one_more pick starts h
chain_of pick m starts hs = None

abbrev pub call_chain : {X : Type 0} → (lower : Bool) → List CallInstance → Option (Chain X)
call_chain lower instances =
    if lower then Some (record { loops = 0; instances = instances; first = λ x. x }) else None

-- the number of the first iteration
abbrev pub first_of : List ℕ → ℕ → ℕ
first_of starts k = get_or starts k 0

-- an argument leaves this loop, of so many round its call
abbrev pub leaves_loop : (loops : ℕ) → Home → Bool
leaves_loop loops InPlace = false
leaves_loop loops (Own b) = false
leaves_loop loops (Held b n) = n == loops
leaves_loop loops (Twin b c) = false

-- the arguments that leave the loop, with their positions, from the i-th on
abbrev pub leaving_args : (loops : ℕ) → List Home → (i : ℕ) → List Argument → List (ℕ × Argument)
leaving_args loops homes i [] = []
leaving_args loops homes i (a ∷ rest) =
    if leaves_loop loops (get_or homes i InPlace) then (i, a) ∷ leaving_args loops homes (suc i) rest
    else leaving_args loops homes (suc i) rest

abbrev pub leaving_row : (ℕ → Homes) → (loops : ℕ) → Option CallInstance → List (ℕ × Argument)
leaving_row homes loops None = []
leaving_row homes loops (Some r) = leaving_args loops (homes r.form).params 0 r.args

-- a loop's call has one form, that of its first row
abbrev pub leaving_chain : {X : Type 0} → (ℕ → Homes) → Option (Chain X) → List (ℕ × Argument)
leaving_chain homes None = []
leaving_chain homes (Some h) = leaving_row homes h.loops (slice_get h.instances 0)

abbrev pub arg_rect : Option Argument → List Span
arg_rect None = []
arg_rect (Some a) = a.rect

abbrev pub row_rect : Option CallInstance → ℕ → List Span
row_rect None i = []
row_rect (Some r) i = arg_rect (slice_get r.args i)

abbrev pub with_rect : Argument → List Span → Argument
with_rect a rect = record { mode = a.mode; is_reduced = a.is_reduced; array = a.array; rect = rect }

-- an argument that leaves a loop, with its block in the row of the first iteration
abbrev pub held_arg : FormBody → Homes → (row : Option CallInstance) → (ℕ × Argument) → PlacedArg
held_arg b h row p = record {
  argument = with_rect p.1 (row_rect row p.0);
  gathers = None;
  shape = get_or b.arrays p.0 no_shape;
  home = get_or h.params p.0 InPlace;
}

abbrev pub row_form : Option CallInstance → ℕ
row_form None = 0
row_form (Some r) = r.form

abbrev pub chain_form : {X : Type 0} → Option (Chain X) → ℕ
chain_form None = 0
chain_form (Some h) = row_form (slice_get h.instances 0)

-- the row of the loop's first iteration when it is begun for the k-th time
abbrev pub chain_row : Option (Chain ℕ) → ℕ → Option CallInstance
chain_row None k = None
chain_row (Some h) k = slice_get h.instances (h.first k)

-- the loop, which these arguments leave
abbrev pub hold_placed : List (ℕ × Argument) → ((ℕ × Argument) → PlacedArg) → Placed → Placed
hold_placed [] f w = w
hold_placed (p ∷ ps) f w = Hold (map f (p ∷ ps)) w

abbrev pub holds : List (ℕ × Argument) → Bool
holds [] = false
holds (p ∷ ps) = true

-- ---- loops whose transfers overlap

-- the rows of a lower call that is all that stands in a loop, where its form's transfers overlap
abbrev pub overlapped : {X : Type 0} → (ℕ → Homes) → Option (Chain X) → Option (List CallInstance)
overlapped homes None = None
overlapped homes (Some h) = if h.loops == 0 && (homes (chain_form (Some h))).overlaps then Some h.instances else None

abbrev pub overlapped_in : {X : Type 0} → (ℕ → Homes) → List (Option (Chain X)) → Option (List CallInstance)
overlapped_in homes (h ∷ []) = overlapped homes h
overlapped_in homes hs = None

-- a `mapseq`, or a `mappar` that is spread by this rule, may overlap its transfers
abbrev pub lanes_of : LoopKind → Option SpreadRule → Option (Option SpreadRule)
lanes_of loop_kind.Sequential spread = Some None
lanes_of loop_kind.Parallel None = None
lanes_of loop_kind.Parallel (Some rule) = Some (Some rule)
lanes_of (loop_kind.Reduction r) spread = None

-- such a loop, and the rows of its call
pub record Pipe : Type 0 where
  pub spread : Option SpreadRule
  pub rows : List CallInstance

abbrev pub pipe_by : Option (Option SpreadRule) → Option (List CallInstance) → Option Pipe
pipe_by None rows = None
pipe_by (Some spread) None = None
pipe_by (Some spread) (Some rows) = Some (record { spread = spread; rows = rows })

abbrev pub pipe_of : {X : Type 0} → (ℕ → Homes) → LoopKind → Option SpreadRule → List (Option (Chain X))
    → Option Pipe
pipe_of homes m spread hs = pipe_by (lanes_of m spread) (overlapped_in homes hs)

abbrev pub placed_rule : Place → Option SpreadRule → Option (Place × SpreadRule)
placed_rule place None = None
placed_rule place (Some rule) = Some (place, rule)

-- of a row that isn't there
abbrev pub no_call : PlacedCall
no_call = record { form = 0; lower = true; args = []; locals = [] }

-- ---- statements

-- A statement of a form: whether it has in it, at any depth, a lower call and a same-level one, the call of which it
-- is a loop, and what it is when it is begun for the k-th time, by the operator of the map round it and whether a
-- spread map, or a loop that arguments leave, stands round it.
pub record PlacedPart : Type 0 where
  pub lower : Bool
  pub same : Bool
  pub chain : Option (Chain ℕ)
  pub placed : (op : Option RedOp) → (inside : Bool) → (k : ℕ) → Placed

abbrev pub any_lower : List PlacedPart → Bool
any_lower [] = false
any_lower (p ∷ ps) = p.lower || any_lower ps

abbrev pub any_same : List PlacedPart → Bool
any_same [] = false
any_same (p ∷ ps) = p.same || any_same ps

abbrev pub chains : List PlacedPart → List (Option (Chain ℕ))
chains ps = map (λ p. p.chain) ps

abbrev pub all_placed : List PlacedPart → Option RedOp → Bool → ℕ → Placed
all_placed [] op inside k = Nothing
all_placed (p ∷ ps) op inside k = Then (p.placed op inside k) (all_placed ps op inside k)

module _ (bodies : ℕ → FormBody) (homes : ℕ → Homes) (callee : ℕ → Placed) where
  abbrev pub row_placed : Option RedOp → (lower : Bool) → Option CallInstance → Placed
  row_placed op lower None = Nothing
  row_placed op lower (Some r) = Call (placed_call bodies homes op lower r) (callee r.form)

  abbrev pub row_call : Option CallInstance → PlacedCall
  row_call None = no_call
  row_call (Some r) = placed_call bodies homes None true r

  abbrev pub row_body : Option CallInstance → Placed
  row_body None = Nothing
  row_body (Some r) = callee r.form

  -- start: how many iterations began before; loop: what it is where its transfers don't overlap
  abbrev pub pipe_placed : Option Pipe → Place → (count start : ℕ) → (loop : Placed) → Placed
  pipe_placed None place count start loop = loop
  pipe_placed (Some p) place count start loop =
      Piped (placed_rule place p.spread) count (λ t. row_call (slice_get p.rows (start + t)))
      (λ t. row_body (slice_get p.rows (start + t)))

  -- an iteration's statements stand inside what holds
  abbrev pub map_held : Option (Chain ℕ) → (k : ℕ) → (inside : Bool) → (Bool → Placed) → Placed
  map_held h k inside loop =
      hold_placed (leaving_chain homes h) (held_arg (bodies (chain_form h)) (homes (chain_form h)) (chain_row h k))
      (loop (inside || holds (leaving_chain homes h)))

  abbrev pub placed_step : SpreadRule → Statement-F PlacedPart → PlacedPart
  placed_step rule (Statement-F.Call lower instances) = record {
    lower = lower;
    same = not lower;
    chain = call_chain lower instances;
    placed = λ op inside k. row_placed op lower (slice_get instances k);
  }
  placed_step rule (Statement-F.Map place m counts starts parts) = record {
    lower = any_lower parts;
    same = any_same parts;
    chain = chain_of first_of m starts (chains parts);
    placed = λ op inside k.
        map_held (chain_of first_of m starts (chains parts)) k inside (λ within_it.
        let spread = spread_of rule m within_it (any_lower parts) (any_same parts) in
        pipe_placed (pipe_of homes m spread (chains parts)) place (get_or counts k 0) (get_or starts k 0)
        (map_placed m place spread (get_or counts k 0)
        (λ t. all_placed parts (op_of m) (within_it || is_some spread) (get_or starts k 0 + t))));
  }

  abbrev pub statement_placed : SpreadRule → Statement → PlacedPart
  statement_placed rule = fold-Statement PlacedPart (placed_step rule)

  abbrev pub body_placed : Homes → List Shape → Body → Placed
  body_placed h shapes (body.Leaf code) = Leaf h.code code shapes
  body_placed h shapes (body.Inner list) = all_placed (map (statement_placed h.rule) list) None false 0

-- the form with this number, round which no more than n forms are called within one another
abbrev pub placed_of : (ℕ → FormBody) → (ℕ → Homes) → ℕ → ℕ → Placed
placed_of bodies homes zero k = Nothing
placed_of bodies homes (suc n) k =
    body_placed bodies homes (placed_of bodies homes n) (homes k) (bodies k).arrays (bodies k).body

-- ---- the entry

abbrev pub entry_call_placed : FormBody → Homes → List Argument → PlacedCall
entry_call_placed b h args =
    record { form = 0; lower = false; args = placed_args None b.arrays [] 0 args; locals = locals_of b h }

abbrev pub entry_placed : (ℕ → FormBody) → (ℕ → Homes) → ℕ → List Argument → Placed
entry_placed bodies homes n args = Call (entry_call_placed (bodies 0) (homes 0) args) (placed_of bodies homes n 0)
