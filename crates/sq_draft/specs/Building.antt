-- What the builder of a term computes on the way.
use Rattle.std.specs.Prelude.{ℕ, Bool, true, List, [], ◌∷◌, map, slice_get, Option, Some, None}
use Rattle.sq_text.specs.declared.spread.SpreadRule.{SpreadRule}
use Rattle.sq_ir.specs.Leaf.declared.shape.Shape.{Shape}
use Rattle.sq_ir.specs.declared.num.Num.{Num}
use Rattle.sq_ir.specs.declared.term.Term.{Term}
use Rattle.sq_ir.specs.declared.term.Term.TheVariants as term
use Rattle.sq_spec.specs.Blocks.declared.argument.Argument.{Argument}
use Rattle.sq_spec.specs.declared.statement.LoopKind.{LoopKind}
use Rattle.sq_spec.specs.declared.statement.CallInstance.{CallInstance}
use Rattle.sq_spec.specs.declared.statement.Statement.{Statement}
use Rattle.sq_spec.specs.declared.body.FormBody.{FormBody}
use Rattle.sq_spec.specs.Spreads.{any_of, lower_in, same_in}
use Rattle.sq_tables.specs.Placed.declared.home.Home.{Home}
use Rattle.sq_tables.specs.Placed.declared.home.Homes.{Homes}
use Rattle.sq_tables.specs.Placed.Tables.{Chain, leaving_args, spread_of, Pipe, pipe_of}
use Rattle.sq_tables.specs.Term.declared.context.Context.{Context}
use Rattle.sq_tables.specs.Term.Terms.{TermPart, statement_term, loop_term, term_of, body_in, homes_in, chain_num}
use Rattle.sq_tables.specs.Term.declared.context.Move.{Move}
use Rattle.sq_tables.specs.Term.Terms.{held_moves, leaving_buffers, hold_in_term, hold_out_term, at_child_already, pipe_term}
use Rattle.sq_tables.specs.Term.Terms.{bring_term, back_term, come_in_term, fill_held_term}
use Rattle.sq_tables.specs.Loops.{rows_of_chain, loops_of_chain, chain_in}
use Rattle.sq_draft.specs.declared.forms.Holding.{Holding}
use Rattle.sq_draft.specs.declared.transfers.Transfer.{Transfer}
use Rattle.sq_draft.specs.declared.transfers.Transfer.TheVariants.{Bring, Back, Come, Fill, HoldIn, HoldOut}

-- ---- what is done for an argument

abbrev pub transfer_term : Transfer → Move → Term
transfer_term Bring = bring_term
transfer_term Back = back_term
transfer_term Come = come_in_term
transfer_term Fill = fill_held_term
transfer_term HoldIn = hold_in_term
transfer_term HoldOut = hold_out_term

-- ---- forms by their places in two lists

-- the term of a callee, round which no more than so many forms are called within one another
abbrev pub callee_in : List FormBody → List Homes → (depth : ℕ) → ℕ → Context → Term
callee_in bodies homes depth = term_of (body_in bodies) (homes_in homes) depth

abbrev pub part_in : List FormBody → List Homes → (depth : ℕ) → SpreadRule → Statement → TermPart
part_in bodies homes depth = statement_term (body_in bodies) (homes_in homes) (callee_in bodies homes depth)

abbrev pub loop_in : List FormBody → List Homes → (depth : ℕ) → SpreadRule → LoopKind → (counts starts : List ℕ)
    → List Statement → (inside : Bool) → Context → Term
loop_in bodies homes depth rule kind counts starts list =
    loop_term rule kind counts starts (map (part_in bodies homes depth rule) list)

-- ---- loops whose transfers overlap

-- the map as such a loop, if it is one
abbrev pub pipe_in : List Homes → SpreadRule → LoopKind → List Statement → (inside : Bool) → Option Pipe
pipe_in homes rule kind list inside =
    pipe_of (homes_in homes) kind (spread_of rule kind inside (any_of (map lower_in list)) (any_of (map same_in list)))
    (map chain_in list)

abbrev pub pipe_by : List FormBody → List Homes → (depth : ℕ) → Option Pipe → (counts starts : List ℕ) → Context
    → (loop : Term) → Term
pipe_by bodies homes depth = pipe_term (body_in bodies) (homes_in homes) (callee_in bodies homes depth)

-- a map whose transfers overlap or don't
abbrev pub run_in : List FormBody → List Homes → (depth : ℕ) → SpreadRule → LoopKind → (counts starts : List ℕ)
    → List Statement → (inside : Bool) → Context → Term
run_in bodies homes depth rule kind counts starts list inside c =
    pipe_by bodies homes depth (pipe_in homes rule kind list inside) counts starts c
    (loop_in bodies homes depth rule kind counts starts list inside c)

-- ---- loops that arguments leave

abbrev pub holding_args : List Shape → List Home → (rows : List CallInstance) → (number : Num) → List (ℕ × Argument)
    → Context → Option Holding
holding_args shapes params rows number [] c = None
holding_args shapes params rows number (p ∷ ps) c = Some (record {
  moves = held_moves shapes params c.views rows number (p ∷ ps);
  buffers = leaving_buffers params (p ∷ ps);
})

module _ (bodies : List FormBody) (homes : List Homes) where
  -- by the first of the rows of the call in the loop
  abbrev pub holding_row : (rows : List CallInstance) → Option CallInstance → (loops : ℕ) → (number : Num)
      → Context → Option Holding
  holding_row rows None loops number c = None
  holding_row rows (Some r) loops number c =
      holding_args (body_in bodies r.form).arrays (homes_in homes r.form).params rows number
      (leaving_args loops (homes_in homes r.form).params 0 r.args) c

  abbrev pub holding_rows : Option (List CallInstance) → (loops : ℕ) → (number : Num) → Context → Option Holding
  holding_rows None loops number c = None
  holding_rows (Some rows) loops number c = holding_row rows (slice_get rows 0) loops number c

  -- what leaves a loop, of which this call is all that stands in it
  abbrev pub holding_of : Option (Chain Num) → Context → Option Holding
  holding_of h c = holding_rows (rows_of_chain h) (loops_of_chain h) (chain_num h c.ordinal) c

-- a loop that something leaves, or nothing
abbrev pub hold_by : Option Holding → (inside : Bool) → Context → (Bool → Context → Term) → Term
hold_by None inside c loop = loop inside c
hold_by (Some h) inside c loop =
    term.Within c.child h.buffers
    (term.Seq (term.Par (map hold_in_term h.moves)
    ∷ loop true (at_child_already c)
    ∷ term.Par (map hold_out_term h.moves) ∷ []))
