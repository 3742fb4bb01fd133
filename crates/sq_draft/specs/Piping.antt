-- What the builder of a term computes of loops whose transfers overlap.
use Rattle.std.specs.Prelude.{ℕ, ℤ, pos, List, [], ◌∷◌, ◌++◌, map, Option, Some, None}
use Rattle.sq_num.specs.declared.RedOp.{RedOp}
use Rattle.sq_text.specs.declared.spread.SpreadRule.{SpreadRule}
use Rattle.sq_ir.specs.Leaf.declared.shape.Shape.{Shape}
use Rattle.sq_ir.specs.Lifting.{lift}
use Rattle.sq_ir.specs.declared.num.Num.{Num}
use Rattle.sq_ir.specs.declared.num.Num.TheVariants as n
use Rattle.sq_ir.specs.declared.term.Term.{Term}
use Rattle.sq_ir.specs.declared.term.Term.TheVariants as term
use Rattle.sq_spec.specs.Blocks.declared.argument.Argument.{Argument}
use Rattle.sq_spec.specs.declared.statement.CallInstance.{CallInstance}
use Rattle.sq_tables.specs.Placed.declared.home.Home.{Home}
use Rattle.sq_tables.specs.Placed.Placed.{PlacedLocal}
use Rattle.sq_tables.specs.Placed.Tables.{placed_locals}
use Rattle.sq_tables.specs.Placed.Trees.{home_in_set}
use Rattle.sq_tables.specs.Term.declared.context.Context.{Context}
use Rattle.sq_tables.specs.Term.declared.context.Move.{Move}
use Rattle.sq_tables.specs.Term.Terms.{moves_from, in_callee, callee_term, at_child_already, lift_context, lift_lane}
use Rattle.sq_tables.specs.Term.Terms.{whole_lane, lane_at, iteration, by_set, where_some, set_buffers_from, each_child}
use Rattle.sq_tables.specs.Cases.{AreTables}
use Rattle.sq_draft.specs.declared.forms.PipeCall.{PipeCall}
use Rattle.sq_draft.specs.declared.forms.Set.{Set}
use Rattle.sq_draft.specs.declared.forms.Set.TheVariants.{First, Second}
use Rattle.sq_draft.specs.declared.forms.LanePlace.{LanePlace}
use Rattle.sq_draft.specs.declared.forms.Places.{Places}
use Rattle.sq_draft.specs.declared.transfers.Transfer.{Transfer}
use Rattle.sq_draft.specs.declared.transfers.Transfer.TheVariants.{Come, Fill, Back}
use Rattle.sq_draft.specs.Building.{transfer_term}

-- ---- the call in the loop

-- params: the homes of its callee's parameters; starts: how many iterations began before
pub record Piping : Type 0 where
  pub op : Option RedOp
  pub form : ℕ
  pub shapes : List Shape
  pub params : List Home
  pub locals : List PlacedLocal
  pub rows : List CallInstance
  pub args : List Argument
  pub starts : List ℤ

abbrev pub seen : PipeCall → Piping
seen p = record {
  op = p.call.op;
  form = p.form;
  shapes = p.callee.shapes.now;
  params = p.callee.homes.now;
  locals = placed_locals p.locals.shapes.now p.locals.buffers.now;
  rows = p.call.instances.now;
  args = p.args.now;
  starts = p.starts.now;
}

-- what is made once for all of its arguments
abbrev pub HasTables : PipeCall → Context → Type 0
HasTables p c = AreTables c.views p.call.instances.now p.call.offsets.now

-- ---- one of the two sets

abbrev pub set_number : Set → ℕ
set_number First = 0
set_number Second = 1

abbrev pub moves_in : Piping → (set : ℕ) → Context → List Move
moves_in p set at = moves_from p.op p.shapes (map (home_in_set set) p.params) at p.rows 0 p.args

abbrev pub done_in : Piping → Transfer → (set : ℕ) → Context → Term
done_in p which set at = term.Par (map (transfer_term which) (moves_in p set at))

abbrev pub work_parts : (callee : ℕ → Context → Term) → Piping → List Move → Context → List Term
work_parts callee p ms at =
    term.Par (map (transfer_term Fill) ms) ∷ callee_term p.locals (callee p.form (in_callee at ms p.locals)) ∷ []

abbrev pub work_in : (callee : ℕ → Context → Term) → Piping → (set : ℕ) → Context → Term
work_in callee p set at = term.Seq (work_parts callee p (moves_in p set at) at)

abbrev pub sets_of : Piping → List ℕ
sets_of p = set_buffers_from 0 p.params 0 p.args ++ set_buffers_from 1 p.params 0 p.args

-- ---- where the parts stand

abbrev pub at_start : (starts : List ℤ) → (number : Num) → Context → Context
at_start starts t c = record {
  ordinal = n.Add (n.Pick starts c.ordinal) t;
  child = None;
  path = c.path ++ t ∷ [];
  views = c.views;
}

abbrev pub in_lane : (starts : List ℤ) → LanePlace → (position : Num) → Context
in_lane starts l p = at_start starts (iteration l.lane p) l.context

abbrev pub outer_of : Option SpreadRule → (count : Num) → Context → LanePlace
outer_of None count c = record { lane = whole_lane count; context = at_child_already c }
outer_of (Some rule) count c = record {
  lane = lane_at rule (lift 1 (lift 1 count)) (n.Index 1) (n.Index 0);
  context = lift_context (lift_context c);
}

abbrev pub inner_of : LanePlace → LanePlace
inner_of l = record { lane = lift_lane l.lane; context = lift_context l.context }

abbrev pub places_round : (starts : List ℤ) → LanePlace → Places
places_round starts l =
    record { outer = l; inner = inner_of l; work = in_lane starts (inner_of l) (n.Index 0) }

abbrev pub places_of : Option SpreadRule → (count : Num) → (starts : List ℤ) → Context → Places
places_of spread count starts c = places_round starts (outer_of spread count c)

-- ---- the parts

abbrev pub in_both : Piping → Transfer → Context → List Term
in_both p which at = done_in p which 0 at ∷ done_in p which 1 at ∷ []

-- at a position of the lane, in either set, and in its own one
abbrev pub both_at : Piping → Transfer → LanePlace → (position : Num) → List Term
both_at p which l q = in_both p which (in_lane p.starts l q)

abbrev pub done_at : Piping → Transfer → LanePlace → (position : Num) → Term
done_at p which l q = by_set q (λ set. done_in p which set (in_lane p.starts l q))

-- what is done beside the work
abbrev pub others_in : Piping → LanePlace → Term
others_in p l =
    term.Seq
    (where_some (n.Index 0) (done_at p Back l (n.Sub (n.Index 0) (n.Const (pos 1))))
    ∷ where_some (n.Sub (n.Sub l.lane.many (n.Const (pos 1))) (n.Index 0))
    (done_at p Come l (n.Add (n.Index 0) (n.Const (pos 1))))
    ∷ [])

-- works: in each of the sets
abbrev pub turn_in : Piping → LanePlace → (works : List Term) → Term
turn_in p l works = term.Par (term.Case (n.Rem (n.Index 0) (n.Const (pos 2))) works ∷ others_in p l ∷ [])

abbrev pub turns_in : Piping → Places → (works : List Term) → Term
turns_in p s works = term.Loop s.outer.lane.many (turn_in p s.inner works)

abbrev pub come_first : Piping → LanePlace → Term
come_first p l = done_in p Come 0 (at_start p.starts l.lane.first l.context)

abbrev pub leave_last : Piping → LanePlace → Term
leave_last p l = done_at p Back l (n.Sub l.lane.many (n.Const (pos 1)))

abbrev pub lane_parts : Piping → Places → (works : List Term) → List Term
lane_parts p s works = come_first p s.outer ∷ turns_in p s works ∷ leave_last p s.outer ∷ []

abbrev pub in_child : Option SpreadRule → (child : Option Num) → (buffers : List ℕ) → Term → Term
in_child None child bs x = term.Within child bs x
in_child (Some rule) child bs x = each_child (term.Within (Some (n.Index 0)) bs x)

abbrev pub in_scope : Option SpreadRule → Context → (buffers : List ℕ) → Term → Term
in_scope spread c bs x = in_child spread c.child bs x

abbrev pub works_in : (callee : ℕ → Context → Term) → Piping → Context → List Term
works_in callee p at = work_in callee p 0 at ∷ work_in callee p 1 at ∷ []

abbrev pub piped_at : (callee : ℕ → Context → Term) → Piping → Option SpreadRule → Places → Context → Term
piped_at callee p spread s c =
    in_scope spread c (sets_of p) (where_some s.outer.lane.many (term.Seq (lane_parts p s (works_in callee p s.work))))

abbrev pub piped_in : (callee : ℕ → Context → Term) → Piping → Option SpreadRule → (count : Num) → Context → Term
piped_in callee p spread count c = piped_at callee p spread (places_of spread count p.starts c) c
