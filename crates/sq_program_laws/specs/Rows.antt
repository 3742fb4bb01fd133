-- What is asked of the tables of forms and of the homes of their arrays, so that what is placed of them fits.
use Rattle.std.specs.Prelude.{◌≡◌, ◌≢◌, ℕ, Bool, true, false, List, [], map, get_or, slice_get, Option, Some, None}
use Rattle.sq_num.specs.declared.RedOp.{RedOp}
use Rattle.sq_leaf.specs.Leaf.{Leaf as LeafSource, written_of}
use Rattle.sq_ast.specs.Modes.{is_written}
use Rattle.sq_ir.specs.Events.{Leaves}
use Rattle.sq_form_laws.specs.Laws.{Apart}
use Rattle.sq_blocks.specs.declared.argument.Argument.{Argument}
use Rattle.sq_work.specs.declared.reduction.Reduction.{Reduction}
use Rattle.sq_spec.specs.declared.statement.CallInstance.{CallInstance}
use Rattle.sq_spec.specs.declared.statement.Statement.{Statement}
use Rattle.sq_spec.specs.declared.body.Body.{Body}
use Rattle.sq_spec.specs.declared.body.Body.TheVariants as body
use Rattle.sq_spec.specs.declared.body.FormBody.{FormBody}
use Rattle.sq_spec_laws.specs.TableRows.{Table, tables_in}
use Rattle.sq_spec_laws.specs.Ones.{all_ones, kind_of}
use Rattle.sq_spec_laws.specs.Filled.{are_filled}
use Rattle.sq_placed.specs.declared.home.Homes.{Homes}
use Rattle.sq_placed.specs.Placed.{Placed, PlacedArg, PlacedCall, arguments}
use Rattle.sq_placed.specs.Tables.{with_rect, placed_call, placed_of}
use Rattle.sq_placed.specs.Pipes.{call_loops_of}
use Rattle.sq_cells.specs.Tree.{Cause}
use Rattle.sq_cells.specs.Lowered.{in_place}
use Rattle.sq_cells.specs.Work.{Buffer}
use Rattle.sq_plan_laws.specs.Calling.{place_of, shapes_of}
use Rattle.sq_plan_laws.specs.Fitting.{CallIs, LeafCoded, Fitting}
use Rattle.sq_plan_laws.specs.Keeping.{may_of, Keeping}
use Rattle.sq_plan_laws.specs.LeafLaws.{codes_of}
use Rattle.sq_plan_laws.specs.Seated.{CallSits, LeafSits, Sits}
use Rattle.sq_term_laws.specs.Orders.{EachOf, rounds_of}
use Rattle.sq_term_laws.specs.Held.{AreHeldRows}
use Rattle.sq_program_laws.specs.Held.{LoopHolds, loops_of}
use Rattle.sq_program_laws.specs.Piped.{MayOverlap}

abbrev pub operator_of : Option Reduction → Option RedOp
operator_of None = None
operator_of (Some r) = Some r.op

-- an argument, its block left aside
abbrev pub without_block : Argument → Argument
without_block a = with_rect a []

-- of a row's arguments; of those that leave loops more is asked of these loops
pub record RowKeeps (red : Option Reduction) (c : PlacedCall) (may : ℕ → Bool) : Type 0 where
  -- one in the caller's array shares no element with another, or neither is written
  pub apart : (i : ℕ) (p : PlacedArg) → slice_get c.args i ≡ Some p → in_place (place_of p.home) ≡ true
      → Apart (arguments c.args) i
  pub permitted : (i : ℕ) (p : PlacedArg) → slice_get c.args i ≡ Some p → is_written p.argument.mode ≡ true
      → may p.argument.array ≡ true
  -- what is reduced into has a buffer, and outside of a `mapreduce` nothing is
  pub sum_home : (i : ℕ) (p : PlacedArg) → slice_get c.args i ≡ Some p → p.gathers ≢ None → place_of p.home ≡ Buffer
  pub plain : red ≡ None → (i : ℕ) (p : PlacedArg) → slice_get c.args i ≡ Some p → p.argument.is_reduced ≡ false

-- mays: which arrays of each form may be written
module _ (leaves : Leaves Cause) (bodies : ℕ → FormBody) (homes : ℕ → Homes) (mays : ℕ → ℕ → Bool) where
  -- a row of a call of form k
  pub record RowFits (k : ℕ) (t : Table) (r : CallInstance) : Type 0 where
    pub is : CallIs t.red (bodies k).arrays (placed_call bodies homes (operator_of t.red) t.lower r)
    pub keeps : RowKeeps t.red (placed_call bodies homes (operator_of t.red) t.lower r) (mays k)
    pub sits : CallSits (bodies k).arrays (placed_call bodies homes (operator_of t.red) t.lower r)
    pub shapes : shapes_of (placed_call bodies homes (operator_of t.red) t.lower r) ≡ (bodies r.form).arrays
    pub may : (i : ℕ) → mays r.form i ≡ true → may_of (placed_call bodies homes (operator_of t.red) t.lower r) i ≡ true

  -- a call's table: its rows, whose arguments differ in their blocks alone
  pub record TableFits (k : ℕ) (t : Table) : Type 0 where
    pub rows : (i : ℕ) (r : CallInstance) → slice_get t.times i ≡ Some r → RowFits k t r
    pub same : (i j : ℕ) (r q : CallInstance) → slice_get t.times i ≡ Some r → slice_get t.times j ≡ Some q
        → map without_block r.args ≡ map without_block q.args

  -- the tables of a form's statements
  pub record ListFits (k : ℕ) (list : List Statement) : Type 0 where
    pub tables : (i : ℕ) (t : Table) → slice_get (tables_in list None) i ≡ Some t → TableFits k t
    pub ones : all_ones (map kind_of list) ≡ true
    pub full : are_filled list ≡ true
    pub rounds : EachOf (AreHeldRows homes) (rounds_of (body.Inner list))
    pub loops : EachOf (LoopHolds homes) (loops_of (body.Inner list))
    pub pipes : EachOf (MayOverlap homes) (call_loops_of (body.Inner list))

  -- a form that is a leaf
  pub record LeafFits (k : ℕ) (leaf : LeafSource) : Type 0 where
    pub coded : LeafCoded (codes_of leaves) (homes k).code leaf (bodies k).arrays
    pub sits : LeafSits leaves (homes k).code leaf (bodies k).arrays (bodies k).arrays
    pub permitted : (i : ℕ) → get_or (written_of leaf.variant) i false ≡ true → mays k i ≡ true

  abbrev pub BodyFits : ℕ → Body → Type 0
  BodyFits k (body.Leaf leaf) = LeafFits k leaf
  BodyFits k (body.Inner list) = ListFits k list

  abbrev pub FormsFit : Type 0
  FormsFit = (k : ℕ) → BodyFits k (bodies k).body

  -- what was placed of form k meets what its plan asks of the source and of homes
  pub record IsFit (k : ℕ) (p : Placed) : Type 0 where
    pub fitting : Fitting (codes_of leaves) p None (bodies k).arrays
    pub keeping : Keeping p (mays k)
    pub sits : Sits leaves p (bodies k).arrays

-- What is placed of tables that fit fits.
abbrev pub TablesFit : Type 0
TablesFit = (leaves : Leaves Cause) (bodies : ℕ → FormBody) (homes : ℕ → Homes) (mays : ℕ → ℕ → Bool)
    → FormsFit leaves bodies homes mays → (n k : ℕ)
    → IsFit leaves bodies homes mays k (placed_of bodies homes n k)
