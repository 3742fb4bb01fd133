-- The statements of a form, each with a row for every time that it is begun, in the order in which they would run.
use Rattle.std.specs.Prelude.{ℕ, zero, suc, ◌+◌, ◌==◌, Bool, false, true, List, [], ◌∷◌, ◌++◌, map, Option, Some, None, Ok, Err, slice_get}
use Rattle.std.specs.Map.{lookup}
use Rattle.sq_ast.specs.Num.declared.Elem.{Elem}
use Rattle.sq_ast.specs.Num.declared.Elem.TheVariants.{Long}
use Rattle.sq_ast.specs.Num.declared.RedOp.{RedOp}
use Rattle.sq_text.specs.Names.{Bytes, same_name}
use Rattle.sq_ast.specs.declared.expr.ArgUse.{ArgUse}
use Rattle.sq_ast.specs.declared.program.Param.{Param}
use Rattle.sq_ast.specs.declared.program.Variant.{Variant}
use Rattle.sq_ast.specs.declared.stmt.Call.{Call}
use Rattle.sq_ast.specs.declared.stmt.Range.{Range}
use Rattle.sq_ast.specs.declared.stmt.MapKind.{MapKind}
use Rattle.sq_ast.specs.declared.stmt.MapKind.TheVariants.{Par, Seq, Reduce}
use Rattle.sq_ast.specs.declared.stmt.Stmt.{Stmt}
use Rattle.sq_ast.specs.declared.stmt.Stmt.TheOpen.{Stmt-F}
use Rattle.sq_ast.specs.declared.stmt.Stmt.TheFolds.{fold-Stmt}
use Rattle.sq_form_laws.specs.Blocks.Names.{Numbers, Lists}
use Rattle.sq_work.specs.declared.reduction.Reduction.{Reduction}
use Rattle.sq_spec.specs.declared.statement.LoopKind.{LoopKind}
use Rattle.sq_spec.specs.declared.statement.LoopKind.TheVariants as loop_kind
use Rattle.sq_spec.specs.declared.statement.CallInstance.{CallInstance}
use Rattle.sq_spec.specs.declared.statement.Statement.{Statement}
use Rattle.sq_spec.specs.declared.statement.Statement.TheVariants as statement
use Rattle.sq_form_laws.specs.Forms.declared.form.LocalArray.{LocalArray}
use Rattle.sq_form_laws.specs.Forms.declared.known.Array.{Array}
use Rattle.sq_form_laws.specs.Forms.Faults.{Value, value_or}
use Rattle.sq_form_laws.specs.Forms.Steps.{Forms, key_number}
use Rattle.sq_form_laws.specs.Forms.Args.{Names, arguments}
use Rattle.sq_form_laws.specs.Forms.Worlds.{Frame, Callee, callee_of}
use Rattle.sq_form_laws.specs.Forms.Calls.{key_of, flags, extents_of}
use Rattle.sq_form_laws.specs.Forms.Stmts.{bounds, times_of, in_iteration, reduced_by}
use Rattle.sq_form_laws.specs.Forms.Decls.{Scope}

-- ---- when a statement is begun

-- n parts of a list, for the iterations from the t-th on
abbrev pub over : {A : Type 0} → ℕ → ℕ → (ℕ → List A) → List A
over t zero f = []
over t (suc n) f = f t ++ over (t + 1) n f

-- what the numbers are, each time that a statement is begun in maps with these ranges, the outermost first:
-- of i = 0 to 2 round j = 0 to i + 1 they are (0, 0), (1, 0), (1, 1)
abbrev pub iteration_points : List (List Range) → Lists → Numbers → List Numbers
iteration_points [] lists numbers = numbers ∷ []
iteration_points (ranges ∷ inside) lists numbers =
    let ns = bounds ranges numbers lists in
    over 0 (times_of ns) (λ t. iteration_points inside lists (in_iteration ranges (value_or [] ns) t numbers))

-- ---- with what

abbrev pub number_or : Option ℕ → ℕ
number_or None = 0
number_or (Some n) = n

abbrev pub count_at : List Range → Lists → Numbers → ℕ
count_at ranges lists numbers = times_of (bounds ranges numbers lists)

-- how many iterations there are before each time: of the counts 2, 0 and 3 the starts are 0, 2 and 2
abbrev pub starts_from : ℕ → List ℕ → List ℕ
starts_from n [] = []
starts_from n (count ∷ counts) = n ∷ starts_from (n + count) counts

abbrev pub has_iterations : List ℕ → Bool
has_iterations [] = false
has_iterations (zero ∷ counts) = has_iterations counts
has_iterations (suc n ∷ counts) = true

abbrev pub rows_if : Bool → List ℕ → List ℕ
rows_if false counts = []
rows_if true counts = counts

-- the rows of a map's counts: none where it never has an iteration, since a row that isn't there counts as 0
abbrev pub count_rows : List ℕ → List ℕ
count_rows counts = rows_if (has_iterations counts) counts

-- the form that a call reaches, and its arguments
abbrev pub call_instance : Forms → Frame → Names → ℕ → Option Bytes → Callee → List ArgUse → Numbers → CallInstance
call_instance forms frame names call reduced its args numbers =
    let xs = arguments names numbers reduced its.params 0 args in
    record {
      form = number_or (key_number forms
          (key_of frame.form call its.instance (flags (its.level == frame.level) xs) (extents_of xs)));
      args = xs;
    }

abbrev pub elem_or_long : Option Elem → Elem
elem_or_long (Some elem) = elem
elem_or_long None = Long

abbrev pub array_number : Option Array → ℕ
array_number None = 0
array_number (Some a) = a.number

-- into the array of this number, whose elements have the type that stands under it
abbrev pub reduction_of : List Elem → RedOp → ℕ → Reduction
reduction_of elems op array = record { op = op; elem = elem_or_long (slice_get elems array); array = array }

abbrev pub loop_kind_of : List Elem → Names → MapKind → LoopKind
loop_kind_of elems names Seq = loop_kind.Sequential
loop_kind_of elems names Par = loop_kind.Parallel
loop_kind_of elems names (Reduce op array) =
    loop_kind.Reduction (reduction_of elems op (array_number (lookup (same_name array.name) names.arrays)))

-- ---- statements

-- how many calls stand in it, and its tables, by the number of its first call, the array that is reduced into and the
-- maps round it
pub record StatementTable : Type 0 where
  pub calls : ℕ
  pub table : ℕ → Option Bytes → List (List Range) → Statement

abbrev pub calls_of : List StatementTable → ℕ
calls_of [] = 0
calls_of (p ∷ ps) = p.calls + calls_of ps

-- calls are numbered in text order
abbrev pub all_of : List StatementTable → ℕ → Option Bytes → List (List Range) → List Statement
all_of [] call reduced nest = []
all_of (p ∷ ps) call reduced nest = p.table call reduced nest ∷ all_of ps (call + p.calls) reduced nest

-- elems: the element types of the form's arrays; numbers: those at the form's start
module _ (forms : Forms) (frame : Frame) (names : Names) (elems : List Elem) (numbers : Numbers) where
  abbrev pub call_table : Call → Option Callee → ℕ → Option Bytes → List (List Range) → Statement
  call_table c None call reduced nest = statement.Call false []
  call_table c (Some its) call reduced nest =
      statement.Call (its.level == suc frame.level)
      (map (call_instance forms frame names call reduced its c.args) (iteration_points nest names.lists numbers))

  abbrev pub stmt_step : Stmt-F StatementTable → StatementTable
  stmt_step (Stmt-F.Call c) = record { calls = 1; table = call_table c (callee_of frame c.task) }
  stmt_step (Stmt-F.Map place kind ranges parts) = record {
    calls = calls_of parts;
    table = λ call reduced nest.
        let counts = count_rows (map (count_at ranges names.lists) (iteration_points nest names.lists numbers)) in
        statement.Map place (loop_kind_of elems names kind) counts (starts_from 0 counts)
        (all_of parts call (reduced_by kind) (nest ++ ranges ∷ []));
  }

  abbrev pub table_of : Stmt → StatementTable
  table_of = fold-Stmt StatementTable stmt_step

  -- the statements of a form
  abbrev pub tables : List Stmt → List Statement
  tables list = all_of (map table_of list) 0 None []

-- ---- the arrays of a form

abbrev pub param_elems : List Param → List Elem
param_elems list = map (λ p. p.elem) list

abbrev pub local_elems : List LocalArray → List Elem
local_elems list = map (λ l. l.elem) list

abbrev pub elems_of : Variant → Scope → List Elem
elems_of v scope = param_elems v.params ++ local_elems scope.locals

-- ---- what the code does

abbrev pub worth_or_none : {A : Type 0} → Value A → Option A
worth_or_none (Ok a) = Some a
worth_or_none (Err f) = None
