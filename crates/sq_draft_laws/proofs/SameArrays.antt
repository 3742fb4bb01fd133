-- The rows of a call take the same arrays: each argument's is that of its name.
use Rattle.std.proofs.Common.{◌≡◌, ℕ, suc, ◌+◌, ℤ, List, [], ◌∷◌, ◌++◌, map, slice_get, Option, Some, None, Ok}
use Rattle.std.proofs.Common.{Err, Result, refl, sym, ap, ap₂, subst, ◌∙◌}
use Rattle.std.specs.Map.{lookup}
use Rattle.sq_text.specs.Names.{Bytes, same_name}
use Rattle.sq_text.specs.declared.place.Span.{Span}
use Rattle.sq_ast.specs.declared.expr.Expr.{Expr}
use Rattle.sq_ast.specs.declared.expr.ArgUse.{ArgUse, out-ArgUse}
use Rattle.sq_ast.specs.declared.program.Param.{Param}
use Rattle.sq_blocks.specs.Names.{Numbers}
use Rattle.sq_blocks.specs.Spans as spans
use Rattle.sq_blocks.specs.declared.argument.Argument.{Argument}
use Rattle.sq_blocks.specs.declared.fault.ConstFault.{ConstFault}
use Rattle.sq_forms.specs.declared.known.Array.{Array}
use Rattle.sq_forms.specs.declared.known.Blocks.{Blocks}
use Rattle.sq_forms.specs.declared.args.Block.{Block}
use Rattle.sq_forms.specs.Faults.{Value, and_then}
use Rattle.sq_forms.specs.Args.{Names, block_or_fault, of_array, all_of_array, of_block, block_of, block_in, block_by}
use Rattle.sq_forms.specs.Args.{worths, mode_of, is_reduced, argument}
use Rattle.sq_form_laws.specs.Reached.{AreExamined}
use Rattle.sq_spec.specs.Work.declared.reduction.Reduction.{Reduction}
use Rattle.sq_spec.specs.declared.statement.CallInstance.{CallInstance}
use Rattle.sq_spec.specs.declared.statement.Statement.{Statement, roll-Statement}
use Rattle.sq_spec.specs.declared.statement.Statement.TheVariants as b
use Rattle.sq_spec.specs.declared.statement.Statement.TheOpen.{Statement-F}
use Rattle.sq_spec.specs.declared.statement.Statement.TheFolds.{ind-Statement, map-Statement}
use Rattle.sq_homes.specs.SpecLaws.TableRows.{Table, red_of, all_tables, tables_of, tables_in}
use Rattle.sq_program_laws.specs.TermLaws.Leaves.{joined_calls, by_call, TakeSame, AreSame}
use Rattle.sq_program_laws.proofs.TermLaws.Chains.{by_call_call, by_call_map}
use Rattle.sq_draft_laws.proofs.Rounds.{tables_call, tables_map}

-- ---- the array of an argument

abbrev pub number_of : Option Array → ℕ
number_of None = 0
number_of (Some a) = a.number

abbrev pub block_array : Option Blocks → ℕ
block_array None = 0
block_array (Some b) = b.array

-- the array of this name, or that of the block set of this name
abbrev pub named : Names → Bytes → List Expr → ℕ
named names name [] = number_of (lookup (same_name name) names.arrays)
named names name (e ∷ es) = block_array (lookup (same_name name) names.blocks)

module _ (names : Names) (numbers : Numbers) (a : ArgUse) (block : Block) where
  whole_rect : (n : ℕ) (o : Option (List Span)) → block_or_fault a (of_array n o) ≡ Ok block → block.array ≡ n
  whole_rect n None h = absurd (cc h)
  whole_rect n (Some rect) h =
      let made : Block = record { array = n; rect = rect } in
      let is : made ≡ block = cc h in
      ap (λ (c : Block). c.array) (sym is)

  whole_of : (o : Option Array) → block_or_fault a (all_of_array o) ≡ Ok block → block.array ≡ number_of o
  whole_of None h = absurd (cc h)
  whole_of (Some x) h = whole_rect x.number (spans.wholes x.extents) h

  listed_rect : (n : ℕ) (o : Result (List Span) ConstFault) → block_or_fault a (of_block n o) ≡ Ok block
      → block.array ≡ n
  listed_rect n (Err f) h = absurd (cc h)
  listed_rect n (Ok rect) h =
      let made : Block = record { array = n; rect = rect } in
      let is : made ≡ block = cc h in
      ap (λ (c : Block). c.array) (sym is)

  listed_of : (index : List ℤ) (o : Option Blocks) → block_or_fault a (block_of index o) ≡ Ok block
      → block.array ≡ block_array o
  listed_of index None h = absurd (cc h)
  listed_of index (Some x) h = listed_rect x.array (spans.block x.chop index) h

  indexed_of : (v : Value (List ℤ))
      → and_then v (λ index. block_or_fault a (block_in names (out-ArgUse a).name index)) ≡ Ok block
      → block.array ≡ block_array (lookup (same_name (out-ArgUse a).name) names.blocks)
  indexed_of (Err f) h = absurd (cc h)
  indexed_of (Ok index) h = listed_of index (lookup (same_name (out-ArgUse a).name) names.blocks) h

  block_is : (index : List Expr) → block_by names numbers a index ≡ Ok block
      → block.array ≡ named names (out-ArgUse a).name index
  block_is [] h = whole_of (lookup (same_name (out-ArgUse a).name) names.arrays) h
  block_is (e ∷ es) h = indexed_of (worths (e ∷ es) numbers names.lists) h

abbrev okay : Argument → Value Argument
okay x = Ok x

made_of : (reduced : Option Bytes) (param : Option Param) (a : ArgUse) (x : Argument) (v : Value Block)
    → and_then v (λ c. okay (record {
      mode = mode_of param;
      is_reduced = is_reduced reduced a;
      array = c.array;
      rect = c.rect;
    })) ≡ Ok x
    → (c : Block) × (v ≡ Ok c) × (x.array ≡ c.array)
made_of reduced param a x (Ok c) h =
    let made : Argument
    = record { mode = mode_of param; is_reduced = is_reduced reduced a; array = c.array; rect = c.rect } in
    let is : made ≡ x = cc h in (c, refl, ap (λ (y : Argument). y.array) (sym is))
made_of reduced param a x (Err f) h = absurd (cc h)

array_is : (names : Names) (numbers : Numbers) (reduced : Option Bytes) (param : Option Param) (a : ArgUse)
    (x : Argument) → argument names numbers reduced param a ≡ Ok x
    → x.array ≡ named names (out-ArgUse a).name (out-ArgUse a).index
array_is names numbers reduced param a x h =
    let m = made_of reduced param a x (block_by names numbers a (out-ArgUse a).index) h in
    m.2 ∙ block_is names numbers a m.0 (out-ArgUse a).index m.1

abbrev pub named_all : Names → List ArgUse → List ℕ
named_all names list = map (λ a. named names (out-ArgUse a).name (out-ArgUse a).index) list

-- of all arguments
pub arrays_are : (names : Names) (numbers : Numbers) (reduced : Option Bytes) (params : List Param) (i : ℕ)
    (list : List ArgUse) (xs : List Argument) → AreExamined names numbers reduced params i list xs
    → map (λ (x : Argument). x.array) xs ≡ named_all names list
arrays_are names numbers reduced params i [] [] h = refl
arrays_are names numbers reduced params i [] (x ∷ xs) h = absurd h
arrays_are names numbers reduced params i (a ∷ list) [] h = absurd h
arrays_are names numbers reduced params i (a ∷ list) (x ∷ xs) h =
    ap₂ (λ (n : ℕ) (l : List ℕ). n ∷ l) (array_is names numbers reduced (slice_get params i) a x h.0)
    (arrays_are names numbers reduced params (i + 1) list xs h.1)

-- ---- the rows of a form's statements, call by call, are those of its tables

abbrev rows_of : List Table → List (List CallInstance)
rows_of [] = []
rows_of (t ∷ ts) = t.times ∷ rows_of ts

rows_joined : (ts us : List Table) → rows_of (ts ++ us) ≡ rows_of ts ++ rows_of us
rows_joined [] us = refl
rows_joined (t ∷ ts) us = ap (λ l. t.times ∷ l) (rows_joined ts us)

abbrev IsByCall : Statement → Type 0
IsByCall x = (red : Option Reduction) → by_call x ≡ rows_of (tables_of x red)

abbrev Known : Type 0
Known = (x : Statement) × IsByCall x

abbrev these : List Known → List Statement
these = map (λ (q : Known). q.0)

parts_by : (xs : List Known) (red : Option Reduction) → joined_calls (map by_call (these xs))
    ≡ rows_of (all_tables (map tables_of (these xs)) red)
parts_by [] red = refl
parts_by (x ∷ xs) red =
    ap₂ (λ (l m : List (List CallInstance)). l ++ m) (x.1 red) (parts_by xs red)
    ∙ sym (rows_joined (tables_of x.0 red) (all_tables (map tables_of (these xs)) red))

by_step : (y : Statement-F Known) → IsByCall (roll-Statement (map-Statement Known Statement (λ p. p.0) y))
by_step (Statement-F.Call lower rows) = subst IsByCall (sym (b.rolls-Call lower rows)) (λ red.
    by_call_call lower rows
    ∙ sym (ap (λ (f : Option Reduction → List Table). rows_of (f red)) (tables_call lower rows)))
by_step (Statement-F.Map place m counts starts xs) =
    subst IsByCall (sym (b.rolls-Map place m counts starts (these xs))) (λ red.
    by_call_map place m counts starts (these xs) ∙ parts_by xs (red_of m)
    ∙ sym (ap (λ (f : Option Reduction → List Table). rows_of (f red)) (tables_map place m counts starts (these xs))))

is_by : (x : Statement) → IsByCall x
is_by = ind-Statement IsByCall (λ x y is. subst (λ z. IsByCall (roll-Statement z)) is (by_step y))

all_by : (list : List Statement) → joined_calls (map by_call list) ≡ rows_of (tables_in list None)
all_by [] = refl
all_by (x ∷ list) =
    ap₂ (λ (l m : List (List CallInstance)). l ++ m) (is_by x None) (all_by list)
    ∙ sym (rows_joined (tables_of x None) (tables_in list None))

tables_same : (ts : List Table) → ((i : ℕ) (t : Table) → slice_get ts i ≡ Some t → TakeSame t.times)
    → AreSame (rows_of ts)
tables_same [] h = tt
tables_same (t ∷ ts) h = (h 0 t refl, tables_same ts (λ i u e. h (suc i) u e))

-- where those of each table take the same arrays
pub calls_same : (list : List Statement)
    → ((i : ℕ) (t : Table) → slice_get (tables_in list None) i ≡ Some t → TakeSame t.times)
    → AreSame (joined_calls (map by_call list))
calls_same list h = subst AreSame (sym (all_by list)) (tables_same (tables_in list None) h)
