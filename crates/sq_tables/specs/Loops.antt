-- The one call that a statement is a loop of.
use Rattle.std.specs.Prelude.{ℕ, ◌+◌, Bool, List, [], ◌∷◌, Option, Some, None}
use Rattle.sq_term.specs.Ir.declared.num.Num.{Num}
use Rattle.sq_spec.specs.declared.statement.LoopKind.{LoopKind}
use Rattle.sq_spec.specs.declared.statement.LoopKind.TheVariants as loop_kind
use Rattle.sq_spec.specs.declared.statement.CallInstance.{CallInstance}
use Rattle.sq_spec.specs.declared.statement.Statement.{Statement}
use Rattle.sq_spec.specs.declared.statement.Statement.TheOpen.{Statement-F}
use Rattle.sq_spec.specs.declared.statement.Statement.TheFolds.{fold-Statement}
use Rattle.sq_term.specs.Placed.Tables.{Chain, call_chain, chain_of}
use Rattle.sq_term.specs.Terms.{first_num, chain_num}

-- the call that a statement is a loop of
abbrev pub chain_of_call : (lower : Bool) → List CallInstance → Option (Chain Num)
chain_of_call lower instances = call_chain lower instances

abbrev pub chain_step : Statement-F (Option (Chain Num)) → Option (Chain Num)
chain_step (Statement-F.Call lower instances) = call_chain lower instances
chain_step (Statement-F.Map place m counts starts parts) = chain_of first_num m starts parts

abbrev pub chain_in : Statement → Option (Chain Num)
chain_in = fold-Statement (Option (Chain Num)) chain_step

-- its rows
abbrev pub rows_of_chain : Option (Chain Num) → Option (List CallInstance)
rows_of_chain None = None
rows_of_chain (Some h) = Some h.instances

abbrev pub rows_of_list : LoopKind → List (Option (Chain Num)) → Option (List CallInstance)
rows_of_list loop_kind.Sequential (h ∷ []) = rows_of_chain h
rows_of_list m hs = None

abbrev pub loops_of_chain : Option (Chain Num) → ℕ
loops_of_chain None = 0
loops_of_chain (Some h) = h.loops

-- the same by what is known of the statement alone that stands in a map
abbrev pub loops_by : Option (List CallInstance) → ℕ → ℕ
loops_by None inner = 0
loops_by (Some rows) inner = inner + 1

abbrev pub loops_of_list : LoopKind → List (Option (Chain Num)) → ℕ
loops_of_list loop_kind.Sequential (h ∷ []) = loops_by (rows_of_chain h) (loops_of_chain h)
loops_of_list m hs = 0

abbrev pub first_by : Option (List CallInstance) → Option (Chain Num) → List ℕ → Num → Num
first_by None h starts x = x
first_by (Some rows) h starts x = chain_num h (first_num starts x)

abbrev pub first_of_list : LoopKind → List ℕ → List (Option (Chain Num)) → Num → Num
first_of_list loop_kind.Sequential starts (h ∷ []) x = first_by (rows_of_chain h) h starts x
first_of_list m starts hs x = x
