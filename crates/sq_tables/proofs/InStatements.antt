-- The equations of the call that a statement is a loop of, one for each variant.
use Rattle.std.proofs.Common.{◌≡◌, ℕ, Bool, List, map, Option, ap, sym, ◌∙◌}
use Rattle.sq_text.specs.declared.place.Place.{Place}
use Rattle.sq_term.specs.Ir.declared.num.Num.{Num}
use Rattle.sq_spec.specs.declared.statement.LoopKind.{LoopKind}
use Rattle.sq_spec.specs.declared.statement.CallInstance.{CallInstance}
use Rattle.sq_spec.specs.declared.statement.Statement.{Statement}
use Rattle.sq_spec.specs.declared.statement.Statement.TheVariants as b
use Rattle.sq_spec.specs.declared.statement.Statement.TheOpen.{Statement-F}
use Rattle.sq_spec.specs.declared.statement.Statement.TheFolds.{fold-roll-Statement}
use Rattle.sq_term.specs.Placed.Tables.{Chain}
use Rattle.sq_tables.specs.Loops.{chain_step, chain_in}

pub chain_call : (lower : Bool) (instances : List CallInstance) → chain_in (b.Call lower instances)
    ≡ chain_step (Statement-F.Call lower instances)
chain_call lower instances = ap chain_in (sym (b.rolls-Call lower instances))
    ∙ fold-roll-Statement (Option (Chain Num)) chain_step (Statement-F.Call lower instances)

pub chain_map : (place : Place) (m : LoopKind) (counts starts : List ℕ) (body : List Statement)
    → chain_in (b.Map place m counts starts body)
    ≡ chain_step (Statement-F.Map place m counts starts (map chain_in body))
chain_map place m counts starts body =
    ap chain_in (sym (b.rolls-Map place m counts starts body))
    ∙ fold-roll-Statement (Option (Chain Num)) chain_step (Statement-F.Map place m counts starts body)

pub ruleset loops = (chain_call, chain_map)
