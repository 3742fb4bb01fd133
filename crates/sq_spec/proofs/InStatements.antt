-- The equations of what stands in a statement, one for each variant.
use Rattle.std.proofs.Common.{◌≡◌, ℕ, Bool, List, map, ap, sym, ◌∙◌}
use Rattle.sq_text.specs.declared.place.Place.{Place}
use Rattle.sq_spec.specs.declared.statement.LoopKind.{LoopKind}
use Rattle.sq_spec.specs.declared.statement.CallInstance.{CallInstance}
use Rattle.sq_spec.specs.declared.statement.Statement.{Statement}
use Rattle.sq_spec.specs.declared.statement.Statement.TheVariants as b
use Rattle.sq_spec.specs.declared.statement.Statement.TheOpen.{Statement-F}
use Rattle.sq_spec.specs.declared.statement.Statement.TheFolds.{fold-roll-Statement}
use Rattle.sq_spec.specs.Spreads.{lower_step, lower_in, same_step, same_in}

pub lower_call : (lower : Bool) (instances : List CallInstance) → lower_in (b.Call lower instances)
    ≡ lower_step (Statement-F.Call lower instances)
lower_call lower instances = ap lower_in (sym (b.rolls-Call lower instances))
    ∙ fold-roll-Statement Bool lower_step (Statement-F.Call lower instances)

pub lower_map : (place : Place) (m : LoopKind) (counts starts : List ℕ) (body : List Statement)
    → lower_in (b.Map place m counts starts body)
    ≡ lower_step (Statement-F.Map place m counts starts (map lower_in body))
lower_map place m counts starts body =
    ap lower_in (sym (b.rolls-Map place m counts starts body))
    ∙ fold-roll-Statement Bool lower_step (Statement-F.Map place m counts starts body)

pub same_call : (lower : Bool) (instances : List CallInstance) → same_in (b.Call lower instances)
    ≡ same_step (Statement-F.Call lower instances)
same_call lower instances = ap same_in (sym (b.rolls-Call lower instances))
    ∙ fold-roll-Statement Bool same_step (Statement-F.Call lower instances)

pub same_map : (place : Place) (m : LoopKind) (counts starts : List ℕ) (body : List Statement)
    → same_in (b.Map place m counts starts body) ≡ same_step (Statement-F.Map place m counts starts (map same_in body))
same_map place m counts starts body =
    ap same_in (sym (b.rolls-Map place m counts starts body))
    ∙ fold-roll-Statement Bool same_step (Statement-F.Map place m counts starts body)

pub ruleset kinds = (lower_call, lower_map, same_call, same_map)
