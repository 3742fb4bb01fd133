-- The equations of a statement's placed form and of its work, one for each variant.
use Rattle.std.proofs.Common.{◌≡◌, ℕ, Bool, List, map, ap, sym, ◌∙◌}
use Rattle.sq_text.specs.declared.place.Place.{Place}
use Rattle.sq_text.specs.declared.spread.SpreadRule.{SpreadRule}
use Rattle.sq_spec.specs.declared.statement.LoopKind.{LoopKind}
use Rattle.sq_spec.specs.declared.statement.CallInstance.{CallInstance}
use Rattle.sq_spec.specs.declared.statement.Statement.{Statement}
use Rattle.sq_spec.specs.declared.statement.Statement.TheVariants as b
use Rattle.sq_spec.specs.declared.statement.Statement.TheOpen.{Statement-F}
use Rattle.sq_spec.specs.declared.statement.Statement.TheFolds.{fold-roll-Statement}
use Rattle.sq_spec.specs.declared.body.FormBody.{FormBody}
use Rattle.sq_spec.specs.Work.Work.{Work}
use Rattle.sq_spec.specs.StatementsWork.{statement_step, statement_work}
use Rattle.sq_placed.specs.declared.home.Homes.{Homes}
use Rattle.sq_placed.specs.Placed.{Placed}
use Rattle.sq_placed.specs.Tables.{PlacedPart, placed_step, statement_placed}

pub work_call : (work : ℕ → Work) (lower : Bool) (instances : List CallInstance)
    → statement_work work (b.Call lower instances) ≡ statement_step work (Statement-F.Call lower instances)
work_call work lower instances = ap (statement_work work) (sym (b.rolls-Call lower instances))
    ∙ fold-roll-Statement (ℕ → Work) (statement_step work) (Statement-F.Call lower instances)

pub work_map : (work : ℕ → Work) (place : Place) (m : LoopKind) (counts starts : List ℕ) (body : List Statement)
    → statement_work work (b.Map place m counts starts body)
    ≡ statement_step work (Statement-F.Map place m counts starts (map (statement_work work) body))
work_map work place m counts starts body =
    ap (statement_work work) (sym (b.rolls-Map place m counts starts body))
    ∙ fold-roll-Statement (ℕ → Work) (statement_step work) (Statement-F.Map place m counts starts body)

module _ (bodies : ℕ → FormBody) (homes : ℕ → Homes) (callee : ℕ → Placed) (rule : SpreadRule) where
  pub part_call : (lower : Bool) (instances : List CallInstance)
      → statement_placed bodies homes callee rule (b.Call lower instances)
      ≡ placed_step bodies homes callee rule (Statement-F.Call lower instances)
  part_call lower instances =
      ap (statement_placed bodies homes callee rule) (sym (b.rolls-Call lower instances))
      ∙ fold-roll-Statement PlacedPart (placed_step bodies homes callee rule) (Statement-F.Call lower instances)

  pub part_map : (place : Place) (m : LoopKind) (counts starts : List ℕ) (body : List Statement)
      → statement_placed bodies homes callee rule (b.Map place m counts starts body)
      ≡ placed_step bodies homes callee rule
      (Statement-F.Map place m counts starts (map (statement_placed bodies homes callee rule) body))
  part_map place m counts starts body =
      ap (statement_placed bodies homes callee rule) (sym (b.rolls-Map place m counts starts body))
      ∙ fold-roll-Statement PlacedPart (placed_step bodies homes callee rule)
      (Statement-F.Map place m counts starts body)
