-- The equations of a statement's term and of what is in it, one for each variant.
use Rattle.std.proofs.Common.{◌≡◌, ℕ, Bool, List, map, ap, sym, ◌∙◌}
use Rattle.sq_text.specs.declared.place.Place.{Place}
use Rattle.sq_text.specs.declared.spread.SpreadRule.{SpreadRule}
use Rattle.sq_placed.specs.Spec.declared.statement.LoopKind.{LoopKind}
use Rattle.sq_placed.specs.Spec.declared.statement.CallInstance.{CallInstance}
use Rattle.sq_placed.specs.Spec.declared.statement.Statement.{Statement}
use Rattle.sq_placed.specs.Spec.declared.statement.Statement.TheVariants as b
use Rattle.sq_placed.specs.Spec.declared.statement.Statement.TheOpen.{Statement-F}
use Rattle.sq_placed.specs.Spec.declared.statement.Statement.TheFolds.{fold-roll-Statement}
use Rattle.sq_placed.specs.Spec.declared.body.FormBody.{FormBody}
use Rattle.sq_placed.specs.declared.home.Homes.{Homes}
use Rattle.sq_term.specs.declared.context.Context.{Context}
use Rattle.sq_term.specs.Terms.{TermPart, term_step, statement_term}
use Rattle.sq_term.specs.Stands.{calls_step, calls_in}
use Rattle.sq_ir.specs.declared.term.Term.{Term}

module _ (bodies : ℕ → FormBody) (homes : ℕ → Homes) (callee : ℕ → Context → Term) (rule : SpreadRule) where
  pub built_call : (lower : Bool) (instances : List CallInstance)
      → statement_term bodies homes callee rule (b.Call lower instances)
      ≡ term_step bodies homes callee rule (Statement-F.Call lower instances)
  built_call lower instances =
      ap (statement_term bodies homes callee rule) (sym (b.rolls-Call lower instances))
      ∙ fold-roll-Statement TermPart (term_step bodies homes callee rule) (Statement-F.Call lower instances)

  pub built_map : (place : Place) (m : LoopKind) (counts starts : List ℕ) (body : List Statement)
      → statement_term bodies homes callee rule (b.Map place m counts starts body)
      ≡ term_step bodies homes callee rule
      (Statement-F.Map place m counts starts (map (statement_term bodies homes callee rule) body))
  built_map place m counts starts body =
      ap (statement_term bodies homes callee rule) (sym (b.rolls-Map place m counts starts body))
      ∙ fold-roll-Statement TermPart (term_step bodies homes callee rule) (Statement-F.Map place m counts starts body)

pub calls_call : (lower : Bool) (instances : List CallInstance) → calls_in (b.Call lower instances)
    ≡ calls_step (Statement-F.Call lower instances)
calls_call lower instances = ap calls_in (sym (b.rolls-Call lower instances))
    ∙ fold-roll-Statement (List (Bool × ℕ)) calls_step (Statement-F.Call lower instances)

pub calls_map : (place : Place) (m : LoopKind) (counts starts : List ℕ) (body : List Statement)
    → calls_in (b.Map place m counts starts body)
    ≡ calls_step (Statement-F.Map place m counts starts (map calls_in body))
calls_map place m counts starts body =
    ap calls_in (sym (b.rolls-Map place m counts starts body))
    ∙ fold-roll-Statement (List (Bool × ℕ)) calls_step (Statement-F.Map place m counts starts body)
