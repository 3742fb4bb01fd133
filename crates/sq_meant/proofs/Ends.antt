-- What a run answers, against what its program means.
use Rattle.std.proofs.Common.{◌≡◌, List, length, Some, None, Result, Ok, Err, refl, sym, ap, ◌∙◌}
use Rattle.std.proofs.Common.{subst}
use Rattle.sq_leaf.specs.declared.shape.Shape.{Shape}
use Rattle.sq_leaf.specs.declared.trap.Trap.{Trap}
use Rattle.sq_leaf.specs.Source.{Arrays}
use Rattle.sq_spec.specs.Work.Meaning.{Outcome}
use Rattle.sq_ir.specs.Runs as runs
use Rattle.sq_ir.specs.Runs.{State, End, exec}
use Rattle.sq_ir.specs.Orders.{HasEnded}
use Rattle.sq_ir.specs.Events.{Bytes, Event}
use Rattle.sq_ir.specs.Scopes.{Scope}
use Rattle.sq_ir.specs.Plans.{setting_of}
use Rattle.sq_ir.specs.declared.plan.Plan.{Plan}
use Rattle.sq_plan_laws.specs.Codes.{Codes}
use Rattle.sq_plan_laws.specs.Entry.{held_in, EndsSo}
use Rattle.sq_tree.specs.declared.runs.RunEnd.{RunEnd}
use Rattle.sq_tree.specs.declared.runs.RunEnd.TheVariants.{Trapped, SinkFault}
use Rattle.sq_tree.specs.Bank.{BankSeen, bytes_at, bytes_in}
use Rattle.sq_tree.specs.Runs.{Tells}
use Rattle.sq_root.specs.Places.{Fits}
use Rattle.sq_meant.specs.Places.{places_of}
use Rattle.sq_meant.specs.Ends.{stored_in, EndsOnBank}
use Rattle.sq_meant.proofs.Fitting.{whole_placed}
use Rattle.sq_meant.proofs.Holding.{to_parts}

module _ (p : Plan) (shapes : List Shape) (now : BankSeen) (many : length p.draft.entry ≡ length shapes)
    (fit : Fits (places_of p shapes) (length (bytes_at now.nodes 0))) where
  -- arrays that are loaded from the buffers are stored at the places
  done : (after : Arrays) (m : Bytes) → Codes shapes after (held_in (setting_of p) p.draft.entry m)
      → bytes_in now.nodes ≡ m → EndsOnBank shapes (stored_in p shapes now) (Ok tt) (Ok after)
  done after m codes is = (
    refl,
    whole_placed p (bytes_at now.nodes 0) p.draft.entry shapes many fit.within,
    to_parts p shapes now.nodes many fit after
        (subst (λ (z : Bytes). Codes shapes after (held_in (setting_of p) p.draft.entry z)) (sym is) codes),
  )

  no_trap : (x : runs.Trap Trap) → Some x ≡ None → ⊥
  no_trap x e = absurd (cc e)

  same_trap : (x y : runs.Trap Trap) → Some x ≡ Some y → x ≡ y
  same_trap x y e = cc e

  pub ends_on_bank : (result : Result (Unit {0}) RunEnd) (o : Outcome) (s : State Event Scope Bytes Trap)
      (e : End Bytes Trap) → HasEnded s e → EndsSo (setting_of p) shapes p.draft.entry o e
      → Tells (bytes_in now.nodes) s result → EndsOnBank shapes (stored_in p shapes now) result o
  ends_on_bank (Ok x) (Ok after) s e ended so told =
      done after e.bytes so.2 (told.1 ∙ ended.bytes told.0)
  ends_on_bank (Ok x) (Err y) s e ended so told =
      no_trap (record { path = y.path; cause = y.trap }) (sym so ∙ (sym ended.trap ∙ told.0))
  ends_on_bank (Err (Trapped trap path)) (Ok after) s e ended so told =
      no_trap (record { path = path; cause = trap }) (sym told ∙ (ended.trap ∙ so.0))
  ends_on_bank (Err (Trapped trap path)) (Err y) s e ended so told =
      let same = same_trap (record { path = path; cause = trap }) (record { path = y.path; cause = y.trap })
      (sym told ∙ (ended.trap ∙ so)) in
      (ap (λ (z : runs.Trap Trap). z.cause) same, ap (λ (z : runs.Trap Trap). z.path) same)
  ends_on_bank (Err SinkFault) o s e ended so told = tt
