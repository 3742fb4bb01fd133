use Rattle.std.proofs.Common.{◌≡◌, ℕ, List, IfOk, subst}
use Rattle.sq_demo.proofs.Puts.{wrote_all}
use Rattle.sq_demo.proofs.data.data_text.Goals as goal

pub returns-in-Ok-Ok : goal.returns-in-Ok-Ok
returns-in-Ok-Ok c = subst (λ (x : List ℕ). IfOk c.copied.result (λ text. text.items ≡ x))
    (wrote_all _ _ _ _ _ _ c.in_ok-sink.ensures.0 c.in-Ok-Ok.field-0-is c.in-Ok-Ok.ensures.wrote) c.copied.ensures
