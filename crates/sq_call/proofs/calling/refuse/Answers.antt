use Rattle.std.proofs.Common.{refl, ap, ◌∙◌, Some}
use Rattle.sq_call.specs.Saying.{text_said}
use Rattle.sq_call.proofs.Telling.{as_said, refused_of}
use Rattle.sq_call.proofs.calling.refuse.Goals as goal

pub returns : goal.returns
returns c = λ its.
    as_said c.told.ensures.status
    (c.told.ensures.out ∙ ap (λ t. text_said c.put_usage-status.result t) c.new.ensures.0) c.told.ensures.err
    (refused_of (ap Some c.new-err.ensures.0) refl c.put_usage-status.ensures.usage)
