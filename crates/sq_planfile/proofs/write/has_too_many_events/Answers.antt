use Rattle.std.proofs.Common.{[], ◌∷◌, ap, ◌∙◌}
use Rattle.std.specs.Prelude.{nat_lt}
use Rattle.sq_planfile.specs.Limits.{most_events}
use Rattle.sq_planfile.specs.Written.{left_by}
use Rattle.sq_planfile.specs.Words.{reading, number}
use Rattle.sq_planfile.proofs.Refusing.{few_many}
use Rattle.sq_planfile.proofs.write.has_too_many_events.Goals as goal

pub returns : goal.returns
returns c =
    let p = c.args.plan.now in
    ap (nat_lt most_events) c.count.ensures ∙ few_many _
    ∙ ap (λ fans. nat_lt most_events (number (left_by (reading p) p.draft.term (record { turns = []; nodes = 0 ∷ []; fans = fans })))) c.requires
