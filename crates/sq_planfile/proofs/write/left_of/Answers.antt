use Rattle.std.proofs.Common.{[], ◌∷◌, ap, ◌∙◌}
use Rattle.sq_planfile.specs.Written.{left_by}
use Rattle.sq_planfile.specs.Words.{reading}
use Rattle.sq_planfile.proofs.write.left_of.Goals as goal

pub returns : goal.returns
returns c =
    let p = c.args.plan.now in
    c.in_ok-collect.ensures ∙ ap (λ fans. left_by (reading p) p.draft.term (record { turns = []; nodes = 0 ∷ []; fans = fans })) c.requires
