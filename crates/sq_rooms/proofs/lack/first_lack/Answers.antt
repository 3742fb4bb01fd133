use Rattle.std.proofs.Common.{subst, ◌∙◌}
use Rattle.sq_ir.specs.Plans.{setting_of}
use Rattle.sq_rooms.specs.Lacks.{IsFirstIn}
use Rattle.sq_rooms.proofs.Firsts.{first-of}
use Rattle.sq_rooms.proofs.lack.first_lack.Goals as goal

pub returns : goal.returns
returns c =
    let found = c.first_from.result in
    first-of c.args.plan.now found c.requires (subst (λ xs. IsFirstIn (setting_of c.args.plan.now) xs found) (c.as_slice-names.ensures ∙ c.in_ok-names.ensures) c.first_from.ensures)
