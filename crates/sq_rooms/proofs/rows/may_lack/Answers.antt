use Rattle.std.proofs.Common.{sym, ap, subst, ◌∙◌}
use Rattle.sq_ir.specs.Plans.{setting_of}
use Rattle.sq_plan_check.specs.Sweep.{AreMarked}
use Rattle.sq_rooms.specs.Reaches.{any}
use Rattle.sq_rooms.proofs.Sweeps.{none_below}
use Rattle.sq_rooms.proofs.rows.may_lack.Goals as goal

pub returns : goal.returns
returns c =
    let marks = c.in_ok-marks.marks.items in
    let marked = subst (λ rows. AreMarked rows marks) (c.as_slice.ensures ∙ c.in_ok-rows.ensures) c.in_ok-marks.ensures in
    λ clear. none_below (setting_of c.args.plan.now) c.args.names.now c.args.bound marks (sym c.any_passes.ensures ∙ c.if-any_passes.false) marked (sym (ap any c.deref.ensures.value) ∙ sym c.any.ensures ∙ clear)
