use Rattle.std.proofs.Common.{Some, sym, ap, subst}
use Rattle.sq_ir.specs.Plans.{setting_of}
use Rattle.sq_rooms.specs.declared.bound.Bound.{Bound}
use Rattle.sq_rooms.specs.Bounds.{NoneBelow}
use Rattle.sq_rooms.specs.Lacks.{IsFirstIn}
use Rattle.sq_rooms.proofs.Firsts.{next-from-bound, none-first, first-is, none-more, bound-rises}
use Rattle.sq_rooms.proofs.lack.first_from.Goals as goal

pub returns-in-Some-earliest : goal.returns-in-Some-earliest
returns-in-Some-earliest c =
    let s = setting_of c.args.plan.now in
    let xs = c.args.names.now in
    subst (λ l. IsFirstIn s xs (Some l)) (sym c.lack_of.ensures) (first-is s xs c.loop-later.bound c.loop-later.invariant c.in-Some.later c.in-Some-earliest.earlier (sym c.in-Some.ensures) (sym c.in-Some-earliest.ensures))

pub loop-later-smaller : goal.loop-later-smaller
loop-later-smaller c =
    let old = c.loop-later.bound in
    let later = c.in-Some.later in
    let new = c.bound_behind-bound.result in
    let is = c.bound_behind-bound.ensures.is in
    let small = c.bound_behind-bound.ensures.small in
    let at = next-from-bound (setting_of c.args.plan.now) c.args.names.now old c.loop-later.invariant later (sym c.in-Some.ensures) in
    bound-rises old.node old.buffer later.node later.buffer new.node new.buffer at (ap (λ (b : Bound). b.node) is) (ap (λ (b : Bound). b.buffer) is) small.0 small.1

pub loop-later-preserved : goal.loop-later-preserved
loop-later-preserved c =
    let s = setting_of c.args.plan.now in
    let xs = c.args.names.now in
    subst (NoneBelow s xs) (sym c.bound_behind-bound.ensures.is) (none-more s xs c.loop-later.bound c.loop-later.invariant c.in-Some.later (sym c.in-Some.ensures) (sym c.in_default-earliest.ensures))

pub returns : goal.returns
returns c = none-first (setting_of c.args.plan.now) c.args.names.now c.loop-later.bound c.loop-later.invariant (sym c.in_default.ensures)
