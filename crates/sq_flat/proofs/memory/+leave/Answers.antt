use Rattle.std.proofs.Common.{rules, arith, ◌≡◌, length, ap, ◌∷◌}
use Rattle.sq_flat.proofs.Fitting.{fit_later, fit_first, placed_still}
use Rattle.sq_flat.proofs.memory.+leave.Goals as goal

pub leave-requires : goal.leave-requires
leave-requires t c =
    let first : c.args.args.now ≡ c.in-Some.a.now ∷ c.in-Some.rest.now = search rules in
    let counted : length c.args.args.now ≡ length (c.in-Some.a.now ∷ c.in-Some.rest.now) = ap length first in
    (search rules, (c.requires.outer, (c.requires.inner, (fit_later c.args.outer.now c.args.inner.now c.args.k _ _ _ first c.requires.fit, omega (arith, counted, c.requires.few)))))

pub put_written-requires-clause-outer : goal.put_written-requires-clause-outer
put_written-requires-clause-outer t c =
    let same : length c.leave.new.bytes ≡ length c.args.bytes.now = search rules in
    placed_still c.args.outer.now c.args.bytes.now c.leave.new.bytes same c.requires.outer

pub put_written-requires-clause-fit : goal.put_written-requires-clause-fit
put_written-requires-clause-fit t c =
    let first : c.args.args.now ≡ c.in-Some.a.now ∷ c.in-Some.rest.now = search rules in
    fit_first c.args.outer.now c.args.inner.now c.args.k _ _ _ first c.requires.fit
