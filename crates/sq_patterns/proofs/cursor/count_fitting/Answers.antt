use Rattle.std.proofs.Common.{sym, ◌∙◌}
use Rattle.sq_patterns.proofs.Fitting.{counted}
use Rattle.sq_patterns.proofs.cursor.count_fitting.Goals as goal

pub loop-i-preserved : goal.loop-i-preserved
loop-i-preserved c = counted c.args.patterns.now c.args.tokens.now _ c.loop-i.i _ c.loop-i-test.true c.loop-i.invariant (sym c.fits_at.ensures ∙ c.if-not-fits_at.false)
