use Rattle.std.proofs.Common.{rules, ◌≡◌, ◌∙◌, sym, Some, slice_get}
use Rattle.std.specs.Option.{option_copied}
use Rattle.sq_flat.proofs.Fitting.{fits_of, read}
use Rattle.sq_flat.proofs.memory.enter.Goals as goal

pub push_array-requires-clause-fits : goal.push_array-requires-clause-fits
push_array-requires-clause-fits c = λ x v is there.
    let at : option_copied c.at.result ≡ slice_get c.args.args.now c.loop-k.k = search rules in
    fits_of c.args.outer.now c.args.inner.now c.loop-k.k x v (c.requires.fit.each c.loop-k.k x (sym at ∙ is)) there

pub push_array-requires-clause-small : goal.push_array-requires-clause-small
push_array-requires-clause-small c =
    let at : slice_get c.args.inner.now c.loop-k.k ≡ Some c.index-inner-k.result = read c.args.inner.now c.loop-k.k c.index-inner-k.result c.loop-k-test.true c.index-inner-k.is in
    c.requires.small.each c.loop-k.k c.index-inner-k.result at
