use Rattle.std.proofs.Common.{rules, ◌≡◌, Some, slice_get}
use Rattle.sq_flat.proofs.Fitting.{block_fills}
use Rattle.sq_flat.proofs.memory.put_written.Goals as goal

pub put_param-requires-clause-of : goal.put_param-requires-clause-of
put_param-requires-clause-of c =
    let there : slice_get c.args.outer.now c.args.a.now.array ≡ Some c.in-Some.of.now = search rules in
    c.requires.outer.each c.args.a.now.array c.in-Some.of.now there

pub put_param-requires-clause-to : goal.put_param-requires-clause-to
put_param-requires-clause-to c =
    let here : slice_get c.args.inner.now c.args.k ≡ Some c.in-Some-at.to.now = search rules in
    c.requires.inner.each c.args.k c.in-Some-at.to.now here

pub put_param-requires-clause-block : goal.put_param-requires-clause-block
put_param-requires-clause-block c =
    let there : slice_get c.args.outer.now c.args.a.now.array ≡ Some c.in-Some.of.now = search rules in
    let here : slice_get c.args.inner.now c.args.k ≡ Some c.in-Some-at.to.now = search rules in
    block_fills c.args.outer.now c.args.inner.now c.args.k c.args.a.now c.in-Some.of.now c.in-Some-at.to.now c.args.memory.now c.requires.fit c.requires.inner there here
