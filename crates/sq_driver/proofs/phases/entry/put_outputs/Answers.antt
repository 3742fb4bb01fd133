use Rattle.std.proofs.Common.{◌++◌, arith}
use Rattle.sq_driver.specs.Outputs.{stored_text, stored_texts}
use Rattle.sq_driver.proofs.Puts.{as_many, some_bytes, stored_bytes, texts_step}
use Rattle.sq_driver.proofs.phases.entry.put_outputs.Goals as goal

pub bytes-requires : goal.bytes-requires
bytes-requires g c = omega (
  arith,
  c.loop-i-test.true,
  as_many c.args.params.now c.args.extents.now c.args.arrays.now
      c.requires.shapes c.requires.whole,
)

pub put_output-so_far-requires : goal.put_output-so_far-requires
put_output-so_far-requires g c =
    let many = as_many c.args.params.now c.args.extents.now c.args.arrays.now c.requires.shapes c.requires.whole in
    let there = some_bytes c.args.arrays.now.bytes c.loop-i.i c.bytes.result.now
    (omega (arith, c.loop-i-test.true, many)) c.bytes.ensures.bytes in
    stored_bytes c.args.params.now c.args.extents.now c.args.arrays.now c.requires.shapes c.requires.whole c.loop-i.i
    c.index-params-i.result c.index-extents-i.result c.bytes.result.now c.loop-i-test.true c.requires.extents
    c.index-params-i.is c.index-extents-i.is there

pub loop-i-preserved : goal.loop-i-preserved
loop-i-preserved g c =
    let before = c.loop-i.invariant.put in
    let many = as_many c.args.params.now c.args.extents.now c.args.arrays.now c.requires.shapes c.requires.whole in
    let there = some_bytes c.args.arrays.now.bytes c.loop-i.i c.bytes.result.now
    (omega (arith, c.loop-i-test.true, many)) c.bytes.ensures.bytes in
    record {
      later = omega (arith, c.loop-i.invariant.later, c.put_output-so_far.ensures.later);
      put = (
        before.0 ++ stored_text c.index-params-i.result c.index-extents-i.result c.bytes.result.now,
        c.put_output-so_far.ensures.wrote _ _ before.0 before.1,
        texts_step c.args.params.now c.args.extents.now c.args.arrays.now.bytes c.loop-i.i c.index-params-i.result
            c.index-extents-i.result c.bytes.result.now before.0
            (stored_texts c.args.params.now 0 c.args.extents.now c.args.arrays.now.bytes)
            c.loop-i-test.true c.requires.extents c.index-params-i.is c.index-extents-i.is there before.2,
      );
    }
