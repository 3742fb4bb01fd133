use Rattle.std.proofs.Common.{arith, ◌≡◌, ◌-◌, ◌*◌, ℕ, ◌∙◌, ap, length, length-drop}
use Rattle.std.proofs.Math.Nat.{mul_assoc}
use Rattle.sq_num.specs.Elements.{width}
use Rattle.sq_arrays.proofs.Rows.{rows_begin, rows_more, rows_end, rows_size}
use Rattle.sq_arrays.proofs.Writing.{gathers_same}
use Rattle.sq_arrays.proofs.write.put_rows.Goals as goal

whole : (rows last w n : ℕ) → n ≡ rows * last * w → n ≡ (rows - 0) * (last * w)
whole rows last w n is = is ∙ mul_assoc rows last w ∙ ap (λ (k : ℕ). k * (last * w)) (omega arith)

pub loop-init : goal.loop-init
loop-init g c = record {
  later = omega arith;
  rest = whole c.args.rows c.args.last (width c.args.elem) (length c.args.bytes.now) c.requires;
  gathers = λ start faults text told. (text, rows_begin c.args.elem c.args.rows c.args.last c.args.bytes.now text, told);
}

pub loop-preserved : goal.loop-preserved
loop-preserved g c = record {
  later = omega (arith, c.loop.invariant.later, c.put_row.ensures.later);
  rest = ap length c.behind-rest.ensures ∙ length-drop (c.args.last * c.width.result) c.loop.rest.now
      ∙ ap (λ (k : ℕ). length c.loop.rest.now - c.args.last * k) c.width.ensures
      ∙ rows_size c.args.rows c.loop.counter (c.args.last * width c.args.elem) (length c.loop.rest.now) c.loop-test.true c.loop.invariant.rest;
  gathers = λ start faults text told.
      let so_far = c.loop.invariant.gathers start faults text told in (
        _,
        rows_more c.args.elem c.args.rows c.loop.counter c.args.last _ c.loop.rest.now _ so_far.0 _ c.loop-test.true (ap (λ (k : ℕ). c.args.last * k) c.width.ensures) c.behind-rest.ensures so_far.1,
        c.put_row.ensures.gathers start faults so_far.0 so_far.2,
      );
}

pub returns : goal.returns
returns g c = record {
  later = c.loop.invariant.later;
  gathers = λ start faults text told.
      let so_far = c.loop.invariant.gathers start faults text told in
      gathers_same (rows_end c.args.elem c.args.rows c.loop.counter c.args.last c.loop.rest.now so_far.0 _ c.loop-test.false so_far.1) so_far.2;
}
