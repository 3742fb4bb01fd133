use Rattle.std.proofs.Common.{arith, rules, ◌∙◌, w64}
use Rattle.std.proofs.lemmas.Int.{to_z-of_z}
use Rattle.sq_arrays.proofs.Writing.{row_begin, row_more, row_end, cell_value, gathers_same}
use Rattle.sq_arrays.proofs.write.put_row.Goals as goal

pub loop-i-init : goal.loop-i-init
loop-i-init g c = record {
  later = omega arith;
  gathers = λ start faults text told. (text, row_begin c.args.elem c.args.last c.args.row.now text, told);
}

pub loop-i-preserved : goal.loop-i-preserved
loop-i-preserved g c = record {
  later = omega (arith, c.loop-i.invariant.later, c.put_value.ensures.later);
  gathers = λ start faults text told.
      let so_far = c.loop-i.invariant.gathers start faults text told in (
        _,
        row_more c.args.elem c.args.last c.loop-i.i c.args.row.now so_far.0 _ _ c.loop-i-test.true
            (to_z-of_z w64 c.load_elem-v.result (search rules) ∙ c.load_elem-v.ensures.value ∙ cell_value c.args.elem c.width-size.result c.loop-i.i c.args.row.now c.width-size.ensures)
            so_far.1,
        c.put_value.ensures.gathers start faults so_far.0 so_far.2,
      );
}

pub returns : goal.returns
returns g c = record {
  later = omega (arith, c.loop-i.invariant.later, c.add.ensures.later);
  gathers = λ start faults text told.
      let so_far = c.loop-i.invariant.gathers start faults text told in
      gathers_same (row_end c.args.elem c.args.last c.loop-i.i c.args.row.now so_far.0 _ c.loop-i-test.false so_far.1) (c.add.ensures.gathers start faults so_far.0 so_far.2);
}
