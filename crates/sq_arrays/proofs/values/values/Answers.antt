use Rattle.std.proofs.Common.{arith, rules, ◌+◌, ◌-◌, ◌/◌, ◌++◌, [], ◌∷◌, length, refl, sym, ◌∙◌, ap, w64}
use Rattle.std.proofs.lemmas.Int.{to_z-of_z}
use Rattle.sq_num.specs.Elements.{cell}
use Rattle.sq_arrays.specs.Steps.{rest_of}
use Rattle.sq_arrays.proofs.Fronts.{front_step, front_end, fails_values, one_cell, more_fits, none_taken, first_values, all_taken}
use Rattle.sq_arrays.proofs.values.values.Goals as goal

pub loop-i-init : goal.loop-i-init
loop-i-init g c = record {
  content = refl;
  stands = c.requires.stands;
  told = λ bytes t. ([], none_taken c.width-size.result c.args.into.now, first_values c.args.elem (length c.args.into.now / c.width-size.result) (rest_of c.args.window.now bytes));
  faults = refl;
  misses = refl;
}

pub returns-in-Err-clause-gives : goal.returns-in-Err-clause-gives
returns-in-Err-clause-gives g c = λ bytes t.
    let so_far = c.loop-i.invariant.told bytes t in
    rw (← c.width-size.ensures) (fails_values c.in-Err.end c.args.elem so_far.0 (length c.args.into.now / c.width-size.result - (c.loop-i.i + 1)) (length c.args.into.now / c.width-size.result - c.loop-i.i) (rest_of c.loop-i.window bytes) _ (omega arith)
    (c.in-Err.ensures.gives bytes (rw c.loop-i.invariant.content t)) so_far.2)

pub loop-i-preserved : goal.loop-i-preserved
loop-i-preserved g c = record {
  content = search rules;
  stands = c.in-Ok.ensures.stands;
  told = λ bytes t.
      let so_far = c.loop-i.invariant.told bytes t in
      let whole = rw (← c.width-size.ensures) at c.requires.whole in (
        so_far.0 ++ c.in-Ok.v ∷ [],
        one_cell c.args.elem so_far.0 c.in-Ok.v c.loop-i.i c.width-size.result _ c.loop-i.into c.store_elem.new.bytes
            (more_fits c.loop-i.i (length c.args.into.now / c.width-size.result) c.width-size.result (length c.loop-i.into) c.loop-i-test.true (omega (arith, whole))) (omega arith) (c.store_elem.ensures.bytes ∙ ap (cell c.args.elem) (to_z-of_z w64 c.in-Ok.v (search rules))) so_far.1,
        sym (front_step c.args.elem so_far.0 c.in-Ok.v (length c.args.into.now / c.width-size.result - (c.loop-i.i + 1)) (length c.args.into.now / c.width-size.result - c.loop-i.i) (rest_of c.loop-i.window bytes) (rest_of c.expect_value.new.window bytes) (omega arith)
            (c.in-Ok.ensures.gives bytes (rw c.loop-i.invariant.content t))) ∙ so_far.2,
      );
  faults = search rules;
  misses = search rules;
}

pub returns-clause-gives : goal.returns-clause-gives
returns-clause-gives g c = λ bytes t.
    let so_far = c.loop-i.invariant.told bytes t in
    let whole = rw (← c.width-size.ensures) at c.requires.whole in (
      so_far.0,
      rw (← c.width-size.ensures) (sym so_far.2 ∙ front_end c.args.elem so_far.0 (length c.args.into.now / c.width-size.result - c.loop-i.i) (rest_of c.loop-i.window bytes) (omega arith)),
      sym (all_taken c.loop-i.i (length c.args.into.now / c.width-size.result) c.width-size.result c.loop-i.into (omega arith) (omega (arith, whole))) ∙ so_far.1,
    )
