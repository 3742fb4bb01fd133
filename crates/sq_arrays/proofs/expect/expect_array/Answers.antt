use Rattle.sq_arrays.specs.Exact.{array_by}
use Rattle.sq_arrays.specs.Numbers.{number_step}
use Rattle.sq_arrays.specs.ArrayText.{array_of}
use Rattle.sq_arrays.specs.Steps.{rest_of}
use Rattle.sq_arrays.proofs.Observed.{judged}
use Rattle.sq_arrays.proofs.Tied.{array_tied}
use Rattle.sq_arrays.proofs.expect.expect_array.Goals as goal

pub returns-in-Ok-array-clause-gives : goal.returns-in-Ok-array-clause-gives
returns-in-Ok-array-clause-gives g c = λ bytes t. judged number_step _ _ (array_by c.args.first) (array_of c.args.first) (rest_of c.args.window.now bytes) (rest_of c.word.new.window bytes) c.in-Ok.place _ (λ w. array_tied c.args.first w) (rw c.new-number.ensures at (c.in-Ok.ensures.gives bytes t)) c.in-Ok-array.ensures

pub returns-in-Err-array-clause-gives : goal.returns-in-Err-array-clause-gives
returns-in-Err-array-clause-gives g c = λ bytes t. judged number_step _ _ (array_by c.args.first) (array_of c.args.first) (rest_of c.args.window.now bytes) (rest_of c.word.new.window bytes) c.in-Ok.place _ (λ w. array_tied c.args.first w) (rw c.new-number.ensures at (c.in-Ok.ensures.gives bytes t)) c.in-Err-array.ensures
