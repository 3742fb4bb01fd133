use Rattle.std.proofs.Common.{rules, w64}
use Rattle.std.proofs.lemmas.Int.{to_z-of_z}
use Rattle.sq_arrays.specs.Numbers.{number_step, value_by}
use Rattle.sq_arrays.specs.ArrayText.{value_of}
use Rattle.sq_arrays.specs.Steps.{rest_of}
use Rattle.sq_arrays.proofs.Observed.{judged}
use Rattle.sq_arrays.proofs.Tied.{value_tied}
use Rattle.sq_arrays.proofs.expect.expect_value.Goals as goal

pub returns-in-Ok-value-clause-gives : goal.returns-in-Ok-value-clause-gives
returns-in-Ok-value-clause-gives g c = λ bytes t. rw (to_z-of_z w64 c.in-Ok-value.v (search rules)) (judged number_step _ _ (value_by c.args.elem) (value_of c.args.elem) (rest_of c.args.window.now bytes) (rest_of c.word.new.window bytes) c.in-Ok.place _ (λ w. value_tied c.args.elem w) (rw c.new-number.ensures at (c.in-Ok.ensures.gives bytes t)) c.in-Ok-value.ensures)

pub returns-in-Err-value-clause-gives : goal.returns-in-Err-value-clause-gives
returns-in-Err-value-clause-gives g c = λ bytes t. judged number_step _ _ (value_by c.args.elem) (value_of c.args.elem) (rest_of c.args.window.now bytes) (rest_of c.word.new.window bytes) c.in-Ok.place _ (λ w. value_tied c.args.elem w) (rw c.new-number.ensures at (c.in-Ok.ensures.gives bytes t)) c.in-Err-value.ensures
