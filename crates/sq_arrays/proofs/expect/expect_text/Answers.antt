use Rattle.std.proofs.Common.{refl}
use Rattle.sq_arrays.specs.Exact.{same_step, same_by}
use Rattle.sq_arrays.specs.ArrayText.{same_of}
use Rattle.sq_arrays.specs.Steps.{rest_of}
use Rattle.sq_arrays.proofs.Observed.{judged}
use Rattle.sq_arrays.proofs.Tied.{same_tied}
use Rattle.sq_arrays.proofs.expect.expect_text.Goals as goal

pub returns-in-Ok-verdict-clause-gives : goal.returns-in-Ok-verdict-clause-gives
returns-in-Ok-verdict-clause-gives g c = λ bytes t. judged same_step _ _ (same_by c.args.code) (same_of c.args.text.now c.args.code) (rest_of c.args.window.now bytes) (rest_of c.word.new.window bytes) c.in-Ok.place _ (λ w. same_tied c.args.code _ w refl) (c.in-Ok.ensures.gives bytes t) c.in-Ok-verdict.ensures

pub returns-in-Err-verdict-clause-gives : goal.returns-in-Err-verdict-clause-gives
returns-in-Err-verdict-clause-gives g c = λ bytes t. judged same_step _ _ (same_by c.args.code) (same_of c.args.text.now c.args.code) (rest_of c.args.window.now bytes) (rest_of c.word.new.window bytes) c.in-Ok.place _ (λ w. same_tied c.args.code _ w refl) (c.in-Ok.ensures.gives bytes t) c.in-Err-verdict.ensures
