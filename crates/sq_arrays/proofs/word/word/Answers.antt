use Rattle.std.proofs.Common.{◌∙◌, ap, cond, Bool, true, false, [], Err, List, ℕ}
use Rattle.sq_arrays.specs.declared.refusal.InputCode.TheVariants.{LimitFile, Short}
use Rattle.sq_arrays.specs.ArrayText.{ended}
use Rattle.sq_arrays.specs.Words.{is_over}
use Rattle.sq_arrays.proofs.WordsRead.{no_word, word_read, ended_here}
use Rattle.sq_arrays.proofs.word.word.Goals as goal

pub returns-in-Ok-End-clause-gives : goal.returns-in-Ok-End-clause-gives
returns-in-Ok-End-clause-gives g c = λ bytes t.
    let r = rw c.in-Ok-End.field-0-is at (c.in-Ok-End.ensures.passed bytes t) in
    no_word r r.ahead.0 ∙ ap (λ (b : Bool). Err (record { code = cond b LimitFile Short; place = c.pass.new.window.spot.place })) r.ahead.1

pub returns-in-Ok-Past-clause-gives : goal.returns-in-Ok-Past-clause-gives
returns-in-Ok-Past-clause-gives g c = λ bytes t.
    let r = rw c.in-Ok-Past.field-0-is at (c.in-Ok-Past.ensures.passed bytes t) in
    no_word r r.ahead.0 ∙ ap (λ (b : Bool). Err (record { code = cond b LimitFile Short; place = c.pass.new.window.spot.place })) r.ahead.1

pub returns-in-Ok-Bytes-pass-clause-gives : goal.returns-in-Ok-Bytes-pass-clause-gives
returns-in-Ok-Bytes-pass-clause-gives g c = λ bytes t.
    let first = rw c.in-Ok-Bytes.field-0-is at (c.in-Ok-Bytes.ensures.passed bytes t) in
    let r = rw c.in-Ok-Bytes-pass.field-0-is at (c.in-Ok-Bytes-pass.ensures.passed bytes (rw c.in-Ok-Bytes.ensures.content t)) in
    (r.passed.done, word_read first r (ended_here _ (is_over bytes) r.ahead), r.passed.observer)

pub returns-in-Ok-End-pass-clause-gives : goal.returns-in-Ok-End-pass-clause-gives
returns-in-Ok-End-pass-clause-gives g c = λ bytes t.
    let first = rw c.in-Ok-Bytes.field-0-is at (c.in-Ok-Bytes.ensures.passed bytes t) in
    let r = rw c.in-Ok-End-pass.field-0-is at (c.in-Ok-End-pass.ensures.passed bytes (rw c.in-Ok-Bytes.ensures.content t)) in
    (r.passed.done, word_read {v = true} first r (ap (λ (l : List ℕ). ended l (is_over bytes)) r.ahead.0 ∙ ap (ended []) r.ahead.1), r.passed.observer)

pub returns-in-Ok-Past-pass-clause-gives : goal.returns-in-Ok-Past-pass-clause-gives
returns-in-Ok-Past-pass-clause-gives g c = λ bytes t.
    let first = rw c.in-Ok-Bytes.field-0-is at (c.in-Ok-Bytes.ensures.passed bytes t) in
    let r = rw c.in-Ok-Past-pass.field-0-is at (c.in-Ok-Past-pass.ensures.passed bytes (rw c.in-Ok-Bytes.ensures.content t)) in
    word_read {v = false} first r (ap (λ (l : List ℕ). ended l (is_over bytes)) r.ahead.0 ∙ ap (ended []) r.ahead.1)
