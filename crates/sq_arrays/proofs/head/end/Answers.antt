use Rattle.std.proofs.Common.{true, false}
use Rattle.sq_arrays.proofs.Finishing.{more_left, none_left}
use Rattle.sq_arrays.proofs.head.end.Goals as goal

pub returns-in-Ok-Bytes-clause-gives : goal.returns-in-Ok-Bytes-clause-gives
returns-in-Ok-Bytes-clause-gives g c = λ bytes t. let r = rw c.in-Ok-Bytes.field-0-is at (c.in-Ok-Bytes.ensures.passed bytes t) in more_left r r.ahead

pub returns-in-Ok-End-clause-gives : goal.returns-in-Ok-End-clause-gives
returns-in-Ok-End-clause-gives g c = λ bytes t. let r = rw c.in-Ok-End.field-0-is at (c.in-Ok-End.ensures.passed bytes t) in none_left false r r.ahead.0 r.ahead.1

pub returns-in-Ok-Past-clause-gives : goal.returns-in-Ok-Past-clause-gives
returns-in-Ok-Past-clause-gives g c = λ bytes t. let r = rw c.in-Ok-Past.field-0-is at (c.in-Ok-Past.ensures.passed bytes t) in none_left true r r.ahead.0 r.ahead.1
