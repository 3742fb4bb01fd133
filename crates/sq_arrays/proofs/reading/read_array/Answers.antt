use Rattle.sq_arrays.proofs.Arrays.{whole_array}
use Rattle.sq_arrays.proofs.reading.read_array.Goals as goal

pub returns-in-Ok-put_values-clause-gives : goal.returns-in-Ok-put_values-clause-gives
returns-in-Ok-put_values-clause-gives g c = λ bytes t.
    whole_array _ _ _ _ _ _ _ _ _ _ (c.in-Ok.ensures.gives c.requires.good bytes t) c.in-Ok.ensures.ok.1 c.elements-count.ensures
    (c.in-Ok-put_values.ensures.gives bytes (rw c.in-Ok.ensures.content t))
