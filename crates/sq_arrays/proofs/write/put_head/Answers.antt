use Rattle.std.proofs.Common.{◌∙◌, ap}
use Rattle.sq_arrays.specs.Heads.{shape_text}
use Rattle.sq_arrays.proofs.Writing.{gathers_same, head_given}
use Rattle.sq_arrays.proofs.write.put_head.Goals as goal

pub returns-clause-gathers : goal.returns-clause-gathers
returns-clause-gathers g c = λ start faults text told.
    gathers_same (head_given text _ _ _ _ _ _ c.bytes.ensures c.word_of.ensures (c.put_shape-end.ensures.text ∙ ap shape_text c.as_slice.ensures.numbers))
    (c.add-7.ensures.gathers _ _ _ (c.add-6.ensures.gathers _ _ _ (c.add-5.ensures.gathers _ _ _ (c.add-4.ensures.gathers _ _ _
    (c.add-3.ensures.gathers _ _ _ (c.add-2.ensures.gathers _ _ _ (c.add.ensures.gathers start faults text told)))))))
