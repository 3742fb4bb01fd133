use Rattle.sq_compiled_laws.proofs.Refiled.{refiled}
use Rattle.sq_compiled_laws.proofs.laws.compiled_files_are_read_again.Goals as goal

pub returns : goal.returns
returns c = refiled c.compiled_files_are_sound.ensures.order c.compiled_files_are_sound.ensures.heads
    c.compiled_files_are_sound.ensures.readable c.good_plans_are_filed.ensures
