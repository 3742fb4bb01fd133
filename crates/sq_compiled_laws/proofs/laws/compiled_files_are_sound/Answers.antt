use Rattle.sq_compiled_laws.proofs.Files.{in_order, heads, readable}
use Rattle.sq_compiled_laws.proofs.LeafLines.{leaves_sound}
use Rattle.sq_compiled_laws.proofs.laws.compiled_files_are_sound.Goals as goal

pub returns-clause-order : goal.returns-clause-order
returns-clause-order c = λ r f h. in_order r f h (leaves_sound r f h)

pub returns-clause-heads : goal.returns-clause-heads
returns-clause-heads c = λ r f h. heads r f h (leaves_sound r f h)

pub returns-clause-readable : goal.returns-clause-readable
returns-clause-readable c = λ r f h. readable r f h (leaves_sound r f h)
