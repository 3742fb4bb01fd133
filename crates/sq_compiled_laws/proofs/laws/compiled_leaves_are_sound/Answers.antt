use Rattle.sq_compiled_laws.proofs.LeafLines.{leaves_sound}
use Rattle.sq_compiled_laws.proofs.laws.compiled_leaves_are_sound.Goals as goal

-- src/laws.rt:7:1
pub returns : goal.returns
returns c r f h = leaves_sound r f h
