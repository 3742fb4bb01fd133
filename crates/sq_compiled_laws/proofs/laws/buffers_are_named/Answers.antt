use Rattle.sq_compiled_laws.proofs.NamedBuffers.{buffers_are_named, buffers_are_opened}
use Rattle.sq_compiled_laws.proofs.laws.buffers_are_named.Goals as goal

pub returns-clause-named : goal.returns-clause-named
returns-clause-named c = buffers_are_named

pub returns-clause-opened : goal.returns-clause-opened
returns-clause-opened c = buffers_are_opened
