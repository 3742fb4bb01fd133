use Rattle.sq_draft_laws.proofs.Machines.{machines_are_machines}
use Rattle.sq_draft_laws.proofs.memories_are_machines.Goals as goal

pub returns : goal.returns
returns c = machines_are_machines
