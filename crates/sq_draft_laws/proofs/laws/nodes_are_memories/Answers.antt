use Rattle.sq_draft_laws.proofs.Memories.{nodes_are_memories}
use Rattle.sq_draft_laws.proofs.laws.nodes_are_memories.Goals as goal

pub returns : goal.returns
returns c = nodes_are_memories
