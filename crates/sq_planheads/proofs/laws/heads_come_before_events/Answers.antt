use Rattle.sq_planheads.proofs.HeadsTell.{first_of_heads, first_of_events, no_head_fault}
use Rattle.sq_planheads.proofs.laws.heads_come_before_events.Goals as goal

pub returns-clause-heads : goal.returns-clause-heads
returns-clause-heads c = first_of_heads

pub returns-clause-events : goal.returns-clause-events
returns-clause-events c = λ x fault sound first. first_of_events x sound fault first

pub returns-clause-sound : goal.returns-clause-sound
returns-clause-sound c = no_head_fault
