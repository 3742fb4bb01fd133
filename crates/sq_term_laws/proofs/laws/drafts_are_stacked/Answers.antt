use Rattle.sq_term_laws.proofs.Called.{numbered_are_ordered}
use Rattle.sq_term_laws.proofs.Behind.{forms_behind, entry_behind}
use Rattle.sq_term_laws.proofs.laws.drafts_are_stacked.Goals as goal

pub returns-clause-stack : goal.returns-clause-stack
returns-clause-stack c = forms_behind

pub returns-clause-entry_stacks : goal.returns-clause-entry_stacks
returns-clause-entry_stacks c = entry_behind

pub returns-clause-order : goal.returns-clause-order
returns-clause-order c = numbered_are_ordered
