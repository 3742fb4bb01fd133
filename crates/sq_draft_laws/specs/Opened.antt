-- What is known of the forms of a program that was resolved.
use Rattle.sq_spec.specs.declared.resolved.Resolved.{Resolved}
use Rattle.sq_draft_laws.specs.Choosing.{Walked}

-- They are those that the walk gives, under a mapping that was read with the program and its machine.
abbrev pub WalkedIsThere : Type 0
WalkedIsThere = (r : Resolved) → Walked r
