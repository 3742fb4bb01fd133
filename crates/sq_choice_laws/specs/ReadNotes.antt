-- The notes of a program that was read: its tree is that of a text.
use Rattle.std.specs.Prelude.{◌≡◌}
use Rattle.sq_ast.specs.Given.{IsGiven}
use Rattle.sq_spec.specs.declared.resolved.Resolved.{Resolved}
use Rattle.sq_pipe.specs.Greedy.{overlapped}
use Rattle.sq_pipe.specs.Notes as pipe
use Rattle.sq_choice_laws.specs.Noted.{MapsRise, notes_of}

-- The maps of each form stand at their places in the order of the text.
abbrev pub MapsOfReadProgramsRise : Type 0
MapsOfReadProgramsRise = (r : Resolved) → IsGiven r.typed.now → MapsRise r

-- And so the notes are those of what was chosen.
abbrev pub NotesOfReadProgramsAreChoices : Type 0
NotesOfReadProgramsAreChoices = (r : Resolved) → IsGiven r.typed.now → pipe.notes_of r ≡ notes_of r (overlapped r)
