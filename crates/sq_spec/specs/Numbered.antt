-- What a program means, by the tables of its forms.
use Rattle.std.specs.Prelude.{◌≡◌, false, List, length, Option, Some, None, slice_get}
use Rattle.sq_ast.specs.declared.program.Variant.{Variant}
use Rattle.sq_form_laws.specs.Mappings.declared.mapping.Mapping.{Mapping}
use Rattle.sq_work.specs.Leaf.Source.{Arrays}
use Rattle.sq_form_laws.specs.Forms.Steps.{Forms, Key}
use Rattle.sq_form_laws.specs.Forms.declared.form.Found.{Found}
use Rattle.sq_spec.specs.declared.resolved.Resolved.{Resolved}
use Rattle.sq_form_laws.specs.Forms.Resolving.{entry_params}
use Rattle.sq_spec.specs.Bodies.{body_of, numbered_work}
use Rattle.sq_work.specs.Work.{Work, Nothing, Call}
use Rattle.sq_spec.specs.Works.{entry_arguments, work_of, flat}
use Rattle.sq_work.specs.InTurn.{IsRaceFree, serial}

abbrev pub called_entry : List Variant → Mapping → Forms → Option (Key × Found) → Work
called_entry variants mapping forms None = Nothing
called_entry variants mapping forms (Some entry) =
    Call 0 false (entry_arguments (entry_params variants (slice_get mapping.instances mapping.entry)) 0 entry.1.extents)
    (numbered_work (body_of variants mapping.instances forms) (length forms) 0)

-- the entry is called with whole arrays, and forms are known by their numbers
abbrev pub entry_call : List Variant → Mapping → Forms → Work
entry_call variants mapping forms = called_entry variants mapping forms (slice_get forms 0)

-- Without a race a program means what its forms do by their tables, with the iterations of all maps one after another.
abbrev pub TablesMeanProgram : Type 0
TablesMeanProgram = (r : Resolved) → IsRaceFree (work_of r.typed.now.tasks r.mapping.now r.found.entries) → (s : Arrays)
    → flat r.typed.now r.mapping.now s ≡ serial (entry_call r.typed.now.tasks r.mapping.now r.found.entries) s

-- And where the program has no race, its forms have none by their tables.
abbrev pub TablesAreRaceFree : Type 0
TablesAreRaceFree = (r : Resolved) → IsRaceFree (work_of r.typed.now.tasks r.mapping.now r.found.entries)
    → IsRaceFree (entry_call r.typed.now.tasks r.mapping.now r.found.entries)
