-- The entry, and its place among the forms.
use Rattle.std.specs.Prelude.{◌≡◌, ℕ, List, [], Some, Ok, slice_get}
use Rattle.sq_form_laws.specs.Forms.declared.form.Form.{Form}
use Rattle.sq_spec.specs.declared.resolved.Resolved.{Resolved}
use Rattle.sq_form_laws.specs.Forms.Resolving.{entry_params, entry_extents, entry_form}

-- the first form is the entry's, with the extents that the mapping's sizes give its parameters
pub record IsEntry (r : Resolved) : Type 0 where
  pub extents : List (List ℕ)
  pub fit : entry_extents r.mapping.now.sizes
      (entry_params r.typed.now.tasks (slice_get r.mapping.now.instances r.mapping.now.entry)) ≡ Ok extents
  -- its key is that of no call
  pub found : slice_get r.found.entries 0 ≡ Some ([], entry_form r.mapping.now.entry extents)
  pub form : (f : Form) → slice_get r.forms 0 ≡ Some f → f.extents ≡ extents

-- The first form is the entry's.
abbrev pub EntryIsFirst : Type 0
EntryIsFirst = (r : Resolved) → IsEntry r
