-- The notes of hoisting: one for each argument that leaves a loop, at the place of the outermost loop that it leaves.
-- They stand by the form in which the loop stands, then by the loop's place, and at one loop by parameter.
use Rattle.std.specs.Prelude.{ℕ, zero, suc, ◌==◌, List, [], ◌∷◌, ◌++◌, length, get_or, slice_get, Option, Some, None}
use Rattle.std.specs.Prelude.{if◌then◌else◌}
use Rattle.sq_text.specs.declared.place.Place.{Place}
use Rattle.sq_text.specs.Names.{Bytes}
use Rattle.sq_ast.specs.declared.program.Param.{Param}
use Rattle.sq_ir.specs.declared.plan.Note.{Note}
use Rattle.sq_ir.specs.declared.plan.Note.TheVariants.{Hoist}
use Rattle.sq_spec.specs.Forms.Resolving.{entry_params}
use Rattle.sq_spec.specs.declared.resolved.Resolved.{Resolved}
use Rattle.sq_chosen.specs.Forms.{instance_at, name_by}
use Rattle.sq_hoist.specs.declared.sites.Site.{Site}
use Rattle.sq_hoist.specs.Choices.{sites_of}

abbrev pub no_place : Place
no_place = record { line = 0; col = 0 }

-- instance: the name of the caller's; param: those of the callee's parameters
module _ (instance : Bytes) (param : ℕ → Bytes) where
  -- the parameters from the i-th on that leave so many loops, the outermost of which stands at the place
  abbrev pub notes_at : Place → (loops i : ℕ) → List ℕ → List Note
  notes_at place loops i [] = []
  notes_at place loops i (l ∷ ls) =
      if l == loops then Hoist place instance (param i) ∷ notes_at place loops (suc i) ls
      else notes_at place loops (suc i) ls

  -- of so many loops, counted from the inside, the outermost first
  abbrev pub notes_out : List Place → List ℕ → (loops : ℕ) → List Note
  notes_out places leaves zero = []
  notes_out places leaves (suc inside) =
      notes_at (get_or places inside no_place) (suc inside) 0 leaves ++ notes_out places leaves inside

  abbrev pub notes_in : Site → List Note
  notes_in s = notes_out s.loops s.leaves (length s.loops)

abbrev pub param_name : Option Param → Bytes
param_name None = []
param_name (Some p) = p.name

-- the name of a form's i-th parameter
abbrev pub param_at : Resolved → (form i : ℕ) → Bytes
param_at r form i = param_name (slice_get (entry_params r.typed.now.tasks (instance_at r form)) i)

abbrev pub site_notes : Resolved → Site → List Note
site_notes r s = notes_in (name_by (instance_at r s.caller)) (param_at r s.form) s

abbrev pub all_notes : Resolved → List Site → List Note
all_notes r [] = []
all_notes r (s ∷ ss) = site_notes r s ++ all_notes r ss

abbrev pub notes_of : Resolved → List Note
notes_of r = all_notes r (sites_of r)
