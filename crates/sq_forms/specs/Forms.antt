-- The forms of a program under its mapping.
use Rattle.std.specs.Prelude.{◌≡◌, List, Ok, Err}
use Rattle.sq_text.specs.declared.fault.Fault.{Fault}
use Rattle.sq_ast.specs.declared.program.Program.{Program}
use Rattle.sq_mapping.specs.declared.mapping.Mapping.{Mapping}
use Rattle.sq_forms.specs.declared.form.Form.{Form}
use Rattle.sq_forms.specs.declared.form.Use.{Use}
use Rattle.sq_forms.specs.Resolving.{Resolving, resolution}

-- the walk goes through; these are the forms that it finds, each with its accesses in the order in which they would run
pub record AreForms (program : Program) (mapping : Mapping) (forms : List Form) (uses : List (List Use)) : Type 0 where
  pub left : Resolving
  pub through : resolution program.tasks mapping ≡ Ok left
  pub are : left.forms ≡ forms
  pub used : left.uses ≡ uses

-- the first fault that the walk meets
abbrev pub IsFirstMet : Program → Mapping → Fault → Type 0
IsFirstMet program mapping f = resolution program.tasks mapping ≡ Err f
