-- What is known of the forms of a program that was checked, under a mapping that was read with it.
use Rattle.std.specs.Prelude.{◌≡◌, true, List, Ok}
use Rattle.sq_ast.specs.declared.program.Program.{Program}
use Rattle.sq_ast.specs.Forms.{is_formed}
use Rattle.sq_ast.specs.Grammar.{most_levels}
use Rattle.sq_work.specs.Types.Nesting.{HasLoops}
use Rattle.sq_work.specs.Types.Sound.{is_sound}
use Rattle.sq_form_laws.specs.Machfile.declared.level.Level.{Level}
use Rattle.sq_form_laws.specs.Mappings.declared.mapping.Mapping.{Mapping}
use Rattle.sq_form_laws.specs.Mappings.Sound.{Sound}
use Rattle.sq_form_laws.specs.Forms.declared.form.Form.{Form}
use Rattle.sq_form_laws.specs.Forms.declared.form.Use.{Use}
use Rattle.sq_form_laws.specs.Forms.Steps.{Forms}
use Rattle.sq_form_laws.specs.Forms.Resolving.{resolution}

-- what the walk over the forms of a program gives, under a mapping that was read with it and with a machine of these
-- levels
pub record IsWalked (program : Program) (levels : List Level) (mapping : Mapping) (found : Forms) (forms : List Form)
    (uses : List (List Use)) : Type 0 where
  pub formed : is_formed program ≡ true
  pub faultless : is_sound program ≡ true
  pub loops : HasLoops most_levels program.tasks
  pub read : Sound program levels mapping
  pub through : resolution program.tasks mapping ≡ Ok (record { found = found; forms = forms; uses = uses })
