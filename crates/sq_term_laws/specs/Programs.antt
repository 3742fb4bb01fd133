-- The tables of a program's forms, as a built term asks.
use Rattle.std.specs.Prelude.{◌≡◌, ℕ, suc, ◌≤◌, true, List, length, slice_get, Some, Ok}
use Rattle.sq_ast.specs.declared.program.Program.{Program}
use Rattle.sq_forms.specs.Machfile.declared.level.Level.{Level}
use Rattle.sq_forms.specs.Mappings.declared.mapping.Instance.{Instance}
use Rattle.sq_forms.specs.Mappings.declared.mapping.Mapping.{Mapping}
use Rattle.sq_forms.specs.Mappings.Sound.{Sound}
use Rattle.sq_forms.specs.Types.Sound.{is_sound}
use Rattle.sq_forms.specs.declared.form.Found.{Found}
use Rattle.sq_forms.specs.Resolving.{Resolving, resolution}
use Rattle.sq_forms.specs.Steps.{Key, Forms, most_uses}
use Rattle.sq_spec.specs.Bodies.{body_of}
use Rattle.sq_term_laws.specs.Fits.{Bounds, TabledBody}

-- each form has the level of its instance
abbrev pub HaveLevels : Mapping → Forms → (level : ℕ → ℕ) → Type 0
HaveLevels mapping forms level = (k : ℕ) (form : Key × Found) (x : Instance) → slice_get forms k ≡ Some form
    → slice_get mapping.instances form.1.instance ≡ Some x → level k ≡ x.level

-- Of a program without a fault, under a mapping that was read with it, the tables of all forms are as a built term
-- asks.
abbrev pub ProgramsAreTabled : Type 0
ProgramsAreTabled = (program : Program) (levels : List Level) (mapping : Mapping) → is_sound program ≡ true
    → Sound program levels mapping
    → (r : Resolving) → resolution program.tasks mapping ≡ Ok r
    → (most : Bounds) → most_uses ≤ most.uses → (last : ℕ) → length levels ≡ suc last
    → (level : ℕ → ℕ) → HaveLevels mapping r.found level
    → (k : ℕ) → TabledBody most last (level k) (body_of program.tasks mapping.instances r.found k).body
