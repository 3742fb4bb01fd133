-- How many forms may stand within one another: for a form, as many as there are behind it.
use Rattle.std.specs.Prelude.{◌≡◌, ◌≤◌, ◌+◌, ℕ, suc, true, List, length, Ok}
use Rattle.sq_ast.specs.declared.program.Program.{Program}
use Rattle.sq_machfile.specs.declared.level.Level.{Level}
use Rattle.sq_forms.specs.Mappings.declared.mapping.Mapping.{Mapping}
use Rattle.sq_forms.specs.Mappings.Sound.{Sound}
use Rattle.sq_types.specs.Sound.{is_sound}
use Rattle.sq_forms.specs.Resolving.{Resolving, resolution}
use Rattle.sq_spec.specs.Bodies.{body_of, numbered_work}

-- Of a form, round which as many may be called within one another as there are behind it, one more changes no work.
abbrev pub FormsBehindAreEnough : Type 0
FormsBehindAreEnough = (program : Program) (levels : List Level) (mapping : Mapping) → is_sound program ≡ true
    → Sound program levels mapping → (r : Resolving) → resolution program.tasks mapping ≡ Ok r
    → (n k : ℕ) → length r.found ≤ n + k
    → numbered_work (body_of program.tasks mapping.instances r.found) (suc n) k
    ≡ numbered_work (body_of program.tasks mapping.instances r.found) n k
