-- The tables of a program's forms fit.
use Rattle.std.specs.Prelude.{◌≡◌, ℕ, true, List, Some, Ok, slice_get}
use Rattle.sq_ast.specs.Forms.{is_formed}
use Rattle.sq_ast.specs.declared.program.Program.{Program}
use Rattle.sq_machfile.specs.declared.level.Level.{Level}
use Rattle.sq_mapping.specs.declared.mapping.Mapping.{Mapping}
use Rattle.sq_mapping.specs.Sound.{Sound}
use Rattle.sq_types.specs.Sound.{is_sound}
use Rattle.sq_leaf.specs.declared.shape.Shape.{Shape}
use Rattle.sq_ir.specs.Events.{Leaves}
use Rattle.sq_forms.specs.Resolving.{Resolving, resolution}
use Rattle.sq_placed.specs.declared.home.Homes.{Homes}
use Rattle.sq_cells.specs.Tree.{Cause}
use Rattle.sq_program_laws.specs.Held.{HoldsFit}
use Rattle.sq_program_laws.specs.Piped.{PipesFit}
use Rattle.sq_program_laws.specs.Rows.{FormsFit}
use Rattle.sq_program_laws.specs.Homes.{mays_of, bodies_of, HomesFit, LeavesStand}
use Rattle.sq_program_laws.specs.Sizes.{IsSized}

-- Of a program without a fault, under a mapping that was read with it, the tables of all forms fit, wherever their
-- arrays stand and whatever the leaves of the plan are, if these fit, the arguments that leave loops may do so, and the
-- loops that overlap their transfers may do that.
abbrev pub ProgramsFit : Type 0
ProgramsFit = (program : Program) (levels : List Level) (mapping : Mapping) → is_formed program ≡ true
    → is_sound program ≡ true → Sound program levels mapping
    → (r : Resolving) → resolution program.tasks mapping ≡ Ok r
    → (leaves : Leaves Cause) (homes : ℕ → Homes) → HomesFit program mapping r.found homes
    → HoldsFit (bodies_of program mapping r.found) homes → PipesFit (bodies_of program mapping r.found) homes
    → LeavesStand program mapping r.found leaves homes
    → FormsFit leaves (bodies_of program mapping r.found) homes (mays_of program.tasks mapping.instances r.found)

-- The arrays of its forms are within the limits of arrays.
abbrev pub ArraysAreSized : Type 0
ArraysAreSized = (program : Program) (levels : List Level) (mapping : Mapping) → is_sound program ≡ true
    → Sound program levels mapping
    → (r : Resolving) → resolution program.tasks mapping ≡ Ok r
    → (k n : ℕ) (sh : Shape) → slice_get (bodies_of program mapping r.found k).arrays n ≡ Some sh → IsSized sh.extents
