-- The first fault of the walk over the forms, and the first race.
use Rattle.std.specs.Prelude.{◌≡◌, [], ◌∷◌, Some}
use Rattle.sq_text.specs.declared.code.Phase.TheVariants as phase
use Rattle.sq_text.specs.declared.code.Code.TheVariants as code
use Rattle.sq_text.specs.declared.fault.Arg.TheVariants.{Word, Number, Block}
use Rattle.sq_text.specs.declared.fault.Fault.{Fault}
use Rattle.sq_ast.specs.declared.program.Program.{Program as Tree}
use Rattle.sq_machfile.specs.Machines.{Hierarchy}
use Rattle.sq_mapping.specs.declared.mapping.Mapping.{Mapping}
use Rattle.sq_forms.specs.Forms.{AreForms, IsFirstMet}
use Rattle.sq_forms.specs.Resolving.{resolution}
use Rattle.sq_spec.specs.Works.{found_in}
use Rattle.sq_spec.specs.declared.resolved.Resolved.{Resolved}
use Rattle.sq_race.specs.declared.race.Race.{Race}
use Rattle.sq_race.specs.Race.{IsFirst}
use Rattle.sq_race.specs.TextOrder.{IsFirstInText}
use Rattle.sq_driver.specs.Phases.{Inputs}
use Rattle.sq_driver.specs.Sources.{Sources}

-- the walk over the forms of the program meets this fault first
pub record IsFirstOfResolve (inputs : Inputs) (its : Fault) : Type 0 where
  pub sources : Sources inputs
  pub first : IsFirstMet sources.tree sources.mapped its

-- these are the forms of the program, with their accesses, under the mapping onto the machine
pub record IsResolved (tree : Tree) (hierarchy : Hierarchy) (mapped : Mapping) (r : Resolved) : Type 0 where
  pub tree_is : r.typed.now ≡ tree
  pub machine_is : r.machine.now ≡ hierarchy
  pub mapping_is : r.mapping.now ≡ mapped
  pub forms : AreForms tree mapped r.forms r.uses
  pub found : found_in (resolution tree.tasks mapped) ≡ r.found.entries

-- the line of a race names the array, and of each access the map's iteration and the block, the earlier one first
abbrev pub race_fault : Race → Fault
race_fault race = record {
  phase = phase.Race;
  code = code.Race;
  place = Some race.place;
  args = Word race.array ∷ Number race.iter_a ∷ Block race.rect_a ∷ Number race.iter_b ∷ Block race.rect_b ∷ [];
}

-- of the races of these forms the first has this fault
pub record IsFirstRaceFault (forms : Resolved) (its : Fault) : Type 0 where
  pub race : Race
  pub first : IsFirst forms race
  pub is : its ≡ race_fault race

-- The race that stands first in the text has it: by form, then by where the map stands, then by the iterations round
-- the map, then by the later access, and then by the earlier one.
pub record IsFirstTextRace (forms : Resolved) (its : Fault) : Type 0 where
  pub race : Race
  pub first : IsFirstInText forms race
  pub is : its ≡ race_fault race

-- of the races of the program's forms the first in the text has it
pub record IsFirstOfRace (inputs : Inputs) (its : Fault) : Type 0 where
  pub sources : Sources inputs
  pub forms : Resolved
  pub are : IsResolved sources.tree sources.hierarchy sources.mapped forms
  pub first : IsFirstTextRace forms its
