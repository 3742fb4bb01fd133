-- The choices that a text with alternatives gives.
use Rattle.std.specs.Prelude.{◌≡◌, ℕ, ◌<◌, List, length, map, Some, slice_get}
use Rattle.sq_text.specs.declared.fault.Fault.{Fault}
use Rattle.sq_ast.specs.declared.program.Program.{Program}
use Rattle.sq_machfile.specs.declared.level.Level.{Level}
use Rattle.sq_mapping.specs.declared.mapping.Mapping.{Mapping}
use Rattle.sq_mapfile.specs.declared.text.MappingText.{MappingText}
use Rattle.sq_mapfile.specs.declared.text.Tunables.TheVariants.{Varied}
use Rattle.sq_mapfile.specs.declared.choices.Choices.{Choices}
use Rattle.sq_lexer.specs.declared.token.Token.{Token}
use Rattle.sq_mapfile.specs.Grammar.{IsText}
use Rattle.sq_mapfile.specs.Resolving.{mapping_with}
use Rattle.sq_mapfile.specs.Mappings.{Writes, WritesAs, MappingFault, StandsFor}
use Rattle.sq_mapfile.specs.Choices.{choices_of, instances_count}
use Rattle.sq_mapfile.specs.Chosen.{ways_of, mapping_at}

-- the mapping of the choice of this number
abbrev pub mapping_of : Choices → ℕ → Mapping
mapping_of choices n = mapping_at choices.first choices.tunables choices.number n

-- the choices of what the file says
pub record AreChoices (levels : List Level) (m : MappingText) (choices : Choices) : Type 0 where
  pub first : choices.first ≡ mapping_with levels m
  pub tunables : choices.tunables ≡ map (λ x. ways_of x.items) m.instances
  pub number : choices.number ≡ instances_count 1 m.instances

-- the text stands for these choices onto a machine of these levels
pub record StandFor (levels : List Level) (text : List ℕ) (choices : Choices) : Type 0 where
  pub written : MappingText
  pub writes : WritesAs Varied text written
  pub are : AreChoices levels written choices

-- the text is read as this mapping, for a program and a machine of these levels: it stands for it, and has no fault
pub record IsReadAs (program : Program) (levels : List Level) (text : List ℕ) (mapping : Mapping) : Type 0 where
  pub stands : StandsFor levels text mapping
  pub faultless : (f : Fault) → MappingFault program levels text f → ⊥

-- There are as many choices as the text has, and a text with the alternatives of a choice alone is read as the mapping
-- of this choice. Blanks may stand where the others were left out, so that all else keeps its place.
pub record AreReadAlone (program : Program) (levels : List Level) (text : List ℕ) (choices : Choices) : Type 0 where
  pub as_many : (m : MappingText) → WritesAs Varied text m → length (choices_of m) ≡ choices.number
  pub each : (m : MappingText) → WritesAs Varied text m → (n : ℕ) (chosen : MappingText) → slice_get (choices_of m) n ≡ Some chosen
      → (alone : List ℕ) → Writes alone chosen → IsReadAs program levels alone (mapping_of choices n)

-- tokens of the plain grammar are a text of it
pub record HasTokens (m : MappingText) : Type 0 where
  pub tokens : List Token
  pub text : IsText tokens m

-- the same choices, but for what proves that they are some and few
pub record AreSameChoices (a b : Choices) : Type 0 where
  pub first : a.first ≡ b.first
  pub tunables : a.tunables ≡ b.tunables
  pub number : a.number ≡ b.number
