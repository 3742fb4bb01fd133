-- What a text stands for is one.
use Rattle.std.specs.Prelude.{◌≡◌, ℕ, List}
use Rattle.sq_lexer.specs.declared.token.Token.{Token}
use Rattle.sq_lexer.specs.Tokens.{AreTokens}
use Rattle.sq_ast.specs.declared.program.Program.{Program}
use Rattle.sq_parser.specs.Programs.{IsProgram}
use Rattle.sq_machfile.specs.declared.level.Level.{Level}
use Rattle.sq_machfile.specs.Machines.{Hierarchy, WithinLimits, StandsFor as IsMachineOf}
use Rattle.sq_mapping.specs.declared.mapping.Mapping.{Mapping}
use Rattle.sq_mapfile.specs.Mappings.{StandsFor as IsMappingOf}

-- A program's text stands for one program,
abbrev pub ProgramsAreOne : Type 0
ProgramsAreOne = (text : List ℕ) (ts us : List Token) (p q : Program) → AreTokens text ts → IsProgram ts p
    → AreTokens text us → IsProgram us q → p ≡ q

-- a machine's for one machine within the limits,
abbrev pub MachinesAreOne : Type 0
MachinesAreOne = (text : List ℕ) (m n : Hierarchy) → IsMachineOf text m → WithinLimits m → IsMachineOf text n
    → WithinLimits n → m ≡ n

-- and a mapping's, onto a machine of these levels, for one mapping.
abbrev pub MappingsAreOne : Type 0
MappingsAreOne = (levels : List Level) (text : List ℕ) (m n : Mapping) → IsMappingOf levels text m
    → IsMappingOf levels text n → m ≡ n
