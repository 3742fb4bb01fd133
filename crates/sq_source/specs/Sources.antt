-- The program that a text stands for, and the first fault of a text that stands for none.
use Rattle.std.specs.Prelude.{◌⊎◌, ℕ, List, Some}
use Rattle.sq_text.specs.declared.code.Phase.TheVariants.{Program as ProgramPhase}
use Rattle.sq_text.specs.declared.fault.Fault.{Fault}
use Rattle.sq_text.specs.Faults.{IsFirst}
use Rattle.sq_lexer.specs.declared.token.Token.{Token}
use Rattle.sq_lexer.specs.Tokens.{AreTokens}
use Rattle.sq_lexer.specs.Faults as lexing
use Rattle.sq_ast.specs.declared.program.Program.{Program}
use Rattle.sq_parser.specs.Programs as parsing
use Rattle.sq_types.specs.Sites.{TypeFault}

-- the text isn't too long, and its tokens stand for the program
pub record IsReadFrom (text : List ℕ) (program : Program) : Type 0 where
  pub fits : lexing.FitsFile ProgramPhase text
  pub tokens : List Token
  pub are : AreTokens text tokens
  pub stand : parsing.IsProgram tokens program

-- they stand for no program, and have this fault
pub record IsMisread (text : List ℕ) (its : Fault) : Type 0 where
  pub fits : lexing.FitsFile ProgramPhase text
  pub tokens : List Token
  pub are : AreTokens text tokens
  pub has : parsing.HasFault tokens its

-- they stand for a program, of whose names this is the first fault
pub record IsMistyped (text : List ℕ) (its : Fault) : Type 0 where
  pub program : Program
  pub read : IsReadFrom text program
  pub first : IsFirst (TypeFault program) (Some its)

-- the first fault of the text: of its tokens, else of its grammar, else of its names
abbrev pub IsFault : List ℕ → Fault → Type 0
IsFault text its = lexing.HasFault ProgramPhase text its ⊎ (IsMisread text its ⊎ IsMistyped text its)
