-- The program that a text is, and the first fault of a text that is none.
use Rattle.std.specs.Prelude.{◌⊎◌, ℕ, List, Some, None}
use Rattle.sq_text.specs.declared.code.Phase.{Phase}
use Rattle.sq_text.specs.declared.code.Phase.TheVariants as phase
use Rattle.sq_text.specs.declared.code.Code.TheVariants as code
use Rattle.sq_text.specs.declared.fault.Fault.{Fault}
use Rattle.sq_text.specs.Faults.{IsFirst}
use Rattle.sq_lexer.specs.declared.token.Token.{Token}
use Rattle.sq_lexer.specs.Tokens.{AreTokens}
use Rattle.sq_lexer.specs.Faults as lexing
use Rattle.sq_parser.specs.Programs as parsing
use Rattle.sq_ast.specs.declared.program.Program.{Program}
use Rattle.sq_types.specs.Sites.{TypeFault}

-- the tokens of a text that isn't too long stand for this program
pub record IsProgramText (text : List ℕ) (program : Program) : Type 0 where
  pub fits : lexing.FitsFile phase.Program text
  pub tokens : List Token
  pub are : AreTokens text tokens
  pub stand : parsing.IsProgram tokens program

-- they stand for no program, and have this fault
pub record IsMisread (text : List ℕ) (its : Fault) : Type 0 where
  pub fits : lexing.FitsFile phase.Program text
  pub tokens : List Token
  pub are : AreTokens text tokens
  pub has : parsing.HasFault tokens its

-- the first fault of a program's text: that of its tokens, and where they have none, that of what they stand for
abbrev pub ProgramFault : List ℕ → Fault → Type 0
ProgramFault text its = lexing.HasFault phase.Program text its ⊎ IsMisread text its

-- the first of the faults of a program's names, kinds and parameters
abbrev pub IsFirstTypeFault : Program → Fault → Type 0
IsFirstTypeFault program its = IsFirst (TypeFault program) (Some its)

-- the fault of a text that is too long
abbrev pub too_long_fault : Phase → Fault
too_long_fault p = lexing.fault p code.LimitFile None
