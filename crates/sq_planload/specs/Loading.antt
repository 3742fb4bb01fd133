-- What is answered for the lines and for the tokens of a plan file.
use Rattle.std.specs.Prelude.{◌≡◌, ◌⊎◌, ℕ, List, Some, Result, Ok, Err}
use Rattle.sq_text.specs.declared.code.Phase.TheVariants.{Plan}
use Rattle.sq_text.specs.declared.fault.Stop.{Stop}
use Rattle.sq_text.specs.declared.fault.Stop.TheVariants.{Refused, NoMemory}
use Rattle.sq_text.specs.Faults.{IsFirst}
use Rattle.sq_lexer.specs.declared.token.Token.{Token}
use Rattle.sq_lexer.specs.Tokens.{AreTokens}
use Rattle.sq_lexer.specs.Faults.{FitsFile}
use Rattle.sq_plantext.specs.declared.text.PlanText.{PlanText}
use Rattle.sq_plantext.specs.Faults.{SyntaxFault}
use Rattle.sq_plantext.specs.Grammar.{StandsFor, most_levels}
use Rattle.sq_planfile.specs.File.{PlanFile}
use Rattle.sq_planfile.specs.Files.{file_of}
use Rattle.sq_planfile.specs.Sound.{IsSound}
use Rattle.sq_planfile.specs.Faults.{LineFault}

-- the tokens of a text that is no longer than a plan file may be
pub record AreOfText (ts : List Token) : Type 0 where
  pub text : List ℕ
  pub tokens_of : AreTokens text ts
  pub fits : FitsFile Plan text

-- the file of sound lines, or their first fault
abbrev pub AnswersLines : PlanText → Result PlanFile Stop → Type 0
AnswersLines x (Ok f) = IsSound x × (f ≡ file_of x)
AnswersLines x (Err (Refused f)) = IsFirst (LineFault x) (Some f)
AnswersLines x (Err NoMemory) = Unit {0}

-- lines that the tokens stand for, and what is answered for them
pub record HasLines (ts : List Token) (r : Result PlanFile Stop) : Type 0 where
  pub lines : PlanText
  pub stands : StandsFor most_levels ts lines
  pub answers : AnswersLines lines r

-- the file of the lines that tokens stand for, or the first fault of the tokens, or of the lines
abbrev pub AnswersTokens : List Token → Result PlanFile Stop → Type 0
AnswersTokens ts (Ok f) = HasLines ts (Ok f)
AnswersTokens ts (Err (Refused f)) = SyntaxFault ts f ⊎ HasLines ts (Err (Refused f))
AnswersTokens ts (Err NoMemory) = Unit {0}
