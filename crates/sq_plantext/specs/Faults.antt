-- The first fault of the tokens of a plan file.
use Rattle.std.specs.Prelude.{◌≡◌, ℕ, ◌⊎◌, List, [], Option, Some, slice_get}
use Rattle.sq_text.specs.declared.code.Code.{Code}
use Rattle.sq_text.specs.declared.code.Code.TheVariants.{Syntax, TooDeep}
use Rattle.sq_text.specs.declared.code.Phase.TheVariants.{Plan}
use Rattle.sq_text.specs.declared.fault.Fault.{Fault}
use Rattle.sq_lexer.specs.declared.token.Token.{Token}
use Rattle.sq_plantext.specs.Grammar.{most_levels, SyntaxAt, TooDeepAt}

-- the fault with this code, at the place of the token with this index
pub record IsAt (code : Code) (ts : List Token) (i : ℕ) (f : Fault) : Type 0 where
  pub token : Token
  pub there : slice_get ts i ≡ Some token
  pub is : f ≡ record { phase = Plan; code = code; place = Some token.place; args = [] }

-- Of tokens that stand for no lines: the first with which no text begins, or the first that is allowed and opens a level
-- too many.
abbrev pub SyntaxFault : List Token → Fault → Type 0
SyntaxFault ts f = ((i : ℕ) × SyntaxAt most_levels ts i × IsAt Syntax ts i f) ⊎ ((i : ℕ) × TooDeepAt most_levels ts i × IsAt TooDeep ts i f)
