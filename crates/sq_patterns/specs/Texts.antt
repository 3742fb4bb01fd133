-- Which tokens begin a text, and where a list of tokens ceases to.
use Rattle.std.specs.Prelude.{◌≡◌, ℕ, suc, List, ◌++◌, take, Some}
use Rattle.std.specs.List.{slice_get}
use Rattle.sq_lexer.specs.Text.declared.code.Phase.{Phase}
use Rattle.sq_lexer.specs.Text.declared.code.Code.TheVariants as code
use Rattle.sq_lexer.specs.Text.declared.fault.Fault.{Fault}
use Rattle.sq_lexer.specs.declared.token.Token.{Token}
use Rattle.sq_lexer.specs.Faults.{fault}

-- `IsText tokens x` says that the tokens are a text of x.
module _ {T : Type 0} (IsText : List Token → T → Type 0) where
  -- some text begins with these tokens
  pub record BeginsText (tokens : List Token) : Type 0 where
    pub more : List Token
    pub means : T
    pub text : IsText (tokens ++ more) means

  -- the tokens before this index begin a text, and with the one at it none does
  pub record SyntaxAt (tokens : List Token) (index : ℕ) : Type 0 where
    pub before : BeginsText (take index tokens)
    pub none : BeginsText (take (suc index) tokens) → ⊥

  -- the first token with which no text begins
  pub record IsSyntaxFault (phase : Phase) (tokens : List Token) (f : Fault) : Type 0 where
    pub index : ℕ
    pub token : Token
    pub is_there : slice_get tokens index ≡ Some token
    pub at : SyntaxAt tokens index
    pub is : f ≡ fault phase code.Syntax (Some token.place)
