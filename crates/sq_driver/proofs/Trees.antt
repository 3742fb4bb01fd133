-- From a text to its program, or to its first fault.
use Rattle.std.proofs.Common.{◌≡◌, inl, inr, ℕ, ◌<◌, List, length, Option, Some, Result, Ok, Err, IfOk, refl, sym, ◌∙◌, subst}
use Rattle.sq_port.specs.Ports.{Content}
use Rattle.sq_text.specs.declared.code.Phase.TheVariants.{Program}
use Rattle.sq_text.specs.declared.fault.Fault.{Fault}
use Rattle.sq_text.specs.declared.fault.Stop.{Stop}
use Rattle.sq_text.specs.declared.fault.Stop.TheVariants.{Refused, NoMemory}
use Rattle.sq_text.specs.Answers.{Gives, IfRefused, Refuses}
use Rattle.sq_lexer.specs.declared.token.Token.{Token}
use Rattle.sq_lexer.specs.Tokens.{AreTokens}
use Rattle.sq_lexer.specs.Faults as lexing
use Rattle.sq_parser.specs.Programs as parsing
use Rattle.sq_ast.specs.declared.program.Program.{Program as Tree}
use Rattle.sq_ast.specs.Given.{IsGiven}
use Rattle.sq_driver.specs.declared.outside.end.End.TheVariants as end
use Rattle.sq_driver.specs.Programs.{IsProgramText, ProgramFault, too_long_fault}
use Rattle.sq_driver.specs.Holding.{Holds}
use Rattle.sq_driver.specs.Steps.{ReadsTree}
use Rattle.sq_driver.proofs.Reading.{too_long}

-- a text with no tokens
abbrev NoTokens : List ℕ → Stop → Type 0
NoTokens text stop = (ts : List Token) → AreTokens text ts → lexing.FitsFile Program text
    → Gives {A = List Token} (Err stop) ts

pub none_only : (text : List ℕ) (stop : Stop) → NoTokens text stop → (p : Tree) → IsProgramText text p
    → Gives {A = Tree} (Err stop) p
none_only text (Refused f) only p is = only is.tokens is.are is.fits
none_only text NoMemory only p is = tt

pub none_refused : (text : List ℕ) (stop : Stop) → IfRefused {A = List Token} (Err stop)
    (λ f. lexing.HasFault Program text f) → IfRefused {A = Tree} (Err stop) (λ f. ProgramFault text f)
none_refused text (Refused f) has = inl has
none_refused text NoMemory has = tt

pub none_refuses : (text : List ℕ) (stop : Stop) → NoTokens text stop
    → ((f : Fault) → lexing.HasFault Program text f → Refuses {A = List Token} (Err stop) f) → (f : Fault)
    → ProgramFault text f → Refuses {A = Tree} (Err stop) f
none_refuses text (Refused g) only refuses f (inl has) = refuses f has
none_refuses text (Refused g) only refuses f (inr misread) = absurd (only misread.tokens misread.are misread.fits)
none_refuses text NoMemory only refuses f has = tt

-- a text with these tokens and no others
module _ (text : List ℕ) (ts : List Token) (fits : lexing.FitsFile Program text) (are : AreTokens text ts)
    (one : (those : List Token) → AreTokens text those → lexing.FitsFile Program text → ts ≡ those) where
  pub some_found : (result : Result Tree Stop) → IfOk result (λ p. parsing.IsProgram ts p)
      → IfOk result (λ p. IsProgramText text p)
  some_found (Ok p) stand = record { fits = fits; tokens = ts; are = are; stand = stand }
  some_found (Err stop) stand = tt

  pub some_given : (result : Result Tree Stop) → IfOk result (λ p. parsing.IsProgram ts p)
      → IfOk result (λ p. IsGiven p)
  some_given (Ok p) stand = record { text = text; tokens = ts; read = are; stand = stand }
  some_given (Err stop) stand = tt

  pub some_only : (result : Result Tree Stop) → ((p : Tree) → parsing.IsProgram ts p → Gives result p) → (p : Tree)
      → IsProgramText text p → Gives result p
  some_only result only p is = only p
      (subst (λ (l : List Token). parsing.IsProgram l p) (sym (one is.tokens is.are is.fits)) is.stand)

  pub some_refused : (result : Result Tree Stop) → IfRefused result (λ f. parsing.HasFault ts f)
      → IfRefused result (λ f. ProgramFault text f)
  some_refused (Ok p) has = tt
  some_refused (Err (Refused f)) has = inr (record { fits = fits; tokens = ts; are = are; has = has })
  some_refused (Err NoMemory) has = tt

  pub some_refuses : (result : Result Tree Stop) → ((f : Fault) → lexing.HasFault Program text f → ⊥)
      → ((f : Fault) → parsing.HasFault ts f → Refuses result f) → (f : Fault) → ProgramFault text f → Refuses result f
  some_refuses result none refuses f (inl has) = absurd (none f has)
  some_refuses result none refuses f (inr misread) = refuses f
      (subst (λ (l : List Token). parsing.HasFault l f) (sym (one misread.tokens misread.are misread.fits)) misread.has)

some_same : {A : Type 0} (o : Option A) (x y : A) → o ≡ Some x → o ≡ Some y → x ≡ y
some_same o x y a b = cc

-- a file that is read whole
module _ (told : Option Content) (name text : List ℕ) (there : (c : Content) → told ≡ Some c → c name ≡ Some text)
    (slice : List ℕ) (same : slice ≡ text) where
  of_slice : {A : Type 0} (Is : List ℕ → A → Type 0) (c : Content) → told ≡ Some c → (value : A)
      → Holds Is (c name) value → Is slice value
  of_slice Is c is value holds = subst (λ (t : List ℕ). Is t value)
      (some_same (c name) holds.0 text holds.1 (there c is) ∙ sym same) holds.2

  pub tree_held : (p : Tree) → IsProgramText slice p → ((that : Tree) → IsProgramText slice that → p ≡ that)
      → ((f : Fault) → ProgramFault slice f → ⊥) → ReadsTree told name (Ok p)
  tree_held p found only none = λ c is. record {
    one = record {
      holds = (text, there c is, subst (λ (t : List ℕ). IsProgramText t p) same found);
      only =
          λ that holds. sym (only that (of_slice IsProgramText c is that holds));
    };
    no_fault = λ f holds. none f (of_slice ProgramFault c is f holds);
  }

  pub tree_refused : (stop : Stop) (f : Fault) → stop ≡ Refused f → IfRefused {A = Tree} (Err stop)
      (λ g. ProgramFault slice g) → ReadsTree told name (Err (end.Refused f))
  tree_refused stop f is has = λ c at. (
    text,
    there c at,
    subst (λ (t : List ℕ). ProgramFault t f) same
        (subst (λ (s : Stop). IfRefused {A = Tree} (Err s) (λ g. ProgramFault slice g)) is has),
  )

-- a file that is too long
pub tree_too_long : (told : Option Content) (name : List ℕ) (f : Fault) → f ≡ too_long_fault Program
    → ((c : Content) → told ≡ Some c → (text : List ℕ) × (c name ≡ Some text) × (1048576 < length text))
    → ReadsTree told name (Err (end.Refused f))
tree_too_long told name f is longer = λ c at. let found = longer c at
    in (
      found.0,
      found.1,
      subst (λ (g : Fault). ProgramFault found.0 g) (sym is)
          (inl (lexing.too_long (too_long Program found.0 refl found.2))),
    )
