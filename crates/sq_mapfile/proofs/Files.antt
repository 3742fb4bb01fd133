-- The first fault of a file, group by group: of its length and its tokens, of the grammar, of the rules of what is written.
use Rattle.std.proofs.Common.{◌≡◌, ℕ, List, Option, Some, None, inr, Result, Ok, Err, sym, ap, subst, arith}
use Rattle.sq_text.specs.declared.code.Phase.TheVariants as phase
use Rattle.sq_text.specs.declared.fault.Fault.{Fault}
use Rattle.sq_text.specs.First.{AtOrBefore}
use Rattle.sq_text.specs.Faults.{fault_place, fault_number, IsFirst}
use Rattle.sq_text.specs.Answers.{Answers, Gives, IfRefused}
use Rattle.sq_text.specs.declared.fault.Stop.{Stop}
use Rattle.sq_text.specs.declared.fault.Stop.TheVariants.{Refused, NoMemory}
use Rattle.sq_text.proofs.Firsts.{first_same, first_in_turn}
use Rattle.sq_lexer.specs.declared.token.Token.{Token}
use Rattle.sq_lexer.specs.Tokens.{AreTokens}
use Rattle.sq_lexer.specs.Faults.{FitsFile, HasFault}
use Rattle.sq_patterns.specs.Texts.{SyntaxAt}
use Rattle.sq_patterns.proofs.Places.{none_in_text, same_fault, one_text}
use Rattle.sq_mapfile.specs.declared.text.MappingText.{MappingText}
use Rattle.sq_mapfile.specs.declared.text.Tunables.{Tunables}
use Rattle.sq_mapfile.specs.Grammar.{IsTextOf}
use Rattle.sq_mapfile.specs.Mappings.{WritesAs, IsSyntaxFaultOf, SyntaxFault, RuleFault, FileFault}
use Rattle.sq_mapfile.proofs.Texts.{format}

-- the text has no fault of the file or of tokens, and these tokens alone
pub record Lexed (text : List ℕ) (tokens : List Token) : Type 0 where
  pub tokens_of : AreTokens text tokens
  pub fits : FitsFile phase.Mapping text
  pub none : (f : Fault) → HasFault phase.Mapping text f → ⊥
  pub one : (other : List Token) → AreTokens text other → tokens ≡ other

-- the same from what the lexer says of its answer
pub lexed_by : (text : List ℕ) (tokens : List Token) → AreTokens text tokens → FitsFile phase.Mapping text → ((f : Fault) → HasFault phase.Mapping text f → ⊥)
    → ((other : List Token) → AreTokens text other → FitsFile phase.Mapping text → tokens ≡ other) → Lexed text tokens
lexed_by text tokens are fits none only = record { tokens_of = are; fits = fits; none = none; one = λ other also. only other also fits }

-- ---- a fault of syntax is the first

at_itself : (f g : Fault) → g ≡ f → AtOrBefore fault_place fault_number f g
at_itself f g e = inr (ap fault_place (sym e), let n : fault_number f ≡ fault_number g = ap fault_number (sym e) in omega arith)

module _ (tunables : Tunables) (text : List ℕ) where
  first_syntax : (ts : List Token) (f : Fault) → Lexed text ts → IsSyntaxFaultOf tunables ts f → IsFirst (SyntaxFault tunables text) (Some f)
  first_syntax ts f lexed a = (
    record { tokens = ts; tokens_of = lexed.tokens_of; faulty = a },
    λ g b. at_itself f g (same_fault ts f g a (subst (λ ts. IsSyntaxFaultOf tunables ts g) (sym (lexed.one b.tokens b.tokens_of)) b.faulty)),
  )

  pub same_written : (ts : List Token) (m : MappingText) → Lexed text ts → IsTextOf tunables ts m → (n : MappingText) → WritesAs tunables text n → n ≡ m
  same_written ts m lexed p n w = one_text (format tunables) ts n m (subst (λ ts. IsTextOf tunables ts n) (sym (lexed.one w.tokens w.tokens_of)) w.grammar) p

  pub writes : (ts : List Token) (m : MappingText) → Lexed text ts → IsTextOf tunables ts m → WritesAs tunables text m
  writes ts m lexed p = record { tokens = ts; tokens_of = lexed.tokens_of; fits = lexed.fits; grammar = p }

  -- a fault of syntax leaves nothing that is written
  pub none_written : {A : Type 0} (ts : List Token) (stop : Stop) → Lexed text ts → IfRefused {A = A} (Err stop) (λ f. IsSyntaxFaultOf tunables ts f)
      → (n : MappingText) (a : A) → WritesAs tunables text n → Gives {A = A} (Err stop) a
  none_written ts (Refused f) lexed h n a w =
      none_in_text ts n (subst (λ ts. IsTextOf tunables ts n) (sym (lexed.one w.tokens w.tokens_of)) w.grammar) h.index h.at
  none_written ts NoMemory lexed h n a w = tt

  -- nor does a refusal by the lexer
  pub none_lexed : {A : Type 0} (stop : Stop) (n : MappingText) (a : A) → ((ts : List Token) → AreTokens text ts → FitsFile phase.Mapping text → Gives {A = List Token} (Err stop) ts)
      → WritesAs tunables text n → Gives {A = A} (Err stop) a
  none_lexed (Refused f) n a only w = only w.tokens w.tokens_of w.fits
  none_lexed NoMemory n a only w = tt

  module _ (Breaks : MappingText → Fault → Type 0) where
    refused_syntax : (ts : List Token) (f : Fault) → Lexed text ts → IsSyntaxFaultOf tunables ts f → IsFirst (FileFault tunables Breaks text) (Some f)
    refused_syntax ts f lexed a =
        first_in_turn fault_place fault_number (HasFault phase.Mapping text) _ None (Some f) lexed.none
        (λ u. first_in_turn fault_place fault_number (SyntaxFault tunables text) (RuleFault tunables Breaks text) (Some f) None (first_syntax ts f lexed a) (λ e. absurd (cc)))

    pub syntax_answer : (A : Type 0) (ts : List Token) (stop : Stop) → Lexed text ts → IfRefused {A = A} (Err stop) (λ f. IsSyntaxFaultOf tunables ts f)
        → Answers {A = A} (FileFault tunables Breaks text) (Err stop)
    syntax_answer A ts (Refused f) lexed h = refused_syntax ts f lexed h
    syntax_answer A ts NoMemory lexed h = tt

    -- where the tokens are a text, the broken rules are all faults
    rules_are_all : (ts : List Token) (m : MappingText) (o : Option Fault) → Lexed text ts → IsTextOf tunables ts m → IsFirst (Breaks m) o
        → IsFirst (FileFault tunables Breaks text) o
    rules_are_all ts m o lexed p h =
        first_in_turn fault_place fault_number (HasFault phase.Mapping text) _ None o lexed.none
        (λ u. first_in_turn fault_place fault_number (SyntaxFault tunables text) (RuleFault tunables Breaks text) None o
        (λ f b. none_in_text ts m p b.faulty.index (subst (λ ts. SyntaxAt (IsTextOf tunables) ts b.faulty.index) (sym (lexed.one b.tokens b.tokens_of)) b.faulty.at))
        (λ v. first_same fault_place fault_number {P = Breaks m} {Q = RuleFault tunables Breaks text} o
        (λ f broken. record { mapping = m; writes = writes ts m lexed p; broken = broken })
        (λ f b. subst (λ n. Breaks n f) (same_written ts m lexed p b.mapping b.writes) b.broken) h))

    pub rules_answer : {A : Type 0} (ts : List Token) (m : MappingText) (r : Result A Stop) → Lexed text ts → IsTextOf tunables ts m → Answers (Breaks m) r
        → Answers (FileFault tunables Breaks text) r
    rules_answer ts m (Ok a) lexed p h = rules_are_all ts m None lexed p h
    rules_answer ts m (Err (Refused f)) lexed p h = rules_are_all ts m (Some f) lexed p h
    rules_answer ts m (Err NoMemory) lexed p h = tt
