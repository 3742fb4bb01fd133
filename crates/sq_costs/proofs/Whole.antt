-- The first fault of a cost file, group by group.
use Rattle.std.proofs.Common.{◌≡◌, ℕ, List, map, Option, Some, None, IfOk, Result, Ok, Err, sym, ap, ◌∙◌, subst, arith, inr}
use Rattle.sq_text.specs.declared.code.Phase.TheVariants as phase
use Rattle.sq_text.specs.declared.fault.Fault.{Fault}
use Rattle.sq_text.specs.First.{AtOrBefore}
use Rattle.sq_text.specs.Faults.{fault_place, fault_number, IsFirst}
use Rattle.sq_text.specs.Answers.{Answers, Gives, IfRefused}
use Rattle.sq_text.specs.declared.fault.Stop.{Stop}
use Rattle.sq_text.specs.declared.fault.Stop.TheVariants.{Refused, NoMemory}
use Rattle.sq_text.proofs.Firsts.{first_same, first_in_turn}
use Rattle.sq_lexer.specs.declared.token.Token.{Token}
use Rattle.sq_lexer.specs.Tokens.{AreTokens}
use Rattle.sq_lexer.specs.Faults.{FitsFile, HasFault}
use Rattle.sq_patterns.specs.Texts.{SyntaxAt}
use Rattle.sq_patterns.proofs.Places.{none_in_text, same_fault, one_text}
use Rattle.sq_machfile.specs.declared.level.Level.{Level}
use Rattle.sq_costs.specs.declared.cost.Cost.{Cost}
use Rattle.sq_costs.specs.declared.text.CostText.{CostText}
use Rattle.sq_costs.specs.Grammar.{IsText}
use Rattle.sq_costs.specs.Rules.{RuleFault}
use Rattle.sq_costs.specs.Files.{cost_of, Writes, IsSyntaxFault, SyntaxFault, BrokenRule, CostFault, StandsFor, AnswersRules}
use Rattle.sq_costs.proofs.Texts.{cost_format}

-- the text has no fault of the file or of tokens, and these tokens alone
pub record Lexed (text : List ℕ) (tokens : List Token) : Type 0 where
  pub tokens_of : AreTokens text tokens
  pub fits : FitsFile phase.Cost text
  pub none : (f : Fault) → HasFault phase.Cost text f → ⊥
  pub one : (other : List Token) → AreTokens text other → tokens ≡ other

-- the same from what the lexer says of its answer
pub lexed_by : (text : List ℕ) (tokens : List Token) → AreTokens text tokens → FitsFile phase.Cost text → ((f : Fault) → HasFault phase.Cost text f → ⊥)
    → ((other : List Token) → AreTokens text other → FitsFile phase.Cost text → tokens ≡ other) → Lexed text tokens
lexed_by text tokens are fits none only = record { tokens_of = are; fits = fits; none = none; one = λ other also. only other also fits }

-- a fault is at or before itself
at_itself : (f g : Fault) → g ≡ f → AtOrBefore fault_place fault_number f g
at_itself f g e = inr (ap fault_place (sym e), let n : fault_number f ≡ fault_number g = ap fault_number (sym e) in omega arith)

module _ (text : List ℕ) (levels : List Level) (ts : List Token) (lexed : Lexed text ts) where
  first_syntax : (f : Fault) → IsSyntaxFault ts f → IsFirst (SyntaxFault text) (Some f)
  first_syntax f a = (
    record { tokens = ts; tokens_of = lexed.tokens_of; faulty = a },
    λ g b. at_itself f g (same_fault ts f g a (subst (λ ts. IsSyntaxFault ts g) (sym (lexed.one b.tokens b.tokens_of)) b.faulty)),
  )

  -- a fault of syntax is the first
  refused_syntax : (f : Fault) → IsSyntaxFault ts f → IsFirst (CostFault text levels) (Some f)
  refused_syntax f a =
      first_in_turn fault_place fault_number (HasFault phase.Cost text) _ None (Some f) lexed.none
      (λ u. first_in_turn fault_place fault_number (SyntaxFault text) (BrokenRule text levels) (Some f) None (first_syntax f a) (λ e. absurd (cc)))

  -- no costs stand there
  pub syntax_gives : (stop : Stop) → IfRefused {A = List Cost} (Err stop) (λ f. IsSyntaxFault ts f) → (costs : List Cost) → StandsFor text levels costs → Gives {A = List Cost} (Err stop) costs
  syntax_gives (Refused f) h costs s =
      none_in_text ts s.written (subst (λ ts. IsText ts s.written) (sym (lexed.one s.writes.tokens s.writes.tokens_of)) s.writes.grammar) h.index h.at
  syntax_gives NoMemory h costs s = tt

  pub syntax_answer : (stop : Stop) → IfRefused {A = List Cost} (Err stop) (λ f. IsSyntaxFault ts f) → Answers {A = List Cost} (CostFault text levels) (Err stop)
  syntax_answer (Refused f) h = refused_syntax f h
  syntax_answer NoMemory h = tt

  module _ (a : CostText) (p : IsText ts a) where
    same_text : (b : CostText) → Writes text b → b ≡ a
    same_text b w = one_text cost_format ts b a (subst (λ ts. IsText ts b) (sym (lexed.one w.tokens w.tokens_of)) w.grammar) p

    writes : Writes text a
    writes = record { tokens = ts; tokens_of = lexed.tokens_of; fits = lexed.fits; grammar = p }

    -- where the tokens are a text, the faults of its rules are all
    rules_are_all : (o : Option Fault) → IsFirst (RuleFault levels a) o → IsFirst (CostFault text levels) o
    rules_are_all o h =
        first_in_turn fault_place fault_number (HasFault phase.Cost text) _ None o lexed.none
        (λ u. first_in_turn fault_place fault_number (SyntaxFault text) (BrokenRule text levels) None o
        (λ f b. none_in_text ts a p b.faulty.index (subst (λ ts. SyntaxAt IsText ts b.faulty.index) (sym (lexed.one b.tokens b.tokens_of)) b.faulty.at))
        (λ v. first_same fault_place fault_number {P = RuleFault levels a} {Q = BrokenRule text levels} o
        (λ f broken. record { written = a; writes = writes; broken = broken })
        (λ f b. subst (λ m. RuleFault levels m f) (same_text b.written b.writes) b.broken) h))

    pub rules_answer : (r : Result (List Cost) Stop) → AnswersRules levels a r → Answers (CostFault text levels) r
    rules_answer (Ok costs) h = rules_are_all None h.0
    rules_answer (Err (Refused f)) h = rules_are_all (Some f) h
    rules_answer (Err NoMemory) h = tt

    pub rules_found : (r : Result (List Cost) Stop) → AnswersRules levels a r → IfOk r (λ costs. StandsFor text levels costs)
    rules_found (Ok costs) h = record { written = a; writes = writes; faultless = h.0; is = h.1 }
    rules_found (Err stop) h = tt

    pub rules_give : (r : Result (List Cost) Stop) → AnswersRules levels a r → (costs : List Cost) → StandsFor text levels costs → Gives r costs
    rules_give (Ok found) h costs s = h.1 ∙ ap (λ (w : CostText). map cost_of w.entries) (sym (same_text s.written s.writes)) ∙ sym s.is
    rules_give (Err (Refused f)) h costs s = s.faultless f (subst (λ (w : CostText). RuleFault levels w f) (sym (same_text s.written s.writes)) h.0)
    rules_give (Err NoMemory) h costs s = tt

-- a refusal by the lexer, and memory that ran out
pub lexer_gives : (text : List ℕ) (levels : List Level) (stop : Stop) (costs : List Cost)
    → ((ts : List Token) → AreTokens text ts → FitsFile phase.Cost text → Gives {A = List Token} (Err stop) ts) → StandsFor text levels costs → Gives {A = List Cost} (Err stop) costs
lexer_gives text levels (Refused f) costs only s = only s.writes.tokens s.writes.tokens_of s.writes.fits
lexer_gives text levels NoMemory costs only s = tt
