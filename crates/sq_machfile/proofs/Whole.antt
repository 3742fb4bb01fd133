-- The first fault of a machine file, group by group.
use Rattle.std.proofs.Common.{◌≡◌, ℕ, List, Option, Some, None, IfOk, Result, Ok, Err, sym, ◌∙◌, ap, subst, arith, inr}
use Rattle.sq_text.specs.declared.code.Phase.TheVariants.{Machine}
use Rattle.sq_text.specs.declared.fault.Fault.{Fault}
use Rattle.sq_text.specs.First.{AtOrBefore}
use Rattle.sq_text.specs.Faults.{fault_place, fault_number, IsFirst}
use Rattle.sq_text.specs.Answers.{Answers, Gives, IfRefused}
use Rattle.sq_text.specs.declared.fault.Stop.{Stop}
use Rattle.sq_text.specs.declared.fault.Stop.TheVariants.{Refused, NoMemory}
use Rattle.sq_text.proofs.Firsts.{first_same, first_in_turn}
use Rattle.sq_lexer.specs.declared.token.Token.{Token}
use Rattle.sq_lexer.specs.Tokens.{AreTokens}
use Rattle.sq_lexer.specs.Faults.{FitsFile, HasFault}
use Rattle.sq_machfile.specs.declared.text.MachineText.{MachineText}
use Rattle.sq_patterns.specs.Texts.{SyntaxAt}
use Rattle.sq_patterns.proofs.Places.{none_in_text, same_fault, one_text}
use Rattle.sq_machfile.specs.Grammar.{IsText}
use Rattle.sq_machfile.specs.Faults.{LimitFault}
use Rattle.sq_machfile.specs.Machines.{Hierarchy, HasLevels, machine_of, AnswersLimits, Writes, IsSyntaxFault, SyntaxFault, BrokenLimit, MachineFault, StandsFor, WithinLimits}
use Rattle.sq_machfile.proofs.Texts.{machine_format}
use Rattle.sq_machfile.proofs.Kept.{no_fault}

-- the text has no fault of the file or of tokens, and these tokens alone
pub record Lexed (text : List ℕ) (tokens : List Token) : Type 0 where
  pub tokens_of : AreTokens text tokens
  pub fits : FitsFile Machine text
  pub none : (f : Fault) → HasFault Machine text f → ⊥
  pub one : (other : List Token) → AreTokens text other → tokens ≡ other

-- the same from what the lexer says of its answer
pub lexed_by : (text : List ℕ) (tokens : List Token) → AreTokens text tokens → FitsFile Machine text → ((f : Fault) → HasFault Machine text f → ⊥)
    → ((other : List Token) → AreTokens text other → FitsFile Machine text → tokens ≡ other) → Lexed text tokens
lexed_by text tokens are fits none only = record { tokens_of = are; fits = fits; none = none; one = λ other also. only other also fits }

-- a fault is at or before itself
at_itself : (f g : Fault) → g ≡ f → AtOrBefore fault_place fault_number f g
at_itself f g e = inr (ap fault_place (sym e), let n : fault_number f ≡ fault_number g = ap fault_number (sym e) in omega arith)

first_syntax : (text : List ℕ) (ts : List Token) (f : Fault) → Lexed text ts → IsSyntaxFault ts f → IsFirst (SyntaxFault text) (Some f)
first_syntax text ts f lexed a = (
  record { tokens = ts; tokens_of = lexed.tokens_of; faulty = a },
  λ g b. at_itself f g (same_fault ts f g a (subst (λ ts. IsSyntaxFault ts g) (sym (lexed.one b.tokens b.tokens_of)) b.faulty)),
)

-- a fault of syntax is the first
refused_syntax : (text : List ℕ) (ts : List Token) (f : Fault) → Lexed text ts → IsSyntaxFault ts f → IsFirst (MachineFault text) (Some f)
refused_syntax text ts f lexed a =
    first_in_turn fault_place fault_number (HasFault Machine text) _ None (Some f) lexed.none
    (λ u. first_in_turn fault_place fault_number (SyntaxFault text) (BrokenLimit text) (Some f) None (first_syntax text ts f lexed a) (λ e. absurd (cc)))

same_machine : (text : List ℕ) (ts : List Token) (a : MachineText) → Lexed text ts → IsText ts a → (b : MachineText) → Writes text b → b ≡ a
same_machine text ts a lexed p b w = one_text machine_format ts b a (subst (λ ts. IsText ts b) (sym (lexed.one w.tokens w.tokens_of)) w.grammar) p

writes : (text : List ℕ) (ts : List Token) (a : MachineText) → Lexed text ts → IsText ts a → Writes text a
writes text ts a lexed p = record { tokens = ts; tokens_of = lexed.tokens_of; fits = lexed.fits; grammar = p }

-- where the tokens are a text, the faults of its limits are all
limits_are_all : (text : List ℕ) (ts : List Token) (a : MachineText) (o : Option Fault) → Lexed text ts → IsText ts a → IsFirst (LimitFault a) o → IsFirst (MachineFault text) o
limits_are_all text ts a o lexed p h =
    first_in_turn fault_place fault_number (HasFault Machine text) _ None o lexed.none
    (λ u. first_in_turn fault_place fault_number (SyntaxFault text) (BrokenLimit text) None o
    (λ f b. none_in_text ts a p b.faulty.index (subst (λ ts. SyntaxAt IsText ts b.faulty.index) (sym (lexed.one b.tokens b.tokens_of)) b.faulty.at))
    (λ v. first_same fault_place fault_number {P = LimitFault a} {Q = BrokenLimit text} o
    (λ f broken. record { machine = a; writes = writes text ts a lexed p; broken = broken })
    (λ f b. subst (λ m. LimitFault m f) (same_machine text ts a lexed p b.machine b.writes) b.broken) h))

-- ---- where the tokens are no text

pub syntax_answer : (text : List ℕ) (ts : List Token) (stop : Stop) → Lexed text ts → IfRefused {A = Hierarchy} (Err stop) (λ f. IsSyntaxFault ts f) → Answers {A = Hierarchy} (MachineFault text) (Err stop)
syntax_answer text ts (Refused f) lexed h = refused_syntax text ts f lexed h
syntax_answer text ts NoMemory lexed h = tt

-- a refusal by the lexer, and memory that ran out
pub lexer_gives : (text : List ℕ) (stop : Stop) (machine : Hierarchy)
    → ((ts : List Token) → AreTokens text ts → FitsFile Machine text → Gives {A = List Token} (Err stop) ts) → StandsFor text machine → Gives {A = Hierarchy} (Err stop) machine
lexer_gives text (Refused f) machine only s = only s.writes.tokens s.writes.tokens_of s.writes.fits
lexer_gives text NoMemory machine only s = tt

pub syntax_gives : (text : List ℕ) (ts : List Token) (stop : Stop) (machine : Hierarchy) → Lexed text ts → IfRefused {A = Hierarchy} (Err stop) (λ f. IsSyntaxFault ts f)
    → StandsFor text machine → Gives {A = Hierarchy} (Err stop) machine
syntax_gives text ts (Refused f) machine lexed h s =
    none_in_text ts s.written (subst (λ ts. IsText ts s.written) (sym (lexed.one s.writes.tokens s.writes.tokens_of)) s.writes.grammar) h.index h.at
syntax_gives text ts NoMemory machine lexed h s = tt

-- ---- where they are

module _ (text : List ℕ) (ts : List Token) (a : MachineText) (lexed : Lexed text ts) (p : IsText ts a) where
  pub limits_answer : (r : Result Hierarchy Stop) → AnswersLimits a r → Answers (MachineFault text) r
  limits_answer (Ok machine) h = limits_are_all text ts a None lexed p h.0
  limits_answer (Err (Refused f)) h = limits_are_all text ts a (Some f) lexed p h
  limits_answer (Err NoMemory) h = tt

  pub limits_found : (r : Result Hierarchy Stop) → AnswersLimits a r → IfOk r (λ machine. StandsFor text machine)
  limits_found (Ok machine) h = record { written = a; writes = writes text ts a lexed p; deep = h.2; is = h.1 }
  limits_found (Err stop) h = tt

  pub limits_only : (r : Result Hierarchy Stop) → AnswersLimits a r → (machine : Hierarchy) → StandsFor text machine → WithinLimits machine → Gives r machine
  limits_only (Ok found) h machine s w = h.1 ∙ ap machine_of (sym (same_machine text ts a lexed p s.written s.writes)) ∙ sym s.is
  limits_only (Err (Refused f)) h machine s w =
      let same = same_machine text ts a lexed p s.written s.writes in
      absurd (no_fault a (subst HasLevels same s.deep) (subst WithinLimits (s.is ∙ ap machine_of same) w) f h.0)
  limits_only (Err NoMemory) h machine s w = tt
