-- The first fault of a plan file, group by group.
use Rattle.std.proofs.Common.{◌≡◌, ℕ, List, Option, Some, None, IfOk, Result, Ok, Err, sym, ap, ◌∙◌, subst, arith, inl, inr}
use Rattle.sq_text.specs.declared.code.Phase.TheVariants.{Plan}
use Rattle.sq_text.specs.declared.fault.Fault.{Fault}
use Rattle.sq_text.specs.declared.fault.Stop.{Stop}
use Rattle.sq_text.specs.declared.fault.Stop.TheVariants.{Refused, NoMemory}
use Rattle.sq_text.specs.First.{AtOrBefore}
use Rattle.sq_text.specs.Faults.{fault_place, fault_number, IsFirst}
use Rattle.sq_text.specs.Answers.{Answers, Gives, Refuses, IfRefused}
use Rattle.sq_text.proofs.Firsts.{first_same, first_in_turn}
use Rattle.sq_lexer.specs.declared.token.Token.{Token}
use Rattle.sq_lexer.specs.Tokens.{AreTokens}
use Rattle.sq_lexer.specs.Faults.{FitsFile, HasFault}
use Rattle.sq_plantext.specs.declared.text.PlanText.{PlanText}
use Rattle.sq_plantext.specs.Faults.{SyntaxFault}
use Rattle.sq_plantext.specs.Grammar.{StandsFor, most_levels}
use Rattle.sq_planread.proofs.Unique.{one_fault, no_fault}
use Rattle.sq_planread.proofs.Whole.{stands_for_one}
use Rattle.sq_planfile.specs.File.{PlanFile}
use Rattle.sq_planfile.specs.Files.{file_of}
use Rattle.sq_planfile.specs.Sound.{IsSound}
use Rattle.sq_planfile.specs.Faults.{LineFault, Writes, IsBadSyntax, IsBadLine, PlanFault, Means}
use Rattle.sq_planfile.proofs.Exclusive.{sound_is_faultless}
use Rattle.sq_planload.specs.Loading.{AnswersTokens, AreOfText}

-- the text has no fault of the file or of tokens, and these tokens alone
pub record Lexed (text : List ℕ) (ts : List Token) : Type 0 where
  pub tokens_of : AreTokens text ts
  pub fits : FitsFile Plan text
  pub none : (f : Fault) → HasFault Plan text f → ⊥
  pub one : (other : List Token) → AreTokens text other → ts ≡ other

-- the same from what the lexer says of its answer
pub lexed_by : (text : List ℕ) (ts : List Token) → AreTokens text ts → FitsFile Plan text → ((f : Fault) → HasFault Plan text f → ⊥)
    → ((other : List Token) → AreTokens text other → FitsFile Plan text → ts ≡ other) → Lexed text ts
lexed_by text ts are fits none only = record { tokens_of = are; fits = fits; none = none; one = λ other also. only other also fits }

pub of_text : (text : List ℕ) (ts : List Token) → AreTokens text ts → FitsFile Plan text → AreOfText ts
of_text text ts are fits = record { text = text; tokens_of = are; fits = fits }

-- a fault is at or before itself
at_itself : (f g : Fault) → g ≡ f → AtOrBefore fault_place fault_number f g
at_itself f g e = inr (ap fault_place (sym e), let n : fault_number f ≡ fault_number g = ap fault_number (sym e) in omega arith)

module _ (text : List ℕ) (ts : List Token) (lexed : Lexed text ts) where
  first_syntax : (f : Fault) → SyntaxFault ts f → IsFirst (IsBadSyntax text) (Some f)
  first_syntax f a = (
    record { tokens = ts; tokens_of = lexed.tokens_of; faulty = a },
    λ g b. at_itself f g (one_fault ts g f (subst (λ ts. SyntaxFault ts g) (sym (lexed.one b.tokens b.tokens_of)) b.faulty) a),
  )

  -- a fault of syntax is the first
  refused_syntax : (f : Fault) → SyntaxFault ts f → IsFirst (PlanFault text) (Some f)
  refused_syntax f a =
      first_in_turn fault_place fault_number (HasFault Plan text) _ None (Some f) lexed.none
      (λ u. first_in_turn fault_place fault_number (IsBadSyntax text) (IsBadLine text) (Some f) None (first_syntax f a) (λ e. absurd (cc)))

  -- the text stands for no lines then
  no_lines : (f : Fault) → SyntaxFault ts f → (x : PlanText) → Writes text x → ⊥
  no_lines f a x w = no_fault ts x f (subst (λ ts. StandsFor most_levels ts x) (sym (lexed.one w.tokens w.tokens_of)) w.grammar) a

  module _ (x : PlanText) (s : StandsFor most_levels ts x) where
    same_lines : (y : PlanText) → Writes text y → y ≡ x
    same_lines y w = stands_for_one ts y x (subst (λ ts. StandsFor most_levels ts y) (sym (lexed.one w.tokens w.tokens_of)) w.grammar) s

    writes : Writes text x
    writes = record { tokens = ts; tokens_of = lexed.tokens_of; fits = lexed.fits; grammar = s }

    -- where the tokens stand for lines, the faults of these are all
    lines_are_all : (o : Option Fault) → IsFirst (LineFault x) o → IsFirst (PlanFault text) o
    lines_are_all o h =
        first_in_turn fault_place fault_number (HasFault Plan text) _ None o lexed.none
        (λ u. first_in_turn fault_place fault_number (IsBadSyntax text) (IsBadLine text) None o
        (λ f b. no_fault ts x f s (subst (λ ts. SyntaxFault ts f) (sym (lexed.one b.tokens b.tokens_of)) b.faulty))
        (λ v. first_same fault_place fault_number {P = LineFault x} {Q = IsBadLine text} o
        (λ f broken. record { lines = x; writes = writes; broken = broken })
        (λ f b. subst (λ y. LineFault y f) (same_lines b.lines b.writes) b.broken) h))

  pub tokens_answer : (r : Result PlanFile Stop) → AnswersTokens ts r → Answers (PlanFault text) r
  tokens_answer (Ok file) h = lines_are_all h.lines h.stands None (λ f. sound_is_faultless h.lines f h.answers.0)
  tokens_answer (Err (Refused f)) (inl h) = refused_syntax f h
  tokens_answer (Err (Refused f)) (inr h) = lines_are_all h.lines h.stands (Some f) h.answers
  tokens_answer (Err NoMemory) h = tt

  pub tokens_found : (r : Result PlanFile Stop) → AnswersTokens ts r → IfOk r (λ file. Means text file)
  tokens_found (Ok file) h = record { lines = h.lines; writes = writes h.lines h.stands; sound = h.answers.0; is = h.answers.1 }
  tokens_found (Err stop) h = tt

  pub tokens_give : (r : Result PlanFile Stop) → AnswersTokens ts r → (file : PlanFile) → Means text file → Gives r file
  tokens_give (Ok found) h file m = h.answers.1 ∙ ap file_of (sym (same_lines h.lines h.stands m.lines m.writes)) ∙ sym m.is
  tokens_give (Err (Refused f)) (inl h) file m = no_lines f h m.lines m.writes
  tokens_give (Err (Refused f)) (inr h) file m =
      sound_is_faultless h.lines f (subst IsSound (same_lines h.lines h.stands m.lines m.writes) m.sound) h.answers.0
  tokens_give (Err NoMemory) h file m = tt

-- a refusal by the lexer, and memory that ran out
pub lexer_answers : (text : List ℕ) (stop : Stop) → IfRefused {A = List Token} (Err stop) (λ f. HasFault Plan text f)
    → ((f : Fault) → HasFault Plan text f → Refuses {A = List Token} (Err stop) f) → Answers {A = PlanFile} (PlanFault text) (Err stop)
lexer_answers text (Refused f) h only = (inl h, first)
  where
    first : (g : Fault) → PlanFault text g → AtOrBefore fault_place fault_number f g
    first g (inl a) = at_itself f g (sym (only g a))
    first g (inr a) = absurd (a.0 f h)
lexer_answers text NoMemory h only = tt

pub lexer_gives : (text : List ℕ) (stop : Stop) (file : PlanFile)
    → ((ts : List Token) → AreTokens text ts → FitsFile Plan text → Gives {A = List Token} (Err stop) ts) → Means text file → Gives {A = PlanFile} (Err stop) file
lexer_gives text (Refused f) file only m = only m.writes.tokens m.writes.tokens_of m.writes.fits
lexer_gives text NoMemory file only m = tt
