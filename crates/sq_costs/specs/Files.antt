-- Which costs a text stands for, and every fault of a cost file.
use Rattle.std.specs.Prelude.{◌≡◌, ℕ, List, map, Some, None, Result, Ok, Err}
use Rattle.sq_text.specs.declared.code.Phase.TheVariants as phase
use Rattle.sq_text.specs.declared.fault.Fault.{Fault}
use Rattle.sq_text.specs.declared.fault.Stop.{Stop}
use Rattle.sq_text.specs.declared.fault.Stop.TheVariants.{Refused, NoMemory}
use Rattle.sq_text.specs.First.{InTurn}
use Rattle.sq_text.specs.Faults.{IsFirst}
use Rattle.sq_lexer.specs.declared.token.Token.{Token}
use Rattle.sq_lexer.specs.Tokens.{AreTokens}
use Rattle.sq_lexer.specs.Faults.{FitsFile, HasFault}
use Rattle.sq_patterns.specs.Texts as texts
use Rattle.sq_machfile.specs.declared.level.Level.{Level}
use Rattle.sq_costs.specs.declared.cost.Cost.{Cost}
use Rattle.sq_costs.specs.declared.text.EntryText.{EntryText}
use Rattle.sq_costs.specs.declared.text.CostText.{CostText}
use Rattle.sq_costs.specs.Grammar.{IsText}
use Rattle.sq_costs.specs.Rules.{RuleFault}

abbrev pub cost_of : EntryText → Cost
cost_of e = record { row = e.row.value; byte = e.byte.value; leaf = e.leaf.value }

-- the text, which is no longer than a cost file may be, is written by the grammar as this
pub record Writes (text : List ℕ) (written : CostText) : Type 0 where
  pub tokens : List Token
  pub tokens_of : AreTokens text tokens
  pub fits : FitsFile phase.Cost text
  pub grammar : IsText tokens written

-- the first token with which no text of the grammar begins
abbrev pub IsSyntaxFault : List Token → Fault → Type 0
IsSyntaxFault = texts.IsSyntaxFault IsText phase.Cost

pub record SyntaxFault (text : List ℕ) (f : Fault) : Type 0 where
  pub tokens : List Token
  pub tokens_of : AreTokens text tokens
  pub faulty : IsSyntaxFault tokens f

-- a rule is broken
pub record BrokenRule (text : List ℕ) (levels : List Level) (f : Fault) : Type 0 where
  pub written : CostText
  pub writes : Writes text written
  pub broken : RuleFault levels written f

-- Every fault of a cost file: of the file and its tokens; where there is none, of the grammar; and where there is none,
-- of the rules.
abbrev pub CostFault : List ℕ → List Level → Fault → Type 0
CostFault text levels = InTurn (HasFault phase.Cost text) (InTurn (SyntaxFault text) (BrokenRule text levels))

-- the text stands for these costs of a machine's levels: it breaks no rule, and they are its entries' numbers
pub record StandsFor (text : List ℕ) (levels : List Level) (costs : List Cost) : Type 0 where
  pub written : CostText
  pub writes : Writes text written
  pub faultless : IsFirst (RuleFault levels written) None
  pub is : costs ≡ map cost_of written.entries

-- what is answered where a file is written as this: its costs, where no rule is broken; else the first fault; or memory
-- ran out
abbrev pub AnswersRules : List Level → CostText → Result (List Cost) Stop → Type 0
AnswersRules levels written (Ok costs) = IsFirst (RuleFault levels written) None × (costs ≡ map cost_of written.entries)
AnswersRules levels written (Err (Refused f)) = IsFirst (RuleFault levels written) (Some f)
AnswersRules levels written (Err NoMemory) = Unit {0}
