-- What the parts of reading come to for the tokens.
use Rattle.std.proofs.Common.{List, Ok, Err, Result, subst, inl, inr}
use Rattle.sq_text.specs.declared.fault.Stop.{Stop}
use Rattle.sq_text.specs.declared.fault.Stop.TheVariants.{Refused, NoMemory}
use Rattle.sq_text.specs.Answers.{IfRefused}
use Rattle.sq_lexer.specs.declared.token.Token.{Token}
use Rattle.sq_ir.specs.declared.plan.Leaf.{Leaf}
use Rattle.sq_plantext.specs.declared.text.PlanText.{PlanText}
use Rattle.sq_plantext.specs.Faults.{SyntaxFault}
use Rattle.sq_plantext.specs.Grammar.{StandsFor, most_levels}
use Rattle.sq_planread.proofs.Whole.{stands_for_one}
use Rattle.sq_planheads.specs.Heads.{Compiles}
use Rattle.sq_planheads.proofs.HeadsTell.{first_of_heads}
use Rattle.sq_planfile.specs.File.{PlanFile}
use Rattle.sq_planfile.specs.Faults.{Writes}
use Rattle.sq_planload.specs.Loading.{AreOfText, AnswersLines, AnswersTokens}

module _ (ts : List Token) where
  pub writes : (read : AreOfText ts) (x : PlanText) → StandsFor most_levels ts x → Writes read.text x
  writes read x s = record { tokens = ts; tokens_of = read.tokens_of; fits = read.fits; grammar = s }

  pub syntax_ends : (stop : Stop) → IfRefused {A = PlanText} (Err stop) (λ f. SyntaxFault ts f) → AnswersTokens ts (Err stop)
  syntax_ends (Refused f) h = inl h
  syntax_ends NoMemory h = tt

  pub heads_end : (x : PlanText) → StandsFor most_levels ts x → (stop : Stop) → Compiles x (Err stop) → AnswersTokens ts (Err stop)
  heads_end x s (Refused f) h = inr (record { lines = x; stands = s; answers = first_of_heads x f h })
  heads_end x s NoMemory h = tt

  pub lines_end : (x : PlanText) → StandsFor most_levels ts x → (r : Result PlanFile Stop) → AnswersLines x r → AnswersTokens ts r
  lines_end x s (Ok file) h = record { lines = x; stands = s; answers = h }
  lines_end x s (Err (Refused f)) h = inr (record { lines = x; stands = s; answers = h })
  lines_end x s (Err NoMemory) h = tt

  -- what was read again is the same
  pub heads_again : (x y : PlanText) → StandsFor most_levels ts x → StandsFor most_levels ts y → (leaves : List Leaf) → Compiles x (Ok leaves) → Compiles y (Ok leaves)
  heads_again x y s t leaves h = subst (λ z. Compiles z (Ok leaves)) (stands_for_one ts x y s t) h
