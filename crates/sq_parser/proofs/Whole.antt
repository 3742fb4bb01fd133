-- Tokens with their end stand for one program, or have one fault.
use Rattle.std.proofs.Common.{◌≡◌, ℕ, Bool, true, false, if◌then◌else◌, leb, List, [], ◌∷◌, length, Option, Some, None, Ok, Err, refl, ◌∙◌, ap, ◌⊎◌, inl, inr}
use Rattle.sq_text.specs.declared.fault.Fault.{Fault}
use Rattle.sq_lexer.specs.declared.token.Token.{Token}
use Rattle.sq_lexer.specs.Tokens.{HasEnd}
use Rattle.sq_ast.specs.declared.program.Program.{Program}
use Rattle.sq_ast.specs.Symbols.{Symbol, Last, symbols}
use Rattle.sq_reader.specs.declared.error.ParseError.TheVariants.{OutOfMemory, Syntax, TooDeep}
use Rattle.sq_reader.specs.Reading.{Outcome, nowhere, program}
use Rattle.sq_ast.specs.Grammar.{most_levels}
use Rattle.sq_parser.specs.Programs.{IsProgram, HasFault}
use Rattle.sq_reader.proofs.Machine.{Owed, Move, Eat, Skip, Stop, at_end, step, settle, ended, Verdict, found, run, start}
use Rattle.sq_reader.proofs.Places.{resume, program_follows, only, one_program}
use Rattle.sq_parser.proofs.Faults.{refusal, found as found_program}

end_memory : (m : Move) (v : Verdict) → (v ≡ Err OutOfMemory → ⊥) → at_end m v ≡ Err OutOfMemory → ⊥
end_memory (Eat d f) v h e = cc
end_memory Skip v h e = h e
end_memory Stop v h e = cc

ended_memory : (K : List Owed) → ended K ≡ Err OutOfMemory → ⊥
ended_memory [] e = cc
ended_memory (o ∷ K) e = end_memory (step o (Last nowhere)) (ended K) (ended_memory K) e

module _ (most : ℕ) where
  leb_memory : (b : Bool) (t : Symbol) (ts : List Symbol) (L : List Owed) → (run most ts L ≡ Err OutOfMemory → ⊥)
      → (if b then run most ts L else Err (TooDeep (length (t ∷ ts)))) ≡ Err OutOfMemory → ⊥
  leb_memory true t ts L again v = again v
  leb_memory false t ts L again v = cc

  found_memory : (o : Option (ℕ × List Owed)) (t : Symbol) (ts : List Symbol) → ((L : List Owed) → run most ts L ≡ Err OutOfMemory → ⊥)
      → found most o (length (t ∷ ts)) (run most ts) ≡ Err OutOfMemory → ⊥
  found_memory None t ts again v = cc
  found_memory (Some p) t ts again v = leb_memory (leb p.0 most) t ts p.1 (again p.1) v

  run_memory : (ts : List Symbol) (K : List Owed) → run most ts K ≡ Err OutOfMemory → ⊥
  run_memory [] K e = ended_memory K e
  run_memory (t ∷ ts) K e = found_memory (settle K t) t ts (λ L v. run_memory ts L v) e

pub whole : (ts : List Token) → HasEnd ts → ((p : Program) × IsProgram ts p) ⊎ ((f : Fault) × HasFault ts f)
whole ts end = by_case (program most_levels (symbols ts)) refl
  where
    by_case : (r : Outcome Program) → program most_levels (symbols ts) ≡ r → ((p : Program) × IsProgram ts p) ⊎ ((f : Fault) × HasFault ts f)
    by_case (Ok p) e = inl (p.0, found_program ts p.0 p.1 e)
    by_case (Err OutOfMemory) e = absurd (run_memory most_levels (symbols ts) start (program_follows most_levels (symbols ts) ∙ ap (λ r. resume most_levels r []) e))
    by_case (Err (Syntax n)) e = inr (_, refusal ts (Syntax n) end (λ none. e))
    by_case (Err (TooDeep n)) e = inr (_, refusal ts (TooDeep n) end (λ none. e))

pub same_program : (ts : List Token) (p q : Program) → IsProgram ts p → IsProgram ts q → p ≡ q
same_program ts p q s t = one_program most_levels (symbols ts) q p [] t (only most_levels (symbols ts) p s)
