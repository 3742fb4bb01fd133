-- The first fault of tokens that end with their end.
use Rattle.std.proofs.Common.{◌≡◌, ◌≢◌, ℕ, zero, suc, ◌-◌, ◌<◌, List, [], ◌∷◌, length, Some, Ok, Err, refl, ap, subst, arith, inl, inr}
use Rattle.std.specs.Prelude.{slice_get}
use Rattle.sq_lexer.specs.declared.token.Token.{Token}
use Rattle.sq_lexer.specs.Tokens.{HasEnd}
use Rattle.sq_ast.specs.Symbols.{Symbol, symbols, symbol_in}
use Rattle.sq_ast.specs.declared.program.Program.{Program}
use Rattle.sq_text.specs.declared.code.Code.{Code}
use Rattle.sq_text.specs.declared.fault.Fault.{Fault}
use Rattle.sq_text.specs.declared.code.Phase.TheVariants as phase
use Rattle.sq_text.specs.declared.code.Code.TheVariants as code
use Rattle.sq_text.specs.Answers.{IfRefused, Gives, Refuses}
use Rattle.sq_reader.specs.declared.error.ParseError.{ParseError}
use Rattle.sq_reader.specs.declared.error.ParseError.TheVariants.{OutOfMemory, Syntax, TooDeep}
use Rattle.sq_reader.specs.Reading.{program}
use Rattle.sq_ast.specs.Grammar.{most_levels}
use Rattle.sq_parser.specs.Programs.{IsProgram, IsAt, HasFault, place_of, stop_of}
use Rattle.sq_reader.proofs.Lengths.{length_symbols}
use Rattle.sq_parser.proofs.Unique.{one_fault, no_fault}
use Rattle.sq_reader.proofs.Places.{HasFront, SyntaxIn, TooDeepIn, syntax_at, deep_at, stands, one_program, no_error}

pub front_of : (ts : List Token) → HasEnd ts → HasFront (symbols ts)
front_of [] h = absurd h
front_of (t ∷ []) h = ([], t.place, ap (λ k. symbol_in t.place k ∷ []) h)
front_of (t ∷ u ∷ ts) h = let r = front_of (u ∷ ts) h.1 in (symbol_in t.place t.kind ∷ r.0, r.1, ap (λ ts. symbol_in t.place t.kind ∷ ts) r.2)

token_at : (ts : List Token) (i : ℕ) → i < length ts → (t : Token) × (slice_get ts i ≡ Some t)
token_at [] i lt = absurd (omega arith)
token_at (t ∷ ts) zero lt = (t, refl)
token_at (t ∷ ts) (suc i) lt = token_at ts i (omega arith)

is_at : (a : Code) (ts : List Token) (n : ℕ) → length ts - n < length ts
    → IsAt a ts (length ts - n) (record { phase = phase.Program; code = a; place = place_of (slice_get ts (length ts - n)); args = [] })
is_at a ts n lt = let h = token_at ts (length ts - n) lt in (h.0, h.1, ap (λ o. record { phase = phase.Program; code = a; place = place_of o; args = [] }) h.1)

pub refusal : (ts : List Token) (e : ParseError) → HasEnd ts → (e ≢ OutOfMemory → program most_levels (symbols ts) ≡ Err e) → IfRefused {A = Program} (Err (stop_of ts e)) (λ f. HasFault ts f)
refusal ts OutOfMemory end h = tt
refusal ts (Syntax n) end h =
    let found : SyntaxIn most_levels (symbols ts) (length ts - n) = subst (λ m. SyntaxIn most_levels (symbols ts) (m - n)) (length_symbols ts) (syntax_at most_levels (symbols ts) n (front_of ts end) (h (λ q. cc))) in
    inl (length ts - n, found.1, is_at code.Syntax ts n (omega (arith, found.0, length_symbols ts)))
refusal ts (TooDeep n) end h =
    let found : TooDeepIn most_levels (symbols ts) (length ts - n) = subst (λ m. TooDeepIn most_levels (symbols ts) (m - n)) (length_symbols ts) (deep_at most_levels (symbols ts) n (h (λ q. cc))) in
    inr (length ts - n, found.1, is_at code.TooDeep ts n (omega (arith, found.0, length_symbols ts)))

pub only_memory : (ts : List Token) (p : Program) (e : ParseError) → IsProgram ts p → (e ≢ OutOfMemory → program most_levels (symbols ts) ≡ Err e) → Gives {A = Program} (Err (stop_of ts e)) p
only_memory ts p OutOfMemory s h = tt
only_memory ts p (Syntax n) s h = no_error most_levels (symbols ts) p (Syntax n) s (h (λ q. cc))
only_memory ts p (TooDeep n) s h = no_error most_levels (symbols ts) p (TooDeep n) s (h (λ q. cc))

pub found : (ts : List Token) (p : Program) (l : List Symbol) → program most_levels (symbols ts) ≡ Ok (p, l) → IsProgram ts p
found ts p l e = stands most_levels (symbols ts) p l e

pub only : (ts : List Token) (p q : Program) (l : List Symbol) → program most_levels (symbols ts) ≡ Ok (q, l) → IsProgram ts p → q ≡ p
only ts p q l e s = one_program most_levels (symbols ts) p q l s e

pub refuses : (ts : List Token) (e : ParseError) (g : Fault) → HasEnd ts → (e ≢ OutOfMemory → program most_levels (symbols ts) ≡ Err e) → HasFault ts g → Refuses {A = Program} (Err (stop_of ts e)) g
refuses ts OutOfMemory g end h f = tt
refuses ts (Syntax n) g end h f = one_fault ts _ g (refusal ts (Syntax n) end h) f
refuses ts (TooDeep n) g end h f = one_fault ts _ g (refusal ts (TooDeep n) end h) f

pub none_refused : (ts : List Token) (p : Program) (g : Fault) (l : List Symbol) → program most_levels (symbols ts) ≡ Ok (p, l) → HasFault ts g → Refuses {A = Program} (Ok p) g
none_refused ts p g l e f = no_fault ts p g (found ts p l e) f
