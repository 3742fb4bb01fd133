-- What reading a program answers.
use Rattle.std.specs.Prelude.{◌≡◌, ℕ, ◌-◌, List, [], length, Option, Some, None, slice_get, ◌⊎◌}
use Rattle.sq_text.specs.declared.place.Place.{Place}
use Rattle.sq_text.specs.declared.fault.Fault.{Fault}
use Rattle.sq_text.specs.declared.fault.Stop.{Stop}
use Rattle.sq_text.specs.declared.fault.Stop.TheVariants.{Refused, NoMemory}
use Rattle.sq_text.specs.declared.code.Phase.TheVariants as phase
use Rattle.sq_text.specs.declared.code.Code.{Code}
use Rattle.sq_text.specs.declared.code.Code.TheVariants.{Syntax, TooDeep}
use Rattle.sq_lexer.specs.declared.token.Token.{Token}
use Rattle.sq_ast.specs.declared.program.Program.{Program}
use Rattle.sq_ast.specs.Symbols.{symbols}
use Rattle.sq_ast.specs.Grammar as grammar
use Rattle.sq_ast.specs.Grammar.{most_levels}
use Rattle.sq_reader.specs.declared.error.ParseError.{ParseError}
use Rattle.sq_reader.specs.declared.error.ParseError.TheVariants as error

-- the tokens stand for this program
abbrev pub IsProgram : List Token → Program → Type 0
IsProgram ts p = grammar.StandsFor most_levels (symbols ts) p

-- the fault with this code, at the place of the token with this index
abbrev pub IsAt : Code → List Token → ℕ → Fault → Type 0
IsAt code ts i f = (t : Token) × (slice_get ts i ≡ Some t) × (f ≡ record { phase = phase.Program; code = code; place = Some t.place; args = [] })

-- The first fault of tokens that stand for no program: the first with which no text begins, or the first that is
-- allowed and opens a level too many.
abbrev pub HasFault : List Token → Fault → Type 0
HasFault ts f = ((i : ℕ) × grammar.SyntaxAt most_levels (symbols ts) i × IsAt Syntax ts i f) ⊎ ((i : ℕ) × grammar.TooDeepAt most_levels (symbols ts) i × IsAt TooDeep ts i f)

-- ---- what the parser's errors tell; no public clause speaks of it

abbrev pub place_of : Option Token → Option Place
place_of (Some t) = Some t.place
place_of None = None

abbrev pub refused : List Token → Code → ℕ → Stop
refused ts code left = Refused (record { phase = phase.Program; code = code; place = place_of (slice_get ts (length ts - left)); args = [] })

abbrev pub stop_of : List Token → ParseError → Stop
stop_of ts error.OutOfMemory = NoMemory
stop_of ts (error.Syntax left) = refused ts Syntax left
stop_of ts (error.TooDeep left) = refused ts TooDeep left
