-- The laws of tokens, programs and arrays that those of the demo take.
use Rattle.std.proofs.Common.{◌≡◌, ℕ, ℤ, false, List, Ok}
use Rattle.std.specs.List.{All, AllZip}
use Rattle.sq_text.specs.declared.code.Code.{Code}
use Rattle.sq_text.specs.declared.fault.Fault.{Fault}
use Rattle.sq_text.specs.declared.place.Place.{Place}
use Rattle.sq_text.specs.Places.{start}
use Rattle.sq_lexer.specs.declared.token.Token.{Token}
use Rattle.sq_lexer.specs.Faults.{BreaksFrom}
use Rattle.sq_lexer.specs.Tokens.{AreTokens}
use Rattle.sq_ast.specs.declared.program.Program.{Program}
use Rattle.sq_parser.specs.Programs as parsing
use Rattle.sq_arrays.specs.Arrays.{Wanted, arrays_of, AreValuesOf}
use Rattle.sq_arrays.specs.Words.{is_over}
use Rattle.sq_arrays.specs.Written.{arrays_text, HasHead}

-- a text has one list of tokens, and doesn't break where it has one
abbrev pub OneList : Type 0
OneList = (text : List ℕ) (ts us : List Token) → AreTokens text ts → AreTokens text us → ts ≡ us

abbrev pub NeverBoth : Type 0
NeverBoth = (text : List ℕ) (ts : List Token) (c : Code) (place : Place) → AreTokens text ts
    → BreaksFrom start text c place → ⊥

-- tokens stand for one program, and have no fault where they stand for one
abbrev pub OneProgram : Type 0
OneProgram = (ts : List Token) (p q : Program) → parsing.IsProgram ts p → parsing.IsProgram ts q → p ≡ q

abbrev pub NeverMisread : Type 0
NeverMisread = (ts : List Token) (p : Program) (f : Fault) → parsing.IsProgram ts p → parsing.HasFault ts f → ⊥

-- what is written of arrays reads back
abbrev pub WrittenReadBack : Type 0
WrittenReadBack = (ws : List Wanted) (vss : List (List ℤ)) → All HasHead ws → AllZip AreValuesOf ws vss
    → is_over (arrays_text ws vss) ≡ false → arrays_of ws (arrays_text ws vss) ≡ Ok vss
