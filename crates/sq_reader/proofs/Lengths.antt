-- Each token is one symbol.
use Rattle.std.proofs.Common.{◌≡◌, List, [], ◌∷◌, length, refl, arith}
use Rattle.sq_lexer.specs.declared.token.Token.{Token}
use Rattle.sq_ast.specs.Symbols.{symbols}

pub length_symbols : (ts : List Token) → length (symbols ts) ≡ length ts
length_symbols [] = refl
length_symbols (t ∷ ts) = omega (arith, length_symbols ts)
