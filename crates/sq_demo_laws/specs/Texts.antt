-- The tokens of the demo's texts.
use Rattle.std.specs.Prelude.{ℕ, pos, List, [], ◌∷◌, codes}
use Rattle.sq_text.specs.declared.place.Place.{Place}
use Rattle.sq_lexer.specs.declared.token.Kind.TheVariants as kind
use Rattle.sq_lexer.specs.declared.token.Sign.TheVariants as sign
use Rattle.sq_lexer.specs.declared.token.Token.{Token}
use Rattle.sq_lexer.specs.Tokens.{token}

abbrev pub at : (line col : ℕ) → Place
at line col = record { line = line; col = col }

unfoldable pub program_tokens : List Token
program_tokens =
    token (kind.Word (codes "void")) (at 1 1) ∷ token (kind.Word (codes "task")) (at 1 6) ∷
    token (kind.Word (codes "matmul")) (at 1 11) ∷ token (kind.Sign sign.Path) (at 1 17) ∷
    token (kind.Word (codes "inner")) (at 1 19) ∷ token (kind.Sign sign.ParenOpen) (at 1 24) ∷
    token (kind.Word (codes "in")) (at 1 25) ∷ token (kind.Word (codes "int")) (at 1 28) ∷
    token (kind.Word (codes "A")) (at 1 32) ∷ token (kind.Sign sign.BracketOpen) (at 1 33) ∷
    token (kind.Word (codes "M")) (at 1 34) ∷ token (kind.Sign sign.BracketClose) (at 1 35) ∷
    token (kind.Sign sign.BracketOpen) (at 1 36) ∷ token (kind.Word (codes "P")) (at 1 37) ∷
    token (kind.Sign sign.BracketClose) (at 1 38) ∷ token (kind.Sign sign.Comma) (at 1 39) ∷
    token (kind.Word (codes "in")) (at 1 41) ∷ token (kind.Word (codes "int")) (at 1 44) ∷
    token (kind.Word (codes "B")) (at 1 48) ∷ token (kind.Sign sign.BracketOpen) (at 1 49) ∷
    token (kind.Word (codes "P")) (at 1 50) ∷ token (kind.Sign sign.BracketClose) (at 1 51) ∷
    token (kind.Sign sign.BracketOpen) (at 1 52) ∷ token (kind.Word (codes "N")) (at 1 53) ∷
    token (kind.Sign sign.BracketClose) (at 1 54) ∷ token (kind.Sign sign.Comma) (at 1 55) ∷
    token (kind.Word (codes "inout")) (at 1 57) ∷ token (kind.Word (codes "int")) (at 1 63) ∷
    token (kind.Word (codes "C")) (at 1 67) ∷ token (kind.Sign sign.BracketOpen) (at 1 68) ∷
    token (kind.Word (codes "M")) (at 1 69) ∷ token (kind.Sign sign.BracketClose) (at 1 70) ∷
    token (kind.Sign sign.BracketOpen) (at 1 71) ∷ token (kind.Word (codes "N")) (at 1 72) ∷
    token (kind.Sign sign.BracketClose) (at 1 73) ∷ token (kind.Sign sign.ParenClose) (at 1 74) ∷
    token (kind.Sign sign.BraceOpen) (at 1 76) ∷ token (kind.Word (codes "tunable")) (at 2 3) ∷
    token (kind.Word (codes "int")) (at 2 11) ∷ token (kind.Word (codes "U")) (at 2 15) ∷
    token (kind.Sign sign.Semi) (at 2 16) ∷ token (kind.Word (codes "tunable")) (at 3 3) ∷
    token (kind.Word (codes "int")) (at 3 11) ∷ token (kind.Word (codes "X")) (at 3 15) ∷
    token (kind.Sign sign.Semi) (at 3 16) ∷ token (kind.Word (codes "tunable")) (at 4 3) ∷
    token (kind.Word (codes "int")) (at 4 11) ∷ token (kind.Word (codes "V")) (at 4 15) ∷
    token (kind.Sign sign.Semi) (at 4 16) ∷ token (kind.Word (codes "blkset")) (at 5 3) ∷
    token (kind.Word (codes "Ab")) (at 5 10) ∷ token (kind.Sign sign.Set) (at 5 13) ∷
    token (kind.Word (codes "rchop")) (at 5 15) ∷ token (kind.Sign sign.ParenOpen) (at 5 20) ∷
    token (kind.Word (codes "A")) (at 5 21) ∷ token (kind.Sign sign.Comma) (at 5 22) ∷
    token (kind.Word (codes "U")) (at 5 24) ∷ token (kind.Sign sign.Comma) (at 5 25) ∷
    token (kind.Word (codes "X")) (at 5 27) ∷ token (kind.Sign sign.ParenClose) (at 5 28) ∷
    token (kind.Sign sign.Semi) (at 5 29) ∷ token (kind.Word (codes "blkset")) (at 6 3) ∷
    token (kind.Word (codes "Bb")) (at 6 10) ∷ token (kind.Sign sign.Set) (at 6 13) ∷
    token (kind.Word (codes "rchop")) (at 6 15) ∷ token (kind.Sign sign.ParenOpen) (at 6 20) ∷
    token (kind.Word (codes "B")) (at 6 21) ∷ token (kind.Sign sign.Comma) (at 6 22) ∷
    token (kind.Word (codes "X")) (at 6 24) ∷ token (kind.Sign sign.Comma) (at 6 25) ∷
    token (kind.Word (codes "V")) (at 6 27) ∷ token (kind.Sign sign.ParenClose) (at 6 28) ∷
    token (kind.Sign sign.Semi) (at 6 29) ∷ token (kind.Word (codes "blkset")) (at 7 3) ∷
    token (kind.Word (codes "Cb")) (at 7 10) ∷ token (kind.Sign sign.Set) (at 7 13) ∷
    token (kind.Word (codes "rchop")) (at 7 15) ∷ token (kind.Sign sign.ParenOpen) (at 7 20) ∷
    token (kind.Word (codes "C")) (at 7 21) ∷ token (kind.Sign sign.Comma) (at 7 22) ∷
    token (kind.Word (codes "U")) (at 7 24) ∷ token (kind.Sign sign.Comma) (at 7 25) ∷
    token (kind.Word (codes "V")) (at 7 27) ∷ token (kind.Sign sign.ParenClose) (at 7 28) ∷
    token (kind.Sign sign.Semi) (at 7 29) ∷ token (kind.Word (codes "mappar")) (at 8 3) ∷
    token (kind.Sign sign.ParenOpen) (at 8 10) ∷ token (kind.Word (codes "int")) (at 8 11) ∷
    token (kind.Word (codes "i")) (at 8 15) ∷ token (kind.Sign sign.Set) (at 8 17) ∷
    token (kind.Number (pos 0)) (at 8 19) ∷ token (kind.Word (codes "to")) (at 8 21) ∷
    token (kind.Word (codes "M")) (at 8 24) ∷ token (kind.Sign sign.Slash) (at 8 25) ∷
    token (kind.Word (codes "U")) (at 8 26) ∷ token (kind.Sign sign.Comma) (at 8 27) ∷
    token (kind.Word (codes "int")) (at 8 29) ∷ token (kind.Word (codes "j")) (at 8 33) ∷
    token (kind.Sign sign.Set) (at 8 35) ∷ token (kind.Number (pos 0)) (at 8 37) ∷
    token (kind.Word (codes "to")) (at 8 39) ∷ token (kind.Word (codes "N")) (at 8 42) ∷
    token (kind.Sign sign.Slash) (at 8 43) ∷ token (kind.Word (codes "V")) (at 8 44) ∷
    token (kind.Sign sign.ParenClose) (at 8 45) ∷ token (kind.Sign sign.BraceOpen) (at 8 47) ∷
    token (kind.Word (codes "mapseq")) (at 9 5) ∷ token (kind.Sign sign.ParenOpen) (at 9 12) ∷
    token (kind.Word (codes "int")) (at 9 13) ∷ token (kind.Word (codes "k")) (at 9 17) ∷
    token (kind.Sign sign.Set) (at 9 19) ∷ token (kind.Number (pos 0)) (at 9 21) ∷
    token (kind.Word (codes "to")) (at 9 23) ∷ token (kind.Word (codes "P")) (at 9 26) ∷
    token (kind.Sign sign.Slash) (at 9 27) ∷ token (kind.Word (codes "X")) (at 9 28) ∷
    token (kind.Sign sign.ParenClose) (at 9 29) ∷ token (kind.Sign sign.BraceOpen) (at 9 31) ∷
    token (kind.Word (codes "matmul")) (at 10 7) ∷ token (kind.Sign sign.ParenOpen) (at 10 13) ∷
    token (kind.Word (codes "Ab")) (at 10 14) ∷ token (kind.Sign sign.BracketOpen) (at 10 16) ∷
    token (kind.Word (codes "i")) (at 10 17) ∷ token (kind.Sign sign.BracketClose) (at 10 18) ∷
    token (kind.Sign sign.BracketOpen) (at 10 19) ∷ token (kind.Word (codes "k")) (at 10 20) ∷
    token (kind.Sign sign.BracketClose) (at 10 21) ∷ token (kind.Sign sign.Comma) (at 10 22) ∷
    token (kind.Word (codes "Bb")) (at 10 24) ∷ token (kind.Sign sign.BracketOpen) (at 10 26) ∷
    token (kind.Word (codes "k")) (at 10 27) ∷ token (kind.Sign sign.BracketClose) (at 10 28) ∷
    token (kind.Sign sign.BracketOpen) (at 10 29) ∷ token (kind.Word (codes "j")) (at 10 30) ∷
    token (kind.Sign sign.BracketClose) (at 10 31) ∷ token (kind.Sign sign.Comma) (at 10 32) ∷
    token (kind.Word (codes "Cb")) (at 10 34) ∷ token (kind.Sign sign.BracketOpen) (at 10 36) ∷
    token (kind.Word (codes "i")) (at 10 37) ∷ token (kind.Sign sign.BracketClose) (at 10 38) ∷
    token (kind.Sign sign.BracketOpen) (at 10 39) ∷ token (kind.Word (codes "j")) (at 10 40) ∷
    token (kind.Sign sign.BracketClose) (at 10 41) ∷ token (kind.Sign sign.ParenClose) (at 10 42) ∷
    token (kind.Sign sign.Semi) (at 10 43) ∷ token (kind.Sign sign.BraceClose) (at 11 5) ∷
    token (kind.Sign sign.BraceClose) (at 12 3) ∷ token (kind.Sign sign.BraceClose) (at 13 1) ∷
    token (kind.Word (codes "void")) (at 14 1) ∷ token (kind.Word (codes "task")) (at 14 6) ∷
    token (kind.Word (codes "matmul")) (at 14 11) ∷ token (kind.Sign sign.Path) (at 14 17) ∷
    token (kind.Word (codes "leaf")) (at 14 19) ∷ token (kind.Sign sign.ParenOpen) (at 14 23) ∷
    token (kind.Word (codes "in")) (at 14 24) ∷ token (kind.Word (codes "int")) (at 14 27) ∷
    token (kind.Word (codes "A")) (at 14 31) ∷ token (kind.Sign sign.BracketOpen) (at 14 32) ∷
    token (kind.Word (codes "M")) (at 14 33) ∷ token (kind.Sign sign.BracketClose) (at 14 34) ∷
    token (kind.Sign sign.BracketOpen) (at 14 35) ∷ token (kind.Word (codes "P")) (at 14 36) ∷
    token (kind.Sign sign.BracketClose) (at 14 37) ∷ token (kind.Sign sign.Comma) (at 14 38) ∷
    token (kind.Word (codes "in")) (at 14 40) ∷ token (kind.Word (codes "int")) (at 14 43) ∷
    token (kind.Word (codes "B")) (at 14 47) ∷ token (kind.Sign sign.BracketOpen) (at 14 48) ∷
    token (kind.Word (codes "P")) (at 14 49) ∷ token (kind.Sign sign.BracketClose) (at 14 50) ∷
    token (kind.Sign sign.BracketOpen) (at 14 51) ∷ token (kind.Word (codes "N")) (at 14 52) ∷
    token (kind.Sign sign.BracketClose) (at 14 53) ∷ token (kind.Sign sign.Comma) (at 14 54) ∷
    token (kind.Word (codes "inout")) (at 14 56) ∷ token (kind.Word (codes "int")) (at 14 62) ∷
    token (kind.Word (codes "C")) (at 14 66) ∷ token (kind.Sign sign.BracketOpen) (at 14 67) ∷
    token (kind.Word (codes "M")) (at 14 68) ∷ token (kind.Sign sign.BracketClose) (at 14 69) ∷
    token (kind.Sign sign.BracketOpen) (at 14 70) ∷ token (kind.Word (codes "N")) (at 14 71) ∷
    token (kind.Sign sign.BracketClose) (at 14 72) ∷ token (kind.Sign sign.ParenClose) (at 14 73) ∷
    token (kind.Sign sign.BraceOpen) (at 14 75) ∷ token (kind.Word (codes "for")) (at 15 3) ∷
    token (kind.Sign sign.ParenOpen) (at 15 7) ∷ token (kind.Word (codes "int")) (at 15 8) ∷
    token (kind.Word (codes "i")) (at 15 12) ∷ token (kind.Sign sign.Set) (at 15 14) ∷
    token (kind.Number (pos 0)) (at 15 16) ∷ token (kind.Sign sign.Semi) (at 15 17) ∷
    token (kind.Word (codes "i")) (at 15 19) ∷ token (kind.Sign sign.Less) (at 15 21) ∷
    token (kind.Word (codes "M")) (at 15 23) ∷ token (kind.Sign sign.Semi) (at 15 24) ∷
    token (kind.Word (codes "i")) (at 15 26) ∷ token (kind.Sign sign.PlusPlus) (at 15 27) ∷
    token (kind.Sign sign.ParenClose) (at 15 29) ∷ token (kind.Word (codes "for")) (at 16 5) ∷
    token (kind.Sign sign.ParenOpen) (at 16 9) ∷ token (kind.Word (codes "int")) (at 16 10) ∷
    token (kind.Word (codes "j")) (at 16 14) ∷ token (kind.Sign sign.Set) (at 16 16) ∷
    token (kind.Number (pos 0)) (at 16 18) ∷ token (kind.Sign sign.Semi) (at 16 19) ∷
    token (kind.Word (codes "j")) (at 16 21) ∷ token (kind.Sign sign.Less) (at 16 23) ∷
    token (kind.Word (codes "N")) (at 16 25) ∷ token (kind.Sign sign.Semi) (at 16 26) ∷
    token (kind.Word (codes "j")) (at 16 28) ∷ token (kind.Sign sign.PlusPlus) (at 16 29) ∷
    token (kind.Sign sign.ParenClose) (at 16 31) ∷ token (kind.Word (codes "for")) (at 17 7) ∷
    token (kind.Sign sign.ParenOpen) (at 17 11) ∷ token (kind.Word (codes "int")) (at 17 12) ∷
    token (kind.Word (codes "k")) (at 17 16) ∷ token (kind.Sign sign.Set) (at 17 18) ∷
    token (kind.Number (pos 0)) (at 17 20) ∷ token (kind.Sign sign.Semi) (at 17 21) ∷
    token (kind.Word (codes "k")) (at 17 23) ∷ token (kind.Sign sign.Less) (at 17 25) ∷
    token (kind.Word (codes "P")) (at 17 27) ∷ token (kind.Sign sign.Semi) (at 17 28) ∷
    token (kind.Word (codes "k")) (at 17 30) ∷ token (kind.Sign sign.PlusPlus) (at 17 31) ∷
    token (kind.Sign sign.ParenClose) (at 17 33) ∷ token (kind.Word (codes "C")) (at 18 9) ∷
    token (kind.Sign sign.BracketOpen) (at 18 10) ∷ token (kind.Word (codes "i")) (at 18 11) ∷
    token (kind.Sign sign.BracketClose) (at 18 12) ∷ token (kind.Sign sign.BracketOpen) (at 18 13) ∷
    token (kind.Word (codes "j")) (at 18 14) ∷ token (kind.Sign sign.BracketClose) (at 18 15) ∷
    token (kind.Sign sign.PlusSet) (at 18 17) ∷ token (kind.Word (codes "A")) (at 18 20) ∷
    token (kind.Sign sign.BracketOpen) (at 18 21) ∷ token (kind.Word (codes "i")) (at 18 22) ∷
    token (kind.Sign sign.BracketClose) (at 18 23) ∷ token (kind.Sign sign.BracketOpen) (at 18 24) ∷
    token (kind.Word (codes "k")) (at 18 25) ∷ token (kind.Sign sign.BracketClose) (at 18 26) ∷
    token (kind.Sign sign.Star) (at 18 28) ∷ token (kind.Word (codes "B")) (at 18 30) ∷
    token (kind.Sign sign.BracketOpen) (at 18 31) ∷ token (kind.Word (codes "k")) (at 18 32) ∷
    token (kind.Sign sign.BracketClose) (at 18 33) ∷ token (kind.Sign sign.BracketOpen) (at 18 34) ∷
    token (kind.Word (codes "j")) (at 18 35) ∷ token (kind.Sign sign.BracketClose) (at 18 36) ∷
    token (kind.Sign sign.Semi) (at 18 37) ∷ token (kind.Sign sign.BraceClose) (at 19 1) ∷
    token kind.End (at 20 1) ∷ []

unfoldable pub mapping_tokens : List Token
mapping_tokens =
    token (kind.Word (codes "mapping")) (at 1 1) ∷ token (kind.Number (pos 1)) (at 1 9) ∷
    token (kind.Sign sign.Semi) (at 1 10) ∷ token (kind.Word (codes "entry")) (at 2 1) ∷
    token (kind.Word (codes "top")) (at 2 7) ∷ token (kind.Sign sign.ParenOpen) (at 2 10) ∷
    token (kind.Word (codes "M")) (at 2 11) ∷ token (kind.Sign sign.Set) (at 2 13) ∷
    token (kind.Number (pos 128)) (at 2 15) ∷ token (kind.Sign sign.Comma) (at 2 18) ∷
    token (kind.Word (codes "N")) (at 2 20) ∷ token (kind.Sign sign.Set) (at 2 22) ∷
    token (kind.Number (pos 128)) (at 2 24) ∷ token (kind.Sign sign.Comma) (at 2 27) ∷
    token (kind.Word (codes "P")) (at 2 29) ∷ token (kind.Sign sign.Set) (at 2 31) ∷
    token (kind.Number (pos 128)) (at 2 33) ∷ token (kind.Sign sign.ParenClose) (at 2 36) ∷
    token (kind.Sign sign.Semi) (at 2 37) ∷ token (kind.Word (codes "instance")) (at 3 1) ∷
    token (kind.Word (codes "top")) (at 3 10) ∷ token (kind.Sign sign.Set) (at 3 14) ∷
    token (kind.Word (codes "matmul")) (at 3 16) ∷ token (kind.Sign sign.Path) (at 3 22) ∷
    token (kind.Word (codes "inner")) (at 3 24) ∷ token (kind.Sign sign.At) (at 3 30) ∷
    token (kind.Word (codes "host")) (at 3 32) ∷ token (kind.Sign sign.BraceOpen) (at 3 37) ∷
    token (kind.Word (codes "tunable")) (at 3 39) ∷ token (kind.Word (codes "U")) (at 3 47) ∷
    token (kind.Sign sign.Set) (at 3 49) ∷ token (kind.Number (pos 32)) (at 3 51) ∷
    token (kind.Sign sign.Semi) (at 3 53) ∷ token (kind.Word (codes "tunable")) (at 3 55) ∷
    token (kind.Word (codes "X")) (at 3 63) ∷ token (kind.Sign sign.Set) (at 3 65) ∷
    token (kind.Number (pos 32)) (at 3 67) ∷ token (kind.Sign sign.Semi) (at 3 69) ∷
    token (kind.Word (codes "tunable")) (at 3 71) ∷ token (kind.Word (codes "V")) (at 3 79) ∷
    token (kind.Sign sign.Set) (at 3 81) ∷ token (kind.Number (pos 32)) (at 3 83) ∷
    token (kind.Sign sign.Semi) (at 3 85) ∷ token (kind.Word (codes "call")) (at 3 87) ∷
    token (kind.Word (codes "matmul")) (at 3 92) ∷ token (kind.Sign sign.Arrow) (at 3 99) ∷
    token (kind.Word (codes "mid")) (at 3 102) ∷ token (kind.Sign sign.Semi) (at 3 105) ∷
    token (kind.Sign sign.BraceClose) (at 3 107) ∷ token (kind.Word (codes "instance")) (at 4 1) ∷
    token (kind.Word (codes "mid")) (at 4 10) ∷ token (kind.Sign sign.Set) (at 4 14) ∷
    token (kind.Word (codes "matmul")) (at 4 16) ∷ token (kind.Sign sign.Path) (at 4 22) ∷
    token (kind.Word (codes "inner")) (at 4 24) ∷ token (kind.Sign sign.At) (at 4 30) ∷
    token (kind.Word (codes "chip")) (at 4 32) ∷ token (kind.Sign sign.BraceOpen) (at 4 37) ∷
    token (kind.Word (codes "tunable")) (at 4 39) ∷ token (kind.Word (codes "U")) (at 4 47) ∷
    token (kind.Sign sign.Set) (at 4 49) ∷ token (kind.Number (pos 8)) (at 4 51) ∷
    token (kind.Sign sign.Semi) (at 4 52) ∷ token (kind.Word (codes "tunable")) (at 4 54) ∷
    token (kind.Word (codes "X")) (at 4 62) ∷ token (kind.Sign sign.Set) (at 4 64) ∷
    token (kind.Number (pos 8)) (at 4 66) ∷ token (kind.Sign sign.Semi) (at 4 67) ∷
    token (kind.Word (codes "tunable")) (at 4 69) ∷ token (kind.Word (codes "V")) (at 4 77) ∷
    token (kind.Sign sign.Set) (at 4 79) ∷ token (kind.Number (pos 8)) (at 4 81) ∷
    token (kind.Sign sign.Semi) (at 4 82) ∷ token (kind.Word (codes "call")) (at 4 84) ∷
    token (kind.Word (codes "matmul")) (at 4 89) ∷ token (kind.Sign sign.Arrow) (at 4 96) ∷
    token (kind.Word (codes "low")) (at 4 99) ∷ token (kind.Sign sign.Semi) (at 4 102) ∷
    token (kind.Sign sign.BraceClose) (at 4 104) ∷ token (kind.Word (codes "instance")) (at 5 1) ∷
    token (kind.Word (codes "low")) (at 5 10) ∷ token (kind.Sign sign.Set) (at 5 14) ∷
    token (kind.Word (codes "matmul")) (at 5 16) ∷ token (kind.Sign sign.Path) (at 5 22) ∷
    token (kind.Word (codes "leaf")) (at 5 24) ∷ token (kind.Sign sign.At) (at 5 29) ∷
    token (kind.Word (codes "core")) (at 5 31) ∷ token (kind.Sign sign.BraceOpen) (at 5 36) ∷
    token (kind.Sign sign.BraceClose) (at 5 38) ∷ token kind.End (at 6 1) ∷ []

unfoldable pub machine_tokens : List Token
machine_tokens =
    token (kind.Word (codes "machine")) (at 1 1) ∷ token (kind.Number (pos 1)) (at 1 9) ∷
    token (kind.Sign sign.Semi) (at 1 10) ∷ token (kind.Word (codes "level")) (at 1 12) ∷
    token (kind.Word (codes "host")) (at 1 18) ∷ token (kind.Sign sign.BraceOpen) (at 1 23) ∷
    token (kind.Word (codes "capacity")) (at 1 25) ∷ token (kind.Number (pos 196608)) (at 1 34) ∷
    token (kind.Sign sign.Semi) (at 1 40) ∷ token (kind.Sign sign.BraceClose) (at 1 42) ∷
    token (kind.Word (codes "children")) (at 1 44) ∷ token (kind.Number (pos 2)) (at 1 53) ∷
    token (kind.Sign sign.Semi) (at 1 54) ∷ token (kind.Word (codes "level")) (at 1 56) ∷
    token (kind.Word (codes "chip")) (at 1 62) ∷ token (kind.Sign sign.BraceOpen) (at 1 67) ∷
    token (kind.Word (codes "capacity")) (at 1 69) ∷ token (kind.Number (pos 20480)) (at 1 78) ∷
    token (kind.Sign sign.Semi) (at 1 83) ∷ token (kind.Sign sign.BraceClose) (at 1 85) ∷
    token (kind.Word (codes "children")) (at 1 87) ∷ token (kind.Number (pos 4)) (at 1 96) ∷
    token (kind.Sign sign.Semi) (at 1 97) ∷ token (kind.Word (codes "level")) (at 1 99) ∷
    token (kind.Word (codes "core")) (at 1 105) ∷ token (kind.Sign sign.BraceOpen) (at 1 110) ∷
    token (kind.Word (codes "capacity")) (at 1 112) ∷ token (kind.Number (pos 1280)) (at 1 121) ∷
    token (kind.Sign sign.Semi) (at 1 125) ∷ token (kind.Sign sign.BraceClose) (at 1 127) ∷
    token kind.End (at 1 128) ∷ []
