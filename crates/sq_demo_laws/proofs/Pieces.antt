-- The demo's texts as the pieces that they are made of.
use Rattle.std.proofs.Common.{◌≡◌, ℕ, ◌^◌, pos, Bool, true, not, ◌&&◌, ltb, List, [], ◌∷◌, ◌++◌, codes, slice_index, Option, Some, None, refl, sym, subst}
use Rattle.std.specs.List.{list_all}
use Rattle.std.specs.Option.{is_none}
use Rattle.std.proofs.lemmas.Bool.Decides.{Decides-ltb}
use Rattle.sq_text.specs.declared.place.Place.{Place}
use Rattle.sq_text.specs.Places.{place_past}
use Rattle.sq_lexer.specs.declared.token.Kind.TheVariants as kind
use Rattle.sq_lexer.specs.declared.token.Sign.{Sign}
use Rattle.sq_lexer.specs.declared.token.Sign.TheVariants as sign
use Rattle.sq_lexer.specs.declared.token.Token.{Token}
use Rattle.sq_lexer.specs.Bytes.{is_blank, is_letter, is_digit, is_in_word, first_is, number_of}
use Rattle.sq_lexer.specs.Signs.{spelling, IsLongest}
use Rattle.sq_lexer.specs.Tokens.{a_blank, a_word, a_number, a_sign, TokensFrom, at_end, after_gap, after_token, token, begins_comment}
use Rattle.sq_lexer.specs.Reading.{pair}
use Rattle.sq_demo_laws.proofs.Tests.{both, isnt}
use Rattle.sq_lexer.proofs.SignLemmas.{Shape, of_two, of_one, shape, longest_pair, longest_single}

-- a blank, a word, a number or a sign
pub data Piece : Type 0 where
  gap : (blank : ℕ) → Piece
  named : (word : List ℕ) → Piece
  numeral : (digits : List ℕ) → Piece
  signed : Sign → Piece

abbrev pub spelled : Piece → List ℕ
spelled (gap blank) = blank ∷ []
spelled (named word) = word
spelled (numeral digits) = digits
spelled (signed s) = spelling s

abbrev pub text_of : List Piece → List ℕ
text_of [] = []
text_of (x ∷ xs) = spelled x ++ text_of xs

abbrev pub tokens_of : Place → List Piece → List Token
tokens_of p [] = token kind.End p ∷ []
tokens_of p (gap blank ∷ xs) = tokens_of (place_past p (blank ∷ [])) xs
tokens_of p (named word ∷ xs) = token (kind.Word word) p ∷ tokens_of (place_past p word) xs
tokens_of p (numeral digits ∷ xs) = token (kind.Number (pos (number_of digits))) p ∷ tokens_of (place_past p digits) xs
tokens_of p (signed s ∷ xs) = token (kind.Sign s) p ∷ tokens_of (place_past p (spelling s)) xs

-- no longer sign stands there
abbrev pub ends_spelling : List ℕ → ℕ → Bool
ends_spelling [] next = true
ends_spelling (a ∷ []) next = is_none (pair a next)
ends_spelling (a ∷ b ∷ more) next = true

-- the piece stands in front of this text
abbrev pub fits : Piece → List ℕ → Bool
fits (gap blank) rest = is_blank blank
fits (named word) rest = first_is is_letter word && (list_all is_in_word word && not (first_is is_in_word rest))
fits (numeral digits) rest = first_is is_digit digits &&
    (list_all is_digit digits && (not (first_is is_digit rest) && ltb (number_of digits) (2 ^ 63)))
fits (signed s) rest = ends_spelling (spelling s) (slice_index rest 0) && not (begins_comment (spelling s ++ rest))

abbrev pub all_fit : List Piece → Bool
all_fit [] = true
all_fit (x ∷ xs) = fits x (text_of xs) && all_fit xs

none_of : {A : Type 0} (o : Option A) → is_none o ≡ true → o ≡ None
none_of None h = refl
none_of (Some x) h = cc

longest : (s : Sign) (rest : List ℕ) → Shape s → ends_spelling (spelling s) (slice_index rest 0) ≡ true
    → IsLongest s (spelling s ++ rest)
longest s rest (of_two a b e p o) ends = subst (λ t. IsLongest s (t ++ rest)) (sym e) (longest_pair a b rest s e)
longest s rest (of_one a e p o) ends =
    let none : is_none (pair a (slice_index rest 0)) ≡ true = subst (λ t. ends_spelling t (slice_index rest 0) ≡ true) e
    ends in
    subst (λ t. IsLongest s (t ++ rest)) (sym e)
    (longest_single a rest s e (none_of (pair a (slice_index rest 0)) none))

pub tokens_fit : (p : Place) (xs : List Piece) → all_fit xs ≡ true → TokensFrom p (text_of xs) (tokens_of p xs)
tokens_fit p [] h = at_end
tokens_fit p (gap blank ∷ xs) h =
    let t = both (is_blank blank) (all_fit xs) h in
    after_gap refl (a_blank t.0) (tokens_fit (place_past p (blank ∷ [])) xs t.1)
tokens_fit p (named word ∷ xs) h =
    let t = both (fits (named word) (text_of xs)) (all_fit xs) h in
    let u = both (first_is is_letter word) (list_all is_in_word word && not (first_is is_in_word (text_of xs))) t.0 in
    let v = both (list_all is_in_word word) (not (first_is is_in_word (text_of xs))) u.1 in
    after_token refl (a_word u.0 v.0 (isnt (first_is is_in_word (text_of xs)) v.1))
    (tokens_fit (place_past p word) xs t.1)
tokens_fit p (numeral digits ∷ xs) h =
    let t = both (fits (numeral digits) (text_of xs)) (all_fit xs) h in
    let u = both (first_is is_digit digits)
    (list_all is_digit digits && (not (first_is is_digit (text_of xs)) && ltb (number_of digits) (2 ^ 63))) t.0 in
    let v = both (list_all is_digit digits) (not (first_is is_digit (text_of xs)) && ltb (number_of digits) (2 ^ 63))
    u.1 in
    let w = both (not (first_is is_digit (text_of xs))) (ltb (number_of digits) (2 ^ 63)) v.1 in
    after_token refl (a_number u.0 v.0 (isnt (first_is is_digit (text_of xs)) w.0)
    ((Decides-ltb (number_of digits) (2 ^ 63)).0 w.1)) (tokens_fit (place_past p digits) xs t.1)
tokens_fit p (signed s ∷ xs) h =
    let t = both (fits (signed s) (text_of xs)) (all_fit xs) h in
    let u = both (ends_spelling (spelling s) (slice_index (text_of xs) 0))
    (not (begins_comment (spelling s ++ text_of xs))) t.0 in
    after_token refl (a_sign (longest s (text_of xs) (shape s) u.0)
    (isnt (begins_comment (spelling s ++ text_of xs)) u.1)) (tokens_fit (place_past p (spelling s)) xs t.1)

-- ---- the texts

unfoldable pub program_pieces : List Piece
program_pieces =
    named (codes "void") ∷ gap 32 ∷ named (codes "task") ∷ gap 32 ∷ named (codes "matmul") ∷ signed sign.Path ∷
    named (codes "inner") ∷ signed sign.ParenOpen ∷ named (codes "in") ∷ gap 32 ∷ named (codes "int") ∷ gap 32 ∷
    named (codes "A") ∷ signed sign.BracketOpen ∷ named (codes "M") ∷ signed sign.BracketClose ∷
    signed sign.BracketOpen ∷ named (codes "P") ∷ signed sign.BracketClose ∷ signed sign.Comma ∷ gap 32 ∷
    named (codes "in") ∷ gap 32 ∷ named (codes "int") ∷ gap 32 ∷ named (codes "B") ∷ signed sign.BracketOpen ∷
    named (codes "P") ∷ signed sign.BracketClose ∷ signed sign.BracketOpen ∷ named (codes "N") ∷
    signed sign.BracketClose ∷ signed sign.Comma ∷ gap 32 ∷ named (codes "inout") ∷ gap 32 ∷ named (codes "int") ∷
    gap 32 ∷ named (codes "C") ∷ signed sign.BracketOpen ∷ named (codes "M") ∷ signed sign.BracketClose ∷
    signed sign.BracketOpen ∷ named (codes "N") ∷ signed sign.BracketClose ∷ signed sign.ParenClose ∷ gap 32 ∷
    signed sign.BraceOpen ∷ gap 10 ∷ gap 32 ∷ gap 32 ∷ named (codes "tunable") ∷ gap 32 ∷ named (codes "int") ∷
    gap 32 ∷ named (codes "U") ∷ signed sign.Semi ∷ gap 10 ∷ gap 32 ∷ gap 32 ∷ named (codes "tunable") ∷ gap 32 ∷
    named (codes "int") ∷ gap 32 ∷ named (codes "X") ∷ signed sign.Semi ∷ gap 10 ∷ gap 32 ∷ gap 32 ∷
    named (codes "tunable") ∷ gap 32 ∷ named (codes "int") ∷ gap 32 ∷ named (codes "V") ∷ signed sign.Semi ∷
    gap 10 ∷ gap 32 ∷ gap 32 ∷ named (codes "blkset") ∷ gap 32 ∷ named (codes "Ab") ∷ gap 32 ∷ signed sign.Set ∷
    gap 32 ∷ named (codes "rchop") ∷ signed sign.ParenOpen ∷ named (codes "A") ∷ signed sign.Comma ∷ gap 32 ∷
    named (codes "U") ∷ signed sign.Comma ∷ gap 32 ∷ named (codes "X") ∷ signed sign.ParenClose ∷
    signed sign.Semi ∷ gap 10 ∷ gap 32 ∷ gap 32 ∷ named (codes "blkset") ∷ gap 32 ∷ named (codes "Bb") ∷ gap 32 ∷
    signed sign.Set ∷ gap 32 ∷ named (codes "rchop") ∷ signed sign.ParenOpen ∷ named (codes "B") ∷
    signed sign.Comma ∷ gap 32 ∷ named (codes "X") ∷ signed sign.Comma ∷ gap 32 ∷ named (codes "V") ∷
    signed sign.ParenClose ∷ signed sign.Semi ∷ gap 10 ∷ gap 32 ∷ gap 32 ∷ named (codes "blkset") ∷ gap 32 ∷
    named (codes "Cb") ∷ gap 32 ∷ signed sign.Set ∷ gap 32 ∷ named (codes "rchop") ∷ signed sign.ParenOpen ∷
    named (codes "C") ∷ signed sign.Comma ∷ gap 32 ∷ named (codes "U") ∷ signed sign.Comma ∷ gap 32 ∷
    named (codes "V") ∷ signed sign.ParenClose ∷ signed sign.Semi ∷ gap 10 ∷ gap 32 ∷ gap 32 ∷
    named (codes "mappar") ∷ gap 32 ∷ signed sign.ParenOpen ∷ named (codes "int") ∷ gap 32 ∷ named (codes "i") ∷
    gap 32 ∷ signed sign.Set ∷ gap 32 ∷ numeral (codes "0") ∷ gap 32 ∷ named (codes "to") ∷ gap 32 ∷
    named (codes "M") ∷ signed sign.Slash ∷ named (codes "U") ∷ signed sign.Comma ∷ gap 32 ∷ named (codes "int") ∷
    gap 32 ∷ named (codes "j") ∷ gap 32 ∷ signed sign.Set ∷ gap 32 ∷ numeral (codes "0") ∷ gap 32 ∷
    named (codes "to") ∷ gap 32 ∷ named (codes "N") ∷ signed sign.Slash ∷ named (codes "V") ∷
    signed sign.ParenClose ∷ gap 32 ∷ signed sign.BraceOpen ∷ gap 10 ∷ gap 32 ∷ gap 32 ∷ gap 32 ∷ gap 32 ∷
    named (codes "mapseq") ∷ gap 32 ∷ signed sign.ParenOpen ∷ named (codes "int") ∷ gap 32 ∷ named (codes "k") ∷
    gap 32 ∷ signed sign.Set ∷ gap 32 ∷ numeral (codes "0") ∷ gap 32 ∷ named (codes "to") ∷ gap 32 ∷
    named (codes "P") ∷ signed sign.Slash ∷ named (codes "X") ∷ signed sign.ParenClose ∷ gap 32 ∷
    signed sign.BraceOpen ∷ gap 10 ∷ gap 32 ∷ gap 32 ∷ gap 32 ∷ gap 32 ∷ gap 32 ∷ gap 32 ∷ named (codes "matmul") ∷
    signed sign.ParenOpen ∷ named (codes "Ab") ∷ signed sign.BracketOpen ∷ named (codes "i") ∷
    signed sign.BracketClose ∷ signed sign.BracketOpen ∷ named (codes "k") ∷ signed sign.BracketClose ∷
    signed sign.Comma ∷ gap 32 ∷ named (codes "Bb") ∷ signed sign.BracketOpen ∷ named (codes "k") ∷
    signed sign.BracketClose ∷ signed sign.BracketOpen ∷ named (codes "j") ∷ signed sign.BracketClose ∷
    signed sign.Comma ∷ gap 32 ∷ named (codes "Cb") ∷ signed sign.BracketOpen ∷ named (codes "i") ∷
    signed sign.BracketClose ∷ signed sign.BracketOpen ∷ named (codes "j") ∷ signed sign.BracketClose ∷
    signed sign.ParenClose ∷ signed sign.Semi ∷ gap 10 ∷ gap 32 ∷ gap 32 ∷ gap 32 ∷ gap 32 ∷
    signed sign.BraceClose ∷ gap 10 ∷ gap 32 ∷ gap 32 ∷ signed sign.BraceClose ∷ gap 10 ∷ signed sign.BraceClose ∷
    gap 10 ∷ named (codes "void") ∷ gap 32 ∷ named (codes "task") ∷ gap 32 ∷ named (codes "matmul") ∷
    signed sign.Path ∷ named (codes "leaf") ∷ signed sign.ParenOpen ∷ named (codes "in") ∷ gap 32 ∷
    named (codes "int") ∷ gap 32 ∷ named (codes "A") ∷ signed sign.BracketOpen ∷ named (codes "M") ∷
    signed sign.BracketClose ∷ signed sign.BracketOpen ∷ named (codes "P") ∷ signed sign.BracketClose ∷
    signed sign.Comma ∷ gap 32 ∷ named (codes "in") ∷ gap 32 ∷ named (codes "int") ∷ gap 32 ∷ named (codes "B") ∷
    signed sign.BracketOpen ∷ named (codes "P") ∷ signed sign.BracketClose ∷ signed sign.BracketOpen ∷
    named (codes "N") ∷ signed sign.BracketClose ∷ signed sign.Comma ∷ gap 32 ∷ named (codes "inout") ∷ gap 32 ∷
    named (codes "int") ∷ gap 32 ∷ named (codes "C") ∷ signed sign.BracketOpen ∷ named (codes "M") ∷
    signed sign.BracketClose ∷ signed sign.BracketOpen ∷ named (codes "N") ∷ signed sign.BracketClose ∷
    signed sign.ParenClose ∷ gap 32 ∷ signed sign.BraceOpen ∷ gap 10 ∷ gap 32 ∷ gap 32 ∷ named (codes "for") ∷
    gap 32 ∷ signed sign.ParenOpen ∷ named (codes "int") ∷ gap 32 ∷ named (codes "i") ∷ gap 32 ∷ signed sign.Set ∷
    gap 32 ∷ numeral (codes "0") ∷ signed sign.Semi ∷ gap 32 ∷ named (codes "i") ∷ gap 32 ∷ signed sign.Less ∷
    gap 32 ∷ named (codes "M") ∷ signed sign.Semi ∷ gap 32 ∷ named (codes "i") ∷ signed sign.PlusPlus ∷
    signed sign.ParenClose ∷ gap 10 ∷ gap 32 ∷ gap 32 ∷ gap 32 ∷ gap 32 ∷ named (codes "for") ∷ gap 32 ∷
    signed sign.ParenOpen ∷ named (codes "int") ∷ gap 32 ∷ named (codes "j") ∷ gap 32 ∷ signed sign.Set ∷ gap 32 ∷
    numeral (codes "0") ∷ signed sign.Semi ∷ gap 32 ∷ named (codes "j") ∷ gap 32 ∷ signed sign.Less ∷ gap 32 ∷
    named (codes "N") ∷ signed sign.Semi ∷ gap 32 ∷ named (codes "j") ∷ signed sign.PlusPlus ∷
    signed sign.ParenClose ∷ gap 10 ∷ gap 32 ∷ gap 32 ∷ gap 32 ∷ gap 32 ∷ gap 32 ∷ gap 32 ∷ named (codes "for") ∷
    gap 32 ∷ signed sign.ParenOpen ∷ named (codes "int") ∷ gap 32 ∷ named (codes "k") ∷ gap 32 ∷ signed sign.Set ∷
    gap 32 ∷ numeral (codes "0") ∷ signed sign.Semi ∷ gap 32 ∷ named (codes "k") ∷ gap 32 ∷ signed sign.Less ∷
    gap 32 ∷ named (codes "P") ∷ signed sign.Semi ∷ gap 32 ∷ named (codes "k") ∷ signed sign.PlusPlus ∷
    signed sign.ParenClose ∷ gap 10 ∷ gap 32 ∷ gap 32 ∷ gap 32 ∷ gap 32 ∷ gap 32 ∷ gap 32 ∷ gap 32 ∷ gap 32 ∷
    named (codes "C") ∷ signed sign.BracketOpen ∷ named (codes "i") ∷ signed sign.BracketClose ∷
    signed sign.BracketOpen ∷ named (codes "j") ∷ signed sign.BracketClose ∷ gap 32 ∷ signed sign.PlusSet ∷
    gap 32 ∷ named (codes "A") ∷ signed sign.BracketOpen ∷ named (codes "i") ∷ signed sign.BracketClose ∷
    signed sign.BracketOpen ∷ named (codes "k") ∷ signed sign.BracketClose ∷ gap 32 ∷ signed sign.Star ∷ gap 32 ∷
    named (codes "B") ∷ signed sign.BracketOpen ∷ named (codes "k") ∷ signed sign.BracketClose ∷
    signed sign.BracketOpen ∷ named (codes "j") ∷ signed sign.BracketClose ∷ signed sign.Semi ∷ gap 10 ∷
    signed sign.BraceClose ∷ gap 10 ∷ []

unfoldable pub mapping_pieces : List Piece
mapping_pieces =
    named (codes "mapping") ∷ gap 32 ∷ numeral (codes "1") ∷ signed sign.Semi ∷ gap 10 ∷ named (codes "entry") ∷
    gap 32 ∷ named (codes "top") ∷ signed sign.ParenOpen ∷ named (codes "M") ∷ gap 32 ∷ signed sign.Set ∷ gap 32 ∷
    numeral (codes "128") ∷ signed sign.Comma ∷ gap 32 ∷ named (codes "N") ∷ gap 32 ∷ signed sign.Set ∷ gap 32 ∷
    numeral (codes "128") ∷ signed sign.Comma ∷ gap 32 ∷ named (codes "P") ∷ gap 32 ∷ signed sign.Set ∷ gap 32 ∷
    numeral (codes "128") ∷ signed sign.ParenClose ∷ signed sign.Semi ∷ gap 10 ∷ named (codes "instance") ∷
    gap 32 ∷ named (codes "top") ∷ gap 32 ∷ signed sign.Set ∷ gap 32 ∷ named (codes "matmul") ∷ signed sign.Path ∷
    named (codes "inner") ∷ gap 32 ∷ signed sign.At ∷ gap 32 ∷ named (codes "host") ∷ gap 32 ∷
    signed sign.BraceOpen ∷ gap 32 ∷ named (codes "tunable") ∷ gap 32 ∷ named (codes "U") ∷ gap 32 ∷
    signed sign.Set ∷ gap 32 ∷ numeral (codes "32") ∷ signed sign.Semi ∷ gap 32 ∷ named (codes "tunable") ∷
    gap 32 ∷ named (codes "X") ∷ gap 32 ∷ signed sign.Set ∷ gap 32 ∷ numeral (codes "32") ∷ signed sign.Semi ∷
    gap 32 ∷ named (codes "tunable") ∷ gap 32 ∷ named (codes "V") ∷ gap 32 ∷ signed sign.Set ∷ gap 32 ∷
    numeral (codes "32") ∷ signed sign.Semi ∷ gap 32 ∷ named (codes "call") ∷ gap 32 ∷ named (codes "matmul") ∷
    gap 32 ∷ signed sign.Arrow ∷ gap 32 ∷ named (codes "mid") ∷ signed sign.Semi ∷ gap 32 ∷
    signed sign.BraceClose ∷ gap 10 ∷ named (codes "instance") ∷ gap 32 ∷ named (codes "mid") ∷ gap 32 ∷
    signed sign.Set ∷ gap 32 ∷ named (codes "matmul") ∷ signed sign.Path ∷ named (codes "inner") ∷ gap 32 ∷
    signed sign.At ∷ gap 32 ∷ named (codes "chip") ∷ gap 32 ∷ signed sign.BraceOpen ∷ gap 32 ∷
    named (codes "tunable") ∷ gap 32 ∷ named (codes "U") ∷ gap 32 ∷ signed sign.Set ∷ gap 32 ∷
    numeral (codes "8") ∷ signed sign.Semi ∷ gap 32 ∷ named (codes "tunable") ∷ gap 32 ∷ named (codes "X") ∷
    gap 32 ∷ signed sign.Set ∷ gap 32 ∷ numeral (codes "8") ∷ signed sign.Semi ∷ gap 32 ∷ named (codes "tunable") ∷
    gap 32 ∷ named (codes "V") ∷ gap 32 ∷ signed sign.Set ∷ gap 32 ∷ numeral (codes "8") ∷ signed sign.Semi ∷
    gap 32 ∷ named (codes "call") ∷ gap 32 ∷ named (codes "matmul") ∷ gap 32 ∷ signed sign.Arrow ∷ gap 32 ∷
    named (codes "low") ∷ signed sign.Semi ∷ gap 32 ∷ signed sign.BraceClose ∷ gap 10 ∷ named (codes "instance") ∷
    gap 32 ∷ named (codes "low") ∷ gap 32 ∷ signed sign.Set ∷ gap 32 ∷ named (codes "matmul") ∷ signed sign.Path ∷
    named (codes "leaf") ∷ gap 32 ∷ signed sign.At ∷ gap 32 ∷ named (codes "core") ∷ gap 32 ∷
    signed sign.BraceOpen ∷ gap 32 ∷ signed sign.BraceClose ∷ gap 10 ∷ []

unfoldable pub machine_pieces : List Piece
machine_pieces =
    named (codes "machine") ∷ gap 32 ∷ numeral (codes "1") ∷ signed sign.Semi ∷ gap 32 ∷ named (codes "level") ∷
    gap 32 ∷ named (codes "host") ∷ gap 32 ∷ signed sign.BraceOpen ∷ gap 32 ∷ named (codes "capacity") ∷ gap 32 ∷
    numeral (codes "196608") ∷ signed sign.Semi ∷ gap 32 ∷ signed sign.BraceClose ∷ gap 32 ∷
    named (codes "children") ∷ gap 32 ∷ numeral (codes "2") ∷ signed sign.Semi ∷ gap 32 ∷ named (codes "level") ∷
    gap 32 ∷ named (codes "chip") ∷ gap 32 ∷ signed sign.BraceOpen ∷ gap 32 ∷ named (codes "capacity") ∷ gap 32 ∷
    numeral (codes "20480") ∷ signed sign.Semi ∷ gap 32 ∷ signed sign.BraceClose ∷ gap 32 ∷
    named (codes "children") ∷ gap 32 ∷ numeral (codes "4") ∷ signed sign.Semi ∷ gap 32 ∷ named (codes "level") ∷
    gap 32 ∷ named (codes "core") ∷ gap 32 ∷ signed sign.BraceOpen ∷ gap 32 ∷ named (codes "capacity") ∷ gap 32 ∷
    numeral (codes "1280") ∷ signed sign.Semi ∷ gap 32 ∷ signed sign.BraceClose ∷ []
