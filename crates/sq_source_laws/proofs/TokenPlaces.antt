-- The tokens of a text stand one behind another, so what is named at a place is one.
use Rattle.std.proofs.Common.{◌≡◌, ℕ, ℤ, pos, List, [], ◌∷◌, Option, Some, None, ap}
use Rattle.std.specs.List.{AllByRecursion}
use Rattle.sq_text.specs.declared.place.Place.{Place}
use Rattle.sq_text.specs.Places.{IsBefore}
use Rattle.sq_text.specs.declared.fault.Arg.{Arg}
use Rattle.sq_text.specs.declared.fault.Arg.TheVariants.{Word as AWord, Number}
use Rattle.sq_text.specs.declared.word.Word.{Word}
use Rattle.sq_text.specs.declared.word.Numeral.{Numeral}
use Rattle.sq_lexer.specs.declared.token.Token.{Token}
use Rattle.sq_lexer.specs.declared.token.Kind.{Kind}
use Rattle.sq_lexer.specs.declared.token.Kind.TheVariants as k
use Rattle.sq_lexer.specs.Tokens.{token, TokensFrom, at_end, after_gap, after_token}
use Rattle.sq_ast.proofs.TextPlaces.{before_past, behind_bytes, has_bytes}
use Rattle.sq_source_laws.proofs.Rising.{Rises, standing, IsFound}

abbrev pub token_place : Token → Place
token_place t = t.place

all_behind : {p : Place} {text : List ℕ} {ts : List Token} → TokensFrom p text ts → (q : Place) → IsBefore q p → AllByRecursion (λ t. IsBefore q (token_place t)) ts
all_behind at_end = λ q h. (h, tt)
all_behind (after_gap {p = p} {front = front} e s d) = λ q h. all_behind d q (before_past p q front h)
all_behind (after_token {p = p} {front = front} e s d) = λ q h. (h, all_behind d q (before_past p q front h))

pub tokens_rise : {p : Place} {text : List ℕ} {ts : List Token} → TokensFrom p text ts → Rises token_place ts
tokens_rise at_end = (tt, tt)
tokens_rise (after_gap e s d) = tokens_rise d
tokens_rise (after_token {p = p} {front = front} e s d) = (all_behind d p (behind_bytes p front (has_bytes s)), tokens_rise d)

-- ---- what a fault names that stands at a token's place

abbrev pub word_token : Word → Token
word_token word = token (k.Word word.name) word.place

abbrev pub numeral_token : Numeral → Token
numeral_token numeral = token (k.Number (pos numeral.value)) numeral.place

abbrev number_args : ℤ → List Arg
number_args (pos n) = Number n ∷ []
number_args _ = []

abbrev kind_args : Kind → List Arg
kind_args (k.Word name) = AWord name ∷ []
kind_args (k.Number n) = number_args n
kind_args _ = []

abbrev token_args : Option Token → List Arg
token_args None = []
token_args (Some t) = kind_args t.kind

-- the name or the number of the token that stands there
abbrev pub args_at : List Token → Place → List Arg
args_at ts p = token_args (standing token_place ts p)

-- it is the first of its place
abbrev pub IsThere : List Token → Token → Type 0
IsThere = IsFound token_place

pub word_args : (ts : List Token) (word : Word) → IsThere ts (word_token word) → args_at ts word.place ≡ AWord word.name ∷ []
word_args ts word h = ap token_args h

pub numeral_args : (ts : List Token) (numeral : Numeral) → IsThere ts (numeral_token numeral) → args_at ts numeral.place ≡ Number numeral.value ∷ []
numeral_args ts numeral h = ap token_args h
