-- Readers as functions on lists of tokens, and the primitives that they are made of.
use Rattle.std.specs.Prelude.{◌≡◌, ◌≢◌, ℕ, ℤ, pos, zero, suc, ◌-◌, nat_lt, Bool, false, if◌then◌else◌, List, [], ◌∷◌, ◌++◌, length, take, drop, Option, Some, None, Result, Ok, Err}
use Rattle.std.specs.Borrow.{Bor}
use Rattle.sq_lexer.specs.Text.declared.place.Place.{Place}
use Rattle.sq_lexer.specs.declared.token.Token.{Token}
use Rattle.sq_lexer.specs.declared.token.Kind.{Kind}
use Rattle.sq_lexer.specs.declared.token.Kind.TheVariants as k
use Rattle.sq_patterns.specs.declared.pattern.Pattern.{Pattern}
use Rattle.sq_patterns.specs.declared.cursor.ReadError.{ReadError}
use Rattle.sq_patterns.specs.declared.cursor.ReadError.TheVariants.{NoMemory, Syntax}
use Rattle.sq_lexer.specs.Text.declared.word.Word.{Word}
use Rattle.sq_lexer.specs.Text.declared.word.Numeral.{Numeral}
use Rattle.sq_patterns.specs.Patterns.{fits}

-- ---- readers

abbrev pub Outcome : Type 0 → Type 0
Outcome A = Result (A × List Token) ReadError

abbrev pub Reader : Type 0 → Type 0
Reader A = List Token → Outcome A

abbrev pub and_then : {A B : Type 0} → Outcome A → (A → Reader B) → Outcome B
and_then (Ok p) f = f p.0 p.1
and_then (Err e) f = Err e

infixl 10 ◌>>=◌
abbrev pub ◌>>=◌ : {A B : Type 0} → Reader A → (A → Reader B) → Reader B
p >>= f = λ i. and_then (p i) f

abbrev pub pure : {A : Type 0} → A → Reader A
pure a = λ i. Ok (a, i)

-- what a function that reads ensures: the reader's outcome, unless memory runs out
abbrev pub Reads : {A : Type 0} → Outcome A → Result A ReadError → List Token → Type 0
Reads outcome (Ok a) new = outcome ≡ Ok (a, new)
Reads outcome (Err e) new = e ≢ NoMemory → outcome ≡ Err e

abbrev pub ReadsFront : Outcome (List Token) → Result (Bor (List Token)) ReadError → List Token → Type 0
ReadsFront outcome (Ok a) new = outcome ≡ Ok (a.now, new)
ReadsFront outcome (Err e) new = outcome ≡ Err e

-- ---- tokens of given patterns

abbrev pub sees : Pattern → List Token → Bool
sees pattern [] = false
sees pattern (t ∷ ts) = fits pattern t.kind

-- how many of the first tokens are of these patterns, one by one
abbrev pub fitting : List Pattern → List Token → ℕ
fitting [] ts = 0
fitting (pattern ∷ patterns) [] = 0
fitting (pattern ∷ patterns) (t ∷ ts) = if fits pattern t.kind then suc (fitting patterns ts) else 0

abbrev pub front : ℕ → ℕ → Reader (List Token)
front wanted count = λ i. if nat_lt count wanted then Err (Syntax (length i - count)) else Ok (take count i, drop count i)

-- the next tokens, which have to be of these patterns
abbrev pub all : List Pattern → Reader (List Token)
all patterns = λ i. front (length patterns) (fitting patterns i) i

-- the next token decides
abbrev pub choice : {A : Type 0} → Pattern → Reader A → Reader A → Reader A
choice pattern p q = λ i. if sees pattern i then p i else q i

-- Up to a token of this pattern, one after another. The number bounds the turns, and each turn takes a token, so the
-- count of tokens is enough.
unfoldable pub until : {A : Type 0} → Pattern → Reader A → ℕ → List A → Reader (List A)
until close p zero found = pure found
until close p (suc n) found = λ i. if sees close i then Ok (found, i)
    else (do
      x ← p
      until close p n (found ++ x ∷ [])) i

-- no token is left
abbrev pub finish : {A : Type 0} → A → Reader A
finish a [] = Ok (a, [])
finish a (t ∷ ts) = Err (Syntax (length (t ∷ ts)))

-- ---- what tokens hold

abbrev pub nowhere : Place
nowhere = record { line = 0; col = 0 }

abbrev pub no_word : Word
no_word = record { place = nowhere; name = [] }

abbrev pub word_of : Place → Kind → Word
word_of place (k.Word name) = record { place = place; name = name }
word_of place _ = no_word

abbrev pub word_in : Option Token → Word
word_in None = no_word
word_in (Some t) = word_of t.place t.kind

abbrev pub number_from : ℤ → ℤ
number_from (pos n) = pos n
number_from _ = pos 0

abbrev pub number_of : Kind → ℤ
number_of (k.Number number) = number_from number
number_of _ = pos 0

abbrev pub number_in : Option Token → ℤ
number_in None = pos 0
number_in (Some t) = number_of t.kind

abbrev pub no_numeral : Numeral
no_numeral = record { place = nowhere; value = 0 }

abbrev pub numeral_from : Place → ℤ → Numeral
numeral_from place (pos n) = record { place = place; value = n }
numeral_from place _ = no_numeral

abbrev pub numeral_of : Place → Kind → Numeral
numeral_of place (k.Number number) = numeral_from place number
numeral_of place _ = no_numeral

abbrev pub numeral_in : Option Token → Numeral
numeral_in None = no_numeral
numeral_in (Some t) = numeral_of t.place t.kind

abbrev pub place_in : Option Token → Place
place_in None = nowhere
place_in (Some t) = t.place
