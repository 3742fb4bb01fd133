-- The text of arrays, as a definition on what is left of a file.
use Rattle.std.specs.Prelude.{ℕ, zero, suc, ◌+◌, ◌-◌, ◌*◌, Bool, true, false, cond, ◌&&◌, ◌==◌, nat_lt, nat_le, unsigned_abs, List, [], ◌∷◌, Result, Ok, Err, ℤ, pos, codes}
use Rattle.std.specs.List.{fold}
use Rattle.std.proofs.Math.IntN.{neg_ℤ}
use Rattle.sq_text.specs.declared.place.Place.{Place}
use Rattle.sq_arrays.specs.declared.refusal.InputCode.{InputCode}
use Rattle.sq_arrays.specs.declared.refusal.InputCode.TheVariants.{LimitFile, Syntax, Name, Shape, Range, Short, Extra}
use Rattle.sq_num.specs.declared.Elem.{Elem}
use Rattle.sq_num.specs.Elements.{least, greatest}
use Rattle.sq_arrays.specs.Words.{along, run, behind, within, is_over}

-- a fault with its place
pub record Fault : Type 0 where
  pub code : InputCode
  pub place : Place

-- what is left of a file: where it begins, the bytes that count, and whether the file has more than may be
pub record Rest : Type 0 where
  pub place : Place
  pub text : List ℕ
  pub over : Bool

-- a file from its front
abbrev pub start_of : List ℕ → Rest
start_of bytes = record { place = record { line = 1; col = 1 }; text = within bytes; over = is_over bytes }

-- behind a run of blanks, or of other bytes
abbrev pub past : Bool → Rest → Rest
past blank r = record { place = along r.place (run blank r.text); text = behind blank r.text; over = r.over }

-- the code where no byte is left
abbrev pub end_code : Rest → InputCode
end_code r = cond r.over LimitFile Short

-- a word, with its place and what is behind it
pub record Word : Type 0 where
  pub place : Place
  pub bytes : List ℕ
  pub rest : Rest

-- a word that isn't ended within the limit isn't judged: also one whose last byte is the last that may be
abbrev pub ended : List ℕ → Bool → Bool
ended [] over = cond over false true
ended (b ∷ bs) over = true

abbrev pub word_of : Place → List ℕ → Rest → Result Word Fault
word_of place [] rest = Err (record { code = end_code rest; place = rest.place })
word_of place (b ∷ bs) rest = cond (ended rest.text rest.over) (Ok (record { place = place; bytes = b ∷ bs; rest = rest })) (Err (record { code = LimitFile; place = rest.place }))

-- the word that begins here
abbrev pub word_at : Rest → Result Word Fault
word_at r = word_of r.place (run false r.text) (past false r)

-- the next word that is needed
unfoldable pub next_word : Rest → Result Word Fault
next_word r = word_at (past true r)

-- two texts are one
abbrev pub same_text : List ℕ → List ℕ → Bool
same_text [] [] = true
same_text [] (y ∷ ys) = false
same_text (x ∷ xs) [] = false
same_text (x ∷ xs) (y ∷ ys) = x == y && same_text xs ys

abbrev pub array_word : List ℕ
array_word = codes "array"

abbrev pub is_digit : ℕ → Bool
is_digit b = nat_lt 47 b && nat_lt b 58

-- digits with at most one `-` before them
abbrev pub is_minus : List ℕ → Bool
is_minus [] = false
is_minus (b ∷ bs) = b == 45

abbrev pub digits_of : List ℕ → List ℕ
digits_of [] = []
digits_of (b ∷ bs) = cond (b == 45) bs (b ∷ bs)

abbrev pub all_digits : List ℕ → Bool
all_digits [] = true
all_digits (b ∷ bs) = is_digit b && all_digits bs

abbrev pub some_digits : List ℕ → Bool
some_digits [] = false
some_digits (b ∷ bs) = all_digits (b ∷ bs)

abbrev pub is_number : List ℕ → Bool
is_number w = some_digits (digits_of w)

-- the number that digits write, whatever zeros stand before it
abbrev pub number_of : ℕ → List ℕ → ℕ
number_of n ds = fold (λ n d. 10 * n + (d - 48)) n ds

-- how far a type reaches from 0: up, or down where a `-` stands
abbrev pub reach : Elem → Bool → ℕ
reach e true = unsigned_abs (least e)
reach e false = unsigned_abs (greatest e)

abbrev pub fits : Elem → Bool → ℕ → Bool
fits e minus n = nat_le n (reach e minus)

abbrev pub signed : Bool → ℕ → ℤ
signed minus n = cond minus (neg_ℤ (pos n)) (pos n)

-- a word in place of a value
unfoldable pub value_of : Elem → List ℕ → Result ℤ InputCode
value_of e w =
    cond (same_text w array_word) (Err Short) (
    cond (is_number w) (
    let n = number_of 0 (digits_of w) in cond (fits e (is_minus w) n) (Ok (signed (is_minus w) n)) (Err Range))
    (Err Syntax))

-- a value, and what is behind it
abbrev pub with_place : {A : Type 0} → Word → Result A InputCode → Result (A × Rest) Fault
with_place w (Ok v) = Ok (v, w.rest)
with_place w (Err code) = Err (record { code = code; place = w.place })

infixl 10 ◌>>=◌
abbrev pub ◌>>=◌ : {A B : Type 0} → Result A Fault → (A → Result B Fault) → Result B Fault
(Ok x) >>= f = f x
(Err e) >>= f = Err e

abbrev pub next_value : Elem → Rest → Result (ℤ × Rest) Fault
next_value e r = next_word r >>= λ w. with_place w (value_of e w.bytes)

-- so many values, and what is behind them
abbrev pub next_values : ℕ → Elem → Rest → Result (List ℤ × Rest) Fault
next_values zero e r = Ok ([], r)
next_values (suc n) e r = next_value e r >>= λ v. (next_values n e v.1 >>= λ vs. Ok (v.0 ∷ vs.0, vs.1))

-- a word that has to be one text
abbrev pub same_of : List ℕ → InputCode → List ℕ → Result (Unit {0}) InputCode
same_of text code w = cond (same_text w text) (Ok tt) (Err code)

-- the word `array`: of a further array a value is Extra
abbrev pub array_of : Bool → List ℕ → Result (Unit {0}) InputCode
array_of first w = cond (same_text w array_word) (Ok tt) (Err (cond first Syntax (cond (is_number w) Extra Syntax)))

abbrev pub next_same : List ℕ → InputCode → Rest → Result (Unit {0} × Rest) Fault
next_same text code r = next_word r >>= λ w. with_place w (same_of text code w.bytes)

abbrev pub next_array : Bool → Rest → Result (Unit {0} × Rest) Fault
next_array first r = next_word r >>= λ w. with_place w (array_of first w.bytes)

-- the four words of a head
abbrev pub next_head : Bool → List ℕ → List ℕ → List ℕ → Rest → Result (Unit {0} × Rest) Fault
next_head first name elem extents r = next_array first r >>= λ a. (next_same name Name a.1 >>= λ b. (next_same elem Shape b.1 >>= λ c. next_same extents Shape c.1))

-- after the last array, any word is Extra, at its first byte
abbrev pub at_end : Rest → Result (Unit {0}) Fault
at_end r = cond r.over (Err (record { code = LimitFile; place = r.place })) (Ok tt)

abbrev pub finish_at : List ℕ → Rest → Result (Unit {0}) Fault
finish_at [] r = at_end r
finish_at (b ∷ bs) r = Err (record { code = Extra; place = r.place })

unfoldable pub finished : Rest → Result (Unit {0}) Fault
finished r = let s = past true r in finish_at s.text s
