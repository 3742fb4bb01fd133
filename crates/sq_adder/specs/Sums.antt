-- The sum of the numbers of a text, its first line left aside.
use Rattle.std.specs.Prelude.{ℕ, ◌+◌, ◌-◌, ◌*◌, ◌^◌, ◌%◌, nat_le, nat_lt, Bool, true, false, ◌&&◌, ◌==◌, List, map, if◌then◌else◌, ℤ, pos, ◌-ℤ◌}
use Rattle.std.specs.List.{fold}
use Rattle.sq_adder.specs.declared.adding.Adding.{Adding}

-- as a number of 64 bits with a sign
abbrev pub with_sign : ℕ → ℤ
with_sign n = if nat_lt n (2 ^ 63) then pos n else pos n -ℤ pos (2 ^ 64)

abbrev pub is_digit : ℕ → Bool
is_digit b = nat_le 48 b && nat_le b 57

-- nothing is read yet
abbrev pub nothing_added : Adding
nothing_added = record { past = false; minus = false; number = 0; sum = 0 }

-- with the number that stands open, modulo 2^64
abbrev pub sum_of : Adding → ℕ
sum_of a = if a.minus then (a.sum + (2 ^ 64 - a.number)) % 2 ^ 64 else (a.sum + a.number) % 2 ^ 64

-- one byte further: a digit, or a minus in front of the digits, or the end of a number
abbrev pub digit_added : Adding → ℕ → Adding
digit_added a b = record { past = true; minus = a.minus; number = (a.number * 10 + (b - 48)) % 2 ^ 64; sum = a.sum }

abbrev pub minus_added : Adding → Adding
minus_added a = record { past = true; minus = true; number = a.number; sum = a.sum }

abbrev pub ended : Adding → Adding
ended a = record { past = true; minus = false; number = 0; sum = sum_of a }

abbrev pub byte_added : Adding → ℕ → Adding
byte_added a b = if is_digit b then digit_added a b else (if b == 45 then minus_added a else ended a)

-- the first line ends with LF
abbrev pub first_line : Adding → ℕ → Adding
first_line a b = record { past = b == 10; minus = a.minus; number = a.number; sum = a.sum }

abbrev pub added : Adding → ℕ → Adding
added a b = if a.past then byte_added a b else first_line a b

-- of the numbers of a text behind its first line, as a number of 64 bits with a sign
abbrev pub text_sum : List ℕ → ℤ
text_sum text = with_sign (sum_of (fold added nothing_added text))

-- the bytes of a history
abbrev pub bytes_told : List (ℕ × Unit {0}) → List ℕ
bytes_told told = map (λ x. x.0) told
