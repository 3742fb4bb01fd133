-- What is kept of a word in place of a value.
use Rattle.std.specs.Prelude.{ℕ, ◌+◌, ◌-◌, ◌*◌, true, false, cond, ◌||◌, ◌&&◌, ◌==◌, nat_lt, List, length, get_or, Result, Ok, Err, ℤ}
use Rattle.sq_arrays.specs.declared.refusal.InputCode.{InputCode}
use Rattle.sq_arrays.specs.declared.refusal.InputCode.TheVariants.{Syntax, Range, Short}
use Rattle.sq_num.specs.declared.Elem.{Elem}
use Rattle.sq_arrays.specs.declared.number.Number.{Number}
use Rattle.sq_arrays.specs.ArrayText.{array_word, is_digit, fits, signed}

-- how many bytes of the text came so far; one more than it has where others came
abbrev pub match_step : List ℕ → ℕ → ℕ → ℕ
match_step text k b = cond (nat_lt k (length text) && (get_or text k 0 == b)) (k + 1) (length text + 1)

-- the number with one more digit, or 10 ^ 19 for any from there on
abbrev pub more : ℕ → ℕ → ℕ
more m d = cond (nat_lt m 1000000000000000000) (10 * m + d) 10000000000000000000

abbrev pub number_step : Number → ℕ → Number
number_step n b = record {
  begun = true;
  negative = cond n.begun n.negative (b == 45);
  digits = n.digits || is_digit b;
  valid = n.valid && (is_digit b || cond n.begun false (b == 45));
  magnitude = cond (is_digit b) (more n.magnitude (b - 48)) n.magnitude;
  matched = match_step array_word n.matched b;
}

abbrev pub no_number : Number
no_number = record { begun = false; negative = false; digits = false; valid = true; magnitude = 0; matched = 0 }

-- what a word is in place of a value, by what was kept of it
abbrev pub value_by : Elem → Number → Result ℤ InputCode
value_by e n = cond (n.matched == 5) (Err Short) (
    cond (n.digits && n.valid) (cond (fits e n.negative n.magnitude) (Ok (signed n.negative n.magnitude)) (Err Range))
    (Err Syntax))
