-- What is kept of a word that has to be one text.
use Rattle.std.specs.Prelude.{ℕ, Bool, cond, ◌==◌, ◌&&◌, length, Result, Ok, Err}
use Rattle.sq_arrays.specs.declared.refusal.InputCode.{InputCode}
use Rattle.sq_arrays.specs.declared.refusal.InputCode.TheVariants.{Syntax, Extra}
use Rattle.sq_arrays.specs.declared.number.Number.{Number}
use Rattle.sq_arrays.specs.declared.exact.ExactText.{ExactText}
use Rattle.sq_arrays.specs.Numbers.{match_step}

abbrev pub same_step : ExactText → ℕ → ExactText
same_step s b = record { text = s.text; matched = match_step s.text.now s.matched b }

abbrev pub same_by : InputCode → ExactText → Result (Unit {0}) InputCode
same_by code s = cond (s.matched == length s.text.now) (Ok tt) (Err code)

abbrev pub array_by : Bool → Number → Result (Unit {0}) InputCode
array_by first n = cond (n.matched == 5) (Ok tt) (Err (cond first Syntax (cond (n.digits && n.valid) Extra Syntax)))
