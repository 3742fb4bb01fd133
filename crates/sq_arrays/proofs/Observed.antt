-- What a word says, by what was kept of it.
use Rattle.std.proofs.Common.{◌≡◌, ℕ, List, [], sym, ◌∙◌, ap, Result, Ok}
use Rattle.sq_text.specs.declared.place.Place.{Place}
use Rattle.sq_arrays.specs.declared.refusal.InputCode.{InputCode}
use Rattle.std.specs.List.{fold}
use Rattle.sq_arrays.specs.ArrayText.{Rest, Word, next_word, with_place, ◌>>=◌}

-- a word was read, and what was kept of it says what it is
pub judged : {J A : Type 0} (next : J → ℕ → J) (before after : J) (by : J → Result A InputCode) (of : List ℕ → Result A InputCode) (rest now : Rest) (place : Place) (v : Result A InputCode)
    → ((w : List ℕ) → by (fold next before w) ≡ of w)
    → (bytes : List ℕ) × (next_word rest ≡ Ok (record { place = place; bytes = bytes; rest = now })) × (after ≡ fold next before bytes) → v ≡ by after
    → (next_word rest >>= λ w. with_place w (of w.bytes)) ≡ with_place (record { place = place; bytes = []; rest = now }) v
judged next before after by of rest now place v tied read is =
    ap (λ r. r >>= λ (w : Word). with_place w (of w.bytes)) read.1
    ∙ ap (with_place (record { place = place; bytes = []; rest = now })) (sym (is ∙ ap by read.2 ∙ tied read.0))
