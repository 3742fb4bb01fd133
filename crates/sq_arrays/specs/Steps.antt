-- What calls leave, by the definition on what is left.
use Rattle.std.specs.Prelude.{◌≡◌, ℕ, List, Result, Ok, Err}
use Rattle.std.specs.List.{fold}
use Rattle.sq_text.specs.declared.place.Place.{Place}
use Rattle.sq_arrays.specs.declared.refusal.InputEnd.{InputEnd}
use Rattle.sq_arrays.specs.declared.refusal.InputEnd.TheVariants.{Refused, Failed, Absent}
use Rattle.sq_arrays.specs.declared.window.Window.{Window}
use Rattle.sq_arrays.specs.Words.{is_over}
use Rattle.sq_arrays.specs.Window.{left}
use Rattle.sq_arrays.specs.ArrayText.{Fault, Rest, next_word}

-- what is left at the window's position
abbrev pub rest_of : Window → List ℕ → Rest
rest_of w bytes = record { place = w.spot.place; text = left w bytes; over = is_over bytes }

-- an Err is the fault that the definition gives, or a read failed
abbrev pub Fails : {Y : Type 0} → InputEnd → Result Y Fault → Type 0
Fails (Refused code place) read = read ≡ Err (record { code = code; place = place })
Fails Failed read = Unit {0}
Fails Absent read = Unit {0}

-- a word was read, and all its bytes were judged
abbrev pub GivesWord : {J : Type 0} → (J → ℕ → J) → J → J → Result Place InputEnd → Rest → Rest → Type 0
GivesWord next before after (Ok place) rest now_rest = (bytes : List ℕ) × (next_word rest ≡ Ok (record { place = place; bytes = bytes; rest = now_rest })) × (after ≡ fold next before bytes)
GivesWord next before after (Err e) rest now_rest = Fails e (next_word rest)

-- Ok gives what the definition gives, seen by view
abbrev pub Gives : {X Y : Type 0} → (X → Y) → Result X InputEnd → Result Y Fault → Type 0
Gives view (Ok x) read = read ≡ Ok (view x)
Gives view (Err e) read = Fails e read
