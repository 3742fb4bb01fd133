-- Values as bytes.
use Rattle.std.specs.Prelude.{◌≡◌, ℕ, List, Result, Ok, Err, ℤ}
use Rattle.std.specs.List.{flat_map}
use Rattle.sq_num.specs.declared.Elem.{Elem}
use Rattle.sq_num.specs.Elements.{cell}
use Rattle.sq_arrays.specs.declared.refusal.InputEnd.{InputEnd}
use Rattle.sq_arrays.specs.ArrayText.{Fault, Rest}
use Rattle.sq_arrays.specs.Steps.{Fails}

-- Ok: the values that the definition gives stand in these bytes
abbrev pub GivesValues : Elem → List ℕ → Rest → Result (Unit {0}) InputEnd → Result (List ℤ × Rest) Fault → Type 0
GivesValues e now now_rest (Ok x) read = (vs : List ℤ) × (read ≡ Ok (vs, now_rest)) × (now ≡ flat_map (cell e) vs)
GivesValues e now now_rest (Err end) read = Fails end read
