-- What the arrays of a file are read into.
use Rattle.std.specs.Prelude.{◌≡◌, ℕ, zero, suc, ◌+◌, ◌^◌, ◌<◌, ◌≤◌, List, [], ◌∷◌, ◌++◌, length, take, drop, map, Option, Some, None, slice_get, Result, Ok, Err, ℤ}
use Rattle.std.specs.List.{flat_map, All}
use Rattle.std.specs.Option.{option_map}
use Rattle.sq_num.specs.declared.Elem.{Elem}
use Rattle.sq_num.specs.Elements.{cell}
use Rattle.sq_arrays.specs.declared.refusal.InputEnd.{InputEnd}
use Rattle.sq_arrays.specs.declared.refusal.InputEnd.TheVariants.{Refused, Failed, Absent}
use Rattle.sq_arrays.specs.declared.refusal.ArraysEnd.{ArraysEnd}
use Rattle.sq_arrays.specs.Steps.{Fails}
use Rattle.sq_arrays.specs.ArrayText.{Fault, Rest}
use Rattle.sq_arrays.specs.Arrays.{Wanted, DataFault, size_of}

-- these bytes from that place on, and all others as they were
abbrev pub put_at : ℕ → List ℕ → List ℕ → List ℕ
put_at at piece bytes = take at bytes ++ (piece ++ drop (at + length piece) bytes)

-- the bytes of the array of that number
abbrev pub array_at : ℕ → List (List ℕ) → List ℕ
array_at array [] = []
array_at zero (bytes ∷ rest) = bytes
array_at (suc array) (bytes ∷ rest) = array_at array rest

-- the same arrays with these bytes in one of them
abbrev pub put_in : ℕ → ℕ → List ℕ → List (List ℕ) → List (List ℕ)
put_in array at piece [] = []
put_in zero at piece (bytes ∷ rest) = put_at at piece bytes ∷ rest
put_in (suc array) at piece (bytes ∷ rest) = bytes ∷ put_in array at piece rest

-- a range of bytes of an array
pub record HasRange (arrays : List (List ℕ)) (array at size : ℕ) : Type 0 where
  pub there : array < length arrays
  pub range : at + size ≤ length (array_at array arrays)

-- an array for each that is wanted, with just the bytes of its values
pub record HasRoom (ws : List Wanted) (arrays : List (List ℕ)) : Type 0 where
  pub sizes : map length arrays ≡ map size_of ws
  pub small : All (λ w. size_of w < 2 ^ 64) ws

-- the bytes that store the values of each array
abbrev pub cells_of : List Wanted → List (List ℤ) → List (List ℕ)
cells_of [] vss = []
cells_of (w ∷ ws) [] = []
cells_of (w ∷ ws) (vs ∷ vss) = flat_map (cell w.elem) vs ∷ cells_of ws vss

-- the name of the array of that number
abbrev pub name_at : List Wanted → Option ℕ → Option (List ℕ)
name_at ws None = None
name_at ws (Some array) = option_map (λ w. w.name) (slice_get ws array)

-- a refusal is the file's first fault, and names the array that is wanted at its place
abbrev pub Refuses : List Wanted → Option ℕ → InputEnd → Result (List (List ℤ)) DataFault → Type 0
Refuses ws array (Refused code place) read = read ≡ Err (record { code = code; place = place; name = name_at ws array })
Refuses ws array Failed read = Unit {0}
Refuses ws array Absent read = Unit {0}

-- Ok: the values that the file gives stand in the arrays
abbrev pub GivesArrays : List Wanted → List (List ℕ) → Result (Unit {0}) ArraysEnd → Result (List (List ℤ)) DataFault → Type 0
GivesArrays ws now (Ok x) read = (vss : List (List ℤ)) × (read ≡ Ok vss) × (now ≡ cells_of ws vss)
GivesArrays ws now (Err e) read = Refuses ws e.array e.end read

-- how it ended, leaving the array aside
abbrev pub end_of : {T : Type 0} → Result T ArraysEnd → Result T InputEnd
end_of (Ok x) = Ok x
end_of (Err e) = Err e.end

-- Ok: the values that the definition gives stand in the array of that number, and the other arrays are as they were
abbrev pub GivesValuesIn : ℕ → Elem → List (List ℕ) → List (List ℕ) → Rest → Result (Unit {0}) InputEnd → Result (List ℤ × Rest) Fault → Type 0
GivesValuesIn array e old now now_rest (Ok x) read = (vs : List ℤ) × (read ≡ Ok (vs, now_rest)) × (now ≡ put_in array 0 (flat_map (cell e) vs) old)
GivesValuesIn array e old now now_rest (Err end) read = Fails end read
