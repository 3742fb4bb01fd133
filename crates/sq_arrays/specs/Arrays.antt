-- The text of the arrays that are wanted of a file, from its first byte to its last.
use Rattle.std.specs.Prelude.{◌≡◌, ℕ, ◌*◌, Bool, true, false, List, length, [], ◌∷◌, Option, Some, None, Result, Ok, Err, ℤ}
use Rattle.sq_num.specs.declared.Elem.{Elem}
use Rattle.std.specs.List.{All}
use Rattle.sq_num.specs.Elements.{width, IsValue}
use Rattle.sq_text.specs.declared.place.Place.{Place}
use Rattle.sq_rect.specs.Extents.{product}
use Rattle.sq_arrays.specs.declared.refusal.InputCode.{InputCode}
use Rattle.sq_arrays.specs.declared.want.Want.{Want}
use Rattle.sq_arrays.specs.Heads.{elem_word, shape_text}
use Rattle.sq_arrays.specs.ArrayText.{Fault, Rest, start_of, next_head, next_values, finished, ◌>>=◌}

-- an array that is wanted
pub record Wanted : Type 0 where
  pub name : List ℕ
  pub elem : Elem
  pub extents : List ℕ

abbrev pub wanted : Want → Wanted
wanted w = record { name = w.name.now; elem = w.elem; extents = w.extents }

-- its head, and what is behind it
abbrev pub head_of : Bool → Wanted → Rest → Result (Unit {0} × Rest) Fault
head_of first w r = next_head first w.name (elem_word w.elem) (shape_text w.extents) r

-- its head and all its values
abbrev pub array_of_text : Bool → Wanted → Rest → Result (List ℤ × Rest) Fault
array_of_text first w r = head_of first w r >>= λ h. next_values (product w.extents) w.elem h.1

-- a fault, and the name of the array that is wanted at its place: behind the last array the last one's, and none where
-- none is wanted
pub record DataFault : Type 0 where
  pub code : InputCode
  pub place : Place
  pub name : Option (List ℕ)

abbrev pub of_array : {A B : Type 0} → Option (List ℕ) → Result A Fault → (A → Result B DataFault) → Result B DataFault
of_array name (Ok x) f = f x
of_array name (Err e) f = Err (record { code = e.code; place = e.place; name = name })

abbrev pub add_values : List ℤ → Result (List (List ℤ)) DataFault → Result (List (List ℤ)) DataFault
add_values vs (Ok more) = Ok (vs ∷ more)
add_values vs (Err f) = Err f

-- the values of the arrays from here on, or the first fault
abbrev pub arrays_from : Bool → Option (List ℕ) → List Wanted → Rest → Result (List (List ℤ)) DataFault
arrays_from first last [] r = of_array last (finished r) (λ _. Ok [])
arrays_from first last (w ∷ ws) r = of_array (Some w.name) (array_of_text first w r) (λ a. add_values a.0 (arrays_from false (Some w.name) ws a.1))

-- the values of the arrays of a file, or its first fault
unfoldable pub arrays_of : List Wanted → List ℕ → Result (List (List ℤ)) DataFault
arrays_of ws bytes = arrays_from true None ws (start_of bytes)

-- how many bytes store an array's values
abbrev pub size_of : Wanted → ℕ
size_of w = product w.extents * width w.elem

-- as many values as the array has elements, all of its type
pub record AreValuesOf (w : Wanted) (vs : List ℤ) : Type 0 where
  pub count : length vs ≡ product w.extents
  pub each : All (IsValue w.elem) vs
