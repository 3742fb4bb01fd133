-- What a reader keeps between its calls.
use Rattle.std.specs.Prelude.{ℕ, Bool, List, Option}
use Rattle.sq_num.specs.declared.Elem.{Elem}
use Rattle.sq_port.specs.Ports.{Content}
use Rattle.sq_arrays.specs.declared.refusal.InputEnd.{InputEnd}
use Rattle.sq_arrays.specs.declared.reader.ArrayReader.{ArrayReader}
use Rattle.sq_arrays.specs.ArrayText.{Rest}
use Rattle.sq_arrays.specs.Window.{Stands}
use Rattle.sq_arrays.specs.Steps.{rest_of}

-- how many values of the current array are left, and of which type
abbrev pub left_of : ArrayReader → ℕ
left_of r = r.left

abbrev pub elem_of : ArrayReader → Elem
elem_of r = r.elem

-- whether no head was read yet
abbrev pub is_first : ArrayReader → Bool
is_first r = r.first

-- the refusal that it answers from now on
abbrev pub kept_of : ArrayReader → Option InputEnd
kept_of r = r.kept

-- what is left of the file's bytes
abbrev pub rest_at : ArrayReader → List ℕ → Rest
rest_at r bytes = rest_of r.window bytes

-- its window holds the bytes that stand at its position in the file of that name
abbrev pub IsReady : Option Content → List ℕ → ArrayReader → Type 0
IsReady told name r = Stands told name r.window
