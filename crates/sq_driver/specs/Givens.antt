-- The extents of a program's entry, and the values that a data file gives for the arrays that are read, or its fault.
use Rattle.std.specs.Prelude.{◌≡◌, ℕ, List, Option, Some, Ok, Err, ℤ}
use Rattle.sq_text.specs.declared.fault.Fault.{Fault}
use Rattle.sq_arrays.specs.Arrays.{Wanted, DataFault, arrays_of}
use Rattle.sq_arrays.specs.Targets.{cells_of}
use Rattle.sq_ast.specs.Modes.{is_read}
use Rattle.sq_forms.specs.Resolving.{entry_extents}
use Rattle.sq_spec.specs.declared.resolved.Resolved.{Resolved}
use Rattle.sq_driver.specs.Data.{data_fault}
use Rattle.sq_driver.specs.Entry.{params_of, wants_of}

-- the extents of its parameters
pub record Extents (r : Resolved) : Type 0 where
  pub extents : List (List ℕ)
  pub are : entry_extents r.mapping.now.sizes (params_of r.typed.now r.mapping.now) ≡ Ok extents

abbrev pub read_wants : (r : Resolved) → Extents r → List Wanted
read_wants r its = wants_of is_read (params_of r.typed.now r.mapping.now) 0 its.extents

-- the values that a file gives for these arrays
pub record Given (ws : List Wanted) (given : Option (List ℕ)) (arrays : List (List ℕ)) : Type 0 where
  pub bytes : List ℕ
  pub there : given ≡ Some bytes
  pub values : List (List ℤ)
  pub read : arrays_of ws bytes ≡ Ok values
  pub are : arrays ≡ cells_of ws values

-- the file's first fault
pub record Unfit (ws : List Wanted) (given : Option (List ℕ)) (its : Fault) : Type 0 where
  pub bytes : List ℕ
  pub there : given ≡ Some bytes
  pub found : DataFault
  pub read : arrays_of ws bytes ≡ Err found
  pub is : its ≡ data_fault found
