-- The arrays of the entry: as the data gives them, what the source makes of them, and as they are written.
use Rattle.std.specs.Prelude.{◌≡◌, ℕ, zero, suc, ◌+◌, ◌*◌, Bool, true, false, List, [], ◌∷◌, ◌++◌, take, drop, Some, Ok, Err, ℤ, pos, if◌then◌else◌, slice_get}
use Rattle.sq_text.specs.declared.fault.Fault.{Fault}
use Rattle.sq_rect.specs.Extents.{product}
use Rattle.sq_ast.specs.declared.program.Mode.{Mode}
use Rattle.sq_ast.specs.declared.program.Param.{Param}
use Rattle.sq_ast.specs.declared.program.Program.{Program as Tree}
use Rattle.sq_mapping.specs.declared.mapping.Mapping.{Mapping}
use Rattle.sq_arrays.specs.Arrays.{Wanted, DataFault, arrays_of}
use Rattle.sq_arrays.specs.Written.{array_text}
use Rattle.sq_leaf.specs.Source.{Arrays}
use Rattle.sq_ast.specs.Modes.{is_written}
use Rattle.sq_work.specs.Meaning.{Trapped}
use Rattle.sq_ast.specs.Modes.{is_read}
use Rattle.sq_forms.specs.Resolving.{entry_params, entry_extents}
use Rattle.sq_spec.specs.Works.{extents_at, flat}
use Rattle.sq_report.specs.declared.trap.Trap.{Trap}
use Rattle.sq_words.specs.Words.{input}
use Rattle.sq_driver.specs.Phases.{Inputs}
use Rattle.sq_driver.specs.Data.{data_fault}
use Rattle.sq_driver.specs.Sources.{Sources}

-- the parameters of the entry's variant
abbrev pub params_of : Tree → Mapping → List Param
params_of tree mapped = entry_params tree.tasks (slice_get mapped.instances mapped.entry)

-- the array of a parameter, where these are the extents of all
abbrev pub want_of : Param → ℕ → List (List ℕ) → Wanted
want_of p i extents = record { name = p.name; elem = p.elem; extents = extents_at (slice_get extents i) }

-- the arrays of the parameters whose mode is such, in order, of the parameters from the i-th on
abbrev pub wants_of : (Mode → Bool) → List Param → ℕ → List (List ℕ) → List Wanted
wants_of which [] i extents = []
wants_of which (p ∷ ps) i extents = if which p.mode then want_of p i extents
    ∷ wants_of which ps (i + 1) extents else wants_of which ps (i + 1) extents

-- ---- numbers in order of coordinates, the last dimension fastest

abbrev pub first_number : List ℤ → ℤ
first_number [] = pos 0
first_number (v ∷ rest) = v

-- the number at a coordinate: in 1 2 3 4 5 6 of 2 by 3 the one at 1, 0 is 4
abbrev pub number_at : List ℕ → List ℤ → List ℕ → ℤ
number_at (n ∷ ns) values (c ∷ cs) = number_at ns (take (product ns) (drop (c * product ns) values)) cs
number_at _ values _ = first_number values

-- n parts one after another, of which the first has this number in the first dimension
abbrev pub parts_from : ((List ℕ → ℤ) → List ℤ) → ℕ → ℕ → (List ℕ → ℤ) → List ℤ
parts_from part zero k array = []
parts_from part (suc n) k array = part (λ cs. array (k ∷ cs)) ++ parts_from part n (suc k) array

-- the numbers of an array of these extents
abbrev pub in_order : List ℕ → (List ℕ → ℤ) → List ℤ
in_order [] array = array [] ∷ []
in_order (n ∷ ns) array = parts_from (in_order ns) n 0 array

-- ---- arrays by the numbers of the parameters

abbrev pub with_first : (List ℕ → ℤ) → Arrays → Arrays
with_first array rest zero = array
with_first array rest (suc k) = rest k

abbrev pub zeros : List ℕ → ℤ
zeros cs = pos 0

abbrev pub first_values : List (List ℤ) → List ℤ
first_values [] = []
first_values (vs ∷ rest) = vs

abbrev pub other_values : List (List ℤ) → List (List ℤ)
other_values [] = []
other_values (vs ∷ rest) = rest

-- the arrays before the run: the `in` and `inout` ones have the values of the data, in order, and the others are zeros
abbrev pub start_of : List Param → ℕ → List (List ℕ) → List (List ℤ) → Arrays
start_of [] i extents values = λ k. zeros
start_of (p ∷ ps) i extents values = if is_read p.mode
    then with_first (number_at (extents_at (slice_get extents i)) (first_values values))
    (start_of ps (i + 1) extents (other_values values))
    else with_first zeros (start_of ps (i + 1) extents values)

-- the text of an array after the run, where it is an `out` or `inout` one
abbrev pub output_text : Bool → Wanted → (List ℕ → ℤ) → List ℕ
output_text false want array = []
output_text true want array = array_text want (in_order want.extents array)

-- the texts of the `out` and `inout` arrays, in order, of the parameters from the i-th on
abbrev pub outputs_from : List Param → ℕ → List (List ℕ) → Arrays → List ℕ
outputs_from [] i extents after = []
outputs_from (p ∷ ps) i extents after = output_text (is_written p.mode) (want_of p i extents)
    (after i) ++ outputs_from ps (i + 1) extents after

-- ---- the data

-- the entry of a command, with the extents of its parameters
pub record Entry (inputs : Inputs) : Type 0 where
  pub sources : Sources inputs
  pub extents : List (List ℕ)
  pub extents_are : entry_extents sources.mapped.sizes (params_of sources.tree sources.mapped) ≡ Ok extents

-- the data file isn't the text of the `in` and `inout` arrays, and has this fault
pub record IsFirstOfInput (inputs : Inputs) (its : Fault) : Type 0 where
  pub entry : Entry inputs
  pub bytes : List ℕ
  pub there : inputs input ≡ Some bytes
  pub found : DataFault
  pub read : arrays_of (wants_of is_read (params_of entry.sources.tree entry.sources.mapped) 0 entry.extents) bytes
      ≡ Err found
  pub is : its ≡ data_fault found

-- the values that the data file gives for the `in` and `inout` arrays
pub record Data (inputs : Inputs) : Type 0 where
  pub entry : Entry inputs
  pub bytes : List ℕ
  pub there : inputs input ≡ Some bytes
  pub values : List (List ℤ)
  pub read : arrays_of (wants_of is_read (params_of entry.sources.tree entry.sources.mapped) 0 entry.extents) bytes
      ≡ Ok values

-- the arrays that they are
abbrev pub data_arrays : (inputs : Inputs) → Data inputs → Arrays
data_arrays inputs given = start_of (params_of given.entry.sources.tree given.entry.sources.mapped) 0
    given.entry.extents given.values

-- ---- what the source means

-- the texts of the `out` and `inout` arrays that the source makes of the data
pub record GivesFlat (inputs : Inputs) (out : List ℕ) : Type 0 where
  pub given : Data inputs
  pub after : Arrays
  pub run : flat given.entry.sources.tree given.entry.sources.mapped (data_arrays inputs given) ≡ Ok after
  pub text : out ≡ outputs_from (params_of given.entry.sources.tree given.entry.sources.mapped) 0 given.entry.extents
      after

-- the trap with its path that the source ends with
pub record TrapsFlat (inputs : Inputs) (its : Trap) : Type 0 where
  pub given : Data inputs
  pub trapped : Trapped
  pub run : flat given.entry.sources.tree given.entry.sources.mapped (data_arrays inputs given) ≡ Err trapped
  pub is : its ≡ record { kind = trapped.trap.kind; place = trapped.trap.place; path = trapped.path }
