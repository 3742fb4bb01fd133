-- The arrays that are read, among those of the entry's parameters.
use Rattle.std.specs.Prelude.{◌≡◌, ℕ, ◌+◌, ◌-◌, ◌==◌, false, List, [], ◌∷◌, length, Option, Some, Result, Ok, Err, if◌then◌else◌, ℤ}
use Rattle.std.proofs.Common.{refl, ◌∙◌, subst}
use Rattle.sq_port.specs.Ports.{Content}
use Rattle.sq_text.specs.declared.code.Phase.TheVariants.{Input}
use Rattle.sq_text.specs.declared.fault.Fault.{Fault}
use Rattle.sq_ast.specs.declared.program.Param.{Param}
use Rattle.sq_arrays.specs.Arrays.{Wanted, arrays_of}
use Rattle.sq_ast.specs.Modes.{is_read}
use Rattle.sq_spec.specs.declared.resolved.Resolved.{Resolved}
use Rattle.sq_flat.specs.Held.{Stored, Holds}
use Rattle.sq_driver.specs.declared.outside.end.End.{End}
use Rattle.sq_driver.specs.Entry.{params_of, start_of}
use Rattle.sq_driver.specs.Givens.{Extents, read_wants, Given, Unfit}
use Rattle.sq_driver.specs.Steps.{Stops}

-- the array of a parameter, where it is read
abbrev pub read_want : Param → List ℕ → List Wanted
read_want p dims = if is_read p.mode then record { name = p.name; elem = p.elem; extents = dims } ∷ [] else []

-- those of a list, one for each parameter, whose parameters are read
abbrev pub picked : List Param → List (List ℕ) → List (List ℕ)
picked [] list = []
picked (p ∷ ps) [] = []
picked (p ∷ ps) (bytes ∷ rest) = if is_read p.mode then bytes ∷ picked ps rest else picked ps rest

-- and the others
abbrev pub unpicked : List Param → List (List ℕ) → List (List ℕ)
unpicked [] list = list
unpicked (p ∷ ps) [] = []
unpicked (p ∷ ps) (bytes ∷ rest) = if is_read p.mode then unpicked ps rest else bytes ∷ unpicked ps rest

-- the number of the parameter, from the i-th on, that is the one of this number among those that are read
abbrev pub number_from : ℕ → List Param → ℕ → ℕ
number_from i [] left = i
number_from i (p ∷ ps) left = if is_read p.mode then (if left == 0 then i else number_from (i + 1) ps (left - 1))
    else number_from (i + 1) ps left

-- nothing has changed but the arrays that are read
pub record KeepsOthers (params now_params : List Param) (old now : Stored) : Type 0 where
  pub params_is : now_params ≡ params
  pub shapes : now.shapes ≡ old.shapes
  pub count : length now.bytes ≡ length old.bytes
  pub others : unpicked params now.bytes ≡ unpicked params old.bytes

pub keeps_itself : (params : List Param) (its : Stored) → KeepsOthers params params its its
keeps_itself params its = record { params_is = refl; shapes = refl; count = refl; others = refl }

pub keeps_on : (params mid_params now_params : List Param) (old mid now : Stored)
    → KeepsOthers params mid_params old mid → KeepsOthers mid_params now_params mid now
    → KeepsOthers params now_params old now
keeps_on params mid_params now_params old mid now first second = record {
  params_is = second.params_is ∙ first.params_is;
  shapes = second.shapes ∙ first.shapes;
  count = second.count ∙ first.count;
  others = subst (λ (ps : List Param). unpicked ps now.bytes ≡ unpicked ps mid.bytes) first.params_is second.others
      ∙ first.others;
}

-- the arrays that are read have the values of the data, and the others are as they were
pub record IsFilled (params : List Param) (ws : List Wanted) (told : Option Content) (name : List ℕ)
    (old now : Stored) : Type 0 where
  pub shapes : now.shapes ≡ old.shapes
  pub count : length now.bytes ≡ length old.bytes
  pub others : unpicked params now.bytes ≡ unpicked params old.bytes
  pub read : (c : Content) → told ≡ Some c → Given ws (c name) (picked params now.bytes)

abbrev pub ReadsData : List Param → List Wanted → Option Content → List ℕ → Stored → Result Stored End → Type 0
ReadsData params ws told name old (Ok now) = IsFilled params ws told name old now
ReadsData params ws told name old (Err end) = Stops false Input told (Some name) (λ c its. Unfit ws (c name) its) end

-- ---- of a program's entry

-- the arrays are those that the data gives
pub record AreGiven (r : Resolved) (given : Option (List ℕ)) (arrays : Stored) : Type 0 where
  pub its : Extents r
  pub bytes : List ℕ
  pub there : given ≡ Some bytes
  pub values : List (List ℤ)
  pub read : arrays_of (read_wants r its) bytes ≡ Ok values
  pub holds : Holds arrays.shapes arrays.bytes (start_of (params_of r.typed.now r.mapping.now) 0 its.extents values)

pub record IsUnfit (r : Resolved) (given : Option (List ℕ)) (its : Fault) : Type 0 where
  pub entry : Extents r
  pub unfit : Unfit (read_wants r entry) given its

abbrev pub ReadsGiven : Resolved → Option Content → List ℕ → Result Stored End → Type 0
ReadsGiven r told name (Ok arrays) = (c : Content) → told ≡ Some c → AreGiven r (c name) arrays
ReadsGiven r told name (Err end) = Stops false Input told (Some name) (λ c its. IsUnfit r (c name) its) end
