-- What the declarations of a form make known, and the first fault among them.
use Rattle.std.specs.Prelude.{◌≡◌, ℕ, ◌+◌, ◌*◌, ◌^◌, nat_lt, nat_le, ℤ, pos, negsuc, Bool, true, false, ◌&&◌, List, [], ◌∷◌, ◌++◌, length, Option, Some, None, Ok, Err, option_map, is_some, is_err, if◌then◌else◌, slice_get}
use Rattle.std.specs.Option.{option_and_then}
use Rattle.std.specs.Map.{lookup}
use Rattle.sq_text.specs.declared.place.Place.{Place}
use Rattle.sq_text.specs.declared.code.Code.TheVariants as code
use Rattle.sq_ast.specs.Num.declared.Elem.{Elem}
use Rattle.sq_ast.specs.declared.program.Decl.{Decl}
use Rattle.sq_ast.specs.declared.program.Decl.TheVariants as decl
use Rattle.sq_ast.specs.declared.program.Param.{Param}
use Rattle.sq_mapping.specs.declared.mapping.Setting.{Setting}
use Rattle.sq_mapping.specs.declared.mapping.Setting.TheVariants.{One, Many}
use Rattle.sq_mapping.specs.declared.mapping.Tuning.{Tuning}
use Rattle.sq_text.specs.Names.{Bytes, same_name}
use Rattle.sq_blocks.specs.Names.{Numbers, list_of, with_number, with_list}
use Rattle.sq_blocks.specs.Spans.{judged}
use Rattle.sq_blocks.specs.declared.chop.Chop.{Chop}
use Rattle.sq_blocks.specs.declared.chop.Chop.TheVariants.{Regular, Irregular}
use Rattle.sq_forms.specs.declared.known.Array.{Array}
use Rattle.sq_forms.specs.declared.form.LocalArray.{LocalArray}
use Rattle.sq_forms.specs.declared.decls.Scope.{Scope as CodeScope}
use Rattle.sq_forms.specs.Faults.{Value, fault_named, and_then}
use Rattle.sq_forms.specs.Args.{Names, names_of, worths}
use Rattle.sq_forms.specs.Calls.{bind_from}
use Rattle.sq_forms.specs.Tables.{setting_of}

-- What is known in a form, how many arrays it has, and its locals.
pub record Scope : Type 0 where
  pub names : Names
  pub numbers : Numbers
  pub arrays : ℕ
  pub locals : List LocalArray

abbrev pub scope_of : CodeScope → Scope
scope_of s = record { names = names_of s.known; numbers = s.numbers; arrays = s.arrays; locals = s.locals }

-- of two declarations of a name the first counts
abbrev pub with_first : {A : Type 0} → List (Bytes × A) → Bytes → A → List (Bytes × A)
with_first es name a = if is_some (lookup (same_name name) es) then es else es ++ (name, a) ∷ []

abbrev pub with_array : Names → Bytes → Array → Names
with_array names name a = record { lists = names.lists; arrays = with_first names.arrays name a; blocks = names.blocks }

-- ---- tunables

abbrev pub number_in : Option Setting → ℤ
number_in (Some (One n)) = n
number_in (Some (Many ns)) = pos 0
number_in None = pos 0

abbrev pub list_in : Option Setting → List ℤ
list_in (Some (Many ns)) = ns
list_in (Some (One n)) = []
list_in None = []

-- ---- locals

unfoldable pub most_extent : ℕ
most_extent = 2 ^ 24

unfoldable pub most_elements : ℕ
most_elements = 2 ^ 26

-- extents of at least 1, of which there are not too many elements, behind extents of n elements
abbrev pub dims_from : ℕ → List ℤ → Option (List ℕ)
dims_from n [] = Some []
dims_from n (pos e ∷ es) = if (nat_lt 0 e && nat_le e most_extent) && nat_le (n * e) most_elements then
    option_map (λ ds. e ∷ ds) (dims_from (n * e) es) else None
dims_from n (negsuc e ∷ es) = None

-- of one to three dimensions
abbrev pub dims_of : List ℤ → Option (List ℕ)
dims_of [] = None
dims_of (n ∷ ns) = if nat_le (length ns) 2 then dims_from 1 (n ∷ ns) else None

abbrev pub local_at : Scope → Place → Elem → Bytes → Option (List ℕ) → Value Scope
local_at s place elem name None = Err (fault_named code.LimitArray place name)
local_at s place elem name (Some dims) = Ok (record {
  names = with_array s.names name (record { number = s.arrays; extents = dims });
  numbers = s.numbers;
  arrays = s.arrays + 1;
  locals = s.locals ++ record { elem = elem; extents = dims } ∷ [];
})

-- ---- block sets

abbrev pub with_blocks : Scope → Place → Bytes → ℕ → Chop → Value Scope
with_blocks s place name array chop =
    if is_err (judged chop) then Err (fault_named code.BadChop place name) else Ok (record {
      names = record {
        lists = s.names.lists;
        arrays = s.names.arrays;
        blocks =
            with_first s.names.blocks name (record { array = array; chop = chop });
      };
      numbers = s.numbers;
      arrays = s.arrays;
      locals = s.locals;
    })

abbrev pub with_chop : Scope → Place → Bytes → (List ℕ → Chop) → Option Array → Value Scope
with_chop s place name chop None = Err (fault_named code.BadChop place name)
with_chop s place name chop (Some a) = with_blocks s place name a.number (chop a.extents)

abbrev pub array_of : Scope → Bytes → Option Array
array_of s name = lookup (same_name name) s.names.arrays

-- ---- declarations

abbrev pub after_decl : List Tuning → Scope → Decl → Value Scope
after_decl tunings s (decl.Tunable place name) =
    Ok (record {
      names = s.names;
      numbers = with_number s.numbers name (number_in (setting_of tunings name));
      arrays =
          s.arrays;
      locals = s.locals;
    })
after_decl tunings s (decl.List place name) = Ok (record {
  names = record {
    lists = with_list s.names.lists name (list_in (setting_of tunings name));
    arrays =
        s.names.arrays;
    blocks = s.names.blocks;
  };
  numbers = s.numbers;
  arrays = s.arrays;
  locals = s.locals;
})
after_decl tunings s (decl.Local place elem name extents) =
    and_then (worths extents s.numbers s.names.lists) (λ ns. local_at s place elem name (dims_of ns))
after_decl tunings s (decl.Rchop place name array sizes) =
    and_then (worths sizes s.numbers s.names.lists)
    (λ ns. with_chop s place name (λ extents. Regular extents ns) (array_of s array.name))
after_decl tunings s (decl.Ichop place name array starts ends) =
    with_chop s place name (λ extents. Irregular extents (list_of s.names.lists starts.name)
    (list_of s.names.lists ends.name)) (array_of s array.name)

-- in text order
abbrev pub all_declared : List Tuning → Scope → List Decl → Value Scope
all_declared tunings s [] = Ok s
all_declared tunings s (d ∷ ds) = and_then (after_decl tunings s d) (λ t. all_declared tunings t ds)

-- ---- parameters

abbrev pub param_at : Scope → Param → Option (List ℕ) → Option Scope
param_at s p None = None
param_at s p (Some dims) = option_map (λ numbers. record {
  names = with_array s.names p.name (record { number = s.arrays; extents = dims });
  numbers = numbers;
  arrays = s.arrays + 1;
  locals = s.locals;
}) (bind_from s.numbers p.extents 0 dims)

-- the parameters from the i-th on, with the sizes that their extents bind
abbrev pub params_from : Scope → List Param → ℕ → List (List ℕ) → Option Scope
params_from s [] i extents = Some s
params_from s (p ∷ ps) i extents =
    option_and_then (λ t. params_from t ps (i + 1) extents) (param_at s p (slice_get extents i))

abbrev pub empty_scope : Scope
empty_scope = record { names = record { lists = []; arrays = []; blocks = [] }; numbers = []; arrays = 0; locals = [] }

-- ---- what the code does

-- the scope with one more parameter, where its extents fit
abbrev pub Fits : Option Scope → Bool → Scope → Type 0
Fits None fits new = fits ≡ false
Fits (Some s) fits new = (fits ≡ true) × (new ≡ s)
