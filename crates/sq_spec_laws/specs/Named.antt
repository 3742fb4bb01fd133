-- What names stand for in a form: each name that is known at a place of a program without a fault stands for something
-- there.
use Rattle.std.specs.Prelude.{◌≡◌, ℕ, suc, ◌<◌, ℤ, true, List, [], Option, Some, Ok, IsSome}
use Rattle.std.specs.Map.{lookup}
use Rattle.sq_text.specs.Names.{Bytes, same_name}
use Rattle.sq_ast.specs.declared.program.Param.{Param}
use Rattle.sq_ast.specs.declared.program.Variant.{Variant}
use Rattle.sq_ast.specs.declared.stmt.Range.{Range}
use Rattle.sq_forms.specs.Mappings.declared.mapping.Tuning.{Tuning}
use Rattle.sq_types.specs.declared.kind.Kind.{Kind}
use Rattle.sq_types.specs.declared.kind.Kind.TheVariants as kind
use Rattle.sq_types.specs.Known.{Known, kind_of}
use Rattle.sq_types.specs.Sites.{params_known, decls_known, ranges_known}
use Rattle.sq_types.specs.Sound.{names_number, names_list, names_array, fits_param}
use Rattle.sq_blocks.specs.Names.{Numbers}
use Rattle.sq_forms.specs.Args.{Names}
use Rattle.sq_forms.specs.Stmts.{bounds, times, in_iteration}
use Rattle.sq_forms.specs.Decls.{Scope, empty_scope, params_from, all_declared}

-- a number for a size, a tunable number or a variable, a list for a tunable list, an array, or the blocks of a block
-- set
abbrev pub IsThere : Names → Numbers → Bytes → Kind → Type 0
IsThere names numbers name kind.Size = IsSome (lookup (same_name name) numbers)
IsThere names numbers name kind.Scalar = IsSome (lookup (same_name name) numbers)
IsThere names numbers name kind.Variable = IsSome (lookup (same_name name) numbers)
IsThere names numbers name kind.List = IsSome (lookup (same_name name) names.lists)
IsThere names numbers name (kind.Array array) = IsSome (lookup (same_name name) names.arrays)
IsThere names numbers name (kind.Rchop array) = IsSome (lookup (same_name name) names.blocks)
IsThere names numbers name (kind.Ichop array) = IsSome (lookup (same_name name) names.blocks)

-- each known name stands for something of its kind
pub record Stand (known : Known) (names : Names) (numbers : Numbers) : Type 0 where
  pub all : (name : Bytes) (kind : Kind) → kind_of known name ≡ Some kind → IsThere names numbers name kind

-- Behind the declarations of a form each name that is known in the text stands for something.
abbrev pub DeclaredNamesStand : Type 0
DeclaredNamesStand = (v : Variant) (tunings : List Tuning) (extents : List (List ℕ)) (begun scope : Scope)
    → params_from empty_scope v.params 0 extents ≡ Some begun
    → all_declared tunings begun v.decls ≡ Ok scope
    → Stand (decls_known v.decls (params_known v.params [])) scope.names scope.numbers

-- And in each iteration of a map its variables do.
abbrev pub VariablesStand : Type 0
VariablesStand = (known : Known) (names : Names) (numbers : Numbers) (ranges : List Range) (ns : List ℤ) (t : ℕ)
    → Stand known names numbers
    → bounds ranges numbers names.lists ≡ Ok ns → t < times ns
    → Stand (ranges_known ranges known) names (in_iteration ranges ns t numbers)

-- So a name that may stand for a number has one, and a list, an array and an argument are there.
pub record NamesServe (known : Known) (names : Names) (numbers : Numbers) : Type 0 where
  pub number : (name : Bytes) → names_number name known ≡ true → IsSome (lookup (same_name name) numbers)
  pub list : (name : Bytes) → names_list name known ≡ true → IsSome (lookup (same_name name) names.lists)
  pub array : (name : Bytes) → names_array name known ≡ true → IsSome (lookup (same_name name) names.arrays)
  -- an argument without indices is an array, and one with indices a block of a block set
  pub whole : (param : Option Param) (name : Bytes) → fits_param 0 param name known ≡ true
      → IsSome (lookup (same_name name) names.arrays)
  pub block : (n : ℕ) (param : Option Param) (name : Bytes) → fits_param (suc n) param name known ≡ true
      → IsSome (lookup (same_name name) names.blocks)

abbrev pub StandingNamesServe : Type 0
StandingNamesServe = (known : Known) (names : Names) (numbers : Numbers) → Stand known names numbers
    → NamesServe known names numbers
