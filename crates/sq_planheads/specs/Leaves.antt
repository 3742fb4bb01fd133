-- Tests of the leaves of a plan file.
use Rattle.std.specs.Prelude.{◌≡◌, Result, Ok, Err, pos, ℕ, Bool, true, ◌&&◌, is_some, if◌then◌else◌, List, [], ◌∷◌, ◌++◌, map, Option, Some, None}
use Rattle.std.specs.List.{list_all}
use Rattle.std.specs.Map.{lookup}
use Rattle.sq_text.specs.declared.code.Code.{Code}
use Rattle.sq_text.specs.declared.code.Code.TheVariants as code
use Rattle.sq_text.specs.declared.code.Phase.TheVariants.{Plan}
use Rattle.sq_text.specs.declared.fault.Stop.{Stop}
use Rattle.sq_text.specs.declared.fault.Stop.TheVariants.{Refused, NoMemory}
use Rattle.sq_text.specs.Found.{Breach, at_name, firsts, nothing_found}
use Rattle.sq_text.specs.Names.{Bytes, same_name}
use Rattle.sq_ast.specs.declared.program.Extent.{Extent}
use Rattle.sq_ast.specs.declared.program.Extent.TheVariants as extent
use Rattle.sq_ast.specs.declared.program.Param.{Param}
use Rattle.sq_ast.specs.declared.program.Decl.{Decl}
use Rattle.sq_ast.specs.declared.program.Decl.TheVariants as decl
use Rattle.sq_ast.specs.declared.program.Variant.{Variant}
use Rattle.sq_ast.specs.declared.program.Program.{Program}
use Rattle.sq_types.specs.Sound.{is_sound}
use Rattle.sq_blocks.specs.Names.{Numbers, Lists, with_number}
use Rattle.sq_blocks.specs.Constants.{worth}
use Rattle.sq_leaf.specs.Leaf.{Leaf as Code_of}
use Rattle.sq_ir.specs.DraftLeaves.{nat_of, nat_worth}
use Rattle.sq_ir.specs.declared.plan.Leaf.{Leaf}
use Rattle.sq_plantext.specs.declared.text.Binding.{Binding}
use Rattle.sq_plantext.specs.declared.text.LeafText.{LeafText}
use Rattle.sq_planfile.specs.Written.{names_in}
use Rattle.sq_planfile.specs.Sound.{extent_value}
use Rattle.sq_planheads.specs.Extents.{elements_of}

-- ---- names

abbrev pub is_bound : Numbers → Bytes → Bool
is_bound numbers name = is_some (lookup (same_name name) numbers)

-- these numbers and those of the bindings, where no name stands twice
abbrev pub with_bindings : Numbers → List Binding → Option Numbers
with_bindings numbers [] = Some numbers
with_bindings numbers (b ∷ bs) = if is_bound numbers b.name then None else with_bindings (with_number numbers b.name b.value) bs

abbrev pub is_size_bound : Numbers → Extent → Bool
is_size_bound numbers (extent.Size place name) = is_bound numbers name
is_size_bound numbers (extent.Fixed place n) = true

abbrev pub are_sizes_bound : Numbers → Param → Bool
are_sizes_bound numbers p = list_all (is_size_bound numbers) p.extents

abbrev pub is_tunable_bound : Numbers → Decl → Bool
is_tunable_bound numbers (decl.Tunable place name) = is_bound numbers name
is_tunable_bound numbers _ = true

-- each size name and tunable of the task has a number
abbrev pub are_names_bound : Numbers → Variant → Bool
are_names_bound numbers v = list_all (are_sizes_bound numbers) v.params && list_all (is_tunable_bound numbers) v.decls

-- a table of names, with these too
abbrev pub with_names : Numbers → List Bytes → Numbers
with_names table [] = table
with_names table (n ∷ ns) = with_names (with_number table n (pos 0)) ns

-- each name that has a number is one of these
abbrev pub are_wanted : Numbers → List Binding → Bool
are_wanted table bs = list_all (λ b. is_bound table b.name) bs

-- ---- extents

abbrev pub extent_of : Numbers → Extent → ℕ
extent_of numbers e = nat_of (extent_value numbers e)

abbrev pub param_fits : Numbers → Param → Bool
param_fits numbers p = is_some (elements_of (map (extent_of numbers) p.extents))

abbrev pub decl_fits : Numbers → Lists → Decl → Bool
decl_fits numbers lists (decl.Local place elem name extents) = is_some (elements_of (map (λ e. nat_worth (worth e numbers lists)) extents))
decl_fits numbers lists _ = true

abbrev pub arrays_fit : Numbers → Variant → Bool
arrays_fit numbers v = list_all (param_fits numbers) v.params && list_all (decl_fits numbers []) v.decls

-- ---- leaves

abbrev pub suits : Numbers → List Binding → Variant → Bool
suits numbers bs v = are_names_bound numbers v && (are_wanted (with_names [] (names_in v)) bs && arrays_fit numbers v)

abbrev pub suiting : Option Numbers → List Binding → Variant → Option Numbers
suiting None bs v = None
suiting (Some numbers) bs v = if suits numbers bs v then Some numbers else None

-- the numbers of a leaf, where they are those that its task asks for
abbrev pub numbers_for : List Binding → Variant → Option Numbers
numbers_for bs v = suiting (with_bindings [] bs) bs v

abbrev pub program_of : Variant → Program
program_of v = record { tasks = v ∷ [] }

-- the code of a task, where it breaks no rule of programs
abbrev pub checked : Variant → Option Numbers → Option Code_of
checked v None = None
checked v (Some numbers) = if is_sound (program_of v) then Some (record { variant = v; numbers = numbers }) else None

abbrev pub code_of : List Binding → Variant → Option Code_of
code_of bs v = checked v (numbers_for bs v)

abbrev pub leaf_code : Option Code_of → Option Code
leaf_code None = Some code.BadLeaf
leaf_code (Some c) = None

abbrev pub leaf_breach : LeafText → Option Breach
leaf_breach l = at_name (leaf_code (code_of l.numbers l.task)) l.place l.instance

-- the leaf, where it has code
abbrev pub leaf_by : Bytes → Option Code_of → List Leaf
leaf_by instance None = []
leaf_by instance (Some c) = record { instance = instance; code = c } ∷ []

abbrev pub leaves_by : List LeafText → List Leaf
leaves_by [] = []
leaves_by (l ∷ ls) = leaf_by l.instance (code_of l.numbers l.task) ++ leaves_by ls

-- what is answered: all leaves, where none is bad; else the first fault; or memory ran out
abbrev pub CompilesTo : List LeafText → Result (List Leaf) Stop → Type 0
CompilesTo ls (Ok made) = ((firsts leaf_breach (nothing_found Plan) ls).fault ≡ None) × (made ≡ leaves_by ls)
CompilesTo ls (Err (Refused f)) = (firsts leaf_breach (nothing_found Plan) ls).fault ≡ Some f
CompilesTo ls (Err NoMemory) = Unit {0}
