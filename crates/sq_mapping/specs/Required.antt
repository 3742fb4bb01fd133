-- What a variant requires of its instances and of the entry: an instance for each task that it calls, a value for each
-- tunable and each size.
use Rattle.std.specs.Prelude.{Bool, true, false, List, [], ◌∷◌, ◌++◌, is_some, if◌then◌else◌}
use Rattle.std.specs.List.{fold, flat_map}
use Rattle.std.specs.Map.{lookup}
use Rattle.sq_ast.specs.declared.stmt.Stmt.{Stmt}
use Rattle.sq_ast.specs.declared.stmt.Stmt.TheOpen.{Stmt-F}
use Rattle.sq_ast.specs.declared.stmt.Stmt.TheFolds.{fold-Stmt}
use Rattle.sq_ast.specs.declared.program.Extent.{Extent}
use Rattle.sq_ast.specs.declared.program.Extent.TheVariants as extent
use Rattle.sq_ast.specs.declared.program.Param.{Param}
use Rattle.sq_ast.specs.declared.program.Decl.{Decl}
use Rattle.sq_ast.specs.declared.program.Decl.TheVariants as decl
use Rattle.sq_ast.specs.declared.program.Body.{Body}
use Rattle.sq_ast.specs.declared.program.Body.TheVariants as body
use Rattle.sq_ast.specs.declared.program.Variant.{Variant}
use Rattle.sq_text.specs.Names.{Bytes, same_name}
use Rattle.sq_mapping.specs.Names.{is_among}

-- these names and one more, if it isn't among them
abbrev pub with_name : List Bytes → Bytes → List Bytes
with_name names name = if is_among names name then names else names ++ name ∷ []

-- each name once, where it first stands
abbrev pub each_once : List Bytes → List Bytes
each_once names = fold with_name [] names

-- ---- the tasks that are called, in the order of the text

abbrev pub tasks_step : Stmt-F (List Bytes) → List Bytes
tasks_step (Stmt-F.Call c) = c.task ∷ []
tasks_step (Stmt-F.Map place kind ranges parts) = flat_map (λ part. part) parts

abbrev pub tasks_of : Stmt → List Bytes
tasks_of = fold-Stmt (List Bytes) tasks_step

abbrev pub body_tasks : Body → List Bytes
body_tasks (body.Inner list) = flat_map tasks_of list
body_tasks (body.Leaf list) = []

-- ---- tunables

-- a tunable, and whether it is a list
abbrev pub Tunables : Type 0
Tunables = List (Bytes × Bool)

abbrev pub tunables_of : Decl → Tunables
tunables_of (decl.Tunable place name) = (name, false) ∷ []
tunables_of (decl.List place name) = (name, true) ∷ []
tunables_of _ = []

-- of two declarations of a name the first counts
abbrev pub with_tunable : Tunables → Bytes → Bool → Tunables
with_tunable known name is_list = if is_some (lookup (same_name name) known) then known else known ++ (name, is_list) ∷ []

-- ---- the size names of the parameters, in the order of the text

abbrev pub extent_sizes : Extent → List Bytes
extent_sizes (extent.Size place name) = name ∷ []
extent_sizes (extent.Fixed place n) = []

abbrev pub sizes_of : Param → List Bytes
sizes_of p = flat_map extent_sizes p.extents

-- ----

pub record Required : Type 0 where
  pub calls : List Bytes
  pub tunables : Tunables
  pub sizes : List Bytes

abbrev pub required_by : Variant → Required
required_by v = record {
  calls = each_once (body_tasks v.body);
  tunables = fold (λ known t. with_tunable known t.0 t.1) [] (flat_map tunables_of v.decls);
  sizes = each_once (flat_map sizes_of v.params);
}
