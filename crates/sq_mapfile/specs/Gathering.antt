-- What a variant requires, as the reader gathers it in sets: these names, with those of a part. No public clause speaks
-- of it.
use Rattle.std.specs.Prelude.{true, false, List, [], ◌∷◌, map}
use Rattle.sq_ast.specs.declared.stmt.Stmt.{Stmt}
use Rattle.sq_ast.specs.declared.stmt.Stmt.TheOpen.{Stmt-F}
use Rattle.sq_ast.specs.declared.stmt.Stmt.TheFolds.{fold-Stmt}
use Rattle.sq_ast.specs.declared.program.Extent.{Extent}
use Rattle.sq_ast.specs.declared.program.Extent.TheVariants as extent
use Rattle.sq_ast.specs.declared.program.Param.{Param}
use Rattle.sq_ast.specs.declared.program.Decl.{Decl}
use Rattle.sq_ast.specs.declared.program.Decl.TheVariants as decl
use Rattle.sq_ast.specs.declared.program.Body.{Body}
use Rattle.sq_ast.specs.declared.program.Body.TheVariants as body
use Rattle.sq_text.specs.Names.{Bytes}
use Rattle.sq_ast.specs.declared.program.Variant.{Variant}
use Rattle.sq_mapping.specs.Required.{Required, Tunables, with_name, with_tunable}

-- ---- the tasks that are called

abbrev pub Gather : Type 0
Gather = List Bytes → List Bytes

abbrev pub all_of : List Gather → Gather
all_of [] names = names
all_of (part ∷ parts) names = all_of parts (part names)

abbrev pub stmt_step : Stmt-F Gather → Gather
stmt_step (Stmt-F.Call c) names = with_name names c.task
stmt_step (Stmt-F.Map place kind ranges parts) names = all_of parts names

abbrev pub stmt_calls : Stmt → Gather
stmt_calls = fold-Stmt Gather stmt_step

abbrev pub stmts_calls : List Stmt → Gather
stmts_calls list = all_of (map stmt_calls list)

abbrev pub body_calls : Body → List Bytes
body_calls (body.Inner list) = stmts_calls list []
body_calls (body.Leaf list) = []

-- ---- tunables

abbrev pub decls_tunables : List Decl → Tunables → Tunables
decls_tunables [] known = known
decls_tunables (decl.Tunable place name ∷ rest) known = decls_tunables rest (with_tunable known name false)
decls_tunables (decl.List place name ∷ rest) known = decls_tunables rest (with_tunable known name true)
decls_tunables (_ ∷ rest) known = decls_tunables rest known

-- ---- the size names of the parameters, each once, in the order of the text

abbrev pub extents_sizes : List Extent → Gather
extents_sizes [] names = names
extents_sizes (extent.Size place name ∷ rest) names = extents_sizes rest (with_name names name)
extents_sizes (extent.Fixed place n ∷ rest) names = extents_sizes rest names

abbrev pub params_sizes : List Param → Gather
params_sizes [] names = names
params_sizes (p ∷ rest) names = params_sizes rest (extents_sizes p.extents names)

-- ----

abbrev pub gathered_by : Variant → Required
gathered_by v = record { calls = body_calls v.body; tunables = decls_tunables v.decls []; sizes = params_sizes v.params [] }
