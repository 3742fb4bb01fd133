-- What the reader gathers in sets is each name once.
use Rattle.std.proofs.Common.{◌≡◌, Bool, true, false, List, [], ◌∷◌, ◌++◌, map, refl, sym, ◌∙◌, ap, subst}
use Rattle.std.specs.List.{fold, flat_map}
use Rattle.sq_text.specs.Names.{Bytes}
use Rattle.sq_text.specs.declared.place.Place.{Place}
use Rattle.sq_ast.specs.declared.stmt.Call.{Call}
use Rattle.sq_ast.specs.declared.stmt.Range.{Range}
use Rattle.sq_ast.specs.declared.stmt.MapKind.{MapKind}
use Rattle.sq_ast.specs.declared.stmt.Stmt.{Stmt, roll-Stmt}
use Rattle.sq_ast.specs.declared.stmt.Stmt.TheVariants as s
use Rattle.sq_ast.specs.declared.stmt.Stmt.TheOpen.{Stmt-F}
use Rattle.sq_ast.specs.declared.stmt.Stmt.TheFolds.{fold-roll-Stmt, ind-Stmt, map-Stmt}
use Rattle.sq_ast.specs.declared.program.Extent.{Extent}
use Rattle.sq_ast.specs.declared.program.Extent.TheVariants as extent
use Rattle.sq_ast.specs.declared.program.Param.{Param}
use Rattle.sq_ast.specs.declared.program.Body.{Body}
use Rattle.sq_ast.specs.declared.program.Body.TheVariants as body
use Rattle.sq_ast.specs.declared.program.Variant.{Variant}
use Rattle.sq_ast.specs.declared.program.Decl.{Decl}
use Rattle.sq_ast.specs.declared.program.Decl.TheVariants as decl
use Rattle.sq_mapping.specs.Required.{Tunables, required_by, body_tasks, with_name, with_tunable, each_once, tasks_step, tasks_of, tunables_of, extent_sizes, sizes_of}
use Rattle.sq_mapfile.specs.Gathering.{Gather, gathered_by, body_calls, stmt_calls, stmts_calls, decls_tunables, extents_sizes, params_sizes}
use Rattle.sq_mapfile.proofs.OpenedCalls.{calls_call, calls_map}

fold-append : {A B : Type 0} (f : B → A → B) (a : B) (xs ys : List A) → fold f a (xs ++ ys) ≡ fold f (fold f a xs) ys
fold-append f a [] ys = refl
fold-append f a (x ∷ xs) ys = fold-append f (f a x) xs ys

-- ---- tasks

parts_map : (xs : List Stmt) → flat_map (λ part. part) (map tasks_of xs) ≡ flat_map tasks_of xs
parts_map [] = refl
parts_map (x ∷ xs) = ap (λ l. tasks_of x ++ l) (parts_map xs)

tasks_call : (c : Call) → tasks_of (s.Call c) ≡ c.task ∷ []
tasks_call c = ap tasks_of (sym (s.rolls-Call c)) ∙ fold-roll-Stmt (List Bytes) tasks_step (Stmt-F.Call c)

tasks_map : (p : Place) (k : MapKind) (rs : List Range) (xs : List Stmt) → tasks_of (s.Map p k rs xs) ≡ flat_map tasks_of xs
tasks_map p k rs xs = ap tasks_of (sym (s.rolls-Map p k rs xs)) ∙ fold-roll-Stmt (List Bytes) tasks_step (Stmt-F.Map p k rs xs) ∙ parts_map xs

abbrev OfStmt : Stmt → Type 0
OfStmt x = (names : List Bytes) → stmt_calls x names ≡ fold with_name names (tasks_of x)

abbrev S : Type 0
S = (x : Stmt) × OfStmt x

of_parts : (xs : List S) (names : List Bytes) → stmts_calls (map (λ (q : S). q.0) xs) names ≡ fold with_name names (flat_map tasks_of (map (λ (q : S). q.0) xs))
of_parts [] names = refl
of_parts (x ∷ xs) names =
    of_parts xs (stmt_calls x.0 names) ∙ ap (λ known. fold with_name known (flat_map tasks_of (map (λ (q : S). q.0) xs))) (x.1 names)
    ∙ sym (fold-append with_name names (tasks_of x.0) (flat_map tasks_of (map (λ (q : S). q.0) xs)))

stmt_step : (y : Stmt-F S) → OfStmt (roll-Stmt (map-Stmt S Stmt (λ p. p.0) y))
stmt_step (Stmt-F.Call c) = subst OfStmt (sym (s.rolls-Call c)) (λ names. ap (λ (g : Gather). g names) (calls_call c) ∙ ap (fold with_name names) (sym (tasks_call c)))
stmt_step (Stmt-F.Map p k rs xs) =
    let ys = map (λ (q : S). q.0) xs in
    subst OfStmt (sym (s.rolls-Map p k rs ys)) (λ names. ap (λ (g : Gather). g names) (calls_map p k rs ys) ∙ of_parts xs names ∙ ap (fold with_name names) (sym (tasks_map p k rs ys)))

of_stmt : (x : Stmt) → OfStmt x
of_stmt = ind-Stmt OfStmt (λ x y is. subst (λ z. OfStmt (roll-Stmt z)) is (stmt_step y))

of_stmts : (xs : List Stmt) (names : List Bytes) → stmts_calls xs names ≡ fold with_name names (flat_map tasks_of xs)
of_stmts [] names = refl
of_stmts (x ∷ xs) names =
    of_stmts xs (stmt_calls x names) ∙ ap (λ known. fold with_name known (flat_map tasks_of xs)) (of_stmt x names) ∙ sym (fold-append with_name names (tasks_of x) (flat_map tasks_of xs))

tasks_once : (xs : List Stmt) → stmts_calls xs [] ≡ each_once (flat_map tasks_of xs)
tasks_once xs = of_stmts xs []

-- ---- tunables

abbrev enter : Tunables → (Bytes × Bool) → Tunables
enter known t = with_tunable known t.0 t.1

of_decls : (decls : List Decl) (known : Tunables) → decls_tunables decls known ≡ fold enter known (flat_map tunables_of decls)
of_decls [] known = refl
of_decls (decl.Tunable place name ∷ rest) known = of_decls rest (with_tunable known name false)
of_decls (decl.List place name ∷ rest) known = of_decls rest (with_tunable known name true)
of_decls (other ∷ rest) known = of_decls rest known

tunables_once : (decls : List Decl) → decls_tunables decls [] ≡ fold (λ known t. with_tunable known t.0 t.1) [] (flat_map tunables_of decls)
tunables_once decls = of_decls decls []

-- ---- sizes

of_extents : (extents : List Extent) (names : List Bytes) → extents_sizes extents names ≡ fold with_name names (flat_map extent_sizes extents)
of_extents [] names = refl
of_extents (extent.Size place name ∷ rest) names = of_extents rest (with_name names name)
of_extents (extent.Fixed place n ∷ rest) names = of_extents rest names

of_params : (params : List Param) (names : List Bytes) → params_sizes params names ≡ fold with_name names (flat_map sizes_of params)
of_params [] names = refl
of_params (p ∷ rest) names =
    of_params rest (extents_sizes p.extents names) ∙ ap (λ known. fold with_name known (flat_map sizes_of rest)) (of_extents p.extents names)
    ∙ sym (fold-append with_name names (sizes_of p) (flat_map sizes_of rest))

sizes_once : (params : List Param) → params_sizes params [] ≡ each_once (flat_map sizes_of params)
sizes_once params = of_params params []

-- ---- all

body_once : (b : Body) → body_calls b ≡ each_once (body_tasks b)
body_once (body.Inner list) = tasks_once list
body_once (body.Leaf list) = refl

pub gathered_once : (v : Variant) → gathered_by v ≡ required_by v
gathered_once v =
    ap (λ calls. record (gathered_by v) { calls = calls }) (body_once v.body)
    ∙ ap (λ tunables. record (gathered_by v) { calls = each_once (body_tasks v.body); tunables = tunables }) (tunables_once v.decls)
    ∙ ap (λ sizes. record (required_by v) { sizes = sizes }) (sizes_once v.params)
