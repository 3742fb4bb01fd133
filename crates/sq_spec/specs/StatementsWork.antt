-- The work that the tables of a form's statements stand for.
use Rattle.std.specs.Prelude.{◌≡◌, ℕ, ◌+◌, Bool, List, [], ◌∷◌, map, get_or, slice_get, Option, Some, None}
use Rattle.sq_ast.specs.Num.declared.Elem.{Elem}
use Rattle.sq_ast.specs.declared.stmt.Stmt.{Stmt}
use Rattle.sq_form_laws.specs.Blocks.Names.{Numbers}
use Rattle.sq_work.specs.Leaf.Source.{Arrays}
use Rattle.sq_spec.specs.declared.statement.CallInstance.{CallInstance}
use Rattle.sq_spec.specs.declared.statement.Statement.{Statement}
use Rattle.sq_spec.specs.declared.statement.Statement.TheOpen.{Statement-F}
use Rattle.sq_spec.specs.declared.statement.Statement.TheFolds.{fold-Statement}
use Rattle.sq_form_laws.specs.Forms.Steps.{Forms}
use Rattle.sq_form_laws.specs.Forms.Args.{Names}
use Rattle.sq_form_laws.specs.Forms.Worlds.{Frame}
use Rattle.sq_form_laws.specs.Forms.Resolving.{start}
use Rattle.sq_spec.specs.Statements.{tables}
use Rattle.sq_work.specs.Work.{Work, Nothing, Then, Call}
use Rattle.sq_spec.specs.Works.{map_work, stmts_work}
use Rattle.sq_work.specs.Meaning.{meaning}

-- callee: the work of a form, by its number
abbrev pub row_work : (ℕ → Work) → Bool → Option CallInstance → Work
row_work callee lower None = Nothing
row_work callee lower (Some r) = Call r.form lower r.args (callee r.form)

-- statements one after another, each begun for the k-th time
abbrev pub all_work : List (ℕ → Work) → ℕ → Work
all_work [] k = Nothing
all_work (w ∷ ws) k = Then (w k) (all_work ws k)

abbrev pub statement_step : (ℕ → Work) → Statement-F (ℕ → Work) → ℕ → Work
statement_step callee (Statement-F.Call lower times) k = row_work callee lower (slice_get times k)
statement_step callee (Statement-F.Map place kind counts starts body) k =
    map_work kind place (get_or counts k 0) (λ t. all_work body (get_or starts k 0 + t))

-- a statement that is begun for the k-th time
abbrev pub statement_work : (ℕ → Work) → Statement → ℕ → Work
statement_work callee = fold-Statement (ℕ → Work) (statement_step callee)

-- the statements of a form, of which each is begun once
abbrev pub statements_work : (ℕ → Work) → List Statement → Work
statements_work callee list = all_work (map (statement_work callee) list) 0

-- The tables of a form's statements mean what the statements mean, whatever the callees do.
abbrev pub TablesMeanStatements : Type 0
TablesMeanStatements = (forms : Forms) (frame : Frame) (names : Names) (elems : List Elem) (numbers : Numbers)
    (callee : ℕ → Work) (list : List Stmt) (s : Arrays)
    → meaning (statements_work callee (tables forms frame names elems numbers list)) s
    ≡ meaning (stmts_work forms (λ n form. callee n) elems list frame names start numbers) s
