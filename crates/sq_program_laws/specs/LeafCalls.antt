-- The leaf calls of forms, by their tables, with their paths.
use Rattle.std.specs.Prelude.{◌≡◌, ℕ, zero, suc, ◌+◌, List, [], ◌∷◌, ◌++◌, map, get_or, Option, Some, None, slice_get}
use Rattle.sq_spec.specs.declared.statement.CallInstance.{CallInstance}
use Rattle.sq_spec.specs.declared.statement.Statement.{Statement}
use Rattle.sq_spec.specs.declared.statement.Statement.TheOpen.{Statement-F}
use Rattle.sq_spec.specs.declared.statement.Statement.TheFolds.{fold-Statement}
use Rattle.sq_spec.specs.declared.body.Body.{Body}
use Rattle.sq_spec.specs.declared.body.Body.TheVariants as body
use Rattle.sq_spec.specs.declared.body.FormBody.{FormBody}
use Rattle.sq_placed.specs.declared.home.Homes.{Homes}
use Rattle.sq_placed.specs.Tables.{placed_of}
use Rattle.sq_cells.specs.Leaves.{sum_below}
use Rattle.sq_plan_laws.specs.LeafCalls.{calls_of}

-- how much a leaf call of a form weighs, by the form's number and the path
abbrev pub FormWeight : Type 0
FormWeight = (form : ℕ) → (path : List ℕ) → ℕ

abbrev pub row_calls : FormWeight → Option CallInstance → (path : List ℕ) → ℕ
row_calls callee None path = 0
row_calls callee (Some r) path = callee r.form path

abbrev pub all_calls : List (ℕ → List ℕ → ℕ) → (k : ℕ) → (path : List ℕ) → ℕ
all_calls [] k path = 0
all_calls (f ∷ fs) k path = f k path + all_calls fs k path

abbrev pub calls_step : FormWeight → Statement-F (ℕ → List ℕ → ℕ) → ℕ → List ℕ → ℕ
calls_step callee (Statement-F.Call lower instances) k path = row_calls callee (slice_get instances k) path
calls_step callee (Statement-F.Map place kind counts starts parts) k path =
    sum_below (get_or counts k 0) (λ t. all_calls parts (get_or starts k 0 + t) (path ++ t ∷ []))

-- of a statement that is begun for the k-th time; callee: the leaf calls in a form
abbrev pub statement_calls : FormWeight → Statement → ℕ → List ℕ → ℕ
statement_calls callee = fold-Statement (ℕ → List ℕ → ℕ) (calls_step callee)

abbrev pub body_calls : (weight callee : FormWeight) → (form : ℕ) → Body → (path : List ℕ) → ℕ
body_calls weight callee form (body.Leaf leaf) path = weight form path
body_calls weight callee form (body.Inner list) path = all_calls (map (statement_calls callee) list) 0 path

-- of the form with this number, round which no more than n forms are called within one another
abbrev pub form_calls : (ℕ → FormBody) → FormWeight → ℕ → FormWeight
form_calls bodies weight zero k path = 0
form_calls bodies weight (suc n) k path = body_calls weight (form_calls bodies weight n) k (bodies k).body path

-- What is placed of tables has their leaf calls, each with the code of its form.
abbrev pub CallsAreOfTables : Type 0
CallsAreOfTables = (bodies : ℕ → FormBody) (homes : ℕ → Homes) (weight : ℕ → List ℕ → ℕ) (n k : ℕ) (path : List ℕ)
    → calls_of weight (placed_of bodies homes n k) path
    ≡ form_calls bodies (λ form path. weight (homes form).code path) n k path
