-- The leaf calls of a source, each with the number of its form and its path.
--
-- The path of a call has the numbers of the iterations round it, the outermost first. Leaf code belongs to the form of
-- the innermost call round it.
use Rattle.std.specs.Prelude.{◌≡◌, ℕ, ◌+◌, List, [], ◌∷◌, ◌++◌, length}
use Rattle.sq_work.specs.Work.{Work, Nothing, Then, Each, AtOnce, Gathers, Call, Leaf}
use Rattle.sq_spec.specs.declared.resolved.Resolved.{Resolved}
use Rattle.sq_spec.specs.Bodies.{body_of}
use Rattle.sq_spec.specs.Works.{work_of}
use Rattle.sq_cells.specs.Leaves.{sum_below}
use Rattle.sq_plan_good.specs.ProgramLaws.LeafCalls.{FormWeight, form_calls}

-- of a work in this form: the sum of what its leaf calls weigh
abbrev pub work_calls : FormWeight → (form : ℕ) → Work → (path : List ℕ) → ℕ
work_calls weight form Nothing path = 0
work_calls weight form (Then a b) path = work_calls weight form a path + work_calls weight form b path
work_calls weight form (Each n w) path = sum_below n (λ t. work_calls weight form (w t) (path ++ t ∷ []))
work_calls weight form (AtOnce place n w) path = sum_below n (λ t. work_calls weight form (w t) (path ++ t ∷ []))
work_calls weight form (Gathers r place n w) path = sum_below n (λ t. work_calls weight form (w t) (path ++ t ∷ []))
work_calls weight form (Call callee lower args w) path = work_calls weight callee w path
work_calls weight form (Leaf code) path = weight form path

-- of a program, whose entry is form 0
abbrev pub program_calls : FormWeight → Resolved → ℕ
program_calls weight r = work_calls weight 0 (work_of r.typed.now.tasks r.mapping.now r.found.entries) []

-- The tables of a program count the leaf calls of its source, whatever each weighs.
abbrev pub TablesCountLeafCalls : Type 0
TablesCountLeafCalls = (r : Resolved) (weight : FormWeight)
    → form_calls (body_of r.typed.now.tasks r.mapping.now.instances r.found.entries) weight (length r.found.entries) 0
    [] ≡ program_calls weight r
