-- The leaf calls of what is placed of tables are those of the tables.
use Rattle.std.proofs.Common.{◌≡◌, ℕ, zero, suc, ◌+◌, Bool, true, false, ◌||◌, is_some, List, [], ◌∷◌, ◌++◌, map}
use Rattle.std.proofs.Common.{get_or, Option, Some, None, refl, sym, ap, ap₂, ◌∙◌, subst, arith}
use Rattle.std.specs.Prelude.{slice_get}
use mathlib.Core.Path.{fun_ext}
use Rattle.sq_num.specs.declared.RedOp.{RedOp}
use Rattle.sq_text.specs.declared.place.Place.{Place}
use Rattle.sq_text.specs.declared.spread.SpreadRule.{SpreadRule}
use Rattle.sq_leaf.specs.declared.shape.Shape.{Shape}
use Rattle.sq_blocks.specs.declared.argument.Argument.{Argument}
use Rattle.sq_spec.specs.declared.statement.LoopKind.{LoopKind}
use Rattle.sq_spec.specs.declared.statement.LoopKind.TheVariants as loop_kind
use Rattle.sq_spec.specs.declared.statement.CallInstance.{CallInstance}
use Rattle.sq_spec.specs.declared.statement.Statement.{Statement, roll-Statement}
use Rattle.sq_spec.specs.declared.statement.Statement.TheVariants as b
use Rattle.sq_spec.specs.declared.statement.Statement.TheOpen.{Statement-F}
use Rattle.sq_spec.specs.declared.statement.Statement.TheFolds.{ind-Statement, map-Statement, fold-roll-Statement}
use Rattle.sq_spec.specs.declared.body.Body.{Body}
use Rattle.sq_spec.specs.declared.body.Body.TheVariants as body
use Rattle.sq_spec.specs.declared.body.FormBody.{FormBody}
use Rattle.sq_placed.specs.declared.home.Homes.{Homes}
use Rattle.sq_placed.specs.Placed.{Placed, PlacedArg}
use Rattle.sq_placed.specs.Tables.{map_placed, op_of, spread_of, first_of, chain_of, leaving_chain, hold_placed, holds}
use Rattle.sq_placed.specs.Tables.{PlacedPart, chains, any_lower, any_same, all_placed, row_placed, statement_placed}
use Rattle.sq_placed.specs.Tables.{body_placed, placed_of, Pipe, pipe_of, pipe_placed, row_body}
use Rattle.sq_placed.proofs.Opened.{part_call, part_map}
use Rattle.sq_placed.proofs.Pipes.{taken, chains_placed}
use Rattle.sq_cells.specs.Leaves.{sum_below}
use Rattle.sq_plan_laws.specs.LeafCalls.{calls_of}
use Rattle.sq_program_laws.specs.LeafCalls.{FormWeight, row_calls, all_calls, calls_step, statement_calls, body_calls}
use Rattle.sq_program_laws.specs.LeafCalls.{form_calls, CallsAreOfTables}

calls_call : (callee : FormWeight) (lower : Bool) (instances : List CallInstance)
    → statement_calls callee (b.Call lower instances) ≡ calls_step callee (Statement-F.Call lower instances)
calls_call callee lower instances = ap (statement_calls callee) (sym (b.rolls-Call lower instances))
    ∙ fold-roll-Statement (ℕ → List ℕ → ℕ) (calls_step callee) (Statement-F.Call lower instances)

calls_map : (callee : FormWeight) (p : Place) (m : LoopKind) (counts starts : List ℕ) (xs : List Statement)
    → statement_calls callee (b.Map p m counts starts xs)
    ≡ calls_step callee (Statement-F.Map p m counts starts (map (statement_calls callee) xs))
calls_map callee p m counts starts xs = ap (statement_calls callee) (sym (b.rolls-Map p m counts starts xs))
    ∙ fold-roll-Statement (ℕ → List ℕ → ℕ) (calls_step callee) (Statement-F.Map p m counts starts xs)

module _ (weight : ℕ → List ℕ → ℕ) where
  of_map : (m : LoopKind) (place : Place) (spread : Option SpreadRule) (n : ℕ) (w : ℕ → Placed) (path : List ℕ)
      → calls_of weight (map_placed m place spread n w) path ≡ sum_below n (λ t. calls_of weight (w t) (path ++ t ∷ []))
  of_map loop_kind.Sequential place spread n w path = refl
  of_map loop_kind.Parallel place spread n w path = refl
  of_map (loop_kind.Reduction r) place spread n w path = refl

  of_hold : (ps : List (ℕ × Argument)) (f : (ℕ × Argument) → PlacedArg) (w : Placed) (path : List ℕ)
      → calls_of weight (hold_placed ps f w) path ≡ calls_of weight w path
  of_hold [] f w path = refl
  of_hold (p ∷ ps) f w path = refl

  module _ (bodies : ℕ → FormBody) (homes : ℕ → Homes) (callee : ℕ → Placed) (done : FormWeight)
      (same : (f : ℕ) (path : List ℕ) → calls_of weight (callee f) path ≡ done f path) where
    of_row : (op : Option RedOp) (lower : Bool) (o : Option CallInstance) (path : List ℕ)
        → calls_of weight (row_placed bodies homes callee op lower o) path ≡ row_calls done o path
    of_row op lower None path = refl
    of_row op lower (Some r) path = same r.form path

    module _ (rule : SpreadRule) where
      abbrev part : Statement → PlacedPart
      part = statement_placed bodies homes callee rule

      abbrev Counts : Statement → Type 0
      Counts x = (op : Option RedOp) (inside : Bool) (k : ℕ) (path : List ℕ)
          → calls_of weight ((part x).placed op inside k) path ≡ statement_calls done x k path

      abbrev Known : Type 0
      Known = (x : Statement) × Counts x

      abbrev statements : List Known → List Statement
      statements = map (λ q. q.0)

      of_all : (xs : List Known) (op : Option RedOp) (inside : Bool) (k : ℕ) (path : List ℕ)
          → calls_of weight (all_placed (map part (statements xs)) op inside k) path
          ≡ all_calls (map (statement_calls done) (statements xs)) k path
      of_all [] op inside k path = refl
      of_all (x ∷ xs) op inside k path = ap₂ (λ m n. m + n) (x.1 op inside k path) (of_all xs op inside k path)

      -- a loop whose transfers overlap has the calls of the loop
      of_pipe : (o : Option Pipe) (m : LoopKind) (place : Place) (spread : Option SpreadRule) (xs : List Known)
          → pipe_of homes m spread (chains (map part (statements xs))) ≡ o
          → (inside : Bool) (n start : ℕ) (path : List ℕ)
          → calls_of weight (pipe_placed bodies homes callee o place n start (map_placed m place spread n
          (λ t. all_placed (map part (statements xs)) (op_of m) inside (start + t)))) path
          ≡ sum_below n (λ t. all_calls (map (statement_calls done) (statements xs)) (start + t) (path ++ t ∷ []))
      of_pipe None m place spread xs e inside n start path =
          of_map m place spread n _ path
          ∙ ap (sum_below n) (fun_ext (λ t. of_all xs (op_of m) inside (start + t) (path ++ t ∷ [])))
      of_pipe (Some p) m place spread xs e inside n start path =
          let one = taken homes m spread (chains_placed bodies homes callee rule (statements xs)) p e in
          ap (sum_below n) (fun_ext (λ t. of_body (slice_get p.rows (start + t)) (path ++ t ∷ [])
          ∙ its (start + t) (path ++ t ∷ [])))
          ∙ ap (λ (l : List Statement). sum_below n (λ t. all_calls (map (statement_calls done) l) (start + t)
          (path ++ t ∷ []))) (sym one.one)
        where
          of_body : (o : Option CallInstance) (path : List ℕ) → calls_of weight (row_body bodies homes callee o) path
              ≡ row_calls done o path
          of_body None path = refl
          of_body (Some r) path = same r.form path

          its : (k : ℕ) (path : List ℕ) → row_calls done (slice_get p.rows k) path
              ≡ all_calls (map (statement_calls done) (b.Call true p.rows ∷ [])) k path
          its k path =
              let z : row_calls done (slice_get p.rows k) path ≡ row_calls done (slice_get p.rows k) path + 0
              = omega arith in
              z ∙ ap (λ (f : ℕ → List ℕ → ℕ). f k path + 0) (sym (calls_call done true p.rows))

      step : (y : Statement-F Known) → Counts (roll-Statement (map-Statement Known Statement (λ p. p.0) y))
      step (Statement-F.Call lower instances) = subst Counts (sym (b.rolls-Call lower instances)) (λ op inside k path.
          ap (λ (p : PlacedPart). calls_of weight (p.placed op inside k) path)
          (part_call bodies homes callee rule lower instances)
          ∙ (of_row op lower (slice_get instances k) path
          ∙ ap (λ (f : ℕ → List ℕ → ℕ). f k path) (sym (calls_call done lower instances))))
      step (Statement-F.Map place m counts starts xs)
          = subst Counts (sym (b.rolls-Map place m counts starts (statements xs))) (λ op inside k path.
          let parts = map part (statements xs) in
          let chain = chain_of first_of m starts (chains parts) in
          let within_it = inside || holds (leaving_chain homes chain) in
          let spread = spread_of rule m within_it (any_lower parts) (any_same parts) in
          ap (λ (p : PlacedPart). calls_of weight (p.placed op inside k) path)
          (part_map bodies homes callee rule place m counts starts (statements xs))
          ∙ (of_hold (leaving_chain homes chain) _ _ path
          ∙ (of_pipe (pipe_of homes m spread (chains parts)) m place spread xs refl (within_it || is_some spread)
          (get_or counts k 0) (get_or starts k 0) path
          ∙ ap (λ (f : ℕ → List ℕ → ℕ). f k path) (sym (calls_map done place m counts starts (statements xs))))))

      statement_counts : (x : Statement) → Counts x
      statement_counts = ind-Statement Counts (λ x y is. subst (λ z. Counts (roll-Statement z)) is (step y))

      list_counts : (list : List Statement) (op : Option RedOp) (inside : Bool) (k : ℕ) (path : List ℕ)
          → calls_of weight (all_placed (map part list) op inside k) path
          ≡ all_calls (map (statement_calls done) list) k path
      list_counts [] op inside k path = refl
      list_counts (x ∷ xs) op inside k path
          = ap₂ (λ m n. m + n) (statement_counts x op inside k path) (list_counts xs op inside k path)

    body_counts : (form : ℕ) (shapes : List Shape) (x : Body) (path : List ℕ)
        → calls_of weight (body_placed bodies homes callee (homes form) shapes x) path
        ≡ body_calls (λ f path. weight (homes f).code path) done form x path
    body_counts form shapes (body.Leaf code) path = refl
    body_counts form shapes (body.Inner list) path = list_counts (homes form).rule list None false 0 path

pub calls_are_of_tables : CallsAreOfTables
calls_are_of_tables bodies homes weight zero k path = refl
calls_are_of_tables bodies homes weight (suc n) k path =
    body_counts weight bodies homes (placed_of bodies homes n)
    (form_calls bodies (λ form path. weight (homes form).code path) n)
    (λ f path. calls_are_of_tables bodies homes weight n f path) k (bodies k).arrays (bodies k).body path
