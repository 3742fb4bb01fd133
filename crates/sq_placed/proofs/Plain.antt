-- The placed source of tables, without its places, is the work of the tables.
use Rattle.std.proofs.Common.{◌≡◌, ℕ, zero, suc, ◌+◌, ◌<◌, Bool, true, false, ◌||◌, is_some, List, [], ◌∷◌, map}
use Rattle.std.proofs.Common.{get_or, slice_get, Option, Some, None, refl, sym, ap, subst, ◌∙◌}
use Rattle.sq_num.specs.declared.RedOp.{RedOp}
use Rattle.sq_text.specs.declared.place.Place.{Place}
use Rattle.sq_text.specs.declared.spread.SpreadRule.{SpreadRule}
use Rattle.sq_ir.specs.Leaf.declared.shape.Shape.{Shape}
use Rattle.sq_ir.specs.Blocks.declared.argument.Argument.{Argument}
use Rattle.sq_spec.specs.declared.statement.LoopKind.{LoopKind}
use Rattle.sq_spec.specs.declared.statement.LoopKind.TheVariants as loop_kind
use Rattle.sq_spec.specs.declared.statement.CallInstance.{CallInstance}
use Rattle.sq_spec.specs.declared.statement.Statement.{Statement, roll-Statement}
use Rattle.sq_spec.specs.declared.statement.Statement.TheVariants as b
use Rattle.sq_spec.specs.declared.statement.Statement.TheOpen.{Statement-F}
use Rattle.sq_spec.specs.declared.statement.Statement.TheFolds.{ind-Statement, map-Statement}
use Rattle.sq_spec.specs.declared.body.Body.{Body}
use Rattle.sq_spec.specs.declared.body.Body.TheVariants as body
use Rattle.sq_spec.specs.declared.body.FormBody.{FormBody}
use Rattle.sq_spec.specs.Work.Work as work
use Rattle.sq_spec.specs.Work.Work.{Work}
use Rattle.sq_spec.specs.Works.{map_work}
use Rattle.sq_spec.specs.StatementsWork.{row_work, all_work, statement_work}
use Rattle.sq_spec.specs.Bodies.{running, numbered_work}
use Rattle.sq_placed.specs.declared.home.Home.{Home}
use Rattle.sq_placed.specs.declared.home.Homes.{Homes}
use Rattle.sq_placed.specs.Placed.{Placed, PlacedArg, arguments, plain_call, plain_loop, plain}
use Rattle.sq_placed.specs.Tables.{placed_args, map_placed, op_of, spread_of, first_of, chain_of, leaving_chain}
use Rattle.sq_placed.specs.Tables.{hold_placed, holds, lanes_of, Pipe, pipe_of, placed_rule, row_call, row_body}
use Rattle.sq_placed.specs.Tables.{pipe_placed, PlacedPart, chains, any_lower, any_same, all_placed, row_placed}
use Rattle.sq_placed.specs.Tables.{placed_step, statement_placed, body_placed, placed_of}
use Rattle.sq_placed.specs.Pipes.{all_loops, loop_round, call_loops, call_loops_of, IsPiped, LoopsStand, PipesStand}
use Rattle.sq_placed.specs.SameWorks.{IsSameWork}
use Rattle.sq_placed.specs.Laws.{PlacedIsWork}
use Rattle.sq_placed.proofs.Opened.{work_call, work_map, part_call, part_map}
use Rattle.sq_placed.proofs.Pipes.{loops_left, loops_right, IsTaken, taken, loop_of, piped, map_loops, chains_placed}

pub plain_args : (op : Option RedOp) (shapes : List Shape) (homes : List Home) (i : ℕ) (args : List Argument)
    → arguments (placed_args op shapes homes i args) ≡ args
plain_args op shapes homes i [] = refl
plain_args op shapes homes i (a ∷ rest) = ap (λ l. a ∷ l) (plain_args op shapes homes (suc i) rest)

plain_map : (m : LoopKind) (place : Place) (spread : Option SpreadRule) (n : ℕ) (w : ℕ → Placed) (v : ℕ → Work)
    → ((t : ℕ) → t < n → IsSameWork (plain (w t)) (v t))
    → IsSameWork (plain (map_placed m place spread n w)) (map_work m place n v)
plain_map loop_kind.Sequential place spread n w v h = (refl, h)
plain_map loop_kind.Parallel place spread n w v h = (refl, refl, h)
plain_map (loop_kind.Reduction r) place spread n w v h = (refl, refl, refl, h)

plain_hold : (ps : List (ℕ × Argument)) (f : (ℕ × Argument) → PlacedArg) (w : Placed) → plain (hold_placed ps f w)
    ≡ plain w
plain_hold [] f w = refl
plain_hold (p ∷ ps) f w = refl

-- a loop that may overlap its transfers, where its iterations are the same
same_loop : (m : LoopKind) (spread lane : Option SpreadRule) → lanes_of m spread ≡ Some lane
    → (place : Place) (n : ℕ) (w v : ℕ → Work) → ((t : ℕ) → t < n → IsSameWork (w t) (v t))
    → IsSameWork (plain_loop (placed_rule place lane) n w) (map_work m place n v)
same_loop loop_kind.Sequential spread None e place n w v h = (refl, h)
same_loop loop_kind.Sequential spread (Some rule) e place n w v h = cc
same_loop loop_kind.Parallel None lane e place n w v h = cc
same_loop loop_kind.Parallel (Some rule) None e place n w v h = cc
same_loop loop_kind.Parallel (Some rule) (Some lane) e place n w v h = (refl, refl, h)
same_loop (loop_kind.Reduction r) spread lane e place n w v h = cc

module _ (bodies : ℕ → FormBody) (homes : ℕ → Homes) (callee : ℕ → Placed) (done : ℕ → Work)
    (same : (f : ℕ) → IsSameWork (plain (callee f)) (done f)) where
  plain_row : (op : Option RedOp) (lower : Bool) (o : Option CallInstance)
      → IsSameWork (plain (row_placed bodies homes callee op lower o)) (row_work done lower o)
  plain_row op lower None = tt
  plain_row op lower (Some r) =
      (refl, refl, plain_args op (bodies r.form).arrays (homes r.form).params 0 r.args, same r.form)

  -- the call of a loop whose transfers overlap, in an iteration that is there
  plain_call_row : (r : CallInstance)
      → IsSameWork (work.Then (plain_call (row_call bodies homes callee (Some r))
      (plain (row_body bodies homes callee (Some r)))) work.Nothing)
      (work.Then (row_work done true (Some r)) work.Nothing)
  plain_call_row r =
      ((refl, refl, plain_args None (bodies r.form).arrays (homes r.form).params 0 r.args, same r.form), tt)

  module _ (rule : SpreadRule) where
    abbrev part : Statement → PlacedPart
    part = statement_placed bodies homes callee rule

    abbrev IsPlain : Statement → Type 0
    IsPlain x = LoopsStand homes (call_loops x).loops → (op : Option RedOp) (inside : Bool) (k : ℕ)
        → IsSameWork (plain ((part x).placed op inside k)) (statement_work done x k)

    abbrev Known : Type 0
    Known = (x : Statement) × IsPlain x

    abbrev statements : List Known → List Statement
    statements = map (λ q. q.0)

    plain_all : (xs : List Known) → LoopsStand homes (all_loops (map call_loops (statements xs)))
        → (op : Option RedOp) (inside : Bool) (k : ℕ)
        → IsSameWork (plain (all_placed (map part (statements xs)) op inside k))
        (all_work (map (statement_work done) (statements xs)) k)
    plain_all [] h op inside k = tt
    plain_all (x ∷ xs) h op inside k = (
      x.1 (loops_left homes (call_loops x.0).loops (all_loops (map call_loops (statements xs))) h) op inside k,
      plain_all xs (loops_right homes (call_loops x.0).loops (all_loops (map call_loops (statements xs))) h) op inside
          k,
    )

    -- a loop whose transfers overlap
    plain_pipe : (place : Place) (m : LoopKind) (spread : Option SpreadRule) (counts starts : List ℕ)
        (xs : List Statement) (p : Pipe) → IsTaken homes m spread xs p → IsPiped (loop_of m counts starts p)
        → (k : ℕ) (loop : Placed)
        → IsSameWork
        (plain (pipe_placed bodies homes callee (Some p) place (get_or counts k 0) (get_or starts k 0) loop))
        (map_work m place (get_or counts k 0) (λ t. all_work (map (statement_work done) xs) (get_or starts k 0 + t)))
    plain_pipe place m spread counts starts xs p h g k loop =
        subst (λ (ws : List (ℕ → Work)). IsSameWork
        (plain (pipe_placed bodies homes callee (Some p) place (get_or counts k 0) (get_or starts k 0) loop))
        (map_work m place (get_or counts k 0) (λ t. all_work ws (get_or starts k 0 + t)))) (sym works)
        (same_loop m spread p.spread h.lanes place (get_or counts k 0) _ _ (λ t l.
        let r = g.there k t l in
        subst (λ (o : Option CallInstance). IsSameWork (work.Then (plain_call (row_call bodies homes callee o)
        (plain (row_body bodies homes callee o))) work.Nothing) (work.Then (row_work done true o) work.Nothing))
        (sym r.1) (plain_call_row r.0)))
      where
        works : map (statement_work done) xs ≡ (λ j. row_work done true (slice_get p.rows j)) ∷ []
        works = ap (map (statement_work done)) h.one
            ∙ ap (λ (w : ℕ → Work). w ∷ []) (work_call done true p.rows)

    plain_loops : (place : Place) (m : LoopKind) (counts starts : List ℕ) (xs : List Known)
        → LoopsStand homes (loop_round m counts starts (map call_loops (statements xs)))
        → LoopsStand homes (all_loops (map call_loops (statements xs)))
        → (inside : Bool) (k : ℕ) (spread : Option SpreadRule)
        → IsSameWork (plain (pipe_placed bodies homes callee
        (pipe_of homes m spread (chains (map part (statements xs)))) place (get_or counts k 0) (get_or starts k 0)
        (map_placed m place spread (get_or counts k 0)
        (λ t. all_placed (map part (statements xs)) (op_of m) (inside || is_some spread) (get_or starts k 0 + t)))))
        (map_work m place (get_or counts k 0)
        (λ t. all_work (map (statement_work done) (statements xs)) (get_or starts k 0 + t)))
    plain_loops place m counts starts xs round all inside k spread =
        go (pipe_of homes m spread (chains (map part (statements xs)))) refl
      where
        go : (o : Option Pipe) → pipe_of homes m spread (chains (map part (statements xs))) ≡ o
            → IsSameWork (plain (pipe_placed bodies homes callee o place (get_or counts k 0) (get_or starts k 0)
            (map_placed m place spread (get_or counts k 0)
            (λ t. all_placed (map part (statements xs)) (op_of m) (inside || is_some spread) (get_or starts k 0 + t)))))
            (map_work m place (get_or counts k 0)
            (λ t. all_work (map (statement_work done) (statements xs)) (get_or starts k 0 + t)))
        go None e = plain_map m place spread (get_or counts k 0) _ _
            (λ t l. plain_all xs all (op_of m) (inside || is_some spread) (get_or starts k 0 + t))
        go (Some p) e =
            let h = taken homes m spread (chains_placed bodies homes callee rule (statements xs)) p e in
            plain_pipe place m spread counts starts (statements xs) p h
            (piped homes m spread (statements xs) p h counts starts round) k
            (map_placed m place spread (get_or counts k 0)
            (λ t. all_placed (map part (statements xs)) (op_of m) (inside || is_some spread) (get_or starts k 0 + t)))

    plain_step : (y : Statement-F Known) → IsPlain (roll-Statement (map-Statement Known Statement (λ p. p.0) y))
    plain_step (Statement-F.Call lower instances)
        = subst IsPlain (sym (b.rolls-Call lower instances)) (λ stands op inside k.
        subst (λ (p : PlacedPart). IsSameWork (plain (p.placed op inside k))
        (statement_work done (b.Call lower instances) k)) (sym (part_call bodies homes callee rule lower instances))
        (subst (λ (f : ℕ → Work). IsSameWork
        (plain (row_placed bodies homes callee op lower (slice_get instances k))) (f k))
        (sym (work_call done lower instances)) (plain_row op lower (slice_get instances k))))
    plain_step (Statement-F.Map place m counts starts xs)
        = subst IsPlain (sym (b.rolls-Map place m counts starts (statements xs))) (λ stands op inside k.
        let parts = map part (statements xs) in
        let chain = chain_of first_of m starts (chains parts) in
        let within_it = inside || holds (leaving_chain homes chain) in
        let loops = map_loops homes place m counts starts (statements xs) stands in
        subst (λ (p : PlacedPart). IsSameWork (plain (p.placed op inside k))
        (statement_work done (b.Map place m counts starts (statements xs)) k))
        (sym (part_map bodies homes callee rule place m counts starts (statements xs)))
        (subst (λ (f : ℕ → Work). IsSameWork (plain ((placed_step bodies homes callee rule
        (Statement-F.Map place m counts starts parts)).placed op inside k)) (f k))
        (sym (work_map done place m counts starts (statements xs)))
        (subst (λ (w : Work). IsSameWork w (map_work m place (get_or counts k 0)
        (λ t. all_work (map (statement_work done) (statements xs)) (get_or starts k 0 + t))))
        (sym (plain_hold (leaving_chain homes chain) _ _))
        (plain_loops place m counts starts xs loops.0 loops.1 within_it k
        (spread_of rule m within_it (any_lower parts) (any_same parts))))))

    plain_statement : (x : Statement) → IsPlain x
    plain_statement = ind-Statement IsPlain (λ x y is. subst (λ z. IsPlain (roll-Statement z)) is (plain_step y))

    plain_statements : (list : List Statement) → LoopsStand homes (all_loops (map call_loops list))
        → (op : Option RedOp) (inside : Bool) (k : ℕ)
        → IsSameWork (plain (all_placed (map part list) op inside k)) (all_work (map (statement_work done) list) k)
    plain_statements [] h op inside k = tt
    plain_statements (x ∷ xs) h op inside k = (
      plain_statement x (loops_left homes (call_loops x).loops (all_loops (map call_loops xs)) h) op inside k,
      plain_statements xs (loops_right homes (call_loops x).loops (all_loops (map call_loops xs)) h) op inside k,
    )

  plain_body : (h : Homes) (shapes : List Shape) (x : Body) → LoopsStand homes (call_loops_of x)
      → IsSameWork (plain (body_placed bodies homes callee h shapes x)) (running done shapes x)
  plain_body h shapes (body.Leaf code) stands = refl
  plain_body h shapes (body.Inner list) stands = plain_statements h.rule list stands None false 0

pub plain_of : (bodies : ℕ → FormBody) (homes : ℕ → Homes) → PipesStand bodies homes → (n k : ℕ)
    → IsSameWork (plain (placed_of bodies homes n k)) (numbered_work bodies n k)
plain_of bodies homes stand zero k = tt
plain_of bodies homes stand (suc n) k =
    plain_body bodies homes (placed_of bodies homes n) (numbered_work bodies n) (plain_of bodies homes stand n)
    (homes k) (bodies k).arrays (bodies k).body (stand.each k)

pub plain_entry : PlacedIsWork
plain_entry bodies homes stand n args
    = (refl, refl, plain_args None (bodies 0).arrays [] 0 args, plain_of bodies homes stand n 0)
