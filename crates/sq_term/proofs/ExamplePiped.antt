-- A loop of three calls, each of which reads a third of an array of 12 `int`s and writes a third of another, whose
-- transfers overlap: as a `mapseq`, and spread over two children.
use Rattle.std.proofs.Common.{◌≡◌, ℕ, zero, suc, ◌+◌, pos, ◌<◌, Bool, true, false, List, [], ◌∷◌, ◌++◌, get_or}
use Rattle.std.proofs.Common.{slice_get, None, Some, refl, sym, ap, subst, ◌∙◌, arith}
use Rattle.std.specs.Prelude.{◌*◌}
use Rattle.sq_num.specs.declared.Elem.TheVariants.{Int}
use Rattle.sq_text.specs.declared.place.Place.{Place}
use Rattle.sq_text.specs.declared.spread.SpreadRule.TheVariants.{Cyclic}
use Rattle.sq_ir.specs.Rect.declared.view.View.{View}
use Rattle.sq_ast.specs.declared.program.Mode.{Mode}
use Rattle.sq_ast.specs.declared.program.Mode.TheVariants.{Input, Output}
use Rattle.sq_ir.specs.Leaf.declared.shape.Shape.{Shape}
use Rattle.sq_ir.specs.Leaf.Leaf.{Leaf as LeafSource}
use Rattle.sq_ir.specs.Tree.{Act, Seq, Par, Within}
use Rattle.sq_ir.specs.Events.{Spot, Copy, Fill, Leaf as LeafEvent}
use Rattle.sq_ir.specs.Written.{Setting, PlanTree, at_root, written, seq_of, par_of, scoped}
use Rattle.sq_ir.specs.Blocks.declared.argument.Argument.{Argument}
use Rattle.sq_placed.specs.Spec.declared.statement.LoopKind.{LoopKind}
use Rattle.sq_placed.specs.Spec.declared.statement.LoopKind.TheVariants as loop_kind
use Rattle.sq_placed.specs.Spec.declared.statement.CallInstance.{CallInstance}
use Rattle.sq_placed.specs.Spec.declared.statement.Statement.{Statement}
use Rattle.sq_placed.specs.Spec.declared.statement.Statement.TheVariants as b
use Rattle.sq_placed.specs.Spec.declared.statement.Statement.TheOpen.{Statement-F}
use Rattle.sq_placed.specs.Spec.declared.body.Body.TheVariants as body
use Rattle.sq_placed.specs.Spec.declared.body.FormBody.{FormBody}
use Rattle.sq_placed.specs.declared.home.Home.TheVariants.{Own, Twin}
use Rattle.sq_placed.specs.declared.home.Homes.{Homes}
use Rattle.sq_placed.specs.Placed.{Placed, Then, Nothing, Call}
use Rattle.sq_placed.specs.Trees.{tree}
use Rattle.sq_placed.specs.Tables.{PlacedPart, placed_step, statement_placed, placed_of, entry_call_placed}
use Rattle.sq_placed.specs.Pipes.{CallLoop, CallLoops, loop_round, call_loops, call_loops_of, AreHeads, no_heads}
use Rattle.sq_placed.specs.Pipes.{more_heads, IsPiped, LoopsStand, PipesStand}
use Rattle.sq_term.specs.Terms.{entry_term}
use Rattle.sq_term.specs.Stands.{calls_in, AreLevel, AreLeveled, AreOf, LocalsOf, calls_of}
use Rattle.sq_term.specs.Laws.{entry_seats}
use Rattle.sq_placed.proofs.Opened.{part_call, part_map}
use Rattle.sq_placed.proofs.Pipes.{loops_call, loops_map}
use Rattle.sq_term.proofs.Opened.{calls_call, calls_map}
use Rattle.sq_term.proofs.Whole.{entry_is_tree}

-- node 0 has the children 1 and 2; buffers 0 and 1 stand at the root, 2 to 5 at the children
setting : Setting
setting = record {
  children = fan;
  child = λ n c. 1 + c;
  capacity = λ n. 96;
  buffers = 6;
  level = deep;
  size
      = λ b. 48;
  offset = place;
}
  where
    fan : ℕ → ℕ
    fan zero = 2
    fan (suc n) = 0

    place : ℕ → ℕ
    place zero = 0
    place (suc zero) = 48
    place (suc (suc zero)) = 0
    place (suc (suc (suc zero))) = 16
    place (suc (suc (suc (suc zero)))) = 32
    place (suc (suc (suc (suc (suc b))))) = 48

    deep : ℕ → ℕ
    deep zero = 0
    deep (suc zero) = 0
    deep (suc (suc b)) = 1

shape : ℕ → Shape
shape n = record { elem = Int; extents = n ∷ [] }

argument : Mode → (array from to : ℕ) → Argument
argument mode array from to = record
    { mode = mode; is_reduced = false; array = array; rect = record { lo = from; hi = to } ∷ [] }

row : ℕ → CallInstance
row i = record { form = 1; args = argument Input 0 (4 * i) (4 * i + 4) ∷ argument Output 1 (4 * i) (4 * i + 4) ∷ [] }

rows : List CallInstance
rows = row 0 ∷ row 1 ∷ row 2 ∷ []

place : Place
place = record { line = 5; col = 3 }

call : Statement
call = b.Call true rows

statement : LoopKind → Statement
statement m = b.Map place m (3 ∷ []) (0 ∷ []) (call ∷ [])

bodies : LoopKind → LeafSource → ℕ → FormBody
bodies m leaf zero = record { arrays = shape 12 ∷ shape 12 ∷ []; body = body.Inner (statement m ∷ []) }
bodies m leaf (suc f) = record { arrays = shape 4 ∷ shape 4 ∷ []; body = body.Leaf leaf }

homes : ℕ → Homes
homes zero = record { rule = Cyclic; code = 0; params = Own 0 ∷ Own 1 ∷ []; locals = []; overlaps = false }
homes (suc f) = record { rule = Cyclic; code = 0; params = Twin 2 3 ∷ Twin 4 5 ∷ []; locals = []; overlaps = true }

args : List Argument
args = argument Input 0 0 12 ∷ argument Output 1 0 12 ∷ []

level : ℕ → ℕ
level zero = 0
level (suc f) = 1

-- ---- the conditions

calls_are : (m : LoopKind) → calls_in (statement m) ++ [] ≡ (true, 1) ∷ (true, 1) ∷ (true, 1) ∷ []
unfolding statement call rows row
calls_are m = ap (λ l. l ++ []) (calls_map place m (3 ∷ []) (0 ∷ []) (call ∷ []) ∙ ap
    (λ (l : List (Bool × ℕ)). l ++ []) (calls_call true rows))

leveled : (m : LoopKind) (leaf : LeafSource) → AreLeveled setting (bodies m leaf) homes level
unfolding setting bodies homes level
leveled m leaf = record { params = params; locals = locals; calls = calls }
  where
    params : (f : ℕ) → AreOf setting (level f) (homes f).params
    params zero = (refl, (refl, tt))
    params (suc f) = ((refl, refl), ((refl, refl), tt))

    locals : (f : ℕ) → LocalsOf setting (level f) (homes f).locals
    locals zero = tt
    locals (suc f) = tt

    calls : (f : ℕ) → AreLevel level (level f) (calls_of (bodies m leaf f).body)
    calls zero = subst (AreLevel level 0) (sym (calls_are m)) (refl, (refl, (refl, tt)))
    calls (suc f) = tt

row_is : (i : ℕ) (r : CallInstance) → slice_get rows i ≡ Some r → (j : ℕ) × (row j ≡ r)
unfolding rows
row_is zero r e = (0, cc)
row_is (suc zero) r e = (1, cc)
row_is (suc (suc zero)) r e = (2, cc)
row_is (suc (suc (suc i))) r e = cc

form_is : (j : ℕ) → (row j).form ≡ 1
unfolding row
form_is j = refl

heads_are : (i j : ℕ) → AreHeads (row i).args (row j).args
unfolding row argument
heads_are i j = more_heads (record { mode = refl; is_reduced = refl; array = refl })
    (more_heads (record { mode = refl; is_reduced = refl; array = refl }) no_heads)

loop : LoopKind → CallLoop
loop m = record { kind = m; rows = rows; counts = 3 ∷ []; starts = 0 ∷ [] }

piped : (m : LoopKind) → IsPiped (loop m)
unfolding loop rows
piped m = record {
  there = there;
  form = λ i j r q e f. let x = row_is i r e in let y = row_is j q f in
      ap (λ (z : CallInstance). z.form) (sym x.1) ∙ form_is x.0 ∙ sym (form_is y.0)
      ∙ ap (λ (z : CallInstance). z.form) y.1;
  heads = λ i j r q e f. let x = row_is i r e in let y = row_is j q f in
      subst (λ (z : CallInstance). AreHeads z.args q.args) x.1
      (subst (λ (z : CallInstance). AreHeads (row x.0).args z.args) y.1 (heads_are x.0 y.0));
}
  where
    row_there : (t : ℕ) → t < 3 → (r : CallInstance) × (slice_get rows t ≡ Some r)
    row_there zero l = (row 0, refl)
    row_there (suc zero) l = (row 1, refl)
    row_there (suc (suc zero)) l = (row 2, refl)
    row_there (suc (suc (suc t))) l = absurd (omega (arith, l))

    there : (k t : ℕ) → t < get_or (3 ∷ []) k 0 → (r : CallInstance)
        × (slice_get rows (get_or (0 ∷ []) k 0 + t) ≡ Some r)
    there zero t l = let z : 0 + t ≡ t = omega arith in let x = row_there t l in (x.0, ap (slice_get rows) z ∙ x.1)
    there (suc k) t l = absurd (omega (arith, l))

loops_are : (m : LoopKind) → (call_loops (statement m)).loops ++ [] ≡ loop m ∷ []
unfolding statement call loop
loops_are m = ap (λ (l : CallLoops). l.loops ++ []) (loops_map place m (3 ∷ []) (0 ∷ []) (call ∷ []))
    ∙ ap (λ (l : CallLoops). (loop_round m (3 ∷ []) (0 ∷ []) (l ∷ []) ++ (l.loops ++ [])) ++ []) (loops_call true rows)

stand : (m : LoopKind) (leaf : LeafSource) → PipesStand (bodies m leaf) homes
unfolding bodies
stand m leaf = record { each = each }
  where
    each : (f : ℕ) → LoopsStand homes (call_loops_of (bodies m leaf f).body)
    each zero = subst (LoopsStand homes) (sym (loops_are m)) ((λ e. piped m), tt)
    each (suc f) = tt

-- ---- the events

spot : ℕ → ℕ → Spot
spot n a = record { node = n; at = a }

view : ℕ → View
view a = record { at = a; elem = Int; extents = 4 ∷ []; strides = 1 ∷ [] }

-- of iteration i, at this node, in one of the two sets: what comes in, the call, and what goes out
come : (node set i : ℕ) → PlanTree
come node set i =
    Par (Act (Copy (spot 0 (16 * i)) (spot node (16 * set)) 16)) (Act (Fill (spot node (32 + 16 * set)) Int 4 (pos 0)))

work : (node set i : ℕ) → PlanTree
work node set i = Act (LeafEvent node 0 (view (16 * set) ∷ view (32 + 16 * set) ∷ []) (i ∷ []))

back : (node set i : ℕ) → PlanTree
back node set i = Act (Copy (spot node (32 + 16 * set)) (spot 0 (48 + 16 * i)) 16)

both_sets : (node : ℕ) → PlanTree → PlanTree
both_sets node lane = Within (record { node = node; buffers = 2 ∷ 4 ∷ 3 ∷ 5 ∷ [] }) lane

part_is : (m : LoopKind) (leaf : LeafSource) (callee : ℕ → Placed)
    → statement_placed (bodies m leaf) homes callee Cyclic (statement m)
    ≡ placed_step (bodies m leaf) homes callee Cyclic
    (Statement-F.Map place m (3 ∷ []) (0 ∷ [])
    (placed_step (bodies m leaf) homes callee Cyclic (Statement-F.Call true rows) ∷ []))
unfolding statement call
part_is m leaf callee =
    part_map (bodies m leaf) homes callee Cyclic place m (3 ∷ []) (0 ∷ []) (b.Call true rows ∷ [])
    ∙ ap (λ (p : PlacedPart). placed_step (bodies m leaf) homes callee Cyclic
    (Statement-F.Map place m (3 ∷ []) (0 ∷ []) (p ∷ [])))
    (part_call (bodies m leaf) homes callee Cyclic true rows)

written_out : (m : LoopKind) (leaf : LeafSource) → written setting (entry_term (bodies m leaf) homes 2 args) at_root
    ≡ tree setting (Call (entry_call_placed (bodies m leaf 0) (homes 0) args)
    (Then ((placed_step (bodies m leaf) homes (placed_of (bodies m leaf) homes 1) Cyclic
    (Statement-F.Map place m (3 ∷ []) (0 ∷ [])
    (placed_step (bodies m leaf) homes (placed_of (bodies m leaf) homes 1) Cyclic (Statement-F.Call true rows)
    ∷ []))).placed None false 0) Nothing)) 0 0
    (entry_seats setting (bodies m leaf 0).arrays (homes 0).params) []
unfolding setting bodies homes level
written_out m leaf =
    entry_is_tree setting (bodies m leaf) homes level (leveled m leaf) (stand m leaf) refl refl 2 args
    ∙ ap (λ (p : PlacedPart). tree setting
    (Call (entry_call_placed (bodies m leaf 0) (homes 0) args) (Then (p.placed None false 0) Nothing)) 0 0
    (entry_seats setting (bodies m leaf 0).arrays (homes 0).params) [])
    (part_is m leaf (placed_of (bodies m leaf) homes 1))

-- in sequence all stand at child 1
in_sequence : (leaf : LeafSource)
    → scoped 0 (0 ∷ 1 ∷ []) (written setting (entry_term (bodies loop_kind.Sequential leaf) homes 2 args) at_root)
    ≡ Within (record { node = 0; buffers = 0 ∷ 1 ∷ [] })
    (Seq (Act (Fill (spot 0 48) Int 12 (pos 0)))
    (both_sets 1 (Seq (come 1 0 0)
    (Seq
    (Seq (Par (work 1 0 0) (come 1 1 1))
    (Seq (Par (work 1 1 1) (Seq (back 1 0 0) (come 1 0 2))) (Par (work 1 0 2) (back 1 1 1))))
    (back 1 0 2)))))
unfolding setting shape argument row rows bodies homes args level spot view come work back both_sets seq_of par_of
in_sequence leaf = ap (scoped 0 (0 ∷ 1 ∷ [])) (written_out loop_kind.Sequential leaf)

-- spread, iterations 0 and 2 stand at child 1, and iteration 1 at child 2
in_spread : (leaf : LeafSource)
    → scoped 0 (0 ∷ 1 ∷ []) (written setting (entry_term (bodies loop_kind.Parallel leaf) homes 2 args) at_root)
    ≡ Within (record { node = 0; buffers = 0 ∷ 1 ∷ [] })
    (Seq (Act (Fill (spot 0 48) Int 12 (pos 0)))
    (Par
    (both_sets 1 (Seq (come 1 0 0)
    (Seq (Seq (Par (work 1 0 0) (come 1 1 2)) (Par (work 1 1 2) (back 1 0 0))) (back 1 1 2))))
    (both_sets 2 (Seq (come 2 0 1) (Seq (work 2 0 1) (back 2 0 1))))))
unfolding setting shape argument row rows bodies homes args level spot view come work back both_sets seq_of par_of
in_spread leaf = ap (scoped 0 (0 ∷ 1 ∷ [])) (written_out loop_kind.Parallel leaf)
