-- The tables of the same run: they meet the conditions, and the term that is made of them has the nine events.
use Rattle.std.proofs.Common.{◌≡◌, ℕ, zero, suc, ◌+◌, pos, Bool, true, false, List, [], ◌∷◌, ◌++◌, None, refl, sym, ap}
use Rattle.std.proofs.Common.{subst, ◌∙◌}
use Rattle.std.specs.Prelude.{◌*◌}
use Rattle.sq_num.specs.declared.Elem.TheVariants.{Int}
use Rattle.sq_text.specs.declared.place.Place.{Place}
use Rattle.sq_text.specs.declared.spread.SpreadRule.TheVariants.{Cyclic}
use Rattle.sq_ir.specs.Rect.declared.view.View.{View}
use Rattle.sq_ast.specs.declared.program.Mode.{Mode}
use Rattle.sq_ast.specs.declared.program.Mode.TheVariants.{Input, Output}
use Rattle.sq_ir.specs.Leaf.declared.shape.Shape.{Shape}
use Rattle.sq_ir.specs.Leaf.Leaf.{Leaf as LeafSource}
use Rattle.sq_ir.specs.Tree.{Act, Seq, Par, Within}
use Rattle.sq_ir.specs.Events.{Spot, Copy, Fill, Leaf as LeafEvent}
use Rattle.sq_ir.specs.Written.{Setting, PlanTree, at_root, written, seq_of, par_of, scoped}
use Rattle.sq_ir.specs.Blocks.declared.argument.Argument.{Argument}
use Rattle.sq_placed.specs.Spec.declared.statement.LoopKind.TheVariants as loop_kind
use Rattle.sq_placed.specs.Spec.declared.statement.CallInstance.{CallInstance}
use Rattle.sq_placed.specs.Spec.declared.statement.Statement.{Statement}
use Rattle.sq_placed.specs.Spec.declared.statement.Statement.TheVariants as b
use Rattle.sq_placed.specs.Spec.declared.statement.Statement.TheOpen.{Statement-F}
use Rattle.sq_placed.specs.Spec.declared.body.Body.TheVariants as body
use Rattle.sq_placed.specs.Spec.declared.body.FormBody.{FormBody}
use Rattle.sq_placed.specs.declared.home.Home.TheVariants.{Own}
use Rattle.sq_placed.specs.declared.home.Homes.{Homes}
use Rattle.sq_placed.specs.Placed.{Placed, Then, Nothing, Call}
use Rattle.sq_placed.specs.Trees.{tree}
use Rattle.sq_placed.specs.Tables.{PlacedPart, placed_step, statement_placed, placed_of, entry_call_placed}
use Rattle.sq_placed.specs.Pipes.{NonePiped}
use Rattle.sq_term.specs.Terms.{entry_term}
use Rattle.sq_term.specs.Stands.{calls_in, AreLevel, AreLeveled, AreOf, LocalsOf, calls_of}
use Rattle.sq_term.specs.Laws.{entry_seats}
use Rattle.sq_placed.proofs.Opened.{part_call, part_map}
use Rattle.sq_placed.proofs.Pipes.{none_stand}
use Rattle.sq_term.proofs.Opened.{calls_call, calls_map}
use Rattle.sq_term.proofs.Whole.{entry_is_tree}

setting : Setting
setting = record {
  children = fan;
  child = λ n c. 1 + c;
  capacity = λ n. 64;
  buffers = 4;
  level = deep;
  size
      = λ b. 32;
  offset = place;
}
  where
    fan : ℕ → ℕ
    fan zero = 2
    fan (suc n) = 0

    place : ℕ → ℕ
    place zero = 0
    place (suc zero) = 32
    place (suc (suc zero)) = 0
    place (suc (suc (suc b))) = 16

    deep : ℕ → ℕ
    deep zero = 0
    deep (suc zero) = 0
    deep (suc (suc b)) = 1

shape : ℕ → Shape
shape n = record { elem = Int; extents = n ∷ [] }

argument : Mode → (array from to : ℕ) → Argument
argument mode array from to = record
    { mode = mode; is_reduced = false; array = array; rect = record { lo = from; hi = to } ∷ [] }

rows : List CallInstance
rows =
    record { form = 1; args = argument Input 0 0 4 ∷ argument Output 1 0 4 ∷ [] }
    ∷ record { form = 1; args = argument Input 0 4 8 ∷ argument Output 1 4 8 ∷ [] } ∷ []

place : Place
place = record { line = 5; col = 3 }

call : Statement
call = b.Call true rows

statement : Statement
statement = b.Map place loop_kind.Parallel (2 ∷ []) (0 ∷ []) (call ∷ [])

bodies : LeafSource → ℕ → FormBody
bodies leaf zero = record { arrays = shape 8 ∷ shape 8 ∷ []; body = body.Inner (statement ∷ []) }
bodies leaf (suc f) = record { arrays = shape 4 ∷ shape 4 ∷ []; body = body.Leaf leaf }

homes : ℕ → Homes
homes zero = record { rule = Cyclic; code = 0; params = Own 0 ∷ Own 1 ∷ []; locals = []; overlaps = false }
homes (suc f) = record { rule = Cyclic; code = 0; params = Own 2 ∷ Own 3 ∷ []; locals = []; overlaps = false }

args : List Argument
args = argument Input 0 0 8 ∷ argument Output 1 0 8 ∷ []

level : ℕ → ℕ
level zero = 0
level (suc f) = 1

-- ---- the conditions

calls_are : calls_in statement ++ [] ≡ (true, 1) ∷ (true, 1) ∷ []
unfolding statement call rows
calls_are = ap (λ l. l ++ []) (calls_map place loop_kind.Parallel (2 ∷ []) (0 ∷ []) (call ∷ []) ∙ ap
    (λ (l : List (Bool × ℕ)). l ++ []) (calls_call true rows))

leveled : (leaf : LeafSource) → AreLeveled setting (bodies leaf) homes level
unfolding setting bodies homes level
leveled leaf = record { params = params; locals = locals; calls = calls }
  where
    params : (f : ℕ) → AreOf setting (level f) (homes f).params
    params zero = (refl, (refl, tt))
    params (suc f) = (refl, (refl, tt))

    locals : (f : ℕ) → LocalsOf setting (level f) (homes f).locals
    locals zero = tt
    locals (suc f) = tt

    calls : (f : ℕ) → AreLevel level (level f) (calls_of (bodies leaf f).body)
    calls zero = subst (AreLevel level 0) (sym calls_are) (refl, (refl, tt))
    calls (suc f) = tt

free : NonePiped homes
unfolding homes
free zero = refl
free (suc f) = refl

-- ---- the events

spot : ℕ → ℕ → Spot
spot n a = record { node = n; at = a }

view : ℕ → View
view a = record { at = a; elem = Int; extents = 4 ∷ []; strides = 1 ∷ [] }

-- what stands at one child
lane : ℕ → ℕ → PlanTree
lane node i =
    Within (record { node = node; buffers = 2 ∷ 3 ∷ [] })
    (Seq (Par (Act (Copy (spot 0 (16 * i)) (spot node 0) 16)) (Act (Fill (spot node 16) Int 4 (pos 0))))
    (Seq (Act (LeafEvent node 0 (view 0 ∷ view 16 ∷ []) (i ∷ [])))
    (Act (Copy (spot node 16) (spot 0 (32 + 16 * i)) 16))))

part_is : (leaf : LeafSource) (callee : ℕ → Placed)
    → statement_placed (bodies leaf) homes callee Cyclic statement
    ≡ placed_step (bodies leaf) homes callee Cyclic
    (Statement-F.Map place loop_kind.Parallel (2 ∷ []) (0 ∷ [])
    (placed_step (bodies leaf) homes callee Cyclic (Statement-F.Call true rows) ∷ []))
unfolding statement call
part_is leaf callee =
    part_map (bodies leaf) homes callee Cyclic place loop_kind.Parallel (2 ∷ []) (0 ∷ []) (b.Call true rows ∷ [])
    ∙ ap (λ (p : PlacedPart). placed_step (bodies leaf) homes callee Cyclic
    (Statement-F.Map place loop_kind.Parallel (2 ∷ []) (0 ∷ []) (p ∷ [])))
    (part_call (bodies leaf) homes callee Cyclic true rows)

nine_events : (leaf : LeafSource)
    → scoped 0 (0 ∷ 1 ∷ []) (written setting (entry_term (bodies leaf) homes 2 args) at_root)
    ≡ Within (record { node = 0; buffers = 0 ∷ 1 ∷ [] })
    (Seq (Act (Fill (spot 0 32) Int 8 (pos 0))) (Par (lane 1 0) (lane 2 1)))
unfolding setting shape argument rows bodies homes args level spot view lane seq_of par_of
nine_events leaf =
    ap (scoped 0 (0 ∷ 1 ∷ [])) (entry_is_tree setting (bodies leaf) homes level (leveled leaf)
    (none_stand (bodies leaf) homes free) refl refl 2 args
    ∙ ap (λ (p : PlacedPart). tree setting
    (Call (entry_call_placed (bodies leaf 0) (homes 0) args) (Then (p.placed None false 0) Nothing)) 0 0
    (entry_seats setting (bodies leaf 0).arrays (homes 0).params) [])
    (part_is leaf (placed_of (bodies leaf) homes 1)))
