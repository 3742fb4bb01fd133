-- Tables and homes that are as asked: a `mapseq` of two lower calls of a leaf that overlaps its transfers. One argument
-- leaves the loop, and one has two buffers.
use Rattle.std.proofs.Common.{◌≡◌, ℕ, zero, suc, ◌+◌, ◌≤◌, true, List, [], ◌∷◌, length, get_or, slice_get}
use Rattle.std.proofs.Common.{Some, None, refl, sym, false, ◌<◌, Option, subst, arith, ap, ◌∙◌, ◌++◌}
use Rattle.sq_text.specs.declared.place.Place.{Place}
use Rattle.sq_text.specs.declared.spread.SpreadRule.TheVariants.{Cyclic}
use Rattle.sq_leaf.specs.declared.shape.Shape.{Shape}
use Rattle.sq_leaf.specs.Leaf.{Leaf as LeafSource}
use Rattle.sq_blocks.specs.declared.argument.Argument.{Argument}
use Rattle.sq_spec.specs.declared.statement.LoopKind.TheVariants as loop_kind
use Rattle.sq_spec.specs.declared.statement.CallInstance.{CallInstance}
use Rattle.sq_spec.specs.declared.statement.Statement.{Statement}
use Rattle.sq_spec.specs.declared.statement.Statement.TheVariants as b
use Rattle.sq_spec.specs.declared.body.Body.TheVariants as body
use Rattle.sq_spec.specs.declared.body.FormBody.{FormBody}
use Rattle.sq_spec.specs.Bodies.{no_body}
use Rattle.sq_homes.specs.SpecLaws.TableRows.{Table, tables_in}
use Rattle.sq_spec.specs.Work.declared.reduction.Reduction.{Reduction}
use Rattle.sq_placed.specs.Pipes.{CallLoop, CallLoops, loop_round, call_loops, call_loops_of, AreHeads, no_heads}
use Rattle.sq_placed.specs.Pipes.{more_heads, IsPiped, LoopsStand, PipesStand}
use Rattle.sq_placed.proofs.Pipes.{loops_call, loops_map}
use Rattle.sq_placed.specs.declared.home.Home.TheVariants.{InPlace, Own, Held, Twin}
use Rattle.sq_placed.specs.declared.home.Homes.{Homes}
use Rattle.sq_program_laws.specs.PlanLaws.Seated.{IsNear}
use Rattle.sq_draft_laws.specs.Scope.{HomesAreNear}
use Rattle.sq_draft_laws.specs.Paths.{Nested, nested_of, PathsFit, LeavesAreSmall}
use Rattle.sq_draft_laws.proofs.Every.{Every, every_at}
use Rattle.sq_program_laws.specs.TermLaws.Orders.{EachOf, Round, rounds_of}
use Rattle.sq_program_laws.specs.TermLaws.Held.{IsHeldRow, AreHeldRows, AreHeldInside}
use Rattle.sq_program_laws.specs.TermLaws.Overlapping.{IsSuited, AskedInMaps, RowOverlaps, BodyOverlaps, OverlapsStand}
use Rattle.sq_program_laws.proofs.TermLaws.Overlaps.{overlaps_call, overlaps_map}
use Rattle.sq_draft_laws.proofs.Scoped.{tables_call, tables_map, rounds_call, rounds_map}
use Rattle.sq_draft_laws.proofs.Paths.{RowsFit, nested_call, nested_map}

module _ (place : Place) (leaf : LeafSource) (x : Shape) (a : Argument) where
  abbrev row : CallInstance
  row = record { form = 1; args = a ∷ a ∷ [] }

  abbrev call : Statement
  call = b.Call true (row ∷ row ∷ [])

  abbrev loop : Statement
  loop = b.Map place loop_kind.Sequential (2 ∷ []) (0 ∷ []) (call ∷ [])

  abbrev bodies : ℕ → FormBody
  bodies zero = record { arrays = x ∷ []; body = body.Inner (loop ∷ []) }
  bodies (suc zero) = record { arrays = x ∷ x ∷ []; body = body.Leaf leaf }
  bodies (suc (suc k)) = no_body

  -- the entry's array in a buffer of its own, the leaf's first one round the loop, its second one in two in turn
  abbrev homes : ℕ → Homes
  homes zero = record { rule = Cyclic; code = 0; params = Own 0 ∷ []; locals = []; overlaps = false }
  homes (suc k) = record { rule = Cyclic; code = 0; params = Held 1 1 ∷ Twin 2 3 ∷ []; locals = []; overlaps = true }

  -- one map stands round the leaf
  abbrev round : ℕ → ℕ
  round zero = 0
  round (suc k) = 1

  nested : nested_of (bodies 0).body ≡ record { loops = 1; times = row ∷ row ∷ [] } ∷ []
  nested = ap (λ (f : ℕ → List Nested). f 0 ++ [])
      (nested_map place loop_kind.Sequential (2 ∷ []) (0 ∷ []) (call ∷ []))
      ∙ ap (λ (f : ℕ → List Nested). (f 1 ++ []) ++ []) (nested_call true (row ∷ row ∷ []))

  paths_fit : PathsFit bodies round
  paths_fit = record { calls = calls; short = short }
    where
      calls : (k i : ℕ) (t : Nested) → slice_get (nested_of (bodies k).body) i ≡ Some t → (j : ℕ) (r : CallInstance)
          → slice_get t.times j ≡ Some r → round k + t.loops ≤ round r.form
      calls zero i t e j r g =
          let fit = every_at (RowsFit round 0) (nested_of (bodies 0).body) i t
          (subst (Every (RowsFit round 0)) (sym nested) ((omega arith, (omega arith, tt)), tt)) e in
          every_at (λ (r : CallInstance). 0 + t.loops ≤ round r.form) t.times j r fit g
      calls (suc zero) i t e j r g = cc
      calls (suc (suc k)) i t e j r g = cc

      short : (k : ℕ) (l : LeafSource) → (bodies k).body ≡ body.Leaf l → round k ≤ 64
      short zero l e = omega arith
      short (suc k) l e = omega arith

  leaves_are_small : LeavesAreSmall bodies
  leaves_are_small = record { few = few }
    where
      few : (k : ℕ) (l : LeafSource) → (bodies k).body ≡ body.Leaf l → length (bodies k).arrays ≤ 32
      few zero l e = cc
      few (suc zero) l e = omega arith
      few (suc (suc k)) l e = omega arith

  tables : tables_in (loop ∷ []) None ≡ record { red = None; lower = true; times = row ∷ row ∷ [] } ∷ []
  tables = ap (λ (f : Option Reduction → List Table). f None ++ [])
      (tables_map place loop_kind.Sequential (2 ∷ []) (0 ∷ []) (call ∷ []))
      ∙ ap (λ (f : Option Reduction → List Table). (f None ++ []) ++ []) (tables_call true (row ∷ row ∷ []))

  abbrev Near : Table → Type 0
  Near t = Every (λ (r : CallInstance). (k : ℕ) → k < length r.args
      → IsNear t.lower (get_or (homes r.form).params k InPlace)) t.times

  -- the arguments' homes
  first : (k : ℕ) → k < 2 → IsNear true (get_or (Held 1 1 ∷ Twin 2 3 ∷ []) k InPlace)
  first zero l = tt
  first (suc zero) l = tt
  first (suc (suc k)) l = absurd (omega (arith, l))

  -- ---- the loop that it leaves

  rounds : rounds_of (bodies 0).body ≡ record { loops = 1; rows = row ∷ row ∷ [] } ∷ []
  rounds = ap (λ (f : ℕ → List Round). f 0 ++ [])
      (rounds_map place loop_kind.Sequential (2 ∷ []) (0 ∷ []) (call ∷ []))
      ∙ ap (λ (f : ℕ → List Round). f 1 ++ []) (rounds_call true (row ∷ row ∷ []))

  one_loop : (i b n : ℕ) → get_or (Held 1 1 ∷ Twin 2 3 ∷ []) i InPlace ≡ Held b n → n ≡ 1
  one_loop zero b n e = cc
  one_loop (suc zero) b n e = absurd (cc e)
  one_loop (suc (suc i)) b n e = absurd (cc e)

  one_form : (j : ℕ) (q : CallInstance) → slice_get (row ∷ row ∷ []) j ≡ Some q → q.form ≡ 1
  one_form zero q e = let same : row ≡ q = cc e in sym (ap (λ (r : CallInstance). r.form) same)
  one_form (suc zero) q e = let same : row ≡ q = cc e in sym (ap (λ (r : CallInstance). r.form) same)
  one_form (suc (suc j)) q e = absurd (cc e)

  held_row : IsHeldRow homes (record { loops = 1; rows = row ∷ row ∷ [] }) row
  held_row = record {
    some = λ i b n e. let x = one_loop i b n e in omega (arith, x);
    round = λ i b n e. let x = one_loop i b n e in omega (arith, x);
    one = λ i b n e j q there. one_form j q there;
  }

  held_inside : AreHeldInside bodies homes
  held_inside zero = subst (EachOf (AreHeldRows homes)) (sym rounds) ((held_row, (held_row, tt)), tt)
  held_inside (suc zero) = tt
  held_inside (suc (suc k)) = tt

  -- ---- the loop's transfers

  overlaps : RowOverlaps homes true true (row ∷ row ∷ []) row
  overlaps = record { lower_is = λ o. refl; alone_is = λ o. refl; one = λ o j q e. one_form j q e }

  calls_overlap : (f : ℕ) → BodyOverlaps homes (bodies f).body
  calls_overlap zero = (
    subst (λ (f : AskedInMaps). f false false)
        (sym (overlaps_map homes place loop_kind.Sequential (2 ∷ []) (0 ∷ []) (call ∷ []))) (
          subst (λ (f : AskedInMaps). f false true) (sym (overlaps_call homes true (row ∷ row ∷ [])))
              (overlaps, (overlaps, tt)),
          tt,
        ),
    tt,
  )
  calls_overlap (suc zero) = tt
  calls_overlap (suc (suc f)) = tt

  suited : (f : ℕ) → EachOf (IsSuited (homes f).overlaps) (homes f).params
  suited zero = (refl, tt)
  suited (suc f) = (tt, (refl, tt))

  overlaps_stand : OverlapsStand bodies homes
  overlaps_stand = record { entry = refl; params = suited; calls = calls_overlap }

  call_loop : CallLoop
  call_loop = record
      { kind = loop_kind.Sequential; rows = row ∷ row ∷ []; counts = 2 ∷ []; starts = 0 ∷ [] }

  row_is : (j : ℕ) (q : CallInstance) → slice_get (row ∷ row ∷ []) j ≡ Some q → row ≡ q
  row_is zero q e = cc e
  row_is (suc zero) q e = cc e
  row_is (suc (suc j)) q e = absurd (cc e)

  same_heads : AreHeads row.args row.args
  same_heads = more_heads (record { mode = refl; is_reduced = refl; array = refl })
      (more_heads (record { mode = refl; is_reduced = refl; array = refl }) no_heads)

  piped : IsPiped call_loop
  unfolding call_loop
  piped = record {
    there = there;
    form = λ i j r q e f. one_form i r e ∙ sym (one_form j q f);
    heads = λ i j r q e f. subst (λ (z : CallInstance). AreHeads z.args q.args) (row_is i r e)
        (subst (λ (z : CallInstance). AreHeads row.args z.args) (row_is j q f) same_heads);
  }
    where
      row_there : (t : ℕ) → t < 2 → (r : CallInstance) × (slice_get (row ∷ row ∷ []) t ≡ Some r)
      row_there zero l = (row, refl)
      row_there (suc zero) l = (row, refl)
      row_there (suc (suc t)) l = absurd (omega (arith, l))

      there : (k t : ℕ) → t < get_or (2 ∷ []) k 0 → (r : CallInstance)
          × (slice_get (row ∷ row ∷ []) (get_or (0 ∷ []) k 0 + t) ≡ Some r)
      there zero t l = let z : 0 + t ≡ t = omega arith in let x = row_there t l in
          (x.0, ap (slice_get (row ∷ row ∷ [])) z ∙ x.1)
      there (suc k) t l = absurd (omega (arith, l))

  loops_are : (call_loops loop).loops ++ [] ≡ call_loop ∷ []
  unfolding call_loop
  loops_are = ap (λ (l : CallLoops). l.loops ++ [])
      (loops_map place loop_kind.Sequential (2 ∷ []) (0 ∷ []) (call ∷ []))
      ∙ ap (λ (l : CallLoops). (loop_round loop_kind.Sequential (2 ∷ []) (0 ∷ []) (l ∷ []) ++ (l.loops ++ [])) ++ [])
      (loops_call true (row ∷ row ∷ []))

  pipes_stand : PipesStand bodies homes
  pipes_stand = record { each = each }
    where
      each : (f : ℕ) → LoopsStand homes (call_loops_of (bodies f).body)
      each zero = subst (LoopsStand homes) (sym loops_are) ((λ e. piped), tt)
      each (suc zero) = tt
      each (suc (suc f)) = tt

  are_near : HomesAreNear bodies homes
  are_near = record { near = near; held = held_inside; overlaps = overlaps_stand; stand = pipes_stand }
    where
      near : (f : ℕ) (list : List Statement) → (bodies f).body ≡ body.Inner list → (i : ℕ) (t : Table)
          → slice_get (tables_in list None) i ≡ Some t → (j : ℕ) (r : CallInstance) → slice_get t.times j ≡ Some r
          → (k : ℕ) → k < length r.args → IsNear t.lower (get_or (homes r.form).params k InPlace)
      near zero list e i t g j r h =
          let same : loop ∷ [] ≡ list = cc in
          let fit = every_at Near (tables_in list None) i t
          (subst (λ (l : List Statement). Every Near (tables_in l None)) same
          (subst (Every Near) (sym tables) ((first, (first, tt)), tt))) g in
          every_at (λ (r : CallInstance). (k : ℕ) → k < length r.args
          → IsNear t.lower (get_or (homes r.form).params k InPlace)) t.times j r fit h
      near (suc zero) list e i t g j r h = cc
      near (suc (suc f)) list e i t g j r h =
          let same : [] ≡ list = cc in
          let none : slice_get (tables_in [] None) i ≡ Some t = ap (λ (l : List Statement). slice_get (tables_in l None)
          i) same ∙ g in cc
