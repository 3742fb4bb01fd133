-- A loop of two iterations, `low(A[t], B[t], C[0])`, whose transfers overlap: A is read and B written in two buffers
-- each, and C leaves the loop. All that is asked of its tables holds.
use Rattle.std.proofs.Common.{◌≡◌, ℕ, zero, suc, ◌+◌, ◌<◌, Bool, true, false, List, [], ◌∷◌, get_or, Some, None}
use Rattle.std.proofs.Common.{◌&&◌, map, refl, sym, ap, ◌∙◌, subst, arith, Option}
use Rattle.std.specs.Prelude.{slice_get, ◌-◌}
use Rattle.sq_rect.specs.Blocks.{Share, Covers}
use Rattle.sq_text.specs.declared.place.Span.{Span}
use Rattle.sq_text.specs.declared.spread.SpreadRule.TheVariants.{Cyclic}
use Rattle.sq_ast.specs.declared.program.Mode.{Mode}
use Rattle.sq_ast.specs.declared.program.Mode.TheVariants.{Input, Both}
use Rattle.sq_ast.specs.Modes.{is_written}
use Rattle.sq_leaf.specs.declared.shape.Shape.{Shape}
use Rattle.sq_blocks.specs.declared.argument.Argument.{Argument}
use Rattle.sq_form_laws.specs.Laws.{SharesElement, NoAlias}
use Rattle.sq_work.specs.declared.reduction.Reduction.{Reduction}
use Rattle.sq_ir.specs.Events.{Leaves}
use Rattle.sq_spec.specs.declared.statement.LoopKind.TheVariants as loop_kind
use Rattle.sq_spec.specs.declared.statement.CallInstance.{CallInstance}
use Rattle.sq_spec.specs.declared.body.Body.{Body}
use Rattle.sq_spec.specs.declared.body.Body.TheVariants as body
use Rattle.sq_spec.specs.declared.body.FormBody.{FormBody}
use Rattle.sq_placed.specs.declared.home.Home.{Home}
use Rattle.sq_placed.specs.declared.home.Home.TheVariants.{InPlace, Held, Twin}
use Rattle.sq_placed.specs.declared.home.Homes.{Homes}
use Rattle.sq_placed.specs.Tables.{pipe_of, leaving_chain, placed_of}
use Rattle.sq_placed.specs.Pipes.{CallLoop, CallLoops, call_loops_step, call_loops, call_loops_of, AreHeads, no_heads}
use Rattle.sq_placed.specs.Pipes.{more_heads, IsPiped}
use Rattle.sq_cells.specs.Tree.{Cause}
use Rattle.sq_cells.specs.Lowered.{in_place}
use Rattle.sq_cells.specs.Work.{Buffer}
use Rattle.sq_plan_laws.specs.Calling.{place_of}
use Rattle.sq_plan_laws.proofs.PlacedLists.{same_some}
use Rattle.sq_plan_laws.specs.Seated.{HasDims, IsNear}
use Rattle.sq_spec_laws.specs.TableRows.{Table, tables_step, tables_of, tables_in}
use Rattle.sq_spec_laws.specs.Ones.{Kind, kind_step}
use Rattle.sq_spec_laws.specs.Filled.{filled_step}
use Rattle.sq_term_laws.specs.Orders.{EachOf, Round, round_step, rounds_in, rounds_of}
use Rattle.sq_term_laws.specs.Held.{IsHeldRow, AreHeldRows}
use Rattle.sq_program_laws.specs.Held.{Begun, begun_step, begun, loops_of, Stays, LoopHolds, HoldsFit}
use Rattle.sq_program_laws.specs.Piped.{IsDoubled, home_of, IsClear, MayOverlap, LoopOverlaps, PipesFit}
use Rattle.sq_program_laws.specs.Facts.{ArgFacts, RowFacts}
use Rattle.sq_program_laws.specs.Rows.{without_block, RowFits, TableFits, ListFits, FormsFit, IsFit}
use Rattle.sq_program_laws.proofs.Facts.{facts_fit}
use Rattle.sq_program_laws.proofs.Rows.{tables_fit}
use Rattle.sq_program_laws.proofs.Loops.{Nest, a_call, a_loop, as_statement, nest_is, nothing_more, chain, each_at}
use Rattle.sq_program_laws.proofs.ExampleHeld.{line, element, argument, ints, apart_by}

-- ---- the tables

abbrev call_at : ℕ → CallInstance
call_at t = record { form = 1; args = argument Input 0 t ∷ argument Both 1 t ∷ argument Both 2 0 ∷ [] }

abbrev rows : List CallInstance
rows = call_at 0 ∷ call_at 1 ∷ []

abbrev loop : Nest
loop = a_loop (line 5) (2 ∷ []) (0 ∷ []) (a_call rows)

abbrev params : List Home
params = Twin 1 2 ∷ Twin 3 4 ∷ Held 5 1 ∷ []

abbrev arrays : List Shape
arrays = ints 2 ∷ ints 2 ∷ ints 1 ∷ []

abbrev inner_arrays : List Shape
inner_arrays = ints 1 ∷ ints 1 ∷ ints 1 ∷ []

abbrev body_at : ℕ → Body
body_at zero = body.Inner (as_statement loop ∷ [])
body_at (suc f) = body.Inner []

abbrev arrays_at : ℕ → List Shape
arrays_at zero = arrays
arrays_at (suc f) = inner_arrays

abbrev bodies : ℕ → FormBody
bodies f = record { arrays = arrays_at f; body = body_at f }

abbrev params_at : ℕ → List Home
params_at zero = []
params_at (suc f) = params

abbrev overlaps_at : ℕ → Bool
overlaps_at zero = false
overlaps_at (suc f) = true

abbrev homes : ℕ → Homes
homes f = record { rule = Cyclic; code = 0; params = params_at f; locals = []; overlaps = overlaps_at f }

-- so the loop's transfers overlap, and C leaves it
taken : pipe_of homes loop_kind.Sequential None (Some (chain (a_call rows)) ∷ [])
    ≡ Some (record { spread = None; rows = rows })
taken = refl

leaving : leaving_chain homes (Some (chain loop)) ≡ (2, argument Both 2 0) ∷ []
leaving = refl

-- ---- arguments that leave loops

held_home : (i u n : ℕ) → get_or params i InPlace ≡ Held u n → (i ≡ 2) × (n ≡ 1)
held_home zero u n e = cc
held_home (suc zero) u n e = cc
held_home (suc (suc zero)) u n e = (refl, cc)
held_home (suc (suc (suc i))) u n e = cc

own_array : (t i : ℕ) (x : Argument) → slice_get (call_at t).args i ≡ Some x → x.array ≡ i
own_array t zero x e = cc
own_array t (suc zero) x e = cc
own_array t (suc (suc zero)) x e = cc
own_array t (suc (suc (suc i))) x e = cc

one_form : (j : ℕ) (x : CallInstance) → slice_get rows j ≡ Some x → x.form ≡ 1
one_form zero x e = cc
one_form (suc zero) x e = cc
one_form (suc (suc j)) x e = cc

row_held : (t : ℕ) → IsHeldRow homes (record { loops = 1; rows = rows }) (call_at t)
row_held t = record {
  some = λ i u n e. let h = (held_home i u n e).1 in omega (arith, h);
  round = λ i u n e. let h = (held_home i u n e).1 in omega (arith, h);
  one = λ i u n e j x at. one_form j x at;
}

stays : Stays 2 rows
stays = record {
  block = element 0;
  same = (refl, (refl, tt));
  apart = (apart_by _ (own_array 0) 2, (apart_by _ (own_array 1) 2, tt));
}

pub holds : HoldsFit bodies homes
holds = record { rounds = in_rounds; loops = in_loops }
  where
    in_rounds : (f : ℕ) → EachOf (AreHeldRows homes) (rounds_of (bodies f).body)
    in_rounds zero = subst (EachOf (AreHeldRows homes))
        (sym (nothing_more (rounds_in (as_statement loop) 0)
        ∙ ap (λ (g : ℕ → List Round). g 0) (nest_is (ℕ → List Round) round_step loop)))
        ((row_held 0, (row_held 1, tt)), tt)
    in_rounds (suc f) = tt

    in_loops : (f : ℕ) → EachOf (LoopHolds homes) (loops_of (bodies f).body)
    in_loops zero = subst (EachOf (LoopHolds homes))
        (sym (nothing_more ((begun (as_statement loop)).loops 0)
        ∙ ap (λ (g : Begun). g.loops 0) (nest_is Begun begun_step loop))) (
          record {
            some = λ i u n e le. omega arith;
            stays = λ i u e. subst (λ j. Stays j rows) (sym (held_home i u 1 e).0) stays;
          },
          tt,
        )
    in_loops (suc f) = tt

-- ---- the transfers overlap

abbrev call_loop : CallLoop
call_loop = record { kind = loop_kind.Sequential; rows = rows; counts = 2 ∷ []; starts = 0 ∷ [] }

row_there : (t : ℕ) → t < 2 → (r : CallInstance) × (slice_get rows (0 + t) ≡ Some r)
row_there zero lt = (call_at 0, refl)
row_there (suc zero) lt = (call_at 1, refl)
row_there (suc (suc t)) lt = absurd (omega (arith, lt))

same_heads : (t u : ℕ) → AreHeads (call_at t).args (call_at u).args
same_heads t u =
    more_heads (record { mode = refl; is_reduced = refl; array = refl })
    (more_heads (record { mode = refl; is_reduced = refl; array = refl })
    (more_heads (record { mode = refl; is_reduced = refl; array = refl }) no_heads))

-- a row is that of an iteration
row_is : (j : ℕ) (r : CallInstance) → slice_get rows j ≡ Some r → (t : ℕ) × (call_at t ≡ r)
row_is zero r e = (0, same_some e)
row_is (suc zero) r e = (1, same_some e)
row_is (suc (suc j)) r e = cc

stands : IsPiped call_loop
stands = record {
  there = λ k t lt. there k t lt;
  form = λ i j r q e f. one_form i r e ∙ sym (one_form j q f);
  heads = λ i j r q e f.
      let x = row_is i r e in
      let y = row_is j q f in
      subst (λ (z : CallInstance). AreHeads z.args q.args) x.1
      (subst (λ (z : CallInstance). AreHeads (call_at x.0).args z.args) y.1 (same_heads x.0 y.0));
}
  where
    there : (k t : ℕ) → t < get_or (2 ∷ []) k 0 → (r : CallInstance)
        × (slice_get rows (get_or (0 ∷ []) k 0 + t) ≡ Some r)
    there zero t lt = row_there t lt
    there (suc k) t lt = absurd (omega (arith, lt))

doubled : (t i : ℕ) (a : Argument) → slice_get (call_at t).args i ≡ Some a → IsDoubled (home_of homes (call_at t) i)
doubled t zero a e = tt
doubled t (suc zero) a e = tt
doubled t (suc (suc zero)) a e = tt
doubled t (suc (suc (suc i))) a e = cc

-- two elements of one array
elements_differ : Share (element 0) (element 1) → ⊥
elements_differ h = by h.coordinate h.in_one h.in_other
  where
    by : (c : List ℕ) → Covers (element 0) c → Covers (element 1) c → ⊥
    by [] a d = a
    by (x ∷ c) a d = let y = a.1 in let z = d.0 in omega (arith, y, z)

-- B alone is written in two buffers, and each iteration has an element of its own
clear : IsClear homes (call_at 0) (call_at 1)
clear = record { apart = λ i j x y ex ey bx by w sh. apart i j x y ex ey bx w sh }
  where
    other : (j : ℕ) (y : Argument) → slice_get (call_at 1).args j ≡ Some y → y.array ≡ 1 → y.rect ≡ element 1
    other zero y e a = let z : ◌≡◌ {A = ℕ} 0 1 = cc in absurd (omega (arith, z))
    other (suc zero) y e a = ap (λ (z : Argument). z.rect) (sym (same_some e))
    other (suc (suc zero)) y e a = let z : ◌≡◌ {A = ℕ} 2 1 = cc in absurd (omega (arith, z))
    other (suc (suc (suc j))) y e a = cc

    apart : (i j : ℕ) (x y : Argument) → slice_get (call_at 0).args i ≡ Some x → slice_get (call_at 1).args j ≡ Some y
        → place_of (home_of homes (call_at 0) i) ≡ Buffer → is_written x.mode ≡ true → SharesElement x y → ⊥
    apart zero j x y ex ey b w sh =
        let z : false ≡ true = ap (λ (a : Argument). is_written a.mode) (same_some ex) ∙ w in cc
    apart (suc zero) j x y ex ey b w sh =
        let first : x.rect ≡ element 0 = ap (λ (z : Argument). z.rect) (sym (same_some ex)) in
        let second : y.rect ≡ element 1 = other j y ey (sym sh.array ∙ own_array 0 1 x ex) in
        elements_differ (subst (λ (r : List Span). Share r (element 1)) first
        (subst (λ (r : List Span). Share x.rect r) second sh.blocks))
    apart (suc (suc zero)) j x y ex ey b w sh = cc
    apart (suc (suc (suc i))) j x y ex ey b w sh = cc

overlaps : LoopOverlaps homes call_loop
overlaps = record {
  stands = stands;
  doubled = λ j i r a e f.
      let x = row_is j r e in
      subst (λ (z : CallInstance). IsDoubled (home_of homes z i)) x.1
      (doubled x.0 i a (ap (λ (z : CallInstance). slice_get z.args i) x.1 ∙ f));
  clear = record { one = λ k t r q lt e f. one k t r q lt e f; two = λ k t r q lt e f. none k t lt };
}
  where
    one : (k t : ℕ) (r q : CallInstance) → suc t < get_or (2 ∷ []) k 0
        → slice_get rows (get_or (0 ∷ []) k 0 + t) ≡ Some r → slice_get rows (get_or (0 ∷ []) k 0 + suc t) ≡ Some q
        → IsClear homes r q
    one zero zero r q lt e f = subst (λ (z : CallInstance). IsClear homes z q) (same_some e)
        (subst (λ (z : CallInstance). IsClear homes (call_at 0) z) (same_some f) clear)
    one zero (suc t) r q lt e f = absurd (omega (arith, lt))
    one (suc k) t r q lt e f = absurd (omega (arith, lt))

    none : {r q : CallInstance} (k t : ℕ) → suc (suc t) < get_or (2 ∷ []) k 0 → IsClear homes r q
    none zero t lt = absurd (omega (arith, lt))
    none (suc k) t lt = absurd (omega (arith, lt))

pub pipes : PipesFit bodies homes
pipes = record { loops = in_loops }
  where
    in_loops : (k : ℕ) → EachOf (MayOverlap homes) (call_loops_of (bodies k).body)
    in_loops zero = subst (EachOf (MayOverlap homes))
        (sym (nothing_more (call_loops (as_statement loop)).loops
        ∙ ap (λ (z : CallLoops). z.loops) (nest_is CallLoops call_loops_step loop))) (λ e. overlaps, tt)
    in_loops (suc k) = tt

-- ---- and so what is placed of the tables fits

-- of a callee B and C may be written
abbrev may_in : ℕ → Bool
may_in zero = false
may_in (suc i) = true

abbrev mays : ℕ → ℕ → Bool
mays zero i = true
mays (suc f) i = may_in i

abbrev table : Table
table = record { red = None; lower = true; times = rows }

element_fits : (i array at n : ℕ) (mode : Mode) → at < n → slice_get arrays array ≡ Some (ints n)
    → slice_get inner_arrays i ≡ Some (ints 1) → ArgFacts arrays inner_arrays i (argument mode array at)
element_fits i array at n mode lt there param =
    let long : 1 ≡ at + 1 - at = omega arith in
    record {
      of = ints n;
      there = there;
      inside = (omega arith, omega (arith, lt), tt);
      to = ints 1;
      param = param;
      elem = refl;
      extents = ap (λ (m : ℕ). m ∷ []) long;
    }

module _ (t : ℕ) (lt : t < 2) where
  args_fit : (i : ℕ) (a : Argument) → slice_get (call_at t).args i ≡ Some a → ArgFacts arrays inner_arrays i a
  args_fit zero a e = subst (ArgFacts arrays inner_arrays 0) (same_some e) (element_fits 0 0 t 2 Input lt refl refl)
  args_fit (suc zero) a e = subst (ArgFacts arrays inner_arrays 1) (same_some e)
      (element_fits 1 1 t 2 Both lt refl refl)
  args_fit (suc (suc zero)) a e = subst (ArgFacts arrays inner_arrays 2) (same_some e)
      (element_fits 2 2 0 1 Both (omega arith) refl refl)
  args_fit (suc (suc (suc i))) a e = cc

  plain : (i : ℕ) (a : Argument) → slice_get (call_at t).args i ≡ Some a → a.is_reduced ≡ false
  plain zero a e = ap (λ (x : Argument). x.is_reduced) (sym (same_some e))
  plain (suc zero) a e = ap (λ (x : Argument). x.is_reduced) (sym (same_some e))
  plain (suc (suc zero)) a e = ap (λ (x : Argument). x.is_reduced) (sym (same_some e))
  plain (suc (suc (suc i))) a e = cc

  writes : (i : ℕ) (a : Argument) → slice_get (call_at t).args i ≡ Some a → is_written a.mode ≡ may_in i
  writes zero a e = ap (λ (x : Argument). is_written x.mode) (sym (same_some e))
  writes (suc zero) a e = ap (λ (x : Argument). is_written x.mode) (sym (same_some e))
  writes (suc (suc zero)) a e = ap (λ (x : Argument). is_written x.mode) (sym (same_some e))
  writes (suc (suc (suc i))) a e = cc

  alone : NoAlias (call_at t).args
  alone i j x y less ex ey wx wy sh =
      let a : i ≡ j = sym (own_array t i x ex) ∙ (sym sh.array ∙ own_array t j y ey) in
      omega (arith, a, less)

  moved : (i : ℕ) → in_place (place_of (get_or params i InPlace)) ≡ true → i < 3 → ⊥
  moved zero e less = absurd (cc e)
  moved (suc zero) e less = absurd (cc e)
  moved (suc (suc zero)) e less = absurd (cc e)
  moved (suc (suc (suc i))) e less = omega (arith, less)

  near : (i : ℕ) → i < 3 → IsNear true (get_or params i InPlace)
  near zero less = tt
  near (suc zero) less = tt
  near (suc (suc zero)) less = tt
  near (suc (suc (suc i))) less = absurd (omega (arith, less))

  dims : (i : ℕ) (sh : Shape) → slice_get inner_arrays i ≡ Some sh → HasDims sh.extents
  dims zero sh e = subst (λ (x : Shape). HasDims x.extents) (same_some e) tt
  dims (suc zero) sh e = subst (λ (x : Shape). HasDims x.extents) (same_some e) tt
  dims (suc (suc zero)) sh e = subst (λ (x : Shape). HasDims x.extents) (same_some e) tt
  dims (suc (suc (suc i))) sh e = cc

  facts : RowFacts bodies homes mays 0 table (call_at t)
  facts = record {
    args = args_fit;
    alias = alone;
    reduced = plain;
    permitted = λ i a e w. refl;
    modes = λ i a e w. writes i a e ∙ w;
    many = refl;
    locals = refl;
    apart = λ i st less. absurd (moved i st less);
    sum_home = λ i a e red. let no : true ≡ false = sym red ∙ plain i a e in absurd (cc no);
    near = near;
    dims = dims;
  }

module _ (leaves : Leaves Cause) where
  abbrev Fits : CallInstance → Type 0
  Fits = RowFits leaves bodies homes mays 0 table

  fits : (t : ℕ) → t < 2 → Fits (call_at t)
  fits t lt = facts_fit leaves bodies homes mays 0 table (call_at t) (facts t lt)

  abbrev Alike : CallInstance → Type 0
  Alike r = map without_block r.args ≡ map without_block (call_at 0).args

  alike : EachOf Alike rows
  alike = (refl, (refl, tt))

  table_fits : TableFits leaves bodies homes mays 0 table
  table_fits = record {
    rows = λ i r e. each_at Fits rows i r (fits 0 (omega arith), (fits 1 (omega arith), tt)) e;
    same = λ i j r q e f. each_at Alike rows i r alike e ∙ sym (each_at Alike rows j q alike f);
  }

  tables_are : tables_in (as_statement loop ∷ []) None ≡ table ∷ []
  tables_are = nothing_more (tables_of (as_statement loop) None)
      ∙ ap (λ (g : Option Reduction → List Table). g None) (nest_is (Option Reduction → List Table) tables_step loop)

  list_fits : ListFits leaves bodies homes mays 0 (as_statement loop ∷ [])
  list_fits = record {
    tables = λ i t e. each_at (TableFits leaves bodies homes mays 0) (table ∷ []) i t (table_fits, tt)
        (ap (λ (ts : List Table). slice_get ts i) (sym tables_are) ∙ e);
    ones = ap (λ (z : Kind). z.ones && true) (nest_is Kind kind_step loop);
    full = ap (λ (g : ℕ → Bool). g 0 && true) (nest_is (ℕ → Bool) filled_step loop);
    rounds = holds.rounds 0;
    loops = holds.loops 0;
    pipes = pipes.loops 0;
  }

  forms_fit : FormsFit leaves bodies homes mays
  forms_fit zero = list_fits
  forms_fit (suc f) = record { tables = λ i t e. cc; ones = refl; full = refl; rounds = tt; loops = tt; pipes = tt }

  placed : (n k : ℕ) → IsFit leaves bodies homes mays k (placed_of bodies homes n k)
  placed n k = tables_fit leaves bodies homes mays forms_fit n k
