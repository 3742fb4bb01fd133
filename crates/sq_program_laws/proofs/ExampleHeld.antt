-- Arguments that leave loops, as it is asked.
use Rattle.std.proofs.Common.{◌≡◌, ℕ, zero, suc, ◌+◌, ◌<◌, ◌≤◌, false, List, [], ◌∷◌, get_or, Some, refl, sym, ap, ◌∙◌}
use Rattle.std.proofs.Common.{Bool, true, ◌&&◌, map, subst, arith, Option, None}
use Rattle.std.specs.Prelude.{slice_get, ◌-◌}
use Rattle.sq_num.specs.declared.Elem.TheVariants.{Int}
use Rattle.sq_ast.specs.Modes.{is_written}
use Rattle.sq_leaf.specs.declared.shape.Shape.{Shape}
use Rattle.sq_form_laws.specs.Laws.{NoAlias}
use Rattle.sq_work.specs.declared.reduction.Reduction.{Reduction}
use Rattle.sq_ir.specs.Events.{Leaves}
use Rattle.sq_cells.specs.Tree.{Cause}
use Rattle.sq_cells.specs.Lowered.{in_place}
use Rattle.sq_plan_laws.specs.Calling.{place_of}
use Rattle.sq_plan_laws.proofs.PlacedLists.{same_some}
use Rattle.sq_plan_laws.specs.Seated.{HasDims, IsNear}
use Rattle.sq_spec_laws.specs.TableRows.{Table, tables_step, tables_of, tables_in}
use Rattle.sq_spec_laws.specs.Ones.{Kind, kind_step}
use Rattle.sq_spec_laws.specs.Filled.{filled_step}
use Rattle.sq_program_laws.specs.Facts.{ArgFacts, RowFacts}
use Rattle.sq_program_laws.specs.Rows.{without_block, RowFits, TableFits, ListFits, FormsFit, IsFit}
use Rattle.sq_program_laws.proofs.Facts.{facts_fit}
use Rattle.sq_program_laws.proofs.Rows.{tables_fit}
use Rattle.sq_program_laws.proofs.Unpiped.{unpiped_fits}
use Rattle.sq_text.specs.declared.place.Place.{Place}
use Rattle.sq_text.specs.declared.place.Span.{Span}
use Rattle.sq_text.specs.declared.spread.SpreadRule.TheVariants.{Cyclic}
use Rattle.sq_ast.specs.declared.program.Mode.{Mode}
use Rattle.sq_ast.specs.declared.program.Mode.TheVariants.{Input, Both}
use Rattle.sq_blocks.specs.declared.argument.Argument.{Argument}
use Rattle.sq_spec.specs.declared.statement.CallInstance.{CallInstance}
use Rattle.sq_spec.specs.declared.body.Body.{Body}
use Rattle.sq_spec.specs.declared.body.Body.TheVariants as body
use Rattle.sq_spec.specs.declared.body.FormBody.{FormBody}
use Rattle.sq_placed.specs.declared.home.Home.{Home}
use Rattle.sq_placed.specs.declared.home.Home.TheVariants.{InPlace, Own, Held}
use Rattle.sq_placed.specs.declared.home.Homes.{Homes}
use Rattle.sq_placed.specs.Tables.{leaving_chain, row_rect, chain_row, placed_of}
use Rattle.sq_term_laws.specs.Orders.{EachOf, Round, round_step, rounds_in, rounds_of}
use Rattle.sq_term_laws.specs.Held.{IsHeldRow, AreHeldRows}
use Rattle.sq_program_laws.specs.Held.{Begun, begun_step, begun, loops_of, StandsApart, Stays, LoopHolds}
use Rattle.sq_program_laws.specs.Held.{HoldsFit}
use Rattle.sq_program_laws.proofs.Loops.{Nest, a_call, a_loop, as_statement, nest_fold, nest_is, nest_begun, nothing_more, chain, each_at}

abbrev pub line : ℕ → Place
line n = record { line = n; col = 3 }

abbrev pub element : ℕ → List Span
element at = record { lo = at; hi = at + 1 } ∷ []

-- one element of an array
abbrev pub argument : Mode → (array at : ℕ) → Argument
argument mode array at = record { mode = mode; is_reduced = false; array = array; rect = element at }

abbrev pub ints : ℕ → Shape
ints n = record { elem = Int; extents = n ∷ [] }

-- the first form has these loops alone, and arrays of these shapes; another has these homes, and single elements
module _ (c : Nest) (params : List Home) (arrays : List Shape) where
  abbrev inner : ℕ → Body
  inner zero = body.Inner (as_statement c ∷ [])
  inner (suc f) = body.Inner []

  abbrev arrays_in : ℕ → List Shape
  arrays_in zero = arrays
  arrays_in (suc f) = map (λ (h : Home). ints 1) params

  abbrev bodies : ℕ → FormBody
  bodies f = record { arrays = arrays_in f; body = inner f }

  abbrev homes_in : ℕ → List Home
  homes_in zero = []
  homes_in (suc f) = params

  abbrev homes : ℕ → Homes
  homes f = record { rule = Cyclic; code = 0; params = homes_in f; locals = []; overlaps = false }

  holds : EachOf (AreHeldRows homes) (nest_fold (ℕ → List Round) round_step c 0)
      → EachOf (LoopHolds homes) ((nest_begun c).loops 0) → HoldsFit bodies homes
  holds rounds loops = record { rounds = in_rounds; loops = in_loops }
    where
      in_rounds : (f : ℕ) → EachOf (AreHeldRows homes) (rounds_of (bodies f).body)
      in_rounds zero = subst (EachOf (AreHeldRows homes))
          (sym (nothing_more (rounds_in (as_statement c) 0)
          ∙ ap (λ (g : ℕ → List Round). g 0) (nest_is (ℕ → List Round) round_step c))) rounds
      in_rounds (suc f) = tt

      in_loops : (f : ℕ) → EachOf (LoopHolds homes) (loops_of (bodies f).body)
      in_loops zero = subst (EachOf (LoopHolds homes))
          (sym (nothing_more ((begun (as_statement c)).loops 0)
          ∙ ap (λ (g : Begun). g.loops 0) (nest_is Begun begun_step c))) loops
      in_loops (suc f) = tt

-- where each argument is of an array of its own, each stands apart
pub apart_by : (args : List Argument) → ((i : ℕ) (x : Argument) → slice_get args i ≡ Some x → x.array ≡ i) → (i : ℕ)
    → StandsApart args i
apart_by args own i = record {
  others = λ j x y ne ex ey sh. absurd (ne (sym (own j y ey) ∙ (sym sh.array ∙ own i x ex)));
}

-- ---- three iterations: `low(A[t], B[0])` reads another element of A in each, and the same one of B

abbrev one_call : ℕ → CallInstance
one_call t = record { form = 1; args = argument Input 0 t ∷ argument Both 1 0 ∷ [] }

abbrev one_loop : Nest
one_loop = a_loop (line 5) (3 ∷ []) (0 ∷ []) (a_call (one_call 0 ∷ one_call 1 ∷ one_call 2 ∷ []))

-- B leaves the loop, A doesn't
abbrev one_leaves : List Home
one_leaves = Own 1 ∷ Held 2 1 ∷ []

abbrev one_arrays : List Shape
one_arrays = ints 3 ∷ ints 1 ∷ []

one_home : (i u n : ℕ) → get_or one_leaves i InPlace ≡ Held u n → (i ≡ 1) × (n ≡ 1)
one_home zero u n e = cc
one_home (suc zero) u n e = (refl, cc)
one_home (suc (suc i)) u n e = cc

one_own : (t i : ℕ) (x : Argument) → slice_get (one_call t).args i ≡ Some x → x.array ≡ i
one_own t zero x e = cc
one_own t (suc zero) x e = cc
one_own t (suc (suc i)) x e = cc

one_row : (t : ℕ) → IsHeldRow (homes one_loop one_leaves one_arrays)
    (record { loops = 1; rows = one_call 0 ∷ one_call 1 ∷ one_call 2 ∷ [] }) (one_call t)
one_row t = record {
  some = λ i u n e. let h = (one_home i u n e).1 in omega (arith, h);
  round = λ i u n e. let h = (one_home i u n e).1 in omega (arith, h);
  one = λ i u n e j x at. of_form j x at;
}
  where
    of_form : (j : ℕ) (x : CallInstance)
        → slice_get (one_call 0 ∷ one_call 1 ∷ one_call 2 ∷ []) j ≡ Some x → x.form ≡ 1
    of_form zero x e = cc
    of_form (suc zero) x e = cc
    of_form (suc (suc zero)) x e = cc
    of_form (suc (suc (suc j))) x e = cc

one_stays : Stays 1 (one_call 0 ∷ one_call 1 ∷ one_call 2 ∷ [])
one_stays = record {
  block = element 0;
  same = (refl, (refl, (refl, tt)));
  apart = (apart_by _ (one_own 0) 1, (apart_by _ (one_own 1) 1, (apart_by _ (one_own 2) 1, tt)));
}

one_fits : HoldsFit (bodies one_loop one_leaves one_arrays) (homes one_loop one_leaves one_arrays)
one_fits = holds one_loop one_leaves one_arrays ((one_row 0, (one_row 1, (one_row 2, tt))), tt) (
  record {
    some = λ i u n e le. omega arith;
    stays = λ i u e. subst (λ j. Stays j (one_call 0 ∷ one_call 1 ∷ one_call 2 ∷ [])) (sym (one_home i u 1 e).0) one_stays;
  },
  tt,
)

-- ---- two loops: of `low(A[i], B[j], C[0])` C leaves both, A the inner one, and B none

abbrev two_call : (i j : ℕ) → CallInstance
two_call i j = record { form = 1; args = argument Input 0 i ∷ argument Input 1 j ∷ argument Both 2 0 ∷ [] }

abbrev row : ℕ → List CallInstance
row i = two_call i 0 ∷ two_call i 1 ∷ two_call i 2 ∷ []

abbrev two_rows : List CallInstance
two_rows = two_call 0 0 ∷ two_call 0 1 ∷ two_call 0 2 ∷ two_call 1 0 ∷ two_call 1 1 ∷ two_call 1 2 ∷ []

abbrev two_loops : Nest
two_loops = a_loop (line 4) (2 ∷ []) (0 ∷ []) (a_loop (line 5) (3 ∷ 3 ∷ []) (0 ∷ 3 ∷ []) (a_call two_rows))

abbrev two_leave : List Home
two_leave = Held 1 1 ∷ Own 3 ∷ Held 2 2 ∷ []

abbrev two_arrays : List Shape
two_arrays = ints 2 ∷ ints 3 ∷ ints 1 ∷ []

two_bound : (i u n : ℕ) → get_or two_leave i InPlace ≡ Held u n → (0 < n) × (n ≤ 2)
two_bound zero u n e = let h : 1 ≡ n = cc in (omega (arith, h), omega (arith, h))
two_bound (suc zero) u n e = cc
two_bound (suc (suc zero)) u n e = let h : 2 ≡ n = cc in (omega (arith, h), omega (arith, h))
two_bound (suc (suc (suc i))) u n e = cc

inner_home : (i u : ℕ) → get_or two_leave i InPlace ≡ Held u 1 → i ≡ 0
inner_home zero u e = refl
inner_home (suc zero) u e = cc
inner_home (suc (suc zero)) u e = let h : ◌≡◌ {A = ℕ} 2 1 = cc in absurd (omega (arith, h))
inner_home (suc (suc (suc i))) u e = cc

outer_home : (i u : ℕ) → get_or two_leave i InPlace ≡ Held u 2 → i ≡ 2
outer_home zero u e = let h : ◌≡◌ {A = ℕ} 1 2 = cc in absurd (omega (arith, h))
outer_home (suc zero) u e = cc
outer_home (suc (suc zero)) u e = refl
outer_home (suc (suc (suc i))) u e = cc

two_own : (n m i : ℕ) (x : Argument) → slice_get (two_call n m).args i ≡ Some x → x.array ≡ i
two_own n m zero x e = cc
two_own n m (suc zero) x e = cc
two_own n m (suc (suc zero)) x e = cc
two_own n m (suc (suc (suc i))) x e = cc

two_apart : (n m i : ℕ) → StandsApart (two_call n m).args i
two_apart n m i = apart_by (two_call n m).args (two_own n m) i

two_row : (i j : ℕ) → IsHeldRow (homes two_loops two_leave two_arrays) (record { loops = 2; rows = two_rows }) (two_call i j)
two_row i j = record {
  some = λ i u n e. (two_bound i u n e).0;
  round = λ i u n e. (two_bound i u n e).1;
  one = λ i u n e j x at. of_form j x at;
}
  where
    of_form : (j : ℕ) (x : CallInstance) → slice_get two_rows j ≡ Some x → x.form ≡ 1
    of_form zero x e = cc
    of_form (suc zero) x e = cc
    of_form (suc (suc zero)) x e = cc
    of_form (suc (suc (suc zero))) x e = cc
    of_form (suc (suc (suc (suc zero)))) x e = cc
    of_form (suc (suc (suc (suc (suc zero))))) x e = cc
    of_form (suc (suc (suc (suc (suc (suc j)))))) x e = cc

outer_stays : Stays 2 two_rows
outer_stays = record {
  block = element 0;
  same = (refl, (refl, (refl, (refl, (refl, (refl, tt))))));
  apart = (two_apart 0 0 2, (two_apart 0 1 2, (two_apart 0 2 2, (two_apart 1 0 2, (two_apart 1 1 2, (two_apart 1 2 2, tt))))));
}

inner_stays : (i : ℕ) → Stays 0 (row i)
inner_stays i = record {
  block = element i;
  same = (refl, (refl, (refl, tt)));
  apart = (two_apart i 0 0, (two_apart i 1 0, (two_apart i 2 0, tt)));
}

two_fit : HoldsFit (bodies two_loops two_leave two_arrays) (homes two_loops two_leave two_arrays)
two_fit = holds two_loops two_leave two_arrays
    ((two_row 0 0, (two_row 0 1, (two_row 0 2, (two_row 1 0, (two_row 1 1, (two_row 1 2, tt)))))), tt) (
      record {
        some = λ i u n e le. omega arith;
        stays = λ i u e. subst (λ j. Stays j two_rows) (sym (outer_home i u e)) outer_stays;
      },
      (
        record {
          some = λ i u n e le. omega arith;
          stays = λ i u e. subst (λ j. Stays j (row 0)) (sym (inner_home i u e)) (inner_stays 0);
        },
        (
          record {
            some = λ i u n e le. omega arith;
            stays = λ i u e. subst (λ j. Stays j (row 1)) (sym (inner_home i u e)) (inner_stays 1);
          },
          tt,
        ),
      ),
    )

-- and so they leave them in what is placed
outer_leaving : leaving_chain (homes two_loops two_leave two_arrays) (Some (chain two_loops)) ≡ (2, argument Both 2 0) ∷ []
outer_leaving = refl

abbrev inner_loop : Nest
inner_loop = a_loop (line 5) (3 ∷ 3 ∷ []) (0 ∷ 3 ∷ []) (a_call two_rows)

inner_leaving : leaving_chain (homes two_loops two_leave two_arrays) (Some (chain inner_loop)) ≡ (0, argument Input 0 0) ∷ []
inner_leaving = refl

-- the inner loop with the block of A that it is begun with, the first time and the second
first_block : map (λ (s : Span). s.lo) (row_rect (chain_row (Some (chain inner_loop)) 0) 0) ≡ 0 ∷ []
first_block = refl

second_block : map (λ (s : Span). s.lo) (row_rect (chain_row (Some (chain inner_loop)) 1) 0) ≡ 1 ∷ []
second_block = refl

-- ---- all that is asked of the tables of the two loops holds

abbrev two_bodies : ℕ → FormBody
two_bodies = bodies two_loops two_leave two_arrays

abbrev two_homes : ℕ → Homes
two_homes = homes two_loops two_leave two_arrays

-- of a callee C alone may be written
abbrev may_in : ℕ → Bool
may_in zero = false
may_in (suc zero) = false
may_in (suc (suc i)) = true

abbrev two_mays : ℕ → ℕ → Bool
two_mays zero i = true
two_mays (suc f) i = may_in i

abbrev two_table : Table
two_table = record { red = None; lower = true; times = two_rows }

element_fits : (i array at n : ℕ) (mode : Mode) → at < n → slice_get two_arrays array ≡ Some (ints n)
    → slice_get (ints 1 ∷ ints 1 ∷ ints 1 ∷ []) i ≡ Some (ints 1)
    → ArgFacts two_arrays (ints 1 ∷ ints 1 ∷ ints 1 ∷ []) i (argument mode array at)
element_fits i array at n mode lt there param =
    let long : 1 ≡ at + 1 - at = omega arith in
    record {
      of = ints n;
      there = there;
      inside = (omega arith, omega (arith, lt), tt);
      to = ints 1;
      param = param;
      elem = refl;
      extents = ap (λ (m : ℕ). m ∷ []) long;
    }

module _ (n m : ℕ) (n_in : n < 2) (m_in : m < 3) where
  args_fit : (i : ℕ) (a : Argument) → slice_get (two_call n m).args i ≡ Some a
      → ArgFacts two_arrays (ints 1 ∷ ints 1 ∷ ints 1 ∷ []) i a
  args_fit zero a e = subst (ArgFacts two_arrays (ints 1 ∷ ints 1 ∷ ints 1 ∷ []) 0) (same_some e)
      (element_fits 0 0 n 2 Input n_in refl refl)
  args_fit (suc zero) a e = subst (ArgFacts two_arrays (ints 1 ∷ ints 1 ∷ ints 1 ∷ []) 1) (same_some e)
      (element_fits 1 1 m 3 Input m_in refl refl)
  args_fit (suc (suc zero)) a e = subst (ArgFacts two_arrays (ints 1 ∷ ints 1 ∷ ints 1 ∷ []) 2) (same_some e)
      (element_fits 2 2 0 1 Both (omega arith) refl refl)
  args_fit (suc (suc (suc i))) a e = cc

  plain : (i : ℕ) (a : Argument) → slice_get (two_call n m).args i ≡ Some a → a.is_reduced ≡ false
  plain zero a e = ap (λ (x : Argument). x.is_reduced) (sym (same_some e))
  plain (suc zero) a e = ap (λ (x : Argument). x.is_reduced) (sym (same_some e))
  plain (suc (suc zero)) a e = ap (λ (x : Argument). x.is_reduced) (sym (same_some e))
  plain (suc (suc (suc i))) a e = cc

  writes : (i : ℕ) (a : Argument) → slice_get (two_call n m).args i ≡ Some a → is_written a.mode ≡ may_in i
  writes zero a e = ap (λ (x : Argument). is_written x.mode) (sym (same_some e))
  writes (suc zero) a e = ap (λ (x : Argument). is_written x.mode) (sym (same_some e))
  writes (suc (suc zero)) a e = ap (λ (x : Argument). is_written x.mode) (sym (same_some e))
  writes (suc (suc (suc i))) a e = cc

  alone : NoAlias (two_call n m).args
  alone i j x y lt ex ey wx wy sh =
      let a : i ≡ j = sym (two_own n m i x ex) ∙ (sym sh.array ∙ two_own n m j y ey) in
      omega (arith, a, lt)

  moved : (i : ℕ) → in_place (place_of (get_or two_leave i InPlace)) ≡ true → i < 3 → ⊥
  moved zero e lt = absurd (cc e)
  moved (suc zero) e lt = absurd (cc e)
  moved (suc (suc zero)) e lt = absurd (cc e)
  moved (suc (suc (suc i))) e lt = omega (arith, lt)

  near : (i : ℕ) → i < 3 → IsNear true (get_or two_leave i InPlace)
  near zero lt = tt
  near (suc zero) lt = tt
  near (suc (suc zero)) lt = tt
  near (suc (suc (suc i))) lt = absurd (omega (arith, lt))

  dims : (i : ℕ) (sh : Shape) → slice_get (ints 1 ∷ ints 1 ∷ ints 1 ∷ []) i ≡ Some sh → HasDims sh.extents
  dims zero sh e = subst (λ (x : Shape). HasDims x.extents) (same_some e) tt
  dims (suc zero) sh e = subst (λ (x : Shape). HasDims x.extents) (same_some e) tt
  dims (suc (suc zero)) sh e = subst (λ (x : Shape). HasDims x.extents) (same_some e) tt
  dims (suc (suc (suc i))) sh e = cc

  two_facts : RowFacts two_bodies two_homes two_mays 0 two_table (two_call n m)
  two_facts = record {
    args = args_fit;
    alias = alone;
    reduced = plain;
    permitted = λ i a e w. refl;
    modes = λ i a e w. writes i a e ∙ w;
    many = refl;
    locals = refl;
    apart = λ i st lt. absurd (moved i st lt);
    sum_home = λ i a e red. let no : true ≡ false = sym red ∙ plain i a e in absurd (cc no);
    near = near;
    dims = dims;
  }

module _ (leaves : Leaves Cause) where
  abbrev Fits : CallInstance → Type 0
  Fits = RowFits leaves two_bodies two_homes two_mays 0 two_table

  fits : (n m : ℕ) → n < 2 → m < 3 → Fits (two_call n m)
  fits n m n_in m_in = facts_fit leaves two_bodies two_homes two_mays 0 two_table (two_call n m) (two_facts n m n_in m_in)

  all_fit : EachOf Fits two_rows
  all_fit = (
    fits 0 0 (omega arith) (omega arith),
    (
      fits 0 1 (omega arith) (omega arith),
      (
        fits 0 2 (omega arith) (omega arith),
        (
          fits 1 0 (omega arith) (omega arith),
          (
            fits 1 1 (omega arith) (omega arith),
            (fits 1 2 (omega arith) (omega arith), tt),
          ),
        ),
      ),
    ),
  )

  abbrev Alike : CallInstance → Type 0
  Alike r = map without_block r.args ≡ map without_block (two_call 0 0).args

  alike : EachOf Alike two_rows
  alike = (refl, (refl, (refl, (refl, (refl, (refl, tt))))))

  table_fits : TableFits leaves two_bodies two_homes two_mays 0 two_table
  table_fits = record {
    rows = λ i r e. each_at Fits two_rows i r all_fit e;
    same = λ i j r q e f. each_at Alike two_rows i r alike e ∙ sym (each_at Alike two_rows j q alike f);
  }

  tables_are : tables_in (as_statement two_loops ∷ []) None ≡ two_table ∷ []
  tables_are = nothing_more (tables_of (as_statement two_loops) None)
      ∙ ap (λ (g : Option Reduction → List Table). g None)
      (nest_is (Option Reduction → List Table) tables_step two_loops)

  two_list : ListFits leaves two_bodies two_homes two_mays 0 (as_statement two_loops ∷ [])
  two_list = record {
    tables = λ i t e. each_at (TableFits leaves two_bodies two_homes two_mays 0) (two_table ∷ []) i t (table_fits, tt)
        (ap (λ (ts : List Table). slice_get ts i) (sym tables_are) ∙ e);
    ones = ap (λ (z : Kind). z.ones && true) (nest_is Kind kind_step two_loops);
    full = ap (λ (g : ℕ → Bool). g 0 && true) (nest_is (ℕ → Bool) filled_step two_loops);
    rounds = two_fit.rounds 0;
    loops = two_fit.loops 0;
    pipes = (unpiped_fits two_bodies two_homes (λ f. refl)).loops 0;
  }

  two_forms : FormsFit leaves two_bodies two_homes two_mays
  two_forms zero = two_list
  two_forms (suc f) = record { tables = λ i t e. cc; ones = refl; full = refl; rounds = tt; loops = tt; pipes = tt }

  -- so what is placed of them fits
  two_placed : (n k : ℕ) → IsFit leaves two_bodies two_homes two_mays k (placed_of two_bodies two_homes n k)
  two_placed n k = tables_fit leaves two_bodies two_homes two_mays two_forms n k
