-- What is chosen for the calls of statements is what their loops allow.
use Rattle.std.proofs.Common.{◌≡◌, ℕ, zero, suc, ◌+◌, ◌==◌, ◌<◌, ◌≤◌, Bool, true, false, List, [], ◌∷◌}
use Rattle.std.proofs.Common.{◌++◌, map, length, get_or, slice_get, Option, Some, None, refl, sym, ◌∙◌, ap, subst}
use Rattle.std.proofs.Common.{arith}
use Rattle.std.proofs.Common.{if◌then◌else◌}
use Rattle.sq_text.specs.declared.place.Place.{Place}
use Rattle.sq_work.specs.declared.reduction.Reduction.{Reduction}
use Rattle.sq_spec.specs.declared.statement.LoopKind.{LoopKind}
use Rattle.sq_spec.specs.declared.statement.LoopKind.TheVariants as loop_kind
use Rattle.sq_spec.specs.declared.statement.CallInstance.{CallInstance}
use Rattle.sq_spec.specs.declared.statement.Statement.{Statement, roll-Statement}
use Rattle.sq_spec.specs.declared.statement.Statement.TheVariants as b
use Rattle.sq_spec.specs.declared.statement.Statement.TheOpen.{Statement-F}
use Rattle.sq_spec.specs.declared.statement.Statement.TheFolds.{ind-Statement, map-Statement}
use Rattle.sq_spec.specs.Statements.{over, starts_from}
use Rattle.sq_spec_laws.specs.TableRows.{Table, red_of, all_tables, tables_of}
use Rattle.sq_spec_laws.proofs.TableRowsHold.{tables_call, tables_map}
use Rattle.sq_placed.specs.declared.home.Home.{Home}
use Rattle.sq_placed.specs.declared.home.Home.TheVariants.{InPlace, Own, Held, Twin}
use Rattle.sq_placed.specs.declared.home.Homes.{Homes}
use Rattle.sq_placed.specs.Tables.{Chain, call_chain, chain_of, one_more, first_of}
use Rattle.sq_draft_laws.specs.TermLaws.Fits.{AskedOfStatement, all_parts}
use Rattle.sq_draft_laws.specs.TermLaws.Leaves as term
use Rattle.sq_draft_laws.specs.TermLaws.Leaves.{AskedInLoops, RowLeaves, each_in, loops_in, loops_left, left_of}
use Rattle.sq_draft_laws.proofs.TermLaws.Chains.{leaves_call, leaves_map}
use Rattle.sq_draft_laws.specs.TermLaws.Orders.{EachOf, Round, all_rounds, map_rounds, rounds_in, params_of}
use Rattle.sq_draft_laws.specs.TermLaws.Held.{IsHeldRow, AreHeldRows}
use Rattle.sq_draft_laws.specs.ProgramLaws.Held.{Begun, loop_list, chains, all_calls, all_loops, begun, LoopHolds}
use Rattle.sq_draft_laws.proofs.ProgramLaws.Loops.{begun_call, begun_map, all_turns, each_at, each_both, each_left, each_map}
use Rattle.sq_draft_laws.proofs.ProgramLaws.Loops.{each_right}
use Rattle.sq_pipe.specs.Hoist.Counts.{total}
use Rattle.sq_pipe.specs.Hoist.Loops.{Nest, seen, sites_by, sites_in, all_sites}
use Rattle.sq_pipe.specs.Hoist.Choices.{find_leaves, leaves_or}
use Rattle.sq_pipe.proofs.Hoist.Opened.{inner_call, inner_map}
use Rattle.sq_pass_laws.specs.Times.{AreCounts, IsBegun}
use Rattle.sq_pass_laws.proofs.Nests.{itself, if_true, nest_of, climb, IsBound, bounds_climb, follows_all}
use Rattle.sq_pass_laws.proofs.Begins.{times_map}
use Rattle.sq_pass_laws.proofs.Staying.{words, AreAlike}
use Rattle.sq_draft_laws.proofs.ProgramLaws.Rounds.{rounds_call, rounds_map}
use Rattle.sq_pass_laws.proofs.Alone.{IsAlone, is_alone}
use Rattle.sq_pass_laws.proofs.Sites.{Leaves, from_left, from_right, HasNumber, Numbered, sites_of_one, AreLocal}
use Rattle.sq_pass_laws.proofs.Sites.{first_local, others_local}
use Rattle.sq_pass_laws.proofs.Holding.{TablesSo, body_below, HeldAt, nest_leaves, nest_holds}

-- how many loops round its call the i-th parameter of a form may leave
abbrev pub chosen : (ℕ → Leaves) → (form i : ℕ) → ℕ
chosen look form i = get_or (leaves_or (look form)) i 0

-- a parameter leaves as many loops as are chosen, if any
pub record AreChosen (homes : ℕ → Homes) (look : ℕ → Leaves) : Type 0 where
  pub some : (form i b n : ℕ) → HeldAt homes form i b n → 0 < n
  pub is : (form i b n : ℕ) → HeldAt homes form i b n → n ≡ chosen look form i

-- ---- what was found

nothing : (look : ℕ → Leaves) (form i : ℕ) → look form ≡ None → chosen look form i ≡ 0
nothing look form i e = ap (λ (o : Leaves). get_or (leaves_or o) i 0) e ∙ empty i
  where
    empty : (i : ℕ) → ◌≡◌ {A = ℕ} (get_or [] i 0) 0
    empty zero = refl
    empty (suc i) = refl

-- of a call in plain loops, what it may leave
found_at : (caller : ℕ) (look : ℕ → Leaves) (n : Nest) (loops : List Place) → loops ≡ n.loops → IsBound n
    → look n.form ≡ find_leaves (sites_in caller n loops) n.form → (i : ℕ) → chosen look n.form i ≡ get_or n.leaves i 0
found_at caller look n [] none bound e i =
    let l = bound.bound i in
    let z = ap length none in
    let own : get_or n.leaves i 0 ≡ 0 = omega (arith, l, z) in
    nothing look n.form i e ∙ sym own
found_at caller look n (place ∷ loops) some bound e i =
    ap (λ (o : Leaves). get_or (leaves_or o) i 0)
    (e ∙ if_true (n.form == n.form) (Some n.leaves) None (itself n.form))

module _ (homes : ℕ → Homes) (look : ℕ → Leaves) (are : AreChosen homes look) where
  -- ---- homes

  left_held : (form i : ℕ) (h : Home) → get_or (homes form).params i InPlace ≡ h → loops_left h ≤ chosen look form i
  left_held form i InPlace e = omega arith
  left_held form i (Own b) e = omega arith
  left_held form i (Held b n) e = let m = are.is form i b n e in omega (arith, m)
  left_held form i (Twin b c) e = omega arith

  left_few : (form i : ℕ) → left_of homes form i ≤ chosen look form i
  left_few form i = left_held form i (get_or (homes form).params i InPlace) refl

  -- what isn't chosen isn't held
  none_held : (form i b n : ℕ) → chosen look form i ≡ 0 → HeldAt homes form i b n → ⊥
  none_held form i b n none e =
      let some = are.some form i b n e in
      let is = are.is form i b n e in
      absurd (omega (arith, none, some, is))

  -- ---- statements

  -- so many loops at most may be left by the rows of a chain
  abbrev FewIn : ℕ → CallInstance → Type 0
  FewIn loops q = (i : ℕ) → chosen look q.form i ≤ loops

  -- what is asked of a statement
  pub record IsFine (x : Statement) : Type 0 where
    pub leaves : (k : ℕ) → IsBegun x k → (outer : List (List ℕ)) → term.Leaves (left_of homes) x outer
    pub rounds : (k : ℕ) → EachOf (AreHeldRows homes) (rounds_in x k)
    pub loops : (m k : ℕ) → IsBegun x m → k < m → EachOf (LoopHolds homes) ((begun x).loops k)
    pub few : (h : Chain ℕ) → (begun x).chain ≡ Some h → EachOf (FewIn h.loops) h.instances

  -- ---- a call in plain loops

  module _ (caller : ℕ) (x : Statement) (n : Nest) (is : nest_of caller x ≡ Some n) where
    a : IsAlone x n
    a = is_alone caller x n is

    bound : IsBound n
    bound = climb caller (λ x n. IsBound n) (bounds_climb caller) x n is

    abbrev HasForm : CallInstance → Type 0
    HasForm q = q.form ≡ n.form

    first_of_all : (rows : List CallInstance) → 0 < length rows → EachOf HasForm rows
        → EachOf (λ (q : CallInstance). look q.form ≡ find_leaves (sites_in caller n n.loops) q.form) rows
        → look n.form ≡ find_leaves (sites_in caller n n.loops) n.form
    first_of_all [] some_ same local = absurd (omega (arith, some_))
    first_of_all (q ∷ rows) some_ same local =
        subst (λ f. look f ≡ find_leaves (sites_in caller n n.loops) f) same.0 local.0

    module _ (red : Option Reduction) (local : AreLocal look (sites_in caller n n.loops) (tables_of x red)) where
      leaves_are : (i : ℕ) → chosen look n.form i ≡ get_or n.leaves i 0
      leaves_are =
          found_at caller look n n.loops refl bound
          (first_of_all a.rows a.some a.form
          (subst (AreLocal look (sites_in caller n n.loops)) (a.table red).1 local).0)

      few_loops : (i : ℕ) → chosen look n.form i ≤ length n.loops
      few_loops i = let e = leaves_are i in let l = bound.bound i in omega (arith, e, l)

      held_row : (k : ℕ) (r : CallInstance) → r.form ≡ n.form
          → IsHeldRow homes (record { loops = k + length n.loops; rows = a.rows }) r
      held_row k r same = record {
        some = λ i b m e. are.some r.form i b m e;
        round = λ i b m e.
            let out = are.is r.form i b m e in
            let l = subst (λ f. chosen look f i ≤ length n.loops) (sym same) (few_loops i) in
            omega (arith, out, l);
        one = λ i b m e j q at. each_at HasForm a.rows j q a.form at ∙ sym same;
      }

      pub nest_fine : EachOf (λ (t : Table). AreAlike t.times) (tables_of x red) → IsFine x
      nest_fine alike =
          let rows : AreAlike a.rows = (subst (EachOf (λ (t : Table). AreAlike t.times)) (a.table red).1 alike).0 in
          let c = a.chain in record {
            leaves = λ k h outer. nest_leaves caller (left_of homes) x n is k h
                (λ i. let l = few_loops i in let m = left_few n.form i in omega (arith, l, m)) outer;
            rounds = λ k. subst (EachOf (AreHeldRows homes)) (sym (a.round k)) (
              each_map HasForm (IsHeldRow homes (record { loops = k + length n.loops; rows = a.rows })) a.rows
                  (λ r same. held_row k r same) a.form,
              tt,
            );
            loops = λ m k h lt. nest_holds homes caller (chosen look n.form) rows.those x n is
                (follows_all (chosen look n.form) n leaves_are bound)
                (λ i b j e. sym (are.is n.form i b j e))
                (λ by. subst (TablesSo (λ (q : CallInstance). words q ≡ rows.those)) (sym (a.table by).1)
                (rows.each, tt))
                m k h lt;
            few = λ h e.
                let same : c.chain ≡ h = cc (sym c.is ∙ e) in
                subst (λ (h : Chain ℕ). EachOf (FewIn h.loops) h.instances) same
                (subst (λ (rows : List CallInstance). EachOf (FewIn c.chain.loops) rows) (sym c.rows)
                (each_map HasForm (FewIn c.chain.loops) a.rows (λ q same i.
                let l = subst (λ f. chosen look f i ≤ length n.loops) (sym same) (few_loops i) in
                let z = c.loops in
                omega (arith, l, z)) a.form));
          }

  -- ---- a call that stands in none

  abbrev Unfound : CallInstance → Type 0
  Unfound q = look q.form ≡ None

  row_leaves : (rows : List CallInstance) → EachOf Unfound rows → (outer : List (List ℕ)) (k : ℕ) (r : CallInstance)
      → slice_get rows k ≡ Some r → RowLeaves (left_of homes) outer rows r
  row_leaves rows h outer k r e = record {
    turns = λ i j less. absurd (let z = none i in omega (arith, less, z));
    one = λ i less j q at. absurd (let z = none i in omega (arith, less, z));
  }
    where
      none : (i : ℕ) → left_of homes r.form i ≤ 0
      none i =
          let l = left_few r.form i in
          let z = nothing look r.form i (each_at Unfound rows k r h e) in
          omega (arith, l, z)

  call_fine : (lower : Bool) (rows : List CallInstance) → EachOf Unfound rows → IsFine (b.Call lower rows)
  call_fine lower rows h = record {
    leaves = λ k begun_ outer. subst (λ (f : AskedInLoops). f outer) (sym (leaves_call (left_of homes) lower rows))
        (row_leaves rows h (if lower then outer else []));
    rounds = λ k. subst (λ (f : ℕ → List Round). EachOf (AreHeldRows homes) (f k)) (sym (rounds_call lower rows))
        (own (if lower then k else 0), tt);
    loops = λ m k begun_ lt. subst (λ (p : Begun). EachOf (LoopHolds homes) (p.loops k)) (sym (begun_call lower rows))
        tt;
    few = λ c e. by lower c (sym (ap (λ (p : Begun). p.chain) (begun_call lower rows)) ∙ e);
  }
    where
      own : (k : ℕ) → EachOf (IsHeldRow homes (record { loops = k; rows = rows })) rows
      own k = each_map Unfound (IsHeldRow homes (record { loops = k; rows = rows })) rows (λ r e. record {
        some = λ i b n g. absurd (none_held r.form i b n (nothing look r.form i e) g);
        round = λ i b n g. absurd (none_held r.form i b n (nothing look r.form i e) g);
        one = λ i b n g. absurd (none_held r.form i b n (nothing look r.form i e) g);
      }) h

      few_in : (loops : ℕ) → EachOf (FewIn loops) rows
      few_in loops = each_map Unfound (FewIn loops) rows
          (λ r e i. let z = nothing look r.form i e in omega (arith, z)) h

      by : (lower : Bool) (c : Chain ℕ) → call_chain lower rows ≡ Some c → EachOf (FewIn c.loops) c.instances
      by true c e =
          let same : record { loops = 0; instances = rows; first = λ x. x } ≡ c = cc e in
          subst (λ (c : Chain ℕ). EachOf (FewIn c.loops) c.instances) same (few_in 0)
      by false c e = absurd (cc e)

  -- ---- a map that is no plain loop, or has none as its body

  abbrev Fewer : ℕ → CallInstance → Type 0
  Fewer loops q = (i : ℕ) → chosen look q.form i < loops

  pub list_leaves : (xs : List Statement) → EachOf IsFine xs → (k : ℕ) → all_parts IsBegun xs k
      → (outer : List (List ℕ))
      → each_in (term.Leaves (left_of homes)) xs outer
  list_leaves [] f k h outer = tt
  list_leaves (x ∷ xs) f k h outer = (f.0.leaves k h.0 outer, list_leaves xs f.1 k h.1 outer)

  pub list_rounds : (xs : List Statement) → EachOf IsFine xs
      → EachOf (AreHeldRows homes) (all_rounds (map rounds_in xs))
  list_rounds [] f = tt
  list_rounds (x ∷ xs) f =
      each_both (AreHeldRows homes) (rounds_in x 0) (all_rounds (map rounds_in xs)) (f.0.rounds 0) (list_rounds xs f.1)

  in_map : (m : LoopKind) (xs : List Statement) → EachOf IsFine xs → (k : ℕ)
      → EachOf (AreHeldRows homes) (map_rounds m (map rounds_in xs) k)
  in_map loop_kind.Sequential [] f k = tt
  in_map loop_kind.Sequential (x ∷ []) f k = f.0.rounds (suc k)
  in_map loop_kind.Sequential (x ∷ y ∷ xs) f k = list_rounds (x ∷ y ∷ xs) f
  in_map loop_kind.Parallel xs f k = list_rounds xs f
  in_map (loop_kind.Reduction r) xs f k = list_rounds xs f

  pub list_loops : (xs : List Statement) → EachOf IsFine xs → (m k : ℕ) → all_parts IsBegun xs m → k < m
      → EachOf (LoopHolds homes) (all_loops (map begun xs) k)
  list_loops [] f m k h lt = tt
  list_loops (x ∷ xs) f m k h lt =
      each_both (LoopHolds homes) ((begun x).loops k) (all_loops (map begun xs) k) (f.0.loops m k h.0 lt)
      (list_loops xs f.1 m k h.1 lt)

  more_few : (starts : List ℕ) (o : Option (Chain ℕ))
      → ((h : Chain ℕ) → o ≡ Some h → EachOf (FewIn h.loops) h.instances)
      → (h : Chain ℕ) → one_more first_of starts o ≡ Some h → EachOf (Fewer h.loops) h.instances
  more_few starts None f h e = absurd (cc e)
  more_few starts (Some u) f h e =
      let same : record { loops = suc u.loops; instances = u.instances; first = λ k. u.first (first_of starts k) } ≡ h
      = cc e in
      subst (λ (h : Chain ℕ). EachOf (Fewer h.loops) h.instances) same
      (each_map (FewIn u.loops) (Fewer (suc u.loops)) u.instances (λ q g i. let l = g i in omega (arith, l)) (f u refl))

  chain_few : (m : LoopKind) (starts : List ℕ) (xs : List Statement) → EachOf IsFine xs → (h : Chain ℕ)
      → chain_of first_of m starts (chains (map begun xs)) ≡ Some h → EachOf (Fewer h.loops) h.instances
  chain_few loop_kind.Sequential starts [] f h e = absurd (cc e)
  chain_few loop_kind.Sequential starts (x ∷ []) f h e = more_few starts (begun x).chain f.0.few h e
  chain_few loop_kind.Sequential starts (x ∷ y ∷ xs) f h e = absurd (cc e)
  chain_few loop_kind.Parallel starts xs f h e = absurd (cc e)
  chain_few (loop_kind.Reduction r) starts xs f h e = absurd (cc e)

  -- so nothing leaves the loop that it may be
  none_by : (rows : List CallInstance) (loops : ℕ) → EachOf (Fewer loops) rows → (i b n : ℕ)
      → get_or (params_of homes (slice_get rows 0)) i InPlace ≡ Held b n → loops ≤ n → ⊥
  none_by [] loops f zero b n e less = absurd (cc e)
  none_by [] loops f (suc i) b n e less = absurd (cc e)
  none_by (r ∷ rows) loops f i b n e less =
      let out = are.is r.form i b n e in let l = f.0 i in absurd (omega (arith, out, l, less))

  loop_if : (o : Option (Chain ℕ)) → ((h : Chain ℕ) → o ≡ Some h → EachOf (Fewer h.loops) h.instances) → (count : ℕ)
      (calls : List CallInstance) → EachOf (LoopHolds homes) (loop_list o count calls)
  loop_if None f count calls = tt
  loop_if (Some h) f count calls = (
    record {
      some = λ i b n e less. absurd (none_by h.instances h.loops (f h refl) i b n e less);
      stays = λ i b e. absurd (none_by h.instances h.loops (f h refl) i b h.loops e (omega arith));
    },
    tt,
  )

  map_fine : (place : Place) (m : LoopKind) (counts starts : List ℕ) (xs : List Statement) → EachOf IsFine xs
      → IsFine (b.Map place m counts starts xs)
  map_fine place m counts starts xs f = record {
    leaves = λ k h outer. subst (λ (g : AskedInLoops). g outer)
        (sym (leaves_map (left_of homes) place m counts starts xs))
        (list_leaves xs f (total counts) (asked k h).2 (loops_in m xs counts outer));
    rounds = λ k. subst (λ (g : ℕ → List Round). EachOf (AreHeldRows homes) (g k))
        (sym (rounds_map place m counts starts xs)) (in_map m xs f k);
    loops = λ n k h lt. subst (λ (p : Begun). EachOf (LoopHolds homes) (p.loops k))
        (sym (begun_map place m counts starts xs)) (in_turn n k h);
    few = λ h e.
        each_map (Fewer h.loops) (FewIn h.loops) h.instances (λ q g i. let l = g i in omega (arith, l))
        (chain_few m starts xs f h (sym (ap (λ (p : Begun). p.chain) (begun_map place m counts starts xs)) ∙ e));
  }
    where
      asked : (k : ℕ) → IsBegun (b.Map place m counts starts xs) k
          → AreCounts counts k × (starts ≡ starts_from 0 counts) × all_parts IsBegun xs (total counts)
      asked k h = subst (λ (g : AskedOfStatement). g k) (times_map place m counts starts xs) h

      in_turn : (n k : ℕ) → IsBegun (b.Map place m counts starts xs) n
          → EachOf (LoopHolds homes) (loop_list (chain_of first_of m starts (chains (map begun xs))) (get_or counts k 0)
          (over 0 (get_or counts k 0) (λ t. all_calls (map begun xs) (get_or starts k 0 + t)))
          ++ over 0 (get_or counts k 0) (λ t. all_loops (map begun xs) (get_or starts k 0 + t)))
      in_turn n k h =
          let its = asked n h in
          each_both (LoopHolds homes)
          (loop_list (chain_of first_of m starts (chains (map begun xs))) (get_or counts k 0)
          (over 0 (get_or counts k 0) (λ t. all_calls (map begun xs) (get_or starts k 0 + t))))
          (over 0 (get_or counts k 0) (λ t. all_loops (map begun xs) (get_or starts k 0 + t)))
          (loop_if (chain_of first_of m starts (chains (map begun xs))) (chain_few m starts xs f) (get_or counts k 0)
          (over 0 (get_or counts k 0) (λ t. all_calls (map begun xs) (get_or starts k 0 + t))))
          (all_turns (LoopHolds homes) (get_or counts k 0) (λ t. all_loops (map begun xs) (get_or starts k 0 + t))
          (λ t less. list_loops xs f (total counts) (get_or starts k 0 + t) its.2
          (body_below counts starts its.1 k t less)))

  -- ---- the induction

  module _ (number : ℕ → ℕ) (caller : ℕ) where
    abbrev AllAlike : List Table → Type 0
    AllAlike ts = EachOf (λ (t : Table). AreAlike t.times) ts

    abbrev OfStatement : Statement → Type 0
    OfStatement x = (red : Option Reduction) (lo : ℕ) → Numbered number lo (tables_of x red)
        → AllAlike (tables_of x red) → AreLocal look (sites_of_one caller x) (tables_of x red) → IsFine x

    abbrev S : Type 0
    S = (x : Statement) × OfStatement x

    abbrev these : List S → List Statement
    these = map (λ (q : S). q.0)

    all_fine : (xs : List S) (red : Option Reduction) (lo : ℕ)
        → Numbered number lo (all_tables (map tables_of (these xs)) red)
        → AllAlike (all_tables (map tables_of (these xs)) red)
        → AreLocal look (all_sites caller (map (seen caller) (these xs))) (all_tables (map tables_of (these xs)) red)
        → EachOf IsFine (these xs)
    all_fine [] red lo n h l = tt
    all_fine (x ∷ xs) red lo n h l =
        let ts = tables_of x.0 red in
        let us = all_tables (map tables_of (these xs)) red in (
          x.1 red lo (from_left (HasNumber number) lo ts us n) (each_left (λ (t : Table). AreAlike t.times) ts us h)
              (first_local number look caller x.0 (these xs) red lo n l),
          all_fine xs red (lo + length ts) (from_right (HasNumber number) lo ts us n)
              (each_right (λ (t : Table). AreAlike t.times) ts us h)
              (others_local number look caller x.0 (these xs) red lo n l),
        )

    -- a call in plain loops, or what stands in it
    by_nest : (x : Statement) (red : Option Reduction) → AllAlike (tables_of x red)
        → AreLocal look (sites_of_one caller x) (tables_of x red)
        → (AreLocal look (seen caller x).inner (tables_of x red) → IsFine x) → IsFine x
    by_nest x red alike local inner = by (nest_of caller x) refl local
      where
        by : (o : Option Nest) → nest_of caller x ≡ o
            → AreLocal look (sites_by caller (nest_of caller x) (seen caller x).inner) (tables_of x red) → IsFine x
        by None e l =
            inner (subst (λ o. AreLocal look (sites_by caller o (seen caller x).inner) (tables_of x red)) e l)
        by (Some n) e l =
            nest_fine caller x n e red
            (subst (λ o. AreLocal look (sites_by caller o (seen caller x).inner) (tables_of x red)) e l) alike

    fine_step : (y : Statement-F S) → OfStatement (roll-Statement (map-Statement S Statement (λ p. p.0) y))
    fine_step (Statement-F.Call lower rows) = subst OfStatement (sym (b.rolls-Call lower rows)) (λ red lo n h l.
        by_nest (b.Call lower rows) red h l (λ local. call_fine lower rows
        (subst (λ (f : Option Reduction → List Table). AreLocal look [] (f red)) (tables_call lower rows)
        (subst (λ ss. AreLocal look ss (tables_of (b.Call lower rows) red)) (inner_call caller lower rows) local)).0))
    fine_step (Statement-F.Map place m counts starts xs) =
        let x = b.Map place m counts starts (these xs) in
        let is = tables_map place m counts starts (these xs) in
        subst OfStatement (sym (b.rolls-Map place m counts starts (these xs))) (λ red lo n h l.
        by_nest x red h l (λ local. map_fine place m counts starts (these xs)
        (all_fine xs (red_of m) lo
        (subst (λ (f : Option Reduction → List Table). Numbered number lo (f red)) is n)
        (subst (λ (f : Option Reduction → List Table). AllAlike (f red)) is h)
        (subst (λ (f : Option Reduction → List Table).
        AreLocal look (all_sites caller (map (seen caller) (these xs))) (f red)) is
        (subst (λ ss. AreLocal look ss (tables_of x red)) (inner_map caller place m counts starts (these xs))
        local)))))

    statement_fine : (x : Statement) → OfStatement x
    statement_fine =
        ind-Statement OfStatement (λ x y is. subst (λ z. OfStatement (roll-Statement z)) is (fine_step y))

    -- all statements of a form
    pub list_fine : (xs : List Statement) (red : Option Reduction) (lo : ℕ)
        → Numbered number lo (all_tables (map tables_of xs) red) → AllAlike (all_tables (map tables_of xs) red)
        → AreLocal look (all_sites caller (map (seen caller) xs)) (all_tables (map tables_of xs) red)
        → EachOf IsFine xs
    list_fine [] red lo n h l = tt
    list_fine (x ∷ xs) red lo n h l =
        let ts = tables_of x red in
        let us = all_tables (map tables_of xs) red in (
          statement_fine x red lo (from_left (HasNumber number) lo ts us n)
              (each_left (λ (t : Table). AreAlike t.times) ts us h)
              (first_local number look caller x xs red lo n l),
          list_fine xs red (lo + length ts) (from_right (HasNumber number) lo ts us n)
              (each_right (λ (t : Table). AreAlike t.times) ts us h)
              (others_local number look caller x xs red lo n l),
        )
