-- A loop of a form that overlaps its transfers is a candidate, and so it is as is asked.
use Rattle.std.proofs.Common.{◌≡◌, inl, inr, ℕ, suc, ◌+◌, ◌<◌, ◌≤◌, Bool, true, false, ◌&&◌, ◌||◌, List, [], ◌∷◌}
use Rattle.std.proofs.Common.{◌++◌, map, length, get_or, slice_get, Option, Some, None, refl, sym, ap, ap₂, subst}
use Rattle.std.proofs.Common.{◌∙◌, arith}
use Rattle.std.specs.List.{list_all}
use Rattle.sq_text.specs.declared.place.Place.{Place}
use Rattle.sq_blocks.specs.declared.argument.Argument.{Argument}
use Rattle.sq_work.specs.declared.reduction.Reduction.{Reduction}
use Rattle.sq_spec.specs.declared.statement.LoopKind.{LoopKind}
use Rattle.sq_spec.specs.declared.statement.LoopKind.TheVariants as loop_kind
use Rattle.sq_spec.specs.declared.statement.CallInstance.{CallInstance}
use Rattle.sq_spec.specs.declared.statement.Statement.{Statement, roll-Statement}
use Rattle.sq_spec.specs.declared.statement.Statement.TheVariants as b
use Rattle.sq_spec.specs.declared.statement.Statement.TheOpen.{Statement-F}
use Rattle.sq_spec.specs.declared.statement.Statement.TheFolds.{ind-Statement, map-Statement}
use Rattle.sq_spec.specs.Statements.{starts_from}
use Rattle.sq_spec.specs.Spreads.{any_of, is_spread, lower_in, same_in}
use Rattle.sq_spec_laws.specs.TableRows.{Table, red_of, all_tables, tables_of}
use Rattle.sq_spec_laws.proofs.TableRowsHold.{tables_call, tables_map}
use Rattle.sq_placed.specs.declared.home.Home.TheVariants.{InPlace}
use Rattle.sq_placed.specs.declared.home.Homes.{Homes}
use Rattle.sq_placed.specs.Tables.{row_form}
use Rattle.sq_placed.specs.Pipes.{CallLoop, CallLoops, AreHeads, call_loops}
use Rattle.sq_placed.specs.Pipes as loops_of
use Rattle.sq_placed.proofs.Pipes as pipes
use Rattle.sq_cells.specs.Work.{Buffer}
use Rattle.sq_draft_laws.specs.PlanLaws.Calling.{place_of}
use Rattle.sq_draft_laws.specs.TermLaws.Fits.{AskedOfStatement, all_parts}
use Rattle.sq_draft_laws.specs.TermLaws.Orders.{EachOf}
use Rattle.sq_draft_laws.specs.TermLaws.Overlapping.{AskedInMaps, each_in_maps, any_by, can_overlap, RowOverlaps, Overlaps}
use Rattle.sq_draft_laws.proofs.TermLaws.Overlaps.{overlaps_call, overlaps_map}
use Rattle.sq_draft_laws.specs.ProgramLaws.Piped.{IsDoubled, IsClear, IsClearBy, LoopOverlaps}
use Rattle.sq_draft_laws.proofs.ProgramLaws.Loops.{each_at, each_both, each_left, each_map, each_right}
use Rattle.sq_draft_laws.proofs.Hoisting.{at_index}
use Rattle.sq_pipe.specs.Hoist.Counts.{total}
use Rattle.sq_pipe.specs.Hoist.Loops.{cut}
use Rattle.sq_pass_laws.specs.Times.{AreCounts, IsBegun}
use Rattle.sq_pass_laws.proofs.Begins.{times_call, times_map}
use Rattle.sq_pass_laws.proofs.Holding.{body_below}
use Rattle.sq_pass_laws.proofs.HoistLists.{each_two}
use Rattle.sq_pass_laws.proofs.Sites.{HasNumber, IsWithin, Numbered, from_left, from_right, lowers}
use Rattle.sq_pass_laws.proofs.Staying.{words, AreAlike, shares_is}
use Rattle.sq_pipe.specs.declared.candidate.Candidate.{Candidate}
use Rattle.sq_pipe.specs.Candidates.{is_held, are_ahead, is_clear, may_overlap, have_one_form, first_form}
use Rattle.sq_pipe.specs.Candidates.{Seen, all_loops, only_call, own_loop, seen, call_in}
use Rattle.sq_pipe.proofs.CallsOpened.{call_call, loops_call, loops_map}
use Rattle.sq_pass_laws.proofs.Candidates.{IsIn, in_front, in_back, only_one, no_round, each_form, one_form, IsOwn}
use Rattle.sq_pass_laws.proofs.Candidates.{its_own, one_has, all_have, AreWithin}
use Rattle.sq_pass_laws.proofs.Clear.{heads_are, clear_at, one_ahead, two_ahead}
use Rattle.sq_pass_laws.proofs.Spreads.{spread_is}

-- The entry's transfers don't overlap. An argument that has buffers of its call alone leaves no loop.
pub record AreSuited (homes : ℕ → Homes) (leaves : ℕ → List ℕ) : Type 0 where
  pub entry : (homes 0).overlaps ≡ false
  pub moved : (f i : ℕ) → place_of (get_or (homes f).params i InPlace) ≡ Buffer → is_held (leaves f) i ≡ false

module _ (homes : ℕ → Homes) (leaves : ℕ → List ℕ) (children : ℕ) where
  -- it is as is asked, and one of those that may overlap, with a row for each of its iterations
  pub record LoopMay (l : CallLoop) : Type 0 where
    pub overlaps : LoopOverlaps homes l
    pub spread : Bool
    pub may : may_overlap leaves children l.kind spread l.counts l.rows ≡ true
    pub many : length l.rows ≡ total l.counts

  abbrev pub MayIfTaken : CallLoop → Type 0
  MayIfTaken l = (homes (row_form (slice_get l.rows 0))).overlaps ≡ true → LoopMay l

module _ (homes : ℕ → Homes) (leaves : ℕ → List ℕ) (suited : AreSuited homes leaves) (number : ℕ → ℕ)
    (children caller : ℕ) where
  abbrev sees : Statement → Seen
  sees = seen leaves children caller

  abbrev MayBe : CallLoop → Type 0
  MayBe = MayIfTaken homes leaves children

  -- each argument of a call that overlaps its transfers has two buffers or leaves loops
  abbrev pub Doubled : CallInstance → Type 0
  Doubled q = (homes q.form).overlaps ≡ true → (i : ℕ) (a : Argument) → slice_get q.args i ≡ Some a
      → IsDoubled (get_or (homes q.form).params i InPlace)

  pub record TableFits (t : Table) : Type 0 where
    pub alike : AreAlike t.times
    pub doubled : t.lower ≡ true → EachOf Doubled t.times

  -- a form that overlaps its transfers is that of a candidate among these
  abbrev pub IsTaken : List Candidate → CallInstance → Type 0
  IsTaken cs q = (homes q.form).overlaps ≡ true → IsIn q.form cs

  abbrev pub AreTaken : List Candidate → List Table → Type 0
  AreTaken cs ts = EachOf (λ (t : Table). EachOf (IsTaken cs) t.times) ts

  -- of the calls of tables, numbered from lo on
  pub record Given (lo : ℕ) (cs : List Candidate) (ts : List Table) : Type 0 where
    pub numbered : Numbered number lo ts
    pub fits : EachOf TableFits ts
    pub taken : AreTaken cs ts

  -- ---- parts

  taken_front : (cs ds : List Candidate) (lo mid hi : ℕ) → AreWithin number mid hi ds → (ts : List Table)
      → lo + length ts ≤ mid → Numbered number lo ts → AreTaken (cs ++ ds) ts → AreTaken cs ts
  taken_front cs ds lo mid hi w [] less n h = tt
  taken_front cs ds lo mid hi w (t ∷ ts) less n h = (
    each_two (HasNumber number lo) (IsTaken (cs ++ ds)) (IsTaken cs) t.times
        (λ q e g o. in_front number mid hi cs ds w q.form (inl (omega (arith, e, less))) (g o)) n.0 h.0,
    taken_front cs ds (suc lo) mid hi w ts (omega (arith, less)) n.1 h.1,
  )

  taken_back : (cs ds : List Candidate) (low lo : ℕ) → AreWithin number low lo cs → (ts : List Table) (at : ℕ)
      → lo ≤ at → Numbered number at ts → AreTaken (cs ++ ds) ts → AreTaken ds ts
  taken_back cs ds low lo w [] at less n h = tt
  taken_back cs ds low lo w (t ∷ ts) at less n h = (
    each_two (HasNumber number at) (IsTaken (cs ++ ds)) (IsTaken ds) t.times
        (λ q e g o. in_back number low lo cs ds w q.form (inr (omega (arith, e, less))) (g o)) n.0 h.0,
    taken_back cs ds low lo w ts (suc at) (omega (arith, less)) n.1 h.1,
  )

  -- of the first of some statements, and of the others
  first_given : (x : Statement) (xs : List Statement) (inside : Bool) (red : Option Reduction) (lo : ℕ)
      → Given lo ((sees x).loops inside ++ all_loops (map sees xs) inside)
      (tables_of x red ++ all_tables (map tables_of xs) red)
      → Given lo ((sees x).loops inside) (tables_of x red)
  first_given x xs inside red lo g =
      let ts = tables_of x red in
      let us = all_tables (map tables_of xs) red in
      let mine = from_left (HasNumber number) lo ts us g.numbered in
      let w = all_have (IsWithin number (lo + length ts) (lo + length ts + length us)) leaves children caller xs inside
      red (lowers number (λ f. None) (lo + length ts) (lo + length ts + length us) us (omega arith)
      (from_right (HasNumber number) lo ts us g.numbered) (lo + length ts) (omega arith)) in record {
        numbered = mine;
        fits = each_left TableFits ts us g.fits;
        taken = taken_front ((sees x).loops inside) (all_loops (map sees xs) inside) lo (lo + length ts)
            (lo + length ts + length us) w ts (omega arith) mine
            (each_left (λ (t : Table).
            EachOf (IsTaken ((sees x).loops inside ++ all_loops (map sees xs) inside)) t.times) ts us g.taken);
      }

  others_given : (x : Statement) (xs : List Statement) (inside : Bool) (red : Option Reduction) (lo : ℕ)
      → Given lo ((sees x).loops inside ++ all_loops (map sees xs) inside)
      (tables_of x red ++ all_tables (map tables_of xs) red)
      → Given (lo + length (tables_of x red)) (all_loops (map sees xs) inside) (all_tables (map tables_of xs) red)
  others_given x xs inside red lo g =
      let ts = tables_of x red in
      let us = all_tables (map tables_of xs) red in
      let theirs = from_right (HasNumber number) lo ts us g.numbered in
      let w = one_has (IsWithin number lo (lo + length ts)) leaves children caller x inside red
      (lowers number (λ f. None) lo (lo + length ts) ts (omega arith)
      (from_left (HasNumber number) lo ts us g.numbered) lo (omega arith)) in record {
        numbered = theirs;
        fits = each_right TableFits ts us g.fits;
        taken = taken_back ((sees x).loops inside) (all_loops (map sees xs) inside) lo (lo + length ts) w us
            (lo + length ts) (omega arith) theirs
            (each_right (λ (t : Table).
            EachOf (IsTaken ((sees x).loops inside ++ all_loops (map sees xs) inside)) t.times) ts us g.taken);
      }

  -- ---- what is shown

  pub record Stands (inside : Bool) (x : Statement) : Type 0 where
    pub calls : (alone : Bool) → Overlaps homes x inside alone
    pub loops : EachOf MayBe (call_loops x).loops

  abbrev OfStatement : Statement → Type 0
  OfStatement x = (inside : Bool) (red : Option Reduction) (lo n : ℕ)
      → Given lo ((sees x).loops inside) (tables_of x red) → IsBegun x n → Stands inside x

  -- ---- a loop of one lower call

  module _ (place : Place) (m : LoopKind) (counts starts : List ℕ) (rows : List CallInstance) (inside : Bool) where
    abbrev one : List Statement
    one = b.Call true rows ∷ []

    abbrev y : Statement
    y = b.Map place m counts starts one

    abbrev spread : Bool
    spread = is_spread m inside (any_of (map lower_in one)) (any_of (map same_in one))

    abbrev IsIts : ℕ → Type 0
    IsIts = IsOwn leaves children m spread counts rows

    abbrev its : CallLoop
    its = record { kind = m; rows = rows; counts = counts; starts = starts }

    loops_are : (sees y).loops inside
        ≡ own_loop leaves children caller place m spread counts (Some rows) ++ ([] ++ [])
    loops_are =
        loops_map leaves children caller place m counts starts one inside
        ∙ ap₂ (λ o ls. own_loop leaves children caller place m spread counts (only_call (o ∷ [])) ++ (ls ++ []))
        (call_call true rows) (loops_call leaves children caller true rows (inside || spread))

    tables_are : (red : Option Reduction) → tables_of y red
        ≡ record { red = red_of m; lower = true; times = rows } ∷ []
    tables_are red =
        ap (λ (f : Option Reduction → List Table). f red) (tables_map place m counts starts one)
        ∙ ap (λ (f : Option Reduction → List Table). f (red_of m) ++ []) (tables_call true rows)

    module _ (red : Option Reduction) (lo n : ℕ) (g : Given lo ((sees y).loops inside) (tables_of y red))
        (begun : IsBegun y n) where
      fits : TableFits (record { red = red_of m; lower = true; times = rows })
      fits = (subst (EachOf TableFits) (tables_are red) g.fits).0

      own : EachOf (λ (q : CallInstance). (homes q.form).overlaps ≡ true → IsIts q.form) rows
      own =
          let taken = subst (λ cs. AreTaken cs (tables_of y red)) loops_are g.taken in
          each_map (IsTaken (own_loop leaves children caller place m spread counts (Some rows) ++ ([] ++ [])))
          (λ (q : CallInstance). (homes q.form).overlaps ≡ true → IsIts q.form) rows
          (λ q h o. its_own leaves children caller place m spread counts rows q.form (h o))
          (subst (AreTaken (own_loop leaves children caller place m spread counts (Some rows) ++ ([] ++ [])))
          (tables_are red) taken).0

      can : (k : LoopKind) (t : Bool) → may_overlap leaves children k t counts rows ≡ true → can_overlap k t one ≡ true
      can loop_kind.Sequential t e = refl
      can loop_kind.Parallel true e = refl
      can loop_kind.Parallel false e = absurd (cc e)
      can (loop_kind.Reduction r) t e = absurd (cc e)

      -- a row with the form of all rows
      form_of : (f : ℕ) → IsIts f → (j : ℕ) (q : CallInstance) → slice_get rows j ≡ Some q → q.form ≡ f
      form_of f h j q at =
          each_at (λ (q : CallInstance). q.form ≡ first_form rows) rows j q
          (each_form rows (one_form leaves children m spread counts rows h.may)) at ∙ h.form

      abbrev alone_spread : Bool
      alone_spread = is_spread m inside (any_by lower_in one) (any_by same_in one)

      row_overlaps : (q : CallInstance) → ((homes q.form).overlaps ≡ true → IsIts q.form)
          → RowOverlaps homes true (can_overlap m alone_spread one) rows q
      row_overlaps q h = record {
        lower_is = λ o. refl;
        alone_is = λ o. subst (λ t. can_overlap m t one ≡ true) (spread_is m inside one) (can m spread (h o).may);
        one = λ o k p at. form_of q.form (h o) k p at;
      }

      calls : (alone : Bool) → Overlaps homes y inside alone
      calls alone =
          subst (λ (f : AskedInMaps). f inside alone) (sym (overlaps_map homes place m counts starts one)) (
            subst (λ (f : AskedInMaps). f (inside || alone_spread) (can_overlap m alone_spread one))
                (sym (overlaps_call homes true rows))
                (each_map (λ (q : CallInstance). (homes q.form).overlaps ≡ true → IsIts q.form)
                (RowOverlaps homes true (can_overlap m alone_spread one) rows) rows row_overlaps own),
            tt,
          )

      asked : AreCounts counts n × (starts ≡ starts_from 0 counts) × all_parts IsBegun one (total counts)
      asked = subst (λ (f : AskedOfStatement). f n) (times_map place m counts starts one) begun

      many : length rows ≡ total counts
      many = subst (λ (f : AskedOfStatement). f (total counts)) (times_call true rows) asked.2.0

      there : (k t : ℕ) → t < get_or counts k 0 → (r : CallInstance)
          × (slice_get rows (get_or starts k 0 + t) ≡ Some r)
      there k t lt =
          let l = body_below counts starts asked.1 k t lt in
          at_index rows (get_or starts k 0 + t) (omega (arith, l, many))

      heads : (i j : ℕ) (r q : CallInstance) → slice_get rows i ≡ Some r → slice_get rows j ≡ Some q
          → AreHeads r.args q.args
      heads i j r q at to =
          let those : List Argument = fits.alike.those in
          heads_are r.args q.args
          (each_at (λ (q : CallInstance). words q ≡ those) rows i r fits.alike.each at
          ∙ sym (each_at (λ (q : CallInstance). words q ≡ those) rows j q fits.alike.each to))

      module _ (f : ℕ) (over : (homes f).overlaps ≡ true) (h : IsIts f) where
        clear : (r q : CallInstance) → r.form ≡ f → q.form ≡ f → is_clear (leaves (first_form rows)) r q ≡ true
            → IsClear homes r q
        clear r q p s e = record {
          apart = λ i j x z at to buffer second written shared.
              let ls = leaves (first_form rows) in
              let held : (i : ℕ) (k : ℕ) → k ≡ f → place_of (get_or (homes k).params i InPlace) ≡ Buffer
              → is_held ls i ≡ false
              = λ i k is b. subst (λ k. is_held (leaves k) i ≡ false) (is ∙ sym h.form) (suited.moved k i b) in
              let none = clear_at ls r q e i j x z at to (held i r.form p buffer) (held j q.form s second) written in
              let some = shares_is x z shared in
              absurd (cc (sym some ∙ none));
        }

        clear_by : (k : LoopKind) (t : Bool) → may_overlap leaves children k t counts rows ≡ true
            → IsClearBy homes k its
        clear_by loop_kind.Sequential t e =
            let ls = leaves (first_form rows) in
            let ahead : list_all (are_ahead ls) (cut counts rows) ≡ true
            = third (have_one_form rows) _ (list_all (are_ahead ls) (cut counts rows)) e in
            let from : (k : ℕ) → get_or starts k 0 ≡ get_or (starts_from 0 counts) k 0
            = λ k. ap (λ ss. get_or ss k 0) asked.1 in record {
              one = λ k t r q lt at to.
                  clear r q (form_of f h _ r at) (form_of f h _ q to)
                  (one_ahead ls counts rows ahead k t r q lt
                  (subst (λ s. slice_get rows (s + t) ≡ Some r) (from k) at)
                  (subst (λ s. slice_get rows (s + suc t) ≡ Some q) (from k) to));
              two = λ k t r q lt at to.
                  clear r q (form_of f h _ r at) (form_of f h _ q to)
                  (two_ahead ls counts rows ahead k t r q lt
                  (subst (λ s. slice_get rows (s + t) ≡ Some r) (from k) at)
                  (subst (λ s. slice_get rows (s + suc (suc t)) ≡ Some q) (from k) to));
            }
          where
            third : (x y z : Bool) → (x && y && z) ≡ true → z ≡ true
            third true true z e = e
            third true false z e = absurd (cc e)
            third false true z e = absurd (cc e)
            third false false z e = absurd (cc e)
        clear_by loop_kind.Parallel t e = tt
        clear_by (loop_kind.Reduction r) t e = tt

        loop_overlaps : LoopOverlaps homes its
        loop_overlaps = record {
          stands = record {
            there = there;
            form = λ i j r q at to. form_of f h i r at ∙ sym (form_of f h j q to);
            heads = heads;
          };
          doubled = λ j i r a at to.
              let o = subst (λ k. (homes k).overlaps ≡ true) (sym (form_of f h j r at)) over in
              each_at Doubled rows j r (fits.doubled refl) at o i a to;
          clear = clear_by m spread h.may;
        }

      first_may : (times : List CallInstance)
          → EachOf (λ (q : CallInstance). (homes q.form).overlaps ≡ true → IsIts q.form) times
          → (homes (row_form (slice_get times 0))).overlaps ≡ true → LoopMay homes leaves children its
      first_may [] h over = absurd (let e = suited.entry in cc (sym e ∙ over))
      first_may (q ∷ times) h over = record {
        overlaps = loop_overlaps q.form over (h.0 over);
        spread = spread;
        may = (h.0 over).may;
        many = many;
      }

      pub loop_stands : Stands inside y
      loop_stands = record {
        calls = calls;
        loops = subst (λ (l : CallLoops). EachOf MayBe l.loops)
            (sym (pipes.loops_map place m counts starts one
            ∙ ap (λ (l : CallLoops). loops_of.call_loops_step (Statement-F.Map place m counts starts (l ∷ [])))
            (pipes.loops_call true rows))) (first_may rows own, tt);
      }

  -- ---- the induction

  abbrev Known : Type 0
  Known = (x : Statement) × OfStatement x

  abbrev these : List Known → List Statement
  these = map (λ (q : Known). q.0)

  record AllStand (inside : Bool) (xs : List Statement) : Type 0 where
    calls : (alone : Bool) → each_in_maps (Overlaps homes) xs inside alone
    loops : EachOf MayBe (loops_of.all_loops (map call_loops xs))

  more_stand : (inside : Bool) (x : Statement) (xs : List Statement) → Stands inside x → AllStand inside xs
      → AllStand inside (x ∷ xs)
  more_stand inside x xs h hs = record {
    calls = λ alone. (h.calls alone, hs.calls alone);
    loops = each_both MayBe (call_loops x).loops (loops_of.all_loops (map call_loops xs)) h.loops hs.loops;
  }

  parts_stand : (xs : List Known) (inside : Bool) (red : Option Reduction) (lo n : ℕ)
      → Given lo (all_loops (map sees (these xs)) inside) (all_tables (map tables_of (these xs)) red)
      → all_parts IsBegun (these xs) n → AllStand inside (these xs)
  parts_stand [] inside red lo n g h = record { calls = λ alone. tt; loops = tt }
  parts_stand (x ∷ xs) inside red lo n g h =
      more_stand inside x.0 (these xs)
      (x.1 inside red lo n (first_given x.0 (these xs) inside red lo g) h.0)
      (parts_stand xs inside red (lo + length (tables_of x.0 red)) n (others_given x.0 (these xs) inside red lo g) h.1)

  call_stands : (lower : Bool) (rows : List CallInstance) → OfStatement (b.Call lower rows)
  call_stands lower rows inside red lo n g h =
      let taken = subst (λ cs. AreTaken cs (tables_of (b.Call lower rows) red))
      (loops_call leaves children caller lower rows inside) g.taken in
      let none = (subst (λ (f : Option Reduction → List Table). AreTaken [] (f red)) (tables_call lower rows) taken).0
      in record {
        calls = λ alone. subst (λ (f : AskedInMaps). f inside alone) (sym (overlaps_call homes lower rows))
            (each_map (IsTaken []) (RowOverlaps homes lower alone rows) rows (λ q u. record {
              lower_is = λ o. absurd (u o);
              alone_is = λ o. absurd (u o);
              one = λ o. absurd (u o);
            }) none);
        loops = subst (λ (l : CallLoops). EachOf MayBe l.loops) (sym (pipes.loops_call lower rows)) tt;
      }

  map_stands : (place : Place) (m : LoopKind) (counts starts : List ℕ) (xs : List Known)
      → only_call (map call_in (these xs)) ≡ None → OfStatement (b.Map place m counts starts (these xs))
  map_stands place m counts starts xs none inside red lo n g h =
      let ys = these xs in
      let spread = is_spread m inside (any_of (map lower_in ys)) (any_of (map same_in ys)) in
      let cs = loops_map leaves children caller place m counts starts ys inside
      ∙ ap (λ o. own_loop leaves children caller place m spread counts o ++ all_loops (map sees ys) (inside || spread))
      none in
      let ts = ap (λ (f : Option Reduction → List Table). f red) (tables_map place m counts starts ys) in
      let its : Given lo (all_loops (map sees ys) (inside || spread)) (all_tables (map tables_of ys) (red_of m)) =
      subst (λ ts. Given lo (all_loops (map sees ys) (inside || spread)) ts) ts
      (subst (λ cs. Given lo cs (tables_of (b.Map place m counts starts ys) red)) cs g) in
      let asked = subst (λ (f : AskedOfStatement). f n) (times_map place m counts starts ys) h in
      let all = parts_stand xs (inside || spread) (red_of m) lo (total counts) its asked.2 in record {
        calls = λ alone. subst (λ (f : AskedInMaps). f inside alone) (sym (overlaps_map homes place m counts starts ys))
            (subst (λ t. each_in_maps (Overlaps homes) ys (inside || t) (can_overlap m t ys)) (spread_is m inside ys)
            (all.calls (can_overlap m spread ys)));
        loops = subst (λ (l : CallLoops). EachOf MayBe l.loops)
            (sym (pipes.loops_map place m counts starts ys))
            (subst (λ ls. EachOf MayBe (ls ++ loops_of.all_loops (map call_loops ys)))
            (sym (no_round m counts starts ys none)) all.loops);
      }

  stands_step : (y : Statement-F Known) → OfStatement (roll-Statement (map-Statement Known Statement (λ p. p.0) y))
  stands_step (Statement-F.Call lower rows) = subst OfStatement (sym (b.rolls-Call lower rows)) (call_stands lower rows)
  stands_step (Statement-F.Map place m counts starts xs) =
      subst OfStatement (sym (b.rolls-Map place m counts starts (these xs)))
      (by (only_call (map call_in (these xs))) refl)
    where
      by : (o : Option (List CallInstance)) → only_call (map call_in (these xs)) ≡ o
          → OfStatement (b.Map place m counts starts (these xs))
      by None e = map_stands place m counts starts xs e
      by (Some rows) e = subst (λ ys. OfStatement (b.Map place m counts starts ys)) (sym (only_one (these xs) rows e))
          (λ inside red lo n g h. loop_stands place m counts starts rows inside red lo n g h)

  statement_stands : (x : Statement) → OfStatement x
  statement_stands =
      ind-Statement OfStatement (λ x y is. subst (λ z. OfStatement (roll-Statement z)) is (stands_step y))

  -- all statements of a form
  pub list_stands : (xs : List Statement) (inside : Bool) (red : Option Reduction) (lo n : ℕ)
      → Given lo (all_loops (map sees xs) inside) (all_tables (map tables_of xs) red) → all_parts IsBegun xs n
      → ((alone : Bool) → each_in_maps (Overlaps homes) xs inside alone)
      × EachOf MayBe (loops_of.all_loops (map call_loops xs))
  list_stands [] inside red lo n g h = ((λ alone. tt), tt)
  list_stands (x ∷ xs) inside red lo n g h =
      let first = statement_stands x inside red lo n (first_given x xs inside red lo g) h.0 in
      let others = others_given x xs inside red lo g in
      let rest = list_stands xs inside red (lo + length (tables_of x red)) n others h.1 in (
        (λ alone. (first.calls alone, rest.0 alone)),
        each_both MayBe (call_loops x).loops (loops_of.all_loops (map call_loops xs)) first.loops rest.1,
      )
