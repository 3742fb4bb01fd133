-- The candidates of a form are those of its loops that may overlap.
use Rattle.std.proofs.Common.{◌≡◌, ◌==◌, ℕ, ◌<◌, ◌≤◌, Bool, true, false, ◌&&◌, ◌||◌, nat_le, nat_lt}
use Rattle.std.proofs.Common.{List, [], ◌∷◌, ◌++◌, map, get_or, slice_get, Option, Some, None, refl, sym}
use Rattle.std.proofs.Common.{subst, ◌∙◌, arith, if◌then◌else◌}
use Rattle.std.specs.List.{list_all}
use Rattle.sq_text.specs.declared.place.Place.{Place}
use Rattle.sq_work.specs.declared.reduction.Reduction.{Reduction}
use Rattle.sq_forms.specs.Machfile.declared.node.Node.{Node}
use Rattle.sq_spec.specs.declared.statement.LoopKind.{LoopKind}
use Rattle.sq_spec.specs.declared.statement.LoopKind.TheVariants as loop_kind
use Rattle.sq_spec.specs.declared.statement.CallInstance.{CallInstance}
use Rattle.sq_spec.specs.declared.statement.Statement.{Statement, roll-Statement}
use Rattle.sq_spec.specs.declared.statement.Statement.TheVariants as b
use Rattle.sq_spec.specs.declared.statement.Statement.TheOpen.{Statement-F}
use Rattle.sq_spec.specs.declared.statement.Statement.TheFolds.{ind-Statement, map-Statement}
use Rattle.sq_spec.specs.Statements.{starts_from}
use Rattle.sq_spec.specs.Spreads.{any_of, is_spread, lower_in, same_in}
use Rattle.sq_spec_laws.specs.TableRows.{Table, red_of, all_tables, tables_of}
use Rattle.sq_spec_laws.proofs.TableRowsHold.{tables_call, tables_map}
use Rattle.sq_placed.specs.Pipes.{CallLoop}
use Rattle.sq_draft_laws.specs.TermLaws.Fits.{AskedOfStatement, all_parts}
use Rattle.sq_draft_laws.specs.TermLaws.Orders.{EachOf}
use Rattle.sq_draft_laws.proofs.ProgramLaws.Loops.{each_left, each_map, each_right}
use Rattle.sq_pipe.specs.Hoist.Counts.{total}
use Rattle.sq_pipe.specs.Hoist.Loops.{cut}
use Rattle.sq_pipe.specs.declared.candidate.Candidate.{Candidate}
use Rattle.sq_pipe.specs.Candidates as code
use Rattle.sq_pipe.specs.Candidates.{may_overlap, have_one_form, first_form, are_ahead, call_in, only_call}
use Rattle.sq_pipe.specs.Candidates.{Seen, seen}
use Rattle.sq_pipe.proofs.CallsOpened as opened
use Rattle.sq_pass_laws.specs.Times.{IsBegun}
use Rattle.sq_pass_laws.proofs.Begins.{times_map}
use Rattle.sq_pass_laws.proofs.Staying.{equal_is}
use Rattle.sq_pass_laws.proofs.Candidates.{only_one, each_form}
use Rattle.sq_choice_laws.specs.Leaving.{HasForm}
use Rattle.sq_choice_laws.specs.Overlapping.{Loop, all_loops, own_loop, loop_round, loops_in}
use Rattle.sq_choice_laws.specs.Overlapping.{TurnsMay, MayOverlapAs, AreThose, no_loop}
use Rattle.sq_choice_laws.specs.Overlapping.{other_loop, such_loop}
use Rattle.sq_choice_laws.proofs.Clears.{both_true, IsProper, left, ahead_is, is_ahead_all}
use Rattle.sq_choice_laws.proofs.Turns.{turns_are, turns_all, more_are, more_all}
use Rattle.sq_choice_laws.proofs.Rounds.{loops_call, loops_map}

-- ---- lists

pub those_both : (May : Loop → ℕ → Type 0) {ls ms : List Loop} {cs ds : List Candidate} → AreThose May ls cs
    → AreThose May ms ds → AreThose May (ls ++ ms) (cs ++ ds)
those_both May no_loop k = k
those_both May (other_loop l none h) k = other_loop l none (those_both May h k)
those_both May (such_loop l f may h) k = such_loop l f may (those_both May h k)

-- ---- one form

one_form : (rows : List CallInstance) → have_one_form rows ≡ true → HasForm (first_form rows) rows
one_form [] e = absurd (cc e)
one_form (r ∷ rows) e = record { some = omega arith; each = each_form (r ∷ rows) e }

all_same : (f : ℕ) (rows : List CallInstance) → EachOf (λ (q : CallInstance). q.form ≡ f) rows
    → list_all (λ (q : CallInstance). q.form == f) rows ≡ true
all_same f [] h = refl
all_same f (q ∷ rows) h =
    both_true (q.form == f) (list_all (λ (q : CallInstance). q.form == f) rows) (equal_is q.form f h.0)
    (all_same f rows h.1)

form_is : (f : ℕ) (rows : List CallInstance) → HasForm f rows → first_form rows ≡ f
form_is f [] h = let l = h.some in absurd (omega (arith, l))
form_is f (r ∷ rows) h = h.each.0

have_form : (f : ℕ) (rows : List CallInstance) → HasForm f rows → have_one_form rows ≡ true
have_form f [] h = let l = h.some in absurd (omega (arith, l))
have_form f (r ∷ rows) h =
    all_same r.form rows (each_map (λ (q : CallInstance). q.form ≡ f) (λ (q : CallInstance). q.form ≡ r.form) rows
    (λ q e. e ∙ sym h.each.0) h.each.1)

three : (x y z : Bool) → (x && y && z) ≡ true → (x ≡ true) × (y ≡ true) × (z ≡ true)
three true true z e = (refl, refl, e)
three true false z e = absurd (cc e)
three false true z e = absurd (cc e)
three false false z e = absurd (cc e)

all_three : (x y z : Bool) → x ≡ true → y ≡ true → z ≡ true → (x && y && z) ≡ true
all_three x y z p q r = (λ i. p i && q i && r i)

-- ---- a form

module _ (leaves : ℕ → List ℕ) (children : ℕ) (nodes : List Node) (at : ℕ → Type 0)
    (covers : (n : ℕ) (x : Node) → at n → slice_get nodes n ≡ Some x → x.children ≤ children)
    (within : (c : ℕ) → 0 < c → ((n : ℕ) (x : Node) → at n → slice_get nodes n ≡ Some x → x.children < c)
    → children < c) where
  abbrev Turns : LoopKind → Bool → CallLoop → Type 0
  Turns = TurnsMay (left leaves) nodes at

  module _ (rows : List CallInstance) (counts starts : List ℕ) (from : starts ≡ starts_from 0 counts) where
    abbrev its : LoopKind → CallLoop
    its m = record { kind = m; rows = rows; counts = counts; starts = starts }

    turns_may : (m : LoopKind) (spread : Bool) → may_overlap leaves children m spread counts rows ≡ true
        → Turns m spread (its m)
    turns_may loop_kind.Sequential spread e =
        let t = three (have_one_form rows) (list_all (λ n. nat_le 2 n) counts)
        (list_all (are_ahead (leaves (first_form rows))) (cut counts rows)) e in record {
          two = turns_are 2 counts t.1;
          clear = ahead_is leaves loop_kind.Sequential rows counts starts from (first_form rows) (one_form rows t.0) t.2;
        }
    turns_may loop_kind.Parallel spread e =
        let t = three spread (have_one_form rows) (list_all (λ n. nat_lt children n) counts) e in
        let more = more_are children counts t.2 in record {
          is_spread = t.0;
          some = λ k lt. let l = more k lt in omega (arith, l);
          more = λ n x a g k lt. let l = more k lt in let c = covers n x a g in omega (arith, l, c);
        }
    turns_may (loop_kind.Reduction d) spread e = absurd (cc e)

    form_there : (m : LoopKind) (spread : Bool) → may_overlap leaves children m spread counts rows ≡ true
        → have_one_form rows ≡ true
    form_there loop_kind.Sequential spread e =
        (three (have_one_form rows) (list_all (λ n. nat_le 2 n) counts)
        (list_all (are_ahead (leaves (first_form rows))) (cut counts rows)) e).0
    form_there loop_kind.Parallel spread e =
        (three spread (have_one_form rows) (list_all (λ n. nat_lt children n) counts) e).1
    form_there (loop_kind.Reduction d) spread e = absurd (cc e)

    passes : (m : LoopKind) (spread : Bool) (f : ℕ) → HasForm f rows → EachOf IsProper rows → Turns m spread (its m)
        → may_overlap leaves children m spread counts rows ≡ true
    passes loop_kind.Sequential spread f form proper t =
        all_three (have_one_form rows) (list_all (λ n. nat_le 2 n) counts)
        (list_all (are_ahead (leaves (first_form rows))) (cut counts rows))
        (have_form f rows form) (turns_all 2 counts t.two)
        (subst (λ g. list_all (are_ahead (leaves g)) (cut counts rows) ≡ true) (sym (form_is f rows form))
        (is_ahead_all leaves loop_kind.Sequential rows counts starts from f form proper t.clear))
    passes loop_kind.Parallel spread f form proper t =
        all_three spread (have_one_form rows) (list_all (λ n. nat_lt children n) counts)
        t.is_spread (have_form f rows form)
        (more_all children counts (λ k lt. within (get_or counts k 0) (t.some k lt) (λ n x a g. t.more n x a g k lt)))
    passes (loop_kind.Reduction d) spread f form proper t = absurd t

  module _ (caller : ℕ) where
    -- what is said of loops that stand in this form
    pub record IsMay (May : Loop → ℕ → Type 0) : Type 0 where
      pub to : (l : Loop) (f : ℕ) → l.caller ≡ caller → MayOverlapAs (left leaves) nodes at l f → May l f
      pub of : (l : Loop) (f : ℕ) → l.caller ≡ caller → May l f → MayOverlapAs (left leaves) nodes at l f

    module _ (May : Loop → ℕ → Type 0) (is_may : IsMay May) where
      abbrev sees : Statement → Seen
      sees = seen leaves children caller

      own_those : (place : Place) (spread : Bool) (m : LoopKind) (counts starts : List ℕ) (rows : List CallInstance)
          → starts ≡ starts_from 0 counts → EachOf IsProper rows
          → AreThose May (own_loop caller place spread m counts starts (Some rows))
          (code.own_loop leaves children caller place m spread counts (Some rows))
      own_those place spread m counts starts rows from proper =
          by (may_overlap leaves children m spread counts rows) refl
        where
          loop : Loop
          loop = record {
            caller = caller;
            place = place;
            spread = spread;
            its = record { kind = m; rows = rows; counts = counts; starts = starts };
          }

          by : (t : Bool) → may_overlap leaves children m spread counts rows ≡ t
              → AreThose May (loop ∷ [])
              (if t then record { caller = caller; form = first_form rows; place = place } ∷ [] else [])
          by true e = such_loop loop (first_form rows)
              (is_may.to loop (first_form rows) refl (record {
                form = one_form rows (form_there rows counts starts from m spread e);
                turns = turns_may rows counts starts from m spread e;
              })) no_loop
          by false e = other_loop loop (λ f may.
              let h = is_may.of loop f refl may in
              absurd (let p = passes rows counts starts from m spread f h.form proper h.turns in cc (sym e ∙ p))) no_loop

      -- ---- where one call is all that stands in a map

      round_those : (place : Place) (spread : Bool) (m : LoopKind) (counts starts : List ℕ)
          (os : List (Option (List CallInstance))) → starts ≡ starts_from 0 counts
          → ((rows : List CallInstance) → only_call os ≡ Some rows → EachOf IsProper rows)
          → AreThose May (loop_round caller place spread m counts starts os)
          (code.own_loop leaves children caller place m spread counts (only_call os))
      round_those place spread m counts starts [] from proper = no_loop
      round_those place spread m counts starts (None ∷ []) from proper = no_loop
      round_those place spread m counts starts (Some rows ∷ []) from proper =
          own_those place spread m counts starts rows from (proper rows refl)
      round_those place spread m counts starts (None ∷ o ∷ os) from proper = no_loop
      round_those place spread m counts starts (Some rows ∷ o ∷ os) from proper = no_loop

      -- ---- the induction

      abbrev Proper : List Table → Type 0
      Proper ts = EachOf (λ (t : Table). EachOf IsProper t.times) ts

      abbrev OfStatement : Statement → Type 0
      OfStatement x = (inside : Bool) (red : Option Reduction) (n : ℕ) → IsBegun x n → Proper (tables_of x red)
          → AreThose May (loops_in caller x inside) ((sees x).loops inside)

      abbrev Known : Type 0
      Known = (x : Statement) × OfStatement x

      abbrev these : List Known → List Statement
      these = map (λ (q : Known). q.0)

      parts_those : (xs : List Known) (inside : Bool) (red : Option Reduction) (n : ℕ)
          → all_parts IsBegun (these xs) n → Proper (all_tables (map tables_of (these xs)) red)
          → AreThose May (all_loops (map (loops_in caller) (these xs)) inside)
          (code.all_loops (map sees (these xs)) inside)
      parts_those [] inside red n h proper = no_loop
      parts_those (x ∷ xs) inside red n h proper =
          let ts = tables_of x.0 red in
          let us = all_tables (map tables_of (these xs)) red in
          those_both May
          (x.1 inside red n h.0 (each_left (λ (t : Table). EachOf IsProper t.times) ts us proper))
          (parts_those xs inside red n h.1 (each_right (λ (t : Table). EachOf IsProper t.times) ts us proper))

      rows_proper : (xs : List Statement) (red : Option Reduction) → Proper (all_tables (map tables_of xs) red)
          → (rows : List CallInstance) → only_call (map call_in xs) ≡ Some rows → EachOf IsProper rows
      rows_proper xs red h rows e =
          let one = subst (λ (ys : List Statement). Proper (all_tables (map tables_of ys) red)) (only_one xs rows e) h in
          (subst (λ (f : Option Reduction → List Table). Proper (f red ++ [])) (tables_call true rows) one).0

      those_step : (y : Statement-F Known) → OfStatement (roll-Statement (map-Statement Known Statement (λ p. p.0) y))
      those_step (Statement-F.Call lower rows) = subst OfStatement (sym (b.rolls-Call lower rows)) (λ inside red n h proper.
          subst (λ ls. AreThose May ls ((sees (b.Call lower rows)).loops inside)) (sym (loops_call caller lower rows inside))
          (subst (λ cs. AreThose May [] cs) (sym (opened.loops_call leaves children caller lower rows inside)) no_loop))
      those_step (Statement-F.Map place m counts starts xs) =
          let ys = these xs in
          subst OfStatement (sym (b.rolls-Map place m counts starts ys)) (λ inside red n h proper.
          let asked = subst (λ (f : AskedOfStatement). f n) (times_map place m counts starts ys) h in
          let its = subst (λ (f : Option Reduction → List Table). Proper (f red)) (tables_map place m counts starts ys)
          proper in
          let spread = is_spread m inside (any_of (map lower_in ys)) (any_of (map same_in ys)) in
          subst (λ ls. AreThose May ls ((sees (b.Map place m counts starts ys)).loops inside))
          (sym (loops_map caller place m counts starts ys inside))
          (subst (λ cs. AreThose May (loop_round caller place spread m counts starts (map call_in ys)
          ++ all_loops (map (loops_in caller) ys) (inside || spread)) cs)
          (sym (opened.loops_map leaves children caller place m counts starts ys inside))
          (those_both May
          (round_those place spread m counts starts (map call_in ys) asked.1 (rows_proper ys (red_of m) its))
          (parts_those xs (inside || spread) (red_of m) (total counts) asked.2 its))))

      one_those : (x : Statement) → OfStatement x
      one_those = ind-Statement OfStatement (λ x y is. subst (λ z. OfStatement (roll-Statement z)) is (those_step y))

      -- all statements of a form
      pub list_those : (xs : List Statement) (inside : Bool) (red : Option Reduction) (n : ℕ)
          → all_parts IsBegun xs n → Proper (all_tables (map tables_of xs) red)
          → AreThose May (all_loops (map (loops_in caller) xs) inside) (code.all_loops (map sees xs) inside)
      list_those [] inside red n h proper = no_loop
      list_those (x ∷ xs) inside red n h proper =
          let ts = tables_of x red in
          let us = all_tables (map tables_of xs) red in
          those_both May
          (one_those x inside red n h.0 (each_left (λ (t : Table). EachOf IsProper t.times) ts us proper))
          (list_those xs inside red n h.1 (each_right (λ (t : Table). EachOf IsProper t.times) ts us proper))
