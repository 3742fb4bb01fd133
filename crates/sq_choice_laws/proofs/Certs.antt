-- What is known of each statement of a form, as its notes ask: of a call in plain loops how many loops its arguments
-- leave; of other maps and calls, that nothing leaves them; and which of the loops overlap.
use Rattle.std.proofs.Common.{◌≡◌, inl, inr, ℕ, zero, suc, ◌+◌, ◌==◌, ◌<◌, ◌≤◌, Bool, true, false, ◌||◌, List, [], ◌∷◌}
use Rattle.std.proofs.Common.{◌++◌, map, length, get_or, Option, Some, None, refl, sym, ap, ap₂, subst, ◌∙◌, arith}
use Rattle.sq_text.specs.declared.place.Place.{Place}
use Rattle.sq_work.specs.declared.reduction.Reduction.{Reduction}
use Rattle.sq_spec.specs.declared.statement.LoopKind.{LoopKind}
use Rattle.sq_spec.specs.declared.statement.CallInstance.{CallInstance}
use Rattle.sq_spec.specs.declared.statement.Statement.{Statement, roll-Statement}
use Rattle.sq_spec.specs.declared.statement.Statement.TheVariants as b
use Rattle.sq_spec.specs.declared.statement.Statement.TheOpen.{Statement-F}
use Rattle.sq_spec.specs.declared.statement.Statement.TheFolds.{ind-Statement, map-Statement}
use Rattle.sq_spec.specs.Spreads.{any_of, is_spread, lower_in, same_in}
use Rattle.sq_spec_laws.specs.TableRows.{Table, red_of, all_tables, tables_of}
use Rattle.sq_spec_laws.proofs.TableRowsHold.{tables_call, tables_map}
use Rattle.sq_draft_laws.specs.TermLaws.Orders.{EachOf}
use Rattle.sq_draft_laws.proofs.ProgramLaws.Loops.{nothing_more, each_left, each_map, each_right}
use Rattle.sq_draft_laws.specs.Homes.Chosen.declared.choice.Choice.{Choice}
use Rattle.sq_draft_laws.specs.Homes.Chosen.Arrays.{left_by}
use Rattle.sq_draft_laws.specs.Homes.Chosen.Forms.{choice_in}
use Rattle.sq_pipe.specs.Hoist.Loops.{Nest, seen, sites_by, sites_in, all_sites}
use Rattle.sq_pipe.specs.Hoist.Choices.{find_leaves, leaves_or}
use Rattle.sq_pipe.proofs.Hoist.Opened.{nest_call, inner_call, inner_map}
use Rattle.sq_pipe.specs.declared.candidate.Candidate.{Candidate}
use Rattle.sq_pipe.specs.Candidates as code
use Rattle.sq_pipe.specs.Candidates.{may_overlap, first_form, call_in, only_call}
use Rattle.sq_pipe.proofs.CallsOpened as opened
use Rattle.sq_pass_laws.proofs.Nests.{nest_of, climb, IsBound, bounds_climb, if_true, itself}
use Rattle.sq_pass_laws.proofs.Nests.{call_is}
use Rattle.sq_pass_laws.proofs.HoistLists.{each_two}
use Rattle.sq_pass_laws.proofs.Alone.{is_alone}
use Rattle.sq_pass_laws.proofs.Sites.{Leaves, from_left, from_right, HasNumber, Numbered, IsWithin, sites_of_one}
use Rattle.sq_pass_laws.proofs.Sites.{AreLocal, first_local, others_local, lowers}
use Rattle.sq_pass_laws.proofs.Holding.{TablesSo}
use Rattle.sq_pass_laws.proofs.Candidates.{IsIn, one_form, its_own, only_one, one_has, all_have, AreWithin, in_front, in_back}
use Rattle.sq_choice_laws.proofs.Wholes.{Whole, is_whole}

module _ (choices : List Choice) (taken : List Bool) (lefts : ℕ → List ℕ) (children caller : ℕ) where
  abbrev pub left : ℕ → ℕ → ℕ
  left f i = left_by (choice_in choices f) i

  abbrev pub Over : ℕ → Type 0
  Over f = (choice_in choices f).overlaps ≡ true

  abbrev pub sees : Statement → code.Seen
  sees = code.seen lefts children caller

  abbrev pub cands : Statement → Bool → List Candidate
  cands x inside = (sees x).loops inside

  abbrev pub spread_of : LoopKind → Bool → List Statement → Bool
  spread_of m inside parts = is_spread m inside (any_of (map lower_in parts)) (any_of (map same_in parts))

  -- of a loop with these rows: it overlaps only where it may, and is taken as is chosen
  pub record OwnCert (m : LoopKind) (spread : Bool) (counts : List ℕ) (rows : List CallInstance) : Type 0 where
    pub may : Over (first_form rows) → may_overlap lefts children m spread counts rows ≡ true
    pub agree : may_overlap lefts children m spread counts rows ≡ true
        → (choice_in choices (first_form rows)).overlaps ≡ get_or taken (first_form rows) false

  pub record NestCert (inside : Bool) (x : Statement) (n : Nest) : Type 0 where
    pub is : nest_of caller x ≡ Some n
    pub whole : Whole caller x n
    pub leaves : (p : Place) (ps : List Place) → n.loops ≡ p ∷ ps → (choice_in choices n.form).leaves ≡ n.leaves
    pub few : (i : ℕ) → left n.form i ≤ length n.loops
    pub among : 0 < length n.loops → Over n.form → IsIn n.form (cands x inside)
    pub agree : (choice_in choices n.form).overlaps ≡ get_or taken n.form false

  pub data Certs : Bool → List Statement → Type 0 where
    no_cert : {inside : Bool} → Certs inside []
    nest_cert : {inside : Bool} (x : Statement) {xs : List Statement} (n : Nest) → NestCert inside x n
        → Certs inside xs → Certs inside (x ∷ xs)
    call_cert : {inside : Bool} (lower : Bool) (rows : List CallInstance) {xs : List Statement}
        → nest_of caller (b.Call lower rows) ≡ None
        → EachOf (λ (q : CallInstance). (i : ℕ) → left q.form i ≡ 0) rows → Certs inside xs
        → Certs inside (b.Call lower rows ∷ xs)
    map_cert : {inside : Bool} (place : Place) (m : LoopKind) (counts starts : List ℕ) (parts : List Statement)
        {xs : List Statement} → nest_of caller (b.Map place m counts starts parts) ≡ None
        → ((rows : List CallInstance) → only_call (map call_in parts) ≡ Some rows
        → OwnCert m (spread_of m inside parts) counts rows)
        → Certs (inside || spread_of m inside parts) parts → Certs inside xs
        → Certs inside (b.Map place m counts starts parts ∷ xs)

  -- ---- how they are found

  module _ (number : ℕ → ℕ) (look : ℕ → Leaves) (entry : Over 0 → ⊥) where
    pub record IsChosen (q : CallInstance) : Type 0 where
      pub leaves : (choice_in choices q.form).leaves ≡ leaves_or (look q.form)
      pub agree : (choice_in choices q.form).overlaps ≡ get_or taken q.form false

    abbrev pub AllChosen : List Table → Type 0
    AllChosen = TablesSo IsChosen

    abbrev IsAmong : List Candidate → CallInstance → Type 0
    IsAmong cs q = Over q.form → IsIn q.form cs

    abbrev pub AreAmong : List Candidate → List Table → Type 0
    AreAmong cs ts = EachOf (λ (t : Table). EachOf (IsAmong cs) t.times) ts

    among_front : (cs ds : List Candidate) (lo mid hi : ℕ) → AreWithin number mid hi ds → (ts : List Table)
        → lo + length ts ≤ mid → Numbered number lo ts → AreAmong (cs ++ ds) ts → AreAmong cs ts
    among_front cs ds lo mid hi w [] less n h = tt
    among_front cs ds lo mid hi w (t ∷ ts) less n h = (
      each_two (λ (q : CallInstance). number q.form ≡ lo) (IsAmong (cs ++ ds)) (IsAmong cs) t.times
          (λ q e g o. in_front number mid hi cs ds w q.form (inl (omega (arith, e, less))) (g o)) n.0 h.0,
      among_front cs ds (suc lo) mid hi w ts (omega (arith, less)) n.1 h.1,
    )

    among_back : (cs ds : List Candidate) (low lo : ℕ) → AreWithin number low lo cs → (ts : List Table) (at : ℕ)
        → lo ≤ at → Numbered number at ts → AreAmong (cs ++ ds) ts → AreAmong ds ts
    among_back cs ds low lo w [] at less n h = tt
    among_back cs ds low lo w (t ∷ ts) at less n h = (
      each_two (λ (q : CallInstance). number q.form ≡ at) (IsAmong (cs ++ ds)) (IsAmong ds) t.times
          (λ q e g o. in_back number low lo cs ds w q.form (inr (omega (arith, e, less))) (g o)) n.0 h.0,
      among_back cs ds low lo w ts (suc at) (omega (arith, less)) n.1 h.1,
    )

    module _ (x : Statement) (xs : List Statement) (inside : Bool) (red : Option Reduction) (lo : ℕ)
        (n : Numbered number lo (tables_of x red ++ all_tables (map tables_of xs) red)) where
      abbrev ts : List Table
      ts = tables_of x red

      abbrev us : List Table
      us = all_tables (map tables_of xs) red

      first_among : AreAmong (cands x inside ++ code.all_loops (map sees xs) inside) (ts ++ us)
          → AreAmong (cands x inside) ts
      first_among h =
          let w = all_have (IsWithin number (lo + length ts) (lo + length ts + length us)) lefts children caller xs inside
          red (lowers number look (lo + length ts) (lo + length ts + length us) us (omega arith)
          (from_right (HasNumber number) lo ts us n) (lo + length ts) (omega arith)) in
          among_front (cands x inside) (code.all_loops (map sees xs) inside) lo (lo + length ts)
          (lo + length ts + length us) w ts (omega arith) (from_left (HasNumber number) lo ts us n)
          (each_left (λ (t : Table). EachOf (IsAmong (cands x inside ++ code.all_loops (map sees xs) inside)) t.times)
          ts us h)

      others_among : AreAmong (cands x inside ++ code.all_loops (map sees xs) inside) (ts ++ us)
          → AreAmong (code.all_loops (map sees xs) inside) us
      others_among h =
          let w = one_has (IsWithin number lo (lo + length ts)) lefts children caller x inside red
          (lowers number look lo (lo + length ts) ts (omega arith) (from_left (HasNumber number) lo ts us n) lo
          (omega arith)) in
          among_back (cands x inside) (code.all_loops (map sees xs) inside) lo (lo + length ts) w us (lo + length ts)
          (omega arith) (from_right (HasNumber number) lo ts us n)
          (each_right (λ (t : Table). EachOf (IsAmong (cands x inside ++ code.all_loops (map sees xs) inside)) t.times)
          ts us h)

    -- ---- a call in plain loops

    none_at : (i : ℕ) → ◌≡◌ {A = ℕ} (get_or [] i 0) 0
    none_at zero = refl
    none_at (suc i) = refl

    abbrev IsFound : Nest → CallInstance → Type 0
    IsFound n q = look q.form ≡ find_leaves (sites_in caller n n.loops) q.form

    record FirstRow (n : Nest) : Type 0 where
      found : look n.form ≡ find_leaves (sites_in caller n n.loops) n.form
      leaves : (choice_in choices n.form).leaves ≡ leaves_or (look n.form)
      agree : (choice_in choices n.form).overlaps ≡ get_or taken n.form false

    first_row : (n : Nest) (rows : List CallInstance) → 0 < length rows
        → EachOf (λ (q : CallInstance). q.form ≡ n.form) rows → EachOf (IsFound n) rows → EachOf IsChosen rows
        → FirstRow n
    first_row n [] some_ same local chosen = absurd (omega (arith, some_))
    first_row n (q ∷ rows) some_ same local chosen = record {
      found = subst (λ f. look f ≡ find_leaves (sites_in caller n n.loops) f) same.0 local.0;
      leaves = subst (λ f. (choice_in choices f).leaves ≡ leaves_or (look f)) same.0 chosen.0.leaves;
      agree = subst (λ f. (choice_in choices f).overlaps ≡ get_or taken f false) same.0 chosen.0.agree;
    }

    first_in : (cs : List Candidate) (form : ℕ) (rows : List CallInstance) → 0 < length rows
        → EachOf (λ (q : CallInstance). q.form ≡ form) rows → EachOf (IsAmong cs) rows → Over form → IsIn form cs
    first_in cs form [] some_ same among over = absurd (omega (arith, some_))
    first_in cs form (q ∷ rows) some_ same among over = subst (λ f. Over f → IsIn f cs) same.0 among.0 over

    its_leaves : (n : Nest) (loops : List Place) → loops ≡ n.loops → FirstRow n → (p : Place) (ps : List Place)
        → loops ≡ p ∷ ps → look n.form ≡ find_leaves (sites_in caller n loops) n.form
        → (choice_in choices n.form).leaves ≡ n.leaves
    its_leaves n [] is row p ps e found = absurd (cc e)
    its_leaves n (q ∷ loops) is row p ps e found =
        row.leaves ∙ ap leaves_or (found ∙ if_true (n.form == n.form) (Some n.leaves) None (itself n.form))

    its_few : (n : Nest) (loops : List Place) → loops ≡ n.loops → IsBound n → FirstRow n
        → look n.form ≡ find_leaves (sites_in caller n loops) n.form → (i : ℕ) → left n.form i ≤ length n.loops
    its_few n [] is bound row found i =
        let e = ap (λ (ls : List ℕ). get_or ls i 0) (row.leaves ∙ ap leaves_or found) in
        let z = none_at i in
        omega (arith, e, z)
    its_few n (q ∷ loops) is bound row found i =
        let e = ap (λ (ls : List ℕ). get_or ls i 0)
        (row.leaves ∙ ap leaves_or (found ∙ if_true (n.form == n.form) (Some n.leaves) None (itself n.form))) in
        let l = bound.bound i in
        omega (arith, e, l)

    nest_found : (x : Statement) (n : Nest) → nest_of caller x ≡ Some n → (inside : Bool) (red : Option Reduction)
        → AllChosen (tables_of x red) → AreLocal look (sites_of_one caller x) (tables_of x red)
        → (0 < length n.loops → AreAmong (cands x inside) (tables_of x red)) → NestCert inside x n
    nest_found x n e inside red chosen local among =
        let a = is_alone caller x n e in
        let own = subst (λ o. AreLocal look (sites_by caller o (seen caller x).inner) (tables_of x red)) e local in
        let its = (subst (AreLocal look (sites_in caller n n.loops)) (a.table red).1 own).0 in
        let row = first_row n a.rows a.some a.form its (subst AllChosen (a.table red).1 chosen).0 in
        let bound = climb caller (λ x n. IsBound n) (bounds_climb caller) x n e in record {
          is = e;
          whole = is_whole caller x n e;
          leaves = λ p ps is. its_leaves n n.loops refl row p ps is row.found;
          few = its_few n n.loops refl bound row row.found;
          among = λ some_ over. first_in (cands x inside) n.form a.rows a.some a.form
              (subst (AreAmong (cands x inside)) (a.table red).1 (among some_)).0 over;
          agree = row.agree;
        }

    -- ---- a call

    call_found : (lower : Bool) (rows : List CallInstance) (inside : Bool) (red : Option Reduction)
        → AllChosen (tables_of (b.Call lower rows) red)
        → AreLocal look (sites_of_one caller (b.Call lower rows)) (tables_of (b.Call lower rows) red)
        → (xs : List Statement) → Certs inside xs → Certs inside (b.Call lower rows ∷ xs)
    call_found lower rows inside red chosen local xs rest = by (nest_of caller x) refl
      where
        x : Statement
        x = b.Call lower rows

        left_zero : (q : CallInstance) → IsChosen q → look q.form ≡ None → (i : ℕ) → left q.form i ≡ 0
        left_zero q c e i = ap (λ (ls : List ℕ). get_or ls i 0) (c.leaves ∙ ap leaves_or e) ∙ none_at i

        no_loops : (n : Nest) → nest_of caller x ≡ Some n → 0 < length n.loops
            → AreAmong (cands x inside) (tables_of x red)
        no_loops n e lt =
            let c = call_is lower rows n (sym (nest_call caller lower rows) ∙ e) in
            let z = ap length c.loops in
            absurd (omega (arith, lt, z))

        by : (o : Option Nest) → nest_of caller x ≡ o → Certs inside (x ∷ xs)
        by (Some n) e = nest_cert x n (nest_found x n e inside red chosen local (no_loops n e)) rest
        by None e =
            let own = subst (λ o. AreLocal look (sites_by caller o (seen caller x).inner) (tables_of x red)) e local in
            let its = (subst (λ (f : Option Reduction → List Table). AreLocal look [] (f red)) (tables_call lower rows)
            (subst (λ ss. AreLocal look ss (tables_of x red)) (inner_call caller lower rows) own)).0 in
            let chose = (subst (λ (f : Option Reduction → List Table). AllChosen (f red)) (tables_call lower rows) chosen).0
            in
            call_cert lower rows e
            (each_two IsChosen (λ (q : CallInstance). look q.form ≡ None)
            (λ (q : CallInstance). (i : ℕ) → left q.form i ≡ 0) rows left_zero chose its) rest

    -- ---- a map

    abbrev OfStatement : Statement → Type 0
    OfStatement x = (inside : Bool) (red : Option Reduction) (lo : ℕ) → Numbered number lo (tables_of x red)
        → AllChosen (tables_of x red) → AreLocal look (sites_of_one caller x) (tables_of x red)
        → AreAmong (cands x inside) (tables_of x red) → (xs : List Statement) → Certs inside xs → Certs inside (x ∷ xs)

    abbrev Known : Type 0
    Known = (x : Statement) × OfStatement x

    abbrev these : List Known → List Statement
    these = map (λ (q : Known). q.0)

    parts_found : (xs : List Known) (inside : Bool) (red : Option Reduction) (lo : ℕ)
        → Numbered number lo (all_tables (map tables_of (these xs)) red)
        → AllChosen (all_tables (map tables_of (these xs)) red)
        → AreLocal look (all_sites caller (map (seen caller) (these xs))) (all_tables (map tables_of (these xs)) red)
        → AreAmong (code.all_loops (map sees (these xs)) inside) (all_tables (map tables_of (these xs)) red)
        → Certs inside (these xs)
    parts_found [] inside red lo n chosen local among = no_cert
    parts_found (x ∷ xs) inside red lo n chosen local among =
        let ts = tables_of x.0 red in
        let us = all_tables (map tables_of (these xs)) red in
        x.1 inside red lo (from_left (HasNumber number) lo ts us n)
        (each_left (λ (t : Table). EachOf IsChosen t.times) ts us chosen)
        (first_local number look caller x.0 (these xs) red lo n local)
        (first_among x.0 (these xs) inside red lo n among) (these xs)
        (parts_found xs inside red (lo + length ts) (from_right (HasNumber number) lo ts us n)
        (each_right (λ (t : Table). EachOf IsChosen t.times) ts us chosen)
        (others_local number look caller x.0 (these xs) red lo n local)
        (others_among x.0 (these xs) inside red lo n among))

    -- where one call is all that stands in it
    module _ (place : Place) (m : LoopKind) (counts starts : List ℕ) (rows : List CallInstance) (inside : Bool) where
      abbrev one : List Statement
      one = b.Call true rows ∷ []

      abbrev y : Statement
      y = b.Map place m counts starts one

      abbrev spread : Bool
      spread = spread_of m inside one

      loops_are : cands y inside
          ≡ code.own_loop lefts children caller place m spread counts (Some rows) ++ ([] ++ [])
      loops_are =
          opened.loops_map lefts children caller place m counts starts one inside
          ∙ ap₂ (λ o ls. code.own_loop lefts children caller place m spread counts (only_call (o ∷ [])) ++ (ls ++ []))
          (opened.call_call true rows) (opened.loops_call lefts children caller true rows (inside || spread))

      own_by : (rows : List CallInstance) → EachOf IsChosen rows
          → EachOf (λ (q : CallInstance). Over q.form
          → may_overlap lefts children m spread counts rows ≡ true) rows
          → OwnCert m spread counts rows
      own_by [] chosen may = record {
        may = λ over. absurd (entry over);
        agree = λ e. absurd (let h = one_form lefts children m spread counts [] e in cc h);
      }
      own_by (q ∷ rows) chosen may = record { may = may.0; agree = λ e. chosen.0.agree }

      own_found : (red : Option Reduction) → AllChosen (tables_of y red) → AreAmong (cands y inside) (tables_of y red)
          → OwnCert m spread counts rows
      own_found red chosen among =
          let is = ap (λ (f : Option Reduction → List Table). f red) (tables_map place m counts starts one)
          ∙ ap (λ (f : Option Reduction → List Table). f (red_of m) ++ []) (tables_call true rows) in
          own_by rows (subst AllChosen is chosen).0
          (each_map (IsAmong (code.own_loop lefts children caller place m spread counts (Some rows) ++ ([] ++ [])))
          (λ (q : CallInstance). Over q.form → may_overlap lefts children m spread counts rows ≡ true) rows
          (λ q h over. (its_own lefts children caller place m spread counts rows q.form (h over)).may)
          (subst (λ cs. AreAmong cs (record { red = red_of m; lower = true; times = rows } ∷ [])) loops_are
          (subst (AreAmong (cands y inside)) is among)).0)

      red_rows : (red : Option Reduction) → AllChosen (tables_of y red)
          → AllChosen (tables_of (b.Call true rows) (red_of m))
      red_rows red chosen =
          subst AllChosen (nothing_more (tables_of (b.Call true rows) (red_of m)))
          (subst (λ (f : Option Reduction → List Table). AllChosen (f red)) (tables_map place m counts starts one) chosen)

      local_inside : (red : Option Reduction) → nest_of caller y ≡ None
          → AreLocal look (sites_of_one caller y) (tables_of y red)
          → AreLocal look (sites_of_one caller (b.Call true rows)) (tables_of (b.Call true rows) (red_of m))
      local_inside red none local =
          let own = subst (λ o. AreLocal look (sites_by caller o (seen caller y).inner) (tables_of y red)) none local in
          let inner = subst (λ ss. AreLocal look ss (tables_of y red)) (inner_map caller place m counts starts one) own in
          let its = subst (λ (f : Option Reduction → List Table).
          AreLocal look (sites_of_one caller (b.Call true rows) ++ []) (f red)) (tables_map place m counts starts one)
          inner in
          subst (λ ts. AreLocal look (sites_of_one caller (b.Call true rows)) ts)
          (nothing_more (tables_of (b.Call true rows) (red_of m)))
          (subst (λ ss. AreLocal look ss (tables_of (b.Call true rows) (red_of m) ++ []))
          (nothing_more (sites_of_one caller (b.Call true rows))) its)

      one_found : (red : Option Reduction) → AllChosen (tables_of y red)
          → AreLocal look (sites_of_one caller y) (tables_of y red) → AreAmong (cands y inside) (tables_of y red)
          → (xs : List Statement) → Certs inside xs → Certs inside (y ∷ xs)
      one_found red chosen local among xs rest = by (nest_of caller y) refl
        where
          by : (o : Option Nest) → nest_of caller y ≡ o → Certs inside (y ∷ xs)
          by (Some n) e = nest_cert y n (nest_found y n e inside red chosen local (λ some_. among)) rest
          by None e =
              map_cert place m counts starts one e
              (λ qs is.
              let same : rows ≡ qs = cc (sym (opened.call_call true rows) ∙ is) in
              subst (OwnCert m spread counts) same (own_found red chosen among))
              (call_found true rows (inside || spread) (red_of m) (red_rows red chosen) (local_inside red e local) []
              no_cert) rest

    map_found : (place : Place) (m : LoopKind) (counts starts : List ℕ) (xs : List Known)
        → only_call (map call_in (these xs)) ≡ None → OfStatement (b.Map place m counts starts (these xs))
    map_found place m counts starts xs none inside red lo n chosen local among list rest =
        by (nest_of caller x) refl
      where
        ys : List Statement
        ys = these xs

        x : Statement
        x = b.Map place m counts starts (these xs)

        tables_are : tables_of x red ≡ all_tables (map tables_of (these xs)) (red_of m)
        tables_are = ap (λ (f : Option Reduction → List Table). f red) (tables_map place m counts starts (these xs))

        spread_is : Bool
        spread_is = spread_of m inside (these xs)

        loops_inside : cands x inside ≡ code.all_loops (map sees (these xs)) (inside || spread_of m inside (these xs))
        loops_inside =
            opened.loops_map lefts children caller place m counts starts (these xs) inside
            ∙ ap (λ o. code.own_loop lefts children caller place m (spread_of m inside (these xs)) counts o
            ++ code.all_loops (map sees (these xs)) (inside || spread_of m inside (these xs))) none

        parts : nest_of caller x ≡ None → Certs (inside || spread_of m inside (these xs)) (these xs)
        parts e =
            let own = subst (λ o. AreLocal look (sites_by caller o (seen caller x).inner) (tables_of x red)) e local in
            let inner = subst (λ ss. AreLocal look ss (tables_of x red))
            (inner_map caller place m counts starts (these xs)) own in
            parts_found xs (inside || spread_of m inside (these xs)) (red_of m) lo (subst (Numbered number lo) tables_are n)
            (subst AllChosen tables_are chosen)
            (subst (AreLocal look (all_sites caller (map (seen caller) (these xs)))) tables_are inner)
            (subst (AreAmong (code.all_loops (map sees (these xs)) (inside || spread_of m inside (these xs)))) tables_are
            (subst (λ cs. AreAmong cs (tables_of x red)) loops_inside among))

        by : (o : Option Nest) → nest_of caller x ≡ o → Certs inside (x ∷ list)
        by (Some k) e = nest_cert x k (nest_found x k e inside red chosen local (λ some_. among)) rest
        by None e =
            map_cert place m counts starts (these xs) e (λ rows is. absurd (cc (sym none ∙ is))) (parts e) rest

    step : (y : Statement-F Known) → OfStatement (roll-Statement (map-Statement Known Statement (λ p. p.0) y))
    step (Statement-F.Call lower rows) = subst OfStatement (sym (b.rolls-Call lower rows))
        (λ inside red lo n chosen local among xs rest. call_found lower rows inside red chosen local xs rest)
    step (Statement-F.Map place m counts starts xs) =
        subst OfStatement (sym (b.rolls-Map place m counts starts (these xs)))
        (by (only_call (map call_in (these xs))) refl)
      where
        by : (o : Option (List CallInstance)) → only_call (map call_in (these xs)) ≡ o
            → OfStatement (b.Map place m counts starts (these xs))
        by None e = map_found place m counts starts xs e
        by (Some rows) e = subst (λ ys. OfStatement (b.Map place m counts starts ys)) (sym (only_one (these xs) rows e))
            (λ inside red lo n chosen local among list rest.
            one_found place m counts starts rows inside red chosen local among list rest)

    all_of : (x : Statement) → OfStatement x
    all_of = ind-Statement OfStatement (λ x y is. subst (λ z. OfStatement (roll-Statement z)) is (step y))

    -- of all statements of a form
    pub list_certs : (xs : List Statement) (inside : Bool) (red : Option Reduction) (lo : ℕ)
        → Numbered number lo (all_tables (map tables_of xs) red) → AllChosen (all_tables (map tables_of xs) red)
        → AreLocal look (all_sites caller (map (seen caller) xs)) (all_tables (map tables_of xs) red)
        → AreAmong (code.all_loops (map sees xs) inside) (all_tables (map tables_of xs) red) → Certs inside xs
    list_certs [] inside red lo n chosen local among = no_cert
    list_certs (x ∷ xs) inside red lo n chosen local among =
        let ts = tables_of x red in
        let us = all_tables (map tables_of xs) red in
        all_of x inside red lo (from_left (HasNumber number) lo ts us n)
        (each_left (λ (t : Table). EachOf IsChosen t.times) ts us chosen)
        (first_local number look caller x xs red lo n local)
        (first_among x xs inside red lo n among) xs
        (list_certs xs inside red (lo + length ts) (from_right (HasNumber number) lo ts us n)
        (each_right (λ (t : Table). EachOf IsChosen t.times) ts us chosen)
        (others_local number look caller x xs red lo n local)
        (others_among x xs inside red lo n among))
