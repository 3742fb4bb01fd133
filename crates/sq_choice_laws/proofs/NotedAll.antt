-- The notes of a form, merged, are those of its maps in the order of the text.
use Rattle.std.proofs.Common.{◌≡◌, ◌==◌, ℕ, ◌<◌, Bool, true, false, ◌&&◌, ◌||◌, nat_lt}
use Rattle.std.proofs.Common.{List, [], ◌∷◌, ◌++◌, map, length, take, drop, get_or, slice_get, Option, Some, None}
use Rattle.std.proofs.Common.{refl, sym, ap, ap₂}
use Rattle.std.proofs.Common.{subst, ◌∙◌, arith, if◌then◌else◌}
use Rattle.std.proofs.lemmas.Bool.Decides.{nat_tests}
use Rattle.sq_text.specs.declared.place.Place.{Place}
use Rattle.sq_text.specs.Places.{is_before}
use Rattle.sq_ir.specs.declared.plan.Note.{Note}
use Rattle.sq_ir.specs.declared.plan.Note.TheVariants.{Overlap}
use Rattle.sq_spec.specs.declared.statement.LoopKind.{LoopKind}
use Rattle.sq_spec.specs.declared.statement.LoopKind.TheVariants as loop_kind
use Rattle.sq_spec.specs.declared.statement.CallInstance.{CallInstance}
use Rattle.sq_spec.specs.declared.statement.Statement.{Statement}
use Rattle.sq_spec.specs.declared.statement.Statement.TheVariants as b
use Rattle.sq_spec.specs.declared.resolved.Resolved.{Resolved}
use Rattle.sq_placed.specs.Tables.{row_form}
use Rattle.sq_draft_laws.specs.TermLaws.Orders.{EachOf}
use Rattle.sq_draft_laws.proofs.ProgramLaws.Loops.{nothing_more, each_at, each_from}
use Rattle.sq_draft_laws.specs.Homes.Chosen.declared.choice.Choice.{Choice}
use Rattle.sq_draft_laws.specs.Homes.Chosen.Forms.{choice_in, instance_at, name_by}
use Rattle.sq_pipe.specs.Hoist.declared.sites.Site.{Site}
use Rattle.sq_pipe.specs.Hoist.Loops.{Nest, seen, site_of, sites_by, sites_in, all_sites, looped}
use Rattle.sq_pipe.specs.Hoist.Notes.{no_place, notes_out, param_at, site_notes}
use Rattle.sq_pipe.proofs.Hoist.Opened.{inner_call, inner_map}
use Rattle.sq_pipe.specs.declared.candidate.Candidate.{Candidate}
use Rattle.sq_pipe.specs.Candidates as code
use Rattle.sq_pipe.specs.Candidates.{may_overlap, first_form, call_in, only_call}
use Rattle.sq_pipe.proofs.CallsOpened as opened
use Rattle.sq_pipe.specs.Notes.{overlap_notes, is_ahead_of, merged}
use Rattle.sq_pass_laws.proofs.Nests.{nest_of, longer}
use Rattle.sq_pass_laws.proofs.Sites.{sites_of_one}
use Rattle.sq_pass_laws.proofs.Candidates.{IsIn}
use Rattle.sq_choice_laws.specs.Noted.{Noted, overlaps_at, all_places, places_in, AreRising}
use Rattle.sq_choice_laws.proofs.Wholes.{Whole, whole_call, whole_loop, one_of}
use Rattle.sq_choice_laws.proofs.Merges.{key, IsAhead, IsBehind, merged_both}
use Rattle.sq_choice_laws.proofs.Noting.{its, noted_call, map_notes, overlap_of, nest_list}
use Rattle.sq_choice_laws.proofs.Noting.{nest_notes}
use Rattle.sq_choice_laws.proofs.Certs.{left, Over, spread_of, OwnCert, NestCert, Certs, no_cert, nest_cert}
use Rattle.sq_choice_laws.proofs.Certs.{call_cert, map_cert}
use Rattle.sq_choice_laws.proofs.NotedHoists.{hoists_none, list_notes}
use Rattle.sq_choice_laws.proofs.PlacesOf.{before_not, not_itself, rising_left, rising_right, rising_across, places_map}
use Rattle.sq_choice_laws.proofs.PlacesOf.{Stands, own_placed, one_placed, all_placed, SiteStands, one_site, all_site}

-- ---- what is ahead

in_form : (m n : ℕ) (t : Bool) → m ≡ n → t ≡ true → (nat_lt m n || (m == n && t)) ≡ true
in_form m n true e h = grind (arith, nat_tests)
in_form m n false e h = absurd (cc h)

not_in_form : (m n : ℕ) (t : Bool) → m ≡ n → t ≡ false → (nat_lt m n || (m == n && t)) ≡ false
not_in_form m n true e h = absurd (cc h)
not_in_form m n false e h = grind (arith, nat_tests)

-- ---- the candidates of a call in plain loops

module _ (lefts : ℕ → List ℕ) (children caller : ℕ) where
  abbrev its_loops : Statement → Bool → List Candidate
  its_loops x inside = (code.seen lefts children caller x).loops inside

  abbrev innermost : Nest → Candidate
  innermost n = record { caller = caller; form = n.form; place = get_or n.loops 0 no_place }

  data CandsOf (n : Nest) (cs : List Candidate) : Type 0 where
    no_cand : cs ≡ [] → CandsOf n cs
    one_cand : 0 < length n.loops → cs ≡ innermost n ∷ [] → CandsOf n cs

  first_kept : (ps : List Place) (q : Place) → 0 < length ps
      → get_or (ps ++ q ∷ []) 0 no_place ≡ get_or ps 0 no_place
  first_kept [] q lt = absurd (omega (arith, lt))
  first_kept (p ∷ ps) q lt = refl

  own_cands : (place : Place) (spread : Bool) (counts : List ℕ) (c : CallInstance) (rows : List CallInstance) (n : Nest)
      → n.form ≡ c.form → n.loops ≡ place ∷ []
      → CandsOf n (code.own_loop lefts children caller place loop_kind.Sequential spread counts (Some (c ∷ rows)))
  own_cands place spread counts c rows n form loops =
      by (may_overlap lefts children loop_kind.Sequential spread counts (c ∷ rows))
    where
      by : (t : Bool)
          → CandsOf n (if t then record { caller = caller; form = c.form; place = place } ∷ [] else [])
      by true = one_cand (subst (λ ps. 0 < length ps) (sym loops) (omega arith))
          (ap₂ (λ (f : ℕ) (p : Place). record { caller = caller; form = f; place = p } ∷ []) (sym form)
          (sym (ap (λ ps. get_or ps 0 no_place) loops)))
      by false = no_cand refl

  nest_cands : {x : Statement} {n : Nest} → Whole caller x n → (inside : Bool) → CandsOf n (its_loops x inside)
  nest_cands (whole_call c rows same) inside = no_cand (opened.loops_call lefts children caller true (c ∷ rows) inside)
  nest_cands (whole_loop place counts starts {x = x} {n = n} is some_ h) inside =
      let spread = spread_of [] [] lefts children caller loop_kind.Sequential inside (x ∷ []) in
      subst (CandsOf (looped place counts n))
      (sym (opened.loops_map lefts children caller place loop_kind.Sequential counts starts (x ∷ []) inside))
      (by h (λ i. nest_cands h i))
    where
      by : {x : Statement} {n : Nest} → Whole caller x n → ((i : Bool) → CandsOf n (its_loops x i))
          → CandsOf (looped place counts n)
          (code.own_loop lefts children caller place loop_kind.Sequential
          (spread_of [] [] lefts children caller loop_kind.Sequential inside (x ∷ [])) counts (call_in x)
          ++ (its_loops x (inside || spread_of [] [] lefts children caller loop_kind.Sequential inside (x ∷ [])) ++ []))
      by (whole_call c rows same) inner =
          let spread = spread_of [] [] lefts children caller loop_kind.Sequential inside (b.Call true (c ∷ rows) ∷ []) in
          subst (CandsOf (looped place counts (one_of c rows)))
          (sym (ap₂ (λ o ls. code.own_loop lefts children caller place loop_kind.Sequential spread counts o ++ (ls ++ []))
          (opened.call_call true (c ∷ rows))
          (opened.loops_call lefts children caller true (c ∷ rows) (inside || spread))
          ∙ nothing_more (code.own_loop lefts children caller place loop_kind.Sequential spread counts
          (Some (c ∷ rows)))))
          (own_cands place spread counts c rows (looped place counts (one_of c rows)) refl refl)
      by (whole_loop p cs ss {x = y} {n = m} is some_ h) inner =
          let z = b.Map p loop_kind.Sequential cs ss (y ∷ []) in
          let spread = spread_of [] [] lefts children caller loop_kind.Sequential inside (z ∷ []) in
          subst (CandsOf (looped place counts (looped p cs m)))
          (sym (ap (λ o. code.own_loop lefts children caller place loop_kind.Sequential spread counts o
          ++ (its_loops z (inside || spread) ++ [])) (opened.call_map p loop_kind.Sequential cs ss (y ∷ []))
          ∙ nothing_more (its_loops z (inside || spread))))
          (further (inner (inside || spread)))
        where
          some_of : 0 < length (m.loops ++ p ∷ [])
          some_of = let e = longer m.loops p in omega (arith, e)

          further : {cs' : List Candidate} → CandsOf (looped p cs m) cs'
              → CandsOf (looped place counts (looped p cs m)) cs'
          further (no_cand e) = no_cand e
          further (one_cand lt e) =
              one_cand (let g = longer (m.loops ++ p ∷ []) place in omega (arith, g))
              (e ∙ ap (λ q. record { caller = caller; form = m.form; place = q } ∷ [])
              (sym (first_kept (m.loops ++ p ∷ []) place some_of)))

-- ---- notes of statements

module _ (r : Resolved) (choices : List Choice) (taken : List Bool) (lefts : ℕ → List ℕ) (children caller : ℕ)
    (entry : (i : ℕ) → left choices taken lefts children caller 0 i ≡ 0) where
  abbrev AllCerts : Bool → List Statement → Type 0
  AllCerts = Certs choices taken lefts children caller

  abbrev noted_is : Statement → Noted
  noted_is = its r choices caller

  abbrev notes : List Statement → List Note
  notes = list_notes r choices taken lefts children caller entry

  abbrev loops_of : Statement → Bool → List Candidate
  loops_of x inside = (code.seen lefts children caller x).loops inside

  abbrev all_loops_of : List Statement → Bool → List Candidate
  all_loops_of xs inside = code.all_loops (map (code.seen lefts children caller) xs) inside

  abbrev all_sites_of : List Statement → List Site
  all_sites_of xs = all_sites caller (map (seen caller) xs)

  -- ---- a call in plain loops

  not_true : (t : Bool) → (t ≡ true → ⊥) → t ≡ false
  not_true true h = absurd (h refl)
  not_true false h = refl

  if_false : (t : Bool) (xs : List Note) → t ≡ false → (if t then xs else []) ≡ []
  if_false true xs e = absurd (cc e)
  if_false false xs e = refl

  site_is : (n : Nest) (p : Place) (ps : List Place) → n.loops ≡ p ∷ ps → (choice_in choices n.form).leaves ≡ n.leaves
      → site_notes r (site_of caller n)
      ≡ notes_out (name_by (instance_at r caller)) (param_at r n.form) n.loops (choice_in choices n.form).leaves
      (length n.loops)
  site_is n p ps e leaves =
      ap (λ ls. notes_out (name_by (instance_at r caller)) (param_at r n.form) n.loops ls (length n.loops)) (sym leaves)

  with_cands : (n : Nest) (p : Place) (ps : List Place) → n.loops ≡ p ∷ ps
      → (choice_in choices n.form).leaves ≡ n.leaves → (cs : List Candidate)
      → (Over choices taken lefts children caller n.form → IsIn n.form cs)
      → (choice_in choices n.form).overlaps ≡ get_or taken n.form false → CandsOf lefts children caller n cs
      → merged r taken (site_of caller n ∷ []) cs ≡ nest_list r choices caller n.loops n.form
  with_cands n p ps e leaves cs among agree (no_cand none) =
      let over = not_true (choice_in choices n.form).overlaps (λ o. subst (IsIn n.form) none (among o)) in
      ap (merged r taken (site_of caller n ∷ [])) none
      ∙ ap (λ l. l ++ []) (site_is n p ps e leaves)
      ∙ ap (λ l. notes_out (name_by (instance_at r caller)) (param_at r n.form) n.loops (choice_in choices n.form).leaves
      (length n.loops) ++ l)
      (sym (overlap_is n.loops p ps e (choice_in choices n.form).overlaps over))
    where
      overlap_is : (loops : List Place) (p : Place) (ps : List Place) → loops ≡ p ∷ ps → (t : Bool)
          → (choice_in choices n.form).overlaps ≡ false → overlap_of r choices caller loops n.form ≡ []
      overlap_is loops p ps e t o =
          ap (λ l. overlap_of r choices caller l n.form) e
          ∙ if_false (choice_in choices n.form).overlaps (Overlap p (name_by (instance_at r caller)) ∷ []) o
  with_cands n p ps e leaves cs among agree (one_cand lt is) =
      ap (merged r taken (site_of caller n ∷ [])) is
      ∙ ap (λ t. with_count (if t then 1 else 0)) ahead
      ∙ ap₂ (λ l m. l ++ m) (site_is n p ps e leaves) overlap_same
    where
      one : Candidate
      one = record { caller = caller; form = n.form; place = get_or n.loops 0 no_place }

      ahead : is_ahead_of caller (get_or n.loops 0 no_place) one ≡ false
      ahead = not_in_form caller caller (is_before (get_or n.loops 0 no_place) (get_or n.loops 0 no_place)) refl
          (not_itself (get_or n.loops 0 no_place))

      with_count : ℕ → List Note
      with_count k = overlap_notes r taken (take k (one ∷ []))
          ++ (site_notes r (site_of caller n) ++ overlap_notes r taken (drop k (one ∷ [])))

      overlap_same : overlap_notes r taken (one ∷ []) ≡ overlap_of r choices caller n.loops n.form
      overlap_same =
          ap (λ t. if t then Overlap (get_or n.loops 0 no_place) (name_by (instance_at r caller)) ∷ [] else []) (sym agree)
          ∙ ap (λ (l : List Place). if (choice_in choices n.form).overlaps
          then Overlap (get_or l 0 no_place) (name_by (instance_at r caller)) ∷ [] else []) e
          ∙ sym (ap (λ l. overlap_of r choices caller l n.form) e)

  nest_merged : (inside : Bool) (x : Statement) (n : Nest) → NestCert choices taken lefts children caller inside x n
      → merged r taken (sites_of_one caller x) (loops_of x inside) ≡ (noted_is x).notes
  nest_merged inside x n c =
      ap (λ o. merged r taken (sites_by caller o (seen caller x).inner) (loops_of x inside)) c.is
      ∙ by n.loops refl (nest_cands lefts children caller c.whole inside)
      ∙ sym (nest_notes r choices caller c.whole)
    where
      by : (loops : List Place) → n.loops ≡ loops → CandsOf lefts children caller n (loops_of x inside)
          → merged r taken (sites_in caller n loops) (loops_of x inside) ≡ nest_list r choices caller n.loops n.form
      by [] e (no_cand none) =
          ap (merged r taken []) none ∙ sym (ap (λ l. nest_list r choices caller l n.form) e)
      by [] e (one_cand lt is) = absurd (let z = ap length e in omega (arith, lt, z))
      by (p ∷ ps) e cands_of =
          with_cands n p ps e (c.leaves p ps e) (loops_of x inside)
          (c.among (subst (λ l. 0 < length l) (sym e) (omega arith))) c.agree cands_of

  -- ---- a map

  row_is : (rows : List CallInstance) → row_form (slice_get rows 0) ≡ first_form rows
  row_is [] = refl
  row_is (q ∷ rows) = refl

  own_merged : (place : Place) (m : LoopKind) (spread : Bool) (counts : List ℕ) (o : Option (List CallInstance))
      → ((rows : List CallInstance) → o ≡ Some rows
      → OwnCert choices taken lefts children caller m spread counts rows)
      → overlap_notes r taken (code.own_loop lefts children caller place m spread counts o)
      ≡ overlaps_at r choices caller place o
  own_merged place m spread counts None own = refl
  own_merged place m spread counts (Some rows) own =
      by (may_overlap lefts children m spread counts rows) refl
      ∙ sym (ap (λ f. if (choice_in choices f).overlaps then Overlap place (name_by (instance_at r caller)) ∷ [] else [])
      (row_is rows))
    where
      c : OwnCert choices taken lefts children caller m spread counts rows
      c = own rows refl

      by : (t : Bool) → may_overlap lefts children m spread counts rows ≡ t
          → overlap_notes r taken
          (if t then record { caller = caller; form = first_form rows; place = place } ∷ [] else [])
          ≡ (if (choice_in choices (first_form rows)).overlaps
          then Overlap place (name_by (instance_at r caller)) ∷ [] else [])
      by true e =
          ap (λ t. if t then Overlap place (name_by (instance_at r caller)) ∷ [] else []) (sym (c.agree e))
      by false e =
          sym (if_false (choice_in choices (first_form rows)).overlaps (Overlap place (name_by (instance_at r caller)) ∷ [])
          (not_true (choice_in choices (first_form rows)).overlaps (λ o. absurd (let m = c.may o in cc (sym e ∙ m)))))

  -- ---- what stands before and behind

  -- candidates at places before those of sites are ahead of these
  all_ahead : (cs : List Candidate) (ss : List Site) (qs : List Place)
      → EachOf (Stands (λ p. EachOf (λ q. is_before p q ≡ true) qs) caller) cs
      → ((P : Place → Type 0) → EachOf P qs → EachOf (SiteStands P caller) ss)
      → EachOf (λ s. EachOf (IsAhead s) cs) ss
  all_ahead cs ss qs placed sites = each_from (λ s. EachOf (IsAhead s) cs) ss (λ i s at. each_from (IsAhead s) cs
      (λ j c to.
      let h = each_at (Stands (λ p. EachOf (λ q. is_before p q ≡ true) qs) caller) cs j c placed to in
      let g = each_at (SiteStands (λ q. is_before c.place q ≡ true) caller) ss i s
      (sites (λ q. is_before c.place q ≡ true) h.at) at in
      in_form c.caller s.caller (is_before c.place (key s)) (h.by ∙ sym g.by) g.at))

  -- and those at places behind are not
  all_behind : (cs : List Candidate) (ss : List Site) (qs : List Place)
      → EachOf (SiteStands (λ p. EachOf (λ q. is_before p q ≡ true) qs) caller) ss
      → ((P : Place → Type 0) → EachOf P qs → EachOf (Stands P caller) cs)
      → EachOf (λ s. EachOf (IsBehind s) cs) ss
  all_behind cs ss qs placed cands_ = each_from (λ s. EachOf (IsBehind s) cs) ss (λ i s at. each_from (IsBehind s) cs
      (λ j c to.
      let g = each_at (SiteStands (λ p. EachOf (λ q. is_before p q ≡ true) qs) caller) ss i s placed at in
      let h = each_at (Stands (λ q. is_before (key s) q ≡ true) caller) cs j c
      (cands_ (λ q. is_before (key s) q ≡ true) g.at) to in
      not_in_form c.caller s.caller (is_before c.place (key s)) (h.by ∙ sym g.by) (before_not (key s) c.place h.at)))

  joined : (inside : Bool) (x : Statement) (xs : List Statement)
      → AreRising (places_in x ++ all_places (map places_in xs))
      → merged r taken (sites_of_one caller x) (loops_of x inside) ≡ (noted_is x).notes
      → merged r taken (all_sites_of xs) (all_loops_of xs inside) ≡ notes xs
      → merged r taken (all_sites_of (x ∷ xs)) (all_loops_of (x ∷ xs) inside) ≡ notes (x ∷ xs)
  joined inside x xs rising first rest =
      let ps = places_in x in
      let qs = all_places (map places_in xs) in
      let across = rising_across ps qs rising in
      merged_both r taken (sites_of_one caller x) (all_sites_of xs) (loops_of x inside) (all_loops_of xs inside)
      (all_ahead (loops_of x inside) (all_sites_of xs) qs
      (one_placed (λ p. EachOf (λ q. is_before p q ≡ true) qs) caller lefts children x across inside)
      (λ P h. all_site P caller xs h))
      (all_behind (all_loops_of xs inside) (sites_of_one caller x) qs
      (one_site (λ p. EachOf (λ q. is_before p q ≡ true) qs) caller x across)
      (λ P h. all_placed P caller lefts children xs h inside))
      ∙ ap₂ (λ l m. l ++ m) first rest

  call_merged : (inside : Bool) (lower : Bool) (rows : List CallInstance) → nest_of caller (b.Call lower rows) ≡ None
      → merged r taken (sites_of_one caller (b.Call lower rows)) (loops_of (b.Call lower rows) inside)
      ≡ (noted_is (b.Call lower rows)).notes
  call_merged inside lower rows alone =
      let x = b.Call lower rows in
      ap₂ (λ ss cs. merged r taken ss cs)
      (ap (λ o. sites_by caller o (seen caller x).inner) alone ∙ inner_call caller lower rows)
      (opened.loops_call lefts children caller lower rows inside)
      ∙ sym (ap (λ (p : Noted). p.notes) (noted_call r choices caller lower rows))

  map_merged : (inside : Bool) (place : Place) (m : LoopKind) (counts starts : List ℕ) (parts : List Statement)
      → nest_of caller (b.Map place m counts starts parts) ≡ None
      → ((rows : List CallInstance) → only_call (map call_in parts) ≡ Some rows
      → OwnCert choices taken lefts children caller m
      (spread_of choices taken lefts children caller m inside parts) counts rows)
      → AllCerts (inside || spread_of choices taken lefts children caller m inside parts) parts
      → AreRising (places_in (b.Map place m counts starts parts))
      → merged r taken (all_sites_of parts)
      (all_loops_of parts (inside || spread_of choices taken lefts children caller m inside parts)) ≡ notes parts
      → merged r taken (sites_of_one caller (b.Map place m counts starts parts))
      (loops_of (b.Map place m counts starts parts) inside) ≡ (noted_is (b.Map place m counts starts parts)).notes
  map_merged inside place m counts starts parts alone own inner rising rest =
      let x = b.Map place m counts starts parts in
      let spread = spread_of choices taken lefts children caller m inside parts in
      let mine = code.own_loop lefts children caller place m spread counts (only_call (map call_in parts)) in
      let others = all_loops_of parts (inside || spread) in
      let rises = subst AreRising (places_map place m counts starts parts) rising in
      ap₂ (λ ss cs. merged r taken ss cs)
      (ap (λ o. sites_by caller o (seen caller x).inner) alone ∙ inner_map caller place m counts starts parts)
      (opened.loops_map lefts children caller place m counts starts parts inside)
      ∙ merged_both r taken [] (all_sites_of parts) mine others
      (all_ahead mine (all_sites_of parts) (all_places (map places_in parts))
      (own_placed (λ p. EachOf (λ q. is_before p q ≡ true) (all_places (map places_in parts))) caller lefts children place
      m spread counts (only_call (map call_in parts)) rises.0)
      (λ P h. all_site P caller parts h)) tt
      ∙ ap₂ (λ l k. l ++ k) (own_merged place m spread counts (only_call (map call_in parts)) own) rest
      ∙ ap (λ l. l ++ (overlaps_at r choices caller place (only_call (map call_in parts)) ++ notes parts))
      (sym (hoists_none r choices taken lefts children caller entry place m starts parts inner))
      ∙ sym (map_notes r choices caller place m counts starts parts)

  parts_rise : (place : Place) (m : LoopKind) (counts starts : List ℕ) (parts : List Statement)
      → AreRising (places_in (b.Map place m counts starts parts)) → AreRising (all_places (map places_in parts))
  parts_rise place m counts starts parts h = (subst AreRising (places_map place m counts starts parts) h).1

  pub list_merged : {inside : Bool} {xs : List Statement} → AllCerts inside xs
      → AreRising (all_places (map places_in xs))
      → merged r taken (all_sites_of xs) (all_loops_of xs inside) ≡ notes xs
  list_merged no_cert rising = refl
  list_merged {inside = inside} (nest_cert x {xs = xs} n c rest) rising =
      joined inside x xs rising (nest_merged inside x n c)
      (list_merged rest (rising_right (places_in x) (all_places (map places_in xs)) rising))
  list_merged {inside = inside} (call_cert lower rows {xs = xs} alone zeros rest) rising =
      let x = b.Call lower rows in
      joined inside x xs rising (call_merged inside lower rows alone)
      (list_merged rest (rising_right (places_in x) (all_places (map places_in xs)) rising))
  list_merged {inside = inside} (map_cert place m counts starts parts {xs = xs} alone own inner rest) rising =
      let x = b.Map place m counts starts parts in
      let mine = rising_left (places_in x) (all_places (map places_in xs)) rising in
      joined inside x xs rising
      (map_merged inside place m counts starts parts alone own inner mine
      (list_merged inner (parts_rise place m counts starts parts mine)))
      (list_merged rest (rising_right (places_in x) (all_places (map places_in xs)) rising))
