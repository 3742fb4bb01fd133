-- What is found at a call among the sites of all statements is found at the site of its own: a form is reached from one
-- call.
use Rattle.std.proofs.Common.{◌≡◌, ◌⊎◌, inl, inr, ℕ, suc, ◌+◌, ◌==◌, ◌<◌, ◌≤◌, Bool, true, false, List, [], ◌∷◌}
use Rattle.std.proofs.Common.{◌++◌, map, length, Option, Some, None, refl, sym, ◌∙◌, ap, subst, arith, if◌then◌else◌}
use Rattle.sq_text.specs.declared.place.Place.{Place}
use Rattle.sq_work.specs.declared.reduction.Reduction.{Reduction}
use Rattle.sq_spec.specs.declared.statement.CallInstance.{CallInstance}
use Rattle.sq_spec.specs.declared.statement.Statement.{Statement, roll-Statement}
use Rattle.sq_spec.specs.declared.statement.Statement.TheVariants as b
use Rattle.sq_spec.specs.declared.statement.Statement.TheOpen.{Statement-F}
use Rattle.sq_spec.specs.declared.statement.Statement.TheFolds.{ind-Statement, map-Statement}
use Rattle.sq_spec_laws.specs.TableRows.{Table, red_of, all_tables, tables_of}
use Rattle.sq_spec_laws.proofs.TableRowsHold.{tables_map}
use Rattle.sq_draft_laws.specs.TermLaws.Orders.{EachOf}
use Rattle.sq_pipe.specs.Hoist.declared.sites.Site.{Site}
use Rattle.sq_pipe.specs.Hoist.Loops.{Nest, seen, sites_by, sites_in, all_sites}
use Rattle.sq_pipe.specs.Hoist.Choices.{find_leaves}
use Rattle.sq_pipe.proofs.Hoist.Opened.{inner_call, inner_map}
use Rattle.sq_pass_laws.proofs.Nests.{nest_of, same_number}
use Rattle.sq_pass_laws.proofs.Alone.{is_alone}
use Rattle.sq_draft_laws.proofs.ProgramLaws.Loops.{each_both, each_left, each_map, each_right}
use Rattle.sq_pass_laws.proofs.HoistLists.{each_two}

-- ---- what is found among sites

abbrev pub Leaves : Type 0
Leaves = Option (List ℕ)

pub found_front : (ss ts : List Site) (k : ℕ) → find_leaves ts k ≡ None → find_leaves (ss ++ ts) k ≡ find_leaves ss k
found_front [] ts k h = h
found_front (s ∷ ss) ts k h =
    ap (λ (o : Leaves). if s.form == k then Some s.leaves else o) (found_front ss ts k h)

pub found_back : (ss ts : List Site) (k : ℕ) → find_leaves ss k ≡ None → find_leaves (ss ++ ts) k ≡ find_leaves ts k
found_back [] ts k h = refl
found_back (s ∷ ss) ts k h = by (s.form == k) h (found_back ss ts k)
  where
    by : (t : Bool) → (if t then Some s.leaves else find_leaves ss k) ≡ None
        → (find_leaves ss k ≡ None → find_leaves (ss ++ ts) k ≡ find_leaves ts k)
        → (if t then Some s.leaves else find_leaves (ss ++ ts) k) ≡ find_leaves ts k
    by true h rest = absurd (cc h)
    by false h rest = rest h

-- ---- calls by their numbers

-- of the calls of these tables, numbered from lo on
module _ (P : (call : ℕ) → CallInstance → Type 0) where
  abbrev pub From : (lo : ℕ) → List Table → Type 0
  From lo [] = Unit {0}
  From lo (t ∷ ts) = EachOf (P lo) t.times × From (suc lo) ts

  pub from_left : (lo : ℕ) (ts us : List Table) → From lo (ts ++ us) → From lo ts
  from_left lo [] us h = tt
  from_left lo (t ∷ ts) us h = (h.0, from_left (suc lo) ts us h.1)

  pub from_right : (lo : ℕ) (ts us : List Table) → From lo (ts ++ us) → From (lo + length ts) us
  from_right lo [] us h = let z : lo ≡ lo + 0 = omega arith in subst (λ n. From n us) z h
  from_right lo (t ∷ ts) us h =
      let z : suc lo + length ts ≡ lo + suc (length ts) = omega arith in
      subst (λ n. From n us) z (from_right (suc lo) ts us h.1)

  pub from_both : (lo : ℕ) (ts us : List Table) → From lo ts → From (lo + length ts) us → From lo (ts ++ us)
  from_both lo [] us g h = let z : lo + 0 ≡ lo = omega arith in subst (λ n. From n us) z h
  from_both lo (t ∷ ts) us g h =
      let z : lo + suc (length ts) ≡ suc lo + length ts = omega arith in
      (g.0, from_both (suc lo) ts us g.1 (subst (λ n. From n us) z h))

-- number: of a form that of the call which reaches it
module _ (number : ℕ → ℕ) where
  abbrev pub HasNumber : ℕ → CallInstance → Type 0
  HasNumber n q = number q.form ≡ n

  -- the calls of these tables are numbered from lo on
  abbrev pub Numbered : (lo : ℕ) → List Table → Type 0
  Numbered = From HasNumber

  pub record IsWithin (lo hi form : ℕ) : Type 0 where
    pub low : lo ≤ number form
    pub high : number form < hi

  -- the calls of these sites are numbered from lo on, below hi
  abbrev pub AreWithin : (lo hi : ℕ) → List Site → Type 0
  AreWithin lo hi ss = EachOf (λ (s : Site). IsWithin lo hi s.form) ss

  pub not_found : (lo hi : ℕ) (ss : List Site) → AreWithin lo hi ss → (k : ℕ) → (number k < lo) ⊎ (hi ≤ number k)
      → find_leaves ss k ≡ None
  not_found lo hi [] w k out = refl
  not_found lo hi (s ∷ ss) w k out = by (s.form == k) refl (not_found lo hi ss w.1 k out)
    where
      far : s.form ≡ k → (number k < lo) ⊎ (hi ≤ number k) → ⊥
      far e (inl l) = let m = ap number e in let g = w.0.low in absurd (omega (arith, l, m, g))
      far e (inr l) = let m = ap number e in let g = w.0.high in absurd (omega (arith, l, m, g))

      by : (t : Bool) → (s.form == k) ≡ t → find_leaves ss k ≡ None
          → (if t then Some s.leaves else find_leaves ss k) ≡ None
      by true e rest = absurd (far (same_number s.form k e) out)
      by false e rest = rest

-- ---- what holds of the forms that lower calls reach holds of those of sites

abbrev pub sites_of_one : (caller : ℕ) → Statement → List Site
sites_of_one caller x = sites_by caller (seen caller x).nest (seen caller x).inner

module _ (Q : ℕ → Type 0) where
  abbrev pub LowersSo : List Table → Type 0
  LowersSo ts = EachOf (λ (t : Table). t.lower ≡ true → EachOf (λ (q : CallInstance). Q q.form) t.times) ts

  abbrev pub SitesSo : List Site → Type 0
  SitesSo ss = EachOf (λ (s : Site). Q s.form) ss

  -- what is found is found at such a form
  pub found_so : (ss : List Site) → SitesSo ss → (k : ℕ) (ls : List ℕ) → find_leaves ss k ≡ Some ls → Q k
  found_so [] h k ls e = absurd (cc e)
  found_so (s ∷ ss) h k ls e = by (s.form == k) refl e (found_so ss h.1 k ls)
    where
      by : (t : Bool) → (s.form == k) ≡ t → (if t then Some s.leaves else find_leaves ss k) ≡ Some ls
          → (find_leaves ss k ≡ Some ls → Q k) → Q k
      by true same e rest = subst Q (same_number s.form k same) h.0
      by false same e rest = rest e

  module _ (caller : ℕ) where
    abbrev HaveSites : Statement → Type 0
    HaveSites x = (red : Option Reduction) → LowersSo (tables_of x red) → SitesSo (sites_of_one caller x)

    abbrev Known : Type 0
    Known = (x : Statement) × HaveSites x

    abbrev these : List Known → List Statement
    these = map (λ (q : Known). q.0)

    abbrev OfTable : Table → Type 0
    OfTable t = t.lower ≡ true → EachOf (λ (q : CallInstance). Q q.form) t.times

    all_so : (xs : List Known) (red : Option Reduction) → LowersSo (all_tables (map tables_of (these xs)) red)
        → SitesSo (all_sites caller (map (seen caller) (these xs)))
    all_so [] red h = tt
    all_so (x ∷ xs) red h =
        let ts = tables_of x.0 red in
        let us = all_tables (map tables_of (these xs)) red in
        each_both (λ (s : Site). Q s.form) (sites_of_one caller x.0) (all_sites caller (map (seen caller) (these xs)))
        (x.1 red (each_left OfTable ts us h)) (all_so xs red (each_right OfTable ts us h))

    first_so : (form : ℕ) (rows : List CallInstance) → 0 < length rows
        → EachOf (λ (q : CallInstance). q.form ≡ form) rows → EachOf (λ (q : CallInstance). Q q.form) rows → Q form
    first_so form [] some_ g h = absurd (omega (arith, some_))
    first_so form (q ∷ rows) some_ g h = subst Q g.0 h.0

    one_so : (n : Nest) (loops : List Place) → Q n.form → SitesSo (sites_in caller n loops)
    one_so n [] h = tt
    one_so n (place ∷ outer) h = (h, tt)

    nest_so : (x : Statement) (n : Nest) → nest_of caller x ≡ Some n → (red : Option Reduction)
        → LowersSo (tables_of x red) → SitesSo (sites_in caller n n.loops)
    nest_so x n e red h =
        let a = is_alone caller x n e in
        one_so n n.loops (first_so n.form a.rows a.some a.form ((subst LowersSo (a.table red).1 h).0 refl))

    by_nest : (x : Statement) → ((red : Option Reduction) → LowersSo (tables_of x red) → SitesSo (seen caller x).inner)
        → HaveSites x
    by_nest x inner = by (nest_of caller x) refl
      where
        by : (o : Option Nest) → nest_of caller x ≡ o → HaveSites x
        by None e red h = subst (λ o. SitesSo (sites_by caller o (seen caller x).inner)) (sym e) (inner red h)
        by (Some n) e red h =
            subst (λ o. SitesSo (sites_by caller o (seen caller x).inner)) (sym e) (nest_so x n e red h)

    so_step : (y : Statement-F Known) → HaveSites (roll-Statement (map-Statement Known Statement (λ p. p.0) y))
    so_step (Statement-F.Call lower rows) = subst HaveSites (sym (b.rolls-Call lower rows))
        (by_nest (b.Call lower rows) (λ red h. subst SitesSo (sym (inner_call caller lower rows)) tt))
    so_step (Statement-F.Map place m counts starts xs) =
        subst HaveSites (sym (b.rolls-Map place m counts starts (these xs)))
        (by_nest (b.Map place m counts starts (these xs)) (λ red h.
        subst SitesSo (sym (inner_map caller place m counts starts (these xs)))
        (all_so xs (red_of m) (subst (λ (f : Option Reduction → List Table). LowersSo (f red))
        (tables_map place m counts starts (these xs)) h))))

    pub one_has : (x : Statement) → HaveSites x
    one_has = ind-Statement HaveSites (λ x y is. subst (λ z. HaveSites (roll-Statement z)) is (so_step y))

    pub all_have : (xs : List Statement) (red : Option Reduction) → LowersSo (all_tables (map tables_of xs) red)
        → SitesSo (all_sites caller (map (seen caller) xs))
    all_have [] red h = tt
    all_have (x ∷ xs) red h =
        let ts = tables_of x red in
        let us = all_tables (map tables_of xs) red in
        each_both (λ (s : Site). Q s.form) (sites_of_one caller x) (all_sites caller (map (seen caller) xs))
        (one_has x red (each_left OfTable ts us h)) (all_have xs red (each_right OfTable ts us h))

-- ---- what is found at the calls of a statement

-- look: what is found among all sites at the calls of these tables is found among these
abbrev pub AreLocal : (look : ℕ → Leaves) → List Site → List Table → Type 0
AreLocal look ss ts = EachOf (λ (t : Table). EachOf (λ (q : CallInstance). look q.form ≡ find_leaves ss q.form) t.times)
    ts

module _ (number : ℕ → ℕ) (look : ℕ → Leaves) where
  -- calls that are numbered from lo on are below lo and as many as they are
  pub lowers : (lo hi : ℕ) (ts : List Table) → lo + length ts ≤ hi → Numbered number lo ts
      → (low : ℕ) → low ≤ lo → LowersSo (IsWithin number low hi) ts
  lowers lo hi [] less n low down = tt
  lowers lo hi (t ∷ ts) less n low down = (
    λ e. each_map (HasNumber number lo) (λ (q : CallInstance). IsWithin number low hi q.form) t.times
        (λ q is. record { low = omega (arith, is, down); high = omega (arith, is, less) }) n.0,
    lowers (suc lo) hi ts (omega (arith, less)) n.1 low (omega (arith, down)),
  )

  -- where later ones stand among them
  pub local_front : (ss us : List Site) (lo mid hi : ℕ) → AreWithin number mid hi us → (ts : List Table)
      → lo + length ts ≤ mid → Numbered number lo ts → AreLocal look (ss ++ us) ts → AreLocal look ss ts
  local_front ss us lo mid hi w [] less n h = tt
  local_front ss us lo mid hi w (t ∷ ts) less n h = (
    each_two (λ (q : CallInstance). number q.form ≡ lo)
        (λ (q : CallInstance). look q.form ≡ find_leaves (ss ++ us) q.form)
        (λ (q : CallInstance). look q.form ≡ find_leaves ss q.form) t.times
        (λ q e g. g ∙ found_front ss us q.form (not_found number mid hi us w q.form (inl (omega (arith, e, less)))))
        n.0 h.0,
    local_front ss us (suc lo) mid hi w ts (omega (arith, less)) n.1 h.1,
  )

  -- and where earlier ones do
  pub local_back : (ss us : List Site) (low lo : ℕ) → AreWithin number low lo ss → (ts : List Table) (at : ℕ) → lo ≤ at
      → Numbered number at ts → AreLocal look (ss ++ us) ts → AreLocal look us ts
  local_back ss us low lo w [] at less n h = tt
  local_back ss us low lo w (t ∷ ts) at less n h = (
    each_two (λ (q : CallInstance). number q.form ≡ at)
        (λ (q : CallInstance). look q.form ≡ find_leaves (ss ++ us) q.form)
        (λ (q : CallInstance). look q.form ≡ find_leaves us q.form) t.times
        (λ q e g. g ∙ found_back ss us q.form (not_found number low lo ss w q.form (inr (omega (arith, e, less)))))
        n.0 h.0,
    local_back ss us low lo w ts (suc at) (omega (arith, less)) n.1 h.1,
  )

  -- of the first of some statements, and of the others
  pub first_local : (caller : ℕ) (x : Statement) (xs : List Statement) (red : Option Reduction) (lo : ℕ)
      → Numbered number lo (tables_of x red ++ all_tables (map tables_of xs) red)
      → AreLocal look (all_sites caller (map (seen caller) (x ∷ xs)))
      (tables_of x red ++ all_tables (map tables_of xs) red)
      → AreLocal look (sites_of_one caller x) (tables_of x red)
  first_local caller x xs red lo n h =
      let ts = tables_of x red in
      let us = all_tables (map tables_of xs) red in
      let w = all_have (IsWithin number (lo + length ts) (lo + length ts + length us)) caller xs red
      (lowers (lo + length ts) (lo + length ts + length us) us (omega arith) (from_right (HasNumber number) lo ts us n)
      (lo + length ts) (omega arith)) in
      local_front (sites_of_one caller x) (all_sites caller (map (seen caller) xs)) lo (lo + length ts)
      (lo + length ts + length us) w ts (omega arith) (from_left (HasNumber number) lo ts us n)
      (each_left (λ (t : Table). EachOf (λ (q : CallInstance). look q.form
      ≡ find_leaves (all_sites caller (map (seen caller) (x ∷ xs))) q.form) t.times) ts us h)

  pub others_local : (caller : ℕ) (x : Statement) (xs : List Statement) (red : Option Reduction) (lo : ℕ)
      → Numbered number lo (tables_of x red ++ all_tables (map tables_of xs) red)
      → AreLocal look (all_sites caller (map (seen caller) (x ∷ xs)))
      (tables_of x red ++ all_tables (map tables_of xs) red)
      → AreLocal look (all_sites caller (map (seen caller) xs)) (all_tables (map tables_of xs) red)
  others_local caller x xs red lo n h =
      let ts = tables_of x red in
      let us = all_tables (map tables_of xs) red in
      let w = one_has (IsWithin number lo (lo + length ts)) caller x red
      (lowers lo (lo + length ts) ts (omega arith) (from_left (HasNumber number) lo ts us n) lo (omega arith)) in
      local_back (sites_of_one caller x) (all_sites caller (map (seen caller) xs)) lo (lo + length ts) w us
      (lo + length ts) (omega arith) (from_right (HasNumber number) lo ts us n)
      (each_right (λ (t : Table). EachOf (λ (q : CallInstance). look q.form
      ≡ find_leaves (all_sites caller (map (seen caller) (x ∷ xs))) q.form) t.times) ts us h)
