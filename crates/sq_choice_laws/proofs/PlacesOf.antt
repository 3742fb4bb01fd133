-- The places of maps, and those of candidates and of calls in plain loops among them.
use Rattle.std.proofs.Common.{◌≡◌, ◌==◌, ℕ, ◌<◌, Bool, true, false, ◌&&◌, ◌||◌, nat_lt, List, [], ◌∷◌, ◌++◌}
use Rattle.std.proofs.Common.{map, length, get_or, Option, Some, None, refl, sym, ap, subst, ◌∙◌, arith, if◌then◌else◌}
use Rattle.std.proofs.lemmas.Bool.Decides.{nat_tests}
use Rattle.sq_text.specs.declared.place.Place.{Place}
use Rattle.sq_text.specs.Places.{is_before}
use Rattle.sq_spec.specs.declared.statement.LoopKind.{LoopKind}
use Rattle.sq_spec.specs.declared.statement.LoopKind.TheVariants as loop_kind
use Rattle.sq_spec.specs.declared.statement.CallInstance.{CallInstance}
use Rattle.sq_spec.specs.declared.statement.Statement.{Statement, roll-Statement}
use Rattle.sq_spec.specs.declared.statement.Statement.TheVariants as b
use Rattle.sq_spec.specs.declared.statement.Statement.TheOpen.{Statement-F}
use Rattle.sq_spec.specs.declared.statement.Statement.TheFolds.{fold-roll-Statement, ind-Statement, map-Statement}
use Rattle.sq_spec.specs.Spreads.{any_of, is_spread, lower_in, same_in}
use Rattle.sq_draft_laws.specs.TermLaws.Orders.{EachOf}
use Rattle.sq_draft_laws.proofs.ProgramLaws.Loops.{each_left, each_right, each_both}
use Rattle.sq_pipe.specs.Hoist.declared.sites.Site.{Site}
use Rattle.sq_pipe.specs.Hoist.Loops.{Nest, seen, sites_by, sites_in, all_sites}
use Rattle.sq_pipe.specs.Hoist.Notes.{no_place}
use Rattle.sq_pipe.proofs.Hoist.Opened.{inner_call, inner_map}
use Rattle.sq_pipe.specs.declared.candidate.Candidate.{Candidate}
use Rattle.sq_pipe.specs.Candidates as code
use Rattle.sq_pipe.specs.Candidates.{may_overlap, first_form, call_in, only_call}
use Rattle.sq_pipe.proofs.CallsOpened as opened
use Rattle.sq_pass_laws.proofs.Nests.{nest_of}
use Rattle.sq_pass_laws.proofs.Sites.{sites_of_one}
use Rattle.sq_choice_laws.specs.Noted.{all_places, places_step, places_in, AreRising}
use Rattle.sq_choice_laws.proofs.Wholes.{Whole, whole_call, whole_loop, is_whole}
use Rattle.sq_choice_laws.proofs.Merges.{key}

-- ---- order

not_before : (a c d e : ℕ) → (nat_lt a c || (a == c && nat_lt d e)) ≡ true
    → (nat_lt c a || (c == a && nat_lt e d)) ≡ false
not_before a c d e h = grind (arith, nat_tests)

pub before_not : (p q : Place) → is_before p q ≡ true → is_before q p ≡ false
before_not p q h = not_before p.line q.line p.col q.col h

itself_not : (a d : ℕ) → (nat_lt a a || (a == a && nat_lt d d)) ≡ false
itself_not a d = grind (arith, nat_tests)

pub not_itself : (p : Place) → is_before p p ≡ false
not_itself p = itself_not p.line p.col

pub rising_left : (ps qs : List Place) → AreRising (ps ++ qs) → AreRising ps
rising_left [] qs h = tt
rising_left (p ∷ ps) qs h = (each_left (λ q. is_before p q ≡ true) ps qs h.0, rising_left ps qs h.1)

pub rising_right : (ps qs : List Place) → AreRising (ps ++ qs) → AreRising qs
rising_right [] qs h = h
rising_right (p ∷ ps) qs h = rising_right ps qs h.1

pub rising_across : (ps qs : List Place) → AreRising (ps ++ qs)
    → EachOf (λ p. EachOf (λ q. is_before p q ≡ true) qs) ps
rising_across [] qs h = tt
rising_across (p ∷ ps) qs h = (each_right (λ q. is_before p q ≡ true) ps qs h.0, rising_across ps qs h.1)

-- ---- equations

pub places_map : (place : Place) (m : LoopKind) (counts starts : List ℕ) (xs : List Statement)
    → places_in (b.Map place m counts starts xs) ≡ place ∷ all_places (map places_in xs)
places_map place m counts starts xs = ap places_in (sym (b.rolls-Map place m counts starts xs))
    ∙ fold-roll-Statement (List Place) places_step (Statement-F.Map place m counts starts xs)

-- ---- candidates

module _ (P : Place → Type 0) (caller : ℕ) where
  pub record Stands (c : Candidate) : Type 0 where
    pub at : P c.place
    pub by : c.caller ≡ caller

  module _ (lefts : ℕ → List ℕ) (children : ℕ) where
    abbrev sees : Statement → code.Seen
    sees = code.seen lefts children caller

    abbrev Placed : Statement → Type 0
    Placed x = EachOf P (places_in x) → (inside : Bool) → EachOf Stands ((sees x).loops inside)

    abbrev Known : Type 0
    Known = (x : Statement) × Placed x

    abbrev these : List Known → List Statement
    these = map (λ (q : Known). q.0)

    parts_placed : (xs : List Known) → EachOf P (all_places (map places_in (these xs))) → (inside : Bool)
        → EachOf Stands (code.all_loops (map sees (these xs)) inside)
    parts_placed [] h inside = tt
    parts_placed (x ∷ xs) h inside =
        each_both Stands ((sees x.0).loops inside) (code.all_loops (map sees (these xs)) inside)
        (x.1 (each_left P (places_in x.0) (all_places (map places_in (these xs))) h) inside)
        (parts_placed xs (each_right P (places_in x.0) (all_places (map places_in (these xs))) h) inside)

    pub own_placed : (place : Place) (m : LoopKind) (spread : Bool) (counts : List ℕ) (o : Option (List CallInstance))
        → P place → EachOf Stands (code.own_loop lefts children caller place m spread counts o)
    own_placed place m spread counts None h = tt
    own_placed place m spread counts (Some rows) h = by (may_overlap lefts children m spread counts rows)
      where
        by : (t : Bool) → EachOf Stands
            (if t then record { caller = caller; form = first_form rows; place = place } ∷ [] else [])
        by true = (record { at = h; by = refl }, tt)
        by false = tt

    step : (y : Statement-F Known) → Placed (roll-Statement (map-Statement Known Statement (λ p. p.0) y))
    step (Statement-F.Call lower rows) = subst Placed (sym (b.rolls-Call lower rows)) (λ h inside.
        subst (EachOf Stands) (sym (opened.loops_call lefts children caller lower rows inside)) tt)
    step (Statement-F.Map place m counts starts xs) =
        let ys = these xs in
        subst Placed (sym (b.rolls-Map place m counts starts ys)) (λ h inside.
        let its = subst (EachOf P) (places_map place m counts starts ys) h in
        let spread = is_spread m inside (any_of (map lower_in ys)) (any_of (map same_in ys)) in
        subst (EachOf Stands) (sym (opened.loops_map lefts children caller place m counts starts ys inside))
        (each_both Stands (code.own_loop lefts children caller place m spread counts (only_call (map call_in ys)))
        (code.all_loops (map sees ys) (inside || spread))
        (own_placed place m spread counts (only_call (map call_in ys)) its.0)
        (parts_placed xs its.1 (inside || spread))))

    pub one_placed : (x : Statement) → Placed x
    one_placed = ind-Statement Placed (λ x y is. subst (λ z. Placed (roll-Statement z)) is (step y))

    pub all_placed : (xs : List Statement) → EachOf P (all_places (map places_in xs)) → (inside : Bool)
        → EachOf Stands (code.all_loops (map sees xs) inside)
    all_placed [] h inside = tt
    all_placed (x ∷ xs) h inside =
        each_both Stands ((sees x).loops inside) (code.all_loops (map sees xs) inside)
        (one_placed x (each_left P (places_in x) (all_places (map places_in xs)) h) inside)
        (all_placed xs (each_right P (places_in x) (all_places (map places_in xs)) h) inside)

  -- ---- calls in plain loops

  pub record SiteStands (s : Site) : Type 0 where
    pub at : P (key s)
    pub by : s.caller ≡ caller

  longer_first : (ps : List Place) (q : Place) → 0 < length ps
      → get_or (ps ++ q ∷ []) 0 no_place ≡ get_or ps 0 no_place
  longer_first [] q lt = absurd (omega (arith, lt))
  longer_first (p ∷ ps) q lt = refl

  some_loops : {x : Statement} {n : Nest} → Whole caller x n → EachOf P (places_in x) → 0 < length n.loops
      → P (get_or n.loops 0 no_place)
  some_loops (whole_call c rows same) h lt = absurd (omega (arith, lt))
  some_loops (whole_loop place counts starts {x = x} {n = n} is some_ w) h lt =
      let its = subst (EachOf P) (places_map place loop_kind.Sequential counts starts (x ∷ [])) h in
      by n.loops refl its.0
      (λ some_. some_loops w (each_left P (places_in x) [] its.1) some_)
    where
      by : (ps : List Place) → n.loops ≡ ps → P place → (0 < length n.loops → P (get_or n.loops 0 no_place))
          → P (get_or (n.loops ++ place ∷ []) 0 no_place)
      by [] e own inner = subst (λ ps. P (get_or (ps ++ place ∷ []) 0 no_place)) (sym e) own
      by (p ∷ ps) e own inner =
          let l : 0 < length n.loops = subst (λ qs. 0 < length qs) (sym e) (omega arith) in
          subst P (sym (longer_first n.loops place l)) (inner l)

  abbrev SitePlaced : Statement → Type 0
  SitePlaced x = EachOf P (places_in x) → EachOf SiteStands (sites_of_one caller x)

  abbrev SiteKnown : Type 0
  SiteKnown = (x : Statement) × SitePlaced x

  abbrev those : List SiteKnown → List Statement
  those = map (λ (q : SiteKnown). q.0)

  sites_placed : (xs : List SiteKnown) → EachOf P (all_places (map places_in (those xs)))
      → EachOf SiteStands (all_sites caller (map (seen caller) (those xs)))
  sites_placed [] h = tt
  sites_placed (x ∷ xs) h =
      each_both SiteStands (sites_of_one caller x.0) (all_sites caller (map (seen caller) (those xs)))
      (x.1 (each_left P (places_in x.0) (all_places (map places_in (those xs))) h))
      (sites_placed xs (each_right P (places_in x.0) (all_places (map places_in (those xs))) h))

  nest_placed : (n : Nest) (ps : List Place) → n.loops ≡ ps
      → (0 < length n.loops → P (get_or n.loops 0 no_place)) → EachOf SiteStands (sites_in caller n ps)
  nest_placed n [] e h = tt
  nest_placed n (p ∷ ps) e h =
      (record { at = h (subst (λ qs. 0 < length qs) (sym e) (omega arith)); by = refl }, tt)

  by_nest : (x : Statement) → (EachOf P (places_in x) → EachOf SiteStands (seen caller x).inner) → SitePlaced x
  by_nest x inner h = by (nest_of caller x) refl
    where
      by : (o : Option Nest) → nest_of caller x ≡ o → EachOf SiteStands (sites_of_one caller x)
      by None e = subst (λ o. EachOf SiteStands (sites_by caller o (seen caller x).inner)) (sym e) (inner h)
      by (Some n) e = subst (λ o. EachOf SiteStands (sites_by caller o (seen caller x).inner)) (sym e)
          (nest_placed n n.loops refl (λ some_. some_loops (is_whole caller x n e) h some_))

  site_step : (y : Statement-F SiteKnown) → SitePlaced (roll-Statement (map-Statement SiteKnown Statement (λ p. p.0) y))
  site_step (Statement-F.Call lower rows) = subst SitePlaced (sym (b.rolls-Call lower rows))
      (by_nest (b.Call lower rows) (λ h. subst (EachOf SiteStands) (sym (inner_call caller lower rows)) tt))
  site_step (Statement-F.Map place m counts starts xs) =
      let ys = those xs in
      subst SitePlaced (sym (b.rolls-Map place m counts starts ys))
      (by_nest (b.Map place m counts starts ys) (λ h.
      subst (EachOf SiteStands) (sym (inner_map caller place m counts starts ys))
      (sites_placed xs (subst (EachOf P) (places_map place m counts starts ys) h).1)))

  pub one_site : (x : Statement) → SitePlaced x
  one_site = ind-Statement SitePlaced (λ x y is. subst (λ z. SitePlaced (roll-Statement z)) is (site_step y))

  pub all_site : (xs : List Statement) → EachOf P (all_places (map places_in xs))
      → EachOf SiteStands (all_sites caller (map (seen caller) xs))
  all_site [] h = tt
  all_site (x ∷ xs) h =
      each_both SiteStands (sites_of_one caller x) (all_sites caller (map (seen caller) xs))
      (one_site x (each_left P (places_in x) (all_places (map places_in xs)) h))
      (all_site xs (each_right P (places_in x) (all_places (map places_in xs)) h))
