-- The loops among which those that overlap their transfers are taken, and the calls in them.
use Rattle.std.proofs.Common.{◌≡◌, ◌⊎◌, inl, inr, ℕ, zero, suc, ◌==◌, ◌<◌, ◌≤◌, Bool, true, false, ◌&&◌, ◌||◌}
use Rattle.std.proofs.Common.{List, [], ◌∷◌, ◌++◌, map, get_or, Option, Some, None, refl, sym, ap}
use Rattle.std.proofs.Common.{subst, ◌∙◌, arith, if◌then◌else◌}
use Rattle.sq_text.specs.declared.place.Place.{Place}
use Rattle.sq_work.specs.declared.reduction.Reduction.{Reduction}
use Rattle.sq_spec.specs.declared.statement.LoopKind.{LoopKind}
use Rattle.sq_spec.specs.declared.statement.LoopKind.TheVariants as loop_kind
use Rattle.sq_spec.specs.declared.statement.CallInstance.{CallInstance}
use Rattle.sq_spec.specs.declared.statement.Statement.{Statement, roll-Statement}
use Rattle.sq_spec.specs.declared.statement.Statement.TheVariants as b
use Rattle.sq_spec.specs.declared.statement.Statement.TheOpen.{Statement-F}
use Rattle.sq_spec.specs.declared.statement.Statement.TheFolds.{ind-Statement, map-Statement}
use Rattle.sq_spec.specs.Spreads.{any_of, is_spread, lower_in, same_in}
use Rattle.sq_spec_laws.specs.TableRows.{Table, red_of, all_tables, tables_of}
use Rattle.sq_spec_laws.proofs.TableRowsHold.{tables_call, tables_map}
use Rattle.sq_placed.specs.Pipes.{CallLoops, loop_round, call_loops}
use Rattle.sq_placed.proofs.Pipes as pipes
use Rattle.sq_draft_laws.specs.TermLaws.Orders.{EachOf}
use Rattle.sq_draft_laws.proofs.ProgramLaws.Loops.{each_both, each_left, each_map, each_right}
use Rattle.sq_pass_laws.proofs.HoistLists.{all_each}
use Rattle.sq_pass_laws.proofs.Nests.{same_number}
use Rattle.sq_pass_laws.proofs.Sites.{IsWithin, LowersSo}
use Rattle.sq_pipe.specs.declared.candidate.Candidate.{Candidate}
use Rattle.sq_pipe.specs.Candidates.{may_overlap, have_one_form, first_form, Seen, all_loops, only_call}
use Rattle.sq_pipe.specs.Candidates.{own_loop, seen, call_in}
use Rattle.sq_pipe.specs.Greedy.{with_form, taken_from}
use Rattle.sq_pipe.proofs.CallsOpened.{call_call, call_map, loops_call, loops_map}

-- ---- what is taken is a candidate

abbrev pub IsIn : ℕ → List Candidate → Type 0
IsIn f [] = ⊥
IsIn f (c ∷ cs) = (c.form ≡ f) ⊎ IsIn f cs

pub in_either : (f : ℕ) (cs ds : List Candidate) → IsIn f (cs ++ ds) → IsIn f cs ⊎ IsIn f ds
in_either f [] ds h = inr h
in_either f (c ∷ cs) ds (inl e) = inl (inl e)
in_either f (c ∷ cs) ds (inr h) = by (in_either f cs ds h)
  where
    by : IsIn f cs ⊎ IsIn f ds → IsIn f (c ∷ cs) ⊎ IsIn f ds
    by (inl g) = inl (inr g)
    by (inr g) = inr g

set_flag : (flags : List Bool) (j k : ℕ) → get_or (with_form flags j) k false ≡ true
    → (j ≡ k) ⊎ (get_or flags k false ≡ true)
set_flag [] j k e = inr e
set_flag (x ∷ flags) zero zero e = inl refl
set_flag (x ∷ flags) zero (suc k) e = inr e
set_flag (x ∷ flags) (suc j) zero e = inr e
set_flag (x ∷ flags) (suc j) (suc k) e = by (set_flag flags j k e)
  where
    by : (j ≡ k) ⊎ (get_or flags k false ≡ true) → (suc j ≡ suc k) ⊎ (get_or flags k false ≡ true)
    by (inl is) = inl (ap suc is)
    by (inr h) = inr h

module _ (fits : List Bool → Bool) where
  one_taken : (flags : List Bool) (j k : ℕ) (t : Bool)
      → get_or (if t then with_form flags j else flags) k false ≡ true → (j ≡ k) ⊎ (get_or flags k false ≡ true)
  one_taken flags j k true e = set_flag flags j k e
  one_taken flags j k false e = inr e

  pub taken_in : (flags : List Bool) (cs : List Candidate) (k : ℕ)
      → get_or (taken_from fits flags cs) k false ≡ true → (get_or flags k false ≡ true) ⊎ IsIn k cs
  taken_in flags [] k e = inl e
  taken_in flags (c ∷ cs) k e =
      by (taken_in (if fits (with_form flags c.form) then with_form flags c.form else flags) cs k e)
    where
      first : (c.form ≡ k) ⊎ (get_or flags k false ≡ true) → (get_or flags k false ≡ true) ⊎ IsIn k (c ∷ cs)
      first (inl is) = inr (inl is)
      first (inr h) = inl h

      by : (get_or (if fits (with_form flags c.form) then with_form flags c.form else flags) k false ≡ true)
          ⊎ IsIn k cs → (get_or flags k false ≡ true) ⊎ IsIn k (c ∷ cs)
      by (inl h) = first (one_taken flags c.form k (fits (with_form flags c.form)) h)
      by (inr h) = inr (inr h)

-- ---- a lower call that is a statement

pub record IsCallIn (x : Statement) : Type 0 where
  pub call : (rows : List CallInstance) → call_in x ≡ Some rows → x ≡ b.Call true rows
  pub loops : (call_loops x).call ≡ call_in x

call_by : (lower : Bool) (rows times : List CallInstance) → (if lower then Some times else None) ≡ Some rows
    → b.Call lower times ≡ b.Call true rows
call_by true rows times e = let is : times ≡ rows = cc e in ap (b.Call true) is
call_by false rows times e = absurd (cc e)

abbrev KnownCall : Type 0
KnownCall = (x : Statement) × IsCallIn x

call_step : (y : Statement-F KnownCall) → IsCallIn (roll-Statement (map-Statement KnownCall Statement (λ p. p.0) y))
call_step (Statement-F.Call lower times) = subst IsCallIn (sym (b.rolls-Call lower times)) (record {
  call = λ rows e. call_by lower rows times (sym (call_call lower times) ∙ e);
  loops = ap (λ (l : CallLoops). l.call) (pipes.loops_call lower times) ∙ sym (call_call lower times);
})
call_step (Statement-F.Map place m counts starts xs) =
    let ys = map (λ (q : KnownCall). q.0) xs in
    subst IsCallIn (sym (b.rolls-Map place m counts starts ys)) (record {
      call = λ rows e. absurd (let n = sym (call_map place m counts starts ys) ∙ e in cc n);
      loops = ap (λ (l : CallLoops). l.call) (pipes.loops_map place m counts starts ys)
          ∙ sym (call_map place m counts starts ys);
    })

pub is_call_in : (x : Statement) → IsCallIn x
is_call_in = ind-Statement IsCallIn (λ x y is. subst (λ z. IsCallIn (roll-Statement z)) is (call_step y))

-- it is all that stands in a map
pub only_one : (xs : List Statement) (rows : List CallInstance) → only_call (map call_in xs) ≡ Some rows
    → xs ≡ b.Call true rows ∷ []
only_one [] rows e = absurd (cc e)
only_one (x ∷ []) rows e = ap (λ (y : Statement). y ∷ []) ((is_call_in x).call rows e)
only_one (x ∷ y ∷ xs) rows e = absurd (cc e)

-- or there is no loop of a call
pub no_round : (m : LoopKind) (counts starts : List ℕ) (xs : List Statement) → only_call (map call_in xs) ≡ None
    → loop_round m counts starts (map call_loops xs) ≡ []
no_round m counts starts [] e = refl
no_round m counts starts (x ∷ []) e =
    ap (λ o. loop_round m counts starts (record { call = o; loops = (call_loops x).loops } ∷ []))
    ((is_call_in x).loops ∙ e)
no_round m counts starts (x ∷ y ∷ xs) e = refl

-- ---- its loop

pub each_form : (rows : List CallInstance) → have_one_form rows ≡ true
    → EachOf (λ (q : CallInstance). q.form ≡ first_form rows) rows
each_form [] e = tt
each_form (r ∷ rows) e = (
  refl,
  each_map (λ (q : CallInstance). (q.form == r.form) ≡ true) (λ (q : CallInstance). q.form ≡ r.form) rows
      (λ q g. same_number q.form r.form g) (all_each (λ (q : CallInstance). q.form == r.form) rows e),
)

module _ (leaves : ℕ → List ℕ) (children : ℕ) where
  pub one_form : (m : LoopKind) (spread : Bool) (counts : List ℕ) (rows : List CallInstance)
      → may_overlap leaves children m spread counts rows ≡ true → have_one_form rows ≡ true
  one_form loop_kind.Sequential spread counts rows e = first_of (have_one_form rows) _ _ e
    where
      first_of : (x y z : Bool) → (x && y && z) ≡ true → x ≡ true
      first_of true y z e = refl
      first_of false true z e = absurd (cc e)
      first_of false false z e = absurd (cc e)
  one_form loop_kind.Parallel spread counts rows e = middle spread (have_one_form rows) _ e
    where
      middle : (x y z : Bool) → (x && y && z) ≡ true → y ≡ true
      middle true true z e = refl
      middle true false z e = absurd (cc e)
      middle false y z e = absurd (cc e)
  one_form (loop_kind.Reduction r) spread counts rows e = absurd (cc e)

  -- a form that is called in it is that of all its rows
  pub record IsOwn (m : LoopKind) (spread : Bool) (counts : List ℕ) (rows : List CallInstance) (f : ℕ) : Type 0 where
    pub may : may_overlap leaves children m spread counts rows ≡ true
    pub form : first_form rows ≡ f

  pub its_own : (caller : ℕ) (place : Place) (m : LoopKind) (spread : Bool) (counts : List ℕ)
      (rows : List CallInstance) (f : ℕ)
      → IsIn f (own_loop leaves children caller place m spread counts (Some rows) ++ ([] ++ []))
      → IsOwn m spread counts rows f
  its_own caller place m spread counts rows f h = by (may_overlap leaves children m spread counts rows) refl h
    where
      first : (first_form rows ≡ f) ⊎ ⊥ → first_form rows ≡ f
      first (inl e) = e
      first (inr h) = absurd h

      by : (t : Bool) → may_overlap leaves children m spread counts rows ≡ t
          → IsIn f ((if t then record { caller = caller; form = first_form rows; place = place } ∷ [] else [])
          ++ ([] ++ [])) → IsOwn m spread counts rows f
      by true e g = record { may = e; form = first g }
      by false e g = absurd g

-- ---- what holds of the forms of lower calls holds of those of candidates

module _ (Q : ℕ → Type 0) where
  abbrev pub CandidatesSo : List Candidate → Type 0
  CandidatesSo cs = EachOf (λ (c : Candidate). Q c.form) cs

  pub so_in : (cs : List Candidate) → CandidatesSo cs → (f : ℕ) → IsIn f cs → Q f
  so_in [] h f g = absurd g
  so_in (c ∷ cs) h f (inl e) = subst Q e h.0
  so_in (c ∷ cs) h f (inr g) = so_in cs h.1 f g

  module _ (leaves : ℕ → List ℕ) (children caller : ℕ) where
    abbrev sees : Statement → Seen
    sees = seen leaves children caller

    abbrev HasSo : Statement → Type 0
    HasSo x = (inside : Bool) (red : Option Reduction) → LowersSo Q (tables_of x red)
        → CandidatesSo ((sees x).loops inside)

    abbrev Known : Type 0
    Known = (x : Statement) × HasSo x

    abbrev these : List Known → List Statement
    these = map (λ (q : Known). q.0)

    abbrev OfTable : Table → Type 0
    OfTable t = t.lower ≡ true → EachOf (λ (q : CallInstance). Q q.form) t.times

    parts_so : (xs : List Known) (inside : Bool) (red : Option Reduction)
        → LowersSo Q (all_tables (map tables_of (these xs)) red)
        → CandidatesSo (all_loops (map sees (these xs)) inside)
    parts_so [] inside red h = tt
    parts_so (x ∷ xs) inside red h =
        let ts = tables_of x.0 red in
        let us = all_tables (map tables_of (these xs)) red in
        each_both (λ (c : Candidate). Q c.form) ((sees x.0).loops inside) (all_loops (map sees (these xs)) inside)
        (x.1 inside red (each_left OfTable ts us h)) (parts_so xs inside red (each_right OfTable ts us h))

    first_so : (rows : List CallInstance) → have_one_form rows ≡ true
        → EachOf (λ (q : CallInstance). Q q.form) rows → Q (first_form rows)
    first_so [] e h = absurd (cc e)
    first_so (r ∷ rows) e h = h.0

    loop_so : (place : Place) (m : LoopKind) (spread : Bool) (counts : List ℕ) (rows : List CallInstance)
        → EachOf (λ (q : CallInstance). Q q.form) rows
        → CandidatesSo (own_loop leaves children caller place m spread counts (Some rows))
    loop_so place m spread counts rows h = by (may_overlap leaves children m spread counts rows) refl
      where
        by : (t : Bool) → may_overlap leaves children m spread counts rows ≡ t
            → CandidatesSo (if t then record { caller = caller; form = first_form rows; place = place } ∷ [] else [])
        by true e = (first_so rows (one_form leaves children m spread counts rows e) h, tt)
        by false e = tt

    own_so : (place : Place) (m : LoopKind) (spread : Bool) (counts : List ℕ) (xs : List Statement)
        (red : Option Reduction) → LowersSo Q (all_tables (map tables_of xs) red)
        → (o : Option (List CallInstance)) → only_call (map call_in xs) ≡ o
        → CandidatesSo (own_loop leaves children caller place m spread counts o)
    own_so place m spread counts xs red h None e = tt
    own_so place m spread counts xs red h (Some rows) e =
        let one = subst (λ (ys : List Statement). LowersSo Q (all_tables (map tables_of ys) red)) (only_one xs rows e) h
        in
        let its = subst (λ (f : Option Reduction → List Table). LowersSo Q (f red ++ [])) (tables_call true rows) one in
        loop_so place m spread counts rows (its.0 refl)

    so_step : (y : Statement-F Known) → HasSo (roll-Statement (map-Statement Known Statement (λ p. p.0) y))
    so_step (Statement-F.Call lower rows) = subst HasSo (sym (b.rolls-Call lower rows)) (λ inside red h.
        subst CandidatesSo (sym (loops_call leaves children caller lower rows inside)) tt)
    so_step (Statement-F.Map place m counts starts xs) =
        let ys = these xs in
        subst HasSo (sym (b.rolls-Map place m counts starts ys)) (λ inside red h.
        let spread = is_spread m inside (any_of (map lower_in ys)) (any_of (map same_in ys)) in
        let g = subst (λ (f : Option Reduction → List Table). LowersSo Q (f red))
        (tables_map place m counts starts ys) h in
        subst CandidatesSo (sym (loops_map leaves children caller place m counts starts ys inside))
        (each_both (λ (c : Candidate). Q c.form)
        (own_loop leaves children caller place m spread counts (only_call (map call_in ys)))
        (all_loops (map sees ys) (inside || spread))
        (own_so place m spread counts ys (red_of m) g (only_call (map call_in ys)) refl)
        (parts_so xs (inside || spread) (red_of m) g)))

    pub one_has : (x : Statement) → HasSo x
    one_has = ind-Statement HasSo (λ x y is. subst (λ z. HasSo (roll-Statement z)) is (so_step y))

    pub all_have : (xs : List Statement) (inside : Bool) (red : Option Reduction)
        → LowersSo Q (all_tables (map tables_of xs) red) → CandidatesSo (all_loops (map sees xs) inside)
    all_have [] inside red h = tt
    all_have (x ∷ xs) inside red h =
        let ts = tables_of x red in
        let us = all_tables (map tables_of xs) red in
        each_both (λ (c : Candidate). Q c.form) ((sees x).loops inside) (all_loops (map sees xs) inside)
        (one_has x inside red (each_left OfTable ts us h)) (all_have xs inside red (each_right OfTable ts us h))

-- ---- candidates by the numbers of their calls

module _ (number : ℕ → ℕ) where
  abbrev pub AreWithin : (lo hi : ℕ) → List Candidate → Type 0
  AreWithin lo hi cs = CandidatesSo (IsWithin number lo hi) cs

  pub none_in : (lo hi : ℕ) (cs : List Candidate) → AreWithin lo hi cs → (f : ℕ) → (number f < lo) ⊎ (hi ≤ number f)
      → IsIn f cs → ⊥
  none_in lo hi cs w f out h = by out
    where
      is : IsWithin number lo hi f
      is = so_in (IsWithin number lo hi) cs w f h

      by : (number f < lo) ⊎ (hi ≤ number f) → ⊥
      by (inl l) = let g = is.low in absurd (omega (arith, l, g))
      by (inr l) = let g = is.high in absurd (omega (arith, l, g))

  pub in_front : (lo hi : ℕ) (cs ds : List Candidate) → AreWithin lo hi ds → (f : ℕ)
      → (number f < lo) ⊎ (hi ≤ number f) → IsIn f (cs ++ ds) → IsIn f cs
  in_front lo hi cs ds w f out h = by (in_either f cs ds h)
    where
      by : IsIn f cs ⊎ IsIn f ds → IsIn f cs
      by (inl g) = g
      by (inr g) = absurd (none_in lo hi ds w f out g)

  pub in_back : (lo hi : ℕ) (cs ds : List Candidate) → AreWithin lo hi cs → (f : ℕ)
      → (number f < lo) ⊎ (hi ≤ number f) → IsIn f (cs ++ ds) → IsIn f ds
  in_back lo hi cs ds w f out h = by (in_either f cs ds h)
    where
      by : IsIn f cs ⊎ IsIn f ds → IsIn f ds
      by (inl g) = absurd (none_in lo hi cs w f out g)
      by (inr g) = g
