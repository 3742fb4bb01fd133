-- The search goes from row to row and keeps the first of those with the least traffic.
use Rattle.std.proofs.Common.{◌≡◌, ◌⊎◌, inl, inr, ℕ, zero, suc, ◌<◌, ◌≤◌, Bool, true, false, nat_le, if◌then◌else◌, List, [], ◌∷◌, ◌++◌, length, Option, Some, None, slice_get, refl, sym, ap, subst, arith, append_assoc, append-nil}
use Rattle.std.proofs.lemmas.Bool.Decides.{leb_tells}
use Rattle.sq_tune.specs.declared.row.RowEnd.{RowEnd}
use Rattle.sq_tune.specs.declared.row.RowEnd.TheVariants.{Traffic, Refused}
use Rattle.sq_tune.specs.declared.best.Found.{Found}
use Rattle.sq_tune.specs.Best.{Carries, IsBest}
use Rattle.sq_tune.specs.Search.{found_with, found_from}

-- ---- one row more

carried : (rows : List RowEnd) (row : RowEnd) (n traffic : ℕ) → Carries (rows ++ row ∷ []) n traffic → Carries rows n traffic ⊎ ((n ≡ length rows) × (row ≡ Traffic traffic))
carried [] row zero traffic h = inr (refl, cc)
carried [] row (suc n) traffic h = absurd (cc)
carried (x ∷ rows) row zero traffic h = inl h
carried (x ∷ rows) row (suc n) traffic h = elim (carried rows row n traffic h) [ inl old ↦ inl old | inr new ↦ inr (ap suc new.0, new.1) ]

stays : (rows : List RowEnd) (row x : RowEnd) (n : ℕ) → slice_get rows n ≡ Some x → slice_get (rows ++ row ∷ []) n ≡ Some x
stays [] row x n h = absurd (cc)
stays (y ∷ rows) row x zero h = h
stays (y ∷ rows) row x (suc n) h = stays rows row x n h

last_row : (rows : List RowEnd) (row : RowEnd) → slice_get (rows ++ row ∷ []) (length rows) ≡ Some row
last_row [] row = refl
last_row (x ∷ rows) row = last_row rows row

below : (rows : List RowEnd) (x : RowEnd) (n : ℕ) → slice_get rows n ≡ Some x → n < length rows
below [] x n h = absurd (cc)
below (y ∷ rows) x zero h = omega arith
below (y ∷ rows) x (suc n) h = let lt = below rows x n h in omega (arith, lt)

one_longer : (rows : List RowEnd) (row : RowEnd) → length (rows ++ row ∷ []) ≡ suc (length rows)
one_longer [] row = refl
one_longer (x ∷ rows) row = ap suc (one_longer rows row)

-- ---- what is found in these rows

pub record Leads (rows : List RowEnd) (f : Found) : Type 0 where
  pub there : Carries rows f.at f.traffic
  pub least : (m other : ℕ) → Carries rows m other → f.traffic ≤ other
  pub first : (m other : ℕ) → Carries rows m other → m < f.at → f.traffic < other

abbrev AllRefused : List RowEnd → Type 0
AllRefused rows = (n traffic : ℕ) → Carries rows n traffic → ⊥

abbrev IsFound : List RowEnd → Option Found → Type 0
IsFound rows None = AllRefused rows
IsFound rows (Some f) = Leads rows f

abbrev found_at : ℕ → ℕ → Found
found_at at traffic = record { at = at; traffic = traffic }

same_traffic : (a b : ℕ) → Traffic a ≡ Traffic b → a ≡ b
same_traffic a b h = ap of h
  where
    of : RowEnd → ℕ
    of (Traffic n) = n
    of (Refused fault) = 0

not_both : (fault : _) (n : ℕ) → Refused fault ≡ Traffic n → ⊥
not_both fault n h = cc

-- a refused row changes nothing
refused : (rows : List RowEnd) (fault : _) (found : Option Found) → IsFound rows found → IsFound (rows ++ Refused fault ∷ []) found
refused rows fault None h = λ n traffic c. elim (carried rows (Refused fault) n traffic c) [ inl old ↦ h n traffic old | inr new ↦ not_both fault traffic new.1 ]
refused rows fault (Some f) h = record {
  there = stays rows (Refused fault) (Traffic f.traffic) f.at h.there;
  least = λ m other c. elim (carried rows (Refused fault) m other c) [ inl old ↦ h.least m other old | inr new ↦ absurd (not_both fault other new.1) ];
  first = λ m other c lt. elim (carried rows (Refused fault) m other c) [ inl old ↦ h.first m other old lt | inr new ↦ absurd (not_both fault other new.1) ];
}

-- the first row that is accepted
first_found : (rows : List RowEnd) (traffic : ℕ) → AllRefused rows → Leads (rows ++ Traffic traffic ∷ []) (found_at (length rows) traffic)
first_found rows traffic h = record {
  there = last_row rows (Traffic traffic);
  least = λ m other c. elim (carried rows (Traffic traffic) m other c) [ inl old ↦ absurd (h m other old) | inr new ↦ (let e = same_traffic traffic other new.1 in omega (arith, e)) ];
  first = λ m other c lt. elim (carried rows (Traffic traffic) m other c) [ inl old ↦ absurd (h m other old) | inr new ↦ (let e = new.0 in absurd (omega (arith, e, lt))) ];
}

-- one with less traffic
less_found : (rows : List RowEnd) (traffic : ℕ) (f : Found) → Leads rows f → traffic < f.traffic → Leads (rows ++ Traffic traffic ∷ []) (found_at (length rows) traffic)
less_found rows traffic f h less = record {
  there = last_row rows (Traffic traffic);
  least = λ m other c. elim (carried rows (Traffic traffic) m other c) [
    | inl old ↦ (let l = h.least m other old in omega (arith, l, less))
    | inr new ↦ (let e = same_traffic traffic other new.1 in omega (arith, e))
  ];
  first = λ m other c lt. elim (carried rows (Traffic traffic) m other c) [
    | inl old ↦ (let l = h.least m other old in omega (arith, l, less))
    | inr new ↦ (let e = new.0 in absurd (omega (arith, e, lt)))
  ];
}

-- one with as much, or more
more_found : (rows : List RowEnd) (traffic : ℕ) (f : Found) → Leads rows f → f.traffic ≤ traffic → Leads (rows ++ Traffic traffic ∷ []) f
more_found rows traffic f h more = record {
  there = stays rows (Traffic traffic) (Traffic f.traffic) f.at h.there;
  least = λ m other c. elim (carried rows (Traffic traffic) m other c) [
    | inl old ↦ h.least m other old
    | inr new ↦ (let e = same_traffic traffic other new.1 in omega (arith, e, more))
  ];
  first = λ m other c lt. elim (carried rows (Traffic traffic) m other c) [
    | inl old ↦ h.first m other old lt
    | inr new ↦ (let e = new.0 in let in_rows = below rows (Traffic f.traffic) f.at h.there in absurd (omega (arith, e, lt, in_rows)))
  ];
}

accepted : (rows : List RowEnd) (traffic : ℕ) (f : Found) (b : Bool) → ((b ≡ true) × (f.traffic ≤ traffic)) ⊎ ((b ≡ false) × (traffic < f.traffic)) → Leads rows f
    → IsFound (rows ++ Traffic traffic ∷ []) (if b then Some f else Some (found_at (length rows) traffic))
accepted rows traffic f b (inl h) l = rw h.0 (more_found rows traffic f l h.1)
accepted rows traffic f b (inr h) l = rw h.0 (less_found rows traffic f l h.1)

tells : (a b : ℕ) → ((nat_le a b ≡ true) × (a ≤ b)) ⊎ ((nat_le a b ≡ false) × (b < a))
tells a b = elim (leb_tells a b) [ inl h ↦ inl (h.0, h.1) | inr h ↦ inr (h.0, omega (arith, h.1)) ]

found_more : (rows : List RowEnd) (row : RowEnd) (found : Option Found) → IsFound rows found → IsFound (rows ++ row ∷ []) (found_with found (length rows) row)
found_more rows (Refused fault) found h = refused rows fault found h
found_more rows (Traffic traffic) None h = first_found rows traffic h
found_more rows (Traffic traffic) (Some f) h = accepted rows traffic f (nat_le f.traffic traffic) (tells f.traffic traffic) h

found_all : (done rest : List RowEnd) (found : Option Found) → IsFound done found → IsFound (done ++ rest) (found_from found (length done) rest)
found_all done [] found h = subst (λ rows. IsFound rows found) (sym (append-nil done)) h
found_all done (row ∷ rest) found h =
    let more = found_all (done ++ row ∷ []) rest (found_with found (length done) row) (found_more done row found h) in
    subst (λ rows. IsFound rows (found_from (found_with found (length done) row) (suc (length done)) rest)) (append_assoc done (row ∷ []) rest)
    (subst (λ n. IsFound ((done ++ row ∷ []) ++ rest) (found_from (found_with found (length done) row) n rest)) (one_longer done row) more)

nothing_yet : AllRefused []
nothing_yet n traffic h = absurd (cc)

pub none_found : (rows : List RowEnd) → found_from None 0 rows ≡ None → IsBest rows None
none_found rows e = subst (IsFound rows) e (found_all [] rows None nothing_yet)

pub some_found : (rows : List RowEnd) (f : Found) → found_from None 0 rows ≡ Some f → IsBest rows (Some f.at)
some_found rows f e =
    let l : Leads rows f = subst (IsFound rows) e (found_all [] rows None nothing_yet) in
    record { traffic = f.traffic; accepted = l.there; least = l.least; first = l.first }
