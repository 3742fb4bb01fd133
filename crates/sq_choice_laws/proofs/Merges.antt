-- Notes that are merged: parts that stand behind one another are merged apart.
use Rattle.std.proofs.Common.{◌≡◌, ℕ, zero, suc, ◌+◌, ◌≤◌, Bool, true, false, List, [], ◌∷◌, ◌++◌, length, take, drop}
use Rattle.std.proofs.Common.{get_or, refl, sym, ap, ap₂, ◌∙◌, arith, if◌then◌else◌}
use Rattle.sq_text.specs.declared.place.Place.{Place}
use Rattle.sq_ir.specs.declared.plan.Note.{Note}
use Rattle.sq_ir.specs.declared.plan.Note.TheVariants.{Overlap}
use Rattle.sq_spec.specs.declared.resolved.Resolved.{Resolved}
use Rattle.sq_draft_laws.specs.TermLaws.Orders.{EachOf}
use Rattle.sq_draft_laws.specs.Homes.Chosen.Forms.{instance_at, name_by}
use Rattle.sq_pipe.specs.Hoist.declared.sites.Site.{Site}
use Rattle.sq_pipe.specs.Hoist.Notes.{no_place, site_notes}
use Rattle.sq_pipe.specs.declared.candidate.Candidate.{Candidate}
use Rattle.sq_pipe.specs.Notes.{overlap_notes, is_ahead_of, count_ahead, before_site, merged}

-- ---- lists

pub assoc : {A : Type 0} (xs ys zs : List A) → (xs ++ ys) ++ zs ≡ xs ++ (ys ++ zs)
assoc [] ys zs = refl
assoc (x ∷ xs) ys zs = ap (λ l. x ∷ l) (assoc xs ys zs)

take_all : {A : Type 0} (xs ys : List A) (n : ℕ) → take (length xs + n) (xs ++ ys) ≡ xs ++ take n ys
take_all [] ys n = let z : 0 + n ≡ n = omega arith in ap (λ m. take m ys) z
take_all (x ∷ xs) ys n =
    let z : suc (length xs) + n ≡ suc (length xs + n) = omega arith in
    ap (λ m. take m (x ∷ (xs ++ ys))) z ∙ ap (λ l. x ∷ l) (take_all xs ys n)

drop_all : {A : Type 0} (xs ys : List A) (n : ℕ) → drop (length xs + n) (xs ++ ys) ≡ drop n ys
drop_all [] ys n = let z : 0 + n ≡ n = omega arith in ap (λ m. drop m ys) z
drop_all (x ∷ xs) ys n =
    let z : suc (length xs) + n ≡ suc (length xs + n) = omega arith in
    ap (λ m. drop m (x ∷ (xs ++ ys))) z ∙ drop_all xs ys n

take_front : {A : Type 0} (n : ℕ) (xs ys : List A) → n ≤ length xs → take n (xs ++ ys) ≡ take n xs
take_front zero xs ys le = refl
take_front (suc n) [] ys le = absurd (omega (arith, le))
take_front (suc n) (x ∷ xs) ys le = ap (λ l. x ∷ l) (take_front n xs ys (omega (arith, le)))

drop_front : {A : Type 0} (n : ℕ) (xs ys : List A) → n ≤ length xs → drop n (xs ++ ys) ≡ drop n xs ++ ys
drop_front zero xs ys le = refl
drop_front (suc n) [] ys le = absurd (omega (arith, le))
drop_front (suc n) (x ∷ xs) ys le = drop_front n xs ys (omega (arith, le))

each_drop : {A : Type 0} (P : A → Type 0) (n : ℕ) (xs : List A) → EachOf P xs → EachOf P (drop n xs)
each_drop P zero xs h = h
each_drop P (suc n) [] h = tt
each_drop P (suc n) (x ∷ xs) h = each_drop P n xs h.1

-- ---- what is ahead

abbrev pub key : Site → Place
key s = get_or s.loops 0 no_place

abbrev pub IsAhead : Site → Candidate → Type 0
IsAhead s c = is_ahead_of s.caller (key s) c ≡ true

abbrev pub IsBehind : Site → Candidate → Type 0
IsBehind s c = is_ahead_of s.caller (key s) c ≡ false

module _ (k : ℕ) (p : Place) where
  abbrev ahead : Candidate → Bool
  ahead c = is_ahead_of k p c

  count_if : (t : Bool) (n : ℕ) → t ≡ true → (if t then suc n else 0) ≡ suc n
  count_if true n e = refl
  count_if false n e = absurd (cc e)

  count_not : (t : Bool) (n : ℕ) → t ≡ false → (if t then suc n else 0) ≡ 0
  count_not true n e = absurd (cc e)
  count_not false n e = refl

  count_all : (cs ds : List Candidate) → EachOf (λ c. ahead c ≡ true) cs
      → count_ahead k p (cs ++ ds) ≡ length cs + count_ahead k p ds
  count_all [] ds h = let z : count_ahead k p ds ≡ 0 + count_ahead k p ds = omega arith in z
  count_all (c ∷ cs) ds h =
      let e = count_all cs ds h.1 in
      let f = count_if (ahead c) (count_ahead k p (cs ++ ds)) h.0 in
      let z : suc (length cs + count_ahead k p ds) ≡ suc (length cs) + count_ahead k p ds = omega arith in
      f ∙ ap suc e ∙ z

  count_none : (cs ds : List Candidate) → EachOf (λ c. ahead c ≡ false) ds
      → count_ahead k p (cs ++ ds) ≡ count_ahead k p cs
  count_none [] [] h = refl
  count_none [] (d ∷ ds) h = count_not (ahead d) (count_ahead k p ds) h.0
  count_none (c ∷ cs) ds h = ap (λ n. if ahead c then suc n else 0) (count_none cs ds h)

  count_few : (cs : List Candidate) → count_ahead k p cs ≤ length cs
  count_few [] = omega arith
  count_few (c ∷ cs) = by (ahead c) (count_few cs)
    where
      by : (t : Bool) → count_ahead k p cs ≤ length cs
          → (if t then suc (count_ahead k p cs) else 0) ≤ suc (length cs)
      by true l = omega (arith, l)
      by false l = omega arith

all_drop : (us : List Site) (n : ℕ) (cs : List Candidate) → EachOf (λ s. EachOf (IsAhead s) cs) us
    → EachOf (λ s. EachOf (IsAhead s) (drop n cs)) us
all_drop [] n cs h = tt
all_drop (s ∷ us) n cs h = (each_drop (IsAhead s) n cs h.0, all_drop us n cs h.1)

-- ---- notes

module _ (r : Resolved) (taken : List Bool) where
  pub overlaps_both : (cs ds : List Candidate)
      → overlap_notes r taken (cs ++ ds) ≡ overlap_notes r taken cs ++ overlap_notes r taken ds
  overlaps_both [] ds = refl
  overlaps_both (c ∷ cs) ds = by (get_or taken c.form false) (overlaps_both cs ds)
    where
      one : Note
      one = Overlap c.place (name_by (instance_at r c.caller))

      by : (t : Bool) → overlap_notes r taken (cs ++ ds) ≡ overlap_notes r taken cs ++ overlap_notes r taken ds
          → (if t then one ∷ overlap_notes r taken (cs ++ ds) else overlap_notes r taken (cs ++ ds))
          ≡ (if t then one ∷ overlap_notes r taken cs else overlap_notes r taken cs) ++ overlap_notes r taken ds
      by true e = ap (λ l. one ∷ l) e
      by false e = e

  -- the rest of a call in plain loops and those behind it, with so many loops before it
  abbrev with_site : Site → List Site → List Candidate → ℕ → List Note
  with_site s ss cs n = overlap_notes r taken (take n cs) ++ (site_notes r s ++ merged r taken ss (drop n cs))

  pub merged_both : (ss us : List Site) (cs ds : List Candidate) → EachOf (λ s. EachOf (IsAhead s) cs) us
      → EachOf (λ s. EachOf (IsBehind s) ds) ss
      → merged r taken (ss ++ us) (cs ++ ds) ≡ merged r taken ss cs ++ merged r taken us ds
  merged_both [] [] cs ds before after = overlaps_both cs ds
  merged_both [] (s ∷ us) cs ds before after =
      let n = before_site s ds in
      let rest = site_notes r s ++ merged r taken us (drop n ds) in
      ap (with_site s us (cs ++ ds)) (count_all s.caller (key s) cs ds before.0)
      ∙ ap₂ (λ l m. overlap_notes r taken l ++ (site_notes r s ++ merged r taken us m)) (take_all cs ds n)
      (drop_all cs ds n)
      ∙ ap (λ l. l ++ rest) (overlaps_both cs (take n ds))
      ∙ assoc (overlap_notes r taken cs) (overlap_notes r taken (take n ds)) rest
  merged_both (s ∷ ss) us cs ds before after =
      let n = before_site s cs in
      let few = count_few s.caller (key s) cs in
      let front = overlap_notes r taken (take n cs) in
      let own = site_notes r s in
      let inner = merged r taken ss (drop n cs) in
      ap (with_site s (ss ++ us) (cs ++ ds)) (count_none s.caller (key s) cs ds after.0)
      ∙ ap₂ (λ l m. overlap_notes r taken l ++ (own ++ merged r taken (ss ++ us) m)) (take_front n cs ds few)
      (drop_front n cs ds few)
      ∙ ap (λ l. front ++ (own ++ l))
      (merged_both ss us (drop n cs) ds
      (all_drop us n cs before) after.1)
      ∙ ap (λ l. front ++ l) (sym (assoc own inner (merged r taken us ds)))
      ∙ sym (assoc front (own ++ inner) (merged r taken us ds))
