-- Arrays that a loop holds: they are taken to their buffers before it, and left in their blocks after it.
use Rattle.std.proofs.Common.{◌≡◌, ◌≢◌, ℕ, zero, suc, ◌<◌, ◌≤◌, Bool, true, false, eqb, None, refl, sym, ap, ◌∙◌, subst}
use Rattle.std.proofs.Common.{arith, List, ◌⊎◌, inl, inr, ⊎_elim, eqb-true, eq-eqb}
use Rattle.sq_cells.specs.Cells.{Spot, spot, State}
use Rattle.sq_cells.specs.Tree.{Tree, Seq, After, go_on, run, Writes}
use Rattle.sq_cells.specs.Work.{Mode, Input, Output, Both, Local, Reduced, Held, Array, Work, Hold, Outcome, Ends}
use Rattle.sq_cells.specs.Work.{Traps, returned, reads, meaning}
use Rattle.sq_cells.specs.Machine.{Form, Node, child_of}
use Rattle.sq_cells.specs.Lowered.{Layout, own, held, take_one, leave_one, beside, takes, leaves, IsIn, HeldCell}
use Rattle.sq_cells.specs.Lowered.{Scratch, Needs, Sets, Gathers, HoldFits}
use Rattle.sq_cells.specs.Correct.{Follows, Meets}
use Rattle.sq_cells.proofs.Cells.{put_in}
use Rattle.sq_cells.proofs.Trees.{run_frame}
use Rattle.sq_cells.proofs.Access.{bool_cases, held_cases, is_held_cell, end_or_below, one_array}
use Rattle.sq_cells.proofs.Footprint.{take_writes, leave_writes, held_true}
use Rattle.sq_cells.proofs.Calls.{beside_none, seq_run}

take_none : (m : Mode) (b : Bool) (n : ℕ) (source to : ℕ → Spot) (s : State) → (run (take_one m b n source to) s).trap
    ≡ None
take_none m false n source to s = refl
take_none Input true n source to s = refl
take_none Output true n source to s = refl
take_none Both true n source to s = refl
take_none Local true n source to s = refl
take_none (Reduced op) true n source to s = refl

leave_none : (m : Mode) (b : Bool) (n : ℕ) (source to : ℕ → Spot) (s : State) → (run (leave_one m b n source to) s).trap
    ≡ None
leave_none m false n source to s = refl
leave_none Input true n source to s = refl
leave_none Output true n source to s = refl
leave_none Both true n source to s = refl
leave_none Local true n source to s = refl
leave_none (Reduced op) true n source to s = refl

take_value : (m : Mode) (n : ℕ) (source to : ℕ → Spot) (s : State) (k : ℕ) → reads m ≡ true → k < n
    → ((j : ℕ) → j < n → to j ≡ to k → j ≡ k) → (run (take_one m true n source to) s).mem (to k) ≡ s (source k)
take_value Input n source to s k r lt h = put_in n to (λ k. s (source k)) s k lt h
take_value Output n source to s k r lt h = cc
take_value Both n source to s k r lt h = put_in n to (λ k. s (source k)) s k lt h
take_value Local n source to s k r lt h = cc
take_value (Reduced op) n source to s k r lt h = cc

leave_value : (m : Mode) (n : ℕ) (source to : ℕ → Spot) (s : State) (k : ℕ) → returned m ≡ true → k < n
    → ((j : ℕ) → j < n → to j ≡ to k → j ≡ k) → (run (leave_one m true n source to) s).mem (to k) ≡ s (source k)
leave_value Input n source to s k r lt h = cc
leave_value Output n source to s k r lt h = put_in n to (λ k. s (source k)) s k lt h
leave_value Both n source to s k r lt h = put_in n to (λ k. s (source k)) s k lt h
leave_value Local n source to s k r lt h = cc
leave_value (Reduced op) n source to s k r lt h = cc

-- whether an element is of a returned array that is held
abbrev pub IsBack : ℕ → (ℕ → Array) → Spot → Type 0
IsBack n arrays l = (q : Spot) × IsIn n arrays q × ((arrays q.area).place ≡ Held)
    × (returned (arrays q.area).mode ≡ true) × ((arrays q.area).block q.index ≡ l)

pub is_back : (n : ℕ) (arrays : ℕ → Array) (l : Spot) → IsBack n arrays l ⊎ (IsBack n arrays l → ⊥)
is_back zero arrays l = inr (λ h. nothing h.1.0)
  where
    nothing : {a : ℕ} → a < 0 → ⊥
    nothing h = omega arith
is_back (suc n) arrays l = go (is_back n arrays l) (held_cases (arrays n).place) (bool_cases (returned (arrays n).mode))
    (one_array (arrays n).size (arrays n).block l)
  where
    last : (q : Spot) → q.area ≡ n → IsIn (suc n) arrays q → (arrays q.area).block q.index ≡ l → (k : ℕ)
        × (k < (arrays n).size) × ((arrays n).block k ≡ l)
    last q e i f = (
      q.index,
      subst (λ x. q.index < (arrays x).size) e i.1,
      subst (λ x. (arrays x).block q.index ≡ l) e
          f,
    )

    lower : (q : Spot) → q.area < n → IsIn (suc n) arrays q → ((arrays q.area).place ≡ Held)
        → (returned (arrays q.area).mode ≡ true) → ((arrays q.area).block q.index ≡ l) → IsBack n arrays l
    lower q lt i h r f = (q, (lt, i.1), h, r, f)

    go : (IsBack n arrays l ⊎ (IsBack n arrays l → ⊥)) → ((arrays n).place ≡ Held) ⊎ (held (arrays n).place ≡ false)
        → (returned (arrays n).mode ≡ true) ⊎ (returned (arrays n).mode ≡ false)
        → (((k : ℕ) × (k < (arrays n).size) × ((arrays n).block k ≡ l))
        ⊎ (((k : ℕ) × (k < (arrays n).size) × ((arrays n).block k ≡ l)) → ⊥)) → IsBack (suc n) arrays l
        ⊎ (IsBack (suc n) arrays l → ⊥)
    go (inl h) a b c = inl (h.0, (omega (arith, h.1.0), h.1.1), h.2, h.3, h.4)
    go (inr h) (inl a) (inl b) (inl c) = inl (spot n c.0, (omega arith, c.1), a, b, c.2)
    go (inr h) (inl a) (inl b) (inr c)
        = inr (λ g. ⊎_elim (λ e. c (last g.0 e g.1 g.4)) (λ e. h (lower g.0 e g.1 g.2 g.3 g.4))
        (end_or_below g.0.area n g.1.0))
    go (inr h) (inl a) (inr b) c = inr
        (λ g. ⊎_elim (λ e. let z : returned (arrays n).mode ≡ true
        = subst (λ x. returned (arrays x).mode ≡ true) e g.3 in cc) (λ e. h (lower g.0 e g.1 g.2 g.3 g.4))
        (end_or_below g.0.area n g.1.0))
    go (inr h) (inr a) b c = inr (λ g. ⊎_elim
        (λ e. let z : held (arrays n).place ≡ true = ap held (subst (λ x. (arrays x).place ≡ Held) e g.2) in cc)
        (λ e. h (lower g.0 e g.1 g.2 g.3 g.4)) (end_or_below g.0.area n g.1.0))

module _ (form : Form) (n : ℕ) (arrays : ℕ → Array) (w : Work) (node : Node) (kid : ℕ) (at : Layout)
    (R : Spot → Spot → Type 0) (fits : HoldFits form n arrays w node kid)
    (meets : Meets R (Hold form n arrays w) node kid at) where
  abbrev pub cell : Layout
  cell = own (child_of node kid) form

  abbrev pub elem : Layout
  elem q = (arrays q.area).block q.index

  abbrev pub IsHeld : Spot → Type 0
  IsHeld q = IsIn n arrays q × ((arrays q.area).place ≡ Held)

  -- inside the loop: a held array's elements stand in its buffer, those of a returned one there alone
  abbrev pub Within : Spot → Spot → Type 0
  Within l p = (R l p × (IsBack n arrays l → ⊥))
      ⊎ ((q : Spot) × IsHeld q × (reads (arrays q.area).mode ≡ true) × (elem q ≡ l) × (cell q ≡ p))

  abbrev pub All : Spot → Spot → Type 0
  All l p = R l p ⊎ Sets (Hold form n arrays w) node kid at l p

  pub not_held : (l p : Spot) → All l p → (q : Spot) → IsHeld q → cell q ≡ p → ⊥
  not_held l p h q i e = meets.apart l p h (inl (q, i.0, i.1, e))

  pub sets_back : (q : Spot) → IsHeld q → returned (arrays q.area).mode ≡ true
      → Sets (Hold form n arrays w) node kid at (elem q) (at (elem q))
  sets_back q i r = inr (q, i.0, i.1, r, refl, refl)

  -- what is read or set at a held cell is the cell's element
  held_read : (l p : Spot) → Needs w node kid at l p → (c : HeldCell (child_of node kid) form n arrays p)
      → (elem c.0 ≡ l) × (reads (arrays c.0.area).mode ≡ true)
  held_read l p h c = ⊎_elim (λ g. g)
      (λ e. absurd (meets.apart l p (inl (meets.cover l p (inl (h, inr (e ∙ c.3))))) (inl c)))
      (fits.read_held at l c.0 c.1 c.2 (subst (λ x. Needs w node kid at l x) (sym c.3) h))

  held_set : (l p : Spot) → Sets w node kid at l p → (c : HeldCell (child_of node kid) form n arrays p) → (elem c.0 ≡ l)
      × (returned (arrays c.0.area).mode ≡ true)
  held_set l p h c = ⊎_elim (λ g. g) (λ e. absurd (meets.apart l p (inr (inl (h, inr (e ∙ c.3)))) (inl c)))
      (fits.set_held at l c.0 c.1 c.2 (subst (λ x. Sets w node kid at l x) (sym c.3) h))

  pub within_meets : Meets Within w node kid at
  within_meets = record {
    cover = λ l p h. cover l p h (is_held_cell (child_of node kid) form n arrays p);
    one = λ l p p' h h'. one l p p' h (is_held_cell (child_of node kid) form n arrays p) h';
    clear = λ l l' p h h'. clear l l' p h (is_held_cell (child_of node kid) form n arrays p) h';
    apart = λ l p h x. apart l p h x;
    aside = λ l l' p h x. aside l l' p h x;
    sums = λ l l' p h h'. meets.sums l l' p h h';
    sum_apart = λ l p h x. meets.sum_apart l p h (inr x);
  }
    where
      cover : (l p : Spot) → Needs w node kid at l p → HeldCell (child_of node kid) form n arrays p
          ⊎ (HeldCell (child_of node kid) form n arrays p → ⊥) → Within l p
      cover l p h (inl c) = let g = held_read l p h c in inr (c.0, (c.1, c.2), g.1, g.0, c.3)
      cover l p h (inr c) = inl (
        meets.cover l p (inl (h, inl c)),
        λ b. c (
          b.0,
          b.1,
          b.2,
          sym (fits.only_held at p b.0 b.1 b.2 b.3
              (subst (λ x. Needs w node kid at x p ⊎ Sets w node kid at x p) (sym b.4) (inl h))),
        ),
      )

      one : (l p p' : Spot) → Sets w node kid at l p → HeldCell (child_of node kid) form n arrays p
          ⊎ (HeldCell (child_of node kid) form n arrays p → ⊥) → Within l p' ⊎ Sets w node kid at l p' → p ≡ p'
      one l p p' h (inl c) h' =
          let g = held_set l p h c in
          ⊎_elim
          (λ v. ⊎_elim
          (λ r. absurd (r.1 (c.0, c.1, c.2, g.1, g.0)))
          (λ q. sym c.3 ∙ ap cell (fits.distinct c.0 q.0 c.1 q.1.0 c.2 q.1.1 g.1 (g.0 ∙ sym q.3)) ∙ q.4) v)
          (λ x. sym c.3 ∙ sym (fits.only_held at p' c.0 c.1 c.2 g.1
          (subst (λ y. Needs w node kid at y p' ⊎ Sets w node kid at y p') (sym g.0) (inr x))))
          h'
      one l p p' h (inr c) (inl (inl r)) = meets.one l p p' (inl (h, inl c)) (inl r.0)
      one l p p' h (inr c) (inl (inr q)) =
          ⊎_elim
          (λ r. fits.only_held at p q.0 q.1.0 q.1.1 r
          (subst (λ y. Needs w node kid at y p ⊎ Sets w node kid at y p) (sym q.3) (inr h)) ∙ q.4)
          (λ r. absurd (fits.read_only at p q.0 q.1.0 q.1.1 r (subst (λ y. Sets w node kid at y p) (sym q.3) h)))
          (bool_cases (returned (arrays q.0.area).mode))
      one l p p' h (inr c) (inr x) =
          ⊎_elim
          (λ d. let g = held_set l p' x d in fits.only_held at p d.0 d.1 d.2 g.1
          (subst (λ y. Needs w node kid at y p ⊎ Sets w node kid at y p) (sym g.0) (inr h)) ∙ d.3)
          (λ d. meets.one l p p' (inl (h, inl c)) (inr (inl (x, inl d))))
          (is_held_cell (child_of node kid) form n arrays p')

      clear : (l l' p : Spot) → Sets w node kid at l p → HeldCell (child_of node kid) form n arrays p
          ⊎ (HeldCell (child_of node kid) form n arrays p → ⊥) → Within l' p ⊎ Sets w node kid at l' p → l ≡ l'
      clear l l' p h (inl c) h' =
          let g = held_set l p h c in
          ⊎_elim
          (λ v. ⊎_elim
          (λ r. absurd (not_held l' p (inl r.0) c.0 (c.1, c.2) c.3))
          (λ q. sym g.0 ∙ ap elem (fits.separate c.0 q.0 c.1 q.1.0 c.2 q.1.1 (c.3 ∙ sym q.4)) ∙ q.3) v)
          (λ x. sym g.0 ∙ (held_set l' p x c).0)
          h'
      clear l l' p h (inr c) (inl (inl r)) = meets.clear l l' p (inl (h, inl c)) (inl r.0)
      clear l l' p h (inr c) (inl (inr q)) = absurd (c (q.0, q.1.0, q.1.1, q.4))
      clear l l' p h (inr c) (inr x) = meets.clear l l' p (inl (h, inl c)) (inr (inl (x, inl c)))

      apart : (l p : Spot) → Within l p ⊎ Sets w node kid at l p → Scratch w node kid p → ⊥
      apart l p (inl (inl r)) x = meets.apart l p (inl r.0) (inr x)
      apart l p (inl (inr q)) x = fits.below q.0 q.1.0 q.1.1 (subst (Scratch w node kid) (sym q.4) x)
      apart l p (inr h) x = ⊎_elim (λ c. fits.below c.0 c.1 c.2 (subst (Scratch w node kid) (sym c.3) x))
          (λ c. meets.apart l p (inr (inl (h, inl c))) (inr x)) (is_held_cell (child_of node kid) form n arrays p)

      aside : (l l' p : Spot) → Within l p ⊎ Sets w node kid at l p → Gathers w node kid at l' p → ⊥
      aside l l' p (inl (inl r)) x = meets.aside l l' p (inl r.0) x
      aside l l' p (inl (inr q)) x = meets.sum_apart l' p x (inl (q.0, q.1.0, q.1.1, q.4))
      aside l l' p (inr h) x = ⊎_elim (λ c. meets.sum_apart l' p x (inl c))
          (λ c. meets.aside l l' p (inr (inl (h, inl c))) x) (is_held_cell (child_of node kid) form n arrays p)

  abbrev pub one_take : ℕ → Tree
  one_take i = take_one (arrays i).mode (held (arrays i).place) (arrays i).size (λ k. at ((arrays i).block k))
      (λ k. cell (spot i k))

  abbrev pub one_leave : ℕ → Tree
  one_leave i = leave_one (arrays i).mode (held (arrays i).place) (arrays i).size (λ k. cell (spot i k))
      (λ k. at ((arrays i).block k))

  -- two spots of two arrays
  differ : (q : Spot) (j k : ℕ) → q ≡ spot j k → q.area ≢ j → ⊥
  differ q j k e ne = ne (ap (λ x. x.area) e)

  module _ (s : State) where
    record Taken (j : ℕ) (m : State) : Type 0 where
      taken : (q : Spot) → IsHeld q → q.area < j → reads (arrays q.area).mode ≡ true → m (cell q) ≡ s (elem q)
      still : (l p : Spot) → R l p → m p ≡ s l

    took : (j : ℕ) → j ≤ n → (m : State) → ((l p : Spot) → R l p → m p ≡ s l) → Taken j (run (beside j one_take) m).mem
    took zero le m agree = record { taken = λ q i lt r. absurd (omega arith); still = agree }
    took (suc j) le m agree = next j (omega arith) (run (beside j one_take) m).mem (took j (omega arith) m agree)
      where
        next : (j : ℕ) → j < n → (m1 : State) → Taken j m1 → Taken (suc j) (run (one_take j) m1).mem
        next j lt m1 c = record {
          taken = λ q i la r. ⊎_elim (λ e. here q i r e) (λ la'. frame q i (λ e. never q e la') ∙ c.taken q i la' r)
              (end_or_below q.area j la);
          still = λ l p h. run_frame (one_take j) m1 p
              (λ x. let g = take_writes (arrays j).mode (held (arrays j).place) (arrays j).size _ _ p x in not_held l p
              (inl h) (spot j g.0) ((lt, g.1), held_true (arrays j).place g.4) g.2) ∙ c.still l p h;
        }
          where
            never : (q : Spot) → q.area ≡ j → q.area < j → ⊥
            never q e h = omega arith

            frame : (q : Spot) → IsHeld q → q.area ≢ j → (run (one_take j) m1).mem (cell q) ≡ m1 (cell q)
            frame q i ne = run_frame (one_take j) m1 (cell q)
                (λ x. let g = take_writes (arrays j).mode (held (arrays j).place) (arrays j).size _ _ (cell q) x in
                differ q j g.0 (fits.separate q (spot j g.0) i.0 (lt, g.1) i.1 (held_true (arrays j).place g.4)
                (sym g.2)) ne)

            here : (q : Spot) → IsHeld q → reads (arrays q.area).mode ≡ true → q.area ≡ j
                → (run (one_take j) m1).mem (cell q) ≡ s (elem q)
            here q i r e =
                subst (λ x. (run (one_take x) m1).mem (cell q) ≡ s (elem q)) e
                (subst (λ b. (run (take_one (arrays q.area).mode b (arrays q.area).size
                (λ k. at ((arrays q.area).block k)) (λ k. cell (spot q.area k))) m1).mem (cell q) ≡ m1 (at (elem q)))
                (sym (ap held i.1))
                (take_value (arrays q.area).mode (arrays q.area).size (λ k. at ((arrays q.area).block k))
                (λ k. cell (spot q.area k)) m1 q.index r i.0.1
                (λ k lk f. ap (λ x. x.index) (fits.separate (spot q.area k) q (i.0.0, lk) i.0 i.1 i.1 f)))
                ∙ c.still (elem q) (at (elem q)) (meets.cover _ _ (inr (q, i.0, i.1, r, refl, refl))))

    pub within_agrees : (m : State) → ((l p : Spot) → R l p → m p ≡ s l) → (l p : Spot) → Within l p
        → (run (beside n one_take) m).mem p ≡ s l
    within_agrees m agree l p (inl r) = (took n (omega arith) m agree).still l p r.0
    within_agrees m agree l p (inr q) = ap (run (beside n one_take) m).mem (sym q.4)
        ∙ (took n (omega arith) m agree).taken q.0 q.1 q.1.0.0 q.2 ∙ ap s q.3

    -- after the loop
    record Left (j : ℕ) (m : State) : Type 0 where
      given : (q : Spot) → IsHeld q → q.area < j → returned (arrays q.area).mode ≡ true → m (at (elem q)) ≡ s (elem q)
      other : (l p : Spot) → (R l p × (IsBack n arrays l → ⊥))
          ⊎ (Sets w node kid at l p × (HeldCell (child_of node kid) form n arrays p → ⊥)) → m p ≡ s l
      kept : (q : Spot) → IsHeld q → returned (arrays q.area).mode ≡ true → m (cell q) ≡ s (elem q)

    left_step : (j : ℕ) → j < n → (m : State) → Left j m → Left (suc j) (run (one_leave j) m).mem
    left_step j lt m c = record {
      given = λ q i la r. given q i la r (eqb q.area j) refl;
      other = λ l p h. run_frame (one_leave j) m p (λ x. let g = writes p x in bad l p g.0 g.1 g.2 g.3 h)
          ∙ c.other l p h;
      kept = λ q i r. run_frame (one_leave j) m (cell q)
          (λ x. let g = writes (cell q) x in not_held (elem (spot j g.0)) (cell q)
          (inr (subst (λ y. Sets (Hold form n arrays w) node kid at (elem (spot j g.0)) y) g.3
          (sets_back (spot j g.0) g.1 g.2))) q i refl) ∙ c.kept q i r;
    }
      where
        writes : (p : Spot) → Writes (one_leave j) p → (k : ℕ) × IsHeld (spot j k) × (returned (arrays j).mode ≡ true)
            × (at (elem (spot j k)) ≡ p)
        writes p x = let g = leave_writes (arrays j).mode (held (arrays j).place) (arrays j).size _ _ p x in
            (g.0, ((lt, g.1), held_true (arrays j).place g.4), g.3, g.2)

        bad : (l p : Spot) (k : ℕ) → IsHeld (spot j k) → returned (arrays j).mode ≡ true → at (elem (spot j k)) ≡ p
            → (R l p × (IsBack n arrays l → ⊥))
            ⊎ (Sets w node kid at l p × (HeldCell (child_of node kid) form n arrays p → ⊥)) → ⊥
        bad l p k i r e (inl h) = h.1 (
          spot j k,
          i.0,
          i.1,
          r,
          meets.clear (elem (spot j k)) l p
              (subst (λ y. Sets (Hold form n arrays w) node kid at (elem (spot j k)) y) e (sets_back (spot j k) i r))
              (inl h.0),
        )
        bad l p k i r e (inr h) =
            let z = meets.clear (elem (spot j k)) l p
            (subst (λ y. Sets (Hold form n arrays w) node kid at (elem (spot j k)) y) e (sets_back (spot j k) i r))
            (inr (inl (h.0, inl h.1))) in
            h.1 (
              spot j k,
              i.0,
              i.1,
              sym (fits.only_held at p (spot j k) i.0 i.1 r
                  (subst (λ y. Needs w node kid at y p ⊎ Sets w node kid at y p) (sym z) (inr h.0))),
            )

        given : (q : Spot) → IsHeld q → q.area < suc j → returned (arrays q.area).mode ≡ true → (b : Bool)
            → eqb q.area j ≡ b → (run (one_leave j) m).mem (at (elem q)) ≡ s (elem q)
        given q i la r false e =
            run_frame (one_leave j) m (at (elem q)) (λ x. let g = writes (at (elem q)) x in
            differ q j g.0 (sym (fits.distinct (spot j g.0) q g.1.0 i.0 g.1.1 i.1 g.2
            (meets.clear (elem (spot j g.0)) (elem q) (at (elem q))
            (subst (λ y. Sets (Hold form n arrays w) node kid at (elem (spot j g.0)) y) g.3
            (sets_back (spot j g.0) g.1 g.2)) (inr (sets_back q i r))))) (λ z. let y = eq-eqb q.area j z in cc))
            ∙ c.given q i (⊎_elim (λ z. absurd (let y = eq-eqb q.area j z in cc)) (λ l. l) (end_or_below q.area j la)) r
        given q i la r true e =
            subst (λ x. (run (one_leave x) m).mem (at (elem q)) ≡ s (elem q)) (eqb-true q.area j e)
            (subst (λ b. (run (leave_one (arrays q.area).mode b (arrays q.area).size (λ k. cell (spot q.area k))
            (λ k. at ((arrays q.area).block k))) m).mem (at (elem q)) ≡ m (cell q)) (sym (ap held i.1))
            (leave_value (arrays q.area).mode (arrays q.area).size (λ k. cell (spot q.area k))
            (λ k. at ((arrays q.area).block k)) m q.index r i.0.1
            (λ k lk f. ap (λ x. x.index) (fits.distinct (spot q.area k) q (i.0.0, lk) i.0 i.1 i.1 r
            (meets.clear _ _ _ (sets_back (spot q.area k) ((i.0.0, lk), i.1) r)
            (inr (subst (λ y. Sets (Hold form n arrays w) node kid at (elem q) y) (sym f) (sets_back q i r)))))))
            ∙ c.kept q i r)

    left_all : (j : ℕ) → j ≤ n → (m : State) → Left 0 m → Left j (run (beside j one_leave) m).mem
    left_all zero le m c = c
    left_all (suc j) le m c = left_step j (omega arith) (run (beside j one_leave) m).mem (left_all j (omega arith) m c)

    pub leaves_agree : (m : State) → ((l p : Spot) → Within l p ⊎ Sets w node kid at l p → m p ≡ s l) → (l p : Spot)
        → All l p → (run (beside n one_leave) m).mem p ≡ s l
    leaves_agree m agree l p h = go h
      where
        c : Left n (run (beside n one_leave) m).mem
        c = left_all n (omega arith) m (record {
          given = λ q i lt r. absurd (omega arith);
          other = λ l p h. ⊎_elim (λ x. agree l p (inl (inl x))) (λ x. agree l p (inr x.0)) h;
          kept = λ q i r. agree (elem q) (cell q) (inr (fits.all_set at q i.0 i.1 r));
        })

        back : (q : Spot) → IsHeld q → returned (arrays q.area).mode ≡ true → elem q ≡ l → at l ≡ p
            → (run (beside n one_leave) m).mem p ≡ s l
        back q i r e f = ap (run (beside n one_leave) m).mem (sym f)
            ∙ ap (λ x. (run (beside n one_leave) m).mem (at x)) (sym e) ∙ c.given q i i.0.0 r ∙ ap s e

        go : All l p → (run (beside n one_leave) m).mem p ≡ s l
        go (inl r) =
            ⊎_elim
            (λ b. back b.0 (b.1, b.2) b.3 b.4
            (ap at (sym b.4) ∙ meets.one (elem b.0) (at (elem b.0)) p (sets_back b.0 (b.1, b.2) b.3)
            (inl (subst (λ x. R x p) (sym b.4) r))))
            (λ b. c.other l p (inl (r, b)))
            (is_back n arrays l)
        go (inr (inl h)) = c.other l p (inr (h.0, λ d. not_held l p (inr (inl h)) d.0 (d.1, d.2) d.3))
        go (inr (inr q)) = back q.0 (q.1, q.2) q.3 q.4 q.5

  -- the whole
  pub hold_follows : (path : List ℕ) (body : Tree) (s : State)
      → ((m' : State) → ((l p : Spot) → Within l p → m' p ≡ s l)
      → Follows (λ l p. Within l p ⊎ Sets w node kid at l p) path (meaning w s) (run body m')) → (m : State)
      → ((l p : Spot) → R l p → m p ≡ s l)
      → Follows All path (meaning w s)
      (run (Seq (takes (child_of node kid) form n arrays at) (Seq body (leaves (child_of node kid) form n arrays at)))
      m)
  hold_follows path body s ih m agree =
      subst (Follows All path (meaning w s))
      (sym (seq_run (beside n one_take) (Seq body (beside n one_leave)) m take_is_none))
      (end (meaning w s) (run body (run (beside n one_take) m).mem)
      (ih (run (beside n one_take) m).mem (within_agrees s m agree)))
    where
      take_is_none : (run (beside n one_take) m).trap ≡ None
      take_is_none = beside_none n one_take
          (λ i lt m'. take_none (arrays i).mode (held (arrays i).place) (arrays i).size _ _ m') m

      end : (o : Outcome) (r : After) → Follows (λ l p. Within l p ⊎ Sets w node kid at l p) path o r
          → Follows All path o (go_on r.trap r.mem (run (beside n one_leave)))
      end (Traps x) r f = ap (λ o. (go_on o r.mem (run (beside n one_leave))).trap) f
      end (Ends s') r f =
          subst (λ o. Follows All path (Ends s') (go_on o r.mem (run (beside n one_leave)))) (sym f.0) (
            beside_none n one_leave (λ i lt m'. leave_none (arrays i).mode (held (arrays i).place) (arrays i).size _ _
                m') r.mem,
            leaves_agree s' r.mem f.1,
          )
