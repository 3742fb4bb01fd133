-- What the lowered tree writes.
use Rattle.sq_cells.specs.Machine.{Form, Node}
use Rattle.std.proofs.Common.{◌≡◌, ℕ, zero, suc, ◌<◌, Bool, true, false, refl, sym, ap, ◌∙◌, arith, ◌⊎◌, inl, inr}
use Rattle.std.proofs.Common.{⊎_elim}
use Rattle.sq_cells.specs.Cells.{Spot, spot}
use Rattle.sq_cells.specs.Tree.{Tree, Writes}
use Rattle.sq_cells.specs.Work.{Mode, Input, Output, Both, Local, Reduced, Place, Buffer, InPlace, Held, Array, Work}
use Rattle.sq_cells.specs.Work.{Call, returned, reads, is_private, is_reduced}
use Rattle.sq_cells.specs.Lowered.{Layout, node_of, own, pick, stays, in_place, held, layout, source, bring, clear}
use Rattle.sq_cells.specs.Lowered.{give_back, take_one, leave_one, beside, call_tree, IsIn, Scratch, Sets}
use Rattle.sq_cells.specs.Lowered.{Gathers, CallFits}
use Rattle.sq_cells.proofs.Access.{private_true, returned_from, place_cases}

pub beside_writes : (n : ℕ) (f : ℕ → Tree) (p : Spot) → Writes (beside n f) p → (i : ℕ) × (i < n) × Writes (f i) p
beside_writes zero f p h = absurd h
beside_writes (suc n) f p h = ⊎_elim (λ a. let g = beside_writes n f p a in (g.0, omega (arith, g.1), g.2))
    (λ b. (n, omega arith, b)) h

-- a cell that a call may write: of a buffer, or of a returned array
abbrev pub Brought : Mode → Bool → Type 0
Brought m b = (b ≡ false) ⊎ (returned m ≡ true)

pub bring_writes : (m : Mode) (b : Bool) (n : ℕ) (from to : ℕ → Spot) (p : Spot) → Writes (bring m b n from to) p
    → (k : ℕ) × (k < n) × (to k ≡ p) × Brought m b
bring_writes Input true n from to p h = absurd h
bring_writes Input false n from to p h = (h.0, h.1, h.2, inl refl)
bring_writes Output b n from to p h = (h.0, h.1, h.2, inr refl)
bring_writes Both true n from to p h = absurd h
bring_writes Both false n from to p h = (h.0, h.1, h.2, inl refl)
bring_writes Local b n from to p h = absurd h
bring_writes (Reduced op) true n from to p h = absurd h
bring_writes (Reduced op) false n from to p h = (h.0, h.1, h.2, inl refl)

pub clear_writes : (m : Mode) (n : ℕ) (to : ℕ → Spot) (p : Spot) → Writes (clear m n to) p → (k : ℕ) × (k < n)
    × (to k ≡ p) × (m ≡ Local)
clear_writes Input n to p h = absurd h
clear_writes Output n to p h = absurd h
clear_writes Both n to p h = absurd h
clear_writes Local n to p h = (h.0, h.1, h.2, refl)
clear_writes (Reduced op) n to p h = absurd h

pub give_writes : (m : Mode) (b : Bool) (n : ℕ) (from to : ℕ → Spot) (p : Spot) → Writes (give_back m b n from to) p
    → (k : ℕ) × (k < n) × (to k ≡ p) × ((returned m ≡ true) ⊎ (is_reduced m ≡ true)) × (b ≡ false)
give_writes Input b n from to p h = absurd h
give_writes Output true n from to p h = absurd h
give_writes Output false n from to p h = (h.0, h.1, h.2, inl refl, refl)
give_writes Both true n from to p h = absurd h
give_writes Both false n from to p h = (h.0, h.1, h.2, inl refl, refl)
give_writes Local b n from to p h = absurd h
give_writes (Reduced op) true n from to p h = absurd h
give_writes (Reduced op) false n from to p h = (h.0, h.1, h.2, inr refl, refl)

pub take_writes : (m : Mode) (b : Bool) (n : ℕ) (from to : ℕ → Spot) (p : Spot) → Writes (take_one m b n from to) p
    → (k : ℕ) × (k < n) × (to k ≡ p) × (reads m ≡ true) × (b ≡ true)
take_writes m false n from to p h = absurd h
take_writes Input true n from to p h = (h.0, h.1, h.2, refl, refl)
take_writes Output true n from to p h = absurd h
take_writes Both true n from to p h = (h.0, h.1, h.2, refl, refl)
take_writes Local true n from to p h = absurd h
take_writes (Reduced op) true n from to p h = absurd h

pub leave_writes : (m : Mode) (b : Bool) (n : ℕ) (from to : ℕ → Spot) (p : Spot) → Writes (leave_one m b n from to) p
    → (k : ℕ) × (k < n) × (to k ≡ p) × (returned m ≡ true) × (b ≡ true)
leave_writes m false n from to p h = absurd h
leave_writes Input true n from to p h = absurd h
leave_writes Output true n from to p h = (h.0, h.1, h.2, refl, refl)
leave_writes Both true n from to p h = (h.0, h.1, h.2, refl, refl)
leave_writes Local true n from to p h = absurd h
leave_writes (Reduced op) true n from to p h = absurd h

pub held_true : (a : Place) → held a ≡ true → a ≡ Held
held_true Buffer e = cc
held_true InPlace e = cc
held_true Held e = refl

pub buffer_from : (a : Place) → stays a ≡ false → a ≡ Buffer
buffer_from Buffer e = refl
buffer_from InPlace e = cc
buffer_from Held e = cc

abbrev pub Changes : Work → (node : Node) (kid : ℕ) → Layout → Spot → Type 0
Changes w node kid at p = ((l : Spot) × Sets w node kid at l p)
    ⊎ (((l : Spot) × Gathers w node kid at l p) ⊎ Scratch w node kid p)

module _ (form : Form) (n : ℕ) (lower : Bool) (arrays : ℕ → Array) (w : Work) (node : Node) (kid : ℕ) (at : Layout)
    (fits : CallFits n arrays w (node_of lower node kid)) where
  abbrev pub inner : Layout
  inner = layout (node_of lower node kid) form arrays at

  abbrev pub from : Layout
  from = source (node_of lower node kid) form arrays at

  pub same_place : (l : Spot) → stays (arrays l.area).place ≡ true → inner l ≡ from l
  same_place l e = go (arrays l.area).place e
    where
      go : (a : Place) → stays a ≡ true
          → pick (in_place a) (at ((arrays l.area).block l.index)) (own (node_of lower node kid) form l)
          ≡ pick (held a) (own (node_of lower node kid) form l) (at ((arrays l.area).block l.index))
      go Buffer e = cc
      go InPlace e = refl
      go Held e = refl

  pub inner_buffer : (l : Spot) → (arrays l.area).place ≡ Buffer → inner l ≡ own (node_of lower node kid) form l
  inner_buffer l e = ap (λ a. pick (in_place a) (at ((arrays l.area).block l.index))
      (own (node_of lower node kid) form l)) e

  pub from_buffer : (l : Spot) → (arrays l.area).place ≡ Buffer → from l ≡ at ((arrays l.area).block l.index)
  from_buffer l e = ap (λ a. pick (held a) (own (node_of lower node kid) form l) (at ((arrays l.area).block l.index))) e

  pub written_cell : (l : Spot) (p : Spot) → IsIn n arrays l
      → Brought (arrays l.area).mode (stays (arrays l.area).place) → inner l ≡ p
      → Changes (Call form lower n arrays w) node kid at p
  written_cell l p i h e = go (place_cases (arrays l.area).place) h
    where
      go : ((arrays l.area).place ≡ Buffer) ⊎ (stays (arrays l.area).place ≡ true)
          → Brought (arrays l.area).mode (stays (arrays l.area).place)
          → Changes (Call form lower n arrays w) node kid at p
      go (inl b) g = inr (inr (inl (l, i, b, sym (inner_buffer l b) ∙ e)))
      go (inr b) (inl f) = absurd (cc)
      go (inr b) (inr r) = inl ((arrays l.area).block l.index, (l, i, r, refl, sym (same_place l b) ∙ e))

  pub stays_public : (l : Spot) → l.area < n → stays (arrays l.area).place ≡ true → is_private (arrays l.area).mode
      ≡ false
  stays_public l lt b = go (is_private (arrays l.area).mode) refl
    where
      bad : (a : Place) → a ≡ Buffer → stays a ≡ true → ⊥
      bad Buffer e f = cc
      bad InPlace e f = cc
      bad Held e f = cc

      go : (x : Bool) → is_private (arrays l.area).mode ≡ x → is_private (arrays l.area).mode ≡ false
      go true e = absurd (bad (arrays l.area).place (fits.private_own l.area lt e) b)
      go false e = e

  body_writes : (p : Spot) → Changes w (node_of lower node kid) 0 inner p
      → Changes (Call form lower n arrays w) node kid at p
  body_writes p (inr (inl h)) = absurd (fits.closed inner h.0 p h.1)
  body_writes p (inr (inr h)) = inr (inr (inr h))
  body_writes p (inl h) =
      let l = h.0 in
      let g = fits.inside inner l p (inr h.1) in
      let wr = fits.permitted inner l p h.1 in
      ⊎_elim
      (λ b. inr (inr (inl (l, g.0, b, sym (inner_buffer l b) ∙ g.1))))
      (λ b. written_cell l p g.0 (inr (returned_from (arrays l.area).mode wr (stays_public l g.0.0 b))) g.1)
      (place_cases (arrays l.area).place)

  pub call_writes : (body : Tree) → ((p : Spot) → Writes body p → Changes w (node_of lower node kid) 0 inner p)
      → (p : Spot) → Writes (call_tree n arrays at inner body) p → Changes (Call form lower n arrays w) node kid at p
  call_writes body ih p (inl h) =
      let a = beside_writes n _ p h in
      let b = bring_writes (arrays a.0).mode (stays (arrays a.0).place) (arrays a.0).size _ _ p a.2 in
      written_cell (spot a.0 b.0) p (a.1, b.1) b.3 b.2
  call_writes body ih p (inr (inl (inl h))) =
      let a = beside_writes n _ p h in
      let b = clear_writes (arrays a.0).mode (arrays a.0).size _ p a.2 in
      let e = fits.private_own a.0 a.1 (private_true (arrays a.0).mode (inl b.3)) in
      inr (inr (inl (spot a.0 b.0, (a.1, b.1), e, sym (inner_buffer (spot a.0 b.0) e) ∙ b.2)))
  call_writes body ih p (inr (inl (inr h))) = body_writes p (ih p h)
  call_writes body ih p (inr (inr h)) =
      let a = beside_writes n _ p h in
      let b = give_writes (arrays a.0).mode (stays (arrays a.0).place) (arrays a.0).size _ _ p a.2 in
      ⊎_elim (λ r. inl (
        (arrays a.0).block b.0,
        (spot a.0 b.0, (a.1, b.1), r, refl, from_buffer (spot a.0 b.0) (buffer_from (arrays a.0).place b.4) ∙ b.2),
      ))
      (λ r. inr (inl ((arrays a.0).block b.0, (spot a.0 b.0, (a.1, b.1), r, refl, b.2)))) b.3
