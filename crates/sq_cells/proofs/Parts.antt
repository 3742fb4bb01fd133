-- What the lowered tree puts, adds to and takes.
use Rattle.sq_cells.specs.Tree.{Target, head_of, Copy, Fill, Acc, Run, Tree, Empty, Act, Seq, Par, Writes, Puts, Adds}
use Rattle.sq_cells.specs.Tree.{Takes}
use Rattle.sq_cells.specs.Lowered.{GathersAt, GathersOf, Layout, node_of, own, pick, stays, in_place, held, layout}
use Rattle.sq_cells.specs.Lowered.{source, bring, clear, give_back, take_one, leave_one, beside, turns, outs, call_tree}
use Rattle.sq_cells.specs.Lowered.{every, tree, lane_kid, comes, starts, works, set_of, piped, piped_come, piped_work}
use Rattle.sq_cells.specs.Lowered.{piped_back, TwiceCell, PipeFits, IsIn, SumCell, Scratch, CallGathers, Needs, Sets}
use Rattle.sq_cells.specs.Lowered.{Gathers, CallFits, SumFits, Sound}
use Rattle.std.proofs.Common.{◌≡◌, ◌≢◌, ℕ, ◌<◌, Bool, true, false, eqb, refl, sym, ap, ◌∙◌, subst, List, [], ◌∷◌, ◌++◌}
use Rattle.std.proofs.Common.{◌⊎◌, inl, inr, ⊎_elim, eqb-true, Option, Some, None}
use Rattle.sq_cells.specs.Cells.{Spot, spot}
use Rattle.sq_cells.specs.Work.{Mode, Input, Output, Both, Local, Reduced, Place, Buffer, InPlace, Held, Array, Work}
use Rattle.sq_cells.specs.Work.{Nothing, Then, Each, AtOnce, Call, Hold, Reduce, Piped, Leaf, returned, reads}
use Rattle.sq_cells.specs.Work.{is_reduced}
use Rattle.sq_cells.specs.Machine.{Op, Form, Node, child_of, fan_of, lane_of, Rule}
use Rattle.sq_cells.proofs.Access.{private_true, returned_from, reads_or_returned, place_cases, is_held_cell}
use Rattle.sq_cells.proofs.Stands.{of_beside, of_pick, of_other, of_turns, of_piped}
use Rattle.sq_cells.proofs.Footprint.{Changes, Brought, held_true, buffer_from, inner, same_place, inner_buffer}
use Rattle.sq_cells.proofs.Footprint.{from_buffer, stays_public}

pub puts_beside : (n : ℕ) (f : ℕ → Tree) (p : Spot) → Puts (beside n f) p → (i : ℕ) × (i < n) × Puts (f i) p
puts_beside n f p h = of_beside Puts (λ p h. h) (λ a b p h. h) (λ a b p h. h) n f p h

pub puts_turns : (q : ℕ → Bool) (n : ℕ) (f : ℕ → Tree) (p : Spot) → Puts (turns q n f) p → (t : ℕ) × (t < n)
    × (q t ≡ true) × Puts (f t) p
puts_turns q n f p h = of_turns Puts (λ p h. h) (λ a b p h. h) (λ a b p h. h) q n f p h

pub takes_beside : (n : ℕ) (f : ℕ → Tree) (p : Spot) → Takes (beside n f) p → (i : ℕ) × (i < n) × Takes (f i) p
takes_beside n f p h = of_beside Takes (λ p h. h) (λ a b p h. h) (λ a b p h. h) n f p h

pub takes_turns : (q : ℕ → Bool) (n : ℕ) (f : ℕ → Tree) (p : Spot) → Takes (turns q n f) p → (t : ℕ) × (t < n)
    × (q t ≡ true) × Takes (f t) p
takes_turns q n f p h = of_turns Takes (λ p h. h) (λ a b p h. h) (λ a b p h. h) q n f p h

pub adds_beside : (o : Target) (n : ℕ) (f : ℕ → Tree) (p : Spot) → Adds (beside n f) o p → (i : ℕ) × (i < n)
    × Adds (f i) o p
adds_beside o n f p h = of_beside (λ t p. Adds t o p) (λ p h. h) (λ a b p h. h) (λ a b p h. h) n f p h

pub adds_turns : (o : Target) (q : ℕ → Bool) (n : ℕ) (f : ℕ → Tree) (p : Spot) → Adds (turns q n f) o p → (t : ℕ)
    × (t < n) × (q t ≡ true) × Adds (f t) o p
adds_turns o q n f p h = of_turns (λ t p. Adds t o p) (λ p h. h) (λ a b p h. h) (λ a b p h. h) q n f p h

pub bring_puts : (m : Mode) (b : Bool) (n : ℕ) (source to : ℕ → Spot) (p : Spot) → Puts (bring m b n source to) p
    → (k : ℕ) × (k < n) × (to k ≡ p) × Brought m b
bring_puts Input true n source to p h = absurd h
bring_puts Input false n source to p h = (h.0, h.1, h.2, inl refl)
bring_puts Output b n source to p h = (h.0, h.1, h.2, inr refl)
bring_puts Both true n source to p h = absurd h
bring_puts Both false n source to p h = (h.0, h.1, h.2, inl refl)
bring_puts Local b n source to p h = absurd h
bring_puts (Reduced op) true n source to p h = absurd h
bring_puts (Reduced op) false n source to p h = (h.0, h.1, h.2, inl refl)

pub bring_adds : (m : Mode) (b : Bool) (n : ℕ) (source to : ℕ → Spot) (o : Target) (p : Spot)
    → Adds (bring m b n source to) o p → ⊥
bring_adds Input true n source to o p h = h
bring_adds Input false n source to o p h = h
bring_adds Output b n source to o p h = h
bring_adds Both true n source to o p h = h
bring_adds Both false n source to o p h = h
bring_adds Local b n source to o p h = h
bring_adds (Reduced op) true n source to o p h = h
bring_adds (Reduced op) false n source to o p h = h

pub bring_takes : (m : Mode) (b : Bool) (n : ℕ) (source to : ℕ → Spot) (p : Spot) → Takes (bring m b n source to) p
    → (k : ℕ) × (k < n) × (source k ≡ p) × (reads m ≡ true) × (b ≡ false)
bring_takes Input true n source to p h = absurd h
bring_takes Input false n source to p h = (h.0, h.1, h.2, refl, refl)
bring_takes Output b n source to p h = absurd h
bring_takes Both true n source to p h = absurd h
bring_takes Both false n source to p h = (h.0, h.1, h.2, refl, refl)
bring_takes Local b n source to p h = absurd h
bring_takes (Reduced op) true n source to p h = absurd h
bring_takes (Reduced op) false n source to p h = absurd h

pub clear_puts : (m : Mode) (n : ℕ) (to : ℕ → Spot) (p : Spot) → Puts (clear m n to) p → (k : ℕ) × (k < n) × (to k ≡ p)
    × (m ≡ Local)
clear_puts Input n to p h = absurd h
clear_puts Output n to p h = absurd h
clear_puts Both n to p h = absurd h
clear_puts Local n to p h = (h.0, h.1, h.2, refl)
clear_puts (Reduced op) n to p h = absurd h

pub clear_adds : (m : Mode) (n : ℕ) (to : ℕ → Spot) (o : Target) (p : Spot) → Adds (clear m n to) o p → ⊥
clear_adds Input n to o p h = h
clear_adds Output n to o p h = h
clear_adds Both n to o p h = h
clear_adds Local n to o p h = h
clear_adds (Reduced op) n to o p h = h

pub clear_takes : (m : Mode) (n : ℕ) (to : ℕ → Spot) (p : Spot) → Takes (clear m n to) p → ⊥
clear_takes Input n to p h = h
clear_takes Output n to p h = h
clear_takes Both n to p h = h
clear_takes Local n to p h = h
clear_takes (Reduced op) n to p h = h

pub give_puts : (m : Mode) (b : Bool) (n : ℕ) (source to : ℕ → Spot) (p : Spot) → Puts (give_back m b n source to) p
    → (k : ℕ) × (k < n) × (to k ≡ p) × (returned m ≡ true) × (b ≡ false)
give_puts Input b n source to p h = absurd h
give_puts Output true n source to p h = absurd h
give_puts Output false n source to p h = (h.0, h.1, h.2, refl, refl)
give_puts Both true n source to p h = absurd h
give_puts Both false n source to p h = (h.0, h.1, h.2, refl, refl)
give_puts Local b n source to p h = absurd h
give_puts (Reduced op) true n source to p h = absurd h
give_puts (Reduced op) false n source to p h = absurd h

pub give_adds : (m : Mode) (b : Bool) (n : ℕ) (source to : ℕ → Spot) (o : Target) (p : Spot)
    → Adds (give_back m b n source to) o p → (k : ℕ) × (k < n) × (to k ≡ p) × (m ≡ Reduced o.op)
    × (to (head_of o.op k) ≡ o.head)
give_adds Input b n source to o p h = absurd h
give_adds Output true n source to o p h = absurd h
give_adds Output false n source to o p h = absurd h
give_adds Both true n source to o p h = absurd h
give_adds Both false n source to o p h = absurd h
give_adds Local b n source to o p h = absurd h
give_adds (Reduced op) true n source to o p h = absurd h
give_adds (Reduced op) false n source to o p h
    = (h.1.0, h.1.1, h.1.2, ap Reduced h.0, subst (λ x. to (head_of x h.1.0) ≡ o.head) h.0 h.1.3)

pub give_takes : (m : Mode) (b : Bool) (n : ℕ) (source to : ℕ → Spot) (p : Spot) → Takes (give_back m b n source to) p
    → (k : ℕ) × (k < n) × (source k ≡ p) × (b ≡ false)
give_takes Input b n source to p h = absurd h
give_takes Output true n source to p h = absurd h
give_takes Output false n source to p h = (h.0, h.1, h.2, refl)
give_takes Both true n source to p h = absurd h
give_takes Both false n source to p h = (h.0, h.1, h.2, refl)
give_takes Local b n source to p h = absurd h
give_takes (Reduced op) true n source to p h = absurd h
give_takes (Reduced op) false n source to p h = (h.0, h.1, h.2, refl)

pub take_puts : (m : Mode) (b : Bool) (n : ℕ) (source to : ℕ → Spot) (p : Spot) → Puts (take_one m b n source to) p
    → (k : ℕ) × (k < n) × (to k ≡ p) × (b ≡ true)
take_puts m false n source to p h = absurd h
take_puts Input true n source to p h = (h.0, h.1, h.2, refl)
take_puts Output true n source to p h = absurd h
take_puts Both true n source to p h = (h.0, h.1, h.2, refl)
take_puts Local true n source to p h = absurd h
take_puts (Reduced op) true n source to p h = absurd h

pub take_adds : (m : Mode) (b : Bool) (n : ℕ) (source to : ℕ → Spot) (o : Target) (p : Spot)
    → Adds (take_one m b n source to) o p → ⊥
take_adds m false n source to o p h = h
take_adds Input true n source to o p h = h
take_adds Output true n source to o p h = h
take_adds Both true n source to o p h = h
take_adds Local true n source to o p h = h
take_adds (Reduced op) true n source to o p h = h

pub take_takes : (m : Mode) (b : Bool) (n : ℕ) (source to : ℕ → Spot) (p : Spot) → Takes (take_one m b n source to) p
    → (k : ℕ) × (k < n) × (source k ≡ p) × (reads m ≡ true) × (b ≡ true)
take_takes m false n source to p h = absurd h
take_takes Input true n source to p h = (h.0, h.1, h.2, refl, refl)
take_takes Output true n source to p h = absurd h
take_takes Both true n source to p h = (h.0, h.1, h.2, refl, refl)
take_takes Local true n source to p h = absurd h
take_takes (Reduced op) true n source to p h = absurd h

pub leave_puts : (m : Mode) (b : Bool) (n : ℕ) (source to : ℕ → Spot) (p : Spot) → Puts (leave_one m b n source to) p
    → (k : ℕ) × (k < n) × (to k ≡ p) × (returned m ≡ true) × (b ≡ true)
leave_puts m false n source to p h = absurd h
leave_puts Input true n source to p h = absurd h
leave_puts Output true n source to p h = (h.0, h.1, h.2, refl, refl)
leave_puts Both true n source to p h = (h.0, h.1, h.2, refl, refl)
leave_puts Local true n source to p h = absurd h
leave_puts (Reduced op) true n source to p h = absurd h

pub leave_adds : (m : Mode) (b : Bool) (n : ℕ) (source to : ℕ → Spot) (o : Target) (p : Spot)
    → Adds (leave_one m b n source to) o p → ⊥
leave_adds m false n source to o p h = h
leave_adds Input true n source to o p h = h
leave_adds Output true n source to o p h = h
leave_adds Both true n source to o p h = h
leave_adds Local true n source to o p h = h
leave_adds (Reduced op) true n source to o p h = h

pub leave_takes : (m : Mode) (b : Bool) (n : ℕ) (source to : ℕ → Spot) (p : Spot) → Takes (leave_one m b n source to) p
    → (k : ℕ) × (k < n) × (source k ≡ p) × (b ≡ true)
leave_takes m false n source to p h = absurd h
leave_takes Input true n source to p h = absurd h
leave_takes Output true n source to p h = (h.0, h.1, h.2, refl)
leave_takes Both true n source to p h = (h.0, h.1, h.2, refl)
leave_takes Local true n source to p h = absurd h
leave_takes (Reduced op) true n source to p h = absurd h

abbrev pub Mods : Work → (node : Node) (kid : ℕ) → Layout → Spot → Type 0
Mods w node kid at p = ((l : Spot) × Sets w node kid at l p) ⊎ Scratch w node kid p

abbrev pub Touch : Work → (node : Node) (kid : ℕ) → Layout → Spot → Type 0
Touch w node kid at p = ((l : Spot) × (Needs w node kid at l p ⊎ Sets w node kid at l p)) ⊎ Scratch w node kid p

module _ (form : Form) (n : ℕ) (lower : Bool) (arrays : ℕ → Array) (w : Work) (node : Node) (kid : ℕ) (at : Layout)
    (fits : CallFits n arrays w (node_of lower node kid)) where
  abbrev to : Layout
  to = inner form n lower arrays w node kid at fits

  own_cell : (l : Spot) (p : Spot) → IsIn n arrays l → (arrays l.area).place ≡ Buffer → to l ≡ p
      → Scratch (Call form lower n arrays w) node kid p
  own_cell l p i b e = inl (l, i, b, sym (inner_buffer form n lower arrays w node kid at fits l b) ∙ e)

  mod_cell : (l : Spot) (p : Spot) → IsIn n arrays l → Brought (arrays l.area).mode (stays (arrays l.area).place) → to l
      ≡ p → Mods (Call form lower n arrays w) node kid at p
  mod_cell l p i h e = go (place_cases (arrays l.area).place) h
    where
      go : ((arrays l.area).place ≡ Buffer) ⊎ (stays (arrays l.area).place ≡ true)
          → Brought (arrays l.area).mode (stays (arrays l.area).place) → Mods (Call form lower n arrays w) node kid at p
      go (inl b) g = inr (own_cell l p i b e)
      go (inr b) (inl f) = absurd (cc)
      go (inr b) (inr r) = inl (
        (arrays l.area).block l.index,
        (l, i, r, refl, sym (same_place form n lower arrays w node kid at fits l b) ∙ e),
      )

  touch_cell : (l : Spot) (p : Spot) → IsIn n arrays l → to l ≡ p → Touch (Call form lower n arrays w) node kid at p
  touch_cell l p i e = go (place_cases (arrays l.area).place)
    where
      go : ((arrays l.area).place ≡ Buffer) ⊎ (stays (arrays l.area).place ≡ true)
          → Touch (Call form lower n arrays w) node kid at p
      go (inl b) = inr (own_cell l p i b e)
      go (inr b) =
          let z = sym (same_place form n lower arrays w node kid at fits l b) ∙ e in
          inl (
            (arrays l.area).block l.index,
            ⊎_elim (λ r. inl (l, i, r, refl, z)) (λ r. inr (l, i, r, refl, z))
                (reads_or_returned (arrays l.area).mode (stays_public form n lower arrays w node kid at fits l i.0 b)),
          )

  body_mods : (p : Spot) → Mods w (node_of lower node kid) 0 to p → Mods (Call form lower n arrays w) node kid at p
  body_mods p (inr h) = inr (inr h)
  body_mods p (inl h) =
      let g = fits.inside to h.0 p (inr h.1) in
      ⊎_elim
      (λ b. inr (own_cell h.0 p g.0 b g.1))
      (λ b. mod_cell h.0 p g.0 (inr
      (returned_from (arrays h.0.area).mode (fits.permitted to h.0 p h.1)
      (stays_public form n lower arrays w node kid at fits h.0 g.0.0 b))) g.1)
      (place_cases (arrays h.0.area).place)

  pub call_puts : (body : Tree) → ((p : Spot) → Puts body p → Mods w (node_of lower node kid) 0 to p) → (p : Spot)
      → Puts (call_tree n arrays at to body) p → Mods (Call form lower n arrays w) node kid at p
  call_puts body ih p (inl h) = let a = puts_beside n _ p h in let b
      = bring_puts (arrays a.0).mode (stays (arrays a.0).place) (arrays a.0).size _ _ p a.2 in mod_cell (spot a.0 b.0) p
      (a.1, b.1) b.3 b.2
  call_puts body ih p (inr (inl (inl h))) = let a = puts_beside n _ p h in let b
      = clear_puts (arrays a.0).mode (arrays a.0).size _ p a.2 in inr
      (own_cell (spot a.0 b.0) p (a.1, b.1) (fits.private_own a.0 a.1 (private_true (arrays a.0).mode (inl b.3))) b.2)
  call_puts body ih p (inr (inl (inr h))) = body_mods p (ih p h)
  call_puts body ih p (inr (inr h)) = let a = puts_beside n _ p h in let b
      = give_puts (arrays a.0).mode (stays (arrays a.0).place) (arrays a.0).size _ _ p a.2 in inl (
        (arrays a.0).block b.0,
        (
          spot a.0 b.0,
          (a.1, b.1),
          b.3,
          refl,
          from_buffer form n lower arrays w node kid at fits
              (spot a.0 b.0) (buffer_from (arrays a.0).place b.4) ∙ b.2,
        ),
      )

  pub call_adds : (body : Tree) (o : Target)
      → ((p : Spot) → Adds body o p → GathersAt w to o p ⊎ Mods w (node_of lower node kid) 0 to p)
      → ((p : Spot) → GathersAt w to o p → ⊥) → (p : Spot) → Adds (call_tree n arrays at to body) o p
      → GathersAt (Call form lower n arrays w) at o p ⊎ Mods (Call form lower n arrays w) node kid at p
  call_adds body o ih closed p (inl h) = let a
      = adds_beside o n _ p h in absurd
      (bring_adds (arrays a.0).mode (stays (arrays a.0).place) (arrays a.0).size _ _ o p a.2)
  call_adds body o ih closed p (inr (inl (inl h))) = let a
      = adds_beside o n _ p h in absurd (clear_adds (arrays a.0).mode (arrays a.0).size _ o p a.2)
  call_adds body o ih closed p (inr (inl (inr h)))
      = ⊎_elim (λ g. absurd (closed p g)) (λ g. inr (body_mods p g)) (ih p h)
  call_adds body o ih closed p (inr (inr h)) = let a = adds_beside o n _ p h in let b
      = give_adds (arrays a.0).mode (stays (arrays a.0).place) (arrays a.0).size _ _ o p a.2 in inl (
        (arrays a.0).block b.0,
        (arrays a.0).block (head_of o.op b.0),
        (spot a.0 b.0, (a.1, b.1), b.3, refl, refl),
        b.2,
        b.4,
      )

  pub call_takes : (body : Tree) → ((p : Spot) → Takes body p → Touch w (node_of lower node kid) 0 to p) → (p : Spot)
      → Takes (call_tree n arrays at to body) p → Touch (Call form lower n arrays w) node kid at p
  call_takes body ih p (inl h) = let a = takes_beside n _ p h in let b
      = bring_takes (arrays a.0).mode (stays (arrays a.0).place) (arrays a.0).size _ _ p a.2 in inl (
        (arrays a.0).block b.0,
        inl (
          spot a.0 b.0,
          (a.1, b.1),
          b.3,
          refl,
          from_buffer form n lower arrays w node kid at
              fits (spot a.0 b.0) (buffer_from (arrays a.0).place b.4) ∙ b.2,
        ),
      )
  call_takes body ih p (inr (inl (inl h))) = let a
      = takes_beside n _ p h in absurd (clear_takes (arrays a.0).mode (arrays a.0).size _ p a.2)
  call_takes body ih p (inr (inl (inr h)))
      = ⊎_elim (λ g. let i = fits.inside to g.0 p g.1 in touch_cell g.0 p i.0 i.1) (λ g. inr (inr g)) (ih p h)
  call_takes body ih p (inr (inr h)) = let a = takes_beside n _ p h in let b
      = give_takes (arrays a.0).mode (stays (arrays a.0).place) (arrays a.0).size _ _ p a.2 in inr
      (own_cell (spot a.0 b.0) p (a.1, b.1) (buffer_from (arrays a.0).place b.3) b.2)

-- one iteration of a taken loop
module _ (key : Form) (c : ℕ) (arrays : ℕ → Array) (w : Work) (node : Node) (kid : ℕ) (at : Layout)
    (fits : CallFits c arrays w (child_of node kid)) (low : (i : ℕ) → i < c → in_place (arrays i).place ≡ false)
    (plain : (i : ℕ) → i < c → is_reduced (arrays i).mode ≡ false) where
  abbrev pub One : Work
  One = Call key true c arrays w

  abbrev pub lay : Layout
  lay = layout (child_of node kid) key arrays at

  pub place_two : (i : ℕ) → i < c → ((arrays i).place ≡ Buffer) ⊎ ((arrays i).place ≡ Held)
  place_two i li = go (arrays i).place (low i li)
    where
      go : (a : Place) → in_place a ≡ false → (a ≡ Buffer) ⊎ (a ≡ Held)
      go Buffer e = inl refl
      go InPlace e = cc
      go Held e = inr refl

  pub buffer_one : (i : ℕ) → i < c → held (arrays i).place ≡ false → (arrays i).place ≡ Buffer
  buffer_one i li e = ⊎_elim (λ b. b) (λ b. absurd (let z : held (arrays i).place ≡ true = ap held b in cc))
      (place_two i li)

  pub lay_own : (l : Spot) → l.area < c → lay l ≡ own (child_of node kid) key l
  lay_own l li = ap (λ b. pick b (at ((arrays l.area).block l.index)) (own (child_of node kid) key l)) (low l.area li)

  pub source_held : (l : Spot) → (arrays l.area).place ≡ Held → source (child_of node kid) key arrays at l
      ≡ own (child_of node kid) key l
  source_held l e = ap (λ a. pick (held a) (own (child_of node kid) key l) (at ((arrays l.area).block l.index))) e

  pub source_buffer : (l : Spot) → (arrays l.area).place ≡ Buffer → source (child_of node kid) key arrays at l
      ≡ at ((arrays l.area).block l.index)
  source_buffer l e = ap (λ a. pick (held a) (own (child_of node kid) key l) (at ((arrays l.area).block l.index))) e

  -- a cell of a held array, and of one that comes back
  abbrev pub HeldAt : Spot → Type 0
  HeldAt p = (q : Spot) × IsIn c arrays q × ((arrays q.area).place ≡ Held) × (own (child_of node kid) key q ≡ p)

  abbrev pub HeldBack : Spot → Type 0
  HeldBack p = (q : Spot) × IsIn c arrays q × ((arrays q.area).place ≡ Held) × (returned (arrays q.area).mode ≡ true)
      × (own (child_of node kid) key q ≡ p)

  -- a place of the caller that is copied in, or out
  abbrev pub CopiedIn : Spot → Type 0
  CopiedIn p = (q : Spot) × IsIn c arrays q × ((arrays q.area).place ≡ Buffer) × (reads (arrays q.area).mode ≡ true)
      × (at ((arrays q.area).block q.index) ≡ p)

  abbrev pub CopiedOut : Spot → Type 0
  CopiedOut p = (q : Spot) × IsIn c arrays q × ((arrays q.area).place ≡ Buffer) × (returned (arrays q.area).mode ≡ true)
      × (at ((arrays q.area).block q.index) ≡ p)

  pub back_sets : (p : Spot) → HeldBack p → (l : Spot) × Sets One node kid at l p
  back_sets p h = ((arrays h.0.area).block h.0.index, (h.0, h.1, h.3, refl, source_held h.0 h.2 ∙ h.4))

  pub out_sets : (p : Spot) → (h : CopiedOut p) → Sets One node kid at ((arrays h.0.area).block h.0.index) p
  out_sets p h = (h.0, h.1, h.3, refl, source_buffer h.0 h.2 ∙ h.4)

  pub in_needs : (p : Spot) → (h : CopiedIn p) → Needs One node kid at ((arrays h.0.area).block h.0.index) p
  in_needs p h = (h.0, h.1, h.3, refl, source_buffer h.0 h.2 ∙ h.4)

  pub twice_own : (p : Spot) → TwiceCell (child_of node kid) key c arrays p → Scratch One node kid p
  twice_own p h = inl (h.0, h.1, h.2, h.4)

  bring_not_local : (m : Mode) (b : Bool) (n : ℕ) (f to : ℕ → Spot) (p : Spot) → Puts (bring m b n f to) p → m ≢ Local
  bring_not_local Input b n f to p h e = cc
  bring_not_local Output b n f to p h e = cc
  bring_not_local Both b n f to p h e = cc
  bring_not_local Local b n f to p h e = h
  bring_not_local (Reduced op) b n f to p h e = cc

  pub come_puts : (p : Spot) → Puts (comes c arrays at lay) p → TwiceCell (child_of node kid) key c arrays p
  come_puts p h =
      let a = puts_beside c _ p h in
      let b = of_other Puts (λ p h. h) (λ a b p h. h) (λ a b p h. h) (held (arrays a.0).place) _ p a.2 in
      let g = bring_puts (arrays a.0).mode (stays (arrays a.0).place) (arrays a.0).size _ _ p b.1 in (
        spot a.0 g.0,
        (a.1, g.1),
        buffer_one a.0 a.1 b.0,
        bring_not_local (arrays a.0).mode (stays (arrays a.0).place)
            (arrays a.0).size _ _ p b.1,
        sym (lay_own (spot a.0 g.0) a.1) ∙ g.2,
      )

  pub come_adds : (o : Target) (p : Spot) → Adds (comes c arrays at lay) o p → ⊥
  come_adds o p h =
      let a = adds_beside o c _ p h in
      let b = of_other (λ t p. Adds t o p) (λ p h. h) (λ a b p h. h) (λ a b p h. h) (held (arrays a.0).place) _ p a.2 in
      bring_adds (arrays a.0).mode (stays (arrays a.0).place) (arrays a.0).size _ _ o p b.1

  pub come_takes : (p : Spot) → Takes (comes c arrays at lay) p → CopiedIn p
  come_takes p h =
      let a = takes_beside c _ p h in
      let b = of_other Takes (λ p h. h) (λ a b p h. h) (λ a b p h. h) (held (arrays a.0).place) _ p a.2 in
      let g = bring_takes (arrays a.0).mode (stays (arrays a.0).place) (arrays a.0).size _ _ p b.1 in
      (spot a.0 g.0, (a.1, g.1), buffer_one a.0 a.1 b.0, g.3, g.2)

  start_puts : (p : Spot) → Puts (starts c arrays at lay) p → HeldBack p
  start_puts p h =
      let a = puts_beside c _ p h in
      let b = of_pick Puts (λ p h. h) (λ a b p h. h) (λ a b p h. h) (held (arrays a.0).place) _ p a.2 in
      let g = bring_puts (arrays a.0).mode (stays (arrays a.0).place) (arrays a.0).size _ _ p b.1 in
      let e = held_true (arrays a.0).place b.0 in (
        spot a.0 g.0,
        (a.1, g.1),
        e,
        ⊎_elim (λ x. absurd (let z : stays (arrays a.0).place ≡ true = ap stays e in cc))
            (λ x. x) g.3,
        sym (lay_own (spot a.0 g.0) a.1) ∙ g.2,
      )

  start_adds : (o : Target) (p : Spot) → Adds (starts c arrays at lay) o p → ⊥
  start_adds o p h =
      let a = adds_beside o c _ p h in
      let b = of_pick (λ t p. Adds t o p) (λ p h. h) (λ a b p h. h) (λ a b p h. h) (held (arrays a.0).place) _ p a.2 in
      bring_adds (arrays a.0).mode (stays (arrays a.0).place) (arrays a.0).size _ _ o p b.1

  start_takes : (p : Spot) → Takes (starts c arrays at lay) p → ⊥
  start_takes p h =
      let a = takes_beside c _ p h in
      let b = of_pick Takes (λ p h. h) (λ a b p h. h) (λ a b p h. h) (held (arrays a.0).place) _ p a.2 in
      let g = bring_takes (arrays a.0).mode (stays (arrays a.0).place) (arrays a.0).size _ _ p b.1 in
      let z : stays (arrays a.0).place ≡ true = ap stays (held_true (arrays a.0).place b.0) in cc

  -- a cell inside the callee
  inside_mods : (p : Spot) → Mods w (child_of node kid) 0 lay p → Scratch One node kid p ⊎ HeldBack p
  inside_mods p (inr h) = inl (inr h)
  inside_mods p (inl h) =
      let g = fits.inside lay h.0 p (inr h.1) in
      ⊎_elim
      (λ b. inl (inl (h.0, g.0, b, sym (lay_own h.0 g.0.0) ∙ g.1)))
      (λ b. inr (
        h.0,
        g.0,
        b,
        returned_from (arrays h.0.area).mode (fits.permitted lay h.0 p h.1)
            (stays_public key c true arrays w node kid at fits h.0 g.0.0 (ap stays b)),
        sym (lay_own h.0 g.0.0) ∙ g.1,
      ))
      (place_two h.0.area g.0.0)

  clear_cell : (p : Spot) → Puts (beside c (λ i. clear (arrays i).mode (arrays i).size (λ k. lay (spot i k)))) p
      → Scratch One node kid p
  clear_cell p h =
      let a = puts_beside c _ p h in
      let b = clear_puts (arrays a.0).mode (arrays a.0).size _ p a.2 in
      inl (
        spot a.0 b.0,
        (a.1, b.1),
        fits.private_own a.0 a.1 (private_true (arrays a.0).mode (inl b.3)),
        sym
            (lay_own (spot a.0 b.0) a.1) ∙ b.2,
      )

  pub work_puts : (body : Tree) → ((p : Spot) → Puts body p → Mods w (child_of node kid) 0 lay p) → (p : Spot)
      → Puts (works c arrays at lay body) p → Scratch One node kid p ⊎ HeldBack p
  work_puts body ih p (inl h) = inr (start_puts p h)
  work_puts body ih p (inr (inl h)) = inl (clear_cell p h)
  work_puts body ih p (inr (inr h)) = inside_mods p (ih p h)

  pub work_adds : (body : Tree) (o : Target)
      → ((p : Spot) → Adds body o p → GathersAt w lay o p ⊎ Mods w (child_of node kid) 0 lay p)
      → ((p : Spot) → GathersAt w lay o p → ⊥) → (p : Spot) → Adds (works c arrays at lay body) o p
      → Scratch One node kid p ⊎ HeldBack p
  work_adds body o ih closed p (inl h) = absurd (start_adds o p h)
  work_adds body o ih closed p (inr (inl h)) = let a
      = adds_beside o c _ p h in absurd (clear_adds (arrays a.0).mode (arrays a.0).size _ o p a.2)
  work_adds body o ih closed p (inr (inr h)) = ⊎_elim (λ g. absurd (closed p g)) (λ g. inside_mods p g) (ih p h)

  pub work_takes : (body : Tree) → ((p : Spot) → Takes body p → Touch w (child_of node kid) 0 lay p) → (p : Spot)
      → Takes (works c arrays at lay body) p → Scratch One node kid p ⊎ HeldAt p
  work_takes body ih p (inl h) = absurd (start_takes p h)
  work_takes body ih p (inr (inl h)) = let a
      = takes_beside c _ p h in absurd (clear_takes (arrays a.0).mode (arrays a.0).size _ p a.2)
  work_takes body ih p (inr (inr h)) = go (ih p h)
    where
      go : Touch w (child_of node kid) 0 lay p → Scratch One node kid p ⊎ HeldAt p
      go (inr g) = inl (inr g)
      go (inl g) =
          let x = fits.inside lay g.0 p g.1 in
          ⊎_elim
          (λ b. inl (inl (g.0, x.0, b, sym (lay_own g.0 x.0.0) ∙ x.1)))
          (λ b. inr (g.0, x.0, b, sym (lay_own g.0 x.0.0) ∙ x.1))
          (place_two g.0.area x.0.0)

  pub back_puts : (p : Spot) → Puts (outs c arrays at lay) p → CopiedOut p
  back_puts p h = let a = puts_beside c _ p h in let b
      = give_puts (arrays a.0).mode (stays (arrays a.0).place) (arrays a.0).size _ _ p a.2 in
      (spot a.0 b.0, (a.1, b.1), buffer_from (arrays a.0).place b.4, b.3, b.2)

  pub back_adds : (o : Target) (p : Spot) → Adds (outs c arrays at lay) o p → ⊥
  back_adds o p h = let a = adds_beside o c _ p h in let b
      = give_adds (arrays a.0).mode (stays (arrays a.0).place) (arrays a.0).size _ _ o p a.2 in let z : is_reduced
      (arrays a.0).mode ≡ true = ap is_reduced b.3 in let y = plain a.0 a.1 in cc

  give_not_local : (m : Mode) (b : Bool) (n : ℕ) (f to : ℕ → Spot) (p : Spot) → Takes (give_back m b n f to) p
      → m ≢ Local
  give_not_local Input b n f to p h e = cc
  give_not_local Output b n f to p h e = cc
  give_not_local Both b n f to p h e = cc
  give_not_local Local b n f to p h e = h
  give_not_local (Reduced op) b n f to p h e = cc

  pub back_takes : (p : Spot) → Takes (outs c arrays at lay) p → TwiceCell (child_of node kid) key c arrays p
  back_takes p h = let a = takes_beside c _ p h in let b
      = give_takes (arrays a.0).mode (stays (arrays a.0).place) (arrays a.0).size _ _ p a.2 in (
        spot a.0 b.0,
        (a.1, b.1),
        buffer_from (arrays a.0).place b.3,
        give_not_local (arrays a.0).mode
            (stays (arrays a.0).place) (arrays a.0).size _ _ p a.2,
        sym (lay_own (spot a.0 b.0) a.1) ∙ b.2,
      )

  -- all three are parts of the call
  work_mods : (p : Spot) → Scratch One node kid p ⊎ HeldBack p → Mods One node kid at p
  work_mods p (inl h) = inr h
  work_mods p (inr h) = inl (back_sets p h)

  held_touch : (p : Spot) → HeldAt p → Touch One node kid at p
  held_touch p h =
      let e = source_held h.0 h.2 ∙ h.3 in
      inl (
        (arrays h.0.area).block h.0.index,
        ⊎_elim (λ r. inl (h.0, h.1, r, refl, e)) (λ r. inr (h.0, h.1, r, refl, e))
            (reads_or_returned (arrays h.0.area).mode
            (stays_public key c true arrays w node kid at fits h.0 h.1.0 (ap stays h.2))),
      )

  pub one_mods : (body : Tree) → ((p : Spot) → Puts body p → Mods w (child_of node kid) 0 lay p) → (p : Spot)
      → Puts (comes c arrays at lay) p ⊎ (Puts (works c arrays at lay body) p ⊎ Puts (outs c arrays at lay) p)
      → Mods One node kid at p
  one_mods body ih p (inl h) = inr (twice_own p (come_puts p h))
  one_mods body ih p (inr (inl h)) = work_mods p (work_puts body ih p h)
  one_mods body ih p (inr (inr h)) = let g = back_puts p h in inl (_, out_sets p g)

  pub one_adds : (body : Tree) (o : Target)
      → ((p : Spot) → Adds body o p → GathersAt w lay o p ⊎ Mods w (child_of node kid) 0 lay p)
      → ((p : Spot) → GathersAt w lay o p → ⊥) → (p : Spot) → Adds (comes c arrays at lay) o p
      ⊎ (Adds (works c arrays at lay body) o p ⊎ Adds (outs c arrays at lay) o p) → Mods One node kid at p
  one_adds body o ih closed p (inl h) = absurd (come_adds o p h)
  one_adds body o ih closed p (inr (inl h)) = work_mods p (work_adds body o ih closed p h)
  one_adds body o ih closed p (inr (inr h)) = absurd (back_adds o p h)

  pub one_touch : (body : Tree) → ((p : Spot) → Takes body p → Touch w (child_of node kid) 0 lay p) → (p : Spot)
      → Takes (comes c arrays at lay) p ⊎ (Takes (works c arrays at lay body) p ⊎ Takes (outs c arrays at lay) p)
      → Touch One node kid at p
  one_touch body ih p (inl h) = let g = come_takes p h in inl (_, inl (in_needs p g))
  one_touch body ih p (inr (inl h)) = ⊎_elim (λ x. inr x) (λ x. held_touch p x) (work_takes body ih p h)
  one_touch body ih p (inr (inr h)) = inr (twice_own p (back_takes p h))

pub gathers_of : (w : Work) (node : Node) (kid : ℕ) (at : Layout) (o : Op) (h l : Spot) → GathersOf w o h l
    → Gathers w node kid at l (at l)
gathers_of Nothing node kid at o h l g = absurd g
gathers_of (Then a b) node kid at o h l g
    = ⊎_elim (λ x. inl (gathers_of a node kid at o h l x)) (λ x. inr (gathers_of b node kid at o h l x)) g
gathers_of (Each n w) node kid at o h l g = (g.0, g.1, gathers_of (w g.0) node kid at o h l g.2)
gathers_of (AtOnce spread n w) node kid at o h l g
    = (g.0, g.1, gathers_of (w g.0) node (lane_kid spread node kid n g.0) at o h l g.2)
gathers_of (Call form lower n arrays w) node kid at o h l g = (g.0, g.1, ap is_reduced g.2, g.3, refl)
gathers_of (Hold form n arrays w) node kid at o h l g = gathers_of w node kid at o h l g
gathers_of (Reduce op size block which spread n form lower c arrays w) node kid at o h l g = absurd g
gathers_of (Piped spread n form second c arrays w) node kid at o h l g
    = (g.0, g.1, (g.2.0, g.2.1, ap is_reduced g.2.2, g.2.3, refl))
gathers_of (Leaf code n size writes) node kid at o h l g = absurd g

pub gathers_at : (w : Work) (node : Node) (kid : ℕ) (at : Layout) (o : Target) (p : Spot) → GathersAt w at o p
    → (l : Spot) × Gathers w node kid at l p
gathers_at w node kid at o p g =
    (g.0, subst (λ x. Gathers w node kid at g.0 x) g.3 (gathers_of w node kid at o.op g.1 g.0 g.2))

pub sum_of_gathers : (op : Op) (size : ℕ) (block : ℕ → Spot) (which n : ℕ) (c : ℕ → ℕ) (arrays : ℕ → ℕ → Array)
    (at : Layout) → SumFits op size block which n c arrays → (t : ℕ) → t < n → (l p : Spot)
    → CallGathers (c t) (arrays t) at l p → SumCell size block at l p
sum_of_gathers op size block which n c arrays at fits t lt l p h =
    let q = h.0 in
    let i = h.1 in
    let e = fits.only t q.area lt i.0 h.2 in
    let lk : q.index < size = subst (λ x. q.index < x) (fits.size_is t lt)
    (subst (λ x. q.index < (arrays t x).size) e i.1) in
    (q.index, lk, sym (fits.block_is t q.index lt lk) ∙ subst (λ x. (arrays t x).block q.index ≡ l) e h.3, h.4)

sum_mods : (op : Op) (size : ℕ) (block : ℕ → Spot) (which : ℕ) (spread : Option Rule) (n : ℕ) (form : ℕ → Form)
    (lower : Bool) (c : ℕ → ℕ) (arrays : ℕ → ℕ → Array) (w : ℕ → Work) (node : Node) (kid : ℕ) (at : Layout) (p : Spot)
    → Sound (Reduce op size block which spread n form lower c arrays w) node kid → (t : ℕ) → t < n
    → Mods (Call (form t) lower (c t) (arrays t) (w t)) node (lane_kid spread node kid n t) at p
    → Mods (Reduce op size block which spread n form lower c arrays w) node kid at p
sum_mods op size block which spread n form lower c arrays w node kid at p s t lt (inl h) = inl (h.0, inl (t, lt, h.1))
sum_mods op size block which spread n form lower c arrays w node kid at p s t lt (inr h) = inr (t, lt, h)

sum_touch : (op : Op) (size : ℕ) (block : ℕ → Spot) (which : ℕ) (spread : Option Rule) (n : ℕ) (form : ℕ → Form)
    (lower : Bool) (c : ℕ → ℕ) (arrays : ℕ → ℕ → Array) (w : ℕ → Work) (node : Node) (kid : ℕ) (at : Layout) (p : Spot)
    → Sound (Reduce op size block which spread n form lower c arrays w) node kid → (t : ℕ) → t < n
    → Touch (Call (form t) lower (c t) (arrays t) (w t)) node (lane_kid spread node kid n t) at p
    → Touch (Reduce op size block which spread n form lower c arrays w) node kid at p
sum_touch op size block which spread n form lower c arrays w node kid at p s t lt (inl h)
    = inl (h.0, ⊎_elim (λ x. inl (inl (t, lt, x))) (λ x. inr (inl (t, lt, x))) h.1)
sum_touch op size block which spread n form lower c arrays w node kid at p s t lt (inr h) = inr (t, lt, h)

sum_adds : (op : Op) (size : ℕ) (block : ℕ → Spot) (which : ℕ) (spread : Option Rule) (n : ℕ) (form : ℕ → Form)
    (lower : Bool) (c : ℕ → ℕ) (arrays : ℕ → ℕ → Array) (w : ℕ → Work) (node : Node) (kid : ℕ) (at : Layout)
    (o : Target) (p : Spot) → Sound (Reduce op size block which spread n form lower c arrays w) node kid → (t : ℕ) → t
    < n → GathersAt (Call (form t) lower (c t) (arrays t) (w t)) at o p
    ⊎ Mods (Call (form t) lower (c t) (arrays t) (w t)) node (lane_kid spread node kid n t) at p
    → GathersAt (Reduce op size block which spread n form lower c arrays w) at o p
    ⊎ Mods (Reduce op size block which spread n form lower c arrays w) node kid at p
sum_adds op size block which spread n form lower c arrays w node kid at o p s t lt (inl h) = let g
    = gathers_at (Call (form t) lower (c t) (arrays t) (w t)) node (lane_kid spread node kid n t) at o p h in inr
    (inl (g.0, inr (sum_of_gathers op size block which n c arrays at s.0 t lt g.0 p g.1)))
sum_adds op size block which spread n form lower c arrays w node kid at o p s t lt (inr h)
    = inr (sum_mods op size block which spread n form lower c arrays w node kid at p s t lt h)

hold_mods : (form : Form) (n : ℕ) (arrays : ℕ → Array) (w : Work) (node : Node) (kid : ℕ) (at : Layout) (p : Spot)
    → Mods w node kid at p → Mods (Hold form n arrays w) node kid at p
hold_mods form n arrays w node kid at p (inl g)
    = ⊎_elim (λ c. inr (inl c)) (λ c. inl (g.0, inl (g.1, inl c))) (is_held_cell (child_of node kid) form n arrays p)
hold_mods form n arrays w node kid at p (inr g) = inr (inr g)

hold_touch : (form : Form) (n : ℕ) (arrays : ℕ → Array) (w : Work) (node : Node) (kid : ℕ) (at : Layout) (p : Spot)
    → Touch w node kid at p → Touch (Hold form n arrays w) node kid at p
hold_touch form n arrays w node kid at p (inl g)
    = ⊎_elim (λ c. inr (inl c)) (λ c. inl (g.0, ⊎_elim (λ x. inl (inl (x, inl c))) (λ x. inr (inl (x, inl c))) g.1))
    (is_held_cell (child_of node kid) form n arrays p)
hold_touch form n arrays w node kid at p (inr g) = inr (inr g)

pub closed_of : {n : ℕ} {arrays : ℕ → Array} {w : Work} {node : Node} → CallFits n arrays w node
    → (at : Layout) (o : Target) (p : Spot) → GathersAt w at o p → ⊥
closed_of {w = w} {node = node} fits at o p g = let x = gathers_at w node 0 at o p g in fits.closed at x.0 p x.1

-- a list of iterations of a taken loop or spread map, at child k: what it does, the call of one of its iterations does
module _ (spread : Option Rule) (n : ℕ) (form second : Form) (c : ℕ) (arrays : ℕ → ℕ → Array) (w : ℕ → Work)
    (node : Node) (kid : ℕ) (at : Layout) (path : List ℕ) (pipe : PipeFits n c arrays)
    (fits : (t : ℕ) → t < n → CallFits c (arrays t) (w t) (child_of node (lane_kid spread node kid n t))) (k : ℕ)
    (q : ℕ → Bool) (here : (t : ℕ) → q t ≡ true → lane_kid spread node kid n t ≡ k) where
  abbrev pub of_t : ℕ → Work
  of_t t = Call (set_of spread node n form second t) true c (arrays t) (w t)

  abbrev pub kid_at : ℕ → ℕ
  kid_at t = lane_kid spread node kid n t

  abbrev pub lay_at : ℕ → ℕ → Layout
  lay_at j t = layout (child_of node j) (set_of spread node n form second t) (arrays t) at

  abbrev pub body_at : ℕ → ℕ → Tree
  body_at j t = tree (w t) (child_of node j) 0 (lay_at j t) (path ++ t ∷ [])

  abbrev pub list_tree : Tree
  list_tree = piped (piped_come spread node k n form second c arrays at)
      (piped_work spread node k n form second c arrays at (body_at k))
      (piped_back spread node k n form second c arrays at) q n

  abbrev Either : (Tree → Spot → Type 0) → ℕ → ℕ → Spot → Type 0
  Either Of j t p = Of (piped_come spread node j n form second c arrays at t) p
      ⊎ (Of (piped_work spread node j n form second c arrays at (body_at j) t) p
      ⊎ Of (piped_back spread node j n form second c arrays at t) p)

  pub list_puts : ((t : ℕ) → t < n → (p : Spot) → Puts (body_at (kid_at t) t) p
      → Mods (w t) (child_of node (kid_at t)) 0 (lay_at (kid_at t) t) p) → (p : Spot) → Puts list_tree p → (t : ℕ)
      × (t < n) × (q t ≡ true) × Mods (of_t t) node (kid_at t) at p
  list_puts ih p h =
      let a = of_piped Puts (λ p h. h) (λ a b p h. h) (λ a b p h. h)
      (piped_come spread node k n form second c arrays at)
      (piped_work spread node k n form second c arrays at (body_at k))
      (piped_back spread node k n form second c arrays at) q n p h in
      let h' : Either Puts (kid_at a.0) a.0 p = subst (λ j. Either Puts j a.0 p) (sym (here a.0 a.2)) a.3 in (
        a.0,
        a.1,
        a.2,
        one_mods (set_of spread node n form second a.0) c (arrays a.0) (w a.0) node (kid_at a.0) at
            (fits a.0 a.1) (λ i li. pipe.lower a.0 i a.1 li) (λ i li. pipe.plain a.0 i a.1 li) (body_at (kid_at a.0) a.0)
            (ih a.0 a.1) p h',
      )

  pub list_adds : ((t : ℕ) → t < n → (o : Target) (p : Spot) → Adds (body_at (kid_at t) t) o p
      → GathersAt (w t) (lay_at (kid_at t) t) o p ⊎ Mods (w t) (child_of node (kid_at t)) 0 (lay_at (kid_at t) t) p)
      → (o : Target) (p : Spot) → Adds list_tree o p → (t : ℕ) × (t < n) × (q t ≡ true)
      × Mods (of_t t) node (kid_at t) at p
  list_adds ih o p h =
      let a = of_piped (λ t p. Adds t o p) (λ p h. h) (λ a b p h. h) (λ a b p h. h)
      (piped_come spread node k n form second c arrays at)
      (piped_work spread node k n form second c arrays at (body_at k))
      (piped_back spread node k n form second c arrays at) q n p h in
      let h' : Either (λ t p. Adds t o p) (kid_at a.0) a.0 p
      = subst (λ j. Either (λ t p. Adds t o p) j a.0 p) (sym (here a.0 a.2)) a.3 in (
        a.0,
        a.1,
        a.2,
        one_adds (set_of spread node n form second a.0) c (arrays a.0) (w a.0) node (kid_at a.0) at
            (fits a.0 a.1) (λ i li. pipe.lower a.0 i a.1 li) (λ i li. pipe.plain a.0 i a.1 li) (body_at (kid_at a.0) a.0) o
            (ih a.0 a.1 o) (λ q g. closed_of (fits a.0 a.1) (lay_at (kid_at a.0) a.0) o q g) p h',
      )

  pub list_takes : ((t : ℕ) → t < n → (p : Spot) → Takes (body_at (kid_at t) t) p
      → Touch (w t) (child_of node (kid_at t)) 0 (lay_at (kid_at t) t) p) → (p : Spot) → Takes list_tree p → (t : ℕ)
      × (t < n) × (q t ≡ true) × Touch (of_t t) node (kid_at t) at p
  list_takes ih p h =
      let a = of_piped Takes (λ p h. h) (λ a b p h. h) (λ a b p h. h)
      (piped_come spread node k n form second c arrays at)
      (piped_work spread node k n form second c arrays at (body_at k))
      (piped_back spread node k n form second c arrays at) q n p h in
      let h' : Either Takes (kid_at a.0) a.0 p = subst (λ j. Either Takes j a.0 p) (sym (here a.0 a.2)) a.3 in (
        a.0,
        a.1,
        a.2,
        one_touch (set_of spread node n form second a.0) c (arrays a.0) (w a.0) node (kid_at a.0) at
            (fits a.0 a.1) (λ i li. pipe.lower a.0 i a.1 li) (λ i li. pipe.plain a.0 i a.1 li) (body_at (kid_at a.0) a.0)
            (ih a.0 a.1) p h',
      )

pub tree_puts : (w : Work) (node : Node) (kid : ℕ) (at : Layout) (path : List ℕ) (p : Spot) → Sound w node kid
    → Puts (tree w node kid at path) p → Mods w node kid at p
tree_puts Nothing node kid at path p s h = absurd h
tree_puts (Then a b) node kid at path p s (inl h)
    = ⊎_elim (λ g. inl (g.0, inl g.1)) (λ g. inr (inl g)) (tree_puts a node kid at path p s.0 h)
tree_puts (Then a b) node kid at path p s (inr h)
    = ⊎_elim (λ g. inl (g.0, inr g.1)) (λ g. inr (inr g)) (tree_puts b node kid at path p s.1 h)
tree_puts (Each n w) node kid at path p s h = let a
    = puts_turns every n _ p h in ⊎_elim (λ g. inl (g.0, (a.0, a.1, g.1))) (λ g. inr (a.0, a.1, g))
    (tree_puts (w a.0) node kid at (path ++ a.0 ∷ []) p (s a.0 a.1) a.3)
tree_puts (AtOnce None n w) node kid at path p s h = let a
    = puts_turns every n _ p h in ⊎_elim (λ g. inl (g.0, (a.0, a.1, g.1))) (λ g. inr (a.0, a.1, g))
    (tree_puts (w a.0) node kid at (path ++ a.0 ∷ []) p (s.1 a.0 a.1).1 a.3)
tree_puts (AtOnce (Some rule) n w) node kid at path p s h =
    let d = puts_beside (fan_of node) _ p h in
    let a = puts_turns (λ t. eqb (lane_of rule node n t) d.0) n _ p d.2 in
    let e : lane_of rule node n a.0 ≡ d.0 = eqb-true _ _ a.2 in
    let h' : Puts (tree (w a.0) node (lane_of rule node n a.0) at (path ++ a.0 ∷ [])) p
    = subst (λ k. Puts (tree (w a.0) node k at (path ++ a.0 ∷ [])) p) (sym e) a.3 in
    ⊎_elim (λ g. inl (g.0, (a.0, a.1, g.1))) (λ g. inr (a.0, a.1, g))
    (tree_puts (w a.0) node (lane_of rule node n a.0) at (path ++ a.0 ∷ []) p (s.1 a.0 a.1).1 h')
tree_puts (Call form lower n arrays w) node kid at path p s h
    = call_puts form n lower arrays w node kid at s.0 _
    (λ q g. tree_puts w (node_of lower node kid) 0 (layout (node_of lower node kid) form arrays at) path q s.2 g) p h
tree_puts (Hold form n arrays w) node kid at path p s (inl h) = let a = puts_beside n _ p h in let b
    = take_puts (arrays a.0).mode (held (arrays a.0).place) (arrays a.0).size _ _ p a.2 in inr
    (inl (spot a.0 b.0, (a.1, b.1), held_true (arrays a.0).place b.3, b.2))
tree_puts (Hold form n arrays w) node kid at path p s (inr (inl h))
    = hold_mods form n arrays w node kid at p (tree_puts w node kid at path p s.1 h)
tree_puts (Hold form n arrays w) node kid at path p s (inr (inr h)) = let a = puts_beside n _ p h in let b
    = leave_puts (arrays a.0).mode (held (arrays a.0).place) (arrays a.0).size _ _ p a.2 in inl
    ((arrays a.0).block b.0, inr (spot a.0 b.0, (a.1, b.1), held_true (arrays a.0).place b.4, b.3, refl, b.2))
tree_puts (Reduce op size block which None n form lower c arrays w) node kid at path p s h =
    let a = puts_turns every n (λ t. call_tree (c t) (arrays t) at
    (layout (node_of lower node kid) (form t) (arrays t) at)
    (tree (w t) (node_of lower node kid) 0 (layout (node_of lower node kid) (form t) (arrays t) at)
    (path ++ t ∷ []))) p h in
    sum_mods op size block which None n form lower c arrays w node kid at p s a.0 a.1
    (call_puts (form a.0) (c a.0) lower (arrays a.0) (w a.0) node kid at (s.1.1 a.0 a.1).1.0 _
    (λ q g. tree_puts (w a.0) (node_of lower node kid) 0
    (layout (node_of lower node kid) (form a.0) (arrays a.0) at) (path ++ a.0 ∷ []) q (s.1.1 a.0 a.1).1.2 g) p a.3)
tree_puts (Reduce op size block which (Some rule) n form lower c arrays w) node kid at path p s h =
    let d = puts_beside (fan_of node)
    (λ d. turns (λ t. eqb (lane_of rule node n t) d) n
    (λ t. call_tree (c t) (arrays t) at (layout (node_of lower node d) (form t) (arrays t) at)
    (tree (w t) (node_of lower node d) 0 (layout (node_of lower node d) (form t) (arrays t) at) (path ++ t ∷ []))))
    p h in
    let a = puts_turns (λ t. eqb (lane_of rule node n t) d.0) n
    (λ t. call_tree (c t) (arrays t) at (layout (node_of lower node d.0) (form t) (arrays t) at)
    (tree (w t) (node_of lower node d.0) 0 (layout (node_of lower node d.0) (form t) (arrays t) at)
    (path ++ t ∷ []))) p d.2 in
    let e : lane_of rule node n a.0 ≡ d.0 = eqb-true _ _ a.2 in
    let h' : Puts (call_tree (c a.0) (arrays a.0) at
    (layout (node_of lower node (lane_of rule node n a.0)) (form a.0) (arrays a.0) at)
    (tree (w a.0) (node_of lower node (lane_of rule node n a.0)) 0
    (layout (node_of lower node (lane_of rule node n a.0)) (form a.0) (arrays a.0) at) (path ++ a.0 ∷ []))) p
    = subst (λ k. Puts (call_tree (c a.0) (arrays a.0) at (layout (node_of lower node k) (form a.0) (arrays a.0) at)
    (tree (w a.0) (node_of lower node k) 0 (layout (node_of lower node k) (form a.0) (arrays a.0) at)
    (path ++ a.0 ∷ []))) p) (sym e) a.3 in
    sum_mods op size block which (Some rule) n form lower c arrays w node kid at p s a.0 a.1
    (call_puts (form a.0) (c a.0) lower (arrays a.0) (w a.0) node (lane_of rule node n a.0) at (s.1.1 a.0 a.1).1.0 _
    (λ q g. tree_puts (w a.0) (node_of lower node (lane_of rule node n a.0)) 0
    (layout (node_of lower node (lane_of rule node n a.0)) (form a.0) (arrays a.0) at) (path ++ a.0 ∷ []) q
    (s.1.1 a.0 a.1).1.2 g) p h')
tree_puts (Piped None n form second c arrays w) node kid at path p s h =
    let a = list_puts None n form second c arrays w node kid at path s.0 (λ t lt. (s.3 t lt).0) kid every (λ t y. refl)
    (λ t lt p h. tree_puts (w t) (child_of node kid) 0
    (layout (child_of node kid) (set_of None node n form second t) (arrays t) at) (path ++ t ∷ []) p (s.3 t lt).2 h)
    p h in
    ⊎_elim (λ g. inl (g.0, (a.0, a.1, g.1))) (λ g. inr (a.0, a.1, g)) a.3
tree_puts (Piped (Some rule) n form second c arrays w) node kid at path p s h =
    let d = puts_beside (fan_of node) _ p h in
    let a = list_puts (Some rule) n form second c arrays w node kid at path s.0 (λ t lt. (s.3.1 t lt).1.0) d.0
    (λ t. eqb (lane_of rule node n t) d.0) (λ t y. eqb-true _ _ y)
    (λ t lt p h. tree_puts (w t) (child_of node (lane_of rule node n t)) 0
    (layout (child_of node (lane_of rule node n t)) (set_of (Some rule) node n form second t) (arrays t) at)
    (path ++ t ∷ []) p (s.3.1 t lt).1.2 h) p d.2 in
    ⊎_elim (λ g. inl (g.0, (a.0, a.1, g.1))) (λ g. inr (a.0, a.1, g)) a.3
tree_puts (Leaf code n size writes) node kid at path p s h = inl (spot h.0 h.1, (h.2, h.3, h.4, h.5))

pub tree_adds : (w : Work) (node : Node) (kid : ℕ) (at : Layout) (path : List ℕ) (o : Target) (p : Spot)
    → Sound w node kid → Adds (tree w node kid at path) o p → GathersAt w at o p ⊎ Mods w node kid at p
tree_adds Nothing node kid at path o p s h = absurd h
tree_adds (Then a b) node kid at path o p s (inl h)
    = ⊎_elim (λ g. inl (g.0, g.1, inl g.2, g.3, g.4)) (λ g. inr (⊎_elim (λ x. inl (x.0, inl x.1)) (λ x. inr (inl x)) g))
    (tree_adds a node kid at path o p s.0 h)
tree_adds (Then a b) node kid at path o p s (inr h)
    = ⊎_elim (λ g. inl (g.0, g.1, inr g.2, g.3, g.4)) (λ g. inr (⊎_elim (λ x. inl (x.0, inr x.1)) (λ x. inr (inr x)) g))
    (tree_adds b node kid at path o p s.1 h)
tree_adds (Each n w) node kid at path o p s h = let a
    = adds_turns o every n _ p h in ⊎_elim (λ g. inl (g.0, g.1, (a.0, a.1, g.2), g.3, g.4))
    (λ g. inr (⊎_elim (λ x. inl (x.0, (a.0, a.1, x.1))) (λ x. inr (a.0, a.1, x)) g))
    (tree_adds (w a.0) node kid at (path ++ a.0 ∷ []) o p (s a.0 a.1) a.3)
tree_adds (AtOnce None n w) node kid at path o p s h = let a
    = adds_turns o every n _ p h in ⊎_elim (λ g. inl (g.0, g.1, (a.0, a.1, g.2), g.3, g.4))
    (λ g. inr (⊎_elim (λ x. inl (x.0, (a.0, a.1, x.1))) (λ x. inr (a.0, a.1, x)) g))
    (tree_adds (w a.0) node kid at (path ++ a.0 ∷ []) o p (s.1 a.0 a.1).1 a.3)
tree_adds (AtOnce (Some rule) n w) node kid at path o p s h =
    let d = adds_beside o (fan_of node) _ p h in
    let a = adds_turns o (λ t. eqb (lane_of rule node n t) d.0) n _ p d.2 in
    let e : lane_of rule node n a.0 ≡ d.0 = eqb-true _ _ a.2 in
    let h' : Adds (tree (w a.0) node (lane_of rule node n a.0) at (path ++ a.0 ∷ [])) o p
    = subst (λ k. Adds (tree (w a.0) node k at (path ++ a.0 ∷ [])) o p) (sym e) a.3 in
    ⊎_elim (λ g. inl (g.0, g.1, (a.0, a.1, g.2), g.3, g.4))
    (λ g. inr (⊎_elim (λ x. inl (x.0, (a.0, a.1, x.1))) (λ x. inr (a.0, a.1, x)) g))
    (tree_adds (w a.0) node (lane_of rule node n a.0) at (path ++ a.0 ∷ []) o p (s.1 a.0 a.1).1 h')
tree_adds (Call form lower n arrays w) node kid at path o p s h
    = call_adds form n lower arrays w node kid at s.0 _ o
    (λ q g. tree_adds w (node_of lower node kid) 0 (layout (node_of lower node kid) form arrays at) path o q s.2 g)
    (λ q g. closed_of s.0 (layout (node_of lower node kid) form arrays at) o q g) p h
tree_adds (Hold form n arrays w) node kid at path o p s (inl h) = let a
    = adds_beside o n _ p h in absurd
    (take_adds (arrays a.0).mode (held (arrays a.0).place) (arrays a.0).size _ _ o p a.2)
tree_adds (Hold form n arrays w) node kid at path o p s (inr (inl h))
    = ⊎_elim (λ g. inl g) (λ g. inr (hold_mods form n arrays w node kid at p g))
    (tree_adds w node kid at path o p s.1 h)
tree_adds (Hold form n arrays w) node kid at path o p s (inr (inr h)) = let a
    = adds_beside o n _ p h in absurd
    (leave_adds (arrays a.0).mode (held (arrays a.0).place) (arrays a.0).size _ _ o p a.2)
tree_adds (Reduce op size block which None n form lower c arrays w) node kid at path o p s h =
    let a = adds_turns o every n (λ t. call_tree (c t) (arrays t) at
    (layout (node_of lower node kid) (form t) (arrays t) at)
    (tree (w t) (node_of lower node kid) 0 (layout (node_of lower node kid) (form t) (arrays t) at)
    (path ++ t ∷ []))) p h in
    sum_adds op size block which None n form lower c arrays w node kid at o p s a.0 a.1
    (call_adds (form a.0) (c a.0) lower (arrays a.0) (w a.0) node kid at (s.1.1 a.0 a.1).1.0 _ o
    (λ q g. tree_adds (w a.0) (node_of lower node kid) 0
    (layout (node_of lower node kid) (form a.0) (arrays a.0) at) (path ++ a.0 ∷ []) o q (s.1.1 a.0 a.1).1.2 g)
    (λ q g. closed_of (s.1.1 a.0 a.1).1.0 (layout (node_of lower node kid) (form a.0) (arrays a.0) at) o q g) p a.3)
tree_adds (Reduce op size block which (Some rule) n form lower c arrays w) node kid at path o p s h =
    let d = adds_beside o (fan_of node)
    (λ d. turns (λ t. eqb (lane_of rule node n t) d) n
    (λ t. call_tree (c t) (arrays t) at (layout (node_of lower node d) (form t) (arrays t) at)
    (tree (w t) (node_of lower node d) 0 (layout (node_of lower node d) (form t) (arrays t) at) (path ++ t ∷ []))))
    p h in
    let a = adds_turns o (λ t. eqb (lane_of rule node n t) d.0) n
    (λ t. call_tree (c t) (arrays t) at (layout (node_of lower node d.0) (form t) (arrays t) at)
    (tree (w t) (node_of lower node d.0) 0 (layout (node_of lower node d.0) (form t) (arrays t) at)
    (path ++ t ∷ []))) p d.2 in
    let e : lane_of rule node n a.0 ≡ d.0 = eqb-true _ _ a.2 in
    let h' : Adds (call_tree (c a.0) (arrays a.0) at
    (layout (node_of lower node (lane_of rule node n a.0)) (form a.0) (arrays a.0) at)
    (tree (w a.0) (node_of lower node (lane_of rule node n a.0)) 0
    (layout (node_of lower node (lane_of rule node n a.0)) (form a.0) (arrays a.0) at) (path ++ a.0 ∷ []))) o p
    = subst (λ k. Adds (call_tree (c a.0) (arrays a.0) at (layout (node_of lower node k) (form a.0) (arrays a.0) at)
    (tree (w a.0) (node_of lower node k) 0 (layout (node_of lower node k) (form a.0) (arrays a.0) at)
    (path ++ a.0 ∷ []))) o p) (sym e) a.3 in
    sum_adds op size block which (Some rule) n form lower c arrays w node kid at o p s a.0 a.1
    (call_adds (form a.0) (c a.0) lower (arrays a.0) (w a.0) node (lane_of rule node n a.0) at (s.1.1 a.0 a.1).1.0 _
    o (λ q g. tree_adds (w a.0) (node_of lower node (lane_of rule node n a.0)) 0
    (layout (node_of lower node (lane_of rule node n a.0)) (form a.0) (arrays a.0) at) (path ++ a.0 ∷ []) o q
    (s.1.1 a.0 a.1).1.2 g) (λ q g. closed_of (s.1.1 a.0 a.1).1.0
    (layout (node_of lower node (lane_of rule node n a.0)) (form a.0) (arrays a.0) at) o q g) p h')
tree_adds (Piped None n form second c arrays w) node kid at path o p s h =
    let a = list_adds None n form second c arrays w node kid at path s.0 (λ t lt. (s.3 t lt).0) kid every (λ t y. refl)
    (λ t lt o p h. tree_adds (w t) (child_of node kid) 0
    (layout (child_of node kid) (set_of None node n form second t) (arrays t) at) (path ++ t ∷ []) o p (s.3 t lt).2
    h) o p h in
    inr (⊎_elim (λ g. inl (g.0, (a.0, a.1, g.1))) (λ g. inr (a.0, a.1, g)) a.3)
tree_adds (Piped (Some rule) n form second c arrays w) node kid at path o p s h =
    let d = adds_beside o (fan_of node) _ p h in
    let a = list_adds (Some rule) n form second c arrays w node kid at path s.0 (λ t lt. (s.3.1 t lt).1.0) d.0
    (λ t. eqb (lane_of rule node n t) d.0) (λ t y. eqb-true _ _ y)
    (λ t lt o p h. tree_adds (w t) (child_of node (lane_of rule node n t)) 0
    (layout (child_of node (lane_of rule node n t)) (set_of (Some rule) node n form second t) (arrays t) at)
    (path ++ t ∷ []) o p (s.3.1 t lt).1.2 h) o p d.2 in
    inr (⊎_elim (λ g. inl (g.0, (a.0, a.1, g.1))) (λ g. inr (a.0, a.1, g)) a.3)
tree_adds (Leaf code n size writes) node kid at path o p s h = absurd h

pub tree_takes : (w : Work) (node : Node) (kid : ℕ) (at : Layout) (path : List ℕ) (p : Spot) → Sound w node kid
    → Takes (tree w node kid at path) p → Touch w node kid at p
tree_takes Nothing node kid at path p s h = absurd h
tree_takes (Then a b) node kid at path p s (inl h)
    = ⊎_elim (λ g. inl (g.0, ⊎_elim (λ x. inl (inl x)) (λ x. inr (inl x)) g.1)) (λ g. inr (inl g))
    (tree_takes a node kid at path p s.0 h)
tree_takes (Then a b) node kid at path p s (inr h)
    = ⊎_elim (λ g. inl (g.0, ⊎_elim (λ x. inl (inr x)) (λ x. inr (inr x)) g.1)) (λ g. inr (inr g))
    (tree_takes b node kid at path p s.1 h)
tree_takes (Each n w) node kid at path p s h = let a
    = takes_turns every n _ p h in ⊎_elim (λ g. inl (g.0, ⊎_elim (λ x. inl (a.0, a.1, x)) (λ x. inr (a.0, a.1, x)) g.1))
    (λ g. inr (a.0, a.1, g)) (tree_takes (w a.0) node kid at (path ++ a.0 ∷ []) p (s a.0 a.1) a.3)
tree_takes (AtOnce None n w) node kid at path p s h = let a
    = takes_turns every n _ p h in ⊎_elim (λ g. inl (g.0, ⊎_elim (λ x. inl (a.0, a.1, x)) (λ x. inr (a.0, a.1, x)) g.1))
    (λ g. inr (a.0, a.1, g)) (tree_takes (w a.0) node kid at (path ++ a.0 ∷ []) p (s.1 a.0 a.1).1 a.3)
tree_takes (AtOnce (Some rule) n w) node kid at path p s h =
    let d = takes_beside (fan_of node) _ p h in
    let a = takes_turns (λ t. eqb (lane_of rule node n t) d.0) n _ p d.2 in
    let e : lane_of rule node n a.0 ≡ d.0 = eqb-true _ _ a.2 in
    let h' : Takes (tree (w a.0) node (lane_of rule node n a.0) at (path ++ a.0 ∷ [])) p
    = subst (λ k. Takes (tree (w a.0) node k at (path ++ a.0 ∷ [])) p) (sym e) a.3 in
    ⊎_elim (λ g. inl (g.0, ⊎_elim (λ x. inl (a.0, a.1, x)) (λ x. inr (a.0, a.1, x)) g.1)) (λ g. inr (a.0, a.1, g))
    (tree_takes (w a.0) node (lane_of rule node n a.0) at (path ++ a.0 ∷ []) p (s.1 a.0 a.1).1 h')
tree_takes (Call form lower n arrays w) node kid at path p s h
    = call_takes form n lower arrays w node kid at s.0 _
    (λ q g. tree_takes w (node_of lower node kid) 0 (layout (node_of lower node kid) form arrays at) path q s.2 g) p h
tree_takes (Hold form n arrays w) node kid at path p s (inl h) = let a = takes_beside n _ p h in let b
    = take_takes (arrays a.0).mode (held (arrays a.0).place) (arrays a.0).size _ _ p a.2 in inl
    ((arrays a.0).block b.0, inl (inr (spot a.0 b.0, (a.1, b.1), held_true (arrays a.0).place b.4, b.3, refl, b.2)))
tree_takes (Hold form n arrays w) node kid at path p s (inr (inl h))
    = hold_touch form n arrays w node kid at p (tree_takes w node kid at path p s.1 h)
tree_takes (Hold form n arrays w) node kid at path p s (inr (inr h)) = let a = takes_beside n _ p h in let b
    = leave_takes (arrays a.0).mode (held (arrays a.0).place) (arrays a.0).size _ _ p a.2 in inr
    (inl (spot a.0 b.0, (a.1, b.1), held_true (arrays a.0).place b.3, b.2))
tree_takes (Reduce op size block which None n form lower c arrays w) node kid at path p s h =
    let a = takes_turns every n (λ t. call_tree (c t) (arrays t) at
    (layout (node_of lower node kid) (form t) (arrays t) at)
    (tree (w t) (node_of lower node kid) 0 (layout (node_of lower node kid) (form t) (arrays t) at)
    (path ++ t ∷ []))) p h in
    sum_touch op size block which None n form lower c arrays w node kid at p s a.0 a.1
    (call_takes (form a.0) (c a.0) lower (arrays a.0) (w a.0) node kid at (s.1.1 a.0 a.1).1.0 _
    (λ q g. tree_takes (w a.0) (node_of lower node kid) 0
    (layout (node_of lower node kid) (form a.0) (arrays a.0) at) (path ++ a.0 ∷ []) q (s.1.1 a.0 a.1).1.2 g) p a.3)
tree_takes (Reduce op size block which (Some rule) n form lower c arrays w) node kid at path p s h =
    let d = takes_beside (fan_of node)
    (λ d. turns (λ t. eqb (lane_of rule node n t) d) n
    (λ t. call_tree (c t) (arrays t) at (layout (node_of lower node d) (form t) (arrays t) at)
    (tree (w t) (node_of lower node d) 0 (layout (node_of lower node d) (form t) (arrays t) at) (path ++ t ∷ []))))
    p h in
    let a = takes_turns (λ t. eqb (lane_of rule node n t) d.0) n
    (λ t. call_tree (c t) (arrays t) at (layout (node_of lower node d.0) (form t) (arrays t) at)
    (tree (w t) (node_of lower node d.0) 0 (layout (node_of lower node d.0) (form t) (arrays t) at)
    (path ++ t ∷ []))) p d.2 in
    let e : lane_of rule node n a.0 ≡ d.0 = eqb-true _ _ a.2 in
    let h' : Takes (call_tree (c a.0) (arrays a.0) at
    (layout (node_of lower node (lane_of rule node n a.0)) (form a.0) (arrays a.0) at)
    (tree (w a.0) (node_of lower node (lane_of rule node n a.0)) 0
    (layout (node_of lower node (lane_of rule node n a.0)) (form a.0) (arrays a.0) at) (path ++ a.0 ∷ []))) p
    = subst (λ k. Takes (call_tree (c a.0) (arrays a.0) at
    (layout (node_of lower node k) (form a.0) (arrays a.0) at)
    (tree (w a.0) (node_of lower node k) 0 (layout (node_of lower node k) (form a.0) (arrays a.0) at)
    (path ++ a.0 ∷ []))) p) (sym e) a.3 in
    sum_touch op size block which (Some rule) n form lower c arrays w node kid at p s a.0 a.1
    (call_takes (form a.0) (c a.0) lower (arrays a.0) (w a.0) node (lane_of rule node n a.0) at (s.1.1 a.0 a.1).1.0
    _ (λ q g. tree_takes (w a.0) (node_of lower node (lane_of rule node n a.0)) 0
    (layout (node_of lower node (lane_of rule node n a.0)) (form a.0) (arrays a.0) at) (path ++ a.0 ∷ []) q
    (s.1.1 a.0 a.1).1.2 g) p h')
tree_takes (Piped None n form second c arrays w) node kid at path p s h =
    let a = list_takes None n form second c arrays w node kid at path s.0 (λ t lt. (s.3 t lt).0) kid every (λ t y. refl)
    (λ t lt p h. tree_takes (w t) (child_of node kid) 0
    (layout (child_of node kid) (set_of None node n form second t) (arrays t) at) (path ++ t ∷ []) p (s.3 t lt).2 h)
    p h in
    ⊎_elim (λ g. inl (g.0, ⊎_elim (λ x. inl (a.0, a.1, x)) (λ x. inr (a.0, a.1, x)) g.1)) (λ g. inr (a.0, a.1, g)) a.3
tree_takes (Piped (Some rule) n form second c arrays w) node kid at path p s h =
    let d = takes_beside (fan_of node) _ p h in
    let a = list_takes (Some rule) n form second c arrays w node kid at path s.0 (λ t lt. (s.3.1 t lt).1.0) d.0
    (λ t. eqb (lane_of rule node n t) d.0) (λ t y. eqb-true _ _ y)
    (λ t lt p h. tree_takes (w t) (child_of node (lane_of rule node n t)) 0
    (layout (child_of node (lane_of rule node n t)) (set_of (Some rule) node n form second t) (arrays t) at)
    (path ++ t ∷ []) p (s.3.1 t lt).1.2 h) p d.2 in
    ⊎_elim (λ g. inl (g.0, ⊎_elim (λ x. inl (a.0, a.1, x)) (λ x. inr (a.0, a.1, x)) g.1)) (λ g. inr (a.0, a.1, g)) a.3
tree_takes (Leaf code n size writes) node kid at path p s h = inl (spot h.0 h.1, inl (h.2, h.3, h.4))

-- what is written is put or added to
pub writes_of : (t : Tree) (p : Spot) → Writes t p → Puts t p ⊎ ((o : Target) × Adds t o p)
writes_of Empty p h = absurd h
writes_of (Act (Copy n source to)) p h = inl h
writes_of (Act (Fill n v to)) p h = inl h
writes_of (Act (Acc op n source to)) p h
    = inr (record { op = op; head = to (head_of op h.0) }, (refl, (h.0, h.1, h.2, refl)))
writes_of (Act (Run code count size writes cell path)) p h = inl h
writes_of (Seq a b) p (inl h) = ⊎_elim (λ x. inl (inl x)) (λ x. inr (x.0, inl x.1)) (writes_of a p h)
writes_of (Seq a b) p (inr h) = ⊎_elim (λ x. inl (inr x)) (λ x. inr (x.0, inr x.1)) (writes_of b p h)
writes_of (Par a b) p (inl h) = ⊎_elim (λ x. inl (inl x)) (λ x. inr (x.0, inl x.1)) (writes_of a p h)
writes_of (Par a b) p (inr h) = ⊎_elim (λ x. inl (inr x)) (λ x. inr (x.0, inr x.1)) (writes_of b p h)

mods_change : (w : Work) (node : Node) (kid : ℕ) (at : Layout) (p : Spot) → Mods w node kid at p
    → Changes w node kid at p
mods_change w node kid at p h = ⊎_elim (λ x. inl x) (λ x. inr (inr x)) h

-- the lowered tree writes where the work sets, where a reduction further out gathers, and in its buffers
pub tree_writes : (w : Work) (node : Node) (kid : ℕ) (at : Layout) (path : List ℕ) (p : Spot) → Sound w node kid
    → Writes (tree w node kid at path) p → Changes w node kid at p
tree_writes w node kid at path p s h =
    ⊎_elim
    (λ x. mods_change w node kid at p (tree_puts w node kid at path p s x))
    (λ x. ⊎_elim (λ g. inr (inl (gathers_at w node kid at x.0 p g))) (λ g. mods_change w node kid at p g)
    (tree_adds w node kid at path x.0 p s x.1))
    (writes_of (tree w node kid at path) p h)
