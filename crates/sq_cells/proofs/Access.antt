-- Which elements a work writes and touches.
use Rattle.std.proofs.Common.{◌≡◌, ◌≢◌, ℕ, zero, suc, ◌<◌, Bool, true, false, ◌&&◌, ◌||◌, ltb, Option, Some, None}
use Rattle.std.proofs.Common.{is_some, refl, sym, ap, ◌∙◌, subst, arith, ◌⊎◌, inl, inr, ⊎_elim, ltb-true, lt-ltb}
use Rattle.sq_cells.specs.Cells.{Spot, spot, find}
use Rattle.sq_cells.specs.Work.{Mode, Input, Output, Both, Local, Reduced, Place, Buffer, InPlace, Held, Array, Work}
use Rattle.sq_cells.specs.Work.{Nothing, Then, Each, AtOnce, Call, Hold, Reduce, Piped, Leaf, writable, returned, reads}
use Rattle.sq_cells.specs.Work.{is_private, is_reduced, any_block, any_below, written}
use Rattle.sq_cells.specs.Machine.{Form, Node, child_of, lane_of}
use Rattle.sq_cells.specs.Lowered.{Layout, node_of, own, stays, held, source, lane_kid, set_of, IsIn, HeldCell, Sets}
use Rattle.sq_cells.specs.Lowered.{Sound}
use Rattle.sq_cells.proofs.Cells.{found, not_found}

pub or_true : (a b : Bool) → (a || b) ≡ true → (a ≡ true) ⊎ (b ≡ true)
or_true true b e = inl refl
or_true false b e = inr e

pub or_left : (a b : Bool) → a ≡ true → (a || b) ≡ true
or_left true b e = refl
or_left false b e = cc

pub or_right : (a b : Bool) → b ≡ true → (a || b) ≡ true
or_right true b e = refl
or_right false b e = e

pub and_true : (a b : Bool) → (a && b) ≡ true → (a ≡ true) × (b ≡ true)
and_true true b e = (refl, e)
and_true false b e = cc

pub any_true : (n : ℕ) (f : ℕ → Bool) → any_below n f ≡ true → (t : ℕ) × (t < n) × (f t ≡ true)
any_true zero f e = cc
any_true (suc n) f e = ⊎_elim (λ a. (n, omega arith, a)) (λ b. let h = any_true n f b in (h.0, omega (arith, h.1), h.2))
    (or_true (f n) (any_below n f) e)

pub end_or_below : (t n : ℕ) → t < suc n → (t ≡ n) ⊎ (t < n)
end_or_below t n lt = go (ltb t n) refl
  where
    go : (b : Bool) → ltb t n ≡ b → (t ≡ n) ⊎ (t < n)
    go true e = inr (ltb-true t n e)
    go false e = inl (same (λ h. no h))
      where
        no : t < n → ⊥
        no h = cc (lt-ltb t n h)

        same : (t < n → ⊥) → t ≡ n
        same h = omega arith

pub any_from : (n : ℕ) (f : ℕ → Bool) (t : ℕ) → t < n → f t ≡ true → any_below n f ≡ true
any_from zero f t lt e = absurd (omega arith)
any_from (suc n) f t lt e = ⊎_elim (λ h. or_left (f n) (any_below n f) (subst (λ i. f i ≡ true) h e))
    (λ h. or_right (f n) (any_below n f) (any_from n f t h e)) (end_or_below t n lt)

some_true : {A : Type 0} (o : Option A) → is_some o ≡ true → (x : A) × (o ≡ Some x)
some_true None e = cc
some_true (Some x) e = (x, refl)

pub block_true : (n : ℕ) (arrays : ℕ → Array) (l : Spot) → any_block n arrays l ≡ true → (i k : ℕ) × (i < n)
    × (k < (arrays i).size) × (returned (arrays i).mode ≡ true) × ((arrays i).block k ≡ l)
block_true zero arrays l e = cc
block_true (suc n) arrays l e =
    ⊎_elim
    (λ a. let h = and_true (returned (arrays n).mode) _ a in let o
    = some_true (find (arrays n).size (arrays n).block l) h.1 in let f
    = found (arrays n).size (arrays n).block l o.0 o.1 in (n, o.0, omega arith, f.0, h.0, f.1))
    (λ b. let h = block_true n arrays l b in (h.0, h.1, omega (arith, h.2), h.3, h.4, h.5))
    (or_true (returned (arrays n).mode && is_some (find (arrays n).size (arrays n).block l)) (any_block n arrays l) e)

pub found_some : (n : ℕ) (c : ℕ → Spot) (l : Spot) (k : ℕ) → k < n → c k ≡ l → is_some (find n c l) ≡ true
found_some n c l k lt e = go (find n c l) refl
  where
    go : (o : Option ℕ) → find n c l ≡ o → is_some (find n c l) ≡ true
    go None f = absurd (not_found n c l f k lt e)
    go (Some j) f = rw f refl

pub block_from : (n : ℕ) (arrays : ℕ → Array) (l : Spot) (i k : ℕ) → i < n → k < (arrays i).size
    → returned (arrays i).mode ≡ true → (arrays i).block k ≡ l → any_block n arrays l ≡ true
block_from zero arrays l i k li lk r e = absurd (omega arith)
block_from (suc n) arrays l i k li lk r e =
    ⊎_elim
    (λ h. or_left _ (any_block n arrays l)
    (subst (λ j. (returned (arrays j).mode && is_some (find (arrays j).size (arrays j).block l)) ≡ true) h
    (rw (r, found_some (arrays i).size (arrays i).block l k lk e) refl)))
    (λ h. or_right (returned (arrays n).mode && is_some (find (arrays n).size (arrays n).block l))
    (any_block n arrays l) (block_from n arrays l i k h lk r e))
    (end_or_below i n li)

pub returned_not_local : (m : Mode) → returned m ≡ true → m ≢ Local
returned_not_local Input e q = cc
returned_not_local Output e q = cc
returned_not_local Both e q = cc
returned_not_local Local e q = cc
returned_not_local (Reduced op) e q = cc

pub returned_from : (m : Mode) → writable m ≡ true → is_private m ≡ false → returned m ≡ true
returned_from Input e q = e
returned_from Output e q = e
returned_from Both e q = e
returned_from Local e q = cc
returned_from (Reduced op) e q = cc

pub private_not_local : (m : Mode) → is_private m ≡ false → m ≢ Local
private_not_local Input e q = cc
private_not_local Output e q = cc
private_not_local Both e q = cc
private_not_local Local e q = cc
private_not_local (Reduced op) e q = cc

pub private_true : (m : Mode) → (m ≡ Local) ⊎ (is_reduced m ≡ true) → is_private m ≡ true
private_true m (inl e) = ap is_private e
private_true m (inr e) = go m e
  where
    go : (m : Mode) → is_reduced m ≡ true → is_private m ≡ true
    go Input e = cc
    go Output e = cc
    go Both e = cc
    go Local e = cc
    go (Reduced op) e = refl

pub bool_cases : (b : Bool) → (b ≡ true) ⊎ (b ≡ false)
bool_cases true = inl refl
bool_cases false = inr refl

pub reads_or_returned : (m : Mode) → is_private m ≡ false → (reads m ≡ true) ⊎ (returned m ≡ true)
reads_or_returned Input e = inl refl
reads_or_returned Output e = inr refl
reads_or_returned Both e = inl refl
reads_or_returned Local e = cc
reads_or_returned (Reduced op) e = cc

pub reads_not_local : (m : Mode) → reads m ≡ true → m ≢ Local
reads_not_local Input e q = cc
reads_not_local Output e q = cc
reads_not_local Both e q = cc
reads_not_local Local e q = cc
reads_not_local (Reduced op) e q = cc

pub local_cases : (m : Mode) → (m ≡ Local) ⊎ (m ≢ Local)
local_cases Input = inr (λ e. cc)
local_cases Output = inr (λ e. cc)
local_cases Both = inr (λ e. cc)
local_cases Local = inl refl
local_cases (Reduced op) = inr (λ e. cc)

pub place_cases : (a : Place) → (a ≡ Buffer) ⊎ (stays a ≡ true)
place_cases Buffer = inl refl
place_cases InPlace = inr refl
place_cases Held = inr refl

pub held_cases : (a : Place) → (a ≡ Held) ⊎ (held a ≡ false)
held_cases Buffer = inr refl
held_cases InPlace = inr refl
held_cases Held = inl refl

-- whether a cell of an array is this one
pub one_array : (n : ℕ) (c : ℕ → Spot) (p : Spot) → ((k : ℕ) × (k < n) × (c k ≡ p))
    ⊎ (((k : ℕ) × (k < n) × (c k ≡ p)) → ⊥)
one_array n c p = go (find n c p) refl
  where
    go : (o : Option ℕ) → find n c p ≡ o → ((k : ℕ) × (k < n) × (c k ≡ p)) ⊎ (((k : ℕ) × (k < n) × (c k ≡ p)) → ⊥)
    go None e = inr (λ h. not_found n c p e h.0 h.1 h.2)
    go (Some k) e = let f = found n c p k e in inl (k, f.0, f.1)

pub is_held_cell : (node : Node) (form : Form) (n : ℕ) (arrays : ℕ → Array) (p : Spot) → HeldCell node form n arrays p
    ⊎ (HeldCell node form n arrays p → ⊥)
is_held_cell node form zero arrays p = inr (λ h. nothing h.1.0)
  where
    nothing : {a : ℕ} → a < 0 → ⊥
    nothing h = omega arith
is_held_cell node form (suc n) arrays p
    = go (is_held_cell node form n arrays p) (held_cases (arrays n).place)
    (one_array (arrays n).size (λ k. own node form (spot n k)) p)
  where
    last : (l : Spot) → l.area ≡ n → IsIn (suc n) arrays l → own node form l ≡ p → (k : ℕ) × (k < (arrays n).size)
        × (own node form (spot n k) ≡ p)
    last l e i q = (
      l.index,
      subst (λ x. l.index < (arrays x).size) e i.1,
      subst
          (λ x. own node form (spot x l.index) ≡ p) e q,
    )

    go : (HeldCell node form n arrays p ⊎ (HeldCell node form n arrays p → ⊥)) → ((arrays n).place ≡ Held)
        ⊎ (held (arrays n).place ≡ false)
        → (((k : ℕ) × (k < (arrays n).size) × (own node form (spot n k) ≡ p))
        ⊎ (((k : ℕ) × (k < (arrays n).size) × (own node form (spot n k) ≡ p)) → ⊥))
        → HeldCell node form (suc n) arrays p ⊎ (HeldCell node form (suc n) arrays p → ⊥)
    go (inl h) b c = inl (h.0, (omega (arith, h.1.0), h.1.1), h.2, h.3)
    go (inr h) (inl b) (inl c) = inl (spot n c.0, (omega arith, c.1), b, c.2)
    go (inr h) (inl b) (inr c) = inr
        (λ g. ⊎_elim (λ e. c (last g.0 e g.1 g.3)) (λ e. h (g.0, (e, g.1.1), g.2, g.3)) (end_or_below g.0.area n g.1.0))
    go (inr h) (inr b) c = inr (λ g. ⊎_elim (λ e. bad (subst (λ x. (arrays x).place ≡ Held) e g.2))
        (λ e. h (g.0, (e, g.1.1), g.2, g.3)) (end_or_below g.0.area n g.1.0))
      where
        bad : (arrays n).place ≡ Held → ⊥
        bad q = let z : held (arrays n).place ≡ true = ap held q in cc

-- what is written is set at some place, and the other way round
pub written_sets : (w : Work) (node : Node) (kid : ℕ) (at : Layout) (l : Spot) → Sound w node kid → written w l ≡ true
    → (p : Spot) × Sets w node kid at l p
written_sets Nothing node kid at l s e = cc
written_sets (Then a b) node kid at l s e
    = ⊎_elim (λ h. let g = written_sets a node kid at l s.0 h in (g.0, inl g.1))
    (λ h. let g = written_sets b node kid at l s.1 h in (g.0, inr g.1)) (or_true (written a l) (written b l) e)
written_sets (Each n w) node kid at l s e = let h = any_true n (λ t. written (w t) l) e in let g
    = written_sets (w h.0) node kid at l (s h.0 h.1) h.2 in (g.0, (h.0, h.1, g.1))
written_sets (AtOnce spread n w) node kid at l s e = let h = any_true n (λ t. written (w t) l) e in let g
    = written_sets (w h.0) node (lane_kid spread node kid n h.0) at l (s.1 h.0 h.1).1 h.2 in (g.0, (h.0, h.1, g.1))
written_sets (Call form lower n arrays w) node kid at l s e = let h
    = block_true n arrays l e in (
      source (node_of lower node kid) form arrays at (spot h.0 h.1),
      (spot h.0 h.1, (h.2, h.3), h.4, h.5, refl),
    )
written_sets (Hold form n arrays w) node kid at l s e =
    let g = written_sets w node kid at l s.1 e in
    ⊎_elim
    (λ h. ⊎_elim (λ z. (at l, inr (h.0, h.1, h.2, z.1, z.0, refl))) (λ e. (g.0, inl (g.1, inr (e ∙ h.3))))
    (s.0.set_held at l h.0 h.1 h.2 (subst (λ p. Sets w node kid at l p) (sym h.3) g.1)))
    (λ h. (g.0, inl (g.1, inl h)))
    (is_held_cell (child_of node kid) form n arrays g.0)
written_sets (Reduce op size block which spread n form lower c arrays w) node kid at l s e =
    ⊎_elim
    (λ h. let o = some_true (find size block l) h in let f
    = found size block l o.0 o.1 in (at l, inr (o.0, f.0, f.1, refl)))
    (λ h. let a = any_true n (λ t. any_block (c t) (arrays t) l) h in let b
    = block_true (c a.0) (arrays a.0) l a.2 in (
      source (node_of lower node (lane_kid spread node kid n a.0)) (form a.0) (arrays a.0) at (spot b.0 b.1),
      inl
          (a.0, a.1, (spot b.0 b.1, (b.2, b.3), b.4, b.5, refl)),
    ))
    (or_true (is_some (find size block l)) (any_below n (λ t. any_block (c t) (arrays t) l)) e)
written_sets (Piped None n form second c arrays w) node kid at l s e =
    let a = any_true n (λ t. any_block c (arrays t) l) e in
    let b = block_true c (arrays a.0) l a.2 in (
      source (child_of node kid) (set_of None node n form second a.0) (arrays a.0) at (spot b.0 b.1),
      (a.0, a.1, (spot b.0 b.1, (b.2, b.3), b.4, b.5, refl)),
    )
written_sets (Piped (Some rule) n form second c arrays w) node kid at l s e =
    let a = any_true n (λ t. any_block c (arrays t) l) e in
    let b = block_true c (arrays a.0) l a.2 in (
      source (child_of node (lane_of rule node n a.0)) (set_of (Some rule) node n form second a.0) (arrays a.0) at
          (spot b.0 b.1),
      (a.0, a.1, (spot b.0 b.1, (b.2, b.3), b.4, b.5, refl)),
    )
written_sets (Leaf code n size writes) node kid at l s e =
    let h = and_true (ltb l.area n) (ltb l.index (size l.area) && writes l.area) e in
    let g = and_true (ltb l.index (size l.area)) (writes l.area) h.1 in
    (at l, (ltb-true l.area n h.0, ltb-true l.index (size l.area) g.0, g.1, refl))

pub sets_written : (w : Work) (node : Node) (kid : ℕ) (at : Layout) (l p : Spot) → Sound w node kid
    → Sets w node kid at l p → written w l ≡ true
sets_written Nothing node kid at l p s h = absurd h
sets_written (Then a b) node kid at l p s (inl h)
    = or_left (written a l) (written b l) (sets_written a node kid at l p s.0 h)
sets_written (Then a b) node kid at l p s (inr h)
    = or_right (written a l) (written b l) (sets_written b node kid at l p s.1 h)
sets_written (Each n w) node kid at l p s h
    = any_from n (λ t. written (w t) l) h.0 h.1 (sets_written (w h.0) node kid at l p (s h.0 h.1) h.2)
sets_written (AtOnce spread n w) node kid at l p s h
    = any_from n (λ t. written (w t) l) h.0 h.1
    (sets_written (w h.0) node (lane_kid spread node kid n h.0) at l p (s.1 h.0 h.1).1 h.2)
sets_written (Call form lower n arrays w) node kid at l p s h
    = block_from n arrays l h.0.area h.0.index h.1.0 h.1.1 h.2 h.3
sets_written (Hold form n arrays w) node kid at l p s (inl h) = sets_written w node kid at l p s.1 h.0
sets_written (Hold form n arrays w) node kid at l p s (inr h)
    = subst (λ x. written w x ≡ true) h.4 (sets_written w node kid at _ _ s.1 (s.0.all_set at h.0 h.1 h.2 h.3))
sets_written (Reduce op size block which spread n form lower c arrays w) node kid at l p s (inl h) =
    or_right (is_some (find size block l)) (any_below n (λ t. any_block (c t) (arrays t) l))
    (any_from n (λ t. any_block (c t) (arrays t) l) h.0 h.1
    (block_from (c h.0) (arrays h.0) l h.2.0.area h.2.0.index h.2.1.0 h.2.1.1 h.2.2 h.2.3))
sets_written (Reduce op size block which spread n form lower c arrays w) node kid at l p s (inr h)
    = or_left (is_some (find size block l)) (any_below n (λ t. any_block (c t) (arrays t) l))
    (found_some size block l h.0 h.1 h.2)
sets_written (Piped spread n form second c arrays w) node kid at l p s h
    = any_from n (λ t. any_block c (arrays t) l) h.0 h.1
    (block_from c (arrays h.0) l h.2.0.area h.2.0.index h.2.1.0 h.2.1.1 h.2.2 h.2.3)
sets_written (Leaf code n size writes) node kid at l p s h
    = rw (lt-ltb l.area n h.0, lt-ltb l.index (size l.area) h.1, h.2) refl
