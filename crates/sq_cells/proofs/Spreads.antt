-- A taken spread map: each child's list of iterations has overlapped transfers, and two sets of buffers in turn.
use Rattle.std.proofs.Common.{◌≡◌, ◌≢◌, ℕ, ◌<◌, true, false, eqb, Option, Some, None, refl, sym, ap, ◌∙◌, subst, arith}
use Rattle.std.proofs.Common.{List, [], ◌∷◌, ◌++◌, append_assoc, ◌⊎◌, inl, inr, ⊎_elim, eqb-true}
use Rattle.sq_cells.specs.Cells.{Spot, State}
use Rattle.sq_cells.specs.Tree.{Trap, Tree, run, Writes}
use Rattle.sq_cells.specs.Machine.{Form, Node, child_of, fan_of, Rule, lane_of}
use Rattle.sq_cells.specs.Work.{Local, Held, Array, Work, AtOnce, Call, Piped, Outcome, Ends, Traps, front, numbered}
use Rattle.sq_cells.specs.Work.{trap_of, state_or, at_once, returned, entry_of, come_back, returns_to, written, meaning}
use Rattle.sq_cells.specs.Lowered.{Layout, own, held, layout, beside, works, mates, piped, set_of, piped_come}
use Rattle.sq_cells.specs.Lowered.{piped_work, piped_back, tree, IsIn, BufferCell, Comes, TwiceCell, Scratch, Needs}
use Rattle.sq_cells.specs.Lowered.{Sets, CallFits, CallPlaced, Sound}
use Rattle.sq_cells.specs.Correct.{under, Follows, Meets}
use Rattle.sq_cells.proofs.Trees.{run_frame}
use Rattle.sq_cells.proofs.Access.{returned_not_local}
use Rattle.sq_cells.proofs.Stands.{piped_same, beside_same}
use Rattle.sq_cells.proofs.Lanes.{all_lanes}
use Rattle.sq_cells.proofs.PipeLanes.{pipes_go}
use Rattle.sq_cells.proofs.Footprint.{Changes}
use Rattle.sq_cells.proofs.Parts.{writes_of, lay_own, HeldBack, out_sets, in_needs, work_puts, work_adds, closed_of}
use Rattle.sq_cells.proofs.Parts.{tree_puts, tree_adds}
use Rattle.sq_cells.proofs.Maps.{below, Before, Touched, Done, trap, trap_is, turn_meets, touched_all, at_once_follows}
use Rattle.sq_cells.proofs.Maps.{still}
use Rattle.sq_cells.proofs.Transfers.{in_writes, out_writes, in_none, out_none, came_in, work_follows, went_back}

module _ (rule : Rule) (n : ℕ) (form second : Form) (c : ℕ) (arrays : ℕ → ℕ → Array) (w : ℕ → Work) (node : Node)
    (kid : ℕ) (at : Layout) (path : List ℕ) (R : Spot → Spot → Type 0)
    (sound : Sound (Piped (Some rule) n form second c arrays w) node kid)
    (meets : Meets R (Piped (Some rule) n form second c arrays w) node kid at) where
  abbrev key : ℕ → Form
  key t = set_of (Some rule) node n form second t

  abbrev pub calls : ℕ → Work
  calls t = Call (key t) true c (arrays t) (w t)

  abbrev pub kid_at : ℕ → ℕ
  kid_at t = lane_of rule node n t

  abbrev lay : ℕ → Layout
  lay t = layout (child_of node (kid_at t)) (key t) (arrays t) at

  abbrev body : ℕ → Tree
  body t = tree (w t) (child_of node (kid_at t)) 0 (lay t) (path ++ t ∷ [])

  abbrev pub come : ℕ → Tree
  come t = piped_come (Some rule) node (kid_at t) n form second c arrays at t

  abbrev pub work : ℕ → Tree
  work t = works c (arrays t) at (lay t) (body t)

  abbrev pub back : ℕ → Tree
  back t = piped_back (Some rule) node (kid_at t) n form second c arrays at t

  abbrev elem : ℕ → Layout
  elem t l = (arrays t l.area).block l.index

  -- the tree, each iteration under its child
  pub lane_same : (d : ℕ) → piped (piped_come (Some rule) node d n form second c arrays at)
      (piped_work (Some rule) node d n form second c arrays at
      (λ t. tree (w t) (child_of node d) 0 (layout (child_of node d) (key t) (arrays t) at) (path ++ t ∷ [])))
      (piped_back (Some rule) node d n form second c arrays at) (λ t. eqb (kid_at t) d) n
      ≡ piped come work back (λ t. eqb (kid_at t) d) n
  lane_same d =
      piped_same (λ t. eqb (kid_at t) d)
      (piped_come (Some rule) node d n form second c arrays at)
      (piped_work (Some rule) node d n form second c arrays at
      (λ t. tree (w t) (child_of node d) 0 (layout (child_of node d) (key t) (arrays t) at) (path ++ t ∷ [])))
      (piped_back (Some rule) node d n form second c arrays at)
      come work back
      (λ t y. let e = sym (eqb-true (kid_at t) d y) in (
        ap (λ k. piped_come (Some rule) node k n form second c arrays at t) e,
        ap (λ k. works c (arrays t) at (layout (child_of node k) (key t) (arrays t) at)
            (tree (w t) (child_of node k) 0 (layout (child_of node k) (key t) (arrays t) at) (path ++ t ∷ []))) e,
        ap (λ k. piped_back (Some rule) node k n form second c arrays at t) e,
      )) n

  pub spread_same : tree (Piped (Some rule) n form second c arrays w) node kid at path
      ≡ beside (fan_of node) (λ d. piped come work back (λ t. eqb (kid_at t) d) n)
  spread_same = beside_same (fan_of node) _ _ (λ d. lane_same d)

  pub follow : (d p t : ℕ) → Comes (λ u. eqb (kid_at u) d) p t → Comes (mates (Some rule) node n p) p t
  follow d p t h = subst (λ x. Comes (λ u. eqb (kid_at u) x) p t) (sym (eqb-true (kid_at p) d h.1)) h

  -- it is a map of calls
  pub at_once_meets : Meets R (AtOnce (Some rule) n calls) node kid at
  at_once_meets = record {
    cover = meets.cover;
    one = meets.one;
    clear = meets.clear;
    apart = meets.apart;
    aside =
        meets.aside;
    sums = meets.sums;
    sum_apart = meets.sum_apart;
  }

  fit : (t : ℕ) → t < n → CallFits c (arrays t) (w t) (child_of node (kid_at t))
  fit t lt = (sound.3.1 t lt).1.0

  plc : (t : ℕ) → t < n → CallPlaced (child_of node (kid_at t)) (key t) c (arrays t) (w t)
  plc t lt = (sound.3.1 t lt).1.1

  at_own : (t : ℕ) → t < n → (l : Spot) → l.area < c → lay t l ≡ own (child_of node (kid_at t)) (key t) l
  at_own t lt l la = lay_own (key t) c (arrays t) (w t) node (kid_at t) at (fit t lt) (λ i li. sound.0.lower t i lt li)
      (λ i li. sound.0.plain t i lt li) l la

  pub nothing_held : (t i : ℕ) → t < n → i < c → (arrays t i).place ≡ Held → ⊥
  nothing_held t i lt li h = let z : held (arrays t i).place ≡ false
      = ap held (sound.1.buffered t i lt li) in let y : held (arrays t i).place ≡ true = ap held h in cc

  own_cell : (t : ℕ) → t < n → (l : Spot) → IsIn c (arrays t) l
      → BufferCell (child_of node (kid_at t)) (key t) c (arrays t) (lay t l)
  own_cell t lt l i = (l, i, sound.1.buffered t l.area lt i.0, sym (at_own t lt l i.0))

  -- what the parts write
  come_at : (t : ℕ) → t < n → (p : Spot) → Writes (come t) p
      → TwiceCell (child_of node (kid_at t)) (key t) c (arrays t) p
  come_at t lt p h = in_writes (key t) c (arrays t) (w t) node (kid_at t) at (fit t lt)
      (λ i li. sound.0.lower t i lt li) (λ i li. sound.0.plain t i lt li) p h

  work_at : (t : ℕ) → t < n → (p : Spot) → Writes (work t) p → Scratch (calls t) node (kid_at t) p
  work_at t lt p h = ⊎_elim (λ x. held_none x) (λ x. held_none x) (⊎_elim
      (λ x. inl (work_puts (key t) c (arrays t) (w t) node (kid_at t) at (fit t lt) (λ i li. sound.0.lower t i lt li)
      (λ i li. sound.0.plain t i lt li) (body t)
      (λ q g. tree_puts (w t) (child_of node (kid_at t)) 0 (lay t) (path ++ t ∷ []) q (sound.3.1 t lt).1.2 g) p x))
      (λ x. inr (work_adds (key t) c (arrays t) (w t) node (kid_at t) at (fit t lt) (λ i li. sound.0.lower t i lt li)
      (λ i li. sound.0.plain t i lt li) (body t) x.0
      (λ q g. tree_adds (w t) (child_of node (kid_at t)) 0 (lay t) (path ++ t ∷ []) x.0 q (sound.3.1 t lt).1.2 g)
      (λ q g. closed_of (fit t lt) (lay t) x.0 q g) p x.1))
      (writes_of (work t) p h))
    where
      held_none : Scratch (calls t) node (kid_at t) p
          ⊎ HeldBack (key t) c (arrays t) (w t) node (kid_at t) at (fit t lt) (λ i li. sound.0.lower t i lt li)
          (λ i li. sound.0.plain t i lt li) p → Scratch (calls t) node (kid_at t) p
      held_none (inl x) = x
      held_none (inr x) = absurd (nothing_held t x.0.area lt x.1.0 x.2)

  back_at : (t : ℕ) → t < n → (p : Spot) → Writes (back t) p → (l : Spot) × Sets (calls t) node (kid_at t) at l p
  back_at t lt p h =
      let g = out_writes (key t) c (arrays t) (w t) node (kid_at t) at (fit t lt) (λ i li. sound.0.lower t i lt li)
      (λ i li. sound.0.plain t i lt li) p h in (
        _,
        out_sets (key t) c (arrays t) (w t) node (kid_at t) at (fit t lt) (λ i li. sound.0.lower t i lt li)
            (λ i li. sound.0.plain t i lt li) p g,
      )

  module _ (s : State) where
    abbrev Bef : ℕ → State → Type 0
    Bef = Before R (Some rule) n calls node kid at path sound.3 at_once_meets s

    abbrev Tou : ℕ → Spot → Spot → Type 0
    Tou = Touched R (Some rule) n calls node kid at path sound.3 at_once_meets s

    abbrev Don : ℕ → State → Type 0
    Don = Done R (Some rule) n calls node kid at path sound.3 at_once_meets s

    abbrev traps : ℕ → Option Trap
    traps = trap R (Some rule) n calls node kid at path sound.3 at_once_meets s

    up : (t : ℕ) → t < n → (l p : Spot) → Tou t l p → R l p ⊎ Sets (AtOnce (Some rule) n calls) node kid at l p
    up t lt l p h = touched_all R (Some rule) n calls node kid at path sound.3 at_once_meets s t lt l p h

    abbrev ends : ℕ → Outcome
    ends t = meaning (calls t) s

    -- its places hold the start, and its set the arguments; then its set the result
    abbrev Loaded : ℕ → State → Type 0
    Loaded t m = Bef t m × ((l : Spot) → IsIn c (arrays t) l → (arrays t l.area).mode ≢ Local → m (lay t l) ≡ entry_of
        (arrays t) s l)

    abbrev Ran : ℕ → State → Type 0
    Ran t m = Bef t m × ((after : State) × (ends t ≡ Ends (come_back c (arrays t) after s))
        × ((l : Spot) → IsIn c (arrays t) l → returned (arrays t l.area).mode ≡ true → m (lay t l) ≡ after l))

    -- no place of an iteration is written by the parts of another, and by its own before it goes back
    scratch_frame : (T : Tree) (a b : ℕ) → a < n → b < n
        → ((p : Spot) → Writes T p → Scratch (calls a) node (kid_at a) p) → (m : State) (l p : Spot) → Tou b l p
        → (run T m).mem p ≡ m p
    scratch_frame T a b la lb foot m l p h = run_frame T m p (λ x. meets.apart l p (up b lb l p h) (a, la, foot p x))

    come_frame : (a b : ℕ) → a < n → b < n → (m : State) (l p : Spot) → Tou b l p → (run (come a) m).mem p ≡ m p
    come_frame a b la lb m l p h = scratch_frame (come a) a b la lb
        (λ p x. let g = come_at a la p x in inl (g.0, g.1, g.2, g.4)) m l p h

    work_frame : (a b : ℕ) → a < n → b < n → (m : State) (l p : Spot) → Tou b l p → (run (work a) m).mem p ≡ m p
    work_frame a b la lb m l p h = scratch_frame (work a) a b la lb (work_at a la) m l p h

    back_frame : (a b : ℕ) → a < n → b < n → a ≢ b → (m : State) (l p : Spot) → Tou b l p → (run (back a) m).mem p ≡ m p
    back_frame a b la lb ne m l p h =
        run_frame (back a) m p (λ x. let g = back_at a la p x in let z = meets.clear g.0 l p (a, la, g.1)
        (up b lb l p h) in sound.3.0.apart a b la lb ne at l p p
        (subst (λ y. Sets (calls a) node (kid_at a) at y p) z g.1) h)

    -- the set of an iteration is written by no copy out
    back_cells : (a b : ℕ) → a < n → b < n → (m : State) (l : Spot) → IsIn c (arrays b) l
        → (run (back a) m).mem (lay b l) ≡ m (lay b l)
    back_cells a b la lb m l i = run_frame (back a) m (lay b l)
        (λ x. let g = back_at a la (lay b l) x in meets.apart g.0 (lay b l) (inr (a, la, g.1))
        (b, lb, inl (own_cell b lb l i)))

    twice : (t : ℕ) → t < n → (l : Spot) → IsIn c (arrays t) l → returned (arrays t l.area).mode ≡ true
        → TwiceCell (child_of node (kid_at t)) (key t) c (arrays t) (lay t l)
    twice t lt l i r = (
      l,
      i,
      sound.1.buffered t l.area lt i.0,
      returned_not_local (arrays t l.area).mode r,
      sym
          (at_own t lt l i.0),
    )

    comes_in : (t : ℕ) → t < n → (m : State) → Bef t m → ((run (come t) m).trap ≡ None) × Loaded t (run (come t) m).mem
    comes_in t lt m b = (
      in_none (key t) c (arrays t) (w t) node (kid_at t) at (fit t lt) (λ i li. sound.0.lower t i lt li)
          (λ i li. sound.0.plain t i lt li) m,
      (
        (λ l p h. come_frame t t lt lt m l p (inl h) ∙ b l p h),
        λ l i ne. came_in (key t) c (arrays t) (w t) node (kid_at t) at (fit t lt) (λ i li. sound.0.lower t i lt li)
            (λ i li. sound.0.plain t i lt li) (plc t lt) (λ l p. Needs (calls t) node (kid_at t) at l p)
            (turn_meets R (Some rule) n calls node kid at path sound.3 at_once_meets s t lt) s m
            (λ l i b' r. b _ _ (in_needs (key t) c (arrays t) (w t) node (kid_at t) at (fit t lt)
            (λ i li. sound.0.lower t i lt li) (λ i li. sound.0.plain t i lt li) (at (elem t l)) (l, i, b', r, refl)))
            l i (sound.1.buffered t l.area lt i.0) ne,
      ),
    )

    backs_out : (t : ℕ) → t < n → (m : State) → Ran t m → ((run (back t) m).trap ≡ None) × Don t (run (back t) m).mem
    backs_out t lt m g = (
      out_none (key t) c (arrays t) (w t) node (kid_at t) at (fit t lt) (λ i li. sound.0.lower t i lt li)
          (λ i li. sound.0.plain t i lt li) m,
      λ l p h. went_back (key t) c (arrays t) (w t) node (kid_at t) at (fit t lt) (λ i li. sound.0.lower t i lt li)
          (λ i li. sound.0.plain t i lt li) (plc t lt) (λ l p. Needs (calls t) node (kid_at t) at l p)
          (turn_meets R (Some rule) n calls node kid at path sound.3 at_once_meets s t lt) s g.1.0 m
          (λ l p x alone. g.0 l p x) (λ l i b r. g.1.2 l i r) l p h (λ q i b r e. nothing_held t q.area lt i.0 b)
          ∙ ap (λ o. state_or s o l) (sym g.1.1),
    )

    before_kept : (a b : ℕ) → a < n → b < n → a ≢ b → (m : State) → Bef b m → Bef b (run (come a) m).mem
        × Bef b (run (work a) m).mem × Bef b (run (back a) m).mem
    before_kept a b la lb ne m h = (
      (λ l p x. come_frame a b la lb m l p (inl x) ∙ h l p x),
      (λ l p x. work_frame a b la lb m l p (inl x) ∙ h l p x),
      λ l p x. back_frame a b la lb ne m l p (inl x)
          ∙ h l p x,
    )

    done_kept : (a b : ℕ) → a < n → b < n → a ≢ b → (m : State) → Don b m → Don b (run (come a) m).mem
        × Don b (run (work a) m).mem × Don b (run (back a) m).mem
    done_kept a b la lb ne m h = (
      (λ l p x. come_frame a b la lb m l p x ∙ h l p x),
      (λ l p x. work_frame a b la lb m l p x ∙ h l p x),
      λ l p x. back_frame a b la lb ne m l p x ∙ h l p x,
    )

    ran_kept : (d p t : ℕ) → Comes (λ u. eqb (kid_at u) d) p t → t < n → (m : State) → Ran p m
        → Ran p (run (come t) m).mem × Ran p (run (work t) m).mem
    ran_kept d p t f lt m g = (
      (
        (λ l q x. come_frame t p lt lp m l q (inl x) ∙ g.0 l q x),
        (
          g.1.0,
          g.1.1,
          λ l i r. run_frame (come t) m (lay p l)
              (λ x. sound.2.sooner p t (follow d p t f) lt (lay p l) (come_at t lt (lay p l) x) (inl (own_cell p lp l i)))
              ∙ g.1.2 l i r,
        ),
      ),
      (
        (λ l q x. work_frame t p lt lp m l q (inl x) ∙ g.0 l q x),
        (
          g.1.0,
          g.1.1,
          λ l i r. run_frame (work t) m (lay p l)
              (λ x. sound.2.later p t (follow d p t f) lt (lay p l) (twice p lp l i r) (work_at t lt (lay p l) x))
              ∙ g.1.2 l i r,
        ),
      ),
    )
      where
        lp : p < n
        lp = omega (arith, f.0)

    ran_kept_back : (d p t : ℕ) → Comes (λ u. eqb (kid_at u) d) p t → t < n → (m : State) → Ran t m
        → Ran t (run (back p) m).mem
    ran_kept_back d p t f lt m g = (
      (λ l q x. back_frame p t lp lt ne m l q (inl x) ∙ g.0 l q x),
      (g.1.0, g.1.1, λ l i r. back_cells p t lp lt m l i ∙ g.1.2 l i r),
    )
      where
        lp : p < n
        lp = omega (arith, f.0)

        ne : p ≢ t
        ne e = let z = f.0 in absurd (bar z e)
          where
            bar : p < t → p ≡ t → ⊥
            bar a b = omega arith

    module _ (ih : (t : ℕ) → t < n → (s' m' : State)
        → ((l p : Spot) → IsIn c (arrays t) l × (lay t l ≡ p) → m' p ≡ s' l)
        → Follows (λ l p. (IsIn c (arrays t) l × (lay t l ≡ p)) ⊎ Sets (w t) (child_of node (kid_at t)) 0 (lay t) l p)
        (path ++ t ∷ []) (meaning (w t) s') (run (body t) m')) where
      works_on : (t : ℕ) → t < n → (m : State) → Loaded t m → ((run (work t) m).trap ≡ traps t)
          × (traps t ≡ None → Ran t (run (work t) m).mem)
      works_on t lt m g =
          go (meaning (w t) (entry_of (arrays t) s)) refl
          (work_follows (key t) c (arrays t) (w t) node (kid_at t) at (fit t lt) (λ i li. sound.0.lower t i lt li)
          (λ i li. sound.0.plain t i lt li) (plc t lt) (λ l p. Needs (calls t) node (kid_at t) at l p)
          (turn_meets R (Some rule) n calls node kid at path sound.3 at_once_meets s t lt) s (path ++ t ∷ []) (body t)
          (ih t lt) m
          (λ l i b ne. g.1 l i ne) (λ l i h r. absurd (nothing_held t l.area lt i.0 h)))
        where
          go : (o : Outcome) → meaning (w t) (entry_of (arrays t) s) ≡ o
              → Follows (λ l p. (IsIn c (arrays t) l × (lay t l ≡ p))
              ⊎ Sets (w t) (child_of node (kid_at t)) 0 (lay t) l p) (path ++ t ∷ []) o (run (work t) m)
              → ((run (work t) m).trap ≡ traps t) × (traps t ≡ None → Ran t (run (work t) m).mem)
          go (Traps x) e f =
              let z : traps t ≡ Some (under path (front t x))
              = ap (λ o. below path (trap_of (numbered t (returns_to o c (arrays t) s)))) e in (
                f ∙ ap (λ p. Some (record { path = p; cause = x.cause })) (append_assoc path (t ∷ []) x.path)
                    ∙ sym z,
                λ none. absurd (let y = sym z ∙ none in cc),
              )
          go (Ends after) e f =
              let z : traps t ≡ None = ap (λ o. below path (trap_of (numbered t (returns_to o c (arrays t) s)))) e in (
                f.0 ∙ sym z,
                λ none. (
                  (λ l p h. work_frame t t lt lt m l p (inl h) ∙ g.0 l p h),
                  (after, ap (λ o. returns_to o c (arrays t) s) e, λ l i r. f.1 l (lay t l) (inl (i, refl))),
                ),
              )

      abbrev pub lanes : Tree
      lanes = beside (fan_of node) (λ d. piped come work back (λ t. eqb (kid_at t) d) n)

      pub spread_follows : (m : State) → ((l p : Spot) → R l p → m p ≡ s l)
          → ((p : Spot) → Writes lanes p → Changes (AtOnce (Some rule) n calls) node kid at p)
          → Follows (λ l p. R l p ⊎ Sets (AtOnce (Some rule) n calls) node kid at l p) path
          (at_once n (λ t. written (calls t)) ends s) (run lanes m)
      spread_follows m agree foot =
          let h = pipes_go path n kid_at come work back traps Bef Loaded Ran Don comes_in works_on backs_out before_kept
          done_kept ran_kept ran_kept_back (fan_of node) m (λ t lt l p x. agree l p (meets.cover l p (t, lt, x))) in
          at_once_follows R (Some rule) n calls node kid at path sound.3 at_once_meets s (run lanes m)
          (h.0 ∙ all_lanes path n (fan_of node) kid_at traps
          (trap_is R (Some rule) n calls node kid at path sound.3 at_once_meets s) (λ t lt. (sound.3.1 t lt).0))
          (λ all t lt. h.1 all t lt (sound.3.1 t lt).0)
          (still R (Some rule) n calls node kid at path sound.3 at_once_meets s m agree lanes foot)
