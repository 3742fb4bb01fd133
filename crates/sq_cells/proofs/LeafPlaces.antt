-- Each leaf event stands at the node of its call, with all of its arrays.
use Rattle.std.proofs.Common.{◌≡◌, ℕ, zero, suc, ◌<◌, ◌≤◌, Bool, true, false, eqb, Option, Some, None, refl, sym, ap}
use Rattle.std.proofs.Common.{◌∙◌, subst, arith, List, [], ◌∷◌, ◌++◌, ◌⊎◌, inl, inr, ⊎_elim, eqb-true}
use Rattle.sq_cells.specs.Cells.{Spot, spot}
use Rattle.sq_cells.specs.Tree.{Code, Copy, Fill, Acc, Run, Tree, Empty, Act, Seq, Par}
use Rattle.sq_cells.specs.Machine.{Form, Node, child_of, fan_of, Rule, lane_of}
use Rattle.sq_cells.specs.Work.{Mode, Input, Output, Both, Local, Reduced, Place, Buffer, InPlace, Held, Array, Work}
use Rattle.sq_cells.specs.Work.{Nothing, Then, Each, AtOnce, Call, Hold, Reduce, Piped, Leaf}
use Rattle.sq_cells.specs.Lowered.{Layout, node_of, layout, pick, held, stays, in_place, own, bring, clear, give_back}
use Rattle.sq_cells.specs.Lowered.{take_one, leave_one, beside, turns, every, callee, outs, call_tree, comes, works}
use Rattle.sq_cells.specs.Lowered.{Stand, NoneYet, First, More, stand, stage_of, staged, last_of, piped, set_of}
use Rattle.sq_cells.specs.Lowered.{piped_come, piped_work, piped_back, tree, IsIn, HeldCell, Needs, Sets, CallFits}
use Rattle.sq_cells.specs.Lowered.{HoldFits}
use Rattle.sq_cells.specs.Leaves.{LeafAt, LeafPlaced, LeavesPlaced}
use Rattle.sq_cells.proofs.Access.{is_held_cell, reads_or_returned}
use Rattle.sq_cells.proofs.Stands.{Has, has}
use Rattle.sq_cells.proofs.Footprint.{stays_public}

-- a work that has the calls of another
abbrev Has' : (w : Work) (node : Node) (kid : ℕ) (path : List ℕ) (v : Work) (node' : Node) (kid' : ℕ) (path' : List ℕ)
    → Type 0
Has' w node kid path v node' kid' path' = (code : Code) (p : List ℕ) (x : ℕ) → LeafAt v node' kid' path' code p x
    → LeafAt w node kid path code p x

wider : (w : Work) (node : Node) (kid : ℕ) (path : List ℕ) (v : Work) (node' : Node) (kid' : ℕ) (path' : List ℕ)
    → Has' w node kid path v node' kid' path' → (t : Tree) → LeafPlaced v node' kid' path' t
    → LeafPlaced w node kid path t
wider w node kid path v node' kid' path' h Empty g = tt
wider w node kid path v node' kid' path' h (Act (Copy n from to)) g = tt
wider w node kid path v node' kid' path' h (Act (Fill n u to)) g = tt
wider w node kid path v node' kid' path' h (Act (Acc op n from to)) g = tt
wider w node kid path v node' kid' path' h (Act (Run code count size writes cell p)) g = (g.0, h code p g.0 g.1, g.2)
wider w node kid path v node' kid' path' h (Seq a b) g
    = (wider w node kid path v node' kid' path' h a g.0, wider w node kid path v node' kid' path' h b g.1)
wider w node kid path v node' kid' path' h (Par a b) g
    = (wider w node kid path v node' kid' path' h a g.0, wider w node kid path v node' kid' path' h b g.1)

module _ (w : Work) (node : Node) (kid : ℕ) (path : List ℕ) where
  abbrev Ok : Tree → Type 0
  Ok t = LeafPlaced w node kid path t

  ok_beside : (n : ℕ) (f : ℕ → Tree) → ((i : ℕ) → Ok (f i)) → Ok (beside n f)
  ok_beside zero f h = tt
  ok_beside (suc n) f h = (ok_beside n f h, h n)

  ok_pick : (b : Bool) (t : Tree) → (b ≡ true → Ok t) → Ok (pick b t Empty)
  ok_pick true t h = h refl
  ok_pick false t h = tt

  ok_other : (b : Bool) (t : Tree) → Ok t → Ok (pick b Empty t)
  ok_other true t h = tt
  ok_other false t h = h

  ok_turns : (q : ℕ → Bool) (n : ℕ) (f : ℕ → Tree) → ((t : ℕ) → t < n → q t ≡ true → Ok (f t)) → Ok (turns q n f)
  ok_turns q zero f h = tt
  ok_turns q (suc n) f h = (
    ok_turns q n f (λ t lt y. h t (omega arith) y),
    ok_pick (q n) (f n)
        (λ y. h n (omega arith) y),
  )

  ok_bring : (m : Mode) (b : Bool) (n : ℕ) (f to : ℕ → Spot) → Ok (bring m b n f to)
  ok_bring Input true n f to = tt
  ok_bring Input false n f to = tt
  ok_bring Output b n f to = tt
  ok_bring Both true n f to = tt
  ok_bring Both false n f to = tt
  ok_bring Local b n f to = tt
  ok_bring (Reduced op) true n f to = tt
  ok_bring (Reduced op) false n f to = tt

  ok_clear : (m : Mode) (n : ℕ) (to : ℕ → Spot) → Ok (clear m n to)
  ok_clear Input n to = tt
  ok_clear Output n to = tt
  ok_clear Both n to = tt
  ok_clear Local n to = tt
  ok_clear (Reduced op) n to = tt

  ok_give : (m : Mode) (b : Bool) (n : ℕ) (f to : ℕ → Spot) → Ok (give_back m b n f to)
  ok_give Input b n f to = tt
  ok_give Output true n f to = tt
  ok_give Output false n f to = tt
  ok_give Both true n f to = tt
  ok_give Both false n f to = tt
  ok_give Local b n f to = tt
  ok_give (Reduced op) true n f to = tt
  ok_give (Reduced op) false n f to = tt

  ok_take : (m : Mode) (b : Bool) (n : ℕ) (f to : ℕ → Spot) → Ok (take_one m b n f to)
  ok_take m false n f to = tt
  ok_take Input true n f to = tt
  ok_take Output true n f to = tt
  ok_take Both true n f to = tt
  ok_take Local true n f to = tt
  ok_take (Reduced op) true n f to = tt

  ok_leave : (m : Mode) (b : Bool) (n : ℕ) (f to : ℕ → Spot) → Ok (leave_one m b n f to)
  ok_leave m false n f to = tt
  ok_leave Input true n f to = tt
  ok_leave Output true n f to = tt
  ok_leave Both true n f to = tt
  ok_leave Local true n f to = tt
  ok_leave (Reduced op) true n f to = tt

  ok_callee : (n : ℕ) (arrays : ℕ → Array) (at' : Layout) (body : Tree) → Ok body → Ok (callee n arrays at' body)
  ok_callee n arrays at' body h = (
    ok_beside n (λ i. clear (arrays i).mode (arrays i).size (λ k. at' (spot i k)))
        (λ i. ok_clear (arrays i).mode (arrays i).size (λ k. at' (spot i k))),
    h,
  )

  ok_outs : (n : ℕ) (arrays : ℕ → Array) (at at' : Layout) → Ok (outs n arrays at at')
  ok_outs n arrays at at' = ok_beside n
      (λ i. give_back (arrays i).mode (stays (arrays i).place) (arrays i).size (λ k. at' (spot i k))
      (λ k. at ((arrays i).block k)))
      (λ i. ok_give (arrays i).mode (stays (arrays i).place) (arrays i).size (λ k. at' (spot i k))
      (λ k. at ((arrays i).block k)))

  ok_call : (n : ℕ) (arrays : ℕ → Array) (at at' : Layout) (body : Tree) → Ok body → Ok (call_tree n arrays at at' body)
  ok_call n arrays at at' body h = (
    ok_beside n (λ i. bring (arrays i).mode (stays (arrays i).place) (arrays i).size (λ k. at ((arrays i).block k))
        (λ k. at' (spot i k))) (λ i. ok_bring (arrays i).mode (stays (arrays i).place) (arrays i).size
        (λ k. at ((arrays i).block k)) (λ k. at' (spot i k))),
    (ok_callee n arrays at' body h, ok_outs n arrays at at'),
  )

  ok_comes : (n : ℕ) (arrays : ℕ → Array) (at at' : Layout) → Ok (comes n arrays at at')
  ok_comes n arrays at at' = ok_beside n
      (λ i. pick (held (arrays i).place) Empty
      (bring (arrays i).mode (stays (arrays i).place) (arrays i).size (λ k. at ((arrays i).block k))
      (λ k. at' (spot i k)))) (λ i. ok_other (held (arrays i).place)
      (bring (arrays i).mode (stays (arrays i).place) (arrays i).size (λ k. at ((arrays i).block k))
      (λ k. at' (spot i k))) (ok_bring (arrays i).mode (stays (arrays i).place) (arrays i).size
      (λ k. at ((arrays i).block k)) (λ k. at' (spot i k))))

  ok_works : (n : ℕ) (arrays : ℕ → Array) (at at' : Layout) (body : Tree) → Ok body → Ok (works n arrays at at' body)
  ok_works n arrays at at' body h
      = (
        ok_beside n (λ i. pick (held (arrays i).place)
            (bring (arrays i).mode (stays (arrays i).place) (arrays i).size (λ k. at ((arrays i).block k))
            (λ k. at' (spot i k))) Empty) (λ i. ok_pick (held (arrays i).place)
            (bring (arrays i).mode (stays (arrays i).place) (arrays i).size (λ k. at ((arrays i).block k))
            (λ k. at' (spot i k))) (λ y. ok_bring (arrays i).mode (stays (arrays i).place) (arrays i).size
            (λ k. at ((arrays i).block k)) (λ k. at' (spot i k)))),
        ok_callee n arrays at' body h,
      )

  module _ (come work back : ℕ → Tree) (q : ℕ → Bool) (comes_ok : (t : ℕ) → Ok (come t))
      (backs_ok : (t : ℕ) → Ok (back t)) (n : ℕ) (works_ok : (t : ℕ) → t < n → q t ≡ true → Ok (work t)) where
    ok_stage : (d : Stand) (j : ℕ) → j ≤ n → Has q d j → Ok (stage_of come work back d j)
    ok_stage NoneYet j le h = comes_ok j
    ok_stage (First t) j le h = (works_ok t (omega (arith, h.0)) h.1, (tt, comes_ok j))
    ok_stage (More p t) j le h = (works_ok t (omega (arith, h.0)) h.1, (backs_ok p, comes_ok j))

    ok_staged : (j : ℕ) → j ≤ n → Ok (staged come work back q j)
    ok_staged zero le = tt
    ok_staged (suc j) le = (
      ok_staged j (omega arith),
      ok_pick (q j) (stage_of come work back (stand q j) j)
          (λ y. ok_stage (stand q j) j (omega arith) (has q j)),
    )

    ok_last : (d : Stand) → Has q d n → Ok (last_of work back d)
    ok_last NoneYet h = tt
    ok_last (First t) h = ((works_ok t h.0 h.1, tt), backs_ok t)
    ok_last (More p t) h = ((works_ok t h.0 h.1, backs_ok p), backs_ok t)

    ok_piped : Ok (piped come work back q n)
    ok_piped = (ok_staged n (omega arith), ok_last (stand q n) (has q n))

  ok_list : (spread : Option Rule) (n : ℕ) (form second : Form) (c : ℕ) (arrays : ℕ → ℕ → Array) (node' : Node) (k : ℕ)
      (at : Layout) (q : ℕ → Bool) (body : ℕ → Tree) → ((t : ℕ) → t < n → q t ≡ true → Ok (body t))
      → Ok (piped (piped_come spread node' k n form second c arrays at)
      (piped_work spread node' k n form second c arrays at body) (piped_back spread node' k n form second c arrays at) q
      n)
  ok_list spread n form second c arrays node' k at q body h =
      ok_piped (piped_come spread node' k n form second c arrays at)
      (piped_work spread node' k n form second c arrays at body)
      (piped_back spread node' k n form second c arrays at) q
      (λ t. ok_comes c (arrays t) at (layout (child_of node' k) (set_of spread node' n form second t) (arrays t) at))
      (λ t. ok_outs c (arrays t) at (layout (child_of node' k) (set_of spread node' n form second t) (arrays t) at)) n
      (λ t lt y. ok_works c (arrays t) at
      (layout (child_of node' k) (set_of spread node' n form second t) (arrays t) at) (body t) (h t lt y))

abbrev Reach : Work → (node : Node) (kid : ℕ) → Layout → Type 0
Reach w node kid at = (l p : Spot) → Needs w node kid at l p ⊎ Sets w node kid at l p → (at l).area ≡ node.number

-- a callee's arrays stand at its node
call_reach : (form : Form) (n : ℕ) (lower : Bool) (arrays : ℕ → Array) (w : Work) (node : Node) (kid : ℕ) (at : Layout)
    → CallFits n arrays w (node_of lower node kid)
    → ((i : ℕ) → i < n → in_place (arrays i).place ≡ true → lower ≡ false)
    → Reach (Call form lower n arrays w) node kid at
    → Reach w (node_of lower node kid) 0 (layout (node_of lower node kid) form arrays at)
call_reach form n lower arrays w node kid at fits level reach l p h = go (in_place (arrays l.area).place) refl
  where
    i : IsIn n arrays l
    i = (fits.inside (layout (node_of lower node kid) form arrays at) l p h).0

    go : (b : Bool) → in_place (arrays l.area).place ≡ b → (layout (node_of lower node kid) form arrays at l).area
        ≡ (node_of lower node kid).number
    go false e = ap (λ b. (pick b (at ((arrays l.area).block l.index)) (own (node_of lower node kid) form l)).area) e
    go true e =
        let s : stays (arrays l.area).place ≡ true = stay (arrays l.area).place e in
        let pub' = stays_public form n lower arrays w node kid at fits l i.0 s in
        ap (λ b. (pick b (at ((arrays l.area).block l.index)) (own (node_of lower node kid) form l)).area) e
        ∙ ⊎_elim (λ r. reach _ _ (inl (l, i, r, refl, refl))) (λ r. reach _ _ (inr (l, i, r, refl, refl)))
        (reads_or_returned (arrays l.area).mode pub')
        ∙ sym (ap (λ b. (node_of b node kid).number) (level l.area i.0 e))
      where
        stay : (a : Place) → in_place a ≡ true → stays a ≡ true
        stay Buffer e = cc
        stay InPlace e = refl
        stay Held e = cc

-- inside a loop that holds arrays the caller's elements are the same
hold_reach : (form : Form) (n : ℕ) (arrays : ℕ → Array) (w : Work) (node : Node) (kid : ℕ) (at : Layout)
    → HoldFits form n arrays w node kid → Reach (Hold form n arrays w) node kid at → Reach w node kid at
hold_reach form n arrays w node kid at fits reach l p (inl h) = go (is_held_cell (child_of node kid) form n arrays p)
  where
    go : HeldCell (child_of node kid) form n arrays p ⊎ (HeldCell (child_of node kid) form n arrays p → ⊥) → (at l).area
        ≡ node.number
    go (inr none) = reach l p (inl (inl (h, inl none)))
    go (inl c) = ⊎_elim (λ g. reach l (at l) (inl (inr (c.0, c.1, c.2, g.1, g.0, refl))))
        (λ e. reach l p (inl (inl (h, inr (e ∙ c.3)))))
        (fits.read_held at l c.0 c.1 c.2 (subst (λ x. Needs w node kid at l x) (sym c.3) h))
hold_reach form n arrays w node kid at fits reach l p (inr h) = go (is_held_cell (child_of node kid) form n arrays p)
  where
    go : HeldCell (child_of node kid) form n arrays p ⊎ (HeldCell (child_of node kid) form n arrays p → ⊥) → (at l).area
        ≡ node.number
    go (inr none) = reach l p (inr (inl (h, inl none)))
    go (inl c) = ⊎_elim (λ g. reach l (at l) (inr (inr (c.0, c.1, c.2, g.1, g.0, refl))))
        (λ e. reach l p (inr (inl (h, inr (e ∙ c.3)))))
        (fits.set_held at l c.0 c.1 c.2 (subst (λ x. Sets w node kid at l x) (sym c.3) h))

-- of a lower call whose arguments are not in place
no_place : (c : ℕ) (arrays : ℕ → Array) → ((i : ℕ) → i < c → in_place (arrays i).place ≡ false) → (i : ℕ) → i < c
    → in_place (arrays i).place ≡ true → true ≡ false
no_place c arrays low i li e = cc (low i li)

pub leaves_placed : LeavesPlaced
leaves_placed Nothing node kid at path s level reach = tt
leaves_placed (Then a b) node kid at path s level reach = (
  wider (Then a b) node kid path a node kid path (λ code p x h. inl h) _
      (leaves_placed a node kid at path s.0 level.0
      (λ l p h. reach l p (⊎_elim (λ x. inl (inl x)) (λ x. inr (inl x)) h))),
  wider (Then a b) node kid path b node kid path (λ code p x h. inr h) _
      (leaves_placed b node kid at path s.1 level.1
      (λ l p h. reach l p (⊎_elim (λ x. inl (inr x)) (λ x. inr (inr x)) h))),
)
leaves_placed (Each n w) node kid at path s level reach =
    ok_turns (Each n w) node kid path every n (λ t. tree (w t) node kid at (path ++ t ∷ []))
    (λ t lt y. wider (Each n w) node kid path (w t) node kid (path ++ t ∷ []) (λ code p x h. (t, lt, h)) _
    (leaves_placed (w t) node kid at (path ++ t ∷ []) (s t lt) (level t lt)
    (λ l p h. reach l p (⊎_elim (λ x. inl (t, lt, x)) (λ x. inr (t, lt, x)) h))))
leaves_placed (AtOnce None n w) node kid at path s level reach =
    ok_turns (AtOnce None n w) node kid path every n (λ t. tree (w t) node kid at (path ++ t ∷ []))
    (λ t lt y. wider (AtOnce None n w) node kid path (w t) node kid (path ++ t ∷ []) (λ code p x h. (t, lt, h)) _
    (leaves_placed (w t) node kid at (path ++ t ∷ []) (s.1 t lt).1 (level t lt)
    (λ l p h. reach l p (⊎_elim (λ x. inl (t, lt, x)) (λ x. inr (t, lt, x)) h))))
leaves_placed (AtOnce (Some rule) n w) node kid at path s level reach =
    ok_beside (AtOnce (Some rule) n w) node kid path (fan_of node) _
    (λ d. ok_turns (AtOnce (Some rule) n w) node kid path (λ t. eqb (lane_of rule node n t) d) n
    (λ t. tree (w t) node d at (path ++ t ∷ []))
    (λ t lt y. subst (λ k. LeafPlaced (AtOnce (Some rule) n w) node kid path (tree (w t) node k at (path ++ t ∷ [])))
    (eqb-true (lane_of rule node n t) d y)
    (wider (AtOnce (Some rule) n w) node kid path (w t) node (lane_of rule node n t) (path ++ t ∷ [])
    (λ code p x h. (t, lt, h)) _ (leaves_placed (w t) node (lane_of rule node n t) at (path ++ t ∷ []) (s.1 t lt).1
    (level t lt) (λ l p h. reach l p (⊎_elim (λ x. inl (t, lt, x)) (λ x. inr (t, lt, x)) h))))))
leaves_placed (Call form lower n arrays w) node kid at path s level reach =
    ok_call (Call form lower n arrays w) node kid path n arrays at (layout (node_of lower node kid) form arrays at) _
    (wider (Call form lower n arrays w) node kid path w (node_of lower node kid) 0 path (λ code p x h. h) _
    (leaves_placed w (node_of lower node kid) 0 (layout (node_of lower node kid) form arrays at) path s.2 level.1
    (call_reach form n lower arrays w node kid at s.0 level.0 reach)))
leaves_placed (Hold form n arrays w) node kid at path s level reach = (
  ok_beside (Hold form n arrays w) node kid path n _
      (λ i. ok_take (Hold form n arrays w) node kid path (arrays i).mode (held (arrays i).place) (arrays i).size
      (λ k. at ((arrays i).block k)) (λ k. own (child_of node kid) form (spot i k))),
  (
    wider (Hold form n arrays w) node kid path w node kid path (λ code p x h. h) _
        (leaves_placed w node kid at path s.1 level (hold_reach form n arrays w node kid at s.0 reach)),
    ok_beside (Hold form n arrays w) node kid path n _
        (λ i. ok_leave (Hold form n arrays w) node kid path (arrays i).mode (held (arrays i).place) (arrays i).size
        (λ k. own (child_of node kid) form (spot i k)) (λ k. at ((arrays i).block k))),
  ),
)
leaves_placed (Reduce op size block which None n form lower c arrays w) node kid at path s level reach =
    ok_turns (Reduce op size block which None n form lower c arrays w) node kid path every n
    (λ t. call_tree (c t) (arrays t) at (layout (node_of lower node kid) (form t) (arrays t) at)
    (tree (w t) (node_of lower node kid) 0 (layout (node_of lower node kid) (form t) (arrays t) at)
    (path ++ t ∷ [])))
    (λ t lt y. ok_call (Reduce op size block which None n form lower c arrays w) node kid path (c t) (arrays t) at
    (layout (node_of lower node kid) (form t) (arrays t) at) _
    (wider (Reduce op size block which None n form lower c arrays w) node kid path (w t) (node_of lower node kid) 0
    (path ++ t ∷ []) (λ code p x h. (t, lt, h)) _
    (leaves_placed (w t) (node_of lower node kid) 0 (layout (node_of lower node kid) (form t) (arrays t) at)
    (path ++ t ∷ []) (s.1.1 t lt).1.2 (level t lt).1
    (call_reach (form t) (c t) lower (arrays t) (w t) node kid at (s.1.1 t lt).1.0 (level t lt).0
    (λ l p h. reach l p (⊎_elim (λ x. inl (inl (t, lt, x))) (λ x. inr (inl (t, lt, x))) h))))))
leaves_placed (Reduce op size block which (Some rule) n form lower c arrays w) node kid at path s level reach =
    ok_beside (Reduce op size block which (Some rule) n form lower c arrays w) node kid path (fan_of node) _
    (λ d. ok_turns (Reduce op size block which (Some rule) n form lower c arrays w) node kid path
    (λ t. eqb (lane_of rule node n t) d) n
    (λ t. call_tree (c t) (arrays t) at (layout (node_of lower node d) (form t) (arrays t) at)
    (tree (w t) (node_of lower node d) 0 (layout (node_of lower node d) (form t) (arrays t) at) (path ++ t ∷ [])))
    (λ t lt y. subst (λ k. LeafPlaced (Reduce op size block which (Some rule) n form lower c arrays w) node kid path
    (call_tree (c t) (arrays t) at (layout (node_of lower node k) (form t) (arrays t) at)
    (tree (w t) (node_of lower node k) 0 (layout (node_of lower node k) (form t) (arrays t) at) (path ++ t ∷ []))))
    (eqb-true (lane_of rule node n t) d y)
    (ok_call (Reduce op size block which (Some rule) n form lower c arrays w) node kid path (c t) (arrays t) at
    (layout (node_of lower node (lane_of rule node n t)) (form t) (arrays t) at) _
    (wider (Reduce op size block which (Some rule) n form lower c arrays w) node kid path (w t)
    (node_of lower node (lane_of rule node n t)) 0 (path ++ t ∷ []) (λ code p x h. (t, lt, h)) _
    (leaves_placed (w t) (node_of lower node (lane_of rule node n t)) 0
    (layout (node_of lower node (lane_of rule node n t)) (form t) (arrays t) at) (path ++ t ∷ []) (s.1.1 t lt).1.2
    (level t lt).1 (call_reach (form t) (c t) lower (arrays t) (w t) node (lane_of rule node n t) at (s.1.1 t lt).1.0
    (level t lt).0 (λ l p h. reach l p (⊎_elim (λ x. inl (inl (t, lt, x))) (λ x. inr (inl (t, lt, x))) h))))))))
leaves_placed (Piped None n form second c arrays w) node kid at path s level reach =
    ok_list (Piped None n form second c arrays w) node kid path None n form second c arrays node kid at every
    (λ t. tree (w t) (child_of node kid) 0
    (layout (child_of node kid) (set_of None node n form second t) (arrays t) at) (path ++ t ∷ []))
    (λ t lt y. wider (Piped None n form second c arrays w) node kid path (w t) (child_of node kid) 0 (path ++ t ∷ [])
    (λ code p x h. (t, lt, h)) _ (leaves_placed (w t) (child_of node kid) 0
    (layout (child_of node kid) (set_of None node n form second t) (arrays t) at) (path ++ t ∷ []) (s.3 t lt).2
    (level t lt)
    (call_reach (set_of None node n form second t) c true (arrays t) (w t) node kid at (s.3 t lt).0
    (no_place c (arrays t) (λ i li. s.0.lower t i lt li))
    (λ l p h. reach l p (⊎_elim (λ x. inl (t, lt, x)) (λ x. inr (t, lt, x)) h)))))
leaves_placed (Piped (Some rule) n form second c arrays w) node kid at path s level reach =
    ok_beside (Piped (Some rule) n form second c arrays w) node kid path (fan_of node) _
    (λ d. ok_list (Piped (Some rule) n form second c arrays w) node kid path (Some rule) n form second c arrays node
    d at (λ t. eqb (lane_of rule node n t) d)
    (λ t. tree (w t) (child_of node d) 0
    (layout (child_of node d) (set_of (Some rule) node n form second t) (arrays t) at) (path ++ t ∷ []))
    (λ t lt y. subst (λ k. LeafPlaced (Piped (Some rule) n form second c arrays w) node kid path
    (tree (w t) (child_of node k) 0 (layout (child_of node k) (set_of (Some rule) node n form second t) (arrays t) at)
    (path ++ t ∷ []))) (eqb-true (lane_of rule node n t) d y)
    (wider (Piped (Some rule) n form second c arrays w) node kid path (w t) (child_of node (lane_of rule node n t)) 0
    (path ++ t ∷ []) (λ code p x h. (t, lt, h)) _
    (leaves_placed (w t) (child_of node (lane_of rule node n t)) 0
    (layout (child_of node (lane_of rule node n t)) (set_of (Some rule) node n form second t) (arrays t) at)
    (path ++ t ∷ []) (s.3.1 t lt).1.2 (level t lt)
    (call_reach (set_of (Some rule) node n form second t) c true (arrays t) (w t) node (lane_of rule node n t) at
    (s.3.1 t lt).1.0 (no_place c (arrays t) (λ i li. s.0.lower t i lt li))
    (λ l p h. reach l p (⊎_elim (λ x. inl (t, lt, x)) (λ x. inr (t, lt, x)) h)))))))
leaves_placed (Leaf code n size writes) node kid at path s level reach
    = (node.number, (refl, refl, refl), λ i k li lk. reach (spot i k) (at (spot i k)) (inl (li, lk, refl)))
