-- Unordered leaf events have different paths.
use Rattle.std.proofs.Common.{◌≡◌, ◌≢◌, ℕ, zero, suc, ◌<◌, Bool, true, false, eqb, eqb-true, refl, sym, ap, ◌∙◌, arith}
use Rattle.std.proofs.Common.{List, [], ◌∷◌, ◌++◌, append_assoc, append-nil, inl, inr, ⊎_elim, Option, Some, None}
use Rattle.sq_cells.specs.Cells.{Spot}
use Rattle.sq_cells.specs.Tree.{Tree, Empty, Act, Seq, Par}
use Rattle.sq_cells.specs.Work.{Mode, Input, Output, Both, Local, Reduced, Array, Work, Nothing, Then, Each, AtOnce}
use Rattle.sq_cells.specs.Work.{Call, Hold, Reduce, Piped, Leaf}
use Rattle.sq_cells.specs.Machine.{Form, Node, child_of, fan_of, Rule, lane_of}
use Rattle.sq_cells.specs.Lowered.{Layout, node_of, layout, pick, bring, clear, give_back, take_one, leave_one, beside}
use Rattle.sq_cells.specs.Lowered.{turns, held, outs, comes, starts, works, Stand, NoneYet, First, More, stand}
use Rattle.sq_cells.specs.Lowered.{stage_of, staged, last_of, piped, set_of, piped_come, piped_work, piped_back}
use Rattle.sq_cells.specs.Lowered.{call_tree, every, tree}
use Rattle.sq_cells.specs.Leaves.{HasLeaf, PathsApart, LeafPathsApart}
use Rattle.sq_cells.proofs.Stands.{Has, has}

same_number : (path r r' : List ℕ) (a b : ℕ) → path ++ a ∷ r ≡ path ++ b ∷ r' → a ≡ b
same_number [] r r' a b e = cc
same_number (x ∷ path) r r' a b e = let h : path ++ a ∷ r ≡ path ++ b ∷ r' = cc in same_number path r r' a b h

leaf_beside : (n : ℕ) (f : ℕ → Tree) (p : List ℕ) → HasLeaf (beside n f) p → (i : ℕ) × (i < n) × HasLeaf (f i) p
leaf_beside zero f p h = absurd h
leaf_beside (suc n) f p h = ⊎_elim (λ a. let g = leaf_beside n f p a in (g.0, omega (arith, g.1), g.2))
    (λ b. (n, omega arith, b)) h

leaf_turns : (q : ℕ → Bool) (n : ℕ) (f : ℕ → Tree) (p : List ℕ) → HasLeaf (turns q n f) p → (t : ℕ) × (t < n)
    × (q t ≡ true) × HasLeaf (f t) p
leaf_turns q zero f p h = absurd h
leaf_turns q (suc n) f p h = ⊎_elim (λ a. let g = leaf_turns q n f p a in (g.0, omega (arith, g.1), g.2, g.3))
    (λ b. go (q n) refl b) h
  where
    go : (b : Bool) → q n ≡ b → HasLeaf (pick b (f n) Empty) p → (t : ℕ) × (t < suc n) × (q t ≡ true) × HasLeaf (f t) p
    go true e h = (n, omega arith, e, h)
    go false e h = absurd h

no_bring : (m : Mode) (b : Bool) (n : ℕ) (source to : ℕ → Spot) (p : List ℕ) → HasLeaf (bring m b n source to) p → ⊥
no_bring Input true n source to p h = h
no_bring Input false n source to p h = h
no_bring Output b n source to p h = h
no_bring Both true n source to p h = h
no_bring Both false n source to p h = h
no_bring Local b n source to p h = h
no_bring (Reduced op) true n source to p h = h
no_bring (Reduced op) false n source to p h = h

no_clear : (m : Mode) (n : ℕ) (to : ℕ → Spot) (p : List ℕ) → HasLeaf (clear m n to) p → ⊥
no_clear Input n to p h = h
no_clear Output n to p h = h
no_clear Both n to p h = h
no_clear Local n to p h = h
no_clear (Reduced op) n to p h = h

no_give : (m : Mode) (b : Bool) (n : ℕ) (source to : ℕ → Spot) (p : List ℕ) → HasLeaf (give_back m b n source to) p → ⊥
no_give Input b n source to p h = h
no_give Output true n source to p h = h
no_give Output false n source to p h = h
no_give Both true n source to p h = h
no_give Both false n source to p h = h
no_give Local b n source to p h = h
no_give (Reduced op) true n source to p h = h
no_give (Reduced op) false n source to p h = h

no_take : (m : Mode) (b : Bool) (n : ℕ) (source to : ℕ → Spot) (p : List ℕ) → HasLeaf (take_one m b n source to) p → ⊥
no_take m false n source to p h = h
no_take Input true n source to p h = h
no_take Output true n source to p h = h
no_take Both true n source to p h = h
no_take Local true n source to p h = h
no_take (Reduced op) true n source to p h = h

no_leave : (m : Mode) (b : Bool) (n : ℕ) (source to : ℕ → Spot) (p : List ℕ) → HasLeaf (leave_one m b n source to) p → ⊥
no_leave m false n source to p h = h
no_leave Input true n source to p h = h
no_leave Output true n source to p h = h
no_leave Both true n source to p h = h
no_leave Local true n source to p h = h
no_leave (Reduced op) true n source to p h = h

-- the leaves of a part that is picked
leaf_pick : (b : Bool) (t : Tree) (p : List ℕ) → HasLeaf (pick b t Empty) p → HasLeaf t p
leaf_pick true t p h = h
leaf_pick false t p h = absurd h

leaf_other : (b : Bool) (t : Tree) (p : List ℕ) → HasLeaf (pick b Empty t) p → HasLeaf t p
leaf_other true t p h = absurd h
leaf_other false t p h = h

no_comes : (n : ℕ) (arrays : ℕ → Array) (at at' : Layout) (p : List ℕ) → HasLeaf (comes n arrays at at') p → ⊥
no_comes n arrays at at' p h = let g
    = leaf_beside n _ p h in no_bring (arrays g.0).mode _ (arrays g.0).size _ _ p
    (leaf_other (held (arrays g.0).place) _ p g.2)

no_starts : (n : ℕ) (arrays : ℕ → Array) (at at' : Layout) (p : List ℕ) → HasLeaf (starts n arrays at at') p → ⊥
no_starts n arrays at at' p h = let g
    = leaf_beside n _ p h in no_bring (arrays g.0).mode _ (arrays g.0).size _ _ p
    (leaf_pick (held (arrays g.0).place) _ p g.2)

no_outs : (n : ℕ) (arrays : ℕ → Array) (at at' : Layout) (p : List ℕ) → HasLeaf (outs n arrays at at') p → ⊥
no_outs n arrays at at' p h = let g = leaf_beside n _ p h in no_give (arrays g.0).mode _ (arrays g.0).size _ _ p g.2

leaf_works : (n : ℕ) (arrays : ℕ → Array) (at at' : Layout) (body : Tree) (p : List ℕ)
    → HasLeaf (works n arrays at at' body) p → HasLeaf body p
leaf_works n arrays at at' body p (inl h) = absurd (no_starts n arrays at at' p h)
leaf_works n arrays at at' body p (inr (inl h)) = let g
    = leaf_beside n _ p h in absurd (no_clear (arrays g.0).mode (arrays g.0).size _ p g.2)
leaf_works n arrays at at' body p (inr (inr h)) = h

-- a list with overlapped transfers has the leaves of its works
module _ (come work back : ℕ → Tree) (q : ℕ → Bool) (no_come : (t : ℕ) (p : List ℕ) → HasLeaf (come t) p → ⊥)
    (no_back : (t : ℕ) (p : List ℕ) → HasLeaf (back t) p → ⊥) where
  abbrev LeafOf : ℕ → List ℕ → Type 0
  LeafOf n p = (t : ℕ) × (t < n) × (q t ≡ true) × HasLeaf (work t) p

  leaf_stage : (d : Stand) (n : ℕ) (p : List ℕ) → Has q d n → HasLeaf (stage_of come work back d n) p → LeafOf n p
  leaf_stage NoneYet n p h x = absurd (no_come n p x)
  leaf_stage (First t) n p h (inl x) = (t, h.0, h.1, x)
  leaf_stage (First t) n p h (inr (inl x)) = absurd x
  leaf_stage (First t) n p h (inr (inr x)) = absurd (no_come n p x)
  leaf_stage (More s t) n p h (inl x) = (t, h.0, h.1, x)
  leaf_stage (More s t) n p h (inr (inl x)) = absurd (no_back s p x)
  leaf_stage (More s t) n p h (inr (inr x)) = absurd (no_come n p x)

  leaf_staged : (n : ℕ) (p : List ℕ) → HasLeaf (staged come work back q n) p → LeafOf n p
  leaf_staged zero p h = absurd h
  leaf_staged (suc n) p (inl h) = let g = leaf_staged n p h in (g.0, omega (arith, g.1), g.2, g.3)
  leaf_staged (suc n) p (inr h) = let g
      = leaf_stage (stand q n) n p (has q n) (leaf_pick (q n) (stage_of come work back (stand q n) n) p h) in
      (g.0, omega (arith, g.1), g.2, g.3)

  leaf_last : (d : Stand) (n : ℕ) (p : List ℕ) → Has q d n → HasLeaf (last_of work back d) p → LeafOf n p
  leaf_last NoneYet n p h x = absurd x
  leaf_last (First t) n p h (inl (inl x)) = (t, h.0, h.1, x)
  leaf_last (First t) n p h (inl (inr x)) = absurd x
  leaf_last (First t) n p h (inr x) = absurd (no_back t p x)
  leaf_last (More s t) n p h (inl (inl x)) = (t, h.0, h.1, x)
  leaf_last (More s t) n p h (inl (inr x)) = absurd (no_back s p x)
  leaf_last (More s t) n p h (inr x) = absurd (no_back t p x)

  leaf_piped : (n : ℕ) (p : List ℕ) → HasLeaf (piped come work back q n) p → LeafOf n p
  leaf_piped n p (inl h) = leaf_staged n p h
  leaf_piped n p (inr h) = leaf_last (stand q n) n p (has q n) h

module _ (spread : Option Rule) (n : ℕ) (form second : Form) (c : ℕ) (arrays : ℕ → ℕ → Array) (node : Node) (k : ℕ)
    (at : Layout) (q : ℕ → Bool) (body : ℕ → Tree) where
  abbrev list_at : ℕ → Layout
  list_at t = layout (child_of node k) (set_of spread node n form second t) (arrays t) at

  list_leaf : (p : List ℕ) → HasLeaf
      (piped (piped_come spread node k n form second c arrays at)
      (piped_work spread node k n form second c arrays at body) (piped_back spread node k n form second c arrays at) q
      n) p → (t : ℕ) × (t < n) × (q t ≡ true) × HasLeaf (body t) p
  list_leaf p h =
      let g = leaf_piped (piped_come spread node k n form second c arrays at)
      (piped_work spread node k n form second c arrays at body) (piped_back spread node k n form second c arrays at)
      q (λ t p h. no_comes c (arrays t) at (list_at t) p h) (λ t p h. no_outs c (arrays t) at (list_at t) p h) n p h
      in
      (g.0, g.1, g.2, leaf_works c (arrays g.0) at (list_at g.0) (body g.0) p g.3)

-- the leaves of a call are the body's
leaf_call : (n : ℕ) (arrays : ℕ → Array) (at at' : Layout) (body : Tree) (p : List ℕ)
    → HasLeaf (call_tree n arrays at at' body) p → HasLeaf body p
leaf_call n arrays at at' body p (inl h) = let g
    = leaf_beside n _ p h in absurd (no_bring (arrays g.0).mode _ (arrays g.0).size _ _ p g.2)
leaf_call n arrays at at' body p (inr (inl (inl h))) = let g
    = leaf_beside n _ p h in absurd (no_clear (arrays g.0).mode (arrays g.0).size _ p g.2)
leaf_call n arrays at at' body p (inr (inl (inr h))) = h
leaf_call n arrays at at' body p (inr (inr h)) = let g
    = leaf_beside n _ p h in absurd (no_give (arrays g.0).mode _ (arrays g.0).size _ _ p g.2)

further : (path : List ℕ) (t : ℕ) (p : List ℕ) → ((rest : List ℕ) × (p ≡ (path ++ t ∷ []) ++ rest)) → (rest : List ℕ)
    × (p ≡ path ++ t ∷ rest)
further path t p h = (h.0, h.1 ∙ append_assoc path (t ∷ []) h.0)

-- each leaf's path begins with the path of the work
pub tree_paths : (w : Work) (node : Node) (kid : ℕ) (at : Layout) (path p : List ℕ)
    → HasLeaf (tree w node kid at path) p → (rest : List ℕ) × (p ≡ path ++ rest)
tree_paths Nothing node kid at path p h = absurd h
tree_paths (Then a b) node kid at path p h
    = ⊎_elim (λ x. tree_paths a node kid at path p x) (λ x. tree_paths b node kid at path p x) h
tree_paths (Each n w) node kid at path p h = let g = leaf_turns every n _ p h in let x
    = further path g.0 p (tree_paths (w g.0) node kid at (path ++ g.0 ∷ []) p g.3) in (g.0 ∷ x.0, x.1)
tree_paths (AtOnce None n w) node kid at path p h = let g = leaf_turns every n _ p h in let x
    = further path g.0 p (tree_paths (w g.0) node kid at (path ++ g.0 ∷ []) p g.3) in (g.0 ∷ x.0, x.1)
tree_paths (AtOnce (Some rule) n w) node kid at path p h = let d = leaf_beside (fan_of node) _ p h in let g
    = leaf_turns (λ t. eqb (lane_of rule node n t) d.0) n _ p d.2 in let x
    = further path g.0 p (tree_paths (w g.0) node d.0 at (path ++ g.0 ∷ []) p g.3) in (g.0 ∷ x.0, x.1)
tree_paths (Call form lower n arrays w) node kid at path p h
    = tree_paths w (node_of lower node kid) 0 (layout (node_of lower node kid) form arrays at) path p
    (leaf_call n arrays at (layout (node_of lower node kid) form arrays at) _ p h)
tree_paths (Hold form n arrays w) node kid at path p (inl h) = let g
    = leaf_beside n _ p h in absurd (no_take (arrays g.0).mode _ (arrays g.0).size _ _ p g.2)
tree_paths (Hold form n arrays w) node kid at path p (inr (inl h)) = tree_paths w node kid at path p h
tree_paths (Hold form n arrays w) node kid at path p (inr (inr h)) = let g
    = leaf_beside n _ p h in absurd (no_leave (arrays g.0).mode _ (arrays g.0).size _ _ p g.2)
tree_paths (Reduce op size block which None n form lower c arrays w) node kid at path p h =
    let g = leaf_turns every n (λ t. call_tree (c t) (arrays t) at
    (layout (node_of lower node kid) (form t) (arrays t) at)
    (tree (w t) (node_of lower node kid) 0 (layout (node_of lower node kid) (form t) (arrays t) at)
    (path ++ t ∷ []))) p h in
    let x = further path g.0 p (tree_paths (w g.0) (node_of lower node kid) 0
    (layout (node_of lower node kid) (form g.0) (arrays g.0) at) (path ++ g.0 ∷ []) p
    (leaf_call (c g.0) (arrays g.0) at (layout (node_of lower node kid) (form g.0) (arrays g.0) at) _ p g.3)) in
    (g.0 ∷ x.0, x.1)
tree_paths (Reduce op size block which (Some rule) n form lower c arrays w) node kid at path p h =
    let d = leaf_beside (fan_of node)
    (λ d. turns (λ t. eqb (lane_of rule node n t) d) n
    (λ t. call_tree (c t) (arrays t) at (layout (node_of lower node d) (form t) (arrays t) at)
    (tree (w t) (node_of lower node d) 0 (layout (node_of lower node d) (form t) (arrays t) at) (path ++ t ∷ []))))
    p h in
    let g = leaf_turns (λ t. eqb (lane_of rule node n t) d.0) n
    (λ t. call_tree (c t) (arrays t) at (layout (node_of lower node d.0) (form t) (arrays t) at)
    (tree (w t) (node_of lower node d.0) 0 (layout (node_of lower node d.0) (form t) (arrays t) at)
    (path ++ t ∷ []))) p d.2 in
    let x = further path g.0 p (tree_paths (w g.0) (node_of lower node d.0) 0
    (layout (node_of lower node d.0) (form g.0) (arrays g.0) at) (path ++ g.0 ∷ []) p
    (leaf_call (c g.0) (arrays g.0) at (layout (node_of lower node d.0) (form g.0) (arrays g.0) at) _ p g.3)) in
    (g.0 ∷ x.0, x.1)
tree_paths (Piped None n form second c arrays w) node kid at path p h =
    let g = list_leaf None n form second c arrays node kid at every
    (λ t. tree (w t) (child_of node kid) 0
    (layout (child_of node kid) (set_of None node n form second t) (arrays t) at) (path ++ t ∷ [])) p h in
    let x = further path g.0 p (tree_paths (w g.0) (child_of node kid) 0
    (layout (child_of node kid) (set_of None node n form second g.0) (arrays g.0) at) (path ++ g.0 ∷ []) p g.3) in
    (g.0 ∷ x.0, x.1)
tree_paths (Piped (Some rule) n form second c arrays w) node kid at path p h =
    let d = leaf_beside (fan_of node) _ p h in
    let g = list_leaf (Some rule) n form second c arrays node d.0 at (λ t. eqb (lane_of rule node n t) d.0)
    (λ t. tree (w t) (child_of node d.0) 0
    (layout (child_of node d.0) (set_of (Some rule) node n form second t) (arrays t) at) (path ++ t ∷ [])) p d.2 in
    let x = further path g.0 p (tree_paths (w g.0) (child_of node d.0) 0
    (layout (child_of node d.0) (set_of (Some rule) node n form second g.0) (arrays g.0) at) (path ++ g.0 ∷ []) p
    g.3) in
    (g.0 ∷ x.0, x.1)
tree_paths (Leaf code n size writes) node kid at path p h = ([], sym h ∙ sym (append-nil path))

beside_paths : (n : ℕ) (f : ℕ → Tree) → ((i : ℕ) → PathsApart (f i))
    → ((i j : ℕ) → i ≢ j → (p : List ℕ) → HasLeaf (f i) p → HasLeaf (f j) p → ⊥) → PathsApart (beside n f)
beside_paths zero f each apart = tt
beside_paths (suc n) f each apart
    = (
      beside_paths n f each apart,
      each n,
      λ p a b. let g
          = leaf_beside n f p a in apart g.0 n (λ e. never g.0 g.1 e) p g.2 b,
    )
  where
    never : (i : ℕ) → i < n → i ≡ n → ⊥
    never i lt e = omega arith

turns_paths : (q : ℕ → Bool) (n : ℕ) (f : ℕ → Tree) → ((t : ℕ) → PathsApart (f t)) → PathsApart (turns q n f)
turns_paths q zero f h = tt
turns_paths q (suc n) f h = (turns_paths q n f h, last (q n))
  where
    last : (b : Bool) → PathsApart (pick b (f n) Empty)
    last true = h n
    last false = tt

-- lists of iterations beside one another
lists_paths : (rule : Rule) (node : Node) (n : ℕ) (path : List ℕ) (f : ℕ → Tree) → ((d : ℕ) → PathsApart (f d))
    → ((d : ℕ) (p : List ℕ) → HasLeaf (f d) p → (t : ℕ) × (eqb (lane_of rule node n t) d ≡ true)
    × ((rest : List ℕ) × (p ≡ path ++ t ∷ rest))) → PathsApart (beside (fan_of node) f)
lists_paths rule node n path f each begins =
    beside_paths (fan_of node) f each (λ c d ne p a b.
    let u = begins c p a in
    let v = begins d p b in
    let e = same_number path u.2.0 v.2.0 u.0 v.0 (sym u.2.1 ∙ v.2.1) in
    ne (sym (eqb-true _ _ u.1) ∙ ap (lane_of rule node n) e ∙ eqb-true _ _ v.1))

lanes_paths : (rule : Rule) (node : Node) (n : ℕ) (path : List ℕ) (f : ℕ → ℕ → Tree) → ((d t : ℕ) → PathsApart (f d t))
    → ((d t : ℕ) (p : List ℕ) → HasLeaf (f d t) p → (rest : List ℕ) × (p ≡ path ++ t ∷ rest))
    → PathsApart (beside (fan_of node) (λ d. turns (λ t. eqb (lane_of rule node n t) d) n (f d)))
lanes_paths rule node n path f each begins =
    lists_paths rule node n path _ (λ d. turns_paths (λ t. eqb (lane_of rule node n t) d) n (f d) (each d))
    (λ d p h. let x = leaf_turns (λ t. eqb (lane_of rule node n t) d) n (f d) p h in (x.0, x.2, begins d x.0 p x.3))

-- parts with no leaf at all
quiet : (t : Tree) → ((p : List ℕ) → HasLeaf t p → ⊥) → PathsApart t
quiet Empty h = tt
quiet (Act a) h = tt
quiet (Seq a b) h = (quiet a (λ p x. h p (inl x)), quiet b (λ p x. h p (inr x)))
quiet (Par a b) h = (quiet a (λ p x. h p (inl x)), quiet b (λ p x. h p (inr x)), λ p x y. h p (inl x))

call_paths : (n : ℕ) (arrays : ℕ → Array) (at at' : Layout) (body : Tree) → PathsApart body
    → PathsApart (call_tree n arrays at at' body)
call_paths n arrays at at' body h = (
  quiet _ (λ p x. let g = leaf_beside n _ p x in no_bring (arrays g.0).mode _ (arrays g.0).size _ _ p g.2),
  (
    (quiet _ (λ p x. let g = leaf_beside n _ p x in no_clear (arrays g.0).mode (arrays g.0).size _ p g.2), h),
    quiet _ (λ p x. let g = leaf_beside n _ p x in no_give (arrays g.0).mode _ (arrays g.0).size _ _ p g.2),
  ),
)

works_paths : (n : ℕ) (arrays : ℕ → Array) (at at' : Layout) (body : Tree) → PathsApart body
    → PathsApart (works n arrays at at' body)
works_paths n arrays at at' body h
    = (
      quiet _ (λ p x. no_starts n arrays at at' p x),
      (quiet _ (λ p x. let g = leaf_beside n _ p x in no_clear (arrays g.0).mode (arrays g.0).size _ p g.2), h),
    )

-- beside a work stand parts with no leaf
module _ (come work back : ℕ → Tree) (q : ℕ → Bool) (no_come : (t : ℕ) (p : List ℕ) → HasLeaf (come t) p → ⊥)
    (no_back : (t : ℕ) (p : List ℕ) → HasLeaf (back t) p → ⊥) (each : (t : ℕ) → PathsApart (work t)) where
  side : (s t : ℕ) (p : List ℕ) → HasLeaf (Seq (back s) (come t)) p → ⊥
  side s t p (inl h) = no_back s p h
  side s t p (inr h) = no_come t p h

  stage_paths : (d : Stand) (n : ℕ) → PathsApart (stage_of come work back d n)
  stage_paths NoneYet n = quiet (come n) (no_come n)
  stage_paths (First t) n = (each t, (tt, quiet (come n) (no_come n)), λ p a b. ⊎_elim (λ x. x) (λ x. no_come n p x) b)
  stage_paths (More s t) n = (each t, (quiet (back s) (no_back s), quiet (come n) (no_come n)), λ p a b. side s n p b)

  staged_paths : (n : ℕ) → PathsApart (staged come work back q n)
  staged_paths zero = tt
  staged_paths (suc n) = (staged_paths n, go (q n))
    where
      go : (b : Bool) → PathsApart (pick b (stage_of come work back (stand q n) n) Empty)
      go true = stage_paths (stand q n) n
      go false = tt

  last_paths : (d : Stand) → PathsApart (last_of work back d)
  last_paths NoneYet = tt
  last_paths (First t) = ((each t, tt, λ p a b. b), quiet (back t) (no_back t))
  last_paths (More s t) = ((each t, quiet (back s) (no_back s), λ p a b. no_back s p b), quiet (back t) (no_back t))

  piped_paths : (n : ℕ) → PathsApart (piped come work back q n)
  piped_paths n = (staged_paths n, last_paths (stand q n))

list_paths : (spread : Option Rule) (n : ℕ) (form second : Form) (c : ℕ) (arrays : ℕ → ℕ → Array) (node : Node) (k : ℕ)
    (at : Layout) (q : ℕ → Bool) (body : ℕ → Tree) → ((t : ℕ) → PathsApart (body t))
    → PathsApart (piped (piped_come spread node k n form second c arrays at)
    (piped_work spread node k n form second c arrays at body) (piped_back spread node k n form second c arrays at) q n)
list_paths spread n form second c arrays node k at q body each =
    piped_paths (piped_come spread node k n form second c arrays at)
    (piped_work spread node k n form second c arrays at body) (piped_back spread node k n form second c arrays at) q
    (λ t p h. no_comes c (arrays t) at (layout (child_of node k) (set_of spread node n form second t) (arrays t) at) p
    h) (λ t p h. no_outs c (arrays t) at (layout (child_of node k) (set_of spread node n form second t) (arrays t) at) p
    h)
    (λ t. works_paths c (arrays t) at (layout (child_of node k) (set_of spread node n form second t) (arrays t) at)
    (body t) (each t)) n

-- unordered leaf events have different paths
pub paths_apart : (w : Work) (node : Node) (kid : ℕ) (at : Layout) (path : List ℕ)
    → PathsApart (tree w node kid at path)
paths_apart Nothing node kid at path = tt
paths_apart (Then a b) node kid at path = (paths_apart a node kid at path, paths_apart b node kid at path)
paths_apart (Each n w) node kid at path = turns_paths every n _ (λ t. paths_apart (w t) node kid at (path ++ t ∷ []))
paths_apart (AtOnce None n w) node kid at path
    = turns_paths every n _ (λ t. paths_apart (w t) node kid at (path ++ t ∷ []))
paths_apart (AtOnce (Some rule) n w) node kid at path
    = lanes_paths rule node n path (λ d t. tree (w t) node d at (path ++ t ∷ []))
    (λ d t. paths_apart (w t) node d at (path ++ t ∷ []))
    (λ d t p h. further path t p (tree_paths (w t) node d at (path ++ t ∷ []) p h))
paths_apart (Call form lower n arrays w) node kid at path
    = call_paths n arrays at (layout (node_of lower node kid) form arrays at) _
    (paths_apart w (node_of lower node kid) 0 (layout (node_of lower node kid) form arrays at) path)
paths_apart (Hold form n arrays w) node kid at path = (
  quiet _ (λ p x. let g = leaf_beside n _ p x in no_take (arrays g.0).mode _ (arrays g.0).size _ _ p g.2),
  (
    paths_apart w node kid at path,
    quiet _
        (λ p x. let g = leaf_beside n _ p x in no_leave (arrays g.0).mode _ (arrays g.0).size _ _ p g.2),
  ),
)
paths_apart (Reduce op size block which None n form lower c arrays w) node kid at path =
    turns_paths every n (λ t. call_tree (c t) (arrays t) at (layout (node_of lower node kid) (form t) (arrays t) at)
    (tree (w t) (node_of lower node kid) 0 (layout (node_of lower node kid) (form t) (arrays t) at)
    (path ++ t ∷ []))) (λ t. call_paths (c t) (arrays t) at (layout (node_of lower node kid) (form t) (arrays t) at)
    _ (paths_apart (w t) (node_of lower node kid) 0 (layout (node_of lower node kid) (form t) (arrays t) at)
    (path ++ t ∷ [])))
paths_apart (Reduce op size block which (Some rule) n form lower c arrays w) node kid at path =
    lanes_paths rule node n path (λ d t. call_tree (c t) (arrays t) at
    (layout (node_of lower node d) (form t) (arrays t) at)
    (tree (w t) (node_of lower node d) 0 (layout (node_of lower node d) (form t) (arrays t) at) (path ++ t ∷ [])))
    (λ d t. call_paths (c t) (arrays t) at (layout (node_of lower node d) (form t) (arrays t) at) _
    (paths_apart (w t) (node_of lower node d) 0 (layout (node_of lower node d) (form t) (arrays t) at)
    (path ++ t ∷ [])))
    (λ d t p h. further path t p (tree_paths (w t) (node_of lower node d) 0
    (layout (node_of lower node d) (form t) (arrays t) at) (path ++ t ∷ []) p
    (leaf_call (c t) (arrays t) at (layout (node_of lower node d) (form t) (arrays t) at) _ p h)))
paths_apart (Piped None n form second c arrays w) node kid at path =
    list_paths None n form second c arrays node kid at every
    (λ t. tree (w t) (child_of node kid) 0
    (layout (child_of node kid) (set_of None node n form second t) (arrays t) at) (path ++ t ∷ []))
    (λ t. paths_apart (w t) (child_of node kid) 0
    (layout (child_of node kid) (set_of None node n form second t) (arrays t) at) (path ++ t ∷ []))
paths_apart (Piped (Some rule) n form second c arrays w) node kid at path =
    lists_paths rule node n path _
    (λ d. list_paths (Some rule) n form second c arrays node d at (λ t. eqb (lane_of rule node n t) d)
    (λ t. tree (w t) (child_of node d) 0
    (layout (child_of node d) (set_of (Some rule) node n form second t) (arrays t) at) (path ++ t ∷ []))
    (λ t. paths_apart (w t) (child_of node d) 0
    (layout (child_of node d) (set_of (Some rule) node n form second t) (arrays t) at) (path ++ t ∷ [])))
    (λ d p h.
    let g = list_leaf (Some rule) n form second c arrays node d at (λ t. eqb (lane_of rule node n t) d)
    (λ t. tree (w t) (child_of node d) 0
    (layout (child_of node d) (set_of (Some rule) node n form second t) (arrays t) at) (path ++ t ∷ [])) p h in (
      g.0,
      g.2,
      further path g.0 p (tree_paths (w g.0) (child_of node d) 0
          (layout (child_of node d) (set_of (Some rule) node n form second g.0) (arrays g.0) at) (path ++ g.0 ∷ []) p g.3),
    ))
paths_apart (Leaf code n size writes) node kid at path = tt

pub leaf_paths_apart : LeafPathsApart
leaf_paths_apart w node kid at path = paths_apart w node kid at path
