-- One leaf event for each leaf call of the source, with its path.
use Rattle.std.proofs.Common.{◌≡◌, ℕ, zero, suc, ◌+◌, ◌<◌, Bool, true, false, cond, eqb, Option, Some, None, refl, sym}
use Rattle.std.proofs.Common.{ap, ap₂, ◌∙◌, arith, List, [], ◌∷◌, ◌++◌, ⊎_elim, eqb-true, eq-eqb}
use Rattle.sq_cells.specs.Cells.{Spot, spot}
use Rattle.sq_cells.specs.Tree.{Tree, Empty}
use Rattle.sq_cells.specs.Machine.{Form, Node, child_of, fan_of, Rule, lane_of}
use Rattle.sq_cells.specs.Work.{Mode, Input, Output, Both, Local, Reduced, Array, Work, Nothing, Then, Each, AtOnce}
use Rattle.sq_cells.specs.Work.{Call, Hold, Reduce, Piped, Leaf}
use Rattle.sq_cells.specs.Lowered.{Layout, node_of, layout, pick, held, stays, own, bring, clear, give_back, take_one}
use Rattle.sq_cells.specs.Lowered.{leave_one, beside, turns, every, callee, outs, call_tree, comes, works, Stand}
use Rattle.sq_cells.specs.Lowered.{NoneYet, First, More, next_stand, stand, stage_of, staged, last_of, piped, set_of}
use Rattle.sq_cells.specs.Lowered.{piped_come, piped_work, piped_back, tree, Sound}
use Rattle.sq_cells.specs.Leaves.{Kind, leaf_events, sum_below, leaf_calls, LeavesAreCalls}
use Rattle.sq_cells.proofs.Access.{end_or_below}

-- sums
sum_same : (n : ℕ) (x y : ℕ → ℕ) → ((t : ℕ) → t < n → x t ≡ y t) → sum_below n x ≡ sum_below n y
sum_same zero x y h = refl
sum_same (suc n) x y h = ap₂ (λ a b. a + b) (sum_same n x y (λ t lt. h t (omega arith))) (h n (omega arith))

sum_zero : (n : ℕ) (x : ℕ → ℕ) → ((t : ℕ) → t < n → x t ≡ 0) → sum_below n x ≡ 0
sum_zero zero x h = refl
sum_zero (suc n) x h = let a = sum_zero n x (λ t lt. h t (omega arith)) in let b
    = h n (omega arith) in omega (arith, a, b)

sum_add : (n : ℕ) (x y : ℕ → ℕ) → sum_below n (λ t. x t + y t) ≡ sum_below n x + sum_below n y
sum_add zero x y = refl
sum_add (suc n) x y = let a = sum_add n x y in omega (arith, a)

abbrev sum_if : (ℕ → Bool) → ℕ → (ℕ → ℕ) → ℕ
sum_if q zero x = 0
sum_if q (suc n) x = sum_if q n x + cond (q n) (x n) 0

sum_every : (n : ℕ) (x : ℕ → ℕ) → sum_if every n x ≡ sum_below n x
sum_every zero x = refl
sum_every (suc n) x = ap (λ a. a + x n) (sum_every n x)

sum_if_same : (q : ℕ → Bool) (n : ℕ) (x y : ℕ → ℕ) → ((t : ℕ) → t < n → q t ≡ true → x t ≡ y t) → sum_if q n x
    ≡ sum_if q n y
sum_if_same q zero x y h = refl
sum_if_same q (suc n) x y h = ap₂ (λ a b. a + b) (sum_if_same q n x y (λ t lt. h t (omega arith))) (go (q n) refl)
  where
    go : (b : Bool) → q n ≡ b → cond b (x n) 0 ≡ cond b (y n) 0
    go true e = h n (omega arith) e
    go false e = refl

-- one summand of c
sum_one : (c l v : ℕ) → l < c → sum_below c (λ d. cond (eqb l d) v 0) ≡ v
sum_one zero l v lt = absurd (omega arith)
sum_one (suc c) l v lt = ⊎_elim last (λ k. before k (sum_one c l v k)) (end_or_below l c lt)
  where
    last : l ≡ c → sum_below c (λ d. cond (eqb l d) v 0) + cond (eqb l c) v 0 ≡ v
    last e =
        let a : sum_below c (λ d. cond (eqb l d) v 0) ≡ 0
        = sum_zero c (λ d. cond (eqb l d) v 0) (λ d ld. other d ld (eqb l d) refl) in
        let b : cond (eqb l c) v 0 ≡ v = ap (λ z. cond z v 0) (eq-eqb l c e) in
        omega (arith, a, b)
      where
        other : (d : ℕ) → d < c → (b : Bool) → eqb l d ≡ b → cond b v 0 ≡ 0
        other d ld true f = absurd (bar (eqb-true l d f))
          where
            bar : l ≡ d → ⊥
            bar g = omega (arith, g, e, ld)
        other d ld false f = refl

    before : l < c → sum_below c (λ d. cond (eqb l d) v 0) ≡ v → sum_below c (λ d. cond (eqb l d) v 0)
        + cond (eqb l c) v 0 ≡ v
    before k a = let b = none (eqb l c) refl in omega (arith, a, b)
      where
        none : (b : Bool) → eqb l c ≡ b → cond b v 0 ≡ 0
        none true f = absurd (bar (eqb-true l c f))
          where
            bar : l ≡ c → ⊥
            bar g = omega (arith, g, k)
        none false f = refl

from_zero : (n : ℕ) → 0 + n ≡ n
from_zero n = omega arith

-- lanes have all iterations
sum_lanes : (c n : ℕ) (lane : ℕ → ℕ) (x : ℕ → ℕ) → ((t : ℕ) → t < n → lane t < c)
    → sum_below c (λ d. sum_if (λ t. eqb (lane t) d) n x) ≡ sum_below n x
sum_lanes c zero lane x there = sum_zero c (λ d. 0) (λ d lt. refl)
sum_lanes c (suc n) lane x there =
    sum_add c (λ d. sum_if (λ t. eqb (lane t) d) n x) (λ d. cond (eqb (lane n) d) (x n) 0)
    ∙ ap₂ (λ a b. a + b) (sum_lanes c n lane x (λ t lt. there t (omega arith)))
    (sum_one c (lane n) (x n) (there n (omega arith)))

module _ (f : Kind) where
  events_beside : (n : ℕ) (g : ℕ → Tree) → leaf_events f (beside n g) ≡ sum_below n (λ i. leaf_events f (g i))
  events_beside zero g = refl
  events_beside (suc n) g = ap (λ a. a + leaf_events f (g n)) (events_beside n g)

  events_pick : (b : Bool) (t : Tree) → leaf_events f (pick b t Empty) ≡ cond b (leaf_events f t) 0
  events_pick true t = refl
  events_pick false t = refl

  events_turns : (q : ℕ → Bool) (n : ℕ) (g : ℕ → Tree) → leaf_events f (turns q n g)
      ≡ sum_if q n (λ t. leaf_events f (g t))
  events_turns q zero g = refl
  events_turns q (suc n) g = ap₂ (λ a b. a + b) (events_turns q n g) (events_pick (q n) (g n))

  no_bring : (m : Mode) (b : Bool) (n : ℕ) (source to : ℕ → Spot) → leaf_events f (bring m b n source to) ≡ 0
  no_bring Input true n source to = refl
  no_bring Input false n source to = refl
  no_bring Output b n source to = refl
  no_bring Both true n source to = refl
  no_bring Both false n source to = refl
  no_bring Local b n source to = refl
  no_bring (Reduced op) true n source to = refl
  no_bring (Reduced op) false n source to = refl

  no_clear : (m : Mode) (n : ℕ) (to : ℕ → Spot) → leaf_events f (clear m n to) ≡ 0
  no_clear Input n to = refl
  no_clear Output n to = refl
  no_clear Both n to = refl
  no_clear Local n to = refl
  no_clear (Reduced op) n to = refl

  no_give : (m : Mode) (b : Bool) (n : ℕ) (source to : ℕ → Spot) → leaf_events f (give_back m b n source to) ≡ 0
  no_give Input b n source to = refl
  no_give Output true n source to = refl
  no_give Output false n source to = refl
  no_give Both true n source to = refl
  no_give Both false n source to = refl
  no_give Local b n source to = refl
  no_give (Reduced op) true n source to = refl
  no_give (Reduced op) false n source to = refl

  no_take : (m : Mode) (b : Bool) (n : ℕ) (source to : ℕ → Spot) → leaf_events f (take_one m b n source to) ≡ 0
  no_take m false n source to = refl
  no_take Input true n source to = refl
  no_take Output true n source to = refl
  no_take Both true n source to = refl
  no_take Local true n source to = refl
  no_take (Reduced op) true n source to = refl

  no_leave : (m : Mode) (b : Bool) (n : ℕ) (source to : ℕ → Spot) → leaf_events f (leave_one m b n source to) ≡ 0
  no_leave m false n source to = refl
  no_leave Input true n source to = refl
  no_leave Output true n source to = refl
  no_leave Both true n source to = refl
  no_leave Local true n source to = refl
  no_leave (Reduced op) true n source to = refl

  quiet_beside : (n : ℕ) (g : ℕ → Tree) → ((i : ℕ) → leaf_events f (g i) ≡ 0) → leaf_events f (beside n g) ≡ 0
  quiet_beside n g h = events_beside n g ∙ sum_zero n (λ i. leaf_events f (g i)) (λ i lt. h i)

  quiet_pick : (b : Bool) (t : Tree) → leaf_events f t ≡ 0 → leaf_events f (pick b t Empty) ≡ 0
  quiet_pick true t e = e
  quiet_pick false t e = refl

  quiet_other : (b : Bool) (t : Tree) → leaf_events f t ≡ 0 → leaf_events f (pick b Empty t) ≡ 0
  quiet_other true t e = refl
  quiet_other false t e = e

  events_callee : (n : ℕ) (arrays : ℕ → Array) (at' : Layout) (body : Tree) → leaf_events f (callee n arrays at' body)
      ≡ leaf_events f body
  events_callee n arrays at' body
      = ap (λ a. a + leaf_events f body)
      (quiet_beside n (λ i. clear (arrays i).mode (arrays i).size (λ k. at' (spot i k)))
      (λ i. no_clear (arrays i).mode (arrays i).size (λ k. at' (spot i k)))) ∙ from_zero (leaf_events f body)

  events_outs : (n : ℕ) (arrays : ℕ → Array) (at at' : Layout) → leaf_events f (outs n arrays at at') ≡ 0
  events_outs n arrays at at' = quiet_beside n
      (λ i. give_back (arrays i).mode (stays (arrays i).place) (arrays i).size (λ k. at' (spot i k))
      (λ k. at ((arrays i).block k)))
      (λ i. no_give (arrays i).mode (stays (arrays i).place) (arrays i).size (λ k. at' (spot i k))
      (λ k. at ((arrays i).block k)))

  events_comes : (n : ℕ) (arrays : ℕ → Array) (at at' : Layout) → leaf_events f (comes n arrays at at') ≡ 0
  events_comes n arrays at at' = quiet_beside n
      (λ i. pick (held (arrays i).place) Empty
      (bring (arrays i).mode (stays (arrays i).place) (arrays i).size (λ k. at ((arrays i).block k))
      (λ k. at' (spot i k)))) (λ i. quiet_other (held (arrays i).place) _
      (no_bring (arrays i).mode (stays (arrays i).place) (arrays i).size (λ k. at ((arrays i).block k))
      (λ k. at' (spot i k))))

  events_works : (n : ℕ) (arrays : ℕ → Array) (at at' : Layout) (body : Tree)
      → leaf_events f (works n arrays at at' body) ≡ leaf_events f body
  events_works n arrays at at' body =
      ap₂ (λ a b. a + b) (quiet_beside n
      (λ i. pick (held (arrays i).place)
      (bring (arrays i).mode (stays (arrays i).place) (arrays i).size (λ k. at ((arrays i).block k))
      (λ k. at' (spot i k))) Empty) (λ i. quiet_pick (held (arrays i).place) _
      (no_bring (arrays i).mode (stays (arrays i).place) (arrays i).size (λ k. at ((arrays i).block k))
      (λ k. at' (spot i k))))) (events_callee n arrays at' body) ∙ from_zero (leaf_events f body)

  events_call : (n : ℕ) (arrays : ℕ → Array) (at at' : Layout) (body : Tree)
      → leaf_events f (call_tree n arrays at at' body) ≡ leaf_events f body
  events_call n arrays at at' body =
      let a = quiet_beside n (λ i. bring (arrays i).mode (stays (arrays i).place) (arrays i).size
      (λ k. at ((arrays i).block k)) (λ k. at' (spot i k)))
      (λ i. no_bring (arrays i).mode (stays (arrays i).place) (arrays i).size (λ k. at ((arrays i).block k))
      (λ k. at' (spot i k))) in
      let b = events_callee n arrays at' body in
      let c = events_outs n arrays at at' in
      ap₂ (λ x y. x + y) a (ap₂ (λ x y. x + y) b c) ∙ plain (leaf_events f body)
    where
      plain : (n : ℕ) → 0 + (n + 0) ≡ n
      plain n = omega arith

  -- overlapped transfers
  module _ (come work back : ℕ → Tree) (q : ℕ → Bool) (no_come : (t : ℕ) → leaf_events f (come t) ≡ 0)
      (no_back : (t : ℕ) → leaf_events f (back t) ≡ 0) where
    -- the iteration that is in and has not worked
    abbrev pending : Stand → ℕ
    pending NoneYet = 0
    pending (First t) = leaf_events f (work t)
    pending (More p t) = leaf_events f (work t)

    pending_next : (d : Stand) (n : ℕ) → pending (next_stand d n) ≡ leaf_events f (work n)
    pending_next NoneYet n = refl
    pending_next (First t) n = refl
    pending_next (More p t) n = refl

    events_stage : (d : Stand) (n : ℕ) → leaf_events f (stage_of come work back d n) ≡ pending d
    events_stage NoneYet n = no_come n
    events_stage (First t) n = let a = no_come n in omega (arith, a)
    events_stage (More p t) n = let a = no_come n in let b = no_back p in omega (arith, a, b)

    events_staged : (n : ℕ) → leaf_events f (staged come work back q n) + pending (stand q n)
        ≡ sum_if q n (λ t. leaf_events f (work t))
    events_staged zero = refl
    events_staged (suc n) = go (q n) refl (events_staged n)
      where
        go : (b : Bool) → q n ≡ b → leaf_events f (staged come work back q n) + pending (stand q n)
            ≡ sum_if q n (λ t. leaf_events f (work t)) → leaf_events f (staged come work back q n)
            + leaf_events f (pick b (stage_of come work back (stand q n) n) Empty)
            + pending (cond b (next_stand (stand q n) n) (stand q n)) ≡ sum_if q n (λ t. leaf_events f (work t))
            + cond b (leaf_events f (work n)) 0
        go true e a = let b = events_stage (stand q n) n in let c = pending_next (stand q n) n in omega (arith, a, b, c)
        go false e a = omega (arith, a)

    events_last : (d : Stand) → leaf_events f (last_of work back d) ≡ pending d
    events_last NoneYet = refl
    events_last (First t) = let a = no_back t in omega (arith, a)
    events_last (More p t) = let a = no_back t in let b = no_back p in omega (arith, a, b)

    events_piped : (n : ℕ) → leaf_events f (piped come work back q n) ≡ sum_if q n (λ t. leaf_events f (work t))
    events_piped n = ap (λ x. leaf_events f (staged come work back q n) + x) (events_last (stand q n)) ∙ events_staged n

  -- one list of a taken loop, at child k
  events_list : (spread : Option Rule) (n : ℕ) (form second : Form) (c : ℕ) (arrays : ℕ → ℕ → Array) (node : Node)
      (k : ℕ) (at : Layout) (q : ℕ → Bool) (body : ℕ → Tree)
      → leaf_events f (piped (piped_come spread node k n form second c arrays at)
      (piped_work spread node k n form second c arrays at body) (piped_back spread node k n form second c arrays at) q
      n) ≡ sum_if q n (λ t. leaf_events f (body t))
  events_list spread n form second c arrays node k at q body =
      events_piped (piped_come spread node k n form second c arrays at)
      (piped_work spread node k n form second c arrays at body) (piped_back spread node k n form second c arrays at)
      q
      (λ t. events_comes c (arrays t) at (layout (child_of node k) (set_of spread node n form second t) (arrays t) at))
      (λ t. events_outs c (arrays t) at (layout (child_of node k) (set_of spread node n form second t) (arrays t) at)) n
      ∙ sum_if_same q n (λ t. leaf_events f (piped_work spread node k n form second c arrays at body t))
      (λ t. leaf_events f (body t)) (λ t lt y. events_works c (arrays t) at
      (layout (child_of node k) (set_of spread node n form second t) (arrays t) at) (body t))

  -- lists beside one another, one for each child
  lists : (c n : ℕ) (lane x : ℕ → ℕ) (g : ℕ → Tree) → ((t : ℕ) → t < n → lane t < c)
      → ((d : ℕ) → leaf_events f (g d) ≡ sum_if (λ t. eqb (lane t) d) n x) → leaf_events f (beside c g) ≡ sum_below n x
  lists c n lane x g there each = events_beside c g
      ∙ sum_same c (λ d. leaf_events f (g d)) (λ d. sum_if (λ t. eqb (lane t) d) n x) (λ d ld. each d)
      ∙ sum_lanes c n lane x there

  in_turn : (n : ℕ) (g : ℕ → Tree) (x : ℕ → ℕ) → ((t : ℕ) → t < n → leaf_events f (g t) ≡ x t)
      → leaf_events f (turns every n g) ≡ sum_below n x
  in_turn n g x h = events_turns every n g ∙ sum_every n (λ t. leaf_events f (g t))
      ∙ sum_same n (λ t. leaf_events f (g t)) x h

  pub leaves_counted : (w : Work) (node : Node) (kid : ℕ) (at : Layout) (path : List ℕ) → Sound w node kid
      → leaf_events f (tree w node kid at path) ≡ leaf_calls f w path
  leaves_counted Nothing node kid at path s = refl
  leaves_counted (Then a b) node kid at path s
      = ap₂ (λ x y. x + y) (leaves_counted a node kid at path s.0) (leaves_counted b node kid at path s.1)
  leaves_counted (Each n w) node kid at path s
      = in_turn n (λ t. tree (w t) node kid at (path ++ t ∷ [])) (λ t. leaf_calls f (w t) (path ++ t ∷ []))
      (λ t lt. leaves_counted (w t) node kid at (path ++ t ∷ []) (s t lt))
  leaves_counted (AtOnce None n w) node kid at path s
      = in_turn n (λ t. tree (w t) node kid at (path ++ t ∷ [])) (λ t. leaf_calls f (w t) (path ++ t ∷ []))
      (λ t lt. leaves_counted (w t) node kid at (path ++ t ∷ []) (s.1 t lt).1)
  leaves_counted (AtOnce (Some rule) n w) node kid at path s =
      lists (fan_of node) n (lane_of rule node n) (λ t. leaf_calls f (w t) (path ++ t ∷ []))
      (λ c. turns (λ t. eqb (lane_of rule node n t) c) n (λ t. tree (w t) node c at (path ++ t ∷ [])))
      (λ t lt. (s.1 t lt).0)
      (λ d. events_turns (λ t. eqb (lane_of rule node n t) d) n (λ t. tree (w t) node d at (path ++ t ∷ []))
      ∙ sum_if_same (λ t. eqb (lane_of rule node n t) d) n (λ t. leaf_events f (tree (w t) node d at (path ++ t ∷ [])))
      (λ t. leaf_calls f (w t) (path ++ t ∷ []))
      (λ t lt y. ap (λ k. leaf_events f (tree (w t) node k at (path ++ t ∷ [])))
      (sym (eqb-true (lane_of rule node n t) d y))
      ∙ leaves_counted (w t) node (lane_of rule node n t) at (path ++ t ∷ []) (s.1 t lt).1))
  leaves_counted (Call form lower n arrays w) node kid at path s =
      events_call n arrays at (layout (node_of lower node kid) form arrays at)
      (tree w (node_of lower node kid) 0 (layout (node_of lower node kid) form arrays at) path)
      ∙ leaves_counted w (node_of lower node kid) 0 (layout (node_of lower node kid) form arrays at) path s.2
  leaves_counted (Hold form n arrays w) node kid at path s =
      let a = quiet_beside n (λ i. take_one (arrays i).mode (held (arrays i).place) (arrays i).size
      (λ k. at ((arrays i).block k)) (λ k. own (child_of node kid) form (spot i k)))
      (λ i. no_take (arrays i).mode (held (arrays i).place) (arrays i).size (λ k. at ((arrays i).block k))
      (λ k. own (child_of node kid) form (spot i k))) in
      let b = quiet_beside n (λ i. leave_one (arrays i).mode (held (arrays i).place) (arrays i).size
      (λ k. own (child_of node kid) form (spot i k)) (λ k. at ((arrays i).block k)))
      (λ i. no_leave (arrays i).mode (held (arrays i).place) (arrays i).size
      (λ k. own (child_of node kid) form (spot i k)) (λ k. at ((arrays i).block k))) in
      ap₂ (λ x y. x + y) a (ap₂ (λ x y. x + y) (leaves_counted w node kid at path s.1) b) ∙ plain (leaf_calls f w path)
    where
      plain : (n : ℕ) → 0 + (n + 0) ≡ n
      plain n = omega arith
  leaves_counted (Reduce op size block which None n form lower c arrays w) node kid at path s =
      in_turn n (λ t. call_tree (c t) (arrays t) at (layout (node_of lower node kid) (form t) (arrays t) at)
      (tree (w t) (node_of lower node kid) 0 (layout (node_of lower node kid) (form t) (arrays t) at)
      (path ++ t ∷ []))) (λ t. leaf_calls f (w t) (path ++ t ∷ []))
      (λ t lt. events_call (c t) (arrays t) at (layout (node_of lower node kid) (form t) (arrays t) at) _
      ∙ leaves_counted (w t) (node_of lower node kid) 0 (layout (node_of lower node kid) (form t) (arrays t) at)
      (path ++ t ∷ []) (s.1.1 t lt).1.2)
  leaves_counted (Reduce op size block which (Some rule) n form lower c arrays w) node kid at path s =
      lists (fan_of node) n (lane_of rule node n) (λ t. leaf_calls f (w t) (path ++ t ∷ []))
      (λ d. turns (λ t. eqb (lane_of rule node n t) d) n
      (λ t. call_tree (c t) (arrays t) at (layout (node_of lower node d) (form t) (arrays t) at)
      (tree (w t) (node_of lower node d) 0 (layout (node_of lower node d) (form t) (arrays t) at)
      (path ++ t ∷ [])))) (λ t lt. (s.1.1 t lt).0)
      (λ d. events_turns (λ t. eqb (lane_of rule node n t) d) n
      (λ t. call_tree (c t) (arrays t) at (layout (node_of lower node d) (form t) (arrays t) at)
      (tree (w t) (node_of lower node d) 0 (layout (node_of lower node d) (form t) (arrays t) at) (path ++ t ∷ [])))
      ∙ sum_if_same (λ t. eqb (lane_of rule node n t) d) n _ (λ t. leaf_calls f (w t) (path ++ t ∷ []))
      (λ t lt y. events_call (c t) (arrays t) at (layout (node_of lower node d) (form t) (arrays t) at)
      (tree (w t) (node_of lower node d) 0 (layout (node_of lower node d) (form t) (arrays t) at) (path ++ t ∷ []))
      ∙ ap (λ k. leaf_events f (tree (w t) (node_of lower node k) 0
      (layout (node_of lower node k) (form t) (arrays t) at) (path ++ t ∷ [])))
      (sym (eqb-true (lane_of rule node n t) d y))
      ∙ leaves_counted (w t) (node_of lower node (lane_of rule node n t)) 0
      (layout (node_of lower node (lane_of rule node n t)) (form t) (arrays t) at) (path ++ t ∷ []) (s.1.1 t lt).1.2))
  leaves_counted (Piped None n form second c arrays w) node kid at path s =
      events_list None n form second c arrays node kid at every
      (λ t. tree (w t) (child_of node kid) 0
      (layout (child_of node kid) (set_of None node n form second t) (arrays t) at) (path ++ t ∷ []))
      ∙ sum_every n _
      ∙ sum_same n _ (λ t. leaf_calls f (w t) (path ++ t ∷ []))
      (λ t lt. leaves_counted (w t) (child_of node kid) 0
      (layout (child_of node kid) (set_of None node n form second t) (arrays t) at) (path ++ t ∷ []) (s.3 t lt).2)
  leaves_counted (Piped (Some rule) n form second c arrays w) node kid at path s =
      lists (fan_of node) n (lane_of rule node n) (λ t. leaf_calls f (w t) (path ++ t ∷ [])) _ (λ t lt. (s.3.1 t lt).0)
      (λ d. events_list (Some rule) n form second c arrays node d at (λ t. eqb (lane_of rule node n t) d)
      (λ t. tree (w t) (child_of node d) 0
      (layout (child_of node d) (set_of (Some rule) node n form second t) (arrays t) at) (path ++ t ∷ []))
      ∙ sum_if_same (λ t. eqb (lane_of rule node n t) d) n _ (λ t. leaf_calls f (w t) (path ++ t ∷ []))
      (λ t lt y. ap (λ k. leaf_events f
      (tree (w t) (child_of node k) 0 (layout (child_of node k) (set_of (Some rule) node n form second t) (arrays t) at)
      (path ++ t ∷ []))) (sym (eqb-true (lane_of rule node n t) d y))
      ∙ leaves_counted (w t) (child_of node (lane_of rule node n t)) 0
      (layout (child_of node (lane_of rule node n t)) (set_of (Some rule) node n form second t) (arrays t) at)
      (path ++ t ∷ []) (s.3.1 t lt).1.2))
  leaves_counted (Leaf code n size writes) node kid at path s = refl

pub leaves_are_calls : LeavesAreCalls
leaves_are_calls f w node kid at path s = leaves_counted f w node kid at path s
