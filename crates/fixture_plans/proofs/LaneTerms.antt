-- The plan of lanes is well formed.
use Rattle.std.proofs.Common.{◌≡◌, ◌≢◌, ℕ, zero, suc, ◌+◌, ◌*◌, ◌<◌, ◌≤◌, ℤ, pos, false, true, Bool, List, [], ◌∷◌}
use Rattle.std.proofs.Common.{length, Some, get_or, slice_get, refl, sym, ap, ◌∙◌, subst, ◌⊎◌, inl, inr, arith}
use Rattle.std.specs.Prelude.{nat_abs, nat_eq, ◌≤ℤ◌}
use Rattle.std.specs.List.{All, Contains}
use Rattle.std.proofs.lemmas.Int.{ints}
use Rattle.std.proofs.lemmas.Bool.Decides.{nat_tests}
use Rattle.std.proofs.lemmas.List.Elements.{All-nil, All-cons, All-contains}
use Rattle.sq_num.specs.declared.Elem.TheVariants.{Int, Long}
use Rattle.sq_num.specs.Elements.{IsValue}
use Rattle.sq_text.specs.declared.spread.SpreadRule.{SpreadRule}
use Rattle.sq_text.specs.declared.spread.SpreadRule.TheVariants.{Cyclic, Blocked}
use Rattle.sq_rect.specs.declared.view.View.{View}
use Rattle.sq_ir.specs.declared.num.Num.{Num}
use Rattle.sq_ir.specs.declared.num.Num.TheVariants as n
use Rattle.sq_ir.specs.declared.term.Action.{Action}
use Rattle.sq_ir.specs.declared.term.Term.TheVariants as t
use Rattle.sq_ir.specs.declared.plan.Leaf.{Leaf}
use Rattle.sq_ir.specs.Events.{Event, Leaves, in_row, places}
use Rattle.sq_ir.specs.Written.{Setting, Env, at_root, at_turn, at_child, value_of, count_of, view_of, event_of}
use Rattle.sq_ir.specs.Plans.{HasValue, IsCount, IsBuffer, IsRow, IsView, InBuffers, AreDistinct, AreApart, Meets}
use Rattle.sq_ir.specs.Plans.{MayBePerformed, IsAllowed, setting_of, IsWellFormed}
use Rattle.sq_ir.specs.Examples.{slot}
use Rattle.sq_ir.proofs.Counting.{has_index, has_pick, small}
use Rattle.sq_ir.proofs.Meeting.{meets_act, meets_seq, meets_spread, meets_within}
use Rattle.sq_ir.proofs.OpenScopes.{contains-first, contains-none}
use Rattle.sq_ir.proofs.ExampleTrees.{const_is, index_is}
use Rattle.sq_ir.proofs.ExampleTerms.{has-const, are-nodes}
use Rattle.sq_ir.proofs.ExampleClear.{other-node}
use Rattle.fixture_plans.specs.Lanes.{first, second, last, starts, own, children_of, down, view, call, fill, add, collect}
use Rattle.fixture_plans.specs.Lanes.{up, steps, lane, lanes}
use Rattle.fixture_plans.proofs.LaneTrees.{start_at, placed, down-event, call-event, fill-event, add-event, collect-event}
use Rattle.fixture_plans.proofs.LaneTrees.{up-event, pick_is, down-is, view-is, call-is, fill-is, add-is, collect-is}
use Rattle.fixture_plans.proofs.LaneTrees.{up-is}

-- ---- numbers

module _ (s : Setting) (env : Env) where
  pub counted : (x : Num) (k : ℕ) → HasValue s x env → value_of s x env ≡ pos k → IsCount s env x
  counted x k h e = record { has = h; natural = subst (λ z. pos 0 ≤ℤ z) (sym e) (omega (arith, ints)) }

  pub const-count : (k : ℕ) → k < 4294967296 → IsCount s env (n.Const (pos k))
  const-count k h = counted (n.Const (pos k)) k (has-const s env k h) (const_is s (pos k) env)

  turn-is : (i : ℕ) (is : List ℕ) → env.turns ≡ i ∷ is → value_of s (n.Index 0) env ≡ pos i
  turn-is i is e = index_is s env ∙ ap (λ l. pos (get_or l 0 0)) e

  has-turn : (i : ℕ) (is : List ℕ) → env.turns ≡ i ∷ is → i < 4294967296 → HasValue s (n.Index 0) env
  has-turn i is e h =
      subst (λ (f : Env → Type 0). f env) (sym (has_index s 0))
      (subst (λ l. (0 < length l) × IsValue Long (pos (get_or l 0 0))) (sym e) (omega arith, small i h))

  turn-count : (i : ℕ) (is : List ℕ) → env.turns ≡ i ∷ is → i < 4294967296 → IsCount s env (n.Index 0)
  turn-count i is e h = counted (n.Index 0) i (has-turn i is e h) (turn-is i is e)

  pick-value : (ks : List ℤ) (i v : ℕ) (is : List ℕ) → env.turns ≡ i ∷ is → get_or ks i (pos 0) ≡ pos v
      → value_of s (n.Pick ks (n.Index 0)) env ≡ pos v
  pick-value ks i v is e h = pick_is s ks env ∙ ap (λ l. get_or ks (get_or l 0 0) (pos 0)) e ∙ h

  pick-count : (ks : List ℤ) (i v : ℕ) (is : List ℕ) → env.turns ≡ i ∷ is → get_or ks i (pos 0) ≡ pos v → i < length ks
      → length ks ≤ 3 → v < 4294967296 → IsCount s env (n.Pick ks (n.Index 0))
  pick-count ks i v is e h less few low =
      counted (n.Pick ks (n.Index 0)) v
      (subst (λ (f : Env → Type 0). f env) (sym (has_pick s ks (n.Index 0)))
      (has-turn i is e (omega (arith, less, few)), i, turn-is i is e, less, subst (IsValue Long) (sym h) (small v low)))
      (pick-value ks i v is e h)

-- ---- the view of the leaf call

each-byte : (P : ℕ → Type 0) → P 0 → P 1 → P 2 → P 3 → All P (places placed)
each-byte P a b c d = All-cons P 0 (1 ∷ 2 ∷ 3 ∷ []) a
    (All-cons P 1 (2 ∷ 3 ∷ []) b (All-cons P 2 (3 ∷ []) c (All-cons P 3 [] d (All-nil P))))

-- what stands behind isn't there again
not-later : (k : ℕ) (ks : List ℕ) → All (λ x. k < x) ks → Contains ks k → ⊥
not-later k ks h c = let less : k < k = All-contains (λ x. k < x) ks k h c in absurd (omega (arith, less))

rising : (k : ℕ) (ks : List ℕ) → All (λ x. k < x) ks → AreDistinct ks → AreDistinct (k ∷ ks)
rising k ks h d = (not-later k ks h, d)

distinct : AreDistinct (places placed)
distinct =
    rising 0 (1 ∷ 2 ∷ 3 ∷ []) (All-cons (λ x. 0 < x) 1 (2 ∷ 3 ∷ []) (omega arith)
    (All-cons (λ x. 0 < x) 2 (3 ∷ []) (omega arith)
    (All-cons (λ x. 0 < x) 3 [] (omega arith) (All-nil (λ x. 0 < x)))))
    (rising 1 (2 ∷ 3 ∷ []) (All-cons (λ x. 1 < x) 2 (3 ∷ []) (omega arith)
    (All-cons (λ x. 1 < x) 3 [] (omega arith) (All-nil (λ x. 1 < x))))
    (rising 2 (3 ∷ []) (All-cons (λ x. 2 < x) 3 [] (omega arith) (All-nil (λ x. 2 < x)))
    (rising 3 [] (All-nil (λ x. 3 < x)) tt)))

only-view : (v w : View) (i : ℕ) → slice_get (v ∷ []) i ≡ Some w → (i ≡ 0) × (v ≡ w)
only-view v w zero h = let e : v ≡ w = cc in (refl, e)
only-view v w (suc i) h = cc

apart : (written : List Bool) → AreApart written (placed ∷ [])
apart written =
    record {
      once = λ i v w h. subst (λ (x : View). AreDistinct (places x)) (only-view placed v i h).1 distinct;
      apart = λ i j v u k ne w h g c d. ne ((only-view placed v i h).0 ∙ sym (only-view placed u j g).0);
    }

-- ---- an iteration

rows-apart : (node at to len size : ℕ) → (at + len ≤ to) ⊎ (to + size ≤ at) → (a : _) → in_row node at len a ≡ true
    → in_row node to size a ≡ false
rows-apart node at to len size (inl l) a h = grind (arith, nat_tests)
rows-apart node at to len size (inr l) a h = grind (arith, nat_tests)

module _ {C : Type 0} (leaves : Leaves C) (rule : SpreadRule) (leaf : Leaf)
    (takes : leaves.shapes 0 ≡ Some (record { elem = Int; extents = 1 ∷ [] } ∷ [])) where
  abbrev s : Setting
  s = setting_of (lanes rule leaf)

  abbrev asked : Env → List ℕ → Action → Type 0
  asked = IsAllowed leaves s

  -- the iteration i at the child c
  module _ (i c : ℕ) (turn : i < 3) (begins : get_or starts i (pos 0) ≡ pos (start_at i)) (low : start_at i + 4 ≤ 12)
      (room : s.capacity (1 + c) ≡ 16) (other : nat_eq (1 + c) 0 ≡ false) (back : nat_eq 0 (1 + c) ≡ false) where
    abbrev env : Env
    env = at_child s (at_turn at_root i) c

    abbrev scope : List ℕ
    scope = 1 ∷ 0 ∷ []

    own-row : IsRow s env scope (slot 0 own) 4
    own-row =
        record {
          scope = (1, omega arith, refl);
          at = pick-count s env starts i (start_at i) [] refl begins turn (omega arith) (omega (arith, low));
          inside = subst (λ z. nat_abs z + 4 ≤ 16) (sym (pick-value s env starts i (start_at i) [] refl begins))
              (omega (arith, low));
        }

    last-row : IsRow s env scope (slot 0 last) 4
    last-row = record {
      scope = (1, omega arith, refl);
      at = const-count s env 12 (omega arith);
      inside
          = subst (λ z. nat_abs z + 4 ≤ 16) (sym (const_is s (pos 12) env)) (omega arith);
    }

    child-row : (k : ℕ) → k + 4 ≤ 8 → IsRow s env scope (slot 1 (n.Const (pos k))) 4
    child-row k h =
        record {
          scope = (0, omega arith, refl);
          at = const-count s env k (omega (arith, h));
          inside
              = subst (λ z. nat_abs z + 4 ≤ 8) (sym (const_is s (pos k) env)) h;
        }

    fits : (k : ℕ) → k + 4 ≤ 8 → k + 4 ≤ s.capacity (1 + c)
    fits k h = subst (λ x. k + 4 ≤ x) (sym room) (omega (arith, h))

    act-met : (a : Action) (e : Event) → event_of s env a ≡ e → InBuffers s env scope a
        → MayBePerformed leaves s.capacity e → Meets s asked (t.Act a) env scope
    act-met a e is inside may =
        subst (λ (f : Env → List ℕ → Type 0). f env scope) (sym (meets_act s asked a))
        (record { inside = inside; event = subst (MayBePerformed leaves s.capacity) (sym is) may })

    down-met : Meets s asked (t.Act down) env scope
    down-met = act-met down (down-event (1 + c) (start_at i)) (down-is rule leaf i c)
        (own-row, child-row 0 (omega arith))
        (omega (arith, low), fits 0 (omega arith), λ a h. other-node 0 (1 + c) (start_at i) 0 4 4 a back h)

    up-met : Meets s asked (t.Act up) env scope
    up-met = act-met up (up-event (1 + c) (start_at i)) (up-is rule leaf i c) (child-row 4 (omega arith), own-row)
        (fits 4 (omega arith), omega (arith, low), λ a h. other-node (1 + c) 0 4 (start_at i) 4 4 a other h)

    fill-met : Meets s asked (t.Act fill) env scope
    fill-met = act-met fill (fill-event (1 + c)) (fill-is rule leaf i c) (child-row 4 (omega arith))
        (fits 4 (omega arith))

    add-met : Meets s asked (t.Act add) env scope
    add-met =
        act-met add (add-event (1 + c)) (add-is rule leaf i c) (child-row 0 (omega arith), child-row 4 (omega arith))
        (fits 0 (omega arith), fits 4 (omega arith), λ a h. rows-apart (1 + c) 0 4 4 4 (inl (omega arith)) a h)

    collect-met : Meets s asked (t.Act collect) env scope
    collect-met =
        act-met collect (collect-event (1 + c)) (collect-is rule leaf i c) (child-row 4 (omega arith), last-row)
        (fits 4 (omega arith), omega arith, λ a h. other-node (1 + c) 0 4 12 4 4 a other h)

    view-inside : (v : View) → v ≡ placed → (k : ℕ) → Contains (places v) k → (0 ≤ k) × (k < 0 + 8)
    view-inside v e k h =
        All-contains (λ k. (0 ≤ k) × (k < 0 + 8)) (places placed) k
        (each-byte (λ k. (0 ≤ k) × (k < 0 + 8)) (omega arith, omega arith) (omega arith, omega arith)
        (omega arith, omega arith) (omega arith, omega arith))
        (subst (λ x. Contains (places x) k) e h)

    view-there : IsView s env scope view
    view-there = record {
      scope = (0, omega arith, refl);
      at = const-count s env 0 (omega arith);
      level = refl;
      inside
          = view-inside (view_of s env view) (view-is rule leaf i c);
    }

    below : (k : ℕ) → k < 16 → k < s.capacity (1 + c)
    below k h = subst (λ x. k < x) (sym room) h

    may-call : MayBePerformed leaves s.capacity (call-event (1 + c) i)
    may-call =
        record {
          shapes = takes;
          strides = All-cons (λ (v : View). length v.strides ≡ length v.extents) placed [] refl
              (All-nil (λ (v : View). length v.strides ≡ length v.extents));
          some = All-cons (λ (v : View). All (λ k. 0 < k) v.extents) placed []
              (All-cons (λ k. 0 < k) 1 [] (omega arith) (All-nil (λ k. 0 < k)))
              (All-nil (λ (v : View). All (λ k. 0 < k) v.extents));
          inside = All-cons (λ (v : View). All (λ k. k < s.capacity (1 + c)) (places v)) placed []
              (each-byte (λ k. k < s.capacity (1 + c)) (below 0 (omega arith)) (below 1 (omega arith))
              (below 2 (omega arith)) (below 3 (omega arith)))
              (All-nil (λ (v : View). All (λ k. k < s.capacity (1 + c)) (places v)));
          apart = apart (leaves.written 0);
          few = omega arith;
          near = All-cons (λ (v : View). v.at < 4294967296) placed [] (omega arith)
              (All-nil (λ (v : View). v.at < 4294967296));
          short = omega arith;
          words = All-cons (λ k. k < 4294967296) i [] (omega (arith, turn)) (All-nil (λ k. k < 4294967296));
        }

    call-met : Meets s asked (t.Act call) env scope
    call-met =
        act-met call (call-event (1 + c) i) (call-is rule leaf i c) (
          All-cons (IsView s env scope) view [] view-there (All-nil (IsView s env scope)),
          All-cons (IsCount s env)
              (n.Index 0) [] (turn-count s env i [] refl (omega (arith, turn))) (All-nil (IsCount s env)),
        )
        may-call

    steps-met : Meets s asked (t.Seq steps) env scope
    steps-met = subst (λ (f : Env → List ℕ → Type 0). f env scope) (sym (meets_seq s asked steps))
        (down-met, (call-met, (fill-met, (add-met, (collect-met, (up-met, tt))))))

    lane-met : get_or (children_of rule) i (pos 0) ≡ pos c → length (children_of rule) ≡ 3 → c < 2
        → Meets s asked (lane rule) (at_turn at_root i) (0 ∷ [])
    lane-met is len few =
        let outside = at_turn at_root i in
        let value = pick-value s outside (children_of rule) i c [] refl is in
        subst (λ (f : Env → List ℕ → Type 0). f outside (0 ∷ []))
        (sym (meets_within s asked (Some (n.Pick (children_of rule) (n.Index 0))) (1 ∷ []) (t.Seq steps))) (
          (
            pick-count s outside (children_of rule) i c [] refl is (omega (arith, turn, len)) (omega (arith, len))
                (omega (arith, few)),
            subst (λ z. nat_abs z < 2) (sym value) few,
          ),
          All-cons (IsBuffer s 1) 1 [] (record { there = omega arith; level = refl }) (All-nil (IsBuffer s 1)),
          subst (λ k. Meets s asked (t.Seq steps) (at_child s outside k) scope) (sym (ap nat_abs value)) steps-met,
        )

module _ {C : Type 0} (leaves : Leaves C) (leaf : Leaf)
    (takes : leaves.shapes 0 ≡ Some (record { elem = Int; extents = 1 ∷ [] } ∷ [])) where
  each-turn : (rule : SpreadRule) (i : ℕ) → i < 3
      → Meets (setting_of (lanes rule leaf)) (IsAllowed leaves (setting_of (lanes rule leaf))) (lane rule)
      (at_turn at_root i) (0 ∷ [])
  each-turn Cyclic zero h = lane-met leaves Cyclic leaf takes 0 0 (omega arith) refl (omega arith) refl refl refl refl
      refl (omega arith)
  each-turn Cyclic (suc zero) h = lane-met leaves Cyclic leaf takes 1 1 (omega arith) refl (omega arith) refl refl refl
      refl refl (omega arith)
  each-turn Cyclic (suc (suc zero)) h
      = lane-met leaves Cyclic leaf takes 2 0 (omega arith) refl (omega arith) refl refl refl refl refl (omega arith)
  each-turn Cyclic (suc (suc (suc i))) h = absurd (omega (arith, h))
  each-turn Blocked zero h = lane-met leaves Blocked leaf takes 0 0 (omega arith) refl (omega arith) refl refl refl refl
      refl (omega arith)
  each-turn Blocked (suc zero) h = lane-met leaves Blocked leaf takes 1 0 (omega arith) refl (omega arith) refl refl
      refl refl refl (omega arith)
  each-turn Blocked (suc (suc zero)) h
      = lane-met leaves Blocked leaf takes 2 1 (omega arith) refl (omega arith) refl refl refl refl refl (omega arith)
  each-turn Blocked (suc (suc (suc i))) h = absurd (omega (arith, h))

  pub well-formed : (rule : SpreadRule) → IsWellFormed leaves (lanes rule leaf)
  well-formed rule =
      let s = setting_of (lanes rule leaf) in
      let asked = IsAllowed leaves s in
      let three = const_is s (pos 3) at_root in
      record {
        nodes = are-nodes;
        offsets = refl;
        entry = All-cons (IsBuffer s 0) 0 [] (record { there = omega arith; level = refl }) (All-nil (IsBuffer s 0));
        term = subst (λ (f : Env → List ℕ → Type 0). f at_root (0 ∷ []))
            (sym (meets_spread s asked (n.Const (pos 3)) rule (lane rule))) (
              const-count s at_root 3 (omega arith),
              omega arith,
              λ i h. each-turn rule i
                  (subst (λ z. i < nat_abs z) three h),
            );
      }
