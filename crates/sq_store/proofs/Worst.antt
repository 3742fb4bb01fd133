-- The node that a refusal names.
use Rattle.std.proofs.Common.{◌≡◌, ℕ, zero, suc, ◌-◌, ◌<◌, ◌≤◌, ◌^◌, Bool, true, false, List, length, get_or, Option}
use Rattle.std.proofs.Common.{Some, None, refl, sym, ap, subst, ◌∙◌, arith, ◌⊎◌, inl, inr}
use Rattle.std.specs.Prelude.{◌||◌, ◌&&◌, ◌==◌, nat_lt, if◌then◌else◌}
use Rattle.std.proofs.lemmas.Bool.{eqb-true, eqb-false, ltb-true, ltb-false}
use Rattle.std.proofs.lemmas.Option.{slice_get-get_or}
use Rattle.sq_ir.specs.Plans.{node_at}
use Rattle.sq_ir.specs.declared.plan.Draft.{Draft}
use Rattle.sq_ir.specs.declared.plan.PlanNode.{PlanNode}
use Rattle.sq_store.specs.declared.fitting.Lack.{Lack}
use Rattle.sq_nests.specs.Stacks.{capped}
use Rattle.sq_nests.specs.Drafts.{IsPlaceable, nested_sum, HasSpace, AllLaid, scopes}
use Rattle.sq_nests.specs.Needs.{IsCounted, AreSums}
use Rattle.sq_store.specs.Place.{excess, keep, or_worse, lack_at, worst_of, need_at, capacity_at, level_at, excess_at}
use Rattle.sq_store.specs.Place.{IsShort, IsOver, IsRoomFor, IsPlaced}
use Rattle.sq_store.proofs.Walks.{all_laid}
use Rattle.sq_nests.proofs.Room.{laid_have_room}
use Rattle.sq_nests.proofs.Weights.{need_is_sum}

-- ---- which counts

-- the first counts no less than the second
abbrev Comes : Lack → Lack → Type 0
Comes a b = (a.level < b.level) ⊎ ((a.level ≡ b.level) × (excess b ≤ excess a))

-- and the later one of two doesn't count as much
abbrev Leads : Lack → Lack → Type 0
Leads a b = (a.level < b.level) ⊎ ((a.level ≡ b.level) × (excess b < excess a))

lead_come : (a b : Lack) → Leads a b → Comes a b
lead_come a b (inl h) = inl h
lead_come a b (inr h) = inr (h.0, let z = h.1 in omega (arith, z))

lead_trans : (a b c : Lack) → Leads a b → Comes b c → Leads a c
lead_trans a b c (inl h) (inl g) = inl (omega (arith, h, g))
lead_trans a b c (inl h) (inr g) = inl (let z = g.0 in omega (arith, h, z))
lead_trans a b c (inr h) (inl g) = inl (let z = h.0 in omega (arith, z, g))
lead_trans a b c (inr h) (inr g) = inr (h.0 ∙ g.0, let y = h.1 in let z = g.1 in omega (arith, y, z))

module _ (nodes : List PlanNode) (sums : List ℕ) where
  -- of the first k nodes it counts most, and more than those before it
  record IsWorst (k : ℕ) (a : Lack) : Type 0 where
    there : a.node < k
    is : lack_at nodes sums a.node ≡ Some a
    most : (i : ℕ) (b : Lack) → i < k → lack_at nodes sums i ≡ Some b → Comes a b
    first : (i : ℕ) (b : Lack) → i < a.node → lack_at nodes sums i ≡ Some b → Leads a b

  abbrev None_short : ℕ → Type 0
  None_short k = (i : ℕ) → i < k → lack_at nodes sums i ≡ None

  abbrev IsSo : ℕ → Option Lack → Type 0
  IsSo k None = None_short k
  IsSo k (Some a) = IsWorst k a

  node_of_lack : (i : ℕ) (a : Lack) → lack_at nodes sums i ≡ Some a → a
      ≡ record { node = i; level = level_at nodes i; need = get_or sums i 0; capacity = capacity_at nodes i }
  node_of_lack i a e = by (nat_lt (capacity_at nodes i) (get_or sums i 0)) e
    where
      by : (v : Bool) → (if v then Some
          (record { node = i; level = level_at nodes i; need = get_or sums i 0; capacity = capacity_at nodes i }) else
          None) ≡ Some a → a ≡ record {
            node = i;
            level = level_at nodes i;
            need = get_or sums i 0;
            capacity =
                capacity_at nodes i;
          }
      by true h = let z : record {
        node = i;
        level = level_at nodes i;
        need = get_or sums i 0;
        capacity = capacity_at
            nodes i;
      } ≡ a = cc in sym z
      by false h = absurd (let z = h in cc)

  last : (P : ℕ → Type 0) (i k : ℕ) → i < suc k → (i < k → P i) → P k → P i
  last P i k h f g = by (i == k) refl
    where
      by : (v : Bool) → (i == k) ≡ v → P i
      by true e = subst P (sym (eqb-true i k e)) g
      by false e = let z = eqb-false i k e in f (omega (arith, h, z))

  -- none at the next node
  same : (k : ℕ) (o : Option Lack) → lack_at nodes sums k ≡ None → IsSo k o → IsSo (suc k) o
  same k None e h = λ i l. last (λ i. lack_at nodes sums i ≡ None) i k l (h i) e
  same k (Some a) e h = record {
    there = (let z = h.there in omega (arith, z));
    is = h.is;
    most = λ i b l g. last (λ i. lack_at nodes sums i ≡ Some b → Comes a b) i k l (λ m. h.most i b m)
        (λ q. absurd (let z : None ≡ Some b = sym e ∙ q in cc)) g;
    first = h.first;
  }

  -- the first that there is
  first_lack : (k : ℕ) (b : Lack) → lack_at nodes sums k ≡ Some b → None_short k → IsWorst (suc k) b
  first_lack k b e h =
      let n : b.node ≡ k = ap (λ (x : Lack). x.node) (node_of_lack k b e) in
      record {
        there = omega (arith, n);
        is = subst (λ i. lack_at nodes sums i ≡ Some b) (sym n) e;
        most = λ i c l g. last (λ i. lack_at nodes sums i ≡ Some c → Comes b c) i k l
            (λ m q. absurd (let z : None ≡ Some c = sym (h i m) ∙ q in cc)) (λ q. itself b c (sym e ∙ q)) g;
        first = λ i c l g. absurd (let z : None ≡ Some c = sym (h i (omega (arith, l, n))) ∙ g in cc);
      }
    where
      itself : (b c : Lack) → Some b ≡ Some c → Comes b c
      itself b c q = let z : b ≡ c = cc in subst (Comes b) z (inr (refl, omega arith))

  -- one that counts more
  more_counts : (k : ℕ) (a b : Lack) → lack_at nodes sums k ≡ Some b → IsWorst k a → Leads b a → IsWorst (suc k) b
  more_counts k a b e h lead =
      let n : b.node ≡ k = ap (λ (x : Lack). x.node) (node_of_lack k b e) in
      record {
        there = omega (arith, n);
        is = subst (λ i. lack_at nodes sums i ≡ Some b) (sym n) e;
        most = λ i c l g. last (λ i. lack_at nodes sums i ≡ Some c → Comes b c) i k l
            (λ m q. lead_come b c (lead_trans b a c lead (h.most i c m q))) (λ q. itself c (sym e ∙ q)) g;
        first = λ i c l g. lead_trans b a c lead (h.most i c (omega (arith, l, n)) g);
      }
    where
      itself : (c : Lack) → Some b ≡ Some c → Comes b c
      itself c q = let z : b ≡ c = cc in subst (Comes b) z (inr (refl, omega arith))

  -- one that doesn't
  no_more : (k : ℕ) (a b : Lack) → lack_at nodes sums k ≡ Some b → IsWorst k a → Comes a b → IsWorst (suc k) a
  no_more k a b e h come = record {
    there = (let z = h.there in omega (arith, z));
    is = h.is;
    most = λ i c l g. last (λ i. lack_at nodes sums i ≡ Some c → Comes a c) i k l (λ m q. h.most i c m q)
        (λ q. let z : b ≡ c = cc in subst (Comes a) z come) g;
    first = h.first;
  }

  kept : (k : ℕ) (o : Option Lack) (b : Lack) → lack_at nodes sums k ≡ Some b → IsSo k o → IsSo (suc k) (keep o b)
  kept k None b e h = first_lack k b e h
  kept k (Some a) b e h = by (nat_lt b.level a.level) refl (b.level == a.level) refl (nat_lt (excess a) (excess b)) refl
    where
      by : (u : Bool) → nat_lt b.level a.level ≡ u → (v : Bool) → (b.level == a.level) ≡ v → (w : Bool)
          → nat_lt (excess a) (excess b) ≡ w → IsSo (suc k) (if u || (v && w) then Some b else Some a)
      by true p v q w r = more_counts k a b e h (inl (ltb-true b.level a.level p))
      by false p true q true r = more_counts k a b e h
          (inr (eqb-true b.level a.level q, ltb-true (excess a) (excess b) r))
      by false p true q false r = no_more k a b e h
          (inr (sym (eqb-true b.level a.level q), ltb-false (excess a) (excess b) r))
      by false p false q w r = no_more k a b e h
          (inl (let y = ltb-false b.level a.level p in let z = eqb-false b.level a.level q in omega (arith, y, z)))

  worst_is : (k : ℕ) → IsSo k (worst_of nodes sums k)
  worst_is zero = λ i l. absurd (omega (arith, l))
  worst_is (suc k) = by (lack_at nodes sums k) refl (worst_is k)
    where
      by : (o : Option Lack) → lack_at nodes sums k ≡ o → IsSo k (worst_of nodes sums k)
          → IsSo (suc k) (or_worse (worst_of nodes sums k) o)
      by None e h = same k (worst_of nodes sums k) e h
      by (Some b) e h = kept k (worst_of nodes sums k) b e h

-- ---- answers

module _ (d : Draft) (nodes : List PlanNode) (sums : List ℕ) (are : AreSums d nodes false sums) where
  sum_is : (i : ℕ) → i < length nodes → get_or sums i 0 ≡ need_at d nodes i
  sum_is i h = are.each i h ∙ ap capped (need_is_sum d.buffers i (scopes d nodes))

  -- a short node lacks something
  abbrev theirs_is : ℕ → Lack
  theirs_is m = record { node = m; level = level_at nodes m; need = get_or sums m 0; capacity = capacity_at nodes m }

  lacks : (m : ℕ) → IsShort d nodes m → lack_at nodes sums m ≡ Some (theirs_is m)
  lacks m h = by (nat_lt (capacity_at nodes m) (get_or sums m 0)) refl
    where
      by : (v : Bool) → nat_lt (capacity_at nodes m) (get_or sums m 0) ≡ v → (if v then Some (theirs_is m) else None)
          ≡ Some (theirs_is m)
      by true e = refl
      by false e = let z = ltb-false (capacity_at nodes m) (get_or sums m 0) e in let y = sum_is m h.there in let x
          = h.short in absurd (omega (arith, x, y, z))

  pub refusal : (a : Lack) → worst_of nodes sums (length nodes) ≡ Some a → IsOver d nodes a.node a.need a.capacity
  refusal a e = subst (λ (x : Lack). IsOver d nodes x.node x.need x.capacity) (sym is) over
    where
      w : IsWorst nodes sums (length nodes) a
      w = subst (IsSo nodes sums (length nodes)) e (worst_is nodes sums (length nodes))

      k : ℕ
      k = a.node

      is : a ≡ record { node = k; level = level_at nodes k; need = get_or sums k 0; capacity = capacity_at nodes k }
      is = node_of_lack nodes sums k a w.is

      level_is : a.level ≡ level_at nodes k
      level_is = ap (λ (x : Lack). x.level) is

      excess_is : excess a ≡ excess_at d nodes k
      excess_is = ap excess is ∙ ap (λ z. z - capacity_at nodes k) (sum_is k w.there)

      theirs : (m : ℕ) → m < length nodes → get_or sums m 0 - capacity_at nodes m ≡ excess_at d nodes m
      theirs m h = ap (λ z. z - capacity_at nodes m) (sum_is m h)

      is_short : (v : Bool) → nat_lt (capacity_at nodes k) (get_or sums k 0) ≡ v
          → (if v then Some (record {
            node = k;
            level = level_at nodes k;
            need = get_or sums k 0;
            capacity = capacity_at
                nodes k;
          }) else None) ≡ Some a → capacity_at nodes k < get_or sums k 0
      is_short true e h = ltb-true (capacity_at nodes k) (get_or sums k 0) e
      is_short false e h = absurd (let z = h in cc)

      levels : (m : ℕ) → Comes a (record
          { node = m; level = level_at nodes m; need = get_or sums m 0; capacity = capacity_at nodes m })
          → level_at nodes k ≤ level_at nodes m
      levels m (inl h) = let l = level_is in omega (arith, h, l)
      levels m (inr h) = let l = level_is in let g = h.0 in omega (arith, g, l)

      greater : (m : ℕ) → m < length nodes → level_at nodes m ≡ level_at nodes k
          → Comes a (record {
            node = m;
            level = level_at nodes m;
            need = get_or sums m 0;
            capacity
                = capacity_at nodes m;
          }) → excess_at d nodes m ≤ excess_at d nodes k
      greater m t q (inl h) = let l = level_is in absurd (omega (arith, h, l, q))
      greater m t q (inr h) = let y = theirs m t in let x = excess_is in let g = h.1 in omega (arith, x, y, g)

      leads : (m : ℕ) → m < length nodes → level_at nodes m ≡ level_at nodes k
          → Leads a (record {
            node = m;
            level = level_at nodes m;
            need = get_or sums m 0;
            capacity
                = capacity_at nodes m;
          }) → excess_at d nodes m < excess_at d nodes k
      leads m t q (inl h) = let l = level_is in absurd (omega (arith, h, l, q))
      leads m t q (inr h) = let y = theirs m t in let x = excess_is in let g = h.1 in omega (arith, x, y, g)

      over : IsOver d nodes k (get_or sums k 0) (capacity_at nodes k)
      over = record {
        over = record {
          there = w.there;
          short
              = (let z = is_short (nat_lt (capacity_at nodes k) (get_or sums k 0)) refl w.is in let y
              = sum_is k w.there in omega (arith, z, y));
        };
        need_is = sum_is k w.there;
        capacity_is = refl;
        level = λ m h. levels m (w.most m _ h.there (lacks m h));
        greatest = λ m h q. greater m h.there q (w.most m _ h.there (lacks m h));
        first = λ m h q l. leads m h.there q (w.first m _ l (lacks m h));
      }

  capped_under : (n c : ℕ) → capped n ≤ c → c < 2 ^ 64 - 1 → n ≤ c
  unfolding capped
  capped_under n c h l = omega (arith, h, l)

  pub space_is : IsPlaceable d nodes → worst_of nodes sums (length nodes) ≡ None → HasSpace d nodes
  space_is can e = λ m h.
      let c = (can.machine.each m (node_at nodes m)
      (slice_get-get_or nodes m (record { level = 0; capacity = 0; first_child = 0; children = 0 }) h)).capacity in
      capped_under (nested_sum d nodes m) (capacity_at nodes m) (not_short m h) (omega (arith, c))
    where
      none : IsSo nodes sums (length nodes) None
      none = subst (IsSo nodes sums (length nodes)) e (worst_is nodes sums (length nodes))

      not_short : (m : ℕ) → m < length nodes → need_at d nodes m ≤ capacity_at nodes m
      not_short m h = by (nat_lt (capacity_at nodes m) (need_at d nodes m)) refl
        where
          by : (v : Bool) → nat_lt (capacity_at nodes m) (need_at d nodes m) ≡ v → need_at d nodes m
              ≤ capacity_at nodes m
          by true q = absurd (let z = sym (none m h)
              ∙ lacks m (record { there = h; short = ltb-true (capacity_at nodes m) (need_at d nodes m) q }) in cc)
          by false q = ltb-false (capacity_at nodes m) (need_at d nodes m) q

pub counted : (d : Draft) (nodes : List PlanNode) → IsPlaceable d nodes → IsCounted d nodes
counted d nodes can = record { machine = can.machine; term = can.term (λ b. 0) }

pub placed_is : (d : Draft) (nodes : List PlanNode) (offsets : List ℕ) → IsPlaceable d nodes → IsRoomFor d nodes offsets
    → IsPlaced d nodes (record { draft = d; offsets = offsets; nodes = nodes })
placed_is d nodes offsets can room = record {
  space = room.space;
  is = ap (λ (o : List ℕ). record { draft = d; offsets = o; nodes = nodes }) room.offsets_;
  room = laid_have_room d nodes offsets can (subst (AllLaid d) (sym room.offsets_) (all_laid d can.before can.stacks))
      room.space;
}
