-- Parents and children of nodes that are arranged.
use Rattle.std.proofs.Common.{◌≡◌, ◌⊎◌, inl, inr, ℕ, zero, suc, ◌+◌, ◌-◌, ◌<◌, ◌≤◌, ◌↔◌, nat_lt, Bool, true, false, ◌==◌, if◌then◌else◌, List, [], ◌∷◌, ◌++◌, length, map, filter, take, replicate, Some, refl, sym, ◌∙◌, ap, subst, arith}
use Rattle.std.specs.List.{slice_get, flat_map}
use Rattle.std.proofs.lemmas.Bool.{cases_lt, ltb-true, ltb-false, eqb-true, eqb-false}
use Rattle.sq_machfile.specs.declared.node.Node.{Node}
use Rattle.sq_machfile.specs.Nodes.{at_level, total, children_of, below, AreArranged}
use Rattle.sq_machfile.specs.Families.{IsChild, above}
use Rattle.sq_machfile.proofs.Arranged.{same_in, level_of}

-- ---- lists

in_copies : {X : Type 0} (n : ℕ) (x : X) (rest : List X) (k : ℕ) → k < n → slice_get (replicate n x ++ rest) k ≡ Some x
in_copies zero x rest k lt = absurd (omega (arith, lt))
in_copies (suc n) x rest zero lt = refl
in_copies (suc n) x rest (suc k) lt = in_copies n x rest k (omega (arith, lt))

past_copies : {X : Type 0} (n : ℕ) (x : X) (rest : List X) (k : ℕ) → slice_get (replicate n x ++ rest) (n + k) ≡ slice_get rest k
past_copies zero x rest k = let e : zero + k ≡ k = omega arith in ap (slice_get rest) e
past_copies (suc n) x rest k = let e : suc n + k ≡ suc (n + k) = omega arith in ap (slice_get (replicate (suc n) x ++ rest)) e ∙ past_copies n x rest k

-- an element where there is one of what is made of it
pub record Made {X Y : Type 0} (f : X → Y) (xs : List X) (i : ℕ) (y : Y) : Type 0 where
  pub one : X
  pub there : slice_get xs i ≡ Some one
  pub is : f one ≡ y

pub made_of : {X Y : Type 0} (f : X → Y) (xs : List X) (i : ℕ) (y : Y) → slice_get (map f xs) i ≡ Some y → Made f xs i y
made_of f [] zero y e = absurd (cc)
made_of f [] (suc i) y e = absurd (cc)
made_of f (x ∷ xs) zero y e = record { one = x; there = refl; is = same_in (f x) y e }
made_of f (x ∷ xs) (suc i) y e = let r = made_of f xs i y e in record { one = r.one; there = r.there; is = r.is }

-- ---- the levels of children

-- the children of the i-th node stand behind those of the nodes before it
child_level : (ns : List Node) (i k : ℕ) (n : Node) → slice_get ns i ≡ Some n → k < n.children
    → slice_get (flat_map below ns) (total children_of (take i ns) + k) ≡ Some (suc n.level)
child_level [] zero k n e lt = absurd (cc)
child_level [] (suc i) k n e lt = absurd (cc)
child_level (m ∷ ns) zero k n e lt =
    let zeroth : 0 + k ≡ k = omega arith in
    subst (λ (n : Node). k < n.children → slice_get (flat_map below (m ∷ ns)) (0 + k) ≡ Some (suc n.level)) (same_in m n e)
    (λ lt. ap (slice_get (flat_map below (m ∷ ns))) zeroth ∙ in_copies m.children (suc m.level) (flat_map below ns) k lt) lt
child_level (m ∷ ns) (suc i) k n e lt =
    let sum : (m.children + total children_of (take i ns)) + k ≡ m.children + (total children_of (take i ns) + k) = omega arith in
    ap (slice_get (flat_map below (m ∷ ns))) sum ∙ past_copies m.children (suc m.level) (flat_map below ns) (total children_of (take i ns) + k) ∙ child_level ns i k n e lt

-- the node that has the j-th of all children
record Parent (ns : List Node) (j : ℕ) : Type 0 where
  index : ℕ
  node : Node
  there : slice_get ns index ≡ Some node
  from : total children_of (take index ns) ≤ j
  to : j < total children_of (take index ns) + node.children

parent : (ns : List Node) (j : ℕ) → j < total children_of ns → Parent ns j
parent [] j lt = absurd (omega (arith, lt))
parent (m ∷ ns) j lt = by_case (λ below. parent ns (j - m.children) below) (cases_lt j m.children)
  where
    by_case : (j - m.children < total children_of ns → Parent ns (j - m.children)) → (j < m.children) ⊎ (m.children ≤ j) → Parent (m ∷ ns) j
    by_case more (inl here) = record { index = 0; node = m; there = refl; from = omega arith; to = omega (arith, here) }
    by_case more (inr later) =
        let r = more (omega (arith, later, lt)) in
        let from = r.from in
        let to = r.to in
        record { index = suc r.index; node = r.node; there = r.there; from = omega (arith, later, from); to = omega (arith, later, to) }

-- the children of the nodes up to one are among those of the nodes before a later one
up_to : (ns : List Node) (i j : ℕ) (n : Node) → slice_get ns i ≡ Some n → i < j → total children_of (take i ns) + n.children ≤ total children_of (take j ns)
up_to [] zero j n e lt = absurd (cc)
up_to [] (suc i) j n e lt = absurd (cc)
up_to (m ∷ ns) i zero n e lt = absurd (omega (arith, lt))
up_to (m ∷ ns) zero (suc j) n e lt = let same : m.children ≡ n.children = ap children_of (same_in m n e) in omega (arith, same)
up_to (m ∷ ns) (suc i) (suc j) n e lt = let more = up_to ns i j n e (omega (arith, lt)) in omega (arith, more)

length_copies : {X : Type 0} (n : ℕ) (x : X) (rest : List X) → length (replicate n x ++ rest) ≡ n + length rest
length_copies zero x rest = omega arith
length_copies (suc n) x rest = let more = length_copies n x rest in omega (arith, more)

length_below : (ns : List Node) → length (flat_map below ns) ≡ total children_of ns
length_below [] = refl
length_below (n ∷ ns) = let more = length_below ns in let here = length_copies n.children (suc n.level) (flat_map below ns) in omega (arith, more, here)

length_levels : (ns : List Node) → length (map level_of ns) ≡ length ns
length_levels [] = refl
length_levels (n ∷ ns) = ap suc (length_levels ns)

-- ---- counts of levels

abbrev Rising : List Node → Type 0
Rising ns = (i j : ℕ) (a b : Node) → i ≤ j → slice_get ns i ≡ Some a → slice_get ns j ≡ Some b → a.level ≤ b.level

behind_first : (n : Node) (ns : List Node) → Rising (n ∷ ns) → Rising ns
behind_first n ns r = λ i j a b le ea eb. r (suc i) (suc j) a b (omega (arith, le)) ea eb

-- 1 where the test holds, and else 0
abbrev pub one_where : Bool → ℕ
one_where b = if b then 1 else 0

pub one_if : {X : Type 0} (b : Bool) (x : X) (xs : List X) → length (if b then x ∷ xs else xs) ≡ one_where b + length xs
one_if true x xs = omega arith
one_if false x xs = omega arith

abbrev is_above : ℕ → Node → ℕ
is_above k n = one_where (nat_lt n.level k)

first_above : (n : Node) (ns : List Node) (k : ℕ) → above (n ∷ ns) k ≡ is_above k n + above ns k
first_above n ns k = one_if (nat_lt n.level k) n (filter (λ n. nat_lt n.level k) ns)

above_tells : (k : ℕ) (n : Node) → ((is_above k n ≡ 1) × (n.level < k)) ⊎ ((is_above k n ≡ 0) × (k ≤ n.level))
above_tells k n = by_case (nat_lt n.level k) refl
  where
    by_case : (b : Bool) → nat_lt n.level k ≡ b → ((one_where b ≡ 1) × (n.level < k)) ⊎ ((one_where b ≡ 0) × (k ≤ n.level))
    by_case true e = inl (refl, ltb-true n.level k e)
    by_case false e = inr (refl, ltb-false n.level k e)

abbrev pub is_at : ℕ → Node → ℕ
is_at k n = one_where (n.level == k)

pub at_tells : (k : ℕ) (n : Node) → ((is_at k n ≡ 1) × (n.level ≡ k)) ⊎ ((is_at k n ≡ 0) × (n.level ≡ k → ⊥))
at_tells k n = by_case (n.level == k) refl
  where
    by_case : (b : Bool) → (n.level == k) ≡ b → ((one_where b ≡ 1) × (n.level ≡ k)) ⊎ ((one_where b ≡ 0) × (n.level ≡ k → ⊥))
    by_case true e = inl (refl, eqb-true n.level k e)
    by_case false e = inr (refl, eqb-false n.level k e)

-- where the first isn't above a level, none is
none_above : (ns : List Node) (k : ℕ) → ((i : ℕ) (n : Node) → slice_get ns i ≡ Some n → k ≤ n.level) → above ns k ≡ 0
none_above [] k h = refl
none_above (n ∷ ns) k h =
    let more = none_above ns k (λ i m there. h (suc i) m there) in
    let count = first_above n ns k in
    let tells = above_tells k n in
    let low = h 0 n refl in
    omega (arith, more, count, tells, low)

-- a node above a level stands among the first
among_above : (ns : List Node) (k : ℕ) → Rising ns → (i : ℕ) (n : Node) → slice_get ns i ≡ Some n → n.level < k → i < above ns k
among_above [] k r zero n e lt = absurd (cc)
among_above [] k r (suc i) n e lt = absurd (cc)
among_above (m ∷ ns) k r zero n e lt =
    let count = first_above m ns k in
    let tells = above_tells k m in
    let same : m.level ≡ n.level = ap level_of (same_in m n e) in
    omega (arith, count, tells, same, lt)
among_above (m ∷ ns) k r (suc i) n e lt =
    let more = among_above ns k (behind_first m ns r) i n e lt in
    let count = first_above m ns k in
    let tells = above_tells k m in
    let low = r 0 (suc i) m n (omega arith) refl e in
    omega (arith, more, count, tells, low, lt)

-- and one that isn't above it stands behind them
behind_above : (ns : List Node) (k : ℕ) → Rising ns → (i : ℕ) (n : Node) → slice_get ns i ≡ Some n → k ≤ n.level → above ns k ≤ i
behind_above [] k r zero n e le = absurd (cc)
behind_above [] k r (suc i) n e le = absurd (cc)
behind_above (m ∷ ns) k r zero n e le =
    let same : m.level ≡ n.level = ap level_of (same_in m n e) in
    let none = none_above (m ∷ ns) k (λ j x there. let low = r 0 j m x (omega arith) refl there in omega (arith, low, same, le)) in
    omega (arith, none)
behind_above (m ∷ ns) k r (suc i) n e le =
    let more = behind_above ns k (behind_first m ns r) i n e le in
    let count = first_above m ns k in
    let tells = above_tells k m in
    omega (arith, more, count, tells)

-- the nodes above the next level are those above this one and its own
pub next_above : (ns : List Node) (k : ℕ) → above ns (suc k) ≡ above ns k + length (at_level ns k)
next_above [] k = refl
next_above (n ∷ ns) k =
    let more = next_above ns k in
    let count = first_above n ns k in
    let next = first_above n ns (suc k) in
    let here = one_if (n.level == k) n (at_level ns k) in
    let tells = above_tells k n in
    let next_tells = above_tells (suc k) n in
    let here_tells = at_tells k n in
    omega (arith, more, count, next, here, tells, next_tells, here_tells)

-- ---- arranged nodes

module _ (ns : List Node) (a : AreArranged ns) where
  -- where the first child of a node stands
  begin : (p : ℕ) (n : Node) → slice_get ns p ≡ Some n → 0 < n.children → n.first_child ≡ 1 + total children_of (take p ns)
  begin p n there some = a.first p n there ∙ by_case (n.children == 0) refl
    where
      by_case : (b : Bool) → (n.children == 0) ≡ b → (if b then 0 else 1 + total children_of (take p ns)) ≡ 1 + total children_of (take p ns)
      by_case true e = let none = eqb-true n.children 0 e in absurd (omega (arith, none, some))
      by_case false e = refl

  pub child : (p k : ℕ) (n : Node) → slice_get ns p ≡ Some n → k < n.children → (c : Node) × (slice_get ns (n.first_child + k) ≡ Some c) × (c.level ≡ suc n.level)
  child p k n there lt =
      let first = begin p n there (omega (arith, lt)) in
      let at : n.first_child + k ≡ suc (total children_of (take p ns) + k) = omega (arith, first) in
      let is : slice_get (map level_of ns) (n.first_child + k) ≡ Some (suc n.level) =
      ap (λ ls. slice_get ls (n.first_child + k)) a.children ∙ ap (slice_get (0 ∷ flat_map below ns)) at ∙ child_level ns p k n there lt in
      let r = made_of level_of ns (n.first_child + k) (suc n.level) is in
      (r.one, r.there, r.is)

  pub child_level_of : (p c : ℕ) (n : Node) (x : IsChild ns p c) → slice_get ns c ≡ Some n → n.level ≡ suc x.node.level
  child_level_of p c n x there =
      let from = x.from in let to = x.to in
      let at : x.node.first_child + (c - x.node.first_child) ≡ c = omega (arith, from) in
      let r = child p (c - x.node.first_child) x.node x.there (omega (arith, from, to)) in
      let same = same_in n r.0 (sym there ∙ ap (slice_get ns) (sym at) ∙ r.1) in
      ap level_of same ∙ r.2

  pub behind : (p c : ℕ) → IsChild ns p c → p < c
  behind p c x = by_case (cases_lt p c)
    where
      by_case : (p < c) ⊎ (c ≤ p) → p < c
      by_case (inl before) = before
      by_case (inr le) =
          let from = x.from in let to = x.to in
          let at : x.node.first_child + (c - x.node.first_child) ≡ c = omega (arith, from) in
          let r = child p (c - x.node.first_child) x.node x.there (omega (arith, from, to)) in
          let level = r.2 in
          let low = a.sorted c p r.0 x.node le (ap (slice_get ns) (sym at) ∙ r.1) x.there in
          absurd (omega (arith, low, level))

  pub count : length ns ≡ 1 + total children_of ns
  count = sym (length_levels ns) ∙ ap length a.children ∙ ap suc (length_below ns) ∙ omega arith

  pub has_parent : (c : ℕ) → 0 < c → c < length ns → (p : ℕ) × IsChild ns p c
  has_parent c some lt =
      let all = count in
      let r = parent ns (c - 1) (omega (arith, all, some, lt)) in
      let from = r.from in
      let to = r.to in
      let first = begin r.index r.node r.there (omega (arith, from, to)) in
      (r.index, record { node = r.node; there = r.there; from = omega (arith, first, from, some); to = omega (arith, first, to, some) })

  pub in_order : (p q c d : ℕ) → IsChild ns p c → IsChild ns q d → p < q → c < d
  in_order p q c d x y lt =
      let to = x.to in let xfrom = x.from in
      let from = y.from in let yto = y.to in
      let first = begin p x.node x.there (omega (arith, to, xfrom)) in
      let second = begin q y.node y.there (omega (arith, from, yto)) in
      let between = up_to ns p q x.node x.there lt in
      omega (arith, to, from, first, second, between)

  pub one_parent : (p q c : ℕ) → IsChild ns p c → IsChild ns q c → p ≡ q
  one_parent p q c x y = by_case (cases_lt p q) (cases_lt q p)
    where
      by_case : (p < q) ⊎ (q ≤ p) → (q < p) ⊎ (p ≤ q) → p ≡ q
      by_case (inl e) f = let lt = in_order p q c c x y e in absurd (omega (arith, lt))
      by_case (inr e) (inl f) = let lt = in_order q p c c y x f in absurd (omega (arith, lt))
      by_case (inr e) (inr f) = omega (arith, e, f)

  pub no_parent : (p : ℕ) → IsChild ns p 0 → ⊥
  no_parent p x =
      let from = x.from in let to = x.to in
      let first = begin p x.node x.there (omega (arith, from, to)) in
      omega (arith, from, first)

  pub together : (i k : ℕ) (n : Node) → slice_get ns i ≡ Some n → n.level ≡ k ↔ (above ns k ≤ i) × (i < above ns k + length (at_level ns k))
  together i k n there = (to, from)
    where
      to : n.level ≡ k → (above ns k ≤ i) × (i < above ns k + length (at_level ns k))
      to e =
          let next = next_above ns k in
          let lt = among_above ns (suc k) a.sorted i n there (omega (arith, e)) in
          (behind_above ns k a.sorted i n there (omega (arith, e)), omega (arith, next, lt))

      from : (above ns k ≤ i) × (i < above ns k + length (at_level ns k)) → n.level ≡ k
      from h = by_case (cases_lt n.level k) (cases_lt k n.level)
        where
          by_case : (n.level < k) ⊎ (k ≤ n.level) → (k < n.level) ⊎ (n.level ≤ k) → n.level ≡ k
          by_case (inl e) f = let lt = among_above ns k a.sorted i n there e in let le = h.0 in absurd (omega (arith, lt, le))
          by_case (inr e) (inl f) =
              let le = behind_above ns (suc k) a.sorted i n there f in
              let next = next_above ns k in
              let lt = h.1 in
              absurd (omega (arith, le, next, lt))
          by_case (inr e) (inr f) = omega (arith, e, f)
