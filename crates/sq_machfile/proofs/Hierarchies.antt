-- Levels of a machine and their nodes.
use Rattle.std.proofs.Common.{◌≡◌, ◌⊎◌, inl, inr, ℕ, zero, suc, ◌+◌, ◌<◌, ◌≤◌, min, max, Bool, true, false, ◌==◌, if◌then◌else◌, List, [], ◌∷◌, length, map, get_or, Some, None, refl, ◌∙◌, ap, arith}
use Rattle.std.specs.List.{slice_get, fold}
use Rattle.std.specs.Option.{option_map}
use Rattle.std.proofs.lemmas.Bool.{eq-eqb}
use Rattle.std.proofs.lemmas.Option.{slice_get-map, slice_get_cases, slice_get_within}
use Rattle.sq_machfile.specs.declared.level.Level.{Level}
use Rattle.sq_machfile.specs.declared.node.Node.{Node}
use Rattle.sq_machfile.specs.Nodes.{at_level, capacity_of, children_of, AreArranged}
use Rattle.sq_machfile.specs.Machines.{Hierarchy, WithinLimits, nodes_at, least}
use Rattle.sq_machfile.proofs.Arranged.{same_in, level_of}
use Rattle.sq_machfile.proofs.Families as families
use Rattle.sq_machfile.proofs.Families.{made_of, one_if, at_tells}

-- ---- the least and the greatest

fold_least : (a : ℕ) (ns : List ℕ) → fold min a ns ≤ a
fold_least a [] = omega arith
fold_least a (n ∷ ns) = let more = fold_least (min a n) ns in omega (arith, more)

each_least : (a : ℕ) (ns : List ℕ) (i x : ℕ) → slice_get ns i ≡ Some x → fold min a ns ≤ x
each_least a [] zero x e = absurd (cc)
each_least a [] (suc i) x e = absurd (cc)
each_least a (n ∷ ns) zero x e = let more = fold_least (min a n) ns in let same : n ≡ x = same_in n x e in omega (arith, more, same)
each_least a (n ∷ ns) (suc i) x e = each_least (min a n) ns i x e

least_of : (ns : List ℕ) (i x : ℕ) → slice_get ns i ≡ Some x → least ns ≤ x
least_of [] i x e = omega arith
least_of (n ∷ ns) zero x e = let same : n ≡ x = same_in n x e in let more = fold_least n ns in omega (arith, more, same)
least_of (n ∷ ns) (suc i) x e = each_least n ns i x e

pub fold_greatest : (a : ℕ) (ns : List ℕ) → a ≤ fold max a ns
fold_greatest a [] = omega arith
fold_greatest a (n ∷ ns) = let more = fold_greatest (max a n) ns in omega (arith, more)

pub greatest_of : (a : ℕ) (ns : List ℕ) (i x : ℕ) → slice_get ns i ≡ Some x → x ≤ fold max a ns
greatest_of a [] zero x e = absurd (cc)
greatest_of a [] (suc i) x e = absurd (cc)
greatest_of a (n ∷ ns) zero x e = let more = fold_greatest (max a n) ns in let same : n ≡ x = same_in n x e in omega (arith, more, same)
greatest_of a (n ∷ ns) (suc i) x e = greatest_of (max a n) ns i x e

-- a node of a level stands among them
among_level : (ns : List Node) (i : ℕ) (n : Node) → slice_get ns i ≡ Some n → (j : ℕ) × (slice_get (at_level ns n.level) j ≡ Some n)
among_level [] zero n e = absurd (cc)
among_level [] (suc i) n e = absurd (cc)
among_level (m ∷ ns) zero n e =
    let same : m ≡ n = same_in m n e in
    (0, ap (λ (b : Bool). slice_get (if b then m ∷ at_level ns n.level else at_level ns n.level) 0) (eq-eqb m.level n.level (ap level_of same)) ∙ e)
among_level (m ∷ ns) (suc i) n e = by_case (m.level == n.level) (among_level ns i n e)
  where
    by_case : (b : Bool) → (j : ℕ) × (slice_get (at_level ns n.level) j ≡ Some n) → (j : ℕ) × (slice_get (if b then m ∷ at_level ns n.level else at_level ns n.level) j ≡ Some n)
    by_case true r = (suc r.0, r.1)
    by_case false r = r

-- none of a level
none_at : (ns : List Node) (k : ℕ) → ((i : ℕ) (n : Node) → slice_get ns i ≡ Some n → n.level ≡ k → ⊥) → length (at_level ns k) ≡ 0
none_at [] k h = refl
none_at (n ∷ ns) k h =
    let more = none_at ns k (λ i x there. h (suc i) x there) in
    let count = one_if (n.level == k) n (at_level ns k) in
    let tells = at_tells k n in
    let no = h 0 n refl in
    omega (arith, more, count, tells, no)

one_root : (ns : List Node) → AreArranged ns → length (at_level ns 0) ≡ 1
one_root [] a = absurd (let all = families.count [] a in omega (arith, all))
one_root (r ∷ rest) a =
    let below : (i : ℕ) (n : Node) → slice_get rest i ≡ Some n → n.level ≡ 0 → ⊥ = λ i n there at.
    let parent = families.has_parent (r ∷ rest) a (suc i) (omega arith) (slice_get_within (r ∷ rest) (suc i) n there) in
    let level = families.child_level_of (r ∷ rest) a parent.0 (suc i) n parent.1 there in
    omega (arith, at, level) in
    let none = none_at rest 0 below in
    let count = one_if (r.level == 0) r (at_level rest 0) in
    let tells = at_tells 0 r in
    let top : r.level ≡ 0 = same_in r.level 0 (ap (λ ls. slice_get ls 0) a.children) in
    omega (arith, none, count, tells, top)

-- ---- machines

module _ (m : Hierarchy) (w : WithinLimits m) where
  -- the first node is the root
  pub root : (n : Node) × (slice_get m.nodes 0 ≡ Some n) × (n.level ≡ 0)
  root = let r = made_of level_of m.nodes 0 0 (ap (λ ls. slice_get ls 0) w.arranged.children) in (r.one, r.there, r.is)

  pub roots : nodes_at m 0 ≡ 1
  roots = one_root m.nodes w.arranged

  -- each level has a node, since those above have children
  node_at : (k : ℕ) → k < length m.levels → (i : ℕ) × (n : Node) × (slice_get m.nodes i ≡ Some n) × (n.level ≡ k)
  node_at zero lt = let r = root in (0, r.0, r.1, r.2)
  node_at (suc k) lt =
      let r = node_at k (omega (arith, lt)) in
      let at = r.3 in
      let some = (w.fits r.0 r.1 r.2).some (omega (arith, at, lt)) in
      let c = families.child m.nodes w.arranged r.0 0 r.1 r.2 some in
      (r.1.first_child + 0, c.0, c.1, c.2 ∙ ap suc at)

  pub some : (k : ℕ) → k < length m.levels → 1 ≤ nodes_at m k
  some k lt =
      let r = node_at k lt in
      let at = (families.together m.nodes w.arranged r.0 k r.1 r.2).0 r.3 in
      let from = at.0 in let to = at.1 in
      omega (arith, from, to)

  pub within : (i : ℕ) (n : Node) → slice_get m.nodes i ≡ Some n → (level : Level) × (slice_get m.levels n.level ≡ Some level) × (level.capacity ≤ n.capacity) × (n.children ≤ level.children)
  within i n there = found (slice_get_cases m.levels n.level).1
    where
      found : ((x : Level) × (n.level < length m.levels) × (slice_get m.levels n.level ≡ Some x) × (get_or m.levels n.level x ≡ x)) ⊎ ((length m.levels ≤ n.level) × (slice_get m.levels n.level ≡ None))
          → (level : Level) × (slice_get m.levels n.level ≡ Some level) × (level.capacity ≤ n.capacity) × (n.children ≤ level.children)
      found (inl (x, lt, at, same)) =
          let sums = w.sums n.level x at in
          let r = among_level m.nodes i n there in
          let low = least_of (map capacity_of (at_level m.nodes n.level)) r.0 n.capacity (slice_get-map capacity_of (at_level m.nodes n.level) r.0 ∙ ap (option_map capacity_of) r.1) in
          let high = greatest_of 0 (map children_of (at_level m.nodes n.level)) r.0 n.children (slice_get-map children_of (at_level m.nodes n.level) r.0 ∙ ap (option_map children_of) r.1) in
          let capacity = sums.capacity in
          let children = sums.children in
          (x, at, omega (arith, low, capacity), omega (arith, high, children))
      found (inr (le, none)) = let fits = (w.fits i n there).level in absurd (omega (arith, le, fits))
