-- Of version 2: a machine of which no rule is broken keeps the limits.
use Rattle.std.proofs.Common.{◌≡◌, ℕ, zero, suc, ◌+◌, ◌-◌, ◌<◌, ◌≤◌, Bool, true, false, ◌&&◌, ◌||◌, ◌==◌, nat_lt, nat_le, if◌then◌else◌, List, [], ◌∷◌, ◌++◌, length, Some, None, refl, sym, ◌∙◌, ap, subst, arith, inl, inr, true≢false, lit≤}
use Rattle.std.specs.List.{slice_get}
use Rattle.std.proofs.lemmas.Bool.Decides.{leb_tells, eqb_tells}
use Rattle.sq_text.specs.Names.{Bytes, same_name}
use Rattle.sq_text.specs.declared.word.Word.{Word}
use Rattle.sq_text.specs.Limits.{most_levels, most_nodes, most_children, most_capacity, most_bytes}
use Rattle.sq_machfile.specs.declared.level.Level.{Level}
use Rattle.sq_machfile.specs.declared.node.Node.{Node}
use Rattle.sq_machfile.specs.declared.text.NodeText.{NodeText}
use Rattle.sq_machfile.specs.declared.text.NodesText.{NodesText}
use Rattle.sq_machfile.specs.declared.text.MachineText.TheVariants.{Nodes}
use Rattle.sq_machfile.specs.declared.nested.Nested.{Nested}
use Rattle.sq_machfile.specs.Nesting.{siblings, nested_node, nested}
use Rattle.sq_machfile.specs.Nodes.{total, capacity_of, AreArranged, linked}
use Rattle.sq_machfile.proofs.Closings.{AreNested}
use Rattle.sq_machfile.specs.Faults.{is_bad_fan}
use Rattle.sq_machfile.specs.Walk.{NameSet, NodeCount, no_names, before_nodes, with_name, after_node, with_node, uncut}
use Rattle.sq_machfile.specs.Machines.{has_name, NodeFits, Sums, WithinLimits, HasLevels, node_of, nodes_of_depth, by_level, named_levels, uneven_nodes, uneven_machine}
use Rattle.sq_machfile.proofs.NameSets.{same_itself, same_only}
use Rattle.sq_machfile.proofs.Clear.{NamesKept, NodesKept}
use Rattle.sq_machfile.proofs.EvenLimits.{small_fan, small_capacity}
use Rattle.sq_machfile.proofs.Arranged.{Every, every_at, same_in, every_linked, length_linked, total_linked, Levelled, arranged}
use Rattle.sq_machfile.proofs.Depths.{Rooted, IsWithin, children_below, levelled, same_total, every_by_level}

-- ---- names of levels

pub words_few : (i : ℕ) (names : NameSet) (words : List Word) → NamesKept i names words → i ≤ most_levels → i + length words ≤ most_levels
words_few i names [] h le = omega arith
words_few i names (w ∷ ws) h le =
    let other : (i == most_levels) ≡ false = h.0.few in
    let less : i < most_levels = grind (arith, eqb_tells) in
    let more : suc i + length ws ≤ most_levels = words_few (suc i) (with_name w.name names) ws h.1 (omega arith) in omega arith

words_fresh : (i : ℕ) (names : NameSet) (words : List Word) → NamesKept i names words → (name : Bytes) → names name ≡ true
    → (k : ℕ) (w : Word) → slice_get words k ≡ Some w → w.name ≡ name → ⊥
words_fresh i names [] h name known zero w e same = absurd (cc)
words_fresh i names [] h name known (suc k) w e same = absurd (cc)
words_fresh i names (v ∷ vs) h name known zero w e same =
    true≢false (sym known ∙ ap names (sym (ap (λ (w : Word). w.name) (same_in v w e) ∙ same)) ∙ h.0.fresh)
words_fresh i names (v ∷ vs) h name known (suc k) w e same = words_fresh (suc i) (with_name v.name names) vs h.1 name (ap (λ b. b || same_name name v.name) known) k w e same

words_distinct : (i : ℕ) (names : NameSet) (words : List Word) → NamesKept i names words → (j k : ℕ) (a b : Word) → j < k → slice_get words j ≡ Some a → slice_get words k ≡ Some b → a.name ≡ b.name → ⊥
words_distinct i names words h j zero a b lt ea eb same = absurd (omega arith)
words_distinct i names [] h j (suc k) a b lt ea eb same = absurd (cc)
words_distinct i names (v ∷ vs) h zero (suc k) a b lt ea eb same =
    words_fresh (suc i) (with_name v.name names) vs h.1 v.name (same_itself names v.name) k b eb (sym same ∙ sym (ap (λ (w : Word). w.name) (same_in v a ea)))
words_distinct i names (v ∷ vs) h (suc j) (suc k) a b lt ea eb same = words_distinct (suc i) (with_name v.name names) vs h.1 j k a b (omega arith) ea eb same

pub length_named : (k : ℕ) (nodes : List Node) (words : List Word) → length (named_levels k nodes words) ≡ length words
length_named k nodes [] = refl
length_named k nodes (w ∷ ws) = ap suc (length_named (suc k) nodes ws)

named_get : (k : ℕ) (nodes : List Node) (words : List Word) (j : ℕ) (level : Level) → slice_get (named_levels k nodes words) j ≡ Some level
    → (w : Word) × (slice_get words j ≡ Some w) × (level.name ≡ w.name) × Sums nodes (k + j) level
named_get k nodes [] zero level e = absurd (cc)
named_get k nodes [] (suc j) level e = absurd (cc)
named_get k nodes (w ∷ ws) zero level e =
    let at : k + 0 ≡ k = omega arith in
    let own = same_in _ level e in
    (w, refl, sym (ap (λ (l : Level). l.name) own), subst (λ i. Sums nodes i level) (sym at) (record { capacity = sym (ap (λ (l : Level). l.capacity) own); children = sym (ap (λ (l : Level). l.children) own) }))
named_get k nodes (w ∷ ws) (suc j) level e =
    let at : suc k + j ≡ k + suc j = omega arith in
    let h = named_get (suc k) nodes ws j level e in (h.0, h.1, h.2, subst (λ i. Sums nodes i level) at h.3)

-- ---- nodes

within_all : (levels i : ℕ) (c : NodeCount) (ns : List Nested) → NodesKept levels i c ns → Every (IsWithin levels) ns
within_all levels i c [] h = tt
within_all levels i c (n ∷ ns) h =
    let deep : nat_le levels n.depth ≡ false = h.0.level in (grind (arith, leb_tells), within_all levels (suc i) (after_node uncut c n) ns h.1)

few_nodes : (levels i : ℕ) (c : NodeCount) (ns : List Nested) → NodesKept levels i c ns → i ≤ most_nodes → i + length ns ≤ most_nodes
few_nodes levels i c [] h le = omega arith
few_nodes levels i c (n ∷ ns) h le =
    let other : (i == most_nodes) ≡ false = h.0.few in
    let less : i < most_nodes = grind (arith, eqb_tells) in
    let more : suc i + length ns ≤ most_nodes = few_nodes levels (suc i) (after_node uncut c n) ns h.1 (omega arith) in omega arith

few_bytes : (levels i : ℕ) (c : NodeCount) (ns : List Nested) → NodesKept levels i c ns → c.bytes ≤ most_bytes → c.bytes + total (λ n. capacity_of (node_of n)) ns ≤ most_bytes
few_bytes levels i c [] h le = omega arith
few_bytes levels i c (n ∷ ns) h le =
    let fit = small_capacity n.capacity.value c.bytes (with_node uncut c n) h.0.capacity le in
    let more : (c.bytes + n.capacity.value) + total (λ n. capacity_of (node_of n)) ns ≤ most_bytes = few_bytes levels (suc i) (after_node uncut c n) ns h.1 fit.1 in omega (arith, more)

-- a name that is known is no node's from here on, and any other is that of one at most
abbrev pub known : NameSet → Bytes → ℕ
known names name = if names name then 1 else 0

either_one : (a b : Bool) (n : ℕ) → (a ≡ true → b ≡ true → ⊥) → (if a || b then 1 else 0) + n ≤ 1 → (if a then 1 else 0) + ((if b then 1 else 0) + n) ≤ 1
either_one true true n h le = absurd (h refl refl)
either_one true false n h le = omega (arith, le)
either_one false b n h le = omega (arith, le)

one_name : (levels i : ℕ) (c : NodeCount) (ns : List Nested) → NodesKept levels i c ns → (name : Bytes) → known c.names name + total (λ n. has_name name (node_of n)) ns ≤ 1
one_name levels i c [] h name = at_most (c.names name)
  where
    at_most : (b : Bool) → (if b then 1 else 0) + 0 ≤ 1
    at_most true = omega arith
    at_most false = omega arith
one_name levels i c (n ∷ ns) h name = either_one (c.names name) (same_name name n.name.name) (total (λ n. has_name name (node_of n)) ns)
    (λ a b. true≢false (sym a ∙ ap c.names (same_only name n.name.name b) ∙ h.0.fresh))
    (one_name levels (suc i) (after_node uncut c n) ns h.1 name)

-- ---- fans

no_siblings : (levels : ℕ) (xs : List NodeText) → Every (IsWithin levels) (nested xs) → siblings levels xs ≡ 0
no_siblings levels [] h = refl
no_siblings levels (n ∷ later) h =
    let less : nat_lt n.depth levels ≡ true = grind (arith, leb_tells, h.0) in ap (λ b. if b then 0 else (if n.depth == levels then 1 else 0) + siblings levels later) less

and_second : (a b : Bool) → a ≡ true → (a && b) ≡ false → b ≡ false
and_second true b t e = e
and_second false b t e = absurd (cc)

fan_of_kept : (levels : ℕ) (n : Nested) → (nat_lt n.depth (levels - 1) && is_bad_fan n.children) ≡ false → suc n.depth < levels → (1 ≤ n.children) × (n.children ≤ most_children)
fan_of_kept levels n e lt =
    let inner : nat_lt n.depth (levels - 1) ≡ true = grind (arith, leb_tells) in small_fan n.children (and_second (nat_lt n.depth (levels - 1)) (is_bad_fan n.children) inner e)

fits_here : (levels : ℕ) (n : Nested) → n.depth < levels → n.capacity.value ≤ most_capacity → (nat_lt n.depth (levels - 1) && is_bad_fan n.children) ≡ false → (suc n.depth ≡ levels → n.children ≡ 0)
    → NodeFits levels (node_of n)
fits_here levels n lt cap fan leaf = record {
  level = lt;
  capacity = cap;
  some = λ inner. (fan_of_kept levels n fan inner).0;
  few = elim (leb_tells levels (suc n.depth)) [
    | inl p ↦ (let none : n.children ≡ 0 = leaf (omega (arith, p.1)) in omega arith)
    | inr p ↦ (fan_of_kept levels n fan (omega (arith, p.1))).1
  ];
  leaf = leaf;
}

fits_all : (levels i : ℕ) (c : NodeCount) (xs : List NodeText) → NodesKept levels i c (nested xs) → c.bytes ≤ most_bytes → Every (IsWithin levels) (nested xs) → Every (λ n. NodeFits levels (node_of n)) (nested xs)
fits_all levels i c [] h le deep = tt
fits_all levels i c (x ∷ xs) h le deep =
    let n = nested_node x (siblings (suc x.depth) xs) in
    let fit = small_capacity x.capacity.value c.bytes (with_node uncut c n) h.0.capacity le in
    (fits_here levels n deep.0 fit.0 h.0.fan (λ e. ap (λ d. siblings d xs) e ∙ no_siblings levels xs deep.1), fits_all levels (suc i) (after_node uncut c n) xs h.1 fit.1 deep.1)

-- ---- all nodes have names

abbrev IsNamed : Node → Type 0
IsNamed n = n.name ≡ None → ⊥

named_all : (ns : List Nested) → Every (λ n. IsNamed (node_of n)) ns
named_all [] = tt
named_all (n ∷ ns) = ((λ e. cc), named_all ns)

-- ---- the whole

pub length_total : (ns : List Node) → length ns ≡ total (λ n. 1) ns
length_total [] = refl
length_total (n ∷ ns) = omega (arith, length_total ns)

pub length_nested : (ns : List Nested) → total (λ n. 1) ns ≡ length ns
length_nested [] = refl
length_nested (n ∷ ns) = omega (arith, length_nested ns)

no_depth : (levels k : ℕ) (ns : List Nested) → Every (IsWithin levels) ns → levels ≤ k → length (nodes_of_depth k ns) ≡ 0
no_depth levels k [] h le = refl
no_depth levels k (n ∷ ns) h le =
    let other : (n.depth == k) ≡ false = grind (arith, eqb_tells, h.0) in
    ap (λ b. length (if b then node_of n ∷ nodes_of_depth k ns else nodes_of_depth k ns)) other ∙ no_depth levels k ns h.1 le

none_at_root : (most : ℕ) (xs : List NodeText) → AreNested most xs → nodes_of_depth 0 (nested xs) ≡ []
none_at_root most [] h = refl
none_at_root most (n ∷ later) h =
    let other : (n.depth == 0) ≡ false = grind (arith, eqb_tells, h.0) in
    ap (λ b. if b then node_of (nested_node n (siblings (suc n.depth) later)) ∷ nodes_of_depth 0 (nested later) else nodes_of_depth 0 (nested later)) other ∙ none_at_root (suc n.depth) later h.2

only_root : (root : NodeText) (others : List NodeText) → root.depth ≡ 0 → AreNested 1 others
    → nodes_of_depth 0 (nested (root ∷ others)) ≡ node_of (nested_node root (siblings (suc root.depth) others)) ∷ []
only_root root others top h =
    let same : (root.depth == 0) ≡ true = grind (arith, eqb_tells, top) in
    let r = node_of (nested_node root (siblings (suc root.depth) others)) in
    ap (λ b. if b then r ∷ nodes_of_depth 0 (nested others) else nodes_of_depth 0 (nested others)) same ∙ ap (λ ns. r ∷ ns) (none_at_root 1 others h)

arranged_nodes : (levels : ℕ) (root : NodeText) (others : List NodeText) → root.depth ≡ 0 → AreNested 1 others → Every (IsWithin (suc levels)) (nested (root ∷ others))
    → AreArranged (linked 1 (by_level 0 (suc levels) (nested (root ∷ others))))
arranged_nodes levels root others top h deep =
    let ns = nested (root ∷ others) in
    let r = node_of (nested_node root (siblings (suc root.depth) others)) in
    let first : nodes_of_depth 0 ns ≡ r ∷ [] = only_root root others top h in
    let l : Levelled 0 (nodes_of_depth 0 ns) (by_level 1 levels ns) = levelled ns (λ k. children_below k root others top h) 0 levels (no_depth (suc levels) (suc 0 + levels) ns deep (omega arith)) in
    subst (λ b. AreArranged (linked 1 (b ++ by_level 1 levels ns))) (sym first) (arranged r (by_level 1 levels ns) (subst (λ b. Levelled 0 b (by_level 1 levels ns)) first l))

arranged_text : (levels : ℕ) (nodes : List NodeText) → 1 ≤ levels → Rooted nodes → Every (IsWithin levels) (nested nodes) → AreArranged (linked 1 (by_level 0 levels (nested nodes)))
arranged_text zero nodes some r deep = absurd (omega arith)
arranged_text (suc levels) nodes some r deep = subst (λ nodes. AreArranged (linked 1 (by_level 0 (suc levels) (nested nodes)))) (sym r.is)
    (arranged_nodes levels r.root r.others r.top r.inside (subst (λ nodes. Every (IsWithin (suc levels)) (nested nodes)) r.is deep))

pub within_uneven : (text : NodesText) → 1 ≤ length text.names → Rooted text.nodes → NamesKept 0 no_names text.names → NodesKept (length text.names) 0 before_nodes (nested text.nodes)
    → WithinLimits (uneven_machine text)
within_uneven text some r names kept =
    let levels = length text.names in
    let ns = nested text.nodes in
    let drafts = by_level 0 levels ns in
    let nodes = uneven_nodes text in
    let deep = within_all levels 0 before_nodes ns kept in
    let counted = length_named 0 nodes text.names in
    let fit = every_linked (NodeFits levels) (λ n first h. record { level = h.level; capacity = h.capacity; some = h.some; few = h.few; leaf = h.leaf }) 1 drafts
    (every_by_level (NodeFits levels) 0 levels ns (fits_all levels 0 before_nodes text.nodes kept (lit≤ tt) deep)) in
    let named = every_linked IsNamed (λ n first h. h) 1 drafts (every_by_level IsNamed 0 levels ns (named_all ns)) in
    let all_bytes : 0 + total (λ n. capacity_of (node_of n)) ns ≤ most_bytes = few_bytes levels 0 before_nodes ns kept (lit≤ tt) in
    let all_nodes : 0 + length ns ≤ most_nodes = few_nodes levels 0 before_nodes ns kept (lit≤ tt) in
    record {
      some = omega (arith, counted, some);
      few = (let f : 0 + length text.names ≤ most_levels = words_few 0 no_names text.names names (lit≤ tt) in omega (arith, counted));
      names = λ i j a b lt ea eb same. (let x = named_get 0 nodes text.names i a ea in let y = named_get 0 nodes text.names j b eb in
          words_distinct 0 no_names text.names names i j x.0 y.0 lt x.1 y.1 (sym x.2 ∙ same ∙ y.2));
      sums = λ k level e. (let at : 0 + k ≡ k = omega arith in subst (λ i. Sums nodes i level) at (named_get 0 nodes text.names k level e).3);
      arranged = arranged_text levels text.nodes some r deep;
      nodes = omega (arith, length_linked 1 drafts, length_total drafts, same_total (λ n. 1) levels ns deep, length_nested ns, all_nodes);
      fits = λ i n e. subst (λ l. NodeFits l n) (sym counted) (every_at (NodeFits levels) nodes fit i n e);
      bytes = omega (arith, total_linked capacity_of (λ n first. refl) 1 drafts, same_total capacity_of levels ns deep, all_bytes);
      node_names = λ name. (let one = one_name levels 0 before_nodes ns kept name in omega (arith, total_linked (has_name name) (λ n first. refl) 1 drafts, same_total (has_name name) levels ns deep, one));
      alike = λ i j a b ea eb e. absurd (every_at IsNamed nodes named i a ea e);
      even = λ i n level en e el. absurd (every_at IsNamed nodes named i n en e);
    }

pub has_levels : (text : NodesText) → NodesKept (length text.names) 0 before_nodes (nested text.nodes) → HasLevels (Nodes text)
has_levels text kept = every_at (IsWithin (length text.names)) (nested text.nodes) (within_all (length text.names) 0 before_nodes (nested text.nodes) kept)
