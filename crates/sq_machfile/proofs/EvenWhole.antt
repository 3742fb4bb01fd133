-- Of version 1: the machine of levels that keep the limits keeps them.
use Rattle.std.proofs.Common.{◌≡◌, ℕ, zero, suc, ◌+◌, ◌*◌, ◌<◌, ◌≤◌, min, max, Bool, true, false, ◌==◌, if◌then◌else◌, List, [], ◌∷◌, ◌++◌, length, map, replicate, Some, None, refl, sym, ◌∙◌, ap, arith, append-nil, length-append}
use Rattle.std.proofs.lemmas.List.{length-replicate}
use Rattle.std.specs.List.{slice_get, fold}
use Rattle.std.specs.Option.{option_map_or}
use Rattle.std.proofs.Math.Nat.{mul-suc}
use Rattle.std.proofs.lemmas.Bool.Decides.{eqb_tells}
use Rattle.sq_text.specs.Names.{Bytes, same_name}
use Rattle.sq_text.specs.Limits.{most_children}
use Rattle.sq_machfile.specs.declared.level.Level.{Level}
use Rattle.sq_machfile.specs.declared.node.Node.{Node}
use Rattle.sq_machfile.specs.declared.text.LevelsText.{LevelsText}
use Rattle.sq_machfile.specs.Nodes.{at_level, total, children_of, capacity_of, linked}
use Rattle.sq_machfile.specs.Machines.{has_name, least, greatest, NodeFits, Sums, WithinLimits, even_node, even_nodes, levels_of, even_machine}
use Rattle.sq_machfile.proofs.Walks.{total-append, total-replicate}
use Rattle.sq_machfile.proofs.EvenLimits.{EvenLimits, nodes_from, bytes_from}
use Rattle.sq_machfile.proofs.Arranged.{Every, every-append, every-replicate, every_at, same_in, every_linked, length_linked, total_linked, level_linked, IsAt, Levelled, last, more, arranged}

-- ---- how many nodes and bytes

pub length_even : (k width : ℕ) (levels : List Level) → length (even_nodes k width levels) ≡ nodes_from width levels
length_even k width [] = refl
length_even k width (l ∷ ls) =
    let own : length (replicate width (even_node k l)) ≡ width = length-replicate width (even_node k l) in
    omega (arith, length-append (replicate width (even_node k l)) (even_nodes (suc k) (width * l.children) ls), own, length_even (suc k) (width * l.children) ls)

pub bytes_even : (k width : ℕ) (levels : List Level) → total capacity_of (even_nodes k width levels) ≡ bytes_from width levels
bytes_even k width [] = refl
bytes_even k width (l ∷ ls) =
    let own : total capacity_of (replicate width (even_node k l)) ≡ width * l.capacity = total-replicate capacity_of width (even_node k l) in
    omega (arith, total-append capacity_of (replicate width (even_node k l)) (even_nodes (suc k) (width * l.children) ls), own, bytes_even (suc k) (width * l.children) ls)

-- ---- the rest of the levels

record Suffix (whole : List Level) (k : ℕ) (levels : List Level) : Type 0 where
  pub sum : k + length levels ≡ length whole
  pub get : (j : ℕ) → slice_get levels j ≡ slice_get whole (k + j)

below : (whole : List Level) (k : ℕ) (l : Level) (levels : List Level) → Suffix whole k (l ∷ levels) → Suffix whole (suc k) levels
below whole k l levels h = record { sum = omega (arith, h.sum); get = λ j. let e : k + suc j ≡ suc k + j = omega arith in h.get (suc j) ∙ ap (slice_get whole) e }

here : (whole : List Level) (k : ℕ) (l : Level) (levels : List Level) → Suffix whole k (l ∷ levels) → slice_get whole k ≡ Some l
here whole k l levels h = let e : k + 0 ≡ k = omega arith in sym (h.get 0 ∙ ap (slice_get whole) e)

all_of : (whole : List Level) → Suffix whole 0 whole
all_of whole = record { sum = omega arith; get = λ j. let e : j ≡ 0 + j = omega arith in ap (slice_get whole) e }

pub some_wide : (width n : ℕ) → 1 ≤ width → 1 ≤ n → 1 ≤ width * n
some_wide (suc w) (suc n) a b = let e : suc w * suc n ≡ suc w * n + suc w = mul-suc (suc w) n in omega (arith, e)
some_wide zero n a b = absurd (omega arith)
some_wide (suc w) zero a b = absurd (omega arith)

module _ (whole : List Level) (limits : EvenLimits whole) where
  few_children : (k : ℕ) (l : Level) (levels : List Level) → Suffix whole k (l ∷ levels) → l.children ≤ most_children
  few_children k l [] h = let n : l.children ≡ 0 = limits.leaves k l (omega (arith, h.sum)) (here whole k l [] h) in omega arith
  few_children k l (m ∷ levels) h = (limits.children k l (omega (arith, h.sum)) (here whole k l (m ∷ levels) h)).1

  fits_here : (k : ℕ) (l : Level) (levels : List Level) → Suffix whole k (l ∷ levels) → NodeFits (length whole) (even_node k l)
  fits_here k l levels h = let e = here whole k l levels h in record {
    level = omega (arith, h.sum);
    capacity = limits.capacity k l e;
    some = λ lt. (limits.children k l lt e).0;
    few = few_children k l levels h;
    leaf = λ eq. limits.leaves k l eq e;
  }

  fits : (k width : ℕ) (levels : List Level) → Suffix whole k levels → Every (NodeFits (length whole)) (even_nodes k width levels)
  fits k width [] h = tt
  fits k width (l ∷ ls) h = every-append (NodeFits (length whole)) (replicate width (even_node k l)) (even_nodes (suc k) (width * l.children) ls)
      (every-replicate (NodeFits (length whole)) width (even_node k l) (fits_here k l ls h)) (fits (suc k) (width * l.children) ls (below whole k l ls h))

  -- a node is as its level
  abbrev IsEven : Node → Type 0
  IsEven n = (n.name ≡ None) × ((level : Level) → slice_get whole n.level ≡ Some level → (n.capacity ≡ level.capacity) × (n.children ≡ level.children))

  even_here : (k : ℕ) (l : Level) (levels : List Level) → Suffix whole k (l ∷ levels) → IsEven (even_node k l)
  even_here k l levels h = (refl, λ level e. let same : l ≡ level = same_in l level (sym (here whole k l levels h) ∙ e) in (ap (λ l. l.capacity) same, ap (λ l. l.children) same))

  evens : (k width : ℕ) (levels : List Level) → Suffix whole k levels → Every IsEven (even_nodes k width levels)
  evens k width [] h = tt
  evens k width (l ∷ ls) h = every-append IsEven (replicate width (even_node k l)) (even_nodes (suc k) (width * l.children) ls)
      (every-replicate IsEven width (even_node k l) (even_here k l ls h)) (evens (suc k) (width * l.children) ls (below whole k l ls h))

  levelled : (k width : ℕ) (l : Level) (levels : List Level) → Suffix whole k (l ∷ levels) → Levelled k (replicate width (even_node k l)) (even_nodes (suc k) (width * l.children) levels)
  levelled k width l [] h =
      let leaf : l.children ≡ 0 = limits.leaves k l (omega (arith, h.sum)) (here whole k l [] h) in
      let none : width * 0 ≡ 0 = omega arith in
      last (every-replicate (IsAt k) width (even_node k l) refl) (total-replicate children_of width (even_node k l) ∙ ap (λ n. width * n) leaf ∙ none)
  levelled k width l (m ∷ ls) h = more (every-replicate (IsAt k) width (even_node k l) refl)
      (total-replicate children_of width (even_node k l) ∙ sym (length-replicate (width * l.children) (even_node (suc k) m)))
      (levelled (suc k) (width * l.children) m ls (below whole k l (m ∷ ls) h))

  -- ---- the nodes of one level

  at-append : (xs ys : List Node) (k : ℕ) → at_level (xs ++ ys) k ≡ at_level xs k ++ at_level ys k
  at-append [] ys k = refl
  at-append (x ∷ xs) ys k = by_case (x.level == k) (at-append xs ys k)
    where
      by_case : (b : Bool) → at_level (xs ++ ys) k ≡ at_level xs k ++ at_level ys k
          → (if b then x ∷ at_level (xs ++ ys) k else at_level (xs ++ ys) k) ≡ (if b then x ∷ at_level xs k else at_level xs k) ++ at_level ys k
      by_case true e = ap (λ zs. x ∷ zs) e
      by_case false e = e

  at_same : (width k : ℕ) (l : Level) → at_level (replicate width (even_node k l)) k ≡ replicate width (even_node k l)
  at_same zero k l = refl
  at_same (suc width) k l = let same : (k == k) ≡ true = grind (arith, eqb_tells) in
      ap (λ b. if b then even_node k l ∷ at_level (replicate width (even_node k l)) k else at_level (replicate width (even_node k l)) k) same ∙ ap (λ xs. even_node k l ∷ xs) (at_same width k l)

  at_other : (width m k : ℕ) (l : Level) → (m == k) ≡ false → at_level (replicate width (even_node m l)) k ≡ []
  at_other zero m k l e = refl
  at_other (suc width) m k l e =
      ap (λ b. if b then even_node m l ∷ at_level (replicate width (even_node m l)) k else at_level (replicate width (even_node m l)) k) e ∙ at_other width m k l e

  at_below : (m width k : ℕ) (levels : List Level) → k < m → at_level (even_nodes m width levels) k ≡ []
  at_below m width k [] lt = refl
  at_below m width k (l ∷ ls) lt = let other : (m == k) ≡ false = grind (arith, eqb_tells) in
      at-append (replicate width (even_node m l)) (even_nodes (suc m) (width * l.children) ls) k
      ∙ ap (λ xs. xs ++ at_level (even_nodes (suc m) (width * l.children) ls) k) (at_other width m k l other) ∙ at_below (suc m) (width * l.children) k ls (omega arith)

  at_even : (k width : ℕ) (levels : List Level) → Suffix whole k levels → 1 ≤ width → (j : ℕ) (level : Level) → slice_get levels j ≡ Some level
      → (more : ℕ) × (at_level (even_nodes k width levels) (k + j) ≡ replicate (suc more) (even_node (k + j) level))
  at_even k width [] h some zero level e = absurd (cc)
  at_even k width [] h some (suc j) level e = absurd (cc)
  at_even k zero (l ∷ ls) h some j level e = absurd (omega arith)
  at_even k (suc w) (l ∷ ls) h some zero level e =
      let same : l ≡ level = same_in l level e in
      let at : k + 0 ≡ k = omega arith in (
        w,
        ap (at_level (even_nodes k (suc w) (l ∷ ls))) at
            ∙ at-append (replicate (suc w) (even_node k l)) (even_nodes (suc k) (suc w * l.children) ls) k
            ∙ ap (λ xs. at_level (replicate (suc w) (even_node k l)) k ++ xs) (at_below (suc k) (suc w * l.children) k ls (omega arith))
            ∙ append-nil (at_level (replicate (suc w) (even_node k l)) k) ∙ at_same (suc w) k l
            ∙ ap (λ l. replicate (suc w) (even_node k l)) same ∙ ap (λ k. replicate (suc w) (even_node k level)) (sym at),
      )
  at_even k (suc w) (l ∷ []) h some (suc j) level e = absurd (none_there j level e)
    where
      none_there : (j : ℕ) (level : Level) → slice_get {X = Level} [] j ≡ Some level → ⊥
      none_there zero level e = cc
      none_there (suc j) level e = cc
  at_even k (suc w) (l ∷ m ∷ ls) h some (suc j) level e =
      let fan = limits.children k l (omega (arith, h.sum)) (here whole k l (m ∷ ls) h) in
      let deeper = at_even (suc k) (suc w * l.children) (m ∷ ls) (below whole k l (m ∷ ls) h) (some_wide (suc w) l.children (omega arith) fan.0) j level e in
      let at : suc k + j ≡ k + suc j = omega arith in
      let other : (k == k + suc j) ≡ false = grind (arith, eqb_tells) in (
        deeper.0,
        at-append (replicate (suc w) (even_node k l)) (even_nodes (suc k) (suc w * l.children) (m ∷ ls)) (k + suc j)
            ∙ ap (λ xs. xs ++ at_level (even_nodes (suc k) (suc w * l.children) (m ∷ ls)) (k + suc j)) (at_other (suc w) k (k + suc j) l other)
            ∙ ap (at_level (even_nodes (suc k) (suc w * l.children) (m ∷ ls))) (sym at) ∙ deeper.1
            ∙ ap (λ k. replicate (suc deeper.0) (even_node k level)) at,
      )

least_same : (n c : ℕ) (x : Node) → x.capacity ≡ c → fold min c (map capacity_of (replicate n x)) ≡ c
least_same zero c x e = refl
least_same (suc n) c x e = let m : min c x.capacity ≡ c = omega (arith, e) in ap (λ a. fold min a (map capacity_of (replicate n x))) m ∙ least_same n c x e

greatest_same : (n c : ℕ) (x : Node) → x.children ≡ c → fold max c (map children_of (replicate n x)) ≡ c
greatest_same zero c x e = refl
greatest_same (suc n) c x e = let m : max c x.children ≡ c = omega (arith, e) in ap (λ a. fold max a (map children_of (replicate n x))) m ∙ greatest_same n c x e

sums_even : (whole : List Level) → EvenLimits whole → (k : ℕ) (level : Level) → slice_get whole k ≡ Some level → Sums (linked 1 (even_nodes 0 1 whole)) k level
sums_even whole limits k level e =
    let h = at_even whole limits 0 1 whole (all_of whole) (omega arith) k level e in
    let at : 0 + k ≡ k = omega arith in
    let nodes : at_level (even_nodes 0 1 whole) k ≡ replicate (suc h.0) (even_node k level) = ap (at_level (even_nodes 0 1 whole)) (sym at) ∙ h.1 ∙ ap (λ k. replicate (suc h.0) (even_node k level)) at in
    let zero_max : max 0 level.children ≡ level.children = omega arith in
    record {
      capacity = sym (ap least (level_linked capacity_of (λ n first. refl) 1 (even_nodes 0 1 whole) k) ∙ ap (λ ns. least (map capacity_of ns)) nodes ∙ least_same h.0 level.capacity (even_node k level) refl);
      children = sym (ap greatest (level_linked children_of (λ n first. refl) 1 (even_nodes 0 1 whole) k) ∙ ap (λ ns. greatest (map children_of ns)) nodes
          ∙ ap (λ a. fold max a (map children_of (replicate h.0 (even_node k level)))) zero_max ∙ greatest_same h.0 level.children (even_node k level) refl);
    }

-- ---- names

abbrev Unnamed : Node → Type 0
Unnamed n = n.name ≡ None

none_named : (name : Bytes) (ns : List Node) → Every Unnamed ns → total (has_name name) ns ≡ 0
none_named name [] h = refl
none_named name (n ∷ ns) h =
    let own : has_name name n ≡ 0 = ap (λ o. option_map_or (λ own. if same_name name own then 1 else 0) o 0) h.0 in omega (arith, own, none_named name ns h.1)

unnamed : (whole : List Level) (ns : List Node) → Every (λ n. (n.name ≡ None) × ((level : Level) → slice_get whole n.level ≡ Some level → (n.capacity ≡ level.capacity) × (n.children ≡ level.children))) ns → Every Unnamed ns
unnamed whole [] h = tt
unnamed whole (n ∷ ns) h = (h.0.0, unnamed whole ns h.1)

even_within : (l : Level) (rest : List Level) → EvenLimits (l ∷ rest) → WithinLimits (record { levels = l ∷ rest; nodes = linked 1 (even_nodes 0 1 (l ∷ rest)) })
even_within l rest limits =
    let whole = l ∷ rest in
    let ns = even_nodes 0 1 whole in
    let even = every_linked (λ n. (n.name ≡ None) × ((level : Level) → slice_get whole n.level ≡ Some level → (n.capacity ≡ level.capacity) × (n.children ≡ level.children))) (λ n first h. h) 1 ns
    (evens whole limits 0 1 whole (all_of whole)) in
    let fit = every_linked (NodeFits (length whole)) (λ n first h. record { level = h.level; capacity = h.capacity; some = h.some; few = h.few; leaf = h.leaf }) 1 ns (fits whole limits 0 1 whole (all_of whole)) in
    let bare = unnamed whole (linked 1 ns) even in
    record {
      some = limits.some;
      few = limits.few;
      names = limits.names;
      sums = sums_even whole limits;
      arranged = arranged (even_node 0 l) (even_nodes 1 (1 * l.children) rest) (levelled whole limits 0 1 l rest (all_of whole));
      nodes = omega (arith, length_linked 1 ns, length_even 0 1 whole, limits.nodes);
      fits = every_at (NodeFits (length whole)) (linked 1 ns) fit;
      bytes = omega (arith, total_linked capacity_of (λ n first. refl) 1 ns, bytes_even 0 1 whole, limits.bytes);
      node_names = λ name. omega (arith, none_named name (linked 1 ns) bare);
      alike = λ i j a b ea eb e. every_at Unnamed (linked 1 ns) bare j b eb;
      even = λ i n level en e el. (every_at (λ n. (n.name ≡ None) × ((level : Level) → slice_get whole n.level ≡ Some level → (n.capacity ≡ level.capacity) × (n.children ≡ level.children))) (linked 1 ns) even i n en).1 level el;
    }

with_levels : (levels : List Level) → EvenLimits levels → WithinLimits (record { levels = levels; nodes = linked 1 (even_nodes 0 1 levels) })
with_levels [] limits = let some : 1 ≤ 0 = limits.some in absurd (omega arith)
with_levels (l ∷ rest) limits = even_within l rest limits

pub within_even : (text : LevelsText) → EvenLimits (levels_of text) → WithinLimits (even_machine text)
within_even text limits = with_levels (levels_of text) limits
