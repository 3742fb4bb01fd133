-- A machine that keeps the limits has no fault of them.
use Rattle.std.proofs.Common.{◌≡◌, ℕ, zero, suc, ◌+◌, ◌-◌, ◌*◌, ◌<◌, ◌≤◌, Bool, true, false, ◌&&◌, ◌||◌, nat_lt, if◌then◌else◌, List, [], ◌∷◌, ◌++◌, length, replicate, Some, refl, sym, ◌∙◌, ap, subst, arith, inl, inr}
use Rattle.std.specs.List.{slice_get}
use Rattle.std.proofs.lemmas.Slice.Eq.{bytes_eq-Decides}
use Rattle.std.proofs.lemmas.Bool.Decides.{leb_tells, eqb_tells}
use Rattle.sq_text.specs.Names.{Bytes, same_name}
use Rattle.sq_text.specs.declared.fault.Fault.{Fault}
use Rattle.sq_text.specs.declared.word.Word.{Word}
use Rattle.sq_text.specs.Limits.{most_levels, most_nodes, most_bytes}
use Rattle.sq_machfile.specs.declared.level.Level.{Level}
use Rattle.sq_machfile.specs.declared.node.Node.{Node}
use Rattle.sq_machfile.specs.declared.nested.Nested.{Nested}
use Rattle.sq_machfile.specs.declared.text.NodesText.{NodesText}
use Rattle.sq_machfile.specs.declared.text.MachineText.{MachineText}
use Rattle.sq_machfile.specs.declared.text.MachineText.TheVariants.{Levels, Nodes}
use Rattle.sq_machfile.specs.Nesting.{nested}
use Rattle.sq_machfile.specs.Nodes.{total, capacity_of, linked}
use Rattle.sq_machfile.specs.Faults.{is_bad_fan, LimitFault}
use Rattle.sq_machfile.proofs.Before.{clear_all}
use Rattle.sq_machfile.specs.Walk.{NameSet, NodeCount, no_names, before_nodes, with_name, after_node, with_node, uncut, all_node_rules}
use Rattle.sq_machfile.specs.Machines.{HasLevels, WithinLimits, NodeFits, machine_of, has_name, levels_of, even_node, even_nodes, node_of, nodes_of_depth, by_level, named_levels, uneven_nodes}
use Rattle.sq_machfile.proofs.NameSets.{not_same}
use Rattle.sq_machfile.proofs.Clear.{NamesKept, NodesKept, kept_levels, kept_names, kept_nodes}
use Rattle.sq_machfile.proofs.EvenLimits.{EvenLimits, some_levels, even_kept, fan_clear, capacity_clear, not_ninth}
use Rattle.sq_machfile.proofs.EvenWhole.{some_wide, length_even, bytes_even}
use Rattle.sq_machfile.proofs.Arranged.{Every, same_in, length_linked, total_linked}
use Rattle.sq_machfile.proofs.Depths.{IsWithin, same_total}
use Rattle.sq_machfile.proofs.UnevenWhole.{length_named, length_total, length_nested, known}

-- ---- of each, by its place

from_places : {X : Type 0} (P : X → Type 0) (xs : List X) → ((i : ℕ) (x : X) → slice_get xs i ≡ Some x → P x) → Every P xs
from_places P [] h = tt
from_places P (x ∷ xs) h = (h zero x refl, from_places P xs (λ i y e. h (suc i) y e))

unlinked : (P : Node → Type 0) → ((n : Node) (first : ℕ) → P (record n { first_child = first }) → P n) → (next : ℕ) (ns : List Node) → Every P (linked next ns) → Every P ns
unlinked P keeps next [] h = tt
unlinked P keeps next (n ∷ ns) h = (keeps n _ h.0, unlinked P keeps (next + n.children) ns h.1)

first_part : {X : Type 0} (P : X → Type 0) (xs ys : List X) → Every P (xs ++ ys) → Every P xs
first_part P [] ys h = tt
first_part P (x ∷ xs) ys h = (h.0, first_part P xs ys h.1)

second_part : {X : Type 0} (P : X → Type 0) (xs ys : List X) → Every P (xs ++ ys) → Every P ys
second_part P [] ys h = h
second_part P (x ∷ xs) ys h = second_part P xs ys h.1

-- ---- version 1

-- the nodes of levels tell of the levels, since each level has nodes
level_fits : (most k width : ℕ) (l : Level) (levels : List Level) → k + length (l ∷ levels) ≡ most → 1 ≤ width → Every (NodeFits most) (even_nodes k width (l ∷ levels))
    → (j : ℕ) (level : Level) → slice_get (l ∷ levels) j ≡ Some level → NodeFits most (even_node (k + j) level)
level_fits most k zero l levels sum some h j level e = absurd (omega arith)
level_fits most k (suc w) l levels sum some h zero level e =
    let at : k ≡ k + 0 = omega arith in
    subst (λ i. NodeFits most (even_node i level)) at (subst (λ l. NodeFits most (even_node k l)) (same_in l level e) h.0)
level_fits most k (suc w) l [] sum some h (suc zero) level e = absurd (cc)
level_fits most k (suc w) l [] sum some h (suc (suc j)) level e = absurd (cc)
level_fits most k (suc w) l (m ∷ levels) sum some h (suc j) level e =
    let own = first_part (NodeFits most) (replicate (suc w) (even_node k l)) (even_nodes (suc k) (suc w * l.children) (m ∷ levels)) h in
    let wide : 1 ≤ suc w * l.children = some_wide (suc w) l.children (omega arith) (own.0.some (omega (arith, sum))) in
    let at : suc k + j ≡ k + suc j = omega arith in
    subst (λ i. NodeFits most (even_node i level)) at
    (level_fits most (suc k) (suc w * l.children) m levels (omega (arith, sum)) wide
    (second_part (NodeFits most) (replicate (suc w) (even_node k l)) (even_nodes (suc k) (suc w * l.children) (m ∷ levels)) h) j level e)

even_of : (l : Level) (levels : List Level) → WithinLimits (record { levels = l ∷ levels; nodes = linked 1 (even_nodes 0 1 (l ∷ levels)) }) → EvenLimits (l ∷ levels)
even_of l levels w =
    let whole = l ∷ levels in
    let most = length whole in
    let ns = even_nodes 0 1 whole in
    let all_fit = unlinked (NodeFits most) (λ n first h. record { level = h.level; capacity = h.capacity; some = h.some; few = h.few; leaf = h.leaf }) 1 ns (from_places (NodeFits most) (linked 1 ns) w.fits) in
    let fit = level_fits most 0 1 l levels (omega arith) (omega arith) all_fit in
    record {
      some = w.some;
      few = w.few;
      names = w.names;
      children = λ k level lt e. (let f = fit k level e in (f.some (omega (arith, lt)), f.few));
      leaves = λ k level n e. (let f = fit k level e in f.leaf (omega (arith, n)));
      capacity = λ k level e. (fit k level e).capacity;
      nodes = omega (arith, length_linked 1 ns, length_even 0 1 whole, w.nodes);
      bytes = omega (arith, total_linked capacity_of (λ n first. refl) 1 ns, bytes_even 0 1 whole, w.bytes);
    }

even_of_levels : (levels : List Level) → 1 ≤ length levels → WithinLimits (record { levels = levels; nodes = linked 1 (even_nodes 0 1 levels) }) → EvenLimits levels
even_of_levels [] some w = absurd (omega arith)
even_of_levels (l ∷ levels) some w = even_of l levels w

-- ---- version 2

words_kept : (i : ℕ) (names : NameSet) (words : List Word) → i + length words ≤ most_levels → ((k : ℕ) (w : Word) → slice_get words k ≡ Some w → names w.name ≡ false)
    → ((j k : ℕ) (a b : Word) → j < k → slice_get words j ≡ Some a → slice_get words k ≡ Some b → a.name ≡ b.name → ⊥) → NamesKept i names words
words_kept i names [] few fresh differ = tt
words_kept i names (w ∷ ws) few fresh differ = (
  record { fresh = fresh zero w refl; few = not_ninth i (suc (length ws)) (omega arith) few },
  words_kept (suc i) (with_name w.name names) ws (omega (arith, few))
      (λ k v e. not_same names v.name w.name (fresh (suc k) v e) (λ same. differ zero (suc k) w v (omega arith) refl e (sym same)))
      (λ j k a b lt ea eb. differ (suc j) (suc k) a b (omega arith) ea eb),
)

named_at : (k : ℕ) (nodes : List Node) (words : List Word) (j : ℕ) (w : Word) → slice_get words j ≡ Some w → (level : Level) × (slice_get (named_levels k nodes words) j ≡ Some level) × (level.name ≡ w.name)
named_at k nodes [] zero w e = absurd (cc)
named_at k nodes [] (suc j) w e = absurd (cc)
named_at k nodes (v ∷ vs) zero w e = (_, refl, ap (λ (w : Word). w.name) (same_in v w e))
named_at k nodes (v ∷ vs) (suc j) w e = named_at (suc k) nodes vs j w e

-- what holds of the nodes of one depth
from_depth : (P : Node → Type 0) (k : ℕ) (ns : List Nested) → Every P (nodes_of_depth k ns) → Every (λ n. n.depth ≡ k → P (node_of n)) ns
from_depth P k [] h = tt
from_depth P k (n ∷ ns) h = elim (eqb_tells n.depth k) [
  | inl e ↦ (let all_here = subst (λ b. Every P (if b then node_of n ∷ nodes_of_depth k ns else nodes_of_depth k ns)) e.0 h in ((λ same. all_here.0), from_depth P k ns all_here.1))
  | inr e ↦ (let all_here = subst (λ b. Every P (if b then node_of n ∷ nodes_of_depth k ns else nodes_of_depth k ns)) e.0 h in ((λ same. absurd (e.1 same)), from_depth P k ns all_here))
]

abbrev Between : (Node → Type 0) → ℕ → ℕ → Nested → Type 0
Between P k end n = k ≤ n.depth → n.depth < end → P (node_of n)

both_depths : (P : Node → Type 0) (k end : ℕ) (ns : List Nested) → Every (λ n. n.depth ≡ k → P (node_of n)) ns → Every (Between P (suc k) end) ns → Every (Between P k end) ns
both_depths P k end [] h g = tt
both_depths P k end (n ∷ ns) h g = (
  (λ low high. elim (eqb_tells n.depth k) [ inl e ↦ h.0 e.1 | inr e ↦ g.0 (omega (arith, e.1, low)) high ]),
  both_depths P k end ns h.1 g.1,
)

none_between : (P : Node → Type 0) (k : ℕ) (ns : List Nested) → Every (Between P k (k + 0)) ns
none_between P k [] = tt
none_between P k (n ∷ ns) = ((λ low high. absurd (omega (arith, low, high))), none_between P k ns)

from_levels : (P : Node → Type 0) (k levels : ℕ) (ns : List Nested) → Every P (by_level k levels ns) → Every (Between P k (k + levels)) ns
from_levels P k zero ns h = none_between P k ns
from_levels P k (suc levels) ns h =
    let end : suc k + levels ≡ k + suc levels = omega arith in
    both_depths P k (k + suc levels) ns (from_depth P k ns (first_part P (nodes_of_depth k ns) (by_level (suc k) levels ns) h))
    (subst (λ end. Every (Between P (suc k) end) ns) end (from_levels P (suc k) levels ns (second_part P (nodes_of_depth k ns) (by_level (suc k) levels ns) h)))

in_text : (P : Node → Type 0) (levels : ℕ) (ns : List Nested) → Every (IsWithin levels) ns → Every (Between P 0 (0 + levels)) ns → Every (λ n. P (node_of n)) ns
in_text P levels [] deep h = tt
in_text P levels (n ∷ ns) deep h = (h.0 (omega arith) (omega (arith, deep.0)), in_text P levels ns deep.1 h.1)

fan_kept : (levels : ℕ) (n : Nested) → NodeFits levels (node_of n) → (nat_lt n.depth (levels - 1) && is_bad_fan n.children) ≡ false
fan_kept levels n fit = elim (leb_tells (suc n.depth) (levels - 1)) [
  | inl p ↦ ap (λ b. b && is_bad_fan n.children) p.0 ∙ fan_clear n.children (fit.some (omega (arith, p.1))) fit.few
  | inr p ↦ ap (λ b. b && is_bad_fan n.children) p.0
]

not_known : (names : NameSet) (name : Bytes) (rest : ℕ) → known names name + (1 + rest) ≤ 1 → names name ≡ false
not_known names name rest le = by_case (names name) le
  where
    by_case : (b : Bool) → (if b then 1 else 0) + (1 + rest) ≤ 1 → b ≡ false
    by_case true le = absurd (omega arith)
    by_case false le = refl

either_known : (a b : Bool) (n : ℕ) → (if a then 1 else 0) + ((if b then 1 else 0) + n) ≤ 1 → (if a || b then 1 else 0) + n ≤ 1
either_known true b n le = omega (arith, le)
either_known false b n le = omega (arith, le)

one_itself : (name : Bytes) (n : ℕ) → (if same_name name name then 1 else 0) + n ≡ 1 + n
one_itself name n = ap (λ b. (if b then 1 else 0) + n) ((bytes_eq-Decides name name).1 refl)

nodes_kept : (levels i : ℕ) (c : NodeCount) (ns : List Nested) → i + length ns ≤ most_nodes → Every (IsWithin levels) ns → Every (λ n. NodeFits levels (node_of n)) ns
    → c.bytes + total (λ n. capacity_of (node_of n)) ns ≤ most_bytes → ((name : Bytes) → known c.names name + total (λ n. has_name name (node_of n)) ns ≤ 1) → NodesKept levels i c ns
nodes_kept levels i c [] few deep fit bytes names = tt
nodes_kept levels i c (n ∷ ns) few deep fit bytes names =
    let sum : c.bytes + n.capacity.value ≤ most_bytes = omega (arith, bytes) in
    let own = names n.name.name in
    let itself = one_itself n.name.name (total (λ m. has_name n.name.name (node_of m)) ns) in (
      record {
        fresh = not_known c.names n.name.name (total (λ m. has_name n.name.name (node_of m)) ns) (subst (λ t. known c.names n.name.name + t ≤ 1) itself own);
        level = grind (arith, leb_tells, deep.0);
        few = grind (arith, eqb_tells, few);
        fan = fan_kept levels n fit.0;
        capacity = capacity_clear n.capacity.value c.bytes (with_node uncut c n) fit.0.capacity sum;
      },
      nodes_kept levels (suc i) (after_node uncut c n) ns (omega (arith, few)) deep.1 fit.1 (omega (arith, bytes))
          (λ name. either_known (c.names name) (same_name name n.name.name) (total (λ m. has_name name (node_of m)) ns) (names name)),
    )

uneven_kept : (text : NodesText) → HasLevels (Nodes text) → WithinLimits (machine_of (Nodes text)) → NamesKept 0 no_names text.names × NodesKept (length text.names) 0 before_nodes (nested text.nodes)
uneven_kept text levels w =
    let most = length text.names in
    let ns = nested text.nodes in
    let drafts = by_level 0 most ns in
    let nodes = uneven_nodes text in
    let counted = length_named 0 nodes text.names in
    let deep = from_places (IsWithin most) ns levels in
    let placed = from_places (NodeFits most) nodes (λ i n e. subst (λ l. NodeFits l n) counted (w.fits i n e)) in
    let all_fit = unlinked (NodeFits most) (λ n first h. record { level = h.level; capacity = h.capacity; some = h.some; few = h.few; leaf = h.leaf }) 1 drafts placed in (
      words_kept 0 no_names text.names (omega (arith, counted, w.few)) (λ k v e. refl)
          (λ j k a b lt ea eb same. (let x = named_at 0 nodes text.names j a ea in let y = named_at 0 nodes text.names k b eb in w.names j k x.0 y.0 lt x.1 y.1 (x.2 ∙ same ∙ sym y.2))),
      nodes_kept most 0 before_nodes ns
          (omega (arith, length_linked 1 drafts, length_total drafts, same_total (λ n. 1) most ns deep, length_nested ns, w.nodes)) deep (in_text (NodeFits most) most ns deep (from_levels (NodeFits most) 0 most ns all_fit))
          (omega (arith, total_linked capacity_of (λ n first. refl) 1 drafts, same_total capacity_of most ns deep, w.bytes))
          (λ name. (let one = w.node_names name in omega (arith, total_linked (has_name name) (λ n first. refl) 1 drafts, same_total (has_name name) most ns deep, one))),
    )

-- ---- either

pub no_fault : (a : MachineText) → HasLevels a → WithinLimits (machine_of a) → (f : Fault) → LimitFault a f → ⊥
no_fault (Levels text) deep w = clear_all (Levels text)
    (kept_levels 0 _ text.root text.below (even_kept text (even_of_levels (levels_of text) (some_levels text.root text.below) w)))
no_fault (Nodes text) deep w =
    let k = uneven_kept text deep w in
    clear_all (Nodes text) (kept_names 0 no_names text.names (all_node_rules uncut (length text.names) 0 before_nodes (nested text.nodes)) k.0
    (kept_nodes (length text.names) 0 before_nodes (nested text.nodes) k.1))
