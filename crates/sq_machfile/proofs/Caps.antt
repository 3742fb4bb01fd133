-- Numbers that are cut at their end break the same rules.
use Rattle.std.proofs.Common.{◌≡◌, ℕ, zero, suc, ◌+◌, ◌-◌, ◌*◌, ◌^◌, ◌<◌, ◌≤◌, min, nat_le, nat_lt, Bool, ◌==◌, ◌&&◌, ◌||◌, List, [], ◌∷◌, length, refl, ◌∙◌, ap, arith, inl, inr, lit<}
use Rattle.std.proofs.Math.Nat.{mul-suc}
use Rattle.std.proofs.lemmas.Bool.Decides.{leb_tells}
use Rattle.sq_text.specs.declared.code.Code.TheVariants as code
use Rattle.sq_text.specs.declared.word.Numeral.{Numeral}
use Rattle.sq_text.specs.Found.{at_word, at_numeral}
use Rattle.sq_machfile.specs.declared.text.LevelText.{LevelText}
use Rattle.sq_machfile.specs.declared.text.Below.{Below}
use Rattle.sq_machfile.specs.declared.text.LevelsText.{LevelsText}
use Rattle.sq_machfile.specs.declared.text.MachineText.{MachineText}
use Rattle.sq_machfile.specs.declared.text.MachineText.TheVariants.{Levels, Nodes}
use Rattle.sq_machfile.specs.declared.nested.Nested.{Nested}
use Rattle.sq_machfile.specs.Nesting.{nested}
use Rattle.sq_machfile.specs.Faults.{Rule, passes, is_bad_fan, is_over_capacity, fan_of}
use Rattle.sq_text.specs.Limits.{most_nodes, most_capacity, most_bytes}
use Rattle.sq_machfile.specs.Walk.{Count, NodeCount, uncut, level_name, bytes_with, width_below, nodes_with, after_level, after_children, after_below, level_rules, children_rules, one_below, below_rules, levels_rules, at_root, with_node, node_rules, after_node, all_node_rules, names_rules, no_names, before_nodes, rules_by}
use Rattle.sq_machfile.specs.Tallies.{capped}

abbrev most : ℕ
most = 2 ^ 64 - 1

sum_capped : (x y m : ℕ) → min (min x m + min y m) m ≡ min (x + y) m
sum_capped x y m = omega arith

more_capped : (x y m : ℕ) → min (min x m + y) m ≡ min (x + y) m
more_capped x y m = omega arith

product_capped : (x y m : ℕ) → min (min x m * y) m ≡ min (x * y) m
product_capped x y m = elim (leb_tells x m) [
  | inl p ↦ let e : min x m ≡ x = omega (arith, p.1) in ap (λ n. min (n * y) m) e
  | inr p ↦ past y (omega (arith, p.1))
]
  where
    past : (y : ℕ) → m ≤ x → min (min x m * y) m ≡ min (x * y) m
    past zero le = omega arith
    past (suc y) le =
        let a : x * suc y ≡ x * y + x = mul-suc x y in
        let b : min x m * suc y ≡ min x m * y + min x m = mul-suc (min x m) y in omega (arith, a, b, le)

within_capped : (limit x m : ℕ) → limit < m → nat_le (min x m) limit ≡ nat_le x limit
within_capped limit x m lt = grind (arith, leb_tells)

beyond_capped : (limit x m : ℕ) → limit < m → nat_lt limit (min x m) ≡ nat_lt limit x
beyond_capped limit x m lt = grind (arith, leb_tells)

passes_capped : (limit x y m : ℕ) → limit < m → passes limit (min x m) (min y m) ≡ passes limit x y
passes_capped limit x y m lt =
    ap (λ b. b && nat_lt limit (min y m)) (within_capped limit x m lt) ∙ ap (λ b. nat_le x limit && b) (beyond_capped limit y m lt)

over_capped : (capacity before after : ℕ) → is_over_capacity capacity (capped before) (capped after) ≡ is_over_capacity capacity before after
over_capped capacity before after = ap (λ b. nat_lt most_capacity capacity || b) (passes_capped most_bytes before after most (lit< tt))

-- ---- version 1

-- a count that is cut
abbrev cut_count : Count → Count
cut_count c = record { names = c.names; width = capped c.width; nodes = capped c.nodes; bytes = capped c.bytes }

bytes_cut : (c : Count) (l : LevelText) → bytes_with capped (cut_count c) l ≡ capped (bytes_with uncut c l)
bytes_cut c l = ap (λ n. capped (capped c.bytes + n)) (product_capped c.width l.capacity.value most) ∙ sum_capped c.bytes (c.width * l.capacity.value) most

width_cut : (c : Count) (n : Numeral) → width_below capped (cut_count c) n ≡ capped (width_below uncut c n)
width_cut c n = product_capped c.width n.value most

nodes_cut : (c : Count) (n : Numeral) → nodes_with capped (cut_count c) n ≡ capped (nodes_with uncut c n)
nodes_cut c n = ap (λ n. capped (capped c.nodes + n)) (width_cut c n) ∙ sum_capped c.nodes (c.width * n.value) most

after_level_cut : (c : Count) (l : LevelText) → after_level capped (cut_count c) l ≡ cut_count (after_level uncut c l)
after_level_cut c l = ap (λ bytes. record (cut_count c) { names = (after_level uncut c l).names; bytes = bytes }) (bytes_cut c l)

after_children_cut : (c : Count) (n : Numeral) → after_children capped (cut_count c) n ≡ cut_count (after_children uncut c n)
after_children_cut c n = ap (λ width. record (cut_count c) { width = width; nodes = nodes_with capped (cut_count c) n }) (width_cut c n)
    ∙ ap (λ nodes. record (cut_count c) { width = capped (width_below uncut c n); nodes = nodes }) (nodes_cut c n)

level_cut : (i : ℕ) (c : Count) (l : LevelText) (later : List Rule) → level_rules capped i (cut_count c) l later ≡ level_rules uncut i c l later
level_cut i c l later =
    let sum : is_over_capacity l.capacity.value (capped c.bytes) (bytes_with capped (cut_count c) l) ≡ is_over_capacity l.capacity.value c.bytes (bytes_with uncut c l) =
    ap (is_over_capacity l.capacity.value (capped c.bytes)) (bytes_cut c l) ∙ over_capped l.capacity.value c.bytes (bytes_with uncut c l) in
    ap (λ b. level_name i c.names l.name (at_numeral code.LimitCapacity l.capacity b ∷ later)) sum

children_cut : (c : Count) (n : Numeral) (later : List Rule) → children_rules capped (cut_count c) n later ≡ children_rules uncut c n later
children_cut c n later =
    let sum : passes most_nodes (capped c.nodes) (nodes_with capped (cut_count c) n) ≡ passes most_nodes c.nodes (nodes_with uncut c n) =
    ap (passes most_nodes (capped c.nodes)) (nodes_cut c n) ∙ passes_capped most_nodes c.nodes (nodes_with uncut c n) most (lit< tt) in
    ap (λ b. at_numeral code.LimitFan n (is_bad_fan n.value) ∷ at_numeral code.LimitNodes n b ∷ later) sum

one_cut : (i : ℕ) (c : Count) (b : Below) (later : List Rule) → one_below capped i (cut_count c) b later ≡ one_below uncut i c b later
one_cut i c b later =
    ap (λ a. children_rules capped (cut_count c) b.children (level_rules capped i a b.level later)) (after_children_cut c b.children)
    ∙ ap (children_rules capped (cut_count c) b.children) (level_cut i (after_children uncut c b.children) b.level later)
    ∙ children_cut c b.children (level_rules uncut i (after_children uncut c b.children) b.level later)

after_cut : (c : Count) (b : Below) → after_below capped (cut_count c) b ≡ cut_count (after_below uncut c b)
after_cut c b = ap (λ a. after_level capped a b.level) (after_children_cut c b.children) ∙ after_level_cut (after_children uncut c b.children) b.level

below_cut : (i : ℕ) (c : Count) (rest : List Below) → below_rules capped i (cut_count c) rest ≡ below_rules uncut i c rest
below_cut i c [] = refl
below_cut i c (b ∷ rest) =
    ap (λ a. one_below capped i (cut_count c) b (below_rules capped (suc i) a rest)) (after_cut c b)
    ∙ ap (one_below capped i (cut_count c) b) (below_cut (suc i) (after_below uncut c b) rest)
    ∙ one_cut i c b (below_rules uncut (suc i) (after_below uncut c b) rest)

levels_cut : (text : LevelsText) → levels_rules capped text ≡ levels_rules uncut text
levels_cut text =
    ap (λ a. level_rules capped 0 at_root text.root (below_rules capped 1 a text.below)) (after_level_cut at_root text.root)
    ∙ ap (level_rules capped 0 at_root text.root) (below_cut 1 (after_level uncut at_root text.root) text.below)
    ∙ level_cut 0 at_root text.root (below_rules uncut 1 (after_level uncut at_root text.root) text.below)

-- ---- version 2

abbrev cut_nodes : NodeCount → NodeCount
cut_nodes c = record { names = c.names; bytes = capped c.bytes }

-- the rules of a node, where this says whether its capacity is too much
abbrev node_with : ℕ → ℕ → NodeCount → Nested → List Rule → Bool → List Rule
node_with levels i c n later b =
    at_word code.DupNode n.name (c.names n.name.name) ∷ at_word code.NodeDepth n.name (nat_le levels n.depth) ∷ at_word code.LimitNodes n.name (i == most_nodes)
    ∷ at_numeral code.LimitFan (fan_of n) (nat_lt n.depth (levels - 1) && is_bad_fan n.children) ∷ at_numeral code.LimitCapacity n.capacity b ∷ later

node_bytes_cut : (c : NodeCount) (n : Nested) → with_node capped (cut_nodes c) n ≡ capped (with_node uncut c n)
node_bytes_cut c n = more_capped c.bytes n.capacity.value most

node_cut : (levels i : ℕ) (c : NodeCount) (n : Nested) (later : List Rule) → node_rules capped levels i (cut_nodes c) n later ≡ node_rules uncut levels i c n later
node_cut levels i c n later =
    let sum : is_over_capacity n.capacity.value (capped c.bytes) (with_node capped (cut_nodes c) n) ≡ is_over_capacity n.capacity.value c.bytes (with_node uncut c n) =
    ap (is_over_capacity n.capacity.value (capped c.bytes)) (node_bytes_cut c n) ∙ over_capped n.capacity.value c.bytes (with_node uncut c n) in
    ap (node_with levels i c n later) sum

nodes_all_cut : (levels i : ℕ) (c : NodeCount) (ns : List Nested) → all_node_rules capped levels i (cut_nodes c) ns ≡ all_node_rules uncut levels i c ns
nodes_all_cut levels i c [] = refl
nodes_all_cut levels i c (n ∷ ns) =
    ap (λ bytes. node_rules capped levels i (cut_nodes c) n (all_node_rules capped levels (suc i) (record { names = (after_node uncut c n).names; bytes = bytes }) ns)) (node_bytes_cut c n)
    ∙ ap (node_rules capped levels i (cut_nodes c) n) (nodes_all_cut levels (suc i) (after_node uncut c n) ns)
    ∙ node_cut levels i c n (all_node_rules uncut levels (suc i) (after_node uncut c n) ns)

pub same_rules : (machine : MachineText) → rules_by capped machine ≡ rules_by uncut machine
same_rules (Levels text) = levels_cut text
same_rules (Nodes text) = ap (names_rules 0 no_names text.names) (nodes_all_cut (length text.names) 0 before_nodes (nested text.nodes))
