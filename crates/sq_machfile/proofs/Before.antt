-- What the reader counts is what stands before.
use Rattle.std.proofs.Common.{◌≡◌, ℕ, suc, ◌+◌, ◌*◌, ◌||◌, ◌==◌, List, [], ◌∷◌, ◌++◌, length, map, refl, sym, ◌∙◌, ap, subst, arith}
use Rattle.std.proofs.Math.Bool.{or_assoc, or-false}
use Rattle.std.proofs.Math.Nat.{mul_assoc}
use Rattle.std.proofs.lemmas.List.{length-map}
use Rattle.sq_text.specs.Names.{Bytes, same_name}
use Rattle.sq_text.specs.declared.code.Code.TheVariants as code
use Rattle.sq_text.specs.declared.fault.Fault.{Fault}
use Rattle.sq_text.specs.declared.word.Word.{Word}
use Rattle.sq_text.specs.Found.{at_word, at_numeral}
use Rattle.sq_machfile.specs.declared.text.LevelText.{LevelText}
use Rattle.sq_machfile.specs.declared.text.Below.{Below}
use Rattle.sq_machfile.specs.declared.text.LevelsText.{LevelsText}
use Rattle.sq_machfile.specs.declared.text.MachineText.{MachineText}
use Rattle.sq_machfile.specs.declared.text.MachineText.TheVariants.{Levels, Nodes}
use Rattle.sq_machfile.specs.declared.nested.Nested.{Nested}
use Rattle.sq_text.specs.Limits.{most_levels, most_nodes}
use Rattle.sq_machfile.specs.Nesting.{nested}
use Rattle.sq_machfile.specs.Faults.{Rule, LimitFault, of_each, is_among, passes, is_over_capacity, level_name, nodes_to, bytes_to, names_to, below_rules, bytes_in, node_rules, rules_of}
use Rattle.sq_machfile.specs.Walk as walk
use Rattle.sq_machfile.specs.Walk.{NameSet, with_name, no_names, Count, at_root, NodeCount, before_nodes, after_below, after_level, after_node, uncut, rules_by}
use Rattle.sq_machfile.proofs.Clear.{Clear, clear, none_breaks}
use Rattle.sq_machfile.proofs.Walks.{total-append}

-- ---- lists

length_more : {X : Type 0} (xs : List X) (x : X) → length (xs ++ x ∷ []) ≡ suc (length xs)
length_more [] x = refl
length_more (y ∷ ys) x = ap suc (length_more ys x)

among_more : {X : Type 0} (name : X → Bytes) (xs : List X) (x : X) (n : Bytes) → is_among (map name (xs ++ x ∷ [])) n ≡ (is_among (map name xs) n || same_name n (name x))
among_more name [] x n = or-false (same_name n (name x))
among_more name (y ∷ ys) x n =
    ap (λ b. same_name n (name y) || b) (among_more name ys x n) ∙ sym (or_assoc (same_name n (name y)) (is_among (map name ys) n) (same_name n (name x)))

two : (a b c d : Rule) (xs ys : List Rule) → a ≡ b → c ≡ d → xs ≡ ys → a ∷ c ∷ xs ≡ b ∷ d ∷ ys
two a b c d xs ys p q r = ap (λ x. x ∷ c ∷ xs) p ∙ ap (λ x. b ∷ x ∷ xs) q ∙ ap (λ l. b ∷ d ∷ l) r

-- ---- names of levels

abbrev word_name : Word → Bytes
word_name w = w.name

abbrev word_rules : List Word → Word → List Rule
word_rules above word = level_name (map word_name above) word

names_before : (index : ℕ) (known : NameSet) (above words : List Word) (later : List Rule) → index ≡ length above → ((n : Bytes) → known n ≡ is_among (map word_name above) n)
    → walk.names_rules index known words later ≡ of_each word_rules above words ++ later
names_before index known above [] later i k = refl
names_before index known above (w ∷ ws) later i k =
    let rest = names_before (suc index) (with_name w.name known) (above ++ w ∷ []) ws later (ap suc i ∙ sym (length_more above w))
    (λ n. ap (λ b. b || same_name n w.name) (k n) ∙ sym (among_more word_name above w n)) in
    two _ _ _ _ _ _
    (ap (at_word code.DupLevel w) (k w.name))
    (ap (λ n. at_word code.LimitLevels w (n == most_levels)) (i ∙ sym (length-map above word_name)))
    rest

-- ---- version 1

-- the nodes of the last of these levels
abbrev width_to : List Below → ℕ
width_to [] = 1
width_to (b ∷ below) = b.children.value * width_to below

width_more : (below : List Below) (b : Below) → width_to (below ++ b ∷ []) ≡ width_to below * b.children.value
width_more [] b = omega arith
width_more (x ∷ xs) b = ap (λ n. x.children.value * n) (width_more xs b) ∙ sym (mul_assoc x.children.value (width_to xs) b.children.value)

nodes_more : (below : List Below) (b : Below) → nodes_to (below ++ b ∷ []) ≡ nodes_to below + width_to below * b.children.value
nodes_more [] b = omega arith
nodes_more (x ∷ xs) b = ap (λ n. 1 + x.children.value * n) (nodes_more xs b) ∙ omega arith

bytes_more : (root : LevelText) (below : List Below) (b : Below) → bytes_to root (below ++ b ∷ []) ≡ bytes_to root below + width_to below * b.children.value * b.level.capacity.value
bytes_more root [] b = omega arith
bytes_more root (x ∷ xs) b = ap (λ n. root.capacity.value + x.children.value * n) (bytes_more x.level xs b) ∙ omega arith

-- what is counted down to the last of these levels
record Counts (root : LevelText) (above : List Below) (c : Count) : Type 0 where
  names : (n : Bytes) → c.names n ≡ is_among (names_to root above) n
  width : c.width ≡ width_to above
  nodes : c.nodes ≡ nodes_to above
  bytes : c.bytes ≡ bytes_to root above

abbrev below_name : Below → Bytes
below_name b = b.level.name.name

counts_more : (root : LevelText) (above : List Below) (c : Count) (b : Below) → Counts root above c → Counts root (above ++ b ∷ []) (after_below uncut c b)
counts_more root above c b h =
    let width = h.width in
    let nodes = h.nodes in
    let bytes = h.bytes in
    record {
      names = λ n. ap (λ known. known || same_name n b.level.name.name) (h.names n)
          ∙ or_assoc (same_name n root.name.name) (is_among (map below_name above) n) (same_name n b.level.name.name)
          ∙ ap (λ known. same_name n root.name.name || known) (sym (among_more below_name above b n));
      width = ap (λ w. w * b.children.value) width ∙ sym (width_more above b);
      nodes = ap (λ w. c.nodes + w * b.children.value) width ∙ ap (λ n. n + width_to above * b.children.value) nodes ∙ sym (nodes_more above b);
      bytes = ap (λ w. c.bytes + w * b.children.value * b.level.capacity.value) width
          ∙ ap (λ n. n + width_to above * b.children.value * b.level.capacity.value) bytes ∙ sym (bytes_more root above b);
    }

levels_before : (root : LevelText) (index : ℕ) (c : Count) (above rest : List Below) → index ≡ suc (length above) → Counts root above c
    → walk.below_rules uncut index c rest ≡ of_each (below_rules root) above rest
levels_before root index c above [] i h = refl
levels_before root index c above (b ∷ rest) i h =
    let next = counts_more root above c b h in
    let more = levels_before root (suc index) (after_below uncut c b) (above ++ b ∷ []) rest (ap suc (i ∙ sym (length_more above b))) next in
    let passing : passes most_nodes c.nodes (c.nodes + c.width * b.children.value) ≡ passes most_nodes (nodes_to above) (nodes_to (above ++ b ∷ [])) =
    ap (λ n. passes most_nodes n (after_below uncut c b).nodes) h.nodes ∙ ap (passes most_nodes (nodes_to above)) next.nodes in
    let over : is_over_capacity b.level.capacity.value c.bytes (after_below uncut c b).bytes ≡ is_over_capacity b.level.capacity.value (bytes_to root above) (bytes_to root (above ++ b ∷ [])) =
    ap (λ n. is_over_capacity b.level.capacity.value n (after_below uncut c b).bytes) h.bytes ∙ ap (is_over_capacity b.level.capacity.value (bytes_to root above)) next.bytes in
    let count : index ≡ length (names_to root above) = i ∙ ap suc (sym (length-map above below_name)) in
    two _ _ _ _ _ _ refl (ap (at_numeral code.LimitNodes b.children) passing)
    (two _ _ _ _ _ _ (ap (at_word code.DupLevel b.level.name) (h.names b.level.name.name)) (ap (λ n. at_word code.LimitLevels b.level.name (n == most_levels)) count)
    (ap (λ x. x ∷ walk.below_rules uncut (suc index) (after_below uncut c b) rest) (ap (at_numeral code.LimitCapacity b.level.capacity) over)
    ∙ ap (λ l. at_numeral code.LimitCapacity b.level.capacity (is_over_capacity b.level.capacity.value (bytes_to root above) (bytes_to root (above ++ b ∷ []))) ∷ l) more))

even_before : (text : LevelsText) → walk.levels_rules uncut text ≡ rules_of (Levels text)
even_before text =
    let root = text.root in
    let bytes : 0 + 1 * root.capacity.value ≡ root.capacity.value = omega arith in
    let first : Counts root [] (after_level uncut at_root root) = record { names = λ n. sym (or-false (same_name n root.name.name)); width = refl; nodes = refl; bytes = bytes } in
    let rest = levels_before root 1 (after_level uncut at_root root) [] text.below refl first in
    two _ _ _ _ _ _ refl refl
    (ap (λ n. at_numeral code.LimitCapacity root.capacity (is_over_capacity root.capacity.value 0 n) ∷ walk.below_rules uncut 1 (after_level uncut at_root root) text.below) bytes
    ∙ ap (λ l. at_numeral code.LimitCapacity root.capacity (is_over_capacity root.capacity.value 0 root.capacity.value) ∷ l) rest)

-- ---- version 2

abbrev node_name : Nested → Bytes
node_name n = n.name.name

abbrev node_bytes : Nested → ℕ
node_bytes n = n.capacity.value

nodes_before : (levels index : ℕ) (c : NodeCount) (before nodes : List Nested) → index ≡ length before → ((n : Bytes) → c.names n ≡ is_among (map node_name before) n) → c.bytes ≡ bytes_in before
    → walk.all_node_rules uncut levels index c nodes ≡ of_each (node_rules levels) before nodes
nodes_before levels index c before [] i k e = refl
nodes_before levels index c before (n ∷ ns) i k e =
    let sum : c.bytes + n.capacity.value ≡ bytes_in (before ++ n ∷ []) = let parts = total-append node_bytes before (n ∷ []) in omega (arith, parts, e) in
    let more = nodes_before levels (suc index) (after_node uncut c n) (before ++ n ∷ []) ns (ap suc i ∙ sym (length_more before n))
    (λ m. ap (λ b. b || same_name m n.name.name) (k m) ∙ sym (among_more node_name before n m)) sum in
    let over = ap (λ b. at_numeral code.LimitCapacity n.capacity (is_over_capacity n.capacity.value b (b + n.capacity.value))) e in
    two _ _ _ _ _ _ (ap (at_word code.DupNode n.name) (k n.name.name)) refl
    (two _ _ _ _ _ _ (ap (λ i. at_word code.LimitNodes n.name (i == most_nodes)) i) refl
    (ap (λ x. x ∷ walk.all_node_rules uncut levels (suc index) (after_node uncut c n) ns) over
    ∙ ap (λ l. at_numeral code.LimitCapacity n.capacity (is_over_capacity n.capacity.value (bytes_in before) (bytes_in before + n.capacity.value)) ∷ l) more))

pub counts_before : (machine : MachineText) → rules_by uncut machine ≡ rules_of machine
counts_before (Levels text) = even_before text
counts_before (Nodes text) =
    names_before 0 no_names [] text.names (walk.all_node_rules uncut (length text.names) 0 before_nodes (nested text.nodes)) refl (λ n. refl)
    ∙ ap (λ l. of_each word_rules [] text.names ++ l) (nodes_before (length text.names) 0 before_nodes [] (nested text.nodes) refl (λ n. refl) refl)

pub all_clear : (machine : MachineText) → ((f : Fault) → LimitFault machine f → ⊥) → Clear (rules_by uncut machine)
all_clear machine none = subst Clear (sym (counts_before machine)) (clear (rules_of machine) none)

pub clear_all : (machine : MachineText) → Clear (rules_by uncut machine) → (f : Fault) → LimitFault machine f → ⊥
clear_all machine h = none_breaks (rules_of machine) (subst Clear (counts_before machine) h)
