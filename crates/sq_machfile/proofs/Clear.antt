-- What it means that no rule is broken.
use Rattle.std.proofs.Common.{◌≡◌, ℕ, suc, ◌-◌, Bool, true, false, ◌&&◌, ◌==◌, nat_lt, nat_le, List, [], ◌∷◌, Some, None, option_map, refl, ap, inl, inr}
use Rattle.sq_text.specs.declared.code.Phase.TheVariants.{Machine}
use Rattle.sq_text.specs.declared.code.Code.{Code}
use Rattle.sq_text.specs.declared.code.Code.TheVariants.{LimitCapacity}
use Rattle.sq_text.specs.declared.fault.Fault.{Fault}
use Rattle.sq_text.specs.declared.word.Word.{Word}
use Rattle.sq_text.specs.declared.word.Numeral.{Numeral}
use Rattle.sq_text.specs.Found.{at_word, at_numeral, fault_by, BreaksIn}
use Rattle.sq_machfile.specs.declared.text.LevelText.{LevelText}
use Rattle.sq_machfile.specs.declared.text.Below.{Below}
use Rattle.sq_machfile.specs.declared.nested.Nested.{Nested}
use Rattle.sq_machfile.specs.Faults.{Rule, passes, is_bad_fan, is_over_capacity, fan_of, judge}
use Rattle.sq_text.specs.Limits.{most_levels, most_nodes}
use Rattle.sq_machfile.specs.Walk.{NameSet, with_name, level_name, Count, NodeCount, bytes_with, nodes_with, after_level, after_children, after_node, level_rules, below_rules, names_rules, with_node, node_rules, all_node_rules, uncut}

abbrev pub Clear : List Rule → Type 0
Clear [] = Unit {0}
Clear (rule ∷ rules) = (rule ≡ None) × Clear rules

is_none : (rule : Rule) → ((f : Fault) → option_map (fault_by Machine) rule ≡ Some f → ⊥) → rule ≡ None
is_none None h = refl
is_none (Some b) h = absurd (h (fault_by Machine b) refl)

pub clear : (rules : List Rule) → ((f : Fault) → BreaksIn judge Machine rules f → ⊥) → Clear rules
clear [] h = tt
clear (rule ∷ rules) h = (is_none rule (λ f e. h f (inl e)), clear rules (λ f b. h f (inr b)))

none_at : (rule : Rule) (f : Fault) → rule ≡ None → option_map (fault_by Machine) rule ≡ Some f → ⊥
none_at None f n e = absurd (cc)
none_at (Some b) f n e = absurd (cc)

pub none_breaks : (rules : List Rule) → Clear rules → (f : Fault) → BreaksIn judge Machine rules f → ⊥
none_breaks [] h f b = b
none_breaks (rule ∷ rules) h f (inl e) = none_at rule f h.0 e
none_breaks (rule ∷ rules) h f (inr b) = none_breaks rules h.1 f b

word_kept : (code : Code) (word : Word) (b : Bool) → at_word code word b ≡ None → b ≡ false
word_kept code word true e = absurd (cc)
word_kept code word false e = refl

number_kept : (code : Code) (number : Numeral) (b : Bool) → at_numeral code number b ≡ None → b ≡ false
number_kept code number true e = absurd (cc)
number_kept code number false e = refl

word_clear : (code : Code) (word : Word) (b : Bool) → b ≡ false → at_word code word b ≡ None
word_clear code word b e = ap (at_word code word) e

number_clear : (code : Code) (number : Numeral) (b : Bool) → b ≡ false → at_numeral code number b ≡ None
number_clear code number b e = ap (at_numeral code number) e

-- ---- what is kept

pub record NameKept (index : ℕ) (names : NameSet) (word : Word) : Type 0 where
  pub fresh : names word.name ≡ false
  pub few : (index == most_levels) ≡ false

pub record LevelKept (index : ℕ) (c : Count) (level : LevelText) : Type 0 where
  pub name : NameKept index c.names level.name
  pub capacity : is_over_capacity level.capacity.value c.bytes (bytes_with uncut c level) ≡ false

pub record ChildrenKept (c : Count) (children : Numeral) : Type 0 where
  pub fan : is_bad_fan children.value ≡ false
  pub nodes : passes most_nodes c.nodes (nodes_with uncut c children) ≡ false

abbrev pub Kept : ℕ → Count → LevelText → List Below → Type 0
Kept index c level [] = LevelKept index c level
Kept index c level (below ∷ rest) = LevelKept index c level × ChildrenKept (after_level uncut c level) below.children × Kept (suc index) (after_children uncut (after_level uncut c level) below.children) below.level rest

pub record NodeKept (levels index : ℕ) (c : NodeCount) (node : Nested) : Type 0 where
  pub fresh : c.names node.name.name ≡ false
  pub level : nat_le levels node.depth ≡ false
  pub few : (index == most_nodes) ≡ false
  pub fan : (nat_lt node.depth (levels - 1) && is_bad_fan node.children) ≡ false
  pub capacity : is_over_capacity node.capacity.value c.bytes (with_node uncut c node) ≡ false

abbrev pub NamesKept : ℕ → NameSet → List Word → Type 0
NamesKept index names [] = Unit {0}
NamesKept index names (word ∷ words) = NameKept index names word × NamesKept (suc index) (with_name word.name names) words

abbrev pub NodesKept : ℕ → ℕ → NodeCount → List Nested → Type 0
NodesKept levels index c [] = Unit {0}
NodesKept levels index c (node ∷ nodes) = NodeKept levels index c node × NodesKept levels (suc index) (after_node uncut c node) nodes

-- ---- one way

name_is_kept : (index : ℕ) (names : NameSet) (word : Word) (later : List Rule) → Clear (level_name index names word later) → NameKept index names word × Clear later
name_is_kept index names word later h = (record { fresh = word_kept _ word _ h.0; few = word_kept _ word _ h.1.0 }, h.1.1)

abbrev capacity_rule : Count → LevelText → Rule
capacity_rule c level = at_numeral LimitCapacity level.capacity (is_over_capacity level.capacity.value c.bytes (bytes_with uncut c level))

level_is_kept : (index : ℕ) (c : Count) (level : LevelText) (later : List Rule) → Clear (level_rules uncut index c level later) → LevelKept index c level × Clear later
level_is_kept index c level later h = let n = name_is_kept index c.names level.name (capacity_rule c level ∷ later) h in (record { name = n.0; capacity = number_kept _ level.capacity _ n.1.0 }, n.1.1)

pub levels_are_kept : (index : ℕ) (c : Count) (level : LevelText) (rest : List Below)
    → Clear (level_rules uncut index c level (below_rules uncut (suc index) (after_level uncut c level) rest)) → Kept index c level rest
levels_are_kept index c level [] h = (level_is_kept index c level [] h).0
levels_are_kept index c level (below ∷ rest) h =
    let inside = after_children uncut (after_level uncut c level) below.children in
    let first = level_is_kept index c level (below_rules uncut (suc index) (after_level uncut c level) (below ∷ rest)) h in
    (first.0, record { fan = number_kept _ below.children _ first.1.0; nodes = number_kept _ below.children _ first.1.1.0 }, levels_are_kept (suc index) inside below.level rest first.1.1.1)

node_is_kept : (levels index : ℕ) (c : NodeCount) (node : Nested) (later : List Rule) → Clear (node_rules uncut levels index c node later) → NodeKept levels index c node × Clear later
node_is_kept levels index c node later h = (
  record {
    fresh = word_kept _ node.name _ h.0;
    level = word_kept _ node.name _ h.1.0;
    few = word_kept _ node.name _ h.1.1.0;
    fan = number_kept _ (fan_of node) _ h.1.1.1.0;
    capacity = number_kept _ node.capacity _ h.1.1.1.1.0;
  },
  h.1.1.1.1.1,
)

pub nodes_are_kept : (levels index : ℕ) (c : NodeCount) (nodes : List Nested) → Clear (all_node_rules uncut levels index c nodes) → NodesKept levels index c nodes
nodes_are_kept levels index c [] h = tt
nodes_are_kept levels index c (node ∷ nodes) h = let k = node_is_kept levels index c node (all_node_rules uncut levels (suc index) (after_node uncut c node) nodes) h in
    (k.0, nodes_are_kept levels (suc index) (after_node uncut c node) nodes k.1)

pub names_are_kept : (index : ℕ) (names : NameSet) (words : List Word) (later : List Rule) → Clear (names_rules index names words later) → NamesKept index names words × Clear later
names_are_kept index names [] later h = (tt, h)
names_are_kept index names (word ∷ words) later h =
    let k = name_is_kept index names word (names_rules (suc index) (with_name word.name names) words later) h in
    let r = names_are_kept (suc index) (with_name word.name names) words later k.1 in ((k.0, r.0), r.1)

-- ---- the other way

kept_name : (index : ℕ) (names : NameSet) (word : Word) (later : List Rule) → NameKept index names word → Clear later → Clear (level_name index names word later)
kept_name index names word later k h = (word_clear _ word _ k.fresh, (word_clear _ word _ k.few, h))

kept_level : (index : ℕ) (c : Count) (level : LevelText) (later : List Rule) → LevelKept index c level → Clear later → Clear (level_rules uncut index c level later)
kept_level index c level later k h = kept_name index c.names level.name (capacity_rule c level ∷ later) k.name (number_clear _ level.capacity _ k.capacity, h)

pub kept_levels : (index : ℕ) (c : Count) (level : LevelText) (rest : List Below) → Kept index c level rest
    → Clear (level_rules uncut index c level (below_rules uncut (suc index) (after_level uncut c level) rest))
kept_levels index c level [] k = kept_level index c level [] k tt
kept_levels index c level (below ∷ rest) k =
    let inside = after_children uncut (after_level uncut c level) below.children in
    kept_level index c level (below_rules uncut (suc index) (after_level uncut c level) (below ∷ rest)) k.0
    (number_clear _ below.children _ k.1.fan, (number_clear _ below.children _ k.1.nodes, kept_levels (suc index) inside below.level rest k.2))

pub kept_nodes : (levels index : ℕ) (c : NodeCount) (nodes : List Nested) → NodesKept levels index c nodes → Clear (all_node_rules uncut levels index c nodes)
kept_nodes levels index c [] k = tt
kept_nodes levels index c (node ∷ nodes) k =
    let later = kept_nodes levels (suc index) (after_node uncut c node) nodes k.1 in (
      word_clear _ node.name _ k.0.fresh,
      (
        word_clear _ node.name _ k.0.level,
        (
          word_clear _ node.name _ k.0.few,
          (number_clear _ (fan_of node) _ k.0.fan, (number_clear _ node.capacity _ k.0.capacity, later)),
        ),
      ),
    )

pub kept_names : (index : ℕ) (names : NameSet) (words : List Word) (later : List Rule) → NamesKept index names words → Clear later → Clear (names_rules index names words later)
kept_names index names [] later k h = h
kept_names index names (word ∷ words) later k h =
    kept_name index names word (names_rules (suc index) (with_name word.name names) words later) k.0 (kept_names (suc index) (with_name word.name names) words later k.1 h)
