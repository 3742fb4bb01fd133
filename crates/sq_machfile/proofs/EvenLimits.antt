-- Of version 1: the levels of a text keep the limits where no rule is broken, and only there.
use Rattle.std.proofs.Common.{◌≡◌, ℕ, zero, suc, ◌+◌, ◌*◌, ◌<◌, ◌≤◌, Bool, true, false, ◌&&◌, ◌||◌, ◌==◌, nat_lt, nat_le, List, [], ◌∷◌, length, Option, Some, None, refl, sym, ◌∙◌, ap, arith, true≢false, lit≤}
use Rattle.std.specs.List.{slice_get}
use Rattle.std.proofs.lemmas.Bool.Decides.{leb_tells, eqb_tells}
use Rattle.sq_text.specs.Names.{Bytes, same_name}
use Rattle.sq_text.specs.Limits.{most_levels, most_nodes, most_children, most_capacity, most_bytes}
use Rattle.sq_machfile.specs.declared.level.Level.{Level}
use Rattle.sq_machfile.specs.declared.text.LevelText.{LevelText}
use Rattle.sq_machfile.specs.declared.text.Below.{Below}
use Rattle.sq_machfile.specs.declared.text.LevelsText.{LevelsText}
use Rattle.sq_machfile.specs.Faults.{passes, is_bad_fan}
use Rattle.sq_machfile.specs.Walk.{Count, at_root, uncut, bytes_with, after_level, after_children}
use Rattle.sq_machfile.specs.Machines.{level_with, levels_from, levels_of}
use Rattle.sq_machfile.proofs.NameSets.{same_itself, or_first, or_second, not_same}
use Rattle.sq_machfile.proofs.Clear.{LevelKept, Kept}

-- the nodes of these levels, where the first has so many
abbrev pub nodes_from : ℕ → List Level → ℕ
nodes_from width [] = 0
nodes_from width (level ∷ below) = width + nodes_from (width * level.children) below

-- the bytes of the memories of these levels
abbrev pub bytes_from : ℕ → List Level → ℕ
bytes_from width [] = 0
bytes_from width (level ∷ below) = width * level.capacity + bytes_from (width * level.children) below

-- the limits on levels in each of which all nodes are alike
pub record EvenLimits (levels : List Level) : Type 0 where
  pub some : 1 ≤ length levels
  pub few : length levels ≤ most_levels
  pub names : (i j : ℕ) (a b : Level) → i < j → slice_get levels i ≡ Some a → slice_get levels j ≡ Some b → a.name ≡ b.name → ⊥
  pub children : (k : ℕ) (level : Level) → suc k < length levels → slice_get levels k ≡ Some level → (1 ≤ level.children) × (level.children ≤ most_children)
  pub leaves : (k : ℕ) (level : Level) → suc k ≡ length levels → slice_get levels k ≡ Some level → level.children ≡ 0
  pub capacity : (k : ℕ) (level : Level) → slice_get levels k ≡ Some level → level.capacity ≤ most_capacity
  pub nodes : nodes_from 1 levels ≤ most_nodes
  pub bytes : bytes_from 1 levels ≤ most_bytes

-- ---- what a rule that isn't broken tells

not_passed : (limit before after : ℕ) → passes limit before after ≡ false → before ≤ limit → after ≤ limit
not_passed limit before after e le = grind (arith, leb_tells)

pub small_fan : (n : ℕ) → is_bad_fan n ≡ false → (1 ≤ n) × (n ≤ most_children)
small_fan n e =
    let low : nat_lt n 1 ≡ false = or_first (nat_lt n 1) (nat_lt most_children n) e in
    let high : nat_lt most_children n ≡ false = or_second (nat_lt n 1) (nat_lt most_children n) e in
    (grind (arith, leb_tells), grind (arith, leb_tells))

pub small_capacity : (n before after : ℕ) → (nat_lt most_capacity n || passes most_bytes before after) ≡ false → before ≤ most_bytes → (n ≤ most_capacity) × (after ≤ most_bytes)
small_capacity n before after e le =
    let first : nat_lt most_capacity n ≡ false = or_first (nat_lt most_capacity n) (passes most_bytes before after) e in
    let second : passes most_bytes before after ≡ false = or_second (nat_lt most_capacity n) (passes most_bytes before after) e in
    (grind (arith, leb_tells), not_passed most_bytes before after second le)

-- ---- the levels of a text that keeps the rules

abbrev children_or : Option Level → ℕ
children_or None = 0
children_or (Some level) = level.children

abbrev capacity_or : Option Level → ℕ
capacity_or None = 0
capacity_or (Some level) = level.capacity

abbrev name_or : Option Level → List ℕ
name_or None = []
name_or (Some level) = level.name

first_of : (i : ℕ) (c : Count) (l : LevelText) (rest : List Below) → Kept i c l rest → LevelKept i c l
first_of i c l [] h = h
first_of i c l (b ∷ rest) h = h.0

pub some_levels : (l : LevelText) (rest : List Below) → 1 ≤ length (levels_from l rest)
some_levels l [] = omega arith
some_levels l (b ∷ rest) = omega arith

few_levels : (i : ℕ) (c : Count) (l : LevelText) (rest : List Below) → Kept i c l rest → i ≤ most_levels → i + length (levels_from l rest) ≤ most_levels
few_levels i c l [] h le = let other : (i == most_levels) ≡ false = h.name.few in grind (arith, eqb_tells)
few_levels i c l (b ∷ rest) h le =
    let other : (i == most_levels) ≡ false = h.0.name.few in
    let less : i < most_levels = grind (arith, eqb_tells) in
    let more : suc i + length (levels_from b.level rest) ≤ most_levels = few_levels (suc i) (after_children uncut (after_level uncut c l) b.children) b.level rest h.2 (omega arith) in
    omega arith

capacities : (i : ℕ) (c : Count) (l : LevelText) (rest : List Below) → Kept i c l rest → c.bytes ≤ most_bytes → (k : ℕ) (level : Level) → slice_get (levels_from l rest) k ≡ Some level → level.capacity ≤ most_capacity
capacities i c l [] h le zero level e =
    let fit = small_capacity l.capacity.value c.bytes (bytes_with uncut c l) h.capacity le in
    let same : l.capacity.value ≡ level.capacity = ap capacity_or e in omega (arith, fit.0)
capacities i c l [] h le (suc k) level e = absurd (cc)
capacities i c l (b ∷ rest) h le zero level e =
    let fit = small_capacity l.capacity.value c.bytes (bytes_with uncut c l) h.0.capacity le in
    let same : l.capacity.value ≡ level.capacity = ap capacity_or e in omega (arith, fit.0)
capacities i c l (b ∷ rest) h le (suc k) level e =
    let fit = small_capacity l.capacity.value c.bytes (bytes_with uncut c l) h.0.capacity le in
    capacities (suc i) (after_children uncut (after_level uncut c l) b.children) b.level rest h.2 fit.1 k level e

fans : (i : ℕ) (c : Count) (l : LevelText) (rest : List Below) → Kept i c l rest → (k : ℕ) (level : Level) → suc k < length (levels_from l rest) → slice_get (levels_from l rest) k ≡ Some level
    → (1 ≤ level.children) × (level.children ≤ most_children)
fans i c l [] h k level lt e = absurd (omega arith)
fans i c l (b ∷ rest) h zero level lt e =
    let fan = small_fan b.children.value h.1.fan in
    let same : b.children.value ≡ level.children = ap children_or e in (omega (arith, fan.0), omega (arith, fan.1))
fans i c l (b ∷ rest) h (suc k) level lt e = fans (suc i) (after_children uncut (after_level uncut c l) b.children) b.level rest h.2 k level (omega arith) e

leaves : (l : LevelText) (rest : List Below) (k : ℕ) (level : Level) → suc k ≡ length (levels_from l rest) → slice_get (levels_from l rest) k ≡ Some level → level.children ≡ 0
leaves l [] zero level n e = sym (ap children_or e)
leaves l [] (suc k) level n e = absurd (omega arith)
leaves l (b ∷ rest) zero level n e = let more : 1 ≤ length (levels_from b.level rest) = some_levels b.level rest in absurd (omega arith)
leaves l (b ∷ rest) (suc k) level n e = leaves b.level rest k level (omega arith) e

nodes : (i : ℕ) (c : Count) (l : LevelText) (rest : List Below) → Kept i c l rest → c.nodes ≤ most_nodes → c.nodes + nodes_from c.width (levels_from l rest) ≤ most_nodes + c.width
nodes i c l [] h le = let zero_below : nodes_from (c.width * 0) [] ≡ 0 = refl in omega arith
nodes i c l (b ∷ rest) h le =
    let inside = after_children uncut (after_level uncut c l) b.children in
    let fit : inside.nodes ≤ most_nodes = not_passed most_nodes c.nodes inside.nodes h.1.nodes le in
    let more : inside.nodes + nodes_from inside.width (levels_from b.level rest) ≤ most_nodes + inside.width = nodes (suc i) inside b.level rest h.2 fit in
    omega arith

bytes : (i : ℕ) (c : Count) (l : LevelText) (rest : List Below) → Kept i c l rest → c.bytes ≤ most_bytes → c.bytes + bytes_from c.width (levels_from l rest) ≤ most_bytes
bytes i c l [] h le = let fit = small_capacity l.capacity.value c.bytes (bytes_with uncut c l) h.capacity le in omega (arith, fit.1)
bytes i c l (b ∷ rest) h le =
    let inside = after_children uncut (after_level uncut c l) b.children in
    let fit = small_capacity l.capacity.value c.bytes (bytes_with uncut c l) h.0.capacity le in
    let more : inside.bytes + bytes_from inside.width (levels_from b.level rest) ≤ most_bytes = bytes (suc i) inside b.level rest h.2 fit.1 in
    omega (arith, more)

-- a name that is known isn't a level's from here on
fresh : (i : ℕ) (c : Count) (l : LevelText) (rest : List Below) → Kept i c l rest → (name : Bytes) → c.names name ≡ true
    → (k : ℕ) (level : Level) → slice_get (levels_from l rest) k ≡ Some level → level.name ≡ name → ⊥
fresh i c l [] h name known zero level e same = true≢false (sym known ∙ ap c.names (sym (ap name_or e ∙ same)) ∙ h.name.fresh)
fresh i c l [] h name known (suc k) level e same = absurd (cc)
fresh i c l (b ∷ rest) h name known zero level e same = true≢false (sym known ∙ ap c.names (sym (ap name_or e ∙ same)) ∙ h.0.name.fresh)
fresh i c l (b ∷ rest) h name known (suc k) level e same =
    fresh (suc i) (after_children uncut (after_level uncut c l) b.children) b.level rest h.2 name (ap (λ b. b || same_name name l.name.name) known) k level e same

distinct : (i : ℕ) (c : Count) (l : LevelText) (rest : List Below) → Kept i c l rest → (j k : ℕ) (a b : Level) → j < k
    → slice_get (levels_from l rest) j ≡ Some a → slice_get (levels_from l rest) k ≡ Some b → a.name ≡ b.name → ⊥
distinct i c l rest h j zero a b lt ea eb same = absurd (omega arith)
distinct i c l [] h j (suc k) a b lt ea eb same = absurd (cc)
distinct i c l (x ∷ rest) h zero (suc k) a b lt ea eb same =
    fresh (suc i) (after_children uncut (after_level uncut c l) x.children) x.level rest h.2 l.name.name (same_itself c.names l.name.name) k b eb (sym same ∙ sym (ap name_or ea))
distinct i c l (x ∷ rest) h (suc j) (suc k) a b lt ea eb same =
    distinct (suc i) (after_children uncut (after_level uncut c l) x.children) x.level rest h.2 j k a b (omega arith) ea eb same

pub even_limits : (text : LevelsText) → Kept 0 at_root text.root text.below → EvenLimits (levels_of text)
even_limits text h =
    let all_nodes : 1 + nodes_from 1 (levels_of text) ≤ most_nodes + 1 = nodes 0 at_root text.root text.below h (lit≤ tt) in
    let all_bytes : 0 + bytes_from 1 (levels_of text) ≤ most_bytes = bytes 0 at_root text.root text.below h (lit≤ tt) in
    record {
      some = some_levels text.root text.below;
      few = let n : 0 + length (levels_of text) ≤ most_levels = few_levels 0 at_root text.root text.below h (lit≤ tt) in omega arith;
      names = distinct 0 at_root text.root text.below h;
      children = fans 0 at_root text.root text.below h;
      leaves = leaves text.root text.below;
      capacity = capacities 0 at_root text.root text.below h (lit≤ tt);
      nodes = omega arith;
      bytes = omega arith;
    }

-- ---- the other way

-- the limits as far as a level, the i-th from the root
record Fine (i : ℕ) (c : Count) (levels : List Level) : Type 0 where
  pub few : i + length levels ≤ most_levels
  pub fresh : (k : ℕ) (level : Level) → slice_get levels k ≡ Some level → c.names level.name ≡ false
  pub names : (j k : ℕ) (a b : Level) → j < k → slice_get levels j ≡ Some a → slice_get levels k ≡ Some b → a.name ≡ b.name → ⊥
  pub children : (k : ℕ) (level : Level) → suc k < length levels → slice_get levels k ≡ Some level → (1 ≤ level.children) × (level.children ≤ most_children)
  pub capacity : (k : ℕ) (level : Level) → slice_get levels k ≡ Some level → level.capacity ≤ most_capacity
  pub nodes : c.nodes + nodes_from c.width levels ≤ most_nodes + c.width
  pub bytes : c.bytes + bytes_from c.width levels ≤ most_bytes

pub not_ninth : (i n : ℕ) → 1 ≤ n → i + n ≤ most_levels → (i == most_levels) ≡ false
not_ninth i n a b = grind (arith, eqb_tells)

pub passes_clear : (limit before after : ℕ) → after ≤ limit → passes limit before after ≡ false
passes_clear limit before after le = passing_or (nat_le before limit) (nat_lt limit after) (grind (arith, leb_tells))
  where
    passing_or : (a b : Bool) → b ≡ false → (a && b) ≡ false
    passing_or true b e = e
    passing_or false b e = refl

pub capacity_clear : (n before after : ℕ) → n ≤ most_capacity → after ≤ most_bytes → (nat_lt most_capacity n || passes most_bytes before after) ≡ false
capacity_clear n before after a b =
    let first : nat_lt most_capacity n ≡ false = grind (arith, leb_tells) in
    ap (λ x. x || passes most_bytes before after) first ∙ passes_clear most_bytes before after b

pub fan_clear : (n : ℕ) → 1 ≤ n → n ≤ most_children → is_bad_fan n ≡ false
fan_clear n low high =
    let first : nat_lt n 1 ≡ false = grind (arith, leb_tells) in
    let second : nat_lt most_children n ≡ false = grind (arith, leb_tells) in ap (λ b. b || nat_lt most_children n) first ∙ second

level_fine : (i : ℕ) (c : Count) (l : LevelText) (levels : List Level) (children : ℕ) → Fine i c (level_with l children ∷ levels) → LevelKept i c l
level_fine i c l levels n h =
    let level = level_with l n in
    record {
      name = record { fresh = h.fresh zero level refl; few = not_ninth i (suc (length levels)) (omega arith) h.few };
      capacity = capacity_clear l.capacity.value c.bytes (bytes_with uncut c l) (h.capacity zero level refl) (omega (arith, h.bytes));
    }

nodes_fit : (before width : ℕ) (levels : List Level) → 1 ≤ length levels → before + nodes_from width levels ≤ most_nodes + width → before ≤ most_nodes
nodes_fit before width [] more h = absurd (omega arith)
nodes_fit before width (level ∷ levels) more h = omega arith

below_fine : (i : ℕ) (c : Count) (l : LevelText) (b : Below) (levels : List Level) → 1 ≤ length levels → Fine i c (level_with l b.children.value ∷ levels)
    → Fine (suc i) (after_children uncut (after_level uncut c l) b.children) levels
below_fine i c l b levels more h = record {
  few = omega (arith, h.few);
  fresh = λ k level e. not_same c.names level.name l.name.name (h.fresh (suc k) level e)
      (λ same. h.names zero (suc k) (level_with l b.children.value) level (omega arith) refl e (sym same));
  names = λ j k x y lt ex ey. h.names (suc j) (suc k) x y (omega arith) ex ey;
  children = λ k level lt e. h.children (suc k) level (omega arith) e;
  capacity = λ k level e. h.capacity (suc k) level e;
  nodes = omega (arith, h.nodes);
  bytes = omega (arith, h.bytes);
}

fine_kept : (i : ℕ) (c : Count) (l : LevelText) (rest : List Below) → Fine i c (levels_from l rest) → Kept i c l rest
fine_kept i c l [] h = level_fine i c l [] 0 h
fine_kept i c l (b ∷ rest) h =
    let levels = levels_from b.level rest in
    let more : 1 ≤ length levels = some_levels b.level rest in
    let fan = h.children zero (level_with l b.children.value) (omega arith) refl in
    let inside = after_children uncut (after_level uncut c l) b.children in
    let next = below_fine i c l b levels more h in
    let fit : inside.nodes ≤ most_nodes = nodes_fit inside.nodes inside.width levels more next.nodes in
    (level_fine i c l levels b.children.value h, record { fan = fan_clear b.children.value fan.0 fan.1; nodes = passes_clear most_nodes c.nodes inside.nodes fit }, fine_kept (suc i) inside b.level rest next)

pub even_kept : (text : LevelsText) → EvenLimits (levels_of text) → Kept 0 at_root text.root text.below
even_kept text w = fine_kept 0 at_root text.root text.below (record {
  few = omega (arith, w.few);
  fresh = λ k level e. refl;
  names = w.names;
  children = w.children;
  capacity = w.capacity;
  nodes = omega (arith, w.nodes);
  bytes = omega (arith, w.bytes);
})
