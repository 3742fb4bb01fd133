-- Single turns of the reader's loops.
use Rattle.std.proofs.Common.{◌≡◌, ℕ, zero, suc, ◌+◌, ◌-◌, ◌*◌, ◌<◌, ◌≤◌, Bool, true, false, ◌==◌, nat_lt, if◌then◌else◌, List, [], ◌∷◌, ◌++◌, length, take, drop, get_or, replicate, reverse, Ok, Err, refl, sym, ◌∙◌, ap, subst, arith, drop-cons, length-append}
use Rattle.std.proofs.Math.Nat.{suc-mul}
use Rattle.std.proofs.lemmas.Bool.Decides.{leb_tells, eqb_tells}
use Rattle.std.proofs.lemmas.List.{reverse-append}
use Rattle.sq_text.specs.declared.code.Phase.TheVariants.{Machine}
use Rattle.sq_text.specs.Found.{Found, Finds, firsts, nothing_found}
use Rattle.sq_lexer.specs.declared.token.Token.{Token}
use Rattle.sq_lexer.specs.declared.token.Sign.TheVariants as g
use Rattle.sq_patterns.specs.declared.pattern.Pattern.TheVariants as s
use Rattle.sq_patterns.specs.Reading.{Outcome, and_then, all, sees}
use Rattle.sq_patterns.specs.declared.cursor.ReadError.TheVariants.{Syntax}
use Rattle.sq_patterns.proofs.Turns.{one_more}
use Rattle.sq_machfile.specs.declared.text.Below.{Below}
use Rattle.sq_machfile.specs.declared.text.LevelsText.{LevelsText}
use Rattle.sq_machfile.specs.declared.text.NodeText.{NodeText}
use Rattle.sq_machfile.specs.declared.nested.Nested.{Nested}
use Rattle.sq_machfile.specs.declared.level.Level.{Level}
use Rattle.sq_machfile.specs.declared.node.Node.{Node}
use Rattle.sq_machfile.specs.declared.tree.Tree.{Tree}
use Rattle.sq_machfile.specs.Faults.{judge}
use Rattle.sq_machfile.specs.Walk.{Count, at_root, level_rules, below_rules, levels_rules, one_below, after_level, after_below}
use Rattle.sq_machfile.specs.Tallies.{capped, Adds}
use Rattle.sq_machfile.specs.Nesting.{siblings, siblings_behind, nested_node, nested}
use Rattle.sq_machfile.specs.Nodes.{total, children_of, linked}
use Rattle.sq_machfile.specs.Machines.{even_node, even_nodes, nodes_of_depth, by_level}
use Rattle.sq_machfile.specs.Reading as reading

-- the items from a place on
pub items_at : {X : Type 0} (xs : List X) (i : ℕ) (d x : X) → i < length xs → x ≡ get_or xs i d → drop i xs ≡ x ∷ drop (i + 1) xs
items_at xs i d x lt is = let e : suc i ≡ i + 1 = omega arith in drop-cons xs i d lt ∙ ap (λ x. x ∷ drop (suc i) xs) (sym is) ∙ ap (λ n. x ∷ drop n xs) e

-- ---- the rules of version 1

pub even_start : (first new : Found) (c d : Count) (text : LevelsText) → first ≡ nothing_found Machine → c ≡ at_root
    → Finds judge first new (level_rules capped 0 c text.root) → d ≡ after_level capped c text.root
    → firsts judge new (below_rules capped 1 d text.below) ≡ firsts judge (nothing_found Machine) (levels_rules capped text)
even_start first new c d text f e h t =
    ap (λ d. firsts judge new (below_rules capped 1 d text.below)) t
    ∙ h (below_rules capped 1 (after_level capped c text.root) text.below)
    ∙ ap (λ f. firsts judge f (level_rules capped 0 c text.root (below_rules capped 1 (after_level capped c text.root) text.below))) f
    ∙ ap (λ c. firsts judge (nothing_found Machine) (level_rules capped 0 c text.root (below_rules capped 1 (after_level capped c text.root) text.below))) e

pub even_turn : (old new x : Found) (c d : Count) (i : ℕ) (b w : Below) (all_below : List Below) → i < length all_below → b ≡ get_or all_below i w
    → firsts judge old (below_rules capped (suc i) c (drop i all_below)) ≡ x → Finds judge old new (λ later. one_below capped (i + 1) c b later) → d ≡ after_below capped c b
    → firsts judge new (below_rules capped (suc (i + 1)) d (drop (i + 1) all_below)) ≡ x
even_turn old new x c d i b w every lt is inv h t =
    let e : suc i ≡ i + 1 = omega arith in
    ap (λ d. firsts judge new (below_rules capped (suc (i + 1)) d (drop (i + 1) every))) t
    ∙ h (below_rules capped (suc (i + 1)) (after_below capped c b) (drop (i + 1) every))
    ∙ ap (λ n. firsts judge old (below_rules capped n c (b ∷ drop (i + 1) every))) (sym e)
    ∙ ap (λ bs. firsts judge old (below_rules capped (suc i) c bs)) (sym (items_at every i w b lt is)) ∙ inv

-- ---- nodes that are read

pub no_node_open : {x : Outcome (List NodeText)} (turns depth : ℕ) (found : List NodeText) (i : List Token) → depth ≡ 0 → x ≡ reading.nodes_in turns depth found i → x ≡ Ok (found, i)
unfolding reading.nodes_in
no_node_open zero zero found i none e = e
no_node_open (suc turns) zero found i none e = e
no_node_open turns (suc depth) found i none e = absurd (omega arith)

-- one turn where a node is open
abbrev Turned : ℕ → ℕ → List NodeText → List Token → Bool → Outcome (List NodeText)
Turned turns outer found i b = if b
    then and_then (all (s.Sign g.BraceClose ∷ []) i) (λ brace. reading.nodes_in turns outer found)
    else and_then (reading.node (suc outer) i) (λ x. reading.nodes_in turns (suc (suc outer)) (found ++ x ∷ []))

a_turn : {x : Outcome (List NodeText)} (b : Bool) (n at outer : ℕ) (found : List NodeText) (i : List Token) → at < n → x ≡ reading.nodes_in (n - at) (suc outer) found i → sees (s.Sign g.BraceClose) i ≡ b
    → x ≡ Turned (n - (at + 1)) outer found i b
unfolding reading.nodes_in
a_turn b n at outer found i lt e seen = one_more (λ n. reading.nodes_in n (suc outer) found i) n at lt e ∙ ap (Turned (n - (at + 1)) outer found i) seen

pub brace_turn : {x : Outcome (List NodeText)} (n at depth : ℕ) (found : List NodeText) (i : List Token) → at < n → 0 < depth → x ≡ reading.nodes_in (n - at) depth found i → sees (s.Sign g.BraceClose) i ≡ true
    → x ≡ and_then (all (s.Sign g.BraceClose ∷ []) i) (λ brace. reading.nodes_in (n - (at + 1)) (depth - 1) found)
brace_turn n at zero found i lt some e seen = absurd (omega arith)
brace_turn n at (suc outer) found i lt some e seen = let same : suc outer - 1 ≡ outer = omega arith in
    a_turn true n at outer found i lt e seen ∙ ap (λ o. and_then (all (s.Sign g.BraceClose ∷ []) i) (λ brace. reading.nodes_in (n - (at + 1)) o found)) (sym same)

pub node_turn : {x : Outcome (List NodeText)} (n at depth : ℕ) (found : List NodeText) (i : List Token) → at < n → 0 < depth → x ≡ reading.nodes_in (n - at) depth found i → sees (s.Sign g.BraceClose) i ≡ false
    → x ≡ and_then (reading.node depth i) (λ x. reading.nodes_in (n - (at + 1)) (depth + 1) (found ++ x ∷ []))
node_turn n at zero found i lt some e seen = absurd (omega arith)
node_turn n at (suc outer) found i lt some e seen = let same : suc (suc outer) ≡ suc outer + 1 = omega arith in
    a_turn false n at outer found i lt e seen ∙ ap (λ d. and_then (reading.node (suc outer) i) (λ x. reading.nodes_in (n - (at + 1)) d (found ++ x ∷ []))) same

pub not_closed : {x : Outcome (List NodeText)} (turns depth : ℕ) (found : List NodeText) (i : List Token) → turns ≡ 0 → 0 < depth → x ≡ reading.nodes_in turns depth found i → x ≡ Err (Syntax (length i))
unfolding reading.nodes_in
not_closed zero zero found i none some e = absurd (omega arith)
not_closed zero (suc depth) found i none some e = e
not_closed (suc turns) depth found i none some e = absurd (omega arith)

-- ---- how many nodes stand in each

lt_suc : (a b : ℕ) → nat_lt (suc a) (suc b) ≡ nat_lt a b
lt_suc a b = grind (arith, leb_tells)

eq_suc : (a b : ℕ) → (suc a == suc b) ≡ (a == b)
eq_suc a b = grind (arith, eqb_tells)

behind_suc : (depth d n : ℕ) → siblings_behind depth d n ≡ siblings_behind (suc depth) (suc d) n
behind_suc depth d n =
    ap (λ b. if b then 0 else (if depth == d then 1 else 0) + n) (sym (lt_suc depth d))
    ∙ ap (λ b. if nat_lt (suc depth) (suc d) then 0 else (if b then 1 else 0) + n) (sym (eq_suc depth d))

behind_first : (depth n : ℕ) → n ≡ siblings_behind (suc depth) 0 n
behind_first depth n =
    let a : nat_lt (suc depth) 0 ≡ false = grind (arith, leb_tells) in
    let b : (suc depth == 0) ≡ false = grind (arith, eqb_tells) in
    let c : n ≡ 0 + n = omega arith in
    c ∙ ap (λ b. (if b then 1 else 0) + n) (sym b) ∙ ap (λ b. if b then 0 else (if suc depth == 0 then 1 else 0) + n) (sym a)

-- the numbers up to a depth, and the one at it
abbrev pub grown : List ℕ → ℕ → ℕ → List ℕ
grown old depth missing = (take depth old ++ replicate missing 0) ++ (get_or old depth 0 + 1) ∷ []

take_nil : (n : ℕ) → take {A = ℕ} n [] ≡ []
take_nil zero = refl
take_nil (suc n) = refl

pub counted : (old : List ℕ) (depth missing d : ℕ) → missing ≡ depth - length old → get_or (grown old depth missing) d 0 ≡ siblings_behind depth d (get_or old d 0)
counted old zero zero zero e = omega arith
counted old zero zero (suc d) e = let a : nat_lt 0 (suc d) ≡ true = grind (arith, leb_tells) in ap (λ b. if b then 0 else (if 0 == suc d then 1 else 0) + get_or old (suc d) 0) (sym a)
counted old zero (suc missing) d e = absurd (omega arith)
counted [] (suc depth) zero d e = absurd (omega arith)
counted [] (suc depth) (suc missing) zero e = behind_first depth 0
counted [] (suc depth) (suc missing) (suc d) e = ap (λ t. get_or ((t ++ replicate missing 0) ++ 1 ∷ []) d 0) (sym (take_nil depth)) ∙ counted [] depth missing d (omega (arith, e)) ∙ behind_suc depth d 0
counted (o ∷ os) (suc depth) missing zero e = behind_first depth o
counted (o ∷ os) (suc depth) missing (suc d) e = counted os depth missing d (omega (arith, e)) ∙ behind_suc depth d (get_or os d 0)

-- ---- nodes that are popped

rest_of : {X : Type 0} → List X → List X
rest_of [] = []
rest_of (x ∷ xs) = xs

first_or : {X : Type 0} → X → List X → X
first_or d [] = d
first_or d (x ∷ xs) = x

popped : {X : Type 0} (whole xs : List X) (x : X) → xs ++ x ∷ [] ≡ take (length (xs ++ x ∷ [])) whole
    → (xs ≡ take (length xs) whole) × (drop (length xs) whole ≡ x ∷ drop (length (xs ++ x ∷ [])) whole)
unfolding rest_of first_or
popped [] [] x e = let both : length (x ∷ []) ≡ 0 = ap length e in absurd (omega arith)
popped (y ∷ ys) [] x e = (refl, ap (λ y. y ∷ ys) (sym (ap (first_or x) e)))
popped [] (n ∷ ns) x e = let both : length (n ∷ (ns ++ x ∷ [])) ≡ 0 = ap length e in absurd (omega arith)
popped (y ∷ ys) (n ∷ ns) x e = let h = popped ys ns x (ap rest_of e) in (ap (λ m. m ∷ ns) (ap (first_or n) e) ∙ ap (λ ns. y ∷ ns) h.0, h.1)

pub record Popped (whole nodes : List NodeText) (counts : List ℕ) (found : List Nested) (turn : ℕ) : Type 0 where
  pub front : nodes ≡ take (length nodes) whole
  pub turns : length nodes + turn ≡ length whole
  pub read : reverse found ≡ nested (drop (length nodes) whole)
  pub numbers : (d : ℕ) → get_or counts d 0 ≡ siblings d (drop (length nodes) whole)

take_all : {X : Type 0} (xs : List X) → xs ≡ take (length xs) xs
take_all [] = refl
take_all (x ∷ xs) = ap (λ ys. x ∷ ys) (take_all xs)

drop_all : {X : Type 0} (xs : List X) → drop (length xs) xs ≡ []
drop_all [] = refl
drop_all (x ∷ xs) = drop_all xs

pub popped_start : (whole : List NodeText) → Popped whole whole [] [] 0
popped_start whole = record {
  front = take_all whole;
  turns = omega arith;
  read = ap nested (sym (drop_all whole));
  numbers = λ d. ap (siblings d) (sym (drop_all whole));
}

pub popped_turn : (whole nodes old : List NodeText) (x : NodeText) (counts more : List ℕ) (found : List Nested) (turn children : ℕ) → old ≡ nodes ++ x ∷ [] → Popped whole old counts found turn
    → children ≡ get_or counts (suc x.depth) 0 → ((d : ℕ) → get_or more d 0 ≡ siblings_behind x.depth d (get_or counts d 0))
    → Popped whole nodes more (found ++ nested_node x children ∷ []) (turn + 1)
popped_turn whole nodes old x counts more found turn children is h c m =
    let h = subst (λ old. Popped whole old counts found turn) is h in
    let p = popped whole nodes x h.front in
    let later = drop (length (nodes ++ x ∷ [])) whole in
    record {
      front = p.0;
      turns = omega (arith, h.turns, length-append nodes (x ∷ []));
      read = reverse-append found (nested_node x children ∷ []) ∙ ap (λ r. nested_node x children ∷ r) h.read
          ∙ ap (λ n. nested_node x n ∷ nested later) (c ∙ h.numbers (suc x.depth)) ∙ ap nested (sym p.1);
      numbers = λ d. m d ∙ ap (siblings_behind x.depth d) (h.numbers d) ∙ ap (siblings d) (sym p.1);
    }

pub popped_none : (whole nodes : List NodeText) (counts : List ℕ) (found : List Nested) (turn : ℕ) → nodes ≡ [] → turn < length whole → Popped whole nodes counts found turn → ⊥
popped_none whole nodes counts found turn none lt h = let n : length nodes ≡ 0 = ap length none in omega (arith, h.turns)

pub popped_all : (whole nodes : List NodeText) (counts : List ℕ) (found : List Nested) (turn : ℕ) → turn ≡ length whole → Popped whole nodes counts found turn → reverse found ≡ nested whole
popped_all whole nodes counts found turn e h = let n : length nodes ≡ 0 = omega (arith, h.turns) in h.read ∙ ap (λ n. nested (drop n whole)) n

-- ---- the nodes of a machine

pub total-append : {X : Type 0} (f : X → ℕ) (xs ys : List X) → total f (xs ++ ys) ≡ total f xs + total f ys
total-append f [] ys = omega arith
total-append f (x ∷ xs) ys = omega (arith, total-append f xs ys)

pub total-replicate : {X : Type 0} (f : X → ℕ) (n : ℕ) (x : X) → total f (replicate n x) ≡ n * f x
total-replicate f zero x = omega arith
total-replicate f (suc n) x = let h = total-replicate f n x in let e : suc n * f x ≡ n * f x + f x = suc-mul n (f x) in omega (arith, h, e)

-- a turn over levels in each of which all nodes are alike
module _ (levels : List Level) (k i width next : ℕ) (level d : Level) (lt : i < length levels) (is : level ≡ get_or levels i d) where
  even_here : even_nodes k width (drop i levels) ≡ replicate width (even_node k level) ++ even_nodes (k + 1) (width * level.children) (drop (i + 1) levels)
  even_here = let e : suc k ≡ k + 1 = omega arith in
      ap (even_nodes k width) (items_at levels i d level lt is) ∙ ap (λ n. replicate width (even_node k level) ++ even_nodes n (width * level.children) (drop (i + 1) levels)) e

  even_sum : total children_of (even_nodes k width (drop i levels)) ≡ total children_of (replicate width (even_node k level)) + total children_of (even_nodes (k + 1) (width * level.children) (drop (i + 1) levels))
  even_sum = ap (total children_of) even_here ∙ total-append children_of (replicate width (even_node k level)) (even_nodes (k + 1) (width * level.children) (drop (i + 1) levels))

  pub even_room : (most : ℕ) → next + total children_of (even_nodes k width (drop i levels)) ≡ 1 + most → most ≤ 4096
      → (next + total children_of (replicate width (even_node k level)) ≤ 4097) × (width * level.children ≤ 4097)
  even_room most e le =
      let product : total children_of (replicate width (even_node k level)) ≡ width * level.children = total-replicate children_of width (even_node k level) in
      (omega (arith, e, le, even_sum), omega (arith, e, le, even_sum, product))

  pub even_put : (old new : Tree) (every : List Node) → old.nodes ++ linked old.next (even_nodes k width (drop i levels)) ≡ every → Adds old new (replicate width (even_node k level))
      → new.nodes ++ linked new.next (even_nodes (k + 1) (width * level.children) (drop (i + 1) levels)) ≡ every
  even_put old new every e h = h (even_nodes (k + 1) (width * level.children) (drop (i + 1) levels)) ∙ ap (λ ns. old.nodes ++ linked old.next ns) (sym even_here) ∙ e

  pub even_next : (new all_children : ℕ) → next + total children_of (even_nodes k width (drop i levels)) ≡ all_children → new ≡ next + total children_of (replicate width (even_node k level))
      → new + total children_of (even_nodes (k + 1) (width * level.children) (drop (i + 1) levels)) ≡ all_children
  even_next new n e h = omega (arith, e, h, even_sum)

-- a turn over depths
module _ (nodes : List Nested) (levels k next : ℕ) (lt : k < levels) where
  depth_here : by_level k (levels - k) nodes ≡ nodes_of_depth k nodes ++ by_level (k + 1) (levels - (k + 1)) nodes
  depth_here =
      let turn : levels - k ≡ suc (levels - (k + 1)) = omega arith in
      let e : suc k ≡ k + 1 = omega arith in
      ap (λ n. by_level k n nodes) turn ∙ ap (λ n. nodes_of_depth k nodes ++ by_level n (levels - (k + 1)) nodes) e

  depth_sum : total children_of (by_level k (levels - k) nodes) ≡ total children_of (nodes_of_depth k nodes) + total children_of (by_level (k + 1) (levels - (k + 1)) nodes)
  depth_sum = ap (total children_of) depth_here ∙ total-append children_of (nodes_of_depth k nodes) (by_level (k + 1) (levels - (k + 1)) nodes)

  pub depth_room : (most : ℕ) → next + total children_of (by_level k (levels - k) nodes) ≡ 1 + most → most ≤ 4096 → next + total children_of (nodes_of_depth k nodes) ≤ 4097
  depth_room most e le = omega (arith, e, le, depth_sum)

  pub depth_put : (old new : Tree) (every : List Node) → old.nodes ++ linked old.next (by_level k (levels - k) nodes) ≡ every → Adds old new (nodes_of_depth k nodes)
      → new.nodes ++ linked new.next (by_level (k + 1) (levels - (k + 1)) nodes) ≡ every
  depth_put old new every e h = h (by_level (k + 1) (levels - (k + 1)) nodes) ∙ ap (λ ns. old.nodes ++ linked old.next ns) (sym depth_here) ∙ e

  pub depth_next : (new all_children : ℕ) → next + total children_of (by_level k (levels - k) nodes) ≡ all_children → new ≡ next + total children_of (nodes_of_depth k nodes)
      → new + total children_of (by_level (k + 1) (levels - (k + 1)) nodes) ≡ all_children
  depth_next new n e h = omega (arith, e, h, depth_sum)
