-- The numbers of a machine's nodes and of buffers fit.
use Rattle.std.proofs.Common.{◌≡◌, ℕ, zero, suc, ◌+◌, ◌*◌, ◌<◌, ◌≤◌, ◌==◌, Bool, true, false, if◌then◌else◌, List, [], ◌∷◌, map, length, take, option_map, Some, refl, sym, ap, ◌∙◌, subst, arith}
use Rattle.std.specs.List.{All, slice_get}
use Rattle.std.proofs.lemmas.Option.{slice_get-get_or}
use Rattle.sq_ir.specs.declared.plan.PlanNode.{PlanNode}
use Rattle.sq_ir.specs.Machines.{children_in, AreNodes}
use Rattle.sq_ir.specs.Plans.{of_buffer}
use Rattle.sq_plantext.specs.declared.text.NodeLine.{NodeLine}
use Rattle.sq_plantext.specs.declared.text.BufferLine.{BufferLine}
use Rattle.sq_planfile.specs.Files as files
use Rattle.sq_planfile.specs.Sound.{IsBufferLine}
use Rattle.sq_planlines.specs.Narrow as narrow
use Rattle.sq_planlines.proofs.Fitting.{Word, word_same}

-- ---- nodes

few_in : (nodes : List PlanNode) → ((i : ℕ) (n : PlanNode) → slice_get nodes i ≡ Some n → n.children ≤ 64) → (k : ℕ) → children_in (take k nodes) ≤ 64 * length nodes
few_in nodes h zero = omega arith
few_in [] h (suc k) = omega arith
few_in (n ∷ nodes) h (suc k) = let here = h 0 n refl in let rest = few_in nodes (λ i m e. h (suc i) m e) k in omega (arith, here, rest)

first_fits : (b : Bool) (n : ℕ) → n ≤ 262144 → Word (if b then 0 else 1 + n)
first_fits true n le = omega arith
first_fits false n le = omega (arith, le)

record Fits (n : PlanNode) : Type 0 where
  pub level : Word n.level
  pub first : Word n.first_child
  pub children : Word n.children

each_fits : (nodes : List PlanNode) → AreNodes nodes → (i : ℕ) (n : PlanNode) → slice_get nodes i ≡ Some n → Fits n
each_fits nodes h i n e =
    let is = h.each i n e in
    let level = is.level in
    let few_levels = h.few_levels in
    let few = is.few in
    let all = few_in nodes (λ i m e. (h.each i m e).few) i in
    let count = h.few in
    record {
      level = omega (arith, level, few_levels);
      first = subst Word (sym (h.arranged.first i n e)) (first_fits (n.children == 0) (children_in (take i nodes)) (omega (arith, all, count)));
      children = omega (arith, few);
    }

node_same : (n : NodeLine) → Fits (files.node_of n) → narrow.node_of n ≡ files.node_of n
node_same n h =
    let level = word_same n.level h.level in
    let first = word_same n.first_child h.first in
    let children = word_same n.children h.children in
    λ i. record { level = level i; capacity = n.capacity; first_child = first i; children = children i }

all_same : (ns : List NodeLine) → ((i : ℕ) (m : PlanNode) → slice_get (map files.node_of ns) i ≡ Some m → Fits m) → map narrow.node_of ns ≡ map files.node_of ns
all_same [] h = refl
all_same (n ∷ ns) h = ap (λ m. m ∷ map narrow.node_of ns) (node_same n (h 0 (files.node_of n) refl)) ∙ ap (λ ms. files.node_of n ∷ ms) (all_same ns (λ i m e. h (suc i) m e))

pub nodes_same : (ns : List NodeLine) → AreNodes (map files.node_of ns) → map narrow.node_of ns ≡ map files.node_of ns
nodes_same ns h = all_same ns (each_fits (map files.node_of ns) h)

-- ---- buffers

-- the level of a buffer is that of a node
level_fits : (nodes : List PlanNode) → AreNodes nodes → (b : BufferLine) → IsBufferLine nodes b → Word b.level
level_fits nodes h b is =
    let at : slice_get nodes is.there.0 ≡ Some is.node = slice_get-get_or nodes is.there.0 is.node is.there.1 ∙ ap Some is.there.2 in
    let level = (h.each is.there.0 is.node at).level in
    let few = h.few_levels in
    let same = is.level in
    omega (arith, level, few, same)

pub buffers_same : (nodes : List PlanNode) → AreNodes nodes → (bs : List BufferLine) → All (IsBufferLine nodes) bs → map narrow.buffer_of bs ≡ map files.buffer_of bs
buffers_same nodes h [] each = refl
buffers_same nodes h (b ∷ bs) each =
    ap (λ n. record { level = n; size = b.size; instance = b.instance; array = b.array } ∷ map narrow.buffer_of bs) (word_same b.level (level_fits nodes h b (each 0 b (omega arith))))
    ∙ ap (λ xs. files.buffer_of b ∷ xs) (buffers_same nodes h bs (λ k d lt. each (suc k) d (omega (arith, lt))))

-- no buffer has more bytes than 2^30
pub sizes_fit : (nodes : List PlanNode) (bs : List BufferLine) → All (IsBufferLine nodes) bs → (i : ℕ) → of_buffer (map files.buffer_of bs) (λ b. b.size) i ≤ 1073741824
sizes_fit nodes [] each i = omega arith
sizes_fit nodes (b ∷ bs) each zero = let h = (each 0 b (omega arith)).within in omega (arith, h)
sizes_fit nodes (b ∷ bs) each (suc i) = sizes_fit nodes bs (λ k d lt. each (suc k) d (omega (arith, lt))) i

-- ---- lists

pub map_length : {A B : Type 0} (f : A → B) (xs : List A) → length (map f xs) ≡ length xs
map_length f [] = refl
map_length f (x ∷ xs) = ap suc (map_length f xs)

-- what is found at a number is one of so many
pub found_below : {A B C : Type 0} (f : A → B) (g : B → C) (xs : List A) (i : ℕ) (z : C) → option_map g (option_map f (slice_get xs i)) ≡ Some z → i < length xs
found_below f g [] i z e = absurd (cc)
found_below f g (x ∷ xs) zero z e = omega arith
found_below f g (x ∷ xs) (suc i) z e = let h = found_below f g xs i z e in omega (arith, h)
