-- The nodes of a machine: their numbers are short, and each level has one.
use Rattle.std.proofs.Common.{◌≡◌, ℕ, zero, suc, ◌+◌, ◌<◌, ◌≤◌, ◌==◌, Bool, true, if◌then◌else◌, List, [], ◌∷◌, ◌++◌, map, length, slice_get, take, replicate, Some, refl, sym, ap, ◌∙◌, subst, arith}
use Rattle.std.specs.List.{All, Contains, flat_map}
use Rattle.std.proofs.lemmas.Bool.Decides.{nat_tests}
use Rattle.sq_ir.specs.declared.plan.PlanNode.{PlanNode}
use Rattle.sq_ir.specs.Machines.{below, children_in, AreNodes}
use Rattle.sq_ir.specs.Plans.{node_at}
use Rattle.sq_sched.proofs.Agreeing.{child-there}
use Rattle.sq_planfile.specs.Written.{line_of}
use Rattle.sq_filed_laws.specs.LayoutLaws.Readable.{IsShort, IsReadableNode}
use Rattle.sq_compiled_laws.proofs.Each.{Each, all}

-- ---- their lines can be read

at_node : (ns : List PlanNode) (i : ℕ) (n : PlanNode) → slice_get ns i ≡ Some n → node_at ns i ≡ n
at_node [] i n e = absurd (cc e)
at_node (m ∷ ns) zero n e = cc e
at_node (m ∷ ns) (suc i) n e = at_node ns i n e

within : {A : Type 0} (xs : List A) (i : ℕ) (x : A) → slice_get xs i ≡ Some x → i < length xs
within [] i x e = absurd (cc e)
within (y ∷ xs) zero x e = omega arith
within (y ∷ xs) (suc i) x e = let l = within xs i x e in omega (arith, l)

first_small : (ns : List PlanNode) → AreNodes ns → (i : ℕ) (n : PlanNode) → slice_get ns i ≡ Some n → n.first_child ≤ 4096
first_small ns are i n e = by n.children refl
  where
    by : (k : ℕ) → n.children ≡ k → n.first_child ≤ 4096
    by zero none =
        let first = are.arranged.first i n e in
        let test : (n.children == 0) ≡ true = grind (arith, nat_tests, none) in
        let is : n.first_child ≡ 0 = first ∙ ap (λ (b : Bool). if b then 0 else 1 + children_in (take i ns)) test in
        omega (arith, is)
    by (suc k) some =
        let same = at_node ns i n e in
        let there = child-there ns i 0 are (within ns i n e)
        (let c = ap (λ (m : PlanNode). m.children) same in omega (arith, some, c)) in
        let few = are.few in
        let first = ap (λ (m : PlanNode). m.first_child) same in
        omega (arith, there, few, first)

node_readable : (ns : List PlanNode) → AreNodes ns → (i : ℕ) (n : PlanNode) → slice_get ns i ≡ Some n → IsReadableNode (line_of n)
node_readable ns are i n e =
    let its = are.each i n e in
    let levels = are.few_levels in
    let level = its.level in
    let capacity = its.capacity in
    let first = first_small ns are i n e in
    let few = its.few in
    all IsShort (n.level ∷ n.capacity ∷ n.first_child ∷ n.children ∷ [])
    (omega (arith, level, levels), (omega (arith, capacity), (omega (arith, first), (omega (arith, few), tt))))

each_by : {A : Type 0} (P : A → Type 0) (xs : List A) → ((i : ℕ) (x : A) → slice_get xs i ≡ Some x → P x) → Each P xs
each_by P [] h = tt
each_by P (x ∷ xs) h = (h 0 x refl, each_by P xs (λ i y e. h (suc i) y e))

lines_each : (ns : List PlanNode) → Each (λ (n : PlanNode). IsReadableNode (line_of n)) ns → Each IsReadableNode (map line_of ns)
lines_each [] h = tt
lines_each (n ∷ ns) h = (h.0, lines_each ns h.1)

pub nodes_readable : (ns : List PlanNode) → AreNodes ns → All IsReadableNode (map line_of ns)
nodes_readable ns are =
    all IsReadableNode (map line_of ns) (lines_each ns (each_by (λ (n : PlanNode). IsReadableNode (line_of n)) ns (node_readable ns are)))

-- ---- levels

-- what holds of a level that is in the list
abbrev Has : List ℕ → ℕ → Type 0
Has ns k = (i : ℕ) × (slice_get ns i ≡ Some k)

in_back : (xs ys : List ℕ) (k : ℕ) → Has ys k → Has (xs ++ ys) k
in_back [] ys k h = h
in_back (x ∷ xs) ys k h = let t = in_back xs ys k h in (suc t.0, t.1)

in_front : (xs ys : List ℕ) (k : ℕ) → Has xs k → Has (xs ++ ys) k
in_front [] ys k h = absurd (cc h.1)
in_front (x ∷ xs) ys k (zero, e) = (0, e)
in_front (x ∷ xs) ys k (suc i, e) = let t = in_front xs ys k (i, e) in (suc t.0, t.1)

some_below : (n k : ℕ) → 1 ≤ n → Has (replicate n k) k
some_below zero k h = absurd (omega (arith, h))
some_below (suc n) k h = (0, refl)

in_flat : (ns : List PlanNode) (i : ℕ) (n : PlanNode) (k : ℕ) → slice_get ns i ≡ Some n → Has (below n) k → Has (flat_map below ns) k
in_flat [] i n k e h = absurd (cc e)
in_flat (m ∷ ns) zero n k e h = let is : m ≡ n = cc e in in_front (below m) (flat_map below ns) k (subst (λ (x : PlanNode). Has (below x) k) (sym is) h)
in_flat (m ∷ ns) (suc i) n k e h = in_back (below m) (flat_map below ns) k (in_flat ns i n k e h)

-- a node of a level
pub record HasLevel (ns : List PlanNode) (k : ℕ) : Type 0 where
  pub node : PlanNode
  pub index : ℕ
  pub there : slice_get ns index ≡ Some node
  pub level : node.level ≡ k

of_levels : (ns : List PlanNode) (k i : ℕ) → slice_get (map (λ (n : PlanNode). n.level) ns) i ≡ Some k → HasLevel ns k
of_levels [] k i e = absurd (cc e)
of_levels (n ∷ ns) k zero e = record { node = n; index = 0; there = refl; level = cc e }
of_levels (n ∷ ns) k (suc i) e = let t = of_levels ns k i e in record { node = t.node; index = suc t.index; there = t.there; level = t.level }

pub has_level : (ns : List PlanNode) (are : AreNodes ns) (k : ℕ) → k < are.levels → HasLevel ns k
has_level ns are zero l =
    of_levels ns 0 0 (ap (λ (ks : List ℕ). slice_get ks 0) are.arranged.levels)
has_level ns are (suc k) l =
    let up = has_level ns are k (omega (arith, l)) in
    let its = are.each up.index up.node up.there in
    let at = up.level in
    let some = its.some (omega (arith, at, l)) in
    let one = subst (λ (j : ℕ). Has (replicate up.node.children (suc j)) (suc k)) (sym at) (some_below up.node.children (suc k) some) in
    let flat = in_flat ns up.index up.node (suc k) up.there one in
    of_levels ns (suc k) (suc flat.0) (ap (λ (ks : List ℕ). slice_get ks (suc flat.0)) are.arranged.levels ∙ flat.1)

-- a node that stands at an index is in the list
pub is_in : (ns : List PlanNode) (i : ℕ) (n : PlanNode) → slice_get ns i ≡ Some n → Contains ns n
is_in [] i n e = absurd (cc e)
is_in (m ∷ ns) zero n e = (0, omega arith, cc e)
is_in (m ∷ ns) (suc i) n e = let t = is_in ns i n e in let less = t.1 in (suc t.0, omega (arith, less), t.2)
