-- The nodes of a machine: their children are there, one level deeper.
use Rattle.std.proofs.Common.{◌≡◌, ℕ, zero, suc, ◌+◌, ◌<◌, ◌≤◌, Bool, true, false, List, [], ◌∷◌, ◌++◌, length, get_or}
use Rattle.std.proofs.Common.{take, map, replicate, refl, sym, ap, ◌∙◌, arith}
use Rattle.std.specs.Prelude.{◌==◌, if◌then◌else◌}
use Rattle.std.specs.List.{flat_map}
use Rattle.std.proofs.lemmas.Bool.{eqb-true}
use Rattle.std.proofs.lemmas.List.{length-map, length-replicate}
use Rattle.std.proofs.Common.{length-append}
use Rattle.std.proofs.lemmas.List.Concat.{flat_map-cons}
use Rattle.std.proofs.lemmas.Option.{slice_get-get_or}
use Rattle.sq_ir.specs.Machines.{AreNodes, children_in, below}
use Rattle.sq_ir.specs.Plans.{node_at, placed}
use Rattle.sq_ir.specs.declared.plan.Buffer.{Buffer}
use Rattle.sq_ir.specs.declared.plan.PlanNode.{PlanNode}
use Rattle.sq_nests.specs.Levels.{IsLayered}

below-length : (ns : List PlanNode) → length (flat_map below ns) ≡ children_in ns
below-length [] = refl
below-length (n ∷ ns) =
    let e = ap length (flat_map-cons below n ns) ∙ length-append (below n) (flat_map below ns) in
    let r = length-replicate n.children (suc n.level) in
    let ih = below-length ns in
    omega (arith, e, r, ih)

children-part : (ns : List PlanNode) (i : ℕ) → i < length ns → children_in (take i ns) + (node_at ns i).children
    ≤ children_in ns
children-part [] i h = absurd (omega arith)
children-part (n ∷ ns) zero h = omega arith
children-part (n ∷ ns) (suc i) h = let ih = children-part ns i (omega arith) in omega (arith, ih)

nodes-length : (ns : List PlanNode) → AreNodes ns → length ns ≡ 1 + children_in ns
nodes-length ns are =
    let e = sym (length-map ns (λ n. n.level)) ∙ ap length are.arranged.levels in
    let b = below-length ns in
    omega (arith, e, b)

first-is : (v : Bool) (f k : ℕ) → f ≡ (if v then 0 else k) → v ≡ false → f ≡ k
first-is true f k e h = absurd (let z = h in cc)
first-is false f k e h = e

abbrev nowhere : PlanNode
nowhere = record { level = 0; capacity = 0; first_child = 0; children = 0 }

-- a node that has children is there
pub some-there : (ns : List PlanNode) (i c : ℕ) → c < (node_at ns i).children → i < length ns
some-there [] i c h = absurd (omega (arith, h))
some-there (n ∷ ns) zero c h = omega arith
some-there (n ∷ ns) (suc i) c h = let ih = some-there ns i c h in omega (arith, ih)

-- where the children of a node begin
pub first-child : (ns : List PlanNode) (i c : ℕ) → AreNodes ns → c < (node_at ns i).children
    → (node_at ns i).first_child ≡ 1 + children_in (take i ns)
first-child ns i c are less =
    let m = node_at ns i in
    let here = slice_get-get_or ns i nowhere (some-there ns i c less) in
    first-is (m.children == 0) m.first_child (1 + children_in (take i ns)) (are.arranged.first i m here)
    (some m.children (omega (arith, less)))
  where
    some : (k : ℕ) → 0 < k → (k == 0) ≡ false
    some k h = by (k == 0) refl
      where
        by : (v : Bool) → (k == 0) ≡ v → v ≡ false
        by true e = let z = eqb-true k 0 e in absurd (omega (arith, h, z))
        by false e = refl

-- a child of a node is a node
pub child-there : (ns : List PlanNode) (i c : ℕ) → AreNodes ns → c < (node_at ns i).children
    → (node_at ns i).first_child + c < length ns
child-there ns i c are less =
    let f = first-child ns i c are less in
    let len = nodes-length ns are in
    let part = children-part ns i (some-there ns i c less) in
    omega (arith, f, len, part, less)

pub root-there : (ns : List PlanNode) → AreNodes ns → 0 < length ns
root-there ns are = let len = nodes-length ns are in omega (arith, len)

in_front : (k x c : ℕ) (rest : List ℕ) → c < k → get_or (replicate k x ++ rest) c 0 ≡ x
in_front zero x c rest h = absurd (omega (arith, h))
in_front (suc k) x zero rest h = refl
in_front (suc k) x (suc c) rest h = in_front k x c rest (omega (arith, h))

behind : (k x c : ℕ) (rest : List ℕ) → get_or (replicate k x ++ rest) (k + c) 0 ≡ get_or rest c 0
behind zero x c rest = let e : 0 + c ≡ c = omega arith in ap (λ i. get_or rest i 0) e
behind (suc k) x c rest = let e : suc k + c ≡ suc (k + c)
    = omega arith in ap (λ i. get_or (x ∷ (replicate k x ++ rest)) i 0) e ∙ behind k x c rest

level-below : (ns : List PlanNode) (i c : ℕ) → c < (node_at ns i).children
    → get_or (flat_map below ns) (children_in (take i ns) + c) 0 ≡ suc (node_at ns i).level
level-below [] i c h = absurd (omega (arith, h))
level-below (n ∷ ns) zero c h =
    let e : 0 + c ≡ c = omega arith in
    ap (λ l. get_or l (0 + c) 0) (flat_map-cons below n ns) ∙ ap (λ i. get_or (below n ++ flat_map below ns) i 0) e
    ∙ in_front n.children (suc n.level) c (flat_map below ns) h
level-below (n ∷ ns) (suc i) c h =
    let e : n.children + children_in (take i ns) + c ≡ n.children + (children_in (take i ns) + c) = omega arith in
    ap (λ l. get_or l (n.children + children_in (take i ns) + c) 0) (flat_map-cons below n ns)
    ∙ ap (λ i. get_or (below n ++ flat_map below ns) i 0) e
    ∙ behind n.children (suc n.level) (children_in (take i ns) + c) (flat_map below ns) ∙ level-below ns i c h

level-of : (ns : List PlanNode) (i : ℕ) → (node_at ns i).level ≡ get_or (map (λ (n : PlanNode). n.level) ns) i 0
level-of [] i = refl
level-of (n ∷ ns) zero = refl
level-of (n ∷ ns) (suc i) = level-of ns i

pub layered : (buffers : List Buffer) (ns : List PlanNode) (offset : ℕ → ℕ) → AreNodes ns
    → IsLayered (placed buffers ns offset) (λ n. (node_at ns n).level)
layered buffers ns offset are = record {
  root = level-of ns 0 ∙ ap (λ l. get_or l 0 0) are.arranged.levels;
  below = λ i c less.
      let e : (node_at ns i).first_child + c ≡ suc (children_in (take i ns) + c)
      = (let f = first-child ns i c are less in omega (arith, f)) in
      level-of ns ((node_at ns i).first_child + c) ∙ ap (λ k. get_or (map (λ (n : PlanNode). n.level) ns) k 0) e
      ∙ ap (λ l. get_or l (suc (children_in (take i ns) + c)) 0) are.arranged.levels ∙ level-below ns i c less;
}
