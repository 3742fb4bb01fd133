-- Scopes beside one another: by the form of the tree, and at different children of one node.
use Rattle.std.proofs.Common.{◌≡◌, ◌≢◌, ℕ, zero, suc, ◌+◌, ◌<◌, ◌≤◌, Bool, true, false, List, [], ◌∷◌, length, take}
use Rattle.std.proofs.Common.{refl, sym, ap, subst, ◌∙◌, arith}
use Rattle.std.specs.Prelude.{if◌then◌else◌, ◌==◌, ◌||◌, nat_lt}
use Rattle.std.proofs.lemmas.Bool.{eqb-true, ltb-true, ltb-false}
use Rattle.sq_ir.specs.Tree as tree
use Rattle.sq_ir.specs.Tree.{Tree, is_done, seq, par, within}
use Rattle.sq_ir.specs.Machines.{AreNodes, children_in}
use Rattle.sq_ir.specs.Written.{Setting, PlanTree, seq_of, par_of, scoped}
use Rattle.sq_ir.specs.Plans.{node_at, placed}
use Rattle.sq_ir.specs.declared.plan.Buffer.{Buffer}
use Rattle.sq_ir.specs.declared.plan.PlanNode.{PlanNode}
use Rattle.sq_nests.specs.Stacks.{stands_at, AreAside}
use Rattle.sq_nests.specs.Under.{Under, here, below, IsForest, EachScope}
use Rattle.sq_nests.proofs.Machines.{layered, first-child, some-there}

-- ---- what holds of the scopes of a tree, by its form

module _ (P : ℕ → Type 0) where
  pub each-seq : (a b : PlanTree) → EachScope P a → EachScope P b → EachScope P (seq a b)
  each-seq a b h k = by (is_done a) (is_done b)
    where
      by : (u v : Bool) → EachScope P (if u then b else (if v then a else tree.Seq a b))
      by true v = k
      by false true = h
      by false false = (h, k)

  pub each-par : (a b : PlanTree) → EachScope P a → EachScope P b → EachScope P (par a b)
  each-par a b h k = by (is_done a) (is_done b)
    where
      by : (u v : Bool) → EachScope P (if u then b else (if v then a else tree.Par a b))
      by true v = k
      by false true = h
      by false false = (h, k)

  pub each-scoped : (node : ℕ) (bs : List ℕ) (a : PlanTree) → P node → EachScope P a → EachScope P (scoped node bs a)
  each-scoped node [] a p h = h
  each-scoped node (b ∷ bs) a p h = by (is_done a)
    where
      by : (u : Bool) → EachScope P (if u then tree.Skip else tree.Within (record { node = node; buffers = b ∷ bs }) a)
      by true = tt
      by false = (p, h)

  pub each-seq_of : (n : ℕ) (f : ℕ → PlanTree) (k : ℕ) → ((i : ℕ) → k ≤ i → i < k + n → EachScope P (f i))
      → EachScope P (seq_of n f k)
  unfolding seq_of
  each-seq_of zero f k h = tt
  each-seq_of (suc n) f k h = each-seq (f k) (seq_of n f (k + 1)) (h k (omega arith) (omega arith))
      (each-seq_of n f (k + 1) (λ i g l. h i (omega (arith, g)) (omega (arith, l))))

  pub each-par_of : (n : ℕ) (f : ℕ → PlanTree) (k : ℕ) → ((i : ℕ) → k ≤ i → i < k + n → EachScope P (f i))
      → EachScope P (par_of n f k)
  unfolding par_of
  each-par_of zero f k h = tt
  each-par_of (suc n) f k h = each-par (f k) (par_of n f (k + 1)) (h k (omega arith) (omega arith))
      (each-par_of n f (k + 1) (λ i g l. h i (omega (arith, g)) (omega (arith, l))))

  -- a node of which it doesn't hold has no scope
  pub nowhere : (a : PlanTree) (node : ℕ) → EachScope P a → (P node → ⊥) → stands_at node a ≡ false
  nowhere tree.Skip node h ne = refl
  nowhere (tree.Act e) node h ne = refl
  nowhere (tree.Stuck e) node h ne = refl
  nowhere (tree.Seq a b) node h ne
      = by (stands_at node a) (stands_at node b) (nowhere a node h.0 ne) (nowhere b node h.1 ne)
    where
      by : (u v : Bool) → u ≡ false → v ≡ false → (u || v) ≡ false
      by false false p q = refl
      by true v p q = absurd (let z = p in cc)
      by false true p q = absurd (let z = q in cc)
  nowhere (tree.Par a b) node h ne
      = by (stands_at node a) (stands_at node b) (nowhere a node h.0 ne) (nowhere b node h.1 ne)
    where
      by : (u v : Bool) → u ≡ false → v ≡ false → (u || v) ≡ false
      by false false p q = refl
      by true v p q = absurd (let z = p in cc)
      by false true p q = absurd (let z = q in cc)
  nowhere (tree.Within s a) node h ne = by (s.node == node) refl (stands_at node a) (nowhere a node h.1 ne)
    where
      by : (u : Bool) → (s.node == node) ≡ u → (v : Bool) → v ≡ false → (u || v) ≡ false
      by false p false q = refl
      by true p v q = absurd (ne (subst P (eqb-true s.node node p) h.0))
      by false p true q = absurd (let z = q in cc)

pub each-map : {P Q : ℕ → Type 0} → ((node : ℕ) → P node → Q node) → (a : PlanTree) → EachScope P a → EachScope Q a
each-map f tree.Skip h = tt
each-map f (tree.Act e) h = tt
each-map f (tree.Stuck e) h = tt
each-map f (tree.Seq a b) h = (each-map f a h.0, each-map f b h.1)
each-map f (tree.Par a b) h = (each-map f a h.0, each-map f b h.1)
each-map f (tree.Within s a) h = (f s.node h.0, each-map f a h.1)

-- ---- scopes aside, by the form of the tree

-- no node has scopes in both
abbrev pub Distinct : PlanTree → PlanTree → Type 0
Distinct a b = (node : ℕ) → stands_at node a ≡ true → stands_at node b ≡ false

pub aside-seq : (a b : PlanTree) → AreAside a → AreAside b → AreAside (seq a b)
aside-seq a b h k = by (is_done a) (is_done b)
  where
    by : (u v : Bool) → AreAside (if u then b else (if v then a else tree.Seq a b))
    by true v = k
    by false true = h
    by false false = (h, k)

pub aside-par : (a b : PlanTree) → AreAside a → AreAside b → Distinct a b → AreAside (par a b)
aside-par a b h k d = by (is_done a) (is_done b)
  where
    by : (u v : Bool) → AreAside (if u then b else (if v then a else tree.Par a b))
    by true v = k
    by false true = h
    by false false = (h, k, d)

pub aside-scoped : (node : ℕ) (bs : List ℕ) (a : PlanTree) → AreAside a → AreAside (scoped node bs a)
aside-scoped node [] a h = h
aside-scoped node (b ∷ bs) a h = by (is_done a)
  where
    by : (u : Bool) → AreAside (if u then tree.Skip else tree.Within (record { node = node; buffers = b ∷ bs }) a)
    by true = tt
    by false = h

pub aside-seq_of : (n : ℕ) (f : ℕ → PlanTree) (k : ℕ) → ((i : ℕ) → k ≤ i → i < k + n → AreAside (f i))
    → AreAside (seq_of n f k)
unfolding seq_of
aside-seq_of zero f k h = tt
aside-seq_of (suc n) f k h = aside-seq (f k) (seq_of n f (k + 1)) (h k (omega arith) (omega arith))
    (aside-seq_of n f (k + 1) (λ i g l. h i (omega (arith, g)) (omega (arith, l))))

-- parts whose scopes have their nodes where those of no other part have theirs
pub aside-par_of : (P : ℕ → ℕ → Type 0) (n : ℕ) (f : ℕ → PlanTree) (k : ℕ)
    → ((i j node : ℕ) → k ≤ i → i < j → j < k + n → P i node → P j node → ⊥)
    → ((i : ℕ) → k ≤ i → i < k + n → AreAside (f i) × EachScope (P i) (f i)) → AreAside (par_of n f k)
unfolding par_of
aside-par_of P zero f k d h = tt
aside-par_of P (suc n) f k d h =
    let rest = par_of n f (k + 1) in
    let others = each-par_of (λ node. P k node → ⊥) n f (k + 1)
    (λ j g l. each-map (λ node p q. d k j node (omega arith) (omega (arith, g)) (omega (arith, l)) q p) (f j)
    (h j (omega (arith, g)) (omega (arith, l))).1) in
    aside-par (f k) rest (h k (omega arith) (omega arith)).0
    (aside-par_of P n f (k + 1) (λ i j node g l m. d i j node (omega (arith, g)) l (omega (arith, m)))
    (λ i g l. h i (omega (arith, g)) (omega (arith, l))))
    (λ node e. nowhere (λ m. P k m → ⊥) rest node others
    (λ off. absurd (let z : true ≡ false = sym e
    ∙ nowhere (P k) (f k) node (h k (omega arith) (omega arith)).1 off in cc)))

-- scopes in one part alone
pub aside-left : (a b : PlanTree) → AreAside a → EachScope (λ n. ⊥) b → AreAside b → AreAside (par a b)
aside-left a b h k g = aside-par a b h g (λ node e. nowhere (λ n. ⊥) b node k (λ z. z))

pub aside-none : (a : PlanTree) → EachScope (λ n. ⊥) a → AreAside a
aside-none tree.Skip h = tt
aside-none (tree.Act e) h = tt
aside-none (tree.Stuck e) h = tt
aside-none (tree.Seq a b) h = (aside-none a h.0, aside-none b h.1)
aside-none (tree.Par a b) h = (aside-none a h.0, aside-none b h.1, λ node e. nowhere (λ n. ⊥) b node h.1 (λ z. z))
aside-none (tree.Within s a) h = aside-none a h.1

-- ---- different children have nothing below them in common

module _ (s : Setting) (depth : ℕ → ℕ) (forest : IsForest s depth) where
  deeper : {top node : ℕ} → Under s top node → depth top ≤ depth node
  deeper (here e) = let z = ap depth e in omega (arith, z)
  deeper (below parent c u l e) = let z = deeper u in let y = ap depth e
      ∙ forest.below parent c l in omega (arith, y, z)

  pub one-top : {top other node : ℕ} → Under s top node → Under s other node → depth top ≡ depth other → top ≡ other
  one-top (here e) (here g) q = sym e ∙ g
  one-top (here e) (below m c u l g) q = let z = deeper u in let y = ap depth g ∙ forest.below m c l in let x
      = ap depth e in absurd (omega (arith, x, y, z, q))
  one-top (below m c u l e) (here g) q = let z = deeper u in let y = ap depth e ∙ forest.below m c l in let x
      = ap depth g in absurd (omega (arith, x, y, z, q))
  one-top {other = other} (below m c u l e) (below n d v k g) q =
      let p : m ≡ n = forest.parent m n c d l k (sym e ∙ g) in
      one-top u (subst (λ z. Under s other z) (sym p) v) q

  -- below two children of one node
  pub two-children : (node c d x : ℕ) → c < s.children node → d < s.children node → c ≢ d → Under s (s.child node c) x
      → Under s (s.child node d) x → ⊥
  two-children node c d x l k ne u v
      = ne (forest.number node c d (one-top u v (forest.below node c l ∙ sym (forest.below node d k))))

  pub under-trans : {a b c : ℕ} → Under s a b → Under s b c → Under s a c
  under-trans {a = a} u (here e) = subst (Under s a) (sym e) u
  under-trans u (below m c v l e) = below m c (under-trans u v) l e

-- ---- the nodes of a machine

before-part : (ns : List PlanNode) (i j : ℕ) → i < j → i < length ns → children_in (take i ns) + (node_at ns i).children
    ≤ children_in (take j ns)
before-part [] i j h l = absurd (omega (arith, l))
before-part (n ∷ ns) i zero h l = absurd (omega (arith, h))
before-part (n ∷ ns) zero (suc j) h l = omega arith
before-part (n ∷ ns) (suc i) (suc j) h l = let ih
    = before-part ns i j (omega (arith, h)) (omega (arith, l)) in omega (arith, ih)

pub a_forest : (buffers : List Buffer) (ns : List PlanNode) (offset : ℕ → ℕ) → AreNodes ns
    → IsForest (placed buffers ns offset) (λ n. (node_at ns n).level)
a_forest buffers ns offset are = record {
  below = (layered buffers ns offset are).below;
  parent = λ m n c d l k e.
      let f = first-child ns m c are l in
      let g = first-child ns n d are k in
      let t = some-there ns m c l in
      let u = some-there ns n d k in
      by m n c d (nat_lt m n) refl (nat_lt n m) refl f g t u l k e;
  number = λ n c d e. omega (arith, e);
}
  where
    by : (m n c d : ℕ) → (v : Bool) → nat_lt m n ≡ v → (w : Bool) → nat_lt n m ≡ w → (node_at ns m).first_child ≡ 1
        + children_in (take m ns) → (node_at ns n).first_child ≡ 1 + children_in (take n ns)
        → m < length ns → n < length ns → c < (node_at ns m).children → d < (node_at ns n).children
        → (node_at ns m).first_child + c ≡ (node_at ns n).first_child + d → m ≡ n
    by m n c d true p w q f g t u l k e = let z
        = before-part ns m n (ltb-true m n p) t in absurd (omega (arith, z, f, g, l, e))
    by m n c d false p true q f g t u l k e = let z
        = before-part ns n m (ltb-true n m q) u in absurd (omega (arith, z, f, g, k, e))
    by m n c d false p false q f g t u l k e = let y = ltb-false m n p in let z = ltb-false n m q in omega (arith, y, z)
