-- Scopes may be open at once exactly where, in the list of what scopes name, the later one begins in the second order
-- before the earlier one ends.
use Rattle.std.proofs.Common.{◌≡◌, ◌≢◌, ℕ, suc, ◌+◌, ◌<◌, ◌≤◌, List, [], ◌∷◌, ◌++◌, length, refl, sym, ap, subst, ◌∙◌, ◌⊎◌, inl, inr, arith}
use Rattle.std.specs.List.{Contains}
use Rattle.sq_ir.specs.Tree.{Skip, Act, Stuck, Seq, Par, Within}
use Rattle.sq_ir.specs.Scopes.{Scope}
use Rattle.sq_ir.specs.Written.{Setting, PlanTree}
use Rattle.sq_ir.proofs.OpenScopes.{contains-first, contains-none}
use Rattle.sq_check_laws.specs.Flaws.{HasScope, AreTogether, Meet, Passes, LackRoom}
use Rattle.sq_rooms.specs.declared.named.Named.{Named}
use Rattle.sq_rooms.specs.Names.{Has, Before, weight, names_at, names, Over, MeetIn, PassIn, LackIn}

-- ---- lists

pub has-left : {X : Type 0} (xs ys : List X) (x : X) → Has xs x → Has (xs ++ ys) x
has-left [] ys x h = absurd h
has-left (z ∷ xs) ys x (inl e) = inl e
has-left (z ∷ xs) ys x (inr h) = inr (has-left xs ys x h)

pub has-right : {X : Type 0} (xs ys : List X) (x : X) → Has ys x → Has (xs ++ ys) x
has-right [] ys x h = h
has-right (z ∷ xs) ys x h = inr (has-right xs ys x h)

pub has-split : {X : Type 0} (xs ys : List X) (x : X) → Has (xs ++ ys) x → Has xs x ⊎ Has ys x
has-split [] ys x h = inr h
has-split (z ∷ xs) ys x (inl e) = inl (inl e)
has-split (z ∷ xs) ys x (inr h) = by (has-split xs ys x h)
  where
    by : Has xs x ⊎ Has ys x → Has (z ∷ xs) x ⊎ Has ys x
    by (inl k) = inl (inr k)
    by (inr k) = inr k

contains-has : {X : Type 0} (xs : List X) (x : X) → Contains xs x → Has xs x
contains-has [] x c = absurd (contains-none x c)
contains-has (y ∷ ys) x c = by (contains-first y ys x c) (contains-has ys x)
  where
    by : (y ≡ x) ⊎ Contains ys x → (Contains ys x → Has ys x) → Has (y ∷ ys) x
    by (inl e) f = inl e
    by (inr k) f = inr (f k)

has-contains : {X : Type 0} (xs : List X) (x : X) → Has xs x → Contains xs x
has-contains [] x h = absurd h
has-contains (y ∷ ys) x (inl e) = (0, omega arith, e)
has-contains (y ∷ ys) x (inr h) = let c = has-contains ys x h in (suc c.0, omega (arith, c.1), c.2)

before-left : (xs ys : List Named) (x y : Named) → Before xs x y → Before (xs ++ ys) x y
before-left [] ys x y h = absurd h
before-left (z ∷ xs) ys x y (inl h) = inl (h.0, has-left xs ys y h.1)
before-left (z ∷ xs) ys x y (inr h) = inr (before-left xs ys x y h)

before-right : (xs ys : List Named) (x y : Named) → Before ys x y → Before (xs ++ ys) x y
before-right [] ys x y h = h
before-right (z ∷ xs) ys x y h = inr (before-right xs ys x y h)

before-both : (xs ys : List Named) (x y : Named) → Has xs x → Has ys y → Before (xs ++ ys) x y
before-both [] ys x y h k = absurd h
before-both (z ∷ xs) ys x y (inl e) k = inl (e, has-right xs ys y k)
before-both (z ∷ xs) ys x y (inr h) k = inr (before-both xs ys x y h k)

before-split : (xs ys : List Named) (x y : Named) → Before (xs ++ ys) x y → Before xs x y ⊎ (Before ys x y ⊎ (Has xs x × Has ys y))
before-split [] ys x y h = inr (inl h)
before-split (z ∷ xs) ys x y (inl h) = by (has-split xs ys y h.1)
  where
    by : Has xs y ⊎ Has ys y → Before (z ∷ xs) x y ⊎ (Before ys x y ⊎ (Has (z ∷ xs) x × Has ys y))
    by (inl k) = inl (inl (h.0, k))
    by (inr k) = inr (inr (inl h.0, k))
before-split (z ∷ xs) ys x y (inr h) = by (before-split xs ys x y h)
  where
    by : Before xs x y ⊎ (Before ys x y ⊎ (Has xs x × Has ys y)) → Before (z ∷ xs) x y ⊎ (Before ys x y ⊎ (Has (z ∷ xs) x × Has ys y))
    by (inl k) = inl (inr k)
    by (inr (inl k)) = inr (inl k)
    by (inr (inr k)) = inr (inr (inr k.0, k.1))

pub before-has : (xs : List Named) (x y : Named) → Before xs x y → Has xs x × Has xs y
before-has [] x y h = absurd h
before-has (z ∷ xs) x y (inl h) = (inl h.0, inr h.1)
before-has (z ∷ xs) x y (inr h) = let k = before-has xs x y h in (inr k.0, inr k.1)

-- ---- what one scope names

abbrev name_of : (node first end : ℕ) → ℕ → Named
name_of node first end b = record { node = node; buffer = b; first = first; end = end }

module _ (node first end : ℕ) where
  at-there : (bs : List ℕ) (b : ℕ) → Has bs b → Has (names_at node first end bs) (name_of node first end b)
  at-there [] b h = absurd h
  at-there (k ∷ bs) b (inl e) = inl (ap (name_of node first end) e)
  at-there (k ∷ bs) b (inr h) = inr (at-there bs b h)

  pub record IsAt (bs : List ℕ) (x : Named) : Type 0 where
    pub node_is : x.node ≡ node
    pub first_is : x.first ≡ first
    pub end_is : x.end ≡ end
    pub some : 0 < length bs
    pub names : Has bs x.buffer

  is-at : (bs : List ℕ) (x : Named) → Has (names_at node first end bs) x → IsAt bs x
  is-at [] x h = absurd h
  is-at (k ∷ bs) x (inl e) = record {
    node_is = ap (λ (z : Named). z.node) (sym e);
    first_is = ap (λ (z : Named). z.first) (sym e);
    end_is = ap (λ (z : Named). z.end) (sym e);
    some = omega arith;
    names = inl (ap (λ (z : Named). z.buffer) e);
  }
  is-at (k ∷ bs) x (inr h) = let a = is-at bs x h in record { node_is = a.node_is; first_is = a.first_is; end_is = a.end_is; some = omega arith; names = inr a.names }

  -- of two buffers one stands before the other
  at-both : (bs : List ℕ) (b c : ℕ) → Has bs b → Has bs c → b ≢ c
      → Before (names_at node first end bs) (name_of node first end b) (name_of node first end c) ⊎ Before (names_at node first end bs) (name_of node first end c) (name_of node first end b)
  at-both [] b c h k n = absurd h
  at-both (z ∷ bs) b c (inl p) (inl q) n = absurd (n (sym p ∙ q))
  at-both (z ∷ bs) b c (inl p) (inr k) n = inl (inl (ap (name_of node first end) p, at-there bs c k))
  at-both (z ∷ bs) b c (inr h) (inl q) n = inr (inl (ap (name_of node first end) q, at-there bs b h))
  at-both (z ∷ bs) b c (inr h) (inr k) n = by (at-both bs b c h k n)
    where
      by : Before (names_at node first end bs) (name_of node first end b) (name_of node first end c) ⊎ Before (names_at node first end bs) (name_of node first end c) (name_of node first end b) → Before (names_at node first end (z ∷ bs)) (name_of node first end b) (name_of node first end c) ⊎ Before (names_at node first end (z ∷ bs)) (name_of node first end c) (name_of node first end b)
      by (inl l) = inl (inr l)
      by (inr l) = inr (inr l)

-- ---- numbers

pub record Within_range (n m : ℕ) (x : Named) : Type 0 where
  pub from : n ≤ x.first
  pub some : x.first < x.end
  pub to : x.end ≤ m

wider : (n m k l : ℕ) (x : Named) → k ≤ n → m ≤ l → Within_range n m x → Within_range k l x
wider n m k l x p q r = record { from = omega (arith, p, r.from); some = r.some; to = omega (arith, q, r.to) }

in-range : (n : ℕ) (t : PlanTree) (x : Named) → Has (names n t) x → Within_range n (n + weight t) x
in-range n Skip x h = absurd h
in-range n (Act e) x h = absurd h
in-range n (Stuck e) x h = absurd h
in-range n (Seq a b) x h = by (has-split (names n a) (names (n + weight a) b) x h) (in-range n a x) (in-range (n + weight a) b x)
  where
    by : Has (names n a) x ⊎ Has (names (n + weight a) b) x → (Has (names n a) x → Within_range n (n + weight a) x) → (Has (names (n + weight a) b) x → Within_range (n + weight a) (n + weight a + weight b) x) → Within_range n (n + (weight a + weight b)) x
    by (inl k) f g = wider n (n + weight a) n (n + (weight a + weight b)) x (omega arith) (omega arith) (f k)
    by (inr k) f g = wider (n + weight a) (n + weight a + weight b) n (n + (weight a + weight b)) x (omega arith) (omega arith) (g k)
in-range n (Par a b) x h = by (has-split (names (n + weight b) a) (names n b) x h) (in-range (n + weight b) a x) (in-range n b x)
  where
    by : Has (names (n + weight b) a) x ⊎ Has (names n b) x → (Has (names (n + weight b) a) x → Within_range (n + weight b) (n + weight b + weight a) x) → (Has (names n b) x → Within_range n (n + weight b) x) → Within_range n (n + (weight a + weight b)) x
    by (inl k) f g = wider (n + weight b) (n + weight b + weight a) n (n + (weight a + weight b)) x (omega arith) (omega arith) (f k)
    by (inr k) f g = wider n (n + weight b) n (n + (weight a + weight b)) x (omega arith) (omega arith) (g k)
in-range n (Within s a) x h = by (has-split (names n a) (names_at s.node n (n + weight a + length s.buffers) s.buffers) x h) (in-range n a x)
  where
    by : Has (names n a) x ⊎ Has (names_at s.node n (n + weight a + length s.buffers) s.buffers) x → (Has (names n a) x → Within_range n (n + weight a) x) → Within_range n (n + (weight a + length s.buffers)) x
    by (inl k) f = wider n (n + weight a) n (n + (weight a + length s.buffers)) x (omega arith) (omega arith) (f k)
    by (inr k) f =
        let i = is-at s.node n (n + weight a + length s.buffers) s.buffers x k in
        let p = i.first_is in
        let q = i.end_is in
        let l = i.some in
        record { from = omega (arith, p); some = omega (arith, p, q, l); to = omega (arith, q) }

-- ---- scopes and names

-- a name of this buffer at this node
pub record IsNamed (xs : List Named) (node b : ℕ) : Type 0 where
  pub name : Named
  pub there : Has xs name
  pub at : name.node ≡ node
  pub is : name.buffer ≡ b

named-left : (xs ys : List Named) (node b : ℕ) → IsNamed xs node b → IsNamed (xs ++ ys) node b
named-left xs ys node b i = record { name = i.name; there = has-left xs ys i.name i.there; at = i.at; is = i.is }

named-right : (xs ys : List Named) (node b : ℕ) → IsNamed ys node b → IsNamed (xs ++ ys) node b
named-right xs ys node b i = record { name = i.name; there = has-right xs ys i.name i.there; at = i.at; is = i.is }

scope-named : (n : ℕ) (t : PlanTree) (x : Scope) (b : ℕ) → HasScope t x → Has x.buffers b → IsNamed (names n t) x.node b
scope-named n Skip x b h k = absurd h
scope-named n (Act e) x b h k = absurd h
scope-named n (Stuck e) x b h k = absurd h
scope-named n (Seq a c) x b (inl h) k = named-left (names n a) (names (n + weight a) c) x.node b (scope-named n a x b h k)
scope-named n (Seq a c) x b (inr h) k = named-right (names n a) (names (n + weight a) c) x.node b (scope-named (n + weight a) c x b h k)
scope-named n (Par a c) x b (inl h) k = named-left (names (n + weight c) a) (names n c) x.node b (scope-named (n + weight c) a x b h k)
scope-named n (Par a c) x b (inr h) k = named-right (names (n + weight c) a) (names n c) x.node b (scope-named n c x b h k)
scope-named n (Within s a) x b (inl e) k =
    let end = n + weight a + length s.buffers in
    let there = at-there s.node n end s.buffers b (subst (λ (z : Scope). Has z.buffers b) (sym e) k) in
    record {
      name = name_of s.node n end b;
      there = has-right (names n a) (names_at s.node n end s.buffers) (name_of s.node n end b) there;
      at = ap (λ (z : Scope). z.node) e;
      is = refl;
    }
scope-named n (Within s a) x b (inr h) k = named-left (names n a) (names_at s.node n (n + weight a + length s.buffers) s.buffers) x.node b (scope-named n a x b h k)

-- the scope of a name
pub record IsOfScope (t : PlanTree) (x : Named) : Type 0 where
  pub scope : Scope
  pub there : HasScope t scope
  pub at : scope.node ≡ x.node
  pub names : Has scope.buffers x.buffer

name-scope : (n : ℕ) (t : PlanTree) (x : Named) → Has (names n t) x → IsOfScope t x
name-scope n Skip x h = absurd h
name-scope n (Act e) x h = absurd h
name-scope n (Stuck e) x h = absurd h
name-scope n (Seq a b) x h = by (has-split (names n a) (names (n + weight a) b) x h) (name-scope n a x) (name-scope (n + weight a) b x)
  where
    by : Has (names n a) x ⊎ Has (names (n + weight a) b) x → (Has (names n a) x → IsOfScope a x) → (Has (names (n + weight a) b) x → IsOfScope b x) → IsOfScope (Seq a b) x
    by (inl k) f g = let i = f k in record { scope = i.scope; there = inl i.there; at = i.at; names = i.names }
    by (inr k) f g = let i = g k in record { scope = i.scope; there = inr i.there; at = i.at; names = i.names }
name-scope n (Par a b) x h = by (has-split (names (n + weight b) a) (names n b) x h) (name-scope (n + weight b) a x) (name-scope n b x)
  where
    by : Has (names (n + weight b) a) x ⊎ Has (names n b) x → (Has (names (n + weight b) a) x → IsOfScope a x) → (Has (names n b) x → IsOfScope b x) → IsOfScope (Par a b) x
    by (inl k) f g = let i = f k in record { scope = i.scope; there = inl i.there; at = i.at; names = i.names }
    by (inr k) f g = let i = g k in record { scope = i.scope; there = inr i.there; at = i.at; names = i.names }
name-scope n (Within s a) x h = by (has-split (names n a) (names_at s.node n (n + weight a + length s.buffers) s.buffers) x h) (name-scope n a x)
  where
    by : Has (names n a) x ⊎ Has (names_at s.node n (n + weight a + length s.buffers) s.buffers) x → (Has (names n a) x → IsOfScope a x) → IsOfScope (Within s a) x
    by (inl k) f = let i = f k in record { scope = i.scope; there = inr i.there; at = i.at; names = i.names }
    by (inr k) f = let i = is-at s.node n (n + weight a + length s.buffers) s.buffers x k in record { scope = s; there = inl refl; at = sym i.node_is; names = i.names }

-- ---- from scopes to names

pub record AreJoined (xs : List Named) (p b q c : ℕ) : Type 0 where
  pub one : Named
  pub other : Named
  pub together : Over xs one other ⊎ Over xs other one
  pub one_at : one.node ≡ p
  pub other_at : other.node ≡ q
  pub one_is : one.buffer ≡ b
  pub other_is : other.buffer ≡ c

joined-sym : (xs : List Named) (p b q c : ℕ) → AreJoined xs p b q c → AreJoined xs q c p b
joined-sym xs p b q c j = record { one = j.other; other = j.one; together = by j.together; one_at = j.other_at; other_at = j.one_at; one_is = j.other_is; other_is = j.one_is }
  where
    by : Over xs j.one j.other ⊎ Over xs j.other j.one → Over xs j.other j.one ⊎ Over xs j.one j.other
    by (inl o) = inr o
    by (inr o) = inl o

joined-left : (xs ys : List Named) (p b q c : ℕ) → AreJoined xs p b q c → AreJoined (xs ++ ys) p b q c
joined-left xs ys p b q c j = record { one = j.one; other = j.other; together = by j.together; one_at = j.one_at; other_at = j.other_at; one_is = j.one_is; other_is = j.other_is }
  where
    by : Over xs j.one j.other ⊎ Over xs j.other j.one → Over (xs ++ ys) j.one j.other ⊎ Over (xs ++ ys) j.other j.one
    by (inl o) = inl (before-left xs ys j.one j.other o.0, o.1)
    by (inr o) = inr (before-left xs ys j.other j.one o.0, o.1)

joined-right : (xs ys : List Named) (p b q c : ℕ) → AreJoined ys p b q c → AreJoined (xs ++ ys) p b q c
joined-right xs ys p b q c j = record { one = j.one; other = j.other; together = by j.together; one_at = j.one_at; other_at = j.other_at; one_is = j.one_is; other_is = j.other_is }
  where
    by : Over ys j.one j.other ⊎ Over ys j.other j.one → Over (xs ++ ys) j.one j.other ⊎ Over (xs ++ ys) j.other j.one
    by (inl o) = inl (before-right xs ys j.one j.other o.0, o.1)
    by (inr o) = inr (before-right xs ys j.other j.one o.0, o.1)

-- a name of the one list and one of the other, which begins before the first one ends
joined-both : (xs ys : List Named) (p b q c : ℕ) → (i : IsNamed xs p b) → (k : IsNamed ys q c) → k.name.first < i.name.end → AreJoined (xs ++ ys) p b q c
joined-both xs ys p b q c i k l =
    record {
      one = i.name;
      other = k.name;
      together = inl (before-both xs ys i.name k.name i.there k.there, l);
      one_at = i.at;
      other_at = k.at;
      one_is = i.is;
      other_is = k.is;
    }

-- the parts of a `Par`
joined-par : (n : ℕ) (t u : PlanTree) (p b q c : ℕ) → IsNamed (names (n + weight u) t) p b → IsNamed (names n u) q c → AreJoined (names n (Par t u)) p b q c
joined-par n t u p b q c i k =
    let r = in-range (n + weight u) t i.name i.there in
    let v = in-range n u k.name k.there in
    joined-both (names (n + weight u) t) (names n u) p b q c i k (omega (arith, r.from, r.some, v.some, v.to))

-- what stands in a scope, and the scope
joined-scope : (n : ℕ) (s : Scope) (t : PlanTree) (p b : ℕ) (y : Scope) (c : ℕ) → IsNamed (names n t) p b → s ≡ y → Has y.buffers c → AreJoined (names n (Within s t)) p b y.node c
joined-scope n s t p b y c i e h =
    let end = n + weight t + length s.buffers in
    let r = in-range n t i.name i.there in
    let there = at-there s.node n end s.buffers c (subst (λ (z : Scope). Has z.buffers c) (sym e) h) in
    let k : IsNamed (names_at s.node n end s.buffers) y.node c = record { name = name_of s.node n end c; there = there; at = ap (λ (z : Scope). z.node) e; is = refl } in
    joined-both (names n t) (names_at s.node n end s.buffers) p b y.node c i k (omega (arith, r.from, r.some))

-- two buffers of one scope
joined-one : (n : ℕ) (s : Scope) (t : PlanTree) (x y : Scope) (b c : ℕ) → s ≡ x → s ≡ y → Has x.buffers b → Has y.buffers c → b ≢ c → AreJoined (names n (Within s t)) x.node b y.node c
joined-one n s t x y b c p q h k differ =
    let end = n + weight t + length s.buffers in
    let hb = subst (λ (z : Scope). Has z.buffers b) (sym p) h in
    let hc = subst (λ (z : Scope). Has z.buffers c) (sym q) k in
    let i = is-at s.node n end s.buffers (name_of s.node n end b) (at-there s.node n end s.buffers b hb) in
    let l : n < end = omega (arith, i.some) in
    joined-right (names n t) (names_at s.node n end s.buffers) x.node b y.node c (record {
      one = name_of s.node n end b;
      other = name_of s.node n end c;
      together = by l (at-both s.node n end s.buffers b c hb hc differ);
      one_at = ap (λ (z : Scope). z.node) p;
      other_at = ap (λ (z : Scope). z.node) q;
      one_is = refl;
      other_is = refl;
    })
  where
    by : n < n + weight t + length s.buffers → Before (names_at s.node n (n + weight t + length s.buffers) s.buffers) (name_of s.node n (n + weight t + length s.buffers) b) (name_of s.node n (n + weight t + length s.buffers) c) ⊎ Before (names_at s.node n (n + weight t + length s.buffers) s.buffers) (name_of s.node n (n + weight t + length s.buffers) c) (name_of s.node n (n + weight t + length s.buffers) b)
        → Over (names_at s.node n (n + weight t + length s.buffers) s.buffers) (name_of s.node n (n + weight t + length s.buffers) b) (name_of s.node n (n + weight t + length s.buffers) c) ⊎ Over (names_at s.node n (n + weight t + length s.buffers) s.buffers) (name_of s.node n (n + weight t + length s.buffers) c) (name_of s.node n (n + weight t + length s.buffers) b)
    by l (inl o) = inl (o, l)
    by l (inr o) = inr (o, l)

together-joined : (n : ℕ) (t : PlanTree) (x y : Scope) (b c : ℕ) → AreTogether t x y → Has x.buffers b → Has y.buffers c → b ≢ c → AreJoined (names n t) x.node b y.node c
together-joined n Skip x y b c h i k d = absurd h
together-joined n (Act e) x y b c h i k d = absurd h
together-joined n (Stuck e) x y b c h i k d = absurd h
together-joined n (Seq t u) x y b c (inl h) i k d = joined-left (names n t) (names (n + weight t) u) x.node b y.node c (together-joined n t x y b c h i k d)
together-joined n (Seq t u) x y b c (inr h) i k d = joined-right (names n t) (names (n + weight t) u) x.node b y.node c (together-joined (n + weight t) u x y b c h i k d)
together-joined n (Par t u) x y b c (inl (inl h)) i k d = joined-left (names (n + weight u) t) (names n u) x.node b y.node c (together-joined (n + weight u) t x y b c h i k d)
together-joined n (Par t u) x y b c (inl (inr h)) i k d = joined-right (names (n + weight u) t) (names n u) x.node b y.node c (together-joined n u x y b c h i k d)
together-joined n (Par t u) x y b c (inr (inl h)) i k d = joined-par n t u x.node b y.node c (scope-named (n + weight u) t x b h.0 i) (scope-named n u y c h.1 k)
together-joined n (Par t u) x y b c (inr (inr h)) i k d =
    joined-sym (names n (Par t u)) y.node c x.node b (joined-par n t u y.node c x.node b (scope-named (n + weight u) t y c h.1 k) (scope-named n u x b h.0 i))
together-joined n (Within s t) x y b c (inl h) i k d = joined-one n s t x y b c h.0 h.1 i k d
together-joined n (Within s t) x y b c (inr (inl h)) i k d =
    joined-sym (names n (Within s t)) y.node c x.node b (joined-scope n s t y.node c x b (scope-named n t y c h.1 k) h.0 i)
together-joined n (Within s t) x y b c (inr (inr (inl h))) i k d = joined-scope n s t x.node b y c (scope-named n t x b h.0 i) h.1 k
together-joined n (Within s t) x y b c (inr (inr (inr h))) i k d =
    joined-left (names n t) (names_at s.node n (n + weight t + length s.buffers) s.buffers) x.node b y.node c (together-joined n t x y b c h i k d)

-- ---- from names to scopes

pub record AreOfScopes (t : PlanTree) (x y : Named) : Type 0 where
  pub one : Scope
  pub other : Scope
  pub together : AreTogether t one other
  pub one_at : one.node ≡ x.node
  pub other_at : other.node ≡ y.node
  pub one_names : Has one.buffers x.buffer
  pub other_names : Has other.buffers y.buffer

abbrev scopes_with : (t : PlanTree) (x y : Named) (one other : Scope) → AreTogether t one other → one.node ≡ x.node → other.node ≡ y.node → Has one.buffers x.buffer → Has other.buffers y.buffer → AreOfScopes t x y
scopes_with t x y one other h p q i k = record { one = one; other = other; together = h; one_at = p; other_at = q; one_names = i; other_names = k }

over-scopes : (n : ℕ) (t : PlanTree) (x y : Named) → Before (names n t) x y → y.first < x.end → AreOfScopes t x y
over-scopes n Skip x y h l = absurd h
over-scopes n (Act e) x y h l = absurd h
over-scopes n (Stuck e) x y h l = absurd h
over-scopes n (Seq a b) x y h l = by (before-split (names n a) (names (n + weight a) b) x y h) (over-scopes n a x y) (over-scopes (n + weight a) b x y)
  where
    by : Before (names n a) x y ⊎ (Before (names (n + weight a) b) x y ⊎ (Has (names n a) x × Has (names (n + weight a) b) y)) → (Before (names n a) x y → y.first < x.end → AreOfScopes a x y) → (Before (names (n + weight a) b) x y → y.first < x.end → AreOfScopes b x y) → AreOfScopes (Seq a b) x y
    by (inl k) f g = let o = f k l in scopes_with (Seq a b) x y o.one o.other (inl o.together) o.one_at o.other_at o.one_names o.other_names
    by (inr (inl k)) f g = let o = g k l in scopes_with (Seq a b) x y o.one o.other (inr o.together) o.one_at o.other_at o.one_names o.other_names
    by (inr (inr k)) f g =
        let r = in-range n a x k.0 in
        let v = in-range (n + weight a) b y k.1 in
        absurd (omega (arith, l, r.to, v.from))
over-scopes n (Par a b) x y h l = by (before-split (names (n + weight b) a) (names n b) x y h) (over-scopes (n + weight b) a x y) (over-scopes n b x y)
  where
    by : Before (names (n + weight b) a) x y ⊎ (Before (names n b) x y ⊎ (Has (names (n + weight b) a) x × Has (names n b) y)) → (Before (names (n + weight b) a) x y → y.first < x.end → AreOfScopes a x y) → (Before (names n b) x y → y.first < x.end → AreOfScopes b x y) → AreOfScopes (Par a b) x y
    by (inl k) f g = let o = f k l in scopes_with (Par a b) x y o.one o.other (inl (inl o.together)) o.one_at o.other_at o.one_names o.other_names
    by (inr (inl k)) f g = let o = g k l in scopes_with (Par a b) x y o.one o.other (inl (inr o.together)) o.one_at o.other_at o.one_names o.other_names
    by (inr (inr k)) f g =
        let o = name-scope (n + weight b) a x k.0 in
        let p = name-scope n b y k.1 in
        scopes_with (Par a b) x y o.scope p.scope (inr (inl (o.there, p.there))) o.at p.at o.names p.names
over-scopes n (Within s a) x y h l = by (before-split (names n a) (names_at s.node n (n + weight a + length s.buffers) s.buffers) x y h) (over-scopes n a x y)
  where
    by : Before (names n a) x y ⊎ (Before (names_at s.node n (n + weight a + length s.buffers) s.buffers) x y ⊎ (Has (names n a) x × Has (names_at s.node n (n + weight a + length s.buffers) s.buffers) y)) → (Before (names n a) x y → y.first < x.end → AreOfScopes a x y) → AreOfScopes (Within s a) x y
    by (inl k) f = let o = f k l in scopes_with (Within s a) x y o.one o.other (inr (inr (inr o.together))) o.one_at o.other_at o.one_names o.other_names
    by (inr (inl k)) f =
        let w = before-has (names_at s.node n (n + weight a + length s.buffers) s.buffers) x y k in
        let o = is-at s.node n (n + weight a + length s.buffers) s.buffers x w.0 in
        let p = is-at s.node n (n + weight a + length s.buffers) s.buffers y w.1 in
        scopes_with (Within s a) x y s s (inl (refl, refl)) (sym o.node_is) (sym p.node_is) o.names p.names
    by (inr (inr k)) f =
        let o = name-scope n a x k.0 in
        let p = is-at s.node n (n + weight a + length s.buffers) s.buffers y k.1 in
        scopes_with (Within s a) x y o.scope s (inr (inr (inl (o.there, refl)))) o.at (sym p.node_is) o.names p.names

together-sym : (t : PlanTree) (x y : Scope) → AreTogether t x y → AreTogether t y x
together-sym Skip x y h = h
together-sym (Act e) x y h = h
together-sym (Stuck e) x y h = h
together-sym (Seq a b) x y (inl h) = inl (together-sym a x y h)
together-sym (Seq a b) x y (inr h) = inr (together-sym b x y h)
together-sym (Par a b) x y (inl (inl h)) = inl (inl (together-sym a x y h))
together-sym (Par a b) x y (inl (inr h)) = inl (inr (together-sym b x y h))
together-sym (Par a b) x y (inr (inl h)) = inr (inr (h.1, h.0))
together-sym (Par a b) x y (inr (inr h)) = inr (inl (h.1, h.0))
together-sym (Within s a) x y (inl h) = inl (h.1, h.0)
together-sym (Within s a) x y (inr (inl h)) = inr (inr (inl (h.1, h.0)))
together-sym (Within s a) x y (inr (inr (inl h))) = inr (inl (h.1, h.0))
together-sym (Within s a) x y (inr (inr (inr h))) = inr (inr (inr (together-sym a x y h)))

-- ---- room

less-differ : (b c : ℕ) → b < c → b ≢ c
less-differ b c l e = absurd (omega (arith, l, e))

module _ (s : Setting) (n : ℕ) (t : PlanTree) (node b c : ℕ) where
  meet-in : b < c → Meet s t node b c → MeetIn s (names n t) node b c
  meet-in l m =
      let j = together-joined n t m.one m.other b c m.together (contains-has m.one.buffers b m.one_names) (contains-has m.other.buffers c m.other_names) (less-differ b c l) in
      record {
        one = j.one;
        other = j.other;
        together = j.together;
        one_at = j.one_at ∙ m.one_at;
        other_at = j.other_at ∙ m.other_at;
        one_is = j.one_is;
        other_is = j.other_is;
        byte = m.byte;
        of_one = m.of_one;
        of_other = m.of_other;
      }

  meet-from : MeetIn s (names n t) node b c → Meet s t node b c
  meet-from m = by m.together
    where
      with_scopes : (one other : Scope) → AreTogether t one other → one.node ≡ m.one.node → other.node ≡ m.other.node → Has one.buffers m.one.buffer → Has other.buffers m.other.buffer → Meet s t node b c
      with_scopes one other h p q i k = record {
        one = one;
        other = other;
        together = h;
        one_at = p ∙ m.one_at;
        other_at = q ∙ m.other_at;
        one_names = has-contains one.buffers b (subst (Has one.buffers) m.one_is i);
        other_names = has-contains other.buffers c (subst (Has other.buffers) m.other_is k);
        byte = m.byte;
        of_one = m.of_one;
        of_other = m.of_other;
      }

      by : Over (names n t) m.one m.other ⊎ Over (names n t) m.other m.one → Meet s t node b c
      by (inl o) = let a = over-scopes n t m.one m.other o.0 o.1 in with_scopes a.one a.other a.together a.one_at a.other_at a.one_names a.other_names
      by (inr o) =
          let a = over-scopes n t m.other m.one o.0 o.1 in
          with_scopes a.other a.one (together-sym t a.one a.other a.together) a.other_at a.one_at a.other_names a.one_names

  pass-in : Passes s t node c → PassIn s (names n t) node c
  pass-in m =
      let i = scope-named n t m.scope c m.there (contains-has m.scope.buffers c m.names) in
      record { name = i.name; there = i.there; at = i.at ∙ m.at; is = i.is; past = m.past }

  pass-from : PassIn s (names n t) node c → Passes s t node c
  pass-from m =
      let i = name-scope n t m.name m.there in
      record {
        scope = i.scope;
        there = i.there;
        at = i.at ∙ m.at;
        names = has-contains i.scope.buffers c (subst (Has i.scope.buffers) m.is i.names);
        past = m.past;
      }

  -- what lacks room lacks it in the list
  pub lack-in : LackRoom s t node b c → LackIn s (names n t) node b c
  lack-in (inl h) = inl (h.0, meet-in h.0 h.1)
  lack-in (inr h) = inr (h.0, pass-in h.1)

  pub lack-from : LackIn s (names n t) node b c → LackRoom s t node b c
  lack-from (inl h) = inl (h.0, meet-from h.1)
  lack-from (inr h) = inr (h.0, pass-from h.1)
