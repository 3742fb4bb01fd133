-- Chains of scopes: their sums, and the scopes of one node that may be open together.
use Rattle.std.proofs.Common.{◌≡◌, ◌≢◌, ℕ, ◌+◌, ◌≤◌, max, Bool, true, false, List, [], ◌∷◌, ◌++◌, refl, sym, ap, subst}
use Rattle.std.proofs.Common.{◌∙◌, ◌⊎◌, inl, inr, arith}
use Rattle.std.specs.Prelude.{if◌then◌else◌, ◌==◌, ◌||◌, nat_le}
use Rattle.std.specs.List.{Contains, flat_map}
use Rattle.std.proofs.lemmas.List.{append-nil}
use Rattle.std.proofs.lemmas.Bool.{leb-true, leb-false}
use Rattle.sq_ir.specs.Tree as tree
use Rattle.sq_ir.specs.Tree.{Tree}
use Rattle.sq_ir.specs.Scopes.{Scope, MayBeOpen}
use Rattle.sq_ir.proofs.OpenScopes.{contains-first, contains-none}
use Rattle.sq_nests.specs.Nests.{End, Both, Open, Scopes, scopes_in}
use Rattle.sq_nests.specs.Stacks.{total, at_node, sum_at, IsChain, ends, left, right, opens, Stand, Stacked, stands_at}
use Rattle.sq_nests.specs.Stacks.{AreAside}

-- ---- sums

greater : (m n : ℕ) → (max m n ≡ m) ⊎ (max m n ≡ n)
greater m n = by (nat_le n m) refl
  where
    by : (v : Bool) → nat_le n m ≡ v → (max m n ≡ m) ⊎ (max m n ≡ n)
    by true e = inl (let z = leb-true n m e in omega (arith, z))
    by false e = inr (let z = leb-false n m e in omega (arith, z))

append_assoc : {A : Type 0} (xs ys zs : List A) → (xs ++ ys) ++ zs ≡ xs ++ (ys ++ zs)
append_assoc [] ys zs = refl
append_assoc (x ∷ xs) ys zs = ap (λ l. x ∷ l) (append_assoc xs ys zs)

pub total_append : (size : ℕ → ℕ) (xs ys : List ℕ) → total size (xs ++ ys) ≡ total size xs + total size ys
total_append size [] ys = omega arith
total_append size (x ∷ xs) ys = let ih = total_append size xs ys in omega (arith, ih)

module _ (size : ℕ → ℕ) (node : ℕ) where
  abbrev sum : Scopes → ℕ
  sum = sum_at (total size) node

  -- no chain is greater than the sum
  pub chain_fits : {x : Scopes} {bs : List ℕ} → IsChain node x bs → total size bs ≤ sum x
  chain_fits ends = omega arith
  chain_fits (left {a = a} {b = b} c) = let ih = chain_fits c in omega (arith, ih)
  chain_fits (right {a = a} {b = b} c) = let ih = chain_fits c in omega (arith, ih)
  chain_fits (opens {s = s} {a = a} {cs = cs} c) =
      let ih = chain_fits c in
      let e = total_append size (at_node node s) cs in
      omega (arith, ih, e)

  -- and one is as great
  pub greatest_chain : (x : Scopes) → (bs : List ℕ) × IsChain node x bs × (total size bs ≡ sum x)
  greatest_chain End = ([], ends, refl)
  greatest_chain (Both a b) = by (greatest_chain a) (greatest_chain b)
    where
      by : ((bs : List ℕ) × IsChain node a bs × (total size bs ≡ sum a))
          → ((bs : List ℕ) × IsChain node b bs × (total size bs ≡ sum b)) → (bs : List ℕ) × IsChain node (Both a b) bs
          × (total size bs ≡ max (sum a) (sum b))
      by (x, c, e) (y, d, f) = either (greater (sum a) (sum b))
        where
          either : (max (sum a) (sum b) ≡ sum a) ⊎ (max (sum a) (sum b) ≡ sum b) → (bs : List ℕ)
              × IsChain node (Both a b) bs × (total size bs ≡ max (sum a) (sum b))
          either (inl q) = (x, left c, e ∙ sym q)
          either (inr q) = (y, right d, f ∙ sym q)
  greatest_chain (Open s a) = let ih
      = greatest_chain a in (
        at_node node s ++ ih.0,
        opens ih.1,
        total_append size (at_node node s) ih.0 ∙ ap
            (λ k. total size (at_node node s) + k) ih.2,
      )

-- ---- stacks

module _ (offset size : ℕ → ℕ) where
  pub stand_append : (top : ℕ) (xs ys : List ℕ) → Stand offset size top xs → Stand offset size (top + total size xs) ys
      → Stand offset size top (xs ++ ys)
  stand_append top [] ys h k = let e : top + 0 ≡ top = omega arith in subst (λ t. Stand offset size t ys) e k
  stand_append top (x ∷ xs) ys h k =
      let e : top + (size x + total size xs) ≡ top + size x + total size xs = omega arith in
      (h.0, stand_append (top + size x) xs ys h.1 (subst (λ t. Stand offset size t ys) e k))

  module _ (node : ℕ) where
    pub chain_stands : {x : Scopes} {bs : List ℕ} (top : ℕ) → Stacked offset size node top x → IsChain node x bs
        → Stand offset size top bs
    chain_stands top h ends = tt
    chain_stands top h (left c) = chain_stands top h.0 c
    chain_stands top h (right c) = chain_stands top h.1 c
    chain_stands top h (opens {s = s} {cs = cs} c)
        = stand_append top (at_node node s) cs h.0 (chain_stands (top + total size (at_node node s)) h.1 c)

  -- where the buffers of a stack lie
  pub stand_below : (top : ℕ) (bs : List ℕ) (b : ℕ) → Stand offset size top bs → Contains bs b → (top ≤ offset b)
      × (offset b + size b ≤ top + total size bs)
  stand_below top [] b h c = absurd (contains-none b c)
  stand_below top (x ∷ xs) b h c = by (contains-first x xs b c) (stand_below (top + size x) xs b h.1)
    where
      by : (x ≡ b) ⊎ Contains xs b →
          (Contains xs b → (top + size x ≤ offset b) × (offset b + size b ≤ top + size x + total size xs))
          → (top ≤ offset b) × (offset b + size b ≤ top + (size x + total size xs))
      by (inl e) f = subst (λ z. (top ≤ offset z) × (offset z + size z ≤ top + (size x + total size xs))) e
          (let w = h.0 in (omega (arith, w), omega (arith, w)))
      by (inr i) f = let w = f i in (omega (arith, w.0), omega (arith, w.1))

  pub stand_apart : (top : ℕ) (bs : List ℕ) (b c : ℕ) → Stand offset size top bs → Contains bs b → Contains bs c → b ≢ c
      → (offset b + size b ≤ offset c) ⊎ (offset c + size c ≤ offset b)
  stand_apart top [] b c h i j ne = absurd (contains-none b i)
  stand_apart top (x ∷ xs) b c h i j ne
      = by (contains-first x xs b i) (contains-first x xs c j) (λ p q. stand_apart (top + size x) xs b c h.1 p q ne)
    where
      by : (x ≡ b) ⊎ Contains xs b → (x ≡ c) ⊎ Contains xs c
          → (Contains xs b → Contains xs c → (offset b + size b ≤ offset c) ⊎ (offset c + size c ≤ offset b))
          → (offset b + size b ≤ offset c) ⊎ (offset c + size c ≤ offset b)
      by (inl p) (inl q) f = absurd (ne (sym p ∙ q))
      by (inl p) (inr q) f = inl (subst (λ z. offset z + size z ≤ offset c) p
          (let w = stand_below (top + size x) xs c h.1 q in let v = h.0 in omega (arith, w.0, v)))
      by (inr p) (inl q) f = inr (subst (λ z. offset z + size z ≤ offset b) q
          (let w = stand_below (top + size x) xs b h.1 p in let v = h.0 in omega (arith, w.0, v)))
      by (inr p) (inr q) f = f p q

-- ---- the scopes of one node that may be open together are a chain

module _ (node : ℕ) where
  abbrev pub names : List Scope → List ℕ
  names l = flat_map (at_node node) l

  names_append : (xs ys : List Scope) → names (xs ++ ys) ≡ names xs ++ names ys
  names_append [] ys = refl
  names_append (x ∷ xs) ys = ap (λ l. at_node node x ++ l) (names_append xs ys)
      ∙ sym (append_assoc (at_node node x) (names xs) (names ys))

  module _ {E : Type 0} where
    none_names : (a : Tree E Scope) (l : List Scope) → stands_at node a ≡ false → MayBeOpen a l → names l ≡ []
    none_names tree.Skip l e h = ap names h
    none_names (tree.Act x) l e h = ap names h
    none_names (tree.Stuck x) l e h = ap names h
    none_names (tree.Seq a b) l e h = by (stands_at node a) (stands_at node b) e h (none_names a l) (none_names b l)
      where
        by : (u v : Bool) → (u || v) ≡ false → MayBeOpen a l ⊎ MayBeOpen b l
            → (u ≡ false → MayBeOpen a l → names l ≡ []) → (v ≡ false → MayBeOpen b l → names l ≡ []) → names l ≡ []
        by true v g i f k = absurd (let z = g in cc)
        by false true g i f k = absurd (let z = g in cc)
        by false false g (inl i) f k = f refl i
        by false false g (inr i) f k = k refl i
    none_names (tree.Par a b) l e h
        = by (stands_at node a) (stands_at node b) e (λ p. none_names a h.0 p h.2) (λ q. none_names b h.1 q h.3)
      where
        by : (u v : Bool) → (u || v) ≡ false → (u ≡ false → names h.0 ≡ []) → (v ≡ false → names h.1 ≡ []) → names l
            ≡ []
        by true v g f k = absurd (let z = g in cc)
        by false true g f k = absurd (let z = g in cc)
        by false false g f k = ap names h.4 ∙ names_append h.0 h.1 ∙ ap (λ z. z ++ names h.1) (f refl) ∙ k refl
    none_names (tree.Within s a) l e (inl h) = ap names h
    none_names (tree.Within s a) l e (inr h) = ap names h.2
        ∙ by (s.node == node) (stands_at node a) e (λ q. none_names a h.0 q h.1)
      where
        by : (u v : Bool) → (u || v) ≡ false → (v ≡ false → names h.0 ≡ []) → (if u then s.buffers else []) ++ names h.0
            ≡ []
        by true v g f = absurd (let z = g in cc)
        by false true g f = absurd (let z = g in cc)
        by false false g f = f refl

    pub open_chain : (a : Tree E Scope) (l : List Scope) → AreAside a → MayBeOpen a l
        → IsChain node (scopes_in a) (names l)
    open_chain tree.Skip l k h = subst (λ z. IsChain node End (names z)) (sym h) ends
    open_chain (tree.Act x) l k h = subst (λ z. IsChain node End (names z)) (sym h) ends
    open_chain (tree.Stuck x) l k h = subst (λ z. IsChain node End (names z)) (sym h) ends
    open_chain (tree.Seq a b) l k (inl h) = left (open_chain a l k.0 h)
    open_chain (tree.Seq a b) l k (inr h) = right (open_chain b l k.1 h)
    open_chain (tree.Par a b) l k h = by (stands_at node a) refl (open_chain a h.0 k.0 h.2) (open_chain b h.1 k.1 h.3)
      where
        together : names l ≡ names h.0 ++ names h.1
        together = ap names h.4 ∙ names_append h.0 h.1

        by : (u : Bool) → stands_at node a ≡ u → IsChain node (scopes_in a) (names h.0)
            → IsChain node (scopes_in b) (names h.1) → IsChain node (Both (scopes_in a) (scopes_in b)) (names l)
        by true p c d = left (subst (λ z. IsChain node (scopes_in a) z)
            (sym (together ∙ ap (λ z. names h.0 ++ z) (none_names b h.1 (k.2 node p) h.3) ∙ append-nil (names h.0))) c)
        by false p c d = right (subst (λ z. IsChain node (scopes_in b) z)
            (sym (together ∙ ap (λ z. z ++ names h.1) (none_names a h.0 p h.2))) d)
    open_chain (tree.Within s a) l k (inl h) = subst (λ z. IsChain node (Open s (scopes_in a)) (names z)) (sym h) ends
    open_chain (tree.Within s a) l k (inr h)
        = subst (λ z. IsChain node (Open s (scopes_in a)) (names z)) (sym h.2) (opens (open_chain a h.0 k h.1))
