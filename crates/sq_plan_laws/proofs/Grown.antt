-- The scopes round an event of a part are round it in the whole, with those round the part.
use Rattle.std.proofs.Common.{◌≡◌, ℕ, zero, suc, ◌+◌, ◌<◌, Bool, true, false, ◌||◌, List, [], ◌∷◌, ◌++◌, refl, sym}
use Rattle.std.proofs.Common.{ap, ◌∙◌, subst, arith, inl, inr}
use Rattle.std.specs.Prelude.{if◌then◌else◌, ◌==◌}
use Rattle.std.specs.List.{Contains}
use Rattle.std.proofs.lemmas.Bool.Decides.{nat_tests}
use Rattle.sq_ir.specs.Tree.{Tree, Skip, Act, Stuck, Seq, Par, Within, is_done, seq, par, within}
use Rattle.sq_ir.specs.Scopes.{Scope}
use Rattle.sq_ir.specs.Written.{PlanTree, seq_of, par_of, scoped}
use Rattle.sq_nests.specs.Stacks.{stands_at, AreAside}
use Rattle.sq_plan_laws.specs.Around.{IsAround}

-- where there is an event, something is left
pub left_over : {E S : Type 0} (t : Tree E S) (l : List S) → IsAround t l → is_done t ≡ false
left_over Skip l h = absurd h
left_over (Act e) l h = refl
left_over (Stuck e) l h = refl
left_over (Seq a b) l (inl h) = ap (λ v. if v then is_done b else false) (left_over a l h)
left_over (Seq a b) l (inr h) = go (is_done a) (left_over b l h)
  where
    go : (v : Bool) → is_done b ≡ false → (if v then is_done b else false) ≡ false
    go true e = e
    go false e = refl
left_over (Par a b) l (inl h) = ap (λ v. if v then is_done b else false) (left_over a l h)
left_over (Par a b) l (inr h) = go (is_done a) (left_over b l h)
  where
    go : (v : Bool) → is_done b ≡ false → (if v then is_done b else false) ≡ false
    go true e = e
    go false e = refl
left_over (Within s a) l h = left_over a h.0 h.1

module _ {E S : Type 0} where
  pub seq_first : (a b : Tree E S) (l : List S) → IsAround a l → IsAround (seq a b) l
  seq_first a b l h = go (is_done b)
    where
      whole : (v : Bool) → IsAround (if v then a else Seq a b) l
      whole true = h
      whole false = inl h

      go : (v : Bool) → IsAround (seq a b) l
      go v = subst (λ u. IsAround (if u then b else (if is_done b then a else Seq a b)) l) (sym (left_over a l h))
          (whole (is_done b))

  pub seq_next : (a b : Tree E S) (l : List S) → IsAround b l → IsAround (seq a b) l
  seq_next a b l h = go (is_done a)
    where
      go : (v : Bool) → IsAround (if v then b else (if is_done b then a else Seq a b)) l
      go true = h
      go false = subst (λ u. IsAround (if u then a else Seq a b) l) (sym (left_over b l h)) (inr h)

  pub par_left : (a b : Tree E S) (l : List S) → IsAround a l → IsAround (par a b) l
  par_left a b l h = subst (λ u. IsAround (if u then b else (if is_done b then a else Par a b)) l)
      (sym (left_over a l h)) (whole (is_done b))
    where
      whole : (v : Bool) → IsAround (if v then a else Par a b) l
      whole true = h
      whole false = inl h

  pub par_right : (a b : Tree E S) (l : List S) → IsAround b l → IsAround (par a b) l
  par_right a b l h = go (is_done a)
    where
      go : (v : Bool) → IsAround (if v then b else (if is_done b then a else Par a b)) l
      go true = h
      go false = subst (λ u. IsAround (if u then a else Par a b) l) (sym (left_over b l h)) (inr h)

  pub in_scope : (s : S) (a : Tree E S) (l : List S) → IsAround a l → IsAround (within s a) (s ∷ l)
  in_scope s a l h = subst (λ u. IsAround (if u then Skip else Within s a) (s ∷ l)) (sym (left_over a l h)) (l, h, refl)

module _ {E : Type 0} where
  -- ---- beside one another, where something is left

  abbrev pub Aside : Tree E Scope → Type 0
  Aside t = is_done t ≡ false → AreAside t

  abbrev chosen : Bool → Bool → Tree E Scope → Tree E Scope → Tree E Scope → Tree E Scope
  chosen u v a b whole = if u then b else (if v then a else whole)

  pub aside_first : (a b : Tree E Scope) → Aside (seq a b) → Aside a
  aside_first a b h d = go (is_done b) (sub (h left_))
    where
      is : seq a b ≡ (if is_done b then a else Seq a b)
      is = ap (λ u. chosen u (is_done b) a b (Seq a b)) d

      part : (v : Bool) → is_done (if v then a else Seq a b) ≡ false
      part true = d
      part false = ap (λ u. if u then is_done b else false) d

      left_ : is_done (seq a b) ≡ false
      left_ = ap is_done is ∙ part (is_done b)

      sub : AreAside (seq a b) → AreAside (if is_done b then a else Seq a b)
      sub x = subst AreAside is x

      go : (v : Bool) → AreAside (if v then a else Seq a b) → AreAside a
      go true x = x
      go false x = x.0

  pub aside_next : (a b : Tree E Scope) → Aside (seq a b) → Aside b
  aside_next a b h d = go (is_done a) (h (left_ (is_done a)))
    where
      left_ : (u : Bool) → is_done (chosen u (is_done b) a b (Seq a b)) ≡ false
      left_ true = d
      left_ false = ap (λ v. is_done (if v then a else Seq a b)) d ∙ rest (is_done a)
        where
          rest : (w : Bool) → (if w then is_done b else false) ≡ false
          rest true = d
          rest false = refl

      go : (u : Bool) → AreAside (chosen u (is_done b) a b (Seq a b)) → AreAside b
      go true x = x
      go false x = (subst (λ v. AreAside (if v then a else Seq a b)) d x).1

  pub aside_within : (s : Scope) (a : Tree E Scope) → Aside (within s a) → Aside a
  aside_within s a h d = by (h (ap (λ u. is_done (if u then Skip else Within s a)) d ∙ d))
    where
      by : AreAside (within s a) → AreAside a
      by x = subst (λ u. AreAside (if u then Skip else Within s a)) d x

  -- of two parts beside one another
  pub record Two (a b : Tree E Scope) : Type 0 where
    pub left : AreAside a
    pub right : AreAside b
    pub apart : (node : ℕ) → stands_at node a ≡ true → stands_at node b ≡ false

  pub aside_both : (a b : Tree E Scope) → Aside (par a b) → is_done a ≡ false → is_done b ≡ false → Two a b
  aside_both a b h d e =
      let is : par a b ≡ Par a b = ap (λ u. chosen u (is_done b) a b (Par a b)) d
      ∙ ap (λ v. if v then a else Par a b) e in
      let x = subst AreAside is (h (ap is_done is ∙ ap (λ u. if u then is_done b else false) d)) in
      record { left = x.0; right = x.1; apart = x.2 }

  pub aside_left : (a b : Tree E Scope) → Aside (par a b) → Aside a
  aside_left a b h d = go (is_done b) refl
    where
      is : par a b ≡ (if is_done b then a else Par a b)
      is = ap (λ u. chosen u (is_done b) a b (Par a b)) d

      go : (v : Bool) → is_done b ≡ v → AreAside a
      go true e = let z : par a b ≡ a = is
          ∙ ap (λ v. if v then a else Par a b) e in subst AreAside z (h (ap is_done z ∙ d))
      go false e = (aside_both a b h d e).left

  pub aside_right : (a b : Tree E Scope) → Aside (par a b) → Aside b
  aside_right a b h d = go (is_done a) refl
    where
      go : (v : Bool) → is_done a ≡ v → AreAside b
      go true e = let z : par a b ≡ b
          = ap (λ u. chosen u (is_done b) a b (Par a b)) e in subst AreAside z (h (ap is_done z ∙ d))
      go false e = (aside_both a b h e d).right

-- ---- trees of plans

-- the scope of these buffers, where there are any
abbrev pub scope_list : (node : ℕ) → List ℕ → List Scope
scope_list node [] = []
scope_list node (b ∷ bs) = record { node = node; buffers = b ∷ bs } ∷ []

pub in_scoped : (node : ℕ) (bs : List ℕ) (a : PlanTree) (l : List Scope) → IsAround a l
    → IsAround (scoped node bs a) (scope_list node bs ++ l)
in_scoped node [] a l h = h
in_scoped node (b ∷ bs) a l h = in_scope (record { node = node; buffers = b ∷ bs }) a l h

pub aside_scoped : (node : ℕ) (bs : List ℕ) (a : PlanTree) → Aside (scoped node bs a) → Aside a
aside_scoped node [] a h = h
aside_scoped node (b ∷ bs) a h = aside_within (record { node = node; buffers = b ∷ bs }) a h

pub in_seq_of : (n k : ℕ) (f : ℕ → PlanTree) (i : ℕ) (l : List Scope) → i < n → IsAround (f (k + i)) l
    → IsAround (seq_of n f k) l
unfolding seq_of
in_seq_of zero k f i l lt h = absurd (omega (arith, lt))
in_seq_of (suc n) k f zero l lt h = let z : k + 0 ≡ k
    = omega arith in seq_first (f k) (seq_of n f (k + 1)) l (subst (λ j. IsAround (f j) l) z h)
in_seq_of (suc n) k f (suc i) l lt h =
    let z : k + suc i ≡ k + 1 + i = omega arith in
    seq_next (f k) (seq_of n f (k + 1)) l
    (in_seq_of n (k + 1) f i l (omega (arith, lt)) (subst (λ j. IsAround (f j) l) z h))

pub aside_seq_of : (n k : ℕ) (f : ℕ → PlanTree) (i : ℕ) → i < n → Aside (seq_of n f k) → Aside (f (k + i))
unfolding seq_of
aside_seq_of zero k f i lt h = absurd (omega (arith, lt))
aside_seq_of (suc n) k f zero lt h = let z : k + 0 ≡ k
    = omega arith in subst (λ j. Aside (f j)) (sym z) (aside_first (f k) (seq_of n f (k + 1)) h)
aside_seq_of (suc n) k f (suc i) lt h =
    let z : k + suc i ≡ k + 1 + i = omega arith in
    subst (λ j. Aside (f j)) (sym z)
    (aside_seq_of n (k + 1) f i (omega (arith, lt)) (aside_next (f k) (seq_of n f (k + 1)) h))

pub in_par_of : (n k : ℕ) (f : ℕ → PlanTree) (i : ℕ) (l : List Scope) → i < n → IsAround (f (k + i)) l
    → IsAround (par_of n f k) l
unfolding par_of
in_par_of zero k f i l lt h = absurd (omega (arith, lt))
in_par_of (suc n) k f zero l lt h = let z : k + 0 ≡ k
    = omega arith in par_left (f k) (par_of n f (k + 1)) l (subst (λ j. IsAround (f j) l) z h)
in_par_of (suc n) k f (suc i) l lt h =
    let z : k + suc i ≡ k + 1 + i = omega arith in
    par_right (f k) (par_of n f (k + 1)) l
    (in_par_of n (k + 1) f i l (omega (arith, lt)) (subst (λ j. IsAround (f j) l) z h))

pub aside_par_of : (n k : ℕ) (f : ℕ → PlanTree) (i : ℕ) → i < n → Aside (par_of n f k) → Aside (f (k + i))
unfolding par_of
aside_par_of zero k f i lt h = absurd (omega (arith, lt))
aside_par_of (suc n) k f zero lt h = let z : k + 0 ≡ k
    = omega arith in subst (λ j. Aside (f j)) (sym z) (aside_left (f k) (par_of n f (k + 1)) h)
aside_par_of (suc n) k f (suc i) lt h =
    let z : k + suc i ≡ k + 1 + i = omega arith in
    subst (λ j. Aside (f j)) (sym z)
    (aside_par_of n (k + 1) f i (omega (arith, lt)) (aside_right (f k) (par_of n f (k + 1)) h))

-- ---- a scope of a tree, by its node

pub same_true : (n : ℕ) → (n == n) ≡ true
same_true n = grind (arith, nat_tests)

or_right : (a b : Bool) → b ≡ true → (a || b) ≡ true
or_right true b h = refl
or_right false b h = h

or_left : (a b : Bool) → a ≡ true → (a || b) ≡ true
or_left true b h = refl
or_left false b h = cc

pub stands : {E : Type 0} (t : Tree E Scope) (l : List Scope) → IsAround t l → (x : Scope) → Contains l x
    → stands_at x.node t ≡ true
stands Skip l h x c = absurd h
stands (Act e) l h x c = let z = subst (λ y. Contains y x) h c in let k = z.1 in absurd (omega (arith, k))
stands (Stuck e) l h x c = let z = subst (λ y. Contains y x) h c in let k = z.1 in absurd (omega (arith, k))
stands (Seq a b) l (inl h) x c = or_left (stands_at x.node a) (stands_at x.node b) (stands a l h x c)
stands (Seq a b) l (inr h) x c = or_right (stands_at x.node a) (stands_at x.node b) (stands b l h x c)
stands (Par a b) l (inl h) x c = or_left (stands_at x.node a) (stands_at x.node b) (stands a l h x c)
stands (Par a b) l (inr h) x c = or_right (stands_at x.node a) (stands_at x.node b) (stands b l h x c)
stands (Within s a) l h x c = go (subst (λ y. Contains y x) h.2 c) (λ d. stands a h.0 h.1 x d)
  where
    go : Contains (s ∷ h.0) x → (Contains h.0 x → stands_at x.node a ≡ true)
        → ((s.node == x.node) || stands_at x.node a) ≡ true
    go (zero, k, e) f = or_left (s.node == x.node) (stands_at x.node a)
        (let z : s ≡ x = e in ap (λ (y : Scope). y.node == x.node) z ∙ same_true x.node)
    go (suc i, k, e) f = or_right (s.node == x.node) (stands_at x.node a) (f (i, omega (arith, k), e))

-- events with scopes of one node don't stand in two parts beside one another
pub two_apart : {E : Type 0} (a b : Tree E Scope) → Aside (par a b) → (l m : List Scope) → IsAround a l → IsAround b m
    → (x y : Scope) → Contains l x → Contains m y → x.node ≡ y.node → ⊥
two_apart a b h l m ha hb x y cx cy e =
    let two = aside_both a b h (left_over a l ha) (left_over b m hb) in
    let z : stands_at y.node b ≡ false = two.apart y.node (subst (λ n. stands_at n a ≡ true) e (stands a l ha x cx)) in
    let w : true ≡ false = sym (stands b m hb y cy) ∙ z in cc

pub lanes_apart : (n k : ℕ) (f : ℕ → PlanTree) → Aside (par_of n f k) → (i j : ℕ) → i < j → j < n → (l m : List Scope)
    → IsAround (f (k + i)) l → IsAround (f (k + j)) m
    → (x y : Scope) → Contains l x → Contains m y → x.node ≡ y.node → ⊥
unfolding par_of
lanes_apart zero k f h i j lt ln l m hi hj x y cx cy e = omega (arith, ln)
lanes_apart (suc n) k f h i zero lt ln l m hi hj x y cx cy e = omega (arith, lt)
lanes_apart (suc n) k f h zero (suc j) lt ln l m hi hj x y cx cy e =
    let z : k + 0 ≡ k = omega arith in
    let w : k + suc j ≡ k + 1 + j = omega arith in
    two_apart (f k) (par_of n f (k + 1)) h l m (subst (λ q. IsAround (f q) l) z hi)
    (in_par_of n (k + 1) f j m (omega (arith, ln)) (subst (λ q. IsAround (f q) m) w hj)) x y cx cy e
lanes_apart (suc n) k f h (suc i) (suc j) lt ln l m hi hj x y cx cy e =
    let z : k + suc i ≡ k + 1 + i = omega arith in
    let w : k + suc j ≡ k + 1 + j = omega arith in
    lanes_apart n (k + 1) f (aside_right (f k) (par_of n f (k + 1)) h) i j (omega (arith, lt)) (omega (arith, ln)) l m
    (subst (λ q. IsAround (f q) l) z hi) (subst (λ q. IsAround (f q) m) w hj) x y cx cy e

-- ---- from the first on

pub in_seq : (n : ℕ) (f : ℕ → PlanTree) (t : ℕ) (l : List Scope) → t < n → IsAround (f t) l → IsAround (seq_of n f 0) l
in_seq n f t l lt h = let z : 0 + t ≡ t
    = omega arith in in_seq_of n 0 f t l lt (subst (λ u. IsAround (f u) l) (sym z) h)

pub in_par : (n : ℕ) (f : ℕ → PlanTree) (t : ℕ) (l : List Scope) → t < n → IsAround (f t) l → IsAround (par_of n f 0) l
in_par n f t l lt h = let z : 0 + t ≡ t
    = omega arith in in_par_of n 0 f t l lt (subst (λ u. IsAround (f u) l) (sym z) h)

pub aside_seq : (n : ℕ) (f : ℕ → PlanTree) (t : ℕ) → t < n → Aside (seq_of n f 0) → Aside (f t)
aside_seq n f t lt h = let z : 0 + t ≡ t = omega arith in subst (λ u. Aside (f u)) z (aside_seq_of n 0 f t lt h)

pub aside_par : (n : ℕ) (f : ℕ → PlanTree) (t : ℕ) → t < n → Aside (par_of n f 0) → Aside (f t)
aside_par n f t lt h = let z : 0 + t ≡ t = omega arith in subst (λ u. Aside (f u)) z (aside_par_of n 0 f t lt h)

pub beside_apart : (n : ℕ) (f : ℕ → PlanTree) → Aside (par_of n f 0) → (i j : ℕ) → i < j → j < n → (l m : List Scope)
    → IsAround (f i) l → IsAround (f j) m
    → (x y : Scope) → Contains l x → Contains m y → x.node ≡ y.node → ⊥
beside_apart n f h i j lt ln l m hi hj =
    let z : 0 + i ≡ i = omega arith in
    let y : 0 + j ≡ j = omega arith in
    lanes_apart n 0 f h i j lt ln l m (subst (λ u. IsAround (f u) l) (sym z) hi)
    (subst (λ u. IsAround (f u) m) (sym y) hj)
