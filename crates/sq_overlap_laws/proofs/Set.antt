-- A flag that is set was set by a call, and a node that is marked is a child at which a form is reached.
use Rattle.std.proofs.Common.{◌≡◌, ◌⊎◌, inl, inr, ℕ, zero, suc, ◌+◌, ◌*◌, ◌<◌, ◌≤◌, Bool, true, false, List, [], ◌∷◌}
use Rattle.std.proofs.Common.{replicate, get_or, slice_get, slice_set, Some, refl, sym, ap, ◌∙◌, arith}
use Rattle.std.proofs.Common.{if◌then◌else◌}
use Rattle.sq_machfile.specs.declared.node.Node.{Node}
use Rattle.sq_pass_laws.specs.Pipe.Runs.{noted, has_flag, is_marked, mark_children, mark_below}

-- ---- a flag

pub was_set : (xs : List Bool) (i j : ℕ) → get_or (slice_set xs i true) j false ≡ true
    → (j ≡ i) ⊎ (get_or xs j false ≡ true)
was_set [] i j h = inr h
was_set (x ∷ xs) zero zero h = inl refl
was_set (x ∷ xs) zero (suc j) h = inr h
was_set (x ∷ xs) (suc i) zero h = inr h
was_set (x ∷ xs) (suc i) (suc j) h = by (was_set xs i j h)
  where
    by : (j ≡ i) ⊎ (get_or xs j false ≡ true) → (suc j ≡ suc i) ⊎ (get_or xs j false ≡ true)
    by (inl e) = inl (ap suc e)
    by (inr e) = inr e

pub none_set : (n j : ℕ) → get_or (replicate n false) j false ≡ true → ⊥
none_set zero j h = absurd (cc h)
none_set (suc n) zero h = absurd (cc h)
none_set (suc n) (suc j) h = none_set n j h

-- ---- flags that calls set

-- a call among these has this flag
pub record IsNoted (children : ℕ) (ps : List (ℕ × ℕ)) (j : ℕ) : Type 0 where
  pub index : ℕ
  pub form : ℕ
  pub child : ℕ
  pub among : slice_get ps index ≡ Some (form, child)
  pub is : j ≡ form * children + child

pub was_noted : (children : ℕ) (ps : List (ℕ × ℕ)) (flags : List Bool) (j : ℕ)
    → get_or (noted children ps flags) j false ≡ true → (get_or flags j false ≡ true) ⊎ IsNoted children ps j
was_noted children [] flags j h = inl h
was_noted children (p ∷ ps) flags j h =
    by (was_noted children ps (slice_set flags (p.0 * children + p.1) true) j h)
  where
    first : (j ≡ p.0 * children + p.1) ⊎ (get_or flags j false ≡ true)
        → (get_or flags j false ≡ true) ⊎ IsNoted children (p ∷ ps) j
    first (inl e) = inr (record { index = 0; form = p.0; child = p.1; among = refl; is = e })
    first (inr e) = inl e

    by : (get_or (slice_set flags (p.0 * children + p.1) true) j false ≡ true) ⊎ IsNoted children ps j
        → (get_or flags j false ≡ true) ⊎ IsNoted children (p ∷ ps) j
    by (inl e) = first (was_set flags (p.0 * children + p.1) j e)
    by (inr n) = inr (record { index = suc n.index; form = n.form; child = n.child; among = n.among; is = n.is })

pub is_noted : (forms children : ℕ) (ps : List (ℕ × ℕ)) (j : ℕ)
    → get_or (noted children ps (replicate (forms * children) false)) j false ≡ true → IsNoted children ps j
is_noted forms children ps j h = by (was_noted children ps (replicate (forms * children) false) j h)
  where
    by : (get_or (replicate (forms * children) false) j false ≡ true) ⊎ IsNoted children ps j → IsNoted children ps j
    by (inl e) = absurd (none_set (forms * children) j e)
    by (inr n) = n

-- a number is of one form and one child
pub one_flag : (children k m c d : ℕ) → c < children → d < children → k * children + c ≡ m * children + d
    → (k ≡ m) × (c ≡ d)
one_flag children zero zero c d lc ld e = (refl, omega (arith, e))
one_flag children zero (suc m) c d lc ld e = absurd (omega (arith, e, lc))
one_flag children (suc k) zero c d lc ld e = absurd (omega (arith, e, ld))
one_flag children (suc k) (suc m) c d lc ld e =
    let both = one_flag children k m c d lc ld (omega (arith, e)) in (ap suc both.0, both.1)

-- ---- a node of the children

was_marked_if : (b : Bool) (marks : List Bool) (i j : ℕ) → is_marked (if b then slice_set marks i true else marks) j ≡ true
    → ((b ≡ true) × (j ≡ i)) ⊎ (is_marked marks j ≡ true)
was_marked_if true marks i j h = by (was_set marks i j h)
  where
    by : (j ≡ i) ⊎ (get_or marks j false ≡ true) → ((true ≡ true) × (j ≡ i)) ⊎ (is_marked marks j ≡ true)
    by (inl e) = inl (refl, e)
    by (inr e) = inr e
was_marked_if false marks i j h = inr h

-- it is one of so many children from the c-th on, at which the form is reached
pub record IsChild (flags : List Bool) (children form first n c j : ℕ) : Type 0 where
  pub child : ℕ
  pub from : c ≤ child
  pub few : child < c + n
  pub flag : has_flag flags children form child ≡ true
  pub is : j ≡ first + child

module _ (flags : List Bool) (children form first : ℕ) where
  pub was_child : (n c : ℕ) (marks : List Bool) (j : ℕ)
      → is_marked (mark_children flags children form first n c marks) j ≡ true
      → (is_marked marks j ≡ true) ⊎ IsChild flags children form first n c j
  was_child zero c marks j h = inl h
  was_child (suc n) c marks j h =
      by (was_child n (c + 1) (if has_flag flags children form c then slice_set marks (first + c) true else marks) j h)
    where
      own : ((has_flag flags children form c ≡ true) × (j ≡ first + c)) ⊎ (is_marked marks j ≡ true)
          → (is_marked marks j ≡ true) ⊎ IsChild flags children form first (suc n) c j
      own (inl p) = inr (record { child = c; from = omega arith; few = omega arith; flag = p.0; is = p.1 })
      own (inr e) = inl e

      by : (is_marked (if has_flag flags children form c then slice_set marks (first + c) true else marks) j ≡ true)
          ⊎ IsChild flags children form first n (c + 1) j
          → (is_marked marks j ≡ true) ⊎ IsChild flags children form first (suc n) c j
      by (inl e) = own (was_marked_if (has_flag flags children form c) marks (first + c) j e)
      by (inr q) =
          let from = q.from in
          let few = q.few in
          inr (record {
            child = q.child;
            from = omega (arith, from);
            few = omega (arith, few);
            flag = q.flag;
            is = q.is;
          })

-- ---- children of marked nodes

-- it is a child of one of these nodes, which is marked
pub record IsBelow (flags : ℕ → List Bool) (form : ℕ) (at : List Bool) (n : ℕ) (nodes : List Node) (j : ℕ) : Type 0 where
  pub index : ℕ
  pub parent : Node
  pub there : slice_get nodes index ≡ Some parent
  pub marked : is_marked at (n + index) ≡ true
  pub child : ℕ
  pub few : child < parent.children
  pub flag : has_flag (flags parent.children) parent.children form child ≡ true
  pub is : j ≡ parent.first_child + child

module _ (flags : ℕ → List Bool) (form : ℕ) (at : List Bool) where
  abbrev stepped : Bool → Node → List Bool → List Bool
  stepped b node marks =
      if b then mark_children (flags node.children) node.children form node.first_child node.children 0 marks else marks

  was_stepped : (b : Bool) (node : Node) (marks : List Bool) (j : ℕ) → is_marked (stepped b node marks) j ≡ true
      → (is_marked marks j ≡ true)
      ⊎ ((b ≡ true) × IsChild (flags node.children) node.children form node.first_child node.children 0 j)
  was_stepped true node marks j h =
      by (was_child (flags node.children) node.children form node.first_child node.children 0 marks j h)
    where
      by : (is_marked marks j ≡ true) ⊎ IsChild (flags node.children) node.children form node.first_child node.children 0 j
          → (is_marked marks j ≡ true)
          ⊎ ((true ≡ true) × IsChild (flags node.children) node.children form node.first_child node.children 0 j)
      by (inl e) = inl e
      by (inr q) = inr (refl, q)
  was_stepped false node marks j h = inl h

  pub was_below : (n : ℕ) (nodes : List Node) (marks : List Bool) (j : ℕ)
      → is_marked (mark_below flags form at n nodes marks) j ≡ true
      → (is_marked marks j ≡ true) ⊎ IsBelow flags form at n nodes j
  was_below n [] marks j h = inl h
  was_below n (node ∷ nodes) marks j h =
      by (was_below (n + 1) nodes (stepped (is_marked at n) node marks) j h)
    where
      own : (is_marked marks j ≡ true) ⊎ ((is_marked at n ≡ true)
          × IsChild (flags node.children) node.children form node.first_child node.children 0 j)
          → (is_marked marks j ≡ true) ⊎ IsBelow flags form at n (node ∷ nodes) j
      own (inl e) = inl e
      own (inr p) =
          let z : n ≡ n + 0 = omega arith in
          let few = p.1.few in
          inr (record {
            index = 0;
            parent = node;
            there = refl;
            marked = ap (is_marked at) (sym z) ∙ p.0;
            child = p.1.child;
            few = omega (arith, few);
            flag = p.1.flag;
            is = p.1.is;
          })

      by : (is_marked (stepped (is_marked at n) node marks) j ≡ true) ⊎ IsBelow flags form at (n + 1) nodes j
          → (is_marked marks j ≡ true) ⊎ IsBelow flags form at n (node ∷ nodes) j
      by (inl e) = own (was_stepped (is_marked at n) node marks j e)
      by (inr q) =
          let z : n + suc q.index ≡ n + 1 + q.index = omega arith in
          inr (record {
            index = suc q.index;
            parent = q.parent;
            there = q.there;
            marked = ap (is_marked at) z ∙ q.marked;
            child = q.child;
            few = q.few;
            flag = q.flag;
            is = q.is;
          })
