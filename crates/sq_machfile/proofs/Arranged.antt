-- Nodes that stand level by level.
use Rattle.std.proofs.Common.{◌≡◌, ℕ, zero, suc, ◌+◌, ◌≤◌, Bool, true, false, ◌==◌, if◌then◌else◌, List, [], ◌∷◌, ◌++◌, length, map, take, replicate, Option, Some, None, refl, sym, ◌∙◌, ap, subst, arith, append_assoc, append-nil}
use Rattle.std.specs.List.{slice_get, flat_map}
use Rattle.sq_machfile.specs.declared.node.Node.{Node}
use Rattle.sq_machfile.specs.Nodes.{at_level, total, children_of, below, first_child, AreArranged, linked}

-- ---- of each

abbrev pub Every : {X : Type 0} → (X → Type 0) → List X → Type 0
Every P [] = Unit {0}
Every P (x ∷ xs) = P x × Every P xs

pub every-append : {X : Type 0} (P : X → Type 0) (xs ys : List X) → Every P xs → Every P ys → Every P (xs ++ ys)
every-append P [] ys h g = g
every-append P (x ∷ xs) ys h g = (h.0, every-append P xs ys h.1 g)

pub every-replicate : {X : Type 0} (P : X → Type 0) (n : ℕ) (x : X) → P x → Every P (replicate n x)
every-replicate P zero x h = tt
every-replicate P (suc n) x h = (h, every-replicate P n x h)

abbrev some_or : {X : Type 0} → X → Option X → X
some_or d None = d
some_or d (Some x) = x

pub same_in : {X : Type 0} (x y : X) → Some x ≡ Some y → x ≡ y
same_in x y e = ap (some_or x) e

pub every_at : {X : Type 0} (P : X → Type 0) (xs : List X) → Every P xs → (i : ℕ) (x : X) → slice_get xs i ≡ Some x → P x
every_at P [] h zero x e = absurd (cc)
every_at P [] h (suc i) x e = absurd (cc)
every_at P (y ∷ ys) h zero x e = subst P (same_in y x e) h.0
every_at P (y ∷ ys) h (suc i) x e = every_at P ys h.1 i x e

-- ---- nodes with the places of their children

abbrev with_child : Node → ℕ → Node
with_child n first = record n { first_child = first }

pub every_linked : (P : Node → Type 0) → ((n : Node) (first : ℕ) → P n → P (record n { first_child = first })) → (next : ℕ) (ns : List Node) → Every P ns → Every P (linked next ns)
every_linked P keeps next [] h = tt
every_linked P keeps next (n ∷ ns) h = (keeps n (first_child n.children next) h.0, every_linked P keeps (next + n.children) ns h.1)

pub length_linked : (next : ℕ) (ns : List Node) → length (linked next ns) ≡ length ns
length_linked next [] = refl
length_linked next (n ∷ ns) = ap suc (length_linked (next + n.children) ns)

pub map_linked : {X : Type 0} (f : Node → X) → ((n : Node) (first : ℕ) → f (record n { first_child = first }) ≡ f n) → (next : ℕ) (ns : List Node) → map f (linked next ns) ≡ map f ns
map_linked f same next [] = refl
map_linked f same next (n ∷ ns) =
    ap (λ x. x ∷ map f (linked (next + n.children) ns)) (same n (first_child n.children next)) ∙ ap (λ xs. f n ∷ xs) (map_linked f same (next + n.children) ns)

pub total_linked : (f : Node → ℕ) → ((n : Node) (first : ℕ) → f (record n { first_child = first }) ≡ f n) → (next : ℕ) (ns : List Node) → total f (linked next ns) ≡ total f ns
total_linked f same next [] = refl
total_linked f same next (n ∷ ns) =
    let one = same n (first_child n.children next) in let more = total_linked f same (next + n.children) ns in omega (arith, one, more)

flat_linked : (next : ℕ) (ns : List Node) → flat_map below (linked next ns) ≡ flat_map below ns
flat_linked next [] = refl
flat_linked next (n ∷ ns) = ap (λ xs. below n ++ xs) (flat_linked (next + n.children) ns)

-- the nodes of a level keep what doesn't depend on the places of children
pub level_linked : (f : Node → ℕ) → ((n : Node) (first : ℕ) → f (record n { first_child = first }) ≡ f n) → (next : ℕ) (ns : List Node) (k : ℕ) → map f (at_level (linked next ns) k) ≡ map f (at_level ns k)
level_linked f same next [] k = refl
level_linked f same next (n ∷ ns) k = by_case (n.level == k) (level_linked f same (next + n.children) ns k)
  where
    by_case : (b : Bool) → map f (at_level (linked (next + n.children) ns) k) ≡ map f (at_level ns k) → map f (if b then record n { first_child = first_child n.children next } ∷ at_level (linked (next + n.children) ns) k else at_level (linked (next + n.children) ns) k) ≡ map f (if b then n ∷ at_level ns k else at_level ns k)
    by_case true more = ap (λ x. x ∷ map f (at_level (linked (next + n.children) ns) k)) (same n (first_child n.children next)) ∙ ap (λ xs. f n ∷ xs) more
    by_case false more = more

firsts_linked : (next : ℕ) (ns : List Node) (i : ℕ) (n : Node) → slice_get (linked next ns) i ≡ Some n → n.first_child ≡ first_child n.children (next + total children_of (take i (linked next ns)))
firsts_linked next [] zero n e = absurd (cc)
firsts_linked next [] (suc i) n e = absurd (cc)
firsts_linked next (m ∷ ns) zero n e =
    let none : next ≡ next + 0 = omega arith in
    subst (λ n. n.first_child ≡ first_child n.children (next + 0)) (same_in (record m { first_child = first_child m.children next }) n e) (ap (first_child m.children) none)
firsts_linked next (m ∷ ns) (suc i) n e =
    let sum : (next + m.children) + total children_of (take i (linked (next + m.children) ns)) ≡ next + (m.children + total children_of (take i (linked (next + m.children) ns))) = omega arith in
    firsts_linked (next + m.children) ns i n e ∙ ap (first_child n.children) sum

-- ---- level by level

abbrev pub IsAt : ℕ → Node → Type 0
IsAt k n = n.level ≡ k

-- the first are those of the k-th level, and the second those below it
pub data Levelled : ℕ → List Node → List Node → Type 0 where
  last : {k : ℕ} {here : List Node} → Every (IsAt k) here → total children_of here ≡ 0 → Levelled k here []
  more : {k : ℕ} {here next rest : List Node} → Every (IsAt k) here → total children_of here ≡ length next → Levelled (suc k) next rest → Levelled k here (next ++ rest)

replicate-append : {X : Type 0} (m n : ℕ) (x : X) → replicate (m + n) x ≡ replicate m x ++ replicate n x
replicate-append zero n x = let e : zero + n ≡ n = omega arith in ap (λ n. replicate n x) e
replicate-append (suc m) n x = let e : suc m + n ≡ suc (m + n) = omega arith in ap (λ n. replicate n x) e ∙ ap (λ xs. x ∷ xs) (replicate-append m n x)

flat_here : (k : ℕ) (here : List Node) → Every (IsAt k) here → flat_map below here ≡ replicate (total children_of here) (suc k)
flat_here k [] h = refl
flat_here k (n ∷ ns) h =
    ap (λ l. replicate n.children (suc l) ++ flat_map below ns) h.0 ∙ ap (λ xs. replicate n.children (suc k) ++ xs) (flat_here k ns h.1)
    ∙ sym (replicate-append n.children (total children_of ns) (suc k))

abbrev pub level_of : Node → ℕ
level_of n = n.level

map_here : (k : ℕ) (here : List Node) → Every (IsAt k) here → map level_of here ≡ replicate (length here) k
map_here k [] h = refl
map_here k (n ∷ ns) h = ap (λ l. l ∷ map level_of ns) h.0 ∙ ap (λ xs. k ∷ xs) (map_here k ns h.1)

flat-append : (xs ys : List Node) → flat_map below (xs ++ ys) ≡ flat_map below xs ++ flat_map below ys
flat-append [] ys = refl
flat-append (x ∷ xs) ys = ap (λ zs. below x ++ zs) (flat-append xs ys) ∙ sym (append_assoc (below x) (flat_map below xs) (flat_map below ys))

maps-append : (xs ys : List Node) → map level_of (xs ++ ys) ≡ map level_of xs ++ map level_of ys
maps-append [] ys = refl
maps-append (x ∷ xs) ys = ap (λ zs. x.level ∷ zs) (maps-append xs ys)

every_here : {k : ℕ} {here rest : List Node} → Levelled k here rest → Every (IsAt k) here
every_here (last h z) = h
every_here (more h s l) = h

-- the levels below those here are their children's
queue : {k : ℕ} {here rest : List Node} → Levelled k here rest → flat_map below (here ++ rest) ≡ map level_of rest
queue (last {k = k} {here = here} h z) = ap (flat_map below) (append-nil here) ∙ flat_here k here h ∙ ap (λ n. replicate n (suc k)) z
queue (more {k = k} {here = here} {next = next} {rest = rest} h s l) =
    flat-append here (next ++ rest)
    ∙ ap (λ xs. xs ++ flat_map below (next ++ rest)) (flat_here k here h ∙ ap (λ n. replicate n (suc k)) s ∙ sym (map_here (suc k) next (every_here l)))
    ∙ ap (λ xs. map level_of next ++ xs) (queue l) ∙ sym (maps-append next rest)

-- ---- in rising order

abbrev AtLeast : ℕ → Node → Type 0
AtLeast k n = k ≤ n.level

abbrev Rising : List Node → Type 0
Rising [] = Unit {0}
Rising (n ∷ ns) = Every (AtLeast n.level) ns × Rising ns

at_least_here : (k : ℕ) (here : List Node) → Every (IsAt k) here → Every (AtLeast k) here
at_least_here k [] h = tt
at_least_here k (n ∷ ns) h = (omega (arith, h.0), at_least_here k ns h.1)

lower : (k m : ℕ) (ns : List Node) → k ≤ m → Every (AtLeast m) ns → Every (AtLeast k) ns
lower k m [] le h = tt
lower k m (n ∷ ns) le h = (omega (arith, h.0, le), lower k m ns le h.1)

rising_here : (k : ℕ) (here rest : List Node) → Every (IsAt k) here → Every (AtLeast k) rest → Rising rest → Rising (here ++ rest)
rising_here k [] rest h l r = r
rising_here k (n ∷ ns) rest h l r =
    (lower n.level k (ns ++ rest) (omega (arith, h.0)) (every-append (AtLeast k) ns rest (at_least_here k ns h.1) l), rising_here k ns rest h.1 l r)

rising : {k : ℕ} {here rest : List Node} → Levelled k here rest → Rising (here ++ rest) × Every (AtLeast k) (here ++ rest)
rising (last {k = k} {here = here} h z) = (rising_here k here [] h tt tt, every-append (AtLeast k) here [] (at_least_here k here h) tt)
rising (more {k = k} {here = here} {next = next} {rest = rest} h s l) =
    let r = rising l in
    let low = lower k (suc k) (next ++ rest) (omega arith) r.1 in
    (rising_here k here (next ++ rest) h low r.0, every-append (AtLeast k) here (next ++ rest) (at_least_here k here h) low)

rising_linked : (next : ℕ) (ns : List Node) → Rising ns → Rising (linked next ns)
rising_linked next [] r = tt
rising_linked next (n ∷ ns) r = (every_linked (AtLeast n.level) (λ m first h. h) (next + n.children) ns r.0, rising_linked (next + n.children) ns r.1)

sorted : (ns : List Node) → Rising ns → (i j : ℕ) (a b : Node) → i ≤ j → slice_get ns i ≡ Some a → slice_get ns j ≡ Some b → a.level ≤ b.level
sorted [] r zero j a b le ea eb = absurd (cc)
sorted [] r (suc i) j a b le ea eb = absurd (cc)
sorted (n ∷ ns) r zero zero a b le ea eb = let same : a ≡ b = sym (same_in n a ea) ∙ same_in n b eb in let l : a.level ≡ b.level = ap level_of same in omega arith
sorted (n ∷ ns) r zero (suc j) a b le ea eb = let l : n.level ≡ a.level = ap level_of (same_in n a ea) in let m : n.level ≤ b.level = every_at (AtLeast n.level) ns r.0 j b eb in omega arith
sorted (n ∷ ns) r (suc i) zero a b le ea eb = absurd (omega arith)
sorted (n ∷ ns) r (suc i) (suc j) a b le ea eb = sorted ns r.1 i j a b (omega arith) ea eb

-- nodes of which one is the root, and all others stand level by level below it
pub arranged : (root : Node) (rest : List Node) → Levelled 0 (root ∷ []) rest → AreArranged (linked 1 (root ∷ rest))
arranged root rest l =
    let whole = root ∷ rest in
    let at : root.level ≡ 0 = (every_here l).0 in
    record {
      children = map_linked level_of (λ n first. refl) 1 whole ∙ ap (λ k. k ∷ map level_of rest) at
          ∙ ap (λ xs. 0 ∷ xs) (sym (queue l) ∙ sym (flat_linked 1 whole));
      first = firsts_linked 1 whole;
      sorted = sorted (linked 1 whole) (rising_linked 1 whole (rising l).0);
    }
