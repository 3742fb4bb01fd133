-- The names of a task, each once in the order in which they first stand in its text: each is there, and no other.
use Rattle.std.proofs.Common.{◌≡◌, zero, suc, Bool, true, false, ◌||◌, List, [], ◌∷◌, ◌++◌, refl}
use Rattle.std.proofs.Common.{sym, ap, ◌∙◌, subst, ◌⊎◌, inl, inr, arith}
use Rattle.std.specs.Prelude.{if◌then◌else◌}
use Rattle.std.specs.List.{All, Contains}
use Rattle.sq_text.specs.Names.{Bytes, same_name}
use Rattle.sq_mapping.proofs.Same.{same, itself}
use Rattle.sq_ir.proofs.OpenScopes.{contains-first, contains-append, contains-none}
use Rattle.sq_planfile.specs.Sound.{Once, AreBound}
use Rattle.sq_planfile.specs.Written.{has, firsts}

-- ---- lists of names

-- these, and the name behind them where it isn't among them
abbrev pub after : List Bytes → Bytes → List Bytes
after ms n = if has ms n then ms else ms ++ n ∷ []

pub firsts_joined : (ms xs ys : List Bytes) → firsts ms (xs ++ ys) ≡ firsts (firsts ms xs) ys
firsts_joined ms [] ys = refl
firsts_joined ms (x ∷ xs) ys = firsts_joined (after ms x) xs ys

flips_by : (a b : Bytes) (x y : Bool) → same_name a b ≡ x → same_name b a ≡ y → x ≡ y
flips_by a b true true e f = refl
flips_by a b false false e f = refl
flips_by a b true false e f =
    let is = same a b e in
    absurd (cc (sym (itself a) ∙ (ap (λ n. same_name n a) is ∙ f)))
flips_by a b false true e f =
    let is = same b a f in
    absurd (cc (sym (itself b) ∙ (ap (λ n. same_name n b) is ∙ e)))

pub flips : (a b : Bytes) → same_name a b ≡ same_name b a
flips a b = flips_by a b (same_name a b) (same_name b a) refl refl

-- ---- which names stand in a list

pub here : {X : Type 0} (x : X) (xs : List X) → Contains (x ∷ xs) x
here x xs = (0, omega arith, refl)

pub later : {X : Type 0} (x : X) (xs : List X) (y : X) → Contains xs y → Contains (x ∷ xs) y
later x xs y c = let l = c.1 in (suc c.0, omega (arith, l), c.2)

in_front : {X : Type 0} (xs ys : List X) (y : X) → Contains xs y → Contains (xs ++ ys) y
in_front [] ys y c = absurd (contains-none y c)
in_front (x ∷ xs) ys y c = by (λ d. in_front xs ys y d) (contains-first x xs y c)
  where
    by : (Contains xs y → Contains (xs ++ ys) y) → (x ≡ y) ⊎ Contains xs y → Contains (x ∷ (xs ++ ys)) y
    by rest (inl e) = subst (λ z. Contains (x ∷ (xs ++ ys)) z) e (here x (xs ++ ys))
    by rest (inr d) = later x (xs ++ ys) y (rest d)

behind : {X : Type 0} (xs ys : List X) (y : X) → Contains ys y → Contains (xs ++ ys) y
behind [] ys y c = c
behind (x ∷ xs) ys y c = later x (xs ++ ys) y (behind xs ys y c)

pub all_none : {X : Type 0} (P : X → Type 0) → All P []
all_none P k d lt = absurd (omega (arith, lt))

pub all_more : {X : Type 0} (P : X → Type 0) (x : X) (xs : List X) → P x → All P xs → All P (x ∷ xs)
all_more P x xs h f zero d lt = h
all_more P x xs h f (suc k) d lt = f k d (omega (arith, lt))

pub all_first : {X : Type 0} (P : X → Type 0) (x : X) (xs : List X) → All P (x ∷ xs) → P x
all_first P x xs h = h 0 x (omega arith)

pub all_rest : {X : Type 0} (P : X → Type 0) (x : X) (xs : List X) → All P (x ∷ xs) → All P xs
all_rest P x xs h k d lt = h (suc k) d (omega (arith, lt))

pub all_each : {X : Type 0} (P Q : X → Type 0) (xs : List X) → ((x : X) → P x → Q x) → All P xs → All Q xs
all_each P Q xs f h k d lt = f _ (h k d lt)

pub all_joined : {X : Type 0} (P : X → Type 0) (xs ys : List X) → All P xs → All P ys → All P (xs ++ ys)
all_joined P [] ys h g = g
all_joined P (x ∷ xs) ys h g =
    all_more P x (xs ++ ys) (all_first P x xs h) (all_joined P xs ys (all_rest P x xs h) g)

-- each of a list is one of it
all_own : {X : Type 0} (xs : List X) → All (Contains xs) xs
all_own [] = all_none (Contains [])
all_own (x ∷ xs) = all_more (Contains (x ∷ xs)) x xs (here x xs)
    (all_each (Contains xs) (Contains (x ∷ xs)) xs (λ y c. later x xs y c) (all_own xs))

or_false : (a b : Bool) → (a || b) ≡ false → (a ≡ false) × (b ≡ false)
or_false true b h = absurd (cc h)
or_false false b h = (refl, h)

has_there : (ms : List Bytes) (n : Bytes) → has ms n ≡ true → Contains ms n
has_there [] n h = absurd (cc h)
has_there (m ∷ ms) n h = by (same_name m n) refl (λ g. has_there ms n g) h
  where
    by : (b : Bool) → same_name m n ≡ b → (has ms n ≡ true → Contains ms n) → (b || has ms n) ≡ true
        → Contains (m ∷ ms) n
    by true e rest g = let is = same m n e in subst (Contains (m ∷ ms)) is (here m ms)
    by false e rest g = later m ms n (rest g)

-- ---- firsts: each once, all of them, and no other

once_more : (ms : List Bytes) (n : Bytes) → has ms n ≡ false → Once ms → Once (ms ++ n ∷ [])
once_more [] n h o = (λ c. contains-none n c, tt)
once_more (m ∷ ms) n h o =
    let f = or_false (same_name m n) (has ms n) h in
    (λ c. none f.0 (contains-append ms (n ∷ []) m c), once_more ms n f.1 o.1)
  where
    only : same_name m n ≡ false → (n ≡ m) ⊎ Contains [] m → ⊥
    only e (inl is) = absurd (cc (sym (itself m) ∙ (ap (λ k. same_name m k) (sym is) ∙ e)))
    only e (inr c) = contains-none m c

    none : same_name m n ≡ false → Contains ms m ⊎ Contains (n ∷ []) m → ⊥
    none e (inl c) = o.0 c
    none e (inr c) = only e (contains-first n [] m c)

once_after : (ms : List Bytes) (n : Bytes) → Once ms → Once (after ms n)
once_after ms n o = by (has ms n) refl
  where
    by : (b : Bool) → has ms n ≡ b → Once (if b then ms else ms ++ n ∷ [])
    by true e = o
    by false e = once_more ms n e o

pub firsts_once : (ms ns : List Bytes) → Once ms → Once (firsts ms ns)
firsts_once ms [] o = o
firsts_once ms (n ∷ ns) o = firsts_once (after ms n) ns (once_after ms n o)

after_keeps : (ms : List Bytes) (n x : Bytes) → Contains ms x → Contains (after ms n) x
after_keeps ms n x c = by (has ms n)
  where
    by : (b : Bool) → Contains (if b then ms else ms ++ n ∷ []) x
    by true = c
    by false = in_front ms (n ∷ []) x c

after_there : (ms : List Bytes) (n : Bytes) → Contains (after ms n) n
after_there ms n = by (has ms n) refl
  where
    by : (b : Bool) → has ms n ≡ b → Contains (if b then ms else ms ++ n ∷ []) n
    by true e = has_there ms n e
    by false e = behind ms (n ∷ []) n (here n [])

firsts_keep : (ms ns : List Bytes) (x : Bytes) → Contains ms x → Contains (firsts ms ns) x
firsts_keep ms [] x c = c
firsts_keep ms (n ∷ ns) x c = firsts_keep (after ms n) ns x (after_keeps ms n x c)

firsts_each : (ms ns : List Bytes) → All (Contains (firsts ms ns)) ns
firsts_each ms [] = all_none (Contains ms)
firsts_each ms (n ∷ ns) = all_more (Contains (firsts (after ms n) ns)) n ns
    (firsts_keep (after ms n) ns n (after_there ms n)) (firsts_each (after ms n) ns)

pub firsts_of : (P : Bytes → Type 0) (ms ns : List Bytes) → All P ms → All P ns → All P (firsts ms ns)
firsts_of P ms [] h g = h
firsts_of P ms (n ∷ ns) h g = firsts_of P (after ms n) ns (by (has ms n)) (all_rest P n ns g)
  where
    by : (b : Bool) → All P (if b then ms else ms ++ n ∷ [])
    by true = h
    by false = all_joined P ms (n ∷ []) h (all_more P n [] (all_first P n ns g) (all_none P))

pub firsts_bind : (ns : List Bytes) → AreBound ns (firsts [] ns)
firsts_bind ns = record {
  once = firsts_once [] ns tt;
  each = firsts_each [] ns;
  other = firsts_of (Contains ns) [] ns (all_none (Contains ns)) (all_own ns);
}
