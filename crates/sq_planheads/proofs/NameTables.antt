-- Tables of names, and which names they have.
use Rattle.std.proofs.Common.{◌≡◌, ℕ, zero, suc, ◌+◌, ◌<◌, length, get_or, drop, arith, ◌⊎◌, inl, inr, Bool, true, false, ◌&&◌, cond, if◌then◌else◌, ℤ, pos, List, [], ◌∷◌, ◌++◌, map, Some, None, is_some, Decides, All, Contains, refl, sym, ap, ◌∙◌, subst, append_assoc}
use Rattle.std.specs.List.{list_all, flat_map, AllByRecursion}
use Rattle.std.specs.Map.{lookup}
use Rattle.std.proofs.lemmas.Bool.{and_parts, and_from, false_from_ne_true}
use Rattle.std.proofs.lemmas.Slice.Eq.{bytes_eq-Decides}
use Rattle.std.proofs.lemmas.List.Elements.{All-from_recursion, recursion_from_All}
use Rattle.sq_text.specs.Names.{Bytes, same_name}
use Rattle.sq_ast.specs.declared.program.Extent.{Extent}
use Rattle.sq_ast.specs.declared.program.Extent.TheVariants as extent
use Rattle.sq_ast.specs.declared.program.Param.{Param}
use Rattle.sq_ast.specs.declared.program.Decl.{Decl}
use Rattle.sq_ast.specs.declared.program.Decl.TheVariants as decl
use Rattle.sq_ast.specs.declared.program.Variant.{Variant}
use Rattle.sq_blocks.specs.Names.{Numbers, with_number}
use Rattle.sq_plantext.specs.declared.text.Binding.{Binding}
use Rattle.sq_planfile.specs.Written.{sizes_in, tunables_in, names_in}
use Rattle.sq_planfile.specs.Sound.{Once, AreBound}
use Rattle.sq_planheads.specs.Leaves.{is_bound, with_bindings, is_size_bound, are_sizes_bound, is_tunable_bound, are_names_bound, with_names, are_wanted}
use Rattle.sq_planheads.proofs.Members.{In, in_left, in_right, in_either, in_contains, contains_in}

pub names_append : (table : Numbers) (ls bs : List Bytes) → with_names table (ls ++ bs) ≡ with_names (with_names table ls) bs
names_append table [] bs = refl
names_append table (a ∷ ls) bs = names_append (with_number table a (pos 0)) ls bs

item : {X : Type 0} (xs : List X) (i : ℕ) (x : X) → i < length xs → x ≡ get_or xs i x → drop i xs ≡ x ∷ drop (i + 1) xs
item [] i x lt e = absurd (omega arith)
item (y ∷ xs) zero x lt e = ap (λ z. z ∷ xs) (sym e)
item (y ∷ xs) (suc i) x lt e = let k : suc i + 1 ≡ suc (i + 1) = omega arith in item xs i x (omega (arith, lt)) e ∙ ap (λ k. x ∷ drop k (y ∷ xs)) (sym k)

-- the names of one item more
pub names_next : {X : Type 0} (f : X → List Bytes) (start so_far next : Numbers) (xs : List X) (i : ℕ) (x : X) → i < length xs → x ≡ get_or xs i x → next ≡ with_names so_far (f x)
    → with_names so_far (flat_map f (drop i xs)) ≡ with_names start (flat_map f xs) → with_names next (flat_map f (drop (i + 1) xs)) ≡ with_names start (flat_map f xs)
names_next f start so_far next xs i x lt e en inv =
    let rest = drop (i + 1) xs in
    ap (λ t. with_names t (flat_map f rest)) en ∙ sym (names_append so_far (f x) (flat_map f rest)) ∙ ap (λ ys. with_names so_far (flat_map f ys)) (sym (item xs i x lt e)) ∙ inv

abbrev pub keys : Numbers → List Bytes
keys table = map (λ e. e.0) table

-- ---- which names are bound

bound_sound : (table : Numbers) (n : Bytes) → is_bound table n ≡ true → In (keys table) n
bound_sound [] n h = absurd (cc)
bound_sound (e ∷ table) n h = by (bound_sound table n) (same_name n e.0) refl h
  where
    by : (is_bound table n ≡ true → In (keys table) n) → (b : Bool) → same_name n e.0 ≡ b → is_some (cond b (Some e.1) (lookup (same_name n) table)) ≡ true → In (keys (e ∷ table)) n
    by later true s h = inl (sym ((bytes_eq-Decides n e.0).0 s))
    by later false s h = inr (later h)

bound_complete : (table : Numbers) (n : Bytes) → In (keys table) n → is_bound table n ≡ true
bound_complete [] n h = absurd h
bound_complete (e ∷ table) n h = by (bound_complete table n) (same_name n e.0) refl h
  where
    by : (In (keys table) n → is_bound table n ≡ true) → (b : Bool) → same_name n e.0 ≡ b → In (keys (e ∷ table)) n → is_some (cond b (Some e.1) (lookup (same_name n) table)) ≡ true
    by later true s h = refl
    by later false s (inl k) = let t : same_name n e.0 ≡ true = (bytes_eq-Decides n e.0).1 (sym k) in absurd (cc)
    by later false s (inr k) = later k

keys_append : (a b : Numbers) → keys (a ++ b) ≡ keys a ++ keys b
keys_append [] b = refl
keys_append (e ∷ a) b = ap (λ ks. e.0 ∷ ks) (keys_append a b)

-- a name of a table with one more is one of the table, or the new one
with_one : (table : Numbers) (n : Bytes) (v : ℤ) (m : Bytes) → In (keys (with_number table n v)) m → In (keys table) m ⊎ (n ≡ m)
with_one table n v m h = by (is_bound table n) h
  where
    by : (b : Bool) → In (keys (if b then table else table ++ (n, v) ∷ [])) m → In (keys table) m ⊎ (n ≡ m)
    by true h = inl h
    by false h = elim (in_either (keys table) (n ∷ []) m (subst (λ ks. In ks m) (keys_append table ((n, v) ∷ [])) h)) [
      | inl k ↦ inl k
      | inr (inl k) ↦ inr k
      | inr (inr k) ↦ absurd k
    ]

one_with : (table : Numbers) (n : Bytes) (v : ℤ) (m : Bytes) → In (keys table) m ⊎ (n ≡ m) → In (keys (with_number table n v)) m
one_with table n v m h = by (is_bound table n) refl h
  where
    by : (b : Bool) → is_bound table n ≡ b → In (keys table) m ⊎ (n ≡ m) → In (keys (if b then table else table ++ (n, v) ∷ [])) m
    by true e (inl k) = k
    by true e (inr k) = subst (In (keys table)) k (bound_sound table n e)
    by false e (inl k) = subst (λ ks. In ks m) (sym (keys_append table ((n, v) ∷ []))) (in_left (keys table) (n ∷ []) m k)
    by false e (inr k) = subst (λ ks. In ks m) (sym (keys_append table ((n, v) ∷ []))) (in_right (keys table) (n ∷ []) m (inl k))

with_all : (table : Numbers) (ns : List Bytes) (m : Bytes) → In (keys (with_names table ns)) m → In (keys table) m ⊎ In ns m
with_all table [] m h = inl h
with_all table (n ∷ ns) m h = elim (with_all (with_number table n (pos 0)) ns m h) [
  | inl k ↦ elim (with_one table n (pos 0) m k) [ inl a ↦ inl a | inr b ↦ inr (inl b) ]
  | inr k ↦ inr (inr k)
]

all_with : (table : Numbers) (ns : List Bytes) (m : Bytes) → In (keys table) m ⊎ In ns m → In (keys (with_names table ns)) m
all_with table [] m (inl h) = h
all_with table [] m (inr h) = absurd h
all_with table (n ∷ ns) m (inl h) = all_with (with_number table n (pos 0)) ns m (inl (one_with table n (pos 0) m (inl h)))
all_with table (n ∷ ns) m (inr (inl h)) = all_with (with_number table n (pos 0)) ns m (inl (one_with table n (pos 0) m (inr h)))
all_with table (n ∷ ns) m (inr (inr h)) = all_with (with_number table n (pos 0)) ns m (inr h)

-- ---- bindings: no name stands twice

abbrev pub pairs : List Binding → Numbers
pairs bs = map (λ (b : Binding). (b.name, b.value)) bs

abbrev pub given : List Binding → List Bytes
given bs = map (λ (b : Binding). b.name) bs

keys_pairs : (bs : List Binding) → keys (pairs bs) ≡ given bs
keys_pairs [] = refl
keys_pairs (b ∷ bs) = ap (λ ns. b.name ∷ ns) (keys_pairs bs)

with_new : (table : Numbers) (b : Binding) → is_bound table b.name ≡ false → with_number table b.name b.value ≡ table ++ (b.name, b.value) ∷ []
with_new table b e = ap (λ t. if t then table else table ++ (b.name, b.value) ∷ []) e

pub record Bound (table : Numbers) (bs : List Binding) (out : Numbers) : Type 0 where
  pub is : out ≡ table ++ pairs bs
  pub once : Once (given bs)
  pub apart : (n : Bytes) → In (given bs) n → In (keys table) n → ⊥

bindings_sound : (table : Numbers) (bs : List Binding) (out : Numbers) → with_bindings table bs ≡ Some out → Bound table bs out
bindings_sound table [] out h = let same : table ≡ out = cc in record { is = sym same ∙ append-none table; once = tt; apart = λ n h k. absurd h }
  where
    append-none : (xs : Numbers) → xs ≡ xs ++ []
    append-none [] = refl
    append-none (x ∷ xs) = ap (λ xs. x ∷ xs) (append-none xs)
bindings_sound table (b ∷ bs) out h = by (λ t. bindings_sound t bs out) (is_bound table b.name) refl h
  where
    by : ((t : Numbers) → with_bindings t bs ≡ Some out → Bound t bs out) → (x : Bool) → is_bound table b.name ≡ x
        → (if x then None else with_bindings (with_number table b.name b.value) bs) ≡ Some out → Bound table (b ∷ bs) out
    by later true e h = absurd (cc)
    by later false e h =
        let grown = with_new table b e in
        let s = later (with_number table b.name b.value) h in
        let whole : out ≡ table ++ pairs (b ∷ bs) = s.is ∙ ap (λ t. t ++ pairs bs) grown ∙ append_assoc table ((b.name, b.value) ∷ []) (pairs bs) in
        record {
          is = whole;
          once = (λ k. s.apart b.name (in_contains (given bs) b.name k) (one_with table b.name b.value b.name (inr refl)), s.once);
          apart = λ n here there. not_here n there here;
        }
      where
        s_of : Bound (with_number table b.name b.value) bs out
        s_of = later (with_number table b.name b.value) h

        not_here : (n : Bytes) → In (keys table) n → In (given (b ∷ bs)) n → ⊥
        not_here n there (inl k) = let t : is_bound table b.name ≡ true = bound_complete table b.name (subst (In (keys table)) (sym k) there) in cc
        not_here n there (inr k) = s_of.apart n k (one_with table b.name b.value n (inl there))

bindings_complete : (table : Numbers) (bs : List Binding) → Once (given bs) → ((n : Bytes) → In (given bs) n → In (keys table) n → ⊥) → with_bindings table bs ≡ Some (table ++ pairs bs)
bindings_complete table [] once apart = ap (λ t. Some t) (append-none table)
  where
    append-none : (xs : Numbers) → xs ≡ xs ++ []
    append-none [] = refl
    append-none (x ∷ xs) = ap (λ xs. x ∷ xs) (append-none xs)
bindings_complete table (b ∷ bs) once apart =
    let new : is_bound table b.name ≡ false = false_from_ne_true (is_bound table b.name) (λ t. apart b.name (inl refl) (bound_sound table b.name t)) in
    let later = bindings_complete (with_number table b.name b.value) bs once.1 (λ n here there. elim (with_one table b.name b.value n there) [
      | inl k ↦ apart n (inr here) k
      | inr k ↦ once.0 (contains_in (given bs) b.name (subst (In (given bs)) (sym k) here))
    ]) in
    ap (λ x. if x then None else with_bindings (with_number table b.name b.value) bs) new
    ∙ later ∙ ap (λ t. Some (t ++ pairs bs)) (with_new table b new) ∙ ap (λ t. Some t) (append_assoc table ((b.name, b.value) ∷ []) (pairs bs))

pub once_sound : (bs : List Binding) (out : Numbers) → with_bindings [] bs ≡ Some out → Bound [] bs out
once_sound bs out h = bindings_sound [] bs out h

pub once_complete : (bs : List Binding) → Once (given bs) → with_bindings [] bs ≡ Some (pairs bs)
once_complete bs once = bindings_complete [] bs once (λ n here there. there)

-- ---- each name that is wanted is given

and_true : (b : Bool) → (b && true) ≡ b
and_true true = refl
and_true false = refl

and_and : (a b c : Bool) → ((a && b) && c) ≡ (a && (b && c))
and_and true b c = refl
and_and false b c = refl

all_append : {A : Type 0} (test : A → Bool) (xs ys : List A) → list_all test (xs ++ ys) ≡ (list_all test xs && list_all test ys)
all_append test [] ys = refl
all_append test (x ∷ xs) ys = ap (λ b. test x && b) (all_append test xs ys) ∙ sym (and_and (test x) (list_all test xs) (list_all test ys))

all_flat : {A B : Type 0} (test : B → Bool) (f : A → List B) (each : A → Bool) → ((x : A) → list_all test (f x) ≡ each x) → (xs : List A) → list_all test (flat_map f xs) ≡ list_all each xs
all_flat test f each same [] = refl
all_flat test f each same (x ∷ xs) =
    all_append test (f x) (flat_map f xs) ∙ ap (λ b. b && list_all test (flat_map f xs)) (same x) ∙ ap (λ b. each x && b) (all_flat test f each same xs)

size_bound : (table : Numbers) (e : Extent) → list_all (is_bound table) (sizes_in e) ≡ is_size_bound table e
size_bound table (extent.Size place name) = and_true (is_bound table name)
size_bound table (extent.Fixed place n) = refl

tunable_bound : (table : Numbers) (d : Decl) → list_all (is_bound table) (tunables_in d) ≡ is_tunable_bound table d
tunable_bound table (decl.Tunable place name) = and_true (is_bound table name)
tunable_bound table (decl.List place name) = refl
tunable_bound table (decl.Local place elem name extents) = refl
tunable_bound table (decl.Rchop place name array sizes) = refl
tunable_bound table (decl.Ichop place name array starts ends) = refl

names_bound : (table : Numbers) (v : Variant) → list_all (is_bound table) (names_in v) ≡ are_names_bound table v
names_bound table v =
    all_append (is_bound table) (flat_map (λ (p : Param). flat_map sizes_in p.extents) v.params) (flat_map tunables_in v.decls)
    ∙ ap (λ b. b && list_all (is_bound table) (flat_map tunables_in v.decls))
    (all_flat (is_bound table) (λ (p : Param). flat_map sizes_in p.extents) (are_sizes_bound table) (λ (p : Param). all_flat (is_bound table) sizes_in (is_size_bound table) (size_bound table) p.extents) v.params)
    ∙ ap (λ b. list_all (are_sizes_bound table) v.params && b) (all_flat (is_bound table) tunables_in (is_tunable_bound table) (tunable_bound table) v.decls)

-- a test of all that tells of each
all_sound : {A : Type 0} (test : A → Bool) (P : A → Type 0) → ((x : A) → test x ≡ true → P x) → (xs : List A) → list_all test xs ≡ true → AllByRecursion P xs
all_sound test P tells [] h = tt
all_sound test P tells (x ∷ xs) h = let p = and_parts (test x) (list_all test xs) h in (tells x p.0, all_sound test P tells xs p.1)

all_complete : {A : Type 0} (test : A → Bool) (P : A → Type 0) → ((x : A) → P x → test x ≡ true) → (xs : List A) → AllByRecursion P xs → list_all test xs ≡ true
all_complete test P tells [] h = refl
all_complete test P tells (x ∷ xs) h = and_from _ _ (tells x h.0) (all_complete test P tells xs h.1)

pub all_tell : {A : Type 0} (test : A → Bool) (P : A → Type 0) → ((x : A) → Decides (test x) (P x)) → (xs : List A) → Decides (list_all test xs) (All P xs)
all_tell test P tells xs = (
  λ h. All-from_recursion P xs (all_sound test P (λ x. (tells x).0) xs h),
  λ h. all_complete test P (λ x. (tells x).1) xs (recursion_from_All P xs h),
)

-- ---- together

keys_tell : (table : Numbers) (ns : List Bytes) → keys table ≡ ns → (n : Bytes) → Decides (is_bound table n) (Contains ns n)
keys_tell table ns e n = (
  λ h. contains_in ns n (subst (λ ns. In ns n) e (bound_sound table n h)),
  λ h. bound_complete table n (subst (λ ns. In ns n) (sym e) (in_contains ns n h)),
)

wanted_tell : (ns : List Bytes) (n : Bytes) → Decides (is_bound (with_names [] ns) n) (Contains ns n)
wanted_tell ns n = (
  λ h. elim (with_all [] ns n (bound_sound (with_names [] ns) n h)) [ inl k ↦ absurd k | inr k ↦ contains_in ns n k ],
  λ h. bound_complete (with_names [] ns) n (all_with [] ns n (inr (in_contains ns n h))),
)

list_all_map : {A B : Type 0} (f : A → B) (test : B → Bool) (xs : List A) → list_all test (map f xs) ≡ list_all (λ x. test (f x)) xs
list_all_map f test [] = refl
list_all_map f test (x ∷ xs) = ap (λ b. test (f x) && b) (list_all_map f test xs)

pub bound_tells : (bs : List Binding) (v : Variant) → Once (given bs)
    → Decides (are_names_bound (pairs bs) v && are_wanted (with_names [] (names_in v)) bs) (AreBound (names_in v) (given bs))
bound_tells bs v once =
    let each = all_tell (is_bound (pairs bs)) (Contains (given bs)) (keys_tell (pairs bs) (given bs) (keys_pairs bs)) (names_in v) in
    let other = all_tell (is_bound (with_names [] (names_in v))) (Contains (names_in v)) (wanted_tell (names_in v)) (given bs) in
    let same = list_all_map (λ (b : Binding). b.name) (is_bound (with_names [] (names_in v))) bs in (
      λ h. let p = and_parts (are_names_bound (pairs bs) v) (are_wanted (with_names [] (names_in v)) bs) h in
          record { once = once; each = each.0 (names_bound (pairs bs) v ∙ p.0); other = other.0 (same ∙ p.1) },
      λ h. and_from _ _ (sym (names_bound (pairs bs) v) ∙ each.1 h.each) (sym same ∙ other.1 h.other),
    )
