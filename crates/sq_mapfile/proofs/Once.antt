-- Lists of names: which names are among them, and that each stands there once.
use Rattle.std.proofs.Common.{◌≡◌, ℕ, zero, suc, ◌+◌, Bool, true, false, ◌||◌, cond, if◌then◌else◌, nat_lt, List, [], ◌∷◌, ◌++◌, map, length, Option, Some, None, refl, sym, ◌∙◌, ap, subst, arith, is_some, length-append, append-nil, true≢false, ◌⊎◌, inl, inr, append_assoc}
use Rattle.std.specs.List.{slice_get, list_any}
use Rattle.std.specs.Map.{lookup}
use Rattle.std.proofs.lemmas.Bool.Decides.{leb_tells}
use Rattle.std.proofs.lemmas.Slice.Eq.{bytes_eq-Decides}
use Rattle.std.proofs.lemmas.List.Folds.{list_any-append}
use Rattle.sq_text.specs.Names.{Bytes, same_name}
use Rattle.sq_mapping.proofs.Same.{same, itself}
use Rattle.sq_mapping.specs.Names.{is_among, first_from}
use Rattle.sq_mapfile.specs.Names.{stands_before}
use Rattle.sq_mapfile.specs.Faults.{first_missing}
use Rattle.sq_mapping.specs.Sound.{EachOnce}

-- a name is the first of the list, or among the others
pub among_cases : (first : Bytes) (rest : List Bytes) (name : Bytes) → is_among (first ∷ rest) name ≡ true → (name ≡ first) ⊎ (is_among rest name ≡ true)
among_cases first rest name h = cases (same_name name first) refl h
  where
    cases : (b : Bool) → same_name name first ≡ b → (b || is_among rest name) ≡ true → (name ≡ first) ⊎ (is_among rest name ≡ true)
    cases true e h = inl (same name first e)
    cases false e h = inr h

pub among_first : (first : Bytes) (rest : List Bytes) → is_among (first ∷ rest) first ≡ true
among_first first rest = rw (itself first) refl

pub among_rest : (first : Bytes) (rest : List Bytes) (name : Bytes) → is_among rest name ≡ true → is_among (first ∷ rest) name ≡ true
among_rest first rest name h = cases (same_name name first)
  where
    cases : (b : Bool) → (b || is_among rest name) ≡ true
    cases true = refl
    cases false = h

-- ---- each name behind the ones before it

pub data NewBehind : List Bytes → List Bytes → Type 0 where
  no_more : {before : List Bytes} → NewBehind before []
  a_new : {before : List Bytes} (name : Bytes) {rest : List Bytes} → is_among before name ≡ false → NewBehind (before ++ name ∷ []) rest → NewBehind before (name ∷ rest)

among_appended : (before more : List Bytes) (name : Bytes) → is_among before name ≡ true → is_among (before ++ more) name ≡ true
among_appended before more name h = list_any-append (same_name name) before more ∙ ap (λ b. b || is_among more name) h

among_last : (before : List Bytes) (name : Bytes) → is_among (before ++ name ∷ []) name ≡ true
among_last [] name = among_first name []
among_last (first ∷ before) name = among_rest first (before ++ name ∷ []) name (among_last before name)

not_before : {before names : List Bytes} → NewBehind before names → (k : ℕ) (name : Bytes) → is_among before name ≡ true → slice_get names k ≡ Some name → ⊥
not_before no_more k name h at = absurd (cc)
not_before {before} (a_new first new more) zero name h at =
    let is : first ≡ name = cc in true≢false (sym h ∙ ap (is_among before) (sym is) ∙ new)
not_before {before} (a_new first new more) (suc k) name h at = not_before more k name (among_appended before (first ∷ []) name h) at

pub each_once : {before names : List Bytes} → NewBehind before names → EachOnce names
each_once no_more i j name p q = absurd (cc)
each_once (a_new first new more) zero zero name p q = refl
each_once {before} (a_new first new more) zero (suc j) name p q =
    let is : first ≡ name = cc in absurd (not_before more j name (subst (λ n. is_among (before ++ first ∷ []) n ≡ true) is (among_last before first)) q)
each_once {before} (a_new first new more) (suc i) zero name p q =
    let is : first ≡ name = cc in absurd (not_before more i name (subst (λ n. is_among (before ++ first ∷ []) n ≡ true) is (among_last before first)) p)
each_once (a_new first new more) (suc i) (suc j) name p q = ap suc (each_once more i j name p q)

-- ---- the first of a name

abbrev pub has_name : Option Bytes → Bytes → Bool
has_name None name = false
has_name (Some n) name = same_name name n

abbrev pub with_first : Option Bytes → List Bytes → List Bytes
with_first None names = names
with_first (Some name) names = name ∷ names

below_true : (m n : ℕ) → suc m + n ≡ suc m + n → nat_lt m (suc m + n) ≡ true
below_true m n h = elim (leb_tells (suc m) (suc m + n)) [ inl k ↦ k.0 | inr k ↦ absurd (omega (arith, k.1)) ]

not_below : (m : ℕ) → nat_lt m (m + 0) ≡ false
not_below m = elim (leb_tells (suc m) (m + 0)) [ inl k ↦ absurd (omega (arith, k.1)) | inr k ↦ k.0 ]

pub first_same : {A : Type 0} (p q : A → Bool) → ((x : A) → p x ≡ q x) → (i : ℕ) (xs : List A) → first_from p i xs ≡ first_from q i xs
first_same p q e i [] = refl
first_same p q e i (x ∷ rest) = ap (λ b. if b then Some i else first_from p (suc i) rest) (e x) ∙ ap (λ o. if q x then Some i else o) (first_same p q e (suc i) rest)

-- the first that passes a test stands before one that passes it where another before that one passes it
pub any_before : {A : Type 0} (test : A → Bool) (i : ℕ) (before rest : List A) (x : A) → test x ≡ true
    → stands_before (first_from test i (before ++ x ∷ rest)) (i + length before) ≡ list_any test before
any_before test i [] rest x h = rw h (not_below i)
any_before {A} test i (y ∷ before) rest x h = cases (any_before test (suc i) before rest x h) (test y) refl
  where
    at : suc i + length before ≡ i + suc (length before)
    at = omega arith

    cases : stands_before (first_from test (suc i) (before ++ x ∷ rest)) (suc i + length before) ≡ list_any test before → (b : Bool) → test y ≡ b
        → stands_before (if b then Some i else first_from test (suc i) (before ++ x ∷ rest)) (i + suc (length before)) ≡ (b || list_any test before)
    cases again true e = subst (λ k. nat_lt i k ≡ true) at (below_true i (length before) refl)
    cases again false e = subst (λ k. stands_before (first_from test (suc i) (before ++ x ∷ rest)) k ≡ list_any test before) at again

some_any : {A : Type 0} (test : A → Bool) (i : ℕ) (xs : List A) → is_some (first_from test i xs) ≡ list_any test xs
some_any test i [] = refl
some_any test i (x ∷ rest) = cases (some_any test (suc i) rest) (test x)
  where
    cases : is_some (first_from test (suc i) rest) ≡ list_any test rest → (b : Bool) → is_some (if b then Some i else first_from test (suc i) rest) ≡ (b || list_any test rest)
    cases again true = refl
    cases again false = again

module _ {A : Type 0} (name_of : A → Option Bytes) where
  abbrev pub names : List A → List Bytes
  names [] = []
  names (x ∷ xs) = with_first (name_of x) (names xs)

  among_names : (xs : List A) (n : Bytes) → list_any (λ x. has_name (name_of x) n) xs ≡ is_among (names xs) n
  among_names [] n = refl
  among_names (x ∷ xs) n = cases (among_names xs n) (name_of x)
    where
      cases : list_any (λ x. has_name (name_of x) n) xs ≡ is_among (names xs) n → (o : Option Bytes) → (has_name o n || list_any (λ x. has_name (name_of x) n) xs) ≡ is_among (with_first o (names xs)) n
      cases again None = again
      cases again (Some m) = ap (λ b. same_name n m || b) again

  -- a name is among those of a list where the list has a first of the name
  pub some_first : (i : ℕ) (xs : List A) (n : Bytes) → is_some (first_from (λ x. has_name (name_of x) n) i xs) ≡ is_among (names xs) n
  some_first i xs n = some_any (λ x. has_name (name_of x) n) i xs ∙ among_names xs n

  names_append : (xs : List A) (x : A) → names (xs ++ x ∷ []) ≡ names xs ++ with_first (name_of x) []
  names_append [] x = refl
  names_append (y ∷ xs) x = cases (names_append xs x) (name_of y)
    where
      cases : names (xs ++ x ∷ []) ≡ names xs ++ with_first (name_of x) [] → (o : Option Bytes) → with_first o (names (xs ++ x ∷ [])) ≡ with_first o (names xs) ++ with_first (name_of x) []
      cases again None = again
      cases again (Some m) = ap (λ ns. m ∷ ns) again

  -- no item of a name stands before one of it
  abbrev pub NoneBefore : List A → ℕ → List A → Type 0
  NoneBefore whole i rest = (k : ℕ) (x : A) (n : Bytes) → slice_get rest k ≡ Some x → name_of x ≡ Some n
      → stands_before (first_from (λ y. has_name (name_of y) n) 0 whole) (i + k) ≡ false

  new_behind : (whole before rest : List A) → whole ≡ before ++ rest → NoneBefore whole (length before) rest → NewBehind (names before) (names rest)
  new_behind whole before [] is h = no_more
  new_behind whole before (x ∷ rest) is h =
      cases (name_of x) refl (subst (λ ns. NewBehind ns (names rest)) (names_append before x)
      (new_behind whole (before ++ x ∷ []) rest (is ∙ sym (append_assoc before (x ∷ []) rest))
      (λ k y n there name. subst (λ i. stands_before (first_from (λ y. has_name (name_of y) n) 0 whole) i ≡ false) (sym (at k)) (h (suc k) y n there name))))
    where
      at : (k : ℕ) → length (before ++ x ∷ []) + k ≡ length before + suc k
      at k = let l : length (before ++ x ∷ []) ≡ length before + 1 = length-append before (x ∷ []) in omega (arith, l)

      passes : (n : Bytes) → name_of x ≡ Some n → has_name (name_of x) n ≡ true
      passes n e = ap (λ o. has_name o n) e ∙ itself n

      here : (n : Bytes) → name_of x ≡ Some n → stands_before (first_from (λ y. has_name (name_of y) n) 0 (before ++ x ∷ rest)) (0 + length before) ≡ false
      here n e = let zero_at : length before + 0 ≡ 0 + length before = omega arith in
          subst (λ i. stands_before (first_from (λ y. has_name (name_of y) n) 0 (before ++ x ∷ rest)) i ≡ false) zero_at
          (subst (λ xs. stands_before (first_from (λ y. has_name (name_of y) n) 0 xs) (length before + 0) ≡ false) is (h 0 x n refl e))

      fresh : (n : Bytes) → name_of x ≡ Some n → is_among (names before) n ≡ false
      fresh n e = sym (any_before (λ y. has_name (name_of y) n) 0 before rest x (passes n e) ∙ among_names before n) ∙ here n e

      cases : (o : Option Bytes) → name_of x ≡ o → NewBehind (names before ++ with_first o []) (names rest) → NewBehind (names before) (with_first o (names rest))
      cases None e new = subst (λ ns. NewBehind ns (names rest)) (append-nil (names before)) new
      cases (Some n) e new = a_new n (fresh n e) new

  pub all_once : (xs : List A) → NoneBefore xs 0 xs → EachOnce (names xs)
  all_once xs h = each_once (new_behind xs [] xs refl h)

-- ---- none is missing

pub none_missing : (given : Bytes → Bool) (wanted : List Bytes) → first_missing given wanted ≡ None → (name : Bytes) → is_among wanted name ≡ true → given name ≡ true
none_missing given [] h name w = absurd (true≢false (sym w))
none_missing given (first ∷ rest) h name w = cases (λ h later. none_missing given rest h name later) (given first) refl h
  where
    cases : (first_missing given rest ≡ None → is_among rest name ≡ true → given name ≡ true)
        → (b : Bool) → given first ≡ b → (if b then first_missing given rest else Some first) ≡ None → given name ≡ true
    cases again true e h = elim (among_cases first rest name w) [ inl is ↦ ap given is ∙ e | inr later ↦ again h later ]
    cases again false e h = absurd (cc)

-- ---- tables

pub keys_of : {X : Type 0} (table : List (Bytes × X)) (name : Bytes) (x : X) → lookup (same_name name) table ≡ Some x → is_among (map (λ t. t.0) table) name ≡ true
keys_of [] name x h = absurd (cc)
keys_of {X} (first ∷ rest) name x h = cases (same_name name first.0) (keys_of rest name x) h
  where
    cases : (b : Bool) → (lookup (same_name name) rest ≡ Some x → is_among (map (λ t. t.0) rest) name ≡ true)
        → cond b (Some first.1) (lookup (same_name name) rest) ≡ Some x → (b || is_among (map (λ t. t.0) rest) name) ≡ true
    cases true again h = refl
    cases false again h = again h
