-- A text whose mapping is sound breaks no rule of names.
use Rattle.std.proofs.Common.{◌≡◌, ℕ, zero, suc, Bool, true, false, ◌&&◌, ◌||◌, nat_lt, inl, inr, List, [], ◌∷◌, map, Option, Some, None, refl, sym, ◌∙◌, ap, subst, arith, true≢false}
use Rattle.std.specs.List.{slice_get, list_any}
use Rattle.std.proofs.lemmas.Bool.Decides.{leb_tells}
use Rattle.sq_text.specs.Names.{Bytes, same_name}
use Rattle.sq_text.specs.declared.word.Word.{Word}
use Rattle.sq_ast.specs.declared.program.VariantKind.{VariantKind}
use Rattle.sq_ast.specs.declared.program.Variant.{Variant}
use Rattle.sq_machfile.specs.declared.level.Level.{Level}
use Rattle.sq_mapfile.specs.declared.text.Alternatives.{Alternatives}
use Rattle.sq_mapping.specs.declared.mapping.Tuning.{Tuning}
use Rattle.sq_mapping.specs.declared.mapping.Route.{Route}
use Rattle.sq_mapping.specs.declared.mapping.Instance.{Instance}
use Rattle.sq_mapfile.specs.declared.text.ItemText.{ItemText}
use Rattle.sq_mapfile.specs.declared.text.ItemText.TheVariants.{Tunable, Call, Spread}
use Rattle.sq_mapfile.specs.declared.text.InstanceText.{InstanceText}
use Rattle.sq_mapping.specs.Names.{is_among, first_from, at_index, is_variant, variant_index, variant_of}
use Rattle.sq_mapfile.specs.Names.{stands_before, index_of, has_task}
use Rattle.sq_mapfile.specs.Faults.{first_missing}
use Rattle.sq_mapfile.specs.Mappings.{AreRoutes, no_route, no_call, no_rule, a_route, IsInstance, AreInstances, none_left, one_more, tunings_of}
use Rattle.sq_mapping.specs.Sound.{EachOnce}
use Rattle.sq_mapfile.proofs.Indices.{found_at}
use Rattle.sq_mapping.proofs.Same.{same}
use Rattle.sq_mapfile.proofs.Once.{among_first, among_rest, has_name, with_first, names}
use Rattle.sq_mapfile.proofs.Facts.{call_name}

pub not_itself : (i : ℕ) → nat_lt i i ≡ false
not_itself i = elim (leb_tells (suc i) i) [ inl k ↦ absurd (omega (arith, k.1)) | inr k ↦ k.0 ]

-- where no other item passes the test, none stands before this one
none_before : {A : Type 0} (test : A → Bool) (xs : List A) (i : ℕ) → ((j : ℕ) (y : A) → slice_get xs j ≡ Some y → test y ≡ true → j ≡ i) → stands_before (first_from test 0 xs) i ≡ false
none_before {A} test xs i once = cases (first_from test 0 xs) refl
  where
    cases : (o : Option ℕ) → first_from test 0 xs ≡ o → stands_before o i ≡ false
    cases None e = refl
    cases (Some j) e =
        let at = found_at test 0 j xs e in
        let there = once at.offset at.item at.there at.passes in
        let is : i ≡ j = omega (arith, there, at.is) in
        subst (λ k. nat_lt k i ≡ false) is (not_itself i)

-- ---- lists whose names stand once

tail_once : (n : Bytes) (ns : List Bytes) → EachOnce (n ∷ ns) → EachOnce ns
tail_once n ns h i j name p q = let e : suc i ≡ suc j = h (suc i) (suc j) name p q in omega (arith, e)

record Named (ns : List Bytes) (n : Bytes) : Type 0 where
  pub index : ℕ
  pub there : slice_get ns index ≡ Some n

module _ {A : Type 0} (name_of : A → Option Bytes) where
  named_at : (xs : List A) (i : ℕ) (x : A) (n : Bytes) → slice_get xs i ≡ Some x → name_of x ≡ Some n → Named (names name_of xs) n
  named_at [] i x n at is = absurd (cc)
  named_at (y ∷ rest) zero x n at is =
      let e : y ≡ x = cc in
      subst (λ o. Named (with_first o (names name_of rest)) n) (sym (ap name_of e ∙ is)) (record { index = 0; there = refl })
  named_at (y ∷ rest) (suc i) x n at is = go (named_at rest i x n at is) (name_of y)
    where
      go : Named (names name_of rest) n → (o : Option Bytes) → Named (with_first o (names name_of rest)) n
      go h None = h
      go h (Some m) = record { index = suc h.index; there = h.there }

  pub among_at : (xs : List A) (i : ℕ) (x : A) (n : Bytes) → slice_get xs i ≡ Some x → name_of x ≡ Some n → is_among (names name_of xs) n ≡ true
  among_at [] i x n at is = absurd (cc)
  among_at (y ∷ rest) zero x n at is =
      let e : y ≡ x = cc in subst (λ o. is_among (with_first o (names name_of rest)) n ≡ true) (sym (ap name_of e ∙ is)) (among_first n (names name_of rest))
  among_at (y ∷ rest) (suc i) x n at is = go (among_at rest i x n at is) (name_of y)
    where
      go : is_among (names name_of rest) n ≡ true → (o : Option Bytes) → is_among (with_first o (names name_of rest)) n ≡ true
      go h None = h
      go h (Some m) = among_rest m (names name_of rest) n h

  rest_once : (o : Option Bytes) (ns : List Bytes) → EachOnce (with_first o ns) → EachOnce ns
  rest_once None ns h = h
  rest_once (Some m) ns h = tail_once m ns h

  not_both : (o : Option Bytes) (ns : List Bytes) (n : Bytes) → EachOnce (with_first o ns) → o ≡ Some n → Named ns n → ⊥
  not_both None ns n h e there = cc
  not_both (Some m) ns n h e there =
      let is : m ≡ n = cc in
      let front : slice_get (m ∷ ns) 0 ≡ Some n = ap Some is in
      let e : 0 ≡ suc there.index = h 0 (suc there.index) n front there.there in omega (arith, e)

  pub item_once : (xs : List A) → EachOnce (names name_of xs) → (i j : ℕ) (x y : A) (n : Bytes) → slice_get xs i ≡ Some x → name_of x ≡ Some n
      → slice_get xs j ≡ Some y → name_of y ≡ Some n → j ≡ i
  item_once [] h i j x y n p a q b = absurd (cc)
  item_once (z ∷ rest) h zero zero x y n p a q b = refl
  item_once (z ∷ rest) h zero (suc j) x y n p a q b =
      let e : z ≡ x = cc in absurd (not_both (name_of z) (names name_of rest) n h (ap name_of e ∙ a) (named_at rest j y n q b))
  item_once (z ∷ rest) h (suc i) zero x y n p a q b =
      let e : z ≡ y = cc in absurd (not_both (name_of z) (names name_of rest) n h (ap name_of e ∙ b) (named_at rest i x n p a))
  item_once (z ∷ rest) h (suc i) (suc j) x y n p a q b = ap suc (item_once rest (rest_once (name_of z) (names name_of rest) h) i j x y n p a q b)

  named_is : (o : Option Bytes) (n : Bytes) → has_name o n ≡ true → o ≡ Some n
  named_is None n h = absurd (true≢false (sym h))
  named_is (Some m) n h = ap Some (sym (same n m h))

  -- an item whose name stands once has none of the name before it
  pub none_named_before : (xs : List A) → EachOnce (names name_of xs) → (i : ℕ) (x : A) (n : Bytes) → slice_get xs i ≡ Some x → name_of x ≡ Some n
      → stands_before (first_from (λ y. has_name (name_of y) n) 0 xs) i ≡ false
  none_named_before xs h i x n at is = none_before (λ y. has_name (name_of y) n) xs i (λ j y there passes. item_once xs h i j x y n at is there (named_is (name_of y) n passes))

-- ---- what is required is given

pub all_given : (given : Bytes → Bool) (wanted : List Bytes) → ((n : Bytes) → is_among wanted n ≡ true → given n ≡ true) → first_missing given wanted ≡ None
all_given given [] h = refl
all_given given (n ∷ rest) h = rw (h n (among_first n rest)) (all_given given rest (λ m there. h m (among_rest n rest m there)))

any_at : {A : Type 0} (test : A → Bool) (xs : List A) (k : ℕ) (x : A) → slice_get xs k ≡ Some x → test x ≡ true → list_any test xs ≡ true
any_at test [] k x at h = absurd (cc)
any_at test (y ∷ rest) zero x at h = let e : y ≡ x = cc in rw (ap test e ∙ h) refl
any_at test (y ∷ rest) (suc k) x at h = go (any_at test rest k x at h) (test y)
  where
    go : list_any test rest ≡ true → (b : Bool) → (b || list_any test rest) ≡ true
    go h true = refl
    go h false = h

both_true : (a b : Bool) → (a && b) ≡ true → a ≡ true
both_true true b h = refl
both_true false b h = h

pub task_there : (variants : List Variant) (task : Bytes) (kind : VariantKind) (v : Variant) → variant_of variants task kind ≡ Some v → has_task variants task ≡ true
task_there variants task kind v h = cases (variant_index variants task kind) refl h
  where
    cases : (o : Option ℕ) → variant_index variants task kind ≡ o → at_index variants o ≡ Some v → has_task variants task ≡ true
    cases None e h = absurd (cc)
    cases (Some j) e h =
        let at = found_at (is_variant task kind) 0 j variants e in
        any_at (λ v. same_name task v.task) variants at.offset at.item at.there (both_true (same_name task at.item.task) _ at.passes)

-- ---- texts and what they stand for

pub record Made (levels : List Level) (instances : List InstanceText) (found : List Instance) (k : ℕ) (x : InstanceText) : Type 0 where
  pub instance : Instance
  pub there : slice_get found k ≡ Some instance
  pub is : IsInstance levels instances x instance

pub made_at : {levels : List Level} {instances xs : List InstanceText} {found : List Instance} → AreInstances levels instances xs found → (k : ℕ) (x : InstanceText) → slice_get xs k ≡ Some x
    → Made levels instances found k x
made_at none_left k x at = absurd (cc)
made_at {levels} {instances} (one_more {x = y} {instance = a} h more) zero x at =
    let e : y ≡ x = cc in record { instance = a; there = refl; is = subst (λ y. IsInstance levels instances y a) e h }
made_at (one_more h more) (suc k) x at = let m = made_at more k x at in record { instance = m.instance; there = m.there; is = m.is }

pub record Text (levels : List Level) (instances xs : List InstanceText) (k : ℕ) (a : Instance) : Type 0 where
  pub text : InstanceText
  pub there : slice_get xs k ≡ Some text
  pub is : IsInstance levels instances text a

pub text_at : {levels : List Level} {instances xs : List InstanceText} {found : List Instance} → AreInstances levels instances xs found → (k : ℕ) (a : Instance) → slice_get found k ≡ Some a
    → Text levels instances xs k a
text_at none_left k a at = absurd (cc)
text_at {levels} {instances} (one_more {x = x} {instance = b} h more) zero a at =
    let e : b ≡ a = cc in record { text = x; there = refl; is = subst (IsInstance levels instances x) e h }
text_at (one_more h more) (suc k) a at = let t = text_at more k a at in record { text = t.text; there = t.there; is = t.is }

pub tasks_of : {instances : List InstanceText} {items : List ItemText} {routes : List Route} → AreRoutes instances items routes → map (λ (route : Route). route.task) routes ≡ names call_name items
tasks_of no_route = refl
tasks_of (no_call p) = tasks_of p
tasks_of (no_rule p) = tasks_of p
tasks_of (a_route {task = task} e p) = ap (λ ns. task.name ∷ ns) (tasks_of p)

pub record RouteAt (instances : List InstanceText) (routes : List Route) (task name : Word) : Type 0 where
  pub index : ℕ
  pub route : Route
  pub there : slice_get routes index ≡ Some route
  pub task_is : route.task ≡ task.name
  pub to : index_of instances name.name ≡ Some route.instance

pub route_at : {instances : List InstanceText} {items : List ItemText} {routes : List Route} → AreRoutes instances items routes → (i : ℕ) (task name : Word)
    → slice_get items i ≡ Some (Call task name) → RouteAt instances routes task name
route_at no_route i task name at = absurd (cc)
route_at (no_call p) zero task name at = absurd (cc)
route_at (no_call p) (suc i) task name at = route_at p i task name at
route_at (no_rule p) zero task name at = absurd (cc)
route_at (no_rule p) (suc i) task name at = route_at p i task name at
route_at {instances} (a_route {task = t} {name = n} {i = j} {routes = routes} e p) zero task name at =
    let same_item : Call t n ≡ Call task name = cc in
    let same_task : t ≡ task = ap called same_item in
    let same_callee : n ≡ name = ap named same_item in
    record { index = 0; route = record { task = t.name; instance = j }; there = refl; task_is = ap (λ (w : Word). w.name) same_task; to = subst (λ (w : Word). index_of instances w.name ≡ Some j) same_callee e }
  where
    none : Word
    none = record { place = record { line = 0; col = 0 }; name = [] }

    called : ItemText → Word
    called (Call a b) = a
    called _ = none

    named : ItemText → Word
    named (Call a b) = b
    named _ = none
route_at (a_route e p) (suc i) task name at = let r = route_at p i task name at in record { index = suc r.index; route = r.route; there = r.there; task_is = r.task_is; to = r.to }

pub record TuningAt (items : List ItemText) (name : Word) (values : Alternatives) : Type 0 where
  pub index : ℕ
  pub there : slice_get (tunings_of items) index ≡ Some (record { name = name.name; setting = values.first })

pub tuning_at : (items : List ItemText) (i : ℕ) (name : Word) (values : Alternatives) → slice_get items i ≡ Some (Tunable name values) → TuningAt items name values
tuning_at [] i name setting at = absurd (cc)
tuning_at (Tunable m x ∷ rest) zero name values at =
    let e : Tunable m x ≡ Tunable name values = cc in
    record { index = 0; there = ap tuning e }
  where
    tuning : ItemText → Option Tuning
    tuning (Tunable m x) = Some (record { name = m.name; setting = x.first })
    tuning _ = None
tuning_at (Call t m ∷ rest) zero name values at = absurd (cc)
tuning_at (Spread w r ∷ rest) zero name values at = absurd (cc)
tuning_at (Tunable m x ∷ rest) (suc i) name values at = let t = tuning_at rest i name values at in record { index = suc t.index; there = t.there }
tuning_at (Call t m ∷ rest) (suc i) name values at = let t = tuning_at rest i name values at in record { index = t.index; there = t.there }
tuning_at (Spread w r ∷ rest) (suc i) name values at = let t = tuning_at rest i name values at in record { index = t.index; there = t.there }
