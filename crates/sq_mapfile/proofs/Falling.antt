-- Every call leads to an instance of a lower rank.
use Rattle.std.proofs.Common.{◌≡◌, ◌⊎◌, inl, inr, ℕ, zero, suc, ◌<◌, ◌≤◌, max, Bool, true, false, ◌||◌, List, [], ◌∷◌, length, map, Option, Some, None, refl, sym, ◌∙◌, ap, subst, arith, eqb}
use Rattle.std.specs.List.{slice_get, fold, list_any, IsDistinct, AllByRecursion}
use Rattle.std.specs.Option.{option_map, option_map_or}
use Rattle.std.proofs.lemmas.Bool.{cases_lt, eqb-true}
use Rattle.std.proofs.lemmas.Option.{slice_get-map, slice_get_within}
use Rattle.std.proofs.lemmas.Map.Steps.{length-le_from_distinct_below}
use Rattle.sq_machfile.proofs.Families.{made_of}
use Rattle.sq_machfile.proofs.Hierarchies.{greatest_of}
use Rattle.sq_mapping.specs.declared.mapping.Route.{Route}
use Rattle.sq_mapping.specs.declared.mapping.Instance.{Instance}
use Rattle.sq_mapfile.specs.Ranks.{callees, longest, rank}
use Rattle.sq_mapping.specs.Sound.{Calls, LeadsTo, by_call, further}

-- ---- the greatest of numbers

-- it is the first or one of the others
greatest_reached : (a : ℕ) (ns : List ℕ) → (fold max a ns ≡ a) ⊎ ((i : ℕ) × (slice_get ns i ≡ Some (fold max a ns)))
greatest_reached a [] = inl refl
greatest_reached a (n ∷ ns) = by_case (greatest_reached (max a n) ns) (cases_lt a n)
  where
    by_case : (fold max (max a n) ns ≡ max a n) ⊎ ((i : ℕ) × (slice_get ns i ≡ Some (fold max (max a n) ns))) → (a < n) ⊎ (n ≤ a)
        → (fold max (max a n) ns ≡ a) ⊎ ((i : ℕ) × (slice_get (n ∷ ns) i ≡ Some (fold max (max a n) ns)))
    by_case (inl e) (inl lt) = let is : n ≡ fold max (max a n) ns = omega (arith, e, lt) in inr (0, ap Some is)
    by_case (inl e) (inr le) = inl (omega (arith, e, le))
    by_case (inr r) c = inr (suc r.0, r.1)

-- ---- chains of calls

-- so many calls follow one another from an instance on
data Chain (instances : List Instance) : ℕ → ℕ → Type 0 where
  no_call : {a : ℕ} → Chain instances 0 a
  one_more : {j a b : ℕ} → Calls instances a b → Chain instances j b → Chain instances (suc j) a

abbrev instance_of : Route → ℕ
instance_of route = route.instance

abbrev routes_to : Option Instance → List ℕ
routes_to o = option_map_or (λ x. map (λ route. route.instance) x.routes) o []

module _ (instances : List Instance) where
  call_of : (a i b : ℕ) → slice_get (callees instances a) i ≡ Some b → Calls instances a b
  call_of a i b e = by_case (slice_get instances a) refl e
    where
      none : (i : ℕ) → slice_get [] i ≡ Some b → ⊥
      none zero e = absurd (cc)
      none (suc i) e = absurd (cc)

      by_case : (o : Option Instance) → slice_get instances a ≡ o → slice_get (routes_to o) i ≡ Some b → Calls instances a b
      by_case None there e = absurd (none i e)
      by_case (Some x) there e =
          let r = made_of instance_of x.routes i b e in
          record { caller = x; there = there; index = i; route = r.one; among = r.there; to = r.is }

  callee_there : (a b : ℕ) (c : Calls instances a b) → slice_get (callees instances a) c.index ≡ Some b
  callee_there a b c =
      ap (λ o. slice_get (routes_to o) c.index) c.there ∙ slice_get-map instance_of c.caller.routes c.index ∙ ap (option_map instance_of) c.among ∙ ap Some c.to

  -- what is found are calls
  chain_of : (most a : ℕ) → Chain instances (longest most instances a) a
  chain_of zero a = no_call
  chain_of (suc most) a = by_case (λ b. chain_of most b) (greatest_reached 0 (map (λ b. suc (longest most instances b)) (callees instances a)))
    where
      by_case : ((b : ℕ) → Chain instances (longest most instances b) b) → (fold max 0 (map (λ b. suc (longest most instances b)) (callees instances a)) ≡ 0) ⊎ ((i : ℕ) × (slice_get (map (λ b. suc (longest most instances b)) (callees instances a)) i ≡ Some (fold max 0 (map (λ b. suc (longest most instances b)) (callees instances a)))))
          → Chain instances (fold max 0 (map (λ b. suc (longest most instances b)) (callees instances a))) a
      by_case more (inl e) = subst (λ j. Chain instances j a) (sym e) no_call
      by_case more (inr r) =
          let made = made_of (λ b. suc (longest most instances b)) (callees instances a) r.0 (fold max 0 (map (λ b. suc (longest most instances b)) (callees instances a))) r.1 in
          subst (λ j. Chain instances j a) made.is (one_more (call_of a r.0 made.one made.there) (more made.one))

  -- and no fewer than there are
  at_least : (most j a : ℕ) → Chain instances j a → j ≤ most → j ≤ longest most instances a
  at_least most zero a c le = omega arith
  at_least zero (suc j) a c le = absurd (omega (arith, le))
  at_least (suc most) (suc j) a (one_more {b = b} call rest) le =
      let more = at_least most j b rest (omega (arith, le)) in
      let among = greatest_of 0 (map (λ b. suc (longest most instances b)) (callees instances a)) call.index (suc (longest most instances b))
      (slice_get-map (λ b. suc (longest most instances b)) (callees instances a) call.index ∙ ap (option_map (λ b. suc (longest most instances b))) (callee_there a b call)) in
      omega (arith, more, among)

  -- ---- no more than there are instances

  abbrev callers : {j a : ℕ} → Chain instances j a → List ℕ
  callers no_call = []
  callers (one_more {a = a} call rest) = a ∷ callers rest

  as_many : {j a : ℕ} (c : Chain instances j a) → length (callers c) ≡ j
  as_many no_call = refl
  as_many (one_more call rest) = ap suc (as_many rest)

  each_below : {j a : ℕ} (c : Chain instances j a) (q : ℕ) → list_any (eqb q) (callers c) ≡ true → q < length instances
  each_below no_call q e = absurd (cc)
  each_below (one_more {a = a} call rest) q e = by_case (eqb q a) refl (each_below rest q) e
    where
      by_case : (b : Bool) → eqb q a ≡ b → (list_any (eqb q) (callers rest) ≡ true → q < length instances) → (b || list_any (eqb q) (callers rest)) ≡ true → q < length instances
      by_case true is more e = let same = eqb-true q a is in let within = slice_get_within instances a call.caller call.there in omega (arith, same, within)
      by_case false is more e = more e

  module _ (acyclic : (a : ℕ) → LeadsTo instances a a → ⊥) where
    differs : (a b : ℕ) → LeadsTo instances a b → eqb a b ≡ false
    differs a b l = by_case (eqb a b) refl
      where
        by_case : (t : Bool) → eqb a b ≡ t → t ≡ false
        by_case true e = absurd (acyclic a (subst (λ c. LeadsTo instances a c) (sym (eqb-true a b e)) l))
        by_case false e = refl

    all_differ : (a : ℕ) {j b : ℕ} → LeadsTo instances a b → (c : Chain instances j b) → AllByRecursion (λ y. eqb a y ≡ false) (callers c)
    all_differ a l no_call = tt
    all_differ a l (one_more {a = b} call rest) = (differs a b l, all_differ a (further l call) rest)

    distinct : {j a : ℕ} (c : Chain instances j a) → IsDistinct eqb (callers c)
    unfolding IsDistinct
    distinct no_call = tt
    distinct (one_more {a = a} call rest) = (all_differ a (by_call call) rest, distinct rest)

    few : (j a : ℕ) → Chain instances j a → j ≤ length instances
    few j a c = let long = as_many c in let le = length-le_from_distinct_below (callers c) (length instances) (distinct c) (each_below c) in omega (arith, long, le)

    pub bound : (a : ℕ) → rank instances a ≤ length instances
    bound a = few (rank instances a) a (chain_of (length instances) a)

    pub falls : (a b : ℕ) → Calls instances a b → rank instances b < rank instances a
    falls a b call =
        let chain = one_more call (chain_of (length instances) b) in
        at_least (length instances) (suc (rank instances b)) a chain (few (suc (rank instances b)) a chain)
