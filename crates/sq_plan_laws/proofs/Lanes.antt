-- The iterations of a loop whose transfers overlap: at which position of which list each stands.
use Rattle.std.proofs.Common.{◌≡◌, ◌≢◌, ℕ, zero, suc, ◌<◌, ◌==◌, eqb, Bool, true, false, cond, List}
use Rattle.std.proofs.Common.{length, get_or, Option, Some, None, refl, sym, ap, ◌∙◌, subst, arith, ⊎_elim, inl, inr}
use Rattle.std.proofs.Common.{◌⊎◌}
use Rattle.std.proofs.lemmas.Bool.Decides.{nat_tests}
use Rattle.std.specs.List.{filter, range_with_len, Contains}
use mathlib.Core.Path.{fun_ext}
use Rattle.sq_text.specs.declared.place.Place.{Place}
use Rattle.sq_text.specs.declared.spread.SpreadRule.{SpreadRule}
use Rattle.sq_text.specs.Spreading as spreading
use Rattle.sq_ir.specs.Scopes.{Scope}
use Rattle.sq_ir.specs.Written.{Setting, PlanTree}
use Rattle.sq_placed.specs.Trees.{pipeline_tree}
use Rattle.sq_cells.specs.Machine.{Node, fan_of, lane, lane_of}
use Rattle.sq_cells.specs.Lowered.{how_many, mates, lane_kid, HasLane, Comes}
use Rattle.sq_cells.proofs.Access.{end_or_below}
use Rattle.sq_plan_laws.specs.OnBytes.{rule_of}
use Rattle.sq_plan_laws.specs.Seated.{at_node}
use Rattle.sq_plan_laws.proofs.Positions.{those, many_those, place_those, those_there, every_many}
use Rattle.sq_plan_laws.specs.Around.{IsAround}
use Rattle.sq_plan_laws.proofs.Grown.{Aside, in_par, aside_par, beside_apart}

same_test : (x y : ℕ) → (x == y) ≡ eqb x y
same_test x y = grind (arith, nat_tests)

self_test : (x : ℕ) → eqb x x ≡ true
self_test x = grind (arith, nat_tests)

-- ---- how many stand before

fewer : (q : ℕ → Bool) (t n : ℕ) → t < n → q t ≡ true → how_many q t < how_many q n
fewer q t zero lt y = absurd (omega (arith, lt))
fewer q t (suc n) lt y = by (λ l. fewer q t n l y) (end_or_below t n lt) (q n) refl
  where
    by : (t < n → how_many q t < how_many q n) → (t ≡ n) ⊎ (t < n) → (b : Bool) → q n ≡ b → how_many q t
        < cond (q n) (suc (how_many q n)) (how_many q n)
    by rec (inl e) true f = rw f (let z : how_many q t ≡ how_many q n = ap (how_many q) e in omega (arith, z))
    by rec (inl e) false f = let z = sym (subst (λ x. q x ≡ true) e y) ∙ f in cc
    by rec (inr l) true f = rw f (let h = rec l in omega (arith, h))
    by rec (inr l) false f = rw f (rec l)

-- one that follows another in a list stands at the next position
next_from : (q : ℕ → Bool) (p t : ℕ) → p < t → q p ≡ true → ((u : ℕ) → p < u → u < t → q u ≡ true → ⊥)
    → how_many q t ≡ suc (how_many q p)
next_from q p zero lt y none = absurd (omega (arith, lt))
next_from q p (suc t) lt y none
    = by (λ l. next_from q p t l y (λ u a b. none u a (omega (arith, b)))) (end_or_below p t lt) (q t) refl
  where
    by : (p < t → how_many q t ≡ suc (how_many q p)) → (p ≡ t) ⊎ (p < t) → (b : Bool) → q t ≡ b
        → cond (q t) (suc (how_many q t)) (how_many q t) ≡ suc (how_many q p)
    by rec (inl e) true f = rw f (ap (λ x. suc (how_many q x)) (sym e))
    by rec (inl e) false f = let z = sym (subst (λ x. q x ≡ true) e y) ∙ f in cc
    by rec (inr l) true f = absurd (none t l (omega arith) f)
    by rec (inr l) false f = rw f (rec l)

pub next_place : (q : ℕ → Bool) (p t : ℕ) → Comes q p t → how_many q t ≡ suc (how_many q p)
next_place q p t c = next_from q p t c.0 c.1 c.3

order : (a b : ℕ) → a ≢ b → (a < b) ⊎ (b < a)
order zero zero ne = absurd (ne refl)
order zero (suc b) ne = inl (omega arith)
order (suc a) zero ne = inr (omega arith)
order (suc a) (suc b) ne = ⊎_elim (λ h. inl (omega (arith, h))) (λ h. inr (omega (arith, h)))
    (order a b (λ e. ne (ap suc e)))

module _ (s : Setting) (node n : ℕ) where
  abbrev N : Node
  N = at_node s node

  abbrev list_at : SpreadRule → ℕ → List ℕ
  list_at rule d = spreading.iterations_at rule n (s.children node) d

  -- the iteration at the j-th position at this child, and how many there are
  abbrev pub at_place : Option (Place × SpreadRule) → (d j : ℕ) → ℕ
  at_place None d j = j
  at_place (Some p) d j = get_or (list_at p.1 d) j 0

  abbrev pub many_at : Option (Place × SpreadRule) → (d : ℕ) → ℕ
  many_at None d = n
  many_at (Some p) d = length (list_at p.1 d)

  abbrev pub lane_at : Option (Place × SpreadRule) → (child t : ℕ) → ℕ
  lane_at spread child t = lane_kid (rule_of spread) N child n t

  -- the position of an iteration in its list
  abbrev pub place_of : Option (Place × SpreadRule) → ℕ → ℕ
  place_of spread t = how_many (mates (rule_of spread) N n t) t

  abbrev here : SpreadRule → ℕ → ℕ → Bool
  here rule d u = eqb (lane_of rule N n u) d

  list_is : (rule : SpreadRule) (d : ℕ) → list_at rule d ≡ those (here rule d) n
  unfolding fan_of lane
  list_is rule d = ap (λ f. filter f (range_with_len 0 n))
      (fun_ext (λ t. same_test (spreading.child_of rule n (s.children node) t) d))

  -- each iteration stands at its position
  pub record IsThere (spread : Option (Place × SpreadRule)) (child t : ℕ) : Type 0 where
    pub below : place_of spread t < many_at spread (lane_at spread child t)
    pub is : at_place spread (lane_at spread child t) (place_of spread t) ≡ t

  pub place_there : (spread : Option (Place × SpreadRule)) (child t : ℕ) → t < n → IsThere spread child t
  place_there None child t lt = record {
    below = subst (λ k. k < n) (sym (every_many t)) lt;
    is = every_many t;
  }
  place_there (Some p) child t lt =
      let d = lane_of p.1 N n t in
      let q = here p.1 d in
      let y : q t ≡ true = self_test d in
      let many : how_many q n ≡ length (list_at p.1 d) = sym (many_those q n) ∙ sym (ap length (list_is p.1 d)) in
      record {
        below = subst (λ k. how_many q t < k) many (fewer q t n lt y);
        is = ap (λ (l : List ℕ). get_or l (how_many q t) 0) (list_is p.1 d) ∙ place_those q n t lt y;
      }

  -- and what stands at a position is an iteration
  pub place_below : (spread : Option (Place × SpreadRule)) (d j : ℕ) → j < many_at spread d → at_place spread d j < n
  place_below None d j lt = lt
  place_below (Some p) d j lt =
      let q = here p.1 d in
      let many : length (list_at p.1 d) ≡ how_many q n = ap length (list_is p.1 d) ∙ many_those q n in
      subst (λ (l : List ℕ). get_or l j 0 < n) (sym (list_is p.1 d))
      (those_there q n j (subst (λ k. j < k) many lt)).0

  -- ---- the tree of all lists

  module _ (part : ℕ → (ℕ → ℕ) → ℕ → PlanTree) where
    abbrev pub list_tree : Option (Place × SpreadRule) → ℕ → PlanTree
    list_tree spread d = part d (at_place spread d) (many_at spread d)

    pub in_lists : (spread : Option (Place × SpreadRule)) (child t : ℕ) (l : List Scope)
        → HasLane (rule_of spread) N n t → IsAround (list_tree spread (lane_at spread child t)) l
        → IsAround (pipeline_tree s spread node child n part) l
    unfolding fan_of lane
    in_lists None child t l has h = h
    in_lists (Some p) child t l has h = in_par (s.children node) (list_tree (Some p))
        (spreading.child_of p.1 n (s.children node) t) l has h

    pub lists_aside : (spread : Option (Place × SpreadRule)) (child t : ℕ) → HasLane (rule_of spread) N n t
        → Aside (pipeline_tree s spread node child n part) → Aside (list_tree spread (lane_at spread child t))
    unfolding fan_of lane
    lists_aside None child t has h = h
    lists_aside (Some p) child t has h = aside_par (s.children node) (list_tree (Some p))
        (spreading.child_of p.1 n (s.children node) t) has h

    pub lists_apart : (spread : Option (Place × SpreadRule)) (child : ℕ)
        → Aside (pipeline_tree s spread node child n part) → (a b : ℕ) → HasLane (rule_of spread) N n a
        → HasLane (rule_of spread) N n b → lane_at spread child a ≢ lane_at spread child b → (l m : List Scope)
        → IsAround (list_tree spread (lane_at spread child a)) l
        → IsAround (list_tree spread (lane_at spread child b)) m
        → (x y : Scope) → Contains l x → Contains m y → x.node ≡ y.node → ⊥
    unfolding fan_of lane
    lists_apart None child h a b ka kb ne l m ha hb x y cx cy e = ne refl
    lists_apart (Some p) child h a b ka kb ne l m ha hb x y cx cy e =
        let kid : ℕ → ℕ = spreading.child_of p.1 n (s.children node) in
        ⊎_elim (λ lt. beside_apart (s.children node) (list_tree (Some p)) h (kid a) (kid b) lt kb l m ha hb x y cx cy e)
        (λ lt. beside_apart (s.children node) (list_tree (Some p)) h (kid b) (kid a) lt ka m l hb ha y x cy cx (sym e))
        (order (kid a) (kid b) ne)
