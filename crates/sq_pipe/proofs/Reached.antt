-- Which children calls reach: the equations of statements, and flags that are set one after another.
use Rattle.std.proofs.Common.{◌≡◌, ℕ, zero, suc, ◌+◌, ◌-◌, ◌*◌, ◌<◌, ◌≤◌, Bool, true, false, List, map, [], ◌∷◌, ◌++◌}
use Rattle.std.proofs.Common.{slice_get, slice_set, get_or, length, drop, drop-cons, replicate, mul-zero}
use Rattle.std.proofs.Common.{ap, ap₂, sym, ◌∙◌, refl, subst, arith}
use Rattle.sq_text.specs.declared.place.Place.{Place}
use Rattle.sq_text.specs.declared.spread.SpreadRule.{SpreadRule}
use Rattle.sq_spec.specs.declared.statement.LoopKind.{LoopKind}
use Rattle.sq_spec.specs.declared.statement.CallInstance.{CallInstance}
use Rattle.sq_spec.specs.declared.statement.Statement.{Statement, roll-Statement}
use Rattle.sq_spec.specs.declared.statement.Statement.TheVariants as s
use Rattle.sq_spec.specs.declared.statement.Statement.TheOpen.{Statement-F}
use Rattle.sq_spec.specs.declared.statement.Statement.TheFolds.{fold-roll-Statement, ind-Statement, map-Statement}
use Rattle.sq_spec.specs.Spreads.{any_of, lower_in, same_in}
use Rattle.sq_spec.proofs.InStatements.{lower_call, lower_map, same_call, same_map}
use Rattle.sq_pipe.specs.Runs.{Landing, all_lands, row_lands, turns_land, map_lands, landing_step, landing, noted}

-- ---- statements

module _ (rule : SpreadRule) (children : ℕ) where
  abbrev lands : Statement → Landing
  lands = landing rule children

  land_call : (lower : Bool) (instances : List CallInstance) → lands (s.Call lower instances)
      ≡ landing_step rule children (Statement-F.Call lower instances)
  land_call lower instances = ap lands (sym (s.rolls-Call lower instances))
      ∙ fold-roll-Statement Landing (landing_step rule children) (Statement-F.Call lower instances)

  land_map : (place : Place) (kind : LoopKind) (counts starts : List ℕ) (body : List Statement)
      → lands (s.Map place kind counts starts body)
      ≡ landing_step rule children (Statement-F.Map place kind counts starts (map lands body))
  land_map place kind counts starts body = ap lands (sym (s.rolls-Map place kind counts starts body))
      ∙ fold-roll-Statement Landing (landing_step rule children)
      (Statement-F.Map place kind counts starts body)

  -- which calls stand in a statement, whatever the rule
  record Holds (x : Statement) : Type 0 where
    lower : (lands x).lower ≡ lower_in x
    same : (lands x).same ≡ same_in x

  abbrev Known : Type 0
  Known = (x : Statement) × Holds x

  abbrev these : List Known → List Statement
  these = map (λ (q : Known). q.0)

  lowers : (xs : List Known) → map (λ (z : Landing). z.lower) (map lands (these xs)) ≡ map lower_in (these xs)
  lowers [] = refl
  lowers (x ∷ xs) = ap₂ (λ u v. u ∷ v) x.1.lower (lowers xs)

  sames : (xs : List Known) → map (λ (z : Landing). z.same) (map lands (these xs)) ≡ map same_in (these xs)
  sames [] = refl
  sames (x ∷ xs) = ap₂ (λ u v. u ∷ v) x.1.same (sames xs)

  step : (y : Statement-F Known) → Holds (roll-Statement (map-Statement Known Statement (λ q. q.0) y))
  step (Statement-F.Call lower instances) = subst Holds (sym (s.rolls-Call lower instances)) (record {
    lower = ap (λ (z : Landing). z.lower) (land_call lower instances) ∙ sym (lower_call lower instances);
    same = ap (λ (z : Landing). z.same) (land_call lower instances) ∙ sym (same_call lower instances);
  })
  step (Statement-F.Map place kind counts starts xs) =
      subst Holds (sym (s.rolls-Map place kind counts starts (these xs))) (record {
        lower = ap (λ (z : Landing). z.lower) (land_map place kind counts starts (these xs)) ∙ ap any_of (lowers xs)
            ∙ sym (lower_map place kind counts starts (these xs));
        same = ap (λ (z : Landing). z.same) (land_map place kind counts starts (these xs)) ∙ ap any_of (sames xs)
            ∙ sym (same_map place kind counts starts (these xs));
      })

  holds : (x : Statement) → Holds x
  holds = ind-Statement Holds (λ x y is. subst (λ z. Holds (roll-Statement z)) is (step y))

  abbrev known : List Statement → List Known
  known [] = []
  known (x ∷ xs) = (x, holds x) ∷ known xs

  known_are : (xs : List Statement) → these (known xs) ≡ xs
  known_are [] = refl
  known_are (x ∷ xs) = ap (λ ys. x ∷ ys) (known_are xs)

  pub lands_call : (lower : Bool) (instances : List CallInstance) (inside : Bool) (child k : ℕ)
      → (lands (s.Call lower instances)).lands inside child k ≡ row_lands child (slice_get instances k)
  lands_call lower instances inside child k =
      ap (λ (z : Landing). z.lands inside child k) (land_call lower instances)

  pub lands_map : (place : Place) (kind : LoopKind) (counts starts : List ℕ) (body : List Statement) (inside : Bool)
      (child k : ℕ) → (lands (s.Map place kind counts starts body)).lands inside child k
      ≡ map_lands rule children kind counts starts (map lower_in body) (map same_in body) (map lands body) inside child
      k
  lands_map place kind counts starts body inside child k =
      ap (λ (z : Landing). z.lands inside child k) (land_map place kind counts starts body)
      ∙ subst (λ (xs : List Statement). map_lands rule children kind counts starts
      (map (λ (z : Landing). z.lower) (map lands xs)) (map (λ (z : Landing). z.same) (map lands xs)) (map lands xs)
      inside child k
      ≡ map_lands rule children kind counts starts (map lower_in xs) (map same_in xs) (map lands xs) inside child k)
      (known_are body)
      (let xs = known body in
      ap₂ (λ ls ss. map_lands rule children kind counts starts ls ss (map lands (these xs)) inside child k)
      (lowers xs) (sames xs))

pub ruleset opened = (lands_call, lands_map)

-- ---- flags

pub noted_more : (children : ℕ) (xs ys : List (ℕ × ℕ)) (flags : List Bool)
    → noted children (xs ++ ys) flags ≡ noted children ys (noted children xs flags)
noted_more children [] ys flags = refl
noted_more children (x ∷ xs) ys flags =
    noted_more children xs ys (slice_set flags (x.0 * children + x.1) true)

-- without children nothing is noted
pub noted_none : (children : ℕ) (xs : List (ℕ × ℕ)) → noted children xs [] ≡ []
noted_none children [] = refl
noted_none children (x ∷ xs) = noted_none children xs

pub set_past : (xs : List Bool) (i : ℕ) (x : Bool) → length xs ≤ i → slice_set xs i x ≡ xs
set_past [] i x h = refl
set_past (y ∷ xs) zero x h = absurd (omega (arith, h))
set_past (y ∷ xs) (suc i) x h = ap (λ l. y ∷ l) (set_past xs i x (omega (arith, h)))

-- ---- statements in turn

pub next_item : {X : Type 0} (xs : List X) (i : ℕ) (x : X) → i < length xs → x ≡ get_or xs i x
    → drop i xs ≡ x ∷ drop (i + 1) xs
next_item {X} xs i x below is =
    let e : suc i ≡ i + 1 = omega arith in
    drop-cons xs i x below ∙ ap (λ (y : X). y ∷ drop (suc i) xs) (sym is) ∙ ap (λ n. x ∷ drop n xs) e

pub next_statement : (rule : SpreadRule) (children : ℕ) (inside : Bool) (child k : ℕ) (list : List Statement) (i : ℕ)
    (x : Statement) (p q r : List Bool) → i < length list → x ≡ get_or list i x
    → q ≡ noted children ((landing rule children x).lands inside child k) p
    → noted children (all_lands (map (landing rule children) (drop i list)) inside child k) p ≡ r
    → noted children (all_lands (map (landing rule children) (drop (i + 1) list)) inside child k) q ≡ r
next_statement rule children inside child k list i x p q r below is g l =
    let rest = all_lands (map (landing rule children) (drop (i + 1) list)) inside child k in
    ap (noted children rest) g
    ∙ sym (noted_more children ((landing rule children x).lands inside child k) rest p)
    ∙ sym (ap (λ (xs : List Statement). noted children (all_lands (map (landing rule children) xs) inside child k) p)
    (next_item list i x below is))
    ∙ l

-- ---- iterations

pub next_turn : (children : ℕ) (turn : ℕ → List (ℕ × ℕ)) (n i k : ℕ) (p q r : List Bool) → i < n → k ≡ i + 1
    → q ≡ noted children (turn i) p → noted children (turns_land turn (n - i) i) p ≡ r
    → noted children (turns_land turn (n - k) k) q ≡ r
next_turn children turn n i k p q r h e g l =
    let z : n - i ≡ suc (n - (i + 1)) = omega (arith, h) in
    ap (λ m. noted children (turns_land turn (n - m) m) q) e
    ∙ ap (noted children (turns_land turn (n - (i + 1)) (i + 1))) g
    ∙ sym (noted_more children (turn i) (turns_land turn (n - (i + 1)) (i + 1)) p)
    ∙ ap (λ m. noted children (turns_land turn m i) p) (sym z) ∙ l

pub last_turn : (children : ℕ) (turn : ℕ → List (ℕ × ℕ)) (n i : ℕ) (p r : List Bool) → n ≤ i
    → noted children (turns_land turn (n - i) i) p ≡ r → p ≡ r
last_turn children turn n i p r h l =
    let z : n - i ≡ 0 = omega (arith, h) in
    ap (λ m. noted children (turns_land turn m i) p) (sym z) ∙ l

-- ---- a node without children

pub none_noted : (children forms : ℕ) (xs : List (ℕ × ℕ)) → children ≤ 0 → replicate (forms * children + 0) false
    ≡ noted children xs (replicate (forms * children) false)
none_noted children forms xs h =
    let none : children ≡ 0 = omega (arith, h) in
    let z : forms * children ≡ 0 = ap (λ k. forms * k) none ∙ mul-zero forms in
    let y : forms * children + 0 ≡ 0 = omega (arith, z) in
    ap (λ k. replicate k false) y ∙ sym (noted_none children xs)
    ∙ ap (λ k. noted children xs (replicate k false)) (sym z)
