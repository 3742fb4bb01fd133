-- The equations of what is seen of a statement.
use Rattle.std.proofs.Common.{◌≡◌, ℕ, Bool, List, map, Option, None, ap, ap₂, sym, ◌∙◌, refl, [], ◌∷◌, subst}
use Rattle.sq_text.specs.declared.place.Place.{Place}
use Rattle.sq_spec.specs.declared.statement.LoopKind.{LoopKind}
use Rattle.sq_spec.specs.declared.statement.CallInstance.{CallInstance}
use Rattle.sq_spec.specs.declared.statement.Statement.{Statement, roll-Statement}
use Rattle.sq_spec.specs.declared.statement.Statement.TheVariants as s
use Rattle.sq_spec.specs.declared.statement.Statement.TheOpen.{Statement-F}
use Rattle.sq_spec.specs.declared.statement.Statement.TheFolds.{fold-roll-Statement, ind-Statement, map-Statement}
use Rattle.sq_spec.specs.Spreads.{any_of, lower_in, same_in}
use Rattle.sq_pipe.specs.Candidates.{Seen, call_step, call_in, map_loops, seen_step, seen}
use Rattle.sq_spec.proofs.InStatements.{lower_call, lower_map, same_call, same_map}

pub call_call : (lower : Bool) (instances : List CallInstance) → call_in (s.Call lower instances)
    ≡ call_step (Statement-F.Call lower instances)
call_call lower instances = ap call_in (sym (s.rolls-Call lower instances))
    ∙ fold-roll-Statement (Option (List CallInstance)) call_step (Statement-F.Call lower instances)

pub call_map : (place : Place) (m : LoopKind) (counts starts : List ℕ) (body : List Statement)
    → call_in (s.Map place m counts starts body) ≡ None
call_map place m counts starts body = ap call_in (sym (s.rolls-Map place m counts starts body))
    ∙ fold-roll-Statement (Option (List CallInstance)) call_step
    (Statement-F.Map place m counts starts body)

module _ (leaves : ℕ → List ℕ) (children caller : ℕ) where
  abbrev sees : Statement → Seen
  sees = seen leaves children caller

  seen_call : (lower : Bool) (instances : List CallInstance) → sees (s.Call lower instances)
      ≡ seen_step leaves children caller (Statement-F.Call lower instances)
  seen_call lower instances = ap sees (sym (s.rolls-Call lower instances))
      ∙ fold-roll-Statement Seen (seen_step leaves children caller) (Statement-F.Call lower instances)

  seen_map : (place : Place) (kind : LoopKind) (counts starts : List ℕ) (body : List Statement)
      → sees (s.Map place kind counts starts body)
      ≡ seen_step leaves children caller (Statement-F.Map place kind counts starts (map sees body))
  seen_map place kind counts starts body = ap sees (sym (s.rolls-Map place kind counts starts body))
      ∙ fold-roll-Statement Seen (seen_step leaves children caller)
      (Statement-F.Map place kind counts starts body)

  -- what is seen of any statement, whatever the form
  record IsSeen (x : Statement) : Type 0 where
    call : (sees x).call ≡ call_in x
    lower : (sees x).lower ≡ lower_in x
    same : (sees x).same ≡ same_in x

  abbrev Known : Type 0
  Known = (x : Statement) × IsSeen x

  abbrev these : List Known → List Statement
  these = map (λ (q : Known). q.0)

  calls : (xs : List Known) → map (λ (z : Seen). z.call) (map sees (these xs)) ≡ map call_in (these xs)
  calls [] = refl
  calls (x ∷ xs) = ap₂ (λ u v. u ∷ v) x.1.call (calls xs)

  lowers : (xs : List Known) → map (λ (z : Seen). z.lower) (map sees (these xs)) ≡ map lower_in (these xs)
  lowers [] = refl
  lowers (x ∷ xs) = ap₂ (λ u v. u ∷ v) x.1.lower (lowers xs)

  sames : (xs : List Known) → map (λ (z : Seen). z.same) (map sees (these xs)) ≡ map same_in (these xs)
  sames [] = refl
  sames (x ∷ xs) = ap₂ (λ u v. u ∷ v) x.1.same (sames xs)

  step : (y : Statement-F Known) → IsSeen (roll-Statement (map-Statement Known Statement (λ q. q.0) y))
  step (Statement-F.Call lower instances) = subst IsSeen (sym (s.rolls-Call lower instances)) (record {
    call = ap (λ (z : Seen). z.call) (seen_call lower instances) ∙ sym (call_call lower instances);
    lower = ap (λ (z : Seen). z.lower) (seen_call lower instances) ∙ sym (lower_call lower instances);
    same = ap (λ (z : Seen). z.same) (seen_call lower instances) ∙ sym (same_call lower instances);
  })
  step (Statement-F.Map place kind counts starts xs) =
      subst IsSeen (sym (s.rolls-Map place kind counts starts (these xs))) (record {
        call = ap (λ (z : Seen). z.call) (seen_map place kind counts starts (these xs))
            ∙ sym (call_map place kind counts starts (these xs));
        lower = ap (λ (z : Seen). z.lower) (seen_map place kind counts starts (these xs)) ∙ ap any_of (lowers xs)
            ∙ sym (lower_map place kind counts starts (these xs));
        same = ap (λ (z : Seen). z.same) (seen_map place kind counts starts (these xs)) ∙ ap any_of (sames xs)
            ∙ sym (same_map place kind counts starts (these xs));
      })

  is_seen : (x : Statement) → IsSeen x
  is_seen = ind-Statement IsSeen (λ x y is. subst (λ z. IsSeen (roll-Statement z)) is (step y))

  abbrev known : List Statement → List Known
  known [] = []
  known (x ∷ xs) = (x, is_seen x) ∷ known xs

  known_are : (xs : List Statement) → these (known xs) ≡ xs
  known_are [] = refl
  known_are (x ∷ xs) = ap (λ ys. x ∷ ys) (known_are xs)

  pub loops_call : (lower : Bool) (instances : List CallInstance) (inside : Bool)
      → (sees (s.Call lower instances)).loops inside ≡ []
  loops_call lower instances inside = ap (λ (z : Seen). z.loops inside) (seen_call lower instances)

  pub loops_map : (place : Place) (kind : LoopKind) (counts starts : List ℕ) (body : List Statement) (inside : Bool)
      → (sees (s.Map place kind counts starts body)).loops inside
      ≡ map_loops leaves children caller place kind counts (map lower_in body) (map same_in body) (map call_in body) (map sees body) inside
  loops_map place kind counts starts body inside =
      ap (λ (z : Seen). z.loops inside) (seen_map place kind counts starts body)
      ∙ subst (λ (xs : List Statement). map_loops leaves children caller place kind counts (map (λ (z : Seen). z.lower) (map sees xs))
      (map (λ (z : Seen). z.same) (map sees xs)) (map (λ (z : Seen). z.call) (map sees xs)) (map sees xs) inside
      ≡ map_loops leaves children caller place kind counts (map lower_in xs) (map same_in xs) (map call_in xs) (map sees xs) inside)
      (known_are body)
      (let xs = known body in
      ap₂ (λ ls ss. map_loops leaves children caller place kind counts ls ss (map (λ (z : Seen). z.call) (map sees (these xs)))
      (map sees (these xs)) inside) (lowers xs) (sames xs)
      ∙ ap (λ cs. map_loops leaves children caller place kind counts (map lower_in (these xs)) (map same_in (these xs)) cs
      (map sees (these xs)) inside) (calls xs))

pub ruleset opened = (call_call, call_map, loops_call, loops_map)
