-- The loops of lower calls, one equation for each variant.
use Rattle.std.proofs.Common.{◌≡◌, ℕ, Bool, List, [], ◌∷◌, map, Option, refl, sym, ap, ap₂, subst, ◌∙◌}
use Rattle.sq_text.specs.declared.place.Place.{Place}
use Rattle.sq_spec.specs.declared.statement.LoopKind.{LoopKind}
use Rattle.sq_spec.specs.declared.statement.CallInstance.{CallInstance}
use Rattle.sq_spec.specs.declared.statement.Statement.{Statement, roll-Statement}
use Rattle.sq_spec.specs.declared.statement.Statement.TheVariants as b
use Rattle.sq_spec.specs.declared.statement.Statement.TheOpen.{Statement-F}
use Rattle.sq_spec.specs.declared.statement.Statement.TheFolds.{fold-roll-Statement, ind-Statement, map-Statement}
use Rattle.sq_spec.specs.Spreads.{any_of, lower_in, same_in}
use Rattle.sq_spec.proofs.InStatements.{lower_call, lower_map, same_call, same_map}
use Rattle.sq_pipe.specs.Candidates.{call_in}
use Rattle.sq_pipe.proofs.CallsOpened.{call_call, call_map}
use Rattle.sq_choice_laws.specs.Overlapping.{Loop, LoopsIn, Part, map_loops, part_step, part, loops_in}

module _ (caller : ℕ) where
  abbrev its : Statement → Part
  its = part caller

  part_call : (lower : Bool) (rows : List CallInstance) → its (b.Call lower rows)
      ≡ part_step caller (Statement-F.Call lower rows)
  part_call lower rows = ap its (sym (b.rolls-Call lower rows))
      ∙ fold-roll-Statement Part (part_step caller) (Statement-F.Call lower rows)

  part_map : (place : Place) (m : LoopKind) (counts starts : List ℕ) (xs : List Statement)
      → its (b.Map place m counts starts xs) ≡ part_step caller (Statement-F.Map place m counts starts (map its xs))
  part_map place m counts starts xs = ap its (sym (b.rolls-Map place m counts starts xs))
      ∙ fold-roll-Statement Part (part_step caller) (Statement-F.Map place m counts starts xs)

  -- what is known of any statement, whatever the form
  record IsPart (x : Statement) : Type 0 where
    call : (its x).call ≡ call_in x
    lower : (its x).lower ≡ lower_in x
    same : (its x).same ≡ same_in x

  abbrev Known : Type 0
  Known = (x : Statement) × IsPart x

  abbrev these : List Known → List Statement
  these = map (λ (q : Known). q.0)

  calls : (xs : List Known) → map (λ (p : Part). p.call) (map its (these xs)) ≡ map call_in (these xs)
  calls [] = refl
  calls (x ∷ xs) = ap₂ (λ u v. u ∷ v) x.1.call (calls xs)

  lowers : (xs : List Known) → map (λ (p : Part). p.lower) (map its (these xs)) ≡ map lower_in (these xs)
  lowers [] = refl
  lowers (x ∷ xs) = ap₂ (λ u v. u ∷ v) x.1.lower (lowers xs)

  sames : (xs : List Known) → map (λ (p : Part). p.same) (map its (these xs)) ≡ map same_in (these xs)
  sames [] = refl
  sames (x ∷ xs) = ap₂ (λ u v. u ∷ v) x.1.same (sames xs)

  step : (y : Statement-F Known) → IsPart (roll-Statement (map-Statement Known Statement (λ q. q.0) y))
  step (Statement-F.Call lower rows) = subst IsPart (sym (b.rolls-Call lower rows)) (record {
    call = ap (λ (p : Part). p.call) (part_call lower rows) ∙ sym (call_call lower rows);
    lower = ap (λ (p : Part). p.lower) (part_call lower rows) ∙ sym (lower_call lower rows);
    same = ap (λ (p : Part). p.same) (part_call lower rows) ∙ sym (same_call lower rows);
  })
  step (Statement-F.Map place m counts starts xs) =
      subst IsPart (sym (b.rolls-Map place m counts starts (these xs))) (record {
        call = ap (λ (p : Part). p.call) (part_map place m counts starts (these xs))
            ∙ sym (call_map place m counts starts (these xs));
        lower = ap (λ (p : Part). p.lower) (part_map place m counts starts (these xs)) ∙ ap any_of (lowers xs)
            ∙ sym (lower_map place m counts starts (these xs));
        same = ap (λ (p : Part). p.same) (part_map place m counts starts (these xs)) ∙ ap any_of (sames xs)
            ∙ sym (same_map place m counts starts (these xs));
      })

  is_part : (x : Statement) → IsPart x
  is_part = ind-Statement IsPart (λ x y is. subst (λ z. IsPart (roll-Statement z)) is (step y))

  abbrev known : List Statement → List Known
  known [] = []
  known (x ∷ xs) = (x, is_part x) ∷ known xs

  known_are : (xs : List Statement) → these (known xs) ≡ xs
  known_are [] = refl
  known_are (x ∷ xs) = ap (λ ys. x ∷ ys) (known_are xs)

  loops_are : (xs : List Statement) → map (λ (p : Part). p.loops) (map its xs) ≡ map (loops_in caller) xs
  loops_are [] = refl
  loops_are (x ∷ xs) = ap (λ ls. loops_in caller x ∷ ls) (loops_are xs)

  pub loops_call : (lower : Bool) (rows : List CallInstance) (inside : Bool)
      → loops_in caller (b.Call lower rows) inside ≡ []
  loops_call lower rows inside = ap (λ (p : Part). p.loops inside) (part_call lower rows)

  abbrev whole : Place → LoopKind → (counts starts : List ℕ) → (inside : Bool)
      → List (Option (List CallInstance)) → (lowers sames : List Bool) → List LoopsIn → List Loop
  whole place m counts starts inside cs ls ss parts = map_loops caller place m counts starts cs ls ss parts inside

  pub loops_map : (place : Place) (m : LoopKind) (counts starts : List ℕ) (xs : List Statement) (inside : Bool)
      → loops_in caller (b.Map place m counts starts xs) inside
      ≡ map_loops caller place m counts starts (map call_in xs) (map lower_in xs) (map same_in xs)
      (map (loops_in caller) xs) inside
  loops_map place m counts starts xs inside =
      ap (λ (p : Part). p.loops inside) (part_map place m counts starts xs)
      ∙ ap (whole place m counts starts inside (map (λ (p : Part). p.call) (map its xs))
      (map (λ (p : Part). p.lower) (map its xs)) (map (λ (p : Part). p.same) (map its xs))) (loops_are xs)
      ∙ subst (λ (ys : List Statement). whole place m counts starts inside (map (λ (p : Part). p.call) (map its ys))
      (map (λ (p : Part). p.lower) (map its ys)) (map (λ (p : Part). p.same) (map its ys)) (map (loops_in caller) ys)
      ≡ whole place m counts starts inside (map call_in ys) (map lower_in ys) (map same_in ys)
      (map (loops_in caller) ys)) (known_are xs) (all (known xs))
    where
      all : (ks : List Known) → whole place m counts starts inside (map (λ (p : Part). p.call) (map its (these ks)))
          (map (λ (p : Part). p.lower) (map its (these ks))) (map (λ (p : Part). p.same) (map its (these ks)))
          (map (loops_in caller) (these ks))
          ≡ whole place m counts starts inside (map call_in (these ks)) (map lower_in (these ks))
          (map same_in (these ks)) (map (loops_in caller) (these ks))
      all ks =
          ap₂ (λ ls ss. whole place m counts starts inside (map (λ (p : Part). p.call) (map its (these ks))) ls ss
          (map (loops_in caller) (these ks))) (lowers ks) (sames ks)
          ∙ ap (λ cs. whole place m counts starts inside cs (map lower_in (these ks)) (map same_in (these ks))
          (map (loops_in caller) (these ks))) (calls ks)
