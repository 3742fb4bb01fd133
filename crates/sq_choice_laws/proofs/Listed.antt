-- The loops of lower calls are those that the source of a plan has.
use Rattle.std.proofs.Common.{◌≡◌, ℕ, Bool, false, ◌||◌, List, [], ◌∷◌, ◌++◌, map, Option, Some, None, refl, sym}
use Rattle.std.proofs.Common.{ap, ap₂, subst, ◌∙◌}
use Rattle.sq_text.specs.declared.place.Place.{Place}
use Rattle.sq_spec.specs.declared.statement.LoopKind.{LoopKind}
use Rattle.sq_spec.specs.declared.statement.CallInstance.{CallInstance}
use Rattle.sq_spec.specs.declared.statement.Statement.{Statement, roll-Statement}
use Rattle.sq_spec.specs.declared.statement.Statement.TheVariants as b
use Rattle.sq_spec.specs.declared.statement.Statement.TheOpen.{Statement-F}
use Rattle.sq_spec.specs.declared.statement.Statement.TheFolds.{ind-Statement, map-Statement}
use Rattle.sq_spec.specs.declared.body.Body.TheVariants as body
use Rattle.sq_spec.specs.Spreads.{any_of, is_spread, lower_in, same_in}
use Rattle.sq_placed.specs.Pipes as pipes
use Rattle.sq_placed.specs.Pipes.{CallLoop, CallLoops, call_loops}
use Rattle.sq_placed.proofs.Pipes as placed
use Rattle.sq_pipe.specs.Candidates.{call_in}
use Rattle.sq_pass_laws.proofs.Candidates.{is_call_in}
use Rattle.sq_choice_laws.specs.Overlapping.{Loop, all_loops, own_loop, loop_round, loops_in, LoopsAreAll}
use Rattle.sq_choice_laws.proofs.Rounds.{loops_call, loops_map}

abbrev bare : List Loop → List CallLoop
bare ls = map (λ (l : Loop). l.its) ls

bare_both : (ls ms : List Loop) → bare (ls ++ ms) ≡ bare ls ++ bare ms
bare_both [] ms = refl
bare_both (l ∷ ls) ms = ap (λ xs. l.its ∷ xs) (bare_both ls ms)

module _ (caller : ℕ) where
  own_is : (place : Place) (spread : Bool) (m : LoopKind) (counts starts : List ℕ) (o : Option (List CallInstance))
      → bare (own_loop caller place spread m counts starts o) ≡ pipes.own_loop m counts starts o
  own_is place spread m counts starts None = refl
  own_is place spread m counts starts (Some rows) = refl

  round_is : (place : Place) (spread : Bool) (m : LoopKind) (counts starts : List ℕ) (xs : List Statement)
      → bare (loop_round caller place spread m counts starts (map call_in xs))
      ≡ pipes.loop_round m counts starts (map call_loops xs)
  round_is place spread m counts starts [] = refl
  round_is place spread m counts starts (x ∷ []) =
      own_is place spread m counts starts (call_in x)
      ∙ ap (pipes.own_loop m counts starts) (sym (is_call_in x).loops)
  round_is place spread m counts starts (x ∷ y ∷ xs) = refl

  abbrev IsListed : Statement → Type 0
  IsListed x = (inside : Bool) → bare (loops_in caller x inside) ≡ (call_loops x).loops

  abbrev Known : Type 0
  Known = (x : Statement) × IsListed x

  abbrev these : List Known → List Statement
  these = map (λ (q : Known). q.0)

  parts_are : (xs : List Known) (inside : Bool)
      → bare (all_loops (map (loops_in caller) (these xs)) inside) ≡ pipes.all_loops (map call_loops (these xs))
  parts_are [] inside = refl
  parts_are (x ∷ xs) inside =
      bare_both (loops_in caller x.0 inside) (all_loops (map (loops_in caller) (these xs)) inside)
      ∙ ap₂ (λ l m. l ++ m) (x.1 inside) (parts_are xs inside)

  step : (y : Statement-F Known) → IsListed (roll-Statement (map-Statement Known Statement (λ p. p.0) y))
  step (Statement-F.Call lower rows) = subst IsListed (sym (b.rolls-Call lower rows)) (λ inside.
      ap bare (loops_call caller lower rows inside)
      ∙ sym (ap (λ (l : CallLoops). l.loops) (placed.loops_call lower rows)))
  step (Statement-F.Map place m counts starts xs) =
      let ys = these xs in
      subst IsListed (sym (b.rolls-Map place m counts starts ys)) (λ inside.
      let spread = is_spread m inside (any_of (map lower_in ys)) (any_of (map same_in ys)) in
      ap bare (loops_map caller place m counts starts ys inside)
      ∙ bare_both (loop_round caller place spread m counts starts (map call_in ys))
      (all_loops (map (loops_in caller) ys) (inside || spread))
      ∙ ap₂ (λ l k. l ++ k) (round_is place spread m counts starts ys) (parts_are xs (inside || spread))
      ∙ sym (ap (λ (l : CallLoops). l.loops) (placed.loops_map place m counts starts ys)))

  one_is : (x : Statement) → IsListed x
  one_is = ind-Statement IsListed (λ x y is. subst (λ z. IsListed (roll-Statement z)) is (step y))

  list_are : (xs : List Statement) (inside : Bool)
      → bare (all_loops (map (loops_in caller) xs) inside) ≡ pipes.all_loops (map call_loops xs)
  list_are [] inside = refl
  list_are (x ∷ xs) inside =
      bare_both (loops_in caller x inside) (all_loops (map (loops_in caller) xs) inside)
      ∙ ap₂ (λ l m. l ++ m) (one_is x inside) (list_are xs inside)

pub loops_are_all : LoopsAreAll
loops_are_all k (body.Leaf code) = refl
loops_are_all k (body.Inner list) = list_are k list false
