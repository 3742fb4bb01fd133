-- Lower calls stand above the last level.
use Rattle.std.proofs.Common.{◌≡◌, ℕ, suc, ◌<◌, Bool, true, false, ◌||◌, List, [], ◌∷◌, map, sym, subst, arith, ◌⊎◌}
use Rattle.std.proofs.Common.{inl, inr, ⊎_elim}
use Rattle.sq_text.specs.declared.place.Place.{Place}
use Rattle.sq_spec.specs.declared.body.Body.{Body}
use Rattle.sq_spec.specs.declared.body.Body.TheVariants as body
use Rattle.sq_spec.specs.declared.statement.CallInstance.{CallInstance}
use Rattle.sq_spec.specs.declared.statement.LoopKind.{LoopKind}
use Rattle.sq_spec.specs.declared.statement.Statement.{Statement, roll-Statement}
use Rattle.sq_spec.specs.declared.statement.Statement.TheVariants as b
use Rattle.sq_spec.specs.declared.statement.Statement.TheOpen.{Statement-F}
use Rattle.sq_spec.specs.declared.statement.Statement.TheFolds.{ind-Statement, map-Statement}
use Rattle.sq_spec.specs.Spreads.{any_of, lower_in}
use Rattle.sq_term_laws.specs.Lowers.{statements}
use Rattle.sq_term_laws.specs.Orders.{EachOf}
use Rattle.sq_spec.proofs.InStatements.{lower_call, lower_map}
use Rattle.sq_term_laws.specs.Fits.{Bounds, AskedOfStatement, all_parts, Tabled, TabledBody}
use Rattle.sq_term_laws.proofs.Chains.{tabled_call, tabled_map}
use Rattle.sq_term_laws.specs.Lower.{LowerStandAbove}

either : (u v : Bool) → (u || v) ≡ true → (u ≡ true) ⊎ (v ≡ true)
either true v h = inl h
either false v h = inr h

module _ (most : Bounds) (last level : ℕ) where
  abbrev Asked : Statement → AskedOfStatement
  Asked = Tabled most last level

  abbrev OfStatement : Statement → Type 0
  OfStatement x = (n : ℕ) → Asked x n → lower_in x ≡ true → level < last

  abbrev S : Type 0
  S = (x : Statement) × OfStatement x

  abbrev parts : List S → List Statement
  parts = map (λ (q : S). q.0)

  any_above : (xs : List S) (n : ℕ) → all_parts Asked (parts xs) n → any_of (map lower_in (parts xs)) ≡ true → level
      < last
  any_above [] n h e = absurd (cc e)
  any_above (x ∷ xs) n h e = ⊎_elim (λ f. x.1 n h.0 f) (λ f. any_above xs n h.1 f)
      (either (lower_in x.0) (any_of (map lower_in (parts xs))) e)

  call_above : (lower : Bool) (rows : List CallInstance) → OfStatement (b.Call lower rows)
  call_above lower rows n h e =
      (subst (λ (q : AskedOfStatement). q n) (tabled_call most last level lower rows) h).2
      (subst (λ z. z ≡ true) (lower_call lower rows) e)

  map_above : (place : Place) (m : LoopKind) (counts starts : List ℕ) (xs : List S)
      → OfStatement (b.Map place m counts starts (parts xs))
  map_above place m counts starts xs n h e =
      let asked = subst (λ (q : AskedOfStatement). q n) (tabled_map most last level place m counts starts (parts xs)) h
      in
      any_above xs asked.2 asked.5 (subst (λ z. z ≡ true) (lower_map place m counts starts (parts xs)) e)

  above_of : (y : Statement-F S) → OfStatement (roll-Statement (map-Statement S Statement (λ p. p.0) y))
  above_of (Statement-F.Call lower rows) = subst OfStatement (sym (b.rolls-Call lower rows)) (call_above lower rows)
  above_of (Statement-F.Map place m counts starts xs)
      = subst OfStatement (sym (b.rolls-Map place m counts starts (parts xs))) (map_above place m counts starts xs)

  above : (x : Statement) → OfStatement x
  above = ind-Statement OfStatement (λ x y is. subst (λ z. OfStatement (roll-Statement z)) is (above_of y))

  list_above : (list : List Statement) → all_parts Asked list 1
      → EachOf (λ x. lower_in x ≡ true → suc level < suc last) list
  list_above [] h = tt
  list_above (x ∷ list) h = (λ e. let l = above x 1 h.0 e in omega (arith, l), list_above list h.1)

  body_above : (c : Body) → TabledBody most last level c
      → EachOf (λ x. lower_in x ≡ true → suc level < suc last) (statements c)
  body_above (body.Leaf code) h = tt
  body_above (body.Inner list) h = list_above list h

pub lower_stand_above : LowerStandAbove
lower_stand_above most last level c h = body_above most last level c h
