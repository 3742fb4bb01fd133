-- The rows of a form's statements are those of its tables.
use Rattle.std.proofs.Common.{◌≡◌, ℕ, suc, Bool, List, [], ◌∷◌, ◌++◌, map, Option, Some, None, refl, sym, ap}
use Rattle.std.proofs.Common.{◌∙◌, subst}
use Rattle.std.specs.Prelude.{slice_get}
use Rattle.sq_text.specs.declared.place.Place.{Place}
use Rattle.sq_spec.specs.Work.declared.reduction.Reduction.{Reduction}
use Rattle.sq_leaf.specs.declared.shape.Shape.{Shape}
use Rattle.sq_spec.specs.declared.statement.LoopKind.{LoopKind}
use Rattle.sq_spec.specs.declared.statement.CallInstance.{CallInstance}
use Rattle.sq_spec.specs.declared.statement.Statement.{Statement, roll-Statement}
use Rattle.sq_spec.specs.declared.statement.Statement.TheVariants as b
use Rattle.sq_spec.specs.declared.statement.Statement.TheOpen.{Statement-F}
use Rattle.sq_spec.specs.declared.statement.Statement.TheFolds.{ind-Statement, map-Statement, fold-roll-Statement}
use Rattle.sq_spec.specs.declared.body.FormBody.{FormBody}
use Rattle.sq_homes.specs.SpecLaws.TableRows.{Table, red_of, all_tables, tables_step, tables_of, tables_in}
use Rattle.sq_placed.specs.declared.home.Homes.{Homes}
use Rattle.sq_program_laws.specs.TermLaws.Roomy.{joined_rows, reached_step, reached_in, RowFits, RowsFit}

rows_in : List Table → List CallInstance
rows_in [] = []
rows_in (t ∷ ts) = t.times ++ rows_in ts

joined : {A : Type 0} (xs ys zs : List A) → (xs ++ ys) ++ zs ≡ xs ++ (ys ++ zs)
joined [] ys zs = refl
joined (x ∷ xs) ys zs = ap (λ l. x ∷ l) (joined xs ys zs)

alone : {A : Type 0} (xs : List A) → xs ++ [] ≡ xs
alone [] = refl
alone (x ∷ xs) = ap (λ l. x ∷ l) (alone xs)

rows_joined : (ts us : List Table) → rows_in (ts ++ us) ≡ rows_in ts ++ rows_in us
unfolding rows_in
rows_joined [] us = refl
rows_joined (t ∷ ts) us = ap (λ l. t.times ++ l) (rows_joined ts us) ∙ sym (joined t.times (rows_in ts) (rows_in us))

-- ---- the equations of the two folds

tables_call : (lower : Bool) (rows : List CallInstance) → tables_of (b.Call lower rows)
    ≡ tables_step (Statement-F.Call lower rows)
tables_call lower rows = ap tables_of (sym (b.rolls-Call lower rows))
    ∙ fold-roll-Statement (Option Reduction → List Table) tables_step (Statement-F.Call lower rows)

tables_map : (place : Place) (m : LoopKind) (counts starts : List ℕ) (list : List Statement)
    → tables_of (b.Map place m counts starts list)
    ≡ tables_step (Statement-F.Map place m counts starts (map tables_of list))
tables_map place m counts starts list =
    ap tables_of (sym (b.rolls-Map place m counts starts list))
    ∙ fold-roll-Statement (Option Reduction → List Table) tables_step (Statement-F.Map place m counts starts list)

reached_call : (lower : Bool) (rows : List CallInstance) → reached_in (b.Call lower rows) ≡ rows
reached_call lower rows = ap reached_in (sym (b.rolls-Call lower rows))
    ∙ fold-roll-Statement (List CallInstance) reached_step (Statement-F.Call lower rows)

reached_map : (place : Place) (m : LoopKind) (counts starts : List ℕ) (list : List Statement)
    → reached_in (b.Map place m counts starts list) ≡ joined_rows (map reached_in list)
reached_map place m counts starts list =
    ap reached_in (sym (b.rolls-Map place m counts starts list))
    ∙ fold-roll-Statement (List CallInstance) reached_step (Statement-F.Map place m counts starts list)

-- ---- statements

abbrev IsFlat : Statement → Type 0
IsFlat x = (red : Option Reduction) → reached_in x ≡ rows_in (tables_of x red)

abbrev Known : Type 0
Known = (x : Statement) × IsFlat x

abbrev these : List Known → List Statement
these = map (λ (q : Known). q.0)

parts_flat : (xs : List Known) (red : Option Reduction) → joined_rows (map reached_in (these xs))
    ≡ rows_in (all_tables (map tables_of (these xs)) red)
unfolding rows_in
parts_flat [] red = refl
parts_flat (x ∷ xs) red =
    ap (λ l. reached_in x.0 ++ l) (parts_flat xs red)
    ∙ ap (λ l. l ++ rows_in (all_tables (map tables_of (these xs)) red)) (x.1 red)
    ∙ sym (rows_joined (tables_of x.0 red) (all_tables (map tables_of (these xs)) red))

flat_step : (y : Statement-F Known) → IsFlat (roll-Statement (map-Statement Known Statement (λ p. p.0) y))
unfolding rows_in
flat_step (Statement-F.Call lower rows) = subst IsFlat (sym (b.rolls-Call lower rows)) (λ red.
    reached_call lower rows ∙ sym (alone rows)
    ∙ sym (ap (λ (f : Option Reduction → List Table). rows_in (f red)) (tables_call lower rows)))
flat_step (Statement-F.Map place m counts starts xs)
    = subst IsFlat (sym (b.rolls-Map place m counts starts (these xs))) (λ red.
    reached_map place m counts starts (these xs) ∙ parts_flat xs (red_of m)
    ∙ sym (ap (λ (f : Option Reduction → List Table). rows_in (f red)) (tables_map place m counts starts (these xs))))

is_flat : (x : Statement) → IsFlat x
is_flat = ind-Statement IsFlat (λ x y is. subst (λ z. IsFlat (roll-Statement z)) is (flat_step y))

all_flat : (list : List Statement) → joined_rows (map reached_in list) ≡ rows_in (tables_in list None)
unfolding rows_in
all_flat [] = refl
all_flat (x ∷ list) =
    ap (λ l. reached_in x ++ l) (all_flat list) ∙ ap (λ l. l ++ rows_in (tables_in list None)) (is_flat x None)
    ∙ sym (rows_joined (tables_of x None) (tables_in list None))

-- ---- what fits of each row fits of all

module _ (bodies : ℕ → FormBody) (homes : ℕ → Homes) (outer : List Shape) where
  both_fit : (xs ys : List CallInstance) → RowsFit bodies homes outer xs → RowsFit bodies homes outer ys
      → RowsFit bodies homes outer (xs ++ ys)
  both_fit [] ys g h = h
  both_fit (x ∷ xs) ys g h = (g.0, both_fit xs ys g.1 h)

  each_fits : (xs : List CallInstance)
      → ((j : ℕ) (q : CallInstance) → slice_get xs j ≡ Some q → RowFits bodies homes outer q)
      → RowsFit bodies homes outer xs
  each_fits [] h = tt
  each_fits (x ∷ xs) h = (h 0 x refl, each_fits xs (λ j q e. h (suc j) q e))

  tables_fit : (ts : List Table)
      → ((i : ℕ) (t : Table) → slice_get ts i ≡ Some t → (j : ℕ) (q : CallInstance) → slice_get t.times j ≡ Some q
      → RowFits bodies homes outer q)
      → RowsFit bodies homes outer (rows_in ts)
  unfolding rows_in
  tables_fit [] h = tt
  tables_fit (t ∷ ts) h = both_fit t.times (rows_in ts) (each_fits t.times (h 0 t refl))
      (tables_fit ts (λ i u e. h (suc i) u e))

  -- where the rows of all tables fit
  pub rows_fit : (list : List Statement)
      → ((i : ℕ) (t : Table) → slice_get (tables_in list None) i ≡ Some t → (j : ℕ) (q : CallInstance)
      → slice_get t.times j ≡ Some q
      → RowFits bodies homes outer q)
      → RowsFit bodies homes outer (joined_rows (map reached_in list))
  rows_fit list h = subst (RowsFit bodies homes outer) (sym (all_flat list)) (tables_fit (tables_in list None) h)
