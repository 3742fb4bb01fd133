-- What holds of each row of a form's tables holds of each row of its calls.
use Rattle.std.proofs.Common.{◌≡◌, ℕ, zero, suc, Bool, List, [], ◌∷◌, ◌++◌, map, slice_get, Option, Some}
use Rattle.std.proofs.Common.{None, refl, sym, ap, subst, ◌∙◌}
use Rattle.sq_text.specs.declared.place.Place.{Place}
use Rattle.sq_spec.specs.Work.declared.reduction.Reduction.{Reduction}
use Rattle.sq_spec.specs.declared.statement.LoopKind.{LoopKind}
use Rattle.sq_spec.specs.declared.statement.LoopKind.TheVariants as loop_kind
use Rattle.sq_spec.specs.declared.statement.CallInstance.{CallInstance}
use Rattle.sq_spec.specs.declared.statement.Statement.{Statement, roll-Statement}
use Rattle.sq_spec.specs.declared.statement.Statement.TheVariants as b
use Rattle.sq_spec.specs.declared.statement.Statement.TheOpen.{Statement-F}
use Rattle.sq_spec.specs.declared.statement.Statement.TheFolds.{ind-Statement, map-Statement, fold-roll-Statement}
use Rattle.sq_spec.specs.declared.body.Body.{Body}
use Rattle.sq_spec.specs.declared.body.Body.TheVariants as body
use Rattle.sq_homes.specs.SpecLaws.TableRows.{Table, red_of, all_tables, tables_step, tables_of, tables_in}
use Rattle.sq_program_laws.specs.TermLaws.Orders.{EachOf, Round, all_rounds, map_rounds, round_step, rounds_in, rounds_of}

-- ---- lists

pub each_of : {A : Type 0} (P : A → Type 0) (xs : List A) → ((i : ℕ) (x : A) → slice_get xs i ≡ Some x → P x)
    → EachOf P xs
each_of P [] h = tt
each_of P (x ∷ xs) h = (h 0 x refl, each_of P xs (λ i y e. h (suc i) y e))

pub one_of : {A : Type 0} (P : A → Type 0) (xs : List A) → EachOf P xs → (i : ℕ) (x : A) → slice_get xs i ≡ Some x → P x
one_of P [] h i x e = absurd (cc e)
one_of P (y ∷ xs) h zero x e = let is : y ≡ x = cc e in subst P is h.0
one_of P (y ∷ xs) h (suc i) x e = one_of P xs h.1 i x e

pub each_as : {A : Type 0} (P Q : A → Type 0) (xs : List A) → ((x : A) → P x → Q x) → EachOf P xs → EachOf Q xs
each_as P Q [] f h = tt
each_as P Q (x ∷ xs) f h = (f x h.0, each_as P Q xs f h.1)

pub each_left : {A : Type 0} (P : A → Type 0) (xs ys : List A) → EachOf P (xs ++ ys) → EachOf P xs
each_left P [] ys h = tt
each_left P (x ∷ xs) ys h = (h.0, each_left P xs ys h.1)

pub each_right : {A : Type 0} (P : A → Type 0) (xs ys : List A) → EachOf P (xs ++ ys) → EachOf P ys
each_right P [] ys h = h
each_right P (x ∷ xs) ys h = each_right P xs ys h.1

pub each_both : {A : Type 0} (P : A → Type 0) (xs ys : List A) → EachOf P xs → EachOf P ys → EachOf P (xs ++ ys)
each_both P [] ys g h = h
each_both P (x ∷ xs) ys g h = (g.0, each_both P xs ys g.1 h)

-- ---- the equations of a statement's calls, one for each variant

pub rounds_call : (lower : Bool) (times : List CallInstance) → rounds_in (b.Call lower times)
    ≡ round_step (Statement-F.Call lower times)
rounds_call lower times = ap rounds_in (sym (b.rolls-Call lower times))
    ∙ fold-roll-Statement (ℕ → List Round) round_step (Statement-F.Call lower times)

pub rounds_map : (place : Place) (m : LoopKind) (counts starts : List ℕ) (parts : List Statement)
    → rounds_in (b.Map place m counts starts parts)
    ≡ round_step (Statement-F.Map place m counts starts (map rounds_in parts))
rounds_map place m counts starts parts =
    ap rounds_in (sym (b.rolls-Map place m counts starts parts))
    ∙ fold-roll-Statement (ℕ → List Round) round_step (Statement-F.Map place m counts starts parts)

pub tables_call : (lower : Bool) (rows : List CallInstance) → tables_of (b.Call lower rows)
    ≡ tables_step (Statement-F.Call lower rows)
tables_call lower rows = ap tables_of (sym (b.rolls-Call lower rows))
    ∙ fold-roll-Statement (Option Reduction → List Table) tables_step (Statement-F.Call lower rows)

pub tables_map : (place : Place) (m : LoopKind) (counts starts : List ℕ) (list : List Statement)
    → tables_of (b.Map place m counts starts list)
    ≡ tables_step (Statement-F.Map place m counts starts (map tables_of list))
tables_map place m counts starts list =
    ap tables_of (sym (b.rolls-Map place m counts starts list))
    ∙ fold-roll-Statement (Option Reduction → List Table) tables_step (Statement-F.Map place m counts starts list)

-- ---- from tables to rounds

module _ (P : CallInstance → Type 0) where
  abbrev pub TablesSo : List Table → Type 0
  TablesSo ts = EachOf (λ (t : Table). EachOf P t.times) ts

  abbrev pub RoundsSo : List Round → Type 0
  RoundsSo qs = EachOf (λ (q : Round). EachOf P q.rows) qs

  abbrev Goes : (Option Reduction → List Table) → (ℕ → List Round) → Type 0
  Goes ts qs = (red : Option Reduction) (n : ℕ) → TablesSo (ts red) → RoundsSo (qs n)

  abbrev Known : Type 0
  Known = (x : Statement) × Goes (tables_of x) (rounds_in x)

  abbrev these : List Known → List Statement
  these = map (λ (q : Known). q.0)

  all_go : (xs : List Known) (red : Option Reduction) → TablesSo (all_tables (map tables_of (these xs)) red)
      → RoundsSo (all_rounds (map rounds_in (these xs)))
  all_go [] red h = tt
  all_go (x ∷ xs) red h =
      let ts = tables_of x.0 red in
      let us = all_tables (map tables_of (these xs)) red in
      each_both (λ (q : Round). EachOf P q.rows) (rounds_in x.0 0) (all_rounds (map rounds_in (these xs)))
      (x.1 red 0 (each_left (λ (t : Table). EachOf P t.times) ts us h))
      (all_go xs red (each_right (λ (t : Table). EachOf P t.times) ts us h))

  map_goes : (m : LoopKind) (xs : List Known) (n : ℕ) → TablesSo (all_tables (map tables_of (these xs)) (red_of m))
      → RoundsSo (map_rounds m (map rounds_in (these xs)) n)
  map_goes loop_kind.Sequential [] n h = tt
  map_goes loop_kind.Sequential (x ∷ []) n h =
      x.1 None (suc n) (each_left (λ (t : Table). EachOf P t.times) (tables_of x.0 None) [] h)
  map_goes loop_kind.Sequential (x ∷ y ∷ xs) n h = all_go (x ∷ y ∷ xs) None h
  map_goes loop_kind.Parallel xs n h = all_go xs None h
  map_goes (loop_kind.Reduction r) xs n h = all_go xs (Some r) h

  abbrev Good : Statement → Type 0
  Good x = Goes (tables_of x) (rounds_in x)

  good_step : (y : Statement-F Known) → Good (roll-Statement (map-Statement Known Statement (λ p. p.0) y))
  good_step (Statement-F.Call lower times) = subst Good (sym (b.rolls-Call lower times))
      (subst (λ (f : Option Reduction → List Table). Goes f (rounds_in (b.Call lower times)))
      (sym (tables_call lower times))
      (subst (Goes (tables_step (Statement-F.Call lower times))) (sym (rounds_call lower times))
      (λ red n h. (h.0, tt))))
  good_step (Statement-F.Map place m counts starts xs) =
      subst Good (sym (b.rolls-Map place m counts starts (these xs)))
      (subst (λ (f : Option Reduction → List Table). Goes f (rounds_in (b.Map place m counts starts (these xs))))
      (sym (tables_map place m counts starts (these xs)))
      (subst (Goes (tables_step (Statement-F.Map place m counts starts (map tables_of (these xs)))))
      (sym (rounds_map place m counts starts (these xs)))
      (λ red n h. map_goes m xs n h)))

  goes : (x : Statement) → Good x
  goes = ind-Statement Good (λ x y is. subst (λ z. Good (roll-Statement z)) is (good_step y))

  list_goes : (list : List Statement) → TablesSo (tables_in list None) → RoundsSo (all_rounds (map rounds_in list))
  list_goes [] h = tt
  list_goes (x ∷ xs) h =
      let ts = tables_of x None in
      let us = tables_in xs None in
      each_both (λ (q : Round). EachOf P q.rows) (rounds_in x 0) (all_rounds (map rounds_in xs))
      (goes x None 0 (each_left (λ (t : Table). EachOf P t.times) ts us h))
      (list_goes xs (each_right (λ (t : Table). EachOf P t.times) ts us h))

  -- of each row of a form's tables
  abbrev pub BodySo : Body → Type 0
  BodySo (body.Leaf code) = Unit {0}
  BodySo (body.Inner list) = TablesSo (tables_in list None)

  pub rounds_so : (x : Body) → BodySo x → RoundsSo (rounds_of x)
  rounds_so (body.Leaf code) h = tt
  rounds_so (body.Inner list) h = list_goes list h
