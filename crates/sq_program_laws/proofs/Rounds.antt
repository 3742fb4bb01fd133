-- The calls of a form's tables, and how many loops arguments of them can leave.
use Rattle.std.proofs.Common.{◌≡◌, ℕ, zero, suc, Bool, true, false, List, [], ◌∷◌, ◌++◌, map, get_or, refl, sym, ap}
use Rattle.std.proofs.Common.{◌∙◌, subst, arith}
use Rattle.std.specs.Prelude.{Option, Some, None, slice_get, if◌then◌else◌}
use Rattle.sq_text.specs.declared.place.Place.{Place}
use Rattle.sq_work.specs.declared.reduction.Reduction.{Reduction}
use Rattle.sq_spec.specs.declared.statement.LoopKind.{LoopKind}
use Rattle.sq_spec.specs.declared.statement.LoopKind.TheVariants as loop_kind
use Rattle.sq_spec.specs.declared.statement.CallInstance.{CallInstance}
use Rattle.sq_spec.specs.declared.statement.Statement.{Statement, roll-Statement}
use Rattle.sq_spec.specs.declared.statement.Statement.TheVariants as b
use Rattle.sq_spec.specs.declared.statement.Statement.TheOpen.{Statement-F}
use Rattle.sq_spec.specs.declared.statement.Statement.TheFolds.{ind-Statement, map-Statement, fold-roll-Statement}
use Rattle.sq_spec.specs.declared.body.Body.TheVariants as body
use Rattle.sq_spec_laws.specs.TableRows.{Table, red_of, all_tables, tables_step, tables_of, tables_in}
use Rattle.sq_placed.specs.declared.home.Home.TheVariants.{InPlace, Held}
use Rattle.sq_placed.specs.declared.home.Homes.{Homes}
use Rattle.sq_term_laws.specs.Orders.{EachOf, Round, all_rounds, map_rounds, round_step, rounds_in, rounds_of}
use Rattle.sq_term_laws.specs.Held.{IsHeldRow, AreHeldRows}
use Rattle.sq_plan_laws.proofs.PlacedLists.{same_some}
use Rattle.sq_program_laws.proofs.Loops.{each_at}

-- ---- equations of folds

pub tables_call : (lower : Bool) (times : List CallInstance) → tables_of (b.Call lower times)
    ≡ tables_step (Statement-F.Call lower times)
tables_call lower times = ap tables_of (sym (b.rolls-Call lower times))
    ∙ fold-roll-Statement (Option Reduction → List Table) tables_step (Statement-F.Call lower times)

pub tables_map : (p : Place) (m : LoopKind) (counts starts : List ℕ) (xs : List Statement)
    → tables_of (b.Map p m counts starts xs) ≡ tables_step (Statement-F.Map p m counts starts (map tables_of xs))
tables_map p m counts starts xs = ap tables_of (sym (b.rolls-Map p m counts starts xs))
    ∙ fold-roll-Statement (Option Reduction → List Table) tables_step (Statement-F.Map p m counts starts xs)

pub rounds_call : (lower : Bool) (times : List CallInstance) → rounds_in (b.Call lower times)
    ≡ round_step (Statement-F.Call lower times)
rounds_call lower times = ap rounds_in (sym (b.rolls-Call lower times))
    ∙ fold-roll-Statement (ℕ → List Round) round_step (Statement-F.Call lower times)

pub rounds_map : (p : Place) (m : LoopKind) (counts starts : List ℕ) (xs : List Statement)
    → rounds_in (b.Map p m counts starts xs) ≡ round_step (Statement-F.Map p m counts starts (map rounds_in xs))
rounds_map p m counts starts xs = ap rounds_in (sym (b.rolls-Map p m counts starts xs))
    ∙ fold-roll-Statement (ℕ → List Round) round_step (Statement-F.Map p m counts starts xs)

-- ---- a table and its round

-- the same rows; and arguments of a `mapreduce`'s call leave no loop
record IsRound (t : Table) (q : Round) : Type 0 where
  rows : q.rows ≡ t.times
  alone : (t.red ≡ None → ⊥) → q.loops ≡ 0

abbrev AreRounds : List Table → List Round → Type 0
AreRounds [] [] = Unit {0}
AreRounds [] (q ∷ qs) = ⊥
AreRounds (t ∷ ts) [] = ⊥
AreRounds (t ∷ ts) (q ∷ qs) = IsRound t q × AreRounds ts qs

rounds_both : (ts us : List Table) (qs ps : List Round) → AreRounds ts qs → AreRounds us ps
    → AreRounds (ts ++ us) (qs ++ ps)
rounds_both [] us [] ps h k = k
rounds_both [] us (q ∷ qs) ps h k = absurd h
rounds_both (t ∷ ts) us [] ps h k = absurd h
rounds_both (t ∷ ts) us (q ∷ qs) ps h k = (h.0, rounds_both ts us qs ps h.1 k)

abbrev Linked : Statement → Type 0
Linked x = (red : Option Reduction) (n : ℕ) → ((red ≡ None → ⊥) → n ≡ 0) → AreRounds (tables_of x red) (rounds_in x n)

abbrev Known : Type 0
Known = (x : Statement) × Linked x

abbrev statements : List Known → List Statement
statements = map (λ p. p.0)

all_linked : (xs : List Known) (red : Option Reduction)
    → AreRounds (all_tables (map tables_of (statements xs)) red) (all_rounds (map rounds_in (statements xs)))
all_linked [] red = tt
all_linked (x ∷ xs) red = rounds_both (tables_of x.0 red) (all_tables (map tables_of (statements xs)) red)
    (rounds_in x.0 0) (all_rounds (map rounds_in (statements xs))) (x.1 red 0 (λ f. refl)) (all_linked xs red)

-- one statement alone in a loop
one_linked : (x : Known) (n : ℕ) → AreRounds (tables_of x.0 None ++ []) (rounds_in x.0 (suc n))
one_linked x n = subst (AreRounds (tables_of x.0 None ++ [])) (same (rounds_in x.0 (suc n)))
    (rounds_both (tables_of x.0 None) [] (rounds_in x.0 (suc n)) [] (x.1 None (suc n) (λ f. absurd (f refl))) tt)
  where
    same : (qs : List Round) → qs ++ [] ≡ qs
    same [] = refl
    same (q ∷ qs) = ap (λ (l : List Round). q ∷ l) (same qs)

map_linked : (m : LoopKind) (xs : List Known) (n : ℕ)
    → AreRounds (all_tables (map tables_of (statements xs)) (red_of m)) (map_rounds m (map rounds_in (statements xs)) n)
map_linked loop_kind.Sequential [] n = tt
map_linked loop_kind.Sequential (x ∷ []) n = one_linked x n
map_linked loop_kind.Sequential (x ∷ y ∷ xs) n = all_linked (x ∷ y ∷ xs) None
map_linked loop_kind.Parallel xs n = all_linked xs None
map_linked (loop_kind.Reduction r) xs n = all_linked xs (Some r)

link_step : (y : Statement-F Known) → Linked (roll-Statement (map-Statement Known Statement (λ p. p.0) y))
link_step (Statement-F.Call lower times) = subst Linked (sym (b.rolls-Call lower times)) (λ red n free.
    subst (λ (f : Option Reduction → List Table). AreRounds (f red) (rounds_in (b.Call lower times) n))
    (sym (tables_call lower times))
    (subst (λ (f : ℕ → List Round). AreRounds (tables_step (Statement-F.Call lower times) red) (f n))
    (sym (rounds_call lower times)) (record { rows = refl; alone = λ f. by lower n (free f) }, tt)))
  where
    by : (low : Bool) (n : ℕ) → n ≡ 0 → (if low then n else 0) ≡ 0
    by true n e = e
    by false n e = refl
link_step (Statement-F.Map place m counts starts xs)
    = subst Linked (sym (b.rolls-Map place m counts starts (statements xs))) (λ red n free.
    subst (λ (f : Option Reduction → List Table). AreRounds (f red) (rounds_in (b.Map place m counts starts
    (statements xs)) n)) (sym (tables_map place m counts starts (statements xs)))
    (subst (λ (f : ℕ → List Round). AreRounds
    (tables_step (Statement-F.Map place m counts starts (map tables_of (statements xs))) red) (f n))
    (sym (rounds_map place m counts starts (statements xs))) (map_linked m xs n)))

linked : (x : Statement) → Linked x
linked = ind-Statement Linked (λ x y is. subst (λ z. Linked (roll-Statement z)) is (link_step y))

list_linked : (list : List Statement) → AreRounds (tables_in list None) (rounds_of (body.Inner list))
list_linked [] = tt
list_linked (x ∷ list) = rounds_both (tables_of x None) (tables_in list None) (rounds_in x 0)
    (rounds_of (body.Inner list)) (linked x None 0 (λ f. refl)) (list_linked list)

round_at : (ts : List Table) (qs : List Round) → AreRounds ts qs → (i : ℕ) (t : Table) → slice_get ts i ≡ Some t
    → (q : Round) × (slice_get qs i ≡ Some q) × IsRound t q
round_at [] qs h i t e = cc
round_at (x ∷ ts) [] h i t e = absurd h
round_at (x ∷ ts) (q ∷ qs) h zero t e = (q, refl, subst (λ z. IsRound z q) (same_some e) h.0)
round_at (x ∷ ts) (q ∷ qs) h (suc i) t e = round_at ts qs h.1 i t e

-- no parameter of a `mapreduce`'s call leaves a loop
pub reduced_stay : (homes : ℕ → Homes) (list : List Statement)
    → EachOf (AreHeldRows homes) (rounds_of (body.Inner list)) → (i : ℕ) (t : Table)
    → slice_get (tables_in list None) i ≡ Some t
    → (t.red ≡ None → ⊥) → (j : ℕ) (r : CallInstance) → slice_get t.times j ≡ Some r
    → (m u n : ℕ) → get_or (homes r.form).params m InPlace ≡ Held u n → ⊥
reduced_stay homes list h i t at red j r there m u n e =
    let q = round_at (tables_in list None) (rounds_of (body.Inner list)) (list_linked list) i t at in
    let row = each_at (IsHeldRow homes q.0) q.0.rows j r
    (each_at (AreHeldRows homes) (rounds_of (body.Inner list)) i q.0 h q.1)
    (ap (λ (xs : List CallInstance). slice_get xs j) q.2.rows ∙ there) in
    let some = row.some m u n e in
    let few = row.round m u n e in
    let none = q.2.alone red in
    omega (arith, some, few, none)
