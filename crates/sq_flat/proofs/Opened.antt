-- The equations of the folds over statements with their tables, and what lists of rows give.
use Rattle.std.proofs.Common.{arith, ◌≡◌, ◌∙◌, sym, ap, subst, ℕ, zero, suc, ◌+◌, ◌<◌, Bool, List, [], ◌∷◌, ◌++◌, drop, map, length, get_or, slice_get, Some}
use Rattle.std.proofs.Math.Seq.{drop-cons}
use Rattle.std.proofs.lemmas.List.{append-nil}
use Rattle.sq_text.specs.declared.place.Place.{Place}
use Rattle.sq_rect.specs.declared.view.View.{View}
use Rattle.sq_spec.specs.declared.statement.LoopKind.{LoopKind}
use Rattle.sq_spec.specs.declared.statement.CallInstance.{CallInstance}
use Rattle.sq_spec.specs.declared.statement.Statement.{Statement}
use Rattle.sq_spec.specs.declared.statement.Statement.TheVariants as b
use Rattle.sq_spec.specs.declared.statement.Statement.TheOpen.{Statement-F}
use Rattle.sq_spec.specs.declared.statement.Statement.TheFolds.{fold-roll-Statement}
use Rattle.sq_work.specs.Work.{Work}
use Rattle.sq_flat.specs.declared.form.FormCode.{FormCode}
use Rattle.sq_spec.specs.StatementsWork.{statement_step, statement_work}
use Rattle.sq_flat.specs.Ready.{rows_step, rows_of, rows_in, RowFits, RowsFit, AreReady}
use Rattle.sq_flat.proofs.Fitting.{same_some}

pub begun_call : (callee : ℕ → Work) (lower : Bool) (times : List CallInstance) → statement_work callee (b.Call lower times) ≡ statement_step callee (Statement-F.Call lower times)
begun_call callee lower times = ap (statement_work callee) (sym (b.rolls-Call lower times)) ∙ fold-roll-Statement (ℕ → Work) (statement_step callee) (Statement-F.Call lower times)

pub begun_map : (callee : ℕ → Work) (p : Place) (m : LoopKind) (counts starts : List ℕ) (parts : List Statement)
    → statement_work callee (b.Map p m counts starts parts) ≡ statement_step callee (Statement-F.Map p m counts starts (map (statement_work callee) parts))
begun_map callee p m counts starts parts = ap (statement_work callee) (sym (b.rolls-Map p m counts starts parts)) ∙ fold-roll-Statement (ℕ → Work) (statement_step callee) (Statement-F.Map p m counts starts parts)

pub rows_call : (lower : Bool) (times : List CallInstance) → rows_of (b.Call lower times) ≡ times
rows_call lower times = ap rows_of (sym (b.rolls-Call lower times)) ∙ fold-roll-Statement (List CallInstance) rows_step (Statement-F.Call lower times)

pub rows_map : (p : Place) (m : LoopKind) (counts starts : List ℕ) (parts : List Statement) → rows_of (b.Map p m counts starts parts) ≡ rows_in parts
rows_map p m counts starts parts = ap rows_of (sym (b.rolls-Map p m counts starts parts)) ∙ fold-roll-Statement (List CallInstance) rows_step (Statement-F.Map p m counts starts parts)

-- ---- rows

pub rows_front : (forms : List FormCode) (vs : List View) (xs ys : List CallInstance) → RowsFit forms vs (xs ++ ys) → RowsFit forms vs xs
rows_front forms vs [] ys all = tt
rows_front forms vs (x ∷ xs) ys all = (all.0, rows_front forms vs xs ys all.1)

pub rows_back : (forms : List FormCode) (vs : List View) (xs ys : List CallInstance) → RowsFit forms vs (xs ++ ys) → RowsFit forms vs ys
rows_back forms vs [] ys all = all
rows_back forms vs (x ∷ xs) ys all = rows_back forms vs xs ys all.1

pub row_at : (forms : List FormCode) (vs : List View) (xs : List CallInstance) (k : ℕ) (r : CallInstance) → RowsFit forms vs xs → slice_get xs k ≡ Some r → RowFits forms vs r
row_at forms vs [] k r all is = cc
row_at forms vs (y ∷ xs) zero r all is = subst (RowFits forms vs) (same_some y r is) all.0
row_at forms vs (y ∷ xs) (suc k) r all is = row_at forms vs xs k r all.1 is

-- the item that is next in a list
pub next_item : {X : Type 0} (xs : List X) (i : ℕ) (x : X) → i < length xs → x ≡ get_or xs i x → drop i xs ≡ x ∷ drop (i + 1) xs
next_item xs i x below is = let e : suc i ≡ i + 1 = omega arith in drop-cons xs i x below ∙ (ap (λ y. y ∷ drop (suc i) xs) (sym is) ∙ ap (λ n. x ∷ drop n xs) e)

pub ready_item : (forms : List FormCode) (vs : List View) (list rest : List Statement) (s : Statement) → list ≡ s ∷ rest → AreReady forms vs list → AreReady forms vs (s ∷ [])
ready_item forms vs list rest s is ready =
    subst (RowsFit forms vs) (sym (append-nil (rows_of s))) (rows_front forms vs (rows_of s) (rows_in rest) (subst (AreReady forms vs) is ready))

pub ready_rest : (forms : List FormCode) (vs : List View) (list rest : List Statement) (s : Statement) → list ≡ s ∷ rest → AreReady forms vs list → AreReady forms vs rest
ready_rest forms vs list rest s is ready = rows_back forms vs (rows_of s) (rows_in rest) (subst (AreReady forms vs) is ready)

pub ready_call : (forms : List FormCode) (vs : List View) (s : Statement) (lower : Bool) (times : List CallInstance) (k : ℕ) (r : CallInstance) → s ≡ b.Call lower times → AreReady forms vs (s ∷ [])
    → slice_get times k ≡ Some r → RowFits forms vs r
ready_call forms vs s lower times k r is ready there =
    row_at forms vs times k r (subst (RowsFit forms vs) (ap rows_of is ∙ rows_call lower times) (rows_front forms vs (rows_of s) [] ready)) there

pub ready_map : (forms : List FormCode) (vs : List View) (s : Statement) (p : Place) (m : LoopKind) (counts starts : List ℕ) (parts : List Statement) → s ≡ b.Map p m counts starts parts
    → AreReady forms vs (s ∷ []) → AreReady forms vs parts
ready_map forms vs s p m counts starts parts is ready =
    subst (RowsFit forms vs) (ap rows_of is ∙ rows_map p m counts starts parts) (rows_front forms vs (rows_of s) [] ready)
