-- The work of a form is that of its tables, and these name forms behind it alone.
use Rattle.std.proofs.Common.{◌≡◌, ℕ, zero, suc, ◌+◌, ◌<◌, ◌≤◌, Bool, true, List, [], ◌∷◌, ◌++◌, map, length, Option, Some, None, Ok, refl, sym, ◌∙◌, ap, subst, arith}
use Rattle.std.specs.Prelude.{slice_get, get_or}
use Rattle.sq_text.specs.declared.place.Place.{Place}
use Rattle.sq_ast.specs.declared.stmt.Stmt.{Stmt}
use Rattle.sq_ast.specs.declared.program.Body.{Body as Text}
use Rattle.sq_ast.specs.declared.program.Body.TheVariants as text
use Rattle.sq_ast.specs.declared.program.Program.{Program}
use Rattle.sq_ast.specs.declared.program.Variant.{Variant}
use Rattle.sq_machfile.specs.declared.level.Level.{Level}
use Rattle.sq_forms.specs.Mappings.declared.mapping.Instance.{Instance}
use Rattle.sq_forms.specs.Mappings.declared.mapping.Mapping.{Mapping}
use Rattle.sq_forms.specs.Mappings.Sound.{Sound}
use Rattle.sq_types.specs.Sound.{is_sound}
use Rattle.sq_forms.specs.declared.form.Found.{Found}
use Rattle.sq_forms.specs.Resolving.{Resolving, resolution, frame_in}
use Rattle.sq_forms.specs.Steps.{Key, Called}
use Rattle.sq_spec.specs.FormLaws.Reached.{CalleeIs, form_number}
use Rattle.sq_spec.specs.FormLaws.Served.{FormRuns}
use Rattle.sq_spec.specs.Work.declared.reduction.Reduction.{Reduction}
use Rattle.sq_spec.specs.Work.Work.{Work, Then, Call}
use Rattle.sq_spec.specs.declared.body.FormBody.{FormBody}
use Rattle.sq_spec.specs.declared.statement.CallInstance.{CallInstance}
use Rattle.sq_spec.specs.declared.statement.LoopKind.{LoopKind}
use Rattle.sq_spec.specs.declared.statement.Statement.{Statement, roll-Statement}
use Rattle.sq_spec.specs.declared.statement.Statement.TheVariants as b
use Rattle.sq_spec.specs.declared.statement.Statement.TheOpen.{Statement-F}
use Rattle.sq_spec.specs.declared.statement.Statement.TheFolds.{ind-Statement, map-Statement}
use Rattle.sq_spec.specs.Statements.{elems_of, tables}
use Rattle.sq_spec.specs.StatementsWork.{row_work, all_work, statement_work, statements_work}
use Rattle.sq_spec.specs.Works.{map_work, shapes_of}
use Rattle.sq_spec.specs.Bodies.{no_body, what_runs, found_body, instance_body, variant_body, scope_body, declared_body, body_of, body_work, numbered_work}
use Rattle.sq_spec.proofs.FormLaws.FitHold.{forms_run}
use Rattle.sq_spec.proofs.FormLaws.TreeHolds.{callers_first}
use Rattle.sq_spec.proofs.TablesMean.{begun_call, begun_map}
use Rattle.sq_spec_laws.specs.Fuel.{FormsBehindAreEnough}
use Rattle.sq_spec_laws.specs.TableRows.{Table, all_tables, red_of, tables_of, tables_in}
use Rattle.sq_spec_laws.proofs.TableRowsHold.{tables_call, tables_map, rows_are_reached}

-- ---- what is true of the rows of each of some tables

module _ (P : CallInstance → Type 0) where
  abbrev AllRows : Table → Type 0
  AllRows t = (j : ℕ) (q : CallInstance) → slice_get t.times j ≡ Some q → P q

  abbrev AllOf : List Table → Type 0
  AllOf [] = Unit {0}
  AllOf (t ∷ ts) = AllRows t × AllOf ts

  all_front : (ts us : List Table) → AllOf (ts ++ us) → AllOf ts
  all_front [] us h = tt
  all_front (t ∷ ts) us h = (h.0, all_front ts us h.1)

  all_back : (ts us : List Table) → AllOf (ts ++ us) → AllOf us
  all_back [] us h = h
  all_back (t ∷ ts) us h = all_back ts us h.1

  all_of_each : (ts : List Table) → ((i : ℕ) (t : Table) → slice_get ts i ≡ Some t → AllRows t) → AllOf ts
  all_of_each [] f = tt
  all_of_each (t ∷ ts) f = (f 0 t refl, all_of_each ts (λ i u e. f (suc i) u e))

-- ---- callees that agree on the forms of all rows make one work

module _ (f g : ℕ → Work) where
  abbrev Same : CallInstance → Type 0
  Same q = f q.form ≡ g q.form

  abbrev OfStatement : Statement → Type 0
  OfStatement s = (red : Option Reduction) → AllOf Same (tables_of s red) → (k : ℕ) → statement_work f s k ≡ statement_work g s k

  abbrev S : Type 0
  S = (s : Statement) × OfStatement s

  abbrev statements : List S → List Statement
  statements = map (λ (q : S). q.0)

  row_same : (lower : Bool) (times : List CallInstance) → AllRows Same (record { red = None; lower = lower; times = times }) → (k : ℕ) (o : Option CallInstance)
      → slice_get times k ≡ o → row_work f lower o ≡ row_work g lower o
  row_same lower times h k None e = refl
  row_same lower times h k (Some q) e = ap (Call q.form lower q.args) (h k q e)

  call_same : (lower : Bool) (times : List CallInstance) → OfStatement (b.Call lower times)
  call_same lower times red h k =
      let own : AllOf Same (record { red = red; lower = lower; times = times } ∷ []) = subst (λ (t : Option Reduction → List Table). AllOf Same (t red)) (tables_call lower times) h in
      ap (λ (w : ℕ → Work). w k) (begun_call f lower times)
      ∙ (row_same lower times own.0 k (slice_get times k) refl ∙ sym (ap (λ (w : ℕ → Work). w k) (begun_call g lower times)))

  all_same : (xs : List S) (red : Option Reduction) → AllOf Same (all_tables (map tables_of (statements xs)) red) → (k : ℕ)
      → all_work (map (statement_work f) (statements xs)) k ≡ all_work (map (statement_work g) (statements xs)) k
  all_same [] red h k = refl
  all_same (x ∷ xs) red h k =
      let rest = all_tables (map tables_of (statements xs)) red in
      let one = x.1 red (all_front Same (tables_of x.0 red) rest h) k in
      let more = all_same xs red (all_back Same (tables_of x.0 red) rest h) k in
      λ i. Then (one i) (more i)

  map_same : (p : Place) (m : LoopKind) (counts starts : List ℕ) (xs : List S) → OfStatement (b.Map p m counts starts (statements xs))
  map_same p m counts starts xs red h k =
      let own : AllOf Same (all_tables (map tables_of (statements xs)) (red_of m)) =
      subst (λ (t : Option Reduction → List Table). AllOf Same (t red)) (tables_map p m counts starts (statements xs)) h in
      let inside : (t : ℕ) → all_work (map (statement_work f) (statements xs)) (get_or starts k 0 + t) ≡ all_work (map (statement_work g) (statements xs)) (get_or starts k 0 + t) =
      λ t. all_same xs (red_of m) own (get_or starts k 0 + t) in
      ap (λ (w : ℕ → Work). w k) (begun_map f p m counts starts (statements xs))
      ∙ ((λ i. map_work m p (get_or counts k 0) (λ t. inside t i)) ∙ sym (ap (λ (w : ℕ → Work). w k) (begun_map g p m counts starts (statements xs))))

  same_step : (y : Statement-F S) → OfStatement (roll-Statement (map-Statement S Statement (λ p. p.0) y))
  same_step (Statement-F.Call lower times) = subst OfStatement (sym (b.rolls-Call lower times)) (call_same lower times)
  same_step (Statement-F.Map p m counts starts xs) = subst OfStatement (sym (b.rolls-Map p m counts starts (statements xs))) (map_same p m counts starts xs)

  same_statement : (s : Statement) → OfStatement s
  same_statement = ind-Statement OfStatement (λ x y is. subst (λ z. OfStatement (roll-Statement z)) is (same_step y))

  same_from : (list : List Statement) → AllOf Same (all_tables (map tables_of list) None) → (k : ℕ)
      → all_work (map (statement_work f) list) k ≡ all_work (map (statement_work g) list) k
  same_from [] h k = refl
  same_from (x ∷ xs) h k =
      let rest = all_tables (map tables_of xs) None in
      let one = same_statement x None (all_front Same (tables_of x None) rest h) k in
      let more = same_from xs (all_back Same (tables_of x None) rest h) k in
      λ i. Then (one i) (more i)

  same_statements : (list : List Statement) → AllOf Same (tables_in list None) → statements_work f list ≡ statements_work g list
  same_statements list h = same_from list h 0

-- ---- the forms of a program

module _ (program : Program) (levels : List Level) (mapping : Mapping) (faultless : is_sound program ≡ true) (sound : Sound program levels mapping)
    (r : Resolving) (through : resolution program.tasks mapping ≡ Ok r) where
  abbrev bodies : ℕ → FormBody
  bodies = body_of program.tasks mapping.instances r.found

  -- a callee stands behind its caller
  behind : (k : ℕ) (c : Called) (n : ℕ) → (call : ℕ) → c.form.caller ≡ Some (record { form = k; call = call }) → CalleeIs r.found c n → k < n
  behind k c n call is callee = callers_first program.tasks mapping r through n callee.form (record { form = k; call = call }) callee.there (callee.is.caller ∙ is)

  module _ (k : ℕ) (form : Key × Found) (there : slice_get r.found k ≡ Some form) (runs : FormRuns program mapping r k form.1) where
    abbrev x : Instance
    x = runs.fits.instance

    abbrev v : Variant
    v = runs.fits.variant

    rows_behind : (list : List Stmt) → v.body ≡ text.Inner list
        → AllOf (λ q. k < q.form) (tables_in (tables r.found (frame_in program.tasks mapping.instances x k form.1) runs.ran.scope.names (elems_of v runs.ran.scope) runs.ran.scope.numbers list) None)
    rows_behind list body =
        all_of_each (λ q. k < q.form) (tables_in (tables r.found (frame_in program.tasks mapping.instances x k form.1) runs.ran.scope.names (elems_of v runs.ran.scope) runs.ran.scope.numbers list) None)
        (λ i t at j q g.
        let of = rows_are_reached program.tasks mapping r through k form x v runs.fits.begun there runs.fits.there runs.fits.runs runs.fits.binds runs.ran list body i t at in
        let row = of.reached.rows j q g in
        let caller : row.call.form.caller ≡ Some (record { form = k; call = row.reached.site.call }) = ap (λ (c : Called). c.form.caller) row.reached.is in
        subst (λ n. k < n) (sym row.form) (behind k row.call (form_number r.found row.call.key) row.reached.site.call caller (runs.ran.callees row.index row.call row.there)))

    made : bodies k ≡ record {
      arrays = shapes_of v form.1 runs.ran.scope;
      body = what_runs r.found (frame_in program.tasks mapping.instances x k form.1) v v.body runs.ran.scope;
    }
    made =
        ap (found_body r.found program.tasks mapping.instances k) there
        ∙ (ap (instance_body r.found program.tasks mapping.instances k form.1) runs.fits.there
        ∙ (ap (variant_body r.found program.tasks mapping.instances x k form.1) runs.fits.runs
        ∙ (ap (scope_body r.found (frame_in program.tasks mapping.instances x k form.1) x v form.1) runs.fits.binds
        ∙ ap (declared_body r.found (frame_in program.tasks mapping.instances x k form.1) v form.1) runs.ran.declared)))

    body_same : (f g : ℕ → Work) → ((n : ℕ) → k < n → f n ≡ g n) → (t : Text) → v.body ≡ t
        → body_work f (record { arrays = shapes_of v form.1 runs.ran.scope; body = what_runs r.found (frame_in program.tasks mapping.instances x k form.1) v t runs.ran.scope })
        ≡ body_work g (record { arrays = shapes_of v form.1 runs.ran.scope; body = what_runs r.found (frame_in program.tasks mapping.instances x k form.1) v t runs.ran.scope })
    body_same f g h (text.Leaf list) body = refl
    body_same f g h (text.Inner list) body =
        let list2 = tables r.found (frame_in program.tasks mapping.instances x k form.1) runs.ran.scope.names (elems_of v runs.ran.scope) runs.ran.scope.numbers list in
        same_statements f g list2 (kept (tables_in list2 None) (rows_behind list body))
      where
        kept : (ts : List Table) → AllOf (λ q. k < q.form) ts → AllOf (Same f g) ts
        kept [] e = tt
        kept (t ∷ ts) e = (λ j q at. h q.form (e.0 j q at), kept ts e.1)

    form_same : (f g : ℕ → Work) → ((n : ℕ) → k < n → f n ≡ g n) → body_work f (bodies k) ≡ body_work g (bodies k)
    form_same f g h = ap (body_work f) made ∙ (body_same f g h v.body refl ∙ sym (ap (body_work g) made))

  none_there : {A : Type 0} (xs : List A) (k : ℕ) → length xs ≤ k → slice_get xs k ≡ None
  none_there [] k le = refl
  none_there (y ∷ xs) zero le = absurd (omega (arith, le))
  none_there (y ∷ xs) (suc k) le = none_there xs k (omega (arith, le))

  enough_at : (k : ℕ) (o : Option (Key × Found)) → slice_get r.found k ≡ o → (f g : ℕ → Work) → ((n : ℕ) → k < n → f n ≡ g n)
      → body_work f (bodies k) ≡ body_work g (bodies k)
  enough_at k None e f g h =
      let none : bodies k ≡ no_body = ap (found_body r.found program.tasks mapping.instances k) e in
      ap (body_work f) none ∙ sym (ap (body_work g) none)
  enough_at k (Some form) e f g h = form_same k form e (forms_run program levels mapping faultless sound r through k form e) f g h

  enough_from : (n k : ℕ) → length r.found ≤ n + k → numbered_work bodies (suc n) k ≡ numbered_work bodies n k
  enough_from zero k le =
      let none : bodies k ≡ no_body = ap (found_body r.found program.tasks mapping.instances k) (none_there r.found k (omega (arith, le))) in
      ap (body_work (numbered_work bodies zero)) none
  enough_from (suc n) k le =
      enough_at k (slice_get r.found k) refl (numbered_work bodies (suc n)) (numbered_work bodies n)
      (λ m less. enough_from n m (omega (arith, le, less)))

pub forms_behind_are_enough : FormsBehindAreEnough
forms_behind_are_enough program levels mapping faultless sound r through n k le = enough_from program levels mapping faultless sound r through n k le
