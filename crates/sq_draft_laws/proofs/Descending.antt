-- The calls of each form go to its own level or the next one, as they say.
use Rattle.std.proofs.Common.{◌≡◌, ℕ, zero, suc, ◌==◌, ◌⊎◌, inl, inr, Bool, true, false, List, [], ◌∷◌, ◌++◌, map}
use Rattle.std.proofs.Common.{Option, Some, None, Ok, refl, sym, ap, subst, ◌∙◌, arith}
use Rattle.std.specs.Prelude.{slice_get}
use Rattle.std.proofs.lemmas.Bool.Decides.{nat_tests}
use Rattle.std.proofs.Math.Logic.{∥∥₁_elim}
use Rattle.std.specs.Coded.{coded_ℕ}
use base.Stored.{Coded-set}
use Rattle.sq_text.specs.declared.place.Place.{Place}
use Rattle.sq_text.specs.Names.{Bytes}
use Rattle.sq_ast.specs.declared.stmt.Call.{Call}
use Rattle.sq_ast.specs.declared.program.Body.{Body as Text}
use Rattle.sq_ast.specs.declared.program.Body.TheVariants as text
use Rattle.sq_ast.specs.declared.program.Program.{Program}
use Rattle.sq_ast.specs.declared.program.Variant.{Variant}
use Rattle.sq_machfile.specs.declared.level.Level.{Level}
use Rattle.sq_mapping.specs.declared.mapping.Instance.{Instance}
use Rattle.sq_mapping.specs.declared.mapping.Mapping.{Mapping}
use Rattle.sq_mapping.specs.Sound.{Sound}
use Rattle.sq_types.specs.Sound.{is_sound}
use Rattle.sq_spec.specs.Work.declared.reduction.Reduction.{Reduction}
use Rattle.sq_forms.specs.declared.form.Found.{Found}
use Rattle.sq_forms.specs.Args.{Names}
use Rattle.sq_forms.specs.Steps.{Called, Forms, Key}
use Rattle.sq_forms.specs.Tables.{variant_of}
use Rattle.sq_forms.specs.Worlds.{Callee}
use Rattle.sq_forms.specs.Resolving.{Resolving, resolution, frame_in, with_entry}
use Rattle.sq_form_laws.specs.Reached.{IsReached, body_calls, steps_of}
use Rattle.sq_form_laws.specs.Reached.{calls_in as calls_among, form_number}
use Rattle.sq_form_laws.specs.Served.{FormRuns}
use Rattle.sq_form_laws.proofs.AllHold.{Adding, InEachForm, all_hold}
use Rattle.sq_form_laws.proofs.FitHold.{forms_run}
use Rattle.sq_form_laws.proofs.Passing.{of_each, calls_are_reached}
use Rattle.sq_form_laws.proofs.ServedHold.{calls_are_served}
use Rattle.sq_spec.specs.declared.statement.LoopKind.{LoopKind}
use Rattle.sq_spec.specs.declared.statement.CallInstance.{CallInstance}
use Rattle.sq_spec.specs.declared.statement.Statement.{Statement, roll-Statement}
use Rattle.sq_spec.specs.declared.statement.Statement.TheVariants as b
use Rattle.sq_spec.specs.declared.statement.Statement.TheOpen.{Statement-F}
use Rattle.sq_spec.specs.declared.statement.Statement.TheFolds.{ind-Statement, map-Statement, fold-roll-Statement}
use Rattle.sq_spec.specs.declared.body.FormBody.{FormBody}
use Rattle.sq_spec.specs.declared.resolved.Resolved.{Resolved}
use Rattle.sq_spec.specs.Bodies.{body_of, found_body, instance_body, variant_body, scope_body, declared_body, what_runs}
use Rattle.sq_spec.specs.Statements.{tables, elems_of}
use Rattle.sq_spec.specs.Walked.{IsWalked}
use Rattle.sq_spec.specs.Works.{shapes_of}
use Rattle.sq_homes.specs.SpecLaws.TableRows.{Table, red_of, all_tables, tables_step, tables_of, tables_in, RowIsReached}
use Rattle.sq_homes.proofs.SpecLaws.TableRowsHold.{rows_are_reached}
use Rattle.sq_term.specs.Stands.{calls_in_rows, all_calls, calls_in, calls_in_all, calls_of, AreLevel, below}
use Rattle.sq_term.proofs.Opened.{calls_call, calls_map}
use Rattle.sq_homes.specs.Chosen.Forms.{level_by}
use Rattle.sq_draft_laws.specs.Given.{level_at, CallsDescend}
use Rattle.sq_draft_laws.proofs.Programs.{bodies_are_tables}
use Rattle.sq_form_laws.specs.Reached.{AsManyForms}

-- ---- the calls of statements are the rows of their tables

abbrev pairs : Table → List (Bool × ℕ)
pairs t = calls_in_rows t.lower t.times

flat : List Table → List (Bool × ℕ)
flat [] = []
flat (t ∷ ts) = pairs t ++ flat ts

joined : {A : Type 0} (xs ys zs : List A) → (xs ++ ys) ++ zs ≡ xs ++ (ys ++ zs)
joined [] ys zs = refl
joined (x ∷ xs) ys zs = ap (λ l. x ∷ l) (joined xs ys zs)

alone : {A : Type 0} (xs : List A) → xs ++ [] ≡ xs
alone [] = refl
alone (x ∷ xs) = ap (λ l. x ∷ l) (alone xs)

flat_joined : (ts us : List Table) → flat (ts ++ us) ≡ flat ts ++ flat us
unfolding flat
flat_joined [] us = refl
flat_joined (t ∷ ts) us = ap (λ l. pairs t ++ l) (flat_joined ts us) ∙ sym (joined (pairs t) (flat ts) (flat us))

tables_call : (lower : Bool) (rows : List CallInstance) → tables_of (b.Call lower rows)
    ≡ tables_step (Statement-F.Call lower rows)
tables_call lower rows = ap tables_of (sym (b.rolls-Call lower rows))
    ∙ fold-roll-Statement (Option Reduction → List Table) tables_step (Statement-F.Call lower rows)

tables_map : (place : Place) (m : LoopKind) (counts starts : List ℕ) (list : List Statement)
    → tables_of (b.Map place m counts starts list)
    ≡ tables_step (Statement-F.Map place m counts starts (map tables_of list))
tables_map place m counts starts list =
    ap tables_of (sym (b.rolls-Map place m counts starts list))
    ∙ fold-roll-Statement (Option Reduction → List Table) tables_step (Statement-F.Map place m counts starts list)

abbrev IsFlat : Statement → Type 0
IsFlat x = (red : Option Reduction) → calls_in x ≡ flat (tables_of x red)

abbrev Known : Type 0
Known = (x : Statement) × IsFlat x

abbrev these : List Known → List Statement
these = map (λ (q : Known). q.0)

parts_flat : (xs : List Known) (red : Option Reduction) → all_calls (map calls_in (these xs))
    ≡ flat (all_tables (map tables_of (these xs)) red)
unfolding flat
parts_flat [] red = refl
parts_flat (x ∷ xs) red =
    ap (λ l. calls_in x.0 ++ l) (parts_flat xs red)
    ∙ ap (λ l. l ++ flat (all_tables (map tables_of (these xs)) red)) (x.1 red)
    ∙ sym (flat_joined (tables_of x.0 red) (all_tables (map tables_of (these xs)) red))

flat_step : (y : Statement-F Known) → IsFlat (roll-Statement (map-Statement Known Statement (λ p. p.0) y))
unfolding flat
flat_step (Statement-F.Call lower rows) = subst IsFlat (sym (b.rolls-Call lower rows)) (λ red.
    calls_call lower rows ∙ sym (alone (calls_in_rows lower rows))
    ∙ sym (ap (λ (f : Option Reduction → List Table). flat (f red)) (tables_call lower rows)))
flat_step (Statement-F.Map place m counts starts xs)
    = subst IsFlat (sym (b.rolls-Map place m counts starts (these xs))) (λ red.
    calls_map place m counts starts (these xs) ∙ parts_flat xs (red_of m)
    ∙ sym (ap (λ (f : Option Reduction → List Table). flat (f red)) (tables_map place m counts starts (these xs))))

is_flat : (x : Statement) → IsFlat x
is_flat = ind-Statement IsFlat (λ x y is. subst (λ z. IsFlat (roll-Statement z)) is (flat_step y))

all_flat : (list : List Statement) → calls_in_all list ≡ flat (tables_in list None)
unfolding flat
all_flat [] = refl
all_flat (x ∷ list) =
    ap (λ l. calls_in x ++ l) (all_flat list) ∙ ap (λ l. l ++ flat (tables_in list None)) (is_flat x None)
    ∙ sym (flat_joined (tables_of x None) (tables_in list None))

-- ---- levels of lists of calls

module _ (level : ℕ → ℕ) (at : ℕ) where
  level_joined : (ps qs : List (Bool × ℕ)) → AreLevel level at ps → AreLevel level at qs → AreLevel level at (ps ++ qs)
  level_joined [] qs g h = h
  level_joined (p ∷ ps) qs g h = (g.0, level_joined ps qs g.1 h)

  rows_level : (lower : Bool) (rows : List CallInstance)
      → ((j : ℕ) (q : CallInstance) → slice_get rows j ≡ Some q → level q.form ≡ below lower at)
      → AreLevel level at (calls_in_rows lower rows)
  rows_level lower [] h = tt
  rows_level lower (r ∷ rows) h = (h 0 r refl, rows_level lower rows (λ j q e. h (suc j) q e))

  tables_level : (ts : List Table)
      → ((i : ℕ) (t : Table) → slice_get ts i ≡ Some t → (j : ℕ) (q : CallInstance) → slice_get t.times j ≡ Some q
      → level q.form ≡ below t.lower at)
      → AreLevel level at (flat ts)
  unfolding flat
  tables_level [] h = tt
  tables_level (t ∷ ts) h = level_joined (pairs t) (flat ts) (rows_level t.lower t.times (h 0 t refl))
      (tables_level ts (λ i u e. h (suc i) u e))

  one_level : (ps : List (Bool × ℕ)) → AreLevel level at ps → (i : ℕ) (p : Bool × ℕ) → slice_get ps i ≡ Some p
      → level p.1 ≡ below p.0 at
  one_level [] h i p e = absurd (cc e)
  one_level (q ∷ ps) h zero p e = let is : q ≡ p = cc e in subst (λ (x : Bool × ℕ). level x.1 ≡ below x.0 at) is h.0
  one_level (q ∷ ps) h (suc i) p e = one_level ps h.1 i p e

  each_level : (ps : List (Bool × ℕ)) → ((i : ℕ) (p : Bool × ℕ) → slice_get ps i ≡ Some p → level p.1 ≡ below p.0 at)
      → AreLevel level at ps
  each_level [] h = tt
  each_level (p ∷ ps) h = (h 0 p refl, each_level ps (λ i q e. h (suc i) q e))

-- ---- the levels of forms are those of their instances

some_same : {A : Type 0} (x y : A) → Some x ≡ Some y → x ≡ y
some_same x y h = cc h

below_is : (lower : Bool) (callee caller : ℕ) → lower ≡ (callee == suc caller) → (callee ≡ caller)
    ⊎ (callee ≡ suc caller) → callee ≡ below lower caller
below_is true callee caller e near = grind (arith, nat_tests, e)
below_is false callee caller e (inl same) = same
below_is false callee caller e (inr next) = absurd (grind (arith, nat_tests, e, next))

module _ (program : Program) (levels : List Level) (mapping : Mapping) (sound : Sound program levels mapping) where
  record FormLevel (f : Found) : Type 0 where
    instance : Instance
    there : slice_get mapping.instances f.instance ≡ Some instance
    level : f.level ≡ instance.level

  record CalleeLevel (x : Instance) (callee : Callee) : Type 0 where
    instance : Instance
    there : slice_get mapping.instances callee.instance ≡ Some instance
    level : callee.level ≡ instance.level
    near : (callee.level ≡ x.level) ⊎ (callee.level ≡ suc x.level)

  near_by : (n : ℕ) (y x : Instance) → n ≡ y.level → (y.level ≡ x.level) ⊎ (y.level ≡ suc x.level) → (n ≡ x.level)
      ⊎ (n ≡ suc x.level)
  near_by n y x e (inl h) = inl (e ∙ h)
  near_by n y x e (inr h) = inr (e ∙ h)

  callee_level : (x : Instance) (v : Variant) (number k : ℕ) (f : Found) (names : Names) (c : Called)
      → slice_get mapping.instances number ≡ Some x
      → variant_of program.tasks x.task x.kind ≡ Some v
      → (h : IsReached (frame_in program.tasks mapping.instances x k f) names (body_calls v.body) c)
      → CalleeLevel x h.callee
  callee_level x v number k f names c there runs h =
      let served = calls_are_served program levels mapping sound number x v there runs h.position h.call h.among k f in
      let same : served.0 ≡ h.callee = some_same served.0 h.callee (sym served.1 ∙ h.serves) in
      let own = served.2 in
      subst (CalleeLevel x) same (record {
        instance = own.instance;
        there = own.there;
        level = own.level;
        near
            = near_by (served.0).level own.instance x own.level own.near;
      })

  form_level : (x : Instance) (v : Variant) (number k : ℕ) (f : Found) (names : Names) (c : Called)
      → slice_get mapping.instances number ≡ Some x
      → variant_of program.tasks x.task x.kind ≡ Some v
      → IsReached (frame_in program.tasks mapping.instances x k f) names (body_calls v.body) c
      → FormLevel c.form
  form_level x v number k f names c there runs h =
      let l = callee_level x v number k f names c there runs h in
      subst (λ (d : Called). FormLevel d.form) (sym h.is)
      (record { instance = l.instance; there = l.there; level = l.level })

  record AllLeveled (forms : Forms) : Type 0 where
    each : (i : ℕ) (e : Key × Found) → slice_get forms i ≡ Some e → FormLevel e.1

  abbrev Leveled : ℕ → Called → Type 0
  Leveled k c = FormLevel c.form

  found_in : (forms : Forms) (e f : Key × Found) (i : ℕ) → slice_get (forms ++ e ∷ []) i ≡ Some f
      → (slice_get forms i ≡ Some f) ⊎ (e ≡ f)
  found_in [] e f zero h = inr (cc h)
  found_in [] e f (suc i) h = absurd (cc h)
  found_in (g ∷ forms) e f zero h = inl h
  found_in (g ∷ forms) e f (suc i) h = found_in forms e f i h

  level_added : Adding AllLeveled Leveled
  level_added k forms c p less few holds = record {
    each = λ i f there. elim (found_in forms (c.key, c.form) f i there) [
      | inl old ↦ holds.each i f old
      | inr new ↦ subst (λ (e : Key × Found). FormLevel e.1) new p
    ];
  }

  level_each : InEachForm program.tasks mapping.instances Leveled
  level_each x v k f scope t u there runs h =
      of_each (λ c. FormLevel c.form) (steps_of program.tasks mapping.instances x v k f scope)
      (λ i c g. form_level x v f.instance k f scope.names c there runs
      (calls_are_reached v.body (frame_in program.tasks mapping.instances x k f) scope t u h i c g))

  entry_level : (extents : List (List ℕ)) (i : ℕ) (e : Key × Found)
      → slice_get (with_entry mapping.entry extents).found i ≡ Some e → FormLevel e.1
  entry_level extents zero e g =
      subst (λ (d : Key × Found). FormLevel d.1) (some_same _ e g)
      (record { instance = sound.entry.entry; there = sound.entry.there; level = sym sound.entry.root })
  entry_level extents (suc i) e g = absurd (cc g)

  all_leveled : (r : Resolving) → resolution program.tasks mapping ≡ Ok r → AllLeveled r.found
  all_leveled r h = all_hold program.tasks mapping AllLeveled Leveled level_added level_each
      (λ extents e. record { each = entry_level extents }) r h

  -- ---- the rows of a form

  module _ (faultless : is_sound program ≡ true) (r : Resolving) (through : resolution program.tasks mapping ≡ Ok r)
    where
      abbrev level_in : ℕ → ℕ
      level_in k = level_by (slice_get r.forms k)

      runs_at : (k : ℕ) (form : Key × Found) → slice_get r.found k ≡ Some form → FormRuns program mapping r k form.1
      runs_at k form there = forms_run program levels mapping faultless sound r through k form there

      level_is : (k : ℕ) (form : Key × Found) → slice_get r.found k ≡ Some form → level_in k ≡ form.1.level
      level_is k form there = ap level_by (runs_at k form there).ran.kept

      module _ (k : ℕ) (form : Key × Found) (there : slice_get r.found k ≡ Some form) where
        abbrev its : FormRuns program mapping r k form.1
        its = runs_at k form there

        own_level : level_in k ≡ its.fits.instance.level
        own_level =
            let l = (all_leveled r through).each k form there in
            let same : l.instance ≡ its.fits.instance
            = some_same l.instance its.fits.instance (sym l.there ∙ its.fits.there) in
            level_is k form there ∙ l.level ∙ ap (λ (x : Instance). x.level) same

        row_level : (lower : Bool) (reduced : Option Bytes) (c : Call) (q : CallInstance)
            → RowIsReached (frame_in program.tasks mapping.instances its.fits.instance k form.1) its.ran.scope.names
            (body_calls its.fits.variant.body)
            (calls_among (steps_of program.tasks mapping.instances its.fits.instance its.fits.variant k form.1
            its.ran.scope)) r.found reduced c lower q
            → level_in q.form ≡ below lower (level_in k)
        row_level lower reduced c q row =
            let callee = its.ran.callees row.index row.call row.there in
            let at : level_in (form_number r.found row.call.key) ≡ callee.form.1.level
            = level_is (form_number r.found row.call.key) callee.form callee.there in
            let called : callee.form.1.level ≡ row.reached.callee.level = callee.is.level
            ∙ ap (λ (d : Called). d.form.level) row.reached.is in
            let near = callee_level its.fits.instance its.fits.variant form.1.instance k form.1 its.ran.scope.names
            row.call its.fits.there its.fits.runs row.reached in
            ap level_in row.form ∙ at ∙ called
            ∙ below_is lower row.reached.callee.level its.fits.instance.level row.level near.near
            ∙ ap (below lower) (sym own_level)

        body_level : (t : Text) → its.fits.variant.body ≡ t
            → AreLevel level_in (level_in k)
            (calls_of (what_runs r.found (frame_in program.tasks mapping.instances its.fits.instance k form.1)
            its.fits.variant t its.ran.scope))
        body_level (text.Leaf list) e = tt
        body_level (text.Inner list) e =
            let frame = frame_in program.tasks mapping.instances its.fits.instance k form.1 in
            let scope = its.ran.scope in
            let own = tables r.found frame scope.names (elems_of its.fits.variant scope) scope.numbers list in
            subst (AreLevel level_in (level_in k)) (sym (all_flat own))
            (tables_level level_in (level_in k) (tables_in own None) (λ i t g j q h.
            let of_text = rows_are_reached program.tasks mapping r through k form its.fits.instance its.fits.variant
            its.fits.begun there its.fits.there its.fits.runs its.fits.binds its.ran list e i t g in
            row_level t.lower of_text.pair.0 of_text.pair.1 q (of_text.reached.rows j q h)))

        body_is : body_of program.tasks mapping.instances r.found k
            ≡ record {
              arrays = shapes_of its.fits.variant form.1 its.ran.scope;
              body
                  = what_runs r.found (frame_in program.tasks mapping.instances its.fits.instance k form.1) its.fits.variant
                  its.fits.variant.body its.ran.scope;
            }
        body_is =
            let frame = frame_in program.tasks mapping.instances its.fits.instance k form.1 in
            ap (found_body r.found program.tasks mapping.instances k) there
            ∙ ap (instance_body r.found program.tasks mapping.instances k form.1) its.fits.there
            ∙ ap (variant_body r.found program.tasks mapping.instances its.fits.instance k form.1) its.fits.runs
            ∙ ap (scope_body r.found frame its.fits.instance its.fits.variant form.1) its.fits.binds
            ∙ ap (declared_body r.found frame its.fits.variant form.1) its.ran.declared

        form_descends : AreLevel level_in (level_in k) (calls_of (body_of program.tasks mapping.instances r.found k).body)
        form_descends =
            subst (λ (x : FormBody). AreLevel level_in (level_in k) (calls_of x.body)) (sym body_is)
            (body_level its.fits.variant.body refl)

      descends : (k : ℕ) (o : Option (Key × Found)) → slice_get r.found k ≡ o
          → AreLevel level_in (level_in k) (calls_of (body_of program.tasks mapping.instances r.found k).body)
      descends k (Some form) there = form_descends k form there
      descends k None there =
          subst (λ (x : FormBody). AreLevel level_in (level_in k) (calls_of x.body))
          (sym (ap (found_body r.found program.tasks mapping.instances k) there)) tt

-- ---- of a resolved program

walked_descends : (r : Resolved)
    → IsWalked r.typed.now r.machine.now.levels r.mapping.now r.found.entries r.forms r.uses → (k : ℕ)
    → AreLevel (level_at r) (level_at r k)
    (calls_of (body_of r.typed.now.tasks r.mapping.now.instances r.found.entries k).body)
walked_descends r w k =
    descends r.typed.now r.machine.now.levels r.mapping.now w.read w.faultless
    (record { found = r.found.entries; forms = r.forms; uses = r.uses }) w.through k
    (slice_get r.found.entries k) refl

pub calls_descend : AsManyForms → (r : Resolved) → CallsDescend r
calls_descend law r = record {
  each = λ k.
      let own = body_of r.typed.now.tasks r.mapping.now.instances r.found.entries k in
      subst (λ (x : FormBody). AreLevel (level_at r) (level_at r k) (calls_of x.body)) (sym (bodies_are_tables law r k))
      (each_level (level_at r) (level_at r k) (calls_of own.body) (λ i p e.
      ∥∥₁_elim r.walked (Coded-set coded_ℕ _ _)
      (λ w. one_level (level_at r) (level_at r k) (calls_of own.body) (walked_descends r w k) i p e)));
}
