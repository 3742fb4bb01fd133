-- The tables of a program's forms fit.
use Rattle.std.proofs.Common.{◌≡◌, ℕ, zero, suc, Bool, true, false, List, [], ◌∷◌, ◌++◌, map, get_or, Option, Some}
use Rattle.std.proofs.Common.{None, Ok, refl, sym, ap, ◌∙◌, subst}
use Rattle.std.specs.Prelude.{slice_get, ◌&&◌}
use Rattle.sq_ast.specs.Forms.{is_formed, is_formed_variant, is_formed_body, is_formed_param, is_formed_decl}
use Rattle.sq_ast.specs.Forms.{are_formed_stmts, all, has_one}
use Rattle.sq_ast.specs.Modes.{is_written}
use Rattle.sq_ast.specs.declared.program.Body.{Body as Text}
use Rattle.sq_ast.specs.declared.program.Body.TheVariants as text
use Rattle.sq_ast.specs.declared.program.Param.{Param}
use Rattle.sq_ast.specs.declared.program.Program.{Program}
use Rattle.sq_ast.specs.declared.program.Variant.{Variant}
use Rattle.sq_ast.specs.declared.program.VariantKind.{VariantKind}
use Rattle.sq_ast.specs.declared.program.VariantKind.TheVariants as variant_kind
use Rattle.sq_ast.specs.declared.stmt.Stmt.{Stmt}
use Rattle.sq_machfile.specs.declared.level.Level.{Level}
use Rattle.sq_mapping.specs.declared.mapping.Mapping.{Mapping}
use Rattle.sq_mapping.specs.Sound.{Sound}
use Rattle.sq_types.specs.Sound.{is_sound}
use Rattle.sq_leaf.specs.Leaf.{Leaf as LeafSource, written_of, local_flags}
use Rattle.sq_ir.specs.Events.{Leaves}
use Rattle.sq_forms.specs.declared.form.Found.{Found}
use Rattle.sq_forms.specs.Resolving.{Resolving, resolution, frame_in}
use Rattle.sq_forms.specs.Steps.{Key}
use Rattle.sq_form_laws.proofs.FitHold.{of_program, forms_run}
use Rattle.sq_spec.specs.declared.body.Body.{Body}
use Rattle.sq_spec.specs.declared.body.Body.TheVariants as body
use Rattle.sq_spec.specs.declared.body.FormBody.{FormBody}
use Rattle.sq_spec.specs.declared.statement.Statement.{Statement}
use Rattle.sq_spec.specs.Bodies.{no_body, found_body, what_runs}
use Rattle.sq_spec.specs.Statements.{tables, elems_of}
use Rattle.sq_spec_laws.specs.TableRows.{Table, tables_in}
use Rattle.sq_spec_laws.proofs.FilledHold.{tables_are_full}
use Rattle.sq_spec_laws.proofs.OnesHold.{reductions_are_of_one}
use Rattle.sq_spec_laws.proofs.TableRowsHold.{rows_are_reached}
use Rattle.sq_placed.specs.declared.home.Homes.{Homes}
use Rattle.sq_placed.specs.Pipes.{call_loops_of}
use Rattle.sq_cells.specs.Tree.{Cause}
use Rattle.sq_program_laws.specs.Rows.{TableFits, ListFits, LeafFits, BodyFits, FormsFit}
use Rattle.sq_program_laws.proofs.Facts.{facts_fit}
use Rattle.sq_term_laws.specs.Orders.{EachOf, rounds_of}
use Rattle.sq_term_laws.specs.Held.{AreHeldRows}
use Rattle.sq_program_laws.specs.Held.{HoldsFit, LoopHolds, loops_of}
use Rattle.sq_program_laws.specs.Piped.{MayOverlap, PipesFit}
use Rattle.sq_program_laws.specs.Homes.{may_write, mays_of, bodies_of, HomesFit, LeavesStand}
use Rattle.sq_program_laws.specs.Laws.{ProgramsFit, ArraysAreSized}
use Rattle.sq_program_laws.specs.Sizes.{IsSized}
use Rattle.sq_program_laws.proofs.Sized.{form_shapes_sized}
use Rattle.sq_program_laws.proofs.RowsHold.{arrays_are, Runs, runs, body_is, mays_are, row_facts, row_heads}
use Rattle.sq_program_laws.proofs.Rounds.{reduced_stay}

-- ---- a formed variant

both : (a b : Bool) → (a && b) ≡ true → (a ≡ true) × (b ≡ true)
both true b h = (refl, h)
both false b h = absurd (cc h)

all_there : (f : Variant → Bool) (vs : List Variant) → all (map f vs) ≡ true → (i : ℕ) (v : Variant) → slice_get vs i
    ≡ Some v → f v ≡ true
all_there f [] h i v g = absurd (cc g)
all_there f (w ∷ vs) h zero v g = let is : w ≡ v = cc g in ap f (sym is) ∙ (both (f w) (all (map f vs)) h).0
all_there f (w ∷ vs) h (suc i) v g = all_there f vs (both (f w) (all (map f vs)) h).1 i v g

formed_inner : (k : VariantKind) (list : List Stmt) → is_formed_body k (text.Inner list) ≡ true → are_formed_stmts list
    ≡ true
formed_inner variant_kind.Inner list h = h
formed_inner variant_kind.Leaf list h = absurd (cc h)

body_formed : (v : Variant) → is_formed_variant v ≡ true → is_formed_body v.kind v.body ≡ true
body_formed v h =
    let a = both (has_one v.params)
    (all (map is_formed_param v.params)
    && (all (map (is_formed_decl v.kind) v.decls) && is_formed_body v.kind v.body)) h in
    let b = both (all (map is_formed_param v.params))
    (all (map (is_formed_decl v.kind) v.decls) && is_formed_body v.kind v.body) a.1 in
    (both (all (map (is_formed_decl v.kind) v.decls)) (is_formed_body v.kind v.body) b.1).1

-- ---- what a leaf may write

may_leaf : (ps : List Param) (more : List Bool) (i : ℕ)
    → get_or (map (λ (p : Param). is_written p.mode) ps ++ more) i false ≡ true → may_write ps i ≡ true
may_leaf [] more i h = refl
may_leaf (p ∷ ps) more zero h = h
may_leaf (p ∷ ps) more (suc i) h = may_leaf ps more i h

module _ (program : Program) (levels : List Level) (mapping : Mapping) (formed : is_formed program ≡ true)
    (sound : is_sound program ≡ true)
    (read : Sound program levels mapping) (r : Resolving) (through : resolution program.tasks mapping ≡ Ok r)
    (leaves : Leaves Cause) (homes : ℕ → Homes) (homes_fit : HomesFit program mapping r.found homes)
    (holds : HoldsFit (bodies_of program mapping r.found) homes)
    (pipes : PipesFit (bodies_of program mapping r.found) homes)
    (leaves_stand : LeavesStand program mapping r.found leaves homes) where
  abbrev bodies : ℕ → FormBody
  bodies = bodies_of program mapping r.found

  abbrev mays : ℕ → ℕ → Bool
  mays = mays_of program.tasks mapping.instances r.found

  Fits : ℕ → Body → Type 0
  Fits k b = BodyFits leaves bodies homes mays k b

  module _ (k : ℕ) (form : Key × Found) (there : slice_get r.found k ≡ Some form)
      (run : Runs program levels mapping sound read r through k form) where
    -- the statements of its text
    abbrev of_text : List Stmt → List Statement
    of_text list = tables r.found (frame_in program.tasks mapping.instances run.fits.instance k form.1)
        run.ran.scope.names (elems_of run.fits.variant run.ran.scope) run.ran.scope.numbers list

    table_fits : (list : List Stmt) (inner : run.fits.variant.body ≡ text.Inner list)
        → EachOf (AreHeldRows homes) (rounds_of (body.Inner (of_text list))) → (i : ℕ) (t : Table)
        → slice_get (tables_in (of_text list) None) i ≡ Some t → TableFits leaves bodies homes mays k t
    table_fits list inner rounds i t at =
        let o = rows_are_reached program.tasks mapping r through k form run.fits.instance run.fits.variant
        run.fits.begun there run.fits.there run.fits.runs run.fits.binds run.ran list inner i t at in
        record {
          rows = λ j q e. facts_fit leaves bodies homes mays k t q
              (row_facts program levels mapping sound read r through formed homes homes_fit k form there run list inner
              i t o.pair o.there o.reached.sum q (o.reached.rows j q e)
              (λ red. reduced_stay homes (of_text list) rounds i t at red j q e));
          same = λ j l q p e g.
              row_heads program levels mapping sound read r through formed homes homes_fit k form there run list inner i
              t o.pair o.there o.reached.sum q (o.reached.rows j q e)
              ∙ sym (row_heads program levels mapping sound read r through formed homes homes_fit k form there run list
              inner i t o.pair o.there o.reached.sum p (o.reached.rows l p g));
        }

    list_fits : (list : List Stmt) → run.fits.variant.body ≡ text.Inner list
        → (bodies k).body ≡ body.Inner (of_text list) → ListFits leaves bodies homes mays k (of_text list)
    list_fits list inner is =
        let rounds = subst (λ (x : Body). EachOf (AreHeldRows homes) (rounds_of x)) is (holds.rounds k) in
        let o = of_program program.tasks run.fits.instance.task run.fits.instance.kind run.fits.variant run.fits.runs in
        let formed_body = subst (λ (z : Text). is_formed_body run.fits.variant.kind z ≡ true) inner
        (body_formed run.fits.variant (all_there is_formed_variant program.tasks formed o.index run.fits.variant
        o.there)) in
        record {
          tables = table_fits list inner rounds;
          ones = reductions_are_of_one r.found (frame_in program.tasks mapping.instances run.fits.instance k form.1)
              run.ran.scope.names (elems_of run.fits.variant run.ran.scope) run.ran.scope.numbers list
              (formed_inner run.fits.variant.kind list formed_body);
          full = tables_are_full program levels mapping read form.1.instance run.fits.instance run.fits.variant
              run.fits.there run.fits.runs list inner r.found k form.1 run.ran.scope.names
              (elems_of run.fits.variant run.ran.scope) run.ran.scope.numbers;
          rounds = rounds;
          loops = subst (λ (x : Body). EachOf (LoopHolds homes) (loops_of x)) is (holds.loops k);
          pipes = subst (λ (x : Body). EachOf (MayOverlap homes) (call_loops_of x)) is (pipes.loops k);
        }

    leaf_fits : (leaf : LeafSource) → leaf.variant ≡ run.fits.variant → (bodies k).body ≡ body.Leaf leaf
        → LeafFits leaves bodies homes mays k leaf
    leaf_fits leaf of is =
        let s = leaves_stand k leaf is in
        record {
          coded = s.coded;
          sits = s.sits;
          permitted = λ i w. mays_are program levels mapping sound read r through k form there run i
              ∙ may_leaf run.fits.variant.params (local_flags run.fits.variant.decls) i
              (ap (λ (u : Variant). get_or (written_of u) i false) (sym of) ∙ w);
        }

    body_fits : (b : Text) → run.fits.variant.body ≡ b → (bodies k).body
        ≡ what_runs r.found (frame_in program.tasks mapping.instances run.fits.instance k form.1) run.fits.variant b
        run.ran.scope
        → Fits k (what_runs r.found (frame_in program.tasks mapping.instances run.fits.instance k form.1)
        run.fits.variant b run.ran.scope)
    unfolding Fits
    body_fits (text.Inner list) e is = list_fits list e is
    body_fits (text.Leaf list) e is
        = leaf_fits (record { variant = run.fits.variant; numbers = run.ran.scope.numbers }) refl is

    form_fits : Fits k (bodies k).body
    form_fits =
        let is = ap (λ (b : FormBody). b.body) (body_is program levels mapping sound read r through k form there run) in
        subst (Fits k) (sym is) (body_fits run.fits.variant.body refl is)

  nothing_fits : (k : ℕ) → Fits k no_body.body
  unfolding Fits
  nothing_fits k = record
      { tables = λ i t e. absurd (cc e); ones = refl; full = refl; rounds = tt; loops = tt; pipes = tt }

  each_fits : (k : ℕ) (o : Option (Key × Found)) → slice_get r.found k ≡ o → Fits k (bodies k).body
  each_fits k None e = subst (Fits k) (sym (ap (λ x. (found_body r.found program.tasks mapping.instances k x).body) e))
      (nothing_fits k)
  each_fits k (Some form) e = form_fits k form e (runs program levels mapping sound read r through k form e)

  forms_fit : FormsFit leaves bodies homes mays
  unfolding Fits
  forms_fit k = each_fits k (slice_get r.found k) refl

pub programs_fit : ProgramsFit
programs_fit program levels mapping formed sound read r through leaves homes homes_fit holds pipes leaves_stand
    = forms_fit program levels mapping formed sound read r through leaves homes homes_fit holds pipes leaves_stand

pub arrays_are_sized : ArraysAreSized
arrays_are_sized program levels mapping sound read r through k n sh e = go (slice_get r.found k) refl
  where
    go : (o : Option (Key × Found)) → slice_get r.found k ≡ o → IsSized sh.extents
    go None f = let z : slice_get no_body.arrays n ≡ Some sh
        = sym (ap (λ x. slice_get (found_body r.found program.tasks mapping.instances k x).arrays n) f)
        ∙ e in absurd (cc z)
    go (Some form) f =
        let run = forms_run program levels mapping sound read r through k form f in
        form_shapes_sized program levels mapping sound read r through k form f run n sh
        (ap (λ z. slice_get z n) (sym (arrays_are program levels mapping sound read r through k form f run)) ∙ e)
