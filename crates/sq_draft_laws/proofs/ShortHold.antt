-- The paths of leaf calls are short, and leaves have few arrays.
use Rattle.std.proofs.Common.{◌≡◌, ℕ, ◌+◌, ◌<◌, ◌≤◌, Bool, true, false, List, [], ◌∷◌, length, map, Option, Some, None}
use Rattle.std.proofs.Common.{Ok, refl, sym, ap, ◌∙◌, subst, arith}
use Rattle.std.specs.Prelude.{slice_get, nat_lt, ◌||◌}
use Rattle.std.proofs.lemmas.Bool.Decides.{nat_tests}
use Rattle.std.proofs.Math.Path.{fun_ext}
use Rattle.sq_ast.specs.declared.program.Body.{Body as Text}
use Rattle.sq_ast.specs.declared.program.Body.TheVariants as text
use Rattle.sq_ast.specs.declared.program.Decl.{Decl}
use Rattle.sq_ast.specs.declared.program.Decl.TheVariants as decl
use Rattle.sq_ast.specs.declared.program.Param.{Param}
use Rattle.sq_ast.specs.declared.program.Program.{Program}
use Rattle.sq_ast.specs.declared.program.Variant.{Variant}
use Rattle.sq_ast.specs.declared.stmt.Stmt.{Stmt}
use Rattle.sq_machfile.specs.declared.level.Level.{Level}
use Rattle.sq_mapping.specs.declared.mapping.Instance.{Instance}
use Rattle.sq_mapping.specs.declared.mapping.Mapping.{Mapping}
use Rattle.sq_mapping.specs.Sound.{Sound}
use Rattle.sq_types.specs.Known.{Known}
use Rattle.sq_types.specs.Sites.{param_known, params_known, param_at as first_at, with_param, decl_known}
use Rattle.sq_types.specs.Sites.{params_of as params_of_task, local_known}
use Rattle.sq_types.specs.Sound as typed
use Rattle.sq_types.specs.Table.{most_arrays}
use Rattle.sq_blocks.specs.Names.{Numbers}
use Rattle.sq_leaf.specs.Leaf.{Leaf as LeafSource}
use Rattle.sq_ir.specs.DraftLeaves as leaves
use Rattle.sq_forms.specs.declared.form.Caller.{Caller}
use Rattle.sq_forms.specs.declared.form.Found.{Found}
use Rattle.sq_forms.specs.Calls.{most_round, key_of}
use Rattle.sq_forms.specs.Resolving.{Resolving, resolution, frame_in}
use Rattle.sq_forms.specs.Steps.{Called, Key, key_number}
use Rattle.sq_forms.specs.Tables.{variant_of}
use Rattle.sq_forms.specs.Worlds.{Frame}
use Rattle.sq_form_laws.specs.Reached.{calls_in, steps_of}
use Rattle.sq_form_laws.specs.Served.{FormRuns}
use Rattle.sq_form_laws.proofs.FitHold.{some_same, variant_parts, forms_run}
use Rattle.sq_form_laws.proofs.KeysFound.{form_there}
use Rattle.sq_form_laws.proofs.KeysHold.{key_is_form}
use Rattle.sq_form_laws.proofs.Passing.{at_each}
use Rattle.sq_form_laws.proofs.TreeHolds.{callers_first}
use Rattle.sq_spec.specs.declared.body.Body.TheVariants as body
use Rattle.sq_spec.specs.declared.body.FormBody.{FormBody}
use Rattle.sq_spec.specs.declared.resolved.Resolved.{Resolved}
use Rattle.sq_spec.specs.declared.statement.CallInstance.{CallInstance}
use Rattle.sq_spec.specs.Bodies.{no_body, found_body, what_runs}
use Rattle.sq_spec.specs.Statements.{number_or, tables, elems_of}
use Rattle.sq_homes.proofs.SpecLaws.Sorted.{both, three, four}
use Rattle.sq_homes.proofs.SpecLaws.TableRowsHold.{rows_are_reached}
use Rattle.sq_program_laws.specs.PlanLaws.LeafLaws.{event_shape}
use Rattle.sq_term.specs.Terms.{body_in}
use Rattle.sq_homes.specs.Chosen.Forms as chosen
use Rattle.sq_draft_laws.specs.Paths.{Nested, nested_of, PathsFit, LeavesAreSmall}
use Rattle.sq_program_laws.specs.Homes.{bodies_of}
use Rattle.sq_program_laws.proofs.RowsHold.{body_is}
use Rattle.sq_draft_laws.specs.Programs.{BodiesAreTables}
use Rattle.sq_draft_laws.specs.Choosing.{Walked}
use Rattle.sq_draft_laws.specs.Short.{round_by, round_of, LeavesAreShort}
use Rattle.sq_draft_laws.proofs.Dimensions.{map_many}
use Rattle.sq_program_laws.proofs.EachForm.{each_good}
use Rattle.sq_draft_laws.proofs.LeavesHold.{leaf_form, shapes_same}
use Rattle.sq_draft_laws.proofs.Loops.{loops_of, AreCounted, calls_are_counted, long_joined}
use Rattle.sq_draft_laws.proofs.NestedCalls.{has_table, IsKeyed, row_at}

-- ---- the maps round forms

not_deep : (m d : ℕ) → (nat_lt most_round m || nat_lt most_round d) ≡ false → m ≤ 64
unfolding most_round
not_deep m d h = by (nat_lt most_round m) refl h
  where
    by : (b : Bool) → nat_lt 64 m ≡ b → (b || nat_lt 64 d) ≡ false → m ≤ 64
    by true e g = absurd (cc g)
    by false e g = grind (arith, nat_tests)

module _ (program : Program) (levels : List Level) (mapping : Mapping) (sound : typed.is_sound program ≡ true)
    (read : Sound program levels mapping) (r : Resolving) (through : resolution program.tasks mapping ≡ Ok r) where
  -- round the form stand the maps of its caller's form and those round its call, few of them
  pub record IsRounded (f : Found) : Type 0 where
    pub few : f.maps ≤ 64
    pub called : (cl : Caller) (e : Key × Found) (x : Instance) (v : Variant) → f.caller ≡ Some cl
        → slice_get r.found cl.form ≡ Some e → slice_get mapping.instances e.1.instance ≡ Some x
        → variant_of program.tasks x.task x.kind ≡ Some v
        → (n : ℕ) × (slice_get (loops_of v.body) cl.call ≡ Some n) × (f.maps ≡ e.1.maps + n)

  reached_rounded : (k : ℕ) (form : Key × Found) → slice_get r.found k ≡ Some form
      → (run : FormRuns program mapping r k form.1) → (i : ℕ) (c : Called)
      → slice_get (calls_in (steps_of program.tasks mapping.instances run.fits.instance run.fits.variant k form.1
      run.ran.scope)) i ≡ Some c → IsRounded c.form
  reached_rounded k form there run i c at =
      let x = run.fits.instance in
      let v = run.fits.variant in
      let scope = run.ran.scope in
      let frame = frame_in program.tasks mapping.instances x k form.1 in
      let counted = at_each (AreCounted frame scope.names (loops_of v.body))
      (steps_of program.tasks mapping.instances x v k form.1 scope) (calls_are_counted v.body frame scope) i c at in
      let h = run.ran.reached i c at in
      record {
        few = subst (λ (m : ℕ). m ≤ 64) (ap (λ (d : Called). d.form.maps) (sym h.is))
            (not_deep (frame.maps + length h.site.iterations) frame.depth h.depth);
        called = λ cl e y w is e_there y_there w_runs.
            let d = counted cl is in
            let same : e ≡ form = some_same e form (sym e_there ∙ (ap (slice_get r.found) d.form ∙ there)) in
            let instance : y ≡ x = some_same y x
            (sym y_there
            ∙ (ap (λ (g : Key × Found). slice_get mapping.instances g.1.instance) same ∙ run.fits.there)) in
            let variant : w ≡ v = some_same w v
            (sym w_runs ∙ (ap (λ (z : Instance). variant_of program.tasks z.task z.kind) instance ∙ run.fits.runs)) in (
              d.loops,
              ap (λ (u : Variant). slice_get (loops_of u.body) cl.call) variant ∙ d.there,
              d.maps ∙ ap (λ (g : Key × Found). g.1.maps + d.loops) (sym same),
            );
      }

  pub forms_are_rounded : (k : ℕ) (form : Key × Found) → slice_get r.found k ≡ Some form → IsRounded form.1
  forms_are_rounded = each_good program levels mapping sound read r through IsRounded
      (λ k form there run here i c at. reached_rounded k form there run i c at)
      (λ extents e. record { few = omega arith; called = λ cl e x v is a b c. absurd (cc is) })

  -- ---- rows

  -- the number of the call in the key under which a form stands
  call_by : (k i call : ℕ) (instance instance2 : ℕ) (in_place in_place2 : List Bool) (es es2 : List (List ℕ)) (n : ℕ)
      (e : Key × Found) (cl : Caller) → slice_get r.found n ≡ Some e
      → e.0 ≡ key_of k call instance in_place es → e.1.caller ≡ Some cl
      → (o : Option ℕ) → key_number r.found (key_of k i instance2 in_place2 es2) ≡ o → n ≡ number_or o → call ≡ i
  call_by k i call instance instance2 in_place in_place2 es es2 n e cl there key called None h is =
      let first : slice_get r.found 0 ≡ Some e = ap (slice_get r.found) (sym is) ∙ there in
      let less : cl.form < 0 = callers_first program.tasks mapping r through 0 e cl first called in
      absurd (omega (arith, less))
  call_by k i call instance instance2 in_place in_place2 es es2 n e cl there key called (Some m) h is =
      let f = form_there r.found (key_of k i instance2 in_place2 es2) m h in
      let same : e ≡ f.0 = some_same e f.0 (sym there ∙ (ap (slice_get r.found) is ∙ f.1)) in
      (key_is_form k k call i instance instance2 in_place in_place2 es es2
      (sym key ∙ (ap (λ (g : Key × Found). g.0) same ∙ f.2))).call

  module _ (k : ℕ) (form : Key × Found) (there : slice_get r.found k ≡ Some form)
      (run : FormRuns program mapping r k form.1) (list : List Stmt) (inner : run.fits.variant.body ≡ text.Inner list)
    where
      abbrev frame : Frame
      frame = frame_in program.tasks mapping.instances run.fits.instance k form.1

      row_rounded : (i : ℕ) (t : Nested)
          (at : slice_get (nested_of (body.Inner (tables r.found frame run.ran.scope.names
          (elems_of run.fits.variant run.ran.scope) run.ran.scope.numbers list))) i ≡ Some t)
          → (j : ℕ) (q : CallInstance) → slice_get t.times j ≡ Some q
          → form.1.maps + t.loops ≤ round_by (slice_get r.found q.form)
      row_rounded i t at j q e =
          let scope = run.ran.scope in
          let v = run.fits.variant in
          let statements = tables r.found frame scope.names (elems_of v scope) scope.numbers list in
          let row = row_at r.found frame scope.names (elems_of v scope) scope.numbers list i t at in
          let z : 0 + i ≡ i = omega arith in
          let keyed = subst (λ (m : ℕ). IsKeyed r.found frame scope.names (elems_of v scope) scope.numbers m q) z
          (row.row.keyed j q e) in
          let table = has_table statements i t at in
          let o = rows_are_reached program.tasks mapping r through k form run.fits.instance v run.fits.begun there
          run.fits.there run.fits.runs run.fits.binds run.ran list inner i table.table table.there in
          let h = o.reached.rows j q (ap (λ l. slice_get l j) (sym table.times) ∙ e) in
          let callee = run.ran.callees h.index h.call h.there in
          let cl : Caller = record { form = k; call = h.reached.site.call } in
          let called : callee.form.1.caller ≡ Some cl
          = callee.is.caller ∙ ap (λ (d : Called). d.form.caller) h.reached.is in
          let e_there : slice_get r.found q.form ≡ Some callee.form = ap (slice_get r.found) h.form ∙ callee.there in
          let call : h.reached.site.call ≡ i =
          call_by k i h.reached.site.call _ keyed.instance _ keyed.in_place _ keyed.extents q.form callee.form cl
          e_there
          (callee.is.key ∙ ap (λ (d : Called). d.key) h.reached.is) called
          (key_number r.found (key_of k i keyed.instance keyed.in_place keyed.extents)) refl keyed.is in
          let rounded = forms_are_rounded q.form callee.form e_there in
          let m = rounded.called cl form run.fits.instance v called there run.fits.there run.fits.runs in
          let loops : m.0 ≡ t.loops =
          some_same m.0 t.loops
          (sym m.1 ∙ (ap (slice_get (loops_of v.body)) call
          ∙ (ap (λ (b : Text). slice_get (loops_of b) i) inner ∙ (row.there ∙ ap Some (sym row.row.loops))))) in
          let maps : callee.form.1.maps ≡ form.1.maps + t.loops = m.2 ∙ ap (λ n. form.1.maps + n) loops in
          subst (λ (n : ℕ). form.1.maps + t.loops ≤ n)
          (sym maps ∙ ap round_by (sym e_there)) (omega arith)

  nested_rounded : (k : ℕ) (form : Key × Found) (there : slice_get r.found k ≡ Some form)
      (run : FormRuns program mapping r k form.1) → (b : Text) → run.fits.variant.body ≡ b
      → (i : ℕ) (t : Nested)
      → slice_get (nested_of (what_runs r.found (frame_in program.tasks mapping.instances run.fits.instance k form.1)
      run.fits.variant b run.ran.scope)) i ≡ Some t
      → (j : ℕ) (q : CallInstance) → slice_get t.times j ≡ Some q
      → form.1.maps + t.loops ≤ round_by (slice_get r.found q.form)
  nested_rounded k form there run (text.Inner list) inner i t at j q e
      = row_rounded k form there run list inner i t at j q e
  nested_rounded k form there run (text.Leaf list) inner i t at j q e = absurd (cc at)

  calls_rounded : (k i : ℕ) (t : Nested) → slice_get (nested_of (bodies_of program mapping r.found k).body) i ≡ Some t
      → (j : ℕ) (q : CallInstance) → slice_get t.times j ≡ Some q
      → round_by (slice_get r.found k) + t.loops ≤ round_by (slice_get r.found q.form)
  calls_rounded k i t at j q e = by (slice_get r.found k) refl
    where
      by : (o : Option (Key × Found)) → slice_get r.found k ≡ o
          → round_by (slice_get r.found k) + t.loops ≤ round_by (slice_get r.found q.form)
      by None h =
          let none : slice_get (nested_of no_body.body) i ≡ Some t =
          sym (ap (λ o. slice_get (nested_of (found_body r.found program.tasks mapping.instances k o).body) i) h)
          ∙ at in
          absurd (cc none)
      by (Some form) h =
          let run = forms_run program levels mapping sound read r through k form h in
          let is = body_is program levels mapping sound read r through k form h run in
          subst (λ (n : ℕ). n + t.loops ≤ round_by (slice_get r.found q.form)) (ap round_by (sym h))
          (nested_rounded k form h run run.fits.variant.body refl i t
          (sym (ap (λ (b : FormBody). slice_get (nested_of b.body) i) is) ∙ at) j q e)

  few_rounds : (k : ℕ) → round_by (slice_get r.found k) ≤ 64
  few_rounds k = by (slice_get r.found k) refl
    where
      by : (o : Option (Key × Found)) → slice_get r.found k ≡ o → round_by o ≤ 64
      by None h = omega arith
      by (Some form) h = (forms_are_rounded k form h).few

  pub paths_fit : PathsFit (bodies_of program mapping r.found) (λ k. round_by (slice_get r.found k))
  paths_fit = record { calls = calls_rounded; short = λ k leaf is. few_rounds k }

-- ---- the arrays of leaves

is_below : (m : ℕ) → nat_lt m 32 ≡ true → m < 32
is_below m g = grind (arith, nat_tests)

few_params : (first : Option (List Param)) (ps : List Param) (i : ℕ) (known : Known)
    → typed.are_sound_params first i ps known ≡ true → i ≤ 32 → i + length ps ≤ 32
few_params first [] i known h less = omega (arith, less)
few_params first (p ∷ ps) i known h less =
    let q = both (typed.is_sound_param (first_at first i) i p known)
    (typed.are_sound_params first (i + 1) ps (param_known p known)) h in
    let r = four (typed.is_new p.name known) (typed.is_as_first (first_at first i) p) (nat_lt i most_arrays)
    (typed.are_sound_extents p.extents (with_param known p)) q.0 in
    let below : i < 32 = is_below i r.2 in
    let rest = few_params first ps (i + 1) (param_known p known) q.1 (omega (arith, below)) in
    omega (arith, rest)

few_locals : (numbers : Numbers) (ds : List Decl) (before : ℕ) (known : Known)
    → typed.are_sound_decls before ds known ≡ true → before ≤ 32
    → before + length (leaves.local_shapes numbers ds) ≤ 32
few_locals numbers [] before known h less = omega (arith, less)
few_locals numbers (decl.Tunable place name ∷ ds) before known h less =
    few_locals numbers ds before (decl_known (decl.Tunable place name) known)
    (both (typed.is_sound_decl before (decl.Tunable place name) known)
    (typed.are_sound_decls before ds (decl_known (decl.Tunable place name) known)) h).1 less
few_locals numbers (decl.List place name ∷ ds) before known h less =
    few_locals numbers ds before (decl_known (decl.List place name) known)
    (both (typed.is_sound_decl before (decl.List place name) known)
    (typed.are_sound_decls before ds (decl_known (decl.List place name) known)) h).1 less
few_locals numbers (decl.Local place elem name es ∷ ds) before known h less =
    let d : Decl = decl.Local place elem name es in
    let q = both (typed.is_sound_decl before d known) (typed.are_sound_decls (before + 1) ds (decl_known d known)) h in
    let r = three (typed.is_new name known) (nat_lt before most_arrays)
    (typed.are_sound_exprs es (local_known elem name es known)) q.0 in
    let below : before < 32 = is_below before r.1 in
    let rest = few_locals numbers ds (before + 1) (decl_known d known) q.1 (omega (arith, below)) in
    omega (arith, rest)
few_locals numbers (decl.Rchop place name array sizes ∷ ds) before known h less =
    few_locals numbers ds before (decl_known (decl.Rchop place name array sizes) known)
    (both (typed.is_sound_decl before (decl.Rchop place name array sizes) known)
    (typed.are_sound_decls before ds (decl_known (decl.Rchop place name array sizes) known)) h).1 less
few_locals numbers (decl.Ichop place name array starts ends ∷ ds) before known h less =
    few_locals numbers ds before (decl_known (decl.Ichop place name array starts ends) known)
    (both (typed.is_sound_decl before (decl.Ichop place name array starts ends) known)
    (typed.are_sound_decls before ds (decl_known (decl.Ichop place name array starts ends) known)) h).1 less

module _ (r : Resolved) (walked : Walked r) where
  few_arrays : (k : ℕ) (leaf : LeafSource)
      → (bodies_of r.typed.now r.mapping.now r.found.entries k).body ≡ body.Leaf leaf
      → length (bodies_of r.typed.now r.mapping.now r.found.entries k).arrays ≤ 32
  few_arrays k leaf h =
      let f = leaf_form r walked k leaf h in
      let x = f.run.fits.instance in
      let v = f.run.fits.variant in
      let numbers = f.run.ran.scope.numbers in
      let parts = variant_parts r.typed.now r.machine.now.levels r.mapping.now walked.faultless walked.read x.task
      x.kind v f.run.fits.runs in
      let shapes = (bodies_of r.typed.now r.mapping.now r.found.entries k).arrays in
      let long : length shapes ≡ length (map (leaves.param_shape numbers) v.params)
      + length (leaves.local_shapes numbers v.decls) =
      sym (map_many event_shape shapes)
      ∙ (ap length (sym (shapes_same r walked k leaf f))
      ∙ (ap (λ (l : LeafSource). length (leaves.shapes_of l)) (sym f.is)
      ∙ long_joined (map (leaves.param_shape numbers) v.params) (leaves.local_shapes numbers v.decls))) in
      let params : length (map (leaves.param_shape numbers) v.params) ≡ length v.params
      = map_many (leaves.param_shape numbers) v.params in
      let few = few_params (params_of_task r.typed.now.tasks v.task) v.params 0 [] parts.params_ (omega arith) in
      let all = few_locals numbers v.decls (length v.params) (params_known v.params []) parts.decls_
      (let z : 0 + length v.params ≤ 32 = few in omega (arith, z)) in
      omega (arith, long, params, all)

pub leaves_are_short : BodiesAreTables → LeavesAreShort
leaves_are_short are r walked =
    let same : bodies_of r.typed.now r.mapping.now r.found.entries ≡ body_in (chosen.bodies_of r)
    = sym (fun_ext (are r)) in
    record {
      paths = subst (λ (b : ℕ → FormBody). PathsFit b (round_of r)) same
          (paths_fit r.typed.now r.machine.now.levels r.mapping.now walked.faultless walked.read
          (record { found = r.found.entries; forms = r.forms; uses = r.uses }) walked.through);
      small = subst LeavesAreSmall same (record { few = few_arrays r walked });
    }
