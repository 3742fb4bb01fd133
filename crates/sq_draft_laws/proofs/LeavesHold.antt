-- The leaves of a draft stand under the numbers that the homes give.
use Rattle.std.proofs.Common.{◌≡◌, ℕ, zero, suc, ◌+◌, ◌*◌, ◌<◌, ◌≤◌, Bool, true, false, List, [], ◌∷◌, ◌++◌, length}
use Rattle.std.proofs.Common.{map, Option, Some, None, refl, sym, ap, ap₂, ◌∙◌, subst, arith}
use Rattle.std.specs.Prelude.{slice_get, ◌&&◌}
use Rattle.std.specs.List.{All}
use Rattle.std.specs.Option.{option_map, option_map_or}
use Rattle.std.proofs.Math.Nat.{mul-le-mul}
use Rattle.sq_rect.specs.Extents.{product}
use Rattle.sq_ast.specs.Forms.{is_formed_variant, is_formed_body, is_formed_param, is_formed_decl, all, has_one}
use Rattle.sq_ast.specs.Grammar.{most_levels}
use Rattle.sq_ast.specs.declared.program.Body.{Body as Text}
use Rattle.sq_ast.specs.declared.program.Body.TheVariants as text
use Rattle.sq_ast.specs.declared.program.Program.{Program}
use Rattle.sq_ast.specs.declared.program.Variant.{Variant}
use Rattle.sq_ast.specs.declared.program.VariantKind.{VariantKind}
use Rattle.sq_ast.specs.declared.program.VariantKind.TheVariants as variant_kind
use Rattle.sq_mapping.specs.declared.mapping.Mapping.{Mapping}
use Rattle.sq_types.specs.Nesting.{HasLoops}
use Rattle.sq_types.specs.Sites.{params_known}
use Rattle.sq_types.specs.Sound.{is_sound}
use Rattle.sq_leaf.specs.declared.shape.Shape.{Shape}
use Rattle.sq_leaf.specs.Leaf.{Leaf as LeafSource, IsLeaf, is_leaf_body, written_of, statements_of, scope_of}
use Rattle.sq_leaf.specs.Running.{run_actions}
use Rattle.sq_leaf.specs.Compiled.{actions_of}
use Rattle.sq_leaf.proofs.Statements.{same_body}
use Rattle.sq_ir.specs.declared.plan.Draft.{Draft}
use Rattle.sq_ir.specs.declared.plan.Leaf.{Leaf}
use Rattle.sq_ir.specs.Events.{Finishes}
use Rattle.sq_ir.specs.DraftLeaves as leaves
use Rattle.sq_ir.specs.DraftLeaves.{leaves_of, leaf_at, leaf_end}
use Rattle.sq_forms.specs.Decls.{empty_scope, most_elements}
use Rattle.sq_forms.specs.Resolving.{Resolving, frame_in}
use Rattle.sq_forms.specs.Steps.{Key, Forms}
use Rattle.sq_forms.specs.declared.form.Found.{Found}
use Rattle.sq_form_laws.specs.Served.{FormRuns}
use Rattle.sq_form_laws.proofs.FitHold.{of_program, variant_parts, forms_run}
use Rattle.sq_spec.specs.declared.body.Body.TheVariants as body
use Rattle.sq_spec.specs.declared.body.FormBody.{FormBody}
use Rattle.sq_spec.specs.declared.resolved.Resolved.{Resolved}
use Rattle.sq_spec.specs.Bodies.{no_body, found_body, what_runs}
use Rattle.sq_spec.specs.Works.{shapes_of, param_shapes, local_shapes}
use Rattle.sq_program_laws.specs.PlanLaws.LeafLaws.{IsInside, IsLeafOf, event_shape}
use Rattle.sq_program_laws.specs.PlanLaws.LeafRuns.{IsCompiled, LinesCanRun, AreSmall}
use Rattle.sq_program_laws.proofs.PlanLaws.Law.{leaves_stay_inside, leaves_are_coded}
use Rattle.sq_program_laws.specs.PlanLaws.Seated.{HasDims}
use Rattle.sq_term.specs.Terms.{homes_in}
use Rattle.sq_homes.specs.Chosen.Forms as chosen
use Rattle.sq_homes.specs.Drafts as drafts
use Rattle.sq_homes.specs.Drafts.{homes_of}
use Rattle.sq_program_laws.specs.Homes.{bodies_of, LeafStands}
use Rattle.sq_program_laws.specs.Sizes.{IsSized}
use Rattle.sq_program_laws.proofs.RowsHold.{body_is}
use Rattle.sq_program_laws.proofs.Whole.{arrays_are_sized}
use Rattle.sq_draft_laws.specs.Programs.{BodiesAreTables}
use Rattle.sq_draft_laws.specs.Choosing.{Walked}
use Rattle.sq_draft_laws.specs.Leaves.{LeavesOfDraftsStand}
use Rattle.sq_draft_laws.proofs.Codes.{coded}
use Rattle.sq_draft_laws.proofs.FormDims.{forms_have_counts}
use Rattle.sq_draft_laws.proofs.LeafShapes.{params_done, decls_done}

-- each leaf variant of a program without a fault may be compiled
abbrev pub VariantsCompile : Type 0
VariantsCompile = (p : Program) (i : ℕ) (v : Variant) → is_sound p ≡ true → HasLoops most_levels p.tasks
    → slice_get p.tasks i ≡ Some v → is_leaf_body v.body ≡ true → IsLeaf v

compiled : (v : Variant) (leaf : LeafSource) → leaf.variant ≡ v → IsLeaf v → IsCompiled leaf
compiled v leaf of is = record {
  runs = λ vs old can. record {
    ran = run_actions (actions_of (statements_of leaf.variant) (scope_of leaf.variant leaf.numbers)) vs [] old;
    agrees = λ a shows.
        same_body (statements_of leaf.variant) (scope_of leaf.variant leaf.numbers) vs (written_of leaf.variant) old a
        can (subst IsLeaf (sym of) is).permitted shows;
  };
}

-- ---- arrays within the limits

some_product : (ns : List ℕ) → All (λ k. 0 < k) ns → 0 < product ns
some_product [] h = omega arith
some_product (n ∷ ns) h =
    let first : 0 < n = h 0 n (omega arith) in
    let rest : 0 < product ns = some_product ns (λ k d lt. h (suc k) d (omega (arith, lt))) in
    let z : 1 * 1 ≤ n * product ns = mul-le-mul first rest in omega (arith, z)

few_elements : (n : ℕ) → n ≤ most_elements → n < 4294967296
unfolding most_elements
few_elements n h = omega (arith, h)

few_dims : (ns : List ℕ) → HasDims ns → length ns ≤ 3
few_dims [] h = absurd h
few_dims (a ∷ []) h = omega arith
few_dims (a ∷ b ∷ []) h = omega arith
few_dims (a ∷ b ∷ c ∷ []) h = omega arith
few_dims (a ∷ b ∷ c ∷ d ∷ ns) h = absurd h

-- ---- the form of a variant

both : (a b : Bool) → (a && b) ≡ true → (a ≡ true) × (b ≡ true)
both true b h = (refl, h)
both false b h = absurd (cc h)

all_there : (f : Variant → Bool) (vs : List Variant) → all (map f vs) ≡ true → (i : ℕ) (v : Variant) → slice_get vs i
    ≡ Some v → f v ≡ true
all_there f [] h i v g = absurd (cc g)
all_there f (w ∷ vs) h zero v g = let is : w ≡ v = cc g in ap f (sym is) ∙ (both (f w) (all (map f vs)) h).0
all_there f (w ∷ vs) h (suc i) v g = all_there f vs (both (f w) (all (map f vs)) h).1 i v g

leaf_kind : (k : VariantKind) (b : Text) → is_formed_body k b ≡ true → is_leaf_body b ≡ true → k ≡ variant_kind.Leaf
leaf_kind variant_kind.Leaf b h leaf = refl
leaf_kind variant_kind.Inner (text.Inner list) h leaf = absurd (cc leaf)
leaf_kind variant_kind.Inner (text.Leaf list) h leaf = absurd (cc h)

decls_formed : (v : Variant) → is_formed_variant v ≡ true → is_leaf_body v.body ≡ true
    → all (map (is_formed_decl variant_kind.Leaf) v.decls) ≡ true
decls_formed v h leaf =
    let a = both (has_one v.params)
    (all (map is_formed_param v.params)
    && (all (map (is_formed_decl v.kind) v.decls) && is_formed_body v.kind v.body)) h in
    let b = both (all (map is_formed_param v.params))
    (all (map (is_formed_decl v.kind) v.decls) && is_formed_body v.kind v.body) a.1 in
    let c = both (all (map (is_formed_decl v.kind) v.decls)) (is_formed_body v.kind v.body) b.1 in
    subst (λ (k : VariantKind). all (map (is_formed_decl k) v.decls) ≡ true) (leaf_kind v.kind v.body c.1 leaf) c.0

map_joined : {A B : Type 0} (f : A → B) (xs ys : List A) → map f (xs ++ ys) ≡ map f xs ++ map f ys
map_joined f [] ys = refl
map_joined f (x ∷ xs) ys = ap (λ l. f x ∷ l) (map_joined f xs ys)

-- ---- a form that is a leaf

module _ (r : Resolved) (walked : Walked r) where
  abbrev program : Program
  program = r.typed.now

  abbrev mapping : Mapping
  mapping = r.mapping.now

  abbrev found : Forms
  found = r.found.entries

  abbrev bodies : ℕ → FormBody
  bodies = bodies_of program mapping found

  abbrev answer : Resolving
  answer = record { found = found; forms = r.forms; uses = r.uses }

  pub record LeafForm (k : ℕ) (leaf : LeafSource) : Type 0 where
    pub form : Key × Found
    pub there : slice_get found k ≡ Some form
    pub run : FormRuns program mapping answer k form.1
    pub arrays : (bodies k).arrays ≡ shapes_of run.fits.variant form.1 run.ran.scope
    pub is_leaf : is_leaf_body run.fits.variant.body ≡ true
    pub is : record { variant = run.fits.variant; numbers = run.ran.scope.numbers } ≡ leaf

  leaf_of : (k : ℕ) (form : Key × Found) (there : slice_get found k ≡ Some form)
      (run : FormRuns program mapping answer k form.1) (leaf : LeafSource)
      → (bodies k).arrays ≡ shapes_of run.fits.variant form.1 run.ran.scope
      → (b : Text) → run.fits.variant.body ≡ b
      → what_runs found (frame_in program.tasks mapping.instances run.fits.instance k form.1) run.fits.variant b
      run.ran.scope ≡ body.Leaf leaf → LeafForm k leaf
  leaf_of k form there run leaf arrays (text.Inner list) e h = absurd (cc h)
  leaf_of k form there run leaf arrays (text.Leaf list) e h = record {
    form = form;
    there = there;
    run = run;
    arrays = arrays;
    is_leaf = ap is_leaf_body e;
    is = cc h;
  }

  pub leaf_form : (k : ℕ) (leaf : LeafSource) → (bodies k).body ≡ body.Leaf leaf → LeafForm k leaf
  leaf_form k leaf h = by (slice_get found k) refl
    where
      by : (o : Option (Key × Found)) → slice_get found k ≡ o → LeafForm k leaf
      by None e = let z : no_body.body ≡ body.Leaf leaf
          = sym (ap (λ o. (found_body found program.tasks mapping.instances k o).body) e) ∙ h in absurd (cc z)
      by (Some form) e =
          let run = forms_run program r.machine.now.levels mapping walked.faultless walked.read answer walked.through k
          form e in
          let is = body_is program r.machine.now.levels mapping walked.faultless walked.read answer walked.through k
          form e run in
          leaf_of k form e run leaf (ap (λ (b : FormBody). b.arrays) is) run.fits.variant.body refl
          (sym (ap (λ (b : FormBody). b.body) is) ∙ h)

  module _ (k : ℕ) (leaf : LeafSource) (f : LeafForm k leaf) where
    abbrev v : Variant
    v = f.run.fits.variant

    -- its own shapes
    pub shapes_same : leaves.shapes_of leaf ≡ map event_shape (bodies k).arrays
    shapes_same =
        let levels = r.machine.now.levels in
        let x = f.run.fits.instance in
        let scope = f.run.ran.scope in
        let parts = variant_parts program levels mapping walked.faultless walked.read x.task x.kind v f.run.fits.runs in
        let o = of_program program.tasks x.task x.kind v f.run.fits.runs in
        let formed = decls_formed v (all_there is_formed_variant program.tasks walked.formed o.index v o.there)
        f.is_leaf in
        let counts = forms_have_counts program levels mapping walked.faultless walked.read answer walked.through k
        f.form
        f.there x v f.run.fits.there f.run.fits.runs in
        let ps = params_done f.form.1.extents [] v.params 0 empty_scope f.run.fits.begun
        (λ j p dims a b. let z : j ≡ 0 + j = omega arith in
        counts j p dims a (ap (slice_get f.form.1.extents) z ∙ b)) f.run.fits.binds in
        let ds = decls_done x.tunings scope v.decls (length v.params) (params_known v.params []) f.run.fits.begun
        parts.decls_ formed
        (ps.tells (record { number = λ name l e. absurd (cc e); no_list = λ name l e. absurd (cc e) }))
        f.run.ran.declared in
        let params = ps.shapes scope.numbers ds.kept in
        let locals : map event_shape (local_shapes scope.locals) ≡ leaves.local_shapes scope.numbers v.decls =
        ds.shapes scope.numbers (λ name m h. h)
        ∙ ap (λ ls. map event_shape (local_shapes ls) ++ leaves.local_shapes scope.numbers v.decls) ps.locals in
        ap leaves.shapes_of (sym f.is)
        ∙ sym (ap (map event_shape) f.arrays
        ∙ (map_joined event_shape (param_shapes v.params 0 f.form.1.extents) (local_shapes scope.locals)
        ∙ ap₂ (λ a b. a ++ b) params locals))

    sized : (n : ℕ) (sh : Shape) → slice_get (bodies k).arrays n ≡ Some sh → IsSized sh.extents
    sized n sh e = arrays_are_sized program r.machine.now.levels mapping walked.faultless walked.read answer
        walked.through k n sh e

    small : AreSmall (bodies k).arrays
    small = record {
      some = λ n sh e. some_product sh.extents (sized n sh e).some;
      few = λ n sh e. few_elements (product sh.extents) (sized n sh e).few;
      dims = λ n sh e. few_dims sh.extents (sized n sh e).dims;
    }

    variant_is : leaf.variant ≡ v
    variant_is = ap (λ (l : LeafSource). l.variant) (sym f.is)

    inside : VariantsCompile → LinesCanRun → IsInside leaf (bodies k).arrays
    inside compile lines =
        let x = f.run.fits.instance in
        let o = of_program program.tasks x.task x.kind v f.run.fits.runs in
        let is = compile program o.index v walked.faultless walked.loops o.there f.is_leaf in
        leaves_stay_inside leaf (compiled v leaf variant_is is) lines (bodies k).arrays small

-- ---- its code

there_is : (d : Draft) (number : ℕ) (name : _) (leaf : LeafSource) (list : List Leaf) → d.leaves ≡ list
    → slice_get list number ≡ Some (record { instance = name; code = leaf }) → leaf_at d number ≡ Some leaf
there_is d number name leaf list is there =
    ap (λ l. option_map (λ (x : Leaf). x.code) (slice_get l number)) is ∙ ap (option_map (λ (x : Leaf). x.code)) there

is_leaf_of : (d : Draft) (number : ℕ) (leaf : LeafSource) → leaf_at d number ≡ Some leaf
    → IsLeafOf (leaves_of d) number leaf
is_leaf_of d number leaf at = record {
  ends = λ xs. ap (λ o. option_map_or (λ l. leaf_end l xs) o (Finishes [])) at;
  written = ap (λ o. option_map_or (λ (l : LeafSource). written_of l.variant) o []) at;
}

pub leaves_of_drafts_stand : BodiesAreTables → VariantsCompile → LinesCanRun → LeavesOfDraftsStand
leaves_of_drafts_stand tables compile lines r walked choices d draft k leaf h =
    let f = leaf_form r walked k leaf h in
    let c = coded r choices 0 0 0 (chosen.bodies_of r) k leaf
    (ap (λ (b : FormBody). b.body) (tables r k) ∙ h) in
    let number : c.before ≡ (homes_in (homes_of r choices) k).code =
    sym (c.code_is ∙ (let z : 0 + c.before ≡ c.before = zero_plus c.before in z)) in
    let at : leaf_at d c.before ≡ Some leaf
    = there_is d c.before c.name leaf (drafts.leaves_of r) draft.leaves c.there in
    let shapes = bodies_of r.typed.now r.mapping.now r.found.entries k in
    subst (λ (n : ℕ). LeafStands r.typed.now r.mapping.now r.found.entries (leaves_of d)
    (record (homes_in (homes_of r choices) k) { code = n }) leaf shapes.arrays) number
    (record {
      coded = leaves_are_coded (leaves_of d) c.before leaf shapes.arrays (is_leaf_of d c.before leaf at)
          (inside r walked k leaf f compile lines);
      sits = record {
        same = refl;
        written = (is_leaf_of d c.before leaf at).written;
        there = ap (option_map leaves.shapes_of) at ∙ ap Some (shapes_same r walked k leaf f);
        some = λ n sh e. (sized r walked k leaf f n sh e).some;
      };
    })
  where
    zero_plus : (n : ℕ) → 0 + n ≡ n
    zero_plus n = omega arith
