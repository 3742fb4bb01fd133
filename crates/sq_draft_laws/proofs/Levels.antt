-- The levels of forms, and of the first buffer.
use Rattle.std.proofs.Common.{◌≡◌, ℕ, zero, suc, ◌<◌, Bool, true, false, List, [], ◌∷◌, ◌++◌, length, map}
use Rattle.std.proofs.Common.{get_or, Option, Some, None, refl, sym, ap, ◌∙◌, subst, arith}
use Rattle.std.specs.Prelude.{slice_get, ◌&&◌}
use Rattle.std.proofs.lemmas.Option.{slice_get_past}
use Rattle.sq_ast.specs.Forms.{is_formed_variant, is_formed_body, is_formed_param, is_formed_decl, all, has_one}
use Rattle.sq_ast.specs.declared.program.Param.{Param}
use Rattle.sq_ast.specs.declared.program.Variant.{Variant}
use Rattle.sq_mapping.specs.declared.mapping.Instance.{Instance}
use Rattle.sq_forms.specs.Steps.{Key}
use Rattle.sq_forms.specs.declared.form.Found.{Found}
use Rattle.sq_forms.specs.declared.form.Form.{Form}
use Rattle.sq_forms.specs.Resolving.{with_locals}
use Rattle.sq_form_laws.proofs.FitHold.{some_same, both, of_program}
use Rattle.sq_ir.specs.Plans.{of_buffer}
use Rattle.sq_ir.specs.declared.plan.Buffer.{Buffer}
use Rattle.sq_spec.specs.declared.body.FormBody.{FormBody}
use Rattle.sq_spec.specs.declared.resolved.Resolved.{Resolved}
use Rattle.sq_placed.specs.declared.home.Home.{Home}
use Rattle.sq_program_laws.specs.TermLaws.Programs.{HaveLevels}
use Rattle.sq_homes.specs.Chosen.declared.choice.Choice.{Choice}
use Rattle.sq_homes.specs.Chosen.Forms.{bodies_of, choice_in, level_by}
use Rattle.sq_homes.specs.Drafts.{buffers_from, buffer_at}
use Rattle.sq_homes.specs.Chosen.Arrays.{left_by, standing}
use Rattle.sq_homes.specs.Numbering.{IsHomeIn}
use Rattle.sq_homes.proofs.Numbered.{homes_are_own}
use Rattle.sq_draft_laws.specs.Given.{level_at}
use Rattle.sq_draft_laws.specs.Choosing.{Walked, MayBeChosen}
use Rattle.sq_draft_laws.specs.Levels.{LevelsAreThere, BeginsAtRoot, DraftsBeginAtRoot}
use Rattle.sq_draft_laws.proofs.Found.{IsPlain, found_plain}
use Rattle.sq_draft_laws.proofs.Forms.{tasks, instances, resolving, body_at, many_forms, run_of, body_there}
use Rattle.sq_draft_laws.proofs.Forms.{none_from}
use Rattle.sq_draft_laws.proofs.Hoisted.{is_form}
use Rattle.sq_draft_laws.proofs.ArrayPlaces.{HomeIs, stays, owns, owns_two, leaves, home_by}
use Rattle.sq_draft_laws.proofs.Entry.{entry, extents, form, none_in_place}

-- ---- a formed variant has a parameter

all_there : (f : Variant → Bool) (vs : List Variant) → all (map f vs) ≡ true → (i : ℕ) (v : Variant) → slice_get vs i
    ≡ Some v → f v ≡ true
all_there f [] h i v g = absurd (cc g)
all_there f (x ∷ vs) h zero v g = let is : x ≡ v = cc g in ap f (sym is) ∙ (both (f x) (all (map f vs)) h).0
all_there f (x ∷ vs) h (suc i) v g = all_there f vs (both (f x) (all (map f vs)) h).1 i v g

formed_one : (v : Variant) → is_formed_variant v ≡ true → has_one v.params ≡ true
formed_one v h =
    (both (has_one v.params)
    (all (map is_formed_param v.params)
    && (all (map (is_formed_decl v.kind) v.decls) && is_formed_body v.kind v.body)) h).0

some_params : (ps : List Param) → has_one ps ≡ true → 0 < length ps
some_params [] h = absurd (cc h)
some_params (p ∷ ps) h = omega arith

-- ---- the first buffer

first_level : (b : Buffer → ℕ) (n : ℕ) (f : ℕ → Buffer) (xs : List ℕ) (ys : List Buffer) → 0 < length xs
    → ((i : ℕ) → b (f i) ≡ n) → of_buffer (map f xs ++ ys) b 0 ≡ n
first_level b n f [] ys h same = absurd (omega (arith, h))
first_level b n f (x ∷ xs) ys h same = same x

buffers_begin : (r : Resolved) (choices : List Choice) (bs : List FormBody) (b : FormBody) → slice_get bs 0 ≡ Some b
    → 0 < length (standing b (choice_in choices 0)) → of_buffer (buffers_from r choices 0 bs) (λ x. x.level) 0
    ≡ level_at r 0
buffers_begin r choices [] b e h = absurd (cc e)
buffers_begin r choices (x ∷ bs) b e h =
    let is : b ≡ x = sym (some_same x b e) in
    first_level (λ (y : Buffer). y.level) (level_at r 0) (buffer_at r 0 x) (standing x (choice_in choices 0))
    (buffers_from r choices 1 bs)
    (subst (λ (y : FormBody). 0 < length (standing y (choice_in choices 0))) is h) (λ i. refl)

module _ (r : Resolved) (w : Walked r) where
  plain_at : (k : ℕ) (f : Key × Found) → slice_get r.found.entries k ≡ Some f → IsPlain (instances r) f.1
  plain_at = found_plain r.typed.now r.machine.now.levels r.mapping.now w.read (resolving r) w.through

  level_is : (k : ℕ) (f : Key × Found) → slice_get r.found.entries k ≡ Some f → level_at r k ≡ f.1.level
  level_is k f there = ap level_by (run_of r w k f there).ran.kept

  pub have_levels : HaveLevels r.mapping.now r.found.entries (level_at r)
  have_levels k f x there at =
      let p = plain_at k f there in
      level_is k f there
      ∙ (p.level ∙ ap (λ (y : Instance). y.level) (some_same p.instance x (sym p.there ∙ at)))

  some_level : 0 < length r.machine.now.levels
  some_level =
      let e = w.read.entry in
      let less = (w.read.instances r.mapping.now.entry e.entry e.there).level in
      let root = e.root in
      omega (arith, less, root)

  level_there : (k : ℕ) (o : Option (Key × Found)) → slice_get r.found.entries k ≡ o
      → level_at r k < length r.machine.now.levels
  level_there k None none =
      let past = none_from r.found.entries k none in
      let many = many_forms r w in
      let zero_is : level_at r k ≡ 0 = ap level_by (slice_get_past r.forms k (omega (arith, past, many))) in
      let less = some_level in
      omega (arith, zero_is, less)
  level_there k (Some f) there =
      let p = plain_at k f there in
      let is = level_is k f there in
      let own = p.level in
      let less = (w.read.instances f.1.instance p.instance p.there).level in
      omega (arith, is, own, less)

  -- the entry has a parameter
  some_extents : 0 < length (extents r)
  some_extents =
      let run = run_of r w 0 (form r) (entry r).found in
      let o = of_program (tasks r) run.fits.instance.task run.fits.instance.kind run.fits.variant run.fits.runs in
      let one = some_params run.fits.variant.params
      (formed_one run.fits.variant
      (all_there is_formed_variant (tasks r) w.formed o.index run.fits.variant o.there)) in
      let many = run.fits.many in
      omega (arith, one, many)

  module _ (choices : List Choice) (are : MayBeChosen r choices) where
    some_standing : 0 < length (standing (body_at r 0) (choice_in choices 0))
    some_standing =
        let f = is_form r choices are 0 (body_at r 0) (body_there r w 0 (form r) (entry r).found) in
        let c = choice_in choices 0 in
        let run = run_of r w 0 (form r) (entry r).found in
        let same : f.form ≡ with_locals (form r).1 run.ran.scope.locals = some_same _ _ (sym f.there ∙ run.ran.kept) in
        let flags = f.chosen.flags ∙ ap (λ (x : Form). length x.in_place) same in
        let plain = (plain_at 0 (form r) (entry r).found).flags in
        let some = some_extents in
        by (home_by c f.chosen.moved 0 0)
        (homes_are_own 0 (body_at r 0) c 0 (omega (arith, flags, plain, some)))
      where
        by : {h : Home} → {moved : (i : ℕ) → 0 < left_by (choice_in choices 0) i
            → get_or (choice_in choices 0).in_place i false ≡ false} → HomeIs (choice_in choices 0) moved 0 0 h
            → IsHomeIn 0 (length (standing (body_at r 0) (choice_in choices 0))) h
            → 0 < length (standing (body_at r 0) (choice_in choices 0))
        by (stays f l) own = absurd (none_in_place r w choices are 0 f)
        by (owns f l o) own = let less = own.1 in omega (arith, less)
        by (owns_two f l o) own = let less = own.0.1 in omega (arith, less)
        by (leaves n f l) own = let less = own.1 in omega (arith, less)

    begins : BeginsAtRoot r choices
    begins =
        let root : level_at r 0 ≡ 0 = level_is 0 (form r) (entry r).found in
        record {
          entry = root;
          buffer = buffers_begin r choices (bodies_of r) (body_at r 0) (body_there r w 0 (form r) (entry r).found)
              some_standing
              ∙ root;
        }

pub levels_are_there : LevelsAreThere
levels_are_there r w k = level_there r w k (slice_get r.found.entries k) refl

pub drafts_begin_at_root : DraftsBeginAtRoot
drafts_begin_at_root r w choices are = begins r w choices are
