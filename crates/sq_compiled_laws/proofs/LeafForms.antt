-- What holds of the code of each form that is a leaf, and of the lines of a draft's leaves.
use Rattle.std.proofs.Common.{◌≡◌, ℕ, zero, suc, ◌+◌, ◌≤◌, Bool, true, false, ◌&&◌, cond, pos, List, []}
use Rattle.std.proofs.Common.{◌∷◌, ◌++◌, length, map, Option, Some, refl, sym, ap, ◌∙◌, subst, arith}
use Rattle.std.specs.Prelude.{slice_get}
use Rattle.std.specs.List.{All, Contains, range_with_len}
use Rattle.std.specs.Map.{lookup}
use Rattle.sq_num.specs.declared.Elem.TheVariants.{Long}
use Rattle.sq_num.specs.Elements.{IsValue}
use Rattle.sq_text.specs.Names.{Bytes, same_name}
use Rattle.sq_ast.specs.Forms.{is_formed_variant, is_formed_body, is_formed_param, is_formed_decl, all, has_one}
use Rattle.sq_ast.specs.Grammar.{most_levels}
use Rattle.sq_ast.specs.declared.program.Body.{Body as Text}
use Rattle.sq_ast.specs.declared.program.Body.TheVariants as text
use Rattle.sq_ast.specs.declared.program.Program.{Program}
use Rattle.sq_ast.specs.declared.program.Variant.{Variant}
use Rattle.sq_ast.specs.declared.program.VariantKind.{VariantKind}
use Rattle.sq_ast.specs.declared.program.VariantKind.TheVariants as variant_kind
use Rattle.sq_machfile.specs.declared.level.Level.{Level}
use Rattle.sq_mapping.specs.declared.mapping.Instance.{Instance}
use Rattle.sq_mapping.specs.declared.mapping.Mapping.{Mapping}
use Rattle.sq_types.specs.Sites.{params_known}
use Rattle.sq_leaf.specs.declared.shape.Shape.{Shape}
use Rattle.sq_leaf.specs.Leaf.{Leaf as LeafSource, is_leaf_body}
use Rattle.sq_blocks.specs.Names.{Numbers, or_zero, number_of}
use Rattle.sq_ir.specs.declared.plan.Leaf.{Leaf}
use Rattle.sq_forms.specs.declared.form.Form.{Form}
use Rattle.sq_forms.specs.declared.form.LocalArray.{LocalArray}
use Rattle.sq_forms.specs.Decls.{Scope, empty_scope, most_extent}
use Rattle.sq_forms.specs.Resolving.{Resolving}
use Rattle.sq_forms.specs.Steps.{Forms}
use Rattle.sq_form_laws.proofs.FitHold.{of_program, variant_parts}
use Rattle.sq_form_laws.proofs.Shapes.{KeptIn}
use Rattle.sq_spec.specs.declared.body.Body.{Body}
use Rattle.sq_spec.specs.declared.body.Body.TheVariants as body
use Rattle.sq_spec.specs.declared.body.FormBody.{FormBody}
use Rattle.sq_spec.specs.declared.resolved.Resolved.{Resolved}
use Rattle.sq_spec.specs.Bodies.{body_of}
use Rattle.sq_spec.specs.Works.{shapes_of}
use Rattle.sq_meant.specs.PlanGood.Homes.Chosen.Forms.{name_by, instance_by, instance_at}
use Rattle.sq_meant.specs.PlanGood.Homes.Drafts.{leaves_of, leaves_from, leaves_in}
use Rattle.sq_meant.specs.PlanGood.DraftLaws.Choosing.{Walked}
use Rattle.sq_meant.proofs.PlanGood.DraftLaws.WalkedHolds.{walked_is_there}
use Rattle.sq_meant.specs.PlanGood.ProgramLaws.Sizes.{IsSized}
use Rattle.sq_meant.proofs.PlanGood.ProgramLaws.Shapes.{dims_are, mapped_at}
use Rattle.sq_meant.proofs.PlanGood.ProgramLaws.Sized.{form_shapes_sized}
use Rattle.sq_meant.proofs.PlanGood.DraftLaws.Dimensions.{ParamDims}
use Rattle.sq_meant.proofs.PlanGood.DraftLaws.FormDims.{forms_have_counts}
use Rattle.sq_meant.proofs.PlanGood.DraftLaws.LeafShapes.{params_done}
use Rattle.sq_meant.proofs.PlanGood.DraftLaws.LeavesHold.{LeafForm, leaf_form}
use Rattle.sq_plantext.specs.Grammar.{binding}
use Rattle.sq_planfile.specs.Files.{numbers_of}
use Rattle.sq_planfile.specs.Sound.{IsLeafText, IsLocal}
use Rattle.sq_planfile.specs.Written.{names_in, firsts, text_of}
use Rattle.sq_filed_laws.specs.LayoutLaws.Readable.{IsReadableBinding, IsReadableLeaf}
use Rattle.sq_compiled_laws.specs.Compiled.{IsRead}
use Rattle.sq_compiled_laws.proofs.LeafNames.{here, later, all_none, all_more, all_first, all_rest, all_joined}
use Rattle.sq_compiled_laws.proofs.LeafNames.{all_each, firsts_of}
use Rattle.sq_compiled_laws.proofs.LeafMade.{Each, Made, numbers_made}
use Rattle.sq_compiled_laws.proofs.LeafNumbers.{numbers_told, names_bound}
use Rattle.sq_compiled_laws.proofs.LeafChecked.{faultless_alone}
use Rattle.sq_compiled_laws.proofs.LeafSmall.{AreSmall, forms_small}
use Rattle.sq_compiled_laws.proofs.LeafParams.{ParamFits, extent_limit, extents_within, params_fit}
use Rattle.sq_compiled_laws.proofs.LeafLocals.{locals_fit}
use Rattle.sq_compiled_laws.proofs.LeafWords.{IsSpelled, names_spelled}
use Rattle.sq_compiled_laws.proofs.LeafMapping.{positive_fits, mapping_told}

-- ---- lists

front_at : {A : Type 0} (xs ys : List A) (i : ℕ) (x : A) → slice_get xs i ≡ Some x → slice_get (xs ++ ys) i ≡ Some x
front_at [] ys i x h = absurd (cc h)
front_at (z ∷ xs) ys zero x h = h
front_at (z ∷ xs) ys (suc i) x h = front_at xs ys i x h

all_at : {A : Type 0} (P : A → Type 0) (xs : List A) → All P xs → (i : ℕ) (x : A) → slice_get xs i ≡ Some x → P x
all_at P [] h i x e = absurd (cc e)
all_at P (y ∷ xs) h zero x e = let is : y ≡ x = cc e in subst P is (all_first P y xs h)
all_at P (y ∷ xs) h (suc i) x e = all_at P xs (all_rest P y xs h) i x e

contained : {A : Type 0} (xs : List A) (i : ℕ) (x : A) → slice_get xs i ≡ Some x → Contains xs x
contained [] i x e = absurd (cc e)
contained (y ∷ xs) zero x e = let is : y ≡ x = cc e in subst (Contains (y ∷ xs)) is (here y xs)
contained (y ∷ xs) (suc i) x e = later y xs x (contained xs i x e)

pub all_mapped : {A B : Type 0} (P : B → Type 0) (f : A → B) (xs : List A) → All (λ x. P (f x)) xs → All P (map f xs)
all_mapped P f [] h = all_none P
all_mapped P f (x ∷ xs) h =
    all_more P (f x) (map f xs) (all_first (λ y. P (f y)) x xs h) (all_mapped P f xs (all_rest (λ y. P (f y)) x xs h))

-- ---- formed leaves

both : (a b : Bool) → (a && b) ≡ true → (a ≡ true) × (b ≡ true)
both true b h = (refl, h)
both false b h = absurd (cc h)

all_there : (f : Variant → Bool) (vs : List Variant) → all (map f vs) ≡ true → (i : ℕ) (v : Variant) → slice_get vs i
    ≡ Some v → f v ≡ true
all_there f [] h i v g = absurd (cc g)
all_there f (w ∷ vs) h zero v g = let is : w ≡ v = cc g in ap f (sym is) ∙ (both (f w) (all (map f vs)) h).0
all_there f (w ∷ vs) h (suc i) v g = all_there f vs (both (f w) (all (map f vs)) h).1 i v g

kind_is : (k : VariantKind) (b : Text) → is_formed_body k b ≡ true → is_leaf_body b ≡ true → k ≡ variant_kind.Leaf
kind_is variant_kind.Leaf b h leaf = refl
kind_is variant_kind.Inner (text.Inner list) h leaf = absurd (cc leaf)
kind_is variant_kind.Inner (text.Leaf list) h leaf = absurd (cc h)

list_of : (b : Text) → is_leaf_body b ≡ true → (list : _) × (b ≡ text.Leaf list)
list_of (text.Leaf list) h = (list, refl)
list_of (text.Inner list) h = absurd (cc h)

record IsFormedLeaf (v : Variant) : Type 0 where
  kind : v.kind ≡ variant_kind.Leaf
  decls : all (map (is_formed_decl variant_kind.Leaf) v.decls) ≡ true

formed_leaf : (v : Variant) → is_formed_variant v ≡ true → is_leaf_body v.body ≡ true → IsFormedLeaf v
formed_leaf v h leaf =
    let a = both (has_one v.params)
    (all (map is_formed_param v.params)
    && (all (map (is_formed_decl v.kind) v.decls) && is_formed_body v.kind v.body)) h in
    let b = both (all (map is_formed_param v.params))
    (all (map (is_formed_decl v.kind) v.decls) && is_formed_body v.kind v.body) a.1 in
    let c = both (all (map (is_formed_decl v.kind) v.decls)) (is_formed_body v.kind v.body) b.1 in
    let is = kind_is v.kind v.body c.1 leaf in
    record {
      kind = is;
      decls = subst (λ (k : VariantKind). all (map (is_formed_decl k) v.decls) ≡ true) is c.0;
    }

-- ---- numbers

extent_fits : (n : ℕ) → n ≤ most_extent → IsValue Long (pos n)
extent_fits n h = let l = extent_limit n h in positive_fits n (omega (arith, l))

looked_fits : (numbers : Numbers) → Each (IsValue Long) numbers → (name : Bytes) → IsValue Long (number_of numbers name)
looked_fits [] h name = positive_fits 0 (omega arith)
looked_fits (e ∷ numbers) h name = by (looked_fits numbers h.1 name) (same_name name e.0)
  where
    by : IsValue Long (number_of numbers name) → (b : Bool)
        → IsValue Long (or_zero (cond b (Some e.1) (lookup (same_name name) numbers)))
    by rest true = h.0
    by rest false = rest

-- ---- what holds of a leaf

pub record LeafHolds (l : Leaf) : Type 0 where
  pub numbers : numbers_of (text_of l) ≡ l.code.numbers
  pub sound : IsLeafText (text_of l)
  pub readable : IsReadableLeaf (text_of l)

module _ (r : Resolved) (read : IsRead r) where
  abbrev program : Program
  program = r.typed.now

  abbrev levels : List Level
  levels = r.machine.now.levels

  abbrev mapping : Mapping
  mapping = r.mapping.now

  abbrev found : Forms
  found = r.found.entries

  abbrev answer : Resolving
  answer = record { found = found; forms = r.forms; uses = r.uses }

  abbrev walked : Walked r
  walked = walked_is_there r

  module _ (k : ℕ) (code : LeafSource) (f : LeafForm r walked k code) where
    abbrev x : Instance
    x = f.run.fits.instance

    abbrev v : Variant
    v = f.run.fits.variant

    abbrev extents : List (List ℕ)
    extents = f.form.1.extents

    abbrev begun : Scope
    begun = f.run.fits.begun

    abbrev scope : Scope
    scope = f.run.ran.scope

    named : name_by (instance_at r k) ≡ x.name
    named =
        ap name_by (ap (λ (o : Option Form). instance_by mapping.instances o) f.run.ran.kept ∙ f.run.fits.there)

    small : AreSmall extents
    small = forms_small program levels mapping walked.faultless walked.read answer walked.through k f.form f.there

    sized : (i : ℕ) (dims : List ℕ) → slice_get extents i ≡ Some dims → IsSized dims
    sized i dims e =
        let at : slice_get (map (λ (s : Shape). s.extents) (shapes_of v f.form.1 scope)) i ≡ Some dims
        = ap (λ l. slice_get l i) (dims_are v f.form.1 scope f.run.fits.many)
        ∙ front_at extents (map (λ (l : LocalArray). l.extents) scope.locals) i dims e in
        let m = mapped_at (λ (s : Shape). s.extents) (shapes_of v f.form.1 scope) i dims at in
        subst IsSized m.is
        (form_shapes_sized program levels mapping walked.faultless walked.read answer walked.through k f.form f.there
        f.run i m.of m.there)

    counts : ParamDims v.params 0 extents
    counts j p dims a b =
        let z : j ≡ 0 + j = omega arith in
        forms_have_counts program levels mapping walked.faultless walked.read answer walked.through k f.form f.there x v
        f.run.fits.there f.run.fits.runs j p dims a (ap (slice_get extents) z ∙ b)

    made : Made (IsValue Long) [] scope.numbers (names_in v)
    made =
        numbers_made (IsValue Long) x.tunings
        (mapping_told levels read.mapping_text mapping read.mapping f.form.1.instance x f.run.fits.there).number v
        extents begun scope
        (λ i dims e j n g. extent_fits n (all_at (λ m. m ≤ most_extent) dims (small i dims e) j n g)) f.run.fits.binds
        f.run.ran.declared

    fit : KeptIn begun.numbers scope.numbers × All (IsLocal scope.numbers) v.decls
    fit =
        let o = of_program program.tasks x.task x.kind v f.run.fits.runs in
        let parts = variant_parts program levels mapping walked.faultless walked.read x.task x.kind v f.run.fits.runs in
        let formed = formed_leaf v (all_there is_formed_variant program.tasks walked.formed o.index v o.there)
        f.is_leaf in
        let ps = params_done extents [] v.params 0 empty_scope begun counts f.run.fits.binds in
        locals_fit x.tunings scope v.decls (length v.params) (params_known v.params []) begun parts.decls_ formed.decls
        (ps.tells (record { number = λ name l e. absurd (cc e); no_list = λ name l e. absurd (cc e) }))
        f.run.ran.declared

    abbrev own : Leaf
    own = record { instance = name_by (instance_at r k); code = record { variant = v; numbers = scope.numbers } }

    told : numbers_of (text_of own) ≡ scope.numbers
    told = numbers_told v scope.numbers made.named

    own_sound : IsLeafText (text_of own)
    own_sound =
        let parts = variant_parts program levels mapping walked.faultless walked.read x.task x.kind v f.run.fits.runs in
        let list = list_of v.body f.is_leaf in
        record {
          checked = faultless_alone program.tasks v list.0 list.1 parts.params_ parts.decls_ parts.body_;
          bound = names_bound v scope.numbers;
          params = subst (λ numbers. All (ParamFits numbers) v.params) (sym told)
              (params_fit extents (λ i dims e. extents_within dims (sized i dims e) (small i dims e)) v.params
              empty_scope begun counts f.run.fits.binds scope.numbers fit.0);
          locals = subst (λ numbers. All (IsLocal numbers) v.decls) (sym told) fit.1;
        }

    own_readable : IsReadableLeaf (text_of own)
    own_readable =
        let o = of_program program.tasks x.task x.kind v f.run.fits.runs in
        let formed = formed_leaf v (all_there is_formed_variant program.tasks walked.formed o.index v o.there)
        f.is_leaf in
        let word = (mapping_told levels read.mapping_text mapping read.mapping f.form.1.instance x f.run.fits.there).name in
        let words = names_spelled most_levels read.program.text read.program.tokens program read.program.read
        read.program.stand o.index v o.there in
        record {
          instance = let w = subst IsSpelled (sym named) word in record { letter = w.letter; inside = w.inside };
          numbers = all_mapped IsReadableBinding (λ n. binding n (number_of scope.numbers n)) (firsts [] (names_in v))
              (all_each IsSpelled (λ n. IsReadableBinding (binding n (number_of scope.numbers n)))
              (firsts [] (names_in v))
              (λ n w. record {
                name = record { letter = w.letter; inside = w.inside };
                value = looked_fits scope.numbers (made.each tt) n;
              }) (firsts_of IsSpelled [] (names_in v) (all_none IsSpelled) words));
          task = record {
            program = program;
            given = read.program;
            there = contained program.tasks o.index v o.there;
          };
          leaf = formed.kind;
        }

    holds : LeafHolds (record { instance = name_by (instance_at r k); code = code })
    holds = subst (λ (c : LeafSource). LeafHolds (record { instance = name_by (instance_at r k); code = c })) f.is
        (record { numbers = told; sound = own_sound; readable = own_readable })

  -- ---- all leaves

  abbrev form_body : ℕ → FormBody
  form_body = body_of program.tasks mapping.instances found

  form_holds : (k : ℕ) (b : Body) → (form_body k).body ≡ b
      → All LeafHolds (leaves_in (name_by (instance_at r k)) b)
  form_holds k (body.Leaf code) e =
      all_more LeafHolds (record { instance = name_by (instance_at r k); code = code }) []
      (holds k code (leaf_form r walked k code e)) (all_none LeafHolds)
  form_holds k (body.Inner list) e = all_none LeafHolds

  forms_hold : (n k : ℕ) → All LeafHolds (leaves_from r k (map form_body (range_with_len k n)))
  forms_hold zero k = all_none LeafHolds
  forms_hold (suc n) k =
      let z : suc k ≡ k + 1 = omega arith in
      all_joined LeafHolds (leaves_in (name_by (instance_at r k)) (form_body k).body)
      (leaves_from r (suc k) (map form_body (range_with_len (k + 1) n))) (form_holds k (form_body k).body refl)
      (subst (λ m. All LeafHolds (leaves_from r (suc k) (map form_body (range_with_len m n)))) z (forms_hold n (suc k)))

  pub leaves_hold : All LeafHolds (leaves_of r)
  leaves_hold = forms_hold (length r.forms) 0
