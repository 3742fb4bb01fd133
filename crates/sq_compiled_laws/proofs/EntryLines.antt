-- The lines of the entry's arrays in the file of a program's plan: in the order of the plan's buffers, sound, and such
-- as can be read.
use Rattle.std.proofs.Common.{◌≡◌, ℕ, zero, suc, ◌+◌, ◌*◌, ◌<◌, ◌≤◌, ◌^◌, List, [], ◌∷◌, map, length, get_or, slice_get, take, Option, Some, None, Ok, refl, sym, ap, ◌∙◌, subst, arith}
use Rattle.std.specs.List.{All}
use Rattle.sq_num.specs.Elements.{width}
use Rattle.sq_rect.specs.Extents as rect
use Rattle.sq_ast.specs.declared.program.Param.{Param}
use Rattle.sq_ast.specs.declared.program.Variant.{Variant}
use Rattle.sq_mapping.specs.declared.mapping.Instance.{Instance}
use Rattle.sq_leaf.specs.declared.shape.Shape.{Shape}
use Rattle.sq_forms.specs.Faults.{Value}
use Rattle.sq_forms.specs.Tables.{variant_of}
use Rattle.sq_forms.specs.Resolving as forms
use Rattle.sq_forms.specs.Resolving.{entry_params}
use Rattle.sq_form_laws.specs.Served.{FormRuns}
use Rattle.sq_ir.specs.declared.plan.Buffer.{Buffer}
use Rattle.sq_ir.specs.declared.plan.Plan.{Plan}
use Rattle.sq_ir.specs.Plans.{placed, IsBuffer, setting_of}
use Rattle.sq_spec.specs.declared.body.FormBody.{FormBody}
use Rattle.sq_spec.specs.declared.resolved.Resolved.{Resolved}
use Rattle.sq_meant.specs.PlanGood.DraftLaws.Choosing.{Walked, MayBeChosen}
use Rattle.sq_meant.specs.PlanGood.DraftLaws.PlanLaws.Codes.{bytes_in}
use Rattle.sq_meant.specs.PlanGood.DraftLaws.ProgramLaws.Entry.{entry_shapes}
use Rattle.sq_meant.specs.PlanGood.DraftLaws.ProgramLaws.Homes.{params_at}
use Rattle.sq_meant.specs.PlanGood.Homes.Chosen.declared.choice.Choice.{Choice}
use Rattle.sq_meant.specs.PlanGood.Homes.Chosen.Forms.{bodies_of}
use Rattle.sq_meant.specs.PlanGood.Homes.Drafts.{homes_of, buffers_of, args_of, IsDraftOf}
use Rattle.sq_meant.specs.PlanGood.Term.Terms.{body_in, homes_in, buffer_or}
use Rattle.sq_meant.proofs.PlanGood.DraftLaws.Entry.{entry, extents, form, params_many, args_many, entries_are_whole}
use Rattle.sq_meant.proofs.PlanGood.DraftLaws.EntryOwned.{drafts_own}
use Rattle.sq_meant.proofs.PlanGood.DraftLaws.Forms.{resolving, run_of, bodies_are}
use Rattle.sq_meant.proofs.PlanGood.DraftLaws.ProgramLaws.RowsHold.{arrays_are, params_are}
use Rattle.sq_meant.proofs.PlanGood.DraftLaws.ProgramLaws.Shapes.{param_shape}
use Rattle.sq_plantext.specs.declared.text.BufferLine.{BufferLine}
use Rattle.sq_planfile.specs.declared.entry.EntryArray.{EntryArray}
use Rattle.sq_planfile.specs.File.{PlanFile, entry_arrays}
use Rattle.sq_planfile.specs.Sound.{product, AreExtents, AreArrays}
use Rattle.sq_planfile.specs.Written.{array_of, buffer_lines}
use Rattle.sq_filed_laws.specs.LayoutLaws.Readable.{IsWord, IsShort, AreShort, IsReadableArray}
use Rattle.sq_compiled_laws.specs.Compiled.{params_of, IsFileOf}
use Rattle.sq_compiled_laws.proofs.Each.{Each, all, each, at, every}
use Rattle.sq_compiled_laws.proofs.BufferNames.{variant_there}
use Rattle.sq_compiled_laws.proofs.EntryArrays.{buffers_back, line_at, lines_at, of_there, once, IsFor, are_for, arrays_are as lines_are}
use Rattle.sq_compiled_laws.proofs.EntryExtents.{entry_within}
use Rattle.sq_compiled_laws.proofs.ParamNames.{NamesOnce}
use Rattle.sq_compiled_laws.proofs.ProgramWords.{IsParam, HasWords}

-- ---- lists

pub found : {A : Type 0} (xs : List A) (i : ℕ) → i < length xs → (x : A) × (slice_get xs i ≡ Some x)
found [] i lt = absurd (omega (arith, lt))
found (x ∷ xs) zero lt = (x, refl)
found (x ∷ xs) (suc i) lt = found xs i (omega (arith, lt))

below : {A : Type 0} (xs : List A) (i : ℕ) (x : A) → slice_get xs i ≡ Some x → i < length xs
below [] i x e = absurd (cc e)
below (y ∷ xs) zero x e = omega arith
below (y ∷ xs) (suc i) x e = let l = below xs i x e in omega (arith, l)

taken : {A : Type 0} (n : ℕ) (xs : List A) (i : ℕ) → i < n → slice_get (take n xs) i ≡ slice_get xs i
taken zero xs i lt = absurd (omega (arith, lt))
taken (suc n) [] i lt = refl
taken (suc n) (x ∷ xs) zero lt = refl
taken (suc n) (x ∷ xs) (suc i) lt = taken n xs i (omega (arith, lt))

long : {A B : Type 0} (f : A → B) (xs : List A) → length (map f xs) ≡ length xs
long f [] = refl
long f (x ∷ xs) = ap suc (long f xs)

ok_same : {A : Type 0} (x y : A) → ◌≡◌ {A = Value A} (Ok x) (Ok y) → x ≡ y
ok_same x y e = cc e

same_product : (ns : List ℕ) → product ns ≡ rect.product ns
same_product [] = refl
same_product (n ∷ ns) = ap (λ k. n * k) (same_product ns)

-- ---- the entry's parameters

params_once : (tasks : List Variant) → Each (λ (v : Variant). NamesOnce [] v.params) tasks → (o : Option Instance) → NamesOnce [] (entry_params tasks o)
params_once tasks h None = tt
params_once tasks h (Some x) = by (variant_of tasks x.task x.kind) refl
  where
    by : (o : Option Variant) → variant_of tasks x.task x.kind ≡ o → NamesOnce [] (forms.params_of o)
    by None e = tt
    by (Some v) e = variant_there (λ (u : Variant). NamesOnce [] u.params) tasks x.task x.kind v h e

params_named : (tasks : List Variant) → Each HasWords tasks → (o : Option Instance) → Each (λ (p : Param). IsWord p.name) (entry_params tasks o)
params_named tasks h None = tt
params_named tasks h (Some x) = by (variant_of tasks x.task x.kind) refl
  where
    by : (o : Option Variant) → variant_of tasks x.task x.kind ≡ o → Each (λ (p : Param). IsWord p.name) (forms.params_of o)
    by None e = tt
    by (Some v) e =
        every IsParam (λ (p : Param). IsWord p.name) (λ p i. i.name) v.params (variant_there HasWords tasks x.task x.kind v h e).params

-- ---- lines that can be read

short_extents : (ns : List ℕ) → AreExtents ns → AreShort ns
short_extents ns h k d lt = let x = (h.each k d lt).1 in omega (arith, x)

arrays_readable : (ps : List Param) (es : List (List ℕ)) (bs : List ℕ) → Each (λ (p : Param). IsWord p.name) ps → Each AreExtents es → Each IsShort bs
    → Each IsReadableArray (map array_of (entry_arrays ps es bs))
arrays_readable [] es bs n x b = tt
arrays_readable (p ∷ ps) [] bs n x b = tt
arrays_readable (p ∷ ps) (e ∷ es) [] n x b = tt
arrays_readable (p ∷ ps) (e ∷ es) (c ∷ bs) n x b = (
  record { name = n.0; extents = short_extents e x.0; buffer = b.0 },
  arrays_readable ps es bs n.1 x.1 b.1,
)

-- what is known of the buffers of the entry's arrays
record OwnBuffers (buffers : List Buffer) (bs : List ℕ) (shapes : List Shape) (p : Plan) : Type 0 where
  distinct : (i j b : ℕ) → slice_get bs i ≡ Some b → slice_get bs j ≡ Some b → i ≡ j
  sizes : (i b : ℕ) (sh : Shape) → slice_get bs i ≡ Some b → slice_get shapes i ≡ Some sh
      → bytes_in sh ≤ (placed buffers p.nodes (λ b. get_or p.offsets b 0)).size b

module _ (r : Resolved) (w : Walked r) (choices : List Choice) (may : MayBeChosen r choices) (f : PlanFile)
    (its : IsDraftOf r choices f.plan.draft) (file : IsFileOf r f.plan f) where
  abbrev ps : List Param
  ps = params_of r

  abbrev bs : List ℕ
  bs = f.plan.draft.entry

  abbrev bodies : ℕ → FormBody
  bodies = body_in (bodies_of r)

  extents_same : file.extents ≡ extents r
  extents_same = ok_same file.extents (extents r) (sym file.extents_are ∙ (entry r).fit)

  many_extents : length file.extents ≡ length ps
  many_extents = ap (λ (es : List (List ℕ)). length es) extents_same ∙ sym (params_many r w)

  many_buffers : length bs ≡ length ps
  many_buffers =
      ap (λ (l : List ℕ). length l) its.entry
      ∙ (long buffer_or (homes_in (homes_of r choices) 0).params
      ∙ (sym (entries_are_whole r w choices may).many ∙ (args_many r w ∙ sym (params_many r w))))

  pub entry_is : map (λ (a : EntryArray). a.buffer) f.arrays ≡ bs
  entry_is = ap (λ (xs : List EntryArray). map (λ (a : EntryArray). a.buffer) xs) file.arrays_are
      ∙ buffers_back ps file.extents bs many_extents many_buffers

  -- ---- shapes

  abbrev run : FormRuns r.typed.now r.mapping.now (resolving r) 0 (form r).1
  run = run_of r w 0 (form r) (entry r).found

  params_of_run : ps ≡ run.fits.variant.params
  params_of_run =
      sym (ap (params_at r.typed.now.tasks r.mapping.now.instances) (entry r).found)
      ∙ params_are r.typed.now r.machine.now.levels r.mapping.now w.faultless w.read (resolving r) w.through 0 (form r) (entry r).found run

  shape_at : (i : ℕ) (p : Param) (e : List ℕ) → slice_get ps i ≡ Some p → slice_get file.extents i ≡ Some e
      → slice_get (entry_shapes bodies (args_of r)) i ≡ Some (record { elem = p.elem; extents = e })
  shape_at i p e a b =
      let many = args_many r w in
      let less = below file.extents i e b in
      let same = ap (λ (es : List (List ℕ)). length es) extents_same in
      let to = param_shape run.fits.variant (form r).1 run.ran.scope i p e
      (ap (λ (l : List Param). slice_get l i) (sym params_of_run) ∙ a)
      (ap (λ (l : List (List ℕ)). slice_get l i) (sym extents_same) ∙ b) in
      let is : to.to ≡ record { elem = p.elem; extents = e } =
      subst (λ (z : _). to.to ≡ record { elem = z; extents = e }) to.elem
      (subst (λ (z : List ℕ). to.to ≡ record { elem = to.to.elem; extents = z }) to.extents refl) in
      taken (length (args_of r)) (bodies 0).arrays i (omega (arith, many, less, same))
      ∙ (ap (λ (b : FormBody). slice_get b.arrays i) (bodies_are r w 0)
      ∙ (ap (λ (l : List Shape). slice_get l i)
      (arrays_are r.typed.now r.machine.now.levels r.mapping.now w.faultless w.read (resolving r) w.through 0 (form r) (entry r).found run)
      ∙ (to.there ∙ ap (λ (x : Shape). Some x) is)))

  own_buffers : OwnBuffers f.plan.draft.buffers bs (entry_shapes bodies (args_of r)) f.plan
  own_buffers =
      let o = (drafts_own r w choices may f.plan.nodes (λ b. get_or f.plan.offsets b 0)).entry in
      subst (λ (l : List Buffer). OwnBuffers l bs (entry_shapes bodies (args_of r)) f.plan) (sym its.buffers)
      (subst (λ (l : List ℕ). OwnBuffers (buffers_of r choices) l (entry_shapes bodies (args_of r)) f.plan) (sym its.entry)
      (record { distinct = o.distinct; sizes = o.sizes }))

  -- ---- lines

  module _ (at_root : All (IsBuffer (setting_of f.plan) 0) bs) where
    abbrev lines : List BufferLine
    lines = buffer_lines 0 f.plan.offsets f.plan.draft.buffers

    within : Each AreExtents file.extents
    within = (entry_within r.mapping.now.sizes ps file.extents file.extents_are).each

    array_for : (i : ℕ) (p : Param) (e : List ℕ) (b : ℕ) → slice_get ps i ≡ Some p → slice_get file.extents i ≡ Some e → slice_get bs i ≡ Some b
        → IsFor lines p e b
    array_for i p e b x y z =
        let its_buffer = at (IsBuffer (setting_of f.plan) 0) bs i b (each (IsBuffer (setting_of f.plan) 0) bs at_root) z in
        let there = found f.plan.draft.buffers b its_buffer.there in
        let level = of_there f.plan.draft.buffers (λ (c : Buffer). c.level) b there.0 there.1 in
        let size = of_there f.plan.draft.buffers (λ (c : Buffer). c.size) b there.0 there.1 in
        let fits = own_buffers.sizes i b (record { elem = p.elem; extents = e }) z (shape_at i p e x y) in
        let same = same_product e in
        let turned : width p.elem * rect.product e ≡ rect.product e * width p.elem = omega arith in
        record {
          buffer = line_at (get_or f.plan.offsets (0 + b) 0) there.0;
          there = lines_at 0 f.plan.offsets f.plan.draft.buffers b there.0 there.1;
          root = sym level ∙ its_buffer.level;
          extents = at AreExtents file.extents i e within y;
          room = subst (λ (n : ℕ). width p.elem * n ≤ there.0.size) (sym same)
              (subst (λ (n : ℕ). n ≤ there.0.size) (sym turned) (subst (λ (n : ℕ). bytes_in (record { elem = p.elem; extents = e }) ≤ n) size fits));
        }

    pub arrays_sound : Each (λ (v : Variant). NamesOnce [] v.params) r.typed.now.tasks → AreArrays lines [] (map array_of f.arrays)
    arrays_sound named =
        subst (λ (xs : List EntryArray). AreArrays lines [] (map array_of xs)) (sym file.arrays_are)
        (lines_are lines [] ps file.extents bs
        (params_once r.typed.now.tasks named (slice_get r.mapping.now.instances r.mapping.now.entry))
        (once [] bs own_buffers.distinct) (are_for lines ps file.extents bs array_for))

    buffers_short : length f.plan.draft.buffers < 2 ^ 63 → (cs : List ℕ) → Each (IsBuffer (setting_of f.plan) 0) cs → Each IsShort cs
    buffers_short few [] h = tt
    buffers_short few (c ∷ cs) h = let l = h.0.there in (omega (arith, l, few), buffers_short few cs h.1)

    pub arrays_can_be_read : Each HasWords r.typed.now.tasks → length f.plan.draft.buffers < 2 ^ 63 → All IsReadableArray (map array_of f.arrays)
    arrays_can_be_read named few =
        subst (λ (xs : List EntryArray). All IsReadableArray (map array_of xs)) (sym file.arrays_are)
        (all IsReadableArray (map array_of (entry_arrays ps file.extents bs))
        (arrays_readable ps file.extents bs (params_named r.typed.now.tasks named (slice_get r.mapping.now.instances r.mapping.now.entry)) within
        (buffers_short few bs (each (IsBuffer (setting_of f.plan) 0) bs at_root))))
