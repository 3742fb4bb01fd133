-- What a call brings is as large as the form's own parameters that aren't in place, and its locals.
use Rattle.std.proofs.Common.{◌≡◌, ℕ, zero, suc, ◌+◌, ◌<◌, Bool, true, false, List, [], ◌∷◌, ◌++◌, map, length}
use Rattle.std.proofs.Common.{get_or, slice_get, drop, Option, Some, refl, sym, ap, ap₂, ◌∙◌, arith, length-append}
use Rattle.std.proofs.Common.{if◌then◌else◌}
use Rattle.std.specs.Option.{option_map_or}
use Rattle.std.specs.List.{range_with_len}
use Rattle.std.proofs.lemmas.Option.{get_or_from_slice_get}
use Rattle.sq_ast.specs.declared.program.Param.{Param}
use Rattle.sq_leaf.specs.declared.shape.Shape.{Shape}
use Rattle.sq_blocks.specs.declared.argument.Argument.{Argument}
use Rattle.sq_ir.specs.Written.{Setting}
use Rattle.sq_ir.specs.declared.plan.Buffer.{Buffer}
use Rattle.sq_ir.specs.declared.plan.PlanNode.{PlanNode}
use Rattle.sq_forms.specs.declared.form.Found.{Found}
use Rattle.sq_forms.specs.declared.form.Form.{Form}
use Rattle.sq_forms.specs.declared.form.LocalArray.{LocalArray}
use Rattle.sq_forms.specs.Steps.{Key}
use Rattle.sq_forms.specs.Resolving.{with_locals, params_of}
use Rattle.sq_form_laws.specs.Served.{FormRuns}
use Rattle.sq_spec.specs.declared.body.FormBody.{FormBody}
use Rattle.sq_spec.specs.declared.statement.CallInstance.{CallInstance}
use Rattle.sq_spec.specs.declared.resolved.Resolved.{Resolved}
use Rattle.sq_spec.specs.Works.{param_shapes, local_shapes, shapes_of}
use Rattle.sq_spec_laws.specs.Needs.{size_of, params_size, locals_size, variant_for, form_params, own_size}
use Rattle.sq_nests.specs.Stacks.{total}
use Rattle.sq_nests.proofs.Chains.{total_append}
use Rattle.sq_placed.specs.declared.home.Home.{Home}
use Rattle.sq_placed.specs.declared.home.Home.TheVariants.{InPlace}
use Rattle.sq_placed.specs.declared.home.Homes.{Homes}
use Rattle.sq_placed.specs.Tables.{placed_locals, locals_of}
use Rattle.sq_placed.specs.Trees.{local_buffers}
use Rattle.sq_term.specs.Terms.{buffer_or, body_in, homes_in}
use Rattle.sq_draft_laws.specs.PlanLaws.Buffers.{home_buffer}
use Rattle.sq_draft_laws.specs.Homes.Chosen.declared.choice.Choice.{Choice}
use Rattle.sq_draft_laws.specs.Homes.Chosen.Arrays.{left_by, standing, shape_size, locals_count}
use Rattle.sq_draft_laws.specs.Homes.Numbering.{home_of, local_base}
use Rattle.sq_draft_laws.specs.Homes.Chosen.Forms.{bodies_of, choice_in}
use Rattle.sq_draft_laws.specs.Homes.Drafts.{homes_of, buffers_of, buffer_at, entry_of}
use Rattle.sq_draft_laws.specs.Choosing.{Walked, setting_of}
use Rattle.sq_draft_laws.proofs.Entry.{entries_have_buffers}
use Rattle.sq_draft_laws.proofs.Forms.{body_at, body_there, resolving, run_of}
use Rattle.sq_draft_laws.proofs.Found.{found_plain}
use Rattle.sq_draft_laws.proofs.Hoisted.{IsForm, is_form, params_many, param_is, param_or}
use Rattle.sq_draft_laws.proofs.Numbers.{first_of}
use Rattle.sq_draft_laws.proofs.ArrayPlaces.{HomeIs, stays, owns, owns_two, leaves, home_by, StandsAt, param_stands, local_stands}
use Rattle.sq_draft_laws.proofs.ProgramLaws.RowsHold.{arrays_are}
use Rattle.sq_draft_laws.proofs.ProgramLaws.Shapes.{param_shape}
use Rattle.sq_plan_good.specs.Needed.{KeepInPlace}
use Rattle.sq_plan_good.specs.Sums.{either_buffer, params_from, brought}

-- ---- lists

within : {A : Type 0} (xs : List A) (i : ℕ) (x : A) → slice_get xs i ≡ Some x → i < length xs
within [] i x e = cc
within (y ∷ xs) zero x e = omega arith
within (y ∷ xs) (suc i) x e = let z = within xs i x e in omega (arith, z)

map_get : {A B : Type 0} (f : A → B) (xs : List A) (i : ℕ) (x : A) → slice_get xs i ≡ Some x
    → slice_get (map f xs) i ≡ Some (f x)
map_get f [] i x h = cc
map_get f (y ∷ xs) zero x h = let e : y ≡ x = cc h in ap (λ z. Some (f z)) e
map_get f (y ∷ xs) (suc i) x h = map_get f xs i x h

behind : {A : Type 0} (xs ys : List A) → drop (length xs) (xs ++ ys) ≡ ys
behind [] ys = refl
behind (x ∷ xs) ys = behind xs ys

behind_at : {A : Type 0} (xs ys : List A) (j : ℕ) → slice_get (xs ++ ys) (length xs + j) ≡ slice_get ys j
behind_at [] ys j = let e : 0 + j ≡ j = omega arith in ap (slice_get ys) e
behind_at (x ∷ xs) ys j = let e : suc (length xs) + j ≡ suc (length xs + j) = omega arith in
    ap (slice_get (x ∷ (xs ++ ys))) e ∙ behind_at xs ys j

shapes_many : (ps : List Param) (i : ℕ) (es : List (List ℕ)) → length (param_shapes ps i es) ≡ length ps
shapes_many [] i es = refl
shapes_many (p ∷ ps) i es = ap suc (shapes_many ps (i + 1) es)

locals_many : (ls : List LocalArray) → length (local_shapes ls) ≡ length ls
locals_many [] = refl
locals_many (l ∷ ls) = ap suc (locals_many ls)

-- ---- sums

-- what a parameter needs
abbrev size_if : (in_place : Bool) → Param → List ℕ → ℕ
size_if in_place p e = if in_place then 0 else size_of p.elem e

module _ (s : Setting) where
  pub params_sum : (hs : List Home) (ps : List Param) (es : List (List ℕ)) (bs : List Bool) (i : ℕ)
      (args : List Argument) → length args ≡ length bs → length es ≡ length bs → length ps ≡ length bs
      → ((j : ℕ) (b : Bool) (p : Param) (e : List ℕ) → slice_get bs j ≡ Some b → slice_get ps j ≡ Some p
      → slice_get es j ≡ Some e → (ms : List ℕ)
      → total s.size (either_buffer (get_or hs (i + j) InPlace) ms) ≡ size_if b p e + total s.size ms)
      → total s.size (params_from hs i args) ≡ params_size ps es bs
  params_sum hs [] [] [] i [] l m n g = refl
  params_sum hs [] [] [] i (a ∷ args) l m n g = absurd (omega (arith, l))
  params_sum hs [] [] (b ∷ bs) i args l m n g = absurd (omega (arith, n))
  params_sum hs [] (e ∷ es) bs i args l m n g = absurd (omega (arith, m, n))
  params_sum hs (p ∷ ps) [] bs i args l m n g = absurd (omega (arith, m, n))
  params_sum hs (p ∷ ps) (e ∷ es) [] i args l m n g = absurd (omega (arith, m))
  params_sum hs (p ∷ ps) (e ∷ es) (b ∷ bs) i [] l m n g = absurd (omega (arith, l))
  params_sum hs (p ∷ ps) (e ∷ es) (b ∷ bs) i (a ∷ args) l m n g =
      let z : i ≡ i + 0 = omega arith in
      let rest = params_sum hs ps es bs (suc i) args (omega (arith, l)) (omega (arith, m)) (omega (arith, n))
      (λ j c q d t u v ms. let y : suc i + j ≡ i + suc j = omega arith in
      ap (λ (k : ℕ). total s.size (either_buffer (get_or hs k InPlace) ms)) y ∙ g (suc j) c q d t u v ms) in
      ap (λ (k : ℕ). total s.size (either_buffer (get_or hs k InPlace) (params_from hs (suc i) args))) z
      ∙ g 0 b p e refl refl refl (params_from hs (suc i) args)
      ∙ ap (λ (k : ℕ). size_if b p e + k) rest ∙ joined b
    where
      joined : (c : Bool) → size_if c p e + params_size ps es bs ≡ params_size (p ∷ ps) (e ∷ es) (c ∷ bs)
      joined true = omega arith
      joined false = refl

  pub locals_sum : (ls : List LocalArray) (base : ℕ)
      → ((j : ℕ) (l : LocalArray) → slice_get ls j ≡ Some l → s.size (base + j) ≡ size_of l.elem l.extents)
      → total s.size (local_buffers (placed_locals (local_shapes ls) (range_with_len base (length ls))))
      ≡ locals_size ls
  locals_sum [] base h = refl
  locals_sum (l ∷ ls) base h =
      let z : base + 0 ≡ base = omega arith in
      ap₂ (λ a c. a + c) (sym (ap s.size z) ∙ h 0 l refl)
      (locals_sum ls (base + 1) (λ j k e. let y : base + 1 + j ≡ base + suc j = omega arith in
      ap s.size y ∙ h (suc j) k e))

  -- the buffers of parameters, none in place
  pub owned_sum : (ps : List Param) (es : List (List ℕ)) (bs : List Bool) (hs : List Home)
      → length hs ≡ length bs → length es ≡ length bs → length ps ≡ length bs
      → ((j : ℕ) (b : Bool) → slice_get bs j ≡ Some b → b ≡ false)
      → ((j : ℕ) (h : Home) (p : Param) (e : List ℕ) → slice_get hs j ≡ Some h → slice_get ps j ≡ Some p
      → slice_get es j ≡ Some e → s.size (buffer_or h) ≡ size_of p.elem e)
      → total s.size (map buffer_or hs) ≡ params_size ps es bs
  owned_sum [] [] [] [] l m n f g = refl
  owned_sum [] [] [] (h ∷ hs) l m n f g = absurd (omega (arith, l))
  owned_sum [] [] (b ∷ bs) hs l m n f g = absurd (omega (arith, n))
  owned_sum [] (e ∷ es) bs hs l m n f g = absurd (omega (arith, m, n))
  owned_sum (p ∷ ps) [] bs hs l m n f g = absurd (omega (arith, m, n))
  owned_sum (p ∷ ps) (e ∷ es) [] hs l m n f g = absurd (omega (arith, m))
  owned_sum (p ∷ ps) (e ∷ es) (b ∷ bs) [] l m n f g = absurd (omega (arith, l))
  owned_sum (p ∷ ps) (e ∷ es) (true ∷ bs) (h ∷ hs) l m n f g = absurd (cc (f 0 true refl))
  owned_sum (p ∷ ps) (e ∷ es) (false ∷ bs) (h ∷ hs) l m n f g =
      ap₂ (λ a c. a + c) (g 0 h p e refl refl refl)
      (owned_sum ps es bs hs (omega (arith, l)) (omega (arith, m)) (omega (arith, n)) (λ j b u. f (suc j) b u)
      (λ j x q d t u v. g (suc j) x q d t u v))

-- ---- a form

module _ (r : Resolved) (w : Walked r) (choices : List Choice) (keep : KeepInPlace r choices) (nodes : List PlanNode)
    (offset : ℕ → ℕ) where
  abbrev pub set : Setting
  set = setting_of r choices nodes offset

  abbrev homes : ℕ → Homes
  homes = homes_in (homes_of r choices)

  module _ (k : ℕ) (f : Key × Found) (there : slice_get r.found.entries k ≡ Some f) where
    abbrev run : FormRuns r.typed.now r.mapping.now (resolving r) k f.1
    run = run_of r w k f there

    abbrev pub own : Form
    own = with_locals f.1 run.ran.scope.locals

    abbrev its : List Param
    its = run.fits.variant.params

    abbrev locals : List LocalArray
    locals = run.ran.scope.locals

    abbrev b : FormBody
    b = body_at r k

    abbrev form : IsForm r choices keep.hoisted k b
    form = is_form r choices keep.hoisted k b (body_there r w k f there)

    abbrev c : Choice
    c = choice_in choices k

    abbrev first : ℕ
    first = first_of r choices k

    abbrev moved : (i : ℕ) → 0 < left_by c i → get_or c.in_place i false ≡ false
    moved = form.chosen.moved

    abbrev overlaps : c.overlaps ≡ false
    overlaps = keep.none k

    flags_are : c.in_place ≡ f.1.in_place
    flags_are = keep.in_place k own run.ran.kept

    flags_many : length c.in_place ≡ length f.1.extents
    flags_many = ap length flags_are
        ∙ (found_plain r.typed.now r.machine.now.levels r.mapping.now w.read (resolving r) w.through k f there).flags

    its_many : length its ≡ length c.in_place
    its_many = sym run.fits.many ∙ sym flags_many

    params_are : form_params r.typed.now.tasks r.mapping.now.instances own ≡ its
    params_are = ap params_of (ap (variant_for r.typed.now.tasks) run.fits.there ∙ run.fits.runs)

    shapes_are : b.arrays ≡ shapes_of run.fits.variant f.1 run.ran.scope
    shapes_are = arrays_are r.typed.now r.machine.now.levels r.mapping.now w.faultless w.read (resolving r) w.through k f
        there run

    -- the size of the buffer of an array that stands there
    size_at : (i n : ℕ) (x : Shape) → StandsAt c moved b first i n → slice_get b.arrays i ≡ Some x
        → set.size n ≡ shape_size x
    size_at i n x at is =
        let less = within (standing b c) at.place i at.stands in
        let buffer : slice_get (buffers_of r choices) (first + at.place) ≡ Some (buffer_at r k b i) =
        form.at.buffers at.place less ∙ map_get (buffer_at r k b) (standing b c) at.place i at.stands in
        ap set.size at.number
        ∙ ap (λ (o : Option Buffer). option_map_or (λ (y : Buffer). y.size) o 0) buffer
        ∙ ap shape_size (get_or_from_slice_get b.arrays i x _ is)

    param_size : (i n : ℕ) (p : Param) (e : List ℕ) → i < length c.in_place
        → home_buffer (home_of first c i) ≡ Some n → slice_get its i ≡ Some p → slice_get f.1.extents i ≡ Some e
        → set.size n ≡ size_of p.elem e
    param_size i n p e less is at dims =
        let to = param_shape run.fits.variant f.1 run.ran.scope i p e at dims in
        size_at i n to.to (param_stands c moved b first i n less is)
        (ap (λ (l : List Shape). slice_get l i) shapes_are ∙ to.there)
        ∙ ap₂ size_of to.elem to.extents

    home_at : (i : ℕ) → i < length c.in_place → get_or (homes k).params i InPlace ≡ home_of first c i
    home_at i less =
        let z : 0 + i ≡ i = omega arith in
        ap (λ (hs : List Home). get_or hs i InPlace) form.params
        ∙ param_or (home_of first c) 0 (length c.in_place) i less ∙ ap (home_of first c) z

    -- in place or not, and whether it leaves loops or not
    param_sum : (i : ℕ) (v : Bool) (p : Param) (e : List ℕ) → slice_get c.in_place i ≡ Some v
        → slice_get its i ≡ Some p → slice_get f.1.extents i ≡ Some e → (ms : List ℕ)
        → total set.size (either_buffer (home_of first c i) ms) ≡ size_if v p e + total set.size ms
    param_sum i v p e flag at dims ms = by (home_by c moved first i) refl
      where
        less : i < length c.in_place
        less = within c.in_place i v flag

        is : get_or c.in_place i false ≡ v
        is = get_or_from_slice_get c.in_place i v false flag

        by : {h : Home} → HomeIs c moved first i h → home_of first c i ≡ h
            → total set.size (either_buffer h ms) ≡ size_if v p e + total set.size ms
        by (stays g l) h =
            let none : size_if v p e ≡ 0 = ap (λ (t : Bool). size_if t p e) (sym is ∙ g) in
            omega (arith, none)
        by (owns g l o) h =
            let own : size_if v p e ≡ size_of p.elem e = ap (λ (t : Bool). size_if t p e) (sym is ∙ g) in
            let size = param_size i _ p e less (ap home_buffer h) at dims in
            omega (arith, own, size)
        by (owns_two g l o) h = let no : true ≡ false = sym o ∙ overlaps in absurd (cc no)
        by (leaves n g l) h =
            let own : size_if v p e ≡ size_of p.elem e = ap (λ (t : Bool). size_if t p e) (sym is ∙ g) in
            let size = param_size i _ p e less (ap home_buffer h) at dims in
            omega (arith, own, size)

    args_sum : (args : List Argument) → length args ≡ length f.1.in_place
        → total set.size (params_from (homes k).params 0 args) ≡ params_size its f.1.extents c.in_place
    args_sum args many =
        params_sum set (homes k).params its f.1.extents c.in_place 0 args (many ∙ sym (ap length flags_are))
        (sym flags_many) its_many
        (λ j v p e flag at dims ms.
        let z : 0 + j ≡ j = omega arith in
        ap (λ (h : Home). total set.size (either_buffer h ms))
        (ap (λ (i : ℕ). get_or (homes k).params i InPlace) z ∙ home_at j (within c.in_place j v flag))
        ∙ param_sum j v p e flag at dims ms)

    ends_sum : total set.size (local_buffers (locals_of b (homes k))) ≡ locals_size locals
    ends_sum =
        ap₂ (λ (xs : List Shape) (bs : List ℕ). total set.size (local_buffers (placed_locals xs bs))) shapes
        (form.locals ∙ ap (range_with_len (local_base first c)) many)
        ∙ locals_sum set locals (local_base first c) (λ j l e.
        let less = within locals j l e in
        let more = many in
        size_at (length c.in_place + j) (local_base first c + j) (record { elem = l.elem; extents = l.extents })
        (local_stands c moved b first j (omega (arith, less, more)))
        (ap (λ (xs : List Shape). slice_get xs (length c.in_place + j)) shapes_are
        ∙ ap (λ (n : ℕ). slice_get (shapes_of run.fits.variant f.1 run.ran.scope) (n + j)) (sym fronts)
        ∙ behind_at (param_shapes its 0 f.1.extents) (local_shapes locals) j
        ∙ map_get (λ (x : LocalArray). record { elem = x.elem; extents = x.extents }) locals j l e))
      where
        fronts : length (param_shapes its 0 f.1.extents) ≡ length c.in_place
        fronts = shapes_many its 0 f.1.extents ∙ its_many

        long : length (homes k).params ≡ length (param_shapes its 0 f.1.extents)
        long = params_many r choices keep.hoisted k b form ∙ sym fronts

        shapes : drop (length (homes k).params) b.arrays ≡ local_shapes locals
        shapes = ap₂ (λ (n : ℕ) (xs : List Shape). drop n xs) long shapes_are
            ∙ behind (param_shapes its 0 f.1.extents) (local_shapes locals)

        many : locals_count b.arrays c ≡ length locals
        many =
            let n = ap length shapes_are in
            let m = length-append (param_shapes its 0 f.1.extents) (local_shapes locals) in
            let l = locals_many locals in
            let e = fronts in
            omega (arith, n, m, l, e)

    sizes_own : params_size its f.1.extents c.in_place + locals_size locals
        ≡ own_size r.typed.now.tasks r.mapping.now.instances own
    sizes_own = ap₂ (λ (ps : List Param) (bs : List Bool). params_size ps f.1.extents bs + locals_size locals)
        (sym params_are) flags_are

    pub brought_size : (row : CallInstance) → row.form ≡ k → length row.args ≡ length f.1.in_place
        → total set.size (brought (body_in (bodies_of r)) homes row)
        ≡ own_size r.typed.now.tasks r.mapping.now.instances own
    brought_size row is many =
        ap (λ (m : ℕ). total set.size (params_from (homes m).params 0 row.args
        ++ local_buffers (locals_of (body_in (bodies_of r) m) (homes m)))) is
        ∙ ap (λ (y : FormBody). total set.size (params_from (homes k).params 0 row.args
        ++ local_buffers (locals_of y (homes k)))) form.body
        ∙ total_append set.size (params_from (homes k).params 0 row.args) (local_buffers (locals_of b (homes k)))
        ∙ ap₂ (λ n m. n + m) (args_sum row.args many) ends_sum
        ∙ sizes_own

    -- the entry's arrays stand in buffers, none in place
    pub entry_size : k ≡ 0 → ((i : ℕ) (v : Bool) → slice_get f.1.in_place i ≡ Some v → v ≡ false)
        → total set.size (entry_of r choices ++ local_buffers (locals_of (body_in (bodies_of r) 0) (homes 0)))
        ≡ own_size r.typed.now.tasks r.mapping.now.instances own
    entry_size begins none =
        ap (λ (m : ℕ). total set.size (map buffer_or (homes m).params
        ++ local_buffers (locals_of (body_in (bodies_of r) m) (homes m)))) (sym begins)
        ∙ ap (λ (y : FormBody). total set.size (map buffer_or (homes k).params
        ++ local_buffers (locals_of y (homes k)))) form.body
        ∙ total_append set.size (map buffer_or (homes k).params) (local_buffers (locals_of b (homes k)))
        ∙ ap₂ (λ n m. n + m) params ends_sum
        ∙ sizes_own
      where
        own_size_at : (i : ℕ) (h : Home) (p : Param) (e : List ℕ) → slice_get (homes k).params i ≡ Some h
            → slice_get its i ≡ Some p → slice_get f.1.extents i ≡ Some e → set.size (buffer_or h) ≡ size_of p.elem e
        own_size_at i h p e at param dims =
            let o = entries_have_buffers r w choices keep.hoisted i h
            (ap (λ (m : ℕ). slice_get (homes m).params i) (sym begins) ∙ at) in
            let its_home = param_is r choices keep.hoisted k b form i h at in
            ap (λ (x : Home). set.size (buffer_or x)) o.is
            ∙ param_size i o.buffer p e its_home.less (ap home_buffer (its_home.is ∙ o.is)) param dims

        params : total set.size (map buffer_or (homes k).params) ≡ params_size its f.1.extents c.in_place
        params = owned_sum set its f.1.extents c.in_place (homes k).params
            (params_many r choices keep.hoisted k b form) (sym flags_many) its_many
            (λ j v e. none j v (ap (λ (bs : List Bool). slice_get bs j) (sym flags_are) ∙ e))
            own_size_at
