-- What a call brings where loops overlap their transfers: its form's bytes, and those of what leaves no loop once more
-- where its loop was taken and second sets count.
use Rattle.std.proofs.Common.{◌≡◌, ℕ, zero, suc, ◌+◌, ◌<◌, ◌==◌, ◌&&◌, Bool, true, false, List, [], ◌∷◌, ◌++◌, map}
use Rattle.std.proofs.Common.{length, get_or, slice_get, drop, Some, refl, sym, ap, ap₂, subst, ◌∙◌, arith}
use Rattle.std.proofs.Common.{if◌then◌else◌}
use Rattle.std.proofs.lemmas.Bool.Decides.{nat_tests}
use Rattle.std.proofs.lemmas.Option.{get_or_from_slice_get}
use Rattle.std.specs.List.{range_with_len}
use Rattle.sq_ast.specs.declared.program.Param.{Param}
use Rattle.sq_ir.specs.Leaf.declared.shape.Shape.{Shape}
use Rattle.sq_ir.specs.Blocks.declared.argument.Argument.{Argument}
use Rattle.sq_ir.specs.Written.{Setting}
use Rattle.sq_forms.specs.declared.form.Form.{Form}
use Rattle.sq_forms.specs.declared.form.Found.{Found}
use Rattle.sq_forms.specs.declared.form.LocalArray.{LocalArray}
use Rattle.sq_forms.specs.Resolving.{with_locals}
use Rattle.sq_forms.specs.Steps.{Key}
use Rattle.sq_spec.specs.FormLaws.Served.{FormRuns}
use Rattle.sq_spec.specs.declared.body.FormBody.{FormBody}
use Rattle.sq_spec.specs.declared.statement.CallInstance.{CallInstance}
use Rattle.sq_spec.specs.declared.resolved.Resolved.{Resolved}
use Rattle.sq_spec.specs.Works.{param_shapes, local_shapes}
use Rattle.sq_spec_laws.specs.Needs.{size_of, params_size, locals_size, form_params, own_size}
use Rattle.sq_nests.specs.Stacks.{total}
use Rattle.sq_nests.proofs.Chains.{total_append}
use Rattle.sq_placed.specs.declared.home.Home.{Home}
use Rattle.sq_placed.specs.declared.home.Home.TheVariants.{InPlace, Twin}
use Rattle.sq_placed.specs.declared.home.Homes.{Homes}
use Rattle.sq_placed.specs.Tables.{placed_locals, locals_of}
use Rattle.sq_placed.specs.Trees.{local_buffers}
use Rattle.sq_pass_laws.specs.Term.Terms.{buffer_or, body_in, homes_in}
use Rattle.sq_plan_good.specs.DraftLaws.PlanLaws.Buffers.{home_buffer}
use Rattle.sq_plan_good.specs.DraftLaws.Choosing.{Walked, MayBeChosen}
use Rattle.sq_plan_good.specs.Homes.Chosen.declared.choice.Choice.{Choice}
use Rattle.sq_plan_good.specs.Homes.Chosen.Arrays.{left_by, array_size, locals_count}
use Rattle.sq_plan_good.specs.Homes.Numbering.{home_of, local_base}
use Rattle.sq_plan_good.specs.Homes.Chosen.Forms.{bodies_of, choice_in}
use Rattle.sq_plan_good.specs.Homes.Drafts.{homes_of, entry_of}
use Rattle.sq_plan_good.specs.Sums.{either_buffer, params_from, brought}
use Rattle.sq_plan_good.proofs.DraftLaws.Entry.{entries_have_buffers}
use Rattle.sq_plan_good.proofs.DraftLaws.Forms.{body_at, body_there, resolving, run_of}
use Rattle.sq_plan_good.proofs.DraftLaws.Hoisted.{IsForm, is_form, params_many, param_is, param_or}
use Rattle.sq_plan_good.proofs.DraftLaws.Numbers.{first_of}
use Rattle.sq_plan_good.proofs.DraftLaws.ArrayPlaces.{HomeIs, stays, owns, owns_two, leaves, home_by}
use Rattle.sq_plan_good.proofs.Sizes.{locals_sum, owned_sum}
use Rattle.sq_pass_laws.specs.Pipe.Greedy.{overlapped}
use Rattle.sq_pass_laws.proofs.Choices.{left_as, flags_as}
use Rattle.sq_pass_laws.proofs.PipePrograms.{overlaps_may_be_chosen}
use Rattle.sq_overlap_laws.specs.Taken.{staying_size, leaves_of}
use Rattle.sq_overlap_laws.proofs.Sizes.{flags_many, its_many, arrays_many, param_size, local_size, params_are, in_place_is}
use Rattle.sq_overlap_laws.proofs.Sizes.{shapes_are}

some_same : {A : Type 0} (x y : A) → Some x ≡ Some y → x ≡ y
some_same x y h = cc h

within : {A : Type 0} (xs : List A) (i : ℕ) (x : A) → slice_get xs i ≡ Some x → i < length xs
within [] i x e = absurd (cc e)
within (y ∷ xs) zero x e = omega arith
within (y ∷ xs) (suc i) x e = let z = within xs i x e in omega (arith, z)

-- ---- sums

-- what a parameter brings; twice: whether what leaves no loop counts twice
abbrev part : (twice in_place : Bool) → (out : ℕ) → Param → List ℕ → ℕ
part twice in_place n p e =
    if in_place then 0 else size_of p.elem e + (if twice && n == 0 then size_of p.elem e else 0)

abbrev again_if : (twice : Bool) → ℕ → ℕ
again_if twice n = if twice then n else 0

part_first : (twice v : Bool) (out : ℕ → ℕ) (i : ℕ) (p : Param) (e : List ℕ) (ps : List Param) (es : List (List ℕ))
    (flags : List Bool) → part twice v (out i) p e
    + (params_size ps es flags + again_if twice (staying_size out (i + 1) ps es flags))
    ≡ params_size (p ∷ ps) (e ∷ es) (v ∷ flags) + again_if twice (staying_size out i (p ∷ ps) (e ∷ es) (v ∷ flags))
part_first true true out i p e ps es flags = omega arith
part_first false true out i p e ps es flags = omega arith
part_first true false out i p e ps es flags = omega arith
part_first false false out i p e ps es flags = omega arith

module _ (s : Setting) (twice : Bool) (out : ℕ → ℕ) where
  params_sum : (hs : List Home) (ps : List Param) (es : List (List ℕ)) (bs : List Bool) (i : ℕ) (args : List Argument)
      → length args ≡ length bs → length es ≡ length bs → length ps ≡ length bs
      → ((j : ℕ) (b : Bool) (p : Param) (e : List ℕ) → slice_get bs j ≡ Some b → slice_get ps j ≡ Some p
      → slice_get es j ≡ Some e → (ms : List ℕ)
      → total s.size (either_buffer (get_or hs (i + j) InPlace) ms) ≡ part twice b (out (i + j)) p e + total s.size ms)
      → total s.size (params_from hs i args) ≡ params_size ps es bs + again_if twice (staying_size out i ps es bs)
  params_sum hs [] [] [] i [] l m n g = by twice
    where
      by : (t : Bool) → 0 ≡ 0 + again_if t 0
      by true = refl
      by false = refl
  params_sum hs [] [] [] i (a ∷ args) l m n g = absurd (omega (arith, l))
  params_sum hs [] [] (b ∷ bs) i args l m n g = absurd (omega (arith, n))
  params_sum hs [] (e ∷ es) bs i args l m n g = absurd (omega (arith, m, n))
  params_sum hs (p ∷ ps) [] bs i args l m n g = absurd (omega (arith, m, n))
  params_sum hs (p ∷ ps) (e ∷ es) [] i args l m n g = absurd (omega (arith, m))
  params_sum hs (p ∷ ps) (e ∷ es) (b ∷ bs) i [] l m n g = absurd (omega (arith, l))
  params_sum hs (p ∷ ps) (e ∷ es) (b ∷ bs) i (a ∷ args) l m n g =
      let z : i ≡ i + 0 = omega arith in
      let u : suc i ≡ i + 1 = omega arith in
      let next = params_from hs (suc i) args in
      let rest : total s.size next ≡ params_size ps es bs + again_if twice (staying_size out (i + 1) ps es bs) =
      ap (λ (k : ℕ). total s.size (params_from hs k args)) u
      ∙ params_sum hs ps es bs (i + 1) args (omega (arith, l)) (omega (arith, m)) (omega (arith, n))
      (λ j c q d t v o ms. let y : i + 1 + j ≡ i + suc j = omega arith in
      subst (λ (k : ℕ). total s.size (either_buffer (get_or hs k InPlace) ms) ≡ part twice c (out k) q d
      + total s.size ms) (sym y) (g (suc j) c q d t v o ms)) in
      let own : total s.size (either_buffer (get_or hs i InPlace) next) ≡ part twice b (out i) p e + total s.size next =
      subst (λ (k : ℕ). total s.size (either_buffer (get_or hs k InPlace) next) ≡ part twice b (out k) p e
      + total s.size next) (sym z) (g 0 b p e refl refl refl next) in
      own ∙ ap (λ (k : ℕ). part twice b (out i) p e + k) rest ∙ part_first twice b out i p e ps es bs

-- ---- a form

-- The buffers of the k-th form have the sizes of their arrays; twice: whether second sets have, or else no bytes.
pub record HasSizes (r : Resolved) (s : Setting) (twice : Bool) (k : ℕ) : Type 0 where
  pub param : (i n : ℕ) → i < length (choice_in (overlapped r) k).in_place
      → home_buffer (home_of (first_of r (overlapped r) k) (choice_in (overlapped r) k) i) ≡ Some n
      → s.size n ≡ array_size (body_at r k) i
  pub second : (i m n : ℕ) → i < length (choice_in (overlapped r) k).in_place
      → home_of (first_of r (overlapped r) k) (choice_in (overlapped r) k) i ≡ Twin m n
      → s.size n ≡ (if twice then array_size (body_at r k) i else 0)
  pub local : (j : ℕ) → j < locals_count (body_at r k).arrays (choice_in (overlapped r) k)
      → s.size (local_base (first_of r (overlapped r) k) (choice_in (overlapped r) k) + j)
      ≡ array_size (body_at r k) (length (choice_in (overlapped r) k).in_place + j)

module _ (r : Resolved) (w : Walked r) (s : Setting) (twice : Bool) (k : ℕ) (e : Key × Found)
    (there : slice_get r.found.entries k ≡ Some e) (sizes : HasSizes r s twice k) where
  abbrev may : MayBeChosen r (overlapped r)
  may = overlaps_may_be_chosen r w

  abbrev run : FormRuns r.typed.now r.mapping.now (resolving r) k e.1
  run = run_of r w k e there

  abbrev its : List Param
  its = run.fits.variant.params

  abbrev locals : List LocalArray
  locals = run.ran.scope.locals

  abbrev b : FormBody
  b = body_at r k

  abbrev c : Choice
  c = choice_in (overlapped r) k

  abbrev first : ℕ
  first = first_of r (overlapped r) k

  abbrev homes : ℕ → Homes
  homes = homes_in (homes_of r (overlapped r))

  abbrev form : IsForm r (overlapped r) may k b
  form = is_form r (overlapped r) may k b (body_there r w k e there)

  abbrev moved : (i : ℕ) → 0 < left_by c i → get_or c.in_place i false ≡ false
  moved = form.chosen.moved

  abbrev pub doubles : Bool
  doubles = (choice_in (overlapped r) k).overlaps && twice

  flags_are : c.in_place ≡ e.1.in_place
  flags_are = flags_as r k ∙ in_place_is r w k e there

  its_leaves : (i : ℕ) → left_by c i ≡ leaves_of r k i
  its_leaves i = left_as r k i

  param_bytes : (i n : ℕ) (p : Param) (d : List ℕ) → i < length c.in_place → home_buffer (home_of first c i) ≡ Some n
      → slice_get its i ≡ Some p → slice_get e.1.extents i ≡ Some d → s.size n ≡ size_of p.elem d
  param_bytes i n p d less is at dims =
      let z : i ≡ 0 + i = omega arith in
      sizes.param i n less is ∙ ap (array_size b) z ∙ param_size r w k e there i p d at dims

  home_at : (i : ℕ) → i < length c.in_place → get_or (homes k).params i InPlace ≡ home_of first c i
  home_at i less =
      let z : 0 + i ≡ i = omega arith in
      ap (λ (hs : List Home). get_or hs i InPlace) form.params
      ∙ param_or (home_of first c) 0 (length c.in_place) i less ∙ ap (home_of first c) z

  both_so : (x y : Bool) → x ≡ true → (x && y) ≡ y
  both_so true y h = refl
  both_so false y h = absurd (let z : ◌≡◌ {A = Bool} false true = h in cc z)

  none_so : (x y : Bool) → x ≡ false → (x && y) ≡ false
  none_so false y h = refl
  none_so true y h = absurd (let z : ◌≡◌ {A = Bool} true false = h in cc z)

  is_zero : (n : ℕ) → n ≡ 0 → (n == 0) ≡ true
  is_zero n h = grind (arith, nat_tests, h)

  not_zero : (n m : ℕ) → n ≡ suc m → (n == 0) ≡ false
  not_zero n m h = by (n == 0) refl
    where
      by : (v : Bool) → (n == 0) ≡ v → v ≡ false
      by true g = absurd (let z : n ≡ 0 = grind (arith, nat_tests, g) in omega (arith, z, h))
      by false g = refl

  and_false : (x : Bool) → (x && false) ≡ false
  and_false true = refl
  and_false false = refl

  -- in place or not, and whether it leaves loops or not
  param_sum : (i : ℕ) (v : Bool) (p : Param) (d : List ℕ) → slice_get c.in_place i ≡ Some v → slice_get its i ≡ Some p
      → slice_get e.1.extents i ≡ Some d → (ms : List ℕ)
      → total s.size (either_buffer (home_of first c i) ms) ≡ part doubles v (leaves_of r k i) p d + total s.size ms
  param_sum i v p d flag at dims ms = by (home_by c moved first i) refl
    where
      less : i < length c.in_place
      less = within c.in_place i v flag

      is : get_or c.in_place i false ≡ v
      is = get_or_from_slice_get c.in_place i v false flag

      once_more : (t : Bool) → (doubles && leaves_of r k i == 0) ≡ t → v ≡ false
          → part doubles v (leaves_of r k i) p d ≡ size_of p.elem d + again_if t (size_of p.elem d)
      once_more t g h =
          ap₂ (λ (u x : Bool). if u then 0 else size_of p.elem d + again_if x (size_of p.elem d)) h g

      by : {h : Home} → HomeIs c moved first i h → home_of first c i ≡ h
          → total s.size (either_buffer h ms) ≡ part doubles v (leaves_of r k i) p d + total s.size ms
      by (stays g l) h =
          let nothing : part doubles v (leaves_of r k i) p d ≡ 0 =
          ap (λ (t : Bool). part doubles t (leaves_of r k i) p d) (sym is ∙ g) in
          omega (arith, nothing)
      by (owns g l o) h =
          let own = param_bytes i _ p d less (ap home_buffer h) at dims in
          let single : (doubles && leaves_of r k i == 0) ≡ false =
          ap (λ (t : Bool). t && leaves_of r k i == 0) (none_so c.overlaps twice o) in
          let whole = once_more false single (sym is ∙ g) in
          omega (arith, own, whole)
      by (owns_two g l o) h =
          let own = param_bytes i _ p d less (ap home_buffer h) at dims in
          let z : i ≡ 0 + i = omega arith in
          let array : array_size b i ≡ size_of p.elem d = ap (array_size b) z ∙ param_size r w k e there i p d at dims in
          let two = sizes.second i _ _ less h ∙ ap (λ (n : ℕ). if twice then n else 0) array in
          let zero_left : (leaves_of r k i == 0) ≡ true = is_zero (leaves_of r k i) (sym (its_leaves i) ∙ l) in
          let double : (doubles && leaves_of r k i == 0) ≡ twice =
          ap₂ (λ (x y : Bool). x && y) (both_so c.overlaps twice o) zero_left ∙ and_true twice in
          let whole = once_more twice double (sym is ∙ g) in
          omega (arith, own, two, whole)
        where
          and_true : (x : Bool) → (x && true) ≡ x
          and_true true = refl
          and_true false = refl
      by (leaves n g l) h =
          let own = param_bytes i _ p d less (ap home_buffer h) at dims in
          let some_left : (leaves_of r k i == 0) ≡ false = not_zero (leaves_of r k i) n (sym (its_leaves i) ∙ l) in
          let single : (doubles && leaves_of r k i == 0) ≡ false =
          ap (λ (t : Bool). doubles && t) some_left ∙ and_false doubles in
          let whole = once_more false single (sym is ∙ g) in
          omega (arith, own, whole)

  args_sum : (args : List Argument) → length args ≡ length e.1.in_place
      → total s.size (params_from (homes k).params 0 args)
      ≡ params_size its e.1.extents c.in_place + again_if doubles (staying_size (leaves_of r k) 0 its e.1.extents c.in_place)
  args_sum args many =
      params_sum s doubles (leaves_of r k) (homes k).params its e.1.extents c.in_place 0 args
      (many ∙ sym (ap length flags_are)) (sym (flags_many r w k e there) ∙ sym (ap length flags_are))
      (its_many r w k e there ∙ sym (ap length flags_are))
      (λ j v p d flag at dims ms.
      let z : 0 + j ≡ j = omega arith in
      subst (λ (i : ℕ). total s.size (either_buffer (get_or (homes k).params i InPlace) ms)
      ≡ part doubles v (leaves_of r k i) p d + total s.size ms) (sym z)
      (ap (λ (h : Home). total s.size (either_buffer h ms)) (home_at j (within c.in_place j v flag))
      ∙ param_sum j v p d flag at dims ms))

  behind : {A : Type 0} (xs ys : List A) → drop (length xs) (xs ++ ys) ≡ ys
  behind [] ys = refl
  behind (x ∷ xs) ys = behind xs ys

  shapes_many : (ps : List Param) (i : ℕ) (es : List (List ℕ)) → length (param_shapes ps i es) ≡ length ps
  shapes_many [] i es = refl
  shapes_many (p ∷ ps) i es = ap suc (shapes_many ps (i + 1) es)

  ends_sum : total s.size (local_buffers (locals_of b (homes k))) ≡ locals_size locals
  ends_sum =
      ap₂ (λ (xs : List Shape) (bs : List ℕ). total s.size (local_buffers (placed_locals xs bs))) shapes
      (form.locals ∙ ap (range_with_len (local_base first c)) many)
      ∙ locals_sum s locals (local_base first c) (λ j l h.
      let less = within locals j l h in
      let more = many in
      let z : length c.in_place + j ≡ 0 + (length e.1.in_place + j) = (let n = ap length flags_are in omega (arith, n)) in
      sizes.local j (omega (arith, less, more)) ∙ ap (array_size b) z ∙ local_size r w k e there j l h)
    where
      fronts : length (param_shapes its 0 e.1.extents) ≡ length c.in_place
      fronts = shapes_many its 0 e.1.extents ∙ its_many r w k e there ∙ sym (ap length flags_are)

      long : length (homes k).params ≡ length (param_shapes its 0 e.1.extents)
      long = params_many r (overlapped r) may k b form ∙ sym fronts

      shapes : drop (length (homes k).params) b.arrays ≡ local_shapes locals
      shapes = ap₂ (λ (n : ℕ) (xs : List Shape). drop n xs) long (shapes_are r w k e there)
          ∙ behind (param_shapes its 0 e.1.extents) (local_shapes locals)

      many : locals_count b.arrays c ≡ length locals
      many =
          let n = arrays_many r w k e there in
          let m = ap length flags_are in
          omega (arith, n, m)

  abbrev pub own : Form
  own = with_locals e.1 (run_of r w k e there).ran.scope.locals

  bytes_own : params_size its e.1.extents c.in_place
      + again_if doubles (staying_size (leaves_of r k) 0 its e.1.extents c.in_place) + locals_size locals
      ≡ own_size r.typed.now.tasks r.mapping.now.instances own
      + again_if doubles (staying_size (leaves_of r k) 0 (form_params r.typed.now.tasks r.mapping.now.instances own)
      own.extents own.in_place)
  bytes_own =
      let p = ap₂ (λ (ps : List Param) (bs : List Bool). params_size ps e.1.extents bs) (sym (params_are r w k e there))
      flags_are in
      let q = ap₂ (λ (ps : List Param) (bs : List Bool). again_if doubles (staying_size (leaves_of r k) 0 ps e.1.extents bs))
      (sym (params_are r w k e there)) flags_are in
      omega (arith, p, q)

  -- a call of the form
  pub brought_size : (row : CallInstance) → row.form ≡ k → length row.args ≡ length e.1.in_place
      → total s.size (brought (body_in (bodies_of r)) (homes_in (homes_of r (overlapped r))) row)
      ≡ own_size r.typed.now.tasks r.mapping.now.instances (with_locals e.1 (run_of r w k e there).ran.scope.locals)
      + (if (choice_in (overlapped r) k).overlaps && twice then staying_size (leaves_of r k) 0
      (form_params r.typed.now.tasks r.mapping.now.instances (with_locals e.1 (run_of r w k e there).ran.scope.locals))
      e.1.extents e.1.in_place else 0)
  brought_size row is many =
      ap (λ (m : ℕ). total s.size (params_from (homes m).params 0 row.args
      ++ local_buffers (locals_of (body_in (bodies_of r) m) (homes m)))) is
      ∙ ap (λ (y : FormBody). total s.size (params_from (homes k).params 0 row.args
      ++ local_buffers (locals_of y (homes k)))) form.body
      ∙ total_append s.size (params_from (homes k).params 0 row.args) (local_buffers (locals_of b (homes k)))
      ∙ ap₂ (λ n m. n + m) (args_sum row.args many) ends_sum
      ∙ bytes_own

  -- the entry's arrays stand in buffers of their own
  pub entry_size : k ≡ 0 → ((i : ℕ) (v : Bool) → slice_get e.1.in_place i ≡ Some v → v ≡ false)
      → total s.size (entry_of r (overlapped r) ++ local_buffers (locals_of (body_in (bodies_of r) 0)
      (homes_in (homes_of r (overlapped r)) 0)))
      ≡ own_size r.typed.now.tasks r.mapping.now.instances (with_locals e.1 (run_of r w k e there).ran.scope.locals)
  entry_size begins none =
      ap (λ (m : ℕ). total s.size (map buffer_or (homes m).params
      ++ local_buffers (locals_of (body_in (bodies_of r) m) (homes m)))) (sym begins)
      ∙ ap (λ (y : FormBody). total s.size (map buffer_or (homes k).params ++ local_buffers (locals_of y (homes k))))
      form.body
      ∙ total_append s.size (map buffer_or (homes k).params) (local_buffers (locals_of b (homes k)))
      ∙ ap₂ (λ n m. n + m) params ends_sum
      ∙ ap₂ (λ (ps : List Param) (bs : List Bool). params_size ps e.1.extents bs + locals_size locals)
      (sym (params_are r w k e there)) flags_are
    where
      own_size_at : (i : ℕ) (h : Home) (p : Param) (d : List ℕ) → slice_get (homes k).params i ≡ Some h
          → slice_get its i ≡ Some p → slice_get e.1.extents i ≡ Some d → s.size (buffer_or h) ≡ size_of p.elem d
      own_size_at i h p d at param dims =
          let o = entries_have_buffers r w (overlapped r) may i h
          (ap (λ (m : ℕ). slice_get (homes m).params i) (sym begins) ∙ at) in
          let its_home = param_is r (overlapped r) may k b form i h at in
          ap (λ (x : Home). s.size (buffer_or x)) o.is
          ∙ param_bytes i o.buffer p d its_home.less (ap home_buffer (its_home.is ∙ o.is)) param dims

      params : total s.size (map buffer_or (homes k).params) ≡ params_size its e.1.extents c.in_place
      params = owned_sum s its e.1.extents c.in_place (homes k).params
          (params_many r (overlapped r) may k b form) (sym (flags_many r w k e there) ∙ sym (ap length flags_are))
          (its_many r w k e there ∙ sym (ap length flags_are))
          (λ j v h. none j v (ap (λ (bs : List Bool). slice_get bs j) (sym flags_are) ∙ h))
          own_size_at
