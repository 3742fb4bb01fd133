-- The bytes by which a form's room is judged are those of its parameters that aren't in place and of its locals; and those
-- that a loop that overlaps has twice are of what leaves no loop.
use Rattle.std.proofs.Common.{◌≡◌, ℕ, zero, suc, ◌+◌, ◌<◌, ◌==◌, ◌&&◌, ◌||◌, not, Bool, true, false, cond, List, []}
use Rattle.std.proofs.Common.{◌∷◌, ◌++◌, map, length, get_or, slice_get, Option, Some, refl, sym, ap, ap₂, subst, ◌∙◌, arith}
use Rattle.std.proofs.Common.{if◌then◌else◌}
use Rattle.std.specs.Prelude.{nat_lt}
use Rattle.std.specs.List.{filter, range_with_len}
use Rattle.std.proofs.lemmas.Bool.Decides.{nat_tests}
use Rattle.std.proofs.lemmas.List.{length-append, get_or_past}
use Rattle.std.proofs.lemmas.Option.{get_or_from_slice_get}
use Rattle.sq_ast.specs.declared.program.Param.{Param}
use Rattle.sq_ast.specs.declared.program.Variant.{Variant}
use Rattle.sq_ir.specs.Leaf.declared.shape.Shape.{Shape}
use Rattle.sq_forms.specs.Mappings.declared.mapping.Instance.{Instance}
use Rattle.sq_forms.specs.declared.form.Form.{Form}
use Rattle.sq_forms.specs.declared.form.Found.{Found}
use Rattle.sq_forms.specs.declared.form.LocalArray.{LocalArray}
use Rattle.sq_forms.specs.Resolving.{with_locals, params_of}
use Rattle.sq_forms.specs.Steps.{Key}
use Rattle.sq_spec.proofs.FormLaws.AnswerHold.{forms_are_found}
use Rattle.sq_spec.specs.FormLaws.Served.{FormRuns}
use Rattle.sq_spec.specs.declared.body.FormBody.{FormBody}
use Rattle.sq_spec.specs.declared.resolved.Resolved.{Resolved}
use Rattle.sq_spec.specs.Works.{param_shapes, local_shapes, shapes_of}
use Rattle.sq_spec_laws.specs.Needs.{size_of, params_size, locals_size, variant_for, form_params, own_size}
use Rattle.sq_plan_good.specs.Homes.Chosen.declared.choice.Choice.{Choice}
use Rattle.sq_plan_good.specs.Homes.Chosen.Arrays.{left_by, is_moved, others, standing, array_size, shape_size}
use Rattle.sq_plan_good.specs.Homes.Chosen.Forms.{choice_in, no_choice}
use Rattle.sq_plan_good.specs.DraftLaws.Choosing.{Walked}
use Rattle.sq_plan_good.proofs.DraftLaws.Forms.{body_at, resolving, run_of}
use Rattle.sq_plan_good.proofs.DraftLaws.Found.{found_plain}
use Rattle.sq_plan_good.proofs.ProgramLaws.RowsHold.{arrays_are}
use Rattle.sq_plan_good.proofs.ProgramLaws.Shapes.{param_shape}
use Rattle.sq_pass_laws.specs.Hoist.Choices.{hoisted, choices_from, choice_of, find_leaves, sites_of}
use Rattle.sq_pass_laws.specs.Pipe.Greedy.{sizes_of}
use Rattle.sq_pass_laws.specs.Pipe.Sums.{has_buffer, single_bytes}
use Rattle.sq_pass_laws.proofs.HoistPrograms.{choices_are_hoisted}
use Rattle.sq_pipe.proofs.Standing.{standing_bytes}
use Rattle.sq_overlap_laws.specs.Taken.{staying_size, leaves_of}

some_same : {A : Type 0} (x y : A) → Some x ≡ Some y → x ≡ y
some_same x y h = cc h

-- ---- lists

behind_at : {A : Type 0} (xs ys : List A) (j : ℕ) → slice_get (xs ++ ys) (length xs + j) ≡ slice_get ys j
behind_at [] ys j = let e : 0 + j ≡ j = omega arith in ap (slice_get ys) e
behind_at (x ∷ xs) ys j =
    let e : suc (length xs) + j ≡ suc (length xs + j) = omega arith in
    ap (slice_get (x ∷ (xs ++ ys))) e ∙ behind_at xs ys j

map_get : {A B : Type 0} (f : A → B) (xs : List A) (i : ℕ) (x : A) → slice_get xs i ≡ Some x
    → slice_get (map f xs) i ≡ Some (f x)
map_get f [] i x h = absurd (cc h)
map_get f (y ∷ xs) zero x h = let e : y ≡ x = cc h in ap (λ z. Some (f z)) e
map_get f (y ∷ xs) (suc i) x h = map_get f xs i x h

shapes_many : (ps : List Param) (i : ℕ) (es : List (List ℕ)) → length (param_shapes ps i es) ≡ length ps
shapes_many [] i es = refl
shapes_many (p ∷ ps) i es = ap suc (shapes_many ps (i + 1) es)

locals_many : (ls : List LocalArray) → length (local_shapes ls) ≡ length ls
locals_many [] = refl
locals_many (l ∷ ls) = ap suc (locals_many ls)

-- ---- sums

module _ (b : FormBody) where
  picked : (t : Bool) (i : ℕ) (is : List ℕ)
      → sizes_of b (cond t (i ∷ is) is) ≡ (if t then array_size b i else 0) + sizes_of b is
  picked true i is = refl
  picked false i is = omega arith

  -- of the locals, which all have buffers
  locals_sum : (has : ℕ → Bool) (ls : List LocalArray) (i : ℕ)
      → ((j : ℕ) (l : LocalArray) → slice_get ls j ≡ Some l → array_size b (i + j) ≡ size_of l.elem l.extents)
      → ((j : ℕ) → has (i + j) ≡ true)
      → sizes_of b (filter has (range_with_len i (length ls))) ≡ locals_size ls
  locals_sum has [] i size all = refl
  locals_sum has (l ∷ ls) i size all =
      let z : i + 0 ≡ i = omega arith in
      let first : array_size b i ≡ size_of l.elem l.extents = ap (array_size b) (sym z) ∙ size 0 l refl in
      let flag : has i ≡ true = ap has (sym z) ∙ all 0 in
      let later = filter has (range_with_len (i + 1) (length ls)) in
      let rest : sizes_of b later ≡ locals_size ls = locals_sum has ls (i + 1)
      (λ j m e. let y : i + 1 + j ≡ i + suc j = omega arith in ap (array_size b) y ∙ size (suc j) m e)
      (λ j. let y : i + 1 + j ≡ i + suc j = omega arith in ap has y ∙ all (suc j)) in
      picked (has i) i later ∙ ap (λ t. (if t then array_size b i else 0) + sizes_of b later) flag
      ∙ ap₂ (λ m n. m + n) first rest

  abbrev owned_if : (in_place : Bool) → Param → List ℕ → ℕ
  owned_if in_place p e = if not in_place then size_of p.elem e else 0

  owned_first : (v : Bool) (p : Param) (e : List ℕ) (ps : List Param) (es : List (List ℕ)) (flags : List Bool)
      → owned_if v p e + params_size ps es flags ≡ params_size (p ∷ ps) (e ∷ es) (v ∷ flags)
  owned_first true p e ps es flags = omega arith
  owned_first false p e ps es flags = refl

  -- of the parameters that aren't in place, and of the locals behind them
  own_sum : (has : ℕ → Bool) (ls : List LocalArray) (ps : List Param) (es : List (List ℕ)) (flags : List Bool) (i : ℕ)
      → length ps ≡ length flags → length es ≡ length flags
      → ((j : ℕ) (p : Param) (e : List ℕ) → slice_get ps j ≡ Some p → slice_get es j ≡ Some e
      → array_size b (i + j) ≡ size_of p.elem e)
      → ((j : ℕ) (v : Bool) → slice_get flags j ≡ Some v → has (i + j) ≡ not v)
      → ((j : ℕ) (l : LocalArray) → slice_get ls j ≡ Some l
      → array_size b (i + (length flags + j)) ≡ size_of l.elem l.extents)
      → ((j : ℕ) → has (i + (length flags + j)) ≡ true)
      → sizes_of b (filter has (range_with_len i (length flags + length ls))) ≡ params_size ps es flags + locals_size ls
  own_sum has ls [] [] [] i many as_many size test local all =
      let z : 0 + length ls ≡ length ls = omega arith in
      let none : locals_size ls ≡ 0 + locals_size ls = omega arith in
      ap (λ n. sizes_of b (filter has (range_with_len i n))) z
      ∙ locals_sum has ls i
      (λ j l e. let y : i + j ≡ i + (0 + j) = omega arith in ap (array_size b) y ∙ local j l e)
      (λ j. let y : i + j ≡ i + (0 + j) = omega arith in ap has y ∙ all j)
      ∙ none
  own_sum has ls [] (e ∷ es) [] i many as_many size test local all = absurd (omega (arith, as_many))
  own_sum has ls (p ∷ ps) es [] i many as_many size test local all = absurd (omega (arith, many))
  own_sum has ls [] es (v ∷ flags) i many as_many size test local all = absurd (omega (arith, many))
  own_sum has ls (p ∷ ps) [] (v ∷ flags) i many as_many size test local all = absurd (omega (arith, as_many))
  own_sum has ls (p ∷ ps) (e ∷ es) (v ∷ flags) i many as_many size test local all =
      let z : i + 0 ≡ i = omega arith in
      let m : suc (length flags) + length ls ≡ suc (length flags + length ls) = omega arith in
      let first : array_size b i ≡ size_of p.elem e = ap (array_size b) (sym z) ∙ size 0 p e refl refl in
      let flag : has i ≡ not v = ap has (sym z) ∙ test 0 v refl in
      let later = filter has (range_with_len (i + 1) (length flags + length ls)) in
      let rest : sizes_of b later ≡ params_size ps es flags + locals_size ls = own_sum has ls ps es flags (i + 1)
      (omega (arith, many)) (omega (arith, as_many))
      (λ j q d s t. let y : i + 1 + j ≡ i + suc j = omega arith in ap (array_size b) y ∙ size (suc j) q d s t)
      (λ j u s. let y : i + 1 + j ≡ i + suc j = omega arith in ap has y ∙ test (suc j) u s)
      (λ j l s. let y : i + 1 + (length flags + j) ≡ i + (suc (length flags) + j) = omega arith in
      ap (array_size b) y ∙ local j l s)
      (λ j. let y : i + 1 + (length flags + j) ≡ i + (suc (length flags) + j) = omega arith in ap has y ∙ all j) in
      let sum : (if has i then array_size b i else 0) ≡ owned_if v p e =
      ap₂ (λ t n. if t then n else 0) flag first in
      let whole = owned_first v p e ps es flags in
      let step = picked (has i) i later in
      ap (λ n. sizes_of b (filter has (range_with_len i n))) m ∙ omega (arith, step, sum, rest, whole)

  -- of those that leave no loop
  staying_sum : (has : ℕ → Bool) (leaves : ℕ → ℕ) (ps : List Param) (es : List (List ℕ)) (flags : List Bool) (i : ℕ)
      → length ps ≡ length flags → length es ≡ length flags
      → ((j : ℕ) (p : Param) (e : List ℕ) → slice_get ps j ≡ Some p → slice_get es j ≡ Some e
      → array_size b (i + j) ≡ size_of p.elem e)
      → ((j : ℕ) (v : Bool) → slice_get flags j ≡ Some v → has (i + j) ≡ (not v && leaves (i + j) == 0))
      → sizes_of b (filter has (range_with_len i (length flags))) ≡ staying_size leaves i ps es flags
  staying_sum has leaves [] [] [] i many as_many size test = refl
  staying_sum has leaves [] (e ∷ es) [] i many as_many size test = absurd (omega (arith, as_many))
  staying_sum has leaves (p ∷ ps) es [] i many as_many size test = absurd (omega (arith, many))
  staying_sum has leaves [] es (v ∷ flags) i many as_many size test = absurd (omega (arith, many))
  staying_sum has leaves (p ∷ ps) [] (v ∷ flags) i many as_many size test = absurd (omega (arith, as_many))
  staying_sum has leaves (p ∷ ps) (e ∷ es) (v ∷ flags) i many as_many size test =
      let z : i + 0 ≡ i = omega arith in
      let first : array_size b i ≡ size_of p.elem e = ap (array_size b) (sym z) ∙ size 0 p e refl refl in
      let flag : has i ≡ (not v && leaves i == 0) =
      subst (λ n. has n ≡ (not v && leaves n == 0)) z (test 0 v refl) in
      let later = filter has (range_with_len (i + 1) (length flags)) in
      let rest : sizes_of b later ≡ staying_size leaves (i + 1) ps es flags =
      staying_sum has leaves ps es flags (i + 1) (omega (arith, many)) (omega (arith, as_many))
      (λ j q d s t. let y : i + 1 + j ≡ i + suc j = omega arith in ap (array_size b) y ∙ size (suc j) q d s t)
      (λ j u s. let y : i + 1 + j ≡ i + suc j = omega arith in
      subst (λ n. has n ≡ (not u && leaves n == 0)) (sym y) (test (suc j) u s)) in
      picked (has i) i later
      ∙ ap₂ (λ t n. (if t then n else 0) + sizes_of b later) flag first
      ∙ ap (λ n. (if not v && leaves i == 0 then size_of p.elem e else 0) + n) rest
      ∙ by v
    where
      by : (u : Bool) → (if not u && leaves i == 0 then size_of p.elem e else 0) + staying_size leaves (i + 1) ps es flags
          ≡ staying_size leaves i (p ∷ ps) (e ∷ es) (u ∷ flags)
      by true = omega arith
      by false = refl

-- ---- what hoisting chose

chosen_in : (found : ℕ → Option (List ℕ)) (k : ℕ) (fs : List Form) (j : ℕ) (f : Form) → slice_get fs j ≡ Some f
    → get_or (choices_from found k fs) j no_choice ≡ choice_of (found (k + j)) f
chosen_in found k [] j f h = absurd (cc h)
chosen_in found k (g ∷ fs) zero f h =
    let z : k ≡ k + 0 = omega arith in
    let is : g ≡ f = cc h in
    ap₂ (λ n x. choice_of (found n) x) z is
chosen_in found k (g ∷ fs) (suc j) f h =
    let z : suc k + j ≡ k + suc j = omega arith in
    chosen_in found (suc k) fs j f h ∙ ap (λ n. choice_of (found n) f) z

module _ (r : Resolved) (k : ℕ) (f : Form) (there : slice_get r.forms k ≡ Some f) where
  hoisted_is : choice_in (hoisted r) k ≡ choice_of (find_leaves (sites_of r) (0 + k)) f
  hoisted_is = chosen_in (find_leaves (sites_of r)) 0 r.forms k f there

  pub hoisted_in_place : (choice_in (hoisted r) k).in_place ≡ f.in_place
  hoisted_in_place = ap (λ (c : Choice). c.in_place) hoisted_is

  pub hoisted_overlaps : (choice_in (hoisted r) k).overlaps ≡ false
  hoisted_overlaps = ap (λ (c : Choice). c.overlaps) hoisted_is

-- ---- a form

none_left : (n : ℕ) → (0 < n → ⊥) → nat_lt 0 n ≡ false
none_left n h = by (nat_lt 0 n) refl
  where
    by : (v : Bool) → nat_lt 0 n ≡ v → v ≡ false
    by true e = let z : 0 < n = grind (arith, nat_tests, e) in absurd (h z)
    by false e = refl

module _ (r : Resolved) (w : Walked r) (k : ℕ) (e : Key × Found) (there : slice_get r.found.entries k ≡ Some e) where
  abbrev tasks : List Variant
  tasks = r.typed.now.tasks

  abbrev places : List Instance
  places = r.mapping.now.instances

  abbrev run : FormRuns r.typed.now r.mapping.now (resolving r) k e.1
  run = run_of r w k e there

  abbrev its : List Param
  its = run.fits.variant.params

  abbrev locals : List LocalArray
  locals = run.ran.scope.locals

  abbrev pub own : Form
  own = with_locals e.1 (run_of r w k e there).ran.scope.locals

  abbrev b : FormBody
  b = body_at r k

  abbrev c : Choice
  c = choice_in (hoisted r) k

  pub in_place_is : (choice_in (hoisted r) k).in_place ≡ e.1.in_place
  in_place_is = hoisted_in_place r k own run.ran.kept

  pub shapes_are : (body_at r k).arrays
      ≡ shapes_of (run_of r w k e there).fits.variant e.1 (run_of r w k e there).ran.scope
  shapes_are = arrays_are r.typed.now r.machine.now.levels r.mapping.now w.faultless w.read (resolving r) w.through k e
      there run

  pub flags_many : length e.1.in_place ≡ length e.1.extents
  flags_many = (found_plain r.typed.now r.machine.now.levels r.mapping.now w.read (resolving r) w.through k e there).flags

  pub its_many : length (run_of r w k e there).fits.variant.params ≡ length e.1.in_place
  its_many = sym run.fits.many ∙ sym flags_many

  pub arrays_many : length (body_at r k).arrays
      ≡ length e.1.in_place + length (run_of r w k e there).ran.scope.locals
  arrays_many =
      let n = ap length shapes_are in
      let m = length-append (param_shapes its 0 e.1.extents) (local_shapes locals) in
      let a = shapes_many its 0 e.1.extents in
      let l = locals_many locals in
      let i = its_many in
      omega (arith, n, m, a, l, i)

  size_at : (i : ℕ) (x : Shape) → slice_get (shapes_of run.fits.variant e.1 run.ran.scope) i ≡ Some x
      → array_size b i ≡ shape_size x
  size_at i x h =
      ap shape_size (get_or_from_slice_get b.arrays i x _ (ap (λ (l : List Shape). slice_get l i) shapes_are ∙ h))

  pub param_size : (i : ℕ) (p : Param) (d : List ℕ)
      → slice_get (run_of r w k e there).fits.variant.params i ≡ Some p → slice_get e.1.extents i ≡ Some d
      → array_size (body_at r k) (0 + i) ≡ size_of p.elem d
  param_size i p d at dims =
      let z : 0 + i ≡ i = omega arith in
      let to = param_shape run.fits.variant e.1 run.ran.scope i p d at dims in
      ap (array_size b) z ∙ size_at i to.to to.there ∙ ap₂ size_of to.elem to.extents

  pub local_size : (j : ℕ) (l : LocalArray) → slice_get (run_of r w k e there).ran.scope.locals j ≡ Some l
      → array_size (body_at r k) (0 + (length e.1.in_place + j)) ≡ size_of l.elem l.extents
  local_size j l h =
      let fronts : length (param_shapes its 0 e.1.extents) ≡ length e.1.in_place =
      shapes_many its 0 e.1.extents ∙ its_many in
      let z : 0 + (length e.1.in_place + j) ≡ length (param_shapes its 0 e.1.extents) + j = omega (arith, fronts) in
      ap (array_size b) z
      ∙ size_at (length (param_shapes its 0 e.1.extents) + j) (record { elem = l.elem; extents = l.extents })
      (behind_at (param_shapes its 0 e.1.extents) (local_shapes locals) j
      ∙ map_get (λ (x : LocalArray). record { elem = x.elem; extents = x.extents }) locals j l h)

  flag_at : (i : ℕ) (v : Bool) → slice_get e.1.in_place i ≡ Some v → get_or c.in_place i false ≡ v
  flag_at i v h =
      ap (λ (l : List Bool). get_or l i false) in_place_is ∙ get_or_from_slice_get e.1.in_place i v false h

  moved : (i : ℕ) → 0 < left_by c i → get_or c.in_place i false ≡ false
  moved = ((choices_are_hoisted r w).each k own run.ran.kept).moved

  buffer_by : (i : ℕ) (v : Bool) → get_or c.in_place i false ≡ v → has_buffer c i ≡ not v
  buffer_by i true h =
      let none = none_left (left_by c i) (λ l. absurd (let z : true ≡ false = sym h ∙ moved i l in cc z)) in
      ap₂ (λ u v. not u || v) h none
  buffer_by i false h = ap (λ u. not u || nat_lt 0 (left_by c i)) h

  buffer_at : (i : ℕ) (v : Bool) → slice_get e.1.in_place i ≡ Some v → has_buffer c (0 + i) ≡ not v
  buffer_at i v h = let z : 0 + i ≡ i = omega arith in ap (has_buffer c) z ∙ buffer_by i v (flag_at i v h)

  buffer_past : (j : ℕ) → has_buffer c (0 + (length e.1.in_place + j)) ≡ true
  buffer_past j =
      let z : 0 + (length e.1.in_place + j) ≡ length e.1.in_place + j = omega arith in
      let n = ap length in_place_is in
      ap (has_buffer c) z
      ∙ buffer_by (length e.1.in_place + j) false (get_or_past c.in_place (length e.1.in_place + j) false (omega (arith, n)))

  pub params_are : form_params r.typed.now.tasks r.mapping.now.instances
      (with_locals e.1 (run_of r w k e there).ran.scope.locals) ≡ (run_of r w k e there).fits.variant.params
  params_are = ap params_of (ap (variant_for tasks) run.fits.there ∙ run.fits.runs)

  single : single_bytes b c ≡ params_size its e.1.extents e.1.in_place + locals_size locals
  single =
      ap (λ n. sizes_of b (filter (has_buffer c) (range_with_len 0 n))) arrays_many
      ∙ own_sum b (has_buffer c) locals its e.1.extents e.1.in_place 0 its_many (sym flags_many) param_size buffer_at
      local_size buffer_past

  pub own_bytes : sizes_of (body_at r k) (standing (body_at r k) (choice_in (hoisted r) k))
      ≡ own_size r.typed.now.tasks r.mapping.now.instances (with_locals e.1 (run_of r w k e there).ran.scope.locals)
  own_bytes =
      let m = ap length in_place_is in
      let all = arrays_many in
      let none : (if c.overlaps then sizes_of b (others c) else 0) ≡ 0 =
      ap (λ t. if t then sizes_of b (others c) else 0) (hoisted_overlaps r k own run.ran.kept) in
      let stands = standing_bytes b c (omega (arith, m, all)) in
      let s = single in
      let sum : sizes_of b (standing b c) ≡ params_size its e.1.extents e.1.in_place + locals_size locals =
      omega (arith, none, stands, s) in
      sum ∙ ap (λ (ps : List Param). params_size ps e.1.extents e.1.in_place + locals_size locals) (sym params_are)

  moved_at : (i : ℕ) (v : Bool) → slice_get e.1.in_place i ≡ Some v
      → is_moved c (0 + i) ≡ (not v && leaves_of r k (0 + i) == 0)
  moved_at i v h =
      let z : i ≡ 0 + i = omega arith in
      ap (λ t. not t && left_by c (0 + i) == 0) (ap (λ n. get_or c.in_place n false) (sym z) ∙ flag_at i v h)

  pub more_bytes : sizes_of (body_at r k) (others (choice_in (hoisted r) k))
      ≡ staying_size (leaves_of r k) 0
      (form_params r.typed.now.tasks r.mapping.now.instances (with_locals e.1 (run_of r w k e there).ran.scope.locals))
      e.1.extents e.1.in_place
  more_bytes =
      ap (λ n. sizes_of b (filter (is_moved c) (range_with_len 0 n))) (ap length in_place_is)
      ∙ staying_sum b (is_moved c) (leaves_of r k) its e.1.extents e.1.in_place 0 its_many (sym flags_many) param_size
      moved_at
      ∙ ap (λ (ps : List Param). staying_size (leaves_of r k) 0 ps e.1.extents e.1.in_place) (sym params_are)

-- of a form by its number
module _ (r : Resolved) (w : Walked r) (k : ℕ) (f : Form) (there : slice_get r.forms k ≡ Some f) where
  abbrev owns : Form → Type 0
  owns g = sizes_of (body_at r k) (standing (body_at r k) (choice_in (hoisted r) k))
      ≡ own_size r.typed.now.tasks r.mapping.now.instances g

  abbrev doubles : Form → Type 0
  doubles g = sizes_of (body_at r k) (others (choice_in (hoisted r) k))
      ≡ staying_size (leaves_of r k) 0 (form_params r.typed.now.tasks r.mapping.now.instances g) g.extents g.in_place

  pub form_owns : sizes_of (body_at r k) (standing (body_at r k) (choice_in (hoisted r) k))
      ≡ own_size r.typed.now.tasks r.mapping.now.instances f
  form_owns =
      let e = forms_are_found r.typed.now.tasks r.mapping.now (resolving r) w.through k f there in
      let same = some_same _ f (sym (run_of r w k e.found e.there).ran.kept ∙ there) in
      subst owns same (own_bytes r w k e.found e.there)

  pub form_doubles : sizes_of (body_at r k) (others (choice_in (hoisted r) k))
      ≡ staying_size (leaves_of r k) 0 (form_params r.typed.now.tasks r.mapping.now.instances f) f.extents f.in_place
  form_doubles =
      let e = forms_are_found r.typed.now.tasks r.mapping.now (resolving r) w.through k f there in
      let same = some_same _ f (sym (run_of r w k e.found e.there).ran.kept ∙ there) in
      subst doubles same (more_bytes r w k e.found e.there)
