-- The extents of a leaf's parameters, by its numbers, are those of its form.
use Rattle.std.proofs.Common.{◌≡◌, ℕ, suc, ◌+◌, ◌*◌, ◌^◌, ◌<◌, ◌≤◌, ℤ, pos, List, [], ◌∷◌, length, map, Option}
use Rattle.std.proofs.Common.{Some, None, option_map, refl, sym, ap, ap₂, ◌∙◌, subst, arith}
use Rattle.std.specs.Prelude.{slice_get}
use Rattle.std.specs.List.{All}
use Rattle.std.specs.Option.{option_and_then}
use Rattle.sq_rect.specs.Extents as rect
use Rattle.sq_ast.specs.declared.program.Extent.{Extent}
use Rattle.sq_ast.specs.declared.program.Extent.TheVariants as extent
use Rattle.sq_ast.specs.declared.program.Param.{Param}
use Rattle.sq_blocks.specs.Names.{Numbers, or_zero}
use Rattle.sq_forms.specs.Calls.{bind_from}
use Rattle.sq_forms.specs.Decls.{Scope, with_array, param_at, params_from, most_extent, most_elements}
use Rattle.sq_form_laws.proofs.Shapes.{KeptIn, IsBound, took_from}
use Rattle.sq_meant.specs.PlanGood.ProgramLaws.PlanLaws.Seated.{HasDims}
use Rattle.sq_meant.specs.PlanGood.ProgramLaws.Sizes.{IsSized}
use Rattle.sq_meant.proofs.PlanGood.DraftLaws.Dimensions.{ParamDims}
use Rattle.sq_planfile.specs.Sound.{product, AreExtents, AreExtentsOf, extent_value}
use Rattle.sq_compiled_laws.proofs.LeafNames.{all_none, all_more}
use Rattle.sq_compiled_laws.proofs.LeafSmall.{Small}

-- ---- within the limits

same_product : (ns : List ℕ) → rect.product ns ≡ product ns
same_product [] = refl
same_product (n ∷ ns) = ap (λ m. n * m) (same_product ns)

pub extent_limit : (n : ℕ) → n ≤ most_extent → n ≤ 2 ^ 24
unfolding most_extent
extent_limit n h = h

elements_limit : (n : ℕ) → n ≤ most_elements → n ≤ 2 ^ 26
unfolding most_elements
elements_limit n h = h

dims_count : (ns : List ℕ) → HasDims ns → (1 ≤ length ns) × (length ns ≤ 3)
dims_count [] h = absurd h
dims_count (a ∷ []) h = (omega arith, omega arith)
dims_count (a ∷ b ∷ []) h = (omega arith, omega arith)
dims_count (a ∷ b ∷ c ∷ []) h = (omega arith, omega arith)
dims_count (a ∷ b ∷ c ∷ d ∷ ns) h = absurd h

each_within : (ns : List ℕ) → All (λ n. 0 < n) ns → Small ns → All (λ n. (1 ≤ n) × (n ≤ 2 ^ 24)) ns
each_within ns some small k d lt =
    let a = some k d lt in
    (omega (arith, a), extent_limit _ (small k d lt))

pub extents_within : (ns : List ℕ) → IsSized ns → Small ns → AreExtents ns
extents_within ns sized small =
    let count = dims_count ns sized.dims in
    record {
      some = count.0;
      few = count.1;
      each = each_within ns sized.some small;
      elements = subst (λ m. m ≤ 2 ^ 26) (same_product ns) (elements_limit (rect.product ns) sized.few);
    }

-- ---- parameters

value_is : (e : Extent) (n : ℕ) (numbers last : Numbers) → KeptIn numbers last → IsBound numbers e n
    → extent_value last e ≡ pos n
value_is (extent.Size place name) n numbers last kept h = ap or_zero (kept name (pos n) h)
value_is (extent.Fixed place m) n numbers last kept h = h

abbrev Binds : Numbers → List Extent → List ℕ → Type 0
Binds numbers es ns = (j : ℕ) (e : Extent) → slice_get es j ≡ Some e → (n : ℕ) × (slice_get ns j ≡ Some n)
    × IsBound numbers e n

values_are : (es : List Extent) (ns : List ℕ) (numbers last : Numbers) → KeptIn numbers last → length ns ≡ length es
    → Binds numbers es ns → map (extent_value last) es ≡ map (λ n. pos n) ns
values_are [] [] numbers last kept many f = refl
values_are [] (n ∷ ns) numbers last kept many f = absurd (omega (arith, many))
values_are (e ∷ es) [] numbers last kept many f = absurd (omega (arith, many))
values_are (e ∷ es) (n ∷ ns) numbers last kept many f =
    let one = f 0 e refl in
    let same : n ≡ one.0 = cc one.1 in
    ap₂ (λ (z : ℤ) l. z ∷ l) (value_is e one.0 numbers last kept one.2 ∙ ap (λ m. pos m) (sym same))
    (values_are es ns numbers last kept (omega (arith, many)) (λ j d g. f (suc j) d g))

-- what is shown of a parameter, at these numbers
abbrev pub ParamFits : Numbers → Param → Type 0
ParamFits last p = AreExtentsOf (map (extent_value last) p.extents)

-- the numbers that parameters make, and what is shown of these
record Bound (numbers : Numbers) (t : Scope) (ps : List Param) : Type 0 where
  kept : KeptIn numbers t.numbers
  fit : (last : Numbers) → KeptIn t.numbers last → All (ParamFits last) ps

module _ (extents : List (List ℕ)) (within : (i : ℕ) (dims : List ℕ) → slice_get extents i ≡ Some dims → AreExtents dims)
  where
    abbrev ParamsRest : List Param → ℕ → Scope → Type 0
    ParamsRest ps i t = (u : Scope) → params_from u ps i extents ≡ Some t → Bound u.numbers t ps

    abbrev param_scope : Scope → Param → List ℕ → Numbers → Scope
    param_scope s p dims numbers = record {
      names = with_array s.names p.name (record { number = s.arrays; extents = dims });
      numbers = numbers;
      arrays = s.arrays + 1;
      locals = s.locals;
    }

    param_bound : (s t : Scope) (p : Param) (ps : List Param) (i : ℕ) (dims : List ℕ) → ParamsRest ps (i + 1) t
        → AreExtents dims → length dims ≡ length p.extents → (o : Option Numbers)
        → bind_from s.numbers p.extents 0 dims ≡ o
        → option_and_then (λ u. params_from u ps (i + 1) extents)
        (option_map (λ numbers. param_scope s p dims numbers) o) ≡ Some t → Bound s.numbers t (p ∷ ps)
    param_bound s t p ps i dims rest own many None e g = absurd (cc g)
    param_bound s t p ps i dims rest own many (Some mid) e g =
        let took = took_from dims p.extents s.numbers mid 0 e in
        let next = rest (param_scope s p dims mid) g in
        let binds : Binds mid p.extents dims = λ j d at.
        let b = took.each j d at in
        let z : 0 + j ≡ j = omega arith in
        (b.0, ap (slice_get dims) (sym z) ∙ b.1, b.2) in
        record {
          kept = λ name m h. next.kept name m (took.kept name m h);
          fit = λ last kept. all_more (ParamFits last) p ps
              (record {
                extents = dims;
                are = values_are p.extents dims mid last (λ name m h. kept name m (next.kept name m h)) many binds;
                within = own;
              }) (next.fit last kept);
        }

    param_there : (s t : Scope) (p : Param) (ps : List Param) (i : ℕ) → ParamsRest ps (i + 1) t
        → (o : Option (List ℕ)) → slice_get extents i ≡ o
        → ((dims : List ℕ) → o ≡ Some dims → length dims ≡ length p.extents)
        → option_and_then (λ u. params_from u ps (i + 1) extents) (param_at s p o) ≡ Some t
        → Bound s.numbers t (p ∷ ps)
    param_there s t p ps i rest None there f g = absurd (cc g)
    param_there s t p ps i rest (Some dims) there f g =
        param_bound s t p ps i dims rest (within i dims there) (f dims refl) (bind_from s.numbers p.extents 0 dims) refl g

    params_bound : (ps : List Param) (i : ℕ) (t s : Scope) → ParamDims ps i extents → params_from s ps i extents ≡ Some t
        → Bound s.numbers t ps
    params_bound [] i t s dims g =
        let is : s ≡ t = cc g in
        subst (λ (u : Scope). Bound s.numbers u []) is
        (record { kept = λ name m h. h; fit = λ last kept. all_none (ParamFits last) })
    params_bound (p ∷ ps) i t s dims g =
        let here : i + 0 ≡ i = omega arith in
        param_there s t p ps i
        (λ u h. params_bound ps (i + 1) t u
        (λ j q ds a b. let later : i + suc j ≡ i + 1 + j = omega arith in
        dims (suc j) q ds a (ap (slice_get extents) later ∙ b)) h)
        (slice_get extents i) refl (λ ds h. dims 0 p ds refl (ap (slice_get extents) here ∙ h)) g

    pub params_fit : (ps : List Param) (s t : Scope) → ParamDims ps 0 extents → params_from s ps 0 extents ≡ Some t
        → (last : Numbers) → KeptIn t.numbers last → All (ParamFits last) ps
    params_fit ps s t dims g last kept = (params_bound ps 0 t s dims g).fit last kept
