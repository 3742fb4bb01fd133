-- The views of a program's plan are such as a line may have, and what it fills rows with is a number of 64 bits.
use Rattle.std.proofs.Common.{◌≡◌, ℕ, zero, suc, ◌*◌, ◌<◌, ◌≤◌, ◌^◌, ℤ, pos, Ok, Result, List, [], ◌∷◌, map, length, slice_get, Some, option_map, refl, sym, ap, ◌∙◌, subst, arith}
use Rattle.std.specs.List.{All}
use Rattle.std.proofs.Math.Nat.{mul-le-mul_right}
use Rattle.sq_ast.specs.declared.program.Decl.{Decl}
use Rattle.sq_ast.specs.declared.program.Decl.TheVariants as decl
use Rattle.sq_ast.specs.declared.program.Extent.{Extent}
use Rattle.sq_ast.specs.declared.program.Extent.TheVariants as extent
use Rattle.sq_ast.specs.declared.program.Param.{Param}
use Rattle.sq_blocks.specs.Names.{Numbers}
use Rattle.sq_blocks.specs.Constants.{Bad, worth}
use Rattle.sq_rect.specs.Extents.{product, row_major}
use Rattle.sq_leaf.specs.Rect.declared.view.View.{View}
use Rattle.sq_forms.specs.Decls.{most_elements}
use Rattle.sq_ir.specs.declared.num.Num.{Num}
use Rattle.sq_ir.specs.declared.term.LeafView.{LeafView}
use Rattle.sq_ir.specs.declared.term.Action.{Action}
use Rattle.sq_ir.specs.declared.term.Action.TheVariants as action
use Rattle.sq_ir.specs.declared.plan.Leaf.{Leaf}
use Rattle.sq_ir.specs.declared.plan.Plan.{Plan}
use Rattle.sq_ir.specs.DraftLeaves.{nat_of, extent_of, param_shape, nat_worth, local_shapes, shapes_of, leaves_of}
use Rattle.sq_ir.specs.Events as events
use Rattle.sq_ir.specs.Events.{shape_of}
use Rattle.sq_ir.specs.Unordered.{AllEvents}
use Rattle.sq_ir.specs.Written.{Setting, Env, at_root, count_of, view_of, event_of, written as tree_written}
use Rattle.sq_ir.specs.Plans.{IsAllowed, Meets, setting_of, tree_of}
use Rattle.sq_spec.specs.declared.body.FormBody.{FormBody}
use Rattle.sq_spec.specs.declared.resolved.Resolved.{Resolved}
use Rattle.sq_meant.proofs.PlanGood.DraftLaws.WalkedHolds.{walked_is_there}
use Rattle.sq_meant.specs.PlanGood.DraftLaws.Choosing.{Walked, MayBeChosen}
use Rattle.sq_meant.specs.PlanGood.DraftLaws.ProgramLaws.Sizes.{IsSized}
use Rattle.sq_meant.specs.PlanGood.Good.{shapes_in, IsWrittenOut}
use Rattle.sq_meant.specs.PlanGood.Homes.Chosen.declared.choice.Choice.{Choice}
use Rattle.sq_meant.specs.PlanGood.Homes.Chosen.Forms.{bodies_of}
use Rattle.sq_meant.specs.PlanGood.Homes.Drafts.{homes_of, args_of}
use Rattle.sq_meant.specs.PlanGood.Term.Placed.Tables.{entry_placed}
use Rattle.sq_meant.specs.PlanGood.Term.Terms.{body_in, homes_in}
use Rattle.sq_meant.proofs.PlanGood.DraftLaws.Back.{joined, meets_less, scoped_all}
use Rattle.sq_meant.proofs.PlanGood.DraftLaws.Forms.{body_at, bodies_are, sized}
use Rattle.sq_planfile.specs.File.{PlanFile}
use Rattle.sq_planfile.specs.Files.{numbers_of}
use Rattle.sq_planfile.specs.Sound.{AreExtents, AreExtentsOf, extent_value, IsLocal, IsLeafText, IsViewText, AreViewTexts}
use Rattle.sq_planfile.specs.Written.{text_of, view_text, event_text}
use Rattle.sq_filed_laws.specs.WrittenLaws.Again.{HasViewTexts}
use Rattle.sq_compiled_laws.specs.Compiled.{IsCompiled, HasSoundLeaves}
use Rattle.sq_compiled_laws.proofs.Each.{Each, all, each, both, of_map}
use Rattle.sq_compiled_laws.proofs.Fine.{IsFew, IsFine, IsSmallShape, take_small, plan_is_fine, entry_is_small}
use Rattle.sq_compiled_laws.proofs.ReadableTerms.{IsFilled}

-- ---- strides

pub each_by : {A : Type 0} (P : A → Type 0) (xs : List A) → ((i : ℕ) (x : A) → slice_get xs i ≡ Some x → P x) → Each P xs
each_by P [] h = tt
each_by P (x ∷ xs) h = (h 0 x refl, each_by P xs (λ i y e. h (suc i) y e))

some_more : (n k : ℕ) → 0 < n → k ≤ n * k
some_more n k h = let one : 1 ≤ n = omega (arith, h) in let rows : 1 * k ≤ n * k = mul-le-mul_right k one in omega (arith, rows)

small_strides : (most : ℕ) (ns : List ℕ) → All (λ k. 0 < k) ns → product ns ≤ most → Each (λ k. k ≤ most) (row_major ns)
small_strides most [] some h = tt
small_strides most (n ∷ ns) some h =
    let rest = some_more n (product ns) (some 0 n (omega arith)) in
    let few : product ns ≤ most = omega (arith, rest, h) in
    (few, small_strides most ns (λ k d lt. some (suc k) d (omega (arith, lt))) few)

few_all : (ns : List ℕ) → Each (λ k. k ≤ most_elements) ns → Each IsFew ns
unfolding most_elements
few_all [] h = tt
few_all (n ∷ ns) h = let l = h.0 in (omega (arith, l), few_all ns h.1)

sized_small : (ns : List ℕ) → IsSized ns → Each IsFew (row_major ns)
sized_small ns h = few_all (row_major ns) (small_strides most_elements ns h.some h.few)

module _ (r : Resolved) (w : Walked r) where
  pub bodies_small : (k : ℕ) → Each IsSmallShape (body_in (bodies_of r) k).arrays
  bodies_small k =
      subst (λ (b : FormBody). Each IsSmallShape b.arrays) (sym (bodies_are r w k))
      (each_by IsSmallShape (body_at r k).arrays (λ i x e. sized_small x.extents (sized r w k i x e)))

-- ---- the shapes of leaves

pub record AreDims (ns : List ℕ) : Type 0 where
  pub some : 1 ≤ length ns
  pub few : length ns ≤ 3
  pub each : All (λ n. n < 2 ^ 32) ns

dims_of : (ns : List ℕ) → AreExtents ns → AreDims ns
dims_of ns h = record { some = h.some; few = h.few; each = λ k d lt. let x = (h.each k d lt).1 in omega (arith, x) }

value_is : (numbers : Numbers) (x : Extent) → extent_of numbers x ≡ nat_of (extent_value numbers x)
value_is numbers (extent.Size place name) = refl
value_is numbers (extent.Fixed place n) = refl

numbers_back : (numbers : Numbers) (xs : List Extent) (es : List ℕ) → map (extent_value numbers) xs ≡ map (λ n. pos n) es
    → map (extent_of numbers) xs ≡ es
numbers_back numbers [] [] h = refl
numbers_back numbers [] (e ∷ es) h = absurd (cc h)
numbers_back numbers (x ∷ xs) [] h = absurd (cc h)
numbers_back numbers (x ∷ xs) (e ∷ es) h =
    let first : extent_value numbers x ≡ pos e = cc h in
    let rest : map (extent_value numbers) xs ≡ map (λ n. pos n) es = cc h in
    let one : extent_of numbers x ≡ e = value_is numbers x ∙ ap nat_of first in
    ap (λ k. k ∷ map (extent_of numbers) xs) one ∙ ap (λ ks. e ∷ ks) (numbers_back numbers xs es rest)

worths_back : {X : Type 0} (f : X → Result ℤ Bad) (xs : List X) (vs : List ℤ) (es : List ℕ) → map f xs ≡ map (λ n. Ok n) vs → vs ≡ map (λ n. pos n) es
    → map (λ x. nat_worth (f x)) xs ≡ es
worths_back f [] [] [] h g = refl
worths_back f [] [] (e ∷ es) h g = absurd (cc g)
worths_back f [] (v ∷ vs) es h g = absurd (cc h)
worths_back f (x ∷ xs) [] es h g = absurd (cc h)
worths_back f (x ∷ xs) (v ∷ vs) [] h g = absurd (cc g)
worths_back f (x ∷ xs) (v ∷ vs) (e ∷ es) h g =
    let first : f x ≡ Ok v = cc h in
    let rest : map f xs ≡ map (λ n. Ok n) vs = cc h in
    let value : v ≡ pos e = cc g in
    let later : vs ≡ map (λ n. pos n) es = cc g in
    let one : nat_worth (f x) ≡ e = ap nat_worth first ∙ ap nat_of value in
    ap (λ k. k ∷ map (λ y. nat_worth (f y)) xs) one ∙ ap (λ ks. e ∷ ks) (worths_back f xs vs es rest later)

module _ (numbers : Numbers) where
  abbrev IsDimmed : events.Shape → Type 0
  IsDimmed s = AreDims s.extents

  params_dimmed : (ps : List Param) → Each (λ (p : Param). AreExtentsOf (map (extent_value numbers) p.extents)) ps
      → Each IsDimmed (map (param_shape numbers) ps)
  params_dimmed [] h = tt
  params_dimmed (p ∷ ps) h = (
    subst AreDims (sym (numbers_back numbers p.extents h.0.extents h.0.are)) (dims_of h.0.extents h.0.within),
    params_dimmed ps h.1,
  )

  locals_dimmed : (ds : List Decl) → Each (IsLocal numbers) ds → Each IsDimmed (local_shapes numbers ds)
  locals_dimmed [] h = tt
  locals_dimmed (decl.Tunable place name ∷ ds) h = locals_dimmed ds h.1
  locals_dimmed (decl.List place name ∷ ds) h = locals_dimmed ds h.1
  locals_dimmed (decl.Local place elem name es ∷ ds) h =
      let its = h.0.of_local place elem name es refl in (
        subst AreDims (sym (worths_back (λ e. worth e numbers []) es its.0 its.2.extents its.1 its.2.are)) (dims_of its.2.extents its.2.within),
        locals_dimmed ds h.1,
      )
  locals_dimmed (decl.Rchop place name array sizes ∷ ds) h = locals_dimmed ds h.1
  locals_dimmed (decl.Ichop place name array starts ends ∷ ds) h = locals_dimmed ds h.1

abbrev pub HasDims : List events.Shape → Type 0
HasDims ss = Each (λ (s : events.Shape). AreDims s.extents) ss

leaf_dimmed : (l : Leaf) → numbers_of (text_of l) ≡ l.code.numbers → IsLeafText (text_of l) → HasDims (shapes_of l.code)
leaf_dimmed l same h =
    let params = subst (λ (n : Numbers). Each (λ (p : Param). AreExtentsOf (map (extent_value n) p.extents)) l.code.variant.params) same
    (each (λ (p : Param). AreExtentsOf (map (extent_value (numbers_of (text_of l))) p.extents)) l.code.variant.params h.params) in
    let locals = subst (λ (n : Numbers). Each (IsLocal n) l.code.variant.decls) same (each (IsLocal (numbers_of (text_of l))) l.code.variant.decls h.locals) in
    both (λ (s : events.Shape). AreDims s.extents) (map (param_shape l.code.numbers) l.code.variant.params) (local_shapes l.code.numbers l.code.variant.decls)
    (params_dimmed l.code.numbers l.code.variant.params params) (locals_dimmed l.code.numbers l.code.variant.decls locals)

some_same : {A : Type 0} {x y : A} → Some x ≡ Some y → x ≡ y
some_same e = cc e

-- of the leaf of a number
code_dimmed : (ls : List Leaf) → Each (λ (l : Leaf). numbers_of (text_of l) ≡ l.code.numbers) ls → Each IsLeafText (map text_of ls) → (code : ℕ) (ss : List events.Shape)
    → option_map shapes_of (option_map (λ (l : Leaf). l.code) (slice_get ls code)) ≡ Some ss → HasDims ss
code_dimmed [] same h code ss e = absurd (cc e)
code_dimmed (l ∷ ls) same h zero ss e = subst HasDims (some_same e) (leaf_dimmed l same.0 h.0)
code_dimmed (l ∷ ls) same h (suc code) ss e = code_dimmed ls same.1 h.1 code ss e

-- ---- events

module _ (f : PlanFile) (leaves : HasSoundLeaves f) where
  abbrev p : Plan
  p = f.plan

  abbrev S : Setting
  S = setting_of p

  texts : (count : Num → ℕ) (env : Env) (vs : List LeafView) → Each (λ (v : View). AreDims v.extents) (map (view_of S env) vs)
      → Each (λ (v : View). Each IsFew v.strides) (map (view_of S env) vs) → Each (λ (v : View). length v.strides ≡ length v.extents) (map (view_of S env) vs)
      → Each IsViewText (map (view_text count) vs)
  texts count env [] d s l = tt
  texts count env (v ∷ vs) d s l = (
    record {
      some = d.0.some;
      few = d.0.few;
      alike = l.0;
      extents = d.0.each;
      strides = all IsFew v.strides s.0;
    },
    texts count env vs d.1 s.1 l.1,
  )

  abbrev Asked : Env → List ℕ → Action → Type 0
  Asked env bs a = (IsAllowed (leaves_of p.draft) S env bs a × AreViewTexts (event_text (λ n. count_of S n env) a)) × IsFilled a

  join : (env : Env) (bs : List ℕ) (a : Action) → IsAllowed (leaves_of p.draft) S env bs a → IsAllowed (leaves_of p.draft) S env bs a
      → IsFine (event_of S env a) → Asked env bs a
  join env bs (action.CopyRow from to bytes) h k g = ((h, tt), tt)
  join env bs (action.FillRow to e n value) h k g = ((h, tt), g)
  join env bs (action.AccRow op e from to n) h k g = ((h, tt), tt)
  join env bs (action.Leaf code views path) h k g =
      let vs = map (view_of S env) views in
      let dims = code_dimmed p.draft.leaves (each (λ (l : Leaf). numbers_of (text_of l) ≡ l.code.numbers) p.draft.leaves leaves.numbers)
      (each IsLeafText (map text_of p.draft.leaves) leaves.sound) code (map shape_of vs) h.event.shapes in (
        (
          h,
          all IsViewText (map (view_text (λ n. count_of S n env)) views)
              (texts (λ n. count_of S n env) env views (of_map (λ (s : events.Shape). AreDims s.extents) shape_of vs dims) g
              (each (λ (v : View). length v.strides ≡ length v.extents) vs h.event.strides)),
        ),
        tt,
      )

  -- the events of its tree
  fine : (r : Resolved) → Walked r → (choices : List Choice) → MayBeChosen r choices → IsWrittenOut r choices p → AllEvents IsFine (tree_of p)
  fine r w choices may out =
      let bodies = body_in (bodies_of r) in
      let homes = homes_in (homes_of r choices) in
      let small = bodies_small r w in
      subst (AllEvents IsFine) (sym out)
      (plan_is_fine S (entry_placed bodies homes (length (bodies_of r)) (args_of r)) (shapes_in r) p.draft.entry
      (entry_is_small bodies homes small (length (bodies_of r)) (args_of r))
      (take_small (length (args_of r)) (bodies 0).arrays (small 0)))

  module _ (r : Resolved) (c : IsCompiled r f) where
    pub are_asked : Meets S Asked p.draft.term at_root p.draft.entry
    are_asked =
        joined S (IsAllowed (leaves_of p.draft) S) (IsAllowed (leaves_of p.draft) S) Asked IsFine join p.draft.term at_root p.draft.entry
        c.good.good.well_formed.term c.good.good.well_formed.term
        (scoped_all IsFine 0 p.draft.entry (tree_written S p.draft.term at_root) (fine r (walked_is_there r) _ c.good.may c.good.written_out))

    pub view_texts : HasViewTexts f
    view_texts =
        meets_less S Asked (λ env bs a. IsAllowed (leaves_of p.draft) S env bs a × AreViewTexts (event_text (λ n. count_of S n env) a))
        (λ env bs a h. h.0) p.draft.term at_root p.draft.entry are_asked
