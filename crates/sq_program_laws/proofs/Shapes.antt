-- The shapes of a form's arrays: its parameters first, and then its locals.
use Rattle.std.proofs.Common.{◌≡◌, ℕ, zero, suc, ◌+◌, List, [], ◌∷◌, ◌++◌, length, map}
use Rattle.std.proofs.Common.{Some, refl, sym, ap, ◌∙◌, arith}
use Rattle.std.specs.Prelude.{slice_get}
use Rattle.sq_num.specs.declared.Elem.{Elem}
use Rattle.sq_ast.specs.declared.program.Param.{Param}
use Rattle.sq_ast.specs.declared.program.Variant.{Variant}
use Rattle.sq_leaf.specs.declared.shape.Shape.{Shape}
use Rattle.sq_forms.specs.declared.form.Found.{Found}
use Rattle.sq_forms.specs.declared.form.LocalArray.{LocalArray}
use Rattle.sq_forms.specs.Decls.{Scope}
use Rattle.sq_form_laws.specs.Insides.{arrays_of}
use Rattle.sq_spec.specs.Statements.{elems_of}
use Rattle.sq_spec.specs.Works.{extents_at, param_shapes, local_shapes, shapes_of}

abbrev elems : List Shape → List Elem
elems shapes = map (λ s. s.elem) shapes

abbrev dims : List Shape → List (List ℕ)
dims shapes = map (λ s. s.extents) shapes

map_both : {A B : Type 0} (f : A → B) (xs ys : List A) → map f (xs ++ ys) ≡ map f xs ++ map f ys
map_both f [] ys = refl
map_both f (x ∷ xs) ys = ap (λ l. f x ∷ l) (map_both f xs ys)

param_elems_are : (ps : List Param) (i : ℕ) (es : List (List ℕ)) → elems (param_shapes ps i es)
    ≡ map (λ (p : Param). p.elem) ps
param_elems_are [] i es = refl
param_elems_are (p ∷ ps) i es = ap (λ l. p.elem ∷ l) (param_elems_are ps (i + 1) es)

local_elems_are : (ls : List LocalArray) → elems (local_shapes ls) ≡ map (λ (l : LocalArray). l.elem) ls
local_elems_are [] = refl
local_elems_are (l ∷ ls) = ap (λ r. l.elem ∷ r) (local_elems_are ls)

local_dims_are : (ls : List LocalArray) → dims (local_shapes ls) ≡ map (λ (l : LocalArray). l.extents) ls
local_dims_are [] = refl
local_dims_are (l ∷ ls) = ap (λ r. l.extents ∷ r) (local_dims_are ls)

pub elems_are : (v : Variant) (f : Found) (s : Scope) → elems (shapes_of v f s) ≡ elems_of v s
elems_are v f s =
    map_both (λ (x : Shape). x.elem) (param_shapes v.params 0 f.extents) (local_shapes s.locals)
    ∙ (ap (λ l. l ++ elems (local_shapes s.locals)) (param_elems_are v.params 0 f.extents)
    ∙ ap (λ l. map (λ (p : Param). p.elem) v.params ++ l) (local_elems_are s.locals))

-- a list from an index on
get_past : {A : Type 0} (front : List A) (x : A) (rest : List A) → slice_get (front ++ x ∷ rest) (length front) ≡ Some x
get_past [] x rest = refl
get_past (y ∷ front) x rest = get_past front x rest

shifted : {A : Type 0} (front : List A) (x : A) (rest : List A) → (front ++ x ∷ []) ++ rest ≡ front ++ x ∷ rest
shifted [] x rest = refl
shifted (y ∷ front) x rest = ap (λ l. y ∷ l) (shifted front x rest)

longer : {A : Type 0} (front : List A) (x : A) → length (front ++ x ∷ []) ≡ length front + 1
longer [] x = refl
longer (y ∷ front) x = let e = longer front x in omega (arith, e)

-- as many extents as parameters
param_dims_are : (ps : List Param) (front rest : List (List ℕ)) → length rest ≡ length ps
    → dims (param_shapes ps (length front) (front ++ rest)) ≡ rest
param_dims_are [] front [] h = refl
param_dims_are [] front (e ∷ rest) h = absurd (omega (arith, h))
param_dims_are (p ∷ ps) front [] h = absurd (omega (arith, h))
param_dims_are (p ∷ ps) front (e ∷ rest) h =
    let next = param_dims_are ps (front ++ e ∷ []) rest (omega (arith, h)) in
    ap (λ o. extents_at o ∷ dims (param_shapes ps (length front + 1) (front ++ e ∷ rest))) (get_past front e rest)
    ∙ ap (λ l. e ∷ l) (ap (λ n. dims (param_shapes ps n (front ++ e ∷ rest))) (sym (longer front e))
    ∙ (ap (λ l. dims (param_shapes ps (length (front ++ e ∷ [])) l)) (sym (shifted front e rest)) ∙ next))

pub dims_are : (v : Variant) (f : Found) (s : Scope) → length f.extents ≡ length v.params → dims (shapes_of v f s)
    ≡ arrays_of f.extents s.locals
dims_are v f s many =
    map_both (λ (x : Shape). x.extents) (param_shapes v.params 0 f.extents) (local_shapes s.locals)
    ∙ (ap (λ l. l ++ dims (local_shapes s.locals)) (param_dims_are v.params [] f.extents many)
    ∙ ap (λ l. f.extents ++ l) (local_dims_are s.locals))

-- what stands at an index of a list that was mapped
pub record Mapped {A B : Type 0} (f : A → B) (xs : List A) (i : ℕ) (y : B) : Type 0 where
  pub of : A
  pub there : slice_get xs i ≡ Some of
  pub is : f of ≡ y

pub mapped_at : {A B : Type 0} (f : A → B) (xs : List A) (i : ℕ) (y : B) → slice_get (map f xs) i ≡ Some y
    → Mapped f xs i y
mapped_at f [] i y h = absurd (cc h)
mapped_at f (x ∷ xs) zero y h = record { of = x; there = refl; is = cc h }
mapped_at f (x ∷ xs) (suc i) y h = let r = mapped_at f xs i y h in record { of = r.of; there = r.there; is = r.is }

pub at_mapped : {A B : Type 0} (f : A → B) (xs : List A) (i : ℕ) (x : A) → slice_get xs i ≡ Some x
    → slice_get (map f xs) i ≡ Some (f x)
at_mapped f [] i x h = absurd (cc h)
at_mapped f (y ∷ xs) zero x h = let e : y ≡ x = cc h in ap (λ z. Some (f z)) e
at_mapped f (y ∷ xs) (suc i) x h = at_mapped f xs i x h

-- the shape of a parameter
pub record ParamShape (v : Variant) (f : Found) (s : Scope) (i : ℕ) (p : Param) (es : List ℕ) : Type 0 where
  pub to : Shape
  pub there : slice_get (shapes_of v f s) i ≡ Some to
  pub elem : to.elem ≡ p.elem
  pub extents : to.extents ≡ es

param_at_from : (ps : List Param) (n : ℕ) (all : List (List ℕ)) (more : List Shape) (i : ℕ) (p : Param) (es : List ℕ)
    → slice_get ps i ≡ Some p → slice_get all (n + i) ≡ Some es
    → slice_get (param_shapes ps n all ++ more) i ≡ Some (record { elem = p.elem; extents = es })
param_at_from [] n all more i p es h g = absurd (cc h)
param_at_from (q ∷ ps) n all more zero p es h g =
    let e : q ≡ p = cc h in
    let z : n ≡ n + 0 = omega arith in
    ap (λ (x : Param). Some (record { elem = x.elem; extents = extents_at (slice_get all n) })) e
    ∙ ap (λ o. Some (record { elem = p.elem; extents = extents_at o })) (ap (slice_get all) z ∙ g)
param_at_from (q ∷ ps) n all more (suc i) p es h g =
    let z : n + 1 + i ≡ n + suc i = omega arith in
    param_at_from ps (n + 1) all more i p es h (ap (slice_get all) z ∙ g)

pub param_shape : (v : Variant) (f : Found) (s : Scope) (i : ℕ) (p : Param) (es : List ℕ) → slice_get v.params i
    ≡ Some p → slice_get f.extents i ≡ Some es → ParamShape v f s i p es
param_shape v f s i p es h g =
    let z : i ≡ 0 + i = omega arith in
    record {
      to = record { elem = p.elem; extents = es };
      there
          = param_at_from v.params 0 f.extents (local_shapes s.locals) i p es h (sym (ap (slice_get f.extents) z) ∙ g);
      elem = refl;
      extents = refl;
    }
