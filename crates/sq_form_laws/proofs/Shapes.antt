-- Arguments fit their parameters exactly where each size name has one value.
use Rattle.std.proofs.Common.{◌≡◌, ℕ, zero, suc, ◌+◌, Bool, true, false, cond, ℤ, pos, List, [], ◌∷◌, ◌++◌, Option, Some, None, is_some, refl, sym, ◌∙◌, ap, subst, arith}
use Rattle.std.specs.Prelude.{slice_get, nat_abs, if◌then◌else◌}
use Rattle.std.specs.Map.{lookup}
use Rattle.std.specs.Option.{option_and_then}
use Rattle.std.specs.Ordering.{int_eq}
use Rattle.std.proofs.lemmas.Bool.Decides.{Decides-int_eq}
use Rattle.sq_text.specs.declared.place.Place.{Place}
use Rattle.sq_text.specs.Names.{Bytes, same_name}
use Rattle.sq_ast.specs.declared.program.Extent.{Extent}
use Rattle.sq_ast.specs.declared.program.Extent.TheVariants as extent
use Rattle.sq_ast.specs.declared.program.Param.{Param}
use Rattle.sq_blocks.specs.Names.{Numbers, with_number}
use Rattle.sq_forms.proofs.Mappings.Same.{same, itself}
use Rattle.sq_blocks.specs.declared.argument.Argument.{Argument}
use Rattle.sq_forms.specs.Calls.{with_size, bind_extent, bind_there, bind_from, bind_there_all, misfit_or, shape_from}
use Rattle.sq_blocks.specs.Arguments.{lengths}
use Rattle.sq_form_laws.specs.Laws.{IsExtent, Suits, HaveShape, ShapeIsExact}

-- ---- tables of names

kept_by : {X : Type 0} (b : Bool) (a x : X) (o p : Option X) → (o ≡ Some x → p ≡ Some x) → cond b (Some a) o ≡ Some x → cond b (Some a) p ≡ Some x
kept_by true a x o p f h = h
kept_by false a x o p f h = f h

pub there_kept : {X : Type 0} (name : Bytes) (es fs : List (Bytes × X)) (x : X) → lookup (same_name name) es ≡ Some x
    → lookup (same_name name) (es ++ fs) ≡ Some x
there_kept name [] fs x h = absurd (cc h)
there_kept name (e ∷ es) fs x h =
    kept_by (same_name name e.0) e.1 x (lookup (same_name name) es) (lookup (same_name name) (es ++ fs)) (there_kept name es fs x) h

further_by : {X : Type 0} (b : Bool) (a : X) (o p q : Option X) → (o ≡ None → p ≡ q) → cond b (Some a) o ≡ None → cond b (Some a) p ≡ q
further_by true a o p q f h = absurd (cc h)
further_by false a o p q f h = f h

pub none_further : {X : Type 0} (name : Bytes) (es fs : List (Bytes × X)) → lookup (same_name name) es ≡ None
    → lookup (same_name name) (es ++ fs) ≡ lookup (same_name name) fs
none_further name [] fs h = refl
none_further name (e ∷ es) fs h =
    further_by (same_name name e.0) e.1 (lookup (same_name name) es) (lookup (same_name name) (es ++ fs)) (lookup (same_name name) fs) (none_further name es fs) h

-- what a name stands for in a table with one more entry
pub data Stood {X : Type 0} (name own : Bytes) (a x : X) (o : Option X) : Type 0 where
  old : o ≡ Some x → Stood name own a x o
  new : name ≡ own → a ≡ x → Stood name own a x o

last_by : {X : Type 0} (name own : Bytes) (a x : X) (b : Bool) → same_name name own ≡ b → cond b (Some a) None ≡ Some x → Stood name own a x None
last_by name own a x true e h = new (same name own e) (cc h)
last_by name own a x false e h = absurd (cc h)

stood_by : {X : Type 0} (name own : Bytes) (es : List (Bytes × X)) (a x : X) (o : Option X) → lookup (same_name name) es ≡ o
    → lookup (same_name name) (es ++ (own, a) ∷ []) ≡ Some x → Stood name own a x o
stood_by name own es a x (Some y) e h = old (sym (there_kept name es ((own, a) ∷ []) y e) ∙ h)
stood_by name own es a x None e h = last_by name own a x (same_name name own) refl (sym (none_further name es ((own, a) ∷ []) e) ∙ h)

pub stood : {X : Type 0} (name own : Bytes) (es : List (Bytes × X)) (a x : X) → lookup (same_name name) (es ++ (own, a) ∷ []) ≡ Some x
    → Stood name own a x (lookup (same_name name) es)
stood name own es a x h = stood_by name own es a x (lookup (same_name name) es) refl h

pub new_there : {X : Type 0} (name : Bytes) (es : List (Bytes × X)) (a : X) → lookup (same_name name) es ≡ None
    → lookup (same_name name) (es ++ (name, a) ∷ []) ≡ Some a
new_there name es a h = none_further name es ((name, a) ∷ []) h ∙ ap (λ b. cond b (Some a) None) (itself name)

-- ---- from sizes to values

-- names keep what they stand for
abbrev pub KeptIn : Numbers → Numbers → Type 0
KeptIn old_ new_ = (name : Bytes) (m : ℤ) → lookup (same_name name) old_ ≡ Some m → lookup (same_name name) new_ ≡ Some m

abbrev pub IsBound : Numbers → Extent → ℕ → Type 0
IsBound sizes (extent.Size place name) n = lookup (same_name name) sizes ≡ Some (pos n)
IsBound sizes (extent.Fixed place m) n = m ≡ pos n

bound_kept : (sizes more : Numbers) → KeptIn sizes more → (e : Extent) (n : ℕ) → IsBound sizes e n → IsBound more e n
bound_kept sizes more k (extent.Size place name) n h = k name (pos n) h
bound_kept sizes more k (extent.Fixed place m) n h = h

-- the sizes after one extent
record Took (sizes new_ : Numbers) (e : Extent) (n : ℕ) : Type 0 where
  kept : KeptIn sizes new_
  is : IsBound new_ e n

if_some : {A : Type 0} (b : Bool) (a c : A) → (if b then Some a else None) ≡ Some c → (b ≡ true) × (a ≡ c)
if_some true a c h = (refl, cc h)
if_some false a c h = absurd (cc h)

with_new : (sizes : Numbers) (name : Bytes) (n : ℤ) → lookup (same_name name) sizes ≡ None → with_number sizes name n ≡ sizes ++ (name, n) ∷ []
with_new sizes name n h = ap (λ (o : Option ℤ). if is_some o then sizes else sizes ++ (name, n) ∷ []) h

took_new : (sizes new_ : Numbers) (place : Place) (name : Bytes) (n : ℕ) → lookup (same_name name) sizes ≡ None → with_number sizes name (pos n) ≡ new_
    → Took sizes new_ (extent.Size place name) n
took_new sizes new_ place name n none h =
    let is : sizes ++ (name, pos n) ∷ [] ≡ new_ = sym (with_new sizes name (pos n) none) ∙ h in
    subst (λ l. Took sizes l (extent.Size place name) n) is
    (record { kept = λ other m g. there_kept other sizes ((name, pos n) ∷ []) m g; is = new_there name sizes (pos n) none })

took_size : (sizes new_ : Numbers) (place : Place) (name : Bytes) (n : ℕ) (o : Option ℤ) → lookup (same_name name) sizes ≡ o
    → with_size sizes name n o ≡ Some new_ → Took sizes new_ (extent.Size place name) n
took_size sizes new_ place name n None e h = took_new sizes new_ place name n e (cc h)
took_size sizes new_ place name n (Some m) e h =
    let p = if_some (int_eq m (pos n)) sizes new_ h in
    let same_size : m ≡ pos n = (Decides-int_eq m (pos n)).0 p.0 in
    subst (λ l. Took sizes l (extent.Size place name) n) p.1 (record { kept = λ other k g. g; is = e ∙ ap Some same_size })

took_one : (sizes new_ : Numbers) (e : Extent) (n : ℕ) → bind_extent sizes e n ≡ Some new_ → Took sizes new_ e n
took_one sizes new_ (extent.Size place name) n h = took_size sizes new_ place name n (lookup (same_name name) sizes) refl h
took_one sizes new_ (extent.Fixed place m) n h =
    let p = if_some (int_eq m (pos n)) sizes new_ h in
    subst (λ l. Took sizes l (extent.Fixed place m) n) p.1 (record { kept = λ other k g. g; is = (Decides-int_eq m (pos n)).0 p.0 })

-- the sizes after extents from the i-th on
pub record TookAll (sizes new_ : Numbers) (es : List Extent) (i : ℕ) (ns : List ℕ) : Type 0 where
  pub kept : KeptIn sizes new_
  pub each : (j : ℕ) (e : Extent) → slice_get es j ≡ Some e → (n : ℕ) × (slice_get ns (i + j) ≡ Some n) × IsBound new_ e n

module _ (ns : List ℕ) where
  took_first : (sizes mid new_ : Numbers) (e : Extent) (es : List Extent) (i n : ℕ) → slice_get ns i ≡ Some n → Took sizes mid e n
      → TookAll mid new_ es (i + 1) ns → TookAll sizes new_ (e ∷ es) i ns
  took_first sizes mid new_ e es i n there one rest = record {
    kept = λ name m g. rest.kept name m (one.kept name m g);
    each = at;
  }
    where
      at : (j : ℕ) (d : Extent) → slice_get (e ∷ es) j ≡ Some d → (m : ℕ) × (slice_get ns (i + j) ≡ Some m) × IsBound new_ d m
      at zero d h =
          let same_extent : e ≡ d = cc h in
          let k : i ≡ i + 0 = omega arith in
          (n, sym (ap (slice_get ns) k) ∙ there, subst (λ x. IsBound new_ x n) same_extent (bound_kept mid new_ rest.kept e n one.is))
      at (suc j) d h =
          let r = rest.each j d h in
          let k : i + 1 + j ≡ i + suc j = omega arith in
          (r.0, sym (ap (slice_get ns) k) ∙ r.1, r.2)

  took_rest : (sizes new_ : Numbers) (e : Extent) (es : List Extent) (i n : ℕ) → slice_get ns i ≡ Some n
      → ((mid : Numbers) → bind_from mid es (i + 1) ns ≡ Some new_ → TookAll mid new_ es (i + 1) ns)
      → (o : Option Numbers) → bind_extent sizes e n ≡ o → option_and_then (λ more. bind_from more es (i + 1) ns) o ≡ Some new_
      → TookAll sizes new_ (e ∷ es) i ns
  took_rest sizes new_ e es i n there rest None is h = absurd (cc h)
  took_rest sizes new_ e es i n there rest (Some mid) is h = took_first sizes mid new_ e es i n there (took_one sizes mid e n is) (rest mid h)

  took_at : (sizes new_ : Numbers) (e : Extent) (es : List Extent) (i : ℕ)
      → ((mid : Numbers) → bind_from mid es (i + 1) ns ≡ Some new_ → TookAll mid new_ es (i + 1) ns)
      → (o : Option ℕ) → slice_get ns i ≡ o → option_and_then (λ more. bind_from more es (i + 1) ns) (bind_there sizes e o) ≡ Some new_
      → TookAll sizes new_ (e ∷ es) i ns
  took_at sizes new_ e es i rest None is h = absurd (cc h)
  took_at sizes new_ e es i rest (Some n) is h = took_rest sizes new_ e es i n is rest (bind_extent sizes e n) refl h

  pub took_from : (es : List Extent) (sizes new_ : Numbers) (i : ℕ) → bind_from sizes es i ns ≡ Some new_ → TookAll sizes new_ es i ns
  took_from [] sizes new_ i h =
      let is : sizes ≡ new_ = cc h in
      subst (λ l. TookAll sizes l [] i ns) is (record { kept = λ name m g. g; each = λ j e g. absurd (cc g) })
  took_from (e ∷ es) sizes new_ i h = took_at sizes new_ e es i (λ mid g. took_from es mid new_ (i + 1) g) (slice_get ns i) refl h

-- the sizes after parameters from the i-th on
record TookParams (sizes new_ : Numbers) (ps : List Param) (i : ℕ) (xs : List Argument) : Type 0 where
  kept : KeptIn sizes new_
  each : (j : ℕ) (p : Param) (x : Argument) → slice_get ps j ≡ Some p → slice_get xs (i + j) ≡ Some x
      → (k : ℕ) (e : Extent) → slice_get p.extents k ≡ Some e → (n : ℕ) × (slice_get (lengths x.rect) k ≡ Some n) × IsBound new_ e n

bounds_kept : (mid new_ : Numbers) (es : List Extent) (ns : List ℕ) → KeptIn mid new_
    → ((k : ℕ) (e : Extent) → slice_get es k ≡ Some e → (n : ℕ) × (slice_get ns k ≡ Some n) × IsBound mid e n)
    → (k : ℕ) (e : Extent) → slice_get es k ≡ Some e → (n : ℕ) × (slice_get ns k ≡ Some n) × IsBound new_ e n
bounds_kept mid new_ es ns kept f k e g = let r = f k e g in (r.0, r.1, bound_kept mid new_ kept e r.0 r.2)

some_same : {A : Type 0} (x y : A) → Some x ≡ Some y → x ≡ y
some_same x y h = cc h

module _ (xs : List Argument) where
  -- a parameter whose argument was found to fit
  param_first : (sizes mid new_ : Numbers) (p : Param) (ps : List Param) (i : ℕ) (x : Argument) → slice_get xs i ≡ Some x
      → bind_from sizes p.extents 0 (lengths x.rect) ≡ Some mid
      → TookParams mid new_ ps (i + 1) xs → TookParams sizes new_ (p ∷ ps) i xs
  param_first sizes mid new_ p ps i x there bound_ rest = record {
    kept = λ name m g. rest.kept name m (one.kept name m g);
    each = at;
  }
    where
      one : TookAll sizes mid p.extents 0 (lengths x.rect)
      one = took_from (lengths x.rect) p.extents sizes mid 0 bound_

      at : (j : ℕ) (q : Param) (y : Argument) → slice_get (p ∷ ps) j ≡ Some q → slice_get xs (i + j) ≡ Some y
          → (k : ℕ) (e : Extent) → slice_get q.extents k ≡ Some e → (n : ℕ) × (slice_get (lengths y.rect) k ≡ Some n) × IsBound new_ e n
      at zero q y h g =
          let k : i + 0 ≡ i = omega arith in
          let same_param : p ≡ q = cc h in
          let same_arg : x ≡ y = some_same x y (sym there ∙ (sym (ap (slice_get xs) k) ∙ g)) in
          subst (λ (z : Argument). (k : ℕ) (e : Extent) → slice_get q.extents k ≡ Some e → (n : ℕ) × (slice_get (lengths z.rect) k ≡ Some n) × IsBound new_ e n) same_arg
          (subst (λ (r : Param). (k : ℕ) (e : Extent) → slice_get r.extents k ≡ Some e → (n : ℕ) × (slice_get (lengths x.rect) k ≡ Some n) × IsBound new_ e n) same_param
          (bounds_kept mid new_ p.extents (lengths x.rect) rest.kept (λ k e f. let r = one.each k e f in let l : k ≡ 0 + k = omega arith in (r.0, ap (slice_get (lengths x.rect)) l ∙ r.1, r.2))))
      at (suc j) q y h g = rest.each j q y h (let k : i + suc j ≡ i + 1 + j = omega arith in sym (ap (slice_get xs) k) ∙ g)

  -- one without an argument
  param_none : (sizes new_ : Numbers) (p : Param) (ps : List Param) (i : ℕ) → slice_get xs i ≡ None → TookParams sizes new_ ps (i + 1) xs
      → TookParams sizes new_ (p ∷ ps) i xs
  param_none sizes new_ p ps i none rest = record { kept = rest.kept; each = at }
    where
      at : (j : ℕ) (q : Param) (y : Argument) → slice_get (p ∷ ps) j ≡ Some q → slice_get xs (i + j) ≡ Some y
          → (k : ℕ) (e : Extent) → slice_get q.extents k ≡ Some e → (n : ℕ) × (slice_get (lengths y.rect) k ≡ Some n) × IsBound new_ e n
      at zero q y h g = let k : i + 0 ≡ i = omega arith in absurd (cc (sym none ∙ (sym (ap (slice_get xs) k) ∙ g)))
      at (suc j) q y h g = rest.each j q y h (let k : i + suc j ≡ i + 1 + j = omega arith in sym (ap (slice_get xs) k) ∙ g)

  abbrev Final : List Param → ℕ → Numbers → Type 0
  Final ps i sizes = (new_ : Numbers) × TookParams sizes new_ ps i xs

  param_bound : (sizes : Numbers) (p : Param) (ps : List Param) (i : ℕ) (x : Argument) → slice_get xs i ≡ Some x
      → ((mid : Numbers) → shape_from (i + 1) mid ps xs ≡ None → Final ps (i + 1) mid)
      → (o : Option Numbers) → bind_from sizes p.extents 0 (lengths x.rect) ≡ o → misfit_or i o (λ more. shape_from (i + 1) more ps xs) ≡ None
      → Final (p ∷ ps) i sizes
  param_bound sizes p ps i x there rest None e h = absurd (cc h)
  param_bound sizes p ps i x there rest (Some mid) e h = let r = rest mid h in (r.0, param_first sizes mid r.0 p ps i x there e r.1)

  param_at : (sizes : Numbers) (p : Param) (ps : List Param) (i : ℕ) → ((mid : Numbers) → shape_from (i + 1) mid ps xs ≡ None → Final ps (i + 1) mid)
      → (o : Option Argument) → slice_get xs i ≡ o → misfit_or i (bind_there_all sizes p o) (λ more. shape_from (i + 1) more ps xs) ≡ None
      → Final (p ∷ ps) i sizes
  param_at sizes p ps i rest None e h = let r = rest sizes h in (r.0, param_none sizes r.0 p ps i e r.1)
  param_at sizes p ps i rest (Some x) e h = param_bound sizes p ps i x e rest (bind_from sizes p.extents 0 (lengths x.rect)) refl h

  finals : (ps : List Param) (i : ℕ) (sizes : Numbers) → shape_from i sizes ps xs ≡ None → Final ps i sizes
  finals [] i sizes h = (sizes, record { kept = λ name m g. g; each = λ j p x g. absurd (cc g) })
  finals (p ∷ ps) i sizes h = param_at sizes p ps i (λ mid g. finals ps (i + 1) mid g) (slice_get xs i) refl h

abbrev value_in : Option ℤ → ℕ
value_in None = 0
value_in (Some m) = nat_abs m

is_extent : (sizes : Numbers) (e : Extent) (n : ℕ) → IsBound sizes e n → IsExtent (λ name. value_in (lookup (same_name name) sizes)) e n
is_extent sizes (extent.Size place name) n h = ap value_in h
is_extent sizes (extent.Fixed place m) n h = h

pub have_shape : (params : List Param) (xs : List Argument) → shape_from 0 [] params xs ≡ None → HaveShape params xs
have_shape params xs h =
    let f = finals xs params 0 [] h in record {
      value = λ name. value_in (lookup (same_name name) f.0);
      each = λ i p x a b j e g.
          let z : i ≡ 0 + i = omega arith in
          let r = f.1.each i p x a (sym (ap (slice_get xs) z) ∙ b) j e g in
          (r.0, r.1, is_extent f.0 e r.0 r.2);
    }

-- ---- from values to sizes

-- names stand for their values
pub record Agrees (value : Bytes → ℕ) (sizes : Numbers) : Type 0 where
  pub each : (name : Bytes) (m : ℤ) → lookup (same_name name) sizes ≡ Some m → m ≡ pos (value name)

pub none_agrees : (value : Bytes → ℕ) → Agrees value []
none_agrees value = record { each = λ name m h. absurd (cc h) }

module _ (value : Bytes → ℕ) where
  -- the sizes after something that fits
  pub record Fits (sizes : Numbers) (o : Option Numbers) : Type 0 where
    pub made : Numbers
    pub is : o ≡ Some made
    pub agrees : Agrees value made

  new_value : (sizes : Numbers) (own : Bytes) (n : ℕ) (name : Bytes) (m : ℤ) → value own ≡ n → Agrees value sizes
      → Stood name own (pos n) m (lookup (same_name name) sizes) → m ≡ pos (value name)
  new_value sizes own n name m v a (old h) = a.each name m h
  new_value sizes own n name m v a (new e h) = sym h ∙ (λ i. pos (sym v i)) ∙ (λ i. pos (value (sym e i)))

  agrees_new : (sizes : Numbers) (own : Bytes) (n : ℕ) → value own ≡ n → Agrees value sizes → lookup (same_name own) sizes ≡ None
      → Agrees value (with_number sizes own (pos n))
  agrees_new sizes own n v a none =
      subst (Agrees value) (sym (with_new sizes own (pos n) none)) (record { each = λ name m h. new_value sizes own n name m v a (stood name own sizes (pos n) m h) })

  size_fits : (sizes : Numbers) (own : Bytes) (n : ℕ) → value own ≡ n → Agrees value sizes → (o : Option ℤ) → lookup (same_name own) sizes ≡ o
      → Fits sizes (with_size sizes own n o)
  size_fits sizes own n v a None e = record { made = with_number sizes own (pos n); is = refl; agrees = agrees_new sizes own n v a e }
  size_fits sizes own n v a (Some m) e =
      let is_n : m ≡ pos n = a.each own m e ∙ (λ i. pos (v i)) in
      record { made = sizes; is = ap (λ b. if b then Some sizes else None) ((Decides-int_eq m (pos n)).1 is_n); agrees = a }

  extent_fits : (sizes : Numbers) (e : Extent) (n : ℕ) → IsExtent value e n → Agrees value sizes → Fits sizes (bind_extent sizes e n)
  extent_fits sizes (extent.Size place name) n v a = size_fits sizes name n v a (lookup (same_name name) sizes) refl
  extent_fits sizes (extent.Fixed place m) n v a = record { made = sizes; is = ap (λ b. if b then Some sizes else None) ((Decides-int_eq m (pos n)).1 v); agrees = a }

  pub extents_fit : (ns : List ℕ) (es : List Extent) (sizes : Numbers) (i : ℕ) → Agrees value sizes
      → ((j : ℕ) (e : Extent) → slice_get es j ≡ Some e → (n : ℕ) × (slice_get ns (i + j) ≡ Some n) × IsExtent value e n) → Fits sizes (bind_from sizes es i ns)
  extents_fit ns [] sizes i a f = record { made = sizes; is = refl; agrees = a }
  extents_fit ns (e ∷ es) sizes i a f =
      let first = f 0 e refl in
      let k : i ≡ i + 0 = omega arith in
      let there : slice_get ns i ≡ Some first.0 = ap (slice_get ns) k ∙ first.1 in
      let one = extent_fits sizes e first.0 first.2 a in
      let rest = extents_fit ns es one.made (i + 1) one.agrees (λ j d g. let r = f (suc j) d g in let l : i + 1 + j ≡ i + suc j = omega arith in (r.0, ap (slice_get ns) l ∙ r.1, r.2)) in
      let next : Numbers → Option Numbers = λ more. bind_from more es (i + 1) ns in record {
        made = rest.made;
        is = ap (λ o. option_and_then next (bind_there sizes e o)) there ∙ (ap (option_and_then next) one.is ∙ rest.is);
        agrees = rest.agrees;
      }

  pub suits_fit : (ns : List ℕ) (es : List Extent) (sizes : Numbers) → Agrees value sizes → Suits value es ns → Fits sizes (bind_from sizes es 0 ns)
  suits_fit ns es sizes a f = extents_fit ns es sizes 0 a (λ j e g. let r = f j e g in let l : 0 + j ≡ j = omega arith in (r.0, ap (slice_get ns) l ∙ r.1, r.2))

  argument_fits : (sizes : Numbers) (p : Param) (o : Option Argument) → Agrees value sizes → ((x : Argument) → o ≡ Some x
      → Suits value p.extents (lengths x.rect)) → Fits sizes (bind_there_all sizes p o)
  argument_fits sizes p None a f = record { made = sizes; is = refl; agrees = a }
  argument_fits sizes p (Some x) a f = suits_fit (lengths x.rect) p.extents sizes a (f x refl)

  shape_fits : (xs : List Argument) (ps : List Param) (i : ℕ) (sizes : Numbers) → Agrees value sizes
      → ((j : ℕ) (p : Param) (x : Argument) → slice_get ps j ≡ Some p → slice_get xs (i + j) ≡ Some x → Suits value p.extents (lengths x.rect))
      → shape_from i sizes ps xs ≡ None
  shape_fits xs [] i sizes a f = refl
  shape_fits xs (p ∷ ps) i sizes a f =
      let k : i ≡ i + 0 = omega arith in
      let one = argument_fits sizes p (slice_get xs i) a (λ x e. f 0 p x refl (sym (ap (slice_get xs) k) ∙ e)) in
      let rest = shape_fits xs ps (i + 1) one.made one.agrees (λ j q y g e. let l : i + 1 + j ≡ i + suc j = omega arith in f (suc j) q y g (sym (ap (slice_get xs) l) ∙ e)) in
      ap (λ o. misfit_or i o (λ more. shape_from (i + 1) more ps xs)) one.is ∙ rest

pub shape_is_exact : ShapeIsExact
shape_is_exact params xs = (
  have_shape params xs,
  λ (h : HaveShape params xs). shape_fits h.value xs params 0 [] (none_agrees h.value)
      (λ j p x a b. let l : j ≡ 0 + j = omega arith in h.each j p x a (ap (slice_get xs) l ∙ b)),
)
