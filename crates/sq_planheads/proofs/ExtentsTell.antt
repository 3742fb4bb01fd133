-- What the tests of extents tell.
use Rattle.std.proofs.Common.{◌≡◌, ℕ, zero, suc, ◌*◌, ◌<◌, ◌≤◌, ◌^◌, Bool, true, false, ◌||◌, eqb, ltb, leb, if◌then◌else◌, ℤ, pos, negsuc, List, [], ◌∷◌, map, length, Option, Some, None, Result, Ok, Err, is_some, option_and_then, Decides, refl, sym, ap, ◌∙◌, subst, arith, mul_assoc, mul-one, mul-pos, le-mul_of_pos_right}
use Rattle.std.specs.List.{AllByRecursion}
use Rattle.std.proofs.lemmas.Bool.{ltb-true, ltb-false, leb-true, eqb-false, ne_eqb, le-ltb, lt-ltb, le-leb, and_parts, and_from, or_parts, or_from}
use Rattle.std.proofs.lemmas.List.Elements.{All-from_recursion, recursion_from_All}
use Rattle.sq_ast.specs.declared.program.Param.{Param}
use Rattle.sq_ast.specs.declared.program.Decl.{Decl}
use Rattle.sq_ast.specs.declared.program.Decl.TheVariants as decl
use Rattle.sq_ast.specs.declared.expr.Expr.{Expr}
use Rattle.sq_blocks.specs.Names.{Numbers}
use Rattle.sq_blocks.specs.Constants.{Bad, worth}
use Rattle.sq_ir.specs.DraftLeaves.{nat_of, nat_worth}
use Rattle.sq_planfile.specs.Sound.{product, AreExtents, AreExtentsOf, extent_value, IsLocal}
use Rattle.sq_planheads.specs.Extents.{widened, elements_from, are_few, elements_of}
use Rattle.sq_planheads.specs.Leaves.{extent_of, param_fits, decl_fits}

abbrev IsExtent : ℕ → Type 0
IsExtent e = (1 ≤ e) × (e ≤ 2 ^ 24)

-- ---- one more dimension

record Wider (n e m : ℕ) : Type 0 where
  extent : IsExtent e
  is : m ≡ n * e
  few : m ≤ 2 ^ 26

wider : (n e m : ℕ) → widened n e ≡ Some m → Wider n e m
wider n e m h = by (eqb e 0 || ltb (2 ^ 24) e) refl h
  where
    many : (b : Bool) → ltb (2 ^ 26) (n * e) ≡ b → IsExtent e → (if b then None else Some (n * e)) ≡ Some m → Wider n e m
    many true long is h = absurd (cc)
    many false long is h =
        let same : n * e ≡ m = cc in
        let few = ltb-false (2 ^ 26) (n * e) long in
        record { extent = is; is = sym same; few = omega (arith, few, same) }

    by : (b : Bool) → (eqb e 0 || ltb (2 ^ 24) e) ≡ b → (if b then None else (if ltb (2 ^ 26) (n * e) then None else Some (n * e))) ≡ Some m → Wider n e m
    by true bad h = absurd (cc)
    by false good h =
        let p = or_parts (eqb e 0) (ltb (2 ^ 24) e) good in
        let small = ltb-false (2 ^ 24) e p.1 in
        let some : (e ≡ 0) → ⊥ = eqb-false e 0 p.0 in
        many (ltb (2 ^ 26) (n * e)) refl (one_of e some, small) h
      where
        one_of : (e : ℕ) → ((e ≡ 0) → ⊥) → 1 ≤ e
        one_of zero some = absurd (some refl)
        one_of (suc e) some = omega arith

wide : (n e : ℕ) → IsExtent e → n * e ≤ 2 ^ 26 → widened n e ≡ Some (n * e)
wide n e is few =
    let one = is.0 in
    rw (or_from (eqb e 0) (ltb (2 ^ 24) e) (ne_eqb e 0 (λ z. omega (arith, z, one))) (le-ltb (2 ^ 24) e is.1), le-ltb (2 ^ 26) (n * e) few) refl

-- ---- all of them

record Counted (n : ℕ) (es : List ℕ) (m : ℕ) : Type 0 where
  each : AllByRecursion IsExtent es
  is : m ≡ n * product es

counted : (n : ℕ) (es : List ℕ) (m : ℕ) → elements_from n es ≡ Some m → Counted n es m
counted n [] m h = let same : n ≡ m = cc in record { each = tt; is = sym same ∙ sym (mul-one n) }
counted n (e ∷ es) m h = by (λ k. counted k es m) (widened n e) refl h
  where
    by : ((k : ℕ) → elements_from k es ≡ Some m → Counted k es m) → (o : Option ℕ) → widened n e ≡ o → option_and_then (λ k. elements_from k es) o ≡ Some m → Counted n (e ∷ es) m
    by later None is h = absurd (cc)
    by later (Some k) is h =
        let w = wider n e k is in
        let c = later k h in
        record { each = (w.extent, c.each); is = c.is ∙ ap (λ k. k * product es) w.is ∙ mul_assoc n e (product es) }

few_counted : (n : ℕ) (es : List ℕ) (m : ℕ) → n ≤ 2 ^ 26 → elements_from n es ≡ Some m → m ≤ 2 ^ 26
few_counted n [] m few h = let same : n ≡ m = cc in omega (arith, few, same)
few_counted n (e ∷ es) m few h = by (λ k. few_counted k es m) (widened n e) refl h
  where
    by : ((k : ℕ) → k ≤ 2 ^ 26 → elements_from k es ≡ Some m → m ≤ 2 ^ 26) → (o : Option ℕ) → widened n e ≡ o → option_and_then (λ k. elements_from k es) o ≡ Some m → m ≤ 2 ^ 26
    by later None is h = absurd (cc)
    by later (Some k) is h = later k (wider n e k is).few h

some_product : (es : List ℕ) → AllByRecursion IsExtent es → 0 < product es
some_product [] h = omega arith
some_product (e ∷ es) h = let one = h.0.0 in mul-pos {m = e} {n = product es} (omega (arith, one)) (some_product es h.1)

count_from : (n : ℕ) (es : List ℕ) → AllByRecursion IsExtent es → n * product es ≤ 2 ^ 26 → elements_from n es ≡ Some (n * product es)
count_from n [] h few = ap (λ n. Some n) (sym (mul-one n))
count_from n (e ∷ es) h few =
    let whole : n * e * product es ≡ n * (e * product es) = mul_assoc n e (product es) in
    let grown : n * e ≤ n * e * product es = le-mul_of_pos_right {m = product es} (n * e) (some_product es h.1) in
    ap (option_and_then (λ k. elements_from k es)) (wide n e h.0 (omega (arith, grown, whole, few)))
    ∙ count_from (n * e) es h.1 (omega (arith, whole, few)) ∙ ap (λ m. Some m) whole

-- ---- extents within the limits

pub record Fits (es : List ℕ) (n : ℕ) : Type 0 where
  pub extents : AreExtents es
  pub is : n ≡ product es

pub elements_sound : (es : List ℕ) (n : ℕ) → elements_of es ≡ Some n → Fits es n
elements_sound es n h = by (are_few (length es)) refl h
  where
    by : (b : Bool) → are_few (length es) ≡ b → (if b then elements_from 1 es else None) ≡ Some n → Fits es n
    by false few h = absurd (cc)
    by true few h =
        let p = and_parts (ltb 0 (length es)) (leb (length es) 3) few in
        let c = counted 1 es n h in
        let is = c.is in
        let some = ltb-true 0 (length es) p.0 in
        let less = few_counted 1 es n (omega arith) h in
        record {
          extents = record { some = omega (arith, some); few = leb-true (length es) 3 p.1; each = All-from_recursion IsExtent es c.each; elements = omega (arith, is, less) };
          is = omega (arith, is);
        }

pub elements_complete : (es : List ℕ) → AreExtents es → elements_of es ≡ Some (product es)
elements_complete es h =
    let some = h.some in
    let elements = h.elements in
    let one : 1 * product es ≡ product es = omega arith in
    rw (and_from (ltb 0 (length es)) (leb (length es) 3) (lt-ltb 0 (length es) (omega (arith, some))) (le-leb (length es) 3 h.few))
    (count_from 1 es (recursion_from_All IsExtent es h.each) (omega (arith, elements)) ∙ ap (λ n. Some n) one)

-- ---- extents that are computed

map_map : {A B C : Type 0} (f : A → B) (g : B → C) (xs : List A) → map g (map f xs) ≡ map (λ x. g (f x)) xs
map_map f g [] = refl
map_map f g (x ∷ xs) = ap (λ ys. g (f x) ∷ ys) (map_map f g xs)

naturals : (es : List ℕ) → map nat_of (map (λ n. pos n) es) ≡ es
naturals [] = refl
naturals (e ∷ es) = ap (λ es. e ∷ es) (naturals es)

positive : (zs : List ℤ) → AllByRecursion IsExtent (map nat_of zs) → zs ≡ map (λ n. pos n) (map nat_of zs)
positive [] h = refl
positive (pos n ∷ zs) h = ap (λ zs. pos n ∷ zs) (positive zs h.1)
positive (negsuc n ∷ zs) h = let one = h.0.0 in absurd (omega (arith, one))

integers_sound : (zs : List ℤ) (o : Option ℕ) → elements_of (map nat_of zs) ≡ o → is_some o ≡ true → AreExtentsOf zs
integers_sound zs None e h = absurd (cc)
integers_sound zs (Some n) e h =
    let f = elements_sound (map nat_of zs) n e in
    record { extents = map nat_of zs; are = positive zs (recursion_from_All IsExtent (map nat_of zs) f.extents.each); within = f.extents }

integers_complete : (zs : List ℤ) → AreExtentsOf zs → is_some (elements_of (map nat_of zs)) ≡ true
integers_complete zs h =
    let is : map nat_of zs ≡ h.extents = ap (map nat_of) h.are ∙ naturals h.extents in
    ap (λ es. is_some (elements_of es)) is ∙ ap is_some (elements_complete h.extents h.within)

pub param_tells : (numbers : Numbers) (p : Param) → Decides (param_fits numbers p) (AreExtentsOf (map (extent_value numbers) p.extents))
param_tells numbers p =
    let zs : List ℤ = map (extent_value numbers) p.extents in
    let same : map nat_of zs ≡ map (extent_of numbers) p.extents = map_map (extent_value numbers) nat_of p.extents in (
      λ h. integers_sound zs (elements_of (map nat_of zs)) refl (ap (λ es. is_some (elements_of es)) same ∙ h),
      λ h. sym (ap (λ es. is_some (elements_of es)) same) ∙ integers_complete zs h,
    )

-- ---- locals

record Worths (rs : List (Result ℤ Bad)) : Type 0 where
  values : List ℤ
  are : rs ≡ map (λ n. Ok n) values
  naturals : map nat_of values ≡ map nat_worth rs

worths : (rs : List (Result ℤ Bad)) → AllByRecursion IsExtent (map nat_worth rs) → Worths rs
worths [] h = record { values = []; are = refl; naturals = refl }
worths (Ok n ∷ rs) h = let w = worths rs h.1 in record { values = n ∷ w.values; are = ap (λ rs. Ok n ∷ rs) w.are; naturals = ap (λ es. nat_of n ∷ es) w.naturals }
worths (Err bad ∷ rs) h = let one = h.0.0 in absurd (omega (arith, one))

worth_naturals : (zs : List ℤ) → map nat_worth (map (λ n. Ok n) zs) ≡ map nat_of zs
worth_naturals [] = refl
worth_naturals (z ∷ zs) = ap (λ es. nat_of z ∷ es) (worth_naturals zs)

abbrev HasExtents : Numbers → List Expr → Type 0
HasExtents numbers extents = (values : List ℤ) × (map (λ e. worth e numbers []) extents ≡ map (λ n. Ok n) values) × AreExtentsOf values

local_sound : (numbers : Numbers) (extents : List Expr) (o : Option ℕ) → elements_of (map (λ e. nat_worth (worth e numbers [])) extents) ≡ o → is_some o ≡ true → HasExtents numbers extents
local_sound numbers extents None e h = absurd (cc)
local_sound numbers extents (Some n) e h =
    let rs : List (Result ℤ Bad) = map (λ e. worth e numbers []) extents in
    let same : map nat_worth rs ≡ map (λ e. nat_worth (worth e numbers [])) extents = map_map (λ e. worth e numbers []) nat_worth extents in
    let f = elements_sound (map (λ e. nat_worth (worth e numbers [])) extents) n e in
    let each = subst (AllByRecursion IsExtent) (sym same) (recursion_from_All IsExtent (map (λ e. nat_worth (worth e numbers [])) extents) f.extents.each) in
    let w = worths rs each in
    let is : elements_of (map nat_of w.values) ≡ Some n = ap elements_of (w.naturals ∙ same) ∙ e in
    (w.values, w.are, integers_sound w.values (Some n) is refl)

local_complete : (numbers : Numbers) (extents : List Expr) → HasExtents numbers extents → is_some (elements_of (map (λ e. nat_worth (worth e numbers [])) extents)) ≡ true
local_complete numbers extents h =
    let same : map nat_of h.0 ≡ map (λ e. nat_worth (worth e numbers [])) extents =
    sym (worth_naturals h.0) ∙ ap (map nat_worth) (sym h.1) ∙ map_map (λ e. worth e numbers []) nat_worth extents in
    sym (ap (λ es. is_some (elements_of es)) same) ∙ integers_complete h.0 h.2

pub decl_tells : (numbers : Numbers) (d : Decl) → Decides (decl_fits numbers [] d) (IsLocal numbers d)
decl_tells numbers (decl.Local place elem name extents) = (
  λ h. record {
    of_local = λ p t n xs e.
        let same : extents ≡ xs = cc in
        subst (HasExtents numbers) same (local_sound numbers extents (elements_of (map (λ e. nat_worth (worth e numbers [])) extents)) refl h);
  },
  λ h. local_complete numbers extents (h.of_local place elem name extents refl),
)
decl_tells numbers (decl.Tunable place name) = (λ h. record { of_local = λ p t n xs e. absurd (cc) }, λ h. refl)
decl_tells numbers (decl.List place name) = (λ h. record { of_local = λ p t n xs e. absurd (cc) }, λ h. refl)
decl_tells numbers (decl.Rchop place name array sizes) = (λ h. record { of_local = λ p t n xs e. absurd (cc) }, λ h. refl)
decl_tells numbers (decl.Ichop place name array starts ends) = (λ h. record { of_local = λ p t n xs e. absurd (cc) }, λ h. refl)
