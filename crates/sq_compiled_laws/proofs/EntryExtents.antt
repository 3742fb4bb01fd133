-- The extents that the sizes of a mapping give the entry's parameters are those of arrays within the limits.
use Rattle.std.proofs.Common.{◌≡◌, ℕ, suc, ◌*◌, ◌≤◌, ◌^◌, ◌&&◌, nat_lt, nat_le, ℤ, pos, negsuc, Bool, true, false, List, [], ◌∷◌, map, length, Option, Some, None, option_map, Ok, Err, if◌then◌else◌, refl, sym, ap, subst, arith}
use Rattle.std.proofs.lemmas.Bool.Decides.{nat_tests}
use Rattle.sq_ast.specs.declared.program.Param.{Param}
use Rattle.sq_mapping.specs.declared.mapping.SizeSet.{SizeSet}
use Rattle.sq_forms.specs.Decls.{most_extent, most_elements, dims_from, dims_of}
use Rattle.sq_forms.specs.Faults.{Value, and_then}
use Rattle.sq_forms.specs.Resolving.{extent_of, dims_or_fault, param_dims, before, entry_extents}
use Rattle.sq_planfile.specs.Sound.{product, AreExtents}
use Rattle.sq_compiled_laws.proofs.Each.{Each, all}

two : (a b : Bool) → (a && b) ≡ true → (a ≡ true) × (b ≡ true)
two true b h = (refl, h)
two false b h = absurd (cc h)

-- ---- extents behind others of n elements

abbrev IsExtent : ℕ → Type 0
IsExtent k = (1 ≤ k) × (k ≤ most_extent)

record AreWithin (n : ℕ) (zs : List ℤ) (ds : List ℕ) : Type 0 where
  many : length ds ≡ length zs
  each : Each IsExtent ds
  few : n * product ds ≤ most_elements

none_within : (n : ℕ) → n ≤ most_elements → AreWithin n [] []
none_within n le = record { many = refl; each = tt; few = omega (arith, le) }

tested : (n k most bound : ℕ) → ((nat_lt 0 k && nat_le k bound) && nat_le (n * k) most) ≡ true
    → ((1 ≤ k) × (k ≤ bound)) × (n * k ≤ most)
tested n k most bound h =
    let a = two (nat_lt 0 k && nat_le k bound) (nat_le (n * k) most) h in
    let c = two (nat_lt 0 k) (nat_le k bound) a.0 in
    let some = c.0 in
    let low = c.1 in
    let less = a.1 in
    ((grind (arith, nat_tests, some), grind (arith, nat_tests, low)), grind (arith, nat_tests, less))

some_same : {A : Type 0} (x y : A) → Some x ≡ Some y → x ≡ y
some_same x y e = cc e

ok_same : {A : Type 0} (x y : A) → ◌≡◌ {A = Value A} (Ok x) (Ok y) → x ≡ y
ok_same x y e = cc e

one_more : (n k : ℕ) (zs : List ℤ) (ds : List ℕ) (b : Bool) (o : Option (List ℕ)) → (b ≡ true → IsExtent k × (n * k ≤ most_elements))
    → ((more : List ℕ) → o ≡ Some more → n * k ≤ most_elements → AreWithin (n * k) zs more)
    → (if b then option_map (λ ms. k ∷ ms) o else None) ≡ Some ds → AreWithin n (pos k ∷ zs) ds
one_more n k zs ds true (Some more) test later e =
    let t = test refl in
    let rest = later more refl t.1 in
    let few = rest.few in
    let turned : n * (k * product more) ≡ n * k * product more = omega arith in
    subst (AreWithin n (pos k ∷ zs)) (some_same (k ∷ more) ds e)
    (record { many = ap suc rest.many; each = (t.0, rest.each); few = subst (λ m. m ≤ most_elements) (sym turned) few })
one_more n k zs ds true None test later e = absurd (cc e)
one_more n k zs ds false o test later e = absurd (cc e)

from_within : (n : ℕ) (zs : List ℤ) (ds : List ℕ) → n ≤ most_elements → dims_from n zs ≡ Some ds → AreWithin n zs ds
from_within n [] ds le e = subst (AreWithin n []) (some_same [] ds e) (none_within n le)
from_within n (pos k ∷ zs) ds le e =
    one_more n k zs ds ((nat_lt 0 k && nat_le k most_extent) && nat_le (n * k) most_elements) (dims_from (n * k) zs)
    (λ h. tested n k most_elements most_extent h) (λ more g fits. from_within (n * k) zs more fits g) e
from_within n (negsuc k ∷ zs) ds le e = absurd (cc e)

-- ---- of one to three dimensions

one_fits : 1 ≤ most_elements
unfolding most_elements
one_fits = omega arith

few_of : (m : ℕ) → nat_le m 2 ≡ true → m ≤ 2
few_of m h = grind (arith, nat_tests, h)

within_limits : (zs : List ℤ) (ds : List ℕ) → 1 ≤ length zs → length zs ≤ 3 → AreWithin 1 zs ds → AreExtents ds
unfolding most_extent most_elements
within_limits zs ds some least h =
    let many = h.many in
    let few = h.few in
    record {
      some = omega (arith, some, many);
      few = omega (arith, least, many);
      each = all (λ n. (1 ≤ n) × (n ≤ 2 ^ 24)) ds h.each;
      elements = omega (arith, few);
    }

by_count : (z : ℤ) (zs : List ℤ) (ds : List ℕ) (b : Bool) → nat_le (length zs) 2 ≡ b
    → (if b then dims_from 1 (z ∷ zs) else None) ≡ Some ds → AreExtents ds
by_count z zs ds true h e =
    let few = few_of (length zs) h in
    within_limits (z ∷ zs) ds (omega arith) (omega (arith, few)) (from_within 1 (z ∷ zs) ds one_fits e)
by_count z zs ds false h e = absurd (cc e)

pub dims_within : (zs : List ℤ) (ds : List ℕ) → dims_of zs ≡ Some ds → AreExtents ds
dims_within [] ds e = absurd (cc e)
dims_within (z ∷ zs) ds e = by_count z zs ds (nat_le (length zs) 2) refl e

-- ---- of all parameters

found_within : (p : Param) (zs : List ℤ) (o : Option (List ℕ)) (ds : List ℕ) → dims_of zs ≡ o → dims_or_fault p o ≡ Ok ds → AreExtents ds
found_within p zs None ds at e = absurd (cc e)
found_within p zs (Some dims) ds at e = subst AreExtents (ok_same dims ds e) (dims_within zs dims at)

pub record AreFor (ps : List Param) (extents : List (List ℕ)) : Type 0 where
  pub many : length extents ≡ length ps
  pub each : Each AreExtents extents

joined : (p : Param) (ps : List Param) (first : Value (List ℕ)) (rest : Value (List (List ℕ)))
    → ((ds : List ℕ) → first ≡ Ok ds → AreExtents ds) → ((ys : List (List ℕ)) → rest ≡ Ok ys → AreFor ps ys)
    → (extents : List (List ℕ)) → and_then first (λ dims. before dims rest) ≡ Ok extents → AreFor (p ∷ ps) extents
joined p ps (Err x) rest one later extents e = absurd (cc e)
joined p ps (Ok dims) (Err x) one later extents e = absurd (cc e)
joined p ps (Ok dims) (Ok ys) one later extents e =
    let l = later ys refl in
    subst (AreFor (p ∷ ps)) (ok_same (dims ∷ ys) extents e) (record { many = ap suc l.many; each = (one dims refl, l.each) })

pub entry_within : (sizes : List SizeSet) (ps : List Param) (extents : List (List ℕ)) → entry_extents sizes ps ≡ Ok extents → AreFor ps extents
entry_within sizes [] extents e = subst (AreFor []) (ok_same [] extents e) (record { many = refl; each = tt })
entry_within sizes (p ∷ ps) extents e =
    joined p ps (param_dims sizes p) (entry_extents sizes ps)
    (λ ds at. found_within p (map (extent_of sizes) p.extents) (dims_of (map (extent_of sizes) p.extents)) ds refl at)
    (λ ys at. entry_within sizes ps ys at) extents e
