-- Sized arrays have rows, elements and bytes with numbers in 64 bits.
use Rattle.std.proofs.Common.{◌≡◌, ℕ, suc, ◌+◌, ◌-◌, ◌*◌, ◌<◌, ◌≤◌, pos, List, [], ◌∷◌, map}
use Rattle.std.proofs.Common.{Some, refl, ap₂, arith, le_refl, mul-le-mul}
use Rattle.std.specs.Prelude.{slice_get}
use Rattle.std.specs.List.{All}
use Rattle.sq_num.specs.declared.Elem.{Elem}
use Rattle.sq_num.specs.declared.Elem.TheVariants.{Byte, Int, Long}
use Rattle.sq_num.specs.Elements.{width, IsValue}
use Rattle.sq_rect.specs.Extents.{product, rows_of}
use Rattle.sq_leaf.specs.declared.shape.Shape.{Shape}
use Rattle.sq_forms.specs.Decls.{most_elements}
use Rattle.sq_ir.proofs.Counting.{small}
use Rattle.sq_program_laws.specs.PlanLaws.Seated.{HasDims}
use Rattle.sq_homes.specs.SpecLaws.Needs.{rounded, size_of}
use Rattle.sq_program_laws.specs.TermLaws.Fits.{HaveRows}
use Rattle.sq_program_laws.specs.TermLaws.Roomy.{IsWhole, IsShaped, AreDims, AreWhole}
use Rattle.sq_program_laws.specs.Sizes.{IsSized}

pub elements_small : (n : ℕ) → n ≤ most_elements → n ≤ 67108864
unfolding most_elements
elements_small n h = omega (arith, h)

-- ---- rows

all_tail : (n : ℕ) (ns : List ℕ) → All (λ k. 0 < k) (n ∷ ns) → All (λ k. 0 < k) ns
all_tail n ns h k d less = h (suc k) d (omega (arith, less))

all_head : (n : ℕ) (ns : List ℕ) → All (λ k. 0 < k) (n ∷ ns) → 0 < n
all_head n ns h = h 0 0 (omega arith)

rows_below : (ns : List ℕ) → All (λ k. 0 < k) ns → rows_of ns ≤ product ns
rows_below [] h = omega arith
rows_below (n ∷ []) h = let l = all_head n [] h in omega (arith, l)
rows_below (n ∷ m ∷ ns) h = mul-le-mul (le_refl n) (rows_below (m ∷ ns) (all_tail n (m ∷ ns) h))

pub rows_small : (ns : List ℕ) → IsSized ns → IsValue Long (pos (rows_of ns))
rows_small ns h =
    let a = rows_below ns h.some in
    let b = elements_small (product ns) h.few in
    small (rows_of ns) (omega (arith, a, b))

pub elements_fit : (ns : List ℕ) → IsSized ns → IsValue Long (pos (product ns))
elements_fit ns h = let b = elements_small (product ns) h.few in small (product ns) (omega (arith, b))

-- ---- the last coordinate

abbrev pub top : ℕ → ℕ
top n = n - 1

abbrev pub tops_of : List ℕ → List ℕ
tops_of ns = map top ns

pub tops_are : (ns : List ℕ) → All (λ k. 0 < k) ns → ns ≡ map suc (tops_of ns)
tops_are [] h = refl
tops_are (n ∷ ns) h =
    let l = all_head n ns h in
    let is : n ≡ suc (n - 1) = omega (arith, l) in
    ap₂ (λ (x : ℕ) (xs : List ℕ). x ∷ xs) is (tops_are ns (all_tail n ns h))

dims_are : (ns : List ℕ) → HasDims ns → AreDims (tops_of ns)
dims_are [] h = absurd h
dims_are (a ∷ []) h = tt
dims_are (a ∷ b ∷ []) h = tt
dims_are (a ∷ b ∷ c ∷ []) h = tt
dims_are (a ∷ b ∷ c ∷ d ∷ ns) h = absurd h

pub shaped : (x : Shape) → IsSized x.extents → IsShaped x (tops_of x.extents)
shaped x h = record { last = tops_are x.extents h.some; rows = rows_small x.extents h }

pub whole_of : (x : Shape) → IsSized x.extents → IsWhole x
whole_of x h = record {
  tops = tops_of x.extents;
  shaped = shaped x h;
  dims = dims_are x.extents h.dims;
  small = elements_fit x.extents h;
}

-- ---- lists of arrays

pub have_rows : (xs : List Shape) → ((n : ℕ) (x : Shape) → slice_get xs n ≡ Some x → IsSized x.extents) → HaveRows xs
have_rows [] h = tt
have_rows (x ∷ xs) h = (rows_small x.extents (h 0 x refl), have_rows xs (λ n y e. h (suc n) y e))

pub are_whole : (xs : List Shape) → ((n : ℕ) (x : Shape) → slice_get xs n ≡ Some x → IsSized x.extents) → AreWhole xs
are_whole [] h = tt
are_whole (x ∷ xs) h = (whole_of x (h 0 x refl), are_whole xs (λ n y e. h (suc n) y e))

-- ---- bytes

wide : (e : Elem) → width e ≤ 8
wide Byte = omega arith
wide Int = omega arith
wide Long = omega arith

pub rounded_up : (n : ℕ) → n ≤ rounded n
rounded_up n = omega arith

rounded_near : (n : ℕ) → rounded n ≤ n + 7
rounded_near n = omega arith

-- the greatest size, with what it is rounded up by
pub size_small : (e : Elem) (ns : List ℕ) → product ns ≤ 67108864 → size_of e ns < 4294967296
size_small e ns h =
    let a : width e * product ns ≤ 8 * 67108864 = mul-le-mul (wide e) h in
    let b = rounded_near (width e * product ns) in
    omega (arith, a, b)
