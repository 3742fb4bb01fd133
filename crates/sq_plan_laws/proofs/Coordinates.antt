-- Elements by their numbers, and bytes of blocks.
use Rattle.std.proofs.Common.{◌≡◌, ℕ, zero, suc, ◌+◌, ◌*◌, ◌/◌, ◌%◌, ◌<◌, List, [], ◌∷◌, sym, ap, ap₂, ◌∙◌, subst}
use Rattle.std.proofs.Common.{arith}
use Rattle.std.proofs.Math.Nat.{mod-lt, div-lt_iff_lt-mul}
use Rattle.std.proofs.lemmas.Nat.{div-mul-add, mod-mul-add, div-add-mod'}
use Rattle.sq_text.specs.declared.place.Span.{Span}
use Rattle.sq_rect.specs.Extents.{product}
use Rattle.sq_rect.specs.Placing.{IsIn}
use Rattle.sq_rect.proofs.Placing.{inside, distinct}
use Rattle.sq_blocks.specs.Arguments.{lengths}
use Rattle.sq_work.specs.Meaning.{in_array}
use Rattle.sq_plan_laws.specs.Coordinates.{number, coordinate, block_cell, Fits}

-- where there is an element, there is one behind each number of the first dimension
some_behind : (n p k : ℕ) → k < n * p → 0 < p
some_behind n zero k lt = let z : n * 0 ≡ 0 = omega arith in absurd (omega (arith, lt, z))
some_behind n (suc p) k lt = omega arith

pub coordinate_in : (ns : List ℕ) (k : ℕ) → k < product ns → IsIn ns (coordinate ns k)
coordinate_in [] k lt = tt
coordinate_in (n ∷ ns) k lt =
    let some : 0 < product ns = some_behind n (product ns) k lt in
    ((div-lt_iff_lt-mul some).1 lt, coordinate_in ns (k % product ns) (mod-lt k some))

pub number_of_coordinate : (ns : List ℕ) (k : ℕ) → k < product ns → number ns (coordinate ns k) ≡ k
number_of_coordinate [] k lt = omega (arith, lt)
number_of_coordinate (n ∷ ns) k lt =
    let some : 0 < product ns = some_behind n (product ns) k lt in
    ap (λ x. k / product ns * product ns + x) (number_of_coordinate ns (k % product ns) (mod-lt k some))
    ∙ div-add-mod' k (product ns)

pub coordinate_of_number : (ns cs : List ℕ) → IsIn ns cs → coordinate ns (number ns cs) ≡ cs
coordinate_of_number ns cs at =
    let low : number ns cs < product ns = inside ns cs at in
    distinct ns (coordinate ns (number ns cs)) cs (coordinate_in ns (number ns cs) low) at
    (number_of_coordinate ns (number ns cs) low)

-- the array's coordinates of a block's lie inside
pub in_of : (spans : List Span) (ns cs : List ℕ) → Fits spans ns → IsIn (lengths spans) cs → IsIn ns (in_array spans cs)
in_of [] [] [] fits at = tt
in_of [] [] (c ∷ cs) fits at = absurd at
in_of [] (n ∷ ns) cs fits at = absurd fits
in_of (s ∷ spans) [] cs fits at = absurd fits
in_of (s ∷ spans) (n ∷ ns) [] fits at = absurd at
in_of (s ∷ spans) (n ∷ ns) (c ∷ cs) fits at = (omega (arith, at.0, fits.1, fits.0), in_of spans ns cs fits.2 at.1)

-- byte b of a block's element is byte b of the array's element
pub block_at : (w : ℕ) (rect : List Span) (ns cs : List ℕ) (b : ℕ) → IsIn (lengths rect) cs → b < w
    → block_cell w rect ns (number (lengths rect) cs * w + b) ≡ number ns (in_array rect cs) * w + b
block_at w rect ns cs b at lb =
    ap₂ (λ x y. number ns (in_array rect (coordinate (lengths rect) x)) * w + y)
    (div-mul-add (number (lengths rect) cs) w b lb) (mod-mul-add (number (lengths rect) cs) w b lb)
    ∙ ap (λ c. number ns (in_array rect c) * w + b) (coordinate_of_number (lengths rect) cs at)

-- a byte of an array is a byte of one of its elements
pub element_under : (ns : List ℕ) (w k : ℕ) → k < product ns * w → (0 < w) × (k / w < product ns)
    × IsIn ns (coordinate ns (k / w)) × (k % w < w) × (number ns (coordinate ns (k / w)) * w + k % w ≡ k)
element_under ns w k lt =
    let some : 0 < w = some_behind (product ns) w k lt in
    let low : k / w < product ns = (div-lt_iff_lt-mul some).1 lt in (
      some,
      low,
      coordinate_in ns (k / w) low,
      mod-lt k some,
      ap (λ x. x * w + k % w)
          (number_of_coordinate ns (k / w) low) ∙ div-add-mod' k w,
    )

pub byte_below : (ns cs : List ℕ) (w b : ℕ) → IsIn ns cs → b < w → number ns cs * w + b < product ns * w
byte_below ns cs w b at lb =
    let some : 0 < w = omega (arith, lb) in
    (div-lt_iff_lt-mul some).0 (subst (λ x. x < product ns) (sym (div-mul-add (number ns cs) w b lb)) (inside ns cs at))

-- bytes of two elements that are one are the same byte of the same element
pub same_byte : (ns cs ds : List ℕ) (w b d : ℕ) → IsIn ns cs → IsIn ns ds → b < w → d < w → number ns cs * w + b
    ≡ number ns ds * w + d → (cs ≡ ds) × (b ≡ d)
same_byte ns cs ds w b d at to lb ld e = (
  distinct ns cs ds at to (sym (div-mul-add (number ns cs) w b lb) ∙ ap (λ x. x / w) e ∙ div-mul-add (number ns ds) w
      d ld),
  sym (mod-mul-add (number ns cs) w b lb) ∙ ap (λ x. x % w) e ∙ mod-mul-add (number ns ds) w d ld,
)
