-- Bytes of blocks are bytes of the elements that the blocks cover.
use Rattle.std.proofs.Common.{◌≡◌, ℕ, ◌+◌, ◌-◌, ◌*◌, ◌/◌, ◌%◌, ◌<◌, ◌≤◌, true, ◌&&◌, List, [], ◌∷◌, refl, sym, ap, ap₂}
use Rattle.std.proofs.Common.{◌∙◌, subst, arith}
use Rattle.std.specs.Prelude.{Some, slice_get, nat_le, nat_lt}
use Rattle.std.proofs.lemmas.Bool.Decides.{nat_tests}
use Rattle.sq_num.specs.Elements.{width}
use Rattle.sq_text.specs.declared.place.Span.{Span}
use Rattle.sq_rect.specs.Blocks.{Covers}
use Rattle.sq_rect.specs.Extents.{product}
use Rattle.sq_rect.specs.Placing.{IsIn}
use Rattle.sq_leaf.specs.declared.shape.Shape.{Shape}
use Rattle.sq_blocks.specs.declared.argument.Argument.{Argument}
use Rattle.sq_blocks.specs.Arguments.{lengths}
use Rattle.sq_work.specs.Meaning.{covers, in_array, in_block}
use Rattle.sq_cells.specs.Cells.{Spot, spot}
use Rattle.sq_plan_laws.specs.Coordinates.{number, coordinate, Fits}
use Rattle.sq_plan_laws.specs.Calling.{block_of}
use Rattle.sq_plan_laws.proofs.Coordinates.{in_of, block_at, element_under, byte_below, same_byte}

-- ---- coordinates that a block covers

pub covered : (rect : List Span) (cs : List ℕ) → covers rect cs ≡ true → Covers rect cs
covered [] [] e = tt
covered [] (c ∷ cs) e = cc
covered (s ∷ rect) [] e = cc
covered (s ∷ rect) (c ∷ cs) e =
    let low : s.lo ≤ c = grind (arith, nat_tests, e) in
    let high : c < s.hi = grind (arith, nat_tests, e) in
    let rest : covers rect cs ≡ true = grind (arith, nat_tests, e) in
    (low, high, covered rect cs rest)

-- the block's coordinates of a coordinate that it covers
pub cover_in : (rect : List Span) (cs : List ℕ) → Covers rect cs → IsIn (lengths rect) (in_block rect cs)
cover_in [] [] h = tt
cover_in [] (c ∷ cs) h = absurd h
cover_in (s ∷ rect) [] h = absurd h
cover_in (s ∷ rect) (c ∷ cs) h = (omega (arith, h.0, h.1), cover_in rect cs h.2)

pub cover_back : (rect : List Span) (cs : List ℕ) → Covers rect cs → in_array rect (in_block rect cs) ≡ cs
cover_back [] [] h = refl
cover_back [] (c ∷ cs) h = absurd h
cover_back (s ∷ rect) [] h = absurd h
cover_back (s ∷ rect) (c ∷ cs) h = ap₂ (λ x (l : List ℕ). x ∷ l) (omega (arith, h.0)) (cover_back rect cs h.2)

-- the array's coordinates of a block's are covered
pub covers_array : (rect : List Span) (cs : List ℕ) → IsIn (lengths rect) cs → covers rect (in_array rect cs) ≡ true
covers_array [] [] h = refl
covers_array [] (c ∷ cs) h = absurd h
covers_array (s ∷ rect) [] h = absurd h
covers_array (s ∷ rect) (c ∷ cs) h =
    let low : nat_le s.lo (s.lo + c) ≡ true = grind (arith, nat_tests) in
    let short : c < s.hi - s.lo = h.0 in
    let high : nat_lt (s.lo + c) s.hi ≡ true = grind (arith, nat_tests, short) in
    ap₂ (λ x y. x && (y && covers rect (in_array rect cs))) low high ∙ covers_array rect cs h.1

pub block_back : (rect : List Span) (cs : List ℕ) → IsIn (lengths rect) cs → in_block rect (in_array rect cs) ≡ cs
block_back [] [] h = refl
block_back [] (c ∷ cs) h = absurd h
block_back (s ∷ rect) [] h = absurd h
block_back (s ∷ rect) (c ∷ cs) h = ap₂ (λ x (l : List ℕ). x ∷ l) (omega arith) (block_back rect cs h.1)

-- ---- bytes of a block

-- byte k of a block: byte b of the element at cs of the block
pub record ByteOf (a : Argument) (of : Shape) (k : ℕ) : Type 0 where
  pub cs : List ℕ
  pub b : ℕ
  pub inside : IsIn (lengths a.rect) cs
  pub below : b < width of.elem
  pub number_is : number (lengths a.rect) cs * width of.elem + b ≡ k
  pub is : block_of (Some of) a k ≡ spot a.array (number of.extents (in_array a.rect cs) * width of.elem + b)

pub byte_of : (a : Argument) (of : Shape) (k : ℕ) → k < product (lengths a.rect) * width of.elem → ByteOf a of k
byte_of a of k lt =
    let h = element_under (lengths a.rect) (width of.elem) k lt in
    record {
      cs = coordinate (lengths a.rect) (k / width of.elem);
      b = k % width of.elem;
      inside = h.2;
      below = h.3;
      number_is = h.4;
      is = refl;
    }

-- the byte of an element that the block covers
pub record Found (a : Argument) (of : Shape) (cs : List ℕ) (b k : ℕ) : Type 0 where
  pub below : k < product (lengths a.rect) * width of.elem
  pub is : block_of (Some of) a k ≡ spot a.array (number of.extents cs * width of.elem + b)

pub found_at : (a : Argument) (of : Shape) (cs : List ℕ) (b : ℕ) → Covers a.rect cs → b < width of.elem
    → Found a of cs b (number (lengths a.rect) (in_block a.rect cs) * width of.elem + b)
found_at a of cs b h lb =
    let inn = cover_in a.rect cs h in
    record {
      below = byte_below (lengths a.rect) (in_block a.rect cs) (width of.elem) b inn lb;
      is = ap (spot a.array) (block_at (width of.elem) a.rect of.extents (in_block a.rect cs) b inn lb ∙ ap
          (λ c. number of.extents c * width of.elem + b) (cover_back a.rect cs h));
    }

-- a byte of a block that is byte d of the element at ds of an array
pub record Meets (a : Argument) (m : ℕ) (ds : List ℕ) : Type 0 where
  pub array : a.array ≡ m
  pub covers_it : covers a.rect ds ≡ true

area_of : (p q : Spot) → p ≡ q → p.area ≡ q.area
area_of p q e = ap (λ (v : Spot). v.area) e

index_of : (p q : Spot) → p ≡ q → p.index ≡ q.index
index_of p q e = ap (λ (v : Spot). v.index) e

-- which element a byte of a block is of
pub element_met : (outer : List Shape) (a : Argument) (of sh : Shape) (k m d : ℕ) (ds : List ℕ)
    → slice_get outer a.array ≡ Some of → Fits a.rect of.extents → k < product (lengths a.rect) * width of.elem
    → slice_get outer m ≡ Some sh → IsIn sh.extents ds → d < width sh.elem → block_of (slice_get outer a.array) a k
    ≡ spot m (number sh.extents ds * width sh.elem + d)
    → (a.array ≡ m) × (covers a.rect ds ≡ true) × (k ≡ number (lengths a.rect) (in_block a.rect ds) * width of.elem + d)
element_met outer a of sh k m d ds there fits lt there' at ld e =
    let h = byte_of a of k lt in
    let e' : block_of (Some of) a k ≡ spot m (number sh.extents ds * width sh.elem + d)
    = ap (λ o. block_of o a k) (sym there) ∙ e in
    let same = area_of _ _ e' in
    let shape : of ≡ sh = some_same (sym there ∙ ap (slice_get outer) same ∙ there') in
    go h (index_of _ _ (sym h.is ∙ e')) same shape
  where
    some_same : {x y : Shape} → Some x ≡ Some y → x ≡ y
    some_same q = cc

    go : (h : ByteOf a of k) → number of.extents (in_array a.rect h.cs) * width of.elem + h.b
        ≡ number sh.extents ds * width sh.elem + d → a.array ≡ m → of ≡ sh
        → (a.array ≡ m) × (covers a.rect ds ≡ true)
        × (k ≡ number (lengths a.rect) (in_block a.rect ds) * width of.elem + d)
    go h q same shape =
        let q' : number of.extents (in_array a.rect h.cs) * width of.elem + h.b ≡ number of.extents ds * width of.elem
        + d =
        q ∙ ap (λ (z : Shape). number z.extents ds * width z.elem + d) (sym shape) in
        let at' : IsIn of.extents ds = subst (λ (z : Shape). IsIn z.extents ds) (sym shape) at in
        let ld' : d < width of.elem = subst (λ (z : Shape). d < width z.elem) (sym shape) ld in
        let two = same_byte of.extents (in_array a.rect h.cs) ds (width of.elem) h.b d
        (in_of a.rect of.extents h.cs fits h.inside) at' h.below ld' q' in (
          same,
          sym (ap (covers a.rect) two.0) ∙ covers_array a.rect h.cs h.inside,
          sym h.number_is ∙ ap₂ (λ c x. number (lengths a.rect) c * width of.elem + x)
              (sym (block_back a.rect h.cs h.inside) ∙ ap (in_block a.rect) two.0) two.1,
        )
