-- The places of arrays whose buffers have room.
use Rattle.std.proofs.Common.{◌≡◌, ◌≢◌, ◌⊎◌, inl, inr, ℕ, zero, suc, ◌+◌, ◌*◌, ◌<◌, ◌≤◌, List, [], ◌∷◌, length, map}
use Rattle.std.proofs.Common.{get_or, Some, refl, ap, ap₂, ◌∙◌, arith}
use Rattle.std.specs.Prelude.{slice_get}
use Rattle.std.specs.List.{All}
use Rattle.std.proofs.lemmas.Bool.{cases_lt}
use Rattle.std.proofs.lemmas.List.Elements.{All-cons, All-head, All-tail}
use Rattle.std.proofs.lemmas.Option.{slice_get_within, get_or_from_slice_get}
use Rattle.std.proofs.Math.Nat.{mul-le-mul_right}
use Rattle.sq_num.specs.declared.Elem.{Elem}
use Rattle.sq_num.specs.declared.Elem.TheVariants.{Byte, Int, Long}
use Rattle.sq_num.specs.Elements.{width}
use Rattle.sq_rect.specs.Extents.{product}
use Rattle.sq_leaf.specs.declared.shape.Shape.{Shape}
use Rattle.sq_plan_laws.specs.Codes.{bytes_in}
use Rattle.sq_flat.specs.Memory.{size_of}
use Rattle.sq_ir.specs.Plans.{setting_of, HaveRoom, IsLive, node_at}
use Rattle.sq_ir.specs.declared.plan.Plan.{Plan}
use Rattle.sq_root.specs.declared.place.Place.{Place}
use Rattle.sq_root.specs.Places.{parts, IsWithin, IsClear, AreApart, Fits}
use Rattle.sq_meant.specs.Places.{place_of, places_in, places_of}
use Rattle.sq_meant.proofs.Elements.{cut_long}

-- ---- sizes

wide : (e : Elem) → 0 < width e
wide Byte = omega arith
wide Int = omega arith
wide Long = omega arith

some_times : (m n : ℕ) → 0 < m → 0 < n → 0 < m * n
some_times m n a b =
    let one : 1 ≤ m = omega (arith, a) in
    let rows : 1 * n ≤ m * n = mul-le-mul_right n one in
    omega (arith, rows, b)

some_product : (ns : List ℕ) → All (λ k. 0 < k) ns → 0 < product ns
some_product [] h = omega arith
some_product (n ∷ ns) h =
    some_times n (product ns) (All-head (λ k. 0 < k) n ns h) (some_product ns (All-tail (λ k. 0 < k) n ns h))

-- an array that has elements has bytes
pub some_bytes : (sh : Shape) → All (λ k. 0 < k) sh.extents → 0 < bytes_in sh
some_bytes sh h = some_times (product sh.extents) (width sh.elem) (some_product sh.extents h) (wide sh.elem)

-- ---- two rows of bytes

-- rows inside greater ones that share no byte
apart_rows : (a m x b n y : ℕ) → m ≤ x → n ≤ y → 0 < m → 0 < n
    → ((k : ℕ) → a ≤ k → k < a + x → b ≤ k → k < b + y → ⊥) → (a + m ≤ b) ⊎ (b + n ≤ a)
apart_rows a m x b n y inx iny some_m some_n apart = elim (cases_lt b (a + m)) [
  | inl before ↦ (elim (cases_lt a (b + n)) [
    | inl both ↦ absurd (meeting before both)
    | inr over ↦ inr (omega (arith, over))
  ])
  | inr over ↦ inl (omega (arith, over))
]
  where
    -- the greater of their first bytes is in both
    meeting : b < a + m → a < b + n → ⊥
    meeting p q = elim (cases_lt a b) [
      | inl less ↦ apart b (omega (arith, less)) (omega (arith, p, inx)) (omega arith) (omega (arith, some_n, iny))
      | inr more ↦ apart a (omega arith) (omega (arith, some_m, inx)) (omega (arith, more)) (omega (arith, q, iny))
    ]

-- ---- places

module _ (p : Plan) where
  all_placed : (P : Place → Type 0) (bs : List ℕ) (shs : List Shape)
      → ((i b : ℕ) (sh : Shape) → slice_get bs i ≡ Some b → slice_get shs i ≡ Some sh → P (place_of p b sh))
      → All P (places_in p bs shs)
  all_placed P [] shs h = λ k d lt. absurd (omega (arith, lt))
  all_placed P (b ∷ bs) [] h = λ k d lt. absurd (omega (arith, lt))
  all_placed P (b ∷ bs) (sh ∷ shs) h =
      All-cons P (place_of p b sh) (places_in p bs shs) (h 0 b sh refl refl)
      (all_placed P bs shs (λ i c x e f. h (suc i) c x e f))

  apart_placed : (bs : List ℕ) (shs : List Shape)
      → ((i j b c : ℕ) (x y : Shape) → i < j → slice_get bs i ≡ Some b → slice_get shs i ≡ Some x
      → slice_get bs j ≡ Some c → slice_get shs j ≡ Some y → IsClear (place_of p b x) (place_of p c y))
      → AreApart (places_in p bs shs)
  apart_placed [] shs h = tt
  apart_placed (b ∷ bs) [] h = tt
  apart_placed (b ∷ bs) (sh ∷ shs) h = (
    all_placed (IsClear (place_of p b sh)) bs shs (λ j c y e f. h 0 (suc j) b c sh y (omega arith) refl refl e f),
    apart_placed bs shs (λ i j c d x y lt e f g k. h (suc i) (suc j) c d x y (omega (arith, lt)) e f g k),
  )

  pub many_placed : (bs : List ℕ) (shs : List Shape) → length bs ≡ length shs → length (places_in p bs shs) ≡ length shs
  many_placed [] [] e = refl
  many_placed [] (sh ∷ shs) e = absurd (omega (arith, e))
  many_placed (b ∷ bs) [] e = refl
  many_placed (b ∷ bs) (sh ∷ shs) e = ap suc (many_placed bs shs (omega (arith, e)))

  -- the place of an array, by its number
  pub place_at : (bs : List ℕ) (shs : List Shape) → length bs ≡ length shs → (n : ℕ) (sh : Shape)
      → slice_get shs n ≡ Some sh → slice_get (places_in p bs shs) n ≡ Some (place_of p (get_or bs n 0) sh)
  place_at [] [] e n sh there = absurd (cc there)
  place_at [] (x ∷ shs) e n sh there = absurd (omega (arith, e))
  place_at (b ∷ bs) [] e n sh there = absurd (omega (arith, e))
  place_at (b ∷ bs) (x ∷ shs) e zero sh there =
      let is : x ≡ sh = cc there in ap (λ (z : Shape). Some (place_of p b z)) is
  place_at (b ∷ bs) (x ∷ shs) e (suc n) sh there = place_at bs shs (omega (arith, e)) n sh there

  -- each is as long as its shape says
  pub whole_placed : (root : List ℕ) (bs : List ℕ) (shs : List Shape) → length bs ≡ length shs
      → All (IsWithin (length root)) (places_in p bs shs)
      → map length (parts (places_in p bs shs) root) ≡ map size_of shs
  whole_placed root [] [] e within = refl
  whole_placed root [] (sh ∷ shs) e within = absurd (omega (arith, e))
  whole_placed root (b ∷ bs) [] e within = absurd (omega (arith, e))
  whole_placed root (b ∷ bs) (sh ∷ shs) e within =
      let its : Place = place_of p b sh in
      let first = All-head (IsWithin (length root)) its (places_in p bs shs) within in
      let long = cut_long its.size its.at root first in
      ap₂ (λ n ns. n ∷ ns) (omega (arith, long))
      (whole_placed root bs shs (omega (arith, e)) (All-tail (IsWithin (length root)) its (places_in p bs shs) within))

-- ---- room

-- arrays with elements that fit into buffers of their own
pub record AreHoused (p : Plan) (shapes : List Shape) : Type 0 where
  pub many : length p.draft.entry ≡ length shapes
  pub distinct : (i j b : ℕ) → slice_get p.draft.entry i ≡ Some b → slice_get p.draft.entry j ≡ Some b → i ≡ j
  pub sizes : (i b : ℕ) (sh : Shape) → slice_get p.draft.entry i ≡ Some b → slice_get shapes i ≡ Some sh
      → bytes_in sh ≤ (setting_of p).size b
  pub some : (i : ℕ) (sh : Shape) → slice_get shapes i ≡ Some sh → 0 < bytes_in sh

module _ (p : Plan) (shapes : List Shape) (housed : AreHoused p shapes)
    (room : HaveRoom (setting_of p) (record { node = 0; buffers = p.draft.entry } ∷ [])) where
  live : (i b : ℕ) → slice_get p.draft.entry i ≡ Some b
      → IsLive (record { node = 0; buffers = p.draft.entry } ∷ []) 0 b
  live i b e = record {
    scope = record { node = 0; buffers = p.draft.entry };
    open_ = (0, omega arith, refl);
    at = refl;
    names = (i, slice_get_within p.draft.entry i b e, get_or_from_slice_get p.draft.entry i b b e);
  }

  inside : (i b : ℕ) (sh : Shape) → slice_get p.draft.entry i ≡ Some b → slice_get shapes i ≡ Some sh
      → IsWithin (node_at p.nodes 0).capacity (place_of p b sh)
  inside i b sh e f =
      let size = housed.sizes i b sh e f in
      let below = room.below 0 b (live i b e) in
      omega (arith, size, below)

  clear : (i j b c : ℕ) (x y : Shape) → i < j → slice_get p.draft.entry i ≡ Some b → slice_get shapes i ≡ Some x
      → slice_get p.draft.entry j ≡ Some c → slice_get shapes j ≡ Some y → IsClear (place_of p b x) (place_of p c y)
  clear i j b c x y lt eb ex ec ey =
      apart_rows ((setting_of p).offset b) (bytes_in x) ((setting_of p).size b) ((setting_of p).offset c) (bytes_in y)
      ((setting_of p).size c) (housed.sizes i b x eb ex) (housed.sizes j c y ec ey) (housed.some i x ex)
      (housed.some j y ey)
      (λ k fb lb fc lc. room.apart 0 b c k (live i b eb) (live j c ec) differ (record { from = fb; below = lb })
      (record { from = fc; below = lc }))
    where
      differ : b ≢ c
      differ same =
          let one : i ≡ j = housed.distinct i j c (eb ∙ ap Some same) ec in
          omega (arith, lt, one)

  pub housed_fit : Fits (places_of p shapes) (node_at p.nodes 0).capacity
  housed_fit = record {
    within = all_placed p (IsWithin (node_at p.nodes 0).capacity) p.draft.entry shapes inside;
    apart = apart_placed p p.draft.entry shapes clear;
  }
