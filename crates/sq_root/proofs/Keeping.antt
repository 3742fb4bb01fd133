-- Banks of which only places of the root change.
use Rattle.std.proofs.Common.{◌≡◌, ◌≢◌, ℕ, zero, suc, ◌+◌, ◌<◌, ◌≤◌, refl, sym, ap, ◌∙◌, subst, arith}
use Rattle.std.proofs.Common.{List, [], ◌∷◌, length, map, get_or, Option, Result}
use mathlib.Core.Logic.{inl, inr}
use Rattle.sq_port.specs.Ports.{Content}
use Rattle.sq_arrays.specs.declared.refusal.ArraysEnd.{ArraysEnd}
use Rattle.sq_arrays.specs.Arrays.{Wanted, arrays_of}
use Rattle.sq_arrays.specs.Targets.{GivesArrays, put_in}
use Rattle.sq_arrays.specs.Window.{IsTold}
use Rattle.sq_tree.specs.Bank.{BankSeen, PutsRoot, bytes_at, size_in, put_at, put_first}
use Rattle.sq_root.specs.declared.place.Place.{Place}
use Rattle.sq_root.specs.Places.{parts, IsClear, IsOutside, Fits, KeepsOutside}
use Rattle.sq_root.specs.Roots.{arrays_at}
use Rattle.sq_root.specs.PlaceLaws.{ClearPartsStay, SizesStay, PreparedStays}
use Rattle.sq_root.proofs.Parts.{place_at, put-length, part-same, byte-stays}
use Rattle.sq_root.proofs.Fitting.{PutsPart, arrays-are}

-- ---- bytes put into the first node

no-bytes : (at : ℕ) (piece : List ℕ) → at + length piece ≤ 0 → put_at at piece [] ≡ []
no-bytes zero [] none = refl
no-bytes zero (b ∷ bs) none = absurd (omega arith)
no-bytes (suc at) piece none = absurd (omega arith)

root-put : (at : ℕ) (piece : List ℕ) (nodes : List (List ℕ)) → at + length piece ≤ size_in nodes 0
    → bytes_at (put_first (put_at at piece) nodes) 0 ≡ put_at at piece (bytes_at nodes 0)
root-put at piece [] fits = sym (no-bytes at piece fits)
root-put at piece (root ∷ rest) fits = refl

others-put : (f : List ℕ → List ℕ) (nodes : List (List ℕ)) (node : ℕ) → node ≢ 0
    → bytes_at (put_first f nodes) node ≡ bytes_at nodes node
others-put f [] node other = refl
others-put f (root ∷ rest) zero other = absurd (other refl)
others-put f (root ∷ rest) (suc node) other = refl

sizes-put : (at : ℕ) (piece : List ℕ) (nodes : List (List ℕ)) → at + length piece ≤ size_in nodes 0
    → map length (put_first (put_at at piece) nodes) ≡ map length nodes
sizes-put at piece [] fits = refl
sizes-put at piece (root ∷ rest) fits = ap (λ n. n ∷ map length rest) (put-length at piece root fits)

-- ---- bytes put into a place

module _ (places : List Place) (array k : ℕ) (piece : List ℕ) (old now : BankSeen) where
  abbrev the_place : Place
  the_place = place_at places array

  module _ (puts : PutsPart places array k piece (bytes_at old.nodes 0)) where
    pub room : the_place.at + k + length piece ≤ size_in old.nodes 0
    room = let within = puts.within in let below = puts.below in omega (arith, within, below)

    -- where the place is spelt in another way
    module _ (begin : ℕ) (its : begin ≡ the_place.at + k) (there : PutsRoot begin piece old now) where
      put : PutsRoot (the_place.at + k) piece old now
      put = subst (λ (at : ℕ). PutsRoot at piece old now) its there

      root-is : bytes_at now.nodes 0 ≡ put_at (the_place.at + k) piece (bytes_at old.nodes 0)
      root-is = ap (λ nodes. bytes_at nodes 0) put.nodes ∙ root-put (the_place.at + k) piece old.nodes room

      pub arrays-put : arrays_at places (bytes_at now.nodes 0)
          ≡ put_in array k piece (arrays_at places (bytes_at old.nodes 0))
      arrays-put = ap (arrays_at places) root-is ∙ puts.arrays

      pub keeps-put : KeepsOutside places old now
      keeps-put = record {
        openings = put.openings;
        plan = put.plan;
        events = put.events;
        counts = put.counts;
        edges = put.edges;
        sizes = ap (map length) put.nodes ∙ sizes-put (the_place.at + k) piece old.nodes room;
        others = λ node other.
            ap (λ nodes. bytes_at nodes node) put.nodes
            ∙ others-put (put_at (the_place.at + k) piece) old.nodes node other;
        outside = λ i out.
            ap (λ bytes. get_or bytes i 0) root-is
            ∙ byte-stays the_place k piece (bytes_at old.nodes 0) puts.within puts.below i (out array _ puts.there);
      }

-- ---- sizes

size-at : (xs ys : List (List ℕ)) → map length xs ≡ map length ys → (n : ℕ)
    → length (get_or xs n []) ≡ length (get_or ys n [])
size-at [] [] same n = refl
size-at [] (y ∷ ys) same n = absurd (let no : [] ≡ length y ∷ map length ys = same in cc)
size-at (x ∷ xs) [] same n = absurd (let no : length x ∷ map length xs ≡ [] = same in cc)
size-at (x ∷ xs) (y ∷ ys) same zero = let both : length x ∷ map length xs ≡ length y ∷ map length ys = same in cc
size-at (x ∷ xs) (y ∷ ys) same (suc n) =
    size-at xs ys (let both : length x ∷ map length xs ≡ length y ∷ map length ys = same in cc) n

pub sizes-stay : SizesStay
sizes-stay places old now keeps n = size-at now.nodes old.nodes keeps.sizes n

pub prepared-stays : PreparedStays
prepared-stays p places old now is keeps = record { plan = keeps.plan ∙ is.plan; sizes = keeps.sizes ∙ is.sizes }

-- ---- parts that are clear

outside-of : (p q : Place) (i : ℕ) → q.at ≤ i → i < q.at + q.size → IsClear q p → IsOutside i p
outside-of p q i low high (inl before) = inl (omega (arith, high, before))
outside-of p q i low high (inr behind) = inr (omega (arith, low, behind))

pub clear-stay : ClearPartsStay
clear-stay reads old now q keeps clear within =
    part-same q (bytes_at now.nodes 0) (bytes_at old.nodes 0) within (sizes-stay reads old now keeps 0) (λ i low high.
    keeps.outside i (λ j d less. outside-of _ q i low high (clear j d less)))

-- ---- a whole reading

abbrev Gives : List Wanted → List (List ℕ) → Result (Unit {0}) ArraysEnd → List ℕ → Type 0
Gives ws arrays result bytes = GivesArrays ws arrays result (arrays_of ws bytes)

fitting-gives : (ws : List Wanted) (places : List Place) (old now : BankSeen) (result : Result (Unit {0}) ArraysEnd)
    (bytes : List ℕ) → Fits places (size_in old.nodes 0) → KeepsOutside places old now
    → Gives ws (arrays_at places (bytes_at now.nodes 0)) result bytes
    → Gives ws (parts places (bytes_at now.nodes 0)) result bytes
fitting-gives ws places old now result bytes fits keeps gives =
    let now_fits = subst (Fits places) (sym (sizes-stay places old now keeps 0)) fits in
    subst (λ arrays. Gives ws arrays result bytes) (arrays-are places (bytes_at now.nodes 0) now_fits) gives

-- also where the places and the bank at the end are spelt in another way
pub reading-gives : {Bank : Type 0} (seen : Bank → BankSeen) (told : Option Content) (name : List ℕ) (ws : List Wanted)
    (places now_places : List Place) (old now that : Bank) (result : Result (Unit {0}) ArraysEnd) → that ≡ now
    → now_places ≡ places → Fits places (size_in (seen old).nodes 0) → KeepsOutside places (seen old) (seen now)
    → ((bytes : List ℕ) → IsTold told name bytes
    → Gives ws (arrays_at now_places (bytes_at (seen now).nodes 0)) result bytes)
    → (bytes : List ℕ) → IsTold told name bytes
    → Gives ws (parts places (bytes_at (seen that).nodes 0)) result bytes
reading-gives {Bank} seen told name ws places now_places old now that result is same fits keeps gives bytes its =
    subst (λ (bank : Bank). Gives ws (parts places (bytes_at (seen bank).nodes 0)) result bytes) (sym is)
    (fitting-gives ws places (seen old) (seen now) result bytes fits keeps
    (subst (λ (ps : List Place). Gives ws (arrays_at ps (bytes_at (seen now).nodes 0)) result bytes) same
    (gives bytes its)))
