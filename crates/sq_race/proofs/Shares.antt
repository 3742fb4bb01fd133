-- Blocks share a coordinate exactly where the spans of each dimension share a number.
use Rattle.std.proofs.Common.{◌≡◌, ◌↔◌, IsTrue, ℕ, ◌<◌, ◌≤◌, max, arith, refl, sym, Bool, true, false, ◌&&◌, eqb, List, [], ◌∷◌, length, ◌∙◌}
use Rattle.std.proofs.lemmas.Grind.{common_steps}
use Rattle.std.proofs.lemmas.Bool.{eqb-true}
use Rattle.sq_text.specs.declared.place.Span.{Span}
use Rattle.sq_rect.specs.Blocks.{Covers, Share}
use Rattle.sq_race.specs.Blocks.{overlaps, span_overlaps}
use Rattle.sq_race.specs.Accesses.{block_of, shares}

common : (s t : Span) (x : ℕ) → s.lo ≤ x → x < s.hi → t.lo ≤ x → x < t.hi → span_overlaps s t ≡ true
common s t x a b c d = grind (arith, common_steps)

first_common : (s t : Span) → span_overlaps s t ≡ true → (s.lo ≤ max s.lo t.lo) × (max s.lo t.lo < s.hi) × (t.lo ≤ max s.lo t.lo) × (max s.lo t.lo < t.hi)
first_common s t e = (grind (arith, common_steps), grind (arith, common_steps), grind (arith, common_steps), grind (arith, common_steps))

three : (x y z : Bool) → x ≡ true → y ≡ true → z ≡ true → (x && y && z) ≡ true
three x y z p q r = grind (arith, common_steps)

two : (x y : Bool) → x ≡ true → y ≡ true → (x && y) ≡ true
two x y p q = grind (arith, common_steps)

halves : (x y : Bool) → (x && y) ≡ true → (x ≡ true) × (y ≡ true)
halves true y e = (refl, e)
halves false y e = absurd (cc)

no_way : false ≡ true → ⊥
no_way e = cc

pub share_of : (a b : List Span) → shares a b ≡ true → Share a b
share_of [] [] e = record { coordinate = []; in_one = tt; in_other = tt }
share_of [] (t ∷ b) e = absurd (cc)
share_of (s ∷ a) [] e = absurd (cc)
share_of (s ∷ a) (t ∷ b) e =
    let p = halves (span_overlaps s t) (shares a b) e in
    let x = first_common s t p.0 in
    let rest = share_of a b p.1 in
    record { coordinate = max s.lo t.lo ∷ rest.coordinate; in_one = (x.0, x.1, rest.in_one); in_other = (x.2, x.3, rest.in_other) }

both_cover : (a b : List Span) (c : List ℕ) → Covers a c → Covers b c → shares a b ≡ true
both_cover [] [] c p q = refl
both_cover [] (t ∷ b) [] p q = absurd q
both_cover [] (t ∷ b) (x ∷ c) p q = absurd p
both_cover (s ∷ a) b [] p q = absurd p
both_cover (s ∷ a) [] (x ∷ c) p q = absurd q
both_cover (s ∷ a) (t ∷ b) (x ∷ c) p q = two (span_overlaps s t) (shares a b) (common s t x p.0 p.1 q.0 q.1) (both_cover a b c p.2 q.2)

pub of_share : (a b : List Span) → Share a b → shares a b ≡ true
of_share a b h = both_cover a b h.coordinate h.in_one h.in_other

-- the first three dimensions
pub blocks_overlap : (r s : List Span) → shares r s ≡ true → overlaps (block_of r) (block_of s) ≡ true
blocks_overlap [] [] e = refl
blocks_overlap [] (b ∷ s) e = absurd (cc)
blocks_overlap (a ∷ r) [] e = absurd (cc)
blocks_overlap (a ∷ []) (b ∷ []) e = three (span_overlaps a b) true true (halves (span_overlaps a b) true e).0 refl refl
blocks_overlap (a ∷ []) (b ∷ d ∷ s) e = absurd (no_way (halves (span_overlaps a b) false e).1)
blocks_overlap (a ∷ c ∷ r) (b ∷ []) e = absurd (no_way (halves (span_overlaps a b) false e).1)
blocks_overlap (a ∷ c ∷ r) (b ∷ d ∷ s) e = more (halves (span_overlaps a b) (shares (c ∷ r) (d ∷ s)) e) where
  more : (span_overlaps a b ≡ true) × (shares (c ∷ r) (d ∷ s) ≡ true) → overlaps (block_of (a ∷ c ∷ r)) (block_of (b ∷ d ∷ s)) ≡ true
  more p = deeper r s p.0 (halves (span_overlaps c d) (shares r s) p.1) where
    deeper : (r s : List Span) → span_overlaps a b ≡ true → (span_overlaps c d ≡ true) × (shares r s ≡ true) → overlaps (block_of (a ∷ c ∷ r)) (block_of (b ∷ d ∷ s)) ≡ true
    deeper [] [] p q = three (span_overlaps a b) (span_overlaps c d) true p q.0 refl
    deeper [] (g ∷ s) p q = absurd (cc)
    deeper (f ∷ r) [] p q = absurd (cc)
    deeper (f ∷ r) (g ∷ s) p q = three (span_overlaps a b) (span_overlaps c d) (span_overlaps f g) p q.0 (halves (span_overlaps f g) (shares r s) q.1).0

shares_same : (a b : List Span) → shares a b ≡ true → length a ≡ length b
shares_same [] [] e = refl
shares_same [] (t ∷ b) e = absurd (cc)
shares_same (s ∷ a) [] e = absurd (cc)
shares_same (s ∷ a) (t ∷ b) e = let rest = shares_same a b (halves (span_overlaps s t) (shares a b) e).1 in omega arith

-- a test of the definition
pub as_shares : (a b : List Span) (x : Bool) → IsTrue x ↔ Share a b → x ≡ shares a b
as_shares a b true d = sym (of_share a b (d.0 refl))
as_shares a b false d = go (shares a b) refl where
  go : (y : Bool) → shares a b ≡ y → false ≡ shares a b
  go true e = absurd (no_way (d.1 (share_of a b e)))
  go false e = sym e

pub unlike_apart : (a b : List Span) → (length a ≡ length b → ⊥) → false ≡ shares a b
unlike_apart a b differ = go (shares a b) refl where
  go : (y : Bool) → shares a b ≡ y → false ≡ shares a b
  go true e = absurd (differ (shares_same a b e))
  go false e = sym e

pub unlike_test : (a b : List Span) (n m : ℕ) → n ≡ length a → m ≡ length b → (n ≡ m → ⊥) → eqb n m ≡ shares a b
unlike_test a b n m p q differ = go (eqb n m) refl where
  go : (y : Bool) → eqb n m ≡ y → eqb n m ≡ shares a b
  go true e = absurd (differ (eqb-true n m e))
  go false e = e ∙ unlike_apart a b (λ same. differ (p ∙ same ∙ sym q))
