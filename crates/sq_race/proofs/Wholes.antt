-- A block that is a whole array shares an element with each block of it.
use Rattle.std.proofs.Common.{◌≡◌, ℕ, ◌<◌, ◌≤◌, ◌&&◌, nat_lt, nat_le, nat_eq, Bool, true, false, List, [], ◌∷◌, Some, refl, sym, ap, subst, arith}
use Rattle.std.proofs.lemmas.Bool.Decides.{nat_tests}
use Rattle.sq_text.specs.declared.place.Span.{Span}
use Rattle.sq_rect.specs.Blocks.{Covers, Share}
use Rattle.sq_blocks.specs.Insides.{AreSpansIn}
use Rattle.sq_blocks.specs.Spans.{wholes, span_of}
use Rattle.sq_blocks.proofs.BlocksHold.{is_span, joined}
use Rattle.sq_work.specs.Meaning.{covers}

pub both : (a b : Bool) → (a && b) ≡ true → (a ≡ true) × (b ≡ true)
both true b h = (refl, h)
both false b h = absurd (cc h)

at_most : (a b : ℕ) → nat_le a b ≡ true → a ≤ b
at_most a b h = grind (arith, nat_tests)

below : (a b : ℕ) → nat_lt a b ≡ true → a < b
below a b h = grind (arith, nat_tests)

pub equal : (a b : ℕ) → nat_eq a b ≡ true → a ≡ b
equal a b h = grind (arith, nat_tests)

pub itself : (a b : ℕ) → a ≡ b → nat_eq a b ≡ true
itself a b h = grind (arith, nat_tests)

-- the test of a coordinate
pub covered : (spans : List Span) (cs : List ℕ) → covers spans cs ≡ true → Covers spans cs
covered [] [] h = tt
covered [] (c ∷ cs) h = absurd (cc h)
covered (s ∷ spans) [] h = absurd (cc h)
covered (s ∷ spans) (c ∷ cs) h =
    let a = both (nat_le s.lo c) (nat_lt c s.hi && covers spans cs) h in
    let b = both (nat_lt c s.hi) (covers spans cs) a.1 in
    (at_most s.lo c a.0, below c s.hi b.0, covered spans cs b.1)

pub shared_whole : (ns : List ℕ) (rect spans : List Span) → wholes ns ≡ Some rect → AreSpansIn ns spans → Share rect spans
shared_whole [] rect [] w h = let e : [] ≡ rect = cc w in subst (λ (r : List Span). Share r []) e (record { coordinate = []; in_one = tt; in_other = tt })
shared_whole [] rect (s ∷ spans) w h = absurd h
shared_whole (n ∷ ns) rect [] w h = absurd h
shared_whole (n ∷ ns) rect (s ∷ spans) w h =
    let j = joined (span_of 0 n) (wholes ns) rect w in
    let e = is_span 0 n j.0 j.2 in
    let rest = shared_whole ns j.1 spans j.3 h.2 in
    let lo : j.0.lo ≡ 0 = ap (λ (t : Span). t.lo) e.0 in
    let hi : j.0.hi ≡ n = ap (λ (t : Span). t.hi) e.0 in
    let proper : s.lo < s.hi = h.0 in
    let within : s.hi ≤ n = h.1 in
    subst (λ (r : List Span). Share r (s ∷ spans)) (sym j.4) (record {
      coordinate = s.lo ∷ rest.coordinate;
      in_one = (omega (arith, lo), omega (arith, hi, proper, within), rest.in_one);
      in_other = (omega arith, proper, rest.in_other);
    })

pub share_flipped : (a b : List Span) → Share a b → Share b a
share_flipped a b h = record { coordinate = h.coordinate; in_one = h.in_other; in_other = h.in_one }
