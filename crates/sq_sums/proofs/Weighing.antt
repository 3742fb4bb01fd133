-- What a scope weighs, buffer by buffer.
use Rattle.std.proofs.Common.{◌≡◌, ℕ, zero, suc, ◌+◌, ◌-◌, ◌<◌, ◌≤◌, ◌^◌, min, Bool, List, [], ◌∷◌, ◌++◌, length}
use Rattle.std.proofs.Common.{get_or, take, drop, refl, sym, ap, ◌∙◌, arith}
use Rattle.sq_ir.specs.declared.plan.Buffer.{Buffer}
use Rattle.sq_nests.specs.Stacks.{capped}
use Rattle.sq_nests.specs.Weights.{weigh_from, weigh}
use Rattle.sq_sums.specs.Scales.{weight_at}
use Rattle.sq_sums.proofs.Words64.{capped_is, capped_word, capped_step}

take_next : (bs : List ℕ) (i : ℕ) → i < length bs → take (suc i) bs ≡ take i bs ++ get_or bs i 0 ∷ []
take_next [] i h = absurd (omega (arith, h))
take_next (b ∷ bs) zero h = refl
take_next (b ∷ bs) (suc i) h = ap (λ l. b ∷ l) (take_next bs i (omega (arith, h)))

drop_next : (bs : List ℕ) (i : ℕ) → i < length bs → drop i bs ≡ get_or bs i 0 ∷ drop (suc i) bs
drop_next [] i h = absurd (omega (arith, h))
drop_next (b ∷ bs) zero h = refl
drop_next (b ∷ bs) (suc i) h = drop_next bs i (omega (arith, h))

weigh_next : (buffers : List Buffer) (once : Bool) (bs : List ℕ) (i : ℕ) → i < length bs
    → weigh_from buffers once (take i bs) (drop i bs) ≡ weight_at buffers once bs i
    + weigh_from buffers once (take (suc i) bs) (drop (suc i) bs)
weigh_next buffers once bs i h =
    ap (weigh_from buffers once (take i bs)) (drop_next bs i h)
    ∙ ap (λ z. weight_at buffers once bs i + weigh_from buffers once z (drop (suc i) bs)) (sym (take_next bs i h))

-- one buffer more
pub weighed_more : (buffers : List Buffer) (once : Bool) (bs : List ℕ) (i sum next w k : ℕ) → i < length bs → k ≡ i + 1
    → w ≡ weight_at buffers once bs i → next ≡ min (sum + w) (2 ^ 64 - 1)
    → capped (sum + weigh_from buffers once (take i bs) (drop i bs)) ≡ capped (weigh buffers once bs)
    → capped (next + weigh_from buffers once (take k bs) (drop k bs)) ≡ capped (weigh buffers once bs)
weighed_more buffers once bs i sum next w k h e f g l =
    let q : k ≡ suc i = omega (arith, e) in
    let z = weigh_next buffers once bs i h in
    let u : capped (next + weigh_from buffers once (take (suc i) bs) (drop (suc i) bs))
    ≡ capped (sum + weigh_from buffers once (take i bs) (drop i bs)) =
    (ap (λ m. capped (m + weigh_from buffers once (take (suc i) bs) (drop (suc i) bs))) (g ∙ capped_is (sum + w))
    ∙ capped_step (sum + w) (weigh_from buffers once (take (suc i) bs) (drop (suc i) bs))
    ∙ ap capped (omega (arith, z, f))) in
    ap (λ m. capped (next + weigh_from buffers once (take m bs) (drop m bs))) q ∙ u ∙ l

drop_all : (bs : List ℕ) (i : ℕ) → length bs ≤ i → drop i bs ≡ []
drop_all [] zero h = refl
drop_all [] (suc i) h = refl
drop_all (b ∷ bs) zero h = absurd (omega (arith, h))
drop_all (b ∷ bs) (suc i) h = drop_all bs i (omega (arith, h))

pub weighed_all : (buffers : List Buffer) (once : Bool) (bs : List ℕ) (i sum : ℕ) → length bs ≤ i → sum < 2 ^ 64
    → capped (sum + weigh_from buffers once (take i bs) (drop i bs)) ≡ capped (weigh buffers once bs) → sum
    ≡ capped (weigh buffers once bs)
weighed_all buffers once bs i sum h l e =
    capped_word sum l ∙ ap (λ z. capped (sum + weigh_from buffers once (take i bs) z)) (sym (drop_all bs i h)) ∙ e
