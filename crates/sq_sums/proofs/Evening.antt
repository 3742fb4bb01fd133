-- Where each node has as many children as are told of its level, so have those of the levels below.
use Rattle.std.proofs.Common.{◌≡◌, ℕ, zero, suc, ◌+◌, ◌<◌, Bool, true, false, List, [], ◌∷◌, length, get_or, drop, refl}
use Rattle.std.proofs.Common.{sym, ap, ◌∙◌, arith}
use Rattle.std.specs.Prelude.{◌==◌, ◌&&◌, ◌||◌, not}
use Rattle.std.proofs.lemmas.Bool.{eqb-true}
use Rattle.sq_ir.specs.Traffic.{level_in}
use Rattle.sq_ir.specs.declared.plan.PlanNode.{PlanNode}
use Rattle.sq_sums.specs.Sums.{fan_at}
use Rattle.sq_sums.specs.Fans.{are_even}

-- the nodes of each level from this one on have as many children as are told
abbrev pub AreTold : List PlanNode → (fans : List ℕ) → (level : ℕ) → Type 0
AreTold ns fs l = (n d : ℕ) → n < length ns → level_in ns n ≡ l + d → fan_at ns n ≡ get_or fs d 0

both : (u v : Bool) → (u && v) ≡ true → (u ≡ true) × (v ≡ true)
both true v h = (refl, h)
both false v h = absurd (let z = h in cc)

even_at : (ns : List PlanNode) (fs : List ℕ) (n : ℕ) → are_even ns fs ≡ true → n < length ns
    → fan_at ns n ≡ get_or fs (level_in ns n) 0
even_at [] fs n e l = absurd (omega (arith, l))
even_at (x ∷ ns) fs zero e l =
    let b = both (get_or fs x.level 0 == x.children) (are_even ns fs) e in
    sym (eqb-true (get_or fs x.level 0) x.children b.0)
even_at (x ∷ ns) fs (suc n) e l =
    let b = both (get_or fs x.level 0 == x.children) (are_even ns fs) e in
    even_at ns fs n b.1 (omega (arith, l))

pub told_all : (ns : List PlanNode) (fs : List ℕ) → are_even ns fs ≡ true → AreTold ns fs 0
told_all ns fs e n d l i =
    let z : level_in ns n ≡ d = omega (arith, i) in
    even_at ns fs n e l ∙ ap (λ k. get_or fs k 0) z

past_first : (fs : List ℕ) (d : ℕ) → get_or fs (suc d) 0 ≡ get_or (drop 1 fs) d 0
past_first [] d = refl
past_first (f ∷ fs) d = refl

pub told_below : (ns : List PlanNode) (fs : List ℕ) (l : ℕ) → AreTold ns fs l → AreTold ns (drop 1 fs) (suc l)
told_below ns fs l h n d u i = h n (suc d) u (omega (arith, i)) ∙ past_first fs d

-- what is asked for is told
pub told_if : (asked even : Bool) → (not asked || even) ≡ true → asked ≡ true → even ≡ true
told_if true even h a = h
told_if false even h a = absurd (let z = a in cc)
