-- The sum over one edge more.
use Rattle.std.proofs.Common.{◌≡◌, ℕ, ◌+◌, ◌-◌, ◌^◌, min, [], ◌∷◌, map, sym, ap, ap₂, ◌∙◌, arith}
use Rattle.std.specs.List.{range_with_len, sum_by}
use Rattle.std.proofs.lemmas.List.FromFn.{map-range_with_len_more}
use Rattle.std.proofs.lemmas.List.Sums.{sum_by-append}
use Rattle.sq_ir.specs.declared.plan.Plan.{Plan}
use Rattle.sq_ir.specs.declared.traffic.Carried.{Carried}
use Rattle.sq_nests.specs.Stacks.{capped}
use Rattle.sq_sums.specs.Totals.{carried_by}
use Rattle.sq_tune_text.specs.Traffic.{both_ways}

abbrev pub up_to : Plan → ℕ → ℕ
up_to p k = sum_by both_ways (map (carried_by p) (range_with_len 0 k))

grown : (p : Plan) (k : ℕ) → up_to p (k + 1) ≡ up_to p k + (0 + both_ways (carried_by p k))
grown p k = ap (sum_by both_ways) (map-range_with_len_more (carried_by p) 0 k k (omega arith)) ∙ sum_by-append both_ways (map (carried_by p) (range_with_len 0 k)) (carried_by p k ∷ [])

-- where a sum stops at 64 bits after each step, it stops there at the end
stops : (s down up : ℕ) → min (min (min s (2 ^ 64 - 1) + down) (2 ^ 64 - 1) + up) (2 ^ 64 - 1) ≡ min (s + (0 + (down + up))) (2 ^ 64 - 1)
stops s down up = omega arith

pub no_edge : 0 ≡ capped 0
unfolding capped
no_edge = omega arith

pub edge_more : (p : Plan) (k sum : ℕ) (c : Carried) → sum ≡ capped (up_to p k) → c ≡ carried_by p k
    → min (min (sum + c.down) (2 ^ 64 - 1) + c.up) (2 ^ 64 - 1) ≡ capped (up_to p (k + 1))
unfolding capped
edge_more p k sum c so_far is =
    ap₂ (λ (s : ℕ) (c : Carried). min (min (s + c.down) (2 ^ 64 - 1) + c.up) (2 ^ 64 - 1)) so_far is
    ∙ stops (up_to p k) (carried_by p k).down (carried_by p k).up ∙ ap (λ n. min n (2 ^ 64 - 1)) (sym (grown p k))
