-- How many bytes memories of zeros have.
use Rattle.std.proofs.Common.{◌≡◌, ℕ, zero, suc, List, [], ◌∷◌, length, replicate, refl, ap}
use Rattle.sq_ir.specs.declared.plan.PlanNode.{PlanNode}
use Rattle.sq_ir.specs.Plans.{node_at}
use Rattle.sq_tree.specs.Bank.{zeros, size_in}

so-many : (n : ℕ) → length {A = ℕ} (replicate n 0) ≡ n
so-many zero = refl
so-many (suc n) = ap suc (so-many n)

pub zeros-size : (ns : List PlanNode) → size_in (zeros ns) 0 ≡ (node_at ns 0).capacity
zeros-size [] = refl
zeros-size (n ∷ ns) = so-many n.capacity
