-- Where every buffer counts, a scope weighs the sum of their sizes.
use Rattle.std.proofs.Common.{◌≡◌, ℕ, ◌+◌, false, List, [], ◌∷◌, ◌++◌, max, refl, ap, ap₂}
use Rattle.sq_ir.specs.declared.plan.Buffer.{Buffer}
use Rattle.sq_nests.specs.Nests.{End, Both, Open, Scopes}
use Rattle.sq_nests.specs.Stacks.{total, at_node, sum_at}
use Rattle.sq_nests.specs.Drafts.{size_in}
use Rattle.sq_nests.specs.Weights.{weigh_from, weigh}

weigh_total : (buffers : List Buffer) (seen bs : List ℕ) → weigh_from buffers false seen bs ≡ total (size_in buffers) bs
weigh_total buffers seen [] = refl
weigh_total buffers seen (b ∷ bs) = ap (λ k. size_in buffers b + k) (weigh_total buffers (seen ++ b ∷ []) bs)

pub need_is_sum : (buffers : List Buffer) (node : ℕ) (x : Scopes) → sum_at (weigh buffers false) node x
    ≡ sum_at (total (size_in buffers)) node x
need_is_sum buffers node End = refl
need_is_sum buffers node (Both a b) = ap₂ max (need_is_sum buffers node a) (need_is_sum buffers node b)
need_is_sum buffers node (Open s a)
    = ap₂ (λ m n. m + n) (weigh_total buffers [] (at_node node s)) (need_is_sum buffers node a)
