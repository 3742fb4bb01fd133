-- What the i-th buffer of a scope weighs, and which arm a number has.
use Rattle.std.specs.Prelude.{ℕ, Bool, ◌&&◌, nat_lt, List, take, get_or, if◌then◌else◌, ℤ, pos, negsuc}
use Rattle.sq_ir.specs.declared.plan.Buffer.{Buffer}
use Rattle.sq_nests.specs.Drafts.{size_in}
use Rattle.sq_nests.specs.Weights.{is_again}

abbrev pub weight_at : List Buffer → (once : Bool) → List ℕ → ℕ → ℕ
weight_at buffers once bs i = if once
    && is_again buffers (take i bs) (get_or bs i 0) then 0 else size_in buffers (get_or bs i 0)

-- how many arms there are stands for a number that has none
abbrev pub arm_index : ℤ → (arms : ℕ) → ℕ
arm_index (pos k) n = if nat_lt k n then k else n
arm_index (negsuc k) n = n
