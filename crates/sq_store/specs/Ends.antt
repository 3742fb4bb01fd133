-- Where the buffers of a level end.
use Rattle.std.specs.Prelude.{ℕ, zero, suc, ◌+◌, max, List, length, get_or, if◌then◌else◌}
use Rattle.sq_ir.specs.declared.plan.Buffer.{Buffer}
use Rattle.sq_ir.specs.declared.plan.Plan.{Plan}
use Rattle.sq_nests.specs.Stacks.{capped, of_level}
use Rattle.sq_nests.specs.Drafts.{size_in}

-- the end of a buffer of the level; of another it is 0
abbrev pub end_at : List Buffer → (offsets : List ℕ) → (level b : ℕ) → ℕ
end_at buffers offsets level b = if of_level buffers level b then capped (get_or offsets b 0 + size_in buffers b) else 0

-- of the first so many buffers
abbrev pub greatest_end_of : List Buffer → (offsets : List ℕ) → (level count : ℕ) → ℕ
greatest_end_of buffers offsets level zero = 0
greatest_end_of buffers offsets level (suc k)
    = max (greatest_end_of buffers offsets level k) (end_at buffers offsets level k)

-- the greatest end of a buffer of the level; 0 where it has none
abbrev pub greatest_end : Plan → (level : ℕ) → ℕ
greatest_end p level = greatest_end_of p.draft.buffers p.offsets level (length p.draft.buffers)
