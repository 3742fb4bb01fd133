-- What the buffers of a scope weigh.
use Rattle.std.specs.Prelude.{ℕ, ◌+◌, Bool, true, false, ◌||◌, ◌&&◌, List, [], ◌∷◌, ◌++◌, Option, Some, None}
use Rattle.std.specs.Prelude.{if◌then◌else◌, slice_get}
use Rattle.sq_text.specs.Names.{same_name}
use Rattle.sq_ir.specs.declared.plan.Buffer.{Buffer}
use Rattle.sq_nests.specs.Drafts.{size_in}

abbrev pub same_array : Option Buffer → Option Buffer → Bool
same_array None y = false
same_array (Some x) None = false
same_array (Some x) (Some y) = same_name x.instance y.instance && same_name x.array y.array

-- a buffer of the same instance and array is among these
abbrev pub is_again : List Buffer → List ℕ → ℕ → Bool
is_again buffers [] b = false
is_again buffers (c ∷ cs) b = same_array (slice_get buffers c) (slice_get buffers b) || is_again buffers cs b

-- The sizes of buffers, one after another; with `once` those of one instance and one array weigh what the first does.
abbrev pub weigh_from : List Buffer → (once : Bool) → (seen : List ℕ) → List ℕ → ℕ
weigh_from buffers once seen [] = 0
weigh_from buffers once seen (b ∷ bs) =
    (if once && is_again buffers seen b then 0 else size_in buffers b) + weigh_from buffers once (seen ++ b ∷ []) bs

abbrev pub weigh : List Buffer → (once : Bool) → List ℕ → ℕ
weigh buffers once bs = weigh_from buffers once [] bs
