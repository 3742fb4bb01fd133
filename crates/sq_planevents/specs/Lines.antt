-- What the lines of a plan file say of its buffers.
use Rattle.std.specs.Prelude.{ℕ, Bool, false, nat_eq}
use Rattle.std.specs.List.{slice_get}
use Rattle.std.specs.Option.{option_map_or}
use Rattle.sq_plantext.specs.declared.text.BufferLine.{BufferLine}
use Rattle.sq_plantext.specs.declared.text.PlanText.{PlanText}
use Rattle.sq_planevents.specs.declared.lines.Room.{Room}

abbrev pub room_in : BufferLine → Room
room_in b = record { level = b.level; offset = b.offset; size = b.size }

abbrev pub room_of : PlanText → ℕ → Room
room_of x b = option_map_or room_in (slice_get x.buffers b) (record { level = 0; offset = 0; size = 0 })

-- the buffer is there and has this level
abbrev pub is_at : PlanText → (level b : ℕ) → Bool
is_at x level b = option_map_or (λ (l : BufferLine). nat_eq l.level level) (slice_get x.buffers b) false
