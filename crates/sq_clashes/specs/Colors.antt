-- Colors in which events reach bytes: two touches of one byte get along where they are of one color.
use Rattle.std.specs.Prelude.{ℕ, ◌+◌, ◌*◌, nat_lt, if◌then◌else◌}
use Rattle.sq_num.specs.declared.Elem.{Elem}
use Rattle.sq_num.specs.declared.Elem.TheVariants.{Byte, Int, Long}
use Rattle.sq_num.specs.declared.RedOp.{RedOp}
use Rattle.sq_num.specs.declared.RedOp.TheVariants.{Add, Mul, Min, Max, And, Or, Xor}
use Rattle.sq_touches.specs.declared.touch.Way.{Way}
use Rattle.sq_touches.specs.declared.touch.Way.TheVariants.{Reads, Adds, Writes}

abbrev pub op_number : RedOp → ℕ
op_number Add = 0
op_number Mul = 1
op_number Min = 2
op_number Max = 3
op_number And = 4
op_number Or = 5
op_number Xor = 6

abbrev pub elem_number : Elem → ℕ
elem_number Byte = 0
elem_number Int = 1
elem_number Long = 2

-- a color that the sums of one operator, element type and place modulo the width have for themselves
abbrev pub sum_color : RedOp → Elem → (place : ℕ) → ℕ
sum_color op elem place = 1 + (op_number op * 24 + (elem_number elem * 8 + place))

-- a color that an event has for itself
abbrev pub own_color : (event : ℕ) → ℕ
own_color event = 256 + event

-- the color of what an event with this own color touches
abbrev pub color_of : Way → (own : ℕ) → ℕ
color_of Reads own = 0
color_of (Adds op elem place) own = if nat_lt place 8 then sum_color op elem place else own
color_of Writes own = own
