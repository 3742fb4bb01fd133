-- What names reach in a sweep: the bytes of their buffers, in colors of the buffers.
use Rattle.std.specs.Prelude.{◌+◌, ◌*◌, Bool, false, ◌&&◌, ◌||◌, nat_lt, if◌then◌else◌, min, List, [], ◌∷◌}
use Rattle.sq_ir.specs.Written.{Setting}
use Rattle.sq_plan_check.specs.declared.reach.Reach.{Reach}
use Rattle.sq_plan_check.specs.declared.reach.Row.{Row}
use Rattle.sq_rooms.specs.declared.named.Named.{Named}
use Rattle.sq_rooms.specs.declared.bound.Bound.{Bound}
use Rattle.sq_rooms.specs.Bounds.{is_below}
use Rattle.sq_rooms.specs.Room.{passes}

-- A node has as many keys as there are words of 32 bits. Bytes past these have the last key but one.
abbrev pub reach_of : Setting → Named → Reach
reach_of s x =
    record {
      lo = x.node * 4294967296 + min (s.offset x.buffer) 4294967294;
      hi = x.node * 4294967296 + min (min (s.offset x.buffer) 4294967294 + min (s.size x.buffer) 4294967295) 4294967295;
      color = x.buffer;
    }

-- a name that isn't below the bound reaches nothing, nor does an empty buffer
abbrev pub reaches_of : Setting → Bound → Named → List Reach
reaches_of s bound x = if is_below x bound && nat_lt 0 (s.size x.buffer) then reach_of s x ∷ [] else []

abbrev pub row_of : Setting → Bound → Named → Row
row_of s bound x = record { first = x.first; end = x.end; reaches = reaches_of s bound x }

abbrev pub any : List Bool → Bool
any [] = false
any (b ∷ bs) = b || any bs

abbrev pub passes_below : Setting → Bound → Named → Bool
passes_below s bound x = is_below x bound && passes s x.node x.buffer
