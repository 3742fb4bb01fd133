-- Which buffers share a byte, and which pass a capacity, as tests.
use Rattle.std.specs.Prelude.{ℕ, ◌-◌, Bool, ◌&&◌, ◌||◌, nat_lt, nat_le}
use Rattle.sq_ir.specs.Written.{Setting}

-- the byte is one of so many bytes
abbrev pub is_in : (at from size : ℕ) → Bool
is_in at from size = nat_le from at && nat_lt (at - from) size

-- the first byte of the one is a byte of the other
abbrev pub overlap : (from size other more : ℕ) → Bool
overlap from size other more = (nat_lt 0 more && is_in other from size) || (nat_lt 0 size && is_in from other more)

abbrev pub shares : Setting → (b c : ℕ) → Bool
shares s b c = overlap (s.offset b) (s.size b) (s.offset c) (s.size c)

abbrev pub is_past : (capacity from size : ℕ) → Bool
is_past capacity from size = nat_lt capacity from || nat_lt (capacity - from) size

abbrev pub passes : Setting → (node b : ℕ) → Bool
passes s node b = is_past (s.capacity node) (s.offset b) (s.size b)
