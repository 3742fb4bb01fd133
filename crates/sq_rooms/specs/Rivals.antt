-- The least buffer that lacks room with a later one.
use Rattle.std.specs.Prelude.{ℕ, Bool, false, ◌&&◌, nat_lt, nat_eq, if◌then◌else◌, min, max, Option, Some, None, List, [], ◌∷◌}
use Rattle.sq_ir.specs.Written.{Setting}
use Rattle.sq_rooms.specs.declared.named.Named.{Named}
use Rattle.sq_rooms.specs.Room.{shares, passes}

-- names the same buffer at the same node
abbrev pub is_same : (later x : Named) → Bool
is_same l x = nat_eq x.node l.node && nat_eq x.buffer l.buffer

-- names an earlier buffer there that shares a byte with it
abbrev pub is_rival : Setting → (later x : Named) → Bool
is_rival s l x = nat_eq x.node l.node && (nat_lt x.buffer l.buffer && shares s x.buffer l.buffer)

abbrev pub lesser : Option ℕ → ℕ → Option ℕ
lesser None b = Some b
lesser (Some a) b = Some (min a b)

abbrev pub lesser_if : Bool → Option ℕ → ℕ → Option ℕ
lesser_if t best b = if t then lesser best b else best

-- ---- rivals that stand behind the later buffer

-- the greatest number at which one of its names ends
abbrev pub end_with : (later : Named) → ℕ → Named → ℕ
end_with l end x = if is_same l x then max end x.end else end

-- the least rival that begins before a name of it ends that stands before the rival
abbrev pub behind : Setting → (later : Named) → (end : ℕ) → Option ℕ → List Named → Option ℕ
behind s l end best [] = best
behind s l end best (x ∷ xs) = behind s l (end_with l end x) (lesser_if (nat_lt x.first end && is_rival s l x) best x.buffer) xs

-- ---- rivals that stand before it

-- the least number at which one of its names begins
abbrev pub start_with : (later : Named) → Option ℕ → Named → Option ℕ
start_with l start x = lesser_if (is_same l x) start x.first

abbrev pub start : (later : Named) → List Named → Option ℕ
start l [] = None
start l (x ∷ xs) = start_with l (start l xs) x

abbrev pub begins_in : Option ℕ → Named → Bool
begins_in None x = false
begins_in (Some n) x = nat_lt n x.end

-- the least rival that ends behind the start of a name of it that stands behind the rival
abbrev pub before : Setting → (later : Named) → Option ℕ → List Named → Option ℕ
before s l best [] = best
before s l best (x ∷ xs) = lesser_if (begins_in (start l xs) x && is_rival s l x) (before s l best xs) x.buffer

-- ---- both, and the buffer itself

abbrev pub or_itself : Setting → (later : Named) → Option ℕ → Option ℕ
or_itself s l (Some b) = Some b
or_itself s l None = if passes s l.node l.buffer then Some l.buffer else None

abbrev pub earliest : Setting → List Named → (later : Named) → Option ℕ
earliest s xs l = or_itself s l (before s l (behind s l 0 None xs) xs)
