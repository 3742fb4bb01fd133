-- What is held of an open file: its bytes from a place on, as they were read last.
use Rattle.std.specs.Prelude.{◌≡◌, ℕ, ◌-◌, List, [], ◌++◌, take, drop, length, min, nat_lt, if◌then◌else◌}
use Rattle.sq_cli.specs.declared.adapters.Piece.{Piece}

-- those of them from a place of the file on
abbrev pub held_from : Piece → ℕ → List ℕ
held_from p at = if nat_lt at p.start then [] else take (p.len - (at - p.start)) (drop (at - p.start) p.room.items)

-- as many of them as there is room for stand in front, and what stood behind is as it was
abbrev pub IsCopied : Piece → ℕ → ℕ → List ℕ → List ℕ → Type 0
IsCopied p at n old new = (n ≡ min (length (held_from p at)) (length old))
    × (new ≡ take n (held_from p at) ++ drop n old)
