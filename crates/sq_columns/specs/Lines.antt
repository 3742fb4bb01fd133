-- The numbers of the turns of a loop.
use Rattle.std.specs.Prelude.{◌≡◌, ℕ, ◌+◌, ◌*◌, ◌≤◌, Bool, true, false, List, get_or, Option, Some, ℤ, pos, ◌+ℤ◌, ◌*ℤ◌, unsigned_abs}
use Rattle.sq_ast.specs.declared.expr.BinOp.{BinOp}
use Rattle.sq_ast.specs.declared.expr.BinOp.TheVariants.{Div, Rem}
use Rattle.sq_columns.specs.declared.line.Line.{Line}
use Rattle.sq_columns.specs.declared.line.Line.TheVariants.{Same, Ramp, Column}
use Rattle.sq_leaf.specs.Numbers.{wrapped}

-- the number of a turn
abbrev pub line_at : Line → List ℤ → ℕ → ℤ
line_at (Same x) column j = x
line_at (Ramp a d) column j = wrapped (a +ℤ d *ℤ pos j)
line_at Column column j = get_or column j (pos 0)

-- the same as a place in a memory
abbrev pub first_byte : Line → List ℤ → ℕ → ℕ
first_byte l column j = unsigned_abs (line_at l column j)

-- the number is the first byte of an element of so many bytes that lies inside a memory
pub record IsFirst (w size : ℕ) (x : ℤ) : Type 0 where
  pub natural : x ≡ pos (unsigned_abs x)
  pub ends : unsigned_abs x + w ≤ size

abbrev pub divides : BinOp → Bool
divides Div = true
divides Rem = true
divides _ = false

-- the number is the first byte of an element of a view that begins at a byte and whose elements have so many bytes: the one
-- with this offset, which is at most so many elements
pub record IsSpot (at w most : ℕ) (offset : Option ℕ) (x : ℤ) : Type 0 where
  pub before : ℕ
  pub there : offset ≡ Some before
  pub low : before ≤ most
  pub is : x ≡ pos (at + w * before)

-- a first byte that lies so many bytes further on for each one of an index
abbrev pub moved : ℤ → ℤ → ℤ → ℤ
moved by spot index = wrapped (spot +ℤ wrapped (index *ℤ by))
