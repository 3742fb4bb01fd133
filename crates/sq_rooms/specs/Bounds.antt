-- Names in the order of nodes, and at one node in that of buffers.
use Rattle.std.specs.Prelude.{◌≡◌, ℕ, Bool, true, ◌&&◌, ◌||◌, nat_lt, nat_eq, List}
use Rattle.sq_ir.specs.Written.{Setting}
use Rattle.sq_rooms.specs.declared.named.Named.{Named}
use Rattle.sq_rooms.specs.declared.bound.Bound.{Bound}
use Rattle.sq_rooms.specs.Names.{LackIn}

abbrev pub comes_first : (node buffer other later : ℕ) → Bool
comes_first n b m c = nat_lt n m || (nat_eq n m && nat_lt b c)

abbrev pub is_below : Named → Bound → Bool
is_below x bound = comes_first x.node x.buffer bound.node bound.buffer

-- no buffers of which the later one stands below the bound lack room
pub record NoneBelow (s : Setting) (xs : List Named) (bound : Bound) : Type 0 where
  pub none : (node b c : ℕ) → LackIn s xs node b c → comes_first node c bound.node bound.buffer ≡ true → ⊥
