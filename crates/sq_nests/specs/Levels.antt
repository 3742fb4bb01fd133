-- Levels of nodes.
use Rattle.std.specs.Prelude.{◌≡◌, ℕ, suc, ◌<◌}
use Rattle.sq_ir.specs.Written.{Setting}
use Rattle.sq_nests.specs.Nests.{End, Both, Open, Scopes}

-- a child of a node is one level deeper
pub record IsLayered (s : Setting) (depth : ℕ → ℕ) : Type 0 where
  pub root : depth 0 ≡ 0
  pub below : (node c : ℕ) → c < s.children node → depth (s.child node c) ≡ suc (depth node)

-- the nodes of scopes
abbrev pub AllNodes : (ℕ → Type 0) → Scopes → Type 0
AllNodes P End = Unit {0}
AllNodes P (Both a b) = AllNodes P a × AllNodes P b
AllNodes P (Open s a) = P s.node × AllNodes P a
