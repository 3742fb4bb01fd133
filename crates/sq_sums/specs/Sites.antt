-- Scopes of a part of a term.
use Rattle.std.specs.Prelude.{ℕ, Bool}
use Rattle.sq_ir.specs.declared.term.Term.{Term}

-- how many bytes are open at a scope's node in it; its body, and whether that is gone through on its own
pub record Site : Type 0 where
  pub body : Term
  pub top : ℕ
  pub own : Bool
