-- What may be asked of a plan by its form in place of its states and places.
use Rattle.std.specs.Prelude.{◌≡◌, Bool, true, List}
use Rattle.sq_ir.specs.Tree.{Tree}
use Rattle.sq_ir.specs.Unordered.{EachUnordered, AllUnordered}
use Rattle.sq_ir.specs.Scopes.{Scope, InEachState, MayBeOpen}
use Rattle.sq_ir.specs.Events.{Leaves, AreIndependent}
use Rattle.sq_ir.specs.Written.{Setting, PlanTree}
use Rattle.sq_ir.specs.Plans.{HaveRoom}

-- What holds of all scopes that may be open together holds of the open scopes in each state.
abbrev pub HoldsWhereOpen : (E S : Type 0) → Type 0
HoldsWhereOpen E S =
    (test : List S → Bool) (t : Tree E S) → ((scopes : List S) → MayBeOpen t scopes → test scopes ≡ true)
    → InEachState (λ scopes. test scopes ≡ true) t

-- Buffers that have room in all scopes that may be open together have room in each state.
abbrev pub HaveRoomWhereOpen : Type 0
HaveRoomWhereOpen =
    (s : Setting) (t : PlanTree) → ((scopes : List Scope) → MayBeOpen t scopes → HaveRoom s scopes)
    → InEachState (HaveRoom s) t

-- each of two statements follows from the other
pub record AreOne (P Q : Type 0) : Type 0 where
  pub there : P → Q
  pub back : Q → P

-- What doesn't ask which of two events is the left one holds of all unordered events by their places where it holds of
-- them by the form of the tree, and the other way round.
abbrev pub UnorderedByForm : (E S : Type 0) → Type 0
UnorderedByForm E S =
    (test : E → E → Bool) → ((e f : E) → test e f ≡ true → test f e ≡ true) → (t : Tree E S)
    → AreOne (EachUnordered (λ e f. test e f ≡ true) t) (AllUnordered (λ e f. test e f ≡ true) t)

-- So it is of independence.
abbrev pub IndependentByForm : (C : Type 0) → Type 0
IndependentByForm C =
    (leaves : Leaves C) (t : PlanTree) → AreOne (EachUnordered (AreIndependent leaves) t) (AllUnordered (AreIndependent leaves) t)
