-- Small works whose meaning is computed by hand.
use Rattle.std.specs.Prelude.{◌≡◌, ℕ, zero, suc, nat_eq, ℤ, pos, ◌+ℤ◌, true, false, ◌||◌, List, [], ◌∷◌, Option, Some, None, Result, Ok, Err, if◌then◌else◌}
use Rattle.sq_num.specs.declared.Elem.TheVariants.{Byte, Int}
use Rattle.sq_num.specs.declared.RedOp.TheVariants.{Add}
use Rattle.sq_leaf.specs.Text.declared.place.Place.{Place}
use Rattle.sq_leaf.specs.Ast.declared.program.Mode.{Mode}
use Rattle.sq_leaf.specs.Ast.declared.program.Mode.TheVariants.{Input, Output, Both}
use Rattle.sq_leaf.specs.declared.trap.Trap.{Trap}
use Rattle.sq_leaf.specs.declared.trap.TrapKind.TheVariants.{DivZero}
use Rattle.sq_leaf.specs.Source.{Arrays}
use Rattle.sq_leaf.specs.Blocks.declared.argument.Argument.{Argument}
use Rattle.sq_work.specs.Work.{Work, Then, Each, AtOnce, Gathers, Call, Leaf}
use Rattle.sq_work.specs.Meaning.{Outcome, meaning}

abbrev pub a_place : Place
a_place = record { line = 1; col = 1 }

-- one element of an array of one dimension
abbrev pub element : Mode → ℕ → ℕ → Argument
element mode array i = record { mode = mode; is_reduced = false; array = array; rect = record { lo = i; hi = suc i } ∷ [] }

-- the elements of arrays 0 and 1, of which each has three
abbrev pub three : ℤ → ℤ → ℤ → ℕ → ℤ
three x y z i = if nat_eq i 0 then x else (if nat_eq i 1 then y else z)

abbrev pub at_first : (ℕ → ℤ) → List ℕ → ℤ
at_first f [] = pos 0
at_first f (i ∷ rest) = f i

abbrev pub arrays : (ℕ → ℤ) → (ℕ → ℤ) → Arrays
arrays f g n cs = if nat_eq n 0 then at_first f cs else at_first g cs

-- `Y[0] = X[0];` with parameters X and Y
abbrev pub copies : Arrays → Result Arrays Trap
copies a = Ok (λ n cs. if nat_eq n 1 then a 0 cs else a n cs)

-- `Y[0] += X[0];`
abbrev pub adds : Arrays → Result Arrays Trap
adds a = Ok (λ n cs. if nat_eq n 1 then a 1 cs +ℤ a 0 cs else a n cs)

abbrev pub traps : Arrays → Result Arrays Trap
traps a = Err (record { kind = DivZero; place = a_place })

-- the call `copy(A[t], A[t + 1])`
abbrev pub moves : ℕ → Work
moves t = Call 1 true (element Input 0 t ∷ element Output 0 (suc t) ∷ []) (Leaf copies)

-- the call `add(A[t], S)`
abbrev pub sums : ℕ → Work
sums t = Call 1 true (element Input 0 t ∷ element Both 1 0 ∷ []) (Leaf adds)

-- the call `fail(A[t])` in all iterations from the second on
abbrev pub fails : ℕ → Work
fails zero = Call 1 true (element Both 0 0 ∷ []) (Leaf copies)
fails (suc t) = Call 1 true (element Both 0 (suc t) ∷ []) (Leaf traps)

abbrev pub value_of : Outcome → ℕ → ℕ → Option ℤ
value_of (Ok s) n i = Some (s n (i ∷ []))
value_of (Err x) n i = None

abbrev pub path_of : Outcome → Option (List ℕ)
path_of (Ok s) = None
path_of (Err x) = Some x.path

-- A of 7, 0, 0
abbrev pub sevens : Arrays
sevens = arrays (three (pos 7) (pos 0) (pos 0)) (three (pos 0) (pos 0) (pos 0))

-- A of 1, 2, 3, and S of 10
abbrev pub numbers : Arrays
numbers = arrays (three (pos 1) (pos 2) (pos 3)) (three (pos 10) (pos 0) (pos 0))

abbrev pub by_sum : Work
by_sum = Gathers (record { op = Add; elem = Int; array = 1 }) a_place 3 sums

-- A is 7, 0, 0: a `mapseq` of two moves makes it 7, 7, 7, and a `mappar`, whose iterations both read the start, 7, 7, 0
pub record MovesDiffer : Type 0 where
  pub in_turn : value_of (meaning (Each 2 moves) sevens) 0 2 ≡ Some (pos 7)
  pub at_once : value_of (meaning (AtOnce a_place 2 moves) sevens) 0 2 ≡ Some (pos 0)
  pub first : value_of (meaning (AtOnce a_place 2 moves) sevens) 0 1 ≡ Some (pos 7)

-- A is 1, 2, 3 and S is 10: a `mapreduce` by + over it makes S 16, and leaves A
pub record SumsCombine : Type 0 where
  pub sum : value_of (meaning by_sum numbers) 1 0 ≡ Some (pos 16)
  pub rest : value_of (meaning by_sum numbers) 0 2 ≡ Some (pos 3)

-- two iterations round three, of which all but the first trap: the trap is that of 0, 1
pub record TrapsHavePaths : Type 0 where
  pub in_turn : path_of (meaning (Each 2 (λ i. Each 3 fails)) numbers) ≡ Some (0 ∷ 1 ∷ [])
  pub at_once : path_of (meaning (AtOnce a_place 2 (λ i. AtOnce a_place 3 fails)) numbers) ≡ Some (0 ∷ 1 ∷ [])

-- the call `add(A[0], S)` of a task whose second parameter is `out`: S begins with a zero, so its 10 doesn't count
abbrev pub adds_to_out : Work
adds_to_out = Call 1 true (element Input 0 0 ∷ element Output 1 0 ∷ []) (Leaf adds)

pub record OutBeginsWithZeros : Type 0 where
  pub sum : value_of (meaning adds_to_out numbers) 1 0 ≡ Some (pos 1)

-- `T[0] += X[0]; Y[0] = T[0];` with parameters X and Y and a local T
abbrev pub adds_to_local : Arrays → Result Arrays Trap
adds_to_local a = Ok (λ n cs. if nat_eq n 1 || nat_eq n 2 then a 2 cs +ℤ a 0 cs else a n cs)

abbrev pub by_local : Work
by_local = Call 1 true (element Input 0 2 ∷ element Output 1 0 ∷ []) (Leaf adds_to_local)

-- called twice, it finds a zero in its local both times
pub record LocalsBeginWithZeros : Type 0 where
  pub once : value_of (meaning by_local numbers) 1 0 ≡ Some (pos 3)
  pub twice : value_of (meaning (Then by_local by_local) numbers) 1 0 ≡ Some (pos 3)

-- the call `add(S, S)`: its first parameter keeps what S was at the start
abbrev pub adds_itself : Work
adds_itself = Call 1 true (element Input 1 0 ∷ element Both 1 0 ∷ []) (Leaf adds)

pub record ArgumentsAreValues : Type 0 where
  pub sum : value_of (meaning adds_itself numbers) 1 0 ≡ Some (pos 20)

-- A of 100, 100, 100 and S of 200, in bytes: a `mapreduce` by + over A makes S 500 without what a byte doesn't hold
abbrev pub hundreds : Arrays
hundreds = arrays (three (pos 100) (pos 100) (pos 100)) (three (pos 200) (pos 0) (pos 0))

abbrev pub by_bytes : Work
by_bytes = Gathers (record { op = Add; elem = Byte; array = 1 }) a_place 3 sums

pub record SumsWrap : Type 0 where
  pub sum : value_of (meaning by_bytes hundreds) 1 0 ≡ Some (pos 244)
