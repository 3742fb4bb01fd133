-- The order of a run: what it holds, as the words and the order list say, and the faults of an order list.
use Rattle.std.specs.Prelude.{◌≡◌, ℕ, List, [], ◌∷◌, Option, Ok, Err}
use Rattle.sq_text.specs.declared.fault.Fault.{Fault}
use Rattle.sq_port.specs.Orders.{seed_start}
use Rattle.sq_picks.specs.OrderList.{order_list}
use Rattle.sq_words.specs.Words.{Way, first, last, seed, list, order}
use Rattle.sq_driver.specs.Phases.{Inputs}
use Rattle.sq_driver.specs.Holding.{Holds}

-- the text is an order list, and these are its numbers in turn
abbrev pub IsOrderList : List ℕ → List ℕ → Type 0
IsOrderList text picks = order_list text ≡ Ok picks

-- the text is none, and has this fault before all others
abbrev pub ListFault : List ℕ → Fault → Type 0
ListFault text its = order_list text ≡ Err its

-- the order list has this fault before all others
abbrev pub IsFirstOfOrder : Inputs → Fault → Type 0
IsFirstOfOrder inputs its = Holds ListFault (inputs order) its

-- the numbers of the list, behind that of its way
abbrev pub ListHolds : Option (List ℕ) → List ℕ → Type 0
ListHolds listed held = (picks : List ℕ) × Holds IsOrderList listed picks × (held ≡ 3 ∷ picks)

-- an order list of some numbers is held
abbrev pub IsListed : List ℕ → Type 0
IsListed held = (picks : List ℕ) × (held ≡ 3 ∷ picks)

-- What the order of these words holds before the run: the number of its way, and behind it the generator of the seed or
-- what the list says.
abbrev pub HeldBy : Way → (ByList : List ℕ → Type 0) → List ℕ → Type 0
HeldBy first ByList held = held ≡ 0 ∷ []
HeldBy last ByList held = held ≡ 1 ∷ []
HeldBy (seed n) ByList held = held ≡ 2 ∷ seed_start n
HeldBy list ByList held = IsListed held × ByList held
