-- What the phase order leaves behind.
use Rattle.std.specs.Prelude.{◌≡◌, ℕ, List, false, Option, Some, Result, Ok, Err}
use Rattle.sq_port.specs.Ports.{Content}
use Rattle.sq_text.specs.declared.code.Phase.TheVariants.{Order as OrderPhase}
use Rattle.sq_text.specs.declared.fault.Fault.{Fault}
use Rattle.sq_orders.specs.declared.order.Chosen.{Chosen}
use Rattle.sq_orders.specs.Chosen.{chosen_held}
use Rattle.sq_words.specs.Words.{Order}
use Rattle.sq_driver.specs.declared.outside.end.End.{End}
use Rattle.sq_driver.specs.Phases.{text_of}
use Rattle.sq_driver.specs.Holding.{Holds}
use Rattle.sq_driver.specs.Orders.{IsOrderList, ListFault, ListHolds, HeldBy}
use Rattle.sq_driver.specs.Steps.{Stops, ReadsRight}

-- the numbers of an order list, and else how the phase ends
abbrev pub ReadsList : Option Content → List ℕ → Result (List ℕ) End → Type 0
ReadsList = ReadsRight IsOrderList ListFault OrderPhase

-- what the order holds is what the words and the list say, and the list has no fault
pub record IsOrder (said : Order) (told : Option Content) (o : Chosen) : Type 0 where
  pub held : HeldBy said.way (λ held. (c : Content) → told ≡ Some c → ListHolds (text_of c said.file) held)
      (chosen_held o)
  pub there : (c : Content) → told ≡ Some c → (name : List ℕ) → said.file ≡ Some name → (text : List ℕ)
      × (c name ≡ Some text)
  pub no_fault : (c : Content) → told ≡ Some c → (its : Fault) → Holds ListFault (text_of c said.file) its → ⊥

-- that, and else how the phase ends
abbrev pub ReadsOrder : Order → Option Content → Result Chosen End → Type 0
ReadsOrder said told (Ok o) = IsOrder said told o
ReadsOrder said told (Err end) = Stops false OrderPhase told said.file
    (λ c its. Holds ListFault (text_of c said.file) its) end
