-- A command that runs a plan: its order, and what is known behind that.
use Rattle.std.proofs.Common.{◌≡◌, inl, inr, ℕ, List, [], ◌∷◌, Bool, Option, Some, None, Ok, Err, refl, sym, ◌∙◌, ap, subst}
use Rattle.sq_port.specs.Ports.{Content}
use Rattle.sq_text.specs.declared.code.Phase.TheVariants.{Order as OrderPhase, Input}
use Rattle.sq_planfile.specs.File.{PlanFile}
use Rattle.sq_tree.specs.Bank.{BankSeen}
use Rattle.sq_orders.specs.declared.order.Chosen.{Chosen}
use Rattle.sq_orders.specs.Chosen.{chosen_held}
use Rattle.sq_words.specs.Words.{Command, Files, Order, order}
use Rattle.sq_driver.specs.declared.outside.end.End.{End}
use Rattle.sq_driver.specs.Phases.{inputs_of, text_of, text_or, IsTold}
use Rattle.sq_driver.specs.Holding.{Holds}
use Rattle.sq_driver.specs.Meaning.{Passed}
use Rattle.sq_driver.specs.Orders.{ListFault}
use Rattle.sq_driver.specs.Ordering.{ReadsOrder}
use Rattle.sq_driver.specs.Steps.{Stopped}
use Rattle.sq_driver.specs.Running.{Runner, command_by, HoldsWork, HoldsOrdered}
use Rattle.sq_driver.proofs.Stopping.{phase_stops}
use Rattle.sq_driver.proofs.DataPhase.{all_with}

no_files : {A : Type 0} (name : List ℕ) (files other : Files) → files.input ≡ Some name → other.input ≡ None
    → files ≡ other → A
no_files name files other here none same = absurd
    (let no : None ≡ Some name = sym none ∙ (sym (ap (λ (f : Files). f.input) same) ∙ here) in cc)

-- what the files of such a command hold is told
pub told_by : (its : Runner) (d : List ℕ) (said : Order) (traced : Bool) (told : Option Content) (c : Content)
    → IsTold (command_by its d said traced) told c → told ≡ Some c
told_by its d said traced told c (inl is) = is
told_by its d said traced told c (inr none) = no_files d (command_by its d said traced).files _ refl refl none

module _ (its : Runner) (d : List ℕ) (said : Order) (traced : Bool) (told : Option Content) (f : PlanFile)
    (h : HoldsWork its d said traced told f) where
  abbrev command : Command
  command = command_by its d said traced

  one : (c : Content) → IsTold command told c → told ≡ Some c
  one c is = told_by its d said traced told c is

  -- the list of the order is what its file holds
  listed : (c : Content) → inputs_of c command order ≡ text_of c said.file
  listed c = ap (λ (own : Option (List ℕ)). text_or own c said.file) (h.own order)

  pub order_stops : (bank : BankSeen) (end : End) → ReadsOrder said told (Err end)
      → Stopped command told bank bank end
  order_stops bank end stops =
      phase_stops command told OrderPhase (λ c g. Holds ListFault (text_of c said.file) g) bank bank one
      (λ c is. record { before = h.before; after = Input ∷ []; split = h.split; passed = h.passed c (one c is) })
      (λ c is g holds. subst (λ (o : Option (List ℕ)). Holds ListFault o g) (sym (listed c)) holds)
      refl (λ closed. refl) end stops

  module _ (o : Chosen) (reads : ReadsOrder said told (Ok o)) where
    order_passed : (c : Content) → told ≡ Some c → Passed command c OrderPhase
    order_passed c is = record {
      there = reads.there c is;
      no_fault = λ g fails. reads.no_fault c is g (subst (λ (o : Option (List ℕ)). Holds ListFault o g) (listed c) fails);
    }

    pub ordered : HoldsOrdered its d said traced told f (chosen_held o)
    ordered = record {
      work = h;
      passed = λ c is. all_with command c h.before OrderPhase (h.passed c is) (order_passed c is);
      order_is = reads.held;
    }

-- the same of another spelling of what is told
pub ordered_told : (its : Runner) (d : List ℕ) (said : Order) (traced : Bool) (told that : Option Content)
    (f : PlanFile) (held : List ℕ) → that ≡ told → HoldsOrdered its d said traced told f held
    → HoldsOrdered its d said traced that f held
ordered_told its d said traced told that f held same h =
    subst (λ (t : Option Content). HoldsOrdered its d said traced t f held) (sym same) h

pub work_told : (its : Runner) (d : List ℕ) (said : Order) (traced : Bool) (told that : Option Content)
    (f : PlanFile) → that ≡ told → HoldsWork its d said traced told f → HoldsWork its d said traced that f
work_told its d said traced told that f same h =
    subst (λ (t : Option Content). HoldsWork its d said traced t f) (sym same) h
