-- The phase order, behind those from program to capacity.
use Rattle.std.proofs.Common.{◌≡◌, ℕ, List, [], ◌∷◌, Option, Some, None, Ok, Err, sym, subst}
use Rattle.sq_port.specs.Ports.{Content}
use Rattle.sq_text.specs.declared.fault.Fault.{Fault}
use Rattle.sq_orders.specs.declared.order.Chosen.{Chosen}
use Rattle.sq_orders.specs.Chosen.{chosen_held}
use Rattle.sq_port.specs.Orders.{seed_start}
use Rattle.sq_words.specs.declared.options.Way.{Way}
use Rattle.sq_words.specs.declared.options.Way.TheVariants.{First, Last, Seed, List as Listed}
use Rattle.sq_words.specs.Words.{asked}
use Rattle.sq_driver.specs.declared.outside.end.End.{End}
use Rattle.sq_driver.specs.Holding.{Holds}
use Rattle.sq_driver.specs.Orders.{ListFault}
use Rattle.sq_driver.specs.Ordering.{ReadsList, ReadsOrder}
use Rattle.sq_driver.proofs.Stopping.{is_there}

no_file : {A : Type 0} (name : List ℕ) → None ≡ Some name → A
no_file name is = absurd (let never : None ≡ Some name = is in cc)

-- ---- what is read

no_list : (told : Option Content) (c : Content) → told ≡ Some c → (its : Fault) → Holds ListFault None its → ⊥
no_list told c at its holds = no_file holds.0 holds.1

no_name : (told : Option Content) (c : Content) → told ≡ Some c → (name : List ℕ) → None ≡ Some name → (text : List ℕ)
    × (c name ≡ Some text)
no_name told c at name is = no_file name is

pub first_read : (w : Way) → w ≡ First → (told : Option Content) (o : Chosen) → chosen_held o ≡ 0 ∷ []
    → ReadsOrder (asked w) told (Ok o)
first_read w is told o held = subst (λ (v : Way). ReadsOrder (asked v) told (Ok o)) (sym is)
    (record { held = held; there = no_name told; no_fault = no_list told })

pub last_read : (w : Way) → w ≡ Last → (told : Option Content) (o : Chosen) → chosen_held o ≡ 1 ∷ []
    → ReadsOrder (asked w) told (Ok o)
last_read w is told o held = subst (λ (v : Way). ReadsOrder (asked v) told (Ok o)) (sym is)
    (record { held = held; there = no_name told; no_fault = no_list told })

pub seed_read : (w : Way) (n : ℕ) → w ≡ Seed n → (told : Option Content) (o : Chosen) → chosen_held o ≡ 2
    ∷ seed_start n → ReadsOrder (asked w) told (Ok o)
seed_read w n is told o held = subst (λ (v : Way). ReadsOrder (asked v) told (Ok o)) (sym is)
    (record { held = held; there = no_name told; no_fault = no_list told })

module _ (w : Way) (file : _) (is : w ≡ Listed file) (told : Option Content) where
  list_there : (picks : List ℕ) → ReadsList told file.now (Ok picks) → (c : Content) → told ≡ Some c → (name : List ℕ)
      → Some file.now ≡ Some name → (text : List ℕ) × (c name ≡ Some text)
  list_there picks reads c at name same = is_there c file.now (reads c at).one.holds.0 (reads c at).one.holds.1 name
      same

  pub list_read : (picks : List ℕ) → ReadsList told file.now (Ok picks) → (o : Chosen) → chosen_held o ≡ 3 ∷ picks
      → ReadsOrder (asked w) told (Ok o)
  list_read picks reads o held = subst (λ (v : Way). ReadsOrder (asked v) told (Ok o)) (sym is) (record {
    held = ((picks, held), λ c at. (picks, (reads c at).one.holds, held));
    there = list_there picks reads;
    no_fault = λ c at. (reads c at).no_fault;
  })

  pub list_ends : (end : End) → ReadsList told file.now (Err end) → ReadsOrder (asked w) told (Err end)
  list_ends end reads = subst (λ (v : Way). ReadsOrder (asked v) told (Err end)) (sym is) reads
