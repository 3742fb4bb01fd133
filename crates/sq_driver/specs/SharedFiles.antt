-- What the files of a command over a program, a mapping and a machine hold, and how such a command stops.
use Rattle.std.specs.Prelude.{◌≡◌, ℕ, List, ◌∷◌, false, Option}
use Rattle.sq_port.specs.Ports.{Content}
use Rattle.sq_text.specs.declared.code.Phase.{Phase}
use Rattle.sq_text.specs.declared.code.Phase.TheVariants.{Program, Types, Machine, Mapping, Resolve, Race}
use Rattle.sq_tree.specs.Bank.{BankSeen}
use Rattle.sq_words.specs.declared.words.Kind.{Kind}
use Rattle.sq_words.specs.Words.{program, mapping, machine, with_file, Command}
use Rattle.sq_driver.specs.declared.outside.end.End.{End}
use Rattle.sq_driver.specs.Phases.{phases, is_filed, varies}
use Rattle.sq_driver.specs.Steps.{Stopped}

-- a kind of command that begins with the phases of a program and a machine, and reads a mapping then
pub record ReadsFront (kind : Kind) : Type 0 where
  pub rest : List Phase
  pub split : phases kind ≡ Program ∷ Types ∷ Machine ∷ Mapping ∷ rest

-- and goes on with the forms of the program under the mapping, which has no alternatives
pub record ReadsSources (kind : Kind) : Type 0 where
  pub rest : List Phase
  pub split : phases kind ≡ Program ∷ Types ∷ Machine ∷ Mapping ∷ Resolve ∷ Race ∷ rest
  pub fixed : varies kind ≡ false
  pub sourced : is_filed kind ≡ false

-- a command, over a program and a machine of these names
abbrev pub front_with : Command → List ℕ → List ℕ → Command
front_with its p k = record its { files = with_file machine k (with_file program p its.files) }

-- a command, over a program, a mapping and a machine of these names
abbrev pub command_with : Command → List ℕ → List ℕ → List ℕ → Command
command_with its p m k =
    record its { files = with_file machine k (with_file mapping m (with_file program p its.files)) }

-- whatever a command is to do with a program and a machine of these names, it stops so
abbrev pub StopsFront : Option Content → List ℕ → List ℕ → End → Type 0
StopsFront told p k end = (its : Command) → ReadsFront its.kind → (bank : BankSeen)
    → Stopped (front_with its p k) told bank bank end

-- whatever a command over these files is to do with them, it stops so
abbrev pub StopsSources : Option Content → List ℕ → List ℕ → List ℕ → End → Type 0
StopsSources told p m k end = (its : Command) → ReadsSources its.kind → (bank : BankSeen)
    → Stopped (command_with its p m k) told bank bank end
