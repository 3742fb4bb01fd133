-- The phases of `run` before its order.
use Rattle.std.proofs.Common.{◌≡◌, ℕ, List, [], ◌∷◌, Bool, Option, Some, None, Result, refl, subst, arith}
use Rattle.sq_port.specs.Ports.{Content}
use Rattle.sq_text.specs.declared.code.Phase.TheVariants.{Program, Types, Machine, Mapping, Resolve, Race, Capacity, Order as OrderPhase, Input}
use Rattle.sq_ast.specs.declared.program.Program.{Program as Tree}
use Rattle.sq_machfile.specs.Machines.{Hierarchy}
use Rattle.sq_mapping.specs.declared.mapping.Mapping.{Mapping as Mapped}
use Rattle.sq_spec.specs.declared.resolved.Resolved.{Resolved}
use Rattle.sq_race.specs.Race.{IsFirstRace}
use Rattle.sq_compile.specs.Capacity.{NoneLacks, LacksAreOne}
use Rattle.sq_tree.specs.Bank.{BankSeen}
use Rattle.sq_words.specs.declared.words.Kind.TheVariants.{Run}
use Rattle.sq_words.specs.Words.{Order, run_of}
use Rattle.sq_driver.specs.declared.outside.status.Status.TheVariants.{NoMemory, Absent, FileFault}
use Rattle.sq_driver.specs.declared.outside.end.End.{End}
use Rattle.sq_driver.specs.Ends.{FileCauses}
use Rattle.sq_driver.specs.Phases.{inputs_of, IsTold}
use Rattle.sq_driver.specs.Races.{IsResolved}
use Rattle.sq_driver.specs.Sources.{Sources}
use Rattle.sq_driver.specs.Capacity.{IsFirstCapacityFault}
use Rattle.sq_driver.specs.Meaning.{AllPassed}
use Rattle.sq_driver.specs.Outcome.{Outside, Ended}
use Rattle.sq_driver.specs.Steps.{Stopped}
use Rattle.sq_driver.specs.SharedFiles.{ReadsSources, StopsSources}
use Rattle.sq_driver.specs.Evaluating.{EndsWith, HoldsSources}
use Rattle.sq_driver.proofs.SourcePhases.{one, sources}
use Rattle.sq_driver.proofs.CapacityPhase.{capacity_ends, seven}

abbrev pub reads_run : ReadsSources Run
reads_run = record { rest = Capacity ∷ OrderPhase ∷ Input ∷ []; split = refl; fixed = refl; sourced = refl }

module _ (p m k d : List ℕ) (said : Order) (traced : Bool) (told : Option Content) where
  pub sources_stop : (end : End) → StopsSources told p m k end → (bank : BankSeen)
      → Stopped (run_of p m k d said traced) told bank bank end
  sources_stop end stops bank = stops (run_of p m k d said traced) reads_run bank

  pub its_told : (c : Content) → IsTold (run_of p m k d said traced) told c → told ≡ Some c
  its_told c is = one (run_of p m k d said traced) reads_run p m k told c is

  module _ (tree : Tree) (hierarchy : Hierarchy) (mapped : Mapped)
      (held : HoldsSources told p m k tree hierarchy mapped) where
    abbrev pub sources_of : (c : Content) → IsTold (run_of p m k d said traced) told c
        → Sources (inputs_of c (run_of p m k d said traced))
    sources_of c is = sources (run_of p m k d said traced) reads_run p m k told tree hierarchy mapped held c
        (its_told c is)

    module _ (r : Resolved) (are : IsResolved tree hierarchy mapped r) (free : IsFirstRace r None) where
      pub capacity_stop : (end : End) → EndsWith (IsFirstCapacityFault r) end → (bank : BankSeen)
          → Stopped (run_of p m k d said traced) told bank bank end
      capacity_stop end ends bank = capacity_ends (run_of p m k d said traced) reads_run (OrderPhase ∷ Input ∷ [])
          refl p m k told tree hierarchy mapped held r are free bank end ends

      pub seven_passed : LacksAreOne → NoneLacks r → (c : Content) → told ≡ Some c
          → AllPassed (run_of p m k d said traced) c
          (Program ∷ Types ∷ Machine ∷ Mapping ∷ Resolve ∷ Race ∷ Capacity ∷ [])
      seven_passed law none = seven (run_of p m k d said traced) reads_run (OrderPhase ∷ Input ∷ []) refl p m k told
          tree hierarchy mapped held r are free law none

-- the same of another spelling of what is told
pub ended_told : (command : _) (start last : Outside) (told : Option Content) (result : Result (Unit {0}) End)
    → told ≡ start.told
    → Ended command (record start { told = told }) last result → Ended command start last result
ended_told command start last told result same ended = subst
    (λ (t : Option Content). Ended command (record start { told = t }) last result) same ended

-- no count of the files rises where memory runs out
pub no_memory_caused : (f m : ℕ) → FileCauses f f m m NoMemory
no_memory_caused f m = record {
  faults_later = omega arith;
  misses_later = omega arith;
  absent = λ is. absurd (let never : NoMemory ≡ Absent = is in cc);
  fault = λ is. absurd (let never : NoMemory ≡ FileFault = is in cc);
  quiet = λ is. (refl, refl);
}
