-- The phases program and types, of whichever command.
use Rattle.std.proofs.Common.{◌≡◌, ℕ, List, [], ◌∷◌, false, Option, Some, None, Ok, Err, refl, sym, ap, subst}
use Rattle.sq_port.specs.Ports.{Content}
use Rattle.sq_text.specs.declared.code.Phase.{Phase}
use Rattle.sq_text.specs.declared.code.Phase.TheVariants.{Program, Types}
use Rattle.sq_text.specs.declared.fault.Fault.{Fault}
use Rattle.sq_ast.specs.declared.program.Program.{Program as Tree}
use Rattle.sq_types.specs.Sites.{TypeFault}
use Rattle.sq_tree.specs.Bank.{BankSeen}
use Rattle.sq_driver.specs.declared.outside.end.End.{End}
use Rattle.sq_words.specs.Words.{program, Command}
use Rattle.sq_driver.specs.Phases.{phases, own_inputs, text_or, inputs_of, IsTold}
use Rattle.sq_driver.specs.Holding.{Holds}
use Rattle.sq_driver.specs.Programs.{IsProgramText, ProgramFault, IsFirstTypeFault}
use Rattle.sq_driver.specs.Faults.{IsFirstOf}
use Rattle.sq_driver.specs.Meaning.{Passed, AllPassed, Reached}
use Rattle.sq_driver.specs.Steps.{Stops, Stopped, HoldsTree, ReadsTree}
use Rattle.sq_driver.proofs.Stopping.{told_of, phase_stops, is_there, no_file_there}

-- a command whose first phase reads the program of that name
pub record BeginsWith (command : Command) (name : List ℕ) : Type 0 where
  pub rest : List Phase
  pub split : phases command.kind ≡ Program ∷ rest
  pub file : command.files.program ≡ Some name

module _ (command : Command) (name : List ℕ) (begins : BeginsWith command name) (told : Option Content) where
  -- what a file holds in place of the program that the command may have by itself
  abbrev pub text_at : Content → Option (List ℕ) → Option (List ℕ)
  text_at c file = text_or (own_inputs command.kind command.way program) c file

  pub one : (c : Content) → IsTold command told c → told ≡ Some c
  one c is = told_of command name told c begins.file is

  program_fails : (c : Content) → told ≡ Some c → (its : Fault) → Holds ProgramFault (c name) its
      → IsFirstOf command.kind Program (inputs_of c command) its
  program_fails c is its holds =
      (subst (λ (o : Option (List ℕ)). Holds ProgramFault o its) (sym (ap (text_at c) begins.file)) holds)

  pub program_stops : (bank : BankSeen) (end : End) → ReadsTree told name (Err end) → Stopped command told bank bank end
  program_stops bank end stops = phase_stops command told Program (λ c its. Holds ProgramFault (c name) its) bank bank
      one (λ c is. record { before = []; after = begins.rest; split = begins.split; passed = tt }) program_fails refl
      (λ closed. refl) end
      (subst (λ (o : Option (List ℕ)). Stops false Program told o (λ c its. Holds ProgramFault (c name) its) end)
      (sym begins.file) stops)

  module _ (tree : Tree) (c : Content) (held : HoldsTree (c name) tree) where
    no_fault : (its : Fault) → IsFirstOf command.kind Program (inputs_of c command) its → ⊥
    no_fault its holds = held.no_fault its
        (subst (λ (o : Option (List ℕ)). Holds ProgramFault o its) (ap (text_at c) begins.file) holds)

    pub program_passed : Passed command c Program
    program_passed = record {
      there = λ file is. is_there c name held.one.holds.0 held.one.holds.1 file
          (subst (λ (o : Option (List ℕ)). o ≡ Some file) begins.file is);
      no_fault = no_fault;
    }

    pub program_is : Holds IsProgramText (text_at c command.files.program) tree
    program_is = subst (λ (o : Option (List ℕ)). Holds IsProgramText o tree) (sym (ap (text_at c) begins.file))
        held.one.holds

    pub only_program : (that : Tree) → Holds IsProgramText (text_at c command.files.program) that → that ≡ tree
    only_program that holds = held.one.only that
        (subst (λ (o : Option (List ℕ)). Holds IsProgramText o that) (ap (text_at c) begins.file) holds)

  module _ (tree : Tree) (reads : ReadsTree told name (Ok tree)) (later : List Phase)
      (rest : begins.rest ≡ Types ∷ later) where
    types_reached : (c : Content) → IsTold command told c → Reached command c Types
    types_reached c is = record {
      before = Program ∷ [];
      after = later;
      split = subst (λ (l : List Phase). phases command.kind ≡ Program ∷ l) rest begins.split;
      passed = (program_passed tree c (reads c (one c is)), tt);
    }

    types_fail : (c : Content) → told ≡ Some c → (its : Fault) → IsFirstTypeFault tree its
        → IsFirstOf command.kind Types (inputs_of c command) its
    types_fail c is its first = record { tree = tree; program_is = program_is tree c (reads c is); first = first }

    pub types_stops : (bank : BankSeen) (end : End) → Stops false Types told None (λ c its. IsFirstTypeFault tree its)
        end → Stopped command told bank bank end
    types_stops bank end stops = phase_stops command told Types (λ c its. IsFirstTypeFault tree its) bank bank one
        types_reached types_fail refl (λ closed. refl) end stops

    module _ (none : (f : Fault) → TypeFault tree f → ⊥) where
      no_types : (c : Content) → told ≡ Some c → (its : Fault) → IsFirstOf command.kind Types (inputs_of c command) its → ⊥
      no_types c is its fails = none its
          (subst (λ (t : Tree). TypeFault t its) (only_program tree c (reads c is) fails.tree fails.program_is)
          fails.first.0)

      pub types_passed : (c : Content) → told ≡ Some c → AllPassed command c (Program ∷ Types ∷ [])
      types_passed c is = (
        program_passed tree c (reads c is),
        (record { there = no_file_there c; no_fault = no_types c is }, tt),
      )
