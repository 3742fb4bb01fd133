-- The phase mapping of `tune`, and how it ends.
use Rattle.std.proofs.Common.{◌≡◌, ℕ, List, [], ◌∷◌, Option, Some, Result, Ok, Err, refl, subst}
use Rattle.sq_port.specs.Ports.{Content}
use Rattle.sq_text.specs.declared.code.Phase.TheVariants.{Program, Types, Machine, Mapping}
use Rattle.sq_text.specs.declared.fault.Fault.{Fault}
use Rattle.sq_ast.specs.declared.program.Program.{Program as Tree}
use Rattle.sq_machfile.specs.Machines.{Hierarchy}
use Rattle.sq_mapfile.specs.declared.choices.Choices.{Choices}
use Rattle.sq_tune.specs.declared.row.Table.{Table}
use Rattle.sq_tune.specs.Rows.{IsTable}
use Rattle.sq_tune_text.specs.Text.{table_text}
use Rattle.sq_tree.specs.Bank.{BankSeen}
use Rattle.sq_words.specs.declared.words.Kind.TheVariants as kind
use Rattle.sq_words.specs.Words.{tune_of}
use Rattle.sq_driver.specs.declared.outside.end.End.{End}
use Rattle.sq_driver.specs.Phases.{inputs_of}
use Rattle.sq_driver.specs.Holding.{Holds}
use Rattle.sq_driver.specs.Choosing.{AreChoicesText, IsFirstChoicesFault, IsFirstOfChoices, IsRow}
use Rattle.sq_driver.specs.Chosen.{ReadsChoices}
use Rattle.sq_driver.specs.Meaning.{Passed, AllPassed, done, IsCause}
use Rattle.sq_driver.specs.Outcome.{Outside, Ended}
use Rattle.sq_driver.specs.Steps.{ReadsFitting, Stopped, WroteOut}
use Rattle.sq_driver.specs.Evaluating.{HoldsMachine, Evaluates}
use Rattle.sq_driver.specs.SharedFiles.{ReadsFront, StopsFront}
use Rattle.sq_driver.proofs.Stopping.{phase_stops, is_there}
use Rattle.sq_driver.proofs.SourcePhases.{front_told, front_passed}
use Rattle.sq_driver.proofs.Evaluations.{stops, closed_ends}
use Rattle.sq_driver.proofs.Planning.{written}
use Rattle.sq_driver.proofs.WholeFiles.{of_slice}

abbrev pub reads_tune : ReadsFront kind.Tune
reads_tune = record { rest = []; split = refl }

pub tune_ends : (p m k : List ℕ) (old now : Outside) → now.err ≡ old.err → now.err_faults ≡ old.err_faults
    → now.bank ≡ old.bank → (result : Result (Unit {0}) End) → Evaluates (tune_of p m k) old.told old.out now.out
    old.out_faults now.out_faults result → Ended (tune_of p m k) old now result
tune_ends p m k old now err err_faults bank = closed_ends (tune_of p m k) old now
    (front_told (tune_of p m k) reads_tune p k old.told) refl err err_faults bank

pub front_ends : (p m k : List ℕ) (told : Option Content) (out : Option (List ℕ)) (faults : ℕ) (end : End)
    → StopsFront told p k end → Evaluates (tune_of p m k) told out out faults faults (Err end)
front_ends p m k told out faults end stopped = stops (tune_of p m k) told out faults end
    (λ bank. stopped (tune_of p m k) reads_tune bank)

-- ---- what is read

-- a file that is read whole, and holds choices
pub choices_held : (tree : Tree) (hierarchy : Hierarchy) (told : Option Content) (name text : List ℕ)
    → ReadsFitting Mapping told name (Ok text) → (slice : List ℕ) → slice ≡ text → (choices : Choices)
    → AreChoicesText tree hierarchy.levels slice choices
    → ((f : Fault) → IsFirstChoicesFault tree hierarchy.levels slice f → ⊥)
    → ReadsChoices tree hierarchy.levels told name (Ok choices)
choices_held tree hierarchy told name text reads slice same choices are none = λ c at. record {
  are = (text, reads.1 c at, subst (λ (t : List ℕ). AreChoicesText tree hierarchy.levels t choices) same are);
  no_fault = λ f holds. none f (of_slice (AreChoicesText tree hierarchy.levels)
      (IsFirstChoicesFault tree hierarchy.levels) Mapping told name text reads slice same
      (IsFirstChoicesFault tree hierarchy.levels) c at f holds);
}

-- ---- the phase

module _ (p m k : List ℕ) (told : Option Content) (tree : Tree) (hierarchy : Hierarchy)
    (machine : HoldsMachine told p k tree hierarchy) where
  three : (c : Content) → told ≡ Some c → AllPassed (tune_of p m k) c (Program ∷ Types ∷ Machine ∷ [])
  three c is = front_passed (tune_of p m k) reads_tune p k told tree hierarchy machine c is

  choices_stop : (bank : BankSeen) (end : End) → ReadsChoices tree hierarchy.levels told m (Err end)
      → Stopped (tune_of p m k) told bank bank end
  choices_stop bank end stop = phase_stops (tune_of p m k) told Mapping
      (λ c f. Holds (IsFirstChoicesFault tree hierarchy.levels) (c m) f) bank bank
      (front_told (tune_of p m k) reads_tune p k told)
      (λ c is. record {
        before = Program ∷ Types ∷ Machine ∷ [];
        after = [];
        split = refl;
        passed = three c (front_told (tune_of p m k) reads_tune p k told c is);
      })
      (λ c is f holds. record {
        tree = tree;
        hierarchy = hierarchy;
        program_is = (machine.program.held c is).one.holds;
        machine_is = (machine.held c is).one.holds;
        first = holds;
      }) refl (λ closed. refl) end stop

  pub choices_end : (out : Option (List ℕ)) (faults : ℕ) (end : End)
      → ReadsChoices tree hierarchy.levels told m (Err end) → Evaluates (tune_of p m k) told out out faults faults (Err end)
  choices_end out faults end reads = stops (tune_of p m k) told out faults end
      (λ bank. choices_stop bank end reads)

  module _ (choices : Choices) (reads : ReadsChoices tree hierarchy.levels told m (Ok choices)) where
    -- the fault would be one for the program and the machine that are held, too
    no_fault : (c : Content) → told ≡ Some c → (f : Fault) → IsFirstOfChoices (inputs_of c (tune_of p m k)) f → ⊥
    no_fault c is f first = (reads c is).no_fault f (
      first.first.0,
      first.first.1,
      subst (λ (t : Tree). IsFirstChoicesFault t hierarchy.levels first.first.0 f)
          ((machine.program.held c is).one.only first.tree first.program_is)
          (subst (λ (h : Hierarchy). IsFirstChoicesFault first.tree h.levels first.first.0 f)
          ((machine.held c is).one.only first.hierarchy first.machine_is) first.first.2),
    )

    mapping_passed : (c : Content) → told ≡ Some c → Passed (tune_of p m k) c Mapping
    mapping_passed c is = record {
      there = is_there c m (reads c is).are.0 (reads c is).are.1;
      no_fault = no_fault c is;
    }

    module _ (table : Table) (table_is : IsTable (IsRow tree hierarchy) choices table) where
      table_cause : (c : Content) → told ≡ Some c → IsCause (tune_of p m k) c (done (table_text choices table) [])
      table_cause c is = (
        (let b = three c is in (b.0, (b.1.0, (b.1.1.0, (mapping_passed c is, tt))))),
        record {
          tree = tree;
          hierarchy = hierarchy;
          choices = choices;
          program_is = (machine.program.held c is).one.holds;
          machine_is = (machine.held c is).one.holds;
          choices_are = (reads c is).are;
          table = table;
          table_is = table_is;
          text = refl;
        },
        λ trap no. no,
      )

      pub table_written : (out now_out : Option (List ℕ)) (faults now_faults : ℕ) (result : Result (Unit {0}) End)
          → WroteOut out now_out faults now_faults (table_text choices table) result
          → Evaluates (tune_of p m k) told out now_out faults now_faults result
      table_written out now_out faults now_faults result wrote =
          written (tune_of p m k) told out faults (table_text choices table) table_cause now_out now_faults result wrote
