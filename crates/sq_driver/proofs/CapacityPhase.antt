-- The phase capacity, behind those from program to race.
use Rattle.std.proofs.Common.{◌≡◌, ℕ, List, [], ◌∷◌, Option, Some, None, refl, sym, ◌∙◌, ap}
use Rattle.sq_port.specs.Ports.{Content}
use Rattle.sq_text.specs.declared.code.Phase.{Phase}
use Rattle.sq_text.specs.declared.code.Phase.TheVariants.{Program, Types, Machine, Mapping, Resolve, Race, Capacity}
use Rattle.sq_text.specs.declared.fault.Fault.{Fault}
use Rattle.sq_ast.specs.declared.program.Program.{Program as Tree}
use Rattle.sq_machfile.specs.Machines.{Hierarchy}
use Rattle.sq_mapping.specs.declared.mapping.Mapping.{Mapping as Mapped}
use Rattle.sq_forms.specs.Resolving.{Resolving}
use Rattle.sq_spec.specs.declared.resolved.Resolved.{Resolved}
use Rattle.sq_race.specs.Race.{IsFirstRace}
use Rattle.sq_compile.specs.Capacity.{NoneLacks, LacksAreOne}
use Rattle.sq_tree.specs.Bank.{BankSeen}
use Rattle.sq_words.specs.Words.{Command}
use Rattle.sq_driver.specs.declared.outside.end.End.{End}
use Rattle.sq_driver.specs.declared.outside.end.End.TheVariants.{Usage, Absent, FileFault, Refused, Trapped, NoMemory}
use Rattle.sq_driver.specs.declared.outside.end.End.TheVariants.{SinkFault}
use Rattle.sq_driver.specs.Phases.{phases, inputs_of}
use Rattle.sq_driver.specs.Sources.{Sources}
use Rattle.sq_driver.specs.Races.{IsResolved}
use Rattle.sq_driver.specs.Capacity.{IsFirstCapacityFault}
use Rattle.sq_driver.specs.Meaning.{Passed, AllPassed}
use Rattle.sq_driver.specs.Steps.{Stopped}
use Rattle.sq_driver.specs.SharedFiles.{ReadsSources, command_with}
use Rattle.sq_driver.specs.Evaluating.{EndsWith, HoldsSources}
use Rattle.sq_driver.proofs.Stopping.{phase_stops, memory_stops, no_file_there}
use Rattle.sq_driver.proofs.SourcePhases.{ok_same, one, sources, only, walk_same, six}

-- a command whose next phase is capacity
module _ (its : Command) (begun : ReadsSources its.kind) (rest : List Phase) (next : begun.rest ≡ Capacity ∷ rest)
    (p m k : List ℕ) (told : Option Content) (tree : Tree) (hierarchy : Hierarchy)
    (mapped : Mapped) (held : HoldsSources told p m k tree hierarchy mapped) (r : Resolved)
    (are : IsResolved tree hierarchy mapped r) (none : IsFirstRace r None) where
  split : phases its.kind ≡ Program ∷ Types ∷ Machine ∷ Mapping ∷ Resolve ∷ Race ∷ Capacity ∷ rest
  split = begun.split ∙ ap (λ (l : List Phase). Program ∷ Types ∷ Machine ∷ Mapping ∷ Resolve ∷ Race ∷ l) next

  passed : (c : Content) → told ≡ Some c → AllPassed (command_with its p m k) c
      (Program ∷ Types ∷ Machine ∷ Mapping ∷ Resolve ∷ Race ∷ [])
  passed = six its begun p m k told tree hierarchy mapped held r are none

  pub capacity_stops : (bank : BankSeen) (f : Fault) → IsFirstCapacityFault r f
      → Stopped (command_with its p m k) told bank bank (Refused f)
  capacity_stops bank f first =
      phase_stops (command_with its p m k) told Capacity (λ c f. IsFirstCapacityFault r f)
      bank bank (one its begun p m k told)
      (λ c is. record {
        before = Program ∷ Types ∷ Machine ∷ Mapping ∷ Resolve ∷ Race ∷ [];
        after = rest;
        split = split;
        passed = passed c (one its begun p m k told c is);
      })
      (λ c is g first. record {
        sources = sources its begun p m k told tree hierarchy mapped held c is;
        forms = r;
        are = are;
        first = first;
      })
      refl (λ closed. refl) (Refused f) (λ c is. first)

  pub capacity_ends : (bank : BankSeen) (end : End) → EndsWith (IsFirstCapacityFault r) end
      → Stopped (command_with its p m k) told bank bank end
  capacity_ends bank Usage ends = absurd ends
  capacity_ends bank (Absent name) ends = absurd ends
  capacity_ends bank (FileFault name) ends = absurd ends
  capacity_ends bank (Refused f) ends = capacity_stops bank f ends
  capacity_ends bank (Trapped trap) ends = absurd ends
  capacity_ends bank NoMemory ends = memory_stops (command_with its p m k) told bank bank refl
  capacity_ends bank SinkFault ends = absurd ends

  module _ (law : LacksAreOne) (none_lacks : NoneLacks r) where
    -- forms that are found again are these, so no node lacks for them either
    no_lack : (c : Content) → told ≡ Some c → (that : Sources (inputs_of c (command_with its p m k))) (s : Resolved)
        → IsResolved that.tree that.hierarchy that.mapped s → NoneLacks s
    no_lack c is that s found node need capacity level lacks =
        let equal = only its begun p m k told tree hierarchy mapped held c is that in
        let left : found.forms.left ≡ are.forms.left =
        ok_same found.forms.left are.forms.left
        (sym found.forms.through ∙ (walk_same its begun p m k told tree hierarchy mapped held c is that
        ∙ are.forms.through)) in
        none_lacks node need capacity level (law s r
        (found.tree_is ∙ (equal.tree_is ∙ sym are.tree_is))
        (found.mapping_is ∙ (equal.mapping_is ∙ sym are.mapping_is))
        (found.machine_is ∙ (equal.machine_is ∙ sym are.machine_is))
        (sym found.forms.are ∙ (ap (λ (l : Resolving). l.forms) left ∙ are.forms.are))
        node need capacity level lacks)

    capacity_passed : (c : Content) → told ≡ Some c → Passed (command_with its p m k) c Capacity
    capacity_passed c is = record {
      there = no_file_there c;
      no_fault = λ f first. no_lack c is first.sources first.forms first.are first.first.node first.first.need
          first.first.capacity first.first.first.level first.first.first.lacks;
    }

    pub seven : (c : Content) → told ≡ Some c → AllPassed (command_with its p m k) c
        (Program ∷ Types ∷ Machine ∷ Mapping ∷ Resolve ∷ Race ∷ Capacity ∷ [])
    seven c is =
        let b = passed c is in
        (b.0, (b.1.0, (b.1.1.0, (b.1.1.1.0, (b.1.1.1.1.0, (b.1.1.1.1.1.0, (capacity_passed c is, tt)))))))
