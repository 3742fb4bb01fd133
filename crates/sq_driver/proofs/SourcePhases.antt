-- The phases from program to race, of a command whose files are a program, a mapping, a machine and perhaps others.
use Rattle.std.proofs.Common.{◌≡◌, ℕ, List, [], ◌∷◌, Bool, Option, Some, None, Result, Ok, Err, refl, sym, ◌∙◌, ap, subst, slice_get}
use Rattle.sq_port.specs.Ports.{Content}
use Rattle.sq_text.specs.declared.code.Phase.TheVariants.{Program, Types, Machine, Mapping, Resolve, Race}
use Rattle.sq_text.specs.declared.fault.Fault.{Fault}
use Rattle.sq_ast.specs.declared.program.Program.{Program as Tree}
use Rattle.sq_ast.specs.Given.{IsGiven}
use Rattle.sq_machfile.specs.Machines.{Hierarchy}
use Rattle.sq_mapping.specs.declared.mapping.Mapping.{Mapping as Mapped}
use Rattle.sq_forms.specs.Forms.{IsFirstMet}
use Rattle.sq_forms.specs.Resolving.{Resolving, resolution}
use Rattle.sq_forms.specs.declared.form.Form.{Form}
use Rattle.sq_forms.specs.declared.form.Use.{Use}
use Rattle.sq_spec.specs.declared.resolved.Resolved.{Resolved}
use Rattle.sq_race.specs.declared.forms.Found.{Found}
use Rattle.sq_race.specs.Race.{variant_by, maps_by, HoldsIn, HoldsAt, IsFirstRace}
use Rattle.sq_race.proofs.FirstInText.{first_in_text}
use Rattle.sq_tree.specs.Bank.{BankSeen}
use Rattle.sq_driver.specs.declared.outside.end.End.{End}
use Rattle.sq_driver.specs.declared.outside.end.End.TheVariants.{Usage, Absent, FileFault, Refused, Trapped, NoMemory, SinkFault}
use Rattle.sq_words.specs.declared.words.Kind.{Kind}
use Rattle.sq_words.specs.Words.{mapping, with_file, Command}
use Rattle.sq_driver.specs.Phases.{Inputs, inputs_of, IsTold}
use Rattle.sq_driver.specs.Holding.{Holds}
use Rattle.sq_driver.specs.Programs.{IsProgramText, IsFirstTypeFault}
use Rattle.sq_driver.specs.Sources.{IsMachineText, IsFirstMachineFault, IsMappingText, IsFirstMappingFault, IsFirstOfMapping, Sources}
use Rattle.sq_driver.specs.Races.{IsResolved, IsFirstRaceFault, IsFirstTextRace}
use Rattle.sq_driver.specs.Faults.{IsFirstOfMappings, IsFirstOf}
use Rattle.sq_driver.specs.Meaning.{Passed, AllPassed}
use Rattle.sq_driver.specs.Steps.{ReadsTree, Stopped}
use Rattle.sq_driver.specs.SharedFiles.{ReadsFront, ReadsSources, front_with, command_with, StopsFront, StopsSources}
use Rattle.sq_driver.specs.Evaluating.{EndsWith, ReadsMachine, ReadsMapping, HoldsProgram, HoldsMachine, HoldsSources}
use Rattle.sq_driver.proofs.Stopping.{told_of, phase_stops, memory_stops, is_there, no_file_there}
use Rattle.sq_driver.proofs.ProgramPhases.{BeginsWith, program_stops, types_stops, types_passed}

pub ok_same : {A B : Type 0} (x y : A) → ◌≡◌ {A = Result A B} (Ok x) (Ok y) → x ≡ y
ok_same x y is = cc

ok_or_err : {A B : Type 0} (x : A) (f : B) → Ok x ≡ Err f → ⊥
ok_or_err x f is = cc

-- no other program, machine and mapping are held
pub record AreOnly {inputs : Inputs} (tree : Tree) (hierarchy : Hierarchy) (mapped : Mapped)
    (that : Sources inputs) : Type 0 where
  pub tree_is : that.tree ≡ tree
  pub machine_is : that.hierarchy ≡ hierarchy
  pub mapping_is : that.mapped ≡ mapped

-- a race of equal forms
same_race : (r s : Resolved) (n : ℕ) (round : List ℕ) (x : Found) → r.forms ≡ s.forms → r.uses ≡ s.uses
    → r.typed.now ≡ s.typed.now → r.mapping.now ≡ s.mapping.now → HoldsAt r n round x → HoldsAt s n round x
same_race r s n round x forms uses trees mappings race = record {
  of = race.of;
  uses = race.uses;
  form_is = subst (λ (l : List Form). slice_get l n ≡ Some race.of) forms race.form_is;
  uses_are = subst (λ (l : List (List Use)). slice_get l n ≡ Some race.uses) uses race.uses_are;
  holds = subst (λ (t : Tree). HoldsIn
      (maps_by (variant_by t.tasks (slice_get s.mapping.now.instances race.of.instance))) race.uses round x) trees (
      subst (λ (m : Mapped). HoldsIn (maps_by (variant_by r.typed.now.tasks (slice_get m.instances race.of.instance)))
      race.uses round x) mappings race.holds);
}

-- ---- the program and the machine

module _ (its : Command) (begun : ReadsFront its.kind) (p k : List ℕ) (told : Option Content) where
  abbrev front_begins : BeginsWith (front_with its p k) p
  front_begins = record { rest = Types ∷ Machine ∷ Mapping ∷ begun.rest; split = begun.split; file = refl }

  pub front_told : (c : Content) → IsTold (front_with its p k) told c → told ≡ Some c
  front_told c is = told_of (front_with its p k) p told c refl is

  module _ (tree : Tree) (program : HoldsProgram told p tree) where
    two : (c : Content) → told ≡ Some c → AllPassed (front_with its p k) c (Program ∷ Types ∷ [])
    two c is = types_passed (front_with its p k) p front_begins told tree program.held
        (Machine ∷ Mapping ∷ begun.rest) refl program.faultless c is

    machine_stops : (bank : BankSeen) (end : End) → ReadsMachine told k (Err end)
        → Stopped (front_with its p k) told bank bank end
    machine_stops bank end stops = phase_stops (front_with its p k) told Machine
        (λ c f. Holds IsFirstMachineFault (c k) f) bank bank front_told
        (λ c is. record {
          before = Program ∷ Types ∷ [];
          after = Mapping ∷ begun.rest;
          split = begun.split;
          passed = two c (front_told c is);
        })
        (λ c is f holds. holds) refl (λ closed. refl) end stops

  module _ (tree : Tree) (hierarchy : Hierarchy) (machine : HoldsMachine told p k tree hierarchy) where
    machine_passed : (c : Content) → told ≡ Some c → Passed (front_with its p k) c Machine
    machine_passed c is = record {
      there = is_there c k (machine.held c is).one.holds.0 (machine.held c is).one.holds.1;
      no_fault = (machine.held c is).no_fault;
    }

    pub front_passed : (c : Content) → told ≡ Some c → AllPassed (front_with its p k) c
        (Program ∷ Types ∷ Machine ∷ [])
    front_passed c is =
        let before = two tree machine.program c is in (before.0, (before.1.0, (machine_passed c is, tt)))

-- ---- and the mapping

abbrev with_mapping : List ℕ → Command → Command
with_mapping m its = record its { files = with_file mapping m its.files }

abbrev pub front_of : {kind : Kind} → ReadsSources kind → ReadsFront kind
front_of begun = record { rest = Resolve ∷ Race ∷ begun.rest; split = begun.split }

module _ (its : Command) (begun : ReadsSources its.kind) (p m k : List ℕ) (told : Option Content) where
  pub one : (c : Content) → IsTold (command_with its p m k) told c → told ≡ Some c
  one c is = told_of (command_with its p m k) p told c refl is

  three : (tree : Tree) (hierarchy : Hierarchy) → HoldsMachine told p k tree hierarchy → (c : Content) → told ≡ Some c
      → AllPassed (command_with its p m k) c (Program ∷ Types ∷ Machine ∷ [])
  three tree hierarchy machine c is =
      front_passed (with_mapping m its) (front_of begun) p k told tree hierarchy machine c is

  -- its tunables have one alternative each
  mapping_fails : (inputs : Inputs) (f : Fault) → IsFirstOfMapping inputs f → IsFirstOf its.kind Mapping inputs f
  mapping_fails inputs f fails = subst (λ (b : Bool). IsFirstOfMappings b inputs f) (sym begun.fixed) fails

  mapping_failed : (inputs : Inputs) (f : Fault) → IsFirstOf its.kind Mapping inputs f → IsFirstOfMapping inputs f
  mapping_failed inputs f fails = subst (λ (b : Bool). IsFirstOfMappings b inputs f) begun.fixed fails

  module _ (tree : Tree) (hierarchy : Hierarchy) (machine : HoldsMachine told p k tree hierarchy) where
    pub mapping_stops : (bank : BankSeen) (end : End) → ReadsMapping tree hierarchy.levels told m (Err end)
        → Stopped (command_with its p m k) told bank bank end
    mapping_stops bank end stops = phase_stops (command_with its p m k) told Mapping
        (λ c f. Holds (IsFirstMappingFault tree hierarchy.levels) (c m) f) bank bank one
        (λ c is. record {
          before = Program ∷ Types ∷ Machine ∷ [];
          after = Resolve ∷ Race
              ∷ begun.rest;
          split = begun.split;
          passed = three tree hierarchy machine c (one c is);
        })
        (λ c is f holds. mapping_fails (inputs_of c (command_with its p m k)) f (record {
          tree = tree;
          hierarchy = hierarchy;
          program_is = (machine.program.held c is).one.holds;
          machine_is = (machine.held c is).one.holds;
          first = holds;
        })) refl (λ closed. refl) end stops

  module _ (tree : Tree) (hierarchy : Hierarchy) (mapped : Mapped)
      (held : HoldsSources told p m k tree hierarchy mapped) where
    abbrev pub sources : (c : Content) → told ≡ Some c → Sources (inputs_of c (command_with its p m k))
    sources c is = record {
      tree = tree;
      hierarchy = hierarchy;
      mapped = mapped;
      program_is = (held.machine.program.held c is).one.holds;
      machine_is = (held.machine.held c is).one.holds;
      mapping_is = (held.held c is).one.holds;
    }

    -- what is said of a mapping for an equal program and machine
    at_same : {A : Type 0} (P : Tree → Hierarchy → List ℕ → A → Type 0) (c : Content) (is : told ≡ Some c) (t : Tree)
        (h : Hierarchy) (value : A) → Holds IsProgramText (c p) t → Holds IsMachineText (c k) h
        → Holds (P t h) (c m) value → Holds (P tree hierarchy) (c m) value
    at_same P c is t h value program_is machine_is holds = (
      holds.0,
      holds.1,
      subst (λ (x : Tree). P x hierarchy holds.0 value) ((held.machine.program.held c is).one.only t program_is)
          (subst (λ (y : Hierarchy). P t y holds.0 value) ((held.machine.held c is).one.only h machine_is) holds.2),
    )

    pub only : (c : Content) → told ≡ Some c → (that : Sources (inputs_of c (command_with its p m k)))
        → AreOnly tree hierarchy mapped that
    only c is that = record {
      tree_is = (held.machine.program.held c is).one.only that.tree that.program_is;
      machine_is = (held.machine.held c is).one.only that.hierarchy that.machine_is;
      mapping_is = (held.held c is).one.only that.mapped
          (at_same (λ t h. IsMappingText t h.levels) c is that.tree that.hierarchy that.mapped that.program_is
          that.machine_is that.mapping_is);
    }

    mapping_passed : (c : Content) → told ≡ Some c → Passed (command_with its p m k) c Mapping
    mapping_passed c is = record {
      there = is_there c m (held.held c is).one.holds.0 (held.held c is).one.holds.1;
      no_fault = λ f fails.
          let first = mapping_failed (inputs_of c (command_with its p m k)) f fails in
          (held.held c is).no_fault f
          (at_same (λ t h. IsFirstMappingFault t h.levels) c is first.tree first.hierarchy f first.program_is
          first.machine_is first.first);
    }

    four : (c : Content) → told ≡ Some c → AllPassed (command_with its p m k) c
        (Program ∷ Types ∷ Machine ∷ Mapping ∷ [])
    four c is = let before = three tree hierarchy held.machine c is
        in (before.0, (before.1.0, (before.1.1.0, (mapping_passed c is, tt))))

    pub resolve_stops : (bank : BankSeen) (f : Fault) → IsFirstMet tree mapped f
        → Stopped (command_with its p m k) told bank bank (Refused f)
    resolve_stops bank f first = phase_stops (command_with its p m k) told Resolve (λ c f. IsFirstMet tree mapped f)
        bank bank one
        (λ c is. record {
          before = Program ∷ Types ∷ Machine ∷ Mapping ∷ [];
          after = Race
              ∷ begun.rest;
          split = begun.split;
          passed = four c (one c is);
        })
        (λ c is g met. record { sources = sources c is; first = met }) refl (λ closed. refl) (Refused f) (λ c is. first)

    -- the walk's answer for an equal program and mapping
    pub walk_same : (c : Content) (is : told ≡ Some c) (that : Sources (inputs_of c (command_with its p m k)))
        → resolution that.tree.tasks that.mapped ≡ resolution tree.tasks mapped
    walk_same c is that =
        ap (λ (t : Tree). resolution t.tasks that.mapped) (only c is that).tree_is
        ∙ ap (λ (x : Mapped). resolution tree.tasks x) (only c is that).mapping_is

    module _ (r : Resolved) (are : IsResolved tree hierarchy mapped r) where
      resolve_passed : (c : Content) → told ≡ Some c → Passed (command_with its p m k) c Resolve
      resolve_passed c is = record {
        there = no_file_there c;
        no_fault = λ f met. ok_or_err are.forms.left f
            (sym are.forms.through ∙ (sym (walk_same c is met.sources) ∙ met.first));
      }

      five : (c : Content) → told ≡ Some c → AllPassed (command_with its p m k) c
          (Program ∷ Types ∷ Machine ∷ Mapping ∷ Resolve ∷ [])
      five c is = let before = four c is
          in (before.0, (before.1.0, (before.1.1.0, (before.1.1.1.0, (resolve_passed c is, tt)))))

      -- the first race by its numbers is the first in the text
      in_the_text : (c : Content) → told ≡ Some c → (g : Fault) → IsFirstRaceFault r g → IsFirstTextRace r g
      in_the_text c is g first =
          let holds = (held.machine.program.held c is).one.holds in
          let text = holds.2 in
          let given : IsGiven r.typed.now = subst IsGiven (sym are.tree_is)
          (record { text = holds.0; tokens = text.tokens; read = text.are; stand = text.stand }) in
          record { race = first.race; first = first_in_text r given first.race first.first; is = first.is }

      pub race_stops : (bank : BankSeen) (f : Fault) → IsFirstRaceFault r f
          → Stopped (command_with its p m k) told bank bank (Refused f)
      race_stops bank f first = phase_stops (command_with its p m k) told Race (λ c f. IsFirstRaceFault r f) bank bank
          one
          (λ c is. record {
            before = Program ∷ Types ∷ Machine ∷ Mapping ∷ Resolve
                ∷ [];
            after = begun.rest;
            split = begun.split;
            passed = five c (one c is);
          })
          (λ c is g first. record { sources = sources c is; forms = r; are = are; first = in_the_text c is g first }) refl
          (λ closed. refl) (Refused f) (λ c is. first)

      module _ (none : IsFirstRace r None) where
        -- forms that are found again are these, so they have no race either
        no_race : (c : Content) → told ≡ Some c → (that : Sources (inputs_of c (command_with its p m k)))
            (s : Resolved) → IsResolved that.tree that.hierarchy that.mapped s → (n : ℕ) (round : List ℕ) (x : Found)
            → HoldsAt s n round x → ⊥
        no_race c is that s found n round x race =
            let left : found.forms.left ≡ are.forms.left = ok_same found.forms.left are.forms.left
            (sym found.forms.through ∙ (walk_same c is that ∙ are.forms.through)) in
            let equal = only c is that in
            none n round x (same_race s r n round x
            (sym found.forms.are ∙ (ap (λ (l : Resolving). l.forms) left ∙ are.forms.are))
            (sym found.forms.used ∙ (ap (λ (l : Resolving). l.uses) left ∙ are.forms.used))
            (found.tree_is ∙ (equal.tree_is ∙ sym are.tree_is))
            (found.mapping_is ∙ (equal.mapping_is ∙ sym are.mapping_is)) race)

        race_passed : (c : Content) → told ≡ Some c → Passed (command_with its p m k) c Race
        race_passed c is = record {
          there = no_file_there c;
          no_fault = λ f met.
              let its = met.first.first in
              no_race c is met.sources met.forms met.are its.form its.round its.found its.holds;
        }

        pub six : (c : Content) → told ≡ Some c → AllPassed (command_with its p m k) c
            (Program ∷ Types ∷ Machine ∷ Mapping ∷ Resolve ∷ Race ∷ [])
        six c is = let before = five c is
            in (before.0, (before.1.0, (before.1.1.0, (before.1.1.1.0, (before.1.1.1.1.0, (race_passed c is, tt))))))

-- ---- whatever a command over these files is to do with them

module _ (p k : List ℕ) (told : Option Content) where
  front_stop_with : (Fails : Fault → Type 0) → ((f : Fault) → Fails f → StopsFront told p k (Refused f)) → (end : End)
      → EndsWith Fails end → StopsFront told p k end
  front_stop_with Fails stopped Usage ends = absurd ends
  front_stop_with Fails stopped (Absent name) ends = absurd ends
  front_stop_with Fails stopped (FileFault name) ends = absurd ends
  front_stop_with Fails stopped (Refused f) ends = stopped f ends
  front_stop_with Fails stopped (Trapped trap) ends = absurd ends
  front_stop_with Fails stopped NoMemory ends = λ its begun bank. memory_stops (front_with its p k) told bank bank refl
  front_stop_with Fails stopped SinkFault ends = absurd ends

  pub stops_at_program : (end : End) → ReadsTree told p (Err end) → StopsFront told p k end
  stops_at_program end reads its begun bank =
      program_stops (front_with its p k) p (front_begins its begun p k told) told bank end reads

  pub stops_at_types : (tree : Tree) → ReadsTree told p (Ok tree) → (end : End) → EndsWith (IsFirstTypeFault tree) end
      → StopsFront told p k end
  stops_at_types tree reads end ends = front_stop_with (IsFirstTypeFault tree)
      (λ f first its begun bank. types_stops (front_with its p k) p (front_begins its begun p k told) told tree reads
      (Machine ∷ Mapping ∷ begun.rest) refl bank (Refused f) (λ c at. first)) end ends

  pub stops_at_machine : (tree : Tree) → HoldsProgram told p tree → (end : End) → ReadsMachine told k (Err end)
      → StopsFront told p k end
  stops_at_machine tree program end reads its begun bank = machine_stops its begun p k told tree program bank end reads

-- the same of another spelling of what is told
pub front_same : (p k : List ℕ) (told that : Option Content) (end : End) → that ≡ told → StopsFront that p k end
    → StopsFront told p k end
front_same p k told that end same stops = subst (λ (t : Option Content). StopsFront t p k end) same stops

module _ (p m k : List ℕ) (told : Option Content) where
  -- whatever the mapping is
  pub stops_before : (end : End) → StopsFront told p k end → StopsSources told p m k end
  stops_before end stops its begun bank = stops (with_mapping m its) (front_of begun) bank

  -- a fault that stops it, or want of memory
  stop_with : (Fails : Fault → Type 0) → ((f : Fault) → Fails f → StopsSources told p m k (Refused f)) → (end : End)
      → EndsWith Fails end → StopsSources told p m k end
  stop_with Fails stopped Usage ends = absurd ends
  stop_with Fails stopped (Absent name) ends = absurd ends
  stop_with Fails stopped (FileFault name) ends = absurd ends
  stop_with Fails stopped (Refused f) ends = stopped f ends
  stop_with Fails stopped (Trapped trap) ends = absurd ends
  stop_with Fails stopped NoMemory ends = λ its begun bank. memory_stops (command_with its p m k) told bank bank refl
  stop_with Fails stopped SinkFault ends = absurd ends

  pub stops_at_mapping : (tree : Tree) (hierarchy : Hierarchy) → HoldsMachine told p k tree hierarchy → (end : End)
      → ReadsMapping tree hierarchy.levels told m (Err end) → StopsSources told p m k end
  stops_at_mapping tree hierarchy machine end reads its begun bank =
      mapping_stops its begun p m k told tree hierarchy machine bank end reads

  module _ (tree : Tree) (hierarchy : Hierarchy) (mapped : Mapped)
      (held : HoldsSources told p m k tree hierarchy mapped) where
    pub stops_at_resolve : (end : End) → EndsWith (IsFirstMet tree mapped) end → StopsSources told p m k end
    stops_at_resolve end ends = stop_with (IsFirstMet tree mapped)
        (λ f first its begun bank. resolve_stops its begun p m k told tree hierarchy mapped held bank f first) end ends

    pub stops_at_race : (r : Resolved) → IsResolved tree hierarchy mapped r → (end : End)
        → EndsWith (IsFirstRaceFault r) end
        → StopsSources told p m k end
    stops_at_race r are end ends = stop_with (IsFirstRaceFault r)
        (λ f first its begun bank. race_stops its begun p m k told tree hierarchy mapped held r are bank f first) end
        ends

-- the same of another spelling of what is told
pub stops_same : (p m k : List ℕ) (told that : Option Content) (end : End) → that ≡ told → StopsSources that p m k end
    → StopsSources told p m k end
stops_same p m k told that end same stops = subst (λ (t : Option Content). StopsSources t p m k end) same stops
