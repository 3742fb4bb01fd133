-- What is true of the demo's texts.
use Rattle.std.specs.Prelude.{◌≡◌, ◌≤◌, ◌*◌, ℕ, ℤ, List, [], ◌∷◌, replicate, codes, Some, None, Ok, Err, slice_get}
use Rattle.sq_num.specs.declared.Elem.TheVariants.{Int}
use Rattle.sq_num.specs.Elements.{values_in}
use Rattle.sq_rect.specs.Extents.{product}
use Rattle.sq_arrays.specs.Arrays.{Wanted, arrays_of}
use Rattle.sq_text.specs.declared.fault.Fault.{Fault}
use Rattle.sq_lexer.specs.declared.token.Token.{Token}
use Rattle.sq_lexer.specs.Tokens.{AreTokens}
use Rattle.sq_text.specs.declared.code.Phase.TheVariants.{Program as ProgramPhase}
use Rattle.sq_lexer.specs.Faults.{HasFault}
use Rattle.sq_ast.specs.declared.program.Program.{Program}
use Rattle.sq_parser.specs.Programs as parsing
use Rattle.sq_spec_laws.specs.Spec.declared.resolved.Resolved.{Resolved}
use Rattle.sq_race.specs.Race.{IsFirstRace}
use Rattle.sq_machfile.specs.Machines.{Hierarchy, StandsFor as IsHierarchyOf, MachineFault}
use Rattle.sq_mapping.specs.declared.mapping.Mapping.{Mapping}
use Rattle.sq_mapfile.specs.Mappings.{StandsFor as IsMappingOf, MappingFault}
use Rattle.sq_mapping.specs.Sound.{Sound}
use Rattle.sq_types.specs.Sites.{TypeFault}
use Rattle.sq_forms.specs.Resolving.{resolution}
use Rattle.sq_leaf.specs.Source.{Arrays}
use Rattle.sq_work.specs.Meaning.{Trapped}
use Rattle.sq_spec_laws.specs.Spec.Works.{flat}
use Rattle.sq_spec_laws.specs.Needs.{Needs}
use Rattle.sq_machfile.specs.declared.node.Node.{Node}
use Rattle.sq_machfile.specs.Machines.{WithinLimits}
use Rattle.sq_demo_laws.specs.Tree.{demo_tree}
use Rattle.sq_demo.specs.Report.Demo.{demo_program, demo_mapping, demo_machine, demo_first, demo_second, demo_elements}
use Rattle.sq_demo.specs.Data.{demo_data, matrix_of}
use Rattle.sq_demo_laws.specs.Texts.{program_tokens, mapping_tokens, machine_tokens}
use Rattle.sq_demo_laws.specs.Machine.{demo_hierarchy, demo_mapped}
use Rattle.sq_demo_laws.specs.FormsFound.{demo_forms, demo_uses, demo_resolving}

-- the tokens of the texts
abbrev pub ProgramHasTokens : Type 0
ProgramHasTokens = AreTokens demo_program program_tokens

abbrev pub MappingHasTokens : Type 0
MappingHasTokens = AreTokens demo_mapping mapping_tokens

abbrev pub MachineHasTokens : Type 0
MachineHasTokens = AreTokens demo_machine machine_tokens

-- the program's text stands for no other program than this, and has no fault
abbrev pub OneTree : Type 0
OneTree = (ts : List Token) (p : Program) → AreTokens demo_program ts → parsing.IsProgram ts p → p ≡ demo_tree

abbrev pub ProgramHasNoFault : Type 0
ProgramHasNoFault = (f : Fault) → HasFault ProgramPhase demo_program f → ⊥

abbrev pub ProgramIsRead : Type 0
ProgramIsRead = (ts : List Token) (f : Fault) → AreTokens demo_program ts → parsing.HasFault ts f → ⊥

-- the machine's text stands for no other machine than this, and has no fault
abbrev pub OneMachine : Type 0
OneMachine = (h : Hierarchy) → IsHierarchyOf demo_machine h → h ≡ demo_hierarchy

abbrev pub MachineIsFaultless : Type 0
MachineIsFaultless = (f : Fault) → MachineFault demo_machine f → ⊥

-- the mapping's text stands for no other mapping than this, has no fault for the program and the machine, and is sound
abbrev pub OneMapping : Type 0
OneMapping = (m : Mapping) → IsMappingOf demo_hierarchy.levels demo_mapping m → m ≡ demo_mapped

abbrev pub MappingIsFaultless : Type 0
MappingIsFaultless = (f : Fault) → MappingFault demo_tree demo_hierarchy.levels demo_mapping f → ⊥

abbrev pub MappingIsSound : Type 0
MappingIsSound = Sound demo_tree demo_hierarchy.levels demo_mapped

-- the program has no fault of names, kinds or parameters
abbrev pub ProgramIsFaultless : Type 0
ProgramIsFaultless = (f : Fault) → TypeFault demo_tree f → ⊥

-- the forms of the program, with their accesses
abbrev pub ProgramResolves : Type 0
ProgramResolves = resolution demo_tree.tasks demo_mapped ≡ Ok demo_resolving

-- with these no two of them race
abbrev pub FormsAreFree : Type 0
FormsAreFree = (r : Resolved) → r.typed.now ≡ demo_tree → r.mapping.now ≡ demo_mapped → r.forms ≡ demo_forms
    → r.uses ≡ demo_uses → IsFirstRace r None

-- a node of the machine has no fewer bytes than these forms need there
abbrev pub NodesHaveEnough : Type 0
NodesHaveEnough = (r : Resolved) → r.typed.now ≡ demo_tree → r.mapping.now ≡ demo_mapped
    → r.machine.now ≡ demo_hierarchy
    → r.forms ≡ demo_forms → (node need : ℕ) (its : Node) → slice_get r.machine.now.nodes node ≡ Some its
    → Needs r.typed.now.tasks r.mapping.now.instances r.machine.now.nodes r.forms node need → need ≤ its.capacity

-- whatever the arrays hold, the program doesn't trap
abbrev pub ProgramIsTrapless : Type 0
ProgramIsTrapless = (s : Arrays) (trapped : Trapped) → flat demo_tree demo_mapped s ≡ Err trapped → ⊥

-- ---- the data

-- A, B and C
abbrev pub demo_wants : List Wanted
demo_wants = matrix_of (codes "A") ∷ matrix_of (codes "B") ∷ matrix_of (codes "C") ∷ []

abbrev pub matrix_values : List ℕ → List ℤ
matrix_values bytes = values_in Int (product (128 ∷ 128 ∷ [])) bytes

abbrev pub demo_values : ℕ → List (List ℤ)
demo_values seed =
    matrix_values (demo_first seed) ∷ matrix_values (demo_second seed) ∷ matrix_values (replicate (demo_elements * 4) 0)
    ∷ []

-- the data of a number is read as its arrays
abbrev pub DataIsRead : Type 0
DataIsRead = (seed : ℕ) → arrays_of demo_wants (demo_data seed) ≡ Ok (demo_values seed)

-- ---- all of it

-- no phase of the demo has a fault, and its program doesn't trap; a machine that was read is within the limits
pub record DemoLaws : Type 0 where
  pub one_tree : OneTree
  pub tokens : ProgramHasNoFault
  pub read : ProgramIsRead
  pub faultless : ProgramIsFaultless
  pub one_machine : OneMachine
  pub machine : MachineIsFaultless
  pub one_mapping : OneMapping
  pub mapping : MappingIsFaultless
  pub resolves : ProgramResolves
  pub free : FormsAreFree
  pub enough : WithinLimits demo_hierarchy → NodesHaveEnough
  pub input : DataIsRead
  pub trapless : ProgramIsTrapless
