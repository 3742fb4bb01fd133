-- Which mapping a text stands for, and every fault of a mapping file.
use Rattle.std.specs.Prelude.{◌≡◌, ◌⊎◌, ℕ, List, [], ◌∷◌, map, Some, slice_get}
use Rattle.sq_text.specs.declared.code.Phase.TheVariants as phase
use Rattle.sq_text.specs.declared.fault.Fault.{Fault}
use Rattle.sq_text.specs.First.{InTurn}
use Rattle.sq_lexer.specs.declared.token.Token.{Token}
use Rattle.sq_lexer.specs.Tokens.{AreTokens}
use Rattle.sq_lexer.specs.Faults.{FitsFile, HasFault}
use Rattle.sq_text.specs.declared.spread.SpreadRule.{SpreadRule}
use Rattle.sq_text.specs.declared.spread.SpreadRule.TheVariants.{Cyclic}
use Rattle.sq_text.specs.declared.word.Word.{Word}
use Rattle.sq_patterns.specs.Texts as texts
use Rattle.sq_ast.specs.declared.program.VariantKind.TheVariants.{Inner}
use Rattle.sq_ast.specs.declared.program.Program.{Program}
use Rattle.sq_machfile.specs.declared.level.Level.{Level}
use Rattle.sq_mapping.specs.declared.mapping.Tuning.{Tuning}
use Rattle.sq_mapping.specs.declared.mapping.Route.{Route}
use Rattle.sq_mapping.specs.declared.mapping.Instance.{Instance}
use Rattle.sq_mapping.specs.declared.mapping.SizeSet.{SizeSet}
use Rattle.sq_mapping.specs.declared.mapping.Mapping.{Mapping}
use Rattle.sq_mapfile.specs.declared.text.SizeText.{SizeText}
use Rattle.sq_mapfile.specs.declared.text.ItemText.{ItemText}
use Rattle.sq_mapfile.specs.declared.text.ItemText.TheVariants.{Tunable, Call, Spread}
use Rattle.sq_mapfile.specs.declared.text.InstanceText.{InstanceText}
use Rattle.sq_mapfile.specs.declared.text.MappingText.{MappingText}
use Rattle.sq_mapfile.specs.declared.text.Alternatives.{Alternatives}
use Rattle.sq_mapfile.specs.declared.text.Tunables.{Tunables}
use Rattle.sq_mapfile.specs.declared.text.Tunables.TheVariants.{Fixed}
use Rattle.sq_mapfile.specs.Names.{index_of, spread_index, level_of}
use Rattle.sq_mapfile.specs.Grammar.{IsTextOf}
use Rattle.sq_mapfile.specs.Faults.{NameFault}
use Rattle.sq_mapfile.specs.Cycles.{CycleFault}

-- ---- names resolved

abbrev pub tunings_of : List ItemText → List Tuning
tunings_of [] = []
tunings_of (Tunable name values ∷ rest) = record { name = name.name; setting = values.first } ∷ tunings_of rest
tunings_of (_ ∷ rest) = tunings_of rest

-- the first rule that is chosen; where none is, the iterations go round
abbrev pub spread_of : List ItemText → SpreadRule
spread_of [] = Cyclic
spread_of (Spread word rule ∷ rest) = rule
spread_of (_ ∷ rest) = spread_of rest

-- the routes of the calls, in the order of the text, each to the instance of the name
pub data AreRoutes (instances : List InstanceText) : List ItemText → List Route → Type 0 where
  no_route : AreRoutes instances [] []
  no_call : {name : Word} {values : Alternatives} {items : List ItemText} {routes : List Route}
      → AreRoutes instances items routes → AreRoutes instances (Tunable name values ∷ items) routes
  no_rule : {word : Word} {rule : SpreadRule} {items : List ItemText} {routes : List Route}
      → AreRoutes instances items routes → AreRoutes instances (Spread word rule ∷ items) routes
  a_route : {task name : Word} {i : ℕ} {items : List ItemText} {routes : List Route}
      → index_of instances name.name ≡ Some i → AreRoutes instances items routes
      → AreRoutes instances (Call task name ∷ items) (record { task = task.name; instance = i } ∷ routes)

pub record IsInstance (levels : List Level) (instances : List InstanceText) (x : InstanceText) (instance : Instance) : Type 0 where
  pub name : instance.name ≡ x.name.name
  pub task : instance.task ≡ x.task.name
  pub kind : instance.kind ≡ x.kind
  pub level : level_of levels x.level.name ≡ Some instance.level
  pub tunings : instance.tunings ≡ tunings_of x.items
  pub routes : AreRoutes instances x.items instance.routes
  pub spread : instance.spread ≡ spread_of x.items

pub data AreInstances (levels : List Level) (instances : List InstanceText) : List InstanceText → List Instance → Type 0 where
  none_left : AreInstances levels instances [] []
  one_more : {x : InstanceText} {instance : Instance} {xs : List InstanceText} {rest : List Instance}
      → IsInstance levels instances x instance → AreInstances levels instances xs rest → AreInstances levels instances (x ∷ xs) (instance ∷ rest)

abbrev pub size_set : SizeText → SizeSet
size_set size = record { name = size.name.name; value = size.value }

-- what the file says, with each name as the index of what it names
pub record Resolves (levels : List Level) (m : MappingText) (mapping : Mapping) : Type 0 where
  pub entry : index_of m.instances m.entry.name ≡ Some mapping.entry
  pub sizes : mapping.sizes ≡ map size_set m.sizes
  pub instances : AreInstances levels m.instances m.instances mapping.instances

-- what a mapping doesn't tell of its text: an instance chooses at most once how to spread, and a leaf doesn't
pub record SpreadsOnce (m : MappingText) : Type 0 where
  pub once : (i k : ℕ) (x : InstanceText) (word : Word) (rule : SpreadRule) → slice_get m.instances i ≡ Some x → slice_get x.items k ≡ Some (Spread word rule) → spread_index x.items ≡ Some k
  pub inner : (i k : ℕ) (x : InstanceText) (word : Word) (rule : SpreadRule) → slice_get m.instances i ≡ Some x → slice_get x.items k ≡ Some (Spread word rule) → x.kind ≡ Inner

-- ---- texts

-- The text, which is no longer than a mapping file may be, is written by the grammar as this mapping, with alternatives
-- where tunables are varied.
pub record WritesAs (tunables : Tunables) (text : List ℕ) (m : MappingText) : Type 0 where
  pub tokens : List Token
  pub tokens_of : AreTokens text tokens
  pub fits : FitsFile phase.Mapping text
  pub grammar : IsTextOf tunables tokens m

-- it is written as this mapping
abbrev pub Writes : List ℕ → MappingText → Type 0
Writes = WritesAs Fixed

-- the first token with which no text of the grammar begins
abbrev pub IsSyntaxFaultOf : Tunables → List Token → Fault → Type 0
IsSyntaxFaultOf tunables = texts.IsSyntaxFault (IsTextOf tunables) phase.Mapping

pub record SyntaxFault (tunables : Tunables) (text : List ℕ) (f : Fault) : Type 0 where
  pub tokens : List Token
  pub tokens_of : AreTokens text tokens
  pub faulty : IsSyntaxFaultOf tunables tokens f

-- a rule of the mapping is broken: one of names, or that no call lies on a cycle
abbrev pub BreaksRule : Program → List Level → MappingText → Fault → Type 0
BreaksRule program levels m f = NameFault program levels m f ⊎ CycleFault m f

-- what the text is written as breaks a rule
pub record RuleFault (tunables : Tunables) (Breaks : MappingText → Fault → Type 0) (text : List ℕ) (f : Fault) : Type 0 where
  pub mapping : MappingText
  pub writes : WritesAs tunables text mapping
  pub broken : Breaks mapping f

-- Every fault of a file: of its length and its tokens; where there is none, of the grammar; and where there is none, of
-- these rules.
abbrev pub FileFault : Tunables → (MappingText → Fault → Type 0) → List ℕ → Fault → Type 0
FileFault tunables Breaks text = InTurn (HasFault phase.Mapping text) (InTurn (SyntaxFault tunables text) (RuleFault tunables Breaks text))

-- every fault of a mapping file, for a program and a machine of these levels
abbrev pub MappingFault : Program → List Level → List ℕ → Fault → Type 0
MappingFault program levels = FileFault Fixed (BreaksRule program levels)

-- the text stands for this mapping onto a machine of these levels
pub record StandsFor (levels : List Level) (text : List ℕ) (mapping : Mapping) : Type 0 where
  pub written : MappingText
  pub writes : Writes text written
  pub resolves : Resolves levels written mapping
