-- What a text with alternatives gives: a mapping for each choice of them, and every fault.
--
-- Where `top` has `tunable U = 2 | 4;` and `tunable V = 1 | 3;`, choices 0 to 3 have U = 2 and V = 1, U = 2 and V = 3,
-- U = 4 and V = 1, U = 4 and V = 3.
use Rattle.std.specs.Prelude.{◌⊎◌, ℕ, suc, ◌+◌, ◌*◌, min, nat_le, nat_lt, Bool, ◌&&◌, List, [], ◌∷◌, length, map, Option}
use Rattle.std.specs.List.{flat_map}
use Rattle.sq_text.specs.declared.code.Phase.TheVariants as phase
use Rattle.sq_text.specs.declared.code.Code.TheVariants as code
use Rattle.sq_text.specs.declared.fault.Fault.{Fault}
use Rattle.sq_text.specs.declared.word.Word.{Word}
use Rattle.sq_text.specs.Found.{at_word, BreaksIn}
use Rattle.sq_ast.specs.declared.program.Program.{Program}
use Rattle.sq_machfile.specs.declared.level.Level.{Level}
use Rattle.sq_mapping.specs.declared.mapping.Setting.{Setting}
use Rattle.sq_mapfile.specs.declared.text.Alternatives.{Alternatives}
use Rattle.sq_mapfile.specs.declared.text.Tunables.TheVariants.{Varied}
use Rattle.sq_mapfile.specs.declared.text.ItemText.{ItemText}
use Rattle.sq_mapfile.specs.declared.text.ItemText.TheVariants.{Tunable}
use Rattle.sq_mapfile.specs.declared.text.InstanceText.{InstanceText}
use Rattle.sq_mapfile.specs.declared.text.MappingText.{MappingText}
use Rattle.sq_mapfile.specs.Grammar.{values}
use Rattle.sq_mapping.specs.Required.{Required}
use Rattle.sq_mapfile.specs.Faults.{Rule, Scope, scope, required_of, tunable_kind, breach_of}
use Rattle.sq_mapfile.specs.Mappings.{BreaksRule, FileFault}

-- ---- the choices, in their order

-- one of the ways of each, the last one varying fastest
abbrev pub each : {A B : Type 0} → (A → List B) → List A → List (List B)
each ways [] = [] ∷ []
each ways (x ∷ rest) = flat_map (λ y. map (λ ys. y ∷ ys) (each ways rest)) (ways x)

-- the item with one of its alternatives alone
abbrev pub item_choices : ItemText → List ItemText
item_choices (Tunable name its) = map (λ setting. Tunable name (values setting [])) (its.first ∷ its.others)
item_choices x = x ∷ []

abbrev pub with_items : InstanceText → List ItemText → InstanceText
with_items x items = record { name = x.name; task = x.task; kind = x.kind; level = x.level; items = items }

abbrev pub instance_choices : InstanceText → List InstanceText
instance_choices x = map (with_items x) (each item_choices x.items)

abbrev pub with_instances : MappingText → List InstanceText → MappingText
with_instances m instances = record { entry = m.entry; sizes = m.sizes; instances = instances }

-- The texts with the alternatives of each choice alone. Choices are numbered from 0, tunables in the order of the text,
-- the last one varying fastest.
abbrev pub choices_of : MappingText → List MappingText
choices_of m = map (with_instances m) (each instance_choices m.instances)

-- ---- the rules of alternatives

-- there are no more choices
unfoldable pub most_choices : ℕ
most_choices = 4096

-- So many choices, each with one of so many further alternatives or without. Past the most they count as one more.
abbrev pub times : ℕ → ℕ → ℕ
times count others = min (count + count * others) (suc most_choices)

-- the choices pass the most: they didn't before
abbrev pub passes : (before through : ℕ) → Bool
passes before through = nat_le before most_choices && nat_lt most_choices through

-- these rules, and then others
abbrev pub Rules : Type 0
Rules = List Rule → List Rule

-- each of these alternatives has to be of the tunable's kind
abbrev pub kind_rules : Option Required → Word → List Setting → Rules
kind_rules required name [] later = later
kind_rules required name (setting ∷ rest) later = tunable_kind required name setting ∷ kind_rules required name rest later

-- of a tunable, before which there are so many choices
abbrev pub tunable_rules : Option Required → ℕ → Word → Alternatives → Rules
tunable_rules required count name its later =
    at_word code.LimitChoices name (passes count (times count (length its.others))) ∷ kind_rules required name its.others later

abbrev pub item_rules : Option Required → ℕ → ItemText → Rules
item_rules required count (Tunable name its) later = tunable_rules required count name its later
item_rules required count _ later = later

-- how many choices there are behind the item
abbrev pub item_count : ℕ → ItemText → ℕ
item_count count (Tunable name its) = times count (length its.others)
item_count count _ = count

abbrev pub items_rules : Option Required → ℕ → List ItemText → Rules
items_rules required count [] later = later
items_rules required count (x ∷ rest) later = item_rules required count x (items_rules required (item_count count x) rest later)

abbrev pub items_count : ℕ → List ItemText → ℕ
items_count count [] = count
items_count count (x ∷ rest) = items_count (item_count count x) rest

abbrev pub instances_rules : Scope → ℕ → List InstanceText → Rules
instances_rules s count [] later = later
instances_rules s count (x ∷ rest) later = items_rules (required_of s x) count x.items (instances_rules s (items_count count x.items) rest later)

abbrev pub instances_count : ℕ → List InstanceText → ℕ
instances_count count [] = count
instances_count count (x ∷ rest) = instances_count (items_count count x.items) rest

-- The rules that alternatives add to those of a mapping, which are asked of the first ones: the others are of their
-- tunable's kind, and the choices don't pass the most.
abbrev pub choice_rules : Program → List Level → MappingText → List Rule
choice_rules program levels m = instances_rules (scope program levels m) 1 m.instances []

-- a rule is broken: one of a mapping, or one of alternatives
abbrev pub BreaksChoices : Program → List Level → MappingText → Fault → Type 0
BreaksChoices program levels m f = BreaksRule program levels m f ⊎ BreaksIn breach_of phase.Mapping (choice_rules program levels m) f

-- every fault of a mapping file with alternatives, for a program and a machine of these levels
abbrev pub ChoicesFault : Program → List Level → List ℕ → Fault → Type 0
ChoicesFault program levels = FileFault Varied (BreaksChoices program levels)
