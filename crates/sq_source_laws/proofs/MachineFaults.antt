-- What breaks a limit of a machine is told by its place and its code.
use Rattle.std.proofs.Common.{◌≡◌, ℕ, ◌+◌, ◌-◌, Bool, ◌&&◌, ◌==◌, List, [], ◌∷◌, ◌++◌, map, length, Option, Some, None, refl, ◌∙◌, ap}
use Rattle.std.specs.List.{AllByRecursion}
use Rattle.std.specs.Prelude.{get_or, nat_lt, nat_le}
use Rattle.sq_text.specs.declared.place.Place.{Place}
use Rattle.sq_text.specs.Places.{IsBefore}
use Rattle.sq_text.specs.declared.code.Phase.TheVariants.{Machine}
use Rattle.sq_text.specs.declared.code.Code.{Code}
use Rattle.sq_text.specs.declared.code.Code.TheVariants as code
use Rattle.sq_text.specs.declared.fault.Arg.{Arg}
use Rattle.sq_text.specs.declared.fault.Arg.TheVariants.{Number}
use Rattle.sq_text.specs.declared.fault.Fault.{Fault}
use Rattle.sq_text.specs.declared.word.Word.{Word}
use Rattle.sq_text.specs.declared.word.Numeral.{Numeral}
use Rattle.sq_text.specs.Codes.{number}
use Rattle.sq_text.specs.Found.{Breach, at_word, at_numeral}
use Rattle.sq_text.specs.Limits.{most_levels, most_nodes}
use Rattle.sq_text.specs.Names.{Bytes}
use Rattle.sq_lexer.specs.declared.token.Token.{Token}
use Rattle.sq_machfile.specs.declared.text.LevelText.{LevelText}
use Rattle.sq_machfile.specs.declared.text.Below.{Below}
use Rattle.sq_machfile.specs.declared.text.LevelsText.{LevelsText}
use Rattle.sq_machfile.specs.declared.text.NodeText.{NodeText}
use Rattle.sq_machfile.specs.declared.text.NodesText.{NodesText}
use Rattle.sq_machfile.specs.declared.text.MachineText.{MachineText}
use Rattle.sq_machfile.specs.declared.text.MachineText.TheVariants.{Levels, Nodes}
use Rattle.sq_machfile.specs.declared.nested.Nested.{Nested}
use Rattle.sq_machfile.specs.Nesting.{nested}
use Rattle.sq_machfile.specs.Faults.{of_each, is_among, passes, is_bad_fan, is_over_capacity, level_name, nodes_to, bytes_to, names_to, root_rules, below_rules, levels_rules, fan_of, bytes_in, node_rules, nodes_rules, LimitFault}
use Rattle.sq_source_laws.proofs.Rising.{Rises, some_rise, Among, each_among, standing, IsFound, each_so, each_append, each_found}
use Rattle.sq_source_laws.proofs.TokenPlaces.{token_place, word_token, numeral_token, args_at, IsThere, word_args, numeral_args}
use Rattle.sq_source_laws.proofs.MachineWords.{level_tokens, below_tokens, name_tokens, node_tokens, machine_tokens}
use Rattle.sq_source_laws.proofs.Determined.{Fits, fits_word, fits_numeral, IsTold, told, told_in}

-- the codes of the numbers from 7 on
abbrev pub machine_code : ℕ → Code
machine_code n = get_or (code.DupLevel ∷ code.LimitLevels ∷ code.LimitFan ∷ code.LimitCapacity ∷ code.LimitNodes ∷ code.DupNode ∷ code.NodeDepth ∷ []) (n - 7) code.LimitFile

abbrev node_place : Nested → Place
node_place n = n.name.place

abbrev children_args : Option Nested → List Arg
children_args None = []
children_args (Some n) = Number n.children ∷ []

-- in version 2 the children of the node that stands there are counted
abbrev fan_args : MachineText → List Token → Place → List Arg
fan_args (Levels text) ts p = args_at ts p
fan_args (Nodes text) ts p = children_args (standing node_place (nested text.nodes) p)

-- what each code names at a place
abbrev pub machine_args : MachineText → List Token → Code → Place → List Arg
machine_args x ts code.LimitFan p = fan_args x ts p
machine_args x ts _ p = args_at ts p

module _ (ts : List Token) (x : MachineText) where
  abbrev FitsMachine : Option Breach → Type 0
  FitsMachine = Fits Machine machine_code (machine_args x ts)

  word_fits : (c : Code) (word : Word) (broken : Bool) → machine_code (number Machine c) ≡ c → machine_args x ts c word.place ≡ args_at ts word.place
      → IsThere ts (word_token word) → FitsMachine (at_word c word broken)
  word_fits c word broken is named h = fits_word Machine machine_code (machine_args x ts) c word broken is (named ∙ word_args ts word h)

  numeral_fits : (c : Code) (numeral : Numeral) (broken : Bool) → machine_code (number Machine c) ≡ c → machine_args x ts c numeral.place ≡ args_at ts numeral.place
      → IsThere ts (numeral_token numeral) → FitsMachine (at_numeral c numeral broken)
  numeral_fits c numeral broken is named h = fits_numeral Machine machine_code (machine_args x ts) c numeral broken is (named ∙ numeral_args ts numeral h)

  name_fits : (above : List Bytes) (word : Word) → IsThere ts (word_token word) → AllByRecursion FitsMachine (level_name above word)
  unfolding number
  name_fits above word h = (
    word_fits code.DupLevel word (is_among above word.name) refl refl h,
    (word_fits code.LimitLevels word (length above == most_levels) refl refl h, tt),
  )

  capacity_fits : (numeral : Numeral) (before after : ℕ) → IsThere ts (numeral_token numeral)
      → FitsMachine (at_numeral code.LimitCapacity numeral (is_over_capacity numeral.value before after))
  unfolding number
  capacity_fits numeral before after h = numeral_fits code.LimitCapacity numeral (is_over_capacity numeral.value before after) refl refl h

-- ---- version 1

module _ (ts : List Token) (text : LevelsText) where
  abbrev FitsLevels : Option Breach → Type 0
  FitsLevels = FitsMachine ts (Levels text)

  root_fits : (root : LevelText) (l : List Token) → AllByRecursion (IsThere ts) (level_tokens root l) → AllByRecursion FitsLevels (root_rules root)
  root_fits root l h =
      let name = name_fits ts (Levels text) [] root.name h.0 in
      (name.0, (name.1.0, (capacity_fits ts (Levels text) root.capacity 0 root.capacity.value h.1.0, tt)))

  below_fits : (root : LevelText) (above below : List Below) → AllByRecursion (IsThere ts) (below_tokens below [])
      → AllByRecursion FitsLevels (of_each (below_rules root) above below)
  unfolding number
  below_fits root above [] h = tt
  below_fits root above (b ∷ below) h =
      let name = name_fits ts (Levels text) (names_to root above) b.level.name h.1.0 in (
        numeral_fits ts (Levels text) code.LimitFan b.children (is_bad_fan b.children.value) refl refl h.0,
        (
          numeral_fits ts (Levels text) code.LimitNodes b.children (passes most_nodes (nodes_to above) (nodes_to (above ++ b ∷ []))) refl refl h.0,
          (
            name.0,
            (
              name.1.0,
              (
                capacity_fits ts (Levels text) b.level.capacity (bytes_to root above) (bytes_to root (above ++ b ∷ [])) h.1.1.0,
                below_fits root (above ++ b ∷ []) below h.1.1.1,
              ),
            ),
          ),
        ),
      )

  levels_fit : AllByRecursion (IsThere ts) (machine_tokens (Levels text) []) → AllByRecursion FitsLevels (levels_rules text)
  levels_fit h = each_append FitsLevels (root_rules text.root) (of_each (below_rules text.root) [] text.below)
      (root_fits text.root (below_tokens text.below []) h) (below_fits text.root [] text.below h.1.1)

-- ---- version 2

-- what holds of the tokens holds of the nodes' names and capacities
nested_each : (P : Token → Type 0) (nodes : List NodeText) → AllByRecursion P (node_tokens nodes [])
    → AllByRecursion (λ n. P (word_token n.name) × P (numeral_token n.capacity)) (nested nodes)
nested_each P [] h = tt
nested_each P (n ∷ nodes) h = ((h.0, h.1.0), nested_each P nodes h.1.1)

nested_rise : (nodes : List NodeText) → Rises token_place (node_tokens nodes []) → Rises node_place (nested nodes)
nested_rise [] h = tt
nested_rise (n ∷ nodes) h = (
  each_so (nested nodes) (λ m before. before.0) (nested_each (λ t. IsBefore n.name.place (token_place t)) nodes h.0.1),
  nested_rise nodes h.1.1,
)

past_names : (P : Token → Type 0) (names : List Word) (l : List Token) → AllByRecursion P (name_tokens names l) → AllByRecursion P l
past_names P [] l h = h
past_names P (name ∷ names) l h = past_names P names l h.1

past_risen : (names : List Word) (l : List Token) → Rises token_place (name_tokens names l) → Rises token_place l
past_risen [] l h = h
past_risen (name ∷ names) l h = past_risen names l h.1

module _ (ts : List Token) (text : NodesText) where
  abbrev FitsNodes : Option Breach → Type 0
  FitsNodes = FitsMachine ts (Nodes text)

  names_fit : (above names : List Word) (l : List Token) → AllByRecursion (IsThere ts) (name_tokens names l)
      → AllByRecursion FitsNodes (of_each (λ above word. level_name (map (λ w. w.name) above) word) above names)
  names_fit above [] l h = tt
  names_fit above (name ∷ names) l h =
      let fit = name_fits ts (Nodes text) (map (λ w. w.name) above) name h.0 in
      (fit.0, (fit.1.0, names_fit (above ++ name ∷ []) names l h.1))

  abbrev IsIn : Nested → Type 0
  IsIn n = IsThere ts (word_token n.name) × IsThere ts (numeral_token n.capacity)

  nodes_fit : (levels : ℕ) (before nodes : List Nested) → AllByRecursion IsIn nodes → AllByRecursion (IsFound node_place (nested text.nodes)) nodes
      → AllByRecursion FitsNodes (of_each (node_rules levels) before nodes)
  unfolding number
  nodes_fit levels before [] h found = tt
  nodes_fit levels before (n ∷ nodes) h found = (
    word_fits ts (Nodes text) code.DupNode n.name (is_among (map (λ m. m.name.name) before) n.name.name) refl refl h.0.0,
    (
      word_fits ts (Nodes text) code.NodeDepth n.name (nat_le levels n.depth) refl refl h.0.0,
      (
        word_fits ts (Nodes text) code.LimitNodes n.name (length before == most_nodes) refl refl h.0.0,
        (
          fits_numeral Machine machine_code (machine_args (Nodes text) ts) code.LimitFan (fan_of n) (nat_lt n.depth (levels - 1) && is_bad_fan n.children) refl
              (ap children_args found.0),
          (
            capacity_fits ts (Nodes text) n.capacity (bytes_in before) (bytes_in before + n.capacity.value) h.0.1,
            nodes_fit levels (before ++ n ∷ []) nodes h.1 found.1,
          ),
        ),
      ),
    ),
  )

  nodes_rules_fit : AllByRecursion (IsThere ts) (machine_tokens (Nodes text) []) → Rises token_place (machine_tokens (Nodes text) [])
      → AllByRecursion FitsNodes (nodes_rules text)
  nodes_rules_fit h rise = each_append FitsNodes (of_each (λ above word. level_name (map (λ w. w.name) above) word) [] text.names)
      (of_each (node_rules (length text.names)) [] (nested text.nodes))
      (names_fit [] text.names (node_tokens text.nodes []) h)
      (nodes_fit (length text.names) [] (nested text.nodes) (nested_each (IsThere ts) text.nodes (past_names (IsThere ts) text.names (node_tokens text.nodes []) h))
      (each_found node_place (nested text.nodes) (nested_rise text.nodes (past_risen text.names (node_tokens text.nodes []) rise))))

-- ---- either

abbrev pub machine_table : MachineText → List Token → Place → ℕ → Fault
machine_table x ts = told Machine machine_code (machine_args x ts)

pub limits_told : (ts : List Token) (x : MachineText) → Rises token_place ts → Among (machine_tokens x []) ts → (f : Fault) → LimitFault x f → IsTold (machine_table x ts) f
limits_told ts (Levels text) rise among f h =
    told_in Machine machine_code (machine_args (Levels text) ts) (levels_rules text)
    (levels_fit ts text (each_among (IsThere ts) among (each_found token_place ts rise))) f h
limits_told ts (Nodes text) rise among f h =
    told_in Machine machine_code (machine_args (Nodes text) ts) (nodes_rules text)
    (nodes_rules_fit ts text (each_among (IsThere ts) among (each_found token_place ts rise)) (some_rise token_place among rise)) f h
