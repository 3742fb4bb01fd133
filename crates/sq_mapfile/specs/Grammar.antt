-- The grammar of mapping files. Every word may be a name. Where tunables are varied, alternatives may stand behind their
-- values.
use Rattle.std.specs.Prelude.{ℕ, ℤ, pos, List, [], ◌∷◌, codes}
use Rattle.std.proofs.Math.IntN.{neg_ℤ}
use Rattle.sq_text.specs.declared.place.Place.{Place}
use Rattle.sq_text.specs.declared.word.Word.{Word as Placed}
use Rattle.sq_text.specs.declared.spread.SpreadRule.{SpreadRule}
use Rattle.sq_text.specs.declared.spread.SpreadRule.TheVariants.{Cyclic, Blocked}
use Rattle.sq_ast.specs.declared.program.VariantKind.{VariantKind}
use Rattle.sq_ast.specs.declared.program.VariantKind.TheVariants.{Inner, Leaf}
use Rattle.sq_lexer.specs.declared.token.Token.{Token}
use Rattle.sq_lexer.specs.declared.token.Kind.TheVariants.{Word, Number, Sign, End}
use Rattle.sq_lexer.specs.declared.token.Sign.TheVariants as sign
use Rattle.sq_lexer.specs.Tokens.{token}
use Rattle.sq_mapping.specs.declared.mapping.Setting.{Setting}
use Rattle.sq_mapping.specs.declared.mapping.Setting.TheVariants.{One, Many}
use Rattle.sq_mapfile.specs.declared.text.Version.{Version}
use Rattle.sq_mapfile.specs.declared.text.Version.TheVariants.{First, Second}
use Rattle.sq_mapfile.specs.declared.text.Tunables.{Tunables}
use Rattle.sq_mapfile.specs.declared.text.Tunables.TheVariants.{Fixed, Varied}
use Rattle.sq_mapfile.specs.declared.text.Alternatives.{Alternatives}
use Rattle.sq_mapfile.specs.declared.text.SizeText.{SizeText}
use Rattle.sq_mapfile.specs.declared.text.ItemText.{ItemText}
use Rattle.sq_mapfile.specs.declared.text.ItemText.TheVariants.{Tunable, Call, Spread}
use Rattle.sq_mapfile.specs.declared.text.InstanceText.{InstanceText}
use Rattle.sq_mapfile.specs.declared.text.MappingText.{MappingText}

abbrev pub word : Place → List ℕ → Placed
word place name = record { place = place; name = name }

abbrev pub size : Placed → ℕ → SizeText
size name value = record { name = name; value = pos value }

abbrev pub values : Setting → List Setting → Alternatives
values first others = record { first = first; others = others }

abbrev pub instance : Placed → Placed → VariantKind → Placed → List ItemText → InstanceText
instance name task kind level items = record { name = name; task = task; kind = kind; level = level; items = items }

abbrev pub mapping : Placed → List SizeText → List InstanceText → MappingText
mapping entry sizes instances = record { entry = entry; sizes = sizes; instances = instances }

abbrev pub number_of : Version → ℕ
number_of First = 1
number_of Second = 2

pub data Phrase : Type 0 where
  Sizes : List SizeText → Phrase  -- all sizes
  MoreSizes : List SizeText → Phrase  -- those behind the first
  AValue : ℤ → Phrase
  Values : List ℤ → Phrase  -- all values of a list
  MoreValues : List ℤ → Phrase  -- those behind the first
  ASetting : Setting → Phrase
  Others : Tunables → List Setting → Phrase  -- the alternatives behind the first
  ARule : SpreadRule → Phrase
  AnItem : Tunables → Version → ItemText → Phrase
  Items : Tunables → Version → List ItemText → Phrase
  AKind : VariantKind → Phrase
  AnInstance : Tunables → Version → InstanceText → Phrase
  Instances : Tunables → Version → List InstanceText → Phrase
  AMapping : Tunables → MappingText → Phrase

-- The first tokens begin with the phrase, and the second are left after it. A number `1` or `2` is any number token of
-- that value.
pub data Derives : Phrase → List Token → List Token → Type 0 where
  no_size : {i : List Token} → Derives (Sizes []) i i
  -- `NAME = NUMBER`
  first_size : {p q r : Place} {name : List ℕ} {value : ℕ} {rest : List SizeText} {i j : List Token}
      → Derives (MoreSizes rest) i j
      → Derives (Sizes (size (word p name) value ∷ rest)) (token (Word name) p ∷ token (Sign sign.Set) q ∷ token (Number (pos value)) r ∷ i) j
  no_more_sizes : {i : List Token} → Derives (MoreSizes []) i i
  next_size : {o p q r : Place} {name : List ℕ} {value : ℕ} {rest : List SizeText} {i j : List Token}
      → Derives (MoreSizes rest) i j
      → Derives (MoreSizes (size (word p name) value ∷ rest))
      (token (Sign sign.Comma) o ∷ token (Word name) p ∷ token (Sign sign.Set) q ∷ token (Number (pos value)) r ∷ i) j
  plain : {p : Place} {value : ℕ} {i : List Token} → Derives (AValue (pos value)) (token (Number (pos value)) p ∷ i) i
  negative : {p q : Place} {value : ℕ} {i : List Token} → Derives (AValue (neg_ℤ (pos value))) (token (Sign sign.Minus) p ∷ token (Number (pos value)) q ∷ i) i
  no_value : {i : List Token} → Derives (Values []) i i
  first_value : {x : ℤ} {rest : List ℤ} {i j l : List Token} → Derives (AValue x) i j → Derives (MoreValues rest) j l → Derives (Values (x ∷ rest)) i l
  no_more_values : {i : List Token} → Derives (MoreValues []) i i
  next_value : {p : Place} {x : ℤ} {rest : List ℤ} {i j l : List Token}
      → Derives (AValue x) i j → Derives (MoreValues rest) j l → Derives (MoreValues (x ∷ rest)) (token (Sign sign.Comma) p ∷ i) l
  one : {x : ℤ} {i j : List Token} → Derives (AValue x) i j → Derives (ASetting (One x)) i j
  many : {p q : Place} {xs : List ℤ} {i j : List Token}
      → Derives (Values xs) i (token (Sign sign.BracketClose) q ∷ j) → Derives (ASetting (Many xs)) (token (Sign sign.BracketOpen) p ∷ i) j
  no_other : {tunables : Tunables} {i : List Token} → Derives (Others tunables []) i i
  -- `| VALUE`, where tunables are varied
  another : {p : Place} {x : Setting} {rest : List Setting} {i j l : List Token}
      → Derives (ASetting x) i j → Derives (Others Varied rest) j l → Derives (Others Varied (x ∷ rest)) (token (Sign sign.Bar) p ∷ i) l
  -- `tunable NAME = VALUE;`, with alternatives
  a_tunable : {tunables : Tunables} {version : Version} {p q r s : Place} {name : List ℕ} {setting : Setting} {others : List Setting} {i j l : List Token}
      → Derives (ASetting setting) i j → Derives (Others tunables others) j (token (Sign sign.Semi) s ∷ l)
      → Derives (AnItem tunables version (Tunable (word q name) (values setting others))) (token (Word (codes "tunable")) p ∷ token (Word name) q ∷ token (Sign sign.Set) r ∷ i) l
  -- `call TASK -> INSTANCE;`
  a_call : {tunables : Tunables} {version : Version} {p q r s t : Place} {task name : List ℕ} {i : List Token}
      → Derives (AnItem tunables version (Call (word q task) (word s name)))
      (token (Word (codes "call")) p ∷ token (Word task) q ∷ token (Sign sign.Arrow) r ∷ token (Word name) s ∷ token (Sign sign.Semi) t ∷ i) i
  cyclic : {p : Place} {i : List Token} → Derives (ARule Cyclic) (token (Word (codes "cyclic")) p ∷ i) i
  blocked : {p : Place} {i : List Token} → Derives (ARule Blocked) (token (Word (codes "blocked")) p ∷ i) i
  -- `spread = RULE;`, in version 2 alone
  a_spread : {tunables : Tunables} {p q r : Place} {rule : SpreadRule} {i j : List Token}
      → Derives (ARule rule) i (token (Sign sign.Semi) r ∷ j)
      → Derives (AnItem tunables Second (Spread (word p (codes "spread")) rule)) (token (Word (codes "spread")) p ∷ token (Sign sign.Set) q ∷ i) j
  no_item : {tunables : Tunables} {version : Version} {i : List Token} → Derives (Items tunables version []) i i
  an_item : {tunables : Tunables} {version : Version} {x : ItemText} {rest : List ItemText} {i j l : List Token}
      → Derives (AnItem tunables version x) i j → Derives (Items tunables version rest) j l → Derives (Items tunables version (x ∷ rest)) i l
  inner : {p : Place} {i : List Token} → Derives (AKind Inner) (token (Word (codes "inner")) p ∷ i) i
  leaf : {p : Place} {i : List Token} → Derives (AKind Leaf) (token (Word (codes "leaf")) p ∷ i) i
  -- `instance NAME = TASK::KIND @ LEVEL { ITEMS }`
  an_instance : {tunables : Tunables} {version : Version} {p q r s t u v w x : Place} {name task level : List ℕ} {kind : VariantKind} {items : List ItemText} {i j l : List Token}
      → Derives (AKind kind) i (token (Sign sign.At) u ∷ token (Word level) v ∷ token (Sign sign.BraceOpen) w ∷ j)
      → Derives (Items tunables version items) j (token (Sign sign.BraceClose) x ∷ l)
      → Derives (AnInstance tunables version (instance (word q name) (word s task) kind (word v level) items))
      (token (Word (codes "instance")) p ∷ token (Word name) q ∷ token (Sign sign.Set) r ∷ token (Word task) s ∷ token (Sign sign.Path) t ∷ i) l
  no_instance : {tunables : Tunables} {version : Version} {i : List Token} → Derives (Instances tunables version []) i i
  one_more_instance : {tunables : Tunables} {version : Version} {x : InstanceText} {rest : List InstanceText} {i j l : List Token}
      → Derives (AnInstance tunables version x) i j → Derives (Instances tunables version rest) j l → Derives (Instances tunables version (x ∷ rest)) i l
  -- `mapping VERSION; entry NAME(SIZES);`, and the instances
  a_mapping : {tunables : Tunables} {version : Version} {p q r s t u v w : Place} {name : List ℕ} {sizes : List SizeText} {instances : List InstanceText} {i j l : List Token}
      → Derives (Sizes sizes) i (token (Sign sign.ParenClose) v ∷ token (Sign sign.Semi) w ∷ j)
      → Derives (Instances tunables version instances) j l
      → Derives (AMapping tunables (mapping (word t name) sizes instances))
      (token (Word (codes "mapping")) p ∷ token (Number (pos (number_of version))) q ∷ token (Sign sign.Semi) r ∷ token (Word (codes "entry")) s ∷ token (Word name) t ∷ token (Sign sign.ParenOpen) u ∷ i) l

-- the tokens are a text of this mapping, with alternatives where tunables are varied
pub record IsTextOf (tunables : Tunables) (tokens : List Token) (m : MappingText) : Type 0 where
  pub end : Place
  pub text : Derives (AMapping tunables m) tokens (token End end ∷ [])

-- the tokens are a text of this mapping
abbrev pub IsText : List Token → MappingText → Type 0
IsText = IsTextOf Fixed
