-- What the reader gives, as a function on lists of tokens. No public clause speaks of it.
use Rattle.std.specs.Prelude.{ℕ, ℤ, ◌+◌, List, [], ◌∷◌, length}
use Rattle.std.specs.List.{slice_get}
use Rattle.std.proofs.Math.IntN.{neg_ℤ}
use Rattle.sq_ast.specs.declared.program.VariantKind.{VariantKind}
use Rattle.sq_ast.specs.declared.program.VariantKind.TheVariants.{Inner, Leaf}
use Rattle.sq_lexer.specs.declared.token.Token.{Token}
use Rattle.sq_lexer.specs.declared.token.Sign.TheVariants as g
use Rattle.sq_patterns.specs.declared.pattern.Pattern.{Pattern}
use Rattle.sq_patterns.specs.declared.pattern.Pattern.TheVariants as s
use Rattle.sq_text.specs.declared.spread.SpreadRule.{SpreadRule}
use Rattle.sq_text.specs.declared.spread.SpreadRule.TheVariants as spreading
use Rattle.sq_text.specs.declared.word.Word.{Word}
use Rattle.sq_patterns.specs.Reading.{Reader, ◌>>=◌, pure, all, choice, until, finish, word_in, number_in}
use Rattle.sq_mapfile.specs.Grammar.{number_of, values as alternatives_of}
use Rattle.sq_mapping.specs.declared.mapping.Setting.{Setting}
use Rattle.sq_mapping.specs.declared.mapping.Setting.TheVariants.{One, Many}
use Rattle.sq_mapfile.specs.declared.text.Version.{Version}
use Rattle.sq_mapfile.specs.declared.text.Version.TheVariants.{First, Second}
use Rattle.sq_mapfile.specs.declared.text.Tunables.{Tunables}
use Rattle.sq_mapfile.specs.declared.text.Tunables.TheVariants.{Fixed, Varied}
use Rattle.sq_mapfile.specs.declared.text.Alternatives.{Alternatives}
use Rattle.sq_mapfile.specs.declared.text.SizeText.{SizeText}
use Rattle.sq_mapfile.specs.declared.text.ItemText.{ItemText}
use Rattle.sq_mapfile.specs.declared.text.ItemText.TheVariants.{Tunable, Call, Spread}
use Rattle.sq_mapfile.specs.declared.text.InstanceText.{InstanceText}
use Rattle.sq_mapfile.specs.declared.text.MappingText.{MappingText}

abbrev pub size_patterns : List Pattern
size_patterns = s.AnyWord ∷ s.Sign g.Set ∷ s.AnyNumber ∷ []

abbrev pub next_size_patterns : List Pattern
next_size_patterns = s.Sign g.Comma ∷ s.AnyWord ∷ s.Sign g.Set ∷ s.AnyNumber ∷ []

abbrev pub size_at : ℕ → List Token → SizeText
size_at at read = record { name = word_in (slice_get read at); value = number_in (slice_get read (at + 2)) }

abbrev pub first_size : Reader SizeText
first_size = do
  read ← all size_patterns
  pure (size_at 0 read)

abbrev pub next_size : Reader SizeText
next_size = do
  read ← all next_size_patterns
  pure (size_at 1 read)

unfoldable pub more_sizes : SizeText → Reader (List SizeText)
more_sizes first = λ i. until (s.Sign g.ParenClose) next_size (length i) (first ∷ []) i

abbrev pub some_sizes : Reader (List SizeText)
some_sizes = do
  first ← first_size
  more_sizes first

abbrev pub sizes : Reader (List SizeText)
sizes = choice (s.Sign g.ParenClose) (pure []) some_sizes

abbrev pub minus_patterns : List Pattern
minus_patterns = s.Sign g.Minus ∷ s.AnyNumber ∷ []

abbrev pub negative : Reader ℤ
negative = do
  read ← all minus_patterns
  pure (neg_ℤ (number_in (slice_get read 1)))

abbrev pub plain : Reader ℤ
plain = do
  read ← all (s.AnyNumber ∷ [])
  pure (number_in (slice_get read 0))

abbrev pub value : Reader ℤ
value = choice (s.Sign g.Minus) negative plain

abbrev pub next_value : Reader ℤ
next_value = do
  comma ← all (s.Sign g.Comma ∷ [])
  value

unfoldable pub more_values : ℤ → Reader (List ℤ)
more_values first = λ i. until (s.Sign g.BracketClose) next_value (length i) (first ∷ []) i

abbrev pub some_values : Reader (List ℤ)
some_values = do
  first ← value
  more_values first

abbrev pub values : Reader (List ℤ)
values = choice (s.Sign g.BracketClose) (pure []) some_values

abbrev pub many : Reader Setting
many = do
  opening ← all (s.Sign g.BracketOpen ∷ [])
  xs ← values
  closing ← all (s.Sign g.BracketClose ∷ [])
  pure (Many xs)

abbrev pub one : Reader Setting
one = do
  x ← value
  pure (One x)

abbrev pub setting : Reader Setting
setting = choice (s.Sign g.BracketOpen) many one

abbrev pub next_setting : Reader Setting
next_setting = do
  bar ← all (s.Sign g.Bar ∷ [])
  setting

unfoldable pub more_settings : Reader (List Setting)
more_settings = λ i. until (s.Sign g.Semi) next_setting (length i) [] i

-- the settings behind the first one
abbrev pub others : Tunables → Reader (List Setting)
others Fixed = pure []
others Varied = more_settings

abbrev pub alternatives : Tunables → Reader Alternatives
alternatives tunables = do
  first ← setting
  others ← others tunables
  pure (alternatives_of first others)

abbrev pub tunable_patterns : List Pattern
tunable_patterns = s.Tunable ∷ s.AnyWord ∷ s.Sign g.Set ∷ []

abbrev pub call_patterns : List Pattern
call_patterns = s.Call ∷ s.AnyWord ∷ s.Sign g.Arrow ∷ s.AnyWord ∷ s.Sign g.Semi ∷ []

abbrev pub tunable : Tunables → Reader ItemText
tunable tunables = do
  read ← all tunable_patterns
  values ← alternatives tunables
  semi ← all (s.Sign g.Semi ∷ [])
  pure (Tunable (word_in (slice_get read 1)) values)

abbrev pub call : Reader ItemText
call = do
  read ← all call_patterns
  pure (Call (word_in (slice_get read 1)) (word_in (slice_get read 3)))

abbrev pub cyclic : Reader SpreadRule
cyclic = do
  read ← all (s.Cyclic ∷ [])
  pure spreading.Cyclic

abbrev pub blocked : Reader SpreadRule
blocked = do
  read ← all (s.Blocked ∷ [])
  pure spreading.Blocked

abbrev pub rule : Reader SpreadRule
rule = choice s.Cyclic cyclic blocked

abbrev pub spread_patterns : List Pattern
spread_patterns = s.Spread ∷ s.Sign g.Set ∷ []

abbrev pub spread : Reader ItemText
spread = do
  read ← all spread_patterns
  rule ← rule
  semi ← all (s.Sign g.Semi ∷ [])
  pure (Spread (word_in (slice_get read 0)) rule)

abbrev pub plain_item : Tunables → Reader ItemText
plain_item tunables = choice s.Tunable (tunable tunables) call

abbrev pub item : Tunables → Version → Reader ItemText
item tunables First = plain_item tunables
item tunables Second = choice s.Spread spread (plain_item tunables)

unfoldable pub items : Tunables → Version → Reader (List ItemText)
items tunables version = λ i. until (s.Sign g.BraceClose) (item tunables version) (length i) [] i

abbrev pub inner : Reader VariantKind
inner = do
  read ← all (s.Inner ∷ [])
  pure Inner

abbrev pub leaf : Reader VariantKind
leaf = do
  read ← all (s.Leaf ∷ [])
  pure Leaf

abbrev pub kind : Reader VariantKind
kind = choice s.Inner inner leaf

abbrev pub instance_patterns : List Pattern
instance_patterns = s.Instance ∷ s.AnyWord ∷ s.Sign g.Set ∷ s.AnyWord ∷ s.Sign g.Path ∷ []

abbrev pub level_patterns : List Pattern
level_patterns = s.Sign g.At ∷ s.AnyWord ∷ s.Sign g.BraceOpen ∷ []

abbrev pub instance_of : List Token → VariantKind → List Token → List ItemText → InstanceText
instance_of head kind level items =
    record { name = word_in (slice_get head 1); task = word_in (slice_get head 3); kind = kind; level = word_in (slice_get level 1); items = items }

abbrev pub instance : Tunables → Version → Reader InstanceText
instance tunables version = do
  head ← all instance_patterns
  kind ← kind
  level ← all level_patterns
  items ← items tunables version
  closing ← all (s.Sign g.BraceClose ∷ [])
  pure (instance_of head kind level items)

unfoldable pub instances : Tunables → Version → Reader (List InstanceText)
instances tunables version = λ i. until s.End (instance tunables version) (length i) [] i

abbrev pub head_patterns : List Pattern
head_patterns = s.Sign g.Semi ∷ s.Entry ∷ s.AnyWord ∷ s.Sign g.ParenOpen ∷ []

abbrev pub sizes_end : List Pattern
sizes_end = s.Sign g.ParenClose ∷ s.Sign g.Semi ∷ []

abbrev pub head : Version → Reader (List Token)
head version = all (s.Exactly (number_of version) ∷ head_patterns)

-- the name of the entry, and its sizes, behind the number of the version
abbrev pub entry : Version → Reader (Word × List SizeText)
entry version = do
  head ← head version
  sizes ← sizes
  closing ← all sizes_end
  pure (word_in (slice_get head 3), sizes)

unfoldable pub body : Tunables → Version → Reader MappingText
body tunables version = do
  entry ← entry version
  instances ← instances tunables version
  end ← all (s.End ∷ [])
  finish (record { entry = entry.0; sizes = entry.1; instances = instances })

-- the number of the version decides
abbrev pub mapping : Tunables → Reader MappingText
mapping tunables = do
  word ← all (s.Mapping ∷ [])
  choice (s.Exactly 1) (body tunables First) (body tunables Second)
