-- The names of a mapping file are tokens of its text, in their order.
use Rattle.std.proofs.Common.{List, [], ◌∷◌}
use Rattle.std.specs.List.{AllByRecursion}
use Rattle.sq_text.specs.declared.place.Place.{Place}
use Rattle.sq_text.specs.Places.{IsBefore}
use Rattle.sq_lexer.specs.declared.token.Token.{Token}
use Rattle.sq_lexer.specs.declared.token.Kind.TheVariants as k
use Rattle.sq_lexer.specs.Tokens.{token}
use Rattle.sq_mapfile.specs.declared.text.SizeText.{SizeText}
use Rattle.sq_mapfile.specs.declared.text.ItemText.{ItemText}
use Rattle.sq_mapfile.specs.declared.text.ItemText.TheVariants.{Tunable, Call, Spread}
use Rattle.sq_mapfile.specs.declared.text.InstanceText.{InstanceText}
use Rattle.sq_mapfile.specs.declared.text.MappingText.{MappingText}
use Rattle.sq_mapfile.specs.declared.text.Tunables.{Tunables}
use Rattle.sq_mapfile.specs.Grammar.{Phrase, Sizes, MoreSizes, AnItem, Items, AnInstance, Instances, AMapping, Derives, no_size, first_size, no_more_sizes, next_size, plain, negative, no_value, first_value, no_more_values, next_value, one, many, no_other, another, a_tunable, a_call, cyclic, blocked, a_spread, no_item, an_item, inner, leaf, an_instance, no_instance, one_more_instance, a_mapping, IsTextOf}
use Rattle.sq_source_laws.proofs.Rising.{Among, none, keep, skip, Rises}
use Rattle.sq_source_laws.proofs.TokenPlaces.{token_place, word_token}

-- the tokens of the names, before others
abbrev pub size_tokens : List SizeText → List Token → List Token
size_tokens [] l = l
size_tokens (size ∷ sizes) l = word_token size.name ∷ size_tokens sizes l

abbrev pub item_tokens : ItemText → List Token → List Token
item_tokens (Tunable name values) l = word_token name ∷ l
item_tokens (Call task name) l = word_token task ∷ word_token name ∷ l
item_tokens (Spread word rule) l = word_token word ∷ l

abbrev pub items_tokens : List ItemText → List Token → List Token
items_tokens [] l = l
items_tokens (x ∷ items) l = item_tokens x (items_tokens items l)

abbrev pub instance_tokens : InstanceText → List Token → List Token
instance_tokens x l = word_token x.name ∷ word_token x.task ∷ word_token x.level ∷ items_tokens x.items l

abbrev pub instances_tokens : List InstanceText → List Token → List Token
instances_tokens [] l = l
instances_tokens (x ∷ instances) l = instance_tokens x (instances_tokens instances l)

abbrev pub mapping_tokens : MappingText → List Token → List Token
mapping_tokens m l = word_token m.entry ∷ size_tokens m.sizes (instances_tokens m.instances l)

-- ---- they are tokens of the text

abbrev Has : Phrase → List Token → List Token → Type 0
Has (Sizes xs) i j = (l : List Token) → Among l j → Among (size_tokens xs l) i
Has (MoreSizes xs) i j = (l : List Token) → Among l j → Among (size_tokens xs l) i
Has (AnItem tunables version x) i j = (l : List Token) → Among l j → Among (item_tokens x l) i
Has (Items tunables version xs) i j = (l : List Token) → Among l j → Among (items_tokens xs l) i
Has (AnInstance tunables version x) i j = (l : List Token) → Among l j → Among (instance_tokens x l) i
Has (Instances tunables version xs) i j = (l : List Token) → Among l j → Among (instances_tokens xs l) i
Has (AMapping tunables m) i j = (l : List Token) → Among l j → Among (mapping_tokens m l) i
Has _ i j = (l : List Token) → Among l j → Among l i

has : {p : Phrase} {i j : List Token} → Derives p i j → Has p i j
has no_size = λ l a. a
has (first_size more) = λ l a. keep (skip (skip (has more l a)))
has no_more_sizes = λ l a. a
has (next_size more) = λ l a. skip (keep (skip (skip (has more l a))))
has plain = λ l a. skip a
has negative = λ l a. skip (skip a)
has no_value = λ l a. a
has (first_value d more) = λ l a. has d l (has more l a)
has no_more_values = λ l a. a
has (next_value d more) = λ l a. skip (has d l (has more l a))
has (one d) = λ l a. has d l a
has (many d) = λ l a. skip (has d l (skip a))
has no_other = λ l a. a
has (another d more) = λ l a. skip (has d l (has more l a))
has (a_tunable d more) = λ l a. skip (keep (skip (has d l (has more l (skip a)))))
has a_call = λ l a. skip (keep (skip (keep (skip a))))
has cyclic = λ l a. skip a
has blocked = λ l a. skip a
has (a_spread d) = λ l a. keep (skip (has d l (skip a)))
has no_item = λ l a. a
has (an_item {rest = rest} d more) = λ l a. has d (items_tokens rest l) (has more l a)
has inner = λ l a. skip a
has leaf = λ l a. skip a
has (an_instance {v = v} {level = level} {items = items} d inside) = λ l a.
    skip (keep (skip (keep (skip (has d (token (k.Word level) v ∷ items_tokens items l) (skip (keep (skip (has inside l (skip a))))))))))
has no_instance = λ l a. a
has (one_more_instance {rest = rest} d more) = λ l a. has d (instances_tokens rest l) (has more l a)
has (a_mapping {instances = instances} d more) = λ l a.
    skip (skip (skip (skip (keep (skip (has d (instances_tokens instances l) (skip (skip (has more l a)))))))))

pub mapping_among : (tunables : Tunables) (ts : List Token) (m : MappingText) → IsTextOf tunables ts m → Among (mapping_tokens m []) ts
mapping_among tunables ts m h = has h.text [] none

-- ---- what holds of the tokens

module _ (P : Token → Type 0) where
  pub past_sizes : (sizes : List SizeText) (l : List Token) → AllByRecursion P (size_tokens sizes l) → AllByRecursion P l
  past_sizes [] l h = h
  past_sizes (size ∷ sizes) l h = past_sizes sizes l h.1

  pub past_items : (items : List ItemText) (l : List Token) → AllByRecursion P (items_tokens items l) → AllByRecursion P l
  past_items [] l h = h
  past_items (Tunable name values ∷ items) l h = past_items items l h.1
  past_items (Call task name ∷ items) l h = past_items items l h.1.1
  past_items (Spread word rule ∷ items) l h = past_items items l h.1

  each_name : (instances : List InstanceText) (l : List Token) → AllByRecursion P (instances_tokens instances l) → AllByRecursion (λ x. P (word_token x.name)) instances
  each_name [] l h = tt
  each_name (x ∷ instances) l h = (h.0, each_name instances l (past_items x.items (instances_tokens instances l) h.1.1.1))

-- ---- the names of the instances stand in the order of the text

past_sizes_risen : (sizes : List SizeText) (l : List Token) → Rises token_place (size_tokens sizes l) → Rises token_place l
past_sizes_risen [] l h = h
past_sizes_risen (size ∷ sizes) l h = past_sizes_risen sizes l h.1

past_items_risen : (items : List ItemText) (l : List Token) → Rises token_place (items_tokens items l) → Rises token_place l
past_items_risen [] l h = h
past_items_risen (Tunable name values ∷ items) l h = past_items_risen items l h.1
past_items_risen (Call task name ∷ items) l h = past_items_risen items l h.1.1
past_items_risen (Spread word rule ∷ items) l h = past_items_risen items l h.1

abbrev pub instance_place : InstanceText → Place
instance_place x = x.name.place

instances_rise : (instances : List InstanceText) (l : List Token) → Rises token_place (instances_tokens instances l) → Rises instance_place instances
instances_rise [] l h = tt
instances_rise (x ∷ instances) l h = (
  each_name (λ t. IsBefore x.name.place (token_place t)) instances l
      (past_items (λ t. IsBefore x.name.place (token_place t)) x.items (instances_tokens instances l) h.0.1.1),
  instances_rise instances l (past_items_risen x.items (instances_tokens instances l) h.1.1.1),
)

pub named_rise : (m : MappingText) → Rises token_place (mapping_tokens m []) → Rises instance_place m.instances
named_rise m h = instances_rise m.instances [] (past_sizes_risen m.sizes (instances_tokens m.instances []) h.1)
