-- What a text of a mapping tells of its instances: their names are words, and their tunables' values have 64 bits.
use Rattle.std.proofs.Common.{◌≡◌, ℕ, zero, suc, ◌^◌, ◌<◌, ℤ, pos, negsuc, Option, Some, None, List, [], ◌∷◌, map}
use Rattle.std.proofs.Common.{sym, ap, subst, arith}
use Rattle.std.proofs.lemmas.Int.{ints}
use Rattle.std.specs.Prelude.{slice_get, option_map}
use Rattle.std.specs.List.{AllByRecursion}
use Rattle.std.proofs.Math.IntN.{neg_ℤ}
use Rattle.sq_num.specs.declared.Elem.TheVariants.{Long}
use Rattle.sq_num.specs.Elements.{least, greatest, IsValue}
use Rattle.sq_text.specs.Names.{Bytes, first_from}
use Rattle.sq_lexer.specs.declared.token.Token.{Token}
use Rattle.sq_lexer.proofs.Pieces.{IsKind, each_kind}
use Rattle.sq_machfile.specs.declared.level.Level.{Level}
use Rattle.sq_mapping.specs.declared.mapping.Instance.{Instance}
use Rattle.sq_mapping.specs.declared.mapping.Mapping.{Mapping}
use Rattle.sq_mapping.specs.declared.mapping.Setting.{Setting}
use Rattle.sq_mapping.specs.declared.mapping.Setting.TheVariants.{One, Many}
use Rattle.sq_mapping.specs.declared.mapping.Tuning.{Tuning}
use Rattle.sq_mapfile.specs.declared.text.InstanceText.{InstanceText}
use Rattle.sq_mapfile.specs.declared.text.ItemText.{ItemText}
use Rattle.sq_mapfile.specs.declared.text.ItemText.TheVariants.{Tunable, Call, Spread}
use Rattle.sq_mapfile.specs.Grammar as g
use Rattle.sq_mapfile.specs.Grammar.{Phrase, Derives, no_size, first_size, no_more_sizes, next_size, plain, negative}
use Rattle.sq_mapfile.specs.Grammar.{no_value, first_value, no_more_values, next_value, one, many, no_other, another}
use Rattle.sq_mapfile.specs.Grammar.{a_tunable, a_call, cyclic, blocked, a_spread, no_item, an_item, inner, leaf}
use Rattle.sq_mapfile.specs.Grammar.{an_instance, no_instance, one_more_instance, a_mapping}
use Rattle.sq_mapfile.specs.Mappings.{StandsFor, AreInstances, IsInstance, none_left, one_more, tunings_of}
use Rattle.sq_forms.specs.Decls.{number_in}
use Rattle.sq_forms.specs.Tables.{at_index, setting_of}
use Rattle.sq_compiled_laws.proofs.LeafWords.{IsSpelled}

-- ---- numbers

pub positive_fits : (n : ℕ) → n < 2 ^ 63 → IsValue Long (pos n)
unfolding least greatest
positive_fits n h = record { low = omega (arith, ints); high = omega (arith, ints, h) }

negative_fits : (n : ℕ) → n < 2 ^ 63 → IsValue Long (neg_ℤ (pos n))
unfolding least greatest
negative_fits n h = record { low = omega (arith, ints, h); high = omega (arith, ints, h) }

number_fits : (n : ℤ) → (m : ℕ) × (n ≡ pos m) × (m < 2 ^ 63) → IsValue Long n
number_fits n k = subst (IsValue Long) (sym k.1) (positive_fits k.0 k.2)

abbrev pos_of : ℤ → ℕ
pos_of (pos n) = n
pos_of (negsuc n) = 0

-- ---- texts

abbrev SettingFits : Setting → Type 0
SettingFits (One n) = IsValue Long n
SettingFits (Many ns) = Unit {0}

abbrev ItemFits : ItemText → Type 0
ItemFits (Tunable name values) = SettingFits values.first
ItemFits (Call task name) = Unit {0}
ItemFits (Spread word rule) = Unit {0}

abbrev InstanceFits : InstanceText → Type 0
InstanceFits x = IsSpelled x.name.name × AllByRecursion ItemFits x.items

-- what is told of a phrase
abbrev Tells : Phrase → Type 0
Tells (g.AValue z) = IsValue Long z
Tells (g.ASetting x) = SettingFits x
Tells (g.AnItem tunables version x) = ItemFits x
Tells (g.Items tunables version xs) = AllByRecursion ItemFits xs
Tells (g.AnInstance tunables version x) = InstanceFits x
Tells (g.Instances tunables version xs) = AllByRecursion InstanceFits xs
Tells (g.AMapping tunables m) = AllByRecursion InstanceFits m.instances
Tells _ = Unit {0}

abbrev AreKinds : List Token → Type 0
AreKinds = AllByRecursion (λ (t : Token). IsKind t.kind)

tells : {p : Phrase} {i j : List Token} → Derives p i j → AreKinds i → Tells p × AreKinds j
tells no_size a = (tt, a)
tells (first_size r) a = (tt, (tells r a.1.1.1).1)
tells no_more_sizes a = (tt, a)
tells (next_size r) a = (tt, (tells r a.1.1.1.1).1)
tells (plain {value = value}) a = (number_fits (pos value) a.0, a.1)
tells (negative {value = value}) a =
    let k = a.1.0 in
    let is : value ≡ k.0 = ap pos_of k.1 in
    (negative_fits value (subst (λ n. n < 2 ^ 63) (sym is) k.2), a.1.1)
tells no_value a = (tt, a)
tells (first_value r s) a = (tt, (tells s (tells r a).1).1)
tells no_more_values a = (tt, a)
tells (next_value r s) a = (tt, (tells s (tells r a.1).1).1)
tells (one r) a = tells r a
tells (many r) a = (tt, (tells r a.1).1.1)
tells no_other a = (tt, a)
tells (another r s) a = (tt, (tells s (tells r a.1).1).1)
tells (a_tunable r s) a = let h = tells r a.1.1.1 in (h.0, (tells s h.1).1.1)
tells a_call a = (tt, a.1.1.1.1.1)
tells cyclic a = (tt, a.1)
tells blocked a = (tt, a.1)
tells (a_spread r) a = (tt, (tells r a.1.1).1.1)
tells no_item a = (tt, a)
tells (an_item r s) a = let h = tells r a in let u = tells s h.1 in ((h.0, u.0), u.1)
tells inner a = (tt, a.1)
tells leaf a = (tt, a.1)
tells (an_instance r s) a =
    let name = a.1.0 in
    let h = tells r a.1.1.1.1.1 in
    let u = tells s h.1.1.1.1 in
    ((record { letter = name.0; inside = name.1 }, u.0), u.1.1)
tells no_instance a = (tt, a)
tells (one_more_instance r s) a = let h = tells r a in let u = tells s h.1 in ((h.0, u.0), u.1)
tells (a_mapping r s) a =
    let h = tells r a.1.1.1.1.1.1 in
    let u = tells s h.1.1.1 in
    (u.0, u.1)

-- ---- instances

abbrev TuningFits : Tuning → Type 0
TuningFits t = SettingFits t.setting

tunings_fit : (items : List ItemText) → AllByRecursion ItemFits items → AllByRecursion TuningFits (tunings_of items)
tunings_fit [] h = tt
tunings_fit (Tunable name values ∷ items) h = (h.0, tunings_fit items h.1)
tunings_fit (Call task name ∷ items) h = tunings_fit items h.1
tunings_fit (Spread word rule ∷ items) h = tunings_fit items h.1

zero_fits : IsValue Long (pos 0)
zero_fits = positive_fits 0 (omega arith)

set_fits : (s : Setting) → SettingFits s → IsValue Long (number_in (Some s))
set_fits (One n) h = h
set_fits (Many ns) h = zero_fits

there_fits : (tunings : List Tuning) → AllByRecursion TuningFits tunings → (i : ℕ)
    → IsValue Long (number_in (option_map (λ t. t.setting) (slice_get tunings i)))
there_fits [] h i = zero_fits
there_fits (t ∷ tunings) h zero = set_fits t.setting h.0
there_fits (t ∷ tunings) h (suc i) = there_fits tunings h.1 i

index_fits : (tunings : List Tuning) → AllByRecursion TuningFits tunings → (o : Option ℕ)
    → IsValue Long (number_in (option_map (λ t. t.setting) (at_index tunings o)))
index_fits tunings h None = zero_fits
index_fits tunings h (Some i) = there_fits tunings h i

-- what is known of an instance
pub record IsTold (x : Instance) : Type 0 where
  pub name : IsSpelled x.name
  pub number : (tunable : Bytes) → IsValue Long (number_in (setting_of x.tunings tunable))

instance_told : (levels : List Level) (all : List InstanceText) (x : InstanceText) (y : Instance)
    → IsInstance levels all x y → InstanceFits x → IsTold y
instance_told levels all x y is h =
    let fits = subst (AllByRecursion TuningFits) (sym is.tunings) (tunings_fit x.items h.1) in
    record {
      name = subst IsSpelled (sym is.name) h.0;
      number = λ tunable. index_fits y.tunings fits (first_from 0 (map (λ t. t.name) y.tunings) tunable);
    }

instances_told : (levels : List Level) (all : List InstanceText) {xs : List InstanceText} {ys : List Instance}
    → AreInstances levels all xs ys → AllByRecursion InstanceFits xs → (k : ℕ) (y : Instance)
    → slice_get ys k ≡ Some y → IsTold y
instances_told levels all none_left h k y e = absurd (cc e)
instances_told levels all (one_more {x = x} {instance = z} is rest) h zero y e =
    let same : z ≡ y = cc e in subst IsTold same (instance_told levels all x z is h.0)
instances_told levels all (one_more is rest) h (suc k) y e = instances_told levels all rest h.1 k y e

pub mapping_told : (levels : List Level) (text : List ℕ) (mapping : Mapping) → StandsFor levels text mapping → (k : ℕ)
    (y : Instance) → slice_get mapping.instances k ≡ Some y → IsTold y
mapping_told levels text mapping s k y e =
    instances_told levels s.written.instances s.resolves.instances
    (tells s.writes.grammar.text (each_kind s.writes.tokens_of)).0 k y e
