-- The names of instances in a mapping that a text stands for are words.
use Rattle.std.proofs.Common.{ℕ, List, [], ◌∷◌, Option, Some, sym, subst}
use Rattle.sq_lexer.specs.Text.declared.place.Place.{Place}
use Rattle.sq_lexer.specs.declared.token.Kind.{Kind}
use Rattle.sq_lexer.specs.declared.token.Kind.TheVariants as t
use Rattle.sq_lexer.specs.declared.token.Token.{Token}
use Rattle.sq_lexer.specs.Tokens.{Stands, a_blank, a_line, a_comment, a_word, a_number, a_sign, TokensFrom, at_end, after_gap, after_token}
use Rattle.sq_machfile.specs.declared.level.Level.{Level}
use Rattle.sq_mapping.specs.declared.mapping.Instance.{Instance}
use Rattle.sq_mapping.specs.declared.mapping.Mapping.{Mapping}
use Rattle.sq_mapfile.specs.declared.text.InstanceText.{InstanceText}
use Rattle.sq_mapfile.specs.Mappings.{AreInstances, none_left, one_more, StandsFor}
use Rattle.sq_mapfile.specs.Grammar.{Phrase, AnInstance, Instances, AMapping, Derives, no_size, first_size, no_more_sizes, next_size, plain, negative, no_value, first_value, no_more_values, next_value, one, many, no_other, another, a_tunable, a_call, cyclic, blocked, a_spread, no_item, an_item, inner, leaf, an_instance, no_instance, one_more_instance, a_mapping}
use Rattle.sq_filed_laws.specs.LayoutLaws.Readable.{IsWord}
use Rattle.sq_compiled_laws.proofs.Each.{Each}

-- ---- tokens

abbrev IsFit : Option Kind → Type 0
IsFit (Some (t.Word w)) = IsWord w
IsFit _ = Unit {0}

abbrev AreFit : List Token → Type 0
AreFit [] = Unit {0}
AreFit (k ∷ ks) = IsFit (Some k.kind) × AreFit ks

stands_fit : {front rest : List ℕ} {o : Option Kind} → Stands front rest o → IsFit o
stands_fit (a_blank h) = tt
stands_fit (a_line h g e) = tt
stands_fit (a_comment inside h) = tt
stands_fit (a_word {word = word} letter inside ends) = record { letter = letter; inside = inside }
stands_fit (a_number some all ends small) = tt
stands_fit (a_sign h g) = tt

fit : {p : Place} {text : List ℕ} {ts : List Token} → TokensFrom p text ts → AreFit ts
fit at_end = (tt, tt)
fit (after_gap e s r) = fit r
fit (after_token e s r) = (stands_fit s, fit r)

-- ---- what is read of them

abbrev Names : Phrase → Type 0
Names (AnInstance tunables version x) = IsWord x.name.name
Names (Instances tunables version xs) = Each (λ (x : InstanceText). IsWord x.name.name) xs
Names (AMapping tunables m) = Each (λ (x : InstanceText). IsWord x.name.name) m.instances
Names _ = Unit {0}

named : {P : Phrase} {i j : List Token} → Derives P i j → AreFit i → Names P × AreFit j
named no_size h = (tt, h)
named (first_size r) h = (tt, (named r h.1.1.1).1)
named no_more_sizes h = (tt, h)
named (next_size r) h = (tt, (named r h.1.1.1.1).1)
named plain h = (tt, h.1)
named negative h = (tt, h.1.1)
named no_value h = (tt, h)
named (first_value r s) h = (tt, (named s (named r h).1).1)
named no_more_values h = (tt, h)
named (next_value r s) h = (tt, (named s (named r h.1).1).1)
named (one r) h = (tt, (named r h).1)
named (many r) h = (tt, (named r h.1).1.1)
named no_other h = (tt, h)
named (another r s) h = (tt, (named s (named r h.1).1).1)
named (a_tunable r s) h = (tt, (named s (named r h.1.1.1).1).1.1)
named a_call h = (tt, h.1.1.1.1.1)
named cyclic h = (tt, h.1)
named blocked h = (tt, h.1)
named (a_spread r) h = (tt, (named r h.1.1).1.1)
named no_item h = (tt, h)
named (an_item r s) h = (tt, (named s (named r h).1).1)
named inner h = (tt, h.1)
named leaf h = (tt, h.1)
named (an_instance r s) h = (h.1.0, (named s (named r h.1.1.1.1.1).1.1.1.1).1.1)
named no_instance h = (tt, h)
named (one_more_instance r s) h = let u = named r h in let v = named s u.1 in ((u.0, v.0), v.1)
named (a_mapping r s) h = let v = named s (named r h.1.1.1.1.1.1).1.1.1 in (v.0, v.1)

-- ---- of a mapping

of_text : {levels : List Level} {all xs : List InstanceText} {instances : List Instance} → AreInstances levels all xs instances
    → Each (λ (x : InstanceText). IsWord x.name.name) xs → Each (λ (x : Instance). IsWord x.name) instances
of_text none_left h = tt
of_text (one_more is rest) h = (subst IsWord (sym is.name) h.0, of_text rest h.1)

pub instance_words : (levels : List Level) (text : List ℕ) (m : Mapping) → StandsFor levels text m
    → Each (λ (x : Instance). IsWord x.name) m.instances
instance_words levels text m h =
    of_text h.resolves.instances (named h.writes.grammar.text (fit h.writes.tokens_of)).0
