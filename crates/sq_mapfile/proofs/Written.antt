-- Each choice of a text has tokens of its own: those of the text without the alternatives that are left out.
use Rattle.std.proofs.Common.{◌≡◌, ℕ, zero, suc, ◌==◌, Bool, true, false, if◌then◌else◌, List, [], ◌∷◌, length, Some, slice_get, sym, subst}
use Rattle.sq_lexer.specs.declared.token.Token.{Token}
use Rattle.sq_lexer.specs.declared.token.Kind.TheVariants as k
use Rattle.sq_lexer.specs.declared.token.Sign.TheVariants as g
use Rattle.sq_lexer.specs.Tokens.{token}
use Rattle.sq_mapping.specs.declared.mapping.Setting.{Setting}
use Rattle.sq_mapfile.specs.declared.text.Tunables.TheVariants.{Fixed, Varied}
use Rattle.sq_mapfile.specs.declared.text.Alternatives.{Alternatives}
use Rattle.sq_mapfile.specs.declared.text.MappingText.{MappingText}
use Rattle.sq_mapfile.specs.declared.digits.Digits.{Digits}
use Rattle.sq_mapfile.specs.Digits.{setting_or, alternative, pick}
use Rattle.sq_mapfile.specs.Choices.{choices_of}
use Rattle.sq_mapfile.specs.Made as made
use Rattle.sq_mapfile.specs.Grammar.{Phrase, ASetting, Others, AnItem, Items, AnInstance, Instances, AMapping, Derives, no_size, first_size, no_more_sizes, next_size, plain, negative, no_value, first_value, no_more_values, next_value, one, many, no_other, another, a_tunable, a_call, cyclic, blocked, a_spread, no_item, an_item, inner, leaf, an_instance, no_instance, one_more_instance, a_mapping, IsTextOf}
use Rattle.sq_mapfile.proofs.Products.{digits}
use Rattle.sq_mapfile.proofs.Picks.{item_at, item_past, items_at, instance_at, instance_past, instances_at, text_at, choice_is}

-- some tokens are of the phrase, whatever stands behind them
abbrev HasTokens : Phrase → Type 0
HasTokens p = (j : List Token) → (i : List Token) × Derives p i j

-- what the tokens of a phrase give for each choice
abbrev Gives : Phrase → Type 0
Gives (Others tunables xs) = (n : ℕ) (first : Setting) → HasTokens (ASetting first) → HasTokens (ASetting (setting_or first (slice_get xs n)))
Gives (AnItem tunables version x) = (d : Digits) → HasTokens (AnItem Fixed version (item_at d x))
Gives (Items tunables version xs) = (d : Digits) → HasTokens (Items Fixed version (items_at d xs))
Gives (AnInstance tunables version x) = (d : Digits) → HasTokens (AnInstance Fixed version (instance_at d x))
Gives (Instances tunables version xs) = (d : Digits) → HasTokens (Instances Fixed version (instances_at d xs))
Gives (AMapping tunables m) = (d : Digits) → HasTokens (AMapping Fixed (text_at m d))
Gives p = HasTokens p

either_has : (test : Bool) (a b : Setting) → HasTokens (ASetting a) → HasTokens (ASetting b) → HasTokens (ASetting (if test then a else b))
either_has true a b h g = h
either_has false a b h g = g

picked_has : (its : Alternatives) (d : Digits) → HasTokens (ASetting its.first) → ((n : ℕ) → HasTokens (ASetting (setting_or its.first (slice_get its.others n)))) → HasTokens (ASetting (pick d its))
picked_has its d first others = at_number _
  where
    at_number : (n : ℕ) → HasTokens (ASetting (alternative its n))
    at_number n = either_has (n == 0) its.first _ first (others _)

next_has : (n : ℕ) (x : Setting) (rest : List Setting) → HasTokens (ASetting x) → (first : Setting) → HasTokens (ASetting first)
    → ((n : ℕ) (first : Setting) → HasTokens (ASetting first) → HasTokens (ASetting (setting_or first (slice_get rest n)))) → HasTokens (ASetting (setting_or first (slice_get (x ∷ rest) n)))
next_has zero x rest its first h more = its
next_has (suc n) x rest its first h more = more n first h

gives : {p : Phrase} {i j : List Token} → Derives p i j → Gives p
gives no_size = λ j. (j, no_size)
gives (first_size {p = p} {q = q} {r = r} d) = λ j. (_, first_size {p = p} {q = q} {r = r} (gives d j).1)
gives no_more_sizes = λ j. (j, no_more_sizes)
gives (next_size {o = o} {p = p} {q = q} {r = r} d) = λ j. (_, next_size {o = o} {p = p} {q = q} {r = r} (gives d j).1)
gives (plain {p = p}) = λ j. (_, plain {p = p})
gives (negative {p = p} {q = q}) = λ j. (_, negative {p = p} {q = q})
gives no_value = λ j. (j, no_value)
gives (first_value d r) = λ j. (_, first_value (gives d (gives r j).0).1 (gives r j).1)
gives no_more_values = λ j. (j, no_more_values)
gives (next_value {p = p} d r) = λ j. (_, next_value {p = p} (gives d (gives r j).0).1 (gives r j).1)
gives (one d) = λ j. (_, one (gives d j).1)
gives (many {p = p} {q = q} d) = λ j. (_, many {p = p} {q = q} (gives d (token (k.Sign g.BracketClose) q ∷ j)).1)
gives no_other = λ n first h. h
gives (another {x = x} {rest = rest} d r) = λ n first h. next_has n x rest (gives d) first h (gives r)
gives (a_tunable {p = p} {q = q} {r = r} {s = s} {setting = x} {others = xs} d more) = λ e j.
    (_, a_tunable {p = p} {q = q} {r = r} {s = s} (picked_has (record { first = x; others = xs }) e (gives d) (λ n. gives more n x (gives d)) (token (k.Sign g.Semi) s ∷ j)).1 no_other)
gives (a_call {p = p} {q = q} {r = r} {s = s} {t = t}) = λ e j. (_, a_call {p = p} {q = q} {r = r} {s = s} {t = t})
gives (cyclic {p = p}) = λ j. (_, cyclic {p = p})
gives (blocked {p = p}) = λ j. (_, blocked {p = p})
gives (a_spread {p = p} {q = q} {r = r} d) = λ e j. (_, a_spread {p = p} {q = q} {r = r} (gives d (token (k.Sign g.Semi) r ∷ j)).1)
gives no_item = λ e j. (j, no_item)
gives (an_item {x = x} d r) = λ e j. (_, an_item (gives d e (gives r (item_past e x) j).0).1 (gives r (item_past e x) j).1)
gives (inner {p = p}) = λ j. (_, inner {p = p})
gives (leaf {p = p}) = λ j. (_, leaf {p = p})
gives (an_instance {p = p} {q = q} {r = r} {s = s} {t = t} {u = u} {v = v} {w = w} {x = x} {level = level} d items) = λ e j.
    (let inside = gives items e (token (k.Sign g.BraceClose) x ∷ j) in (
      _,
      an_instance {p = p} {q = q} {r = r} {s = s} {t = t} {u = u} {v = v} {w = w} {x = x}
          (gives d (token (k.Sign g.At) u ∷ token (k.Word level) v ∷ token (k.Sign g.BraceOpen) w ∷ inside.0)).1 inside.1,
    ))
gives no_instance = λ e j. (j, no_instance)
gives (one_more_instance {x = x} d r) = λ e j. (_, one_more_instance (gives d e (gives r (instance_past e x) j).0).1 (gives r (instance_past e x) j).1)
gives (a_mapping {p = p} {q = q} {r = r} {s = s} {t = t} {u = u} {v = v} {w = w} d instances) = λ e j.
    (let behind = gives instances e j in (
      _,
      a_mapping {p = p} {q = q} {r = r} {s = s} {t = t} {u = u} {v = v} {w = w}
          (gives d (token (k.Sign g.ParenClose) v ∷ token (k.Sign g.Semi) w ∷ behind.0)).1 behind.1,
    ))

pub choice_has_tokens : (ts : List Token) (m : MappingText) → IsTextOf Varied ts m → (n : ℕ) (chosen : MappingText) → slice_get (choices_of m) n ≡ Some chosen → made.HasTokens chosen
choice_has_tokens ts m text n chosen there =
    let d = digits n (length (choices_of m)) in
    let found = gives text.text d (token k.End text.end ∷ []) in
    subst made.HasTokens (sym (choice_is m n chosen there)) (record { tokens = found.0; text = record { end = text.end; text = found.1 } })
