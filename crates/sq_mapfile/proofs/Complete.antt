-- What the grammar derives is what the reader gives: it is found, and nothing else.
use Rattle.std.proofs.Common.{◌≡◌, ℕ, ℤ, ◌+◌, ◌≤◌, true, false, if◌then◌else◌, List, [], ◌∷◌, length, Ok, refl, ◌∙◌, ap, arith, pos, codes}
use Rattle.sq_text.specs.declared.place.Place.{Place}
use Rattle.sq_ast.specs.declared.program.VariantKind.{VariantKind}
use Rattle.sq_lexer.specs.declared.token.Token.{Token}
use Rattle.sq_lexer.specs.declared.token.Kind.TheVariants as k
use Rattle.sq_lexer.specs.declared.token.Sign.TheVariants as g
use Rattle.sq_lexer.specs.Tokens.{token}
use Rattle.sq_patterns.specs.declared.pattern.Pattern.TheVariants as s
use Rattle.sq_patterns.specs.Reading.{and_then, all, until, sees}
use Rattle.sq_patterns.proofs.Turns.{then_ok, Until, until_none, until_one}
use Rattle.sq_text.specs.declared.spread.SpreadRule.{SpreadRule}
use Rattle.sq_mapfile.specs.declared.text.Version.{Version}
use Rattle.sq_mapfile.specs.declared.text.Version.TheVariants.{First, Second}
use Rattle.sq_mapfile.specs.declared.text.Tunables.{Tunables}
use Rattle.sq_mapfile.specs.declared.text.Tunables.TheVariants.{Fixed, Varied}
use Rattle.sq_mapfile.specs.declared.text.Alternatives.{Alternatives}
use Rattle.sq_mapping.specs.declared.mapping.Setting.{Setting}
use Rattle.sq_mapping.specs.declared.mapping.Setting.TheVariants.{One, Many}
use Rattle.sq_mapfile.specs.declared.text.SizeText.{SizeText}
use Rattle.sq_mapfile.specs.declared.text.ItemText.{ItemText}
use Rattle.sq_mapfile.specs.declared.text.ItemText.TheVariants.{Tunable, Call, Spread}
use Rattle.sq_mapfile.specs.declared.text.InstanceText.{InstanceText}
use Rattle.sq_mapfile.specs.declared.text.MappingText.{MappingText}
use Rattle.sq_mapfile.specs.Grammar.{Phrase, Sizes, MoreSizes, AValue, Values, MoreValues, ASetting, Others, ARule, AnItem, Items, AKind, AnInstance, Instances, AMapping, Derives, no_size, first_size, no_more_sizes, next_size, plain, negative, no_value, first_value, no_more_values, next_value, one, many, no_other, another, a_tunable, a_call, cyclic, blocked, a_spread, no_item, an_item, inner, leaf, an_instance, no_instance, one_more_instance, a_mapping, number_of, IsTextOf, values}
use Rattle.sq_mapfile.specs.Grammar as grammar
use Rattle.sq_mapfile.specs.Reading as reading

abbrev Complete : Phrase → List Token → List Token → Type 0
Complete (Sizes xs) i j = sees (s.Sign g.ParenClose) j ≡ true → reading.sizes i ≡ Ok (xs, j)
Complete (MoreSizes xs) i j = sees (s.Sign g.ParenClose) j ≡ true → Until (s.Sign g.ParenClose) reading.next_size xs i j
Complete (AValue x) i j = reading.value i ≡ Ok (x, j)
Complete (Values xs) i j = sees (s.Sign g.BracketClose) j ≡ true → reading.values i ≡ Ok (xs, j)
Complete (MoreValues xs) i j = sees (s.Sign g.BracketClose) j ≡ true → Until (s.Sign g.BracketClose) reading.next_value xs i j
Complete (ASetting x) i j = reading.setting i ≡ Ok (x, j)
Complete (Others Fixed xs) i j = reading.others Fixed i ≡ Ok (xs, j)
Complete (Others Varied xs) i j = sees (s.Sign g.Semi) j ≡ true → Until (s.Sign g.Semi) reading.next_setting xs i j
Complete (ARule x) i j = reading.rule i ≡ Ok (x, j)
Complete (AnItem tunables version x) i j = reading.item tunables version i ≡ Ok (x, j)
Complete (Items tunables version xs) i j = sees (s.Sign g.BraceClose) j ≡ true → Until (s.Sign g.BraceClose) (reading.item tunables version) xs i j
Complete (AKind x) i j = reading.kind i ≡ Ok (x, j)
Complete (AnInstance tunables version x) i j = reading.instance tunables version i ≡ Ok (x, j)
Complete (Instances tunables version xs) i j = sees s.End j ≡ true → Until s.End (reading.instance tunables version) xs i j
Complete (AMapping tunables x) i j = (p : Place) → j ≡ token k.End p ∷ [] → reading.mapping tunables i ≡ Ok (x, [])

-- ---- how a phrase begins, and how many tokens it takes at least

abbrev Begins : Phrase → List Token → Type 0
Begins (AValue x) i = (sees (s.Sign g.BracketClose) i ≡ false) × (sees (s.Sign g.BracketOpen) i ≡ false)
Begins (AnItem tunables version x) i = sees (s.Sign g.BraceClose) i ≡ false
Begins (AnInstance tunables version x) i = sees s.End i ≡ false
Begins _ i = Unit {0}

begins : {p : Phrase} {i j : List Token} → Derives p i j → Begins p i
begins plain = (refl, refl)
begins negative = (refl, refl)
begins (a_tunable d more) = refl
begins a_call = refl
begins (a_spread d) = refl
begins (an_instance d r) = refl
begins _ = tt

abbrev least : Phrase → ℕ
least (AValue x) = 1
least (AnItem tunables version x) = 1
least (AnInstance tunables version x) = 1
least _ = 0

shorter : {p : Phrase} {i j : List Token} → Derives p i j → length j + least p ≤ length i
shorter no_size = omega arith
shorter (first_size d) = omega (arith, shorter d)
shorter no_more_sizes = omega arith
shorter (next_size d) = omega (arith, shorter d)
shorter plain = omega arith
shorter negative = omega arith
shorter no_value = omega arith
shorter (first_value d r) = omega (arith, shorter d, shorter r)
shorter no_more_values = omega arith
shorter (next_value d r) = omega (arith, shorter d, shorter r)
shorter (one d) = omega (arith, shorter d)
shorter (many d) = omega (arith, shorter d)
shorter no_other = omega arith
shorter (another d r) = omega (arith, shorter d, shorter r)
shorter (a_tunable d r) = omega (arith, shorter d, shorter r)
shorter a_call = omega arith
shorter cyclic = omega arith
shorter blocked = omega arith
shorter (a_spread d) = omega (arith, shorter d)
shorter no_item = omega arith
shorter (an_item d r) = omega (arith, shorter d, shorter r)
shorter inner = omega arith
shorter leaf = omega arith
shorter (an_instance d r) = omega (arith, shorter d, shorter r)
shorter no_instance = omega arith
shorter (one_more_instance d r) = omega (arith, shorter d, shorter r)
shorter (a_mapping d r) = omega (arith, shorter d, shorter r)

-- ---- the rules

no_sizes_ok : (i : List Token) → sees (s.Sign g.ParenClose) i ≡ true → reading.sizes i ≡ Ok ([], i)
no_sizes_ok i e = ap (λ b. if b then Ok ([], i) else reading.some_sizes i) e

sizes_ok : (x : SizeText) (rest : List SizeText) (i j l : List Token) → sees (s.Sign g.ParenClose) i ≡ false → reading.first_size i ≡ Ok (x, j)
    → Until (s.Sign g.ParenClose) reading.next_size rest j l → reading.sizes i ≡ Ok (x ∷ rest, l)
unfolding reading.more_sizes
sizes_ok x rest i j l e read h =
    ap (λ b. if b then Ok ([], i) else reading.some_sizes i) e ∙ then_ok (reading.first_size i) reading.more_sizes x j read ∙ h (length j) (x ∷ []) (omega arith)

no_values_ok : (i : List Token) → sees (s.Sign g.BracketClose) i ≡ true → reading.values i ≡ Ok ([], i)
no_values_ok i e = ap (λ b. if b then Ok ([], i) else reading.some_values i) e

values_ok : (x : ℤ) (rest : List ℤ) (i j l : List Token) → sees (s.Sign g.BracketClose) i ≡ false → reading.value i ≡ Ok (x, j)
    → Until (s.Sign g.BracketClose) reading.next_value rest j l → reading.values i ≡ Ok (x ∷ rest, l)
unfolding reading.more_values
values_ok x rest i j l e read h =
    ap (λ b. if b then Ok ([], i) else reading.some_values i) e ∙ then_ok (reading.value i) reading.more_values x j read ∙ h (length j) (x ∷ []) (omega arith)

one_ok : (x : ℤ) (i j : List Token) → sees (s.Sign g.BracketOpen) i ≡ false → reading.value i ≡ Ok (x, j) → reading.setting i ≡ Ok (One x, j)
one_ok x i j e read = ap (λ b. if b then reading.many i else reading.one i) e ∙ then_ok (reading.value i) _ x j read

many_ok : (p q : Place) (xs : List ℤ) (i j : List Token) → reading.values i ≡ Ok (xs, token (k.Sign g.BracketClose) q ∷ j)
    → reading.setting (token (k.Sign g.BracketOpen) p ∷ i) ≡ Ok (Many xs, j)
many_ok p q xs i j read = then_ok (reading.values i) (λ xs l. and_then (all (s.Sign g.BracketClose ∷ []) l) (λ closing m. Ok (Many xs, m))) xs (token (k.Sign g.BracketClose) q ∷ j) read

no_others : (tunables : Tunables) (i : List Token) → Complete (Others tunables []) i i
no_others Fixed i = refl
no_others Varied i = λ e. until_none _ _ _ e

others_ok : (tunables : Tunables) (xs : List Setting) (i j : List Token) → Complete (Others tunables xs) i j → sees (s.Sign g.Semi) j ≡ true → reading.others tunables i ≡ Ok (xs, j)
unfolding reading.more_settings
others_ok Fixed xs i j c e = c
others_ok Varied xs i j c e = c e (length i) [] (omega arith)

alternatives_ok : (tunables : Tunables) (x : Setting) (xs : List Setting) (i j l : List Token) → reading.setting i ≡ Ok (x, j) → reading.others tunables j ≡ Ok (xs, l)
    → reading.alternatives tunables i ≡ Ok (values x xs, l)
alternatives_ok tunables x xs i j l read more =
    then_ok (reading.setting i) _ x j read ∙ then_ok (reading.others tunables j) (λ xs l. Ok (values x xs, l)) xs l more

tunable_plain : (tunables : Tunables) (p q r z : Place) (name : List ℕ) (x : Alternatives) (i j : List Token) → reading.alternatives tunables i ≡ Ok (x, token (k.Sign g.Semi) z ∷ j)
    → reading.plain_item tunables (token (k.Word (codes "tunable")) p ∷ token (k.Word name) q ∷ token (k.Sign g.Set) r ∷ i) ≡ Ok (Tunable (grammar.word q name) x, j)
tunable_plain tunables p q r z name x i j read =
    then_ok (reading.alternatives tunables i) (λ x l. and_then (all (s.Sign g.Semi ∷ []) l) (λ semi m. Ok (Tunable (grammar.word q name) x, m))) x (token (k.Sign g.Semi) z ∷ j) read

tunable_ok : (tunables : Tunables) (version : Version) (p q r z : Place) (name : List ℕ) (x : Alternatives) (i j : List Token) → reading.alternatives tunables i ≡ Ok (x, token (k.Sign g.Semi) z ∷ j)
    → reading.item tunables version (token (k.Word (codes "tunable")) p ∷ token (k.Word name) q ∷ token (k.Sign g.Set) r ∷ i) ≡ Ok (Tunable (grammar.word q name) x, j)
tunable_ok tunables First p q r z name x i j read = tunable_plain tunables p q r z name x i j read
tunable_ok tunables Second p q r z name x i j read = tunable_plain tunables p q r z name x i j read

call_ok : (tunables : Tunables) (version : Version) (p q r z t : Place) (task name : List ℕ) (i : List Token)
    → reading.item tunables version (token (k.Word (codes "call")) p ∷ token (k.Word task) q ∷ token (k.Sign g.Arrow) r ∷ token (k.Word name) z ∷ token (k.Sign g.Semi) t ∷ i)
    ≡ Ok (Call (grammar.word q task) (grammar.word z name), i)
call_ok tunables First p q r z t task name i = refl
call_ok tunables Second p q r z t task name i = refl

spread_ok : (tunables : Tunables) (p q r : Place) (x : SpreadRule) (i j : List Token) → reading.rule i ≡ Ok (x, token (k.Sign g.Semi) r ∷ j)
    → reading.item tunables Second (token (k.Word (codes "spread")) p ∷ token (k.Sign g.Set) q ∷ i) ≡ Ok (Spread (grammar.word p (codes "spread")) x, j)
spread_ok tunables p q r x i j read =
    then_ok (reading.rule i) (λ x l. and_then (all (s.Sign g.Semi ∷ []) l) (λ semi m. Ok (Spread (grammar.word p (codes "spread")) x, m))) x (token (k.Sign g.Semi) r ∷ j) read

instance_ok : (tunables : Tunables) (version : Version) (p q r t u v w x : Place) (z : Place) (name task level : List ℕ) (kind : VariantKind) (items : List ItemText) (i j l : List Token)
    → reading.kind i ≡ Ok (kind, token (k.Sign g.At) u ∷ token (k.Word level) v ∷ token (k.Sign g.BraceOpen) w ∷ j)
    → Until (s.Sign g.BraceClose) (reading.item tunables version) items j (token (k.Sign g.BraceClose) x ∷ l)
    → reading.instance tunables version (token (k.Word (codes "instance")) p ∷ token (k.Word name) q ∷ token (k.Sign g.Set) r ∷ token (k.Word task) z ∷ token (k.Sign g.Path) t ∷ i)
    ≡ Ok (grammar.instance (grammar.word q name) (grammar.word z task) kind (grammar.word v level) items, l)
unfolding reading.items
instance_ok tunables version p q r t u v w x z name task level kind items i j l read h =
    then_ok (reading.kind i) _ kind (token (k.Sign g.At) u ∷ token (k.Word level) v ∷ token (k.Sign g.BraceOpen) w ∷ j) read
    ∙ then_ok (until (s.Sign g.BraceClose) (reading.item tunables version) (length j) [] j) _ items (token (k.Sign g.BraceClose) x ∷ l) (h (length j) [] (omega arith))

body_ok : (tunables : Tunables) (version : Version) (q r t u v w z : Place) (name : List ℕ) (sizes : List SizeText) (instances : List InstanceText) (i j l : List Token)
    → reading.entry version (token (k.Number (pos (number_of version))) q ∷ token (k.Sign g.Semi) r ∷ token (k.Word (codes "entry")) z ∷ token (k.Word name) t ∷ token (k.Sign g.ParenOpen) u ∷ i)
    ≡ Ok ((grammar.word t name, sizes), j)
    → (sees s.End l ≡ true → Until s.End (reading.instance tunables version) instances j l)
    → (e : Place) → l ≡ token k.End e ∷ []
    → reading.body tunables version (token (k.Number (pos (number_of version))) q ∷ token (k.Sign g.Semi) r ∷ token (k.Word (codes "entry")) z ∷ token (k.Word name) t ∷ token (k.Sign g.ParenOpen) u ∷ i)
    ≡ Ok (grammar.mapping (grammar.word t name) sizes instances, [])
unfolding reading.body reading.instances
body_ok tunables version q r t u v w z name sizes instances i j l read h e is =
    then_ok (reading.entry version (token (k.Number (pos (number_of version))) q ∷ token (k.Sign g.Semi) r ∷ token (k.Word (codes "entry")) z ∷ token (k.Word name) t ∷ token (k.Sign g.ParenOpen) u ∷ i))
    _ (grammar.word t name, sizes) j read
    ∙ then_ok (until s.End (reading.instance tunables version) (length j) [] j) _ instances l (h (ap (sees s.End) is) (length j) [] (omega arith))
    ∙ then_ok (all (s.End ∷ []) l) _ (token k.End e ∷ []) [] (ap (all (s.End ∷ [])) is)

mapping_ok : (tunables : Tunables) (version : Version) (p q r t u v w z : Place) (name : List ℕ) (sizes : List SizeText) (instances : List InstanceText) (i j l : List Token)
    → reading.sizes i ≡ Ok (sizes, token (k.Sign g.ParenClose) v ∷ token (k.Sign g.Semi) w ∷ j)
    → (sees s.End l ≡ true → Until s.End (reading.instance tunables version) instances j l)
    → (e : Place) → l ≡ token k.End e ∷ []
    → reading.mapping tunables (token (k.Word (codes "mapping")) p ∷ token (k.Number (pos (number_of version))) q ∷ token (k.Sign g.Semi) r ∷ token (k.Word (codes "entry")) z ∷ token (k.Word name) t ∷ token (k.Sign g.ParenOpen) u ∷ i)
    ≡ Ok (grammar.mapping (grammar.word t name) sizes instances, [])
mapping_ok tunables First p q r t u v w z name sizes instances i j l read h e is =
    body_ok tunables First q r t u v w z name sizes instances i j l (then_ok (reading.sizes i) _ sizes (token (k.Sign g.ParenClose) v ∷ token (k.Sign g.Semi) w ∷ j) read) h e is
mapping_ok tunables Second p q r t u v w z name sizes instances i j l read h e is =
    body_ok tunables Second q r t u v w z name sizes instances i j l (then_ok (reading.sizes i) _ sizes (token (k.Sign g.ParenClose) v ∷ token (k.Sign g.Semi) w ∷ j) read) h e is

complete : {p : Phrase} {i j : List Token} → Derives p i j → Complete p i j
complete no_size = λ e. no_sizes_ok _ e
complete (first_size {p = p} {q = q} {r = r} {name = name} {value = value} {i = i} d) = λ e.
    sizes_ok (grammar.size (grammar.word p name) value) _ (token (k.Word name) p ∷ token (k.Sign g.Set) q ∷ token (k.Number (pos value)) r ∷ i) _ _ refl refl (complete d e)
complete no_more_sizes = λ e. until_none _ _ _ e
complete (next_size d) = λ e. until_one _ _ _ _ _ _ _ refl refl (omega arith) (complete d e)
complete plain = refl
complete negative = refl
complete no_value = λ e. no_values_ok _ e
complete (first_value {i = i} d r) = λ e. values_ok _ _ i _ _ (begins d).0 (complete d) (complete r e)
complete no_more_values = λ e. until_none _ _ _ e
complete (next_value d r) = λ e. until_one _ _ _ _ _ _ _ refl (complete d) (omega (arith, shorter d)) (complete r e)
complete (one {i = i} d) = one_ok _ i _ (begins d).1 (complete d)
complete (many {p = p} {q = q} {i = i} d) = many_ok p q _ i _ (complete d refl)
complete (no_other {tunables = tunables} {i = i}) = no_others tunables i
complete (another d r) = λ e. until_one _ _ _ _ _ _ _ refl (complete d) (omega (arith, shorter d)) (complete r e)
complete (a_tunable {tunables = tunables} {version = version} {p = p} {q = q} {r = o} {s = z} {setting = x} {others = xs} {i = i} {j = j} d r) =
    tunable_ok tunables version p q o z _ (values x xs) i _ (alternatives_ok tunables x xs i j _ (complete d) (others_ok tunables xs j _ (complete r) refl))
complete (a_call {tunables = tunables} {version = version} {p = p} {q = q} {r = r} {s = z} {t = t}) = call_ok tunables version p q r z t _ _ _
complete cyclic = refl
complete blocked = refl
complete (a_spread {tunables = tunables} {p = p} {q = q} {r = r} {i = i} d) = spread_ok tunables p q r _ i _ (complete d)
complete no_item = λ e. until_none _ _ _ e
complete (an_item d r) = λ e. until_one _ _ _ _ _ _ _ (begins d) (complete d) (shorter d) (complete r e)
complete inner = refl
complete leaf = refl
complete (an_instance {tunables = tunables} {version = version} {p = p} {q = q} {r = o} {s = z} {t = t} {i = i} d r) = instance_ok tunables version p q o t _ _ _ _ z _ _ _ _ _ i _ _ (complete d) (complete r refl)
complete no_instance = λ e. until_none _ _ _ e
complete (one_more_instance d r) = λ e. until_one _ _ _ _ _ _ _ (begins d) (complete d) (shorter d) (complete r e)
complete (a_mapping {tunables = tunables} {version = version} {p = p} {q = q} {r = o} {s = z} {t = t} {u = u} {v = v} {w = w} d r) = mapping_ok tunables version p q o t u v w z _ _ _ _ _ _ (complete d refl) (complete r)

-- a text of a mapping is read as that mapping
pub mapping_read : (tunables : Tunables) (tokens : List Token) (m : MappingText) → IsTextOf tunables tokens m → reading.mapping tunables tokens ≡ Ok (m, [])
mapping_read tunables tokens m h = complete h.text h.end refl
