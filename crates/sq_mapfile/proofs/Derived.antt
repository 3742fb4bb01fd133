-- The reader gives exactly what the grammar derives, and the machine goes on after it as it does.
use Rattle.std.proofs.Common.{ℕ, ℤ, suc, ◌≤◌, List, [], ◌∷◌, ◌++◌, if◌then◌else◌, ◌≡◌, length, refl, sym, subst, arith, codes}
use Rattle.std.proofs.Math.IntN.{neg_ℤ}
use Rattle.std.specs.List.{slice_get}
use Rattle.sq_text.specs.declared.word.Word.{Word}
use Rattle.sq_ast.specs.declared.program.VariantKind.{VariantKind}
use Rattle.sq_ast.specs.declared.program.VariantKind.TheVariants as variant
use Rattle.sq_lexer.specs.declared.token.Token.{Token}
use Rattle.sq_lexer.specs.declared.token.Sign.TheVariants as g
use Rattle.sq_patterns.specs.declared.pattern.Pattern.TheVariants as s
use Rattle.sq_lexer.specs.declared.token.Kind.{Kind}
use Rattle.sq_patterns.specs.Patterns.{fits}
use Rattle.sq_patterns.specs.Reading.{pure, all, choice, until, number_in, word_in}
use Rattle.sq_patterns.proofs.Owing.{Owed, Want, At, wants, settle}
use Rattle.sq_patterns.proofs.Matching.{Front, none, next, mapping, entry, instance, tunable, call, spread, cyclic, blocked, inner, leaf, a_word, a_number, exactly, a_sign}
use Rattle.sq_patterns.proofs.Readings.{Reading, given, gives_more, phrase, weaken, all_reads, patterns_read, choice_reads, Adds, until_reads, IsLast, last_front, finish_reads}
use Rattle.sq_mapping.specs.declared.mapping.Setting.{Setting}
use Rattle.sq_mapping.specs.declared.mapping.Setting.TheVariants.{One, Many}
use Rattle.sq_mapfile.specs.declared.text.SizeText.{SizeText}
use Rattle.sq_mapfile.specs.declared.text.ItemText.{ItemText}
use Rattle.sq_mapfile.specs.declared.text.ItemText.TheVariants.{Tunable, Call, Spread}
use Rattle.sq_mapfile.specs.declared.text.InstanceText.{InstanceText}
use Rattle.sq_mapfile.specs.declared.text.MappingText.{MappingText}
use Rattle.sq_text.specs.declared.spread.SpreadRule.{SpreadRule}
use Rattle.sq_text.specs.declared.spread.SpreadRule.TheVariants as spreading
use Rattle.sq_text.specs.declared.place.Place.{Place}
use Rattle.sq_lexer.specs.Tokens.{token}
use Rattle.sq_lexer.specs.declared.token.Kind.TheVariants as k
use Rattle.sq_mapfile.specs.declared.text.Version.{Version}
use Rattle.sq_mapfile.specs.declared.text.Version.TheVariants.{First, Second}
use Rattle.sq_mapfile.specs.declared.text.Tunables.{Tunables}
use Rattle.sq_mapfile.specs.declared.text.Tunables.TheVariants.{Fixed, Varied}
use Rattle.sq_mapfile.specs.declared.text.Alternatives.{Alternatives}
use Rattle.sq_mapfile.specs.Grammar.{Derives, IsTextOf, number_of, values}
use Rattle.sq_mapfile.specs.Grammar as grammar
use Rattle.sq_mapfile.specs.Reading.{size_patterns, next_size_patterns, size_at, minus_patterns, tunable_patterns, call_patterns, spread_patterns, instance_patterns, level_patterns, head_patterns, sizes_end, instance_of}
use Rattle.sq_mapfile.specs.Reading as reading
use Rattle.sq_mapfile.proofs.Points.{Point, Sizes, MoreSizes, AValue, Values, MoreValues, ASetting, Others, ARule, AnItem, Items, AKind, Instances, AVersion, setting_ends, tunable_owes, call_owes, spread_owes, instance_owes, version_owes, ways, start}

-- ---- sizes

first_size_front : {i ts j l : List Token} {rest : List SizeText} → Front size_patterns i ts j → Derives (grammar.MoreSizes rest) j l → Derives (grammar.Sizes (size_at 0 ts ∷ rest)) i l
first_size_front (next a_word (next (a_sign _) (next a_number none))) d = grammar.first_size d

next_size_front : {i ts j l : List Token} {rest : List SizeText} → Front next_size_patterns i ts j → Derives (grammar.MoreSizes rest) j l
    → Derives (grammar.MoreSizes (size_at 1 ts ∷ rest)) i l
next_size_front (next (a_sign _) (next a_word (next (a_sign _) (next a_number none)))) d = grammar.next_size d

abbrev IsFirstSize : List Token → SizeText → List Token → Type 0
IsFirstSize i x j = (rest : List SizeText) (l : List Token) → Derives (grammar.MoreSizes rest) j l → Derives (grammar.Sizes (x ∷ rest)) i l

abbrev AreMoreSizes : List SizeText → List Token → List Token → Type 0
AreMoreSizes xs i j = Derives (grammar.MoreSizes xs) i j

first_size_reads : (n : ℕ) (i : List Token) (K : List (Owed Point)) → length i ≤ suc n → Reading ways n (wants size_patterns K) K (IsFirstSize i) i (reading.first_size i)
first_size_reads n i K le = phrase (all size_patterns i) _ (patterns_read size_patterns n i K refl (omega arith))
    (λ ts j few front. given (size_at 0 ts) j few (λ rest l d. first_size_front front d))

next_size_reads : (n : ℕ) (i : List Token) (K : List (Owed Point)) → length i ≤ suc n
    → Reading ways n (wants next_size_patterns K) K (λ x j. (rest : List SizeText) (l : List Token) → AreMoreSizes rest j l → AreMoreSizes (x ∷ rest) i l) i (reading.next_size i)
next_size_reads n i K le = phrase (all next_size_patterns i) _ (patterns_read next_size_patterns n i K refl (omega arith))
    (λ ts j few front. given (size_at 1 ts) j few (λ rest l d. next_size_front front d))

more_sizes_read : (n : ℕ) (x : SizeText) (i : List Token) (K : List (Owed Point)) → length i ≤ n
    → Reading ways n (At MoreSizes ∷ K) (Want (s.Sign g.ParenClose) ∷ K) (Adds AreMoreSizes (x ∷ []) i) i (reading.more_sizes x i)
unfolding reading.more_sizes
more_sizes_read n x i K le = weaken (length i) (until (s.Sign g.ParenClose) reading.next_size (length i) (x ∷ []) i) le
    (until_reads AreMoreSizes (λ i. grammar.no_more_sizes) (s.Sign g.ParenClose) reading.next_size (At MoreSizes ∷ K) (Want (s.Sign g.ParenClose) ∷ K) (wants next_size_patterns (At MoreSizes ∷ K))
    (λ t. refl) refl refl (λ n i le. next_size_reads n i (At MoreSizes ∷ K) le) (length i) (x ∷ []) i (omega arith))

sizes_added : (x : SizeText) (i j l : List Token) (every : List SizeText) → IsFirstSize i x j → Adds AreMoreSizes (x ∷ []) j every l → Derives (grammar.Sizes every) i l
sizes_added x i j l every first (xs, is, more) = subst (λ every. Derives (grammar.Sizes every) i l) (sym is) (first xs l more)

sizes_read : (n : ℕ) (i : List Token) (K : List (Owed Point)) → length i ≤ n → Reading ways n (At Sizes ∷ K) (Want (s.Sign g.ParenClose) ∷ K) (λ xs j. Derives (grammar.Sizes xs) i j) i (reading.sizes i)
sizes_read n i K le = choice_reads (At Sizes ∷ K) (Want (s.Sign g.ParenClose) ∷ K) (wants size_patterns (At MoreSizes ∷ K)) (s.Sign g.ParenClose) (pure []) reading.some_sizes i (λ t. refl) refl
    (given [] i le grammar.no_size)
    (phrase (reading.first_size i) _ (first_size_reads n i (At MoreSizes ∷ K) (omega arith))
    (λ x j few first. gives_more (reading.more_sizes x j) (λ every l more. sizes_added x i j l every first more) (more_sizes_read n x j K few)))

-- ---- settings

negative_front : {i ts j : List Token} → Front minus_patterns i ts j → Derives (grammar.AValue (neg_ℤ (number_in (slice_get ts 1)))) i j
negative_front (next (a_sign _) (next a_number none)) = grammar.negative

plain_front : {i ts j : List Token} → Front (s.AnyNumber ∷ []) i ts j → Derives (grammar.AValue (number_in (slice_get ts 0))) i j
plain_front (next a_number none) = grammar.plain

next_value_front : {i ts j l m : List Token} {x : ℤ} {rest : List ℤ} → Front (s.Sign g.Comma ∷ []) i ts j → Derives (grammar.AValue x) j l → Derives (grammar.MoreValues rest) l m
    → Derives (grammar.MoreValues (x ∷ rest)) i m
next_value_front (next (a_sign _) none) d more = grammar.next_value d more

many_front : {i ts j l us m : List Token} {xs : List ℤ} → Front (s.Sign g.BracketOpen ∷ []) i ts j → Derives (grammar.Values xs) j l → Front (s.Sign g.BracketClose ∷ []) l us m
    → Derives (grammar.ASetting (Many xs)) i m
many_front (next (a_sign _) none) d (next (a_sign _) none) = grammar.many d

value_reads : (n : ℕ) (i : List Token) (K : List (Owed Point)) → length i ≤ suc n → Reading ways n (At AValue ∷ K) K (λ x j. Derives (grammar.AValue x) i j) i (reading.value i)
value_reads n i K le = choice_reads (At AValue ∷ K) (wants minus_patterns K) (Want s.AnyNumber ∷ K) (s.Sign g.Minus) reading.negative reading.plain i (λ t. refl) refl
    (phrase (all minus_patterns i) _ (patterns_read minus_patterns n i K refl (omega arith)) (λ ts j few front. given (neg_ℤ (number_in (slice_get ts 1))) j few (negative_front front)))
    (phrase (all (s.AnyNumber ∷ []) i) _ (patterns_read (s.AnyNumber ∷ []) n i K refl (omega arith)) (λ ts j few front. given (number_in (slice_get ts 0)) j few (plain_front front)))

abbrev AreMoreValues : List ℤ → List Token → List Token → Type 0
AreMoreValues xs i j = Derives (grammar.MoreValues xs) i j

next_value_reads : (n : ℕ) (i : List Token) (K : List (Owed Point)) → length i ≤ suc n
    → Reading ways n (Want (s.Sign g.Comma) ∷ At AValue ∷ K) K (λ x j. (rest : List ℤ) (l : List Token) → AreMoreValues rest j l → AreMoreValues (x ∷ rest) i l) i (reading.next_value i)
next_value_reads n i K le = phrase (all (s.Sign g.Comma ∷ []) i) _ (patterns_read (s.Sign g.Comma ∷ []) n i (At AValue ∷ K) refl (omega arith))
    (λ ts j few front. gives_more (reading.value j) (λ x l d rest m more. next_value_front front d more) (value_reads n j K (omega arith)))

more_values_read : (n : ℕ) (x : ℤ) (i : List Token) (K : List (Owed Point)) → length i ≤ n
    → Reading ways n (At MoreValues ∷ K) (Want (s.Sign g.BracketClose) ∷ K) (Adds AreMoreValues (x ∷ []) i) i (reading.more_values x i)
unfolding reading.more_values
more_values_read n x i K le = weaken (length i) (until (s.Sign g.BracketClose) reading.next_value (length i) (x ∷ []) i) le
    (until_reads AreMoreValues (λ i. grammar.no_more_values) (s.Sign g.BracketClose) reading.next_value (At MoreValues ∷ K) (Want (s.Sign g.BracketClose) ∷ K)
    (Want (s.Sign g.Comma) ∷ At AValue ∷ At MoreValues ∷ K) (λ t. refl) refl refl (λ n i le. next_value_reads n i (At MoreValues ∷ K) le) (length i) (x ∷ []) i (omega arith))

values_added : (x : ℤ) (i j l : List Token) (every : List ℤ) → Derives (grammar.AValue x) i j → Adds AreMoreValues (x ∷ []) j every l → Derives (grammar.Values every) i l
values_added x i j l every first (xs, is, more) = subst (λ every. Derives (grammar.Values every) i l) (sym is) (grammar.first_value first more)

values_read : (n : ℕ) (i : List Token) (K : List (Owed Point)) → length i ≤ n → Reading ways n (At Values ∷ K) (Want (s.Sign g.BracketClose) ∷ K) (λ xs j. Derives (grammar.Values xs) i j) i (reading.values i)
values_read n i K le = choice_reads (At Values ∷ K) (Want (s.Sign g.BracketClose) ∷ K) (At AValue ∷ At MoreValues ∷ K) (s.Sign g.BracketClose) (pure []) reading.some_values i (λ t. refl) refl
    (given [] i le grammar.no_value)
    (phrase (reading.value i) _ (value_reads n i (At MoreValues ∷ K) (omega arith))
    (λ x j few first. gives_more (reading.more_values x j) (λ every l more. values_added x i j l every first more) (more_values_read n x j K few)))

setting_reads : (n : ℕ) (i : List Token) (K : List (Owed Point)) → length i ≤ suc n → Reading ways n (At ASetting ∷ K) K (λ x j. Derives (grammar.ASetting x) i j) i (reading.setting i)
setting_reads n i K le = choice_reads (At ASetting ∷ K) (Want (s.Sign g.BracketOpen) ∷ At Values ∷ K) (At AValue ∷ K) (s.Sign g.BracketOpen) reading.many reading.one i (λ t. refl) refl
    (phrase (all (s.Sign g.BracketOpen ∷ []) i) _ (patterns_read (s.Sign g.BracketOpen ∷ []) n i (At Values ∷ K) refl (omega arith))
    (λ ts j few opening. phrase (reading.values j) _ (values_read n j K few)
    (λ xs l few2 d. phrase (all (s.Sign g.BracketClose ∷ []) l) _ (patterns_read (s.Sign g.BracketClose ∷ []) n l K refl (omega arith))
    (λ us m few3 closing. given (Many xs) m few3 (many_front opening d closing)))))
    (phrase (reading.value i) _ (value_reads n i K le) (λ x j few d. given (One x) j few (grammar.one d)))

-- ---- alternatives

another_front : {i ts j l m : List Token} {x : Setting} {rest : List Setting} → Front (s.Sign g.Bar ∷ []) i ts j → Derives (grammar.ASetting x) j l → Derives (grammar.Others Varied rest) l m
    → Derives (grammar.Others Varied (x ∷ rest)) i m
another_front (next (a_sign _) none) d more = grammar.another d more

abbrev AreOthers : List Setting → List Token → List Token → Type 0
AreOthers xs i j = Derives (grammar.Others Varied xs) i j

next_setting_reads : (n : ℕ) (i : List Token) (K : List (Owed Point)) → length i ≤ suc n
    → Reading ways n (Want (s.Sign g.Bar) ∷ At ASetting ∷ K) K (λ x j. (rest : List Setting) (l : List Token) → AreOthers rest j l → AreOthers (x ∷ rest) i l) i (reading.next_setting i)
next_setting_reads n i K le = phrase (all (s.Sign g.Bar ∷ []) i) _ (patterns_read (s.Sign g.Bar ∷ []) n i (At ASetting ∷ K) refl (omega arith))
    (λ ts j few front. gives_more (reading.setting j) (λ x l d rest m more. another_front front d more) (setting_reads n j K (omega arith)))

more_settings_read : (n : ℕ) (i : List Token) (K : List (Owed Point)) → length i ≤ n
    → Reading ways n (At Others ∷ K) (Want (s.Sign g.Semi) ∷ K) (λ xs j. AreOthers xs i j) i (reading.more_settings i)
unfolding reading.more_settings
more_settings_read n i K le = weaken (length i) (until (s.Sign g.Semi) reading.next_setting (length i) [] i) le
    (gives_more (until (s.Sign g.Semi) reading.next_setting (length i) [] i) (λ every j added. subst (λ every. AreOthers every i j) (sym added.1) added.2)
    (until_reads AreOthers (λ i. grammar.no_other) (s.Sign g.Semi) reading.next_setting (At Others ∷ K) (Want (s.Sign g.Semi) ∷ K)
    (Want (s.Sign g.Bar) ∷ At ASetting ∷ At Others ∷ K) (λ t. refl) refl refl (λ n i le. next_setting_reads n i (At Others ∷ K) le) (length i) [] i (omega arith)))

others_read : (tunables : Tunables) (n : ℕ) (i : List Token) (K : List (Owed Point)) → length i ≤ n
    → Reading ways n (setting_ends tunables ∷ K) (Want (s.Sign g.Semi) ∷ K) (λ xs j. Derives (grammar.Others tunables xs) i j) i (reading.others tunables i)
others_read Fixed n i K le = given [] i le grammar.no_other
others_read Varied n i K le = more_settings_read n i K le

-- the first setting, and then the others
pub record AreAlternatives (tunables : Tunables) (i : List Token) (x : Alternatives) (j : List Token) : Type 0 where
  pub between : List Token
  pub first : Derives (grammar.ASetting x.first) i between
  pub others : Derives (grammar.Others tunables x.others) between j

alternatives_read : (tunables : Tunables) (n : ℕ) (i : List Token) (K : List (Owed Point)) → length i ≤ suc n
    → Reading ways n (At ASetting ∷ setting_ends tunables ∷ K) (Want (s.Sign g.Semi) ∷ K) (AreAlternatives tunables i) i (reading.alternatives tunables i)
alternatives_read tunables n i K le = phrase (reading.setting i) _ (setting_reads n i (setting_ends tunables ∷ K) le)
    (λ x j few d. phrase (reading.others tunables j) _ (others_read tunables n j K few)
    (λ xs l few2 more. given (values x xs) l few2 (record { between = j; first = d; others = more })))

-- ---- items

tunable_front : {tunables : Tunables} {version : Version} {i ts j l us m : List Token} {x : Alternatives} → Front tunable_patterns i ts j → AreAlternatives tunables j x l → Front (s.Sign g.Semi ∷ []) l us m
    → Derives (grammar.AnItem tunables version (Tunable (word_in (slice_get ts 1)) x)) i m
tunable_front (next tunable (next a_word (next (a_sign _) none))) d (next (a_sign _) none) = grammar.a_tunable d.first d.others

call_front : {tunables : Tunables} {version : Version} {i ts j : List Token} → Front call_patterns i ts j → Derives (grammar.AnItem tunables version (Call (word_in (slice_get ts 1)) (word_in (slice_get ts 3)))) i j
call_front (next call (next a_word (next (a_sign _) (next a_word (next (a_sign _) none))))) = grammar.a_call

cyclic_front : {i ts j : List Token} → Front (s.Cyclic ∷ []) i ts j → Derives (grammar.ARule spreading.Cyclic) i j
cyclic_front (next cyclic none) = grammar.cyclic

blocked_front : {i ts j : List Token} → Front (s.Blocked ∷ []) i ts j → Derives (grammar.ARule spreading.Blocked) i j
blocked_front (next blocked none) = grammar.blocked

rule_reads : (n : ℕ) (i : List Token) (K : List (Owed Point)) → length i ≤ suc n → Reading ways n (At ARule ∷ K) K (λ x j. Derives (grammar.ARule x) i j) i (reading.rule i)
rule_reads n i K le = choice_reads (At ARule ∷ K) (Want s.Cyclic ∷ K) (Want s.Blocked ∷ K) s.Cyclic reading.cyclic reading.blocked i (λ t. refl) refl
    (phrase (all (s.Cyclic ∷ []) i) _ (patterns_read (s.Cyclic ∷ []) n i K refl (omega arith)) (λ ts j few front. given spreading.Cyclic j few (cyclic_front front)))
    (phrase (all (s.Blocked ∷ []) i) _ (patterns_read (s.Blocked ∷ []) n i K refl (omega arith)) (λ ts j few front. given spreading.Blocked j few (blocked_front front)))

spread_front : {tunables : Tunables} {i ts j l us m : List Token} {x : SpreadRule} → Front spread_patterns i ts j → Derives (grammar.ARule x) j l → Front (s.Sign g.Semi ∷ []) l us m
    → Derives (grammar.AnItem tunables Second (Spread (word_in (slice_get ts 0)) x)) i m
spread_front (next spread (next (a_sign _) none)) d (next (a_sign _) none) = grammar.a_spread d

spread_reads : (tunables : Tunables) (n : ℕ) (i : List Token) (K : List (Owed Point)) → length i ≤ suc n
    → Reading ways n (Want s.Spread ∷ (spread_owes ++ K)) K (λ x j. Derives (grammar.AnItem tunables Second x) i j) i (reading.spread i)
spread_reads tunables n i K le = phrase (all spread_patterns i) _ (patterns_read spread_patterns n i (At ARule ∷ Want (s.Sign g.Semi) ∷ K) refl (omega arith))
    (λ ts j few front. phrase (reading.rule j) _ (rule_reads n j (Want (s.Sign g.Semi) ∷ K) (omega arith))
    (λ x l few2 d. phrase (all (s.Sign g.Semi ∷ []) l) _ (patterns_read (s.Sign g.Semi ∷ []) n l K refl (omega arith))
    (λ us m few3 semi. given (Spread (word_in (slice_get ts 0)) x) m few3 (spread_front front d semi))))

plain_reads : (tunables : Tunables) (version : Version) (n : ℕ) (i : List Token) (K : List (Owed Point)) → length i ≤ suc n
    → Reading ways n (At (AnItem tunables First) ∷ K) K (λ x j. Derives (grammar.AnItem tunables version x) i j) i (reading.plain_item tunables i)
plain_reads tunables version n i K le =
    choice_reads (At (AnItem tunables First) ∷ K) (Want s.Tunable ∷ (tunable_owes tunables ++ K)) (Want s.Call ∷ (call_owes ++ K)) s.Tunable (reading.tunable tunables) reading.call i (λ t. refl) refl
    (phrase (all tunable_patterns i) _ (patterns_read tunable_patterns n i (At ASetting ∷ setting_ends tunables ∷ K) refl (omega arith))
    (λ ts j few front. phrase (reading.alternatives tunables j) _ (alternatives_read tunables n j K (omega arith))
    (λ x l few2 d. phrase (all (s.Sign g.Semi ∷ []) l) _ (patterns_read (s.Sign g.Semi ∷ []) n l K refl (omega arith))
    (λ us m few3 semi. given (Tunable (word_in (slice_get ts 1)) x) m few3 (tunable_front front d semi)))))
    (phrase (all call_patterns i) _ (patterns_read call_patterns n i K refl (omega arith))
    (λ ts j few front. given (Call (word_in (slice_get ts 1)) (word_in (slice_get ts 3))) j few (call_front front)))

item_reads : (tunables : Tunables) (version : Version) (n : ℕ) (i : List Token) (K : List (Owed Point)) → length i ≤ suc n
    → Reading ways n (At (AnItem tunables version) ∷ K) K (λ x j. Derives (grammar.AnItem tunables version x) i j) i (reading.item tunables version i)
item_reads tunables First n i K le = plain_reads tunables First n i K le
item_reads tunables Second n i K le =
    choice_reads (At (AnItem tunables Second) ∷ K) (Want s.Spread ∷ (spread_owes ++ K)) (At (AnItem tunables First) ∷ K) s.Spread reading.spread (reading.plain_item tunables) i (λ t. refl) refl
    (spread_reads tunables n i K le) (plain_reads tunables Second n i K le)

abbrev AreItems : Tunables → Version → List ItemText → List Token → List Token → Type 0
AreItems tunables version xs i j = Derives (grammar.Items tunables version xs) i j

-- the ways on within a list of items
abbrev EndsOrGoesOn : Tunables → Version → Type 0
EndsOrGoesOn tunables version = (K : List (Owed Point)) (t : Kind)
    → settle ways (At (Items tunables version) ∷ K) t ≡ (if fits (s.Sign g.BraceClose) t then settle ways (Want (s.Sign g.BraceClose) ∷ K) t else settle ways (At (AnItem tunables version) ∷ At (Items tunables version) ∷ K) t)

ends_or_goes_on : (tunables : Tunables) (version : Version) → EndsOrGoesOn tunables version
ends_or_goes_on tunables First = λ K t. refl
ends_or_goes_on tunables Second = λ K t. refl

items_read : (tunables : Tunables) (version : Version) (n : ℕ) (i : List Token) (K : List (Owed Point)) → length i ≤ n
    → Reading ways n (At (Items tunables version) ∷ K) (Want (s.Sign g.BraceClose) ∷ K) (λ xs j. Derives (grammar.Items tunables version xs) i j) i (reading.items tunables version i)
unfolding reading.items
items_read tunables version n i K le = weaken (length i) (until (s.Sign g.BraceClose) (reading.item tunables version) (length i) [] i) le
    (gives_more (until (s.Sign g.BraceClose) (reading.item tunables version) (length i) [] i) (λ every j added. subst (λ every. Derives (grammar.Items tunables version every) i j) (sym added.1) added.2)
    (until_reads (AreItems tunables version) (λ i. grammar.no_item) (s.Sign g.BraceClose) (reading.item tunables version) (At (Items tunables version) ∷ K) (Want (s.Sign g.BraceClose) ∷ K)
    (At (AnItem tunables version) ∷ At (Items tunables version) ∷ K) (ends_or_goes_on tunables version K) refl refl
    (λ n i le. gives_more (reading.item tunables version i) (λ x j d rest l more. grammar.an_item d more) (item_reads tunables version n i (At (Items tunables version) ∷ K) le)) (length i) [] i (omega arith)))

-- ---- instances

inner_front : {i ts j : List Token} → Front (s.Inner ∷ []) i ts j → Derives (grammar.AKind variant.Inner) i j
inner_front (next inner none) = grammar.inner

leaf_front : {i ts j : List Token} → Front (s.Leaf ∷ []) i ts j → Derives (grammar.AKind variant.Leaf) i j
leaf_front (next leaf none) = grammar.leaf

kind_reads : (n : ℕ) (i : List Token) (K : List (Owed Point)) → length i ≤ suc n → Reading ways n (At AKind ∷ K) K (λ x j. Derives (grammar.AKind x) i j) i (reading.kind i)
kind_reads n i K le = choice_reads (At AKind ∷ K) (Want s.Inner ∷ K) (Want s.Leaf ∷ K) s.Inner reading.inner reading.leaf i (λ t. refl) refl
    (phrase (all (s.Inner ∷ []) i) _ (patterns_read (s.Inner ∷ []) n i K refl (omega arith)) (λ ts j few front. given variant.Inner j few (inner_front front)))
    (phrase (all (s.Leaf ∷ []) i) _ (patterns_read (s.Leaf ∷ []) n i K refl (omega arith)) (λ ts j few front. given variant.Leaf j few (leaf_front front)))

instance_front : {tunables : Tunables} {version : Version} {i ts j l us m o vs q : List Token} {x : VariantKind} {xs : List ItemText} → Front instance_patterns i ts j → Derives (grammar.AKind x) j l → Front level_patterns l us m
    → Derives (grammar.Items tunables version xs) m o → Front (s.Sign g.BraceClose ∷ []) o vs q → Derives (grammar.AnInstance tunables version (instance_of ts x us xs)) i q
instance_front (next instance (next a_word (next (a_sign _) (next a_word (next (a_sign _) none))))) kind (next (a_sign _) (next a_word (next (a_sign _) none))) items (next (a_sign _) none) =
    grammar.an_instance kind items

instance_reads : (tunables : Tunables) (version : Version) (n : ℕ) (i : List Token) (K : List (Owed Point)) → length i ≤ suc n
    → Reading ways n (Want s.Instance ∷ (instance_owes tunables version ++ K)) K (λ x j. Derives (grammar.AnInstance tunables version x) i j) i (reading.instance tunables version i)
instance_reads tunables version n i K le = phrase (all instance_patterns i) _ (patterns_read instance_patterns n i (At AKind ∷ wants level_patterns (At (Items tunables version) ∷ K)) refl (omega arith))
    (λ ts j few head. phrase (reading.kind j) _ (kind_reads n j (wants level_patterns (At (Items tunables version) ∷ K)) (omega arith))
    (λ x l few2 kind. phrase (all level_patterns l) _ (patterns_read level_patterns n l (At (Items tunables version) ∷ K) refl (omega arith))
    (λ us m few3 level. phrase (reading.items tunables version m) _ (items_read tunables version n m K few3)
    (λ xs o few4 items. phrase (all (s.Sign g.BraceClose ∷ []) o) _ (patterns_read (s.Sign g.BraceClose ∷ []) n o K refl (omega arith))
    (λ vs q few5 closing. given (instance_of ts x us xs) q few5 (instance_front head kind level items closing))))))

abbrev AreInstances : Tunables → Version → List InstanceText → List Token → List Token → Type 0
AreInstances tunables version xs i j = Derives (grammar.Instances tunables version xs) i j

instances_read : (tunables : Tunables) (version : Version) (n : ℕ) (i : List Token) → length i ≤ n
    → Reading ways n (At (Instances tunables version) ∷ []) (Want s.End ∷ []) (λ xs j. Derives (grammar.Instances tunables version xs) i j) i (reading.instances tunables version i)
unfolding reading.instances
instances_read tunables version n i le = weaken (length i) (until s.End (reading.instance tunables version) (length i) [] i) le
    (gives_more (until s.End (reading.instance tunables version) (length i) [] i) (λ every j added. subst (λ every. Derives (grammar.Instances tunables version every) i j) (sym added.1) added.2)
    (until_reads (AreInstances tunables version) (λ i. grammar.no_instance) s.End (reading.instance tunables version) (At (Instances tunables version) ∷ []) (Want s.End ∷ [])
    (Want s.Instance ∷ (instance_owes tunables version ++ At (Instances tunables version) ∷ [])) (λ t. refl) refl refl
    (λ n i le. gives_more (reading.instance tunables version i) (λ x j d rest l more. grammar.one_more_instance d more) (instance_reads tunables version n i (At (Instances tunables version) ∷ []) le)) (length i) [] i (omega arith)))

-- ---- the whole

abbrev mapping_word : Place → Token
mapping_word p = token (k.Word (codes "mapping")) p

-- the name of the entry and its sizes, and whatever stands after them
abbrev IsEntry : Tunables → Version → List Token → Word × List SizeText → List Token → Type 0
IsEntry tunables version i x j = (p : Place) (instances : List InstanceText) (l : List Token)
    → Derives (grammar.Instances tunables version instances) j l → Derives (grammar.AMapping tunables (grammar.mapping x.0 x.1 instances)) (mapping_word p ∷ i) l

entry_front : (tunables : Tunables) (version : Version) {p : Place} {i ts j l us m o : List Token} {xs : List SizeText} {ys : List InstanceText} → Front (s.Exactly (number_of version) ∷ head_patterns) i ts j
    → Derives (grammar.Sizes xs) j l → Front sizes_end l us m → Derives (grammar.Instances tunables version ys) m o
    → Derives (grammar.AMapping tunables (grammar.mapping (word_in (slice_get ts 3)) xs ys)) (mapping_word p ∷ i) o
entry_front tunables version (next (exactly _) (next (a_sign _) (next entry (next a_word (next (a_sign _) none))))) sizes (next (a_sign _) (next (a_sign _) none)) instances =
    grammar.a_mapping {version = version} sizes instances

entry_reads : (tunables : Tunables) (version : Version) (n : ℕ) (i : List Token) (K : List (Owed Point)) → length i ≤ suc n
    → Reading ways n (Want (s.Exactly (number_of version)) ∷ wants head_patterns (At Sizes ∷ Want (s.Sign g.Semi) ∷ K)) K (IsEntry tunables version i) i (reading.entry version i)
entry_reads tunables version n i K le = phrase (reading.head version i) _ (patterns_read (s.Exactly (number_of version) ∷ head_patterns) n i (At Sizes ∷ Want (s.Sign g.Semi) ∷ K) refl (omega arith))
    (λ ts j few head. phrase (reading.sizes j) _ (sizes_read n j (Want (s.Sign g.Semi) ∷ K) few)
    (λ xs l few2 sizes. phrase (all sizes_end l) _ (patterns_read sizes_end n l K refl (omega arith))
    (λ us m few3 closing. given (word_in (slice_get ts 3), xs) m few3 (λ p ys o instances. entry_front tunables version head sizes closing instances))))

is_text : {tunables : Tunables} {i j : List Token} {x : MappingText} → Derives (grammar.AMapping tunables x) i j → IsLast j → IsTextOf tunables i x
is_text {tunables} {i} {x = x} d (p, is) = record { end = p; text = subst (λ j. Derives (grammar.AMapping tunables x) i j) is d }

-- these tokens behind the word `mapping` are a text
abbrev IsBody : Tunables → List Token → MappingText → Type 0
IsBody tunables i x = (p : Place) → IsTextOf tunables (mapping_word p ∷ i) x

body_reads : (tunables : Tunables) (version : Version) (n : ℕ) (i : List Token) → length i ≤ suc n
    → Reading ways n (Want (s.Exactly (number_of version)) ∷ version_owes tunables version) [] (λ x j. IsBody tunables i x) i (reading.body tunables version i)
unfolding reading.body
body_reads tunables version n i le = phrase (reading.entry version i) _ (entry_reads tunables version n i (At (Instances tunables version) ∷ []) le)
    (λ x j few head. phrase (reading.instances tunables version j) _ (instances_read tunables version n j few)
    (λ xs l few2 instances. phrase (all (s.End ∷ []) l) _ (all_reads (s.End ∷ []) n l [] (refl, tt) (omega arith))
    (λ us m few3 last. finish_reads n (grammar.mapping x.0 x.1 xs) m few3 (λ e p. is_text (head p xs l instances) (last_front last e)))))

mapping_front : {tunables : Tunables} {i ts j : List Token} {x : MappingText} → Front (s.Mapping ∷ []) i ts j → IsBody tunables j x → IsTextOf tunables i x
mapping_front (next mapping none) d = d _

pub mapping_reads : (tunables : Tunables) (i : List Token) → Reading ways (length i) (start tunables) [] (λ x j. IsTextOf tunables i x) i (reading.mapping tunables i)
mapping_reads tunables i = phrase (all (s.Mapping ∷ []) i) _ (patterns_read (s.Mapping ∷ []) (length i) i (At (AVersion tunables) ∷ []) refl (omega arith))
    (λ ts j few front. gives_more (choice (s.Exactly 1) (reading.body tunables First) (reading.body tunables Second) j) (λ x l d. mapping_front front d)
    (choice_reads (At (AVersion tunables) ∷ []) (Want (s.Exactly 1) ∷ version_owes tunables First) (Want (s.Exactly 2) ∷ version_owes tunables Second) (s.Exactly 1) (reading.body tunables First) (reading.body tunables Second) j
    (λ t. refl) refl (body_reads tunables First (length i) j (omega (arith, few))) (body_reads tunables Second (length i) j (omega (arith, few)))))
