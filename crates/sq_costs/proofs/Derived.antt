-- The reader gives exactly what the grammar derives, and the machine goes on after it as it does.
use Rattle.std.proofs.Common.{◌≡◌, ℕ, suc, ◌≤◌, List, [], ◌∷◌, length, refl, sym, ap, subst, arith}
use Rattle.std.specs.List.{slice_get}
use Rattle.sq_lexer.specs.declared.token.Token.{Token}
use Rattle.sq_lexer.specs.declared.token.Kind.TheVariants as k
use Rattle.sq_lexer.specs.Tokens.{token}
use Rattle.sq_patterns.specs.declared.pattern.Pattern.TheVariants as s
use Rattle.sq_patterns.specs.Reading.{all, until, word_in, numeral_in, place_in}
use Rattle.sq_patterns.proofs.Owing.{Owed, Want, At, wants}
use Rattle.sq_patterns.proofs.Matching.{Front, none, next, cost, level, row, byte, leaf, a_word, a_number, exactly, a_sign, end}
use Rattle.sq_patterns.proofs.Readings.{Reading, given, gives_more, phrase, weaken, all_reads, patterns_read, until_reads, finish_reads}
use Rattle.sq_costs.specs.declared.text.EntryText.{EntryText}
use Rattle.sq_costs.specs.Grammar.{entry_text, Derives, IsText}
use Rattle.sq_costs.specs.Grammar as grammar
use Rattle.sq_costs.specs.Reading.{head_patterns, entry_patterns}
use Rattle.sq_costs.specs.Reading as reading
use Rattle.sq_costs.proofs.Points.{Point, More, ways, start}

-- ---- an entry

entry_front : {i ts j : List Token} → Front entry_patterns i ts j
    → Derives (grammar.AnEntry (entry_text (word_in (slice_get ts 1)) (numeral_in (slice_get ts 4)) (numeral_in (slice_get ts 7)) (numeral_in (slice_get ts 10)))) i j
entry_front (next level (next a_word (next (a_sign _) (next row (next a_number (next (a_sign _) (next byte (next a_number (next (a_sign _) (next leaf (next a_number (next (a_sign _) (next (a_sign _) none))))))))))))) = grammar.an_entry

entry_reads : (n : ℕ) (i : List Token) (K : List (Owed Point)) → length i ≤ suc n → Reading ways n (wants entry_patterns K) K (λ x j. Derives (grammar.AnEntry x) i j) i (reading.entry i)
entry_reads n i K le = phrase (all entry_patterns i) _ (patterns_read entry_patterns n i K refl (omega arith))
    (λ ts j few front. given (entry_text (word_in (slice_get ts 1)) (numeral_in (slice_get ts 4)) (numeral_in (slice_get ts 7)) (numeral_in (slice_get ts 10))) j few (entry_front front))

-- ---- the entries

abbrev AreMore : List EntryText → List Token → List Token → Type 0
AreMore xs i j = Derives (grammar.MoreEntries xs) i j

more_reads : (n : ℕ) (i : List Token) (K : List (Owed Point)) → length i ≤ suc n
    → Reading ways n (wants entry_patterns K) K (λ x j. (rest : List EntryText) (l : List Token) → AreMore rest j l → AreMore (x ∷ rest) i l) i (reading.entry i)
more_reads n i K le = gives_more (reading.entry i) (λ x j d rest l more. grammar.one_more_entry d more) (entry_reads n i K le)

-- the first entry, and those after it
abbrev EntriesFrom : EntryText → List EntryText → List Token → List Token → Type 0
EntriesFrom first entries i j = (rest : List EntryText) × (entries ≡ first ∷ rest) × AreMore rest i j

entries_read : (n : ℕ) (i : List Token) (first : EntryText) → length i ≤ n
    → Reading ways n (At More ∷ []) (Want s.End ∷ []) (λ xs j. EntriesFrom first xs i j) i (reading.entries_from first i)
unfolding reading.entries_from
entries_read n i first le = weaken (length i) (until s.End reading.entry (length i) (first ∷ []) i) le
    (until_reads AreMore (λ i. grammar.no_more_entries) s.End reading.entry (At More ∷ []) (Want s.End ∷ []) (wants entry_patterns (At More ∷ []))
    (λ t. refl) refl refl (λ n i le. more_reads n i (At More ∷ []) le) (length i) (first ∷ []) i (omega arith))

-- ---- the whole

end_front : {i ts j : List Token} → Front (s.End ∷ []) i ts j → j ≡ [] → i ≡ token k.End (place_in (slice_get ts 0)) ∷ []
end_front (next {p = p} end none) e = ap (λ j. token k.End p ∷ j) e

head_front : {i ts j l m : List Token} {first : EntryText} {others : List EntryText} → Front head_patterns i ts j → Derives (grammar.AnEntry first) j l → AreMore others l m
    → Derives (grammar.ACost (first ∷ others)) i m
head_front (next cost (next (exactly _) (next (a_sign _) none))) d more = grammar.a_cost d more

is_text : (i ts j l m us : List Token) (first : EntryText) (entries : List EntryText) → Front head_patterns i ts j → Derives (grammar.AnEntry first) j l → EntriesFrom first entries l m
    → m ≡ token k.End (place_in (slice_get us 0)) ∷ [] → IsText i (record { entries = entries; end = place_in (slice_get us 0) })
is_text i ts j l m us first entries head d (rest, is, more) e = record {
  text = subst (λ m. Derives (grammar.ACost entries) i m) e (subst (λ entries. Derives (grammar.ACost entries) i m) (sym is) (head_front head d more));
}

pub cost_reads : (i : List Token) → Reading ways (length i) start [] (λ x j. IsText i x) i (reading.cost i)
unfolding reading.cost
cost_reads i = phrase (all head_patterns i) _ (patterns_read head_patterns (length i) i (wants entry_patterns (At More ∷ [])) refl (omega arith))
    (λ ts j few head. phrase (reading.entry j) _ (entry_reads (length i) j (At More ∷ []) (omega arith))
    (λ first l few2 d. phrase (reading.entries_from first l) _ (entries_read (length i) l first few2)
    (λ entries m few3 more. phrase (all (s.End ∷ []) m) _ (all_reads (s.End ∷ []) (length i) m [] (refl, tt) (omega arith))
    (λ us o few4 last. finish_reads (length i) (record { entries = entries; end = place_in (slice_get us 0) }) o few4 (λ e. is_text i ts j l m us first entries head d more (end_front last e))))))
