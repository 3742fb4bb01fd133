-- What is written of arrays is read back.
use Rattle.std.proofs.Common.{◌≡◌, ℕ, zero, suc, ◌+◌, ◌-◌, ◌*◌, ◌^◌, ◌<◌, ◌≤◌, Bool, true, false, cond, ◌&&◌, ◌==◌, List, [], ◌∷◌, ◌++◌, length, take, drop, length-drop, refl, sym, ◌∙◌, ap, subst, append_assoc, ◌⊎◌, inl, inr, arith, Option, Some, None, Result, Ok, Err, ℤ}
use Rattle.std.specs.Prelude.{pos, negsuc, decimal, codes, All}
use Rattle.std.specs.Fmt.{signed_decimal}
use Rattle.std.specs.List.{AllZip}
use Rattle.std.proofs.Math.Nat.{suc-mul}
use Rattle.std.proofs.lemmas.Bool.Decides.{nat_tests}
use Rattle.std.proofs.lemmas.Fmt.{digits_decimal, digits_value-decimal, decimal_nonempty}
use Rattle.std.proofs.lemmas.Int.{ints}
use Rattle.std.proofs.lemmas.List.{take-append-drop}
use Rattle.std.proofs.lemmas.List.Elements.{All-tail}
use Rattle.std.proofs.lemmas.Str.Parse.{IsNumeralModel, IsDigitsTest, FoldsDigits, numerals_by_fold}
use Rattle.sq_num.specs.declared.Elem.{Elem}
use Rattle.sq_num.specs.declared.Elem.TheVariants.{Byte, Int, Long}
use Rattle.sq_num.specs.Elements.{least, greatest, IsValue}
use Rattle.sq_rect.specs.Extents.{product, rows_of, last_of}
use Rattle.sq_rect.proofs.Extents.{product-rows}
use Rattle.sq_text.specs.declared.place.Place.{Place}
use Rattle.sq_arrays.specs.declared.refusal.InputCode.{InputCode}
use Rattle.sq_arrays.specs.declared.refusal.InputCode.TheVariants.{Name, Shape}
use Rattle.sq_arrays.specs.Words.{is_blank, is_in, along, run, behind, within, is_over}
use Rattle.sq_arrays.specs.Window.{AreIn, Stops}
use Rattle.sq_arrays.specs.ArrayText.{Fault, Rest, Word, start_of, past, ended, next_word, same_text, array_word, is_digit, all_digits, number_of, fits, value_of, with_place, next_value, next_values, same_of, array_of, next_same, next_array, finished, finish_at, ◌>>=◌}
use Rattle.sq_arrays.specs.Arrays.{Wanted, head_of, array_of_text, of_array, add_values, arrays_from, arrays_of, AreValuesOf}
use Rattle.sq_arrays.specs.Heads.{elem_word, extent_text, shape_text}
use Rattle.sq_arrays.specs.Written.{row_from, row_text, rows_text, head_text, array_text, arrays_text, HasHead}
use Rattle.sq_arrays.proofs.Passing.{are_in_both}
use Rattle.sq_arrays.proofs.WordsRead.{run_is, word_is, begun}
use Rattle.sq_arrays.proofs.Looking.{within_short, over_yes}

-- ---- words

-- this text is left of a file, and all of it counts
record At (r : Rest) (text : List ℕ) : Type 0 where
  pub is : r.text ≡ text
  pub fits : r.over ≡ false

abbrev BeginsBlank : List ℕ → Type 0
BeginsBlank [] = ⊥
BeginsBlank (b ∷ bs) = is_blank b ≡ true

stops_word : (text : List ℕ) → BeginsBlank text → Stops false text
stops_word [] begins = absurd begins
stops_word (b ∷ bs) begins = rw begins refl

no_blank : (v : Bool) → cond v false true ≡ true → v ≡ false
no_blank true h = cc
no_blank false h = refl

stops_blanks : (word rest : List ℕ) → 0 < length word → AreIn false word → Stops true (word ++ rest)
stops_blanks [] rest some each = absurd (omega arith)
stops_blanks (b ∷ bs) rest some each = no_blank (is_blank b) each.0

past_is : (blank : Bool) (r : Rest) (done text : List ℕ) → At r (done ++ text) → AreIn blank done → Stops blank text
    → past blank r ≡ record { place = along r.place done; text = text; over = false }
past_is blank r done text at each stops =
    let e = run_is blank done text each stops in
    ap (λ (l : List ℕ). record { place = along r.place (run blank l); text = behind blank l; over = r.over }) at.is
    ∙ ap (λ (l : List ℕ). record { place = along r.place l; text = behind blank (done ++ text); over = r.over }) e.0
    ∙ ap (λ (l : List ℕ). record { place = along r.place done; text = l; over = r.over }) e.1
    ∙ ap (λ (o : Bool). record { place = along r.place done; text = text; over = o }) at.fits

ended_at : (text : List ℕ) → BeginsBlank text → ended text false ≡ true
ended_at [] begins = absurd begins
ended_at (b ∷ bs) begins = refl

-- the next word is this one, and this text is behind it
record Reads (r : Rest) (word rest : List ℕ) : Type 0 where
  pub place : Place
  pub now : Rest
  pub read : next_word r ≡ Ok (record { place = place; bytes = word; rest = now })
  pub at : At now rest

reads_word : (r : Rest) (blanks word rest : List ℕ) → At r (blanks ++ (word ++ rest)) → AreIn true blanks → 0 < length word → AreIn false word → BeginsBlank rest → Reads r word rest
reads_word r blanks [] rest at skipped some each begins = absurd (omega arith)
reads_word r blanks (b ∷ bs) rest at skipped some each begins =
    let p = along r.place blanks in
    let s : Rest = record { place = p; text = (b ∷ bs) ++ rest; over = false } in
    let n : Rest = record { place = along p (b ∷ bs); text = rest; over = false } in
    record {
      place = p;
      now = n;
      read = word_is r s n (b ∷ bs) (past_is true r blanks ((b ∷ bs) ++ rest) at skipped (stops_blanks (b ∷ bs) rest some each)) (run_is false (b ∷ bs) rest each (stops_word rest begins)).0
          (past_is false s (b ∷ bs) rest (record { is = refl; fits = refl }) each (stops_word rest begins))
          ∙ begun p (b ∷ bs) b bs n true refl (ended_at rest begins);
      at = record { is = refl; fits = refl };
    }

-- ---- numbers

two_true : (a b : Bool) → (a && b) ≡ true → (a ≡ true) × (b ≡ true)
two_true true b h = (refl, h)
two_true false b h = cc

digits_test : IsDigitsTest (λ ds. all_digits ds ≡ true)
digits_test = record {
  empty = refl;
  parts = λ c cs all. let p = two_true (is_digit c) (all_digits cs) all in (grind (arith, nat_tests, p.0), p.1);
  more = λ c cs range all. let d : is_digit c ≡ true = grind (arith, nat_tests, range) in rw d all;
}

folds_digits : FoldsDigits number_of
folds_digits = record {
  empty = λ n. refl;
  more = λ n c cs range. let e : 10 * n + (c - 48) ≡ n * 10 + (c - 48) = omega arith in ap (λ (k : ℕ). number_of k cs) e;
}

numerals : IsNumeralModel (λ ds. all_digits ds ≡ true) (number_of 0)
numerals = numerals_by_fold (λ ds. all_digits ds ≡ true) digits_test number_of folds_digits

digit_no_blank : (b : ℕ) → is_digit b ≡ true → is_in false b ≡ true
digit_no_blank b is = let e : is_blank b ≡ false = grind (arith, nat_tests) in rw e refl

digits_no_blank : (ds : List ℕ) → all_digits ds ≡ true → AreIn false ds
digits_no_blank [] all = tt
digits_no_blank (d ∷ ds) all = let p = two_true (is_digit d) (all_digits ds) all in (digit_no_blank d p.0, digits_no_blank ds p.1)

-- what a number is in place of a value, when it begins with no `-`
plain : (e : Elem) (ds : List ℕ) (n : ℕ) → 0 < length ds → all_digits ds ≡ true → number_of 0 ds ≡ n → fits e false n ≡ true → value_of e ds ≡ Ok (pos n)
unfolding value_of
plain e [] n some all is fits = absurd (omega arith)
plain e (d ∷ ds) n some all is fits =
    let p = two_true (is_digit d) (all_digits ds) all in
    let a : (d == 97) ≡ false = grind (arith, nat_tests) in
    let m : (d == 45) ≡ false = grind (arith, nat_tests) in
    rw (a, m, all, is, fits) refl

below : (e : Elem) (ds : List ℕ) (n : ℕ) → 0 < length ds → all_digits ds ≡ true → number_of 0 ds ≡ suc n → fits e true (suc n) ≡ true → value_of e (45 ∷ ds) ≡ Ok (negsuc n)
unfolding value_of
below e [] n some all is fits = absurd (omega arith)
below e (d ∷ ds) n some all is fits = rw (all, is, fits) refl

fits_up : (e : Elem) (n : ℕ) → IsValue e (pos n) → (fits e false n ≡ true) × (n < 2 ^ 64)
unfolding least greatest
fits_up Byte n good = let k : n ≤ 255 = omega (arith, ints, good.high) in (grind (arith, nat_tests), omega arith)
fits_up Int n good = let k : n ≤ 2147483647 = omega (arith, ints, good.high) in (grind (arith, nat_tests), omega arith)
fits_up Long n good = let k : n ≤ 9223372036854775807 = omega (arith, ints, good.high) in (grind (arith, nat_tests), omega arith)

fits_down : (e : Elem) (n : ℕ) → IsValue e (negsuc n) → (fits e true (suc n) ≡ true) × (suc n < 2 ^ 64)
unfolding least greatest
fits_down Byte n good = absurd (omega (arith, ints, good.low))
fits_down Int n good = let k : suc n ≤ 2147483648 = omega (arith, ints, good.low) in (grind (arith, nat_tests), omega arith)
fits_down Long n good = let k : suc n ≤ 9223372036854775808 = omega (arith, ints, good.low) in (grind (arith, nat_tests), omega arith)

-- the word of a value
record IsWordOf (e : Elem) (v : ℤ) (word : List ℕ) : Type 0 where
  pub some : 0 < length word
  pub each : AreIn false word
  pub value : value_of e word ≡ Ok v

word_for : (e : Elem) (v : ℤ) → IsValue e v → IsWordOf e v (signed_decimal v)
word_for e (pos n) good =
    let f = fits_up e n good in
    let all : all_digits (decimal n) ≡ true = digits_decimal numerals n f.1 in
    let some = decimal_nonempty n f.1 in
    record { some = some; each = digits_no_blank (decimal n) all; value = plain e (decimal n) n some all (digits_value-decimal numerals n f.1) f.0 }
word_for e (negsuc n) good =
    let f = fits_down e n good in
    let all : all_digits (decimal (suc n)) ≡ true = digits_decimal numerals (suc n) f.1 in
    let some = decimal_nonempty (suc n) f.1 in
    record { some = omega arith; each = (refl, digits_no_blank (decimal (suc n)) all); value = below e (decimal (suc n)) n some all (digits_value-decimal numerals (suc n) f.1) f.0 }

-- ---- values with blanks between them

-- these values, with blanks before each and behind the last
data Spaced : List ℤ → List ℕ → Type 0 where
  no_more : (blanks : List ℕ) → AreIn true blanks → Spaced [] blanks
  one_more : (blanks : List ℕ) (v : ℤ) (vs : List ℤ) (rest text : List ℕ) → AreIn true blanks → BeginsBlank rest → Spaced vs rest → text ≡ blanks ++ (signed_decimal v ++ rest) → Spaced (v ∷ vs) text

begins_more : (text more : List ℕ) → BeginsBlank text → BeginsBlank (text ++ more)
begins_more [] more begins = absurd begins
begins_more (b ∷ bs) more begins = begins

blanks_before : (blanks : List ℕ) (vs : List ℤ) (text : List ℕ) → AreIn true blanks → Spaced vs text → Spaced vs (blanks ++ text)
blanks_before blanks [] text each (no_more more these) = no_more (blanks ++ more) (are_in_both true blanks more each these)
blanks_before blanks (v ∷ vs) text each (one_more more _ _ rest _ these begins s is) =
    one_more (blanks ++ more) v vs rest (blanks ++ text) (are_in_both true blanks more each these) begins s (ap (λ (l : List ℕ). blanks ++ l) is ∙ sym (append_assoc blanks more (signed_decimal v ++ rest)))

both_spaced : (vs ws : List ℤ) (text more : List ℕ) → Spaced vs text → Spaced ws more → Spaced (vs ++ ws) (text ++ more)
both_spaced [] ws text more (no_more blanks each) second = blanks_before blanks ws more each second
both_spaced (v ∷ vs) ws text more (one_more blanks _ _ rest _ each begins s is) second =
    one_more blanks v (vs ++ ws) (rest ++ more) (text ++ more) each (begins_more rest more begins) (both_spaced vs ws rest more s second)
    (ap (λ (l : List ℕ). l ++ more) is ∙ append_assoc blanks (signed_decimal v ++ rest) more ∙ ap (λ (l : List ℕ). blanks ++ l) (append_assoc (signed_decimal v) rest more))

row_begins : (vs : List ℤ) → BeginsBlank (row_from false vs)
row_begins [] = refl
row_begins (v ∷ vs) = refl

space_before : (first : Bool) → AreIn true (cond first [] (codes " "))
space_before true = tt
space_before false = (refl, tt)

row_spaced : (first : Bool) (vs : List ℤ) → Spaced vs (row_from first vs)
row_spaced first [] = no_more (codes "\n") (refl, tt)
row_spaced first (v ∷ vs) =
    one_more (cond first [] (codes " ")) v vs (row_from false vs) (row_from first (v ∷ vs)) (space_before first) (row_begins vs) (row_spaced false vs) (append_assoc (cond first [] (codes " ")) (signed_decimal v) (row_from false vs))

rows_spaced : (n last : ℕ) (vs : List ℤ) → length vs ≡ n * last → Spaced vs (rows_text n last vs)
rows_spaced zero last [] size = no_more [] tt
rows_spaced zero last (v ∷ vs) size = absurd (omega (arith, size))
rows_spaced (suc n) last vs size =
    subst (λ (l : List ℤ). Spaced l (rows_text (suc n) last vs)) (take-append-drop last vs)
    (both_spaced (take last vs) (drop last vs) (row_text (take last vs)) (rows_text n last (drop last vs)) (row_spaced true (take last vs)) (rows_spaced n last (drop last vs) (omega (arith, length-drop last vs, size, suc-mul n last))))

-- these values are next, and then blanks before this text
record ReadsValues (e : Elem) (n : ℕ) (vs : List ℤ) (r : Rest) (more : List ℕ) : Type 0 where
  pub now : Rest
  pub read : next_values n e r ≡ Ok (vs, now)
  pub blanks : List ℕ
  pub each : AreIn true blanks
  pub at : At now (blanks ++ more)

one_value : (e : Elem) (r now : Rest) (place : Place) (v : ℤ) (word : List ℕ) → next_word r ≡ Ok (record { place = place; bytes = word; rest = now }) → value_of e word ≡ Ok v → next_value e r ≡ Ok (v, now)
one_value e r now place v word read is =
    ap (λ (q : Result Word Fault). q >>= λ w. with_place w (value_of e w.bytes)) read
    ∙ ap (λ (q : Result ℤ InputCode). with_place (record { place = place; bytes = word; rest = now }) q) is

then_values : (e : Elem) (n : ℕ) (v : ℤ) (vs : List ℤ) (r mid now : Rest) → next_value e r ≡ Ok (v, mid) → next_values n e mid ≡ Ok (vs, now) → next_values (suc n) e r ≡ Ok (v ∷ vs, now)
then_values e n v vs r mid now first rest =
    ap (λ (q : Result (ℤ × Rest) Fault). q >>= λ x. (next_values n e x.1 >>= λ xs. Ok (x.0 ∷ xs.0, xs.1))) first
    ∙ ap (λ (q : Result (List ℤ × Rest) Fault). q >>= λ xs. Ok (v ∷ xs.0, xs.1)) rest

values_back : (e : Elem) (vs : List ℤ) (text more : List ℕ) (r : Rest) → Spaced vs text → All (IsValue e) vs → At r (text ++ more) → ReadsValues e (length vs) vs r more
values_back e [] text more r (no_more blanks each) good at = record { now = r; read = refl; blanks = blanks; each = each; at = at }
values_back e (v ∷ vs) text more r (one_more blanks _ _ rest _ each begins s is) good at =
    let word = word_for e v (good 0 v (omega arith)) in
    let here : text ++ more ≡ blanks ++ (signed_decimal v ++ (rest ++ more)) =
    ap (λ (l : List ℕ). l ++ more) is ∙ append_assoc blanks (signed_decimal v ++ rest) more ∙ ap (λ (l : List ℕ). blanks ++ l) (append_assoc (signed_decimal v) rest more) in
    let one = reads_word r blanks (signed_decimal v) (rest ++ more) (record { is = at.is ∙ here; fits = at.fits }) each word.some word.each (begins_more rest more begins) in
    let rest_back = values_back e vs rest more one.now s (All-tail (IsValue e) v vs good) one.at in
    record {
      now = rest_back.now;
      read = then_values e (length vs) v vs r one.now rest_back.now (one_value e r one.now one.place v (signed_decimal v) one.read word.value) rest_back.read;
      blanks = rest_back.blanks;
      each = rest_back.each;
      at = rest_back.at;
    }

-- ---- heads

same_itself : (word : List ℕ) → same_text word word ≡ true
same_itself [] = refl
same_itself (b ∷ bs) = let e : (b == b) ≡ true = grind (arith, nat_tests) in rw e (same_itself bs)

one_same : (text : List ℕ) (code : InputCode) (r now : Rest) (place : Place) → next_word r ≡ Ok (record { place = place; bytes = text; rest = now }) → next_same text code r ≡ Ok (tt, now)
one_same text code r now place read =
    ap (λ (q : Result Word Fault). q >>= λ w. with_place w (same_of text code w.bytes)) read
    ∙ ap (λ (v : Bool). with_place (record { place = place; bytes = text; rest = now }) (cond v (Ok tt) (Err code))) (same_itself text)

one_array : (first : Bool) (r now : Rest) (place : Place) → next_word r ≡ Ok (record { place = place; bytes = array_word; rest = now }) → next_array first r ≡ Ok (tt, now)
one_array first r now place read = ap (λ (q : Result Word Fault). q >>= λ w. with_place w (array_of first w.bytes)) read

elem_some : (e : Elem) → (0 < length (elem_word e)) × AreIn false (elem_word e)
elem_some Byte = (omega arith, (refl, (refl, (refl, (refl, tt)))))
elem_some Int = (omega arith, (refl, (refl, (refl, tt))))
elem_some Long = (omega arith, (refl, (refl, (refl, (refl, tt)))))

extent_each : (n : ℕ) → n < 2 ^ 64 → AreIn false (extent_text n)
extent_each n small =
    let all : all_digits (decimal n) ≡ true = digits_decimal numerals n small in
    are_in_both false (codes "[" ++ decimal n) (codes "]") (are_in_both false (codes "[") (decimal n) (refl, tt) (digits_no_blank (decimal n) all)) (refl, tt)

shape_each : (extents : List ℕ) → All (λ n. n < 2 ^ 32) extents → AreIn false (shape_text extents)
shape_each [] small = tt
shape_each (n ∷ ns) small =
    let one : n < 2 ^ 32 = small 0 n (omega arith) in
    are_in_both false (extent_text n) (shape_text ns) (extent_each n (omega arith)) (shape_each ns (All-tail (λ n. n < 2 ^ 32) n ns small))

shape_some : (extents : List ℕ) → 0 < length extents → 0 < length (shape_text extents)
shape_some [] some = absurd (omega arith)
shape_some (n ∷ ns) some = omega arith

head_parts : (a b c d e f g h more : List ℕ) → (a ++ b ++ c ++ d ++ e ++ f ++ g ++ h) ++ more ≡ a ++ (b ++ (c ++ (d ++ (e ++ (f ++ (g ++ (h ++ more)))))))
head_parts a b c d e f g h more =
    append_assoc (a ++ b ++ c ++ d ++ e ++ f ++ g) h more
    ∙ append_assoc (a ++ b ++ c ++ d ++ e ++ f) g (h ++ more)
    ∙ append_assoc (a ++ b ++ c ++ d ++ e) f (g ++ (h ++ more))
    ∙ append_assoc (a ++ b ++ c ++ d) e (f ++ (g ++ (h ++ more)))
    ∙ append_assoc (a ++ b ++ c) d (e ++ (f ++ (g ++ (h ++ more))))
    ∙ append_assoc (a ++ b) c (d ++ (e ++ (f ++ (g ++ (h ++ more)))))
    ∙ append_assoc a b (c ++ (d ++ (e ++ (f ++ (g ++ (h ++ more))))))

four : (first : Bool) (w : Wanted) (r a b c d : Rest) → next_array first r ≡ Ok (tt, a) → next_same w.name Name a ≡ Ok (tt, b) → next_same (elem_word w.elem) Shape b ≡ Ok (tt, c) → next_same (shape_text w.extents) Shape c ≡ Ok (tt, d)
    → head_of first w r ≡ Ok (tt, d)
four first w r a b c d one two three last =
    ap (λ (q : Result (Unit {0} × Rest) Fault). q >>= λ x. (next_same w.name Name x.1 >>= λ y. (next_same (elem_word w.elem) Shape y.1 >>= λ z. next_same (shape_text w.extents) Shape z.1))) one
    ∙ ap (λ (q : Result (Unit {0} × Rest) Fault). q >>= λ y. (next_same (elem_word w.elem) Shape y.1 >>= λ z. next_same (shape_text w.extents) Shape z.1)) two
    ∙ ap (λ (q : Result (Unit {0} × Rest) Fault). q >>= λ z. next_same (shape_text w.extents) Shape z.1) three
    ∙ last

-- the head is next, and then this text
record ReadsHead (first : Bool) (w : Wanted) (r : Rest) (text : List ℕ) : Type 0 where
  pub now : Rest
  pub read : head_of first w r ≡ Ok (tt, now)
  pub at : At now text

head_back : (first : Bool) (w : Wanted) (r : Rest) (blanks more : List ℕ) → HasHead w → AreIn true blanks → At r (blanks ++ (head_text w ++ more)) → ReadsHead first w r (codes "\n" ++ more)
head_back first w r blanks more good each at =
    let end : List ℕ = codes "\n" ++ more in
    let shape : List ℕ = shape_text w.extents ++ end in
    let elem : List ℕ = elem_word w.elem ++ (codes " " ++ shape) in
    let name : List ℕ = w.name ++ (codes " " ++ elem) in
    let parts : head_text w ++ more ≡ array_word ++ (codes " " ++ name) = head_parts array_word (codes " ") w.name (codes " ") (elem_word w.elem) (codes " ") (shape_text w.extents) (codes "\n") more in
    let a = reads_word r blanks array_word (codes " " ++ name) (record { is = at.is ∙ ap (λ (l : List ℕ). blanks ++ l) parts; fits = at.fits }) each (omega arith) (refl, (refl, (refl, (refl, (refl, tt))))) refl in
    let b = reads_word a.now (codes " ") w.name (codes " " ++ elem) a.at (refl, tt) good.name_some good.name_word refl in
    let c = reads_word b.now (codes " ") (elem_word w.elem) (codes " " ++ shape) b.at (refl, tt) (elem_some w.elem).0 (elem_some w.elem).1 refl in
    let d = reads_word c.now (codes " ") (shape_text w.extents) end c.at (refl, tt) (shape_some w.extents good.extents_some) (shape_each w.extents good.extents_small) refl in
    record {
      now = d.now;
      read = four first w r a.now b.now c.now d.now (one_array first r a.now a.place a.read) (one_same w.name Name a.now b.now b.place b.read) (one_same (elem_word w.elem) Shape b.now c.now c.place c.read)
          (one_same (shape_text w.extents) Shape c.now d.now d.place d.read);
      at = d.at;
    }

-- ---- arrays

-- the array is next, and then blanks before this text
record ReadsArray (first : Bool) (w : Wanted) (vs : List ℤ) (r : Rest) (more : List ℕ) : Type 0 where
  pub now : Rest
  pub read : array_of_text first w r ≡ Ok (vs, now)
  pub blanks : List ℕ
  pub each : AreIn true blanks
  pub at : At now (blanks ++ more)

array_back : (first : Bool) (w : Wanted) (vs : List ℤ) (r : Rest) (blanks more : List ℕ) → HasHead w → AreValuesOf w vs → AreIn true blanks → At r (blanks ++ (array_text w vs ++ more)) → ReadsArray first w vs r more
unfolding array_text
array_back first w vs r blanks more good values each at =
    let rows : List ℕ = rows_text (rows_of w.extents) (last_of w.extents) vs in
    let here : blanks ++ ((head_text w ++ rows) ++ more) ≡ blanks ++ (head_text w ++ (rows ++ more)) = ap (λ (l : List ℕ). blanks ++ l) (append_assoc (head_text w) rows more) in
    let head = head_back first w r blanks (rows ++ more) good each (record { is = at.is ∙ here; fits = at.fits }) in
    let spaced = blanks_before (codes "\n") vs rows (refl, tt) (rows_spaced (rows_of w.extents) (last_of w.extents) vs (values.count ∙ product-rows w.extents)) in
    let back = values_back w.elem vs (codes "\n" ++ rows) more head.now spaced values.each head.at in
    record {
      now = back.now;
      read = ap (λ (q : Result (Unit {0} × Rest) Fault). q >>= λ h. next_values (product w.extents) w.elem h.1) head.read
          ∙ ap (λ (n : ℕ). next_values n w.elem head.now) (sym values.count) ∙ back.read;
      blanks = back.blanks;
      each = back.each;
      at = back.at;
    }

end_back : (r : Rest) (blanks : List ℕ) → AreIn true blanks → At r (blanks ++ []) → finished r ≡ Ok tt
unfolding finished
end_back r blanks each at = ap (λ (s : Rest). finish_at s.text s) (past_is true r blanks [] at each tt)

arrays_back : (first : Bool) (last : Option (List ℕ)) (ws : List Wanted) (vss : List (List ℤ)) (r : Rest) (blanks : List ℕ) → All HasHead ws → AllZip AreValuesOf ws vss → AreIn true blanks → At r (blanks ++ arrays_text ws vss)
    → arrays_from first last ws r ≡ Ok vss
arrays_back first last [] [] r blanks good values each at = ap (λ (q : Result (Unit {0}) Fault). of_array last q (λ _. Ok [])) (end_back r blanks each at)
arrays_back first last [] (vs ∷ vss) r blanks good values each at = absurd values
arrays_back first last (w ∷ ws) [] r blanks good values each at = absurd values
arrays_back first last (w ∷ ws) (vs ∷ vss) r blanks good values each at =
    let one = array_back first w vs r blanks (arrays_text ws vss) (good 0 w (omega arith)) values.0 each at in
    ap (λ (q : Result (List ℤ × Rest) Fault). of_array (Some w.name) q (λ a. add_values a.0 (arrays_from false (Some w.name) ws a.1))) one.read
    ∙ ap (add_values vs) (arrays_back false (Some w.name) ws vss one.now one.blanks (All-tail HasHead w ws good) values.1 one.each one.at)

fits_file : (bytes : List ℕ) → is_over bytes ≡ false → (length bytes ≤ 268435456) ⊎ (268435456 < length bytes) → within bytes ≡ bytes
fits_file bytes short (inl few) = within_short bytes few
fits_file bytes short (inr many) = let e = over_yes bytes many in cc

file_cases : (n : ℕ) → (n ≤ 268435456) ⊎ (268435456 < n)
file_cases n = grind arith

pub written_back : (ws : List Wanted) (vss : List (List ℤ)) → All HasHead ws → AllZip AreValuesOf ws vss → is_over (arrays_text ws vss) ≡ false → arrays_of ws (arrays_text ws vss) ≡ Ok vss
unfolding arrays_of
written_back ws vss good values short =
    arrays_back true None ws vss (start_of (arrays_text ws vss)) [] good values tt (record { is = fits_file (arrays_text ws vss) short (file_cases (length (arrays_text ws vss))); fits = short })
