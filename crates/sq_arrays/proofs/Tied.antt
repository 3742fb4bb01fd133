-- What is kept of a word says what the word is.
use Rattle.std.proofs.Common.{◌≡◌, ℕ, ◌+◌, ◌-◌, ◌*◌, ◌<◌, ◌≤◌, Bool, true, false, cond, ◌||◌, ◌&&◌, nat_lt, ◌==◌, min, List, [], ◌∷◌, length, get_or, drop, refl, sym, ◌∙◌, ap, ◌⊎◌, inl, inr, arith, Result, Ok, Err, ℤ}
use Rattle.std.proofs.lemmas.List.{drop_more, drop_all}
use Rattle.std.proofs.lemmas.Bool.Decides.{nat_tests}
use Rattle.std.specs.List.{fold}
use Rattle.sq_arrays.specs.declared.refusal.InputCode.{InputCode}
use Rattle.sq_arrays.specs.declared.refusal.InputCode.TheVariants.{Range, Short}
use Rattle.sq_num.specs.declared.Elem.{Elem}
use Rattle.sq_num.specs.declared.Elem.TheVariants.{Byte, Int, Long}
use Rattle.sq_num.specs.Elements.{least, greatest}
use Rattle.sq_arrays.specs.declared.number.Number.{Number}
use Rattle.sq_arrays.specs.ArrayText.{same_text, array_word, is_digit, is_minus, digits_of, all_digits, some_digits, is_number, number_of, fits, signed, value_of, same_of, array_of}
use Rattle.sq_arrays.specs.declared.exact.ExactText.{ExactText}
use Rattle.sq_arrays.specs.Exact.{same_step, same_by, array_by}
use Rattle.sq_arrays.specs.Numbers.{match_step, more, number_step, no_number, value_by}

cmp_cases : (a b : ℕ) → (a < b) ⊎ (b ≤ a)
cmp_cases a b = grind arith

-- a text that didn't match so far never does
stays : (text : List ℕ) (w : List ℕ) → fold (match_step text) (length text + 1) w ≡ length text + 1
stays text [] = refl
stays text (b ∷ bs) =
    let e : match_step text (length text + 1) b ≡ length text + 1 = (let f : nat_lt (length text + 1) (length text) ≡ false = grind (arith, nat_tests) in rw f refl) in
    rw e (stays text bs)

not_matched : (text w : List ℕ) → (fold (match_step text) (length text + 1) w == length text) ≡ false
not_matched text w = rw (stays text w) (grind (arith, nat_tests))

differs : (b x : ℕ) → (x == b) ≡ false → (b == x) ≡ false
differs b x h = grind (arith, nat_tests)

agrees : (b x : ℕ) → (x == b) ≡ true → (b == x) ≡ true
agrees b x h = grind (arith, nat_tests)

-- at a byte, by what the text has there
at_byte : (text : List ℕ) (k b : ℕ) (bs : List ℕ) (v : Bool) → k < length text → (get_or text k 0 == b) ≡ v
    → ((fold (match_step text) (k + 1) bs == length text) ≡ same_text bs (drop (k + 1) text))
    → (fold (match_step text) (match_step text k b) bs == length text) ≡ same_text (b ∷ bs) (drop k text)
at_byte text k b bs true low is rest =
    let f : nat_lt k (length text) ≡ true = grind (arith, nat_tests) in
    rw (f, is, drop_more text k 0 low, agrees b (get_or text k 0) is) rest
at_byte text k b bs false low is rest =
    let f : nat_lt k (length text) ≡ true = grind (arith, nat_tests) in
    rw (f, is, drop_more text k 0 low, differs b (get_or text k 0) is) (not_matched text bs)

past_text : (text : List ℕ) (k b : ℕ) (bs : List ℕ) → length text ≤ k → (fold (match_step text) (match_step text k b) bs == length text) ≡ same_text (b ∷ bs) (drop k text)
past_text text k b bs high =
    let f : nat_lt k (length text) ≡ false = grind (arith, nat_tests) in
    rw (f, drop_all k text high) (not_matched text bs)

ends_text : (text : List ℕ) (k : ℕ) → k ≤ length text → (k == length text) ≡ same_text [] (drop k text)
ends_text text k high = elim (cmp_cases k (length text)) [ inl low ↦ rw (drop_more text k 0 low) (grind (arith, nat_tests)) | inr is ↦ rw (drop_all k text (omega arith)) (grind (arith, nat_tests)) ]

-- all of the text came, and nothing else
pub matched_is : (text w : List ℕ) (k : ℕ) → k ≤ length text → (fold (match_step text) k w == length text) ≡ same_text w (drop k text)
matched_is text [] k high = ends_text text k high
matched_is text (b ∷ bs) k high = elim (cmp_cases k (length text)) [
  | inl low ↦ at_byte text k b bs (get_or text k 0 == b) low refl (matched_is text bs (k + 1) (omega arith))
  | inr is ↦ past_text text k b bs (omega arith)
]

and_true : (a : Bool) → a ≡ (a && true)
and_true true = refl
and_true false = refl

or_false : (a : Bool) → a ≡ (a || false)
or_false true = refl
or_false false = refl

and_or : (a b c : Bool) → ((a && (b || false)) && c) ≡ (a && (b && c))
and_or true true c = refl
and_or true false c = refl
and_or false b c = refl

or_true : (a b : Bool) → ((a || true) || b) ≡ (a || true)
or_true true b = refl
or_true false b = refl

and_parts : (a b : Bool) → (a && b) ≡ true → (a ≡ true) × (b ≡ true)
and_parts true b h = (refl, h)
and_parts false b h = cc

matched_of : (n : Number) (w : List ℕ) → (fold number_step n w).matched ≡ fold (match_step array_word) n.matched w
matched_of n [] = refl
matched_of n (b ∷ bs) = matched_of (number_step n b) bs

-- behind the first byte
negative_of : (n : Number) (w : List ℕ) → n.begun ≡ true → (fold number_step n w).negative ≡ n.negative
negative_of n [] begun = refl
negative_of n (b ∷ bs) begun = negative_of (number_step n b) bs refl ∙ rw begun refl

valid_of : (n : Number) (w : List ℕ) → n.begun ≡ true → (fold number_step n w).valid ≡ (n.valid && all_digits w)
valid_of n [] begun = and_true n.valid
valid_of n (b ∷ bs) begun = valid_of (number_step n b) bs refl ∙ rw begun (and_or n.valid (is_digit b) (all_digits bs))

digits_are : (n : Number) (w : List ℕ) → all_digits w ≡ true → (fold number_step n w).digits ≡ (n.digits || some_digits w)
digits_are n [] all = or_false n.digits
digits_are n (b ∷ bs) all = let p = and_parts (is_digit b) (all_digits bs) all in digits_are (number_step n b) bs p.1 ∙ rw (p.0, p.1) (or_true n.digits (some_digits bs))

-- a number, or 10 ^ 19 where it is more
abbrev sat : ℕ → ℕ
sat n = min n 10000000000000000000

more_sat : (m d : ℕ) → d ≤ 9 → more (sat m) d ≡ sat (10 * m + d)
more_sat m d small = grind (arith, nat_tests)

digit_small : (b : ℕ) → is_digit b ≡ true → b - 48 ≤ 9
digit_small b is = grind (arith, nat_tests)

magnitude_of : (n : Number) (w : List ℕ) (m : ℕ) → all_digits w ≡ true → n.magnitude ≡ sat m → (fold number_step n w).magnitude ≡ sat (number_of m w)
magnitude_of n [] m all is = is
magnitude_of n (b ∷ bs) m all is =
    let p = and_parts (is_digit b) (all_digits bs) all in
    magnitude_of (number_step n b) bs (10 * m + (b - 48)) p.1 (rw (p.0, is) (more_sat m (b - 48) (digit_small b p.0)))

and_false : (a : Bool) → (a && false) ≡ false
and_false true = refl
and_false false = refl

minus_case : (sd sv d u s : Bool) → d ≡ false → (u ≡ true → sd ≡ (d || s)) → (u ≡ false → s ≡ false) → sv ≡ ((d || true) && u) → (sd && sv) ≡ s
minus_case sd sv d true s nope some none val = rw (some refl, val, nope) (sym (and_true s))
minus_case sd sv d false s nope some none val = rw (val, none refl, nope) (and_false sd)

plain_case : (sd sv d u s : Bool) → (u ≡ true → sd ≡ (d || s)) → sv ≡ ((d || false) && u) → (sd && sv) ≡ (d && u)
plain_case sd sv true true s some val = rw (some refl, val) refl
plain_case sd sv true false s some val = rw val (and_false sd)
plain_case sd sv false u s some val = rw val (and_false sd)

no_digits : (w : List ℕ) → all_digits w ≡ false → some_digits w ≡ false
no_digits [] h = cc
no_digits (b ∷ bs) h = h

minus_no_digit : (b : ℕ) → (b == 45) ≡ true → is_digit b ≡ false
minus_no_digit b h = grind (arith, nat_tests)

-- whether a word is a number
number_is : (b : ℕ) (bs : List ℕ) (v : Bool) → (b == 45) ≡ v
    → ((fold number_step (number_step no_number b) bs).digits && (fold number_step (number_step no_number b) bs).valid) ≡ is_number (b ∷ bs)
number_is b bs true is =
    minus_case _ _ (is_digit b) (all_digits bs) (some_digits bs) (minus_no_digit b is) (digits_are (number_step no_number b) bs) (no_digits bs)
    (valid_of (number_step no_number b) bs refl ∙ ap (λ (v : Bool). (is_digit b || v) && all_digits bs) is)
    ∙ sym (ap (λ (v : Bool). some_digits (cond v bs (b ∷ bs))) is)
number_is b bs false is =
    plain_case _ _ (is_digit b) (all_digits bs) (some_digits bs) (digits_are (number_step no_number b) bs)
    (valid_of (number_step no_number b) bs refl ∙ ap (λ (v : Bool). (is_digit b || v) && all_digits bs) is)
    ∙ sym (ap (λ (v : Bool). some_digits (cond v bs (b ∷ bs))) is)

some_all : (w : List ℕ) → some_digits w ≡ true → all_digits w ≡ true
some_all [] h = refl
some_all (b ∷ bs) h = h

-- its size
size_is : (b : ℕ) (bs : List ℕ) (v : Bool) → (b == 45) ≡ v → is_number (b ∷ bs) ≡ true
    → (fold number_step (number_step no_number b) bs).magnitude ≡ sat (number_of 0 (digits_of (b ∷ bs)))
size_is b bs true is number =
    let all : some_digits bs ≡ true = sym (ap (λ (v : Bool). some_digits (cond v bs (b ∷ bs))) is) ∙ number in
    magnitude_of (number_step no_number b) bs 0 (some_all bs all) (rw (minus_no_digit b is) refl)
    ∙ sym (ap (λ (v : Bool). sat (number_of 0 (cond v bs (b ∷ bs)))) is)
size_is b bs false is number =
    let all : all_digits (b ∷ bs) ≡ true = sym (ap (λ (v : Bool). some_digits (cond v bs (b ∷ bs))) is) ∙ number in
    let p = and_parts (is_digit b) (all_digits bs) all in
    magnitude_of (number_step no_number b) bs (10 * 0 + (b - 48)) p.1 (rw p.0 (more_sat 0 (b - 48) (digit_small b p.0)))
    ∙ sym (ap (λ (v : Bool). sat (number_of 0 (cond v bs (b ∷ bs)))) is)

fits_sat : (e : Elem) (minus : Bool) (n : ℕ) → fits e minus (sat n) ≡ fits e minus n
unfolding least greatest
fits_sat Byte true n = grind (arith, nat_tests)
fits_sat Byte false n = grind (arith, nat_tests)
fits_sat Int true n = grind (arith, nat_tests)
fits_sat Int false n = grind (arith, nat_tests)
fits_sat Long true n = grind (arith, nat_tests)
fits_sat Long false n = grind (arith, nat_tests)

exact : (e : Elem) (minus : Bool) (n : ℕ) → fits e minus n ≡ true → sat n ≡ n
unfolding least greatest
exact Byte true n h = grind (arith, nat_tests)
exact Byte false n h = grind (arith, nat_tests)
exact Int true n h = grind (arith, nat_tests)
exact Int false n h = grind (arith, nat_tests)
exact Long true n h = grind (arith, nat_tests)
exact Long false n h = grind (arith, nat_tests)

ranged : (e : Elem) (minus : Bool) (n : ℕ) (v : Bool) → fits e minus n ≡ v
    → (let r : Result ℤ InputCode = cond (fits e minus (sat n)) (Ok (signed minus (sat n))) (Err Range) in r) ≡ cond (fits e minus n) (Ok (signed minus n)) (Err Range)
ranged e minus n true h = rw (fits_sat e minus n, h) (ap (λ (k : ℕ). Ok (signed minus k)) (exact e minus n h))
ranged e minus n false h = rw (fits_sat e minus n, h) refl

by_parts : (e : Elem) (w : List ℕ) (s : Number) (v : Bool) → (s.matched == 5) ≡ same_text w array_word → (s.digits && s.valid) ≡ is_number w → is_number w ≡ v
    → s.negative ≡ is_minus w → (is_number w ≡ true → s.magnitude ≡ sat (number_of 0 (digits_of w))) → value_by e s ≡ value_of e w
unfolding value_of
by_parts e w s true matched number is minus size =
    rw (matched, number, is, minus, size is) (ap (λ (r : Result ℤ InputCode). cond (same_text w array_word) (Err Short) r) (ranged e (is_minus w) (number_of 0 (digits_of w)) (fits e (is_minus w) (number_of 0 (digits_of w))) refl))
by_parts e w s false matched number is minus size = rw (matched, number, is) refl

-- what is kept of a word says what the word is
pub value_tied : (e : Elem) (w : List ℕ) → value_by e (fold number_step no_number w) ≡ value_of e w
value_tied e [] = by_parts e [] no_number false refl refl refl refl (λ h. cc)
value_tied e (b ∷ bs) = by_parts e (b ∷ bs) (fold number_step (number_step no_number b) bs) (is_number (b ∷ bs))
    (ap (λ (k : ℕ). k == 5) (matched_of no_number (b ∷ bs)) ∙ matched_is array_word (b ∷ bs) 0 (omega arith)) (number_is b bs (b == 45) refl) refl
    (negative_of (number_step no_number b) bs refl) (size_is b bs (b == 45) refl)

number_tied : (w : List ℕ) → ((fold number_step no_number w).digits && (fold number_step no_number w).valid) ≡ is_number w
number_tied [] = refl
number_tied (b ∷ bs) = number_is b bs (b == 45) refl

-- and so in place of the word `array`
pub array_tied : (first : Bool) (w : List ℕ) → array_by first (fold number_step no_number w) ≡ array_of first w
array_tied first w = rw (ap (λ (k : ℕ). k == 5) (matched_of no_number w) ∙ matched_is array_word w 0 (omega arith), number_tied w) refl

same_matched : (s : ExactText) (w : List ℕ) → (fold same_step s w).matched ≡ fold (match_step s.text.now) s.matched w
same_matched s [] = refl
same_matched s (b ∷ bs) = same_matched (same_step s b) bs

same_kept : (s : ExactText) (w : List ℕ) → (fold same_step s w).text ≡ s.text
same_kept s [] = refl
same_kept s (b ∷ bs) = same_kept (same_step s b) bs

-- and of a word that has to be one text
pub same_tied : (code : InputCode) (s : ExactText) (w : List ℕ) → s.matched ≡ 0 → same_by code (fold same_step s w) ≡ same_of s.text.now code w
same_tied code s w is =
    let m : ((fold same_step s w).matched == length s.text.now) ≡ same_text w s.text.now = ap (λ (k : ℕ). k == length s.text.now) (same_matched s w ∙ ap (λ (k : ℕ). fold (match_step s.text.now) k w) is) ∙ matched_is s.text.now w 0 (omega arith) in
    rw (same_kept s w, m) refl
