-- The demo's data is the text of its arrays.
use Rattle.std.proofs.Common.{◌≡◌, ℕ, zero, suc, ◌+◌, ◌*◌, ◌<◌, ◌≤◌, ◌^◌, ℤ, pos, negsuc, Bool, true, false, cond, List, [], ◌∷◌, ◌++◌, codes, length, take, drop, replicate, Ok, refl, sym, ◌∙◌, ap, subst, arith, inl, inr, append_assoc, append-nil, length-append}
use Rattle.std.proofs.lemmas.Int.{ints}
use Rattle.std.specs.Fmt.{signed_decimal, digits}
use Rattle.std.specs.List.{All}
use Rattle.std.proofs.lemmas.List.Elements.{All-cons, All-nil}
use Rattle.std.proofs.lemmas.List.{take-append-drop}
use Rattle.std.proofs.lemmas.Fmt.{length_signed_le}
use Rattle.std.proofs.lemmas.Bool.Decides.{leb_tells}
use Rattle.sq_num.specs.declared.Elem.TheVariants.{Int}
use Rattle.sq_num.specs.Elements.{values_in, value, IsValue, least, greatest}
use Rattle.sq_num.proofs.Cutting.{value-fits}
use Rattle.sq_rect.specs.Extents.{product}
use Rattle.sq_arrays.specs.Arrays.{AreValuesOf, arrays_of}
use Rattle.sq_arrays.specs.Window.{AreIn}
use Rattle.sq_arrays.specs.Words.{is_over}
use Rattle.sq_arrays.specs.Written.{row_from, rows_text, head_text, array_text, arrays_text, HasHead}
use Rattle.sq_demo.specs.Report.Demo.{demo_first, demo_second, demo_elements}
use Rattle.sq_demo.specs.Data.{demo_data, matrix_of, matrix_text}
use Rattle.sq_demo_laws.specs.Laws.{demo_wants, demo_values, matrix_values, DataIsRead}
use Rattle.sq_demo_laws.proofs.Given.{WrittenReadBack}

-- ---- values

short_number : (v : ℤ) → IsValue Int v → length (signed_decimal v) ≤ 11
unfolding least greatest
short_number (pos n) h = length_signed_le 10 (pos n) (omega (arith, ints, h.high)) (omega (arith, ints, h.high))
short_number (negsuc n) h = length_signed_le 10 (negsuc n) (omega (arith, ints, h.low)) (omega (arith, ints, h.low))

abbrev AllShort : List ℤ → Type 0
AllShort [] = Unit {0}
AllShort (v ∷ vs) = (length (signed_decimal v) ≤ 11) × AllShort vs

count : (n : ℕ) (bytes : List ℕ) → length (values_in Int n bytes) ≡ n
count zero bytes = refl
count (suc n) bytes = ap suc (count n (drop 4 bytes))

short_values : (n : ℕ) (bytes : List ℕ) → AllShort (values_in Int n bytes)
short_values zero bytes = tt
short_values (suc n) bytes =
    (short_number (value Int (take 4 bytes)) (value-fits Int (take 4 bytes)), short_values n (drop 4 bytes))

in_type : (n : ℕ) (bytes : List ℕ) → All (IsValue Int) (values_in Int n bytes)
in_type zero bytes = All-nil (IsValue Int)
in_type (suc n) bytes =
    All-cons (IsValue Int) (value Int (take 4 bytes)) (values_in Int n (drop 4 bytes)) (value-fits Int (take 4 bytes))
    (in_type n (drop 4 bytes))

-- ---- the length of the text

short_take : (k : ℕ) (vs : List ℤ) → AllShort vs → AllShort (take k vs)
short_take zero vs h = tt
short_take (suc k) [] h = tt
short_take (suc k) (v ∷ vs) h = (h.0, short_take k vs h.1)

short_drop : (k : ℕ) (vs : List ℤ) → AllShort vs → AllShort (drop k vs)
short_drop zero vs h = h
short_drop (suc k) [] h = tt
short_drop (suc k) (v ∷ vs) h = short_drop k vs h.1

gap_short : (first : Bool) → length (cond first [] (codes " ")) ≤ 1
gap_short true = omega arith
gap_short false = omega arith

row_short : (first : Bool) (vs : List ℤ) → AllShort vs → length (row_from first vs) ≤ 12 * length vs + 1
row_short first [] h = omega arith
row_short first (v ∷ vs) h =
    let gap = gap_short first in
    let more = row_short false vs h.1 in
    let one : length (signed_decimal v) ≤ 11 = h.0 in
    let inner = length-append (signed_decimal v) (row_from false vs) in
    let outer = length-append (cond first [] (codes " ")) (signed_decimal v ++ row_from false vs) in
    let assoc : length ((cond first [] (codes " ") ++ signed_decimal v) ++ row_from false vs) ≡ length
    (cond first [] (codes " ") ++ (signed_decimal v ++ row_from false vs)) =
    ap length (append_assoc (cond first [] (codes " ")) (signed_decimal v) (row_from false vs)) in
    omega (arith, gap, more, one, inner, outer, assoc)

rows_short : (n last : ℕ) (vs : List ℤ) → AllShort vs → length (rows_text n last vs) ≤ 12 * length vs + n
rows_short zero last vs h = omega arith
rows_short (suc n) last vs h =
    let first = row_short true (take last vs) (short_take last vs h) in
    let more = rows_short n last (drop last vs) (short_drop last vs h) in
    let whole = length-append (row_from true (take last vs)) (rows_text n last (drop last vs)) in
    let parts : length (take last vs) + length (drop last vs) ≡ length vs =
    sym (length-append (take last vs) (drop last vs)) ∙ ap length (take-append-drop last vs) in
    omega (arith, first, more, whole, parts)

short_heads : (length (head_text (matrix_of (codes "A"))) ≡ 23) × (length (head_text (matrix_of (codes "B"))) ≡ 23)
    × (length (head_text (matrix_of (codes "C"))) ≡ 23)
unfolding digits
short_heads = (refl, refl, refl)

module _ (name : List ℕ) (head : length (head_text (matrix_of name)) ≡ 23) where
  array_short : (vs : List ℤ) → AllShort vs → length vs ≡ 16384 → length (array_text (matrix_of name) vs) ≤ 200000
  unfolding array_text
  array_short vs h n =
      let rows = rows_short 128 128 vs h in
      let whole = length-append (head_text (matrix_of name)) (rows_text 128 128 vs) in
      omega (arith, head, rows, whole, n)

-- ---- the file

joined : (a b c : List ℕ) → (a ++ b) ++ c ≡ a ++ (b ++ (c ++ []))
joined a b c = append_assoc a b c ∙ ap (λ d. a ++ (b ++ d)) (sym (append-nil c))

length_of : (a b c : List ℕ) → length (a ++ (b ++ (c ++ []))) ≡ length a + (length b + length c)
length_of a b c =
    length-append a (b ++ (c ++ []))
    ∙ ap (λ n. length a + n) (length-append b (c ++ []) ∙ ap (λ d. length b + length d) (append-nil c))

not_over : (text : List ℕ) → length text ≤ 600000 → is_over text ≡ false
unfolding is_over
not_over text h = elim (leb_tells 268435457 (length text)) [ inl t ↦ absurd (omega (arith, h, t.1)) | inr t ↦ t.0 ]

has_head : (name : List ℕ) → 0 < length name → AreIn false name → HasHead (matrix_of name)
has_head name some word = record {
  name_some = some;
  name_word = word;
  extents_some = omega arith;
  extents_small = All-cons (λ n. n < 2 ^ 32) 128 (128 ∷ []) (omega arith)
      (All-cons (λ n. n < 2 ^ 32) 128 [] (omega arith) (All-nil (λ n. n < 2 ^ 32)));
}

have_heads : All HasHead demo_wants
have_heads =
    All-cons HasHead (matrix_of (codes "A")) (matrix_of (codes "B") ∷ matrix_of (codes "C") ∷ [])
    (has_head (codes "A") (omega arith) (refl, tt))
    (All-cons HasHead (matrix_of (codes "B")) (matrix_of (codes "C") ∷ [])
    (has_head (codes "B") (omega arith) (refl, tt))
    (All-cons HasHead (matrix_of (codes "C")) [] (has_head (codes "C") (omega arith) (refl, tt)) (All-nil HasHead)))

-- the values of an array of 128 by 128
record Values (vs : List ℤ) : Type 0 where
  short : AllShort vs
  few : length vs ≡ 16384
  all : All (IsValue Int) vs

its_values : (bytes : List ℕ) → Values (matrix_values bytes)
its_values bytes = record {
  short = short_values (product (128 ∷ 128 ∷ [])) bytes;
  few = count (product (128 ∷ 128 ∷ [])) bytes;
  all = in_type (product (128 ∷ 128 ∷ [])) bytes;
}

are_values : (name : List ℕ) (vs : List ℤ) → Values vs → AreValuesOf (matrix_of name) vs
are_values name vs v = record { count = v.few; each = v.all }

read_back : WrittenReadBack → (u v w : List ℤ) → Values u → Values v → Values w
    → arrays_of demo_wants (arrays_text demo_wants (u ∷ v ∷ w ∷ [])) ≡ Ok (u ∷ v ∷ w ∷ [])
read_back back u v w a b c =
    let first = array_short (codes "A") short_heads.0 u a.short a.few in
    let second = array_short (codes "B") short_heads.1 v b.short b.few in
    let third = array_short (codes "C") short_heads.2 w c.short c.few in
    let whole = length_of (array_text (matrix_of (codes "A")) u) (array_text (matrix_of (codes "B")) v)
    (array_text (matrix_of (codes "C")) w) in
    back demo_wants (u ∷ v ∷ w ∷ []) have_heads
    (are_values (codes "A") u a, (are_values (codes "B") v b, (are_values (codes "C") w c, tt)))
    (not_over (arrays_text demo_wants (u ∷ v ∷ w ∷ [])) (omega (arith, first, second, third, whole)))

text_is : (seed : ℕ) → demo_data seed ≡ arrays_text demo_wants (demo_values seed)
unfolding demo_data matrix_text
text_is seed =
    joined (array_text (matrix_of (codes "A")) (matrix_values (demo_first seed)))
    (array_text (matrix_of (codes "B")) (matrix_values (demo_second seed)))
    (array_text (matrix_of (codes "C")) (matrix_values (replicate (demo_elements * 4) 0)))

pub data_is_read : WrittenReadBack → DataIsRead
data_is_read back seed =
    subst (λ text. arrays_of demo_wants text ≡ Ok (demo_values seed)) (sym (text_is seed))
    (read_back back (matrix_values (demo_first seed)) (matrix_values (demo_second seed))
    (matrix_values (replicate (demo_elements * 4) 0))
    (its_values (demo_first seed)) (its_values (demo_second seed)) (its_values (replicate (demo_elements * 4) 0)))
