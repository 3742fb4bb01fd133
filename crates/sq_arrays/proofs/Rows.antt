-- Rows of values.
use Rattle.std.proofs.Common.{◌≡◌, ℕ, zero, suc, ◌+◌, ◌-◌, ◌*◌, ◌<◌, ◌≤◌, List, ◌∷◌, ◌++◌, refl, sym, ◌∙◌, ap, append_assoc, take, drop, length, length-drop, ℤ, arith}
use Rattle.std.proofs.Math.Nat.{suc-mul, zero-mul}
use Rattle.std.proofs.lemmas.List.{drop-drop, take-take, drop-take, take_all, append-nil}
use Rattle.sq_num.specs.declared.Elem.{Elem}
use Rattle.sq_num.specs.Elements.{width, value, values_in}
use Rattle.sq_arrays.specs.Written.{row_text, rows_text}

-- the first values of some are those of the first bytes, and the others those of the other bytes
pub take-values_in : (e : Elem) (n k : ℕ) (bytes : List ℕ) → take n (values_in e (n + k) bytes) ≡ values_in e n (take (n * width e) bytes)
take-values_in e zero k bytes = refl
take-values_in e (suc n) k bytes =
    let m : suc n + k ≡ suc (n + k) = omega arith in
    let w : suc n * width e ≡ width e + n * width e = suc-mul n (width e) ∙ omega arith in
    ap (λ (j : ℕ). take (suc n) (values_in e j bytes)) m
    ∙ ap (λ (l : List ℤ). value e (take (width e) bytes) ∷ l) (take-values_in e n k (drop (width e) bytes))
    ∙ sym (ap (λ (j : ℕ). values_in e (suc n) (take j bytes)) w
    ∙ ap (λ (l : List ℕ). value e l ∷ values_in e n (drop (width e) (take (width e + n * width e) bytes))) (take-take (width e) (width e + n * width e) bytes (omega arith))
    ∙ ap (λ (l : List ℕ). value e (take (width e) bytes) ∷ values_in e n l) (drop-take (width e) (n * width e) bytes))

pub drop-values_in : (e : Elem) (n k : ℕ) (bytes : List ℕ) → drop n (values_in e (n + k) bytes) ≡ values_in e k (drop (n * width e) bytes)
drop-values_in e zero k bytes =
    let a : 0 + k ≡ k = omega arith in
    let b : 0 * width e ≡ 0 = zero-mul (width e) in
    rw (a, b) refl
drop-values_in e (suc n) k bytes =
    let m : suc n + k ≡ suc (n + k) = omega arith in
    let w : width e + n * width e ≡ suc n * width e = omega (arith, suc-mul n (width e)) in
    ap (λ (j : ℕ). drop (suc n) (values_in e j bytes)) m ∙ drop-values_in e n k (drop (width e) bytes)
    ∙ ap (values_in e k) (drop-drop (n * width e) (width e) bytes ∙ ap (λ (j : ℕ). drop j bytes) w)

-- one row more
pub rows_step : (e : Elem) (n last : ℕ) (bytes : List ℕ) → rows_text (suc n) last (values_in e (suc n * last) bytes)
    ≡ row_text (values_in e last (take (last * width e) bytes)) ++ rows_text n last (values_in e (n * last) (drop (last * width e) bytes))
rows_step e n last bytes =
    let m : suc n * last ≡ last + n * last = suc-mul n last ∙ omega arith in
    ap (λ (j : ℕ). rows_text (suc n) last (values_in e j bytes)) m
    ∙ ap (λ (l : List ℤ). row_text l ++ rows_text n last (drop last (values_in e (last + n * last) bytes))) (take-values_in e last (n * last) bytes)
    ∙ ap (λ (l : List ℤ). row_text (values_in e last (take (last * width e) bytes)) ++ rows_text n last l) (drop-values_in e last (n * last) bytes)

pub rest_is : (n : ℕ) (l : List ℕ) → take (length l - n) (drop n l) ≡ drop n l
rest_is n l = take_all (length l - n) (drop n l) (omega (arith, length-drop n l))

pub rows_begin : (e : Elem) (rows last : ℕ) (bytes text : List ℕ)
    → text ++ rows_text (rows - 0) last (values_in e ((rows - 0) * last) bytes) ≡ text ++ rows_text rows last (values_in e (rows * last) bytes)
rows_begin e rows last bytes text = let a : rows - 0 ≡ rows = omega arith in rw a refl

pub rows_more : (e : Elem) (rows i last size : ℕ) (rest more front text : List ℕ) → i < rows → size ≡ last * width e → more ≡ drop size rest
    → front ++ rows_text (rows - i) last (values_in e ((rows - i) * last) rest) ≡ text
    → (front ++ row_text (values_in e last (take size rest))) ++ rows_text (rows - (i + 1)) last (values_in e ((rows - (i + 1)) * last) more) ≡ text
rows_more e rows i last size rest more front text h is gone so_far =
    let n : suc (rows - (i + 1)) ≡ rows - i = omega arith in
    append_assoc front _ _
    ∙ ap (λ (l : List ℕ). front ++ (row_text (values_in e last (take size rest)) ++ rows_text (rows - (i + 1)) last (values_in e ((rows - (i + 1)) * last) l))) gone
    ∙ ap (λ (k : ℕ). front ++ (row_text (values_in e last (take k rest)) ++ rows_text (rows - (i + 1)) last (values_in e ((rows - (i + 1)) * last) (drop k rest)))) is
    ∙ ap (λ (l : List ℕ). front ++ l) (sym (rows_step e (rows - (i + 1)) last rest))
    ∙ ap (λ (k : ℕ). front ++ rows_text k last (values_in e (k * last) rest)) n ∙ so_far

pub rows_end : (e : Elem) (rows i last : ℕ) (rest front text : List ℕ) → rows ≤ i
    → front ++ rows_text (rows - i) last (values_in e ((rows - i) * last) rest) ≡ text → front ≡ text
rows_end e rows i last rest front text h so_far =
    let n : 0 ≡ rows - i = omega arith in
    sym (append-nil front) ∙ ap (λ (k : ℕ). front ++ rows_text k last (values_in e (k * last) rest)) n ∙ so_far

-- the bytes of the rows that are left
pub rows_size : (rows i size n : ℕ) → i < rows → n ≡ (rows - i) * size → n - size ≡ (rows - (i + 1)) * size
rows_size rows i size n h is =
    let k : rows - i ≡ suc (rows - (i + 1)) = omega arith in
    let e : n ≡ suc (rows - (i + 1)) * size = is ∙ ap (λ (j : ℕ). j * size) k in
    omega (arith, e, suc-mul (rows - (i + 1)) size)
