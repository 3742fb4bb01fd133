-- What was put so far.
use Rattle.std.proofs.Common.{◌≡◌, ℕ, suc, ◌+◌, ◌-◌, ◌*◌, ◌<◌, ◌≤◌, Bool, true, false, cond, eqb, List, [], ◌∷◌, ◌++◌, Option, refl, sym, ◌∙◌, ap, subst, append_assoc, Result, codes, take, drop, ℤ, arith}
use Rattle.std.proofs.Math.Nat.{add-mul, one-mul, zero-mul}
use Rattle.std.proofs.lemmas.List.{drop-drop}
use Rattle.std.specs.Fmt.{signed_decimal}
use Rattle.sq_port.specs.declared.sink.Failed.{Failed}
use Rattle.sq_port.specs.Ports.{Wrote}
use Rattle.sq_port.specs.Lines.{Gathered, Gathers}
use Rattle.sq_num.specs.declared.Elem.{Elem}
use Rattle.sq_num.specs.Elements.{width, value, values_in}
use Rattle.sq_arrays.specs.ArrayText.{array_word}
use Rattle.sq_arrays.specs.Written.{row_from, row_text}

pub wrote_same : {start now : Option (List ℕ)} {faults now_faults : ℕ} {text other : List ℕ} {so_far : Result (Unit {0}) Failed} → text ≡ other → Wrote start now faults now_faults text so_far → Wrote start now faults now_faults other so_far
wrote_same {start = start} {now = now} {faults = faults} {now_faults = now_faults} {so_far = so_far} same wrote = subst (λ (l : List ℕ). Wrote start now faults now_faults l so_far) same wrote

pub head_given : (text a b s name elem shape : List ℕ) → a ≡ name → b ≡ elem → s ≡ shape
    → (((((((text ++ codes "array ") ++ a) ++ codes " ") ++ b) ++ codes " ") ++ s) ++ codes "\n") ≡ text ++ (array_word ++ codes " " ++ name ++ codes " " ++ elem ++ codes " " ++ shape ++ codes "\n")
head_given text a b s name elem shape p q r = rw (p, q, r) (simp append_assoc)

one_more : (i w : ℕ) → (i + 1) * w ≡ i * w + w
one_more i w = add-mul i 1 w ∙ ap (λ (k : ℕ). i * w + k) (one-mul w)

not_first : (i : ℕ) → eqb (i + 1) 0 ≡ false
not_first i = grind arith

-- one number more of a row
pub row_step : (e : Elem) (n m i : ℕ) (row : List ℕ) → m ≡ suc n → row_from (eqb i 0) (values_in e m (drop (i * width e) row))
    ≡ (cond (eqb i 0) [] (32 ∷ []) ++ signed_decimal (value e (take (width e) (drop (i * width e) row)))) ++ row_from (eqb (i + 1) 0) (values_in e n (drop ((i + 1) * width e) row))
row_step e n m i row is =
    let w = width e in
    let first : List ℕ = cond (eqb i 0) [] (32 ∷ []) ++ signed_decimal (value e (take w (drop (i * w) row))) in
    let d : drop w (drop (i * w) row) ≡ drop ((i + 1) * w) row = drop-drop w (i * w) row ∙ ap (λ (k : ℕ). drop k row) (sym (one_more i w)) in
    ap (λ (k : ℕ). row_from (eqb i 0) (values_in e k (drop (i * w) row))) is
    ∙ ap (λ (l : List ℕ). first ++ row_from false (values_in e n l)) d
    ∙ ap (λ (b : Bool). first ++ row_from b (values_in e n (drop ((i + 1) * w) row))) (sym (not_first i))

pub row_begin : (e : Elem) (last : ℕ) (row text : List ℕ) → text ++ row_from true (values_in e (last - 0) (drop (0 * width e) row)) ≡ text ++ row_text (values_in e last row)
row_begin e last row text =
    let a : last - 0 ≡ last = omega arith in
    let b : 0 * width e ≡ 0 = zero-mul (width e) in
    rw (a, b) refl

pub row_more : (e : Elem) (last i : ℕ) (row front text : List ℕ) (v : ℤ) → i < last → v ≡ value e (take (width e) (drop (i * width e) row))
    → front ++ row_from (eqb i 0) (values_in e (last - i) (drop (i * width e) row)) ≡ text
    → ((front ++ cond (eqb i 0) [] (32 ∷ [])) ++ signed_decimal v) ++ row_from (eqb (i + 1) 0) (values_in e (last - (i + 1)) (drop ((i + 1) * width e) row)) ≡ text
row_more e last i row front text v h is so_far =
    let n : last - i ≡ suc (last - (i + 1)) = omega arith in
    let space : List ℕ = cond (eqb i 0) [] (32 ∷ []) in
    let rest : List ℕ = row_from (eqb (i + 1) 0) (values_in e (last - (i + 1)) (drop ((i + 1) * width e) row)) in
    append_assoc (front ++ space) (signed_decimal v) rest ∙ append_assoc front space (signed_decimal v ++ rest) ∙ ap (λ (l : List ℕ). front ++ l) (sym (append_assoc space (signed_decimal v) rest))
    ∙ ap (λ (z : ℤ). front ++ ((space ++ signed_decimal z) ++ rest)) is
    ∙ ap (λ (l : List ℕ). front ++ l) (sym (row_step e (last - (i + 1)) (last - i) i row n)) ∙ so_far

pub row_end : (e : Elem) (last i : ℕ) (row front text : List ℕ) → last ≤ i
    → front ++ row_from (eqb i 0) (values_in e (last - i) (drop (i * width e) row)) ≡ text → front ++ 10 ∷ [] ≡ text
row_end e last i row front text h so_far =
    let n : 0 ≡ last - i = omega arith in
    ap (λ (k : ℕ). front ++ row_from (eqb i 0) (values_in e k (drop (i * width e) row))) n ∙ so_far

-- the bytes of one number of a row
pub cell_value : (e : Elem) (s i : ℕ) (row : List ℕ) → s ≡ width e → value e (take (i * s + s - i * s) (drop (i * s) row)) ≡ value e (take (width e) (drop (i * width e) row))
cell_value e s i row is =
    let n : i * s + s - i * s ≡ s = omega arith in
    ap (λ (k : ℕ). value e (take k (drop (i * s) row))) n ∙ ap (λ (k : ℕ). value e (take k (drop (i * k) row))) is

pub gathers_same : {start now : Option (List ℕ)} {faults now_faults : ℕ} {text other : List ℕ} {line : Gathered} → text ≡ other
    → Gathers start now faults now_faults text line → Gathers start now faults now_faults other line
gathers_same same told = record { front = told.front; split = sym same ∙ told.split; wrote = told.wrote }
