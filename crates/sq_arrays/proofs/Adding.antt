-- Values in pieces of any size.
use Rattle.std.proofs.Common.{◌≡◌, ℕ, zero, suc, ◌+◌, ◌-◌, ◌*◌, ◌/◌, ◌<◌, ◌≤◌, min, List, ◌∷◌, ◌++◌, length, take, drop, lit<, length-drop, refl, subst, sym, ◌∙◌, ap, arith, append_assoc, Result, Ok, Err, ℤ}
use Rattle.std.specs.List.{flat_map}
use Rattle.std.proofs.lemmas.Slice.{take-put_mid}
use Rattle.std.proofs.lemmas.Grind.{flat_map-append}
use borrow.Rule.Slice.PartMut.{put_mid}
use Rattle.sq_num.specs.declared.Elem.{Elem}
use Rattle.sq_num.specs.declared.Elem.TheVariants.{Byte, Int, Long}
use Rattle.sq_num.specs.Elements.{width, cell}
use Rattle.std.proofs.Math.Nat.{add-mul, mul-div_cancel}
use Rattle.std.proofs.lemmas.Nat.{mul-le}
use Rattle.std.proofs.lemmas.List.{length-take}
use Rattle.sq_arrays.specs.declared.refusal.InputEnd.{InputEnd}
use Rattle.sq_arrays.specs.declared.refusal.InputEnd.TheVariants.{Refused, Failed, Absent}
use Rattle.sq_arrays.specs.Steps.{Fails}
use Rattle.sq_arrays.specs.ArrayText.{Fault, Rest, next_value, next_values, ◌>>=◌}
use Rattle.sq_arrays.proofs.Fronts.{with_front, front_none}

-- a value in front, and values after others
abbrev pub consed : ℤ → Result (List ℤ × Rest) Fault → Result (List ℤ × Rest) Fault
consed v read = read >>= λ x. Ok (v ∷ x.0, x.1)

abbrev pub after : Result (List ℤ × Rest) Fault → (Rest → Result (List ℤ × Rest) Fault) → Result (List ℤ × Rest) Fault
after first f = first >>= λ x. with_front x.0 (f x.1)

one_more : (v : ℤ) (xs : List ℤ) (read : Result (List ℤ × Rest) Fault) → consed v (with_front xs read) ≡ with_front (v ∷ xs) read
one_more v xs (Ok y) = refl
one_more v xs (Err f) = refl

more_after : (v : ℤ) (first : Result (List ℤ × Rest) Fault) (f : Rest → Result (List ℤ × Rest) Fault) → consed v (after first f) ≡ after (consed v first) f
more_after v (Ok x) f = one_more v x.0 (f x.1)
more_after v (Err e) f = refl

after_one : (a b : ℕ) (e : Elem) (one : Result (ℤ × Rest) Fault) → ((r : Rest) → next_values (a + b) e r ≡ after (next_values a e r) (next_values b e))
    → (one >>= λ v. consed v.0 (next_values (a + b) e v.1)) ≡ after (one >>= λ v. consed v.0 (next_values a e v.1)) (next_values b e)
after_one a b e (Ok v) more = ap (consed v.0) (more v.1) ∙ more_after v.0 (next_values a e v.1) (next_values b e)
after_one a b e (Err f) more = refl

-- a + b values are a values, and then b
pub next_values-add : (a b : ℕ) (e : Elem) (r : Rest) → next_values (a + b) e r ≡ after (next_values a e r) (next_values b e)
next_values-add zero b e r = let s : 0 + b ≡ b = omega arith in ap (λ (n : ℕ). next_values n e r) s ∙ sym (front_none (next_values b e r))
next_values-add (suc a) b e r =
    let s : suc a + b ≡ suc (a + b) = omega arith in
    ap (λ (n : ℕ). next_values n e r) s ∙ after_one a b e (next_value e r) (next_values-add a b e)

front_front : (xs ys : List ℤ) (read : Result (List ℤ × Rest) Fault) → with_front xs (with_front ys read) ≡ with_front (xs ++ ys) read
front_front xs ys (Ok x) = ap (λ (l : List ℤ). Ok (l, x.1)) (sym (append_assoc xs ys x.0))
front_front xs ys (Err f) = refl

-- one piece more
pub piece_step : (e : Elem) (n k all : ℕ) (vs ws : List ℤ) (r now : Rest) → all ≡ n + k → next_values n e r ≡ Ok (ws, now)
    → with_front vs (next_values all e r) ≡ with_front (vs ++ ws) (next_values k e now)
piece_step e n k all vs ws r now size is =
    ap (λ (m : ℕ). with_front vs (next_values m e r)) size
    ∙ ap (with_front vs) (next_values-add n k e r ∙ ap (λ (q : Result (List ℤ × Rest) Fault). after q (next_values k e)) is)
    ∙ front_front vs ws (next_values k e now)

piece_err : (e : Elem) (n k all : ℕ) (vs : List ℤ) (r : Rest) (f : Fault) → all ≡ n + k → next_values n e r ≡ Err f → with_front vs (next_values all e r) ≡ Err f
piece_err e n k all vs r f size is =
    ap (λ (m : ℕ). with_front vs (next_values m e r)) size
    ∙ ap (with_front vs) (next_values-add n k e r ∙ ap (λ (q : Result (List ℤ × Rest) Fault). after q (next_values k e)) is)

-- a piece that failed
pub piece_fails : (end : InputEnd) (e : Elem) (n k all : ℕ) (vs : List ℤ) (r : Rest) (whole : Result (List ℤ × Rest) Fault) → all ≡ n + k → Fails end (next_values n e r)
    → with_front vs (next_values all e r) ≡ whole → Fails end whole
piece_fails (Refused code place) e n k all vs r whole size fails so_far = sym so_far ∙ piece_err e n k all vs r (record { code = code; place = place }) size fails
piece_fails Failed e n k all vs r whole size fails so_far = tt
piece_fails Absent e n k all vs r whole size fails so_far = tt

-- the cells of one piece more stand in the bytes
pub cells_more : (e : Elem) (vs ws : List ℤ) (done more k : ℕ) (into new : List ℕ) → done + more ≤ length into → length new ≡ more → new ≡ flat_map (cell e) ws
    → take done into ≡ flat_map (cell e) vs → take (done + more) (put_mid done k into new) ≡ flat_map (cell e) (vs ++ ws)
cells_more e vs ws done more k into new fits size is so_far =
    take-put_mid done k into new (done + more) (omega (arith, size)) (omega arith)
    ∙ ap (λ (l : List ℕ). l ++ new) so_far ∙ ap (λ (l : List ℕ). flat_map (cell e) vs ++ l) is ∙ sym (flat_map-append (cell e) vs ws)

-- ---- how many values a piece holds

width_pos : (e : Elem) → 0 < width e
width_pos Byte = lit< tt
width_pos Int = lit< tt
width_pos Long = lit< tt

pub values_of_bytes : (e : Elem) (n s all : ℕ) → s ≡ width e → n * s ≡ all → all / s ≡ n
values_of_bytes e n s all is whole =
    let p : 0 < s = rw is (width_pos e) in
    ap (λ (k : ℕ). k / s) (sym whole) ∙ mul-div_cancel n p

pub room_for : (done more count s all : ℕ) → done + more ≤ count → count * s ≤ all → done * s + more * s ≤ all
room_for done more count s all few fits =
    omega (arith, mul-le (done + more) s count s few (omega arith), add-mul done more s, fits)

pub piece_len : (done more count s : ℕ) (into : List ℕ) → done + more ≤ count → count * s ≤ length into
    → length (take (done * s + more * s - done * s) (drop (done * s) into)) ≡ more * s
piece_len done more count s into few fits =
    let r : done * s + more * s ≤ length into = room_for done more count s (length into) few fits in
    length-take _ _ ∙ omega (arith, length-drop (done * s) into, r)

pub piece_count : (e : Elem) (done more count s : ℕ) (into : List ℕ) → s ≡ width e → done + more ≤ count → count * s ≤ length into
    → length (take (done * s + more * s - done * s) (drop (done * s) into)) / width e ≡ more
piece_count e done more count s into is few fits =
    ap (λ (k : ℕ). k / width e) (piece_len done more count s into few fits) ∙ ap (λ (k : ℕ). more * s / k) (sym is) ∙ values_of_bytes e more s (more * s) is refl

pub count_fits : (count n s all room : ℕ) → count ≡ n → n * s ≡ all → room ≡ all → count * s ≤ room
count_fits count n s all room is whole same = rw (same, is) (omega (arith, whole))

-- what stands in the bytes and what was read, after one piece more
pub record Piece (e : Elem) (n : ℕ) (r now : Rest) (new : List ℕ) : Type 0 where
  pub values : List ℤ
  pub read : next_values n e r ≡ Ok (values, now)
  pub stored : new ≡ flat_map (cell e) values

pub piece_of : (e k : Elem) (n more : ℕ) (r now : Rest) (new : List ℕ) → k ≡ e → n ≡ more → (ws : List ℤ) × (next_values n k r ≡ Ok (ws, now)) × (new ≡ flat_map (cell k) ws) → Piece e more r now new
piece_of e k n more r now new same size got = record {
  values = got.0;
  read = ap (λ (x : Elem). next_values more x r) (sym same) ∙ ap (λ (m : ℕ). next_values m k r) (sym size) ∙ got.1;
  stored = got.2 ∙ ap (λ (x : Elem). flat_map (cell x) got.0) same;
}

pub piece_more : (e : Elem) (done more count s len : ℕ) (into new : List ℕ) (vs : List ℤ) (r now : Rest) (whole : Result (List ℤ × Rest) Fault)
    → done + more ≤ count → count * s ≤ length into → length new ≡ more * s
    → take (done * s) into ≡ flat_map (cell e) vs → with_front vs (next_values (count - done) e r) ≡ whole → Piece e more r now new
    → (xs : List ℤ) × (take ((done + more) * s) (put_mid (done * s) len into new) ≡ flat_map (cell e) xs) × (with_front xs (next_values (count - (done + more)) e now) ≡ whole)
piece_more e done more count s len into new vs r now whole few fits size taken so_far piece = (
  vs ++ piece.values,
  ap (λ (k : ℕ). take k (put_mid (done * s) len into new)) (add-mul done more s)
      ∙ cells_more e vs piece.values (done * s) (more * s) len into new (room_for done more count s (length into) few fits) size piece.stored taken,
  sym (piece_step e more (count - (done + more)) (count - done) vs piece.values r now (omega arith) piece.read) ∙ so_far,
)

-- a piece that was refused
pub piece_refused : (end : InputEnd) (e k : Elem) (done more count n : ℕ) (vs : List ℤ) (r : Rest) (whole : Result (List ℤ × Rest) Fault) → k ≡ e → n ≡ more → done + more ≤ count
    → with_front vs (next_values (count - done) e r) ≡ whole → Fails end (next_values n k r) → Fails end whole
piece_refused end e k done more count n vs r whole same size few so_far fails =
    piece_fails end e more (count - (done + more)) (count - done) vs r whole (omega arith)
    (subst (λ (x : Elem). Fails end (next_values more x r)) same (subst (λ (m : ℕ). Fails end (next_values m k r)) size fails)) so_far

pub few_of : (done more count piece : ℕ) → done < count → more ≡ min piece (count - done) → done + more ≤ count
few_of done more count piece lt is = omega (arith, is)

pub done_of : (left done count : ℕ) → left + done ≡ count → count ≤ done → done ≡ count
done_of left done count is all = omega (arith, is)

pub count_whole : (count n s all room : ℕ) → count ≡ n → n * s ≡ all → room ≡ all → count * s ≡ room
count_whole count n s all room is whole same = ap (λ (k : ℕ). k * s) is ∙ whole ∙ sym same
