-- How bytes of one kind are passed.
use Rattle.std.proofs.Common.{◌≡◌, ℕ, suc, ◌+◌, ◌-◌, ◌<◌, ◌≤◌, Bool, true, false, List, [], ◌∷◌, ◌++◌, length, get_or, take, drop, refl, ◌∙◌, ap, arith, length-drop, length-take}
use Rattle.std.proofs.lemmas.List.{take_more, drop-drop, drop_more, get_or-drop}
use Rattle.std.proofs.lemmas.List.Sums.{fold-append}
use Rattle.std.proofs.Math.Seq.{take-add}
use Rattle.std.proofs.lemmas.Bool.Decides.{nat_tests}
use Rattle.std.specs.List.{fold}
use Rattle.sq_text.specs.declared.place.Place.{Place}
use Rattle.sq_text.specs.Places.{place_after}
use Rattle.sq_arrays.specs.Words.{is_in, along}
use Rattle.sq_arrays.specs.Window.{AreIn, Stops, Passed}

pub are_in_both : (blank : Bool) (xs ys : List ℕ) → AreIn blank xs → AreIn blank ys → AreIn blank (xs ++ ys)
are_in_both blank [] ys h k = k
are_in_both blank (x ∷ xs) ys h k = (h.0, are_in_both blank xs ys h.1 k)

-- the bytes from start to n were passed
pub record Going (blank : Bool) (from : Place) (bytes : List ℕ) (start n : ℕ) (to : Place) : Type 0 where
  pub each : AreIn blank (take (n - start) (drop start bytes))
  pub place : to ≡ along from (take (n - start) (drop start bytes))
  pub line : to.line ≤ from.line + (n - start)
  pub col : to.col ≤ from.col + (n - start)

zero_part : (bytes : List ℕ) (start : ℕ) → take (start - start) (drop start bytes) ≡ []
zero_part bytes start = let e : start - start ≡ 0 = omega arith in rw e refl

pub going_none : (blank : Bool) (from : Place) (bytes : List ℕ) (start : ℕ) → Going blank from bytes start start from
going_none blank from bytes start = record {
  each = rw (zero_part bytes start) tt;
  place = rw (zero_part bytes start) refl;
  line = omega arith;
  col = omega arith;
}

one_more : (bytes : List ℕ) (start n : ℕ) → start ≤ n → n < length bytes → take (n + 1 - start) (drop start bytes) ≡ take (n - start) (drop start bytes) ++ get_or bytes n 0 ∷ []
one_more bytes start n low high =
    let e : n + 1 - start ≡ n - start + 1 = omega arith in
    let s : start + (n - start) ≡ n = omega arith in
    ap (λ (k : ℕ). take k (drop start bytes)) e
    ∙ take_more (drop start bytes) (n - start) 0 (omega (arith, length-drop start bytes))
    ∙ ap (λ (b : ℕ). take (n - start) (drop start bytes) ++ b ∷ []) (get_or-drop start bytes (n - start) 0 ∙ ap (λ (k : ℕ). get_or bytes k 0) s)

step_line : (p : Place) (b : ℕ) → ((place_after p b).line ≤ p.line + 1) × ((place_after p b).col ≤ p.col + 1)
step_line p b = grind (arith, nat_tests)

pub going_more : (blank : Bool) (from to : Place) (bytes : List ℕ) (start n : ℕ) → start ≤ n → n < length bytes → Going blank from bytes start n to → is_in blank (get_or bytes n 0) ≡ true → Going blank from bytes start (n + 1) (place_after to (get_or bytes n 0))
going_more blank from to bytes start n low high going is =
    let more = one_more bytes start n low high in
    let front : List ℕ = take (n - start) (drop start bytes) in
    let grows = step_line to (get_or bytes n 0) in
    record {
      each = rw more (are_in_both blank front (get_or bytes n 0 ∷ []) going.each (is, tt));
      place = rw (more, fold-append place_after from front (get_or bytes n 0 ∷ [])) (ap (λ (p : Place). place_after p (get_or bytes n 0)) going.place);
      line = omega (arith, grows.0, going.line);
      col = omega (arith, grows.1, going.col);
    }

-- a part and the next part are one part
two_parts : (bytes : List ℕ) (start n end : ℕ) → start ≤ n → n ≤ end → take (end - start) (drop start bytes) ≡ take (n - start) (drop start bytes) ++ take (end - n) (drop n bytes)
two_parts bytes start n end low high =
    let e : end - start ≡ (n - start) + (end - n) = omega arith in
    let s : start + (n - start) ≡ n = omega arith in
    ap (λ (k : ℕ). take k (drop start bytes)) e ∙ take-add (n - start) (end - n) (drop start bytes)
    ∙ ap (λ (l : List ℕ). take (n - start) (drop start bytes) ++ take (end - n) l) (drop-drop (n - start) start bytes ∙ ap (λ (k : ℕ). drop k bytes) s)

pub going_done : {J : Type 0} (next : J → ℕ → J) (blank : Bool) (from to : Place) (bytes : List ℕ) (start n end : ℕ) (before after : J) → start ≤ n → n ≤ end → Going blank from bytes start n to
    → after ≡ fold next before (take (n - start) (drop start bytes)) → Passed next blank from to (take (end - start) (drop start bytes)) (take (end - n) (drop n bytes)) before after
going_done next blank from to bytes start n end before after low high going judged = record {
  done = take (n - start) (drop start bytes);
  whole = two_parts bytes start n end low high;
  each = going.each;
  place = going.place;
  observer = judged;
}

pub stops_end : (blank : Bool) (bytes : List ℕ) (n end : ℕ) → end ≤ n → Stops blank (take (end - n) (drop n bytes))
stops_end blank bytes n end past = let e : end - n ≡ 0 = omega arith in rw e tt

pub stops_here : (blank : Bool) (bytes : List ℕ) (n end : ℕ) → n < end → end ≤ length bytes → is_in blank (get_or bytes n 0) ≡ false → Stops blank (take (end - n) (drop n bytes))
stops_here blank bytes n end low high is =
    let e : end - n ≡ suc (end - n - 1) = omega arith in
    let d : n < length bytes = omega arith in
    rw (e, drop_more bytes n 0) is

pub part_length : (bytes : List ℕ) (start end : ℕ) → end ≤ length bytes → length (take (end - start) (drop start bytes)) ≡ end - start
part_length bytes start end high = omega (arith, length-take (end - start) (drop start bytes), length-drop start bytes)
