-- Runs in order.
use Rattle.std.proofs.Common.{◌≡◌, ℕ, ◌+◌, ◌≤◌, arith, refl, sym, ◌∙◌, Bool, true, false, ◌&&◌, ◌||◌, ◌==◌, nat_lt, List, [], ◌∷◌, length, Some, slice_get, inl, inr}
use Rattle.std.proofs.lemmas.Grind.{common_steps}
use Rattle.std.proofs.lemmas.Bool.{cases_eq}
use Rattle.std.proofs.lemmas.Option.{slice_get_within}
use Rattle.sq_race.specs.Accesses.{counts}
use Rattle.sq_race.specs.Order.{at_most, round, not_after, follows, AreInOrder, OrderedTo}
use Rattle.sq_race.specs.Pairs.{AreTogether}
use Rattle.sq_forms.specs.declared.form.Use.{Use}
use Rattle.sq_race.specs.declared.map.Map.{Map}
use Rattle.sq_race.proofs.Steps.{one_there, no_bool, same_numbers, alike_from}

pub at_most_on : (xs ys zs : List ℕ) → at_most xs ys ≡ true → at_most ys zs ≡ true → at_most xs zs ≡ true
at_most_on [] ys zs p q = refl
at_most_on (x ∷ xs) [] zs p q = absurd (no_bool false p refl)
at_most_on (x ∷ xs) (y ∷ ys) [] p q = absurd (no_bool false q refl)
at_most_on (x ∷ xs) (y ∷ ys) (z ∷ zs) p q = more x y z (at_most xs ys) (at_most ys zs) (at_most xs zs) (at_most_on xs ys zs) p q where
  more : (x y z : ℕ) (u v w : Bool) → (u ≡ true → v ≡ true → w ≡ true) → (nat_lt x y || (x == y && u)) ≡ true → (nat_lt y z || (y == z && v)) ≡ true → (nat_lt x z || (x == z && w)) ≡ true
  more x y z u v w f p q = grind (arith, common_steps, f)

pub at_most_both : (xs ys : List ℕ) → at_most xs ys ≡ true → at_most ys xs ≡ true → xs ≡ ys
at_most_both [] [] p q = refl
at_most_both [] (y ∷ ys) p q = absurd (no_bool false q refl)
at_most_both (x ∷ xs) [] p q = absurd (no_bool false p refl)
at_most_both (x ∷ xs) (y ∷ ys) p q = more x y (at_most xs ys) (at_most ys xs) (at_most_both xs ys) p q where
  more : (x y : ℕ) (u v : Bool) → (u ≡ true → v ≡ true → xs ≡ ys) → (nat_lt x y || (x == y && u)) ≡ true → (nat_lt y x || (y == x && v)) ≡ true → x ∷ xs ≡ y ∷ ys
  more x y u v f p q = grind (arith, common_steps, f)

pub at_most_self : (xs : List ℕ) → at_most xs xs ≡ true
at_most_self [] = refl
at_most_self (x ∷ xs) = grind (arith, common_steps, at_most_self xs)

pub together : (m : Map) (uses : List Use) → AreInOrder m uses → AreTogether m uses
together m uses order = record {
  at = λ i j k a b c below above at_a at_b at_c ca cb cc run.
      let e = same_numbers m.depth a.iterations c.iterations run in
      let p : at_most (round m a) (round m b) ≡ true = order.at i j a b below at_a at_b ca cb in
      let q : at_most (round m b) (round m a) ≡ true = rw e (order.at j k b c above at_b at_c cb cc) in
      alike_from m.depth b.iterations c.iterations (sym (at_most_both (round m a) (round m b) p q) ∙ e);
}

pub ordered_more : (m : Map) (uses : List Use) (last n : ℕ) (l b : Use) → OrderedTo m uses last n → slice_get uses last ≡ Some l → slice_get uses n ≡ Some b → counts m b ≡ true → follows m l b ≡ true → OrderedTo m uses n (n + 1)
ordered_more m uses last n l b o at_l at_b counted after = record {
  within = omega arith;
  at = λ i j x y less below at_x at_y cx cy. elim (cases_eq j n) [
    | inr other ↦ o.at i j x y less (omega arith) at_x at_y cx cy
    | inl same ↦
        let is = o.last_is i x l (omega arith) at_x cx at_l in
        let step : not_after m l b ≡ true = grind (arith, common_steps, is.0, after) in
        let here : not_after m x l ≡ true = elim (cases_eq i last) [
          | inl e ↦ rw (one_there uses i last x l e at_x at_l) (at_most_self (round m l))
          | inr e ↦ o.at i last x l (omega (arith, is.1)) (omega (arith, o.within)) at_x at_l cx is.0
        ] in
        rw (one_there uses j n y b same at_y at_b) (at_most_on (round m x) (round m l) (round m b) here step)
  ];
  last_is = λ i a l' below at_a ca at_l'. (rw (one_there uses n n l' b refl at_l' at_b) counted, omega arith);
}

pub ordered_skip : (m : Map) (uses : List Use) (last n : ℕ) (b : Use) → OrderedTo m uses last n → slice_get uses n ≡ Some b → counts m b ≡ false → OrderedTo m uses last (n + 1)
ordered_skip m uses last n b o at_b apart = record {
  within = omega (arith, o.within);
  at = λ i j x y less below at_x at_y cx cy. elim (cases_eq j n) [
    | inr other ↦ o.at i j x y less (omega arith) at_x at_y cx cy
    | inl same ↦ absurd (no_bool (counts m b) (rw (one_there uses j n y b same at_y at_b) at cy) apart)
  ];
  last_is = λ i a l below at_a ca at_l. elim (cases_eq i n) [
    | inr other ↦ o.last_is i a l (omega arith) at_a ca at_l
    | inl same ↦ absurd (no_bool (counts m b) (rw (one_there uses i n a b same at_a at_b) at ca) apart)
  ];
}

pub ordered_all : (m : Map) (uses : List Use) (last n : ℕ) → OrderedTo m uses last n → length uses ≤ n → AreInOrder m uses
ordered_all m uses last n o long = record {
  at = λ i j a b less at_a at_b ca cb. let inside = slice_get_within uses j b at_b in o.at i j a b less (omega (arith, slice_get_within uses j b at_b)) at_a at_b ca cb;
}

pub at_most_either : (xs ys : List ℕ) → at_most xs ys ≡ false → at_most ys xs ≡ true
at_most_either [] ys e = absurd (no_bool true refl e)
at_most_either (x ∷ xs) [] e = refl
at_most_either (x ∷ xs) (y ∷ ys) e = more x y (at_most xs ys) (at_most ys xs) (at_most_either xs ys) e where
  more : (x y : ℕ) (u v : Bool) → (u ≡ false → v ≡ true) → (nat_lt x y || (x == y && u)) ≡ false → (nat_lt y x || (y == x && v)) ≡ true
  more x y u v f p = grind (arith, common_steps, f)
