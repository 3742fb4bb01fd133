-- The first race of a form.
use Rattle.std.proofs.Common.{◌≡◌, ℕ, zero, suc, ◌+◌, ◌<◌, ◌≤◌, ◌⊎◌, arith, refl, ap, sym, ◌∙◌, subst, add-one, Bool, true, false, not, ◌&&◌, ◌||◌, eqb, nat_lt, nat_le, List, [], ◌∷◌, length, take, Option, Some, None, Result, Ok, Err, IfOk, slice_get, get_or, inl, inr}
use Rattle.std.proofs.lemmas.Grind.{common_steps}
use Rattle.std.proofs.lemmas.Bool.{cases_lt, eqb-true, eq-eqb, leb-true, ltb-true}
use Rattle.std.proofs.lemmas.Option.{slice_get_within, slice_get-get_or}
use Rattle.sq_forms.specs.declared.form.Use.{Use}
use Rattle.sq_ast.specs.Modes.{is_written}
use Rattle.sq_race.specs.Accesses.{counts, reduces, shares, races, same_run, same_iteration, clash}
use Rattle.sq_race.specs.Order.{round}
use Rattle.sq_race.specs.Pairs.{RaceAt}
use Rattle.sq_race.specs.Least.{IsLeast, IsLeastPair}
use Rattle.sq_race.specs.Race.{IsOf, IsRace, HoldsIn, AtOrBefore, IsFirstOf, IsFirstAmong}
use Rattle.sq_race.specs.declared.map.Map.{Map}
use Rattle.sq_race.specs.declared.pairs.Pair.{Pair}
use Rattle.sq_race.specs.declared.forms.Found.{Found}
use Rattle.sq_race.proofs.Steps.{one_there, no_bool, same_numbers, alike_from, both, not_true, parts}
use Rattle.sq_race.proofs.Shares.{share_of, of_share}

-- one more number alike

take_further : (n : ℕ) (xs ys : List ℕ) → take n xs ≡ take n ys → slice_get xs n ≡ slice_get ys n → take (suc n) xs ≡ take (suc n) ys
take_further zero [] [] p q = refl
take_further zero [] (y ∷ ys) p q = absurd (cc)
take_further zero (x ∷ xs) [] p q = absurd (cc)
take_further zero (x ∷ xs) (y ∷ ys) p q = cc
take_further (suc n) [] [] p q = refl
take_further (suc n) [] (y ∷ ys) p q = absurd (cc)
take_further (suc n) (x ∷ xs) [] p q = absurd (cc)
take_further (suc n) (x ∷ xs) (y ∷ ys) p q = let e : take n xs ≡ take n ys = cc in let f = take_further n xs ys e q in cc

number_alike : (n : ℕ) (xs ys : List ℕ) → take (suc n) xs ≡ take (suc n) ys → slice_get xs n ≡ slice_get ys n
number_alike zero [] [] p = refl
number_alike zero [] (y ∷ ys) p = absurd (cc)
number_alike zero (x ∷ xs) [] p = absurd (cc)
number_alike zero (x ∷ xs) (y ∷ ys) p = cc
number_alike (suc n) [] [] p = refl
number_alike (suc n) [] (y ∷ ys) p = absurd (cc)
number_alike (suc n) (x ∷ xs) [] p = absurd (cc)
number_alike (suc n) (x ∷ xs) (y ∷ ys) p = number_alike n xs ys (cc)

-- the tests say what the definitions do

pub counts_of : (m : Map) (u : Use) → counts m u ≡ true → (m.calls.lo ≤ u.call) × (u.call < m.calls.hi)
counts_of m u e =
    let p = both (nat_le m.calls.lo u.call && nat_lt u.call m.calls.hi) (not (reduces m.reduced u.arg)) e in
    let q = both (nat_le m.calls.lo u.call) (nat_lt u.call m.calls.hi) p.0 in
    (leb-true m.calls.lo u.call q.0, ltb-true u.call m.calls.hi q.1)

not_reduced : (r : Option ℕ) (arg : ℕ) → not (reduces r arg) ≡ true → r ≡ Some arg → ⊥
not_reduced None arg e same = cc
not_reduced (Some n) arg e same = let f : n ≡ arg = cc in no_bool (eqb n arg) (eq-eqb n arg f) (not_true (eqb n arg) e)

reduces_not : (r : Option ℕ) (arg : ℕ) → (r ≡ Some arg → ⊥) → not (reduces r arg) ≡ true
reduces_not None arg other = refl
reduces_not (Some n) arg other = go (eqb n arg) refl where
  go : (b : Bool) → eqb n arg ≡ b → not b ≡ true
  go true e = absurd (other (ap Some (eqb-true n arg e)))
  go false e = refl

all_three : (x y z : Bool) → x ≡ true → y ≡ true → z ≡ true → (x && y && z) ≡ true
all_three x y z p q r = grind (arith, common_steps)

counts_from : (m : Map) (r : List ℕ) (u : Use) → IsOf m r u → counts m u ≡ true
counts_from m r u is = all_three (nat_le m.calls.lo u.call) (nat_lt u.call m.calls.hi) (not (reduces m.reduced u.arg)) (grind (arith, common_steps, is.call)) (grind (arith, common_steps, is.call)) (reduces_not m.reduced u.arg is.kept)

is_of : (m : Map) (r : List ℕ) (u : Use) → counts m u ≡ true → round m u ≡ r → IsOf m r u
is_of m r u e same = record {
  call = counts_of m u e;
  kept = not_reduced m.reduced u.arg (both (nat_le m.calls.lo u.call && nat_lt u.call m.calls.hi) (not (reduces m.reduced u.arg)) e).1;
  round_is = same;
}

either_true : (x y : Bool) → (x || y) ≡ true → (x ≡ true) ⊎ (y ≡ true)
either_true true y e = inl refl
either_true false y e = inr e

true_either : (x y : Bool) → (x ≡ true) ⊎ (y ≡ true) → (x || y) ≡ true
true_either true y e = refl
true_either false y (inl e) = absurd (no_bool false e refl)
true_either false y (inr e) = e

pub race_from : (m : Map) (a b : Use) → races m a b ≡ true → IsRace m (round m b) a b
race_from m a b e =
    let p = parts m a b e in
    record {
      one = is_of m (round m b) a p.one (same_numbers m.depth a.iterations b.iterations p.run);
      other = is_of m (round m b) b p.other refl;
      iterations = λ alike_there. no_bool (same_iteration m a b) (alike_from (m.depth + 1) a.iterations b.iterations (rw add-one (take_further m.depth a.iterations b.iterations (same_numbers m.depth a.iterations b.iterations p.run) alike_there))) p.iteration;
      array = p.array;
      share = share_of a.rect b.rect p.share;
      write = either_true (is_written a.mode) (is_written b.mode) p.write;
    }

not_false : (b : Bool) → (b ≡ true → ⊥) → not b ≡ true
not_false true f = absurd (f refl)
not_false false f = refl

five : (u v w x y : Bool) → u ≡ true → v ≡ true → w ≡ true → x ≡ true → y ≡ true → (u && v && w && x && y) ≡ true
five u v w x y a b c d e = grind (arith, common_steps)

pub race_to : (m : Map) (r : List ℕ) (a b : Use) → IsRace m r a b → races m a b ≡ true
race_to m r a b race = five (counts m a) (counts m b) (same_run m a b) (not (same_iteration m a b)) (clash a b)
    (counts_from m r a race.one)
    (counts_from m r b race.other)
    (alike_from m.depth a.iterations b.iterations (race.one.round_is ∙ sym race.other.round_is))
    (not_false (same_iteration m a b) (λ e. race.iterations (number_alike m.depth a.iterations b.iterations (rw add-one at (same_numbers (m.depth + 1) a.iterations b.iterations e)))))
    (all_three (eqb a.array b.array) (is_written a.mode || is_written b.mode) (shares a.rect b.rect) (eq-eqb a.array b.array race.array) (true_either (is_written a.mode) (is_written b.mode) race.write) (of_share a.rect b.rect race.share))

-- a race of the form is one of its map's pairs
pub pair_of : (maps : List Map) (uses : List Use) (m : Map) (s : List ℕ) (y : Found) → HoldsIn maps uses s y → slice_get maps y.map ≡ Some m → RaceAt m uses y.earlier y.later
pair_of maps uses m s y h is = record { a = h.a; b = h.b; at_earlier = h.earlier_is; at_later = h.later_is; before = h.before; race = race_to m s h.a h.b (subst (λ (n : Map). IsRace n s h.a h.b) (one_there maps y.map y.map h.map m refl h.map_is is) h.race) }

pub get_or_none : {A : Type 0} (xs : List A) (i : ℕ) (d : A) → slice_get xs i ≡ None → get_or xs i d ≡ d
get_or_none [] i d e = refl
get_or_none (x ∷ xs) zero d e = absurd (cc)
get_or_none (x ∷ xs) (suc i) d e = get_or_none xs i d e

abbrev pub found_as : ℕ → Pair → Found
found_as n p = record { map = n; later = p.later; earlier = p.earlier }

of_map : (maps : List Map) (uses : List Use) (m : Map) (n : ℕ) (p : Pair) → slice_get maps n ≡ Some m → (first : IsLeastPair m uses p) → (s : List ℕ) (y : Found) → HoldsIn maps uses s y → n ≡ y.map → AtOrBefore (round m first.race.b) (found_as n p) s y
unfolding pair_of
of_map maps uses m n p is first s y h same =
    let here : slice_get maps y.map ≡ Some m = rw (sym same) is in
    let pair = pair_of maps uses m s y h here in
    let race : IsRace m s h.a h.b = subst (λ (k : Map). IsRace k s h.a h.b) (one_there maps y.map y.map h.map m refl h.map_is here) h.race in
    inr (same, rw race.other.round_is at (first.least y.earlier y.later pair))

-- ---- of some maps

one_none : (maps : List Map) (uses : List Use) (n : ℕ) (m : Map) → slice_get maps n ≡ Some m → IsLeast m uses None → IsFirstAmong maps uses n (n + 1) None
one_none maps uses n m is here = λ s y h low below. let same : y.map ≡ n = omega arith in here y.earlier y.later (pair_of maps uses m s y h (rw same is))

one_some : (maps : List Map) (uses : List Use) (n : ℕ) (m : Map) (p : Pair) → slice_get maps n ≡ Some m → IsLeast m uses (Some p) → IsFirstAmong maps uses n (n + 1) (Some (found_as n p))
one_some maps uses n m p is first = record {
  round = round m first.race.b;
  holds = record {
    map = m;
    a = first.race.a;
    b = first.race.b;
    map_is = is;
    earlier_is = first.race.at_earlier;
    later_is = first.race.at_later;
    before = first.race.before;
    race = race_from m first.race.a first.race.b first.race.race;
  };
  below = omega arith;
  least = λ s y h low below. of_map maps uses m n p is first s y h (omega arith);
}

pub none_among : (maps : List Map) (uses : List Use) (from to : ℕ) → to ≤ from → IsFirstAmong maps uses from to None
none_among maps uses from to few = λ s y h low below. absurd (omega arith)

pub joined_none : (maps : List Map) (uses : List Use) (from middle to : ℕ) (o : Option Found) → middle ≤ to → IsFirstAmong maps uses from middle None → IsFirstAmong maps uses middle to o → IsFirstAmong maps uses from to o
joined_none maps uses from middle to None few none high = λ s y h low below. elim (cases_lt y.map middle) [
  | inl less ↦ none s y h low less
  | inr more ↦ high s y h more below
]
joined_none maps uses from middle to (Some x) few none high = record {
  round = high.round;
  holds = high.holds;
  below = high.below;
  least = λ s y h low below. elim (cases_lt y.map middle) [
    | inl less ↦ absurd (none s y h low less)
    | inr more ↦ high.least s y h more below
  ];
}

pub joined_some : (maps : List Map) (uses : List Use) (from middle to : ℕ) (x : Found) → middle ≤ to → IsFirstAmong maps uses from middle (Some x) → IsFirstAmong maps uses from to (Some x)
joined_some maps uses from middle to x few first = record {
  round = first.round;
  holds = first.holds;
  below = omega (arith, first.below);
  least = λ s y h low below. elim (cases_lt y.map middle) [
    | inl less ↦ first.least s y h low less
    | inr more ↦ inl (omega (arith, first.below))
  ];
}

pub first_of_whole : (maps : List Map) (uses : List Use) (o : Option Found) → IsFirstAmong maps uses 0 (length maps) o → IsFirstOf maps uses o
first_of_whole maps uses None none = λ s y h. none s y h (omega arith) (slice_get_within maps y.map h.map h.map_is)
first_of_whole maps uses (Some x) first = record {
  round = first.round;
  holds = first.holds;
  least = λ s y h. first.least s y h (omega arith) (slice_get_within maps y.map h.map h.map_is);
}

pub whole_if : {E : Type 0} (maps : List Map) (uses : List Use) (r : Result (Option Found) E) → IfOk r (λ o. IsFirstAmong maps uses 0 (length maps) o) → IfOk r (λ o. IsFirstOf maps uses o)
whole_if maps uses (Ok o) first = first_of_whole maps uses o first
whole_if maps uses (Err e) first = tt

pub among_same : {E : Type 0} (maps : List Map) (uses : List Use) (from n to : ℕ) (r : Result (Option Found) E) → n ≡ to → IfOk r (λ o. IsFirstAmong maps uses from n o) → IfOk r (λ o. IsFirstAmong maps uses from to o)
among_same maps uses from n to r same first = subst (λ (k : ℕ). IfOk r (λ o. IsFirstAmong maps uses from k o)) same first

-- what an index gives where there is nothing
abbrev pub blank : Map
blank = record { place = record { line = 0; col = 0 }; depth = 0; calls = record { lo = 0; hi = 0 }; reduced = None }

pub first_read : (maps : List Map) (uses : List Use) (n : ℕ) (o : Option Pair) (p : Pair) → n < length maps → IsLeast (get_or maps n blank) uses o → o ≡ Some p → IsFirstAmong maps uses n (n + 1) (Some (found_as n p))
first_read maps uses n o p below least is = one_some maps uses n (get_or maps n blank) p (slice_get-get_or maps n blank below) (subst (λ (q : Option Pair). IsLeast (get_or maps n blank) uses q) is least)

pub none_read : (maps : List Map) (uses : List Use) (n : ℕ) (o : Option Pair) → n < length maps → IsLeast (get_or maps n blank) uses o → o ≡ None → IsFirstAmong maps uses n (n + 1) None
none_read maps uses n o below least is = one_none maps uses n (get_or maps n blank) (slice_get-get_or maps n blank below) (subst (λ (q : Option Pair). IsLeast (get_or maps n blank) uses q) is least)
