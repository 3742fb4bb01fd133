-- The race that comes first, all pairs compared.
use Rattle.std.proofs.Common.{◌≡◌, ℕ, ◌+◌, ◌<◌, ◌≤◌, arith, refl, ap, sym, ◌∙◌, subst, Bool, true, false, List, length, take, Option, Some, None, Result, Ok, Err, IfOk, slice_get, inl, inr, if◌then◌else◌}
use Rattle.std.proofs.lemmas.Bool.{cases_eq, cases_lt}
use Rattle.std.proofs.lemmas.Option.{slice_get_within}
use Rattle.std.proofs.lemmas.Slice.Eq.{bytes_eq-Decides}
use Rattle.std.proofs.lemmas.List.{length-take}
use Rattle.std.specs.Str.{bytes_eq}
use Rattle.sq_forms.specs.declared.form.Use.{Use}
use Rattle.sq_race.specs.Accesses.{races}
use Rattle.sq_race.specs.Order.{at_most, round, AreInOrder}
use Rattle.sq_race.specs.Pairs.{RaceAt, NoneYet, IsEarliest, IsFirstPair}
use Rattle.sq_race.specs.Least.{ComesFirst, IsLeast, IsLeastPairTo, IsLeastTo, IsLesser}
use Rattle.sq_race.specs.declared.map.Map.{Map}
use Rattle.sq_race.specs.declared.pairs.Pair.{Pair}
use Rattle.sq_race.proofs.Steps.{one_there, no_bool, parts, slice_get_take, none_earliest, none_yet}
use Rattle.sq_race.proofs.Orders.{at_most_on, at_most_self, at_most_either}

-- a later access of a run that doesn't come before
later_round : (r s : List ℕ) (p : Pair) (i j : ℕ) → at_most r s ≡ true → p.later < j → ComesFirst r p s i j
later_round r s p i j order less = go (bytes_eq r s) refl where
  go : (b : Bool) → bytes_eq r s ≡ b → ComesFirst r p s i j
  go true e = inr ((bytes_eq-Decides r s).0 e, inl less)
  go false e = inl (record { order = order; other = λ same. no_bool (bytes_eq r s) ((bytes_eq-Decides r s).1 same) e })

-- ---- the fast way

pub least_of_first : (m : Map) (uses : List Use) (o : Option Pair) → AreInOrder m uses → IsFirstPair m uses o → IsLeast m uses o
least_of_first m uses None order first = first
least_of_first m uses (Some p) order first = record {
  race = first.0;
  least = λ i j y. elim (first.1 i j y) [
    | inl less ↦ later_round (round m first.0.b) (round m y.b) p i j (order.at p.later j first.0.b y.b less first.0.at_later y.at_later (parts m first.0.a first.0.b first.0.race).other (parts m y.a y.b y.race).other) less
    | inr equal ↦ inr (ap (round m) (one_there uses p.later j first.0.b y.b equal.0 first.0.at_later y.at_later), inr equal)
  ];
}

pub least_if : {E : Type 0} (m : Map) (uses : List Use) (r : Result (Option Pair) E) → AreInOrder m uses → IfOk r (λ o. IsFirstPair m uses o) → IfOk r (λ o. IsLeast m uses o)
least_if m uses (Ok o) order first = least_of_first m uses o order first
least_if m uses (Err e) order first = tt

-- ---- the plain way

-- what the search for the earliest found
found_at : (m : Map) (uses : List Use) (earlier later : ℕ) (b : Use) → slice_get uses later ≡ Some b → IsEarliest m (take later uses) b (Some earlier) → RaceAt m uses earlier later
found_at m uses earlier later b at_b is =
    let below : earlier < later = omega (arith, slice_get_within (take later uses) earlier is.0.0 is.0.1, length-take later uses) in
    record { a = is.0.0; b = b; at_earlier = sym (slice_get_take later uses earlier below) ∙ is.0.1; at_later = at_b; before = below; race = is.0.2 }

-- it is the first of those with this later access
first_there : (m : Map) (uses : List Use) (earlier later : ℕ) (b : Use) → slice_get uses later ≡ Some b → IsEarliest m (take later uses) b (Some earlier) → (i : ℕ) → RaceAt m uses i later → earlier ≤ i
first_there m uses earlier later b at_b is i here = elim (cases_lt i earlier) [
  | inr long ↦ long
  | inl less ↦ absurd (no_bool (races m here.a b) (subst (λ (y : Use). races m here.a y ≡ true) (one_there uses later later here.b b refl here.at_later at_b) here.race) (is.1 i here.a less (slice_get_take later uses i here.before ∙ here.at_earlier)))
]

there_first : (m : Map) (uses : List Use) (earlier later : ℕ) (b : Use) (at_b : slice_get uses later ≡ Some b) → IsEarliest m (take later uses) b (Some earlier) → (i j : ℕ) → j ≡ later → (y : RaceAt m uses i j) → ComesFirst (round m b) (record { later = later; earlier = earlier }) (round m y.b) i j
there_first m uses earlier later b at_b is i j same y =
    inr (ap (round m) (one_there uses later j b y.b (sym same) at_b y.at_later), inr (sym same, first_there m uses earlier later b at_b is i (subst (λ (n : ℕ). RaceAt m uses i n) same y)))

pub least_skip : (m : Map) (uses : List Use) (o : Option Pair) (later : ℕ) (b : Use) → slice_get uses later ≡ Some b → IsLeastTo m uses later o → IsEarliest m (take later uses) b None → IsLeastTo m uses (later + 1) o
least_skip m uses None later b at_b old none = none_yet m uses later old (none_earliest m uses later b at_b none)
least_skip m uses (Some p) later b at_b old none = record {
  below = omega (arith, old.below);
  race = old.race;
  least = λ i j less y. elim (cases_eq j later) [
    | inl same ↦ absurd ((none_earliest m uses later b at_b none).at i (subst (λ (n : ℕ). RaceAt m uses i n) same y))
    | inr other ↦ old.least i j (omega arith) y
  ];
}

pub least_new : (m : Map) (uses : List Use) (earlier later : ℕ) (b : Use) → slice_get uses later ≡ Some b → NoneYet m uses later → IsEarliest m (take later uses) b (Some earlier) → IsLeastPairTo m uses (later + 1) (record { later = later; earlier = earlier })
unfolding found_at
least_new m uses earlier later b at_b old is = record {
  below = omega arith;
  race = found_at m uses earlier later b at_b is;
  least = λ i j less y. elim (cases_eq j later) [
    | inl same ↦ there_first m uses earlier later b at_b is i j same y
    | inr other ↦ absurd (old.at i j (omega arith) y)
  ];
}

-- the order of a pair that comes first
order_of : (r s : List ℕ) (p : Pair) (i j : ℕ) → ComesFirst r p s i j → at_most r s ≡ true
order_of r s p i j (inl less) = less.order
order_of r s p i j (inr equal) = subst (λ (t : List ℕ). at_most r t ≡ true) equal.0 (at_most_self r)

least_kept : (m : Map) (uses : List Use) (p : Pair) (earlier later : ℕ) (b : Use) → (at_b : slice_get uses later ≡ Some b) → (old : IsLeastPairTo m uses later p) → IsEarliest m (take later uses) b (Some earlier) → at_most (round m old.race.b) (round m b) ≡ true → IsLeastPairTo m uses (later + 1) p
least_kept m uses p earlier later b at_b old is order = record {
  below = omega (arith, old.below);
  race = old.race;
  least = λ i j less y. elim (cases_eq j later) [
    | inl same ↦ later_round (round m old.race.b) (round m y.b) p i j (subst (λ (z : Use). at_most (round m old.race.b) (round m z) ≡ true) (one_there uses later j b y.b (sym same) at_b y.at_later) order) (omega (arith, old.below))
    | inr other ↦ old.least i j (omega arith) y
  ];
}

least_changed : (m : Map) (uses : List Use) (p : Pair) (earlier later : ℕ) (b : Use) → (at_b : slice_get uses later ≡ Some b) → (old : IsLeastPairTo m uses later p) → IsEarliest m (take later uses) b (Some earlier) → at_most (round m old.race.b) (round m b) ≡ false → IsLeastPairTo m uses (later + 1) (record { later = later; earlier = earlier })
unfolding found_at
least_changed m uses p earlier later b at_b old is order = record {
  below = omega arith;
  race = found_at m uses earlier later b at_b is;
  least = λ i j less y. elim (cases_eq j later) [
    | inl same ↦ there_first m uses earlier later b at_b is i j same y
    | inr other ↦
        let known : at_most (round m old.race.b) (round m y.b) ≡ true = order_of (round m old.race.b) (round m y.b) p i j (old.least i j (omega arith) y) in
        inl (record {
          order = at_most_on (round m b) (round m old.race.b) (round m y.b) (at_most_either (round m old.race.b) (round m b) order) known;
          other = λ same. no_bool (at_most (round m old.race.b) (round m b)) (subst (λ (t : List ℕ). at_most (round m old.race.b) t ≡ true) (sym same) known) order;
        })
  ];
}

pub least_more : (m : Map) (uses : List Use) (p chosen : Pair) (earlier later : ℕ) (b : Use) → slice_get uses later ≡ Some b → IsLeastPairTo m uses later p → IsEarliest m (take later uses) b (Some earlier) → IsLesser m uses p (record { later = later; earlier = earlier }) chosen → IsLeastPairTo m uses (later + 1) chosen
least_more m uses p chosen earlier later b at_b old is lesser = go (at_most (round m old.race.b) (round m b)) refl where
  go : (x : Bool) → at_most (round m old.race.b) (round m b) ≡ x → IsLeastPairTo m uses (later + 1) chosen
  go true e = subst (λ (q : Pair). IsLeastPairTo m uses (later + 1) q) (sym (lesser.at old.race.b b old.race.at_later at_b ∙ ap (λ (x : Bool). if x then p else record { later = later; earlier = earlier }) e)) (least_kept m uses p earlier later b at_b old is e)
  go false e = subst (λ (q : Pair). IsLeastPairTo m uses (later + 1) q) (sym (lesser.at old.race.b b old.race.at_later at_b ∙ ap (λ (x : Bool). if x then p else record { later = later; earlier = earlier }) e)) (least_changed m uses p earlier later b at_b old is e)

pub least_all : (m : Map) (uses : List Use) (o : Option Pair) (n : ℕ) → IsLeastTo m uses n o → length uses ≤ n → IsLeast m uses o
least_all m uses None n old long = λ i j y. old.at i j (omega (arith, slice_get_within uses j y.b y.at_later)) y
least_all m uses (Some p) n old long = record {
  race = old.race;
  least = λ i j y. old.least i j (omega (arith, slice_get_within uses j y.b y.at_later)) y;
}

pub none_to_zero : (m : Map) (uses : List Use) → NoneYet m uses 0
none_to_zero m uses = record { at = λ i j below y. absurd (omega arith) }
