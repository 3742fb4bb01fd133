-- Where earlier accesses settle that one races with none.
use Rattle.std.proofs.Common.{◌≡◌, ℕ, ◌+◌, ◌<◌, arith, refl, ap, sym, ◌∙◌, subst, Bool, true, false, not, ◌&&◌, ◌||◌, eqb, List, [], ◌∷◌, length, Some, slice_get, inl, inr}
use Rattle.std.proofs.lemmas.Grind.{common_steps}
use Rattle.std.proofs.lemmas.Bool.{cases_eq, cases_lt, eqb-true, eq-eqb}
use Rattle.sq_text.specs.declared.place.Span.{Span}
use Rattle.sq_rect.specs.Blocks.{is_within}
use Rattle.sq_forms.specs.declared.form.Use.{Use}
use Rattle.sq_race.specs.Blocks.{span_overlaps, span_covers}
use Rattle.sq_ast.specs.Modes.{is_written}
use Rattle.sq_race.specs.Accesses.{counts, races, same_run, same_iteration, shares, contains, stands_for, settles}
use Rattle.sq_race.specs.Pairs.{RaceAt, NoneYet, NoneAt}
use Rattle.sq_race.specs.declared.map.Map.{Map}
use Rattle.sq_race.proofs.Steps.{one_there, no_bool, both, parts, alike_self, alike_back, alike_on}

-- ---- the test of blocks

pub as_contains : (a b : List Span) → length a ≡ length b → is_within a b ≡ contains a b
as_contains [] [] same = refl
as_contains [] (t ∷ b) same = absurd (cc)
as_contains (s ∷ a) [] same = absurd (cc)
as_contains (s ∷ a) (t ∷ b) same = ap (λ (x : Bool). span_covers s t && x) (as_contains a b (omega (arith, same)))

contains_same : (a b : List Span) → contains a b ≡ true → length a ≡ length b
contains_same [] [] e = refl
contains_same [] (t ∷ b) e = absurd (cc)
contains_same (s ∷ a) [] e = absurd (cc)
contains_same (s ∷ a) (t ∷ b) e = let rest = contains_same a b (both (span_covers s t) (contains a b) e).1 in omega arith

pub unlike_contains : (a b : List Span) (n m : ℕ) → n ≡ length a → m ≡ length b → (n ≡ m → ⊥) → eqb n m ≡ contains a b
unlike_contains a b n m p q differ = go (eqb n m) (contains a b) refl refl where
  go : (x y : Bool) → eqb n m ≡ x → contains a b ≡ y → eqb n m ≡ contains a b
  go true y e f = absurd (differ (eqb-true n m e))
  go false true e f = absurd (differ (p ∙ contains_same a b f ∙ sym q))
  go false false e f = e ∙ sym f

-- ---- what meets a block meets one round it

overlaps_round : (s t u : Span) → span_overlaps s t ≡ true → span_covers u t ≡ true → span_overlaps s u ≡ true
overlaps_round s t u p q = grind (arith, common_steps)

overlaps_back : (s t : Span) → span_overlaps s t ≡ true → span_overlaps t s ≡ true
overlaps_back s t p = grind (arith, common_steps)

both_true : (x y : Bool) → x ≡ true → y ≡ true → (x && y) ≡ true
both_true x y p q = grind (arith, common_steps)

shares_round : (a b c : List Span) → shares a b ≡ true → contains c b ≡ true → shares a c ≡ true
shares_round [] [] [] p q = refl
shares_round [] [] (u ∷ c) p q = absurd (cc)
shares_round [] (t ∷ b) c p q = absurd (cc)
shares_round (s ∷ a) [] c p q = absurd (cc)
shares_round (s ∷ a) (t ∷ b) [] p q = absurd (cc)
shares_round (s ∷ a) (t ∷ b) (u ∷ c) p q =
    let e = both (span_overlaps s t) (shares a b) p in
    let f = both (span_covers u t) (contains c b) q in
    both_true (span_overlaps s u) (shares a c) (overlaps_round s t u e.0 f.0) (shares_round a b c e.1 f.1)

shares_back : (a b : List Span) → shares a b ≡ true → shares b a ≡ true
shares_back [] [] p = refl
shares_back [] (t ∷ b) p = absurd (cc)
shares_back (s ∷ a) [] p = absurd (cc)
shares_back (s ∷ a) (t ∷ b) p =
    let e = both (span_overlaps s t) (shares a b) p in
    both_true (span_overlaps t s) (shares b a) (overlaps_back s t e.0) (shares_back a b e.1)

-- ---- what is known of an access that stands for another

pub record Stands (m : Map) (x b : Use) : Type 0 where
  pub one : counts m x ≡ true
  pub run : same_run m x b ≡ true
  pub array : x.array ≡ b.array
  pub write : (is_written x.mode || not (is_written b.mode)) ≡ true
  pub block : contains x.rect b.rect ≡ true

stands : (m : Map) (x b : Use) → stands_for m x b ≡ true → Stands m x b
stands m x b e =
    let p = both (counts m x && same_run m x b && eqb x.array b.array && (is_written x.mode || not (is_written b.mode))) (contains x.rect b.rect) e in
    let q = both (counts m x && same_run m x b && eqb x.array b.array) (is_written x.mode || not (is_written b.mode)) p.0 in
    let r = both (counts m x && same_run m x b) (eqb x.array b.array) q.0 in
    let s = both (counts m x) (same_run m x b) r.0 in
    record { one = s.0; run = s.1; array = eqb-true x.array b.array r.1; write = q.1; block = p.1 }

six : (u v w x y : Bool) (z : Bool) → u ≡ true → v ≡ true → w ≡ true → x ≡ false → y ≡ true → z ≡ true → (u && v && w && not x && (y && z)) ≡ true
six u v w x y z a b c d e f = grind (arith, common_steps)

write_on : (wa wb wx : Bool) → (wa || wb) ≡ true → (wx || not wb) ≡ true → (wa || wx) ≡ true
write_on wa wb wx p q = grind (arith, common_steps)

either_back : (x y : Bool) → (x || y) ≡ true → (y || x) ≡ true
either_back x y p = grind (arith, common_steps)

race_is : (m : Map) (a x : Use) → counts m a ≡ true → counts m x ≡ true → same_run m a x ≡ true → same_iteration m a x ≡ false → a.array ≡ x.array → (is_written a.mode || is_written x.mode) ≡ true → shares a.rect x.rect ≡ true → races m a x ≡ true
race_is m a x ca cx run apart array write share =
    six (counts m a) (counts m x) (same_run m a x) (same_iteration m a x) (eqb a.array x.array && (is_written a.mode || is_written x.mode)) (shares a.rect x.rect) ca cx run apart (both_true (eqb a.array x.array) (is_written a.mode || is_written x.mode) (eq-eqb a.array x.array array) write) share

apart_back : (m : Map) (a x : Use) → same_iteration m a x ≡ false → same_iteration m x a ≡ false
apart_back m a x e = go (same_iteration m x a) refl where
  go : (b : Bool) → same_iteration m x a ≡ b → same_iteration m x a ≡ false
  go true p = absurd (no_bool (same_iteration m a x) (alike_back (m.depth + 1) x.iterations a.iterations p) e)
  go false p = p

-- what races with the access races with the one that stands for it, if that is of another iteration
pub race_instead : (m : Map) (uses : List Use) (i k later : ℕ) (x b : Use) → NoneYet m uses later → slice_get uses i ≡ Some x → i < later → stands_for m x b ≡ true → (y : RaceAt m uses k later) → y.b ≡ b → same_iteration m y.a x ≡ false → ⊥
race_instead m uses i k later x b none at_x below e y same apart =
    let p = parts m y.a b (subst (λ (u : Use). races m y.a u ≡ true) same y.race) in
    let s = stands m x b e in
    let run : same_run m y.a x ≡ true = alike_on m.depth y.a.iterations b.iterations x.iterations p.run (alike_back m.depth x.iterations b.iterations s.run) in
    let write = write_on (is_written y.a.mode) (is_written b.mode) (is_written x.mode) p.write s.write in
    let share = shares_round y.a.rect b.rect x.rect p.share s.block in
    elim (cases_lt k i) [
      | inl less ↦ none.at k i below (record { a = y.a; b = x; at_earlier = y.at_earlier; at_later = at_x; before = less; race = race_is m y.a x p.one s.one run apart (p.array ∙ sym s.array) write share })
      | inr more ↦ elim (cases_eq k i) [
        | inl equal ↦ no_bool (same_iteration m y.a x) (rw (one_there uses k i y.a x equal y.at_earlier at_x) (alike_self (m.depth + 1) x.iterations)) apart
        | inr other ↦ none.at i k y.before (record { a = x; b = y.a; at_earlier = at_x; at_later = y.at_earlier; before = omega arith; race = race_is m x y.a s.one p.one (alike_back m.depth y.a.iterations x.iterations run) (apart_back m y.a x apart) (s.array ∙ sym p.array) (either_back (is_written y.a.mode) (is_written x.mode) write) (shares_back y.a.rect x.rect share) })
      ]
    ]

left_false : (x y : Bool) → x ≡ true → (not x || y) ≡ true → y ≡ true
left_false x y p q = grind (arith, common_steps)

pub settled : (m : Map) (uses : List Use) (i j later : ℕ) (x y b : Use) → NoneYet m uses later → slice_get uses i ≡ Some x → slice_get uses j ≡ Some y → slice_get uses later ≡ Some b → i < later → j < later → settles m x y b ≡ true → NoneAt m uses later
settled m uses i j later x y b none at_x at_y at_b below_x below_y e =
    let p = both (stands_for m x b && stands_for m y b) (not (same_iteration m x y) || same_iteration m x b) e in
    let q = both (stands_for m x b) (stands_for m y b) p.0 in
    record {
      at = λ k race.
          let same : race.b ≡ b = one_there uses later later race.b b refl race.at_later at_b in
          go k race same q.0 q.1 (same_iteration m race.a x) (same_iteration m race.a y) refl refl p.1;
    } where
      go : (k : ℕ) (race : RaceAt m uses k later) → race.b ≡ b → stands_for m x b ≡ true → stands_for m y b ≡ true → (u v : Bool) → same_iteration m race.a x ≡ u → same_iteration m race.a y ≡ v → (not (same_iteration m x y) || same_iteration m x b) ≡ true → ⊥
      go k race same sx sy false v eu ev f = race_instead m uses i k later x b none at_x below_x sx race same eu
      go k race same sx sy true false eu ev f = race_instead m uses j k later y b none at_y below_y sy race same ev
      go k race same sx sy true true eu ev f =
          let r = parts m race.a b (subst (λ (w : Use). races m race.a w ≡ true) same race.race) in
          let x_y : same_iteration m x y ≡ true = alike_on (m.depth + 1) x.iterations race.a.iterations y.iterations (alike_back (m.depth + 1) race.a.iterations x.iterations eu) ev in
          let x_b : same_iteration m x b ≡ true = left_false (same_iteration m x y) (same_iteration m x b) x_y f in
          no_bool (same_iteration m race.a b) (alike_on (m.depth + 1) race.a.iterations x.iterations b.iterations eu x_b) r.iteration
