-- The race check, a step further.
use Rattle.std.proofs.Common.{zero, suc, [], ◌∷◌, eqb, ◌≡◌, ℕ, ◌+◌, ◌<◌, ◌≤◌, ◌⊎◌, arith, refl, ap, sym, ◌∙◌, subst, Bool, true, false, not, ◌&&◌, ◌||◌, List, length, take, get_or, Some, slice_get, if◌then◌else◌, inl, inr}
use Rattle.std.proofs.lemmas.Bool.{cases_eq, cases_lt, eqb-true}
use Rattle.std.proofs.lemmas.List.{take-take, length-take}
use Rattle.std.proofs.lemmas.Option.{slice_get-get_or, slice_get_within, slice_get_read}
use Rattle.std.proofs.lemmas.Slice.Eq.{bytes_eq-Decides}
use Rattle.sq_race.specs.Blocks.{whole, covers, overlaps}
use Rattle.sq_race.specs.Layers.{meets_any}
use Rattle.sq_ast.specs.Modes.{is_written}
use Rattle.sq_race.specs.Accesses.{counts, block_of, races, same_run, same_iteration, alike, clash, shares}
use Rattle.sq_race.specs.Pairs.{IsKept, IsMarked, AreMarked, marks_of, NoneWith, NoneYet, NoneAt, IsReady, RaceAt, IsEarliest, AreTogether, AreWithin, AreWithinTo, CountsAt, may_race}
use Rattle.sq_race.specs.Marks.{touched}
use Rattle.sq_race.specs.declared.marks.Marks.{Marks}
use Rattle.sq_forms.specs.declared.form.Use.{Use}
use Rattle.sq_race.specs.declared.map.Map.{Map}
use Rattle.sq_race.proofs.Blocks.{lies_covered}
use Rattle.sq_race.proofs.Finding.{shared, shared_left, shared_right, any_found}
use Rattle.sq_race.proofs.Shares.{blocks_overlap}

pub one_there : {A : Type 0} (xs : List A) (i j : ℕ) (a b : A) → i ≡ j → slice_get xs i ≡ Some a → slice_get xs j ≡ Some b → a ≡ b
one_there xs i j a b same p q = cc

pub none_more : (m : Map) (before : List Use) (b a : Use) (n : ℕ) → NoneWith m before b n → slice_get before n ≡ Some a → races m a b ≡ false → NoneWith m before b (n + 1)
none_more m before b a n none here apart = record {
  at = λ i x below there. elim (cases_eq i n) [
    | inl same ↦ rw (one_there before i n x a same there here) apart
    | inr other ↦ none.at i x (omega arith) there
  ];
}

pub none_all : (m : Map) (before : List Use) (b : Use) (n : ℕ) → NoneWith m before b n → length before ≤ n → (i : ℕ) (a : Use) → slice_get before i ≡ Some a → races m a b ≡ false
none_all m before b n none long i a there = let within = slice_get_within before i a there in none.at i a (omega (arith, slice_get_within before i a there)) there

pub marked_more : (m : Map) (uses : List Use) (from n : ℕ) (a : Use) (old mid new : List Marks) → AreMarked m uses from n old mid → slice_get uses n ≡ Some a → IsMarked a mid new → AreMarked m uses from (n + 1) old new
marked_more m uses from n a old mid new are here is = record {
  stay = record { size = is.stay.size ∙ are.stay.size; kept = λ x k. is.stay.kept x (are.stay.kept x k) };
  marked = λ i x low below there count. elim (cases_eq i n) [
    | inl same ↦ subst (λ (y : Use). IsKept y new) (sym (one_there uses i n x a same there here)) is.marked
    | inr other ↦ is.stay.kept x (are.marked i x low (omega arith) there count)
  ];
}

pub no_bool : (x : Bool) → x ≡ true → x ≡ false → ⊥
no_bool x p q = cc

pub marked_skip : (m : Map) (uses : List Use) (from n : ℕ) (a : Use) (old new : List Marks) → AreMarked m uses from n old new → slice_get uses n ≡ Some a → counts m a ≡ false → AreMarked m uses from (n + 1) old new
marked_skip m uses from n a old new are here apart = record {
  stay = are.stay;
  marked = λ i x low below there count. elim (cases_eq i n) [
    | inl same ↦ absurd (no_bool (counts m a) (rw (one_there uses i n x a same there here) at count) apart)
    | inr other ↦ are.marked i x low (omega arith) there count
  ];
}

-- accesses of one run, and of one iteration

pub same_numbers : (n : ℕ) (a b : List ℕ) → alike n a b ≡ true → take n a ≡ take n b
same_numbers n a b e = (bytes_eq-Decides (take n a) (take n b)).0 e

pub alike_from : (n : ℕ) (a b : List ℕ) → take n a ≡ take n b → alike n a b ≡ true
alike_from n a b e = (bytes_eq-Decides (take n a) (take n b)).1 e

take_fewer : (n : ℕ) (a : List ℕ) → take n (take (n + 1) a) ≡ take n a
take_fewer n a = take-take n (n + 1) a (omega arith)

pub alike_fewer : (n : ℕ) (a b : List ℕ) → alike (n + 1) a b ≡ true → alike n a b ≡ true
alike_fewer n a b e = alike_from n a b (sym (take_fewer n a) ∙ ap (take n) (same_numbers (n + 1) a b e) ∙ take_fewer n b)

pub alike_self : (n : ℕ) (a : List ℕ) → alike n a a ≡ true
alike_self n a = alike_from n a a refl

pub alike_back : (n : ℕ) (a b : List ℕ) → alike n a b ≡ true → alike n b a ≡ true
alike_back n a b e = alike_from n b a (sym (same_numbers n a b e))

pub alike_on : (n : ℕ) (a b c : List ℕ) → alike n a b ≡ true → alike n b c ≡ true → alike n a c ≡ true
alike_on n a b c e f = alike_from n a c (same_numbers n a b e ∙ same_numbers n b c f)

-- access number `later` is of the iteration that runs
pub ready_same : (m : Map) (uses : List Use) (later since : ℕ) (marks : List Marks) (f b : Use) → IsReady m uses later since marks → slice_get uses since ≡ Some f → slice_get uses later ≡ Some b → same_iteration m f b ≡ true → IsReady m uses (later + 1) since marks
ready_same m uses later since marks f b r at_f at_b same = record {
  within = omega (arith, r.within);
  first = r.first;
  current = λ i a f' low below there first count. elim (cases_eq i later) [
    | inl e ↦ rw (one_there uses since since f' f refl first at_f, one_there uses i later a b e there at_b) same
    | inr other ↦ r.current i a f' low (omega arith) there first count
  ];
  earlier = r.earlier;
}

-- it is none of the map
pub ready_skip : (m : Map) (uses : List Use) (later since : ℕ) (marks : List Marks) (b : Use) → IsReady m uses later since marks → slice_get uses later ≡ Some b → counts m b ≡ false → IsReady m uses (later + 1) since marks
ready_skip m uses later since marks b r at_b apart = record {
  within = omega (arith, r.within);
  first = r.first;
  current = λ i a f' low below there first count. elim (cases_eq i later) [
    | inl e ↦ absurd (no_bool (counts m b) (rw (one_there uses i later a b e there at_b) at count) apart)
    | inr other ↦ r.current i a f' low (omega arith) there first count
  ];
  earlier = r.earlier;
}

-- what is current where an iteration begins
current_self : (m : Map) (uses : List Use) (later : ℕ) (b : Use) → slice_get uses later ≡ Some b → (i : ℕ) (a f : Use) → later ≤ i → i < later + 1 → slice_get uses i ≡ Some a → slice_get uses later ≡ Some f → counts m a ≡ true → same_iteration m f a ≡ true
current_self m uses later b at_b i a f low below there first count =
    let e : i ≡ later = omega arith in
    rw (one_there uses later later f b refl first at_b, one_there uses i later a b e there at_b) (alike_self (m.depth + 1) b.iterations)

-- it begins a further iteration of the run
pub ready_run : (m : Map) (uses : List Use) (later since : ℕ) (marks new : List Marks) (f b : Use) → IsReady m uses later since marks → slice_get uses since ≡ Some f → slice_get uses later ≡ Some b → CountsAt m uses later → same_run m f b ≡ true → AreMarked m uses since later marks new → IsReady m uses (later + 1) later new
ready_run m uses later since marks new f b r at_f at_b counted same are = record {
  within = omega arith;
  first = λ _. counted;
  current = current_self m uses later b at_b;
  earlier = λ i a f' below there first count run. elim (cases_lt i since) [
    | inl less ↦
        let run_b : same_run m b a ≡ true = rw (one_there uses later later f' b refl first at_b) at run in
        are.stay.kept a (r.earlier i a f less there at_f count (alike_on m.depth f.iterations b.iterations a.iterations same run_b))
    | inr more ↦ are.marked i a more below there count
  ];
}

-- it begins a further run
pub ready_new : (m : Map) (uses : List Use) (later since : ℕ) (marks new : List Marks) (f b : Use) → AreTogether m uses → IsReady m uses later since marks → slice_get uses since ≡ Some f → slice_get uses later ≡ Some b → CountsAt m uses later → same_run m f b ≡ false → IsReady m uses (later + 1) later new
ready_new m uses later since marks new f b together r at_f at_b counted apart = record {
  within = omega arith;
  first = λ _. counted;
  current = current_self m uses later b at_b;
  earlier = λ i a f' below there first count run.
      let run_b : same_run m b a ≡ true = rw (one_there uses later later f' b refl first at_b) at run in
      absurd (elim (cases_lt i since) [
        | inl less ↦ elim (cases_lt since later) [
          | inl inside ↦ no_bool (same_run m f b) (together.at i since later a f b less inside there at_f at_b count ((r.first (omega arith)).at f at_f) (counted.at b at_b) (alike_back m.depth b.iterations a.iterations run_b)) apart
          | inr past ↦ no_bool (same_run m f b) (rw (one_there uses since later f b (omega (arith, r.within)) at_f at_b) (alike_self m.depth b.iterations)) apart
        ]
        | inr more ↦ no_bool (same_run m f b) (alike_on m.depth f.iterations a.iterations b.iterations (alike_fewer m.depth f.iterations a.iterations (r.current i a f more below there at_f count)) (alike_back m.depth b.iterations a.iterations run_b)) apart
      ]);
}

pub both : (x y : Bool) → (x && y) ≡ true → (x ≡ true) × (y ≡ true)
both true y e = (refl, e)
both false y e = absurd (no_bool false e refl)

pub not_true : (x : Bool) → not x ≡ true → x ≡ false
not_true true e = absurd (no_bool false e refl)
not_true false e = refl

-- the parts of a race
pub record Parts (m : Map) (a b : Use) : Type 0 where
  pub one : counts m a ≡ true
  pub other : counts m b ≡ true
  pub run : same_run m a b ≡ true
  pub iteration : same_iteration m a b ≡ false
  pub array : a.array ≡ b.array
  pub write : (is_written a.mode || is_written b.mode) ≡ true
  pub share : shares a.rect b.rect ≡ true
  pub place : overlaps (block_of a.rect) (block_of b.rect) ≡ true

pub parts : (m : Map) (a b : Use) → races m a b ≡ true → Parts m a b
parts m a b e =
    let p = both (counts m a && counts m b && same_run m a b && not (same_iteration m a b)) (clash a b) e in
    let q = both (counts m a && counts m b && same_run m a b) (not (same_iteration m a b)) p.0 in
    let r = both (counts m a && counts m b) (same_run m a b) q.0 in
    let s = both (counts m a) (counts m b) r.0 in
    let t = both (eqb a.array b.array && (is_written a.mode || is_written b.mode)) (shares a.rect b.rect) p.1 in
    let u = both (eqb a.array b.array) (is_written a.mode || is_written b.mode) t.0 in
    record { one = s.0; other = s.1; run = r.1; iteration = not_true (same_iteration m a b) q.1; array = eqb-true a.array b.array u.0; write = u.1; share = t.1; place = blocks_overlap a.rect b.rect t.1 }

-- an access that is marked is found by one that clashes with it
found_by : (w v : Bool) (marks : List Marks) (a b : Use) → is_written a.mode ≡ v → is_written b.mode ≡ w → (v || w) ≡ true → IsKept a marks → a.array ≡ b.array → overlaps (block_of a.rect) (block_of b.rect) ≡ true → covers whole (block_of b.rect) ≡ true → meets_any (if w then touched (marks_of marks a.array) else (marks_of marks a.array).written) (block_of b.rect) ≡ true
found_by true v marks a b ea eb e kept array place bounded =
    let c = shared (block_of a.rect) (block_of b.rect) in
    let inside = shared_right (block_of a.rect) (block_of b.rect) place in
    any_found (touched (marks_of marks a.array)) (block_of b.rect) c inside (kept.touched c (shared_left (block_of a.rect) (block_of b.rect) place) (lies_covered c whole (block_of b.rect) bounded inside))
found_by false true marks a b ea eb e kept array place bounded =
    let c = shared (block_of a.rect) (block_of b.rect) in
    let inside = shared_right (block_of a.rect) (block_of b.rect) place in
    any_found (marks_of marks a.array).written (block_of b.rect) c inside (kept.written ea c (shared_left (block_of a.rect) (block_of b.rect) place) (lies_covered c whole (block_of b.rect) bounded inside))
found_by false false marks a b ea eb e kept array place bounded = absurd (no_bool false e refl)

found : (m : Map) (marks : List Marks) (a b : Use) → Parts m a b → IsKept a marks → covers whole (block_of b.rect) ≡ true → may_race marks b ≡ true
found m marks a b p kept bounded = rw (sym p.array) (found_by (is_written b.mode) (is_written a.mode) marks a b refl refl p.write kept p.array p.place bounded)

-- where nothing is found there is no race
none_apart : (m : Map) (uses : List Use) (later since : ℕ) (marks : List Marks) (f b : Use) → IsReady m uses (later + 1) since marks → slice_get uses since ≡ Some f → slice_get uses later ≡ Some b → may_race marks b ≡ false → covers whole (block_of b.rect) ≡ true → (i : ℕ) (a : Use) → i < later → slice_get uses i ≡ Some a → races m a b ≡ true → ⊥
none_apart m uses later since marks f b r at_f at_b nothing bounded i a below there race =
    let p = parts m a b race in
    let current_b = r.current later b f (omega (arith, r.within)) (omega arith) at_b at_f p.other in
    elim (cases_lt i since) [
      | inl less ↦
          let run : same_run m f a ≡ true = alike_on m.depth f.iterations b.iterations a.iterations (alike_fewer m.depth f.iterations b.iterations current_b) (alike_back m.depth a.iterations b.iterations p.run) in
          no_bool (may_race marks b) (found m marks a b p (r.earlier i a f less there at_f p.one run) bounded) nothing
      | inr more ↦
          let current_a = r.current i a f more (omega arith) there at_f p.one in
          no_bool (same_iteration m a b) (alike_on (m.depth + 1) a.iterations f.iterations b.iterations (alike_back (m.depth + 1) f.iterations a.iterations current_a) current_b) p.iteration
    ]

pub none_found : (m : Map) (uses : List Use) (later since : ℕ) (marks : List Marks) (b : Use) → IsReady m uses (later + 1) since marks → slice_get uses later ≡ Some b → may_race marks b ≡ false → covers whole (block_of b.rect) ≡ true → NoneAt m uses later
none_found m uses later since marks b r at_b nothing bounded =
    let inside = slice_get_within uses later b at_b in
    let at_f = slice_get-get_or uses since b (omega (arith, r.within, slice_get_within uses later b at_b)) in
    record { at = λ i race. none_apart m uses later since marks (get_or uses since b) b r at_f at_b nothing bounded i race.a race.before race.at_earlier (subst (λ (y : Use). races m race.a y ≡ true) (one_there uses later later race.b b refl race.at_later at_b) race.race) }

pub none_of_map : (m : Map) (uses : List Use) (later : ℕ) (b : Use) → slice_get uses later ≡ Some b → counts m b ≡ false → NoneAt m uses later
none_of_map m uses later b at_b apart = record {
  at = λ i race. no_bool (counts m b) (rw (one_there uses later later race.b b refl race.at_later at_b) at ((parts m race.a race.b race.race).other)) apart;
}

pub slice_get_take : {A : Type 0} (n : ℕ) (xs : List A) (i : ℕ) → i < n → slice_get (take n xs) i ≡ slice_get xs i
slice_get_take zero xs i below = absurd (omega arith)
slice_get_take (suc n) [] i below = refl
slice_get_take (suc n) (x ∷ xs) zero below = refl
slice_get_take (suc n) (x ∷ xs) (suc i) below = slice_get_take n xs i (omega arith)

-- where the search for the earliest finds none
pub none_earliest : (m : Map) (uses : List Use) (later : ℕ) (b : Use) → slice_get uses later ≡ Some b → ((i : ℕ) (a : Use) → slice_get (take later uses) i ≡ Some a → races m a b ≡ false) → NoneAt m uses later
none_earliest m uses later b at_b none = record {
  at = λ i race. no_bool (races m race.a b) (subst (λ (y : Use). races m race.a y ≡ true) (one_there uses later later race.b b refl race.at_later at_b) race.race) (none i race.a (slice_get_take later uses i race.before ∙ race.at_earlier));
}

pub none_yet : (m : Map) (uses : List Use) (later : ℕ) → NoneYet m uses later → NoneAt m uses later → NoneYet m uses (later + 1)
none_yet m uses later before here = record {
  at = λ i j below race. elim (cases_eq j later) [
    | inl e ↦ here.at i (subst (λ (n : ℕ). RaceAt m uses i n) e race)
    | inr other ↦ before.at i j (omega arith) race
  ];
}

pub none_at_all : (m : Map) (uses : List Use) (n : ℕ) → NoneYet m uses n → length uses ≤ n → (i j : ℕ) → RaceAt m uses i j → ⊥
none_at_all m uses n none long i j race = none.at i j (omega (arith, slice_get_within uses j race.b race.at_later)) race

-- the first race
pub first_is : (m : Map) (uses : List Use) (earlier later : ℕ) (b : Use) → NoneYet m uses later → slice_get uses later ≡ Some b → IsEarliest m (take later uses) b (Some earlier) → RaceAt m uses earlier later × ((i j : ℕ) → RaceAt m uses i j → (later < j) ⊎ ((later ≡ j) × (earlier ≤ i)))
first_is m uses earlier later b none at_b is =
    let below : earlier < later = omega (arith, slice_get_within (take later uses) earlier is.0.0 is.0.1, length-take later uses) in (
      record { a = is.0.0; b = b; at_earlier = sym (slice_get_take later uses earlier below) ∙ is.0.1; at_later = at_b; before = below; race = is.0.2 },
      λ i j race. elim (cases_lt j later) [
        | inl less ↦ absurd (none.at i j less race)
        | inr more ↦ elim (cases_eq j later) [
          | inr other ↦ inl (omega arith)
          | inl same ↦ inr (
            sym same,
            elim (cases_lt i earlier) [
              | inr long ↦ long
              | inl less ↦
                  let here = subst (λ (n : ℕ). RaceAt m uses i n) same race in
                  absurd (no_bool (races m here.a b) (subst (λ (y : Use). races m here.a y ≡ true) (one_there uses later later here.b b refl here.at_later at_b) here.race) (is.1 i here.a less (slice_get_take later uses i here.before ∙ here.at_earlier)))
            ],
          )
        ]
      ],
    )

pub read : {A : Type 0} (xs : List A) (i : ℕ) (x : A) → i < length xs → x ≡ get_or xs i x → slice_get xs i ≡ Some x
read xs i x below is = slice_get_read xs (length xs) i x refl below is

pub marked_fewer : (m : Map) (uses : List Use) (from n to : ℕ) (old new : List Marks) → AreMarked m uses from n old new → to ≤ n → AreMarked m uses from to old new
marked_fewer m uses from n to old new are fewer = record { stay = are.stay; marked = λ i x low below there count. are.marked i x low (omega arith) there count }

pub within_more : (count more n : ℕ) (uses : List Use) (b : Use) → AreWithinTo count n uses → slice_get uses n ≡ Some b → count ≤ more → b.array < more → AreWithinTo more (n + 1) uses
within_more count more n uses b are at_b grown here = record {
  at = λ i a below there. elim (cases_eq i n) [
    | inl same ↦ rw (one_there uses i n a b same there at_b) here
    | inr other ↦ omega (arith, are.at i a (omega arith) there)
  ];
}

pub within_all : (count n : ℕ) (uses : List Use) → AreWithinTo count n uses → length uses ≤ n → AreWithin count uses
within_all count n uses are long = record { at = λ i a there. are.at i a (omega (arith, slice_get_within uses i a there)) there }
