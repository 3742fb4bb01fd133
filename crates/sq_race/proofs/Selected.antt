-- A list that has all accesses that matter has the same first race.
use Rattle.std.proofs.Common.{◌≡◌, ℕ, zero, suc, ◌+◌, ◌<◌, ◌≤◌, arith, refl, ap, sym, ◌∙◌, subst, Bool, true, false, not, ◌&&◌, ◌||◌, eqb, List, [], ◌∷◌, ◌++◌, length, Option, Some, None, slice_get, get_or, inl, inr, if◌then◌else◌}
use Rattle.std.proofs.lemmas.Grind.{common_steps}
use Rattle.std.proofs.lemmas.Bool.{cases_eq, cases_lt, eq-eqb}
use Rattle.std.proofs.lemmas.Option.{slice_get_within, slice_get-get_or}
use Rattle.sq_text.specs.declared.place.Span.{Span}
use Rattle.sq_forms.specs.declared.form.Use.{Use}
use Rattle.sq_ast.specs.Modes.{is_written}
use Rattle.sq_race.specs.Accesses.{counts}
use Rattle.sq_race.specs.Order.{round}
use Rattle.sq_race.specs.Pairs.{RaceAt}
use Rattle.sq_race.specs.Least.{ComesFirst, IsLeast, IsLeastPair}
use Rattle.sq_race.specs.Selection.{passes, those, and_more, taken, has, adds_write, with_write, written, is_of, is_within, all_below, AllAbove, Rises, IsIn, HaveAll, HaveAllOf, AreInside, renumbered}
use Rattle.sq_race.specs.declared.map.Map.{Map}
use Rattle.sq_race.specs.declared.pairs.Pair.{Pair}
use Rattle.sq_race.proofs.Steps.{one_there, no_bool, parts}

-- ---- numbers that rise

above_if : (b : Bool) (k n : ℕ) (more : List ℕ) → k < n → AllAbove k more → AllAbove k (if b then n ∷ more else more)
above_if true k n more less above = (less, above)
above_if false k n more less above = above

above_those : (test : Use → Bool) (uses : List Use) (k : ℕ) (ns : List ℕ) → AllAbove k ns → AllAbove k (those test uses ns)
above_those test uses k [] above = tt
above_those test uses k (n ∷ ns) above = above_if (passes test (slice_get uses n)) k n (those test uses ns) above.0 (above_those test uses k ns above.1)

rises_if : (b : Bool) (n : ℕ) (more : List ℕ) → AllAbove n more → Rises more → Rises (if b then n ∷ more else more)
rises_if true n more above rises = (above, rises)
rises_if false n more above rises = rises

pub rises_those : (test : Use → Bool) (uses : List Use) (ns : List ℕ) → Rises ns → Rises (those test uses ns)
rises_those test uses [] rises = tt
rises_those test uses (n ∷ ns) rises = rises_if (passes test (slice_get uses n)) n (those test uses ns) (above_those test uses n ns rises.0) (rises_those test uses ns rises.1)

above_at : (n k : ℕ) (ns : List ℕ) (j : ℕ) → AllAbove n ns → slice_get ns j ≡ Some k → n < k
above_at n k [] j above at_j = absurd (cc)
above_at n k (x ∷ ns) zero above at_j = let e : x ≡ k = cc in rw (sym e) above.0
above_at n k (x ∷ ns) (suc j) above at_j = above_at n k ns j above.1 at_j

pub rises_at : (ns : List ℕ) (i j n k : ℕ) → Rises ns → i < j → slice_get ns i ≡ Some n → slice_get ns j ≡ Some k → n < k
rises_at [] i j n k rises less at_i at_j = absurd (cc)
rises_at (x ∷ ns) i zero n k rises less at_i at_j = absurd (omega arith)
rises_at (x ∷ ns) zero (suc j) n k rises less at_i at_j = let e : x ≡ n = cc in rw (sym e) (above_at x k ns j rises.0 at_j)
rises_at (x ∷ ns) (suc i) (suc j) n k rises less at_i at_j = rises_at ns i j n k rises.1 (omega arith) at_i at_j

-- the places of numbers are ordered as they are
place_before : (ns : List ℕ) (i j n k : ℕ) → Rises ns → n < k → slice_get ns i ≡ Some n → slice_get ns j ≡ Some k → i < j
place_before ns i j n k rises less at_i at_j = elim (cases_lt i j) [
  | inl is ↦ is
  | inr more ↦ absurd (elim (cases_eq i j) [
    | inl same ↦ let e = one_there ns i j n k same at_i at_j in omega (arith, e)
    | inr other ↦ let e = rises_at ns j i k n rises (omega arith) at_j at_i in omega (arith, e)
  ])
]

above_end : (k n : ℕ) (ns : List ℕ) → AllAbove k ns → k < n → AllAbove k (ns ++ n ∷ [])
above_end k n [] above less = (less, tt)
above_end k n (x ∷ ns) above less = (above.0, above_end k n ns above.1 less)

-- each is less than n
abbrev pub AllBelow : ℕ → List ℕ → Type 0
AllBelow n [] = Unit {0}
AllBelow n (k ∷ ns) = (k < n) × AllBelow n ns

rises_end : (n : ℕ) (ns : List ℕ) → Rises ns → AllBelow n ns → Rises (ns ++ n ∷ [])
rises_end n [] rises below = (tt, tt)
rises_end n (x ∷ ns) rises below = (above_end x n ns rises.0 below.0, rises_end n ns rises.1 below.1)

below_end : (n k : ℕ) (ns : List ℕ) → AllBelow n ns → k < n → AllBelow n (ns ++ k ∷ [])
below_end n k [] below less = (less, tt)
below_end n k (x ∷ ns) below less = (below.0, below_end n k ns below.1 less)

below_more : (n : ℕ) (ns : List ℕ) → AllBelow n ns → AllBelow (suc n) ns
below_more n [] below = tt
below_more n (x ∷ ns) below = (omega (arith, below.0), below_more n ns below.1)

below_all : (n : ℕ) → AllBelow n (all_below n)
below_all zero = tt
below_all (suc n) = below_end (suc n) n (all_below n) (below_more n (all_below n) (below_all n)) (omega arith)

pub rises_all : (n : ℕ) → Rises (all_below n)
rises_all zero = tt
rises_all (suc n) = rises_end n (all_below n) (rises_all n) (below_all n)

-- ---- what is in a list

in_more : (n k : ℕ) (ns : List ℕ) → IsIn n ns → IsIn n (k ∷ ns)
in_more n k ns is = record { place = suc is.place; is = is.is }

in_if : (b : Bool) (n k : ℕ) (more : List ℕ) → IsIn n more → IsIn n (if b then k ∷ more else more)
in_if true n k more is = in_more n k more is
in_if false n k more is = is

in_front : (b : Bool) (n : ℕ) (more : List ℕ) → b ≡ true → IsIn n (if b then n ∷ more else more)
in_front true n more e = record { place = 0; is = refl }
in_front false n more e = absurd (no_bool false e refl)

in_those_at : (test : Use → Bool) (uses : List Use) (n : ℕ) (u : Use) (ns : List ℕ) (place : ℕ) → slice_get ns place ≡ Some n → slice_get uses n ≡ Some u → test u ≡ true → IsIn n (those test uses ns)
in_those_at test uses n u [] place at_n at_u e = absurd (cc)
in_those_at test uses n u (k ∷ ns) zero at_n at_u e =
    let same : n ≡ k = cc in
    subst (λ (x : ℕ). IsIn n (if passes test (slice_get uses x) then x ∷ those test uses ns else those test uses ns)) same (in_front (passes test (slice_get uses n)) n (those test uses ns) (ap (passes test) at_u ∙ e))
in_those_at test uses n u (k ∷ ns) (suc place) at_n at_u e = in_if (passes test (slice_get uses k)) n k (those test uses ns) (in_those_at test uses n u ns place at_n at_u e)

pub in_those : (test : Use → Bool) (uses : List Use) (n : ℕ) (u : Use) (ns : List ℕ) → IsIn n ns → slice_get uses n ≡ Some u → test u ≡ true → IsIn n (those test uses ns)
in_those test uses n u ns is at_u e = in_those_at test uses n u ns is.place is.is at_u e

in_end : (n k : ℕ) (ns : List ℕ) (place : ℕ) → slice_get ns place ≡ Some n → IsIn n (ns ++ k ∷ [])
in_end n k [] place e = absurd (cc)
in_end n k (x ∷ ns) zero e = record { place = 0; is = e }
in_end n k (x ∷ ns) (suc place) e = in_more n x (ns ++ k ∷ []) (in_end n k ns place e)

in_last : (n : ℕ) (ns : List ℕ) → IsIn n (ns ++ n ∷ [])
in_last n [] = record { place = 0; is = refl }
in_last n (x ∷ ns) = in_more n x (ns ++ n ∷ []) (in_last n ns)

pub in_all : (n count : ℕ) → n < count → IsIn n (all_below count)
in_all n zero less = absurd (omega arith)
in_all n (suc count) less = elim (cases_eq n count) [
  | inl same ↦ subst (λ (k : ℕ). IsIn n (all_below count ++ k ∷ [])) same (in_last n (all_below count))
  | inr other ↦ let is = in_all n count (omega arith) in in_end n count (all_below count) is.place is.is
]

all_of_all : (maps : List Map) (uses : List Use) (from to : ℕ) → HaveAllOf maps from to uses (all_below (length uses))
all_of_all maps uses from to = record {
  rises = rises_all (length uses);
  all = λ k m low below at_m n u at_u count. in_all n (length uses) (slice_get_within uses n u at_u);
}

pub all_of_list : (maps : List Map) (uses : List Use) (from to : ℕ) (ns : List ℕ) → ns ≡ all_below (length uses) → HaveAllOf maps from to uses ns
all_of_list maps uses from to ns e = subst (λ (xs : List ℕ). HaveAllOf maps from to uses xs) (sym e) (all_of_all maps uses from to)

-- ---- fewer maps

inside_calls : (m : Map) (calls : Span) (u : Use) → counts m u ≡ true → calls.lo ≤ m.calls.lo → m.calls.hi ≤ calls.hi → is_within calls u ≡ true
inside_calls m calls u e low high = grind (arith, common_steps)

all_of_fewer : (maps : List Map) (uses : List Use) (from to a b : ℕ) (ns : List ℕ) (calls : Span) → HaveAllOf maps from to uses ns → from ≤ a → b ≤ to → AreInside maps a b calls → HaveAllOf maps a b uses (those (is_within calls) uses ns)
all_of_fewer maps uses from to a b ns calls have low high inside = record {
  rises = rises_those (is_within calls) uses ns have.rises;
  all = λ k m above below at_m n u at_u count.
      let is = inside.at k m above below at_m in
      in_those (is_within calls) uses n u ns (have.all k m (omega arith) (omega arith) at_m n u at_u count) at_u (inside_calls m calls u count is.0 is.1);
}

pub all_of_half : (maps : List Map) (uses : List Use) (from to a b : ℕ) (ns new : List ℕ) (calls : Span) → HaveAllOf maps from to uses ns → from ≤ a → b ≤ to → AreInside maps a b calls → new ≡ those (is_within calls) uses ns → HaveAllOf maps a b uses new
all_of_half maps uses from to a b ns new calls have low high inside e = subst (λ (xs : List ℕ). HaveAllOf maps a b uses xs) (sym e) (all_of_fewer maps uses from to a b ns calls have low high inside)

pub all_of_one : (maps : List Map) (uses : List Use) (from to k : ℕ) (m : Map) (ns : List ℕ) → HaveAllOf maps from to uses ns → from ≤ k → k < to → slice_get maps k ≡ Some m → HaveAll m uses ns
all_of_one maps uses from to k m ns have low high at_m = record { rises = have.rises; all = λ n u at_u count. have.all k m low high at_m n u at_u count }

pub inside_none : (maps : List Map) (from to : ℕ) (calls : Span) → to ≤ from → AreInside maps from to calls
inside_none maps from to calls few = record { at = λ k m low below there. absurd (omega arith) }

pub inside_more : (maps : List Map) (from n : ℕ) (calls new : Span) (m : Map) → AreInside maps from n calls → slice_get maps n ≡ Some m → new.lo ≤ calls.lo → new.lo ≤ m.calls.lo → calls.hi ≤ new.hi → m.calls.hi ≤ new.hi → AreInside maps from (n + 1) new
inside_more maps from n calls new m are at_m p q r s = record {
  at = λ k m' low below there. elim (cases_eq k n) [
    | inl same ↦ rw (one_there maps k n m' m same there at_m) (q, s)
    | inr other ↦ let is = are.at k m' low (omega arith) there in (omega (arith, is.0), omega (arith, is.1))
  ];
}

pub inside_fewer : (maps : List Map) (from n to : ℕ) (calls : Span) → AreInside maps from n calls → to ≤ n → AreInside maps from to calls
inside_fewer maps from n to calls are fewer = record { at = λ k m low below there. are.at k m low (omega arith) there }

-- ---- arrays that are written

has_end : (arrays : List ℕ) (n x : ℕ) → has arrays x ≡ true → has (arrays ++ n ∷ []) x ≡ true
has_end [] n x e = absurd (no_bool false e refl)
has_end (k ∷ arrays) n x e = more (eqb k x) (has arrays x) (has (arrays ++ n ∷ []) x) (has_end arrays n x) e where
  more : (b c d : Bool) → (c ≡ true → d ≡ true) → (b || c) ≡ true → (b || d) ≡ true
  more true c d f p = refl
  more false c d f p = f p

has_last : (arrays : List ℕ) (x : ℕ) → has (arrays ++ x ∷ []) x ≡ true
has_last [] x = grind (arith, common_steps, eq-eqb x x refl)
has_last (k ∷ arrays) x = more (eqb k x) (has (arrays ++ x ∷ []) x) (has_last arrays x) where
  more : (b d : Bool) → d ≡ true → (b || d) ≡ true
  more true d e = refl
  more false d e = e

has_if : (b : Bool) (arrays : List ℕ) (n x : ℕ) → has arrays x ≡ true → has (if b then arrays ++ n ∷ [] else arrays) x ≡ true
has_if true arrays n x e = has_end arrays n x e
has_if false arrays n x e = e

has_with : (m : Map) (arrays : List ℕ) (o : Option Use) (x : ℕ) → has arrays x ≡ true → has (with_write m arrays o) x ≡ true
has_with m arrays None x e = e
has_with m arrays (Some u) x e = has_if (adds_write m arrays u) arrays u.array x e

has_written : (m : Map) (uses : List Use) (arrays ns : List ℕ) (x : ℕ) → has arrays x ≡ true → has (written m uses arrays ns) x ≡ true
has_written m uses arrays [] x e = e
has_written m uses arrays (n ∷ ns) x e = has_written m uses (with_write m arrays (slice_get uses n)) ns x (has_with m arrays (slice_get uses n) x e)

has_it : (b : Bool) (arrays : List ℕ) (x : ℕ) → not (has arrays x) ≡ b → has (if b then arrays ++ x ∷ [] else arrays) x ≡ true
has_it true arrays x e = has_last arrays x
has_it false arrays x e = go (has arrays x) refl e where
  go : (c : Bool) → has arrays x ≡ c → not c ≡ false → has arrays x ≡ true
  go true p q = p
  go false p q = absurd (no_bool true refl q)

adds_it : (m : Map) (arrays : List ℕ) (u : Use) → counts m u ≡ true → is_written u.mode ≡ true → not (has arrays u.array) ≡ adds_write m arrays u
adds_it m arrays u p q = grind (arith, common_steps)

has_now : (m : Map) (arrays : List ℕ) (o : Option Use) (u : Use) → o ≡ Some u → counts m u ≡ true → is_written u.mode ≡ true → has (with_write m arrays o) u.array ≡ true
has_now m arrays o u e p q = rw e (has_it (adds_write m arrays u) arrays u.array (adds_it m arrays u p q))

has_at : (m : Map) (uses : List Use) (arrays ns : List ℕ) (n place : ℕ) (u : Use) → slice_get ns place ≡ Some n → slice_get uses n ≡ Some u → counts m u ≡ true → is_written u.mode ≡ true → has (written m uses arrays ns) u.array ≡ true
has_at m uses arrays [] n place u at_n at_u p q = absurd (cc)
has_at m uses arrays (k ∷ ns) n zero u at_n at_u p q =
    let same : n ≡ k = cc in
    has_written m uses (with_write m arrays (slice_get uses k)) ns u.array (has_now m arrays (slice_get uses k) u (ap (slice_get uses) (sym same) ∙ at_u) p q)
has_at m uses arrays (k ∷ ns) n (suc place) u at_n at_u p q = has_at m uses (with_write m arrays (slice_get uses k)) ns n place u at_n at_u p q

-- ---- the same first race

-- all are numbers of accesses
abbrev pub Present : List Use → List ℕ → Type 0
Present uses [] = Unit {0}
Present uses (n ∷ ns) = (n < length uses) × Present uses ns

passes_within : (test : Use → Bool) (uses : List Use) (n : ℕ) → passes test (slice_get uses n) ≡ true → n < length uses
passes_within test uses n e = go (slice_get uses n) refl e where
  go : (o : Option Use) → slice_get uses n ≡ o → passes test o ≡ true → n < length uses
  go None at_n p = absurd (no_bool false p refl)
  go (Some u) at_n p = slice_get_within uses n u at_n

present_if : (b : Bool) (uses : List Use) (n : ℕ) (more : List ℕ) → (b ≡ true → n < length uses) → Present uses more → Present uses (if b then n ∷ more else more)
present_if true uses n more within present = (within refl, present)
present_if false uses n more within present = present

present_those : (test : Use → Bool) (uses : List Use) (ns : List ℕ) → Present uses (those test uses ns)
present_those test uses [] = tt
present_those test uses (n ∷ ns) = present_if (passes test (slice_get uses n)) uses n (those test uses ns) (passes_within test uses n) (present_those test uses ns)

-- the number of an access that is taken
pub record NumberOf (uses : List Use) (ns : List ℕ) (i : ℕ) (u : Use) : Type 0 where
  pub n : ℕ
  pub at_n : slice_get ns i ≡ Some n
  pub at_u : slice_get uses n ≡ Some u

taken_at : (uses : List Use) (ns : List ℕ) (i n : ℕ) (u : Use) → Present uses ns → slice_get ns i ≡ Some n → slice_get uses n ≡ Some u → slice_get (taken uses ns) i ≡ Some u
taken_at uses [] i n u present at_n at_u = absurd (cc)
taken_at uses (x ∷ ns) zero n u present at_n at_u =
    let same : n ≡ x = cc in
    let at_x : slice_get uses x ≡ Some u = ap (slice_get uses) (sym same) ∙ at_u in
    rw at_x refl
taken_at uses (x ∷ ns) (suc i) n u present at_n at_u =
    let at_x = slice_get-get_or uses x u present.0 in
    rw at_x (taken_at uses ns i n u present.1 at_n at_u)

number_front : (uses : List Use) (ns : List ℕ) (x : ℕ) (v u : Use) → slice_get uses x ≡ Some v → v ≡ u → NumberOf uses (x ∷ ns) 0 u
number_front uses ns x v u at_x same = record { n = x; at_n = refl; at_u = at_x ∙ ap Some same }

taken_from : (uses : List Use) (ns : List ℕ) (i : ℕ) (u : Use) → Present uses ns → slice_get (taken uses ns) i ≡ Some u → NumberOf uses ns i u
taken_from uses [] i u present at_i = absurd (cc)
taken_from uses (x ∷ ns) zero u present at_i =
    let at_x = slice_get-get_or uses x u present.0 in
    let front : Some (get_or uses x u) ≡ Some u = subst (λ (o : Option Use). slice_get (and_more o (taken uses ns)) 0 ≡ Some u) at_x at_i in
    number_front uses ns x (get_or uses x u) u at_x (cc)
taken_from uses (x ∷ ns) (suc i) u present at_i =
    let at_x = slice_get-get_or uses x u present.0 in
    let rest = taken_from uses ns i u present.1 (subst (λ (o : Option Use). slice_get (and_more o (taken uses ns)) (suc i) ≡ Some u) at_x at_i) in
    record { n = rest.n; at_n = rest.at_n; at_u = rest.at_u }

-- the numbers of the accesses of every race are among these
pub record HaveRaces (m : Map) (uses : List Use) (ns : List ℕ) : Type 0 where
  pub rises : Rises ns
  pub present : Present uses ns
  pub race : (i j : ℕ) → RaceAt m uses i j → IsIn i ns × IsIn j ns

race_taken : (m : Map) (uses : List Use) (ns : List ℕ) (i j : ℕ) (have : HaveRaces m uses ns) (y : RaceAt m uses i j) → (p : IsIn i ns) (q : IsIn j ns) → RaceAt m (taken uses ns) p.place q.place
race_taken m uses ns i j have y p q = record {
  a = y.a;
  b = y.b;
  at_earlier = taken_at uses ns p.place i y.a have.present p.is y.at_earlier;
  at_later = taken_at uses ns q.place j y.b have.present q.is y.at_later;
  before = place_before ns p.place q.place i j have.rises y.before p.is q.is;
  race = y.race;
}

number_is : (ns : List ℕ) (i n : ℕ) → slice_get ns i ≡ Some n → get_or ns i 0 ≡ n
number_is ns i n e = let f = slice_get-get_or ns i 0 (slice_get_within ns i n e) in cc

not_after_at : (ns : List ℕ) (i j n k : ℕ) → Rises ns → i ≤ j → slice_get ns i ≡ Some n → slice_get ns j ≡ Some k → n ≤ k
not_after_at ns i j n k rises few at_i at_j = elim (cases_eq i j) [
  | inl same ↦ let e = one_there ns i j n k same at_i at_j in omega (arith, e)
  | inr other ↦ let e = rises_at ns i j n k rises (omega arith) at_i at_j in omega (arith, e)
]

comes_there : (ns : List ℕ) (r s : List ℕ) (p : Pair) (e l i j i' j' : ℕ) → Rises ns → slice_get ns p.earlier ≡ Some e → slice_get ns p.later ≡ Some l → slice_get ns i ≡ Some i' → slice_get ns j ≡ Some j' → ComesFirst r p s i j → ComesFirst r (record { later = l; earlier = e }) s i' j'
comes_there ns r s p e l i j i' j' rises at_e at_l at_i at_j (inl less) = inl less
comes_there ns r s p e l i j i' j' rises at_e at_l at_i at_j (inr (same, inl less)) = inr (same, inl (rises_at ns p.later j l j' rises less at_l at_j))
comes_there ns r s p e l i j i' j' rises at_e at_l at_i at_j (inr (same, inr equal)) =
    inr (same, inr (one_there ns p.later j l j' equal.0 at_l at_j, not_after_at ns p.earlier i e i' rises equal.1 at_e at_i))

least_pair_there : (m : Map) (uses : List Use) (ns : List ℕ) (p : Pair) → HaveRaces m uses ns → (is : IsLeastPair m (taken uses ns) p) → (e : NumberOf uses ns p.earlier is.race.a) (l : NumberOf uses ns p.later is.race.b) → IsLeastPair m uses (record { later = l.n; earlier = e.n })
unfolding race_taken
least_pair_there m uses ns p have is e l = record {
  race = record { a = is.race.a; b = is.race.b; at_earlier = e.at_u; at_later = l.at_u; before = rises_at ns p.earlier p.later e.n l.n have.rises is.race.before e.at_n l.at_n; race = is.race.race };
  least = λ i j y.
      let among = have.race i j y in
      comes_there ns (round m is.race.b) (round m y.b) p e.n l.n among.0.place among.1.place i j have.rises e.at_n l.at_n among.0.is among.1.is (is.least among.0.place among.1.place (race_taken m uses ns i j have y among.0 among.1));
}

pub least_there : (m : Map) (uses : List Use) (ns : List ℕ) (o : Option Pair) → HaveRaces m uses ns → IsLeast m (taken uses ns) o → IsLeast m uses (renumbered ns o)
least_there m uses ns None have none = λ i j y. let among = have.race i j y in none among.0.place among.1.place (race_taken m uses ns i j have y among.0 among.1)
least_there m uses ns (Some p) have is =
    let e = taken_from uses ns p.earlier is.race.a have.present is.race.at_earlier in
    let l = taken_from uses ns p.later is.race.b have.present is.race.at_later in
    subst (λ (n : ℕ). IsLeastPair m uses (record { later = get_or ns p.later 0; earlier = n })) (sym (number_is ns p.earlier e.n e.at_n))
    (subst (λ (n : ℕ). IsLeastPair m uses (record { later = n; earlier = e.n })) (sym (number_is ns p.later l.n l.at_n)) (least_pair_there m uses ns p have is e l))

one_writes : (m : Map) (uses : List Use) (ns : List ℕ) (a b : Use) (i j : ℕ) (p : IsIn i ns) (q : IsIn j ns) (wa wb : Bool) → slice_get uses i ≡ Some a → slice_get uses j ≡ Some b → counts m a ≡ true → counts m b ≡ true → is_written a.mode ≡ wa → is_written b.mode ≡ wb → (wa || wb) ≡ true → a.array ≡ b.array → has (written m uses [] ns) a.array ≡ true
one_writes m uses ns a b i j p q true wb at_a at_b ca cb ea eb e same = has_at m uses [] ns i p.place a p.is at_a ca ea
one_writes m uses ns a b i j p q false true at_a at_b ca cb ea eb e same = rw same (has_at m uses [] ns j q.place b q.is at_b cb eb)
one_writes m uses ns a b i j p q false false at_a at_b ca cb ea eb e same = absurd (no_bool false e refl)

both_true : (x y : Bool) → x ≡ true → y ≡ true → (x && y) ≡ true
both_true x y p q = grind (arith, common_steps)

pub have_races : (m : Map) (uses : List Use) (ns : List ℕ) → HaveAll m uses ns → HaveRaces m uses (those (is_of m (written m uses [] ns)) uses ns)
have_races m uses ns have = record {
  rises = rises_those (is_of m (written m uses [] ns)) uses ns have.rises;
  present = present_those (is_of m (written m uses [] ns)) uses ns;
  race = λ i j y.
      let p = parts m y.a y.b y.race in
      let in_a = have.all i y.a y.at_earlier p.one in
      let in_b = have.all j y.b y.at_later p.other in
      let known = one_writes m uses ns y.a y.b i j in_a in_b (is_written y.a.mode) (is_written y.b.mode) y.at_earlier y.at_later p.one p.other refl refl p.write p.array in (
        in_those (is_of m (written m uses [] ns)) uses i y.a ns in_a y.at_earlier (both_true (counts m y.a) (has (written m uses [] ns) y.a.array) p.one known),
        in_those (is_of m (written m uses [] ns)) uses j y.b ns in_b y.at_later (both_true (counts m y.b) (has (written m uses [] ns) y.b.array) p.other (rw (sym p.array) known)),
      );
}

least_if_taken : (m : Map) (uses : List Use) (ns : List ℕ) (o : Option Pair) → HaveAll m uses ns → IsLeast m (taken uses (those (is_of m (written m uses [] ns)) uses ns)) o → IsLeast m uses (renumbered (those (is_of m (written m uses [] ns)) uses ns) o)
least_if_taken m uses ns o have least = least_there m uses (those (is_of m (written m uses [] ns)) uses ns) o (have_races m uses ns have) least

-- and so with the lists that the code makes
pub least_is : (m : Map) (uses list : List Use) (ns arrays chosen : List ℕ) (o out : Option Pair) → HaveAll m uses ns → arrays ≡ written m uses [] ns → chosen ≡ those (is_of m arrays) uses ns → list ≡ taken uses chosen → IsLeast m list o → out ≡ renumbered chosen o → IsLeast m uses out
least_is m uses list ns arrays chosen o out have p q r least e =
    let same : chosen ≡ those (is_of m (written m uses [] ns)) uses ns = q ∙ ap (λ (xs : List ℕ). those (is_of m xs) uses ns) p in
    let there : IsLeast m (taken uses (those (is_of m (written m uses [] ns)) uses ns)) o = subst (λ (us : List Use). IsLeast m us o) (r ∙ ap (taken uses) same) least in
    subst (λ (x : Option Pair). IsLeast m uses x) (sym (e ∙ ap (λ (xs : List ℕ). renumbered xs o) same)) (least_if_taken m uses ns o have there)
