-- Steps that have the same bytes.
use Rattle.std.proofs.Common.{◌≡◌, ℕ, zero, suc, ◌+◌, ◌-◌, ◌*◌, ◌<◌, ◌≤◌, List, [], ◌∷◌, ◌++◌, length, slice_get, Some, append-nil, append_assoc, Result, Ok, Err, refl, sym, ap, ap₂, subst, ◌∙◌, ◌⊎◌, inl, inr, arith}
use Rattle.std.specs.Prelude.{remove, ◌^◌, OnOk}
use Rattle.std.specs.List.{All}
use Rattle.std.proofs.Math.Nat.{mul-le-mul_right, mul_assoc, suc-mul}
use Rattle.sq_num.specs.declared.Elem.{Elem}
use Rattle.sq_num.specs.declared.Elem.TheVariants as el
use Rattle.sq_num.specs.Elements.{width}
use Rattle.sq_rect.specs.declared.view.View.{View}
use Rattle.sq_areas.specs.Areas.{HasByte, reach_of}
use Rattle.sq_areas.specs.Viewed.{steps_of}
use Rattle.sq_areas.specs.Alike.{AreAlike, AreMany, IsIdle, IsPut, IsJoined, span_of, IsAreaOf, IsBelow}
use Rattle.sq_areas.specs.declared.areas.Step.{Step}
use Rattle.sq_areas.specs.declared.areas.Area.{Area}
use Rattle.sq_areas.proofs.Coordinates.{views_are_areas}

pub alike-same : (run : ℕ) (ds : List Step) → AreAlike run ds run ds
alike-same run ds = record { there = λ at k h. h; back = λ at k h. h }

pub alike-on : (r : ℕ) (ds : List Step) (s : ℕ) (es : List Step) (t : ℕ) (fs : List Step) → AreAlike r ds s es → AreAlike s es t fs → AreAlike r ds t fs
alike-on r ds s es t fs a b = record { there = λ at k h. b.there at k (a.there at k h); back = λ at k h. a.back at k (b.back at k h) }

pub alike-behind : (xs : List Step) (r : ℕ) (ds : List Step) (s : ℕ) (es : List Step) → AreAlike r ds s es → AreAlike r (xs ++ ds) s (xs ++ es)
alike-behind [] r ds s es a = a
alike-behind (x ∷ xs) r ds s es a =
    let b = alike-behind xs r ds s es a in
    record { there = λ at k h. (h.0, h.1, b.there (at + h.0 * x.step) k h.2); back = λ at k h. (h.0, h.1, b.back (at + h.0 * x.step) k h.2) }

-- ---- turns that add no byte

idle-alike : (d : Step) (run : ℕ) (ds : List Step) → IsIdle d → AreAlike run (d ∷ ds) run ds
idle-alike d run ds i = record { there = there i; back = back i }
  where
    there : IsIdle d → (at k : ℕ) → HasByte (d ∷ ds) at run k → HasByte ds at run k
    there (inl e) at k h =
        let z : h.0 ≡ 0 = let l = h.1 in omega (arith, l, e) in
        let a : at + h.0 * d.step ≡ at = ap (λ t. at + t * d.step) z ∙ omega arith in
        subst (λ b. HasByte ds b run k) a h.2
    there (inr e) at k h =
        let a : at + h.0 * d.step ≡ at = ap (λ s. at + h.0 * s) e.0 ∙ omega arith in
        subst (λ b. HasByte ds b run k) a h.2

    back : IsIdle d → (at k : ℕ) → HasByte ds at run k → HasByte (d ∷ ds) at run k
    back (inl e) at k h = let a : at ≡ at + 0 * d.step = omega arith in (0, omega (arith, e), subst (λ b. HasByte ds b run k) a h)
    back (inr e) at k h = let a : at ≡ at + 0 * d.step = omega arith in (0, e.1, subst (λ b. HasByte ds b run k) a h)

pub idle-one : (d : Step) → d.count ≡ 1 → IsIdle d
idle-one d e = inl e

-- one dimension, and those behind it
put-alike : (d : Step) (old new : List Step) (run : ℕ) (rest : List Step) → IsPut d old new → AreAlike run (old ++ (d ∷ rest)) run (new ++ rest)
put-alike d old new run rest (inl p) = subst (λ l. AreAlike run (old ++ (d ∷ rest)) run (l ++ rest)) (sym p.1) (alike-behind old run (d ∷ rest) run rest (idle-alike d run rest p.0))
put-alike d old new run rest (inr p) =
    let e : old ++ (d ∷ rest) ≡ new ++ rest = sym (append_assoc old (d ∷ []) rest) ∙ ap (λ l. l ++ rest) (sym p.1) in
    subst (λ l. AreAlike run (old ++ (d ∷ rest)) run l) e (alike-same run (old ++ (d ∷ rest)))

many-more : (xs : List Step) (d : Step) → AreMany xs → 2 ≤ d.count → AreMany (xs ++ d ∷ [])
many-more [] d h l = (l, tt)
many-more (x ∷ xs) d h l = (h.0, many-more xs d h.1 l)

put-many : (d : Step) (old new : List Step) → IsPut d old new → 0 < d.count → AreMany old → AreMany new
put-many d old new (inl p) l h = subst AreMany (sym p.1) h
put-many d old new (inr p) l h = subst AreMany (sym p.1) (many-more old d h (two d.count l p.0))
  where
    two : (n : ℕ) → 0 < n → (n ≡ 1 → ⊥) → 2 ≤ n
    two zero l f = absurd (omega (arith, l))
    two (suc zero) l f = absurd (f refl)
    two (suc (suc n)) l f = omega arith

pub ok-to : {A E : Type 0} (r : Result A E) (P Q : Type 0) → (P → Q) → OnOk r P → OnOk r Q
ok-to (Ok x) P Q f h = f h
ok-to (Err e) P Q f h = tt

module _ (w : ℕ) (old mid new : List Step) (n s n' s' : ℕ) (ns ss es ts : List ℕ) (all : es ≡ n ∷ ns) (each : ts ≡ s ∷ ss) (count : n' ≡ n) (stride : s' ≡ s) (put : IsPut (record { count = n'; step = w * s' }) old mid) where
  abbrev d : Step
  d = record { count = n'; step = w * s' }

  pub puts-more : ((run : ℕ) → AreAlike run (mid ++ steps_of w ns ss) run new) → (run : ℕ) → AreAlike run (old ++ steps_of w es ts) run new
  puts-more f run =
      let rest = steps_of w ns ss in
      let e : d ∷ rest ≡ steps_of w es ts = ap₂ (λ x y. record { count = x; step = w * y } ∷ rest) count stride ∙ sym (ap₂ (steps_of w) all each) in
      alike-on run (old ++ steps_of w es ts) run (mid ++ rest) run new (subst (λ l. AreAlike run (old ++ l) run (mid ++ rest)) e (put-alike d old mid run rest put)) (f run)

  pub puts-many : (All (λ k. 0 < k) ns → AreMany mid → AreMany new) → All (λ k. 0 < k) es → AreMany old → AreMany new
  puts-many f h m = go (subst (All (λ k. 0 < k)) all h)
    where
      go : All (λ k. 0 < k) (n ∷ ns) → AreMany new
      go a = let z = a 0 n (omega arith) in f (λ k x l. a (suc k) x (omega (arith, l))) (put-many d old mid put (omega (arith, count, z)) m)

pub puts-none : (old : List Step) (run : ℕ) → AreAlike run (old ++ []) run old
puts-none old run = subst (λ l. AreAlike run l run old) (sym (append-nil old)) (alike-same run old)

-- ---- turns that are one run

below-or : (x y : ℕ) → (x < y) ⊎ (y ≤ x)
below-or x zero = inr (omega arith)
below-or zero (suc y) = inl (omega arith)
below-or (suc x) (suc y) = lift (below-or x y)
  where
    lift : (x < y) ⊎ (y ≤ x) → (suc x < suc y) ⊎ (suc y ≤ suc x)
    lift (inl l) = inl (omega (arith, l))
    lift (inr l) = inr (omega (arith, l))

-- one of so many turns has the byte
abbrev HasTurn : (n step at run k : ℕ) → Type 0
HasTurn n step at run k = (t : ℕ) × (t < n) × (at + t * step ≤ k) × (k < at + t * step + run)

-- so many further runs, each of which touches the one before it
run-turn : (n step at run k : ℕ) → step ≤ run → at ≤ k → k < at + (run + n * step) → HasTurn (suc n) step at run k
run-turn zero step at run k s a b = (0, omega arith, omega (arith, a), omega (arith, b))
run-turn (suc n) step at run k s a b = by (below-or k (at + run)) (run-turn n step (at + step) run k s)
  where
    by : (k < at + run) ⊎ (at + run ≤ k) → (at + step ≤ k → k < at + step + (run + n * step) → HasTurn (suc n) step (at + step) run k) → HasTurn (suc (suc n)) step at run k
    by (inl l) f = (0, omega arith, omega (arith, a), omega (arith, l))
    by (inr l) f =
        let m = suc-mul n step in
        let r = f (omega (arith, l, s)) (omega (arith, b, m)) in
        let x = r.1 in
        let y = r.2 in
        let z = r.3 in
        let o = suc-mul r.0 step in
        (suc r.0, omega (arith, x), omega (arith, y, o), omega (arith, z, o))

joined-alike : (d : Step) (run : ℕ) → IsJoined d run → AreAlike run (d ∷ []) (run + (d.count - 1) * d.step) []
joined-alike d run j = record { there = there; back = back }
  where
    there : (at k : ℕ) → HasByte (d ∷ []) at run k → HasByte [] at (run + (d.count - 1) * d.step) k
    there at k h =
        let l = h.1 in
        let a = h.2.0 in
        let b = h.2.1 in
        let m : h.0 * d.step ≤ (d.count - 1) * d.step = mul-le-mul_right d.step (omega (arith, l)) in
        (omega (arith, a), omega (arith, b, m))

    back : (at k : ℕ) → HasByte [] at (run + (d.count - 1) * d.step) k → HasByte (d ∷ []) at run k
    back at k h =
        let r = run-turn (d.count - 1) d.step at run k j.near h.0 h.1 in
        let l = r.1 in
        let p = j.some in
        (r.0, omega (arith, l, p), (r.2, r.3))

-- ---- a step as the last one

swap-first : (d e : Step) (ds : List Step) (run : ℕ) → (at k : ℕ) → HasByte (d ∷ e ∷ ds) at run k → HasByte (e ∷ d ∷ ds) at run k
swap-first d e ds run at k h =
    let a : at + h.0 * d.step + h.2.0 * e.step ≡ at + h.2.0 * e.step + h.0 * d.step = omega arith in
    (h.2.0, h.2.1, (h.0, h.1, subst (λ b. HasByte ds b run k) a h.2.2))

last-alike : (d : Step) (ds : List Step) (run : ℕ) → AreAlike run (d ∷ ds) run (ds ++ d ∷ [])
last-alike d [] run = alike-same run (d ∷ [])
last-alike d (e ∷ ds) run =
    let r = last-alike d ds run in
    alike-on run (d ∷ e ∷ ds) run (e ∷ d ∷ ds) run (e ∷ (ds ++ d ∷ [])) (record { there = swap-first d e ds run; back = swap-first e d ds run }) (alike-behind (e ∷ []) run (d ∷ ds) run (ds ++ d ∷ []) r)

pulled-alike : (ds : List Step) (i : ℕ) (d : Step) (run : ℕ) → slice_get ds i ≡ Some d → AreAlike run ds run (remove ds i ++ d ∷ [])
pulled-alike [] i d run h = cc
pulled-alike (x ∷ ds) zero d run h = let e : x ≡ d = cc in subst (λ z. AreAlike run (x ∷ ds) run (ds ++ z ∷ [])) e (last-alike x ds run)
pulled-alike (x ∷ ds) (suc i) d run h = alike-behind (x ∷ []) run ds run (remove ds i ++ d ∷ []) (pulled-alike ds i d run h)

-- one step is joined with the runs
pub settled-more : (r : ℕ) (os : List Step) (run : ℕ) (ds : List Step) (i : ℕ) (d : Step) → AreAlike r os run ds → slice_get ds i ≡ Some d → IsJoined d run
    → AreAlike r os (run + (d.count - 1) * d.step) (remove ds i)
settled-more r os run ds i d a at j =
    let more = run + (d.count - 1) * d.step in
    let rest = remove ds i in
    let b = alike-on r os run ds run (rest ++ d ∷ []) a (pulled-alike ds i d run at) in
    let c = alike-behind rest run (d ∷ []) more [] (joined-alike d run j) in
    subst (λ l. AreAlike r os more l) (append-nil rest) (alike-on r os run (rest ++ d ∷ []) more (rest ++ []) b c)

pub removed-many : (ds : List Step) (i : ℕ) → AreMany ds → AreMany (remove ds i)
removed-many [] zero h = tt
removed-many [] (suc i) h = tt
removed-many (d ∷ ds) zero h = h.1
removed-many (d ∷ ds) (suc i) h = (h.0, removed-many ds i h.1)

-- ---- how far an area reaches

last-byte : (ds : List Step) (at run : ℕ) → 0 < run → AreMany ds → HasByte ds at run (at + span_of ds + (run - 1))
last-byte [] at run p h = (omega arith, omega (arith, p))
last-byte (d ∷ ds) at run p h =
    let t = d.count - 1 in
    let r = last-byte ds (at + t * d.step) run p h.1 in
    let l = h.0 in
    let e : at + t * d.step + span_of ds + (run - 1) ≡ at + span_of (d ∷ ds) + (run - 1) = omega arith in
    (t, omega (arith, l), subst (HasByte ds (at + t * d.step) run) e r)

reach-small : (ds : List Step) (run : ℕ) → AreMany ds → reach_of ds run ≤ 2 * span_of ds + run
reach-small [] run h = omega arith
reach-small (d ∷ ds) run h =
    let r = reach-small ds run h.1 in
    let l = h.0 in
    let m : d.count * d.step ≤ (2 * (d.count - 1)) * d.step = mul-le-mul_right d.step (omega (arith, l)) in
    let n = mul_assoc 2 (d.count - 1) d.step in
    omega (arith, r, m, n)

-- one step is joined with the runs, and the others stay
pub settled-step : (r : ℕ) (os : List Step) (run next : ℕ) (ds es : List Step) (i : ℕ) (d : Step) → AreAlike r os run ds → slice_get ds i ≡ Some d → IsJoined d run
    → next ≡ run + (d.count - 1) * d.step → es ≡ remove ds i → AreAlike r os next es
settled-step r os run next ds es i d a at j e f =
    subst (λ l. AreAlike r os next l) (sym f) (subst (λ x. AreAlike r os x (remove ds i)) (sym e) (settled-more r os run ds i d a at j))

pub settled-many : (ds es : List Step) (i : ℕ) → es ≡ remove ds i → AreMany ds → AreMany es
settled-many ds es i e h = subst AreMany (sym e) (removed-many ds i h)

-- ---- the area of a view, by its steps and then by fewer ones

width-some : (e : Elem) → 0 < width e
width-some el.Byte = omega arith
width-some el.Int = omega arith
width-some el.Long = omega arith

module _ (v : View) (w at run : ℕ) (xs ys : List ℕ) (none ds es : List Step) (wide : w ≡ width v.elem) (len : length v.strides ≡ length v.extents)
    (first : at ≡ v.at) (extents : xs ≡ v.extents) (strides : ys ≡ v.strides) (empty : none ≡ [])
    (put : (r : ℕ) → AreAlike r (none ++ steps_of w xs ys) r ds) (settled : AreAlike w ds run es) where
  abbrev area : Area
  area = record { at = at; run = run; steps = es }

  alike : AreAlike (width v.elem) (steps_of (width v.elem) v.extents v.strides) run es
  alike =
      let e : none ++ steps_of w xs ys ≡ steps_of w v.extents v.strides = ap₂ (λ z l. z ++ l) empty (ap₂ (steps_of w) extents strides) in
      let c : AreAlike w (steps_of w v.extents v.strides) run es = alike-on w (steps_of w v.extents v.strides) w ds run es (subst (λ l. AreAlike w l w ds) e (put w)) settled in
      subst (λ x. AreAlike x (steps_of x v.extents v.strides) run es) wide c

  pub area-of : IsAreaOf v area
  area-of = record {
    there = λ k h. subst (λ a. HasByte es a run k) (sym first) (alike.there v.at k ((views_are_areas v len k).0 h));
    back = λ k h. (views_are_areas v len k).1 (alike.back v.at k (subst (λ a. HasByte es a run k) first h));
  }

  module _ (many : All (λ n. 0 < n) xs → AreMany none → AreMany ds) (more : AreMany ds → AreMany es) (longer : w ≤ run) where
    pub area-near : IsBelow v (2 ^ 32) → at + reach_of es run < 2 ^ 63
    area-near b =
        let p : 0 < run = let z = width-some v.elem in omega (arith, z, wide, longer) in
        let m : AreMany es = more (many (subst (All (λ n. 0 < n)) (sym extents) b.some) (subst AreMany (sym empty) tt)) in
        let k = b.below (at + span_of es + (run - 1)) (area-of.back (at + span_of es + (run - 1)) (last-byte es at run p m)) in
        let r = reach-small es run m in
        omega (arith, k, r, p)
