-- A call of a loop whose transfers overlap, in one of the two sets of buffers.
use Rattle.std.proofs.Common.{◌≡◌, ℕ, zero, suc, ◌%◌, Bool, true, List, [], ◌∷◌, ◌++◌, map, get_or}
use Rattle.std.proofs.Common.{Option, Some, refl, sym, ap, ap₂, ◌∙◌, subst, arith, ⊎_elim}
use Rattle.std.specs.Prelude.{slice_get}
use Rattle.std.specs.List.{Contains}
use mathlib.Core.Path.{fun_ext}
use Rattle.sq_leaf.specs.declared.shape.Shape.{Shape}
use Rattle.sq_ir.specs.Written.{Setting}
use Rattle.sq_placed.specs.declared.home.Home.{Home}
use Rattle.sq_placed.specs.declared.home.Home.TheVariants.{InPlace, Own, Held, Twin}
use Rattle.sq_placed.specs.Placed.{Placed, PlacedArg, PlacedLocal, PlacedCall}
use Rattle.sq_placed.specs.Trees.{home_in_set, arg_in_set, call_in_set, twin_of, set_buffers, twin_buffers}
use Rattle.sq_cells.specs.Lowered.{pick, even}
use Rattle.sq_plan_laws.specs.Calling.{form_of, first_buffer, second_buffer}
use Rattle.sq_plan_laws.proofs.PlacedLists.{mapped, mapped_from}
use Rattle.sq_plan_laws.proofs.Sets.{set_of_position, shapes_in}
use Rattle.sq_plan_laws.specs.Buffers.{home_buffer, buffer_in, array_buffers, HasBuffer, HasInSet, Opens, IsAmong}
use Rattle.sq_plan_laws.specs.Buffers.{CallOwns, IsTwice, PipeOwns}
use Rattle.sq_plan_laws.proofs.Openings.{contains_left, contains_right}
use Rattle.sq_plan_laws.proofs.Live.{some_same, front_at}

map-map : {A B D : Type 0} (f : B → D) (g : A → B) (xs : List A) → map f (map g xs) ≡ map (λ x. f (g x)) xs
map-map f g [] = refl
map-map f g (x ∷ xs) = ap (λ l. f (g x) ∷ l) (map-map f g xs)

abbrev pub homes_in : PlacedCall → List Home
homes_in c = map (λ (p : PlacedArg). p.home) c.args

abbrev pub kept_in : PlacedCall → List ℕ
kept_in c = map (λ (k : PlacedLocal). k.buffer) c.locals

-- ---- the buffers of its arrays

pub arrays_in_set : (f : Home → Option ℕ) (k : ℕ) (c : PlacedCall) → array_buffers f (call_in_set k c)
    ≡ array_buffers (λ h. f (home_in_set k h)) c
arrays_in_set f k c = ap (λ l. l ++ map (λ (x : PlacedLocal). Some x.buffer) c.locals)
    (map-map (λ (p : PlacedArg). f p.home) (arg_in_set k) c.args)

-- they are the same where the homes are, and the buffers of locals
arrays_by_homes : (f : Home → Option ℕ) (c : PlacedCall) → array_buffers f c ≡ map f (homes_in c)
    ++ map (λ (b : ℕ). Some b) (kept_in c)
arrays_by_homes f c = ap₂ (λ x y. x ++ y) (sym (map-map f (λ (p : PlacedArg). p.home) c.args))
    (sym (map-map (λ (b : ℕ). Some b) (λ (k : PlacedLocal). k.buffer) c.locals))

pub arrays_same : (f : Home → Option ℕ) (c d : PlacedCall) → homes_in c ≡ homes_in d → kept_in c ≡ kept_in d
    → array_buffers f c ≡ array_buffers f d
arrays_same f c d h k = arrays_by_homes f c ∙ (ap₂ (λ x y. map f x ++ map (λ (b : ℕ). Some b) y) h k
    ∙ sym (arrays_by_homes f d))

pub to_set : (k : ℕ) (c : PlacedCall) (i b : ℕ) → HasBuffer (call_in_set k c) i b → HasInSet c k i b
to_set k c i b h = subst (λ l. slice_get l i ≡ Some (Some b)) (arrays_in_set home_buffer k c) h

module _ (s : Setting) (held : List ℕ) (c : PlacedCall) (w : Placed) (owns : PipeOwns s held c w)
    (lower : c.lower ≡ true) (k : ℕ) where
  among : (n : ℕ) (h : Home) → IsTwice held h → IsAmong c.lower held (home_in_set n h)
  among n InPlace x = absurd x
  among n (Own b) x = absurd x
  among zero (Held b l) x = (lower, x)
  among (suc n) (Held b l) x = (lower, x)
  among zero (Twin b d) x = tt
  among (suc n) (Twin b d) x = tt

  pub call_owns : CallOwns s held (call_in_set k c) w
  call_owns = record {
    homes = λ i p e. let m = mapped_from (arg_in_set k) c.args i p e in
        subst (λ (x : PlacedArg). IsAmong c.lower held x.home) (sym m.2) (among k m.0.home (owns.homes i m.0 m.1));
    distinct = λ i j b h g. owns.distinct k k i j b (to_set k c i b h) (to_set k c j b g);
    inner = λ i b h o. owns.inner k i b (to_set k c i b h) o;
    sizes = λ i b sh h e. owns.sizes k i b sh (to_set k c i b h)
        (subst (λ (l : List Shape). slice_get l i ≡ Some sh) (shapes_in [] k c) e);
    some = owns.some;
  }

-- ---- two iterations, one after the other

-- the two sets
abbrev pub IsOther : (k l : ℕ) → Type 0
IsOther zero zero = ⊥
IsOther zero (suc l) = Unit {0}
IsOther (suc k) zero = Unit {0}
IsOther (suc k) (suc l) = ⊥

pub other_next : (j : ℕ) → IsOther (j % 2) (suc j % 2)
other_next j = ⊎_elim
    (λ h. let e : suc j % 2 ≡ 1 = let z = h.0 in omega (arith, z) in
    subst (λ k. IsOther k (suc j % 2)) (sym h.0) (subst (IsOther 0) (sym e) tt))
    (λ h. let e : suc j % 2 ≡ 0 = let z = h.0 in omega (arith, z) in
    subst (λ k. IsOther k (suc j % 2)) (sym h.0) (subst (IsOther 1) (sym e) tt)) (set_of_position j)

pub other_back : (k l : ℕ) → IsOther k l → IsOther l k
other_back zero zero o = o
other_back zero (suc l) o = tt
other_back (suc k) zero o = tt
other_back (suc k) (suc l) o = o

-- the home of an argument in a call with the same homes
pub same_home : (c d : PlacedCall) → homes_in c ≡ homes_in d → (i : ℕ) (p : PlacedArg) → slice_get c.args i ≡ Some p
    → (q : PlacedArg) × (slice_get d.args i ≡ Some q) × (p.home ≡ q.home)
same_home c d h i p e = mapped_from (λ (x : PlacedArg). x.home) d.args i p.home
    (ap (λ (l : List Home). slice_get l i) (sym h) ∙ mapped (λ (x : PlacedArg). x.home) c.args i p e)

module _ (s : Setting) (held : List ℕ) (c d : PlacedCall) (w : Placed) (owns : PipeOwns s held d w)
    (homes : homes_in c ≡ homes_in d) (kept : kept_in c ≡ kept_in d) (k l : ℕ) where
  has_there : (i b : ℕ) → HasBuffer (call_in_set k c) i b → HasInSet d k i b
  has_there i b h = subst (λ x. slice_get x i ≡ Some (Some b)) (arrays_same (buffer_in k) c d homes kept)
      (to_set k c i b h)

  -- nothing in the callee of one brings a buffer of the other's into scope
  pub none_inside : (i b : ℕ) → HasBuffer (call_in_set k c) i b → Opens w b → ⊥
  none_inside i b h o = owns.inner k i b (has_there i b h) o

  -- an argument's buffer in one set is no buffer of the other set
  pub differs : IsOther k l → (i j b : ℕ) (p : PlacedArg) → slice_get (call_in_set k c).args i ≡ Some p → p.home ≡ Own b
      → HasBuffer (call_in_set k c) i b → HasBuffer (call_in_set l d) j b → ⊥
  differs other i j b p e home h g =
      let has = has_there i b h in
      let there = to_set l d j b g in
      let same : i ≡ j = owns.distinct k l i j b has there in
      let m = mapped_from (arg_in_set k) c.args i p e in
      let q = same_home c d homes i m.0 m.1 in
      let in_set : home_in_set k q.0.home ≡ Own b
      = ap (home_in_set k) (sym q.2) ∙ (sym (ap (λ (x : PlacedArg). x.home) m.2) ∙ home) in
      let front : slice_get (array_buffers (buffer_in l) d) i ≡ Some (buffer_in l q.0.home)
      = front_at (λ (x : PlacedArg). buffer_in l x.home) d.args (map (λ (z : PlacedLocal). Some z.buffer) d.locals) i
      q.0 q.1 in
      let here : buffer_in l q.0.home ≡ Some b
      = some_same (sym front ∙ (ap (slice_get (array_buffers (buffer_in l) d)) same ∙ there)) in
      by k l other q.0.home (owns.homes i q.0 q.1) in_set here
    where
      by : (n m : ℕ) → IsOther n m → (z : Home) → IsTwice held z → home_in_set n z ≡ Own b → buffer_in m z ≡ Some b → ⊥
      by zero zero o z t x y = o
      by (suc n) (suc m) o z t x y = o
      by zero (suc m) o InPlace t x y = t
      by zero (suc m) o (Own u) t x y = t
      by zero (suc m) o (Held u r) t x y = cc
      by zero (suc m) o (Twin u v) t x y = t (cc)
      by (suc n) zero o InPlace t x y = t
      by (suc n) zero o (Own u) t x y = t
      by (suc n) zero o (Held u r) t x y = cc
      by (suc n) zero o (Twin u v) t x y = t (cc)

-- ---- in scope

set_names : (args : List PlacedArg) (k i : ℕ) (p : PlacedArg) (b : ℕ) → slice_get args i ≡ Some p
    → ((more : List ℕ) → Contains (twin_of k p.home more) b) → Contains (set_buffers k args) b
set_names [] k i p b e h = absurd (cc e)
set_names (q ∷ args) k zero p b e h =
    let z : q ≡ p = some_same e in
    subst (λ (x : PlacedArg). Contains (twin_of k x.home (set_buffers k args)) b) (sym z) (h (set_buffers k args))
set_names (q ∷ args) k (suc i) p b e h = more k q.home (set_buffers k args) (set_names args k i p b e h)
  where
    further : (x : ℕ) (xs : List ℕ) → Contains xs b → Contains (x ∷ xs) b
    further x xs r = (suc r.0, let l = r.1 in omega (arith, l), r.2)

    more : (n : ℕ) (x : Home) (xs : List ℕ) → Contains xs b → Contains (twin_of n x xs) b
    more zero InPlace xs r = r
    more zero (Own y) xs r = r
    more zero (Held y m) xs r = r
    more zero (Twin y z) xs r = further y xs r
    more (suc n) InPlace xs r = r
    more (suc n) (Own y) xs r = r
    more (suc n) (Held y m) xs r = r
    more (suc n) (Twin y z) xs r = further z xs r

-- both sets name an argument's buffer
pub twins_name : (c : PlacedCall) (held : List ℕ) (k i : ℕ) (p : PlacedArg) (b : ℕ) → slice_get c.args i ≡ Some p
    → IsTwice held p.home → home_in_set k p.home ≡ Own b → Contains (twin_buffers c.args) b
twins_name c held k i p b e t h = by k p.home refl t h
  where
    first : (u v : ℕ) → p.home ≡ Twin u v → u ≡ b → Contains (twin_buffers c.args) b
    first u v is same = contains_left (set_buffers 0 c.args) (set_buffers 1 c.args) b
        (set_names c.args 0 i p b e
        (λ more. subst (λ x. Contains (twin_of 0 x more) b) (sym is) (0, omega arith, same)))

    second : (u v : ℕ) → p.home ≡ Twin u v → v ≡ b → Contains (twin_buffers c.args) b
    second u v is same = contains_right (set_buffers 0 c.args) (set_buffers 1 c.args) b
        (set_names c.args 1 i p b e
        (λ more. subst (λ x. Contains (twin_of 1 x more) b) (sym is) (0, omega arith, same)))

    by : (n : ℕ) (z : Home) → p.home ≡ z → IsTwice held z → home_in_set n z ≡ Own b → Contains (twin_buffers c.args) b
    by n InPlace is t h = absurd t
    by n (Own u) is t h = absurd t
    by zero (Held u m) is t h = cc
    by (suc n) (Held u m) is t h = cc
    by zero (Twin u v) is t h = first u v is (cc)
    by (suc n) (Twin u v) is t h = second u v is (cc)

-- the scope of both sets goes by the homes
abbrev set_of_homes : ℕ → List Home → List ℕ
set_of_homes k [] = []
set_of_homes k (h ∷ hs) = twin_of k h (set_of_homes k hs)

twins_by_homes : (k : ℕ) (args : List PlacedArg) (homes : List Home) → map (λ (p : PlacedArg). p.home) args ≡ homes
    → set_buffers k args ≡ set_of_homes k homes
twins_by_homes k [] homes e = ap (set_of_homes k) e
twins_by_homes k (p ∷ args) homes e = ap (twin_of k p.home) (twins_by_homes k args _ refl) ∙ ap (set_of_homes k) e

pub twins_same : (c d : PlacedCall) → homes_in c ≡ homes_in d → twin_buffers c.args ≡ twin_buffers d.args
twins_same c d h = ap₂ (λ x y. x ++ y) (twins_by_homes 0 c.args (homes_in d) h ∙ sym (twins_by_homes 0 d.args _ refl))
    (twins_by_homes 1 c.args (homes_in d) h ∙ sym (twins_by_homes 1 d.args _ refl))

-- ---- offsets

first_in : (h : Home) → first_buffer (home_in_set 0 h) ≡ first_buffer h
first_in InPlace = refl
first_in (Own b) = refl
first_in (Held b l) = refl
first_in (Twin b c) = refl

second_in : (h : Home) → first_buffer (home_in_set 1 h) ≡ second_buffer h
second_in InPlace = refl
second_in (Own b) = refl
second_in (Held b l) = refl
second_in (Twin b c) = refl

module _ (offset : ℕ → ℕ) (c first : PlacedCall) (homes : homes_in c ≡ homes_in first)
    (kept : kept_in c ≡ kept_in first) where
  form_at : (k : ℕ) (buffer : Home → ℕ) → ((h : Home) → first_buffer (home_in_set k h) ≡ buffer h)
      → form_of offset first_buffer (call_in_set k c) ≡ form_of offset buffer first
  form_at k buffer same =
      ap₂ (λ x y. λ i. offset (get_or (x ++ y) i 0))
      (map-map (λ (p : PlacedArg). first_buffer p.home) (arg_in_set k) c.args
      ∙ (ap (λ (f : Home → ℕ). map (λ (p : PlacedArg). f p.home) c.args) (fun_ext same)
      ∙ (sym (map-map buffer (λ (p : PlacedArg). p.home) c.args) ∙ (ap (map buffer) homes
      ∙ map-map buffer (λ (p : PlacedArg). p.home) first.args)))) kept

  pub form_in_set : (j : ℕ) → form_of offset first_buffer (call_in_set (j % 2) c)
      ≡ pick (even j) (form_of offset first_buffer first) (form_of offset second_buffer first)
  form_in_set j =
      let a = form_of offset first_buffer first in
      let b = form_of offset second_buffer first in
      ⊎_elim
      (λ h. subst (λ k. form_of offset first_buffer (call_in_set k c) ≡ pick (even j) a b) (sym h.0)
      (form_at 0 first_buffer first_in ∙ sym (ap (λ (v : Bool). pick v a b) h.1)))
      (λ h. subst (λ k. form_of offset first_buffer (call_in_set k c) ≡ pick (even j) a b) (sym h.0)
      (form_at 1 second_buffer second_in ∙ sym (ap (λ (v : Bool). pick v a b) h.1))) (set_of_position j)
