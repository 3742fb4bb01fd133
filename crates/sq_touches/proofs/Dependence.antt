-- Acts that show events depend on one another exactly where the events aren't independent.
use Rattle.std.proofs.Common.{◌≡◌, Bool, true, false, ◌&&◌, List, [], ◌∷◌, refl, sym, ap₂, ◌∙◌, ◌⊎◌, inl, inr}
use Rattle.std.specs.Prelude.{if◌then◌else◌, nat_eq, not}
use Rattle.sq_ir.specs.Events.{Event, Copy, Fill, Accumulate, Leaf, Leaves, AreIndependent}
use Rattle.sq_areas.proofs.Among.{same_number, number_same}
use Rattle.sq_check_laws.specs.Touches as spec
use Rattle.sq_check_laws.specs.Touches.{Kind, agree, share, meet, get_along, along_all, all_along, same_numbers, same_path, are_independent, touches}
use Rattle.sq_check_laws.proofs.Independent.{share_found, found_share, independent_by_touches}
use Rattle.sq_touches.specs.Acts.{seen_way, Conflict, ConflictAny, ConflictAll, same_paths, Depend}
use Rattle.sq_touches.specs.ActLaws.{ShowsTouch, ShowsTouches, path_in, Shows, ActsTellDependence}
use Rattle.sq_touches.specs.declared.touch.Touch.{Touch}
use Rattle.sq_touches.specs.declared.act.Act.{Act}

differs : (v : Bool) → v ≡ true → v ≡ false → ⊥
differs true p q = cc
differs false p q = cc

and-true : (u v : Bool) → u ≡ true → v ≡ true → (u && v) ≡ true
and-true true v p q = q
and-true false v p q = cc

and-either : (u v : Bool) → (u && v) ≡ false → (u ≡ false) ⊎ (v ≡ false)
and-either true v h = inr h
and-either false v h = inl refl

and-left : (u v : Bool) → u ≡ false → (u && v) ≡ false
and-left true v h = cc
and-left false v h = refl

and-right : (u v : Bool) → v ≡ false → (u && v) ≡ false
and-right true v h = h
and-right false v h = refl

true-and : (u v : Bool) → (u && v) ≡ true → (u ≡ true) × (v ≡ true)
true-and true v h = (refl, h)
true-and false v h = cc

-- ---- two touches

module _ (x : Touch) (y : Touch) (u : spec.Touch) (v : spec.Touch) (a : ShowsTouch x u) (b : ShowsTouch y v) where
  ways : agree (seen_way x.way) (seen_way y.way) ≡ agree u.kind v.kind
  ways = ap₂ agree a.kind b.kind

  conflict-along : Conflict x y → get_along u v ≡ false
  conflict-along c = by (meet u v) met
    where
      met : meet u v ≡ true
      met =
          let k = c.share.0 in
          and-true (nat_eq u.node v.node) (share u.bytes v.bytes) (number_same u.node v.node (sym a.node ∙ c.node ∙ b.node)) (share_found u.bytes v.bytes k (a.back k c.share.1) (b.back k c.share.2))

      by : (m : Bool) → m ≡ true → (if m then agree u.kind v.kind else true) ≡ false
      by true e = sym ways ∙ c.ways
      by false e = cc

  along-conflict : get_along u v ≡ false → Conflict x y
  along-conflict h = by (meet u v) refl h
    where
      by : (m : Bool) → meet u v ≡ m → (if m then agree u.kind v.kind else true) ≡ false → Conflict x y
      by true e h =
          let m = true-and (nat_eq u.node v.node) (share u.bytes v.bytes) e in
          let s = found_share u.bytes v.bytes m.1 in
          record { node = a.node ∙ same_number u.node v.node m.0 ∙ sym b.node; ways = ways ∙ h; share = (s.0, a.there s.0 s.1, b.there s.0 s.2) }
      by false e h = cc

-- ---- each with each

any-along : (x : Touch) (u : spec.Touch) → ShowsTouch x u → (ys : List Touch) (vs : List spec.Touch) → ShowsTouches ys vs → ConflictAny x ys → along_all u vs ≡ false
any-along x u a [] vs b c = absurd c
any-along x u a (y ∷ ys) [] b c = absurd b
any-along x u a (y ∷ ys) (v ∷ vs) b (inl c) = and-left (get_along u v) (along_all u vs) (conflict-along x y u v a b.0 c)
any-along x u a (y ∷ ys) (v ∷ vs) b (inr c) = and-right (get_along u v) (along_all u vs) (any-along x u a ys vs b.1 c)

along-any : (x : Touch) (u : spec.Touch) → ShowsTouch x u → (ys : List Touch) (vs : List spec.Touch) → ShowsTouches ys vs → along_all u vs ≡ false → ConflictAny x ys
along-any x u a [] [] b h = cc
along-any x u a [] (v ∷ vs) b h = absurd b
along-any x u a (y ∷ ys) [] b h = absurd b
along-any x u a (y ∷ ys) (v ∷ vs) b h = by (and-either (get_along u v) (along_all u vs) h) (along-any x u a ys vs b.1)
  where
    by : (get_along u v ≡ false) ⊎ (along_all u vs ≡ false) → (along_all u vs ≡ false → ConflictAny x ys) → ConflictAny x (y ∷ ys)
    by (inl e) f = inl (along-conflict x y u v a b.0 e)
    by (inr e) f = inr (f e)

all-along : (xs : List Touch) (us : List spec.Touch) (ys : List Touch) (vs : List spec.Touch) → ShowsTouches xs us → ShowsTouches ys vs → ConflictAll xs ys → all_along us vs ≡ false
all-along [] us ys vs a b c = absurd c
all-along (x ∷ xs) [] ys vs a b c = absurd a
all-along (x ∷ xs) (u ∷ us) ys vs a b (inl c) = and-left (along_all u vs) (all_along us vs) (any-along x u a.0 ys vs b c)
all-along (x ∷ xs) (u ∷ us) ys vs a b (inr c) = and-right (along_all u vs) (all_along us vs) (all-along xs us ys vs a.1 b c)

along-all : (xs : List Touch) (us : List spec.Touch) (ys : List Touch) (vs : List spec.Touch) → ShowsTouches xs us → ShowsTouches ys vs → all_along us vs ≡ false → ConflictAll xs ys
along-all [] [] ys vs a b h = cc
along-all [] (u ∷ us) ys vs a b h = absurd a
along-all (x ∷ xs) [] ys vs a b h = absurd a
along-all (x ∷ xs) (u ∷ us) ys vs a b h = by (and-either (along_all u vs) (all_along us vs) h) (along-all xs us ys vs a.1 b)
  where
    by : (along_all u vs ≡ false) ⊎ (all_along us vs ≡ false) → (all_along us vs ≡ false → ConflictAll xs ys) → ConflictAll (x ∷ xs) ys
    by (inl e) f = inl (along-any x u a.0 ys vs b e)
    by (inr e) f = inr (f e)

-- ---- paths

paths-are : (e f : Event) → same_paths (path_in e) (path_in f) ≡ same_path e f
paths-are (Copy from to bytes) f = refl
paths-are (Fill to e count v) f = refl
paths-are (Accumulate op e from to count) f = refl
paths-are (Leaf node code vs path) (Copy from to bytes) = refl
paths-are (Leaf node code vs path) (Fill to e count v) = refl
paths-are (Leaf node code vs path) (Accumulate op e from to count) = refl
paths-are (Leaf node code vs path) (Leaf node' code' vs' path') = refl

not-true : (v : Bool) → v ≡ true → not v ≡ false
not-true true h = refl
not-true false h = cc

not-false : (v : Bool) → not v ≡ false → v ≡ true
not-false true h = refl
not-false false h = cc

module _ {C : Type 0} (leaves : Leaves C) (a b : Act) (e f : Event) (s : Shows leaves a e) (t : Shows leaves b f) where
  paths : same_paths a.path b.path ≡ same_path e f
  paths = ap₂ same_paths s.path t.path ∙ paths-are e f

  depend-is : Depend a b → are_independent leaves e f ≡ false
  depend-is (inl c) = and-left (all_along (touches leaves e) (touches leaves f)) (not (same_path e f)) (all-along a.touches (touches leaves e) b.touches (touches leaves f) s.touches t.touches c)
  depend-is (inr p) = and-right (all_along (touches leaves e) (touches leaves f)) (not (same_path e f)) (not-true (same_path e f) (sym paths ∙ p))

  is-depend : are_independent leaves e f ≡ false → Depend a b
  is-depend h = by (and-either (all_along (touches leaves e) (touches leaves f)) (not (same_path e f)) h)
    where
      by : (all_along (touches leaves e) (touches leaves f) ≡ false) ⊎ (not (same_path e f) ≡ false) → Depend a b
      by (inl z) = inl (along-all a.touches (touches leaves e) b.touches (touches leaves f) s.touches t.touches z)
      by (inr z) = inr (paths ∙ not-false (same_path e f) z)

  pub told : (Depend a b → ¬ AreIndependent leaves e f) × (¬ Depend a b → AreIndependent leaves e f)
  told = ((λ d i. differs (are_independent leaves e f) ((independent_by_touches C leaves e f).1 i) (depend-is d)), (λ n. by (are_independent leaves e f) refl n))
    where
      by : (v : Bool) → are_independent leaves e f ≡ v → ¬ Depend a b → AreIndependent leaves e f
      by true h n = (independent_by_touches C leaves e f).0 h
      by false h n = absurd (n (is-depend h))

pub acts_tell_dependence : (C : Type 0) → ActsTellDependence C
acts_tell_dependence C leaves a b e f s t = told leaves a b e f s t
