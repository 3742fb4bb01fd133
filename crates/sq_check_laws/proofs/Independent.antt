-- Events are independent exactly where they get along at each byte and no two leaf calls have one path.
use Rattle.std.proofs.Common.{◌≡◌, ℕ, ◌-◌, ◌*◌, ◌%◌, ◌≤◌, Bool, true, false, ◌&&◌, ◌||◌, List, [], ◌∷◌, refl, sym, ap, ◌∙◌, subst, ◌⊎◌, inl, inr, arith}
use Rattle.std.specs.Prelude.{if◌then◌else◌, nat_eq, not}
use Rattle.std.specs.List.{range_with_len}
use denote.Enum.Bare.{sameb, same_true, true_same}
use Rattle.sq_num.specs.declared.Elem.{Elem}
use Rattle.sq_num.specs.declared.Elem.TheVariants as el
use Rattle.sq_num.specs.declared.RedOp.{RedOp}
use Rattle.sq_num.specs.contracts.Elem as elem
use Rattle.sq_num.specs.contracts.RedOp as op
use Rattle.sq_num.specs.Elements.{width}
use Rattle.sq_rect.specs.declared.view.View.{View}
use Rattle.sq_ir.specs.Footprints.{Apart}
use Rattle.sq_ir.specs.Events.{Spot, Event, Copy, Fill, Accumulate, Leaf, Leaves, in_row, is_among, in_view, in_views, chosen, reads, writes, footprint, ShareElements, ShareNothing, PathsDiffer, AreIndependent}
use Rattle.sq_ir.specs.Events as events
use Rattle.sq_ir.proofs.Local.{in_row-numbers, numbers-in_row}
use Rattle.sq_areas.proofs.Among.{or_either, or_left, or_right, same_number, number_same, Some_of, range_in, in_range}
use Rattle.sq_check_laws.specs.PlanLaws.{IndependentByTouches}
use Rattle.sq_check_laws.specs.Touches.{Kind, Reads, Adds, Writes, Touch, row_touch, view_touches, touches, touched, agree, share, meet, get_along, along_all, all_along, same_numbers, same_path, are_independent}

-- ---- Bools

and_both : (u v : Bool) → (u && v) ≡ true → (u ≡ true) × (v ≡ true)
and_both true v h = (refl, h)
and_both false v h = cc

both_and : (u v : Bool) → u ≡ true → v ≡ true → (u && v) ≡ true
both_and true v h k = k
both_and false v h k = cc

not_true : (v : Bool) → (v ≡ true → ⊥) → v ≡ false
not_true true h = absurd (h refl)
not_true false h = refl

-- ---- some and each of a list

abbrev Each_of : {X : Type 0} → (X → Type 0) → List X → Type 0
Each_of P [] = Unit {0}
Each_of P (x ∷ xs) = P x × Each_of P xs

abbrev Pairs : (Touch → Touch → Type 0) → List Touch → List Touch → Type 0
Pairs P xs ys = Each_of (λ x. Each_of (P x) ys) xs

pick : {X : Type 0} (P Q : X → Type 0) (R : Type 0) (xs : List X) → Each_of P xs → Some_of Q xs → ((x : X) → P x → Q x → R) → R
pick P Q R [] h s f = absurd s
pick P Q R (x ∷ xs) h (inl q) f = f x h.0 q
pick P Q R (x ∷ xs) h (inr s) f = pick P Q R xs h.1 s f

pick_two : (P : Touch → Touch → Type 0) (A B : Touch → Type 0) (R : Type 0) (xs ys : List Touch) → Pairs P xs ys → Some_of A xs → Some_of B ys → ((x y : Touch) → P x y → A x → B y → R) → R
pick_two P A B R xs ys h s t f = pick (λ x. Each_of (P x) ys) A R xs h s (λ x ps a. pick (P x) B R ys ps t (λ y p b. f x y p a b))

each_map : {X : Type 0} (P Q : X → Type 0) (xs : List X) → ((x : X) → P x → Q x) → Each_of P xs → Each_of Q xs
each_map P Q [] f h = tt
each_map P Q (x ∷ xs) f h = (f x h.0, each_map P Q xs f h.1)

-- what holds of each two, from what holds of each one
pairs_from : (A B : Touch → Type 0) (P : Touch → Touch → Type 0) (xs ys : List Touch) → Each_of A xs → Each_of B ys → ((x y : Touch) → A x → B y → P x y) → Pairs P xs ys
pairs_from A B P [] ys h k f = tt
pairs_from A B P (x ∷ xs) ys h k f = (each_map B (P x) ys (λ y b. f x y h.0 b) k, pairs_from A B P xs ys h.1 k f)

-- ---- the test of two touches

-- at each byte of both they agree
abbrev AtEach : Touch → Touch → Type 0
AtEach x y = (a : Spot) → touched x a ≡ true → touched y a ≡ true → agree x.kind y.kind ≡ true

pub share_found : (xs ys : List ℕ) (k : ℕ) → is_among xs k ≡ true → is_among ys k ≡ true → share xs ys ≡ true
share_found [] ys k h g = cc
share_found (x ∷ xs) ys k h g = by (or_either (nat_eq k x) (is_among xs k) h) (λ i. share_found xs ys k i g)
  where
    by : (nat_eq k x ≡ true) ⊎ (is_among xs k ≡ true) → (is_among xs k ≡ true → share xs ys ≡ true) → (is_among ys x || share xs ys) ≡ true
    by (inl e) f = or_left (is_among ys x) (share xs ys) (subst (λ z. is_among ys z ≡ true) (same_number k x e) g)
    by (inr i) f = or_right (is_among ys x) (share xs ys) (f i)

abbrev pub Common : List ℕ → List ℕ → Type 0
Common xs ys = (k : ℕ) × (is_among xs k ≡ true) × (is_among ys k ≡ true)

pub found_share : (xs ys : List ℕ) → share xs ys ≡ true → Common xs ys
found_share [] ys h = cc
found_share (x ∷ xs) ys h = by (or_either (is_among ys x) (share xs ys) h) (found_share xs ys)
  where
    by : (is_among ys x ≡ true) ⊎ (share xs ys ≡ true) → (share xs ys ≡ true → Common xs ys) → Common (x ∷ xs) ys
    by (inl e) f = (x, or_left (nat_eq x x) (is_among xs x) (number_same x x refl), e)
    by (inr i) f = let c = f i in (c.0, or_right (nat_eq c.0 x) (is_among xs c.0) c.1, c.2)

test_each : (x y : Touch) → get_along x y ≡ true → AtEach x y
test_each x y h a p q = by (meet x y) met h
  where
    met : meet x y ≡ true
    met =
        let p' = and_both (nat_eq a.node x.node) (is_among x.bytes a.at) p in
        let q' = and_both (nat_eq a.node y.node) (is_among y.bytes a.at) q in
        let e : x.node ≡ y.node = sym (same_number a.node x.node p'.0) ∙ same_number a.node y.node q'.0 in
        both_and (nat_eq x.node y.node) (share x.bytes y.bytes) (number_same x.node y.node e) (share_found x.bytes y.bytes a.at p'.1 q'.1)

    by : (m : Bool) → m ≡ true → (if m then agree x.kind y.kind else true) ≡ true → agree x.kind y.kind ≡ true
    by true e h = h
    by false e h = cc

each_test : (x y : Touch) → AtEach x y → get_along x y ≡ true
each_test x y h = by (meet x y) refl
  where
    by : (m : Bool) → meet x y ≡ m → (if m then agree x.kind y.kind else true) ≡ true
    by true e =
        let b = and_both (nat_eq x.node y.node) (share x.bytes y.bytes) e in
        let c = found_share x.bytes y.bytes b.1 in
        let a : Spot = record { node = x.node; at = c.0 } in
        h a (both_and (nat_eq x.node x.node) (is_among x.bytes c.0) (number_same x.node x.node refl) c.1) (both_and (nat_eq x.node y.node) (is_among y.bytes c.0) b.0 c.2)
    by false e = refl

tests_each : (x : Touch) (ys : List Touch) → along_all x ys ≡ true → Each_of (AtEach x) ys
tests_each x [] h = tt
tests_each x (y ∷ ys) h = let b = and_both (get_along x y) (along_all x ys) h in (test_each x y b.0, tests_each x ys b.1)

each_tests : (x : Touch) (ys : List Touch) → Each_of (AtEach x) ys → along_all x ys ≡ true
each_tests x [] h = refl
each_tests x (y ∷ ys) h = both_and (get_along x y) (along_all x ys) (each_test x y h.0) (each_tests x ys h.1)

tests_pairs : (xs ys : List Touch) → all_along xs ys ≡ true → Pairs AtEach xs ys
tests_pairs [] ys h = tt
tests_pairs (x ∷ xs) ys h = let b = and_both (along_all x ys) (all_along xs ys) h in (tests_each x ys b.0, tests_pairs xs ys b.1)

pairs_tests : (xs ys : List Touch) → Pairs AtEach xs ys → all_along xs ys ≡ true
pairs_tests [] ys h = refl
pairs_tests (x ∷ xs) ys h = both_and (along_all x ys) (all_along xs ys) (each_tests x ys h.0) (pairs_tests xs ys h.1)

-- ---- rows

row_touched : (s : Spot) (len : ℕ) (k : Kind) (a : Spot) → in_row s.node s.at len a ≡ true → touched (row_touch s len k) a ≡ true
row_touched s len k a h =
    let p = in_row-numbers s.node s.at len a h in
    both_and (nat_eq a.node s.node) (is_among (range_with_len s.at len) a.at) (number_same a.node s.node p.same) (in_range s.at len a.at p.from p.below)

touched_row : (s : Spot) (len : ℕ) (k : Kind) (a : Spot) → touched (row_touch s len k) a ≡ true → in_row s.node s.at len a ≡ true
touched_row s len k a h =
    let b = and_both (nat_eq a.node s.node) (is_among (range_with_len s.at len) a.at) h in
    let r = range_in s.at len a.at b.1 in
    numbers-in_row s.node s.at len a (same_number a.node s.node b.0) r.0 r.1

-- ---- views

views_touched : (node : ℕ) (ws : List Bool) (vs : List View) (a : Spot) → in_views node vs a ≡ true → Some_of (λ x. touched x a ≡ true) (view_touches node ws vs)
views_touched node ws [] a h = cc
views_touched node [] (v ∷ vs) a h = by (or_either (in_view node v a) (in_views node vs a) h) (views_touched node [] vs a)
  where
    by : (in_view node v a ≡ true) ⊎ (in_views node vs a ≡ true) → (in_views node vs a ≡ true → Some_of (λ x. touched x a ≡ true) (view_touches node [] vs)) → Some_of (λ x. touched x a ≡ true) (view_touches node [] (v ∷ vs))
    by (inl i) f = inl i
    by (inr i) f = inr (f i)
views_touched node (w ∷ ws) (v ∷ vs) a h = by (or_either (in_view node v a) (in_views node vs a) h) (views_touched node ws vs a)
  where
    by : (in_view node v a ≡ true) ⊎ (in_views node vs a ≡ true) → (in_views node vs a ≡ true → Some_of (λ x. touched x a ≡ true) (view_touches node ws vs)) → Some_of (λ x. touched x a ≡ true) (view_touches node (w ∷ ws) (v ∷ vs))
    by (inl i) f = inl i
    by (inr i) f = inr (f i)

-- in a way that changes bytes
abbrev changes : Kind → Bool
changes Reads = false
changes (Adds o e k) = true
changes Writes = true

abbrev Changed : Spot → Touch → Type 0
Changed a x = (touched x a ≡ true) × (changes x.kind ≡ true)

chosen_touched : (node : ℕ) (ws : List Bool) (vs : List View) (a : Spot) → in_views node (chosen ws vs) a ≡ true → Some_of (Changed a) (view_touches node ws vs)
chosen_touched node [] [] a h = cc
chosen_touched node [] (v ∷ vs) a h = cc
chosen_touched node (w ∷ ws) [] a h = cc
chosen_touched node (true ∷ ws) (v ∷ vs) a h = by (or_either (in_view node v a) (in_views node (chosen ws vs) a) h) (chosen_touched node ws vs a)
  where
    by : (in_view node v a ≡ true) ⊎ (in_views node (chosen ws vs) a ≡ true) → (in_views node (chosen ws vs) a ≡ true → Some_of (Changed a) (view_touches node ws vs)) → Some_of (Changed a) (view_touches node (true ∷ ws) (v ∷ vs))
    by (inl i) f = inl (i, refl)
    by (inr i) f = inr (f i)
chosen_touched node (false ∷ ws) (v ∷ vs) a h = inr (chosen_touched node ws vs a h)

-- what is known of each view's touch: it is touched where the leaf reads, and changed where the leaf writes
abbrev IsPlain : Kind → Type 0
IsPlain Reads = Unit {0}
IsPlain (Adds o e k) = ⊥
IsPlain Writes = Unit {0}

pub record IsOf (R W : Spot → Type 0) (x : Touch) : Type 0 where
  pub reads : (a : Spot) → touched x a ≡ true → x.kind ≡ Reads → R a
  pub writes : (a : Spot) → touched x a ≡ true → changes x.kind ≡ true → W a

of_more : (R W R' W' : Spot → Type 0) → ((a : Spot) → R a → R' a) → ((a : Spot) → W a → W' a) → (x : Touch) → IsOf R W x → IsOf R' W' x
of_more R W R' W' f g x h = record { reads = λ a p q. f a (h.reads a p q); writes = λ a p q. g a (h.writes a p q) }

abbrev Seen : (node : ℕ) → List View → Spot → Type 0
Seen node vs a = in_views node vs a ≡ true

views_of : (node : ℕ) (ws : List Bool) (vs : List View) → Each_of (IsOf (Seen node vs) (Seen node (chosen ws vs))) (view_touches node ws vs)
views_of node ws [] = tt
views_of node [] (v ∷ vs) = (
  record { reads = λ a p q. or_left (in_view node v a) (in_views node vs a) p; writes = λ a p q. cc },
  each_map _ _ (view_touches node [] vs) (of_more (Seen node vs) (Seen node []) (Seen node (v ∷ vs)) (Seen node []) (λ a i. or_right (in_view node v a) (in_views node vs a) i) (λ a i. i)) (views_nothing vs),
)
  where
    views_nothing : (us : List View) → Each_of (IsOf (Seen node us) (Seen node [])) (view_touches node [] us)
    views_nothing [] = tt
    views_nothing (u ∷ us) = (
      record { reads = λ a p q. or_left (in_view node u a) (in_views node us a) p; writes = λ a p q. cc },
      each_map _ _ (view_touches node [] us) (of_more (Seen node us) (Seen node []) (Seen node (u ∷ us)) (Seen node []) (λ a i. or_right (in_view node u a) (in_views node us a) i) (λ a i. i)) (views_nothing us),
    )
views_of node (true ∷ ws) (v ∷ vs) = (
  record { reads = λ a p q. or_left (in_view node v a) (in_views node vs a) p; writes = λ a p q. or_left (in_view node v a) (in_views node (chosen ws vs) a) p },
  each_map _ _ (view_touches node ws vs) (of_more (Seen node vs) (Seen node (chosen ws vs)) (Seen node (v ∷ vs)) (Seen node (v ∷ chosen ws vs)) (λ a i. or_right (in_view node v a) (in_views node vs a) i) (λ a i. or_right (in_view node v a) (in_views node (chosen ws vs) a) i)) (views_of node ws vs),
)
views_of node (false ∷ ws) (v ∷ vs) = (
  record { reads = λ a p q. or_left (in_view node v a) (in_views node vs a) p; writes = λ a p q. cc },
  each_map _ _ (view_touches node ws vs) (of_more (Seen node vs) (Seen node (chosen ws vs)) (Seen node (v ∷ vs)) (Seen node (chosen ws vs)) (λ a i. or_right (in_view node v a) (in_views node vs a) i) (λ a i. i)) (views_of node ws vs),
)

views_plain : (node : ℕ) (ws : List Bool) (vs : List View) → Each_of (λ x. IsPlain x.kind) (view_touches node ws vs)
views_plain node ws [] = tt
views_plain node [] (v ∷ vs) = (tt, views_plain node [] vs)
views_plain node (true ∷ ws) (v ∷ vs) = (tt, views_plain node ws vs)
views_plain node (false ∷ ws) (v ∷ vs) = (tt, views_plain node ws vs)

-- ---- what two touches never are

abbrev is_yes : Bool → Type 0
is_yes true = Unit {0}
is_yes false = ⊥

no : true ≡ false → ⊥
no h = subst is_yes h tt

-- agreeing touches of these kinds change nothing
abbrev NeverBoth : Touch → Touch → Type 0
NeverBoth x y = agree x.kind y.kind ≡ true → changes x.kind ≡ true → ⊥

abbrev Both : Touch → Touch → Type 0
Both x y = AtEach x y × NeverBoth x y

zip : (x : Touch) (ys : List Touch) → Each_of (AtEach x) ys → Each_of (NeverBoth x) ys → Each_of (Both x) ys
zip x [] p q = tt
zip x (y ∷ ys) p q = ((p.0, q.0), zip x ys p.1 q.1)

zips : (xs ys : List Touch) → Pairs AtEach xs ys → Pairs NeverBoth xs ys → Pairs Both xs ys
zips [] ys p q = tt
zips (x ∷ xs) ys p q = (zip x ys p.0 q.0, zips xs ys p.1 q.1)

never_left : (k l : Kind) → IsPlain k → agree k l ≡ true → changes k ≡ true → ⊥
never_left Reads l p h c = no (sym c)
never_left (Adds o e n) l p h c = p
never_left Writes l p h c = no (sym h)

never_right : (k l : Kind) → IsPlain l → agree k l ≡ true → changes k ≡ true → ⊥
never_right Reads l p h c = no (sym c)
never_right (Adds o e n) Reads p h c = no (sym h)
never_right (Adds o e n) (Adds o' e' n') p h c = p
never_right (Adds o e n) Writes p h c = no (sym h)
never_right Writes l p h c = no (sym h)

units : (xs : List Touch) → Each_of (λ x. Unit {0}) xs
units [] = tt
units (x ∷ xs) = (tt, units xs)

plain_left : (xs ys : List Touch) → Each_of (λ x. IsPlain x.kind) xs → Pairs NeverBoth xs ys
plain_left xs ys h = pairs_from (λ x. IsPlain x.kind) (λ y. Unit {0}) NeverBoth xs ys h (units ys) (λ x y p u. never_left x.kind y.kind p)

plain_right : (xs ys : List Touch) → Each_of (λ y. IsPlain y.kind) ys → Pairs NeverBoth xs ys
plain_right xs ys h = pairs_from (λ x. Unit {0}) (λ y. IsPlain y.kind) NeverBoth xs ys (units xs) h (λ x y u p. never_right x.kind y.kind p)

-- ---- events

module _ {C : Type 0} (leaves : Leaves C) where
  reads_touched : (e : Event) (a : Spot) → reads e a ≡ true → Some_of (λ x. touched x a ≡ true) (touches leaves e)
  reads_touched (Copy from to bytes) a h = inl (row_touched from bytes Reads a h)
  reads_touched (Fill to e count v) a h = cc
  reads_touched (Accumulate o e from to count) a h = by (or_either (in_row from.node from.at (count * width e) a) (in_row to.node to.at (count * width e) a) h)
    where
      by : (in_row from.node from.at (count * width e) a ≡ true) ⊎ (in_row to.node to.at (count * width e) a ≡ true) → Some_of (λ x. touched x a ≡ true) (touches leaves (Accumulate o e from to count))
      by (inl i) = inl (row_touched from (count * width e) Reads a i)
      by (inr i) = inr (inl (row_touched to (count * width e) (Adds o e (to.at % width e)) a i))
  reads_touched (Leaf node code vs path) a h = views_touched node (leaves.written code) vs a h

  writes_changed : (e : Event) (a : Spot) → writes leaves e a ≡ true → Some_of (Changed a) (touches leaves e)
  writes_changed (Copy from to bytes) a h = inr (inl (row_touched to bytes Writes a h, refl))
  writes_changed (Fill to e count v) a h = inl (row_touched to (count * width e) Writes a h, refl)
  writes_changed (Accumulate o e from to count) a h = inr (inl (row_touched to (count * width e) (Adds o e (to.at % width e)) a h, refl))
  writes_changed (Leaf node code vs path) a h = chosen_touched node (leaves.written code) vs a h

  abbrev OfEvent : Event → Touch → Type 0
  OfEvent e = IsOf (λ a. reads e a ≡ true) (λ a. writes leaves e a ≡ true)

  touches_of : (e : Event) → Each_of (OfEvent e) (touches leaves e)
  touches_of (Copy from to bytes) = (
    record { reads = λ a p q. touched_row from bytes Reads a p; writes = λ a p q. cc },
    (record { reads = λ a p q. cc; writes = λ a p q. touched_row to bytes Writes a p }, tt),
  )
  touches_of (Fill to e count v) = (record { reads = λ a p q. cc; writes = λ a p q. touched_row to (count * width e) Writes a p }, tt)
  touches_of (Accumulate o e from to count) = (
    record { reads = λ a p q. or_left (in_row from.node from.at (count * width e) a) (in_row to.node to.at (count * width e) a) (touched_row from (count * width e) Reads a p); writes = λ a p q. cc },
    (record { reads = λ a p q. cc; writes = λ a p q. touched_row to (count * width e) (Adds o e (to.at % width e)) a p }, tt),
  )
  touches_of (Leaf node code vs path) = views_of node (leaves.written code) vs

  -- ---- events that are apart

  agree_changes : (k l : Kind) → agree k l ≡ true → changes l ≡ true → changes k ≡ true
  agree_changes Reads Reads h c = cc
  agree_changes Reads (Adds o e p) h c = cc
  agree_changes Reads Writes h c = cc
  agree_changes (Adds o e p) l h c = refl
  agree_changes Writes l h c = refl

  apart_agree : (e f : Event) → Apart (footprint leaves) e f → (x y : Touch) → OfEvent e x → OfEvent f y → AtEach x y
  apart_agree e f h x y o q a p r = by x.kind y.kind refl refl
    where
      clash : writes leaves e a ≡ true → writes leaves f a ≡ true → true ≡ false
      clash i j = sym j ∙ h.written a i

      by : (k l : Kind) → x.kind ≡ k → y.kind ≡ l → agree k l ≡ true
      by Reads Reads i j = refl
      by Reads (Adds b t n) i j = let w = q.writes a r (ap changes j) in let z : true ≡ false = sym (o.reads a p i) ∙ h.second_read a w in cc
      by Reads Writes i j = let w = q.writes a r (ap changes j) in let z : true ≡ false = sym (o.reads a p i) ∙ h.second_read a w in cc
      by (Adds b t n) Reads i j = let w = o.writes a p (ap changes i) in let z : true ≡ false = sym (q.reads a r j) ∙ h.first_read a w in cc
      by (Adds b t n) (Adds b' t' n') i j = let z = clash (o.writes a p (ap changes i)) (q.writes a r (ap changes j)) in cc
      by (Adds b t n) Writes i j = let z = clash (o.writes a p (ap changes i)) (q.writes a r (ap changes j)) in cc
      by Writes Reads i j = let w = o.writes a p (ap changes i) in let z : true ≡ false = sym (q.reads a r j) ∙ h.first_read a w in cc
      by Writes (Adds b t n) i j = let z = clash (o.writes a p (ap changes i)) (q.writes a r (ap changes j)) in cc
      by Writes Writes i j = let z = clash (o.writes a p (ap changes i)) (q.writes a r (ap changes j)) in cc

  found : (B : Touch → Type 0) (xs ys : List Touch) (a : Spot) → Pairs Both xs ys → Some_of (Changed a) xs → Some_of B ys → ((x y : Touch) → Changed a x → B y → touched y a ≡ true) → ⊥
  found B xs ys a h s t g = pick_two Both (Changed a) B ⊥ xs ys h s t (λ x y b p q. b.1 (b.0 a p.0 (g x y p q)) p.1)

  found_second : (xs ys : List Touch) (a : Spot) → Pairs Both xs ys → Some_of (λ x. touched x a ≡ true) xs → Some_of (Changed a) ys → ⊥
  found_second xs ys a h s t =
      pick_two Both (λ x. touched x a ≡ true) (Changed a) ⊥ xs ys h s t (λ x y b p q. let z = b.0 a p q.0 in b.1 z (agree_changes x.kind y.kind z q.1))

  pairs_apart : (e f : Event) → Pairs AtEach (touches leaves e) (touches leaves f) → Pairs NeverBoth (touches leaves e) (touches leaves f) → Apart (footprint leaves) e f
  pairs_apart e f h n =
      let b = zips (touches leaves e) (touches leaves f) h n in
      record {
        first_read = λ a w. not_true (reads f a) (λ r. found (λ x. touched x a ≡ true) (touches leaves e) (touches leaves f) a b (writes_changed e a w) (reads_touched f a r) (λ x y p q. q));
        second_read = λ a w. not_true (reads e a) (λ r. found_second (touches leaves e) (touches leaves f) a b (reads_touched e a r) (writes_changed f a w));
        written = λ a w. not_true (writes leaves f a) (λ v. found (Changed a) (touches leaves e) (touches leaves f) a b (writes_changed e a w) (writes_changed f a v) (λ x y p q. q.0));
      }

  -- ---- accumulations

  abbrev Alike : Elem → ℕ → ℕ → Type 0
  Alike e at at' = at % width e ≡ at' % width e

  -- a byte of both rows has one place in its elements exactly where the rows begin at one place
  places_alike : (e : Elem) (at at' k : ℕ) → at ≤ k → at' ≤ k → Alike e at at' → (k - at) % width e ≡ (k - at') % width e
  places_alike el.Byte at at' k p q h = omega (arith, h)
  places_alike el.Int at at' k p q h = omega (arith, h)
  places_alike el.Long at at' k p q h = omega (arith, h)

  alike_places : (e : Elem) (at at' k : ℕ) → at ≤ k → at' ≤ k → (k - at) % width e ≡ (k - at') % width e → Alike e at at'
  alike_places el.Byte at at' k p q h = omega (arith, h)
  alike_places el.Int at at' k p q h = omega (arith, h)
  alike_places el.Long at at' k p q h = omega (arith, h)

  together_pairs : (o : RedOp) (e : Elem) (from to : Spot) (count : ℕ) (o' : RedOp) (e' : Elem) (from' to' : Spot) (count' : ℕ)
      → o ≡ o' → (same : e ≡ e') → Alike e to.at to'.at
      → Pairs AtEach (touches leaves (Accumulate o e from to count)) (touches leaves (Accumulate o' e from' to' count'))
      → events.AreTogether (Accumulate o e from to count) (Accumulate o' e' from' to' count')
  together_pairs o e from to count o' e' from' to' count' one same alike h = (
    one,
    same,
    (λ a i j. places_alike e to.at to'.at a.at (in_row-numbers to.node to.at (count * width e) a i).from (in_row-numbers to'.node to'.at (count' * width e) a j).from alike),
    (λ a i. not_true (in_row from'.node from'.at (count' * width e) a) (λ j. no (sym (h.1.0.0 a (row_touched to (count * width e) (Adds o e (to.at % width e)) a i) (row_touched from' (count' * width e) Reads a j))))),
    (λ a i. not_true (in_row from.node from.at (count * width e) a) (λ j. no (sym (h.0.1.0 a (row_touched from (count * width e) Reads a j) (row_touched to' (count' * width e) (Adds o' e (to'.at % width e)) a i))))),
  )

  pairs_together : (o : RedOp) (e : Elem) (from to : Spot) (count : ℕ) (o' : RedOp) (from' to' : Spot) (count' : ℕ)
      → o ≡ o' → ShareElements e to count to' count'
      → ShareNothing to.node to.at (count * width e) from'.node from'.at (count' * width e)
      → ShareNothing to'.node to'.at (count' * width e) from.node from.at (count * width e)
      → Pairs AtEach (touches leaves (Accumulate o e from to count)) (touches leaves (Accumulate o' e from' to' count'))
  pairs_together o e from to count o' from' to' count' one elements first second = (
    (
      (λ a i j. refl),
      ((λ a i j. let z : true ≡ false = sym (touched_row from (count * width e) Reads a i) ∙ second a (touched_row to' (count' * width e) (Adds o' e (to'.at % width e)) a j) in cc), tt),
    ),
    (
      (
        (λ a i j. let z : true ≡ false = sym (touched_row from' (count' * width e) Reads a j) ∙ first a (touched_row to (count * width e) (Adds o e (to.at % width e)) a i) in cc),
        (
          (λ a i j.
              let p = touched_row to (count * width e) (Adds o e (to.at % width e)) a i in
              let q = touched_row to' (count' * width e) (Adds o' e (to'.at % width e)) a j in
              let alike = alike_places e to.at to'.at a.at (in_row-numbers to.node to.at (count * width e) a p).from (in_row-numbers to'.node to'.at (count' * width e) a q).from (elements a p q) in
              both_and (sameb op.the_type o o' && sameb elem.the_type e e) (nat_eq (to.at % width e) (to'.at % width e)) (both_and (sameb op.the_type o o') (sameb elem.the_type e e) (true_same op.the_type o o' one) (true_same elem.the_type e e refl)) (number_same (to.at % width e) (to'.at % width e) alike)),
          tt,
        ),
      ),
      tt,
    ),
  )

  -- ---- any two events

  abbrev Accs : RedOp → Elem → Spot → Spot → ℕ → RedOp → Elem → Spot → Spot → ℕ → Type 0
  Accs o e from to count o' e' from' to' count' =
      Apart (footprint leaves) (Accumulate o e from to count) (Accumulate o' e' from' to' count') ⊎ events.AreTogether (Accumulate o e from to count) (Accumulate o' e' from' to' count')

  accumulations : (o : RedOp) (e : Elem) (from to : Spot) (count : ℕ) (o' : RedOp) (e' : Elem) (from' to' : Spot) (count' : ℕ)
      → Pairs AtEach (touches leaves (Accumulate o e from to count)) (touches leaves (Accumulate o' e' from' to' count'))
      → Accs o e from to count o' e' from' to' count'
  accumulations o e from to count o' e' from' to' count' h =
      by (agree (Adds o e (to.at % width e)) (Adds o' e' (to'.at % width e'))) refl
    where
      by : (v : Bool) → agree (Adds o e (to.at % width e)) (Adds o' e' (to'.at % width e')) ≡ v → Accs o e from to count o' e' from' to' count'
      by true k =
          let b = and_both (sameb op.the_type o o' && sameb elem.the_type e e') (nat_eq (to.at % width e) (to'.at % width e')) k in
          let c = and_both (sameb op.the_type o o') (sameb elem.the_type e e') b.0 in
          let one = same_true op.the_type tt o o' c.0 in
          let same = same_true elem.the_type tt e e' c.1 in
          let alike = same_number (to.at % width e) (to'.at % width e') b.1 in
          inr (together_pairs o e from to count o' e' from' to' count' one same
          (subst (λ z. to.at % width e ≡ to'.at % width z) (sym same) alike)
          (subst (λ z. Pairs AtEach (touches leaves (Accumulate o e from to count)) (touches leaves (Accumulate o' z from' to' count'))) (sym same) h))
      by false k =
          inl (pairs_apart (Accumulate o e from to count) (Accumulate o' e' from' to' count') h
          (((λ z c. no (sym c)), ((λ z c. no (sym c)), tt)), (((λ z c. no (sym z)), ((λ z c. no (sym z ∙ k)), tt)), tt)))

  apart_or_together : (e f : Event) → Pairs AtEach (touches leaves e) (touches leaves f) → Apart (footprint leaves) e f ⊎ events.AreTogether e f
  apart_or_together (Copy from to n) f h = inl (pairs_apart (Copy from to n) f h (plain_left (touches leaves (Copy from to n)) (touches leaves f) (tt, (tt, tt))))
  apart_or_together (Fill to e count v) f h = inl (pairs_apart (Fill to e count v) f h (plain_left (touches leaves (Fill to e count v)) (touches leaves f) (tt, tt)))
  apart_or_together (Leaf node code vs path) f h =
      inl (pairs_apart (Leaf node code vs path) f h (plain_left (touches leaves (Leaf node code vs path)) (touches leaves f) (views_plain node (leaves.written code) vs)))
  apart_or_together (Accumulate o e from to count) (Accumulate o' e' from' to' count') h = accumulations o e from to count o' e' from' to' count' h
  apart_or_together (Accumulate o e from to count) (Copy from' to' n) h =
      inl (pairs_apart (Accumulate o e from to count) (Copy from' to' n) h (plain_right (touches leaves (Accumulate o e from to count)) (touches leaves (Copy from' to' n)) (tt, (tt, tt))))
  apart_or_together (Accumulate o e from to count) (Fill to' e' count' v) h =
      inl (pairs_apart (Accumulate o e from to count) (Fill to' e' count' v) h (plain_right (touches leaves (Accumulate o e from to count)) (touches leaves (Fill to' e' count' v)) (tt, tt)))
  apart_or_together (Accumulate o e from to count) (Leaf node code vs path) h =
      inl (pairs_apart (Accumulate o e from to count) (Leaf node code vs path) h (plain_right (touches leaves (Accumulate o e from to count)) (touches leaves (Leaf node code vs path)) (views_plain node (leaves.written code) vs)))

  together_agree : (e f : Event) → events.AreTogether e f → Pairs AtEach (touches leaves e) (touches leaves f)
  together_agree (Accumulate o e from to count) (Accumulate o' e' from' to' count') h =
      subst (λ z. Pairs AtEach (touches leaves (Accumulate o e from to count)) (touches leaves (Accumulate o' z from' to' count'))) h.1 (pairs_together o e from to count o' from' to' count' h.0 h.2 h.3 h.4)
  together_agree e f h = absurd h

  -- ---- paths

  numbers_same : (xs ys : List ℕ) → same_numbers xs ys ≡ true → xs ≡ ys
  numbers_same [] [] h = refl
  numbers_same [] (y ∷ ys) h = cc
  numbers_same (x ∷ xs) [] h = cc
  numbers_same (x ∷ xs) (y ∷ ys) h =
      let b = and_both (nat_eq x y) (same_numbers xs ys) h in
      ap (λ z. z ∷ xs) (same_number x y b.0) ∙ ap (λ z. y ∷ z) (numbers_same xs ys b.1)

  same_self : (xs : List ℕ) → same_numbers xs xs ≡ true
  same_self [] = refl
  same_self (x ∷ xs) = both_and (nat_eq x x) (same_numbers xs xs) (number_same x x refl) (same_self xs)

  paths_differ : (e f : Event) → same_path e f ≡ false → PathsDiffer e f
  paths_differ (Leaf node code vs path) (Leaf node' code' vs' path') h = λ z. no (sym (subst (λ p. same_numbers path p ≡ true) z (same_self path)) ∙ h)
  paths_differ (Leaf node code vs path) (Copy from to n) h = tt
  paths_differ (Leaf node code vs path) (Fill to e count v) h = tt
  paths_differ (Leaf node code vs path) (Accumulate o e from to count) h = tt
  paths_differ (Copy from to n) f h = tt
  paths_differ (Fill to e count v) f h = tt
  paths_differ (Accumulate o e from to count) f h = tt

  differ_paths : (e f : Event) → PathsDiffer e f → same_path e f ≡ false
  differ_paths (Leaf node code vs path) (Leaf node' code' vs' path') h = not_true (same_numbers path path') (λ z. h (numbers_same path path' z))
  differ_paths (Leaf node code vs path) (Copy from to n) h = refl
  differ_paths (Leaf node code vs path) (Fill to e count v) h = refl
  differ_paths (Leaf node code vs path) (Accumulate o e from to count) h = refl
  differ_paths (Copy from to n) f h = refl
  differ_paths (Fill to e count v) f h = refl
  differ_paths (Accumulate o e from to count) f h = refl

  -- ---- the test

  not_false : (v : Bool) → not v ≡ true → v ≡ false
  not_false true h = cc
  not_false false h = refl

  pub test_independent : (e f : Event) → are_independent leaves e f ≡ true → AreIndependent leaves e f
  test_independent e f h =
      let b = and_both (all_along (touches leaves e) (touches leaves f)) (not (same_path e f)) h in
      record { apart = apart_or_together e f (tests_pairs (touches leaves e) (touches leaves f) b.0); paths = paths_differ e f (not_false (same_path e f) b.1) }

  pub independent_test : (e f : Event) → AreIndependent leaves e f → are_independent leaves e f ≡ true
  independent_test e f h =
      both_and (all_along (touches leaves e) (touches leaves f)) (not (same_path e f)) (pairs_tests (touches leaves e) (touches leaves f) (by h.apart)) (ap not (differ_paths e f h.paths))
    where
      by : Apart (footprint leaves) e f ⊎ events.AreTogether e f → Pairs AtEach (touches leaves e) (touches leaves f)
      by (inl a) = pairs_from (OfEvent e) (OfEvent f) AtEach (touches leaves e) (touches leaves f) (touches_of e) (touches_of f) (apart_agree e f a)
      by (inr t) = together_agree e f t

  -- what isn't refuted holds
  pub independent_unless : (e f : Event) → ((AreIndependent leaves e f → ⊥) → ⊥) → AreIndependent leaves e f
  independent_unless e f h = by (are_independent leaves e f) refl
    where
      by : (v : Bool) → are_independent leaves e f ≡ v → AreIndependent leaves e f
      by true p = test_independent e f p
      by false p = absurd (h (λ i. no (sym (independent_test e f i) ∙ p)))

pub independent_by_touches : (C : Type 0) → IndependentByTouches C
independent_by_touches C leaves e f = (test_independent leaves e f, independent_test leaves e f)
