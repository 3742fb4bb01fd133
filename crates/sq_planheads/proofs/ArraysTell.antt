-- What the tests of arrays tell, and the faults of arrays one by one.
use Rattle.std.proofs.Common.{◌≡◌, ℕ, ◌*◌, ◌≤◌, ◌⊎◌, inl, inr, Bool, true, false, ◌&&◌, ◌||◌, eqb, if◌then◌else◌, List, [], ◌∷◌, ◌++◌, map, Option, Some, None, Decides, refl, sym, ap, ◌∙◌, subst}
use Rattle.std.specs.Prelude.{nat_eq}
use Rattle.std.specs.List.{slice_get, list_any}
use Rattle.std.proofs.lemmas.Bool.{leb-true, le-leb, eqb-true, eq-eqb, and_parts, and_from, not-true, not_from_false, false_from_ne_true}
use Rattle.std.proofs.lemmas.Slice.Eq.{bytes_eq-Decides}
use Rattle.sq_num.specs.Elements.{width}
use Rattle.sq_text.specs.Names.{Bytes, same_name}
use Rattle.sq_plantext.specs.declared.text.BufferLine.{BufferLine}
use Rattle.sq_plantext.specs.declared.text.ArrayLine.{ArrayLine}
use Rattle.sq_planfile.specs.Sound.{product, IsArrayLine}
use Rattle.sq_planheads.specs.Extents.{elements_of}
use Rattle.sq_planheads.specs.Arrays.{has_room, fits_in, fits, is_new_name, with_name, is_new_buffer, with_buffer}
use Rattle.sq_planheads.proofs.Members.{In, in_left, in_right, in_either, in_contains, contains_in}
use Rattle.sq_planheads.proofs.ExtentsTell.{elements_sound, elements_complete}

-- ---- sets ls lists

module _ {A : Type 0} (same : A → A → Bool) (tells : (x y : A) → Decides (same x y) (x ≡ y)) where
  any_sound : (xs : List A) (x : A) → list_any (same x) xs ≡ true → In xs x
  any_sound [] x h = absurd (cc)
  any_sound (y ∷ ys) x h = by (any_sound ys x) (same x y) refl h
    where
      by : (list_any (same x) ys ≡ true → In ys x) → (b : Bool) → same x y ≡ b → (b || list_any (same x) ys) ≡ true → In (y ∷ ys) x
      by later true e h = inl (sym ((tells x y).0 e))
      by later false e h = inr (later h)

  any_complete : (xs : List A) (x : A) → In xs x → list_any (same x) xs ≡ true
  any_complete [] x h = absurd h
  any_complete (y ∷ ys) x (inl e) = ap (λ b. b || list_any (same x) ys) ((tells x y).1 (sym e))
  any_complete (y ∷ ys) x (inr h) = ap (λ b. same x y || b) (any_complete ys x h) ∙ or_true (same x y)
    where
      or_true : (b : Bool) → (b || true) ≡ true
      or_true true = refl
      or_true false = refl

  abbrev with_more : List A → A → List A
  with_more xs x = if list_any (same x) xs then xs else xs ++ x ∷ []

  more_in : (xs : List A) (x y : A) → In (with_more xs x) y → In xs y ⊎ (x ≡ y)
  more_in xs x y h = by (list_any (same x) xs) h
    where
      by : (b : Bool) → In (if b then xs else xs ++ x ∷ []) y → In xs y ⊎ (x ≡ y)
      by true h = inl h
      by false h = elim (in_either xs (x ∷ []) y h) [ inl k ↦ inl k | inr (inl k) ↦ inr k | inr (inr k) ↦ absurd k ]

  in_more : (xs : List A) (x y : A) → In xs y ⊎ (x ≡ y) → In (with_more xs x) y
  in_more xs x y h = by (list_any (same x) xs) refl h
    where
      by : (b : Bool) → list_any (same x) xs ≡ b → In xs y ⊎ (x ≡ y) → In (if b then xs else xs ++ x ∷ []) y
      by true e (inl k) = k
      by true e (inr k) = subst (In xs) k (any_sound xs x e)
      by false e (inl k) = in_left xs (x ∷ []) y k
      by false e (inr k) = in_right xs (x ∷ []) y (inl k)

eqb_tells : (a b : ℕ) → Decides (eqb a b) (a ≡ b)
eqb_tells a b = (eqb-true a b, eq-eqb a b)

-- ---- the arrays before

abbrev names_before : List ArrayLine → List Bytes
names_before ls = map (λ (a : ArrayLine). a.name.name) ls

abbrev buffers_before : List ArrayLine → List ℕ
buffers_before ls = map (λ (a : ArrayLine). a.buffer) ls

-- these are the names and the buffers of the arrays before
pub record Knows (before : List ArrayLine) (names : List Bytes) (taken : List ℕ) : Type 0 where
  pub names_to : (n : Bytes) → In names n → In (names_before before) n
  pub names_from : (n : Bytes) → In (names_before before) n → In names n
  pub taken_to : (b : ℕ) → In taken b → In (buffers_before before) b
  pub taken_from : (b : ℕ) → In (buffers_before before) b → In taken b

pub knows_none : Knows [] [] []
knows_none = record { names_to = λ n h. h; names_from = λ n h. h; taken_to = λ b h. h; taken_from = λ b h. h }

map_append : {A B : Type 0} (f : A → B) (xs ys : List A) → map f (xs ++ ys) ≡ map f xs ++ map f ys
map_append f [] ys = refl
map_append f (x ∷ xs) ys = ap (λ zs. f x ∷ zs) (map_append f xs ys)

-- what stands in the list with one more
one_more : {A B : Type 0} (f : A → B) (xs : List A) (x : A) (y : B) → In (map f xs) y ⊎ (f x ≡ y) → In (map f (xs ++ x ∷ [])) y
one_more f xs x y (inl h) = subst (λ ys. In ys y) (sym (map_append f xs (x ∷ []))) (in_left (map f xs) (f x ∷ []) y h)
one_more f xs x y (inr h) = subst (λ ys. In ys y) (sym (map_append f xs (x ∷ []))) (in_right (map f xs) (f x ∷ []) y (inl h))

more_one : {A B : Type 0} (f : A → B) (xs : List A) (x : A) (y : B) → In (map f (xs ++ x ∷ [])) y → In (map f xs) y ⊎ (f x ≡ y)
more_one f xs x y h = elim (in_either (map f xs) (f x ∷ []) y (subst (λ ys. In ys y) (map_append f xs (x ∷ [])) h)) [ inl k ↦ inl k | inr (inl k) ↦ inr k | inr (inr k) ↦ absurd k ]

either_to : {P Q R : Type 0} → (P → Q) → P ⊎ R → Q ⊎ R
either_to f (inl p) = inl (f p)
either_to f (inr r) = inr r

pub knows_more : (before : List ArrayLine) (names : List Bytes) (taken : List ℕ) (a : ArrayLine) → Knows before names taken
    → Knows (before ++ a ∷ []) (with_name names a.name.name) (with_buffer taken a.buffer)
knows_more before names taken a k = record {
  names_to = λ n h. one_more (λ (a : ArrayLine). a.name.name) before a n (either_to (k.names_to n) (more_in same_name bytes_eq-Decides names a.name.name n h));
  names_from = λ n h. in_more same_name bytes_eq-Decides names a.name.name n (either_to (k.names_from n) (more_one (λ (a : ArrayLine). a.name.name) before a n h));
  taken_to = λ b h. one_more (λ (a : ArrayLine). a.buffer) before a b (either_to (k.taken_to b) (more_in nat_eq eqb_tells taken a.buffer b h));
  taken_from = λ b h. in_more nat_eq eqb_tells taken a.buffer b (either_to (k.taken_from b) (more_one (λ (a : ArrayLine). a.buffer) before a b h));
}

-- ---- one array

record InBuffer (a : ArrayLine) (o : Option BufferLine) : Type 0 where
  buffer : BufferLine
  there : o ≡ Some buffer
  root : buffer.level ≡ 0
  fits : has_room a (elements_of a.extents) buffer.size ≡ true

in_buffer : (a : ArrayLine) (o : Option BufferLine) → fits_in a o ≡ true → InBuffer a o
in_buffer a None h = absurd (cc)
in_buffer a (Some b) h =
    let p = and_parts (eqb b.level 0) (has_room a (elements_of a.extents) b.size) h in
    record { buffer = b; there = refl; root = eqb-true b.level 0 p.0; fits = p.1 }

module _ (buffers : List BufferLine) (before : List ArrayLine) (names : List Bytes) (taken : List ℕ) (k : Knows before names taken) (a : ArrayLine) where
  abbrev test : Bool
  test = (is_new_name names a.name.name && is_new_buffer taken a.buffer) && fits buffers a

  room_of : (b : BufferLine) (o : Option ℕ) → elements_of a.extents ≡ o → has_room a o b.size ≡ true → (n : ℕ) × (elements_of a.extents ≡ Some n) × (width a.elem * n ≤ b.size)
  room_of b None e h = absurd (cc)
  room_of b (Some n) e h = (n, e, leb-true (width a.elem * n) b.size h)

  sound : test ≡ true → IsArrayLine buffers before a
  sound h =
      let p = and_parts (is_new_name names a.name.name && is_new_buffer taken a.buffer) (fits buffers a) h in
      let q = and_parts (is_new_name names a.name.name) (is_new_buffer taken a.buffer) p.0 in
      let new_name : list_any (same_name a.name.name) names ≡ false = not-true (list_any (same_name a.name.name) names) q.0 in
      let new_buffer : list_any (nat_eq a.buffer) taken ≡ false = not-true (list_any (nat_eq a.buffer) taken) q.1 in
      let b = in_buffer a (slice_get buffers a.buffer) p.1 in
      let r = room_of b.buffer (elements_of a.extents) refl b.fits in
      let f = elements_sound a.extents r.0 r.1 in
      record {
        name = λ c. let t : list_any (same_name a.name.name) names ≡ true = any_complete same_name bytes_eq-Decides names a.name.name (k.names_from a.name.name (in_contains (names_before before) a.name.name c)) in
            differ (list_any (same_name a.name.name) names) t new_name;
        mine = λ c. let t : list_any (nat_eq a.buffer) taken ≡ true = any_complete nat_eq eqb_tells taken a.buffer (k.taken_from a.buffer (in_contains (buffers_before before) a.buffer c)) in
            differ (list_any (nat_eq a.buffer) taken) t new_buffer;
        buffer = b.buffer;
        there = b.there;
        root = b.root;
        extents = f.extents;
        room = subst (λ n. width a.elem * n ≤ b.buffer.size) f.is r.2;
      }
    where
      differ : (b : Bool) → b ≡ true → b ≡ false → ⊥
      differ true t f = cc
      differ false t f = cc

  complete : IsArrayLine buffers before a → test ≡ true
  complete h =
      let new_name : list_any (same_name a.name.name) names ≡ false = false_from_ne_true (list_any (same_name a.name.name) names)
      (λ t. h.name (contains_in (names_before before) a.name.name (k.names_to a.name.name (any_sound same_name bytes_eq-Decides names a.name.name t)))) in
      let new_buffer : list_any (nat_eq a.buffer) taken ≡ false = false_from_ne_true (list_any (nat_eq a.buffer) taken)
      (λ t. h.mine (contains_in (buffers_before before) a.buffer (k.taken_to a.buffer (any_sound nat_eq eqb_tells taken a.buffer t)))) in
      let in_it : fits_in a (Some h.buffer) ≡ true = and_from _ _ (eq-eqb h.buffer.level 0 h.root)
      (ap (λ o. has_room a o h.buffer.size) (elements_complete a.extents h.extents) ∙ le-leb (width a.elem * product a.extents) h.buffer.size h.room) in
      and_from _ _ (and_from _ _ (not_from_false (list_any (same_name a.name.name) names) new_name) (not_from_false (list_any (nat_eq a.buffer) taken) new_buffer))
      (ap (fits_in a) h.there ∙ in_it)

  pub array_tells : Decides test (IsArrayLine buffers before a)
  array_tells = (sound, complete)
