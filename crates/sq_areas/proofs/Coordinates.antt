-- The bytes of a view, coordinate by coordinate, are those of its area.
use Rattle.std.proofs.Common.{◌≡◌, ℕ, zero, suc, ◌+◌, ◌-◌, ◌*◌, ◌<◌, ◌≤◌, true, List, [], ◌∷◌, ◌++◌, map, length, refl, sym, ap, subst, ◌∙◌, ◌⊎◌, inl, inr, arith}
use Rattle.std.specs.Prelude.{nat_eq}
use Rattle.std.specs.List.{flat_map, range_with_len}
use Rattle.std.proofs.Math.Nat.{mul_comm, mul_assoc, mul-add}
use Rattle.sq_text.specs.declared.place.Span.{Span}
use Rattle.sq_num.specs.Elements.{width}
use Rattle.sq_rect.specs.Placing.{offset}
use Rattle.sq_rect.specs.Rows.{coordinates_in}
use Rattle.sq_ir.specs.Events.{coordinates, is_among}
use Rattle.sq_areas.specs.Areas.{HasByte}
use Rattle.sq_areas.specs.Viewed.{steps_of, ViewsAreAreas}
use Rattle.sq_areas.proofs.Among.{range_in, in_range, or_either, or_left, or_right, Some_of}

-- ---- some of a list

some_left : {X : Type 0} (P : X → Type 0) (xs ys : List X) → Some_of P xs → Some_of P (xs ++ ys)
some_left P [] ys h = absurd h
some_left P (x ∷ xs) ys (inl p) = inl p
some_left P (x ∷ xs) ys (inr h) = inr (some_left P xs ys h)

some_right : {X : Type 0} (P : X → Type 0) (xs ys : List X) → Some_of P ys → Some_of P (xs ++ ys)
some_right P [] ys h = h
some_right P (x ∷ xs) ys h = inr (some_right P xs ys h)

some_either : {X : Type 0} (P : X → Type 0) (xs ys : List X) → Some_of P (xs ++ ys) → Some_of P xs ⊎ Some_of P ys
some_either P [] ys h = inr h
some_either P (x ∷ xs) ys (inl p) = inl (inl p)
some_either P (x ∷ xs) ys (inr h) = by (some_either P xs ys h)
  where
    by : Some_of P xs ⊎ Some_of P ys → Some_of P (x ∷ xs) ⊎ Some_of P ys
    by (inl z) = inl (inr z)
    by (inr z) = inr z

some_flat : {X Y : Type 0} (P : Y → Type 0) (f : X → List Y) (xs : List X) → Some_of (λ x. Some_of P (f x)) xs → Some_of P (flat_map f xs)
some_flat P f [] h = h
some_flat P f (x ∷ xs) (inl p) = some_left P (f x) (flat_map f xs) p
some_flat P f (x ∷ xs) (inr h) = some_right P (f x) (flat_map f xs) (some_flat P f xs h)

flat_some : {X Y : Type 0} (P : Y → Type 0) (f : X → List Y) (xs : List X) → Some_of P (flat_map f xs) → Some_of (λ x. Some_of P (f x)) xs
flat_some P f [] h = h
flat_some P f (x ∷ xs) h = by (some_either P (f x) (flat_map f xs) h) (flat_some P f xs)
  where
    by : Some_of P (f x) ⊎ Some_of P (flat_map f xs) → (Some_of P (flat_map f xs) → Some_of (λ y. Some_of P (f y)) xs) → Some_of (λ y. Some_of P (f y)) (x ∷ xs)
    by (inl z) g = inl z
    by (inr z) g = inr (g z)

some_map : {X Y : Type 0} (P : Y → Type 0) (f : X → Y) (xs : List X) → Some_of (λ x. P (f x)) xs → Some_of P (map f xs)
some_map P f [] h = h
some_map P f (x ∷ xs) (inl p) = inl p
some_map P f (x ∷ xs) (inr h) = inr (some_map P f xs h)

map_some : {X Y : Type 0} (P : Y → Type 0) (f : X → Y) (xs : List X) → Some_of P (map f xs) → Some_of (λ x. P (f x)) xs
map_some P f [] h = h
map_some P f (x ∷ xs) (inl p) = inl p
map_some P f (x ∷ xs) (inr h) = inr (map_some P f xs h)

some_to : {X : Type 0} (P Q : X → Type 0) (xs : List X) → ((x : X) → P x → Q x) → Some_of P xs → Some_of Q xs
some_to P Q [] f h = h
some_to P Q (x ∷ xs) f (inl p) = inl (f x p)
some_to P Q (x ∷ xs) f (inr h) = inr (some_to P Q xs f h)

same_or : (a x : ℕ) → a ≤ x → (a ≡ x) ⊎ (a + 1 ≤ x)
same_or zero zero l = inl refl
same_or zero (suc x) l = inr (omega arith)
same_or (suc a) zero l = absurd (omega (arith, l))
same_or (suc a) (suc x) l = lift (same_or a x (omega (arith, l)))
  where
    lift : (a ≡ x) ⊎ (a + 1 ≤ x) → (suc a ≡ suc x) ⊎ (suc a + 1 ≤ suc x)
    lift (inl e) = inl (ap suc e)
    lift (inr k) = inr (omega (arith, k))

some_range : (P : ℕ → Type 0) (a n x : ℕ) → a ≤ x → x < a + n → P x → Some_of P (range_with_len a n)
some_range P a zero x l h p = absurd (omega (arith, l, h))
some_range P a (suc n) x l h p = by (same_or a x l) (λ k. some_range P (a + 1) n x k (omega (arith, h)) p)
  where
    by : (a ≡ x) ⊎ (a + 1 ≤ x) → (a + 1 ≤ x → Some_of P (range_with_len (a + 1) n)) → Some_of P (range_with_len a (suc n))
    by (inl e) f = inl (subst P (sym e) p)
    by (inr k) f = inr (f k)

range_some : (P : ℕ → Type 0) (a n : ℕ) → Some_of P (range_with_len a n) → (x : ℕ) × (a ≤ x) × (x < a + n) × P x
range_some P a zero h = absurd h
range_some P a (suc n) (inl p) = (a, omega arith, omega arith, p)
range_some P a (suc n) (inr h) = let r = range_some P (a + 1) n h in let l = r.1 in let k = r.2 in (r.0, omega (arith, l), omega (arith, k), r.3)

-- a byte among lists of bytes is one of some list
among_flat : {X : Type 0} (f : X → List ℕ) (xs : List X) (k : ℕ) → is_among (flat_map f xs) k ≡ true → Some_of (λ x. is_among (f x) k ≡ true) xs
among_flat f [] k h = cc
among_flat f (x ∷ xs) k h = by (either (f x) (flat_map f xs) h) (among_flat f xs k)
  where
    either : (us bs : List ℕ) → is_among (us ++ bs) k ≡ true → (is_among us k ≡ true) ⊎ (is_among bs k ≡ true)
    either [] bs h = inr h
    either (a ∷ us) bs h = go (or_either (nat_eq k a) (is_among (us ++ bs) k) h) (either us bs)
      where
        go : (nat_eq k a ≡ true) ⊎ (is_among (us ++ bs) k ≡ true) → (is_among (us ++ bs) k ≡ true → (is_among us k ≡ true) ⊎ (is_among bs k ≡ true)) → (is_among (a ∷ us) k ≡ true) ⊎ (is_among bs k ≡ true)
        go (inl e) g = inl (or_left (nat_eq k a) (is_among us k) e)
        go (inr z) g = lift (g z)
          where
            lift : (is_among us k ≡ true) ⊎ (is_among bs k ≡ true) → (is_among (a ∷ us) k ≡ true) ⊎ (is_among bs k ≡ true)
            lift (inl y) = inl (or_right (nat_eq k a) (is_among us k) y)
            lift (inr y) = inr y

    by : (is_among (f x) k ≡ true) ⊎ (is_among (flat_map f xs) k ≡ true) → (is_among (flat_map f xs) k ≡ true → Some_of (λ y. is_among (f y) k ≡ true) xs) → Some_of (λ y. is_among (f y) k ≡ true) (x ∷ xs)
    by (inl z) g = inl z
    by (inr z) g = inr (g z)

front_among : (xs ys : List ℕ) (k : ℕ) → is_among xs k ≡ true → is_among (xs ++ ys) k ≡ true
front_among [] ys k h = cc
front_among (x ∷ xs) ys k h = by (or_either (nat_eq k x) (is_among xs k) h) (front_among xs ys k)
  where
    by : (nat_eq k x ≡ true) ⊎ (is_among xs k ≡ true) → (is_among xs k ≡ true → is_among (xs ++ ys) k ≡ true) → is_among ((x ∷ xs) ++ ys) k ≡ true
    by (inl e) g = or_left (nat_eq k x) (is_among (xs ++ ys) k) e
    by (inr z) g = or_right (nat_eq k x) (is_among (xs ++ ys) k) (g z)

back_among : (xs ys : List ℕ) (k : ℕ) → is_among ys k ≡ true → is_among (xs ++ ys) k ≡ true
back_among [] ys k h = h
back_among (x ∷ xs) ys k h = or_right (nat_eq k x) (is_among (xs ++ ys) k) (back_among xs ys k h)

flat_among : {X : Type 0} (f : X → List ℕ) (xs : List X) (k : ℕ) → Some_of (λ x. is_among (f x) k ≡ true) xs → is_among (flat_map f xs) k ≡ true
flat_among f [] k h = absurd h
flat_among f (x ∷ xs) k (inl z) = front_among (f x) (flat_map f xs) k z
flat_among f (x ∷ xs) k (inr z) = back_among (f x) (flat_map f xs) k (flat_among f xs k z)

-- ---- coordinates

module _ (w k : ℕ) where
  -- the byte is one of the element at a coordinate
  abbrev In : (at : ℕ) → (strides c : List ℕ) → Type 0
  In at ss c = is_among (range_with_len (at + w * offset ss c) w) k ≡ true

  abbrev spans : List ℕ → List Span
  spans ns = map (λ n. record { lo = 0; hi = n }) ns

  moved : (at x s o : ℕ) → at + w * (x * s + o) ≡ at + x * (w * s) + w * o
  moved at x s o =
      let a = mul-add w (x * s) o in
      let b : w * (x * s) ≡ x * (w * s) = sym (mul_assoc w x s) ∙ ap (λ z. z * s) (mul_comm w x) ∙ mul_assoc x w s in
      omega (arith, a, b)

  coordinates_bytes : (ns ss : List ℕ) (at : ℕ) → length ss ≡ length ns → Some_of (In at ss) (coordinates_in (spans ns)) → HasByte (steps_of w ns ss) at w k
  coordinates_bytes [] ss at e (inl h) = let r = range_in (at + w * 0) w k (zero_offset ss h) in let p = r.0 in let q = r.1 in (omega (arith, p), omega (arith, q))
    where
      zero_offset : (ss : List ℕ) → In at ss [] → is_among (range_with_len (at + w * 0) w) k ≡ true
      zero_offset [] h = h
      zero_offset (s ∷ ss) h = h
  coordinates_bytes [] ss at e (inr h) = absurd h
  coordinates_bytes (n ∷ ns) [] at e h = absurd (omega (arith, e))
  coordinates_bytes (n ∷ ns) (s ∷ ss) at e h =
      let r = range_some (λ x. Some_of (In at (s ∷ ss)) (map (λ c. x ∷ c) (coordinates_in (spans ns)))) 0 (n - 0) (flat_some (In at (s ∷ ss)) (λ x. map (λ c. x ∷ c) (coordinates_in (spans ns))) (range_with_len 0 (n - 0)) h) in
      let x = r.0 in
      let lt = r.2 in
      let m = map_some (In at (s ∷ ss)) (λ c. x ∷ c) (coordinates_in (spans ns)) r.3 in
      let t = some_to (λ c. In at (s ∷ ss) (x ∷ c)) (In (at + x * (w * s)) ss) (coordinates_in (spans ns)) (λ c z. subst (λ b. is_among (range_with_len b w) k ≡ true) (moved at x s (offset ss c)) z) m in
      (x, omega (arith, lt), coordinates_bytes ns ss (at + x * (w * s)) (omega (arith, e)) t)

  bytes_coordinates : (ns ss : List ℕ) (at : ℕ) → length ss ≡ length ns → HasByte (steps_of w ns ss) at w k → Some_of (In at ss) (coordinates_in (spans ns))
  bytes_coordinates [] [] at e h = let p = h.0 in let q = h.1 in inl (in_range (at + w * 0) w k (omega (arith, p)) (omega (arith, q)))
  bytes_coordinates [] (s ∷ ss) at e h = absurd (omega (arith, e))
  bytes_coordinates (n ∷ ns) [] at e h = absurd (omega (arith, e))
  bytes_coordinates (n ∷ ns) (s ∷ ss) at e h =
      let x = h.0 in
      let lt = h.1 in
      let t = bytes_coordinates ns ss (at + x * (w * s)) (omega (arith, e)) h.2 in
      let m = some_to (In (at + x * (w * s)) ss) (λ c. In at (s ∷ ss) (x ∷ c)) (coordinates_in (spans ns)) (λ c z. subst (λ b. is_among (range_with_len b w) k ≡ true) (sym (moved at x s (offset ss c))) z) t in
      let y = some_map (In at (s ∷ ss)) (λ c. x ∷ c) (coordinates_in (spans ns)) m in
      some_flat (In at (s ∷ ss)) (λ z. map (λ c. z ∷ c) (coordinates_in (spans ns))) (range_with_len 0 (n - 0)) (some_range (λ z. Some_of (In at (s ∷ ss)) (map (λ c. z ∷ c) (coordinates_in (spans ns)))) 0 (n - 0) x (omega arith) (omega (arith, lt)) y)

pub views_are_areas : ViewsAreAreas
views_are_areas v e k = (
  (λ h. coordinates_bytes (width v.elem) k v.extents v.strides v.at e (among_flat (λ c. range_with_len (v.at + width v.elem * offset v.strides c) (width v.elem)) (coordinates v.extents) k h)),
  (λ h. flat_among (λ c. range_with_len (v.at + width v.elem * offset v.strides c) (width v.elem)) (coordinates v.extents) k (bytes_coordinates (width v.elem) k v.extents v.strides v.at e h)),
)
