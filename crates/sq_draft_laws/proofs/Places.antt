-- The first byte of a view is one of its places, where no extent is 0.
use Rattle.std.proofs.Common.{◌≡◌, ℕ, zero, suc, ◌-◌, ◌*◌, ◌<◌, ◌≤◌, List, [], ◌∷◌, map, refl, sym, ap, subst, arith}
use Rattle.std.proofs.Common.{Contains, All}
use Rattle.std.specs.List.{flat_map, range_with_len}
use Rattle.std.proofs.lemmas.List.Elements.{Contains-append_left, Contains-append_right, All-contains}
use Rattle.sq_num.specs.declared.Elem.{Elem}
use Rattle.sq_num.specs.declared.Elem.TheVariants.{Byte, Int, Long}
use Rattle.sq_num.specs.Elements.{width}
use Rattle.sq_rect.specs.declared.view.View.{View}
use Rattle.sq_rect.specs.Placing.{offset, place_of}
use Rattle.sq_ir.specs.Events.{coordinates, places}

in_flat : {X Y : Type 0} (f : X → List Y) (xs : List X) (x : X) (y : Y) → Contains xs x → Contains (f x) y
    → Contains (flat_map f xs) y
in_flat f [] x y (k, l, is) g = absurd (omega (arith, l))
in_flat f (z ∷ xs) x y (zero, l, is) g =
    let e : z ≡ x = is in
    Contains-append_left (f z) (flat_map f xs) y (subst (λ u. Contains (f u) y) (sym e) g)
in_flat f (z ∷ xs) x y (suc k, l, is) g =
    Contains-append_right (f z) (flat_map f xs) y (in_flat f xs x y (k, omega (arith, l), is) g)

in_behind : (x : ℕ) (cs : List (List ℕ)) (c : List ℕ) → Contains cs c
    → Contains (map (λ (d : List ℕ). x ∷ d) cs) (x ∷ c)
in_behind x [] c (k, l, is) = absurd (omega (arith, l))
in_behind x (d ∷ cs) c (zero, l, is) = let e : d ≡ c = is in (0, omega arith, ap (λ (u : List ℕ). x ∷ u) e)
in_behind x (d ∷ cs) c (suc k, l, is) =
    let r = in_behind x cs c (k, omega (arith, l), is) in
    let m = r.1 in
    (suc r.0, omega (arith, m), r.2)

in_range : (a n : ℕ) → 0 < n → Contains (range_with_len a n) a
in_range a zero l = absurd (omega (arith, l))
in_range a (suc n) l = (0, omega arith, refl)

first_coordinate : (ns : List ℕ) → All (λ n. 0 < n) ns → Contains (coordinates ns) (map (λ n. 0) ns)
first_coordinate [] h = (0, omega arith, refl)
first_coordinate (n ∷ ns) h =
    let some : 0 < n = h 0 n (omega arith) in
    in_flat (λ (x : ℕ). map (λ (d : List ℕ). x ∷ d) (coordinates ns)) (range_with_len 0 (n - 0)) 0
    (0 ∷ map (λ n. 0) ns) (in_range 0 (n - 0) (omega (arith, some)))
    (in_behind 0 (coordinates ns) (map (λ n. 0) ns)
    (first_coordinate ns (λ k d l. h (suc k) d (omega (arith, l)))))

no_offset : (ss ns : List ℕ) → offset ss (map (λ n. 0) ns) ≡ 0
no_offset [] ns = refl
no_offset (s ∷ ss) [] = refl
no_offset (s ∷ ss) (n ∷ ns) = let g = no_offset ss ns in let e : 0 * s ≡ 0 = omega arith in omega (arith, g, e)

some_width : (e : Elem) → 0 < width e
some_width Byte = omega arith
some_width Int = omega arith
some_width Long = omega arith

first_place : (v : View) → place_of v (map (λ n. 0) v.extents) ≡ v.at
first_place v =
    let e = no_offset v.strides v.extents in
    let f : width v.elem * offset v.strides (map (λ n. 0) v.extents) ≡ width v.elem * 0
    = ap (λ (z : ℕ). width v.elem * z) e in
    let g : width v.elem * 0 ≡ 0 = omega arith in
    omega (arith, f, g)

pub begins : (v : View) → All (λ n. 0 < n) v.extents → Contains (places v) v.at
begins v h =
    in_flat (λ (c : List ℕ). range_with_len (place_of v c) (width v.elem)) (coordinates v.extents)
    (map (λ n. 0) v.extents) v.at (first_coordinate v.extents h)
    (subst (λ (z : ℕ). Contains (range_with_len z (width v.elem)) v.at) (sym (first_place v))
    (in_range v.at (width v.elem) (some_width v.elem)))

-- so it lies below what all of its places lie below
pub near_below : (v : View) (word capacity : ℕ) → capacity ≤ word → All (λ n. 0 < n) v.extents
    → All (λ k. k < capacity) (places v) → v.at < word
near_below v word capacity l some h =
    let g = All-contains (λ k. k < capacity) (places v) v.at h (begins v some) in
    omega (arith, g, l)
