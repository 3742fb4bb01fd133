-- Coordinates in order, the bytes of elements in that order, and parts of lists.
use Rattle.std.proofs.Common.{◌≡◌, ℕ, zero, suc, ◌+◌, ◌-◌, ◌*◌, ◌<◌, ◌≤◌, Bool, true, false, List, [], ◌∷◌, ◌++◌}
use Rattle.std.proofs.Common.{length, map, get_or, take, drop, refl, sym, ap, ap₂, ◌∙◌, subst, arith}
use Rattle.std.specs.Prelude.{Some, slice_get, if◌then◌else◌}
use Rattle.std.specs.Option.{option_map}
use Rattle.std.specs.List.{flat_map, range_with_len}
use Rattle.std.proofs.lemmas.List.{length-append, drop-drop}
use Rattle.std.proofs.lemmas.Slice.Eq.{bytes_eq-Decides}
use Rattle.sq_text.specs.Names.{same_name}
use Rattle.sq_rect.specs.Extents.{product}
use Rattle.sq_rect.specs.Placing.{IsIn}
use Rattle.sq_rect.proofs.Placing.{inside}
use Rattle.sq_ir.specs.Events.{coordinates}
use Rattle.sq_ir.specs.DraftLeaves.{piece_at}
use Rattle.sq_plan_laws.specs.Coordinates.{number, coordinate}
use Rattle.sq_plan_laws.specs.Codes.{listed}
use Rattle.sq_plan_laws.proofs.Coordinates.{coordinate_in, number_of_coordinate}
use Rattle.sq_plan_laws.proofs.PlacedLists.{listed_same, same_some}

front_at : {X : Type 0} (xs ys : List X) (k : ℕ) → k < length xs → slice_get (xs ++ ys) k ≡ slice_get xs k
front_at [] ys k lt = absurd (omega (arith, lt))
front_at (x ∷ xs) ys zero lt = refl
front_at (x ∷ xs) ys (suc k) lt = front_at xs ys k (omega (arith, lt))

behind_at : {X : Type 0} (xs ys : List X) (k : ℕ) → slice_get (xs ++ ys) (length xs + k) ≡ slice_get ys k
behind_at [] ys k = let z : 0 + k ≡ k = omega arith in ap (slice_get ys) z
behind_at (x ∷ xs) ys k = let z : suc (length xs) + k ≡ suc (length xs + k)
    = omega arith in ap (slice_get (x ∷ (xs ++ ys))) z ∙ behind_at xs ys k

map_at : {X Y : Type 0} (f : X → Y) (xs : List X) (k : ℕ) → slice_get (map f xs) k ≡ option_map f (slice_get xs k)
map_at f [] k = refl
map_at f (x ∷ xs) zero = refl
map_at f (x ∷ xs) (suc k) = map_at f xs k

map_length : {X Y : Type 0} (f : X → Y) (xs : List X) → length (map f xs) ≡ length xs
map_length f [] = refl
map_length f (x ∷ xs) = ap suc (map_length f xs)

abbrev fan : List (List ℕ) → ℕ → ℕ → List (List ℕ)
fan cs a n = flat_map (λ x. map (λ (c : List ℕ). x ∷ c) cs) (range_with_len a n)

fan_length : (cs : List (List ℕ)) (a n : ℕ) → length (fan cs a n) ≡ n * length cs
fan_length cs a zero = omega arith
fan_length cs a (suc n) =
    let first = map_length (λ (c : List ℕ). a ∷ c) cs in
    let rest = fan_length cs (a + 1) n in
    length-append (map (λ (c : List ℕ). a ∷ c) cs) (fan cs (a + 1) n) ∙ omega (arith, first, rest)

fan_at : (cs : List (List ℕ)) (a n x j : ℕ) → x < n → j < length cs → slice_get (fan cs a n) (x * length cs + j)
    ≡ option_map (λ (c : List ℕ). (a + x) ∷ c) (slice_get cs j)
fan_at cs a zero x j lx lj = absurd (omega (arith, lx))
fan_at cs a (suc n) zero j lx lj =
    let long = map_length (λ (c : List ℕ). a ∷ c) cs in
    let here : 0 * length cs + j ≡ j = omega arith in
    let same : a ≡ a + 0 = omega arith in
    ap (slice_get (fan cs a (suc n))) here
    ∙ front_at (map (λ (c : List ℕ). a ∷ c) cs) (fan cs (a + 1) n) j (omega (arith, long, lj))
    ∙ map_at (λ (c : List ℕ). a ∷ c) cs j ∙ ap (λ i. option_map (λ (c : List ℕ). i ∷ c) (slice_get cs j)) same
fan_at cs a (suc n) (suc x) j lx lj =
    let long = map_length (λ (c : List ℕ). a ∷ c) cs in
    let there : suc x * length cs + j ≡ length (map (λ (c : List ℕ). a ∷ c) cs) + (x * length cs + j)
    = omega (arith, long) in
    let same : a + 1 + x ≡ a + suc x = omega arith in
    ap (slice_get (fan cs a (suc n))) there
    ∙ behind_at (map (λ (c : List ℕ). a ∷ c) cs) (fan cs (a + 1) n) (x * length cs + j)
    ∙ fan_at cs (a + 1) n x j (omega (arith, lx)) lj
    ∙ ap (λ i. option_map (λ (c : List ℕ). i ∷ c) (slice_get cs j)) same

pub coordinates_length : (ns : List ℕ) → length (coordinates ns) ≡ product ns
coordinates_length [] = refl
coordinates_length (n ∷ ns) =
    let all : n - 0 ≡ n = omega arith in
    ap (λ m. length (fan (coordinates ns) 0 m)) all
    ∙ (fan_length (coordinates ns) 0 n ∙ ap (λ m. n * m) (coordinates_length ns))

-- the coordinates stand at their numbers
pub coordinate_at : (ns cs : List ℕ) → IsIn ns cs → slice_get (coordinates ns) (number ns cs) ≡ Some cs
coordinate_at [] [] at = refl
coordinate_at [] (c ∷ cs) at = absurd at
coordinate_at (n ∷ ns) [] at = absurd at
coordinate_at (n ∷ ns) (c ∷ cs) at =
    let all : n - 0 ≡ n = omega arith in
    let long = coordinates_length ns in
    let low : number ns cs < length (coordinates ns) = omega (arith, inside ns cs at.1, long) in
    ap (λ m. slice_get (fan (coordinates ns) 0 m) (c * product ns + number ns cs)) all
    ∙ ap (λ m. slice_get (fan (coordinates ns) 0 n) (c * m + number ns cs)) (sym long)
    ∙ fan_at (coordinates ns) 0 n c (number ns cs) at.0 low
    ∙ ap₂ (λ i o. option_map (λ (l : List ℕ). i ∷ l) o) (omega arith) (coordinate_at ns cs at.1)

slice_below : {X : Type 0} (xs : List X) (k : ℕ) (x : X) → slice_get xs k ≡ Some x → k < length xs
slice_below [] k x e = cc
slice_below (y ∷ xs) zero x e = omega arith
slice_below (y ∷ xs) (suc k) x e = let z = slice_below xs k x e in omega (arith, z)

-- and nowhere else
pub at_one : (ns cs : List ℕ) → (j : ℕ) → slice_get (coordinates ns) j ≡ Some cs → j ≡ number ns cs
at_one ns cs j e =
    let low : j < product ns = subst (λ m. j < m) (coordinates_length ns) (slice_below (coordinates ns) j cs e) in
    let same : coordinate ns j ≡ cs
    = same_some (sym (sym (ap (slice_get (coordinates ns)) (number_of_coordinate ns j low))
    ∙ coordinate_at ns (coordinate ns j) (coordinate_in ns j low)) ∙ e) in
    sym (number_of_coordinate ns j low) ∙ ap (number ns) same

-- ---- pieces

pub piece_is : (w : ℕ) (ds : List (List ℕ)) (bytes c : List ℕ) (i : ℕ) → slice_get ds i ≡ Some c
    → ((j : ℕ) → slice_get ds j ≡ Some c → j ≡ i) → piece_at w ds bytes c ≡ take w (drop (i * w) bytes)
piece_is w [] bytes c i e one = cc
piece_is w (d ∷ ds) bytes c zero e one =
    let same : d ≡ c = same_some e in
    let is : same_name d c ≡ true = (bytes_eq-Decides d c).1 same in
    let none : 0 ≡ 0 * w = omega arith in
    ap (λ b. if b then take w bytes else piece_at w ds (drop w bytes) c) is ∙ ap (λ k. take w (drop k bytes)) none
piece_is w (d ∷ ds) bytes c (suc i) e one
    = go (same_name d c) refl (piece_is w ds (drop w bytes) c i e (λ j f. let z = one (suc j) f in omega (arith, z)))
  where
    go : (b : Bool) → same_name d c ≡ b → piece_at w ds (drop w bytes) c ≡ take w (drop (i * w) (drop w bytes))
        → (if b then take w bytes else piece_at w ds (drop w bytes) c) ≡ take w (drop (suc i * w) bytes)
    go true f rec = let z = one 0 (ap Some ((bytes_eq-Decides d c).0 f)) in absurd (omega (arith, z))
    go false f rec = let z : w + i * w ≡ suc i * w = omega arith in rec
        ∙ ap (take w) (drop-drop (i * w) w bytes ∙ ap (λ k. drop k bytes) z)

-- a part of a list that is made of a function
pub part_listed : (n p w : ℕ) (f : ℕ → ℕ) → p + w ≤ n → take w (drop p (listed n f)) ≡ listed w (λ b. f (p + b))
part_listed n zero w f le = first n w f (omega (arith, le)) ∙ same w f
  where
    first : (n w : ℕ) (f : ℕ → ℕ) → w ≤ n → take w (listed n f) ≡ listed w f
    first n zero f le = refl
    first zero (suc w) f le = absurd (omega (arith, le))
    first (suc n) (suc w) f le = ap (λ (l : List ℕ). f 0 ∷ l) (first n w (λ k. f (suc k)) (omega (arith, le)))

    same : (w : ℕ) (f : ℕ → ℕ) → listed w f ≡ listed w (λ b. f (0 + b))
    same w f = listed_same w f (λ b. f (0 + b)) (λ b lb. let z : b ≡ 0 + b = omega arith in ap f z)
part_listed zero (suc p) w f le = absurd (omega (arith, le))
part_listed (suc n) (suc p) w f le =
    part_listed n p w (λ k. f (suc k)) (omega (arith, le))
    ∙ listed_same w (λ b. f (suc (p + b))) (λ b. f (suc p + b))
    (λ b lb. let z : suc (p + b) ≡ suc p + b = omega arith in ap f z)

-- ---- elements one after another

pub cell_front : (x ys : List ℕ) (b : ℕ) → b < length x → get_or (x ++ ys) b 0 ≡ get_or x b 0
cell_front [] ys b lt = absurd (omega (arith, lt))
cell_front (v ∷ x) ys zero lt = refl
cell_front (v ∷ x) ys (suc b) lt = cell_front x ys b (omega (arith, lt))

pub cell_behind : (x ys : List ℕ) (b : ℕ) → get_or (x ++ ys) (length x + b) 0 ≡ get_or ys b 0
cell_behind [] ys b = let z : 0 + b ≡ b = omega arith in ap (λ k. get_or ys k 0) z
cell_behind (v ∷ x) ys b = let z : suc (length x) + b ≡ suc (length x + b)
    = omega arith in ap (λ k. get_or (v ∷ (x ++ ys)) k 0) z ∙ cell_behind x ys b

pub flat_length : (w : ℕ) (f : List ℕ → List ℕ) (ds : List (List ℕ)) → ((d : List ℕ) → length (f d) ≡ w)
    → length (flat_map f ds) ≡ length ds * w
flat_length w f [] long = omega arith
flat_length w f (d ∷ ds) long = let first = long d in let rest
    = flat_length w f ds long in length-append (f d) (flat_map f ds) ∙ omega (arith, first, rest)

pub flat_at : (w : ℕ) (f : List ℕ → List ℕ) (ds : List (List ℕ)) → ((d : List ℕ) → length (f d) ≡ w)
    → (i : ℕ) (d : List ℕ) (b : ℕ) → slice_get ds i ≡ Some d → b < w → get_or (flat_map f ds) (i * w + b) 0
    ≡ get_or (f d) b 0
flat_at w f [] long i d b e lb = cc
flat_at w f (x ∷ ds) long zero d b e lb =
    let first = long x in
    let here : 0 * w + b ≡ b = omega arith in
    ap (λ k. get_or (f x ++ flat_map f ds) k 0) here
    ∙ (cell_front (f x) (flat_map f ds) b (omega (arith, first, lb))
    ∙ ap (λ (y : List ℕ). get_or (f y) b 0) (same_some e))
flat_at w f (x ∷ ds) long (suc i) d b e lb =
    let first = long x in
    let there : suc i * w + b ≡ length (f x) + (i * w + b) = omega (arith, first) in
    ap (λ k. get_or (f x ++ flat_map f ds) k 0) there
    ∙ (cell_behind (f x) (flat_map f ds) (i * w + b) ∙ flat_at w f ds long i d b e lb)
