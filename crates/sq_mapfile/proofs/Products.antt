-- What a number picks that is taken apart one after another is the item of that number among all products.
use Rattle.std.proofs.Common.{◌≡◌, ℕ, zero, suc, ◌+◌, ◌*◌, ◌/◌, ◌%◌, ◌<◌, ◌≤◌, List, [], ◌∷◌, ◌++◌, length, map, Some, slice_get, option_map, refl, sym, ◌∙◌, ap, subst, arith}
use Rattle.std.specs.List.{flat_map}
use Rattle.std.proofs.Math.Nat.{add-mul, mul_assoc, mul_comm, mul-pos, mod-lt, div-lt_iff_lt-mul}
use Rattle.std.proofs.lemmas.Nat.{div-add-mod', mul-add-lt}
use Rattle.std.proofs.lemmas.List.Concat.{flat_map-cons}
use Rattle.std.proofs.lemmas.Option.{slice_get-map}
use Rattle.sq_mapfile.specs.declared.digits.Digits.{Digits}
use Rattle.sq_mapfile.specs.Choices.{each}

abbrev pub digits : (number choices : ℕ) → Digits
digits number choices = record { number = number; choices = choices }

pub same_digits : (n m c e : ℕ) → n ≡ m → c ≡ e → digits n c ≡ digits m e
same_digits n m c e p q = ap (λ n. digits n c) p ∙ ap (λ c. digits m c) q

-- ---- what is picked

module _ {A B : Type 0} (at : Digits → A → B) (past : Digits → A → Digits) where
  abbrev pub picked : Digits → List A → List B
  picked d [] = []
  picked d (x ∷ xs) = at d x ∷ picked (past d x) xs

  abbrev pub left : Digits → List A → Digits
  left d [] = d
  left d (x ∷ xs) = left (past d x) xs

-- the number q of the ways, with s of the b choices behind them, picks the way q, and s of b is left
pub record Takes {A B : Type 0} (ways : A → List B) (at : Digits → A → B) (past : Digits → A → Digits) (x : A) : Type 0 where
  pub some : 0 < length (ways x)
  pub item : (q s b : ℕ) → s < b → q < length (ways x) → slice_get (ways x) q ≡ Some (at (digits (q * b + s) (length (ways x) * b)) x)
  pub rest : (q s b : ℕ) → s < b → q < length (ways x) → past (digits (q * b + s) (length (ways x) * b)) x ≡ digits s b

-- ---- arithmetic

-- q parts of r items, and then p of them, each of b
apart : (q p r b s : ℕ) → (q * r + p) * b + s ≡ q * (r * b) + (p * b + s)
apart q p r b s =
    let e : (q * r + p) * b ≡ q * r * b + p * b = add-mul (q * r) p b in
    let f : q * r * b ≡ q * (r * b) = mul_assoc q r b in
    omega (arith, e, f)

-- ---- lists of products

abbrev fronts : {B : Type 0} → List (List B) → B → List (List B)
fronts es y = map (λ ys. y ∷ ys) es

pub length_map : {A B : Type 0} (f : A → B) (xs : List A) → length (map f xs) ≡ length xs
length_map f [] = refl
length_map f (x ∷ xs) = ap suc (length_map f xs)

length_append : {A : Type 0} (xs ys : List A) → length (xs ++ ys) ≡ length xs + length ys
length_append [] ys = omega arith
length_append (x ∷ xs) ys = let e = length_append xs ys in omega (arith, e)

pub as_many : {B : Type 0} (es : List (List B)) (ws : List B) → length (flat_map (fronts es) ws) ≡ length ws * length es
as_many es [] = omega arith
as_many es (w ∷ ws) =
    let a : length (flat_map (fronts es) (w ∷ ws)) ≡ length (fronts es w ++ flat_map (fronts es) ws) = ap length (flat_map-cons (fronts es) w ws) in
    let b : length (fronts es w ++ flat_map (fronts es) ws) ≡ length (fronts es w) + length (flat_map (fronts es) ws) = length_append (fronts es w) (flat_map (fronts es) ws) in
    let c : length (fronts es w) ≡ length es = length_map (λ ys. w ∷ ys) es in
    let d = as_many es ws in
    omega (arith, a, b, c, d)

in_front : {A : Type 0} (xs ys : List A) (i : ℕ) (x : A) → slice_get xs i ≡ Some x → slice_get (xs ++ ys) i ≡ Some x
in_front [] ys i x h = absurd (cc)
in_front (y ∷ xs) ys zero x h = h
in_front (y ∷ xs) ys (suc i) x h = in_front xs ys i x h

behind_all : {A : Type 0} (xs ys : List A) (i : ℕ) → slice_get (xs ++ ys) (length xs + i) ≡ slice_get ys i
behind_all [] ys i = let e : 0 + i ≡ i = omega arith in ap (slice_get ys) e
behind_all (x ∷ xs) ys i =
    let e : length (x ∷ xs) + i ≡ suc (length xs + i) = omega arith in ap (slice_get ((x ∷ xs) ++ ys)) e ∙ behind_all xs ys i

-- of all products the one at q of the first and p of the rest
at_product : {B : Type 0} (es : List (List B)) (ws : List B) (q p : ℕ) (y : B) (ys : List B) → slice_get ws q ≡ Some y → slice_get es p ≡ Some ys
    → slice_get (flat_map (fronts es) ws) (q * length es + p) ≡ Some (y ∷ ys)
at_product es [] q p y ys h g = absurd (cc)
at_product es (w ∷ ws) zero p y ys h g =
    let is : w ≡ y = cc in
    let there : slice_get (fronts es w) p ≡ Some (w ∷ ys) = slice_get-map (λ ys. w ∷ ys) es p ∙ ap (option_map (λ ys. w ∷ ys)) g in
    let place : 0 * length es + p ≡ p = omega arith in
    ap (slice_get (flat_map (fronts es) (w ∷ ws))) place ∙ ap (λ l. slice_get l p) (flat_map-cons (fronts es) w ws) ∙ in_front (fronts es w) (flat_map (fronts es) ws) p (w ∷ ys) there ∙ ap (λ y. Some (y ∷ ys)) is
at_product es (w ∷ ws) (suc q) p y ys h g =
    let count : length (fronts es w) ≡ length es = length_map (λ ys. w ∷ ys) es in
    let place : suc q * length es + p ≡ length (fronts es w) + (q * length es + p) = omega (arith, count) in
    ap (λ l. slice_get l (suc q * length es + p)) (flat_map-cons (fronts es) w ws)
    ∙ ap (slice_get (fronts es w ++ flat_map (fronts es) ws)) place
    ∙ behind_all (fronts es w) (flat_map (fronts es) ws) (q * length es + p) ∙ at_product es ws q p y ys h g

-- where in a product of w ways and of r products behind them the number q of all lies
record Split (w r all q s b : ℕ) : Type 0 where
  pub front : ℕ
  pub back : ℕ
  pub is : q ≡ front * r + back
  pub few : front < w
  pub fewer : back < r
  pub within : back * b + s < r * b
  pub whole : digits (q * b + s) (all * b) ≡ digits (front * (r * b) + (back * b + s)) (w * (r * b))

split : (w r all q s b : ℕ) → 0 < r → all ≡ w * r → s < b → q < all → Split w r all q s b
split w r all q s b some count lt few =
    let below : q < w * r = subst (λ n. q < n) count few in
    let is : q ≡ q / r * r + q % r = sym (div-add-mod' q r) in
    let back : q % r < r = mod-lt q some in
    let inside : q % r * b + s < b * r = mul-add-lt (q % r) b s r back lt in
    record {
      front = q / r;
      back = q % r;
      is = is;
      few = (div-lt_iff_lt-mul {k = r} {x = q} {y = w} some).1 below;
      fewer = back;
      within = subst (λ n. q % r * b + s < n) (mul_comm b r) inside;
      whole = same_digits (q * b + s) (q / r * (r * b) + (q % r * b + s)) (all * b) (w * (r * b))
          (ap (λ q. q * b + s) is ∙ apart (q / r) (q % r) r b s) (ap (λ n. n * b) count ∙ mul_assoc w r b);
    }

-- of one way alone the first is picked, and what is left is all
pub only_one : {A : Type 0} (x : A) (q : ℕ) → q < 1 → slice_get (x ∷ []) q ≡ Some x
only_one x zero few = refl
only_one x (suc q) few = absurd (omega (arith, few))

pub only_behind : (q s b : ℕ) → q < 1 → digits (q * b + s) (1 * b) ≡ digits s b
only_behind zero s b few = same_digits (0 * b + s) s (1 * b) b (omega arith) (omega arith)
only_behind (suc q) s b few = absurd (omega (arith, few))

-- ---- all of them

module _ {A B : Type 0} (ways : A → List B) (at : Digits → A → B) (past : Digits → A → Digits) where
  none_left : Takes (each ways) (picked at past) (left at past) []
  none_left = record { some = omega arith; item = λ q s b lt few. only_one {A = List B} [] q few; rest = λ q s b lt few. only_behind q s b few }

  one_more : (x : A) (xs : List A) → Takes ways at past x → Takes (each ways) (picked at past) (left at past) xs → Takes (each ways) (picked at past) (left at past) (x ∷ xs)
  one_more x xs first more = record {
    some = subst (λ n. 0 < n) (sym (as_many (each ways xs) (ways x))) (mul-pos first.some more.some);
    item = λ q s b lt few.
        (let p = split (length (ways x)) (length (each ways xs)) (length (each ways (x ∷ xs))) q s b more.some (as_many (each ways xs) (ways x)) lt few in
        let y = first.item p.front (p.back * b + s) (length (each ways xs) * b) p.within p.few in
        let ys = more.item p.back s b lt p.fewer in
        let rest = first.rest p.front (p.back * b + s) (length (each ways xs) * b) p.within p.few in
        ap (slice_get (each ways (x ∷ xs))) p.is
        ∙ at_product (each ways xs) (ways x) p.front p.back _ _ y ys
        ∙ ap (λ d. Some (at (digits (p.front * (length (each ways xs) * b) + (p.back * b + s)) (length (ways x) * (length (each ways xs) * b))) x ∷ picked at past d xs)) (sym rest)
        ∙ ap (λ d. Some (picked at past d (x ∷ xs))) (sym p.whole));
    rest = λ q s b lt few.
        (let p = split (length (ways x)) (length (each ways xs)) (length (each ways (x ∷ xs))) q s b more.some (as_many (each ways xs) (ways x)) lt few in
        ap (λ d. left at past d (x ∷ xs)) p.whole
        ∙ ap (λ d. left at past d xs) (first.rest p.front (p.back * b + s) (length (each ways xs) * b) p.within p.few)
        ∙ more.rest p.back s b lt p.fewer);
  }

  pub takes_all : ((x : A) → Takes ways at past x) → (xs : List A) → Takes (each ways) (picked at past) (left at past) xs
  takes_all h [] = none_left
  takes_all h (x ∷ xs) = one_more x xs (h x) (takes_all h xs)
