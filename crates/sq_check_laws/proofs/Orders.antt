-- Two events are unordered exactly where the second order has them the other way round.
use Rattle.std.proofs.Common.{◌≡◌, ◌≢◌, ℕ, zero, suc, ◌+◌, ◌<◌, Bool, true, false, List, [], ◌∷◌, ◌++◌, map, length, slice_get, Some, refl, sym, ap, ◌∙◌, ◌⊎◌, inl, inr, arith}
use Rattle.sq_ir.specs.Tree.{Tree, Skip, Act, Stuck, Seq, Par, Within, waiting}
use Rattle.sq_ir.specs.Unordered.{event_in, IsUnordered, IsFresh}
use Rattle.sq_check_laws.specs.Flaws.{number_at, Clashes}
use Rattle.sq_check_laws.specs.Orders.{second_at, Item, behind, items, UnorderedAreInverted, ClashIn, ClashesAreListed}
use Rattle.sq_check_laws.proofs.Numbering.{below_all}

-- ---- lists

get_left : {X : Type 0} (xs ys : List X) (i : ℕ) → i < length xs → slice_get (xs ++ ys) i ≡ slice_get xs i
get_left [] ys i h = absurd (omega arith)
get_left (x ∷ xs) ys zero h = refl
get_left (x ∷ xs) ys (suc i) h = get_left xs ys i (omega arith)

get_right : {X : Type 0} (xs ys : List X) (i : ℕ) → slice_get (xs ++ ys) (length xs + i) ≡ slice_get ys i
get_right [] ys i = let e : 0 + i ≡ i = omega arith in ap (slice_get ys) e
get_right (x ∷ xs) ys i =
    let e : suc (length xs) + i ≡ suc (length xs + i) = omega arith in
    ap (slice_get (x ∷ (xs ++ ys))) e ∙ get_right xs ys i

get_map : {X Y : Type 0} (f : X → Y) (xs : List X) (i : ℕ) (x : X) → slice_get xs i ≡ Some x → slice_get (map f xs) i ≡ Some (f x)
get_map f [] i x h = cc
get_map f (y ∷ xs) zero x h = cc
get_map f (y ∷ xs) (suc i) x h = get_map f xs i x h

map_get : {X Y : Type 0} (f : X → Y) (xs : List X) (i : ℕ) (y : Y) → slice_get (map f xs) i ≡ Some y → (x : X) × (slice_get xs i ≡ Some x) × (y ≡ f x)
map_get f [] i y h = cc
map_get f (x ∷ xs) zero y h = (x, refl, cc)
map_get f (x ∷ xs) (suc i) y h = map_get f xs i y h

append_get : {X : Type 0} (xs ys : List X) (i : ℕ) (x : X) → slice_get (xs ++ ys) i ≡ Some x → (slice_get xs i ≡ Some x) ⊎ ((k : ℕ) × (i ≡ length xs + k) × (slice_get ys k ≡ Some x))
append_get [] ys i x h = inr (i, omega arith, h)
append_get (z ∷ xs) ys zero x h = inl h
append_get (z ∷ xs) ys (suc i) x h = by (append_get xs ys i x h)
  where
    by : (slice_get xs i ≡ Some x) ⊎ ((k : ℕ) × (i ≡ length xs + k) × (slice_get ys k ≡ Some x)) → (slice_get xs i ≡ Some x) ⊎ ((k : ℕ) × (suc i ≡ suc (length xs) + k) × (slice_get ys k ≡ Some x))
    by (inl e) = inl e
    by (inr r) = inr (r.0, omega (arith, r.1), r.2)

length_map : {X Y : Type 0} (f : X → Y) (xs : List X) → length (map f xs) ≡ length xs
length_map f [] = refl
length_map f (x ∷ xs) = ap suc (length_map f xs)

length_append : {X : Type 0} (xs ys : List X) → length (xs ++ ys) ≡ length xs + length ys
length_append [] ys = omega arith
length_append (x ∷ xs) ys = let h = length_append xs ys in omega (arith, h)

cons_differ : (x : Bool) (p q : List Bool) → p ≢ q → (x ∷ p) ≢ (x ∷ q)
cons_differ x p q n h = n cc

tails_differ : (x : Bool) (p q : List Bool) → (x ∷ p) ≢ (x ∷ q) → p ≢ q
tails_differ x p q n h = n (ap (λ l. x ∷ l) h)

module _ {E S : Type 0} where
  pub length_items : (t : Tree E S) → length (items t) ≡ waiting t
  length_items Skip = refl
  length_items (Act e) = refl
  length_items (Stuck e) = refl
  length_items (Seq a b) =
      let m = length_map (behind {E = E} (waiting a)) (items b) in
      let l = length_append (items a) (map (behind (waiting a)) (items b)) in
      let x = length_items a in
      let y = length_items b in
      omega (arith, m, l, x, y)
  length_items (Par a b) =
      let m = length_map (behind {E = E} (waiting b)) (items a) in
      let l = length_append (map (behind (waiting b)) (items a)) (items b) in
      let x = length_items a in
      let y = length_items b in
      omega (arith, m, l, x, y)
  length_items (Within s a) = length_items a

  -- ---- both orders

  second_below : (t : Tree E S) → IsFresh t → (p : List Bool) (e : E) → event_in t p ≡ Some e → second_at t p < waiting t
  second_below Skip h p e i = cc
  second_below (Act f) h [] e i = omega arith
  second_below (Act f) h (x ∷ p) e i = cc
  second_below (Stuck f) h p e i = absurd h
  second_below (Seq a b) h [] e i = cc
  second_below (Seq a b) h (false ∷ p) e i = let l = second_below a h.0 p e i in omega (arith, l)
  second_below (Seq a b) h (true ∷ p) e i = let l = second_below b h.1 p e i in omega (arith, l)
  second_below (Par a b) h [] e i = cc
  second_below (Par a b) h (false ∷ p) e i = let l = second_below a h.0 p e i in omega (arith, l)
  second_below (Par a b) h (true ∷ p) e i = let l = second_below b h.1 p e i in omega (arith, l)
  second_below (Within s a) h p e i = second_below a h p e i

  abbrev Inverted : Tree E S → List Bool → List Bool → Type 0
  Inverted t p q = (IsUnordered t p q → second_at t q < second_at t p) × (second_at t q < second_at t p → IsUnordered t p q)

  inverted : (t : Tree E S) → IsFresh t → (p q : List Bool) (e f : E) → event_in t p ≡ Some e → event_in t q ≡ Some f → number_at t p < number_at t q → Inverted t p q
  inverted Skip h p q e f i j l = cc
  inverted (Act g) h [] [] e f i j l = absurd (omega (arith, l))
  inverted (Act g) h [] (y ∷ q) e f i j l = absurd (omega (arith, l))
  inverted (Act g) h (x ∷ p) q e f i j l = cc
  inverted (Stuck g) h p q e f i j l = absurd h
  inverted (Seq a b) h [] q e f i j l = cc
  inverted (Seq a b) h (x ∷ p) [] e f i j l = cc
  inverted (Seq a b) h (false ∷ p) (false ∷ q) e f i j l =
      let k = inverted a h.0 p q e f i j l in (
        (λ u. k.0 (record { differ = tails_differ false p q u.differ; not_before = u.not_before; not_after = u.not_after })),
        (λ s. let u = k.1 s in record { differ = cons_differ false p q u.differ; not_before = u.not_before; not_after = u.not_after }),
      )
  inverted (Seq a b) h (true ∷ p) (true ∷ q) e f i j l =
      let k = inverted b h.1 p q e f i j (omega (arith, l)) in (
        (λ u. let s = k.0 (record { differ = tails_differ true p q u.differ; not_before = u.not_before; not_after = u.not_after }) in omega (arith, s)),
        (λ s. let u = k.1 (omega (arith, s)) in record { differ = cons_differ true p q u.differ; not_before = u.not_before; not_after = u.not_after }),
      )
  inverted (Seq a b) h (false ∷ p) (true ∷ q) e f i j l =
      ((λ u. absurd (u.not_before tt)), (λ s. let z = second_below a h.0 p e i in absurd (omega (arith, s, z))))
  inverted (Seq a b) h (true ∷ p) (false ∷ q) e f i j l = let z = below_all a h.0 q f j in absurd (omega (arith, l, z))
  inverted (Par a b) h [] q e f i j l = cc
  inverted (Par a b) h (x ∷ p) [] e f i j l = cc
  inverted (Par a b) h (false ∷ p) (false ∷ q) e f i j l =
      let k = inverted a h.0 p q e f i j l in (
        (λ u. let s = k.0 (record { differ = tails_differ false p q u.differ; not_before = u.not_before; not_after = u.not_after }) in omega (arith, s)),
        (λ s. let u = k.1 (omega (arith, s)) in record { differ = cons_differ false p q u.differ; not_before = u.not_before; not_after = u.not_after }),
      )
  inverted (Par a b) h (true ∷ p) (true ∷ q) e f i j l =
      let k = inverted b h.1 p q e f i j (omega (arith, l)) in (
        (λ u. k.0 (record { differ = tails_differ true p q u.differ; not_before = u.not_before; not_after = u.not_after })),
        (λ s. let u = k.1 s in record { differ = cons_differ true p q u.differ; not_before = u.not_before; not_after = u.not_after }),
      )
  inverted (Par a b) h (false ∷ p) (true ∷ q) e f i j l =
      ((λ u. let z = second_below b h.1 q f j in omega (arith, z)), (λ s. record { differ = λ z. cc; not_before = λ z. z; not_after = λ z. z }))
  inverted (Par a b) h (true ∷ p) (false ∷ q) e f i j l = let z = below_all a h.0 q f j in absurd (omega (arith, l, z))
  inverted (Within s a) h p q e f i j l =
      let k = inverted a h p q e f i j l in (
        (λ u. k.0 (record { differ = u.differ; not_before = u.not_before; not_after = u.not_after })),
        (λ z. let u = k.1 z in record { differ = u.differ; not_before = u.not_before; not_after = u.not_after }),
      )

  -- ---- places and items

  abbrev At : Tree E S → List Bool → E → Type 0
  At t p e = slice_get (items t) (number_at t p) ≡ Some (record { event = e; second = second_at t p })

  place_item : (t : Tree E S) → IsFresh t → (p : List Bool) (e : E) → event_in t p ≡ Some e → At t p e
  place_item Skip h p e i = cc
  place_item (Act f) h [] e i = let r : f ≡ e = cc in ap (λ z. Some (record { event = z; second = 0 })) r
  place_item (Act f) h (x ∷ p) e i = cc
  place_item (Stuck f) h p e i = absurd h
  place_item (Seq a b) h [] e i = cc
  place_item (Seq a b) h (false ∷ p) e i =
      let l = below_all a h.0 p e i in
      let n = length_items a in
      get_left (items a) (map (behind (waiting a)) (items b)) (number_at a p) (omega (arith, l, n)) ∙ place_item a h.0 p e i
  place_item (Seq a b) h (true ∷ p) e i =
      let ys = map (behind (waiting a)) (items b) in
      ap (λ z. slice_get (items a ++ ys) (z + number_at b p)) (sym (length_items a)) ∙ get_right (items a) ys (number_at b p) ∙ get_map (behind (waiting a)) (items b) (number_at b p) _ (place_item b h.1 p e i)
  place_item (Par a b) h [] e i = cc
  place_item (Par a b) h (false ∷ p) e i =
      let l = below_all a h.0 p e i in
      let n = length_items a in
      let m = length_map (behind {E = E} (waiting b)) (items a) in
      get_left (map (behind (waiting b)) (items a)) (items b) (number_at a p) (omega (arith, l, n, m)) ∙ get_map (behind (waiting b)) (items a) (number_at a p) _ (place_item a h.0 p e i)
  place_item (Par a b) h (true ∷ p) e i =
      let xs = map (behind (waiting b)) (items a) in
      ap (λ z. slice_get (xs ++ items b) (z + number_at b p)) (sym (length_map (behind (waiting b)) (items a) ∙ length_items a)) ∙ get_right xs (items b) (number_at b p) ∙ place_item b h.1 p e i
  place_item (Within s a) h p e i = place_item a h p e i

  -- where an item stands
  pub record Stands (t : Tree E S) (n : ℕ) (x : Item E) : Type 0 where
    pub place : List Bool
    pub event : event_in t place ≡ Some x.event
    pub number : number_at t place ≡ n
    pub second : second_at t place ≡ x.second

  item_place : (t : Tree E S) (n : ℕ) (x : Item E) → slice_get (items t) n ≡ Some x → Stands t n x
  item_place Skip n x h = cc
  item_place (Act e) zero x h = let r : record { event = e; second = 0 } ≡ x = cc in record { place = []; event = ap (λ (z : Item E). Some z.event) r; number = refl; second = ap (λ (z : Item E). z.second) r }
  item_place (Act e) (suc n) x h = cc
  item_place (Stuck e) n x h = cc
  item_place (Seq a b) n x h = by (append_get (items a) (map (behind (waiting a)) (items b)) n x h) (item_place a n x) (item_place b)
    where
      by : (slice_get (items a) n ≡ Some x) ⊎ ((k : ℕ) × (n ≡ length (items a) + k) × (slice_get (map (behind (waiting a)) (items b)) k ≡ Some x)) → (slice_get (items a) n ≡ Some x → Stands a n x) → ((k : ℕ) (y : Item E) → slice_get (items b) k ≡ Some y → Stands b k y) → Stands (Seq a b) n x
      by (inl e) f g = let s = f e in record { place = false ∷ s.place; event = s.event; number = s.number; second = s.second }
      by (inr r) f g =
          let m = map_get (behind (waiting a)) (items b) r.0 x r.2 in
          let s = g r.0 m.0 m.1 in
          record {
            place = true ∷ s.place;
            event = s.event ∙ ap (λ (z : Item E). Some z.event) (sym m.2);
            number = ap (λ z. waiting a + z) s.number ∙ ap (λ z. z + r.0) (sym (length_items a)) ∙ sym r.1;
            second = ap (λ z. waiting a + z) s.second ∙ ap (λ (z : Item E). z.second) (sym m.2);
          }
  item_place (Par a b) n x h = by (append_get (map (behind (waiting b)) (items a)) (items b) n x h) (item_place a n) (item_place b)
    where
      by : (slice_get (map (behind (waiting b)) (items a)) n ≡ Some x) ⊎ ((k : ℕ) × (n ≡ length (map (behind (waiting b)) (items a)) + k) × (slice_get (items b) k ≡ Some x)) → ((y : Item E) → slice_get (items a) n ≡ Some y → Stands a n y) → ((k : ℕ) (y : Item E) → slice_get (items b) k ≡ Some y → Stands b k y) → Stands (Par a b) n x
      by (inl e) f g =
          let m = map_get (behind (waiting b)) (items a) n x e in
          let s = f m.0 m.1 in
          record {
            place = false ∷ s.place;
            event = s.event ∙ ap (λ (z : Item E). Some z.event) (sym m.2);
            number = s.number;
            second = ap (λ z. waiting b + z) s.second ∙ ap (λ (z : Item E). z.second) (sym m.2);
          }
      by (inr r) f g =
          let s = g r.0 x r.2 in
          record {
            place = true ∷ s.place;
            event = s.event;
            number = ap (λ z. waiting a + z) s.number ∙ ap (λ z. z + r.0) (sym (length_map (behind (waiting b)) (items a) ∙ length_items a)) ∙ sym r.1;
            second = s.second;
          }
  item_place (Within s a) n x h = let k = item_place a n x h in record { place = k.place; event = k.event; number = k.number; second = k.second }

pub unordered_are_inverted : (E S : Type 0) → UnorderedAreInverted E S
unordered_are_inverted E S t h p q e f i j l = inverted t h p q e f i j l

pub clashes_are_listed : (C : Type 0) → ClashesAreListed C
clashes_are_listed C leaves t fresh i j = (there, back)
  where
    there : Clashes leaves t i j → ClashIn leaves (items t) i j
    there c =
        let lt : number_at t c.first < number_at t c.second = omega (arith, c.before, c.earlier_is, c.later_is) in
        record {
          x = record { event = c.e; second = second_at t c.first };
          y = record { event = c.f; second = second_at t c.second };
          x_is = ap (slice_get (items t)) (sym c.earlier_is) ∙ place_item t fresh c.first c.e c.first_is;
          y_is = ap (slice_get (items t)) (sym c.later_is) ∙ place_item t fresh c.second c.f c.second_is;
          before = c.before;
          inverted = (inverted t fresh c.first c.second c.e c.f c.first_is c.second_is lt).0 c.unordered;
          dependent = c.dependent;
        }

    back : ClashIn leaves (items t) i j → Clashes leaves t i j
    back c =
        let a = item_place t i c.x c.x_is in
        let b = item_place t j c.y c.y_is in
        let lt : number_at t a.place < number_at t b.place = omega (arith, c.before, a.number, b.number) in
        let inv : second_at t b.place < second_at t a.place = omega (arith, c.inverted, a.second, b.second) in
        record {
          first = a.place;
          second = b.place;
          e = c.x.event;
          f = c.y.event;
          first_is = a.event;
          second_is = b.event;
          earlier_is = a.number;
          later_is = b.number;
          before = c.before;
          unordered = (inverted t fresh a.place b.place c.x.event c.y.event a.event b.event lt).1 inv;
          dependent = c.dependent;
        }
