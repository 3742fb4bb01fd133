-- A leaf event does what the event of its code over cells does.
use Rattle.std.proofs.Common.{◌≡◌, ℕ, zero, suc, ◌-◌, ◌<◌, Bool, true, false, ◌&&◌, ◌||◌, nat_eq, List, [], ◌∷◌, length}
use Rattle.std.proofs.Common.{map, get_or, slice_get, Some, refl, sym, ap, ap₂, ◌∙◌, subst, arith, ◌⊎◌, inl, inr}
use Rattle.std.specs.Prelude.{if◌then◌else◌, reverse}
use Rattle.std.proofs.lemmas.Bool.Decides.{nat_tests}
use Rattle.std.proofs.lemmas.List.{ext_get_or, length-reverse, get_or-reverse}
use Rattle.sq_ir.specs.Rect.declared.view.View.{View}
use Rattle.sq_ir.specs.Events as events
use Rattle.sq_ir.specs.Events.{Leaf, Leaves, Bytes, Shape, shape_of, places, is_among, in_view, in_views, seen, chosen}
use Rattle.sq_ir.specs.Events.{written_views, stored, put, put_end, trap_end, after_event, trap_event, meaning}
use Rattle.sq_ir.specs.Events.{Finishes, Traps}
use Rattle.sq_ir.proofs.Together.{not_true}
use Rattle.sq_cells.specs.Cells.{Spot, spot, State, put_if, table}
use Rattle.sq_cells.specs.Tree.{value_in, store}
use Rattle.sq_cells.proofs.Cells.{put_in}
use Rattle.sq_cells.proofs.Trees.{put_if_out}
use Rattle.sq_cells.proofs.Access.{end_or_below}
use Rattle.sq_cells.specs.Alike.{state_of}
use Rattle.sq_cells.specs.LeafCode.{arrays, over, spread}

-- ---- lists

-- the first n values of f, the first one first
abbrev pub listed : {A : Type 0} → ℕ → (ℕ → A) → List A
listed zero f = []
listed (suc n) f = f 0 ∷ listed n (λ k. f (suc k))

length-listed : {A : Type 0} (n : ℕ) (f : ℕ → A) → length (listed n f) ≡ n
length-listed zero f = refl
length-listed (suc n) f = ap suc (length-listed n (λ k. f (suc k)))

get-listed : {A : Type 0} (n : ℕ) (f : ℕ → A) (d : A) (i : ℕ) → i < n → get_or (listed n f) i d ≡ f i
get-listed zero f d i lt = absurd (omega arith)
get-listed (suc n) f d zero lt = refl
get-listed (suc n) f d (suc i) lt = get-listed n (λ k. f (suc k)) d i (omega arith)

length-any : {A : Type 0} (n : ℕ) (f : ℕ → A) → length (table n f) ≡ n
length-any zero f = refl
length-any (suc n) f = ap suc (length-any n f)

get-any : {A : Type 0} (n : ℕ) (f : ℕ → A) (d : A) (i : ℕ) → i < n → get_or (table n f) i d ≡ f (n - suc i)
get-any zero f d i h = absurd (omega arith)
get-any (suc n) f d zero h = let e : n ≡ suc n - 1 = omega arith in ap f e
get-any (suc n) f d (suc i) h = let e : n - suc i ≡ suc n - suc (suc i) = omega arith in get-any n f d i (omega arith)
    ∙ ap f e

pub reverse-table : {A : Type 0} (d : A) (n : ℕ) (f : ℕ → A) → reverse (table n f) ≡ listed n f
reverse-table d n f =
    let l = table n f in
    let len : length l ≡ n = length-any n f in
    ext_get_or d (reverse l) (listed n f) (length-reverse l ∙ len ∙ sym (length-listed n f)) (λ i lt.
    let below : i < length l = subst (λ k. i < k) (length-reverse l) lt in
    let e : n - suc (length l - 1 - i) ≡ i = omega (arith, len, below) in
    get_or-reverse l i d below ∙ get-any n f d (length l - 1 - i) (omega (arith, len, below)) ∙ ap f e
    ∙ sym (get-listed n f d i (omega (arith, len, below))))

listed-map : (ps : List ℕ) (h : ℕ → ℕ) (g : ℕ → ℕ) → ((k : ℕ) → k < length ps → g k ≡ h (get_or ps k 0))
    → listed (length ps) g ≡ map h ps
listed-map [] h g e = refl
listed-map (p ∷ ps) h g e = ap₂ (λ x xs. x ∷ xs) (e 0 (omega arith))
    (listed-map ps h (λ k. g (suc k)) (λ k lt. e (suc k) (omega (arith, lt))))

-- ---- what the leaf is handed

module _ (node : ℕ) (m : Bytes) where
  pub seen_arrays : (vs : List View) (size : ℕ → ℕ) (cell : ℕ → ℕ → Spot)
      → ((i : ℕ) (v : View) → slice_get vs i ≡ Some v → size i ≡ length (places v))
      → ((i k : ℕ) (v : View) → slice_get vs i ≡ Some v → k < length (places v) → cell i k
      ≡ spot node (get_or (places v) k 0))
      → arrays (map shape_of vs) (listed (length vs) (λ i. table (size i) (λ k. state_of m (cell i k))))
      ≡ map (seen node m) vs
  seen_arrays [] size cell s c = refl
  seen_arrays (v ∷ vs) size cell s c =
      ap₂ (λ b rest. record { shape = shape_of v; bytes = b } ∷ rest) bytes
      (seen_arrays vs (λ i. size (suc i)) (λ i. cell (suc i)) (λ i u e. s (suc i) u e)
      (λ i k u e lt. c (suc i) k u e lt))
    where
      bytes : reverse (table (size 0) (λ k. state_of m (cell 0 k)))
          ≡ map (λ k. m (record { node = node; at = k })) (places v)
      bytes =
          reverse-table 0 (size 0) (λ k. state_of m (cell 0 k))
          ∙ ap (λ n. listed n (λ k. state_of m (cell 0 k))) (s 0 v refl)
          ∙ listed-map (places v) (λ k. m (record { node = node; at = k })) (λ k. state_of m (cell 0 k))
          (λ k lt. ap (state_of m) (c 0 k v refl lt))

-- ---- what it leaves

and_both : (a b : Bool) → (a && b) ≡ true → (a ≡ true) × (b ≡ true)
and_both true b e = (refl, e)
and_both false b e = cc

-- a place of a list
among : (ps : List ℕ) (p : ℕ) → is_among ps p ≡ true → (k : ℕ) × (k < length ps) × (get_or ps k 0 ≡ p)
among [] p e = cc
among (q ∷ ps) p e = by (nat_eq p q) refl (λ f. among ps p f) e
  where
    by : (b : Bool) → nat_eq p q ≡ b → (is_among ps p ≡ true → (k : ℕ) × (k < length ps) × (get_or ps k 0 ≡ p))
        → (b || is_among ps p) ≡ true → (k : ℕ) × (k < length (q ∷ ps)) × (get_or (q ∷ ps) k 0 ≡ p)
    by true f rec g = (0, omega arith, grind (arith, nat_tests))
    by false f rec g = let r = rec g in (suc r.0, omega (arith, r.1), r.2)

among_from : (ps : List ℕ) (k p : ℕ) → k < length ps → get_or ps k 0 ≡ p → is_among ps p ≡ true
among_from [] k p lt e = absurd (omega arith)
among_from (q ∷ ps) zero p lt e = let f : nat_eq p q ≡ true = grind (arith, nat_tests) in ap (λ b. b || is_among ps p) f
among_from (q ∷ ps) (suc k) p lt e = or_true (nat_eq p q) (is_among ps p) (among_from ps k p (omega arith) e)
  where
    or_true : (a b : Bool) → b ≡ true → (a || b) ≡ true
    or_true true b h = refl
    or_true false b h = h

-- a byte of one of the views
pub record Viewed (node : ℕ) (vs : List View) (a : events.Spot) : Type 0 where
  pub number : ℕ
  pub view : View
  pub there : slice_get vs number ≡ Some view
  pub place : ℕ
  pub below : place < length (places view)
  pub at : get_or (places view) place 0 ≡ a.at
  pub same : a.node ≡ node

pub viewed : (node : ℕ) (vs : List View) (a : events.Spot) → in_views node vs a ≡ true → Viewed node vs a
viewed node [] a h = cc
viewed node (v ∷ vs) a h = by (in_view node v a) refl (viewed node vs a) h
  where
    by : (b : Bool) → in_view node v a ≡ b → (in_views node vs a ≡ true → Viewed node vs a) → (b || in_views node vs a)
        ≡ true → Viewed node (v ∷ vs) a
    by true e rec g =
        let p = and_both (nat_eq a.node node) (is_among (places v) a.at) e in
        let q = among (places v) a.at p.1 in
        let n = p.0 in
        record {
          number = 0;
          view = v;
          there = refl;
          place = q.0;
          below = q.1;
          at = q.2;
          same
              = grind (arith, nat_tests);
        }
    by false e rec g = let r = rec g in record {
      number = suc r.number;
      view = r.view;
      there = r.there;
      place = r.place;
      below = r.below;
      at = r.at;
      same
          = r.same;
    }

pub view_has : (node : ℕ) (v : View) (k : ℕ) (a : events.Spot) → k < length (places v) → get_or (places v) k 0 ≡ a.at
    → a.node ≡ node → in_view node v a ≡ true
view_has node v k a lt e n = let f : nat_eq a.node node ≡ true
    = grind (arith, nat_tests) in ap (λ b. b && is_among (places v) a.at) f ∙ among_from (places v) k a.at lt e

-- a written view stands among all of them
pub record Written (node : ℕ) (ws : List Bool) (vs : List View) (a : events.Spot) : Type 0 where
  pub number : ℕ
  pub view : View
  pub writes : slice_get ws number ≡ Some true
  pub there : slice_get vs number ≡ Some view
  pub place : ℕ
  pub below : place < length (places view)
  pub at : get_or (places view) place 0 ≡ a.at
  pub same : a.node ≡ node

pub written : (node : ℕ) (ws : List Bool) (vs : List View) (a : events.Spot) → in_views node (chosen ws vs) a ≡ true
    → Written node ws vs a
written node [] vs a h = none vs h
  where
    none : (vs : List View) → in_views node (chosen [] vs) a ≡ true → Written node [] vs a
    none vs h = cc
written node (w ∷ ws) [] a h = cc
written node (true ∷ ws) (v ∷ vs) a h = by (in_view node v a) refl (written node ws vs a) h
  where
    by : (b : Bool) → in_view node v a ≡ b → (in_views node (chosen ws vs) a ≡ true → Written node ws vs a)
        → (b || in_views node (chosen ws vs) a) ≡ true → Written node (true ∷ ws) (v ∷ vs) a
    by true e rec g =
        let p = and_both (nat_eq a.node node) (is_among (places v) a.at) e in
        let q = among (places v) a.at p.1 in
        let n = p.0 in
        record {
          number = 0;
          view = v;
          writes = refl;
          there = refl;
          place = q.0;
          below = q.1;
          at = q.2;
          same
              = grind (arith, nat_tests);
        }
    by false e rec g = let r = rec g in record {
      number = suc r.number;
      view = r.view;
      writes = r.writes;
      there = r.there;
      place = r.place;
      below = r.below;
      at
          = r.at;
      same = r.same;
    }
written node (false ∷ ws) (v ∷ vs) a h = let r
    = written node ws vs a h in record {
      number = suc r.number;
      view = r.view;
      writes = r.writes;
      there = r.there;
      place = r.place;
      below = r.below;
      at
          = r.at;
      same = r.same;
    }

mapped : (h : ℕ → ℕ) (ps : List ℕ) (k : ℕ) → k < length ps → get_or (map h ps) k 0 ≡ h (get_or ps k 0)
mapped h [] k lt = absurd (omega arith)
mapped h (q ∷ ps) zero lt = refl
mapped h (q ∷ ps) (suc k) lt = mapped h ps k (omega arith)

-- what stands at a place that got its byte
stored_is : (ps o : List ℕ) (h : ℕ → ℕ) (k p : ℕ) → k < length ps → get_or ps k 0 ≡ p
    → ((i : ℕ) → i < length ps → get_or ps i 0 ≡ p → i ≡ k) → stored ps o p (h p) ≡ get_or (over o (map h ps)) k 0
stored_is [] o h k p lt e one = absurd (omega arith)
stored_is (q ∷ ps) [] h k p lt e one = sym (mapped h (q ∷ ps) k lt ∙ ap h e)
stored_is (q ∷ ps) (b ∷ bs) h zero p lt e one = let f : nat_eq p q ≡ true
    = grind (arith, nat_tests) in ap (λ x. if x then b else stored ps bs p (h p)) f
stored_is (q ∷ ps) (b ∷ bs) h (suc k) p lt e one =
    let ne : p ≡ q → ⊥ = λ z. let y = one 0 (omega arith) (sym z) in omega (arith, y) in
    let f : nat_eq p q ≡ false = not_true (nat_eq p q) (λ z. ne (grind (arith, nat_tests))) in
    ap (λ x. if x then b else stored ps bs p (h p)) f
    ∙ stored_is ps bs h k p (omega arith) e
    (λ i li y. let z = one (suc i) (omega (arith, li)) y in omega (arith, z))

module _ (node : ℕ) (m : Bytes) (a : events.Spot) where
  abbrev Alone : List Bool → List View → ℕ → ℕ → Type 0
  Alone ws vs i k = (j h : ℕ) (u : View) → slice_get ws j ≡ Some true → slice_get vs j ≡ Some u → h < length (places u)
      → get_or (places u) h 0 ≡ a.at → (j ≡ i) × (h ≡ k)

  put_none : (vs : List View) → put node vs [] a (m a) ≡ m a
  put_none [] = refl
  put_none (v ∷ vs) = refl

  pub put_hit : (ws : List Bool) (vs : List View) (outs : List (List ℕ)) (i k : ℕ) (v : View) → slice_get ws i
      ≡ Some true → slice_get vs i ≡ Some v → k < length (places v) → get_or (places v) k 0 ≡ a.at → a.node ≡ node
      → Alone ws vs i k
      → put node (chosen ws vs) outs a (m a) ≡ value_in (spread ws outs (map (seen node m) vs)) i k
  put_hit [] vs outs i k v w t lt e n one = cc
  put_hit (x ∷ ws) [] outs i k v w t lt e n one = cc
  put_hit (false ∷ ws) (u ∷ vs) outs zero k v w t lt e n one = cc
  put_hit (false ∷ ws) (u ∷ vs) outs (suc i) k v w t lt e n one =
      put_hit ws vs outs i k v w t lt e n
      (λ j h y f g l z. let r = one (suc j) h y f g l z in let s = r.0 in (omega (arith, s), r.1))
  put_hit (true ∷ ws) (u ∷ vs) [] zero k v w t lt e n one =
      let f : u ≡ v = cc in
      ap (λ x. m (record { node = x; at = a.at })) n
      ∙ sym (mapped (λ p. m (record { node = node; at = p })) (places u) k
      (subst (λ y. k < length (places y)) (sym f) lt)
      ∙ ap (λ p. m (record { node = node; at = p })) (subst (λ y. get_or (places y) k 0 ≡ a.at) (sym f) e))
  put_hit (true ∷ ws) (u ∷ vs) [] (suc i) k v w t lt e n one =
      sym (put_none (chosen ws vs)) ∙ put_hit ws vs [] i k v w t lt e n
      (λ j h y f g l z. let r = one (suc j) h y f g l z in let s = r.0 in (omega (arith, s), r.1))
  put_hit (true ∷ ws) (u ∷ vs) (o ∷ outs) zero k v w t lt e n one =
      let f : u ≡ v = cc in
      let lt' : k < length (places u) = subst (λ y. k < length (places y)) (sym f) lt in
      let e' : get_or (places u) k 0 ≡ a.at = subst (λ y. get_or (places y) k 0 ≡ a.at) (sym f) e in
      ap (λ b. if b then stored (places u) o a.at (m a) else put node (chosen ws vs) outs a (m a))
      (view_has node u k a lt' e' n)
      ∙ ap (λ x. stored (places u) o a.at (m (record { node = x; at = a.at }))) n
      ∙ stored_is (places u) o (λ p. m (record { node = node; at = p })) k a.at lt' e'
      (λ i li z. (one 0 i u refl refl li z).1)
  put_hit (true ∷ ws) (u ∷ vs) (o ∷ outs) (suc i) k v w t lt e n one =
      ap (λ b. if b then stored (places u) o a.at (m a) else put node (chosen ws vs) outs a (m a))
      (not_true (in_view node u a) no)
      ∙ put_hit ws vs outs i k v w t lt e n
      (λ j h y f g l z. let r = one (suc j) h y f g l z in let s = r.0 in (omega (arith, s), r.1))
    where
      no : in_view node u a ≡ true → ⊥
      no z =
          let p = and_both (nat_eq a.node node) (is_among (places u) a.at) z in
          let q = among (places u) a.at p.1 in
          let r = one 0 q.0 u refl refl q.1 q.2 in
          let s = r.0 in omega (arith, s)

-- a cell of a written array gets its value
pub store_hit : (count : ℕ) (size : ℕ → ℕ) (writes : ℕ → Bool) (cell : ℕ → ℕ → Spot) (val : ℕ → ℕ → ℕ) (m : State)
    (i k : ℕ) → i < count → k < size i → writes i ≡ true
    → ((j h : ℕ) → j < count → h < size j → writes j ≡ true → cell j h ≡ cell i k → (j ≡ i) × (h ≡ k))
    → store count size writes cell val m (cell i k) ≡ val i k
store_hit zero size writes cell val m i k li lk w one = absurd (omega arith)
store_hit (suc n) size writes cell val m i k li lk w one =
    by (λ l. store_hit n size writes cell val m i k l lk w (λ j h lj lh y e. one j h (omega arith) lh y e))
    (end_or_below i n li)
  where
    here : put_if (writes i) (size i) (cell i) (val i) (store n size writes cell val m) (cell i k) ≡ val i k
    here = rw w (put_in (size i) (cell i) (val i) (store n size writes cell val m) k lk
        (λ h lh e. (one i h li lh w e).1))

    by : (i < n → store n size writes cell val m (cell i k) ≡ val i k) → (i ≡ n) ⊎ (i < n)
        → store (suc n) size writes cell val m (cell i k) ≡ val i k
    by rec (inl e) = subst (λ j. put_if (writes j) (size j) (cell j) (val j) (store n size writes cell val m) (cell i k)
        ≡ val i k) e here
    by rec (inr l) = put_if_out (writes n) (size n) (cell n) (val n) (store n size writes cell val m) (cell i k)
        (λ y h lh e. let r = one n h (omega arith) lh y e in let s = r.0 in omega (arith, s, l)) ∙ rec l
