-- Views of a call that clash.
use Rattle.std.proofs.Common.{◌≡◌, ℕ, zero, suc, ◌<◌, Bool, true, false, Some, List, [], ◌∷◌, ◌++◌, map, length, refl, sym, ap, subst, ◌∙◌, ◌⊎◌, inl, inr, arith, append_assoc, append-nil}
use Rattle.std.specs.Prelude.{not, nat_eq, ◌||◌}
use Rattle.std.specs.List.{Contains, slice_get}
use Rattle.std.proofs.lemmas.Bool.Decides.{nat_tests}
use Rattle.sq_ir.specs.Events.{places, is_among}
use Rattle.sq_areas.specs.Areas.{HasByte, Share}
use Rattle.sq_plantext.specs.declared.text.ViewText.{ViewText}
use Rattle.sq_plantext.specs.declared.text.PlanText.{PlanText}
use Rattle.sq_planevents.specs.First.{Decides}
use Rattle.sq_planevents.specs.Views.{seen, IsShown}
use Rattle.sq_planevents.specs.Calls.{LieApart, IsReached, AreReached, Clash, ClashAny, TwoClash, AreShown, ArePut}
use Rattle.sq_planevents.specs.declared.call.Touched.{Touched}
use Rattle.sq_planevents.proofs.Members.{In, there, back}

pub none : (P : Type 0) → (P → ⊥) → Decides false P
none P n = record { yes = λ e. cc; none = λ e. n }

pub some : (P : Type 0) → P → Decides true P
some P p = record { yes = λ e. p; none = λ e. cc }

pub others : (P Q : Type 0) (told : Bool) → (P → Q) → (Q → P) → Decides told P → Decides told Q
others P Q told f g d = record { yes = λ e. f (d.yes e); none = λ e q. d.none e (g q) }

pub against : (P : Type 0) (told : Bool) → Decides told P → Decides (not told) (P → ⊥)
against P true d = none (P → ⊥) (λ n. n (d.yes refl))
against P false d = some (P → ⊥) (d.none refl)

-- ---- two views

pub both_read : (t u : Touched) → t.is_written ≡ false → u.is_written ≡ false → Decides false (Clash t u)
both_read t u e f = none (Clash t u) (λ c. by c.written)
  where
    by : (t.is_written ≡ true) ⊎ (u.is_written ≡ true) → ⊥
    by (inl g) = let h : true ≡ false = sym g ∙ e in cc
    by (inr g) = let h : true ≡ false = sym g ∙ f in cc

pub clash_by : (t u : Touched) (told : Bool) → ((t.is_written ≡ true) ⊎ (u.is_written ≡ true)) → (told ≡ true → Share t.area.at t.area.run t.area.steps u.area) → (told ≡ false → ¬ Share t.area.at t.area.run t.area.steps u.area)
    → Decides told (Clash t u)
clash_by t u told w forth back = record { yes = λ e. record { written = w; share = forth e }; none = λ e c. back e c.share }

-- ---- a view and those behind it

pub any_none : (t : Touched) (us : List Touched) → us ≡ [] → Decides false (ClashAny t us)
any_none t us e = none (ClashAny t us) (λ c. subst (ClashAny t) e c)

pub any_first : (t u : Touched) (us vs : List Touched) (told : Bool) → us ≡ u ∷ vs → told ≡ true → Decides told (Clash t u) → Decides true (ClashAny t us)
any_first t u us vs told e h d = some (ClashAny t us) (subst (ClashAny t) (sym e) (inl (d.yes h)))

pub any_rest : (t u : Touched) (us vs : List Touched) (told first : Bool) → us ≡ u ∷ vs → first ≡ false → Decides first (Clash t u) → Decides told (ClashAny t vs) → Decides told (ClashAny t us)
any_rest t u us vs told first e h d r = record { yes = λ f. subst (ClashAny t) (sym e) (inr (r.yes f)); none = λ f c. by f (subst (ClashAny t) e c) }
  where
    by : told ≡ false → Clash t u ⊎ ClashAny t vs → ⊥
    by f (inl c) = d.none h c
    by f (inr c) = r.none f c

pub all_none : (ts : List Touched) → ts ≡ [] → Decides false (TwoClash ts)
all_none ts e = none (TwoClash ts) (λ c. subst TwoClash e c)

pub all_first : (t : Touched) (ts us : List Touched) (told : Bool) → ts ≡ t ∷ us → told ≡ true → Decides told (ClashAny t us) → Decides true (TwoClash ts)
all_first t ts us told e h d = some (TwoClash ts) (subst TwoClash (sym e) (inl (d.yes h)))

pub all_rest : (t : Touched) (ts us : List Touched) (told first : Bool) → ts ≡ t ∷ us → first ≡ false → Decides first (ClashAny t us) → Decides told (TwoClash us) → Decides told (TwoClash ts)
all_rest t ts us told first e h d r = record { yes = λ f. subst TwoClash (sym e) (inr (r.yes f)); none = λ f c. by f (subst TwoClash e c) }
  where
    by : told ≡ false → ClashAny t us ⊎ TwoClash us → ⊥
    by f (inl c) = d.none h c
    by f (inr c) = r.none f c

pub reached_first : (t : Touched) (ts us : List Touched) → ts ≡ t ∷ us → AreReached ts → IsReached t
reached_first t ts us e h = (subst AreReached e h).0

pub reached_rest : (t : Touched) (ts us : List Touched) → ts ≡ t ∷ us → AreReached ts → AreReached us
reached_rest t ts us e h = (subst AreReached e h).1

-- ---- by their numbers

module _ {A : Type 0} where
  pub map_at : {B : Type 0} (f : A → B) (xs : List A) (i : ℕ) (y : B) → slice_get (map f xs) i ≡ Some y → (x : A) × (slice_get xs i ≡ Some x) × (y ≡ f x)
  map_at f [] i y e = cc
  map_at f (x ∷ xs) zero y e = let g : f x ≡ y = cc in (x, refl, sym g)
  map_at f (x ∷ xs) (suc i) y e = map_at f xs i y e

  pub at_map : {B : Type 0} (f : A → B) (xs : List A) (i : ℕ) (x : A) → slice_get xs i ≡ Some x → slice_get (map f xs) i ≡ Some (f x)
  at_map f [] i x e = cc
  at_map f (y ∷ xs) zero x e = let g : y ≡ x = cc in ap (λ z. Some (f z)) g
  at_map f (y ∷ xs) (suc i) x e = at_map f xs i x e

  pub same_long : {B : Type 0} (xs : List A) (ys : List B) (i : ℕ) (y : B) → length xs ≡ length ys → slice_get ys i ≡ Some y → (x : A) × (slice_get xs i ≡ Some x)
  same_long [] [] i y e h = cc
  same_long [] (z ∷ ys) i y e h = absurd (omega (arith, e))
  same_long (x ∷ xs) [] i y e h = cc
  same_long (x ∷ xs) (z ∷ ys) zero y e h = (x, refl)
  same_long (x ∷ xs) (z ∷ ys) (suc i) y e h = same_long xs ys i y (omega (arith, e)) h

-- two that clash, the first before the second
record Pair (ts : List Touched) : Type 0 where
  i : ℕ
  j : ℕ
  t : Touched
  u : Touched
  less : i < j
  of_t : slice_get ts i ≡ Some t
  of_u : slice_get ts j ≡ Some u
  clash : Clash t u

any_at : (t : Touched) (us : List Touched) → ClashAny t us → (j : ℕ) × (u : Touched) × (slice_get us j ≡ Some u) × Clash t u
any_at t [] c = absurd c
any_at t (u ∷ us) (inl c) = (0, u, refl, c)
any_at t (u ∷ us) (inr c) = let r = any_at t us c in (suc r.0, r.1, r.2, r.3)

pair_of : (ts : List Touched) → TwoClash ts → Pair ts
pair_of [] c = absurd c
pair_of (t ∷ ts) (inl c) = let r = any_at t ts c in record { i = 0; j = suc r.0; t = t; u = r.1; less = omega arith; of_t = refl; of_u = r.2; clash = r.3 }
pair_of (t ∷ ts) (inr c) = let r = pair_of ts c in let l = r.less in record { i = suc r.i; j = suc r.j; t = r.t; u = r.u; less = omega (arith, l); of_t = r.of_t; of_u = r.of_u; clash = r.clash }

at_any : (t : Touched) (us : List Touched) (j : ℕ) (u : Touched) → slice_get us j ≡ Some u → Clash t u → ClashAny t us
at_any t [] j u e c = cc
at_any t (v ∷ us) zero u e c = let g : u ≡ v = cc in inl (subst (Clash t) g c)
at_any t (v ∷ us) (suc j) u e c = inr (at_any t us j u e c)

two_at : (ts : List Touched) (i j : ℕ) (t u : Touched) → i < j → slice_get ts i ≡ Some t → slice_get ts j ≡ Some u → Clash t u → TwoClash ts
two_at [] i j t u l e f c = cc
two_at (v ∷ ts) i zero t u l e f c = absurd (omega (arith, l))
two_at (v ∷ ts) zero (suc j) t u l e f c = let g : t ≡ v = cc in inl (at_any v ts j u f (subst (λ z. Clash z u) g c))
two_at (v ∷ ts) (suc i) (suc j) t u l e f c = inr (two_at ts i j t u (omega (arith, l)) e f c)

pub in_among : (ps : List ℕ) (k : ℕ) → In ps k → is_among ps k ≡ true
in_among [] k h = absurd h
in_among (p ∷ ps) k h = by (nat_eq k p) refl h (in_among ps k)
  where
    by : (b : Bool) → nat_eq k p ≡ b → (k ≡ p) ⊎ In ps k → (In ps k → is_among ps k ≡ true) → (b || is_among ps k) ≡ true
    by true e h f = refl
    by false e (inl s) f = let t : nat_eq k p ≡ true = grind (arith, nat_tests, s) in let g : true ≡ false = sym t ∙ e in cc
    by false e (inr i) f = f i

pub among_in : (ps : List ℕ) (k : ℕ) → is_among ps k ≡ true → In ps k
among_in [] k h = cc
among_in (p ∷ ps) k h = by (nat_eq k p) refl h (among_in ps k)
  where
    by : (b : Bool) → nat_eq k p ≡ b → (b || is_among ps k) ≡ true → (is_among ps k ≡ true → In ps k) → (k ≡ p) ⊎ In ps k
    by true e h f = inl (grind (arith, nat_tests, e))
    by false e h f = inr (f h)

module _ (x : PlanText) where
  record Of (ws : List Bool) (vs : List ViewText) (i : ℕ) (t : Touched) : Type 0 where
    view : ViewText
    flag : slice_get ws i ≡ Some t.is_written
    of_view : slice_get vs i ≡ Some view
    shown : IsShown x view t.area

  shown_at : (ws : List Bool) (vs : List ViewText) (ts : List Touched) (i : ℕ) (t : Touched) → AreShown x ws vs ts → slice_get ts i ≡ Some t → Of ws vs i t
  shown_at [] vs ts i t h e = let g = sym (ap (λ l. slice_get l i) h) ∙ e in cc
  shown_at (w ∷ ws) [] ts i t h e = let g = sym (ap (λ l. slice_get l i) h) ∙ e in cc
  shown_at (w ∷ ws) (v ∷ vs) [] i t h e = absurd h
  shown_at (w ∷ ws) (v ∷ vs) (u ∷ ts) zero t h e =
      let g : u ≡ t = cc in
      record { view = v; flag = ap Some (sym h.0.0 ∙ ap (λ (z : Touched). z.is_written) g); of_view = refl; shown = subst (λ (z : Touched). IsShown x v z.area) g h.0.1 }
  shown_at (w ∷ ws) (v ∷ vs) (u ∷ ts) (suc i) t h e = let r = shown_at ws vs ts i t h.1 e in record { view = r.view; flag = r.flag; of_view = r.of_view; shown = r.shown }

  at_shown : (ws : List Bool) (vs : List ViewText) (ts : List Touched) (i : ℕ) (w : Bool) (v : ViewText) → AreShown x ws vs ts → slice_get ws i ≡ Some w → slice_get vs i ≡ Some v
      → (t : Touched) × (slice_get ts i ≡ Some t) × (t.is_written ≡ w) × IsShown x v t.area
  at_shown [] vs ts i w v h e f = cc
  at_shown (a ∷ ws) [] ts i w v h e f = cc
  at_shown (a ∷ ws) (b ∷ vs) [] i w v h e f = absurd h
  at_shown (a ∷ ws) (b ∷ vs) (t ∷ ts) zero w v h e f =
      let g : a ≡ w = cc in
      let k : b ≡ v = cc in
      (t, refl, h.0.0 ∙ g, subst (λ z. IsShown x z t.area) k h.0.1)
  at_shown (a ∷ ws) (b ∷ vs) (t ∷ ts) (suc i) w v h e f = at_shown ws vs ts i w v h.1 e f

  module _ (ws : List Bool) (vs : List ViewText) (ts : List Touched) (shown : AreShown x ws vs ts) where
    has_byte : (v : ViewText) (t : Touched) (k : ℕ) → IsShown x v t.area → Contains (places (seen x v)) k → HasByte t.area.steps t.area.at t.area.run k
    has_byte v t k s c = s.area.there k (in_among (places (seen x v)) k (there (places (seen x v)) k c))

    byte_has : (v : ViewText) (t : Touched) (k : ℕ) → IsShown x v t.area → HasByte t.area.steps t.area.at t.area.run k → Contains (places (seen x v)) k
    byte_has v t k s c = back (places (seen x v)) k (among_in (places (seen x v)) k (s.area.back k c))

    pub clash_apart : LieApart ws (map (seen x) vs) → TwoClash ts → ⊥
    clash_apart apart c = by p.clash.written
      where
        p : Pair ts
        p = pair_of ts c

        one : Of ws vs p.i p.t
        one = shown_at ws vs ts p.i p.t shown p.of_t

        other : Of ws vs p.j p.u
        other = shown_at ws vs ts p.j p.u shown p.of_u

        differ : (i j : ℕ) → i < j → i ≡ j → ⊥
        differ i j l e = absurd (omega (arith, l, e))

        by : (p.t.is_written ≡ true) ⊎ (p.u.is_written ≡ true) → ⊥
        by (inl e) =
            apart p.i p.j (seen x one.view) (seen x other.view) p.clash.share.0 (differ p.i p.j p.less) (one.flag ∙ ap Some e) (at_map (seen x) vs p.i one.view one.of_view) (at_map (seen x) vs p.j other.view other.of_view)
            (byte_has one.view p.t p.clash.share.0 one.shown p.clash.share.1) (byte_has other.view p.u p.clash.share.0 other.shown p.clash.share.2)
        by (inr e) =
            apart p.j p.i (seen x other.view) (seen x one.view) p.clash.share.0 (λ f. differ p.i p.j p.less (sym f)) (other.flag ∙ ap Some e) (at_map (seen x) vs p.j other.view other.of_view) (at_map (seen x) vs p.i one.view one.of_view)
            (byte_has other.view p.u p.clash.share.0 other.shown p.clash.share.2) (byte_has one.view p.t p.clash.share.0 one.shown p.clash.share.1)

    number_or : (i j : ℕ) → (i < j) ⊎ ((i ≡ j) ⊎ (j < i))
    number_or zero zero = inr (inl refl)
    number_or zero (suc j) = inl (omega arith)
    number_or (suc i) zero = inr (inr (omega arith))
    number_or (suc i) (suc j) = lift (number_or i j)
      where
        lift : (i < j) ⊎ ((i ≡ j) ⊎ (j < i)) → (suc i < suc j) ⊎ ((suc i ≡ suc j) ⊎ (suc j < suc i))
        lift (inl l) = inl (omega (arith, l))
        lift (inr (inl e)) = inr (inl (ap suc e))
        lift (inr (inr l)) = inr (inr (omega (arith, l)))

    pub apart_clash : length ws ≡ length vs → (TwoClash ts → ⊥) → LieApart ws (map (seen x) vs)
    apart_clash len n i j v u k d w e f c g = by (number_or i j)
      where
        a : (y : ViewText) × (slice_get vs i ≡ Some y) × (v ≡ seen x y)
        a = map_at (seen x) vs i v e

        b : (y : ViewText) × (slice_get vs j ≡ Some y) × (u ≡ seen x y)
        b = map_at (seen x) vs j u f

        q : (z : Bool) × (slice_get ws j ≡ Some z)
        q = same_long ws vs j b.0 len b.1

        one : (t : Touched) × (slice_get ts i ≡ Some t) × (t.is_written ≡ true) × IsShown x a.0 t.area
        one = at_shown ws vs ts i true a.0 shown w a.1

        other : (t : Touched) × (slice_get ts j ≡ Some t) × (t.is_written ≡ q.0) × IsShown x b.0 t.area
        other = at_shown ws vs ts j q.0 b.0 shown q.1 b.1

        first : HasByte one.0.area.steps one.0.area.at one.0.area.run k
        first = has_byte a.0 one.0 k one.3 (subst (λ z. Contains (places z) k) a.2 c)

        second : HasByte other.0.area.steps other.0.area.at other.0.area.run k
        second = has_byte b.0 other.0 k other.3 (subst (λ z. Contains (places z) k) b.2 g)

        by : (i < j) ⊎ ((i ≡ j) ⊎ (j < i)) → ⊥
        by (inl l) = n (two_at ts i j one.0 other.0 l one.1 other.1 (record { written = inl one.2; share = (k, first, second) }))
        by (inr (inl s)) = d s
        by (inr (inr l)) = n (two_at ts j i other.0 one.0 l other.1 one.1 (record { written = inr one.2; share = (k, second, first) }))

-- ---- put one behind another

pub put_none : (x : PlanText) (ws : List Bool) (vs : List ViewText) (old : List Touched) → ws ≡ [] → ArePut x ws vs old old
put_none x ws vs old e = record { more = []; behind = sym (append-nil old); shown = subst (λ l. AreShown x l vs []) (sym e) refl }

pub put_no_view : (x : PlanText) (w : Bool) (ws us : List Bool) (vs : List ViewText) (old : List Touched) → ws ≡ w ∷ us → vs ≡ [] → ArePut x ws vs old old
put_no_view x w ws us vs old e f = record { more = []; behind = sym (append-nil old); shown = subst (λ l. AreShown x l vs []) (sym e) (subst (λ l. AreShown x (w ∷ us) l []) (sym f) refl) }

pub put_more : (x : PlanText) (w : Bool) (ws us : List Bool) (v : ViewText) (vs qs : List ViewText) (t : Touched) (old mid new : List Touched) → ws ≡ w ∷ us → vs ≡ v ∷ qs → mid ≡ old ++ t ∷ []
    → t.is_written ≡ w → IsShown x v t.area → ArePut x us qs mid new → ArePut x ws vs old new
put_more x w ws us v vs qs t old mid new e f m g s p = record {
  more = t ∷ p.more;
  behind = p.behind ∙ (ap (λ l. l ++ p.more) m ∙ append_assoc old (t ∷ []) p.more);
  shown = subst (λ l. AreShown x l vs (t ∷ p.more)) (sym e) (subst (λ l. AreShown x (w ∷ us) l (t ∷ p.more)) (sym f) ((g, s), p.shown));
}

shown_reached : (x : PlanText) (ws : List Bool) (vs : List ViewText) (ts : List Touched) → AreShown x ws vs ts → AreReached ts
shown_reached x [] vs ts h = subst AreReached (sym h) tt
shown_reached x (w ∷ ws) [] ts h = subst AreReached (sym h) tt
shown_reached x (w ∷ ws) (v ∷ vs) [] h = absurd h
shown_reached x (w ∷ ws) (v ∷ vs) (t ∷ ts) h = (h.0.1.near, shown_reached x ws vs ts h.1)

pub put_reached : (x : PlanText) (ws : List Bool) (vs : List ViewText) (old new : List Touched) → old ≡ [] → ArePut x ws vs old new → AreReached new
put_reached x ws vs old new e p = subst AreReached (sym (p.behind ∙ ap (λ l. l ++ p.more) e)) (shown_reached x ws vs p.more p.shown)

pub put_decides : (x : PlanText) (ws : List Bool) (vs : List ViewText) (old new : List Touched) (told : Bool) → length ws ≡ length vs → old ≡ [] → ArePut x ws vs old new → Decides told (TwoClash new)
    → Decides (not told) (LieApart ws (map (seen x) vs))
put_decides x ws vs old new told len e p d =
    let is : new ≡ p.more = p.behind ∙ ap (λ l. l ++ p.more) e in
    let f : Decides told (TwoClash p.more) = subst (λ l. Decides told (TwoClash l)) is d in
    others (TwoClash p.more → ⊥) (LieApart ws (map (seen x) vs)) (not told) (apart_clash x ws vs p.more p.shown len) (λ a c. clash_apart x ws vs p.more p.shown a c) (against (TwoClash p.more) told f)
