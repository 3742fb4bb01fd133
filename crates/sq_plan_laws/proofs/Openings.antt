-- The scopes round an event are open together where just the events before it are finished.
use Rattle.std.proofs.Common.{◌≡◌, zero, suc, Bool, true, false, List, [], ◌∷◌, ◌++◌, Some, refl, sym, ap}
use Rattle.std.proofs.Common.{◌∙◌, subst, arith, inl, inr}
use Rattle.std.specs.Prelude.{if◌then◌else◌}
use Rattle.std.specs.List.{Contains}
use Rattle.sq_ir.specs.Tree.{Tree, Skip, Act, Stuck, Seq, Par, Within, is_done, seq, par, within, IsNormal}
use Rattle.sq_ir.specs.Unordered.{event_in, IsBefore, IsFresh}
use Rattle.sq_ir.specs.Scopes.{open_scopes}
use Rattle.sq_ir.specs.Closed.{without, IsClosed}
use Rattle.sq_ir.proofs.Reaching.{are_reached}
use Rattle.sq_plan_laws.specs.Around.{IsAround, ScopesOpen}

-- ---- lists

pub contains_left : {S : Type 0} (xs ys : List S) (x : S) → Contains xs x → Contains (xs ++ ys) x
contains_left [] ys x c = let l = c.1 in absurd (omega (arith, l))
contains_left (y ∷ xs) ys x (zero, l, e) = (zero, omega arith, e)
contains_left (y ∷ xs) ys x (suc k, l, e) = let r
    = contains_left xs ys x (k, omega (arith, l), e) in (suc r.0, let m = r.1 in omega (arith, m), r.2)

pub contains_right : {S : Type 0} (xs ys : List S) (x : S) → Contains ys x → Contains (xs ++ ys) x
contains_right [] ys x c = c
contains_right (y ∷ xs) ys x c = let r = contains_right xs ys x c in (suc r.0, let m = r.1 in omega (arith, m), r.2)

none_open : {S : Type 0} (l : List S) → l ≡ [] → (s : S) → Contains l s → (ys : List S) → Contains ys s
none_open l e s c ys = let z = subst (λ x. Contains x s) e c in let k = z.1 in absurd (omega (arith, k))

module _ {E S : Type 0} where
  -- whether the place q stands before p
  abbrev earlier : Tree E S → (p q : List Bool) → Bool
  earlier Skip p q = false
  earlier (Act e) p q = false
  earlier (Stuck e) p q = false
  earlier (Seq a b) [] q = false
  earlier (Seq a b) (false ∷ p) [] = false
  earlier (Seq a b) (false ∷ p) (false ∷ q) = earlier a p q
  earlier (Seq a b) (false ∷ p) (true ∷ q) = false
  earlier (Seq a b) (true ∷ p) [] = false
  earlier (Seq a b) (true ∷ p) (false ∷ q) = true
  earlier (Seq a b) (true ∷ p) (true ∷ q) = earlier b p q
  earlier (Par a b) [] q = false
  earlier (Par a b) (false ∷ p) [] = false
  earlier (Par a b) (false ∷ p) (false ∷ q) = earlier a p q
  earlier (Par a b) (false ∷ p) (true ∷ q) = false
  earlier (Par a b) (true ∷ p) [] = false
  earlier (Par a b) (true ∷ p) (false ∷ q) = false
  earlier (Par a b) (true ∷ p) (true ∷ q) = earlier b p q
  earlier (Within s a) p q = earlier a p q

  -- an event before one that stands before p stands before p
  closed_at : (t : Tree E S) (p q r : List Bool) (e g h : E) → event_in t p ≡ Some h → event_in t q ≡ Some e
      → event_in t r ≡ Some g → IsBefore t r q → earlier t p q ≡ true → earlier t p r ≡ true
  closed_at Skip p q r e g h x y z b f = cc
  closed_at (Act k) p q r e g h x y z b f = cc
  closed_at (Stuck k) p q r e g h x y z b f = cc
  closed_at (Seq a b) [] q r e g h x y z w f = cc
  closed_at (Seq a b) (false ∷ p) [] r e g h x y z w f = cc
  closed_at (Seq a b) (false ∷ p) (false ∷ q) [] e g h x y z w f = cc
  closed_at (Seq a b) (false ∷ p) (false ∷ q) (false ∷ r) e g h x y z w f = closed_at a p q r e g h x y z w f
  closed_at (Seq a b) (false ∷ p) (false ∷ q) (true ∷ r) e g h x y z w f = absurd w
  closed_at (Seq a b) (false ∷ p) (true ∷ q) r e g h x y z w f = cc
  closed_at (Seq a b) (true ∷ p) [] r e g h x y z w f = cc
  closed_at (Seq a b) (true ∷ p) (false ∷ q) [] e g h x y z w f = cc
  closed_at (Seq a b) (true ∷ p) (false ∷ q) (false ∷ r) e g h x y z w f = refl
  closed_at (Seq a b) (true ∷ p) (false ∷ q) (true ∷ r) e g h x y z w f = absurd w
  closed_at (Seq a b) (true ∷ p) (true ∷ q) [] e g h x y z w f = cc
  closed_at (Seq a b) (true ∷ p) (true ∷ q) (false ∷ r) e g h x y z w f = refl
  closed_at (Seq a b) (true ∷ p) (true ∷ q) (true ∷ r) e g h x y z w f = closed_at b p q r e g h x y z w f
  closed_at (Par a b) [] q r e g h x y z w f = cc
  closed_at (Par a b) (false ∷ p) [] r e g h x y z w f = cc
  closed_at (Par a b) (false ∷ p) (false ∷ q) [] e g h x y z w f = cc
  closed_at (Par a b) (false ∷ p) (false ∷ q) (false ∷ r) e g h x y z w f = closed_at a p q r e g h x y z w f
  closed_at (Par a b) (false ∷ p) (false ∷ q) (true ∷ r) e g h x y z w f = absurd w
  closed_at (Par a b) (false ∷ p) (true ∷ q) r e g h x y z w f = cc
  closed_at (Par a b) (true ∷ p) [] r e g h x y z w f = cc
  closed_at (Par a b) (true ∷ p) (false ∷ q) r e g h x y z w f = cc
  closed_at (Par a b) (true ∷ p) (true ∷ q) [] e g h x y z w f = cc
  closed_at (Par a b) (true ∷ p) (true ∷ q) (false ∷ r) e g h x y z w f = absurd w
  closed_at (Par a b) (true ∷ p) (true ∷ q) (true ∷ r) e g h x y z w f = closed_at b p q r e g h x y z w f
  closed_at (Within s a) p q r e g h x y z w f = closed_at a p q r e g h x y z w f

  earlier_closed : (t : Tree E S) (p : List Bool) (h : E) → event_in t p ≡ Some h → IsClosed t (earlier t p)
  earlier_closed t p h x = record { before = λ q r e g y z w f. closed_at t p q r e g h x y z w f }

  -- where all events are finished, nothing is left
  all_done : (t : Tree E S) (f : List Bool → Bool) → ((p : List Bool) → f p ≡ true) → IsFresh t → is_done (without t f)
      ≡ true
  all_done Skip f h z = refl
  all_done (Act e) f h z = ap (λ v. is_done {S = S} (if v then Skip else Act e)) (h [])
  all_done (Stuck e) f h z = absurd z
  all_done (Seq a b) f h z =
      ap (λ v. is_done (if v then without b (λ p. f (true ∷ p)) else
      (if is_done (without b (λ p. f (true ∷ p))) then without a (λ p. f (false ∷ p)) else Seq
      (without a (λ p. f (false ∷ p))) (without b (λ p. f (true ∷ p))))))
      (all_done a (λ p. f (false ∷ p)) (λ p. h (false ∷ p)) z.0)
      ∙ all_done b (λ p. f (true ∷ p)) (λ p. h (true ∷ p)) z.1
  all_done (Par a b) f h z =
      ap (λ v. is_done (if v then without b (λ p. f (true ∷ p)) else
      (if is_done (without b (λ p. f (true ∷ p))) then without a (λ p. f (false ∷ p)) else Par
      (without a (λ p. f (false ∷ p))) (without b (λ p. f (true ∷ p))))))
      (all_done a (λ p. f (false ∷ p)) (λ p. h (false ∷ p)) z.0)
      ∙ all_done b (λ p. f (true ∷ p)) (λ p. h (true ∷ p)) z.1
  all_done (Within s a) f h z = ap (λ v. is_done (if v then Skip else Within s (without a f))) (all_done a f h z)

  -- ---- what is open

  -- a part where something is left, with all of these open
  pub record Shows (t : Tree E S) (l : List S) : Type 0 where
    pub left_ : is_done t ≡ false
    pub open_ : (s : S) → Contains l s → Contains (open_scopes t) s

  seq_shows : (a b : Tree E S) (l : List S) → Shows a l → Shows (seq a b) l
  seq_shows a b l h = by (is_done b) refl
    where
      is : seq a b ≡ (if is_done b then a else Seq a b)
      is = ap (λ v. if v then b else (if is_done b then a else Seq a b)) h.left_

      whole : Shows (Seq a b) l
      whole = record {
        left_ = ap (λ v. if v then is_done b else false) h.left_;
        open_ = λ s c. subst (λ z. Contains z s) (sym (ap (λ v. if v then open_scopes b else open_scopes a) h.left_))
            (h.open_ s c);
      }

      by : (v : Bool) → is_done b ≡ v → Shows (seq a b) l
      by true e = subst (λ z. Shows z l) (sym (is ∙ ap (λ v. if v then a else Seq a b) e)) h
      by false e = subst (λ z. Shows z l) (sym (is ∙ ap (λ v. if v then a else Seq a b) e)) whole

  next_shows : (a b : Tree E S) (l : List S) → is_done a ≡ true → Shows b l → Shows (seq a b) l
  next_shows a b l d h = subst (λ z. Shows z l) (sym (ap (λ v. if v then b else (if is_done b then a else Seq a b)) d))
      h

  left_shows : (a b : Tree E S) (l : List S) → Shows a l → Shows (par a b) l
  left_shows a b l h = by (is_done b) refl
    where
      is : par a b ≡ (if is_done b then a else Par a b)
      is = ap (λ v. if v then b else (if is_done b then a else Par a b)) h.left_

      whole : Shows (Par a b) l
      whole = record {
        left_ = ap (λ v. if v then is_done b else false) h.left_;
        open_ = λ s c. contains_left (open_scopes a) (open_scopes b) s (h.open_ s c);
      }

      by : (v : Bool) → is_done b ≡ v → Shows (par a b) l
      by true e = subst (λ z. Shows z l) (sym (is ∙ ap (λ v. if v then a else Par a b) e)) h
      by false e = subst (λ z. Shows z l) (sym (is ∙ ap (λ v. if v then a else Par a b) e)) whole

  right_shows : (a b : Tree E S) (l : List S) → Shows b l → Shows (par a b) l
  right_shows a b l h = by (is_done a) refl
    where
      whole : is_done a ≡ false → Shows (Par a b) l
      whole e = record {
        left_ = ap (λ v. if v then is_done b else false) e;
        open_ = λ s c. contains_right (open_scopes a) (open_scopes b) s (h.open_ s c);
      }

      by : (v : Bool) → is_done a ≡ v → Shows (par a b) l
      by true e = subst (λ z. Shows z l) (sym (ap (λ v. if v then b else (if is_done b then a else Par a b)) e)) h
      by false e =
          subst (λ z. Shows z l)
          (sym (ap (λ v. if v then b else (if is_done b then a else Par a b)) e
          ∙ ap (λ v. if v then a else Par a b) h.left_)) (whole e)

  within_shows : (s : S) (a : Tree E S) (l : List S) → Shows a l → Shows (within s a) (s ∷ l)
  within_shows s a l h = subst (λ z. Shows z (s ∷ l)) (sym (ap (λ v. if v then Skip else Within s a) h.left_))
      (record { left_ = h.left_; open_ = is_open })
    where
      shown : (x : S) → Contains (s ∷ l) x → Contains (s ∷ open_scopes a) x
      shown x (zero, k, e) = (zero, omega arith, e)
      shown x (suc i, k, e) = let r = h.open_ x (i, omega (arith, k), e) in
          (suc r.0, let m = r.1 in omega (arith, m), r.2)

      is_open : (x : S) → Contains (s ∷ l) x → Contains (open_scopes (Within s a)) x
      is_open x c = subst (λ z. Contains z x) (sym (ap (λ v. if v then [] else s ∷ open_scopes a) h.left_)) (shown x c)

  -- ---- an event with its place

  record Placed_ (t : Tree E S) (l : List S) : Type 0 where
    place : List Bool
    event : E
    there : event_in t place ≡ Some event
    shows : Shows (without t (earlier t place)) l

  placed_at : (t : Tree E S) → IsNormal t → IsFresh t → (l : List S) → IsAround t l → Placed_ t l
  placed_at Skip n z l h = absurd h
  placed_at (Act e) n z l h = record
      { place = []; event = e; there = refl; shows = record { left_ = refl; open_ = λ s c. none_open l h s c [] } }
  placed_at (Stuck e) n z l h = absurd z
  placed_at (Seq a b) n z l (inl h) =
      let r = placed_at a n.0 z.0 l h in
      record {
        place = false ∷ r.place;
        event = r.event;
        there = r.there;
        shows
            = seq_shows (without a (earlier a r.place)) (without b (λ q. false)) l r.shows;
      }
  placed_at (Seq a b) n z l (inr h) =
      let r = placed_at b n.1 z.1 l h in
      record {
        place = true ∷ r.place;
        event = r.event;
        there = r.there;
        shows
            = next_shows (without a (λ q. true)) (without b (earlier b r.place)) l
            (all_done a (λ q. true) (λ q. refl) z.0) r.shows;
      }
  placed_at (Par a b) n z l (inl h) =
      let r = placed_at a n.0 z.0 l h in
      record {
        place = false ∷ r.place;
        event = r.event;
        there = r.there;
        shows
            = left_shows (without a (earlier a r.place)) (without b (λ q. false)) l r.shows;
      }
  placed_at (Par a b) n z l (inr h) =
      let r = placed_at b n.1 z.1 l h in
      record {
        place = true ∷ r.place;
        event = r.event;
        there = r.there;
        shows
            = right_shows (without a (λ q. false)) (without b (earlier b r.place)) l r.shows;
      }
  placed_at (Within s a) n z l h =
      let r = placed_at a n.0 z h.0 h.1 in
      record {
        place = r.place;
        event = r.event;
        there = r.there;
        shows = subst (λ x. Shows (within s (without a (earlier a r.place))) x) (sym h.2)
            (within_shows s (without a (earlier a r.place)) h.0 r.shows);
      }

pub scopes_open : (E S : Type 0) → ScopesOpen E S
scopes_open E S t n z l h =
    let r = placed_at t n z l h in
    let w = (are_reached E S t n z).turns (earlier t r.place) (earlier_closed t r.place r.event r.there) in
    record { turns = w.0; open_ = λ s c. subst (λ u. Contains (open_scopes u) s) (sym w.1) (r.shows.open_ s c) }
