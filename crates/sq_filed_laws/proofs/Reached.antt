-- Scopes that may be open at once are open together in some state.
use Rattle.std.proofs.Common.{◌≡◌, zero, suc, arith, Bool, true, false, List, [], ◌∷◌, ◌++◌, Option, Some, None, refl, sym, ◌∙◌, ap, subst, ◌⊎◌, inl, inr}
use Rattle.std.specs.Prelude.{if◌then◌else◌}
use Rattle.std.specs.List.{Contains}
use Rattle.sq_ir.specs.Tree.{Tree, Skip, Act, Stuck, Seq, Par, Within, is_done, seq, par, within, IsNormal}
use Rattle.sq_ir.specs.Unordered.{event_in, IsBefore, IsFresh}
use Rattle.sq_ir.specs.Scopes.{open_scopes}
use Rattle.sq_ir.specs.Closed.{without, IsClosed}
use Rattle.sq_ir.proofs.OpenScopes.{contains-first, contains-none}
use Rattle.sq_check_laws.specs.Flaws.{HasScope, AreTogether}

abbrev none_is : List Bool → Bool
none_is p = false

abbrev all_are : List Bool → Bool
all_are p = true

-- of the first part these, and of the second part those
abbrev either : (List Bool → Bool) → (List Bool → Bool) → List Bool → Bool
either f g [] = false
either f g (false ∷ p) = f p
either f g (true ∷ p) = g p

no_event : {E : Type 0} (e : E) → ◌≡◌ {A = Option E} None (Some e) → ⊥
no_event e is = cc

false_true : false ≡ true → ⊥
false_true is = cc

pub here : {X : Type 0} (x : X) (l : List X) → Contains (x ∷ l) x
here x l = (zero, omega arith, refl)

later : {X : Type 0} (y : X) (l : List X) (x : X) → Contains l x → Contains (y ∷ l) x
later y l x c = (suc c.0, omega (arith, c.1), c.2)

in_left : {X : Type 0} (xs ys : List X) (x : X) → Contains xs x → Contains (xs ++ ys) x
in_left [] ys x c = absurd (contains-none x c)
in_left (y ∷ xs) ys x c = by (contains-first y xs x c) (in_left xs ys x)
  where
    by : (y ≡ x) ⊎ Contains xs x → (Contains xs x → Contains (xs ++ ys) x) → Contains (y ∷ xs ++ ys) x
    by (inl e) f = (zero, omega arith, e)
    by (inr i) f = later y (xs ++ ys) x (f i)

in_right : {X : Type 0} (xs ys : List X) (x : X) → Contains ys x → Contains (xs ++ ys) x
in_right [] ys x c = c
in_right (y ∷ xs) ys x c = later y (xs ++ ys) x (in_right xs ys x c)

module _ {E S : Type 0} where
  -- ---- which sets are closed

  closed_none : (t : Tree E S) → IsClosed t none_is
  closed_none t = record { before = λ p q e g i j b h. absurd (false_true h) }

  module _ (a b : Tree E S) (f g : List Bool → Bool) (one : IsClosed a f) (two : IsClosed b g) where
    abbrev First : Type 0
    First = (p q : List Bool) → g p ≡ true → f q ≡ true

    seq_before : First → (p q : List Bool) (e h : E) → event_in (Seq a b) p ≡ Some e → event_in (Seq a b) q ≡ Some h → IsBefore (Seq a b) q p → either f g p ≡ true → either f g q ≡ true
    seq_before first [] q e h i j l is = absurd (no_event e i)
    seq_before first (false ∷ p) [] e h i j l is = absurd (no_event h j)
    seq_before first (true ∷ p) [] e h i j l is = absurd (no_event h j)
    seq_before first (false ∷ p) (false ∷ q) e h i j l is = one.before p q e h i j l is
    seq_before first (false ∷ p) (true ∷ q) e h i j l is = absurd l
    seq_before first (true ∷ p) (false ∷ q) e h i j l is = first p q is
    seq_before first (true ∷ p) (true ∷ q) e h i j l is = two.before p q e h i j l is

    closed_seq : First → IsClosed (Seq a b) (either f g)
    closed_seq first = record { before = seq_before first }

    par_before : (p q : List Bool) (e h : E) → event_in (Par a b) p ≡ Some e → event_in (Par a b) q ≡ Some h → IsBefore (Par a b) q p → either f g p ≡ true → either f g q ≡ true
    par_before [] q e h i j l is = absurd (no_event e i)
    par_before (false ∷ p) [] e h i j l is = absurd (no_event h j)
    par_before (true ∷ p) [] e h i j l is = absurd (no_event h j)
    par_before (false ∷ p) (false ∷ q) e h i j l is = one.before p q e h i j l is
    par_before (false ∷ p) (true ∷ q) e h i j l is = absurd l
    par_before (true ∷ p) (false ∷ q) e h i j l is = absurd l
    par_before (true ∷ p) (true ∷ q) e h i j l is = two.before p q e h i j l is

    closed_par : IsClosed (Par a b) (either f g)
    closed_par = record { before = par_before }

  closed_all : (t : Tree E S) → IsClosed t all_are
  closed_all t = record { before = λ p q e g i j b h. refl }

  closed_within : (s : S) (a : Tree E S) (f : List Bool → Bool) → IsClosed a f → IsClosed (Within s a) f
  closed_within s a f one = record { before = λ p q e g i j b h. one.before p q e g i j b h }

  -- ---- what is left

  seq_both : (x y : Tree E S) → is_done x ≡ false → is_done y ≡ false → seq x y ≡ Seq x y
  seq_both x y p q = rw (p, q) refl

  par_both : (x y : Tree E S) → is_done x ≡ false → is_done y ≡ false → par x y ≡ Par x y
  par_both x y p q = rw (p, q) refl

  within_left : (s : S) (x : Tree E S) → is_done x ≡ false → within s x ≡ Within s x
  within_left s x p = rw p refl

  seq_next : (x y : Tree E S) → is_done x ≡ true → seq x y ≡ y
  seq_next x y p = rw p refl

  -- where nothing is finished
  without_none : (t : Tree E S) → IsNormal t → without t none_is ≡ t
  without_none Skip n = refl
  without_none (Act e) n = refl
  without_none (Stuck e) n = refl
  without_none (Seq a b) n =
      ap (λ x. seq x (without b none_is)) (without_none a n.0)
      ∙ (ap (λ y. seq a y) (without_none b n.1) ∙ seq_both a b n.2 n.3)
  without_none (Par a b) n =
      ap (λ x. par x (without b none_is)) (without_none a n.0)
      ∙ (ap (λ y. par a y) (without_none b n.1) ∙ par_both a b n.2 n.3)
  without_none (Within s a) n = ap (λ x. within s x) (without_none a n.0) ∙ within_left s a n.1

  seq_done : (x y : Tree E S) → is_done x ≡ true → is_done y ≡ true → is_done (seq x y) ≡ true
  seq_done x y p q = rw (p, q) refl

  par_done : (x y : Tree E S) → is_done x ≡ true → is_done y ≡ true → is_done (par x y) ≡ true
  par_done x y p q = rw (p, q) refl

  within_done : (s : S) (x : Tree E S) → is_done x ≡ true → is_done (within s x) ≡ true
  within_done s x p = rw p refl

  -- where all is, and nothing has trapped
  without_all : (t : Tree E S) → IsFresh t → is_done (without t all_are) ≡ true
  without_all Skip f = refl
  without_all (Act e) f = refl
  without_all (Stuck e) f = absurd f
  without_all (Seq a b) f = seq_done (without a all_are) (without b all_are) (without_all a f.0) (without_all b f.1)
  without_all (Par a b) f = par_done (without a all_are) (without b all_are) (without_all a f.0) (without_all b f.1)
  without_all (Within s a) f = within_done s (without a all_are) (without_all a f)

  -- ---- what is open

  open_seq : (x y : Tree E S) → is_done x ≡ false → open_scopes (Seq x y) ≡ open_scopes x
  open_seq x y p = rw p refl

  open_within : (s : S) (x : Tree E S) → is_done x ≡ false → open_scopes (Within s x) ≡ s ∷ open_scopes x
  open_within s x p = rw p refl

  -- ---- a scope is open in some state

  -- the events of a closed set are finished, this scope is open then, and an event is left
  pub record Opens (t : Tree E S) (x : S) : Type 0 where
    pub finished : List Bool → Bool
    pub closed : IsClosed t finished
    pub left : is_done (without t finished) ≡ false
    pub open_ : Contains (open_scopes (without t finished)) x

  opens_first : (a b : Tree E S) (x : S) → IsNormal b → is_done b ≡ false → Opens a x → Opens (Seq a b) x
  opens_first a b x n left o =
      let rest : without b none_is ≡ b = without_none b n in
      let is : without (Seq a b) (either o.finished none_is) ≡ Seq (without a o.finished) b =
      ap (λ y. seq (without a o.finished) y) rest ∙ seq_both (without a o.finished) b o.left left in
      record {
        finished = either o.finished none_is;
        closed = closed_seq a b o.finished none_is o.closed (closed_none b) (λ p q h. absurd (false_true h));
        left = ap is_done is ∙ (let l : is_done (without a o.finished) ≡ false = o.left in rw l refl);
        open_ = subst (λ l. Contains l x) (sym (ap open_scopes is ∙ open_seq (without a o.finished) b o.left)) o.open_;
      }

  opens_next : (a b : Tree E S) (x : S) → IsFresh a → Opens b x → Opens (Seq a b) x
  opens_next a b x fresh o =
      let is : without (Seq a b) (either all_are o.finished) ≡ without b o.finished =
      seq_next (without a all_are) (without b o.finished) (without_all a fresh) in
      record {
        finished = either all_are o.finished;
        closed = closed_seq a b all_are o.finished (closed_all a) o.closed (λ p q h. refl);
        left = ap is_done is ∙ o.left;
        open_ = subst (λ l. Contains l x) (sym (ap open_scopes is)) o.open_;
      }

  opens_left : (a b : Tree E S) (x : S) → IsNormal b → is_done b ≡ false → Opens a x → Opens (Par a b) x
  opens_left a b x n left o =
      let is : without (Par a b) (either o.finished none_is) ≡ Par (without a o.finished) b =
      ap (λ y. par (without a o.finished) y) (without_none b n) ∙ par_both (without a o.finished) b o.left left in
      record {
        finished = either o.finished none_is;
        closed = closed_par a b o.finished none_is o.closed (closed_none b);
        left = ap is_done is ∙ (let l : is_done (without a o.finished) ≡ false = o.left in rw l refl);
        open_ = subst (λ l. Contains l x) (sym (ap open_scopes is)) (in_left (open_scopes (without a o.finished)) (open_scopes b) x o.open_);
      }

  done_second : (x y : Tree E S) → is_done x ≡ false → (if is_done x then is_done y else false) ≡ false
  done_second x y p = rw p refl

  opens_right : (a b : Tree E S) (x : S) → IsNormal a → is_done a ≡ false → Opens b x → Opens (Par a b) x
  opens_right a b x n left o =
      let is : without (Par a b) (either none_is o.finished) ≡ Par a (without b o.finished) =
      ap (λ y. par y (without b o.finished)) (without_none a n) ∙ par_both a (without b o.finished) left o.left in
      record {
        finished = either none_is o.finished;
        closed = closed_par a b none_is o.finished (closed_none a) o.closed;
        left = ap is_done is ∙ done_second a (without b o.finished) left;
        open_ = subst (λ l. Contains l x) (sym (ap open_scopes is)) (in_right (open_scopes a) (open_scopes (without b o.finished)) x o.open_);
      }

  opens_own : (s : S) (a : Tree E S) (x : S) → IsNormal a → is_done a ≡ false → s ≡ x → Opens (Within s a) x
  opens_own s a x n left same =
      let is : without (Within s a) none_is ≡ Within s a = without_none (Within s a) (n, left) in
      record {
        finished = none_is;
        closed = closed_none (Within s a);
        left = ap is_done is ∙ left;
        open_ = subst (λ l. Contains l x) (sym (ap open_scopes is ∙ open_within s a left))
            (subst (λ y. Contains (s ∷ open_scopes a) y) same (here s (open_scopes a)));
      }

  opens_inside : (s : S) (a : Tree E S) (x : S) → Opens a x → Opens (Within s a) x
  opens_inside s a x o =
      let is : without (Within s a) o.finished ≡ Within s (without a o.finished) =
      within_left s (without a o.finished) o.left in
      record {
        finished = o.finished;
        closed = closed_within s a o.finished o.closed;
        left = ap is_done is ∙ o.left;
        open_ = subst (λ l. Contains l x) (sym (ap open_scopes is ∙ open_within s (without a o.finished) o.left))
            (later s (open_scopes (without a o.finished)) x o.open_);
      }

  pub opens : (t : Tree E S) → IsNormal t → IsFresh t → (x : S) → HasScope t x → Opens t x
  opens Skip n f x h = absurd h
  opens (Act e) n f x h = absurd h
  opens (Stuck e) n f x h = absurd h
  opens (Seq a b) n f x (inl h) = opens_first a b x n.1 n.3 (opens a n.0 f.0 x h)
  opens (Seq a b) n f x (inr h) = opens_next a b x f.0 (opens b n.1 f.1 x h)
  opens (Par a b) n f x (inl h) = opens_left a b x n.1 n.3 (opens a n.0 f.0 x h)
  opens (Par a b) n f x (inr h) = opens_right a b x n.0 n.2 (opens b n.1 f.1 x h)
  opens (Within s a) n f x (inl e) = opens_own s a x n.0 n.1 e
  opens (Within s a) n f x (inr h) = opens_inside s a x (opens a n.0 f x h)

  -- ---- two scopes are open together in some state

  pub record OpensBoth (t : Tree E S) (x y : S) : Type 0 where
    pub finished : List Bool → Bool
    pub closed : IsClosed t finished
    pub left : is_done (without t finished) ≡ false
    pub one : Contains (open_scopes (without t finished)) x
    pub other : Contains (open_scopes (without t finished)) y

  both_first : (a b : Tree E S) (x y : S) → IsNormal b → is_done b ≡ false → OpensBoth a x y → OpensBoth (Seq a b) x y
  both_first a b x y n left o =
      let is : without (Seq a b) (either o.finished none_is) ≡ Seq (without a o.finished) b =
      ap (λ z. seq (without a o.finished) z) (without_none b n) ∙ seq_both (without a o.finished) b o.left left in
      let scopes = sym (ap open_scopes is ∙ open_seq (without a o.finished) b o.left) in
      record {
        finished = either o.finished none_is;
        closed = closed_seq a b o.finished none_is o.closed (closed_none b) (λ p q h. absurd (false_true h));
        left = ap is_done is ∙ done_second (without a o.finished) b o.left;
        one = subst (λ l. Contains l x) scopes o.one;
        other = subst (λ l. Contains l y) scopes o.other;
      }

  both_next : (a b : Tree E S) (x y : S) → IsFresh a → OpensBoth b x y → OpensBoth (Seq a b) x y
  both_next a b x y fresh o =
      let is : without (Seq a b) (either all_are o.finished) ≡ without b o.finished =
      seq_next (without a all_are) (without b o.finished) (without_all a fresh) in
      record {
        finished = either all_are o.finished;
        closed = closed_seq a b all_are o.finished (closed_all a) o.closed (λ p q h. refl);
        left = ap is_done is ∙ o.left;
        one = subst (λ l. Contains l x) (sym (ap open_scopes is)) o.one;
        other = subst (λ l. Contains l y) (sym (ap open_scopes is)) o.other;
      }

  both_left : (a b : Tree E S) (x y : S) → IsNormal b → is_done b ≡ false → OpensBoth a x y → OpensBoth (Par a b) x y
  both_left a b x y n left o =
      let is : without (Par a b) (either o.finished none_is) ≡ Par (without a o.finished) b =
      ap (λ z. par (without a o.finished) z) (without_none b n) ∙ par_both (without a o.finished) b o.left left in
      let scopes = sym (ap open_scopes is) in
      record {
        finished = either o.finished none_is;
        closed = closed_par a b o.finished none_is o.closed (closed_none b);
        left = ap is_done is ∙ done_second (without a o.finished) b o.left;
        one = subst (λ l. Contains l x) scopes (in_left (open_scopes (without a o.finished)) (open_scopes b) x o.one);
        other = subst (λ l. Contains l y) scopes (in_left (open_scopes (without a o.finished)) (open_scopes b) y o.other);
      }

  both_right : (a b : Tree E S) (x y : S) → IsNormal a → is_done a ≡ false → OpensBoth b x y → OpensBoth (Par a b) x y
  both_right a b x y n left o =
      let is : without (Par a b) (either none_is o.finished) ≡ Par a (without b o.finished) =
      ap (λ z. par z (without b o.finished)) (without_none a n) ∙ par_both a (without b o.finished) left o.left in
      let scopes = sym (ap open_scopes is) in
      record {
        finished = either none_is o.finished;
        closed = closed_par a b none_is o.finished (closed_none a) o.closed;
        left = ap is_done is ∙ done_second a (without b o.finished) left;
        one = subst (λ l. Contains l x) scopes (in_right (open_scopes a) (open_scopes (without b o.finished)) x o.one);
        other = subst (λ l. Contains l y) scopes (in_right (open_scopes a) (open_scopes (without b o.finished)) y o.other);
      }

  -- one in the left part, one in the right part
  both_beside : (a b : Tree E S) (x y : S) → Opens a x → Opens b y → OpensBoth (Par a b) x y
  both_beside a b x y o u =
      let is : without (Par a b) (either o.finished u.finished) ≡ Par (without a o.finished) (without b u.finished) =
      par_both (without a o.finished) (without b u.finished) o.left u.left in
      let scopes = sym (ap open_scopes is) in
      record {
        finished = either o.finished u.finished;
        closed = closed_par a b o.finished u.finished o.closed u.closed;
        left = ap is_done is ∙ done_second (without a o.finished) (without b u.finished) o.left;
        one = subst (λ l. Contains l x) scopes (in_left (open_scopes (without a o.finished)) (open_scopes (without b u.finished)) x o.open_);
        other = subst (λ l. Contains l y) scopes (in_right (open_scopes (without a o.finished)) (open_scopes (without b u.finished)) y u.open_);
      }

  both_turned : (t : Tree E S) (x y : S) → OpensBoth t x y → OpensBoth t y x
  both_turned t x y o = record { finished = o.finished; closed = o.closed; left = o.left; one = o.other; other = o.one }

  both_own : (s : S) (a : Tree E S) (x y : S) → IsNormal a → is_done a ≡ false → s ≡ x → s ≡ y → OpensBoth (Within s a) x y
  both_own s a x y n left p q =
      let o = opens_own s a x n left p in
      record { finished = o.finished; closed = o.closed; left = o.left; one = o.open_; other = subst (λ z. Contains (open_scopes (without (Within s a) o.finished)) z) (sym p ∙ q) o.open_ }

  -- the scope round a part, and one in it
  both_round : (s : S) (a : Tree E S) (x y : S) → s ≡ x → Opens a y → OpensBoth (Within s a) x y
  both_round s a x y p o =
      let is : without (Within s a) o.finished ≡ Within s (without a o.finished) = within_left s (without a o.finished) o.left in
      let scopes = sym (ap open_scopes is ∙ open_within s (without a o.finished) o.left) in
      record {
        finished = o.finished;
        closed = closed_within s a o.finished o.closed;
        left = ap is_done is ∙ o.left;
        one = subst (λ l. Contains l x) scopes (subst (λ z. Contains (s ∷ open_scopes (without a o.finished)) z) p (here s (open_scopes (without a o.finished))));
        other = subst (λ l. Contains l y) scopes (later s (open_scopes (without a o.finished)) y o.open_);
      }

  both_inside : (s : S) (a : Tree E S) (x y : S) → OpensBoth a x y → OpensBoth (Within s a) x y
  both_inside s a x y o =
      let is : without (Within s a) o.finished ≡ Within s (without a o.finished) = within_left s (without a o.finished) o.left in
      let scopes = sym (ap open_scopes is ∙ open_within s (without a o.finished) o.left) in
      record {
        finished = o.finished;
        closed = closed_within s a o.finished o.closed;
        left = ap is_done is ∙ o.left;
        one = subst (λ l. Contains l x) scopes (later s (open_scopes (without a o.finished)) x o.one);
        other = subst (λ l. Contains l y) scopes (later s (open_scopes (without a o.finished)) y o.other);
      }

  pub opens_both : (t : Tree E S) → IsNormal t → IsFresh t → (x y : S) → AreTogether t x y → OpensBoth t x y
  opens_both Skip n f x y h = absurd h
  opens_both (Act e) n f x y h = absurd h
  opens_both (Stuck e) n f x y h = absurd h
  opens_both (Seq a b) n f x y (inl h) = both_first a b x y n.1 n.3 (opens_both a n.0 f.0 x y h)
  opens_both (Seq a b) n f x y (inr h) = both_next a b x y f.0 (opens_both b n.1 f.1 x y h)
  opens_both (Par a b) n f x y (inl (inl h)) = both_left a b x y n.1 n.3 (opens_both a n.0 f.0 x y h)
  opens_both (Par a b) n f x y (inl (inr h)) = both_right a b x y n.0 n.2 (opens_both b n.1 f.1 x y h)
  opens_both (Par a b) n f x y (inr (inl h)) = both_beside a b x y (opens a n.0 f.0 x h.0) (opens b n.1 f.1 y h.1)
  opens_both (Par a b) n f x y (inr (inr h)) = both_turned (Par a b) y x (both_beside a b y x (opens a n.0 f.0 y h.1) (opens b n.1 f.1 x h.0))
  opens_both (Within s a) n f x y (inl h) = both_own s a x y n.0 n.1 h.0 h.1
  opens_both (Within s a) n f x y (inr (inl h)) = both_round s a x y h.0 (opens a n.0 f y h.1)
  opens_both (Within s a) n f x y (inr (inr (inl h))) = both_turned (Within s a) y x (both_round s a y x h.1 (opens a n.0 f x h.0))
  opens_both (Within s a) n f x y (inr (inr (inr h))) = both_inside s a x y (opens_both a n.0 f x y h)
