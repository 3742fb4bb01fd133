-- A tree whose scopes all stand round events, and the same tree without its empty parts.
use Rattle.std.proofs.Common.{◌≡◌, Bool, true, false, refl, sym, ◌∙◌, ap, subst, ◌⊎◌, inl, inr}
use Rattle.std.specs.Prelude.{if◌then◌else◌}
use Rattle.sq_ir.specs.Tree.{Tree, Skip, Act, Stuck, Seq, Par, Within, is_done, seq, par, within}
use Rattle.sq_ir.specs.Unordered.{AllEvents, AllUnordered}
use Rattle.sq_check_laws.specs.Whole.{trimmed}
use Rattle.sq_check_laws.specs.Flaws.{HasScope, AreTogether}

true_false : true ≡ false → ⊥
true_false is = cc

false_true : false ≡ true → ⊥
false_true is = cc

both_true : (u v : Bool) → (if u then v else false) ≡ true → (u ≡ true) × (v ≡ true)
both_true true v p = (refl, p)
both_true false v p = absurd (false_true p)

module _ {E S : Type 0} where
  -- each scope stands round an event
  abbrev pub IsFull : Tree E S → Type 0
  IsFull Skip = Unit {0}
  IsFull (Act e) = Unit {0}
  IsFull (Stuck e) = Unit {0}
  IsFull (Seq a b) = IsFull a × IsFull b
  IsFull (Par a b) = IsFull a × IsFull b
  IsFull (Within s a) = (is_done a ≡ false) × IsFull a

  -- ---- the three forms

  first_done : (x y : Tree E S) → is_done x ≡ true → seq x y ≡ y
  first_done x y p = rw p refl

  next_done : (x y : Tree E S) → is_done x ≡ false → is_done y ≡ true → seq x y ≡ x
  next_done x y p q = rw (p, q) refl

  none_done : (x y : Tree E S) → is_done x ≡ false → is_done y ≡ false → seq x y ≡ Seq x y
  none_done x y p q = rw (p, q) refl

  left_done : (x y : Tree E S) → is_done x ≡ true → par x y ≡ y
  left_done x y p = rw p refl

  right_done : (x y : Tree E S) → is_done x ≡ false → is_done y ≡ true → par x y ≡ x
  right_done x y p q = rw (p, q) refl

  neither_done : (x y : Tree E S) → is_done x ≡ false → is_done y ≡ false → par x y ≡ Par x y
  neither_done x y p q = rw (p, q) refl

  round : (s : S) (x : Tree E S) → is_done x ≡ false → within s x ≡ Within s x
  round s x p = rw p refl

  round_done : (s : S) (x : Tree E S) → is_done x ≡ true → within s x ≡ Skip
  round_done s x p = rw p refl

  -- ---- which are done

  seq_is_done : (x y : Tree E S) (u v : Bool) → is_done x ≡ u → is_done y ≡ v → is_done (seq x y) ≡ (if u then v else false)
  seq_is_done x y true v p q = ap is_done (first_done x y p) ∙ q
  seq_is_done x y false true p q = ap is_done (next_done x y p q) ∙ p
  seq_is_done x y false false p q = ap is_done (none_done x y p q) ∙ (rw p refl)

  par_is_done : (x y : Tree E S) (u v : Bool) → is_done x ≡ u → is_done y ≡ v → is_done (par x y) ≡ (if u then v else false)
  par_is_done x y true v p q = ap is_done (left_done x y p) ∙ q
  par_is_done x y false true p q = ap is_done (right_done x y p q) ∙ p
  par_is_done x y false false p q = ap is_done (neither_done x y p q) ∙ (rw p refl)

  within_is_done : (s : S) (x : Tree E S) (u : Bool) → is_done x ≡ u → is_done (within s x) ≡ u
  within_is_done s x true p = ap is_done (round_done s x p)
  within_is_done s x false p = ap is_done (round s x p) ∙ p

  pub done_trimmed : (t : Tree E S) → is_done (trimmed t) ≡ is_done t
  done_trimmed Skip = refl
  done_trimmed (Act e) = refl
  done_trimmed (Stuck e) = refl
  done_trimmed (Seq a b) = seq_is_done (trimmed a) (trimmed b) (is_done a) (is_done b) (done_trimmed a) (done_trimmed b)
  done_trimmed (Par a b) = par_is_done (trimmed a) (trimmed b) (is_done a) (is_done b) (done_trimmed a) (done_trimmed b)
  done_trimmed (Within s a) = within_is_done s (trimmed a) (is_done a) (done_trimmed a)

  -- ---- events

  events_done : (P : E → Type 0) (t : Tree E S) → is_done t ≡ true → AllEvents P t
  events_done P Skip d = tt
  events_done P (Act e) d = absurd (false_true d)
  events_done P (Stuck e) d = absurd (false_true d)
  events_done P (Seq a b) d = let h = both_true (is_done a) (is_done b) d in (events_done P a h.0, events_done P b h.1)
  events_done P (Par a b) d = let h = both_true (is_done a) (is_done b) d in (events_done P a h.0, events_done P b h.1)
  events_done P (Within s a) d = events_done P a d

  events_all : (P : E → Type 0) → ((e : E) → P e) → (t : Tree E S) → AllEvents P t
  events_all P f Skip = tt
  events_all P f (Act e) = f e
  events_all P f (Stuck e) = f e
  events_all P f (Seq a b) = (events_all P f a, events_all P f b)
  events_all P f (Par a b) = (events_all P f a, events_all P f b)
  events_all P f (Within s a) = events_all P f a

  events_map : (P Q : E → Type 0) → ((e : E) → P e → Q e) → (t : Tree E S) → AllEvents P t → AllEvents Q t
  events_map P Q f Skip h = tt
  events_map P Q f (Act e) h = f e h
  events_map P Q f (Stuck e) h = f e h
  events_map P Q f (Seq a b) h = (events_map P Q f a h.0, events_map P Q f b h.1)
  events_map P Q f (Par a b) h = (events_map P Q f a h.0, events_map P Q f b h.1)
  events_map P Q f (Within s a) h = events_map P Q f a h

  seq_events : (P : E → Type 0) (x y : Tree E S) (u v : Bool) → is_done x ≡ u → is_done y ≡ v → AllEvents P (seq x y) → AllEvents P x × AllEvents P y
  seq_events P x y true v p q h = (events_done P x p, subst (AllEvents P) (first_done x y p) h)
  seq_events P x y false true p q h = (subst (AllEvents P) (next_done x y p q) h, events_done P y q)
  seq_events P x y false false p q h = subst (AllEvents P) (none_done x y p q) h

  par_events : (P : E → Type 0) (x y : Tree E S) (u v : Bool) → is_done x ≡ u → is_done y ≡ v → AllEvents P (par x y) → AllEvents P x × AllEvents P y
  par_events P x y true v p q h = (events_done P x p, subst (AllEvents P) (left_done x y p) h)
  par_events P x y false true p q h = (subst (AllEvents P) (right_done x y p q) h, events_done P y q)
  par_events P x y false false p q h = subst (AllEvents P) (neither_done x y p q) h

  within_events : (P : E → Type 0) (s : S) (x : Tree E S) (u : Bool) → is_done x ≡ u → AllEvents P (within s x) → AllEvents P x
  within_events P s x true p h = events_done P x p
  within_events P s x false p h = subst (AllEvents P) (round s x p) h

  events_there : (P : E → Type 0) (t : Tree E S) → AllEvents P (trimmed t) → AllEvents P t
  events_there P Skip h = h
  events_there P (Act e) h = h
  events_there P (Stuck e) h = h
  events_there P (Seq a b) h =
      let k = seq_events P (trimmed a) (trimmed b) (is_done a) (is_done b) (done_trimmed a) (done_trimmed b) h in
      (events_there P a k.0, events_there P b k.1)
  events_there P (Par a b) h =
      let k = par_events P (trimmed a) (trimmed b) (is_done a) (is_done b) (done_trimmed a) (done_trimmed b) h in
      (events_there P a k.0, events_there P b k.1)
  events_there P (Within s a) h = events_there P a (within_events P s (trimmed a) (is_done a) (done_trimmed a) h)

  -- ---- unordered events

  module _ (R : E → E → Type 0) where
    unordered_done : (t : Tree E S) → is_done t ≡ true → AllUnordered R t
    unordered_done Skip d = tt
    unordered_done (Act e) d = tt
    unordered_done (Stuck e) d = tt
    unordered_done (Seq a b) d = let h = both_true (is_done a) (is_done b) d in (unordered_done a h.0, unordered_done b h.1)
    unordered_done (Par a b) d =
        let h = both_true (is_done a) (is_done b) d in
        (unordered_done a h.0, unordered_done b h.1, events_done (λ e. AllEvents (R e) b) a h.0)
    unordered_done (Within s a) d = unordered_done a d

    seq_unordered : (x y : Tree E S) (u v : Bool) → is_done x ≡ u → is_done y ≡ v → AllUnordered R (seq x y) → AllUnordered R x × AllUnordered R y
    seq_unordered x y true v p q h = (unordered_done x p, subst (AllUnordered R) (first_done x y p) h)
    seq_unordered x y false true p q h = (subst (AllUnordered R) (next_done x y p q) h, unordered_done y q)
    seq_unordered x y false false p q h = subst (AllUnordered R) (none_done x y p q) h

    par_unordered : (x y : Tree E S) (u v : Bool) → is_done x ≡ u → is_done y ≡ v → AllUnordered R (par x y) → AllUnordered R (Par x y)
    par_unordered x y true v p q h =
        (unordered_done x p, subst (AllUnordered R) (left_done x y p) h, events_done (λ e. AllEvents (R e) y) x p)
    par_unordered x y false true p q h =
        (subst (AllUnordered R) (right_done x y p q) h, unordered_done y q, events_all (λ e. AllEvents (R e) y) (λ e. events_done (R e) y q) x)
    par_unordered x y false false p q h = subst (AllUnordered R) (neither_done x y p q) h

    within_unordered : (s : S) (x : Tree E S) (u : Bool) → is_done x ≡ u → AllUnordered R (within s x) → AllUnordered R x
    within_unordered s x true p h = unordered_done x p
    within_unordered s x false p h = subst (AllUnordered R) (round s x p) h

    pub unordered_there : (t : Tree E S) → AllUnordered R (trimmed t) → AllUnordered R t
    unordered_there Skip h = h
    unordered_there (Act e) h = h
    unordered_there (Stuck e) h = h
    unordered_there (Seq a b) h =
        let k = seq_unordered (trimmed a) (trimmed b) (is_done a) (is_done b) (done_trimmed a) (done_trimmed b) h in
        (unordered_there a k.0, unordered_there b k.1)
    unordered_there (Par a b) h =
        let k = par_unordered (trimmed a) (trimmed b) (is_done a) (is_done b) (done_trimmed a) (done_trimmed b) h in (
          unordered_there a k.0,
          unordered_there b k.1,
          events_there (λ e. AllEvents (R e) b) a
              (events_map (λ e. AllEvents (R e) (trimmed b)) (λ e. AllEvents (R e) b) (λ e l. events_there (R e) b l) (trimmed a) k.2),
        )
    unordered_there (Within s a) h = unordered_there a (within_unordered s (trimmed a) (is_done a) (done_trimmed a) h)

  -- ---- scopes

  -- a scope stands round an event, so its part isn't done
  pub has_event : (t : Tree E S) → IsFull t → (x : S) → HasScope t x → is_done t ≡ false
  has_event Skip f x h = absurd h
  has_event (Act e) f x h = absurd h
  has_event (Stuck e) f x h = absurd h
  has_event (Seq a b) f x (inl h) = let p = has_event a f.0 x h in rw p refl
  has_event (Seq a b) f x (inr h) = second (is_done a) (is_done b) (has_event b f.1 x h)
    where
      second : (u v : Bool) → v ≡ false → (if u then v else false) ≡ false
      second true v p = p
      second false v p = refl
  has_event (Par a b) f x (inl h) = let p = has_event a f.0 x h in rw p refl
  has_event (Par a b) f x (inr h) = second (is_done a) (is_done b) (has_event b f.1 x h)
    where
      second : (u v : Bool) → v ≡ false → (if u then v else false) ≡ false
      second true v p = p
      second false v p = refl
  has_event (Within s a) f x h = f.0

  -- what holds of a part that isn't done holds of the form
  module _ (P : Tree E S → Type 0) where
    in_seq : (x y : Tree E S) (v : Bool) → is_done x ≡ false → is_done y ≡ v → P x → (P x → P (Seq x y)) → P (seq x y)
    in_seq x y true p q h f = subst P (sym (next_done x y p q)) h
    in_seq x y false p q h f = subst P (sym (none_done x y p q)) (f h)

    in_seq_next : (x y : Tree E S) (u : Bool) → is_done x ≡ u → is_done y ≡ false → P y → (P y → P (Seq x y)) → P (seq x y)
    in_seq_next x y true p q h f = subst P (sym (first_done x y p)) h
    in_seq_next x y false p q h f = subst P (sym (none_done x y p q)) (f h)

    in_par : (x y : Tree E S) (v : Bool) → is_done x ≡ false → is_done y ≡ v → P x → (P x → P (Par x y)) → P (par x y)
    in_par x y true p q h f = subst P (sym (right_done x y p q)) h
    in_par x y false p q h f = subst P (sym (neither_done x y p q)) (f h)

    in_par_next : (x y : Tree E S) (u : Bool) → is_done x ≡ u → is_done y ≡ false → P y → (P y → P (Par x y)) → P (par x y)
    in_par_next x y true p q h f = subst P (sym (left_done x y p)) h
    in_par_next x y false p q h f = subst P (sym (neither_done x y p q)) (f h)

  gone : (t : Tree E S) → is_done t ≡ false → is_done (trimmed t) ≡ false
  gone t p = done_trimmed t ∙ p

  pub has_trimmed : (t : Tree E S) → IsFull t → (x : S) → HasScope t x → HasScope (trimmed t) x
  has_trimmed Skip f x h = absurd h
  has_trimmed (Act e) f x h = absurd h
  has_trimmed (Stuck e) f x h = absurd h
  has_trimmed (Seq a b) f x (inl h) =
      in_seq (λ t. HasScope t x) (trimmed a) (trimmed b) (is_done b) (gone a (has_event a f.0 x h)) (done_trimmed b) (has_trimmed a f.0 x h) (λ k. inl k)
  has_trimmed (Seq a b) f x (inr h) =
      in_seq_next (λ t. HasScope t x) (trimmed a) (trimmed b) (is_done a) (done_trimmed a) (gone b (has_event b f.1 x h)) (has_trimmed b f.1 x h) (λ k. inr k)
  has_trimmed (Par a b) f x (inl h) =
      in_par (λ t. HasScope t x) (trimmed a) (trimmed b) (is_done b) (gone a (has_event a f.0 x h)) (done_trimmed b) (has_trimmed a f.0 x h) (λ k. inl k)
  has_trimmed (Par a b) f x (inr h) =
      in_par_next (λ t. HasScope t x) (trimmed a) (trimmed b) (is_done a) (done_trimmed a) (gone b (has_event b f.1 x h)) (has_trimmed b f.1 x h) (λ k. inr k)
  has_trimmed (Within s a) f x (inl e) = subst (λ t. HasScope t x) (sym (round s (trimmed a) (gone a f.0))) (inl e)
  has_trimmed (Within s a) f x (inr h) = subst (λ t. HasScope t x) (sym (round s (trimmed a) (gone a f.0))) (inr (has_trimmed a f.1 x h))

  pub together_has : (t : Tree E S) (x y : S) → AreTogether t x y → HasScope t x
  together_has Skip x y h = absurd h
  together_has (Act e) x y h = absurd h
  together_has (Stuck e) x y h = absurd h
  together_has (Seq a b) x y (inl h) = inl (together_has a x y h)
  together_has (Seq a b) x y (inr h) = inr (together_has b x y h)
  together_has (Par a b) x y (inl (inl h)) = inl (together_has a x y h)
  together_has (Par a b) x y (inl (inr h)) = inr (together_has b x y h)
  together_has (Par a b) x y (inr (inl h)) = inl h.0
  together_has (Par a b) x y (inr (inr h)) = inr h.0
  together_has (Within s a) x y (inl h) = inl h.0
  together_has (Within s a) x y (inr (inl h)) = inl h.0
  together_has (Within s a) x y (inr (inr (inl h))) = inr h.0
  together_has (Within s a) x y (inr (inr (inr h))) = inr (together_has a x y h)

  -- a scope in each part
  two_parts : (a b : Tree E S) (x y : S) → IsFull a → IsFull b → HasScope a x → HasScope b y → par (trimmed a) (trimmed b) ≡ Par (trimmed a) (trimmed b)
  two_parts a b x y f g h k = neither_done (trimmed a) (trimmed b) (gone a (has_event a f x h)) (gone b (has_event b g y k))

  pub together_trimmed : (t : Tree E S) → IsFull t → (x y : S) → AreTogether t x y → AreTogether (trimmed t) x y
  together_trimmed Skip f x y h = absurd h
  together_trimmed (Act e) f x y h = absurd h
  together_trimmed (Stuck e) f x y h = absurd h
  together_trimmed (Seq a b) f x y (inl h) =
      in_seq (λ t. AreTogether t x y) (trimmed a) (trimmed b) (is_done b) (gone a (has_event a f.0 x (together_has a x y h))) (done_trimmed b)
      (together_trimmed a f.0 x y h) (λ k. inl k)
  together_trimmed (Seq a b) f x y (inr h) =
      in_seq_next (λ t. AreTogether t x y) (trimmed a) (trimmed b) (is_done a) (done_trimmed a) (gone b (has_event b f.1 x (together_has b x y h)))
      (together_trimmed b f.1 x y h) (λ k. inr k)
  together_trimmed (Par a b) f x y (inl (inl h)) =
      in_par (λ t. AreTogether t x y) (trimmed a) (trimmed b) (is_done b) (gone a (has_event a f.0 x (together_has a x y h))) (done_trimmed b)
      (together_trimmed a f.0 x y h) (λ k. inl (inl k))
  together_trimmed (Par a b) f x y (inl (inr h)) =
      in_par_next (λ t. AreTogether t x y) (trimmed a) (trimmed b) (is_done a) (done_trimmed a) (gone b (has_event b f.1 x (together_has b x y h)))
      (together_trimmed b f.1 x y h) (λ k. inl (inr k))
  together_trimmed (Par a b) f x y (inr (inl h)) =
      subst (λ t. AreTogether t x y) (sym (two_parts a b x y f.0 f.1 h.0 h.1)) (inr (inl (has_trimmed a f.0 x h.0, has_trimmed b f.1 y h.1)))
  together_trimmed (Par a b) f x y (inr (inr h)) =
      subst (λ t. AreTogether t x y) (sym (two_parts a b y x f.0 f.1 h.1 h.0)) (inr (inr (has_trimmed b f.1 x h.0, has_trimmed a f.0 y h.1)))
  together_trimmed (Within s a) f x y (inl h) = subst (λ t. AreTogether t x y) (sym (round s (trimmed a) (gone a f.0))) (inl h)
  together_trimmed (Within s a) f x y (inr (inl h)) =
      subst (λ t. AreTogether t x y) (sym (round s (trimmed a) (gone a f.0))) (inr (inl (h.0, has_trimmed a f.1 y h.1)))
  together_trimmed (Within s a) f x y (inr (inr (inl h))) =
      subst (λ t. AreTogether t x y) (sym (round s (trimmed a) (gone a f.0))) (inr (inr (inl (has_trimmed a f.1 x h.0, h.1))))
  together_trimmed (Within s a) f x y (inr (inr (inr h))) =
      subst (λ t. AreTogether t x y) (sym (round s (trimmed a) (gone a f.0))) (inr (inr (inr (together_trimmed a f.1 x y h))))
