-- What is grouped to the right is the same as before: which parts are done, which events are ready, what is left.
use Rattle.std.proofs.Common.{◌≡◌, ℕ, zero, suc, ◌+◌, ◌-◌, ◌<◌, ◌≤◌, Bool, true, false, List, [], ◌∷◌, ◌++◌, Option, Some, None, refl, sym, ap, ◌∙◌, subst, arith, append_assoc}
use Rattle.std.specs.Prelude.{nat_lt, if◌then◌else◌}
use Rattle.std.proofs.lemmas.Bool.{ltb-true, ltb-false, lt-ltb, le-ltb}
use Rattle.sq_ir.specs.Tree.{Tree, Skip, Act, Stuck, Seq, Par, Within, is_done, seq, par, within, ready, event_at, rest_at, IsNormal}
use Rattle.sq_ir.specs.Scopes.{Turn, open_scopes, after_turns}
use Rattle.sq_ir.proofs.Normal.{normal-done, normal-rest}
use Rattle.sq_written_laws.specs.Alike.{seq_right, par_right, straight, AreAlike, RunAlike, AlikeRunAlike}

-- ---- truth values

pub and_assoc : (x y z : Bool) → (if (if x then y else false) then z else false) ≡ (if x then (if y then z else false) else false)
and_assoc true y z = refl
and_assoc false y z = refl

pub if_if : {X : Type 0} (x y : Bool) (p q r : X) → (if (if x then y else false) then p else (if x then q else r)) ≡ (if x then (if y then p else q) else r)
if_if true y p q r = refl
if_if false y p q r = refl

module _ {E S : Type 0} where
  -- ---- what is done

  pub seq_done : (a b : Tree E S) → is_done (seq_right a b) ≡ (if is_done a then is_done b else false)
  seq_done Skip b = refl
  seq_done (Act e) b = refl
  seq_done (Stuck e) b = refl
  seq_done (Seq x y) b = ap (λ v. if is_done x then v else false) (seq_done y b) ∙ sym (and_assoc (is_done x) (is_done y) (is_done b))
  seq_done (Par x y) b = refl
  seq_done (Within s x) b = refl

  pub par_done : (a b : Tree E S) → is_done (par_right a b) ≡ (if is_done a then is_done b else false)
  par_done Skip b = refl
  par_done (Act e) b = refl
  par_done (Stuck e) b = refl
  par_done (Seq x y) b = refl
  par_done (Par x y) b = ap (λ v. if is_done x then v else false) (par_done y b) ∙ sym (and_assoc (is_done x) (is_done y) (is_done b))
  par_done (Within s x) b = refl

  pub straight_done : (t : Tree E S) → is_done (straight t) ≡ is_done t
  straight_done Skip = refl
  straight_done (Act e) = refl
  straight_done (Stuck e) = refl
  straight_done (Seq a b) = seq_done (straight a) (straight b) ∙ ap (λ v. if v then is_done (straight b) else false) (straight_done a) ∙ ap (λ v. if is_done a then v else false) (straight_done b)
  straight_done (Par a b) = par_done (straight a) (straight b) ∙ ap (λ v. if v then is_done (straight b) else false) (straight_done a) ∙ ap (λ v. if is_done a then v else false) (straight_done b)
  straight_done (Within s a) = straight_done a

  -- ---- grouping twice

  pub seq_twice : (a b c : Tree E S) → seq_right (seq_right a b) c ≡ seq_right a (seq_right b c)
  seq_twice Skip b c = refl
  seq_twice (Act e) b c = refl
  seq_twice (Stuck e) b c = refl
  seq_twice (Seq x y) b c = ap (Seq x) (seq_twice y b c)
  seq_twice (Par x y) b c = refl
  seq_twice (Within s x) b c = refl

  pub par_twice : (a b c : Tree E S) → par_right (par_right a b) c ≡ par_right a (par_right b c)
  par_twice Skip b c = refl
  par_twice (Act e) b c = refl
  par_twice (Stuck e) b c = refl
  par_twice (Seq x y) b c = refl
  par_twice (Par x y) b c = ap (Par x) (par_twice y b c)
  par_twice (Within s x) b c = refl

  -- ---- the forms that leave out what is done

  abbrev pub seq_of_two : Tree E S → Tree E S → Tree E S
  seq_of_two a b = if is_done a then b else (if is_done b then a else seq_right a b)

  abbrev pub par_of_two : Tree E S → Tree E S → Tree E S
  par_of_two a b = if is_done a then b else (if is_done b then a else par_right a b)

  pub straight_if : (v : Bool) (a b : Tree E S) → straight (if v then a else b) ≡ (if v then straight a else straight b)
  straight_if true a b = refl
  straight_if false a b = refl

  flags : (f : Tree E S → Tree E S → Tree E S) (a b : Tree E S) → (if is_done a then straight b else (if is_done b then straight a else f (straight a) (straight b)))
      ≡ (if is_done (straight a) then straight b else (if is_done (straight b) then straight a else f (straight a) (straight b)))
  flags f a b = ap (λ v. if v then straight b else (if is_done b then straight a else f (straight a) (straight b))) (sym (straight_done a))
      ∙ ap (λ v. if is_done (straight a) then straight b else (if v then straight a else f (straight a) (straight b))) (sym (straight_done b))

  pub straight_seq : (a b : Tree E S) → straight (seq a b) ≡ seq_of_two (straight a) (straight b)
  straight_seq a b = straight_if (is_done a) b (if is_done b then a else Seq a b)
      ∙ ap (λ t. if is_done a then straight b else t) (straight_if (is_done b) a (Seq a b)) ∙ flags seq_right a b

  pub straight_par : (a b : Tree E S) → straight (par a b) ≡ par_of_two (straight a) (straight b)
  straight_par a b = straight_if (is_done a) b (if is_done b then a else Par a b)
      ∙ ap (λ t. if is_done a then straight b else t) (straight_if (is_done b) a (Par a b)) ∙ flags par_right a b

  pub straight_within : (s : S) (a : Tree E S) → straight (within s a) ≡ (if is_done (straight a) then Skip else Within s (straight a))
  straight_within s a = straight_if (is_done a) Skip (Within s a) ∙ ap (λ v. if v then Skip else Within s (straight a)) (sym (straight_done a))

  -- ---- the parts of trees that are alike

  pub alike_seq : (a b c d : Tree E S) → AreAlike a c → AreAlike b d → AreAlike (seq a b) (seq c d)
  alike_seq a b c d h k = straight_seq a b ∙ ap (λ x. seq_of_two x (straight b)) h ∙ ap (seq_of_two (straight c)) k ∙ sym (straight_seq c d)

  pub alike_par : (a b c d : Tree E S) → AreAlike a c → AreAlike b d → AreAlike (par a b) (par c d)
  alike_par a b c d h k = straight_par a b ∙ ap (λ x. par_of_two x (straight b)) h ∙ ap (par_of_two (straight c)) k ∙ sym (straight_par c d)

  pub alike_within : (s : S) (a c : Tree E S) → AreAlike a c → AreAlike (within s a) (within s c)
  alike_within s a c h = straight_within s a ∙ ap (λ x. if is_done x then Skip else Within s x) h ∙ sym (straight_within s c)

  -- ---- groups

  pub two_assoc : (f : Tree E S → Tree E S → Tree E S) → ((a b c : Tree E S) → f (f a b) c ≡ f a (f b c)) → ((a b : Tree E S) → is_done (f a b) ≡ (if is_done a then is_done b else false))
      → (a b c : Tree E S) → (if is_done (if is_done a then b else (if is_done b then a else f a b)) then c else (if is_done c then (if is_done a then b else (if is_done b then a else f a b)) else f (if is_done a then b else (if is_done b then a else f a b)) c))
      ≡ (if is_done a then (if is_done b then c else (if is_done c then b else f b c)) else (if is_done (if is_done b then c else (if is_done c then b else f b c)) then a else f a (if is_done b then c else (if is_done c then b else f b c))))
  two_assoc f twice done a b c = by (is_done a) refl (is_done b) refl (is_done c) refl
    where
      by : (u : Bool) → is_done a ≡ u → (v : Bool) → is_done b ≡ v → (w : Bool) → is_done c ≡ w
          → (if is_done (if u then b else (if v then a else f a b)) then c else (if w then (if u then b else (if v then a else f a b)) else f (if u then b else (if v then a else f a b)) c))
          ≡ (if u then (if v then c else (if w then b else f b c)) else (if is_done (if v then c else (if w then b else f b c)) then a else f a (if v then c else (if w then b else f b c))))
      by true p true q w r = ap (λ x. if x then c else (if w then b else f b c)) q
      by true p false q w r = ap (λ x. if x then c else (if w then b else f b c)) q
      by false p true q true r = ap (λ x. if x then c else a) p ∙ ap (λ x. if x then a else f a c) (sym r)
      by false p true q false r = ap (λ x. if x then c else f a c) p ∙ ap (λ x. if x then a else f a c) (sym r)
      by false p false q true r = ap (λ x. if x then c else f a b) (done a b ∙ ap (λ x. if x then is_done b else false) p) ∙ ap (λ x. if x then a else f a b) (sym q)
      by false p false q false r =
          ap (λ x. if x then c else f (f a b) c) (done a b ∙ ap (λ x. if x then is_done b else false) p) ∙ twice a b c
          ∙ ap (λ x. if x then a else f a (f b c)) (sym (done b c ∙ ap (λ x. if x then is_done c else false) q))

  pub seq_groups : (a b c : Tree E S) → AreAlike (seq (seq a b) c) (seq a (seq b c))
  seq_groups a b c =
      straight_seq (seq a b) c ∙ ap (λ x. seq_of_two x (straight c)) (straight_seq a b)
      ∙ two_assoc seq_right seq_twice seq_done (straight a) (straight b) (straight c)
      ∙ ap (seq_of_two (straight a)) (sym (straight_seq b c)) ∙ sym (straight_seq a (seq b c))

  pub par_groups : (a b c : Tree E S) → AreAlike (par (par a b) c) (par a (par b c))
  par_groups a b c =
      straight_par (par a b) c ∙ ap (λ x. par_of_two x (straight c)) (straight_par a b)
      ∙ two_assoc par_right par_twice par_done (straight a) (straight b) (straight c)
      ∙ ap (par_of_two (straight a)) (sym (straight_par b c)) ∙ sym (straight_par a (par b c))

  -- ---- what is normal stays so

  normal_seq : (a b : Tree E S) → IsNormal a → is_done a ≡ false → IsNormal b → is_done b ≡ false → IsNormal (seq_right a b)
  normal_seq Skip b n p m q = (n, m, p, q)
  normal_seq (Act e) b n p m q = (n, m, p, q)
  normal_seq (Stuck e) b n p m q = (n, m, p, q)
  normal_seq (Seq x y) b n p m q = (n.0, normal_seq y b n.1 n.3 m q, n.2, seq_done y b ∙ ap (λ v. if v then is_done b else false) n.3)
  normal_seq (Par x y) b n p m q = (n, m, p, q)
  normal_seq (Within s x) b n p m q = (n, m, p, q)

  normal_par : (a b : Tree E S) → IsNormal a → is_done a ≡ false → IsNormal b → is_done b ≡ false → IsNormal (par_right a b)
  normal_par Skip b n p m q = (n, m, p, q)
  normal_par (Act e) b n p m q = (n, m, p, q)
  normal_par (Stuck e) b n p m q = (n, m, p, q)
  normal_par (Seq x y) b n p m q = (n, m, p, q)
  normal_par (Par x y) b n p m q = (n.0, normal_par y b n.1 n.3 m q, n.2, par_done y b ∙ ap (λ v. if v then is_done b else false) n.3)
  normal_par (Within s x) b n p m q = (n, m, p, q)

  pub straight_normal : (t : Tree E S) → IsNormal t → IsNormal (straight t)
  straight_normal Skip n = tt
  straight_normal (Act e) n = tt
  straight_normal (Stuck e) n = tt
  straight_normal (Seq a b) n = normal_seq (straight a) (straight b) (straight_normal a n.0) (straight_done a ∙ n.2) (straight_normal b n.1) (straight_done b ∙ n.3)
  straight_normal (Par a b) n = normal_par (straight a) (straight b) (straight_normal a n.0) (straight_done a ∙ n.2) (straight_normal b n.1) (straight_done b ∙ n.3)
  straight_normal (Within s a) n = (straight_normal a n.0, straight_done a ∙ n.1)

  -- ---- grouped to the right already

  pub again_seq : (a b : Tree E S) → straight (seq_right a b) ≡ seq_right (straight a) (straight b)
  again_seq Skip b = refl
  again_seq (Act e) b = refl
  again_seq (Stuck e) b = refl
  again_seq (Seq x y) b = ap (seq_right (straight x)) (again_seq y b) ∙ sym (seq_twice (straight x) (straight y) (straight b))
  again_seq (Par x y) b = refl
  again_seq (Within s x) b = refl

  pub again_par : (a b : Tree E S) → straight (par_right a b) ≡ par_right (straight a) (straight b)
  again_par Skip b = refl
  again_par (Act e) b = refl
  again_par (Stuck e) b = refl
  again_par (Seq x y) b = refl
  again_par (Par x y) b = ap (par_right (straight x)) (again_par y b) ∙ sym (par_twice (straight x) (straight y) (straight b))
  again_par (Within s x) b = refl

  pub straight_again : (t : Tree E S) → straight (straight t) ≡ straight t
  straight_again Skip = refl
  straight_again (Act e) = refl
  straight_again (Stuck e) = refl
  straight_again (Seq a b) = again_seq (straight a) (straight b) ∙ ap (λ x. seq_right x (straight (straight b))) (straight_again a) ∙ ap (seq_right (straight a)) (straight_again b)
  straight_again (Par a b) = again_par (straight a) (straight b) ∙ ap (λ x. par_right x (straight (straight b))) (straight_again a) ∙ ap (par_right (straight a)) (straight_again b)
  straight_again (Within s a) = ap (Within s) (straight_again a)
