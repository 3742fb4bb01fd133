-- Trees that are alike run alike.
use Rattle.std.proofs.Common.{◌≡◌, ℕ, zero, suc, ◌+◌, ◌-◌, ◌<◌, ◌≤◌, Bool, true, false, List, [], ◌∷◌, ◌++◌, Option, Some, None, refl, sym, ap, ◌∙◌, subst, arith, append_assoc}
use Rattle.std.specs.Prelude.{nat_lt, if◌then◌else◌}
use Rattle.std.proofs.lemmas.Bool.{ltb-true, ltb-false, lt-ltb, le-ltb}
use Rattle.sq_ir.specs.Tree.{Tree, Skip, Act, Stuck, Seq, Par, Within, is_done, seq, par, within, ready, event_at, rest_at, IsNormal}
use Rattle.sq_ir.specs.Scopes.{Turn, open_scopes, after_turns}
use Rattle.sq_ir.proofs.Normal.{normal-rest}
use Rattle.sq_written_laws.specs.Alike.{seq_right, par_right, straight, AreAlike, RunAlike, AlikeRunAlike}
use Rattle.sq_written_laws.proofs.Straight.{straight_if, if_if, seq_done, par_done, straight_done, seq_twice, par_twice, seq_of_two, par_of_two, straight_seq, straight_par, alike_within, two_assoc, again_seq, again_par, straight_again, straight_normal}

-- ---- a number among those of two parts, the second of which has two parts

parts_of_three : {X : Type 0} (k m n : ℕ) (p : X) (q r : ℕ → X)
    → (if nat_lt k m then p else (if nat_lt (k - m) n then q (k - m) else r (k - m - n)))
    ≡ (if nat_lt k (m + n) then (if nat_lt k m then p else q (k - m)) else r (k - (m + n)))
parts_of_three {X} k m n p q r = by (nat_lt k m) refl (nat_lt (k - m) n) refl
  where
    by : (u : Bool) → nat_lt k m ≡ u → (v : Bool) → nat_lt (k - m) n ≡ v
        → (if u then p else (if v then q (k - m) else r (k - m - n))) ≡ (if nat_lt k (m + n) then (if u then p else q (k - m)) else r (k - (m + n)))
    by true e v f =
        let h = ltb-true k m e in
        ap (λ z. if z then p else r (k - (m + n))) (sym (lt-ltb k (m + n) (omega (arith, h))))
    by false e true f =
        let h = ltb-false k m e in
        let g = ltb-true (k - m) n f in
        ap (λ z. if z then q (k - m) else r (k - (m + n))) (sym (lt-ltb k (m + n) (omega (arith, h, g))))
    by false e false f =
        let h = ltb-false k m e in
        let g = ltb-false (k - m) n f in
        let d : k - m - n ≡ k - (m + n) = omega (arith, h, g) in
        ap r d ∙ ap (λ z. if z then q (k - m) else r (k - (m + n))) (sym (le-ltb k (m + n) (omega (arith, h, g))))

module _ {E S : Type 0} where
  -- ---- what a sequence shows is what its first part shows that isn't done

  module _ {X : Type 0} (f : Tree E S → X) (of_seq : (a b : Tree E S) → f (Seq a b) ≡ (if is_done a then f b else f a)) where
    seq_shows : (a b : Tree E S) → f (seq_right a b) ≡ (if is_done a then f b else f a)
    seq_shows Skip b = of_seq Skip b
    seq_shows (Act e) b = of_seq (Act e) b
    seq_shows (Stuck e) b = of_seq (Stuck e) b
    seq_shows (Seq x y) b =
        of_seq x (seq_right y b) ∙ ap (λ v. if is_done x then v else f x) (seq_shows y b)
        ∙ sym (if_if (is_done x) (is_done y) (f b) (f y) (f x)) ∙ ap (λ v. if is_done (Seq x y) then f b else v) (sym (of_seq x y))
    seq_shows (Par x y) b = of_seq (Par x y) b
    seq_shows (Within s x) b = of_seq (Within s x) b

    straight_seq_shows : (a b : Tree E S) → f (straight a) ≡ f a → f (straight b) ≡ f b → f (straight (Seq a b)) ≡ f (Seq a b)
    straight_seq_shows a b h k =
        seq_shows (straight a) (straight b) ∙ ap (λ v. if v then f (straight b) else f (straight a)) (straight_done a)
        ∙ ap (λ v. if is_done a then v else f (straight a)) k ∙ ap (λ v. if is_done a then f b else v) h ∙ sym (of_seq a b)

  -- ---- how many events are ready

  par_ready : (a b : Tree E S) → ready (par_right a b) ≡ ready a + ready b
  par_ready Skip b = refl
  par_ready (Act e) b = refl
  par_ready (Stuck e) b = refl
  par_ready (Seq x y) b = refl
  par_ready (Par x y) b = let h = par_ready y b in omega (arith, h)
  par_ready (Within s x) b = refl

  pub straight_ready : (t : Tree E S) → ready (straight t) ≡ ready t
  straight_ready Skip = refl
  straight_ready (Act e) = refl
  straight_ready (Stuck e) = refl
  straight_ready (Seq a b) = straight_seq_shows ready (λ a b. refl) a b (straight_ready a) (straight_ready b)
  straight_ready (Par a b) = let h = straight_ready a in let k = straight_ready b in par_ready (straight a) (straight b) ∙ ap (λ n. n + ready (straight b)) h ∙ ap (λ n. ready a + n) k
  straight_ready (Within s a) = straight_ready a

  -- ---- which events are ready

  par_event : (a b : Tree E S) (k : ℕ) → event_at (par_right a b) k ≡ (if nat_lt k (ready a) then event_at a k else event_at b (k - ready a))
  par_event Skip b k = refl
  par_event (Act e) b k = refl
  par_event (Stuck e) b k = refl
  par_event (Seq x y) b k = refl
  par_event (Par x y) b k =
      ap (λ v. if nat_lt k (ready x) then event_at x k else v) (par_event y b (k - ready x))
      ∙ parts_of_three k (ready x) (ready y) (event_at x k) (event_at y) (event_at b)
  par_event (Within s x) b k = refl

  pub straight_event : (t : Tree E S) (k : ℕ) → event_at (straight t) k ≡ event_at t k
  straight_event Skip k = refl
  straight_event (Act e) k = refl
  straight_event (Stuck e) k = refl
  straight_event (Seq a b) k = straight_seq_shows (λ t. event_at t k) (λ a b. refl) a b (straight_event a k) (straight_event b k)
  straight_event (Par a b) k =
      par_event (straight a) (straight b) k
      ∙ ap (λ n. if nat_lt k n then event_at (straight a) k else event_at (straight b) (k - n)) (straight_ready a)
      ∙ ap (λ v. if nat_lt k (ready a) then v else event_at (straight b) (k - ready a)) (straight_event a k)
      ∙ ap (λ v. if nat_lt k (ready a) then event_at a k else v) (straight_event b (k - ready a))
  straight_event (Within s a) k = straight_event a k

  -- ---- which scopes are open

  par_open : (a b : Tree E S) → open_scopes (par_right a b) ≡ open_scopes a ++ open_scopes b
  par_open Skip b = refl
  par_open (Act e) b = refl
  par_open (Stuck e) b = refl
  par_open (Seq x y) b = refl
  par_open (Par x y) b = ap (λ l. open_scopes x ++ l) (par_open y b) ∙ sym (append_assoc (open_scopes x) (open_scopes y) (open_scopes b))
  par_open (Within s x) b = refl

  pub straight_open : (t : Tree E S) → open_scopes (straight t) ≡ open_scopes t
  straight_open Skip = refl
  straight_open (Act e) = refl
  straight_open (Stuck e) = refl
  straight_open (Seq a b) = straight_seq_shows open_scopes (λ a b. refl) a b (straight_open a) (straight_open b)
  straight_open (Par a b) = par_open (straight a) (straight b) ∙ ap (λ l. l ++ open_scopes (straight b)) (straight_open a) ∙ ap (λ l. open_scopes a ++ l) (straight_open b)
  straight_open (Within s a) = ap (λ v. if v then [] else s ∷ open_scopes (straight a)) (straight_done a) ∙ ap (λ l. if is_done a then [] else s ∷ l) (straight_open a)

  -- ---- what is left

  two_live : (f : Tree E S → Tree E S → Tree E S) (a b : Tree E S) → is_done a ≡ false → is_done b ≡ false → (if is_done a then b else (if is_done b then a else f a b)) ≡ f a b
  two_live f a b p q = ap (λ v. if v then b else (if is_done b then a else f a b)) p ∙ ap (λ v. if v then a else f a b) q

  seq_three : (a b c : Tree E S) → is_done b ≡ false → is_done c ≡ false → seq_of_two a (seq_right b c) ≡ seq_of_two (seq_of_two a b) c
  seq_three a b c p q = ap (seq_of_two a) (sym (two_live seq_right b c p q)) ∙ sym (two_assoc seq_right seq_twice seq_done a b c)

  par_three : (a b c : Tree E S) → is_done b ≡ false → is_done c ≡ false → par_of_two a (par_right b c) ≡ par_of_two (par_of_two a b) c
  par_three a b c p q = ap (par_of_two a) (sym (two_live par_right b c p q)) ∙ sym (two_assoc par_right par_twice par_done a b c)

  module _ (trapped : Bool) where
    abbrev seq_left : Tree E S → Tree E S → ℕ → Tree E S
    seq_left a b k = if is_done a then straight (rest_at b k trapped) else seq_of_two (straight (rest_at a k trapped)) (straight b)

    plain_seq : (a b : Tree E S) (k : ℕ) → straight (rest_at (Seq a b) k trapped) ≡ seq_left a b k
    plain_seq a b k = straight_if (is_done a) (rest_at b k trapped) (seq (rest_at a k trapped) b)
        ∙ ap (λ t. if is_done a then straight (rest_at b k trapped) else t) (straight_seq (rest_at a k trapped) b)

    seq_rest : (a b : Tree E S) (k : ℕ) → IsNormal a → is_done b ≡ false → straight (rest_at (seq_right a b) k trapped) ≡ seq_left a b k
    seq_rest Skip b k n q = plain_seq Skip b k
    seq_rest (Act e) b k n q = plain_seq (Act e) b k
    seq_rest (Stuck e) b k n q = plain_seq (Stuck e) b k
    seq_rest (Seq x y) b k n q =
        let r = straight (rest_at x k trapped) in
        plain_seq x (seq_right y b) k ∙ ap (λ v. if v then straight (rest_at (seq_right y b) k trapped) else seq_of_two r (straight (seq_right y b))) n.2
        ∙ ap (seq_of_two r) (again_seq y b) ∙ seq_three r (straight y) (straight b) (straight_done y ∙ n.3) (straight_done b ∙ q)
        ∙ ap (λ t. seq_of_two t (straight b)) (sym (plain_seq x y k ∙ ap (λ v. if v then straight (rest_at y k trapped) else seq_of_two r (straight y)) n.2))
        ∙ ap (λ v. if v then straight (rest_at b k trapped) else seq_of_two (straight (rest_at (Seq x y) k trapped)) (straight b)) (sym (ap (λ v. if v then is_done y else false) n.2))
    seq_rest (Par x y) b k n q = plain_seq (Par x y) b k
    seq_rest (Within s x) b k n q = plain_seq (Within s x) b k

    abbrev par_left : Tree E S → Tree E S → ℕ → Tree E S
    par_left a b k = if nat_lt k (ready a) then par_of_two (straight (rest_at a k trapped)) (straight b) else par_of_two (straight a) (straight (rest_at b (k - ready a) trapped))

    plain_par : (a b : Tree E S) (k : ℕ) → straight (rest_at (Par a b) k trapped) ≡ par_left a b k
    plain_par a b k = straight_if (nat_lt k (ready a)) (par (rest_at a k trapped) b) (par a (rest_at b (k - ready a) trapped))
        ∙ ap (λ t. if nat_lt k (ready a) then t else straight (par a (rest_at b (k - ready a) trapped))) (straight_par (rest_at a k trapped) b)
        ∙ ap (λ t. if nat_lt k (ready a) then par_of_two (straight (rest_at a k trapped)) (straight b) else t) (straight_par a (rest_at b (k - ready a) trapped))

    par_rest : (a b : Tree E S) (k : ℕ) → IsNormal a → is_done b ≡ false → straight (rest_at (par_right a b) k trapped) ≡ par_left a b k
    par_rest Skip b k n q = plain_par Skip b k
    par_rest (Act e) b k n q = plain_par (Act e) b k
    par_rest (Stuck e) b k n q = plain_par (Stuck e) b k
    par_rest (Seq x y) b k n q = plain_par (Seq x y) b k
    par_rest (Par x y) b k n q =
        let m = ready x in
        let live_y = straight_done y ∙ n.3 in
        let live_b = straight_done b ∙ q in
        let one = straight (rest_at x k trapped) in
        let two : ℕ → Tree E S = λ j. straight (rest_at y j trapped) in
        let three : ℕ → Tree E S = λ j. straight (rest_at b j trapped) in
        plain_par x (par_right y b) k
        ∙ ap (λ t. if nat_lt k m then par_of_two one t else par_of_two (straight x) (straight (rest_at (par_right y b) (k - m) trapped))) (again_par y b)
        ∙ ap (λ t. if nat_lt k m then t else par_of_two (straight x) (straight (rest_at (par_right y b) (k - m) trapped))) (par_three one (straight y) (straight b) live_y live_b)
        ∙ ap (λ t. if nat_lt k m then par_of_two (par_of_two one (straight y)) (straight b) else par_of_two (straight x) t) (par_rest y b (k - m) n.1 q)
        ∙ ap (λ t. if nat_lt k m then par_of_two (par_of_two one (straight y)) (straight b) else t) (inner (nat_lt (k - m) (ready y)) (two (k - m)) (three (k - m - ready y)) live_y)
        ∙ parts_of_three k m (ready y) (par_of_two (par_of_two one (straight y)) (straight b)) (λ j. par_of_two (par_of_two (straight x) (two j)) (straight b)) (λ j. par_of_two (par_right (straight x) (straight y)) (three j))
        ∙ ap (λ t. if nat_lt k (m + ready y) then t else par_of_two (par_right (straight x) (straight y)) (three (k - (m + ready y)))) (sym (outer (nat_lt k m) (par_of_two one (straight y)) (par_of_two (straight x) (two (k - m)))))
        ∙ ap (λ t. if nat_lt k (m + ready y) then par_of_two t (straight b) else par_of_two (par_right (straight x) (straight y)) (three (k - (m + ready y)))) (sym (plain_par x y k))
      where
        -- what is left of the other two parts, beside the first
        inner : (v : Bool) (t u : Tree E S) → is_done (straight y) ≡ false
            → par_of_two (straight x) (if v then par_of_two t (straight b) else par_of_two (straight y) u)
            ≡ (if v then par_of_two (par_of_two (straight x) t) (straight b) else par_of_two (par_right (straight x) (straight y)) u)
        inner true t u live = sym (two_assoc par_right par_twice par_done (straight x) t (straight b))
        inner false t u live = sym (two_assoc par_right par_twice par_done (straight x) (straight y) u)
            ∙ ap (λ z. par_of_two z u) (two_live par_right (straight x) (straight y) (straight_done x ∙ n.2) live)

        outer : (v : Bool) (t u : Tree E S) → par_of_two (if v then t else u) (straight b) ≡ (if v then par_of_two t (straight b) else par_of_two u (straight b))
        outer true t u = refl
        outer false t u = refl
    par_rest (Within s x) b k n q = plain_par (Within s x) b k

    pub straight_rest : (t : Tree E S) (k : ℕ) → IsNormal t → straight (rest_at (straight t) k trapped) ≡ straight (rest_at t k trapped)
    straight_rest Skip k n = refl
    straight_rest (Act e) k n = refl
    straight_rest (Stuck e) k n = refl
    straight_rest (Seq a b) k n =
        seq_rest (straight a) (straight b) k (straight_normal a n.0) (straight_done b ∙ n.3)
        ∙ ap (λ v. if v then straight (rest_at (straight b) k trapped) else seq_of_two (straight (rest_at (straight a) k trapped)) (straight (straight b))) (straight_done a)
        ∙ ap (λ t. if is_done a then t else seq_of_two (straight (rest_at (straight a) k trapped)) (straight (straight b))) (straight_rest b k n.1)
        ∙ ap (λ t. if is_done a then straight (rest_at b k trapped) else seq_of_two t (straight (straight b))) (straight_rest a k n.0)
        ∙ ap (λ t. if is_done a then straight (rest_at b k trapped) else seq_of_two (straight (rest_at a k trapped)) t) (straight_again b)
        ∙ sym (plain_seq a b k)
    straight_rest (Par a b) k n =
        par_rest (straight a) (straight b) k (straight_normal a n.0) (straight_done b ∙ n.3)
        ∙ ap (λ m. if nat_lt k m then par_of_two (straight (rest_at (straight a) k trapped)) (straight (straight b)) else par_of_two (straight (straight a)) (straight (rest_at (straight b) (k - m) trapped))) (straight_ready a)
        ∙ ap (λ t. if nat_lt k (ready a) then par_of_two t (straight (straight b)) else par_of_two (straight (straight a)) (straight (rest_at (straight b) (k - ready a) trapped))) (straight_rest a k n.0)
        ∙ ap (λ t. if nat_lt k (ready a) then par_of_two (straight (rest_at a k trapped)) t else par_of_two (straight (straight a)) (straight (rest_at (straight b) (k - ready a) trapped))) (straight_again b)
        ∙ ap (λ t. if nat_lt k (ready a) then par_of_two (straight (rest_at a k trapped)) (straight b) else par_of_two t (straight (rest_at (straight b) (k - ready a) trapped))) (straight_again a)
        ∙ ap (λ t. if nat_lt k (ready a) then par_of_two (straight (rest_at a k trapped)) (straight b) else par_of_two (straight a) t) (straight_rest b (k - ready a) n.1)
        ∙ sym (plain_par a b k)
    straight_rest (Within s a) k n = alike_within s (rest_at (straight a) k trapped) (rest_at a k trapped) (straight_rest a k n.0)

  -- ---- whole runs

  pub alike_rest : (t u : Tree E S) (k : ℕ) (trapped : Bool) → IsNormal t → IsNormal u → AreAlike t u → AreAlike (rest_at t k trapped) (rest_at u k trapped)
  alike_rest t u k trapped n m h = sym (straight_rest trapped t k n) ∙ ap (λ x. straight (rest_at x k trapped)) h ∙ straight_rest trapped u k m

  pub alike_shows : {X : Type 0} (f : Tree E S → X) → ((t : Tree E S) → f (straight t) ≡ f t) → (t u : Tree E S) → AreAlike t u → f t ≡ f u
  alike_shows f of t u h = sym (of t) ∙ ap f h ∙ of u

  pub run_alike : (t u : Tree E S) → IsNormal t → IsNormal u → AreAlike t u → (turns : List Turn) → RunAlike t u turns
  run_alike t u n m h [] = record {
    ready_ = alike_shows ready straight_ready t u h;
    event_ = λ k. alike_shows (λ t. event_at t k) (λ t. straight_event t k) t u h;
    scopes = alike_shows open_scopes straight_open t u h;
  }
  run_alike t u n m h (x ∷ xs) =
      let k = run_alike (rest_at t x.number x.trapped) (rest_at u x.number x.trapped) (normal-rest t x.number x.trapped n) (normal-rest u x.number x.trapped m) (alike_rest t u x.number x.trapped n m h) xs in
      record { ready_ = k.ready_; event_ = k.event_; scopes = k.scopes }
