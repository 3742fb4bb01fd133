-- Iterations that don't touch one another, in any lanes: each sees the start, and the least trap is that of the least
-- iteration.
use Rattle.std.proofs.Common.{◌≡◌, ◌≢◌, ℕ, zero, suc, ◌<◌, ◌≤◌, Bool, true, false, ◌||◌, eqb, ltb, Option, Some, None}
use Rattle.std.proofs.Common.{refl, sym, ap, ap₂, ◌∙◌, subst, arith, List, [], ◌∷◌, ◌++◌, ⊎_elim, lt-ltb, ltb-true}
use Rattle.std.proofs.Common.{le-ltb, eqb-true, eq-eqb}
use Rattle.std.proofs.lemmas.Bool.Decides.{nat_tests}
use Rattle.std.specs.Prelude.{if◌then◌else◌}
use Rattle.sq_cells.specs.Cells.{State}
use Rattle.sq_ir.specs.Runs.{least}
use Rattle.sq_ir.specs.Rect.Paths.{is_before}
use Rattle.sq_cells.specs.Tree.{Trap, Tree, Empty, Seq, After, go_on, run}
use Rattle.sq_cells.specs.Work.{first_of, first_trap}
use Rattle.sq_cells.specs.Lowered.{pick, beside, turns}
use Rattle.sq_cells.proofs.Access.{end_or_below}

-- paths with one front part go by the number behind it
less_true : (p : List ℕ) (t u : ℕ) (r r' : List ℕ) → t < u → is_before (p ++ t ∷ r) (p ++ u ∷ r') ≡ true
less_true [] t u r r' lt = grind (arith, nat_tests)
less_true (x ∷ p) t u r r' lt = let h = less_true p t u r r' lt in grind (arith, nat_tests)

less_false : (p : List ℕ) (t u : ℕ) (r r' : List ℕ) → u < t → is_before (p ++ t ∷ r) (p ++ u ∷ r') ≡ false
less_false [] t u r r' lt = grind (arith, nat_tests)
less_false (x ∷ p) t u r r' lt = let h = less_false p t u r r' lt in grind (arith, nat_tests)

-- a trap of iteration t, below a front part
pub record IsOf (path : List ℕ) (t : ℕ) (x : Trap) : Type 0 where
  pub rest : List ℕ
  pub is : x.path ≡ path ++ t ∷ rest

module _ (path : List ℕ) where
  least_later : (t u : ℕ) (x y : Trap) → IsOf path t x → IsOf path u y → u < t → least (Some x) (Some y) ≡ Some y
  least_later t u x y p q lt = let e : is_before y.path x.path ≡ true = ap₂ is_before q.is p.is
      ∙ less_true path u t q.rest p.rest lt in rw e refl

  least_sooner : (t u : ℕ) (x y : Trap) → IsOf path t x → IsOf path u y → t < u → least (Some x) (Some y) ≡ Some x
  least_sooner t u x y p q lt = let e : is_before y.path x.path ≡ false = ap₂ is_before q.is p.is
      ∙ less_false path u t q.rest p.rest lt in rw e refl

  -- the first trap is of one of the iterations
  first_is : (n : ℕ) (f : ℕ → Option Trap) → ((t : ℕ) (x : Trap) → f t ≡ Some x → IsOf path t x) → (x : Trap)
      → first_trap n f ≡ Some x → (t : ℕ) × (t < n) × IsOf path t x
  first_is zero f each x e = cc
  first_is (suc n) f each x e = go (first_trap n f) refl (λ e'. first_is n f each x e')
    where
      go : (o : Option Trap) → first_trap n f ≡ o → (first_trap n f ≡ Some x → (t : ℕ) × (t < n) × IsOf path t x)
          → (t : ℕ) × (t < suc n) × IsOf path t x
      go None e' rec = let z : f n ≡ Some x
          = subst (λ o. first_of o (f n) ≡ Some x) e' e in (n, omega arith, each n x z)
      go (Some y) e' rec = let z : Some y ≡ Some x = subst (λ o. first_of o (f n) ≡ Some x) e' e in let h
          = rec (e' ∙ z) in (h.0, omega (arith, h.1), h.2)

  -- one more iteration, of the first lane or of the second
  more_left : (n : ℕ) (a b z : Option Trap) → ((x : Trap) → b ≡ Some x → (t : ℕ) × (t < n) × IsOf path t x)
      → ((x : Trap) → z ≡ Some x → IsOf path n x) → least (first_of a z) b ≡ first_of (least a b) z
  more_left n None None None hb hz = refl
  more_left n None None (Some z) hb hz = refl
  more_left n None (Some y) None hb hz = refl
  more_left n None (Some y) (Some z) hb hz = let h = hb y refl in least_later n h.0 z y (hz z refl) h.2 h.1
  more_left n (Some x) None None hb hz = refl
  more_left n (Some x) None (Some z) hb hz = refl
  more_left n (Some x) (Some y) z hb hz = some_first x y z (is_before y.path x.path)
    where
      some_first : (x y : Trap) (z : Option Trap) (b : Bool) → (if b then Some y else Some x)
          ≡ first_of (if b then Some y else Some x) z
      some_first x y z true = refl
      some_first x y z false = refl

  more_right : (n : ℕ) (a b z : Option Trap) → ((x : Trap) → a ≡ Some x → (t : ℕ) × (t < n) × IsOf path t x)
      → ((x : Trap) → z ≡ Some x → IsOf path n x) → least a (first_of b z) ≡ first_of (least a b) z
  more_right n None None None ha hz = refl
  more_right n None None (Some z) ha hz = refl
  more_right n None (Some y) z ha hz = refl
  more_right n (Some x) None None ha hz = refl
  more_right n (Some x) None (Some z) ha hz = let h = ha x refl in least_sooner h.0 n x z h.2 (hz z refl) h.1
  more_right n (Some x) (Some y) z ha hz = some_first x y z (is_before y.path x.path)
    where
      some_first : (x y : Trap) (z : Option Trap) (b : Bool) → (if b then Some y else Some x)
          ≡ first_of (if b then Some y else Some x) z
      some_first x y z true = refl
      some_first x y z false = refl

  abbrev pub only : (ℕ → Bool) → (ℕ → Option Trap) → ℕ → Option Trap
  only q f t = pick (q t) (f t) None

  only_is : (q : ℕ → Bool) (f : ℕ → Option Trap) → ((t : ℕ) (x : Trap) → f t ≡ Some x → IsOf path t x)
      → (t : ℕ) (x : Trap) → only q f t ≡ Some x → IsOf path t x
  only_is q f each t x e = go (q t) e
    where
      go : (b : Bool) → pick b (f t) None ≡ Some x → IsOf path t x
      go true e = each t x e
      go false e = cc

  first_none : (o : Option Trap) → first_of o None ≡ o
  first_none None = refl
  first_none (Some x) = refl

  step_lanes : (n : ℕ) (a b c z : Option Trap) (d e : Bool) → least a b ≡ c → (d ≡ true → e ≡ true → ⊥)
      → ((x : Trap) → a ≡ Some x → (t : ℕ) × (t < n) × IsOf path t x)
      → ((x : Trap) → b ≡ Some x → (t : ℕ) × (t < n) × IsOf path t x) → ((x : Trap) → z ≡ Some x → IsOf path n x)
      → least (first_of a (pick d z None)) (first_of b (pick e z None)) ≡ first_of c (pick (d || e) z None)
  step_lanes n a b c z true true ih bar ha hb hz = absurd (bar refl refl)
  step_lanes n a b c z true false ih bar ha hb hz = ap (least (first_of a z)) (first_none b) ∙ more_left n a b z hb hz
      ∙ ap (λ o. first_of o z) ih
  step_lanes n a b c z false true ih bar ha hb hz = ap (λ o. least o (first_of b z)) (first_none a)
      ∙ more_right n a b z ha hz ∙ ap (λ o. first_of o z) ih
  step_lanes n a b c z false false ih bar ha hb hz = ap₂ least (first_none a) (first_none b) ∙ ih ∙ sym (first_none c)

  -- two lanes
  two_lanes : (n : ℕ) (q r : ℕ → Bool) (f : ℕ → Option Trap) → ((t : ℕ) (x : Trap) → f t ≡ Some x → IsOf path t x)
      → ((t : ℕ) → q t ≡ true → r t ≡ true → ⊥) → least (first_trap n (only q f)) (first_trap n (only r f))
      ≡ first_trap n (only (λ t. q t || r t) f)
  two_lanes zero q r f each bar = refl
  two_lanes (suc n) q r f each bar =
      step_lanes n (first_trap n (only q f)) (first_trap n (only r f)) (first_trap n (only (λ t. q t || r t) f)) (f n)
      (q n) (r n) (two_lanes n q r f each bar) (bar n) (first_is n (only q f) (only_is q f each))
      (first_is n (only r f) (only_is r f each)) (each n)

  abbrev pub leasts : ℕ → (ℕ → Option Trap) → Option Trap
  leasts zero f = None
  leasts (suc n) f = least (leasts n f) (f n)

  pub first_same : (n : ℕ) (f g : ℕ → Option Trap) → ((t : ℕ) → t < n → f t ≡ g t) → first_trap n f ≡ first_trap n g
  first_same zero f g h = refl
  first_same (suc n) f g h = ap₂ first_of (first_same n f g (λ t lt. h t (omega arith))) (h n (omega arith))

  pub first_of_none : (n : ℕ) (f : ℕ → Option Trap) → ((t : ℕ) → t < n → f t ≡ None) → first_trap n f ≡ None
  first_of_none zero f h = refl
  first_of_none (suc n) f h = let a
      = first_of_none n f (λ t lt. h t (omega arith)) in ap₂ first_of a (h n (omega arith))

  -- all lanes below c
  many_lanes : (n c : ℕ) (lane : ℕ → ℕ) (f : ℕ → Option Trap) → ((t : ℕ) (x : Trap) → f t ≡ Some x → IsOf path t x)
      → leasts c (λ d. first_trap n (only (λ t. eqb (lane t) d) f)) ≡ first_trap n (only (λ t. ltb (lane t) c) f)
  many_lanes n zero lane f each = sym (first_of_none n (only (λ t. ltb (lane t) 0) f) (λ t lt. none t))
    where
      none : (t : ℕ) → only (λ t. ltb (lane t) 0) f t ≡ None
      none t = let e : ltb (lane t) 0 ≡ false = le-ltb (lane t) 0 (omega arith) in rw e refl
  many_lanes n (suc c) lane f each =
      ap (λ o. least o (first_trap n (only (λ t. eqb (lane t) c) f))) (many_lanes n c lane f each)
      ∙ two_lanes n (λ t. ltb (lane t) c) (λ t. eqb (lane t) c) f each
      (λ t a b. never t (ltb-true (lane t) c a) (eqb-true (lane t) c b))
      ∙ first_same n _ _ (λ t lt. ap (λ b. pick b (f t) None) (both t))
    where
      never : (t : ℕ) → lane t < c → lane t ≡ c → ⊥
      never t a b = omega arith

      both : (t : ℕ) → (ltb (lane t) c || eqb (lane t) c) ≡ ltb (lane t) (suc c)
      both t = grind (arith, nat_tests)

  -- where each iteration has a lane, the least trap of all lanes is the first iteration's
  pub all_lanes : (n c : ℕ) (lane : ℕ → ℕ) (f : ℕ → Option Trap) → ((t : ℕ) (x : Trap) → f t ≡ Some x → IsOf path t x)
      → ((t : ℕ) → t < n → lane t < c) → leasts c (λ d. first_trap n (only (λ t. eqb (lane t) d) f)) ≡ first_trap n f
  all_lanes n c lane f each lt = many_lanes n c lane f each
      ∙ first_same n _ _ (λ t h. let e : ltb (lane t) c ≡ true = lt-ltb (lane t) c (lt t h) in rw e refl)

-- a trap keeps its sequence from going on
pub go_keeps : (R : State → Type 0) (o : Option Trap) (m : State) (next : State → After) → R m
    → ((m' : State) → R m' → R (next m').mem) → R (go_on o m next).mem
go_keeps R None m next r h = h m r
go_keeps R (Some x) m next r h = r

pub turns_keep : (R : State → Type 0) (q : ℕ → Bool) (n : ℕ) (g : ℕ → Tree)
    → ((t : ℕ) → t < n → q t ≡ true → (m : State) → R m → R (run (g t) m).mem) → (m : State) → R m
    → R (run (turns q n g) m).mem
turns_keep R q zero g h m r = r
turns_keep R q (suc n) g h m r =
    go_keeps R (run (turns q n g) m).trap (run (turns q n g) m).mem (run (pick (q n) (g n) Empty))
    (turns_keep R q n g (λ t lt. h t (omega arith)) m r) (λ m' r'. last (q n) (h n (omega arith)) m' r')
  where
    last : (b : Bool) → (b ≡ true → (m : State) → R m → R (run (g n) m).mem) → (m : State) → R m
        → R (run (pick b (g n) Empty) m).mem
    last true k m r = k refl m r
    last false k m r = r

pub beside_keep : (R : State → Type 0) (n : ℕ) (g : ℕ → Tree)
    → ((i : ℕ) → i < n → (m : State) → R m → R (run (g i) m).mem) → (m : State) → R m → R (run (beside n g) m).mem
beside_keep R zero g h m r = r
beside_keep R (suc n) g h m r = h n (omega arith) _ (beside_keep R n g (λ i lt. h i (omega arith)) m r)

pub turns_same : (q : ℕ → Bool) (n : ℕ) (f g : ℕ → Tree) → ((t : ℕ) → q t ≡ true → f t ≡ g t) → turns q n f
    ≡ turns q n g
turns_same q zero f g h = refl
turns_same q (suc n) f g h = ap₂ Seq (turns_same q n f g h) (last (q n) (h n))
  where
    last : (b : Bool) → (b ≡ true → f n ≡ g n) → pick b (f n) Empty ≡ pick b (g n) Empty
    last true k = k refl
    last false k = refl

-- iterations that each need a fact, and then give one, and that keep each other's
module _ (path : List ℕ) (n : ℕ) (g : ℕ → Tree) (trap : ℕ → Option Trap) (Before After' : ℕ → State → Type 0)
    (step : (t : ℕ) → t < n → (m : State) → Before t m → ((run (g t) m).trap ≡ trap t)
    × (trap t ≡ None → After' t (run (g t) m).mem))
    (keep_before : (a b : ℕ) → a < n → b < n → a ≢ b → (m : State) → Before b m → Before b (run (g a) m).mem)
    (keep_after : (a b : ℕ) → a < n → b < n → a ≢ b → (m : State) → After' b m → After' b (run (g a) m).mem) where
  abbrev Goes : (ℕ → Bool) → ℕ → After → Type 0
  Goes q j r = (r.trap ≡ first_trap j (only path q trap))
      × (((t : ℕ) → t < j → trap t ≡ None) → (t : ℕ) → t < j → q t ≡ true → After' t r.mem)

  one_more : (q : ℕ → Bool) (j : ℕ) → j < n → (r : After) (o : Option Trap) (b : Bool) → q j ≡ b
      → first_trap j (only path q trap) ≡ o → (q j ≡ true → Before j r.mem) → Goes q j r
      → Goes q (suc j) (go_on r.trap r.mem (run (pick (q j) (g j) Empty)))
  one_more q j lt r (Some x) b e f before h =
      let p : go_on r.trap r.mem (run (pick (q j) (g j) Empty)) ≡ record { mem = r.mem; trap = Some x }
      = ap (λ o. go_on o r.mem (run (pick (q j) (g j) Empty))) (h.0 ∙ f) in
      let z : Some x ≡ first_of (first_trap j (only path q trap)) (only path q trap j)
      = sym (ap (λ o. first_of o (only path q trap j)) f) in
      subst (Goes q (suc j)) (sym p)
      (z, λ all. absurd (never (first_of_none path j (only path q trap) (λ t l. none t (all t (omega arith))))))
    where
      none : (t : ℕ) → trap t ≡ None → only path q trap t ≡ None
      none t e = pick_none (q t) (trap t) e
        where
          pick_none : (b : Bool) (o : Option Trap) → o ≡ None → pick b o None ≡ None
          pick_none true o e = e
          pick_none false o e = refl

      never : first_trap j (only path q trap) ≡ None → ⊥
      never e = cc
  one_more q j lt r None true e f before h =
      let p : go_on r.trap r.mem (run (pick (q j) (g j) Empty)) ≡ run (g j) r.mem
      = ap (λ o. go_on o r.mem (run (pick (q j) (g j) Empty))) (h.0 ∙ f)
      ∙ ap (λ b. run (pick b (g j) Empty) r.mem) e in
      let s = step j lt r.mem (before e) in
      let z : trap j ≡ first_of (first_trap j (only path q trap)) (only path q trap j)
      = sym (ap₂ (λ o b. first_of o (pick b (trap j) None)) f e) in
      subst (Goes q (suc j)) (sym p) (
        s.0 ∙ z,
        λ all t l y. ⊎_elim (λ i. subst (λ u. After' u (run (g j) r.mem).mem) (sym i)
            (s.1 (all j (omega arith)))) (λ i. keep_after j t lt (omega arith) (λ w. never t w i) r.mem
            (h.1 (λ u lu. all u (omega arith)) t i y)) (end_or_below t j l),
      )
    where
      never : (t : ℕ) → j ≡ t → t < j → ⊥
      never t w i = omega arith
  one_more q j lt r None false e f before h =
      let p : go_on r.trap r.mem (run (pick (q j) (g j) Empty)) ≡ record { mem = r.mem; trap = None }
      = ap (λ o. go_on o r.mem (run (pick (q j) (g j) Empty))) (h.0 ∙ f)
      ∙ ap (λ b. run (pick b (g j) Empty) r.mem) e in
      let z : None ≡ first_of (first_trap j (only path q trap)) (only path q trap j)
      = sym (ap₂ (λ o b. first_of o (pick b (trap j) None)) f e) in
      subst (Goes q (suc j)) (sym p) (
        z,
        λ all t l y. ⊎_elim (λ i. absurd (other t i y)) (λ i. h.1 (λ u lu. all u (omega arith)) t i y)
            (end_or_below t j l),
      )
    where
      other : (t : ℕ) → t ≡ j → q t ≡ true → ⊥
      other t i y = let z : q j ≡ true = subst (λ u. q u ≡ true) i y in cc

  -- one lane
  pub lane_goes : (q : ℕ → Bool) (j : ℕ) → j ≤ n → (m : State) → ((t : ℕ) → t < j → q t ≡ true → Before t m)
      → Goes q j (run (turns q j g) m)
  lane_goes q zero le m before = (refl, λ all t l y. absurd (omega arith))
  lane_goes q (suc j) le m before =
      one_more q j (omega arith) (run (turns q j g) m) _ _ refl refl
      (λ y. turns_keep (Before j) q j g
      (λ t l z m' b. keep_before t j (omega arith) (omega arith) (λ w. never t w l) m' b) m (before j (omega arith) y))
      (lane_goes q j (omega arith) m (λ t l y. before t (omega arith) y))
    where
      never : (t : ℕ) → t ≡ j → t < j → ⊥
      never t w l = omega arith

  -- lanes beside one another
  pub lanes_go : (lane : ℕ → ℕ) (c : ℕ) (m : State) → ((t : ℕ) → t < n → Before t m)
      → ((run (beside c (λ d. turns (λ t. eqb (lane t) d) n g)) m).trap
      ≡ leasts path c (λ d. first_trap n (only path (λ t. eqb (lane t) d) trap)))
      × (((t : ℕ) → t < n → trap t ≡ None) → (t : ℕ) → t < n → lane t < c
      → After' t (run (beside c (λ d. turns (λ t. eqb (lane t) d) n g)) m).mem)
  lanes_go lane zero m before = (refl, λ all t l y. absurd (omega arith))
  lanes_go lane (suc c) m before =
      let rec = lanes_go lane c m before in
      let m1 = (run (beside c (λ d. turns (λ t. eqb (lane t) d) n g)) m).mem in
      let last = lane_goes (λ t. eqb (lane t) c) n (omega arith) m1
      (λ t l y. beside_keep (Before t) c (λ d. turns (λ t. eqb (lane t) d) n g)
      (λ d ld m' b. turns_keep (Before t) (λ t. eqb (lane t) d) n g
      (λ u lu z m'' b'. keep_before u t lu l (λ w. other t u d ld (eqb-true (lane t) c y) (eqb-true (lane u) d z) w)
      m'' b') m' b) m (before t l)) in (
        ap₂ least rec.0 last.0,
        λ all t l y. ⊎_elim (λ i. last.1 all t l (eq-eqb (lane t) c i))
            (λ i. turns_keep (After' t) (λ t. eqb (lane t) c) n g
            (λ u lu z m' a. keep_after u t lu l (λ w. later t u i (eqb-true (lane u) c z) w) m' a) m1 (rec.1 all t l i))
            (end_or_below (lane t) c y),
      )
    where
      other : (t u d : ℕ) → d < c → lane t ≡ c → lane u ≡ d → u ≡ t → ⊥
      other t u d lt a b w = let e : lane u ≡ lane t = ap lane w in omega arith

      later : (t u : ℕ) → lane t < c → lane u ≡ c → u ≡ t → ⊥
      later t u lt a w = let e : lane u ≡ lane t = ap lane w in omega arith
