-- What holds of a term's actions where they stand, taken together: two things that are asked of them, and what holds of
-- the events of its tree.
use Rattle.std.proofs.Common.{◌≡◌, ℕ, zero, suc, ◌+◌, ◌*◌, ◌<◌, ◌≤◌, ◌==◌, List, [], ◌∷◌, ◌++◌, map, ℤ, pos}
use Rattle.std.proofs.Common.{negsuc, Bool, true, false, refl, sym, subst, arith, mod-lt, div-lt_iff_lt-mul, mul_comm}
use Rattle.std.proofs.Common.{mul-lt-mul_of_pos_right, if◌then◌else◌}
use Rattle.std.proofs.lemmas.Bool.Decides.{nat_tests}
use Rattle.sq_text.specs.declared.spread.SpreadRule.{SpreadRule}
use Rattle.sq_text.specs.declared.spread.SpreadRule.TheVariants.{Cyclic, Blocked}
use Rattle.sq_text.specs.Spreading.{child_of}
use Rattle.sq_ir.specs.declared.term.Action.{Action}
use Rattle.sq_ir.specs.declared.term.Term.{Term, roll-Term}
use Rattle.sq_ir.specs.declared.term.Term.TheVariants as t
use Rattle.sq_ir.specs.declared.term.Term.TheOpen.{Term-F}
use Rattle.sq_ir.specs.declared.term.Term.TheFolds.{ind-Term, map-Term}
use Rattle.sq_ir.specs.Tree.{Skip, Act, Stuck, Seq, Par, Within, is_done, seq, par, within}
use Rattle.sq_ir.specs.Unordered.{AllEvents}
use Rattle.sq_ir.specs.Scopes.{Scope}
use Rattle.sq_ir.specs.Events.{Event}
use Rattle.sq_ir.specs.Written.{Setting, Env, PlanTree, Part, at_turn, node_of, count_of, value_of, event_of, inside_of}
use Rattle.sq_ir.specs.Written.{seq_parts, par_parts, seq_of, par_of, arm_of, arm_at, scoped, turn_at, written}
use Rattle.sq_ir.specs.Plans.{AskedOfActions, AskedOfTerms, each_part, this_arm, Meets}
use Rattle.sq_ir.proofs.Equations.{written_skip, written_act, written_seq, written_par, written_loop, written_spread}
use Rattle.sq_ir.proofs.Equations.{written_case, written_within}
use Rattle.sq_ir.proofs.Exec.{both_true}
use Rattle.sq_ir.proofs.Meeting.{meets_skip, meets_act, meets_seq, meets_par, meets_loop, meets_spread, meets_case}
use Rattle.sq_ir.proofs.Meeting.{meets_within}

-- each iteration stands at a child that is there
child_below : (rule : SpreadRule) (count children i : ℕ) → 1 ≤ children → i < count
    → child_of rule count children i < children
child_below Cyclic count children i some lt = mod-lt i (omega (arith, some))
child_below Blocked count children i some lt = (div-lt_iff_lt-mul (omega (arith, lt))).1
    (subst (λ x. i * children < x) (mul_comm count children) (mul-lt-mul_of_pos_right lt (omega (arith, some))))

-- nothing is asked of events
pub all_any : (a : PlanTree) → AllEvents (λ e. Unit {0}) a
all_any Skip = tt
all_any (Act e) = tt
all_any (Stuck e) = tt
all_any (Seq a b) = (all_any a, all_any b)
all_any (Par a b) = (all_any a, all_any b)
all_any (Within s a) = all_any a

-- ---- from a tree to its parts

module _ (P : Event → Type 0) where
  -- what is done has no event
  all_done : (a : PlanTree) → is_done a ≡ true → AllEvents P a
  all_done Skip h = tt
  all_done (Act e) h = cc
  all_done (Stuck e) h = cc
  all_done (Seq a b) h = let p = both_true (is_done a) (is_done b) h in (all_done a p.0, all_done b p.1)
  all_done (Par a b) h = let p = both_true (is_done a) (is_done b) h in (all_done a p.0, all_done b p.1)
  all_done (Within s a) h = all_done a h

  seq_all : (a b : PlanTree) → AllEvents P (seq a b) → AllEvents P a × AllEvents P b
  seq_all a b h = by (is_done a) (is_done b) refl refl h
    where
      by : (u v : Bool) → is_done a ≡ u → is_done b ≡ v
          → AllEvents P (if u then b else (if v then a else Seq a b)) → AllEvents P a × AllEvents P b
      by true v e f h = (all_done a e, h)
      by false true e f h = (h, all_done b f)
      by false false e f h = h

  par_all : (a b : PlanTree) → AllEvents P (par a b) → AllEvents P a × AllEvents P b
  par_all a b h = by (is_done a) (is_done b) refl refl h
    where
      by : (u v : Bool) → is_done a ≡ u → is_done b ≡ v
          → AllEvents P (if u then b else (if v then a else Par a b)) → AllEvents P a × AllEvents P b
      by true v e f h = (all_done a e, h)
      by false true e f h = (h, all_done b f)
      by false false e f h = h

  within_all : (s : Scope) (a : PlanTree) → AllEvents P (within s a) → AllEvents P a
  within_all s a h = by (is_done a) refl h
    where
      by : (v : Bool) → is_done a ≡ v → AllEvents P (if v then Skip else Within s a) → AllEvents P a
      by true e h = all_done a e
      by false e h = h

  pub scoped_all : (node : ℕ) (bs : List ℕ) (a : PlanTree) → AllEvents P (scoped node bs a) → AllEvents P a
  scoped_all node [] a h = h
  scoped_all node (b ∷ bs) a h = within_all (record { node = node; buffers = b ∷ bs }) a h

  seq_of_all : (n : ℕ) (f : ℕ → PlanTree) (k : ℕ) → AllEvents P (seq_of n f k) → (i : ℕ) → i < n
      → AllEvents P (f (i + k))
  unfolding seq_of
  seq_of_all zero f k h i lt = absurd (omega (arith, lt))
  seq_of_all (suc n) f k h zero lt = let e : k ≡ zero + k
      = omega arith in subst (λ x. AllEvents P (f x)) e (seq_all (f k) (seq_of n f (k + 1)) h).0
  seq_of_all (suc n) f k h (suc i) lt = let e : i + (k + 1) ≡ suc i + k
      = omega arith in subst (λ x. AllEvents P (f x)) e
      (seq_of_all n f (k + 1) (seq_all (f k) (seq_of n f (k + 1)) h).1 i (omega (arith, lt)))

  par_of_all : (n : ℕ) (f : ℕ → PlanTree) (k : ℕ) → AllEvents P (par_of n f k) → (i : ℕ) → i < n
      → AllEvents P (f (i + k))
  unfolding par_of
  par_of_all zero f k h i lt = absurd (omega (arith, lt))
  par_of_all (suc n) f k h zero lt = let e : k ≡ zero + k
      = omega arith in subst (λ x. AllEvents P (f x)) e (par_all (f k) (par_of n f (k + 1)) h).0
  par_of_all (suc n) f k h (suc i) lt = let e : i + (k + 1) ≡ suc i + k
      = omega arith in subst (λ x. AllEvents P (f x)) e
      (par_of_all n f (k + 1) (par_all (f k) (par_of n f (k + 1)) h).1 i (omega (arith, lt)))

  turn_all : (c d : ℕ) (a : PlanTree) → c ≡ d → AllEvents P (if c == d then a else Skip) → AllEvents P a
  turn_all c d a e h = let f : (c == d) ≡ true = grind (arith, nat_tests)
      in subst (λ v. AllEvents P (if v then a else Skip)) f h

-- ---- the induction

-- Two things that are asked, and one that holds of events: what follows from all three where an action stands.
module _ (s : Setting) (first second last : AskedOfActions) (P : Event → Type 0)
    (join : (env : Env) (bs : List ℕ) (a : Action) → first env bs a → second env bs a → P (event_of s env a)
    → last env bs a) where
  abbrev Back : Term → Type 0
  Back x = (env : Env) (bs : List ℕ) → Meets s first x env bs → Meets s second x env bs
      → AllEvents P (written s x env) → Meets s last x env bs

  abbrev M : Type 0
  M = (x : Term) × Back x

  abbrev terms : List M → List Term
  terms xs = map (λ p. p.0) xs

  back_seq : (xs : List M) (env : Env) (bs : List ℕ) → each_part (Meets s first) (terms xs) env bs
      → each_part (Meets s second) (terms xs) env bs → AllEvents P (seq_parts (map (written s) (terms xs)) env)
      → each_part (Meets s last) (terms xs) env bs
  back_seq [] env bs h k g = tt
  back_seq (x ∷ xs) env bs h k g =
      let p = seq_all P (written s x.0 env) (seq_parts (map (written s) (terms xs)) env) g in
      (x.1 env bs h.0 k.0 p.0, back_seq xs env bs h.1 k.1 p.1)

  back_par : (xs : List M) (env : Env) (bs : List ℕ) → each_part (Meets s first) (terms xs) env bs
      → each_part (Meets s second) (terms xs) env bs → AllEvents P (par_parts (map (written s) (terms xs)) env)
      → each_part (Meets s last) (terms xs) env bs
  back_par [] env bs h k g = tt
  back_par (x ∷ xs) env bs h k g =
      let p = par_all P (written s x.0 env) (par_parts (map (written s) (terms xs)) env) g in
      (x.1 env bs h.0 k.0 p.0, back_par xs env bs h.1 k.1 p.1)

  back_arm : (xs : List M) (n : ℕ) (env : Env) (bs : List ℕ) → this_arm (Meets s first) (terms xs) (pos n) env bs
      → this_arm (Meets s second) (terms xs) (pos n) env bs → AllEvents P (arm_of (map (written s) (terms xs)) n env)
      → this_arm (Meets s last) (terms xs) (pos n) env bs
  back_arm [] n env bs h k g = tt
  back_arm (x ∷ xs) zero env bs h k g = x.1 env bs h k g
  back_arm (x ∷ xs) (suc n) env bs h k g = back_arm xs n env bs h k g

  back_at : (xs : List M) (z : ℤ) (env : Env) (bs : List ℕ) → this_arm (Meets s first) (terms xs) z env bs
      → this_arm (Meets s second) (terms xs) z env bs → AllEvents P (arm_at (map (written s) (terms xs)) z env)
      → this_arm (Meets s last) (terms xs) z env bs
  back_at xs (pos n) env bs h k g = back_arm xs n env bs h k g
  back_at [] (negsuc n) env bs h k g = tt
  back_at (x ∷ xs) (negsuc n) env bs h k g = tt

  by_equations : (x : Term) (part : Part) (asks more whole : AskedOfTerms) → written s x ≡ part
      → Meets s first x ≡ asks → Meets s second x ≡ more → Meets s last x ≡ whole
      → ((env : Env) (bs : List ℕ) → asks env bs → more env bs → AllEvents P (part env) → whole env bs) → Back x
  by_equations x part asks more whole e q r l h env bs m k g =
      subst (λ (f : AskedOfTerms). f env bs) (sym l)
      (h env bs (subst (λ (f : AskedOfTerms). f env bs) q m) (subst (λ (f : AskedOfTerms). f env bs) r k)
      (subst (λ (f : Part). AllEvents P (f env)) e g))

  back_step : (y : Term-F M) → Back (roll-Term (map-Term M Term (λ p. p.0) y))
  back_step Term-F.Skip = subst Back (sym t.rolls-Skip)
      (by_equations t.Skip _ _ _ _ (written_skip s) (meets_skip s first) (meets_skip s second) (meets_skip s last)
      (λ env bs h k g. tt))
  back_step (Term-F.Act a) = subst Back (sym (t.rolls-Act a))
      (by_equations (t.Act a) _ _ _ _ (written_act s a) (meets_act s first a) (meets_act s second a)
      (meets_act s last a) (λ env bs h k g. join env bs a h k g))
  back_step (Term-F.Seq xs) = subst Back (sym (t.rolls-Seq (terms xs)))
      (by_equations (t.Seq (terms xs)) _ _ _ _ (written_seq s (terms xs)) (meets_seq s first (terms xs))
      (meets_seq s second (terms xs)) (meets_seq s last (terms xs)) (back_seq xs))
  back_step (Term-F.Par xs) = subst Back (sym (t.rolls-Par (terms xs)))
      (by_equations (t.Par (terms xs)) _ _ _ _ (written_par s (terms xs)) (meets_par s first (terms xs))
      (meets_par s second (terms xs)) (meets_par s last (terms xs)) (back_par xs))
  back_step (Term-F.Loop n x) = subst Back (sym (t.rolls-Loop n x.0))
      (by_equations (t.Loop n x.0) _ _ _ _ (written_loop s n x.0) (meets_loop s first n x.0) (meets_loop s second n x.0)
      (meets_loop s last n x.0) (λ env bs h k g. (
        h.0,
        λ i lt. let e : i + 0 ≡ i = omega arith in
            x.1 (at_turn env i) bs (h.1 i lt) (k.1 i lt)
            (subst (λ j. AllEvents P (written s x.0 (at_turn env j))) e
            (seq_of_all P (count_of s n env) (λ i. written s x.0 (at_turn env i)) 0 g i lt)),
      )))
  back_step (Term-F.Spread n r x) = subst Back (sym (t.rolls-Spread n r x.0))
      (by_equations (t.Spread n r x.0) _ _ _ _ (written_spread s n r x.0) (meets_spread s first n r x.0)
      (meets_spread s second n r x.0) (meets_spread s last n r x.0) (λ env bs h k g. (
        h.0,
        h.1,
        λ i lt.
            let count = count_of s n env in
            let children = s.children (node_of env) in
            let c = child_of r count children i in
            let below = child_below r count children i h.1 lt in
            let lane = par_of_all P children (λ c. seq_of count (turn_at s r count (written s x.0) env c) 0) 0 g c below
            in
            let e : c + 0 ≡ c = omega arith in
            let f : i + 0 ≡ i = omega arith in
            let one = seq_of_all P count (turn_at s r count (written s x.0) env (c + 0)) 0 lane i lt in
            x.1 (at_turn env i) bs (h.2 i lt) (k.2 i lt)
            (turn_all P c c (written s x.0 (at_turn env i)) refl
            (subst (λ d. AllEvents P (turn_at s r count (written s x.0) env d i)) e
            (subst (λ j. AllEvents P (turn_at s r count (written s x.0) env (c + 0) j)) f one))),
      )))
  back_step (Term-F.Case n xs) = subst Back (sym (t.rolls-Case n (terms xs)))
      (by_equations (t.Case n (terms xs)) _ _ _ _ (written_case s n (terms xs)) (meets_case s first n (terms xs))
      (meets_case s second n (terms xs)) (meets_case s last n (terms xs))
      (λ env bs h k g. (h.0, back_at xs (value_of s n env) env bs h.1 k.1 g)))
  back_step (Term-F.Within c new x) = subst Back (sym (t.rolls-Within c new x.0))
      (by_equations (t.Within c new x.0) _ _ _ _ (written_within s c new x.0) (meets_within s first c new x.0)
      (meets_within s second c new x.0) (meets_within s last c new x.0) (λ env bs h k g.
      let inner = inside_of s env c in
      (h.0, h.1, x.1 inner (new ++ bs) h.2 k.2 (scoped_all P (node_of inner) new (written s x.0 inner) g))))

  pub joined : (x : Term) → Back x
  joined = ind-Term Back (λ x y is. subst (λ z. Back (roll-Term z)) is (back_step y))

-- ---- what it gives

-- what is asked of an action, and what holds of its event
abbrev pub with_event : Setting → AskedOfActions → (Event → Type 0) → AskedOfActions
with_event s asked P env bs a = asked env bs a × P (event_of s env a)

abbrev pub with_both : AskedOfActions → AskedOfActions → AskedOfActions
with_both first second env bs a = first env bs a × second env bs a

-- less is asked
pub meets_less : (s : Setting) (asked less : AskedOfActions)
    → ((env : Env) (bs : List ℕ) (a : Action) → asked env bs a → less env bs a) → (x : Term) (env : Env) (bs : List ℕ)
    → Meets s asked x env bs → Meets s less x env bs
meets_less s asked less f x env bs h =
    joined s asked asked less (λ e. Unit {0}) (λ env bs a h k g. f env bs a h) x env bs h h
    (all_any (written s x env))
