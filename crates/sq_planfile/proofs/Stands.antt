-- What is left of parts where they stand, one equation for each variant of a term.
use Rattle.std.proofs.Common.{◌≡◌, ℕ, zero, suc, ◌+◌, ◌<◌, ◌≤◌, ◌%◌, Bool, true, false, Option, List, [], ◌∷◌, length, get_or, map, ℤ, pos, negsuc, refl, sym, ap, ◌∙◌, arith}
use Rattle.std.specs.Prelude.{if◌then◌else◌, ◌==◌, nat_lt}
use Rattle.std.proofs.lemmas.Bool.{eq-eqb, ltb-false}
use Rattle.std.proofs.lemmas.List.{length-map}
use Rattle.sq_text.specs.declared.spread.SpreadRule.{SpreadRule}
use Rattle.sq_text.specs.declared.spread.SpreadRule.TheVariants.{Cyclic}
use Rattle.sq_ir.specs.declared.num.Num.{Num}
use Rattle.sq_ir.specs.declared.term.Action.{Action}
use Rattle.sq_ir.specs.declared.term.Term.{Term}
use Rattle.sq_ir.specs.declared.term.Term.TheVariants as t
use Rattle.sq_sched.specs.declared.env.Env.{Env}
use Rattle.sq_sched.specs.declared.frames.Spread.{Spread}
use Rattle.sq_sched.specs.Words as words
use Rattle.sq_sched.specs.Words.{env_of, value, count, children_at}
use Rattle.sq_sched.specs.Nums.Words.{nat_part}
use Rattle.sq_sched.specs.Forms.{has_arm}
use Rattle.sq_sched.specs.Children.{is_at}
use Rattle.sq_sched.specs.Acts.{acts}
use Rattle.sq_sched.proofs.Strands.{if-true}
use Rattle.sq_planfile.specs.declared.left.Left.{Left}
use Rattle.sq_planfile.specs.declared.left.Left.TheVariants.{Nothing}
use Rattle.sq_planfile.specs.Left.{then_seq, then_par}
use Rattle.sq_planfile.specs.Written as written
use Rattle.sq_planfile.specs.Written.{arm_of, seq_of, par_of, left_by}
use Rattle.sq_planfile.specs.Words.{reading, left_at, part_at, event_at, left_within, turn_at, child_at, turns_in, loop_of, spread_of}
use Rattle.sq_planfile.proofs.Joins.{seq_of_nothing, par_of_nothing, seq_list, par_list}
use Rattle.sq_planfile.proofs.Forms.{left_skip, left_act, left_seq, left_par, left_loop, left_spread, left_case, left_within as within_form, no_action, turn_none}

mod_one : (n : ℕ) → (n % 1 == 0) ≡ true
mod_one n = eq-eqb (n % 1) 0 (omega arith)

pub seq_same : (n : ℕ) (f g : ℕ → Left) (k : ℕ) → ((j : ℕ) → j < n → f (k + j) ≡ g (k + j)) → seq_of n f k ≡ seq_of n g k
unfolding seq_of
seq_same zero f g k h = refl
seq_same (suc n) f g k h =
    let e : k + 0 ≡ k = omega arith in
    ap (λ a. then_seq a (seq_of n f (k + 1))) (ap f (sym e) ∙ h 0 (omega arith) ∙ ap g e)
    ∙ ap (then_seq (g k)) (seq_same n f g (k + 1) (λ j lt. let d : k + 1 + j ≡ k + suc j = omega arith in ap f d ∙ h (suc j) (omega (arith, lt)) ∙ ap g (sym d)))

pub par_same : (n : ℕ) (f g : ℕ → Left) (k : ℕ) → ((j : ℕ) → j < n → f (k + j) ≡ g (k + j)) → par_of n f k ≡ par_of n g k
unfolding par_of
par_same zero f g k h = refl
par_same (suc n) f g k h =
    let e : k + 0 ≡ k = omega arith in
    ap (λ a. then_par a (par_of n f (k + 1))) (ap f (sym e) ∙ h 0 (omega arith) ∙ ap g e)
    ∙ ap (then_par (g k)) (par_same n f g (k + 1) (λ j lt. let d : k + 1 + j ≡ k + suc j = omega arith in ap f d ∙ h (suc j) (omega (arith, lt)) ∙ ap g (sym d)))

module _ (env : Env) where
  pub stand_skip : left_at env t.Skip ≡ Nothing
  stand_skip = ap (λ f. f (env_of env)) (left_skip (reading env.plan.now))

  pub stand_act : (a : Action) → left_at env (t.Act a) ≡ event_at env a
  stand_act a = ap (λ f. f (env_of env)) (left_act (reading env.plan.now) a)

  pub stand_seq : (ts : List Term) → left_at env (t.Seq ts) ≡ seq_of (length ts) (part_at env ts) 0
  stand_seq ts =
      let r = reading env.plan.now in
      let ms = map (left_by r) ts in
      ap (λ f. f (env_of env)) (left_seq r ts) ∙ sym (seq_list (env_of env) ms 0 (part_at env ts) (λ i. let e : 0 + i ≡ i = omega arith in ap (part_at env ts) e))
      ∙ ap (λ n. seq_of n (part_at env ts) 0) (length-map ts (left_by r))

  pub stand_par : (ts : List Term) → left_at env (t.Par ts) ≡ par_of (length ts) (part_at env ts) 0
  stand_par ts =
      let r = reading env.plan.now in
      let ms = map (left_by r) ts in
      ap (λ f. f (env_of env)) (left_par r ts) ∙ sym (par_list (env_of env) ms 0 (part_at env ts) (λ i. let e : 0 + i ≡ i = omega arith in ap (part_at env ts) e))
      ∙ ap (λ n. par_of n (part_at env ts) 0) (length-map ts (left_by r))

  -- iterations of a body in which no action stands are none
  fewer : (n : ℕ) (b : Term) (v : Bool) → acts b ≡ v
      → seq_of n (λ u. left_by (reading env.plan.now) b (words.at_turn (env_of env) u)) 0
      ≡ seq_of (if v then n else 0) (λ u. left_by (reading env.plan.now) b (words.at_turn (env_of env) u)) 0
  fewer n b true e = refl
  fewer n b false e =
      let f : ℕ → Left = λ u. left_by (reading env.plan.now) b (words.at_turn (env_of env) u) in
      let g : (k : ℕ) → f k ≡ Nothing = λ u. no_action (reading env.plan.now) b e (words.at_turn (env_of env) u) in
      seq_of_nothing n f 0 g ∙ sym (seq_of_nothing 0 f 0 g)

  one_child : (n : ℕ) (b : Term) → child_at env (record { rule = Cyclic; turns = n; children = 1 }) b 0 ≡ seq_of n (λ u. left_by (reading env.plan.now) b (words.at_turn (env_of env) u)) 0
  one_child n b =
      let f : ℕ → Left = λ u. left_by (reading env.plan.now) b (words.at_turn (env_of env) u) in
      seq_same n (turn_at env (record { rule = Cyclic; turns = n; children = 1 }) b 0) f 0 (λ i lt. if-true ((0 + i) % 1 == 0) (f (0 + i)) Nothing (mod_one (0 + i)))

  pub stand_loop : (n : Num) (b : Term) → left_at env (t.Loop n b) ≡ child_at env (loop_of env n b) b 0
  stand_loop n b =
      ap (λ f. f (env_of env)) (left_loop (reading env.plan.now) n b) ∙ fewer (count env.plan.now n (env_of env)) b (acts b) refl
      ∙ sym (one_child (turns_in env n b) b)

  children_of : (rule : SpreadRule) (k m : ℕ) (b : Term) (v : Bool) → acts b ≡ v
      → par_of m (child_at env (record { rule = rule; turns = k; children = m }) b) 0 ≡ par_of m (child_at env (record { rule = rule; turns = if v then k else 0; children = m }) b) 0
  children_of rule k m b true e = refl
  children_of rule k m b false e =
      let some : (n : ℕ) → (c : ℕ) → child_at env (record { rule = rule; turns = n; children = m }) b c ≡ Nothing
      = λ n c. seq_of_nothing n (turn_at env (record { rule = rule; turns = n; children = m }) b c) 0 (λ u. turn_none (reading env.plan.now) rule n m (left_by (reading env.plan.now) b) (env_of env) c u (no_action (reading env.plan.now) b e (words.at_turn (env_of env) u))) in
      par_of_nothing m (child_at env (record { rule = rule; turns = k; children = m }) b) 0 (some k)
      ∙ sym (par_of_nothing m (child_at env (record { rule = rule; turns = 0; children = m }) b) 0 (some 0))

  pub stand_spread : (n : Num) (rule : SpreadRule) (b : Term) → left_at env (t.Spread n rule b) ≡ par_of (spread_of env n rule b).children (child_at env (spread_of env n rule b) b) 0
  stand_spread n rule b =
      ap (λ f. f (env_of env)) (left_spread (reading env.plan.now) n rule b)
      ∙ children_of rule (count env.plan.now n (env_of env)) (children_at env.plan.now (env_of env)) b (acts b) refl

  pub part_past : (ts : List Term) (i : ℕ) → length ts ≤ i → part_at env ts i ≡ Nothing
  part_past [] i le = refl
  part_past (x ∷ ts) zero le = absurd (omega (arith, le))
  part_past (x ∷ ts) (suc i) le = part_past ts i (omega (arith, le))

  pub part_there : (ts : List Term) (i : ℕ) (x : Term) → i < length ts → x ≡ get_or ts i x → part_at env ts i ≡ left_at env x
  part_there [] i x lt e = absurd (omega arith)
  part_there (y ∷ ys) zero x lt e = ap (left_at env) (sym e)
  part_there (y ∷ ys) (suc i) x lt e = part_there ys i x (omega arith) e

  -- the number of an arm, or of all of them
  abbrev pub arm_in : ℤ → ℕ → ℕ
  arm_in z n = if has_arm z n then nat_part z else n

  pub stand_case : (k : Num) (ts : List Term) → left_at env (t.Case k ts) ≡ part_at env ts (arm_in (value env.plan.now k (env_of env)) (length ts))
  stand_case k ts = ap (λ f. f (env_of env)) (left_case (reading env.plan.now) k ts) ∙ by (value env.plan.now k (env_of env))
    where
      there : (n : ℕ) (v : Bool) → nat_lt n (length ts) ≡ v → part_at env ts n ≡ part_at env ts (if v then n else length ts)
      there n true e = refl
      there n false e = part_past ts n (ltb-false n (length ts) e) ∙ sym (part_past ts (length ts) (omega arith))

      by : (z : ℤ) → written.arm_at (map (left_by (reading env.plan.now)) ts) z (env_of env) ≡ part_at env ts (arm_in z (length ts))
      by (pos n) = there n (nat_lt n (length ts)) refl
      by (negsuc n) = sym (part_past ts (length ts) (omega arith))

  pub stand_within : (c : Option Num) (bs : List ℕ) (b : Term) → left_at env (t.Within c bs b) ≡ left_within env c bs b
  stand_within c bs b = ap (λ f. f (env_of env)) (within_form (reading env.plan.now) c bs b)

  -- an iteration that stands at a child
  pub turn_here : (s : Spread) (b : Term) (c u : ℕ) → is_at s c u ≡ true → turn_at env s b c u ≡ left_by (reading env.plan.now) b (words.at_turn (env_of env) u)
  turn_here s b c u e = if-true (is_at s c u) (left_by (reading env.plan.now) b (words.at_turn (env_of env) u)) Nothing e

  -- and one that doesn't
  pub turn_elsewhere : (s : Spread) (b : Term) (c u : ℕ) → is_at s c u ≡ false → turn_at env s b c u ≡ Nothing
  turn_elsewhere s b c u e = ap (λ v. if v then left_by (reading env.plan.now) b (words.at_turn (env_of env) u) else Nothing) e
