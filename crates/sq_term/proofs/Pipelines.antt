-- Loops whose transfers overlap, written out: the two sets in turn, and the positions of a lane one after another.
use Rattle.std.proofs.Common.{◌≡◌, ℕ, zero, suc, ◌+◌, ◌-◌, ◌*◌, ◌%◌, ◌<◌, pos, Bool, true, false, List, [], ◌∷◌, map}
use Rattle.std.proofs.Common.{refl, sym, ap, ap₂, subst, ◌∙◌, arith, if◌then◌else◌}
use Rattle.std.specs.Prelude.{nat_abs, nat_lt}
use Rattle.std.proofs.lemmas.Bool.Decides.{nat_tests}
use Rattle.std.proofs.Math.Nat.{mod-lt}
use Rattle.sq_ir.specs.Tree as tree
use Rattle.sq_ir.specs.Tree.{is_done, seq, par, within}
use Rattle.sq_ir.specs.Scopes.{Scope}
use Rattle.sq_ir.specs.Written.{Setting, Env, PlanTree, value_of, at_turn, written, seq_of, par_of, arm_of, arm_at}
use Rattle.sq_ir.specs.Written.{scoped}
use Rattle.sq_ir.specs.declared.num.Num.{Num}
use Rattle.sq_ir.specs.declared.num.Num.TheVariants as n
use Rattle.sq_ir.specs.declared.term.Term.{Term}
use Rattle.sq_ir.specs.declared.term.Term.TheVariants as term
use Rattle.sq_ir.proofs.Equations.{written_skip, written_seq, written_par, written_loop, written_case}
use Rattle.sq_term.specs.declared.context.Context.{Context}
use Rattle.sq_term.specs.declared.context.Lane.{Lane}
use Rattle.sq_placed.specs.Trees.{seq_all, par_all, turn_before, turn_after, turn_of, pipeline}
use Rattle.sq_term.specs.Terms.{lift_context, lift_lane, iteration, at_iteration, by_set, where_some, at_position}
use Rattle.sq_term.specs.Terms.{turn_term, lane_term}
use Rattle.sq_term.specs.Stands.{IsNumber}
use Rattle.sq_term.proofs.Numbers.{const_is, rem_is, some_is, lifted_is, constant, turn, sum, difference, product}
use Rattle.sq_term.proofs.Turns.{seq_same}

-- ---- trees that are nothing where all of them is done

abbrev pub IsClean : PlanTree → Type 0
IsClean t = is_done t ≡ true → t ≡ tree.Skip

pub clean_skip : IsClean tree.Skip
clean_skip e = refl

pub clean_seq : (a b : PlanTree) → IsClean b → IsClean (seq a b)
clean_seq a b h = go (is_done a) (is_done b) refl refl
  where
    go : (x y : Bool) → is_done a ≡ x → is_done b ≡ y
        → IsClean (if x then b else (if y then a else tree.Seq a b))
    go true y e f = h
    go false true e f = λ d. absurd (cc)
    go false false e f = λ d. absurd (left (is_done a) e d)
      where
        left : (x : Bool) → x ≡ false → (if x then is_done b else false) ≡ true → ⊥
        left true k d = cc
        left false k d = cc

pub clean_par : (a b : PlanTree) → IsClean b → IsClean (par a b)
clean_par a b h = go (is_done a) (is_done b) refl refl
  where
    go : (x y : Bool) → is_done a ≡ x → is_done b ≡ y
        → IsClean (if x then b else (if y then a else tree.Par a b))
    go true y e f = h
    go false true e f = λ d. absurd (cc)
    go false false e f = λ d. absurd (left (is_done a) e d)
      where
        left : (x : Bool) → x ≡ false → (if x then is_done b else false) ≡ true → ⊥
        left true k d = cc
        left false k d = cc

pub clean_within : (q : Scope) (a : PlanTree) → IsClean (within q a)
clean_within q a = go (is_done a) refl
  where
    go : (x : Bool) → is_done a ≡ x → IsClean (if x then tree.Skip else tree.Within q a)
    go true e = clean_skip
    go false e = λ d. absurd (cc)

pub clean_scoped : (node : ℕ) (bs : List ℕ) (a : PlanTree) → IsClean a → IsClean (scoped node bs a)
clean_scoped node [] a h = h
clean_scoped node (b ∷ bs) a h = clean_within _ a

pub clean_par_all : (ts : List PlanTree) → IsClean (par_all ts)
clean_par_all [] = clean_skip
clean_par_all (t ∷ ts) = clean_par t (par_all ts) (clean_par_all ts)

pub clean_seq_all : (ts : List PlanTree) → IsClean (seq_all ts)
clean_seq_all [] = clean_skip
clean_seq_all (t ∷ ts) = clean_seq t (seq_all ts) (clean_seq_all ts)

pub clean_par_of : (m : ℕ) (f : ℕ → PlanTree) (t : ℕ) → IsClean (par_of m f t)
unfolding par_of
clean_par_of zero f t = clean_skip
clean_par_of (suc m) f t = clean_par (f t) (par_of m f (t + 1)) (clean_par_of m f (t + 1))

-- nothing behind it
pub seq_nothing : (a : PlanTree) → IsClean a → seq a tree.Skip ≡ a
seq_nothing a h = go (is_done a) refl
  where
    go : (x : Bool) → is_done a ≡ x → (if x then tree.Skip else a) ≡ a
    go true e = sym (h e)
    go false e = refl

pub par_nothing : (a : PlanTree) → IsClean a → par a tree.Skip ≡ a
par_nothing a h = go (is_done a) refl
  where
    go : (x : Bool) → is_done a ≡ x → (if x then tree.Skip else a) ≡ a
    go true e = sym (h e)
    go false e = refl

-- ---- terms by a number

module _ (s : Setting) (env : Env) where
  -- by the position: the first set, and then the second
  pub by_set_is : (p : Num) (j : ℕ) → value_of s p env ≡ pos j → (f : ℕ → Term)
      → written s (by_set p f) env ≡ written s (f (j % 2)) env
  by_set_is p j h f =
      ap (λ g. g env) (written_case s (n.Rem p (n.Const (pos 2))) (f 0 ∷ f 1 ∷ []))
      ∙ ap (λ z. arm_at (map (written s) (f 0 ∷ f 1 ∷ [])) z env)
      (rem_is s env p (n.Const (pos 2)) j 2 h (const_is s env (pos 2)))
      ∙ go (j % 2) (mod-lt j (omega arith))
    where
      go : (r : ℕ) → r < 2 → arm_of (map (written s) (f 0 ∷ f 1 ∷ [])) r env ≡ written s (f r) env
      go zero l = refl
      go (suc zero) l = refl
      go (suc (suc r)) l = absurd (omega (arith, l))

  pub where_none : (k : Num) (x : Term) → value_of s k env ≡ pos 0 → written s (where_some k x) env ≡ tree.Skip
  where_none k x h =
      ap (λ g. g env) (written_case s (n.Min k (n.Const (pos 1))) (term.Skip ∷ x ∷ []))
      ∙ ap (λ z. arm_at (map (written s) (term.Skip ∷ x ∷ [])) z env) (some_is s env k 0 h)
      ∙ ap (λ g. g env) (written_skip s)

  pub where_is : (k : Num) (x : Term) (m : ℕ) → value_of s k env ≡ pos (suc m)
      → written s (where_some k x) env ≡ written s x env
  where_is k x m h =
      ap (λ g. g env) (written_case s (n.Min k (n.Const (pos 1))) (term.Skip ∷ x ∷ []))
      ∙ ap (λ z. arm_at (map (written s) (term.Skip ∷ x ∷ [])) z env) (some_is s env k (suc m) h)

-- ---- lanes

-- the lane has so many iterations, and this one at each position
pub record IsLane (s : Setting) (turns : List ℕ) (l : Lane) (at : ℕ → ℕ) (m : ℕ) : Type 0 where
  pub first : ℕ
  pub step : ℕ
  pub first_is : IsNumber s turns l.first first
  pub step_is : IsNumber s turns l.step step
  pub many : IsNumber s turns l.many m
  pub item : (j : ℕ) → j < m → first + step * j ≡ at j

pub lift_lane_is : (s : Setting) (turns : List ℕ) (l : Lane) (at : ℕ → ℕ) (m t : ℕ) → IsLane s turns l at m
    → IsLane s (t ∷ turns) (lift_lane l) at m
lift_lane_is s turns l at m t h = record {
  first = h.first;
  step = h.step;
  first_is = lifted_is s turns l.first h.first t h.first_is;
  step_is = lifted_is s turns l.step h.step t h.step_is;
  many = lifted_is s turns l.many m t h.many;
  item = h.item;
}

-- at a position of the lane the part is this tree, where it stands well
abbrev pub Parts : Setting → List ℕ → (ℕ → ℕ) → ℕ → (Env → Context → Type 0) → (ℕ → Context → Term) → (ℕ → PlanTree)
    → Type 0
Parts s starts at m IsGood f tree_of = (env : Env) (c : Context) → IsGood env c → (x : Num) (j : ℕ) → j < m
    → IsNumber s env.turns x (at j) → written s (f (j % 2) (at_iteration starts x c)) env ≡ tree_of j

module _ (s : Setting) (starts : List ℕ) (at : ℕ → ℕ) (m : ℕ) (IsGood : Env → Context → Type 0)
    (turned : (env : Env) (c : Context) (j : ℕ) → IsGood env c → IsGood (at_turn env j) (lift_context c))
    (come work leave : ℕ → Context → Term) (comes works leaves : ℕ → PlanTree)
    (come_is : Parts s starts at m IsGood come comes) (work_is : Parts s starts at m IsGood work works)
    (leave_is : Parts s starts at m IsGood leave leaves) (clean : (j : ℕ) → IsClean (comes j)) where
  position_is : (f : ℕ → Context → Term) (parts : ℕ → PlanTree) → Parts s starts at m IsGood f parts
      → (env : Env) (c : Context) → IsGood env c → (l : Lane) → IsLane s env.turns l at m → (p : Num) (j : ℕ) → j < m
      → IsNumber s env.turns p j → written s (at_position starts l c p f) env ≡ parts j
  position_is f parts h env c good l lane p j k is =
      by_set_is s env p j (is.value env.level env.nodes) (λ set. f set (at_iteration starts (iteration l p) c))
      ∙ h env c good (iteration l p) j k
      (subst (IsNumber s env.turns (iteration l p)) (lane.item j k)
      (sum s env.turns l.first (n.Mul l.step p) lane.first (lane.step * j) lane.first_is
      (product s env.turns l.step p lane.step j lane.step_is is)))

  turn_is : (env : Env) (c : Context) → IsGood env c → (l : Lane) → IsLane s env.turns l at m → (j : ℕ) → j < m
      → IsNumber s env.turns (n.Index 0) j
      → written s (turn_term starts l c come work leave) env ≡ turn_of comes works leaves m j
  turn_is env c good l lane j k is =
      ap (λ g. g env) (written_par s _)
      ∙ ap₂ par (position_is work works work_is env c good l lane (n.Index 0) j k is)
      (ap (λ y. par y tree.Skip) (ap (λ g. g env) (written_seq s _)
      ∙ ap₂ seq (before j k is) (ap (λ y. seq y tree.Skip) after ∙ seq_nothing (turn_after comes m j) clean_after))
      ∙ par_nothing _ (clean_seq (turn_before leaves j) (turn_after comes m j) clean_after))
    where
      one : IsNumber s env.turns (n.Const (pos 1)) 1
      one = constant s env.turns 1

      before : (i : ℕ) → i < m → IsNumber s env.turns (n.Index 0) i
          → written s (where_some (n.Index 0) (at_position starts l c (n.Sub (n.Index 0) (n.Const (pos 1))) leave)) env
          ≡ turn_before leaves i
      before zero q g = where_none s env (n.Index 0) _ (g.value env.level env.nodes)
      before (suc i) q g =
          where_is s env (n.Index 0) _ i (g.value env.level env.nodes)
          ∙ position_is leave leaves leave_is env c good l lane (n.Sub (n.Index 0) (n.Const (pos 1))) i
          (omega (arith, q)) (difference s env.turns (n.Index 0) (n.Const (pos 1)) (suc i) 1 i (omega arith) g one)

      left : IsNumber s env.turns (n.Sub (n.Sub l.many (n.Const (pos 1))) (n.Index 0)) (m - suc j)
      left = difference s env.turns (n.Sub l.many (n.Const (pos 1))) (n.Index 0) (m - 1) j (m - suc j)
          (omega (arith, k)) (difference s env.turns l.many (n.Const (pos 1)) m 1 (m - 1) (omega
          (arith, k)) lane.many one)
          is

      later : Term
      later = where_some (n.Sub (n.Sub l.many (n.Const (pos 1))) (n.Index 0))
          (at_position starts l c (n.Add (n.Index 0) (n.Const (pos 1))) come)

      after : written s later env ≡ turn_after comes m j
      after = go (nat_lt (suc j) m) refl
        where
          go : (b : Bool) → nat_lt (suc j) m ≡ b → written s later env ≡ (if b then comes (suc j) else tree.Skip)
          go false e =
              let z : m - suc j ≡ 0 = grind (arith, nat_tests, e) in
              where_none s env _ _ (left.value env.level env.nodes ∙ ap pos z)
          go true e =
              let y : suc j < m = grind (arith, nat_tests, e) in
              let z : m - suc j ≡ suc (m - suc (suc j)) = omega (arith, y) in
              let x : j + 1 ≡ suc j = omega arith in
              where_is s env _ _ (m - suc (suc j)) (left.value env.level env.nodes ∙ ap pos z)
              ∙ position_is come comes come_is env c good l lane (n.Add (n.Index 0) (n.Const (pos 1))) (suc j) y
              (subst (IsNumber s env.turns (n.Add (n.Index 0) (n.Const (pos 1)))) x
              (sum s env.turns (n.Index 0) (n.Const (pos 1)) j 1 is one))

      clean_after : IsClean (turn_after comes m j)
      clean_after = go (nat_lt (suc j) m)
        where
          go : (b : Bool) → IsClean (if b then comes (suc j) else tree.Skip)
          go true = clean (suc j)
          go false = clean_skip

  pub lane_is : (env : Env) (c : Context) → IsGood env c → (l : Lane) → IsLane s env.turns l at m
      → written s (lane_term starts l c come work leave) env ≡ pipeline comes works leaves m
  lane_is env c good l lane = go m refl
    where
      positions : Term
      positions = term.Loop l.many (turn_term starts (lift_lane l) (lift_context c) come work leave)

      loop : written s positions env ≡ seq_of m (turn_of comes works leaves m) 0
      loop =
          ap (λ g. g env) (written_loop s l.many (turn_term starts (lift_lane l) (lift_context c) come work leave))
          ∙ ap (λ z. seq_of (nat_abs z)
          (λ t. written s (turn_term starts (lift_lane l) (lift_context c) come work leave) (at_turn env t)) 0)
          (lane.many.value env.level env.nodes)
          ∙ seq_same m _ _ 0 (λ j k. turn_is (at_turn env j) (lift_context c) (turned env c j good) (lift_lane l)
          (lift_lane_is s env.turns l at m j lane) j (omega (arith, k)) (turn s env.turns j))

      go : (q : ℕ) → m ≡ q → written s (lane_term starts l c come work leave) env ≡ pipeline comes works leaves m
      go zero e =
          where_none s env l.many _ (lane.many.value env.level env.nodes ∙ ap pos e)
          ∙ ap (pipeline comes works leaves) (sym e)
      go (suc i) e =
          where_is s env l.many _ i (lane.many.value env.level env.nodes ∙ ap pos e)
          ∙ ap (λ g. g env) (written_seq s _)
          ∙ ap₂ seq (come_is env c good l.first 0 (omega (arith, e))
          (let z : lane.first ≡ lane.first + lane.step * 0 = let x = lane.first in let y = lane.step in omega arith in
          subst (IsNumber s env.turns l.first) (z ∙ lane.item 0 (omega (arith, e))) lane.first_is))
          (ap₂ seq loop (ap (λ y. seq y tree.Skip)
          (position_is leave leaves leave_is env c good l lane (n.Sub l.many (n.Const (pos 1))) i (omega (arith, e))
          (difference s env.turns l.many (n.Const (pos 1)) m 1 i (omega (arith, e)) lane.many
          (constant s env.turns 1)))))
          ∙ ap (λ (q : ℕ). seq_all (comes 0 ∷ seq_of q (turn_of comes works leaves q) 0 ∷ leaves i ∷ [])) e
          ∙ ap (pipeline comes works leaves) (sym e)
