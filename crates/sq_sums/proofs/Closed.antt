-- The scopes of a part depend on the iterations of those loops alone that it may name, and on the number of children
-- only where it names it.
use Rattle.std.proofs.Common.{◌≡◌, ℕ, zero, suc, ◌+◌, ◌-◌, ◌<◌, ◌≤◌, max, Bool, true, false, List, [], ◌∷◌, map, get_or}
use Rattle.std.proofs.Common.{Option, Some, None, ℤ, pos, negsuc, refl, sym, ap, ap₂, ◌∙◌, subst, arith}
use Rattle.sq_ir.specs.Plans.{node_at}
use Rattle.std.specs.Prelude.{nat_lt, ◌||◌, ◌+ℤ◌, ◌-ℤ◌, ◌*ℤ◌, int_lt, if◌then◌else◌}
use Rattle.std.proofs.lemmas.Bool.{eqb-true}
use Rattle.sq_ir.specs.declared.num.Num.{Num, roll-Num}
use Rattle.sq_ir.specs.declared.num.Num.TheOpen.{Num-F}
use Rattle.sq_ir.specs.declared.num.Num.TheFolds.{fold-roll-Num, ind-Num, map-Num}
use Rattle.sq_ir.specs.declared.term.Term.{Term, roll-Term}
use Rattle.sq_ir.specs.declared.term.Term.TheVariants as t
use Rattle.sq_ir.specs.declared.term.Term.TheOpen.{Term-F}
use Rattle.sq_ir.specs.declared.term.Term.TheFolds.{ind-Term, map-Term}
use Rattle.sq_ir.specs.declared.plan.PlanNode.{PlanNode}
use Rattle.sq_term_nums.specs.Words.{Env, fit, div_of, rem_of, nat_part, pick_of, value_step, value, count}
use Rattle.sq_nests.specs.Nests.{End, Both, Open}
use Rattle.sq_nests.specs.Stacks.{capped}
use Rattle.sq_sums.specs.declared.region.Region.{Region}
use Rattle.sq_sums.specs.Parts.{all_parts, each_turn, arm_of, arm_at}
use Rattle.sq_sums.specs.Tops.{Stand, TopsAt, Tops, env_at, child_at, at_child, scope_tops, tops}
use Rattle.sq_sums.specs.Regions.{loops_step, loops_in, children_step, names_children, join_all, names_no_loop_outside}
use Rattle.sq_sums.specs.Regions.{region_of}
use Rattle.sq_sums.proofs.TopForms.{top_skip, top_act, top_seq, top_par, top_loop, top_spread, top_case, top_within}
use Rattle.sq_sums.proofs.RegionForms.{region_skip, region_act, region_seq, region_par, region_loop, region_spread}
use Rattle.sq_sums.proofs.RegionForms.{region_case, region_within}

-- ---- numbers

rolled : (d : Num-F Num) (e : Env) → value (roll-Num d) e ≡ value_step (map-Num Num (Env → ℤ) value d) e
rolled d e = ap (λ (f : Env → ℤ). f e) (fold-roll-Num (Env → ℤ) value_step d)

loops_rolled : (d : Num-F Num) → loops_in (roll-Num d) ≡ loops_step (map-Num Num ℕ loops_in d)
loops_rolled d = fold-roll-Num ℕ loops_step d

children_rolled : (d : Num-F Num) → names_children (roll-Num d) ≡ children_step (map-Num Num Bool names_children d)
children_rolled d = fold-roll-Num Bool children_step d

-- the first so many numbers are the same
abbrev pub SameTurns : (k : ℕ) → List ℕ → List ℕ → Type 0
SameTurns k ts us = (d : ℕ) → d < k → get_or ts d 0 ≡ get_or us d 0

below_left : (a b k : ℕ) → max a b ≤ k → a ≤ k
below_left a b k h = omega (arith, h)

below_right : (a b k : ℕ) → max a b ≤ k → b ≤ k
below_right a b k h = omega (arith, h)

or_left : (u v : Bool) → (u || v) ≡ false → u ≡ false
or_left false v h = refl
or_left true v h = absurd (let z = h in cc)

or_right : (u v : Bool) → (u || v) ≡ false → v ≡ false
or_right false v h = h
or_right true v h = absurd (let z = h in cc)

module _ (k : ℕ) (ts us : List ℕ) (same : SameTurns k ts us) (f : ℕ) where
  abbrev Fixed : Num → Type 0
  Fixed x = loops_in x ≤ k → value x (record { turns = ts; children = f })
      ≡ value x (record { turns = us; children = f })

  abbrev F : Type 0
  F = (x : Num) × Fixed x

  abbrev p : Env
  p = record { turns = ts; children = f }

  abbrev q : Env
  q = record { turns = us; children = f }

  both : (g : ℤ → ℤ → ℤ) (d : Num-F Num) (a b : F)
      → ((e : Env) → value_step (map-Num Num (Env → ℤ) value d) e ≡ g (value a.0 e) (value b.0 e))
      → loops_step (map-Num Num ℕ loops_in d) ≡ max (loops_in a.0) (loops_in b.0) → Fixed (roll-Num d)
  both g d a b e l h =
      let z = subst (λ m. m ≤ k) (loops_rolled d ∙ l) h in
      rolled d p ∙ e p ∙ ap₂ g (a.1 (below_left (loops_in a.0) (loops_in b.0) k z))
      (b.1 (below_right (loops_in a.0) (loops_in b.0) k z)) ∙ sym (e q) ∙ sym (rolled d q)

  fixed_step : (y : Num-F F) → Fixed (roll-Num (map-Num F Num (λ x. x.0) y))
  fixed_step (Num-F.Const c) = λ h. rolled (Num-F.Const c) p ∙ sym (rolled (Num-F.Const c) q)
  fixed_step (Num-F.Index d) = λ h.
      let z = subst (λ m. m ≤ k) (loops_rolled (Num-F.Index d)) h in
      rolled (Num-F.Index d) p ∙ ap (λ i. fit (pos i)) (same d (omega (arith, z))) ∙ sym (rolled (Num-F.Index d) q)
  fixed_step (Num-F.Add a b) = both (λ x y. fit (x +ℤ y)) (Num-F.Add a.0 b.0) a b (λ e. refl) refl
  fixed_step (Num-F.Sub a b) = both (λ x y. fit (x -ℤ y)) (Num-F.Sub a.0 b.0) a b (λ e. refl) refl
  fixed_step (Num-F.Mul a b) = both (λ x y. fit (x *ℤ y)) (Num-F.Mul a.0 b.0) a b (λ e. refl) refl
  fixed_step (Num-F.Div a b) = both div_of (Num-F.Div a.0 b.0) a b (λ e. refl) refl
  fixed_step (Num-F.Rem a b) = both rem_of (Num-F.Rem a.0 b.0) a b (λ e. refl) refl
  fixed_step (Num-F.Min a b) = both (λ x y. if int_lt y x then y else x) (Num-F.Min a.0 b.0) a b (λ e. refl) refl
  fixed_step (Num-F.Pick ks a) = λ h.
      let z = subst (λ m. m ≤ k) (loops_rolled (Num-F.Pick ks a.0)) h in
      rolled (Num-F.Pick ks a.0) p ∙ ap (pick_of ks) (a.1 z) ∙ sym (rolled (Num-F.Pick ks a.0) q)
  fixed_step Num-F.Children = λ h. rolled Num-F.Children p ∙ sym (rolled Num-F.Children q)

  pub value_fixed : (x : Num) → Fixed x
  value_fixed = ind-Num Fixed (λ x y is. subst (λ z. Fixed (roll-Num z)) is (fixed_step y))

module _ (ts : List ℕ) (f g : ℕ) where
  abbrev Apart : Num → Type 0
  Apart x = names_children x ≡ false → value x (record { turns = ts; children = f })
      ≡ value x (record { turns = ts; children = g })

  abbrev A : Type 0
  A = (x : Num) × Apart x

  abbrev u : Env
  u = record { turns = ts; children = f }

  abbrev v : Env
  v = record { turns = ts; children = g }

  pair : (h : ℤ → ℤ → ℤ) (d : Num-F Num) (a b : A)
      → ((e : Env) → value_step (map-Num Num (Env → ℤ) value d) e ≡ h (value a.0 e) (value b.0 e))
      → children_step (map-Num Num Bool names_children d) ≡ (names_children a.0 || names_children b.0)
      → Apart (roll-Num d)
  pair h d a b e l c =
      let z = sym l ∙ sym (children_rolled d) ∙ c in
      rolled d u ∙ e u ∙ ap₂ h (a.1 (or_left (names_children a.0) (names_children b.0) z))
      (b.1 (or_right (names_children a.0) (names_children b.0) z)) ∙ sym (e v) ∙ sym (rolled d v)

  apart_step : (y : Num-F A) → Apart (roll-Num (map-Num A Num (λ x. x.0) y))
  apart_step (Num-F.Const c) = λ h. rolled (Num-F.Const c) u ∙ sym (rolled (Num-F.Const c) v)
  apart_step (Num-F.Index d) = λ h. rolled (Num-F.Index d) u ∙ sym (rolled (Num-F.Index d) v)
  apart_step (Num-F.Add a b) = pair (λ x y. fit (x +ℤ y)) (Num-F.Add a.0 b.0) a b (λ e. refl) refl
  apart_step (Num-F.Sub a b) = pair (λ x y. fit (x -ℤ y)) (Num-F.Sub a.0 b.0) a b (λ e. refl) refl
  apart_step (Num-F.Mul a b) = pair (λ x y. fit (x *ℤ y)) (Num-F.Mul a.0 b.0) a b (λ e. refl) refl
  apart_step (Num-F.Div a b) = pair div_of (Num-F.Div a.0 b.0) a b (λ e. refl) refl
  apart_step (Num-F.Rem a b) = pair rem_of (Num-F.Rem a.0 b.0) a b (λ e. refl) refl
  apart_step (Num-F.Min a b) = pair (λ x y. if int_lt y x then y else x) (Num-F.Min a.0 b.0) a b (λ e. refl) refl
  apart_step (Num-F.Pick ks a) = λ h. rolled (Num-F.Pick ks a.0) u
      ∙ ap (pick_of ks) (a.1 (sym (children_rolled (Num-F.Pick ks a.0)) ∙ h)) ∙ sym (rolled (Num-F.Pick ks a.0) v)
  apart_step Num-F.Children = λ h. absurd (let z = sym (children_rolled Num-F.Children) ∙ h in cc)

  pub value_apart : (x : Num) → Apart x
  value_apart = ind-Num Apart (λ x y is. subst (λ z. Apart (roll-Num z)) is (apart_step y))

-- ---- terms

same_next : (k i : ℕ) (ts us : List ℕ) → SameTurns k ts us → SameTurns (suc k) (i ∷ ts) (i ∷ us)
same_next k i ts us h zero l = refl
same_next k i ts us h (suc d) l = h d (omega (arith, l))

joined : (rs : List Region) (r : Region) (k : ℕ) → (join_all (r ∷ rs)).loops ≤ k → (r.loops ≤ k)
    × ((join_all rs).loops ≤ k)
joined rs r k h = (below_left r.loops (join_all rs).loops k h, below_right r.loops (join_all rs).loops k h)

module _ (ns : List PlanNode) (w : List ℕ → ℕ) where
  abbrev Steady : Term → Type 0
  Steady x = (k : ℕ) (ts us : List ℕ) (m h : ℕ) → SameTurns k ts us → (region_of x).loops ≤ k
      → tops ns w x (record { turns = ts; node = m; held = h })
      ≡ tops ns w x (record { turns = us; node = m; held = h })

  abbrev S : Type 0
  S = (x : Term) × Steady x

  abbrev terms : List S → List Term
  terms xs = map (λ x. x.0) xs

  abbrev at : List ℕ → (m h : ℕ) → Stand
  at ts m h = record { turns = ts; node = m; held = h }

  count_steady : (c : Num) (k : ℕ) (ts us : List ℕ) (m h : ℕ) → SameTurns k ts us → loops_in c ≤ k
      → count c (env_at ns (at ts m h)) ≡ count c (env_at ns (at us m h))
  count_steady c k ts us m h s l = ap nat_part (value_fixed k ts us s (env_at ns (at ts m h)).children c l)

  all_steady : (xs : List S) (k : ℕ) (ts us : List ℕ) (m h : ℕ) → SameTurns k ts us
      → (join_all (map region_of (terms xs))).loops ≤ k
      → all_parts (map (tops ns w) (terms xs)) (at ts m h) ≡ all_parts (map (tops ns w) (terms xs)) (at us m h)
  all_steady [] k ts us m h s l = refl
  all_steady (x ∷ xs) k ts us m h s l =
      let j = joined (map region_of (terms xs)) (region_of x.0) k l in
      ap₂ (λ (a b : Tops). Both a b) (x.1 k ts us m h s j.0) (all_steady xs k ts us m h s j.1)

  arm_steady : (xs : List S) (i k : ℕ) (ts us : List ℕ) (m h : ℕ) → SameTurns k ts us
      → (join_all (map region_of (terms xs))).loops ≤ k
      → arm_of (map (tops ns w) (terms xs)) i (at ts m h) ≡ arm_of (map (tops ns w) (terms xs)) i (at us m h)
  arm_steady [] i k ts us m h s l = refl
  arm_steady (x ∷ xs) zero k ts us m h s l = x.1 k ts us m h s (joined (map region_of (terms xs)) (region_of x.0) k l).0
  arm_steady (x ∷ xs) (suc i) k ts us m h s l
      = arm_steady xs i k ts us m h s (joined (map region_of (terms xs)) (region_of x.0) k l).1

  at_steady : (xs : List S) (z : ℤ) (k : ℕ) (ts us : List ℕ) (m h : ℕ) → SameTurns k ts us
      → (join_all (map region_of (terms xs))).loops ≤ k
      → arm_at (map (tops ns w) (terms xs)) z (at ts m h) ≡ arm_at (map (tops ns w) (terms xs)) z (at us m h)
  at_steady xs (pos i) k ts us m h s l = arm_steady xs i k ts us m h s l
  at_steady xs (negsuc i) k ts us m h s l = refl

  turns_steady : (x : S) (c i k : ℕ) (ts us : List ℕ) (m h : ℕ) → SameTurns k ts us → (region_of x.0).loops ≤ suc k
      → each_turn c (λ j. tops ns w x.0 (at (j ∷ ts) m h)) i ≡ each_turn c (λ j. tops ns w x.0 (at (j ∷ us) m h)) i
  unfolding each_turn
  turns_steady x zero i k ts us m h s l = refl
  turns_steady x (suc c) i k ts us m h s l
      = ap₂ (λ (a b : Tops). Both a b) (x.1 (suc k) (i ∷ ts) (i ∷ us) m h (same_next k i ts us s) l)
      (turns_steady x c (i + 1) k ts us m h s l)

  loop_steady : (c : Num) (x : S) (k : ℕ) (ts us : List ℕ) (m h : ℕ) → SameTurns k ts us
      → max (loops_in c) ((region_of x.0).loops - 1) ≤ k
      → each_turn (count c (env_at ns (at ts m h))) (λ j. tops ns w x.0 (at (j ∷ ts) m h)) 0
      ≡ each_turn (count c (env_at ns (at us m h))) (λ j. tops ns w x.0 (at (j ∷ us) m h)) 0
  loop_steady c x k ts us m h s l =
      ap (λ n. each_turn n (λ j. tops ns w x.0 (at (j ∷ ts) m h)) 0) (count_steady c k ts us m h s (omega (arith, l)))
      ∙ turns_steady x (count c (env_at ns (at us m h))) 0 k ts us m h s (omega (arith, l))

  scope_steady : (c : Option Num) (bs : List ℕ) (x : S) (k : ℕ) (ts us : List ℕ) (m h : ℕ) → SameTurns k ts us
      → (region_of (t.Within c bs x.0)).loops ≤ k
      → scope_tops ns w c bs (tops ns w x.0) (at ts m h) ≡ scope_tops ns w c bs (tops ns w x.0) (at us m h)
  scope_steady None bs x k ts us m h s l =
      let z = subst (λ (r : Region). r.loops ≤ k) (region_within None bs x.0) l in
      ap (λ (a : Tops). Open (record { node = m; held = capped (h + capped (w bs)) }) a)
      (x.1 k ts us m (capped (h + capped (w bs))) s z)
  scope_steady (Some c) bs x k ts us m h s l =
      let z = subst (λ (r : Region). r.loops ≤ k) (region_within (Some c) bs x.0) l in
      ap (λ i. at_child ns i (capped (w bs)) (tops ns w x.0) (at ts m h))
      (count_steady c k ts us m h s (below_left (loops_in c) (region_of x.0).loops k z))
      ∙ inner (count c (env_at ns (at us m h))) (below_right (loops_in c) (region_of x.0).loops k z)
    where
      inner : (i : ℕ) → (region_of x.0).loops ≤ k → at_child ns i (capped (w bs)) (tops ns w x.0) (at ts m h)
          ≡ at_child ns i (capped (w bs)) (tops ns w x.0) (at us m h)
      inner i z = ap (λ (a : Tops). if nat_lt i (node_at ns m).children then Open
          (record { node = child_at ns m i; held = capped (w bs) }) a else End)
          (x.1 k ts us (child_at ns m i) (capped (w bs)) s z)

  along : (x : Term) (f : TopsAt) (r : Region) → tops ns w x ≡ f → region_of x ≡ r
      → ((k : ℕ) (ts us : List ℕ) (m h : ℕ) → SameTurns k ts us → r.loops ≤ k → f (at ts m h) ≡ f (at us m h))
      → Steady x
  along x f r e g p k ts us m h s l =
      ap (λ (z : TopsAt). z (at ts m h)) e ∙ p k ts us m h s (subst (λ (r : Region). r.loops ≤ k) g l)
      ∙ sym (ap (λ (z : TopsAt). z (at us m h)) e)

  steady_step : (y : Term-F S) → Steady (roll-Term (map-Term S Term (λ x. x.0) y))
  steady_step Term-F.Skip = subst Steady (sym t.rolls-Skip)
      (along _ _ _ (top_skip ns w) region_skip (λ k ts us m h s l. refl))
  steady_step (Term-F.Act a) = subst Steady (sym (t.rolls-Act a))
      (along _ _ _ (top_act ns w a) (region_act a) (λ k ts us m h s l. refl))
  steady_step (Term-F.Seq xs) = subst Steady (sym (t.rolls-Seq (terms xs)))
      (along _ _ _ (top_seq ns w (terms xs)) (region_seq (terms xs)) (all_steady xs))
  steady_step (Term-F.Par xs) = subst Steady (sym (t.rolls-Par (terms xs)))
      (along _ _ _ (top_par ns w (terms xs)) (region_par (terms xs)) (all_steady xs))
  steady_step (Term-F.Loop c x) = subst Steady (sym (t.rolls-Loop c x.0))
      (along _ _ _ (top_loop ns w c x.0) (region_loop c x.0) (loop_steady c x))
  steady_step (Term-F.Spread c u x)
      = subst Steady (sym (t.rolls-Spread c u x.0))
      (along _ _ _ (top_spread ns w c u x.0) (region_spread c u x.0) (loop_steady c x))
  steady_step (Term-F.Case c xs) = subst Steady (sym (t.rolls-Case c (terms xs)))
      (along _ _ _ (top_case ns w c (terms xs)) (region_case c (terms xs)) (λ k ts us m h s l.
      ap (λ z. arm_at (map (tops ns w) (terms xs)) z (at ts m h))
      (value_fixed k ts us s (env_at ns (at ts m h)).children c
      (below_left (loops_in c) (join_all (map region_of (terms xs))).loops k l))
      ∙ at_steady xs (value c (env_at ns (at us m h))) k ts us m h s
      (below_right (loops_in c) (join_all (map region_of (terms xs))).loops k l)))
  steady_step (Term-F.Within c bs x) = subst Steady (sym (t.rolls-Within c bs x.0)) (λ k ts us m h s l.
      ap (λ (z : TopsAt). z (at ts m h)) (top_within ns w c bs x.0) ∙ scope_steady c bs x k ts us m h s l
      ∙ sym (ap (λ (z : TopsAt). z (at us m h)) (top_within ns w c bs x.0)))

  pub steady : (x : Term) → Steady x
  steady = ind-Term Steady (λ x y is. subst (λ z. Steady (roll-Term z)) is (steady_step y))

  -- what names no loop outside has the same scopes under any iterations
  pub closed_steady : (x : Term) (ts us : List ℕ) (m h : ℕ) → names_no_loop_outside x ≡ true → tops ns w x (at ts m h)
      ≡ tops ns w x (at us m h)
  closed_steady x ts us m h e = let z
      = eqb-true (region_of x).loops 0 e in steady x 0 ts us m h (λ d l. absurd (omega (arith, l))) (omega (arith, z))
