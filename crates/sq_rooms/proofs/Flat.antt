-- What the scopes of a flat term name is what those of its whole tree name.
use Rattle.std.proofs.Common.{◌≡◌, ℕ, suc, ◌+◌, Bool, true, false, ◌&&◌, Option, Some, None, List, [], ◌∷◌, ◌++◌, length, map, append-nil, ℤ, pos, negsuc, refl, sym, ap, ap₂, subst, ◌∙◌, arith}
use Rattle.std.specs.Prelude.{if◌then◌else◌, ◌==◌, nat_abs}
use Rattle.std.proofs.lemmas.Bool.{eq-eqb}
use Rattle.sq_ir.specs.declared.num.Num.{Num, roll-Num}
use Rattle.sq_ir.specs.declared.num.Num.TheVariants as num
use Rattle.sq_ir.specs.declared.num.Num.TheOpen.{Num-F}
use Rattle.sq_ir.specs.declared.num.Num.TheFolds as nums
use Rattle.sq_ir.specs.declared.num.Num.TheFolds.{ind-Num}
use Rattle.sq_ir.specs.declared.term.Term.{Term, roll-Term}
use Rattle.sq_ir.specs.declared.term.Term.TheVariants as t
use Rattle.sq_ir.specs.declared.term.Term.TheOpen.{Term-F}
use Rattle.sq_ir.specs.declared.term.Term.TheFolds.{ind-Term, map-Term}
use Rattle.sq_ir.specs.declared.plan.Plan.{Plan}
use Rattle.sq_ir.specs.Tree.{Skip, Act, Stuck, Seq, Par, Within}
use Rattle.sq_ir.specs.Written as written
use Rattle.sq_ir.specs.Written.{Setting, Env, PlanTree, Value, at_root, node_of, value_step, value_of, count_of, inside_of}
use Rattle.sq_ir.specs.Plans.{setting_of}
use Rattle.sq_check_laws.specs.Whole as trees
use Rattle.sq_check_laws.specs.Whole.{whole, whole_of, enclosed}
use Rattle.sq_check_laws.proofs.Equations.{whole_skip, whole_act, whole_seq, whole_par, whole_within}
use Rattle.sq_rooms.specs.Names.{weight, names_at, names}
use Rattle.sq_rooms.specs.Terms.{is_natural, plain_step, is_plain, plain_child, all, is_flat, natural, constant_step, constant, inside, Part, in_turn, beside, scoped, part, plan_names}
use Rattle.sq_rooms.proofs.Places.{part_skip, part_act, part_seq, part_par, part_within, flat_seq, flat_par, flat_loop, flat_spread, flat_case, flat_within, length-more}

no : false ≡ true → ⊥
no h = cc

both : (u v : Bool) → (u && v) ≡ true → (u ≡ true) × (v ≡ true)
both true v h = (refl, h)
both false v h = absurd (no h)

-- ---- how many names there are

length-at : (node first end : ℕ) (bs : List ℕ) → length (names_at node first end bs) ≡ length bs
length-at node first end [] = refl
length-at node first end (b ∷ bs) = let h = length-at node first end bs in omega (arith, h)

length-names : (n : ℕ) (x : PlanTree) → length (names n x) ≡ weight x
length-names n Skip = refl
length-names n (Act e) = refl
length-names n (Stuck e) = refl
length-names n (Seq a b) =
    let m = length-more (names n a) (names (n + weight a) b) in
    let p = length-names n a in
    let q = length-names (n + weight a) b in
    omega (arith, m, p, q)
length-names n (Par a b) =
    let m = length-more (names (n + weight b) a) (names n b) in
    let p = length-names (n + weight b) a in
    let q = length-names n b in
    omega (arith, m, p, q)
length-names n (Within s a) =
    let end = n + weight a + length s.buffers in
    let m = length-more (names n a) (names_at s.node n end s.buffers) in
    let p = length-names n a in
    let q = length-at s.node n end s.buffers in
    omega (arith, m, p, q)

enclosed-names : (n node : ℕ) (bs : List ℕ) (x : PlanTree) → names n (enclosed node bs x) ≡ scoped node bs n (names n x)
enclosed-names n node [] x = sym (append-nil (names n x))
enclosed-names n node (b ∷ bs) x = ap (λ w. names n x ++ names_at node n (n + w + length (b ∷ bs)) (b ∷ bs)) (sym (length-names n x))

-- ---- numbers that are written out

module _ (s : Setting) (env : Env) where
  abbrev IsSame : Num → Type 0
  IsSame x = is_plain x ≡ true → count_of s x env ≡ constant x

  abbrev K : Type 0
  K = (x : Num) × IsSame x

  same_const : (k : ℤ) → is_natural k ≡ true → nat_abs k ≡ natural k
  same_const (pos n) h = refl
  same_const (negsuc n) h = absurd (no h)

  same_step : (y : Num-F K) → IsSame (roll-Num (nums.map-Num K Num (λ p. p.0) y))
  same_step (Num-F.Const k) = λ h.
      ap (λ (f : Value). nat_abs (f env)) (nums.fold-roll-Num Value (value_step s) (Num-F.Const k))
      ∙ same_const k (sym (nums.fold-roll-Num Bool plain_step (Num-F.Const k)) ∙ h) ∙ sym (nums.fold-roll-Num ℕ constant_step (Num-F.Const k))
  same_step (Num-F.Index d) = λ h. absurd (no (sym (nums.fold-roll-Num Bool plain_step (Num-F.Index d)) ∙ h))
  same_step (Num-F.Add a b) = λ h. absurd (no (sym (nums.fold-roll-Num Bool plain_step (Num-F.Add a.0 b.0)) ∙ h))
  same_step (Num-F.Sub a b) = λ h. absurd (no (sym (nums.fold-roll-Num Bool plain_step (Num-F.Sub a.0 b.0)) ∙ h))
  same_step (Num-F.Mul a b) = λ h. absurd (no (sym (nums.fold-roll-Num Bool plain_step (Num-F.Mul a.0 b.0)) ∙ h))
  same_step (Num-F.Div a b) = λ h. absurd (no (sym (nums.fold-roll-Num Bool plain_step (Num-F.Div a.0 b.0)) ∙ h))
  same_step (Num-F.Rem a b) = λ h. absurd (no (sym (nums.fold-roll-Num Bool plain_step (Num-F.Rem a.0 b.0)) ∙ h))
  same_step (Num-F.Min a b) = λ h. absurd (no (sym (nums.fold-roll-Num Bool plain_step (Num-F.Min a.0 b.0)) ∙ h))
  same_step (Num-F.Pick ks a) = λ h. absurd (no (sym (nums.fold-roll-Num Bool plain_step (Num-F.Pick ks a.0)) ∙ h))
  same_step Num-F.Children = λ h. absurd (no (sym (nums.fold-roll-Num Bool plain_step Num-F.Children) ∙ h))

  same_count : (x : Num) → is_plain x ≡ true → count_of s x env ≡ constant x
  same_count = ind-Num IsSame (λ x y is. subst (λ z. IsSame (roll-Num z)) is (same_step y))

if_true : (v : Bool) (x y : ℕ) → v ≡ true → (if v then x else y) ≡ x
if_true true x y h = refl
if_true false x y h = absurd (no h)

-- ---- terms

module _ (p : Plan) where
  abbrev s : Setting
  s = setting_of p

  -- the node of a scope's body
  inside_is : (env : Env) (c : Option Num) → plain_child c ≡ true → node_of (inside_of s env c) ≡ inside p.nodes (node_of env) c
  inside_is env None h = refl
  inside_is env (Some c) h =
      let level = suc env.level in
      if_true (level == level) (s.child (node_of env) (count_of s c env)) (env.nodes level) (eq-eqb level level refl)
      ∙ ap (s.child (node_of env)) (same_count s env c h)

  abbrev Says : Term → Type 0
  Says x = is_flat x ≡ true → (env : Env) (n : ℕ) → part p.nodes x (node_of env) n ≡ names n (whole s x env)

  abbrev H : Type 0
  H = (x : Term) × Says x

  abbrev terms : List H → List Term
  terms ys = map (λ q. q.0) ys

  seq_row : (ys : List H) → all (map is_flat (terms ys)) ≡ true → (env : Env) (n : ℕ)
      → in_turn (map (part p.nodes) (terms ys)) (node_of env) n ≡ names n (trees.in_turn (map (whole s) (terms ys)) env)
  seq_row [] h env n = refl
  seq_row (y ∷ ys) h env n =
      let k = both (is_flat y.0) (all (map is_flat (terms ys))) h in
      let here = y.1 k.0 env n in
      ap₂ (λ xs m. xs ++ in_turn (map (part p.nodes) (terms ys)) (node_of env) (n + m)) here (ap length here ∙ length-names n (whole s y.0 env))
      ∙ ap (λ xs. names n (whole s y.0 env) ++ xs) (seq_row ys k.1 env (n + weight (whole s y.0 env)))

  par_row : (ys : List H) → all (map is_flat (terms ys)) ≡ true → (env : Env) (n : ℕ)
      → beside (map (part p.nodes) (terms ys)) (node_of env) n ≡ names n (trees.beside (map (whole s) (terms ys)) env)
  par_row [] h env n = refl
  par_row (y ∷ ys) h env n =
      let k = both (is_flat y.0) (all (map is_flat (terms ys))) h in
      let rest = trees.beside (map (whole s) (terms ys)) env in
      let after = par_row ys k.1 env n in
      ap₂ (λ m xs. part p.nodes y.0 (node_of env) (n + m) ++ xs) (ap length after ∙ length-names n rest) after
      ∙ ap (λ xs. xs ++ names n rest) (y.1 k.0 env (n + weight rest))

  -- along the equations of both
  along : (x : Term) (f : Part) (g : written.Part) (v : Bool) → part p.nodes x ≡ f → whole s x ≡ g → is_flat x ≡ v
      → (v ≡ true → (env : Env) (n : ℕ) → f (node_of env) n ≡ names n (g env)) → Says x
  along x f g v a b c h flat env n = ap (λ (k : Part). k (node_of env) n) a ∙ h (sym c ∙ flat) env n ∙ sym (ap (λ (k : written.Part). names n (k env)) b)

  bent : (x : Term) → is_flat x ≡ false → Says x
  bent x e flat env n = absurd (no (sym e ∙ flat))

  step : (y : Term-F H) → Says (roll-Term (map-Term H Term (λ q. q.0) y))
  step Term-F.Skip = subst Says (sym t.rolls-Skip) (λ flat env n. ap (λ (k : Part). k (node_of env) n) (part_skip p.nodes) ∙ sym (ap (λ (k : written.Part). names n (k env)) (whole_skip s)))
  step (Term-F.Act a) = subst Says (sym (t.rolls-Act a)) (λ flat env n. ap (λ (k : Part). k (node_of env) n) (part_act p.nodes a) ∙ sym (ap (λ (k : written.Part). names n (k env)) (whole_act s a)))
  step (Term-F.Seq ys) = subst Says (sym (t.rolls-Seq (terms ys))) (along (t.Seq (terms ys)) _ _ _ (part_seq p.nodes (terms ys)) (whole_seq s (terms ys)) (flat_seq (terms ys)) (seq_row ys))
  step (Term-F.Par ys) = subst Says (sym (t.rolls-Par (terms ys))) (along (t.Par (terms ys)) _ _ _ (part_par p.nodes (terms ys)) (whole_par s (terms ys)) (flat_par (terms ys)) (par_row ys))
  step (Term-F.Loop n y) = subst Says (sym (t.rolls-Loop n y.0)) (bent (t.Loop n y.0) (flat_loop n y.0))
  step (Term-F.Spread n r y) = subst Says (sym (t.rolls-Spread n r y.0)) (bent (t.Spread n r y.0) (flat_spread n r y.0))
  step (Term-F.Case n ys) = subst Says (sym (t.rolls-Case n (terms ys))) (bent (t.Case n (terms ys)) (flat_case n (terms ys)))
  step (Term-F.Within c bs y) =
      subst Says (sym (t.rolls-Within c bs y.0)) (along (t.Within c bs y.0) _ _ _ (part_within p.nodes c bs y.0) (whole_within s c bs y.0) (flat_within c bs y.0) (λ h env n.
      let k = both (plain_child c) (is_flat y.0) h in
      let inner = inside_of s env c in
      ap (λ node. scoped node bs n (part p.nodes y.0 node n)) (sym (inside_is env c k.0))
      ∙ ap (scoped (node_of inner) bs n) (y.1 k.1 inner n) ∙ sym (enclosed-names n (node_of inner) bs (whole s y.0 inner))))

  says : (x : Term) → Says x
  says = ind-Term Says (λ x y is. subst (λ z. Says (roll-Term z)) is (step y))

-- the names of a flat plan are those of its whole tree
pub plan-names : (p : Plan) → is_flat p.draft.term ≡ true → plan_names p ≡ names 0 (whole_of p)
plan-names p flat =
    let s = setting_of p in
    ap (scoped 0 p.draft.entry 0) (says p p.draft.term flat at_root 0) ∙ sym (enclosed-names 0 0 p.draft.entry (whole s p.draft.term at_root))

-- a number that is written out
pub plain-natural : (n : ℕ) → is_plain (num.Const (pos n)) ≡ true
plain-natural n = ap is_plain (sym (num.rolls-Const (pos n))) ∙ nums.fold-roll-Num Bool plain_step (Num-F.Const (pos n))
