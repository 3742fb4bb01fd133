-- Where the buffers of a level are laid one behind the other in a term, those of a node are stacked in the term written
-- out.
use Rattle.std.proofs.Common.{◌≡◌, ◌≢◌, Bool, true, false, ℕ, zero, suc, ◌+◌, ◌<◌, ◌≤◌, ◌^◌, List, [], ◌∷◌, ◌++◌, map}
use Rattle.std.proofs.Common.{ℤ, pos, negsuc, Option, Some, None, refl, sym, subst, ap, ◌∙◌, arith}
use Rattle.std.specs.Prelude.{if◌then◌else◌, ◌==◌, nat_lt}
use Rattle.std.specs.List.{All}
use Rattle.std.proofs.lemmas.Bool.{eqb-true, eqb-false, eq-eqb, ltb-true, ltb-false}
use Rattle.std.proofs.lemmas.List.Elements.{All-head, All-tail}
use Rattle.sq_ir.specs.Written.{Setting, Env, count_of, value_of, at_turn, node_of, inside_of}
use Rattle.sq_ir.specs.Plans.{AskedOfActions, AskedOfTerms, each_part, this_arm, IsChild, IsBuffer, Meets}
use Rattle.sq_ir.specs.declared.num.Num.{Num}
use Rattle.sq_ir.specs.declared.term.Term.{Term, roll-Term}
use Rattle.sq_ir.specs.declared.term.Term.TheVariants as t
use Rattle.sq_ir.specs.declared.term.Term.TheOpen.{Term-F}
use Rattle.sq_ir.specs.declared.term.Term.TheFolds.{ind-Term, map-Term}
use Rattle.sq_ir.proofs.Meeting.{meets_skip, meets_act, meets_seq, meets_par, meets_loop, meets_spread, meets_case}
use Rattle.sq_ir.proofs.Meeting.{meets_within}
use Rattle.sq_nests.specs.Nests as nests
use Rattle.sq_nests.specs.Nests.{Nest, End, Both, Open, Named, all_nests, named_in, Scopes, ScopesAt, scopes_of, all_at}
use Rattle.sq_nests.specs.Nests.{each_of}
use Rattle.sq_nests.specs.Stacks.{capped, total, at_node, sum_at, Stand, Stacked, those, Lie, AreLaid}
use Rattle.sq_nests.specs.Levels.{IsLayered}
use Rattle.sq_nests.proofs.Equations.{named_skip, named_act, named_seq, named_par, named_loop, named_spread, named_case}
use Rattle.sq_nests.proofs.Equations.{named_within, scopes_skip, scopes_act, scopes_seq, scopes_par, scopes_loop}
use Rattle.sq_nests.proofs.Equations.{scopes_spread, scopes_case, scopes_within}

capped_small : (n : ℕ) → n < 2 ^ 64 → capped n ≡ n
unfolding capped
capped_small n h = omega (arith, h)

-- ---- buffers of one level among those of a scope

module _ (s : Setting) (here : ℕ → Bool) (level : ℕ) (tests : (b : ℕ) → b < s.buffers → here b ≡ (s.level b == level))
  where
    all_those : (at : ℕ) (bs : List ℕ) → at ≡ level → All (IsBuffer s at) bs → those here bs ≡ bs
    all_those at [] e h = refl
    all_those at (b ∷ bs) e h = by (here b)
        (tests b (All-head (IsBuffer s at) b bs h).there
        ∙ eq-eqb (s.level b) level ((All-head (IsBuffer s at) b bs h).level ∙ e))
        ∙ ap (λ l. b ∷ l) (all_those at bs e (All-tail (IsBuffer s at) b bs h))
      where
        by : (v : Bool) → v ≡ true → (if v then b ∷ those here bs else those here bs) ≡ b ∷ those here bs
        by true e = refl
        by false e = absurd (let z = e in cc)

    none_those : (at : ℕ) (bs : List ℕ) → at ≢ level → All (IsBuffer s at) bs → those here bs ≡ []
    none_those at [] e h = refl
    none_those at (b ∷ bs) e h = by (here b) refl ∙ none_those at bs e (All-tail (IsBuffer s at) b bs h)
      where
        by : (v : Bool) → here b ≡ v → (if v then b ∷ those here bs else those here bs) ≡ those here bs
        by true q = absurd (e (sym (All-head (IsBuffer s at) b bs h).level ∙ eqb-true (s.level b) level
            (sym (tests b (All-head (IsBuffer s at) b bs h).there) ∙ q)))
        by false q = refl

module _ (s : Setting) (depth : ℕ → ℕ) (layered : IsLayered s depth) (asked : AskedOfActions) (here : ℕ → Bool)
    (offset : ℕ → ℕ)
    (node : ℕ) (tests : (b : ℕ) → b < s.buffers → here b ≡ (s.level b == depth node)) where
  abbrev level : ℕ
  level = depth node

  abbrev size : ℕ → ℕ
  size = s.size

  -- the nodes in force have their levels
  abbrev InForce : Env → Type 0
  InForce env = (l : ℕ) → l ≤ env.level → depth (env.nodes l) ≡ l

  -- what is round a part: at the node, the outer buffers end at `top`; above its level there is none
  pub record IsRound (env : Env) (base top : ℕ) : Type 0 where
    pub at : level ≤ env.level → env.nodes level ≡ node → top ≡ base
    pub above : env.level < level → (base ≡ 0) × (top ≡ 0)

  -- a scope's buffers stand where the stack says
  on_stack : (bs : List ℕ) (base top : ℕ) → Lie offset size base bs → top ≡ base → top + total size bs < 2 ^ 64
      → Stand offset size top bs
  on_stack [] base top h e l = tt
  on_stack (b ∷ bs) base top h e l = (
    h.0 ∙ capped_small base (omega (arith, e, l))
        ∙ sym e,
    on_stack bs (base + size b) (top + size b) h.1 (omega (arith, e)) (omega (arith, l)),
  )

  -- a part is stacked from `top` on
  abbrev IsGood : Term → Type 0
  IsGood x = (env : Env) (bs : List ℕ) (base top : ℕ) → Meets s asked x env bs
      → AreLaid here offset size base (named_in x) → InForce env → IsRound env base top
      → top + sum_at (total size) node (scopes_of s x env) < 2 ^ 64 → Stacked offset size node top (scopes_of s x env)

  abbrev G : Type 0
  G = (x : Term) × IsGood x

  abbrev terms : List G → List Term
  terms xs = map (λ p. p.0) xs

  seq_good : (xs : List G) (env : Env) (bs : List ℕ) (base top : ℕ) → each_part (Meets s asked) (terms xs) env bs
      → AreLaid here offset size base (all_nests (map named_in (terms xs))) → InForce env → IsRound env base top
      → top + sum_at (total size) node (all_at (map (scopes_of s) (terms xs)) env) < 2 ^ 64
      → Stacked offset size node top (all_at (map (scopes_of s) (terms xs)) env)
  seq_good [] env bs base top m h f r l = tt
  seq_good (x ∷ xs) env bs base top m h f r l
      = (x.1 env bs base top m.0 h.0 f r (omega (arith, l)), seq_good xs env bs base top m.1 h.1 f r (omega (arith, l)))

  arm_good : (xs : List G) (k : ℕ) (env : Env) (bs : List ℕ) (base top : ℕ)
      → this_arm (Meets s asked) (terms xs) (pos k) env bs
      → AreLaid here offset size base (all_nests (map named_in (terms xs))) → InForce env → IsRound env base top
      → top + sum_at (total size) node (nests.arm_of (map (scopes_of s) (terms xs)) k env) < 2 ^ 64
      → Stacked offset size node top (nests.arm_of (map (scopes_of s) (terms xs)) k env)
  arm_good [] k env bs base top m h f r l = tt
  arm_good (x ∷ xs) zero env bs base top m h f r l = x.1 env bs base top m h.0 f r l
  arm_good (x ∷ xs) (suc k) env bs base top m h f r l = arm_good xs k env bs base top m h.1 f r l

  at_good : (xs : List G) (z : ℤ) (env : Env) (bs : List ℕ) (base top : ℕ)
      → this_arm (Meets s asked) (terms xs) z env bs
      → AreLaid here offset size base (all_nests (map named_in (terms xs))) → InForce env → IsRound env base top
      → top + sum_at (total size) node (nests.arm_at (map (scopes_of s) (terms xs)) z env) < 2 ^ 64
      → Stacked offset size node top (nests.arm_at (map (scopes_of s) (terms xs)) z env)
  at_good xs (pos k) env bs base top m h f r l = arm_good xs k env bs base top m h f r l
  at_good xs (negsuc k) env bs base top m h f r l = tt

  turns_good : (x : G) (k i : ℕ) (env : Env) (bs : List ℕ) (base top : ℕ)
      → ((j : ℕ) → j < i + k → Meets s asked x.0 (at_turn env j) bs) → AreLaid here offset size base (named_in x.0)
      → InForce env → IsRound env base top
      → top + sum_at (total size) node (each_of k (λ t. scopes_of s x.0 (at_turn env t)) i) < 2 ^ 64
      → Stacked offset size node top (each_of k (λ t. scopes_of s x.0 (at_turn env t)) i)
  unfolding each_of
  turns_good x zero i env bs base top m h f r l = tt
  turns_good x (suc k) i env bs base top m h f r l = (
    x.1 (at_turn env i) bs base top (m i (omega arith)) h f (record { at = r.at; above = r.above }) (omega (arith, l)),
    turns_good x k (i + 1) env bs base top (λ j z. m j (omega (arith, z))) h f r (omega (arith, l)),
  )

  -- the body of a scope
  inside_force : (env : Env) (c : Option Num) → IsChild s env c → InForce env → InForce (inside_of s env c)
  inside_force env None h f = f
  inside_force env (Some c) h f = λ l le. by l (l == suc env.level) refl le
    where
      by : (l : ℕ) (v : Bool) → (l == suc env.level) ≡ v → l ≤ suc env.level
          → depth (if v then s.child (node_of env) (count_of s c env) else env.nodes l) ≡ l
      by l true e le = layered.below (node_of env) (count_of s c env) h.1 ∙ ap suc (f env.level (omega arith))
          ∙ sym (eqb-true l (suc env.level) e)
      by l false e le = let z = eqb-false l (suc env.level) e in f l (omega (arith, le, z))

  -- deeper than a level the node in force there stays
  stays : (env : Env) (c : Option Num) → level ≤ env.level → (inside_of s env c).nodes level ≡ env.nodes level
  stays env None h = refl
  stays env (Some c) h = by (level == suc env.level) refl
    where
      by : (v : Bool) → (level == suc env.level) ≡ v
          → (if v then s.child (node_of env) (count_of s c env) else env.nodes level) ≡ env.nodes level
      by true e = let z = eqb-true level (suc env.level) e in absurd (omega (arith, h, z))
      by false e = refl

  -- the level of a scope's body is that of the scope round it, or the next
  next_level : (env : Env) (c : Option Num) → (env.level ≤ (inside_of s env c).level)
      × ((inside_of s env c).level ≤ suc env.level)
  next_level env None = (omega arith, omega arith)
  next_level env (Some c) = (omega arith, omega arith)

  same_level : (env : Env) (c : Option Num) → (inside_of s env c).level ≡ env.level → inside_of s env c ≡ env
  same_level env None e = refl
  same_level env (Some c) e = absurd (omega (arith, e))

  -- the buffers of the scope, and what is round its body
  pub record IsEntered (env : Env) (c : Option Num) (new : List ℕ) (base top : ℕ) : Type 0 where
    pub stand_ : Stand offset size top (at_node node (record { node = node_of (inside_of s env c); buffers = new }))
    pub round : IsRound (inside_of s env c) (base + total size (those here new))
        (top + total size (at_node node (record { node = node_of (inside_of s env c); buffers = new })))

  module _ (env : Env) (c : Option Num) (new : List ℕ) (base top : ℕ) (child : IsChild s env c)
      (are : All (IsBuffer s (inside_of s env c).level) new)
      (on : Lie offset size base (those here new)) (f : InForce env) (r : IsRound env base top)
      (low : top + total size (at_node node (record { node = node_of (inside_of s env c); buffers = new })) < 2 ^ 64)
    where
      abbrev inner : Env
      inner = inside_of s env c

      abbrev mine : List ℕ
      mine = at_node node (record { node = node_of inner; buffers = new })

      deep : depth (node_of inner) ≡ inner.level
      deep = inside_force env c child f inner.level (omega arith)

      -- at another node none of the buffers counts
      other : node_of inner ≢ node → mine ≡ []
      other ne = by (node_of inner == node) refl
        where
          by : (v : Bool) → (node_of inner == node) ≡ v → (if v then new else []) ≡ []
          by true e = absurd (ne (eqb-true (node_of inner) node e))
          by false e = refl

      same : node_of inner ≡ node → mine ≡ new
      same e = by (node_of inner == node) (eq-eqb (node_of inner) node e)
        where
          by : (v : Bool) → v ≡ true → (if v then new else []) ≡ new
          by true e = refl
          by false e = absurd (let z = e in cc)

      enters : (ours : List ℕ) (there : List ℕ) → mine ≡ ours → those here new ≡ there → Stand offset size top ours
          → IsRound inner (base + total size there) (top + total size ours) → IsEntered env c new base top
      enters ours there e g st ro = record {
        stand_ = subst (λ z. Stand offset size top z) (sym e) st;
        round = subst (λ z. IsRound inner (base + total size z) (top + total size mine)) (sym g)
            (subst (λ z. IsRound inner (base + total size there) (top + total size z)) (sym e) ro);
      }

      -- at another level nothing changes
      elsewhere : inner.level ≢ level → IsEntered env c new base top
      elsewhere ne =
          enters [] [] (other (λ e. ne (sym deep ∙ ap depth e))) (none_those s here level tests inner.level new ne are) tt
          (record {
            at = λ le e. let b : level ≤ env.level = (let n = next_level env c in omega (arith, le, ne, n.1)) in let w
                = r.at b (sym (stays env c b) ∙ e) in omega (arith, w);
            above = λ lt. let n = next_level env c in let w = r.above (omega (arith, lt, n.0)) in let u = w.0 in let v
                = w.1 in (omega (arith, u), omega (arith, v));
          })

      -- what the outer buffers come to where the scope is at the node's level
      top_is : inner.level ≡ level → node_of inner ≡ node → top ≡ base
      top_is e g = by (nat_lt env.level level) refl
        where
          by : (v : Bool) → nat_lt env.level level ≡ v → top ≡ base
          by true q = let w = r.above (ltb-true env.level level q) in w.1 ∙ sym w.0
          by false q =
              let z = ltb-false env.level level q in
              let n = next_level env c in
              let k : inner ≡ env = same_level env c (omega (arith, z, n.0, e)) in
              r.at (omega (arith, z)) (ap (λ (w : Env). w.nodes level) (sym k) ∙ ap inner.nodes (sym e) ∙ g)

      at_level : inner.level ≡ level → IsEntered env c new base top
      at_level e = by (node_of inner == node) refl
        where
          none_above : (o u : ℕ) → inner.level < level → (o ≡ 0) × (u ≡ 0)
          none_above o u lt = absurd (omega (arith, lt, e))

          by : (v : Bool) → (node_of inner == node) ≡ v → IsEntered env c new base top
          by true q =
              let g = eqb-true (node_of inner) node q in
              let a = all_those s here level tests inner.level new e are in
              let w = top_is e g in
              let small = subst (λ z. top + total size z < 2 ^ 64) (same g) low in
              enters new new (same g) a (on_stack new base top (subst (Lie offset size base) a on) w small)
              (record {
                at = λ le h. omega (arith, w);
                above
                    = λ lt. none_above (base + total size new) (top + total size new) lt;
              })
          by false q =
              let ne = eqb-false (node_of inner) node q in
              enters [] (those here new) (other ne) refl tt
              (record {
                at = λ le h. absurd (ne (ap inner.nodes e ∙ h));
                above
                    = λ lt. none_above (base + total size (those here new)) (top + 0) lt;
              })

      entered : IsEntered env c new base top
      entered = by (inner.level == level) refl
        where
          by : (v : Bool) → (inner.level == level) ≡ v → IsEntered env c new base top
          by true e = at_level (eqb-true inner.level level e)
          by false e = elsewhere (eqb-false inner.level level e)

  -- along the equations of what is asked, of the named scopes and of the scopes
  along : (x : Term) (a : AskedOfTerms) (m : Named) (n : ScopesAt) → Meets s asked x ≡ a → named_in x ≡ m
      → scopes_of s x ≡ n
      → ((env : Env) (bs : List ℕ) (base top : ℕ) → a env bs → AreLaid here offset size base m → InForce env
      → IsRound env base top → top + sum_at (total size) node (n env) < 2 ^ 64 → Stacked offset size node top (n env))
      → IsGood x
  along x a m n p q e h env bs base top k b f r l =
      subst (λ (z : ScopesAt). Stacked offset size node top (z env)) (sym e)
      (h env bs base top (subst (λ (z : AskedOfTerms). z env bs) p k) (subst (AreLaid here offset size base) q b) f r
      (subst (λ (z : ScopesAt). top + sum_at (total size) node (z env) < 2 ^ 64) e l))

  good_step : (y : Term-F G) → IsGood (roll-Term (map-Term G Term (λ p. p.0) y))
  good_step Term-F.Skip = subst IsGood (sym t.rolls-Skip)
      (along _ _ _ _ (meets_skip s asked) named_skip (scopes_skip s) (λ env bs base top m h f r l. tt))
  good_step (Term-F.Act a) = subst IsGood (sym (t.rolls-Act a))
      (along _ _ _ _ (meets_act s asked a) (named_act a) (scopes_act s a) (λ env bs base top m h f r l. tt))
  good_step (Term-F.Seq xs) = subst IsGood (sym (t.rolls-Seq (terms xs)))
      (along _ _ _ _ (meets_seq s asked (terms xs)) (named_seq (terms xs)) (scopes_seq s (terms xs)) (seq_good xs))
  good_step (Term-F.Par xs) = subst IsGood (sym (t.rolls-Par (terms xs)))
      (along _ _ _ _ (meets_par s asked (terms xs)) (named_par (terms xs)) (scopes_par s (terms xs)) (seq_good xs))
  good_step (Term-F.Loop k x) = subst IsGood (sym (t.rolls-Loop k x.0))
      (along _ _ _ _ (meets_loop s asked k x.0) (named_loop k x.0) (scopes_loop s k x.0) (λ env bs base top m h f r l.
      turns_good x (count_of s k env) 0 env bs base top (λ j z. m.1 j (omega (arith, z))) h f r l))
  good_step (Term-F.Spread k u x)
      = subst IsGood (sym (t.rolls-Spread k u x.0))
      (along _ _ _ _ (meets_spread s asked k u x.0) (named_spread k u x.0) (scopes_spread s k u x.0)
      (λ env bs base top m h f r l.
      turns_good x (count_of s k env) 0 env bs base top (λ j z. m.2 j (omega (arith, z))) h f r l))
  good_step (Term-F.Case k xs) = subst IsGood (sym (t.rolls-Case k (terms xs)))
      (along _ _ _ _ (meets_case s asked k (terms xs)) (named_case k (terms xs)) (scopes_case s k (terms xs))
      (λ env bs base top m h f r l.
      at_good xs (value_of s k env) env bs base top m.1 h f r l))
  good_step (Term-F.Within c new x)
      = subst IsGood (sym (t.rolls-Within c new x.0))
      (along _ _ _ _ (meets_within s asked c new x.0) (named_within c new x.0) (scopes_within s c new x.0)
      (λ env bs base top m h f r l.
      let low : top + total size (at_node node (record { node = node_of (inside_of s env c); buffers = new })) < 2 ^ 64
      = omega (arith, l) in
      let e = entered env c new base top m.0 m.1 h.0 f r low in (
        e.stand_,
        x.1 (inside_of s env c) (new ++ bs) (base + total size (those here new))
            (top + total size (at_node node (record { node = node_of (inside_of s env c); buffers = new }))) m.2 h.1
            (inside_force env c m.0 f) e.round (omega (arith, l)),
      )))

  pub are_stacked : (x : Term) → IsGood x
  are_stacked = ind-Term IsGood (λ x y is. subst (λ z. IsGood (roll-Term z)) is (good_step y))
