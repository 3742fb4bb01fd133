-- What stands within one another in a loop whose transfers overlap: the two sets, and in each iteration its work.
use Rattle.std.proofs.Common.{◌≡◌, ℕ, zero, suc, ◌+◌, ◌-◌, ◌*◌, ◌/◌, ◌%◌, ◌<◌, ◌≤◌, max, ℤ, pos, negsuc}
use Rattle.std.proofs.Common.{Bool, true, false, List, [], ◌∷◌, map, Some, None, refl, sym, ap, ap₂, subst, ◌∙◌, arith}
use Rattle.std.proofs.Common.{if◌then◌else◌}
use Rattle.std.specs.Prelude.{nat_abs}
use Rattle.std.specs.List.{range_with_len}
use Rattle.std.proofs.Math.Nat.{mod-lt, div-eq_of_lt}
use Rattle.std.proofs.lemmas.Nat.{le-div, div_below}
use Rattle.sq_text.specs.declared.spread.SpreadRule.{SpreadRule}
use Rattle.sq_text.specs.declared.spread.SpreadRule.TheVariants.{Cyclic, Blocked}
use Rattle.sq_ir.specs.Lifting.{lift}
use Rattle.sq_ir.specs.Written.{Setting, Env, value_of, count_of, at_turn, node_of, inside_of}
use Rattle.sq_ir.specs.declared.num.Num.{Num}
use Rattle.sq_ir.specs.declared.num.Num.TheVariants as n
use Rattle.sq_ir.specs.declared.term.Term.{Term}
use Rattle.sq_ir.specs.declared.term.Term.TheVariants as term
use Rattle.sq_nests.specs.Nests.{Scopes, ScopesAt, each_of, arm_at, scopes_of}
use Rattle.sq_nests.specs.Stacks.{total}
use Rattle.sq_nests.proofs.Equations.{scopes_seq, scopes_par, scopes_loop, scopes_spread, scopes_case}
use Rattle.sq_placed.specs.Trees.{is_held}
use Rattle.sq_term.specs.declared.context.Context.{Context}
use Rattle.sq_term.specs.declared.context.Lane.{Lane}
use Rattle.sq_term.specs.declared.context.Move.{Move}
use Rattle.sq_term.specs.Terms.{lift_context, lift_lane, whole_lane, lane_start, lane_at, iteration, at_iteration}
use Rattle.sq_term.specs.Terms.{by_set, where_some, come_in_term, fill_held_term, come_term, leave_term, at_position}
use Rattle.sq_term.specs.Terms.{turn_term, lane_term, each_child, lanes_term, bring_term, back_term}
use Rattle.sq_term.specs.Stands.{IsNumber}
use Rattle.sq_term.proofs.Numbers.{const_is, index_is, div_is, rem_is, add_is, some_is, children_is, lifted_is}
use Rattle.sq_term.proofs.Numbers.{constant, sum, difference, product, quotient, index}
use Rattle.sq_term.proofs.Lanes.{blocked_rises, lane_many}
use Rattle.sq_plan_good.specs.Sums.{greatest, here}
use Rattle.sq_plan_good.proofs.Terms.{number_itself, of_scopes, of_term, Quiet, skip_quiet, if_quiet, bring_quiet}
use Rattle.sq_plan_good.proofs.Terms.{back_quiet, par_quiet, within_sum, turns_stay}

-- nothing for no iterations
abbrev pub none_or : (many worth : ℕ) → ℕ
none_or zero w = 0
none_or (suc m) w = w

once : (f : ℕ) → 0 < f → f / f ≡ 1
once f l =
    let z = le-div 1 f f l (omega arith) in
    let y = div_below f f 2 l (omega (arith, l)) in
    omega (arith, z, y)

-- ---- the number of a child's iterations

pub lane_number : (s : Setting) (turns : List ℕ) (rule : SpreadRule) (count : Num) (m f d : ℕ) → d < f
    → IsNumber s turns count m
    → IsNumber s (d ∷ f ∷ turns) (lane_at rule (lift 1 (lift 1 count)) (n.Index 1) (n.Index 0)).many
    (lane_many rule m f d)
lane_number s turns rule count m f d lt is = many rule
  where
    ts : List ℕ
    ts = d ∷ f ∷ turns

    counts : IsNumber s (d ∷ f ∷ turns) (lift 1 (lift 1 count)) m
    counts = lifted_is s (f ∷ turns) (lift 1 count) m d (lifted_is s turns count m f is)

    its : IsNumber s (d ∷ f ∷ turns) (n.Index 0) d
    its = index s (d ∷ f ∷ turns) 0

    all : IsNumber s (d ∷ f ∷ turns) (n.Index 1) f
    all = index s (d ∷ f ∷ turns) 1

    one : IsNumber s (d ∷ f ∷ turns) (n.Const (pos 1)) 1
    one = constant s (d ∷ f ∷ turns) 1

    less : IsNumber s (d ∷ f ∷ turns) (n.Sub (n.Index 1) (n.Const (pos 1))) (f - 1)
    less = difference s (d ∷ f ∷ turns) (n.Index 1) (n.Const (pos 1)) f 1 (f - 1) (omega (arith, lt)) all one

    start : (x : Num) (i : ℕ) → IsNumber s (d ∷ f ∷ turns) x i
        → IsNumber s (d ∷ f ∷ turns) (lane_start (lift 1 (lift 1 count)) (n.Index 1) x) ((i * m + (f - 1)) / f)
    start x i h = quotient s (d ∷ f ∷ turns) _ (n.Index 1) (i * m + (f - 1)) f
        (sum s (d ∷ f ∷ turns) _ _ (i * m) (f - 1)
        (product s (d ∷ f ∷ turns) x (lift 1 (lift 1 count)) i m h counts) less) all

    many : (r : SpreadRule) → IsNumber s (d ∷ f ∷ turns)
        (lane_at r (lift 1 (lift 1 count)) (n.Index 1) (n.Index 0)).many (lane_many r m f d)
    many Cyclic = quotient s (d ∷ f ∷ turns) _ (n.Index 1) (m + (f - 1) - d) f
        (difference s (d ∷ f ∷ turns) _ (n.Index 0) (m + (f - 1)) d (m + (f - 1) - d) (omega (arith, lt))
        (sum s (d ∷ f ∷ turns) (lift 1 (lift 1 count)) _ m (f - 1) counts less) its) all
    many Blocked =
        let rises = blocked_rises m f d (omega (arith, lt)) in
        difference s (d ∷ f ∷ turns) _ _ (((d + 1) * m + (f - 1)) / f) ((d * m + (f - 1)) / f)
        (lane_many Blocked m f d) (omega (arith, rises))
        (start (n.Add (n.Index 0) (n.Const (pos 1))) (d + 1)
        (sum s (d ∷ f ∷ turns) (n.Index 0) (n.Const (pos 1)) d 1 its one))
        (start (n.Index 0) d its)

module _ (s : Setting) (x : ℕ) where
  abbrev none_at : Term → Type 0
  none_at = Quiet s x

  -- ---- all of a list

  all_same : (m : ℕ) (f : ℕ → Scopes) (t w : ℕ) → ((i : ℕ) → of_scopes s x (f i) ≡ w)
      → of_scopes s x (each_of (suc m) f t) ≡ w
  unfolding each_of
  all_same zero f t w h = let e = h t in omega (arith, e)
  all_same (suc m) f t w h =
      let e = h t in
      let ih = all_same m f (t + 1) w h in
      omega (arith, e, ih)

  -- nothing before the last
  last_one : (m : ℕ) (f : ℕ → Scopes) (t : ℕ) → ((i : ℕ) → t ≤ i → i < t + m → of_scopes s x (f i) ≡ 0)
      → of_scopes s x (each_of (suc m) f t) ≡ of_scopes s x (f (t + m))
  unfolding each_of
  last_one zero f t h =
      let z : t ≡ t + 0 = omega arith in
      let y = of_scopes s x (f t) in
      let p : max y 0 ≡ y = omega arith in
      p ∙ ap (λ (i : ℕ). of_scopes s x (f i)) z
  last_one (suc m) f t h =
      let e = h t (omega arith) (omega arith) in
      let z : t + 1 + m ≡ t + suc m = omega arith in
      let ih = last_one m f (t + 1) (λ i l u. h i (omega (arith, l)) (omega (arith, u))) in
      let q = ap (λ (i : ℕ). of_scopes s x (f i)) z in
      omega (arith, e, ih, q)

  all_greatest : (m : ℕ) (f : ℕ → Scopes) (w : ℕ → ℕ) (t : ℕ)
      → ((i : ℕ) → t ≤ i → i < t + m → of_scopes s x (f i) ≡ w i)
      → of_scopes s x (each_of m f t) ≡ greatest w (range_with_len t m)
  unfolding each_of
  all_greatest zero f w t h = refl
  all_greatest (suc m) f w t h = ap₂ max (h t (omega arith) (omega arith))
      (all_greatest m f w (t + 1) (λ i l u. h i (omega (arith, l)) (omega (arith, u))))

  -- ---- what comes and goes has no scope

  two_quiet : (p : Num) (a b : Term) → none_at a → none_at b → none_at (term.Case p (a ∷ b ∷ []))
  two_quiet p a b f g env = ap (λ (h : ScopesAt). of_scopes s x (h env)) (scopes_case s p (a ∷ b ∷ []))
      ∙ by (value_of s p env)
    where
      by : (z : ℤ) → of_scopes s x (arm_at (map (scopes_of s) (a ∷ b ∷ [])) z env) ≡ 0
      by (pos zero) = f env
      by (pos (suc zero)) = g env
      by (pos (suc (suc k))) = refl
      by (negsuc k) = refl

  where_quiet : (k : Num) (y : Term) → none_at y → none_at (where_some k y)
  where_quiet k y h = two_quiet (n.Min k (n.Const (pos 1))) term.Skip y (skip_quiet s x) h

  position_quiet : (starts : List ℕ) (l : Lane) (c : Context) (p : Num) (f : ℕ → Context → Term)
      → ((set : ℕ) (d : Context) → none_at (f set d)) → none_at (at_position starts l c p f)
  position_quiet starts l c p f h = two_quiet (n.Rem p (n.Const (pos 2)))
      (f 0 (at_iteration starts (iteration l p) c)) (f 1 (at_iteration starts (iteration l p) c))
      (h 0 (at_iteration starts (iteration l p) c)) (h 1 (at_iteration starts (iteration l p) c))

  come_in_quiet : (m : Move) → none_at (come_in_term m)
  come_in_quiet m = by (is_held m.home)
    where
      by : (v : Bool) → none_at (if v then term.Skip else bring_term m)
      by true = skip_quiet s x
      by false = bring_quiet s x m

  pub come_quiet : (ms : List Move) → none_at (come_term ms)
  come_quiet ms = par_quiet s x come_in_term come_in_quiet ms

  pub leave_quiet : (ms : List Move) → none_at (leave_term ms)
  leave_quiet ms = par_quiet s x back_term (back_quiet s x) ms

  pub fill_quiet : (ms : List Move) → none_at (term.Par (map fill_held_term ms))
  fill_quiet ms
      = par_quiet s x fill_held_term (λ m. if_quiet s x (is_held m.home) (bring_term m) (bring_quiet s x m)) ms

  -- ---- a lane

  set_sum : (p : Num) (f : ℕ → Term) (env : Env) (j w : ℕ) → value_of s p env ≡ pos j
      → ((set : ℕ) → of_term s x (f set) env ≡ w) → of_term s x (by_set p f) env ≡ w
  set_sum p f env j w is h =
      ap (λ (g : ScopesAt). of_scopes s x (g env)) (scopes_case s (n.Rem p (n.Const (pos 2))) (f 0 ∷ f 1 ∷ []))
      ∙ ap (λ z. of_scopes s x (arm_at (map (scopes_of s) (f 0 ∷ f 1 ∷ [])) z env))
      (rem_is s env p (n.Const (pos 2)) j 2 is (const_is s env (pos 2)))
      ∙ by (j % 2) (mod-lt j (omega arith))
    where
      by : (r : ℕ) → r < 2 → of_scopes s x (arm_at (map (scopes_of s) (f 0 ∷ f 1 ∷ [])) (pos r) env) ≡ w
      by zero l = h 0
      by (suc zero) l = h 1
      by (suc (suc r)) l = absurd (omega (arith, l))

  module _ (come work leave : ℕ → Context → Term) (comes : (set : ℕ) (c : Context) → none_at (come set c))
      (leaves : (set : ℕ) (c : Context) → none_at (leave set c)) (w : ℕ → ℕ)
      (works : (set : ℕ) (c : Context) (env : Env) (to : ℕ) → node_of env ≡ to → of_term s x (work set c) env ≡ w to)
      (starts : List ℕ) where
    turn_sum : (l : Lane) (c : Context) (env : Env) (to j : ℕ) → node_of env ≡ to
        → of_term s x (turn_term starts l c come work leave) (at_turn env j) ≡ w to
    turn_sum l c env to j at =
        let one = set_sum (n.Index 0) (λ set. work set (at_iteration starts (iteration l (n.Index 0)) c))
        (at_turn env j) j (w to) (index_is s (at_turn env j) 0)
        (λ set. works set (at_iteration starts (iteration l (n.Index 0)) c) (at_turn env j) to at) in
        let before = where_quiet (n.Index 0) _
        (position_quiet starts l c (n.Sub (n.Index 0) (n.Const (pos 1))) leave leaves) (at_turn env j) in
        let after = where_quiet (n.Sub (n.Sub l.many (n.Const (pos 1))) (n.Index 0)) _
        (position_quiet starts l c (n.Add (n.Index 0) (n.Const (pos 1))) come comes) (at_turn env j) in
        let beside : of_term s x (term.Seq
        (where_some (n.Index 0) (at_position starts l c (n.Sub (n.Index 0) (n.Const (pos 1))) leave)
        ∷ where_some (n.Sub (n.Sub l.many (n.Const (pos 1))) (n.Index 0))
        (at_position starts l c (n.Add (n.Index 0) (n.Const (pos 1))) come) ∷ [])) (at_turn env j) ≡ 0
        = ap (λ (f : ScopesAt). of_scopes s x (f (at_turn env j))) (scopes_seq s _) ∙ omega (arith, before, after) in
        ap (λ (f : ScopesAt). of_scopes s x (f (at_turn env j))) (scopes_par s _) ∙ omega (arith, one, beside)

    pub lane_sum : (l : Lane) (c : Context) (env : Env) (to m : ℕ) → node_of env ≡ to → value_of s l.many env ≡ pos m
        → of_term s x (lane_term starts l c come work leave) env ≡ none_or m (w to)
    lane_sum l c env to m at is =
        ap (λ (g : ScopesAt). of_scopes s x (g env))
        (scopes_case s (n.Min l.many (n.Const (pos 1))) (term.Skip ∷ whole ∷ []))
        ∙ by m is
      where
        positions : Term
        positions = term.Loop l.many (turn_term starts (lift_lane l) (lift_context c) come work leave)

        first : Term
        first = come 0 (at_iteration starts l.first c)

        last : Term
        last = at_position starts l c (n.Sub l.many (n.Const (pos 1))) leave

        whole : Term
        whole = term.Seq (first ∷ positions ∷ last ∷ [])

        loop : (k : ℕ) → value_of s l.many env ≡ pos (suc k) → of_term s x positions env ≡ w to
        loop k e =
            ap (λ (g : ScopesAt). of_scopes s x (g env))
            (scopes_loop s l.many (turn_term starts (lift_lane l) (lift_context c) come work leave))
            ∙ ap (λ z. of_scopes s x (each_of (nat_abs z)
            (λ t. scopes_of s (turn_term starts (lift_lane l) (lift_context c) come work leave) (at_turn env t)) 0)) e
            ∙ all_same k _ 0 (w to) (λ j. turn_sum (lift_lane l) (lift_context c) env to j at)

        by : (k : ℕ) → value_of s l.many env ≡ pos k
            → of_scopes s x (arm_at (map (scopes_of s) (term.Skip ∷ whole ∷ []))
            (value_of s (n.Min l.many (n.Const (pos 1))) env) env)
            ≡ none_or k (w to)
        by zero e =
            ap (λ z. of_scopes s x (arm_at (map (scopes_of s) (term.Skip ∷ whole ∷ [])) z env))
            (some_is s env l.many 0 e)
            ∙ skip_quiet s x env
        by (suc k) e =
            let a = comes 0 (at_iteration starts l.first c) env in
            let b = loop k e in
            let d = position_quiet starts l c (n.Sub l.many (n.Const (pos 1))) leave leaves env in
            ap (λ z. of_scopes s x (arm_at (map (scopes_of s) (term.Skip ∷ whole ∷ [])) z env))
            (some_is s env l.many (suc k) e)
            ∙ ap (λ (f : ScopesAt). of_scopes s x (f env)) (scopes_seq s (first ∷ positions ∷ last ∷ []))
            ∙ omega (arith, a, b, d)

    -- with the two sets, at the child that lower calls go to
    pub lanes_sum : (bs : List ℕ) (count : Num) (c : Context) (env : Env) (to m : ℕ)
        → node_of (inside_of s env c.child) ≡ to → IsNumber s env.turns count m
        → of_term s x (lanes_term None count starts bs c come work leave) env
        ≡ here to x (total s.size bs) + none_or m (w to)
    lanes_sum bs count c env to m at is =
        let deeper = inside_of s env c.child in
        let number = subst (λ (ts : List ℕ). IsNumber s ts count m) (turns_stay s env c.child) is in
        within_sum s x c.child bs (lane_term starts (whole_lane count) c come work leave) env
        ∙ ap₂ (λ (i j : ℕ). here i x (total s.size bs) + j) at
        (lane_sum (whole_lane count) c deeper to m at (number.value deeper.level deeper.nodes))

    -- ---- at each child

    module _ (y : Term) (env : Env) (f : ℕ) (children : s.children (node_of env) ≡ f) where
      abbrev arms : Term
      arms = term.Case (n.Div (n.Index 0) n.Children) (term.Skip ∷ term.Spread (n.Index 0) Cyclic y ∷ [])

      abbrev arms_at : ℕ → ℤ → ℕ
      arms_at t z = of_scopes s x
          (arm_at (map (scopes_of s) (term.Skip ∷ term.Spread (n.Index 0) Cyclic y ∷ [])) z (at_turn env t))

      opened : (t q : ℕ) → t / f ≡ q → of_term s x arms (at_turn env t) ≡ arms_at t (pos q)
      opened t q e =
          ap (λ (g : ScopesAt). of_scopes s x (g (at_turn env t)))
          (scopes_case s (n.Div (n.Index 0) n.Children) (term.Skip ∷ term.Spread (n.Index 0) Cyclic y ∷ []))
          ∙ ap (arms_at t)
          (div_is s (at_turn env t) (n.Index 0) n.Children t f (index_is s (at_turn env t) 0)
          (children_is s (at_turn env t) ∙ ap pos children) ∙ ap pos e)

      early : (t : ℕ) → t < f → of_term s x arms (at_turn env t) ≡ 0
      early t l = opened t 0 (div-eq_of_lt {n = t} {m = f} l) ∙ skip_quiet s x (at_turn env t)

      abbrev parts : ℕ → Scopes
      parts d = scopes_of s y (at_turn (at_turn env f) d)

      late : (k : ℕ) → f ≡ k → of_term s x arms (at_turn env f) ≡ of_scopes s x (each_of f parts 0)
      unfolding each_of
      late zero e = opened f (f / f) refl ∙ ap (λ (q : ℕ). arms_at f (pos (q / q))) e ∙ skip_quiet s x (at_turn env f)
          ∙ ap (λ (q : ℕ). of_scopes s x (each_of q parts 0)) (sym e)
      late (suc k) e =
          opened f 1 (once f (omega (arith, e)))
          ∙ ap (λ (g : ScopesAt). of_scopes s x (g (at_turn env f))) (scopes_spread s (n.Index 0) Cyclic y)
          ∙ ap (λ z. of_scopes s x (each_of (nat_abs z) parts 0)) (index_is s (at_turn env f) 0)

      each_child_sum : of_term s x (each_child y) env ≡ of_scopes s x (each_of f parts 0)
      each_child_sum =
          let z : f + 1 ≡ suc f = omega arith in
          let q : 0 + f ≡ f = omega arith in
          ap (λ (g : ScopesAt). of_scopes s x (g env)) (scopes_loop s (n.Add n.Children (n.Const (pos 1))) arms)
          ∙ ap (λ z. of_scopes s x (each_of (nat_abs z) (λ t. scopes_of s arms (at_turn env t)) 0))
          (add_is s env n.Children (n.Const (pos 1)) f 1 (children_is s env ∙ ap pos children) (const_is s env (pos 1)))
          ∙ ap (λ (k : ℕ). of_scopes s x (each_of k (λ t. scopes_of s arms (at_turn env t)) 0)) z
          ∙ last_one f (λ t. scopes_of s arms (at_turn env t)) 0 (λ t l u. early t (omega (arith, u)))
          ∙ ap (λ (t : ℕ). of_term s x arms (at_turn env t)) q
          ∙ late f refl

    pub spread_sum : (bs : List ℕ) (rule : SpreadRule) (count : Num) (c : Context) (env : Env) (node m : ℕ)
        → node_of env ≡ node → IsNumber s env.turns count m
        → of_term s x (lanes_term (Some rule) count starts bs c come work leave) env
        ≡ greatest (λ d. here (s.child node d) x (total s.size bs)
        + none_or (lane_many rule m (s.children node) d) (w (s.child node d))) (range_with_len 0 (s.children node))
    spread_sum bs rule count c env node m at is =
        each_child_sum part env (s.children node) (ap s.children at)
        ∙ all_greatest (s.children node) (λ d. scopes_of s part (turned d)) _ 0
        (λ d l u. one d (omega (arith, u)))
      where
        lane : Lane
        lane = lane_at rule (lift 1 (lift 1 count)) (n.Index 1) (n.Index 0)

        part : Term
        part = term.Within (Some (n.Index 0)) bs
            (lane_term starts lane (lift_context (lift_context c)) come work leave)

        turned : ℕ → Env
        turned d = at_turn (at_turn env (s.children node)) d

        goes : (d : ℕ) → node_of (inside_of s (turned d) (Some (n.Index 0))) ≡ s.child node d
        goes d = ap (λ (v : Bool). if v then s.child (node_of (turned d)) (count_of s (n.Index 0) (turned d))
            else env.nodes (suc env.level)) (number_itself (suc env.level))
            ∙ ap₂ s.child at (ap nat_abs (index_is s (turned d) 0))

        one : (d : ℕ) → d < s.children node → of_term s x part (turned d)
            ≡ here (s.child node d) x (total s.size bs)
            + none_or (lane_many rule m (s.children node) d) (w (s.child node d))
        one d l =
            let deeper = inside_of s (turned d) (Some (n.Index 0)) in
            let number = lane_number s env.turns rule count m (s.children node) d l is in
            within_sum s x (Some (n.Index 0)) bs
            (lane_term starts lane (lift_context (lift_context c)) come work leave) (turned d)
            ∙ ap₂ (λ (i j : ℕ). here i x (total s.size bs) + j) (goes d)
            (lane_sum lane (lift_context (lift_context c)) deeper (s.child node d)
            (lane_many rule m (s.children node) d) (goes d) (number.value deeper.level deeper.nodes))
