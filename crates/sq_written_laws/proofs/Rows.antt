-- What is left of a term, read again as lines, has the tree of the term, but for how its parts are grouped.
use Rattle.std.proofs.Common.{◌≡◌, ℕ, zero, suc, ◌+◌, ◌-◌, ◌<◌, ◌≤◌, ◌==◌, inl, inr, Bool, true, false, if◌then◌else◌, ℤ, pos, negsuc, Option, Some, None, List, [], ◌∷◌, ◌++◌, map, refl, sym, ap, ◌∙◌, subst, arith}
use Rattle.std.proofs.lemmas.Bool.{eqb-true}
use Rattle.std.proofs.lemmas.Bool.Decides.{eqb_tells}
use Rattle.sq_text.specs.declared.spread.SpreadRule.{SpreadRule}
use Rattle.sq_text.specs.Spreading.{child_of}
use Rattle.sq_ast.specs.Unplaced.{nowhere}
use Rattle.sq_ir.specs.declared.num.Num.{Num}
use Rattle.sq_ir.specs.declared.term.Slot.{Slot}
use Rattle.sq_ir.specs.declared.term.LeafView.{LeafView}
use Rattle.sq_ir.specs.declared.term.Action.{Action}
use Rattle.sq_ir.specs.declared.term.Action.TheVariants as action
use Rattle.sq_ir.specs.declared.term.Term.{Term, roll-Term}
use Rattle.sq_ir.specs.declared.term.Term.TheVariants as term
use Rattle.sq_ir.specs.declared.term.Term.TheOpen.{Term-F}
use Rattle.sq_ir.specs.declared.term.Term.TheFolds.{ind-Term, map-Term}
use Rattle.sq_ir.specs.declared.plan.Plan.{Plan}
use Rattle.sq_ir.specs.Tree.{Skip, Act, Seq, Par, is_done, seq, par, within, IsNormal}
use Rattle.sq_ir.specs.Scopes.{Scope}
use Rattle.sq_ir.specs.Machines.{AreNodes}
use Rattle.sq_ir.specs.Events as event
use Rattle.sq_ir.specs.Written.{Setting, Env, PlanTree, Part, node_of, at_turn, at_child, value_of, count_of, spot_of, view_of, event_of, inside_of, seq_parts, par_parts, seq_of, par_of, arm_of, arm_at, scoped, turn_at, written}
use Rattle.sq_ir.specs.Plans.{AskedOfActions, AskedOfTerms, each_part, this_arm, IsChild, Meets, node_at, setting_of}
use Rattle.sq_ir.proofs.Equations.{written_skip, written_act, written_seq, written_par, written_loop, written_spread, written_case, written_within}
use Rattle.sq_ir.proofs.Meeting.{meets_skip, meets_act, meets_seq, meets_par, meets_loop, meets_spread, meets_case, meets_within}
use Rattle.sq_ir.proofs.Normal.{normal-done}
use Rattle.sq_ir.proofs.Fresh.{normal-written}
use Rattle.sq_sched.specs.Words as words
use Rattle.sq_sched.proofs.Agreeing.{Agree, agree-turn, agree-child}
use Rattle.sq_plantext.specs.declared.text.EventText.{EventText}
use Rattle.sq_plantext.specs.declared.text.TermText.{TermText}
use Rattle.sq_plantext.specs.declared.text.TermText.TheVariants as text
use Rattle.sq_planfile.specs.Files.{Below, each_below, constant, child_at as way_to, action_of, slot_of, view_of as view_again}
use Rattle.sq_planfile.specs.declared.left.Left.{Left}
use Rattle.sq_planfile.specs.declared.left.Left.TheVariants.{Nothing, InTurn, Beside, Alone}
use Rattle.sq_planfile.specs.Left.{in_turn, beside, then_seq, then_par, whole, lines_of, scope}
use Rattle.sq_planfile.specs.Written as left
use Rattle.sq_planfile.specs.Written.{slot_text, view_text, event_text, reading_of, left_of}
use Rattle.sq_planfile.proofs.Equations.{below, below_seq, below_par, below_at, below_act}
use Rattle.sq_planfile.proofs.Forms.{left_skip, left_act, left_seq, left_par, left_loop, left_spread, left_case, left_within}
use Rattle.sq_planfile.proofs.Joins.{IsSome, turns, besides, alone, Shown, none, some, shown, seq_is, par_is, seq_nothing, par_nothing, no_scope}
use Rattle.sq_planfile.proofs.WellFormed.{counted}
use Rattle.sq_written_laws.specs.Alike.{straight, AreAlike}
use Rattle.sq_written_laws.proofs.Straight.{alike_seq, alike_par, alike_within, seq_groups, par_groups}

-- where a part stands, with no loop round it
abbrev pub bare : Env → Env
bare env = record { turns = []; level = env.level; nodes = env.nodes }

seq_none : (a : PlanTree) → IsNormal a → seq a Skip ≡ a
seq_none a n = by (is_done a) refl
  where
    by : (v : Bool) → is_done a ≡ v → (if v then Skip else a) ≡ a
    by true e = sym (normal-done a n e)
    by false e = refl

par_none : (a : PlanTree) → IsNormal a → par a Skip ≡ a
par_none a n = by (is_done a) refl
  where
    by : (v : Bool) → is_done a ≡ v → (if v then Skip else a) ≡ a
    by true e = sym (normal-done a n e)
    by false e = refl

same_itself : (n : ℕ) → (n == n) ≡ true
same_itself n = elim (eqb_tells n n) [ inl h ↦ h.0 | inr h ↦ absurd (h.1 refl) ]

module _ (p : Plan) where
  abbrev S : Setting
  S = setting_of p

  -- ---- lines as trees

  abbrev pub text_tree : TermText → Env → PlanTree
  text_tree x env = written S (below p.nodes x (node_of env)) env

  abbrev pub texts_seq : List TermText → Env → PlanTree
  texts_seq xs env = seq_parts (map (written S) (each_below (map (below p.nodes) xs) (node_of env))) env

  abbrev pub texts_par : List TermText → Env → PlanTree
  texts_par xs env = par_parts (map (written S) (each_below (map (below p.nodes) xs) (node_of env))) env

  abbrev pub left_tree : Left → Env → PlanTree
  left_tree Nothing env = Skip
  left_tree (InTurn ts) env = texts_seq ts env
  left_tree (Beside ts) env = texts_par ts env
  left_tree (Alone x) env = text_tree x env

  tree_seq : (xs : List TermText) (env : Env) → text_tree (text.Seq xs) env ≡ texts_seq xs env
  tree_seq xs env = ap (λ f. written S (f (node_of env)) env) (below_seq p.nodes xs) ∙ ap (λ f. f env) (written_seq S (each_below (map (below p.nodes) xs) (node_of env)))

  tree_par : (xs : List TermText) (env : Env) → text_tree (text.Par xs) env ≡ texts_par xs env
  tree_par xs env = ap (λ f. written S (f (node_of env)) env) (below_par p.nodes xs) ∙ ap (λ f. f env) (written_par S (each_below (map (below p.nodes) xs) (node_of env)))

  pub whole_tree : (a : Left) (env : Env) → text_tree (whole a) env ≡ left_tree a env
  whole_tree Nothing env = tree_seq [] env
  whole_tree (InTurn ts) env = tree_seq ts env
  whole_tree (Beside ts) env = tree_par ts env
  whole_tree (Alone x) env = refl

  normal_text : (x : TermText) (env : Env) → IsNormal (text_tree x env)
  normal_text x env = normal-written S (below p.nodes x (node_of env)) env

  normal_left : (a : Left) (env : Env) → IsNormal (left_tree a env)
  normal_left a env = subst IsNormal (whole_tree a env) (normal_text (whole a) env)

  -- ---- lines behind one another, and beside one another

  seq_append : (xs ys : List TermText) (env : Env) → AreAlike (seq (texts_seq xs env) (texts_seq ys env)) (texts_seq (xs ++ ys) env)
  seq_append [] ys env = refl
  seq_append (x ∷ xs) ys env =
      seq_groups (text_tree x env) (texts_seq xs env) (texts_seq ys env)
      ∙ alike_seq (text_tree x env) (seq (texts_seq xs env) (texts_seq ys env)) (text_tree x env) (texts_seq (xs ++ ys) env) refl (seq_append xs ys env)

  par_append : (xs ys : List TermText) (env : Env) → AreAlike (par (texts_par xs env) (texts_par ys env)) (texts_par (xs ++ ys) env)
  par_append [] ys env = refl
  par_append (x ∷ xs) ys env =
      par_groups (text_tree x env) (texts_par xs env) (texts_par ys env)
      ∙ alike_par (text_tree x env) (par (texts_par xs env) (texts_par ys env)) (text_tree x env) (texts_par (xs ++ ys) env) refl (par_append xs ys env)

  as_seq : {a : Left} (env : Env) → IsSome a → left_tree a env ≡ texts_seq (in_turn a) env
  as_seq env turns = refl
  as_seq env (besides {ts = ts}) = sym (tree_par ts env) ∙ sym (seq_none (text_tree (text.Par ts) env) (normal_text (text.Par ts) env))
  as_seq env (alone {y = y}) = sym (seq_none (text_tree y env) (normal_text y env))

  as_par : {a : Left} (env : Env) → IsSome a → left_tree a env ≡ texts_par (beside a) env
  as_par env (turns {ts = ts}) = sym (tree_seq ts env) ∙ sym (par_none (text_tree (text.Seq ts) env) (normal_text (text.Seq ts) env))
  as_par env besides = refl
  as_par env (alone {y = y}) = sym (par_none (text_tree y env) (normal_text y env))

  seq_left : (a b : Left) (env : Env) → Shown a → Shown b → AreAlike (seq (left_tree a env) (left_tree b env)) (left_tree (then_seq a b) env)
  seq_left a b env (none e) y = subst (λ a. AreAlike (seq (left_tree a env) (left_tree b env)) (left_tree (then_seq a b) env)) (sym e) refl
  seq_left a b env (some x) (none e) =
      subst (λ b. AreAlike (seq (left_tree a env) (left_tree b env)) (left_tree (then_seq a b) env)) (sym e)
      (ap straight (seq_none (left_tree a env) (normal_left a env) ∙ ap (λ a. left_tree a env) (sym (seq_nothing a))))
  seq_left a b env (some x) (some y) =
      ap straight (ap (λ t. seq t (left_tree b env)) (as_seq env x) ∙ ap (seq (texts_seq (in_turn a) env)) (as_seq env y))
      ∙ seq_append (in_turn a) (in_turn b) env ∙ ap straight (ap (λ a. left_tree a env) (sym (seq_is x y)))

  par_left : (a b : Left) (env : Env) → Shown a → Shown b → AreAlike (par (left_tree a env) (left_tree b env)) (left_tree (then_par a b) env)
  par_left a b env (none e) y = subst (λ a. AreAlike (par (left_tree a env) (left_tree b env)) (left_tree (then_par a b) env)) (sym e) refl
  par_left a b env (some x) (none e) =
      subst (λ b. AreAlike (par (left_tree a env) (left_tree b env)) (left_tree (then_par a b) env)) (sym e)
      (ap straight (par_none (left_tree a env) (normal_left a env) ∙ ap (λ a. left_tree a env) (sym (par_nothing a))))
  par_left a b env (some x) (some y) =
      ap straight (ap (λ t. par t (left_tree b env)) (as_par env x) ∙ ap (par (texts_par (beside a) env)) (as_par env y))
      ∙ par_append (beside a) (beside b) env ∙ ap straight (ap (λ a. left_tree a env) (sym (par_is x y)))

  pub then_left : (t u : PlanTree) (a b : Left) (env : Env) → AreAlike t (left_tree a env) → AreAlike u (left_tree b env) → AreAlike (seq t u) (left_tree (then_seq a b) env)
  then_left t u a b env h k = alike_seq t u (left_tree a env) (left_tree b env) h k ∙ seq_left a b env (shown a) (shown b)

  pub beside_left : (t u : PlanTree) (a b : Left) (env : Env) → AreAlike t (left_tree a env) → AreAlike u (left_tree b env) → AreAlike (par t u) (left_tree (then_par a b) env)
  beside_left t u a b env h k = alike_par t u (left_tree a env) (left_tree b env) h k ∙ par_left a b env (shown a) (shown b)

  -- ---- rows of parts

  pub seq_of_left : (n : ℕ) (f : ℕ → PlanTree) (g : ℕ → Left) (k : ℕ) (env : Env) → ((i : ℕ) → k ≤ i → i < k + n → AreAlike (f i) (left_tree (g i) env)) → AreAlike (seq_of n f k) (left_tree (left.seq_of n g k) env)
  unfolding seq_of left.seq_of
  seq_of_left zero f g k env h = refl
  seq_of_left (suc n) f g k env h =
      then_left (f k) (seq_of n f (k + 1)) (g k) (left.seq_of n g (k + 1)) env (h k (omega arith) (omega arith))
      (seq_of_left n f g (k + 1) env (λ i lo hi. h i (omega (arith, lo)) (omega (arith, hi))))

  pub par_of_left : (n : ℕ) (f : ℕ → PlanTree) (g : ℕ → Left) (k : ℕ) (env : Env) → ((i : ℕ) → AreAlike (f i) (left_tree (g i) env)) → AreAlike (par_of n f k) (left_tree (left.par_of n g k) env)
  unfolding par_of left.par_of
  par_of_left zero f g k env h = refl
  par_of_left (suc n) f g k env h = beside_left (f k) (par_of n f (k + 1)) (g k) (left.par_of n g (k + 1)) env (h k) (par_of_left n f g (k + 1) env h)

  pub either_left : (v : Bool) (t : PlanTree) (a : Left) (env : Env) → AreAlike t (left_tree a env) → AreAlike (if v then t else Skip) (left_tree (if v then a else Nothing) env)
  either_left true t a env h = h
  either_left false t a env h = refl

  -- ---- events

  module _ (env : Env) where
    abbrev counts : Num → ℕ
    counts n = count_of S n env

    spot_same : (x : Slot) → spot_of S (bare env) (slot_of (slot_text counts x)) ≡ spot_of S env x
    spot_same x = ap (λ n. record { node = env.nodes (S.level x.buffer); at = S.offset x.buffer + n }) (counted S (counts x.at) (bare env))

    pub views_same : (vs : List LeafView) → map (view_of S (bare env)) (map view_again (map (view_text counts) vs)) ≡ map (view_of S env) vs
    views_same [] = refl
    views_same (v ∷ vs) =
        ap (λ n. record { at = n.at; elem = v.elem; extents = v.extents; strides = v.strides } ∷ map (view_of S (bare env)) (map view_again (map (view_text counts) vs))) (spot_same v.slot)
        ∙ ap (λ us. view_of S env v ∷ us) (views_same vs)

    path_same : (ks : List Num) → map (λ k. count_of S k (bare env)) (map constant (map counts ks)) ≡ map counts ks
    path_same [] = refl
    path_same (k ∷ ks) =
        ap (λ n. n ∷ map (λ k. count_of S k (bare env)) (map constant (map counts ks))) (counted S (counts k) (bare env))
        ∙ ap (λ ns. counts k ∷ ns) (path_same ks)

    pub event_same : (a : Action) → event_of S (bare env) (action_of (event_text counts a)) ≡ event_of S env a
    event_same (action.CopyRow from to bytes) =
        ap (λ x. event.Copy x (spot_of S (bare env) (slot_of (slot_text counts to))) bytes) (spot_same from) ∙ ap (λ y. event.Copy (spot_of S env from) y bytes) (spot_same to)
    event_same (action.FillRow to e n value) = ap (λ y. event.Fill y e n value) (spot_same to)
    event_same (action.AccRow op e from to n) =
        ap (λ x. event.Accumulate op e x (spot_of S (bare env) (slot_of (slot_text counts to))) n) (spot_same from) ∙ ap (λ y. event.Accumulate op e (spot_of S env from) y n) (spot_same to)
    event_same (action.Leaf code views path) =
        ap (λ vs. event.Leaf (node_of env) code vs (map (λ k. count_of S k (bare env)) (map constant (map counts path)))) (views_same views)
        ∙ ap (λ ks. event.Leaf (node_of env) code (map (view_of S env) views) ks) (path_same path)

    pub act_left : (a : Action) → Act (event_of S env a) ≡ left_tree (Alone (text.Act nowhere (event_text counts a))) (bare env)
    act_left a =
        ap Act (sym (event_same a)) ∙ ap (λ f. f (bare env)) (sym (written_act S (action_of (event_text counts a))))
        ∙ ap (λ f. written S (f (node_of env)) (bare env)) (sym (below_act p.nodes nowhere (event_text counts a)))

  -- ---- scopes

  pub lines_some : (node : ℕ) (bs : List ℕ) {a : Left} → IsSome a → lines_of node bs a ≡ Alone (text.At nowhere node bs (whole a))
  lines_some node bs turns = refl
  lines_some node bs besides = refl
  lines_some node bs alone = refl

  module _ (are : AreNodes p.nodes) (env : Env) (at : words.Env) (ag : Agree p env at) where
    -- the way to the node of a scope's body leads there
    child_apart : (k : ℕ) → k < S.children (node_of env) → (node_of env == S.child (node_of env) k) ≡ false
    child_apart k less = by (node_of env == S.child (node_of env) k) refl
      where
        deeper : (node_at p.nodes (S.child (node_of env) k)).level ≡ suc env.level
        deeper = ap (λ n. (node_at p.nodes n).level) (sym (ap (λ v. if v then S.child (node_of env) k else env.nodes (suc env.level)) (same_itself (suc env.level)))) ∙ (agree-child p env at are ag k less).level

        by : (v : Bool) → (node_of env == S.child (node_of env) k) ≡ v → v ≡ false
        by false e = refl
        by true e =
            let here = ag.level in
            let same = ap (λ n. (node_at p.nodes n).level) (eqb-true (node_of env) (S.child (node_of env) k) e) in
            let there = deeper in
            absurd (omega (arith, here, same, there))

    pub at_child_is : (k : ℕ) → node_of (at_child S env k) ≡ S.child (node_of env) k
    at_child_is k = ap (λ v. if v then S.child (node_of env) k else env.nodes (suc env.level)) (same_itself (suc env.level))

    pub way_leads : (child : Option Num) → IsChild S env child → inside_of S (bare env) (way_to p.nodes (node_of env) (node_of (inside_of S env child))) ≡ bare (inside_of S env child)
    way_leads None h = ap (λ v. inside_of S (bare env) (if v then None else Some (constant (node_of env - (node_at p.nodes (node_of env)).first_child)))) (same_itself (node_of env))
    way_leads (Some c) h =
        let k = count_of S c env in
        let first = (node_at p.nodes (node_of env)).first_child in
        let back : first + k - first ≡ k = omega arith in
        ap (λ n. inside_of S (bare env) (way_to p.nodes (node_of env) n)) (at_child_is k)
        ∙ ap (λ v. inside_of S (bare env) (if v then None else Some (constant (first + k - first)))) (child_apart k h.1)
        ∙ ap (λ n. at_child S (bare env) n) (counted S (first + k - first) (bare env) ∙ back)

    scope_some : (child : Option Num) (bs : List ℕ) {a : Left} → IsChild S env child → IsSome a
        → scoped (node_of (inside_of S env child)) bs (left_tree a (bare (inside_of S env child))) ≡ left_tree (lines_of (node_of (inside_of S env child)) bs a) (bare env)
    scope_some child bs {a} h x =
        let inner = inside_of S env child in
        let way = way_to p.nodes (node_of env) (node_of inner) in
        let there = inside_of S (bare env) way in
        let is = way_leads child h in
        ap (scoped (node_of inner) bs) (sym (whole_tree a (bare inner)))
        ∙ ap (λ z. scoped (node_of z) bs (written S (below p.nodes (whole a) (node_of inner)) z)) (sym is)
        ∙ ap (λ f. f (bare env)) (sym (written_within S way bs (below p.nodes (whole a) (node_of inner))))
        ∙ ap (λ f. written S (f (node_of env)) (bare env)) (sym (below_at p.nodes nowhere (node_of inner) bs (whole a)))
        ∙ ap (λ l. left_tree l (bare env)) (sym (lines_some (node_of inner) bs x))

    pub scope_out : (child : Option Num) (a : Left) → IsChild S env child → (node_of env == node_of (inside_of S env child)) ≡ true
        → left_tree a (bare (inside_of S env child)) ≡ left_tree a (bare env)
    scope_out None a h e = refl
    scope_out (Some c) a h e =
        let z : true ≡ false = sym e ∙ ap (λ n. node_of env == n) (at_child_is (count_of S c env)) ∙ child_apart (count_of S c env) h.1 in
        absurd (cc)

    scope_left : (child : Option Num) (bs : List ℕ) (a : Left) → IsChild S env child → Shown a
        → scoped (node_of (inside_of S env child)) bs (left_tree a (bare (inside_of S env child)))
        ≡ left_tree (scope (node_of env) (node_of (inside_of S env child)) bs a) (bare env)
    scope_left child [] a h (none e) =
        subst (λ a. left_tree a (bare (inside_of S env child)) ≡ left_tree (scope (node_of env) (node_of (inside_of S env child)) [] a) (bare env)) (sym e)
        (ap (λ l. left_tree l (bare env)) (sym (no_scope (node_of env) (node_of (inside_of S env child)) [])))
    scope_left child (b ∷ bs) a h (none e) =
        subst (λ a. scoped (node_of (inside_of S env child)) (b ∷ bs) (left_tree a (bare (inside_of S env child))) ≡ left_tree (scope (node_of env) (node_of (inside_of S env child)) (b ∷ bs) a) (bare env)) (sym e) refl
    scope_left child (b ∷ bs) a h (some x) = scope_some child (b ∷ bs) h x
    scope_left child [] a h (some x) = by (node_of env == node_of (inside_of S env child)) refl
      where
        by : (v : Bool) → (node_of env == node_of (inside_of S env child)) ≡ v
            → left_tree a (bare (inside_of S env child)) ≡ left_tree (if v then a else lines_of (node_of (inside_of S env child)) [] a) (bare env)
        by true e = scope_out child a h e
        by false e = scope_some child [] h x

    pub within_left : (child : Option Num) (bs : List ℕ) (t : PlanTree) (a : Left) → IsChild S env child → AreAlike t (left_tree a (bare (inside_of S env child)))
        → AreAlike (scoped (node_of (inside_of S env child)) bs t) (left_tree (scope (node_of env) (node_of (inside_of S env child)) bs a) (bare env))
    within_left child [] t a h k = k ∙ ap straight (scope_left child [] a h (shown a))
    within_left child (b ∷ bs) t a h k =
        let s : Scope = record { node = node_of (inside_of S env child); buffers = b ∷ bs } in
        alike_within s t (left_tree a (bare (inside_of S env child))) k ∙ ap straight (scope_left child (b ∷ bs) a h (shown a))

    pub agree_inside : (child : Option Num) → IsChild S env child → (at : words.Env) × Agree p (inside_of S env child) at
    agree_inside None h = (at, ag)
    agree_inside (Some c) h = (words.at_child p at (count_of S c env), agree-child p env at are ag (count_of S c env) h.1)
