-- The lines that a good plan's events are written out as are sound.
use Rattle.std.proofs.Common.{◌≡◌, ℕ, zero, suc, ◌+◌, ◌*◌, ◌-◌, ◌<◌, ◌≤◌, ◌==◌, Bool, true, false, ◌⊎◌, inl, inr, if◌then◌else◌, ℤ, pos, negsuc, Option, Some, None, List, [], ◌∷◌, ◌++◌, length, map, refl, sym, ap, ◌∙◌, subst, arith}
use Rattle.std.specs.Prelude.{◌≤ℤ◌, ◌^◌}
use Rattle.std.specs.List.{All}
use Rattle.std.proofs.lemmas.Int.{ints}
use Rattle.std.proofs.lemmas.Bool.{eqb-true}
use Rattle.sq_num.specs.Elements.{width}
use Rattle.sq_text.specs.declared.spread.SpreadRule.{SpreadRule}
use Rattle.sq_text.specs.Spreading.{child_of}
use Rattle.sq_leaf.specs.declared.trap.Trap.{Trap}
use Rattle.sq_leaf.specs.Rect.declared.view.View.{View}
use Rattle.sq_ast.specs.Unplaced.{nowhere}
use Rattle.sq_ir.specs.declared.num.Num.{Num}
use Rattle.sq_ir.specs.declared.term.Slot.{Slot}
use Rattle.sq_ir.specs.declared.term.LeafView.{LeafView}
use Rattle.sq_ir.specs.declared.term.Action.{Action}
use Rattle.sq_ir.specs.declared.term.Action.TheVariants as action
use Rattle.sq_ir.specs.declared.term.Term.{Term, roll-Term}
use Rattle.sq_ir.specs.declared.term.Term.TheVariants as term
use Rattle.sq_ir.specs.declared.term.Term.TheOpen.{Term-F}
use Rattle.sq_ir.specs.declared.term.Term.TheFolds.{ind-Term, map-Term}
use Rattle.sq_ir.specs.declared.plan.Plan.{Plan}
use Rattle.sq_ir.specs.Events.{Leaves, places}
use Rattle.sq_ir.specs.Machines.{AreNodes}
use Rattle.sq_ir.specs.DraftLeaves.{leaves_of}
use Rattle.sq_ir.specs.Written.{Setting, Env, at_root, node_of, at_turn, value_of, count_of, view_of, event_of, inside_of}
use Rattle.sq_ir.specs.Plans.{AskedOfActions, AskedOfTerms, each_part, this_arm, Meets, IsCount, IsChild, IsBuffer, IsRow, IsView, InBuffers, IsLeafCall, MayBePerformed, IsAllowed, node_at, setting_of}
use Rattle.sq_ir.proofs.Meeting.{meets_skip, meets_act, meets_seq, meets_par, meets_loop, meets_spread, meets_case, meets_within}
use Rattle.sq_ir.proofs.Counting.{has_const, small}
use Rattle.sq_ir.proofs.Equations.{value_const}
use Rattle.sq_sched.specs.Words as words
use Rattle.sq_sched.proofs.Agreeing.{Agree, agree-root, agree-turn}
use Rattle.sq_plantext.specs.declared.text.EventText.{EventText}
use Rattle.sq_plantext.specs.declared.text.TermText.{TermText}
use Rattle.sq_plantext.specs.declared.text.TermText.TheVariants as text
use Rattle.sq_plantext.specs.declared.text.PlanText.{PlanText}
use Rattle.sq_planfile.specs.Files.{constant, child_at as way_to, action_of, slot_of, view_of as view_again, nodes_of, draft_of, plan_of}
use Rattle.sq_planfile.specs.declared.left.Left.{Left}
use Rattle.sq_planfile.specs.declared.left.Left.TheVariants.{Nothing, InTurn, Beside, Alone}
use Rattle.sq_planfile.specs.Left.{in_turn, beside, then_seq, then_par, whole, lines_of, scope}
use Rattle.sq_planfile.specs.Sound as sound
use Rattle.sq_planfile.specs.Sound.{AreEvents, AskedOfTexts, AreViewTexts, IsEventText, IsScope}
use Rattle.sq_planfile.specs.Written as left
use Rattle.sq_planfile.specs.Written.{slot_text, view_text, event_text, reading_of, left_of}
use Rattle.sq_planfile.proofs.Equations.{sound_seq, sound_par, sound_at, sound_act}
use Rattle.sq_planfile.proofs.Forms.{left_skip, left_act, left_seq, left_par, left_loop, left_spread, left_case, left_within}
use Rattle.sq_planfile.proofs.Joins.{IsSome, turns, besides, alone, Shown, none, some, shown, seq_is, par_is, seq_nothing, par_nothing, no_scope}
use Rattle.sq_planfile.proofs.WellFormed.{counted}
use Rattle.sq_written_laws.proofs.Rows.{bare, event_same, views_same, way_leads, at_child_is, lines_some, scope_out, agree_inside}

module _ (p : Plan) (x : PlanText) where
  abbrev S : Setting
  S = setting_of p

  -- ---- lists of lines, and what is left of parts

  abbrev each : List TermText → Env → List ℕ → Type 0
  each xs env bs = sound.each_part (AreEvents x) xs env bs

  abbrev LeftSound : Left → Env → List ℕ → Type 0
  LeftSound Nothing env bs = Unit {0}
  LeftSound (InTurn ts) env bs = each ts env bs
  LeftSound (Beside ts) env bs = each ts env bs
  LeftSound (Alone t) env bs = AreEvents x t env bs

  seq_sound : (xs : List TermText) (env : Env) (bs : List ℕ) → each xs env bs → AreEvents x (text.Seq xs) env bs
  seq_sound xs env bs h = subst (λ (f : AskedOfTexts). f env bs) (sym (sound_seq x xs)) h

  par_sound : (xs : List TermText) (env : Env) (bs : List ℕ) → each xs env bs → AreEvents x (text.Par xs) env bs
  par_sound xs env bs h = subst (λ (f : AskedOfTexts). f env bs) (sym (sound_par x xs)) h

  pub whole_sound : (a : Left) (env : Env) (bs : List ℕ) → LeftSound a env bs → AreEvents x (whole a) env bs
  whole_sound Nothing env bs h = seq_sound [] env bs tt
  whole_sound (InTurn ts) env bs h = seq_sound ts env bs h
  whole_sound (Beside ts) env bs h = par_sound ts env bs h
  whole_sound (Alone t) env bs h = h

  append_sound : (xs ys : List TermText) (env : Env) (bs : List ℕ) → each xs env bs → each ys env bs → each (xs ++ ys) env bs
  append_sound [] ys env bs h k = k
  append_sound (y ∷ xs) ys env bs h k = (h.0, append_sound xs ys env bs h.1 k)

  in_turn_sound : {a : Left} (env : Env) (bs : List ℕ) → IsSome a → LeftSound a env bs → each (in_turn a) env bs
  in_turn_sound env bs turns h = h
  in_turn_sound env bs (besides {ts = ts}) h = (par_sound ts env bs h, tt)
  in_turn_sound env bs alone h = (h, tt)

  beside_sound : {a : Left} (env : Env) (bs : List ℕ) → IsSome a → LeftSound a env bs → each (beside a) env bs
  beside_sound env bs (turns {ts = ts}) h = (seq_sound ts env bs h, tt)
  beside_sound env bs besides h = h
  beside_sound env bs alone h = (h, tt)

  then_sound : (a b : Left) (env : Env) (bs : List ℕ) → Shown a → Shown b → LeftSound a env bs → LeftSound b env bs → LeftSound (then_seq a b) env bs
  then_sound a b env bs (none e) y h k = subst (λ a. LeftSound (then_seq a b) env bs) (sym e) k
  then_sound a b env bs (some u) (none e) h k = subst (λ b. LeftSound (then_seq a b) env bs) (sym e) (subst (λ l. LeftSound l env bs) (sym (seq_nothing a)) h)
  then_sound a b env bs (some u) (some v) h k = subst (λ l. LeftSound l env bs) (sym (seq_is u v)) (append_sound (in_turn a) (in_turn b) env bs (in_turn_sound env bs u h) (in_turn_sound env bs v k))

  aside_sound : (a b : Left) (env : Env) (bs : List ℕ) → Shown a → Shown b → LeftSound a env bs → LeftSound b env bs → LeftSound (then_par a b) env bs
  aside_sound a b env bs (none e) y h k = subst (λ a. LeftSound (then_par a b) env bs) (sym e) k
  aside_sound a b env bs (some u) (none e) h k = subst (λ b. LeftSound (then_par a b) env bs) (sym e) (subst (λ l. LeftSound l env bs) (sym (par_nothing a)) h)
  aside_sound a b env bs (some u) (some v) h k = subst (λ l. LeftSound l env bs) (sym (par_is u v)) (append_sound (beside a) (beside b) env bs (beside_sound env bs u h) (beside_sound env bs v k))

  seq_of_sound : (n : ℕ) (g : ℕ → Left) (k : ℕ) (env : Env) (bs : List ℕ) → ((i : ℕ) → k ≤ i → i < k + n → LeftSound (g i) env bs) → LeftSound (left.seq_of n g k) env bs
  unfolding left.seq_of
  seq_of_sound zero g k env bs h = tt
  seq_of_sound (suc n) g k env bs h =
      then_sound (g k) (left.seq_of n g (k + 1)) env bs (shown _) (shown _) (h k (omega arith) (omega arith))
      (seq_of_sound n g (k + 1) env bs (λ i lo hi. h i (omega (arith, lo)) (omega (arith, hi))))

  par_of_sound : (n : ℕ) (g : ℕ → Left) (k : ℕ) (env : Env) (bs : List ℕ) → ((i : ℕ) → LeftSound (g i) env bs) → LeftSound (left.par_of n g k) env bs
  unfolding left.par_of
  par_of_sound zero g k env bs h = tt
  par_of_sound (suc n) g k env bs h = aside_sound (g k) (left.par_of n g (k + 1)) env bs (shown _) (shown _) (h k) (par_of_sound n g (k + 1) env bs h)

  either_sound : (v : Bool) (a : Left) (env : Env) (bs : List ℕ) → LeftSound a env bs → LeftSound (if v then a else Nothing) env bs
  either_sound true a env bs h = h
  either_sound false a env bs h = tt

  -- ---- events

  -- the lists of a view are such as a line may have
  abbrev pub asked : AskedOfActions
  asked env bs a = IsAllowed (leaves_of p.draft) S env bs a × AreViewTexts (event_text (λ n. count_of S n env) a)

  module _ (sizes : (b : ℕ) → S.size b ≤ 2 ^ 30) (env : Env) (bs : List ℕ) where
    abbrev counts : Num → ℕ
    counts n = count_of S n env

    constant_counts : (k : ℕ) → k < 4294967296 → IsCount S (bare env) (constant k)
    constant_counts k h = record {
      has = subst (λ (f : Env → Type 0). f (bare env)) (sym (has_const S (pos k))) (small k h);
      natural = subst (λ z. pos 0 ≤ℤ z) (sym (ap (λ f. f (bare env)) (value_const S (pos k)))) (omega (arith, ints));
    }

    row_again : (slot : Slot) (bytes : ℕ) → IsRow S env bs slot bytes → IsRow S (bare env) bs (slot_of (slot_text counts slot)) bytes
    row_again slot bytes h =
        let most = sizes slot.buffer in
        let inside = h.inside in
        record {
          scope = h.scope;
          at = constant_counts (counts slot.at) (omega (arith, most, inside));
          inside = subst (λ n. n + bytes ≤ S.size slot.buffer) (sym (counted S (counts slot.at) (bare env))) h.inside;
        }

    views_again : (vs : List LeafView) → All (IsView S env bs) vs → All (λ (v : View). v.at < 2 ^ 32) (map (view_of S env) vs)
        → All (IsView S (bare env) bs) (map view_again (map (view_text counts) vs))
    views_again [] h near k d lt = absurd (omega (arith, lt))
    views_again (v ∷ vs) h near zero d lt =
        let one = h 0 v (omega arith) in
        let at = near 0 (view_of S env v) (omega arith) in
        let same : view_of S (bare env) (view_again (view_text counts v)) ≡ view_of S env v = ap (λ n. record { at = S.offset v.slot.buffer + n; elem = v.elem; extents = v.extents; strides = v.strides }) (counted S (counts v.slot.at) (bare env)) in
        record {
          scope = one.scope;
          at = constant_counts (counts v.slot.at) (omega (arith, at));
          level = one.level;
          inside = subst (λ u. (k : ℕ) → Rattle.std.specs.List.Contains (places u) k → (S.offset v.slot.buffer ≤ k) × (k < S.offset v.slot.buffer + S.size v.slot.buffer)) (sym same) one.inside;
        }
    views_again (v ∷ vs) h near (suc k) d lt = views_again vs (λ j e l. h (suc j) e (omega (arith, l))) (λ j e l. near (suc j) e (omega (arith, l))) k d (omega (arith, lt))

    path_again : (ks : List Num) → All (λ k. k < 2 ^ 32) (map counts ks) → All (IsCount S (bare env)) (map constant (map counts ks))
    path_again [] h k d lt = absurd (omega (arith, lt))
    path_again (n ∷ ks) h zero d lt = let few = h 0 0 (omega arith) in constant_counts (counts n) (omega (arith, few))
    path_again (n ∷ ks) h (suc k) d lt = path_again ks (λ j e l. h (suc j) e (omega (arith, l))) k d (omega (arith, lt))

    inside_again : (a : Action) → IsAllowed (leaves_of p.draft) S env bs a → InBuffers S (bare env) bs (action_of (event_text counts a))
    inside_again (action.CopyRow from to bytes) h = (row_again from bytes h.inside.0, row_again to bytes h.inside.1)
    inside_again (action.FillRow to e n value) h = row_again to (n * width e) h.inside
    inside_again (action.AccRow op e from to n) h = (row_again from (n * width e) h.inside.0, row_again to (n * width e) h.inside.1)
    inside_again (action.Leaf code views path) h = (views_again views h.inside.0 h.event.near, path_again path h.event.words)

    allowed_again : (a : Action) → IsAllowed (leaves_of p.draft) S env bs a → IsAllowed (leaves_of p.draft) S (bare env) bs (action_of (event_text counts a))
    allowed_again a h = record {
      inside = inside_again a h;
      event = subst (MayBePerformed (leaves_of p.draft) S.capacity) (sym (event_same p env a)) h.event;
    }

  module _ (are : AreNodes p.nodes) (nodes_is : nodes_of x ≡ p.nodes) (setting_is : setting_of (plan_of x) ≡ S) (leaves_is : leaves_of (draft_of x) ≡ leaves_of p.draft) (sizes : (b : ℕ) → S.size b ≤ 2 ^ 30) where
    act_sound : (env : Env) (bs : List ℕ) (a : Action) → asked env bs a → LeftSound (Alone (text.Act nowhere (event_text (λ n. count_of S n env) a))) (bare env) bs
    act_sound env bs a h =
        let e = event_text (λ n. count_of S n env) a in
        subst (λ (f : AskedOfTexts). f (bare env) bs) (sym (sound_act x nowhere e)) (record {
          views = h.1;
          allowed = subst (λ l. IsAllowed l (setting_of (plan_of x)) (bare env) bs (action_of e)) (sym leaves_is)
              (subst (λ s. IsAllowed (leaves_of p.draft) s (bare env) bs (action_of e)) (sym setting_is) (allowed_again sizes env bs a h.0));
        })

    -- ---- scopes

    module _ (env : Env) (at : words.Env) (ag : Agree p env at) (child : Option Num) (child_is : IsChild S env child) where
      abbrev inner : Env
      inner = inside_of S env child

      abbrev node : ℕ
      node = node_of inner

      there : (child : Option Num) → IsChild S env child → (node_of (inside_of S env child) ≡ node_of env)
          ⊎ (((node_at p.nodes (node_of env)).first_child ≤ node_of (inside_of S env child))
          × (node_of (inside_of S env child) < (node_at p.nodes (node_of env)).first_child + (node_at p.nodes (node_of env)).children))
      there None h = inl refl
      there (Some c) h =
          let is = at_child_is p are env at ag (count_of S c env) in
          let less = h.1 in
          inr (omega (arith, is), omega (arith, is, less))

      way_is : sound.inside x (bare env) node ≡ bare inner
      way_is =
          ap (λ s. inside_of s (bare env) (way_to (nodes_of x) (node_of env) node)) setting_is
          ∙ ap (λ ns. inside_of S (bare env) (way_to ns (node_of env) node)) nodes_is
          ∙ way_leads p are env at ag child child_is

      is_scope : (bs : List ℕ) → All (IsBuffer S inner.level) bs → IsScope x (bare env) node bs
      is_scope bs h = record {
        at = subst (λ ns. (node ≡ node_of env) ⊎ (((node_at ns (node_of env)).first_child ≤ node) × (node < (node_at ns (node_of env)).first_child + (node_at ns (node_of env)).children))) (sym nodes_is) (there child child_is);
        names = subst (λ s. All (IsBuffer s (sound.inside x (bare env) node).level) bs) (sym setting_is) (subst (λ (z : Env). All (IsBuffer S z.level) bs) (sym way_is) h);
      }

      lines_sound : (bs ds : List ℕ) {a : Left} → All (IsBuffer S inner.level) bs → IsSome a → LeftSound a (bare inner) (bs ++ ds) → LeftSound (lines_of node bs a) (bare env) ds
      lines_sound bs ds {a} names u h =
          subst (λ l. LeftSound l (bare env) ds) (sym (lines_some p node bs u))
          (subst (λ (f : AskedOfTexts). f (bare env) ds) (sym (sound_at x nowhere node bs (whole a)))
          (is_scope bs names, subst (λ z. AreEvents x (whole a) z (bs ++ ds)) (sym way_is) (whole_sound a (bare inner) (bs ++ ds) h)))

      -- where the scope changes nothing the body stands where it is
      same_place : (child : Option Num) (a : Left) (ds : List ℕ) → IsChild S env child → (node_of env == node_of (inside_of S env child)) ≡ true
          → LeftSound a (bare (inside_of S env child)) ds → LeftSound a (bare env) ds
      same_place None a ds h e k = k
      same_place (Some c) a ds h e k =
          let here = ag.level in
          let inner_is = agree_inside p are env at ag (Some c) h in
          let deep = inner_is.1.level in
          let same = ap (λ n. (node_at p.nodes n).level) (eqb-true (node_of env) (node_of (inside_of S env (Some c))) e) in
          absurd (omega (arith, here, deep, same))

      scope_sound : (bs ds : List ℕ) (a : Left) → Shown a → All (IsBuffer S inner.level) bs → LeftSound a (bare inner) (bs ++ ds)
          → LeftSound (scope (node_of env) node bs a) (bare env) ds
      scope_sound bs ds a (none e) names h =
          subst (λ a. LeftSound (scope (node_of env) node bs a) (bare env) ds) (sym e) (subst (λ l. LeftSound l (bare env) ds) (sym (no_scope (node_of env) node bs)) tt)
      scope_sound (b ∷ bs) ds a (some u) names h = lines_sound (b ∷ bs) ds names u h
      scope_sound [] ds a (some u) names h = by (node_of env == node) refl
        where
          by : (v : Bool) → (node_of env == node) ≡ v → LeftSound (if v then a else lines_of node [] a) (bare env) ds
          by true e = same_place child a ds child_is e h
          by false e = lines_sound [] ds names u h

    -- ---- terms

    abbrev Holds : Term → Type 0
    Holds y = (env : Env) (at : words.Env) (bs : List ℕ) → Agree p env at → Meets S asked y env bs → LeftSound (left_of S y env) (bare env) bs

    abbrev M : Type 0
    M = (y : Term) × Holds y

    abbrev terms : List M → List Term
    terms xs = map (λ m. m.0) xs

    seq_terms : (xs : List M) (env : Env) (at : words.Env) (bs : List ℕ) → Agree p env at → each_part (Meets S asked) (terms xs) env bs → LeftSound (left.seq_parts (map (left_of S) (terms xs)) env) (bare env) bs
    seq_terms [] env at bs ag h = tt
    seq_terms (m ∷ xs) env at bs ag h = then_sound (left_of S m.0 env) (left.seq_parts (map (left_of S) (terms xs)) env) (bare env) bs (shown _) (shown _) (m.1 env at bs ag h.0) (seq_terms xs env at bs ag h.1)

    par_terms : (xs : List M) (env : Env) (at : words.Env) (bs : List ℕ) → Agree p env at → each_part (Meets S asked) (terms xs) env bs → LeftSound (left.par_parts (map (left_of S) (terms xs)) env) (bare env) bs
    par_terms [] env at bs ag h = tt
    par_terms (m ∷ xs) env at bs ag h = aside_sound (left_of S m.0 env) (left.par_parts (map (left_of S) (terms xs)) env) (bare env) bs (shown _) (shown _) (m.1 env at bs ag h.0) (par_terms xs env at bs ag h.1)

    arm_terms : (xs : List M) (k : ℕ) (env : Env) (at : words.Env) (bs : List ℕ) → Agree p env at → this_arm (Meets S asked) (terms xs) (pos k) env bs → LeftSound (left.arm_of (map (left_of S) (terms xs)) k env) (bare env) bs
    arm_terms [] k env at bs ag h = tt
    arm_terms (m ∷ xs) zero env at bs ag h = m.1 env at bs ag h
    arm_terms (m ∷ xs) (suc k) env at bs ag h = arm_terms xs k env at bs ag h

    arms_terms : (xs : List M) (z : ℤ) (env : Env) (at : words.Env) (bs : List ℕ) → Agree p env at → this_arm (Meets S asked) (terms xs) z env bs → LeftSound (left.arm_at (map (left_of S) (terms xs)) z env) (bare env) bs
    arms_terms xs (pos k) env at bs ag h = arm_terms xs k env at bs ag h
    arms_terms xs (negsuc k) env at bs ag h = tt

    turns_sound : (n : Num) (m : M) (env : Env) (at : words.Env) (bs : List ℕ) → Agree p env at → ((t : ℕ) → t < count_of S n env → Meets S asked m.0 (at_turn env t) bs)
        → LeftSound (left.seq_of (count_of S n env) (λ t. left_of S m.0 (at_turn env t)) 0) (bare env) bs
    turns_sound n m env at bs ag h =
        seq_of_sound (count_of S n env) (λ t. left_of S m.0 (at_turn env t)) 0 (bare env) bs
        (λ t lo hi. m.1 (at_turn env t) (words.at_turn at t) bs (agree-turn p env at t ag) (h t (omega (arith, hi))))

    spread_sound : (n : Num) (rule : SpreadRule) (m : M) (env : Env) (at : words.Env) (bs : List ℕ) → Agree p env at → ((t : ℕ) → t < count_of S n env → Meets S asked m.0 (at_turn env t) bs)
        → LeftSound (left.par_of (S.children (node_of env)) (λ c. left.seq_of (count_of S n env) (left.turn_at (reading_of S) rule (count_of S n env) (S.children (node_of env)) (left_of S m.0) env c) 0) 0) (bare env) bs
    spread_sound n rule m env at bs ag h =
        let k = count_of S n env in
        let children = S.children (node_of env) in
        par_of_sound children (λ c. left.seq_of k (left.turn_at (reading_of S) rule k children (left_of S m.0) env c) 0) 0 (bare env) bs
        (λ c. seq_of_sound k (left.turn_at (reading_of S) rule k children (left_of S m.0) env c) 0 (bare env) bs
        (λ t lo hi. either_sound (child_of rule k children t == c) (left_of S m.0 (at_turn env t)) (bare env) bs
        (m.1 (at_turn env t) (words.at_turn at t) bs (agree-turn p env at t ag) (h t (omega (arith, hi))))))

    by_equations : (y : Term) (m : AskedOfTerms) (l : Env → Left) → Meets S asked y ≡ m → left_of S y ≡ l
        → ((env : Env) (at : words.Env) (bs : List ℕ) → Agree p env at → m env bs → LeftSound (l env) (bare env) bs) → Holds y
    by_equations y m l e r h env at bs ag met = subst (λ f. LeftSound (f env) (bare env) bs) (sym r) (h env at bs ag (subst (λ (f : AskedOfTerms). f env bs) e met))

    step : (y : Term-F M) → Holds (roll-Term (map-Term M Term (λ m. m.0) y))
    step Term-F.Skip = subst Holds (sym term.rolls-Skip) (by_equations term.Skip _ _ (meets_skip S asked) (left_skip (reading_of S)) (λ env at bs ag h. tt))
    step (Term-F.Act a) = subst Holds (sym (term.rolls-Act a)) (by_equations (term.Act a) _ _ (meets_act S asked a) (left_act (reading_of S) a) (λ env at bs ag h. act_sound env bs a h))
    step (Term-F.Seq xs) = subst Holds (sym (term.rolls-Seq (terms xs))) (by_equations (term.Seq (terms xs)) _ _ (meets_seq S asked (terms xs)) (left_seq (reading_of S) (terms xs)) (seq_terms xs))
    step (Term-F.Par xs) = subst Holds (sym (term.rolls-Par (terms xs))) (by_equations (term.Par (terms xs)) _ _ (meets_par S asked (terms xs)) (left_par (reading_of S) (terms xs)) (par_terms xs))
    step (Term-F.Loop n m) = subst Holds (sym (term.rolls-Loop n m.0)) (by_equations (term.Loop n m.0) _ _ (meets_loop S asked n m.0) (left_loop (reading_of S) n m.0) (λ env at bs ag h. turns_sound n m env at bs ag h.1))
    step (Term-F.Spread n rule m) = subst Holds (sym (term.rolls-Spread n rule m.0)) (by_equations (term.Spread n rule m.0) _ _ (meets_spread S asked n rule m.0) (left_spread (reading_of S) n rule m.0) (λ env at bs ag h. spread_sound n rule m env at bs ag h.2))
    step (Term-F.Case n xs) = subst Holds (sym (term.rolls-Case n (terms xs))) (by_equations (term.Case n (terms xs)) _ _ (meets_case S asked n (terms xs)) (left_case (reading_of S) n (terms xs)) (λ env at bs ag h. arms_terms xs (value_of S n env) env at bs ag h.1))
    step (Term-F.Within c bs m) =
        subst Holds (sym (term.rolls-Within c bs m.0)) (by_equations (term.Within c bs m.0) _ _ (meets_within S asked c bs m.0) (left_within (reading_of S) c bs m.0)
        (λ env at ds ag h.
        let inner = inside_of S env c in
        let there = agree_inside p are env at ag c h.0 in
        scope_sound env at ag c h.0 bs ds (left_of S m.0 inner) (shown _) h.1 (m.1 inner there.0 (bs ++ ds) there.1 h.2)))

    pub terms_sound : (y : Term) → Holds y
    terms_sound = ind-Term Holds (λ y z is. subst (λ w. Holds (roll-Term w)) is (step z))
