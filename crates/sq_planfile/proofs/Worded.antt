-- In a well formed plan what is left by words is what is left.
use Rattle.std.proofs.Common.{◌≡◌, ℕ, zero, suc, ◌+◌, ◌<◌, ℤ, pos, negsuc, Option, Some, None, List, [], ◌∷◌, ◌++◌, map, refl, sym, ap, ap₂, ◌∙◌, subst, arith}
use Rattle.std.specs.Prelude.{if◌then◌else◌, ◌==◌}
use Rattle.std.specs.List.{All}
use Rattle.std.proofs.lemmas.List.Elements.{All-head, All-tail}
use Rattle.sq_text.specs.declared.spread.SpreadRule.{SpreadRule}
use Rattle.sq_text.specs.Spreading.{child_of}
use Rattle.sq_ast.specs.Unplaced.{nowhere}
use Rattle.sq_ir.specs.Events.{Leaves}
use Rattle.sq_ir.specs.Machines.{AreNodes}
use Rattle.sq_ir.specs.Written as whole
use Rattle.sq_ir.specs.Written.{Setting, at_root, node_of, count_of, value_of, inside_of}
use Rattle.sq_ir.specs.Plans.{setting_of, IsCount, IsView, IsChild, IsAllowed, AskedOfActions, AskedOfTerms, each_part, this_arm, Meets, IsWellFormed}
use Rattle.sq_ir.specs.declared.num.Num.{Num}
use Rattle.sq_ir.specs.declared.term.Slot.{Slot}
use Rattle.sq_ir.specs.declared.term.LeafView.{LeafView}
use Rattle.sq_ir.specs.declared.term.Action.{Action}
use Rattle.sq_ir.specs.declared.term.Action.TheVariants as action
use Rattle.sq_ir.specs.declared.term.Term.{Term, roll-Term}
use Rattle.sq_ir.specs.declared.term.Term.TheVariants as t
use Rattle.sq_ir.specs.declared.term.Term.TheOpen.{Term-F}
use Rattle.sq_ir.specs.declared.term.Term.TheFolds.{ind-Term, map-Term}
use Rattle.sq_ir.specs.declared.plan.Plan.{Plan}
use Rattle.sq_ir.proofs.Meeting.{meets_act, meets_seq, meets_par, meets_loop, meets_spread, meets_case, meets_within}
use Rattle.sq_sched.specs.Words as words
use Rattle.sq_sched.specs.Words.{Env, root, value, count, node_here, children_at}
use Rattle.sq_sched.specs.Forms.{inside}
use Rattle.sq_sched.proofs.Agreeing.{Agree, agree-root, agree-turn, agree-child, children-is, value-is, count-is}
use Rattle.sq_plantext.specs.declared.text.EventText.TheVariants as event
use Rattle.sq_plantext.specs.declared.text.TermText.TheVariants as text
use Rattle.sq_planfile.specs.declared.left.Left.{Left}
use Rattle.sq_planfile.specs.declared.left.Left.TheVariants.{Nothing, Alone}
use Rattle.sq_planfile.specs.Left.{then_seq, then_par, scope}
use Rattle.sq_planfile.specs.Written.{slot_text, view_text, event_text, seq_parts, par_parts, arm_at, seq_of, par_of, turn_at, left_by, reading_of, left_of}
use Rattle.sq_planfile.specs.Words.{reading}
use Rattle.sq_planfile.proofs.Stands.{seq_same, par_same}
use Rattle.sq_planfile.proofs.Forms.{left_skip, left_act, left_seq, left_par, left_loop, left_spread, left_case, left_within}

module _ (plan : Plan) where
  abbrev s : Setting
  s = setting_of plan

  -- ---- events

  module _ (env : whole.Env) (at : Env) (ag : Agree plan env at) where
    abbrev here : Num → ℕ
    here n = count plan n at

    abbrev there : Num → ℕ
    there n = count_of s n env

    slot_same : (slot : Slot) → IsCount s env slot.at → slot_text here slot ≡ slot_text there slot
    slot_same slot h = ap (λ n. record { buffer = slot.buffer; at = n }) (count-is plan env at ag slot.at h)

    views_same : (bs : List ℕ) (vs : List LeafView) → All (IsView s env bs) vs → map (view_text here) vs ≡ map (view_text there) vs
    views_same bs [] h = refl
    views_same bs (v ∷ vs) h =
        ap₂ (λ slot ws. record { slot = slot; elem = v.elem; extents = v.extents; strides = v.strides } ∷ ws) (slot_same v.slot (All-head (IsView s env bs) v vs h).at) (views_same bs vs (All-tail (IsView s env bs) v vs h))

    path_same : (ks : List Num) → All (IsCount s env) ks → map here ks ≡ map there ks
    path_same [] h = refl
    path_same (k ∷ ks) h = ap₂ (λ n ns. n ∷ ns) (count-is plan env at ag k (All-head (IsCount s env) k ks h)) (path_same ks (All-tail (IsCount s env) k ks h))

    event_same : {C : Type 0} (leaves : Leaves C) (bs : List ℕ) (a : Action) → IsAllowed leaves s env bs a → event_text here a ≡ event_text there a
    event_same leaves bs (action.CopyRow from to bytes) h = ap₂ (λ f g. event.Copy f g bytes) (slot_same from h.inside.0.at) (slot_same to h.inside.1.at)
    event_same leaves bs (action.FillRow to e n v) h = ap (λ g. event.Fill g e n v) (slot_same to h.inside.at)
    event_same leaves bs (action.AccRow op e from to n) h = ap₂ (λ f g. event.Acc op e f g n) (slot_same from h.inside.0.at) (slot_same to h.inside.1.at)
    event_same leaves bs (action.Leaf code views path) h = ap₂ (λ vs ks. event.Run code vs ks) (views_same bs views h.inside.0) (path_same path h.inside.1)

  module _ {C : Type 0} (leaves : Leaves C) (are : AreNodes plan.nodes) where
    abbrev asked : AskedOfActions
    asked = IsAllowed leaves s

    abbrev Same : Term → Type 0
    Same x = (env : whole.Env) (at : Env) (bs : List ℕ) → Agree plan env at → Meets s asked x env bs → left_by (reading plan) x at ≡ left_of s x env

    abbrev M : Type 0
    M = (x : Term) × Same x

    abbrev terms : List M → List Term
    terms xs = map (λ m. m.0) xs

    asks : (x : Term) (f : AskedOfTerms) (env : whole.Env) (bs : List ℕ) → Meets s asked x ≡ f → Meets s asked x env bs → f env bs
    asks x f env bs e h = subst (λ (f : AskedOfTerms). f env bs) e h

    seq_parts_same : (xs : List M) (env : whole.Env) (at : Env) (bs : List ℕ) → Agree plan env at → each_part (Meets s asked) (terms xs) env bs
        → seq_parts (map (left_by (reading plan)) (terms xs)) at ≡ seq_parts (map (left_of s) (terms xs)) env
    seq_parts_same [] env at bs ag h = refl
    seq_parts_same (m ∷ xs) env at bs ag h = ap₂ then_seq (m.1 env at bs ag h.0) (seq_parts_same xs env at bs ag h.1)

    par_parts_same : (xs : List M) (env : whole.Env) (at : Env) (bs : List ℕ) → Agree plan env at → each_part (Meets s asked) (terms xs) env bs
        → par_parts (map (left_by (reading plan)) (terms xs)) at ≡ par_parts (map (left_of s) (terms xs)) env
    par_parts_same [] env at bs ag h = refl
    par_parts_same (m ∷ xs) env at bs ag h = ap₂ then_par (m.1 env at bs ag h.0) (par_parts_same xs env at bs ag h.1)

    arms_same : (xs : List M) (z : ℤ) (env : whole.Env) (at : Env) (bs : List ℕ) → Agree plan env at → this_arm (Meets s asked) (terms xs) z env bs
        → arm_at (map (left_by (reading plan)) (terms xs)) z at ≡ arm_at (map (left_of s) (terms xs)) z env
    arms_same [] (pos k) env at bs ag h = refl
    arms_same (m ∷ xs) (pos zero) env at bs ag h = m.1 env at bs ag h
    arms_same (m ∷ xs) (pos (suc k)) env at bs ag h = arms_same xs (pos k) env at bs ag h
    arms_same [] (negsuc k) env at bs ag h = refl
    arms_same (m ∷ xs) (negsuc k) env at bs ag h = refl

    turns_same : (m : M) (n : ℕ) (env : whole.Env) (at : Env) (bs : List ℕ) → Agree plan env at
        → ((u : ℕ) → u < n → Meets s asked m.0 (whole.at_turn env u) bs) → (u : ℕ) → u < n
        → left_by (reading plan) m.0 (words.at_turn at u) ≡ left_of s m.0 (whole.at_turn env u)
    turns_same m n env at bs ag h u lt = m.1 (whole.at_turn env u) (words.at_turn at u) bs (agree-turn plan env at u ag) (h u lt)

    loop_same : (n : Num) (m : M) (env : whole.Env) (at : Env) (bs : List ℕ) → Agree plan env at → IsCount s env n
        → ((u : ℕ) → u < count_of s n env → Meets s asked m.0 (whole.at_turn env u) bs)
        → seq_of (count plan n at) (λ u. left_by (reading plan) m.0 (words.at_turn at u)) 0 ≡ seq_of (count_of s n env) (λ u. left_of s m.0 (whole.at_turn env u)) 0
    loop_same n m env at bs ag h f =
        ap (λ k. seq_of k (λ u. left_by (reading plan) m.0 (words.at_turn at u)) 0) (count-is plan env at ag n h)
        ∙ seq_same (count_of s n env) _ _ 0 (λ u lt. turns_same m (count_of s n env) env at bs ag f (0 + u) (omega (arith, lt)))

    one_turn : (rule : SpreadRule) (k c : ℕ) (m : M) (n : ℕ) (env : whole.Env) (at : Env) (bs : List ℕ) → Agree plan env at
        → ((u : ℕ) → u < n → Meets s asked m.0 (whole.at_turn env u) bs) → (u : ℕ) → u < n
        → turn_at (reading plan) rule n k (left_by (reading plan) m.0) at c u ≡ turn_at (reading_of s) rule n k (left_of s m.0) env c u
    one_turn rule k c m n env at bs ag h u lt = ap (λ l. if child_of rule n k u == c then l else Nothing) (turns_same m n env at bs ag h u lt)

    spread_same : (n : Num) (rule : SpreadRule) (m : M) (env : whole.Env) (at : Env) (bs : List ℕ) → Agree plan env at → IsCount s env n
        → ((u : ℕ) → u < count_of s n env → Meets s asked m.0 (whole.at_turn env u) bs)
        → par_of (children_at plan at) (λ c. seq_of (count plan n at) (turn_at (reading plan) rule (count plan n at) (children_at plan at) (left_by (reading plan) m.0) at c) 0) 0
        ≡ par_of (s.children (node_of env)) (λ c. seq_of (count_of s n env) (turn_at (reading_of s) rule (count_of s n env) (s.children (node_of env)) (left_of s m.0) env c) 0) 0
    spread_same n rule m env at bs ag h f =
        let k = s.children (node_of env) in
        ap₂ (λ j i. par_of j (λ c. seq_of i (turn_at (reading plan) rule i j (left_by (reading plan) m.0) at c) 0) 0) (children-is plan env at ag) (count-is plan env at ag n h)
        ∙ par_same k _ _ 0 (λ c lc. seq_same (count_of s n env) _ _ 0 (λ u lt. one_turn rule k (0 + c) m (count_of s n env) env at bs ag f (0 + u) (omega (arith, lt))))

    within_same : (c : Option Num) (buffers : List ℕ) (m : M) (env : whole.Env) (at : Env) (bs : List ℕ) → Agree plan env at → IsChild s env c
        → Meets s asked m.0 (inside_of s env c) bs
        → scope (node_here at) (node_here (inside plan c at)) buffers (left_by (reading plan) m.0 (inside plan c at)) ≡ scope (node_of env) (node_of (inside_of s env c)) buffers (left_of s m.0 (inside_of s env c))
    within_same None buffers m env at bs ag h f = ap₂ (λ n l. scope n n buffers l) ag.here (m.1 env at bs ag f)
    within_same (Some c) buffers m env at bs ag h f =
        let k = count_of s c env in
        let e = count-is plan env at ag c h.0 in
        let inner = agree-child plan env at are ag k h.1 in
        ap (λ n. scope (node_here at) (node_here (words.at_child plan at n)) buffers (left_by (reading plan) m.0 (words.at_child plan at n))) e
        ∙ ap (λ n. scope n (node_here (words.at_child plan at k)) buffers (left_by (reading plan) m.0 (words.at_child plan at k))) ag.here
        ∙ ap₂ (λ n l. scope (node_of env) n buffers l) inner.here (m.1 (whole.at_child s env k) (words.at_child plan at k) bs inner f)

    by_equations : (x : Term) (env : whole.Env) (at : Env) (a b : Left) → left_by (reading plan) x at ≡ a → left_of s x env ≡ b → a ≡ b → left_by (reading plan) x at ≡ left_of s x env
    by_equations x env at a b e f g = e ∙ g ∙ sym f

    step : (y : Term-F M) → Same (roll-Term (map-Term M Term (λ m. m.0) y))
    step Term-F.Skip = subst Same (sym t.rolls-Skip) (λ env at bs ag h. ap (λ f. f at) (left_skip (reading plan)) ∙ sym (ap (λ f. f env) (left_skip (reading_of s))))
    step (Term-F.Act a) = subst Same (sym (t.rolls-Act a)) (λ env at bs ag h.
        ap (λ f. f at) (left_act (reading plan) a) ∙ ap (λ e. Alone (text.Act nowhere e)) (event_same env at ag leaves bs a (asks (t.Act a) _ env bs (meets_act s asked a) h))
        ∙ sym (ap (λ f. f env) (left_act (reading_of s) a)))
    step (Term-F.Seq xs) = subst Same (sym (t.rolls-Seq (terms xs))) (λ env at bs ag h.
        ap (λ f. f at) (left_seq (reading plan) (terms xs)) ∙ seq_parts_same xs env at bs ag (asks (t.Seq (terms xs)) _ env bs (meets_seq s asked (terms xs)) h)
        ∙ sym (ap (λ f. f env) (left_seq (reading_of s) (terms xs))))
    step (Term-F.Par xs) = subst Same (sym (t.rolls-Par (terms xs))) (λ env at bs ag h.
        ap (λ f. f at) (left_par (reading plan) (terms xs)) ∙ par_parts_same xs env at bs ag (asks (t.Par (terms xs)) _ env bs (meets_par s asked (terms xs)) h)
        ∙ sym (ap (λ f. f env) (left_par (reading_of s) (terms xs))))
    step (Term-F.Loop n m) = subst Same (sym (t.rolls-Loop n m.0)) (λ env at bs ag h.
        let p = asks (t.Loop n m.0) _ env bs (meets_loop s asked n m.0) h in
        ap (λ f. f at) (left_loop (reading plan) n m.0) ∙ loop_same n m env at bs ag p.0 p.1 ∙ sym (ap (λ f. f env) (left_loop (reading_of s) n m.0)))
    step (Term-F.Spread n rule m) = subst Same (sym (t.rolls-Spread n rule m.0)) (λ env at bs ag h.
        let p = asks (t.Spread n rule m.0) _ env bs (meets_spread s asked n rule m.0) h in
        ap (λ f. f at) (left_spread (reading plan) n rule m.0) ∙ spread_same n rule m env at bs ag p.0 p.2 ∙ sym (ap (λ f. f env) (left_spread (reading_of s) n rule m.0)))
    step (Term-F.Case n xs) = subst Same (sym (t.rolls-Case n (terms xs))) (λ env at bs ag h.
        let p = asks (t.Case n (terms xs)) _ env bs (meets_case s asked n (terms xs)) h in
        ap (λ f. f at) (left_case (reading plan) n (terms xs)) ∙ ap (λ z. arm_at (map (left_by (reading plan)) (terms xs)) z at) (value-is plan env at ag n p.0)
        ∙ arms_same xs (value_of s n env) env at bs ag p.1 ∙ sym (ap (λ f. f env) (left_case (reading_of s) n (terms xs))))
    step (Term-F.Within c buffers m) = subst Same (sym (t.rolls-Within c buffers m.0)) (λ env at bs ag h.
        let p = asks (t.Within c buffers m.0) _ env bs (meets_within s asked c buffers m.0) h in
        ap (λ f. f at) (left_within (reading plan) c buffers m.0) ∙ within_same c buffers m env at (buffers ++ bs) ag p.0 p.2
        ∙ sym (ap (λ f. f env) (left_within (reading_of s) c buffers m.0)))

    all_same : (x : Term) → Same x
    all_same = ind-Term Same (λ x y is. subst (λ z. Same (roll-Term z)) is (step y))

  -- the whole term
  pub worded : {C : Type 0} (leaves : Leaves C) → IsWellFormed leaves plan → left_by (reading plan) plan.draft.term (root plan) ≡ left_of s plan.draft.term at_root
  worded leaves h = all_same leaves h.nodes plan.draft.term at_root (root plan) plan.draft.entry (agree-root plan h.nodes) h.term
