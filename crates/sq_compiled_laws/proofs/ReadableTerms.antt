-- The term that a good plan is written out as can be read.
use Rattle.std.proofs.Common.{◌≡◌, ℕ, zero, suc, ◌+◌, ◌*◌, ◌<◌, ◌≤◌, ◌==◌, ◌^◌, Bool, true, false, if◌then◌else◌, ℤ, pos, negsuc, Option, Some, None, option_map, slice_get, List, [], ◌∷◌, ◌++◌, length, map, refl, sym, ap, ◌∙◌, subst, arith}
use Rattle.std.specs.List.{All, Contains}
use Rattle.sq_num.specs.declared.Elem.{Elem}
use Rattle.sq_num.specs.declared.Elem.TheVariants.{Byte, Int, Long}
use Rattle.sq_num.specs.Elements.{width, IsValue}
use Rattle.sq_text.specs.declared.spread.SpreadRule.{SpreadRule}
use Rattle.sq_text.specs.Spreading.{child_of}
use Rattle.sq_ast.specs.Unplaced.{nowhere}
use Rattle.sq_leaf.specs.Rect.declared.view.View.{View}
use Rattle.sq_ir.specs.declared.num.Num.{Num}
use Rattle.sq_ir.specs.declared.term.Slot.{Slot}
use Rattle.sq_ir.specs.declared.term.LeafView.{LeafView}
use Rattle.sq_ir.specs.declared.term.Action.{Action}
use Rattle.sq_ir.specs.declared.term.Action.TheVariants as action
use Rattle.sq_ir.specs.declared.term.Term.{Term, roll-Term}
use Rattle.sq_ir.specs.declared.term.Term.TheVariants as term
use Rattle.sq_ir.specs.declared.term.Term.TheOpen.{Term-F}
use Rattle.sq_ir.specs.declared.term.Term.TheFolds.{ind-Term, map-Term}
use Rattle.sq_ir.specs.declared.plan.Leaf.{Leaf}
use Rattle.sq_ir.specs.declared.plan.Plan.{Plan}
use Rattle.sq_ir.specs.Events.{Shape}
use Rattle.sq_ir.specs.Machines.{AreNodes}
use Rattle.sq_ir.specs.DraftLeaves.{leaves_of, shapes_of}
use Rattle.sq_ir.specs.Written.{Setting, Env, node_of, at_root, at_turn, value_of, count_of, view_of, inside_of}
use Rattle.sq_ir.specs.Plans.{AskedOfActions, AskedOfTerms, each_part, this_arm, Meets, IsChild, IsBuffer, IsRow, IsView, IsAllowed, setting_of}
use Rattle.sq_ir.proofs.Meeting.{meets_skip, meets_act, meets_seq, meets_par, meets_loop, meets_spread, meets_case, meets_within}
use Rattle.sq_sched.specs.Words as words
use Rattle.sq_sched.specs.Words.{root}
use Rattle.sq_sched.proofs.Agreeing.{Agree, agree-root, agree-turn, agree-child}
use Rattle.sq_plantext.specs.declared.text.EventText.{EventText}
use Rattle.sq_plantext.specs.declared.text.TermText.{TermText, roll-TermText}
use Rattle.sq_plantext.specs.declared.text.TermText.TheVariants as text
use Rattle.sq_plantext.specs.declared.text.TermText.TheOpen.{TermText-F}
use Rattle.sq_plantext.specs.declared.text.TermText.TheFolds.{rec-roll-TermText, map-TermText}
use Rattle.sq_planfile.specs.declared.left.Left.{Left}
use Rattle.sq_planfile.specs.declared.left.Left.TheVariants.{Nothing, InTurn, Beside, Alone}
use Rattle.sq_planfile.specs.Left.{in_turn, beside, then_seq, then_par, whole, lines_of, is_left_out, scope}
use Rattle.sq_planfile.specs.Sound.{AreViewTexts, IsViewText}
use Rattle.sq_planfile.specs.Written as left
use Rattle.sq_planfile.specs.Written.{view_text, event_text, reading_of, left_of}
use Rattle.sq_planfile.proofs.Forms.{left_skip, left_act, left_seq, left_par, left_loop, left_spread, left_case, left_within}
use Rattle.sq_planfile.proofs.Joins.{IsSome, turns, besides, alone, Shown, none, some, shown, seq_is, par_is, seq_nothing, par_nothing}
use Rattle.sq_filed_laws.specs.LayoutLaws.Readable.{IsShort, AreShort, IsReadableView, IsReadableEvent, each, readable_step, IsReadableTerm}
use Rattle.sq_compiled_laws.proofs.Each.{Each, all, both, there}

-- ---- terms of texts

abbrev parts : List TermText → Type 0
parts xs = each IsReadableTerm xs

each_same : {X : Type 0} (v : X → TermText) (k : TermText → Type 0) (xs : List X) → each (λ p. k (v p)) xs ≡ each k (map v xs)
each_same v k [] = refl
each_same v k (x ∷ xs) = ap (λ (t : Type 0). k (v x) × t) (each_same v k xs)

natural : (X : Type 0) (v : X → TermText) (k : TermText → Type 0) (y : TermText-F X)
    → readable_step X v (λ p. k (v p)) y ≡ readable_step TermText (λ z. z) k (map-TermText X TermText v y)
natural X v k (TermText-F.Seq xs) = each_same v k xs
natural X v k (TermText-F.Par xs) = each_same v k xs
natural X v k (TermText-F.At p n bs b) = refl
natural X v k (TermText-F.Act p e) = refl

abbrev in_step : TermText-F TermText → Type 0
in_step = readable_step TermText (λ z. z) IsReadableTerm

rolled : (d : TermText-F TermText) → IsReadableTerm (roll-TermText d) ≡ in_step d
rolled d = rec-roll-TermText (Type 0) readable_step natural d

readable_seq : (xs : List TermText) → IsReadableTerm (text.Seq xs) ≡ in_step (TermText-F.Seq xs)
readable_seq xs = ap IsReadableTerm (sym (text.rolls-Seq xs)) ∙ rolled (TermText-F.Seq xs)

readable_par : (xs : List TermText) → IsReadableTerm (text.Par xs) ≡ in_step (TermText-F.Par xs)
readable_par xs = ap IsReadableTerm (sym (text.rolls-Par xs)) ∙ rolled (TermText-F.Par xs)

readable_at : (node : ℕ) (bs : List ℕ) (x : TermText) → IsReadableTerm (text.At nowhere node bs x) ≡ in_step (TermText-F.At nowhere node bs x)
readable_at node bs x = ap IsReadableTerm (sym (text.rolls-At nowhere node bs x)) ∙ rolled (TermText-F.At nowhere node bs x)

readable_act : (e : EventText) → IsReadableTerm (text.Act nowhere e) ≡ in_step (TermText-F.Act nowhere e)
readable_act e = ap IsReadableTerm (sym (text.rolls-Act nowhere e)) ∙ rolled (TermText-F.Act nowhere e)

by_type : {A B : Type 0} → A ≡ B → B → A
by_type e x = subst (λ (t : Type 0). t) (sym e) x

-- ---- what is left of parts

abbrev IsReadableLeft : Left → Type 0
IsReadableLeft Nothing = Unit {0}
IsReadableLeft (InTurn ts) = parts ts
IsReadableLeft (Beside ts) = parts ts
IsReadableLeft (Alone t) = IsReadableTerm t

pub whole_readable : (a : Left) → IsReadableLeft a → IsReadableTerm (whole a)
whole_readable Nothing h = by_type (readable_seq []) tt
whole_readable (InTurn ts) h = by_type (readable_seq ts) h
whole_readable (Beside ts) h = by_type (readable_par ts) h
whole_readable (Alone t) h = h

append_readable : (xs ys : List TermText) → parts xs → parts ys → parts (xs ++ ys)
append_readable [] ys h k = k
append_readable (x ∷ xs) ys h k = (h.0, append_readable xs ys h.1 k)

in_turn_readable : {a : Left} → IsSome a → IsReadableLeft a → parts (in_turn a)
in_turn_readable turns h = h
in_turn_readable (besides {ts = ts}) h = (by_type (readable_par ts) h, tt)
in_turn_readable alone h = (h, tt)

beside_readable : {a : Left} → IsSome a → IsReadableLeft a → parts (beside a)
beside_readable (turns {ts = ts}) h = (by_type (readable_seq ts) h, tt)
beside_readable besides h = h
beside_readable alone h = (h, tt)

then_readable : (a b : Left) → Shown a → Shown b → IsReadableLeft a → IsReadableLeft b → IsReadableLeft (then_seq a b)
then_readable a b (none e) y h k = subst (λ a. IsReadableLeft (then_seq a b)) (sym e) k
then_readable a b (some u) (none e) h k =
    subst (λ b. IsReadableLeft (then_seq a b)) (sym e) (subst IsReadableLeft (sym (seq_nothing a)) h)
then_readable a b (some u) (some v) h k =
    subst IsReadableLeft (sym (seq_is u v))
    (append_readable (in_turn a) (in_turn b) (in_turn_readable u h) (in_turn_readable v k))

aside_readable : (a b : Left) → Shown a → Shown b → IsReadableLeft a → IsReadableLeft b → IsReadableLeft (then_par a b)
aside_readable a b (none e) y h k = subst (λ a. IsReadableLeft (then_par a b)) (sym e) k
aside_readable a b (some u) (none e) h k =
    subst (λ b. IsReadableLeft (then_par a b)) (sym e) (subst IsReadableLeft (sym (par_nothing a)) h)
aside_readable a b (some u) (some v) h k =
    subst IsReadableLeft (sym (par_is u v))
    (append_readable (beside a) (beside b) (beside_readable u h) (beside_readable v k))

seq_of_readable : (n : ℕ) (g : ℕ → Left) (k : ℕ) → ((i : ℕ) → k ≤ i → i < k + n → IsReadableLeft (g i)) → IsReadableLeft (left.seq_of n g k)
unfolding left.seq_of
seq_of_readable zero g k h = tt
seq_of_readable (suc n) g k h =
    then_readable (g k) (left.seq_of n g (k + 1)) (shown _) (shown _) (h k (omega arith) (omega arith))
    (seq_of_readable n g (k + 1) (λ i lo hi. h i (omega (arith, lo)) (omega (arith, hi))))

par_of_readable : (n : ℕ) (g : ℕ → Left) (k : ℕ) → ((i : ℕ) → IsReadableLeft (g i)) → IsReadableLeft (left.par_of n g k)
unfolding left.par_of
par_of_readable zero g k h = tt
par_of_readable (suc n) g k h =
    aside_readable (g k) (left.par_of n g (k + 1)) (shown _) (shown _) (h k) (par_of_readable n g (k + 1) h)

either_readable : (v : Bool) (a : Left) → IsReadableLeft a → IsReadableLeft (if v then a else Nothing)
either_readable true a h = h
either_readable false a h = tt

lines_readable : (node : ℕ) (bs : List ℕ) (a : Left) → IsShort node → AreShort bs → IsReadableLeft a → IsReadableLeft (lines_of node bs a)
lines_readable node bs Nothing n b h = tt
lines_readable node bs (InTurn ts) n b h = by_type (readable_at node bs (whole (InTurn ts))) (n, b, whole_readable (InTurn ts) h)
lines_readable node bs (Beside ts) n b h = by_type (readable_at node bs (whole (Beside ts))) (n, b, whole_readable (Beside ts) h)
lines_readable node bs (Alone t) n b h = by_type (readable_at node bs (whole (Alone t))) (n, b, whole_readable (Alone t) h)

scope_readable : (here node : ℕ) (bs : List ℕ) (a : Left) → IsShort node → AreShort bs → IsReadableLeft a → IsReadableLeft (scope here node bs a)
scope_readable here node bs a n b h = by (is_left_out here node bs)
  where
    by : (v : Bool) → IsReadableLeft (if v then a else lines_of node bs a)
    by true = h
    by false = lines_readable node bs a n b h

-- ---- events

-- what a row is filled with is a number of 64 bits
abbrev pub IsFilled : Action → Type 0
IsFilled (action.FillRow to e n value) = IsValue Long value
IsFilled _ = Unit {0}

no_more : (e : Elem) (n k : ℕ) → k + n * width e ≤ 2 ^ 30 → n ≤ 2 ^ 30
no_more Byte n k h = omega (arith, h)
no_more Int n k h = omega (arith, h)
no_more Long n k h = omega (arith, h)

-- a leaf that has shapes is there
code_there : (ls : List Leaf) (code : ℕ) (x : List Shape)
    → option_map shapes_of (option_map (λ (l : Leaf). l.code) (slice_get ls code)) ≡ Some x → code < length ls
code_there [] code x e = absurd (cc e)
code_there (l ∷ ls) zero x e = omega arith
code_there (l ∷ ls) (suc code) x e = let less = code_there ls code x e in omega (arith, less)

words_short : (ns : List ℕ) → All (λ n. n < 2 ^ 32) ns → AreShort ns
words_short ns h k d lt = let x = h k d lt in omega (arith, x)

module _ (p : Plan) (sizes : (b : ℕ) → (setting_of p).size b ≤ 2 ^ 30) (few_buffers : length p.draft.buffers < 2 ^ 63)
    (few_leaves : length p.draft.leaves < 2 ^ 63) where
  abbrev S : Setting
  S = setting_of p

  abbrev IsThere : ℕ → Type 0
  IsThere b = b < length p.draft.buffers

  abbrev pub asked : AskedOfActions
  asked env bs a = (IsAllowed (leaves_of p.draft) S env bs a × AreViewTexts (event_text (λ n. count_of S n env) a)) × IsFilled a

  module _ (env : Env) (bs : List ℕ) (known : Each IsThere bs) where
    abbrev counts : Num → ℕ
    counts n = count_of S n env

    buffer_short : (b : ℕ) → Contains bs b → IsShort b
    buffer_short b c = let less = there IsThere bs b known c in omega (arith, less, few_buffers)

    slot_readable : (slot : Slot) (bytes : ℕ) → IsRow S env bs slot bytes → IsShort slot.buffer × IsShort (counts slot.at)
    slot_readable slot bytes r =
        let most = sizes slot.buffer in
        let inside = r.inside in
        (buffer_short slot.buffer r.scope, omega (arith, most, inside))

    views_readable : (vs : List LeafView) → All (IsView S env bs) vs → All (λ (v : View). v.at < 2 ^ 32) (map (view_of S env) vs)
        → All IsViewText (map (view_text counts) vs) → All IsReadableView (map (view_text counts) vs)
    views_readable [] h near ts k d lt = absurd (omega (arith, lt))
    views_readable (v ∷ vs) h near ts zero d lt =
        let one = h 0 v (omega arith) in
        let at = near 0 (view_of S env v) (omega arith) in
        let t = ts 0 (view_text counts v) (omega arith) in
        record {
          slot = (buffer_short v.slot.buffer one.scope, omega (arith, at));
          extents = words_short v.extents t.extents;
          strides = words_short v.strides t.strides;
        }
    views_readable (v ∷ vs) h near ts (suc k) d lt =
        views_readable vs (λ j e l. h (suc j) e (omega (arith, l))) (λ j e l. near (suc j) e (omega (arith, l)))
        (λ j e l. ts (suc j) e (omega (arith, l))) k d (omega (arith, lt))

    event_readable : (a : Action) → asked env bs a → IsReadableEvent (event_text counts a)
    event_readable (action.CopyRow from to bytes) h =
        let most = sizes from.buffer in
        let inside = h.0.0.inside.0.inside in
        (slot_readable from bytes h.0.0.inside.0, slot_readable to bytes h.0.0.inside.1, omega (arith, most, inside))
    event_readable (action.FillRow to e n value) h =
        let most = sizes to.buffer in
        let inside = h.0.0.inside.inside in
        let few = no_more e n (counts to.at) (omega (arith, most, inside)) in
        (slot_readable to (n * width e) h.0.0.inside, omega (arith, few), h.1)
    event_readable (action.AccRow op e from to n) h =
        let most = sizes from.buffer in
        let inside = h.0.0.inside.0.inside in
        let few = no_more e n (counts from.at) (omega (arith, most, inside)) in
        (slot_readable from (n * width e) h.0.0.inside.0, slot_readable to (n * width e) h.0.0.inside.1, omega (arith, few))
    event_readable (action.Leaf code views path) h =
        let less = code_there p.draft.leaves code _ h.0.0.event.shapes in (
          omega (arith, less, few_leaves),
          views_readable views h.0.0.inside.0 h.0.0.event.near h.0.1,
          words_short (map counts path) h.0.0.event.words,
        )

  -- ---- terms

  module _ (are : AreNodes p.nodes) where
    node_short : (env : Env) (at : words.Env) → Agree p env at → IsShort (node_of env)
    node_short env at ag =
        let less = ag.there env.level (omega arith) in
        let few = are.few in
        omega (arith, less, few)

    agree_inside : (env : Env) (at : words.Env) → Agree p env at → (child : Option Num) → IsChild S env child
        → (inner : words.Env) × Agree p (inside_of S env child) inner
    agree_inside env at ag None h = (at, ag)
    agree_inside env at ag (Some c) h = (words.at_child p at (count_of S c env), agree-child p env at are ag (count_of S c env) h.1)

    names_there : (level : ℕ) (bs : List ℕ) → All (IsBuffer S level) bs → Each IsThere bs
    names_there level [] h = tt
    names_there level (b ∷ bs) h = ((h 0 b (omega arith)).there, names_there level bs (λ k d lt. h (suc k) d (omega (arith, lt))))

    names_short : (bs : List ℕ) → Each IsThere bs → Each IsShort bs
    names_short [] h = tt
    names_short (b ∷ bs) h = let less = h.0 in (omega (arith, less, few_buffers), names_short bs h.1)

    abbrev Holds : Term → Type 0
    Holds y = (env : Env) (at : words.Env) (bs : List ℕ) → Agree p env at → Each IsThere bs → Meets S asked y env bs → IsReadableLeft (left_of S y env)

    abbrev M : Type 0
    M = (y : Term) × Holds y

    abbrev terms : List M → List Term
    terms xs = map (λ m. m.0) xs

    seq_terms : (xs : List M) (env : Env) (at : words.Env) (bs : List ℕ) → Agree p env at → Each IsThere bs → each_part (Meets S asked) (terms xs) env bs
        → IsReadableLeft (left.seq_parts (map (left_of S) (terms xs)) env)
    seq_terms [] env at bs ag known h = tt
    seq_terms (m ∷ xs) env at bs ag known h =
        then_readable (left_of S m.0 env) (left.seq_parts (map (left_of S) (terms xs)) env) (shown _) (shown _)
        (m.1 env at bs ag known h.0) (seq_terms xs env at bs ag known h.1)

    par_terms : (xs : List M) (env : Env) (at : words.Env) (bs : List ℕ) → Agree p env at → Each IsThere bs → each_part (Meets S asked) (terms xs) env bs
        → IsReadableLeft (left.par_parts (map (left_of S) (terms xs)) env)
    par_terms [] env at bs ag known h = tt
    par_terms (m ∷ xs) env at bs ag known h =
        aside_readable (left_of S m.0 env) (left.par_parts (map (left_of S) (terms xs)) env) (shown _) (shown _)
        (m.1 env at bs ag known h.0) (par_terms xs env at bs ag known h.1)

    arm_terms : (xs : List M) (k : ℕ) (env : Env) (at : words.Env) (bs : List ℕ) → Agree p env at → Each IsThere bs
        → this_arm (Meets S asked) (terms xs) (pos k) env bs → IsReadableLeft (left.arm_of (map (left_of S) (terms xs)) k env)
    arm_terms [] k env at bs ag known h = tt
    arm_terms (m ∷ xs) zero env at bs ag known h = m.1 env at bs ag known h
    arm_terms (m ∷ xs) (suc k) env at bs ag known h = arm_terms xs k env at bs ag known h

    arms_terms : (xs : List M) (z : ℤ) (env : Env) (at : words.Env) (bs : List ℕ) → Agree p env at → Each IsThere bs
        → this_arm (Meets S asked) (terms xs) z env bs → IsReadableLeft (left.arm_at (map (left_of S) (terms xs)) z env)
    arms_terms xs (pos k) env at bs ag known h = arm_terms xs k env at bs ag known h
    arms_terms xs (negsuc k) env at bs ag known h = tt

    loop_terms : (n : Num) (m : M) (env : Env) (at : words.Env) (bs : List ℕ) → Agree p env at → Each IsThere bs
        → ((t : ℕ) → t < count_of S n env → Meets S asked m.0 (at_turn env t) bs)
        → IsReadableLeft (left.seq_of (count_of S n env) (λ t. left_of S m.0 (at_turn env t)) 0)
    loop_terms n m env at bs ag known h =
        seq_of_readable (count_of S n env) (λ t. left_of S m.0 (at_turn env t)) 0
        (λ t lo hi. m.1 (at_turn env t) (words.at_turn at t) bs (agree-turn p env at t ag) known (h t (omega (arith, hi))))

    spread_terms : (n : Num) (rule : SpreadRule) (m : M) (env : Env) (at : words.Env) (bs : List ℕ) → Agree p env at → Each IsThere bs
        → ((t : ℕ) → t < count_of S n env → Meets S asked m.0 (at_turn env t) bs)
        → IsReadableLeft (left.par_of (S.children (node_of env)) (λ c. left.seq_of (count_of S n env) (left.turn_at (reading_of S) rule (count_of S n env) (S.children (node_of env)) (left_of S m.0) env c) 0) 0)
    spread_terms n rule m env at bs ag known h =
        let k = count_of S n env in
        let children = S.children (node_of env) in
        par_of_readable children (λ c. left.seq_of k (left.turn_at (reading_of S) rule k children (left_of S m.0) env c) 0) 0
        (λ c. seq_of_readable k (left.turn_at (reading_of S) rule k children (left_of S m.0) env c) 0
        (λ t lo hi. either_readable (child_of rule k children t == c) (left_of S m.0 (at_turn env t))
        (m.1 (at_turn env t) (words.at_turn at t) bs (agree-turn p env at t ag) known (h t (omega (arith, hi))))))

    by_equations : (y : Term) (m : AskedOfTerms) (l : Env → Left) → Meets S asked y ≡ m → left_of S y ≡ l
        → ((env : Env) (at : words.Env) (bs : List ℕ) → Agree p env at → Each IsThere bs → m env bs → IsReadableLeft (l env)) → Holds y
    by_equations y m l e r h env at bs ag known met =
        subst (λ f. IsReadableLeft (f env)) (sym r) (h env at bs ag known (subst (λ (f : AskedOfTerms). f env bs) e met))

    step : (y : Term-F M) → Holds (roll-Term (map-Term M Term (λ m. m.0) y))
    step Term-F.Skip = subst Holds (sym term.rolls-Skip) (by_equations term.Skip _ _ (meets_skip S asked) (left_skip (reading_of S)) (λ env at bs ag known h. tt))
    step (Term-F.Act a) = subst Holds (sym (term.rolls-Act a)) (by_equations (term.Act a) _ _ (meets_act S asked a) (left_act (reading_of S) a)
        (λ env at bs ag known h. by_type (readable_act (event_text (λ n. count_of S n env) a)) (event_readable env bs known a h)))
    step (Term-F.Seq xs) = subst Holds (sym (term.rolls-Seq (terms xs))) (by_equations (term.Seq (terms xs)) _ _ (meets_seq S asked (terms xs)) (left_seq (reading_of S) (terms xs)) (seq_terms xs))
    step (Term-F.Par xs) = subst Holds (sym (term.rolls-Par (terms xs))) (by_equations (term.Par (terms xs)) _ _ (meets_par S asked (terms xs)) (left_par (reading_of S) (terms xs)) (par_terms xs))
    step (Term-F.Loop n m) = subst Holds (sym (term.rolls-Loop n m.0)) (by_equations (term.Loop n m.0) _ _ (meets_loop S asked n m.0) (left_loop (reading_of S) n m.0) (λ env at bs ag known h. loop_terms n m env at bs ag known h.1))
    step (Term-F.Spread n rule m) = subst Holds (sym (term.rolls-Spread n rule m.0)) (by_equations (term.Spread n rule m.0) _ _ (meets_spread S asked n rule m.0) (left_spread (reading_of S) n rule m.0) (λ env at bs ag known h. spread_terms n rule m env at bs ag known h.2))
    step (Term-F.Case n xs) = subst Holds (sym (term.rolls-Case n (terms xs))) (by_equations (term.Case n (terms xs)) _ _ (meets_case S asked n (terms xs)) (left_case (reading_of S) n (terms xs)) (λ env at bs ag known h. arms_terms xs (value_of S n env) env at bs ag known h.1))
    step (Term-F.Within c bs m) =
        subst Holds (sym (term.rolls-Within c bs m.0)) (by_equations (term.Within c bs m.0) _ _ (meets_within S asked c bs m.0) (left_within (reading_of S) c bs m.0)
        (λ env at ds ag known h.
        let inner = inside_of S env c in
        let deep = agree_inside env at ag c h.0 in
        let names = names_there inner.level bs h.1 in
        scope_readable (node_of env) (node_of inner) bs (left_of S m.0 inner) (node_short inner deep.0 deep.1)
        (all IsShort bs (names_short bs names)) (m.1 inner deep.0 (bs ++ ds) deep.1 (both IsThere bs ds names known) h.2)))

    terms_readable : (y : Term) → Holds y
    terms_readable = ind-Term Holds (λ y z is. subst (λ w. Holds (roll-Term w)) is (step z))

    pub term_readable : (bs : List ℕ) → Each IsThere bs → (y : Term) → Meets S asked y at_root bs → IsReadableTerm (whole (left_of S y at_root))
    term_readable bs known y h =
        whole_readable (left_of S y at_root) (terms_readable y at_root (root p) bs (agree-root p are) known h)
