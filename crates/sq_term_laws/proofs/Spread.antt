-- What is placed by the tables has lower calls alone in its spread maps, and no lower call at the last level.
use Rattle.std.proofs.Common.{◌≡◌, ℕ, zero, suc, ◌+◌, ◌<◌, Bool, true, false, not, ◌||◌, is_some, List, [], ◌∷◌, ◌++◌}
use Rattle.std.proofs.Common.{map, get_or, slice_get, Option, Some, None, refl, sym, ap, subst, ◌∙◌, arith}
use Rattle.std.proofs.Common.{if◌then◌else◌}
use Rattle.std.specs.Prelude.{◌&&◌}
use Rattle.sq_num.specs.declared.RedOp.{RedOp}
use Rattle.sq_text.specs.declared.place.Place.{Place}
use Rattle.sq_text.specs.declared.spread.SpreadRule.{SpreadRule}
use Rattle.sq_ir.specs.Leaf.declared.shape.Shape.{Shape}
use Rattle.sq_spec.specs.declared.statement.LoopKind.{LoopKind}
use Rattle.sq_spec.specs.declared.statement.LoopKind.TheVariants as loop_kind
use Rattle.sq_spec.specs.declared.statement.CallInstance.{CallInstance}
use Rattle.sq_spec.specs.declared.statement.Statement.{Statement, roll-Statement}
use Rattle.sq_spec.specs.declared.statement.Statement.TheVariants as b
use Rattle.sq_spec.specs.declared.statement.Statement.TheOpen.{Statement-F}
use Rattle.sq_spec.specs.declared.statement.Statement.TheFolds.{ind-Statement, map-Statement}
use Rattle.sq_spec.specs.declared.body.Body.{Body}
use Rattle.sq_spec.specs.declared.body.Body.TheVariants as body
use Rattle.sq_spec.specs.declared.body.FormBody.{FormBody}
use Rattle.sq_spec.specs.Spreads.{is_beside}
use Rattle.sq_placed.specs.declared.home.Homes.{Homes}
use Rattle.sq_placed.specs.Placed.{Placed, PlacedArg}
use Rattle.sq_placed.specs.Tables.{op_of, spread_of, map_placed, Chain, chain_of, first_of, leaving_row}
use Rattle.sq_placed.specs.Tables.{leaving_chain, hold_placed, holds, held_arg, chain_form, chain_row, PlacedPart}
use Rattle.sq_placed.specs.Tables.{chains, any_lower, any_same, all_placed, row_placed, placed_step, statement_placed}
use Rattle.sq_placed.specs.Tables.{body_placed, placed_of, overlapped, lanes_of, Pipe, pipe_of, placed_rule, row_body}
use Rattle.sq_placed.specs.Tables.{pipe_placed, row_form}
use Rattle.sq_term.specs.Stands.{below, calls_in_rows, all_calls, calls_in, calls_in_all, calls_of, AreLevel}
use Rattle.sq_term.proofs.Opened.{calls_call, calls_map}
use Rattle.sq_placed.proofs.Opened.{part_call, part_map}
use Rattle.sq_term.proofs.Holds.{IsAlone, call_alone, one_alone, row_level}
use Rattle.sq_blocks.specs.declared.argument.Argument.{Argument}
use Rattle.sq_term_laws.specs.Rooms.{OnlyLower, IsSpreadWell}
use Rattle.sq_term_laws.proofs.Piped.{no_pipe, pipe_is, pipe_spread}

level_left : (level : ℕ → ℕ) (at : ℕ) (xs ys : List (Bool × ℕ)) → AreLevel level at (xs ++ ys) → AreLevel level at xs
level_left level at [] ys h = tt
level_left level at (x ∷ xs) ys h = (h.0, level_left level at xs ys h.1)

level_right : (level : ℕ → ℕ) (at : ℕ) (xs ys : List (Bool × ℕ)) → AreLevel level at (xs ++ ys) → AreLevel level at ys
level_right level at [] ys h = h
level_right level at (x ∷ xs) ys h = level_right level at xs ys h.1

or_left : (u v : Bool) → (u || v) ≡ false → u ≡ false
or_left true v h = cc
or_left false v h = refl

or_rest : (u v : Bool) → (u || v) ≡ false → v ≡ false
or_rest true v h = cc
or_rest false v h = h

not_same : (u i l s : Bool) → (u && (not i && (l && not s))) ≡ true → s ≡ false
not_same true false true false h = refl
not_same true false true true h = cc
not_same true false false s h = cc
not_same true true l s h = cc
not_same false i l s h = cc

not_inside : (u i l s : Bool) → i ≡ true → (u && (not i && (l && not s))) ≡ false
not_inside true true l s h = refl
not_inside false i l s h = refl
not_inside true false l s h = cc

module _ (bodies : ℕ → FormBody) (homes : ℕ → Homes) (level : ℕ → ℕ) (levels : ℕ)
    (root : (homes 0).overlaps ≡ false) (low : (f : ℕ) → level f < levels) where
  module _ (callee : ℕ → Placed) (good : (f : ℕ) → IsSpreadWell levels (level f) (callee f)) (at : ℕ)
      (rule : SpreadRule) where
    abbrev part : Statement → PlacedPart
    part = statement_placed bodies homes callee rule

    abbrev Holds : Placed → Bool → Bool → Type 0
    Holds x same inside = IsSpreadWell levels at x × (same ≡ false → inside ≡ true → OnlyLower x)

    record GoodAs (p : PlacedPart) (calls : List (Bool × ℕ)) : Type 0 where
      held : (op : Option RedOp) (inside : Bool) (k : ℕ) → AreLevel level at calls
          → Holds (p.placed op inside k) p.same inside
      alone : IsAlone level at p.chain p.same calls

    abbrev Good : Statement → Type 0
    Good x = GoodAs (part x) (calls_in x)

    abbrev G : Type 0
    G = (x : Statement) × Good x

    abbrev begun : List G → List Statement
    begun xs = map (λ p. p.0) xs

    all_good : (xs : List G) (op : Option RedOp) (inside : Bool) (k : ℕ)
        → AreLevel level at (all_calls (map calls_in (begun xs)))
        → Holds (all_placed (map part (begun xs)) op inside k) (any_same (map part (begun xs))) inside
    all_good [] op inside k h = (tt, λ s i. tt)
    all_good (x ∷ xs) op inside k h =
        let a = x.1.held op inside k (level_left level at (calls_in x.0) (all_calls (map calls_in (begun xs))) h) in
        let c = all_good xs op inside k (level_right level at (calls_in x.0) (all_calls (map calls_in (begun xs))) h)
        in (
          (a.0, c.0),
          λ s i. (
            a.1 (or_left (part x.0).same (any_same (map part (begun xs))) s) i,
            c.1
                (or_rest (part x.0).same (any_same (map part (begun xs))) s) i,
          ),
        )

    row_good : (op : Option RedOp) (lower inside : Bool) (o : Option CallInstance)
        → ((r : CallInstance) → o ≡ Some r → level r.form ≡ below lower at)
        → Holds (row_placed bodies homes callee op lower o) (not lower) inside
    row_good op lower inside None h = (tt, λ s i. tt)
    row_good op true inside (Some r) h =
        let e = h r refl in
        let z = low r.form in
        ((λ q. omega (arith, e, z), subst (λ l. IsSpreadWell levels l (callee r.form)) e (good r.form)), λ s i. refl)
    row_good op false inside (Some r) h
        = (
          (
            λ q. absurd (let z = q in cc),
            subst (λ l. IsSpreadWell levels l (callee r.form)) (h r refl)
                (good r.form),
          ),
          λ s i. absurd (let z = s in cc),
        )

    map_good : (m : LoopKind) (place : Place) (inside : Bool) (count start : ℕ) (v same : Bool)
        (w : Bool → ℕ → Placed)
        → (v ≡ true → same ≡ false) → (inside ≡ true → v ≡ false) → (is_beside m ≡ false → v ≡ false)
        → ((i : Bool) (t : ℕ) → Holds (w i t) same i)
        → Holds (map_placed m place (if v then Some rule else None) count
        (λ t. w (inside || is_some (if v then Some rule else None)) (start + t))) same inside
    map_good loop_kind.Sequential place inside count start true same w p q r h = absurd (let z = r refl in cc)
    map_good loop_kind.Sequential place inside count start false same w p q r h
        = (
          λ t. (h (inside || false) (start + t)).0,
          λ s i. λ t. (h (inside || false) (start + t)).1 s
              (ap (λ z. z || false) i),
        )
    map_good loop_kind.Parallel place inside count start false same w p q r h = (
      λ t. ((h (inside || false) (start + t)).0, λ some. absurd (some refl)),
      λ s i.
          (refl, λ t. (h (inside || false) (start + t)).1 s (ap (λ z. z || false) i)),
    )
    map_good loop_kind.Parallel place false count start true same w p q r h
        = (
          λ t. ((h true (start + t)).0, λ some. (h true (start + t)).1 (p refl) refl),
          λ s i. absurd
              (let z = i in cc),
        )
    map_good loop_kind.Parallel place true count start true same w p q r h = absurd (let z = q refl in cc)
    map_good (loop_kind.Reduction g) place inside count start false same w p q r h = (
      λ t. ((h (inside || false) (start + t)).0, λ some. absurd (some refl)),
      λ s i.
          (refl, λ t. (h (inside || false) (start + t)).1 s (ap (λ z. z || false) i)),
    )
    map_good (loop_kind.Reduction g) place false count start true same w p q r h
        = (
          λ t. ((h true (start + t)).0, λ some. (h true (start + t)).1 (p refl) refl),
          λ s i. absurd
              (let z = i in cc),
        )
    map_good (loop_kind.Reduction g) place true count start true same w p q r h = absurd (let z = q refl in cc)

    -- a loop that arguments leave stands above the last level
    chain_low : (h : Option (Chain ℕ)) (same : Bool) (calls : List (Bool × ℕ)) → IsAlone level at h same calls
        → AreLevel level at calls → holds (leaving_chain homes h) ≡ true → suc at < levels
    chain_low None same calls a d e = absurd (let z = e in cc)
    chain_low (Some u) same calls a d e
        = by (slice_get u.instances 0) (λ r. row_level level at true u.instances 0 r (a.1 d)) e
      where
        by : (o : Option CallInstance) → ((r : CallInstance) → o ≡ Some r → level r.form ≡ suc at)
            → holds (leaving_row homes u.loops o) ≡ true → suc at < levels
        by None f g = absurd (let z = g in cc)
        by (Some r) f g = let x = f r refl in let z = low r.form in omega (arith, x, z)

    hold_good : (ps : List (ℕ × Argument)) (f : (ℕ × Argument) → PlacedArg) (w : Bool → Placed) (same inside : Bool)
        → (holds ps ≡ true → suc at < levels) → ((i : Bool) → Holds (w i) same i)
        → Holds (hold_placed ps f (w (inside || holds ps))) same inside
    hold_good [] f w same inside l h
        = ((h (inside || false)).0, λ s i. (h (inside || false)).1 s (ap (λ z. z || false) i))
    hold_good (p ∷ ps) f w same inside l h
        = ((l refl, (h (inside || true)).0), λ s i. (h (inside || true)).1 s (so inside))
      where
        so : (a : Bool) → (a || true) ≡ true
        so true = refl
        so false = refl

    -- a loop whose transfers overlap stands above the last level, and is spread where it may be
    rows_of : (u : Chain ℕ) → (homes (row_form (slice_get u.instances 0))).overlaps ≡ true
        → ((i : ℕ) (r : CallInstance) → slice_get u.instances i ≡ Some r → level r.form ≡ suc at)
        → suc at < levels
    rows_of u o row = by (slice_get u.instances 0) refl o
      where
        by : (r : Option CallInstance) → slice_get u.instances 0 ≡ r → (homes (row_form r)).overlaps ≡ true
            → suc at < levels
        by None e g = absurd (let z = root in cc)
        by (Some r) e g = let x = row 0 r e in let z = low r.form in omega (arith, x, z)

    row_well : (i : ℕ) (o : Option CallInstance) → ((r : CallInstance) → o ≡ Some r → level r.form ≡ suc at)
        → IsSpreadWell levels (suc at) (row_body bodies homes callee o)
    row_well i None h = tt
    row_well i (Some r) h = subst (λ l. IsSpreadWell levels l (callee r.form)) (h r refl) (good r.form)

    rule_none : (place : Place) (s : Option SpreadRule) → s ≡ None → placed_rule place s ≡ None
    rule_none place None e = refl
    rule_none place (Some r) e = absurd (let z = e in cc)

    chain_well : (h : Option (Chain ℕ)) (same : Bool) (calls : List (Bool × ℕ)) → IsAlone level at h same calls
        → AreLevel level at calls → (u : Chain ℕ) → h ≡ Some u → (i : ℕ) (r : CallInstance)
        → slice_get u.instances i ≡ Some r → level r.form ≡ suc at
    chain_well None same calls a d u e i r f = absurd (let z = e in cc)
    chain_well (Some w) same calls a d u e i r f =
        let g : w ≡ u = cc e in
        row_level level at true u.instances i r
        (subst (λ (z : Chain ℕ). AreLevel level at (calls_in_rows true z.instances)) g (a.1 d)) f

    pipe_good : (m : LoopKind) (place : Place) (inside : Bool) (spread : Option SpreadRule) (count start : ℕ)
        (loop : Placed) (xs : List G)
        → AreLevel level at (all_calls (map calls_in (begun xs)))
        → (inside ≡ true → spread ≡ None) → Holds loop (any_same (map part (begun xs))) inside
        → Holds (pipe_placed bodies homes callee (pipe_of homes m spread (chains (map part (begun xs)))) place count
        start loop) (any_same (map part (begun xs))) inside
    pipe_good m place inside spread count start loop [] d n h
        = subst (λ z. Holds (pipe_placed bodies homes callee z place count start loop) false inside)
        (sym (no_pipe (lanes_of m spread))) h
    pipe_good m place inside spread count start loop (x ∷ y ∷ xs) d n h
        = subst (λ z. Holds (pipe_placed bodies homes callee z place count start loop)
        (any_same (map part (begun (x ∷ y ∷ xs)))) inside) (sym (no_pipe (lanes_of m spread))) h
    pipe_good m place inside spread count start loop (x ∷ []) d n h
        = by (pipe_of homes m spread ((part x.0).chain ∷ [])) refl
      where
        by : (o : Option Pipe) → pipe_of homes m spread ((part x.0).chain ∷ []) ≡ o
            → Holds (pipe_placed bodies homes callee o place count start loop) ((part x.0).same || false) inside
        by None e = h
        by (Some p) e =
            let is = pipe_is homes m spread (part x.0).chain p e in
            let row = chain_well (part x.0).chain (part x.0).same (calls_in x.0) x.1.alone
            (level_left level at (calls_in x.0) [] d) is.chain is.is in (
              (
                rows_of is.chain is.overlaps row,
                λ t. row_well (start + t) (slice_get p.rows (start + t))
                    (λ r f. row (start + t) r (ap (λ l. slice_get l (start + t)) (sym is.rows) ∙ f)),
              ),
              λ s i. rule_none place p.spread
                  (pipe_spread m spread (overlapped homes (part x.0).chain) p e (n i)),
            )

    map_alone : (m : LoopKind) (starts : List ℕ) (xs : List G)
        → IsAlone level at (chain_of first_of m starts (chains (map part (begun xs))))
        (any_same (map part (begun xs)))
        (all_calls (map calls_in (begun xs)))
    map_alone loop_kind.Sequential starts [] = tt
    map_alone loop_kind.Sequential starts (x ∷ [])
        = one_alone level at starts (part x.0).chain (part x.0).same (calls_in x.0) x.1.alone
    map_alone loop_kind.Sequential starts (x ∷ y ∷ xs) = tt
    map_alone loop_kind.Parallel starts xs = tt
    map_alone (loop_kind.Reduction r) starts xs = tt

    beside_or : (u x : Bool) → u ≡ false → (u && x) ≡ false
    beside_or false x h = refl
    beside_or true x h = cc

    call_good : (lower : Bool) (times : List CallInstance)
        → GoodAs (placed_step bodies homes callee rule (Statement-F.Call lower times)) (calls_in_rows lower times)
    call_good lower times = record {
      held = λ op inside k h. row_good op lower inside (slice_get times k)
          (λ r e. row_level level at lower times k r h e);
      alone = call_alone level at lower times;
    }

    loop_good : (place : Place) (m : LoopKind) (counts starts : List ℕ) (xs : List G)
        → GoodAs (placed_step bodies homes callee rule (Statement-F.Map place m counts starts (map part (begun xs))))
        (all_calls (map calls_in (begun xs)))
    loop_good place m counts starts xs = record {
      held = λ op inside k h.
          let parts = map part (begun xs) in
          let l = any_lower parts in
          let s = any_same parts in
          let chain = chain_of first_of m starts (chains parts) in
          hold_good (leaving_chain homes chain)
          (held_arg (bodies (chain_form chain)) (homes (chain_form chain)) (chain_row chain k))
          (λ within_it. pipe_placed bodies homes callee
          (pipe_of homes m (spread_of rule m within_it l s) (chains parts)) place (get_or counts k 0)
          (get_or starts k 0)
          (map_placed m place (spread_of rule m within_it l s) (get_or counts k 0)
          (λ t. all_placed parts (op_of m) (within_it || is_some (spread_of rule m within_it l s))
          (get_or starts k 0 + t)))) s inside
          (chain_low chain s (all_calls (map calls_in (begun xs))) (map_alone m starts xs) h)
          (λ i. pipe_good m place i (spread_of rule m i l s) (get_or counts k 0) (get_or starts k 0) _ xs h
          (λ e. ap (λ (v : Bool). if v then Some rule else None) (not_inside (is_beside m) i l s e))
          (map_good m place i (get_or counts k 0) (get_or starts k 0) (is_beside m && (not i && (l && not s))) s
          (λ j t. all_placed parts (op_of m) j t)
          (not_same (is_beside m) i l s) (not_inside (is_beside m) i l s)
          (beside_or (is_beside m) (not i && (l && not s))) (λ j t. all_good xs (op_of m) j t h)));
      alone = map_alone m starts xs;
    }

    good_step : (y : Statement-F G) → Good (roll-Statement (map-Statement G Statement (λ p. p.0) y))
    good_step (Statement-F.Call lower times) = subst Good (sym (b.rolls-Call lower times))
        (subst (λ (x : PlacedPart). GoodAs x (calls_in (b.Call lower times)))
        (sym (part_call bodies homes callee rule lower times))
        (subst (GoodAs (placed_step bodies homes callee rule (Statement-F.Call lower times)))
        (sym (calls_call lower times)) (call_good lower times)))
    good_step (Statement-F.Map place m counts starts xs)
        = subst Good (sym (b.rolls-Map place m counts starts (begun xs)))
        (subst (λ (x : PlacedPart). GoodAs x (calls_in (b.Map place m counts starts (begun xs))))
        (sym (part_map bodies homes callee rule place m counts starts (begun xs)))
        (subst (GoodAs (placed_step bodies homes callee rule
        (Statement-F.Map place m counts starts (map part (begun xs)))))
        (sym (calls_map place m counts starts (begun xs))) (loop_good place m counts starts xs)))

    begun_good : (x : Statement) → Good x
    begun_good = ind-Statement Good (λ x y is. subst (λ z. Good (roll-Statement z)) is (good_step y))

    list_good : (list : List Statement) (k : ℕ) → AreLevel level at (calls_in_all list)
        → IsSpreadWell levels at (all_placed (map part list) None false k)
    list_good [] k h = tt
    list_good (x ∷ xs) k h = (
      ((begun_good x).held None false k (level_left level at (calls_in x) (calls_in_all xs) h)).0,
      list_good xs k
          (level_right level at (calls_in x) (calls_in_all xs) h),
    )

    body_good : (h : Homes) (shapes : List Shape) (x : Body) → h.rule ≡ rule → AreLevel level at (calls_of x)
        → IsSpreadWell levels at (body_placed bodies homes callee h shapes x)
    body_good h shapes (body.Leaf code) e k = tt
    body_good h shapes (body.Inner list) e k
        = subst (λ r. IsSpreadWell levels at
        (all_placed (map (statement_placed bodies homes callee r) list) None false 0)) (sym e) (list_good list 0 k)

  pub spread_well : ((f : ℕ) → AreLevel level (level f) (calls_of (bodies f).body)) → (n k : ℕ)
      → IsSpreadWell levels (level k) (placed_of bodies homes n k)
  spread_well h zero k = tt
  spread_well h (suc n) k = body_good (placed_of bodies homes n) (spread_well h n) (level k) (homes k).rule (homes k)
      (bodies k).arrays (bodies k).body refl (h k)
