-- What holds of each call of a form, of nothing, and of sequences and maps of what it holds of, holds of the form as it
-- is placed, and of its loops that arguments leave.
use Rattle.std.proofs.Common.{◌≡◌, ℕ, zero, suc, ◌+◌, ◌<◌, Bool, true, false, not, ◌||◌, is_some, List, [], ◌∷◌, ◌++◌}
use Rattle.std.proofs.Common.{map, get_or, slice_get, Option, Some, None, refl, sym, ap₂, subst, ◌∙◌}
use Rattle.std.specs.Prelude.{◌&&◌, if◌then◌else◌}
use Rattle.sq_num.specs.declared.RedOp.{RedOp}
use Rattle.sq_text.specs.declared.place.Place.{Place}
use Rattle.sq_text.specs.declared.spread.SpreadRule.{SpreadRule}
use Rattle.sq_leaf.specs.declared.shape.Shape.{Shape}
use Rattle.sq_leaf.specs.Leaf.{Leaf as LeafSource}
use Rattle.sq_spec.specs.Work.declared.reduction.Reduction.{Reduction}
use Rattle.sq_spec.specs.declared.statement.LoopKind.{LoopKind}
use Rattle.sq_spec.specs.declared.statement.CallInstance.{CallInstance}
use Rattle.sq_spec.specs.declared.statement.Statement.{Statement, roll-Statement}
use Rattle.sq_spec.specs.declared.statement.Statement.TheVariants as b
use Rattle.sq_spec.specs.declared.statement.Statement.TheOpen.{Statement-F}
use Rattle.sq_spec.specs.declared.statement.Statement.TheFolds.{ind-Statement, map-Statement}
use Rattle.sq_spec.specs.declared.body.Body.{Body}
use Rattle.sq_spec.specs.declared.body.Body.TheVariants as body
use Rattle.sq_spec.specs.declared.body.FormBody.{FormBody}
use Rattle.sq_spec.specs.Spreads.{any_of, is_beside, lower_in}
use Rattle.sq_homes.specs.SpecLaws.TableRows.{Table, red_of, all_tables, tables_step, tables_of, tables_in}
use Rattle.sq_placed.specs.declared.home.Homes.{Homes}
use Rattle.sq_placed.specs.Placed.{Placed, Nothing, Then, Call, Piped, Leaf}
use Rattle.sq_placed.specs.Tables.{op_of, spread_of, map_placed, Chain, chain_of, first_of}
use Rattle.sq_placed.specs.Tables.{leaving_chain, hold_placed, holds, held_arg, chain_form}
use Rattle.sq_placed.specs.Tables.{chain_row, PlacedPart, chains, any_lower, any_same, all_placed, row_placed}
use Rattle.sq_placed.specs.Tables.{placed_call, placed_step, statement_placed, body_placed}
use Rattle.sq_placed.specs.Tables.{Pipe, overlapped, pipe_of, placed_rule, row_call, row_body}
use Rattle.sq_placed.specs.Tables.{pipe_placed}
use Rattle.sq_placed.proofs.Opened.{part_call, part_map}
use Rattle.sq_placed.proofs.Pipes.{taken, chains_placed}
use Rattle.sq_term.specs.Stands.{below, calls_in_rows, all_calls, calls_in, calls_in_all, calls_of, AreLevel}
use Rattle.sq_term.proofs.Opened.{calls_call, calls_map}
use Rattle.sq_program_laws.specs.TermLaws.Lowers.{statements}
use Rattle.sq_program_laws.specs.TermLaws.Orders.{EachOf}
use Rattle.sq_spec.proofs.InStatements.{lower_call, lower_map}
use Rattle.sq_draft_laws.proofs.Rounds.{TablesSo, BodySo, tables_call, tables_map, each_left, each_right, one_of}

-- ---- levels

level_left : (level : ℕ → ℕ) (at : ℕ) (xs ys : List (Bool × ℕ)) → AreLevel level at (xs ++ ys) → AreLevel level at xs
level_left level at [] ys h = tt
level_left level at (x ∷ xs) ys h = (h.0, level_left level at xs ys h.1)

level_right : (level : ℕ → ℕ) (at : ℕ) (xs ys : List (Bool × ℕ)) → AreLevel level at (xs ++ ys) → AreLevel level at ys
level_right level at [] ys h = h
level_right level at (x ∷ xs) ys h = level_right level at xs ys h.1

row_level : (level : ℕ → ℕ) (at : ℕ) (lower : Bool) (rows : List CallInstance)
    → AreLevel level at (calls_in_rows lower rows) → (i : ℕ) (q : CallInstance) → slice_get rows i ≡ Some q
    → level q.form ≡ below lower at
row_level level at lower [] h i q e = absurd (cc e)
row_level level at lower (x ∷ rows) h zero q e =
    let is : x ≡ q = cc e in subst (λ (y : CallInstance). level y.form ≡ below lower at) is h.0
row_level level at lower (x ∷ rows) h (suc i) q e = row_level level at lower rows h.1 i q e

-- ---- what is spread has a lower call in it

has_lower : (rule : SpreadRule) (u i l s : Bool) → is_some (if u && (not i && (l && not s)) then Some rule else None)
    ≡ true
    → l ≡ true
has_lower rule u i true s h = refl
has_lower rule true true false s h = absurd (let z = h in cc)
has_lower rule true false false s h = absurd (let z = h in cc)
has_lower rule false i false s h = absurd (let z = h in cc)

or_first : (u v : Bool) → u ≡ true → (u || v) ≡ true
or_first true v h = refl
or_first false v h = absurd (let z = h in cc)

or_rest : (u v : Bool) → v ≡ true → (u || v) ≡ true
or_rest true v h = refl
or_rest false v h = h

-- ---- of a form at this level, whose rows are so, deep holding where a lower call is in it

module _ (bodies : ℕ → FormBody) (homes : ℕ → Homes) (callee : ℕ → Placed) (level : ℕ → ℕ) (at : ℕ) (deep : Type 0)
    (R : CallInstance → Type 0) (P : Placed → Type 0) where
  pub record Keeps : Type 0 where
    pub nothing : P Nothing
    pub both : (x y : Placed) → P x → P y → P (Then x y)
    pub loop : (m : LoopKind) (place : Place) (spread : Option SpreadRule) (count : ℕ) (w : ℕ → Placed)
        → (is_some spread ≡ true → deep) → ((t : ℕ) → t < count → P (w t)) → P (map_placed m place spread count w)
    pub hold : (h : Option (Chain ℕ)) (k : ℕ) (w : Placed) → P w
        → P (hold_placed (leaving_chain homes h) (held_arg (bodies (chain_form h)) (homes (chain_form h)) (chain_row h k))
        w)
    -- a loop that overlaps its transfers
    pub pipe : (spread : Option SpreadRule) (place : Place) (count start : ℕ) (rows : List CallInstance)
        → ((i : ℕ) (q : CallInstance) → slice_get rows i ≡ Some q → R q × (level q.form ≡ below true at)) → deep
        → P (Piped (placed_rule place spread) count (λ t. row_call bodies homes callee (slice_get rows (start + t)))
        (λ t. row_body bodies homes callee (slice_get rows (start + t))))
    pub leaf : (code : ℕ) (source : LeafSource) (shapes : List Shape) → P (Leaf code source shapes)
    pub row : (op : Option RedOp) (lower : Bool) (q : CallInstance) → R q → level q.form ≡ below lower at
        → (lower ≡ true → deep) → P (Call (placed_call bodies homes op lower q) (callee q.form))

  module _ (keeps : Keeps) (rule : SpreadRule) where
    abbrev part : Statement → PlacedPart
    part = statement_placed bodies homes callee rule

    record GoodAs (p : PlacedPart) (rows : Option Reduction → List Table) (calls : List (Bool × ℕ)) (low : Bool) :
        Type 0 where
      held : (red : Option Reduction) → TablesSo R (rows red) → AreLevel level at calls → (low ≡ true → deep)
          → (op : Option RedOp) (inside : Bool) (k : ℕ) → P (p.placed op inside k)
      lower : p.lower ≡ low

    abbrev Good : Statement → Type 0
    Good x = GoodAs (part x) (tables_of x) (calls_in x) (lower_in x)

    abbrev G : Type 0
    G = (x : Statement) × Good x

    abbrev begun : List G → List Statement
    begun xs = map (λ p. p.0) xs

    all_good : (xs : List G) (red : Option Reduction) → TablesSo R (all_tables (map tables_of (begun xs)) red)
        → AreLevel level at (all_calls (map calls_in (begun xs))) → (any_of (map lower_in (begun xs)) ≡ true → deep)
        → (op : Option RedOp) (inside : Bool) (k : ℕ) → P (all_placed (map part (begun xs)) op inside k)
    all_good [] red h l d op inside k = keeps.nothing
    all_good (x ∷ xs) red h l d op inside k =
        let ts = tables_of x.0 red in
        let us = all_tables (map tables_of (begun xs)) red in
        let cs = calls_in x.0 in
        let ds = all_calls (map calls_in (begun xs)) in
        let low = any_of (map lower_in (begun xs)) in
        keeps.both ((part x.0).placed op inside k) (all_placed (map part (begun xs)) op inside k)
        (x.1.held red (each_left (λ (t : Table). EachOf R t.times) ts us h) (level_left level at cs ds l)
        (λ e. d (or_first (lower_in x.0) low e)) op inside k)
        (all_good xs red (each_right (λ (t : Table). EachOf R t.times) ts us h) (level_right level at cs ds l)
        (λ e. d (or_rest (lower_in x.0) low e)) op inside k)

    all_lower : (xs : List G) → any_lower (map part (begun xs)) ≡ any_of (map lower_in (begun xs))
    all_lower [] = refl
    all_lower (x ∷ xs) = ap₂ (λ (u v : Bool). u || v) x.1.lower (all_lower xs)

    row_good : (op : Option RedOp) (lower : Bool) (o : Option CallInstance)
        → ((q : CallInstance) → o ≡ Some q → R q × (level q.form ≡ below lower at)) → (lower ≡ true → deep)
        → P (row_placed bodies homes callee op lower o)
    row_good op lower None h d = keeps.nothing
    row_good op lower (Some q) h d = keeps.row op lower q (h q refl).0 (h q refl).1 d

    call_good : (lower : Bool) (times : List CallInstance)
        → GoodAs (placed_step bodies homes callee rule (Statement-F.Call lower times))
        (tables_step (Statement-F.Call lower times)) (calls_in_rows lower times) lower
    call_good lower times = record {
      held = λ red h l d op inside k. row_good op lower (slice_get times k)
          (λ q e. (one_of R times h.0 k q e, row_level level at lower times l k q e)) d;
      lower = refl;
    }

    -- the rows of a loop that overlaps its transfers
    abbrev Rows : List CallInstance → Type 0
    Rows rows = deep × ((i : ℕ) (q : CallInstance) → slice_get rows i ≡ Some q → R q × (level q.form ≡ below true at))

    one_call : (red : Option Reduction) (rows : List CallInstance)
        → TablesSo R (tables_of (b.Call true rows) red ++ []) → AreLevel level at (calls_in (b.Call true rows) ++ [])
        → ((lower_in (b.Call true rows) || false) ≡ true → deep) → Rows rows
    one_call red rows h l d =
        let so = subst (λ (f : Option Reduction → List Table). TablesSo R (f red ++ [])) (tables_call true rows) h in
        let deeper = subst (AreLevel level at) (calls_call true rows)
        (level_left level at (calls_in (b.Call true rows)) [] l) in (
          d (or_first (lower_in (b.Call true rows)) false (lower_call true rows)),
          λ i q e. (one_of R rows so.0 i q e, row_level level at true rows deeper i q e),
        )

    pipe_rows : (red : Option Reduction) (m : LoopKind) (spread : Option SpreadRule) (xs : List Statement) (p : Pipe)
        → pipe_of homes m spread (chains (map part xs)) ≡ Some p → TablesSo R (all_tables (map tables_of xs) red)
        → AreLevel level at (all_calls (map calls_in xs)) → (any_of (map lower_in xs) ≡ true → deep) → Rows p.rows
    pipe_rows red m spread xs p e =
        subst (λ (ys : List Statement). TablesSo R (all_tables (map tables_of ys) red)
        → AreLevel level at (all_calls (map calls_in ys)) → (any_of (map lower_in ys) ≡ true → deep) → Rows p.rows)
        (sym (taken homes m spread (chains_placed bodies homes callee rule xs) p e).one) (one_call red p.rows)

    loop_good : (place : Place) (m : LoopKind) (counts starts : List ℕ) (xs : List G)
        → GoodAs (placed_step bodies homes callee rule (Statement-F.Map place m counts starts (map part (begun xs))))
        (tables_step (Statement-F.Map place m counts starts (map tables_of (begun xs))))
        (all_calls (map calls_in (begun xs))) (any_of (map lower_in (begun xs)))
    loop_good place m counts starts xs = record {
      held = λ red h l d op inside k.
          let parts = map part (begun xs) in
          let chain = chain_of first_of m starts (chains parts) in
          let i = inside || holds (leaving_chain homes chain) in
          keeps.hold chain k _ (run_good h l d i k);
      lower = all_lower xs;
    }
      where
        spread : Bool → Option SpreadRule
        spread i = spread_of rule m i (any_lower (map part (begun xs))) (any_same (map part (begun xs)))

        loop : Bool → ℕ → Placed
        loop i k = map_placed m place (spread i) (get_or counts k 0)
            (λ t. all_placed (map part (begun xs)) (op_of m) (i || is_some (spread i)) (get_or starts k 0 + t))

        -- overlapped or not
        run_good : TablesSo R (all_tables (map tables_of (begun xs)) (red_of m))
            → AreLevel level at (all_calls (map calls_in (begun xs)))
            → (any_of (map lower_in (begun xs)) ≡ true → deep) → (i : Bool) (k : ℕ)
            → P (pipe_placed bodies homes callee (pipe_of homes m (spread i) (chains (map part (begun xs)))) place
            (get_or counts k 0) (get_or starts k 0) (loop i k))
        run_good h l d i k = by (pipe_of homes m (spread i) (chains (map part (begun xs)))) refl
          where
            by : (o : Option Pipe) → pipe_of homes m (spread i) (chains (map part (begun xs))) ≡ o
                → P (pipe_placed bodies homes callee o place (get_or counts k 0) (get_or starts k 0) (loop i k))
            by None e =
                keeps.loop m place (spread i) (get_or counts k 0)
                (λ t. all_placed (map part (begun xs)) (op_of m) (i || is_some (spread i)) (get_or starts k 0 + t))
                (λ e. d (sym (all_lower xs) ∙ has_lower rule (is_beside m) i (any_lower (map part (begun xs)))
                (any_same (map part (begun xs))) e))
                (λ t less. all_good xs (red_of m) h l d (op_of m) (i || is_some (spread i)) (get_or starts k 0 + t))
            by (Some p) e =
                let known = pipe_rows (red_of m) m (spread i) (begun xs) p e h l d in
                keeps.pipe p.spread place (get_or counts k 0) (get_or starts k 0) p.rows known.1 known.0

    good_step : (y : Statement-F G) → Good (roll-Statement (map-Statement G Statement (λ p. p.0) y))
    good_step (Statement-F.Call lower times) =
        let x = b.Call lower times in
        subst Good (sym (b.rolls-Call lower times))
        (subst (λ (p : PlacedPart). GoodAs p (tables_of x) (calls_in x) (lower_in x))
        (sym (part_call bodies homes callee rule lower times))
        (subst (λ (f : Option Reduction → List Table). GoodAs
        (placed_step bodies homes callee rule (Statement-F.Call lower times)) f (calls_in x) (lower_in x))
        (sym (tables_call lower times))
        (subst (λ (c : List (Bool × ℕ)). GoodAs (placed_step bodies homes callee rule (Statement-F.Call lower times))
        (tables_step (Statement-F.Call lower times)) c (lower_in x)) (sym (calls_call lower times))
        (subst (GoodAs (placed_step bodies homes callee rule (Statement-F.Call lower times))
        (tables_step (Statement-F.Call lower times)) (calls_in_rows lower times)) (sym (lower_call lower times))
        (call_good lower times)))))
    good_step (Statement-F.Map place m counts starts xs) =
        let x = b.Map place m counts starts (begun xs) in
        let p = placed_step bodies homes callee rule (Statement-F.Map place m counts starts (map part (begun xs))) in
        let ts = tables_step (Statement-F.Map place m counts starts (map tables_of (begun xs))) in
        subst Good (sym (b.rolls-Map place m counts starts (begun xs)))
        (subst (λ (q : PlacedPart). GoodAs q (tables_of x) (calls_in x) (lower_in x))
        (sym (part_map bodies homes callee rule place m counts starts (begun xs)))
        (subst (λ (f : Option Reduction → List Table). GoodAs p f (calls_in x) (lower_in x))
        (sym (tables_map place m counts starts (begun xs)))
        (subst (λ (c : List (Bool × ℕ)). GoodAs p ts c (lower_in x)) (sym (calls_map place m counts starts (begun xs)))
        (subst (GoodAs p ts (all_calls (map calls_in (begun xs)))) (sym (lower_map place m counts starts (begun xs)))
        (loop_good place m counts starts xs)))))

    good : (x : Statement) → Good x
    good = ind-Statement Good (λ x y is. subst (λ z. Good (roll-Statement z)) is (good_step y))

    list_good : (list : List Statement) → TablesSo R (tables_in list None) → AreLevel level at (calls_in_all list)
        → EachOf (λ (x : Statement). lower_in x ≡ true → deep) list → (k : ℕ)
        → P (all_placed (map part list) None false k)
    list_good [] h l d k = keeps.nothing
    list_good (x ∷ xs) h l d k =
        let ts = tables_of x None in
        let us = tables_in xs None in
        let cs = calls_in x in
        let ds = calls_in_all xs in
        keeps.both ((part x).placed None false k) (all_placed (map part xs) None false k)
        ((good x).held None (each_left (λ (t : Table). EachOf R t.times) ts us h) (level_left level at cs ds l) d.0 None
        false k)
        (list_good xs (each_right (λ (t : Table). EachOf R t.times) ts us h) (level_right level at cs ds l) d.1 k)

  pub body_keeps : Keeps → (h : Homes) (shapes : List Shape) (x : Body) → BodySo R x → AreLevel level at (calls_of x)
      → EachOf (λ (y : Statement). lower_in y ≡ true → deep) (statements x)
      → P (body_placed bodies homes callee h shapes x)
  body_keeps keeps h shapes (body.Leaf code) g l d = keeps.leaf h.code code shapes
  body_keeps keeps h shapes (body.Inner list) g l d = list_good keeps h.rule list g l d 0
