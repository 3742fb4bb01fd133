-- What is placed of a lower call in loops that arguments leave fits.
use Rattle.std.proofs.Common.{◌≡◌, ℕ, suc, ◌+◌, ◌<◌, ◌≤◌, Bool, true, false, ◌||◌, is_some, List, [], ◌∷◌}
use Rattle.std.proofs.Common.{◌++◌, map, get_or, refl, sym, ap, ◌∙◌, subst, arith}
use Rattle.std.specs.Prelude.{Option, Some, None, slice_get}
use Rattle.sq_num.specs.declared.RedOp.{RedOp}
use Rattle.sq_text.specs.declared.place.Place.{Place}
use Rattle.sq_text.specs.declared.spread.SpreadRule.{SpreadRule}
use Rattle.sq_leaf.specs.declared.shape.Shape.{Shape}
use Rattle.sq_blocks.specs.declared.argument.Argument.{Argument}
use Rattle.sq_form_laws.specs.Laws.{Apart}
use Rattle.sq_work.specs.declared.reduction.Reduction.{Reduction}
use Rattle.sq_spec.specs.declared.statement.LoopKind.TheVariants as loop_kind
use Rattle.sq_spec.specs.declared.statement.CallInstance.{CallInstance}
use Rattle.sq_spec.specs.declared.statement.Statement.TheOpen.{Statement-F}
use Rattle.sq_spec.specs.declared.body.FormBody.{FormBody}
use Rattle.sq_placed.specs.declared.home.Home.{Home}
use Rattle.sq_placed.specs.declared.home.Home.TheVariants as home
use Rattle.sq_placed.specs.declared.home.Home.TheVariants.{InPlace}
use Rattle.sq_placed.specs.declared.home.Homes.{Homes}
use Rattle.sq_placed.specs.Placed.{Placed, PlacedArg, PlacedCall, arguments, Nothing, Then, Each, AtOnce, Gathers, Call}
use Rattle.sq_placed.specs.Placed.{Hold, Piped, Leaf}
use Rattle.sq_placed.specs.Trees.{is_held}
use Rattle.sq_placed.specs.Tables.{placed_call, spread_of, map_placed, one_more, first_of}
use Rattle.sq_placed.specs.Tables.{leaving_row, leaving_chain, row_form, hold_placed, held_arg, chain_form, chain_row}
use Rattle.sq_placed.specs.Tables.{pipe_of, pipe_placed}
use Rattle.sq_placed.specs.Tables.{Chain, Pipe, row_call, row_body}
use Rattle.sq_placed.specs.Pipes.{CallLoops, loop_round, call_loops_step}
use Rattle.sq_placed.specs.Tables.{holds, map_held, PlacedPart, any_lower, any_same, all_placed, row_placed}
use Rattle.sq_placed.specs.Tables.{placed_step}
use Rattle.sq_cells.specs.Lowered as lowered
use Rattle.sq_cells.specs.Lowered.{stays, in_place}
use Rattle.sq_cells.specs.Tree.{Cause}
use Rattle.sq_cells.specs.Work.{Held}
use Rattle.sq_plan_laws.specs.Calling.{place_of}
use Rattle.sq_plan_laws.specs.OnBytes.{Codings}
use Rattle.sq_plan_laws.specs.Fitting.{NoLeaf, Fitting}
use Rattle.sq_plan_laws.specs.Keeping.{CallBase, CallIn, AllCalls, OneCall, HoldKeeps, may_of, Keep, Keeping}
use Rattle.sq_plan_laws.specs.LeafLaws.{codes_of}
use Rattle.sq_plan_laws.proofs.PlacedLists.{same_some}
use Rattle.sq_ir.specs.Events.{Leaves}
use Rattle.sq_spec_laws.specs.TableRows.{Table}
use Rattle.sq_plan_laws.specs.Seated.{HeldSits, Sits}
use Rattle.sq_term_laws.specs.Orders.{EachOf, params_of}
use Rattle.sq_term_laws.specs.Held.{IsHeldRow}
use Rattle.sq_program_laws.specs.Held.{row_list}
use Rattle.sq_program_laws.specs.Rows.{operator_of, RowFits, TableFits, IsFit}
use Rattle.sq_program_laws.proofs.Loops.{some_of, front_at, each_at, each_map, Nest, a_call, a_loop}
use Rattle.sq_program_laws.proofs.Loops.{nest_fold, chain, calls, InRows, calls_there, in_turn, Goes, FirstCall}
use Rattle.sq_program_laws.proofs.Loops.{first_call, nest_filled, filled_in, LoopsHold, goes}
use Rattle.sq_program_laws.proofs.Facts.{plain_args, passed_home}
use Rattle.sq_program_laws.proofs.Carried.{Beyond, beyond_held, left_held, row_args, argument_there, Carries, carries_in}
use Rattle.sq_program_laws.proofs.Carried.{OfTable, carries_less, carries_same, carries_more}
use Rattle.sq_program_laws.proofs.Shapes.{mapped_at}
use Rattle.sq_program_laws.specs.Piped.{MayOverlap, LoopOverlaps}
use Rattle.sq_program_laws.proofs.Loops.{each_left, each_right}
use Rattle.sq_program_laws.proofs.Carried.{home_there}
use Rattle.sq_program_laws.proofs.Taken.{IsPipe, is_pipe, nest_call}
use Rattle.sq_program_laws.proofs.Overlapped.{as_call, keeps_ahead, free_pipe, held_pipe}

-- ---- fewer arrays may be written

base_more : (c : PlacedCall) (may more : ℕ → Bool) → ((i : ℕ) → may i ≡ true → more i ≡ true) → CallBase c may
    → CallBase c more
base_more c may more f k = record
    { apart = k.apart; permitted = λ i p e w. f p.argument.array (k.permitted i p e w); sum_home = k.sum_home }

keeps_more : (nest : Bool) (c : PlacedCall) (H : List PlacedArg) (may more : ℕ → Bool)
    → ((i : ℕ) → may i ≡ true → more i ≡ true) → CallIn nest c may H → CallIn nest c more H
keeps_more false c H may more f k = record { base = base_more c may more f k.base; not_held = k.not_held }
keeps_more true c H may more f k = record { base = base_more c may more f k.base; lower = k.lower; held_in = k.held_in }

pub keep_more : (p : Placed) (nest : Bool) (H : List PlacedArg) (may more : ℕ → Bool)
    → ((i : ℕ) → may i ≡ true → more i ≡ true) → Keep p nest H may → Keep p nest H more
keep_more Nothing nest H may more f k = k
keep_more (Then x y) nest H may more f k = (keep_more x nest H may more f k.0, keep_more y nest H may more f k.1)
keep_more (Each n w) nest H may more f k = λ t lt. keep_more (w t) nest H may more f (k t lt)
keep_more (AtOnce place spread n w) nest H may more f k = (k.0, λ t lt. keep_more (w t) false [] may more f (k.1 t lt))
keep_more (Gathers r place spread n w) nest H may more f k
    = (k.0, λ t lt. keep_more (w t) false [] may more f (k.1 t lt))
keep_more (Call c w) nest H may more f k = (keeps_more nest c H may more f k.0, k.1)
keep_more (Hold args w) nest H may more f k = (k.0, keep_more w true (args ++ H) may more f k.1)
keep_more (Piped spread n calls w) false H may more f k
    = ((k.0.0, λ t lt. let h = k.0.1 t lt in (h.0, keeps_more false (calls t) [] may more f h.1)), k.1)
keep_more (Piped None n calls w) true H may more f k
    = (
      record {
        each = λ t lt. keeps_more true (calls t) H may more f (k.0.each t lt);
        moved = k.0.moved;
        same
            = k.0.same;
        loop = k.0.loop;
      },
      k.1,
    )
keep_more (Piped (Some q) n calls w) true H may more f k = absurd k.0
keep_more (Leaf number leaf shapes) nest H may more f k = (k.0, λ i e. f i (k.1 i e))

pub keeping_more : (p : Placed) (may more : ℕ → Bool) → ((i : ℕ) → may i ≡ true → more i ≡ true) → Keeping p may
    → Keeping p more
keeping_more p may more f k = keep_more p false [] may more f k

-- ---- lists

first_there : {A : Type 0} (xs : List A) (i : ℕ) (x : A) → slice_get xs i ≡ Some x → (y : A) × (slice_get xs 0 ≡ Some y)
first_there [] i x e = cc
first_there (y ∷ xs) i x e = (y, refl)

-- ---- rows

held_home : (h : Home) → place_of h ≡ Held → (u n : ℕ) × (h ≡ home.Held u n)
held_home home.InPlace e = cc
held_home (home.Own u) e = cc
held_home (home.Held u n) e = (u, n, refl)
held_home (home.Twin u v) e = cc

-- no argument leaves a loop
abbrev pub Unheld : (ℕ → Homes) → CallInstance → Type 0
Unheld homes r = (i u n : ℕ) → get_or (homes r.form).params i InPlace ≡ home.Held u n → ⊥

-- outside of loops that arguments leave there are none
abbrev pub InLoops : (nest : Bool) → List PlacedArg → Type 0
InLoops false H = H ≡ []
InLoops true H = Unit {0}

-- a loop's table: that of its call
abbrev pub lower_table : List CallInstance → Table
lower_table rows = record { red = None; lower = true; times = rows }

module _ (leaves : Leaves Cause) (bodies : ℕ → FormBody) (homes : ℕ → Homes) (mays : ℕ → ℕ → Bool)
    (callee : ℕ → Placed) (fit : (f : ℕ) → IsFit leaves bodies homes mays f (callee f)) (k : ℕ) (rule : SpreadRule) where
  abbrev pub ss : List Shape
  ss = (bodies k).arrays

  abbrev pub may : ℕ → Bool
  may = mays k

  abbrev pub codes : Codings
  codes = codes_of leaves

  -- what is placed meets all that is asked, in loops that the arguments H leave or in none
  abbrev pub Good : Placed → Option Reduction → (nest : Bool) → (H : List PlacedArg) → Type 0
  Good p red nest H = Fitting codes p red ss × Keep p nest H may × NoLeaf p × Sits leaves p ss

  -- ---- a call

  module _ (t : Table) (r : CallInstance) (row : RowFits leaves bodies homes mays k t r) where
    abbrev c : PlacedCall
    c = placed_call bodies homes (operator_of t.red) t.lower r

    home_at : (i : ℕ) (p : PlacedArg) → slice_get c.args i ≡ Some p → get_or (homes r.form).params i InPlace ≡ p.home
    home_at i p e = passed_home (operator_of t.red) (bodies r.form).arrays (homes r.form).params r.args i p e

    base : ((i : ℕ) (p : PlacedArg) → slice_get c.args i ≡ Some p → (u n : ℕ) → p.home ≡ home.Held u n
        → Apart (arguments c.args) i) → CallBase c may
    base held = record {
      apart = λ i p e st. by p.home i p refl e st;
      permitted = row.keeps.permitted;
      sum_home = row.keeps.sum_home;
    }
      where
        by : (h : Home) (i : ℕ) (p : PlacedArg) → p.home ≡ h → slice_get c.args i ≡ Some p
            → stays (place_of p.home) ≡ true → Apart (arguments c.args) i
        by home.InPlace i p is e st = row.keeps.apart i p e (ap (λ h. in_place (place_of h)) is)
        by (home.Own u) i p is e st = let no : false ≡ true = ap (λ h. stays (place_of h)) (sym is) ∙ st in cc
        by (home.Held u n) i p is e st = held i p e u n is
        by (home.Twin u v) i p is e st = let no : false ≡ true = ap (λ h. stays (place_of h)) (sym is) ∙ st in cc

    call_good : (nest : Bool) (H : List PlacedArg) → CallIn nest c may H → Good (Call c (callee r.form)) t.red nest H
    call_good nest H keeps = (
      (row.is, subst (λ (l : List Shape). Fitting codes (callee r.form) None l) (sym row.shapes) (fit r.form).fitting),
      (keeps, keeping_more (callee r.form) (mays r.form) (may_of c) row.may (fit r.form).keeping),
      tt,
      (row.sits, subst (λ (l : List Shape). Sits leaves (callee r.form) l) (sym row.shapes) (fit r.form).sits),
    )

    -- a home that isn't Held
    not_held : (i : ℕ) (p : PlacedArg) → slice_get c.args i ≡ Some p
        → ((u n : ℕ) → p.home ≡ home.Held u n → ⊥) → lowered.held (place_of p.home) ≡ false
    not_held i p e free = by p.home refl
      where
        by : (h : Home) → p.home ≡ h → lowered.held (place_of p.home) ≡ false
        by home.InPlace is = ap (λ h. lowered.held (place_of h)) is
        by (home.Own u) is = ap (λ h. lowered.held (place_of h)) is
        by (home.Held u n) is = absurd (free u n is)
        by (home.Twin u v) is = ap (λ h. lowered.held (place_of h)) is

    -- of which no argument leaves a loop
    pub free_good : Unheld homes r → Good (Call c (callee r.form)) t.red false []
    free_good free = call_good false [] (record {
      base = base (λ i p e u n is. absurd (free i u n (home_at i p e ∙ is)));
      not_held = λ i p e. not_held i p e (λ u n is. free i u n (home_at i p e ∙ is));
    })

  -- in loops: the arguments that leave them are among those that are carried round it
  nested_call : (rows : List CallInstance) (r : CallInstance) → RowFits leaves bodies homes mays k (lower_table rows) r
      → ((i u n : ℕ) → get_or (homes r.form).params i InPlace ≡ home.Held u n → 0 < n)
      → (nest : Bool) (H : List PlacedArg) → InLoops nest H → Carries bodies homes 0 (r ∷ []) H
      → Good (Call (placed_call bodies homes None true r) (callee r.form)) None nest H
  nested_call rows r row some nest H loops carried
      = call_good (lower_table rows) r row nest H (by nest loops)
    where
      args : List PlacedArg
      args = row_args bodies homes r

      bey : (i : ℕ) (p : PlacedArg) → slice_get (row_args bodies homes r) i ≡ Some p → (u n : ℕ) → p.home ≡ home.Held u n
          → Beyond 0 p.home
      bey i p e u n is = subst (Beyond 0) (sym is) (some i u n (home_at (lower_table rows) r row i p e ∙ is))

      apart : (i : ℕ) (p : PlacedArg) → slice_get (row_args bodies homes r) i ≡ Some p → (u n : ℕ)
          → p.home ≡ home.Held u n → Apart (arguments (row_args bodies homes r)) i
      apart i p e u n is =
          subst (λ (xs : List Argument). Apart xs i)
          (sym (plain_args None (bodies r.form).arrays (homes r.form).params 0 r.args))
          (record {
            others = (carried.clear.0 i p e (bey i p e u n is)).others;
            whole = λ x g. ap (λ (y : Argument). y.is_reduced)
                (same_some (sym g ∙ argument_there bodies homes r i p e)) ∙ row.keeps.plain refl i p e;
          })

      by : (nest : Bool) → InLoops nest H → CallIn nest (placed_call bodies homes None true r) may H
      by false none = record {
        base = base (lower_table rows) r row apart;
        not_held = λ i p e. not_held (lower_table rows) r row i p e (λ u n is.
            let q = carried.all.0 i p e (bey i p e u n is) in
            let no : None ≡ Some p = ap (λ (xs : List PlacedArg). slice_get xs q.0) (sym none) ∙ q.1 in absurd (cc no));
      }
      by true any = record {
        base = base (lower_table rows) r row apart;
        lower = refl;
        held_in = λ i p e h. let w = held_home p.home h in
            let q = carried.all.0 i p e (bey i p e w.0 w.1 w.2) in (q.0, q.1);
      }

  -- ---- loops round a lower call

  abbrev step : Statement-F PlacedPart → PlacedPart
  step = placed_step bodies homes callee rule

  abbrev pub nest_placed : Nest → PlacedPart
  nest_placed = nest_fold PlacedPart step

  placed_chain : (c : Nest) → (nest_placed c).chain ≡ Some (chain c)
  placed_chain (a_call rows) = refl
  placed_chain (a_loop place counts starts c) = ap (one_more first_of starts) (placed_chain c)

  -- what it is when it is begun for the j-th time
  abbrev pub placed_at : Nest → Bool → ℕ → Placed
  placed_at c inside j = (nest_placed c).placed None inside j

  module _ (place : Place) (counts starts : List ℕ) (c : Nest) (inside : Bool) (j : ℕ) where
    -- the arguments that leave the loop
    abbrev leaving : List (ℕ × Argument)
    leaving = leaving_chain homes (Some (chain (a_loop place counts starts c)))

    abbrev as_held : ℕ × Argument → PlacedArg
    as_held = held_arg (bodies (chain_form (Some (chain (a_loop place counts starts c)))))
        (homes (chain_form (Some (chain (a_loop place counts starts c)))))
        (chain_row (Some (chain (a_loop place counts starts c))) j)

    abbrev loop : Bool → Placed
    loop within_it =
        pipe_placed bodies homes callee (pipe_of homes loop_kind.Sequential None ((nest_placed c).chain ∷ [])) place
        (get_or counts j 0) (get_or starts j 0)
        (map_placed loop_kind.Sequential place
        (spread_of rule loop_kind.Sequential within_it (any_lower (nest_placed c ∷ [])) (any_same (nest_placed c ∷ [])))
        (get_or counts j 0)
        (λ t. all_placed (nest_placed c ∷ []) None
        (within_it || is_some (spread_of rule loop_kind.Sequential within_it (any_lower (nest_placed c ∷ []))
        (any_same (nest_placed c ∷ []))))
        (get_or starts j 0 + t)))

    -- whether its iterations stand inside what holds
    abbrev within : Bool
    within =
        (inside || holds leaving)
        || is_some (spread_of rule loop_kind.Sequential (inside || holds leaving) (any_lower (nest_placed c ∷ []))
        (any_same (nest_placed c ∷ [])))

    abbrev turn : ℕ → Placed
    turn t = Then (placed_at c within (get_or starts j 0 + t)) Nothing

    -- what the loop is inside what holds: its iterations, or a loop whose transfers overlap
    abbrev many : ℕ
    many = get_or counts j 0

    abbrev plain_loop : Placed
    plain_loop = Each many turn

    abbrev loop_body : Placed
    loop_body = pipe_placed bodies homes callee (pipe_of homes loop_kind.Sequential None ((nest_placed c).chain ∷ []))
        place many (get_or starts j 0) plain_loop

    loop_is : (op : Option RedOp) → (nest_placed (a_loop place counts starts c)).placed op inside j
        ≡ hold_placed leaving as_held loop_body
    loop_is op = ap (λ o. map_held bodies homes callee o j inside loop)
        (placed_chain (a_loop place counts starts c))

    abbrev row_at : List CallInstance → ℕ → Option CallInstance
    row_at rows t = slice_get rows (get_or starts j 0 + t)

    abbrev pipe : List CallInstance → Placed
    pipe rows = Piped None many (λ t. row_call bodies homes callee (row_at rows t))
        (λ t. row_body bodies homes callee (row_at rows t))

    by_pipe : (P : Placed → Type 0) → P plain_loop
        → ((rows : List CallInstance) → c ≡ a_call rows → (homes (row_form (slice_get rows 0))).overlaps ≡ true
        → P (pipe rows)) → P loop_body
    by_pipe P plain taken = go (pipe_of homes loop_kind.Sequential None ((nest_placed c).chain ∷ [])) refl
      where
        its : (p : Pipe) → IsPipe homes loop_kind.Sequential None ((nest_placed c).chain ∷ []) p
            → P (pipe_placed bodies homes callee (Some p) place many (get_or starts j 0) plain_loop)
        its p t =
            let o = t.its in
            let front : (nest_placed c).chain ≡ t.first = same_some (ap (λ l. slice_get l 0) t.all) in
            let is : chain c ≡ o.call = same_some (sym (placed_chain c) ∙ (front ∙ o.there)) in
            let spread : None ≡ p.spread = same_some t.lanes in
            subst (λ (z : Option SpreadRule). P (pipe_placed bodies homes callee
            (Some (record { spread = z; rows = p.rows })) place many (get_or starts j 0) plain_loop)) spread
            (taken p.rows (nest_call c (ap (λ (h : Chain ℕ). h.loops) is ∙ o.alone)
            ∙ ap a_call (ap (λ (h : Chain ℕ). h.instances) is ∙ o.its)) o.overlaps)

        go : (o : Option Pipe) → pipe_of homes loop_kind.Sequential None ((nest_placed c).chain ∷ []) ≡ o
            → P (pipe_placed bodies homes callee o place many (get_or starts j 0) plain_loop)
        go None e = plain
        go (Some p) e = its p (is_pipe homes loop_kind.Sequential None ((nest_placed c).chain ∷ []) p e)

  -- ---- each call in it has an argument

  all_hold : (h : PlacedArg) (L : List (ℕ × Argument)) (f : (ℕ × Argument) → PlacedArg) (w : Placed) → AllCalls h w
      → AllCalls h (hold_placed L f w)
  all_hold h [] f w a = a
  all_hold h (q ∷ L) f w a = a

  one_hold : (h : PlacedArg) (L : List (ℕ × Argument)) (f : (ℕ × Argument) → PlacedArg) (w : Placed) → OneCall h w
      → OneCall h (hold_placed L f w)
  one_hold h [] f w a = a
  one_hold h (q ∷ L) f w a = a

  abbrev Has : PlacedArg → CallInstance → Type 0
  Has h r = (i : ℕ) × (slice_get (row_args bodies homes r) i ≡ Some h)

  -- what is asked of the loops whose transfers overlap
  abbrev pub PipesOf : Nest → Type 0
  PipesOf c = EachOf (MayOverlap homes) (nest_fold CallLoops call_loops_step c).loops

  -- of the loop itself
  own_pipe : (place : Place) (counts starts : List ℕ) (c : Nest) → PipesOf (a_loop place counts starts c)
      → (rows : List CallInstance) → c ≡ a_call rows → (homes (row_form (slice_get rows 0))).overlaps ≡ true
      → LoopOverlaps homes (record { kind = loop_kind.Sequential; rows = rows; counts = counts; starts = starts })
  own_pipe place counts starts c pipes rows is =
      (subst (λ (z : Nest). PipesOf (a_loop place counts starts z)) is pipes).0

  -- of those inside it
  pipes_in : (place : Place) (counts starts : List ℕ) (c : Nest) → PipesOf (a_loop place counts starts c) → PipesOf c
  pipes_in place counts starts c pipes =
      let x = nest_fold CallLoops call_loops_step c in
      each_left (MayOverlap homes) x.loops []
      (each_right (MayOverlap homes) (loop_round loop_kind.Sequential counts starts (x ∷ [])) (x.loops ++ []) pipes)

  -- a call of a loop whose transfers overlap
  called : (h : PlacedArg) (o : Option CallInstance) (r : CallInstance) → o ≡ Some r → EachOf (Has h) (row_list o)
      → (i : ℕ) × (slice_get (row_call bodies homes callee o).args i ≡ Some h)
  called h None r e x = cc
  called h (Some q) r e x = x.0

  -- a row that a loop begins has what all of its calls have
  at_turn : (P : CallInstance → Type 0) (place : Place) (counts starts : List ℕ) (rows : List CallInstance) (j : ℕ)
      → EachOf P (calls (a_loop place counts starts (a_call rows)) j) → (t : ℕ) → t < get_or counts j 0
      → (r : CallInstance) → slice_get rows (get_or starts j 0 + t) ≡ Some r → P r
  at_turn P place counts starts rows j h t lt r e =
      (subst (λ o. EachOf P (row_list o)) e (in_turn P place counts starts (a_call rows) j h t lt)).0

  module _ (place : Place) (counts starts : List ℕ) (c : Nest) (h : PlacedArg) (inside : Bool) (j : ℕ)
      (pipes : PipesOf (a_loop place counts starts c)) (e : EachOf (Has h) (calls (a_loop place counts starts c) j))
    where
      in_pipe : (rows : List CallInstance) → c ≡ a_call rows → (homes (row_form (slice_get rows 0))).overlaps ≡ true
          → (t : ℕ) → t < get_or counts j 0
          → (i : ℕ) × (slice_get (row_call bodies homes callee (row_at place counts starts c inside j rows t)).args i ≡
          Some h)
      in_pipe rows is o t lt =
          let r = (own_pipe place counts starts c pipes rows is o).stands.there j t lt in
          called h (row_at place counts starts c inside j rows t) r.0 r.1
          (in_turn (Has h) place counts starts (a_call rows) j
          (subst (λ (z : Nest). EachOf (Has h) (calls (a_loop place counts starts z) j)) is e) t lt)

      all_body : ((i : Bool) (k : ℕ) → EachOf (Has h) (calls c k) → AllCalls h (placed_at c i k))
          → AllCalls h (loop_body place counts starts c inside j)
      all_body ih = by_pipe place counts starts c inside j (AllCalls h)
          (λ t lt. (
            ih (within place counts starts c inside j) (get_or starts j 0 + t)
                (in_turn (Has h) place counts starts c j e t lt),
            tt,
          ))
          (λ rows is o t lt. in_pipe rows is o t lt)

      one_body : 0 < get_or counts j 0
          → ((i : Bool) (k : ℕ) → k ≡ get_or starts j 0 + 0 → EachOf (Has h) (calls c k) → OneCall h (placed_at c i k))
          → OneCall h (loop_body place counts starts c inside j)
      one_body some ih = by_pipe place counts starts c inside j (OneCall h) (
        some,
        ih (within place counts starts c inside j) (get_or starts j 0 + 0) refl
            (in_turn (Has h) place counts starts c j e 0 some),
      )
          (λ rows is o. let q = in_pipe rows is o 0 some in (some, q.0, q.1))

  all_have : (c : Nest) (h : PlacedArg) (inside : Bool) (j : ℕ) → PipesOf c → EachOf (Has h) (calls c j)
      → AllCalls h (placed_at c inside j)
  all_have (a_call rows) h inside j pipes e = go (slice_get rows j) e
    where
      go : (o : Option CallInstance) → EachOf (Has h) (row_list o)
          → AllCalls h (row_placed bodies homes callee None true o)
      go None e = tt
      go (Some r) e = e.0
  all_have (a_loop place counts starts c) h inside j pipes e =
      subst (AllCalls h) (sym (loop_is place counts starts c inside j None))
      (all_hold h (leaving place counts starts c inside j) (as_held place counts starts c inside j)
      (loop_body place counts starts c inside j)
      (all_body place counts starts c h inside j pipes e
      (λ i k x. all_have c h i k (pipes_in place counts starts c pipes) x)))

  one_has : (c : Nest) (h : PlacedArg) (inside : Bool) (j : ℕ) → PipesOf c → Goes c j → EachOf (Has h) (calls c j)
      → OneCall h (placed_at c inside j)
  one_has (a_call rows) h inside j pipes g e =
      subst (λ o. OneCall h (row_placed bodies homes callee None true o)) (sym g.1)
      (subst (λ o. EachOf (Has h) (row_list o)) g.1 e).0
  one_has (a_loop place counts starts c) h inside j pipes g e =
      subst (OneCall h) (sym (loop_is place counts starts c inside j None))
      (one_hold h (leaving place counts starts c inside j) (as_held place counts starts c inside j)
      (loop_body place counts starts c inside j)
      (one_body place counts starts c h inside j pipes e g.0
      (λ i k f x. one_has c h i k (pipes_in place counts starts c pipes) (subst (Goes c) (sym f) g.1) x)))

  -- ---- all of it is good

  -- of the rows of a call in so many loops
  pub record Rows (n : ℕ) (rows : List CallInstance) : Type 0 where
    pub table : TableFits leaves bodies homes mays k (lower_table rows)
    pub held : EachOf (IsHeldRow homes (record { loops = n; rows = rows })) rows

  abbrev GoodNest : Nest → Type 0
  GoodNest c = (inside : Bool) (j : ℕ) → nest_filled c j ≡ true → LoopsHold homes c j → PipesOf c → (nest : Bool)
      (H : List PlacedArg) → InLoops nest H → Carries bodies homes (chain c).loops (calls c j) H
      → Good (placed_at c inside j) None nest H

  -- what rows of one table have in common with the first one
  of_table : (n : ℕ) (rows : List CallInstance) → Rows n rows → (r0 : CallInstance) → slice_get rows 0 ≡ Some r0
      → (calls : List CallInstance) → EachOf (InRows rows) calls → OfTable bodies homes r0 calls
  of_table n rows all r0 first calls there = record {
    one = each_map _ _ calls (λ r at i u m e.
        sym ((each_at _ rows at.0 r all.held at.1).one i u m e 0 r0 first)) there;
    alike = each_map _ _ calls (λ r at. all.table.same at.0 0 r r0 at.1 first) there;
  }

  -- a loop round what is good
  module _ (place : Place) (counts starts : List ℕ) (c : Nest) (n : ℕ) (all : Rows n (chain c).instances)
      (deeper : GoodNest c) (inside : Bool) (j : ℕ)
      (full : nest_filled (a_loop place counts starts c) j ≡ true)
      (hold : LoopsHold homes (a_loop place counts starts c) j) (pipes : PipesOf (a_loop place counts starts c))
      (nest : Bool) (H : List PlacedArg) (loops : InLoops nest H)
      (carried : Carries bodies homes (suc (chain c).loops) (calls (a_loop place counts starts c) j) H) where
    abbrev rows : List CallInstance
    rows = (chain c).instances

    abbrev these : List CallInstance
    these = calls (a_loop place counts starts c) j

    abbrev many_turns : ℕ
    many_turns = get_or counts j 0

    abbrev out : List (ℕ × Argument)
    out = leaving place counts starts c inside j

    abbrev one_held : ℕ × Argument → PlacedArg
    one_held = as_held place counts starts c inside j

    abbrev its_body : Placed
    its_body = loop_body place counts starts c inside j

    there : EachOf (InRows rows) these
    there = calls_there (a_loop place counts starts c) j

    -- its iterations, whatever is carried round them
    turns : (in_nest : Bool) (G : List PlacedArg) → InLoops in_nest G
        → Carries bodies homes (chain c).loops these G → (t : ℕ) → t < many_turns
        → Good (placed_at c (within place counts starts c inside j) (get_or starts j 0 + t)) None in_nest G
    turns in_nest G lps carries t lt =
        deeper (within place counts starts c inside j) (get_or starts j 0 + t)
        (filled_in place counts starts c j full t lt) (hold.1 t lt) (pipes_in place counts starts c pipes) in_nest G lps
        (carries_in bodies homes (chain c).loops these (calls c (get_or starts j 0 + t)) G
        (λ P h. in_turn P place counts starts c j h t lt) carries)

    -- a loop whose transfers overlap: one that leaves it stands at one place in all calls
    module _ (rows' : List CallInstance) (is : c ≡ a_call rows')
        (overlaps : (homes (row_form (slice_get rows' 0))).overlaps ≡ true) where
      its_pipe : LoopOverlaps homes
          (record { kind = loop_kind.Sequential; rows = rows'; counts = counts; starts = starts })
      its_pipe = own_pipe place counts starts c pipes rows' is overlaps

      same_held : (G : List PlacedArg) → Carries bodies homes (chain c).loops these G → (t u : ℕ) (lt : t < many_turns)
          (lu : u < many_turns) (i : ℕ) (p : PlacedArg)
          → slice_get (row_args bodies homes (its_pipe.stands.there j t lt).0) i ≡ Some p → place_of p.home ≡ Held
          → slice_get (row_args bodies homes (its_pipe.stands.there j u lu).0) i ≡ Some p
      same_held G carries t u lt lu i p e h =
          let r = its_pipe.stands.there j t lt in
          let q = its_pipe.stands.there j u lu in
          let carried' = subst (λ (z : Nest). Carries bodies homes (chain z).loops
          (calls (a_loop place counts starts z) j) G)
          is carries in
          let held' = subst (λ (z : Nest). EachOf (IsHeldRow homes (record { loops = n; rows = (chain z).instances }))
          (chain z).instances) is all.held in
          let known = each_at _ rows' (get_or starts j 0 + t) r.0 held' r.1 in
          let w = held_home p.home h in
          let bey : Beyond 0 p.home = subst (Beyond 0) (sym w.2)
          (known.some i w.0 w.1 (home_there bodies homes r.0 i p e ∙ w.2)) in
          let found = at_turn _ place counts starts rows' j carried'.all t lt r.0 r.1 i p e bey in
          ap (slice_get (row_args bodies homes q.0)) (sym found.2)
          ∙ at_turn _ place counts starts rows' j (carried'.each found.0 p found.1) u lu q.0 q.1

      pipe_good : (in_nest : Bool) (G : List PlacedArg) → InLoops in_nest G
          → Carries bodies homes (chain c).loops these G → (red : Option Reduction)
          → Good (pipe place counts starts c inside j rows') red in_nest G
      pipe_good in_nest G lps carries red = by in_nest (λ t lt. each in_nest t lt (turns in_nest G lps carries t lt))
        where
          each : (b : Bool) (t : ℕ) → t < many_turns
              → Good (placed_at c (within place counts starts c inside j) (get_or starts j 0 + t)) None b G
              → Good (Call (row_call bodies homes callee (row_at place counts starts c inside j rows' t))
              (row_body bodies homes callee (row_at place counts starts c inside j rows' t))) None b G
          each b t lt g =
              let r = its_pipe.stands.there j t lt in
              as_call leaves codes ss may bodies homes callee (row_at place counts starts c inside j rows' t) r.0 r.1
              b G
              (subst (λ (z : Nest). Good (placed_at z (within place counts starts c inside j) (get_or starts j 0 + t))
              None b
              G) is g)

          by : (b : Bool) → ((t : ℕ) → t < many_turns
              → Good (Call (row_call bodies homes callee (row_at place counts starts c inside j rows' t))
              (row_body bodies homes callee (row_at place counts starts c inside j rows' t))) None b G)
              → Good (pipe place counts starts c inside j rows') red b G
          by false f = free_pipe leaves codes ss may bodies homes callee loop_kind.Sequential rows' counts starts
              its_pipe j
              None G (keeps_ahead leaves codes ss may bodies homes callee loop_kind.Sequential rows' counts starts
              its_pipe
              j its_pipe.clear) f red
          by true f = held_pipe leaves codes ss may bodies homes callee loop_kind.Sequential rows' counts starts
              its_pipe j
              G (keeps_ahead leaves codes ss may bodies homes callee loop_kind.Sequential rows' counts starts its_pipe j
              its_pipe.clear) f (same_held G carries) red

    body_good : (in_nest : Bool) (G : List PlacedArg) → InLoops in_nest G
        → Carries bodies homes (chain c).loops these G → (red : Option Reduction) → Good its_body red in_nest G
    body_good in_nest G lps carries red = by_pipe place counts starts c inside j
        (λ (p : Placed). Good p red in_nest G) (
          λ t lt. ((turns in_nest G lps carries t lt).0, tt),
          λ t lt. ((turns in_nest G lps carries t lt).1, tt),
          λ t lt. ((turns in_nest G lps carries t lt).2, tt),
          λ t lt. ((turns in_nest G lps carries t lt).3, tt),
        )
        (λ rows' is overlaps. pipe_good rows' is overlaps in_nest G lps carries red)

    -- that nothing leaves
    free_loop : out ≡ [] → (red : Option Reduction) → Good its_body red nest H
    free_loop none red = body_good nest H loops same red
      where
        by : (o : Option CallInstance) → slice_get rows 0 ≡ o → Carries bodies homes (chain c).loops these H
        by None e = carries_less bodies homes (chain c).loops these H (λ m r at i p f x.
            let q = each_at (InRows rows) these m r there at in
            let r0 = first_there rows q.0 r q.1 in
            let no : None ≡ Some r0.0 = sym e ∙ r0.1 in absurd (cc no)) carried
        by (Some r0) e = carries_same bodies homes (chain c).loops r0 these
            (of_table n rows all r0 e these there) H carried
            (ap (leaving_row homes (suc (chain c).loops)) (sym e) ∙ none)

        same : Carries bodies homes (chain c).loops these H
        same = by (slice_get rows 0) refl

    -- that these leave
    module _ (q : ℕ × Argument) (qs : List (ℕ × Argument)) (is : out ≡ q ∷ qs) where
      abbrev args : List PlacedArg
      args = map one_held (q ∷ qs)

      -- the first row of the table
      first_row : (o : Option CallInstance) → slice_get rows 0 ≡ o → (r0 : CallInstance) × (slice_get rows 0 ≡ Some r0)
      first_row None e =
          let no : [] ≡ q ∷ qs = ap (leaving_row homes (suc (chain c).loops)) (sym e) ∙ is in absurd (cc no)
      first_row (Some r0) e = (r0, e)

      top : (r0 : CallInstance) × (slice_get rows 0 ≡ Some r0)
      top = first_row (slice_get rows 0) refl

      -- the home of one of them
      one : (u : ℕ) × (get_or (homes top.0.form).params q.0 InPlace ≡ home.Held u (suc (chain c).loops))
      one = left_held (suc (chain c).loops) (homes top.0.form).params top.0.args 0 q
          (ap (λ (xs : List (ℕ × Argument)). slice_get xs 0)
          (ap (leaving_row homes (suc (chain c).loops)) (sym top.1) ∙ is))

      begins : Goes (a_loop place counts starts c) j
      begins =
          let le : suc (chain c).loops ≤ suc (chain c).loops = omega arith in
          goes homes (a_loop place counts starts c) j full hold q.0 one.0 (suc (chain c).loops)
          (ap (λ o. get_or (params_of homes o) q.0 InPlace) top.1 ∙ one.1) le

      r1 : FirstCall (a_loop place counts starts c) j
      r1 = first_call (a_loop place counts starts c) j begins

      forms : EachOf (λ r. r.form ≡ top.0.form) these
      forms = each_map (InRows rows) (λ r. r.form ≡ top.0.form) these (λ r at.
          (each_at _ rows 0 top.0 all.held top.1).one q.0 one.0 (suc (chain c).loops) one.1 at.0 r at.1) there

      carries : Carries bodies homes (chain c).loops these (args ++ H)
      carries = subst (λ (l : List (ℕ × Argument)). Carries bodies homes (chain c).loops these (map one_held l ++ H)) is
          (of_rows (slice_get rows 0) (slice_get rows ((chain (a_loop place counts starts c)).first j)) top.1 r1.there)
        where
          of_rows : (o e : Option CallInstance) → o ≡ Some top.0 → e ≡ Some r1.row
              → Carries bodies homes (chain c).loops these
              (map (held_arg (bodies (row_form o)) (homes (row_form o)) e) (leaving_row homes (suc (chain c).loops) o)
              ++ H)
          of_rows o e f g = subst (λ o. Carries bodies homes (chain c).loops these
              (map (held_arg (bodies (row_form o)) (homes (row_form o)) e) (leaving_row homes (suc (chain c).loops) o)
              ++ H)) (sym f)
              (subst (λ e. Carries bodies homes (chain c).loops these
              (map (held_arg (bodies top.0.form) (homes top.0.form) e)
              (leaving_row homes (suc (chain c).loops) (Some top.0)) ++ H)) (sym g)
              (carries_more bodies homes (chain c).loops top.0 these (of_table n rows all top.0 top.1 these there) H
              carried r1.row r1.begun forms
              (λ i u h. hold.0.stays i u (ap (λ o. get_or (params_of homes o) i InPlace) top.1 ∙ h))))

      in_front : (i : ℕ) (h : PlacedArg) → slice_get args i ≡ Some h → slice_get (args ++ H) i ≡ Some h
      in_front i h e = front_at args H i h e

      -- it stands in each call
      have : (i : ℕ) (h : PlacedArg) → slice_get args i ≡ Some h → EachOf (Has h) these
      have i h e = each_map _ (Has h) these (λ r f. (carries.at i, f)) (carries.each i h (in_front i h e))

      -- in the first call
      at_first : (i : ℕ) (h : PlacedArg) → slice_get (args ++ H) i ≡ Some h
          → slice_get (row_args bodies homes r1.row) (carries.at i) ≡ Some h
      at_first i h e = each_at _ these 0 r1.row (carries.each i h e) r1.begun

      no_gathers : (i : ℕ) (h : PlacedArg) → slice_get args i ≡ Some h → h.gathers ≡ None
      no_gathers i h e = let m = mapped_at one_held (q ∷ qs) i h e in ap (λ (x : PlacedArg). x.gathers) (sym m.is)

      keeps : HoldKeeps args H its_body
      keeps = record {
        homes = λ i h e. beyond_held (chain c).loops h.home (carries.beyond i h (in_front i h e));
        plain = no_gathers;
        all = λ i h e. all_body place counts starts c h inside j pipes (have i h e)
            (λ v k x. all_have c h v k (pipes_in place counts starts c pipes) x);
        one = λ i h e. one_body place counts starts c h inside j pipes (have i h e) begins.0
            (λ v k f x. one_has c h v k (pipes_in place counts starts c pipes) (subst (Goes c) (sym f) begins.1) x);
        apart = λ i m x y ne ex ey sh.
            (each_at _ these 0 r1.row carries.clear r1.begun (carries.at i) x (at_first i x ex)
            (carries.beyond i x ex)).others (carries.at m) x.argument y.argument
            (λ z. ne (carries.distinct i m x y ex ey (sym z)))
            (argument_there bodies homes r1.row (carries.at i) x (at_first i x ex))
            (argument_there bodies homes r1.row (carries.at m) y (at_first m y ey)) sh;
      }

      sits : HeldSits ss args
      sits = record {
        args = record {
          each = λ i h e. (all.table.rows ((chain (a_loop place counts starts c)).first j) r1.row
              r1.there).sits.args.each (carries.at i) h (at_first i h (in_front i h e));
        };
        held = λ i h e. (
          no_gathers i h e,
          is_held_by h.home
              (beyond_held (chain c).loops h.home (carries.beyond i h (in_front i h e))),
        );
      }
        where
          is_held_by : (h : Home) → place_of h ≡ Held → is_held h ≡ true
          is_held_by home.InPlace e = cc
          is_held_by (home.Own u) e = cc
          is_held_by (home.Held u m) e = refl
          is_held_by (home.Twin u v) e = cc

      held_loop : (red : Option Reduction) → Good (Hold args its_body) red nest H
      held_loop red = let g = body_good true (args ++ H) tt carries None in (g.0, (keeps, g.1), g.2, (sits, g.3))

    -- whatever leaves it
    by_leaving : (l : List (ℕ × Argument)) → out ≡ l → (red : Option Reduction)
        → Good (hold_placed l one_held its_body) red nest H
    by_leaving [] e red = free_loop e red
    by_leaving (q ∷ qs) e red = held_loop q qs e red

    pub loop_good : (op : Option RedOp) (red : Option Reduction)
        → Good ((nest_placed (a_loop place counts starts c)).placed op inside j) red nest H
    loop_good op red = subst (λ (p : Placed). Good p red nest H) (sym (loop_is place counts starts c inside j op))
        (by_leaving out refl red)

  pub nest_good : (c : Nest) (n : ℕ) → Rows n (chain c).instances → GoodNest c
  nest_good (a_call rows) n all inside j full hold pipes nest H loops carried =
      let r = some_of (slice_get rows j) full in
      subst (λ o. Good (row_placed bodies homes callee None true o) None nest H) (sym r.1)
      (nested_call rows r.0 (all.table.rows j r.0 r.1)
      (λ i u m e. (each_at _ rows j r.0 all.held r.1).some i u m e) nest H loops
      (subst (λ o. Carries bodies homes 0 (row_list o) H) r.1 carried))
  nest_good (a_loop place counts starts c) n all inside j full hold pipes nest H loops carried =
      loop_good place counts starts c n all (nest_good c n all) inside j full hold pipes nest H loops carried None None
