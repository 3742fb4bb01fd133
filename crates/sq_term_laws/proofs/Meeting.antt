-- The induction over statements, and over forms.
use Rattle.std.proofs.Common.{◌≡◌, ℕ, zero, suc, ◌+◌, ◌<◌, ◌≤◌, pos, Bool, true, false, not, ◌&&◌, ◌||◌, is_some, List}
use Rattle.std.proofs.Common.{[], ◌∷◌, ◌++◌, map, length, get_or, slice_get, drop, Option, Some, None, refl, sym, ap}
use Rattle.std.proofs.Common.{subst, ◌∙◌, arith, if◌then◌else◌, ◌⊎◌, inl, inr, ℤ, ◌*◌}
use Rattle.std.specs.Prelude.{nat_abs}
use Rattle.std.specs.List.{All, list_any}
use Rattle.sq_num.specs.declared.RedOp.{RedOp}
use Rattle.sq_num.specs.declared.Elem.TheVariants.{Long}
use Rattle.std.proofs.lemmas.Int.{ints}
use Rattle.sq_num.specs.Elements.{IsValue, least, greatest}
use Rattle.sq_text.specs.declared.spread.SpreadRule.{SpreadRule}
use Rattle.sq_ir.specs.Written.{Setting, Env, value_of, at_turn, at_root, node_of, inside_of}
use Rattle.sq_ir.specs.Plans.{HasValue, IsBuffer, IsChild, AskedOfActions, each_part, this_arm, Meets}
use Rattle.sq_ir.specs.declared.num.Num.{Num}
use Rattle.sq_ir.specs.declared.num.Num.TheVariants as n
use Rattle.sq_ir.specs.declared.term.Action.TheVariants as action
use Rattle.sq_ir.specs.declared.term.Term.{Term}
use Rattle.sq_ir.specs.declared.term.Term.TheVariants as term
use Rattle.sq_blocks.specs.declared.argument.Argument.{Argument}
use Rattle.sq_spec.specs.declared.statement.LoopKind.{LoopKind}
use Rattle.sq_spec.specs.declared.statement.CallInstance.{CallInstance}
use Rattle.sq_spec.specs.declared.statement.Statement.{Statement, roll-Statement}
use Rattle.sq_spec.specs.declared.statement.Statement.TheVariants as b
use Rattle.sq_spec.specs.declared.statement.Statement.TheOpen.{Statement-F}
use Rattle.sq_spec.specs.declared.statement.Statement.TheFolds.{ind-Statement, map-Statement}
use Rattle.sq_spec.specs.declared.body.Body.{Body}
use Rattle.sq_spec.specs.declared.body.Body.TheVariants as body
use Rattle.sq_spec.specs.declared.body.FormBody.{FormBody}
use Rattle.sq_spec.specs.Spreads.{is_beside}
use Rattle.sq_placed.specs.declared.home.Home.{Home}
use Rattle.sq_placed.specs.declared.home.Homes.{Homes}
use Rattle.sq_term.specs.declared.context.Context.{Context}
use Rattle.sq_term.specs.declared.context.Move.{Move}
use Rattle.sq_placed.specs.Trees.{home_in_set, local_buffers}
use Rattle.sq_placed.specs.Tables.{locals_of, op_of, spread_of, Chain, chain_of}
use Rattle.sq_placed.specs.Tables.{row_form, leaving_row, leaving_chain, chain_form, Pipe, pipe_of}
use Rattle.sq_placed.specs.Pipes.{all_loops, loop_round, call_loops, call_loops_of, IsPiped, LoopsStand}
use Rattle.sq_placed.specs.Pipes.{PipesStand}
use Rattle.sq_term.specs.Terms.{numbers, moves_from, buffers_from, in_callee, call_child, arms_of, arms_from, with_arm}
use Rattle.sq_term.specs.Terms.{is_same_arm, arm_number, picks, TermPart, any_lower, any_same, chains, all_terms}
use Rattle.sq_term.specs.Terms.{in_map, map_term, arm_term, arm_of_form, rows_term, count_num, loop_term}
use Rattle.sq_term.specs.Terms.{statement_term, first_num, held_moves, leaving_buffers, hold_in_term, hold_out_term}
use Rattle.sq_term.specs.Terms.{at_child_already, chain_times, chain_num, hold_term, body_term, term_of, entry_context}
use Rattle.sq_term.specs.Terms.{entry_row, entry_term, set_buffers_from, callee_term, lift_context, at_iteration}
use Rattle.sq_term.specs.Terms.{come_in_term, fill_held_term, back_term, come_term, leave_term, row_args, lanes_term}
use Rattle.sq_term.specs.Terms.{pipe_moves, pipe_work, twin_sets, pipe_term, run_term}
use Rattle.sq_term.specs.Stands.{IsNumber, below, calls_in_rows, all_calls, calls_in, calls_in_all, calls_of, AreLevel}
use Rattle.sq_term.specs.Stands.{AreLeveled}
use Rattle.sq_term_laws.specs.Laws.{TermIsFine, EntryIsFine}
use Rattle.sq_term_laws.specs.Fits.{Bounds, AreBounds, IsMachine, AskedOfStatement, HaveCounts, all_parts}
use Rattle.sq_term_laws.specs.Fits.{Tabled}
use Rattle.sq_term_laws.specs.Fits.{TabledBody, AreTabled, Has, Way, to_child, entered, Fits, NodeAt}
use Rattle.sq_term.proofs.Numbers.{constant, index_is, table_is}
use Rattle.sq_term.proofs.Numbers as numbers_of
use Rattle.sq_term.proofs.Arms.{arm_of_row, pick_of, picks_are}
use Rattle.sq_term.proofs.Maps.{MayBe, may_be}
use Rattle.sq_term.proofs.Holds.{row_level}
use Rattle.sq_term.proofs.Same.{level_left, level_right, or_left, or_rest}
use Rattle.sq_term.proofs.Opened.{built_call, built_map, calls_call, calls_map}
use Rattle.sq_term_laws.proofs.Chains.{tabled_call, tabled_map, Alone, map_alone}
use Rattle.sq_term_laws.proofs.Fine.{less_fits, count_is, turn_has, zero_fits, const_has, pick_has, counts_has, fine_skip, fine_act, fine_seq, fine_par}
use Rattle.sq_term_laws.proofs.Fine.{fine_loop}
use Rattle.sq_term_laws.proofs.Fine.{fine_spread, fine_case, fine_within, fine_all, fine_arm}
use Rattle.sq_term_laws.proofs.Fitting.{Nothing, Fine, IsRowed, rows_dropped, bring_fine, back_fine, hold_in_fine}
use Rattle.sq_term_laws.proofs.Fitting.{hold_out_fine, clears_fine, moves_rowed, held_rowed, call_there, leaving_there}
use Rattle.sq_term_laws.proofs.Fitting.{kept_there, uses_fit, Inside, goes_in, begins, in_turn, narrow, set_there}
use Rattle.sq_term_laws.proofs.Fitting.{all_none, all_append, times_le, come_fine, fill_fine}
use Rattle.sq_term_laws.specs.Roomy.{IsCounted}
use Rattle.sq_term_laws.proofs.LaneNumbers.{count_counted}
use Rattle.sq_term_laws.proofs.Piping.{Part, whole_meets, spread_meets}
use Rattle.sq_placed.proofs.Pipes.{loops_left, loops_right, map_loops}
use Rattle.sq_term_laws.proofs.CallLoops.{IsPipedCall, piped_call}

-- ---- arms

pub arm_below : (qs : List CallInstance) (r q : CallInstance) → slice_get qs (arm_number qs r) ≡ Some q
    → suc (arm_number qs r) ≤ length qs
arm_below qs r q e = there qs (arm_number qs r) e
  where
    there : (xs : List CallInstance) (k : ℕ) → slice_get xs k ≡ Some q → suc k ≤ length xs
    there [] k h = cc
    there (x ∷ xs) zero h = omega arith
    there (x ∷ xs) (suc k) h = let g = there xs k h in omega (arith, g)

with_len : (qs : List CallInstance) (r : CallInstance) → length (with_arm qs r) ≤ suc (length qs)
with_len qs r = go (list_any (is_same_arm r) qs)
  where
    last_len : (xs : List CallInstance) → length (xs ++ r ∷ []) ≤ suc (length xs)
    last_len [] = omega arith
    last_len (x ∷ xs) = let g = last_len xs in omega (arith, g)

    go : (a : Bool) → length (if a then qs else qs ++ r ∷ []) ≤ suc (length qs)
    go true = omega arith
    go false = last_len qs

pub arms_len : (qs rest : List CallInstance) → length (arms_from qs rest) ≤ length qs + length rest
arms_len qs [] = omega arith
arms_len qs (r ∷ rest) = let g = arms_len (with_arm qs r) rest in let h = with_len qs r in omega (arith, g, h)

pub picks_len : (qs times : List CallInstance) → length (picks qs times) ≡ length times
picks_len qs [] = refl
picks_len qs (r ∷ times) = ap suc (picks_len qs times)

pub either : (a b : Bool) → (a || b) ≡ true → (a ≡ true) ⊎ (b ≡ true)
either true b h = inl refl
either false b h = inr h

-- a map is spread where a lower call stands in it
pub spread_lower : (rule r : SpreadRule) (m : LoopKind) (inside lower same : Bool) → spread_of rule m inside lower same
    ≡ Some r → lower ≡ true
spread_lower rule r m inside lower same = go (is_beside m) inside lower
  where
    go : (x y l : Bool) → (if x && (not y && (l && not same)) then Some rule else None) ≡ Some r → l ≡ true
    go x y true e = refl
    go true true false e = cc
    go true false false e = cc
    go false y false e = cc

-- ---- what is moved round a loop that arguments leave

-- in front of the loop and behind it
pub record AreMoved (s : Setting) (asked : AskedOfActions) (turns : List ℕ) (ms : List Move) : Type 0 where
  pub ins : (env : Env) (bs : List ℕ) → env.turns ≡ turns → each_part (Meets s asked) (map hold_in_term ms) env bs
  pub outs : (env : Env) (bs : List ℕ) → env.turns ≡ turns → each_part (Meets s asked) (map hold_out_term ms) env bs

module _ (bodies : ℕ → FormBody) (homes : ℕ → Homes) where
  -- by a call with this first row
  abbrev pub moved_by : Context → Chain Num → CallInstance → List Move
  moved_by c h r = held_moves (bodies r.form).arrays (homes r.form).params c.views h.instances (h.first c.ordinal)
      (leaving_row homes h.loops (Some r))

  abbrev pub Held : Setting → AskedOfActions → (turns : List ℕ) → Context → Option (Chain Num) → Type 0
  Held s asked turns c None = Unit {0}
  Held s asked turns c (Some h) = (r : CallInstance) → slice_get h.instances 0 ≡ Some r
      → AreMoved s asked turns (moved_by c h r)

module _ (s : Setting) (most : Bounds) (bounds : AreBounds most) (last : ℕ) (is_at : ℕ → ℕ → Type 0)
    (machine : IsMachine s most last is_at)
    (bodies : ℕ → FormBody) (homes : ℕ → Homes) (level : ℕ → ℕ) (leveled : AreLeveled s bodies homes level)
    (tabled : AreTabled s most last bodies homes level) where
  pub one_fits : IsValue Long (pos 1)
  one_fits = uses_fit s most bounds last is_at machine 1 bounds.once

  -- ---- a loop that arguments leave

  module _ (asked : AskedOfActions) (at : ℕ) where
    pub hold_meets : (o : Option (Chain Num)) (lower same : Bool) (calls : List (Bool × ℕ))
        → Alone level at o lower same calls → AreLevel level at calls → (lower ≡ true → at < last)
        → (k : ℕ) (c : Context) (env : Env) (inside : Bool) (bs : List ℕ) → Fits s last is_at env at c inside same k
        → Held bodies homes s asked env.turns c o → (loop : Bool → Context → Term) → Meets s asked (loop inside c) env bs
        → ((in_env : Env) (more : List ℕ) → in_env.turns ≡ env.turns
        → Fits s last is_at in_env at (at_child_already c) true same k
        → Meets s asked (loop true (at_child_already c)) in_env more)
        → Meets s asked (hold_term (bodies (chain_form o)).arrays (homes (chain_form o)).params (chain_times o)
        (chain_num o c.ordinal) (leaving_chain homes o) inside c loop) env bs
    hold_meets None lower same calls alone deep low k c env inside bs h held loop plainly within = plainly
    hold_meets (Some o) lower same calls alone deep low k c env inside bs h held loop plainly within
        = go (slice_get o.instances 0) refl
      where
        in_env : Env
        in_env = inside_of s env c.child

        goes : Inside s most bounds last is_at machine in_env (suc at) × IsChild s env c.child
        goes = goes_in s most bounds last is_at machine env at true inside h.here (λ e. low alone.0)
            (subst (λ (z : Bool). Way s env last at inside z c.child) alone.1 h.way)

        turns : (p : Option Num) → (inside_of s env p).turns ≡ env.turns
        turns None = refl
        turns (Some x) = refl

        already : Fits s last is_at in_env at (at_child_already c) true same k
        already = record {
          ordinal = subst (λ (t : List ℕ). IsNumber s t c.ordinal k) (sym (turns c.child)) h.ordinal;
          has = subst (λ (t : List ℕ). Has s t c.ordinal) (sym (turns c.child)) h.has;
          way = entered goes.0.level_is refl alone.1;
          here = goes.0.here;
        }

        lists : (f : ℕ) → level f ≡ suc at → (ps : List (ℕ × Argument))
            → AreMoved s asked env.turns
            (held_moves (bodies f).arrays (homes f).params c.views o.instances (o.first c.ordinal) ps)
            → Meets s asked (hold_term (bodies f).arrays (homes f).params o.instances (o.first c.ordinal) ps inside c
            loop) env bs
        lists f to [] moved = plainly
        lists f to (p ∷ ps) moved =
            let new = leaving_buffers (homes f).params (p ∷ ps) in
            fine_within s asked env bs c.child new _ goes.1
            (subst (λ (l : ℕ). All (IsBuffer s l) new) (to ∙ sym goes.0.level_is)
            (leaving_there s (level f) (homes f).params (leveled.params f) (tabled.params f) (p ∷ ps)))
            (fine_seq s asked in_env (new ++ bs) _ (
              fine_par s asked in_env (new ++ bs) _ (moved.ins in_env (new ++ bs) (turns c.child)),
              (
                within in_env (new ++ bs) (turns c.child) already,
                (fine_par s asked in_env (new ++ bs) _ (moved.outs in_env (new ++ bs) (turns c.child)), tt),
              ),
            ))

        go : (r : Option CallInstance) → slice_get o.instances 0 ≡ r
            → Meets s asked (hold_term (bodies (row_form r)).arrays (homes (row_form r)).params o.instances
            (o.first c.ordinal) (leaving_row homes o.loops r) inside c loop) env bs
        go None e = plainly
        go (Some r) e = lists r.form (row_level level at true o.instances 0 r (alone.2 deep) e)
            (leaving_row homes o.loops (Some r)) (held r e)

  -- no more than its last iteration has a number
  pub few_turns : (counts starts : List ℕ) (n k inner : ℕ) → inner ≤ most.uses
      → ((k t : ℕ) → k < n → t < get_or counts k 0 → get_or starts k 0 + t < inner) → k < n
      → get_or counts k 0 ≤ most.uses
  few_turns counts starts n k inner few asked l = go (get_or counts k 0) refl
    where
      go : (z : ℕ) → z ≡ get_or counts k 0 → z ≤ most.uses
      go zero e = omega arith
      go (suc z) e = let g = asked k z l (omega (arith, e)) in omega (arith, g, few)

  -- ---- a loop whose transfers overlap

  -- the buffers of both sets are there
  sets_there : (made : ℕ → Context → Term) (at : ℕ) (rows : List CallInstance)
      → AreLevel level at (calls_in_rows true rows) → All (IsBuffer s (suc at)) (twin_sets bodies homes made rows)
  sets_there made at [] deep = all_none (IsBuffer s (suc at))
  sets_there made at (r ∷ rest) deep =
      let hs = (homes r.form).params in
      let first = set_buffers_from 0 hs 0 r.args in
      let second = set_buffers_from 1 hs 0 r.args in
      subst (λ (l : ℕ). All (IsBuffer s l) (first ++ second)) deep.0
      (all_append (IsBuffer s (level r.form)) first second
      (set_there s (level r.form) 0 hs (leveled.params r.form) (tabled.params r.form) 0 r.args)
      (set_there s (level r.form) 1 hs (leveled.params r.form) (tabled.params r.form) 0 r.args))

  -- the form of its call stands at the next level, where there is a row
  pub form_level : (at : ℕ) (rows : List CallInstance) (i : ℕ) (r : CallInstance) → slice_get rows i ≡ Some r
      → AreLevel level at (calls_in_rows true rows) → level (row_form (slice_get rows 0)) ≡ suc at
  form_level at [] i r e deep = cc
  form_level at (x ∷ rest) i r e deep = deep.0

  abbrev pub AtChild : ℕ → Env → Type 0
  AtChild at env = Inside s most bounds last is_at machine env (suc at)

  pub turned_at : (at : ℕ) (env : Env) (t : ℕ) → AtChild at env → AtChild at (at_turn env t)
  turned_at at env t h = record { level_is = h.level_is; here = h.here }

  module _ (asked : AskedOfActions) (at : ℕ) (made : ℕ → Context → Term) (rows : List CallInstance)
      (deep : AreLevel level at (calls_in_rows true rows)) (low : at < last) (counts starts : List ℕ) (k : ℕ)
      (few : get_or counts k 0 ≤ most.uses) (Sees : List ℕ → Context → Type 0)
      (lifts : (turns : List ℕ) (t : ℕ) (c : Context) → Sees turns c → Sees (t ∷ turns) (lift_context c)) where
    pub count_fits : IsValue Long (pos (get_or counts k 0))
    count_fits = uses_fit s most bounds last is_at machine (get_or counts k 0) few

    abbrev pub PartOf : (ℕ → Context → Term) → Type 0
    PartOf = Part s asked (get_or counts k 0) count_fits starts (AtChild at) (turned_at at) Sees lifts

    pub lanes_meet : (come work leave : ℕ → Context → Term) → PartOf come → PartOf work → PartOf leave
        → (spread : Option SpreadRule) (c : Context) (env : Env) (inside : Bool) (bs : List ℕ) → MayBe spread inside
        → Fits s last is_at env at c inside false k → Sees env.turns c
        → IsCounted s env.turns (count_num counts c) (get_or counts k 0)
        → Meets s asked (lanes_term spread (count_num counts c) starts (twin_sets bodies homes made rows) c come work
        leave) env bs
    lanes_meet come work leave comes works leaves None c env inside bs may h sees counted =
        whole_meets s asked (get_or counts k 0) count_fits starts (AtChild at) (turned_at at) Sees lifts come work leave
        comes works leaves env bs (twin_sets bodies homes made rows) c (count_num counts c) goes.1
        (subst (λ (l : ℕ). All (IsBuffer s l) (twin_sets bodies homes made rows)) (sym goes.0.level_is)
        (sets_there made at rows deep)) goes.0
        (subst (λ (t : List ℕ). Sees t c) (sym (turns c.child)) sees)
        (subst (λ (t : List ℕ). IsCounted s t (count_num counts c) (get_or counts k 0)) (sym (turns c.child)) counted)
      where
        goes : AtChild at (inside_of s env c.child) × IsChild s env c.child
        goes = goes_in s most bounds last is_at machine env at true inside h.here (λ e. low) h.way

        turns : (p : Option Num) → (inside_of s env p).turns ≡ env.turns
        turns None = refl
        turns (Some x) = refl
    lanes_meet come work leave comes works leaves (Some rule) c env inside bs may h sees counted =
        spread_meets s asked (get_or counts k 0) count_fits starts (AtChild at) (turned_at at) Sees lifts come work
        leave comes works leaves most bounds few rule env bs (twin_sets bodies homes made rows) c (count_num counts c)
        (machine.some env.level (node_of env) h.here (let e = at_level h.way in omega (arith, e, low)))
        (machine.few env.level (node_of env) h.here) child sees counted
      where
        at_level : {o : Option Num} → Way s env last at inside false o → env.level ≡ at
        at_level (to_child x is ok) = is
        at_level (entered is i alone) = let z = may.free rule refl in let f : ⊥ = cc in absurd f

        kids : ℕ
        kids = s.children (node_of env)

        kids_fit : IsValue Long (pos kids)
        kids_fit = less_fits kids (suc most.uses * suc most.children) (
            let g = machine.few env.level (node_of env) h.here in
            let e = times_le 1 kids (suc most.uses) (suc most.children) (omega arith) (omega (arith, g)) in
            omega (arith, e)) bounds.fits

        child : (j : ℕ) → j < kids → (in_env : Env) → in_env ≡ at_turn (at_turn env kids) j
            → IsChild s in_env (Some (n.Index 0))
            × All (IsBuffer s (inside_of s in_env (Some (n.Index 0))).level) (twin_sets bodies homes made rows)
            × AtChild at (inside_of s in_env (Some (n.Index 0)))
        child j l in_env is = subst (λ (e : Env). IsChild s e (Some (n.Index 0))
            × All (IsBuffer s (inside_of s e (Some (n.Index 0))).level) (twin_sets bodies homes made rows)
            × AtChild at (inside_of s e (Some (n.Index 0)))) (sym is) (
              goes.1,
              subst (λ (z : ℕ). All (IsBuffer s z) (twin_sets bodies homes made rows)) (sym goes.0.level_is)
                  (sets_there made at rows deep),
              goes.0,
            )
          where
            here : Env
            here = at_turn (at_turn env kids) j

            its : IsChild s here (Some (n.Index 0))
            its = (
              count_is s here (n.Index 0) j (index_is s here 0)
                  (turn_has s (at_turn env kids) j (less_fits j kids (omega (arith, l)) kids_fit)),
              subst (λ (z : ℤ). nat_abs z < kids) (sym (index_is s here 0)) l,
            )

            goes : AtChild at (inside_of s here (Some (n.Index 0))) × IsChild s here (Some (n.Index 0))
            goes = goes_in s most bounds last is_at machine here at true false h.here (λ e. low)
                (to_child (n.Index 0) (at_level h.way) (λ z. its))

  -- nothing is asked of what is moved
  held_fine : (turns : List ℕ) (c : Context) (o : Option (Chain Num)) → Held bodies homes s Nothing turns c o
  held_fine turns c None = tt
  held_fine turns c (Some h) = λ r e.
      let ms = moved_by bodies homes c h r in
      let rowed = held_rowed (bodies r.form).arrays (homes r.form).params c.views h.instances (h.first c.ordinal)
      (leaving_row homes h.loops (Some r)) (tabled.rows r.form) one_fits in
      record {
        ins = λ env bs t. fine_all s Nothing env bs IsRowed hold_in_term (hold_in_fine s env bs) ms rowed;
        outs = λ env bs t. fine_all s Nothing env bs IsRowed hold_out_term (hold_out_fine s env bs) ms rowed;
      }

  -- the callees' terms are well formed
  abbrev pub AreFine : (ℕ → Context → Term) → Type 0
  AreFine made = (f : ℕ) (c : Context) (env : Env) (bs : List ℕ) → Fits s last is_at env (level f) c false true 0
      → Fine s (made f c) env bs

  module _ (made : ℕ → Context → Term) (callees : AreFine made) where
    -- a callee, with the fills of its locals
    callee_fine : (f : ℕ) (c : Context) (ms : List Move) (env : Env) (bs : List ℕ)
        → Inside s most bounds last is_at machine env (level f)
        → Fine s (callee_term (locals_of (bodies f) (homes f))
        (made f (in_callee c ms (locals_of (bodies f) (homes f))))) env bs
    callee_fine f c ms env bs here =
        fine_within s Nothing env bs None (local_buffers (locals_of (bodies f) (homes f))) _ tt
        (subst (λ (l : ℕ). All (IsBuffer s l) (local_buffers (locals_of (bodies f) (homes f)))) (sym here.level_is)
        (kept_there s (level f) (drop (length (homes f).params) (bodies f).arrays) (homes f).locals (leveled.locals f)
        (tabled.locals f)))
        (fine_seq s Nothing env _ _ (
          fine_par s Nothing env _ _
              (clears_fine s env _ (drop (length (homes f).params) (bodies f).arrays) (homes f).locals
              (rows_dropped (length (homes f).params) (bodies f).arrays (tabled.rows f))),
          (
            callees f (in_callee c ms (locals_of (bodies f) (homes f))) env _ (record {
              ordinal = constant s env.turns 0;
              has = record {
                has = λ l nodes. const_has s (record { turns = env.turns; level = l; nodes = nodes }) (pos 0) zero_fits;
              };
              way = begins s most bounds last is_at machine env (level f) here;
              here = here.here;
            }),
            tt,
          ),
        ))

    pub arm_fine : (params : List Home) (op : Option RedOp) (lower : Bool) (times : List CallInstance) (c : Context)
        (env : Env) (at : ℕ) (inside : Bool) (bs : List ℕ) (arm : CallInstance)
        → All (IsBuffer s (below lower at)) (buffers_from params 0 arm.args) → level arm.form ≡ below lower at
        → (lower ≡ true → at < last) → IsValue Long (pos 1)
        → is_at env.level (node_of env) → Way s env last at inside (not lower) c.child
        → Fine s (arm_term bodies homes made params op lower c times arm) env bs
    arm_fine params op lower times c env at inside bs arm there deep low one here way =
        fine_within s Nothing env bs (call_child lower c) (buffers_from params 0 arm.args) _ goes.1
        (subst (λ (l : ℕ). All (IsBuffer s l) (buffers_from params 0 arm.args)) (sym goes.0.level_is) there)
        (fine_seq s Nothing in_env (buffers_from params 0 arm.args ++ bs) _ (
          fine_par s Nothing in_env (buffers_from params 0 arm.args ++ bs) _
              (fine_all s Nothing in_env (buffers_from params 0 arm.args ++ bs) IsRowed _
              (bring_fine s in_env (buffers_from params 0 arm.args ++ bs)) ms rowed),
          (
            callee_fine arm.form c ms in_env (buffers_from params 0 arm.args ++ bs)
                (record { level_is = goes.0.level_is ∙ sym deep; here = goes.0.here }),
            (
              fine_par s Nothing in_env (buffers_from params 0 arm.args ++ bs) _
                  (fine_all s Nothing in_env (buffers_from params 0 arm.args ++ bs) IsRowed _
                  (back_fine s in_env (buffers_from params 0 arm.args ++ bs)) ms rowed),
              tt,
            ),
          ),
        ))
      where
        in_env : Env
        in_env = inside_of s env (call_child lower c)

        goes : Inside s most bounds last is_at machine in_env (below lower at) × IsChild s env (call_child lower c)
        goes = goes_in s most bounds last is_at machine env at lower inside here low way

        ms : List Move
        ms = moves_from op (bodies arm.form).arrays params c times 0 arm.args

        rowed : All IsRowed ms
        rowed = moves_rowed op (bodies arm.form).arrays params c times 0 arm.args (tabled.rows arm.form) one

    module _ (at : ℕ) where
      rows_fine : (op : Option RedOp) (lower : Bool) (times : List CallInstance) (m k : ℕ) (c : Context) (env : Env)
          (inside : Bool) (bs : List ℕ)
          → AreLevel level at (calls_in_rows lower times) → m ≤ length times → length times ≤ most.uses
          → (lower ≡ true → at < last) → k < m → Fits s last is_at env at c inside (not lower) k
          → Fine s (rows_term bodies homes made op lower c times) env bs
      rows_fine op lower times m k c env inside bs deep long short low below_m h =
          fine_case s Nothing env bs (n.Pick (numbers (picks (arms_of times) times)) c.ordinal)
          (pick_of (arms_of times) (slice_get times k)) _
          (table_is s env (picks (arms_of times) times) c.ordinal k (h.ordinal.value env.level env.nodes)
          ∙ ap pos (picks_are (arms_of times) times k))
          (pick_has s env (picks (arms_of times) times) c.ordinal k (h.ordinal.value env.level env.nodes)
          (h.has.has env.level env.nodes)
          (let e = picks_len (arms_of times) times in omega (arith, e, below_m, long))
          (subst (λ (z : ℕ). IsValue Long (pos z)) (sym (picks_are (arms_of times) times k))
          (number (slice_get times k) refl)))
          (go (slice_get times k) refl)
        where
          number : (o : Option CallInstance) → slice_get times k ≡ o → IsValue Long (pos (pick_of (arms_of times) o))
          number None e = zero_fits
          number (Some r) e = let has = arm_of_row times k r e in let l
              = arm_below (arms_of times) r has.arm has.there in let g = arms_len [] times in
              uses_fit s most bounds last is_at machine (suc (arm_number (arms_of times) r))
              (omega (arith, l, g, short))

          go : (o : Option CallInstance) → slice_get times k ≡ o
              → this_arm (Meets s Nothing) (term.Skip ∷ map (arm_of_form bodies homes made op lower c times)
              (arms_of times)) (pos (pick_of (arms_of times) o)) env bs
          go None e = fine_skip s Nothing env bs
          go (Some r) e =
              let has = arm_of_row times k r e in
              let to = row_level level at lower times k r deep e in
              let form = has.form in
              let deep_arm : level has.arm.form ≡ below lower at = ap level (sym form) ∙ to in
              fine_arm s Nothing env bs (arm_of_form bodies homes made op lower c times) (arms_of times)
              (arm_number (arms_of times) r) has.arm has.there
              (arm_fine (homes has.arm.form).params op lower times c env at inside bs has.arm
              (subst (λ (l : ℕ). All (IsBuffer s l) (buffers_from (homes has.arm.form).params 0 has.arm.args)) deep_arm
              (call_there s (level has.arm.form) (homes has.arm.form).params (leveled.params has.arm.form)
              (tabled.params has.arm.form) 0 has.arm.args))
              deep_arm low one_fits h.here h.way)

      module _ (rule : SpreadRule) where
        abbrev built : Statement → TermPart
        built = statement_term bodies homes made rule

        abbrev Asked : Statement → AskedOfStatement
        Asked = Tabled most last at

        record Agrees (x : Statement) : Type 0 where
          low : (m : ℕ) → Asked x m → (built x).lower ≡ true → at < last
          is : (op : Option RedOp) (m k : ℕ) (c : Context) (env : Env) (inside : Bool) (bs : List ℕ)
              → AreLevel level at (calls_in x) → LoopsStand homes (call_loops x).loops → Asked x m → k < m → m
              ≤ most.uses → Fits s last is_at env at c inside (built x).same k
              → Fine s ((built x).build op inside c) env bs

        abbrev Known : Type 0
        Known = (x : Statement) × Agrees x

        abbrev begun : List Known → List Statement
        begun = map (λ q. q.0)

        abbrev all_built_of : List Known → List TermPart
        all_built_of xs = map built (begun xs)

        lows : (xs : List Known) (m : ℕ) → all_parts Asked (begun xs) m → any_lower (all_built_of xs) ≡ true → at < last
        lows [] m h e = cc
        lows (x ∷ xs) m h e = elim (either (built x.0).lower (any_lower (all_built_of xs)) e) [
          | inl g ↦ x.1.low m h.0 g
          | inr g ↦ lows xs m h.1 g
        ]

        all_fine : (xs : List Known) (op : Option RedOp) (m k : ℕ) (c : Context) (env : Env) (inside : Bool)
            (bs : List ℕ)
            → AreLevel level at (all_calls (map calls_in (begun xs)))
            → LoopsStand homes (all_loops (map call_loops (begun xs))) → all_parts Asked (begun xs) m → k < m → m
            ≤ most.uses → Fits s last is_at env at c inside (any_same (all_built_of xs)) k
            → each_part (Meets s Nothing) (all_terms (all_built_of xs) op inside c) env bs
        all_fine [] op m k c env inside bs deep stand asked l short h = tt
        all_fine (x ∷ xs) op m k c env inside bs deep stand asked l short h =
            let more_same = any_same (all_built_of xs) in
            let more = all_loops (map call_loops (begun xs)) in (
              x.1.is op m k c env inside bs
                  (level_left level at (calls_in x.0) (all_calls (map calls_in (begun xs))) deep)
                  (loops_left homes (call_loops x.0).loops more stand) asked.0 l short
                  (narrow s last is_at env at c inside _ (built x.0).same k (or_left (built x.0).same more_same) h),
              all_fine xs op m k c env inside bs
                  (level_right level at (calls_in x.0) (all_calls (map calls_in (begun xs))) deep)
                  (loops_right homes (call_loops x.0).loops more stand) asked.1 l short
                  (narrow s last is_at env at c inside _ more_same k (or_rest (built x.0).same more_same) h),
            )

        -- a map in the context in which it stands
        map_fine : (m : LoopKind) (counts starts : List ℕ) (xs : List Known) (n k : ℕ) (c : Context) (env : Env)
            (inside : Bool) (bs : List ℕ)
            → AreLevel level at (all_calls (map calls_in (begun xs)))
            → LoopsStand homes (all_loops (map call_loops (begun xs)))
            → HaveCounts counts n × ((k t : ℕ) → k < n → t < get_or counts k 0 → k < length starts) × (inner : ℕ)
            × (inner ≤ most.uses)
            × ((k t : ℕ) → k < n → t < get_or counts k 0 → get_or starts k 0 + t < inner)
            × all_parts Asked (begun xs) inner
            → k < n → Fits s last is_at env at c inside (any_same (all_built_of xs)) k
            → Fine s (loop_term rule m counts starts (all_built_of xs) inside c) env bs
        map_fine m counts starts xs n k c env inside bs deep stand asked l h = go chosen refl
          where
            lower : Bool
            lower = any_lower (all_built_of xs)

            same : Bool
            same = any_same (all_built_of xs)

            chosen : Option SpreadRule
            chosen = spread_of rule m inside lower same

            count : Num
            count = count_num counts c

            times : ℕ
            times = get_or counts k 0

            counted : value_of s count env ≡ pos times
            counted = numbers_of.count_is s env counts c k (h.ordinal.value env.level env.nodes)

            few : times ≤ most.uses
            few = few_turns counts starts n k asked.2 asked.3 asked.4 l

            has : HasValue s count env
            has = counts_has s env counts c n k (h.ordinal.value env.level env.nodes) (h.has.has env.level env.nodes)
                asked.0 l
                (uses_fit s most bounds last is_at machine times few)

            body_fine : (spread : Option SpreadRule) → MayBe spread inside → (t : ℕ) → t < times
                → Fine s (term.Seq (all_terms (all_built_of xs) (op_of m) (inside || is_some spread)
                (in_map spread count starts c))) (at_turn env t) bs
            body_fine spread may t turned =
                fine_seq s Nothing (at_turn env t) bs _
                (all_fine xs (op_of m) asked.2 (get_or starts k 0 + t) (in_map spread count starts c) (at_turn env t)
                (inside || is_some spread) bs deep stand asked.5 (asked.4 k t l turned) asked.3
                (in_turn s most bounds last is_at machine env at c inside same k spread may count times counted few has
                starts asked.2 t turned asked.3 (asked.4 k t l turned) (asked.1 k t l turned) h))

            node_some : (r : SpreadRule) → MayBe (Some r) inside → lower ≡ true → {o : Option Num}
                → Way s env last at inside same o → 1 ≤ s.children (node_of env)
            node_some r may e (to_child x is ok)
                = machine.some env.level (node_of env) h.here
                (let g = lows xs asked.2 asked.5 e in omega (arith, g, is))
            node_some r may e (entered is i alone) = let z = may.free r refl in let f : ⊥ = cc in absurd f

            go : (spread : Option SpreadRule) → chosen ≡ spread
                → Fine s (map_term spread count
                (term.Seq (all_terms (all_built_of xs) (op_of m) (inside || is_some spread)
                (in_map spread count starts c)))) env bs
            go None e = fine_loop s Nothing env bs count times _ counted has
                (body_fine None (subst (λ o. MayBe o inside) e (may_be rule m inside lower same)))
            go (Some r) e = let may = subst (λ o. MayBe o inside) e (may_be rule m inside lower same) in
                fine_spread s Nothing env bs count times r _ counted has
                (node_some r may (spread_lower rule r m inside lower same e) h.way) (body_fine (Some r) may)

        -- a part of a loop whose transfers overlap, whatever is seen there
        abbrev FinePart : (rows : List CallInstance) → AreLevel level at (calls_in_rows true rows) → at < last
            → (counts starts : List ℕ) (k : ℕ) → get_or counts k 0 ≤ most.uses → (ℕ → Context → Term) → Type 0
        FinePart rows row_deep low counts starts k few = PartOf Nothing at made rows row_deep low counts starts k few
            (λ turns d. Unit {0}) (λ turns t d z. tt)

        -- a loop whose transfers overlap, in the context in which it stands
        pipe_fine : (m : LoopKind) (spread : Option SpreadRule) (counts starts : List ℕ) (xs : List Known) (p : Pipe)
            → IsPipedCall level at bodies homes made rule m spread counts starts (begun xs) p → (n k : ℕ) (c : Context)
            (env : Env) (inside : Bool) (bs : List ℕ) → MayBe spread inside
            → AreLevel level at (all_calls (map calls_in (begun xs))) → LoopsStand homes
            (loop_round m counts starts (map call_loops (begun xs)))
            → HaveCounts counts n × ((k t : ℕ) → k < n → t < get_or counts k 0 → k < length starts) × (inner : ℕ)
            × (inner ≤ most.uses)
            × ((k t : ℕ) → k < n → t < get_or counts k 0 → get_or starts k 0 + t < inner)
            × all_parts Asked (begun xs) inner
            → k < n → Fits s last is_at env at c inside (any_same (all_built_of xs)) k → (loop : Term)
            → Fine s (pipe_term bodies homes made (Some p) counts starts c loop) env bs
        pipe_fine m spread counts starts xs p is n k c env inside bs may deep stand asked l h loop =
            lanes_meet Nothing at made p.rows row_deep low counts starts k few (λ turns d. Unit {0})
            (λ turns t d z. tt) _ _ _ comes works leaves p.spread c env inside bs
            (record { free = λ r z. may.free r (is.spread_is r z) }) fits tt
            (count_counted s env.turns counts c n k (record { number = h.ordinal; has = h.has }) asked.0 l
            (uses_fit s most bounds last is_at machine (get_or counts k 0) few))
          where
            piped : IsPiped (record { kind = m; rows = p.rows; counts = counts; starts = starts })
            piped = is.stands stand

            row_deep : AreLevel level at (calls_in_rows true p.rows)
            row_deep = is.deep deep

            low : at < last
            low = lows xs asked.2 asked.5 is.lower

            fits : Fits s last is_at env at c inside false k
            fits = subst (λ (v : Bool). Fits s last is_at env at c inside v k) is.same h

            few : get_or counts k 0 ≤ most.uses
            few = few_turns counts starts n k asked.2 asked.3 asked.4 l

            form : ℕ
            form = row_form (slice_get p.rows 0)

            rowed : (set : ℕ) (d : Context) → All IsRowed (pipe_moves bodies homes made p.rows set d)
            rowed set d = moves_rowed None (bodies form).arrays (map (home_in_set set) (homes form).params) d p.rows 0
                (row_args (slice_get p.rows 0)) (tabled.rows form) one_fits

            comes : FinePart p.rows row_deep low counts starts k few (λ set d. come_term (pipe_moves bodies homes made p.rows set d))
            comes set t lt e bs here d sees x number = fine_par s Nothing e bs _
                (fine_all s Nothing e bs IsRowed come_in_term (come_fine s e bs)
                (pipe_moves bodies homes made p.rows set (at_iteration starts x d)) (rowed set (at_iteration starts x d)))

            leaves : FinePart p.rows row_deep low counts starts k few (λ set d. leave_term (pipe_moves bodies homes made p.rows set d))
            leaves set t lt e bs here d sees x number = fine_par s Nothing e bs _
                (fine_all s Nothing e bs IsRowed back_term (back_fine s e bs)
                (pipe_moves bodies homes made p.rows set (at_iteration starts x d)) (rowed set (at_iteration starts x d)))

            works : FinePart p.rows row_deep low counts starts k few (pipe_work bodies homes made p.rows)
            works set t lt e bs here d sees x number =
                let row = piped.there k t lt in
                let to = form_level at p.rows (get_or starts k 0 + t) row.0 row.1 row_deep in
                fine_seq s Nothing e bs _ (
                  fine_par s Nothing e bs _
                      (fine_all s Nothing e bs IsRowed fill_held_term (fill_fine s e bs)
                      (pipe_moves bodies homes made p.rows set (at_iteration starts x d)) (rowed set (at_iteration starts x d))),
                  (
                    callee_fine form (at_iteration starts x d)
                        (pipe_moves bodies homes made p.rows set (at_iteration starts x d)) e bs
                        (record { level_is = here.level_is ∙ sym to; here = here.here }),
                    tt,
                  ),
                )

        -- whether its transfers overlap or don't
        run_fine : (m : LoopKind) (counts starts : List ℕ) (xs : List Known) (n k : ℕ) (c : Context) (env : Env)
            (inside : Bool) (bs : List ℕ)
            → AreLevel level at (all_calls (map calls_in (begun xs))) → LoopsStand homes
            (loop_round m counts starts (map call_loops (begun xs)))
            → LoopsStand homes (all_loops (map call_loops (begun xs)))
            → HaveCounts counts n × ((k t : ℕ) → k < n → t < get_or counts k 0 → k < length starts) × (inner : ℕ)
            × (inner ≤ most.uses)
            × ((k t : ℕ) → k < n → t < get_or counts k 0 → get_or starts k 0 + t < inner)
            × all_parts Asked (begun xs) inner
            → k < n → Fits s last is_at env at c inside (any_same (all_built_of xs)) k
            → Fine s (run_term bodies homes made rule m counts starts (all_built_of xs) inside c) env bs
        run_fine m counts starts xs n k c env inside bs deep stand more asked l h = go (pipe_of homes m spread hs) refl
          where
            spread : Option SpreadRule
            spread = spread_of rule m inside (any_lower (all_built_of xs)) (any_same (all_built_of xs))

            hs : List (Option (Chain Num))
            hs = chains (all_built_of xs)

            loop : Term
            loop = loop_term rule m counts starts (all_built_of xs) inside c

            go : (o : Option Pipe) → pipe_of homes m spread hs ≡ o
                → Fine s (pipe_term bodies homes made o counts starts c loop) env bs
            go None e = map_fine m counts starts xs n k c env inside bs deep more asked l h
            go (Some p) e = pipe_fine m spread counts starts xs p
                (piped_call level at bodies homes made rule m spread counts starts (begun xs) p e) n k c env inside bs
                (may_be rule m inside (any_lower (all_built_of xs)) (any_same (all_built_of xs))) deep stand asked l h
                loop

        agrees_step : (y : Statement-F Known) → Agrees (roll-Statement (map-Statement Known Statement (λ q. q.0) y))
        agrees_step (Statement-F.Call lower times) = subst Agrees (sym (b.rolls-Call lower times)) (record {
          low = λ m h e. (subst (λ (f : AskedOfStatement). f m) (tabled_call most last at lower times) h).2
              (sym (ap (λ (p : TermPart). p.lower) (built_call bodies homes made rule lower times)) ∙ e);
          is = λ op m k c env inside bs deep stand h l short g.
              let asked = subst (λ (f : AskedOfStatement). f m) (tabled_call most last at lower times) h in
              subst (λ (p : TermPart). Fine s (p.build op inside c) env bs)
              (sym (built_call bodies homes made rule lower times))
              (rows_fine op lower times m k c env inside bs (subst (AreLevel level at) (calls_call lower times) deep)
              asked.0 asked.1 asked.2 l
              (subst (λ (z : Bool). Fits s last is_at env at c inside z k)
              (ap (λ (p : TermPart). p.same) (built_call bodies homes made rule lower times)) g));
        })
        agrees_step (Statement-F.Map place m counts starts xs)
            = subst Agrees (sym (b.rolls-Map place m counts starts (begun xs))) (record {
              low = λ n h e. let asked = subst (λ (f : AskedOfStatement). f n)
                  (tabled_map most last at place m counts starts (begun xs)) h in
                  lows xs asked.2 asked.5 (sym
                  (ap (λ (p : TermPart). p.lower) (built_map bodies homes made rule place m counts starts (begun xs)))
                  ∙ e);
              is = λ op n k c env inside bs deep stand h l short g.
                  let loops = map_loops homes place m counts starts (begun xs) stand in
                  let asked = subst (λ (f : AskedOfStatement). f n)
                  (tabled_map most last at place m counts starts (begun xs)) h in
                  let deeper = subst (AreLevel level at) (calls_map place m counts starts (begun xs)) deep in
                  let fits = subst (λ (z : Bool). Fits s last is_at env at c inside z k)
                  (ap (λ (p : TermPart). p.same) (built_map bodies homes made rule place m counts starts (begun xs))) g in
                  subst (λ (p : TermPart). Fine s (p.build op inside c) env bs)
                  (sym (built_map bodies homes made rule place m counts starts (begun xs)))
                  (hold_meets Nothing at (chain_of first_num m starts (chains (all_built_of xs)))
                  (any_lower (all_built_of xs)) (any_same (all_built_of xs))
                  (calls_in (b.Map place m counts starts (begun xs)))
                  (map_alone level at bodies homes made rule place m counts starts (begun xs)) deep
                  (lows xs asked.2 asked.5) k c env inside bs fits
                  (held_fine env.turns c (chain_of first_num m starts (chains (all_built_of xs))))
                  (run_term bodies homes made rule m counts starts (all_built_of xs))
                  (run_fine m counts starts xs n k c env inside bs deeper loops.0 loops.1 asked l fits)
                  (λ in_env new t f. run_fine m counts starts xs n k (at_child_already c) in_env true new deeper
                  loops.0 loops.1 asked l f));
            })

        agrees : (x : Statement) → Agrees x
        agrees = ind-Statement Agrees (λ x y is. subst (λ z. Agrees (roll-Statement z)) is (agrees_step y))

        abbrev known : List Statement → List Known
        known [] = []
        known (x ∷ xs) = (x, agrees x) ∷ known xs

        known_are : (xs : List Statement) → begun (known xs) ≡ xs
        known_are [] = refl
        known_are (x ∷ xs) = ap (λ ys. x ∷ ys) (known_are xs)

        calls_joined : (xs : List Statement) → calls_in_all xs ≡ all_calls (map calls_in xs)
        calls_joined [] = refl
        calls_joined (x ∷ xs) = ap (λ l. calls_in x ++ l) (calls_joined xs)

        list_fine : 1 ≤ most.uses → (list : List Statement) (c : Context) (env : Env) (bs : List ℕ)
            → AreLevel level at (calls_in_all list) → LoopsStand homes (all_loops (map call_loops list))
            → all_parts Asked list 1 → Fits s last is_at env at c false true 0
            → Fine s (term.Seq (all_terms (map built list) None false c)) env bs
        list_fine used list c env bs deep stand asked h =
            fine_seq s Nothing env bs _
            (subst (λ (xs : List Statement). AreLevel level at (calls_in_all xs)
            → LoopsStand homes (all_loops (map call_loops xs)) → all_parts Asked xs 1
            → each_part (Meets s Nothing) (all_terms (map built xs) None false c) env bs) (known_are list)
            (λ d z a. all_fine (known list) None 1 0 c env false bs
            (subst (AreLevel level at) (calls_joined (begun (known list))) d) z a (omega arith) used
            (narrow s last is_at env at c false true _ 0 (λ e. absurd (cc)) h)) deep stand asked)

    body_fine : 1 ≤ most.uses → (at : ℕ) (h : Homes) (x : Body) (c : Context) (env : Env) (bs : List ℕ)
        → AreLevel level at (calls_of x) → LoopsStand homes (call_loops_of x) → TabledBody most last at x
        → Fits s last is_at env at c false true 0 → Fine s (body_term bodies homes made h x c) env bs
    body_fine used at h (body.Inner list) c env bs deep stand asked g
        = list_fine at h.rule used list c env bs deep stand asked g
    body_fine used at h (body.Leaf code) c env bs deep stand asked g
        = fine_act s Nothing env bs (action.Leaf h.code c.views c.path) tt

  pub forms_fine : PipesStand bodies homes → (d : ℕ) → AreFine (term_of bodies homes d)
  forms_fine pipes zero f c env bs h = fine_skip s Nothing env bs
  forms_fine pipes (suc d) f c env bs h
      = body_fine (term_of bodies homes d) (forms_fine pipes d) bounds.once (level f) (homes f) (bodies f).body c env bs
      (leveled.calls f) (pipes.each f) (tabled.body f) h

  pub entry_fine : PipesStand bodies homes → level 0 ≡ 0 → is_at 0 0 → (d : ℕ) (args : List Argument) (bs : List ℕ)
      → Fine s (entry_term bodies homes d args) at_root bs
  entry_fine pipes first root d args bs =
      arm_fine (term_of bodies homes d) (forms_fine pipes d) [] None false (entry_row args ∷ [])
      (entry_context (bodies 0) (homes 0)) at_root 0 false bs (entry_row args)
      (call_there s 0 [] tt tt 0 args) first (λ e. absurd (cc)) one_fits root
      (begins s most bounds last is_at machine at_root 0 (record { level_is = refl; here = root }))

pub term_is_fine : TermIsFine
term_is_fine s most bounds last nodes level_of machine bodies homes level leveled tabled pipes d k c env buffers h
    = forms_fine s most bounds last (NodeAt nodes level_of) machine bodies homes level leveled tabled pipes d k c env
    buffers h

pub entry_is_fine : EntryIsFine
entry_is_fine s most bounds last nodes level_of machine bodies homes level leveled tabled pipes first root d args buffers
    = entry_fine s most bounds last (NodeAt nodes level_of) machine bodies homes level leveled tabled pipes first root d
    args buffers

-- a million iterations and 64 children
pub within_limits : AreBounds (record { uses = 1048576; children = 64 })
unfolding least greatest
within_limits = record {
  once = omega arith;
  some = omega arith;
  fits = record
      { low = omega (arith, ints); high = omega (arith, ints) };
}
