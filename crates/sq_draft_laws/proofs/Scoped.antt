-- The induction over statements, and over forms: what actions name is in scope, by levels and homes alone.
use Rattle.std.proofs.Common.{◌≡◌, ℕ, zero, suc, ◌+◌, ◌<◌, ◌≤◌, Bool, true, false, ◌||◌, is_some, List, [], ◌∷◌, ◌++◌}
use Rattle.std.proofs.Common.{map, length, get_or, slice_get, take, drop, Option, Some, None, refl, sym, ap, subst, ◌∙◌}
use Rattle.std.proofs.Common.{arith, length-append, Contains, ◌⊎◌, inl, inr, ⊎_elim, if◌then◌else◌}
use Rattle.sq_num.specs.declared.RedOp.{RedOp}
use Rattle.sq_text.specs.declared.place.Place.{Place}
use Rattle.sq_text.specs.declared.spread.SpreadRule.{SpreadRule}
use Rattle.sq_text.specs.declared.spread.SpreadRule.TheVariants.{Cyclic, Blocked}
use Rattle.sq_leaf.specs.declared.shape.Shape.{Shape}
use Rattle.sq_ir.specs.Written.{Setting}
use Rattle.sq_ir.specs.Plans.{AskedOfActions}
use Rattle.sq_ir.specs.declared.num.Num.{Num}
use Rattle.sq_ir.specs.declared.num.Num.TheVariants as n
use Rattle.sq_ir.specs.declared.term.Action.TheVariants as action
use Rattle.sq_ir.specs.declared.term.Term.{Term}
use Rattle.sq_ir.specs.declared.term.Term.TheVariants as term
use Rattle.sq_blocks.specs.declared.argument.Argument.{Argument}
use Rattle.sq_spec.specs.Work.declared.reduction.Reduction.{Reduction}
use Rattle.sq_spec.specs.declared.statement.LoopKind.{LoopKind}
use Rattle.sq_spec.specs.declared.statement.CallInstance.{CallInstance}
use Rattle.sq_spec.specs.declared.statement.Statement.{Statement, roll-Statement}
use Rattle.sq_spec.specs.declared.statement.Statement.TheVariants as b
use Rattle.sq_spec.specs.declared.statement.Statement.TheOpen.{Statement-F}
use Rattle.sq_spec.specs.declared.statement.Statement.TheFolds.{ind-Statement, map-Statement, fold-roll-Statement}
use Rattle.sq_spec.specs.declared.body.Body.{Body}
use Rattle.sq_spec.specs.declared.body.Body.TheVariants as body
use Rattle.sq_spec.specs.declared.body.FormBody.{FormBody}
use Rattle.sq_homes.specs.SpecLaws.TableRows.{Table, red_of, all_tables, tables_step, tables_of, tables_in}
use Rattle.sq_placed.specs.declared.home.Home.{Home}
use Rattle.sq_placed.specs.declared.home.Home.TheVariants.{InPlace, Own, Held, Twin}
use Rattle.sq_placed.specs.declared.home.Homes.{Homes}
use Rattle.sq_placed.specs.Placed.{PlacedLocal}
use Rattle.sq_placed.specs.Trees.{local_buffers, home_in_set}
use Rattle.sq_placed.specs.Tables.{locals_of, op_of, spread_of, Chain, chain_of, leaving_args, leaving_row, call_chain}
use Rattle.sq_placed.specs.Tables.{one_more, row_form, overlapped, lanes_of, Pipe, pipe_of}
use Rattle.sq_placed.proofs.Pipes.{taken}
use Rattle.sq_term.specs.declared.context.Context.{Context}
use Rattle.sq_term.specs.declared.context.Move.{Move}
use Rattle.sq_term.specs.Terms.{numbers, lift_child, lift_view, in_map, local_view, moves_from, buffers_from}
use Rattle.sq_term.specs.Terms.{bring_term, back_term, in_callee, call_child, arms_of, picks, TermPart}
use Rattle.sq_term.specs.Terms.{any_lower, any_same, chains, all_terms, map_term, arm_term, arm_of_form, rows_term}
use Rattle.sq_term.specs.Terms.{count_num, loop_term, statement_term, first_num, hold_term, body_term, term_of}
use Rattle.sq_term.specs.Terms.{buffer_or, entry_views, entry_context, entry_row, entry_term, held_moves}
use Rattle.sq_term.specs.Terms.{leaving_buffers, hold_in_term, hold_out_term, at_child_already, map_hold, term_step}
use Rattle.sq_term.specs.Terms.{lift_context, callee_term, at_iteration, come_in_term, fill_held_term, come_term}
use Rattle.sq_term.specs.Terms.{leave_term, pipe_moves, pipe_work, twin_sets, pipe_term, run_term}
use Rattle.sq_term.specs.Stands.{IsOf, AreOf, below, calls_in_rows, all_calls, calls_in, calls_in_all, calls_of}
use Rattle.sq_term.specs.Stands.{AreLevel, LocalsOf, AreLeveled, Each, none, more}
use Rattle.sq_term.proofs.Opened.{built_call, built_map, calls_call, calls_map}
use Rattle.sq_term.proofs.Chained.{chains_built}
use Rattle.sq_term.proofs.Same.{level_left, level_right}
use Rattle.sq_program_laws.specs.TermLaws.Roomy.{AreWhole, joined_rows, reached_step, reached_in, reached_of, RowFits, RowsFit}
use Rattle.sq_program_laws.specs.TermLaws.Roomy.{AreRoomy}
use Rattle.sq_program_laws.specs.PlanLaws.Seated.{IsNear}
use Rattle.sq_draft_laws.specs.Scope.{IsSeen, HomesAreNear}
use Rattle.sq_draft_laws.proofs.Back.{with_both}
use Rattle.sq_draft_laws.proofs.Every.{Every, every_append, every_left, every_right, every_by, every_all, every_map}
use Rattle.sq_draft_laws.proofs.Every.{every_less, arms_every, Among, among_left, among_right, first_there, later_there}
use Rattle.sq_draft_laws.proofs.Rising.{level_in, Rises, AllRise, rise_skip, rise_act, rise_seq, rise_par, rise_loop}
use Rattle.sq_draft_laws.proofs.Rising.{rise_spread, rise_case, rise_within}
use Rattle.sq_draft_laws.proofs.Moves.{Leveled, Settled, IsHere, IsMoved, bring_up, back_up, moves_up, clears_up}
use Rattle.sq_draft_laws.proofs.Moves.{moves_here, moves_len, locals_here, locals_len, hold_in_up, hold_out_up}
use Rattle.sq_draft_laws.proofs.Moves.{IsSingle, come_in_up, fill_held_up}
use Rattle.sq_draft_laws.proofs.Sets.{plain_homes, set_single, set_near, set_level, set_held, set_there}
use Rattle.sq_draft_laws.proofs.Lanes.{lanes_up}
use Rattle.sq_spec.specs.declared.statement.LoopKind.TheVariants as loop_kind
use Rattle.sq_spec.specs.Spreads.{is_spread, lower_in, same_in}
use Rattle.sq_program_laws.specs.TermLaws.Orders.{EachOf, Round, all_rounds, map_rounds, round_step, rounds_in, rounds_of}
use Rattle.sq_program_laws.specs.TermLaws.Held.{IsHeldRow, AreHeldRows}
use Rattle.sq_program_laws.specs.TermLaws.Overlapping.{IsSuited, AskedInMaps, each_in_maps, any_by, can_overlap, RowOverlaps}
use Rattle.sq_program_laws.specs.TermLaws.Overlapping.{overlaps_step, Overlaps, BodyOverlaps}
use Rattle.sq_program_laws.proofs.TermLaws.Piped.{pipe_none}
use Rattle.sq_program_laws.proofs.TermLaws.Overlaps.{overlaps_call, overlaps_map, spread_as}
use Rattle.sq_draft_laws.proofs.Holding.{Leaves, left_leave, left_there, held_here}

-- ---- lists

map_len : {A B : Type 0} (f : A → B) (xs : List A) → length (map f xs) ≡ length xs
map_len f [] = refl
map_len f (x ∷ xs) = ap suc (map_len f xs)

each_len : {A B : Type 0} {R : A → B → Type 0} {xs : List A} {ys : List B} → Each R xs ys → length xs ≡ length ys
each_len none = refl
each_len (more r rest) = ap suc (each_len rest)

cut_len : (k : ℕ) (xs : List Shape) → length (take k xs) + length (drop k xs) ≡ length xs
cut_len zero xs = omega arith
cut_len (suc k) [] = refl
cut_len (suc k) (x ∷ xs) = let e = cut_len k xs in omega (arith, e)

whole_dropped : (k : ℕ) (xs : List Shape) → AreWhole xs → AreWhole (drop k xs)
whole_dropped zero xs h = h
whole_dropped (suc k) [] h = tt
whole_dropped (suc k) (x ∷ xs) h = whole_dropped k xs h.1

home_of : (s : Setting) (level : ℕ) (hs : List Home) → AreOf s level hs → (i : ℕ) → IsOf s level (get_or hs i InPlace)
home_of s level [] o i = tt
home_of s level (h ∷ hs) o zero = o.0
home_of s level (h ∷ hs) o (suc i) = home_of s level hs o.1 i

abbrev first_in : Statement → List Statement → Statement
first_in y [] = y
first_in y (x ∷ xs) = x

every_both : {A : Type 0} (P Q : A → Type 0) (xs : List A) → Every P xs → Every Q xs → Every (λ x. P x × Q x) xs
every_both P Q [] h g = tt
every_both P Q (x ∷ xs) h g = ((h.0, g.0), every_both P Q xs h.1 g.1)

-- ---- the equations of tables and of rows

pub tables_call : (lower : Bool) (times : List CallInstance) → tables_of (b.Call lower times)
    ≡ tables_step (Statement-F.Call lower times)
tables_call lower times = ap tables_of (sym (b.rolls-Call lower times))
    ∙ fold-roll-Statement (Option Reduction → List Table) tables_step (Statement-F.Call lower times)

pub tables_map : (p : Place) (m : LoopKind) (counts starts : List ℕ) (xs : List Statement)
    → tables_of (b.Map p m counts starts xs) ≡ tables_step (Statement-F.Map p m counts starts (map tables_of xs))
tables_map p m counts starts xs = ap tables_of (sym (b.rolls-Map p m counts starts xs))
    ∙ fold-roll-Statement (Option Reduction → List Table) tables_step (Statement-F.Map p m counts starts xs)

reached_call : (lower : Bool) (times : List CallInstance) → reached_in (b.Call lower times) ≡ times
reached_call lower times = ap reached_in (sym (b.rolls-Call lower times))
    ∙ fold-roll-Statement (List CallInstance) reached_step (Statement-F.Call lower times)

reached_map : (place : Place) (m : LoopKind) (counts starts : List ℕ) (parts : List Statement)
    → reached_in (b.Map place m counts starts parts) ≡ joined_rows (map reached_in parts)
reached_map place m counts starts parts = ap reached_in (sym (b.rolls-Map place m counts starts parts))
    ∙ fold-roll-Statement (List CallInstance) reached_step (Statement-F.Map place m counts starts parts)

pub rounds_call : (lower : Bool) (times : List CallInstance) → rounds_in (b.Call lower times)
    ≡ round_step (Statement-F.Call lower times)
rounds_call lower times = ap rounds_in (sym (b.rolls-Call lower times))
    ∙ fold-roll-Statement (ℕ → List Round) round_step (Statement-F.Call lower times)

pub rounds_map : (place : Place) (m : LoopKind) (counts starts : List ℕ) (parts : List Statement)
    → rounds_in (b.Map place m counts starts parts) ≡ map_rounds m (map rounds_in parts)
rounds_map place m counts starts parts = ap rounds_in (sym (b.rolls-Map place m counts starts parts))
    ∙ fold-roll-Statement (ℕ → List Round) round_step (Statement-F.Map place m counts starts parts)

-- ---- contexts

-- With this level in force lower calls go to the next one of the form's, and the views stand in buffers in scope of the
-- form's level; there are no more than count.
pub record IsIn (s : Setting) (level now count : ℕ) (bs : List ℕ) (c : Context) : Type 0 where
  pub next : level_in c.child now ≡ suc level
  pub views : Every (IsHere s level bs) c.views
  pub few : length c.views ≤ count

in_turn : (s : Setting) (level now count : ℕ) (bs : List ℕ) (c : Context) (spread : Option SpreadRule) (k : Num)
    (starts : List ℕ) → (is_some spread ≡ true → now ≡ level) → IsIn s level now count bs c
    → IsIn s level now count bs (in_map spread k starts c)
in_turn s level now count bs c spread k starts near h = go spread near
  where
    views : Every (IsHere s level bs) (map lift_view c.views)
    views = every_map (IsHere s level bs) (IsHere s level bs) lift_view
        (λ v g. record { scope = g.scope; level_is = g.level_is }) c.views h.views

    few : length (map lift_view c.views) ≤ count
    few = let e = map_len lift_view c.views in let l = h.few in omega (arith, e, l)

    lifted : (o : Option Num) → level_in (lift_child o) now ≡ level_in o now
    lifted None = refl
    lifted (Some x) = refl

    go : (o : Option SpreadRule) → (is_some o ≡ true → now ≡ level) → IsIn s level now count bs (in_map o k starts c)
    go None e = record { next = lifted c.child ∙ h.next; views = views; few = few }
    go (Some Cyclic) e = record { next = ap suc (e refl); views = views; few = few }
    go (Some Blocked) e = record { next = ap suc (e refl); views = views; few = few }

-- ---- rows

row_at : {A : Type 0} (P : A → Type 0) (xs : List A) → EachOf P xs → (j : ℕ) (x : A) → slice_get xs j ≡ Some x → P x
row_at P [] h j x e = absurd (cc e)
row_at P (y ∷ xs) h zero x e = let is : y ≡ x = cc e in subst P is h.0
row_at P (y ∷ xs) h (suc j) x e = row_at P xs h.1 j x e

-- where there is a row there is a first one
first_row : (xs : List CallInstance) (j : ℕ) (x : CallInstance) → slice_get xs j ≡ Some x
    → (y : CallInstance) × (slice_get xs 0 ≡ Some y)
first_row [] j x e = absurd (cc e)
first_row (y ∷ xs) j x e = (y, refl)

same_row : {x y : CallInstance} → Some x ≡ Some y → x ≡ y
same_row e = cc e

-- it is the next number, or one behind it
next_or_more : (m n : ℕ) → m < n → (n ≡ suc m) ⊎ (suc m < n)
next_or_more m zero l = absurd (omega (arith, l))
next_or_more zero (suc zero) l = inl refl
next_or_more zero (suc (suc n)) l = inr (omega arith)
next_or_more (suc m) (suc n) l = by (next_or_more m n (omega (arith, l)))
  where
    by : (n ≡ suc m) ⊎ (suc m < n) → (suc n ≡ suc (suc m)) ⊎ (suc (suc m) < suc n)
    by (inl e) = inl (ap suc e)
    by (inr g) = inr (omega (arith, g))

module _ (s : Setting) (bodies : ℕ → FormBody) (homes : ℕ → Homes) (level : ℕ → ℕ)
    (leveled : AreLeveled s bodies homes level) (roomy : AreRoomy s bodies homes) (near : HomesAreNear bodies homes)
    (P : AskedOfActions) where
  abbrev pub forms : Leveled
  forms = record { code = λ f. (homes f).code; level = level }

  abbrev Q : AskedOfActions
  Q = with_both P (Settled s bodies forms)

  abbrev pub Up : ℕ → List ℕ → Term → Type 0
  Up at bs x = Rises s P Q at bs x

  -- the arguments that leave loops round a row's call are in scope
  abbrev IsKept : List ℕ → CallInstance → Type 0
  IsKept bs r = (i b loops : ℕ) → i < length r.args → get_or (homes r.form).params i InPlace ≡ Held b loops
      → Contains bs b

  -- what is asked of a row of a call from a form of this level
  record RowIs (lower : Bool) (at : ℕ) (bs : List ℕ) (r : CallInstance) : Type 0 where
    level_is : level r.form ≡ below lower at
    close : (k : ℕ) → k < length r.args → IsNear lower (get_or (homes r.form).params k InPlace)
    kept : IsKept bs r
    few : length r.args ≤ length (take (length (homes r.form).params) (bodies r.form).arrays)

  -- its transfers don't overlap
  abbrev IsPlain : CallInstance → Type 0
  IsPlain r = (homes r.form).overlaps ≡ false

  plain_params : (r : CallInstance) → IsPlain r → (j : ℕ) → IsSingle (get_or (homes r.form).params j InPlace)
  plain_params r e = plain_homes (homes r.form).params
      (subst (λ (v : Bool). EachOf (IsSuited v) (homes r.form).params) e (near.overlaps.params r.form))

  abbrev NearRow : Bool → CallInstance → Type 0
  NearRow lower r = (k : ℕ) → k < length r.args → IsNear lower (get_or (homes r.form).params k InPlace)

  abbrev NearTable : Table → Type 0
  NearTable t = Every (NearRow t.lower) t.times

  rows_are : (lower : Bool) (at : ℕ) (bs : List ℕ) (outer : List Shape) (times : List CallInstance)
      → AreLevel level at (calls_in_rows lower times) → Every (NearRow lower) times → Every (IsKept bs) times
      → RowsFit bodies homes outer times → Every (RowIs lower at bs) times
  rows_are lower at bs outer [] deep close kept fits = tt
  rows_are lower at bs outer (r ∷ times) deep close kept fits = (
    record {
      level_is = deep.0;
      close = close.0;
      kept = kept.0;
      few = let e = each_len fits.0 in omega (arith, e);
    },
    rows_are lower at bs outer times deep.1 close.1 kept.1 fits.1,
  )

  row_fits : (outer : List Shape) (times : List CallInstance) → RowsFit bodies homes outer times → (j : ℕ)
      (r : CallInstance) → slice_get times j ≡ Some r
      → length r.args ≡ length (take (length (homes r.form).params) (bodies r.form).arrays)
  row_fits outer [] fits j r e = absurd (cc e)
  row_fits outer (q ∷ times) fits zero r e =
      subst (λ (x : CallInstance). length x.args ≡ length (take (length (homes x.form).params) (bodies x.form).arrays))
      (same_row e) (each_len fits.0)
  row_fits outer (q ∷ times) fits (suc j) r e = row_fits outer times fits.1 j r e

  rows_left : (outer : List Shape) (xs ys : List CallInstance) → RowsFit bodies homes outer (xs ++ ys)
      → RowsFit bodies homes outer xs
  rows_left outer [] ys h = tt
  rows_left outer (x ∷ xs) ys h = (h.0, rows_left outer xs ys h.1)

  held_left : (xs ys : List Round) → EachOf (AreHeldRows homes) (xs ++ ys) → EachOf (AreHeldRows homes) xs
  held_left [] ys h = tt
  held_left (x ∷ xs) ys h = (h.0, held_left xs ys h.1)

  held_right : (xs ys : List Round) → EachOf (AreHeldRows homes) (xs ++ ys) → EachOf (AreHeldRows homes) ys
  held_right [] ys h = h
  held_right (x ∷ xs) ys h = held_right xs ys h.1

  rows_right : (outer : List Shape) (xs ys : List CallInstance) → RowsFit bodies homes outer (xs ++ ys)
      → RowsFit bodies homes outer ys
  rows_right outer [] ys h = h
  rows_right outer (x ∷ xs) ys h = rows_right outer xs ys h.1

  -- so it is of the callees' terms
  abbrev AllUp : (ℕ → Context → Term) → Type 0
  AllUp made = (f : ℕ) (c : Context) (bs : List ℕ) → IsIn s (level f) (level f) (length (bodies f).arrays) bs c
      → Up (level f) bs (made f c)

  module _ (made : ℕ → Context → Term) (callees : AllUp made) where
    module _ (f to : ℕ) (deep : level f ≡ to) (outside : List ℕ) (c : Context) (ms : List Move)
        (moved : Every (IsMoved s to outside) ms)
        (few : length ms ≤ length (take (length (homes f).params) (bodies f).arrays)) where
      abbrev own_locals : List PlacedLocal
      own_locals = locals_of (bodies f) (homes f)

      abbrev local_shapes : List Shape
      local_shapes = drop (length (homes f).params) (bodies f).arrays

      abbrev in_scope : List ℕ
      in_scope = local_buffers own_locals ++ outside

      shapes_whole : AreWhole local_shapes
      shapes_whole = whole_dropped (length (homes f).params) (bodies f).arrays (roomy.whole f)

      locals_there : LocalsOf s to (homes f).locals
      locals_there = subst (λ (l : ℕ). LocalsOf s l (homes f).locals) deep (leveled.locals f)

      in_it : IsIn s to to (length (bodies f).arrays) in_scope (in_callee c ms own_locals)
      in_it = record {
        next = refl;
        views = every_append (IsHere s to in_scope) (map (λ m. m.own) ms) (map local_view own_locals)
            (every_map (IsHere s to in_scope) (IsMoved s to outside) (λ m. m.own)
            (λ m g. record {
              scope = among_right (local_buffers own_locals) outside m.own.slot.buffer g.own.scope;
              level_is = g.own.level_is;
            })
            ms moved)
            (locals_here s to in_scope local_shapes (homes f).locals locals_there
            (among_left (local_buffers own_locals) outside));
        few =
            let e = length-append (map (λ m. m.own) ms) (map local_view own_locals) in
            let g = map_len (λ (m : Move). m.own) ms in
            let i = locals_len local_shapes (homes f).locals in
            let j = cut_len (length (homes f).params) (bodies f).arrays in
            omega (arith, e, g, i, j, few);
      }

      -- the callee, with the fills of its locals
      callee_up : Up to outside (callee_term (locals_of (bodies f) (homes f))
          (made f (in_callee c ms (locals_of (bodies f) (homes f)))))
      callee_up = rise_within s P Q to outside None (local_buffers own_locals) _ (rise_seq s P Q to in_scope _ (
        rise_par s P Q to in_scope _
            (clears_up s bodies forms P to in_scope local_shapes (homes f).locals shapes_whole locals_there
            (among_left _ _)),
        (
          subst (λ (l : ℕ). Up l in_scope (made f (in_callee c ms own_locals))) deep
              (callees f (in_callee c ms own_locals) in_scope (subst (λ (l : ℕ). IsIn s l l
              (length (bodies f).arrays) in_scope (in_callee c ms own_locals)) (sym deep) in_it)),
          tt,
        ),
      ))

    arm_up : (params : List Home) (op : Option RedOp) (lower : Bool) (times : List CallInstance) (c : Context)
        (at now count : ℕ) (bs : List ℕ) (arm : CallInstance) → ((j : ℕ) → IsSingle (get_or params j InPlace))
        → ((j b n : ℕ) → j < length arm.args → get_or params j InPlace ≡ Held b n → Contains bs b)
        → ((j : ℕ) → IsOf s (below lower at) (get_or params j InPlace))
        → ((k : ℕ) → k < length arm.args → IsNear lower (get_or params k InPlace)) → level arm.form ≡ below lower at
        → length arm.args ≤ length (take (length (homes arm.form).params) (bodies arm.form).arrays)
        → level_in (call_child lower c) now ≡ below lower at → IsIn s at now count bs c
        → Up now bs (arm_term bodies homes made params op lower c times arm)
    arm_up params op lower times c at now count bs arm single kept of close deep few enter h =
        rise_within s P Q now bs (call_child lower c) new _
        (subst (λ (l : ℕ). Up l outside (term.Seq (term.Par (map bring_term ms) ∷ callee ∷ term.Par (map back_term ms)
        ∷ []))) (sym enter)
        (rise_seq s P Q to outside _ (
          rise_par s P Q to outside _
              (moves_up s bodies forms P to outside bring_term (bring_up s bodies forms P to outside) ms moved),
          (
            callee_up arm.form to deep outside c ms moved
                (let g = moves_len op (bodies arm.form).arrays params c times 0 arm.args in omega (arith, g, few)),
            (
              rise_par s P Q to outside _
                  (moves_up s bodies forms P to outside back_term (back_up s bodies forms P to outside) ms moved),
              tt,
            ),
          ),
        )))
      where
        to : ℕ
        to = below lower at

        new : List ℕ
        new = buffers_from params 0 arm.args

        outside : List ℕ
        outside = new ++ bs

        ms : List Move
        ms = moves_from op (bodies arm.form).arrays params c times 0 arm.args

        callee : Term
        callee = callee_term (locals_of (bodies arm.form) (homes arm.form))
            (made arm.form (in_callee c ms (locals_of (bodies arm.form) (homes arm.form))))

        moved : Every (IsMoved s to outside) ms
        moved = moves_here s lower at bs outside (among_right new bs) op (bodies arm.form).arrays params c times
            (roomy.whole arm.form) single of h.views 0 arm.args (λ j l. close j (omega (arith, l)))
            (λ j b n l e. among_right new bs b (kept j b n (omega (arith, l)) e)) (among_left new bs)

    module _ (at count : ℕ) (outer : List Shape) where
      arms_up : (op : Option RedOp) (lower : Bool) (times : List CallInstance) (c : Context) (now : ℕ) (bs : List ℕ)
          → level_in (call_child lower c) now ≡ below lower at → IsIn s at now count bs c → (qs : List CallInstance)
          → Every (λ r. RowIs lower at bs r × IsPlain r) qs
          → AllRise s P Q now bs (map (arm_of_form bodies homes made op lower c times) qs)
      arms_up op lower times c now bs enter h [] g = tt
      arms_up op lower times c now bs enter h (q ∷ qs) g = (
        arm_up (homes q.form).params op lower times c at now count bs q (plain_params q g.0.1) g.0.0.kept
            (subst (λ (l : ℕ). (j : ℕ) → IsOf s l (get_or (homes q.form).params j InPlace)) g.0.0.level_is
            (home_of s (level q.form) (homes q.form).params (leveled.params q.form)))
            g.0.0.close g.0.0.level_is g.0.0.few enter h,
        arms_up op lower times c now bs enter h qs g.1,
      )

      rows_up : (op : Option RedOp) (lower : Bool) (times : List CallInstance) (c : Context) (now : ℕ) (bs : List ℕ)
          → Every (RowIs lower at bs) times → Every IsPlain times → level_in (call_child lower c) now ≡ below lower at
          → IsIn s at now count bs c → Up now bs (rows_term bodies homes made op lower c times)
      rows_up op lower times c now bs rows plain enter h =
          rise_case s P Q now bs (n.Pick (numbers (picks (arms_of times) times)) c.ordinal) _ (
            rise_skip s P Q now bs,
            arms_up op lower times c now bs enter h (arms_of times)
                (arms_every (λ r. RowIs lower at bs r × IsPlain r) times
                (every_both (RowIs lower at bs) IsPlain times rows plain)),
          )

      -- No row's form overlaps its transfers where the first one's doesn't if the call is alone in a loop.
      plain_rows : (lower alone : Bool) (times : List CallInstance)
          → EachOf (RowOverlaps homes lower alone times) times
          → (lower ≡ true → alone ≡ true → (f : CallInstance) → slice_get times 0 ≡ Some f → IsPlain f)
          → Every IsPlain times
      plain_rows lower alone times over untaken = every_by IsPlain times (λ j r e.
          plain r j e (row_at (RowOverlaps homes lower alone times) times over j r e))
        where
          plain : (r : CallInstance) (j : ℕ) → slice_get times j ≡ Some r → RowOverlaps homes lower alone times r
              → IsPlain r
          plain r j e q = go (homes r.form).overlaps refl
            where
              go : (v : Bool) → (homes r.form).overlaps ≡ v → IsPlain r
              go false z = z
              go true z =
                  let f = first_row times j r e in
                  let is = q.one z 0 f.0 f.1 in
                  let none_is = untaken (q.lower_is z) (q.alone_is z) f.0 f.1 in
                  let both : true ≡ false = sym z ∙ (sym (ap (λ (x : ℕ). (homes x).overlaps) is) ∙ none_is) in
                  absurd (cc both)

      -- Where a statement is no loop of a call, no loop round it is left and the form's level is in force. Else so many
      -- more loops stand round it, and the arguments that leave these are in scope.
      abbrev Around : Option (Chain Num) → (loops now : ℕ) → List ℕ → Type 0
      Around None k now bs = now ≡ at
      Around (Some h) k now bs = (r : CallInstance) → slice_get h.instances 0 ≡ Some r → (i b n : ℕ) → i < length r.args
          → get_or (homes r.form).params i InPlace ≡ Held b n → h.loops < n → n ≤ h.loops + k → Contains bs b

      around_none : (h : Option (Chain Num)) (now : ℕ) (bs : List ℕ) → now ≡ at → Around h 0 now bs
      around_none None now bs e = e
      around_none (Some h) now bs e = λ r f i b n l home less most. absurd (omega (arith, less, most))

      -- Where a statement is no loop of a call, a spread map stands round it as was asked. Else the loop in which it is
      -- alone doesn't overlap its transfers.
      abbrev Inside : Option (Chain Num) → (inside asked alone : Bool) → Type 0
      Inside None inside asked alone = inside ≡ asked
      Inside (Some h) inside asked alone = alone ≡ true → overlapped homes (Some h) ≡ None

      inside_as : (h : Option (Chain Num)) (inside asked alone : Bool) → (h ≡ None → inside ≡ asked)
          → (alone ≡ true → overlapped homes h ≡ None) → Inside h inside asked alone
      inside_as None inside asked alone e f = e refl
      inside_as (Some h) inside asked alone e f = f

      first_plain : (times : List CallInstance) → overlapped {X = Num} homes (call_chain true times) ≡ None
          → (f : CallInstance) → slice_get times 0 ≡ Some f → IsPlain f
      first_plain times untaken f e = go (homes f.form).overlaps refl
        where
          go : (v : Bool) → (homes f.form).overlaps ≡ v → IsPlain f
          go false z = z
          go true z =
              let y : (homes (row_form (slice_get times 0))).overlaps ≡ true
              = ap (λ (o : Option CallInstance). (homes (row_form o)).overlaps) e ∙ z in
              let w : (if true then Some times else None) ≡ None
              = ap (λ (v : Bool). if v then Some times else None) (sym y) ∙ untaken in absurd (cc w)

      -- its call leads to the next level
      abbrev IsFirst : Option (Chain Num) → Type 0
      IsFirst None = Unit {0}
      IsFirst (Some h) = (r : CallInstance) → slice_get h.instances 0 ≡ Some r → level r.form ≡ suc at

      -- ---- calls

      none_kept : (times : List CallInstance) (bs : List ℕ)
          → EachOf (IsHeldRow homes (record { loops = 0; rows = times })) times → Every (IsKept bs) times
      none_kept times bs held = every_by (IsKept bs) times (λ j r e i b n l home.
          let q = row_at (IsHeldRow homes (record { loops = 0; rows = times })) times held j r e in
          let some = q.some i b n home in
          let most = q.round i b n home in absurd (omega (arith, some, most)))

      all_kept : (k now : ℕ) (times : List CallInstance) (bs : List ℕ) → RowsFit bodies homes outer times
          → EachOf (IsHeldRow homes (record { loops = k; rows = times })) times
          → Around (call_chain true times) k now bs → Every (IsKept bs) times
      all_kept k now times bs fits held around = every_by (IsKept bs) times (λ j r e i b n l home.
          let q = row_at (IsHeldRow homes (record { loops = k; rows = times })) times held j r e in
          let f = first_row times j r e in
          let same : f.0.form ≡ r.form = q.one i b n home 0 f.0 f.1 in
          let many = row_fits outer times fits j r e in
          let first = row_fits outer times fits 0 f.0 f.1 in
          let both = ap (λ (x : ℕ). length (take (length (homes x).params) (bodies x).arrays)) same in
          let most = q.round i b n home in
          around f.0 f.1 i b n (omega (arith, l, many, first, both))
          (ap (λ (x : ℕ). get_or (homes x).params i InPlace) same ∙ home) (q.some i b n home) (omega (arith, most)))

      first_is : (times : List CallInstance) → AreLevel level at (calls_in_rows true times) → (r : CallInstance)
          → slice_get times 0 ≡ Some r → level r.form ≡ suc at
      first_is [] deep r e = absurd (cc e)
      first_is (q ∷ times) deep r e = subst (λ (x : CallInstance). level x.form ≡ suc at) (same_row e) deep.0

      -- ---- a loop that arguments leave

      -- it: the loop in any context
      module _ (u : Chain Num) (deep : IsFirst (Some u)) (k now : ℕ) (bs : List ℕ) (c : Context)
          (h : IsIn s at now count bs c)
          (around : (r : CallInstance) → slice_get u.instances 0 ≡ Some r → (i b n : ℕ) → i < length r.args
          → get_or (homes r.form).params i InPlace ≡ Held b n → suc u.loops < n → n ≤ suc u.loops + k → Contains bs b)
          (number : Num) (inside : Bool) (loop : Bool → Context → Term)
          (it : (i : Bool) (d : Context) (force : ℕ) (cs : List ℕ) → IsIn s at force count cs d
          → Around (Some u) (suc k) force cs → Up force cs (loop i d)) where
        held_up : (r : CallInstance) → slice_get u.instances 0 ≡ Some r → (ps : List (ℕ × Argument))
            → Every (Leaves (suc u.loops) (homes r.form).params) ps
            → Around (Some u) (suc k) now (leaving_buffers (homes r.form).params ps ++ bs)
            → Up now bs (hold_term (bodies r.form).arrays (homes r.form).params u.instances number ps inside c loop)
        held_up r e [] leave there = it inside c now bs h there
        held_up r e (p ∷ ps) leave there =
            rise_within s P Q now bs c.child new _
            (subst (λ (l : ℕ). Up l cs (term.Seq (term.Par (map hold_in_term ms) ∷ loop true (at_child_already c)
            ∷ term.Par (map hold_out_term ms) ∷ []))) (sym h.next) (rise_seq s P Q (suc at) cs _ (
              rise_par s P Q (suc at) cs _
                  (moves_up s bodies forms P (suc at) cs hold_in_term (hold_in_up s bodies forms P (suc at) cs) ms
                  moved),
              (
                it true (at_child_already c) (suc at) cs inner there,
                (
                  rise_par s P Q (suc at) cs _
                      (moves_up s bodies forms P (suc at) cs hold_out_term (hold_out_up s bodies forms P (suc at) cs)
                      ms moved),
                  tt,
                ),
              ),
            )))
          where
            hs : List Home
            hs = (homes r.form).params

            new : List ℕ
            new = leaving_buffers hs (p ∷ ps)

            cs : List ℕ
            cs = new ++ bs

            ms : List Move
            ms = held_moves (bodies r.form).arrays hs c.views u.instances number (p ∷ ps)

            moved : Every (IsMoved s (suc at) cs) ms
            moved = held_here (suc u.loops) hs s at (suc at) bs cs (among_right new bs) (bodies r.form).arrays
                u.instances number c.views (roomy.whole r.form)
                (subst (λ (l : ℕ). (j : ℕ) → IsOf s l (get_or hs j InPlace)) (deep r e)
                (home_of s (level r.form) hs (leveled.params r.form)))
                h.views (p ∷ ps) leave (among_left new bs)

            inner : IsIn s at (suc at) count cs (at_child_already c)
            inner = record {
              next = refl;
              views = every_less (IsHere s at bs) (IsHere s at cs)
                  (λ v g. record { scope = among_right new bs v.slot.buffer g.scope; level_is = g.level_is }) c.views
                  h.views;
              few = h.few;
            }

        chain_up : (o : Option CallInstance) → slice_get u.instances 0 ≡ o
            → Up now bs (hold_term (bodies (row_form o)).arrays (homes (row_form o)).params u.instances number
            (leaving_row homes (suc u.loops) o) inside c loop)
        chain_up None e = it inside c now bs h (λ r f. absurd (let z = sym e ∙ f in cc z))
        chain_up (Some r) e =
            let hs = (homes r.form).params in
            let ps = leaving_args (suc u.loops) hs 0 r.args in
            let new = leaving_buffers hs ps in
            held_up r e ps (left_leave (suc u.loops) hs 0 r.args) (λ q f i b n l home less most.
            let is : q ≡ r = same_row (sym f ∙ e) in
            let at_r = subst (λ (x : CallInstance). (i < length x.args)
            × (get_or (homes x.form).params i InPlace ≡ Held b n)) is (l, home) in
            let here : 0 + i ≡ i = omega arith in
            ⊎_elim (λ same. among_left new bs b (left_there (suc u.loops) hs 0 r.args i b n at_r.0
            (ap (λ (x : ℕ). get_or hs x InPlace) here ∙ at_r.1) same))
            (λ later. among_right new bs b (around q f i b n l home later (omega (arith, most))))
            (next_or_more u.loops n less))

      module _ (rule : SpreadRule) where
        abbrev built : Statement → TermPart
        built = statement_term bodies homes made rule

        record GoodAs (x : TermPart) (tables : Option Reduction → List Table) (calls : List (Bool × ℕ))
            (rows : List CallInstance) (rounds : ℕ → List Round) (over : AskedInMaps) : Type 0 where
          up : (op : Option RedOp) (c : Context) (inside asked alone : Bool) (now : ℕ) (bs : List ℕ)
              (red : Option Reduction) (k : ℕ)
              → AreLevel level at calls → Every NearTable (tables red) → RowsFit bodies homes outer rows
              → EachOf (AreHeldRows homes) (rounds k) → over asked alone → Inside x.chain inside asked alone
              → IsIn s at now count bs c → Around x.chain k now bs → Up now bs (x.build op inside c)
          first : AreLevel level at calls → IsFirst x.chain

        abbrev Good : Statement → Type 0
        Good x = GoodAs (built x) (tables_of x) (calls_in x) (reached_in x) (rounds_in x) (Overlaps homes x)

        abbrev Known : Type 0
        Known = (x : Statement) × Good x

        abbrev begun : List Known → List Statement
        begun = map (λ q. q.0)

        abbrev all_built_of : List Known → List TermPart
        all_built_of xs = map built (begun xs)

        -- statements round which no loop stands that arguments leave
        all_up : (xs : List Known) (op : Option RedOp) (c : Context) (inside alone : Bool) (now : ℕ) (bs : List ℕ)
            (red : Option Reduction)
            → AreLevel level at (all_calls (map calls_in (begun xs)))
            → Every NearTable (all_tables (map tables_of (begun xs)) red)
            → RowsFit bodies homes outer (joined_rows (map reached_in (begun xs)))
            → EachOf (AreHeldRows homes) (all_rounds (map rounds_in (begun xs)))
            → each_in_maps (Overlaps homes) (begun xs) inside alone
            → (alone ≡ true → Every (λ (p : TermPart). overlapped homes p.chain ≡ None) (all_built_of xs))
            → IsIn s at now count bs c → now ≡ at
            → AllRise s P Q now bs (all_terms (all_built_of xs) op inside c)
        all_up [] op c inside alone now bs red deep close fits held over untaken h e = tt
        all_up (x ∷ xs) op c inside alone now bs red deep close fits held over untaken h e = (
          x.1.up op c inside inside alone now bs red 0
              (level_left level at (calls_in x.0) (all_calls (map calls_in (begun xs))) deep)
              (every_left NearTable (tables_of x.0 red) (all_tables (map tables_of (begun xs)) red) close)
              (rows_left outer (reached_in x.0) (joined_rows (map reached_in (begun xs))) fits)
              (held_left (rounds_in x.0 0) (all_rounds (map rounds_in (begun xs))) held) over.0
              (inside_as (built x.0).chain inside inside alone (λ z. refl) (λ a. (untaken a).0)) h
              (around_none (built x.0).chain now bs e),
          all_up xs op c inside alone now bs red
              (level_right level at (calls_in x.0) (all_calls (map calls_in (begun xs))) deep)
              (every_right NearTable (tables_of x.0 red) (all_tables (map tables_of (begun xs)) red) close)
              (rows_right outer (reached_in x.0) (joined_rows (map reached_in (begun xs))) fits)
              (held_right (rounds_in x.0 0) (all_rounds (map rounds_in (begun xs))) held) over.1
              (λ a. (untaken a).1) h e,
        )

        abbrev map_built : Option (Chain Num) → LoopKind → (counts starts : List ℕ) → List TermPart → TermPart
        map_built h m counts starts parts = record {
          lower = any_lower parts;
          same = any_same parts;
          chain = h;
          build = λ op inside c.
              map_hold bodies homes made h inside c (run_term bodies homes made rule m counts starts parts);
        }

        -- ---- a loop whose transfers overlap

        -- the rows of its call
        call_rows : (y : Statement) (times : List CallInstance) → y ≡ b.Call true times → (now : ℕ) (bs : List ℕ)
            (red : Option Reduction) (k : ℕ) → AreLevel level at (calls_in y) → Every NearTable (tables_of y red)
            → RowsFit bodies homes outer (reached_in y) → EachOf (AreHeldRows homes) (rounds_in y k)
            → Around (built y).chain k now bs → Every (RowIs true at bs) times
        call_rows y times e now bs red k deep close fits held around =
            let fit = subst (RowsFit bodies homes outer) (ap reached_in e ∙ reached_call true times) fits in
            let kept = subst (λ (f : ℕ → List Round). EachOf (AreHeldRows homes) (f k))
            (ap rounds_in e ∙ rounds_call true times) held in
            rows_are true at bs outer times
            (subst (AreLevel level at) (ap calls_in e ∙ calls_call true times) deep)
            (subst (λ (f : Option Reduction → List Table). Every NearTable (f red))
            (ap tables_of e ∙ tables_call true times) close).0
            (all_kept k now times bs fit kept.0
            (subst (λ (p : TermPart). Around p.chain k now bs)
            (ap built e ∙ built_call bodies homes made rule true times) around)) fit

        only_rows : (ys : List Statement) (times : List CallInstance) → ys ≡ b.Call true times ∷ [] → (now : ℕ)
            (bs : List ℕ) (red : Option Reduction) → AreLevel level at (all_calls (map calls_in ys))
            → Every NearTable (all_tables (map tables_of ys) red)
            → RowsFit bodies homes outer (joined_rows (map reached_in ys))
            → EachOf (AreHeldRows homes) (all_rounds (map rounds_in ys)) → now ≡ at → Every (RowIs true at bs) times
        only_rows ys times e now bs red deep close fits held is =
            subst (λ (zs : List Statement). AreLevel level at (all_calls (map calls_in zs))
            → Every NearTable (all_tables (map tables_of zs) red)
            → RowsFit bodies homes outer (joined_rows (map reached_in zs))
            → EachOf (AreHeldRows homes) (all_rounds (map rounds_in zs)) → Every (RowIs true at bs) times) (sym e)
            (λ d c f g. call_rows call times refl now bs red 0 (level_left level at (calls_in call) [] d)
            (every_left NearTable (tables_of call red) [] c) (rows_left outer (reached_in call) [] f)
            (held_left (rounds_in call 0) [] g) (around_none (built call).chain now bs is)) deep close fits held
          where
            call : Statement
            call = b.Call true times

        -- what it does at an iteration
        module _ (r : CallInstance) (rest : List CallInstance) (over : (homes r.form).overlaps ≡ true) (bs : List ℕ)
            (row : RowIs true at bs r) where
          abbrev call_table : List CallInstance
          call_table = r ∷ rest

          abbrev params : List Home
          params = (homes r.form).params

          abbrev both_sets : List ℕ
          both_sets = twin_sets bodies homes made call_table

          abbrev with_sets : List ℕ
          with_sets = both_sets ++ bs

          abbrev its_moves : (set : ℕ) → Context → List Move
          its_moves set d = pipe_moves bodies homes made call_table set d

          abbrev Sees : Context → Type 0
          Sees d = Every (IsHere s at bs) d.views

          sees_lifted : (d : Context) → Sees d → Sees (lift_context d)
          sees_lifted d h = every_map (IsHere s at bs) (IsHere s at bs) lift_view
              (λ v g. record { scope = g.scope; level_is = g.level_is }) d.views h

          moved : (set : ℕ) (d : Context) → Sees d
              → Every (IsMoved s (suc at) with_sets) (its_moves set d)
          moved set d h = moves_here s true at bs with_sets (among_right both_sets bs) None (bodies r.form).arrays
              (map (home_in_set set) params) d call_table (roomy.whole r.form) (set_single set params)
              (λ j. set_level s (suc at) set params j
              (subst (λ (l : ℕ). IsOf s l (get_or params j InPlace)) row.level_is
              (home_of s (level r.form) params (leveled.params r.form) j)))
              h 0 r.args (λ j l. set_near set params j (row.close j (omega (arith, l))))
              (λ j b n l e. among_right both_sets bs b
              (row.kept j b n (omega (arith, l)) (set_held set params j b n e)))
              (λ b g. among_left both_sets bs b (set_there params
              (subst (λ (v : Bool). EachOf (IsSuited v) params) over (near.overlaps.params r.form)) set r.args b g))

          abbrev Does : (ℕ → Context → Term) → Type 0
          Does f = (set : ℕ) (d : Context) → Sees d → Up (suc at) with_sets (f set d)

          comes : Does (λ set d. come_term (its_moves set d))
          comes set d h = rise_par s P Q (suc at) with_sets _
              (moves_up s bodies forms P (suc at) with_sets come_in_term
              (come_in_up s bodies forms P (suc at) with_sets) (its_moves set d) (moved set d h))

          leaves : Does (λ set d. leave_term (its_moves set d))
          leaves set d h = rise_par s P Q (suc at) with_sets _
              (moves_up s bodies forms P (suc at) with_sets back_term
              (back_up s bodies forms P (suc at) with_sets) (its_moves set d) (moved set d h))

          works : Does (pipe_work bodies homes made call_table)
          works set d h = rise_seq s P Q (suc at) with_sets _ (
            rise_par s P Q (suc at) with_sets _
                (moves_up s bodies forms P (suc at) with_sets fill_held_term
                (fill_held_up s bodies forms P (suc at) with_sets) (its_moves set d) (moved set d h)),
            (
              callee_up r.form (suc at) row.level_is with_sets d (its_moves set d) (moved set d h)
                  (let g = moves_len None (bodies r.form).arrays (map (home_in_set set) params) d call_table 0 r.args in
                  let few = row.few in omega (arith, g, few)),
              tt,
            ),
          )

          lanes_are : (p : Pipe) → p.rows ≡ call_table → (counts starts : List ℕ) (c : Context) (now : ℕ)
              → (is_some p.spread ≡ true → now ≡ at) → IsIn s at now count bs c → (loop : Term)
              → Up now bs (pipe_term bodies homes made (Some p) counts starts c loop)
          lanes_are p e counts starts c now near_at h loop =
              subst (λ (ts : List CallInstance). Up now bs
              (pipe_term bodies homes made (Some (record { spread = p.spread; rows = ts })) counts starts c loop))
              (sym e) (lanes_up s P Q now (suc at) starts both_sets bs Sees sees_lifted
              (λ set d. come_term (its_moves set d)) (pipe_work bodies homes made call_table)
              (λ set d. leave_term (its_moves set d))
              (λ set d g t. comes set (at_iteration starts t d) g) (λ set d g t. works set (at_iteration starts t d) g)
              (λ set d g t. leaves set (at_iteration starts t d) g) p.spread (count_num counts c) c h.next
              (λ z. ap suc (near_at z)) h.views)

        pipe_up : (p : Pipe) (rows : List CallInstance) → p.rows ≡ rows
            → (homes (row_form (slice_get rows 0))).overlaps ≡ true → (counts starts : List ℕ) (c : Context) (now : ℕ)
            (bs : List ℕ) → (is_some p.spread ≡ true → now ≡ at) → Every (RowIs true at bs) rows
            → IsIn s at now count bs c → (loop : Term)
            → Up now bs (pipe_term bodies homes made (Some p) counts starts c loop)
        pipe_up p [] e over counts starts c now bs near_at rows h loop =
            absurd (let first = near.overlaps.entry in let z : true ≡ false = sym over ∙ first in cc z)
        pipe_up p (r ∷ rest) e over counts starts c now bs near_at rows h loop =
            lanes_are r rest over bs rows.0 p e counts starts c now near_at h loop

        -- ---- maps

        -- a map in the context in which it stands, where its transfers don't overlap
        map_up : (m : LoopKind) (counts starts : List ℕ) (parts : List TermPart) (c : Context) (inside : Bool) (now : ℕ)
            (bs : List ℕ) → now ≡ at → IsIn s at now count bs c
            → ((d : Context) → IsIn s at now count bs d → AllRise s P Q now bs
            (all_terms parts (op_of m) (inside || is_some (spread_of rule m inside (any_lower parts) (any_same parts)))
            d))
            → Up now bs (loop_term rule m counts starts parts inside c)
        map_up m counts starts parts c inside now bs e h each =
            go (spread_of rule m inside (any_lower parts) (any_same parts)) each
          where
            k : Num
            k = count_num counts c

            Parts : Option SpreadRule → Type 0
            Parts spread = (d : Context) → IsIn s at now count bs d
                → AllRise s P Q now bs (all_terms parts (op_of m) (inside || is_some spread) d)

            body_up : (spread : Option SpreadRule) → Parts spread
                → Up now bs (term.Seq (all_terms parts (op_of m) (inside || is_some spread) (in_map spread k starts c)))
            body_up spread f = rise_seq s P Q now bs _ (f (in_map spread k starts c)
                (in_turn s at now count bs c spread k starts (λ z. e) h))

            go : (spread : Option SpreadRule) → Parts spread
                → Up now bs (map_term spread k
                (term.Seq (all_terms parts (op_of m) (inside || is_some spread) (in_map spread k starts c))))
            go None f = rise_loop s P Q now bs k _ (body_up None f)
            go (Some r) f = rise_spread s P Q now bs k r _ (body_up (Some r) f)

        -- what is asked of a map of these statements
        abbrev over_map : LoopKind → List Statement → AskedInMaps
        over_map m xs = λ asked alone. each_in_maps (Overlaps homes) xs
            (asked || is_spread m asked (any_by lower_in xs) (any_by same_in xs))
            (can_overlap m (is_spread m asked (any_by lower_in xs) (any_by same_in xs)) xs)

        more_than_one : (m : LoopKind) (v : Bool) (x y : Statement) (xs : List Statement)
            → can_overlap m v (x ∷ y ∷ xs) ≡ true → ⊥
        more_than_one loop_kind.Sequential v x y xs e = cc
        more_than_one loop_kind.Parallel v x y xs e = cc
        more_than_one (loop_kind.Reduction r) v x y xs e = cc

        none_over : (m : LoopKind) (spread : Option SpreadRule) (xs : List Known)
            → pipe_of homes m spread (chains (all_built_of xs)) ≡ None
            → can_overlap m (is_some spread) (begun xs) ≡ true
            → Every (λ (p : TermPart). overlapped homes p.chain ≡ None) (all_built_of xs)
        none_over m spread [] e can = tt
        none_over m spread (x ∷ []) e can = (pipe_none homes x.0 m spread (built x.0).chain e can, tt)
        none_over m spread (x ∷ y ∷ xs) e can = absurd (more_than_one m (is_some spread) x.0 y.0 (begun xs) can)

        -- whether they overlap or don't
        run_up : (m : LoopKind) (counts starts : List ℕ) (xs : List Known) (c : Context) (inside : Bool) (now : ℕ)
            (bs : List ℕ) → AreLevel level at (all_calls (map calls_in (begun xs)))
            → Every NearTable (all_tables (map tables_of (begun xs)) (red_of m))
            → RowsFit bodies homes outer (joined_rows (map reached_in (begun xs)))
            → EachOf (AreHeldRows homes) (all_rounds (map rounds_in (begun xs)))
            → over_map m (begun xs) inside false → IsIn s at now count bs c → now ≡ at
            → Up now bs (run_term bodies homes made rule m counts starts (all_built_of xs) inside c)
        run_up m counts starts xs c inside now bs deep close fits held over h e = go (pipe_of homes m spread hs) refl
          where
            spread : Option SpreadRule
            spread = spread_of rule m inside (any_lower (all_built_of xs)) (any_same (all_built_of xs))

            hs : List (Option (Chain Num))
            hs = chains (all_built_of xs)

            loop : Term
            loop = loop_term rule m counts starts (all_built_of xs) inside c

            spread_over : each_in_maps (Overlaps homes) (begun xs) (inside || is_some spread)
                (can_overlap m (is_some spread) (begun xs))
            spread_over = subst (λ (v : Bool). each_in_maps (Overlaps homes) (begun xs) (inside || v)
                (can_overlap m v (begun xs))) (spread_as bodies homes made rule m inside (begun xs)) over

            go : (o : Option Pipe) → pipe_of homes m spread hs ≡ o
                → Up now bs (pipe_term bodies homes made o counts starts c loop)
            go None untaken = map_up m counts starts (all_built_of xs) c inside now bs e h (λ d g.
                all_up xs (op_of m) d (inside || is_some spread) (can_overlap m (is_some spread) (begun xs)) now bs
                (red_of m) deep close fits held spread_over (none_over m spread xs untaken) g e)
            go (Some p) is =
                let t = taken homes m spread (chains_built bodies homes made rule (begun xs)) p is in
                pipe_up p p.rows refl t.overlaps counts starts c now bs (λ z. e)
                (only_rows (begun xs) p.rows t.one now bs (red_of m) deep close fits held e) h loop

        -- nothing leaves a map in which more stands than one call
        none_leaves : (m : LoopKind) (counts starts : List ℕ) (xs : List Known) (o : Option (Chain Num)) → o ≡ None
            → (f : ℕ → List Round) → ((k : ℕ) → f k ≡ all_rounds (map rounds_in (begun xs)))
            → GoodAs (map_built o m counts starts (all_built_of xs))
            (λ red. all_tables (map tables_of (begun xs)) (red_of m)) (all_calls (map calls_in (begun xs)))
            (joined_rows (map reached_in (begun xs))) f (over_map m (begun xs))
        none_leaves m counts starts xs o e f same =
            subst (λ (z : Option (Chain Num)). GoodAs (map_built z m counts starts (all_built_of xs))
            (λ red. all_tables (map tables_of (begun xs)) (red_of m)) (all_calls (map calls_in (begun xs)))
            (joined_rows (map reached_in (begun xs))) f (over_map m (begun xs))) (sym e) (record {
              up = λ op c inside asked alone now bs red k deep close fits held over here h is.
                  run_up m counts starts xs c inside now bs deep close fits
                  (subst (EachOf (AreHeldRows homes)) (same k) held)
                  (subst (λ (v : Bool). over_map m (begun xs) v false) (sym here) over) h is;
              first = λ deep. tt;
            })

        never_spread : (o : Option SpreadRule) → lanes_of loop_kind.Sequential None ≡ Some o → is_some o ≡ true → ⊥
        never_spread None e z = cc z
        never_spread (Some r) e z = cc e

        -- a plain loop in which one statement stands, so many loops round it
        one_turns : (counts starts : List ℕ) (x : Known) (c : Context) (inside asked : Bool) (k now : ℕ) (bs : List ℕ)
            → AreLevel level at (calls_in x.0) → Every NearTable (tables_of x.0 None)
            → RowsFit bodies homes outer (reached_in x.0) → EachOf (AreHeldRows homes) (rounds_in x.0 (suc k))
            → Overlaps homes x.0 asked true → ((built x.0).chain ≡ None → (inside || false) ≡ asked)
            → IsIn s at now count bs c → Around (built x.0).chain (suc k) now bs
            → Up now bs (run_term bodies homes made rule loop_kind.Sequential counts starts (built x.0 ∷ []) inside c)
        one_turns counts starts x c inside asked k now bs deep close fits held over here h around =
            go (pipe_of homes loop_kind.Sequential None hs) refl
          where
            hs : List (Option (Chain Num))
            hs = (built x.0).chain ∷ []

            loop : Term
            loop = loop_term rule loop_kind.Sequential counts starts (built x.0 ∷ []) inside c

            go : (o : Option Pipe) → pipe_of homes loop_kind.Sequential None hs ≡ o
                → Up now bs (pipe_term bodies homes made o counts starts c loop)
            go None untaken = rise_loop s P Q now bs (count_num counts c) _ (rise_seq s P Q now bs _ (
              x.1.up None (in_map None (count_num counts c) starts c) (inside || false) asked true now bs None (suc k)
                  deep close fits held over
                  (inside_as (built x.0).chain (inside || false) asked true here
                  (λ z. pipe_none homes x.0 loop_kind.Sequential None (built x.0).chain untaken refl))
                  (in_turn s at now count bs c None (count_num counts c) starts (λ z. absurd (cc z)) h) around,
              tt,
            ))
            go (Some p) is =
                let t = taken homes loop_kind.Sequential None (chains_built bodies homes made rule (x.0 ∷ [])) p is in
                pipe_up p p.rows refl t.overlaps counts starts c now bs
                (λ z. absurd (never_spread p.spread t.lanes z))
                (call_rows x.0 p.rows (ap (λ (xs : List Statement). first_in x.0 xs) t.one) now bs None (suc k) deep
                close fits held around) h loop

        one_up : (counts starts : List ℕ) (x : Known) (o : Option (Chain Num)) → (built x.0).chain ≡ o
            → GoodAs (map_built (one_more first_num starts o) loop_kind.Sequential counts starts (built x.0 ∷ []))
            (λ red. tables_of x.0 None ++ []) (calls_in x.0 ++ []) (reached_in x.0 ++ []) (λ k. rounds_in x.0 (suc k))
            (over_map loop_kind.Sequential (x.0 ∷ []))
        one_up counts starts x None e = record {
          up = λ op c inside asked alone now bs red k deep close fits held over here h is.
              one_turns counts starts x c inside (asked || false) k now bs (level_left level at (calls_in x.0) [] deep)
              (every_left NearTable (tables_of x.0 None) [] close) (rows_left outer (reached_in x.0) [] fits) held
              over.0 (λ z. ap (λ (v : Bool). v || false) here) h
              (subst (λ (z : Option (Chain Num)). Around z (suc k) now bs) (sym e) is);
          first = λ deep. tt;
        }
        one_up counts starts x (Some u) e = record {
          up = λ op c inside asked alone now bs red k deep close fits held over here h is.
              chain_up u (subst IsFirst e (x.1.first (level_left level at (calls_in x.0) [] deep))) k now bs c h is
              (u.first (first_num starts c.ordinal)) inside
              (run_term bodies homes made rule loop_kind.Sequential counts starts (built x.0 ∷ []))
              (λ i d force cs w there.
              one_turns counts starts x d i (asked || false) k force cs (level_left level at (calls_in x.0) [] deep)
              (every_left NearTable (tables_of x.0 None) [] close) (rows_left outer (reached_in x.0) [] fits) held
              over.0 (λ z. absurd (let y = sym e ∙ z in cc y)) w
              (subst (λ (z : Option (Chain Num)). Around z (suc k) force cs) (sym e) there))
              (slice_get u.instances 0) refl;
          first = λ deep. subst IsFirst e (x.1.first (level_left level at (calls_in x.0) [] deep));
        }

        map_good : (m : LoopKind) (counts starts : List ℕ) (xs : List Known)
            → GoodAs (map_built (chain_of first_num m starts (chains (all_built_of xs))) m counts starts
            (all_built_of xs)) (λ red. all_tables (map tables_of (begun xs)) (red_of m))
            (all_calls (map calls_in (begun xs))) (joined_rows (map reached_in (begun xs)))
            (map_rounds m (map rounds_in (begun xs))) (over_map m (begun xs))
        map_good loop_kind.Sequential counts starts []
            = none_leaves loop_kind.Sequential counts starts [] _ refl _ (λ k. refl)
        map_good loop_kind.Sequential counts starts (x ∷ []) = one_up counts starts x (built x.0).chain refl
        map_good loop_kind.Sequential counts starts (x ∷ y ∷ xs)
            = none_leaves loop_kind.Sequential counts starts (x ∷ y ∷ xs) _ refl _ (λ k. refl)
        map_good loop_kind.Parallel counts starts xs
            = none_leaves loop_kind.Parallel counts starts xs _ refl _ (λ k. refl)
        map_good (loop_kind.Reduction r) counts starts xs
            = none_leaves (loop_kind.Reduction r) counts starts xs _ refl _ (λ k. refl)

        call_good : (lower : Bool) (times : List CallInstance)
            → GoodAs (term_step bodies homes made rule (Statement-F.Call lower times))
            (tables_step (Statement-F.Call lower times)) (calls_in_rows lower times) times
            (round_step (Statement-F.Call lower times))
            (overlaps_step homes Statement (λ y. y) (Overlaps homes) (Statement-F.Call lower times))
        call_good true times = record {
          up = λ op c inside asked alone now bs red k deep close fits held over here h around.
              rows_up op true times c now bs
              (rows_are true at bs outer times deep close.0 (all_kept k now times bs fits held.0 around) fits)
              (plain_rows true alone times over (λ l a. first_plain times (here a))) h.next h;
          first = λ deep. first_is times deep;
        }
        call_good false times = record {
          up = λ op c inside asked alone now bs red k deep close fits held over here h is.
              rows_up op false times c now bs
              (rows_are false at bs outer times deep close.0 (none_kept times bs held.0) fits)
              (plain_rows false alone times over (λ l. absurd (cc l))) is h;
          first = λ deep. tt;
        }

        -- by the equations of a statement's parts
        as_known : (x y : TermPart) (t u : Option Reduction → List Table) (c d : List (Bool × ℕ))
            (q r : List CallInstance) (f g : ℕ → List Round) (v w : AskedInMaps) → x ≡ y → t ≡ u → c ≡ d → q ≡ r
            → f ≡ g → v ≡ w → GoodAs y u d r g w → GoodAs x t c q f v
        as_known x y t u c d q r f g v w a b e i j l h =
            subst (λ (z : TermPart). GoodAs z t c q f v) (sym a)
            (subst (λ (z : Option Reduction → List Table). GoodAs y z c q f v) (sym b)
            (subst (λ (z : List (Bool × ℕ)). GoodAs y u z q f v) (sym e)
            (subst (λ (z : List CallInstance). GoodAs y u d z f v) (sym i)
            (subst (λ (z : ℕ → List Round). GoodAs y u d r z v) (sym j)
            (subst (λ (z : AskedInMaps). GoodAs y u d r g z) (sym l) h)))))

        step : (y : Statement-F Known) → Good (roll-Statement (map-Statement Known Statement (λ q. q.0) y))
        step (Statement-F.Call lower times) = subst Good (sym (b.rolls-Call lower times))
            (as_known _ _ _ _ _ _ _ _ _ _ _ _ (built_call bodies homes made rule lower times)
            (tables_call lower times) (calls_call lower times) (reached_call lower times) (rounds_call lower times)
            (overlaps_call homes lower times) (call_good lower times))
        step (Statement-F.Map place m counts starts xs)
            = subst Good (sym (b.rolls-Map place m counts starts (begun xs)))
            (as_known _ _ _ _ _ _ _ _ _ _ _ _ (built_map bodies homes made rule place m counts starts (begun xs))
            (tables_map place m counts starts (begun xs)) (calls_map place m counts starts (begun xs))
            (reached_map place m counts starts (begun xs)) (rounds_map place m counts starts (begun xs))
            (overlaps_map homes place m counts starts (begun xs)) (map_good m counts starts xs))

        knows : (x : Statement) → Good x
        knows = ind-Statement Good (λ x y is. subst (λ z. Good (roll-Statement z)) is (step y))

        abbrev known : List Statement → List Known
        known [] = []
        known (x ∷ xs) = (x, knows x) ∷ known xs

        known_are : (xs : List Statement) → begun (known xs) ≡ xs
        known_are [] = refl
        known_are (x ∷ xs) = ap (λ ys. x ∷ ys) (known_are xs)

        calls_joined : (xs : List Statement) → calls_in_all xs ≡ all_calls (map calls_in xs)
        calls_joined [] = refl
        calls_joined (x ∷ xs) = ap (λ l. calls_in x ++ l) (calls_joined xs)

        list_up : (list : List Statement) (c : Context) (bs : List ℕ) → AreLevel level at (calls_in_all list)
            → Every NearTable (tables_in list None) → RowsFit bodies homes outer (joined_rows (map reached_in list))
            → EachOf (AreHeldRows homes) (all_rounds (map rounds_in list))
            → each_in_maps (Overlaps homes) list false false → IsIn s at at count bs c
            → Up at bs (term.Seq (all_terms (map built list) None false c))
        list_up list c bs deep close fits held over h = rise_seq s P Q at bs _
            (subst (λ (xs : List Statement). AreLevel level at (calls_in_all xs)
            → Every NearTable (all_tables (map tables_of xs) None)
            → RowsFit bodies homes outer (joined_rows (map reached_in xs))
            → EachOf (AreHeldRows homes) (all_rounds (map rounds_in xs))
            → each_in_maps (Overlaps homes) xs false false
            → AllRise s P Q at bs (all_terms (map built xs) None false c)) (known_are list)
            (λ d t r q o. all_up (known list) None c false false at bs None
            (subst (AreLevel level at) (calls_joined (begun (known list))) d) t r q o (λ z. absurd (cc z)) h refl) deep
            close fits held over)

    near_list : (f : ℕ) (list : List Statement) → (bodies f).body ≡ body.Inner list
        → Every NearTable (tables_in list None)
    near_list f list e = every_by NearTable (tables_in list None) (λ i t g.
        every_by (NearRow t.lower) t.times (λ j r k. near.near f list e i t g j r k))

    body_up : (f : ℕ) (x : Body) → (bodies f).body ≡ x → (c : Context) (bs : List ℕ)
        → AreLevel level (level f) (calls_of x) → RowsFit bodies homes (bodies f).arrays (reached_of x)
        → EachOf (AreHeldRows homes) (rounds_of x) → BodyOverlaps homes x
        → IsIn s (level f) (level f) (length (bodies f).arrays) bs c
        → Up (level f) bs (body_term bodies homes made (homes f) x c)
    body_up f (body.Inner list) e c bs deep fits held over h =
        list_up (level f) (length (bodies f).arrays) (bodies f).arrays (homes f).rule list c bs deep
        (near_list f list e) fits held over h
    body_up f (body.Leaf code) e c bs deep fits held over h =
        rise_act s P Q (level f) bs (action.Leaf (homes f).code c.views c.path) (λ env is p. (
          p,
          (
            every_all (IsSeen s env bs) c.views
                (every_less (IsHere s (level f) bs) (IsSeen s env bs)
                (λ v g. record { scope = g.scope; level = g.level_is ∙ sym is }) c.views h.views),
            record { form = f; leaf = code; is = e; code_is = refl; level_is = is; few = h.few },
          ),
        ))

  forms_up : (d : ℕ) → AllUp (term_of bodies homes d)
  forms_up zero f c bs h = rise_skip s P Q (level f) bs
  forms_up (suc d) f c bs h = body_up (term_of bodies homes d) (forms_up d) f (bodies f).body refl c bs
      (leveled.calls f) (roomy.rows f) (near.held f) (near.overlaps.calls f) h

  -- ---- the entry

  buffer_level : (h : Home) → IsOf s 0 h → s.level 0 ≡ 0 → s.level (buffer_or h) ≡ 0
  buffer_level InPlace o z = z
  buffer_level (Own x) o z = o
  buffer_level (Held x loops) o z = o
  buffer_level (Twin x y) o z = o.0

  entry_here : (shapes : List Shape) (hs : List Home) (bs : List ℕ) → AreOf s 0 hs → s.level 0 ≡ 0
      → Among (map buffer_or hs) bs → Every (IsHere s 0 bs) (entry_views shapes hs)
  entry_here shapes [] bs o z there = tt
  entry_here [] (h ∷ hs) bs o z there = tt
  entry_here (x ∷ shapes) (h ∷ hs) bs o z there = (
    record {
      scope = there (buffer_or h) (first_there (buffer_or h) (map buffer_or hs));
      level_is = buffer_level h o.0 z;
    },
    entry_here shapes hs bs o.1 z (λ x g. there x (later_there (buffer_or h) x (map buffer_or hs) g)),
  )

  pub entry_up : level 0 ≡ 0 → s.level 0 ≡ 0 → (d : ℕ) (args : List Argument) (outer : List Shape)
      → RowFits bodies homes outer (entry_row args)
      → Up 0 (map buffer_or (homes 0).params) (entry_term bodies homes d args)
  entry_up first root d args outer fits =
      arm_up (term_of bodies homes d) (forms_up d) [] None false (entry_row args ∷ [])
      (entry_context (bodies 0) (homes 0)) 0 0 (length (entry_views (bodies 0).arrays (homes 0).params))
      (map buffer_or (homes 0).params) (entry_row args)
      (λ j. tt) (λ j b n l e. absurd (cc e)) (λ j. tt) (λ k l. refl) first
      (let e = each_len fits in omega (arith, e)) refl (record {
        next = refl;
        views = entry_here (bodies 0).arrays (homes 0).params (map buffer_or (homes 0).params)
            (subst (λ (l : ℕ). AreOf s l (homes 0).params) first (leveled.params 0)) root (λ x g. g);
        few = omega arith;
      })
