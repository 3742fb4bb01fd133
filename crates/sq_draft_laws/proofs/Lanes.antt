-- What is asked of a loop whose transfers overlap, by the level and by the buffers in scope alone.
use Rattle.std.proofs.Common.{◌≡◌, ℕ, suc, pos, true, List, ◌++◌, Option, Some, None, is_some, refl, sym, subst}
use Rattle.sq_text.specs.declared.spread.SpreadRule.{SpreadRule}
use Rattle.sq_text.specs.declared.spread.SpreadRule.TheVariants.{Cyclic}
use Rattle.sq_ir.specs.Lifting.{lift}
use Rattle.sq_ir.specs.declared.num.Num.{Num}
use Rattle.sq_ir.specs.declared.num.Num.TheVariants as n
use Rattle.sq_ir.specs.declared.term.Term.{Term}
use Rattle.sq_ir.specs.Written.{Setting}
use Rattle.sq_ir.specs.Plans.{AskedOfActions}
use Rattle.sq_term.specs.declared.context.Context.{Context}
use Rattle.sq_term.specs.declared.context.Lane.{Lane}
use Rattle.sq_term.specs.Terms.{lift_context, lift_lane, whole_lane, lane_at, iteration, at_iteration, by_set}
use Rattle.sq_term.specs.Terms.{where_some, at_position, turn_term, lane_term, each_child, lanes_term}
use Rattle.sq_draft_laws.proofs.Rising.{level_in, Rises, rise_skip, rise_seq, rise_par, rise_loop, rise_spread}
use Rattle.sq_draft_laws.proofs.Rising.{rise_case, rise_within}

module _ (s : Setting) (first second : AskedOfActions) where
  module _ (level : ℕ) (bs : List ℕ) where
    abbrev Up : Term → Type 0
    Up x = Rises s first second level bs x

    -- one of the two sets
    set_up : (p : Num) (f : ℕ → Term) → ((set : ℕ) → Up (f set)) → Up (by_set p f)
    set_up p f each = rise_case s first second level bs (n.Rem p (n.Const (pos 2))) _ (each 0, (each 1, tt))

    -- only where there is something
    some_up : (k : Num) (x : Term) → Up x → Up (where_some k x)
    some_up k x h = rise_case s first second level bs (n.Min k (n.Const (pos 1))) _
        (rise_skip s first second level bs, (h, tt))

    -- at each child of the node in force
    child_up : (x : Term) → Up x → Up (each_child x)
    child_up x h = rise_loop s first second level bs (n.Add n.Children (n.Const (pos 1))) _
        (rise_case s first second level bs (n.Div (n.Index 0) n.Children) _ (
          rise_skip s first second level bs,
          (rise_spread s first second level bs (n.Index 0) Cyclic x h, tt),
        ))

  -- in contexts of one kind
  module _ (level : ℕ) (bs starts : List ℕ) (Sees : Context → Type 0)
      (lifts : (c : Context) → Sees c → Sees (lift_context c)) where
    -- in each set and at each iteration
    abbrev pub Part : (ℕ → Context → Term) → Type 0
    Part f = (set : ℕ) (c : Context) → Sees c → (t : Num)
        → Rises s first second level bs (f set (at_iteration starts t c))

    at_up : (f : ℕ → Context → Term) → Part f → (l : Lane) (c : Context) → Sees c → (p : Num)
        → Rises s first second level bs (at_position starts l c p f)
    at_up f part l c sees p = set_up level bs p (λ set. f set (at_iteration starts (iteration l p) c))
        (λ set. part set c sees (iteration l p))

    module _ (come work leave : ℕ → Context → Term) (comes : Part come) (works : Part work) (leaves : Part leave)
      where
        turn_up : (l : Lane) (c : Context) → Sees c
            → Rises s first second level bs (turn_term starts l c come work leave)
        turn_up l c sees = rise_par s first second level bs _ (
          at_up work works l c sees (n.Index 0),
          (
            rise_seq s first second level bs _ (
              some_up level bs (n.Index 0) _ (at_up leave leaves l c sees (n.Sub (n.Index 0) (n.Const (pos 1)))),
              (
                some_up level bs (n.Sub (n.Sub l.many (n.Const (pos 1))) (n.Index 0)) _
                    (at_up come comes l c sees (n.Add (n.Index 0) (n.Const (pos 1)))),
                tt,
              ),
            ),
            tt,
          ),
        )

        lane_up : (l : Lane) (c : Context) → Sees c
            → Rises s first second level bs (lane_term starts l c come work leave)
        lane_up l c sees = some_up level bs l.many _ (rise_seq s first second level bs _ (
          comes 0 c sees l.first,
          (
            rise_loop s first second level bs l.many _ (turn_up (lift_lane l) (lift_context c) (lifts c sees)),
            (at_up leave leaves l c sees (n.Sub l.many (n.Const (pos 1))), tt),
          ),
        ))

  -- The loop at its child, or at each, which is of this level.
  pub lanes_up : (now to : ℕ) (starts new outer : List ℕ) (Sees : Context → Type 0)
      (lifts : (c : Context) → Sees c → Sees (lift_context c)) (come work leave : ℕ → Context → Term)
      → Part to (new ++ outer) starts Sees lifts come → Part to (new ++ outer) starts Sees lifts work
      → Part to (new ++ outer) starts Sees lifts leave
      → (spread : Option SpreadRule) (count : Num) (c : Context) → level_in c.child now ≡ to
      → (is_some spread ≡ true → suc now ≡ to) → Sees c
      → Rises s first second now outer (lanes_term spread count starts new c come work leave)
  lanes_up now to starts new outer Sees lifts come work leave comes works leaves None count c enter spread sees =
      rise_within s first second now outer c.child new _
      (subst (λ (l : ℕ). Rises s first second l (new ++ outer)
      (lane_term starts (whole_lane count) c come work leave)) (sym enter)
      (lane_up to (new ++ outer) starts Sees lifts come work leave comes works leaves (whole_lane count) c sees))
  lanes_up now to starts new outer Sees lifts come work leave comes works leaves (Some rule) count c enter spread sees =
      let d = lift_context (lift_context c) in
      let lane = lane_at rule (lift 1 (lift 1 count)) (n.Index 1) (n.Index 0) in
      child_up now outer _ (rise_within s first second now outer (Some (n.Index 0)) new _
      (subst (λ (l : ℕ). Rises s first second l (new ++ outer) (lane_term starts lane d come work leave))
      (sym (spread refl))
      (lane_up to (new ++ outer) starts Sees lifts come work leave comes works leaves lane d
      (lifts (lift_context c) (lifts c sees)))))
