-- Views stand for seats: rows, and what is copied, filled and accumulated.
use Rattle.std.proofs.Common.{◌≡◌, ℕ, ◌+◌, ◌*◌, ◌/◌, ◌%◌, ℤ, pos, Bool, true, false, List, [], ◌∷◌, get_or, Option}
use Rattle.std.proofs.Common.{Some, None, refl, sym, ap, ap₂, ◌∙◌, arith, if◌then◌else◌}
use Rattle.std.specs.Prelude.{nat_abs}
use Rattle.sq_num.specs.declared.RedOp.{RedOp}
use Rattle.sq_num.specs.Elements.{width}
use Rattle.sq_num.specs.Reductions.{identity}
use Rattle.sq_ir.specs.Rect.Extents.{last_of, rows_of}
use Rattle.sq_ir.specs.Rect.Placing.{offset}
use Rattle.sq_ast.specs.declared.program.Mode.{Mode}
use Rattle.sq_ast.specs.declared.program.Mode.TheVariants.{Input, Output, Both}
use Rattle.sq_ir.specs.Tree as tree
use Rattle.sq_ir.specs.Events.{Event, Copy, Fill, Accumulate}
use Rattle.sq_ir.specs.Lifting.{lift}
use Rattle.sq_ir.specs.Written.{Setting, Env, PlanTree, value_of, at_turn, spot_of, event_of, written, seq_of}
use Rattle.sq_ir.specs.declared.num.Num.TheVariants as n
use Rattle.sq_ir.specs.declared.term.LeafView.{LeafView}
use Rattle.sq_ir.specs.declared.term.Action.{Action}
use Rattle.sq_ir.specs.declared.term.Term.{Term}
use Rattle.sq_ir.specs.declared.term.Term.TheVariants as term
use Rattle.sq_ir.proofs.Equations.{written_loop, written_act, written_skip}
use Rattle.sq_placed.specs.declared.home.Home.{Home}
use Rattle.sq_term.specs.declared.context.Move.{Move}
use Rattle.sq_placed.specs.Seats.{Seat, SeatedArg, row_first, row_spot}
use Rattle.sq_placed.specs.Trees.{is_moved, copy_rows, fill_rows, add_rows, clear, copy_in, copy_out, bring_by, bring}
use Rattle.sq_placed.specs.Trees.{give_back_by, give_back, hold_in_by, hold_in, hold_out_by, hold_out}
use Rattle.sq_term.specs.Terms.{lift_view, row_num, row_slot, by_rows, copy_term, fill_term, add_term, clear_term}
use Rattle.sq_term.specs.Terms.{copy_in_term, copy_out_term, bring_term_by, bring_term, back_term_by, back_term}
use Rattle.sq_term.specs.Terms.{hold_in_term_by, hold_in_term, hold_out_term_by, hold_out_term}
use Rattle.sq_term.specs.Stands.{seat_at, IsSeat, IsSeated}
use Rattle.sq_term.proofs.Numbers.{const_is, index_is, add_is, mul_is, div_is, rem_is, lifted_is}
use Rattle.sq_term.proofs.Turns.{seq_same}

-- ---- how far a row begins behind the first

pub no_dims : (ss : List ℕ) → 0 ≡ offset ss []
no_dims [] = refl
no_dims (x ∷ ss) = refl

one_dim : (ss : List ℕ) → 0 ≡ offset ss (0 ∷ [])
one_dim [] = refl
one_dim (x ∷ ss) = let z = no_dims ss in omega (arith, z)

two_dims : (ss : List ℕ) (r : ℕ) → r * get_or ss 0 0 ≡ offset ss (r ∷ 0 ∷ [])
two_dims [] r = let z : r * 0 ≡ 0 = omega arith in z
two_dims (x ∷ ss) r = let z = one_dim ss in let g : r * x ≡ r * x + offset ss (0 ∷ []) = omega (arith, z) in g

three_dims : (ss : List ℕ) (r q : ℕ) → r * get_or ss 0 0 + q * get_or ss 1 0 ≡ offset ss (r ∷ q ∷ 0 ∷ [])
three_dims [] r q = let z : r * 0 + q * 0 ≡ 0 = omega arith in z
three_dims (x ∷ []) r q = let z : r * x + q * 0 ≡ r * x + 0 = omega arith in z
three_dims (x ∷ y ∷ ss) r q = let z = one_dim ss in let g : r * x + q * y ≡ r * x + (q * y + offset ss (0 ∷ []))
    = omega (arith, z) in g

module _ (s : Setting) (env : Env) where
  pub row_num_is : (r : ℕ) (ss ns : List ℕ) → value_of s (row_num ss ns) (at_turn env r)
      ≡ pos (offset ss (row_first ns r))
  row_num_is r ss [] = const_is s (at_turn env r) (pos 0) ∙ ap pos (no_dims ss)
  row_num_is r ss (a ∷ []) = const_is s (at_turn env r) (pos 0) ∙ ap pos (one_dim ss)
  row_num_is r ss (a ∷ b ∷ []) =
      mul_is s (at_turn env r) (n.Index 0) (n.Const (pos (get_or ss 0 0))) r (get_or ss 0 0)
      (index_is s (at_turn env r) 0) (const_is s (at_turn env r) (pos (get_or ss 0 0)))
      ∙ ap pos (two_dims ss r)
  row_num_is r ss (a ∷ b ∷ c ∷ []) =
      let k = λ (z : ℕ). const_is s (at_turn env r) (pos z) in
      let i = index_is s (at_turn env r) 0 in
      add_is s (at_turn env r) (n.Mul (n.Div (n.Index 0) (n.Const (pos b))) (n.Const (pos (get_or ss 0 0))))
      (n.Mul (n.Rem (n.Index 0) (n.Const (pos b))) (n.Const (pos (get_or ss 1 0))))
      (r / b * get_or ss 0 0) (r % b * get_or ss 1 0)
      (mul_is s (at_turn env r) (n.Div (n.Index 0) (n.Const (pos b))) (n.Const (pos (get_or ss 0 0))) (r / b)
      (get_or ss 0 0) (div_is s (at_turn env r) (n.Index 0) (n.Const (pos b)) r b i (k b)) (k (get_or ss 0 0)))
      (mul_is s (at_turn env r) (n.Rem (n.Index 0) (n.Const (pos b))) (n.Const (pos (get_or ss 1 0))) (r % b)
      (get_or ss 1 0) (rem_is s (at_turn env r) (n.Index 0) (n.Const (pos b)) r b i (k b)) (k (get_or ss 1 0)))
      ∙ ap pos (three_dims ss (r / b) (r % b))
  row_num_is r ss (a ∷ b ∷ c ∷ d ∷ ns) = const_is s (at_turn env r) (pos 0) ∙ ap pos (no_dims ss)

  -- a row's slot is the row's spot
  pub row_is : (level : ℕ) (v : LeafView) (q : Seat) → IsSeat s env level v q → (r : ℕ)
      → spot_of s (at_turn env r) (row_slot v) ≡ row_spot q r
  row_is level v q h r =
      let far = offset v.strides (row_first v.extents r) in
      let e = add_is s (at_turn env r) (lift 1 v.slot.at)
      (n.Mul (n.Const (pos (width v.elem))) (row_num v.strides v.extents)) h.bytes (width v.elem * far)
      ((lifted_is s env.turns v.slot.at h.bytes r h.number).value env.level env.nodes)
      (mul_is s (at_turn env r) (n.Const (pos (width v.elem))) (row_num v.strides v.extents) (width v.elem) far
      (const_is s (at_turn env r) (pos (width v.elem))) (row_num_is r v.strides v.extents)) in
      let g : s.offset v.slot.buffer + (h.bytes + width v.elem * far) ≡ s.offset v.slot.buffer + h.bytes
      + width v.elem * far = omega arith in
      ap (λ z. record { node = env.nodes (s.level v.slot.buffer); at = s.offset v.slot.buffer + nat_abs z }) e
      ∙ ap (λ z. record { node = env.nodes (s.level v.slot.buffer); at = z }) g
      ∙ ap (λ z. row_spot z r) (sym h.is)

  by_rows_is : (extents : List ℕ) (x : Action) (e : ℕ → Event) → ((r : ℕ) → event_of s (at_turn env r) x ≡ e r)
      → written s (by_rows extents x) env ≡ seq_of (rows_of extents) (λ r. tree.Act (e r)) 0
  by_rows_is extents x e h =
      ap (λ f. f env) (written_loop s (n.Const (pos (rows_of extents))) (term.Act x))
      ∙ ap (λ k. seq_of (nat_abs k) (λ r. written s (term.Act x) (at_turn env r)) 0)
      (const_is s env (pos (rows_of extents)))
      ∙ seq_same (rows_of extents) (λ r. written s (term.Act x) (at_turn env r)) (λ r. tree.Act (e r)) 0
      (λ r l. ap (λ f. f (at_turn env r)) (written_act s x) ∙ ap tree.Act (h r))

  module _ (level : ℕ) where
    pub copy_is : (v a b : LeafView) (q c d : Seat) → IsSeat s env level v q → IsSeat s env level a c
        → IsSeat s env level b d → written s (copy_term v a b) env ≡ copy_rows q c d
    copy_is v a b q c d h k l =
        by_rows_is v.extents _ (λ r. Copy (row_spot c r) (row_spot d r) (width v.elem * last_of v.extents))
        (λ r. ap₂ (λ x y. Copy x y (width v.elem * last_of v.extents)) (row_is level a c k r) (row_is level b d l r))
        ∙ ap (λ z. copy_rows z c d) (sym h.is)

    pub fill_is : (k : ℤ) (v : LeafView) (q : Seat) → IsSeat s env level v q → written s (fill_term k v) env
        ≡ fill_rows k q
    fill_is k v q h =
        by_rows_is v.extents _ (λ r. Fill (row_spot (seat_at s env v h.bytes) r) v.elem (last_of v.extents) k)
        (λ r. ap (λ x. Fill x v.elem (last_of v.extents) k) (row_is level v q h r ∙ ap (λ z. row_spot z r) h.is))
        ∙ ap (fill_rows k) (sym h.is)

    pub clear_is : (v : LeafView) (q : Seat) → IsSeat s env level v q → written s (clear_term v) env ≡ clear q
    clear_is = fill_is (pos 0)

    pub add_rows_are : (op : RedOp) (v a b : LeafView) (q c d : Seat) → IsSeat s env level v q → IsSeat s env level a c
        → IsSeat s env level b d → written s (add_term op v a b) env ≡ add_rows op q c d
    add_rows_are op v a b q c d h k l =
        by_rows_is v.extents _ (λ r. Accumulate op v.elem (row_spot c r) (row_spot d r) (last_of v.extents))
        (λ r. ap₂ (λ x y. Accumulate op v.elem x y (last_of v.extents)) (row_is level a c k r) (row_is level b d l r))
        ∙ ap (λ z. add_rows op z c d) (sym h.is)

    skip_is : written s term.Skip env ≡ tree.Skip
    skip_is = ap (λ f. f env) (written_skip s)

    if_is : (b : Bool) (x : Term) (y : PlanTree) → written s x env ≡ y → written s (if b then x else term.Skip) env
        ≡ (if b then y else tree.Skip)
    if_is true x y h = h
    if_is false x y h = skip_is

    pub bring_is : (m : Move) (l : SeatedArg) → IsSeated s env level m l → written s (bring_term m) env ≡ bring l
    bring_is m l h = go m.gathers m.mode ∙ ap₂ (λ o k. bring_by o k l) h.gathers h.mode
      where
        taken : written s (if is_moved m.home then copy_in_term m else term.Skip) env
            ≡ (if is_moved l.passed.home then copy_in l else tree.Skip)
        taken = if_is (is_moved m.home) (copy_in_term m) (copy_in l)
            (copy_is m.own m.outside m.own l.own l.outside l.own h.own h.outside h.own)
            ∙ ap (λ (x : Home). if is_moved x then copy_in l else tree.Skip) h.home

        go : (o : Option RedOp) (k : Mode) → written s (bring_term_by o k m) env ≡ bring_by o k l
        go (Some op) k = fill_is (identity op m.own.elem) m.own l.own h.own
            ∙ ap (λ (q : Seat). fill_rows (identity op q.view.elem) l.own) (sym h.own.is)
        go None Input = taken
        go None Output = clear_is m.own l.own h.own
        go None Both = taken

    pub back_is : (m : Move) (l : SeatedArg) → IsSeated s env level m l → written s (back_term m) env ≡ give_back l
    back_is m l h = go m.gathers m.mode ∙ ap₂ (λ o k. give_back_by o k l) h.gathers h.mode
      where
        given : written s (if is_moved m.home then copy_out_term m else term.Skip) env
            ≡ (if is_moved l.passed.home then copy_out l else tree.Skip)
        given = if_is (is_moved m.home) (copy_out_term m) (copy_out l)
            (copy_is m.own m.own m.outside l.own l.own l.outside h.own h.own h.outside)
            ∙ ap (λ (x : Home). if is_moved x then copy_out l else tree.Skip) h.home

        go : (o : Option RedOp) (k : Mode) → written s (back_term_by o k m) env ≡ give_back_by o k l
        go (Some op) k = add_rows_are op m.own m.own m.outside l.own l.own l.outside h.own h.own h.outside
        go None Input = skip_is
        go None Output = given
        go None Both = given

    -- round a loop that it leaves
    pub hold_in_is : (m : Move) (l : SeatedArg) → IsSeated s env level m l → written s (hold_in_term m) env ≡ hold_in l
    hold_in_is m l h = go m.mode ∙ ap (λ k. hold_in_by k l) h.mode
      where
        go : (k : Mode) → written s (hold_in_term_by k m) env ≡ hold_in_by k l
        go Input = copy_is m.own m.outside m.own l.own l.outside l.own h.own h.outside h.own
        go Output = skip_is
        go Both = copy_is m.own m.outside m.own l.own l.outside l.own h.own h.outside h.own

    pub hold_out_is : (m : Move) (l : SeatedArg) → IsSeated s env level m l → written s (hold_out_term m) env
        ≡ hold_out l
    hold_out_is m l h = go m.mode ∙ ap (λ k. hold_out_by k l) h.mode
      where
        go : (k : Mode) → written s (hold_out_term_by k m) env ≡ hold_out_by k l
        go Input = skip_is
        go Output = copy_is m.own m.own m.outside l.own l.own l.outside h.own h.own h.outside
        go Both = copy_is m.own m.own m.outside l.own l.own l.outside h.own h.own h.outside

    pub lift_seat : (t : ℕ) (v : LeafView) (q : Seat) → IsSeat s env level v q
        → IsSeat s (at_turn env t) level (lift_view v) q
    lift_seat t v q h = record {
      bytes = h.bytes;
      number = lifted_is s env.turns v.slot.at h.bytes t h.number;
      is =
          h.is;
      above = h.above;
    }
