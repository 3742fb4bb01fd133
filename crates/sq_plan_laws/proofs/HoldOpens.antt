-- The scopes round the events of a loop that arguments leave, and the buffers of these.
use Rattle.std.proofs.Common.{ℕ, ◌≡◌, zero, suc, ◌+◌, ◌<◌, true, List, [], ◌∷◌, ◌++◌, length, map, Option, Some}
use Rattle.std.proofs.Common.{refl, sym, ap, ◌∙◌, subst, arith, ◌⊎◌, inl, inr}
use Rattle.std.specs.Prelude.{slice_get}
use Rattle.std.specs.List.{Contains}
use Rattle.sq_ast.specs.declared.program.Mode.{Mode}
use Rattle.sq_ast.specs.declared.program.Mode.TheVariants.{Input, Output, Both}
use Rattle.sq_leaf.specs.declared.shape.Shape.{Shape}
use Rattle.sq_ir.specs.Scopes.{Scope}
use Rattle.sq_ir.specs.Events.{Leaves}
use Rattle.sq_ir.specs.Plans.{HaveRoom}
use Rattle.sq_ir.specs.Plans as plans
use Rattle.sq_ir.specs.Written.{Setting, PlanTree}
use Rattle.sq_placed.specs.declared.home.Home.{Home}
use Rattle.sq_placed.specs.declared.home.Home.TheVariants.{InPlace, Own, Held, Twin}
use Rattle.sq_placed.specs.Placed.{Placed, PlacedArg}
use Rattle.sq_placed.specs.Seats.{Seat, SeatedArg, seated_args}
use Rattle.sq_placed.specs.Trees.{seq_all, par_all, held_of, held_buffers, is_held, hold_in_by, hold_in, hold_out_by}
use Rattle.sq_placed.specs.Trees.{hold_out, hold_tree}
use Rattle.sq_cells.specs.Machine.{Form, offset_of}
use Rattle.sq_cells.specs.Cells.{Spot}
use Rattle.sq_cells.specs.Tree.{Cause}
use Rattle.sq_cells.specs.Work.{Array}
use Rattle.sq_cells.specs.Lowered.{Layout, own, IsIn, HeldCell}
use Rattle.sq_cells.proofs.Cells.{spot_path}
use Rattle.sq_plan_laws.specs.Codes.{bytes_in}
use Rattle.sq_plan_laws.specs.Calling.{shapes_of, arrays_of, first_buffer, form_of, array_of}
use Rattle.sq_plan_laws.specs.Seated.{IsSeated, at_node, HeldSits}
use Rattle.sq_plan_laws.proofs.Places.{below_there}
use Rattle.sq_plan_laws.proofs.Sets.{form_is}
use Rattle.sq_plan_laws.specs.Around.{IsAround}
use Rattle.sq_plan_laws.proofs.Grown.{Aside, seq_first, seq_next, aside_first, aside_next, scope_list, in_scoped}
use Rattle.sq_plan_laws.proofs.Grown.{aside_scoped}
use Rattle.sq_plan_laws.specs.OnBytes.{held_call}
use Rattle.sq_plan_laws.specs.Buffers.{home_buffer, HoldsBuffer, Opens, HoldOwns}
use Rattle.sq_plan_laws.proofs.Live.{some_same, mapped, copy_event, in_par_all, IsNamed, named_left, named_right}
use Rattle.sq_plan_laws.proofs.Live.{named_in, one_buffer, Holding, HasRows, has_rows}

append_none : {A : Type 0} (xs : List A) → xs ++ [] ≡ xs
append_none [] = refl
append_none (x ∷ xs) = ap (λ l. x ∷ l) (append_none xs)

first : {A : Type 0} (xs : List A) → (xs ≡ []) ⊎ ((x : A) × (slice_get xs 0 ≡ Some x))
first [] = inl refl
first (x ∷ xs) = inr (x, refl)

parted : (xs ys : List ℕ) (x : ℕ) → Contains (xs ++ ys) x → Contains xs x ⊎ Contains ys x
parted [] ys x c = inr c
parted (y ∷ xs) ys x (zero, l, e) = inl (0, omega arith, e)
parted (y ∷ xs) ys x (suc k, l, e) = by (parted xs ys x (k, omega (arith, l), e))
  where
    by : Contains xs x ⊎ Contains ys x → Contains (y ∷ xs) x ⊎ Contains ys x
    by (inl r) = inl (suc r.0, let m = r.1 in omega (arith, m), r.2)
    by (inr r) = inr r

module _ (s : Setting) (leaves : Leaves Cause) (outer : List Shape) (seats : List Seat) (at : Layout)
    (seated : IsSeated outer seats at) (args : List PlacedArg) (sits : HeldSits outer args)
    (inside : ℕ) (w : Placed) (owns : HoldOwns s args w) (loop : PlanTree) where
  abbrev form : Form
  form = form_of s.offset first_buffer (held_call args)

  abbrev arrays : ℕ → Array
  arrays = arrays_of outer (held_call args)

  abbrev ls : List SeatedArg
  ls = seated_args s inside seats args

  abbrev pub its_tree : PlanTree
  its_tree = hold_tree inside args ls loop

  abbrev pub its_scope : List Scope
  its_scope = scope_list inside (held_buffers args)

  -- ---- events

  of_ins : (l : List Scope) → IsAround (par_all (map hold_in ls)) l → IsAround its_tree (its_scope ++ l)
  of_ins l h = in_scoped inside (held_buffers args) _ l
      (seq_first (par_all (map hold_in ls)) (seq_all (loop ∷ par_all (map hold_out ls) ∷ [])) l h)

  of_rest : (l : List Scope) → IsAround (seq_all (loop ∷ par_all (map hold_out ls) ∷ [])) l
      → IsAround its_tree (its_scope ++ l)
  of_rest l h = in_scoped inside (held_buffers args) _ l
      (seq_next (par_all (map hold_in ls)) (seq_all (loop ∷ par_all (map hold_out ls) ∷ [])) l h)

  pub of_loop : (l : List Scope) → IsAround loop l → IsAround its_tree (its_scope ++ l)
  of_loop l h = of_rest l (seq_first loop (seq_all (par_all (map hold_out ls) ∷ [])) l h)

  of_outs : (l : List Scope) → IsAround (par_all (map hold_out ls)) l → IsAround its_tree (its_scope ++ l)
  of_outs l h = of_rest l
      (seq_next loop (seq_all (par_all (map hold_out ls) ∷ [])) l
      (seq_first (par_all (map hold_out ls)) (seq_all []) l h))

  pub aside_loop : Aside its_tree → Aside loop
  aside_loop h =
      aside_first loop (seq_all (par_all (map hold_out ls) ∷ []))
      (aside_next (par_all (map hold_in ls)) (seq_all (loop ∷ par_all (map hold_out ls) ∷ []))
      (aside_scoped inside (held_buffers args) _ h))

  -- each argument is copied in, or out
  of_arg : (i : ℕ) (p : PlacedArg) → slice_get args i ≡ Some p → IsAround its_tree (its_scope ++ [])
  of_arg i p e = by r.arg.passed.argument.mode refl
    where
      r : HasRows s outer seats at seated inside args i p
      r = has_rows s outer seats at seated inside args sits.args.each i p e

      comes : IsAround (hold_in r.arg) [] → IsAround its_tree (its_scope ++ [])
      comes h = of_ins [] (in_par_all (map hold_in ls) i (hold_in r.arg) [] (mapped hold_in ls i r.arg r.there) h)

      goes : IsAround (hold_out r.arg) [] → IsAround its_tree (its_scope ++ [])
      goes h = of_outs [] (in_par_all (map hold_out ls) i (hold_out r.arg) [] (mapped hold_out ls i r.arg r.there) h)

      by : (m : Mode) → r.arg.passed.argument.mode ≡ m → IsAround its_tree (its_scope ++ [])
      by Input m = comes (subst (λ (x : Mode). IsAround (hold_in_by x r.arg) []) (sym m)
          (copy_event r.arg.own r.arg.outside r.arg.own r.some))
      by Output m = goes (subst (λ (x : Mode). IsAround (hold_out_by x r.arg) []) (sym m)
          (copy_event r.arg.own r.arg.own r.arg.outside r.some))
      by Both m = comes (subst (λ (x : Mode). IsAround (hold_in_by x r.arg) []) (sym m)
          (copy_event r.arg.own r.arg.outside r.arg.own r.some))

  -- ---- buffers

  held_names : (ps : List PlacedArg) (i : ℕ) (p : PlacedArg) (b n : ℕ) → slice_get ps i ≡ Some p → p.home ≡ Held b n
      → Contains (held_buffers ps) b
  held_names [] i p b n e h = absurd (cc e)
  held_names (q ∷ ps) zero p b n e h =
      let z : q ≡ p = some_same e in
      subst (λ x. Contains (held_of x (held_buffers ps)) b) (sym (ap (λ (y : PlacedArg). y.home) z ∙ h))
      (0, omega arith, refl)
  held_names (q ∷ ps) (suc i) p b n e h = more q.home (held_names ps i p b n e h)
    where
      more : (x : Home) → Contains (held_buffers ps) b → Contains (held_of x (held_buffers ps)) b
      more InPlace r = r
      more (Own y) r = r
      more (Held y m) r = (suc r.0, let l = r.1 in omega (arith, l), r.2)
      more (Twin y z) r = r

  -- a cell of an argument
  record Cell (i k : ℕ) : Type 0 where
    arg : PlacedArg
    buffer : ℕ
    loops : ℕ
    there : slice_get args i ≡ Some arg
    home : arg.home ≡ Held buffer loops
    offset : form i ≡ s.offset buffer
    below : k < s.size buffer

  cell_at : (l : Spot) → IsIn (length args) arrays l → Cell l.area l.index
  cell_at l inn = by p.0.home refl (sits.held l.area p.0 p.1).1
    where
      p : (x : PlacedArg) × (slice_get args l.area ≡ Some x)
      p = below_there args l.area inn.0

      size : l.index < bytes_in p.0.shape
      size = subst (λ (o : Option PlacedArg). l.index < (array_of outer o (slice_get (shapes_of (held_call args))
          l.area)).size) p.1 inn.1

      by : (h : Home) → p.0.home ≡ h → is_held h ≡ true → Cell l.area l.index
      by InPlace e y = absurd (cc y)
      by (Own b) e y = absurd (cc y)
      by (Held b n) e y = record {
        arg = p.0;
        buffer = b;
        loops = n;
        there = p.1;
        home = e;
        offset = (form_is s.offset first_buffer (held_call args)).args l.area p.0 p.1
            ∙ ap (λ x. s.offset (first_buffer x)) e;
        below = let fit = owns.sizes l.area b n p.0 p.1 e in omega (arith, size, fit);
      }
      by (Twin b d) e y = absurd (cc y)

  has_at : (i k : ℕ) (x : Cell i k) → HoldsBuffer args i x.buffer
  has_at i k x = mapped (λ (p : PlacedArg). home_buffer p.home) args i x.arg x.there
      ∙ ap (λ h. Some (home_buffer h)) x.home

  named_at : (i k : ℕ) (x : Cell i k) → IsNamed its_scope inside x.buffer
  named_at i k x = named_in inside (held_buffers args) x.buffer
      (held_names args i x.arg x.buffer x.loops x.there x.home)

  byte_of : (i k : ℕ) (x : Cell i k) → plans.HasByte s x.buffer (form i + k)
  byte_of i k x = let o = x.offset in let b = x.below in record { from = omega (arith, o); below = omega (arith, o, b) }

  -- a cell of one of their buffers, with an event where it is live
  pub record Live (x : Spot) : Type 0 where
    pub around : IsAround its_tree (its_scope ++ [])
    pub buffer : ℕ
    pub named : IsNamed (its_scope ++ []) x.area buffer
    pub byte : plans.HasByte s buffer x.index
    pub holds : (i : ℕ) × HoldsBuffer args i buffer

  pub live_cell : (x : Spot) → HeldCell (at_node s inside) form (length args) arrays x → Live x
  unfolding offset_of
  live_cell x h =
      let l = h.0 in
      let y = cell_at l h.1 in
      subst Live h.3 (record {
        around = of_arg l.area y.arg y.there;
        buffer = y.buffer;
        named = named_left its_scope [] inside y.buffer (named_at l.area l.index y);
        byte = byte_of l.area l.index y;
        holds = (l.area, has_at l.area l.index y);
      })

  -- ---- what room gives

  module _ (pre : List Scope) (room : (l : List Scope) → IsAround its_tree l → HaveRoom s (pre ++ l)) where
    pub separate : (q r : Spot) → IsIn (length args) arrays q → IsIn (length args) arrays r
        → own (at_node s inside) form q ≡ own (at_node s inside) form r → q ≡ r
    unfolding offset_of
    separate q r iq ir e =
        let x = cell_at q iq in
        let y = cell_at r ir in
        let same : form q.area + q.index ≡ form r.area + r.index = ap (λ (z : Spot). z.index) e in
        let all = its_scope ++ [] in
        let one = one_buffer s (pre ++ all) (room all (of_arg q.area x.arg x.there)) inside x.buffer y.buffer
        (form q.area + q.index)
        (named_right pre all inside x.buffer (named_left its_scope [] inside x.buffer (named_at q.area q.index x)))
        (named_right pre all inside y.buffer (named_left its_scope [] inside y.buffer (named_at r.area r.index y)))
        (byte_of q.area q.index x) (subst (λ k. plans.HasByte s y.buffer k) (sym same) (byte_of r.area r.index y)) in
        let area : q.area ≡ r.area = owns.distinct q.area r.area y.buffer
        (subst (HoldsBuffer args q.area) one (has_at q.area q.index x)) (has_at r.area r.index y) in
        let index : q.index ≡ r.index = let f = ap form area in omega (arith, same, f) in
        spot_path q r area index

    -- no cell of a buffer in the loop
    pub below_all : (q : Spot) → IsIn (length args) arrays q → (scopes : List Scope) → IsAround loop scopes → (d : ℕ)
        → IsNamed scopes inside d → plans.HasByte s d (form q.area + q.index) → Opens w d → ⊥
    below_all q iq scopes h d nd byte opens =
        let x = cell_at q iq in
        let all = its_scope ++ scopes in
        let one = one_buffer s (pre ++ all) (room all (of_loop scopes h)) inside x.buffer d (form q.area + q.index)
        (named_right pre all inside x.buffer (named_left its_scope scopes inside x.buffer (named_at q.area q.index x)))
        (named_right pre all inside d (named_right its_scope scopes inside d nd)) (byte_of q.area q.index x) byte in
        owns.inner q.area d (subst (HoldsBuffer args q.area) one (has_at q.area q.index x)) opens

    -- what they hold is in scope in the loop, with what is held round it
    pub still_held : (held : List ℕ) → Holding s pre inside held
        → Holding s (pre ++ its_scope) inside (held_buffers args ++ held)
    still_held held h = record {
      named = λ b c. by_part b (parted (held_buffers args) held b c);
      room = λ b c. by_first b c (first args);
    }
      where
        by_part : (b : ℕ) → Contains (held_buffers args) b ⊎ Contains held b → IsNamed (pre ++ its_scope) inside b
        by_part b (inl c) = named_right pre its_scope inside b (named_in inside (held_buffers args) b c)
        by_part b (inr c) = named_left pre its_scope inside b (h.named b c)

        by_first : (b : ℕ) → Contains (held_buffers args ++ held) b
            → (args ≡ []) ⊎ ((p : PlacedArg) × (slice_get args 0 ≡ Some p)) → HaveRoom s (pre ++ its_scope)
        by_first b c (inl e) =
            subst (λ (ps : List PlacedArg). HaveRoom s (pre ++ scope_list inside (held_buffers ps))) (sym e)
            (subst (HaveRoom s) (sym (append_none pre))
            (h.room b (subst (λ (ps : List PlacedArg). Contains (held_buffers ps ++ held) b) e c)))
        by_first b c (inr (p, e)) =
            subst (λ (l : List Scope). HaveRoom s (pre ++ l)) (append_none its_scope)
            (room (its_scope ++ []) (of_arg 0 p e))
