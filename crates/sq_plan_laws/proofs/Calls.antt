-- A call's tree is like that of its work.
use Rattle.std.proofs.Common.{◌≡◌, ℕ, ◌+◌, ◌-◌, ◌%◌, ◌<◌, Bool, true, false, List, [], ◌∷◌, map, length, slice_get}
use Rattle.std.proofs.Common.{Option, Some, None, refl, sym, ap, ap₂, ◌∙◌, subst, arith, ⊎_elim, pos}
use Rattle.std.specs.Prelude.{if◌then◌else◌}
use Rattle.sq_num.specs.declared.Elem.{Elem}
use Rattle.sq_num.specs.declared.RedOp.{RedOp}
use Rattle.sq_num.specs.Elements.{width}
use Rattle.sq_ast.specs.declared.program.Mode as source
use Rattle.sq_ast.specs.declared.program.Mode.TheVariants as mode
use Rattle.sq_leaf.specs.declared.shape.Shape.{Shape}
use Rattle.sq_ir.specs.Tree.{Skip}
use Rattle.sq_ir.specs.Events.{Leaves}
use Rattle.sq_ir.specs.Written.{Setting, PlanTree}
use Rattle.sq_placed.specs.declared.home.Home.{Home}
use Rattle.sq_placed.specs.declared.home.Home.TheVariants.{InPlace, Own, Held, Twin}
use Rattle.sq_placed.specs.Placed.{PlacedArg, PlacedLocal, PlacedCall}
use Rattle.sq_placed.specs.Seats.{Seat, SeatedArg, seat_arg, seated_args, own_of, own_seat, local_seat, block_seat}
use Rattle.sq_placed.specs.Trees as trees
use Rattle.sq_placed.specs.Trees.{seq_all, par_all, clear, bring, give_back, callee_node, call_buffers, local_buffers}
use Rattle.sq_placed.specs.Trees.{callee_seats}
use Rattle.sq_cells.specs.Machine.{Form, child_of, offset_of}
use Rattle.sq_cells.specs.Cells.{Spot, spot}
use Rattle.sq_cells.specs.Tree as cells
use Rattle.sq_cells.specs.Tree.{Cause}
use Rattle.sq_cells.specs.Work.{Array}
use Rattle.sq_cells.specs.Lowered as lowered
use Rattle.sq_cells.specs.Lowered.{Layout, stays, in_place, pick, beside}
use Rattle.sq_cells.specs.Alike.{IsLike}
use Rattle.sq_cells.proofs.AlikeParts.{IsSame}
use Rattle.sq_cells.proofs.Combine.{like_same, like_skip, like_seq, like_scoped}
use Rattle.sq_plan_laws.specs.Codes.{bytes_in}
use Rattle.sq_plan_laws.specs.Calling.{mode_by, mode_of, place_of, block_of, local_of, array_of, arrays_of}
use Rattle.sq_plan_laws.specs.Calling.{shapes_of, PassedFits}
use Rattle.sq_plan_laws.specs.OnBytes.{arity_of}
use Rattle.sq_plan_laws.proofs.PlacedLists.{mapped, mapped_from}
use Rattle.sq_plan_laws.specs.Seated.{IsLined, shape_of, seat_cell, IsSeated, CallSits, at_node}
use Rattle.sq_plan_laws.proofs.Geometry.{lined_buffer, buffer_cell, seat_rows}
use Rattle.sq_plan_laws.proofs.Lists.{beside_more, beside_less, like_par_map, like_end}
use Rattle.sq_plan_laws.proofs.Arguments.{like_fill, zeros, from_is, own_shape, own_is_lined, brought, given}
use Rattle.sq_plan_laws.proofs.Places.{below_there, nothing_there, behind, joined, length-mapped, length-joined, ArgIs}
use Rattle.sq_plan_laws.proofs.Places.{laid_is, length_laid, callee_shapes}

-- the offsets of a form are those of the buffers of its arrays
pub record FormIs (offset : ℕ → ℕ) (buffer : Home → ℕ) (form : Form) (c : PlacedCall) : Type 0 where
  pub args : (i : ℕ) (p : PlacedArg) → slice_get c.args i ≡ Some p → form i ≡ offset (buffer p.home)
  pub locals : (j : ℕ) (l : PlacedLocal) → slice_get c.locals j ≡ Some l → form (length c.args + j) ≡ offset l.buffer

-- where a parameter has a buffer, it is this one
abbrev pub IsBuffer : (Home → ℕ) → Home → Type 0
IsBuffer buffer InPlace = Unit {0}
IsBuffer buffer (Own b) = buffer (Own b) ≡ b
IsBuffer buffer (Held b l) = buffer (Held b l) ≡ b
IsBuffer buffer (Twin b c) = buffer (Twin b c) ≡ b

not_local : (g : Option RedOp) (e : Elem) (m : source.Mode) (n : ℕ) (to : ℕ → Spot) → lowered.clear (mode_by g e m) n to
    ≡ cells.Empty
not_local None e mode.Input n to = refl
not_local None e mode.Output n to = refl
not_local None e mode.Both n to = refl
not_local (Some op) e m n to = refl

pub number_is : (s : Setting) (lower : Bool) (node child : ℕ) → lowered.node_of lower (at_node s node) child
    ≡ at_node s (callee_node s lower node child)
unfolding child_of
number_is s true node child = refl
number_is s false node child = refl

module _ (s : Setting) (leaves : Leaves Cause) (outer : List Shape) (seats : List Seat) (at : Layout)
    (seated : IsSeated outer seats at) (c : PlacedCall) (sits : CallSits outer c) (inside : ℕ) (buffer : Home → ℕ)
    (form : Form) (forms : FormIs s.offset buffer form c)
    (buffers : (i : ℕ) (p : PlacedArg) → slice_get c.args i ≡ Some p → IsBuffer buffer p.home) where
  abbrev pub arr : ℕ → Array
  arr = arrays_of outer c

  abbrev pub inner : Layout
  inner = lowered.layout (at_node s inside) form arr at

  abbrev ls : List SeatedArg
  ls = seated_args s inside seats c.args

  abbrev pub its_seats : List Seat
  its_seats = callee_seats ls (map (local_seat s inside) c.locals)

  fits : (k : ℕ) (p : PlacedArg) → slice_get c.args k ≡ Some p → PassedFits outer p
  fits k p e = sits.args.each k p e

  -- ---- what each array is

  abbrev as_array : PlacedArg → Array
  as_array p = record {
    mode = mode_of p;
    place = place_of p.home;
    size = bytes_in p.shape;
    block
        = block_of (slice_get outer p.argument.array) p.argument;
  }

  pub array_is : (i : ℕ) (p : PlacedArg) → slice_get c.args i ≡ Some p → arr i ≡ as_array p
  array_is i p e = ap (λ o. array_of outer o (slice_get (shapes_of c) i)) e

  pub local_is : (j : ℕ) (l : PlacedLocal) → slice_get c.locals j ≡ Some l → arr (length c.args + j)
      ≡ local_of (Some l.shape)
  local_is j l e =
      ap (λ o. array_of outer o (slice_get (shapes_of c) (length c.args + j))) (nothing_there c.args j)
      ∙ ap local_of (ap (λ n. slice_get (shapes_of c) (n + j)) (sym (length-mapped (λ (p : PlacedArg). p.shape) c.args))
      ∙ behind (map (λ (p : PlacedArg). p.shape) c.args) (map (λ (k : PlacedLocal). k.shape) c.locals) j
      ∙ mapped (λ (k : PlacedLocal). k.shape) c.locals j l e)

  pub arity_is : arity_of c ≡ length c.args + length c.locals
  arity_is = length-joined (map (λ (p : PlacedArg). p.shape) c.args) (map (λ (k : PlacedLocal). k.shape) c.locals)
      ∙ ap₂ (λ x y. x + y) (length-mapped (λ (p : PlacedArg). p.shape) c.args)
      (length-mapped (λ (k : PlacedLocal). k.shape) c.locals)

  -- ---- where each array stands

  pub arg_cell : (i : ℕ) (p : PlacedArg) → slice_get c.args i ≡ Some p → (a : ArgIs s outer seats at seated inside p)
      → (k : ℕ) → k < bytes_in p.shape → inner (spot i k)
      ≡ seat_cell (own_seat s inside p.shape p.home (block_seat p a.seat)) k
  unfolding offset_of
  arg_cell i p e a k lt = ap (λ x. pick (in_place x.place) (at (x.block k))
      (lowered.own (at_node s inside) form (spot i k))) (array_is i p e) ∙ by p.home (buffers i p e) (forms.args i p e)
    where
      by : (h : Home) → IsBuffer buffer h → form i ≡ s.offset (buffer h)
          → pick (in_place (place_of h)) (at (block_of (slice_get outer p.argument.array) p.argument k))
          (lowered.own (at_node s inside) form (spot i k))
          ≡ seat_cell (own_seat s inside p.shape h (block_seat p a.seat)) k
      by InPlace b f = from_is s outer seats at seated p a.seat a.there a.known a.fit a.elem a.ext inside k lt
      by (Own x) b f = ap (λ o. spot inside (o + k)) (f ∙ ap s.offset b) ∙ sym (buffer_cell s inside x p.shape k lt)
      by (Held x l) b f = ap (λ o. spot inside (o + k)) (f ∙ ap s.offset b) ∙ sym (buffer_cell s inside x p.shape k lt)
      by (Twin x y) b f = ap (λ o. spot inside (o + k)) (f ∙ ap s.offset b) ∙ sym (buffer_cell s inside x p.shape k lt)

  pub local_cell : (j : ℕ) (l : PlacedLocal) → slice_get c.locals j ≡ Some l → (k : ℕ) → k < bytes_in l.shape
      → inner (spot (length c.args + j) k) ≡ seat_cell (local_seat s inside l) k
  unfolding offset_of
  local_cell j l e k lt =
      ap (λ x. pick (in_place x.place) (at (x.block k))
      (lowered.own (at_node s inside) form (spot (length c.args + j) k))) (local_is j l e)
      ∙ ap (λ o. spot inside (o + k)) (forms.locals j l e) ∙ sym (buffer_cell s inside l.buffer l.shape k lt)

  -- the callee's arrays
  pub callee_seated : IsSeated (shapes_of c) its_seats inner
  callee_seated = record {
    shapes = callee_shapes s outer seats at seated inside c fits;
    lined = λ n q e. ⊎_elim (λ h. lined_arg n q h) (λ h. lined_local h.0 q h.2)
        (joined (map own_of ls) (map (local_seat s inside) c.locals) n q e);
    cells = λ n k q e lt. ⊎_elim (λ h. cell_arg n k q h lt)
        (λ h. subst (λ m. inner (spot m k) ≡ seat_cell q k) (sym (here h.0 n h.1)) (cell_local h.0 k q h.2 lt))
        (joined (map own_of ls) (map (local_seat s inside) c.locals) n q e);
  }
    where
      here : (j n : ℕ) → n ≡ length (map own_of ls) + j → n ≡ length c.args + j
      here j n e = e ∙ ap (λ m. m + j)
          (length-mapped own_of ls ∙ length_laid s outer seats at seated inside c.args fits)

      lined_arg : (n : ℕ) (q : Seat) → slice_get (map own_of ls) n ≡ Some q → IsLined q.view.extents q.view.strides
      lined_arg n q e =
          let m = mapped_from own_of ls n q e in
          let i = laid_is s outer seats at seated inside c.args fits n m.0 m.1 in
          let a = i.arg in
          subst (λ (x : Seat). IsLined x.view.extents x.view.strides) (sym (m.2 ∙ ap own_of i.is))
          (own_is_lined s outer seats at seated i.passed a.seat a.there a.known a.fit a.elem a.ext inside)

      lined_local : (j : ℕ) (q : Seat) → slice_get (map (local_seat s inside) c.locals) j ≡ Some q
          → IsLined q.view.extents q.view.strides
      lined_local j q e =
          let m = mapped_from (local_seat s inside) c.locals j q e in
          subst (λ (x : Seat). IsLined x.view.extents x.view.strides) (sym m.2)
          (lined_buffer m.0.shape.extents (sits.locals j m.0 m.1))

      cell_arg : (n k : ℕ) (q : Seat) → slice_get (map own_of ls) n ≡ Some q → k < bytes_in (shape_of q)
          → inner (spot n k) ≡ seat_cell q k
      cell_arg n k q e lt =
          let m = mapped_from own_of ls n q e in
          let i = laid_is s outer seats at seated inside c.args fits n m.0 m.1 in
          let a = i.arg in
          let z = m.2 ∙ ap own_of i.is in
          let lt' : k < bytes_in i.passed.shape
          = subst (λ x. k < bytes_in x) (ap shape_of z ∙ own_shape s outer seats at seated i.passed a.seat a.there
          a.known a.fit a.elem a.ext inside) lt in
          arg_cell n i.passed i.at_i a k lt' ∙ ap (λ x. seat_cell x k) (sym z)

      cell_local : (j k : ℕ) (q : Seat) → slice_get (map (local_seat s inside) c.locals) j ≡ Some q → k
          < bytes_in (shape_of q) → inner (spot (length c.args + j) k) ≡ seat_cell q k
      cell_local j k q e lt =
          let m = mapped_from (local_seat s inside) c.locals j q e in
          local_cell j m.0 m.1 k (subst (λ x. k < bytes_in (shape_of x)) m.2 lt) ∙ ap (λ x. seat_cell x k) (sym m.2)

  -- ---- the parts of the call

  -- parts of which only arguments have one
  only_args : (f : SeatedArg → PlanTree) (g : ℕ → cells.Tree)
      → ((i : ℕ) (x : SeatedArg) → slice_get ls i ≡ Some x → IsLike leaves (f x) (g i))
      → ((j : ℕ) (l : PlacedLocal) → slice_get c.locals j ≡ Some l → g (length c.args + j) ≡ cells.Empty)
      → IsLike leaves (par_all (map f ls)) (beside (arity_of c) g)
  only_args f g each none =
      let a = length c.args in
      let l = length c.locals in
      like_same leaves (par_all (map f ls)) (beside a g) (beside (arity_of c) g)
      (subst (λ n. IsLike leaves (par_all (map f ls)) (beside n g))
      (length_laid s outer seats at seated inside c.args fits) (like_par_map leaves f ls g each))
      (subst (λ n. IsSame (beside a g) (beside n g)) (sym arity_is) (beside_more a l g (λ i lo hi.
      let t = below_there c.locals (i - a) (omega (arith, lo, hi)) in
      let e : a + (i - a) ≡ i = omega (arith, lo) in
      subst (λ n. g n ≡ cells.Empty) e (none (i - a) t.0 t.1))))

  abbrev in_of : ℕ → Array → cells.Tree
  in_of i x = lowered.bring x.mode (stays x.place) x.size (λ k. at (x.block k)) (λ k. inner (spot i k))

  abbrev out_of : ℕ → Array → cells.Tree
  out_of i x = lowered.give_back x.mode (stays x.place) x.size (λ k. inner (spot i k)) (λ k. at (x.block k))

  abbrev clear_of : ℕ → Array → cells.Tree
  clear_of i x = lowered.clear x.mode x.size (λ k. inner (spot i k))

  pub bring_one : (i : ℕ) (x : SeatedArg) → slice_get ls i ≡ Some x → IsLike leaves (bring x) (in_of i (arr i))
  bring_one i x e =
      let l = laid_is s outer seats at seated inside c.args fits i x e in
      let a = l.arg in
      subst (λ y. IsLike leaves (bring y) (in_of i (arr i))) (sym l.is)
      (subst (λ y. IsLike leaves (bring (seat_arg s inside l.passed a.seat)) (in_of i y))
      (sym (array_is i l.passed l.at_i))
      (brought s outer seats at seated l.passed a.seat a.there a.known a.fit a.elem a.ext inside leaves
      (λ k. inner (spot i k)) (arg_cell i l.passed l.at_i a) (sits.owned i l.passed l.at_i)))

  pub give_one : (i : ℕ) (x : SeatedArg) → slice_get ls i ≡ Some x → IsLike leaves (give_back x) (out_of i (arr i))
  give_one i x e =
      let l = laid_is s outer seats at seated inside c.args fits i x e in
      let a = l.arg in
      subst (λ y. IsLike leaves (give_back y) (out_of i (arr i))) (sym l.is)
      (subst (λ y. IsLike leaves (give_back (seat_arg s inside l.passed a.seat)) (out_of i y))
      (sym (array_is i l.passed l.at_i))
      (given s outer seats at seated l.passed a.seat a.there a.known a.fit a.elem a.ext inside leaves
      (λ k. inner (spot i k)) (arg_cell i l.passed l.at_i a) (sits.owned i l.passed l.at_i)))

  pub like_ins : IsLike leaves (par_all (map bring ls)) (lowered.ins (arity_of c) arr at inner)
  like_ins = only_args bring (λ i. in_of i (arr i)) bring_one (λ j l e. ap (in_of (length c.args + j)) (local_is j l e))

  pub like_outs : IsLike leaves (par_all (map give_back ls)) (lowered.outs (arity_of c) arr at inner)
  like_outs = only_args give_back (λ i. out_of i (arr i)) give_one
      (λ j l e. ap (out_of (length c.args + j)) (local_is j l e))

  clear_one : (j : ℕ) (l : PlacedLocal) → slice_get c.locals j ≡ Some l
      → IsLike leaves (clear (local_seat s inside l)) (clear_of (length c.args + j) (arr (length c.args + j)))
  clear_one j l e =
      subst (λ x. IsLike leaves (clear (local_seat s inside l)) (clear_of (length c.args + j) x)) (sym (local_is j l e))
      (like_fill leaves (pos 0) (local_seat s inside l) (bytes_in l.shape) (λ k. inner (spot (length c.args + j) k))
      (λ k. 0)
      (seat_rows (local_seat s inside l) l.shape.extents (width l.shape.elem) (bytes_in l.shape)
      (λ k. inner (spot (length c.args + j) k)) (lined_buffer l.shape.extents (sits.locals j l e)) refl refl refl
      (λ k lt. local_cell j l e k lt))
      (λ k lt. zeros l.shape.elem (k % width l.shape.elem)))

  like_clears : IsLike leaves (par_all (map clear (map (local_seat s inside) c.locals)))
      (beside (arity_of c) (λ i. clear_of i (arr i)))
  like_clears =
      let a = length c.args in
      let l = length c.locals in
      like_same leaves (par_all (map clear (map (local_seat s inside) c.locals)))
      (beside l (λ j. clear_of (a + j) (arr (a + j)))) (beside (arity_of c) (λ i. clear_of i (arr i)))
      (subst (λ n. IsLike leaves (par_all (map clear (map (local_seat s inside) c.locals)))
      (beside n (λ j. clear_of (a + j) (arr (a + j))))) (length-mapped (local_seat s inside) c.locals)
      (like_par_map leaves clear (map (local_seat s inside) c.locals) (λ j. clear_of (a + j) (arr (a + j))) (λ j q e.
      let m = mapped_from (local_seat s inside) c.locals j q e in
      subst (λ x. IsLike leaves (clear x) (clear_of (a + j) (arr (a + j)))) (sym m.2) (clear_one j m.0 m.1))))
      (subst (λ n. IsSame (beside l (λ j. clear_of (a + j) (arr (a + j)))) (beside n (λ i. clear_of i (arr i))))
      (sym arity_is) (beside_less a l (λ i. clear_of i (arr i)) (λ i lt.
      let t = below_there c.args i lt in
      ap (clear_of i) (array_is i t.0 t.1)
      ∙ not_local t.0.gathers t.0.shape.elem t.0.argument.mode (bytes_in t.0.shape) (λ k. inner (spot i k)))))

  pub like_callee : (body : PlanTree) (d : cells.Tree) → IsLike leaves body d
      → IsLike leaves (trees.callee_tree inside c.locals (map (local_seat s inside) c.locals) body)
      (lowered.callee (arity_of c) arr inner d)
  like_callee body d h =
      like_scoped leaves inside (local_buffers c.locals)
      (seq_all (par_all (map clear (map (local_seat s inside) c.locals)) ∷ body ∷ []))
      (lowered.callee (arity_of c) arr inner d)
      (like_seq leaves (par_all (map clear (map (local_seat s inside) c.locals))) (seq_all (body ∷ []))
      (beside (arity_of c) (λ i. clear_of i (arr i))) d like_clears (like_end leaves body d h))

  pub like_call : (body : PlanTree) (d : cells.Tree) → IsLike leaves body d
      → IsLike leaves (trees.call_tree inside c ls (map (local_seat s inside) c.locals) body)
      (lowered.call_tree (arity_of c) arr at inner d)
  like_call body d h =
      let middle = trees.callee_tree inside c.locals (map (local_seat s inside) c.locals) body in
      like_scoped leaves inside (call_buffers c.args)
      (seq_all (par_all (map bring ls) ∷ middle ∷ par_all (map give_back ls) ∷ []))
      (lowered.call_tree (arity_of c) arr at inner d)
      (like_seq leaves (par_all (map bring ls)) (seq_all (middle ∷ par_all (map give_back ls) ∷ []))
      (lowered.ins (arity_of c) arr at inner)
      (cells.Seq (lowered.callee (arity_of c) arr inner d) (lowered.outs (arity_of c) arr at inner)) like_ins
      (like_seq leaves middle (seq_all (par_all (map give_back ls) ∷ [])) (lowered.callee (arity_of c) arr inner d)
      (lowered.outs (arity_of c) arr at inner) (like_callee body d h)
      (like_end leaves (par_all (map give_back ls)) (lowered.outs (arity_of c) arr at inner) like_outs)))

  -- ---- the parts of a taken loop's call

  held_place : (h : Home) → lowered.held (place_of h) ≡ trees.is_held h
  held_place InPlace = refl
  held_place (Own b) = refl
  held_place (Held b l) = refl
  held_place (Twin b d) = refl

  abbrev come_of : ℕ → Array → cells.Tree
  come_of i x = pick (lowered.held x.place) cells.Empty (in_of i x)

  abbrev start_of : ℕ → Array → cells.Tree
  start_of i x = pick (lowered.held x.place) (in_of i x) cells.Empty

  come_one : (i : ℕ) (x : SeatedArg) → slice_get ls i ≡ Some x → IsLike leaves (trees.come_in x) (come_of i (arr i))
  come_one i x e =
      let l = laid_is s outer seats at seated inside c.args fits i x e in
      let h : lowered.held (arr i).place ≡ trees.is_held x.passed.home
      = ap (λ y. lowered.held y.place) (array_is i l.passed l.at_i) ∙ held_place l.passed.home
      ∙ sym (ap (λ (y : SeatedArg). trees.is_held y.passed.home) l.is) in
      by (trees.is_held x.passed.home) (lowered.held (arr i).place) h
    where
      by : (b d : Bool) → d ≡ b → IsLike leaves (if b then Skip else bring x) (pick d cells.Empty (in_of i (arr i)))
      by true true q = like_skip leaves
      by false false q = bring_one i x e
      by true false q = cc
      by false true q = cc

  start_one : (i : ℕ) (x : SeatedArg) → slice_get ls i ≡ Some x → IsLike leaves (trees.fill_held x) (start_of i (arr i))
  start_one i x e =
      let l = laid_is s outer seats at seated inside c.args fits i x e in
      let h : lowered.held (arr i).place ≡ trees.is_held x.passed.home
      = ap (λ y. lowered.held y.place) (array_is i l.passed l.at_i) ∙ held_place l.passed.home
      ∙ sym (ap (λ (y : SeatedArg). trees.is_held y.passed.home) l.is) in
      by (trees.is_held x.passed.home) (lowered.held (arr i).place) h
    where
      by : (b d : Bool) → d ≡ b → IsLike leaves (if b then bring x else Skip) (pick d (in_of i (arr i)) cells.Empty)
      by true true q = bring_one i x e
      by false false q = like_skip leaves
      by true false q = cc
      by false true q = cc

  pub like_comes : IsLike leaves (trees.come_tree ls) (lowered.comes (arity_of c) arr at inner)
  like_comes = only_args trees.come_in (λ i. come_of i (arr i)) come_one
      (λ j l e. ap (come_of (length c.args + j)) (local_is j l e))

  pub like_works : (body : PlanTree) (d : cells.Tree) → IsLike leaves body d
      → IsLike leaves (trees.work_tree inside c ls (map (local_seat s inside) c.locals) body)
      (lowered.works (arity_of c) arr at inner d)
  like_works body d h =
      let middle = trees.callee_tree inside c.locals (map (local_seat s inside) c.locals) body in
      like_seq leaves (par_all (map trees.fill_held ls)) (seq_all (middle ∷ []))
      (lowered.starts (arity_of c) arr at inner) (lowered.callee (arity_of c) arr inner d)
      (only_args trees.fill_held (λ i. start_of i (arr i)) start_one
      (λ j l e. ap (start_of (length c.args + j)) (local_is j l e)))
      (like_end leaves middle (lowered.callee (arity_of c) arr inner d) (like_callee body d h))
