-- The tree of a placed source is like that of its work on bytes.
use Rattle.std.proofs.Common.{◌≡◌, ℕ, zero, suc, ◌+◌, ◌<◌, Bool, true, false, List, [], ◌∷◌, ◌++◌, map, length, get_or}
use Rattle.std.proofs.Common.{slice_get, Option, Some, None, refl, sym, ap, ◌∙◌, subst, arith, ⊎_elim, eqb, eqb-true}
use Rattle.std.proofs.Common.{◌%◌}
use Rattle.std.specs.Prelude.{if◌then◌else◌, ◌==◌}
use Rattle.std.specs.List.{All, filter, range_with_len}
use mathlib.Core.Path.{fun_ext}
use Rattle.std.proofs.lemmas.Bool.Decides.{nat_tests}
use Rattle.sq_text.specs.declared.spread.SpreadRule.{SpreadRule}
use Rattle.sq_text.specs.Spreading as spreading
use Rattle.sq_leaf.specs.declared.shape.Shape.{Shape}
use Rattle.sq_ir.specs.Tree.{Skip}
use Rattle.sq_ir.specs.Events.{Leaves}
use Rattle.sq_ir.specs.Written.{Setting, PlanTree, seq_of, par_of, scoped}
use Rattle.sq_placed.specs.declared.home.Home.{Home}
use Rattle.sq_placed.specs.declared.home.Home.TheVariants.{InPlace, Own, Held, Twin}
use Rattle.sq_placed.specs.Placed.{Placed, PlacedArg, PlacedCall, Nothing, Then, Each, AtOnce, Gathers, Call, Hold}
use Rattle.sq_placed.specs.Placed.{Piped, Leaf}
use Rattle.sq_placed.specs.Seats.{Seat, SeatedArg, seat_arg, seated_args, own_of, own_seat, local_seat, block_seat}
use Rattle.sq_placed.specs.Trees as trees
use Rattle.sq_placed.specs.Trees.{tree, map_tree, call_in_set, twin_buffers, callee_node, callee_seats, hold_in}
use Rattle.sq_placed.specs.Trees.{hold_out, par_all, seq_all, is_held, held_buffers}
use Rattle.sq_leaf.specs.Leaf.{written_of}
use Rattle.sq_cells.specs.Machine.{Form, Node, child_of, offset_of, fan_of, lane, lane_of, Rule}
use Rattle.sq_cells.specs.Cells.{spot}
use Rattle.sq_cells.specs.Tree as cells
use Rattle.sq_cells.specs.Tree.{Cause}
use Rattle.sq_cells.specs.Work as bytes
use Rattle.sq_cells.specs.Lowered as lowered
use Rattle.sq_cells.specs.Lowered.{Layout, every, pick, beside, turns, held, how_many, even}
use Rattle.sq_cells.specs.Alike.{IsLike}
use Rattle.sq_cells.proofs.Ends.{par_empty_right}
use Rattle.sq_cells.proofs.AlikeParts.{IsSame, same_self, same_then, same_seq_end}
use Rattle.sq_cells.proofs.Combine.{like_same, like_skip, like_seq, like_scoped}
use Rattle.sq_cells.proofs.Leaves.{like_leaf}
use Rattle.sq_cells.specs.LeafCode.{code_of}
use Rattle.sq_plan_laws.specs.Codes.{bytes_in}
use Rattle.sq_plan_laws.specs.Calling.{mode_of, place_of, block_of, array_of, arrays_of, shapes_of, form_of}
use Rattle.sq_plan_laws.specs.Calling.{first_buffer, second_buffer, PassedFits}
use Rattle.sq_plan_laws.specs.OnBytes.{OneCall, work, share, call_or_none, arity_of, size_in, held_call}
use Rattle.sq_plan_laws.specs.Fitting.{IsOne}
use Rattle.sq_plan_laws.proofs.PlacedLists.{mapped_from}
use Rattle.sq_plan_laws.specs.Seated.{seat_cell, IsSeated, AreAt, IsNear, CallSits, HeldSits, PipeSits, Sits, at_node}
use Rattle.sq_plan_laws.specs.LeafLaws.{event_shape, codes_of}
use Rattle.sq_plan_laws.specs.Laws.{TreesAreLike}
use Rattle.sq_plan_laws.proofs.Geometry.{buffer_cell}
use Rattle.sq_plan_laws.proofs.Lists.{like_par_map, like_end, like_iterations, like_children}
use Rattle.sq_plan_laws.proofs.Arguments.{taken, left}
use Rattle.sq_plan_laws.proofs.Places.{joined, laid_is, length_laid}
use Rattle.sq_plan_laws.proofs.Calls.{IsBuffer, number_is, callee_seated, like_call}
use Rattle.sq_plan_laws.proofs.Sets.{form_is, first_is, its_sits, set_layout, set_seated, set_come, set_back, set_work}
use Rattle.sq_plan_laws.proofs.Pipes.{whole, piped_same, piped_like}
use Rattle.sq_plan_laws.proofs.Positions.{those, many_those, place_those, those_there, every_many}
use Rattle.sq_plan_laws.proofs.LeafViews.{shapes_same, are_views, is_called}

-- ---- the seats of a callee stand at its node

module _ (s : Setting) (outer : List Shape) (seats : List Seat) (at : Layout) (seated : IsSeated outer seats at)
    (c : PlacedCall) (sits : CallSits outer c) (node child : ℕ) (here : AreAt node seats) where
  abbrev inside : ℕ
  inside = callee_node s c.lower node child

  near_node : (lower : Bool) → lower ≡ false → node ≡ callee_node s lower node child
  near_node true e = cc
  near_node false e = refl

  pub callee_here : AreAt inside (callee_seats (seated_args s inside seats c.args) (map (local_seat s inside) c.locals))
  callee_here n q e = ⊎_elim arg local
      (joined (map own_of (seated_args s inside seats c.args)) (map (local_seat s inside) c.locals) n q e)
    where
      arg : slice_get (map own_of (seated_args s inside seats c.args)) n ≡ Some q → q.node ≡ inside
      arg h =
          let m = mapped_from own_of (seated_args s inside seats c.args) n q h in
          let i = laid_is s outer seats at seated inside c.args (λ k p y. sits.args.each k p y) n m.0 m.1 in
          subst (λ (x : Seat). x.node ≡ inside) (sym (m.2 ∙ ap own_of i.is))
          (by i.passed i.arg.seat (here i.passed.argument.array i.arg.seat i.arg.there) i.passed.home
          (sits.near n i.passed i.at_i))
        where
          by : (p : PlacedArg) (a : Seat) → a.node ≡ node → (h : Home) → IsNear c.lower h
              → (own_seat s inside p.shape h (block_seat p a)).node ≡ inside
          by p a e InPlace l = e ∙ near_node c.lower l
          by p a e (Own b) l = refl
          by p a e (Held b x) l = refl
          by p a e (Twin b x) l = refl

      local : (j : ℕ) × (n ≡ length (map own_of (seated_args s inside seats c.args)) + j)
          × (slice_get (map (local_seat s inside) c.locals) j ≡ Some q) → q.node ≡ inside
      local h = let m = mapped_from (local_seat s inside) c.locals h.0 q h.2 in ap (λ (x : Seat). x.node) m.2

-- ---- maps

same_test : (x y : ℕ) → (x == y) ≡ eqb x y
same_test x y = grind (arith, nat_tests)

-- empty parts beside one another
nothing_beside : (n : ℕ) → IsSame (beside n (λ c. cells.Empty)) cells.Empty
nothing_beside zero = same_self cells.Empty
nothing_beside (suc n) =
    same_then (cells.Par (beside n (λ c. cells.Empty)) cells.Empty) (beside n (λ c. cells.Empty)) cells.Empty
    (alone (beside n (λ c. cells.Empty))) (nothing_beside n)
  where
    alone : (a : cells.Tree) → IsSame (cells.Par a cells.Empty) a
    alone a = record {
      ends = λ m. sym (par_empty_right a m);
      part = record {
        puts = λ p x. ⊎_elim (λ y. y) (λ y. absurd y) x;
        adds
            = λ o p x. ⊎_elim (λ y. y) (λ y. absurd y) x;
        takes = λ p x. ⊎_elim (λ y. y) (λ y. absurd y) x;
        leaf
            = λ p x. ⊎_elim (λ y. y) (λ y. absurd y) x;
      };
      free = λ x. (
        x,
        tt,
        record {
          puts_puts = λ p y z. z;
          puts_takes = λ p y z. z;
          takes_puts = λ p y z. z;
          puts_adds =
              λ o p y z. z;
          adds_puts = λ o p y z. z;
          takes_adds = λ o p y z. z;
          adds_takes = λ o p y z. z;
          adds_adds
              = λ o o' p y z. absurd z;
        },
      );
      paths = λ x. (x, tt, λ p y z. z);
      fits = λ x. (x, tt);
      counted = λ f. omega arith;
    }

module _ (s : Setting) (leaves : Leaves Cause) where
  chosen_like : (b b' : Bool) (a : PlanTree) (d : cells.Tree) → b ≡ b' → IsLike leaves a d
      → IsLike leaves (if b then a else Skip) (pick b' d cells.Empty)
  chosen_like true true a d e h = h
  chosen_like false false a d e h = like_skip leaves
  chosen_like true false a d e h = cc
  chosen_like false true a d e h = cc

  spread_like : (rule : SpreadRule) (node child n : ℕ) (part : ℕ → ℕ → PlanTree) (g : ℕ → ℕ → cells.Tree)
      → ((c t : ℕ) → t < n → IsLike leaves (part c t) (g c t))
      → IsLike leaves (map_tree s (Some rule) node child n part)
      (beside (fan_of (at_node s node)) (λ c. turns (λ t. eqb (lane_of rule (at_node s node) n t) c) n (g c)))
  unfolding fan_of lane
  spread_like rule node child n part g h =
      like_children leaves (s.children node) _ (λ c. turns (λ t. eqb (lane_of rule (at_node s node) n t) c) n (g c))
      (λ c lc.
      like_iterations leaves n (λ t. if spreading.child_of rule n (s.children node) t == c then part c t else Skip)
      (λ t. eqb (lane_of rule (at_node s node) n t) c) (g c) (λ t lt.
      chosen_like (spreading.child_of rule n (s.children node) t == c)
      (eqb (spreading.child_of rule n (s.children node) t) c) (part c t) (g c t)
      (same_test (spreading.child_of rule n (s.children node) t) c) (h c t lt)))

  -- a map of no iteration
  empty_like : (spread : Option SpreadRule) (node child : ℕ) (part : ℕ → ℕ → PlanTree)
      → IsLike leaves (map_tree s spread node child 0 part) cells.Empty
  unfolding seq_of
  empty_like None node child part = like_skip leaves
  empty_like (Some rule) node child part =
      like_same leaves (map_tree s (Some rule) node child 0 part) (beside (s.children node) (λ c. cells.Empty))
      cells.Empty
      (like_children leaves (s.children node) _ (λ c. cells.Empty) (λ c lc. like_skip leaves))
      (nothing_beside (s.children node))

-- ---- the one call of a `mapreduce`'s iteration

module _ (s : Setting) (leaves : Leaves Cause) (outer : List Shape) (at : Layout) (node : ℕ) where
  abbrev one_call : Placed → OneCall
  one_call p = call_or_none (share (codes_of leaves) s.offset p outer).call

  abbrev call_of : OneCall → Bool → ℕ → List ℕ → cells.Tree
  call_of o lower child path =
      lowered.call_tree (arity_of o.called) (arrays_of outer o.called) at
      (lowered.layout (lowered.node_of lower (at_node s node) child) (form_of s.offset first_buffer o.called)
      (arrays_of outer o.called) at)
      (lowered.tree o.body (lowered.node_of lower (at_node s node) child) 0
      (lowered.layout (lowered.node_of lower (at_node s node) child) (form_of s.offset first_buffer o.called)
      (arrays_of outer o.called) at) path)

  one_is : (p : Placed) → IsOne p → (child : ℕ) (path : List ℕ)
      → lowered.tree (work (codes_of leaves) s.offset p outer) (at_node s node) child at path
      ≡ cells.Seq (call_of (one_call p) (one_call p).called.lower child path) cells.Empty
  one_is p one child path = subst
      (λ x. lowered.tree (work (codes_of leaves) s.offset x outer) (at_node s node) child at path
      ≡ cells.Seq (call_of (one_call x) (one_call x).called.lower child path) cells.Empty) (sym one.is) refl

  one_lower : (p : Placed) → (one : IsOne p) → (one_call p).called.lower ≡ one.called.lower
  one_lower p one = subst (λ x. (one_call x).called.lower ≡ one.called.lower) (sym one.is) refl

  one_like : (p : Placed) → IsOne p → (lower : Bool) → (one_call p).called.lower ≡ lower
      → (child : ℕ) (path : List ℕ) (t : PlanTree)
      → IsLike leaves t (lowered.tree (work (codes_of leaves) s.offset p outer) (at_node s node) child at path)
      → IsLike leaves t (call_of (one_call p) lower child path)
  one_like p one lower e child path t h =
      subst (λ l. IsLike leaves t (call_of (one_call p) l child path)) e
      (like_same leaves t (cells.Seq (call_of (one_call p) (one_call p).called.lower child path) cells.Empty)
      (call_of (one_call p) (one_call p).called.lower child path)
      (subst (IsLike leaves t) (one_is p one child path) h)
      (same_seq_end (call_of (one_call p) (one_call p).called.lower child path)))

-- ---- held arrays

module _ (s : Setting) (leaves : Leaves Cause) (outer : List Shape) (seats : List Seat) (at : Layout)
    (seated : IsSeated outer seats at) (args : List PlacedArg) (sits : HeldSits outer args) (inside : ℕ) where
  abbrev held_ls : List SeatedArg
  held_ls = seated_args s inside seats args

  abbrev held_arr : ℕ → bytes.Array
  held_arr = arrays_of outer (held_call args)

  abbrev held_form : Form
  held_form = form_of s.offset first_buffer (held_call args)

  abbrev as_held : PlacedArg → bytes.Array
  as_held p = record {
    mode = mode_of p;
    place = place_of p.home;
    size = bytes_in p.shape;
    block
        = block_of (slice_get outer p.argument.array) p.argument;
  }

  held_place : (h : Home) → is_held h ≡ true → held (place_of h) ≡ true
  held_place InPlace e = cc
  held_place (Own b) e = cc
  held_place (Held b l) e = refl
  held_place (Twin b c) e = cc

  held_cell : (i : ℕ) (p : PlacedArg) (a : Seat) → slice_get args i ≡ Some p → is_held p.home ≡ true → (k : ℕ) → k
      < bytes_in p.shape → lowered.own (at_node s inside) held_form (spot i k)
      ≡ seat_cell (own_seat s inside p.shape p.home (block_seat p a)) k
  unfolding offset_of
  held_cell i p a e h k lt = by p.home h ((form_is s.offset first_buffer (held_call args)).args i p e)
    where
      by : (x : Home) → is_held x ≡ true → held_form i ≡ s.offset (first_buffer x)
          → lowered.own (at_node s inside) held_form (spot i k)
          ≡ seat_cell (own_seat s inside p.shape x (block_seat p a)) k
      by InPlace h f = cc
      by (Own b) h f = cc
      by (Held b l) h f = ap (λ o. spot inside (o + k)) f ∙ sym (buffer_cell s inside b p.shape k lt)
      by (Twin b c) h f = cc

  abbrev take_of : ℕ → bytes.Array → cells.Tree
  take_of i x = lowered.take_one x.mode (held x.place) x.size (λ k. at (x.block k))
      (λ k. lowered.own (at_node s inside) held_form (spot i k))

  abbrev leave_of : ℕ → bytes.Array → cells.Tree
  leave_of i x = lowered.leave_one x.mode (held x.place) x.size
      (λ k. lowered.own (at_node s inside) held_form (spot i k)) (λ k. at (x.block k))

  all_fit : (k : ℕ) (p : PlacedArg) → slice_get args k ≡ Some p → PassedFits outer p
  all_fit k p e = sits.args.each k p e

  held_is : (i : ℕ) (p : PlacedArg) → slice_get args i ≡ Some p → held_arr i ≡ as_held p
  held_is i p e = ap (λ o. array_of outer o (slice_get (shapes_of (held_call args)) i)) e

  take_like : (i : ℕ) (x : SeatedArg) → slice_get held_ls i ≡ Some x
      → IsLike leaves (hold_in x) (take_of i (held_arr i))
  take_like i x e =
      let l = laid_is s outer seats at seated inside args all_fit i x e in
      let a = l.arg in
      let h = sits.held i l.passed l.at_i in
      subst (λ y. IsLike leaves (hold_in y) (take_of i (held_arr i))) (sym l.is)
      (subst (λ y. IsLike leaves (hold_in (seat_arg s inside l.passed a.seat)) (take_of i y))
      (sym (held_is i l.passed l.at_i))
      (subst (λ b. IsLike leaves (hold_in (seat_arg s inside l.passed a.seat))
      (lowered.take_one (mode_of l.passed) b (bytes_in l.passed.shape)
      (λ k. at (block_of (slice_get outer l.passed.argument.array) l.passed.argument k))
      (λ k. lowered.own (at_node s inside) held_form (spot i k)))) (sym (held_place l.passed.home h.1))
      (taken s outer seats at seated l.passed a.seat a.there a.known a.fit a.elem a.ext inside leaves
      (λ k. lowered.own (at_node s inside) held_form (spot i k)) (held_cell i l.passed a.seat l.at_i h.1) h.0)))

  leave_like : (i : ℕ) (x : SeatedArg) → slice_get held_ls i ≡ Some x
      → IsLike leaves (hold_out x) (leave_of i (held_arr i))
  leave_like i x e =
      let l = laid_is s outer seats at seated inside args all_fit i x e in
      let a = l.arg in
      let h = sits.held i l.passed l.at_i in
      subst (λ y. IsLike leaves (hold_out y) (leave_of i (held_arr i))) (sym l.is)
      (subst (λ y. IsLike leaves (hold_out (seat_arg s inside l.passed a.seat)) (leave_of i y))
      (sym (held_is i l.passed l.at_i))
      (subst (λ b. IsLike leaves (hold_out (seat_arg s inside l.passed a.seat))
      (lowered.leave_one (mode_of l.passed) b (bytes_in l.passed.shape)
      (λ k. lowered.own (at_node s inside) held_form (spot i k))
      (λ k. at (block_of (slice_get outer l.passed.argument.array) l.passed.argument k))))
      (sym (held_place l.passed.home h.1))
      (left s outer seats at seated l.passed a.seat a.there a.known a.fit a.elem a.ext inside leaves
      (λ k. lowered.own (at_node s inside) held_form (spot i k)) (held_cell i l.passed a.seat l.at_i h.1) h.0)))

  pub hold_like : (loop : PlanTree) (d : cells.Tree) → IsLike leaves loop d
      → IsLike leaves (trees.hold_tree inside args held_ls loop)
      (cells.Seq (lowered.takes (at_node s inside) held_form (length args) held_arr at)
      (cells.Seq d (lowered.leaves (at_node s inside) held_form (length args) held_arr at)))
  hold_like loop d h =
      like_scoped leaves inside (held_buffers args)
      (seq_all (par_all (map hold_in held_ls) ∷ loop ∷ par_all (map hold_out held_ls) ∷ [])) _
      (like_seq leaves (par_all (map hold_in held_ls)) (seq_all (loop ∷ par_all (map hold_out held_ls) ∷ []))
      (lowered.takes (at_node s inside) held_form (length args) held_arr at)
      (cells.Seq d (lowered.leaves (at_node s inside) held_form (length args) held_arr at))
      (subst (λ n. IsLike leaves (par_all (map hold_in held_ls)) (beside n (λ i. take_of i (held_arr i))))
      (length_laid s outer seats at seated inside args all_fit)
      (like_par_map leaves hold_in held_ls (λ i. take_of i (held_arr i)) take_like))
      (like_seq leaves loop (seq_all (par_all (map hold_out held_ls) ∷ [])) d
      (lowered.leaves (at_node s inside) held_form (length args) held_arr at) h
      (like_end leaves (par_all (map hold_out held_ls))
      (lowered.leaves (at_node s inside) held_form (length args) held_arr at)
      (subst (λ n. IsLike leaves (par_all (map hold_out held_ls)) (beside n (λ i. leave_of i (held_arr i))))
      (length_laid s outer seats at seated inside args all_fit)
      (like_par_map leaves hold_out held_ls (λ i. leave_of i (held_arr i)) leave_like)))))

-- ---- loops whose transfers overlap

module _ (s : Setting) (leaves : Leaves Cause) (outer : List Shape) (seats : List Seat) (at : Layout)
    (seated : IsSeated outer seats at) (node d n : ℕ) (calls : ℕ → PlacedCall) (w : ℕ → Placed) (path : List ℕ)
    (here : AreAt node seats) (sits : (t : ℕ) → t < n → PipeSits outer (calls t) (calls 0) × Sits leaves (w t)
    (shapes_of (calls t)))
    (ih : (t : ℕ) → t < n → (outer' : List Shape) (seats' : List Seat) (at' : Layout) → Sits leaves (w t) outer'
    → IsSeated outer' seats' at' → AreAt (s.child node d) seats'
    → IsLike leaves (tree s (w t) (s.child node d) 0 seats' (path ++ t ∷ []))
    (lowered.tree (work (codes_of leaves) s.offset (w t) outer') (at_node s (s.child node d)) 0 at' (path ++ t ∷ [])))
    (spread : Option Rule) (q : ℕ → Bool) (pos : ℕ → ℕ) (there : (t : ℕ) → t < n → q t ≡ true → pos (how_many q t) ≡ t)
    (good : (j : ℕ) → j < how_many q n → (pos j < n) × (q (pos j) ≡ true) × (how_many q (pos j) ≡ j))
    (mates_is : (t : ℕ) → t < n → q t ≡ true → how_many (lowered.mates spread (at_node s node) n t) t ≡ how_many q t)
  where
    abbrev below : ℕ
    below = s.child node d

    abbrev N : Node
    N = at_node s node

    abbrev first_form : Form
    first_form = form_of s.offset first_buffer (calls 0)

    abbrev second_form : Form
    second_form = form_of s.offset second_buffer (calls 0)

    abbrev arrays : ℕ → ℕ → bytes.Array
    arrays t = arrays_of outer (calls t)

    abbrev set_at : ℕ → Form
    set_at t = lowered.set_of spread N n first_form second_form t

    abbrev pipe_body : ℕ → cells.Tree
    pipe_body t = lowered.tree (work (codes_of leaves) s.offset (w t) (shapes_of (calls t))) (child_of N d) 0
        (lowered.layout (child_of N d) (set_at t) (arrays t) at) (path ++ t ∷ [])

    abbrev call_in : ℕ → PlacedCall
    call_in j = call_in_set (j % 2) (calls (pos j))

    abbrev laid_in : ℕ → List SeatedArg
    laid_in j = seated_args s below seats (call_in j).args

    abbrev locals_in : ℕ → List Seat
    locals_in j = map (local_seat s below) (call_in j).locals

    node_is : at_node s below ≡ child_of N d
    node_is = sym (number_is s true node d)

    set_is : (j : ℕ) → j < how_many q n → pick (even j) first_form second_form ≡ set_at (pos j)
    set_is j lt = let g = good j lt in sym
        (ap (λ k. pick (even k) first_form second_form) (mates_is (pos j) g.0 g.1 ∙ g.2))

    come_like : (j : ℕ) → j < how_many q n
        → IsLike leaves (trees.come_tree (laid_in j))
        (lowered.piped_come spread N d n first_form second_form (arity_of (calls 0)) arrays at (pos j))
    come_like j lt =
        subst (λ f. IsLike leaves (trees.come_tree (laid_in j))
        (lowered.comes (arity_of (calls 0)) (arrays (pos j)) at
        (lowered.layout (child_of N d) f (arrays (pos j)) at))) (set_is j lt)
        (subst (λ M. IsLike leaves (trees.come_tree (laid_in j))
        (lowered.comes (arity_of (calls 0)) (arrays (pos j)) at
        (lowered.layout M (pick (even j) first_form second_form) (arrays (pos j)) at))) node_is
        (set_come s leaves outer seats at seated (calls (pos j)) (calls 0) (sits (pos j) (good j lt).0).0 below j))

    back_like : (j : ℕ) → j < how_many q n
        → IsLike leaves (trees.back_tree (laid_in j))
        (lowered.piped_back spread N d n first_form second_form (arity_of (calls 0)) arrays at (pos j))
    back_like j lt =
        subst (λ f. IsLike leaves (trees.back_tree (laid_in j))
        (lowered.outs (arity_of (calls 0)) (arrays (pos j)) at (lowered.layout (child_of N d) f (arrays (pos j)) at)))
        (set_is j lt)
        (subst (λ M. IsLike leaves (trees.back_tree (laid_in j))
        (lowered.outs (arity_of (calls 0)) (arrays (pos j)) at
        (lowered.layout M (pick (even j) first_form second_form) (arrays (pos j)) at))) node_is
        (set_back s leaves outer seats at seated (calls (pos j)) (calls 0) (sits (pos j) (good j lt).0).0 below j))

    set_here : (j : ℕ) → j < how_many q n → AreAt below (callee_seats (laid_in j) (locals_in j))
    set_here j lt =
        let ps = (sits (pos j) (good j lt).0).0 in
        subst (λ x. AreAt x (callee_seats (seated_args s x seats (call_in j).args)
        (map (local_seat s x) (call_in j).locals))) (ap (λ b. callee_node s b node d) ps.lower)
        (callee_here s outer seats at seated (call_in j)
        (its_sits s leaves outer seats at seated (calls (pos j)) (calls 0) ps below j) node d here)

    abbrev body_in : ℕ → PlanTree
    body_in j = tree s (w (pos j)) below 0 (callee_seats (laid_in j) (locals_in j)) (path ++ pos j ∷ [])

    work_like : (j : ℕ) → j < how_many q n
        → IsLike leaves (trees.work_tree below (call_in j) (laid_in j) (locals_in j) (body_in j))
        (lowered.piped_work spread N d n first_form second_form (arity_of (calls 0)) arrays at pipe_body (pos j))
    work_like j lt =
        let g = good j lt in
        let ps = (sits (pos j) g.0).0 in
        subst (λ f. IsLike leaves (trees.work_tree below (call_in j) (laid_in j) (locals_in j) (body_in j))
        (lowered.works (arity_of (calls 0)) (arrays (pos j)) at (lowered.layout (child_of N d) f (arrays (pos j)) at)
        (lowered.tree (work (codes_of leaves) s.offset (w (pos j)) (shapes_of (calls (pos j)))) (child_of N d) 0
        (lowered.layout (child_of N d) f (arrays (pos j)) at) (path ++ pos j ∷ [])))) (set_is j lt)
        (subst (λ M. IsLike leaves (trees.work_tree below (call_in j) (laid_in j) (locals_in j) (body_in j))
        (lowered.works (arity_of (calls 0)) (arrays (pos j)) at
        (lowered.layout M (pick (even j) first_form second_form) (arrays (pos j)) at)
        (lowered.tree (work (codes_of leaves) s.offset (w (pos j)) (shapes_of (calls (pos j)))) M 0
        (lowered.layout M (pick (even j) first_form second_form) (arrays (pos j)) at) (path ++ pos j ∷ [])))) node_is
        (set_work s leaves outer seats at seated (calls (pos j)) (calls 0) ps below j (body_in j) _
        (ih (pos j) g.0 (shapes_of (calls (pos j))) (callee_seats (laid_in j) (locals_in j))
        (set_layout s leaves outer seats at seated (calls (pos j)) (calls 0) ps below j) (sits (pos j) g.0).1
        (set_seated s leaves outer seats at seated (calls (pos j)) (calls 0) ps below j) (set_here j lt))))

    abbrev pipe_tree : ℕ → PlanTree
    pipe_tree m = trees.pipeline (λ j. trees.come_tree (laid_in j))
        (λ j. trees.work_tree below (call_in j) (laid_in j) (locals_in j) (body_in j))
        (λ j. trees.back_tree (laid_in j))
        m

    abbrev pipe_cells : cells.Tree
    pipe_cells = lowered.piped (lowered.piped_come spread N d n first_form second_form (arity_of (calls 0)) arrays at)
        (lowered.piped_work spread N d n first_form second_form (arity_of (calls 0)) arrays at pipe_body)
        (lowered.piped_back spread N d n first_form second_form (arity_of (calls 0)) arrays at) q n

    pipe_like : (buffers : List ℕ) → IsLike leaves (scoped below buffers (pipe_tree (how_many q n))) pipe_cells
    pipe_like buffers =
        let come = lowered.piped_come spread N d n first_form second_form (arity_of (calls 0)) arrays at in
        let work' = lowered.piped_work spread N d n first_form second_form (arity_of (calls 0)) arrays at pipe_body in
        let back = lowered.piped_back spread N d n first_form second_form (arity_of (calls 0)) arrays at in
        like_scoped leaves below buffers (pipe_tree (how_many q n)) pipe_cells
        (like_same leaves (pipe_tree (how_many q n))
        (whole (λ j. come (pos j)) (λ j. work' (pos j)) (λ j. back (pos j)) (how_many q n)) pipe_cells
        (piped_like leaves (λ j. trees.come_tree (laid_in j))
        (λ j. trees.work_tree below (call_in j) (laid_in j) (locals_in j) (body_in j))
        (λ j. trees.back_tree (laid_in j))
        (λ j. come (pos j)) (λ j. work' (pos j)) (λ j. back (pos j)) (how_many q n) come_like work_like back_like)
        (piped_same come work' back q n pos there))

-- of a spread map, at each child
module _ (s : Setting) (leaves : Leaves Cause) (outer : List Shape) (seats : List Seat) (at : Layout)
    (seated : IsSeated outer seats at) (node n : ℕ) (calls : ℕ → PlacedCall) (w : ℕ → Placed) (path : List ℕ)
    (here : AreAt node seats) (sits : (t : ℕ) → t < n → PipeSits outer (calls t) (calls 0) × Sits leaves (w t)
    (shapes_of (calls t))) (rule : SpreadRule)
    (ih : (d t : ℕ) → t < n → (outer' : List Shape) (seats' : List Seat) (at' : Layout) → Sits leaves (w t) outer'
    → IsSeated outer' seats' at' → AreAt (s.child node d) seats'
    → IsLike leaves (tree s (w t) (s.child node d) 0 seats' (path ++ t ∷ []))
    (lowered.tree (work (codes_of leaves) s.offset (w t) outer') (at_node s (s.child node d)) 0 at' (path ++ t ∷ [])))
  where
    abbrev its_child : ℕ → ℕ → Bool
    its_child d t = eqb (lane_of rule (at_node s node) n t) d

    abbrev its_list : ℕ → List ℕ
    its_list d = those (its_child d) n

    abbrev part : ℕ → (ℕ → ℕ) → ℕ → PlanTree
    part c pos m =
        let inside = s.child node c in
        let call : ℕ → PlacedCall = λ j. call_in_set (j % 2) (calls (pos j)) in
        let ls : ℕ → List SeatedArg = λ j. seated_args s inside seats (call j).args in
        let locals : ℕ → List Seat = λ j. map (local_seat s inside) (call j).locals in
        let work' : ℕ → PlanTree = λ j. trees.work_tree inside (call j) (ls j) (locals j)
        (tree s (w (pos j)) inside 0 (callee_seats (ls j) (locals j)) (path ++ pos j ∷ [])) in
        scoped inside (twin_buffers (calls (pos 0)).args)
        (trees.pipeline (λ j. trees.come_tree (ls j)) work' (λ j. trees.back_tree (ls j)) m)

    abbrev spread_cells : ℕ → cells.Tree
    spread_cells d =
        lowered.piped (lowered.piped_come (Some rule) (at_node s node) d n (form_of s.offset first_buffer (calls 0))
        (form_of s.offset second_buffer (calls 0)) (arity_of (calls 0)) (λ t. arrays_of outer (calls t)) at)
        (lowered.piped_work (Some rule) (at_node s node) d n (form_of s.offset first_buffer (calls 0))
        (form_of s.offset second_buffer (calls 0)) (arity_of (calls 0)) (λ t. arrays_of outer (calls t)) at
        (λ t. lowered.tree (work (codes_of leaves) s.offset (w t) (shapes_of (calls t))) (child_of (at_node s node) d) 0
        (lowered.layout (child_of (at_node s node) d)
        (lowered.set_of (Some rule) (at_node s node) n (form_of s.offset first_buffer (calls 0))
        (form_of s.offset second_buffer (calls 0)) t) (arrays_of outer (calls t)) at) (path ++ t ∷ [])))
        (lowered.piped_back (Some rule) (at_node s node) d n (form_of s.offset first_buffer (calls 0))
        (form_of s.offset second_buffer (calls 0)) (arity_of (calls 0)) (λ t. arrays_of outer (calls t)) at)
        (its_child d)
        n

    one_child : (d : ℕ) → IsLike leaves (part d (λ j. get_or (its_list d) j 0) (length (its_list d))) (spread_cells d)
    one_child d =
        subst (λ m. IsLike leaves (part d (λ j. get_or (its_list d) j 0) m) (spread_cells d))
        (sym (many_those (its_child d) n))
        (pipe_like s leaves outer seats at seated node d n calls w path here sits (ih d) (Some rule) (its_child d)
        (λ j. get_or (its_list d) j 0) (place_those (its_child d) n) (those_there (its_child d) n)
        (λ t lt y. ap (λ x. how_many (λ u. eqb (lane_of rule (at_node s node) n u) x) t)
        (eqb-true (lane_of rule (at_node s node) n t) d y)) (twin_buffers (calls (get_or (its_list d) 0 0)).args))

    list_is : (d : ℕ) → spreading.iterations_at rule n (s.children node) d ≡ its_list d
    unfolding fan_of lane
    list_is d = ap (λ f. filter f (range_with_len 0 n))
        (fun_ext (λ t. same_test (spreading.child_of rule n (s.children node) t) d))

    pub spread_pipes : IsLike leaves
        (par_of (s.children node) (λ c. part c (λ j. get_or (spreading.iterations_at rule n (s.children node) c) j 0)
        (length (spreading.iterations_at rule n (s.children node) c))) 0)
        (beside (fan_of (at_node s node)) spread_cells)
    unfolding fan_of
    spread_pipes = like_children leaves (s.children node) _ spread_cells
        (λ d ld. subst (λ l. IsLike leaves (part d (λ j. get_or l j 0) (length l)) (spread_cells d)) (sym (list_is d))
        (one_child d))

-- ---- the theorem

module _ (s : Setting) (leaves : Leaves Cause) where
  pub like : (p : Placed) (node child : ℕ) (outer : List Shape) (seats : List Seat) (at : Layout) (path : List ℕ)
      → Sits leaves p outer → IsSeated outer seats at → AreAt node seats
      → IsLike leaves (tree s p node child seats path)
      (lowered.tree (work (codes_of leaves) s.offset p outer) (at_node s node) child at path)
  like Nothing node child outer seats at path sits seated here = like_skip leaves
  like (Then a b) node child outer seats at path sits seated here =
      like_seq leaves (tree s a node child seats path) (tree s b node child seats path) _ _
      (like a node child outer seats at path sits.0 seated here)
      (like b node child outer seats at path sits.1 seated here)
  like (Each n w) node child outer seats at path sits seated here =
      like_iterations leaves n _ every _
      (λ t lt. like (w t) node child outer seats at (path ++ t ∷ []) (sits t lt) seated here)
  like (AtOnce place None n w) node child outer seats at path sits seated here =
      like_iterations leaves n _ every _
      (λ t lt. like (w t) node child outer seats at (path ++ t ∷ []) (sits t lt) seated here)
  like (AtOnce place (Some rule) n w) node child outer seats at path sits seated here =
      spread_like s leaves rule node child n (λ c t. tree s (w t) node c seats (path ++ t ∷ []))
      (λ c t. lowered.tree (work (codes_of leaves) s.offset (w t) outer) (at_node s node) c at (path ++ t ∷ []))
      (λ c t lt. like (w t) node c outer seats at (path ++ t ∷ []) (sits t lt) seated here)
  like (Gathers r place None zero w) node child outer seats at path sits seated here
      = empty_like s leaves None node child (λ c t. tree s (w t) node c seats (path ++ t ∷ []))
  like (Gathers r place (Some rule) zero w) node child outer seats at path sits seated here
      = empty_like s leaves (Some rule) node child (λ c t. tree s (w t) node c seats (path ++ t ∷ []))
  like (Gathers r place None (suc n) w) node child outer seats at path sits seated here =
      like_iterations leaves (suc n) _ every _ (λ t lt.
      one_like s leaves outer at node (w t) (sits.1 t lt).0 (one_call s leaves outer at node (w 0)).called.lower
      (one_lower s leaves outer at node (w t) (sits.1 t lt).0 ∙ (sits.1 t lt).1
      ∙ sym (one_lower s leaves outer at node (w 0) (sits.1 0 (omega arith)).0 ∙ (sits.1 0 (omega arith)).1)) child
      (path ++ t ∷ []) _
      (like (w t) node child outer seats at (path ++ t ∷ []) (sits.1 t lt).2 seated here))
  like (Gathers r place (Some rule) (suc n) w) node child outer seats at path sits seated here =
      spread_like s leaves rule node child (suc n) (λ c t. tree s (w t) node c seats (path ++ t ∷ []))
      (λ c t. call_of s leaves outer at node (one_call s leaves outer at node (w t))
      (one_call s leaves outer at node (w 0)).called.lower c (path ++ t ∷ [])) (λ c t lt.
      one_like s leaves outer at node (w t) (sits.1 t lt).0 (one_call s leaves outer at node (w 0)).called.lower
      (one_lower s leaves outer at node (w t) (sits.1 t lt).0 ∙ (sits.1 t lt).1
      ∙ sym (one_lower s leaves outer at node (w 0) (sits.1 0 (omega arith)).0 ∙ (sits.1 0 (omega arith)).1)) c
      (path ++ t ∷ []) _
      (like (w t) node c outer seats at (path ++ t ∷ []) (sits.1 t lt).2 seated here))
  like (Call c w) node child outer seats at path sits seated here =
      let inside = callee_node s c.lower node child in
      let form = form_of s.offset first_buffer c in
      let forms = form_is s.offset first_buffer c in
      let first : (i : ℕ) (p : PlacedArg) → slice_get c.args i ≡ Some p → IsBuffer first_buffer p.home
      = λ i p e. first_is p.home in
      subst (λ M. IsLike leaves (tree s (Call c w) node child seats path)
      (lowered.call_tree (arity_of c) (arrays_of outer c) at (lowered.layout M form (arrays_of outer c) at)
      (lowered.tree (work (codes_of leaves) s.offset w (shapes_of c)) M 0
      (lowered.layout M form (arrays_of outer c) at) path))) (sym (number_is s c.lower node child))
      (like_call s leaves outer seats at seated c sits.0 inside first_buffer form forms first _ _
      (like w inside 0 (shapes_of c) _ _ path sits.1
      (callee_seated s leaves outer seats at seated c sits.0 inside first_buffer form forms first)
      (callee_here s outer seats at seated c sits.0 node child here)))
  like (Hold args w) node child outer seats at path sits seated here =
      subst (λ M. IsLike leaves (tree s (Hold args w) node child seats path)
      (cells.Seq (lowered.takes M (form_of s.offset first_buffer (held_call args)) (length args)
      (arrays_of outer (held_call args)) at)
      (cells.Seq (lowered.tree (work (codes_of leaves) s.offset w outer) (at_node s node) child at path)
      (lowered.leaves M (form_of s.offset first_buffer (held_call args)) (length args)
      (arrays_of outer (held_call args)) at)))) (sym (number_is s true node child))
      (hold_like s leaves outer seats at seated args sits.0 (s.child node child) _ _
      (like w node child outer seats at path sits.1 seated here))
  like (Piped None n calls w) node child outer seats at path sits seated here =
      subst (λ m. IsLike leaves (scoped (s.child node child) (twin_buffers (calls 0).args)
      (pipe_tree s leaves outer seats at seated node child n calls w path here sits
      (λ t lt o x a. like (w t) (s.child node child) 0 o x a (path ++ t ∷ [])) None every (λ j. j)
      (λ t lt y. every_many t) (λ j lt. (subst (λ k. j < k) (every_many n) lt, refl, every_many j)) (λ t lt y. refl)
      m)) (lowered.tree (work (codes_of leaves) s.offset (Piped None n calls w) outer) (at_node s node) child at
      path)) (every_many n)
      (pipe_like s leaves outer seats at seated node child n calls w path here sits
      (λ t lt o x a. like (w t) (s.child node child) 0 o x a (path ++ t ∷ [])) None every (λ j. j)
      (λ t lt y. every_many t) (λ j lt. (subst (λ k. j < k) (every_many n) lt, refl, every_many j)) (λ t lt y. refl)
      (twin_buffers (calls 0).args))
  like (Piped (Some p) n calls w) node child outer seats at path sits seated here =
      spread_pipes s leaves outer seats at seated node n calls w path here sits p.1
      (λ d t lt o x a. like (w t) (s.child node d) 0 o x a (path ++ t ∷ []))
  like (Leaf code leaf shapes) node child outer seats at path sits seated here =
      subst (λ x. IsLike leaves (tree s (Leaf code leaf shapes) node child seats path)
      (lowered.tree (work (codes_of leaves) s.offset (Leaf code leaf x) outer) (at_node s node) child at path))
      (sym sits.same)
      (subst (λ x. IsLike leaves (tree s (Leaf code leaf shapes) node child seats path)
      (cells.Act (cells.Run (code_of leaves code x) (length outer) (λ i. size_in (slice_get outer i))
      (λ i. get_or (written_of leaf.variant) i false) (λ i k. at (spot i k)) path)))
      (sym (shapes_same leaves node code leaf outer seats at sits.written seated here))
      (like_leaf leaves node code (map (λ (q : Seat). q.view) seats) path (length outer)
      (λ i. size_in (slice_get outer i)) (λ i. get_or (written_of leaf.variant) i false) (λ i k. at (spot i k))
      (are_views leaves node code leaf outer seats at sits.written seated here)
      (is_called leaves node code leaf outer seats at sits.written seated here
      (subst (λ x. leaves.shapes code ≡ Some (map event_shape x)) sits.same sits.there)
      (subst (λ x. (n : ℕ) (sh : Shape) → slice_get x n ≡ Some sh → All (λ k. 0 < k) sh.extents) sits.same sits.some))))

pub trees_are_like : TreesAreLike
trees_are_like s leaves p node child outer seats at path sits seated here
    = like s leaves p node child outer seats at path sits seated here
