-- What is known of a placed source's work: what it touches and sets, and that it meets the conditions of its tree.
use Rattle.std.proofs.Common.{◌≡◌, ◌≢◌, ℕ, zero, suc, ◌+◌, ◌*◌, ◌/◌, ◌%◌, ◌<◌, Bool, true, false, ◌&&◌, ◌||◌, List, []}
use Rattle.std.proofs.Common.{◌∷◌, ◌++◌, length, map, get_or, refl, sym, ap, ap₂, ◌∙◌, subst, arith, ◌⊎◌, inl, inr}
use Rattle.std.proofs.Common.{⊎_elim}
use Rattle.std.specs.Prelude.{Option, Some, None, slice_get, nat_eq}
use Rattle.std.specs.List.{list_any}
use Rattle.std.proofs.lemmas.Bool.Decides.{nat_tests}
use Rattle.std.proofs.lemmas.Nat.{div-mul-add, div-add-mod'}
use Rattle.std.proofs.Math.Nat.{div-lt_iff_lt-mul}
use Rattle.sq_num.specs.declared.Elem.{Elem}
use Rattle.sq_num.specs.declared.Elem.TheVariants.{Byte, Int, Long}
use Rattle.sq_num.specs.Elements.{width}
use Rattle.sq_rect.specs.Extents.{product}
use Rattle.sq_leaf.specs.declared.shape.Shape.{Shape}
use Rattle.sq_blocks.specs.declared.argument.Argument.{Argument}
use Rattle.sq_work.specs.declared.reduction.Reduction.{Reduction}
use Rattle.sq_ast.specs.Modes.{is_written}
use Rattle.sq_blocks.specs.Arguments.{lengths}
use Rattle.sq_work.specs.Work as work
use Rattle.sq_work.specs.Meaning as source
use Rattle.sq_work.specs.Meaning.{covers, in_array, has, accesses, writes, touches, in_block}
use Rattle.sq_work.specs.InTurn as turn
use Rattle.sq_placed.specs.declared.home.Home.{Home}
use Rattle.sq_placed.specs.declared.home.Home.TheVariants as home
use Rattle.sq_placed.specs.Placed.{Placed, PlacedArg, PlacedCall, arguments, plain_call, plain, Nothing, Then, Each}
use Rattle.sq_placed.specs.Placed.{AtOnce, Gathers, Call, Hold, Piped, Leaf}
use Rattle.sq_cells.specs.Machine.{Node, Op, child_of, offset_of}
use Rattle.sq_cells.specs.Cells.{Spot, spot}
use Rattle.sq_cells.specs.Tree.{width_of, head_of}
use Rattle.sq_cells.specs.Work.{Mode, Local, Reduced, Buffer, InPlace, Held, Array, Work, reads, is_reduced}
use Rattle.sq_cells.specs.Work as bytes
use Rattle.sq_placed.specs.FormLaws.Laws.{SharesElement}
use Rattle.sq_cells.specs.Lowered.{held, stays, Scratch, Layout, node_of, lane_kid, IsIn as IsCell, Needs, Sets}
use Rattle.sq_cells.specs.Lowered.{GathersOf, CallNeeds, CallSets, SumFits, IsRaceFree, Sound}
use Rattle.sq_cells.specs.Lowered as low
use Rattle.sq_plan_laws.specs.Coordinates.{number, coordinate, block_cell}
use Rattle.sq_plan_laws.specs.Codes.{bytes_in}
use Rattle.sq_plan_laws.specs.Calling.{mode_by, mode_of, block_of, shapes_of, array_of, arrays_of, local_of, form_of}
use Rattle.sq_plan_laws.specs.Calling.{first_buffer, second_buffer, place_of, PassedFits}
use Rattle.sq_plan_laws.specs.OnBytes.{Codings, size_in, arity_of, which_of, OneCall, call_or_none, op_of, share}
use Rattle.sq_plan_laws.specs.OnBytes as on
use Rattle.sq_plan_laws.specs.Fitting.{IsPlain, IsSum, Fitting, whole}
use Rattle.sq_plan_laws.specs.Keeping.{PipedHolds, CallKeeps, CallHolds, may_of, LoopKeeps, HasBuffers, AllCalls}
use Rattle.sq_plan_laws.specs.Keeping.{OneCall as HasOne, HoldKeeps, Keep, Keeping}
use Rattle.sq_plan_laws.specs.Stowed.{Stowed, LanesApart, HoldPlaced}
use Rattle.sq_cells.proofs.Cells.{spot_path}
use Rattle.sq_plan_laws.proofs.Blocks.{element_met}
use Rattle.sq_plan_laws.proofs.Coordinates.{element_under}
use Rattle.sq_plan_laws.proofs.PlacedLists.{at_left, mapped, same_some, there_below}
use Rattle.sq_plan_laws.proofs.Returned.{array_is, arg_below, size_is, array_has, returned_mode, mode_returned}
use Rattle.sq_plan_laws.proofs.Gathered.{lengths_whole, array_whole}
use Rattle.sq_plan_laws.proofs.Reaching.{InShapes, Element, Touched, element_at, touched, touched_in, touched_has}
use Rattle.sq_plan_laws.proofs.Reaching.{shares_element, CallTouches, needs_touch, sets_touch, reads_not_local}
use Rattle.sq_plan_laws.proofs.Reaching.{returned_not_local}
use Rattle.sq_plan_laws.proofs.Callings.{sum_only, reduced_gathers, OneOf, AParam, ALocal, one_of, one_byte}
use Rattle.sq_plan_laws.proofs.Callings.{call_fits, mode_not_local}
use Rattle.sq_plan_laws.proofs.Means.{Turns, turn_is}

-- ---- accesses of a work

pub any_test : (f : Argument → Bool) (args : List Argument) (j : ℕ) (a : Argument) → slice_get args j ≡ Some a → f a
    ≡ true → list_any f args ≡ true
any_test f [] j a e h = cc
any_test f (x ∷ args) zero a e h = let same : x ≡ a = cc in ap (λ b. b || list_any f args) (ap f same ∙ h)
any_test f (x ∷ args) (suc j) a e h = go (f x) (any_test f args j a e h)
  where
    go : (b : Bool) → list_any f args ≡ true → (b || list_any f args) ≡ true
    go true g = refl
    go false g = g

pub any_at : (n : ℕ) (f : ℕ → Bool) (t : ℕ) → t < n → f t ≡ true → source.any_below n f ≡ true
any_at zero f t lt e = absurd (omega (arith, lt))
any_at (suc n) f t lt e = go (f n) refl (nat_eq t n) refl (λ l. any_at n f t l e)
  where
    go : (b : Bool) → f n ≡ b → (c : Bool) → nat_eq t n ≡ c → (t < n → source.any_below n f ≡ true)
        → source.any_below (suc n) f ≡ true
    go true g c k rec = ap (λ x. x || source.any_below n f) g
    go false g true k rec = let same : t ≡ n = grind (arith, nat_tests, k) in let z : f n ≡ true = ap f (sym same)
        ∙ e in cc
    go false g false k rec = let less : t < n = grind (arith, nat_tests, k, lt) in ap (λ x. x || source.any_below n f) g
        ∙ rec less

or_left : (a b : Bool) → a ≡ true → (a || b) ≡ true
or_left true b e = refl
or_left false b e = cc

or_right : (a b : Bool) → b ≡ true → (a || b) ≡ true
or_right true b e = refl
or_right false b e = e

and_both : (a b : Bool) → a ≡ true → b ≡ true → (a && b) ≡ true
and_both true b e f = f
and_both false b e f = cc

-- ---- one call

module _ (outer : List Shape) (c : PlacedCall) (l : Spot) (x : Element outer l) where
  call_has : (t : CallTouches outer c l) → has l.area x.cs t.it.p.argument ≡ true
  call_has t = let h = touched_has outer c t.i t.k l t.it x t.it in array_has l.area x.cs t.it.p.argument h.0 h.1

  pub call_touches : (t : CallTouches outer c l) → list_any (λ a. true && has l.area x.cs a) (arguments c.args) ≡ true
  call_touches t = any_test (λ a. true && has l.area x.cs a) (arguments c.args) t.i t.it.p.argument
      (mapped (λ (q : PlacedArg). q.argument) c.args t.i t.it.p t.it.there) (call_has t)

  pub call_writes : (t : CallTouches outer c l) → is_written t.it.p.argument.mode ≡ true
      → list_any (λ a. is_written a.mode && has l.area x.cs a) (arguments c.args) ≡ true
  call_writes t w = any_test (λ a. is_written a.mode && has l.area x.cs a) (arguments c.args) t.i t.it.p.argument
      (mapped (λ (q : PlacedArg). q.argument) c.args t.i t.it.p t.it.there)
      (and_both (is_written t.it.p.argument.mode) (has l.area x.cs t.it.p.argument) w (call_has t))

-- ---- what is known

module _ (coding : Codings) (offset : ℕ → ℕ) where
  abbrev on_bytes : Placed → List Shape → Work
  on_bytes p outer = on.work coding offset p outer

  pub record IsGood (p : Placed) (outer : List Shape) (may : ℕ → Bool) : Type 0 where
    pub reach : (node : Node) (kid : ℕ) (at : Layout) (l q : Spot) → Needs (on_bytes p outer) node kid at l q
        ⊎ Sets (on_bytes p outer) node kid at l q → InShapes outer l × (at l ≡ q)
    pub permitted : (node : Node) (kid : ℕ) (at : Layout) (l q : Spot) → Sets (on_bytes p outer) node kid at l q
        → may l.area ≡ true
    pub closed : (node : Node) (kid : ℕ) (at : Layout) (l q : Spot) → low.Gathers (on_bytes p outer) node kid at l q → ⊥
    pub no_sum : (o : Op) (h l : Spot) → GathersOf (on_bytes p outer) o h l → ⊥
    pub touched : (node : Node) (kid : ℕ) (at : Layout) (l q : Spot) → Needs (on_bytes p outer) node kid at l q
        ⊎ Sets (on_bytes p outer) node kid at l q → (x : Element outer l) → touches (plain p) l.area x.cs ≡ true
    pub written : (node : Node) (kid : ℕ) (at : Layout) (l q : Spot) → Sets (on_bytes p outer) node kid at l q
        → (x : Element outer l) → writes (plain p) l.area x.cs ≡ true
    pub sound : (node : Node) (kid : ℕ) → turn.IsRaceFree (plain p) → Stowed (on_bytes p outer) node kid
        → Sound (on_bytes p outer) node kid

  abbrev pub Facts : Placed → Type 0
  Facts p = (outer : List Shape) (may : ℕ → Bool) → Fitting coding p None outer → Keeping p may → IsGood p outer may

  nothing_good : (outer : List Shape) (may : ℕ → Bool) → IsGood Nothing outer may
  nothing_good outer may = record {
    reach = λ node kid at l q h. ⊎_elim (λ z. absurd z) (λ z. absurd z) h;
    permitted = λ node kid at l q h. absurd h;
    closed = λ node kid at l q h. h;
    no_sum = λ o h l z. z;
    touched = λ node kid at l q h x. ⊎_elim (λ z. absurd z) (λ z. absurd z) h;
    written = λ node kid at l q h x. absurd h;
    sound = λ node kid free stowed. tt;
  }

  then_good : (a b : Placed) (outer : List Shape) (may : ℕ → Bool) → IsGood a outer may → IsGood b outer may
      → IsGood (Then a b) outer may
  then_good a b outer may f g = record {
    reach = λ node kid at l q h. ⊎_elim
        (⊎_elim (λ z. f.reach node kid at l q (inl z)) (λ z. g.reach node kid at l q (inl z)))
        (⊎_elim (λ z. f.reach node kid at l q (inr z)) (λ z. g.reach node kid at l q (inr z))) h;
    permitted = λ node kid at l q h. ⊎_elim (f.permitted node kid at l q) (g.permitted node kid at l q) h;
    closed = λ node kid at l q h. ⊎_elim (f.closed node kid at l q) (g.closed node kid at l q) h;
    no_sum = λ o h l z. ⊎_elim (f.no_sum o h l) (g.no_sum o h l) z;
    touched = λ node kid at l q h x. ⊎_elim
        (⊎_elim (λ z. or_left _ (touches (plain b) l.area x.cs) (f.touched node kid at l q (inl z) x))
        (λ z. or_right (touches (plain a) l.area x.cs) _ (g.touched node kid at l q (inl z) x)))
        (⊎_elim (λ z. or_left _ (touches (plain b) l.area x.cs) (f.touched node kid at l q (inr z) x))
        (λ z. or_right (touches (plain a) l.area x.cs) _ (g.touched node kid at l q (inr z) x))) h;
    written = λ node kid at l q h x. ⊎_elim
        (λ z. or_left _ (writes (plain b) l.area x.cs) (f.written node kid at l q z x))
        (λ z. or_right (writes (plain a) l.area x.cs) _ (g.written node kid at l q z x)) h;
    sound = λ node kid free stowed. (f.sound node kid free.0 stowed.0, g.sound node kid free.1 stowed.1);
  }

  each_good : (n : ℕ) (w : ℕ → Placed) (outer : List Shape) (may : ℕ → Bool)
      → ((t : ℕ) → t < n → IsGood (w t) outer may) → IsGood (Each n w) outer may
  each_good n w outer may f = record {
    reach = λ node kid at l q h. ⊎_elim (λ z. (f z.0 z.1).reach node kid at l q (inl z.2))
        (λ z. (f z.0 z.1).reach node kid at l q (inr z.2)) h;
    permitted = λ node kid at l q z. (f z.0 z.1).permitted node kid at l q z.2;
    closed = λ node kid at l q z. (f z.0 z.1).closed node kid at l q z.2;
    no_sum = λ o h l z. (f z.0 z.1).no_sum o h l z.2;
    touched = λ node kid at l q h x. ⊎_elim
        (λ z. any_at n (λ t. touches (plain (w t)) l.area x.cs) z.0 z.1
        ((f z.0 z.1).touched node kid at l q (inl z.2) x))
        (λ z. any_at n (λ t. touches (plain (w t)) l.area x.cs) z.0 z.1
        ((f z.0 z.1).touched node kid at l q (inr z.2) x)) h;
    written = λ node kid at l q z x. any_at n (λ t. writes (plain (w t)) l.area x.cs) z.0 z.1
        ((f z.0 z.1).written node kid at l q z.2 x);
    sound = λ node kid free stowed t lt. (f t lt).sound node kid (free t lt) (stowed t lt);
  }

  at_once_good : (place : _) (spread : Option _) (n : ℕ) (w : ℕ → Placed) (outer : List Shape) (may : ℕ → Bool)
      → ((t : ℕ) → t < n → IsGood (w t) outer may) → IsGood (AtOnce place spread n w) outer may
  at_once_good place spread n w outer may f = record {
    reach = λ node kid at l q h. ⊎_elim (λ z. (f z.0 z.1).reach node (lane_kid spread node kid n z.0) at l q (inl z.2))
        (λ z. (f z.0 z.1).reach node (lane_kid spread node kid n z.0) at l q (inr z.2)) h;
    permitted = λ node kid at l q z. (f z.0 z.1).permitted node (lane_kid spread node kid n z.0) at l q z.2;
    closed = λ node kid at l q z. (f z.0 z.1).closed node (lane_kid spread node kid n z.0) at l q z.2;
    no_sum = λ o h l z. (f z.0 z.1).no_sum o h l z.2;
    touched = λ node kid at l q h x. ⊎_elim
        (λ z. any_at n (λ t. touches (plain (w t)) l.area x.cs) z.0 z.1
        ((f z.0 z.1).touched node (lane_kid spread node kid n z.0) at l q (inl z.2) x))
        (λ z. any_at n (λ t. touches (plain (w t)) l.area x.cs) z.0 z.1
        ((f z.0 z.1).touched node (lane_kid spread node kid n z.0) at l q (inr z.2) x)) h;
    written = λ node kid at l q z x. any_at n (λ t. writes (plain (w t)) l.area x.cs) z.0 z.1
        ((f z.0 z.1).written node (lane_kid spread node kid n z.0) at l q z.2 x);
    sound = λ node kid free stowed. (
      record {
        apart = λ a b la lb ne at l p p' s h.
            let x = element_at outer l ((f a la).reach node (lane_kid spread node kid n a) at l p (inr s)).0 in
            free.0.at a b l.area x.cs la lb ne refl ((f a la).written node (lane_kid spread node kid n a) at l p s x)
            ((f b lb).touched node (lane_kid spread node kid n b) at l p' h x);
        lanes = stowed.0.lanes;
        one_op = λ a b la lb o o' h h' l z z'. absurd ((f a la).no_sum o h l z);
      },
      λ t lt. ((stowed.1 t lt).0, (f t lt).sound node (lane_kid spread node kid n t) (free.1 t lt) (stowed.1 t lt).1),
    );
  }

  plain_no_sum : (outer : List Shape) (c : PlacedCall) → IsPlain outer c → (i : ℕ)
      → is_reduced (arrays_of outer c i).mode ≡ true → ⊥
  plain_no_sum outer c is i r = go (one_of outer c i)
    where
      local : (o : Option Shape) → is_reduced (local_of o).mode ≡ true → ⊥
      local None e = cc
      local (Some sh) e = cc

      go : OneOf outer c i → ⊥
      go (AParam p e at) = reduced_gathers p (subst (λ (a : Array). is_reduced a.mode ≡ true) at r) (is.none i p e)
      go (ALocal e at) = local (slice_get (shapes_of c) i) (subst (λ (a : Array). is_reduced a.mode ≡ true) at r)

  reduced_true : (m : Mode) (o : Op) → m ≡ Reduced o → is_reduced m ≡ true
  reduced_true m o e = ap is_reduced e

  call_good : (c : PlacedCall) (w : Placed) (outer : List Shape) (may : ℕ → Bool) → IsPlain outer c → CallKeeps c may
      → IsGood w (shapes_of c) (may_of c) → IsGood (Call c w) outer may
  call_good c w outer may is keeps f = record {
    reach = λ node kid at l q h. ⊎_elim
        (λ z. let t = needs_touch outer c is.args may keeps (node_of c.lower node kid) (form_of offset first_buffer c)
        at l q z in (touched_in outer c t.0.i t.0.k l t.0.it, t.1))
        (λ z. let t = sets_touch outer c is.args may keeps (node_of c.lower node kid) (form_of offset first_buffer c) at
        l q z in (touched_in outer c t.0.i t.0.k l t.0.it, t.1)) h;
    permitted = λ node kid at l q z.
        let t = sets_touch outer c is.args may keeps (node_of c.lower node kid) (form_of offset first_buffer c) at l q z
        in
        let e = element_at outer l (touched_in outer c t.0.i t.0.k l t.0.it) in
        ap may (sym (touched_has outer c t.0.i t.0.k l t.0.it e t.0.it).0)
        ∙ keeps.base.permitted t.0.i t.0.it.p t.0.it.there t.3;
    closed = λ node kid at l q z. plain_no_sum outer c is z.0.area z.2;
    no_sum = λ o h l z. plain_no_sum outer c is z.0.area (reduced_true (arrays_of outer c z.0.area).mode o z.2);
    touched = λ node kid at l q h x. ⊎_elim
        (λ z. call_touches outer c l x
        (needs_touch outer c is.args may keeps (node_of c.lower node kid) (form_of offset first_buffer c) at l q z).0)
        (λ z. call_touches outer c l x
        (sets_touch outer c is.args may keeps (node_of c.lower node kid) (form_of offset first_buffer c) at l q z).0) h;
    written = λ node kid at l q z x. let t
        = sets_touch outer c is.args may keeps (node_of c.lower node kid) (form_of offset first_buffer c) at l q z in
        call_writes outer c l x t.0 t.3;
    sound = λ node kid free stowed. (
      call_fits None outer c is may keeps.base (on_bytes w (shapes_of c)) (node_of c.lower node kid)
          (f.reach (node_of c.lower node kid) 0) (f.permitted (node_of c.lower node kid) 0)
          (f.closed (node_of c.lower node kid) 0),
      stowed.0,
      f.sound (node_of c.lower node kid) 0 free stowed.1,
    );
  }

  -- ---- a `mapreduce`

  -- an iteration, as the work has it
  pub record IsTurn (r : Reduction) (outer : List Shape) (may : ℕ → Bool) (p : Placed) (z : OneCall) (which : ℕ) : Type
      0 where
    pub v : Placed
    pub sums : IsSum outer r z.called
    pub which_is : which_of z.called.args ≡ which
    pub keeps : CallKeeps z.called may
    pub good : IsGood v (shapes_of z.called) (may_of z.called)
    pub body : z.body ≡ on_bytes v (shapes_of z.called)
    pub plain_is : plain p ≡ work.Then (plain_call z.called (plain v)) work.Nothing

  some_width : (e : Elem) → 0 < width e
  some_width Byte = omega arith
  some_width Int = omega arith
  some_width Long = omega arith

  -- what an argument that is read or returned is not
  not_sum : (outer : List Shape) (r : Reduction) (c : PlacedCall) → IsSum outer r c → (i : ℕ) (p : PlacedArg)
      → slice_get c.args i ≡ Some p → p.gathers ≡ None → p.argument.array ≢ r.array
  not_sum outer r c sums i p e none = go (nat_eq i (which_of c.args)) refl
    where
      go : (b : Bool) → nat_eq i (which_of c.args) ≡ b → p.argument.array ≢ r.array
      go true f =
          let same : i ≡ which_of c.args = grind (arith, nat_tests, f) in
          let is : p ≡ sums.sum = same_some (sym e ∙ (ap (slice_get c.args) same ∙ sums.there)) in
          let some : Some r.op ≡ None = sym sums.gathers ∙ (ap (λ (q : PlacedArg). q.gathers) (sym is) ∙ none) in
          λ z. cc
      go false f = let far : i ≢ which_of c.args = grind (arith, nat_tests, f) in (sums.others i p e far).1

  reads_none : (p : PlacedArg) → reads (mode_of p) ≡ true → p.gathers ≡ None
  reads_none p e = go p.gathers refl e
    where
      go : (g : Option _) → p.gathers ≡ g → reads (mode_by g p.shape.elem p.argument.mode) ≡ true → p.gathers ≡ None
      go None f h = f
      go (Some op) f h = cc

  module _ (r : Reduction) (outer : List Shape) (of : Shape) (there : slice_get outer r.array ≡ Some of)
      (elem : of.elem ≡ r.elem) (may : ℕ → Bool) (n : ℕ) (w : ℕ → Placed) (call : ℕ → OneCall) (which : ℕ)
      (turns : (t : ℕ) → t < n → IsTurn r outer may (w t) (call t) which) where
    abbrev size : ℕ
    size = size_in (slice_get outer r.array)

    size_of : size ≡ bytes_in of
    size_of = ap size_in there

    -- the array of the call that is reduced into
    sum_array : (t : ℕ) (lt : t < n) → arrays_of outer (call t).called which
        ≡ array_of outer (Some (turns t lt).sums.sum) (slice_get (shapes_of (call t).called) which)
    sum_array t lt = let h = turns t lt in array_is outer (call t).called which h.sums.sum
        (ap (slice_get (call t).called.args) (sym h.which_is) ∙ h.sums.there)

    sum_mode : (t : ℕ) (lt : t < n) → (arrays_of outer (call t).called which).mode ≡ Reduced (op_of r)
    sum_mode t lt =
        let h = turns t lt in
        ap (λ (a : Array). a.mode) (sum_array t lt)
        ∙ ap₂ (λ g e. mode_by g e h.sums.sum.argument.mode) h.sums.gathers h.sums.elem

    sum_size : (t : ℕ) (lt : t < n) → (arrays_of outer (call t).called which).size ≡ size
    sum_size t lt =
        let h = turns t lt in
        ap (λ (a : Array). a.size) (sum_array t lt)
        ∙ (ap₂ (λ ns e. product ns * width e) (sym (h.sums.all of there)) (h.sums.elem ∙ sym elem) ∙ sym size_of)

    whole_cell : (v : ℕ) (ns : List ℕ) (k : ℕ) → k < product ns * v → block_cell v (whole ns) ns k ≡ k
    whole_cell v ns k lt =
        let h = element_under ns v k lt in
        ap (λ ls. number ns (in_array (whole ns) (coordinate ls (k / v))) * v + k % v) (lengths_whole ns)
        ∙ (ap (λ c. number ns c * v + k % v) (array_whole ns (coordinate ns (k / v)) h.2) ∙ h.4)

    sum_block : (t : ℕ) (lt : t < n) (k : ℕ) → k < size → (arrays_of outer (call t).called which).block k
        ≡ spot r.array k
    sum_block t lt k lk =
        let h = turns t lt in
        let s = h.sums.sum in
        let ns : of.extents ≡ s.shape.extents = h.sums.all of there in
        let lk' : k < product of.extents * width of.elem = subst (λ z. k < z) size_of lk in
        ap (λ (a : Array). a.block k) (sum_array t lt)
        ∙ ap (λ o. block_of o s.argument k) (ap (slice_get outer) h.sums.array ∙ there)
        ∙ ap₂ (λ i rect. spot i (block_cell (width of.elem) rect of.extents k)) h.sums.array
        (h.sums.is_whole ∙ ap whole (sym ns))
        ∙ ap (spot r.array) (whole_cell (width of.elem) of.extents k lk')

    sum_fits : SumFits (op_of r) size (spot r.array) which n (λ t. arity_of (call t).called)
        (λ t. arrays_of outer (call t).called)
    unfolding width_of
    sum_fits = record {
      there = λ t lt. let h = turns t lt in arg_below (call t).called which h.sums.sum
          (ap (slice_get (call t).called.args) (sym h.which_is) ∙ h.sums.there);
      mode = sum_mode;
      size_is = sum_size;
      block_is = λ t k lt lk. sum_block t lt k lk;
      only = λ t i lt li red. only t lt i red;
      distinct = λ k k' lk lk' e. index_of _ _ e;
      some = some_width r.elem;
      whole = λ k b lk lb. subst (λ z. k / width r.elem * width r.elem + b < z) (sym sized)
          ((div-lt_iff_lt-mul (some_width r.elem)).0
          (subst (λ z. z < product of.extents) (sym (div-mul-add (k / width r.elem) (width r.elem) b lb))
          ((div-lt_iff_lt-mul (some_width r.elem)).1 (subst (λ z. k < z) sized lk))));
      aside = λ t i k k' lt li lk lk' rw e. aside t lt i k k' lk rw e;
    }
      where
        index_of : (p q : Spot) → p ≡ q → p.index ≡ q.index
        index_of p q e = ap (λ (v : Spot). v.index) e

        sized : size ≡ product of.extents * width r.elem
        sized = size_of ∙ ap (λ e. product of.extents * width e) elem

        only : (t : ℕ) (lt : t < n) (i : ℕ) → is_reduced (arrays_of outer (call t).called i).mode ≡ true → i ≡ which
        only t lt i red = go (one_of outer (call t).called i)
          where
            h : IsTurn r outer may (w t) (call t) which
            h = turns t lt

            local : (o : Option Shape) → is_reduced (local_of o).mode ≡ true → ⊥
            local None e = cc
            local (Some sh) e = cc

            go : OneOf outer (call t).called i → i ≡ which
            go (AParam p e at) = sum_only (Some r) outer (call t).called h.sums i p e
                (reduced_gathers p (subst (λ (a : Array). is_reduced a.mode ≡ true) at red)) ∙ h.which_is
            go (ALocal e at) = absurd (local (slice_get (shapes_of (call t).called) i)
                (subst (λ (a : Array). is_reduced a.mode ≡ true) at red))

        aside : (t : ℕ) (lt : t < n) (i k k' : ℕ) → k < (arrays_of outer (call t).called i).size
            → (reads (arrays_of outer (call t).called i).mode ≡ true)
            ⊎ (bytes.returned (arrays_of outer (call t).called i).mode ≡ true)
            → (arrays_of outer (call t).called i).block k ≡ spot r.array k' → ⊥
        aside t lt i k k' lk rw e =
            let h = turns t lt in
            let ne : (arrays_of outer (call t).called i).mode ≢ Local
            = ⊎_elim (reads_not_local (arrays_of outer (call t).called i).mode)
            (returned_not_local (arrays_of outer (call t).called i).mode) rw in
            let x = touched outer (call t).called h.sums.args i k (spot r.array k') ne lk e in
            let none : x.p.gathers ≡ None = ⊎_elim
            (λ z. reads_none x.p (subst (λ (a : Array). reads a.mode ≡ true) x.array_is z))
            (λ z. (returned_mode x.p (subst (λ (a : Array). bytes.returned a.mode ≡ true) x.array_is z)).0) rw in
            let el = element_at outer (spot r.array k') (touched_in outer (call t).called i k (spot r.array k') x) in
            not_sum outer r (call t).called h.sums i x.p x.there none
            (touched_has outer (call t).called i k (spot r.array k') x el x).0

    -- the calls of two iterations
    module _ (lower : Bool) (node : Node) (kid : ℕ → ℕ) (free : turn.AreApart n (λ t. plain (w t)) (turn.its_array r))
      where
        abbrev form : ℕ → ℕ → ℕ
        form t = form_of offset first_buffer (call t).called

        abbrev one_call : ℕ → Work
        one_call t = bytes.Call (form t) lower (arity_of (call t).called) (arrays_of outer (call t).called)
            (call t).body

        set_at : (t : ℕ) (lt : t < n) (at : Layout) (l p : Spot) → Sets (one_call t) node (kid t) at l p
            → (h : CallTouches outer (call t).called l) × (at l ≡ p) × (h.it.p.gathers ≡ None)
            × (is_written h.it.p.argument.mode ≡ true)
        set_at t lt at l p s = let h = turns t lt in sets_touch outer (call t).called h.sums.args may h.keeps
            (node_of lower node (kid t)) (form t) at l p s

        need_at : (t : ℕ) (lt : t < n) (at : Layout) (l p : Spot) → Needs (one_call t) node (kid t) at l p
            → CallTouches outer (call t).called l × (at l ≡ p)
        need_at t lt at l p s = let h = turns t lt in needs_touch outer (call t).called h.sums.args may h.keeps
            (node_of lower node (kid t)) (form t) at l p s

        turn_touches : (t : ℕ) (lt : t < n) (l : Spot) (x : Element outer l) → CallTouches outer (call t).called l
            → touches (plain (w t)) l.area x.cs ≡ true
        turn_touches t lt l x h =
            let i = turns t lt in
            ap (λ (y : work.Work). touches y l.area x.cs) i.plain_is
            ∙ or_left (list_any (λ a. true && has l.area x.cs a) (arguments (call t).called.args)) false
            (call_touches outer (call t).called l x h)

        turn_writes : (t : ℕ) (lt : t < n) (l : Spot) (x : Element outer l) → (h : CallTouches outer (call t).called l)
            → is_written h.it.p.argument.mode ≡ true → writes (plain (w t)) l.area x.cs ≡ true
        turn_writes t lt l x h wr =
            let i = turns t lt in
            ap (λ (y : work.Work). writes y l.area x.cs) i.plain_is
            ∙ or_left (list_any (λ a. is_written a.mode && has l.area x.cs a) (arguments (call t).called.args)) false
            (call_writes outer (call t).called l x h wr)

        -- what is set is not the array that is reduced into
        aside_array : (t : ℕ) (lt : t < n) (l : Spot) (x : Element outer l) → (h : CallTouches outer (call t).called l)
            → h.it.p.gathers ≡ None → nat_eq l.area r.array ≡ false
        aside_array t lt l x h none =
            let i = turns t lt in
            let same = (touched_has outer (call t).called h.i h.k l h.it x h.it).0 in
            let ne : l.area ≢ r.array = λ z. not_sum outer r (call t).called i.sums h.i h.it.p h.it.there none
            (same ∙ z)
            in
            grind (arith, nat_tests, ne)

        head_below : (k : ℕ) → k < size → head_of (op_of r) k < size
        unfolding width_of
        head_below k lk = let z = div-add-mod' k (width r.elem) in omega (arith, z, lk)

        sums_free : LanesApart n one_call node kid → IsRaceFree n one_call node kid
        sums_free lanes = record {
          apart = λ a b la lb ne at l p p' s h.
              let t = set_at a la at l p s in
              let x = element_at outer l (touched_in outer (call a).called t.0.i t.0.k l t.0.it) in
              free.at a b l.area x.cs la lb ne (aside_array a la l x t.0 t.2) (turn_writes a la l x t.0 t.3)
              (turn_touches b lb l x (⊎_elim (λ z. (need_at b lb at l p' z).0) (λ z. (set_at b lb at l p' z).0) h));
          lanes = lanes.lanes;
          one_op = λ a b la lb o o' h h' l z z'.
              (op_is a la o h l z ∙ sym (op_is b lb o' h' l z'), head_is a la o h l z ∙ sym (head_is b lb o' h' l z'));
        }
          where
            which_here : (t : ℕ) (lt : t < n) (i : ℕ) (o : Op) → i < arity_of (call t).called
                → (arrays_of outer (call t).called i).mode ≡ Reduced o → i ≡ which
            which_here t lt i o li e = sum_fits.only t i lt li
                (reduced_true (arrays_of outer (call t).called i).mode o e)

            same_op : (o o' : Op) → Reduced o ≡ Reduced o' → o ≡ o'
            same_op o o' e = cc

            op_is : (t : ℕ) (lt : t < n) (o : Op) (h l : Spot) → GathersOf (one_call t) o h l → o ≡ op_of r
            op_is t lt o h l z =
                let i = which_here t lt z.0.area o z.1.0 z.2 in
                same_op o (op_of r) (sym z.2 ∙ (ap (λ k. (arrays_of outer (call t).called k).mode) i ∙ sum_mode t lt))

            index_of : (p q : Spot) → p ≡ q → p.index ≡ q.index
            index_of p q e = ap (λ (v : Spot). v.index) e

            head_is : (t : ℕ) (lt : t < n) (o : Op) (h l : Spot) → GathersOf (one_call t) o h l → h
                ≡ spot r.array (head_of (op_of r) l.index)
            head_is t lt o h l z =
                let i = which_here t lt z.0.area o z.1.0 z.2 in
                let low : z.0.index < size = subst (λ k. z.0.index < k)
                (ap (λ k. (arrays_of outer (call t).called k).size) i ∙ sum_size t lt) z.1.1 in
                let here : l ≡ spot r.array z.0.index = sym z.3
                ∙ (ap (λ k. (arrays_of outer (call t).called k).block z.0.index) i ∙ sum_block t lt z.0.index low) in
                sym z.4 ∙ ap₂ (λ k q. (arrays_of outer (call t).called k).block (head_of q z.0.index)) i
                (op_is t lt o h l z)
                ∙ sum_block t lt (head_of (op_of r) z.0.index) (head_below z.0.index low)
                ∙ ap (λ k. spot r.array (head_of (op_of r) k)) (sym (index_of _ _ here))

  -- what is known of the body of the call that it begins with
  abbrev pub Inner : Placed → Type 0
  Inner Nothing = Unit {0}
  Inner (Then a b) = Inner a
  Inner (Each n w) = Unit {0}
  Inner (AtOnce place spread n w) = Unit {0}
  Inner (Gathers r place spread n w) = Unit {0}
  Inner (Call c w) = Facts w
  Inner (Hold args w) = Unit {0}
  Inner (Piped spread n calls w) = Unit {0}
  Inner (Leaf number leaf shapes) = Unit {0}

  turn_at : (r : Reduction) (outer : List Shape) (may : ℕ → Bool) (n : ℕ) (w : ℕ → Placed) (which : ℕ)
      (turns : Turns coding offset r outer n w which) → ((t : ℕ) → t < n → Keeping (w t) may) → ((t : ℕ) → Inner (w t))
      → (t : ℕ) → t < n
      → IsTurn r outer may (w t) (call_or_none (share coding offset (w t) outer).call) which
  turn_at r outer may n w which turns keep inner t lt =
      let h = turn_is coding offset r outer n w which turns t lt in
      let kept : Keeping (Then (Call h.0 h.1) Nothing) may = subst (λ p. Keeping p may) h.2 (keep t lt) in
      let facts : Facts h.1 = subst Inner h.2 (inner t) in
      subst (λ z. IsTurn r outer may (w t) z which) (sym h.6) (record {
        v = h.1;
        sums = h.3;
        which_is = h.5;
        keeps = kept.0.0;
        good = facts (shapes_of h.0) (may_of h.0) h.4 kept.0.1;
        body = refl;
        plain_is = ap plain h.2;
      })

  reduce_good : (r : Reduction) (place : _) (spread : Option _) (n : ℕ) (w : ℕ → Placed) (outer : List Shape)
      (may : ℕ → Bool) (of : Shape) (there : slice_get outer r.array ≡ Some of) (elem : of.elem ≡ r.elem)
      → ((t : ℕ) → t < suc n → IsTurn r outer may (w t) (call_or_none (share coding offset (w t) outer).call)
      (which_of (call_or_none (share coding offset (w 0) outer).call).called.args))
      → IsGood (Gathers r place spread (suc n) w) outer may
  reduce_good r place spread n w outer may of there elem turns = record {
    reach = λ node kid at l q h. ⊎_elim
        (⊎_elim (λ z. let t = needs z.0 z.1 (node_of lower node (lane_kid spread node kid (suc n) z.0)) at l q z.2 in
        (touched_in outer (call z.0).called t.0.i t.0.k l t.0.it, t.1)) (λ z. sum_reach at l q z))
        (⊎_elim (λ z. let t = sets z.0 z.1 (node_of lower node (lane_kid spread node kid (suc n) z.0)) at l q z.2 in
        (touched_in outer (call z.0).called t.0.i t.0.k l t.0.it, t.1)) (λ z. sum_reach at l q z)) h;
    permitted = λ node kid at l q h. ⊎_elim
        (λ z. let t = sets z.0 z.1 (node_of lower node (lane_kid spread node kid (suc n) z.0)) at l q z.2 in
        let e = element_at outer l (touched_in outer (call z.0).called t.0.i t.0.k l t.0.it) in
        ap may (sym (touched_has outer (call z.0).called t.0.i t.0.k l t.0.it e t.0.it).0)
        ∙ (turns z.0 z.1).keeps.base.permitted t.0.i t.0.it.p t.0.it.there t.3)
        (λ z. ap may (sum_area at l q z) ∙ sum_may) h;
    closed = λ node kid at l q h. h;
    no_sum = λ o h l z. z;
    touched = λ node kid at l q h x. ⊎_elim
        (⊎_elim (λ z. any_at (suc n) (λ t. nat_eq l.area r.array || touches (plain (w t)) l.area x.cs) z.0 z.1
        (or_right (nat_eq l.area r.array) (touches (plain (w z.0)) l.area x.cs)
        (touch z.0 z.1 l x (needs z.0 z.1 (node_of lower node (lane_kid spread node kid (suc n) z.0)) at l q z.2).0)))
        (λ z. any_at (suc n) (λ t. nat_eq l.area r.array || touches (plain (w t)) l.area x.cs) 0 (omega arith)
        (or_left (nat_eq l.area r.array) (touches (plain (w 0)) l.area x.cs) (sum_eq at l q z))))
        (⊎_elim (λ z. any_at (suc n) (λ t. nat_eq l.area r.array || touches (plain (w t)) l.area x.cs) z.0 z.1
        (or_right (nat_eq l.area r.array) (touches (plain (w z.0)) l.area x.cs)
        (touch z.0 z.1 l x (sets z.0 z.1 (node_of lower node (lane_kid spread node kid (suc n) z.0)) at l q z.2).0)))
        (λ z. any_at (suc n) (λ t. nat_eq l.area r.array || touches (plain (w t)) l.area x.cs) 0 (omega arith)
        (or_left (nat_eq l.area r.array) (touches (plain (w 0)) l.area x.cs) (sum_eq at l q z)))) h;
    written = λ node kid at l q h x. ⊎_elim
        (λ z. let t = sets z.0 z.1 (node_of lower node (lane_kid spread node kid (suc n) z.0)) at l q z.2 in any_at
        (suc n) (λ t. nat_eq l.area r.array || writes (plain (w t)) l.area x.cs) z.0 z.1
        (or_right (nat_eq l.area r.array) (writes (plain (w z.0)) l.area x.cs) (write z.0 z.1 l x t.0 t.3)))
        (λ z. any_at (suc n) (λ t. nat_eq l.area r.array || writes (plain (w t)) l.area x.cs) 0 (omega arith)
        (or_left (nat_eq l.area r.array) (writes (plain (w 0)) l.area x.cs) (sum_eq at l q z))) h;
    sound = λ node kid free stowed. (
      sum_fits r outer of there elem may (suc n) w call which turns,
      (
        sums_free r outer of there elem may (suc n) w call which turns lower node (lane_kid spread node kid (suc n))
            free.0 stowed.0,
        λ t lt. let h = turns t lt in
            let inside : Node = node_of lower node (lane_kid spread node kid (suc n) t) in
            let s = stowed.1 t lt in
            let race : turn.IsRaceFree (work.Then (plain_call (call t).called (plain h.v)) work.Nothing)
            = subst turn.IsRaceFree h.plain_is (free.1 t lt) in (
              s.0,
              (
                subst (λ (b : Work). low.CallFits (arity_of (call t).called) (arrays_of outer (call t).called) b inside)
                    (sym h.body)
                    (call_fits (Some r) outer (call t).called h.sums may h.keeps.base
                    (on_bytes h.v (shapes_of (call t).called)) inside (h.good.reach inside 0)
                    (h.good.permitted inside 0) (h.good.closed inside 0)),
                s.1,
                subst (λ (b : Work). Sound b inside 0) (sym h.body)
                    (h.good.sound inside 0 race.0 (subst (λ (b : Work). Stowed b inside 0) h.body s.2)),
              ),
            ),
      ),
    );
  }
    where
      call : ℕ → OneCall
      call t = call_or_none (share coding offset (w t) outer).call

      which : ℕ
      which = which_of (call 0).called.args

      lower : Bool
      lower = (call 0).called.lower

      needs : (t : ℕ) (lt : t < suc n) (inside : Node) (at : Layout) (l q : Spot)
          → CallNeeds (arity_of (call t).called) (arrays_of outer (call t).called)
          (low.source inside (form_of offset first_buffer (call t).called) (arrays_of outer (call t).called) at) l q
          → CallTouches outer (call t).called l × (at l ≡ q)
      needs t lt inside at l q z = let h
          = turns t lt in needs_touch outer (call t).called h.sums.args may h.keeps inside
          (form_of offset first_buffer (call t).called) at l q z

      sets : (t : ℕ) (lt : t < suc n) (inside : Node) (at : Layout) (l q : Spot)
          → CallSets (arity_of (call t).called) (arrays_of outer (call t).called)
          (low.source inside (form_of offset first_buffer (call t).called) (arrays_of outer (call t).called) at) l q
          → (x : CallTouches outer (call t).called l) × (at l ≡ q) × (x.it.p.gathers ≡ None)
          × (is_written x.it.p.argument.mode ≡ true)
      sets t lt inside at l q z = let h
          = turns t lt in sets_touch outer (call t).called h.sums.args may h.keeps inside
          (form_of offset first_buffer (call t).called) at l q z

      area_of : (p q : Spot) → p ≡ q → p.area ≡ q.area
      area_of p q e = ap (λ (v : Spot). v.area) e

      sum_reach : (at : Layout) (l q : Spot) → low.SumCell (size_in (slice_get outer r.array)) (spot r.array) at l q
          → InShapes outer l × (at l ≡ q)
      sum_reach at l q z = (
        subst (InShapes outer) z.2
            (record { sh = of; there = there; below = subst (λ o. z.0 < size_in o) there z.1 }),
        z.3,
      )

      sum_area : (at : Layout) (l q : Spot) → low.SumCell (size_in (slice_get outer r.array)) (spot r.array) at l q
          → l.area ≡ r.array
      sum_area at l q z = sym (area_of _ _ z.2)

      sum_eq : (at : Layout) (l q : Spot) → low.SumCell (size_in (slice_get outer r.array)) (spot r.array) at l q
          → nat_eq l.area r.array ≡ true
      sum_eq at l q z = let e = sum_area at l q z in grind (arith, nat_tests, e)

      sum_may : may r.array ≡ true
      sum_may = let h = turns 0 (omega arith) in ap may (sym h.sums.array)
          ∙ h.keeps.base.permitted (which_of (call 0).called.args) h.sums.sum h.sums.there (ap is_written h.sums.mode)

      touch : (t : ℕ) (lt : t < suc n) (l : Spot) (x : Element outer l) → CallTouches outer (call t).called l
          → touches (plain (w t)) l.area x.cs ≡ true
      touch t lt l x h =
          ap (λ (y : work.Work). touches y l.area x.cs) (turns t lt).plain_is
          ∙ or_left (list_any (λ a. true && has l.area x.cs a) (arguments (call t).called.args)) false
          (call_touches outer (call t).called l x h)

      write : (t : ℕ) (lt : t < suc n) (l : Spot) (x : Element outer l) → (h : CallTouches outer (call t).called l)
          → is_written h.it.p.argument.mode ≡ true → writes (plain (w t)) l.area x.cs ≡ true
      write t lt l x h wr =
          ap (λ (y : work.Work). writes y l.area x.cs) (turns t lt).plain_is
          ∙ or_left (list_any (λ a. is_written a.mode && has l.area x.cs a) (arguments (call t).called.args)) false
          (call_writes outer (call t).called l x h wr)

  gathers_good : (r : Reduction) (place : _) (spread : Option _) (n : ℕ) (w : ℕ → Placed) → ((t : ℕ) → Inner (w t))
      → Facts (Gathers r place spread n w)
  gathers_good r place spread zero w inner outer may fit keep = record {
    reach = λ node kid at l q h. ⊎_elim (λ z. absurd z) (λ z. absurd z) h;
    permitted = λ node kid at l q h. absurd h;
    closed = λ node kid at l q h. h;
    no_sum = λ o h l z. z;
    touched = λ node kid at l q h x. ⊎_elim (λ z. absurd z) (λ z. absurd z) h;
    written = λ node kid at l q h x. absurd h;
    sound = λ node kid free stowed. tt;
  }
  gathers_good r place spread (suc n) w inner outer may fit keep
      = reduce_good r place spread n w outer may shape.0 shape.1 shape.2 turns
    where
      call : ℕ → OneCall
      call t = call_or_none (share coding offset (w t) outer).call

      first : (t : ℕ) → t < suc n → IsTurn r outer may (w t) (call t) fit.0
      first t lt = turn_at r outer may (suc n) w fit.0 fit.1 keep.1 inner t lt

      which_is : fit.0 ≡ which_of (call 0).called.args
      which_is = sym (first 0 (omega arith)).which_is

      turns : (t : ℕ) → t < suc n → IsTurn r outer may (w t) (call t) (which_of (call 0).called.args)
      turns t lt = subst (λ k. IsTurn r outer may (w t) (call t) k) which_is (first t lt)

      shape : (of : Shape) × (slice_get outer r.array ≡ Some of) × (of.elem ≡ r.elem)
      shape =
          let h = (first 0 (omega arith)).sums in
          let fits = h.args.each (which_of (call 0).called.args) h.sum h.there in
          (fits.of, ap (slice_get outer) (sym h.array) ∙ fits.there, sym fits.elem ∙ h.elem)

  -- ---- a leaf

  leaf_good : (number : ℕ) (leaf : _) (shapes : List Shape) → Facts (Leaf number leaf shapes)
  leaf_good number leaf shapes outer may fit keep = record {
    reach = λ node kid at l q h. ⊎_elim (λ z. (inside l z.1, z.2)) (λ z. (inside l z.1, z.3)) h;
    permitted = λ node kid at l q h. keep.1 l.area h.2;
    closed = λ node kid at l q h. h;
    no_sum = λ o h l z. z;
    touched = λ node kid at l q h x. refl;
    written = λ node kid at l q h x. refl;
    sound = λ node kid free stowed. tt;
  }
    where
      inside : (l : Spot) → l.index < size_in (slice_get shapes l.area) → InShapes outer l
      inside l lt = subst (λ ss. InShapes ss l) fit.0 (go (slice_get shapes l.area) refl lt)
        where
          go : (o : Option Shape) → slice_get shapes l.area ≡ o → l.index < size_in o → InShapes shapes l
          go None e h = absurd (omega (arith, h))
          go (Some sh) e h = record { sh = sh; there = e; below = h }

  -- ---- taken loops

  -- what two calls share
  record SharedBy (c d : PlacedCall) (i j : ℕ) : Type 0 where
    pub x : PlacedArg
    pub y : PlacedArg
    pub x_at : slice_get c.args i ≡ Some x
    pub y_at : slice_get d.args j ≡ Some y
    pub x_buffer : place_of x.home ≡ Buffer
    pub y_buffer : place_of y.home ≡ Buffer
    pub writes : is_written x.argument.mode ≡ true
    pub shares : SharesElement x.argument y.argument

  shared_by : (outer : List Shape) (c d : PlacedCall) → IsPlain outer c → IsPlain outer d → (i j k k' : ℕ) → k
      < (arrays_of outer c i).size → k' < (arrays_of outer d j).size → (arrays_of outer c i).place ≡ Buffer
      → (arrays_of outer d j).place ≡ Buffer
      → bytes.returned (arrays_of outer c i).mode ≡ true → (arrays_of outer d j).mode ≢ Local
      → (arrays_of outer c i).block k ≡ (arrays_of outer d j).block k' → SharedBy c d i j
  shared_by outer c d is js i j k k' lk lk' b b' r nl e =
      let x = touched outer c is.args i k ((arrays_of outer d j).block k')
      (returned_not_local (arrays_of outer c i).mode r) lk e in
      let y = touched outer d js.args j k' ((arrays_of outer d j).block k') nl lk' refl in
      record {
        x = x.p;
        y = y.p;
        x_at = x.there;
        y_at = y.there;
        x_buffer = sym (ap (λ (a : Array). a.place) x.array_is) ∙ b;
        y_buffer = sym (ap (λ (a : Array). a.place) y.array_is) ∙ b';
        writes = (returned_mode x.p (subst (λ (a : Array). bytes.returned a.mode ≡ true) x.array_is r)).1;
        shares = shares_element outer c d i j k k' ((arrays_of outer d j).block k') x y;
      }

  -- of which nothing is held

  module _ (outer : List Shape) (may : ℕ → Bool) (n : ℕ) (calls : ℕ → PlacedCall) (w : ℕ → Placed)
      (plains : (t : ℕ) → t < n → IsPlain outer (calls t))
      (same : (t : ℕ) → t < n → arity_of (calls t) ≡ arity_of (calls 0))
      (buffers : (t : ℕ) → t < n → HasBuffers (calls t)) (keeps : (t : ℕ) → t < n → CallKeeps (calls t) may)
      (goods : (t : ℕ) → t < n → IsGood (w t) (shapes_of (calls t)) (may_of (calls t))) where
    abbrev many : ℕ
    many = arity_of (calls 0)

    needs_at : (t : ℕ) (lt : t < n) (inside : Node) (form : ℕ → ℕ) (at : Layout) (l q : Spot)
        → CallNeeds many (arrays_of outer (calls t)) (low.source inside form (arrays_of outer (calls t)) at) l q
        → CallTouches outer (calls t) l × (at l ≡ q)
    needs_at t lt inside form at l q z =
        needs_touch outer (calls t) (plains t lt).args may (keeps t lt) inside form at l q
        (subst (λ k. CallNeeds k (arrays_of outer (calls t)) (low.source inside form (arrays_of outer (calls t)) at)
        l q) (sym (same t lt)) z)

    sets_at : (t : ℕ) (lt : t < n) (inside : Node) (form : ℕ → ℕ) (at : Layout) (l q : Spot)
        → CallSets many (arrays_of outer (calls t)) (low.source inside form (arrays_of outer (calls t)) at) l q
        → (x : CallTouches outer (calls t) l) × (at l ≡ q) × (x.it.p.gathers ≡ None)
        × (is_written x.it.p.argument.mode ≡ true)
    sets_at t lt inside form at l q z =
        sets_touch outer (calls t) (plains t lt).args may (keeps t lt) inside form at l q
        (subst (λ k. CallSets k (arrays_of outer (calls t)) (low.source inside form (arrays_of outer (calls t)) at)
        l q) (sym (same t lt)) z)

    in_buffer : (t : ℕ) (lt : t < n) (i : ℕ) → (arrays_of outer (calls t) i).place ≡ Buffer
    in_buffer t lt i = go (one_of outer (calls t) i)
      where
        local : (o : Option Shape) → (local_of o).place ≡ Buffer
        local None = refl
        local (Some sh) = refl

        go : OneOf outer (calls t) i → (arrays_of outer (calls t) i).place ≡ Buffer
        go (AParam p e at) = ap (λ (a : Array). a.place) at ∙ (buffers t lt).each i p e
        go (ALocal e at) = ap (λ (a : Array). a.place) at ∙ local (slice_get (shapes_of (calls t)) i)

    not_held : (t : ℕ) (lt : t < n) (i : ℕ) → (arrays_of outer (calls t) i).place ≡ Held → ⊥
    not_held t lt i e = let z : held Held ≡ held Buffer = ap held (sym e ∙ in_buffer t lt i) in cc

    no_reduced : (t : ℕ) (lt : t < n) (i : ℕ) → is_reduced (arrays_of outer (calls t) i).mode ≡ false
    no_reduced t lt i = go (is_reduced (arrays_of outer (calls t) i).mode) refl
      where
        go : (b : Bool) → is_reduced (arrays_of outer (calls t) i).mode ≡ b
            → is_reduced (arrays_of outer (calls t) i).mode ≡ false
        go true e = absurd (plain_no_sum outer (calls t) (plains t lt) i e)
        go false e = e

    pipe_fits : low.PipeFits n many (λ t. arrays_of outer (calls t))
    pipe_fits = record {
      lower = λ t i lt li. ap low.in_place (in_buffer t lt i);
      plain
          = λ t i lt li. no_reduced t lt i;
    }

    loop_fits : LoopKeeps n calls → low.LoopFits n many (λ t. arrays_of outer (calls t))
    loop_fits loop = record {
      held_same = λ t u i lt lu li h. absurd (not_held t lt i h);
      steady = λ t u i k lt lu li lk h. absurd (not_held t lt i h);
      held_apart = λ t u i j k k' lt lu li lj ne lk lk' h nl r e. not_held t lt i h;
      ahead = λ t i j k k' ls li lj lk lk' b b' r nl e. let s
          = shared_by outer (calls t) (calls (suc t)) (plains t (omega (arith, ls))) (plains (suc t) ls) i j k k' lk lk'
          b b' r nl e in loop.ahead t i j s.x s.y ls s.x_at s.y_at s.x_buffer s.y_buffer s.writes s.shares;
      ahead_two = λ t i j k k' ls li lj lk lk' b b' r nl e. let s
          = shared_by outer (calls t) (calls (suc (suc t))) (plains t (omega (arith, ls))) (plains (suc (suc t)) ls) i j
          k k' lk lk' b b' r nl e in loop.ahead_two t i j s.x s.y ls s.x_at s.y_at s.x_buffer s.y_buffer s.writes
          s.shares;
    }

    spread_fits : low.SpreadFits n many (λ t. arrays_of outer (calls t))
    spread_fits = record { buffered = λ t i lt li. in_buffer t lt i }

    fits_at : (t : ℕ) (lt : t < n) (inside : Node)
        → low.CallFits many (arrays_of outer (calls t)) (on_bytes (w t) (shapes_of (calls t))) inside
    fits_at t lt inside =
        subst (λ k. low.CallFits k (arrays_of outer (calls t)) (on_bytes (w t) (shapes_of (calls t))) inside)
        (same t lt)
        (call_fits None outer (calls t) (plains t lt) may (keeps t lt).base (on_bytes (w t) (shapes_of (calls t)))
        inside ((goods t lt).reach inside 0) ((goods t lt).permitted inside 0) ((goods t lt).closed inside 0))

    turn_touched : (t : ℕ) (l : Spot) (x : Element outer l) → CallTouches outer (calls t) l
        → touches (work.Then (plain_call (calls t) (plain (w t))) work.Nothing) l.area x.cs ≡ true
    turn_touched t l x h = or_left (list_any (λ a. true && has l.area x.cs a) (arguments (calls t).args)) false
        (call_touches outer (calls t) l x h)

    turn_written : (t : ℕ) (l : Spot) (x : Element outer l) → (h : CallTouches outer (calls t) l)
        → is_written h.it.p.argument.mode ≡ true
        → writes (work.Then (plain_call (calls t) (plain (w t))) work.Nothing) l.area x.cs ≡ true
    turn_written t l x h wr = or_left
        (list_any (λ a. is_written a.mode && has l.area x.cs a) (arguments (calls t).args)) false
        (call_writes outer (calls t) l x h wr)

    may_at : (t : ℕ) (lt : t < n) (l : Spot) (h : CallTouches outer (calls t) l) → is_written h.it.p.argument.mode
        ≡ true → may l.area ≡ true
    may_at t lt l h wr =
        let e = element_at outer l (touched_in outer (calls t) h.i h.k l h.it) in
        ap may (sym (touched_has outer (calls t) h.i h.k l h.it e h.it).0)
        ∙ (keeps t lt).base.permitted h.i h.it.p h.it.there wr

    pub loop_good : LoopKeeps n calls → IsGood (Piped None n calls w) outer may
    loop_good loop = record {
      reach = λ node kid at l q h. ⊎_elim
          (λ z. let t = needs_at z.0 z.1 (child_of node kid)
          (low.set_of None node n (form_of offset first_buffer (calls 0)) (form_of offset second_buffer (calls 0)) z.0)
          at l q z.2 in (touched_in outer (calls z.0) t.0.i t.0.k l t.0.it, t.1))
          (λ z. let t = sets_at z.0 z.1 (child_of node kid)
          (low.set_of None node n (form_of offset first_buffer (calls 0)) (form_of offset second_buffer (calls 0)) z.0)
          at l q z.2 in (touched_in outer (calls z.0) t.0.i t.0.k l t.0.it, t.1)) h;
      permitted = λ node kid at l q z. let t
          = sets_at z.0 z.1 (child_of node kid)
          (low.set_of None node n (form_of offset first_buffer (calls 0)) (form_of offset second_buffer (calls 0)) z.0)
          at l q z.2 in may_at z.0 z.1 l t.0 t.3;
      closed = λ node kid at l q z. plain_no_sum outer (calls z.0) (plains z.0 z.1) z.2.0.area z.2.2;
      no_sum = λ o h l z. plain_no_sum outer (calls z.0) (plains z.0 z.1) z.2.0.area
          (reduced_true (arrays_of outer (calls z.0) z.2.0.area).mode o z.2.2);
      touched = λ node kid at l q h x. ⊎_elim
          (λ z. any_at n (λ t. touches (work.Then (plain_call (calls t) (plain (w t))) work.Nothing) l.area x.cs) z.0
          z.1 (turn_touched z.0 l x (needs_at z.0 z.1 (child_of node kid)
          (low.set_of None node n (form_of offset first_buffer (calls 0)) (form_of offset second_buffer (calls 0)) z.0)
          at l q z.2).0))
          (λ z. any_at n (λ t. touches (work.Then (plain_call (calls t) (plain (w t))) work.Nothing) l.area x.cs) z.0
          z.1 (turn_touched z.0 l x (sets_at z.0 z.1 (child_of node kid)
          (low.set_of None node n (form_of offset first_buffer (calls 0)) (form_of offset second_buffer (calls 0)) z.0)
          at l q z.2).0)) h;
      written = λ node kid at l q z x. let t
          = sets_at z.0 z.1 (child_of node kid)
          (low.set_of None node n (form_of offset first_buffer (calls 0)) (form_of offset second_buffer (calls 0)) z.0)
          at l q z.2 in
          any_at n (λ t. writes (work.Then (plain_call (calls t) (plain (w t))) work.Nothing) l.area x.cs) z.0 z.1
          (turn_written z.0 l x t.0 t.3);
      sound = λ node kid free stowed. (
        pipe_fits,
        loop_fits loop,
        stowed.0,
        λ t lt. (
          fits_at t lt (child_of node kid),
          (stowed.1 t lt).0,
          (goods t lt).sound (child_of node kid) 0 (free t lt).0
              (stowed.1 t lt).1,
        ),
      );
    }

    pub taken_good : (place : _) (rule : _) → IsGood (Piped (Some (place, rule)) n calls w) outer may
    taken_good place rule = record {
      reach = λ node kid at l q h. ⊎_elim
          (λ z. let t = needs_at z.0 z.1 (child_of node (lane_kid (Some rule) node kid n z.0))
          (low.set_of (Some rule) node n (form_of offset first_buffer (calls 0))
          (form_of offset second_buffer (calls 0)) z.0) at l q z.2 in
          (touched_in outer (calls z.0) t.0.i t.0.k l t.0.it, t.1))
          (λ z. let t = sets_at z.0 z.1 (child_of node (lane_kid (Some rule) node kid n z.0))
          (low.set_of (Some rule) node n (form_of offset first_buffer (calls 0))
          (form_of offset second_buffer (calls 0)) z.0) at l q z.2 in
          (touched_in outer (calls z.0) t.0.i t.0.k l t.0.it, t.1)) h;
      permitted = λ node kid at l q z. let t
          = sets_at z.0 z.1 (child_of node (lane_kid (Some rule) node kid n z.0))
          (low.set_of (Some rule) node n (form_of offset first_buffer (calls 0))
          (form_of offset second_buffer (calls 0)) z.0) at l q z.2 in may_at z.0 z.1 l t.0 t.3;
      closed = λ node kid at l q z. plain_no_sum outer (calls z.0) (plains z.0 z.1) z.2.0.area z.2.2;
      no_sum = λ o h l z. plain_no_sum outer (calls z.0) (plains z.0 z.1) z.2.0.area
          (reduced_true (arrays_of outer (calls z.0) z.2.0.area).mode o z.2.2);
      touched = λ node kid at l q h x. ⊎_elim
          (λ z. any_at n (λ t. touches (work.Then (plain_call (calls t) (plain (w t))) work.Nothing) l.area x.cs) z.0
          z.1 (turn_touched z.0 l x (needs_at z.0 z.1 (child_of node (lane_kid (Some rule) node kid n z.0))
          (low.set_of (Some rule) node n (form_of offset first_buffer (calls 0))
          (form_of offset second_buffer (calls 0)) z.0) at l q z.2).0))
          (λ z. any_at n (λ t. touches (work.Then (plain_call (calls t) (plain (w t))) work.Nothing) l.area x.cs) z.0
          z.1 (turn_touched z.0 l x (sets_at z.0 z.1 (child_of node (lane_kid (Some rule) node kid n z.0))
          (low.set_of (Some rule) node n (form_of offset first_buffer (calls 0))
          (form_of offset second_buffer (calls 0)) z.0) at l q z.2).0)) h;
      written = λ node kid at l q z x. let t
          = sets_at z.0 z.1 (child_of node (lane_kid (Some rule) node kid n z.0))
          (low.set_of (Some rule) node n (form_of offset first_buffer (calls 0))
          (form_of offset second_buffer (calls 0)) z.0) at l q z.2 in
          any_at n (λ t. writes (work.Then (plain_call (calls t) (plain (w t))) work.Nothing) l.area x.cs) z.0 z.1
          (turn_written z.0 l x t.0 t.3);
      sound = λ node kid free stowed. (
        pipe_fits,
        spread_fits,
        stowed.0,
        (
          record {
            apart = λ a b la lb ne at l p p' s h.
                let t = sets_at a la (child_of node (lane_kid (Some rule) node kid n a))
                (low.set_of (Some rule) node n (form_of offset first_buffer (calls 0))
                (form_of offset second_buffer (calls 0)) a) at l p s in
                let x = element_at outer l (touched_in outer (calls a) t.0.i t.0.k l t.0.it) in
                free.0.at a b l.area x.cs la lb ne refl (turn_written a l x t.0 t.3)
                (turn_touched b l x (⊎_elim (λ z.
                (needs_at b lb (child_of node (lane_kid (Some rule) node kid n b))
                (low.set_of (Some rule) node n (form_of offset first_buffer (calls 0))
                (form_of offset second_buffer (calls 0)) b) at l p' z).0)
                (λ z. (sets_at b lb (child_of node (lane_kid (Some rule) node kid n b))
                (low.set_of (Some rule) node n (form_of offset first_buffer (calls 0))
                (form_of offset second_buffer (calls 0)) b) at l p' z).0) h));
            lanes = stowed.1.lanes;
            one_op = λ a b la lb o o' h h' l z z'. absurd
                (plain_no_sum outer (calls a) (plains a la) z.0.area
                (reduced_true (arrays_of outer (calls a) z.0.area).mode o z.2));
          },
          λ t lt. let s = stowed.2 t lt in (
            s.0,
            (
              fits_at t lt (child_of node (lane_kid (Some rule) node kid n t)),
              s.1,
              (goods t lt).sound
                  (child_of node (lane_kid (Some rule) node kid n t)) 0 (free.1 t lt).0 s.2,
            ),
          ),
        ),
      );
    }

  -- ---- loops that hold arguments

  -- where an argument that is held has its byte k
  abbrev pub cell : Node → (kid : ℕ) → PlacedArg → ℕ → Spot
  cell node kid h k = spot (child_of node kid).number (offset (first_buffer h.home) + k)

  -- byte k of an argument
  abbrev pub block : (outer : List Shape) → PlacedArg → ℕ → Spot
  block outer h k = block_of (slice_get outer h.argument.array) h.argument k

  -- q is where one of the held arguments has the byte l
  pub record HeldAt (outer : List Shape) (H : List PlacedArg) (M : Mode → Bool) (node : Node) (kid : ℕ) (l q : Spot) :
      Type 0 where
    pub j : ℕ
    pub h : PlacedArg
    pub there : slice_get H j ≡ Some h
    pub k : ℕ
    pub below : k < bytes_in h.shape
    pub mode : M (mode_of h) ≡ true
    pub block_is : block outer h k ≡ l
    pub cell_is : cell node kid h k ≡ q

  -- no buffer further in has a byte of theirs
  abbrev pub Clear : List PlacedArg → Work → (node : Node) (kid : ℕ) → Type 0
  Clear H W node kid = (j : ℕ) (h : PlacedArg) (k : ℕ) → slice_get H j ≡ Some h → k < bytes_in h.shape
      → Scratch W node kid (cell node kid h k) → ⊥

  pub record IsHeld (p : Placed) (outer : List Shape) (may : ℕ → Bool) (H : List PlacedArg) : Type 0 where
    pub needs : (node : Node) (kid : ℕ) (at : Layout) (l q : Spot) → Needs (on_bytes p outer) node kid at l q
        → InShapes outer l × ((at l ≡ q) ⊎ HeldAt outer H reads node kid l q)
    pub sets : (node : Node) (kid : ℕ) (at : Layout) (l q : Spot) → Sets (on_bytes p outer) node kid at l q
        → InShapes outer l × ((at l ≡ q) ⊎ HeldAt outer H bytes.returned node kid l q)
    pub permitted : (node : Node) (kid : ℕ) (at : Layout) (l q : Spot) → Sets (on_bytes p outer) node kid at l q
        → may l.area ≡ true
    pub closed : (node : Node) (kid : ℕ) (at : Layout) (l q : Spot) → low.Gathers (on_bytes p outer) node kid at l q → ⊥
    pub no_sum : (o : Op) (h l : Spot) → GathersOf (on_bytes p outer) o h l → ⊥
    pub touched : (node : Node) (kid : ℕ) (at : Layout) (l q : Spot) → Needs (on_bytes p outer) node kid at l q
        ⊎ Sets (on_bytes p outer) node kid at l q → (x : Element outer l) → touches (plain p) l.area x.cs ≡ true
    pub written : (node : Node) (kid : ℕ) (at : Layout) (l q : Spot) → Sets (on_bytes p outer) node kid at l q
        → (x : Element outer l) → writes (plain p) l.area x.cs ≡ true
    -- of an argument that each call has
    pub only_needs : (node : Node) (kid : ℕ) (at : Layout) (j k : ℕ) (h : PlacedArg) (l q : Spot) → slice_get H j
        ≡ Some h → place_of h.home ≡ Held → AllCalls h p → PassedFits outer h → k < bytes_in h.shape → block outer h k
        ≡ l
        → is_written h.argument.mode ≡ true → Needs (on_bytes p outer) node kid at l q → q ≡ cell node kid h k
    pub only_sets : (node : Node) (kid : ℕ) (at : Layout) (j k : ℕ) (h : PlacedArg) (l q : Spot) → slice_get H j
        ≡ Some h → place_of h.home ≡ Held → AllCalls h p → PassedFits outer h → k < bytes_in h.shape → block outer h k
        ≡ l
        → Sets (on_bytes p outer) node kid at l q → (is_written h.argument.mode ≡ true) × (q ≡ cell node kid h k)
    -- and of one that there is
    pub one_fits : (h : PlacedArg) → HasOne h p → PassedFits outer h
    pub one_sets : (node : Node) (kid : ℕ) (at : Layout) (h : PlacedArg) (k : ℕ) → HasOne h p → place_of h.home ≡ Held
        → k < bytes_in h.shape → bytes.returned (mode_of h) ≡ true
        → (Scratch (on_bytes p outer) node kid (cell node kid h k) → ⊥)
        → Sets (on_bytes p outer) node kid at (block outer h k) (cell node kid h k)
    pub one_touches : (h : PlacedArg) (k : ℕ) (l : Spot) → HasOne h p → k < bytes_in h.shape → block outer h k ≡ l
        → (x : Element outer l) → touches (plain p) l.area x.cs ≡ true
    pub one_writes : (h : PlacedArg) (k : ℕ) (l : Spot) → HasOne h p → k < bytes_in h.shape → block outer h k ≡ l
        → is_written h.argument.mode ≡ true → (x : Element outer l) → writes (plain p) l.area x.cs ≡ true
    pub one_may : (h : PlacedArg) (k : ℕ) (l : Spot) → HasOne h p → k < bytes_in h.shape → block outer h k ≡ l
        → is_written h.argument.mode ≡ true → may l.area ≡ true
    pub sound : (node : Node) (kid : ℕ) → turn.IsRaceFree (plain p) → Stowed (on_bytes p outer) node kid
        → Clear H (on_bytes p outer) node kid → Sound (on_bytes p outer) node kid

  abbrev pub HeldFacts : Placed → Type 0
  HeldFacts p = (outer : List Shape) (may : ℕ → Bool) (H : List PlacedArg) → Fitting coding p None outer
      → Keep p true H may → IsHeld p outer may H

  nothing_held : HeldFacts Nothing
  nothing_held outer may H fit keep = record {
    needs = λ node kid at l q z. absurd z;
    sets = λ node kid at l q z. absurd z;
    permitted = λ node kid at l q z. absurd z;
    closed = λ node kid at l q z. z;
    no_sum = λ o h l z. z;
    touched = λ node kid at l q z x. ⊎_elim (λ y. absurd y) (λ y. absurd y) z;
    written = λ node kid at l q z x. absurd z;
    only_needs = λ node kid at j k h l q e pl all fits lt b w z. absurd z;
    only_sets = λ node kid at j k h l q e pl all fits lt b z. absurd z;
    one_fits = λ h z. absurd z;
    one_sets = λ node kid at h k z pl lt r clear. absurd z;
    one_touches = λ h k l z lt b x. absurd z;
    one_writes = λ h k l z lt b w x. absurd z;
    one_may = λ h k l z lt b w. absurd z;
    sound = λ node kid free stowed clear. tt;
  }

  then_held : (a b : Placed) (outer : List Shape) (may : ℕ → Bool) (H : List PlacedArg) → IsHeld a outer may H
      → IsHeld b outer may H → IsHeld (Then a b) outer may H
  then_held a b outer may H f g = record {
    needs = λ node kid at l q z. ⊎_elim (f.needs node kid at l q) (g.needs node kid at l q) z;
    sets = λ node kid at l q z. ⊎_elim (f.sets node kid at l q) (g.sets node kid at l q) z;
    permitted = λ node kid at l q z. ⊎_elim (f.permitted node kid at l q) (g.permitted node kid at l q) z;
    closed = λ node kid at l q z. ⊎_elim (f.closed node kid at l q) (g.closed node kid at l q) z;
    no_sum = λ o h l z. ⊎_elim (f.no_sum o h l) (g.no_sum o h l) z;
    touched = λ node kid at l q h x. ⊎_elim
        (⊎_elim (λ z. or_left _ (touches (plain b) l.area x.cs) (f.touched node kid at l q (inl z) x))
        (λ z. or_right (touches (plain a) l.area x.cs) _ (g.touched node kid at l q (inl z) x)))
        (⊎_elim (λ z. or_left _ (touches (plain b) l.area x.cs) (f.touched node kid at l q (inr z) x))
        (λ z. or_right (touches (plain a) l.area x.cs) _ (g.touched node kid at l q (inr z) x))) h;
    written = λ node kid at l q h x. ⊎_elim
        (λ z. or_left _ (writes (plain b) l.area x.cs) (f.written node kid at l q z x))
        (λ z. or_right (writes (plain a) l.area x.cs) _ (g.written node kid at l q z x)) h;
    only_needs = λ node kid at j k h l q e pl all fits lt b w z. ⊎_elim
        (f.only_needs node kid at j k h l q e pl all.0 fits lt b w)
        (g.only_needs node kid at j k h l q e pl all.1 fits lt b w) z;
    only_sets = λ node kid at j k h l q e pl all fits lt b z. ⊎_elim
        (f.only_sets node kid at j k h l q e pl all.0 fits lt b)
        (g.only_sets node kid at j k h l q e pl all.1 fits lt b) z;
    one_fits = λ h z. f.one_fits h z;
    one_sets = λ node kid at h k z pl lt r clear. inl (f.one_sets node kid at h k z pl lt r (λ s. clear (inl s)));
    one_touches = λ h k l z lt c x. or_left (touches (plain a) l.area x.cs) (touches (plain b) l.area x.cs)
        (f.one_touches h k l z lt c x);
    one_may = λ h k l z lt c w. f.one_may h k l z lt c w;
    one_writes = λ h k l z lt c w x. or_left (writes (plain a) l.area x.cs) (writes (plain b) l.area x.cs)
        (f.one_writes h k l z lt c w x);
    sound = λ node kid free stowed clear. (
      f.sound node kid free.0 stowed.0 (λ j h k e lt s. clear j h k e lt (inl s)),
      g.sound node kid free.1 stowed.1
          (λ j h k e lt s. clear j h k e lt (inr s)),
    );
  }

  each_held : (n : ℕ) (w : ℕ → Placed) (outer : List Shape) (may : ℕ → Bool) (H : List PlacedArg)
      → ((t : ℕ) → t < n → IsHeld (w t) outer may H) → IsHeld (Each n w) outer may H
  each_held n w outer may H f = record {
    needs = λ node kid at l q z. (f z.0 z.1).needs node kid at l q z.2;
    sets = λ node kid at l q z. (f z.0 z.1).sets node kid at l q z.2;
    permitted = λ node kid at l q z. (f z.0 z.1).permitted node kid at l q z.2;
    closed = λ node kid at l q z. (f z.0 z.1).closed node kid at l q z.2;
    no_sum = λ o h l z. (f z.0 z.1).no_sum o h l z.2;
    touched = λ node kid at l q h x. ⊎_elim
        (λ z. any_at n (λ t. touches (plain (w t)) l.area x.cs) z.0 z.1
        ((f z.0 z.1).touched node kid at l q (inl z.2) x))
        (λ z. any_at n (λ t. touches (plain (w t)) l.area x.cs) z.0 z.1
        ((f z.0 z.1).touched node kid at l q (inr z.2) x)) h;
    written = λ node kid at l q z x. any_at n (λ t. writes (plain (w t)) l.area x.cs) z.0 z.1
        ((f z.0 z.1).written node kid at l q z.2 x);
    only_needs = λ node kid at j k h l q e pl all fits lt b wr z. (f z.0 z.1).only_needs node kid at j k h l q e pl
        (all z.0 z.1) fits lt b wr z.2;
    only_sets = λ node kid at j k h l q e pl all fits lt b z. (f z.0 z.1).only_sets node kid at j k h l q e pl
        (all z.0 z.1) fits lt b z.2;
    one_fits = λ h z. (f 0 z.0).one_fits h z.1;
    one_sets = λ node kid at h k z pl lt r clear.
        (0, z.0, (f 0 z.0).one_sets node kid at h k z.1 pl lt r (λ s. clear (0, z.0, s)));
    one_touches = λ h k l z lt c x. any_at n (λ t. touches (plain (w t)) l.area x.cs) 0 z.0
        ((f 0 z.0).one_touches h k l z.1 lt c x);
    one_may = λ h k l z lt c wr. (f 0 z.0).one_may h k l z.1 lt c wr;
    one_writes = λ h k l z lt c wr x. any_at n (λ t. writes (plain (w t)) l.area x.cs) 0 z.0
        ((f 0 z.0).one_writes h k l z.1 lt c wr x);
    sound = λ node kid free stowed clear t lt. (f t lt).sound node kid (free t lt) (stowed t lt)
        (λ j h k e lk s. clear j h k e lk (t, lt, s));
  }

  -- a byte of an argument, as a call of it alone has it
  passed_touched : (outer : List Shape) (h : PlacedArg) (k : ℕ) (l : Spot) → PassedFits outer h → k < bytes_in h.shape
      → block outer h k ≡ l → Touched outer (on.held_call (h ∷ [])) 0 k l
  passed_touched outer h k l fits lt e = record {
    p = h;
    there = refl;
    array_is = refl;
    of = fits.of;
    of_is = fits.there;
    fits = fits.fits;
    small = size_is h fits.of fits.elem fits.extents k lt;
    block_is = e;
  }

  form_at : (buffer : Home → ℕ) (c : PlacedCall) (i : ℕ) (p : PlacedArg) → slice_get c.args i ≡ Some p
      → form_of offset buffer c i ≡ offset (buffer p.home)
  form_at buffer c i p e = ap offset
      (pick_at (map (λ (q : PlacedArg). buffer q.home) c.args ++ map (λ k. k.buffer) c.locals) i (buffer p.home)
      (at_left (λ (q : PlacedArg). buffer q.home) c.args (map (λ k. k.buffer) c.locals) i p e))
    where
      pick_at : (l : List ℕ) (i x : ℕ) → slice_get l i ≡ Some x → get_or l i 0 ≡ x
      pick_at [] i x e = cc
      pick_at (y ∷ l) zero x e = same_some e
      pick_at (y ∷ l) (suc i) x e = pick_at l i x e

  -- one call of a loop, at a child, in loops that hold arguments
  pub record TurnHeld (c : PlacedCall) (outer : List Shape) (may : ℕ → Bool) (H : List PlacedArg) (many : ℕ)
      (at_child : Node → (kid : ℕ) → Node) (form : Node → ℕ → ℕ) : Type 0 where
    pub needs : (node : Node) (kid : ℕ) (at : Layout) (l q : Spot)
        → CallNeeds many (arrays_of outer c) (low.source (at_child node kid) (form node) (arrays_of outer c) at) l q
        → InShapes outer l × ((at l ≡ q) ⊎ HeldAt outer H reads node kid l q)
    pub sets : (node : Node) (kid : ℕ) (at : Layout) (l q : Spot)
        → CallSets many (arrays_of outer c) (low.source (at_child node kid) (form node) (arrays_of outer c) at) l q
        → InShapes outer l × ((at l ≡ q) ⊎ HeldAt outer H bytes.returned node kid l q)
    pub permitted : (node : Node) (kid : ℕ) (at : Layout) (l q : Spot)
        → CallSets many (arrays_of outer c) (low.source (at_child node kid) (form node) (arrays_of outer c) at) l q
        → may l.area ≡ true
    pub needs_from : (node : Node) (kid : ℕ) (at : Layout) (l q : Spot)
        → CallNeeds many (arrays_of outer c) (low.source (at_child node kid) (form node) (arrays_of outer c) at) l q
        → CallTouches outer c l
    pub sets_from : (node : Node) (kid : ℕ) (at : Layout) (l q : Spot)
        → CallSets many (arrays_of outer c) (low.source (at_child node kid) (form node) (arrays_of outer c) at) l q
        → (h : CallTouches outer c l) × (is_written h.it.p.argument.mode ≡ true)
    pub only_needs : (node : Node) (kid : ℕ) (at : Layout) (i k : ℕ) (g : PlacedArg) (l q : Spot) → slice_get c.args i
        ≡ Some g → place_of g.home ≡ Held → PassedFits outer g → k < bytes_in g.shape → block outer g k ≡ l
        → is_written g.argument.mode ≡ true
        → CallNeeds many (arrays_of outer c) (low.source (at_child node kid) (form node) (arrays_of outer c) at) l q → q
        ≡ cell node kid g k
    pub only_sets : (node : Node) (kid : ℕ) (at : Layout) (i k : ℕ) (g : PlacedArg) (l q : Spot) → slice_get c.args i
        ≡ Some g → place_of g.home ≡ Held → PassedFits outer g → k < bytes_in g.shape → block outer g k ≡ l
        → CallSets many (arrays_of outer c) (low.source (at_child node kid) (form node) (arrays_of outer c) at) l q
        → (is_written g.argument.mode ≡ true) × (q ≡ cell node kid g k)
    pub one_sets : (node : Node) (kid : ℕ) (at : Layout) (i k : ℕ) (h : PlacedArg) → slice_get c.args i ≡ Some h
        → place_of h.home ≡ Held → k < bytes_in h.shape → bytes.returned (mode_of h) ≡ true
        → CallSets many (arrays_of outer c) (low.source (at_child node kid) (form node) (arrays_of outer c) at)
        (block outer h k) (cell node kid h k)
    pub one_at : (i k : ℕ) (h : PlacedArg) (l : Spot) → slice_get c.args i ≡ Some h → k < bytes_in h.shape
        → block outer h k ≡ l → (t : CallTouches outer c l) × (t.it.p ≡ h)
    pub one_may : (i k : ℕ) (h : PlacedArg) (l : Spot) → slice_get c.args i ≡ Some h → k < bytes_in h.shape
        → block outer h k ≡ l → is_written h.argument.mode ≡ true → may l.area ≡ true

  -- a call in loops that hold arguments
  module _ (c : PlacedCall) (outer : List Shape) (may : ℕ → Bool) (H : List PlacedArg) (is : IsPlain outer c)
      (keeps : CallHolds c may H) (many : ℕ) (many_is : arity_of c ≡ many) (at_child : Node → (kid : ℕ) → Node)
      (lower_node : (node : Node) (kid : ℕ) → at_child node kid ≡ child_of node kid)
      (form : Node → ℕ → ℕ) (buffer_at : (node : Node) (i : ℕ) (p : PlacedArg) → slice_get c.args i ≡ Some p → place_of
      p.home ≡ Held → form node i ≡ offset (first_buffer p.home)) where
    abbrev arrays : ℕ → Array
    arrays = arrays_of outer c

    own_cell : (node : Node) (kid : ℕ) (z : Spot) (p : PlacedArg) → slice_get c.args z.area ≡ Some p → place_of p.home
        ≡ Held → low.own (at_child node kid) (form node) z ≡ cell node kid p z.index
    unfolding offset_of
    own_cell node kid z p e pl = ap₂ (λ (m : Node) x. spot m.number (x + z.index)) (lower_node node kid)
        (buffer_at node z.area p e pl)

    -- where a byte of an argument is found
    found : (node : Node) (kid : ℕ) (at : Layout) (z l q : Spot) → (h : Touched outer c z.area z.index l)
        → low.source (at_child node kid) (form node) arrays at z ≡ q
        → ((held (place_of h.p.home) ≡ false) × (at l ≡ q))
        ⊎ ((place_of h.p.home ≡ Held) × (cell node kid h.p z.index ≡ q))
    found node kid at z l q h e = go (place_of h.p.home) refl
      where
        place : (arrays z.area).place ≡ place_of h.p.home
        place = ap (λ (a : Array). a.place) h.array_is

        same : (arrays z.area).block z.index ≡ l
        same = ap (λ (a : Array). a.block z.index) h.array_is ∙ h.block_is

        outside : held (place_of h.p.home) ≡ false → at l ≡ q
        outside n = sym (ap at same) ∙ sym
            (ap (λ b. low.pick b (low.own (at_child node kid) (form node) z) (at ((arrays z.area).block z.index)))
            (ap held place ∙ n)) ∙ e

        inside : place_of h.p.home ≡ Held → cell node kid h.p z.index ≡ q
        inside n = sym (own_cell node kid z h.p h.there n)
            ∙ sym (ap (λ b. low.pick b (low.own (at_child node kid) (form node) z) (at ((arrays z.area).block z.index)))
            (ap held place ∙ ap held n)) ∙ e

        go : (x : _) → place_of h.p.home ≡ x → ((held (place_of h.p.home) ≡ false) × (at l ≡ q))
            ⊎ ((place_of h.p.home ≡ Held) × (cell node kid h.p z.index ≡ q))
        go Buffer n = inl (ap held n, outside (ap held n))
        go InPlace n = inl (ap held n, outside (ap held n))
        go Held n = inr (n, inside n)

    needs_at_call : (node : Node) (kid : ℕ) (at : Layout) (l q : Spot)
        → CallNeeds many arrays (low.source (at_child node kid) (form node) arrays at) l q → (z : Spot)
        × (h : Touched outer c z.area z.index l) × (low.source (at_child node kid) (form node) arrays at z ≡ q)
        × (reads (mode_of h.p) ≡ true) × (z.index < bytes_in h.p.shape)
    needs_at_call node kid at l q y =
        let h = touched outer c is.args y.0.area y.0.index l (reads_not_local (arrays y.0.area).mode y.2) y.1.1 y.3 in (
          y.0,
          h,
          y.4,
          subst (λ (a : Array). reads a.mode ≡ true) h.array_is y.2,
          subst
              (λ (a : Array). y.0.index < a.size) h.array_is y.1.1,
        )

    sets_at_call : (node : Node) (kid : ℕ) (at : Layout) (l q : Spot)
        → CallSets many arrays (low.source (at_child node kid) (form node) arrays at) l q → (z : Spot)
        × (h : Touched outer c z.area z.index l) × (low.source (at_child node kid) (form node) arrays at z ≡ q)
        × (bytes.returned (mode_of h.p) ≡ true) × (z.index < bytes_in h.p.shape)
    sets_at_call node kid at l q y =
        let h = touched outer c is.args y.0.area y.0.index l (returned_not_local (arrays y.0.area).mode y.2) y.1.1 y.3
        in (
          y.0,
          h,
          y.4,
          subst (λ (a : Array). bytes.returned a.mode ≡ true) h.array_is y.2,
          subst
              (λ (a : Array). y.0.index < a.size) h.array_is y.1.1,
        )

    place_at : (M : Mode → Bool) (node : Node) (kid : ℕ) (at : Layout) (z l q : Spot)
        → (h : Touched outer c z.area z.index l) → low.source (at_child node kid) (form node) arrays at z ≡ q
        → M (mode_of h.p) ≡ true → z.index < bytes_in h.p.shape
        → InShapes outer l × ((at l ≡ q) ⊎ HeldAt outer H M node kid l q)
    place_at M node kid at z l q h e m lt
        = (
          touched_in outer c z.area z.index l h,
          ⊎_elim (λ x. inl x.1)
              (λ x. inr (let j = keeps.held_in z.area h.p h.there x.0 in record {
                j = j.0;
                h = h.p;
                there = j.1;
                k = z.index;
                below = lt;
                mode = m;
                block_is = h.block_is;
                cell_is
                    = x.1;
              }))
              (found node kid at z l q h e),
        )

    as_touched : (i k : ℕ) (l : Spot) (g : PlacedArg) → slice_get c.args i ≡ Some g → PassedFits outer g → k
        < bytes_in g.shape → block outer g k ≡ l → Touched outer c i k l
    as_touched i k l g e fits lt b = record {
      p = g;
      there = e;
      array_is = array_is outer c i g e;
      of = fits.of;
      of_is = fits.there;
      fits = fits.fits;
      small = size_is g fits.of fits.elem fits.extents k lt;
      block_is = b;
    }

    -- against an argument that the call has at i
    against : (node : Node) (kid : ℕ) (at : Layout) (i k : ℕ) (g : PlacedArg) (z l q : Spot) → slice_get c.args i
        ≡ Some g → place_of g.home ≡ Held → PassedFits outer g → k < bytes_in g.shape → block outer g k ≡ l
        → (h : Touched outer c z.area z.index l) → low.source (at_child node kid) (form node) arrays at z ≡ q
        → ((h.p ≡ g) × (q ≡ cell node kid g k))
        ⊎ ((is_written g.argument.mode ≡ false) × (is_written h.p.argument.mode ≡ false))
    unfolding passed_touched
    against node kid at i k g z l q e pl fits lt b h from = go (nat_eq z.area i) refl
      where
        shared : SharesElement g.argument h.p.argument
        shared = shares_element outer (on.held_call (g ∷ [])) c 0 z.area k z.index l
            (passed_touched outer g k l fits lt b) h

        go : (x : Bool) → nat_eq z.area i ≡ x → ((h.p ≡ g) × (q ≡ cell node kid g k))
            ⊎ ((is_written g.argument.mode ≡ false) × (is_written h.p.argument.mode ≡ false))
        go true n =
            let same : z.area ≡ i = grind (arith, nat_tests, n) in
            let p_is : h.p ≡ g = same_some (sym h.there ∙ (ap (slice_get c.args) same ∙ e)) in
            let held_place : place_of h.p.home ≡ Held = ap (λ (p : PlacedArg). place_of p.home) p_is ∙ pl in
            let index_is : z.index ≡ k = one_byte None outer c is may keeps.base z.area z.index k l h
            (as_touched z.area k l g (h.there ∙ ap Some p_is) fits lt b) in
            inl (
              p_is,
              ⊎_elim (λ x. absurd (not_both (place_of h.p.home) held_place x.0))
                  (λ x. sym x.1 ∙ ap₂ (λ (p : PlacedArg) j. cell node kid p j) p_is index_is)
                  (found node kid at z l q h from),
            )
          where
            not_both : (x : _) → x ≡ Held → held x ≡ false → ⊥
            not_both Buffer a b = cc
            not_both InPlace a b = cc
            not_both Held a b = cc
        go false n =
            let far : z.area ≢ i = grind (arith, nat_tests, n) in
            let st : stays (place_of g.home) ≡ true = ap stays pl in
            inr ((keeps.base.apart i g e st).others z.area g.argument h.p.argument far
            (mapped (λ (q : PlacedArg). q.argument) c.args i g e)
            (mapped (λ (q : PlacedArg). q.argument) c.args z.area h.p h.there) shared)

    both_false : (b : Bool) → b ≡ true → b ≡ false → ⊥
    both_false true e f = cc
    both_false false e f = cc

    pub turn_held : TurnHeld c outer may H many at_child form
    unfolding as_touched
    turn_held = record {
      needs = λ node kid at l q y. let t
          = needs_at_call node kid at l q y in place_at reads node kid at t.0 l q t.1 t.2 t.3 t.4;
      sets = λ node kid at l q y. let t
          = sets_at_call node kid at l q y in place_at bytes.returned node kid at t.0 l q t.1 t.2 t.3 t.4;
      permitted = λ node kid at l q y.
          let t = sets_at_call node kid at l q y in
          let e = element_at outer l (touched_in outer c t.0.area t.0.index l t.1) in
          ap may (sym (touched_has outer c t.0.area t.0.index l t.1 e t.1).0)
          ∙ keeps.base.permitted t.0.area t.1.p t.1.there (returned_mode t.1.p t.3).1;
      needs_from = λ node kid at l q y. let t
          = needs_at_call node kid at l q y in record { i = t.0.area; k = t.0.index; it = t.1 };
      sets_from = λ node kid at l q y. let t
          = sets_at_call node kid at l q y in
          (record { i = t.0.area; k = t.0.index; it = t.1 }, (returned_mode t.1.p t.3).1);
      only_needs = λ node kid at i k g l q e pl fits lt b w y.
          let t = needs_at_call node kid at l q y in
          ⊎_elim (λ z. z.1) (λ z. absurd (both_false (is_written g.argument.mode) w z.0))
          (against node kid at i k g t.0 l q e pl fits lt b t.1 t.2);
      only_sets = λ node kid at i k g l q e pl fits lt b y.
          let t = sets_at_call node kid at l q y in
          let wr = (returned_mode t.1.p t.3).1 in
          ⊎_elim (λ z. (ap (λ (p : PlacedArg). is_written p.argument.mode) (sym z.0) ∙ wr, z.1))
          (λ z. absurd (both_false (is_written t.1.p.argument.mode) wr z.1))
          (against node kid at i k g t.0 l q e pl fits lt b t.1 t.2);
      one_sets = λ node kid at i k h e pl lt r.
          let a = array_is outer c i h e in (
            spot i k,
            (subst (λ m. i < m) many_is (arg_below c i h e), subst (λ (x : Array). k < x.size) (sym a) lt),
            subst (λ (x : Array). bytes.returned x.mode ≡ true) (sym a) r,
            ap (λ (x : Array). x.block k) a,
            ap (λ b. low.pick b (low.own (at_child node kid) (form node) (spot i k)) (at ((arrays i).block k)))
                (ap (λ (x : Array). held x.place) a ∙ ap held pl) ∙ own_cell node kid (spot i k) h e pl,
          );
      one_at = λ i k h l e lt b. (record { i = i; k = k; it = as_touched i k l h e (is.args.each i h e) lt b }, refl);
      one_may = λ i k h l e lt b w.
          let it = as_touched i k l h e (is.args.each i h e) lt b in
          let x = element_at outer l (touched_in outer c i k l it) in
          ap may (sym (touched_has outer c i k l it x it).0) ∙ keeps.base.permitted i h e w;
    }

  module _ (c : PlacedCall) (v : Placed) (outer : List Shape) (may : ℕ → Bool) (H : List PlacedArg)
      (is : IsPlain outer c) (keeps : CallHolds c may H) (f : IsGood v (shapes_of c) (may_of c)) where
    turn_of : TurnHeld c outer may H (arity_of c) (λ node kid. node_of c.lower node kid)
        (λ node. form_of offset first_buffer c)
    turn_of = turn_held c outer may H is keeps (arity_of c) refl (λ node kid. node_of c.lower node kid)
        (λ node kid. ap (λ b. node_of b node kid) keeps.lower) (λ node. form_of offset first_buffer c)
        (λ node i p e pl. form_at first_buffer c i p e)

    pub call_held : IsHeld (Call c v) outer may H
    call_held = record {
      needs = λ node kid at l q y. turn_of.needs node kid at l q y;
      sets = λ node kid at l q y. turn_of.sets node kid at l q y;
      permitted = λ node kid at l q y. turn_of.permitted node kid at l q y;
      closed = λ node kid at l q z. plain_no_sum outer c is z.0.area z.2;
      no_sum = λ o h l z. plain_no_sum outer c is z.0.area (reduced_true (arrays_of outer c z.0.area).mode o z.2);
      touched = λ node kid at l q h x. ⊎_elim (λ y. call_touches outer c l x (turn_of.needs_from node kid at l q y))
          (λ y. call_touches outer c l x (turn_of.sets_from node kid at l q y).0) h;
      written = λ node kid at l q y x. let t = turn_of.sets_from node kid at l q y in call_writes outer c l x t.0 t.1;
      only_needs = λ node kid at j k g l q e pl all fits lt b w y. turn_of.only_needs node kid at all.0 k g l q all.1 pl
          fits lt b w y;
      only_sets = λ node kid at j k g l q e pl all fits lt b y. turn_of.only_sets node kid at all.0 k g l q all.1 pl
          fits lt b y;
      one_fits = λ h z. is.args.each z.0 h z.1;
      one_sets = λ node kid at h k z pl lt r clear. turn_of.one_sets node kid at z.0 k h z.1 pl lt r;
      one_touches = λ h k l z lt b x. call_touches outer c l x (turn_of.one_at z.0 k h l z.1 lt b).0;
      one_may = λ h k l z lt b w. turn_of.one_may z.0 k h l z.1 lt b w;
      one_writes = λ h k l z lt b w x. let t
          = turn_of.one_at z.0 k h l z.1 lt b in call_writes outer c l x t.0
          (ap (λ (p : PlacedArg). is_written p.argument.mode) t.1 ∙ w);
      sound = λ node kid free stowed clear. (
        call_fits None outer c is may keeps.base (on_bytes v (shapes_of c)) (node_of c.lower node kid)
            (f.reach (node_of c.lower node kid) 0) (f.permitted (node_of c.lower node kid) 0)
            (f.closed (node_of c.lower node kid) 0),
        stowed.0,
        f.sound (node_of c.lower node kid) 0 free stowed.1,
      );
    }

  -- a taken loop in loops that hold arguments
  module _ (n : ℕ) (calls : ℕ → PlacedCall) (w : ℕ → Placed) (outer : List Shape) (may : ℕ → Bool) (H : List PlacedArg)
      (plains : (t : ℕ) → t < n → IsPlain outer (calls t))
      (same : (t : ℕ) → t < n → arity_of (calls t) ≡ arity_of (calls 0)) (keeps : PipedHolds n calls may H)
      (goods : (t : ℕ) → t < n → IsGood (w t) (shapes_of (calls t)) (may_of (calls t))) where
    abbrev number_of : ℕ
    number_of = arity_of (calls 0)

    abbrev set_at_turn : (t : ℕ) → Node → ℕ → ℕ
    set_at_turn t node = low.set_of None node n (form_of offset first_buffer (calls 0))
        (form_of offset second_buffer (calls 0)) t

    one_buffer : (h : Home) → place_of h ≡ Held → second_buffer h ≡ first_buffer h
    one_buffer home.InPlace e = refl
    one_buffer (home.Own b) e = refl
    one_buffer (home.Held b loops) e = refl
    one_buffer (home.Twin b c) e = let z : Buffer ≡ Held = e in cc

    set_is : (t : ℕ) (lt : t < n) (node : Node) (i : ℕ) (p : PlacedArg) → slice_get (calls t).args i ≡ Some p
        → place_of p.home ≡ Held → set_at_turn t node i ≡ offset (first_buffer p.home)
    set_is t lt node i p e pl = go _
      where
        first : slice_get (calls 0).args i ≡ Some p
        first = keeps.same t 0 i p lt (omega (arith, lt)) e pl

        go : (b : Bool) → low.pick b (form_of offset first_buffer (calls 0)) (form_of offset second_buffer (calls 0)) i
            ≡ offset (first_buffer p.home)
        go true = form_at first_buffer (calls 0) i p first
        go false = form_at second_buffer (calls 0) i p first ∙ ap offset (one_buffer p.home pl)

    turn_by : (t : ℕ) (lt : t < n) → TurnHeld (calls t) outer may H number_of (λ node kid. child_of node kid)
        (set_at_turn t)
    turn_by t lt = turn_held (calls t) outer may H (plains t lt) (keeps.each t lt) number_of (same t lt)
        (λ node kid. child_of node kid) (λ node kid. refl) (set_at_turn t) (set_is t lt)

    touches_at : (t : ℕ) (l : Spot) (x : Element outer l) → CallTouches outer (calls t) l
        → touches (work.Then (plain_call (calls t) (plain (w t))) work.Nothing) l.area x.cs ≡ true
    touches_at t l x h = or_left (list_any (λ a. true && has l.area x.cs a) (arguments (calls t).args)) false
        (call_touches outer (calls t) l x h)

    writes_at : (t : ℕ) (l : Spot) (x : Element outer l) → (h : CallTouches outer (calls t) l)
        → is_written h.it.p.argument.mode ≡ true
        → writes (work.Then (plain_call (calls t) (plain (w t))) work.Nothing) l.area x.cs ≡ true
    writes_at t l x h wr = or_left (list_any (λ a. is_written a.mode && has l.area x.cs a) (arguments (calls t).args))
        false (call_writes outer (calls t) l x h wr)

    not_summed : (t : ℕ) (lt : t < n) (i : ℕ) → is_reduced (arrays_of outer (calls t) i).mode ≡ false
    not_summed t lt i = go (is_reduced (arrays_of outer (calls t) i).mode) refl
      where
        go : (b : Bool) → is_reduced (arrays_of outer (calls t) i).mode ≡ b
            → is_reduced (arrays_of outer (calls t) i).mode ≡ false
        go true e = absurd (plain_no_sum outer (calls t) (plains t lt) i e)
        go false e = e

    local_buffer : (o : Option Shape) → (local_of o).place ≡ Buffer
    local_buffer None = refl
    local_buffer (Some sh) = refl

    moved_at : (t : ℕ) (lt : t < n) (i : ℕ) → low.in_place (arrays_of outer (calls t) i).place ≡ false
    moved_at t lt i = go (one_of outer (calls t) i)
      where
        go : OneOf outer (calls t) i → low.in_place (arrays_of outer (calls t) i).place ≡ false
        go (AParam p e at) = ap (λ (a : Array). low.in_place a.place) at ∙ keeps.moved t i p lt e
        go (ALocal e at) = ap (λ (a : Array). low.in_place a.place) at
            ∙ ap low.in_place (local_buffer (slice_get (shapes_of (calls t)) i))

    -- a held argument, in two iterations
    record HeldTwice (t u i : ℕ) : Type 0 where
      pub p : PlacedArg
      pub home : place_of p.home ≡ Held
      pub at_t : arrays_of outer (calls t) i ≡ array_of outer (Some p) None
      pub there_u : slice_get (calls u).args i ≡ Some p
      pub at_u : arrays_of outer (calls u) i ≡ array_of outer (Some p) None

    twice : (t u i : ℕ) → t < n → u < n → (arrays_of outer (calls t) i).place ≡ Held → HeldTwice t u i
    twice t u i lt lu h = go (one_of outer (calls t) i)
      where
        go : OneOf outer (calls t) i → HeldTwice t u i
        go (AParam p e at) =
            let pl : place_of p.home ≡ Held = sym (ap (λ (a : Array). a.place) at) ∙ h in
            let eu = keeps.same t u i p lt lu e pl in
            record { p = p; home = pl; at_t = at; there_u = eu; at_u = array_is outer (calls u) i p eu }
        go (ALocal e at) = let z : Buffer ≡ Held = sym (local_buffer (slice_get (shapes_of (calls t)) i))
            ∙ (sym (ap (λ (a : Array). a.place) at) ∙ h) in cc

    not_both_ways : (b : Bool) → b ≡ true → b ≡ false → ⊥
    not_both_ways true e g = cc
    not_both_ways false e g = cc

    held_aside : (t u i j k k' : ℕ) → t < n → u < n → i ≢ j → k < (arrays_of outer (calls t) i).size → k'
        < (arrays_of outer (calls u) j).size → (arrays_of outer (calls t) i).place ≡ Held
        → (arrays_of outer (calls u) j).mode ≢ Local
        → (bytes.returned (arrays_of outer (calls t) i).mode ≡ true)
        ⊎ (bytes.returned (arrays_of outer (calls u) j).mode ≡ true) → (arrays_of outer (calls t) i).block k
        ≡ (arrays_of outer (calls u) j).block k' → ⊥
    held_aside t u i j k k' lt lu ne lk lk' h nl r e =
        let a = twice t u i lt lu h in
        let back : arrays_of outer (calls t) i ≡ arrays_of outer (calls u) i = a.at_t ∙ sym a.at_u in
        let x = touched outer (calls u) (plains u lu).args i k ((arrays_of outer (calls u) j).block k')
        (λ z. mode_not_local a.p (sym (ap (λ (y : Array). y.mode) a.at_u) ∙ z))
        (subst (λ (y : Array). k < y.size) back lk) (sym (ap (λ (y : Array). y.block k) back) ∙ e) in
        let y = touched outer (calls u) (plains u lu).args j k' ((arrays_of outer (calls u) j).block k') nl lk' refl in
        let none = ((keeps.each u lu).base.apart i a.p a.there_u (ap stays a.home)).others j x.p.argument y.p.argument
        (λ z. ne (sym z)) (mapped (λ (q : PlacedArg). q.argument) (calls u).args i x.p x.there)
        (mapped (λ (q : PlacedArg). q.argument) (calls u).args j y.p y.there)
        (shares_element outer (calls u) (calls u) i j k k' ((arrays_of outer (calls u) j).block k') x y) in
        ⊎_elim
        (λ z. not_both_ways (is_written x.p.argument.mode)
        (returned_mode x.p (subst (λ (m : Array). bytes.returned m.mode ≡ true) (back ∙ x.array_is) z)).1 none.0)
        (λ z. not_both_ways (is_written y.p.argument.mode)
        (returned_mode y.p (subst (λ (m : Array). bytes.returned m.mode ≡ true) y.array_is z)).1 none.1) r

    holds_fit : low.LoopFits n number_of (λ t. arrays_of outer (calls t))
    holds_fit = record {
      held_same = λ t u i lt lu li h. let a
          = twice t u i lt lu h in (
            ap (λ (y : Array). y.place) a.at_u ∙ a.home,
            ap (λ (y : Array). y.mode)
                (a.at_u ∙ sym a.at_t),
            ap (λ (y : Array). y.size) (a.at_u ∙ sym a.at_t),
          );
      steady = λ t u i k lt lu li lk h. let a
          = twice t u i lt lu h in ap (λ (y : Array). y.block k) (a.at_u ∙ sym a.at_t);
      held_apart = λ t u i j k k' lt lu li lj ne lk lk' h nl r e. held_aside t u i j k k' lt lu ne lk lk' h nl r e;
      ahead = λ t i j k k' ls li lj lk lk' b b' r nl e. let s
          = shared_by outer (calls t) (calls (suc t)) (plains t (omega (arith, ls))) (plains (suc t) ls) i j k k' lk lk'
          b b' r nl e in keeps.loop.ahead t i j s.x s.y ls s.x_at s.y_at s.x_buffer s.y_buffer s.writes s.shares;
      ahead_two = λ t i j k k' ls li lj lk lk' b b' r nl e. let s
          = shared_by outer (calls t) (calls (suc (suc t))) (plains t (omega (arith, ls))) (plains (suc (suc t)) ls) i j
          k k' lk lk' b b' r nl e in keeps.loop.ahead_two t i j s.x s.y ls s.x_at s.y_at s.x_buffer s.y_buffer s.writes
          s.shares;
    }

    fits_turn : (t : ℕ) (lt : t < n) (inside : Node)
        → low.CallFits number_of (arrays_of outer (calls t)) (on_bytes (w t) (shapes_of (calls t))) inside
    fits_turn t lt inside =
        subst (λ k. low.CallFits k (arrays_of outer (calls t)) (on_bytes (w t) (shapes_of (calls t))) inside)
        (same t lt)
        (call_fits None outer (calls t) (plains t lt) may (keeps.each t lt).base (on_bytes (w t) (shapes_of (calls t)))
        inside ((goods t lt).reach inside 0) ((goods t lt).permitted inside 0) ((goods t lt).closed inside 0))

    pub piped_held : IsHeld (Piped None n calls w) outer may H
    piped_held = record {
      needs = λ node kid at l q z. (turn_by z.0 z.1).needs node kid at l q z.2;
      sets = λ node kid at l q z. (turn_by z.0 z.1).sets node kid at l q z.2;
      permitted = λ node kid at l q z. (turn_by z.0 z.1).permitted node kid at l q z.2;
      closed = λ node kid at l q z. plain_no_sum outer (calls z.0) (plains z.0 z.1) z.2.0.area z.2.2;
      no_sum = λ o h l z. plain_no_sum outer (calls z.0) (plains z.0 z.1) z.2.0.area
          (reduced_true (arrays_of outer (calls z.0) z.2.0.area).mode o z.2.2);
      touched = λ node kid at l q h x. ⊎_elim
          (λ z. any_at n (λ t. touches (work.Then (plain_call (calls t) (plain (w t))) work.Nothing) l.area x.cs) z.0
          z.1 (touches_at z.0 l x ((turn_by z.0 z.1).needs_from node kid at l q z.2)))
          (λ z. any_at n (λ t. touches (work.Then (plain_call (calls t) (plain (w t))) work.Nothing) l.area x.cs) z.0
          z.1 (touches_at z.0 l x ((turn_by z.0 z.1).sets_from node kid at l q z.2).0)) h;
      written = λ node kid at l q z x. let t
          = (turn_by z.0 z.1).sets_from node kid at l q z.2 in any_at n
          (λ t. writes (work.Then (plain_call (calls t) (plain (w t))) work.Nothing) l.area x.cs) z.0 z.1
          (writes_at z.0 l x t.0 t.1);
      only_needs = λ node kid at j k g l q e pl all fits lt b wr z. let a
          = all z.0 z.1 in (turn_by z.0 z.1).only_needs node kid at a.0 k g l q a.1 pl fits lt b wr z.2;
      only_sets = λ node kid at j k g l q e pl all fits lt b z. let a
          = all z.0 z.1 in (turn_by z.0 z.1).only_sets node kid at a.0 k g l q a.1 pl fits lt b z.2;
      one_fits = λ h z. (plains 0 z.0).args.each z.1 h z.2;
      one_sets = λ node kid at h k z pl lt r clear. (0, z.0, (turn_by 0 z.0).one_sets node kid at z.1 k h z.2 pl lt r);
      one_touches = λ h k l z lt b x. any_at n
          (λ t. touches (work.Then (plain_call (calls t) (plain (w t))) work.Nothing) l.area x.cs) 0 z.0
          (touches_at 0 l x ((turn_by 0 z.0).one_at z.1 k h l z.2 lt b).0);
      one_may = λ h k l z lt b wr. (turn_by 0 z.0).one_may z.1 k h l z.2 lt b wr;
      one_writes = λ h k l z lt b wr x. let t
          = (turn_by 0 z.0).one_at z.1 k h l z.2 lt b in any_at n
          (λ t. writes (work.Then (plain_call (calls t) (plain (w t))) work.Nothing) l.area x.cs) 0 z.0
          (writes_at 0 l x t.0 (ap (λ (p : PlacedArg). is_written p.argument.mode) t.1 ∙ wr));
      sound = λ node kid free stowed clear. (
        record { lower = λ t i lt li. moved_at t lt i; plain = λ t i lt li. not_summed t lt i },
        holds_fit,
        stowed.0,
        λ t lt. (
          fits_turn t lt (child_of node kid),
          (stowed.1 t lt).0,
          (goods t lt).sound (child_of node kid) 0
              (free t lt).0 (stowed.1 t lt).1,
        ),
      );
    }

  -- a loop that holds arguments, in loops that hold others

  touched_one : (outer : List Shape) (c : PlacedCall) (i k k' : ℕ) (l : Spot) → Touched outer c i k l
      → Touched outer c i k' l → k ≡ k'
  touched_one outer c i k k' l x y =
      let e = element_at outer l (touched_in outer c i k l x) in
      let same : x.p ≡ y.p = same_some (sym x.there ∙ y.there) in
      let of : x.of ≡ y.of = same_some
      (sym x.of_is ∙ (ap (λ (q : PlacedArg). slice_get outer q.argument.array) same ∙ y.of_is)) in
      let a = element_met outer x.p.argument x.of e.sh k l.area e.b e.cs x.of_is x.fits x.small e.there e.inside e.below
      (x.block_is ∙ e.is) in
      let b = element_met outer y.p.argument y.of e.sh k' l.area e.b e.cs y.of_is y.fits y.small e.there e.inside
      e.below (y.block_is ∙ e.is) in
      a.2 ∙ ap₂ (λ (q : PlacedArg) (z : Shape). number (lengths q.argument.rect) (in_block q.argument.rect e.cs) * width
      z.elem + e.b) same of ∙ sym b.2

  arg_of : (l : List PlacedArg) (i : ℕ) → i < length l → (h : PlacedArg) × (slice_get l i ≡ Some h)
  arg_of [] i lt = absurd (omega (arith, lt))
  arg_of (h ∷ l) zero lt = (h, refl)
  arg_of (h ∷ l) (suc i) lt = arg_of l i (omega (arith, lt))

  front_at : (l m : List PlacedArg) (i : ℕ) (h : PlacedArg) → slice_get l i ≡ Some h → slice_get (l ++ m) i ≡ Some h
  front_at [] m i h e = cc
  front_at (x ∷ l) m zero h e = e
  front_at (x ∷ l) m (suc i) h e = front_at l m i h e

  back_at : (l m : List PlacedArg) (i : ℕ) (h : PlacedArg) → slice_get m i ≡ Some h → slice_get (l ++ m) (length l + i)
      ≡ Some h
  back_at [] m i h e = let z : 0 + i ≡ i = omega arith in ap (slice_get m) z ∙ e
  back_at (x ∷ l) m i h e = let z : suc (length l) + i ≡ suc (length l + i)
      = omega arith in ap (slice_get (x ∷ (l ++ m))) z ∙ back_at l m i h e

  split_at : (l m : List PlacedArg) (i : ℕ) (h : PlacedArg) → slice_get (l ++ m) i ≡ Some h → (slice_get l i ≡ Some h)
      ⊎ ((j : ℕ) × (slice_get m j ≡ Some h))
  split_at [] m i h e = inr (i, e)
  split_at (x ∷ l) m zero h e = inl e
  split_at (x ∷ l) m (suc i) h e = split_at l m i h e

  module _ (args : List PlacedArg) (w : Placed) (outer : List Shape) (may : ℕ → Bool) (H : List PlacedArg)
      (keeps : HoldKeeps args H w) (f : IsHeld w outer may (args ++ H)) where
    abbrev hc : PlacedCall
    hc = on.held_call args

    abbrev hform : ℕ → ℕ
    hform = form_of offset first_buffer hc

    abbrev harrays : ℕ → Array
    harrays = arrays_of outer hc

    hbuffer : (i : ℕ) (p : PlacedArg) → slice_get args i ≡ Some p → hform i ≡ offset (first_buffer p.home)
    hbuffer i p e = ap offset (pick_at (map (λ (q : PlacedArg). first_buffer q.home) args ++ []) i (first_buffer p.home)
        (at_left (λ (q : PlacedArg). first_buffer q.home) args [] i p e))
      where
        pick_at : (l : List ℕ) (i x : ℕ) → slice_get l i ≡ Some x → get_or l i 0 ≡ x
        pick_at [] i x e = cc
        pick_at (y ∷ l) zero x e = same_some e
        pick_at (y ∷ l) (suc i) x e = pick_at l i x e

    own_is : (node : Node) (kid : ℕ) (z : Spot) (h : PlacedArg) → slice_get args z.area ≡ Some h
        → low.own (child_of node kid) hform z ≡ cell node kid h z.index
    unfolding offset_of
    own_is node kid z h e = ap (λ x. spot (child_of node kid).number (x + z.index)) (hbuffer z.area h e)

    -- a cell of a held argument
    pub record HeldArg (z : Spot) : Type 0 where
      pub h : PlacedArg
      pub there : slice_get args z.area ≡ Some h
      pub is : harrays z.area ≡ array_of outer (Some h) (slice_get (shapes_of hc) z.area)
      pub below : z.index < bytes_in h.shape

    held_arg : (z : Spot) → IsCell (length args) harrays z → HeldArg z
    held_arg z i =
        let a = arg_of args z.area i.0 in
        let at = array_is outer hc z.area a.0 a.1 in
        record { h = a.0; there = a.1; is = at; below = subst (λ (x : Array). z.index < x.size) at i.1 }

    cell_of : (j k : ℕ) (h : PlacedArg) → slice_get args j ≡ Some h → k < bytes_in h.shape
        → IsCell (length args) harrays (spot j k)
    cell_of j k h e lt = (there_below args j h e, subst (λ (x : Array). k < x.size) (sym (array_is outer hc j h e)) lt)

    place_is : (j : ℕ) (h : PlacedArg) → slice_get args j ≡ Some h → (harrays j).place ≡ Held
    place_is j h e = ap (λ (x : Array). x.place) (array_is outer hc j h e) ∙ keeps.homes j h e

    block_at : (z : Spot) (a : HeldArg z) → (harrays z.area).block z.index ≡ block outer a.h z.index
    block_at z a = ap (λ (x : Array). x.block z.index) a.is

    fits_of : (z : Spot) (a : HeldArg z) → PassedFits outer a.h
    fits_of z a = f.one_fits a.h (keeps.one z.area a.h a.there)

    in_shapes : (z l : Spot) (a : HeldArg z) → (harrays z.area).block z.index ≡ l → InShapes outer l
    in_shapes z l a e = touched_in outer (on.held_call (a.h ∷ [])) 0 z.index l
        (passed_touched outer a.h z.index l (fits_of z a) a.below (sym (block_at z a) ∙ e))

    -- two arguments that have a byte are one, or neither is written
    both_have : (i j k k' : ℕ) (x y : PlacedArg) (l : Spot) → i ≢ j → slice_get (args ++ H) i ≡ Some x
        → slice_get (args ++ H) j ≡ Some y → PassedFits outer x → PassedFits outer y → k < bytes_in x.shape → k'
        < bytes_in y.shape
        → block outer x k ≡ l → block outer y k' ≡ l → (is_written x.argument.mode ≡ false)
        × (is_written y.argument.mode ≡ false)
    unfolding passed_touched
    both_have i j k k' x y l ne ex ey fx fy lx ly bx by =
        keeps.apart i j x y ne ex ey (shares_element outer (on.held_call (x ∷ [])) (on.held_call (y ∷ [])) 0 0 k k' l
        (passed_touched outer x k l fx lx bx) (passed_touched outer y k' l fy ly by))

    both_not : (b : Bool) → b ≡ true → b ≡ false → ⊥
    both_not true e g = cc
    both_not false e g = cc

    is_set : (z : Spot) (a : HeldArg z) → bytes.returned (harrays z.area).mode ≡ true → is_written a.h.argument.mode
        ≡ true
    is_set z a r = (returned_mode a.h (subst (λ (x : Array). bytes.returned x.mode ≡ true) a.is r)).1

    one_cell : (q q' : Spot) → IsCell (length args) harrays q → IsCell (length args) harrays q'
        → bytes.returned (harrays q.area).mode ≡ true → (harrays q.area).block q.index
        ≡ (harrays q'.area).block q'.index → q ≡ q'
    one_cell q q' i i' r e = go (nat_eq q.area q'.area) refl
      where
        a : HeldArg q
        a = held_arg q i

        b : HeldArg q'
        b = held_arg q' i'

        go : (x : Bool) → nat_eq q.area q'.area ≡ x → q ≡ q'
        go true n =
            let same : q.area ≡ q'.area = grind (arith, nat_tests, n) in
            let h : a.h ≡ b.h = same_some (sym a.there ∙ (ap (slice_get args) same ∙ b.there)) in
            let here : block outer b.h q.index ≡ (harrays q'.area).block q'.index
            = ap (λ (p : PlacedArg). block outer p q.index) (sym h) ∙ (sym (block_at q a) ∙ e) in
            spot_path q q' same (touched_one outer (on.held_call (b.h ∷ [])) 0 q.index q'.index
            ((harrays q'.area).block q'.index)
            (passed_touched outer b.h q.index ((harrays q'.area).block q'.index) (fits_of q' b)
            (subst (λ (p : PlacedArg). q.index < bytes_in p.shape) h a.below) here)
            (passed_touched outer b.h q'.index ((harrays q'.area).block q'.index) (fits_of q' b) b.below
            (sym (block_at q' b))))
        go false n =
            let ne : q.area ≢ q'.area = grind (arith, nat_tests, n) in
            absurd (both_not (is_written a.h.argument.mode) (is_set q a r)
            (both_have q.area q'.area q.index q'.index a.h b.h ((harrays q'.area).block q'.index) ne
            (front_at args H q.area a.h a.there) (front_at args H q'.area b.h b.there) (fits_of q a) (fits_of q' b)
            a.below b.below (sym (block_at q a) ∙ e) (sym (block_at q' b))).0)

    -- a held cell that is touched is its element's
    held_is : (M : Mode → Bool) (node : Node) (kid : ℕ)
        → HoldPlaced hform (length args) harrays (on_bytes w outer) node kid
        → Clear H (on_bytes (Hold args w) outer) node kid → (at : Layout) (l q : Spot) → IsCell (length args) harrays q
        → (harrays q.area).place ≡ Held
        → (at l ≡ low.own (child_of node kid) hform q)
        ⊎ HeldAt outer (args ++ H) M node kid l (low.own (child_of node kid) hform q)
        → (((harrays q.area).block q.index ≡ l) × (M (harrays q.area).mode ≡ true))
        ⊎ (at l ≡ low.own (child_of node kid) hform q)
    held_is M node kid placed clear at l q i pl (inl e) = inr e
    held_is M node kid placed clear at l q i pl (inr x) = ⊎_elim inner outer_one (split_at args H x.j x.h x.there)
      where
        inner : slice_get args x.j ≡ Some x.h
            → (((harrays q.area).block q.index ≡ l) × (M (harrays q.area).mode ≡ true))
            ⊎ (at l ≡ low.own (child_of node kid) hform q)
        inner e =
            let same : q ≡ spot x.j x.k = placed.separate q (spot x.j x.k) i (cell_of x.j x.k x.h e x.below) pl
            (place_is x.j x.h e) (sym x.cell_is ∙ sym (own_is node kid (spot x.j x.k) x.h e)) in
            let at_j : harrays x.j ≡ array_of outer (Some x.h) (slice_get (shapes_of hc) x.j)
            = array_is outer hc x.j x.h e in
            inl (
              ap (λ (z : Spot). (harrays z.area).block z.index) same
                  ∙ (ap (λ (y : Array). y.block x.k) at_j ∙ x.block_is),
              ap (λ (z : Spot). M (harrays z.area).mode) same
                  ∙ (ap (λ (y : Array). M y.mode) at_j ∙ x.mode),
            )

        outer_one : (j : ℕ) × (slice_get H j ≡ Some x.h)
            → (((harrays q.area).block q.index ≡ l) × (M (harrays q.area).mode ≡ true))
            ⊎ (at l ≡ low.own (child_of node kid) hform q)
        outer_one y = absurd (clear y.0 x.h x.k y.1 x.below (inl (q, i, pl, sym x.cell_is)))

    hold_fits : (node : Node) (kid : ℕ) → HoldPlaced hform (length args) harrays (on_bytes w outer) node kid
        → Clear H (on_bytes (Hold args w) outer) node kid
        → low.HoldFits hform (length args) harrays (on_bytes w outer) node kid
    hold_fits node kid placed clear = record {
      distinct = λ q q' i i' pl pl' r e. one_cell q q' i i' r e;
      not_local = λ q i pl e. let a = held_arg q i in mode_not_local a.h (sym (ap (λ (x : Array). x.mode) a.is) ∙ e);
      read_held = λ at l q i pl z. held_is reads node kid placed clear at l q i pl
          (f.needs node kid at l (low.own (child_of node kid) hform q) z).1;
      set_held = λ at l q i pl z. held_is bytes.returned node kid placed clear at l q i pl
          (f.sets node kid at l (low.own (child_of node kid) hform q) z).1;
      all_set = λ at q i pl r. set_at at q i pl r;
      only_held = λ at p q i pl r z. held_only at p q i r z;
      read_only = λ at p q i pl r z. only_read at p q i r z;
      separate = placed.separate;
      below = placed.below;
    }
      where
        set_at : (at : Layout) (q : Spot) → IsCell (length args) harrays q → (harrays q.area).place ≡ Held
            → bytes.returned (harrays q.area).mode ≡ true
            → Sets (on_bytes w outer) node kid at ((harrays q.area).block q.index) (low.own (child_of node kid) hform q)
        set_at at q i pl r =
            let a = held_arg q i in
            let own_at : low.own (child_of node kid) hform q ≡ cell node kid a.h q.index
            = own_is node kid q a.h a.there in
            let s = f.one_sets node kid at a.h q.index (keeps.one q.area a.h a.there) (keeps.homes q.area a.h a.there)
            a.below (subst (λ (x : Array). bytes.returned x.mode ≡ true) a.is r)
            (λ z. placed.below q i pl (subst (Scratch (on_bytes w outer) node kid) (sym own_at) z)) in
            subst (λ y. Sets (on_bytes w outer) node kid at y (low.own (child_of node kid) hform q))
            (sym (block_at q a)) (subst (λ y. Sets (on_bytes w outer) node kid at (block outer a.h q.index) y)
            (sym own_at) s)

        held_only : (at : Layout) (p q : Spot) → IsCell (length args) harrays q → bytes.returned (harrays q.area).mode
            ≡ true → Needs (on_bytes w outer) node kid at ((harrays q.area).block q.index) p
            ⊎ Sets (on_bytes w outer) node kid at ((harrays q.area).block q.index) p → p
            ≡ low.own (child_of node kid) hform q
        held_only at p q i r z =
            let a = held_arg q i in
            ⊎_elim
            (λ y. f.only_needs node kid at q.area q.index a.h ((harrays q.area).block q.index) p
            (front_at args H q.area a.h a.there) (keeps.homes q.area a.h a.there) (keeps.all q.area a.h a.there)
            (fits_of q a) a.below (sym (block_at q a)) (is_set q a r) y)
            (λ y. (f.only_sets node kid at q.area q.index a.h ((harrays q.area).block q.index) p
            (front_at args H q.area a.h a.there) (keeps.homes q.area a.h a.there) (keeps.all q.area a.h a.there)
            (fits_of q a) a.below (sym (block_at q a)) y).1) z
            ∙ sym (own_is node kid q a.h a.there)

        only_read : (at : Layout) (p q : Spot) → IsCell (length args) harrays q → bytes.returned (harrays q.area).mode
            ≡ false → Sets (on_bytes w outer) node kid at ((harrays q.area).block q.index) p → ⊥
        only_read at p q i r z =
            let a = held_arg q i in
            let wr = (f.only_sets node kid at q.area q.index a.h ((harrays q.area).block q.index) p
            (front_at args H q.area a.h a.there) (keeps.homes q.area a.h a.there) (keeps.all q.area a.h a.there)
            (fits_of q a) a.below (sym (block_at q a)) z).0 in
            both_not (bytes.returned (harrays q.area).mode)
            (ap (λ (x : Array). bytes.returned x.mode) a.is ∙ mode_returned a.h (keeps.plain q.area a.h a.there) wr)
            r

    past : (j i : ℕ) (h : PlacedArg) → slice_get args i ≡ Some h → i ≢ length args + j
    past j i h e z = let lt = there_below args i h e in omega (arith, lt, z)

    -- what is left of what is held further in
    leave : (M : Mode → Bool) (node : Node) (kid : ℕ) (at : Layout) (l q : Spot) → (at l ≡ q)
        ⊎ HeldAt outer (args ++ H) M node kid l q → (low.HeldCell (child_of node kid) hform (length args) harrays q → ⊥)
        ⊎ (at l ≡ q) → (at l ≡ q) ⊎ HeldAt outer H M node kid l q
    leave M node kid at l q (inl e) c = inl e
    leave M node kid at l q (inr x) (inr e) = inl e
    leave M node kid at l q (inr x) (inl none) =
        ⊎_elim (λ e. absurd (none (
          spot x.j x.k,
          cell_of x.j x.k x.h e x.below,
          place_is x.j x.h e,
          own_is node kid
              (spot x.j x.k) x.h e ∙ x.cell_is,
        )))
        (λ y. inr (record {
          j = y.0;
          h = x.h;
          there = y.1;
          k = x.k;
          below = x.below;
          mode = x.mode;
          block_is
              = x.block_is;
          cell_is = x.cell_is;
        }))
        (split_at args H x.j x.h x.there)

    pub hold_held : IsHeld (Hold args w) outer may H
    hold_held = record {
      needs = λ node kid at l q z. ⊎_elim
          (λ y. let r = f.needs node kid at l q y.0 in (r.0, leave reads node kid at l q r.1 y.1))
          (λ y. (in_shapes y.0 l (held_arg y.0 y.1) y.4, inl y.5)) z;
      sets = λ node kid at l q z. ⊎_elim
          (λ y. let r = f.sets node kid at l q y.0 in (r.0, leave bytes.returned node kid at l q r.1 y.1))
          (λ y. (in_shapes y.0 l (held_arg y.0 y.1) y.4, inl y.5)) z;
      permitted = λ node kid at l q z. ⊎_elim (λ y. f.permitted node kid at l q y.0)
          (λ y. let a = held_arg y.0 y.1 in f.one_may a.h y.0.index l (keeps.one y.0.area a.h a.there) a.below
          (sym (block_at y.0 a) ∙ y.4) (is_set y.0 a y.3)) z;
      closed = λ node kid at l q z. f.closed node kid at l q z;
      no_sum = λ o h l z. f.no_sum o h l z;
      touched = λ node kid at l q z x. ⊎_elim
          (⊎_elim (λ y. f.touched node kid at l q (inl y.0) x)
          (λ y. let a = held_arg y.0 y.1 in f.one_touches a.h y.0.index l (keeps.one y.0.area a.h a.there) a.below
          (sym (block_at y.0 a) ∙ y.4) x))
          (⊎_elim (λ y. f.touched node kid at l q (inr y.0) x)
          (λ y. let a = held_arg y.0 y.1 in f.one_touches a.h y.0.index l (keeps.one y.0.area a.h a.there) a.below
          (sym (block_at y.0 a) ∙ y.4) x)) z;
      written = λ node kid at l q z x. ⊎_elim (λ y. f.written node kid at l q y.0 x)
          (λ y. let a = held_arg y.0 y.1 in f.one_writes a.h y.0.index l (keeps.one y.0.area a.h a.there) a.below
          (sym (block_at y.0 a) ∙ y.4) (is_set y.0 a y.3) x) z;
      only_needs = λ node kid at j k g l q e pl all fits lt b wr z. ⊎_elim
          (λ y. f.only_needs node kid at (length args + j) k g l q (back_at args H j g e) pl all fits lt b wr y.0)
          (λ y. let a = held_arg y.0 y.1 in absurd (both_not (is_written g.argument.mode) wr
          (both_have y.0.area (length args + j) y.0.index k a.h g l (past j y.0.area a.h a.there)
          (front_at args H y.0.area a.h a.there) (back_at args H j g e) (fits_of y.0 a) fits a.below lt
          (sym (block_at y.0 a) ∙ y.4) b).1)) z;
      only_sets = λ node kid at j k g l q e pl all fits lt b z. ⊎_elim
          (λ y. f.only_sets node kid at (length args + j) k g l q (back_at args H j g e) pl all fits lt b y.0)
          (λ y. let a = held_arg y.0 y.1 in absurd (both_not (is_written a.h.argument.mode) (is_set y.0 a y.3)
          (both_have y.0.area (length args + j) y.0.index k a.h g l (past j y.0.area a.h a.there)
          (front_at args H y.0.area a.h a.there) (back_at args H j g e) (fits_of y.0 a) fits a.below lt
          (sym (block_at y.0 a) ∙ y.4) b).0)) z;
      one_fits = λ h z. f.one_fits h z;
      one_sets = λ node kid at h k z pl lt r clear. inl
          (f.one_sets node kid at h k z pl lt r (λ s. clear (inr s)), inl (λ s. clear (inl s)));
      one_touches = λ h k l z lt b x. f.one_touches h k l z lt b x;
      one_writes = λ h k l z lt b wr x. f.one_writes h k l z lt b wr x;
      one_may = λ h k l z lt b wr. f.one_may h k l z lt b wr;
      sound = λ node kid free stowed clear. (
        hold_fits node kid stowed.0 clear,
        f.sound node kid free stowed.1 (λ j h k e lt s. ⊎_elim
            (λ a. stowed.0.below (spot j k) (cell_of j k h a lt) (place_is j h a)
            (subst (Scratch (on_bytes w outer) node kid) (sym (own_is node kid (spot j k) h a)) s))
            (λ y. clear y.0 h k y.1 lt (inr s)) (split_at args H j h e)),
      );
    }

  none_held : (outer : List Shape) (M : Mode → Bool) (node : Node) (kid : ℕ) (at : Layout) (l q : Spot) → (at l ≡ q)
      ⊎ HeldAt outer [] M node kid l q → at l ≡ q
  none_held outer M node kid at l q (inl e) = e
  none_held outer M node kid at l q (inr x) = let z : None ≡ Some x.h = x.there in cc

  -- the outermost of such loops
  hold_good : (args : List PlacedArg) (w : Placed) (outer : List Shape) (may : ℕ → Bool)
      → IsHeld (Hold args w) outer may [] → IsGood (Hold args w) outer may
  hold_good args w outer may g = record {
    reach = λ node kid at l q z. ⊎_elim
        (λ y. let r = g.needs node kid at l q y in (r.0, none_held outer reads node kid at l q r.1))
        (λ y. let r = g.sets node kid at l q y in (r.0, none_held outer bytes.returned node kid at l q r.1)) z;
    permitted = g.permitted;
    closed = g.closed;
    no_sum = g.no_sum;
    touched = g.touched;
    written = g.written;
    sound = λ node kid free stowed. g.sound node kid free stowed (λ j h k e lt s. let z : None ≡ Some h = e in cc);
  }

  -- ---- every placed source

  pub all : (p : Placed) → Facts p × Inner p × HeldFacts p
  all Nothing = (λ outer may fit keep. nothing_good outer may, tt, nothing_held)
  all (Then a b) = (
    λ outer may fit keep. then_good a b outer may ((all a).0 outer may fit.0 keep.0) ((all b).0 outer may fit.1 keep.1),
    (all a).1,
    λ outer may H fit keep. then_held a b outer may H ((all a).2 outer may H fit.0 keep.0)
        ((all b).2 outer may H fit.1 keep.1),
  )
  all (Each n w) = (
    λ outer may fit keep. each_good n w outer may (λ t lt. (all (w t)).0 outer may (fit t lt) (keep t lt)),
    tt,
    λ outer may H fit keep. each_held n w outer may H (λ t lt. (all (w t)).2 outer may H (fit t lt) (keep t lt)),
  )
  all (AtOnce place spread n w) = (
    λ outer may fit keep. at_once_good place spread n w outer may
        (λ t lt. (all (w t)).0 outer may (fit t lt).1 (keep.1 t lt)),
    tt,
    λ outer may H fit keep. absurd keep.0,
  )
  all (Gathers r place spread n w)
      = (gathers_good r place spread n w (λ t. (all (w t)).1), tt, λ outer may H fit keep. absurd keep.0)
  all (Call c w) = (
    λ outer may fit keep. call_good c w outer may fit.0 keep.0 ((all w).0 (shapes_of c) (may_of c) fit.1 keep.1),
    (all w).0,
    λ outer may H fit keep. call_held c w outer may H fit.0 keep.0 ((all w).0 (shapes_of c) (may_of c) fit.1 keep.1),
  )
  all (Hold args w) = (
    λ outer may fit keep. hold_good args w outer may
        (hold_held args w outer may [] keep.0 ((all w).2 outer may (args ++ []) fit keep.1)),
    tt,
    λ outer may H fit keep. hold_held args w outer may H keep.0 ((all w).2 outer may (args ++ H) fit keep.1),
  )
  all (Piped None n calls w) = (
    λ outer may fit keep. loop_good outer may n calls w (λ t lt. (fit t lt).0) (λ t lt. (fit t lt).1)
        (λ t lt. (keep.0.1 t lt).0) (λ t lt. (keep.0.1 t lt).1)
        (λ t lt. (all (w t)).0 (shapes_of (calls t)) (may_of (calls t)) (fit t lt).2 (keep.1 t lt)) keep.0.0,
    tt,
    λ outer may H fit keep. piped_held n calls w outer may H (λ t lt. (fit t lt).0) (λ t lt. (fit t lt).1) keep.0
        (λ t lt. (all (w t)).0 (shapes_of (calls t)) (may_of (calls t)) (fit t lt).2 (keep.1 t lt)),
  )
  all (Piped (Some q) n calls w) = (
    λ outer may fit keep. taken_good outer may n calls w (λ t lt. (fit t lt).0) (λ t lt. (fit t lt).1)
        (λ t lt. (keep.0.1 t lt).0) (λ t lt. (keep.0.1 t lt).1)
        (λ t lt. (all (w t)).0 (shapes_of (calls t)) (may_of (calls t)) (fit t lt).2 (keep.1 t lt)) q.0 q.1,
    tt,
    λ outer may H fit keep. absurd keep.0,
  )
  all (Leaf number leaf shapes) = (leaf_good number leaf shapes, tt, λ outer may H fit keep. absurd keep.0)

  pub good : (p : Placed) → Facts p
  good p = (all p).0
