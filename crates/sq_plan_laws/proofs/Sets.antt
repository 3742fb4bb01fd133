-- A call of a taken loop, with the set of buffers that its position gives.
use Rattle.std.proofs.Common.{◌≡◌, ℕ, zero, suc, ◌+◌, ◌%◌, Bool, true, false, not, List, [], ◌∷◌, ◌++◌, map, length}
use Rattle.std.proofs.Common.{get_or, slice_get, Option, Some, None, refl, sym, ap, ap₂, ◌∙◌, subst, arith, ◌⊎◌, inl}
use Rattle.std.proofs.Common.{inr, ⊎_elim}
use mathlib.Core.Path.{fun_ext}
use Rattle.sq_leaf.specs.declared.shape.Shape.{Shape}
use Rattle.sq_ir.specs.Events.{Leaves}
use Rattle.sq_ir.specs.Written.{Setting, PlanTree}
use Rattle.sq_num.specs.declared.RedOp.{RedOp}
use Rattle.sq_placed.specs.declared.home.Home.{Home}
use Rattle.sq_placed.specs.declared.home.Home.TheVariants.{InPlace, Own, Held, Twin}
use Rattle.sq_placed.specs.Placed.{PlacedArg, PlacedLocal, PlacedCall}
use Rattle.sq_placed.specs.Seats.{Seat, seated_args, local_seat}
use Rattle.sq_placed.specs.Trees as trees
use Rattle.sq_placed.specs.Trees.{is_moved, home_in_set, arg_in_set, call_in_set, callee_seats}
use Rattle.sq_cells.specs.Machine.{Form}
use Rattle.sq_cells.specs.Tree as cells
use Rattle.sq_cells.specs.Tree.{Cause}
use Rattle.sq_cells.specs.Lowered as lowered
use Rattle.sq_cells.specs.Lowered.{Layout, pick, even}
use Rattle.sq_cells.specs.Alike.{IsLike}
use Rattle.sq_plan_laws.specs.Calling.{mode_of, place_of, block_of, array_of, arrays_of, shapes_of, form_of}
use Rattle.sq_plan_laws.specs.Calling.{first_buffer, second_buffer, PassedFits}
use Rattle.sq_plan_laws.specs.Codes.{bytes_in}
use Rattle.sq_plan_laws.specs.OnBytes.{arity_of}
use Rattle.sq_plan_laws.proofs.PlacedLists.{mapped, mapped_from, mapped_none}
use Rattle.sq_plan_laws.specs.Seated.{IsSeated, IsOwned, IsNear, CallSits, PipeSits, at_node}
use Rattle.sq_plan_laws.proofs.Places.{length-mapped, get_front, get_behind, get_mapped}
use Rattle.sq_plan_laws.proofs.Calls.{FormIs, IsBuffer, callee_seated, like_comes, like_works, like_outs}

pub form_is : (offset : ℕ → ℕ) (buffer : Home → ℕ) (c : PlacedCall) → FormIs offset buffer (form_of offset buffer c) c
form_is offset buffer c = record {
  args = λ i p e. ap offset (get_front (λ (x : PlacedArg). buffer x.home) c.args
      (map (λ (k : PlacedLocal). k.buffer) c.locals) i p 0 e);
  locals = λ j l e.
      ap offset (ap (λ n. get_or (map (λ (x : PlacedArg). buffer x.home) c.args ++ map (λ (k : PlacedLocal). k.buffer)
      c.locals) (n + j) 0) (sym (length-mapped (λ (x : PlacedArg). buffer x.home) c.args))
      ∙ get_behind (map (λ (x : PlacedArg). buffer x.home) c.args) (map (λ (k : PlacedLocal). k.buffer) c.locals) j 0
      ∙ get_mapped (λ (k : PlacedLocal). k.buffer) c.locals j l 0 e);
}

pub first_is : (h : Home) → IsBuffer first_buffer h
first_is InPlace = tt
first_is (Own b) = refl
first_is (Held b l) = refl
first_is (Twin b c) = refl

-- ---- homes in a set

place_in : (k : ℕ) (h : Home) → place_of (home_in_set k h) ≡ place_of h
place_in zero InPlace = refl
place_in zero (Own b) = refl
place_in zero (Held b l) = refl
place_in zero (Twin b c) = refl
place_in (suc k) InPlace = refl
place_in (suc k) (Own b) = refl
place_in (suc k) (Held b l) = refl
place_in (suc k) (Twin b c) = refl

moved_in : (k : ℕ) (h : Home) → is_moved (home_in_set k h) ≡ is_moved h
moved_in zero InPlace = refl
moved_in zero (Own b) = refl
moved_in zero (Held b l) = refl
moved_in zero (Twin b c) = refl
moved_in (suc k) InPlace = refl
moved_in (suc k) (Own b) = refl
moved_in (suc k) (Held b l) = refl
moved_in (suc k) (Twin b c) = refl

near_in : (k : ℕ) (h : Home) (lower : Bool) → IsNear lower h → IsNear lower (home_in_set k h)
near_in zero InPlace lower e = e
near_in zero (Own b) lower e = tt
near_in zero (Held b l) lower e = tt
near_in zero (Twin b c) lower e = tt
near_in (suc k) InPlace lower e = e
near_in (suc k) (Own b) lower e = tt
near_in (suc k) (Held b l) lower e = tt
near_in (suc k) (Twin b c) lower e = tt

first_in : (h : Home) → first_buffer (home_in_set 0 h) ≡ first_buffer h
first_in InPlace = refl
first_in (Own b) = refl
first_in (Held b l) = refl
first_in (Twin b c) = refl

second_in : (k : ℕ) (h : Home) → first_buffer (home_in_set (suc k) h) ≡ second_buffer h
second_in k InPlace = refl
second_in k (Own b) = refl
second_in k (Held b l) = refl
second_in k (Twin b c) = refl

owned_in : (k : ℕ) (g : Option RedOp) (h : Home) → IsOwned g h → IsOwned g (home_in_set k h)
owned_in k None h o = tt
owned_in k (Some op) h o = moved_in k h ∙ o

map-map : {A B D : Type 0} (f : B → D) (g : A → B) (xs : List A) → map f (map g xs) ≡ map (λ x. f (g x)) xs
map-map f g [] = refl
map-map f g (x ∷ xs) = ap (λ l. f (g x) ∷ l) (map-map f g xs)

-- ---- the call in a set

module _ (outer : List Shape) (k : ℕ) (c : PlacedCall) where
  pub shapes_in : shapes_of (call_in_set k c) ≡ shapes_of c
  shapes_in = ap (λ l. l ++ map (λ (x : PlacedLocal). x.shape) c.locals)
      (map-map (λ (p : PlacedArg). p.shape) (arg_in_set k) c.args)

  arrays_at : (i : ℕ) → arrays_of outer (call_in_set k c) i ≡ arrays_of outer c i
  arrays_at i = by (slice_get c.args i) refl
    where
      by : (o : Option PlacedArg) → slice_get c.args i ≡ o → arrays_of outer (call_in_set k c) i ≡ arrays_of outer c i
      by None e =
          ap₂ (λ o l. array_of outer o (slice_get l i)) (mapped_none (arg_in_set k) c.args i e) shapes_in
          ∙ sym (ap (λ o. array_of outer o (slice_get (shapes_of c) i)) e)
      by (Some p) e =
          ap (λ o. array_of outer o (slice_get (shapes_of (call_in_set k c)) i)) (mapped (arg_in_set k) c.args i p e)
          ∙ ap (λ x. record {
            mode = mode_of p;
            place = x;
            size = bytes_in p.shape;
            block
                = block_of (slice_get outer p.argument.array) p.argument;
          }) (place_in k p.home)
          ∙ sym (ap (λ o. array_of outer o (slice_get (shapes_of c) i)) e)

  pub arrays_in : arrays_of outer (call_in_set k c) ≡ arrays_of outer c
  arrays_in = fun_ext arrays_at

  pub sits_in : CallSits outer c → CallSits outer (call_in_set k c)
  sits_in s = record {
    args = record {
      each = λ i p e. let m
          = mapped_from (arg_in_set k) c.args i p e in subst (PassedFits outer) (sym m.2)
          (again m.0 (s.args.each i m.0 m.1));
    };
    owned = λ i p e. let m = mapped_from (arg_in_set k) c.args i p e in subst
        (λ (x : PlacedArg). IsOwned x.gathers x.home) (sym m.2) (owned_in k m.0.gathers m.0.home (s.owned i m.0 m.1));
    near = λ i p e. let m = mapped_from (arg_in_set k) c.args i p e in subst (λ (x : PlacedArg). IsNear c.lower x.home)
        (sym m.2) (near_in k m.0.home c.lower (s.near i m.0 m.1));
    locals = s.locals;
  }
    where
      again : (p : PlacedArg) → PassedFits outer p → PassedFits outer (arg_in_set k p)
      again p f = record { of = f.of; there = f.there; fits = f.fits; elem = f.elem; extents = f.extents }

-- the form of a set is that of the first call
form_same : (offset : ℕ → ℕ) (buffer : Home → ℕ) (c first : PlacedCall) → map (λ (p : PlacedArg). p.home) c.args
    ≡ map (λ (p : PlacedArg). p.home) first.args → map (λ (k : PlacedLocal). k.buffer) c.locals
    ≡ map (λ (k : PlacedLocal). k.buffer) first.locals → form_of offset buffer c ≡ form_of offset buffer first
form_same offset buffer c first h k =
    let e = sym (map-map buffer (λ (p : PlacedArg). p.home) c.args) ∙ ap (map buffer) h
    ∙ map-map buffer (λ (p : PlacedArg). p.home) first.args in
    ap₂ (λ x y. λ i. offset (get_or (x ++ y) i 0)) e k

module _ (offset : ℕ → ℕ) (c first : PlacedCall)
    (homes : map (λ (p : PlacedArg). p.home) c.args ≡ map (λ (p : PlacedArg). p.home) first.args)
    (kept : map (λ (k : PlacedLocal). k.buffer) c.locals ≡ map (λ (k : PlacedLocal). k.buffer) first.locals) where
  pub first_form : FormIs offset first_buffer (form_of offset first_buffer first) (call_in_set 0 c)
  first_form = subst (λ f. FormIs offset first_buffer f (call_in_set 0 c))
      (form_same offset first_buffer c first homes kept) (record {
        args = λ i p e. let m = mapped_from (arg_in_set 0) c.args i p e in (form_is offset first_buffer c).args i m.0
            m.1
            ∙ sym (ap (λ (x : PlacedArg). offset (first_buffer x.home)) m.2 ∙ ap offset (first_in m.0.home));
        locals = λ j l e. ap (λ n. form_of offset first_buffer c (n + j)) (length-mapped (arg_in_set 0) c.args)
            ∙ (form_is offset first_buffer c).locals j l e;
      })

  pub second_form : FormIs offset first_buffer (form_of offset second_buffer first) (call_in_set 1 c)
  second_form = subst (λ f. FormIs offset first_buffer f (call_in_set 1 c))
      (form_same offset second_buffer c first homes kept) (record {
        args = λ i p e. let m = mapped_from (arg_in_set 1) c.args i p e in (form_is offset second_buffer c).args i m.0
            m.1
            ∙ sym (ap (λ (x : PlacedArg). offset (first_buffer x.home)) m.2 ∙ ap offset (second_in 0 m.0.home));
        locals = λ j l e. ap (λ n. form_of offset second_buffer c (n + j)) (length-mapped (arg_in_set 1) c.args)
            ∙ (form_is offset second_buffer c).locals j l e;
      })

-- the set of a position
pub set_of_position : (j : ℕ) → ((j % 2 ≡ 0) × (even j ≡ true)) ⊎ ((j % 2 ≡ 1) × (even j ≡ false))
set_of_position zero = inl (refl, refl)
set_of_position (suc j) = ⊎_elim (λ h. inr (omega (arith, h.0), ap not h.1)) (λ h. inl (omega (arith, h.0), ap not h.1))
    (set_of_position j)

module _ (s : Setting) (leaves : Leaves Cause) (outer : List Shape) (seats : List Seat) (at : Layout)
    (seated : IsSeated outer seats at) (c first : PlacedCall) (ps : PipeSits outer c first) (inside j : ℕ) where
  abbrev pub set_form : Form
  set_form = pick (even j) (form_of s.offset first_buffer first) (form_of s.offset second_buffer first)

  abbrev pub its : PlacedCall
  its = call_in_set (j % 2) c

  pub its_sits : CallSits outer its
  its_sits = sits_in outer (j % 2) c ps.sits

  its_form : FormIs s.offset first_buffer set_form its
  its_form = ⊎_elim
      (λ h. rw h.1 (subst (λ k. FormIs s.offset first_buffer (form_of s.offset first_buffer first) (call_in_set k c))
      (sym h.0) (first_form s.offset c first ps.homes ps.kept)))
      (λ h. rw h.1 (subst (λ k. FormIs s.offset first_buffer (form_of s.offset second_buffer first) (call_in_set k c))
      (sym h.0) (second_form s.offset c first ps.homes ps.kept)))
      (set_of_position j)

  its_buffers : (i : ℕ) (p : PlacedArg) → slice_get its.args i ≡ Some p → IsBuffer first_buffer p.home
  its_buffers i p e = first_is p.home

  its_arity : arity_of its ≡ arity_of first
  its_arity = ap length (shapes_in outer (j % 2) c) ∙ ps.arity

  abbrev pub set_layout : Layout
  set_layout = lowered.layout (at_node s inside) set_form (arrays_of outer c) at

  pub set_seated : IsSeated (shapes_of c)
      (callee_seats (seated_args s inside seats its.args) (map (local_seat s inside) its.locals)) set_layout
  set_seated =
      subst (λ a. IsSeated (shapes_of c)
      (callee_seats (seated_args s inside seats its.args) (map (local_seat s inside) its.locals))
      (lowered.layout (at_node s inside) set_form a at)) (arrays_in outer (j % 2) c)
      (subst (λ x. IsSeated x (callee_seats (seated_args s inside seats its.args)
      (map (local_seat s inside) its.locals)) (lowered.layout (at_node s inside) set_form (arrays_of outer its) at))
      (shapes_in outer (j % 2) c)
      (callee_seated s leaves outer seats at seated its its_sits inside first_buffer set_form its_form its_buffers))

  pub set_come : IsLike leaves (trees.come_tree (seated_args s inside seats its.args))
      (lowered.comes (arity_of first) (arrays_of outer c) at set_layout)
  set_come =
      subst (λ a. IsLike leaves (trees.come_tree (seated_args s inside seats its.args))
      (lowered.comes (arity_of first) a at (lowered.layout (at_node s inside) set_form a at)))
      (arrays_in outer (j % 2) c)
      (subst (λ n. IsLike leaves (trees.come_tree (seated_args s inside seats its.args))
      (lowered.comes n (arrays_of outer its) at (lowered.layout (at_node s inside) set_form (arrays_of outer its) at)))
      its_arity
      (like_comes s leaves outer seats at seated its its_sits inside first_buffer set_form its_form its_buffers))

  pub set_back : IsLike leaves (trees.back_tree (seated_args s inside seats its.args))
      (lowered.outs (arity_of first) (arrays_of outer c) at set_layout)
  set_back =
      subst (λ a. IsLike leaves (trees.back_tree (seated_args s inside seats its.args))
      (lowered.outs (arity_of first) a at (lowered.layout (at_node s inside) set_form a at)))
      (arrays_in outer (j % 2) c)
      (subst (λ n. IsLike leaves (trees.back_tree (seated_args s inside seats its.args))
      (lowered.outs n (arrays_of outer its) at (lowered.layout (at_node s inside) set_form (arrays_of outer its) at)))
      its_arity
      (like_outs s leaves outer seats at seated its its_sits inside first_buffer set_form its_form its_buffers))

  pub set_work : (body : PlanTree) (d : cells.Tree) → IsLike leaves body d
      → IsLike leaves (trees.work_tree inside its (seated_args s inside seats its.args)
      (map (local_seat s inside) its.locals) body) (lowered.works (arity_of first) (arrays_of outer c) at set_layout d)
  set_work body d h =
      subst (λ a. IsLike leaves (trees.work_tree inside its (seated_args s inside seats its.args)
      (map (local_seat s inside) its.locals) body)
      (lowered.works (arity_of first) a at (lowered.layout (at_node s inside) set_form a at) d))
      (arrays_in outer (j % 2) c)
      (subst (λ n. IsLike leaves (trees.work_tree inside its (seated_args s inside seats its.args)
      (map (local_seat s inside) its.locals) body)
      (lowered.works n (arrays_of outer its) at (lowered.layout (at_node s inside) set_form (arrays_of outer its) at)
      d)) its_arity
      (like_works s leaves outer seats at seated its its_sits inside first_buffer set_form its_form its_buffers body d
      h))
