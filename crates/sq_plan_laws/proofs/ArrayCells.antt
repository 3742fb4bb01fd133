-- The cells of a call's arrays, and where their buffers are live together.
use Rattle.std.proofs.Common.{◌≡◌, ℕ, zero, suc, ◌+◌, ◌<◌, true, false, List, [], ◌∷◌, ◌++◌, length, map, Option}
use Rattle.std.proofs.Common.{Some, refl, sym, ap, ◌∙◌, subst, arith, ◌⊎◌, inl, inr}
use Rattle.std.specs.Prelude.{slice_get}
use Rattle.std.specs.List.{Contains}
use Rattle.sq_leaf.specs.declared.shape.Shape.{Shape}
use Rattle.sq_ir.specs.Scopes.{Scope}
use Rattle.sq_ir.specs.Events.{Leaves}
use Rattle.sq_ir.specs.Plans.{HaveRoom}
use Rattle.sq_ir.specs.Plans as plans
use Rattle.sq_ir.specs.Written.{Setting, PlanTree}
use Rattle.sq_placed.specs.declared.home.Home.{Home}
use Rattle.sq_placed.specs.declared.home.Home.TheVariants.{InPlace, Own, Held, Twin}
use Rattle.sq_placed.specs.Placed.{Placed, PlacedArg, PlacedLocal, PlacedCall}
use Rattle.sq_cells.specs.Machine.{Form, offset_of}
use Rattle.sq_cells.specs.Cells.{Spot}
use Rattle.sq_cells.specs.Tree.{Cause}
use Rattle.sq_cells.specs.Work as places
use Rattle.sq_cells.specs.Work.{Array}
use Rattle.sq_cells.specs.Lowered.{Layout, own, in_place, IsIn, BufferCell}
use Rattle.sq_cells.proofs.Cells.{spot_path}
use Rattle.sq_plan_laws.specs.Codes.{bytes_in}
use Rattle.sq_plan_laws.specs.Calling.{place_of, shapes_of, arrays_of, first_buffer, form_of}
use Rattle.sq_plan_laws.specs.OnBytes.{arity_of}
use Rattle.sq_plan_laws.specs.Seated.{IsSeated, CallSits, at_node}
use Rattle.sq_plan_laws.proofs.Places.{below_there}
use Rattle.sq_plan_laws.proofs.Calls.{FormIs, array_is, local_is, arity_is}
use Rattle.sq_plan_laws.proofs.Sets.{form_is, first_is}
use Rattle.sq_plan_laws.specs.Around.{IsAround}
use Rattle.sq_plan_laws.specs.Buffers.{home_buffer, opened_buffer, array_buffers, HasBuffer, OpensBuffer, Opens}
use Rattle.sq_plan_laws.specs.Buffers.{IsAmong, CallOwns}
use Rattle.sq_plan_laws.proofs.Grown.{scope_list}
use Rattle.sq_plan_laws.proofs.Live.{front_at, mapped, back_at, contains_at}
use Rattle.sq_plan_laws.proofs.Live.{IsNamed, named_left, named_right, named_in, one_buffer}
use Rattle.sq_plan_laws.proofs.Live.{Holding}
use Rattle.std.proofs.Common.{None}
use Rattle.std.specs.Prelude.{pos}
use Rattle.sq_placed.specs.Seats.{Seat, SeatedArg, seated_args, local_seat}
use Rattle.sq_placed.specs.Trees.{seq_all, par_all, clear, local_buffers, callee_tree}
use Rattle.sq_cells.specs.Work.{Local}
use Rattle.sq_cells.specs.Lowered.{TwiceCell}
use Rattle.sq_plan_laws.specs.Calling.{local_of, array_of}
use Rattle.sq_plan_laws.proofs.Grown.{Aside, seq_first, seq_next, aside_first, aside_next, in_scoped, aside_scoped}
use Rattle.sq_plan_laws.proofs.Live.{rows_some, fill_event, in_par_all}

some_some : {x y : ℕ} → Some (Some x) ≡ Some (Some y) → x ≡ y
some_some h = cc h

local_mode : (o : Option Shape) → (local_of o).mode ≡ Local
local_mode None = refl
local_mode (Some sh) = refl

module _ (s : Setting) (leaves : Leaves Cause) (outer : List Shape) (seats : List Seat) (at : Layout)
    (seated : IsSeated outer seats at) (c : PlacedCall) (sits : CallSits outer c)
    (inside : ℕ) (w : Placed) (held : List ℕ) (owns : CallOwns s held c w) where
  abbrev form : Form
  form = form_of s.offset first_buffer c

  abbrev pub locals_scope : List Scope
  locals_scope = scope_list inside (local_buffers c.locals)

  forms : FormIs s.offset first_buffer form c
  forms = form_is s.offset first_buffer c

  -- ---- buffers

  -- an argument's buffer round the call, or a local's
  pub data Stand (i b : ℕ) : Type 0 where
    of_an_arg : (p : PlacedArg) → slice_get c.args i ≡ Some p → p.home ≡ Own b → Stand i b
    of_a_local : (j : ℕ) (k : PlacedLocal) → slice_get c.locals j ≡ Some k → k.buffer ≡ b → Stand i b

  -- the call brings it into scope
  pub record IsOpened (i b : ℕ) : Type 0 where
    pub stand : Stand i b
    pub opens : OpensBuffer c i b

  -- it stands in scope round the call
  pub record IsHeld (i b : ℕ) : Type 0 where
    pub lower : c.lower ≡ true
    pub there : Contains held b
    pub place : (arrays_of outer c i).place ≡ places.Held

  named_local : (j : ℕ) (k : PlacedLocal) (b : ℕ) → slice_get c.locals j ≡ Some k → k.buffer ≡ b
      → IsNamed locals_scope inside b
  named_local j k b e h = named_in inside (local_buffers c.locals) b
      (subst (Contains (local_buffers c.locals)) h
      (contains_at (local_buffers c.locals) j k.buffer (mapped (λ (x : PlacedLocal). x.buffer) c.locals j k e)))

  -- ---- cells

  pub at_front : (f : Home → Option ℕ) (i : ℕ) (p : PlacedArg) → slice_get c.args i ≡ Some p
      → slice_get (array_buffers f c) i ≡ Some (f p.home)
  at_front f i p e = front_at (λ (q : PlacedArg). f q.home) c.args (map (λ (z : PlacedLocal). Some z.buffer) c.locals) i
      p e

  at_back : (f : Home → Option ℕ) (j : ℕ) (l : PlacedLocal) → slice_get c.locals j ≡ Some l
      → slice_get (array_buffers f c) (length c.args + j) ≡ Some (Some l.buffer)
  at_back f j l e = back_at (λ (q : PlacedArg). f q.home) (λ (z : PlacedLocal). Some z.buffer) c.args c.locals j l e

  shape_front : (i : ℕ) (p : PlacedArg) → slice_get c.args i ≡ Some p → slice_get (shapes_of c) i ≡ Some p.shape
  shape_front i p e
      = front_at (λ (q : PlacedArg). q.shape) c.args (map (λ (z : PlacedLocal). z.shape) c.locals) i p e

  -- a cell of an array with a buffer
  pub record Cell (i k : ℕ) : Type 0 where
    pub buffer : ℕ
    pub has : HasBuffer c i buffer
    pub stand : IsOpened i buffer ⊎ IsHeld i buffer
    pub offset : form i ≡ s.offset buffer
    pub below : k < s.size buffer

  arg_cell : (i k : ℕ) (p : PlacedArg) → slice_get c.args i ≡ Some p → k < bytes_in p.shape → (h : Home) → p.home ≡ h
      → IsAmong c.lower held h → (arrays_of outer c i).place ≡ place_of h
      → in_place (arrays_of outer c i).place ≡ false → Cell i k
  arg_cell i k p e lt InPlace h x y z = let v = ap in_place (sym y) ∙ z in absurd (cc v)
  arg_cell i k p e lt (Own b) h x y z =
      let has : HasBuffer c i b = at_front home_buffer i p e ∙ ap (λ v. Some (home_buffer v)) h in
      let size = owns.sizes i b p.shape has (shape_front i p e) in
      record {
        buffer = b;
        has = has;
        stand = inl (record {
          stand = of_an_arg p e h;
          opens = at_front opened_buffer i p e ∙ ap (λ v. Some (opened_buffer v)) h;
        });
        offset = forms.args i p e ∙ ap (λ v. s.offset (first_buffer v)) h;
        below = omega (arith, lt, size);
      }
  arg_cell i k p e lt (Held b n) h x y z =
      let has : HasBuffer c i b = at_front home_buffer i p e ∙ ap (λ v. Some (home_buffer v)) h in
      let size = owns.sizes i b p.shape has (shape_front i p e) in
      record {
        buffer = b;
        has = has;
        stand = inr (record { lower = x.0; there = x.1; place = y });
        offset = forms.args i p e ∙ ap (λ v. s.offset (first_buffer v)) h;
        below = omega (arith, lt, size);
      }
  arg_cell i k p e lt (Twin b d) h x y z = absurd x

  local_cell : (j k : ℕ) (l : PlacedLocal) → slice_get c.locals j ≡ Some l → k < bytes_in l.shape
      → Cell (length c.args + j) k
  local_cell j k l e lt =
      let i = length c.args + j in
      let has : HasBuffer c i l.buffer = at_back home_buffer j l e in
      let shape : slice_get (shapes_of c) i ≡ Some l.shape
      = back_at (λ (q : PlacedArg). q.shape) (λ (z : PlacedLocal). z.shape) c.args c.locals j l e in
      let size = owns.sizes i l.buffer l.shape has shape in
      record {
        buffer = l.buffer;
        has = has;
        stand = inl (record { stand = of_a_local j l e refl; opens = at_back opened_buffer j l e });
        offset = forms.locals j l e;
        below = omega (arith, lt, size);
      }

  split : (i n m : ℕ) → i < n + m → (i < n) ⊎ ((j : ℕ) × (i ≡ n + j) × (j < m))
  split i zero m h = inr (i, omega arith, omega (arith, h))
  split zero (suc n) m h = inl (omega arith)
  split (suc i) (suc n) m h = go (split i n m (omega (arith, h)))
    where
      go : (i < n) ⊎ ((j : ℕ) × (i ≡ n + j) × (j < m)) → (suc i < suc n) ⊎ ((j : ℕ) × (suc i ≡ suc n + j) × (j < m))
      go (inl l) = inl (omega (arith, l))
      go (inr r) = inr (r.0, let e = r.1 in omega (arith, e), r.2)

  pub cell_at : (l : Spot) → IsIn (arity_of c) (arrays_of outer c) l → in_place (arrays_of outer c l.area).place ≡ false
      → Cell l.area l.index
  cell_at l inn out = go (split l.area (length c.args) (length c.locals) (subst (λ n. l.area < n) arity inn.0))
    where
      arity : arity_of c ≡ length c.args + length c.locals
      arity = arity_is s leaves outer seats at seated c sits inside first_buffer form forms (λ i p e. first_is p.home)

      go : (l.area < length c.args) ⊎ ((j : ℕ) × (l.area ≡ length c.args + j) × (j < length c.locals))
          → Cell l.area l.index
      go (inl lt) =
          let p = below_there c.args l.area lt in
          let is = array_is s leaves outer seats at seated c sits inside first_buffer form forms
          (λ i q e. first_is q.home) l.area p.0 p.1 in
          arg_cell l.area l.index p.0 p.1 (subst (λ (a : Array). l.index < a.size) is inn.1) p.0.home refl
          (owns.homes l.area p.0 p.1) (ap (λ (a : Array). a.place) is) out
      go (inr (j, e, lt)) =
          let k = below_there c.locals j lt in
          let is = ap (arrays_of outer c) e
          ∙ local_is s leaves outer seats at seated c sits inside first_buffer form forms (λ i q e. first_is q.home)
          j k.0 k.1 in
          subst (λ i. Cell i l.index) (sym e)
          (local_cell j l.index k.0 k.1 (subst (λ (a : Array). l.index < a.size) is inn.1))

  pub byte_of : (i k : ℕ) (x : Cell i k) → plans.HasByte s x.buffer (form i + k)
  byte_of i k x = let o = x.offset in let b = x.below in record { from = omega (arith, o); below = omega (arith, o, b) }

  -- ---- a tree with the call's events

  abbrev ls : List SeatedArg
  ls = seated_args s inside seats c.args

  abbrev ks : List Seat
  ks = map (local_seat s inside) c.locals

  -- Of the call in this tree: with the scopes `round` open, these name each argument that the call brings into scope,
  -- which then has an event; and its callee stands in them.
  pub record IsRound (whole : PlanTree) (round : List Scope) (body : PlanTree) : Type 0 where
    pub named : (i : ℕ) (p : PlacedArg) (b : ℕ) → slice_get c.args i ≡ Some p → p.home ≡ Own b → IsNamed round inside b
    pub of_arg : (i : ℕ) (p : PlacedArg) (b : ℕ) → slice_get c.args i ≡ Some p → p.home ≡ Own b
        → IsAround whole (round ++ [])
    pub of_callee : (l : List Scope) → IsAround (callee_tree inside c.locals ks body) l → IsAround whole (round ++ l)

  pub aside_callee : (body : PlanTree) → Aside (callee_tree inside c.locals ks body) → Aside body
  aside_callee body h = aside_first body (seq_all [])
      (aside_next (par_all (map clear ks)) (seq_all (body ∷ [])) (aside_scoped inside (local_buffers c.locals) _ h))

  module _ (whole : PlanTree) (round : List Scope) (body : PlanTree) (its : IsRound whole round body) where
    pub of_body : (l : List Scope) → IsAround body l → IsAround whole (round ++ (locals_scope ++ l))
    of_body l h =
        its.of_callee (locals_scope ++ l)
        (in_scoped inside (local_buffers c.locals) _ l
        (seq_next (par_all (map clear ks)) (seq_all (body ∷ [])) l (seq_first body (seq_all []) l h)))

    of_clear : (j : ℕ) (k : PlacedLocal) → slice_get c.locals j ≡ Some k
        → IsAround whole (round ++ (locals_scope ++ []))
    of_clear j k e =
        let seat = local_seat s inside k in
        let there : slice_get (map clear ks) j ≡ Some (clear seat)
        = mapped clear ks j seat (mapped (local_seat s inside) c.locals j k e) in
        its.of_callee (locals_scope ++ [])
        (in_scoped inside (local_buffers c.locals) _ []
        (seq_first (par_all (map clear ks)) (seq_all (body ∷ [])) []
        (in_par_all (map clear ks) j (clear seat) [] there
        (fill_event (pos 0) seat (rows_some k.shape.extents (owns.some j k e))))))

    -- with the buffers of the body in scope too
    pub named_round : (i b : ℕ) → Stand i b → (l : List Scope) → IsNamed (round ++ (locals_scope ++ l)) inside b
    named_round i b (of_an_arg p e h) l = named_left round (locals_scope ++ l) inside b (its.named i p b e h)
    named_round i b (of_a_local j k e h) l
        = named_right round (locals_scope ++ l) inside b (named_left locals_scope l inside b (named_local j k b e h))

    -- a cell of one of the call's buffers, with an event where it is live
    pub record Live (x : Spot) : Type 0 where
      pub rest : List Scope
      pub around : IsAround whole (round ++ rest)
      pub buffer : ℕ
      pub named : IsNamed (round ++ rest) x.area buffer
      pub byte : plans.HasByte s buffer x.index
      pub opens : (i : ℕ) × OpensBuffer c i buffer

    at_stand : (l : Spot) (y : Cell l.area l.index) → OpensBuffer c l.area y.buffer → Stand l.area y.buffer
        → Live (own (at_node s inside) form l)
    unfolding offset_of
    at_stand l y o (of_an_arg p e g) = record {
      rest = [];
      around = its.of_arg l.area p y.buffer e g;
      buffer = y.buffer;
      named = named_left round [] inside y.buffer (its.named l.area p y.buffer e g);
      byte = byte_of l.area l.index y;
      opens = (l.area, o);
    }
    at_stand l y o (of_a_local j k e g) = record {
      rest = locals_scope ++ [];
      around = of_clear j k e;
      buffer = y.buffer;
      named = named_round l.area y.buffer (of_a_local j k e g) [];
      byte = byte_of l.area l.index y;
      opens = (l.area, o);
    }

    pub live_cell : (x : Spot) → BufferCell (at_node s inside) form (arity_of c) (arrays_of outer c) x → Live x
    live_cell x h = let y = cell_at h.0 h.1 (ap in_place h.2) in by y y.stand
      where
        by : (y : Cell h.0.area h.0.index) → IsOpened h.0.area y.buffer ⊎ IsHeld h.0.area y.buffer → Live x
        by y (inl o) = subst Live h.3 (at_stand h.0 y o.opens o.stand)
        by y (inr o) = let v = sym h.2 ∙ o.place in absurd (cc v)

    -- a cell of an argument that the call brings into scope: of its buffer, which is named round the call
    pub record LiveArg (x : Spot) : Type 0 where
      pub index : ℕ
      pub arg : PlacedArg
      pub there : slice_get c.args index ≡ Some arg
      pub buffer : ℕ
      pub home : arg.home ≡ Own buffer
      pub named : IsNamed round x.area buffer
      pub byte : plans.HasByte s buffer x.index

    pub live_arg : (x : Spot) → TwiceCell (at_node s inside) form (arity_of c) (arrays_of outer c) x → LiveArg x
    unfolding offset_of
    live_arg x h = subst LiveArg h.4 (by (slice_get c.args h.0.area) refl)
      where
        l : Spot
        l = h.0

        y : Cell l.area l.index
        y = cell_at l h.1 (ap in_place h.2)

        at_home : (p : PlacedArg) → slice_get c.args l.area ≡ Some p → (z : Home) → p.home ≡ z
            → IsAmong c.lower held z → (arrays_of outer c l.area).place ≡ place_of z
            → LiveArg (own (at_node s inside) form l)
        at_home p e InPlace is among place = let v = sym h.2 ∙ place in absurd (cc v)
        at_home p e (Own b) is among place =
            let same : y.buffer ≡ b
            = some_some (sym y.has ∙ (at_front home_buffer l.area p e ∙ ap (λ z. Some (home_buffer z)) is)) in
            record {
              index = l.area;
              arg = p;
              there = e;
              buffer = b;
              home = is;
              named = its.named l.area p b e is;
              byte = subst (λ (d : ℕ). plans.HasByte s d (form l.area + l.index)) same (byte_of l.area l.index y);
            }
        at_home p e (Held b n) is among place = let v = sym h.2 ∙ place in absurd (cc v)
        at_home p e (Twin b d) is among place = absurd among

        by : (o : Option PlacedArg) → slice_get c.args l.area ≡ o → LiveArg (own (at_node s inside) form l)
        by None e = absurd (h.3 (ap (λ o. (array_of outer o (slice_get (shapes_of c) l.area)).mode) e
            ∙ local_mode (slice_get (shapes_of c) l.area)))
        by (Some p) e = at_home p e p.home refl (owns.homes l.area p e)
            (ap (λ o. (array_of outer o (slice_get (shapes_of c) l.area)).place) e)

    -- ---- what room gives

    module _ (pre : List Scope) (room : (l : List Scope) → IsAround whole l → HaveRoom s (pre ++ l))
        (holding : c.lower ≡ true → Holding s pre inside held) where
      -- with the buffers of the body in scope too
      in_scope : (i b : ℕ) → IsOpened i b ⊎ IsHeld i b → (l : List Scope)
          → IsNamed (pre ++ (round ++ (locals_scope ++ l))) inside b
      in_scope i b (inl o) l = named_right pre (round ++ (locals_scope ++ l)) inside b (named_round i b o.stand l)
      in_scope i b (inr h) l
          = named_left pre (round ++ (locals_scope ++ l)) inside b ((holding h.lower).named b h.there)

      -- two arrays' buffers are live together
      record Together (b d : ℕ) : Type 0 where
        scopes : List Scope
        room_ : HaveRoom s scopes
        first : IsNamed scopes inside b
        second : IsNamed scopes inside d

      by_local : (j : ℕ) (k : PlacedLocal) → slice_get c.locals j ≡ Some k → (b d : ℕ)
          → ((l : List Scope) → IsNamed (pre ++ (round ++ (locals_scope ++ l))) inside b)
          → ((l : List Scope) → IsNamed (pre ++ (round ++ (locals_scope ++ l))) inside d) → Together b d
      by_local j k e b d x y = record {
        scopes = pre ++ (round ++ (locals_scope ++ []));
        room_ = room (round ++ (locals_scope ++ [])) (of_clear j k e);
        first = x [];
        second = y [];
      }

      by_arg : (i : ℕ) (p : PlacedArg) (b : ℕ) → slice_get c.args i ≡ Some p → p.home ≡ Own b → (d : ℕ)
          → IsNamed (pre ++ (round ++ [])) inside d → Together b d
      by_arg i p b e h d y = record {
        scopes = pre ++ (round ++ []);
        room_ = room (round ++ []) (its.of_arg i p b e h);
        first = named_right pre (round ++ []) inside b (named_left round [] inside b (its.named i p b e h));
        second = y;
      }

      turned : (b d : ℕ) → Together b d → Together d b
      turned b d t = record { scopes = t.scopes; room_ = t.room_; first = t.second; second = t.first }

      by_stand : (i j b d : ℕ) → Stand i b → IsOpened j d ⊎ IsHeld j d → Together b d
      by_stand i j b d (of_a_local m k e h) y
          = by_local m k e b d (λ l. named_right pre (round ++ (locals_scope ++ l)) inside b
          (named_round i b (of_a_local m k e h) l)) (in_scope j d y)
      by_stand i j b d (of_an_arg p e h) (inr y)
          = by_arg i p b e h d (named_left pre (round ++ []) inside d ((holding y.lower).named d y.there))
      by_stand i j b d (of_an_arg p e h) (inl y) = other y.stand
        where
          other : Stand j d → Together b d
          other (of_an_arg q f g) = by_arg i p b e h d
              (named_right pre (round ++ []) inside d (named_left round [] inside d (its.named j q d f g)))
          other (of_a_local m k f g) = by_local m k f b d
              (λ l. named_right pre (round ++ (locals_scope ++ l)) inside b (named_round i b (of_an_arg p e h) l))
              (λ l. named_right pre (round ++ (locals_scope ++ l)) inside d
              (named_round j d (of_a_local m k f g) l))

      together : (i j b d : ℕ) → IsOpened i b ⊎ IsHeld i b → IsOpened j d ⊎ IsHeld j d → Together b d
      together i j b d (inl x) y = by_stand i j b d x.stand y
      together i j b d (inr x) (inl y) = turned d b (by_stand j i d b y.stand (inr x))
      together i j b d (inr x) (inr y) = record {
        scopes = pre;
        room_ = (holding x.lower).room b x.there;
        first = (holding x.lower).named b x.there;
        second = (holding y.lower).named d y.there;
      }

      pub separate : (l m : Spot) → IsIn (arity_of c) (arrays_of outer c) l → IsIn (arity_of c) (arrays_of outer c) m
          → in_place (arrays_of outer c l.area).place ≡ false → in_place (arrays_of outer c m.area).place ≡ false
          → own (at_node s inside) form l ≡ own (at_node s inside) form m → l ≡ m
      unfolding offset_of
      separate l m il im ol om e =
          let x = cell_at l il ol in
          let y = cell_at m im om in
          let same : form l.area + l.index ≡ form m.area + m.index = ap (λ (z : Spot). z.index) e in
          let t = together l.area m.area x.buffer y.buffer x.stand y.stand in
          let one = one_buffer s t.scopes t.room_ inside x.buffer y.buffer (form l.area + l.index) t.first t.second
          (byte_of l.area l.index x) (subst (λ k. plans.HasByte s y.buffer k) (sym same) (byte_of m.area m.index y)) in
          let area : l.area ≡ m.area = owns.distinct l.area m.area y.buffer (subst (HasBuffer c l.area) one x.has) y.has
          in
          let index : l.index ≡ m.index = let f = ap form area in omega (arith, same, f) in
          spot_path l m area index

      -- no cell of a call further in
      pub below_all : (l : Spot) → IsIn (arity_of c) (arrays_of outer c) l → in_place (arrays_of outer c l.area).place
          ≡ false
          → (scopes : List Scope) → IsAround body scopes → (d : ℕ) → IsNamed scopes inside d
          → plans.HasByte s d (form l.area + l.index) → Opens w d → ⊥
      below_all l il ol scopes h d nd byte opens =
          let x = cell_at l il ol in
          let all = round ++ (locals_scope ++ scopes) in
          let one = one_buffer s (pre ++ all) (room all (of_body scopes h)) inside x.buffer d (form l.area + l.index)
          (in_scope l.area x.buffer x.stand scopes)
          (named_right pre all inside d (named_right round (locals_scope ++ scopes) inside d
          (named_right locals_scope scopes inside d nd))) (byte_of l.area l.index x) byte in
          owns.inner l.area d (subst (HasBuffer c l.area) one x.has) opens
