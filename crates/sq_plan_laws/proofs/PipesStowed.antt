-- The buffers of a loop whose transfers overlap stand apart where the live ones do.
use Rattle.std.proofs.Common.{◌≡◌, ℕ, suc, ◌%◌, ◌<◌, Bool, true, eqb, eqb-true, List, [], ◌∷◌, ◌++◌, map, length}
use Rattle.std.proofs.Common.{Option, Some, None, refl, sym, ap, ◌∙◌, subst, arith, ◌⊎◌, inl, inr}
use Rattle.std.specs.Prelude.{slice_get, if◌then◌else◌}
use Rattle.std.specs.List.{Contains}
use Rattle.sq_text.specs.declared.place.Place.{Place}
use Rattle.sq_text.specs.declared.spread.SpreadRule.{SpreadRule}
use Rattle.sq_rect.specs.Extents.{rows_of}
use Rattle.sq_leaf.specs.declared.shape.Shape.{Shape}
use Rattle.sq_ir.specs.Tree.{Skip}
use Rattle.sq_ir.specs.Scopes.{Scope}
use Rattle.sq_ir.specs.Events.{Leaves}
use Rattle.sq_ir.specs.Plans.{HaveRoom}
use Rattle.sq_ir.specs.Written.{Setting, PlanTree, scoped}
use Rattle.sq_placed.specs.declared.home.Home.TheVariants.{Own}
use Rattle.sq_placed.specs.Placed.{Placed, PlacedArg, PlacedLocal, PlacedCall, Piped}
use Rattle.sq_placed.specs.Seats.{Seat, SeatedArg, seated_args, local_seat}
use Rattle.sq_placed.specs.Trees.{seq_all, par_all, is_held, come_in, fill_held, callee_tree, come_tree, work_tree}
use Rattle.sq_placed.specs.Trees.{back_tree, home_in_set, arg_in_set, call_in_set, twin_buffers, pipeline}
use Rattle.sq_placed.specs.Trees.{pipeline_tree}
use Rattle.sq_placed.specs.Trees.{bring, callee_seats, tree}
use Rattle.sq_cells.specs.Machine.{Form, Node, child_of, lane_of}
use Rattle.sq_cells.specs.Work.{Array, Work, Call}
use Rattle.sq_cells.specs.Cells.{Spot}
use Rattle.sq_cells.specs.Tree.{Cause}
use Rattle.sq_cells.specs.Lowered.{Layout, layout, HasLane, BufferCell, TwiceCell, Scratch, CallPlaced, mates}
use Rattle.sq_cells.specs.Lowered.{how_many}
use Rattle.sq_cells.specs.Lowered.{set_of, Comes, SetsPlaced}
use Rattle.sq_plan_laws.specs.Calling.{arrays_of, shapes_of, first_buffer, second_buffer, form_of}
use Rattle.sq_plan_laws.specs.OnBytes.{arity_of, rule_of}
use Rattle.sq_plan_laws.specs.Stowed.{Stowed, LanesApart}
use Rattle.sq_plan_laws.proofs.PlacedLists.{mapped_from}
use Rattle.sq_plan_laws.specs.Seated.{IsSeated, CallSits, PipeSits, Sits, at_node}
use Rattle.sq_plan_laws.proofs.Calls.{number_is, callee_seated}
use Rattle.sq_plan_laws.proofs.Sets.{form_is, first_is, shapes_in, arrays_in, sits_in}
use Rattle.sq_plan_laws.specs.Around.{IsAround}
use Rattle.sq_plan_laws.specs.Buffers.{CallOwns, OpensBuffer, OpensInSet, Opens, PipeOwns}
use Rattle.sq_plan_laws.specs.Buffers.{home_buffer, opened_buffer, HasBuffer}
use Rattle.sq_plan_laws.proofs.Grown.{Aside, seq_first, seq_next, aside_first, aside_next, scope_list, in_scoped}
use Rattle.sq_plan_laws.proofs.Grown.{aside_scoped}
use Rattle.sq_plan_laws.proofs.Live.{mapped, bring_event, in_par_all, IsNamed, named_left, named_right, named_in}
use Rattle.sq_plan_laws.proofs.Live.{one_buffer}
use Rattle.sq_plan_laws.proofs.Live.{Holding, has_rows, opens_has, front_at}
use Rattle.sq_plan_laws.proofs.ArrayCells.{locals_scope, IsRound, aside_callee, live_arg}
use Rattle.sq_plan_laws.proofs.Found.{Found, on_bytes, FoundIn, found_in, body_room, its_place}
use Rattle.sq_plan_laws.proofs.Lanes.{next_place, at_place, many_at, lane_at, place_of, IsThere, place_there}
use Rattle.sq_plan_laws.proofs.Lanes.{place_below}
use Rattle.sq_plan_laws.proofs.Lanes.{list_tree, in_lists, lists_apart}
use Rattle.sq_plan_laws.proofs.Pipelines.{in_work, in_come, aside_work}
use Rattle.sq_plan_laws.proofs.RoomSets.{homes_in, kept_in, arrays_in_set, call_owns, IsOther, other_next, other_back}
use Rattle.sq_plan_laws.proofs.RoomSets.{none_inside, differs, twins_name, twins_same, form_in_set}

-- an argument with two buffers comes in
come_event : (b : ℕ) (l : SeatedArg) → l.passed.home ≡ Own b → 0 < rows_of l.own.view.extents → IsAround (come_in l) []
come_event b l home some =
    subst (λ (v : Bool). IsAround (if v then Skip else bring l) []) (sym (ap is_held home)) (bring_event b l home some)

carry : (P : Node → Form → ℕ → (ℕ → Array) → List Shape → Type 0) (M M' : Node) (f f' : Form) (c c' : ℕ)
    (a a' : ℕ → Array) (o o' : List Shape) → M ≡ M' → f ≡ f' → c ≡ c' → a ≡ a' → o ≡ o' → P M f c a o
    → P M' f' c' a' o'
carry P M M' f f' c c' a a' o o' m g d b q h =
    subst (λ x. P M' f' c' a' x) q
    (subst (λ x. P M' f' c' x o) b
    (subst (λ x. P M' f' x a o) d (subst (λ x. P M' x c a o) g (subst (λ x. P x f c a o) m h))))

has_own : (c : PlacedCall) (i : ℕ) (p : PlacedArg) (b : ℕ) → slice_get c.args i ≡ Some p → p.home ≡ Own b
    → HasBuffer c i b
has_own c i p b e h = front_at (λ (q : PlacedArg). home_buffer q.home) c.args
    (map (λ (z : PlacedLocal). Some z.buffer) c.locals) i p e
    ∙ ap (λ z. Some (home_buffer z)) h

module _ (s : Setting) (leaves : Leaves Cause) (outer : List Shape) (seats : List Seat) (at : Layout)
    (seated : IsSeated outer seats at) (spread : Option (Place × SpreadRule)) (n : ℕ) (calls : ℕ → PlacedCall)
    (w : ℕ → Placed) (node child : ℕ) (path : List ℕ) (held : List ℕ)
    (sits : (t : ℕ) → t < n → PipeSits outer (calls t) (calls 0) × Sits leaves (w t) (shapes_of (calls t)))
    (owns : (t : ℕ) → t < n → PipeOwns s held (calls t) (w t))
    (lanes : (t : ℕ) → t < n → HasLane (rule_of spread) (at_node s node) n t) where
  abbrev N : Node
  N = at_node s node

  abbrev pub lane : ℕ → ℕ
  lane t = lane_at s node n spread child t

  abbrev place : ℕ → ℕ
  place t = place_of s node n spread t

  abbrev below : ℕ → ℕ
  below d = s.child node d

  -- ---- the lists

  abbrev pub part : ℕ → (ℕ → ℕ) → ℕ → PlanTree
  part c pos m =
      let inside = s.child node c in
      let call : ℕ → PlacedCall = λ j. call_in_set (j % 2) (calls (pos j)) in
      let ls : ℕ → List SeatedArg = λ j. seated_args s inside seats (call j).args in
      let locals : ℕ → List Seat = λ j. map (local_seat s inside) (call j).locals in
      let work' : ℕ → PlanTree = λ j. work_tree inside (call j) (ls j) (locals j)
      (tree s (w (pos j)) inside 0 (callee_seats (ls j) (locals j)) (path ++ pos j ∷ [])) in
      scoped inside (twin_buffers (calls (pos 0)).args)
      (pipeline (λ j. come_tree (ls j)) work' (λ j. back_tree (ls j)) m)

  abbrev pub list_of : ℕ → PlanTree
  list_of d = list_tree s node n part spread d

  abbrev pos : ℕ → ℕ → ℕ
  pos d j = at_place s node n spread d j

  abbrev many : ℕ → ℕ
  many d = many_at s node n spread d

  abbrev twins : ℕ → List ℕ
  twins d = twin_buffers (calls (pos d 0)).args

  abbrev pub round : ℕ → List Scope
  round d = scope_list (below d) (twins d)

  abbrev coming : ℕ → ℕ → PlanTree
  coming d j = come_tree (seated_args s (below d) seats (call_in_set (j % 2) (calls (pos d j))).args)

  -- the work of the iteration u at position j
  abbrev work_as : (d j u : ℕ) → PlanTree
  work_as d j u =
      let c = call_in_set (j % 2) (calls u) in
      let ls = seated_args s (below d) seats c.args in
      let ks = map (local_seat s (below d)) c.locals in
      work_tree (below d) c ls ks (tree s (w u) (below d) 0 (callee_seats ls ks) (path ++ u ∷ []))

  abbrev working : ℕ → ℕ → PlanTree
  working d j = work_as d j (pos d j)

  abbrev backing : ℕ → ℕ → PlanTree
  backing d j = back_tree (seated_args s (below d) seats (call_in_set (j % 2) (calls (pos d j))).args)

  -- ---- an iteration

  abbrev pub its : ℕ → PlacedCall
  its t = call_in_set (place t % 2) (calls t)

  abbrev pub its_seats : ℕ → List Seat
  its_seats t = callee_seats (seated_args s (below (lane t)) seats (its t).args)
      (map (local_seat s (below (lane t))) (its t).locals)

  abbrev pub its_layout : ℕ → Layout
  its_layout t = layout (at_node s (below (lane t))) (form_of s.offset first_buffer (its t)) (arrays_of outer (its t))
      at

  abbrev pub its_body : ℕ → PlanTree
  its_body t = tree s (w t) (below (lane t)) 0 (its_seats t) (path ++ t ∷ [])

  abbrev bytes : ℕ → Work
  bytes t = on_bytes s leaves (w t) (shapes_of (its t))

  module _ (t : ℕ) (lt : t < n) where
    there : IsThere s node n spread child t
    there = place_there s node n spread child t lt

    pub its_sits : CallSits outer (its t)
    its_sits = sits_in outer (place t % 2) (calls t) (sits t lt).0.sits

    pub its_seated : IsSeated (shapes_of (its t)) (its_seats t) (its_layout t)
    its_seated = callee_seated s leaves outer seats at seated (its t) its_sits (below (lane t)) first_buffer
        (form_of s.offset first_buffer (its t)) (form_is s.offset first_buffer (its t)) (λ i p e. first_is p.home)

    pub body_sits : Sits leaves (w t) (shapes_of (its t))
    body_sits = subst (Sits leaves (w t)) (sym (shapes_in outer (place t % 2) (calls t))) (sits t lt).1

    pub its_owns : CallOwns s held (its t) (w t)
    its_owns = call_owns s held (calls t) (w t) (owns t lt) (sits t lt).0.lower (place t % 2)

    -- ---- its events

    of_come : (l : List Scope) → IsAround (come_tree (seated_args s (below (lane t)) seats (its t).args)) l
        → IsAround (list_of (lane t)) (round (lane t) ++ l)
    of_come l h =
        let d = lane t in
        in_scoped (below d) (twins d) _ l
        (in_come (coming d) (working d) (backing d) (many d) (place t) l there.below
        (subst (λ u. IsAround (come_tree (seated_args s (below d) seats (call_in_set (place t % 2) (calls u)).args)) l)
        (sym there.is) h))

    of_work : (l : List Scope) → IsAround (work_as (lane t) (place t) t) l
        → IsAround (list_of (lane t)) (round (lane t) ++ l)
    of_work l h =
        let d = lane t in
        in_scoped (below d) (twins d) _ l
        (in_work (coming d) (working d) (backing d) (many d) (place t) l there.below
        (subst (λ u. IsAround (work_as d (place t) u) l) (sym there.is) h))

    aside_its_work : Aside (list_of (lane t)) → Aside (work_as (lane t) (place t) t)
    aside_its_work h =
        let d = lane t in
        subst (λ u. Aside (work_as d (place t) u)) there.is
        (aside_work (coming d) (working d) (backing d) (many d) (place t) there.below
        (aside_scoped (below d) (twins d) _ h))

    abbrev ls : List SeatedArg
    ls = seated_args s (below (lane t)) seats (its t).args

    abbrev callee : PlanTree
    callee = callee_tree (below (lane t)) (its t).locals (map (local_seat s (below (lane t))) (its t).locals)
        (its_body t)

    of_arg : (i : ℕ) (p : PlacedArg) (b : ℕ) → slice_get (its t).args i ≡ Some p → p.home ≡ Own b
        → IsAround (list_of (lane t)) (round (lane t) ++ [])
    of_arg i p b e home =
        let r = has_rows s outer seats at seated (below (lane t)) (its t).args its_sits.args.each i p e in
        of_come [] (in_par_all (map come_in ls) i (come_in r.arg) [] (mapped come_in ls i r.arg r.there)
        (come_event b r.arg (ap (λ (q : PlacedArg). q.home) r.passed ∙ home) r.some))

    of_callee : (l : List Scope) → IsAround callee l → IsAround (list_of (lane t)) (round (lane t) ++ l)
    of_callee l h = of_work l (seq_next (par_all (map fill_held ls)) (seq_all (callee ∷ [])) l
        (seq_first callee (seq_all []) l h))

    pub aside_body : Aside (list_of (lane t)) → Aside (its_body t)
    aside_body h =
        aside_callee s leaves outer seats at seated (its t) its_sits (below (lane t)) (w t) held its_owns (its_body t)
        (aside_first callee (seq_all [])
        (aside_next (par_all (map fill_held ls)) (seq_all (callee ∷ [])) (aside_its_work h)))

    -- the first iteration of the list has the same homes
    front_homes : homes_in (calls t) ≡ homes_in (calls (pos (lane t) 0))
    front_homes =
        let f = place_below s node n spread (lane t) 0 (let z = there.below in omega (arith, z)) in
        (sits t lt).0.homes ∙ sym (sits (pos (lane t) 0) f).0.homes

    named : (i : ℕ) (p : PlacedArg) (b : ℕ) → slice_get (its t).args i ≡ Some p → p.home ≡ Own b
        → IsNamed (round (lane t)) (below (lane t)) b
    named i p b e home =
        let m = mapped_from (arg_in_set (place t % 2)) (calls t).args i p e in
        let h : home_in_set (place t % 2) m.0.home ≡ Own b = sym (ap (λ (x : PlacedArg). x.home) m.2) ∙ home in
        named_in (below (lane t)) (twins (lane t)) b
        (subst (λ (l : List ℕ). Contains l b) (twins_same (calls t) (calls (pos (lane t) 0)) front_homes)
        (twins_name (calls t) held (place t % 2) i m.0 b m.1 ((owns t lt).homes i m.0 m.1) h))

    pub its_round : IsRound s leaves outer seats at seated (its t) its_sits (below (lane t)) (w t) held its_owns
        (list_of (lane t)) (round (lane t)) (its_body t)
    its_round = record { named = named; of_arg = of_arg; of_callee = of_callee }

    -- ---- as the work on bytes has it

    set_is : form_of s.offset first_buffer (its t)
        ≡ set_of (rule_of spread) N n (form_of s.offset first_buffer (calls 0))
        (form_of s.offset second_buffer (calls 0)) t
    set_is = form_in_set s.offset (calls t) (calls 0) (sits t lt).0.homes (sits t lt).0.kept (place t)

    many_arrays : arity_of (its t) ≡ arity_of (calls 0)
    many_arrays = ap length (shapes_in outer (place t % 2) (calls t)) ∙ (sits t lt).0.arity

    module _ (P : Node → Form → ℕ → (ℕ → Array) → List Shape → Type 0) where
      abbrev Moved : Type 0
      Moved = P (child_of N (lane t)) (set_of (rule_of spread) N n (form_of s.offset first_buffer (calls 0))
          (form_of s.offset second_buffer (calls 0)) t) (arity_of (calls 0)) (arrays_of outer (calls t))
          (shapes_of (calls t))

      abbrev Here : Type 0
      Here = P (at_node s (below (lane t))) (form_of s.offset first_buffer (its t)) (arity_of (its t))
          (arrays_of outer (its t)) (shapes_of (its t))

      pub moved : Here → Moved
      moved h = carry P _ _ _ _ _ _ _ _ _ _ (sym (number_is s true node (lane t))) set_is many_arrays
          (arrays_in outer (place t % 2) (calls t)) (shapes_in outer (place t % 2) (calls t)) h

      pub back : Moved → Here
      back h = carry P _ _ _ _ _ _ _ _ _ _ (number_is s true node (lane t)) (sym set_is) (sym many_arrays)
          (sym (arrays_in outer (place t % 2) (calls t))) (sym (shapes_in outer (place t % 2) (calls t))) h

    pub pipe_body : Stowed (bytes t) (at_node s (below (lane t))) 0
        → Stowed (on_bytes s leaves (w t) (shapes_of (calls t))) (child_of N (lane t)) 0
    pipe_body h = moved (λ M f c a o. Stowed (on_bytes s leaves (w t) o) M 0) h

  -- ---- each buffer is live somewhere

  module _ (ih : (t : ℕ) → t < n → (x : Spot) → Scratch (bytes t) (at_node s (below (lane t))) 0 x
      → Found s (its_body t) (w t) x) where
    abbrev whole : PlanTree
    whole = pipeline_tree s spread node child n part

    -- a cell of an iteration's buffers, or of one further in
    abbrev Inside : (t : ℕ) → Spot → Type 0
    Inside t x =
        BufferCell (child_of N (lane t)) (set_of (rule_of spread) N n (form_of s.offset first_buffer (calls 0))
        (form_of s.offset second_buffer (calls 0)) t) (arity_of (calls 0)) (arrays_of outer (calls t)) x
        ⊎ Scratch (on_bytes s leaves (w t) (shapes_of (calls t))) (child_of N (lane t)) 0 x

    abbrev Cells : (t : ℕ) → t < n → Spot → Type 0
    Cells t lt x = FoundIn s leaves outer seats at seated (its t) (its_sits t lt) (below (lane t)) (w t) held
        (its_owns t lt) (list_of (lane t)) (round (lane t)) (its_body t) (its_round t lt) x

    cells : (t : ℕ) (lt : t < n) (x : Spot) → Inside t x → Cells t lt x
    cells t lt x h =
        found_in s leaves outer seats at seated (its t) (its_sits t lt) (below (lane t)) (w t) held
        (its_owns t lt) (list_of (lane t)) (round (lane t)) (its_body t) (its_round t lt) (ih t lt) x
        (back t lt (λ M f c a o. BufferCell M f c a x ⊎ Scratch (on_bytes s leaves (w t) o) M 0 x) h)

    pub pipe_found : (t : ℕ) → t < n → (x : Spot) → Inside t x → Found s whole (Piped spread n calls w) x
    pipe_found t lt x h =
        let f = cells t lt x h in
        record {
          scopes = round (lane t) ++ f.rest;
          around = in_lists s node n part spread child t (round (lane t) ++ f.rest) (lanes t lt) f.around;
          buffer = f.buffer;
          named = f.named;
          byte = f.byte;
          opens = (t, lt, opened f.opens);
        }
      where
        opened : {b : ℕ} → ((i : ℕ) × OpensBuffer (its t) i b) ⊎ Opens (w t) b
            → ((k i : ℕ) × OpensInSet (calls t) k i b) ⊎ Opens (w t) b
        opened {b} (inl o) = inl (
          place t % 2,
          o.0,
          subst (λ l. slice_get l o.0 ≡ Some (Some b))
              (arrays_in_set opened_buffer (place t % 2) (calls t)) o.1,
        )
        opened (inr o) = inr o

    -- ---- what room gives

    module _ (pre : List Scope) (room : (l : List Scope) → IsAround whole l → HaveRoom s (pre ++ l))
        (live : (t : ℕ) → t < n → Holding s pre (below (lane t)) held) where
      list_room : (t : ℕ) → t < n → (l : List Scope) → IsAround (list_of (lane t)) l → HaveRoom s (pre ++ l)
      list_room t lt l h = room l (in_lists s node n part spread child t l (lanes t lt) h)

      -- ---- two iterations, one after the other

      abbrev Twice : (t : ℕ) → Spot → Type 0
      Twice t x =
          TwiceCell (child_of N (lane t)) (set_of (rule_of spread) N n (form_of s.offset first_buffer (calls 0))
          (form_of s.offset second_buffer (calls 0)) t) (arity_of (calls 0)) (arrays_of outer (calls t)) x

      apart : (a b : ℕ) → a < n → b < n → lane a ≡ lane b → IsOther (place a % 2) (place b % 2) → (x : Spot) → Twice a x
          → Inside b x → ⊥
      apart a b la lb same other x h g =
          let y = live_arg s leaves outer seats at seated (its a) (its_sits a la) (below (lane a)) (w a) held
          (its_owns a la) (list_of (lane a)) (round (lane a)) (its_body a) (its_round a la) x
          (back a la (λ M f c r o. TwiceCell M f c r x) h) in
          let f = cells b lb x g in
          let scopes = round (lane b) ++ f.rest in
          let here : IsNamed (round (lane b)) x.area y.buffer
          = subst (λ (d : ℕ). IsNamed (round d) x.area y.buffer) same y.named in
          let one = one_buffer s (pre ++ scopes) (list_room b lb scopes f.around) x.area y.buffer f.buffer x.index
          (named_right pre scopes x.area y.buffer (named_left (round (lane b)) f.rest x.area y.buffer here))
          (named_right pre scopes x.area f.buffer f.named) y.byte f.byte in
          let homes = (sits a la).0.homes ∙ sym (sits b lb).0.homes in
          let kept = (sits a la).0.kept ∙ sym (sits b lb).0.kept in
          let has = has_own (its a) y.index y.arg y.buffer y.there y.home in
          clash f.opens y.index y.arg y.buffer y.there y.home has one homes kept
        where
          clash : {d : ℕ} → ((i : ℕ) × OpensBuffer (its b) i d) ⊎ Opens (w b) d → (i : ℕ) (p : PlacedArg) (c : ℕ)
              → slice_get (its a).args i ≡ Some p → p.home ≡ Own c → HasBuffer (its a) i c → c ≡ d
              → homes_in (calls a) ≡ homes_in (calls b) → kept_in (calls a) ≡ kept_in (calls b) → ⊥
          clash (inl o) i p c e home has one homes kept =
              differs s held (calls a) (calls b) (w b) (owns b lb) homes kept (place a % 2) (place b % 2) other i o.0
              c p
              e home has (subst (HasBuffer (its b) o.0) (sym one) (opens_has (its b) o.0 _ o.1))
          clash (inr o) i p c e home has one homes kept =
              none_inside s held (calls a) (calls b) (w b) (owns b lb) homes kept (place a % 2) (place b % 2) i c has
              (subst (Opens (w b)) (sym one) o)

      -- a list's iterations are one after the other at its positions
      next_lane : (p t : ℕ) → Comes (mates (rule_of spread) N n p) p t → lane p ≡ lane t
      next_lane p t c = by spread c
        where
          by : (z : Option (Place × SpreadRule)) → Comes (mates (rule_of z) N n p) p t
              → lane_at s node n z child p ≡ lane_at s node n z child t
          by None c = refl
          by (Some q) c = sym (eqb-true (lane_of q.1 N n t) (lane_of q.1 N n p) c.2)

      next_of : (p t : ℕ) → Comes (mates (rule_of spread) N n p) p t → place t ≡ suc (place p)
      next_of p t c = by spread c
        where
          by : (z : Option (Place × SpreadRule)) → Comes (mates (rule_of z) N n p) p t
              → place_of s node n z t ≡ suc (place_of s node n z p)
          by None c = next_place _ p t c
          by (Some q) c =
              ap (λ (d : ℕ). how_many (λ u. eqb (lane_of q.1 N n u) d) t)
              (eqb-true (lane_of q.1 N n t) (lane_of q.1 N n p) c.2) ∙ next_place _ p t c

      next_set : (p t : ℕ) → Comes (mates (rule_of spread) N n p) p t → IsOther (place p % 2) (place t % 2)
      next_set p t c = subst (λ k. IsOther (place p % 2) (k % 2)) (sym (next_of p t c)) (other_next (place p))

      pub pipe_sets : SetsPlaced (rule_of spread) N child n (form_of s.offset first_buffer (calls 0))
          (form_of s.offset second_buffer (calls 0)) (arity_of (calls 0)) (λ t. arrays_of outer (calls t))
          (λ t. on_bytes s leaves (w t) (shapes_of (calls t)))
      pipe_sets = record {
        later = λ p t c lt x h g.
            apart p t (let z = c.0 in omega (arith, z, lt)) lt (next_lane p t c) (next_set p t c) x h g;
        sooner = λ p t c lt x h g.
            apart t p lt (let z = c.0 in omega (arith, z, lt)) (sym (next_lane p t c))
            (other_back (place p % 2) (place t % 2) (next_set p t c)) x h g;
      }

      -- ---- an iteration

      pub pipe_place : (t : ℕ) → t < n
          → CallPlaced (child_of N (lane t)) (set_of (rule_of spread) N n (form_of s.offset first_buffer (calls 0))
          (form_of s.offset second_buffer (calls 0)) t) (arity_of (calls 0)) (arrays_of outer (calls t))
          (on_bytes s leaves (w t) (shapes_of (calls t)))
      pipe_place t lt =
          moved t lt (λ M f c a o. CallPlaced M f c a (on_bytes s leaves (w t) o))
          (its_place s leaves outer seats at seated (its t) (its_sits t lt) (below (lane t)) (w t) held (its_owns t lt)
          (list_of (lane t)) (round (lane t)) (its_body t) (its_round t lt) (ih t lt) pre (list_room t lt)
          (λ e. live t lt))

      -- round its callee
      abbrev pub body_scopes : (t : ℕ) → t < n → List Scope
      body_scopes t lt = pre ++ (round (lane t)
          ++ locals_scope s leaves outer seats at seated (its t) (its_sits t lt) (below (lane t)) (w t) held
          (its_owns t lt))

      pub pipe_room : (t : ℕ) (lt : t < n) (l : List Scope) → IsAround (its_body t) l
          → HaveRoom s (body_scopes t lt ++ l)
      pipe_room t lt =
          body_room s leaves outer seats at seated (its t) (its_sits t lt) (below (lane t)) (w t) held (its_owns t lt)
          (list_of (lane t)) (round (lane t)) (its_body t) (its_round t lt) (ih t lt) pre (list_room t lt)
          (λ e. live t lt)

    -- ---- iterations at different children

    pub pipe_lanes : Aside whole → LanesApart n
        (λ t. Call (set_of (rule_of spread) N n (form_of s.offset first_buffer (calls 0))
        (form_of s.offset second_buffer (calls 0)) t) true (arity_of (calls 0)) (arrays_of outer (calls t))
        (on_bytes s leaves (w t) (shapes_of (calls t)))) N lane
    pipe_lanes aside = record {
      lanes = λ a b la lb ne x h g.
          let f = cells a la x h in
          let k = cells b lb x g in
          lists_apart s node n part spread child aside a b (lanes a la) (lanes b lb) ne
          (round (lane a) ++ f.rest) (round (lane b) ++ k.rest) f.around k.around f.named.scope k.named.scope
          f.named.there k.named.there (f.named.at ∙ sym k.named.at);
    }
