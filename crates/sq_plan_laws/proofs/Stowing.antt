-- The buffers of a placed source stand apart where the live ones do.
use Rattle.std.proofs.Common.{◌≡◌, ◌≢◌, ℕ, zero, suc, ◌<◌, Bool, List, [], ◌∷◌, ◌++◌, map, Option, Some}
use Rattle.std.proofs.Common.{None, refl, sym, ap, ◌∙◌, subst, arith, ◌⊎◌, inl, inr, ⊎_elim, length, true}
use Rattle.std.specs.Prelude.{if◌then◌else◌, ◌==◌}
use Rattle.std.specs.List.{Contains}
use Rattle.sq_text.specs.declared.spread.SpreadRule.{SpreadRule}
use Rattle.sq_text.specs.Spreading as spreading
use Rattle.sq_leaf.specs.declared.shape.Shape.{Shape}
use Rattle.sq_ir.specs.Tree.{Skip}
use Rattle.sq_ir.specs.Scopes.{Scope}
use Rattle.sq_ir.specs.Events.{Leaves}
use Rattle.sq_ir.specs.Plans.{HaveRoom}
use Rattle.sq_ir.specs.Written.{Setting, PlanTree, seq_of}
use Rattle.sq_placed.specs.Placed.{Placed, PlacedCall, Nothing, Then, Each, AtOnce, Gathers, Call, Hold, Piped, Leaf}
use Rattle.sq_placed.specs.Placed.{PlacedArg}
use Rattle.sq_placed.specs.Seats.{Seat, seated_args, local_seat}
use Rattle.sq_placed.specs.Trees.{tree, map_tree, callee_node, callee_seats, held_buffers}
use Rattle.sq_cells.specs.Machine.{Form, Node, fan_of, lane, offset_of}
use Rattle.sq_cells.specs.Cells.{Spot}
use Rattle.sq_cells.specs.Tree.{Cause}
use Rattle.sq_cells.specs.Lowered.{Layout, layout, node_of, lane_kid, own, IsIn, HasLane, BufferCell, Scratch}
use Rattle.sq_cells.specs.Lowered.{CallPlaced, HeldCell}
use Rattle.sq_plan_laws.specs.Calling.{arrays_of, shapes_of, first_buffer, form_of}
use Rattle.sq_plan_laws.specs.OnBytes.{rule_of, OneCall, work, share, call_or_none, arity_of, held_call}
use Rattle.sq_plan_laws.specs.Fitting.{IsOne}
use Rattle.sq_plan_laws.specs.LeafLaws.{codes_of}
use Rattle.sq_plan_laws.specs.Stowed.{Stowed, HoldPlaced}
use Rattle.sq_plan_laws.specs.Seated.{IsSeated, CallSits, Sits, at_node, HeldSits}
use Rattle.sq_plan_laws.proofs.Calls.{number_is, callee_seated}
use Rattle.sq_plan_laws.proofs.Sets.{form_is, first_is}
use Rattle.sq_plan_laws.specs.Around.{IsAround}
use Rattle.sq_plan_laws.specs.Buffers.{CallOwns, HaveLanes, HoldOwns, held_round, OwnIn, PipeOwns}
use Rattle.sq_plan_laws.proofs.Grown.{Aside, seq_first, seq_next, aside_first, aside_next, same_true, in_seq, in_par}
use Rattle.sq_plan_laws.proofs.Grown.{aside_seq, aside_par, beside_apart}
use Rattle.sq_plan_laws.proofs.ArrayCells.{locals_scope, IsRound}
use Rattle.sq_plan_laws.proofs.Found.{append_joins, Found, on_bytes, found_in, body_room, its_place}
use Rattle.sq_plan_laws.proofs.CallOpens.{args_scope, call_round, aside_body}
use Rattle.sq_plan_laws.proofs.HoldOpens as hold
use Rattle.sq_plan_laws.proofs.Lanes.{lane_at, lists_aside}
use Rattle.sq_plan_laws.proofs.PipesStowed as pipes
use Rattle.sq_plan_laws.proofs.Live.{named_right, Holding, none_held}

module _ (s : Setting) where
  -- ---- maps

  in_map : (spread : Option SpreadRule) (node child n : ℕ) (part : ℕ → ℕ → PlanTree) (t : ℕ) (l : List Scope) → t < n
      → HasLane spread (at_node s node) n t
      → IsAround (part (lane_kid spread (at_node s node) child n t) t) l
      → IsAround (map_tree s spread node child n part) l
  unfolding fan_of lane
  in_map None node child n part t l lt lane_ h = in_seq n (part child) t l lt h
  in_map (Some rule) node child n part t l lt lane_ h =
      let c = spreading.child_of rule n (s.children node) t in
      in_par (s.children node) (λ d. seq_of n
      (λ u. if spreading.child_of rule n (s.children node) u == d then part d u else Skip) 0) c l lane_
      (in_seq n (λ u. if spreading.child_of rule n (s.children node) u == c then part c u else Skip) t l lt
      (subst (λ b. IsAround (if b then part c t else Skip) l) (sym (same_true c)) h))

  map_aside : (spread : Option SpreadRule) (node child n : ℕ) (part : ℕ → ℕ → PlanTree)
      → Aside (map_tree s spread node child n part) → (t : ℕ) → t < n → HasLane spread (at_node s node) n t
      → Aside (part (lane_kid spread (at_node s node) child n t) t)
  unfolding fan_of lane
  map_aside None node child n part h t lt lane_ = aside_seq n (part child) t lt h
  map_aside (Some rule) node child n part h t lt lane_ =
      let c = spreading.child_of rule n (s.children node) t in
      subst (λ b. Aside (if b then part c t else Skip)) (same_true c)
      (aside_seq n (λ u. if spreading.child_of rule n (s.children node) u == c then part c u else Skip) t lt
      (aside_par (s.children node) (λ d. seq_of n
      (λ u. if spreading.child_of rule n (s.children node) u == d then part d u else Skip) 0) c lane_ h))

  order : (a b : ℕ) → a ≢ b → (a < b) ⊎ (b < a)
  order zero zero ne = absurd (ne refl)
  order zero (suc b) ne = inl (omega arith)
  order (suc a) zero ne = inr (omega arith)
  order (suc a) (suc b) ne = ⊎_elim (λ h. inl (omega (arith, h))) (λ h. inr (omega (arith, h)))
      (order a b (λ e. ne (ap suc e)))

  -- events of iterations at different children have no scopes of one node
  map_apart : (spread : Option SpreadRule) (node child n : ℕ) (part : ℕ → ℕ → PlanTree)
      → Aside (map_tree s spread node child n part) → (a b : ℕ) → a < n → b < n
      → HasLane spread (at_node s node) n a → HasLane spread (at_node s node) n b
      → lane_kid spread (at_node s node) child n a ≢ lane_kid spread (at_node s node) child n b
      → (l m : List Scope) → IsAround (part (lane_kid spread (at_node s node) child n a) a) l
      → IsAround (part (lane_kid spread (at_node s node) child n b) b) m
      → (x y : Scope) → Contains l x → Contains m y → x.node ≡ y.node → ⊥
  unfolding fan_of lane
  map_apart None node child n part h a b la lb ka kb ne l m ha hb x y cx cy e = ne refl
  map_apart (Some rule) node child n part h a b la lb ka kb ne l m ha hb x y cx cy e =
      ⊎_elim
      (λ lt. beside_apart (s.children node) lanes h (kid a) (kid b) lt kb l m (at a l la ha) (at b m lb hb) x y cx cy e)
      (λ lt. beside_apart (s.children node) lanes h (kid b) (kid a) lt ka m l (at b m lb hb) (at a l la ha) y x cy cx
      (sym e))
      (order (kid a) (kid b) ne)
    where
      kid : ℕ → ℕ
      kid t = spreading.child_of rule n (s.children node) t

      lanes : ℕ → PlanTree
      lanes d = seq_of n (λ u. if spreading.child_of rule n (s.children node) u == d then part d u else Skip) 0

      at : (t : ℕ) (k : List Scope) → t < n → IsAround (part (kid t) t) k → IsAround (lanes (kid t)) k
      at t k lt z =
          in_seq n (λ u. if spreading.child_of rule n (s.children node) u == kid t then part (kid t) u else Skip) t k lt
          (subst (λ v. IsAround (if v then part (kid t) t else Skip) k) (sym (same_true (kid t))) z)

-- iterations at different children have no buffer's cell in common
apart : (s : Setting) (spread : Option SpreadRule) (node child n : ℕ) (part : ℕ → ℕ → PlanTree)
    → Aside (map_tree s spread node child n part) → (w : ℕ → Placed) (a b : ℕ) → a < n → b < n
    → HasLane spread (at_node s node) n a → HasLane spread (at_node s node) n b
    → lane_kid spread (at_node s node) child n a ≢ lane_kid spread (at_node s node) child n b → (x : Spot)
    → Found s (part (lane_kid spread (at_node s node) child n a) a) (w a) x
    → Found s (part (lane_kid spread (at_node s node) child n b) b) (w b) x → ⊥
apart s spread node child n part aside w a b la lb ka kb ne x f g =
    map_apart s spread node child n part aside a b la lb ka kb ne f.scopes g.scopes f.around g.around f.named.scope
    g.named.scope f.named.there g.named.there (f.named.at ∙ sym g.named.at)

-- ---- the one call of a `mapreduce`'s iteration

module _ (s : Setting) (leaves : Leaves Cause) (outer : List Shape) (node : ℕ) where
  abbrev one_call : Placed → OneCall
  one_call p = call_or_none (share (codes_of leaves) s.offset p outer).call

  abbrev CallScratch : OneCall → Bool → (kid : ℕ) → Spot → Type 0
  CallScratch o lower kid x =
      BufferCell (node_of lower (at_node s node) kid) (form_of s.offset first_buffer o.called) (arity_of o.called)
      (arrays_of outer o.called) x ⊎ Scratch o.body (node_of lower (at_node s node) kid) 0 x

  abbrev CallStowed : OneCall → Bool → (kid : ℕ) → Type 0
  CallStowed o lower kid =
      CallPlaced (node_of lower (at_node s node) kid) (form_of s.offset first_buffer o.called) (arity_of o.called)
      (arrays_of outer o.called) o.body × Stowed o.body (node_of lower (at_node s node) kid) 0

  one_lower : (p : Placed) → (one : IsOne p) → (one_call p).called.lower ≡ one.called.lower
  one_lower p one = subst (λ x. (one_call x).called.lower ≡ one.called.lower) (sym one.is) refl

  one_scratch : (p : Placed) → IsOne p → (lower : Bool) → (one_call p).called.lower ≡ lower → (kid : ℕ) (x : Spot)
      → CallScratch (one_call p) lower kid x → Scratch (work (codes_of leaves) s.offset p outer) (at_node s node) kid x
  one_scratch p one lower e kid x =
      subst (λ l. CallScratch (one_call p) l kid x
      → Scratch (work (codes_of leaves) s.offset p outer) (at_node s node) kid x) e
      (subst (λ q. CallScratch (one_call q) (one_call q).called.lower kid x
      → Scratch (work (codes_of leaves) s.offset q outer) (at_node s node) kid x) (sym one.is) (λ h. inl h))

  one_stowed : (p : Placed) → IsOne p → (lower : Bool) → (one_call p).called.lower ≡ lower → (kid : ℕ)
      → Stowed (work (codes_of leaves) s.offset p outer) (at_node s node) kid → CallStowed (one_call p) lower kid
  one_stowed p one lower e kid =
      subst (λ l. Stowed (work (codes_of leaves) s.offset p outer) (at_node s node) kid → CallStowed (one_call p) l kid)
      e
      (subst (λ q. Stowed (work (codes_of leaves) s.offset q outer) (at_node s node) kid
      → CallStowed (one_call q) (one_call q).called.lower kid) (sym one.is) (λ h. h.0))

-- ---- a call

module _ (s : Setting) (leaves : Leaves Cause) (outer : List Shape) (seats : List Seat) (at : Layout)
    (seated : IsSeated outer seats at) (c : PlacedCall) (sits : CallSits outer c) (w : Placed) (held : List ℕ)
    (owns : CallOwns s held c w) (node child : ℕ) (path : List ℕ) where
  abbrev inside : ℕ
  inside = callee_node s c.lower node child

  abbrev form : Form
  form = form_of s.offset first_buffer c

  abbrev inner_seats : List Seat
  inner_seats = callee_seats (seated_args s inside seats c.args) (map (local_seat s inside) c.locals)

  abbrev inner_layout : Layout
  inner_layout = layout (at_node s inside) form (arrays_of outer c) at

  inner_seated : IsSeated (shapes_of c) inner_seats inner_layout
  inner_seated = callee_seated s leaves outer seats at seated c sits inside first_buffer form
      (form_is s.offset first_buffer c) (λ i p e. first_is p.home)

  abbrev body : PlanTree
  body = tree s w inside 0 inner_seats path

  abbrev whole : PlanTree
  whole = tree s (Call c w) node child seats path

  abbrev of_args : List Scope
  of_args = args_scope s leaves outer seats at seated c sits inside w held owns body

  abbrev of_locals : List Scope
  of_locals = locals_scope s leaves outer seats at seated c sits inside w held owns

  its : IsRound s leaves outer seats at seated c sits inside w held owns whole of_args body
  its = call_round s leaves outer seats at seated c sits inside w held owns body

  module _ (ih : (x : Spot) → Scratch (on_bytes s leaves w (shapes_of c)) (at_node s inside) 0 x → Found s body w x)
    where
      call_found : (x : Spot) → Scratch (on_bytes s leaves (Call c w) outer) (at_node s node) child x
          → Found s whole (Call c w) x
      call_found x h =
          let f = found_in s leaves outer seats at seated c sits inside w held owns whole of_args body its ih x
          (subst (λ (M : Node). BufferCell M form (arity_of c) (arrays_of outer c) x
          ⊎ Scratch (on_bytes s leaves w (shapes_of c)) M 0 x) (number_is s c.lower node child) h) in
          record {
            scopes = of_args ++ f.rest;
            around = f.around;
            buffer = f.buffer;
            named = f.named;
            byte = f.byte;
            opens = f.opens;
          }

      module _ (pre : List Scope) (room : (l : List Scope) → IsAround whole l → HaveRoom s (pre ++ l))
          (live : Holding s pre (s.child node child) held) where
        below_held : c.lower ≡ true → Holding s pre inside held
        below_held e = subst (λ (l : Bool). Holding s pre (callee_node s l node child) held) (sym e) live

        callee_room : (l : List Scope) → IsAround body l → HaveRoom s ((pre ++ (of_args ++ of_locals)) ++ l)
        callee_room = body_room s leaves outer seats at seated c sits inside w held owns whole of_args body its ih pre
            room below_held

        call_stowed : Stowed (on_bytes s leaves w (shapes_of c)) (at_node s inside) 0
            → Stowed (on_bytes s leaves (Call c w) outer) (at_node s node) child
        call_stowed h =
            subst (λ M. CallPlaced M form (arity_of c) (arrays_of outer c) (on_bytes s leaves w (shapes_of c))
            × Stowed (on_bytes s leaves w (shapes_of c)) M 0) (sym (number_is s c.lower node child)) (
              its_place s leaves outer seats at seated c sits inside w held owns whole of_args body its ih pre room
                  below_held,
              h,
            )

-- ---- a loop that arguments leave

module _ (s : Setting) (leaves : Leaves Cause) (outer : List Shape) (seats : List Seat) (at : Layout)
    (seated : IsSeated outer seats at) (args : List PlacedArg) (sits : HeldSits outer args) (w : Placed)
    (owns : HoldOwns s args w) (node child : ℕ) (path : List ℕ)
    (ih : (x : Spot) → Scratch (on_bytes s leaves w outer) (at_node s node) child x
    → Found s (tree s w node child seats path) w x) (pre : List Scope)
    (room : (l : List Scope) → IsAround (tree s (Hold args w) node child seats path) l → HaveRoom s (pre ++ l)) where
  abbrev holding_node : ℕ
  holding_node = s.child node child

  abbrev loop : PlanTree
  loop = tree s w node child seats path

  abbrev held_form : Form
  held_form = form_of s.offset first_buffer (held_call args)

  held_below : (q : Spot) → IsIn (length args) (arrays_of outer (held_call args)) q
      → Found s loop w (own (at_node s holding_node) held_form q) → ⊥
  unfolding offset_of
  held_below q iq f = hold.below_all s leaves outer seats at seated args sits holding_node w owns loop pre room q iq
      f.scopes f.around f.buffer f.named f.byte f.opens

  hold_place : HoldPlaced held_form (length args) (arrays_of outer (held_call args)) (on_bytes s leaves w outer)
      (at_node s node) child
  hold_place = subst (λ (M : Node). (
      (q r : Spot) → IsIn (length args) (arrays_of outer (held_call args)) q
      → IsIn (length args) (arrays_of outer (held_call args)) r → own M held_form q ≡ own M held_form r → q ≡ r
      ) × ((q : Spot) → IsIn (length args) (arrays_of outer (held_call args)) q
      → Scratch (on_bytes s leaves w outer) (at_node s node) child (own M held_form q) → ⊥)
      → HoldPlaced held_form (length args) (arrays_of outer (held_call args)) (on_bytes s leaves w outer)
      (at_node s node) child) (number_is s true node child) (λ h. record {
        separate = λ q r iq ir pq pr e. h.0 q r iq ir e;
        below = λ q iq pq z. h.1 q iq z;
      }) (
        (λ q r iq ir e. hold.separate s leaves outer seats at seated args sits holding_node w owns loop pre room q r iq
            ir e),
        (λ q iq z. held_below q iq (ih (own (at_node s holding_node) held_form q) z)),
      )

-- ---- each buffer is live somewhere

module _ (s : Setting) (leaves : Leaves Cause) where
  pub scratch : (p : Placed) (node child : ℕ) (outer : List Shape) (seats : List Seat) (at : Layout) (path : List ℕ)
      (bs : List ℕ) → Sits leaves p outer → IsSeated outer seats at → OwnIn s bs p → HaveLanes s p node child
      → (x : Spot) → Scratch (on_bytes s leaves p outer) (at_node s node) child x
      → Found s (tree s p node child seats path) p x
  scratch Nothing node child outer seats at path bs sits seated owns lanes x h = absurd h
  scratch (Then a b) node child outer seats at path bs sits seated owns lanes x (inl h) =
      let f = scratch a node child outer seats at path bs sits.0 seated owns.0 lanes.0 x h in
      record {
        scopes = f.scopes;
        around
            = seq_first (tree s a node child seats path) (tree s b node child seats path) f.scopes f.around;
        buffer
            = f.buffer;
        named = f.named;
        byte = f.byte;
        opens = inl f.opens;
      }
  scratch (Then a b) node child outer seats at path bs sits seated owns lanes x (inr h) =
      let f = scratch b node child outer seats at path bs sits.1 seated owns.1 lanes.1 x h in
      record {
        scopes = f.scopes;
        around
            = seq_next (tree s a node child seats path) (tree s b node child seats path) f.scopes f.around;
        buffer
            = f.buffer;
        named = f.named;
        byte = f.byte;
        opens = inr f.opens;
      }
  scratch (Each n w) node child outer seats at path bs sits seated owns lanes x (t, lt, h) =
      let f = scratch (w t) node child outer seats at (path ++ t ∷ []) bs (sits t lt) seated (owns t lt) (lanes t lt) x
      h in
      record {
        scopes = f.scopes;
        around
            = in_map s None node child n (λ c u. tree s (w u) node c seats (path ++ u ∷ [])) t f.scopes lt tt f.around;
        buffer = f.buffer;
        named = f.named;
        byte = f.byte;
        opens = (t, lt, f.opens);
      }
  scratch (AtOnce place spread n w) node child outer seats at path bs sits seated owns lanes x (t, lt, h) =
      let kid = lane_kid spread (at_node s node) child n t in
      let f = scratch (w t) node kid outer seats at (path ++ t ∷ []) [] (sits t lt) seated (owns t lt) (lanes t lt).1 x
      h in
      record {
        scopes = f.scopes;
        around
            = in_map s spread node child n (λ c u. tree s (w u) node c seats (path ++ u ∷ [])) t f.scopes lt
            (lanes t lt).0 f.around;
        buffer = f.buffer;
        named = f.named;
        byte = f.byte;
        opens = (t, lt, f.opens);
      }
  scratch (Gathers r place spread zero w) node child outer seats at path bs sits seated owns lanes x h = absurd h
  scratch (Gathers r place spread (suc n) w) node child outer seats at path bs sits seated owns lanes x (t, lt, h) =
      let kid = lane_kid spread (at_node s node) child (suc n) t in
      let first = (sits.1 0 (omega arith)) in
      let mine = sits.1 t lt in
      let same = one_lower s leaves outer node (w t) mine.0 ∙ mine.1
      ∙ sym (one_lower s leaves outer node (w 0) first.0 ∙ first.1) in
      let f = scratch (w t) node kid outer seats at (path ++ t ∷ []) [] mine.2 seated (owns t lt) (lanes t lt).1 x
      (one_scratch s leaves outer node (w t) mine.0 (one_call s leaves outer node (w 0)).called.lower same kid x h)
      in
      record {
        scopes = f.scopes;
        around
            = in_map s spread node child (suc n) (λ c u. tree s (w u) node c seats (path ++ u ∷ [])) t f.scopes lt
            (lanes t lt).0 f.around;
        buffer = f.buffer;
        named = f.named;
        byte = f.byte;
        opens = (t, lt, f.opens);
      }
  scratch (Call c w) node child outer seats at path bs sits seated owns lanes x h =
      call_found s leaves outer seats at seated c sits.0 w bs owns.0 node child path
      (λ y z. scratch w (callee_node s c.lower node child) 0 (shapes_of c)
      (inner_seats s leaves outer seats at seated c sits.0 w bs owns.0 node child path) _ path [] sits.1
      (inner_seated s leaves outer seats at seated c sits.0 w bs owns.0 node child path) owns.1 lanes y z) x h
  scratch (Hold args w) node child outer seats at path bs sits seated owns lanes x (inl h) =
      let inside = s.child node child in
      let loop = tree s w node child seats path in
      let f = hold.live_cell s leaves outer seats at seated args sits.0 inside w owns.0 loop x
      (subst (λ (M : Node). HeldCell M (form_of s.offset first_buffer (held_call args)) (length args)
      (arrays_of outer (held_call args)) x) (number_is s true node child) h) in
      record {
        scopes = hold.its_scope s leaves outer seats at seated args sits.0 inside w owns.0 loop ++ [];
        around = f.around;
        buffer = f.buffer;
        named = f.named;
        byte = f.byte;
        opens = inl f.holds;
      }
  scratch (Hold args w) node child outer seats at path bs sits seated owns lanes x (inr h) =
      let inside = s.child node child in
      let loop = tree s w node child seats path in
      let its = hold.its_scope s leaves outer seats at seated args sits.0 inside w owns.0 loop in
      let f = scratch w node child outer seats at path (held_buffers args ++ bs) sits.1 seated owns.1 lanes x h in
      record {
        scopes = its ++ f.scopes;
        around = hold.of_loop s leaves outer seats at seated args sits.0 inside w owns.0 loop f.scopes f.around;
        buffer = f.buffer;
        named = named_right its f.scopes x.area f.buffer f.named;
        byte = f.byte;
        opens = inr f.opens;
      }
  scratch (Piped spread n calls w) node child outer seats at path bs sits seated owns lanes x (t, lt, h) =
      let own : (u : ℕ) → u < n → PipeOwns s (held_round spread bs) (calls u) (w u) = λ u lu. (owns u lu).0 in
      let lane : (u : ℕ) → u < n → HasLane (rule_of spread) (at_node s node) n u = λ u lu. (lanes u lu).0 in
      let inside : ℕ → ℕ = λ u. s.child node (lane_at s node n spread child u) in
      let call : ℕ → PlacedCall
      = pipes.its s leaves outer seats at seated spread n calls w node child path (held_round spread bs) sits own lane
      in
      let seats' : ℕ → List Seat
      = pipes.its_seats s leaves outer seats at seated spread n calls w node child path (held_round spread bs) sits
      own lane in
      let at' : ℕ → Layout
      = pipes.its_layout s leaves outer seats at seated spread n calls w node child path (held_round spread bs) sits
      own lane in
      let sits' : (u : ℕ) → u < n → Sits leaves (w u) (shapes_of (call u))
      = pipes.body_sits s leaves outer seats at seated spread n calls w node child path (held_round spread bs) sits
      own lane in
      let seated' : (u : ℕ) → u < n → IsSeated (shapes_of (call u)) (seats' u) (at' u)
      = pipes.its_seated s leaves outer seats at seated spread n calls w node child path (held_round spread bs) sits
      own lane in
      let ih : (u : ℕ) → u < n → (y : Spot) → Scratch (on_bytes s leaves (w u) (shapes_of (call u)))
      (at_node s (inside u)) 0 y
      → Found s (tree s (w u) (inside u) 0 (seats' u) (path ++ u ∷ [])) (w u) y =
      λ u lu y z. scratch (w u) (inside u) 0 (shapes_of (call u)) (seats' u) (at' u) (path ++ u ∷ []) [] (sits' u lu)
      (seated' u lu) (owns u lu).1 (lanes u lu).1 y z in
      pipes.pipe_found s leaves outer seats at seated spread n calls w node child path (held_round spread bs) sits own
      lane ih t lt x h
  scratch (Leaf code leaf shapes) node child outer seats at path bs sits seated owns lanes x h = absurd h

  pub stowed : (p : Placed) (node child : ℕ) (outer : List Shape) (seats : List Seat) (at : Layout) (path : List ℕ)
      (bs : List ℕ) → Sits leaves p outer → IsSeated outer seats at → OwnIn s bs p → HaveLanes s p node child
      → Aside (tree s p node child seats path) → (pre : List Scope)
      → ((l : List Scope) → IsAround (tree s p node child seats path) l → HaveRoom s (pre ++ l))
      → Holding s pre (s.child node child) bs → Stowed (on_bytes s leaves p outer) (at_node s node) child
  stowed Nothing node child outer seats at path bs sits seated owns lanes aside pre room live = tt
  stowed (Then a b) node child outer seats at path bs sits seated owns lanes aside pre room live =
      let x = tree s a node child seats path in
      let y = tree s b node child seats path in (
        stowed a node child outer seats at path bs sits.0 seated owns.0 lanes.0 (aside_first x y aside) pre
            (λ l h. room l (seq_first x y l h)) live,
        stowed b node child outer seats at path bs sits.1 seated owns.1 lanes.1 (aside_next x y aside) pre
            (λ l h. room l (seq_next x y l h)) live,
      )
  stowed (Each n w) node child outer seats at path bs sits seated owns lanes aside pre room live = λ t lt.
      let part : ℕ → ℕ → PlanTree = λ c u. tree s (w u) node c seats (path ++ u ∷ []) in
      stowed (w t) node child outer seats at (path ++ t ∷ []) bs (sits t lt) seated (owns t lt) (lanes t lt)
      (map_aside s None node child n part aside t lt tt) pre
      (λ l h. room l (in_map s None node child n part t l lt tt h)) live
  stowed (AtOnce place spread n w) node child outer seats at path bs sits seated owns lanes aside pre room live =
      let part : ℕ → ℕ → PlanTree = λ c u. tree s (w u) node c seats (path ++ u ∷ []) in
      let kid : ℕ → ℕ = lane_kid spread (at_node s node) child n in (
        record {
          lanes = λ a b la lb ne x ha hb.
              apart s spread node child n part aside w a b la lb (lanes a la).0 (lanes b lb).0 ne x
              (scratch (w a) node (kid a) outer seats at (path ++ a ∷ []) [] (sits a la) seated (owns a la)
              (lanes a la).1 x ha)
              (scratch (w b) node (kid b) outer seats at (path ++ b ∷ []) [] (sits b lb) seated (owns b lb)
              (lanes b lb).1 x hb);
        },
        λ t lt. (
          (lanes t lt).0,
          stowed (w t) node (kid t) outer seats at (path ++ t ∷ []) [] (sits t lt) seated (owns t lt)
              (lanes t lt).1 (map_aside s spread node child n part aside t lt (lanes t lt).0) pre
              (λ l h. room l (in_map s spread node child n part t l lt (lanes t lt).0 h))
              (none_held s pre (s.child node (kid t))),
        ),
      )
  stowed (Gathers r place spread zero w) node child outer seats at path bs sits seated owns lanes aside pre room live
      = tt
  stowed (Gathers r place spread (suc n) w) node child outer seats at path bs sits seated owns lanes aside pre room
      live =
      let part : ℕ → ℕ → PlanTree = λ c u. tree s (w u) node c seats (path ++ u ∷ []) in
      let kid : ℕ → ℕ = lane_kid spread (at_node s node) child (suc n) in
      let first = sits.1 0 (omega arith) in
      let lower = (one_call s leaves outer node (w 0)).called.lower in
      let same : (t : ℕ) → t < suc n → (one_call s leaves outer node (w t)).called.lower ≡ lower =
      λ t lt. one_lower s leaves outer node (w t) (sits.1 t lt).0 ∙ (sits.1 t lt).1
      ∙ sym (one_lower s leaves outer node (w 0) first.0 ∙ first.1) in (
        record {
          lanes = λ a b la lb ne x ha hb.
              apart s spread node child (suc n) part aside w a b la lb (lanes a la).0 (lanes b lb).0 ne x
              (scratch (w a) node (kid a) outer seats at (path ++ a ∷ []) [] (sits.1 a la).2 seated (owns a la)
              (lanes a la).1
              x (one_scratch s leaves outer node (w a) (sits.1 a la).0 lower (same a la) (kid a) x ha))
              (scratch (w b) node (kid b) outer seats at (path ++ b ∷ []) [] (sits.1 b lb).2 seated (owns b lb)
              (lanes b lb).1
              x (one_scratch s leaves outer node (w b) (sits.1 b lb).0 lower (same b lb) (kid b) x hb));
        },
        λ t lt.
            let z = one_stowed s leaves outer node (w t) (sits.1 t lt).0 lower (same t lt) (kid t)
            (stowed (w t) node (kid t) outer seats at (path ++ t ∷ []) [] (sits.1 t lt).2 seated (owns t lt)
            (lanes t lt).1 (map_aside s spread node child (suc n) part aside t lt (lanes t lt).0) pre
            (λ l h. room l (in_map s spread node child (suc n) part t l lt (lanes t lt).0 h))
            (none_held s pre (s.child node (kid t)))) in
            ((lanes t lt).0, z.0, z.1),
      )
  stowed (Call c w) node child outer seats at path bs sits seated owns lanes aside pre room live =
      let inside = callee_node s c.lower node child in
      let seats' = inner_seats s leaves outer seats at seated c sits.0 w bs owns.0 node child path in
      let at' = inner_layout s leaves outer seats at seated c sits.0 w bs owns.0 node child path in
      let seated' = inner_seated s leaves outer seats at seated c sits.0 w bs owns.0 node child path in
      let ih : (y : Spot) → Scratch (on_bytes s leaves w (shapes_of c)) (at_node s inside) 0 y
      → Found s (tree s w inside 0 seats' path) w y =
      λ y z. scratch w inside 0 (shapes_of c) seats' at' path [] sits.1 seated' owns.1 lanes y z in
      let inner = tree s w inside 0 seats' path in
      let args = args_scope s leaves outer seats at seated c sits.0 inside w bs owns.0 inner in
      let locals = locals_scope s leaves outer seats at seated c sits.0 inside w bs owns.0 in
      call_stowed s leaves outer seats at seated c sits.0 w bs owns.0 node child path ih pre room live
      (stowed w inside 0 (shapes_of c) seats' at' path [] sits.1 seated' owns.1 lanes
      (aside_body s leaves outer seats at seated c sits.0 inside w bs owns.0 inner aside)
      (pre ++ (args ++ locals))
      (callee_room s leaves outer seats at seated c sits.0 w bs owns.0 node child path ih pre room live)
      (none_held s (pre ++ (args ++ locals)) (s.child inside 0)))
  stowed (Hold args w) node child outer seats at path bs sits seated owns lanes aside pre room live =
      let inside = s.child node child in
      let loop = tree s w node child seats path in
      let its = hold.its_scope s leaves outer seats at seated args sits.0 inside w owns.0 loop in (
        hold_place s leaves outer seats at seated args sits.0 w owns.0 node child path
            (λ y z. scratch w node child outer seats at path (held_buffers args ++ bs) sits.1 seated owns.1 lanes y z)
            pre room,
        stowed w node child outer seats at path (held_buffers args ++ bs) sits.1 seated owns.1 lanes
            (hold.aside_loop s leaves outer seats at seated args sits.0 inside w owns.0 loop aside) (pre ++ its)
            (λ l h. subst (HaveRoom s) (sym (append_joins pre its l))
            (room (its ++ l) (hold.of_loop s leaves outer seats at seated args sits.0 inside w owns.0 loop l h)))
            (hold.still_held s leaves outer seats at seated args sits.0 inside w owns.0 loop pre room bs live),
      )
  stowed (Piped None n calls w) node child outer seats at path bs sits seated owns lanes aside pre room live =
      let own : (u : ℕ) → u < n → PipeOwns s bs (calls u) (w u) = λ u lu. (owns u lu).0 in
      let lane : (u : ℕ) → u < n → HasLane (rule_of None) (at_node s node) n u = λ u lu. (lanes u lu).0 in
      let inside : ℕ → ℕ = λ u. s.child node (lane_at s node n None child u) in
      let call : ℕ → PlacedCall
      = pipes.its s leaves outer seats at seated None n calls w node child path bs sits own lane in
      let seats' : ℕ → List Seat
      = pipes.its_seats s leaves outer seats at seated None n calls w node child path bs sits own lane in
      let at' : ℕ → Layout
      = pipes.its_layout s leaves outer seats at seated None n calls w node child path bs sits own lane in
      let sits' : (u : ℕ) → u < n → Sits leaves (w u) (shapes_of (call u))
      = pipes.body_sits s leaves outer seats at seated None n calls w node child path bs sits own lane in
      let seated' : (u : ℕ) → u < n → IsSeated (shapes_of (call u)) (seats' u) (at' u)
      = pipes.its_seated s leaves outer seats at seated None n calls w node child path bs sits own lane in
      let ih : (u : ℕ) → u < n → (y : Spot) → Scratch (on_bytes s leaves (w u) (shapes_of (call u)))
      (at_node s (inside u)) 0 y
      → Found s (tree s (w u) (inside u) 0 (seats' u) (path ++ u ∷ [])) (w u) y =
      λ u lu y z. scratch (w u) (inside u) 0 (shapes_of (call u)) (seats' u) (at' u) (path ++ u ∷ []) [] (sits' u lu)
      (seated' u lu) (owns u lu).1 (lanes u lu).1 y z in
      let holds : (u : ℕ) → u < n → Holding s pre (inside u) bs = λ u lu. live in
      let scopes : (u : ℕ) → u < n → List Scope
      = pipes.body_scopes s leaves outer seats at seated None n calls w node child path bs sits own lane ih pre room
      holds in
      let body : (u : ℕ) → u < n → Stowed (on_bytes s leaves (w u) (shapes_of (call u))) (at_node s (inside u)) 0 =
      λ u lu. stowed (w u) (inside u) 0 (shapes_of (call u)) (seats' u) (at' u) (path ++ u ∷ []) [] (sits' u lu)
      (seated' u lu) (owns u lu).1 (lanes u lu).1
      (pipes.aside_body s leaves outer seats at seated None n calls w node child path bs sits own lane u lu
      (lists_aside s node n
      (pipes.part s leaves outer seats at seated None n calls w node child path bs sits own lane) None child u
      (lane u lu) aside))
      (scopes u lu)
      (pipes.pipe_room s leaves outer seats at seated None n calls w node child path bs sits own lane ih pre room
      holds u lu)
      (none_held s (scopes u lu) (s.child (inside u) 0)) in (
        pipes.pipe_sets s leaves outer seats at seated None n calls w node child path bs sits own lane ih pre room
            holds,
        λ u lu. (
          pipes.pipe_place s leaves outer seats at seated None n calls w node child path bs sits own lane ih pre room
              holds u lu,
          pipes.pipe_body s leaves outer seats at seated None n calls w node child path bs sits own lane u lu
              (body u lu),
        ),
      )
  stowed (Piped (Some q) n calls w) node child outer seats at path bs sits seated owns lanes aside pre room live =
      let own : (u : ℕ) → u < n → PipeOwns s [] (calls u) (w u) = λ u lu. (owns u lu).0 in
      let lane : (u : ℕ) → u < n → HasLane (rule_of (Some q)) (at_node s node) n u = λ u lu. (lanes u lu).0 in
      let inside : ℕ → ℕ = λ u. s.child node (lane_at s node n (Some q) child u) in
      let call : ℕ → PlacedCall
      = pipes.its s leaves outer seats at seated (Some q) n calls w node child path [] sits own lane in
      let seats' : ℕ → List Seat
      = pipes.its_seats s leaves outer seats at seated (Some q) n calls w node child path [] sits own lane in
      let at' : ℕ → Layout
      = pipes.its_layout s leaves outer seats at seated (Some q) n calls w node child path [] sits own lane in
      let sits' : (u : ℕ) → u < n → Sits leaves (w u) (shapes_of (call u))
      = pipes.body_sits s leaves outer seats at seated (Some q) n calls w node child path [] sits own lane in
      let seated' : (u : ℕ) → u < n → IsSeated (shapes_of (call u)) (seats' u) (at' u)
      = pipes.its_seated s leaves outer seats at seated (Some q) n calls w node child path [] sits own lane in
      let ih : (u : ℕ) → u < n → (y : Spot) → Scratch (on_bytes s leaves (w u) (shapes_of (call u)))
      (at_node s (inside u)) 0 y
      → Found s (tree s (w u) (inside u) 0 (seats' u) (path ++ u ∷ [])) (w u) y =
      λ u lu y z. scratch (w u) (inside u) 0 (shapes_of (call u)) (seats' u) (at' u) (path ++ u ∷ []) [] (sits' u lu)
      (seated' u lu) (owns u lu).1 (lanes u lu).1 y z in
      let holds : (u : ℕ) → u < n → Holding s pre (inside u) [] = λ u lu. none_held s pre (inside u) in
      let scopes : (u : ℕ) → u < n → List Scope
      = pipes.body_scopes s leaves outer seats at seated (Some q) n calls w node child path [] sits own lane ih pre
      room holds in
      let body : (u : ℕ) → u < n → Stowed (on_bytes s leaves (w u) (shapes_of (call u))) (at_node s (inside u)) 0 =
      λ u lu. stowed (w u) (inside u) 0 (shapes_of (call u)) (seats' u) (at' u) (path ++ u ∷ []) [] (sits' u lu)
      (seated' u lu) (owns u lu).1 (lanes u lu).1
      (pipes.aside_body s leaves outer seats at seated (Some q) n calls w node child path [] sits own lane u lu
      (lists_aside s node n
      (pipes.part s leaves outer seats at seated (Some q) n calls w node child path [] sits own lane) (Some q) child u
      (lane u lu) aside))
      (scopes u lu)
      (pipes.pipe_room s leaves outer seats at seated (Some q) n calls w node child path [] sits own lane ih pre room
      holds u lu)
      (none_held s (scopes u lu) (s.child (inside u) 0)) in (
        pipes.pipe_sets s leaves outer seats at seated (Some q) n calls w node child path [] sits own lane ih pre room
            holds,
        pipes.pipe_lanes s leaves outer seats at seated (Some q) n calls w node child path [] sits own lane ih aside,
        λ u lu. (
          lane u lu,
          pipes.pipe_place s leaves outer seats at seated (Some q) n calls w node child path [] sits own lane ih pre
              room holds u lu,
          pipes.pipe_body s leaves outer seats at seated (Some q) n calls w node child path [] sits own lane u lu
              (body u lu),
        ),
      )
  stowed (Leaf code leaf shapes) node child outer seats at path bs sits seated owns lanes aside pre room live = tt
