-- The scopes of a placed source that stand beside one another never have one node.
use Rattle.std.proofs.Common.{◌≡◌, ℕ, zero, suc, ◌<◌, Bool, true, false, List, [], ◌∷◌, ◌++◌, map, Option, Some, None}
use Rattle.std.proofs.Common.{length, get_or, refl, ap, ◌∙◌, arith}
use Rattle.std.specs.Prelude.{if◌then◌else◌, ◌==◌, nat_lt, ℤ, ◌%◌}
use Rattle.sq_num.specs.declared.RedOp.{RedOp}
use Rattle.sq_text.specs.declared.spread.SpreadRule.{SpreadRule}
use Rattle.sq_text.specs.Spreading.{child_of, iterations_at}
use Rattle.sq_ast.specs.declared.program.Mode.{Mode}
use Rattle.sq_ast.specs.declared.program.Mode.TheVariants.{Input, Output, Both}
use Rattle.sq_ir.specs.Tree as tree
use Rattle.sq_ir.specs.Tree.{seq, par}
use Rattle.sq_ir.specs.Written.{Setting, PlanTree, seq_of, par_of, scoped}
use Rattle.sq_placed.specs.Placed.{Placed, PlacedArg, PlacedLocal, PlacedCall, Nothing, Then, Each, AtOnce, Gathers}
use Rattle.sq_placed.specs.Placed.{Call, Hold, Piped, Leaf}
use Rattle.sq_placed.specs.Seats.{Seat, SeatedArg, seated_args, local_seat}
use Rattle.sq_placed.specs.Trees as trees
use Rattle.sq_placed.specs.Trees.{seq_all, par_all, copy_rows, fill_rows, add_rows, clear, is_moved, is_held, bring_by}
use Rattle.sq_placed.specs.Trees.{bring, give_back_by, give_back, hold_in_by, hold_in, hold_out_by, hold_out, come_in}
use Rattle.sq_placed.specs.Trees.{fill_held, callee_node, callee_tree, call_tree, call_buffers, callee_seats}
use Rattle.sq_placed.specs.Trees.{local_buffers, held_buffers, hold_tree, call_in_set, twin_buffers, turn_before}
use Rattle.sq_placed.specs.Trees.{turn_after, turn_of, pipeline, come_tree, work_tree, back_tree, map_tree}
use Rattle.sq_placed.specs.Trees.{pipeline_tree}
use Rattle.sq_nests.specs.Stacks.{AreAside}
use Rattle.sq_nests.specs.Under.{Under, here, below, IsForest, EachScope}
use Rattle.sq_nests.proofs.Aside.{each-seq, each-par, each-scoped, each-seq_of, each-par_of, each-map, aside-seq}
use Rattle.sq_nests.proofs.Aside.{aside-scoped, aside-seq_of, aside-par_of, aside-left, aside-none, two-children}
use Rattle.sq_nests.proofs.Aside.{under-trans}
use Rattle.sq_term_laws.specs.Rooms.{OnlyLower, IsSpreadWell}

-- ---- what serves arguments has no scope

abbrev Flat : PlanTree → Type 0
Flat t = EachScope (λ m. ⊥) t

chosen : (v : Bool) (a b : PlanTree) → Flat a → Flat b → Flat (if v then a else b)
chosen true a b h k = h
chosen false a b h k = k

copied : (q from to : Seat) → Flat (copy_rows q from to)
copied q from to = each-seq_of (λ m. ⊥) _ _ 0 (λ i g l. tt)

filled : (v : ℤ) (to : Seat) → Flat (fill_rows v to)
filled v to = each-seq_of (λ m. ⊥) _ _ 0 (λ i g l. tt)

added : (op : RedOp) (q from to : Seat) → Flat (add_rows op q from to)
added op q from to = each-seq_of (λ m. ⊥) _ _ 0 (λ i g l. tt)

brought_by : (g : Option RedOp) (m : Mode) (l : SeatedArg) → Flat (bring_by g m l)
brought_by (Some op) m l = filled _ l.own
brought_by None Input l = chosen (is_moved l.passed.home) _ tree.Skip (copied l.own l.outside l.own) tt
brought_by None Output l = filled _ l.own
brought_by None Both l = chosen (is_moved l.passed.home) _ tree.Skip (copied l.own l.outside l.own) tt

brought : (l : SeatedArg) → Flat (bring l)
brought l = brought_by l.passed.gathers l.passed.argument.mode l

given_by : (g : Option RedOp) (m : Mode) (l : SeatedArg) → Flat (give_back_by g m l)
given_by (Some op) m l = added op l.own l.own l.outside
given_by None Input l = tt
given_by None Output l = chosen (is_moved l.passed.home) _ tree.Skip (copied l.own l.own l.outside) tt
given_by None Both l = chosen (is_moved l.passed.home) _ tree.Skip (copied l.own l.own l.outside) tt

given : (l : SeatedArg) → Flat (give_back l)
given l = given_by l.passed.gathers l.passed.argument.mode l

held_in_by : (m : Mode) (l : SeatedArg) → Flat (hold_in_by m l)
held_in_by Input l = copied l.own l.outside l.own
held_in_by Output l = tt
held_in_by Both l = copied l.own l.outside l.own

held_out_by : (m : Mode) (l : SeatedArg) → Flat (hold_out_by m l)
held_out_by Input l = tt
held_out_by Output l = copied l.own l.own l.outside
held_out_by Both l = copied l.own l.own l.outside

comes : (l : SeatedArg) → Flat (come_in l)
comes l = chosen (is_held l.passed.home) tree.Skip (bring l) tt (brought l)

begins : (l : SeatedArg) → Flat (fill_held l)
begins l = chosen (is_held l.passed.home) (bring l) tree.Skip (brought l) tt

all_flat : {A : Type 0} (f : A → PlanTree) → ((x : A) → Flat (f x)) → (xs : List A) → Flat (par_all (map f xs))
all_flat f h [] = tt
all_flat f h (x ∷ xs) = each-par (λ m. ⊥) (f x) (par_all (map f xs)) (h x) (all_flat f h xs)

flat_each : (P : ℕ → Type 0) (a : PlanTree) → Flat a → EachScope P a
flat_each P a h = each-map (λ node z. absurd z) a h

-- ---- the tree

module _ (s : Setting) (depth : ℕ → ℕ) (forest : IsForest s depth) (levels : ℕ)
    (some : (node : ℕ) → suc (depth node) < levels → 0 < s.children node) where
  -- aside, and all below a node
  pub record IsSide (top : ℕ) (a : PlanTree) : Type 0 where
    pub aside : AreAside a
    pub under : EachScope (Under s top) a

  flat_side : (top : ℕ) (a : PlanTree) → Flat a → IsSide top a
  flat_side top a h = record { aside = aside-none a h; under = flat_each (Under s top) a h }

  seq_side : (top : ℕ) (a b : PlanTree) → IsSide top a → IsSide top b → IsSide top (seq a b)
  seq_side top a b h k = record {
    aside = aside-seq a b h.aside k.aside;
    under = each-seq (Under s top) a b h.under
        k.under;
  }

  -- scopes in the left part alone
  left_side : (top : ℕ) (a b : PlanTree) → IsSide top a → Flat b → IsSide top (par a b)
  left_side top a b h k = record {
    aside = aside-left a b h.aside k (aside-none b k);
    under
        = each-par (Under s top) a b h.under (flat_each (Under s top) b k);
  }

  scoped_side : (top node : ℕ) (bs : List ℕ) (a : PlanTree) → Under s top node → IsSide top a
      → IsSide top (scoped node bs a)
  scoped_side top node bs a u h = record
      { aside = aside-scoped node bs a h.aside; under = each-scoped (Under s top) node bs a u h.under }

  turns_side : (top n : ℕ) (f : ℕ → PlanTree) → ((i : ℕ) → IsSide top (f i)) → IsSide top (seq_of n f 0)
  turns_side top n f h = record {
    aside = aside-seq_of n f 0 (λ i g l. (h i).aside);
    under = each-seq_of (Under s top) n
        f 0 (λ i g l. (h i).under);
  }

  wider : (top lower : ℕ) (a : PlanTree) → Under s top lower → IsSide lower a → IsSide top a
  wider top lower a u h = record
      { aside = h.aside; under = each-map (λ node v. under-trans s depth forest u v) a h.under }

  -- the children of a node
  lanes_side : (node : ℕ) (f : ℕ → PlanTree) → ((c : ℕ) → c < s.children node → IsSide (s.child node c) (f c))
      → IsSide node (par_of (s.children node) f 0)
  lanes_side node f h = record {
    aside = aside-par_of (λ c m. Under s (s.child node c) m) (s.children node) f 0
        (λ i j m g lt l u v. two-children s depth forest node i j m (omega (arith, lt, l)) (omega (arith, l))
        (λ e. absurd (omega (arith, e, lt))) u v)
        (λ i g l. let k = h i (omega (arith, l)) in (k.aside, k.under));
    under = each-par_of (Under s node) (s.children node) f 0 (λ i g l.
        let b : i < s.children node = omega (arith, l) in
        each-map (λ m v. under-trans s depth forest (below node i (here refl) b refl) v) (f i) (h i b).under);
  }

  callee_side : (node : ℕ) (ks : List PlacedLocal) (seats : List Seat) (body : PlanTree) → IsSide node body
      → IsSide node (callee_tree node ks seats body)
  callee_side node ks seats body h =
      let fills = par_all (map clear seats) in
      scoped_side node node (local_buffers ks) (seq_all (fills ∷ body ∷ [])) (here refl)
      (seq_side node fills (seq body tree.Skip) (flat_side node fills (all_flat clear (filled _) seats))
      (seq_side node body tree.Skip h (flat_side node tree.Skip tt)))

  call_side : (node : ℕ) (c : PlacedCall) (ls : List SeatedArg) (seats : List Seat) (body : PlanTree) → IsSide node body
      → IsSide node (call_tree node c ls seats body)
  call_side node c ls seats body h =
      let ins = par_all (map bring ls) in
      let outs = par_all (map give_back ls) in
      let callee = callee_tree node c.locals seats body in
      scoped_side node node (call_buffers c.args) (seq_all (ins ∷ callee ∷ outs ∷ [])) (here refl)
      (seq_side node ins (seq callee (seq outs tree.Skip)) (flat_side node ins (all_flat bring brought ls))
      (seq_side node callee (seq outs tree.Skip) (callee_side node c.locals seats body h)
      (seq_side node outs tree.Skip (flat_side node outs (all_flat give_back given ls)) (flat_side node tree.Skip tt))))

  hold_side : (top node : ℕ) (ps : List PlacedArg) (ls : List SeatedArg) (loop : PlanTree) → Under s top node
      → IsSide top loop → IsSide top (hold_tree node ps ls loop)
  hold_side top node ps ls loop u h =
      let ins = par_all (map hold_in ls) in
      let outs = par_all (map hold_out ls) in
      scoped_side top node (held_buffers ps) (seq_all (ins ∷ loop ∷ outs ∷ [])) u
      (seq_side top ins (seq loop (seq outs tree.Skip))
      (flat_side top ins (all_flat hold_in (λ l. held_in_by l.passed.argument.mode l) ls))
      (seq_side top loop (seq outs tree.Skip) h
      (seq_side top outs tree.Skip (flat_side top outs
      (all_flat hold_out (λ l. held_out_by l.passed.argument.mode l) ls)) (flat_side top tree.Skip tt))))

  work_side : (node : ℕ) (c : PlacedCall) (ls : List SeatedArg) (seats : List Seat) (body : PlanTree) → IsSide node body
      → IsSide node (work_tree node c ls seats body)
  work_side node c ls seats body h =
      let fills = par_all (map fill_held ls) in
      let callee = callee_tree node c.locals seats body in
      seq_side node fills (seq callee tree.Skip) (flat_side node fills (all_flat fill_held begins ls))
      (seq_side node callee tree.Skip (callee_side node c.locals seats body h) (flat_side node tree.Skip tt))

  turn_flat : (come back : ℕ → PlanTree) (m j : ℕ) → ((j : ℕ) → Flat (come j)) → ((j : ℕ) → Flat (back j))
      → Flat (seq (turn_before back j) (turn_after come m j))
  turn_flat come back m j h k = each-seq (λ z. ⊥) (turn_before back j) (turn_after come m j) (first j)
      (chosen (nat_lt (suc j) m) (come (suc j)) tree.Skip (h (suc j)) tt)
    where
      first : (j : ℕ) → Flat (turn_before back j)
      first zero = tt
      first (suc i) = k i

  piped_side : (top : ℕ) (come work back : ℕ → PlanTree) (m : ℕ) → ((j : ℕ) → Flat (come j))
      → ((j : ℕ) → IsSide top (work j)) → ((j : ℕ) → Flat (back j)) → IsSide top (pipeline come work back m)
  piped_side top come work back zero h w k = flat_side top tree.Skip tt
  piped_side top come work back (suc n) h w k =
      let turns = seq_of (suc n) (turn_of come work back (suc n)) 0 in
      seq_side top (come 0) (seq turns (seq (back n) tree.Skip)) (flat_side top (come 0) (h 0))
      (seq_side top turns (seq (back n) tree.Skip)
      (turns_side top (suc n) (turn_of come work back (suc n))
      (λ j. left_side top (work j) (seq (turn_before back j) (turn_after come (suc n) j)) (w j)
      (turn_flat come back (suc n) j h k)))
      (seq_side top (back n) tree.Skip (flat_side top (back n) (k n)) (flat_side top tree.Skip tt)))

  -- of a form at a node: below the node, and where there are lower calls alone, below the child that they go to
  pub record HasSides (x : Placed) (node child : ℕ) (a : PlanTree) : Type 0 where
    pub whole : IsSide node a
    pub lower : OnlyLower x → IsSide (s.child node child) a

  abbrev Goes : ℕ → ℕ → ℕ → Type 0
  Goes level node child = suc level < levels → child < s.children node

  abbrev Sides : Placed → Type 0
  Sides x = (level node child : ℕ) (seats : List Seat) (path : List ℕ) → depth node ≡ level → Goes level node child
      → IsSpreadWell levels level x → HasSides x node child (trees.tree s x node child seats path)

  first_child : (node level : ℕ) → depth node ≡ level → Goes level node 0
  first_child node level e = λ l. some node (omega (arith, l, e))

  map_sides : (spread : Option SpreadRule) (count : ℕ) (w : ℕ → Placed) → ((t : ℕ) → Sides (w t))
      → (level node child : ℕ) (seats : List Seat) (path : List ℕ) → depth node ≡ level → Goes level node child
      → ((t : ℕ) → IsSpreadWell levels level (w t) × ((spread ≡ None → ⊥) → OnlyLower (w t)))
      → IsSide node (map_tree s spread node child count (λ c t. trees.tree s (w t) node c seats (path ++ t ∷ [])))
      × ((spread ≡ None) × ((t : ℕ) → OnlyLower (w t))
      → IsSide (s.child node child) (map_tree s spread node child count
      (λ c t. trees.tree s (w t) node c seats (path ++ t ∷ []))))
  map_sides None count w ih level node child seats path e g h = (
    turns_side node count (λ t. trees.tree s (w t) node child seats (path ++ t ∷ []))
        (λ t. (ih t level node child seats (path ++ t ∷ []) e g (h t).0).whole),
    λ o. turns_side (s.child node child) count (λ t. trees.tree s (w t) node child seats (path ++ t ∷ []))
        (λ t. (ih t level node child seats (path ++ t ∷ []) e g (h t).0).lower (o.1 t)),
  )
  map_sides (Some rule) count w ih level node child seats path e g h = (
    lanes_side node (λ c. seq_of count
        (λ t. if child_of rule count (s.children node) t == c then trees.tree s (w t) node c seats (path ++ t ∷ []) else
        tree.Skip) 0) (λ c l.
        turns_side (s.child node c) count
        (λ t. if child_of rule count (s.children node) t == c then trees.tree s (w t) node c seats (path ++ t ∷ []) else
        tree.Skip) (λ t.
        this (s.child node c) (child_of rule count (s.children node) t == c)
        (trees.tree s (w t) node c seats (path ++ t ∷ []))
        ((ih t level node c seats (path ++ t ∷ []) e (λ z. l) (h t).0).lower
        ((h t).1 (λ q. absurd (let z = q in cc)))))),
    λ o. absurd (let z = o.0 in cc),
  )
    where
      this : (top : ℕ) (v : Bool) (a : PlanTree) → IsSide top a → IsSide top (if v then a else tree.Skip)
      this top true a k = k
      this top false a k = flat_side top tree.Skip tt

  -- the works of a child
  part_side : (calls : ℕ → PlacedCall) (w : ℕ → Placed) → ((t : ℕ) → Sides (w t))
      → (level node c : ℕ) (seats : List Seat) (path : List ℕ) → depth node ≡ level → suc level < levels → c
      < s.children node
      → ((t : ℕ) → IsSpreadWell levels (suc level) (w t)) → (at : ℕ → ℕ) (m : ℕ)
      → IsSide (s.child node c) (scoped (s.child node c) (twin_buffers (calls (at 0)).args)
      (pipeline (λ j. come_tree (seated_args s (s.child node c) seats (call_in_set (j % 2) (calls (at j))).args))
      (λ j. work_tree (s.child node c) (call_in_set (j % 2) (calls (at j)))
      (seated_args s (s.child node c) seats (call_in_set (j % 2) (calls (at j))).args)
      (map (local_seat s (s.child node c)) (call_in_set (j % 2) (calls (at j))).locals)
      (trees.tree s (w (at j)) (s.child node c) 0
      (callee_seats (seated_args s (s.child node c) seats (call_in_set (j % 2) (calls (at j))).args)
      (map (local_seat s (s.child node c)) (call_in_set (j % 2) (calls (at j))).locals)) (path ++ at j ∷ [])))
      (λ j. back_tree (seated_args s (s.child node c) seats (call_in_set (j % 2) (calls (at j))).args)) m))
  part_side calls w ih level node c seats path e up l h at m =
      let inside = s.child node c in
      let call : ℕ → PlacedCall = λ j. call_in_set (j % 2) (calls (at j)) in
      let ls : ℕ → List SeatedArg = λ j. seated_args s inside seats (call j).args in
      let locals : ℕ → List Seat = λ j. map (local_seat s inside) (call j).locals in
      let body : ℕ → PlanTree = λ j. trees.tree s (w (at j)) inside 0 (callee_seats (ls j) (locals j))
      (path ++ at j ∷ []) in
      let deep : depth inside ≡ suc level = forest.below node c l ∙ ap suc e in
      let work : ℕ → PlanTree = λ j. work_tree inside (call j) (ls j) (locals j) (body j) in
      scoped_side inside inside (twin_buffers (calls (at 0)).args)
      (pipeline (λ j. come_tree (ls j)) work (λ j. back_tree (ls j)) m) (here refl)
      (piped_side inside (λ j. come_tree (ls j)) work (λ j. back_tree (ls j)) m (λ j. all_flat come_in comes (ls j))
      (λ j. work_side inside (call j) (ls j) (locals j) (body j)
      (ih (at j) (suc level) inside 0 (callee_seats (ls j) (locals j)) (path ++ at j ∷ []) deep
      (first_child inside (suc level) deep) (h (at j))).whole)
      (λ j. all_flat give_back given (ls j)))

  -- a call at this node
  abbrev called_at : PlacedCall → Placed → List Seat → List ℕ → ℕ → PlanTree
  called_at c w seats path inside =
      call_tree inside c (seated_args s inside seats c.args) (map (local_seat s inside) c.locals)
      (trees.tree s w inside 0 (callee_seats (seated_args s inside seats c.args)
      (map (local_seat s inside) c.locals)) path)

  call_sides : (c : PlacedCall) (w : Placed) → Sides w → (level node child : ℕ) (seats : List Seat) (path : List ℕ)
      → depth node ≡ level → Goes level node child → (v : Bool) → (v ≡ true → suc level < levels)
      → IsSpreadWell levels (if v then suc level else level) w
      → IsSide node (called_at c w seats path (callee_node s v node child))
      × (v ≡ true → IsSide (s.child node child) (called_at c w seats path (callee_node s v node child)))
  call_sides c w ih level node child seats path e g true up k =
      let l = g (up refl) in
      let inside = s.child node child in
      let deep : depth inside ≡ suc level = forest.below node child l ∙ ap suc e in
      let locals = map (local_seat s inside) c.locals in
      let ls = seated_args s inside seats c.args in
      let body = trees.tree s w inside 0 (callee_seats ls locals) path in
      let x = call_side inside c ls locals body
      (ih (suc level) inside 0 (callee_seats ls locals) path deep (first_child inside (suc level) deep) k).whole in
      (wider node inside (called_at c w seats path inside) (below node child (here refl) l refl) x, λ o. x)
  call_sides c w ih level node child seats path e g false up k =
      let locals = map (local_seat s node) c.locals in
      let ls = seated_args s node seats c.args in
      let body = trees.tree s w node 0 (callee_seats ls locals) path in (
        call_side node c ls locals body
            (ih level node 0 (callee_seats ls locals) path e (first_child node level e) k).whole,
        λ o. absurd
            (let z = o in cc),
      )

  pub have_sides : (x : Placed) → Sides x
  have_sides Nothing level node child seats path e g h
      = record { whole = flat_side node tree.Skip tt; lower = λ o. flat_side (s.child node child) tree.Skip tt }
  have_sides (Then a b) level node child seats path e g h =
      let x = have_sides a level node child seats path e g h.0 in
      let y = have_sides b level node child seats path e g h.1 in
      record {
        whole = seq_side node (trees.tree s a node child seats path) (trees.tree s b node child seats path)
            x.whole y.whole;
        lower = λ o. seq_side (s.child node child) (trees.tree s a node child seats path)
            (trees.tree s b node child seats path) (x.lower o.0) (y.lower o.1);
      }
  have_sides (Each count w) level node child seats path e g h =
      let m = map_sides None count w (λ t. have_sides (w t)) level node child seats path e g
      (λ t. (h t, λ no_. absurd (no_ refl))) in
      record { whole = m.0; lower = λ o. m.1 (refl, o) }
  have_sides (AtOnce place spread count w) level node child seats path e g h =
      let m = map_sides spread count w (λ t. have_sides (w t)) level node child seats path e g h in
      record { whole = m.0; lower = λ o. m.1 o }
  have_sides (Gathers r place spread count w) level node child seats path e g h =
      let m = map_sides spread count w (λ t. have_sides (w t)) level node child seats path e g h in
      record { whole = m.0; lower = λ o. m.1 o }
  have_sides (Call c w) level node child seats path e g h =
      let m = call_sides c w (have_sides w) level node child seats path e g c.lower h.0 h.1 in
      record { whole = m.0; lower = λ o. m.1 o }
  have_sides (Hold args w) level node child seats path e g h =
      let l = g h.0 in
      let x = have_sides w level node child seats path e g h.1 in
      let inside = s.child node child in
      record {
        whole = hold_side node inside args (seated_args s inside seats args) (trees.tree s w node child seats path)
            (below node child (here refl) l refl) x.whole;
        lower = λ o. hold_side inside inside args (seated_args s inside seats args)
            (trees.tree s w node child seats path) (here refl) (x.lower o);
      }
  have_sides (Piped None count calls w) level node child seats path e g h =
      let l = g h.0 in
      let p = part_side calls w (λ t. have_sides (w t)) level node child seats path e h.0 l h.1 (λ j. j) count in
      record {
        whole = wider node (s.child node child) (trees.tree s (Piped None count calls w) node child seats path)
            (below node child (here refl) l refl) p;
        lower = λ o. p;
      }
  have_sides (Piped (Some q) count calls w) level node child seats path e g h =
      record {
        whole = lanes_side node _ (λ c l.
            let its = iterations_at q.1 count (s.children node) c in
            part_side calls w (λ t. have_sides (w t)) level node c seats path e h.0 l h.1 (λ j. get_or its j 0)
            (length its));
        lower = λ o. absurd (let z = o in cc);
      }
  have_sides (Leaf code leaf shapes) level node child seats path e g h
      = record {
        whole = flat_side node (trees.tree s (Leaf code leaf shapes) node child seats path) tt;
        lower
            = λ o. flat_side (s.child node child) (trees.tree s (Leaf code leaf shapes) node child seats path) tt;
      }
