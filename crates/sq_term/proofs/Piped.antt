-- Loops whose transfers overlap: written out, their term is the tree of what is placed.
use Rattle.std.proofs.Common.{◌≡◌, ℕ, zero, suc, ◌+◌, ◌-◌, ◌*◌, ◌/◌, ◌%◌, ◌<◌, ◌≤◌, ◌==◌, pos, Bool, true, false, List}
use Rattle.std.proofs.Common.{[], ◌∷◌, ◌++◌, map, get_or, slice_get, drop, length, Option, Some, None, refl, sym, ap}
use Rattle.std.proofs.Common.{ap₂, subst, ◌∙◌, arith, if◌then◌else◌}
use Rattle.std.specs.Prelude.{nat_abs}
use Rattle.std.proofs.lemmas.Bool.Decides.{nat_tests}
use Rattle.std.proofs.lemmas.Nat.{le-div, div_below}
use Rattle.std.proofs.Math.Nat.{mod-eq_of_lt, div-eq_of_lt}
use Rattle.sq_num.specs.declared.RedOp.{RedOp}
use Rattle.sq_text.specs.declared.place.Place.{Place}
use Rattle.sq_text.specs.declared.spread.SpreadRule.{SpreadRule}
use Rattle.sq_text.specs.declared.spread.SpreadRule.TheVariants.{Cyclic, Blocked}
use Rattle.sq_text.specs.Spreading.{child_of, iterations_at}
use Rattle.sq_ir.specs.Leaf.declared.shape.Shape.{Shape}
use Rattle.sq_ir.specs.Tree as tree
use Rattle.sq_ir.specs.Tree.{seq}
use Rattle.sq_ir.specs.Lifting.{lift}
use Rattle.sq_ir.specs.Written.{Setting, Env, PlanTree, value_of, at_turn, node_of, inside_of, written, seq_of}
use Rattle.sq_ir.specs.Written.{par_of, arm_at, turn_at, scoped}
use Rattle.sq_ir.specs.declared.num.Num.{Num}
use Rattle.sq_ir.specs.declared.num.Num.TheVariants as n
use Rattle.sq_ir.specs.declared.term.Term.{Term}
use Rattle.sq_ir.specs.declared.term.Term.TheVariants as term
use Rattle.sq_ir.proofs.Equations.{written_skip, written_seq, written_par, written_loop, written_spread, written_case}
use Rattle.sq_ir.proofs.Equations.{written_within}
use Rattle.sq_ir.specs.Blocks.declared.argument.Argument.{Argument}
use Rattle.sq_placed.specs.Spec.declared.statement.LoopKind.{LoopKind}
use Rattle.sq_placed.specs.Spec.declared.statement.LoopKind.TheVariants as loop_kind
use Rattle.sq_placed.specs.Spec.declared.statement.CallInstance.{CallInstance}
use Rattle.sq_placed.specs.Spec.declared.body.FormBody.{FormBody}
use Rattle.sq_placed.specs.declared.home.Home.{Home}
use Rattle.sq_placed.specs.declared.home.Home.TheVariants.{InPlace, Own, Held, Twin}
use Rattle.sq_placed.specs.declared.home.Homes.{Homes}
use Rattle.sq_term.specs.declared.context.Context.{Context}
use Rattle.sq_term.specs.declared.context.Lane.{Lane}
use Rattle.sq_term.specs.declared.context.Move.{Move}
use Rattle.sq_placed.specs.Placed as placed
use Rattle.sq_placed.specs.Placed.{Placed, PlacedArg, PlacedCall, PlacedLocal}
use Rattle.sq_placed.specs.Seats.{Seat, SeatedArg, seated_args, own_of, local_seat}
use Rattle.sq_placed.specs.Trees as trees
use Rattle.sq_placed.specs.Trees.{is_held, come_in, fill_held, give_back, callee_seats, home_in_set, arg_in_set}
use Rattle.sq_placed.specs.Trees.{call_in_set, twin_of, set_buffers, twin_buffers, pipeline, come_tree, work_tree}
use Rattle.sq_placed.specs.Trees.{back_tree, pipeline_tree, seq_all, par_all}
use Rattle.sq_placed.specs.Tables.{no_shape, placed_args, locals_of, lanes_of, placed_rule, row_form, row_call}
use Rattle.sq_placed.specs.Tables.{row_body}
use Rattle.sq_placed.specs.Pipes.{CallLoop, IsPiped}
use Rattle.sq_term.specs.Terms.{in_callee, callee_term, moves_from, lift_view, lift_context, whole_lane, lane_start}
use Rattle.sq_term.specs.Terms.{lane_at, at_iteration, set_buffers_from, come_in_term, fill_held_term, come_term}
use Rattle.sq_term.specs.Terms.{leave_term, row_args, lane_term, each_child, lanes_term, pipe_moves, pipe_work}
use Rattle.sq_term.specs.Terms.{twin_sets, count_num, bring_term, back_term, numbers}
use Rattle.sq_term.specs.Stands.{Each, none, more, IsNumber, IsSeat, IsSeated, to_child, Stands, IsOf}
use Rattle.sq_term.specs.Stands.{AreOf, LocalsOf, calls_in_rows, AreLevel, AreLeveled}
use Rattle.sq_term.proofs.Numbers.{const_is, index_is, div_is, add_is, children_is, lifted_is, constant, sum, picked}
use Rattle.sq_term.proofs.Numbers.{difference, product, quotient, index, counted}
use Rattle.sq_term.proofs.Turns.{par_same, pars, each_map, each_append, each_left, each_weaken}
use Rattle.sq_term.proofs.Lanes.{blocked_rises, lane_first, lane_step, lane_many, lane_length, lane_item, lane_below}
use Rattle.sq_term.proofs.Pipelines.{IsClean, clean_skip, clean_scoped, clean_par_all, clean_seq_all, clean_par_of}
use Rattle.sq_term.proofs.Pipelines.{seq_nothing, IsLane, Parts, lane_is}
use Rattle.sq_term.proofs.Rows.{bring_is, back_is, lift_seat}
use Rattle.sq_term.proofs.Arms.{IsHead, heads_each}
use Rattle.sq_term.proofs.Calls.{Entered, enters, seat_inside, kept_are, moves_are, callee_is}
use Rattle.sq_term.proofs.Holds.{row_level}

-- ---- one of the two sets

in_place_stays : (set : ℕ) → home_in_set set InPlace ≡ InPlace
in_place_stays zero = refl
in_place_stays (suc set) = refl

home_at : (set : ℕ) (hs : List Home) (i : ℕ) → get_or (map (home_in_set set) hs) i InPlace
    ≡ home_in_set set (get_or hs i InPlace)
home_at set [] i = sym (in_place_stays set)
home_at set (h ∷ hs) zero = refl
home_at set (h ∷ hs) (suc i) = home_at set hs i

args_in_set : (set : ℕ) (op : Option RedOp) (shapes : List Shape) (hs : List Home) (i : ℕ) (args : List Argument)
    → placed_args op shapes (map (home_in_set set) hs) i args ≡ map (arg_in_set set) (placed_args op shapes hs i args)
args_in_set set op shapes hs i [] = refl
args_in_set set op shapes hs i (a ∷ rest) =
    ap₂ (λ (h : Home) (ps : List PlacedArg). record {
      argument = a;
      gathers = if a.is_reduced then op else None;
      shape = get_or shapes i no_shape;
      home = h;
    } ∷ ps) (home_at set hs i) (args_in_set set op shapes hs (suc i) rest)

of_level : (s : Setting) (level set : ℕ) (h : Home) → IsOf s level h → IsOf s level (home_in_set set h)
of_level s level zero InPlace o = o
of_level s level zero (Own b) o = o
of_level s level zero (Held b loops) o = o
of_level s level zero (Twin b c) o = o.0
of_level s level (suc set) InPlace o = o
of_level s level (suc set) (Own b) o = o
of_level s level (suc set) (Held b loops) o = o
of_level s level (suc set) (Twin b c) o = o.1

are_of_level : (s : Setting) (level set : ℕ) (hs : List Home) → AreOf s level hs
    → AreOf s level (map (home_in_set set) hs)
are_of_level s level set [] o = tt
are_of_level s level set (h ∷ hs) o = (of_level s level set h o.0, are_of_level s level set hs o.1)

buffers_in_set : (set : ℕ) (op : Option RedOp) (shapes : List Shape) (hs : List Home) (i : ℕ) {xs ys : List Argument}
    → Each IsHead xs ys → set_buffers_from set hs i ys ≡ set_buffers set (placed_args op shapes hs i xs)
buffers_in_set set op shapes hs i none = refl
buffers_in_set set op shapes hs i (more head heads)
    = ap (twin_of set (get_or hs i InPlace)) (buffers_in_set set op shapes hs (suc i) heads)

-- ---- nothing, and one of many

nothing_scoped : (node : ℕ) (bs : List ℕ) → scoped node bs tree.Skip ≡ tree.Skip
nothing_scoped node [] = refl
nothing_scoped node (b ∷ bs) = refl

once : (f : ℕ) → 0 < f → f / f ≡ 1
once f l =
    let z = le-div 1 f f l (omega arith) in
    let y = div_below f f 2 l (omega (arith, l)) in
    omega (arith, z, y)

nothing_beside : (f : ℕ → PlanTree) → par_of 0 f 0 ≡ tree.Skip
unfolding par_of
nothing_beside f = refl

nothing_of : (m : ℕ) (f : ℕ → PlanTree) (a : ℕ) → ((t : ℕ) → a ≤ t → t < a + m → f t ≡ tree.Skip)
    → seq_of m f a ≡ tree.Skip
unfolding seq_of
nothing_of zero f a h = refl
nothing_of (suc m) f a h =
    ap₂ seq (h a (omega arith) (omega arith))
    (nothing_of m f (a + 1) (λ t u v. h t (omega (arith, u)) (omega (arith, v))))

-- all others are nothing
only_one : (m : ℕ) (f : ℕ → PlanTree) (a c : ℕ) → a ≤ c → c < a + m → ((t : ℕ) → t < a + m → (t ≡ c → ⊥) → f t
    ≡ tree.Skip) → IsClean (f c) → seq_of m f a ≡ f c
unfolding seq_of
only_one zero f a c u v h clean = absurd (omega (arith, u, v))
only_one (suc m) f a c u v h clean =
    go (a == c) refl (λ z. only_one m f (a + 1) c (omega (arith, u, z)) (omega (arith, v))
    (λ t w x. h t (omega (arith, w)) x) clean)
  where
    go : (b : Bool) → (a == c) ≡ b → ((a ≡ c → ⊥) → seq_of m f (a + 1) ≡ f c)
        → seq (f a) (seq_of m f (a + 1)) ≡ f c
    go true e k =
        let z : a ≡ c = grind (arith, nat_tests, e) in
        ap₂ seq (ap f z)
        (nothing_of m f (a + 1) (λ t w x. h t (omega (arith, x)) (λ g. absurd (omega (arith, w, g, z)))))
        ∙ seq_nothing (f c) clean
    go false e k =
        let z : a ≡ c → ⊥ = λ g. absurd (grind (arith, nat_tests, e, g)) in
        ap₂ seq (h a (omega arith) z) (k z)

-- ---- each child of a node

module _ (s : Setting) (env : Env) (x : Term) where
  -- for no child but the one whose number it is
  child_turn : (f d : ℕ) → d < f → (t : ℕ) → t < f → (t ≡ d → ⊥)
      → (if child_of Cyclic f f t == d then written s x (at_turn (at_turn env f) t) else tree.Skip) ≡ tree.Skip
  child_turn f d l t k other = go (child_of Cyclic f f t == d) refl
    where
      go : (b : Bool) → (t % f == d) ≡ b → (if b then written s x (at_turn (at_turn env f) t) else tree.Skip)
          ≡ tree.Skip
      go true e = let z = mod-eq_of_lt {n = t} {m = f} k in let y : t % f ≡ d = grind (arith, nat_tests, e) in
          absurd (other (sym z ∙ y))
      go false e = refl

  own_turn : (f d : ℕ) → d < f
      → (if child_of Cyclic f f d == d then written s x (at_turn (at_turn env f) d) else tree.Skip)
      ≡ written s x (at_turn (at_turn env f) d)
  own_turn f d l =
      let z = mod-eq_of_lt {n = d} {m = f} l in
      let y : (d % f == d) ≡ true = grind (arith, nat_tests, z) in
      ap (λ (b : Bool). if b then written s x (at_turn (at_turn env f) d) else tree.Skip) y

  abbrev arms : Term
  arms = term.Case (n.Div (n.Index 0) n.Children) (term.Skip ∷ term.Spread (n.Index 0) Cyclic x ∷ [])

  turn_value : (f t : ℕ) → s.children (node_of env) ≡ f
      → value_of s (n.Div (n.Index 0) n.Children) (at_turn env t) ≡ pos (t / f)
  turn_value f t e = div_is s (at_turn env t) (n.Index 0) n.Children t f (index_is s (at_turn env t) 0)
      (children_is s (at_turn env t) ∙ ap pos e)

  module _ (parts : ℕ → PlanTree) (f : ℕ) (children : s.children (node_of env) ≡ f)
      (is : (d : ℕ) → d < f → written s x (at_turn (at_turn env f) d) ≡ parts d)
      (clean : (d : ℕ) → IsClean (parts d)) where
    early : (t : ℕ) → t < f → written s arms (at_turn env t) ≡ tree.Skip
    early t l =
        ap (λ g. g (at_turn env t)) (written_case s (n.Div (n.Index 0) n.Children) (term.Skip ∷ term.Spread (n.Index 0)
        Cyclic x ∷ []))
        ∙ ap (λ z. arm_at (map (written s) (term.Skip ∷ term.Spread (n.Index 0) Cyclic x ∷ [])) z (at_turn env t))
        (turn_value f t children ∙ ap pos (div-eq_of_lt {n = t} {m = f} l))
        ∙ ap (λ g. g (at_turn env t)) (written_skip s)

    spread : written s (term.Spread (n.Index 0) Cyclic x) (at_turn env f) ≡ par_of f parts 0
    spread =
        ap (λ g. g (at_turn env f)) (written_spread s (n.Index 0) Cyclic x)
        ∙ ap (λ z. par_of (s.children (node_of env))
        (λ c. seq_of (nat_abs z) (turn_at s Cyclic (nat_abs z) (written s x) (at_turn env f) c) 0) 0)
        (index_is s (at_turn env f) 0)
        ∙ ap (λ (z : ℕ). par_of z (λ c. seq_of f
        (λ t. if child_of Cyclic f z t == c then written s x (at_turn (at_turn env f) t) else tree.Skip) 0) 0) children
        ∙ par_same f _ _ 0 (λ d k. let l : d < f = omega (arith, k) in
        only_one f _ 0 d (omega arith) (omega (arith, l)) (λ t u v. child_turn f d l t (omega (arith, u)) v)
        (subst IsClean (sym (own_turn f d l ∙ is d l)) (clean d))
        ∙ own_turn f d l ∙ is d l)

    late : (q : ℕ) → f ≡ q → written s arms (at_turn env f) ≡ par_of f parts 0
    late zero e =
        ap (λ g. g (at_turn env f)) (written_case s (n.Div (n.Index 0) n.Children) (term.Skip ∷ term.Spread (n.Index 0)
        Cyclic x ∷ []))
        ∙ ap (λ z. arm_at (map (written s) (term.Skip ∷ term.Spread (n.Index 0) Cyclic x ∷ [])) z (at_turn env f))
        (turn_value f f children ∙ ap (λ (z : ℕ). pos (z / z)) e)
        ∙ ap (λ g. g (at_turn env f)) (written_skip s) ∙ sym (nothing_beside parts)
        ∙ ap (λ (q : ℕ). par_of q parts 0) (sym e)
    late (suc q) e =
        ap (λ g. g (at_turn env f)) (written_case s (n.Div (n.Index 0) n.Children) (term.Skip ∷ term.Spread (n.Index 0)
        Cyclic x ∷ []))
        ∙ ap (λ z. arm_at (map (written s) (term.Skip ∷ term.Spread (n.Index 0) Cyclic x ∷ [])) z (at_turn env f))
        (turn_value f f children ∙ ap pos (once f (omega (arith, e))))
        ∙ spread

    each_child_is : written s (each_child x) env ≡ par_of f parts 0
    each_child_is =
        ap (λ g. g env) (written_loop s (n.Add n.Children (n.Const (pos 1))) arms)
        ∙ ap (λ z. seq_of (nat_abs z) (λ t. written s arms (at_turn env t)) 0)
        (add_is s env n.Children (n.Const (pos 1)) f 1 (children_is s env ∙ ap pos children) (const_is s env (pos 1)))
        ∙ only_one (f + 1) (λ t. written s arms (at_turn env t)) 0 f (omega arith) (omega arith)
        (λ t u v. early t (omega (arith, u, v))) (subst IsClean (sym (late f refl)) (clean_par_of f parts 0))
        ∙ late f refl

-- ---- one iteration

-- the callees' terms are their trees
abbrev pub AreSame : (s : Setting) → (bodies : ℕ → FormBody) → (homes : ℕ → Homes) → (level : ℕ → ℕ)
    → (ℕ → Context → Term) → (ℕ → Placed) → Type 0
AreSame s bodies homes level made laid_out =
    (f : ℕ) (c : Context) (env : Env) (node : ℕ) (seats : List Seat) (path : List ℕ)
    → Stands s env (level f) c false true 0 node 0 seats path
    → written s (made f c) env ≡ trees.tree s (laid_out f) node 0 seats path

-- the context stands at this node, below the level of the loop's form, the loop being begun for the k-th time
pub record IsInside (s : Setting) (at k inside : ℕ) (seats : List Seat) (path : List ℕ) (env : Env) (c : Context)
    : Type 0 where
  pub ordinal : IsNumber s env.turns c.ordinal k
  pub level_is : env.level ≡ suc at
  pub node_is : env.nodes (suc at) ≡ inside
  pub views : Each (IsSeat s env (suc at)) c.views seats
  pub numbers : Each (IsNumber s env.turns) c.path path

pub inside_turn : (s : Setting) (at k inside : ℕ) (seats : List Seat) (path : List ℕ) (env : Env) (c : Context) (t : ℕ)
    → IsInside s at k inside seats path env c → IsInside s at k inside seats path (at_turn env t) (lift_context c)
inside_turn s at k inside seats path env c t h = record {
  ordinal = lifted_is s env.turns c.ordinal k t h.ordinal;
  level_is = h.level_is;
  node_is = h.node_is;
  views = each_left (IsSeat s env (suc at)) (IsSeat s (at_turn env t) (suc at)) lift_view
      (lift_seat s env (suc at) t) h.views;
  numbers = each_left (IsNumber s env.turns) (IsNumber s (t ∷ env.turns)) (lift 1)
      (λ x v g. lifted_is s env.turns x v t g) h.numbers;
}

-- where the callee of a loop stands: one level below its form
pub goes_inside : (s : Setting) (env in_env : Env) (at node child : ℕ) → Entered s env in_env at true node child
    → (k : ℕ) (c : Context) (seats : List Seat) (path : List ℕ) → IsNumber s env.turns c.ordinal k
    → Each (IsSeat s env at) c.views seats → Each (IsNumber s env.turns) c.path path
    → IsInside s at k (s.child node child) seats path in_env c
goes_inside s env in_env at node child ent k c seats path ordinal views numbers = record {
  ordinal = subst (λ (ts : List ℕ). IsNumber s ts c.ordinal k) (sym ent.turns) ordinal;
  level_is = ent.level_is;
  node_is = ent.node_is;
  views = each_weaken (IsSeat s env at) (IsSeat s in_env (suc at))
      (seat_inside s env in_env at true node child ent) views;
  numbers = subst (λ (ts : List ℕ). Each (IsNumber s ts) c.path path) (sym ent.turns) numbers;
}

first_row : (rows : List CallInstance) (i : ℕ) (r : CallInstance) → slice_get rows i ≡ Some r
    → (q : CallInstance) × (slice_get rows 0 ≡ Some q)
first_row [] i r e = cc
first_row (q ∷ rows) i r e = (q, refl)

module _ (s : Setting) (env : Env) (level : ℕ) where
  skip_is : written s term.Skip env ≡ tree.Skip
  skip_is = ap (λ f. f env) (written_skip s)

  come_in_is : (m : Move) (l : SeatedArg) → IsSeated s env level m l → written s (come_in_term m) env ≡ come_in l
  come_in_is m l h = go (is_held m.home)
      ∙ ap (λ (x : Home). if is_held x then tree.Skip else trees.bring l) h.home
    where
      go : (b : Bool) → written s (if b then term.Skip else bring_term m) env ≡ (if b then tree.Skip else trees.bring l)
      go true = skip_is
      go false = bring_is s env level m l h

  fill_held_is : (m : Move) (l : SeatedArg) → IsSeated s env level m l → written s (fill_held_term m) env
      ≡ fill_held l
  fill_held_is m l h = go (is_held m.home)
      ∙ ap (λ (x : Home). if is_held x then trees.bring l else tree.Skip) h.home
    where
      go : (b : Bool) → written s (if b then bring_term m else term.Skip) env ≡ (if b then trees.bring l else tree.Skip)
      go true = bring_is s env level m l h
      go false = skip_is

  come_all : {ms : List Move} {ls : List SeatedArg} → Each (IsSeated s env level) ms ls
      → written s (come_term ms) env ≡ come_tree ls
  come_all each = ap (λ f. f env) (written_par s _) ∙ pars s env come_in_term come_in come_in_is each

  fill_all : {ms : List Move} {ls : List SeatedArg} → Each (IsSeated s env level) ms ls
      → written s (term.Par (map fill_held_term ms)) env ≡ par_all (map fill_held ls)
  fill_all each = ap (λ f. f env) (written_par s _) ∙ pars s env fill_held_term fill_held fill_held_is each

  leave_all : {ms : List Move} {ls : List SeatedArg} → Each (IsSeated s env level) ms ls
      → written s (leave_term ms) env ≡ back_tree ls
  leave_all each = ap (λ f. f env) (written_par s _) ∙ pars s env back_term give_back (back_is s env level) each

module _ (s : Setting) (bodies : ℕ → FormBody) (homes : ℕ → Homes) (level : ℕ → ℕ) (made : ℕ → Context → Term)
    (laid_out : ℕ → Placed) (callees : AreSame s bodies homes level made laid_out)
    (leveled : AreLeveled s bodies homes level) (at : ℕ) (l : CallLoop) (piped : IsPiped l)
    (deep : AreLevel level at (calls_in_rows true l.rows)) (k : ℕ) (seats : List Seat) (path : List ℕ) where
  -- a call of the loop, in one of the two sets
  abbrev call_of : (set : ℕ) → Option CallInstance → PlacedCall
  call_of set o = call_in_set set (row_call bodies homes laid_out o)

  abbrev args_of : (inside set : ℕ) → Option CallInstance → List SeatedArg
  args_of inside set o = seated_args s inside seats (call_of set o).args

  abbrev locals_at : (inside set : ℕ) → Option CallInstance → List Seat
  locals_at inside set o = map (local_seat s inside) (call_of set o).locals

  abbrev work_of : (inside set t : ℕ) → Option CallInstance → PlanTree
  work_of inside set t o =
      work_tree inside (call_of set o) (args_of inside set o) (locals_at inside set o)
      (trees.tree s (row_body bodies homes laid_out o) inside 0
      (callee_seats (args_of inside set o) (locals_at inside set o)) (path ++ t ∷ []))

  -- its row
  abbrev row_at : ℕ → Option CallInstance
  row_at t = slice_get l.rows (get_or l.starts k 0 + t)

  -- with the arguments of this form
  abbrev moves_with : (set : ℕ) → Context → (form : ℕ) → List Argument → List Move
  moves_with set c form args
      = moves_from None (bodies form).arrays (map (home_in_set set) (homes form).params) c l.rows 0 args

  abbrev work_with : (set : ℕ) → Context → (form : ℕ) → List Argument → Term
  work_with set c form args =
      term.Seq (term.Par (map fill_held_term (moves_with set c form args))
      ∷ callee_term (locals_of (bodies form) (homes form))
      (made form (in_callee c (moves_with set c form args) (locals_of (bodies form) (homes form)))) ∷ [])

  module _ (inside : ℕ) (env : Env) (c : Context) (good : IsInside s at k inside seats path env c) (x : Num) (t : ℕ)
      (is : IsNumber s env.turns x t) (r : CallInstance) (there : row_at t ≡ Some r) (set : ℕ) where
    abbrev here : Context
    here = at_iteration l.starts x c

    first : (q : CallInstance) × (slice_get l.rows 0 ≡ Some q)
    first = first_row l.rows (get_or l.starts k 0 + t) r there

    form_is : first.0.form ≡ r.form
    form_is = piped.form 0 (get_or l.starts k 0 + t) first.0 r first.1 there

    to : level r.form ≡ suc at
    to = row_level level at true l.rows (get_or l.starts k 0 + t) r deep there

    ordinal : IsNumber s env.turns here.ordinal (get_or l.starts k 0 + t)
    ordinal = sum s env.turns (n.Pick (numbers l.starts) c.ordinal) x (get_or l.starts k 0) t
        (picked s env.turns l.starts c.ordinal k good.ordinal) is

    moved : Each (IsSeated s env (suc at)) (moves_with set here r.form first.0.args) (args_of inside set (Some r))
    moved = subst (λ (ps : List PlacedArg). Each (IsSeated s env (suc at)) (moves_with set here r.form first.0.args)
        (seated_args s inside seats ps)) (args_in_set set None (bodies r.form).arrays (homes r.form).params 0 r.args)
        (moves_are s env (suc at) inside good.node_is here l.rows (get_or l.starts k 0 + t) r there ordinal seats
        good.views None (bodies r.form).arrays (map (home_in_set set) (homes r.form).params)
        (are_of_level s (suc at) set (homes r.form).params
        (subst (λ (z : ℕ). AreOf s z (homes r.form).params) to (leveled.params r.form))) 0
        (heads_each (piped.heads (get_or l.starts k 0 + t) 0 r first.0 there first.1))
        (λ j y e. let m : 0 + j ≡ j = omega arith in ap (slice_get r.args) m ∙ e))

    moves_same : pipe_moves bodies homes made l.rows set here ≡ moves_with set here r.form first.0.args
    moves_same = ap (λ (o : Option CallInstance). moves_with set here (row_form o) (row_args o)) first.1
        ∙ ap (λ (f : ℕ). moves_with set here f first.0.args) form_is

    works_same : pipe_work bodies homes made l.rows set here ≡ work_with set here r.form first.0.args
    works_same = ap (λ (o : Option CallInstance). work_with set here (row_form o) (row_args o)) first.1
        ∙ ap (λ (f : ℕ). work_with set here f first.0.args) form_is

    comes : written s (come_term (pipe_moves bodies homes made l.rows set here)) env
        ≡ come_tree (args_of inside set (row_at t))
    comes = ap (λ ms. written s (come_term ms) env) moves_same ∙ come_all s env (suc at) moved
        ∙ ap (λ (o : Option CallInstance). come_tree (args_of inside set o)) (sym there)

    leaves : written s (leave_term (pipe_moves bodies homes made l.rows set here)) env
        ≡ back_tree (args_of inside set (row_at t))
    leaves = ap (λ ms. written s (leave_term ms) env) moves_same ∙ leave_all s env (suc at) moved
        ∙ ap (λ (o : Option CallInstance). back_tree (args_of inside set o)) (sym there)

    rest : List Shape
    rest = drop (length (homes r.form).params) (bodies r.form).arrays

    own : LocalsOf s (suc at) (homes r.form).locals
    own = subst (λ (z : ℕ). LocalsOf s z (homes r.form).locals) to (leveled.locals r.form)

    stands : Stands s env (suc at)
        (in_callee here (moves_with set here r.form first.0.args) (locals_of (bodies r.form) (homes r.form))) false true
        0 inside 0 (callee_seats (args_of inside set (Some r)) (locals_at inside set (Some r))) (path ++ t ∷ [])
    stands = record {
      ordinal = constant s env.turns 0;
      goes = to_child (n.Const (pos 0)) good.level_is (const_is s env (pos 0));
      node_is = good.node_is;
      views = each_append (IsSeat s env (suc at))
          (each_map (IsSeated s env (suc at)) (IsSeat s env (suc at)) (λ m. m.own) own_of (λ m g h. h.own) moved)
          (kept_are s env (suc at) inside good.node_is (drop (length (homes r.form).params) (bodies r.form).arrays)
          (homes r.form).locals own);
      numbers = each_append (IsNumber s env.turns) good.numbers (more is none);
    }

    works : written s (pipe_work bodies homes made l.rows set here) env ≡ work_of inside set t (row_at t)
    works =
        ap (λ (z : Term). written s z env) works_same
        ∙ ap (λ f. f env) (written_seq s _)
        ∙ ap₂ seq (fill_all s env (suc at) moved) (ap (λ y. seq y tree.Skip)
        (callee_is s env (suc at) good.level_is inside good.node_is
        (drop (length (homes r.form).params) (bodies r.form).arrays) (homes r.form).locals _ _ own
        (callees r.form
        (in_callee here (moves_with set here r.form first.0.args) (locals_of (bodies r.form) (homes r.form))) env inside
        (callee_seats (args_of inside set (Some r)) (locals_at inside set (Some r))) (path ++ t ∷ [])
        (subst (λ (z : ℕ). Stands s env z
        (in_callee here (moves_with set here r.form first.0.args) (locals_of (bodies r.form) (homes r.form))) false true
        0 inside 0 (callee_seats (args_of inside set (Some r)) (locals_at inside set (Some r))) (path ++ t ∷ []))
        (sym to) stands))))
        ∙ ap (work_of inside set t) (sym there)

  -- ---- a lane

  abbrev come_by : (set : ℕ) → Context → Term
  come_by set c = come_term (pipe_moves bodies homes made l.rows set c)

  abbrev work_by : (set : ℕ) → Context → Term
  work_by = pipe_work bodies homes made l.rows

  abbrev leave_by : (set : ℕ) → Context → Term
  leave_by set c = leave_term (pipe_moves bodies homes made l.rows set c)

  -- the buffers of both sets
  abbrev both_sets : List ℕ
  both_sets = twin_sets bodies homes made l.rows

  abbrev sets_of : Option CallInstance → List ℕ
  sets_of o = twin_buffers (row_call bodies homes laid_out o).args

  module _ (inside : ℕ) (pos_of : ℕ → ℕ) (m : ℕ) where
    abbrev lane_comes : ℕ → PlanTree
    lane_comes j = come_tree (args_of inside (j % 2) (row_at (pos_of j)))

    abbrev lane_works : ℕ → PlanTree
    lane_works j = work_of inside (j % 2) (pos_of j) (row_at (pos_of j))

    abbrev lane_leaves : ℕ → PlanTree
    lane_leaves j = back_tree (args_of inside (j % 2) (row_at (pos_of j)))

    abbrev lane_tree : PlanTree
    lane_tree = pipeline lane_comes lane_works lane_leaves m

    clean_lane : IsClean lane_tree
    clean_lane = go m
      where
        go : (q : ℕ) → IsClean (pipeline lane_comes lane_works lane_leaves q)
        go zero = clean_skip
        go (suc q) = clean_seq_all (lane_comes 0 ∷ seq_of (suc q) (trees.turn_of lane_comes lane_works lane_leaves
            (suc q)) 0 ∷ lane_leaves q ∷ [])

  -- with its two sets
  abbrev set_tree : (inside : ℕ) → (pos_of : ℕ → ℕ) → (m : ℕ) → PlanTree
  set_tree inside pos_of m = scoped inside (sets_of (row_at (pos_of 0))) (lane_tree inside pos_of m)

  module _ (inside : ℕ) (pos_of : ℕ → ℕ) (m : ℕ) (below : (j : ℕ) → j < m → pos_of j < get_or l.counts k 0) where
    abbrev IsGood : Env → Context → Type 0
    IsGood = IsInside s at k inside seats path

    comes_are : Parts s l.starts pos_of m IsGood come_by (lane_comes inside pos_of m)
    comes_are env c good x j lt is = let row = piped.there k (pos_of j) (below j lt) in
        comes inside env c good x (pos_of j) is row.0 row.1 (j % 2)

    works_are : Parts s l.starts pos_of m IsGood work_by (lane_works inside pos_of m)
    works_are env c good x j lt is = let row = piped.there k (pos_of j) (below j lt) in
        works inside env c good x (pos_of j) is row.0 row.1 (j % 2)

    leaves_are : Parts s l.starts pos_of m IsGood leave_by (lane_leaves inside pos_of m)
    leaves_are env c good x j lt is = let row = piped.there k (pos_of j) (below j lt) in
        leaves inside env c good x (pos_of j) is row.0 row.1 (j % 2)

    lane_same : (env : Env) (c : Context) → IsGood env c → (lane : Lane) → IsLane s env.turns lane pos_of m
        → written s (lane_term l.starts lane c come_by work_by leave_by) env ≡ lane_tree inside pos_of m
    lane_same = lane_is s l.starts pos_of m IsGood (inside_turn s at k inside seats path) come_by work_by leave_by
        (lane_comes inside pos_of m) (lane_works inside pos_of m) (lane_leaves inside pos_of m) comes_are works_are
        leaves_are (λ j. clean_par_all (map come_in (args_of inside (j % 2) (row_at (pos_of j)))))

    -- where there is an iteration
    sets_are : 0 < m → both_sets ≡ sets_of (row_at (pos_of 0))
    sets_are some =
        let row = piped.there k (pos_of 0) (below 0 some) in
        let q = first_row l.rows (get_or l.starts k 0 + pos_of 0) row.0 row.1 in
        let form : q.0.form ≡ row.0.form = piped.form 0 (get_or l.starts k 0 + pos_of 0) q.0 row.0 q.1 row.1 in
        let heads = heads_each (piped.heads (get_or l.starts k 0 + pos_of 0) 0 row.0 q.0 row.1 q.1) in
        let hs = (homes row.0.form).params in
        ap (λ (o : Option CallInstance). set_buffers_from 0 (homes (row_form o)).params 0 (row_args o)
        ++ set_buffers_from 1 (homes (row_form o)).params 0 (row_args o)) q.1
        ∙ ap (λ (f : ℕ). set_buffers_from 0 (homes f).params 0 q.0.args
        ++ set_buffers_from 1 (homes f).params 0 q.0.args) form
        ∙ ap₂ (λ u v. u ++ v) (buffers_in_set 0 None (bodies row.0.form).arrays hs 0 heads)
        (buffers_in_set 1 None (bodies row.0.form).arrays hs 0 heads)
        ∙ ap sets_of (sym row.1)

    scope_same : scoped inside both_sets (lane_tree inside pos_of m) ≡ set_tree inside pos_of m
    scope_same = go m refl
      where
        go : (q : ℕ) → m ≡ q → scoped inside both_sets (lane_tree inside pos_of m) ≡ set_tree inside pos_of m
        go zero e =
            ap (λ (q : ℕ). scoped inside both_sets (pipeline (lane_comes inside pos_of m) (lane_works inside pos_of m)
            (lane_leaves inside pos_of m) q)) e
            ∙ nothing_scoped inside both_sets ∙ sym (nothing_scoped inside (sets_of (row_at (pos_of 0))))
            ∙ ap (λ (q : ℕ). scoped inside (sets_of (row_at (pos_of 0))) (pipeline (lane_comes inside pos_of m)
            (lane_works inside pos_of m) (lane_leaves inside pos_of m) q)) (sym e)
        go (suc q) e = ap (λ (bs : List ℕ). scoped inside bs (lane_tree inside pos_of m)) (sets_are (omega (arith, e)))

    -- at a child
    within_same : (env : Env) (child : Option Num) (c : Context) → node_of (inside_of s env child) ≡ inside
        → IsGood (inside_of s env child) c → (lane : Lane) → IsLane s (inside_of s env child).turns lane pos_of m
        → written s (term.Within child both_sets (lane_term l.starts lane c come_by work_by leave_by)) env
        ≡ set_tree inside pos_of m
    within_same env child c node_is good lane is =
        ap (λ g. g env) (written_within s child both_sets (lane_term l.starts lane c come_by work_by leave_by))
        ∙ ap₂ (λ (z : ℕ) (w : PlanTree). scoped z both_sets w) node_is
        (lane_same (inside_of s env child) c good lane is)
        ∙ scope_same

  -- ---- all lanes

  abbrev calls : ℕ → PlacedCall
  calls t = row_call bodies homes laid_out (row_at t)

  abbrev bodies_of : ℕ → Placed
  bodies_of t = row_body bodies homes laid_out (row_at t)

  -- one after another, at the child that lower calls go to
  pub in_sequence : (c : Context) (env : Env) (inside : Bool) (node child : ℕ)
      → Stands s env at c inside false k node child seats path
      → written s (lanes_term None (count_num l.counts c) l.starts both_sets c
      come_by work_by leave_by) env
      ≡ trees.tree s (placed.Piped None (get_or l.counts k 0) calls bodies_of) node child seats path
  in_sequence c env inside node child h =
      within_same (s.child node child) (λ j. j) (get_or l.counts k 0) (λ j lt. lt) env c.child c
      (ap in_env.nodes ent.level_is ∙ ent.node_is)
      (goes_inside s env in_env at node child ent k c seats path h.ordinal h.views h.numbers)
      (whole_lane (count_num l.counts c))
      (subst (λ (ts : List ℕ). IsLane s ts (whole_lane (count_num l.counts c)) (λ j. j) (get_or l.counts k 0))
      (sym ent.turns) (record {
        first = 0;
        step = 1;
        first_is = constant s env.turns 0;
        step_is = constant s env.turns 1;
        many = counted s env.turns l.counts c k h.ordinal;
        item = λ j lt. omega arith;
      }))
    where
      in_env : Env
      in_env = inside_of s env c.child

      ent : Entered s env in_env at true node child
      ent = enters s env at node child true inside h.node_is h.goes

  -- the lane of a child, by the rule
  lane_of : (turns : List ℕ) (rule : SpreadRule) (count : Num) (m f d : ℕ) → d < f → IsNumber s turns count m
      → IsLane s (d ∷ f ∷ turns) (lane_at rule (lift 1 (lift 1 count)) (n.Index 1) (n.Index 0))
      (λ j. get_or (iterations_at rule m f d) j 0) (lane_many rule m f d)
  lane_of turns rule count m f d lt is = record {
    first = lane_first rule m f d;
    step = lane_step rule f;
    first_is = first_is rule;
    step_is = step_is rule;
    many = many rule;
    item = λ j k. sym (lane_item rule m f d j lt k);
  }
    where
      ts : List ℕ
      ts = d ∷ f ∷ turns

      counts : IsNumber s (d ∷ f ∷ turns) (lift 1 (lift 1 count)) m
      counts = lifted_is s (f ∷ turns) (lift 1 count) m d (lifted_is s turns count m f is)

      its : IsNumber s (d ∷ f ∷ turns) (n.Index 0) d
      its = index s (d ∷ f ∷ turns) 0

      all : IsNumber s (d ∷ f ∷ turns) (n.Index 1) f
      all = index s (d ∷ f ∷ turns) 1

      one : IsNumber s (d ∷ f ∷ turns) (n.Const (pos 1)) 1
      one = constant s (d ∷ f ∷ turns) 1

      less : IsNumber s (d ∷ f ∷ turns) (n.Sub (n.Index 1) (n.Const (pos 1))) (f - 1)
      less = difference s (d ∷ f ∷ turns) (n.Index 1) (n.Const (pos 1)) f 1 (f - 1) (omega (arith, lt)) all one

      start : (x : Num) (i : ℕ) → IsNumber s (d ∷ f ∷ turns) x i
          → IsNumber s (d ∷ f ∷ turns) (lane_start (lift 1 (lift 1 count)) (n.Index 1) x) ((i * m + (f - 1)) / f)
      start x i h = quotient s (d ∷ f ∷ turns) _ (n.Index 1) (i * m + (f - 1)) f
          (sum s (d ∷ f ∷ turns) _ _ (i * m) (f - 1)
          (product s (d ∷ f ∷ turns) x (lift 1 (lift 1 count)) i m h counts) less) all

      first_is : (r : SpreadRule) → IsNumber s (d ∷ f ∷ turns)
          (lane_at r (lift 1 (lift 1 count)) (n.Index 1) (n.Index 0)).first (lane_first r m f d)
      first_is Cyclic = its
      first_is Blocked = start (n.Index 0) d its

      step_is : (r : SpreadRule) → IsNumber s (d ∷ f ∷ turns)
          (lane_at r (lift 1 (lift 1 count)) (n.Index 1) (n.Index 0)).step (lane_step r f)
      step_is Cyclic = all
      step_is Blocked = one

      many : (r : SpreadRule) → IsNumber s (d ∷ f ∷ turns)
          (lane_at r (lift 1 (lift 1 count)) (n.Index 1) (n.Index 0)).many (lane_many r m f d)
      many Cyclic = quotient s (d ∷ f ∷ turns) _ (n.Index 1) (m + (f - 1) - d) f
          (difference s (d ∷ f ∷ turns) _ (n.Index 0) (m + (f - 1)) d (m + (f - 1) - d) (omega (arith, lt))
          (sum s (d ∷ f ∷ turns) (lift 1 (lift 1 count)) _ m (f - 1) counts less) its) all
      many Blocked =
          let rises = blocked_rises m f d (omega (arith, lt)) in
          difference s (d ∷ f ∷ turns) _ _ (((d + 1) * m + (f - 1)) / f) ((d * m + (f - 1)) / f)
          (lane_many Blocked m f d) (omega (arith, rises))
          (start (n.Add (n.Index 0) (n.Const (pos 1))) (d + 1)
          (sum s (d ∷ f ∷ turns) (n.Index 0) (n.Const (pos 1)) d 1 its one))
          (start (n.Index 0) d its)

  -- at all children beside one another
  pub in_spread : (place : Place) (rule : SpreadRule) (c : Context) (env : Env) (inside : Bool) (node child : ℕ)
      → env.level ≡ at → Stands s env at c inside false k node child seats path
      → written s (lanes_term (Some rule) (count_num l.counts c) l.starts both_sets c come_by work_by leave_by) env
      ≡ trees.tree s (placed.Piped (Some (place, rule)) (get_or l.counts k 0) calls bodies_of) node child seats path
  in_spread place rule c env inside node child level_is h =
      each_child_is s env (term.Within (Some (n.Index 0)) both_sets (lane_term l.starts lane
      (lift_context (lift_context c)) come_by work_by leave_by)) parts (s.children node) fan one_child
      (λ d. clean_scoped (s.child node d) (sets_of (row_at (items d 0)))
      (lane_tree (s.child node d) (items d) (length (its d)))
      (clean_lane (s.child node d) (items d) (length (its d))))
    where
      m : ℕ
      m = get_or l.counts k 0

      f : ℕ
      f = s.children node

      lane : Lane
      lane = lane_at rule (lift 1 (lift 1 (count_num l.counts c))) (n.Index 1) (n.Index 0)

      its : ℕ → List ℕ
      its d = iterations_at rule (get_or l.counts k 0) (s.children node) d

      items : ℕ → ℕ → ℕ
      items d j = get_or (its d) j 0

      parts : ℕ → PlanTree
      parts d = set_tree (s.child node d) (items d) (length (its d))

      fan : s.children (node_of env) ≡ s.children node
      fan = ap s.children (ap env.nodes level_is ∙ h.node_is)

      one_child : (d : ℕ) → d < s.children node
          → written s (term.Within (Some (n.Index 0)) both_sets (lane_term l.starts lane (lift_context (lift_context c))
          come_by work_by leave_by)) (at_turn (at_turn env (s.children node)) d) ≡ parts d
      one_child d lt =
          within_same (s.child node d) (items d) (length (its d))
          (λ j k. let q = subst (λ (z : ℕ). j < z) long k in
          subst (λ (z : ℕ). z < m) (sym (lane_item rule m f d j lt q)) (lane_below rule m f d j lt q))
          turned (Some (n.Index 0)) (lift_context (lift_context c)) (ap in_env.nodes ent.level_is ∙ ent.node_is)
          (goes_inside s turned in_env at node d ent k (lift_context (lift_context c)) seats path
          (lifted_is s (f ∷ env.turns) (lift 1 c.ordinal) k d (lifted_is s env.turns c.ordinal k f h.ordinal))
          (each_left (IsSeat s (at_turn env f) at) (IsSeat s turned at) lift_view (lift_seat s (at_turn env f) at d)
          (each_left (IsSeat s env at) (IsSeat s (at_turn env f) at) lift_view (lift_seat s env at f) h.views))
          (each_left (IsNumber s (f ∷ env.turns)) (IsNumber s (d ∷ f ∷ env.turns)) (lift 1)
          (λ x v g. lifted_is s (f ∷ env.turns) x v d g)
          (each_left (IsNumber s env.turns) (IsNumber s (f ∷ env.turns)) (lift 1)
          (λ x v g. lifted_is s env.turns x v f g) h.numbers)))
          lane
          (subst (λ (z : ℕ). IsLane s (d ∷ f ∷ env.turns) lane (items d) z) (sym long)
          (lane_of env.turns rule (count_num l.counts c) m f d lt (counted s env.turns l.counts c k h.ordinal)))
        where
          turned : Env
          turned = at_turn (at_turn env (s.children node)) d

          in_env : Env
          in_env = inside_of s (at_turn (at_turn env (s.children node)) d) (Some (n.Index 0))

          long : length (its d) ≡ lane_many rule m f d
          long = lane_length rule m f d lt

          ent : Entered s turned in_env at true node d
          ent = enters s turned at node d true false h.node_is
              (to_child (n.Index 0) level_is (index_is s turned 0))

  -- by the kind of the loop
  pub lanes_same : (place : Place) (m : LoopKind) (spread lane : Option SpreadRule) → lanes_of m spread ≡ Some lane
      → (c : Context) (env : Env) (inside : Bool) (node child : ℕ)
      → ((rule : SpreadRule) → spread ≡ Some rule → env.level ≡ at)
      → Stands s env at c inside false k node child seats path
      → written s (lanes_term lane (count_num l.counts c) l.starts both_sets c come_by work_by leave_by) env
      ≡ trees.tree s (placed.Piped (placed_rule place lane) (get_or l.counts k 0) calls bodies_of) node child seats path
  lanes_same place m spread None e c env inside node child level_is h = in_sequence c env inside node child h
  lanes_same place loop_kind.Sequential spread (Some rule) e c env inside node child level_is h = cc
  lanes_same place loop_kind.Parallel None (Some rule) e c env inside node child level_is h = cc
  lanes_same place loop_kind.Parallel (Some other) (Some rule) e c env inside node child level_is h
      = in_spread place rule c env inside node child (level_is other refl) h
  lanes_same place (loop_kind.Reduction r) spread (Some rule) e c env inside node child level_is h = cc
