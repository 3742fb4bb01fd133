-- A built term is well formed: its numbers have their values where they are met, and its scopes name what is there.
use Rattle.std.proofs.Common.{◌≡◌, ℕ, zero, suc, ◌+◌, ◌*◌, ◌/◌, ◌%◌, ◌<◌, ◌≤◌, ◌==◌, ◌≤ℤ◌, ℤ, pos, Bool, true, false}
use Rattle.std.proofs.Common.{not, ◌||◌, is_some, List, [], ◌∷◌, ◌++◌, map, length, get_or, slice_get, drop, Option, Some}
use Rattle.std.proofs.Common.{None, refl, sym, ap, subst, ◌∙◌, arith, if◌then◌else◌}
use Rattle.std.proofs.lemmas.Bool.Decides.{nat_tests}
use Rattle.std.proofs.Math.Nat.{mod-lt, div-lt_iff_lt-mul, mul_comm, mul-lt-mul_of_pos_right}
use Rattle.std.specs.List.{All}
use Rattle.std.specs.Prelude.{nat_abs}
use Rattle.sq_num.specs.declared.RedOp.{RedOp}
use Rattle.sq_num.specs.declared.Elem.TheVariants.{Long}
use Rattle.sq_num.specs.Elements.{IsValue}
use Rattle.sq_text.specs.declared.spread.SpreadRule.{SpreadRule}
use Rattle.sq_text.specs.declared.spread.SpreadRule.TheVariants.{Cyclic, Blocked}
use Rattle.sq_rect.specs.Extents.{rows_of}
use Rattle.sq_ast.specs.declared.program.Mode.{Mode}
use Rattle.sq_ast.specs.declared.program.Mode.TheVariants.{Input, Output, Both}
use Rattle.sq_ir.specs.Leaf.declared.shape.Shape.{Shape}
use Rattle.sq_ir.specs.Lifting.{lift}
use Rattle.sq_ir.specs.Written.{Setting, Env, value_of, count_of, at_turn, node_of, inside_of}
use Rattle.sq_ir.proofs.LiftOnce.{lift_one}
use Rattle.sq_term_laws.proofs.LiftHas.{lift_has}
use Rattle.sq_ir.specs.Plans.{HasValue, IsChild, IsBuffer, AskedOfActions, each_part, Meets}
use Rattle.sq_ir.specs.declared.num.Num.{Num}
use Rattle.sq_ir.specs.declared.num.Num.TheVariants as n
use Rattle.sq_ir.specs.declared.term.Action.{Action}
use Rattle.sq_ir.specs.declared.term.LeafView.{LeafView}
use Rattle.sq_ir.specs.declared.term.Term.{Term}
use Rattle.sq_ir.specs.declared.term.Term.TheVariants as term
use Rattle.sq_blocks.specs.declared.argument.Argument.{Argument}
use Rattle.sq_spec.specs.declared.statement.CallInstance.{CallInstance}
use Rattle.sq_placed.specs.declared.home.Home.{Home}
use Rattle.sq_placed.specs.declared.home.Home.TheVariants.{InPlace, Own, Held, Twin}
use Rattle.sq_term.specs.declared.context.Context.{Context}
use Rattle.sq_term.specs.declared.context.Move.{Move}
use Rattle.sq_placed.specs.Seats.{cons_some}
use Rattle.sq_placed.specs.Trees.{is_moved, is_held, buffer_of, held_of, twin_of, local_buffers}
use Rattle.sq_placed.specs.Tables.{no_shape, placed_locals}
use Rattle.sq_term.specs.Terms.{numbers, child_in, in_map, by_rows, clear_term, copy_in_term, copy_out_term}
use Rattle.sq_term.specs.Terms.{bring_term_by, bring_term, back_term_by, back_term, hold_in_term_by, hold_in_term}
use Rattle.sq_term.specs.Terms.{hold_out_term_by, hold_out_term, local_view, offsets, own_view, move_of, moves_from}
use Rattle.sq_term.specs.Terms.{buffers_from, set_buffers_from, held_move, held_moves, leaving_buffers}
use Rattle.sq_term.specs.Terms.{come_in_term, fill_held_term}
use Rattle.sq_term.specs.Stands.{IsNumber, IsOf, AreOf, LocalsOf, below}
use Rattle.sq_term_laws.specs.Fits.{Bounds, AreBounds, IsMachine, IsThere, AreThere, LocalsThere, HaveRows, Way}
use Rattle.sq_term_laws.specs.Fits.{to_child, entered, Fits}
use Rattle.sq_term.proofs.Numbers.{const_is, index_is, mul_is, div_is, rem_is, children_is, lifted_is, turn, sum}
use Rattle.sq_term.proofs.Numbers.{picked}
use Rattle.sq_term.proofs.Maps.{MayBe}
use Rattle.sq_term_laws.proofs.Fine.{less_fits, zero_fits, const_has, add_has, mul_has, div_has, rem_has, pick_has}
use Rattle.sq_term_laws.proofs.Fine.{turn_has, children_has, has_lifted, count_is, fine_skip, fine_act, fine_loop}

-- nothing is asked of actions
abbrev pub Nothing : AskedOfActions
Nothing env bs a = Unit {0}

abbrev pub Fine : Setting → Term → Env → List ℕ → Type 0
Fine s x env bs = Meets s Nothing x env bs

-- ---- lists

pub all_none : {X : Type 0} (P : X → Type 0) → All P []
all_none P k d l = absurd (omega (arith, l))

pub all_more : {X : Type 0} (P : X → Type 0) (x : X) (xs : List X) → P x → All P xs → All P (x ∷ xs)
all_more P x xs h g zero d l = h
all_more P x xs h g (suc k) d l = g k d (omega (arith, l))

pub all_append : {X : Type 0} (P : X → Type 0) (xs ys : List X) → All P xs → All P ys → All P (xs ++ ys)
all_append P [] ys h g = g
all_append P (x ∷ xs) ys h g =
    all_more P x (xs ++ ys) (h 0 x (omega arith)) (all_append P xs ys (λ k d l. h (suc k) d (omega (arith, l))) g)

-- ---- rows

abbrev pub IsRowed : Move → Type 0
IsRowed m = IsValue Long (pos (rows_of m.own.extents))

pub row_of : (xs : List Shape) → HaveRows xs → (i : ℕ) → IsValue Long (pos 1)
    → IsValue Long (pos (rows_of (get_or xs i no_shape).extents))
row_of [] h i one = one
row_of (x ∷ xs) h zero one = h.0
row_of (x ∷ xs) h (suc i) one = row_of xs h.1 i one

pub rows_dropped : (k : ℕ) (xs : List Shape) → HaveRows xs → HaveRows (drop k xs)
rows_dropped zero xs h = h
rows_dropped (suc k) [] h = tt
rows_dropped (suc k) (x ∷ xs) h = rows_dropped k xs h.1

own_rows : (shape : Shape) (h : Home) (v : LeafView) → v.extents ≡ shape.extents → (own_view shape h v).extents
    ≡ shape.extents
own_rows shape InPlace v e = e
own_rows shape (Own b) v e = refl
own_rows shape (Held b loops) v e = refl
own_rows shape (Twin b c) v e = refl

module _ (s : Setting) (env : Env) (bs : List ℕ) where
  pub rows_fine : (extents : List ℕ) (x : Action) → IsValue Long (pos (rows_of extents))
      → Fine s (by_rows extents x) env bs
  rows_fine extents x h = fine_loop s Nothing env bs (n.Const (pos (rows_of extents))) (rows_of extents) (term.Act x)
      (const_is s env (pos (rows_of extents)))
      (const_has s env (pos (rows_of extents)) h) (λ t l. fine_act s Nothing (at_turn env t) bs x tt)

  if_fine : (b : Bool) (x : Term) → Fine s x env bs → Fine s (if b then x else term.Skip) env bs
  if_fine true x h = h
  if_fine false x h = fine_skip s Nothing env bs

  pub bring_fine : (m : Move) → IsRowed m → Fine s (bring_term m) env bs
  bring_fine m h = go m.gathers m.mode
    where
      go : (o : Option RedOp) (k : Mode) → Fine s (bring_term_by o k m) env bs
      go (Some op) k = rows_fine m.own.extents _ h
      go None Input = if_fine (is_moved m.home) (copy_in_term m) (rows_fine m.own.extents _ h)
      go None Output = rows_fine m.own.extents _ h
      go None Both = if_fine (is_moved m.home) (copy_in_term m) (rows_fine m.own.extents _ h)

  pub back_fine : (m : Move) → IsRowed m → Fine s (back_term m) env bs
  back_fine m h = go m.gathers m.mode
    where
      go : (o : Option RedOp) (k : Mode) → Fine s (back_term_by o k m) env bs
      go (Some op) k = rows_fine m.own.extents _ h
      go None Input = fine_skip s Nothing env bs
      go None Output = if_fine (is_moved m.home) (copy_out_term m) (rows_fine m.own.extents _ h)
      go None Both = if_fine (is_moved m.home) (copy_out_term m) (rows_fine m.own.extents _ h)

  pub come_fine : (m : Move) → IsRowed m → Fine s (come_in_term m) env bs
  come_fine m h = go (is_held m.home)
    where
      go : (b : Bool) → Fine s (if b then term.Skip else bring_term m) env bs
      go true = fine_skip s Nothing env bs
      go false = bring_fine m h

  pub fill_fine : (m : Move) → IsRowed m → Fine s (fill_held_term m) env bs
  fill_fine m h = if_fine (is_held m.home) (bring_term m) (bring_fine m h)

  pub hold_in_fine : (m : Move) → IsRowed m → Fine s (hold_in_term m) env bs
  hold_in_fine m h = go m.mode
    where
      go : (k : Mode) → Fine s (hold_in_term_by k m) env bs
      go Input = rows_fine m.own.extents _ h
      go Output = fine_skip s Nothing env bs
      go Both = rows_fine m.own.extents _ h

  pub hold_out_fine : (m : Move) → IsRowed m → Fine s (hold_out_term m) env bs
  hold_out_fine m h = go m.mode
    where
      go : (k : Mode) → Fine s (hold_out_term_by k m) env bs
      go Input = fine_skip s Nothing env bs
      go Output = rows_fine m.own.extents _ h
      go Both = rows_fine m.own.extents _ h

  pub clears_fine : (shapes : List Shape) (locals : List ℕ) → HaveRows shapes
      → each_part (Meets s Nothing) (map (λ k. clear_term (local_view k)) (placed_locals shapes locals)) env bs
  clears_fine [] locals h = tt
  clears_fine (x ∷ shapes) [] h = tt
  clears_fine (x ∷ shapes) (b ∷ locals) h = (rows_fine x.extents _ h.0, clears_fine shapes locals h.1)

-- ---- the arguments of a call

pub moves_rowed : (op : Option RedOp) (shapes : List Shape) (hs : List Home) (c : Context) (times : List CallInstance)
    (i : ℕ) (args : List Argument) → HaveRows shapes → IsValue Long (pos 1)
    → All IsRowed (moves_from op shapes hs c times i args)
moves_rowed op shapes hs c times i [] h one = all_none IsRowed
moves_rowed op shapes hs c times i (a ∷ rest) h one
    = go (slice_get c.views a.array) (moves_from op shapes hs c times (suc i) rest)
    (moves_rowed op shapes hs c times (suc i) rest h one)
  where
    shape : Shape
    shape = get_or shapes i no_shape

    go : (o : Option LeafView) (ms : List Move) → All IsRowed ms
        → All IsRowed (cons_some (move_of op shape (get_or hs i InPlace) a (offsets c.views times i) c.ordinal) o ms)
    go None ms g = g
    go (Some v) ms g = all_more IsRowed _ ms
        (subst (λ (e : List ℕ). IsValue Long (pos (rows_of e))) (sym (own_rows shape (get_or hs i InPlace) _ refl))
        (row_of shapes h i one)) g

pub held_rowed : (shapes : List Shape) (hs : List Home) (views : List LeafView) (times : List CallInstance)
    (number : Num) (ps : List (ℕ × Argument)) → HaveRows shapes → IsValue Long (pos 1)
    → All IsRowed (held_moves shapes hs views times number ps)
held_rowed shapes hs views times number [] h one = all_none IsRowed
held_rowed shapes hs views times number (p ∷ ps) h one
    = go (slice_get views p.1.array) (held_moves shapes hs views times number ps)
    (held_rowed shapes hs views times number ps h one)
  where
    shape : Shape
    shape = get_or shapes p.0 no_shape

    go : (o : Option LeafView) (ms : List Move) → All IsRowed ms
        → All IsRowed (cons_some (held_move shape (get_or hs p.0 InPlace) times number p.0 p.1) o ms)
    go None ms g = g
    go (Some v) ms g = all_more IsRowed _ ms
        (subst (λ (e : List ℕ). IsValue Long (pos (rows_of e))) (sym (own_rows shape (get_or hs p.0 InPlace) _ refl))
        (row_of shapes h p.0 one)) g

-- ---- the buffers of scopes

module _ (s : Setting) (level : ℕ) where
  home_of : (hs : List Home) → AreOf s level hs → AreThere s hs → (i : ℕ) → IsOf s level (get_or hs i InPlace)
      × IsThere s (get_or hs i InPlace)
  home_of [] o t i = (tt, tt)
  home_of (h ∷ hs) o t zero = (o.0, t.0)
  home_of (h ∷ hs) o t (suc i) = home_of hs o.1 t.1 i

  with_home : (h : Home) (more : List ℕ) → IsOf s level h → IsThere s h → All (IsBuffer s level) more
      → All (IsBuffer s level) (buffer_of h more)
  with_home InPlace more o t g = g
  with_home (Own b) more o t g = all_more (IsBuffer s level) b more (record { there = t; level = o }) g
  with_home (Held b loops) more o t g = g
  with_home (Twin b c) more o t g = g

  with_held : (h : Home) (more : List ℕ) → IsOf s level h → IsThere s h → All (IsBuffer s level) more
      → All (IsBuffer s level) (held_of h more)
  with_held InPlace more o t g = g
  with_held (Own b) more o t g = g
  with_held (Held b loops) more o t g = all_more (IsBuffer s level) b more (record { there = t; level = o }) g
  with_held (Twin b c) more o t g = g

  with_twin : (set : ℕ) (h : Home) (more : List ℕ) → IsOf s level h → IsThere s h → All (IsBuffer s level) more
      → All (IsBuffer s level) (twin_of set h more)
  with_twin set InPlace more o t g = g
  with_twin set (Own b) more o t g = g
  with_twin set (Held b loops) more o t g = g
  with_twin zero (Twin b c) more o t g = all_more (IsBuffer s level) b more (record { there = t.0; level = o.0 }) g
  with_twin (suc k) (Twin b c) more o t g = all_more (IsBuffer s level) c more (record { there = t.1; level = o.1 }) g

  -- of both sets
  pub set_there : (set : ℕ) (hs : List Home) → AreOf s level hs → AreThere s hs → (i : ℕ) (args : List Argument)
      → All (IsBuffer s level) (set_buffers_from set hs i args)
  set_there set hs o t i [] = all_none (IsBuffer s level)
  set_there set hs o t i (a ∷ rest) = let h
      = home_of hs o t i in with_twin set (get_or hs i InPlace) (set_buffers_from set hs (suc i) rest) h.0 h.1
      (set_there set hs o t (suc i) rest)

  pub call_there : (hs : List Home) → AreOf s level hs → AreThere s hs → (i : ℕ) (args : List Argument)
      → All (IsBuffer s level) (buffers_from hs i args)
  call_there hs o t i [] = all_none (IsBuffer s level)
  call_there hs o t i (a ∷ rest) = let h
      = home_of hs o t i in with_home (get_or hs i InPlace) (buffers_from hs (suc i) rest) h.0 h.1
      (call_there hs o t (suc i) rest)

  pub leaving_there : (hs : List Home) → AreOf s level hs → AreThere s hs → (ps : List (ℕ × Argument))
      → All (IsBuffer s level) (leaving_buffers hs ps)
  leaving_there hs o t [] = all_none (IsBuffer s level)
  leaving_there hs o t (p ∷ ps) = let h
      = home_of hs o t p.0 in with_held (get_or hs p.0 InPlace) (leaving_buffers hs ps) h.0 h.1
      (leaving_there hs o t ps)

  pub kept_there : (shapes : List Shape) (bs : List ℕ) → LocalsOf s level bs → LocalsThere s bs
      → All (IsBuffer s level) (local_buffers (placed_locals shapes bs))
  kept_there [] bs o t = all_none (IsBuffer s level)
  kept_there (x ∷ shapes) [] o t = all_none (IsBuffer s level)
  kept_there (x ∷ shapes) (b ∷ bs) o t
      = all_more (IsBuffer s level) b (local_buffers (placed_locals shapes bs)) (record { there = t.0; level = o.0 })
      (kept_there shapes bs o.1 t.1)

-- ---- products

pub le_times : (a b : ℕ) → 1 ≤ b → a ≤ a * b
le_times zero b h = omega arith
le_times (suc a) b h = let r = le_times a b h in let e : suc a * b ≡ b + a * b = omega arith in omega (arith, r, h, e)

pub times_le : (a b c d : ℕ) → a ≤ c → b ≤ d → a * b ≤ c * d
times_le zero b c d h g = omega arith
times_le (suc a) b zero d h g = absurd (omega (arith, h))
times_le (suc a) b (suc c) d h g = let r = times_le a b c d (omega (arith, h)) g in let e : suc a * b ≡ b + a * b
    = omega arith in let f : suc c * d ≡ d + c * d = omega arith in omega (arith, r, g, e, f)

-- the child of a spread map's iteration by blocks
blocked_below : (m f t : ℕ) → 1 ≤ f → t < m → t * f / m < f
blocked_below m f t some lt = (div-lt_iff_lt-mul (omega (arith, lt))).1
    (subst (λ x. t * f < x) (mul_comm m f) (mul-lt-mul_of_pos_right lt some))

-- ---- contexts

or_right : (a b : Bool) → a ≡ true → (a || b) ≡ true
or_right true b h = refl
or_right false b h = cc

module _ (s : Setting) (most : Bounds) (bounds : AreBounds most) (last : ℕ) (is_at : ℕ → ℕ → Type 0)
    (machine : IsMachine s most last is_at) where
  pub uses_fit : (k : ℕ) → k ≤ most.uses → IsValue Long (pos k)
  uses_fit k l = let r = le_times (suc most.uses) (suc most.children) (omega arith) in
      less_fits k (suc most.uses * suc most.children) (omega (arith, l, r)) bounds.fits

  product_fits : (t c : ℕ) → t ≤ most.uses → c ≤ most.children → IsValue Long (pos (t * c))
  product_fits t c h g = less_fits (t * c) (suc most.uses * suc most.children)
      (times_le t c (suc most.uses) (suc most.children) (omega (arith, h)) (omega (arith, g))) bounds.fits

  -- where a callee stands
  pub record Inside (env : Env) (level : ℕ) : Type 0 where
    pub level_is : env.level ≡ level
    pub here : is_at env.level (node_of env)

  pub goes_in : (env : Env) (level : ℕ) (lower inside : Bool) {o : Option Num} → is_at env.level (node_of env)
      → (lower ≡ true → level < last) → Way s env last level inside (not lower) o
      → Inside (inside_of s env (if lower then o else None)) (below lower level)
      × IsChild s env (if lower then o else None)
  goes_in env level false inside here low (to_child k is ok) = (record { level_is = is; here = here }, tt)
  goes_in env level false inside here low (entered is i same) = cc
  goes_in env level true inside here low (entered is i same) = (record { level_is = is; here = here }, tt)
  goes_in env level true inside here low (to_child k is ok) = let h
      = ok (low refl) in (record { level_is = ap suc is; here = at_it h.1 }, h)
    where
      at_it : count_of s k env < s.children (node_of env)
          → is_at (suc env.level) (if suc env.level == suc env.level then s.child (node_of env) (count_of s k env) else
          env.nodes (suc env.level))
      at_it l = go (suc env.level == suc env.level) refl
        where
          go : (b : Bool) → (suc env.level == suc env.level) ≡ b
              → is_at (suc env.level) (if b then s.child (node_of env) (count_of s k env) else env.nodes
              (suc env.level))
          go true e = machine.below env.level (node_of env) (count_of s k env) here l
          go false e = absurd (grind (arith, nat_tests, e))

  -- a callee's first number, and its first child
  pub begins : (env : Env) (level : ℕ) → Inside env level → Way s env last level false true (Some (n.Const (pos 0)))
  begins env level i = to_child (n.Const (pos 0)) i.level_is (λ l.
      let v = const_is s env (pos 0) in
      let some = machine.some env.level (node_of env) i.here (let e = i.level_is in omega (arith, l, e)) in (
        count_is s env (n.Const (pos 0)) 0 v (const_has s env (pos 0) zero_fits),
        subst
            (λ (z : ℤ). nat_abs z < s.children (node_of env)) (sym v) some,
      ))

  -- ---- one iteration

  module _ (env : Env) (level : ℕ) (inside same : Bool) (here : is_at env.level (node_of env)) (count : Num) (m : ℕ)
      (counted : value_of s count env ≡ pos m) (small : m ≤ most.uses) (has : HasValue s count env) (t : ℕ)
      (turned : t < m) where
    few : IsValue Long (pos (s.children (node_of env)))
    few = let g = machine.few env.level (node_of env) here in let r = le_times most.children most.uses in
        product_one (s.children (node_of env)) g
      where
        product_one : (c : ℕ) → c ≤ most.children → IsValue Long (pos c)
        product_one c g = let z : 1 * c ≡ c
            = omega arith in subst (λ (x : ℕ). IsValue Long (pos x)) z
            (product_fits 1 c (omega (arith, turned, small)) g)

    turn_fits : IsValue Long (pos t)
    turn_fits = uses_fit t (omega (arith, turned, small))

    at : HasValue s (n.Index 0) (at_turn env t)
    at = turn_has s env t turn_fits

    some : level < last → env.level ≡ level → 1 ≤ s.children (node_of env)
    some l is = machine.some env.level (node_of env) here (omega (arith, l, is))

    is_child : (x : Num) (c : ℕ) → value_of s x (at_turn env t) ≡ pos c → HasValue s x (at_turn env t) → c
        < s.children (node_of env) → IsChild s (at_turn env t) (Some x)
    is_child x c v h l = (
      count_is s (at_turn env t) x c v h,
      subst (λ (z : ℤ). nat_abs z < s.children (node_of env))
          (sym v) l,
    )

    goes_on : (spread : Option SpreadRule) → MayBe spread inside → {o : Option Num} → Way s env last level inside same o
        → Way s (at_turn env t) last level (inside || is_some spread) same (child_in spread count o)
    goes_on None may (to_child k is ok) = to_child (lift 1 k) is (λ l. let h = ok l in (
      record {
        has = lift_has s t k env h.0.has;
        natural
            = subst (λ z. pos 0 ≤ℤ z) (sym (lift_one s t k env)) h.0.natural;
      },
      subst (λ (z : ℤ). nat_abs z < s.children (node_of env)) (sym (lift_one s t k env)) h.1,
    ))
    goes_on None may (entered is i alone) = entered is (or_right inside false i) alone
    goes_on (Some rule) may (entered is i alone) = let z = may.free rule refl in let f : ⊥ = cc in absurd f
    goes_on (Some Cyclic) may (to_child k is ok) = to_child _ is (λ l.
        is_child (n.Rem (n.Index 0) n.Children) (t % s.children (node_of env))
        (rem_is s (at_turn env t) (n.Index 0) n.Children t (s.children (node_of env)) (index_is s (at_turn env t) 0)
        (children_is s (at_turn env t)))
        (rem_has s (at_turn env t) (n.Index 0) n.Children (s.children (node_of env)) (children_is s (at_turn env t)) at
        (children_has s (at_turn env t) few) (some l is))
        (mod-lt t (some l is)))
    goes_on (Some Blocked) may (to_child k is ok) = to_child _ is (λ l.
        let v = mul_is s (at_turn env t) (n.Index 0) n.Children t (s.children (node_of env))
        (index_is s (at_turn env t) 0) (children_is s (at_turn env t)) in
        let w = lift_one s t count env ∙ counted in
        let low = blocked_below m (s.children (node_of env)) t (some l is) turned in
        is_child (n.Div (n.Mul (n.Index 0) n.Children) (lift 1 count)) (t * s.children (node_of env) / m)
        (div_is s (at_turn env t) (n.Mul (n.Index 0) n.Children) (lift 1 count) (t * s.children (node_of env)) m v w)
        (div_has s (at_turn env t) (n.Mul (n.Index 0) n.Children) (lift 1 count) (t * s.children (node_of env)) m v w
        (mul_has s (at_turn env t) (n.Index 0) n.Children t (s.children (node_of env)) (index_is s (at_turn env t) 0)
        (children_is s (at_turn env t)) at (children_has s (at_turn env t) few)
        (product_fits t (s.children (node_of env)) (omega (arith, turned, small))
        (machine.few env.level (node_of env) here)))
        (lift_has s t count env has) (omega (arith, turned))
        (less_fits _ (s.children (node_of env)) (omega (arith, low)) few))
        low)

  pub in_turn : (env : Env) (level : ℕ) (c : Context) (inside same : Bool) (k : ℕ) (spread : Option SpreadRule)
      → MayBe spread inside → (count : Num) (m : ℕ) → value_of s count env ≡ pos m → m ≤ most.uses
      → HasValue s count env
      → (starts : List ℕ) (inner t : ℕ) → t < m → inner ≤ most.uses → get_or starts k 0 + t < inner → k < length starts
      → Fits s last is_at env level c inside same k
      → Fits s last is_at (at_turn env t) level (in_map spread count starts c) (inside || is_some spread) same
      (get_or starts k 0 + t)
  in_turn env level c inside same k spread may count m counted small has starts inner t turned fit_inner sum_is within h
      = record {
        ordinal = sum s (t ∷ env.turns) (n.Pick (numbers starts) (lift 1 c.ordinal)) (n.Index 0) (get_or starts k 0) t
            (picked s (t ∷ env.turns) starts (lift 1 c.ordinal) k before) (turn s env.turns t);
        has = record {
          has = λ l nodes.
              let e : Env = record { turns = t ∷ env.turns; level = l; nodes = nodes } in
              add_has s e (n.Pick (numbers starts) (lift 1 c.ordinal)) (n.Index 0) (get_or starts k 0) t
              ((picked s (t ∷ env.turns) starts (lift 1 c.ordinal) k before).value l nodes)
              ((turn s env.turns t).value l nodes)
              (pick_has s e starts (lift 1 c.ordinal) k (before.value l nodes)
              ((has_lifted s env.turns c.ordinal t h.has).has l nodes) within
              (uses_fit (get_or starts k 0) (omega (arith, sum_is, fit_inner))))
              (turn_has s (record { turns = env.turns; level = l; nodes = nodes }) t
              (uses_fit t (omega (arith, turned, small))))
              (uses_fit (get_or starts k 0 + t) (omega (arith, sum_is, fit_inner)));
        };
        way = goes_on env level inside same h.here count m counted small has t turned spread may h.way;
        here = h.here;
      }
    where
      before : IsNumber s (t ∷ env.turns) (lift 1 c.ordinal) k
      before = lifted_is s env.turns c.ordinal k t h.ordinal

-- fewer statements
pub narrow : (s : Setting) (last : ℕ) (is_at : ℕ → ℕ → Type 0) (env : Env) (level : ℕ) (c : Context)
    (inside same less : Bool) (k : ℕ) → (same ≡ false → less ≡ false)
    → Fits s last is_at env level c inside same k → Fits s last is_at env level c inside less k
narrow s last is_at env level c inside same less k f h
    = record { ordinal = h.ordinal; has = h.has; way = go h.way; here = h.here }
  where
    go : {o : Option Num} → Way s env last level inside same o → Way s env last level inside less o
    go (to_child x is ok) = to_child x is ok
    go (entered is i alone) = entered is i (f alone)
