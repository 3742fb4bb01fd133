-- The arguments of a call and the arrays of a callee stand in buffers in scope, and rows that are moved have bytes.
use Rattle.std.proofs.Common.{◌≡◌, ℕ, zero, suc, ◌+◌, ◌*◌, ◌<◌, ◌≤◌, ℤ, pos, Bool, true, false, List, [], ◌∷◌}
use Rattle.std.proofs.Common.{map, length, get_or, slice_get, Option, Some, None, refl, sym, ap, subst, ◌∙◌, arith}
use Rattle.std.proofs.Common.{Contains, if◌then◌else◌}
use Rattle.sq_num.specs.declared.Elem.{Elem}
use Rattle.sq_num.specs.declared.Elem.TheVariants.{Byte, Int, Long}
use Rattle.sq_num.specs.declared.RedOp.{RedOp}
use Rattle.sq_num.specs.Elements.{width}
use Rattle.sq_num.specs.Reductions.{identity}
use Rattle.sq_rect.specs.Extents.{last_of, rows_of}
use Rattle.sq_ast.specs.declared.program.Mode.{Mode}
use Rattle.sq_ast.specs.declared.program.Mode.TheVariants.{Input, Output, Both}
use Rattle.sq_leaf.specs.declared.shape.Shape.{Shape}
use Rattle.sq_leaf.specs.Leaf.{Leaf as LeafSource}
use Rattle.sq_ir.specs.Written.{Setting, Env}
use Rattle.sq_ir.specs.Plans.{AskedOfActions}
use Rattle.sq_ir.specs.declared.num.Num.TheVariants as n
use Rattle.sq_ir.specs.declared.term.LeafView.{LeafView}
use Rattle.sq_ir.specs.declared.term.Action.{Action}
use Rattle.sq_ir.specs.declared.term.Action.TheVariants as action
use Rattle.sq_ir.specs.declared.term.Term.{Term}
use Rattle.sq_ir.specs.declared.term.Term.TheVariants as term
use Rattle.sq_blocks.specs.declared.argument.Argument.{Argument}
use Rattle.sq_spec.specs.declared.statement.CallInstance.{CallInstance}
use Rattle.sq_spec.specs.declared.body.Body.TheVariants as body
use Rattle.sq_spec.specs.declared.body.FormBody.{FormBody}
use Rattle.sq_placed.specs.declared.home.Home.{Home}
use Rattle.sq_placed.specs.declared.home.Home.TheVariants.{InPlace, Own, Held, Twin}
use Rattle.sq_placed.specs.Seats.{cons_some}
use Rattle.sq_placed.specs.Tables.{no_shape, placed_locals}
use Rattle.sq_placed.specs.Trees.{is_moved, is_held, buffer_of, local_buffers}
use Rattle.sq_term.specs.declared.context.Context.{Context}
use Rattle.sq_term.specs.declared.context.Move.{Move}
use Rattle.sq_term.specs.Terms.{by_rows, copy_term, fill_term, add_term, clear_term, copy_in_term, copy_out_term}
use Rattle.sq_term.specs.Terms.{bring_term_by, bring_term, back_term_by, back_term, local_view, offsets, block_view}
use Rattle.sq_term.specs.Terms.{own_view, move_of, moves_from, buffers_from, hold_in_term_by, hold_in_term}
use Rattle.sq_term.specs.Terms.{hold_out_term_by, hold_out_term, come_in_term, fill_held_term}
use Rattle.sq_term.specs.Stands.{IsOf, LocalsOf, below}
use Rattle.sq_program_laws.specs.TermLaws.Roomy.{IsWhole, AreWhole}
use Rattle.sq_program_laws.specs.PlanLaws.Seated.{IsNear}
use Rattle.sq_draft_laws.specs.Scope.{InScope}
use Rattle.sq_draft_laws.proofs.Back.{with_both}
use Rattle.sq_draft_laws.proofs.Every.{Every, Among, first_there, later_there}
use Rattle.sq_draft_laws.proofs.Rising.{Rises, AllRise, rise_skip, rise_act, rise_loop, rise_if}

-- ---- what is asked of actions

-- of each form the number of its code and its level
pub record Leveled : Type 0 where
  pub code : ℕ → ℕ
  pub level : ℕ → ℕ

-- A leaf is a form, of the level in force, with the number of its code; its views are no more than the form's arrays.
pub record IsLeafOf (bodies : ℕ → FormBody) (forms : Leveled) (env : Env) (code : ℕ) (views : List LeafView) : Type 0
  where
    pub form : ℕ
    pub leaf : LeafSource
    pub is : (bodies form).body ≡ body.Leaf leaf
    pub code_is : forms.code form ≡ code
    pub level_is : env.level ≡ forms.level form
    pub few : length views ≤ length (bodies form).arrays

-- a row has bytes
abbrev pub HasBytes : (ℕ → FormBody) → Leveled → Env → Action → Type 0
HasBytes bodies forms env (action.CopyRow from to bytes) = 0 < bytes
HasBytes bodies forms env (action.FillRow to elem count value) = 0 < count * width elem
HasBytes bodies forms env (action.AccRow op elem from to count) = 0 < count * width elem
HasBytes bodies forms env (action.Leaf code views path) = IsLeafOf bodies forms env code views

abbrev pub Settled : Setting → (ℕ → FormBody) → Leveled → AskedOfActions
Settled s bodies forms env bs a = InScope s env bs a × HasBytes bodies forms env a

-- ---- views

-- the view's buffer is in scope and of this level
pub record IsHere (s : Setting) (level : ℕ) (bs : List ℕ) (v : LeafView) : Type 0 where
  pub scope : Contains bs v.slot.buffer
  pub level_is : s.level v.slot.buffer ≡ level

-- a parameter at one call
pub record IsMoved (s : Setting) (level : ℕ) (bs : List ℕ) (m : Move) : Type 0 where
  pub outside : Contains bs m.outside.slot.buffer
  pub own : IsHere s level bs m.own
  pub some : 0 < last_of m.own.extents

last_tops : (tops : List ℕ) → 0 < last_of (map suc tops)
last_tops [] = omega arith
last_tops (a ∷ []) = omega arith
last_tops (a ∷ b ∷ tops) = last_tops (b ∷ tops)

last_whole : (x : Shape) → IsWhole x → 0 < last_of x.extents
last_whole x w = subst (λ (z : List ℕ). 0 < last_of z) (sym w.shaped.last) (last_tops w.tops)

pub last_some : (xs : List Shape) → AreWhole xs → (i : ℕ) → 0 < last_of (get_or xs i no_shape).extents
last_some [] w i = omega arith
last_some (x ∷ xs) w zero = last_whole x w.0
last_some (x ∷ xs) w (suc i) = last_some xs w.1 i

some_bytes : (e : Elem) (k : ℕ) → 0 < k → 0 < width e * k
some_bytes Byte k h = omega (arith, h)
some_bytes Int k h = omega (arith, h)
some_bytes Long k h = omega (arith, h)

some_turned : (e : Elem) (k : ℕ) → 0 < k → 0 < k * width e
some_turned Byte k h = omega (arith, h)
some_turned Int k h = omega (arith, h)
some_turned Long k h = omega (arith, h)

-- ---- rows that are copied, filled and accumulated

module _ (s : Setting) (bodies : ℕ → FormBody) (forms : Leveled) (P : AskedOfActions) (level : ℕ) (bs : List ℕ) where
  abbrev Up : Term → Type 0
  Up x = Rises s P (with_both P (Settled s bodies forms)) level bs x

  rows_up : (extents : List ℕ) (a : Action) → ((env : Env) → Settled s bodies forms env bs a) → Up (by_rows extents a)
  rows_up extents a f = rise_loop s P (with_both P (Settled s bodies forms)) level bs (n.Const (pos (rows_of extents)))
      (term.Act a)
      (rise_act s P (with_both P (Settled s bodies forms)) level bs a (λ env is h. (h, f env)))

  skip_up : Up term.Skip
  skip_up = rise_skip s P (with_both P (Settled s bodies forms)) level bs

  copy_up : (v a b : LeafView) → 0 < last_of v.extents → Contains bs a.slot.buffer → Contains bs b.slot.buffer
      → Up (copy_term v a b)
  copy_up v a b some h g = rows_up v.extents _ (λ env. ((h, g), some_bytes v.elem (last_of v.extents) some))

  fill_up : (k : ℤ) (v : LeafView) → 0 < last_of v.extents → Contains bs v.slot.buffer → Up (fill_term k v)
  fill_up k v some h = rows_up v.extents _ (λ env. (h, some_turned v.elem (last_of v.extents) some))

  add_up : (op : RedOp) (v a b : LeafView) → 0 < last_of v.extents → Contains bs a.slot.buffer
      → Contains bs b.slot.buffer → Up (add_term op v a b)
  add_up op v a b some h g = rows_up v.extents _ (λ env. ((h, g), some_turned v.elem (last_of v.extents) some))

  if_up : (b : Bool) (x : Term) → Up x → Up (if b then x else term.Skip)
  if_up b x h = rise_if s P (with_both P (Settled s bodies forms)) level bs b x h

  unless_up : (b : Bool) (x : Term) → Up x → Up (if b then term.Skip else x)
  unless_up true x h = skip_up
  unless_up false x h = h

  module _ (m : Move) (h : IsMoved s level bs m) where
    come : Up (copy_in_term m)
    come = copy_up m.own m.outside m.own h.some h.outside h.own.scope

    back : Up (copy_out_term m)
    back = copy_up m.own m.own m.outside h.some h.own.scope h.outside

    pub bring_up : Up (bring_term m)
    bring_up = go m.gathers m.mode
      where
        go : (o : Option RedOp) (k : Mode) → Up (bring_term_by o k m)
        go (Some op) k = fill_up (identity op m.own.elem) m.own h.some h.own.scope
        go None Input = if_up (is_moved m.home) (copy_in_term m) come
        go None Output = fill_up (pos 0) m.own h.some h.own.scope
        go None Both = if_up (is_moved m.home) (copy_in_term m) come

    pub back_up : Up (back_term m)
    back_up = go m.gathers m.mode
      where
        go : (o : Option RedOp) (k : Mode) → Up (back_term_by o k m)
        go (Some op) k = add_up op m.own m.own m.outside h.some h.own.scope h.outside
        go None Input = skip_up
        go None Output = if_up (is_moved m.home) (copy_out_term m) back
        go None Both = if_up (is_moved m.home) (copy_out_term m) back

    -- in a loop whose transfers overlap
    pub come_in_up : Up (come_in_term m)
    come_in_up = unless_up (is_held m.home) (bring_term m) bring_up

    pub fill_held_up : Up (fill_held_term m)
    fill_held_up = if_up (is_held m.home) (bring_term m) bring_up

    -- round a loop that it leaves
    pub hold_in_up : Up (hold_in_term m)
    hold_in_up = go m.mode
      where
        go : (k : Mode) → Up (hold_in_term_by k m)
        go Input = come
        go Output = skip_up
        go Both = come

    pub hold_out_up : Up (hold_out_term m)
    hold_out_up = go m.mode
      where
        go : (k : Mode) → Up (hold_out_term_by k m)
        go Input = skip_up
        go Output = back
        go Both = back

  -- of each parameter
  pub moves_up : (f : Move → Term) → ((m : Move) → IsMoved s level bs m → Up (f m)) → (ms : List Move)
      → Every (IsMoved s level bs) ms → AllRise s P (with_both P (Settled s bodies forms)) level bs (map f ms)
  moves_up f h [] g = tt
  moves_up f h (m ∷ ms) g = (h m g.0, moves_up f h ms g.1)

  -- the fills of locals
  pub clears_up : (shapes : List Shape) (locals : List ℕ) → AreWhole shapes → LocalsOf s level locals
      → Among (local_buffers (placed_locals shapes locals)) bs
      → AllRise s P (with_both P (Settled s bodies forms)) level bs
      (map (λ k. clear_term (local_view k)) (placed_locals shapes locals))
  clears_up [] locals w o there = tt
  clears_up (x ∷ shapes) [] w o there = tt
  clears_up (x ∷ shapes) (b ∷ locals) w o there = (
    fill_up (pos 0) (local_view (record { shape = x; buffer = b })) (last_whole x w.0)
        (there b (first_there b (local_buffers (placed_locals shapes locals)))),
    clears_up shapes locals w.1 o.1
        (λ c h. there c (later_there b c (local_buffers (placed_locals shapes locals)) h)),
  )

-- ---- the arguments of a call

-- it has one buffer at most, and not two that are used in turn
abbrev pub IsSingle : Home → Type 0
IsSingle InPlace = Unit {0}
IsSingle (Own b) = Unit {0}
IsSingle (Held b loops) = Unit {0}
IsSingle (Twin b c) = ⊥

pub extents_own : (shape : Shape) (h : Home) (v : LeafView) → v.extents ≡ shape.extents → (own_view shape h v).extents
    ≡ shape.extents
extents_own shape InPlace v e = e
extents_own shape (Own b) v e = refl
extents_own shape (Held b loops) v e = refl
extents_own shape (Twin b c) v e = refl

more_there : (h : Home) (bs : List ℕ) (b : ℕ) → Contains bs b → Contains (buffer_of h bs) b
more_there InPlace bs b g = g
more_there (Own x) bs b g = later_there x b bs g
more_there (Held x loops) bs b g = g
more_there (Twin x y) bs b g = g

module _ (s : Setting) (lower : Bool) (at : ℕ) (bs inner : List ℕ) (wider : Among bs inner) where
  own_here : (shape : Shape) (h : Home) → IsSingle h → IsNear lower h → IsOf s (below lower at) h
      → ((b : ℕ) → h ≡ Own b → Contains inner b) → ((b loops : ℕ) → h ≡ Held b loops → Contains inner b)
      → (v : LeafView) → IsHere s at bs v → IsHere s (below lower at) inner (own_view shape h v)
  own_here shape InPlace single near of there held v here = record {
    scope = wider v.slot.buffer here.scope;
    level_is = here.level_is ∙ ap (λ z. below z at) (sym near);
  }
  own_here shape (Own b) single near of there held v here = record { scope = there b refl; level_is = of }
  own_here shape (Held b loops) single near of there held v here
      = record { scope = held b loops refl; level_is = of }
  own_here shape (Twin b c) single near of there held v here = absurd single

  pub moves_here : (op : Option RedOp) (shapes : List Shape) (hs : List Home) (c : Context) (times : List CallInstance)
      → AreWhole shapes → ((j : ℕ) → IsSingle (get_or hs j InPlace))
      → ((j : ℕ) → IsOf s (below lower at) (get_or hs j InPlace)) → Every (IsHere s at bs) c.views
      → (i : ℕ) (args : List Argument)
      → ((j : ℕ) → j < i + length args → IsNear lower (get_or hs j InPlace))
      → ((j b loops : ℕ) → j < i + length args → get_or hs j InPlace ≡ Held b loops → Contains inner b)
      → Among (buffers_from hs i args) inner
      → Every (IsMoved s (below lower at) inner) (moves_from op shapes hs c times i args)
  moves_here op shapes hs c times w single of views i [] near held there = tt
  moves_here op shapes hs c times w single of views i (a ∷ rest) near held there =
      go (slice_get c.views a.array) refl _
      (moves_here op shapes hs c times w single of views (suc i) rest (λ j l. near j (omega (arith, l)))
      (λ j b n l e. held j b n (omega (arith, l)) e)
      (λ b h. there b (more_there home (buffers_from hs (suc i) rest) b h)))
    where
      shape : Shape
      shape = get_or shapes i no_shape

      home : Home
      home = get_or hs i InPlace

      own_there : (b : ℕ) → home ≡ Own b → Contains inner b
      own_there b e = there b (subst (λ (h : Home). Contains (buffer_of h (buffers_from hs (suc i) rest)) b) (sym e)
          (first_there b (buffers_from hs (suc i) rest)))

      one : (v : LeafView) → IsHere s at bs v
          → IsMoved s (below lower at) inner (move_of op shape home a (offsets c.views times i) c.ordinal v)
      one v here = record {
        outside = wider v.slot.buffer here.scope;
        own = own_here shape home (single i) (near i (omega arith)) (of i) own_there
            (λ b n e. held i b n (omega arith) e)
            (block_view (offsets c.views times i) c.ordinal shape.extents v)
            (record { scope = here.scope; level_is = here.level_is });
        some = subst (λ (z : List ℕ). 0 < last_of z)
            (sym (extents_own shape home (block_view (offsets c.views times i) c.ordinal shape.extents v) refl))
            (last_some shapes w i);
      }

      at_view : (xs : List LeafView) (k : ℕ) (v : LeafView) → Every (IsHere s at bs) xs → slice_get xs k ≡ Some v
          → IsHere s at bs v
      at_view [] k v h e = cc
      at_view (x ∷ xs) zero v h e = let g : x ≡ v = cc in subst (IsHere s at bs) g h.0
      at_view (x ∷ xs) (suc k) v h e = at_view xs k v h.1 e

      go : (o : Option LeafView) → slice_get c.views a.array ≡ o → (ms : List Move)
          → Every (IsMoved s (below lower at) inner) ms
          → Every (IsMoved s (below lower at) inner)
          (cons_some (move_of op shape home a (offsets c.views times i) c.ordinal) o ms)
      go None e ms later = later
      go (Some v) e ms later = (one v (at_view c.views a.array v views e), later)

-- no more parameters than arguments
pub moves_len : (op : Option RedOp) (shapes : List Shape) (hs : List Home) (c : Context) (times : List CallInstance)
    (i : ℕ) (args : List Argument) → length (moves_from op shapes hs c times i args) ≤ length args
moves_len op shapes hs c times i [] = omega arith
moves_len op shapes hs c times i (a ∷ rest) = go (slice_get c.views a.array) _
    (moves_len op shapes hs c times (suc i) rest)
  where
    go : (o : Option LeafView) (ms : List Move) → length ms ≤ length rest
        → length
        (cons_some
        (move_of op (get_or shapes i no_shape) (get_or hs i InPlace) a (offsets c.views times i) c.ordinal) o ms)
        ≤ suc (length rest)
    go None ms l = omega (arith, l)
    go (Some v) ms l = omega (arith, l)

-- ---- locals

module _ (s : Setting) (level : ℕ) (bs : List ℕ) where
  pub locals_here : (shapes : List Shape) (locals : List ℕ) → LocalsOf s level locals
      → Among (local_buffers (placed_locals shapes locals)) bs
      → Every (IsHere s level bs) (map local_view (placed_locals shapes locals))
  locals_here [] locals o there = tt
  locals_here (x ∷ shapes) [] o there = tt
  locals_here (x ∷ shapes) (b ∷ locals) o there = (
    record { scope = there b (first_there b (local_buffers (placed_locals shapes locals))); level_is = o.0 },
    locals_here shapes locals o.1
        (λ c h. there c (later_there b c (local_buffers (placed_locals shapes locals)) h)),
  )

pub locals_len : (shapes : List Shape) (locals : List ℕ) → length (map local_view (placed_locals shapes locals))
    ≤ length shapes
locals_len [] locals = omega arith
locals_len (x ∷ shapes) [] = omega arith
locals_len (x ∷ shapes) (b ∷ locals) = let g = locals_len shapes locals in omega (arith, g)
