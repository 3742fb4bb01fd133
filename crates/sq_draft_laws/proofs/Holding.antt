-- The arguments that leave a loop stand in buffers in scope in it.
use Rattle.std.proofs.Common.{◌≡◌, ℕ, zero, suc, ◌+◌, ◌<◌, Bool, List, [], ◌∷◌, length, get_or, slice_get, Option, Some}
use Rattle.std.proofs.Common.{None, refl, sym, ap, subst, ◌∙◌, arith, Contains, if◌then◌else◌, true, false, ◌==◌}
use Rattle.sq_rect.specs.Extents.{last_of}
use Rattle.sq_leaf.specs.declared.shape.Shape.{Shape}
use Rattle.sq_ir.specs.Written.{Setting}
use Rattle.sq_ir.specs.declared.term.LeafView.{LeafView}
use Rattle.sq_blocks.specs.declared.argument.Argument.{Argument}
use Rattle.sq_spec.specs.declared.statement.CallInstance.{CallInstance}
use Rattle.sq_placed.specs.declared.home.Home.{Home}
use Rattle.sq_placed.specs.declared.home.Home.TheVariants.{InPlace, Own, Held, Twin}
use Rattle.sq_placed.specs.Seats.{cons_some}
use Rattle.sq_placed.specs.Tables.{no_shape, leaves_loop, leaving_args}
use Rattle.sq_term.specs.declared.context.Move.{Move}
use Rattle.sq_term.specs.Terms.{own_view, leaving_buffers, held_move, held_moves, held_view}
use Rattle.sq_term.specs.Stands.{IsOf}
use Rattle.sq_program_laws.specs.TermLaws.Roomy.{AreWhole}
use Rattle.sq_draft_laws.proofs.Every.{Every, Among, first_there, later_there, every_at}
use Rattle.sq_ir.specs.declared.num.Num.{Num}
use Rattle.sq_draft_laws.proofs.Moves.{IsHere, IsMoved, last_some, extents_own}
use Rattle.sq_placed.specs.Trees.{held_of}
use Rattle.sq_program_laws.proofs.PlanLaws.Grown.{same_true}

module _ (loops : ℕ) (hs : List Home) where
  -- they leave it by their homes
  abbrev pub Leaves : ℕ × Argument → Type 0
  Leaves p = leaves_loop loops (get_or hs p.0 InPlace) ≡ true

  pub left_leave : (i : ℕ) (args : List Argument) → Every Leaves (leaving_args loops hs i args)
  left_leave i [] = tt
  left_leave i (a ∷ rest) = by (leaves_loop loops (get_or hs i InPlace)) refl (left_leave (suc i) rest)
    where
      by : (v : Bool) → leaves_loop loops (get_or hs i InPlace) ≡ v
          → Every Leaves (leaving_args loops hs (suc i) rest)
          → Every Leaves (if v then (i, a) ∷ leaving_args loops hs (suc i) rest else leaving_args loops hs (suc i) rest)
      by true e later = (e, later)
      by false e later = later

  more_held : (h : Home) (bs : List ℕ) (b : ℕ) → Contains bs b → Contains (held_of h bs) b
  more_held InPlace bs b g = g
  more_held (Own x) bs b g = g
  more_held (Held x n) bs b g = later_there x b bs g
  more_held (Twin x y) bs b g = g

  -- the buffer of each is in scope
  pub left_there : (j : ℕ) (args : List Argument) (i b n : ℕ) → i < length args → get_or hs (j + i) InPlace ≡ Held b n
      → n ≡ loops → Contains (leaving_buffers hs (leaving_args loops hs j args)) b
  left_there j [] i b n l e is = absurd (omega (arith, l))
  left_there j (a ∷ rest) zero b n l e is =
      let here : j + 0 ≡ j = omega arith in
      let home : get_or hs j InPlace ≡ Held b n = ap (λ (k : ℕ). get_or hs k InPlace) (sym here) ∙ e in
      let leaves : leaves_loop loops (get_or hs j InPlace) ≡ true
      = ap (leaves_loop loops) home ∙ (ap (λ (k : ℕ). k == loops) is ∙ same_true loops) in
      subst (λ (v : Bool). Contains (leaving_buffers hs
      (if v then (j, a) ∷ leaving_args loops hs (suc j) rest else leaving_args loops hs (suc j) rest)) b) (sym leaves)
      (subst (λ (h : Home). Contains (held_of h (leaving_buffers hs (leaving_args loops hs (suc j) rest))) b) (sym home)
      (first_there b (leaving_buffers hs (leaving_args loops hs (suc j) rest))))
  left_there j (a ∷ rest) (suc i) b n l e is = by (leaves_loop loops (get_or hs j InPlace))
      (left_there (suc j) rest i b n (omega (arith, l)) (ap (λ (k : ℕ). get_or hs k InPlace) next ∙ e) is)
    where
      next : suc j + i ≡ j + suc i
      next = omega arith

      by : (v : Bool) → Contains (leaving_buffers hs (leaving_args loops hs (suc j) rest)) b
          → Contains (leaving_buffers hs
          (if v then (j, a) ∷ leaving_args loops hs (suc j) rest else leaving_args loops hs (suc j) rest)) b
      by true g = more_held (get_or hs j InPlace) (leaving_buffers hs (leaving_args loops hs (suc j) rest)) b g
      by false g = g

  -- ---- their copies

  module _ (s : Setting) (at to : ℕ) (bs inner : List ℕ) (wider : Among bs inner) where
    own_held : (shape : Shape) (h : Home) → leaves_loop loops h ≡ true → IsOf s to h
        → ((b n : ℕ) → h ≡ Held b n → Contains inner b) → (v : LeafView) → IsHere s to inner (own_view shape h v)
    own_held shape InPlace leaves of there v = absurd (cc leaves)
    own_held shape (Own b) leaves of there v = absurd (cc leaves)
    own_held shape (Held b n) leaves of there v = record { scope = there b n refl; level_is = of }
    own_held shape (Twin b c) leaves of there v = absurd (cc leaves)

    pub held_here : (shapes : List Shape) (times : List CallInstance) (number : Num) (views : List LeafView)
        → AreWhole shapes → ((j : ℕ) → IsOf s to (get_or hs j InPlace)) → Every (IsHere s at bs) views
        → (ps : List (ℕ × Argument)) → Every Leaves ps → Among (leaving_buffers hs ps) inner
        → Every (IsMoved s to inner) (held_moves shapes hs views times number ps)
    held_here shapes times number views w of here [] leave there = tt
    held_here shapes times number views w of here (p ∷ ps) leave there =
        go (slice_get views p.1.array) refl _
        (held_here shapes times number views w of here ps leave.1
        (λ b g. there b (more_held home (leaving_buffers hs ps) b g)))
      where
        shape : Shape
        shape = get_or shapes p.0 no_shape

        home : Home
        home = get_or hs p.0 InPlace

        move : LeafView → Move
        move = held_move shape home times number p.0 p.1

        own_there : (b n : ℕ) → home ≡ Held b n → Contains inner b
        own_there b n e = there b (subst (λ (h : Home). Contains (held_of h (leaving_buffers hs ps)) b) (sym e)
            (first_there b (leaving_buffers hs ps)))

        one : (v : LeafView) → IsHere s at bs v → IsMoved s to inner (move v)
        one v g = record {
          outside = wider v.slot.buffer g.scope;
          own = own_held shape home leave.0 (of p.0) own_there (held_view shape home times number p.0 v);
          some = subst (λ (z : List ℕ). 0 < last_of z)
              (sym (extents_own shape home (held_view shape home times number p.0 v) refl)) (last_some shapes w p.0);
        }

        go : (o : Option LeafView) → slice_get views p.1.array ≡ o → (ms : List Move) → Every (IsMoved s to inner) ms
            → Every (IsMoved s to inner) (cons_some move o ms)
        go None e ms later = later
        go (Some v) e ms later = (one v (every_at (IsHere s at bs) views p.1.array v here e), later)
