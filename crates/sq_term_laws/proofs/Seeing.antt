-- What a callee sees: its arguments and locals are roomy where the caller's arrays are.
use Rattle.std.proofs.Common.{◌≡◌, ℕ, zero, suc, ◌+◌, ◌<◌, pos, List, [], ◌∷◌, ◌++◌, map, length, get_or, slice_get}
use Rattle.std.proofs.Common.{take, drop, Option, Some, refl, sym, ap, ap₂, subst, ◌∙◌, arith}
use Rattle.std.specs.List.{All}
use Rattle.sq_num.specs.declared.Elem.TheVariants.{Long}
use Rattle.sq_num.specs.declared.RedOp.{RedOp}
use Rattle.sq_num.specs.Elements.{IsValue}
use Rattle.sq_text.specs.declared.spread.SpreadRule.{SpreadRule}
use Rattle.sq_ir.specs.Leaf.declared.shape.Shape.{Shape}
use Rattle.sq_ir.specs.Lifting.{lift}
use Rattle.sq_ir.specs.Written.{Setting, Env}
use Rattle.sq_ir.specs.Plans.{IsCount}
use Rattle.sq_ir.specs.declared.num.Num.{Num}
use Rattle.sq_ir.specs.declared.term.LeafView.{LeafView}
use Rattle.sq_ir.specs.declared.term.Action.TheVariants as action
use Rattle.sq_blocks.specs.declared.argument.Argument.{Argument}
use Rattle.sq_spec.specs.declared.statement.CallInstance.{CallInstance}
use Rattle.sq_spec.specs.declared.body.FormBody.{FormBody}
use Rattle.sq_placed.specs.declared.home.Home.{Home}
use Rattle.sq_placed.specs.declared.home.Home.TheVariants.{InPlace, Own, Held, Twin}
use Rattle.sq_placed.specs.declared.home.Homes.{Homes}
use Rattle.sq_term.specs.declared.context.Context.{Context}
use Rattle.sq_term.specs.declared.context.Move.{Move}
use Rattle.sq_placed.specs.Seats.{firsts, cons_some}
use Rattle.sq_placed.specs.Tables.{no_shape, placed_locals}
use Rattle.sq_term.specs.Terms.{lift_view, in_map, in_callee, local_view, own_view, block_view, offsets, bytes_at}
use Rattle.sq_term.specs.Terms.{bytes_of, bytes_in, move_of, moves_from, lift_context, at_iteration}
use Rattle.sq_term.specs.Stands.{Each, none, more, IsNumber}
use Rattle.sq_term_laws.specs.Fits.{Has}
use Rattle.sq_term_laws.specs.Roomy.{InView, RowsInside, IsRoomy, IsRoomyMove, IsBelow, HaveSizes, IsWhole, AreWhole}
use Rattle.sq_term_laws.specs.Roomy.{FitsInto, HomeFits, ArgFits, IsCounted, Sees, RowFits, RowsFit}
use Rattle.sq_term.proofs.Numbers.{lifted_is, turn}
use Rattle.sq_term.proofs.Turns.{each_left, each_append, AtBoth, neither, two, at_both}
use Rattle.sq_term.proofs.Arms.{IsHead}
use Rattle.sq_term.proofs.Calls.{get_map}
use Rattle.sq_term_laws.proofs.Fine.{turn_has, has_lifted, count_is}
use Rattle.sq_term_laws.proofs.Views.{view_inside}
use Rattle.sq_term_laws.proofs.Blocks.{roomy_turn, roomy_buffer, roomy_block}

-- a list has one list of predecessors
pub pred_same : (a b : List ℕ) → map suc a ≡ map suc b → a ≡ b
pred_same [] [] h = refl
pred_same [] (y ∷ b) h = cc
pred_same (x ∷ a) [] h = cc
pred_same (x ∷ a) (y ∷ b) h = let e : suc x ≡ suc y = cc in let f : x ≡ y = omega (arith, e) in let g : map suc a
    ≡ map suc b = cc in ap₂ (λ p q. p ∷ q) f (pred_same a b g)

pub got : (xs : List Shape) (i : ℕ) (y : Shape) → slice_get xs i ≡ Some y → get_or xs i no_shape ≡ y
got [] i y e = cc
got (x ∷ xs) zero y e = cc
got (x ∷ xs) (suc i) y e = got xs i y e

pub map_len : {A B : Type 0} (f : A → B) (xs : List A) → length (map f xs) ≡ length xs
map_len f [] = refl
map_len f (x ∷ xs) = ap suc (map_len f xs)

pub whole_at : (xs : List Shape) → AreWhole xs → (i : ℕ) (x : Shape) → slice_get xs i ≡ Some x → IsWhole x
whole_at [] w i x e = cc
whole_at (y ∷ xs) w zero x e = let g : y ≡ x = cc in subst IsWhole g w.0
whole_at (y ∷ xs) w (suc i) x e = whole_at xs w.1 i x e

pub taken : (k : ℕ) (xs : List Shape) (j : ℕ) (y : Shape) → slice_get (take k xs) j ≡ Some y → slice_get xs j ≡ Some y
taken zero xs j y e = cc
taken (suc k) [] j y e = cc
taken (suc k) (x ∷ xs) zero y e = e
taken (suc k) (x ∷ xs) (suc j) y e = taken k xs j y e

pub row_fits : (bodies : ℕ → FormBody) (homes : ℕ → Homes) (outer : List Shape) (times : List CallInstance) (k : ℕ)
    (r : CallInstance) → RowsFit bodies homes outer times → slice_get times k ≡ Some r → RowFits bodies homes outer r
row_fits bodies homes outer [] k r h e = cc
row_fits bodies homes outer (x ∷ times) zero r h e =
    let g : x ≡ r = cc in subst (RowFits bodies homes outer) g h.0
row_fits bodies homes outer (x ∷ times) (suc k) r h e = row_fits bodies homes outer times k r h.1 e

pub own_fits : (s : Setting) (sizes : HaveSizes s) (turns : List ℕ) (x : Shape) → IsWhole x → (h : Home) → HomeFits s h x
    → (v : LeafView) → IsRoomy s turns v x → IsRoomy s turns (own_view x h v) x
own_fits s sizes turns x w InPlace f v g = g
own_fits s sizes turns x w (Own b) f v g = roomy_buffer s sizes turns b x w.tops w.shaped w.dims f w.small
own_fits s sizes turns x w (Held b loops) f v g = roomy_buffer s sizes turns b x w.tops w.shaped w.dims f w.small
own_fits s sizes turns x w (Twin b c) f v g = roomy_buffer s sizes turns b x w.tops w.shaped w.dims f.0 w.small

module _ (s : Setting) (sizes : HaveSizes s) (turns : List ℕ) where
  module _ (c : Context) (outer : List Shape) (seen : Each (IsRoomy s turns) c.views outer) (times : List CallInstance)
      (k : ℕ) (r : CallInstance) (at_time : slice_get times k ≡ Some r)
      (long : k < length times) (counted : IsNumber s turns c.ordinal k) (has : Has s turns c.ordinal) where
    block_roomy : (i : ℕ) (a : Argument) (y : Shape) (v : LeafView) (f : ArgFits outer a y) → slice_get r.args i
        ≡ Some a → slice_get c.views a.array ≡ Some v → IsRoomy s turns v f.x
        → IsRoomy s turns (block_view (offsets c.views times i) c.ordinal y.extents v) y
    block_roomy i a y v f arg view h =
        roomy_block s sizes turns (map (bytes_at c.views i) times) c.ordinal k counted has
        (let e = map_len (bytes_at c.views i) times in omega (arith, e, long)) v f.x y h (firsts a.rect) f.lasts
        f.block f.elem
        (subst (IsBelow (firsts a.rect) f.lasts) (pred_same f.tops h.tops (sym f.whole ∙ h.shaped.last)) f.below)
        (get_map (bytes_at c.views i) times k r 0 at_time ∙ ap (bytes_of c.views) arg
        ∙ ap (λ (o : Option LeafView). bytes_in o a) view)

    pub moves_roomy : (op : Option RedOp) (shapes : List Shape) (hs : List Home)
        → ((i : ℕ) (x : Shape) → slice_get shapes i ≡ Some x → IsWhole x × HomeFits s (get_or hs i InPlace) x)
        → (i : ℕ) {xs ys : List Argument} → Each IsHead xs ys → {shs : List Shape} → Each (ArgFits outer) xs shs
        → ((j : ℕ) (y : Argument) → slice_get xs j ≡ Some y → slice_get r.args (i + j) ≡ Some y)
        → ((j : ℕ) (y : Shape) → slice_get shs j ≡ Some y → slice_get shapes (i + j) ≡ Some y)
        → Each (IsRoomyMove s turns) (moves_from op shapes hs c times i ys) shs
    moves_roomy op shapes hs whole i none none at is = none
    moves_roomy op shapes hs whole i (more {x = x} {y = y} {xs = xs} {ys = ys} head heads)
        (more {y = sh} {ys = shs} fits rest) at is =
        subst (λ (z : ℕ). Each (IsRoomyMove s turns)
        (cons_some (move_of op (get_or shapes i no_shape) (get_or hs i InPlace) y (offsets c.views times i)
        c.ordinal) (slice_get c.views z) (moves_from op shapes hs c times (suc i) ys)) (sh ∷ shs))
        head.array
        (subst (λ (z : Shape). Each (IsRoomyMove s turns)
        (cons_some (move_of op z (get_or hs i InPlace) y (offsets c.views times i) c.ordinal)
        (slice_get c.views x.array) (moves_from op shapes hs c times (suc i) ys)) (sh ∷ shs))
        (sym (got shapes i sh here))
        (go refl fits.there (at_both seen x.array)
        (moves_roomy op shapes hs whole (suc i) heads rest
        (λ j z e. let m : suc i + j ≡ i + suc j = omega arith in ap (slice_get r.args) m ∙ at (suc j) z e)
        (λ j z e. let m : suc i + j ≡ i + suc j = omega arith in ap (slice_get shapes) m ∙ is (suc j) z e))))
      where
        here : slice_get shapes i ≡ Some sh
        here = let m : i ≡ i + 0 = omega arith in ap (slice_get shapes) m ∙ is 0 sh refl

        arg : slice_get r.args i ≡ Some x
        arg = let m : i ≡ i + 0 = omega arith in ap (slice_get r.args) m ∙ at 0 x refl

        go : {v : Option LeafView} {u : Option Shape} → slice_get c.views x.array ≡ v → u ≡ Some fits.x
            → AtBoth (IsRoomy s turns) v u → {ms : List Move} → Each (IsRoomyMove s turns) ms shs
            → Each (IsRoomyMove s turns) (cons_some
            (move_of op sh (get_or hs i InPlace) y (offsets c.views times i) c.ordinal) v ms) (sh ∷ shs)
        go e g neither later = cc
        go e g (two v u h) later =
            let same : u ≡ fits.x = cc in
            let w = whole i sh here in
            let b = block_roomy i x sh v fits arg e (subst (IsRoomy s turns v) same h) in
            more (record { outside = b; own = own_fits s sizes turns sh w.0 (get_or hs i InPlace) w.1 _ b }) later

  -- locals
  pub locals_roomy : (shapes : List Shape) (bs : List ℕ) → AreWhole shapes → Each (FitsInto s) bs shapes
      → Each (IsRoomy s turns) (map local_view (placed_locals shapes bs)) shapes
  locals_roomy [] bs w none = none
  locals_roomy (x ∷ shapes) [] w h = elim h [ ]
  locals_roomy (x ∷ shapes) (b ∷ bs) w (more f rest)
      = more (roomy_buffer s sizes turns b x w.0.tops w.0.shaped w.0.dims f w.0.small) (locals_roomy shapes bs w.1 rest)

  rejoin : (k : ℕ) (xs : List Shape) → take k xs ++ drop k xs ≡ xs
  rejoin zero xs = refl
  rejoin (suc k) [] = refl
  rejoin (suc k) (x ∷ xs) = ap (λ l. x ∷ l) (rejoin k xs)

  -- all arrays of a callee
  pub callee_sees : (c : Context) (outer : List Shape) → Sees s turns outer c
      → (shapes : List Shape) (count : ℕ) (ms : List Move) (locals : List ℕ)
      → Each (IsRoomyMove s turns) ms (take count shapes)
      → AreWhole (drop count shapes) → Each (FitsInto s) locals (drop count shapes)
      → Sees s turns shapes (in_callee c ms (placed_locals (drop count shapes) locals))
  callee_sees c outer seen shapes count ms locals each whole fit = record {
    views = subst (λ (z : List Shape). Each (IsRoomy s turns)
        (map (λ m. m.own) ms ++ map local_view (placed_locals (drop count shapes) locals)) z) (rejoin count shapes)
        (each_append (IsRoomy s turns)
        (each_left (IsRoomyMove s turns) (IsRoomy s turns) (λ m. m.own) (λ m x h. h.own) each)
        (locals_roomy (drop count shapes) locals whole fit));
    numbers = seen.numbers;
    path = seen.path;
  }

-- in an iteration of a map
pub sees_turn : (s : Setting) (turns : List ℕ) (outer : List Shape) (c : Context) (spread : Option SpreadRule)
    (count : Num) (starts : List ℕ) (t : ℕ) → IsValue Long (pos t) → Sees s turns outer c
    → Sees s (t ∷ turns) outer (in_map spread count starts c)
sees_turn s turns outer c spread count starts t fits h = record {
  views = each_left (IsRoomy s turns) (IsRoomy s (t ∷ turns)) lift_view (roomy_turn s turns t) h.views;
  numbers = h.numbers ++ t ∷ [];
  path = each_append (IsCounted s (t ∷ turns))
      (each_left (IsCounted s turns) (IsCounted s (t ∷ turns)) (lift 1)
      (λ x v g. record { number = lifted_is s turns x v t g.number; has = has_lifted s turns x t g.has }) h.path)
      (more (record {
        number = turn s turns t;
        has
            = record { has = λ l nodes. turn_has s (record { turns = turns; level = l; nodes = nodes }) t fits };
      }) none);
}

-- one loop further in
pub sees_lifted : (s : Setting) (turns : List ℕ) (outer : List Shape) (t : ℕ) (c : Context) → Sees s turns outer c
    → Sees s (t ∷ turns) outer (lift_context c)
sees_lifted s turns outer t c h = record {
  views = each_left (IsRoomy s turns) (IsRoomy s (t ∷ turns)) lift_view (roomy_turn s turns t) h.views;
  numbers = h.numbers;
  path = each_left (IsCounted s turns) (IsCounted s (t ∷ turns)) (lift 1)
      (λ x v g. record { number = lifted_is s turns x v t g.number; has = has_lifted s turns x t g.has }) h.path;
}

-- in an iteration of a loop whose transfers overlap
pub sees_iteration : (s : Setting) (turns : List ℕ) (outer : List Shape) (starts : List ℕ) (x : Num) (t : ℕ)
    (c : Context) → IsCounted s turns x t → Sees s turns outer c → Sees s turns outer (at_iteration starts x c)
sees_iteration s turns outer starts x t c g h = record {
  views = h.views;
  numbers = h.numbers ++ t ∷ [];
  path = each_append (IsCounted s turns) h.path (more g none);
}

-- what is asked of a leaf
pub leaf_good : (s : Setting) (env : Env) (bs : List ℕ) (outer : List Shape) (c : Context) (code : ℕ)
    → Sees s env.turns outer c → RowsInside s env bs (action.Leaf code c.views c.path)
leaf_good s env bs outer c code h = (views h.views, path h.path)
  where
    views : {vs : List LeafView} {xs : List Shape} → Each (IsRoomy s env.turns) vs xs → All (InView s env) vs
    views none k d l = absurd (omega (arith, l))
    views (more {x = v} {y = x} g rest) zero d l
        = record {
          at = count_is s env v.slot.at g.bytes (g.number.value env.level env.nodes)
              (g.has.has env.level env.nodes);
          inside = view_inside s env v x g;
        }
    views (more g rest) (suc k) d l = views rest k d (omega (arith, l))

    path : {ns : List Num} {ks : List ℕ} → Each (IsCounted s env.turns) ns ks → All (IsCount s env) ns
    path none k d l = absurd (omega (arith, l))
    path (more {x = x} {y = y} g rest) zero d l
        = count_is s env x y (g.number.value env.level env.nodes) (g.has.has env.level env.nodes)
    path (more g rest) (suc k) d l = path rest k d (omega (arith, l))
