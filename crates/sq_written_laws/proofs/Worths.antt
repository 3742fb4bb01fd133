-- What constants of a leaf are worth, and its shapes, don't depend on the places of its text.
use Rattle.std.proofs.Common.{◌≡◌, Bool, true, false, ℤ, pos, List, [], ◌∷◌, ◌++◌, map, Result, Ok, Err, refl, sym, ap, ap₂, ◌∙◌, subst}
use Rattle.std.specs.Prelude.{if◌then◌else◌, neg_ℤ, ◌+ℤ◌, ◌-ℤ◌, ◌*ℤ◌, int_div, int_rem}
use Rattle.sq_text.specs.declared.place.Place.{Place}
use Rattle.sq_ast.specs.declared.expr.UnOp.{UnOp}
use Rattle.sq_ast.specs.declared.expr.UnOp.TheVariants.{Neg, Not, Inv}
use Rattle.sq_ast.specs.declared.expr.BinOp.{BinOp}
use Rattle.sq_ast.specs.declared.expr.BinOp.TheVariants as op
use Rattle.sq_ast.specs.declared.expr.ArgUse.{ArgUse}
use Rattle.sq_ast.specs.declared.expr.Link.{Link, roll-Link}
use Rattle.sq_ast.specs.declared.expr.Expr.{Expr, roll-Expr}
use Rattle.sq_ast.specs.declared.expr.Expr.TheVariants as e
use Rattle.sq_ast.specs.declared.expr.Expr.TheOpen.{Expr-F, Link-F}
use Rattle.sq_ast.specs.declared.expr.Expr.TheFolds.{ind-Expr, map-Expr, map-Link, fold-roll-Link}
use Rattle.sq_ast.specs.declared.program.Extent.{Extent}
use Rattle.sq_ast.specs.declared.program.Extent.TheVariants as extent
use Rattle.sq_ast.specs.declared.program.Param.{Param}
use Rattle.sq_ast.specs.declared.program.Decl.{Decl}
use Rattle.sq_ast.specs.declared.program.Decl.TheVariants as decl
use Rattle.sq_ast.specs.declared.program.Variant.{Variant}
use Rattle.sq_ast.specs.Modes.{is_written}
use Rattle.sq_ast.specs.Unplaced.{nowhere, bare_word, bare_expr, bare_use, bare_link, bare_extent, bare_param, bare_decl, bare_variant}
use Rattle.sq_blocks.specs.Names.{Numbers, Lists}
use Rattle.sq_blocks.specs.declared.fault.ConstFault.TheVariants.{DivZero, Overflow}
use Rattle.sq_blocks.specs.Constants.{Bad, Worth, Turn, then_by, fits, bounded, is_zero, unary, binary, turns, expr_step, use_step, link_step, worth, link_turn}
use Rattle.sq_blocks.proofs.Opened.{worth_number, worth_name, worth_len, worth_element, worth_unary, worth_chain, worth_least, worth_most}
use Rattle.sq_leaf.specs.Leaf.{local_flags, written_of}
use Rattle.sq_ir.specs.Events.{Shape}
use Rattle.sq_ir.specs.DraftLeaves.{extent_of, param_shape, nat_worth, local_shapes, shapes_of}
use Rattle.sq_ast.proofs.Bare.{bare_number, bare_name, bare_element, bare_len, bare_unary, bare_chain, bare_least, bare_most, link_is}

-- ---- constants

-- the same number, or faults of one kind
abbrev pub Alike : Result ℤ Bad → Result ℤ Bad → Type 0
Alike (Ok x) (Ok y) = x ≡ y
Alike (Ok x) (Err c) = ⊥
Alike (Err b) (Ok y) = ⊥
Alike (Err b) (Err c) = b.0 ≡ c.0

then_alike : (r q : Result ℤ Bad) (f g : ℤ → Result ℤ Bad) → Alike r q → ((n : ℤ) → Alike (f n) (g n)) → Alike (then_by r f) (then_by q g)
then_alike (Ok x) (Ok y) f g h k = subst (λ z. Alike (f x) (g z)) h (k x)
then_alike (Ok x) (Err c) f g h k = absurd h
then_alike (Err b) (Ok y) f g h k = absurd h
then_alike (Err b) (Err c) f g h k = h

bounded_alike : (p q : Place) (n : ℤ) → Alike (bounded p n) (bounded q n)
bounded_alike p q n = by (fits n)
  where
    by : (v : Bool) → Alike (if v then Ok n else Err (Overflow, p)) (if v then Ok n else Err (Overflow, q))
    by true = refl
    by false = refl

divided_alike : (p q : Place) (b : ℤ) (r s : Result ℤ Bad) → Alike r s → Alike (if is_zero b then Err (DivZero, p) else r) (if is_zero b then Err (DivZero, q) else s)
divided_alike p q b r s h = by (is_zero b)
  where
    by : (v : Bool) → Alike (if v then Err (DivZero, p) else r) (if v then Err (DivZero, q) else s)
    by true = refl
    by false = h

unary_alike : (p q : Place) (o : UnOp) (n : ℤ) → Alike (unary p o n) (unary q o n)
unary_alike p q Neg n = bounded_alike p q (neg_ℤ n)
unary_alike p q Not n = refl
unary_alike p q Inv n = refl

binary_alike : (p q : Place) (o : BinOp) (a b : ℤ) → Alike (binary p o a b) (binary q o a b)
binary_alike p q op.Add a b = bounded_alike p q (a +ℤ b)
binary_alike p q op.Sub a b = bounded_alike p q (a -ℤ b)
binary_alike p q op.Mul a b = bounded_alike p q (a *ℤ b)
binary_alike p q op.Div a b = divided_alike p q b (bounded p (int_div a b)) (bounded q (int_div a b)) (bounded_alike p q (int_div a b))
binary_alike p q op.Rem a b = divided_alike p q b (Ok (int_rem a b)) (Ok (int_rem a b)) refl
binary_alike p q op.OrElse a b = refl
binary_alike p q op.AndAlso a b = refl
binary_alike p q op.Or a b = refl
binary_alike p q op.Xor a b = refl
binary_alike p q op.And a b = refl
binary_alike p q op.Same a b = refl
binary_alike p q op.Differ a b = refl
binary_alike p q op.Less a b = refl
binary_alike p q op.AtMost a b = refl
binary_alike p q op.More a b = refl
binary_alike p q op.AtLeast a b = refl
binary_alike p q op.Shl a b = refl
binary_alike p q op.Shr a b = refl

abbrev SameExpr : Expr → Type 0
SameExpr x = (numbers : Numbers) (lists : Lists) → Alike (worth (bare_expr x) numbers lists) (worth x numbers lists)

abbrev SameUse : ArgUse → Type 0
SameUse u = Unit {0}

abbrev SameLink : Link → Type 0
SameLink l = (numbers : Numbers) (lists : Lists) (n : ℤ) → Alike (link_turn (bare_link l) numbers lists n) (link_turn l numbers lists n)

abbrev E : Type 0
E = (x : Expr) × SameExpr x

abbrev U : Type 0
U = (u : ArgUse) × SameUse u

abbrev L : Type 0
L = (l : Link) × SameLink l

across : (x : Expr) (v w : Worth) → worth (bare_expr x) ≡ v → worth x ≡ w → ((numbers : Numbers) (lists : Lists) → Alike (v numbers lists) (w numbers lists)) → SameExpr x
across x v w p q h numbers lists =
    subst (λ (f : Worth). Alike (f numbers lists) (worth x numbers lists)) (sym p) (subst (λ (f : Worth). Alike (v numbers lists) (f numbers lists)) (sym q) (h numbers lists))

turns_alike : (ls : List L) (numbers : Numbers) (lists : Lists) (n : ℤ)
    → Alike (turns (map link_turn (map bare_link (map (λ m. m.0) ls))) numbers lists n) (turns (map link_turn (map (λ m. m.0) ls)) numbers lists n)
turns_alike [] numbers lists n = refl
turns_alike (l ∷ ls) numbers lists n =
    then_alike (link_turn (bare_link l.0) numbers lists n) (link_turn l.0 numbers lists n) _ _ (l.1 numbers lists n) (λ k. turns_alike ls numbers lists k)

expr_same : (y : Expr-F E U L) → SameExpr (roll-Expr (map-Expr E U L Expr ArgUse Link (λ p. p.0) (λ p. p.0) (λ p. p.0) y))
expr_same (Expr-F.Number n) = subst SameExpr (sym (e.rolls-Number n)) (across (e.Number n) _ _ (ap worth (bare_number n) ∙ worth_number n) (worth_number n) (λ ns ls. refl))
expr_same (Expr-F.Name w) = subst SameExpr (sym (e.rolls-Name w)) (across (e.Name w) _ _ (ap worth (bare_name w) ∙ worth_name (bare_word w)) (worth_name w) (λ ns ls. refl))
expr_same (Expr-F.Element u) = subst SameExpr (sym (e.rolls-Element u.0)) (across (e.Element u.0) _ _ (ap worth (bare_element u.0) ∙ worth_element (bare_use u.0)) (worth_element u.0) (λ ns ls. refl))
expr_same (Expr-F.Len w) = subst SameExpr (sym (e.rolls-Len w)) (across (e.Len w) _ _ (ap worth (bare_len w) ∙ worth_len (bare_word w)) (worth_len w) (λ ns ls. refl))
expr_same (Expr-F.Unary p o x) = subst SameExpr (sym (e.rolls-Unary p o x.0)) (across (e.Unary p o x.0) _ _ (ap worth (bare_unary p o x.0) ∙ worth_unary nowhere o (bare_expr x.0)) (worth_unary p o x.0)
    (λ ns ls. then_alike (worth (bare_expr x.0) ns ls) (worth x.0 ns ls) _ _ (x.1 ns ls) (λ n. unary_alike nowhere p o n)))
expr_same (Expr-F.Chain x ls) =
    let links = map (λ m. m.0) ls in
    subst SameExpr (sym (e.rolls-Chain x.0 links)) (across (e.Chain x.0 links) _ _ (ap worth (bare_chain x.0 links) ∙ worth_chain (bare_expr x.0) (map bare_link links)) (worth_chain x.0 links)
    (λ ns ks. then_alike (worth (bare_expr x.0) ns ks) (worth x.0 ns ks) _ _ (x.1 ns ks) (λ n. turns_alike ls ns ks n)))
expr_same (Expr-F.Least x y) = subst SameExpr (sym (e.rolls-Least x.0 y.0)) (across (e.Least x.0 y.0) _ _ (ap worth (bare_least x.0 y.0) ∙ worth_least (bare_expr x.0) (bare_expr y.0)) (worth_least x.0 y.0) (λ ns ls. refl))
expr_same (Expr-F.Most x y) = subst SameExpr (sym (e.rolls-Most x.0 y.0)) (across (e.Most x.0 y.0) _ _ (ap worth (bare_most x.0 y.0) ∙ worth_most (bare_expr x.0) (bare_expr y.0)) (worth_most x.0 y.0) (λ ns ls. refl))

link_same : (y : Link-F E U L) → SameLink (roll-Link (map-Link E U L Expr ArgUse Link (λ p. p.0) (λ p. p.0) (λ p. p.0) y))
link_same y ns ls n =
    let was = ap link_turn (link_is y.place y.op y.right.0) ∙ fold-roll-Link Worth (Unit {0}) Turn expr_step use_step link_step (record { place = nowhere; op = y.op; right = bare_expr y.right.0 }) in
    let now = fold-roll-Link Worth (Unit {0}) Turn expr_step use_step link_step (record { place = y.place; op = y.op; right = y.right.0 }) in
    subst (λ (f : Turn). Alike (f ns ls n) (link_turn (roll-Link (record { place = y.place; op = y.op; right = y.right.0 })) ns ls n)) (sym was)
    (subst (λ (f : Turn). Alike (then_by (worth (bare_expr y.right.0) ns ls) (binary nowhere y.op n)) (f ns ls n)) (sym now)
    (then_alike (worth (bare_expr y.right.0) ns ls) (worth y.right.0 ns ls) _ _ (y.right.1 ns ls) (λ k. binary_alike nowhere y.place y.op n k)))

pub same_worth : (x : Expr) (numbers : Numbers) (lists : Lists)
    → Alike (worth (bare_expr x) numbers lists) (worth x numbers lists)
same_worth = ind-Expr SameExpr SameUse SameLink (λ x y is. subst (λ z. SameExpr (roll-Expr z)) is (expr_same y)) (λ x y is. tt) (λ x y is. subst (λ z. SameLink (roll-Link z)) is (link_same y))

nat_alike : (r q : Result ℤ Bad) → Alike r q → nat_worth r ≡ nat_worth q
nat_alike (Ok x) (Ok y) h = ap (λ (z : ℤ). nat_worth (Ok z)) h
nat_alike (Ok x) (Err c) h = absurd h
nat_alike (Err b) (Ok y) h = absurd h
nat_alike (Err b) (Err c) h = refl

-- ---- shapes, and what is written

module _ (numbers : Numbers) where
  extents_bare : (es : List Extent) → map (extent_of numbers) (map bare_extent es) ≡ map (extent_of numbers) es
  extents_bare [] = refl
  extents_bare (extent.Size p n ∷ es) = ap (λ ns. extent_of numbers (extent.Size p n) ∷ ns) (extents_bare es)
  extents_bare (extent.Fixed p n ∷ es) = ap (λ ns. extent_of numbers (extent.Fixed p n) ∷ ns) (extents_bare es)

  params_bare : (ps : List Param) → map (param_shape numbers) (map bare_param ps) ≡ map (param_shape numbers) ps
  params_bare [] = refl
  params_bare (p ∷ ps) = ap₂ (λ es ss. record { elem = p.elem; extents = es } ∷ ss) (extents_bare p.extents) (params_bare ps)

  worths_bare : (xs : List Expr) → map (λ x. nat_worth (worth x numbers [])) (map bare_expr xs) ≡ map (λ x. nat_worth (worth x numbers [])) xs
  worths_bare [] = refl
  worths_bare (x ∷ xs) = ap₂ (λ n ns. n ∷ ns) (nat_alike (worth (bare_expr x) numbers []) (worth x numbers []) (same_worth x numbers [])) (worths_bare xs)

  locals_bare : (ds : List Decl) → local_shapes numbers (map bare_decl ds) ≡ local_shapes numbers ds
  locals_bare [] = refl
  locals_bare (decl.Tunable p n ∷ ds) = locals_bare ds
  locals_bare (decl.List p n ∷ ds) = locals_bare ds
  locals_bare (decl.Local p t n xs ∷ ds) = ap₂ (λ es ss. record { elem = t; extents = es } ∷ ss) (worths_bare xs) (locals_bare ds)
  locals_bare (decl.Rchop p n a xs ∷ ds) = locals_bare ds
  locals_bare (decl.Ichop p n a b c ∷ ds) = locals_bare ds

  shapes_bare : (v : Variant) → shapes_of (record { variant = bare_variant v; numbers = numbers }) ≡ shapes_of (record { variant = v; numbers = numbers })
  shapes_bare v = ap₂ (λ ps ls. ps ++ ls) (params_bare v.params) (locals_bare v.decls)

  pub shapes_same : (v u : Variant) → bare_variant v ≡ bare_variant u → shapes_of (record { variant = v; numbers = numbers }) ≡ shapes_of (record { variant = u; numbers = numbers })
  shapes_same v u h = sym (shapes_bare v) ∙ ap (λ b. shapes_of (record { variant = b; numbers = numbers })) h ∙ shapes_bare u

modes_bare : (ps : List Param) → map (λ p. is_written p.mode) (map bare_param ps) ≡ map (λ p. is_written p.mode) ps
modes_bare [] = refl
modes_bare (p ∷ ps) = ap (λ ws. is_written p.mode ∷ ws) (modes_bare ps)

flags_bare : (ds : List Decl) → local_flags (map bare_decl ds) ≡ local_flags ds
flags_bare [] = refl
flags_bare (decl.Tunable p n ∷ ds) = flags_bare ds
flags_bare (decl.List p n ∷ ds) = flags_bare ds
flags_bare (decl.Local p t n xs ∷ ds) = ap (λ ws. true ∷ ws) (flags_bare ds)
flags_bare (decl.Rchop p n a xs ∷ ds) = flags_bare ds
flags_bare (decl.Ichop p n a b c ∷ ds) = flags_bare ds

written_bare : (v : Variant) → written_of (bare_variant v) ≡ written_of v
written_bare v = ap₂ (λ ps ls. ps ++ ls) (modes_bare v.params) (flags_bare v.decls)

pub written_same : (v u : Variant) → bare_variant v ≡ bare_variant u → written_of v ≡ written_of u
written_same v u h = sym (written_bare v) ∙ ap written_of h ∙ written_bare u
