-- A constant of a leaf variant is worth the same where more numbers are known.
use Rattle.std.proofs.Common.{◌≡◌, Bool, true, false, ℤ, List, [], ◌∷◌, map, Option, Some, None, Result, Ok, Err, refl}
use Rattle.std.proofs.Common.{sym, ap, ◌∙◌, subst}
use Rattle.std.specs.Map.{lookup}
use Rattle.sq_text.specs.Names.{Bytes, same_name}
use Rattle.sq_ast.specs.declared.expr.ArgUse.{ArgUse}
use Rattle.sq_ast.specs.declared.expr.Link.{Link, roll-Link, out-Link}
use Rattle.sq_ast.specs.declared.expr.Expr.{Expr, roll-Expr}
use Rattle.sq_ast.specs.declared.expr.Expr.TheVariants as e
use Rattle.sq_ast.specs.declared.expr.Expr.TheOpen.{Expr-F, Link-F}
use Rattle.sq_ast.specs.declared.expr.Expr.TheFolds.{ind-Expr, map-Expr, map-Link}
use Rattle.sq_types.specs.declared.kind.Kind.{Kind}
use Rattle.sq_types.specs.Known.{Known, kind_of}
use Rattle.sq_types.specs.Table.{is_number, is_list}
use Rattle.sq_types.specs.Sound.{is_kind, is_sound_expr, is_sound_link, are_sound_links}
use Rattle.sq_types.proofs.SoundExprs.{sound_link, sound_name, sound_len, sound_unary, sound_chain}
use Rattle.sq_blocks.specs.Names.{Numbers, Lists, number_of, or_zero}
use Rattle.sq_blocks.specs.Constants.{Bad, Worth, Turn, then_by, turns, unary, binary, worth, link_turn, expr_step}
use Rattle.sq_blocks.proofs.Opened.{turn_out, worth_number, worth_name, worth_element, worth_unary, worth_chain}
use Rattle.sq_blocks.proofs.Opened.{worth_least, worth_most}
use Rattle.sq_form_laws.proofs.Shapes.{KeptIn}
use Rattle.sq_homes.proofs.SpecLaws.Sorted.{both}

-- each name that is known as a number stands for one, and none is known as a list
pub record Tells (known : Known) (numbers : Numbers) : Type 0 where
  pub number : (name : Bytes) (k : Kind) → kind_of known name ≡ Some k → is_number k ≡ true → (m : ℤ)
      × (lookup (same_name name) numbers ≡ Some m)
  pub no_list : (name : Bytes) (k : Kind) → kind_of known name ≡ Some k → is_list k ≡ false

then_same : (r q : Result ℤ Bad) (f g : ℤ → Result ℤ Bad) → r ≡ q → ((n : ℤ) → f n ≡ g n) → then_by r f ≡ then_by q g
then_same (Ok n) q f g h same = same n ∙ ap (λ (w : Result ℤ Bad). then_by w g) h
then_same (Err bad) q f g h same = ap (λ (w : Result ℤ Bad). then_by w g) h

module _ (known : Known) (numbers last : Numbers) (lists : Lists) (tells : Tells known numbers)
    (kept : KeptIn numbers last) where
  abbrev pub SameExpr : Expr → Type 0
  SameExpr x = is_sound_expr x known ≡ true → worth x numbers lists ≡ worth x last []

  abbrev SameUse : ArgUse → Type 0
  SameUse u = Unit {0}

  abbrev SameLink : Link → Type 0
  SameLink l = is_sound_link l known ≡ true → (n : ℤ) → link_turn l numbers lists n ≡ link_turn l last [] n

  abbrev E : Type 0
  E = (x : Expr) × SameExpr x

  abbrev U : Type 0
  U = (u : ArgUse) × SameUse u

  abbrev L : Type 0
  L = (l : Link) × SameLink l

  across : (x : Expr) (w : Worth) → worth x ≡ w → (is_sound_expr x known ≡ true → w numbers lists ≡ w last [])
      → SameExpr x
  across x w is f h = ap (λ (u : Worth). u numbers lists) is ∙ (f h ∙ sym (ap (λ (u : Worth). u last []) is))

  name_same : (name : Bytes) (o : Option Kind) → kind_of known name ≡ o → is_kind is_number o ≡ true
      → number_of numbers name ≡ number_of last name
  name_same name None is h = absurd (cc h)
  name_same name (Some k) is h =
      let m = tells.number name k is h in
      ap or_zero m.1 ∙ sym (ap or_zero (kept name m.0 m.1))

  no_list_named : (name : Bytes) (o : Option Kind) → kind_of known name ≡ o → is_kind is_list o ≡ true → ⊥
  no_list_named name None is h = absurd (cc h)
  no_list_named name (Some k) is h =
      let none : is_list k ≡ false = tells.no_list name k is in absurd (cc (sym none ∙ h))

  same_turns : (ps : List L) → are_sound_links (map (λ (p : L). p.0) ps) known ≡ true → (n : ℤ)
      → turns (map link_turn (map (λ (p : L). p.0) ps)) numbers lists n
      ≡ turns (map link_turn (map (λ (p : L). p.0) ps)) last [] n
  same_turns [] h n = refl
  same_turns (p ∷ ps) h n =
      let b = both (is_sound_link p.0 known) (are_sound_links (map (λ (p : L). p.0) ps) known) h in
      then_same (link_turn p.0 numbers lists n) (link_turn p.0 last [] n) _ _ (p.1 b.0 n) (λ m. same_turns ps b.1 m)

  same_step : (y : Expr-F E U L)
      → SameExpr (roll-Expr (map-Expr E U L Expr ArgUse Link (λ p. p.0) (λ p. p.0) (λ p. p.0) y))
  same_step (Expr-F.Number n) = subst SameExpr (sym (e.rolls-Number n))
      (across (e.Number n) (expr_step (Expr-F.Number n)) (worth_number n) (λ h. refl))
  same_step (Expr-F.Name w) = subst SameExpr (sym (e.rolls-Name w))
      (across (e.Name w) (expr_step (Expr-F.Name w)) (worth_name w)
      (λ h. ap (λ (m : ℤ). Ok m) (name_same w.name (kind_of known w.name) refl
      (sym (ap (λ (t : Known → Bool). t known) (sound_name w)) ∙ h))))
  same_step (Expr-F.Element u) = subst SameExpr (sym (e.rolls-Element u.0))
      (across (e.Element u.0) (expr_step (Expr-F.Element tt)) (worth_element u.0) (λ h. refl))
  same_step (Expr-F.Len w) = subst SameExpr (sym (e.rolls-Len w))
      (λ h. absurd (no_list_named w.name (kind_of known w.name) refl
      (sym (ap (λ (t : Known → Bool). t known) (sound_len w)) ∙ h)))
  same_step (Expr-F.Unary p op x) = subst SameExpr (sym (e.rolls-Unary p op x.0))
      (across (e.Unary p op x.0) (expr_step (Expr-F.Unary p op (worth x.0))) (worth_unary p op x.0)
      (λ h. ap (λ (r : Result ℤ Bad). then_by r (unary p op))
      (x.1 (sym (ap (λ (t : Known → Bool). t known) (sound_unary p op x.0)) ∙ h))))
  same_step (Expr-F.Chain x ls) =
      let ys = map (λ (p : L). p.0) ls in
      subst SameExpr (sym (e.rolls-Chain x.0 ys))
      (across (e.Chain x.0 ys) (expr_step (Expr-F.Chain (worth x.0) (map link_turn ys))) (worth_chain x.0 ys)
      (λ h.
      let b = both (is_sound_expr x.0 known) (are_sound_links ys known)
      (sym (ap (λ (t : Known → Bool). t known) (sound_chain x.0 ys)) ∙ h) in
      then_same (worth x.0 numbers lists) (worth x.0 last []) _ _ (x.1 b.0) (λ n. same_turns ls b.1 n)))
  same_step (Expr-F.Least x y) = subst SameExpr (sym (e.rolls-Least x.0 y.0))
      (across (e.Least x.0 y.0) (expr_step (Expr-F.Least (worth x.0) (worth y.0))) (worth_least x.0 y.0) (λ h. refl))
  same_step (Expr-F.Most x y) = subst SameExpr (sym (e.rolls-Most x.0 y.0))
      (across (e.Most x.0 y.0) (expr_step (Expr-F.Most (worth x.0) (worth y.0))) (worth_most x.0 y.0) (λ h. refl))

  link_same : (l : Link) → SameExpr (out-Link l).right → SameLink l
  link_same l f h n =
      ap (λ (t : Turn). t numbers lists n) (turn_out l)
      ∙ (ap (λ (r : Result ℤ Bad). then_by r (binary (out-Link l).place (out-Link l).op n))
      (f (sym (ap (λ (t : Known → Bool). t known) (sound_link l)) ∙ h))
      ∙ sym (ap (λ (t : Turn). t last [] n) (turn_out l)))

  same_link_step : (y : Link-F E U L)
      → SameLink (roll-Link (map-Link E U L Expr ArgUse Link (λ p. p.0) (λ p. p.0) (λ p. p.0) y))
  same_link_step y =
      link_same (roll-Link (map-Link E U L Expr ArgUse Link (λ p. p.0) (λ p. p.0) (λ p. p.0) y)) y.right.1

  pub worth_same : (x : Expr) → SameExpr x
  worth_same = ind-Expr SameExpr SameUse SameLink (λ x y is. subst (λ z. SameExpr (roll-Expr z)) is (same_step y))
      (λ x y is. tt) (λ x y is. subst (λ z. SameLink (roll-Link z)) is (same_link_step y))
