-- Numbers in 64 bits, and how a term is well formed, by its variants.
use Rattle.std.proofs.Common.{◌≡◌, ◌≢◌, ℕ, zero, suc, ◌+◌, ◌*◌, ◌/◌, ◌<◌, ◌≤◌, ℤ, pos, ◌≤ℤ◌, ◌+ℤ◌, ◌*ℤ◌, List, [], ◌∷◌}
use Rattle.std.proofs.Common.{◌++◌, map, length, get_or, slice_get, Option, Some, inl, inr, refl, sym, ap, ap₂, subst}
use Rattle.std.proofs.Common.{◌∙◌, arith}
use Rattle.std.specs.List.{All}
use Rattle.std.specs.Prelude.{int_div, nat_abs, Bool, true, false, if◌then◌else◌, ◌==◌}
use Rattle.std.proofs.Math.IntN.{pos-*ℤ-pos}
use Rattle.std.proofs.lemmas.Int.{ints}
use Rattle.sq_num.specs.declared.Elem.TheVariants.{Long}
use Rattle.sq_num.specs.Elements.{least, greatest, IsValue}
use Rattle.sq_text.specs.declared.spread.SpreadRule.{SpreadRule}
use Rattle.sq_ir.specs.Lifting.{lift}
use Rattle.sq_ir.specs.Written.{Setting, Env, value_of, at_turn, node_of, inside_of}
use Rattle.sq_ir.specs.Plans.{HasValue, IsCount, IsChild, IsBuffer, AskedOfActions, each_part, this_arm, Meets}
use Rattle.sq_ir.specs.declared.num.Num.{Num}
use Rattle.sq_ir.specs.declared.num.Num.TheVariants as n
use Rattle.sq_ir.specs.declared.term.Action.{Action}
use Rattle.sq_ir.specs.declared.term.Term.{Term}
use Rattle.sq_ir.specs.declared.term.Term.TheVariants as term
use Rattle.sq_term_laws.proofs.LiftHas.{lift_has}
use Rattle.sq_ir.proofs.Counting.{has_const, has_index, has_add, has_mul, has_div, has_rem, has_pick, has_children}
use Rattle.sq_term_laws.proofs.Meets.{meets_skip, meets_act, meets_seq, meets_par, meets_loop, meets_spread, meets_case}
use Rattle.sq_term_laws.proofs.Meets.{meets_within}
use Rattle.sq_term.specs.declared.context.Context.{Context}
use Rattle.sq_term.specs.Terms.{numbers, count_num}
use Rattle.sq_term_laws.specs.Fits.{Has, HaveCounts}
use Rattle.sq_term.proofs.Numbers.{numbers_are}

-- ---- numbers

-- what is less than a value of 64 bits
pub less_fits : (j k : ℕ) → j ≤ k → IsValue Long (pos k) → IsValue Long (pos j)
unfolding least greatest
less_fits j k l h = let high = h.high in record { low = omega (arith, ints); high = omega (arith, ints, l, high) }

pub zero_fits : IsValue Long (pos 0)
unfolding least greatest
zero_fits = record { low = omega (arith, ints); high = omega (arith, ints) }

pub length_numbers : (ns : List ℕ) → length (numbers ns) ≡ length ns
length_numbers [] = refl
length_numbers (x ∷ ns) = ap suc (length_numbers ns)

module _ (s : Setting) (env : Env) where
  pub const_has : (k : ℤ) → IsValue Long k → HasValue s (n.Const k) env
  const_has k h = subst (λ f. f env) (sym (has_const s k)) h

  pub add_has : (a b : Num) (x y : ℕ) → value_of s a env ≡ pos x → value_of s b env ≡ pos y → HasValue s a env
      → HasValue s b env → IsValue Long (pos (x + y)) → HasValue s (n.Add a b) env
  add_has a b x y v u h g k = subst (λ f. f env) (sym (has_add s a b))
      (h, g, subst (IsValue Long) (sym (ap₂ (λ p q. p +ℤ q) v u)) k)

  pub mul_has : (a b : Num) (x y : ℕ) → value_of s a env ≡ pos x → value_of s b env ≡ pos y → HasValue s a env
      → HasValue s b env → IsValue Long (pos (x * y)) → HasValue s (n.Mul a b) env
  mul_has a b x y v u h g k = subst (λ f. f env) (sym (has_mul s a b))
      (h, g, subst (IsValue Long) (sym (ap₂ (λ p q. p *ℤ q) v u ∙ pos-*ℤ-pos x y)) k)

  not_zero : (z : ℤ) (y : ℕ) → z ≡ pos y → 1 ≤ y → z ≢ pos 0
  not_zero z zero e l g = omega (arith, l)
  not_zero z (suc y) e l g = let f : pos (suc y) ≡ pos 0 = sym e ∙ g in cc

  pub div_has : (a b : Num) (x y : ℕ) → value_of s a env ≡ pos x → value_of s b env ≡ pos y → HasValue s a env
      → HasValue s b env → 1 ≤ y → IsValue Long (pos (x / y)) → HasValue s (n.Div a b) env
  div_has a b x y v u h g some k = subst (λ f. f env) (sym (has_div s a b))
      (h, g, not_zero (value_of s b env) y u some, subst (IsValue Long) (sym (ap₂ (λ p q. int_div p q) v u)) k)

  pub rem_has : (a b : Num) (y : ℕ) → value_of s b env ≡ pos y → HasValue s a env → HasValue s b env → 1 ≤ y
      → HasValue s (n.Rem a b) env
  rem_has a b y u h g some = subst (λ f. f env) (sym (has_rem s a b)) (h, g, not_zero (value_of s b env) y u some)

  pub pick_has : (ns : List ℕ) (a : Num) (x : ℕ) → value_of s a env ≡ pos x → HasValue s a env → x < length ns
      → IsValue Long (pos (get_or ns x 0)) → HasValue s (n.Pick (numbers ns) a) env
  pick_has ns a x v h l k = subst (λ f. f env) (sym (has_pick s (numbers ns) a)) (
    h,
    x,
    v,
    (let e = length_numbers ns in subst (λ (z : ℕ). x < z) (sym e) l),
    subst (IsValue Long)
        (sym (numbers_are ns x)) k,
  )

-- how many iterations a map has
pub counts_has : (s : Setting) (env : Env) (counts : List ℕ) (c : Context) (times k : ℕ)
    → value_of s c.ordinal env ≡ pos k → HasValue s c.ordinal env → HaveCounts counts times → k < times
    → IsValue Long (pos (get_or counts k 0)) → HasValue s (count_num counts c) env
counts_has s env counts c times k v h there l small = go (length counts == 0) refl there
  where
    go : (b : Bool) → (length counts == 0) ≡ b → HaveCounts counts times
        → HasValue s (if b then n.Const (pos 0) else n.Pick (numbers counts) c.ordinal) env
    go true e x = const_has s env (pos 0) zero_fits
    go false e (inl x) = let f : true ≡ false = sym x ∙ e in absurd (cc f)
    go false e (inr x) = pick_has s env counts c.ordinal k v h (omega (arith, l, x)) small

pub turn_has : (s : Setting) (env : Env) (t : ℕ) → IsValue Long (pos t) → HasValue s (n.Index 0) (at_turn env t)
turn_has s env t h = subst (λ f. f (at_turn env t)) (sym (has_index s 0)) (omega arith, h)

pub children_has : (s : Setting) (env : Env) → IsValue Long (pos (s.children (node_of env))) → HasValue s n.Children env
children_has s env h = subst (λ f. f env) (sym (has_children s)) h

pub has_lifted : (s : Setting) (turns : List ℕ) (x : Num) (t : ℕ) → Has s turns x → Has s (t ∷ turns) (lift 1 x)
has_lifted s turns x t h = record
    { has = λ level nodes. lift_has s t x (record { turns = turns; level = level; nodes = nodes }) (h.has level nodes) }

-- ---- terms

pub count_is : (s : Setting) (env : Env) (x : Num) (k : ℕ) → value_of s x env ≡ pos k → HasValue s x env
    → IsCount s env x
count_is s env x k v h = record { has = h; natural = subst (λ z. pos 0 ≤ℤ z) (sym v) (omega (arith, ints)) }

module _ (s : Setting) (asked : AskedOfActions) where
  pub fine_skip : (env : Env) (bs : List ℕ) → Meets s asked term.Skip env bs
  fine_skip env bs = subst (λ f. f env bs) (sym (meets_skip s asked)) tt

  pub fine_act : (env : Env) (bs : List ℕ) (a : Action) → asked env bs a → Meets s asked (term.Act a) env bs
  fine_act env bs a h = subst (λ f. f env bs) (sym (meets_act s asked a)) h

  pub fine_seq : (env : Env) (bs : List ℕ) (ts : List Term) → each_part (Meets s asked) ts env bs
      → Meets s asked (term.Seq ts) env bs
  fine_seq env bs ts h = subst (λ f. f env bs) (sym (meets_seq s asked ts)) h

  pub fine_par : (env : Env) (bs : List ℕ) (ts : List Term) → each_part (Meets s asked) ts env bs
      → Meets s asked (term.Par ts) env bs
  fine_par env bs ts h = subst (λ f. f env bs) (sym (meets_par s asked ts)) h

  pub fine_loop : (env : Env) (bs : List ℕ) (x : Num) (k : ℕ) (b : Term) → value_of s x env ≡ pos k → HasValue s x env
      → ((t : ℕ) → t < k → Meets s asked b (at_turn env t) bs) → Meets s asked (term.Loop x b) env bs
  fine_loop env bs x k b v h f = subst (λ g. g env bs) (sym (meets_loop s asked x b))
      (count_is s env x k v h, λ t l. f t (subst (λ (z : ℕ). t < z) (ap nat_abs v) l))

  pub fine_spread : (env : Env) (bs : List ℕ) (x : Num) (k : ℕ) (rule : SpreadRule) (b : Term) → value_of s x env
      ≡ pos k → HasValue s x env → 1 ≤ s.children (node_of env)
      → ((t : ℕ) → t < k → Meets s asked b (at_turn env t) bs) → Meets s asked (term.Spread x rule b) env bs
  fine_spread env bs x k rule b v h some f
      = subst (λ g. g env bs) (sym (meets_spread s asked x rule b))
      (count_is s env x k v h, some, λ t l. f t (subst (λ (z : ℕ). t < z) (ap nat_abs v) l))

  pub fine_case : (env : Env) (bs : List ℕ) (x : Num) (k : ℕ) (ts : List Term) → value_of s x env ≡ pos k
      → HasValue s x env → this_arm (Meets s asked) ts (pos k) env bs → Meets s asked (term.Case x ts) env bs
  fine_case env bs x k ts v h f = subst (λ g. g env bs) (sym (meets_case s asked x ts))
      (h, subst (λ (z : ℤ). this_arm (Meets s asked) ts z env bs) (sym v) f)

  pub fine_within : (env : Env) (bs : List ℕ) (c : Option Num) (new : List ℕ) (b : Term) → IsChild s env c
      → All (IsBuffer s (inside_of s env c).level) new → Meets s asked b (inside_of s env c) (new ++ bs)
      → Meets s asked (term.Within c new b) env bs
  fine_within env bs c new b h g f = subst (λ u. u env bs) (sym (meets_within s asked c new b)) (h, g, f)

  pub fine_all : {A : Type 0} (env : Env) (bs : List ℕ) (P : A → Type 0) (f : A → Term)
      → ((x : A) → P x → Meets s asked (f x) env bs) → (xs : List A) → All P xs
      → each_part (Meets s asked) (map f xs) env bs
  fine_all env bs P f h [] each = tt
  fine_all env bs P f h (x ∷ xs) each
      = (h x (each 0 x (omega arith)), fine_all env bs P f h xs (λ k d l. each (suc k) d (omega (arith, l))))

  pub fine_arm : {A : Type 0} (env : Env) (bs : List ℕ) (f : A → Term) (qs : List A) (k : ℕ) (q : A) → slice_get qs k
      ≡ Some q → Meets s asked (f q) env bs → this_arm (Meets s asked) (map f qs) (pos k) env bs
  fine_arm env bs f [] k q e h = cc
  fine_arm env bs f (x ∷ qs) zero q e h = let i : q ≡ x = cc in subst (λ y. Meets s asked (f y) env bs) i h
  fine_arm env bs f (x ∷ qs) (suc k) q e h = fine_arm env bs f qs k q e h
