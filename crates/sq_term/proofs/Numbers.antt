-- Values of numbers that are built of others.
use Rattle.std.proofs.Common.{◌≡◌, ℕ, zero, suc, ◌+◌, ◌*◌, ◌/◌, ◌%◌, ℤ, pos, ◌+ℤ◌, ◌-ℤ◌, ◌*ℤ◌, List, [], ◌∷◌, get_or}
use Rattle.std.proofs.Common.{refl, sym, ap, ap₂, ◌∙◌, arith}
use Rattle.std.proofs.lemmas.Int.{ints}
use Rattle.std.specs.Prelude.{int_div, int_rem, int_lt, nat_abs, Bool, true, false, if◌then◌else◌, ◌==◌, length}
use Rattle.std.proofs.lemmas.Bool.Decides.{nat_tests}
use Rattle.std.proofs.Math.IntN.{pos-*ℤ-pos}
use Rattle.sq_ir.specs.Written.{Setting, Env, value_of, node_of}
use Rattle.sq_ir.specs.Lifting.{lift}
use Rattle.sq_ir.specs.declared.num.Num.{Num}
use Rattle.sq_ir.specs.declared.num.Num.TheVariants as n
use Rattle.sq_ir.proofs.Equations.{value_const, value_index, value_add, value_mul, value_div, value_rem, value_pick}
use Rattle.sq_ir.proofs.Equations.{value_sub, value_min, value_children}
use Rattle.sq_ir.proofs.LiftOnce.{lift_one}
use Rattle.sq_term.specs.declared.context.Context.{Context}
use Rattle.sq_term.specs.Terms.{numbers, count_num}
use Rattle.sq_term.specs.Stands.{IsNumber}

pub minus : (x y z : ℕ) → y + z ≡ x → pos x -ℤ pos y ≡ pos z
minus x y z e = omega (arith, ints, e)

-- 0 of 0, and 1 of all others
abbrev pub one_at_most : ℕ → ℕ
one_at_most zero = 0
one_at_most (suc n) = 1

lesser : (x : ℕ) → (if int_lt (pos 1) (pos x) then pos 1 else pos x) ≡ pos (one_at_most x)
lesser zero = refl
lesser (suc n) = go (int_lt (pos 1) (pos (suc n))) refl
  where
    go : (b : Bool) → int_lt (pos 1) (pos (suc n)) ≡ b → (if b then pos 1 else pos (suc n)) ≡ pos 1
    go true e = refl
    go false e = grind (arith, ints, nat_tests, e)

module _ (s : Setting) (env : Env) where
  pub const_is : (k : ℤ) → value_of s (n.Const k) env ≡ k
  const_is k = ap (λ f. f env) (value_const s k)

  pub index_is : (d : ℕ) → value_of s (n.Index d) env ≡ pos (get_or env.turns d 0)
  index_is d = ap (λ f. f env) (value_index s d)

  pub add_is : (a b : Num) (x y : ℕ) → value_of s a env ≡ pos x → value_of s b env ≡ pos y → value_of s (n.Add a b) env
      ≡ pos (x + y)
  add_is a b x y h k = ap (λ f. f env) (value_add s a b) ∙ ap₂ (λ u v. u +ℤ v) h k

  pub sub_is : (a b : Num) (x y z : ℕ) → y + z ≡ x → value_of s a env ≡ pos x → value_of s b env ≡ pos y
      → value_of s (n.Sub a b) env ≡ pos z
  sub_is a b x y z e h k = ap (λ f. f env) (value_sub s a b) ∙ ap₂ (λ u v. u -ℤ v) h k ∙ minus x y z e

  pub some_is : (a : Num) (x : ℕ) → value_of s a env ≡ pos x
      → value_of s (n.Min a (n.Const (pos 1))) env ≡ pos (one_at_most x)
  some_is a x h = ap (λ f. f env) (value_min s a (n.Const (pos 1)))
      ∙ ap₂ (λ u v. if int_lt v u then v else u) h (const_is (pos 1)) ∙ lesser x

  pub mul_is : (a b : Num) (x y : ℕ) → value_of s a env ≡ pos x → value_of s b env ≡ pos y → value_of s (n.Mul a b) env
      ≡ pos (x * y)
  mul_is a b x y h k = ap (λ f. f env) (value_mul s a b) ∙ ap₂ (λ u v. u *ℤ v) h k ∙ pos-*ℤ-pos x y

  pub div_is : (a b : Num) (x y : ℕ) → value_of s a env ≡ pos x → value_of s b env ≡ pos y → value_of s (n.Div a b) env
      ≡ pos (x / y)
  div_is a b x y h k = ap (λ f. f env) (value_div s a b) ∙ ap₂ (λ u v. int_div u v) h k

  pub rem_is : (a b : Num) (x y : ℕ) → value_of s a env ≡ pos x → value_of s b env ≡ pos y → value_of s (n.Rem a b) env
      ≡ pos (x % y)
  rem_is a b x y h k = ap (λ f. f env) (value_rem s a b) ∙ ap₂ (λ u v. int_rem u v) h k

  pub pick_is : (ks : List ℤ) (a : Num) (x : ℕ) → value_of s a env ≡ pos x → value_of s (n.Pick ks a) env
      ≡ get_or ks x (pos 0)
  pick_is ks a x h = ap (λ f. f env) (value_pick s ks a) ∙ ap (λ u. get_or ks (nat_abs u) (pos 0)) h

  pub children_is : value_of s n.Children env ≡ pos (s.children (node_of env))
  children_is = ap (λ f. f env) (value_children s)

-- a table of numbers has each of them, and 0 behind them
pub numbers_are : (ns : List ℕ) (k : ℕ) → get_or (numbers ns) k (pos 0) ≡ pos (get_or ns k 0)
numbers_are [] k = refl
numbers_are (n ∷ ns) zero = refl
numbers_are (n ∷ ns) (suc k) = numbers_are ns k

pub table_is : (s : Setting) (env : Env) (ns : List ℕ) (a : Num) (x : ℕ) → value_of s a env ≡ pos x
    → value_of s (n.Pick (numbers ns) a) env ≡ pos (get_or ns x 0)
table_is s env ns a x h = pick_is s env (numbers ns) a x h ∙ numbers_are ns x

pub none_counted : (counts : List ℕ) (k : ℕ) → (length counts == 0) ≡ true → get_or counts k 0 ≡ 0
none_counted [] k h = refl
none_counted (x ∷ counts) k h = grind (arith, nat_tests)

pub count_is : (s : Setting) (env : Env) (counts : List ℕ) (c : Context) (k : ℕ) → value_of s c.ordinal env ≡ pos k
    → value_of s (count_num counts c) env ≡ pos (get_or counts k 0)
count_is s env counts c k h = go (length counts == 0) refl
  where
    go : (b : Bool) → (length counts == 0) ≡ b
        → value_of s (if b then n.Const (pos 0) else n.Pick (numbers counts) c.ordinal) env ≡ pos (get_or counts k 0)
    go true e = const_is s env (pos 0) ∙ ap pos (sym (none_counted counts k e))
    go false e = table_is s env counts c.ordinal k h

-- ---- numbers whatever the node in force

-- a number under one loop more
pub lifted_is : (s : Setting) (turns : List ℕ) (x : Num) (k t : ℕ) → IsNumber s turns x k
    → IsNumber s (t ∷ turns) (lift 1 x) k
lifted_is s turns x k t h = record {
  value = λ level nodes. lift_one s t x (record { turns = turns; level = level; nodes = nodes })
      ∙ h.value level nodes;
}

pub constant : (s : Setting) (turns : List ℕ) (k : ℕ) → IsNumber s turns (n.Const (pos k)) k
constant s turns k = record {
  value = λ level nodes. const_is s (record { turns = turns; level = level; nodes = nodes })
      (pos k);
}

pub turn : (s : Setting) (turns : List ℕ) (t : ℕ) → IsNumber s (t ∷ turns) (n.Index 0) t
turn s turns t = record {
  value = λ level nodes. index_is s (record { turns = t ∷ turns; level = level; nodes = nodes })
      0;
}

pub sum : (s : Setting) (turns : List ℕ) (a b : Num) (x y : ℕ) → IsNumber s turns a x → IsNumber s turns b y
    → IsNumber s turns (n.Add a b) (x + y)
sum s turns a b x y h k = record {
  value = λ level nodes. add_is s (record { turns = turns; level = level; nodes = nodes }) a b x y (h.value level nodes)
      (k.value level nodes);
}

pub picked : (s : Setting) (turns : List ℕ) (ns : List ℕ) (a : Num) (x : ℕ) → IsNumber s turns a x
    → IsNumber s turns (n.Pick (numbers ns) a) (get_or ns x 0)
picked s turns ns a x h = record {
  value = λ level nodes. table_is s (record { turns = turns; level = level; nodes = nodes }) ns a x
      (h.value level nodes);
}

pub difference : (s : Setting) (turns : List ℕ) (a b : Num) (x y z : ℕ) → y + z ≡ x → IsNumber s turns a x
    → IsNumber s turns b y → IsNumber s turns (n.Sub a b) z
difference s turns a b x y z e h k = record {
  value = λ level nodes. sub_is s (record { turns = turns; level = level; nodes = nodes }) a b x y z e
      (h.value level nodes) (k.value level nodes);
}

pub product : (s : Setting) (turns : List ℕ) (a b : Num) (x y : ℕ) → IsNumber s turns a x → IsNumber s turns b y
    → IsNumber s turns (n.Mul a b) (x * y)
product s turns a b x y h k = record {
  value = λ level nodes. mul_is s (record { turns = turns; level = level; nodes = nodes }) a b x y (h.value level nodes)
      (k.value level nodes);
}

pub quotient : (s : Setting) (turns : List ℕ) (a b : Num) (x y : ℕ) → IsNumber s turns a x → IsNumber s turns b y
    → IsNumber s turns (n.Div a b) (x / y)
quotient s turns a b x y h k = record {
  value = λ level nodes. div_is s (record { turns = turns; level = level; nodes = nodes }) a b x y (h.value level nodes)
      (k.value level nodes);
}

-- of the loop so many further out
pub index : (s : Setting) (turns : List ℕ) (d : ℕ) → IsNumber s turns (n.Index d) (get_or turns d 0)
index s turns d = record {
  value = λ level nodes. index_is s (record { turns = turns; level = level; nodes = nodes }) d;
}

pub counted : (s : Setting) (turns counts : List ℕ) (c : Context) (k : ℕ) → IsNumber s turns c.ordinal k
    → IsNumber s turns (count_num counts c) (get_or counts k 0)
counted s turns counts c k h = record {
  value = λ level nodes. count_is s (record { turns = turns; level = level; nodes = nodes }) counts c k
      (h.value level nodes);
}
