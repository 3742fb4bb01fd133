-- What the numbers of a term are as words of 64 bits. What has no such word is 0.
use Rattle.std.specs.Prelude.{ℕ, ◌^◌, List, [], ◌∷◌, get_or, if◌then◌else◌, ℤ, pos, negsuc, ◌+ℤ◌, ◌-ℤ◌, ◌*ℤ◌, int_lt, int_div, int_rem, neg_ℤ}
use Rattle.std.specs.Ordering.{int_eq}
use Rattle.sq_ir.specs.declared.num.Num.{Num}
use Rattle.sq_ir.specs.declared.num.Num.TheFolds.{fold-Num}
use Rattle.sq_ir.specs.declared.num.Num.TheOpen.{Num-F}
use Rattle.sq_term_nums.specs.declared.value.Turns.{Turns, Root, Link'}
use Rattle.sq_term_nums.specs.declared.value.Env as rust

abbrev pub turns_of : Turns → List ℕ
turns_of Root = []
turns_of (Link' t p outer) = t ∷ turns_of outer

-- the numbers of the iterations round a number, innermost first, and how many children the node in force has
pub record Env : Type 0 where
  pub turns : List ℕ
  pub children : ℕ

abbrev pub env_of : rust.Env → Env
env_of e = record { turns = turns_of e.turns.now; children = e.children }

-- ---- words

abbrev pub fit : ℤ → ℤ
fit x = if int_lt x (neg_ℤ (pos (2 ^ 63))) then pos 0 else (if int_lt x (pos (2 ^ 63)) then x else pos 0)

abbrev pub div_of : ℤ → ℤ → ℤ
div_of x y = if int_eq y (pos 0) then pos 0 else fit (int_div x y)

abbrev pub rem_of : ℤ → ℤ → ℤ
rem_of x y = if int_eq y (pos 0) then pos 0 else int_rem x y

-- a number that isn't negative; a negative one is 0
abbrev pub nat_part : ℤ → ℕ
nat_part (pos n) = n
nat_part (negsuc n) = 0

abbrev pub pick_of : List ℤ → ℤ → ℤ
pick_of ns (pos n) = get_or ns n (pos 0)
pick_of ns (negsuc n) = pos 0

-- ---- numbers

abbrev pub value_step : Num-F (Env → ℤ) → Env → ℤ
value_step (Num-F.Const x) env = x
value_step (Num-F.Index d) env = fit (pos (get_or env.turns d 0))
value_step (Num-F.Add a b) env = fit (a env +ℤ b env)
value_step (Num-F.Sub a b) env = fit (a env -ℤ b env)
value_step (Num-F.Mul a b) env = fit (a env *ℤ b env)
value_step (Num-F.Div a b) env = div_of (a env) (b env)
value_step (Num-F.Rem a b) env = rem_of (a env) (b env)
value_step (Num-F.Min a b) env = if int_lt (b env) (a env) then b env else a env
value_step (Num-F.Pick ns a) env = pick_of ns (a env)
value_step Num-F.Children env = pos env.children

abbrev pub value : Num → Env → ℤ
value = fold-Num (Env → ℤ) value_step

abbrev pub count : Num → Env → ℕ
count n env = nat_part (value n env)
