-- Lists of numbers in order, and the callers of forms.
use Rattle.std.proofs.Common.{◌≡◌, ℕ, zero, suc, ◌+◌, ◌-◌, ◌<◌, List, [], ◌∷◌, ◌++◌, length, drop, slice_get, Option}
use Rattle.std.proofs.Common.{Some, None, sym, ap, ◌∙◌, arith}
use Rattle.std.specs.List.{range_with_len}
use Rattle.sq_forms.specs.declared.form.Caller.{Caller}
use Rattle.sq_forms.specs.declared.form.Form.{Form}

-- ---- lists

pub drop_many : {A : Type 0} (n : ℕ) (xs : List A) → length (drop n xs) ≡ length xs - n
drop_many zero xs = omega arith
drop_many (suc n) [] = omega arith
drop_many (suc n) (x ∷ xs) = let e = drop_many n xs in omega (arith, e)

pub range_joined : (n a c : ℕ) → range_with_len n a ++ range_with_len (n + a) c ≡ range_with_len n (a + c)
range_joined n zero c =
    let z : n + 0 ≡ n = omega arith in
    let on : c ≡ 0 + c = omega arith in
    ap (λ m. range_with_len m c) z ∙ ap (range_with_len n) on
range_joined n (suc a) c =
    let next : n + suc a ≡ n + 1 + a = omega arith in
    let one : suc a + c ≡ suc (a + c) = omega arith in
    ap (λ l. n ∷ l) (ap (λ m. range_with_len (n + 1) a ++ range_with_len m c) next ∙ range_joined (n + 1) a c)
    ∙ ap (range_with_len n) (sym one)

pub record InRange (n m i b : ℕ) : Type 0 where
  pub is : b ≡ n + i
  pub less : i < m

pub in_range : (n m i b : ℕ) → slice_get (range_with_len n m) i ≡ Some b → InRange n m i b
in_range n zero i b h = absurd (cc h)
in_range n (suc m) zero b h = let e : n ≡ b = cc h in record { is = omega (arith, e); less = omega arith }
in_range n (suc m) (suc i) b h =
    let k = in_range (n + 1) m i b h in
    let e = k.is in
    let l = k.less in
    record { is = omega (arith, e); less = omega (arith, l) }

-- ---- forms

abbrev pub caller_by : Option Caller → ℕ
caller_by None = 0
caller_by (Some c) = c.form

abbrev pub caller_of : Option Form → ℕ
caller_of None = 0
caller_of (Some f) = caller_by f.caller
