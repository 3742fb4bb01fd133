-- Two events reach a byte in different colors where their touches of it don't get along.
use Rattle.std.proofs.Common.{◌≡◌, ℕ, ◌+◌, ◌*◌, ◌<◌, ◌≤◌, Bool, true, false, ◌&&◌, [], ◌∷◌, get_or, refl, sym, ap, ◌∙◌, arith}
use Rattle.std.specs.Prelude.{if◌then◌else◌, nat_lt, nat_eq}
use Rattle.std.proofs.lemmas.Bool.{ltb-true}
use denote.Enum.Bare.{sameb, true_same}
use Rattle.sq_num.specs.declared.Elem.{Elem}
use Rattle.sq_num.specs.declared.Elem.TheVariants.{Byte, Int, Long}
use Rattle.sq_num.specs.declared.RedOp.{RedOp}
use Rattle.sq_num.specs.declared.RedOp.TheVariants.{Add, Mul, Min, Max, And, Or, Xor}
use Rattle.sq_num.specs.contracts.Elem as elem
use Rattle.sq_num.specs.contracts.RedOp as op
use Rattle.sq_areas.proofs.Among.{number_same}
use Rattle.sq_check_laws.specs.Touches.{agree}
use Rattle.sq_check_laws.specs.Touches as kind
use Rattle.sq_touches.specs.Acts.{seen_way}
use Rattle.sq_touches.specs.declared.touch.Way.{Way}
use Rattle.sq_touches.specs.declared.touch.Way.TheVariants as way
use Rattle.sq_clashes.specs.Colors.{op_number, elem_number, sum_color, own_color, color_of}

differs : (v : Bool) → v ≡ true → v ≡ false → ⊥
differs true p q = cc
differs false p q = cc

both-and : (u v : Bool) → u ≡ true → v ≡ true → (u && v) ≡ true
both-and true v h k = k
both-and false v h k = cc

-- ---- numbers of operators and types

abbrev op-at : ℕ → RedOp
op-at n = get_or (Add ∷ Mul ∷ Min ∷ Max ∷ And ∷ Or ∷ Xor ∷ []) n Add

op-back : (o : RedOp) → op-at (op_number o) ≡ o
op-back Add = refl
op-back Mul = refl
op-back Min = refl
op-back Max = refl
op-back And = refl
op-back Or = refl
op-back Xor = refl

op-same : (o p : RedOp) → op_number o ≡ op_number p → o ≡ p
op-same o p h = sym (op-back o) ∙ ap op-at h ∙ op-back p

op-small : (o : RedOp) → op_number o ≤ 6
op-small Add = omega arith
op-small Mul = omega arith
op-small Min = omega arith
op-small Max = omega arith
op-small And = omega arith
op-small Or = omega arith
op-small Xor = omega arith

abbrev elem-at : ℕ → Elem
elem-at n = get_or (Byte ∷ Int ∷ Long ∷ []) n Byte

elem-back : (e : Elem) → elem-at (elem_number e) ≡ e
elem-back Byte = refl
elem-back Int = refl
elem-back Long = refl

elem-same : (e f : Elem) → elem_number e ≡ elem_number f → e ≡ f
elem-same e f h = sym (elem-back e) ∙ ap elem-at h ∙ elem-back f

elem-small : (e : Elem) → elem_number e ≤ 2
elem-small Byte = omega arith
elem-small Int = omega arith
elem-small Long = omega arith

-- ---- colors of sums

first-part : (a b c a' b' c' : ℕ) → b ≤ 2 → c < 8 → b' ≤ 2 → c' < 8 → 1 + (a * 24 + (b * 8 + c)) ≡ 1 + (a' * 24 + (b' * 8 + c')) → a ≡ a'
first-part a b c a' b' c' p q r s h = omega (arith, p, q, r, s, h)

other-parts : (a b c b' c' : ℕ) → c < 8 → c' < 8 → 1 + (a * 24 + (b * 8 + c)) ≡ 1 + (a * 24 + (b' * 8 + c')) → (b ≡ b') × (c ≡ c')
other-parts a b c b' c' q s h = (omega (arith, q, s, h), omega (arith, q, s, h))

sum-small : (o : RedOp) (e : Elem) (k : ℕ) → k < 8 → sum_color o e k < 256
sum-small o e k l = let a = op-small o in let b = elem-small e in omega (arith, a, b, l)

agree-self : (o o' : RedOp) (e e' : Elem) (k k' : ℕ) → o ≡ o' → e ≡ e' → k ≡ k' → agree (kind.Adds o e k) (kind.Adds o' e' k') ≡ true
agree-self o o' e e' k k' p q r =
    both-and (sameb op.the_type o o' && sameb elem.the_type e e') (nat_eq k k') (both-and (sameb op.the_type o o') (sameb elem.the_type e e') (true_same op.the_type o o' p) (true_same elem.the_type e e' q)) (number_same k k' r)

sums-differ : (o o' : RedOp) (e e' : Elem) (k k' : ℕ) → k < 8 → k' < 8 → agree (kind.Adds o e k) (kind.Adds o' e' k') ≡ false → sum_color o e k ≡ sum_color o' e' k' → ⊥
sums-differ o o' e e' k k' l l' n h =
    let b = elem-small e in
    let b' = elem-small e' in
    let p : op_number o ≡ op_number o' = first-part (op_number o) (elem_number e) k (op_number o') (elem_number e') k' b l b' l' h in
    let q = other-parts (op_number o) (elem_number e) k (elem_number e') k' l l' (h ∙ ap (λ a. 1 + (a * 24 + (elem_number e' * 8 + k'))) (sym p)) in
    differs (agree (kind.Adds o e k) (kind.Adds o' e' k')) (agree-self o o' e e' k k' (op-same o o' p) (elem-same e e' q.0) q.1) n

-- ---- colors of touches

module _ (own own' : ℕ) (large : 256 ≤ own) (large' : 256 ≤ own') (apart : own ≡ own' → ⊥) where
  sum-some : (u : Bool) (o : RedOp) (e : Elem) (k : ℕ) → (if u then sum_color o e k else own) ≡ 0 → ⊥
  sum-some true o e k h = omega (arith, h)
  sum-some false o e k h = omega (arith, h, large)

  some-sum : (u : Bool) (o : RedOp) (e : Elem) (k : ℕ) → 0 ≡ (if u then sum_color o e k else own') → ⊥
  some-sum true o e k h = omega (arith, h)
  some-sum false o e k h = omega (arith, h, large')

  sum-own : (u : Bool) (o : RedOp) (e : Elem) (k : ℕ) → nat_lt k 8 ≡ u → (if u then sum_color o e k else own) ≡ own' → ⊥
  sum-own true o e k t h = let s = sum-small o e k (ltb-true k 8 t) in omega (arith, h, s, large')
  sum-own false o e k t h = apart h

  own-sum : (u : Bool) (o : RedOp) (e : Elem) (k : ℕ) → nat_lt k 8 ≡ u → own ≡ (if u then sum_color o e k else own') → ⊥
  own-sum true o e k t h = let s = sum-small o e k (ltb-true k 8 t) in omega (arith, h, s, large)
  own-sum false o e k t h = apart h

  sum-sum : (u v : Bool) (o o' : RedOp) (e e' : Elem) (k k' : ℕ) → nat_lt k 8 ≡ u → nat_lt k' 8 ≡ v → agree (kind.Adds o e k) (kind.Adds o' e' k') ≡ false
      → (if u then sum_color o e k else own) ≡ (if v then sum_color o' e' k' else own') → ⊥
  sum-sum true true o o' e e' k k' t t' n h = sums-differ o o' e e' k k' (ltb-true k 8 t) (ltb-true k' 8 t') n h
  sum-sum true false o o' e e' k k' t t' n h = let s = sum-small o e k (ltb-true k 8 t) in omega (arith, h, s, large')
  sum-sum false true o o' e e' k k' t t' n h = let s = sum-small o' e' k' (ltb-true k' 8 t') in omega (arith, h, s, large)
  sum-sum false false o o' e e' k k' t t' n h = apart h

  ways-differ : (v w : Way) → agree (seen_way v) (seen_way w) ≡ false → color_of v own ≡ color_of w own' → ⊥
  ways-differ way.Reads way.Reads n h = cc
  ways-differ way.Reads (way.Adds o e k) n h = some-sum (nat_lt k 8) o e k h
  ways-differ way.Reads way.Writes n h = omega (arith, h, large')
  ways-differ (way.Adds o e k) way.Reads n h = sum-some (nat_lt k 8) o e k h
  ways-differ (way.Adds o e k) (way.Adds o' e' k') n h = sum-sum (nat_lt k 8) (nat_lt k' 8) o o' e e' k k' refl refl n h
  ways-differ (way.Adds o e k) way.Writes n h = sum-own (nat_lt k 8) o e k refl h
  ways-differ way.Writes way.Reads n h = omega (arith, h, large)
  ways-differ way.Writes (way.Adds o e k) n h = own-sum (nat_lt k 8) o e k refl h
  ways-differ way.Writes way.Writes n h = apart h

pub own_differ : (i j : ℕ) → i < j → own_color i ≡ own_color j → ⊥
own_differ i j l h = omega (arith, l, h)

pub colors_differ : (v w : Way) (i j : ℕ) → i < j → agree (seen_way v) (seen_way w) ≡ false → color_of v (own_color i) ≡ color_of w (own_color j) → ⊥
colors_differ v w i j l n h = ways-differ (own_color i) (own_color j) (omega arith) (omega arith) (own_differ i j l) v w n h
