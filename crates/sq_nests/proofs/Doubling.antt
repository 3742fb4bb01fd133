-- What two sets of buffers come to.
use Rattle.std.proofs.Common.{◌≡◌, ℕ, zero, suc, ◌+◌, Bool, true, false, List, [], ◌∷◌, ◌++◌, slice_get, refl, sym, ap}
use Rattle.std.proofs.Common.{subst, ◌∙◌, arith}
use Rattle.std.specs.Prelude.{if◌then◌else◌, ◌||◌}
use Rattle.std.proofs.lemmas.List.{append-nil}
use Rattle.sq_ir.specs.declared.plan.Buffer.{Buffer}
use Rattle.sq_nests.specs.Nests.{each_of}
use Rattle.sq_nests.specs.Stacks.{total, Lie}
use Rattle.sq_nests.specs.Drafts.{size_in}
use Rattle.sq_nests.specs.Weights.{same_array, is_again, weigh_from, weigh}
use Rattle.sq_nests.specs.Doubled.{AreFresh, AreAgain, TwinsWeighTwice, SecondLiesBehind, ScopeLeavesLoop}
use Rattle.sq_nests.proofs.Chains.{total_append}

append_assoc : (xs ys zs : List ℕ) → (xs ++ ys) ++ zs ≡ xs ++ (ys ++ zs)
append_assoc [] ys zs = refl
append_assoc (x ∷ xs) ys zs = ap (λ l. x ∷ l) (append_assoc xs ys zs)

module _ (buffers : List Buffer) where
  weigh_sum : (seen bs : List ℕ) → weigh_from buffers false seen bs ≡ total (size_in buffers) bs
  weigh_sum seen [] = refl
  weigh_sum seen (b ∷ bs) = ap (λ k. size_in buffers b + k) (weigh_sum (seen ++ b ∷ []) bs)

  fresh_weigh : (seen bs : List ℕ) → AreFresh buffers seen bs → weigh_from buffers true seen bs
      ≡ total (size_in buffers) bs
  fresh_weigh seen [] h = refl
  fresh_weigh seen (b ∷ bs) h = by (is_again buffers seen b) h.0 (fresh_weigh (seen ++ b ∷ []) bs h.1)
    where
      by : (v : Bool) → v ≡ false → weigh_from buffers true (seen ++ b ∷ []) bs ≡ total (size_in buffers) bs
          → (if v then 0 else size_in buffers b) + weigh_from buffers true (seen ++ b ∷ []) bs ≡ size_in buffers b
          + total (size_in buffers) bs
      by false e f = ap (λ k. size_in buffers b + k) f
      by true e f = absurd (let z = e in cc)

  again_more : (seen more : List ℕ) (b : ℕ) → is_again buffers seen b ≡ true → is_again buffers (seen ++ more) b ≡ true
  again_more [] more b h = absurd (let z = h in cc)
  again_more (c ∷ seen) more b h = by (same_array (slice_get buffers c) (slice_get buffers b)) (is_again buffers seen b)
      h (again_more seen more b)
    where
      by : (u v : Bool) → (u || v) ≡ true → (v ≡ true → is_again buffers (seen ++ more) b ≡ true)
          → (u || is_again buffers (seen ++ more) b) ≡ true
      by true v e f = refl
      by false v e f = f e

  again_weigh : (seen more bs : List ℕ) → AreAgain buffers seen bs → weigh_from buffers true (seen ++ more) bs ≡ 0
  again_weigh seen more [] h = refl
  again_weigh seen more (b ∷ bs) h =
      let rest : weigh_from buffers true ((seen ++ more) ++ b ∷ []) bs ≡ 0
      = ap (λ z. weigh_from buffers true z bs) (append_assoc seen more (b ∷ []))
      ∙ again_weigh seen (more ++ b ∷ []) bs h.1 in
      by (is_again buffers (seen ++ more) b) (again_more seen more b h.0) rest
    where
      by : (v : Bool) → v ≡ true → weigh_from buffers true ((seen ++ more) ++ b ∷ []) bs ≡ 0
          → (if v then 0 else size_in buffers b) + weigh_from buffers true ((seen ++ more) ++ b ∷ []) bs ≡ 0
      by true e rest = omega (arith, rest)
      by false e rest = absurd (let z = e in cc)

  weigh_append : (once : Bool) (seen xs ys : List ℕ) → weigh_from buffers once seen (xs ++ ys)
      ≡ weigh_from buffers once seen xs + weigh_from buffers once (seen ++ xs) ys
  weigh_append once seen [] ys = ap (λ z. weigh_from buffers once z ys) (sym (append-nil seen)) ∙ omega arith
  weigh_append once seen (x ∷ xs) ys =
      let ih = weigh_append once (seen ++ x ∷ []) xs ys in
      let e : weigh_from buffers once ((seen ++ x ∷ []) ++ xs) ys ≡ weigh_from buffers once (seen ++ (x ∷ xs)) ys
      = ap (λ z. weigh_from buffers once z ys) (append_assoc seen (x ∷ []) xs) in
      omega (arith, ih, e)

pub twins_weigh : TwinsWeighTwice
twins_weigh buffers first second h =
    let e = weigh_append buffers true [] first second in
    let f = fresh_weigh buffers [] first h.fresh in
    let g = again_weigh buffers first [] second h.again in
    let k : weigh_from buffers true (first ++ []) second ≡ weigh_from buffers true first second
    = ap (λ z. weigh_from buffers true z second) (append-nil first) in
    record {
      sum = weigh_sum buffers [] (first ++ second) ∙ total_append (size_in buffers) first second;
      need = omega (arith, e, f, g, k);
    }

pub second_lies : SecondLiesBehind
second_lies offset size base [] second h
    = (tt, let e : base ≡ base + 0 = omega arith in subst (λ b. Lie offset size b second) e h)
second_lies offset size base (b ∷ bs) second h =
    let ih = second_lies offset size (base + size b) bs second h.1 in
    let e : base + size b + total size bs ≡ base + (size b + total size bs) = omega arith in
    ((h.0, ih.0), subst (λ b. Lie offset size b second) e ih.1)

pub scope_leaves : ScopeLeavesLoop
unfolding each_of
scope_leaves weigh node s zero f t h = absurd (omega (arith, h))
scope_leaves weigh node s (suc zero) f t h = omega arith
scope_leaves weigh node s (suc (suc n)) f t h =
    let ih = scope_leaves weigh node s (suc n) f (t + 1) (omega arith) in
    omega (arith, ih)
