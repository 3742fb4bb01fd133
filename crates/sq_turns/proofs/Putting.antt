-- Turns whose elements and values are known beforehand are puts, one after another.
use Rattle.std.proofs.Common.{◌≡◌, ℕ, zero, suc, ◌+◌, ◌-◌, ◌<◌, ◌≤◌, List, ℤ, pos, ◌+ℤ◌, refl, ◌∙◌, ap, arith}
use Rattle.std.proofs.lemmas.Int.{ints}
use Rattle.sq_num.specs.declared.Elem.{Elem}
use Rattle.sq_leaf.specs.Running.{Ran, Goes, onward, repeats}
use Rattle.sq_turns.specs.declared.block.Block.{Block}
use Rattle.sq_deeds.specs.Puts.{put_turn, puts}
use Rattle.sq_turns.specs.Blocks.{IsMet}
use Rattle.sq_deeds.specs.Loops.{in_turn}
use Rattle.sq_turns.proofs.Meeting.{met_first}

-- what each turn does to the bytes, whatever it meets
pub record AreKnown (t : Block) (put : ℕ → List ℕ → List ℕ) (f : ℤ → List ℕ → Ran) (b : List ℕ) : Type 0 where
  pub turn : (j : ℕ) (c : List ℕ) → j < t.turns → IsMet t j b c → f (t.from +ℤ pos j) c ≡ Goes (put j c)
  pub next : (j : ℕ) (c : List ℕ) → j < t.turns → IsMet t j b c → IsMet t (suc j) b (put j c)

one_on : (i : ℤ) (j : ℕ) → i +ℤ pos j +ℤ pos 1 ≡ i +ℤ pos (suc j)
one_on i j = omega (arith, ints)

block_from : (t : Block) (put : ℕ → List ℕ → List ℕ) (f : ℤ → List ℕ → Ran) (b : List ℕ) → AreKnown t put f b
    → (n j : ℕ) (c : List ℕ) → j + n ≤ t.turns → IsMet t j b c → repeats n (t.from +ℤ pos j) f c ≡ Goes (in_turn put n j c)
block_from t put f b known zero j c within h = refl
block_from t put f b known (suc n) j c within h =
    let less : j < t.turns = omega arith in
    let rest : suc j + n ≤ t.turns = omega arith in
    ap (λ (r : Ran). onward r (repeats n (t.from +ℤ pos j +ℤ pos 1) f)) (known.turn j c less h)
    ∙ (ap (λ (k : ℤ). repeats n k f (put j c)) (one_on t.from j) ∙ block_from t put f b known n (suc j) (put j c) rest (known.next j c less h))

none_on : (i : ℤ) → i ≡ i +ℤ pos 0
none_on i = omega (arith, ints)

-- known turns are the loop
pub block_is_loop : (t : Block) (put : ℕ → List ℕ → List ℕ) (f : ℤ → List ℕ → Ran) (b : List ℕ) → AreKnown t put f b
    → repeats t.turns t.from f b ≡ Goes (in_turn put t.turns 0 b)
block_is_loop t put f b known =
    let all : 0 + t.turns ≤ t.turns = omega arith in
    ap (λ (k : ℤ). repeats t.turns k f b) (none_on t.from) ∙ block_from t put f b known t.turns 0 b all (met_first t b)

pub puts_by_turn : (e : Elem) (g : ℤ → ℤ → ℤ) (s : ℕ → ℕ) (x : ℕ → ℤ) (n j : ℕ) (c : List ℕ) → in_turn (put_turn e g s x) n j c ≡ puts e g s x n j c
puts_by_turn e g s x zero j c = refl
puts_by_turn e g s x (suc n) j c = puts_by_turn e g s x n (suc j) (put_turn e g s x j c)
