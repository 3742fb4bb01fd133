-- What a turn of a block meets, and what it reads as it was before the block.
use Rattle.std.proofs.Common.{◌≡◌, ◌⊎◌, inl, inr, ℕ, suc, ◌+◌, ◌*◌, ◌<◌, ◌≤◌, List, [], ◌∷◌, length, ℤ, subst, refl, ◌∙◌, ap, arith, unsigned_abs}
use Rattle.sq_num.specs.declared.Elem.{Elem}
use Rattle.sq_num.specs.Elements.{width, value, cell}
use Rattle.sq_num.proofs.Cutting.{length-cell}
use Rattle.sq_leaf.specs.Spots.{load, store}
use Rattle.sq_leaf.proofs.Bytes.{put_at-length, byte-apart}
use Rattle.sq_turns.specs.declared.block.Write.{Write}
use Rattle.sq_turns.specs.declared.block.Block.{Block}
use Rattle.sq_deeds.specs.declared.rise.Rise.{Rise}
use Rattle.sq_columns.specs.declared.line.Line.{Line}
use Rattle.sq_columns.specs.Lines.{first_byte}
use Rattle.sq_deeds.specs.Puts.{IsRise, put_turn}
use Rattle.sq_deeds.proofs.Rising.{part_same}
use Rattle.sq_turns.specs.Blocks.{IsClearOf, Below, Above, Ahead, AllClear, IsClear, AreClearOf, AreClearOfEach, AreClear, MayPut, IsMet}

-- a load of clear bytes
pub load_clear : (t : Block) (j : ℕ) (b c : List ℕ) (e : Elem) (at : ℕ) → IsMet t j b c → at + width e ≤ length b
    → ((k : ℕ) → at ≤ k → k < at + width e → IsClear t j k) → load (record { elem = e; at = at }) c ≡ load (record { elem = e; at = at }) b
load_clear t j b c e at h fits clear = ap (value e) (part_same (width e) at b c fits (omega (arith, h.size)) (λ k from below. h.same k (clear k from below)))

pub met_first : (t : Block) (b : List ℕ) → IsMet t 0 b b
met_first t b = record { size = refl; same = λ k clear. refl }

one_more : (n j : ℕ) → n * suc j ≡ n * j + n
one_more n j = omega arith

pub side : (w : Write) (e : Elem) (j at k : ℕ) → MayPut w e j at → IsClearOf w (suc j) k → (k < at) ⊎ (at + width e ≤ k)
side w e j at k h (Below p) = let low : w.low ≤ at = h.low in inl (omega (arith, low, p))
side w e j at k h (Above p) = let high : at + width e ≤ w.high = h.high in inr (omega (arith, high, p))
side w e j at k h (Ahead p) = let ahead : at + width e ≤ w.front + w.step * suc j = h.ahead in inr (omega (arith, ahead, p))

sooner : (w : Write) (j k : ℕ) → IsClearOf w (suc j) k → IsClearOf w j k
sooner w j k (Below p) = Below p
sooner w j k (Above p) = Above p
sooner w j k (Ahead p) = Ahead (omega (arith, p, one_more w.step j))

pub all_sooner : (ws : List Write) (j k : ℕ) → AllClear ws (suc j) k → AllClear ws j k
all_sooner [] j k h = tt
all_sooner (w ∷ ws) j k h = (sooner w j k h.0, all_sooner ws j k h.1)

wide : (e : Elem) (y : ℤ) (at k : ℕ) → (k < at) ⊎ (at + width e ≤ k) → (k < at) ⊎ (at + length (cell e y) ≤ k)
wide e y at k (inl p) = inl p
wide e y at k (inr p) = inr (omega (arith, length-cell e y))

-- an element is stored, and what is clear afterwards isn't touched by it and was clear before
pub stored : (t u : Block) (e : Elem) (y : ℤ) (i j at : ℕ) (b c : List ℕ) → IsMet t i b c → at + width e ≤ length b
    → ((k : ℕ) → IsClear u j k → IsClear t i k × ((k < at) ⊎ (at + width e ≤ k))) → IsMet u j b (store (record { elem = e; at = at }) y c)
stored t u e y i j at b c h fits apart =
    let room : at + length (cell e y) ≤ length c = omega (arith, length-cell e y, h.size) in
    record {
      size = put_at-length at (cell e y) c room ∙ h.size;
      same = λ k clear. byte-apart k at (cell e y) c room (wide e y at k (apart k clear).1) ∙ h.same k (apart k clear).0;
    }

-- the next turn of a block with one assignment
pub met_next : (t : Block) (w : Write) (e : Elem) (g : ℤ → ℤ → ℤ) (s : ℕ → ℕ) (x : ℕ → ℤ) (j : ℕ) (b c : List ℕ) → t.writes.items ≡ w ∷ [] → IsMet t j b c → MayPut w e j (s j)
    → s j + width e ≤ length b → IsMet t (suc j) b (put_turn e g s x j c)
met_next t w e g s x j b c one h may fits = stored t t e (g (load (record { elem = e; at = s j }) c) (x j)) j (suc j) (s j) b c h fits apart
  where
    apart : (k : ℕ) → IsClear t (suc j) k → IsClear t j k × ((k < s j) ⊎ (s j + width e ≤ k))
    apart k clear =
        let of_one : AllClear (w ∷ []) (suc j) k = subst (λ (ws : List Write). AllClear ws (suc j) k) one clear.each in
        (record { each = all_sooner t.writes.items j k clear.each }, side w e j (s j) k may of_one.0)

-- bytes that rise are first bytes of the line that rises so
pub clear_rise : (w : Write) (n : ℕ) (e : Elem) (l : Line) (column : List ℤ) (r : Rise) → IsRise r l → n ≤ 256 → AreClearOf w n e (λ j. r.at + r.step * j) → AreClearOf w n e (first_byte l column)
clear_rise w n e l column r rises few h = record {
  each = λ j k below from less.
      let same : first_byte l column j ≡ r.at + r.step * j = ap unsigned_abs (rises.is column j (omega (arith, below, few))) in
      h.each j k below (omega (arith, same, from)) (omega (arith, same, less));
}

all_clear : (ws : List Write) (n : ℕ) (e : Elem) (s : ℕ → ℕ) (j k : ℕ) → AreClearOfEach ws n e s → j < n → s j ≤ k → k < s j + width e → AllClear ws j k
all_clear [] n e s j k h below from less = tt
all_clear (w ∷ ws) n e s j k h below from less = (h.0.each j k below from less, all_clear ws n e s j k h.1 below from less)

pub are_clear : (t : Block) (e : Elem) (s : ℕ → ℕ) → AreClearOfEach t.writes.items t.turns e s → AreClear t e s
are_clear t e s h = record { each = λ j k below from less. record { each = all_clear t.writes.items t.turns e s j k h below from less } }

-- what the block began with is met by each turn where nothing was written
pub met_same : (t : Block) (j : ℕ) (b : List ℕ) → IsMet t j b b
met_same t j b = record { size = refl; same = λ k clear. refl }
