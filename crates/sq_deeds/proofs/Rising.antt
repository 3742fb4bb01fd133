-- Puts one after another, and elements that go up.
use Rattle.std.proofs.Common.{◌≡◌, ℕ, zero, suc, ◌+◌, ◌-◌, ◌*◌, ◌<◌, ◌≤◌, List, ◌∷◌, length, take, drop, get_or, ℤ, unsigned_abs, refl, sym, ◌∙◌, ap, arith, drop-cons}
use Rattle.sq_num.specs.declared.Elem.{Elem}
use Rattle.sq_num.specs.Elements.{width}
use Rattle.sq_leaf.specs.Spots.{load, store}
use Rattle.sq_columns.specs.declared.line.Line.{Line}
use Rattle.sq_columns.specs.Lines.{first_byte}
use Rattle.sq_deeds.specs.declared.rise.Rise.{Rise}
use Rattle.sq_deeds.specs.Puts.{IsRise, LiesIn, put_turn, puts}

-- two lists that agree on a part have the same part
pub part_same : (n at : ℕ) (b c : List ℕ) → at + n ≤ length b → at + n ≤ length c → ((k : ℕ) → at ≤ k → k < at + n → get_or c k 0 ≡ get_or b k 0) → take n (drop at c) ≡ take n (drop at b)
part_same zero at b c hb hc h = refl
part_same (suc n) at b c hb hc h =
    ap (take (suc n)) (drop-cons c at 0 (omega arith))
    ∙ (ap (λ (x : ℕ). x ∷ take n (drop (suc at) c)) (h at (omega arith) (omega arith))
    ∙ (ap (λ (l : List ℕ). get_or b at 0 ∷ l) (part_same n (suc at) b c (omega arith) (omega arith) (λ k from below. h k (omega arith) (omega arith)))
    ∙ sym (ap (take (suc n)) (drop-cons b at 0 (omega arith)))))

-- a turn of the code's loop over the puts
pub next_put : (e : Elem) (g : ℤ → ℤ → ℤ) (s : ℕ → ℕ) (x : ℕ → ℤ) (n j at : ℕ) (y : ℤ) (b c whole : List ℕ) → j < n → at ≡ s j → y ≡ x j
    → c ≡ store (record { elem = e; at = at }) (g (load (record { elem = e; at = at }) b) y) b → puts e g s x (n - j) j b ≡ whole → puts e g s x (n - (j + 1)) (j + 1) c ≡ whole
next_put e g s x n j at y b c whole below is value put before =
    let more : n - j ≡ suc (n - (j + 1)) = omega arith in
    let next : j + 1 ≡ suc j = omega arith in
    let here : c ≡ put_turn e g s x j b =
    put ∙ (ap (λ (a : ℕ). store (record { elem = e; at = a }) (g (load (record { elem = e; at = a }) b) y) b) is
    ∙ ap (λ (z : ℤ). store (record { elem = e; at = s j }) (g (load (record { elem = e; at = s j }) b) z) b) value) in
    ap (λ (k : ℕ). puts e g s x (n - (j + 1)) k c) next ∙ (ap (λ (d : List ℕ). puts e g s x (n - (j + 1)) (suc j) d) here ∙ (sym (ap (λ (m : ℕ). puts e g s x m j b) more) ∙ before))

-- ---- elements that go up

same_puts : (e : Elem) (g : ℤ → ℤ → ℤ) (s u : ℕ → ℕ) (x : ℕ → ℤ) (n j : ℕ) (b : List ℕ) → ((k : ℕ) → k < j + n → s k ≡ u k) → puts e g s x n j b ≡ puts e g u x n j b
same_puts e g s u x zero j b h = refl
same_puts e g s u x (suc n) j b h =
    ap (λ (d : List ℕ). puts e g s x n (suc j) d) (ap (λ (a : ℕ). store (record { elem = e; at = a }) (g (load (record { elem = e; at = a }) b) (x j)) b) (h j (omega arith)))
    ∙ same_puts e g s u x n (suc j) (put_turn e g u x j b) (λ k below. h k (omega (arith, below)))

rise_byte : (r : Rise) (l : Line) (column : List ℤ) (n j : ℕ) → IsRise r l → n ≤ 256 → j < n → first_byte l column j ≡ r.at + r.step * j
rise_byte r l column n j rises few below = ap unsigned_abs (rises.is column j (omega (arith, few, below)))

pub rise_puts : (e : Elem) (g : ℤ → ℤ → ℤ) (l : Line) (column : List ℤ) (x : ℕ → ℤ) (r : Rise) → IsRise r l → (n : ℕ) → n ≤ 256 → (b : List ℕ)
    → puts e g (first_byte l column) x n 0 b ≡ puts e g (λ j. r.at + r.step * j) x n 0 b
rise_puts e g l column x r rises n few b = same_puts e g (first_byte l column) (λ j. r.at + r.step * j) x n 0 b (λ k below. rise_byte r l column n k rises few (omega (arith, below)))

pub rise_room : (n size : ℕ) (e : Elem) (l : Line) (column : List ℤ) (r : Rise) → IsRise r l → n ≤ 256 → ((j : ℕ) → j < n → LiesIn 0 size e l column j)
    → (j : ℕ) → j < n → r.at + r.step * j + width e ≤ size
rise_room n size e l column r rises few lies j below =
    let here : LiesIn 0 size e l column j = lies j below in
    let end : first_byte l column j + width e ≤ size = here.ends in
    omega (arith, end, rise_byte r l column n j rises few below)
