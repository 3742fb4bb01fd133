-- Numbers that fit stay as they are.
use Rattle.std.proofs.Common.{◌≡◌, ℕ, suc, ◌-◌, ◌*◌, ◌<◌, ◌≤◌, Bool, true, false, if◌then◌else◌, List, [], ◌∷◌, map, length, Some, None, refl, ap, ◌∙◌, arith}
use Rattle.std.proofs.lemmas.Bool.{lt-ltb, le-leb}
use Rattle.std.specs.List.{All}
use Rattle.sq_num.specs.declared.Elem.{Elem}
use Rattle.sq_num.specs.declared.Elem.TheVariants as elem
use Rattle.sq_num.specs.Elements.{width}
use Rattle.sq_ir.specs.declared.num.Num.{Num}
use Rattle.sq_plantext.specs.declared.text.SlotText.{SlotText}
use Rattle.sq_plantext.specs.declared.text.ViewText.{ViewText}
use Rattle.sq_planfile.specs.Files as files
use Rattle.sq_planfile.specs.Sound.{IsViewText}
use Rattle.sq_planlines.specs.Narrow as narrow
use Rattle.sq_planlines.specs.Narrow.{word, long, dims_of}

abbrev pub Word : ℕ → Type 0
Word n = n < 4294967296

abbrev pub Long : ℕ → Type 0
Long n = n < 9223372036854775808

pub word_same : (n : ℕ) → Word n → word n ≡ n
unfolding word
word_same n lt = ap (λ b. if b then n else 0) (lt-ltb n 4294967296 lt)

pub long_same : (n : ℕ) → Long n → long n ≡ n
unfolding long
long_same n lt = ap (λ b. if b then n else 0) (lt-ltb n 9223372036854775808 lt)

pub constant_same : (n : ℕ) → Long n → narrow.constant n ≡ files.constant n
constant_same n lt = ap files.constant (long_same n lt)

pub words_same : (ns : List ℕ) → All (λ n. Word n) ns → map word ns ≡ ns
words_same [] h = refl
words_same (n ∷ ns) h = ap (λ m. m ∷ map word ns) (word_same n (h 0 n (omega arith))) ∙ ap (λ ns. n ∷ ns) (words_same ns (λ k d lt. h (suc k) d (omega (arith, lt))))

pub dims_same : (ns : List ℕ) → 1 ≤ length ns → length ns ≤ 3 → All (λ n. Word n) ns → dims_of ns ≡ ns
dims_same [] some few h = absurd (omega (arith, some))
dims_same (n ∷ ns) some few h = ap (λ b. if b then word n ∷ map word ns else 0 ∷ []) (le-leb (length ns) 2 (omega (arith, few))) ∙ words_same (n ∷ ns) h

pub slot_same : (s : SlotText) → Word s.buffer → Long s.at → narrow.slot_of s ≡ files.slot_of s
slot_same s b a = ap (λ n. record { buffer = n; at = narrow.constant s.at }) (word_same s.buffer b) ∙ ap (λ n. record { buffer = s.buffer; at = n }) (constant_same s.at a)

pub view_same : (v : ViewText) → IsViewText v → Word v.slot.buffer → Long v.slot.at → narrow.view_of v ≡ files.view_of v
view_same v h b a =
    let slot = slot_same v.slot b a in
    let extents = dims_same v.extents h.some h.few h.extents in
    let strides = dims_same v.strides (omega (arith, h.some, h.alike)) (omega (arith, h.few, h.alike)) h.strides in
    λ i. record { slot = slot i; elem = v.elem; extents = extents i; strides = strides i }

-- a count is at most its bytes
pub count_below : (n : ℕ) (e : Elem) → n ≤ n * width e
count_below n elem.Byte = omega arith
count_below n elem.Int = omega arith
count_below n elem.Long = omega arith

-- the child of a scope
pub child_same : (here node first children : ℕ) (b : Bool) → (b ≡ false → node - first < children) → children ≤ 64
    → (if b then None else Some (narrow.constant (node - first))) ≡ (if b then None else Some (files.constant (node - first)))
child_same here node first children true h few = refl
child_same here node first children false h few = let lt = h refl in ap (λ (n : Num). Some n) (constant_same (node - first) (omega (arith, lt, few)))
