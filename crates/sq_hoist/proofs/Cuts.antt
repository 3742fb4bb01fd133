-- Pieces of pieces of a list.
use Rattle.std.proofs.Common.{◌≡◌, ℕ, zero, suc, List, [], ◌∷◌, ◌++◌, map, take, drop, refl, sym, ◌∙◌, ap, ap₂}
use Rattle.std.proofs.Math.Seq.{take-add}
use Rattle.std.proofs.lemmas.List.{drop-drop}
use Rattle.sq_hoist.specs.Loops.{cut, joined, in_times}
use Rattle.sq_hoist.specs.Counts.{total, sums}

joined_take : {A : Type 0} (c : ℕ) (sizes : List ℕ) (xs : List A)
    → joined (take c (cut sizes xs)) ≡ take (total (take c sizes)) xs
joined_take zero sizes xs = refl
joined_take (suc c) [] xs = refl
joined_take (suc c) (n ∷ ns) xs =
    ap (λ rest. take n xs ++ rest) (joined_take c ns (drop n xs)) ∙ sym (take-add n (total (take c ns)) xs)

drop_cut : {A : Type 0} (c : ℕ) (sizes : List ℕ) (xs : List A)
    → drop c (cut sizes xs) ≡ cut (drop c sizes) (drop (total (take c sizes)) xs)
drop_cut zero sizes xs = refl
drop_cut (suc c) [] xs = refl
drop_cut (suc c) (n ∷ ns) xs =
    drop_cut c ns (drop n xs) ∙ ap (λ rest. cut (drop c ns) rest) (drop-drop (total (take c ns)) n xs)

-- what is begun in pieces of these sizes, so many each time
pub times_cut : {A : Type 0} (counts sizes : List ℕ) (xs : List A)
    → in_times counts (cut sizes xs) ≡ cut (sums counts sizes) xs
times_cut [] sizes xs = refl
times_cut (c ∷ cs) sizes xs =
    ap₂ (λ x rest. x ∷ rest) (joined_take c sizes xs)
    (ap (λ rest. in_times cs rest) (drop_cut c sizes xs)
    ∙ times_cut cs (drop c sizes) (drop (total (take c sizes)) xs))

-- each in a piece of its own
pub single : {A : Type 0} (xs : List A) → cut (map (λ x. 1) xs) xs ≡ map (λ x. x ∷ []) xs
single [] = refl
single (x ∷ xs) = ap (λ rest. (x ∷ []) ∷ rest) (single xs)
