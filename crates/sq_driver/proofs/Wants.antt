-- The arrays that are read, one parameter after another.
use Rattle.std.proofs.Common.{◌≡◌, ℕ, zero, suc, ◌+◌, ◌<◌, Bool, true, false, List, [], ◌∷◌, ◌++◌, append_assoc, drop, length, get_or, slice_get, Some, if◌then◌else◌, refl, sym, ◌∙◌, ap, arith}
use Rattle.std.proofs.lemmas.Option.{slice_get_read}
use Rattle.sq_ast.specs.declared.program.Param.{Param}
use Rattle.sq_arrays.specs.Arrays.{Wanted}
use Rattle.sq_ast.specs.Modes.{is_read}
use Rattle.sq_spec.specs.Works.{extents_at}
use Rattle.sq_driver.specs.Entry.{want_of, wants_of}
use Rattle.sq_driver.specs.Picking.{read_want}

-- the rest of a list begins with its item
pub rest_of : {A : Type 0} (xs : List A) (n : ℕ) (x : A) → slice_get xs n ≡ Some x → drop n xs ≡ x ∷ drop (suc n) xs
rest_of [] n x there = cc
rest_of {A} (y ∷ xs) zero x there = let same : y ≡ x = cc in ap (λ (z : A). z ∷ xs) same
rest_of (y ∷ xs) (suc n) x there = rest_of xs n x there

one_want : (b : Bool) (w : Wanted) (ws : List Wanted) → (if b then w ∷ ws else ws) ≡ (if b then w ∷ [] else []) ++ ws
one_want true w ws = refl
one_want false w ws = refl

wants_next : (ps : List Param) (e : List (List ℕ)) (n : ℕ) (p : Param) (dims : List ℕ) → slice_get ps n ≡ Some p
    → slice_get e n ≡ Some dims → wants_of is_read (drop n ps) n e ≡ read_want p dims ++ wants_of is_read
    (drop (n + 1) ps) (n + 1) e
wants_next ps e n p dims here there =
    let next : suc n ≡ n + 1 = omega arith in
    ap (λ (l : List Param). wants_of is_read l n e) (rest_of ps n p here)
    ∙ (one_want (is_read p.mode) (want_of p n e) (wants_of is_read (drop (suc n) ps) (n + 1) e)
    ∙ (ap (λ (l : List Param). read_want p (extents_at (slice_get e n)) ++ wants_of is_read l (n + 1) e)
    (ap (λ (k : ℕ). drop k ps) next)
    ∙ ap (λ (ds : List ℕ). read_want p ds ++ wants_of is_read (drop (n + 1) ps) (n + 1) e) (ap extents_at there)))

pub wants_step : (ps : List Param) (e : List (List ℕ)) (old now : List Wanted) (n : ℕ) (p : Param) (dims : List ℕ)
    → n < length ps → length e ≡ length ps → p ≡ get_or ps n p → dims ≡ get_or e n dims
    → now ≡ old ++ read_want p dims → old ++ wants_of is_read (drop n ps) n e ≡ wants_of is_read ps 0 e
    → now ++ wants_of is_read (drop (n + 1) ps) (n + 1) e ≡ wants_of is_read ps 0 e
wants_step ps e old now n p dims below same p_is dims_is more before =
    let here : slice_get ps n ≡ Some p = slice_get_read ps (length ps) n p refl below p_is in
    let there : slice_get e n ≡ Some dims = slice_get_read e (length ps) n dims (sym same) below dims_is in
    ap (λ (l : List Wanted). l ++ wants_of is_read (drop (n + 1) ps) (n + 1) e) more
    ∙ (append_assoc old (read_want p dims) (wants_of is_read (drop (n + 1) ps) (n + 1) e)
    ∙ (ap (λ (l : List Wanted). old ++ l) (sym (wants_next ps e n p dims here there)) ∙ before))
