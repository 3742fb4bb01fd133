-- Bytes that are put into the arrays that are read.
use Rattle.std.proofs.Common.{◌≡◌, ℕ, zero, suc, ◌+◌, ◌-◌, ◌==◌, ◌<◌, Bool, true, false, List, [], ◌∷◌, length, if◌then◌else◌, refl, sym, ◌∙◌, ap, subst, arith}
use Rattle.std.proofs.lemmas.Bool.Decides.{nat_tests}
use Rattle.sq_ast.specs.declared.program.Param.{Param}
use Rattle.sq_arrays.specs.Targets.{HasRange, put_in}
use Rattle.sq_ast.specs.Modes.{is_read}
use Rattle.sq_flat.specs.Held.{put_part, HasPart}
use Rattle.sq_driver.specs.Picking.{picked, unpicked, number_from}

-- one parameter, which is read or isn't
abbrev step : Bool → ℕ → ℕ → (ℕ → ℕ) → ℕ
step b i left rest = if b then (if left == 0 then i else rest (left - 1)) else rest left

not_zero : (n : ℕ) → (suc n == 0) ≡ false
not_zero n = grind (arith, nat_tests)

step_suc : (i left : ℕ) (f : ℕ → ℕ) → step true i (suc left) f ≡ f left
step_suc i left f =
    let one_less : suc left - 1 ≡ left = omega arith in
    ap (λ (t : Bool). if t then i else f (suc left - 1)) (not_zero left) ∙ ap f one_less

step_shift : (b : Bool) (i left : ℕ) (f g : ℕ → ℕ) → ((n : ℕ) → f n ≡ suc (g n)) → step b (i + 1) left f ≡ suc
    (step b i left g)
step_shift true i zero f g shift = omega arith
step_shift true i (suc left) f g shift = step_suc (i + 1) left f ∙ (shift left ∙ ap suc (sym (step_suc i left g)))
step_shift false i left f g shift = shift left

shifted : (ps : List Param) (i left : ℕ) → number_from (i + 1) ps left ≡ suc (number_from i ps left)
shifted [] i left = omega arith
shifted (p ∷ ps) i left = step_shift (is_read p.mode) i left (number_from (i + 1 + 1) ps) (number_from (i + 1) ps)
    (λ n. shifted ps (i + 1) n)

-- what a put into the n-th of a list does, where that is the array of this number among those that are picked
pub record Puts (pick leave : List (List ℕ) → List (List ℕ)) (list : List (List ℕ)) (n array at : ℕ)
    (part : List ℕ) : Type 0 where
  pub has : HasPart list n at (length part)
  pub put : pick (put_part n at part list) ≡ put_in array at part (pick list)
  pub count : length (put_part n at part list) ≡ length list
  pub others : leave (put_part n at part list) ≡ leave list

no_array : {A : Type 0} (array at size : ℕ) → HasRange [] array at size → A
no_array array at size range = absurd (let below : array < 0 = range.there in omega (arith, below))

-- one more list in front, which is picked or left
abbrev picks : Bool → (List (List ℕ) → List (List ℕ)) → List (List ℕ) → List (List ℕ)
picks b pick [] = []
picks b pick (bytes ∷ rest) = if b then bytes ∷ pick rest else pick rest

abbrev leaves : Bool → (List (List ℕ) → List (List ℕ)) → List (List ℕ) → List (List ℕ)
leaves b leave [] = []
leaves b leave (bytes ∷ rest) = if b then leave rest else bytes ∷ leave rest

behind : (pick leave : List (List ℕ) → List (List ℕ)) (bytes : List ℕ) (list : List (List ℕ)) (n m array at : ℕ)
    (part : List ℕ) → m ≡ suc n → Puts pick leave list n array at part → Puts (picks true pick) (leaves true leave)
    (bytes ∷ list) m (suc array) at part
behind pick leave bytes list n m array at part is puts = subst
    (λ (k : ℕ). Puts (picks true pick) (leaves true leave) (bytes ∷ list) k (suc array) at part) (sym is) (record {
      has = record { there = omega (arith, puts.has.there); within = puts.has.within };
      put = ap (λ (l : List (List ℕ)). bytes ∷ l) puts.put;
      count = ap suc puts.count;
      others = puts.others;
    })

past : (pick leave : List (List ℕ) → List (List ℕ)) (bytes : List ℕ) (list : List (List ℕ)) (n m array at : ℕ)
    (part : List ℕ) → m ≡ suc n → Puts pick leave list n array at part → Puts (picks false pick) (leaves false leave)
    (bytes ∷ list) m array at part
past pick leave bytes list n m array at part is puts = subst
    (λ (k : ℕ). Puts (picks false pick) (leaves false leave) (bytes ∷ list) k array at part) (sym is) (record {
      has = record { there = omega (arith, puts.has.there); within = puts.has.within };
      put = puts.put;
      count = ap suc puts.count;
      others = ap (λ (l : List (List ℕ)). bytes ∷ l) puts.others;
    })

-- the range of the array behind another one
range_behind : (bytes : List ℕ) (list : List (List ℕ)) (array at size : ℕ) → HasRange (bytes ∷ list)
    (suc array) at size → HasRange list array at size
range_behind bytes list array at size range = record { there = omega (arith, range.there); range = range.range }

module _ (pick leave : List (List ℕ) → List (List ℕ)) (rest : ℕ → ℕ) (at : ℕ) (part : List ℕ) (list : List (List ℕ))
    (later : (array : ℕ) → HasRange (pick list) array at (length part) → Puts pick leave list (rest array) array at
    part) where
  one_more : (b : Bool) (bytes : List ℕ) (array : ℕ) → HasRange (picks b pick (bytes ∷ list)) array at (length part)
      → Puts (picks b pick) (leaves b leave) (bytes ∷ list) (step b 0 array (λ n. suc (rest n))) array at part
  one_more true bytes zero range = record {
    has = record { there = omega arith; within = range.range };
    put = refl;
    count = refl;
    others = refl;
  }
  one_more true bytes (suc array) range = subst
      (λ (n : ℕ). Puts (picks true pick) (leaves true leave) (bytes ∷ list) n (suc array) at part)
      (sym (step_suc 0 array (λ n. suc (rest n))))
      (behind pick leave bytes list (rest array) (suc (rest array)) array at part refl
      (later array (range_behind bytes (pick list) array at (length part) range)))
  one_more false bytes array range = past pick leave bytes list (rest array) (suc (rest array)) array at part refl
      (later array range)

picked_is : (p : Param) (ps : List Param) (list : List (List ℕ)) → picked (p ∷ ps) list ≡ picks (is_read p.mode)
    (picked ps) list
picked_is p ps [] = refl
picked_is p ps (bytes ∷ list) = refl

unpicked_is : (p : Param) (ps : List Param) (list : List (List ℕ)) → unpicked (p ∷ ps) list ≡ leaves (is_read p.mode)
    (unpicked ps) list
unpicked_is p ps [] = refl
unpicked_is p ps (bytes ∷ list) = refl

step_same : (b : Bool) (i left : ℕ) (f g : ℕ → ℕ) → ((n : ℕ) → f n ≡ g n) → step b i left f ≡ step b i left g
step_same true i zero f g same = refl
step_same true i (suc left) f g same = step_suc i left f ∙ (same left ∙ sym (step_suc i left g))
step_same false i left f g same = same left

pub puts : (ps : List Param) (list : List (List ℕ)) (array at : ℕ) (part : List ℕ)
    → HasRange (picked ps list) array at (length part) → Puts (picked ps) (unpicked ps) list (number_from 0 ps array)
    array at part
puts [] list array at part range = no_array array at (length part) range
puts (p ∷ ps) [] array at part range = no_array array at (length part) range
puts (p ∷ ps) (bytes ∷ list) array at part range =
    let more = one_more (picked ps) (unpicked ps) (number_from 0 ps) at part list
    (λ n has. puts ps list n at part has) (is_read p.mode) bytes array range in
    let number : number_from 0 (p ∷ ps) array ≡ step (is_read p.mode) 0 array (λ n. suc (number_from 0 ps n)) =
    step_same (is_read p.mode) 0 array (number_from 1 ps) (λ n. suc (number_from 0 ps n)) (λ n. shifted ps 0 n) in
    let here : Puts (picked (p ∷ ps)) (unpicked (p ∷ ps)) (bytes ∷ list)
    (step (is_read p.mode) 0 array (λ n. suc (number_from 0 ps n))) array at part =
    record {
      has = more.has;
      put = picked_is p ps
          (put_part (step (is_read p.mode) 0 array (λ n. suc (number_from 0 ps n))) at part (bytes ∷ list))
          ∙ more.put;
      count = more.count;
      others = unpicked_is p ps
          (put_part (step (is_read p.mode) 0 array (λ n. suc (number_from 0 ps n))) at part (bytes ∷ list))
          ∙ more.others;
    } in
    subst (λ (n : ℕ). Puts (picked (p ∷ ps)) (unpicked (p ∷ ps)) (bytes ∷ list) n array at part) (sym number) here
