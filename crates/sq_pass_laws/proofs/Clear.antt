-- What an iteration writes is clear of the next two, where the test says so.
use Rattle.std.proofs.Common.{◌≡◌, ℕ, zero, suc, ◌+◌, ◌<◌, Bool, true, false, not, ◌||◌, List, [], ◌∷◌, map}
use Rattle.std.proofs.Common.{get_or, slice_get, Some, refl, ap, subst, ◌∙◌, arith}
use Rattle.std.specs.List.{list_all}
use Rattle.sq_ast.specs.Modes.{is_written}
use Rattle.sq_blocks.specs.declared.argument.Argument.{Argument}
use Rattle.sq_forms.specs.Calls.{shares}
use Rattle.sq_spec.specs.declared.statement.CallInstance.{CallInstance}
use Rattle.sq_spec.specs.Statements.{starts_from}
use Rattle.sq_placed.specs.Pipes.{AreHeads, no_heads, more_heads}
use Rattle.sq_pipe.specs.Hoist.Loops.{cut}
use Rattle.sq_pass_laws.proofs.Nests.{both}
use Rattle.sq_pass_laws.proofs.Staying.{word}
use Rattle.sq_pipe.specs.Candidates.{is_held, is_clear_of, are_clear_of, is_clear, is_ahead, are_ahead}
use Rattle.sq_pass_laws.proofs.PipeLists.{IsPiece, piece_of}

-- ---- heads

pub heads_are : (xs ys : List Argument) → map word xs ≡ map word ys → AreHeads xs ys
heads_are [] [] e = no_heads
heads_are [] (y ∷ ys) e = absurd (cc e)
heads_are (x ∷ xs) [] e = absurd (cc e)
heads_are (x ∷ xs) (y ∷ ys) e =
    let h : word x ≡ word y = cc e in
    more_heads (record {
      mode = ap (λ (a : Argument). a.mode) h;
      is_reduced = ap (λ (a : Argument). a.is_reduced) h;
      array = ap (λ (a : Argument). a.array) h;
    }) (heads_are xs ys (cc e))

-- ---- two calls

kept_off : (held shared : Bool) → (held || not shared) ≡ true → held ≡ false → shared ≡ false
kept_off true shared e h = absurd (cc h)
kept_off false true e h = absurd (cc e)
kept_off false false e h = refl

left_over : (held written rest : Bool) → (held || not written || rest) ≡ true → held ≡ false → written ≡ true
    → rest ≡ true
left_over true written rest e h w = absurd (cc h)
left_over false false rest e h w = absurd (cc w)
left_over false true rest e h w = e

module _ (leaves : List ℕ) where
  clear_of : (x : Argument) (n : ℕ) (ys : List Argument) → is_clear_of leaves x n ys ≡ true → (j : ℕ) (y : Argument)
      → slice_get ys j ≡ Some y → is_held leaves (n + j) ≡ false → shares x y ≡ false
  clear_of x n [] e j y at h = absurd (cc at)
  clear_of x n (z ∷ ys) e zero y at h =
      let is : z ≡ y = cc at in
      let same : n + 0 ≡ n = omega arith in
      let here = (both (is_held leaves n || not (shares x z)) (is_clear_of leaves x (suc n) ys) e).0 in
      subst (λ (w : Argument). shares x w ≡ false) is
      (kept_off (is_held leaves n) (shares x z) here (subst (λ m. is_held leaves m ≡ false) same h))
  clear_of x n (z ∷ ys) e (suc j) y at h =
      let same : n + suc j ≡ suc n + j = omega arith in
      clear_of x (suc n) ys (both (is_held leaves n || not (shares x z)) (is_clear_of leaves x (suc n) ys) e).1 j y at
      (subst (λ m. is_held leaves m ≡ false) same h)

  clear_from : (n : ℕ) (xs ys : List Argument) → are_clear_of leaves n xs ys ≡ true → (i j : ℕ) (x y : Argument)
      → slice_get xs i ≡ Some x → slice_get ys j ≡ Some y → is_held leaves (n + i) ≡ false → is_held leaves j ≡ false
      → is_written x.mode ≡ true → shares x y ≡ false
  clear_from n [] ys e i j x y at to h g w = absurd (cc at)
  clear_from n (z ∷ xs) ys e zero j x y at to h g w =
      let is : z ≡ x = cc at in
      let same : n + 0 ≡ n = omega arith in
      let zero_on : j ≡ 0 + j = omega arith in
      let test : Argument → Bool = λ z. is_held leaves n || not (is_written z.mode) || is_clear_of leaves z 0 ys in
      let here = subst (λ (z : Argument). test z ≡ true) is
      (both (test z) (are_clear_of leaves (suc n) xs ys) e).0 in
      clear_of x 0 ys
      (left_over (is_held leaves n) (is_written x.mode) (is_clear_of leaves x 0 ys) here
      (subst (λ m. is_held leaves m ≡ false) same h) w) j y to (subst (λ m. is_held leaves m ≡ false) zero_on g)
  clear_from n (z ∷ xs) ys e (suc i) j x y at to h g w =
      let same : n + suc i ≡ suc n + i = omega arith in
      clear_from (suc n) xs ys
      (both (is_held leaves n || not (is_written z.mode) || is_clear_of leaves z 0 ys)
      (are_clear_of leaves (suc n) xs ys) e).1 i j x y at to (subst (λ m. is_held leaves m ≡ false) same h) g w

  pub clear_at : (r q : CallInstance) → is_clear leaves r q ≡ true → (i j : ℕ) (x y : Argument)
      → slice_get r.args i ≡ Some x → slice_get q.args j ≡ Some y → is_held leaves i ≡ false → is_held leaves j ≡ false
      → is_written x.mode ≡ true → shares x y ≡ false
  clear_at r q e i j x y at to h g w =
      let zero_on : i ≡ 0 + i = omega arith in
      clear_from 0 r.args q.args e i j x y at to (subst (λ m. is_held leaves m ≡ false) zero_on h) g w

  -- ---- the calls of one time

  first_one : (r q : CallInstance) (rows : List CallInstance) → is_ahead leaves r rows ≡ true
      → slice_get rows 0 ≡ Some q → is_clear leaves r q ≡ true
  first_one r q [] e at = absurd (cc at)
  first_one r q (p ∷ []) e at =
      let is : p ≡ q = cc at in subst (λ (p : CallInstance). is_clear leaves r p ≡ true) is e
  first_one r q (p ∷ o ∷ rows) e at =
      let is : p ≡ q = cc at in
      subst (λ (p : CallInstance). is_clear leaves r p ≡ true) is (both (is_clear leaves r p) (is_clear leaves r o) e).0

  first_two : (r q : CallInstance) (rows : List CallInstance) → is_ahead leaves r rows ≡ true
      → slice_get rows 1 ≡ Some q → is_clear leaves r q ≡ true
  first_two r q [] e at = absurd (cc at)
  first_two r q (p ∷ []) e at = absurd (cc at)
  first_two r q (p ∷ o ∷ rows) e at =
      let is : o ≡ q = cc at in
      subst (λ (o : CallInstance). is_clear leaves r o ≡ true) is (both (is_clear leaves r p) (is_clear leaves r o) e).1

  one_on : (rows : List CallInstance) → are_ahead leaves rows ≡ true → (t : ℕ) (r q : CallInstance)
      → slice_get rows t ≡ Some r → slice_get rows (suc t) ≡ Some q → is_clear leaves r q ≡ true
  one_on [] e t r q at to = absurd (cc at)
  one_on (p ∷ rows) e zero r q at to =
      let is : p ≡ r = cc at in
      first_one r q rows
      (subst (λ (p : CallInstance). is_ahead leaves p rows ≡ true) is
      (both (is_ahead leaves p rows) (are_ahead leaves rows) e).0) to
  one_on (p ∷ rows) e (suc t) r q at to =
      one_on rows (both (is_ahead leaves p rows) (are_ahead leaves rows) e).1 t r q at to

  two_on : (rows : List CallInstance) → are_ahead leaves rows ≡ true → (t : ℕ) (r q : CallInstance)
      → slice_get rows t ≡ Some r → slice_get rows (suc (suc t)) ≡ Some q → is_clear leaves r q ≡ true
  two_on [] e t r q at to = absurd (cc at)
  two_on (p ∷ rows) e zero r q at to =
      let is : p ≡ r = cc at in
      first_two r q rows
      (subst (λ (p : CallInstance). is_ahead leaves p rows ≡ true) is
      (both (is_ahead leaves p rows) (are_ahead leaves rows) e).0) to
  two_on (p ∷ rows) e (suc t) r q at to =
      two_on rows (both (is_ahead leaves p rows) (are_ahead leaves rows) e).1 t r q at to

  -- ---- of each time

  module _ (counts : List ℕ) (rows : List CallInstance) (e : list_all (are_ahead leaves) (cut counts rows) ≡ true)
      (k : ℕ) where
    its : 0 < get_or counts k 0
        → IsPiece (are_ahead leaves) (get_or (starts_from 0 counts) k 0) (get_or counts k 0) rows
    its = piece_of (are_ahead leaves) 0 counts rows rows
        (λ i. let z : 0 + i ≡ i = omega arith in ap (slice_get rows) z) e k

    pub one_ahead : (t : ℕ) (r q : CallInstance) → suc t < get_or counts k 0
        → slice_get rows (get_or (starts_from 0 counts) k 0 + t) ≡ Some r
        → slice_get rows (get_or (starts_from 0 counts) k 0 + suc t) ≡ Some q → is_clear leaves r q ≡ true
    one_ahead t r q lt at to =
        let p = its (omega (arith, lt)) in
        one_on p.piece p.passes t r q (p.at t (omega (arith, lt)) ∙ at) (p.at (suc t) lt ∙ to)

    pub two_ahead : (t : ℕ) (r q : CallInstance) → suc (suc t) < get_or counts k 0
        → slice_get rows (get_or (starts_from 0 counts) k 0 + t) ≡ Some r
        → slice_get rows (get_or (starts_from 0 counts) k 0 + suc (suc t)) ≡ Some q → is_clear leaves r q ≡ true
    two_ahead t r q lt at to =
        let p = its (omega (arith, lt)) in
        two_on p.piece p.passes t r q (p.at t (omega (arith, lt)) ∙ at) (p.at (suc (suc t)) lt ∙ to)
