-- The sizes of arguments that leave loops: those that leave a loop stand round it, the others further in.
use Rattle.std.proofs.Common.{◌≡◌, ℕ, zero, suc, ◌+◌, ◌<◌, ◌≤◌, ◌==◌, ◌⊎◌, inl, inr, Bool, true, false, List, [], ◌∷◌}
use Rattle.std.proofs.Common.{length, get_or, refl, sym, ap, ◌∙◌, arith, if◌then◌else◌}
use Rattle.std.specs.Prelude.{nat_lt}
use Rattle.std.proofs.lemmas.Bool.{ltb-true, ltb-false}
use Rattle.std.proofs.lemmas.Bool.Decides.{nat_tests}
use Rattle.sq_ir.specs.Written.{Setting}
use Rattle.sq_blocks.specs.declared.argument.Argument.{Argument}
use Rattle.sq_nests.specs.Stacks.{total}
use Rattle.sq_placed.specs.declared.home.Home.{Home}
use Rattle.sq_placed.specs.declared.home.Home.TheVariants.{InPlace, Own, Held, Twin}
use Rattle.sq_placed.specs.Tables.{leaves_loop, leaving_args}
use Rattle.sq_placed.specs.Trees.{buffer_of, held_of, twin_of}
use Rattle.sq_term.specs.Terms.{buffers_from, set_buffers_from, leaving_buffers}
use Rattle.sq_draft_laws.specs.TermLaws.Leaves.{loops_left}
use Rattle.sq_plan_good.specs.Loops.{standing, standing_from}

same_number : (m n : ℕ) → (m == n) ≡ true → m ≡ n
same_number m n h = grind (arith, nat_tests, h)

other_number : (m n : ℕ) → (m == n) ≡ false → m ≡ n → ⊥
other_number m n h e = absurd (grind (arith, nat_tests, e))

is_less : (m n : ℕ) → m < n → nat_lt m n ≡ true
is_less m n h = grind (arith, nat_tests, h)

none_too : (k : ℕ) → k ≡ 0 → 0 + k ≡ 0
none_too k e = omega (arith, e)

-- a parameter that leaves loops leaves one at least
abbrev pub LeaveSome : List Home → Type 0
LeaveSome hs = (i b n : ℕ) → get_or hs i InPlace ≡ Held b n → 0 < n

module _ (s : Setting) where
  -- of what leaves more than n loops
  abbrev pub over_of : (n : ℕ) → Home → ℕ
  over_of n InPlace = 0
  over_of n (Own b) = 0
  over_of n (Held b m) = if nat_lt n m then s.size b else 0
  over_of n (Twin b c) = 0

  -- of so many parameters, from the i-th on
  abbrev pub over : (n : ℕ) → List Home → (i many : ℕ) → ℕ
  over n hs i zero = 0
  over n hs i (suc many) = over_of n (get_or hs i InPlace) + over n hs (suc i) many

  -- one of them leaves more than n, or they have no size
  pub some_over : (n : ℕ) (hs : List Home) (i many : ℕ)
      → (over n hs i many ≡ 0) ⊎ ((j : ℕ) × (n < loops_left (get_or hs j InPlace)))
  some_over n hs i zero = inl refl
  some_over n hs i (suc many) = by (get_or hs i InPlace) refl (some_over n hs (suc i) many)
    where
      if_less : (b m : ℕ) → (v : Bool) → nat_lt n m ≡ v → get_or hs i InPlace ≡ Held b m
          → (over n hs (suc i) many ≡ 0) ⊎ ((j : ℕ) × (n < loops_left (get_or hs j InPlace)))
          → ((if v then s.size b else 0) + over n hs (suc i) many ≡ 0)
          ⊎ ((j : ℕ) × (n < loops_left (get_or hs j InPlace)))
      if_less b m true e is rest =
          let l = ltb-true n m e in
          let z : loops_left (get_or hs i InPlace) ≡ m = ap loops_left is in
          inr (i, omega (arith, l, z))
      if_less b m false e is (inl z) = inl (none_too (over n hs (suc i) many) z)
      if_less b m false e is (inr j) = inr j

      by : (h : Home) → get_or hs i InPlace ≡ h
          → (over n hs (suc i) many ≡ 0) ⊎ ((j : ℕ) × (n < loops_left (get_or hs j InPlace)))
          → (over_of n h + over n hs (suc i) many ≡ 0) ⊎ ((j : ℕ) × (n < loops_left (get_or hs j InPlace)))
      by InPlace e (inl z) = inl (none_too (over n hs (suc i) many) z)
      by InPlace e (inr j) = inr j
      by (Own b) e (inl z) = inl (none_too (over n hs (suc i) many) z)
      by (Own b) e (inr j) = inr j
      by (Held b m) e rest = if_less b m (nat_lt n m) refl e rest
      by (Twin b c) e (inl z) = inl (none_too (over n hs (suc i) many) z)
      by (Twin b c) e (inr j) = inr j

  -- those that leave just one loop more stand round that loop
  pub over_next : (n : ℕ) (hs : List Home) (i : ℕ) (args : List Argument)
      → over (suc n) hs i (length args) + total s.size (leaving_buffers hs (leaving_args (suc n) hs i args))
      ≡ over n hs i (length args)
  over_next n hs i [] = refl
  over_next n hs i (a ∷ args) = by (get_or hs i InPlace) refl (over_next n hs (suc i) args)
    where
      rest : List (ℕ × Argument)
      rest = leaving_args (suc n) hs (suc i) args

      sum : ℕ
      sum = total s.size (leaving_buffers hs rest)

      fewer : ℕ
      fewer = over (suc n) hs (suc i) (length args)

      more : ℕ
      more = over n hs (suc i) (length args)

      not_here : (b m : ℕ) (v w : Bool) → nat_lt n m ≡ v → nat_lt (suc n) m ≡ w → (m ≡ suc n → ⊥)
          → fewer + sum ≡ more
          → (if w then s.size b else 0) + fewer + sum ≡ (if v then s.size b else 0) + more
      not_here b m true true e f far h = omega (arith, h)
      not_here b m false false e f far h = omega (arith, h)
      not_here b m true false e f far h =
          let p = ltb-true n m e in
          let q = ltb-false (suc n) m f in
          absurd (far (omega (arith, p, q)))
      not_here b m false true e f far h =
          let p = ltb-false n m e in
          let q = ltb-true (suc n) m f in
          absurd (omega (arith, p, q))

      at_loop : (b m : ℕ) (v : Bool) → (m == suc n) ≡ v → get_or hs i InPlace ≡ Held b m → fewer + sum ≡ more
          → over_of (suc n) (Held b m) + fewer + total s.size (leaving_buffers hs (if v then (i, a) ∷ rest else rest))
          ≡ over_of n (Held b m) + more
      at_loop b m true e is h =
          let z = same_number m (suc n) e in
          let p : nat_lt n m ≡ true = is_less n m (omega (arith, z)) in
          let q : nat_lt (suc n) m ≡ false = grind (arith, nat_tests, z) in
          ap (λ (x : Home). over_of (suc n) (Held b m) + fewer + total s.size (held_of x (leaving_buffers hs rest))) is
          ∙ ap (λ (t : Bool). (if t then s.size b else 0) + fewer + (s.size b + sum)) q
          ∙ (let y : 0 + fewer + (s.size b + sum) ≡ s.size b + more = omega (arith, h) in y)
          ∙ sym (ap (λ (t : Bool). (if t then s.size b else 0) + more) p)
      at_loop b m false e is h =
          not_here b m (nat_lt n m) (nat_lt (suc n) m) refl refl (other_number m (suc n) e) h

      by : (h : Home) → get_or hs i InPlace ≡ h → fewer + sum ≡ more
          → over_of (suc n) h + fewer
          + total s.size (leaving_buffers hs (if leaves_loop (suc n) h then (i, a) ∷ rest else rest))
          ≡ over_of n h + more
      by InPlace e h = omega (arith, h)
      by (Own b) e h = omega (arith, h)
      by (Held b m) e h = at_loop b m (m == suc n) refl e h
      by (Twin b c) e h = omega (arith, h)

  -- and the others just round the call
  pub over_none : (hs : List Home) → LeaveSome hs → (i : ℕ) (args : List Argument)
      → over 0 hs i (length args) + total s.size (buffers_from hs i args) ≡ total s.size (standing_from false hs i args)
  over_none hs some i [] = refl
  over_none hs some i (a ∷ args) = by (get_or hs i InPlace) refl (over_none hs some (suc i) args)
    where
      rest : ℕ
      rest = over 0 hs (suc i) (length args)

      by : (h : Home) → get_or hs i InPlace ≡ h
          → rest + total s.size (buffers_from hs (suc i) args) ≡ total s.size (standing_from false hs (suc i) args)
          → over_of 0 h + rest + total s.size (buffer_of h (buffers_from hs (suc i) args))
          ≡ total s.size (standing false h (standing_from false hs (suc i) args))
      by InPlace e h = omega (arith, h)
      by (Own b) e h = omega (arith, h)
      by (Held b m) e h =
          ap (λ (t : Bool). (if t then s.size b else 0) + rest + total s.size (buffers_from hs (suc i) args))
          (is_less 0 m (some i b m e))
          ∙ omega (arith, h)
      by (Twin b c) e h = omega (arith, h)

  -- or in the two sets, round a loop that overlaps its transfers
  pub over_sets : (hs : List Home) → LeaveSome hs → (i : ℕ) (args : List Argument)
      → over 0 hs i (length args)
      + (total s.size (set_buffers_from 0 hs i args) + total s.size (set_buffers_from 1 hs i args))
      ≡ total s.size (standing_from true hs i args)
  over_sets hs some i [] = refl
  over_sets hs some i (a ∷ args) = by (get_or hs i InPlace) refl (over_sets hs some (suc i) args)
    where
      rest : ℕ
      rest = over 0 hs (suc i) (length args)

      one : List ℕ
      one = set_buffers_from 0 hs (suc i) args

      two : List ℕ
      two = set_buffers_from 1 hs (suc i) args

      by : (h : Home) → get_or hs i InPlace ≡ h
          → rest + (total s.size one + total s.size two) ≡ total s.size (standing_from true hs (suc i) args)
          → over_of 0 h + rest + (total s.size (twin_of 0 h one) + total s.size (twin_of 1 h two))
          ≡ total s.size (standing true h (standing_from true hs (suc i) args))
      by InPlace e h = omega (arith, h)
      by (Own b) e h = omega (arith, h)
      by (Held b m) e h =
          ap (λ (t : Bool). (if t then s.size b else 0) + rest + (total s.size one + total s.size two))
          (is_less 0 m (some i b m e))
          ∙ omega (arith, h)
      by (Twin b c) e h = omega (arith, h)

  -- where none leaves more
  pub none_over : (n : ℕ) (hs : List Home) → ((j : ℕ) → loops_left (get_or hs j InPlace) ≤ n) → (many : ℕ)
      → over n hs 0 many ≡ 0
  none_over n hs most many = by (some_over n hs 0 many)
    where
      by : (over n hs 0 many ≡ 0) ⊎ ((j : ℕ) × (n < loops_left (get_or hs j InPlace))) → over n hs 0 many ≡ 0
      by (inl z) = z
      by (inr j) = let l = j.1 in let m = most j.0 in absurd (omega (arith, l, m))
