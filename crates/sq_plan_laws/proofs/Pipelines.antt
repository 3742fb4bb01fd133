-- The events of a list of iterations whose transfers overlap.
use Rattle.std.proofs.Common.{◌≡◌, ℕ, zero, suc, ◌<◌, Bool, true, nat_lt, List, [], ◌∷◌, sym, subst, arith}
use Rattle.std.specs.Prelude.{if◌then◌else◌}
use Rattle.std.proofs.lemmas.Bool.Decides.{nat_tests}
use Rattle.sq_ir.specs.Tree.{Skip, seq}
use Rattle.sq_ir.specs.Scopes.{Scope}
use Rattle.sq_ir.specs.Written.{PlanTree, seq_of}
use Rattle.sq_placed.specs.Trees.{seq_all, turn_before, turn_after, turn_of, pipeline}
use Rattle.sq_plan_laws.specs.Around.{IsAround}
use Rattle.sq_plan_laws.proofs.Grown.{Aside, seq_first, seq_next, par_left, par_right, aside_first, aside_next}
use Rattle.sq_plan_laws.proofs.Grown.{aside_left, in_seq, aside_seq}

module _ (come work back : ℕ → PlanTree) where
  abbrev turns : ℕ → PlanTree
  turns n = seq_of (suc n) (turn_of come work back (suc n)) 0

  abbrev beside_it : ℕ → ℕ → PlanTree
  beside_it m j = seq (turn_before back j) (turn_after come m j)

  in_turn : (n j : ℕ) (l : List Scope) → j < suc n → IsAround (turn_of come work back (suc n) j) l
      → IsAround (pipeline come work back (suc n)) l
  in_turn n j l lt h =
      seq_next (come 0) (seq_all (turns n ∷ back n ∷ [])) l
      (seq_first (turns n) (seq_all (back n ∷ [])) l (in_seq (suc n) (turn_of come work back (suc n)) j l lt h))

  pub in_work : (m j : ℕ) (l : List Scope) → j < m → IsAround (work j) l → IsAround (pipeline come work back m) l
  in_work zero j l lt h = absurd (omega (arith, lt))
  in_work (suc n) j l lt h = in_turn n j l lt (par_left (work j) (beside_it (suc n) j) l h)

  -- the first comes in before all works, and another one beside the work of the one before it
  pub in_come : (m j : ℕ) (l : List Scope) → j < m → IsAround (come j) l → IsAround (pipeline come work back m) l
  in_come zero j l lt h = absurd (omega (arith, lt))
  in_come (suc n) zero l lt h = seq_first (come 0) (seq_all (turns n ∷ back n ∷ [])) l h
  in_come (suc n) (suc j) l lt h =
      let there : nat_lt (suc j) (suc n) ≡ true = grind (arith, nat_tests) in
      in_turn n j l (omega (arith, lt))
      (par_right (work j) (beside_it (suc n) j) l
      (seq_next (turn_before back j) (turn_after come (suc n) j) l
      (subst (λ (v : Bool). IsAround (if v then come (suc j) else Skip) l) (sym there) h)))

  pub aside_work : (m j : ℕ) → j < m → Aside (pipeline come work back m) → Aside (work j)
  aside_work zero j lt h = absurd (omega (arith, lt))
  aside_work (suc n) j lt h =
      aside_left (work j) (beside_it (suc n) j)
      (aside_seq (suc n) (turn_of come work back (suc n)) j lt
      (aside_first (turns n) (seq_all (back n ∷ []))
      (aside_next (come 0) (seq_all (turns n ∷ back n ∷ [])) h)))
