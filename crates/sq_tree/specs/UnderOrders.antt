-- What holds of the runs under an order.
use Rattle.std.specs.Prelude.{◌≡◌, ℕ, List, ◌++◌, length, replicate}
use Rattle.sq_ir.specs.Tree.{ready}
use Rattle.sq_ir.specs.Runs.{Meaning, State}
use Rattle.sq_ir.specs.Footprints.{Footprint, CanRun}
use Rattle.sq_tree.specs.Runs.{RunsUnder}

-- A run under an order's answers is a run under them as picks.
abbrev pub RunsUnderAreRuns : (E S A C : Type 0) → Type 0
RunsUnderAreRuns E S A C =
    (answer : List ℕ → ℕ → ℕ) (next : List ℕ → ℕ → List ℕ) (w : Meaning E (A → ℕ) C) (f : Footprint E A)
    → (held left : List ℕ) (s t : State E S (A → ℕ) C) (picks : List ℕ) (events : List E)
    → RunsUnder answer next w f held s picks events t left → CanRun w f s picks events t

-- Under an order that always answers 0, whatever it holds, all picks are 0.
abbrev pub FirstPicksZero : (E S A C : Type 0) → Type 0
FirstPicksZero E S A C =
    (next : List ℕ → ℕ → List ℕ) (w : Meaning E (A → ℕ) C) (f : Footprint E A) (held left : List ℕ)
    → (s t : State E S (A → ℕ) C) (picks : List ℕ) (events : List E)
    → RunsUnder (λ h ready. 0) next w f held s picks events t left → picks ≡ replicate (length picks) 0

-- These events, and later ones behind them, are a run under the order from s on to where nothing is ready.
pub record GoesOn {E S A C : Type 0} (answer : List ℕ → ℕ → ℕ) (next : List ℕ → ℕ → List ℕ) (w : Meaning E (A → ℕ) C)
    (f : Footprint E A) (held : List ℕ) (s : State E S (A → ℕ) C) (picks : List ℕ) (events : List E) : Type 0 where
  pub more : List ℕ
  pub later : List E
  pub last : State E S (A → ℕ) C
  pub left : List ℕ
  pub runs : RunsUnder answer next w f held s (picks ++ more) (events ++ later) last left
  pub over : ready last.rest ≡ 0

-- Each run under an order goes on under it until nothing is ready.
abbrev pub RunsUnderGoOn : (E S A C : Type 0) → Type 0
RunsUnderGoOn E S A C =
    (answer : List ℕ → ℕ → ℕ) (next : List ℕ → ℕ → List ℕ) (w : Meaning E (A → ℕ) C) (f : Footprint E A)
    → (held left : List ℕ) (s t : State E S (A → ℕ) C) (picks : List ℕ) (events : List E)
    → RunsUnder answer next w f held s picks events t left → GoesOn answer next w f held s picks events
