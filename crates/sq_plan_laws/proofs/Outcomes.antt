-- Outcomes that are the same: one after another, and iterations from one start.
use Rattle.std.proofs.Common.{◌≡◌, ℕ, zero, suc, ◌+◌, ◌*◌, ◌<◌, Bool, true, false, cond, List, ◌∷◌, ap, ap₂, ◌∙◌, arith}
use Rattle.std.specs.Prelude.{Option, Some, None, Ok, Err, slice_get, if◌then◌else◌}
use Rattle.sq_num.specs.Elements.{width, value}
use Rattle.sq_rect.specs.Placing.{IsIn}
use Rattle.sq_leaf.specs.declared.shape.Shape.{Shape}
use Rattle.sq_leaf.specs.Source.{Arrays}
use Rattle.sq_work.specs.Meaning as source
use Rattle.sq_work.specs.Meaning.{Outcome}
use Rattle.sq_cells.specs.Cells.{Spot, spot, State}
use Rattle.sq_cells.specs.Tree.{Trap}
use Rattle.sq_cells.specs.Work as bytes
use Rattle.sq_cells.specs.Work.{Ends, Traps}
use Rattle.sq_plan_laws.specs.Coordinates.{number}
use Rattle.sq_plan_laws.specs.Codes.{loaded, Codes, SameOutcome}
use Rattle.sq_plan_laws.proofs.PlacedLists.{listed_same}

module _ (outer : List Shape) where
  pub then_same : (o : Outcome) (o' : bytes.Outcome) (next : Arrays → Outcome) (next' : State → bytes.Outcome)
      → SameOutcome outer o o' → ((s : Arrays) (s' : State) → Codes outer s s' → SameOutcome outer (next s) (next' s'))
      → SameOutcome outer (source.and_then o next) (bytes.and_then o' next')
  then_same (Ok s) (Ends s') next next' h k = k s s' h
  then_same (Ok s) (Traps y) next next' h k = absurd h
  then_same (Err x) (Ends s') next next' h k = absurd h
  then_same (Err x) (Traps y) next next' h k = h

  pub numbered_same : (t : ℕ) (o : Outcome) (o' : bytes.Outcome) → SameOutcome outer o o'
      → SameOutcome outer (source.with_turn t o) (bytes.numbered t o')
  numbered_same t (Ok s) (Ends s') h = h
  numbered_same t (Ok s) (Traps y) h = absurd h
  numbered_same t (Err x) (Ends s') h = absurd h
  numbered_same t (Err x) (Traps y) h = (ap (λ (l : List ℕ). t ∷ l) h.0, h.1)

  pub turns_same : (n : ℕ) (f : ℕ → Arrays → Outcome) (f' : ℕ → State → bytes.Outcome)
      → ((t : ℕ) → t < n → (s : Arrays) (s' : State) → Codes outer s s' → SameOutcome outer (f t s) (f' t s'))
      → (s : Arrays) (s' : State) → Codes outer s s' → SameOutcome outer (source.in_turn n f s) (bytes.in_turn n f' s')
  turns_same zero f f' h s s' codes = codes
  turns_same (suc n) f f' h s s' codes =
      then_same (source.in_turn n f s) (bytes.in_turn n f' s') (λ a. source.with_turn n (f n a))
      (λ a. bytes.numbered n (f' n a)) (turns_same n f f' (λ t lt. h t (omega (arith, lt))) s s' codes)
      (λ a a' c. numbered_same n (f n a) (f' n a') (h n (omega arith) a a' c))

  -- whether an element of these arrays is written, on numbers and on bytes
  abbrev pub SameWritten : (ℕ → List ℕ → Bool) → (Spot → Bool) → Type 0
  SameWritten w w' = (m : ℕ) (sh : Shape) (cs : List ℕ) (b : ℕ) → slice_get outer m ≡ Some sh → IsIn sh.extents cs → b
      < width sh.elem → w m cs ≡ w' (spot m (number sh.extents cs * width sh.elem + b))

  -- an element by a test
  pub chosen_same : (sh : Shape) (cs : List ℕ) (x : Bool) (w : ℕ → Bool) (u v : ℕ → ℕ)
      → ((b : ℕ) → b < width sh.elem → x ≡ w (number sh.extents cs * width sh.elem + b))
      → (if x then loaded sh u cs else loaded sh v cs) ≡ loaded sh (λ k. cond (w k) (u k) (v k)) cs
  chosen_same sh cs x w u v same = go x same
    where
      go : (x : Bool) → ((b : ℕ) → b < width sh.elem → x ≡ w (number sh.extents cs * width sh.elem + b))
          → (if x then loaded sh u cs else loaded sh v cs) ≡ loaded sh (λ k. cond (w k) (u k) (v k)) cs
      go true e = ap (value sh.elem)
          (listed_same (width sh.elem) _ _
          (λ b lb. ap (λ z. cond z (u (number sh.extents cs * width sh.elem + b))
          (v (number sh.extents cs * width sh.elem + b))) (e b lb)))
      go false e = ap (value sh.elem)
          (listed_same (width sh.elem) _ _
          (λ b lb. ap (λ z. cond z (u (number sh.extents cs * width sh.elem + b))
          (v (number sh.extents cs * width sh.elem + b))) (e b lb)))

  taken_same : (w : ℕ → List ℕ → Bool) (w' : Spot → Bool) (own below : Arrays) (own' below' : State) → SameWritten w w'
      → Codes outer own own' → Codes outer below below'
      → Codes outer (source.with_writes w own below) (λ l. cond (w' l) (own' l) (below' l))
  taken_same w w' own below own' below' same c d = record {
    at = λ m sh cs there at.
        ap₂ (λ x y. if w m cs then x else y) (c.at m sh cs there at) (d.at m sh cs there at)
        ∙ chosen_same sh cs (w m cs) (λ k. w' (spot m k)) (λ k. own' (spot m k)) (λ k. below' (spot m k))
        (λ b lb. same m sh cs b there at lb);
  }

  -- the first trap of iterations, or none
  abbrev pub traps : (ℕ → bytes.Outcome) → ℕ → Option Trap
  traps f' n = bytes.first_trap n (λ t. bytes.trap_of (bytes.numbered t (f' t)))

  -- one more iteration
  step : (w : ℕ → List ℕ → Bool) (w' : Spot → Bool) (n : ℕ) (s' : State) → SameWritten w w'
      → (below : Outcome) (first : Option Trap) (merged : State)
      → SameOutcome outer below (bytes.ends_unless first merged)
      → (own : Outcome) (own' : bytes.Outcome) → SameOutcome outer own own'
      → SameOutcome outer (source.and_then below
      (λ before. source.and_then (source.with_turn n own) (λ mine. Ok (source.with_writes w mine before))))
      (bytes.ends_unless (bytes.first_of first (bytes.trap_of (bytes.numbered n own')))
      (λ l. cond (w' l) (bytes.state_or s' own' l) (merged l)))
  step w w' n s' same (Ok before) None merged h (Ok mine) (Ends mine') g
      = taken_same w w' mine before mine' merged same g h
  step w w' n s' same (Ok before) None merged h (Ok mine) (Traps y) g = absurd g
  step w w' n s' same (Ok before) None merged h (Err x) (Ends mine') g = absurd g
  step w w' n s' same (Ok before) None merged h (Err x) (Traps y) g = (ap (λ (l : List ℕ). n ∷ l) g.0, g.1)
  step w w' n s' same (Ok before) (Some z) merged h own own' g = absurd h
  step w w' n s' same (Err x) None merged h own own' g = absurd h
  step w w' n s' same (Err x) (Some z) merged h own own' g = h

  pub apart_same : (n : ℕ) (w : ℕ → ℕ → List ℕ → Bool) (w' : ℕ → Spot → Bool) (f : ℕ → Outcome) (f' : ℕ → bytes.Outcome)
      (s : Arrays) (s' : State) → ((t : ℕ) → t < n → SameWritten (w t) (w' t))
      → ((t : ℕ) → t < n → SameOutcome outer (f t) (f' t)) → Codes outer s s'
      → SameOutcome outer (source.apart n (λ t. source.with_writes (w t)) f s) (bytes.at_once n w' f' s')
  apart_same zero w w' f f' s s' same each codes = codes
  apart_same (suc n) w w' f f' s s' same each codes =
      step (w n) (w' n) n s' (same n (omega arith)) (source.apart n (λ t. source.with_writes (w t)) f s) (traps f' n)
      (bytes.merged n w' (λ t. bytes.state_or s' (f' t)) s')
      (apart_same n w w' f f' s s' (λ t lt. same t (omega (arith, lt))) (λ t lt. each t (omega (arith, lt))) codes)
      (f n) (f' n) (each n (omega arith))
