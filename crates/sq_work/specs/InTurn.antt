-- Maps without a race: their iterations may run one after another, over one set of arrays.
use Rattle.std.specs.Prelude.{◌≡◌, ℕ, ◌<◌, nat_eq, Bool, true, false, List, Ok, Err, if◌then◌else◌}
use Rattle.sq_num.specs.Reductions.{red}
use Rattle.sq_leaf.specs.Source.{Arrays}
use Rattle.sq_work.specs.declared.reduction.Reduction.{Reduction}
use Rattle.sq_work.specs.Work.{Work, Nothing, Then, Each, AtOnce, Gathers, Call, Leaf}
use Rattle.sq_work.specs.Meaning.{Outcome, and_then, at_entry, at_return, writes, touches, in_turn, with_identity, leaf_outcome, meaning}

-- no element that one iteration writes is touched by another, arrays left aside of which that is not asked
pub record AreApart (count : ℕ) (w : ℕ → Work) (aside : ℕ → Bool) : Type 0 where
  pub at : (a b n : ℕ) (cs : List ℕ) → a < count → b < count → (a ≡ b → ⊥) → aside n ≡ false → writes (w a) n cs ≡ true
      → touches (w b) n cs ≡ true → ⊥

abbrev pub none_aside : ℕ → Bool
none_aside n = false

-- the array that is reduced into
abbrev pub its_array : Reduction → ℕ → Bool
its_array r n = nat_eq n r.array

-- each `mappar` and each `mapreduce` has iterations that are apart
abbrev pub IsRaceFree : Work → Type 0
IsRaceFree Nothing = Unit {0}
IsRaceFree (Then a b) = IsRaceFree a × IsRaceFree b
IsRaceFree (Each count w) = (t : ℕ) → t < count → IsRaceFree (w t)
IsRaceFree (AtOnce place count w) = AreApart count w none_aside × ((t : ℕ) → t < count → IsRaceFree (w t))
IsRaceFree (Gathers r place count w) = AreApart count w (its_array r) × ((t : ℕ) → t < count → IsRaceFree (w t))
IsRaceFree (Call form lower args w) = IsRaceFree w
IsRaceFree (Leaf code) = Unit {0}

-- what an iteration left in the array that is reduced into is combined into what was there before it
abbrev pub with_combined : Reduction → Arrays → Arrays → Arrays
with_combined r before own n cs = if nat_eq n r.array then red r.op r.elem (before n cs) (own n cs) else own n cs

-- an iteration of a `mapreduce`: the array that is reduced into is the identity at its start, and its values are kept
-- apart until its end
abbrev pub gathering : Reduction → (Arrays → Outcome) → Arrays → Outcome
gathering r f s = and_then (f (with_identity r s)) (λ own. Ok (with_combined r s own))

-- the meaning with the iterations of all maps one after another
abbrev pub serial : Work → Arrays → Outcome
serial Nothing s = Ok s
serial (Then a b) s = and_then (serial a s) (serial b)
serial (Each count w) s = in_turn count (λ t. serial (w t)) s
serial (AtOnce place count w) s = in_turn count (λ t. serial (w t)) s
serial (Gathers r place count w) s = in_turn count (λ t. gathering r (serial (w t))) s
serial (Call form lower args w) s = and_then (serial w (at_entry args s)) (λ inner. Ok (at_return 0 args inner s))
serial (Leaf code) s = leaf_outcome (code s)

-- ---- laws

-- a work changes only what it writes
abbrev pub ChangesWritten : Type 0
ChangesWritten = (w : Work) (s after : Arrays) → meaning w s ≡ Ok after → (n : ℕ) (cs : List ℕ) → writes w n cs ≡ false
    → after n cs ≡ s n cs

-- arrays that agree on what a work touches
abbrev pub AgreeOn : Work → Arrays → Arrays → Type 0
AgreeOn w s t = (n : ℕ) (cs : List ℕ) → touches w n cs ≡ true → s n cs ≡ t n cs

-- both trap alike, or end with arrays that agree on it
abbrev pub EndAlike : Work → Outcome → Outcome → Type 0
EndAlike w (Ok s) (Ok t) = AgreeOn w s t
EndAlike w (Err x) (Err y) = x ≡ y
EndAlike w (Ok s) (Err y) = ⊥
EndAlike w (Err x) (Ok t) = ⊥

-- a work depends only on what it touches
abbrev pub DependsOnTouched : Type 0
DependsOnTouched = (w : Work) (s t : Arrays) → AgreeOn w s t → EndAlike w (meaning w s) (meaning w t)

-- without a race the iterations of all maps may run one after another: the arrays and the trap with its path are the
-- same
abbrev pub RaceFreeIsSerial : Type 0
RaceFreeIsSerial = (w : Work) → IsRaceFree w → (s : Arrays) → meaning w s ≡ serial w s
