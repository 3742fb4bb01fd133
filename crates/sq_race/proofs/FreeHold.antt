-- Where no form has a race, no map of the program's work has one.
use Rattle.std.proofs.Common.{ℕ, None}
use Rattle.std.proofs.Math.Logic.{∥∥₁_elim}
use Rattle.sq_spec.specs.declared.resolved.Resolved.{Resolved}
use Rattle.sq_spec.specs.Walked.{IsWalked}
use Rattle.sq_work.specs.Work.{Work, Nothing, Then, Each, AtOnce, Gathers, Call, Leaf}
use Rattle.sq_spec.specs.Works.{work_of}
use Rattle.sq_work.specs.InTurn.{IsRaceFree}
use Rattle.sq_race.specs.Race.{IsFirstRace}
use Rattle.sq_race.specs.Free.{NoRaceIsFree}
use Rattle.sq_race.proofs.FormFree.{program_free}

-- there is one proof at most that a work has no race
free_prop : (w : Work) → IsProp (IsRaceFree w)
free_prop Nothing = hlevel refl
free_prop (Then a b) = hlevel (free_prop a, free_prop b)
free_prop (Each count w) = let more : (t : ℕ) → IsProp (IsRaceFree (w t)) = λ t. free_prop (w t) in hlevel more
free_prop (AtOnce place count w) = let more : (t : ℕ) → IsProp (IsRaceFree (w t)) = λ t. free_prop (w t) in hlevel more
free_prop (Gathers r place count w) = let more : (t : ℕ) → IsProp (IsRaceFree (w t)) = λ t. free_prop (w t) in hlevel more
free_prop (Call form lower args w) = free_prop w
free_prop (Leaf code) = hlevel refl

walked_free : (r : Resolved) → IsWalked r.typed.now r.machine.now.levels r.mapping.now r.found.entries r.forms r.uses → IsFirstRace r None
    → IsRaceFree (work_of r.typed.now.tasks r.mapping.now r.found.entries)
walked_free r w none =
    program_free r.typed.now r.machine.now.levels r.mapping.now w.faultless w.formed w.read
    (record { found = r.found.entries; forms = r.forms; uses = r.uses }) w.through
    (λ k f uses form_is uses_are. record {
      none = λ round x holds. none k round x (record { of = f; uses = uses; form_is = form_is; uses_are = uses_are; holds = holds });
    })

pub no_race_is_free : NoRaceIsFree
no_race_is_free r none = ∥∥₁_elim r.walked (free_prop (work_of r.typed.now.tasks r.mapping.now r.found.entries)) (λ w. walked_free r w none)
