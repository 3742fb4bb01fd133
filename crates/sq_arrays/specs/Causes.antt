-- Why a reading call ends.
use Rattle.std.specs.Prelude.{◌≡◌, ℕ, ◌≤◌, List, Option, Result, Ok, Err}
use Rattle.sq_arrays.specs.declared.refusal.InputEnd.{InputEnd}
use Rattle.sq_arrays.specs.declared.refusal.InputEnd.TheVariants.{Refused, Failed, Absent}
use Rattle.sq_port.specs.Ports.{Content, Rose}
use Rattle.sq_arrays.specs.Window.{IsThere, IsMissing}

-- Ok and Refused change no count, and the others have theirs that rose, and leave the other
abbrev pub EndedBy : {T : Type 0} → (faults now_faults misses now_misses : ℕ) → Result T InputEnd → Type 0
EndedBy faults now_faults misses now_misses (Ok x) = (now_faults ≡ faults) × (now_misses ≡ misses)
EndedBy faults now_faults misses now_misses (Err (Refused code place)) = (now_faults ≡ faults) × (now_misses ≡ misses)
EndedBy faults now_faults misses now_misses (Err Failed) = Rose faults now_faults × (now_misses ≡ misses)
EndedBy faults now_faults misses now_misses (Err Absent) = Rose misses now_misses × (now_faults ≡ faults)

pub record EndCause {T : Type 0} (faults now_faults misses now_misses : ℕ) (result : Result T InputEnd) : Type 0 where
  pub faults_later : faults ≤ now_faults
  pub misses_later : misses ≤ now_misses
  pub ended : EndedBy faults now_faults misses now_misses result

-- Ok and Refused only where the name is there, and Absent only where it isn't
abbrev pub IsThereUnlessFailed : {T : Type 0} → Option Content → List ℕ → Result T InputEnd → Type 0
IsThereUnlessFailed told name (Ok x) = IsThere told name
IsThereUnlessFailed told name (Err (Refused code place)) = IsThere told name
IsThereUnlessFailed told name (Err Failed) = Unit {0}
IsThereUnlessFailed told name (Err Absent) = IsMissing told name
