-- What a phase makes of a file that it reads whole.
use Rattle.std.proofs.Common.{◌≡◌, inl, inr, ℕ, List, Option, Some, Ok, Err, refl, sym, ◌∙◌, subst, arith}
use Rattle.sq_port.specs.Ports.{Content}
use Rattle.sq_text.specs.declared.code.Phase.{Phase}
use Rattle.sq_text.specs.declared.code.Phase.TheVariants.{Program, Types, Machine, Mapping, Resolve, Race, Capacity, Plan, Cost, Order, Input}
use Rattle.sq_text.specs.declared.fault.Fault.{Fault}
use Rattle.sq_text.specs.First.{InTurn, AtOrBefore}
use Rattle.sq_text.specs.Faults.{IsFirst, fault_place, fault_number}
use Rattle.sq_lexer.specs.Faults.{FitsFile, IsTooLong, HasFault, too_long, breaks}
use Rattle.sq_driver.specs.declared.outside.end.End.{End}
use Rattle.sq_driver.specs.declared.outside.end.End.TheVariants.{Usage, Absent, FileFault, Refused, Trapped, NoMemory, SinkFault}
use Rattle.sq_driver.specs.Holding.{Holds}
use Rattle.sq_driver.specs.Programs.{too_long_fault}
use Rattle.sq_driver.specs.Steps.{ReadsFitting, ReadsRight}

not_both : (phase : Phase) (text : List ℕ) → FitsFile phase text → IsTooLong phase text → ⊥
not_both Program text fits long = omega (arith, fits, long)
not_both Machine text fits long = omega (arith, fits, long)
not_both Mapping text fits long = omega (arith, fits, long)
not_both Types text fits long = long
not_both Resolve text fits long = long
not_both Race text fits long = long
not_both Capacity text fits long = long
not_both Plan text fits long = omega (arith, fits, long)
not_both Cost text fits long = omega (arith, fits, long)
not_both Order text fits long = long
not_both Input text fits long = long

least_has : {phase : Phase} {text : List ℕ} {f : Fault} → HasFault phase text f → IsTooLong phase text
    → AtOrBefore fault_place fault_number (too_long_fault phase) f
least_has (too_long its) long = inr (refl, omega arith)
least_has {phase = phase} {text = text} (breaks fits from) long = absurd (not_both phase text fits long)

-- a text that is too long has no other fault before that
pub first_of_long : (phase : Phase) (text : List ℕ) (Later : Fault → Type 0) → IsTooLong phase text
    → IsFirst (InTurn (HasFault phase text) Later) (Some (too_long_fault phase))
first_of_long phase text Later long = (
  inl (too_long long),
  λ f holds. elim holds [
    | inl has ↦ least_has has long
    | inr later ↦ absurd
        (later.0 (too_long_fault phase) (too_long long))
  ],
)

-- a phase that takes that for its first fault ends as the reading does
pub fitting_stops : {A : Type 0} (Is : List ℕ → A → Type 0) (Fails : List ℕ → Fault → Type 0) (phase : Phase)
    (told : Option Content) (name : List ℕ)
    → ((text : List ℕ) → IsTooLong phase text → Fails text (too_long_fault phase))
    → (end : End) → ReadsFitting phase told name (Err end) → ReadsRight Is Fails phase told name (Err end)
fitting_stops Is Fails phase told name long Usage stops = stops
fitting_stops Is Fails phase told name long (Absent at) stops = stops
fitting_stops Is Fails phase told name long (FileFault at) stops = stops
fitting_stops Is Fails phase told name long (Refused its) stops = λ c is.
    let found = stops c is in
    (found.0, found.1, subst (λ (f : Fault). Fails found.0 f) (sym found.3) (long found.0 found.2))
fitting_stops Is Fails phase told name long (Trapped trap) stops = stops
fitting_stops Is Fails phase told name long NoMemory stops = stops
fitting_stops Is Fails phase told name long SinkFault stops = stops

some_same : {A : Type 0} (o : Option A) (x y : A) → o ≡ Some x → o ≡ Some y → x ≡ y
some_same o x y a b = cc

-- a file that is read whole
module _ {A : Type 0} (Is : List ℕ → A → Type 0) (Fails : List ℕ → Fault → Type 0) (phase : Phase)
    (told : Option Content) (name text : List ℕ) (reads : ReadsFitting phase told name (Ok text)) (slice : List ℕ)
    (same : slice ≡ text) where
  pub of_slice : {B : Type 0} (P : List ℕ → B → Type 0) (c : Content) → told ≡ Some c → (value : B)
      → Holds P (c name) value → P slice value
  of_slice P c is value holds = subst (λ (t : List ℕ). P t value)
      (some_same (c name) holds.0 text holds.1 (reads.1 c is) ∙ sym same) holds.2

  pub right_held : (value : A) → Is slice value → ((that : A) → Is slice that → value ≡ that)
      → ((f : Fault) → Fails slice f → ⊥) → ReadsRight Is Fails phase told name (Ok value)
  right_held value is only none = λ c at. record {
    one = record {
      holds = (text, reads.1 c at, subst (λ (t : List ℕ). Is t value) same is);
      only = λ that holds. sym
          (only that (of_slice Is c at that holds));
    };
    no_fault = λ f holds. none f (of_slice Fails c at f holds);
  }

  pub right_refused : (its : Fault) → Fails slice its → ReadsRight Is Fails phase told name (Err (Refused its))
  right_refused its fails = λ c at. (text, reads.1 c at, subst (λ (t : List ℕ). Fails t its) same fails)
