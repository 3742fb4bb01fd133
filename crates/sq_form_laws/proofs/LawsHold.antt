-- The laws of the definitions.
use Rattle.std.proofs.Common.{◌≡◌, List, [], ◌∷◌, ◌++◌, Option, Some, None, Ok, Err, refl, ◌∙◌, ap}
use Rattle.sq_text.specs.declared.fault.Fault.{Fault}
use Rattle.sq_forms.specs.Faults.{Value, and_then}
use Rattle.sq_forms.specs.Steps.{Step, State, Tests, run, meet, after_test}
use Rattle.sq_form_laws.specs.Laws.{StopsAt, FirstFault, AllPassed}

one_further : (s t : State) (step : Step) (rest : List Step) (f : Fault) → meet s step ≡ Ok t → StopsAt t rest f → StopsAt s (step ∷ rest) f
one_further s t step rest f e h = record {
  front = step ∷ h.front;
  at = h.at;
  rest = h.rest;
  all = ap (λ l. step ∷ l) h.all;
  state = h.state;
  passed = ap (λ (v : Value State). and_then v (λ u. run u h.front)) e ∙ h.passed;
  fault = h.fault;
}

first_fault_by : (s : State) (step : Step) (rest : List Step) (f : Fault) → ((t : State) → run t rest ≡ Err f → StopsAt t rest f)
    → (v : Value State) → meet s step ≡ v → and_then v (λ t. run t rest) ≡ Err f → StopsAt s (step ∷ rest) f
first_fault_by s step rest f more (Ok t) e h = one_further s t step rest f e (more t h)
first_fault_by s step rest f more (Err g) e h = record { front = []; at = step; rest = rest; all = refl; state = s; passed = refl; fault = e ∙ h }

pub first_fault : FirstFault
first_fault s [] f h = absurd (cc h)
first_fault s (step ∷ rest) f h = first_fault_by s step rest f (λ t. first_fault t rest f) (meet s step) refl h

passed_first : (s t : State) (o : Option Fault) (rest : List Step) → and_then (after_test s o) (λ u. run u rest) ≡ Ok t → o ≡ None
passed_first s t None rest h = refl
passed_first s t (Some f) rest h = absurd (cc h)

passed_by : (t : State) (front : List Step) (o : Option Fault) (rest : List Step) → ((s : State) → run s (front ++ Tests o ∷ rest) ≡ Ok t → o ≡ None)
    → (v : Value State) → and_then v (λ u. run u (front ++ Tests o ∷ rest)) ≡ Ok t → o ≡ None
passed_by t front o rest more (Ok s) h = more s h
passed_by t front o rest more (Err f) h = absurd (cc h)

pub all_passed : AllPassed
all_passed s t [] o rest h = passed_first s t o rest h
all_passed s t (step ∷ front) o rest h = passed_by t front o rest (λ u. all_passed u t front o rest) (meet s step) h
