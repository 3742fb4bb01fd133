-- The row of the demo, from the answer of the call.
use Rattle.std.proofs.Common.{◌≡◌, ◌⊎◌, inl, inr, ℕ, List, Option, Some, None, refl, ◌∙◌, subst}
use Rattle.sq_port.specs.Ports.{Content}
use Rattle.sq_text.specs.declared.code.Phase.{Phase}
use Rattle.sq_text.specs.declared.code.Phase.TheVariants.{Program, Types, Machine, Mapping, Resolve, Race, Capacity, Plan, Cost, Order, Input}
use Rattle.sq_words.specs.Words.{Command, demo_of}
use Rattle.sq_demo_laws.specs.Laws.{DemoLaws}
use Rattle.sq_driver.specs.declared.outside.status.Status.{Status}
use Rattle.sq_driver.specs.declared.outside.status.Status.TheVariants.{Done, SinkFault, NoMemory}
use Rattle.sq_driver.specs.Phases.{file_of}
use Rattle.sq_driver.specs.Meaning.{Answer, done, refused, trapped, usage, file_fault, no_memory, absent, Means}
use Rattle.sq_driver.specs.Banks.{Writing, whole, cut_out, cut_err}
use Rattle.sq_driver.specs.Outcome.{status_for, Outside}
use Rattle.sq_driver.specs.Top.{IsAnswer, StatusFor, Answered, IsDemoDone}
use Rattle.sq_driver.proofs.Accepted.{no_fault, no_trap}

-- no phase of the demo reads a file
no_file : (n : ℕ) (phase : Phase) (name : List ℕ) → file_of (demo_of n) phase ≡ Some name → ⊥
no_file n Program name is = let none : None ≡ Some name = is in cc
no_file n Types name is = let none : None ≡ Some name = is in cc
no_file n Machine name is = let none : None ≡ Some name = is in cc
no_file n Mapping name is = let none : None ≡ Some name = is in cc
no_file n Resolve name is = let none : None ≡ Some name = is in cc
no_file n Race name is = let none : None ≡ Some name = is in cc
no_file n Capacity name is = let none : None ≡ Some name = is in cc
no_file n Plan name is = let none : None ≡ Some name = is in cc
no_file n Cost name is = let none : None ≡ Some name = is in cc
no_file n Order name is = let none : None ≡ Some name = is in cc
no_file n Input name is = let none : None ≡ Some name = is in cc

-- no file is there
abbrev nothing : Content
nothing name = None

its_status : DemoLaws → (n : ℕ) (told : Option Content) (answer : Answer) → Means (demo_of n) told answer
    → (status_for answer ≡ Done) ⊎ (status_for answer ≡ NoMemory)
its_status laws n told (done out trace) means = inl refl
its_status laws n told (refused phase its) means =
    absurd (no_fault laws nothing n phase its (means.cause nothing (inr refl)).1)
its_status laws n told (trapped trap trace) means =
    absurd (no_trap laws nothing n trap (means.cause nothing (inr refl)).1)
its_status laws n told usage means = absurd means.names
its_status laws n told (file_fault phase name) means = absurd (no_file n phase name means.names)
its_status laws n told no_memory means = inr refl
its_status laws n told (absent phase name) means = absurd (no_file n phase name means.names)

with_writing : (answer : Answer) (writing : Writing) (status : Status) → StatusFor answer writing status
    → (status_for answer ≡ Done) ⊎ (status_for answer ≡ NoMemory)
    → (status ≡ Done) ⊎ ((status ≡ NoMemory) ⊎ (status ≡ SinkFault))
with_writing answer whole status is (inl e) = inl (is ∙ e)
with_writing answer whole status is (inr e) = inr (inl (is ∙ e))
with_writing answer cut_out status is either = inr (inr is)
with_writing answer (cut_err got) status is either = inr (inr is)

pub demo_row : DemoLaws → {command : Option Command} {old now : Outside} {f f2 m m2 : ℕ} {status : Status}
    → Answered command old now f f2 m m2 status → IsDemoDone command status
demo_row laws {command} {old} {now} {f} {f2} {m} {m2} {status} a n is =
    with_writing a.answer a.writing status a.status_is
    (its_status laws n old.told a.answer (subst (λ (k : Option Command). IsAnswer k old.told a.answer) is a.cause))
