-- Each row of the table of answers, from the answer of the call.
use Rattle.std.proofs.Common.{◌≡◌, ◌≤◌, arith, ◌≢◌, ◌⊎◌, inl, inr, ℕ, Option, Some, None, refl, sym, ◌∙◌, ap, subst}
use Rattle.sq_port.specs.Ports.{Content, Rose}
use Rattle.sq_driver.specs.declared.outside.status.Status.{Status}
use Rattle.sq_driver.specs.declared.outside.status.Status.TheVariants.{Done, Refused, Trapped, Usage, FileFault, SinkFault, NoMemory, Absent}
use Rattle.sq_tree.specs.Bank.{BankSeen}
use Rattle.sq_words.specs.Words.{Command}
use Rattle.sq_driver.specs.Meaning.{Answer, done, refused, trapped, usage, file_fault, no_memory, absent, IsCause, Means}
use Rattle.sq_driver.specs.Banks.{Writing, whole, cut_out, cut_err}
use Rattle.sq_driver.specs.Outcome.{status_for, err_text, Outside, Puts}
use Rattle.sq_driver.specs.Top.{IsUndisturbed, IsAnswer, BankOf, StatusFor, FilesFor, Answered, IsExplained, IsSaid, IsFree, IsOnly}
use Rattle.sq_driver.proofs.OneAnswer.{one_status}

sink_or_other : (status : Status) → (status ≡ SinkFault) ⊎ (status ≢ SinkFault)
sink_or_other Done = inr (λ e. cc)
sink_or_other Refused = inr (λ e. cc)
sink_or_other Trapped = inr (λ e. cc)
sink_or_other Usage = inr (λ e. cc)
sink_or_other FileFault = inr (λ e. cc)
sink_or_other SinkFault = inl refl
sink_or_other NoMemory = inr (λ e. cc)
sink_or_other Absent = inr (λ e. cc)

-- but with SinkFault the texts were put whole, and the status is the answer's
named : (answer : Answer) (writing : Writing) (status : Status) → StatusFor answer writing status → status ≢ SinkFault
    → (writing ≡ whole) × (status ≡ status_for answer)
named answer whole status is other = (refl, is)
named answer cut_out status is other = absurd (other is)
named answer (cut_err got) status is other = absurd (other is)

-- no answer has the status SinkFault
no_sink_status : (answer : Answer) → status_for answer ≡ SinkFault → ⊥
no_sink_status (done out trace) is = cc
no_sink_status (refused phase its) is = cc
no_sink_status (trapped trap trace) is = cc
no_sink_status usage is = cc
no_sink_status (file_fault phase name) is = cc
no_sink_status no_memory is = cc
no_sink_status (absent phase name) is = cc

rose_sink : (answer : Answer) (writing : Writing) (status : Status) (old now : Outside)
    → StatusFor answer writing status → Puts writing answer (err_text answer) old now → status ≡ SinkFault
    → (Rose old.out_faults now.out_faults × (now.err_faults ≡ old.err_faults))
    ⊎ (Rose old.err_faults now.err_faults × (now.out_faults ≡ old.out_faults))
rose_sink answer whole status old now is puts sink = absurd (no_sink_status answer (sym is ∙ sink))
rose_sink answer cut_out status old now is puts sink = inl (puts.out_faults, puts.err_faults)
rose_sink answer (cut_err got) status old now is puts sink = inr (puts.err_faults, puts.out_faults)

kept_sinks : (answer : Answer) (writing : Writing) (status : Status) (old now : Outside)
    → StatusFor answer writing status → Puts writing answer (err_text answer) old now → status ≢ SinkFault
    → (now.out_faults ≡ old.out_faults) × (now.err_faults ≡ old.err_faults)
kept_sinks answer whole status old now is puts other = (puts.out_faults, puts.err_faults)
kept_sinks answer cut_out status old now is puts other = absurd (other is)
kept_sinks answer (cut_err got) status old now is puts other = absurd (other is)

-- no count of a sink falls
later_sinks : (answer : Answer) (writing : Writing) (old now : Outside) → Puts writing answer (err_text answer) old
    now → (old.out_faults ≤ now.out_faults) × (old.err_faults ≤ now.err_faults)
later_sinks answer whole old now puts = (omega (arith, puts.out_faults), omega (arith, puts.err_faults))
later_sinks answer cut_out old now puts = (puts.out_later, omega (arith, puts.err_faults))
later_sinks answer (cut_err got) old now puts = (omega (arith, puts.out_faults), puts.err_later)

-- the counts of the files, by the answer's status
module _ (f f2 m m2 : ℕ) where
  absent_rose : (answer : Answer) → FilesFor answer f f2 m m2 → status_for answer ≡ Absent → Rose m m2 × (f2 ≡ f)
  absent_rose (done out trace) files is = absurd (let no : Done ≡ Absent = is in cc)
  absent_rose (refused phase its) files is = absurd (let no : Refused ≡ Absent = is in cc)
  absent_rose (trapped trap trace) files is = absurd (let no : Trapped ≡ Absent = is in cc)
  absent_rose usage files is = absurd (let no : Usage ≡ Absent = is in cc)
  absent_rose (file_fault phase name) files is = absurd (let no : FileFault ≡ Absent = is in cc)
  absent_rose no_memory files is = absurd (let no : NoMemory ≡ Absent = is in cc)
  absent_rose (absent phase name) files is = files

  fault_rose : (answer : Answer) → FilesFor answer f f2 m m2 → status_for answer ≡ FileFault → Rose f f2 × (m2 ≡ m)
  fault_rose (done out trace) files is = absurd (let no : Done ≡ FileFault = is in cc)
  fault_rose (refused phase its) files is = absurd (let no : Refused ≡ FileFault = is in cc)
  fault_rose (trapped trap trace) files is = absurd (let no : Trapped ≡ FileFault = is in cc)
  fault_rose usage files is = absurd (let no : Usage ≡ FileFault = is in cc)
  fault_rose (file_fault phase name) files is = files
  fault_rose no_memory files is = absurd (let no : NoMemory ≡ FileFault = is in cc)
  fault_rose (absent phase name) files is = absurd (let no : Absent ≡ FileFault = is in cc)

  kept_files : (answer : Answer) → FilesFor answer f f2 m m2 → IsUndisturbed (status_for answer) → (f2 ≡ f) × (m2 ≡ m)
  kept_files (done out trace) files is = files
  kept_files (refused phase its) files is = files
  kept_files (trapped trap trace) files is = files
  kept_files usage files is = files
  kept_files (file_fault phase name) files is = absurd is
  kept_files no_memory files is = files
  kept_files (absent phase name) files is = absurd is

no_sink : (status : Status) → IsUndisturbed status → status ≢ SinkFault
no_sink status calm is = subst IsUndisturbed is calm

-- a command never answers usage
not_usage : (command : Command) (told : Option Content) (answer : Answer) → Means command told answer
    → status_for answer ≡ Usage → ⊥
not_usage command told (done out trace) means is = cc
not_usage command told (refused phase its) means is = cc
not_usage command told (trapped trap trace) means is = cc
not_usage command told usage means is = means.names
not_usage command told (file_fault phase name) means is = cc
not_usage command told no_memory means is = cc
not_usage command told (absent phase name) means is = cc

is_usage : (command : Option Command) (told : Option Content) (answer : Answer) → IsAnswer command told answer
    → status_for answer ≡ Usage → command ≡ None
is_usage None told answer cause is = refl
is_usage (Some command) told answer cause is = absurd (not_usage command told answer cause is)

kept_bank : (command : Option Command) (told : Option Content) (answer : Answer) (writing : Writing)
    (bank now_bank : BankSeen) → BankOf command told answer writing bank now_bank → status_for answer ≡ NoMemory
    → now_bank ≡ bank
kept_bank None told answer writing bank now_bank after is = after
kept_bank (Some command) told (done out trace) writing bank now_bank after is = absurd
    (let no : Done ≡ NoMemory = is in cc)
kept_bank (Some command) told (refused phase its) writing bank now_bank after is = absurd
    (let no : Refused ≡ NoMemory = is in cc)
kept_bank (Some command) told (trapped trap trace) writing bank now_bank after is = absurd
    (let no : Trapped ≡ NoMemory = is in cc)
kept_bank (Some command) told usage writing bank now_bank after is = after
kept_bank (Some command) told (file_fault phase name) writing bank now_bank after is = absurd
    (let no : FileFault ≡ NoMemory = is in cc)
kept_bank (Some command) told no_memory writing bank now_bank after is = after
kept_bank (Some command) told (absent phase name) writing bank now_bank after is = absurd
    (let no : Absent ≡ NoMemory = is in cc)

explained_by : (command : Command) (c : Content) (answer : Answer) (status : Status) → IsCause command c answer
    → status ≡ status_for answer → status ≢ FileFault → (status ≡ NoMemory)
    ⊎ ((that : Answer) × IsSaid that × IsCause command c that × (status ≡ status_for that))
explained_by command c (done out trace) status cause is other = inr (done out trace, tt, cause, is)
explained_by command c (refused phase its) status cause is other = inr (refused phase its, tt, cause, is)
explained_by command c (trapped trap trace) status cause is other = inr (trapped trap trace, tt, cause, is)
explained_by command c usage status cause is other = absurd cause
explained_by command c (file_fault phase name) status cause is other = absurd (other is)
explained_by command c no_memory status cause is other = inl is
explained_by command c (absent phase name) status cause is other = inr (absent phase name, tt, cause, is)

explained : (command : Option Command) (told : Option Content) (answer : Answer) (status : Status)
    → IsAnswer command told answer → status ≡ status_for answer → status ≢ FileFault → IsExplained command told status
explained None told answer status cause is other = is ∙ ap status_for cause
explained (Some command) told answer status cause is other = λ c at. explained_by command c answer status
    (cause.cause c at) is other

only_said : (command : Command) (c : Content) (answer that : Answer) (status : Status) → IsCause command c answer
    → status ≡ status_for answer → IsSaid that → IsCause command c that → (status ≡ status_for that) ⊎ IsFree status
only_said command c (done out trace) that status cause is said meant = inl
    (is ∙ one_status command c (done out trace) that tt said cause meant)
only_said command c (refused phase its) that status cause is said meant = inl
    (is ∙ one_status command c (refused phase its) that tt said cause meant)
only_said command c (trapped trap trace) that status cause is said meant = inl
    (is ∙ one_status command c (trapped trap trace) that tt said cause meant)
only_said command c usage that status cause is said meant = absurd cause
only_said command c (file_fault phase name) that status cause is said meant = inr (subst IsFree (sym is) tt)
only_said command c no_memory that status cause is said meant = inr (subst IsFree (sym is) tt)
only_said command c (absent phase name) that status cause is said meant = inl
    (is ∙ one_status command c (absent phase name) that tt said cause meant)

only_answer : (command : Option Command) (told : Option Content) (answer : Answer) (status : Status)
    → IsAnswer command told answer → status ≡ status_for answer → IsOnly command told status
only_answer None told answer status cause is = tt
only_answer (Some command) told answer status cause is = λ c at that said meant. only_said command c answer that
    status (cause.cause c at) is said meant

only_free : (command : Option Command) (told : Option Content) (status : Status) → IsFree status
    → IsOnly command told status
only_free None told status free = tt
only_free (Some command) told status free = λ c at that said meant. inr free

module _ {command : Option Command} {old now : Outside} {f f2 m m2 : ℕ} {status : Status}
    (answered : Answered command old now f f2 m m2 status) where
  its_status : status ≢ SinkFault → status ≡ status_for answered.answer
  its_status other = (named answered.answer answered.writing status answered.status_is other).1

  pub usage_row : status ≡ Usage → command ≡ None
  usage_row is = is_usage command old.told answered.answer answered.cause
      (sym (its_status (λ sink. let both = sym is ∙ sink in cc)) ∙ is)

  pub no_command_row : command ≡ None → (status ≡ Usage) ⊎ (status ≡ SinkFault)
  no_command_row none = elim (sink_or_other status) [
    | inl sink ↦ inr sink
    | inr other ↦ inl (its_status other
        ∙ ap status_for (subst (λ (k : Option Command). IsAnswer k old.told answered.answer) none answered.cause))
  ]

  pub absent_row : status ≡ Absent → Rose m m2 × (f2 ≡ f)
  absent_row is = absent_rose f f2 m m2 answered.answer answered.files
      (sym (its_status (λ sink. let both = sym is ∙ sink in cc)) ∙ is)

  pub file_fault_row : status ≡ FileFault → Rose f f2 × (m2 ≡ m)
  file_fault_row is = fault_rose f f2 m m2 answered.answer answered.files
      (sym (its_status (λ sink. let both = sym is ∙ sink in cc)) ∙ is)

  pub sink_fault_row : status ≡ SinkFault → (Rose old.out_faults now.out_faults × (now.err_faults ≡ old.err_faults))
      ⊎ (Rose old.err_faults now.err_faults × (now.out_faults ≡ old.out_faults))
  sink_fault_row sink = rose_sink answered.answer answered.writing status old now answered.status_is answered.puts sink

  pub no_sink_fault_row : status ≢ SinkFault → (now.out_faults ≡ old.out_faults) × (now.err_faults ≡ old.err_faults)
  no_sink_fault_row other = kept_sinks answered.answer answered.writing status old now answered.status_is
      answered.puts other

  pub later_row : (old.out_faults ≤ now.out_faults) × (old.err_faults ≤ now.err_faults)
  later_row = later_sinks answered.answer answered.writing old now answered.puts

  pub undisturbed_row : IsUndisturbed status → (f2 ≡ f) × (m2 ≡ m)
  undisturbed_row calm = kept_files f f2 m m2 answered.answer answered.files
      (subst IsUndisturbed (its_status (no_sink status calm)) calm)

  pub no_memory_row : status ≡ NoMemory → now.bank ≡ old.bank
  no_memory_row is = kept_bank command old.told answered.answer answered.writing old.bank now.bank answered.bank_after
      (sym (its_status (λ sink. let both = sym is ∙ sink in cc)) ∙ is)

  pub complete_row : status ≢ FileFault → status ≢ SinkFault → IsExplained command old.told status
  complete_row no_fault no_sinks = explained command old.told answered.answer status answered.cause
      (its_status no_sinks) no_fault

  pub only_row : IsOnly command old.told status
  only_row = elim (sink_or_other status) [
    | inl sink ↦ only_free command old.told status (subst IsFree (sym sink) tt)
    | inr other ↦ only_answer command old.told answered.answer status answered.cause (its_status other)
  ]
