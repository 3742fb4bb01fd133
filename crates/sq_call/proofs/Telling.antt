-- What the top call answers over files that no read of fails and sinks that begin empty, as it is said.
use Rattle.std.specs.Prelude.{Bool, true, false, if◌then◌else◌}
use Rattle.std.proofs.Common.{◌≡◌, ◌≢◌, ◌⊎◌, inl, inr, ⊎_elim, ◌≤◌, ℕ, List, [], ◌++◌, Option, Some, None, refl, sym, ◌∙◌, ap, subst, arith}
use Rattle.sq_port.specs.Ports.{Content, Rose, Gains, GainsPrefix}
use Rattle.sq_tree.specs.Bank.{BankSeen}
use Rattle.sq_words.specs.Words.{Command, command_of}
use Rattle.sq_driver.specs.declared.outside.status.Status.{Status}
use Rattle.sq_driver.specs.declared.outside.status.Status.TheVariants.{Done, Refused, Trapped, Usage, FileFault, SinkFault, NoMemory, Absent}
use Rattle.sq_driver.specs.Texts.{usage_line}
use Rattle.sq_driver.specs.Meaning.{Answer, done, refused, trapped, usage, file_fault, no_memory, absent, IsCause, Means}
use Rattle.sq_driver.specs.Banks.{Writing, whole, cut_out, cut_err}
use Rattle.sq_driver.specs.Outcome.{status_for, out_text, err_text, Outside, Puts}
use Rattle.sq_driver.specs.Top.{IsAnswer, BankOf, StatusFor, FilesFor, Answered, IsSaid, IsFree, IsOnly, IsDemoDone}
use Rattle.sq_call.specs.Given.{are_texts, command_in}
use Rattle.sq_call.specs.Saying.{IsCauseIn, fresh_bank, Tells, Lacks, Says, SaysOnly, Called, NamesNone, number_of, Numbered, status_said, text_said}

no_fault : Rose 0 0 → ⊥
no_fault rose = let more : 1 ≤ 0 = rose in omega (arith, more)

some_same : {A : Type 0} {x y : A} → Some x ≡ Some y → x ≡ y
some_same is = cc

-- a sink that was empty holds what it gained
held : {old now : Option (List ℕ)} {got text : List ℕ} → old ≡ Some [] → now ≡ Some got → Gains old now text → got ≡ text
held {old} {now} {got} {text} none some gains =
    let one : now ≡ Some text = gains.told [] none in some_same (sym some ∙ one)

-- ---- an answer whose texts were put whole

-- such an answer is said as it is
record Plain (answer : Answer) : Type 0 where
  status : status_said (status_for answer) ≡ status_for answer
  text : (t : List ℕ) → text_said (status_for answer) t ≡ t

usage_plain : {answer : Answer} → answer ≡ usage → Plain answer
usage_plain is = subst (λ (a : Answer). Plain a) (sym is) (record { status = refl; text = λ t. refl })

-- the texts of an answer, the bank behind it, and its status
record Put (command : Option Command) (c : Content) (answer : Answer) (status : Status) (out err : List ℕ) : Type 0
  where
    status_is : status ≡ status_for answer
    out_is : out ≡ out_text answer
    err_is : err ≡ err_text answer
    bank : BankSeen
    bank_after : BankOf command (Some c) answer whole fresh_bank bank

module _ (c : Content) (status : Status) (out err : List ℕ) where
  tell : (command : Option Command) (answer : Answer) → IsCauseIn command c answer → Plain answer
      → Put command c answer status out err
      → Says command c (status_said status) (text_said status out) (text_said status err)
  tell command answer cause plain put = inl (record {
    answer = answer;
    cause = cause;
    status_is = ap status_said put.status_is ∙ plain.status;
    out_is = ap (λ s. text_said s out) put.status_is ∙ plain.text out ∙ put.out_is;
    err_is = ap (λ s. text_said s err) put.status_is ∙ plain.text err ∙ put.err_is;
    bank = put.bank;
    bank_after = put.bank_after;
  })

  -- an answer with its cause, whose texts were put whole, is told, or memory was wanting
  said_whole : (command : Option Command) (answer : Answer) (m m2 : ℕ) → IsAnswer command (Some c) answer
      → FilesFor answer 0 0 m m2 → Put command c answer status out err
      → Says command c (status_said status) (text_said status out) (text_said status err)
  said_whole None answer m m2 is files put = tell None answer is (usage_plain is) put
  said_whole (Some k) (done o t) m m2 means files put =
      tell (Some k) (done o t) (tt, means.cause c (inl refl)) (record { status = refl; text = λ x. refl }) put
  said_whole (Some k) (refused p its) m m2 means files put =
      tell (Some k) (refused p its) (tt, means.cause c (inl refl)) (record { status = refl; text = λ x. refl }) put
  said_whole (Some k) (trapped trap t) m m2 means files put =
      tell (Some k) (trapped trap t) (tt, means.cause c (inl refl)) (record { status = refl; text = λ x. refl }) put
  said_whole (Some k) usage m m2 means files put = absurd means.names
  said_whole (Some k) (file_fault p name) m m2 means files put = absurd (no_fault files.0)
  said_whole (Some k) no_memory m m2 means files put = inr (record {
    status_is = ap status_said put.status_is;
    out_is = ap (λ s. text_said s out) put.status_is;
    err_is = ap (λ s. text_said s err) put.status_is;
  })
  said_whole (Some k) (absent p name) m m2 means files put =
      tell (Some k) (absent p name) (tt, means.cause c (inl refl)) (record { status = refl; text = λ x. refl }) put

  -- a put failed
  said_cut : (command : Option Command) → status ≡ SinkFault
      → Says command c (status_said status) (text_said status out) (text_said status err)
  said_cut command is = inr (record {
    status_is = ap status_said is;
    out_is = ap (λ s. text_said s out) is;
    err_is = ap (λ s. text_said s err) is;
  })

-- what was outside before the call, and what is behind it
pub record Round (c : Content) (old now : Outside) (out err : List ℕ) : Type 0 where
  pub told : old.told ≡ Some c
  pub out_none : old.out ≡ Some []
  pub err_none : old.err ≡ Some []
  pub bank : old.bank ≡ fresh_bank
  pub out_some : now.out ≡ Some out
  pub err_some : now.err ≡ Some err

-- by how the texts were put
said_put : {command : Option Command} {c : Content} {old now : Outside} {out err : List ℕ} (status : Status) (m m2 : ℕ)
    → Round c old now out err → (answer : Answer) (writing : Writing) → IsAnswer command (Some c) answer
    → StatusFor answer writing status → Puts writing answer (err_text answer) old now → FilesFor answer 0 0 m m2
    → BankOf command (Some c) answer writing fresh_bank now.bank
    → Says command c (status_said status) (text_said status out) (text_said status err)
said_put {command} {c} {old} {now} {out} {err} status m m2 round answer whole cause is puts files after =
    said_whole c status out err command answer m m2 cause files (record {
      status_is = is;
      out_is = held round.out_none round.out_some puts.out;
      err_is = held round.err_none round.err_some puts.err;
      bank = now.bank;
      bank_after = after;
    })
said_put {command} {c} {old} {now} {out} {err} status m m2 round answer cut_out cause is puts files after =
    said_cut c status out err command is
said_put {command} {c} {old} {now} {out} {err} status m m2 round answer (cut_err got) cause is puts files after =
    said_cut c status out err command is

said_by : {command : Option Command} {c : Content} {old now : Outside} {status : Status} {out err : List ℕ} {m m2 : ℕ}
    → Round c old now out err → Answered command old now 0 0 m m2 status
    → Says command c (status_said status) (text_said status out) (text_said status err)
said_by {command} {c} {old} {now} {status} {out} {err} {m} {m2} round a =
    said_put status m m2 round a.answer a.writing
    (subst (λ (t : Option Content). IsAnswer command t a.answer) round.told a.cause) a.status_is a.puts a.files
    (subst (λ (t : Option Content). BankOf command t a.answer a.writing fresh_bank now.bank) round.told
    (subst (λ (b : BankSeen). BankOf command old.told a.answer a.writing b now.bank) round.bank a.bank_after))

-- ---- nothing else is said

said_plain : (answer : Answer) → IsSaid answer → status_said (status_for answer) ≡ status_for answer
said_plain (done o t) is = refl
said_plain (refused p its) is = refl
said_plain (trapped trap t) is = refl
said_plain usage is = absurd is
said_plain (file_fault p name) is = absurd is
said_plain no_memory is = absurd is
said_plain (absent p name) is = refl

free_said : (status : Status) → status ≢ FileFault → IsFree status → status_said status ≡ NoMemory
free_said Done other is = absurd is
free_said Refused other is = absurd is
free_said Trapped other is = absurd is
free_said Usage other is = absurd is
free_said FileFault other is = absurd (other refl)
free_said SinkFault other is = refl
free_said NoMemory other is = refl
free_said Absent other is = absurd is

only_said : (command : Option Command) (c : Content) (status : Status) → status ≢ FileFault
    → (command ≡ None → (status ≡ Usage) ⊎ (status ≡ SinkFault)) → IsOnly command (Some c) status
    → SaysOnly command c (status_said status)
only_said None c status other none only =
    ⊎_elim (λ is. inl (ap status_said is)) (λ is. inr (ap status_said is)) (none refl)
only_said (Some k) c status other none only = λ answer said cause.
    ⊎_elim (λ is. inl (ap status_said is ∙ said_plain answer said)) (λ free. inr (free_said status other free))
    (only c (inl refl) answer said cause)

demo_said : (command : Option Command) (status : Status) → IsDemoDone command status
    → IsDemoDone command (status_said status)
demo_said command status demo n is =
    ⊎_elim (λ e. inl (ap status_said e))
    (λ other. inr (inl (⊎_elim (λ e. ap status_said e) (λ e. ap status_said e) other))) (demo n is)

-- ---- all that a call says

pub called_of : {command : Option Command} {c : Content} {old now : Outside} {status : Status} {out err : List ℕ} {m m2 : ℕ}
    → Round c old now out err → Answered command old now 0 0 m m2 status
    → (status ≡ FileFault → Rose 0 0) → (command ≡ None → (status ≡ Usage) ⊎ (status ≡ SinkFault))
    → IsOnly command old.told status → IsDemoDone command status
    → Called command c (status_said status) (text_said status out) (text_said status err)
called_of {command} {c} {old} {now} {status} round answered fault none only demo = record {
  says = said_by round answered;
  only = only_said command c status (λ is. no_fault (fault is)) none
      (subst (λ (t : Option Content). IsOnly command t status) round.told only);
  demo = demo_said command status demo;
}

-- words that are no command
module _ (c : Content) (old now : Option (List ℕ)) (err : List ℕ) (none : old ≡ Some []) (some : now ≡ Some err) where
  put_usage : (status : Status) → (status ≡ Usage) × Gains old now usage_line → Called None c (status_said status)
      (text_said status []) (text_said status err)
  put_usage status usage_is = record {
    says = tell c status [] err None usage refl (usage_plain refl) (record {
      status_is = usage_is.0;
      out_is = refl;
      err_is = held none some usage_is.1;
      bank = fresh_bank;
      bank_after = refl;
    });
    only = inl (ap status_said usage_is.0);
    demo = λ n is. absurd (cc);
  }

  cut_usage : (status : Status) → status ≡ SinkFault → Called None c (status_said status) (text_said status [])
      (text_said status err)
  cut_usage status is = record {
    says = said_cut c status [] err None is;
    only = inr (ap status_said is);
    demo = λ n never. absurd (cc);
  }

  refused_of_status : (status : Status) → (status ≢ SinkFault → (status ≡ Usage) × Gains old now usage_line)
      → Called None c (status_said status) (text_said status []) (text_said status err)
  refused_of_status SinkFault usage_is = cut_usage SinkFault refl
  refused_of_status Done usage_is = put_usage Done (usage_is (λ e. cc))
  refused_of_status Refused usage_is = put_usage Refused (usage_is (λ e. cc))
  refused_of_status Trapped usage_is = put_usage Trapped (usage_is (λ e. cc))
  refused_of_status Usage usage_is = put_usage Usage (usage_is (λ e. cc))
  refused_of_status FileFault usage_is = put_usage FileFault (usage_is (λ e. cc))
  refused_of_status NoMemory usage_is = put_usage NoMemory (usage_is (λ e. cc))
  refused_of_status Absent usage_is = put_usage Absent (usage_is (λ e. cc))

pub refused_of : {c : Content} {old now : Option (List ℕ)} {status : Status} {err : List ℕ} → old ≡ Some []
    → now ≡ Some err → (status ≢ SinkFault → (status ≡ Usage) × Gains old now usage_line)
    → Called None c (status_said status) (text_said status []) (text_said status err)
refused_of {c} {old} {now} {status} {err} none some usage_is =
    refused_of_status c old now err none some status usage_is

-- for want of memory
pub lacking : {command : Option Command} {c : Content} {status : Status} {out err : List ℕ} → Lacks status out err
    → Called command c status out err
lacking {command} {c} {status} lacks =
    record { says = inr lacks; only = only_for command; demo = λ n is. inr (inl lacks.status_is) } where
      only_for : (k : Option Command) → SaysOnly k c status
      only_for None = inr lacks.status_is
      only_for (Some k) = λ answer said cause. inr lacks.status_is

-- ---- the same of equal words and texts

pub as_said : {command : Option Command} {c : Content} {s s2 : Status} {o o2 e e2 : List ℕ} → s ≡ s2 → o ≡ o2 → e ≡ e2
    → Called command c s2 o2 e2 → Called command c s o e
as_said {command} {c} {s} {s2} {o} {o2} {e} {e2} is outs errs called =
    subst (λ (x : Status). Called command c x o e) (sym is)
    (subst (λ (x : List ℕ). Called command c s2 x e) (sym outs)
    (subst (λ (x : List ℕ). Called command c s2 o2 x) (sym errs) called))

for_command : {command its : Option Command} {c : Content} {status : Status} {out err : List ℕ} → command ≡ its
    → Called its c status out err → Called command c status out err
for_command {command} {its} {c} {status} {out} {err} is called =
    subst (λ (k : Option Command). Called k c status out err) (sym is) called

pub for_texts : {given words : List (List ℕ)} {c : Content} {status : Status} {out err : List ℕ}
    → are_texts given ≡ true → words ≡ given → Called (command_of words) c status out err
    → Called (command_in given) c status out err
for_texts {given} {words} are same called =
    for_command (ap (λ b. if b then command_of given else None) are ∙ ap command_of (sym same)) called

pub for_no_texts : (given : List (List ℕ)) {c : Content} {status : Status} {out err : List ℕ} → are_texts given ≡ false
    → Called None c status out err → Called (command_in given) c status out err
for_no_texts given none called = for_command (ap (λ b. if b then command_of given else None) none) called

-- ---- what no call says

told_status : (command : Option Command) (c : Content) (answer : Answer) → IsCauseIn command c answer
    → (status_for answer ≢ FileFault) × (status_for answer ≢ SinkFault)
told_status None c answer is = subst (λ (a : Answer). (status_for a ≢ FileFault) × (status_for a ≢ SinkFault)) (sym is)
    ((λ e. cc), (λ e. cc))
told_status (Some k) c (done o t) cause = ((λ e. cc), (λ e. cc))
told_status (Some k) c (refused p its) cause = ((λ e. cc), (λ e. cc))
told_status (Some k) c (trapped trap t) cause = ((λ e. cc), (λ e. cc))
told_status (Some k) c usage cause = absurd cause.0
told_status (Some k) c (file_fault p name) cause = absurd cause.0
told_status (Some k) c no_memory cause = absurd cause.0
told_status (Some k) c (absent p name) cause = ((λ e. cc), (λ e. cc))

pub no_file_fault : {command : Option Command} {c : Content} {status : Status} {out err : List ℕ}
    → Says command c status out err → status ≢ FileFault
no_file_fault {command} {c} (inl tells) = λ is.
    (told_status command c tells.answer tells.cause).0 (sym tells.status_is ∙ is)
no_file_fault (inr lacks) = λ is. let never : NoMemory ≡ FileFault = sym lacks.status_is ∙ is in cc

pub no_sink_fault : {command : Option Command} {c : Content} {status : Status} {out err : List ℕ}
    → Says command c status out err → status ≢ SinkFault
no_sink_fault {command} {c} (inl tells) = λ is.
    (told_status command c tells.answer tells.cause).1 (sym tells.status_is ∙ is)
no_sink_fault (inr lacks) = λ is. let never : NoMemory ≡ SinkFault = sym lacks.status_is ∙ is in cc

named : (command : Option Command) (c : Content) (answer : Answer) → IsCauseIn command c answer
    → status_for answer ≡ Absent → NamesNone command c
named None c answer is e = absurd (let never : Usage ≡ Absent = sym (ap status_for is) ∙ e in cc)
named (Some k) c (done o t) cause e = absurd (cc)
named (Some k) c (refused p its) cause e = absurd (cc)
named (Some k) c (trapped trap t) cause e = absurd (cc)
named (Some k) c usage cause e = absurd cause.0
named (Some k) c (file_fault p name) cause e = absurd cause.0
named (Some k) c no_memory cause e = absurd cause.0
named (Some k) c (absent p name) cause e =
    record { its = k; is = refl; phase = p; name = name; file = cause.1.0; none = cause.1.2 }

pub names_none : {command : Option Command} {c : Content} {status : Status} {out err : List ℕ}
    → Says command c status out err → status ≡ Absent → NamesNone command c
names_none {command} {c} (inl tells) is = named command c tells.answer tells.cause (sym tells.status_is ∙ is)
names_none (inr lacks) is = absurd (let never : NoMemory ≡ Absent = sym lacks.status_is ∙ is in cc)

-- ---- the same of numbers

four_is : (status : Status) → number_of status ≡ 4 → status ≡ FileFault
four_is Done is = absurd (omega (arith, is))
four_is Refused is = absurd (omega (arith, is))
four_is Trapped is = absurd (omega (arith, is))
four_is Usage is = absurd (omega (arith, is))
four_is FileFault is = refl
four_is SinkFault is = absurd (omega (arith, is))
four_is NoMemory is = absurd (omega (arith, is))
four_is Absent is = absurd (omega (arith, is))

five_is : (status : Status) → number_of status ≡ 5 → status ≡ SinkFault
five_is Done is = absurd (omega (arith, is))
five_is Refused is = absurd (omega (arith, is))
five_is Trapped is = absurd (omega (arith, is))
five_is Usage is = absurd (omega (arith, is))
five_is FileFault is = absurd (omega (arith, is))
five_is SinkFault is = refl
five_is NoMemory is = absurd (omega (arith, is))
five_is Absent is = absurd (omega (arith, is))

seven_is : (status : Status) → number_of status ≡ 7 → status ≡ Absent
seven_is Done is = absurd (omega (arith, is))
seven_is Refused is = absurd (omega (arith, is))
seven_is Trapped is = absurd (omega (arith, is))
seven_is Usage is = absurd (omega (arith, is))
seven_is FileFault is = absurd (omega (arith, is))
seven_is SinkFault is = absurd (omega (arith, is))
seven_is NoMemory is = absurd (omega (arith, is))
seven_is Absent is = refl

module _ {command : Option Command} {c : Content} {number : ℕ} {out err : List ℕ}
    (its : Numbered command c number out err) where
  pub not_four : number ≢ 4
  not_four is = no_file_fault its.called.says (four_is its.status (sym its.number_is ∙ is))

  pub not_five : number ≢ 5
  not_five is = no_sink_fault its.called.says (five_is its.status (sym its.number_is ∙ is))

  pub seven_names_none : number ≡ 7 → NamesNone command c
  seven_names_none is = names_none its.called.says (seven_is its.status (sym its.number_is ∙ is))
